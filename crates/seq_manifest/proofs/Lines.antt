-- What a line that is taken says.
use Rattle.std.proofs.Common.{◌≡◌, ℕ, Bool, true, false, ◌&&◌, cond, ◌⊎◌, inl, inr, Option, Some, None, Result, Ok, Err, List, [], ◌∷◌, ◌++◌, refl, ap, subst, ◌∙◌}
use Rattle.std.specs.Option.{option_map}
use Rattle.std.specs.Prelude.{codes, OnOk}
use Rattle.std.specs.Str.{bytes_eq}
use Rattle.std.proofs.lemmas.Bool.{and_parts}
use Rattle.seq_text.specs.Numbers.{number_of}
use Rattle.seq_manifest.specs.declared.heading.Heading.{Heading}
use Rattle.seq_manifest.specs.Statements.{Statement, heading, segment, process, is_passed_over, heading_named, heading_said, is_file, list_of, lists_said, first_line_said, segment_said, process_said, said}
use Rattle.seq_manifest.specs.Faults.{rule_of, line_rule, with_said, with_line}
use Rattle.seq_manifest.specs.Kept.{Kept, kept}

-- the names in a statement are those of files
abbrev pub IsForm : Statement → Type 0
IsForm (heading h n) = Unit {0}
IsForm (segment size file) = (file ≡ []) ⊎ (is_file file ≡ true)
IsForm (process file lines segments) = is_file file ≡ true

abbrev pub IsFormIfSome : Option Statement → Type 0
IsFormIfSome None = Unit {0}
IsFormIfSome (Some s) = IsForm s

guarded : (t : Bool) (o : Option Statement) → (t ≡ true → IsFormIfSome o) → IsFormIfSome (cond t o None)
guarded true o h = h refl
guarded false o h = tt

lists_form : (file : List ℕ) (a b : Option (List ℕ)) → is_file file ≡ true → IsFormIfSome (lists_said file a b)
lists_form file None b e = tt
lists_form file (Some ls) None e = tt
lists_form file (Some ls) (Some ss) e = e

process_form : (file : List ℕ) (words : List (List ℕ)) → IsFormIfSome (process_said file words)
unfolding process_said
process_form file [] = tt
process_form file (a ∷ []) = tt
process_form file (a ∷ b ∷ []) = tt
process_form file (a ∷ b ∷ c ∷ []) = tt
process_form file (a ∷ b ∷ c ∷ d ∷ []) = guarded (is_file file && bytes_eq a (codes "lines") && bytes_eq c (codes "segments")) (lists_said file (list_of b) (list_of d)) (λ t. lists_form file (list_of b) (list_of d) (and_parts _ _ (and_parts _ _ t).0).0)
process_form file (a ∷ b ∷ c ∷ d ∷ e ∷ words) = tt

segment_form : (o : Option ℕ) (file : List ℕ) → (file ≡ []) ⊎ (is_file file ≡ true) → IsFormIfSome (option_map (λ n. segment n file) o)
segment_form None file h = tt
segment_form (Some n) file h = h

segments_form : (size : List ℕ) (words : List (List ℕ)) → IsFormIfSome (segment_said size words)
unfolding segment_said
segments_form size [] = segment_form (number_of size) [] (inl refl)
segments_form size (file ∷ []) = guarded (is_file file) (option_map (λ n. segment n file) (number_of size)) (λ t. segment_form (number_of size) file (inr t))
segments_form size (file ∷ word ∷ words) = tt

heading_form : (h : Option Heading) (o : Option ℕ) → IsFormIfSome (heading_said h o)
heading_form None o = tt
heading_form (Some h) None = tt
heading_form (Some h) (Some n) = tt

first_line_form : (key number : List ℕ) (words : List (List ℕ)) → IsFormIfSome (first_line_said key number words)
unfolding first_line_said
first_line_form key number [] = heading_form (heading_named key) (number_of number)
first_line_form key number (word ∷ words) = tt

either_form : (t : Bool) (a b : Option Statement) → IsFormIfSome a → IsFormIfSome b → IsFormIfSome (cond t a b)
either_form true a b f g = f
either_form false a b f g = g

said_form : (words : List (List ℕ)) → IsFormIfSome (said words)
unfolding said
said_form [] = tt
said_form (key ∷ []) = tt
said_form (key ∷ word ∷ words) = either_form (bytes_eq key (codes "process")) _ _ (process_form word words) (either_form (bytes_eq key (codes "segment")) _ _ (segments_form word words) (first_line_form key word words))

pub IsForm-said : (words : List (List ℕ)) (s : Statement) → said words ≡ Some s → IsForm s
IsForm-said words s e = subst IsFormIfSome e (said_form words)

-- a statement that is kept is one that is said
pub kept_some : (o : Option Statement) (k : Kept) → Some k ≡ option_map kept o → (s : Statement) × (o ≡ Some s) × (k ≡ kept s)
kept_some None k e = absurd cc
kept_some (Some s) k e = (s, refl, cc)

pub line_rule-said : (before : List Statement) (words ws : List (List ℕ)) (o : Option Statement) → words ≡ ws → is_passed_over ws ≡ false → said ws ≡ o → line_rule before words ≡ rule_of before o
line_rule-said before words ws o e f g = ap (line_rule before) e ∙ rw f (ap (rule_of before) g)

pub with_line-said : (before : List Statement) (words ws : List (List ℕ)) (s : Statement) → words ≡ ws → is_passed_over ws ≡ false → said ws ≡ Some s → with_line before words ≡ before ++ s ∷ []
with_line-said before words ws s e f g = ap (with_line before) e ∙ rw f (ap (with_said before) g)

pub line_rule-passed : (before : List Statement) (words ws : List (List ℕ)) → words ≡ ws → is_passed_over ws ≡ true → line_rule before words ≡ None
line_rule-passed before words ws e f = ap (line_rule before) e ∙ rw f refl

pub with_line-passed : (before : List Statement) (words ws : List (List ℕ)) → words ≡ ws → is_passed_over ws ≡ true → with_line before words ≡ before
with_line-passed before words ws e f = ap (with_line before) e ∙ rw f refl

pub on_ok_both : {T E A B C : Type 0} (r : Result T E) → OnOk r A → OnOk r B → (A → B → C) → OnOk r C
on_ok_both (Ok x) a b f = f a b
on_ok_both (Err e) a b f = tt
