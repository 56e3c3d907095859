-- Where a text is cut into lines, and a line into words.
use Rattle.std.proofs.Common.{◌≡◌, ℕ, zero, suc, ◌+◌, ◌-◌, ◌<◌, ◌≤◌, Bool, true, false, not, cond, ltb, eqb, List, [], ◌∷◌, ◌++◌, length, take, drop, get_or, Option, Some, None, All, unwrap_or, refl, sym, ap, subst, ◌∙◌, arith}
use Rattle.std.specs.List.{filter, slice_split, position, position_or_len}
use Rattle.std.specs.Str.Lines.{lines_of_parts, strip_carriage_return}
use Rattle.std.proofs.lemmas.Bool.{ltb-true, ltb-false, lt-ltb, ne_eqb, not-false, not-true, both_ways}
use Rattle.std.proofs.lemmas.List.{take-append-drop, length-take, length-drop, get_or-take, get_or-drop, append-nil, drop_more, drop_all, take_all}
use Rattle.std.proofs.lemmas.List.Splits.{slice_split-cons_yes, slice_split_none, slice_split_first, length-slice_split}
use Rattle.std.proofs.lemmas.List.Sums.{fails_before_first, passes_at_first}
use Rattle.seq_text.specs.Cuts.{parts_behind}
use Rattle.seq_text.specs.Lines.{lines_of}
use Rattle.seq_text.specs.Words.{is_blank, words_of}

chosen_some : (b : Bool) (m n : ℕ) → cond b (Some m) None ≡ Some n → (b ≡ true) × (m ≡ n)
chosen_some true m n e = (refl, cc)
chosen_some false m n e = absurd cc

chosen_none : (b : Bool) (m : ℕ) → cond b (Some m) None ≡ None → b ≡ false
chosen_none true m e = absurd cc
chosen_none false m e = refl

-- what `position` says of the first place
position_some : (p : ℕ → Bool) (xs : List ℕ) (n : ℕ) → position p xs ≡ Some n → (position_or_len p xs ≡ n) × (n < length xs)
position_some p xs n e =
    let c = chosen_some (ltb (position_or_len p xs) (length xs)) (position_or_len p xs) n e in
    let lt : position_or_len p xs < length xs = ltb-true _ _ c.0 in
    let at : position_or_len p xs ≡ n = c.1 in
    (at, omega arith)

position_none : (p : ℕ → Bool) (xs : List ℕ) → position p xs ≡ None → length xs ≤ position_or_len p xs
position_none p xs e = ltb-false _ _ (chosen_none _ _ e)

-- ---- lines

parts_more : (x : List ℕ) (parts : List (List ℕ)) → 0 < length parts → lines_of_parts (x ∷ parts) ≡ strip_carriage_return x ∷ lines_of_parts parts
parts_more x [] h = absurd (omega arith)
parts_more x (y ∷ more) h = refl

pub lines_of-more : (text front rest : List ℕ) → slice_split (λ b. eqb b 10) text ≡ front ∷ slice_split (λ b. eqb b 10) rest → lines_of text ≡ strip_carriage_return front ∷ lines_of rest
unfolding lines_of
lines_of-more text front rest cut =
    let many : 0 < length (slice_split (λ b. eqb b 10) rest) = omega (arith, length-slice_split (λ b. eqb b 10) rest) in
    ap lines_of_parts cut ∙ parts_more front (slice_split (λ b. eqb b 10) rest) many

pub lines_of-last : (text last : List ℕ) → 0 < length text → last ≡ text → slice_split (λ b. eqb b 10) text ≡ last ∷ [] → lines_of text ≡ last ∷ lines_of []
unfolding lines_of
lines_of-last text last some same cut =
    let ne : eqb (length last) 0 ≡ false = ne_eqb _ _ (λ z. absurd (let len = ap length same in omega (arith, some, len, z))) in
    ap lines_of_parts cut ∙ rw ne refl

-- ---- parts

pub parts-none : (byte : ℕ) (text : List ℕ) → position (λ b. eqb b byte) text ≡ None → slice_split (λ b. eqb b byte) text ≡ text ∷ parts_behind byte None
parts-none byte text e =
    let le = position_none (λ b. eqb b byte) text e in
    slice_split_none (λ b. eqb b byte) text (λ k d lt. fails_before_first (λ b. eqb b byte) text k d (omega (arith, le, lt)))

pub parts-some : (byte : ℕ) (text part rest : List ℕ) (end : ℕ) → position (λ b. eqb b byte) text ≡ Some end → part ≡ take end text → rest ≡ drop (end + 1) text → slice_split (λ b. eqb b byte) text ≡ part ∷ parts_behind byte (Some rest)
parts-some byte text part rest end e p r =
    let at = position_some (λ b. eqb b byte) text end e in
    let lt : position_or_len (λ b. eqb b byte) text < length text = omega (arith, at.0, at.1) in
    let cut = slice_split_first (λ b. eqb b byte) text 0 lt in
    let there : slice_split (λ b. eqb b byte) text ≡ take end text ∷ slice_split (λ b. eqb b byte) (drop (end + 1) text) = subst (λ n. slice_split (λ b. eqb b byte) text ≡ take n text ∷ slice_split (λ b. eqb b byte) (drop (n + 1) text)) at.0 cut in
    there ∙ both (take end text) part (drop (end + 1) text) rest p r
  where
    both : (a part b rest : List ℕ) → part ≡ a → rest ≡ b → a ∷ slice_split (λ c. eqb c byte) b ≡ part ∷ parts_behind byte (Some rest)
    both a part b rest p r = cc

-- ---- words

words_of-blank : (byte : ℕ) (rest : List ℕ) → is_blank byte ≡ true → words_of (byte ∷ rest) ≡ words_of rest
unfolding words_of
words_of-blank byte rest e = ap (filter (λ part. ltb 0 (length part))) (slice_split-cons_yes is_blank byte rest e)

words_of-blanks : (blanks rest : List ℕ) → All (λ byte. is_blank byte ≡ true) blanks → words_of (blanks ++ rest) ≡ words_of rest
words_of-blanks [] rest h = refl
words_of-blanks (b ∷ blanks) rest h = words_of-blank b (blanks ++ rest) (h 0 b (omega arith)) ∙ words_of-blanks blanks rest (λ k d lt. h (suc k) d (omega arith))

pub words_of-nil : words_of [] ≡ []
unfolding words_of
words_of-nil = refl

pub words_of-skip : (line : List ℕ) (start : ℕ) → position (λ byte. not (is_blank byte)) line ≡ Some start → words_of line ≡ words_of (drop start line)
words_of-skip line start e =
    let p = position_some (λ byte. not (is_blank byte)) line start e in
    let blanks : All (λ byte. is_blank byte ≡ true) (take start line) = λ k d lt.
    let below : k < start = omega (arith, length-take start line) in
    let before : k < position_or_len (λ byte. not (is_blank byte)) line = omega (arith, p.0) in
    subst (λ byte. is_blank byte ≡ true) (sym (get_or-take start line k d below)) (not-false _ (fails_before_first (λ byte. not (is_blank byte)) line k d before)) in
    ap words_of (sym (take-append-drop start line)) ∙ words_of-blanks (take start line) (drop start line) blanks

pub words_of-none : (line : List ℕ) → position (λ byte. not (is_blank byte)) line ≡ None → words_of line ≡ []
words_of-none line e =
    let le = position_none (λ byte. not (is_blank byte)) line e in
    let blanks : All (λ byte. is_blank byte ≡ true) line = λ k d lt. not-false _ (fails_before_first (λ byte. not (is_blank byte)) line k d (omega (arith, le, lt))) in
    ap words_of (sym (append-nil line)) ∙ words_of-blanks line [] blanks ∙ words_of-nil

-- the byte at which a word starts is no blank
starts : (line : List ℕ) (start : ℕ) → position (λ byte. not (is_blank byte)) line ≡ Some start → is_blank (get_or (drop start line) 0 0) ≡ false
starts line start e =
    let p = position_some (λ byte. not (is_blank byte)) line start e in
    let lt : position_or_len (λ byte. not (is_blank byte)) line < length line = omega (arith, p.0, p.1) in
    let there = passes_at_first (λ byte. not (is_blank byte)) line 0 lt in
    let same : get_or (drop start line) 0 0 ≡ get_or line (position_or_len (λ byte. not (is_blank byte)) line) 0 = get_or-drop start line 0 0 ∙ ap (λ n. get_or line n 0) (omega (arith, p.0)) in
    subst (λ byte. is_blank byte ≡ false) (sym same) (not-true _ there)

keeps : (part : List ℕ) (parts : List (List ℕ)) → 0 < length part → filter (λ part. ltb 0 (length part)) (part ∷ parts) ≡ part ∷ filter (λ part. ltb 0 (length part)) parts
keeps part parts h = let e : ltb 0 (length part) ≡ true = lt-ltb _ _ h in rw e refl

above_zero : (n : ℕ) → (n ≡ 0 → ⊥) → 0 < n
above_zero zero h = absurd (h refl)
above_zero (suc n) h = omega arith

-- a word isn't empty
word_some : (rest : List ℕ) (end : ℕ) → is_blank (get_or rest 0 0) ≡ false → position (λ byte. is_blank byte) rest ≡ Some end → 0 < end
word_some rest end first e =
    let p = position_some (λ byte. is_blank byte) rest end e in
    let lt : position_or_len (λ byte. is_blank byte) rest < length rest = omega (arith, p.0, p.1) in
    let blank : is_blank (get_or rest end 0) ≡ true = subst (λ n. is_blank (get_or rest n 0) ≡ true) p.0 (passes_at_first (λ byte. is_blank byte) rest 0 lt) in
    above_zero end (λ z. both_ways _ (subst (λ n. is_blank (get_or rest n 0) ≡ false) (sym z) first) blank)

pub words_of-first : (rest : List ℕ) (end : ℕ) → is_blank (get_or rest 0 0) ≡ false → position (λ byte. is_blank byte) rest ≡ Some end → words_of rest ≡ take end rest ∷ words_of (drop end rest)
unfolding words_of
words_of-first rest end first e =
    let p = position_some (λ byte. is_blank byte) rest end e in
    let lt : position_or_len (λ byte. is_blank byte) rest < length rest = omega (arith, p.0, p.1) in
    let blank : is_blank (get_or rest end 0) ≡ true = subst (λ n. is_blank (get_or rest n 0) ≡ true) p.0 (passes_at_first (λ byte. is_blank byte) rest 0 lt) in
    let some : 0 < end = word_some rest end first e in
    let cut : slice_split is_blank rest ≡ take end rest ∷ slice_split is_blank (drop (end + 1) rest) = subst (λ n. slice_split is_blank rest ≡ take n rest ∷ slice_split is_blank (drop (n + 1) rest)) p.0 (slice_split_first is_blank rest 0 lt) in
    let long : 0 < length (take end rest) = omega (arith, length-take end rest, p.1) in
    let behind : words_of (drop end rest) ≡ words_of (drop (end + 1) rest) = ap words_of (drop_more rest end 0 p.1) ∙ words_of-blank (get_or rest end 0) (drop (end + 1) rest) blank in
    ap (filter (λ part. ltb 0 (length part))) cut ∙ keeps (take end rest) (slice_split is_blank (drop (end + 1) rest)) long ∙ ap (λ ws. take end rest ∷ ws) (sym behind)

pub words_of-last : (rest : List ℕ) → 0 < length rest → position (λ byte. is_blank byte) rest ≡ None → words_of rest ≡ rest ∷ []
unfolding words_of
words_of-last rest some e =
    let le = position_none (λ byte. is_blank byte) rest e in
    let cut = slice_split_none is_blank rest (λ k d lt. fails_before_first is_blank rest k d (omega (arith, le, lt))) in
    ap (filter (λ part. ltb 0 (length part))) cut ∙ keeps rest [] some

-- the first word, and what follows it
pub words_of-found : (line : List ℕ) (start : ℕ) (o : Option ℕ) → position (λ byte. not (is_blank byte)) line ≡ Some start → o ≡ position (λ byte. is_blank byte) (drop start line) → words_of line ≡ take (unwrap_or o (length (drop start line))) (drop start line) ∷ words_of (drop (unwrap_or o (length (drop start line))) (drop start line))
words_of-found line start (Some end) e f = words_of-skip line start e ∙ words_of-first (drop start line) end (starts line start e) (sym f)
words_of-found line start None e f =
    let rest : List ℕ = drop start line in
    let p = position_some (λ byte. not (is_blank byte)) line start e in
    let some : 0 < length rest = omega (arith, length-drop start line, p.1) in
    let all : take (length rest) rest ≡ rest = take_all (length rest) rest (omega arith) in
    let nothing : drop (length rest) rest ≡ [] = drop_all (length rest) rest (omega arith) in
    words_of-skip line start e ∙ words_of-last rest some (sym f) ∙ pair rest (take (length rest) rest) (drop (length rest) rest) all nothing
  where
    pair : (rest a b : List ℕ) → a ≡ rest → b ≡ [] → rest ∷ [] ≡ a ∷ words_of b
    pair rest a b e f = let nil = words_of-nil in let g : words_of b ≡ [] = ap words_of f ∙ nil in cc

-- the same for the parts of a line that a reader has
pub words_of-cut : (line rest word after : List ℕ) (start : ℕ) (o : Option ℕ) → position (λ byte. not (is_blank byte)) line ≡ Some start → rest ≡ drop start line → o ≡ position (λ byte. is_blank byte) rest → word ≡ take (unwrap_or o (length rest)) rest → after ≡ drop (unwrap_or o (length rest)) rest → words_of line ≡ word ∷ words_of after
words_of-cut line rest word after start o p e f w a =
    let f' : o ≡ position (λ byte. is_blank byte) (drop start line) = f ∙ ap (position (λ byte. is_blank byte)) e in
    words_of-found line start o p f' ∙ parts word after rest (drop start line) e w a
  where
    parts : (word after rest rest' : List ℕ) → rest ≡ rest' → word ≡ take (unwrap_or o (length rest)) rest → after ≡ drop (unwrap_or o (length rest)) rest → take (unwrap_or o (length rest')) rest' ∷ words_of (drop (unwrap_or o (length rest')) rest') ≡ word ∷ words_of after
    parts word after rest rest' e w a = cc

pub word_end-some : (line rest : List ℕ) (start : ℕ) (o : Option ℕ) → position (λ byte. not (is_blank byte)) line ≡ Some start → rest ≡ drop start line → o ≡ position (λ byte. is_blank byte) rest → 0 < unwrap_or o (length rest)
word_end-some line rest start (Some end) p e f = word_some rest end (subst (λ r. is_blank (get_or r 0 0) ≡ false) (sym e) (starts line start p)) (sym f)
word_end-some line rest start None p e f =
    let lt = (position_some (λ byte. not (is_blank byte)) line start p).1 in
    let len : length rest ≡ length line - start = ap length e ∙ length-drop start line in
    omega (arith, lt, len)
