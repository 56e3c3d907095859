-- The items of a faultless text violate no rule, are built, and there are no more of them than lines may be.
use Rattle.std.proofs.Common.{◌≡◌, ℕ, ◌+◌, ◌≤◌, Bool, true, false, cond, eqb, Option, Some, None, List, [], ◌∷◌, ◌++◌, length, length-append, refl, subst, arith}
use Rattle.std.specs.List.{All}
use Rattle.std.specs.Prelude.{slice_index, nat_le, ◌&&◌, take, drop, codes}
use Rattle.std.specs.Str.{bytes_eq}
use Rattle.std.specs.Option.{option_map}
use Rattle.std.proofs.lemmas.Bool.{ltb-false, leb-true, and_parts}
use Rattle.std.proofs.lemmas.List.Elements.{All-nil, All-cons, All-append}
use Rattle.seq_words.specs.declared.names.LineNo.{LineNo}
use Rattle.seq_words.specs.declared.kinds.Element.{Element}
use Rattle.seq_words.specs.declared.kinds.Element.TheVariants as elements
use Rattle.seq_words.specs.declared.events.Event.TheVariants as events
use Rattle.seq_words.specs.declared.description.MachineDesc.{MachineDesc}
use Rattle.seq_words.specs.Names.{element_named, half_named}
use Rattle.seq_words.specs.declared.half.Half.{Half}
use Rattle.seq_words.specs.declared.names.Pe.{Pe}
use Rattle.seq_text.specs.Numbers.{number_of}
use Rattle.seq_text.specs.Words.{words_of}
use Rattle.seq_schedule.specs.declared.script.Script.{Script}
use Rattle.seq_schedule.specs.declared.script.Script.TheVariants as scripts
use Rattle.seq_schedule.specs.declared.script.Item.{Item}
use Rattle.seq_schedule.specs.declared.forms.Form.{Form}
use Rattle.seq_schedule.specs.declared.forms.Form.TheVariants as forms
use Rattle.seq_schedule.specs.declared.forms.Gate.{Gate}
use Rattle.seq_schedule.specs.declared.forms.Gate.TheVariants.{Built}
use Rattle.seq_schedule.specs.declared.lines.Said.{Said}
use Rattle.seq_schedule.specs.declared.lines.Said.TheVariants.{Passed, Unbuilt, NoForm, Malformed, Says}
use Rattle.seq_schedule.specs.Limits.{most_lines, most_times}
use Rattle.seq_schedule.specs.Numbers.{if_within, number_within, line_named, bytes_of, mask_of}
use Rattle.seq_schedule.specs.Forms.{form_named, is_built}
use Rattle.seq_schedule.specs.Said.{with_one, with_two, with_four, said_by, turn_of, turn_said, turns_of, turns_said, round_said, finish_said, input_of, input_said, close_said, fail_of, fail_said, repair_of, repair_said, strike_of, upset_of, upset_said, form_said, taken_said, said}
use Rattle.seq_schedule.specs.Rules.{Past, past, rule_of, place_rule, line_rule, with_said, fault_from, item_at, items_from}
use Rattle.seq_schedule.specs.Faultless.{MayBeStruck, IsBuiltScript, FollowRules}
use Rattle.seq_schedule.proofs.Ranges.{cond-none, first-none}
use Rattle.seq_schedule.proofs.There.{no_fault}

-- ---- the rules

follow_here : (d : MachineDesc) (before : List Script) (place : ℕ) (here : Said) (rest : List Item) → line_rule d (past d before) place here ≡ None → FollowRules d (with_said before here) rest → FollowRules d before (item_at place here ++ rest)
unfolding line_rule FollowRules
follow_here d before place Passed rest e f = f
follow_here d before place Unbuilt rest e f = f
follow_here d before place NoForm rest e f = f
follow_here d before place Malformed rest e f = f
follow_here d before place (Says s) rest e f = ((first-none (rule_of d (past d before) s) (place_rule place) e).0, f)

pub follow_from : (gate : Gate) (d : MachineDesc) (place : ℕ) (before : List Script) (lines : List (List ℕ)) → fault_from gate d place before lines ≡ None → FollowRules d before (items_from gate place lines)
unfolding fault_from items_from FollowRules
follow_from gate d place before [] e = tt
follow_from gate d place before (line ∷ lines) e =
    let here : Said = said gate (words_of line) in
    let none = no_fault place (line_rule d (past d before) place here) (fault_from gate d (place + 1) (with_said before here) lines) e in
    follow_here d before place here (items_from gate (place + 1) lines) none.0 (follow_from gate d (place + 1) (with_said before here) lines none.1)

-- ---- what is said is built

abbrev SaysBuilt : Said → Type 0
SaysBuilt Passed = Unit {0}
SaysBuilt Unbuilt = Unit {0}
SaysBuilt NoForm = Unit {0}
SaysBuilt Malformed = Unit {0}
SaysBuilt (Says s) = IsBuiltScript s

one_built : (say : List ℕ → Said) (words : List (List ℕ)) → ((a : List ℕ) → SaysBuilt (say a)) → SaysBuilt (with_one say words)
one_built say [] h = tt
one_built say (a ∷ []) h = h a
one_built say (a ∷ b ∷ words) h = tt

two_built : (say : List ℕ → List ℕ → Said) (words : List (List ℕ)) → ((a b : List ℕ) → SaysBuilt (say a b)) → SaysBuilt (with_two say words)
two_built say [] h = tt
two_built say (a ∷ []) h = tt
two_built say (a ∷ b ∷ []) h = h a b
two_built say (a ∷ b ∷ c ∷ words) h = tt

four_built : (say : List ℕ → List ℕ → List ℕ → List ℕ → Said) (words : List (List ℕ)) → ((a b c d : List ℕ) → SaysBuilt (say a b c d)) → SaysBuilt (with_four say words)
four_built say [] h = tt
four_built say (a ∷ []) h = tt
four_built say (a ∷ b ∷ []) h = tt
four_built say (a ∷ b ∷ c ∷ []) h = tt
four_built say (a ∷ b ∷ c ∷ d ∷ []) h = h a b c d
four_built say (a ∷ b ∷ c ∷ d ∷ e ∷ words) h = tt

by_built : {A : Type 0} (script : A → Script) (o : Option A) → ((a : A) → IsBuiltScript (script a)) → SaysBuilt (said_by (option_map script o))
by_built script None h = tt
by_built script (Some a) h = h a

turn_built : (e : Option Element) → SaysBuilt (turn_of e)
turn_built None = tt
turn_built (Some (elements.Processor p)) = tt
turn_built (Some (elements.Memory m)) = tt
turn_built (Some (elements.Io i)) = tt

turns_built : (e : Option Element) (n : Option ℕ) → SaysBuilt (turns_of e n)
turns_built None n = tt
turns_built (Some (elements.Processor p)) n = by_built (λ n. scripts.Turns (elements.Processor p) n) n (λ n. tt)
turns_built (Some (elements.Memory m)) n = tt
turns_built (Some (elements.Io i)) n = by_built (λ n. scripts.Turns (elements.Io i) n) n (λ n. tt)

fail_built : (e : Option Element) → SaysBuilt (fail_of e)
fail_built None = tt
fail_built (Some e) = tt

repair_built : (e : Option Element) → SaysBuilt (repair_of e)
repair_built None = tt
repair_built (Some e) = tt

-- a number that lies between two others
within : (least most : ℕ) (o : Option ℕ) (n : ℕ) → if_within least most o ≡ Some n → (least ≤ n) × (n ≤ most)
within least most None n e = absurd cc
within least most (Some k) n e = go (nat_le least k && nat_le k most) refl e
  where
    go : (b : Bool) → (nat_le least k && nat_le k most) ≡ b → cond b (Some k) None ≡ Some n → (least ≤ n) × (n ≤ most)
    go true t is = (let same : k ≡ n = cc in let both = and_parts _ _ t in subst (λ x. (least ≤ x) × (x ≤ most)) same (leb-true _ _ both.0, leb-true _ _ both.1))
    go false f is = absurd cc

strike_built : (p : Pe) (h : Half) (r mask : Option ℕ) → ((n : ℕ) → r ≡ Some n → MayBeStruck n) → SaysBuilt (strike_of p h r mask)
strike_built p h None mask is = tt
strike_built p h (Some r) None is = tt
strike_built p h (Some r) (Some mask) is = is r refl

upset_built : (e : Option Element) (h : Option Half) (r mask : Option ℕ) → ((n : ℕ) → r ≡ Some n → MayBeStruck n) → SaysBuilt (upset_of e h r mask)
upset_built None h r mask is = tt
upset_built (Some (elements.Memory m)) h r mask is = tt
upset_built (Some (elements.Io i)) h r mask is = tt
upset_built (Some (elements.Processor p)) None r mask is = tt
upset_built (Some (elements.Processor p)) (Some h) r mask is = strike_built p h r mask is

input_built : (l : Option LineNo) (bytes : Option (List ℕ)) → SaysBuilt (input_of l bytes)
input_built None bytes = tt
input_built (Some l) None = tt
input_built (Some l) (Some bytes) = tt

turn_said_built : (a : List ℕ) → SaysBuilt (turn_said a)
unfolding turn_said
turn_said_built a = turn_built (element_named a)

turns_said_built : (a b : List ℕ) → SaysBuilt (turns_said a b)
unfolding turns_said
turns_said_built a b = turns_built (element_named a) (number_within 1 most_times b)

round_said_built : (a : List ℕ) → SaysBuilt (round_said a)
unfolding round_said
round_said_built a = by_built (λ n. scripts.Rounds n) (number_within 1 most_times a) (λ n. tt)

finish_said_built : (a : List ℕ) → SaysBuilt (finish_said a)
unfolding finish_said
finish_said_built a = by_built (λ n. scripts.Finish n) (number_within 1 most_times a) (λ n. tt)

input_said_built : (a b : List ℕ) → SaysBuilt (input_said a b)
unfolding input_said
input_said_built a b = input_built (line_named a) (bytes_of b)

close_said_built : (a : List ℕ) → SaysBuilt (close_said a)
unfolding close_said
close_said_built a = by_built (λ l. scripts.One (events.Close l)) (line_named a) (λ l. tt)

fail_said_built : (a : List ℕ) → SaysBuilt (fail_said a)
unfolding fail_said
fail_said_built a = fail_built (element_named a)

repair_said_built : (a : List ℕ) → SaysBuilt (repair_said a)
unfolding repair_said
repair_said_built a = repair_built (element_named a)

register_within : (word : List ℕ) (n : ℕ) → number_within 1 32 word ≡ Some n → MayBeStruck n
unfolding number_within
register_within word n e = within 1 32 (number_of word) n e

if_form : (b : Bool) (x : Said) → SaysBuilt x → SaysBuilt (cond b x NoForm)
if_form true x h = h
if_form false x h = tt

upset_said_built : (a b c d : List ℕ) → SaysBuilt (upset_said a b c d)
unfolding upset_said
upset_said_built a b c d =
    if_form (bytes_eq (take 2 d) (codes "0x")) (upset_of (element_named a) (half_named b) (number_within 1 32 c) (mask_of (drop 2 d)))
    (upset_built (element_named a) (half_named b) (number_within 1 32 c) (mask_of (drop 2 d)) (register_within c))

form_built : (form : Form) (words : List (List ℕ)) → SaysBuilt (cond (is_built form) (form_said form words) Unbuilt)
unfolding form_said
form_built forms.Turn words = one_built turn_said words turn_said_built
form_built forms.Turns words = two_built turns_said words turns_said_built
form_built forms.Round words = one_built round_said words round_said_built
form_built forms.Finish words = one_built finish_said words finish_said_built
form_built forms.Input words = two_built input_said words input_said_built
form_built forms.Close words = one_built close_said words close_said_built
form_built forms.Fail words = one_built fail_said words fail_said_built
form_built forms.Repair words = one_built repair_said words repair_said_built
form_built forms.Upset words = four_built upset_said words upset_said_built
form_built forms.Hangup words = tt

taken_built : (form : Option Form) (words : List (List ℕ)) → SaysBuilt (taken_said Built form words)
taken_built None words = tt
taken_built (Some form) words = form_built form words

spoken_built : (b : Bool) (form : Option Form) (words : List (List ℕ)) → SaysBuilt (cond b Passed (taken_said Built form words))
spoken_built true form words = tt
spoken_built false form words = taken_built form words

said_built : (words : List (List ℕ)) → SaysBuilt (said Built words)
unfolding said
said_built [] = tt
said_built (key ∷ words) = spoken_built (eqb (slice_index key 0) 35) (form_named key) words

abbrev IsBuiltItem : Item → Type 0
IsBuiltItem i = IsBuiltScript i.script

built_here : (place : ℕ) (here : Said) → SaysBuilt here → All IsBuiltItem (item_at place here)
built_here place Passed b = All-nil IsBuiltItem
built_here place Unbuilt b = All-nil IsBuiltItem
built_here place NoForm b = All-nil IsBuiltItem
built_here place Malformed b = All-nil IsBuiltItem
built_here place (Says s) b = All-cons IsBuiltItem (record { line = place; script = s }) [] b (All-nil IsBuiltItem)

pub built_from : (place : ℕ) (lines : List (List ℕ)) → All IsBuiltItem (items_from Built place lines)
unfolding items_from
built_from place [] = All-nil IsBuiltItem
built_from place (line ∷ lines) = All-append IsBuiltItem (item_at place (said Built (words_of line))) (items_from Built (place + 1) lines) (built_here place (said Built (words_of line)) (said_built (words_of line))) (built_from (place + 1) lines)

-- ---- the lines are numbered

placed : (place : ℕ) → place_rule place ≡ None → place ≤ most_lines
placed place e = ltb-false _ _ (cond-none _ 39 None e).0

placed_here : (d : MachineDesc) (p : Past) (place : ℕ) (here : Said) → line_rule d p place here ≡ None → place ≤ most_lines
unfolding line_rule
placed_here d p place Passed e = placed place e
placed_here d p place Unbuilt e = absurd cc
placed_here d p place NoForm e = absurd cc
placed_here d p place Malformed e = absurd cc
placed_here d p place (Says s) e = placed place (first-none (rule_of d p s) (place_rule place) e).1

one_here : (place : ℕ) (here : Said) → length (item_at place here) ≤ 1
one_here place Passed = omega arith
one_here place Unbuilt = omega arith
one_here place NoForm = omega arith
one_here place Malformed = omega arith
one_here place (Says s) = omega arith

pub few_from : (gate : Gate) (d : MachineDesc) (place : ℕ) (before : List Script) (lines : List (List ℕ)) → place ≤ most_lines + 1 → fault_from gate d place before lines ≡ None → length (items_from gate place lines) + place ≤ most_lines + 1
unfolding fault_from items_from
few_from gate d place before [] le e = omega arith
few_from gate d place before (line ∷ lines) le e =
    let here : Said = said gate (words_of line) in
    let none = no_fault place (line_rule d (past d before) place here) (fault_from gate d (place + 1) (with_said before here) lines) e in
    let low : place ≤ most_lines = placed_here d (past d before) place here none.0 in
    let next : length (items_from gate (place + 1) lines) + (place + 1) ≤ most_lines + 1 = few_from gate d (place + 1) (with_said before here) lines (omega arith) none.1 in
    let one : length (item_at place here) ≤ 1 = one_here place here in
    let all : length (item_at place here ++ items_from gate (place + 1) lines) ≡ length (item_at place here) + length (items_from gate (place + 1) lines) = length-append (item_at place here) (items_from gate (place + 1) lines) in
    omega arith
