-- What is in the description has a place in the tables.
use Rattle.std.proofs.Common.{◌≡◌, ℕ, ◌+◌, ◌^◌, ◌<◌, ◌≤◌, Bool, true, false, not, cond, ltb, Option, Some, None, refl, sym, arith}
use Rattle.std.proofs.lemmas.Bool.{and_parts, ltb-true, lt-ltb, ltb-false, false≢true}
use Rattle.seq_words.specs.declared.names.Pe.{Pe}
use Rattle.seq_words.specs.declared.names.LineNo.{LineNo}
use Rattle.seq_words.specs.declared.kinds.Element.{Element}
use Rattle.seq_words.specs.declared.kinds.Element.TheVariants as elements
use Rattle.seq_words.specs.declared.description.MachineDesc.{MachineDesc}
use Rattle.seq_words.specs.Description.{IsDescription}
use Rattle.seq_words.specs.Names.{has_name}
use Rattle.seq_schedule.specs.declared.script.Script.{Script}
use Rattle.seq_schedule.specs.Limits.{most_turns}
use Rattle.seq_schedule.specs.Rules.{Past, is_element, is_line, is_absent, input_rule, state_rule, first_of, turns_in, turns_rule, rule_of}

not-not : (b : Bool) → not b ≡ false → b ≡ true
not-not true e = refl
not-not false e = absurd (false≢true (sym e))

pub name_there : (d : MachineDesc) (e : Element) → IsDescription d → not (is_element d e) ≡ false → has_name e ≡ true
name_there d (elements.Processor p) h e = let lt : p.0 < d.processors = ltb-true _ _ (not-not _ e) in lt-ltb _ _ (omega (arith, h.processors.high_at))
name_there d (elements.Memory m) h e = let lt : m.0 < d.memories = ltb-true _ _ (not-not _ e) in lt-ltb _ _ (omega (arith, h.memories.high_at))
name_there d (elements.Io i) h e = let lt : i.0 < d.ios = ltb-true _ _ (not-not _ e) in lt-ltb _ _ (omega (arith, h.ios.high_at))

pub processor_there : (d : MachineDesc) (p : Pe) → IsDescription d → not (is_element d (elements.Processor p)) ≡ false → p.0 < 8
processor_there d p h e = let lt : p.0 < d.processors = ltb-true _ _ (not-not _ e) in omega (arith, h.processors.high_at)

pub line_there : (d : MachineDesc) (l : LineNo) → not (is_line d l) ≡ false → l.0 < 16
line_there d l e = ltb-true _ _ (and_parts _ _ (not-not _ e)).0

pub cond-none : (b : Bool) (r : ℕ) (o : Option ℕ) → cond b (Some r) o ≡ None → (b ≡ false) × (o ≡ None)
cond-none true r o e = absurd cc
cond-none false r o e = (refl, e)

pub first-none : (a b : Option ℕ) → first_of a b ≡ None → (a ≡ None) × (b ≡ None)
first-none None b e = (refl, e)
first-none (Some r) b e = absurd cc

-- the journal has room for what arrives
pub room_there : (d : MachineDesc) (p : Past) (l : LineNo) (count : ℕ) → d.journal < 2 ^ 32 → input_rule d p l count ≡ None → p.arrived l + count < 2 ^ 64
room_there d p l count small e =
    let a = cond-none (p.closed l) 36 _ e in
    let b = cond-none (ltb d.journal (p.arrived l + count)) 37 None a.1 in
    let le : p.arrived l + count ≤ d.journal = ltb-false _ _ b.0 in
    omega arith

pub present : (d : MachineDesc) (p : Past) (s : Script) → rule_of d p s ≡ None → is_absent d s ≡ false
unfolding rule_of
present d p s e = (cond-none (is_absent d s) 32 _ e).0

pub state_none : (d : MachineDesc) (p : Past) (s : Script) → rule_of d p s ≡ None → state_rule d p s ≡ None
unfolding rule_of
state_none d p s e = (first-none (state_rule d p s) (turns_rule d p s) (cond-none (is_absent d s) 32 _ e).1).0

pub turns_there : (d : MachineDesc) (p : Past) (s : Script) → rule_of d p s ≡ None → p.turns + turns_in d s ≤ 200000000
unfolding rule_of
turns_there d p s e =
    let last = (first-none (state_rule d p s) (turns_rule d p s) (cond-none (is_absent d s) 32 _ e).1).1 in
    ltb-false _ _ (cond-none (ltb most_turns (p.turns + turns_in d s)) 39 None last).0
