-- Events made one after the other, by their parts: those that may be made, and those of which none is a machine check.
use Rattle.std.proofs.Common.{◌≡◌, inl, inr, false, Option, None, List, [], ◌∷◌, ◌++◌, refl, sym, ◌∙◌, ap}
use Rattle.std.specs.Prelude.{is_some}
use Rattle.std.proofs.lemmas.Bool.{cases_Bool, false≢true}
use Rattle.seq_words.specs.declared.description.MachineDesc.{MachineDesc}
use Rattle.seq_words.specs.declared.events.Event.{Event}
use Rattle.seq_words.specs.declared.kinds.Blocker.{Blocker}
use Rattle.seq_turns.specs.Machines.{Machine}
use Rattle.seq_turns.specs.Allowed.{Allowed}
use Rattle.seq_turns.specs.Events.{happens, check, is_check, run}
use Rattle.seq_turns.proofs.Checks.{checks_name_a_blocker}
use Rattle.seq_stands.specs.Standing.{AllAllowed}
use Rattle.seq_machine.specs.Making.{MayMake}
use Rattle.seq_course.specs.Course.{AreUnchecked}

pub run-append : (d : MachineDesc) (es more : List Event) (m : Machine) → run d (es ++ more) m ≡ run d more (run d es m)
run-append d [] more m = refl
run-append d (e ∷ es) more m = run-append d es more (happens d m e)

-- ---- none is a machine check

pub unchecked-append : (d : MachineDesc) (es more : List Event) (m : Machine) → AreUnchecked d es m → AreUnchecked d more (run d es m) → AreUnchecked d (es ++ more) m
unchecked-append d [] more m are then = then
unchecked-append d (e ∷ es) more m are then = (are.0, unchecked-append d es more (happens d m e) are.1 then)

pub unchecked_rest : (d : MachineDesc) (es more : List Event) (m : Machine) → AreUnchecked d (es ++ more) m → AreUnchecked d more (run d es m)
unchecked_rest d [] more m are = are
unchecked_rest d (e ∷ es) more m are = unchecked_rest d es more (happens d m e) are.1

-- an event that is no machine check doesn't end the run
unchecked_goes_on : (d : MachineDesc) (m : Machine) (e : Event) → check d m e ≡ None → is_check d m e ≡ false
unchecked_goes_on d m e none = elim (cases_Bool (is_check d m e)) [
  | inl ends ↦ absurd (false≢true (sym (ap (λ (b : Option Blocker). is_some b) none) ∙ (checks_name_a_blocker d m e).0 ends))
  | inr goes ↦ goes
]

-- ---- events that may be made

pub may-append : (d : MachineDesc) (es more : List Event) (m : Machine) → MayMake d es m → (AreUnchecked d es m → MayMake d more (run d es m)) → MayMake d (es ++ more) m
may-append d [] more m may then = then tt
may-append d (e ∷ es) more m may then = (may.0, may.1, λ none. may-append d es more (happens d m e) (may.2 none) (λ are. then (none, are)))

-- the first of events that may be made
pub may_begin : (d : MachineDesc) (es more : List Event) (m : Machine) → MayMake d (es ++ more) m → MayMake d es m
may_begin d [] more m may = tt
may_begin d (e ∷ es) more m may = (may.0, may.1, λ none. may_begin d es more (happens d m e) (may.2 none))

-- what may follow a part without a machine check
pub may_follow : (d : MachineDesc) (es more : List Event) (m : Machine) → MayMake d (es ++ more) m → AreUnchecked d es m → MayMake d more (run d es m)
may_follow d [] more m may are = may
may_follow d (e ∷ es) more m may are = may_follow d es more (happens d m e) (may.2 are.0) are.1

-- the next of them is allowed
pub next_allowed : (d : MachineDesc) (e : Event) (more : List Event) (m : Machine) → MayMake d (e ∷ more) m → Allowed d m e
next_allowed d e more m may = may.1

-- where none is a machine check, none ends the run
pub all_allowed : (d : MachineDesc) (es : List Event) (m : Machine) → MayMake d es m → AreUnchecked d es m → AllAllowed d es m
all_allowed d [] m may are = tt
all_allowed d (e ∷ es) m may are = (may.1, unchecked_goes_on d m e are.0, all_allowed d es (happens d m e) (may.2 are.0) are.1)
