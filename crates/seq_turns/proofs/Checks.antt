-- An event ends the run exactly where its machine check names something.
use Rattle.std.proofs.Common.{◌≡◌, ◌↔◌, ℕ, Bool, true, false, not, ◌&&◌, ◌||◌, Option, Some, None, refl, ap}
use Rattle.std.specs.Prelude.{is_some, if◌then◌else◌}
use Rattle.seq_words.specs.declared.description.MachineDesc.{MachineDesc}
use Rattle.seq_words.specs.declared.names.Pe.{Pe}
use Rattle.seq_words.specs.declared.kinds.Element.{Element}
use Rattle.seq_words.specs.declared.kinds.Element.TheVariants as element
use Rattle.seq_words.specs.declared.events.Event.TheVariants as event
use Rattle.seq_ruling.specs.Lowest.{or_else}
use Rattle.seq_ruling.specs.Checks.{by_memory, by_process}
use Rattle.seq_kernel.specs.declared.outcomes.Note.TheVariants.{Stopped, Made}
use Rattle.seq_turns.specs.Machines.{Machine, Turn}
use Rattle.seq_turns.specs.Machines.Turn.{Moves, Looks, Copies_unit, Stops}
use Rattle.seq_turns.specs.Processors.{turn}
use Rattle.seq_turns.specs.Events.{out, another_out, awaiting, is_down, stops, note_of_turn, blocker}
use Rattle.seq_turns.specs.Checks.{ChecksNameABlocker, StopsAreNoted}

-- a memory that is found is named, and so is a process
memory_named : (o : Option ℕ) → (is_some o ≡ true) ↔ (is_some (by_memory o) ≡ true)
memory_named None = (λ e. e, λ e. e)
memory_named (Some j) = (λ e. refl, λ e. refl)

either_named : (a b : Option ℕ) → ((is_some a || is_some b) ≡ true) ↔ (is_some (or_else (by_memory a) (by_process b)) ≡ true)
either_named (Some j) b = (λ e. refl, λ e. refl)
either_named None None = (λ e. e, λ e. e)
either_named None (Some q) = (λ e. refl, λ e. refl)

module _ (d : MachineDesc) (m : Machine) (p : Pe) where
  turn_named : (stop : Bool) → ((stop && is_some (out d m)) ≡ true) ↔ (is_some (blocker d m (if stop then Some (element.Processor p) else None)) ≡ true)
  turn_named true = memory_named (out d m)
  turn_named false = (λ e. e, λ e. e)

  failure_named : (down : Bool) → ((not down && is_some (out d m)) ≡ true) ↔ (is_some (blocker d m (if down then None else Some (element.Processor p))) ≡ true)
  failure_named true = (λ e. e, λ e. e)
  failure_named false = memory_named (out d m)

pub checks_name_a_blocker : ChecksNameABlocker
checks_name_a_blocker d m (event.Processor p) = turn_named d m p (stops (turn d m p.0 (m.hand p.0)))
checks_name_a_blocker d m (event.Io i) = (λ e. e, λ e. e)
checks_name_a_blocker d m (event.Input l byte) = (λ e. e, λ e. e)
checks_name_a_blocker d m (event.Close l) = (λ e. e, λ e. e)
checks_name_a_blocker d m (event.Fail (element.Processor p)) = failure_named d m p (is_down (m.hand p.0))
checks_name_a_blocker d m (event.Fail (element.Memory i)) = either_named (another_out d m i.0) (awaiting d m)
checks_name_a_blocker d m (event.Fail (element.Io i)) = (λ e. e, λ e. e)
checks_name_a_blocker d m (event.Repair e) = (λ e. e, λ e. e)
checks_name_a_blocker d m (event.Upset p half reg mask) = (λ e. e, λ e. e)
checks_name_a_blocker d m (event.Hangup l) = (λ e. e, λ e. e)

-- a turn that stops its processor is noted
turn_noted : (p : Pe) (t : Turn) (x : Element) → (if stops t then Some (element.Processor p) else None) ≡ Some x → note_of_turn p.0 t ≡ Stopped x
turn_noted p (Moves move) x e = absurd (let c : ⊥ = cc in c)
turn_noted p (Looks next move) x e = absurd (let c : ⊥ = cc in c)
turn_noted p (Copies_unit i) x e = absurd (let c : ⊥ = cc in c)
turn_noted p Stops x e = let same : element.Processor p ≡ x = cc in ap Stopped same

failure_noted : (p : Pe) (down : Bool) (x : Element) → (if down then None else Some (element.Processor p)) ≡ Some x → (if down then Made else Stopped (element.Processor p)) ≡ Stopped x
failure_noted p true x e = absurd (let c : ⊥ = cc in c)
failure_noted p false x e = let same : element.Processor p ≡ x = cc in ap Stopped same

pub stops_are_noted : StopsAreNoted
stops_are_noted d m (event.Processor p) x e = turn_noted p (turn d m p.0 (m.hand p.0)) x e
stops_are_noted d m (event.Io i) x e = absurd (let c : ⊥ = cc in c)
stops_are_noted d m (event.Input l byte) x e = absurd (let c : ⊥ = cc in c)
stops_are_noted d m (event.Close l) x e = absurd (let c : ⊥ = cc in c)
stops_are_noted d m (event.Fail (element.Processor p)) x e = failure_noted p (is_down (m.hand p.0)) x e
stops_are_noted d m (event.Fail (element.Memory i)) x e = let same : element.Memory i ≡ x = cc in ap Stopped same
stops_are_noted d m (event.Fail (element.Io i)) x e = absurd (let c : ⊥ = cc in c)
stops_are_noted d m (event.Repair f) x e = absurd (let c : ⊥ = cc in c)
stops_are_noted d m (event.Upset p half reg mask) x e = absurd (let c : ⊥ = cc in c)
stops_are_noted d m (event.Hangup l) x e = absurd (let c : ⊥ = cc in c)
