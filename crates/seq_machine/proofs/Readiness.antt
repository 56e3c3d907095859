-- Hardware is ready for events at its start, and after each event.
use Rattle.std.proofs.Common.{◌≡◌, ℕ, suc, ◌^◌, ◌≤◌, Bool, List, sym, subst, arith}
use Rattle.seq_words.specs.Description.{IsDescription}
use Rattle.seq_words.specs.declared.description.MachineDesc.{MachineDesc}
use Rattle.seq_words.specs.declared.events.Event.{Event}
use Rattle.seq_shelf.specs.Told.{LineView}
use Rattle.seq_turns.specs.declared.hand.Hand.{Hand}
use Rattle.seq_turns.specs.declared.hand.Hand.TheVariants as hand
use Rattle.seq_turns.specs.declared.hand.FlushAt.{FlushAt}
use Rattle.seq_turns.specs.declared.hand.FlushAt.TheVariants as flush
use Rattle.seq_turns.specs.Machines.{Machine}
use Rattle.seq_turns.specs.Allowed.{Allowed}
use Rattle.seq_turns.specs.Events.{happens}
use Rattle.seq_stands.specs.Fit.{Fit}
use Rattle.seq_stands.specs.FitNumbers.{FlushBelow, HandBelow, NumbersBelow, NumbersFit}
use Rattle.seq_stands.proofs.FitImage.{machines_start_fit, machines_start_at_zero}
use Rattle.seq_stands.proofs.FitNumbers.{numbers_grow}
use Rattle.seq_machine.specs.Plain.{Outside, machine_of, outside_of, IsOutside, IsHardware}
use Rattle.seq_machine.specs.Starting.{no_outside, machine_at_start}
use Rattle.seq_machine.specs.Built.{IsBuilt}
use Rattle.seq_machine.specs.Ready.{IsReady}
use Rattle.seq_machine.specs.declared.hardware.Hardware.{Hardware}
use Rattle.seq_machine.proofs.Unchanged.{shown_by, is_shown, fit_anywhere, allowed_anywhere}

-- ---- numbers
flush_below : (n k : ℕ) (f : FlushAt) → n ≤ k → FlushBelow n f → FlushBelow k f
flush_below n k (flush.Mark f) le below = omega arith
flush_below n k (flush.First f) le below = omega arith
flush_below n k (flush.Second f) le below = omega arith
flush_below n k (flush.Close f) le below = omega arith

hand_below : (n k : ℕ) (h : Hand) → n ≤ k → HandBelow n h → HandBelow k h
hand_below n k hand.Down le below = tt
hand_below n k hand.Seek le below = tt
hand_below n k (hand.Claiming q c) le below = tt
hand_below n k (hand.Running r) le below = omega arith
hand_below n k (hand.Acquiring r t c) le below = omega arith
hand_below n k (hand.Flushing r cause mask f) le below = (let few = below.0 in omega (arith, few, le), flush_below n k f le below.1)
hand_below n k (hand.Unlocking r cause mask l) le below = omega arith
hand_below n k (hand.Leaving q l) le below = tt
hand_below n k (hand.Recovering r) le below = tt

-- numbers below n are below every greater number
numbers_below : (n k : ℕ) (d : MachineDesc) (m : Machine) → n ≤ k → NumbersBelow n d m → NumbersBelow k d m
numbers_below n k d m le below = record {
  incarnations = λ p there. let few = below.incarnations p there in omega (arith, few, le);
  contexts = λ q shadow there. let few = below.contexts q shadow there in omega (arith, few, le);
  hands = λ p there. hand_below n k (m.hand p) le (below.hands p there);
}

pub numbers_fit : (n : ℕ) (h : Hardware) → n ≤ 2 ^ 47 → IsReady n h → NumbersFit h.desc (machine_of h no_outside)
numbers_fit n h le ready = numbers_below n (2 ^ 47) h.desc (machine_of h no_outside) le ready.numbers

-- they are whatever is outside
numbers_anywhere : (n : ℕ) (d : MachineDesc) (h : Hardware) (o o' : Outside) → NumbersBelow n d (machine_of h o) → NumbersBelow n d (machine_of h o')
numbers_anywhere n d h o o' below = record { incarnations = below.incarnations; contexts = below.contexts; hands = below.hands }

-- ---- the start
pub starts_ready : (h : Hardware) (d : MachineDesc) → IsDescription d → IsHardware h → h.desc ≡ d → machine_of h no_outside ≡ machine_at_start d → IsReady 1 h
starts_ready h d described hardware desc starts = record {
  hardware = hardware;
  fit = subst (λ (e : MachineDesc). Fit e (machine_of h no_outside)) (sym desc) (subst (λ (m : Machine). Fit d m) (sym starts) (machines_start_fit d described));
  numbers = subst (λ (e : MachineDesc). NumbersBelow 1 e (machine_of h no_outside)) (sym desc) (subst (λ (m : Machine). NumbersBelow 1 d m) (sym starts) (machines_start_at_zero d described));
}

-- ---- events
pub goes_on : (n : ℕ) (old new : Hardware) (e : Event) (lines : List LineView) (marks : List Bool)
    → IsReady n old → IsBuilt e → Allowed old.desc (machine_of old no_outside) e → IsHardware new → new.desc ≡ old.desc → Fit new.desc (machine_of new no_outside)
    → ((o : Outside) → IsOutside lines marks o → machine_of new (outside_of (happens old.desc (machine_of old o) e)) ≡ happens old.desc (machine_of old o) e) → IsReady (suc n) new
goes_on n old new e lines marks ready built allowed hardware desc fit made =
    let o = shown_by lines marks in
    let at = outside_of (happens old.desc (machine_of old o) e) in
    let grown : NumbersBelow (suc n) old.desc (happens old.desc (machine_of old o) e) =
    numbers_grow n old.desc (machine_of old o) e ready.hardware.described (allowed_anywhere old.desc old no_outside o e built allowed) (fit_anywhere old.desc old no_outside o ready.fit) (numbers_anywhere n old.desc old no_outside o ready.numbers)
    in
    let seen : NumbersBelow (suc n) old.desc (machine_of new at) = subst (λ (m : Machine). NumbersBelow (suc n) old.desc m) (sym (made o (is_shown lines marks))) grown in
    record {
      hardware = hardware;
      fit = fit;
      numbers = subst (λ (d : MachineDesc). NumbersBelow (suc n) d (machine_of new no_outside)) (sym desc) (numbers_anywhere (suc n) old.desc new at no_outside seen);
    }
