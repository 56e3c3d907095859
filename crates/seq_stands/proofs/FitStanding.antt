-- Hands, caches, lines and ports stay within their bounds together.
use Rattle.std.proofs.Common.{◌≡◌, ℕ, suc, ◌≤◌, [], ◌∷◌, ap, arith}
use Rattle.std.proofs.lemmas.Bool.{cond_both}
use Rattle.seq_words.specs.declared.description.MachineDesc.{MachineDesc}
use Rattle.seq_words.specs.declared.kinds.Element.TheVariants as element
use Rattle.seq_words.specs.declared.events.Event.{Event}
use Rattle.seq_words.specs.declared.events.Event.TheVariants as event
use Rattle.seq_turns.specs.Machines.{Machine, Turn}
use Rattle.seq_turns.specs.Machines.Turn.{Moves, Looks, Copies_unit, Stops}
use Rattle.seq_turns.specs.Duties.{rests}
use Rattle.seq_turns.specs.Processors.{turn}
use Rattle.seq_turns.specs.Events.{stopped, is_down, after_turn, happens}
use Rattle.seq_turns.proofs.Functions.{update_cases}
use Rattle.seq_stands.specs.Standing.{Stands}
use Rattle.seq_stands.proofs.Law.{events_keep}
use Rattle.seq_words.specs.Description.{IsDescription}
use Rattle.seq_stands.specs.FitHands as hands
use Rattle.seq_stands.specs.FitLines as lines
use Rattle.seq_stands.specs.FitStanding.{Fits, Takes, StartFits, EventsKeepFits, RunsKeepFits, IncarnationsGrow}
use Rattle.seq_stands.proofs.FitLaw.{start_hands_fit, events_keep_hands_fit}
use Rattle.seq_stands.proofs.FitLines.{start_lines_fit, events_keep_lines_fit}
use Rattle.seq_stands.proofs.FitReadable.{lines_are_readable}

pub start_fits : StartFits
start_fits d image described = record { hands = start_hands_fit d image described; lines = start_lines_fit d image }

hands_take : (d : MachineDesc) (m : Machine) (e : Event) → IsDescription d → Stands d m → Fits d m → Takes d m e → hands.Takes d m e
hands_take d m (event.Processor p) described st fits takes = record { readable = lines_are_readable d m described st fits.lines; within = takes }
hands_take d m (event.Io i) described st fits takes = tt
hands_take d m (event.Input l byte) described st fits takes = tt
hands_take d m (event.Close l) described st fits takes = tt
hands_take d m (event.Fail e) described st fits takes = tt
hands_take d m (event.Repair e) described st fits takes = tt
hands_take d m (event.Upset p half reg mask) described st fits takes = tt
hands_take d m (event.Hangup l) described st fits takes = tt

lines_take : (d : MachineDesc) (m : Machine) (e : Event) → Takes d m e → lines.LinesTake d m e
lines_take d m (event.Processor p) takes = tt
lines_take d m (event.Io i) takes = takes
lines_take d m (event.Input l byte) takes = tt
lines_take d m (event.Close l) takes = tt
lines_take d m (event.Fail e) takes = tt
lines_take d m (event.Repair e) takes = tt
lines_take d m (event.Upset p half reg mask) takes = tt
lines_take d m (event.Hangup l) takes = tt

pub events_keep_fits : EventsKeepFits
events_keep_fits d m e described ok st takes fits = record {
  hands = events_keep_hands_fit d m e described ok st (hands_take d m e described st fits takes) fits.hands;
  lines = events_keep_lines_fit d m e described ok st fits.hands (lines_take d m e takes) fits.lines;
}

pub runs_keep_fits : RunsKeepFits
runs_keep_fits d [] m described ok takes st fits = fits
runs_keep_fits d (e ∷ es) m described ok takes st fits =
    runs_keep_fits d es (happens d m e) described ok.2 takes.1 (events_keep d m e described ok.0 ok.1 st) (events_keep_fits d m e described ok.0 st takes.0 fits)

stop_grows : (m : Machine) (r p : ℕ) → (stopped m r).incarnation p ≤ suc (m.incarnation p)
stop_grows m r p = update_cases (λ x. x ≤ suc (m.incarnation p)) m.incarnation r (suc (m.incarnation r)) p
    (λ e. let same : m.incarnation p ≡ m.incarnation r = ap m.incarnation e in let c : suc (m.incarnation r) ≤ suc (m.incarnation p) = omega (arith, same) in c) (λ ne. let c : m.incarnation p ≤ suc (m.incarnation p) = omega arith in c)

turn_grows : (d : MachineDesc) (m : Machine) (r p : ℕ) (t : Turn) → (after_turn d m r t).incarnation p ≤ suc (m.incarnation p)
turn_grows d m r p (Moves move) = let c : m.incarnation p ≤ suc (m.incarnation p) = omega arith in c
turn_grows d m r p (Looks next move) = let c : m.incarnation p ≤ suc (m.incarnation p) = omega arith in c
turn_grows d m r p (Copies_unit i) = let c : m.incarnation p ≤ suc (m.incarnation p) = omega arith in c
turn_grows d m r p Stops = stop_grows m r p

pub incarnations_grow : IncarnationsGrow
incarnations_grow d m (event.Processor r) p = turn_grows d m r.0 p (turn d m r.0 (m.hand r.0))
incarnations_grow d m (event.Io i) p = cond_both (rests d m i.0) _ _ (λ (n : Machine). n.incarnation p ≤ suc (m.incarnation p)) (λ _. let c : m.incarnation p ≤ suc (m.incarnation p) = omega arith in c) (λ _. let c : m.incarnation p ≤ suc (m.incarnation p) = omega arith in c)
incarnations_grow d m (event.Input l byte) p = let c : m.incarnation p ≤ suc (m.incarnation p) = omega arith in c
incarnations_grow d m (event.Close l) p = let c : m.incarnation p ≤ suc (m.incarnation p) = omega arith in c
incarnations_grow d m (event.Fail (element.Processor r)) p = cond_both (is_down (m.hand r.0)) _ _ (λ (n : Machine). n.incarnation p ≤ suc (m.incarnation p)) (λ _. let c : m.incarnation p ≤ suc (m.incarnation p) = omega arith in c) (λ _. stop_grows m r.0 p)
incarnations_grow d m (event.Fail (element.Memory i)) p = let c : m.incarnation p ≤ suc (m.incarnation p) = omega arith in c
incarnations_grow d m (event.Fail (element.Io i)) p = let c : m.incarnation p ≤ suc (m.incarnation p) = omega arith in c
incarnations_grow d m (event.Repair (element.Processor r)) p = let c : m.incarnation p ≤ suc (m.incarnation p) = omega arith in c
incarnations_grow d m (event.Repair (element.Memory i)) p = let c : m.incarnation p ≤ suc (m.incarnation p) = omega arith in c
incarnations_grow d m (event.Repair (element.Io i)) p = let c : m.incarnation p ≤ suc (m.incarnation p) = omega arith in c
incarnations_grow d m (event.Upset r half reg mask) p = let c : m.incarnation p ≤ suc (m.incarnation p) = omega arith in c
incarnations_grow d m (event.Hangup l) p = let c : m.incarnation p ≤ suc (m.incarnation p) = omega arith in c
