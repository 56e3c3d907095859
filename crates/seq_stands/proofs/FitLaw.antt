-- Every event keeps hands and caches within their bounds.
use Rattle.std.proofs.Common.{◌≡◌, ◌≢◌, ℕ, Option, Some, None, refl, sym, subst, arith}
use Rattle.std.proofs.lemmas.Bool.{cond_both}
use Rattle.seq_words.specs.Description.{IsDescription}
use Rattle.seq_words.specs.declared.half.Half.{Half}
use Rattle.seq_words.specs.declared.description.MachineDesc.{MachineDesc}
use Rattle.seq_pair.specs.Halves.{other_half, struck}
use Rattle.seq_process.specs.declared.running.Running.{Running}
use Rattle.seq_cache.specs.Changes.{IsCache}
use Rattle.seq_turns.specs.declared.hand.Hand.{Hand}
use Rattle.seq_turns.specs.declared.hand.Hand.TheVariants as hand
use Rattle.seq_words.specs.declared.kinds.Element.TheVariants as element
use Rattle.seq_words.specs.declared.events.Event.TheVariants as event
use Rattle.seq_turns.specs.Functions.{update}
use Rattle.seq_turns.specs.Machines.{Machine, Turn}
use Rattle.seq_turns.specs.Machines.Turn.{Moves, Looks, Copies_unit, Stops}
use Rattle.seq_turns.specs.Allowed.{MayStrike}
use Rattle.seq_turns.specs.Duties.{rests}
use Rattle.seq_turns.specs.Processors.{turn}
use Rattle.seq_turns.specs.Events.{stopped, is_down, comes_back, strikes, after_turn}
use Rattle.seq_turns.proofs.Functions.{update_cases}
use Rattle.seq_kernel.proofs.KeptRunning.{strikes_keep_bounds}
use Rattle.seq_stands.specs.FitHands.{ProcessFits, HandFits, HandsFit, StartHandsFit, EventsKeepHandsFit}
use Rattle.seq_stands.proofs.FitHands.{empty_is, TurnFits, turned}

pub start_hands_fit : StartHandsFit
start_hands_fit d image described = record {
  hands = λ p. tt;
  caches = λ p. record {
    ascending = record { pairs = λ i j x lt within. absurd (let k : ⊥ = omega (arith, within) in k) };
    fits = omega arith;
    small = omega (arith, described.cache.high_at);
  };
}

struck_fits : (d : MachineDesc) (r : Running) (half : Half) (reg mask : ℕ) → r.pair.struck ≢ Some (other_half half) → ProcessFits d r → ProcessFits d (record r { pair = struck r.pair half reg mask })
struck_fits d r half reg mask ne is = (let kept = strikes_keep_bounds d r half reg mask ne in record { within = kept.0 is.within; zeros = kept.1 is.zeros })

pub strikes_fits : (d : MachineDesc) (half : Half) (reg mask : ℕ) (h : Hand) → MayStrike half h → HandFits d h → HandFits d (strikes half reg mask h)
strikes_fits d half reg mask hand.Down ne k = tt
strikes_fits d half reg mask hand.Seek ne k = tt
strikes_fits d half reg mask (hand.Claiming q c) ne k = tt
strikes_fits d half reg mask (hand.Running r) ne k = (struck_fits d r half reg mask ne k.0, k.1)
strikes_fits d half reg mask (hand.Acquiring r t c) ne k = (struck_fits d r half reg mask ne k.0, k.1, record { inside = k.2.inside; new = k.2.new; left = k.2.left })
strikes_fits d half reg mask (hand.Flushing r c held f) ne k = (struck_fits d r half reg mask ne k.0, k.1, k.2)
strikes_fits d half reg mask (hand.Unlocking r c held l) ne k = (struck_fits d r half reg mask ne k.0, k.1, k.2)
strikes_fits d half reg mask (hand.Leaving q l) ne k = tt
strikes_fits d half reg mask (hand.Recovering r) ne k = tt

pub back_fits : (d : MachineDesc) (h : Hand) → HandFits d h → HandFits d (comes_back h)
back_fits d hand.Down k = tt
back_fits d hand.Seek k = tt
back_fits d (hand.Claiming q c) k = tt
back_fits d (hand.Running r) k = k
back_fits d (hand.Acquiring r t c) k = k
back_fits d (hand.Flushing r c held f) k = k
back_fits d (hand.Unlocking r c held l) k = k
back_fits d (hand.Leaving q l) k = tt
back_fits d (hand.Recovering r) k = tt

module _ (d : MachineDesc) (m : Machine) (fits : HandsFit d m) where
  hand_after : (p : ℕ) (next : Hand) → HandFits d next → (r : ℕ) → HandFits d (update m.hand p next r)
  hand_after p next is r = update_cases (HandFits d) m.hand p next r (λ e. is) (λ ne. fits.hands r)

  cache_after : (p : ℕ) (next : _) → IsCache next → (r : ℕ) → IsCache (update m.cache p next r)
  cache_after p next is r = update_cases IsCache m.cache p next r (λ e. is) (λ ne. fits.caches r)

  stop_fits : (p : ℕ) → HandsFit d (stopped m p)
  stop_fits p = record { hands = hand_after p hand.Down tt; caches = cache_after p _ (empty_is (m.cache p) (fits.caches p)) }

  hand_fits : (p : ℕ) (next : Hand) → HandFits d next → HandsFit d (record m { hand = update m.hand p next })
  hand_fits p next is = record { hands = hand_after p next is; caches = fits.caches }

  after_fits : (described : IsDescription d) (p : ℕ) (t : Turn) → TurnFits d described m p (fits.caches p) t → HandsFit d (after_turn d m p t)
  after_fits described p (Moves move) k = record { hands = hand_after p move.hand k.0; caches = cache_after p move.cache k.1 }
  after_fits described p (Looks next move) k = record { hands = hand_after p move.hand k.0; caches = cache_after p move.cache k.1 }
  after_fits described p (Copies_unit i) k = record { hands = fits.hands; caches = fits.caches }
  after_fits described p Stops k = stop_fits p

  -- what isn't spoken of may change
  same : (n : Machine) → n.hand ≡ m.hand → n.cache ≡ m.cache → HandsFit d n
  same n h c = record { hands = λ p. subst (λ f. HandFits d (f p)) (sym h) (fits.hands p); caches = λ p. subst (λ f. IsCache (f p)) (sym c) (fits.caches p) }

pub events_keep_hands_fit : EventsKeepHandsFit
events_keep_hands_fit d m (event.Processor p) described ok st takes fits =
    after_fits d m fits described p.0 (turn d m p.0 (m.hand p.0)) (turned d described m p.0 (fits.caches p.0) takes (m.hand p.0) refl (st.hands.hands p.0) (fits.hands p.0))
events_keep_hands_fit d m (event.Io i) described ok st takes fits = cond_both (rests d m i.0) _ _ (HandsFit d) (λ _. fits) (λ _. same d m fits _ refl refl)
events_keep_hands_fit d m (event.Input l byte) described ok st takes fits = same d m fits _ refl refl
events_keep_hands_fit d m (event.Close l) described ok st takes fits = same d m fits _ refl refl
events_keep_hands_fit d m (event.Fail (element.Processor p)) described ok st takes fits = cond_both (is_down (m.hand p.0)) _ _ (HandsFit d) (λ _. fits) (λ _. stop_fits d m fits p.0)
events_keep_hands_fit d m (event.Fail (element.Memory i)) described ok st takes fits = same d m fits _ refl refl
events_keep_hands_fit d m (event.Fail (element.Io i)) described ok st takes fits = same d m fits _ refl refl
events_keep_hands_fit d m (event.Repair (element.Processor p)) described ok st takes fits = hand_fits d m fits p.0 (comes_back (m.hand p.0)) (back_fits d (m.hand p.0) (fits.hands p.0))
events_keep_hands_fit d m (event.Repair (element.Memory i)) described ok st takes fits = same d m fits _ refl refl
events_keep_hands_fit d m (event.Repair (element.Io i)) described ok st takes fits = same d m fits _ refl refl
events_keep_hands_fit d m (event.Upset p half reg mask) described ok st takes fits = hand_fits d m fits p.0 (strikes half reg mask (m.hand p.0)) (strikes_fits d half reg mask (m.hand p.0) ok.other (fits.hands p.0))
events_keep_hands_fit d m (event.Hangup l) described ok st takes fits = same d m fits _ refl refl
