-- Who isn't out has a process, if any, in two equal halves of which none is struck.
use Rattle.std.proofs.Common.{◌≡◌, ◌⊎◌, inl, inr, ℕ, true, false, ◌||◌, ◌&&◌, Option, Some, None, slice_index, List, [], ◌∷◌, reverse, refl, ap, sym, ◌∙◌, subst, eq-eqb}
use Rattle.std.proofs.lemmas.Bool.{cond-true, cases_Bool, and_from, and_left, and_right, or_parts, or_from, or_left, or_right, not_from_true, not_from_false, true≢false, false≢true}
use Rattle.std.proofs.lemmas.Option.{none-some}
use Rattle.seq_words.specs.declared.description.MachineDesc.{MachineDesc}
use Rattle.seq_words.specs.declared.events.Event.{Event}
use Rattle.seq_words.specs.declared.half.Half.{Half}
use Rattle.seq_words.specs.declared.regs.Regs.{Regs}
use Rattle.seq_rv32.specs.declared.effects.Effect.{Effect}
use Rattle.seq_rv32.specs.declared.effects.Effect.TheVariants as effect
use Rattle.seq_pair.specs.declared.halves.Pair.{Pair}
use Rattle.seq_pair.specs.declared.halves.Turn.TheVariants as turned
use Rattle.seq_pair.specs.Turns.{same_written, same_stored, same_effect, effect_at}
use Rattle.seq_process.specs.declared.running.Running.{Running}
use Rattle.seq_cache.specs.Changes.{Changes}
use Rattle.seq_layout.specs.Copies.{Copies}
use Rattle.seq_kernel.specs.Views.{read_by, seen, admission}
use Rattle.seq_kernel.specs.Calls.{call_of}
use Rattle.seq_kernel.specs.Steps.{after_effect, after_turn, pair_turn, step_of}
use Rattle.seq_kernel.specs.declared.outcomes.Outcome.TheVariants.{Diverged}
use Rattle.seq_kernel.proofs.Causes.{diverges_exactly}
use Rattle.seq_kernel.proofs.TurnCauses.{turns_keep_halves}
use Rattle.seq_turns.specs.declared.hand.Hand.{Hand}
use Rattle.seq_turns.specs.declared.hand.Hand.TheVariants as hand
use Rattle.seq_turns.specs.Machines.{Machine, Turn}
use Rattle.seq_turns.specs.Machines.Turn.{Moves, Looks, Copies_unit, Stops}
use Rattle.seq_turns.specs.Causes.{same_numbers, agree}
use Rattle.seq_turns.specs.Processors.{turn}
use Rattle.seq_turns.specs.Events.{stops, happens}
use Rattle.seq_schedule.specs.Outs.{processor, fails, repairs, upsets, is_turn_of, has_failed_last, is_mended, is_out}
use Rattle.seq_invariant.specs.Orders.{running_in}
use Rattle.seq_covered.specs.Downs.{DownIsOut, StruckIsOut, DifferingIsOut}
use Rattle.seq_covered.proofs.Moments.{moment, AllMade, in_order, made_in_order}
use Rattle.seq_covered.proofs.Turned.{Says, TurnSays, Lasts, turn_says, own_turn, own_happens, elsewhere, mended_seeks}

-- ---- equal halves

written_itself : (w : Option (ℕ × ℕ)) → same_written w w ≡ true
written_itself None = refl
written_itself (Some v) = and_from _ _ (eq-eqb v.0 v.0 refl) (eq-eqb v.1 v.1 refl)

stored_itself : (s : Option (ℕ × ℕ × ℕ)) → same_stored s s ≡ true
stored_itself None = refl
stored_itself (Some s) = and_from _ _ (and_from _ _ (eq-eqb s.0 s.0 refl) (eq-eqb s.1 s.1 refl)) (eq-eqb s.2 s.2 refl)

effect_itself : (e : Effect) → same_effect e e ≡ true
effect_itself (effect.Next w s n) = and_from _ _ (and_from _ _ (written_itself w) (stored_itself s)) (eq-eqb n n refl)
effect_itself effect.Call = refl
effect_itself (effect.Trap c) = eq-eqb c c refl
effect_itself effect.Full = refl

numbers_themselves : (xs : List ℕ) → same_numbers xs xs ≡ true
numbers_themselves [] = refl
numbers_themselves (x ∷ xs) = and_from _ _ (eq-eqb x x refl) (numbers_themselves xs)

equal_agree : (pair : Pair) → pair.a ≡ pair.b → agree pair ≡ true
unfolding agree
equal_agree pair e = and_from _ _ (eq-eqb _ _ (ap (λ (h : Regs). h.pc) e)) (subst (λ (h : Regs). same_numbers pair.a.x h.x ≡ true) e (numbers_themselves pair.a.x))

-- they agree on an effect, and on a call
module _ (d : MachineDesc) (p : Copies) (r : Running) (c : Changes) (equal : r.pair.a ≡ r.pair.b) where
  abbrev first : Effect
  first = effect_at (admission d r.pid.0 r.held c) (seen d r.pid.0 r.held (read_by d p c)) r.pair.a

  agreed : pair_turn d p r c ≡ turned.Agreed first
  agreed = cond-true _ _ _ (and_from _ _ (eq-eqb _ _ (ap (λ (h : Regs). h.pc) equal))
      (subst (λ h. same_effect first (effect_at (admission d r.pid.0 r.held c) (seen d r.pid.0 r.held (read_by d p c)) h) ≡ true) equal (effect_itself first)))

  goes_on : (e : Effect) → (after_effect d p r c e).outcome ≡ Diverged → ⊥
  goes_on (effect.Next w s n) o = let no : ⊥ = cc in no
  goes_on effect.Call o = (diverges_exactly d p r c (call_of d p r c).outcome refl).0 o (record { pc = ap (λ (h : Regs). h.pc) equal; argument = λ i low high. ap (λ (h : Regs). slice_index h.x i) equal })
  goes_on (effect.Trap code) o = let no : ⊥ = cc in no
  goes_on effect.Full o = let no : ⊥ = cc in no

  never_differ : (step_of d p r c).outcome ≡ Diverged → ⊥
  unfolding step_of
  never_differ o = goes_on first (ap (λ t. (after_turn d p r c t).outcome) (sym agreed) ∙ o)

-- ---- a sound hand

abbrev Unhurt : Pair → Type 0
Unhurt pair = (pair.struck ≡ None) × (pair.a ≡ pair.b)

abbrev pub Sound : Hand → Type 0
Sound h = Says Unhurt (Unit {0}) ⊥ h

lasts : (d : MachineDesc) (m : Machine) (p : ℕ) → Lasts d m p Unhurt (Unit {0}) ⊥
lasts d m p = record {
  steps = λ r is. let k = (turns_keep_halves d m.copies r (m.cache p)).0 in (k.struck ∙ is.0, k.equal is.1);
  grants = λ r t is. let k = (turns_keep_halves d m.copies r (m.cache p)).1 t in (k.struck ∙ is.0, k.equal is.1);
  starts = λ q. (refl, refl);
  begins = λ q e. tt;
  differs = λ pair is f. true≢false (sym (equal_agree pair is.1) ∙ f);
  diverges = λ r is e. never_differ d m.copies r (m.cache p) is.1 e;
}

-- its turn doesn't stop it
goes_on_soundly : (d : MachineDesc) (m : Machine) (p : ℕ) → Sound (m.hand p) → stops (turn d m p (m.hand p)) ≡ true → ⊥
goes_on_soundly d m p sound = go (turn d m p (m.hand p)) (turn_says d m p Unhurt (Unit {0}) ⊥ (lasts d m p) (m.hand p) sound sound)
  where
    go : (t : Turn) → TurnSays Unhurt (Unit {0}) ⊥ t → stops t ≡ true → ⊥
    go (Moves move) is e = false≢true e
    go (Looks next move) is e = false≢true e
    go (Copies_unit i) is e = false≢true e
    go Stops is e = is

struck_one : (x r : Running) (half : Half) → x.pair.struck ≡ None → Some x ≡ Some r → r.pair.struck ≡ Some half → ⊥
struck_one x r half none e s = let same : x ≡ r = cc in none-some half (sym none ∙ ap (λ (y : Running). y.pair.struck) same ∙ s)

unstruck : (h : Hand) (r : Running) (half : Half) → Sound h → running_in h ≡ Some r → r.pair.struck ≡ Some half → ⊥
unstruck hand.Down r half sound e s = sound
unstruck hand.Seek r half sound e s = none-some r e
unstruck (hand.Claiming q c) r half sound e s = none-some r e
unstruck (hand.Running x) r half sound e s = struck_one x r half sound.0 e s
unstruck (hand.Acquiring x t c) r half sound e s = struck_one x r half sound.0 e s
unstruck (hand.Flushing x why mask f) r half sound e s = struck_one x r half sound.0 e s
unstruck (hand.Unlocking x why mask l) r half sound e s = struck_one x r half sound.0 e s
unstruck (hand.Leaving q l) r half sound e s = none-some r e
unstruck (hand.Recovering x) r half sound e s = none-some r e

-- ---- who may have an unsound one

-- it is out, and isn't mended
abbrev pub Suspect : MachineDesc → List Event → ℕ → Type 0
Suspect d xs p = (is_out d xs (processor p) ≡ true) × (is_mended (processor p) xs ≡ false)

module _ (d : MachineDesc) (x : Event) (xs : List Event) (p : ℕ) where
  -- one that fails or is struck
  pub hurt : (fails (processor p) x || upsets (processor p) x) ≡ true → Suspect d (x ∷ xs) p
  hurt h = (or_left _ _ h, and_left _ _ (not_from_true _ h))

  -- one that isn't mended now
  pub still_suspect : is_out d xs (processor p) ≡ true → is_mended (processor p) (x ∷ xs) ≡ false → Suspect d (x ∷ xs) p
  still_suspect out none = (or_right _ _ (and_from _ _ out (not_from_false _ (and_left _ _ none))), none)

  pub unmended : Suspect d xs p → (repairs (processor p) x && has_failed_last (processor p) xs) ≡ false → Suspect d (x ∷ xs) p
  unmended was none = still_suspect was.0 (and_right _ _ (or_from _ _ none was.1))

abbrev SuspectOrSound : MachineDesc → List Event → ℕ → Type 0
SuspectOrSound d xs p = Suspect d xs p ⊎ Sound ((moment d xs).hand p)

pub suspect_or_sound : (d : MachineDesc) (xs : List Event) (p : ℕ) → AllMade d xs → SuspectOrSound d xs p
suspect_or_sound d [] p made = inr tt
suspect_or_sound d (x ∷ xs) p made = next (suspect_or_sound d xs p made.0) (cases_Bool (fails (processor p) x || upsets (processor p) x)) (cases_Bool (repairs (processor p) x)) (cases_Bool (is_turn_of (processor p) x))
  where
    sound_on : Sound ((moment d xs).hand p) → fails (processor p) x ≡ false → upsets (processor p) x ≡ false → repairs (processor p) x ≡ false → (is_turn_of (processor p) x ≡ true) ⊎ (is_turn_of (processor p) x ≡ false) → Sound ((happens d (moment d xs) x).hand p)
    sound_on sound fail upset repair (inl own) = subst (λ (n : Machine). Sound (n.hand p)) (sym (own_happens d (moment d xs) p x own)) (own_turn d (moment d xs) p Unhurt (Unit {0}) ⊥ (lasts d (moment d xs) p) sound)
    sound_on sound fail upset repair (inr other) = subst Sound (sym (elsewhere d (moment d xs) p x other fail repair upset)) sound

    next : SuspectOrSound d xs p → ((fails (processor p) x || upsets (processor p) x) ≡ true) ⊎ ((fails (processor p) x || upsets (processor p) x) ≡ false) → (repairs (processor p) x ≡ true) ⊎ (repairs (processor p) x ≡ false)
        → (is_turn_of (processor p) x ≡ true) ⊎ (is_turn_of (processor p) x ≡ false) → SuspectOrSound d (x ∷ xs) p
    next before (inl h) repair own = inl (hurt d x xs p h)
    next before (inr whole) (inl mends) own = inr (subst Sound (sym (mended_seeks d (moment d xs) p x made.1 mends)) tt)
    next (inl was) (inr whole) (inr none) own = inl (unmended d x xs p was (and_left _ _ none))
    next (inr sound) (inr whole) (inr none) own = inr (sound_on sound (or_parts _ _ whole).0 (or_parts _ _ whole).1 none own)

-- ---- the laws

pub down_is_out : DownIsOut
down_is_out d es p described may inside down = go (suspect_or_sound d (reverse es) p (made_in_order d es may))
  where
    go : SuspectOrSound d (reverse es) p → is_out d (reverse es) (processor p) ≡ true
    go (inl was) = was.0
    go (inr sound) = absurd (subst Sound (ap (λ (m : Machine). m.hand p) (sym (in_order d es)) ∙ down) sound)

pub struck_is_out : StruckIsOut
struck_is_out d es p r half described may inside has struck = go (suspect_or_sound d (reverse es) p (made_in_order d es may))
  where
    go : SuspectOrSound d (reverse es) p → is_out d (reverse es) (processor p) ≡ true
    go (inl was) = was.0
    go (inr sound) = absurd (unstruck ((moment d (reverse es)).hand p) r half sound (ap (λ (m : Machine). running_in (m.hand p)) (sym (in_order d es)) ∙ has) struck)

-- a turn that stops, after events that are listed the newest first
pub stopping_is_suspect : (d : MachineDesc) (xs : List Event) (p : ℕ) → AllMade d xs → stops (turn d (moment d xs) p ((moment d xs).hand p)) ≡ true → Suspect d xs p
stopping_is_suspect d xs p made ends = go (suspect_or_sound d xs p made)
  where
    go : SuspectOrSound d xs p → Suspect d xs p
    go (inl was) = was
    go (inr sound) = absurd (goes_on_soundly d (moment d xs) p sound ends)

pub differing_is_out : DifferingIsOut
differing_is_out d es p described may inside ends = (stopping_is_suspect d (reverse es) p (made_in_order d es may) (subst (λ (m : Machine). stops (turn d m p (m.hand p)) ≡ true) (in_order d es) ends)).0
