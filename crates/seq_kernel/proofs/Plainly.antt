-- What a turn of the pair was, and what the step comes to, by what the code keeps of the turn.
use Rattle.std.proofs.Common.{◌≡◌, ◌⊎◌, inl, inr, ℕ, Bool, true, false, refl, Some, None, ap, sym, ◌∙◌}
use Rattle.std.proofs.lemmas.Bool.{true≢false}
use Rattle.seq_words.specs.declared.description.MachineDesc.{MachineDesc}
use Rattle.seq_rv32.specs.declared.effects.Effect.TheVariants as effect
use Rattle.seq_pair.specs.declared.halves.Turn.{Turn}
use Rattle.seq_pair.specs.declared.halves.Turn.TheVariants as turn
use Rattle.seq_pair.specs.Turns.{pair_after, port_after}
use Rattle.seq_layout.specs.Copies.{Copies}
use Rattle.seq_process.specs.declared.running.Running.{Running}
use Rattle.seq_cache.specs.Changes.{Changes}
use Rattle.seq_kernel.specs.declared.outcomes.Outcome.TheVariants.{Done}
use Rattle.seq_kernel.specs.declared.steps.Kind.{Kind}
use Rattle.seq_kernel.specs.declared.steps.Kind.TheVariants as kind
use Rattle.seq_kernel.specs.Views.{stored}
use Rattle.seq_kernel.specs.Turns.{counted}
use Rattle.seq_kernel.specs.Calls.{call_of}
use Rattle.seq_kernel.specs.Steps.{kind_of, is_plain, after_turn}

-- a plain turn is a step, after which the process goes on
pub plain_step : (d : MachineDesc) (p : Copies) (r : Running) (c : Changes) (t : Turn) → is_plain t ≡ true →
    after_turn d p r c t ≡ record { outcome = Done; running = counted (record r { pair = pair_after r.pair t }); cache = port_after (stored d r.pid.0 r.held p) c t }
plain_step d p r c (turn.Agreed (effect.Next wrote None next)) k = refl
plain_step d p r c (turn.Agreed (effect.Next wrote (Some s) next)) k = refl
plain_step d p r c (turn.Agreed effect.Call) k = absurd (cc)
plain_step d p r c (turn.Agreed (effect.Trap code)) k = absurd (cc)
plain_step d p r c (turn.Agreed effect.Full) k = absurd (cc)
plain_step d p r c turn.Diverged k = absurd (cc)

-- what the code calls made is plain
pub made_plain : (t : Turn) → kind_of t ≡ kind.Made → is_plain t ≡ true
made_plain (turn.Agreed (effect.Next wrote store next)) k = refl
made_plain (turn.Agreed effect.Call) k = absurd (cc)
made_plain (turn.Agreed (effect.Trap code)) k = absurd (cc)
made_plain (turn.Agreed effect.Full) k = absurd (cc)
made_plain turn.Diverged k = absurd (cc)

-- what the code calls a call is one
pub call_agreed : (t : Turn) → kind_of t ≡ kind.Call → t ≡ turn.Agreed effect.Call
call_agreed (turn.Agreed (effect.Next wrote store next)) k = absurd (cc)
call_agreed (turn.Agreed effect.Call) k = refl
call_agreed (turn.Agreed (effect.Trap code)) k = absurd (cc)
call_agreed (turn.Agreed effect.Full) k = absurd (cc)
call_agreed turn.Diverged k = absurd (cc)

-- a call is made over what stood before, since the turn changed nothing
pub called : (d : MachineDesc) (p : Copies) (r after : Running) (c left : Changes) (t : Turn) → t ≡ turn.Agreed effect.Call → after ≡ record r { pair = pair_after r.pair t } → left ≡ port_after (stored d r.pid.0 r.held p) c t →
    (after ≡ r) × (call_of d p after left ≡ after_turn d p r c t)
called d p r after c left t calls is_after is_left =
    let same : after ≡ r = is_after ∙ ap (λ (x : Turn). record r { pair = pair_after r.pair x }) calls in
    let same_left : left ≡ c = is_left ∙ ap (λ (x : Turn). port_after (stored d r.pid.0 r.held p) c x) calls in
    (same, (λ i. call_of d p (same i) (same_left i)) ∙ sym (ap (after_turn d p r c) calls))

abbrev pub is_made : Kind → Bool
is_made kind.Made = true
is_made kind.Call = false
is_made (kind.Trap code) = false
is_made kind.Full = false
is_made kind.Diverged = false

-- any other turn isn't plain, and changes nothing
pub left_alone : (d : MachineDesc) (p : Copies) (r : Running) (c : Changes) (t : Turn) (k : Kind) → kind_of t ≡ k → is_made k ≡ false →
    (is_plain t ≡ false) × (record r { pair = pair_after r.pair t } ≡ r) × (port_after (stored d r.pid.0 r.held p) c t ≡ c)
left_alone d p r c (turn.Agreed (effect.Next wrote store next)) k e other = absurd (true≢false (ap is_made e ∙ other))
left_alone d p r c (turn.Agreed effect.Call) k e other = (refl, refl, refl)
left_alone d p r c (turn.Agreed (effect.Trap code)) k e other = (refl, refl, refl)
left_alone d p r c (turn.Agreed effect.Full) k e other = (refl, refl, refl)
left_alone d p r c turn.Diverged k e other = (refl, refl, refl)

-- each kind that the code names beside it is another one
pub other_kinds : (k : Kind) → (k ≡ kind.Call) ⊎ (((code : ℕ) × (k ≡ kind.Trap code)) ⊎ ((k ≡ kind.Full) ⊎ (k ≡ kind.Diverged))) → is_made k ≡ false
other_kinds k (inl e) = ap is_made e
other_kinds k (inr (inl (code, e))) = ap is_made e
other_kinds k (inr (inr (inl e))) = ap is_made e
other_kinds k (inr (inr (inr e))) = ap is_made e
