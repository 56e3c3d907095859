-- The segments that a step asks for or releases are of the description.
use Rattle.std.proofs.Common.{◌≡◌, ◌⊎◌, inl, inr, ℕ, ◌+◌, ◌-◌, ◌/◌, ◌^◌, ◌<◌, Bool, true, false, not, ◌&&◌, ◌==◌, nat_lt, List, length, Option, Some, None, refl, ap, sym, ◌∙◌, subst, arith}
use Rattle.std.specs.Prelude.{slice_index}
use Rattle.std.proofs.lemmas.Bool.{cases_eq, cond_both, and_parts, ltb-true, true≢false, false≢true}
use Rattle.std.proofs.lemmas.Nat.Bits.{bit_at-zero}
use Rattle.seq_words.specs.Masks.{has_bit}
use Rattle.seq_words.specs.declared.description.MachineDesc.{MachineDesc}
use Rattle.seq_words.specs.Description.{process_of}
use Rattle.seq_isa.specs.Meaning.{register}
use Rattle.seq_rv32.specs.declared.effects.Effect.{Effect}
use Rattle.seq_rv32.specs.declared.effects.Effect.TheVariants as effect
use Rattle.seq_flat.specs.Memory.{bytes_from}
use Rattle.seq_pair.specs.declared.halves.Turn.{Turn as PairTurn}
use Rattle.seq_pair.specs.declared.halves.Turn.TheVariants as pair_turned
use Rattle.seq_layout.specs.Copies.{Copies}
use Rattle.seq_process.specs.declared.running.Running.{Running}
use Rattle.seq_cache.specs.Changes.{Changes}
use Rattle.seq_kernel.specs.declared.outcomes.Outcome.{Outcome}
use Rattle.seq_kernel.specs.declared.outcomes.Outcome.TheVariants as outcome
use Rattle.seq_kernel.specs.declared.outcomes.Cause.{Cause}
use Rattle.seq_kernel.specs.declared.outcomes.Cause.TheVariants as cause
use Rattle.seq_kernel.specs.Views.{read_by, seen}
use Rattle.seq_kernel.specs.Outboxes.{needed}
use Rattle.seq_kernel.specs.Turns.{Turned}
use Rattle.seq_kernel.specs.Calls.{lines_of, line_index, line_word, acquire, release, read, put_out, written, write, numbered, agree_on_call, call_of}
use Rattle.seq_kernel.specs.Steps.{after_effect, after_turn as turned_pair, pair_turn, step_of}
use Rattle.seq_kernel.proofs.RefineCallsBits.{bit_on_other, bit_off_here, bit_off_other}
use Rattle.seq_kernel.proofs.TurnCauses.{turns_have_their_cause}
use Rattle.seq_turns.specs.Causes.{released}
use Rattle.seq_lines.specs.Inside.{IsMask}

abbrev pub CauseIsInside : MachineDesc → Cause → Type 0
CauseIsInside d (cause.Release t) = t.0 < length d.segments
CauseIsInside d cause.Exit = Unit {0}
CauseIsInside d cause.Trap = Unit {0}
CauseIsInside d cause.Commit = Unit {0}
CauseIsInside d cause.Yield = Unit {0}
CauseIsInside d (cause.Wait why) = Unit {0}
CauseIsInside d cause.Room = Unit {0}
CauseIsInside d cause.Quantum = Unit {0}

abbrev pub AsksInside : MachineDesc → Outcome → Type 0
AsksInside d outcome.Done = Unit {0}
AsksInside d (outcome.Claim t) = t.0 < length d.segments
AsksInside d (outcome.NeedsFlush c) = CauseIsInside d c
AsksInside d (outcome.Waits why) = Unit {0}
AsksInside d outcome.Diverged = Unit {0}

pub step_asks : (d : MachineDesc) (p : Copies) (r : Running) (c : Changes) → AsksInside d (step_of d p r c).outcome
step_asks d p r c = inside (step_of d p r c).outcome refl
  where
    flushes : (why : Cause) → (step_of d p r c).outcome ≡ outcome.NeedsFlush why → CauseIsInside d why
    flushes (cause.Release t) is = (((turns_have_their_cause d p r c).flushes (cause.Release t) (λ e. cc) (λ e. cc)).0 is).1.known
    flushes cause.Exit is = tt
    flushes cause.Trap is = tt
    flushes cause.Commit is = tt
    flushes cause.Yield is = tt
    flushes (cause.Wait why) is = tt
    flushes cause.Room is = tt
    flushes cause.Quantum is = tt

    inside : (o : Outcome) → (step_of d p r c).outcome ≡ o → AsksInside d o
    inside outcome.Done is = tt
    inside (outcome.Claim t) is = (((turns_have_their_cause d p r c).claims t).0 is).1.known
    inside (outcome.NeedsFlush why) is = flushes why is
    inside (outcome.Waits why) is = tt
    inside outcome.Diverged is = tt

no_bit : (t : ℕ) → has_bit 0 t ≡ false
no_bit t = rw (bit_at-zero t) refl

pub zero_mask : (d : MachineDesc) → IsMask d 0
zero_mask d t bit = absurd (false≢true (sym (no_bit t) ∙ bit))

one_mask : (d : MachineDesc) (s : ℕ) → s < length d.segments → IsMask d (2 ^ s)
one_mask d s lt t bit = go (cases_eq t s)
  where
    go : (t ≡ s) ⊎ (t ≡ s → ⊥) → t < length d.segments
    go (inl e) = subst (λ x. x < length d.segments) (sym e) lt
    go (inr ne) =
        let sum : 0 + 2 ^ s ≡ 2 ^ s = omega arith in
        absurd (false≢true (sym (no_bit t) ∙ sym (bit_on_other 0 s t ne (no_bit s)) ∙ ap (λ n. has_bit n t) sum ∙ bit))

-- the segments that a cause releases
pub released_mask : (d : MachineDesc) (held : ℕ) (c : Cause) → IsMask d held → CauseIsInside d c → IsMask d (released held c)
released_mask d held (cause.Release t) mask inside = one_mask d t.0 inside
released_mask d held cause.Exit mask inside = mask
released_mask d held cause.Trap mask inside = mask
released_mask d held cause.Commit mask inside = zero_mask d
released_mask d held cause.Yield mask inside = zero_mask d
released_mask d held (cause.Wait why) mask inside = zero_mask d
released_mask d held cause.Room mask inside = zero_mask d
released_mask d held cause.Quantum mask inside = zero_mask d

-- with one segment less
pub less_mask : (d : MachineDesc) (mask s : ℕ) → has_bit mask s ≡ true → IsMask d mask → IsMask d (mask - 2 ^ s)
less_mask d mask s own inside t bit = go (cases_eq t s)
  where
    go : (t ≡ s) ⊎ (t ≡ s → ⊥) → t < length d.segments
    go (inl e) = absurd (false≢true (sym (bit_off_here mask s own) ∙ subst (λ x. has_bit (mask - 2 ^ s) x ≡ true) e bit))
    go (inr ne) = inside t (sym (bit_off_other mask s t ne own) ∙ bit)
