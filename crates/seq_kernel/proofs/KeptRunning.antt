-- What a running process keeps in each kind of step.
use Rattle.std.proofs.Common.{◌≡◌, ◌≢◌, ℕ, ◌+◌, ◌-◌, ◌%◌, ◌^◌, ◌<◌, ◌≤◌, true, false, List, length, inl, inr, arith, refl, sym, ◌∙◌, subst, length-set, get_or-set_same, get_or-set_other}
use Rattle.std.specs.Prelude.{slice_index, slice_set, Option, Some, None}
use Rattle.std.proofs.lemmas.Bool.{cases_eq, false≢true}
use Rattle.std.proofs.lemmas.List.Elements.{All-weaker}
use Rattle.std.proofs.lemmas.Nat.Bits.{bit_at-zero}
use Rattle.seq_words.specs.Masks.{has_bit}
use Rattle.seq_words.specs.declared.description.MachineDesc.{MachineDesc}
use Rattle.seq_words.specs.declared.half.Half.{Half}
use Rattle.seq_words.specs.declared.half.Half.TheVariants.{A, B}
use Rattle.seq_words.specs.declared.regs.Regs.{Regs}
use Rattle.seq_isa.specs.Meaning.{following}
use Rattle.seq_flat.specs.declared.state.End.{End}
use Rattle.seq_pair.specs.declared.halves.Pair.{Pair}
use Rattle.seq_pair.specs.Halves.{other_half, struck}
use Rattle.seq_pair.specs.Turns.{IsAligned}
use Rattle.seq_process.specs.declared.running.Running.{Running}
use Rattle.seq_cache.specs.declared.change.Change.{Change}
use Rattle.seq_kernel.specs.Turns.{counted, half_answered, answered, ended}
use Rattle.seq_kernel.specs.Calls.{granted}
use Rattle.seq_kernel.specs.Bounds.{IsWithin, IsRunning}
use Rattle.seq_kernel.specs.Kept.{IsZero, ZerosOf, HasZeros, IsOwn, IsBeside, OwnBlocksAreBeside, GrantsKeepBounds, StrikesKeepBounds}
use Rattle.seq_kernel.proofs.Halves.{aligned_left}
use Rattle.seq_kernel.proofs.RefineCallsBits.{bit_off_here, bit_off_other, bit_on_here, bit_on_other}

-- no bit of zero is set
no_bit_of_zero : (t : ℕ) → has_bit 0 t ≡ false
no_bit_of_zero t = rw (bit_at-zero t) refl

follows : (r : Regs) → r.pc % 4 ≡ 0 → following r % 4 ≡ 0
follows r h = omega arith

-- after an answer pc is a multiple of four again
answered_aligned : (h : Option Half) (a b : Regs) (answer : ℕ) → IsAligned h a b → IsAligned h (half_answered a answer) (half_answered b answer)
answered_aligned None a b answer is = (follows a is.0, follows b is.1)
answered_aligned (Some A) a b answer is = follows b is
answered_aligned (Some B) a b answer is = follows a is

-- and x0 is 0
half_zero : (a : Regs) (answer : ℕ) → IsZero a → IsZero (half_answered a answer)
half_zero a answer zero = get_or-set_other a.x 10 0 answer 0 (λ e. omega arith) ∙ zero

zeros_of : (h : Option Half) (a b : Regs) (answer : ℕ) → ZerosOf h a b → ZerosOf h (half_answered a answer) (half_answered b answer)
zeros_of None a b answer zeros = (half_zero a answer zeros.0, half_zero b answer zeros.1)
zeros_of (Some A) a b answer zeros = half_zero b answer zeros
zeros_of (Some B) a b answer zeros = half_zero a answer zeros

pub answered_zeros : (r : Running) (answer : ℕ) → HasZeros r.pair → HasZeros (answered r answer).pair
answered_zeros r answer zeros = zeros_of r.pair.struck r.pair.a r.pair.b answer zeros

-- with another pair
pub with_pair : (d : MachineDesc) (r : Running) (pair : Pair) → IsWithin d r → IsAligned pair.struck pair.a pair.b → IsWithin d (record r { pair = pair })
with_pair d r pair is aligned = record {
  process = is.process;
  aligned = aligned;
  held = is.held;
  positions = record { reads = is.positions.reads; writes = is.positions.writes };
  reads = is.reads;
  writes = is.writes;
  steps = is.steps;
  used = is.used;
}

-- with other segments
held_within : (d : MachineDesc) (r : Running) (held : ℕ) → IsWithin d r → ((u : ℕ) → has_bit held u ≡ true → u < length d.segments) → IsWithin d (record r { held = held })
held_within d r held is below = record {
  process = is.process;
  aligned = is.aligned;
  held = below;
  positions = record { reads = is.positions.reads; writes = is.positions.writes };
  reads = is.reads;
  writes = is.writes;
  steps = is.steps;
  used = is.used;
}

-- with a step more
counted_within : (d : MachineDesc) (r : Running) → IsWithin d r → r.used < d.quantum → IsWithin d (counted r)
counted_within d r is left = record {
  process = is.process;
  aligned = is.aligned;
  held = is.held;
  positions = record { reads = is.positions.reads; writes = is.positions.writes };
  reads = is.reads;
  writes = is.writes;
  steps = omega (arith, is.steps);
  used = omega (arith, left);
}

-- a step with another pair
pub went_within : (d : MachineDesc) (r : Running) (pair : Pair) → IsRunning d r → IsAligned pair.struck pair.a pair.b → IsWithin d (counted (record r { pair = pair }))
went_within d r pair is aligned = counted_within d (record r { pair = pair }) (with_pair d r pair is.within aligned) is.left

-- the step of a call that is answered
pub answered_within : (d : MachineDesc) (r : Running) (answer : ℕ) → IsRunning d r → IsWithin d (answered r answer)
answered_within d r answer is = went_within d r _ is (answered_aligned r.pair.struck r.pair.a r.pair.b answer is.within.aligned)

-- the step with which a process ends
pub ended_within : (d : MachineDesc) (r : Running) (end : End) → IsRunning d r → IsWithin d (ended r end)
ended_within d r end is =
    let none : IsWithin d (record r { held = 0 }) = held_within d r 0 is.within (λ t held. absurd (false≢true (sym (no_bit_of_zero t) ∙ held))) in
    let after : IsWithin d (record r { end = end; held = 0 }) = record {
      process = none.process;
      aligned = none.aligned;
      held = none.held;
      positions = record { reads = none.positions.reads; writes = none.positions.writes };
      reads = none.reads;
      writes = none.writes;
      steps = none.steps;
      used = none.used;
    } in
    counted_within d (record r { end = end; held = 0 }) after is.left

-- numbers stay within a bound
set_within : (xs : List ℕ) (i value most : ℕ) → i < length xs → ((j : ℕ) → slice_index xs j ≤ most) → value ≤ most → (j : ℕ) → slice_index (slice_set xs i value) j ≤ most
set_within xs i value most inside all new j = elim (cases_eq j i) [
  | inl same ↦ rw (same, get_or-set_same xs i value 0 inside) new
  | inr other ↦ rw (get_or-set_other xs i j value 0 other) (all j)
]

-- another position
pub read_running : (d : MachineDesc) (r : Running) (i value : ℕ) → IsRunning d r → i < 4 → value ≤ d.journal → IsRunning d (record r { reads = slice_set r.reads i value })
read_running d r i value is few new =
    let bounds : IsWithin d r = is.within in
    let inside : i < length r.reads = omega (arith, few, bounds.positions.reads) in
    record {
      within = record {
        process = bounds.process;
        aligned = bounds.aligned;
        held = bounds.held;
        positions = record { reads = length-set r.reads i value ∙ bounds.positions.reads; writes = bounds.positions.writes };
        reads = set_within r.reads i value d.journal inside bounds.reads new;
        writes = bounds.writes;
        steps = bounds.steps;
        used = bounds.used;
      };
      live = is.live;
      left = is.left;
    }

pub written_running : (d : MachineDesc) (r : Running) (i value : ℕ) → IsRunning d r → i < 4 → value ≤ 1048576 → IsRunning d (record r { writes = slice_set r.writes i value })
written_running d r i value is few new =
    let bounds : IsWithin d r = is.within in
    let inside : i < length r.writes = omega (arith, few, bounds.positions.writes) in
    record {
      within = record {
        process = bounds.process;
        aligned = bounds.aligned;
        held = bounds.held;
        positions = record { reads = bounds.positions.reads; writes = length-set r.writes i value ∙ bounds.positions.writes };
        reads = bounds.reads;
        writes = set_within r.writes i value 1048576 inside bounds.writes new;
        steps = bounds.steps;
        used = bounds.used;
      };
      live = is.live;
      left = is.left;
    }

-- other segments
held_running : (d : MachineDesc) (r : Running) (held : ℕ) → IsRunning d r → ((u : ℕ) → has_bit held u ≡ true → u < length d.segments) → IsRunning d (record r { held = held })
held_running d r held is below = record { within = held_within d r held is.within below; live = is.live; left = is.left }

pub released_running : (d : MachineDesc) (r : Running) (t : ℕ) → IsRunning d r → has_bit r.held t ≡ true → IsRunning d (record r { held = r.held - 2 ^ t })
released_running d r t is own = held_running d r (r.held - 2 ^ t) is (λ u there.
    elim (cases_eq u t) [
      | inl same ↦ absurd (false≢true (sym (bit_off_here r.held t own) ∙ subst (λ n. has_bit (r.held - 2 ^ t) n ≡ true) same there))
      | inr other ↦ is.within.held u (sym (bit_off_other r.held t u other own) ∙ there)
    ])

-- one segment more
taken_running : (d : MachineDesc) (r : Running) (t : ℕ) → IsRunning d r → t < length d.segments → has_bit r.held t ≡ false → IsRunning d (record r { held = r.held + 2 ^ t })
taken_running d r t is below free = held_running d r (r.held + 2 ^ t) is (λ u there.
    elim (cases_eq u t) [
      | inl same ↦ subst (λ n. n < length d.segments) (sym same) below
      | inr other ↦ is.within.held u (sym (bit_on_other r.held t u other free) ∙ there)
    ])

pub still_held : (held t u : ℕ) → has_bit held t ≡ false → has_bit held u ≡ true → has_bit (held + 2 ^ t) u ≡ true
still_held held t u free own = elim (cases_eq u t) [
  | inl same ↦ subst (λ n. has_bit (held + 2 ^ t) n ≡ true) (sym same) (bit_on_here held t free)
  | inr other ↦ bit_on_other held t u other free ∙ own
]

still_own : (d : MachineDesc) (r : Running) (t : ℕ) → has_bit r.held t ≡ false → (change : Change) → IsOwn d r.pid.0 r.held change → IsOwn d r.pid.0 (r.held + 2 ^ t) change
still_own d r t free change own = record {
  place = own.place;
  owned = elim own.owned [
    | inl private ↦ inl private
    | inr shared ↦ inr (shared.0, still_held r.held t shared.0 free shared.1, shared.2)
  ];
}

-- An acquire that its lock grants keeps the bounds.
pub grants_keep_bounds : GrantsKeepBounds
grants_keep_bounds d r t is below free =
    let after : IsWithin d (granted r t) = answered_within d (record r { held = r.held + 2 ^ t }) 0 (taken_running d r t is below free) in
    record {
      within = after;
      zeros = λ zeros. answered_zeros (record r { held = r.held + 2 ^ t }) 0 zeros;
      own = λ changes own. All-weaker (IsOwn d r.pid.0 r.held) (IsOwn d r.pid.0 (r.held + 2 ^ t)) (still_own d r t free) changes own;
    }

own_beside : (d : MachineDesc) (pid held : ℕ) → pid < length d.processes → (change : Change) → IsOwn d pid held change → IsBeside d pid change
own_beside d pid held below change own = record {
  place = own.place;
  beside = λ same. elim own.owned [
    | inl private ↦ private.1
    | inr shared ↦ absurd (let is = shared.2 in omega arith)
  ];
}

-- The process's own blocks are blocks of extents, and none of its context.
pub own_blocks_are_beside : OwnBlocksAreBeside
own_blocks_are_beside d r changes below own = All-weaker (IsOwn d r.pid.0 r.held) (IsBeside d r.pid.0) (own_beside d r.pid.0 r.held below) changes own

-- after a strike, the half that isn't struck is as it was
zeros_left : (p : Pair) (half : Half) (reg mask : ℕ) → p.struck ≢ Some (other_half half) → HasZeros p → HasZeros (struck p half reg mask)
zeros_left p A reg mask other is = go p.struck other is
  where
    go : (s : Option Half) → s ≢ Some B → ZerosOf s p.a p.b → IsZero p.b
    go None differ is = is.1
    go (Some A) differ is = is
    go (Some B) differ is = absurd (differ refl)
zeros_left p B reg mask other is = go p.struck other is
  where
    go : (s : Option Half) → s ≢ Some A → ZerosOf s p.a p.b → IsZero p.a
    go None differ is = is.0
    go (Some A) differ is = absurd (differ refl)
    go (Some B) differ is = is

-- A strike at a half, where the other isn't struck, keeps the bounds.
pub strikes_keep_bounds : StrikesKeepBounds
strikes_keep_bounds d r half reg mask other = (λ is. with_pair d r (struck r.pair half reg mask) is (aligned_left r.pair half reg mask other is.aligned), zeros_left r.pair half reg mask other)
