-- What a store and a write leave of the cache: it has room for them, and they change blocks of the process's own.
use Rattle.std.proofs.Common.{◌≡◌, ◌≢◌, ◌⊎◌, ℕ, zero, suc, ◌+◌, ◌-◌, ◌/◌, ◌%◌, ◌<◌, ◌≤◌, true, ◌&&◌, ◌==◌, nat_lt, All, List, [], ◌∷◌, length, Option, Some, None, inl, inr, arith, refl, subst, add-one}
use Rattle.std.specs.Prelude.{count_ones}
use Rattle.std.proofs.lemmas.Bool.{cond_both, and_parts, true_from_ne_false}
use Rattle.std.proofs.lemmas.List.Elements.{All-head, All-tail}
use Rattle.std.proofs.lemmas.Option.{none-some, same_Some}
use Rattle.seq_words.specs.Masks.{has_bit}
use Rattle.seq_words.specs.Description.{IsDescription, process_of, segment_of}
use Rattle.seq_words.specs.declared.description.MachineDesc.{MachineDesc}
use Rattle.seq_isa.specs.Meaning.{Outcome, moves}
use Rattle.seq_rv32.specs.declared.port.Admit.{Admit}
use Rattle.seq_rv32.specs.declared.port.Admit.TheVariants.{Full}
use Rattle.seq_rv32.specs.declared.effects.Effect.TheVariants as effect
use Rattle.seq_rv32.specs.Effects.{effect_of, unless_full}
use Rattle.seq_layout.specs.declared.extents.Extent.{Extent}
use Rattle.seq_layout.specs.Shapes.{Shape, shape_of, segment_extent}
use Rattle.seq_layout.specs.Copies.{Copies}
use Rattle.seq_process.specs.declared.running.Running.{Running}
use Rattle.seq_cache.specs.Changes.{Changes, IsCache, admits, with_change}
use Rattle.seq_cache.specs.Overlay.{overlay}
use Rattle.seq_cache.proofs.LawsHold.{admitted_fits}
use Rattle.seq_cache.proofs.Puts.{All-put}
use Rattle.seq_segments.specs.Map.{before_private, mapped}
use Rattle.seq_kernel.specs.Views.{Blocks, read_by, block_stored, admission_at, admission, stored_at, stored, with_store}
use Rattle.seq_kernel.specs.Outboxes.{outbox_block, filled_block, touched_count, touched_block, touched, needed, blocks_filled, outbox_filled}
use Rattle.seq_kernel.specs.Bounds.{IsRunning}
use Rattle.seq_kernel.specs.Kept.{IsOwn, AreOwn}
use Rattle.seq_kernel.proofs.CallPlaces.{mapped_place, outbox_place}
use Rattle.seq_kernel.proofs.OutboxFills.{IsFilling, filling_begins, filling_more, filling_ends}
use Rattle.seq_kernel.proofs.RefineCallsPlaces.{touched_below}
use Rattle.seq_kernel.proofs.RefineStepsPair.{effect_moves}

-- an instruction that stores does so where the port isn't full
pub never_full : (admission : ℕ → ℕ → Admit) (o : Outcome) (w : Option (ℕ × ℕ)) (s : ℕ × ℕ × ℕ) (n : ℕ) → effect_of admission o ≡ effect.Next w (Some s) n → admission s.0 s.1 ≢ Full
never_full admission o w s n is full =
    let same : effect_of admission (moves w (Some s) n) ≡ effect.Next w (Some s) n = subst (λ x. effect_of admission x ≡ effect.Next w (Some s) n) (effect_moves admission o w (Some s) n is) is in
    let none : unless_full Full (effect.Next w (Some s) n) ≡ effect.Next w (Some s) n = subst (λ x. unless_full x (effect.Next w (Some s) n) ≡ effect.Next w (Some s) n) full same in
    absurd (cc)

-- a block of an extent is past the context of the process, or of a segment that it holds
abbrev IsOwned : MachineDesc → Running → ℕ → ℕ → Type 0
IsOwned d r e n = ((e ≡ r.pid.0) × (8 ≤ n)) ⊎ ((t : ℕ) × (has_bit r.held t ≡ true) × (e ≡ segment_extent (shape_of d) t))

-- the block of a byte
abbrev OwnsByte : MachineDesc → Running → Extent × ℕ → Type 0
OwnsByte d r at = IsOwned d r at.0.0 (at.1 / 32)

-- so is the block of each address
mapped_owned : (d : MachineDesc) (r : Running) (a : ℕ) (at : Extent × ℕ) → mapped d r.pid.0 r.held a ≡ Some at → OwnsByte d r at
unfolding mapped
mapped_owned d r a at found =
    let t : ℕ = (a - 0x40000000) / 0x10000 in
    let offset : ℕ = (a - 0x40000000) % 0x10000 in
    cond_both (nat_lt a (process_of d r.pid.0).size) (Some (record { 0 = r.pid.0 }, before_private (process_of d r.pid.0) + a)) _ (λ (o : Option (Extent × ℕ)). o ≡ Some at → OwnsByte d r at)
    (λ low is. subst (OwnsByte d r) (same_Some (record { 0 = r.pid.0 }, before_private (process_of d r.pid.0) + a) at is) (inl (refl, omega arith)))
    (λ beyond. cond_both (nat_lt a 0x40000000) None _ (λ (o : Option (Extent × ℕ)). o ≡ Some at → OwnsByte d r at)
    (λ between is. absurd (none-some at is))
    (λ high. cond_both ((nat_lt t (length d.segments) && has_bit r.held t) && nat_lt offset (segment_of d t).size) (Some (record { 0 = length d.processes + t }, offset)) None (λ (o : Option (Extent × ℕ)). o ≡ Some at → OwnsByte d r at)
    (λ shared is.
    let held = (and_parts (nat_lt t (length d.segments)) (has_bit r.held t) (and_parts (nat_lt t (length d.segments) && has_bit r.held t) _ shared).0).1 in
    subst (OwnsByte d r) (same_Some (record { 0 = length d.processes + t }, offset) at is) (inr (t, held, refl)))
    (λ outside is. absurd (none-some at is)))) found

module _ (d : MachineDesc) (r : Running) (c : Changes) (described : IsDescription d) (running : IsRunning d r) where
  -- a store at a place
  at_cached : (o : Blocks) (at : Option (Extent × ℕ)) (width value : ℕ) → admission_at c at ≢ Full → IsCache c → IsCache (stored_at o c at width value)
  at_cached o (Some at) width value fits is = admitted_fits c at.0.0 (at.1 / 32) (block_stored (o at.0.0 (at.1 / 32)) (at.1 % 32) width value) is (true_from_ne_false (admits c at.0.0 (at.1 / 32)) (λ none. fits (rw none refl)))
  at_cached o None width value fits is = is

  at_own : (o : Blocks) (a : ℕ) (at : Option (Extent × ℕ)) (width value : ℕ) → mapped d r.pid.0 r.held a ≡ at → AreOwn d r c.changes → AreOwn d r (stored_at o c at width value).changes
  at_own o a (Some at) width value is own =
      All-put (IsOwn d r.pid.0 r.held) c.changes at.0.0 (at.1 / 32) (block_stored (o at.0.0 (at.1 / 32)) (at.1 % 32) width value)
      (record { place = mapped_place d (shape_of d) r.pid.0 r.held a at described refl running.within.process is; owned = mapped_owned d r a at is }) own
  at_own o a None width value is own = own

  -- the store of an instruction
  pub store_cached : (p : Copies) (store : Option (ℕ × ℕ × ℕ)) → ((s : ℕ × ℕ × ℕ) → store ≡ Some s → admission d r.pid.0 r.held c s.0 s.1 ≢ Full) → IsCache c → IsCache (with_store d r.pid.0 r.held p c store)
  unfolding stored admission
  store_cached p (Some s) fits is = at_cached (read_by d p c) (mapped d r.pid.0 r.held s.0) s.1 s.2 (fits s refl) is
  store_cached p None fits is = is

  pub store_own : (p : Copies) (store : Option (ℕ × ℕ × ℕ)) → AreOwn d r c.changes → AreOwn d r (with_store d r.pid.0 r.held p c store).changes
  unfolding stored
  store_own p (Some s) own = at_own (read_by d p c) s.0 (mapped d r.pid.0 r.held s.0) s.1 s.2 refl own
  store_own p None own = own

  -- the blocks of an outbox are the process's own
  filled_own : (o : Blocks) (index from : ℕ) (bytes ks : List ℕ) (c : Changes) → index < count_ones (process_of d r.pid.0).lines → All (λ k. k < 8) ks → All (IsOwn d r.pid.0 r.held) c.changes → All (IsOwn d r.pid.0 r.held) (blocks_filled o c r.pid.0 index from bytes ks).changes
  unfolding blocks_filled
  filled_own o index from bytes [] c few below own = own
  filled_own o index from bytes (k ∷ ks) c few below own =
      let b = filled_block from bytes k (o r.pid.0 (outbox_block index k)) in
      let small : k < 8 = All-head (λ (k : ℕ). k < 8) k ks below in
      filled_own o index from bytes ks (with_change c r.pid.0 (outbox_block index k) b) few (All-tail (λ (k : ℕ). k < 8) k ks below)
      (All-put (IsOwn d r.pid.0 r.held) c.changes r.pid.0 (outbox_block index k) b
      (record { place = outbox_place d (shape_of d) r.pid.0 index k described refl running.within.process few small; owned = inl (refl, omega arith) }) own)

  pub outbox_own : (o : Blocks) (index from : ℕ) (bytes : List ℕ) → index < count_ones (process_of d r.pid.0).lines → AreOwn d r c.changes → AreOwn d r (outbox_filled o c r.pid.0 index from bytes).changes
  outbox_own o index from bytes few own = filled_own o index from bytes (touched from (length bytes)) c few (touched_below from (length bytes)) own

-- at most three blocks are touched
touched_few : (from count : ℕ) → count ≤ 64 → touched_count from count ≤ 3
touched_few from count few = cond_both (count == 0) 0 ((from % 32 + count - 1) / 32 + 1) (λ (n : ℕ). n ≤ 3) (λ none. omega arith) (λ some. omega arith)

module _ (s : Shape) (p : Copies) (c : Changes) (e index from : ℕ) (bytes : List ℕ) (is : IsCache c) (few : length bytes ≤ 64) (room : length c.changes + needed c e index from (length bytes) ≤ c.capacity) where
  abbrev count : ℕ
  count = touched_count from (length bytes)

  -- each of them has room
  filling : (i : ℕ) → i ≤ count → (after : Changes) × IsFilling s p c after e index from bytes count i
  filling zero le = (c, filling_begins s p c e index from bytes count is refl few room)
  filling (suc i) le =
      let (before, holds) = filling i (omega arith) in
      let k = touched_block from i in
      let at = outbox_block index k in
      let block = overlay s p before.changes e at in
      let filled = filled_block from bytes k block in
      let after = with_change before e at filled in
      (after, subst (IsFilling s p c after e index from bytes count) (add-one i) (filling_more s p c before after e index from bytes count i k at block filled holds (omega arith) (touched_few from (length bytes) few) refl refl refl refl refl))

  pub outbox_cached : IsCache (outbox_filled (overlay s p c.changes) c e index from bytes)
  outbox_cached =
      let (last, holds) = filling count (omega arith) in
      subst IsCache (filling_ends s p c last e index from bytes count count holds (omega arith)) holds.cache
