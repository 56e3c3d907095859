-- A step leaves the cache its capacity.
use Rattle.std.proofs.Common.{◌≡◌, ℕ, ◌+◌, Bool, true, false, not, ◌==◌, if◌then◌else◌, nat_lt, List, [], ◌∷◌, length, Option, Some, None, refl, ap}
use Rattle.std.specs.Prelude.{slice_index}
use Rattle.seq_words.specs.Masks.{has_bit}
use Rattle.seq_words.specs.declared.description.MachineDesc.{MachineDesc}
use Rattle.seq_isa.specs.Meaning.{register}
use Rattle.seq_flat.specs.Memory.{bytes_from}
use Rattle.seq_rv32.specs.declared.effects.Effect.{Effect}
use Rattle.seq_rv32.specs.declared.effects.Effect.TheVariants as effect
use Rattle.seq_pair.specs.declared.halves.Turn.{Turn}
use Rattle.seq_pair.specs.declared.halves.Turn.TheVariants as turn
use Rattle.seq_layout.specs.declared.extents.Extent.{Extent}
use Rattle.seq_layout.specs.Copies.{Copies}
use Rattle.seq_segments.specs.Map.{mapped}
use Rattle.seq_process.specs.declared.running.Running.{Running}
use Rattle.seq_cache.specs.Changes.{Changes, with_change}
use Rattle.seq_kernel.specs.Views.{Blocks, read_by, seen, stored_at, stored, with_store}
use Rattle.seq_kernel.specs.Outboxes.{needed, outbox_block, filled_block, blocks_filled, touched}
use Rattle.seq_kernel.specs.Turns.{Turned}
use Rattle.seq_kernel.specs.Calls.{lines_of, line_index, line_word, put_out, written, write, numbered, call_of, agree_on_call}
use Rattle.seq_kernel.specs.Steps.{after_effect, after_turn, pair_turn, step_of}
use Rattle.seq_kernel.proofs.CallCases.{acquire_cache, release_cache, read_cache}

-- the cache may hold as many changes as before
record KeepsCapacity (c : Changes) (t : Turned) : Type 0 where
  pub kept : t.cache.capacity ≡ c.capacity

-- what holds both ways of a choice
either_way : (P : Turned → Type 0) (test : Bool) (x y : Turned) → P x → P y → P (if test then x else y)
either_way P true x y p q = p
either_way P false x y p q = q

filled_keeps : (o : Blocks) (e index from : ℕ) (bytes : List ℕ) (ks : List ℕ) (c : Changes) → (blocks_filled o c e index from bytes ks).capacity ≡ c.capacity
unfolding blocks_filled
filled_keeps o e index from bytes [] c = refl
filled_keeps o e index from bytes (k ∷ ks) c = filled_keeps o e index from bytes ks (with_change c e (outbox_block index k) (filled_block from bytes k (o e (outbox_block index k))))

module _ (d : MachineDesc) (p : Copies) (r : Running) (c : Changes) where
  put_out_keeps : (l : ℕ) (bytes : List ℕ) → KeepsCapacity c (put_out d p r c l bytes)
  put_out_keeps l bytes =
      let i = line_index d r l in
      let from = slice_index r.writes i in
      either_way (KeepsCapacity c) (nat_lt 1048576 (from + length bytes)) _ _ (record { kept = refl })
      (either_way (KeepsCapacity c) (nat_lt (256 + line_word d p l 2) (from + length bytes)) _ _ (record { kept = refl })
      (either_way (KeepsCapacity c) (nat_lt c.capacity (length c.changes + needed c r.pid.0 i from (length bytes))) _ _ (record { kept = refl })
      (record { kept = filled_keeps (read_by d p c) r.pid.0 i from bytes (touched from (length bytes)) c })))

  written_keeps : (l : ℕ) (bytes : Option (List ℕ)) → KeepsCapacity c (written d p r c l bytes)
  written_keeps l (Some bytes) = put_out_keeps l bytes
  written_keeps l None = record { kept = refl }

  write_keeps : (l at count : ℕ) → KeepsCapacity c (write d p r c l at count)
  unfolding write
  write_keeps l at count =
      either_way (KeepsCapacity c) (not (has_bit (lines_of d r) l)) _ _ (record { kept = refl })
      (either_way (KeepsCapacity c) (nat_lt 64 count) _ _ (record { kept = refl })
      (written_keeps l (bytes_from (seen d r.pid.0 r.held (read_by d p c)) at count)))

  numbered_keeps : (x : ℕ → ℕ) → KeepsCapacity c (numbered d p r c x)
  unfolding numbered
  numbered_keeps x =
      either_way (KeepsCapacity c) (x 17 == 0) _ _ (record { kept = refl })
      (either_way (KeepsCapacity c) (x 17 == 1) _ _ (record { kept = ap (λ k. k.capacity) (acquire_cache d r c (x 10)) })
      (either_way (KeepsCapacity c) (x 17 == 2) _ _ (record { kept = ap (λ k. k.capacity) (release_cache d r c (x 10)) })
      (either_way (KeepsCapacity c) (x 17 == 3) _ _ (record { kept = ap (λ k. k.capacity) (read_cache d p r c (x 10)) })
      (either_way (KeepsCapacity c) (x 17 == 4) _ _ (write_keeps (x 10) (x 11) (x 12))
      (either_way (KeepsCapacity c) (x 17 == 5) _ _ (record { kept = refl })
      (either_way (KeepsCapacity c) (x 17 == 6) _ _ (record { kept = refl })
      (either_way (KeepsCapacity c) (x 17 == 7) _ _ (record { kept = refl }) (record { kept = refl }))))))))

  call_keeps : KeepsCapacity c (call_of d p r c)
  unfolding call_of
  call_keeps = either_way (KeepsCapacity c) (agree_on_call r.pair) _ _ (numbered_keeps (register r.pair.a)) (record { kept = refl })

  place_keeps : (at : Option (Extent × ℕ)) (width value : ℕ) → (stored_at (read_by d p c) c at width value).capacity ≡ c.capacity
  place_keeps (Some at) width value = refl
  place_keeps None width value = refl

  store_keeps : (s : Option (ℕ × ℕ × ℕ)) → (with_store d r.pid.0 r.held p c s).capacity ≡ c.capacity
  unfolding stored
  store_keeps (Some s) = place_keeps (mapped d r.pid.0 r.held s.0) s.1 s.2
  store_keeps None = refl

  effect_keeps : (e : Effect) → KeepsCapacity c (after_effect d p r c e)
  effect_keeps (effect.Next wrote store next) = record { kept = store_keeps store }
  effect_keeps effect.Call = call_keeps
  effect_keeps (effect.Trap code) = record { kept = refl }
  effect_keeps effect.Full = record { kept = refl }

  turn_keeps : (t : Turn) → KeepsCapacity c (after_turn d p r c t)
  turn_keeps (turn.Agreed e) = effect_keeps e
  turn_keeps turn.Diverged = record { kept = refl }

  pub capacity_stays : (step_of d p r c).cache.capacity ≡ c.capacity
  unfolding step_of
  capacity_stays = (turn_keeps (pair_turn d p r c)).kept
