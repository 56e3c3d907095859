-- A turn of a running process is one of the same process.
use Rattle.std.proofs.Common.{◌≡◌, ℕ, not, ◌+◌, ◌/◌, ◌^◌, ◌==◌, ◌&&◌, nat_lt, List, Option, Some, None, length, slice_index, refl}
use Rattle.std.proofs.lemmas.Bool.{cond_both}
use Rattle.seq_words.specs.declared.description.MachineDesc.{MachineDesc}
use Rattle.seq_rv32.specs.declared.effects.Effect.{Effect}
use Rattle.seq_rv32.specs.declared.effects.Effect.TheVariants as effect
use Rattle.seq_pair.specs.declared.halves.Turn.{Turn}
use Rattle.seq_pair.specs.declared.halves.Turn.TheVariants as turn
use Rattle.seq_layout.specs.Copies.{Copies}
use Rattle.seq_process.specs.declared.running.Running.{Running}
use Rattle.seq_cache.specs.Changes.{Changes}
use Rattle.seq_kernel.specs.Turns.{Turned}
use Rattle.seq_words.specs.Masks.{has_bit}
use Rattle.seq_words.specs.Description.{process_of}
use Rattle.seq_isa.specs.Meaning.{register}
use Rattle.seq_flat.specs.Memory.{bytes_from}
use Rattle.seq_kernel.specs.Views.{seen, read_by}
use Rattle.seq_kernel.specs.Outboxes.{needed}
use Rattle.seq_kernel.specs.Calls.{acquire, release, read, put_out, written, write, numbered, call_of, lines_of, line_index, line_word, agree_on_call}
use Rattle.seq_kernel.specs.Steps.{after_effect, after_turn, pair_turn, step_of}

-- the turn left the same process running
pub record IsSame (r : Running) (t : Turned) : Type 0 where
  pub pid : t.running.pid ≡ r.pid

module _ (d : MachineDesc) (p : Copies) (r : Running) (c : Changes) where
  acquire_same : (t : ℕ) → IsSame r (acquire d r c t)
  unfolding acquire
  acquire_same t =
      cond_both (not (nat_lt t (length d.segments))) _ _ (IsSame r) (λ _. record { pid = refl }) (λ _.
      cond_both (not (has_bit (process_of d r.pid.0).grants t)) _ _ (IsSame r) (λ _. record { pid = refl }) (λ _.
      cond_both (has_bit r.held t) _ _ (IsSame r) (λ _. record { pid = refl }) (λ _.
      cond_both (nat_lt 0 (r.held / 2 ^ (t + 1))) _ _ (IsSame r) (λ _. record { pid = refl }) (λ _. record { pid = refl }))))

  release_same : (t : ℕ) → IsSame r (release d r c t)
  unfolding release
  release_same t = cond_both (nat_lt t (length d.segments) && has_bit r.held t) _ _ (IsSame r) (λ _. record { pid = refl }) (λ _. record { pid = refl })

  read_same : (l : ℕ) → IsSame r (read d p r c l)
  unfolding read
  read_same l =
      cond_both (not (has_bit (lines_of d r) l)) _ _ (IsSame r) (λ _. record { pid = refl }) (λ _.
      cond_both (nat_lt (slice_index r.reads (line_index d r l)) (line_word d p l 0)) _ _ (IsSame r) (λ _. record { pid = refl }) (λ _.
      cond_both (line_word d p l 1 == 1) _ _ (IsSame r) (λ _. record { pid = refl }) (λ _. record { pid = refl })))

  put_out_same : (l : ℕ) (bytes : List ℕ) → IsSame r (put_out d p r c l bytes)
  put_out_same l bytes =
      let j = line_index d r l in
      let from = slice_index r.writes j in
      cond_both (nat_lt 1048576 (from + length bytes)) _ _ (IsSame r) (λ _. record { pid = refl }) (λ _.
      cond_both (nat_lt (256 + line_word d p l 2) (from + length bytes)) _ _ (IsSame r) (λ _. record { pid = refl }) (λ _.
      cond_both (nat_lt c.capacity (length c.changes + needed c r.pid.0 j from (length bytes))) _ _ (IsSame r) (λ _. record { pid = refl }) (λ _. record { pid = refl })))

  written_same : (l : ℕ) (bytes : Option (List ℕ)) → IsSame r (written d p r c l bytes)
  written_same l (Some bytes) = put_out_same l bytes
  written_same l None = record { pid = refl }

  write_same : (l at count : ℕ) → IsSame r (write d p r c l at count)
  unfolding write
  write_same l at count =
      cond_both (not (has_bit (lines_of d r) l)) _ _ (IsSame r) (λ _. record { pid = refl }) (λ _.
      cond_both (nat_lt 64 count) _ _ (IsSame r) (λ _. record { pid = refl }) (λ _. written_same l (bytes_from (seen d r.pid.0 r.held (read_by d p c)) at count)))

  numbered_same : (x : ℕ → ℕ) → IsSame r (numbered d p r c x)
  unfolding numbered
  numbered_same x =
      cond_both (x 17 == 0) _ _ (IsSame r) (λ _. record { pid = refl }) (λ _.
      cond_both (x 17 == 1) _ _ (IsSame r) (λ _. acquire_same (x 10)) (λ _.
      cond_both (x 17 == 2) _ _ (IsSame r) (λ _. release_same (x 10)) (λ _.
      cond_both (x 17 == 3) _ _ (IsSame r) (λ _. read_same (x 10)) (λ _.
      cond_both (x 17 == 4) _ _ (IsSame r) (λ _. write_same (x 10) (x 11) (x 12)) (λ _.
      cond_both (x 17 == 5) _ _ (IsSame r) (λ _. record { pid = refl }) (λ _.
      cond_both (x 17 == 6) _ _ (IsSame r) (λ _. record { pid = refl }) (λ _.
      cond_both (x 17 == 7) _ _ (IsSame r) (λ _. record { pid = refl }) (λ _. record { pid = refl }))))))))

  call_same : IsSame r (call_of d p r c)
  unfolding call_of
  call_same = cond_both (agree_on_call r.pair) _ _ (IsSame r) (λ _. numbered_same (register r.pair.a)) (λ _. record { pid = refl })

  effect_same : (e : Effect) → IsSame r (after_effect d p r c e)
  effect_same (effect.Next wrote store next) = record { pid = refl }
  effect_same effect.Call = call_same
  effect_same (effect.Trap code) = record { pid = refl }
  effect_same effect.Full = record { pid = refl }

  turn_same : (t : Turn) → IsSame r (after_turn d p r c t)
  turn_same (turn.Agreed e) = effect_same e
  turn_same turn.Diverged = record { pid = refl }

  pub step_same : IsSame r (step_of d p r c)
  unfolding step_of
  step_same = turn_same (pair_turn d p r c)
