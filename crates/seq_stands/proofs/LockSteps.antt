-- What a turn of a running process makes of the segments that it holds.
use Rattle.std.proofs.Common.{◌≡◌, ◌≢◌, ◌⊎◌, ℕ, Bool, true, false, not, ◌+◌, ◌-◌, ◌/◌, ◌^◌, ◌<◌, ◌==◌, ◌&&◌, ◌||◌, nat_lt, List, Option, Some, None, length, slice_index, inl, inr, refl, ap, sym, ◌∙◌, subst, arith}
use Rattle.std.proofs.lemmas.Bool.{cond_both, cases_eq, and_parts, not-false, ltb-true, true≢false, false≢true}
use Rattle.seq_words.specs.Masks.{has_bit}
use Rattle.seq_words.specs.declared.description.MachineDesc.{MachineDesc}
use Rattle.seq_words.specs.Description.{process_of}
use Rattle.seq_isa.specs.Meaning.{register}
use Rattle.seq_flat.specs.Memory.{bytes_from}
use Rattle.seq_rv32.specs.declared.effects.Effect.{Effect}
use Rattle.seq_rv32.specs.declared.effects.Effect.TheVariants as effect
use Rattle.seq_pair.specs.declared.halves.Turn.{Turn}
use Rattle.seq_pair.specs.declared.halves.Turn.TheVariants as turn
use Rattle.seq_layout.specs.Copies.{Copies}
use Rattle.seq_process.specs.declared.running.Running.{Running}
use Rattle.seq_cache.specs.Changes.{Changes}
use Rattle.seq_kernel.specs.Views.{seen, read_by}
use Rattle.seq_kernel.specs.Outboxes.{needed}
use Rattle.seq_kernel.specs.declared.outcomes.Outcome.{Outcome}
use Rattle.seq_kernel.specs.declared.outcomes.Outcome.TheVariants as outcome
use Rattle.seq_kernel.specs.declared.outcomes.Cause.TheVariants as cause
use Rattle.seq_kernel.specs.Turns.{Turned}
use Rattle.seq_kernel.specs.Calls.{acquire, release, read, put_out, written, write, numbered, call_of, lines_of, line_index, line_word, agree_on_call}
use Rattle.seq_kernel.specs.Steps.{after_effect, after_turn, pair_turn, step_of}
use Rattle.seq_kernel.proofs.RefineCallsBits.{bit_off_here, bit_off_other, bit_on_here, bit_on_other}
use Rattle.seq_turns.specs.Causes.{released}

-- A step is taken, and the segments that it holds or is to release are those that it held.
pub record Steps (r s : Running) (mask : ℕ) : Type 0 where
  pub steps : s.steps ≡ r.steps + 1
  pub held : (t : ℕ) → (has_bit s.held t || has_bit mask t) ≡ has_bit r.held t
  -- what is to be released it holds no more
  pub given : (t : ℕ) → has_bit mask t ≡ true → has_bit s.held t ≡ false

abbrev pub HeldBy : MachineDesc → Running → Running → Outcome → Type 0
HeldBy d r s outcome.Done = Steps r s 0
HeldBy d r s (outcome.Claim t) = (t.0 < length d.segments) × (has_bit r.held t.0 ≡ false)
HeldBy d r s (outcome.NeedsFlush cause.Room) = s ≡ r
HeldBy d r s (outcome.NeedsFlush c) = Steps r s (released r.held c)
HeldBy d r s (outcome.Waits reason) = Unit {0}
HeldBy d r s outcome.Diverged = Unit {0}

pub record Holds (d : MachineDesc) (r : Running) (t : Turned) : Type 0 where
  pub by : HeldBy d r t.running t.outcome

pub no_bit : (t : ℕ) → has_bit 0 t ≡ false
no_bit t = search (Rattle.std.proofs.lemmas.Nat.Bits.bit_at-zero)

pub or_none : (b : Bool) → (b || false) ≡ b
or_none true = refl
or_none false = refl

pub or_first : (a b : Bool) → a ≡ true → (a || b) ≡ true
or_first true b e = refl
or_first false b e = absurd (false≢true e)

pub or_second : (a b : Bool) → b ≡ true → (a || b) ≡ true
or_second true b e = refl
or_second false b e = e

pub or_both : (a b c : Bool) → a ≡ c → b ≡ false → (a || b) ≡ c
or_both true b c e f = e
or_both false b c e f = f ∙ e

-- the mask of one segment
pub one_bit_here : (t : ℕ) → has_bit (2 ^ t) t ≡ true
one_bit_here t = let e : 0 + 2 ^ t ≡ 2 ^ t = omega arith in subst (λ x. has_bit x t ≡ true) e (bit_on_here 0 t (no_bit t))

pub one_bit_other : (t u : ℕ) → u ≢ t → has_bit (2 ^ t) u ≡ false
one_bit_other t u ne = let e : 0 + 2 ^ t ≡ 2 ^ t = omega arith in subst (λ x. has_bit x u ≡ false) e (bit_on_other 0 t u ne (no_bit t) ∙ no_bit u)

-- a segment that is given up goes to the mask
pub given_up : (held t u : ℕ) → has_bit held t ≡ true → (has_bit (held - 2 ^ t) u || has_bit (2 ^ t) u) ≡ has_bit held u
given_up held t u own = go (cases_eq u t)
  where
    go : (u ≡ t) ⊎ (u ≡ t → ⊥) → (has_bit (held - 2 ^ t) u || has_bit (2 ^ t) u) ≡ has_bit held u
    go (inl e) = or_second _ _ (ap (has_bit (2 ^ t)) e ∙ one_bit_here t) ∙ sym (ap (has_bit held) e ∙ own)
    go (inr ne) = or_both _ _ _ (bit_off_other held t u ne own) (one_bit_other t u ne)

pub one_given : (held t u : ℕ) → has_bit held t ≡ true → has_bit (2 ^ t) u ≡ true → has_bit (held - 2 ^ t) u ≡ false
one_given held t u own k = go (cases_eq u t)
  where
    go : (u ≡ t) ⊎ (u ≡ t → ⊥) → has_bit (held - 2 ^ t) u ≡ false
    go (inl e) = ap (has_bit (held - 2 ^ t)) e ∙ bit_off_here held t own
    go (inr ne) = absurd (true≢false (sym k ∙ one_bit_other t u ne))

module _ (d : MachineDesc) (p : Copies) (r : Running) (c : Changes) where
  -- a step that keeps them
  same : (t : Turned) → t.outcome ≡ outcome.Done → t.running.steps ≡ r.steps + 1 → t.running.held ≡ r.held → Holds d r t
  same t o s h = record { by = subst (HeldBy d r t.running) (sym o) (record { steps = s; held = λ u. or_both _ _ _ (ap (λ x. has_bit x u) h) (no_bit u); given = λ u k. absurd (true≢false (sym k ∙ no_bit u)) }) }

  acquire_held : (t : ℕ) → Holds d r (acquire d r c t)
  unfolding acquire
  acquire_held t =
      cond_both (not (nat_lt t (length d.segments))) _ _ (Holds d r) (λ _. same _ refl refl refl) (λ below.
      cond_both (not (has_bit (process_of d r.pid.0).grants t)) _ _ (Holds d r) (λ _. same _ refl refl refl) (λ _.
      cond_both (has_bit r.held t) _ _ (Holds d r) (λ _. same _ refl refl refl) (λ free.
      cond_both (nat_lt 0 (r.held / 2 ^ (t + 1))) _ _ (Holds d r) (λ _. same _ refl refl refl) (λ _.
      record { by = (ltb-true t (length d.segments) (not-false _ below), free) }))))

  release_held : (t : ℕ) → Holds d r (release d r c t)
  unfolding release
  release_held t = cond_both (nat_lt t (length d.segments) && has_bit r.held t) _ _ (Holds d r)
      (λ own. record { by = record { steps = refl; held = λ u. given_up r.held t u (and_parts (nat_lt t (length d.segments)) (has_bit r.held t) own).1; given = λ u. one_given r.held t u (and_parts (nat_lt t (length d.segments)) (has_bit r.held t) own).1 } })
      (λ _. same _ refl refl refl)

  read_held : (l : ℕ) → Holds d r (read d p r c l)
  unfolding read
  read_held l =
      cond_both (not (has_bit (lines_of d r) l)) _ _ (Holds d r) (λ _. same _ refl refl refl) (λ _.
      cond_both (nat_lt (slice_index r.reads (line_index d r l)) (line_word d p l 0)) _ _ (Holds d r) (λ _. same _ refl refl refl) (λ _.
      cond_both (line_word d p l 1 == 1) _ _ (Holds d r) (λ _. same _ refl refl refl) (λ _. record { by = tt })))

  put_out_held : (l : ℕ) (bytes : List ℕ) → Holds d r (put_out d p r c l bytes)
  put_out_held l bytes =
      let j = line_index d r l in
      let from = slice_index r.writes j in
      cond_both (nat_lt 1048576 (from + length bytes)) _ _ (Holds d r) (λ _. same _ refl refl refl) (λ _.
      cond_both (nat_lt (256 + line_word d p l 2) (from + length bytes)) _ _ (Holds d r) (λ _. record { by = tt }) (λ _.
      cond_both (nat_lt c.capacity (length c.changes + needed c r.pid.0 j from (length bytes))) _ _ (Holds d r) (λ _. record { by = refl }) (λ _. same _ refl refl refl)))

  written_held : (l : ℕ) (bytes : Option (List ℕ)) → Holds d r (written d p r c l bytes)
  written_held l (Some bytes) = put_out_held l bytes
  written_held l None = same _ refl refl refl

  write_held : (l at count : ℕ) → Holds d r (write d p r c l at count)
  unfolding write
  write_held l at count =
      cond_both (not (has_bit (lines_of d r) l)) _ _ (Holds d r) (λ _. same _ refl refl refl) (λ _.
      cond_both (nat_lt 64 count) _ _ (Holds d r) (λ _. same _ refl refl refl) (λ _. written_held l (bytes_from (seen d r.pid.0 r.held (read_by d p c)) at count)))

  -- all of them are to be released, or none
  all_held : (u : ℕ) → (has_bit 0 u || has_bit r.held u) ≡ has_bit r.held u
  all_held u = ap (λ b. b || has_bit r.held u) (no_bit u)

  none_held : (u : ℕ) → (has_bit r.held u || has_bit 0 u) ≡ has_bit r.held u
  none_held u = or_both _ _ _ refl (no_bit u)

  numbered_held : (x : ℕ → ℕ) → Holds d r (numbered d p r c x)
  unfolding numbered
  numbered_held x =
      cond_both (x 17 == 0) _ _ (Holds d r) (λ _. record { by = record { steps = refl; held = all_held; given = λ u k. no_bit u } }) (λ _.
      cond_both (x 17 == 1) _ _ (Holds d r) (λ _. acquire_held (x 10)) (λ _.
      cond_both (x 17 == 2) _ _ (Holds d r) (λ _. release_held (x 10)) (λ _.
      cond_both (x 17 == 3) _ _ (Holds d r) (λ _. read_held (x 10)) (λ _.
      cond_both (x 17 == 4) _ _ (Holds d r) (λ _. write_held (x 10) (x 11) (x 12)) (λ _.
      cond_both (x 17 == 5) _ _ (Holds d r) (λ _. same _ refl refl refl) (λ _.
      cond_both (x 17 == 6) _ _ (Holds d r) (λ _. record { by = record { steps = refl; held = none_held; given = λ u k. absurd (true≢false (sym k ∙ no_bit u)) } }) (λ _.
      cond_both (x 17 == 7) _ _ (Holds d r) (λ _. record { by = record { steps = refl; held = none_held; given = λ u k. absurd (true≢false (sym k ∙ no_bit u)) } }) (λ _. same _ refl refl refl))))))))

  call_held : Holds d r (call_of d p r c)
  unfolding call_of
  call_held = cond_both (agree_on_call r.pair) _ _ (Holds d r) (λ _. numbered_held (register r.pair.a)) (λ _. record { by = tt })

  effect_held : (e : Effect) → Holds d r (after_effect d p r c e)
  effect_held (effect.Next wrote store next) = same _ refl refl refl
  effect_held effect.Call = call_held
  effect_held (effect.Trap code) = record { by = record { steps = refl; held = all_held; given = λ u k. no_bit u } }
  effect_held effect.Full = record { by = refl }

  turn_held : (t : Turn) → Holds d r (after_turn d p r c t)
  turn_held (turn.Agreed e) = effect_held e
  turn_held turn.Diverged = record { by = tt }

  pub step_held : Holds d r (step_of d p r c)
  unfolding step_of
  step_held = turn_held (pair_turn d p r c)
