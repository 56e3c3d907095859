-- A turn of a processor leaves room in the outboxes for what its process has written.
use Rattle.std.proofs.Common.{◌≡◌, ◌⊎◌, inl, inr, ℕ, ◌+◌, ◌-◌, ◌/◌, ◌^◌, ◌<◌, ◌≤◌, Bool, true, false, not, ◌&&◌, ◌==◌, nat_lt, nat_le, List, length, Option, Some, None, refl, sym, subst, arith, get_or-set_same, get_or-set_other}
use Rattle.std.specs.Prelude.{slice_index, slice_set}
use Rattle.std.proofs.lemmas.Bool.{cases_eq, cond_both, ltb-false, true≢false}
use Rattle.seq_words.specs.Masks.{has_bit}
use Rattle.seq_words.specs.Description.{IsDescription, line_count, process_of}
use Rattle.seq_words.specs.declared.names.Seg.{Seg}
use Rattle.seq_words.specs.declared.description.MachineDesc.{MachineDesc}
use Rattle.seq_isa.specs.Meaning.{register}
use Rattle.seq_rv32.specs.declared.effects.Effect.{Effect}
use Rattle.seq_rv32.specs.declared.effects.Effect.TheVariants as effect
use Rattle.seq_flat.specs.Memory.{bytes_from}
use Rattle.seq_pair.specs.declared.halves.Turn.{Turn as PairTurn}
use Rattle.seq_pair.specs.declared.halves.Turn.TheVariants as pair_turned
use Rattle.seq_layout.specs.Shapes.{shape_of}
use Rattle.seq_layout.specs.Copies.{Copies}
use Rattle.seq_process.specs.declared.running.Running.{Running}
use Rattle.seq_cache.specs.Changes.{Changes}
use Rattle.seq_kernel.specs.declared.outcomes.Outcome.{Outcome}
use Rattle.seq_kernel.specs.declared.outcomes.Outcome.TheVariants as outcome
use Rattle.seq_kernel.specs.declared.outcomes.Cause.{Cause}
use Rattle.seq_kernel.specs.declared.outcomes.Cause.TheVariants as cause
use Rattle.seq_kernel.specs.declared.outcomes.Reason.TheVariants as reason
use Rattle.seq_kernel.specs.Views.{read_by, seen}
use Rattle.seq_kernel.specs.Outboxes.{needed}
use Rattle.seq_kernel.specs.Turns.{Turned}
use Rattle.seq_kernel.specs.Calls.{lines_of, line_index, line_word, acquire, release, read, put_out, written, write, numbered, agree_on_call, call_of}
use Rattle.seq_kernel.specs.Bounds.{IsWithin}
use Rattle.seq_kernel.specs.Steps.{after_effect, after_turn as turned_pair, pair_turn, step_of}
use Rattle.seq_kernel.proofs.CallPlaces.{line_below, index_few, own_lines_few}
use Rattle.seq_kernel.proofs.RefineCallsBits.{index_apart}
use Rattle.seq_turns.specs.Functions.{lowest}
use Rattle.seq_turns.specs.Machines.{Machine, Turn}
use Rattle.seq_turns.specs.Machines.Turn.{Moves, Looks, Copies_unit, Stops}
use Rattle.seq_turns.specs.Causes.{after_releases, release_next, follows, agree, finds, released}
use Rattle.seq_turns.specs.Processors.{after_step, runs, acquisition}
use Rattle.seq_locks.specs.Turns.{is_taken, word_at}
use Rattle.seq_turns.specs.Reading.{lock_word}
use Rattle.seq_lines.specs.Lines.{HasRoom, HandHasRoom}

-- each sent word that is read says no more than was sent, of a line that isn't hung up
pub record SaysSent (d : MachineDesc) (p : Copies) (sent : ℕ → List ℕ) (hung : ℕ → Bool) : Type 0 where
  pub word : (l : ℕ) → l < line_count d → hung l ≡ false → line_word d p l 2 ≤ length (sent l)

-- a step leaves room
module _ (d : MachineDesc) (p : Copies) (sent : ℕ → List ℕ) (hung : ℕ → Bool) (r : Running) (c : Changes) (described : IsDescription d) (within : IsWithin d r) (says : SaysSent d p sent hung) (room : HasRoom d sent hung r) where
  abbrev TurnedHasRoom : Turned → Type 0
  TurnedHasRoom t = HasRoom d sent hung t.running

  put_out_room : (l : ℕ) (bytes : List ℕ) → has_bit (lines_of d r) l ≡ true → TurnedHasRoom (put_out d p r c l bytes)
  put_out_room l bytes own =
      let i : ℕ = line_index d r l in
      let from : ℕ = slice_index r.writes (line_index d r l) in
      cond_both (nat_lt 1048576 (from + length bytes)) _ _ TurnedHasRoom (λ _. room) (λ _.
      cond_both (nat_lt (256 + line_word d p l 2) (from + length bytes)) _ _ TurnedHasRoom (λ _. room) (λ fits.
      cond_both (nat_lt c.capacity (length c.changes + needed c r.pid.0 i from (length bytes))) _ _ TurnedHasRoom (λ _. room) (λ _. more (ltb-false (256 + line_word d p l 2) (from + length bytes) fits))))
    where
      more : slice_index r.writes (line_index d r l) + length bytes ≤ 256 + line_word d p l 2 → HasRoom d sent hung (record r { writes = slice_set r.writes (line_index d r l) (slice_index r.writes (line_index d r l) + length bytes) })
      more fits k own_k open_yet = go (cases_eq k l)
        where
          go : (k ≡ l) ⊎ (k ≡ l → ⊥) → slice_index (slice_set r.writes (line_index d r l) (slice_index r.writes (line_index d r l) + length bytes)) (line_index d r k) ≤ length (sent k) + 256
          go (inl e) =
              let few : line_index d r l < length r.writes = let a = index_few d r.pid.0 l described within.process own in let b = own_lines_few d r.pid.0 described within.process in let w = within.positions.writes in omega (arith, a, b, w) in
              let put = get_or-set_same r.writes (line_index d r l) (slice_index r.writes (line_index d r l) + length bytes) 0 few in
              let word : line_word d p l 2 ≤ length (sent l) = says.word l (line_below d r.pid.0 l described within.process own) (subst (λ x. hung x ≡ false) e open_yet) in
              subst (λ x. slice_index (slice_set r.writes (line_index d r l) (slice_index r.writes (line_index d r l) + length bytes)) (line_index d r x) ≤ length (sent x) + 256) (sym e) (omega (arith, put, word, fits))
          go (inr ne) =
              let other = get_or-set_other r.writes (line_index d r l) (line_index d r k) (slice_index r.writes (line_index d r l) + length bytes) 0 (index_apart (lines_of d r) k l own_k own ne) in
              let was = room k own_k open_yet in
              omega (arith, other, was)

  written_room : (l : ℕ) (bytes : Option (List ℕ)) → has_bit (lines_of d r) l ≡ true → TurnedHasRoom (written d p r c l bytes)
  written_room l (Some bytes) own = put_out_room l bytes own
  written_room l None own = room

  write_room : (l at count : ℕ) → TurnedHasRoom (write d p r c l at count)
  unfolding write
  write_room l at count =
      cond_both (not (has_bit (lines_of d r) l)) _ _ TurnedHasRoom (λ _. room) (λ own.
      cond_both (nat_lt 64 count) _ _ TurnedHasRoom (λ _. room) (λ _. written_room l (bytes_from (seen d r.pid.0 r.held (read_by d p c)) at count) (owned (has_bit (lines_of d r) l) own)))
    where
      owned : (b : Bool) → not b ≡ false → b ≡ true
      owned true f = refl
      owned false f = absurd (true≢false f)

  read_room : (l : ℕ) → TurnedHasRoom (read d p r c l)
  unfolding read
  read_room l =
      cond_both (not (has_bit (lines_of d r) l)) _ _ TurnedHasRoom (λ _. room) (λ _.
      cond_both (nat_lt (slice_index r.reads (line_index d r l)) (line_word d p l 0)) _ _ TurnedHasRoom (λ _. room) (λ _.
      cond_both (line_word d p l 1 == 1) _ _ TurnedHasRoom (λ _. room) (λ _. room)))

  acquire_room : (t : ℕ) → TurnedHasRoom (acquire d r c t)
  unfolding acquire
  acquire_room t =
      cond_both (not (nat_lt t (length d.segments))) _ _ TurnedHasRoom (λ _. room) (λ _.
      cond_both (not (has_bit (process_of d r.pid.0).grants t)) _ _ TurnedHasRoom (λ _. room) (λ _.
      cond_both (has_bit r.held t) _ _ TurnedHasRoom (λ _. room) (λ _.
      cond_both (nat_lt 0 (r.held / 2 ^ (t + 1))) _ _ TurnedHasRoom (λ _. room) (λ _. room))))

  release_room : (t : ℕ) → TurnedHasRoom (release d r c t)
  unfolding release
  release_room t = cond_both (nat_lt t (length d.segments) && has_bit r.held t) _ _ TurnedHasRoom (λ _. room) (λ _. room)

  numbered_room : (x : ℕ → ℕ) → TurnedHasRoom (numbered d p r c x)
  unfolding numbered
  numbered_room x =
      cond_both (x 17 == 0) _ _ TurnedHasRoom (λ _. room) (λ _.
      cond_both (x 17 == 1) _ _ TurnedHasRoom (λ _. acquire_room (x 10)) (λ _.
      cond_both (x 17 == 2) _ _ TurnedHasRoom (λ _. release_room (x 10)) (λ _.
      cond_both (x 17 == 3) _ _ TurnedHasRoom (λ _. read_room (x 10)) (λ _.
      cond_both (x 17 == 4) _ _ TurnedHasRoom (λ _. write_room (x 10) (x 11) (x 12)) (λ _.
      cond_both (x 17 == 5) _ _ TurnedHasRoom (λ _. room) (λ _.
      cond_both (x 17 == 6) _ _ TurnedHasRoom (λ _. room) (λ _.
      cond_both (x 17 == 7) _ _ TurnedHasRoom (λ _. room) (λ _. room))))))))

  call_room : TurnedHasRoom (call_of d p r c)
  unfolding call_of
  call_room = cond_both (agree_on_call r.pair) _ _ TurnedHasRoom (λ _. numbered_room (register r.pair.a)) (λ _. room)

  effect_room : (e : Effect) → TurnedHasRoom (after_effect d p r c e)
  effect_room (effect.Next wrote store next) = room
  effect_room effect.Call = call_room
  effect_room (effect.Trap code) = room
  effect_room effect.Full = room

  turned_room : (t : PairTurn) → TurnedHasRoom (turned_pair d p r c t)
  turned_room (pair_turned.Agreed e) = effect_room e
  turned_room pair_turned.Diverged = room

  pub step_room : HasRoom d sent hung (step_of d p r c).running
  unfolding step_of
  step_room = turned_room (pair_turn d p r c)

-- what a turn leaves in the hand of its processor has room
abbrev pub TurnHasRoom : MachineDesc → Machine → Turn → Type 0
TurnHasRoom d m (Moves move) = HandHasRoom d m.sent m.hung move.hand
TurnHasRoom d m (Looks next move) = HandHasRoom d m.sent m.hung move.hand
TurnHasRoom d m (Copies_unit i) = Unit {0}
TurnHasRoom d m Stops = Unit {0}

module _ (d : MachineDesc) (m : Machine) (p : ℕ) where
  abbrev Room : Running → Type 0
  Room r = HasRoom d m.sent m.hung r

  releases_room : (r : Running) (c : Cause) → Room r → HandHasRoom d m.sent m.hung (after_releases r c)
  releases_room r (cause.Release segment) room = room
  releases_room r cause.Exit room = tt
  releases_room r cause.Trap room = tt
  releases_room r cause.Commit room = room
  releases_room r cause.Yield room = tt
  releases_room r (cause.Wait why) room = tt
  releases_room r cause.Room room = room
  releases_room r cause.Quantum room = tt

  next_room : (r : Running) (c : Cause) (mask : ℕ) (o : Option ℕ) → Room r → HandHasRoom d m.sent m.hung (release_next d r c mask o)
  next_room r c mask (Some t) room = room
  next_room r c mask None room = releases_room r c room

  pub follows_room : (r : Running) (c : Cause) (mask : ℕ) → Room r → HandHasRoom d m.sent m.hung (follows d r c mask)
  follows_room r c mask room = next_room r c mask (lowest (has_bit mask) 16) room

  pub finds_room : (r : Running) (cache : Changes) (c : Cause) (mask : ℕ) → Room r → TurnHasRoom d m (finds d m p r cache c mask)
  finds_room r cache c mask room =
      cond_both (r.steps == 0) _ _ (TurnHasRoom d m) (λ _. follows_room r c mask room) (λ _.
      cond_both (agree r.pair) _ _ (TurnHasRoom d m) (λ _. room) (λ _. tt))

  acquisition_room : (r : Running) (t : Seg) → Room r → TurnHasRoom d m (acquisition d m p r t)
  acquisition_room r t room = cond_both (is_taken (shape_of d) m.copies (lock_word d t.0) false) _ _ (TurnHasRoom d m) (λ _. finds_room r (m.cache p) (cause.Wait (reason.Lock t (record { 0 = word_at m.copies (lock_word d t.0) false - 1 }))) 0 room) (λ _. room)

  step_of_room : (r : Running) (t : Turned) (o : Outcome) → Room r → Room t.running → TurnHasRoom d m (after_step d m p r t o)
  step_of_room r t outcome.Done room after = after
  step_of_room r t (outcome.Claim segment) room after = acquisition_room r segment room
  step_of_room r t (outcome.NeedsFlush c) room after = finds_room t.running t.cache c (released r.held c) after
  step_of_room r t (outcome.Waits why) room after = finds_room r (m.cache p) (cause.Wait why) 0 room
  step_of_room r t outcome.Diverged room after = tt

  pub runs_room : (r : Running) → Room r → Room (step_of d m.copies r (m.cache p)).running → TurnHasRoom d m (runs d m p r)
  runs_room r room after = cond_both (nat_le d.quantum r.used) _ _ (TurnHasRoom d m) (λ _. finds_room r (m.cache p) cause.Quantum 0 room) (λ _. step_of_room r (step_of d m.copies r (m.cache p)) (step_of d m.copies r (m.cache p)).outcome room after)
