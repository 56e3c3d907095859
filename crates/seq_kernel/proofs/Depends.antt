-- What a turn comes to depends on the area of its process and on its lines.
use Rattle.std.proofs.Common.{◌≡◌, ℕ, ◌+◌, ◌-◌, ◌/◌, ◌%◌, ◌<◌, Bool, true, false, not, ◌==◌, ◌&&◌, nat_lt, if◌then◌else◌, List, [], ◌∷◌, Option, Some, None, option_map, length, slice_set, refl, ◌∙◌, ap, subst}
use Rattle.std.proofs.Math.Path.{fun_ext}
use Rattle.std.specs.Prelude.{slice_index, unwrap_or}
use Rattle.std.proofs.lemmas.Bool.{cond_both, and_parts, not-false, ltb-true}
use Rattle.seq_words.specs.Description.{process_of, segment_of}
use Rattle.seq_words.specs.Masks.{has_bit}
use Rattle.seq_words.specs.declared.block.Block.{Block}
use Rattle.seq_words.specs.declared.description.MachineDesc.{MachineDesc}
use Rattle.seq_isa.specs.Meaning.{Bytes, register}
use Rattle.seq_flat.specs.Memory.{bytes_from}
use Rattle.seq_flat.specs.Calls.{minus}
use Rattle.seq_rv32.specs.declared.effects.Effect.{Effect}
use Rattle.seq_rv32.specs.declared.effects.Effect.TheVariants as effect
use Rattle.seq_pair.specs.Turns.{turn_of, pair_after}
use Rattle.seq_pair.specs.declared.halves.Turn.{Turn}
use Rattle.seq_pair.specs.declared.halves.Turn.TheVariants as turn
use Rattle.seq_layout.specs.Copies.{Copies}
use Rattle.seq_layout.specs.declared.extents.Extent.{Extent}
use Rattle.seq_process.specs.declared.running.Running.{Running}
use Rattle.seq_cache.specs.Changes.{Changes, changed, with_change}
use Rattle.seq_cache.specs.Overlay.{overlay}
use Rattle.seq_segments.specs.Map.{before_private, mapped_shared, mapped}
use Rattle.seq_kernel.specs.declared.outcomes.Outcome.TheVariants.{Done, NeedsFlush, Waits, Diverged}
use Rattle.seq_kernel.specs.declared.outcomes.Cause.TheVariants as cause
use Rattle.seq_kernel.specs.declared.outcomes.Reason.TheVariants as reason
use Rattle.seq_kernel.specs.Views.{byte_in, read_by, seen, admission, block_stored, stored_at, stored, with_store}
use Rattle.seq_kernel.specs.Outboxes.{outbox_block, filled_block, touched, needed, blocks_filled, outbox_filled}
use Rattle.seq_kernel.specs.Turns.{Turned, stays, counted, answered}
use Rattle.seq_kernel.specs.Calls.{answers, lines_of, line_index, line_word, journal_byte, read, put_out, written, write, numbered, agree_on_call, call_of}
use Rattle.seq_kernel.specs.Steps.{after_effect, after_turn, pair_turn, step_of}
use Rattle.seq_kernel.specs.Areas.{AreAlike, in_area}
use Rattle.seq_kernel.specs.Depends.{SeenInTheArea, AreAlikeFor, TurnsDependOnTheArea, CallsDependOnTheArea}
use Rattle.seq_kernel.proofs.Areas.{process_in_area, segment_in_area}

module _ (d : MachineDesc) (q held : ℕ) (segments : ℕ → Bool) where
  -- where there is a byte, its extent is in the area
  abbrev Inside : Option (Extent × ℕ) → Type 0
  Inside m = (at : Extent × ℕ) → m ≡ Some at → in_area d q segments at.0.0 ≡ true

  inside_at : (x : Extent × ℕ) → in_area d q segments x.0.0 ≡ true → Inside (Some x)
  inside_at x inside at is = let same : x ≡ at = cc in subst (λ (y : Extent × ℕ). in_area d q segments y.0.0 ≡ true) same inside

  inside_none : Inside None
  inside_none at is = absurd (cc)

  module _ (there : q < length d.processes) (among : (t : ℕ) → has_bit held t ≡ true → segments t ≡ true) where
    shared_inside : (s k : ℕ) → Inside (mapped_shared d held s k)
    shared_inside s k = cond_both ((nat_lt s (length d.segments) && has_bit held s) && nat_lt k (segment_of d s).size) _ _ Inside
        (λ is.
        let parts = and_parts (nat_lt s (length d.segments)) (has_bit held s) (and_parts (nat_lt s (length d.segments) && has_bit held s) _ is).0 in
        inside_at (record { 0 = length d.processes + s }, k) (segment_in_area d q segments s there (ltb-true s (length d.segments) parts.0) (among s parts.1)))
        (λ _. inside_none)

    mapped_inside : (a : ℕ) → Inside (mapped d q held a)
    unfolding mapped
    mapped_inside a =
        cond_both (nat_lt a (process_of d q).size) _ _ Inside (λ _. inside_at (record { 0 = q }, before_private (process_of d q) + a) (process_in_area d q segments))
        (λ _. cond_both (nat_lt a 0x40000000) _ _ Inside (λ _. inside_none) (λ _. shared_inside ((a - 0x40000000) / 0x10000) ((a - 0x40000000) % 0x10000)))

-- a process sees the same of blocks that are alike in its area
pub seen_in_the_area : SeenInTheArea
unfolding seen
seen_in_the_area d segments o o' r there among alike = fun_ext (λ a. go (mapped d r.pid.0 r.held a) (mapped_inside d r.pid.0 r.held segments there among a))
  where
    go : (m : Option (Extent × ℕ)) → Inside d r.pid.0 r.held segments m → option_map (λ at. byte_in o at.0.0 at.1) m ≡ option_map (λ at. byte_in o' at.0.0 at.1) m
    go (Some at) inside = ap (λ (b : Block). Some (slice_index b.bytes (at.1 % 32))) (alike.each at.0.0 (at.1 / 32) (inside at refl))
    go None inside = refl

-- of two choices by one test
choice : (b : Bool) (x y x' y' : Turned) → (b ≡ true → x ≡ x') → (b ≡ false → y ≡ y') → (if b then x else y) ≡ (if b then x' else y')
choice true x y x' y' first second = first refl
choice false x y x' y' first second = second refl

-- what a read of a line comes to, by its words and the next byte of its journal
abbrev read_with : MachineDesc → Running → Changes → ℕ → ℕ → ℕ → ℕ → Turned
read_with d r c l count closed byte =
    if nat_lt (slice_index r.reads (line_index d r l)) count
    then record { outcome = Done; running = answered (record r { reads = slice_set r.reads (line_index d r l) (slice_index r.reads (line_index d r l) + 1) }) byte; cache = c }
    else if closed == 1 then answers r c (minus 1)
    else stays (Waits (reason.Input (record { 0 = l }) count)) r c

-- what a write of bytes comes to, by the count of bytes sent and the blocks as they are read
abbrev put_with : MachineDesc → Running → Changes → ℕ → List ℕ → ℕ → Changes → Turned
put_with d r c l bytes sent filled =
    let i = line_index d r l in
    let from = slice_index r.writes i in
    if nat_lt 1048576 (from + length bytes) then answers r c (minus 5)
    else if nat_lt (256 + sent) (from + length bytes) then stays (Waits (reason.Outbox (record { 0 = l }) sent)) r c
    else if nat_lt c.capacity (length c.changes + needed c r.pid.0 i from (length bytes)) then stays (NeedsFlush cause.Room) r c
    else record { outcome = Done; running = answered (record r { writes = slice_set r.writes i (from + length bytes) }) (length bytes); cache = filled }

module _ (d : MachineDesc) (p p' : Copies) (r : Running) (c : Changes) (there : r.pid.0 < length d.processes) (same : AreAlikeFor d r p p') where
  abbrev area : ℕ → Bool
  area = in_area d r.pid.0 (has_bit r.held)

  read_alike : AreAlike area (read_by d p c) (read_by d p' c)
  unfolding overlay
  read_alike = record { each = λ e n inside. ap (unwrap_or (changed c.changes e n)) (same.blocks.each e n inside) }

  abbrev mine : Bytes
  mine = seen d r.pid.0 r.held (read_by d p c)

  abbrev theirs : Bytes
  theirs = seen d r.pid.0 r.held (read_by d p' c)

  seen_same : mine ≡ theirs
  seen_same = seen_in_the_area d (has_bit r.held) (read_by d p c) (read_by d p' c) r there (λ t on. on) read_alike

  own_block : (n : ℕ) → read_by d p c r.pid.0 n ≡ read_by d p' c r.pid.0 n
  own_block n = read_alike.each r.pid.0 n (process_in_area d r.pid.0 (has_bit r.held))

  -- a store
  stored_same : (m : Option (Extent × ℕ)) → Inside d r.pid.0 r.held (has_bit r.held) m → (width value : ℕ) → stored_at (read_by d p c) c m width value ≡ stored_at (read_by d p' c) c m width value
  stored_same (Some at) inside width value = ap (λ (b : Block). with_change c at.0.0 (at.1 / 32) (block_stored b (at.1 % 32) width value)) (read_alike.each at.0.0 (at.1 / 32) (inside at refl))
  stored_same None inside width value = refl

  store_same : (store : Option (ℕ × ℕ × ℕ)) → with_store d r.pid.0 r.held p c store ≡ with_store d r.pid.0 r.held p' c store
  unfolding stored
  store_same (Some s) = stored_same (mapped d r.pid.0 r.held s.0) (mapped_inside d r.pid.0 r.held (has_bit r.held) there (λ t on. on) s.0) s.1 s.2
  store_same None = refl

  -- the outbox
  filled_same : (k : Changes) (index from : ℕ) (bytes ks : List ℕ) → blocks_filled (read_by d p c) k r.pid.0 index from bytes ks ≡ blocks_filled (read_by d p' c) k r.pid.0 index from bytes ks
  unfolding blocks_filled
  filled_same k index from bytes [] = refl
  filled_same k index from bytes (n ∷ ks) =
      ap (λ (b : Block). blocks_filled (read_by d p c) (with_change k r.pid.0 (outbox_block index n) (filled_block from bytes n b)) r.pid.0 index from bytes ks) (own_block (outbox_block index n))
      ∙ filled_same (with_change k r.pid.0 (outbox_block index n) (filled_block from bytes n (read_by d p' c r.pid.0 (outbox_block index n)))) index from bytes ks

  module _ (l : ℕ) (own : has_bit (lines_of d r) l ≡ true) where
    next_same : (n : ℕ) → n ≡ line_word d p l 0 → read_with d r c l n (line_word d p' l 1) (journal_byte d p l (slice_index r.reads (line_index d r l))) ≡ read_with d r c l n (line_word d p' l 1) (journal_byte d p' l (slice_index r.reads (line_index d r l)))
    next_same n is =
        let at : ℕ = slice_index r.reads (line_index d r l) in
        choice (nat_lt at n) _ _ _ _
        (λ more. ap (λ b. record { outcome = Done; running = answered (record r { reads = slice_set r.reads (line_index d r l) (at + 1) }) b; cache = c }) (same.journal l at own (subst (λ m. at < m) is (ltb-true at n more))))
        (λ _. refl)

    put_same : (bytes : List ℕ) → put_out d p r c l bytes ≡ put_out d p' r c l bytes
    put_same bytes =
        ap (λ sent. put_with d r c l bytes sent (outbox_filled (read_by d p c) c r.pid.0 (line_index d r l) (slice_index r.writes (line_index d r l)) bytes)) (same.words l 2 own)
        ∙ ap (put_with d r c l bytes (line_word d p' l 2)) (filled_same c (line_index d r l) (slice_index r.writes (line_index d r l)) bytes (touched (slice_index r.writes (line_index d r l)) (length bytes)))

    written_same : (found : Option (List ℕ)) → written d p r c l found ≡ written d p' r c l found
    written_same (Some bytes) = put_same bytes
    written_same None = refl

  read_same : (l : ℕ) → read d p r c l ≡ read d p' r c l
  unfolding read
  read_same l =
      choice (not (has_bit (lines_of d r) l)) _ _ _ _ (λ _. refl) (λ is.
      let own : has_bit (lines_of d r) l ≡ true = not-false _ is in
      let byte : ℕ = journal_byte d p l (slice_index r.reads (line_index d r l)) in
      ap (λ n. read_with d r c l (line_word d p l 0) n byte) (same.words l 1 own)
      ∙ next_same l own (line_word d p l 0) refl
      ∙ ap (λ n. read_with d r c l n (line_word d p' l 1) (journal_byte d p' l (slice_index r.reads (line_index d r l)))) (same.words l 0 own))

  write_same : (l at count : ℕ) → write d p r c l at count ≡ write d p' r c l at count
  unfolding write
  write_same l at count =
      choice (not (has_bit (lines_of d r) l)) _ _ _ _ (λ _. refl) (λ own.
      choice (nat_lt 64 count) _ _ _ _ (λ _. refl) (λ _.
      ap (λ (bytes : Bytes). written d p r c l (bytes_from bytes at count)) seen_same ∙ written_same l (not-false _ own) (bytes_from theirs at count)))

  numbered_same : (x : ℕ → ℕ) → numbered d p r c x ≡ numbered d p' r c x
  unfolding numbered
  numbered_same x =
      choice (x 17 == 0) _ _ _ _ (λ _. refl) (λ _.
      choice (x 17 == 1) _ _ _ _ (λ _. refl) (λ _.
      choice (x 17 == 2) _ _ _ _ (λ _. refl) (λ _.
      choice (x 17 == 3) _ _ _ _ (λ _. read_same (x 10)) (λ _.
      choice (x 17 == 4) _ _ _ _ (λ _. write_same (x 10) (x 11) (x 12)) (λ _. refl)))))

  call_same : call_of d p r c ≡ call_of d p' r c
  unfolding call_of
  call_same = choice (agree_on_call r.pair) _ _ _ _ (λ _. numbered_same (register r.pair.a)) (λ _. refl)

  effect_same : (e : Effect) → after_effect d p r c e ≡ after_effect d p' r c e
  effect_same (effect.Next wrote store next) = ap (λ (k : Changes). record { outcome = Done; running = counted (record r { pair = pair_after r.pair (turn.Agreed (effect.Next wrote store next)) }); cache = k }) (store_same store)
  effect_same effect.Call = call_same
  effect_same (effect.Trap code) = refl
  effect_same effect.Full = refl

  turned_same : (t : Turn) → after_turn d p r c t ≡ after_turn d p' r c t
  turned_same (turn.Agreed e) = effect_same e
  turned_same turn.Diverged = refl

  turn_same : step_of d p r c ≡ step_of d p' r c
  unfolding step_of
  turn_same =
      ap (λ (bytes : Bytes). after_turn d p r c (turn_of (admission d r.pid.0 r.held c) bytes r.pair)) seen_same
      ∙ turned_same (pair_turn d p' r c)

pub turns_depend_on_the_area : TurnsDependOnTheArea
turns_depend_on_the_area d p p' r c there same = turn_same d p p' r c there same

pub calls_depend_on_the_area : CallsDependOnTheArea
calls_depend_on_the_area d p p' r c there same = call_same d p p' r c there same
