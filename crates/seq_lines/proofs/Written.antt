-- Where the first copies of a process hold the image of a flat state, its context says how long the outputs of its lines are, and
-- its outboxes hold their last bytes.
use Rattle.std.proofs.Common.{◌≡◌, ℕ, zero, suc, ◌+◌, ◌-◌, ◌*◌, ◌/◌, ◌%◌, ◌^◌, ◌<◌, ◌≤◌, true, List, ◌∷◌, length, get_or, replicate, arith, refl, sym, ◌∙◌, ap, subst}
use Rattle.std.specs.Prelude.{count_ones, slice_index}
use Rattle.std.proofs.lemmas.Bool.{lt-ltb}
use Rattle.std.proofs.lemmas.List.{get_or-append-add}
use Rattle.std.proofs.lemmas.List.FromFn.{get_or-map-range_with_len, length-map-range_with_len}
use Rattle.std.proofs.lemmas.Option.{slice_get-get_or}
use Rattle.seq_words.specs.Masks.{has_bit}
use Rattle.seq_words.specs.Description.{IsDescription, line_count, process_of, no_process}
use Rattle.seq_words.specs.declared.block.Block.{Block}
use Rattle.seq_words.specs.declared.names.Pid.{Pid}
use Rattle.seq_words.specs.declared.description.MachineDesc.{MachineDesc}
use Rattle.seq_flat.specs.declared.state.FlatState.{FlatState}
use Rattle.seq_flat.specs.State.{line_at}
use Rattle.seq_flat.specs.Run.{output}
use Rattle.seq_layout.specs.Shapes.{shape_of, index_of, owner_from, owners_of, Owns}
use Rattle.seq_layout.specs.Copies.{Copies, first_block}
use Rattle.seq_layout.specs.Contexts.{number_at, numbers_of, context_blocks}
use Rattle.seq_layout.specs.declared.context.Context.{Context}
use Rattle.seq_layout.proofs.ContextBytes.{numbers_held}
use Rattle.seq_layout.proofs.Owners.{entry_owns, index_below}
use Rattle.seq_layout.proofs.Sizes.{process_has_blocks}
use Rattle.seq_kernel.specs.Shown.{outbox_byte}
use Rattle.seq_kernel.proofs.CallPlaces.{lines_are_few}
use Rattle.seq_image.specs.Images.{own_line, context_of as image_context, process_block}
use Rattle.seq_flat.specs.Reached.{IsReached}
use Rattle.seq_image.specs.Starting.{context_read}
use Rattle.seq_image.proofs.Blocks.{byte_of_outbox}
use Rattle.seq_image.proofs.ImageBlocks.{place_test, image_process, context_block, outbox_is}
use Rattle.seq_image.proofs.OwnLines.{line_found}
use Rattle.seq_image.proofs.ShownContexts.{line_numbered}
use Rattle.seq_image.proofs.ContextsRead.{blocks_read}
use Rattle.seq_turns.specs.Reading.{context_of}
use Rattle.seq_turns.specs.Duties.{owner, written, outbox_at}
use Rattle.seq_lines.specs.Known.{FirstHold}

-- the owner of a line that is there
pub line_owner : (d : MachineDesc) (l : ℕ) → IsDescription d → l < line_count d → Owns d l (owner d l).0.0 (owner d l).1
line_owner d l is below =
    let none : Pid × ℕ = (record { 0 = 0 }, 0) in
    let inside : l < length (owners_of d) = omega (arith, below, length-map-range_with_len (owner_from 0 d.processes) 0 (line_count d)) in
    entry_owns d l (owner d l) is (slice_get-get_or (owners_of d) l none inside)

below_four : (P : ℕ → Type 0) → P 0 → P 1 → P 2 → P 3 → (k : ℕ) → k < 4 → P k
below_four P a b c d zero within = a
below_four P a b c d (suc zero) within = b
below_four P a b c d (suc (suc zero)) within = c
below_four P a b c d (suc (suc (suc zero))) within = d
below_four P a b c d (suc (suc (suc (suc k)))) within = absurd (omega arith)

-- the numbers written that a context's blocks say
written_number : (c : Context) (i : ℕ) → length c.regs.x ≡ 32 → i < 4 → get_or (numbers_of c) (41 + 2 * i) 0 ≡ get_or c.writes i 0
written_number c i full few = below_four (λ k. get_or (numbers_of c) (41 + 2 * k) 0 ≡ get_or c.writes k 0) (at 9) (at 11) (at 13) (at 15) i few
  where
    tail : List ℕ
    tail = c.regs.pc ∷ c.end ∷ c.value ∷ c.end_pc ∷ c.held ∷ 0 ∷ c.commits % 2 ^ 32 ∷ c.commits / 2 ^ 32 ∷
        slice_index c.reads 0 ∷ slice_index c.writes 0 ∷ slice_index c.reads 1 ∷ slice_index c.writes 1 ∷
        slice_index c.reads 2 ∷ slice_index c.writes 2 ∷ slice_index c.reads 3 ∷ slice_index c.writes 3 ∷
        replicate 16 0

    at : (k : ℕ) → get_or (numbers_of c) (32 + k) 0 ≡ get_or tail k 0
    at k = ap (λ n. get_or (numbers_of c) (n + k) 0) (sym full) ∙ get_or-append-add c.regs.x tail k 0

module _ (d : MachineDesc) (p : Copies) (f : FlatState) (commits : ℕ → ℕ) (q : ℕ) (described : IsDescription d) (reached : IsReached d f) (inside : q < length d.processes) (hold : FirstHold d p f commits q) where
  -- a block of the process
  block_is : (n : ℕ) → n < 8 + 8 * count_ones (process_of d q).lines → first_block (shape_of d) p q n ≡ process_block d f q (commits q) n
  block_is n lt = hold n ∙ image_process d f commits q n inside (place_test (shape_of d).blocks q n (process_has_blocks d q n no_process inside (omega (arith, lt))))

  abbrev committed : Context
  committed = image_context d f q (commits q)

  pub blocks_are : context_read (first_block (shape_of d) p) q ≡ context_blocks committed
  blocks_are = blocks_read (first_block (shape_of d) p) q committed (λ n lt. block_is n (omega (arith, lt)) ∙ context_block d f q (commits q) n lt)

  -- the context that is read there
  context_number : (i : ℕ) → i < 64 → number_at (context_read (first_block (shape_of d) p) q) i ≡ get_or (numbers_of committed) i 0
  unfolding context_blocks
  context_number i lt = ap (λ b. number_at b i) blocks_are ∙ numbers_held (numbers_of committed) i lt

  -- a number written that is read there
  pub writes_are : (i : ℕ) → i < 4 → get_or (context_of d p q).writes i 0 ≡ get_or committed.writes i 0
  unfolding context_of
  writes_are i few =
      get_or-map-range_with_len (λ k. number_at (context_read (first_block (shape_of d) p) q) (41 + 2 * k)) 0 4 i i 0 few (omega arith)
      ∙ context_number (41 + 2 * i) (omega (arith, few)) ∙ written_number committed i (reached.process q).registers few

  own_write : (i : ℕ) → i < 4 → get_or committed.writes i 0 ≡ length (own_line d f q i).output
  own_write i few = below_four (λ k. get_or committed.writes k 0 ≡ length (own_line d f q k).output) refl refl refl refl i few

  -- the number written on a line of the process, and the bytes of its outbox
  module _ (l : ℕ) (own : has_bit (process_of d q).lines l ≡ true) (small : index_of (process_of d q).lines l < 4) where
    abbrev index : ℕ
    index = index_of (process_of d q).lines l

    line_is : own_line d f q index ≡ line_at f l
    line_is = line_numbered d f q index l (line_found (process_of d q).lines l 16 own (lines_are_few d described q l own))

    pub written_on : get_or (context_of d p q).writes index 0 ≡ length (output f l)
    written_on = writes_are index small ∙ own_write index small ∙ ap (λ x. length x.output) line_is

    pub outbox_on : (i : ℕ) → get_or (first_block (shape_of d) p q (8 + 8 * index + i % 256 / 32)).bytes (i % 32) 0 ≡ outbox_byte (output f l) (i % 256)
    outbox_on i =
        let n : ℕ = 8 + 8 * index + i % 256 / 32 in
        let many : index < count_ones (process_of d q).lines = index_below (process_of d q).lines l own in
        let low : 8 ≤ n = omega arith in
        let high : n < 8 + 8 * count_ones (process_of d q).lines = omega (arith, many) in
        let line : n / 8 - 1 ≡ index = omega arith in
        let block : n % 8 ≡ i % 256 / 32 = omega arith in
        let place : 32 * (n % 8) + i % 32 ≡ i % 256 = omega arith in
        ap (λ (b : Block). get_or b.bytes (i % 32) 0) (block_is n high ∙ outbox_is d f q (commits q) n low high)
        ∙ byte_of_outbox (own_line d f q (n / 8 - 1)).output (n % 8) (i % 32) (omega arith)
        ∙ ap (outbox_byte (own_line d f q (n / 8 - 1)).output) place
        ∙ ap (λ k. outbox_byte (own_line d f q k).output (i % 256)) line
        ∙ ap (λ x. outbox_byte x.output (i % 256)) line_is

-- a byte that was put out and isn't yet 256 bytes back stands in the outbox
pub still_there : (out : List ℕ) (i : ℕ) → i < length out → length out ≤ i + 256 → outbox_byte out (i % 256) ≡ get_or out i 0
unfolding outbox_byte
still_there out i lt near =
    let below : i % 256 < length out = omega (arith, lt) in
    let place : length out - 1 - (length out - 1 - i % 256) % 256 ≡ i = omega (arith, lt, near) in
    rw (lt-ltb (i % 256) (length out) below) (ap (λ k. get_or out k 0) place)

-- what an I/O element reads of a line that is there
module _ (d : MachineDesc) (p : Copies) (f : FlatState) (commits : ℕ → ℕ) (l : ℕ) (described : IsDescription d) (reached : IsReached d f) (below : l < line_count d) (hold : FirstHold d p f commits (owner d l).0.0) where
  abbrev q : ℕ
  q = (owner d l).0.0

  owns : Owns d l (owner d l).0.0 (owner d l).1
  owns = line_owner d l described below

  number : (owner d l).1 ≡ index_of (process_of d (owner d l).0.0).lines l
  number = owns.number no_process

  small : index_of (process_of d (owner d l).0.0).lines l < 4
  small = subst (λ k. k < 4) number owns.few

  -- the number written is the length of the output
  pub written_is : written d p l ≡ length (output f l)
  written_is = ap (λ k. get_or (context_of d p (owner d l).0.0).writes k 0) number ∙ written_on d p f commits (owner d l).0.0 described reached owns.process hold l (owns.owned no_process) small

  -- and a byte that isn't sent yet is the output's
  pub outbox_byte_is : (i : ℕ) → i < length (output f l) → length (output f l) ≤ i + 256 → outbox_at d p l i ≡ get_or (output f l) i 0
  outbox_byte_is i lt near =
      ap (λ k. get_or (first_block (shape_of d) p (owner d l).0.0 (8 + 8 * k + i % 256 / 32)).bytes (i % 32) 0) number
      ∙ outbox_on d p f commits (owner d l).0.0 described reached owns.process hold l (owns.owned no_process) small i
      ∙ still_there (output f l) i lt near
