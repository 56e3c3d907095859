-- Every block of an image has its 32 bytes.
use Rattle.std.proofs.Common.{◌≡◌, ℕ, ◌+◌, ◌-◌, ◌*◌, ◌/◌, ◌%◌, ◌<◌, not, length, get_or, List, arith, ◌∙◌, ap}
use Rattle.std.specs.Prelude.{nat_lt, count_ones}
use Rattle.std.proofs.lemmas.Bool.{cond_both, ltb-true}
use Rattle.std.proofs.lemmas.List.FromFn.{get_or-map-range_with_len, length-map-range_with_len}
use Rattle.seq_words.specs.Blocks.{zero_block}
use Rattle.seq_words.specs.declared.block.Block.{Block}
use Rattle.seq_words.specs.declared.description.MachineDesc.{MachineDesc}
use Rattle.seq_words.specs.Description.{process_of}
use Rattle.seq_flat.specs.declared.state.FlatState.{FlatState}
use Rattle.seq_flat.specs.State.{process_at, segment_at}
use Rattle.seq_layout.specs.Places.{is_place}
use Rattle.seq_layout.specs.Shapes.{shape_of}
use Rattle.seq_layout.specs.Contexts.{byte_of, block_from, blocks_of, numbers_of, context_blocks}
use Rattle.seq_layout.specs.declared.context.Context.{Context}
use Rattle.seq_image.specs.Images.{own_line, context_of, process_block, image}
use Rattle.seq_image.specs.Areas.{ImageIsWhole}
use Rattle.seq_image.proofs.Blocks.{full_block, full_outbox, zero_full}

abbrev IsFull : Block → Type 0
IsFull b = length b.bytes ≡ 32

numbers_full : (numbers : List ℕ) (from : ℕ) → IsFull (block_from numbers from)
unfolding block_from
numbers_full numbers from = length-map-range_with_len (λ k. byte_of (get_or numbers (from + k / 4) 0) (k % 4)) 0 32

pub context_full : (c : Context) (n : ℕ) → n < 8 → IsFull (get_or (context_blocks c) n zero_block)
unfolding context_blocks blocks_of
context_full c n lt = ap (λ (b : Block). length b.bytes) (get_or-map-range_with_len (λ k. block_from (numbers_of c) (8 * k)) 0 8 n n zero_block lt (omega arith)) ∙ numbers_full (numbers_of c) (8 * n)

process_full : (d : MachineDesc) (f : FlatState) (p commits n : ℕ) → IsFull (process_block d f p commits n)
unfolding process_block
process_full d f p commits n =
    cond_both (nat_lt n 8) _ _ IsFull (λ lt. context_full (context_of d f p commits) n (ltb-true n 8 lt)) (λ _.
    cond_both (nat_lt n (8 + 8 * count_ones (process_of d p).lines)) _ _ IsFull (λ _. full_outbox (own_line d f p (n / 8 - 1)).output (n % 8)) (λ _. full_block (process_at f p).bytes (n - (8 + 8 * count_ones (process_of d p).lines))))

pub image_is_whole : ImageIsWhole
unfolding image
image_is_whole d f commits e n =
    cond_both (not (is_place (shape_of d).blocks e n)) _ _ IsFull (λ _. zero_full) (λ _.
    cond_both (nat_lt e (length d.processes)) _ _ IsFull (λ _. process_full d f e (commits e) n) (λ _.
    cond_both (nat_lt e (length d.processes + length d.segments)) _ _ IsFull (λ _. full_block (segment_at f (e - length d.processes)).bytes n) (λ _. zero_full)))
