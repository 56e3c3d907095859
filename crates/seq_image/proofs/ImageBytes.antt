-- The image holds the bytes of each segment.
use Rattle.std.proofs.Common.{◌≡◌, ℕ, ◌+◌, ◌*◌, ◌/◌, ◌%◌, ◌<◌, length, get_or, arith, ◌∙◌, ap}
use Rattle.seq_words.specs.Description.{IsDescription, segment_of, no_segment}
use Rattle.seq_words.specs.declared.block.Block.{Block}
use Rattle.seq_words.specs.declared.description.MachineDesc.{MachineDesc}
use Rattle.seq_flat.specs.declared.state.FlatState.{FlatState}
use Rattle.seq_flat.specs.State.{segment_at}
use Rattle.seq_layout.specs.Shapes.{shape_of, segment_extent}
use Rattle.seq_layout.proofs.Sizes.{segment_has_blocks}
use Rattle.seq_kernel.specs.Shown.{HoldBytes}
use Rattle.seq_image.specs.Images.{image}
use Rattle.seq_image.proofs.Blocks.{byte_of_bytes}
use Rattle.seq_image.proofs.ImageBlocks.{place_test, image_segment}
use Rattle.seq_image.proofs.ImageSizes.{segment_whole}
use Rattle.seq_image.proofs.ShownBlocks.{byte_of_block}

pub segment_bytes : (d : MachineDesc) (f : FlatState) (commits : ℕ → ℕ) (t : ℕ) → IsDescription d → t < length d.segments → length (segment_at f t).bytes ≡ (segment_of d t).size → HoldBytes (image d f commits) (segment_extent (shape_of d) t) 0 (segment_at f t).bytes
segment_bytes d f commits t described lt size = record {
  each = λ k below.
      let inside : k / 32 < (segment_of d t).size / 32 = omega (arith, segment_whole d t described lt) in
      let place : 32 * (k / 32) + k % 32 ≡ k = omega arith in
      byte_of_block (image d f commits) (length d.processes + t) (k / 32) (k % 32) (0 + k) (omega arith) (omega arith)
      ∙ ap (λ (b : Block). get_or b.bytes (k % 32) 0) (image_segment d f commits t (k / 32) lt (place_test (shape_of d).blocks (length d.processes + t) (k / 32) (segment_has_blocks d t (k / 32) no_segment lt inside)))
      ∙ byte_of_bytes (segment_at f t).bytes (k / 32) (k % 32) (omega arith)
      ∙ ap (λ i. get_or (segment_at f t).bytes i 0) place;
}
