-- The blocks of a process that is shown are those of the image.
use Rattle.std.proofs.Common.{◌≡◌, ℕ, ◌+◌, ◌-◌, ◌*◌, ◌/◌, ◌%◌, ◌<◌, ◌≤◌, List, length, get_or, arith, refl, sym, ◌∙◌, ap, inl, inr}
use Rattle.std.specs.Prelude.{count_ones}
use Rattle.std.proofs.lemmas.Bool.{cases_lt}
use Rattle.seq_words.specs.Description.{IsDescription}
use Rattle.seq_words.specs.declared.description.MachineDesc.{MachineDesc}
use Rattle.seq_flat.specs.declared.state.FlatState.{FlatState}
use Rattle.seq_flat.specs.declared.state.LineState.{LineState}
use Rattle.seq_flat.specs.State.{process_at, segment_at, line_at}
use Rattle.seq_layout.specs.Places.{IsPlace}
use Rattle.seq_layout.specs.Shapes.{shape_of}
use Rattle.seq_process.specs.declared.running.Running.{Running}
use Rattle.seq_kernel.specs.Views.{Blocks, byte_in}
use Rattle.seq_kernel.specs.Calls.{lines_of, line_index}
use Rattle.seq_kernel.specs.Bounds.{IsWithin}
use Rattle.seq_kernel.specs.Shown.{outbox_byte, HoldBytes, Shows}
use Rattle.seq_flat.specs.Reached.{IsFlat}
use Rattle.seq_image.specs.Images.{block_of_bytes, block_of_outbox, own_line, process_block}
use Rattle.seq_image.proofs.Blocks.{is_block_of_bytes, is_block_of_outbox}
use Rattle.seq_image.proofs.ImageBlocks.{outbox_is, private_is}
use Rattle.seq_image.proofs.ImageSizes.{below_process_size, below_segment_size, process_whole, segment_whole}
use Rattle.seq_kernel.proofs.CallPlaces.{lines_are_few}
use Rattle.seq_image.proofs.ShownContexts.{some_line, line_numbered}

-- a byte of an extent is one of its block
pub byte_of_block : (o : Blocks) (e n k at : ℕ) → at ≡ 32 * n + k → k < 32 → byte_in o e at ≡ get_or (o e n).bytes k 0
byte_of_block o e n k at is lt =
    let number : at / 32 ≡ n = omega arith in
    let place : at % 32 ≡ k = omega arith in
    rw (number, place) refl

-- bytes that blocks hold from block m on
held_block : (o : Blocks) (e from m n i : ℕ) (bytes : List ℕ) → HoldBytes o e from bytes → from ≡ 32 * m → n ≡ m + i → 32 * i + 32 ≤ length bytes → length (o e n).bytes ≡ 32 → o e n ≡ block_of_bytes bytes i
held_block o e from m n i bytes holds begins number within full =
    is_block_of_bytes (o e n) bytes i full (λ k lt.
    sym (byte_of_block o e n k (from + (32 * i + k)) (omega arith) lt) ∙ holds.each (32 * i + k) (omega arith))

pub segment_held : (d : MachineDesc) (g : FlatState) (o : Blocks) (t n : ℕ) → IsDescription d → IsFlat d g → t < length d.segments → IsPlace (shape_of d).blocks (length d.processes + t) n → HoldBytes o (length d.processes + t) 0 (segment_at g t).bytes → length (o (length d.processes + t) n).bytes ≡ 32 → o (length d.processes + t) n ≡ block_of_bytes (segment_at g t).bytes n
segment_held d g o t n described flat lt placed holds full =
    let size = flat.segment_sizes t lt in
    let few = below_segment_size d t n lt placed in
    held_block o (length d.processes + t) 0 0 n n (segment_at g t).bytes holds refl (omega arith) (omega (arith, segment_whole d t described lt)) full

module _ (d : MachineDesc) (g : FlatState) (o : Blocks) (r : Running) (described : IsDescription d) (within : IsWithin d r) (flat : IsFlat d g) (shows : Shows d g o r) where
  shown_private : (n : ℕ) → IsPlace (shape_of d).blocks r.pid.0 n → 8 + 8 * count_ones (lines_of d r) ≤ n → o r.pid.0 n ≡ block_of_bytes (process_at g r.pid.0).bytes (n - (8 + 8 * count_ones (lines_of d r)))
  shown_private n placed from =
      let lines : ℕ = count_ones (lines_of d r) in
      let size = flat.sizes r.pid.0 within.process in
      let few = below_process_size d r.pid.0 n within.process placed in
      held_block o r.pid.0 (256 + 256 * lines) (8 + 8 * lines) n (n - (8 + 8 * lines)) (process_at g r.pid.0).bytes shows.private (omega arith) (omega arith)
      (omega (arith, process_whole d r.pid.0 described within.process)) (shows.whole r.pid.0 n)

  shown_outbox : (n : ℕ) → 8 ≤ n → n < 8 + 8 * count_ones (lines_of d r) → o r.pid.0 n ≡ block_of_outbox (own_line d g r.pid.0 (n / 8 - 1)).output (n % 8)
  shown_outbox n from lt =
      let i : ℕ = n / 8 - 1 in
      let found = some_line d r.pid.0 i (lines_are_few d described r.pid.0) (omega arith) in
      let number : line_index d r found.0 ≡ i = found.1.number in
      let line : own_line d g r.pid.0 i ≡ line_at g found.0 = line_numbered d g r.pid.0 i found.0 found.1.found in
      is_block_of_outbox (o r.pid.0 n) (own_line d g r.pid.0 i).output (n % 8) (shows.whole r.pid.0 n) (λ k below.
      let at : 256 + 256 * line_index d r found.0 + (32 * (n % 8) + k) ≡ 32 * n + k = omega arith in
      sym (byte_of_block o r.pid.0 n k _ at below)
      ∙ (shows.line found.0 found.1.own).outbox (32 * (n % 8) + k) (omega arith)
      ∙ ap (λ (x : LineState). outbox_byte x.output (32 * (n % 8) + k)) (sym line))

  pub shown_block : (commits n : ℕ) → IsPlace (shape_of d).blocks r.pid.0 n → 8 ≤ n → o r.pid.0 n ≡ process_block d g r.pid.0 commits n
  shown_block commits n placed from = elim (cases_lt n (8 + 8 * count_ones (lines_of d r))) [
    | inl lt ↦ shown_outbox n from lt ∙ sym (outbox_is d g r.pid.0 commits n from lt)
    | inr past ↦ shown_private n placed past ∙ sym (private_is d g r.pid.0 commits n past)
  ]
