-- A process that is taken up from the image shows the flat state.
use Rattle.std.proofs.Common.{◌≡◌, ℕ, zero, suc, ◌+◌, ◌-◌, ◌*◌, ◌/◌, ◌%◌, ◌<◌, ◌≤◌, true, Option, Some, None, [], ◌∷◌, length, get_or, arith, refl, sym, ◌∙◌, ap, subst, inl, inr}
use Rattle.std.specs.Prelude.{slice_index, count_ones}
use Rattle.std.proofs.lemmas.Bool.{cases_lt, false≢true}
use Rattle.std.proofs.lemmas.List.{get_or_past}
use Rattle.seq_words.specs.Masks.{has_bit}
use Rattle.seq_words.specs.Blocks.{zero_block}
use Rattle.seq_words.specs.Description.{IsDescription, process_of, segment_of, no_process, no_segment as no_segment_desc}
use Rattle.seq_words.specs.declared.block.Block.{Block}
use Rattle.seq_words.specs.declared.description.MachineDesc.{MachineDesc}
use Rattle.seq_flat.specs.declared.state.End.TheVariants.{Live}
use Rattle.seq_flat.specs.declared.state.FlatState.{FlatState}
use Rattle.seq_flat.specs.declared.state.LineState.{LineState}
use Rattle.seq_flat.specs.declared.state.SegmentState.{SegmentState}
use Rattle.seq_flat.specs.State.{no_segment, process_at, segment_at, line_at}
use Rattle.seq_flat.specs.Memory.{is_owner}
use Rattle.seq_layout.specs.Shapes.{shape_of, process_blocks, index_of}
use Rattle.seq_layout.specs.Contexts.{context_blocks, IsContextBlocks}
use Rattle.seq_layout.proofs.Sizes.{process_has_blocks, segment_has_blocks}
use Rattle.seq_process.specs.declared.running.Running.{Running}
use Rattle.seq_segments.specs.Map.{before_private}
use Rattle.seq_kernel.specs.Views.{Blocks}
use Rattle.seq_kernel.specs.Bounds.{IsWithin, IsRunning, LeavesUnused}
use Rattle.seq_kernel.specs.Shown.{outbox_byte, HoldBytes, ShowsLine, ShowsSegment, Shows}
use Rattle.seq_kernel.proofs.RefineCallsBits.{index_below}
use Rattle.seq_image.specs.Images.{own_line, own_line_below, line_if, held_among, context_of, process_block, image}
use Rattle.seq_image.specs.Areas.{AreAlike, in_area, owned_by}
use Rattle.seq_flat.specs.Reached.{IsLineState, IsReached}
use Rattle.seq_image.specs.Starting.{taken_up, TakesUp, ImageIsTakenUp}
use Rattle.seq_image.proofs.Areas.{process_in_area, segment_in_area}
use Rattle.seq_image.proofs.Blocks.{byte_of_bytes, byte_of_outbox}
use Rattle.seq_image.proofs.ContextsRead.{blocks_read, is_context, is_inside, only_context, cause_fits, end_is}
use Rattle.seq_image.proofs.HeldMasks.{held_bit}
use Rattle.seq_image.proofs.ImageBlocks.{place_test, image_process, image_segment, context_block, outbox_is, private_is}
use Rattle.seq_image.proofs.ImageSizes.{lines_of_four, process_whole, segment_whole}
use Rattle.seq_image.proofs.OwnLines.{line_found}
use Rattle.seq_image.proofs.ShownBlocks.{byte_of_block}
use Rattle.seq_kernel.proofs.CallPlaces.{lines_are_few}
use Rattle.seq_image.proofs.ShownContexts.{line_numbered, line_missing}

-- one of four numbers, or 0 past them
at_four : (P : ℕ → ℕ → Type 0) (f : ℕ → ℕ) (i : ℕ) → ((k : ℕ) → k < 4 → P k (f k)) → (4 ≤ i → P i 0) → P i (get_or (f 0 ∷ f 1 ∷ f 2 ∷ f 3 ∷ []) i 0)
at_four P f zero each past = each 0 (omega arith)
at_four P f (suc zero) each past = each 1 (omega arith)
at_four P f (suc (suc zero)) each past = each 2 (omega arith)
at_four P f (suc (suc (suc zero))) each past = each 3 (omega arith)
at_four P f (suc (suc (suc (suc i)))) each past = past (omega arith)

module _ (d : MachineDesc) (f : FlatState) (commits : ℕ → ℕ) (o : Blocks) (q : ℕ) (described : IsDescription d) (reached : IsReached d f) (there : q < length d.processes)
    (whole : (e n : ℕ) → length (o e n).bytes ≡ 32) (alike : AreAlike (in_area d q (owned_by f q)) o (image d f commits)) where
  abbrev c : Running
  c = taken_up d f q (commits q)

  abbrev lines : ℕ
  lines = count_ones (process_of d q).lines

  block_is : (n : ℕ) → n < process_blocks (process_of d q) → o q n ≡ process_block d f q (commits q) n
  block_is n lt =
      alike.each q n (process_in_area d q (owned_by f q))
      ∙ image_process d f commits q n there (place_test (shape_of d).blocks q n (process_has_blocks d q n no_process there lt))

  context_at : (n : ℕ) → n < 8 → o q n ≡ get_or (context_blocks (context_of d f q (commits q))) n zero_block
  context_at n lt = block_is n (omega arith) ∙ context_block d f q (commits q) n lt

  private_held : HoldBytes o q (before_private (process_of d q)) (process_at f q).bytes
  private_held = record {
    each = λ k lt.
        let size = reached.flat.sizes q there in
        let n : ℕ = 8 + 8 * lines + k / 32 in
        let inside : n < process_blocks (process_of d q) = omega (arith, process_whole d q described there) in
        let number : n - (8 + 8 * lines) ≡ k / 32 = omega arith in
        let place : 32 * (k / 32) + k % 32 ≡ k = omega arith in
        byte_of_block o q n (k % 32) (256 + 256 * lines + k) (omega arith) (omega arith)
        ∙ ap (λ (b : Block). get_or b.bytes (k % 32) 0) (block_is n inside ∙ private_is d f q (commits q) n (omega arith))
        ∙ byte_of_bytes (process_at f q).bytes (n - (8 + 8 * lines)) (k % 32) (omega arith)
        ∙ ap (λ i. get_or (process_at f q).bytes i 0) (ap (λ m. 32 * m + k % 32) number ∙ place);
  }

  segment_shown : (t : ℕ) → t < length d.segments → ShowsSegment d f o c t
  segment_shown t lt = record {
    held = held_bit q f.segments t;
    bytes = λ on. record {
      each = λ k below.
          let owned : owned_by f q t ≡ true = sym (held_bit q f.segments t) ∙ on in
          let size = reached.flat.segment_sizes t lt in
          let inside : k / 32 < (segment_of d t).size / 32 = omega (arith, segment_whole d t described lt) in
          let place : 32 * (k / 32) + k % 32 ≡ k = omega arith in
          byte_of_block o (length d.processes + t) (k / 32) (k % 32) (0 + k) (omega arith) (omega arith)
          ∙ ap (λ (b : Block). get_or b.bytes (k % 32) 0)
          (alike.each (length d.processes + t) (k / 32) (segment_in_area d q (owned_by f q) t there lt owned)
          ∙ image_segment d f commits t (k / 32) lt (place_test (shape_of d).blocks (length d.processes + t) (k / 32) (segment_has_blocks d t (k / 32) no_segment_desc lt inside)))
          ∙ byte_of_bytes (segment_at f t).bytes (k / 32) (k % 32) (omega arith)
          ∙ ap (λ i. get_or (segment_at f t).bytes i 0) place;
    };
  }

  module _ (l : ℕ) (own : has_bit (process_of d q).lines l ≡ true) where
    abbrev i : ℕ
    i = index_of (process_of d q).lines l

    few_index : i < lines
    few_index = index_below (process_of d q).lines l own

    index_four : i < 4
    index_four = omega (arith, few_index, lines_of_four d q described there)

    line_is : own_line d f q i ≡ line_at f l
    line_is = line_numbered d f q i l (line_found (process_of d q).lines l 16 own (lines_are_few d described q l own))

    line_shown : ShowsLine d f o c l
    line_shown = record {
      read = at_four (λ k n. k < 4 → n ≡ (own_line d f q k).read) (λ k. (own_line d f q k).read) i (λ k lt _. refl) (λ past lt. absurd (omega arith)) index_four ∙ ap (λ (n : LineState). n.read) line_is;
      written = at_four (λ k n. k < 4 → n ≡ length (own_line d f q k).output) (λ k. length (own_line d f q k).output) i (λ k lt _. refl) (λ past lt. absurd (omega arith)) index_four ∙ ap (λ (n : LineState). length n.output) line_is;
      outbox = λ j lt.
          let n : ℕ = 8 + 8 * i + j / 32 in
          let k : ℕ = j % 32 in
          let within : n < 8 + 8 * lines = omega (arith, few_index) in
          let number : n / 8 - 1 ≡ i = omega arith in
          let place : 32 * (n % 8) + k ≡ j = omega arith in
          byte_of_block o q n k (256 + 256 * i + j) (omega arith) (omega arith)
          ∙ ap (λ (b : Block). get_or b.bytes k 0) (block_is n (omega arith) ∙ outbox_is d f q (commits q) n (omega arith) within)
          ∙ byte_of_outbox (own_line d f q (n / 8 - 1)).output (n % 8) k (omega arith)
          ∙ ap (outbox_byte (own_line d f q (n / 8 - 1)).output) place
          ∙ ap (λ (x : LineState). outbox_byte x.output j) (ap (own_line d f q) number ∙ line_is);
    }

  shown : Shows d f o c
  shown = record {
    whole = whole;
    registers = refl;
    end = end_is d f q (commits q) described reached;
    private = private_held;
    segment = segment_shown;
    line = line_shown;
  }

  -- any line that the process has, or none, is within the bounds
  own_bounded : (i : ℕ) → IsLineState d (own_line d f q i)
  unfolding own_line
  own_bounded i = go (own_line_below (process_of d q).lines i 16)
    where
      go : (l : Option ℕ) → IsLineState d (line_if f l)
      go (Some l) = reached.line l
      go None = record { read = omega arith; output = omega arith }

  segments_within : (t : ℕ) → has_bit (held_among q f.segments) t ≡ true → t < length d.segments
  segments_within t on = elim (cases_lt t (length d.segments)) [
    | inl lt ↦ lt
    | inr past ↦
        let none : segment_at f t ≡ no_segment = get_or_past f.segments t no_segment (omega (arith, reached.flat.segments)) in
        absurd (false≢true (sym (ap (λ (s : SegmentState). is_owner q s.owner) none) ∙ sym (held_bit q f.segments t) ∙ on))
  ]

  reads_within : (i : ℕ) → slice_index c.reads i ≤ d.journal
  reads_within i = at_four (λ k n. n ≤ d.journal) (λ k. (own_line d f q k).read) i (λ k lt. (own_bounded k).read) (λ past. omega arith)

  writes_within : (i : ℕ) → slice_index c.writes i ≤ 1048576
  writes_within i = at_four (λ k n. n ≤ 1048576) (λ k. length (own_line d f q k).output) i (λ k lt. (own_bounded k).output) (λ past. omega arith)

  taken_within : IsWithin d c
  taken_within = record {
    process = there;
    aligned = ((reached.process q).aligned, (reached.process q).aligned);
    held = segments_within;
    positions = record { reads = refl; writes = refl };
    reads = reads_within;
    writes = writes_within;
    steps = omega arith;
    used = omega arith;
  }

  taken_unused : LeavesUnused d c
  taken_unused = record {
    reads = λ i past. at_four (λ k n. lines ≤ k → n ≡ 0) (λ k. (own_line d f q k).read) i (λ k lt none. ap (λ (n : LineState). n.read) (line_missing d f q k none)) (λ _ _. refl) past;
    writes = λ i past. at_four (λ k n. lines ≤ k → n ≡ 0) (λ k. length (own_line d f q k).output) i (λ k lt none. ap (λ (n : LineState). length n.output) (line_missing d f q k none)) (λ _ _. refl) past;
  }

  taken_runs : (process_at f q).end ≡ Live → IsRunning d c
  taken_runs lives = record { within = taken_within; live = end_is d f q (commits q) described reached ∙ lives; left = omega (arith, described.quantum.low_at) }

  takes_up : TakesUp d f o q (commits q)
  takes_up =
      let read = blocks_read o q (context_of d f q (commits q)) context_at in
      record {
        blocks = read;
        inside = subst IsContextBlocks (sym read) (is_inside d f q (commits q) described reached);
        context = is_context d f q (commits q) described reached;
        only = λ x has same. only_context d f q (commits q) described reached x has (same ∙ read);
        cause = cause_fits d f q (commits q) described reached;
        shows = shown;
        within = taken_within;
        unused = taken_unused;
        running = taken_runs;
      }

pub image_is_taken_up : ImageIsTakenUp
image_is_taken_up d f commits o q described reached there whole alike = takes_up d f commits o q described reached there whole alike
