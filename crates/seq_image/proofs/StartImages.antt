-- The image of the flat start.
use Rattle.std.proofs.Common.{◌≡◌, ℕ, ◌+◌, ◌-◌, ◌*◌, ◌/◌, ◌%◌, ◌<◌, ◌≤◌, Option, Some, None, List, [], ◌∷◌, length, get_or, map, replicate, arith, refl, sym, ◌∙◌, ap, subst, inl, inr}
use Rattle.std.proofs.Math.Path.{fun_ext}
use Rattle.std.specs.Prelude.{count_ones}
use Rattle.std.proofs.lemmas.Bool.{cases_Bool, cases_lt, false_from_ne_true, false≢true}
use Rattle.std.proofs.lemmas.List.{get_or_past, get_or_append_left, get_or-append_right, get_or-replicate, get_or-map, length-replicate}
use Rattle.seq_words.specs.Blocks.{zero_block}
use Rattle.seq_words.specs.Description.{IsDescription, process_of, segment_of, no_process as no_process_desc, no_segment as no_segment_desc}
use Rattle.seq_words.specs.declared.description.MachineDesc.{MachineDesc}
use Rattle.seq_words.specs.declared.description.SegmentDesc.{SegmentDesc}
use Rattle.seq_flat.specs.declared.state.ProcessState.{ProcessState}
use Rattle.seq_flat.specs.declared.state.SegmentState.{SegmentState}
use Rattle.seq_flat.specs.declared.state.LineState.{LineState}
use Rattle.seq_flat.specs.State.{no_process, no_segment, no_line, process_at, segment_at, line_at, filled, start_process, start_segment, start}
use Rattle.seq_flat.proofs.ReachedStart.{start_process_is, start_segment_is, start_line_is}
use Rattle.seq_layout.specs.Places.{IsPlace, is_place}
use Rattle.seq_layout.specs.Shapes.{shape_of, process_blocks}
use Rattle.seq_layout.specs.Contexts.{context_blocks}
use Rattle.seq_layout.specs.declared.context.Context.{Context}
use Rattle.seq_layout.proofs.Sizes.{process_has_blocks, segment_has_blocks}
use Rattle.seq_kernel.specs.Views.{Blocks}
use Rattle.seq_image.specs.Images.{block_of_bytes, own_line, own_line_below, line_if, held_among, context_of, process_block, image}
use Rattle.seq_image.specs.Begun.{start_context, no_commits, IsStartImage, StartHasImage}
use Rattle.seq_image.proofs.Blocks.{is_block_of_bytes, byte_of_bytes, no_output, full_block}
use Rattle.seq_image.proofs.ImageBlocks.{place_test, place_of_test, image_nowhere, image_process, image_segment, image_lines, context_block, outbox_is, private_is}
use Rattle.seq_image.proofs.ImageSizes.{below_process_size, below_segment_size}

abbrev zeros : ℕ → List ℕ
zeros n = replicate n 0

zero_of_zeros : (n j : ℕ) → get_or (zeros n) j 0 ≡ 0
zero_of_zeros n j = elim (cases_lt j n) [
  | inl lt ↦ get_or-replicate n j 0 0 lt
  | inr past ↦ get_or_past (zeros n) j 0 (omega (arith, length-replicate {A = ℕ} n 0))
]

-- bytes with zeros after them have the same bytes, and zeros after these anyway
filled_byte : (bytes : List ℕ) (size k : ℕ) → get_or (filled bytes size) k 0 ≡ get_or bytes k 0
filled_byte bytes size k = elim (cases_lt k (length bytes)) [
  | inl lt ↦ get_or_append_left bytes (zeros (size - length bytes)) 0 k lt
  | inr past ↦ get_or-append_right bytes (zeros (size - length bytes)) (length bytes) k 0 refl past ∙ zero_of_zeros (size - length bytes) (k - length bytes) ∙ sym (get_or_past bytes k 0 past)
]

filled_block : (bytes : List ℕ) (size i : ℕ) → block_of_bytes (filled bytes size) i ≡ block_of_bytes bytes i
filled_block bytes size i = is_block_of_bytes (block_of_bytes (filled bytes size) i) bytes i (full_block (filled bytes size) i) (λ k lt. byte_of_bytes (filled bytes size) i k lt ∙ filled_byte bytes size (32 * i + k))

start_own_line : (d : MachineDesc) (p i : ℕ) → own_line d (start d) p i ≡ no_line
unfolding own_line
start_own_line d p i = go (own_line_below (process_of d p).lines i 16)
  where
    go : (l : Option ℕ) → line_if (start d) l ≡ no_line
    go (Some l) = start_line_is d l
    go None = refl

none_held : (p : ℕ) (ss : List SegmentDesc) → held_among p (map start_segment ss) ≡ 0
unfolding held_among
none_held p [] = refl
none_held p (s ∷ ss) = rw (none_held p ss) refl

start_context_is : (d : MachineDesc) (p : ℕ) → p < length d.processes → context_of d (start d) p 0 ≡ start_context (process_of d p)
start_context_is d p lt = rw (start_process_is d p lt, none_held p d.segments, start_own_line d p 0, start_own_line d p 1, start_own_line d p 2, start_own_line d p 3) refl

module _ (d : MachineDesc) (described : IsDescription d) where
  abbrev begun : Blocks
  begun = image d (start d) no_commits

  at_block : (p n : ℕ) → p < length d.processes → n < process_blocks (process_of d p) → begun p n ≡ process_block d (start d) p 0 n
  at_block p n there lt = image_process d (start d) no_commits p n there (place_test (shape_of d).blocks p n (process_has_blocks d p n no_process_desc there lt))

  begun_context : (p n : ℕ) → p < length d.processes → n < 8 → begun p n ≡ get_or (context_blocks (start_context (process_of d p))) n zero_block
  begun_context p n there lt =
      at_block p n there (omega arith) ∙ context_block d (start d) p 0 n lt
      ∙ ap (λ (c : Context). get_or (context_blocks c) n zero_block) (start_context_is d p there)

  begun_outbox : (p n : ℕ) → p < length d.processes → 8 ≤ n → n < 8 + 8 * count_ones (process_of d p).lines → begun p n ≡ zero_block
  begun_outbox p n there from lt =
      at_block p n there (omega arith) ∙ outbox_is d (start d) p 0 n from lt
      ∙ no_output (own_line d (start d) p (n / 8 - 1)).output (n % 8) (ap (λ (x : LineState). length x.output) (start_own_line d p (n / 8 - 1)))

  begun_private : (p i : ℕ) → p < length d.processes → i < (process_of d p).size / 32 → begun p (8 + 8 * count_ones (process_of d p).lines + i) ≡ block_of_bytes (process_of d p).image i
  begun_private p i there lt =
      let lines : ℕ = count_ones (process_of d p).lines in
      let number : 8 + 8 * lines + i - (8 + 8 * lines) ≡ i = omega arith in
      at_block p (8 + 8 * lines + i) there (omega arith) ∙ private_is d (start d) p 0 (8 + 8 * lines + i) (omega arith)
      ∙ ap (block_of_bytes (process_at (start d) p).bytes) number
      ∙ ap (λ (q : ProcessState). block_of_bytes q.bytes i) (start_process_is d p there)
      ∙ filled_block (process_of d p).image (process_of d p).size i

  begun_segment : (t i : ℕ) → t < length d.segments → i < (segment_of d t).size / 32 → begun (length d.processes + t) i ≡ block_of_bytes (segment_of d t).first i
  begun_segment t i lt few =
      image_segment d (start d) no_commits t i lt (place_test (shape_of d).blocks (length d.processes + t) i (segment_has_blocks d t i no_segment_desc lt few))
      ∙ ap (λ (s : SegmentState). block_of_bytes s.bytes i) (start_segment_is d t lt)
      ∙ filled_block (segment_of d t).first (segment_of d t).size i

  begun_nowhere : (e n : ℕ) → ¬ (IsPlace (shape_of d).blocks e n) → begun e n ≡ zero_block
  begun_nowhere e n out = image_nowhere d (start d) no_commits e n (false_from_ne_true (is_place (shape_of d).blocks e n) (λ placed. out (place_of_test (shape_of d).blocks e n placed)))

  is_start : IsStartImage d begun
  is_start = record {
    context = begun_context;
    outboxes = begun_outbox;
    private = begun_private;
    segment = begun_segment;
    lines = λ e n past. image_lines d (start d) no_commits e n past;
    nowhere = begun_nowhere;
  }

  -- blocks that are told in the same way are the same
  module _ (o : Blocks) (is : IsStartImage d o) where
    same_process : (p n : ℕ) → p < length d.processes → IsPlace (shape_of d).blocks p n → o p n ≡ begun p n
    same_process p n there placed =
        let lines : ℕ = count_ones (process_of d p).lines in
        let few = below_process_size d p n there placed in
        elim (cases_lt n 8) [
          | inl lt ↦ is.context p n there lt ∙ sym (is_start.context p n there lt)
          | inr past ↦ elim (cases_lt n (8 + 8 * lines)) [
            | inl lt ↦ is.outboxes p n there past lt ∙ sym (is_start.outboxes p n there past lt)
            | inr beyond ↦
                let i : ℕ = n - (8 + 8 * lines) in
                let number : n ≡ 8 + 8 * lines + i = omega arith in
                let small : i < (process_of d p).size / 32 = omega arith in
                ap (o p) number ∙ is.private p i there small ∙ sym (is_start.private p i there small) ∙ ap (begun p) (sym number)
          ]
        ]

    same : (e n : ℕ) → o e n ≡ begun e n
    same e n = elim (cases_Bool (is_place (shape_of d).blocks e n)) [
      | inr out ↦
          let none : ¬ (IsPlace (shape_of d).blocks e n) = λ placed. false≢true (sym out ∙ place_test (shape_of d).blocks e n placed) in
          is.nowhere e n none ∙ sym (is_start.nowhere e n none)
      | inl there ↦ elim (cases_lt e (length d.processes)) [
        | inl process ↦ same_process e n process (place_of_test (shape_of d).blocks e n there)
        | inr past ↦ elim (cases_lt e (length d.processes + length d.segments)) [
          | inl segment ↦
              let t : ℕ = e - length d.processes in
              let number : e ≡ length d.processes + t = omega arith in
              let lt : t < length d.segments = omega arith in
              let few = below_segment_size d t n lt (subst (λ m. IsPlace (shape_of d).blocks m n) number (place_of_test (shape_of d).blocks e n there)) in
              ap (λ m. o m n) number ∙ is.segment t n lt few ∙ sym (is_start.segment t n lt few) ∙ ap (λ m. begun m n) (sym number)
          | inr line ↦ is.lines e n line ∙ sym (is_start.lines e n line)
        ]
      ]
    ]

pub start_has_image : StartHasImage
start_has_image d described = (is_start d described, λ o is. fun_ext (λ e. fun_ext (λ n. same d described o is e n)))
