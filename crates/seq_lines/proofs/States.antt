-- The state that the first copies hold is the committed one, but for what was put out.
use Rattle.std.proofs.Common.{◌≡◌, ℕ, zero, suc, ◌+◌, ◌-◌, ◌*◌, ◌/◌, ◌%◌, ◌<◌, ◌≤◌, Bool, true, false, ◌==◌, if◌then◌else◌, length, get_or, Option, Some, None, arith, refl, sym, ◌∙◌, ap, eq-eqb}
use Rattle.std.specs.Prelude.{count_ones, option_map}
use Rattle.std.proofs.lemmas.Bool.{eqb-true, true≢false, false≢true}
use Rattle.std.proofs.lemmas.List.FromFn.{fill_by_all, get_or-map-range_with_len, length-map-range_with_len}
use Rattle.seq_words.specs.Masks.{has_bit}
use Rattle.seq_words.specs.Description.{IsDescription, line_count, process_of, segment_of, no_process, no_segment}
use Rattle.seq_words.specs.declared.block.Block.{Block}
use Rattle.seq_words.specs.declared.names.Pid.{Pid}
use Rattle.seq_words.specs.declared.description.MachineDesc.{MachineDesc}
use Rattle.seq_flat.specs.declared.state.LineState.{LineState}
use Rattle.seq_flat.specs.declared.state.FlatState.{FlatState}
use Rattle.seq_flat.specs.State.{no_process as no_flat_process, no_segment as no_flat_segment, no_line, process_at, segment_at, line_at}
use Rattle.seq_flat.specs.Memory.{is_owner}
use Rattle.seq_layout.specs.Shapes.{shape_of, index_of, Owns}
use Rattle.seq_layout.specs.Copies.{Copies, first_block}
use Rattle.seq_layout.specs.declared.context.Context.{Context}
use Rattle.seq_layout.proofs.Sizes.{process_has_blocks, segment_has_blocks}
use Rattle.seq_process.specs.Contexts.{end_of}
use Rattle.seq_segments.specs.Map.{before_private}
use Rattle.seq_kernel.specs.Views.{Blocks, byte_in}
use Rattle.seq_kernel.proofs.CallPlaces.{lines_are_few}
use Rattle.seq_image.specs.Images.{own_line, context_of as image_context, block_of_bytes}
use Rattle.seq_flat.specs.Reached.{IsReached}
use Rattle.seq_image.proofs.Blocks.{byte_of_bytes}
use Rattle.seq_image.proofs.HeldMasks.{held_bit}
use Rattle.seq_image.proofs.ImageBlocks.{place_test, image_process, image_segment, private_is}
use Rattle.seq_image.proofs.ImageSizes.{process_whole, segment_whole}
use Rattle.seq_image.proofs.OwnLines.{line_found}
use Rattle.seq_image.proofs.ShownContexts.{line_numbered}
use Rattle.seq_image.proofs.ContextsRead.{end_is}
use Rattle.seq_ruling.specs.Lowest.{lowest, or_else}
use Rattle.seq_turns.specs.Reading.{context_in}
use Rattle.seq_turns.specs.Duties.{owner}
use Rattle.seq_turns.proofs.Functions.{lowest_passes, lowest_none}
use Rattle.seq_lines.proofs.Written.{line_owner, blocks_are}
use Rattle.seq_lines.specs.Committed.{pid_of, bytes_in, context_at, process_in, owner_in, segment_in, line_in, state_in}
use Rattle.seq_lines.specs.Settled.{FirstCopiesAre, HoldersAreThere}
use Rattle.seq_lines.proofs.Contexts.{context_back}

below_four : (P : ℕ → Type 0) → P 0 → P 1 → P 2 → P 3 → (k : ℕ) → k < 4 → P k
below_four P a b c d zero within = a
below_four P a b c d (suc zero) within = b
below_four P a b c d (suc (suc zero)) within = c
below_four P a b c d (suc (suc (suc zero))) within = d
below_four P a b c d (suc (suc (suc (suc k)))) within = absurd (omega arith)

-- tests that are the same below a bound have one lowest number there
lowest_alike : (one two : ℕ → Bool) (n : ℕ) → ((q : ℕ) → q < n → one q ≡ two q) → lowest one n ≡ lowest two n
unfolding lowest
lowest_alike one two zero same = refl
lowest_alike one two (suc n) same = ap (λ o. or_else o (if one n then Some n else None)) (lowest_alike one two n (λ q lt. same q (omega (arith, lt)))) ∙ ap (λ b. or_else (lowest two n) (if b then Some n else None)) (same n (omega arith))

-- the lowest holder is the owner
lowest_owner : (n : ℕ) (o : Option Pid) → ((q : ℕ) → is_owner q o ≡ true → q < n) → option_map pid_of (lowest (λ q. is_owner q o) n) ≡ o
lowest_owner n None there = go (lowest (λ q. false) n) refl
  where
    go : (k : Option ℕ) → lowest (λ q. false) n ≡ k → option_map pid_of k ≡ None
    go (Some k) e = absurd (false≢true (lowest_passes (λ q. false) n k e).0)
    go None e = refl
lowest_owner n (Some h) there = go (lowest (λ q. h.0 == q) n) refl
  where
    go : (k : Option ℕ) → lowest (λ q. h.0 == q) n ≡ k → option_map pid_of k ≡ Some h
    go (Some k) e = λ i. Some (record { 0 = sym (eqb-true h.0 k (lowest_passes (λ q. h.0 == q) n k e).0) i })
    go None e = absurd (true≢false (sym (eq-eqb h.0 h.0 refl) ∙ lowest_none (λ q. h.0 == q) n e h.0 (there h.0 (eq-eqb h.0 h.0 refl))))

module _ (d : MachineDesc) (p : Copies) (f : FlatState) (commits : ℕ → ℕ) (described : IsDescription d) (reached : IsReached d f) (there : HoldersAreThere d f) (are : FirstCopiesAre d p f commits) where
  abbrev o : Blocks
  o = first_block (shape_of d) p

  -- the context of a process
  context_is : (q : ℕ) → q < length d.processes → context_at (first_block (shape_of d) p) q ≡ image_context d f q (commits q)
  unfolding context_at
  context_is q lt =
      ap context_in (blocks_are d p f commits q described reached lt (λ n. are q n (omega (arith, lt))))
      ∙ context_back (image_context d f q (commits q)) (reached.process q).registers refl refl

  -- its private bytes
  private_bytes : (q : ℕ) → q < length d.processes → bytes_in (first_block (shape_of d) p) q (before_private (process_of d q)) (process_of d q).size ≡ (process_at f q).bytes
  unfolding bytes_in
  private_bytes q lt = sym (fill_by_all (λ k. byte_in (first_block (shape_of d) p) q (before_private (process_of d q) + k)) (process_at f q).bytes (process_of d q).size 0 (reached.flat.sizes q lt) (λ k k_lt.
      let own : ℕ = count_ones (process_of d q).lines in
      let n : ℕ = (256 + 256 * own + k) / 32 in
      let whole : (process_of d q).size % 32 ≡ 0 = process_whole d q described lt in
      let high : n < 8 + 8 * own + (process_of d q).size / 32 = omega (arith, k_lt, whole) in
      let low : 8 + 8 * own ≤ n = omega arith in
      let place : 32 * (n - (8 + 8 * own)) + (256 + 256 * own + k) % 32 ≡ k = omega arith in
      let block : first_block (shape_of d) p q n ≡ block_of_bytes (process_at f q).bytes (n - (8 + 8 * own)) =
      are q n (omega (arith, lt)) ∙ image_process d f commits q n lt (place_test (shape_of d).blocks q n (process_has_blocks d q n no_process lt high)) ∙ private_is d f q (commits q) n low in
      sym (ap (λ (b : Block). get_or b.bytes ((256 + 256 * own + k) % 32) 0) block ∙ byte_of_bytes (process_at f q).bytes (n - (8 + 8 * own)) ((256 + 256 * own + k) % 32) (omega arith) ∙ ap (λ j. get_or (process_at f q).bytes j 0) place)))

  process_is : (q : ℕ) → q < length d.processes → process_in d (first_block (shape_of d) p) q ≡ process_at f q
  unfolding process_in
  process_is q lt = λ i. record {
    regs = ap (λ (c : Context). c.regs) (context_is q lt) i;
    end = (ap end_of (context_is q lt) ∙ end_is d f q (commits q) described reached) i;
    bytes = private_bytes q lt i;
  }

  -- the bytes of a segment
  segment_bytes : (t : ℕ) → t < length d.segments → bytes_in (first_block (shape_of d) p) (length d.processes + t) 0 (segment_of d t).size ≡ (segment_at f t).bytes
  unfolding bytes_in
  segment_bytes t lt = sym (fill_by_all (λ k. byte_in (first_block (shape_of d) p) (length d.processes + t) (0 + k)) (segment_at f t).bytes (segment_of d t).size 0 (reached.flat.segment_sizes t lt) (λ k k_lt.
      let n : ℕ = (0 + k) / 32 in
      let whole : (segment_of d t).size % 32 ≡ 0 = segment_whole d t described lt in
      let high : n < (segment_of d t).size / 32 = omega (arith, k_lt, whole) in
      let place : 32 * n + (0 + k) % 32 ≡ k = omega arith in
      let block : first_block (shape_of d) p (length d.processes + t) n ≡ block_of_bytes (segment_at f t).bytes n =
      are (length d.processes + t) n (omega (arith, lt)) ∙ image_segment d f commits t n lt (place_test (shape_of d).blocks (length d.processes + t) n (segment_has_blocks d t n no_segment lt high)) in
      sym (ap (λ (b : Block). get_or b.bytes ((0 + k) % 32) 0) block ∙ byte_of_bytes (segment_at f t).bytes n ((0 + k) % 32) (omega arith) ∙ ap (λ j. get_or (segment_at f t).bytes j 0) place)))

  -- its owner
  held_is : (q t : ℕ) → q < length d.processes → has_bit (context_at (first_block (shape_of d) p) q).held t ≡ is_owner q (segment_at f t).owner
  held_is q t lt = ap (λ (c : Context). has_bit c.held t) (context_is q lt) ∙ held_bit q f.segments t

  owner_is : (t : ℕ) → owner_in d (first_block (shape_of d) p) t ≡ (segment_at f t).owner
  owner_is t = ap (option_map pid_of) (lowest_alike (λ q. has_bit (context_at (first_block (shape_of d) p) q).held t) (λ q. is_owner q (segment_at f t).owner) (length d.processes) (λ q lt. held_is q t lt))
      ∙ lowest_owner (length d.processes) (segment_at f t).owner (λ q h. there q t h)

  segment_is : (t : ℕ) → t < length d.segments → segment_in d (first_block (shape_of d) p) t ≡ segment_at f t
  unfolding segment_in
  segment_is t lt = λ i. record { bytes = segment_bytes t lt i; owner = owner_is t i }

  -- all of them
  pub same_processes : length f.processes ≡ length (state_in d (first_block (shape_of d) p)).processes
  same_processes = reached.flat.processes ∙ sym (length-map-range_with_len (process_in d (first_block (shape_of d) p)) 0 (length d.processes))

  pub same_process : (q : ℕ) → q < length d.processes → process_at f q ≡ process_at (state_in d (first_block (shape_of d) p)) q
  same_process q lt = sym (get_or-map-range_with_len (process_in d (first_block (shape_of d) p)) 0 (length d.processes) q q no_flat_process lt (omega arith) ∙ process_is q lt)

  pub same_segments : f.segments ≡ (state_in d (first_block (shape_of d) p)).segments
  same_segments = fill_by_all (segment_in d (first_block (shape_of d) p)) f.segments (length d.segments) no_flat_segment reached.flat.segments (λ t lt. sym (segment_is t lt))

  -- what was read of a line that is there
  pub same_read : (l : ℕ) → l < line_count d → (line_at f l).read ≡ (line_at (state_in d (first_block (shape_of d) p)) l).read
  unfolding line_in
  same_read l lt =
      let owns : Owns d l (owner d l).0.0 (owner d l).1 = line_owner d l described lt in
      let q : ℕ = (owner d l).0.0 in
      let own : has_bit (process_of d (owner d l).0.0).lines l ≡ true = owns.owned no_process in
      let number : (owner d l).1 ≡ index_of (process_of d (owner d l).0.0).lines l = owns.number no_process in
      let line : own_line d f (owner d l).0.0 (owner d l).1 ≡ line_at f l =
      ap (own_line d f (owner d l).0.0) number ∙ line_numbered d f (owner d l).0.0 (index_of (process_of d (owner d l).0.0).lines l) l (line_found (process_of d (owner d l).0.0).lines l 16 own (lines_are_few d described (owner d l).0.0 l own)) in
      sym (ap (λ (x : LineState). x.read) (get_or-map-range_with_len (line_in d (first_block (shape_of d) p)) 0 16 l l no_line (lines_are_few d described (owner d l).0.0 l own) (omega arith))
      ∙ ap (λ (c : Context). get_or c.reads (owner d l).1 0) (context_is (owner d l).0.0 owns.process)
      ∙ own_read (owner d l).0.0 (owner d l).1 owns.few
      ∙ ap (λ (x : LineState). x.read) line)
    where
      own_read : (q i : ℕ) → i < 4 → get_or (image_context d f q (commits q)).reads i 0 ≡ (own_line d f q i).read
      own_read q i few = below_four (λ k. get_or (image_context d f q (commits q)).reads k 0 ≡ (own_line d f q k).read) refl refl refl refl i few
