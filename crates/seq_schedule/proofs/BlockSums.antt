-- The blocks of a machine, kind by kind.
use Rattle.std.proofs.Common.{◌≡◌, ℕ, ◌+◌, ◌*◌, ◌/◌, ◌<◌, ◌≤◌, ◌++◌, length, map, replicate, take, get_or, sym, ap, ◌∙◌, arith}
use Rattle.std.specs.Prelude.{sum, sum_by}
use Rattle.std.proofs.lemmas.List.Sums.{sum-map, sum_by-le, sum_by-append}
use Rattle.std.proofs.lemmas.List.Folds.{sum_by-replicate}
use Rattle.std.proofs.lemmas.List.Elements.{All-weaker}
use Rattle.seq_words.specs.Description.{IsDescription, IsBetween, line_count}
use Rattle.seq_words.specs.declared.description.MachineDesc.{MachineDesc}
use Rattle.seq_words.specs.declared.description.SegmentDesc.{SegmentDesc}
use Rattle.seq_layout.specs.Shapes.{process_blocks, blocks_of}
use Rattle.seq_layout.proofs.Sizes.{blocks_between, extents_few}

pub blocks_are : (d : MachineDesc) → sum_by process_blocks d.processes + sum_by (λ (s : SegmentDesc). s.size / 32) d.segments + line_count d * (d.journal / 32) ≡ sum (blocks_of d)
blocks_are d =
    let processes = sum-map process_blocks d.processes in
    let segments = sum-map (λ (s : SegmentDesc). s.size / 32) d.segments in
    let journals = sum_by-replicate (λ (n : ℕ). n) (line_count d) (d.journal / 32) in
    let both = sum_by-append (λ (n : ℕ). n) (map process_blocks d.processes) (map (λ (s : SegmentDesc). s.size / 32) d.segments) in
    let all = sum_by-append (λ (n : ℕ). n) (map process_blocks d.processes ++ map (λ (s : SegmentDesc). s.size / 32) d.segments) (replicate (line_count d) (d.journal / 32)) in
    let second = sum_by-append (λ (n : ℕ). n) (map process_blocks d.processes) (map (λ (s : SegmentDesc). s.size / 32) d.segments ++ replicate (line_count d) (d.journal / 32)) in
    let third = sum_by-append (λ (n : ℕ). n) (map (λ (s : SegmentDesc). s.size / 32) d.segments) (replicate (line_count d) (d.journal / 32)) in
    omega (arith, processes, segments, journals, both, all, second, third)

pub few_blocks : (d : MachineDesc) → IsDescription d → sum (blocks_of d) ≤ 200448
few_blocks d is = omega (arith, sum_by-le (λ (n : ℕ). n) 2088 (blocks_of d) (All-weaker (IsBetween 1 2088) (λ n. n ≤ 2088) (λ n b. b.high_at) (blocks_of d) (blocks_between d is)), extents_few d is)
