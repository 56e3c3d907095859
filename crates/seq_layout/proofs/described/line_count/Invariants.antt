use Rattle.std.proofs.Common.{◌≡◌, ℕ, ◌<◌, ◌^◌, get_or, take}
use Rattle.std.specs.Prelude.{sum_by, count_ones}
use Rattle.seq_words.specs.Description.{no_process}
use Rattle.seq_layout.proofs.described.line_count.Given as goal

abbrev pub invariant-loop-process : goal.invariant-loop-process
invariant-loop-process l = record {
  counted : l.count ≡ sum_by (λ p. count_ones p.lines) (take l.process-index l.desc.processes);
  masks : (k : ℕ) → k < l.process-index → (get_or l.desc.processes k no_process).lines < 2 ^ 16;
}
