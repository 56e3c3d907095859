use Rattle.std.proofs.Common.{ℕ, leb, leb-true, arith, rules}
use Rattle.std.proofs.lemmas.Bool.Decides.{nat_tests}
use Rattle.std.proofs.lemmas.List.Sorted.{IsPartitionPoint-from_clause, IsPartitionedBy-leb}
use Rattle.seq_layout.proofs.starts.count_up_to.Goals as goal

pub returns : goal.returns
returns c =
    let parted = IsPartitionedBy-leb (λ (x : ℕ). x) c.args.starts.now c.args.place c.requires in
    let point = IsPartitionPoint-from_clause (λ (x : ℕ). leb x c.args.place) _ _ c.partition_point.ensures.partitioned parted (λ a r q k. search rules) in
    record {
      within = c.partition_point.ensures.bound;
      below = λ e h. leb-true _ _ (point.0 e 0 (omega arith) h);
      above = λ e h inside. let above = point.1 e 0 h inside in grind (arith, nat_tests, above);
    }
