use Rattle.std.proofs.Common.{rules, ◌≡◌, not, nat_eq, nat_lt, nat_le}
use Rattle.seq_manifest.specs.Drafts.{said_by}
use Rattle.seq_manifest.specs.Kept.{seen}
use Rattle.seq_manifest.proofs.Table.{kept_misplaced}
use Rattle.seq_manifest.proofs.Keeping.{misplaced_kept}
use Rattle.seq_manifest.proofs.parts.Parts.is_misplaced.Goals as goal

pub returns-in-Heading : goal.returns-in-Heading
returns-in-Heading c =
    let misplaced : not (nat_eq c.count.result c.place_of.result) ≡ kept_misplaced (said_by c.args.self.now) (seen c.args.statement.now) = search rules in
    misplaced_kept (said_by c.args.self.now) _ (seen c.args.statement.now) misplaced

pub returns-then-process_count-gt0 : goal.returns-then-process_count-gt0
returns-then-process_count-gt0 c =
    let misplaced : c.if-count-lt7.value ≡ kept_misplaced (said_by c.args.self.now) (seen c.args.statement.now) = search rules in
    misplaced_kept (said_by c.args.self.now) _ (seen c.args.statement.now) misplaced

pub returns-else-process_count-gt0 : goal.returns-else-process_count-gt0
returns-else-process_count-gt0 c =
    let misplaced : nat_le 16 c.segment_count.result ≡ kept_misplaced (said_by c.args.self.now) (seen c.args.statement.now) = search rules in
    misplaced_kept (said_by c.args.self.now) _ (seen c.args.statement.now) misplaced

pub returns-then-count-lt7-2 : goal.returns-then-count-lt7-2
returns-then-count-lt7-2 c =
    let misplaced : nat_lt c.count-in-Process.result 7 ≡ kept_misplaced (said_by c.args.self.now) (seen c.args.statement.now) = search rules in
    misplaced_kept (said_by c.args.self.now) _ (seen c.args.statement.now) misplaced

pub returns-else-count-lt7-2 : goal.returns-else-count-lt7-2
returns-else-count-lt7-2 c =
    let misplaced : nat_le 16 c.process_count-else-count-lt7-2.result ≡ kept_misplaced (said_by c.args.self.now) (seen c.args.statement.now) = search rules in
    misplaced_kept (said_by c.args.self.now) _ (seen c.args.statement.now) misplaced
