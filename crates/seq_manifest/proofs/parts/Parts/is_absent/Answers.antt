use Rattle.std.proofs.Common.{rules, ◌≡◌, false, nat_lt}
use Rattle.seq_manifest.specs.Drafts.{said_by}
use Rattle.seq_manifest.specs.Kept.{seen}
use Rattle.seq_manifest.proofs.Table.{kept_absent}
use Rattle.seq_manifest.proofs.Keeping.{absent_kept}
use Rattle.seq_manifest.proofs.parts.Parts.is_absent.Goals as goal

pub returns-then-segments-segment_count : goal.returns-then-segments-segment_count
returns-then-segments-segment_count c =
    let absent : nat_lt c.segment_count.result c.in-Process.segments.end ≡ kept_absent (said_by c.args.self.now) (seen c.args.statement.now) = search rules in
    absent_kept c.args.self.now _ (seen c.args.statement.now) c.requires absent

pub returns-else-segments-segment_count : goal.returns-else-segments-segment_count
returns-else-segments-segment_count c =
    let absent : nat_lt 16 c.in-Process.lines.end ≡ kept_absent (said_by c.args.self.now) (seen c.args.statement.now) = search rules in
    absent_kept c.args.self.now _ (seen c.args.statement.now) c.requires absent

pub returns-in-Heading : goal.returns-in-Heading
returns-in-Heading c =
    let absent : false ≡ kept_absent (said_by c.args.self.now) (seen c.args.statement.now) = search rules in
    absent_kept c.args.self.now _ (seen c.args.statement.now) c.requires absent

pub returns-in-Segment : goal.returns-in-Segment
returns-in-Segment c =
    let absent : false ≡ kept_absent (said_by c.args.self.now) (seen c.args.statement.now) = search rules in
    absent_kept c.args.self.now _ (seen c.args.statement.now) c.requires absent
