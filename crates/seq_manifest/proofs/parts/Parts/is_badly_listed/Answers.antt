use Rattle.std.proofs.Common.{rules, ◌≡◌, false}
use Rattle.seq_manifest.specs.Drafts.{said_by}
use Rattle.seq_manifest.specs.Kept.{seen}
use Rattle.seq_manifest.proofs.Table.{kept_badly}
use Rattle.seq_manifest.proofs.Keeping.{badly_kept}
use Rattle.seq_manifest.proofs.parts.Parts.is_badly_listed.Goals as goal

pub returns-then-lines-gt4 : goal.returns-then-lines-gt4
returns-then-lines-gt4 c =
    let badly : c.if-not-segments.value ≡ kept_badly (said_by c.args.self.now) (seen c.args.statement.now) = search rules in
    badly_kept c.args.self.now _ (seen c.args.statement.now) c.requires badly

pub returns-else-lines-gt4 : goal.returns-else-lines-gt4
returns-else-lines-gt4 c =
    let badly : c.owns_some.result ≡ kept_badly (said_by c.args.self.now) (seen c.args.statement.now) = search rules in
    badly_kept c.args.self.now _ (seen c.args.statement.now) c.requires badly

pub returns-in-Heading : goal.returns-in-Heading
returns-in-Heading c =
    let badly : false ≡ kept_badly (said_by c.args.self.now) (seen c.args.statement.now) = search rules in
    badly_kept c.args.self.now _ (seen c.args.statement.now) c.requires badly

pub returns-in-Segment : goal.returns-in-Segment
returns-in-Segment c =
    let badly : false ≡ kept_badly (said_by c.args.self.now) (seen c.args.statement.now) = search rules in
    badly_kept c.args.self.now _ (seen c.args.statement.now) c.requires badly
