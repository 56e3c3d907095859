use Rattle.std.proofs.Common.{rules, ◌≡◌, false, not}
use Rattle.seq_manifest.specs.Kept.{seen}
use Rattle.seq_manifest.proofs.Table.{kept_out}
use Rattle.seq_manifest.proofs.Keeping.{out_kept}
use Rattle.seq_manifest.proofs.parts.is_out_of_limits.Goals as goal

pub returns-in-Heading-clause-rule : goal.returns-in-Heading-clause-rule
returns-in-Heading-clause-rule c =
    let out : not c.is_allowed.result ≡ kept_out (seen c.args.statement.now) = search rules in
    out_kept _ (seen c.args.statement.now) out

pub returns-in-Segment-clause-rule : goal.returns-in-Segment-clause-rule
returns-in-Segment-clause-rule c =
    let out : not c.is_within.result ≡ kept_out (seen c.args.statement.now) = search rules in
    out_kept _ (seen c.args.statement.now) out

pub returns-in-Process-clause-rule : goal.returns-in-Process-clause-rule
returns-in-Process-clause-rule c =
    let out : false ≡ kept_out (seen c.args.statement.now) = search rules in
    out_kept _ (seen c.args.statement.now) out
