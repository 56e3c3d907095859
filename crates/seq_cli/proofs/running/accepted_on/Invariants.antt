use Rattle.std.proofs.Common.{◌≡◌, map, take}
use Rattle.seq_shelf.specs.Outlets.{views}
use Rattle.seq_cli.proofs.running.accepted_on.Given as goal

abbrev pub invariant-loop-line : goal.invariant-loop-line
invariant-loop-line g l = l.sent.items ≡ map (λ v. v.count) (take l.line (views (λ z. (goal.Line-dyn g z).line z.1) l.lines))
