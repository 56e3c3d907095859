use Rattle.std.proofs.Common.{arith, sym, rules}
use Rattle.std.proofs.lemmas.Grind.{common_steps}
use Rattle.seq_layout.proofs.UnitLists.{unit_block}
use Rattle.seq_layout.proofs.layout.Layout.unit.Goals as goal

pub returns-then-n-blocks : goal.returns-then-n-blocks
returns-then-n-blocks c =
    sym (unit_block c.args.self.now c.self.inside.units.sizes c.args.memory.0 c.args.next (search rules) c.in_ok-extent.extent c.in_ok-extent.n (search rules) (grind (arith, common_steps)))
