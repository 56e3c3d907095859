use Rattle.std.proofs.Common.{sym, arith}
use Rattle.std.proofs.lemmas.Bool.{eqb-true}
use Rattle.seq_cache.proofs.Found.{stands}
use Rattle.seq_cache.proofs.cache.Cache.is_at.Goals as goal

pub returns-then-change-extent : goal.returns-then-change-extent
returns-then-change-extent c =
    λ same. rw (← c.self.view_is) (stands _ c.args.extent.0 c.args.n c.args.at c.index-change.result.now c.self.invariant.0.ascending (omega arith) (sym c.index-change.ensures) (omega arith) (eqb-true _ _ same))
