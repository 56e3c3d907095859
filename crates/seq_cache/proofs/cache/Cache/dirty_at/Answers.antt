use Rattle.std.proofs.Common.{◌<◌, length, sym, subst}
use Rattle.seq_cache.specs.Changes.{Changes}
use Rattle.seq_cache.proofs.Puts.{changed_entry}
use Rattle.seq_cache.proofs.cache.Cache.dirty_at.Goals as goal

-- the change stands in the list
pub returns-clause-block : goal.returns-clause-block
returns-clause-block c =
    let inside = subst (λ (s : Changes). c.args.i < length s.changes) (sym c.self.view_is) c.requires in
    rw (← c.self.view_is) (changed_entry _ c.index-change.result.now c.args.i c.self.invariant.0.ascending inside (sym c.index-change.ensures))
