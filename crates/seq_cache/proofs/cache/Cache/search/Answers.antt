use Rattle.std.proofs.Common.{sym}
use Rattle.seq_cache.proofs.Found.{standing_is_changed}
use Rattle.seq_cache.proofs.cache.Cache.search.Goals as goal

pub returns-then-is_at-clause-variant : goal.returns-then-is_at-clause-variant
returns-then-is_at-clause-variant c = sym (standing_is_changed c.args.self.now.changes c.args.extent.0 c.args.n _ (c.is_at.ensures c.if-is_at.true))
