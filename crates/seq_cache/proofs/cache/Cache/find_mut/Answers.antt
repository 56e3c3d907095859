use Rattle.std.proofs.Common.{refl, sym}
use Rattle.seq_cache.proofs.cache.Cache.find_mut.Goals as goal

pub returns : goal.returns
returns c = (refl, record { writes_back = tt; found = sym c.lend.ensures.value })
