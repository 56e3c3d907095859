use Rattle.std.proofs.Common.{refl}
use Rattle.std.specs.Vec.Iter.{into_iter_items}
use Rattle.std.proofs.lemmas.Iterator.{items_from_collect}
use Rattle.std.proofs.lemmas.Iterator.Adapters.{YieldsList-from_vec, YieldsList-from_skip}
use Rattle.std.proofs.lemmas.Iterator.Consumers.{YieldsList-at}
use Rattle.sequoia.proofs.behind_name.Goals as goal

pub returns : goal.returns
returns c =
    let all = YieldsList-at c.skip.ensures.source (YieldsList-from_vec (into_iter_items c.args.all) refl c.args.all.rest.ok.0) in
    items_from_collect c.collect.result c.collect.ensures.ran (YieldsList-from_skip 1 all c.skip.ensures.count)
