use Rattle.std.proofs.Common.{rules}
use Rattle.std.proofs.lemmas.List.Sorted.{answers_always}
use Rattle.seq_cache.proofs.Found.{searched}
use Rattle.seq_cache.proofs.cache.Cache.halve.Goals as goal

-- the closure gives the extent and the place of a change, and the slice is the cache's changes
pub returns : goal.returns
returns c =
    let facts = c.binary_search_by_key.ensures in
    let by_key = facts.position (λ change. (change.extent.0, change.place)) (answers_always _ _ _ (λ f a r g called. search rules)) in
    rw (← c.self.view_is, ← c.deref.ensures.value) (searched _ (rw c.deref.ensures.value c.self.invariant.0.ascending) c.args.extent.0 c.args.n _ facts.bound by_key)
