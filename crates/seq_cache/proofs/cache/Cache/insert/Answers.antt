use Rattle.std.proofs.Common.{◌<◌, length, sym, subst, arith}
use Rattle.seq_cache.specs.Changes.{Changes}
use Rattle.seq_cache.specs.Standing.{IsGapFor}
use Rattle.seq_cache.proofs.Found.{inserted_fits}
use Rattle.seq_cache.proofs.Marked.{inserted_marked}
use Rattle.seq_cache.proofs.cache.Cache.insert.Goals as goal

pub invariant_of-self : goal.invariant_of-self
invariant_of-self c =
    let new = c.args.change in
    let gap = subst (λ (s : Changes). IsGapFor s.changes new.extent.0 new.place c.args.at) (sym c.self.view_is) c.requires.gap in
    let room = subst (λ (s : Changes). length s.changes < s.capacity) (sym c.self.view_is) c.requires.room in (
      rw c.insert_in_place.ensures.items (inserted_fits _ _ _ _ _ new.block c.self.invariant.0 gap room),
      omega (arith, c.self.invariant.1, c.insert_in_place.ensures.in_place.1.0),
      rw (c.insert_in_place.ensures.items, c.mark_of.ensures.mark) (inserted_marked _ _ _ _ _ new.block c.args.at (omega arith) gap c.self.invariant.2),
    )

pub returns-clause-cache : goal.returns-clause-cache
returns-clause-cache c =
    let new = c.args.change in
    let gap = subst (λ (s : Changes). IsGapFor s.changes new.extent.0 new.place c.args.at) (sym c.self.view_is) c.requires.gap in
    let room = subst (λ (s : Changes). length s.changes < s.capacity) (sym c.self.view_is) c.requires.room in
    rw c.insert_in_place.ensures.items (inserted_fits _ _ _ _ _ new.block c.self.invariant.0 gap room)
