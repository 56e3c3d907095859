use Rattle.std.proofs.Common.{sym, subst, arith}
use Rattle.seq_cache.specs.Changes.{Changes}
use Rattle.seq_cache.specs.Standing.{StandsAt}
use Rattle.seq_cache.proofs.Found.{replaced_fits}
use Rattle.seq_cache.proofs.Marked.{replaced_marked}
use Rattle.seq_cache.proofs.cache.Cache.replace.Goals as goal

pub invariant_of-self : goal.invariant_of-self
invariant_of-self c =
    let new = c.args.change in
    let at = subst (λ (s : Changes). StandsAt s.changes new.extent.0 new.place c.args.at) (sym c.self.view_is) c.requires in (
      rw c.set_in_place.ensures.items (replaced_fits _ _ _ _ _ new.block c.self.invariant.0 at),
      omega (arith, c.self.invariant.1, c.set_in_place.ensures.in_place.1.0),
      rw (c.set_in_place.ensures.items, c.mark_of.ensures.mark) (replaced_marked _ _ _ _ _ new.block c.args.at (omega arith) at c.self.invariant.2),
    )

pub returns-clause-cache : goal.returns-clause-cache
returns-clause-cache c =
    let new = c.args.change in
    let at = subst (λ (s : Changes). StandsAt s.changes new.extent.0 new.place c.args.at) (sym c.self.view_is) c.requires in
    rw c.set_in_place.ensures.items (replaced_fits _ _ _ _ _ new.block c.self.invariant.0 at)
