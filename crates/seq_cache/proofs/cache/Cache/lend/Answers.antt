use Rattle.std.proofs.Common.{Some, refl, sym, subst, ap, ◌∙◌, arith}
use Rattle.seq_cache.specs.declared.change.Change.{Change}
use Rattle.seq_cache.specs.Changes.{Changes}
use Rattle.seq_cache.specs.Standing.{StandsAt}
use Rattle.seq_cache.proofs.Found.{changed_further, replaced_fits}
use Rattle.seq_cache.proofs.Marked.{replaced_marked}
use Rattle.seq_cache.proofs.cache.Cache.lend.Goals as goal

pub invariant_of-self-lent : goal.invariant_of-self-lent
invariant_of-self-lent c =
    λ w. let at = subst (λ (s : Changes). StandsAt s.changes c.args.extent.0 c.args.n c.args.at) (sym c.self.view_is) c.requires in
    rw (changed_further _ _ _ _ _ w at (sym c.index_mut-change.ensures.value), c.mark_of.ensures.mark) (
      replaced_fits _ _ _ _ _ w c.self.invariant.0 at,
      c.self.invariant.1,
      replaced_marked _ _ _ _ _ w c.args.at (omega arith) at c.self.invariant.2,
    )

pub returns : goal.returns
returns c =
    let at = subst (λ (s : Changes). StandsAt s.changes c.args.extent.0 c.args.n c.args.at) (sym c.self.view_is) c.requires in
    let there = sym c.index_mut-change.ensures.value in (
      (refl, λ w. rw (changed_further _ _ _ _ _ w at there, ← c.self.view_is, at.put w) refl),
      record { writes_back = tt; value = rw (← c.self.view_is) (at.block c.index_mut-change.result.now ∙ ap (λ (d : Change). Some d.block) there) },
    )
