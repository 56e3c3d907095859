use Rattle.std.proofs.Common.{◌<◌, length, sym, subst}
use Rattle.seq_layout.specs.Tables.{Spread}
use Rattle.seq_layout.proofs.Sites.{primary_fits, shadow_fits}
use Rattle.seq_layout.proofs.starts.Starts.site.Goals as goal

pub returns-then-shadow-clause-fits : goal.returns-then-shadow-clause-fits
returns-then-shadow-clause-fits c =
    let inside = subst (λ (s : Spread). c.args.extent.0 < length s.sizes) (sym c.self.view_is) c.requires in
    rw (← c.self.view_is) (shadow_fits _ _ _ c.args.extent.0 _ c.self.invariant inside c.at-sites.ensures)

pub returns-else-shadow-clause-fits : goal.returns-else-shadow-clause-fits
returns-else-shadow-clause-fits c =
    let inside = subst (λ (s : Spread). c.args.extent.0 < length s.sizes) (sym c.self.view_is) c.requires in
    rw (← c.self.view_is) (primary_fits _ _ _ c.args.extent.0 _ c.self.invariant inside c.at-sites.ensures)
