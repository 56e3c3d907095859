use Rattle.std.proofs.Common.{ap, ◌∙◌}
use Rattle.seq_flat.specs.Memory.{seen}
use Rattle.seq_flat.proofs.Stores.{fits_private, fits_shared, stores_private, stores_shared, segments_after_high}
use Rattle.seq_flat.proofs.memory.ViewPort.store.Goals as goal

pub put-requires-clause-inside : goal.put-requires-clause-inside
put-requires-clause-inside c = fits_private _ _ _ _ _ c.requires.width c.requires.aligned c.requires.fits c.if-at-lt-SEGMENTS.true

pub returns-then-at-lt-SEGMENTS-clause-bytes : goal.returns-then-at-lt-SEGMENTS-clause-bytes
returns-then-at-lt-SEGMENTS-clause-bytes c =
    let inside = fits_private _ _ _ _ _ c.requires.width c.requires.aligned c.requires.fits c.if-at-lt-SEGMENTS.true in
    ap (λ xs. seen xs c.args.self.now.segments.now c.args.self.now.pid.0) c.put.ensures
    ∙ stores_private _ _ _ _ _ _ c.requires.width c.requires.aligned c.if-at-lt-SEGMENTS.true inside

pub put_shared-requires-clause-there : goal.put_shared-requires-clause-there
put_shared-requires-clause-there c = (fits_shared _ _ _ _ _ c.requires.width c.requires.aligned c.requires.fits c.if-at-lt-SEGMENTS.false).there

pub put_shared-requires-clause-inside : goal.put_shared-requires-clause-inside
put_shared-requires-clause-inside c = (fits_shared _ _ _ _ _ c.requires.width c.requires.aligned c.requires.fits c.if-at-lt-SEGMENTS.false).inside

pub returns-clause-bytes : goal.returns-clause-bytes
returns-clause-bytes c =
    let shared = fits_shared _ _ _ _ _ c.requires.width c.requires.aligned c.requires.fits c.if-at-lt-SEGMENTS.false in
    ap (λ segments. seen c.args.self.now.bytes.now segments c.args.self.now.pid.0) (c.put_shared.ensures ∙ segments_after_high _ _ _ _ c.if-at-lt-SEGMENTS.false)
    ∙ stores_shared _ _ _ _ _ _ c.requires.width c.requires.aligned c.if-at-lt-SEGMENTS.false shared
