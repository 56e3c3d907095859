-- The laws of lists of changes.
use Rattle.std.proofs.Common.{◌≡◌, ℕ, [], refl, arith}
use Rattle.std.proofs.lemmas.Bool.Decides.{nat_tests}
use Rattle.seq_layout.specs.Shapes.{Shape}
use Rattle.seq_layout.specs.Copies.{Copies, first_block}
use Rattle.seq_cache.specs.Changes.{changed}
use Rattle.seq_cache.specs.Overlay.{overlay}
use Rattle.seq_cache.specs.Laws.{PutChangesOneBlock, PutIsReadAtOneBlock, PutKeepsOrder, PutAddsNewBlocks, ChangedAreListed, AdmittedFits}
use Rattle.seq_cache.proofs.Puts.{changed-put, put_ascending, length-put, listed_from_changed, changed_from_listed}

pub put_changes_one_block : PutChangesOneBlock
put_changes_one_block = changed-put

pub put_is_read_at_one_block : PutIsReadAtOneBlock
unfolding overlay
put_is_read_at_one_block s p cs e n b e' n' = grind (arith, nat_tests, changed-put cs e n b e' n')

-- with no change, a read is that of the first copy
pub overlay-nil : (s : Shape) (p : Copies) (e n : ℕ) → overlay s p [] e n ≡ first_block s p e n
unfolding overlay changed
overlay-nil s p e n = refl

pub put_keeps_order : PutKeepsOrder
put_keeps_order = put_ascending

pub put_adds_new_blocks : PutAddsNewBlocks
put_adds_new_blocks = length-put

pub changed_are_listed : ChangedAreListed
changed_are_listed cs e n b up = (listed_from_changed cs e n b, changed_from_listed cs e n b up)

pub admitted_fits : AdmittedFits
admitted_fits c e n b is admitted = record {
  ascending = put_ascending c.changes e n b is.ascending;
  fits = grind (arith, nat_tests, length-put c.changes e n b is.ascending, is.fits);
  small = is.small;
}
