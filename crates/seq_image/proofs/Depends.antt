-- What a process shows depends on its area alone.
pub use Rattle.seq_kernel.proofs.Shown.{hold_alike, agreed_owner, held_alike, shown_by_area, shows_agreed, shown_by_the_area, shows_all_that_agree}
