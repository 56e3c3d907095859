-- What a process shows depends on its area alone.
pub use Rattle.seq_kernel.specs.Areas.{AreWhole, HoldsAmong}
pub use Rattle.seq_kernel.specs.Depends.{ShownByTheArea, ShowsAllThatAgree}
