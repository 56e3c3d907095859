use Rattle.std.proofs.Common.{List, ℕ, ap, ◌∙◌}
use Rattle.std.specs.Prelude.{slice_index}
use Rattle.seq_layout.specs.Shapes.{Shape}
use Rattle.seq_ruling.specs.Checks.{blocker_of}
use Rattle.seq_machine.specs.Settling.{held_copies}
use Rattle.seq_machine.proofs.hardware.Hardware.blocker.Goals as goal

pub returns : goal.returns
returns c o =
    let h = c.args.self.now in
    c.check.ensures.value ∙ ap (λ (xs : List ℕ). blocker_of h.layout (held_copies h) (slice_index xs) c.args.stopped) c.as_slice.ensures
    ∙ ap (λ (s : Shape). blocker_of s (held_copies h) (slice_index h.incarnations) c.args.stopped) c.requires.hardware.layout
