use Rattle.std.proofs.Common.{◌≡◌, ◌+◌, ◌≤◌, Some, length, take}
use Rattle.seq_shelf.specs.Told.{Map}
use Rattle.seq_cli.specs.Parts.{names_of, IsPartly}
use Rattle.seq_cli.specs.Loads.{PartsLoaded}
use Rattle.seq_cli.proofs.parts.load_parts.Given as goal

abbrev pub invariant-loop-n : goal.invariant-loop-n
invariant-loop-n g l = record {
  told : (g.S.Shelf.shelf l.shelf).told ≡ (g.S.Shelf.shelf l.fn.shelf).told;
  faults : (g.S.Shelf.shelf l.fn.shelf).faults ≤ (g.S.Shelf.shelf l.shelf).faults;
  partly : IsPartly l.n l.desc;
  processes : length l.desc.processes ≡ length l.fn.draft.desc.processes;
  segments : length l.desc.segments ≡ length l.fn.draft.desc.segments;
  few : length l.files ≤ length l.fn.files + l.n;
  loaded : (m : Map) → (g.S.Shelf.shelf l.fn.shelf).told ≡ Some m → PartsLoaded m 0 (take l.n (names_of l.fn.draft)) l.fn.files l.fn.draft.desc l.files l.desc;
}
