-- What a command leaves on the shelf, where it tells its files.
use Rattle.std.specs.Prelude.{◌≡◌, ℕ, Option, Some, None, List}
use Rattle.seq_shelf.specs.Told.{Map, Stores, KeepsOthers}
use Rattle.seq_loader.specs.declared.image.Image.{Image}
use Rattle.seq_loader.specs.Image.{Spells}
use Rattle.seq_asm.specs.Assembled.{Makes}
use Rattle.seq_report.specs.declared.status.Status.{Status}
use Rattle.seq_report.specs.declared.status.Status.TheVariants.{Done, Usage, Refused, Absent, MachineCheck, OutOfTurns, ShelfFault, SinkFault, ChronicleFault, LineFault, NoMemory}
use Rattle.seq_cli.specs.Commands.{Command, run, asm, list}

-- The source makes this image, whose written form is stored under a name. Every other file is as before.
pub record StoresImage (source name : List ℕ) (old new : Option Map) (i : Image) : Type 0 where
  pub makes : (m : Map) → old ≡ Some m → (text : List ℕ) × (m source ≡ Some text) × Makes text i
  pub file : List ℕ
  pub spells : Spells file i
  pub stores : Stores old new name file

-- What `asm` leaves: the image under Done; after a fault or want of memory the file of that name alone may differ.
abbrev pub LeavesImage : List ℕ → List ℕ → Status → Option Map → Option Map → Type 0
LeavesImage source name Done old new = (i : Image) × StoresImage source name old new i
LeavesImage source name ShelfFault old new = KeepsOthers old new name
LeavesImage source name NoMemory old new = KeepsOthers old new name
LeavesImage source name Usage old new = new ≡ old
LeavesImage source name (Refused file place rule) old new = new ≡ old
LeavesImage source name (Absent file) old new = new ≡ old
LeavesImage source name (MachineCheck line stopped cause) old new = new ≡ old
LeavesImage source name (OutOfTurns line) old new = new ≡ old
LeavesImage source name SinkFault old new = new ≡ old
LeavesImage source name ChronicleFault old new = new ≡ old
LeavesImage source name (LineFault line) old new = new ≡ old

-- What a command leaves: all files are as before, but for what `asm` stores.
abbrev pub Leaves : Option Command → Status → Option Map → Option Map → Type 0
Leaves None status old new = new ≡ old
Leaves (Some (run machine schedule)) status old new = new ≡ old
Leaves (Some (asm source image)) status old new = LeavesImage source image status old new
Leaves (Some (list image)) status old new = new ≡ old
