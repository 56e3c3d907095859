-- The printing, which comes last: the text of a status goes to the sink, whose fault, or want of memory, may stand in the status's
-- place.
use Rattle.std.specs.Prelude.{◌≡◌, ◌≢◌, ◌⊎◌, ℕ, Option, List, take}
use Rattle.seq_shelf.specs.Told.{Grows}
use Rattle.seq_report.specs.declared.status.Status.{Status}
use Rattle.seq_report.specs.declared.status.Status.TheVariants.{SinkFault, NoMemory}

-- A command that ended with one status before it printed ends with another. Where memory was wanting before, nothing is printed.
abbrev pub MayBecome : Status → Status → Type 0
MayBecome status result = (result ≡ status) ⊎ ((result ≡ SinkFault) × (status ≢ NoMemory)) ⊎ (result ≡ NoMemory)

-- The sink got a text of this kind, whole. After its fault it has a beginning of one; after want of memory nothing is said.
abbrev pub Prints : Status → (List ℕ → Type 0) → Option (List ℕ) → Option (List ℕ) → Type 0
Prints SinkFault IsText before after = (text : List ℕ) × (n : ℕ) × IsText text × Grows before after (take n text)
Prints NoMemory IsText before after = Unit {0}
Prints _ IsText before after = (text : List ℕ) × IsText text × Grows before after text

-- A call that ends so ended with some status before it printed. What holds of a command that ended so holds, and its text is what was
-- printed.
pub record Ends (result : Status) (Holds : Status → Type 0) (IsText : Status → List ℕ → Type 0) (before after : Option (List ℕ)) : Type 0 where
  pub status : Status
  pub became : MayBecome status result
  pub holds : Holds status
  pub printed : Prints result (IsText status) before after
