-- Which answer comes from which line.
use Rattle.std.proofs.Common.{◌≡◌, ℕ, Option, Some, Result, Err, refl}
use Rattle.seq_words.specs.declared.events.ReadError.{ReadError}
use Rattle.seq_words.specs.declared.events.ReadError.TheVariants as read_errors
use Rattle.seq_manifest.specs.declared.reading.LineError.{LineError}
use Rattle.seq_manifest.specs.declared.reading.LineError.TheVariants as line_errors
use Rattle.seq_manifest.specs.declared.draft.Draft.{Draft}
use Rattle.seq_manifest.specs.Errors.{error_at}

pub refused_at : (error : LineError) (answer : ReadError) (at place rule : ℕ) (fault : Option (ℕ × ℕ)) → answer ≡ error_at at error → ◌≡◌ {A = Result Draft ReadError} (Err answer) (Err (read_errors.Refused place rule))
    → ((r : ℕ) → error ≡ line_errors.Broken r → fault ≡ Some (at, r)) → fault ≡ Some (place, rule)
refused_at (line_errors.Broken r) answer at place rule fault e f h = let g = h r refl in cc
refused_at line_errors.NoMemory answer at place rule fault e f h = absurd cc

pub refused_is : (at r place rule : ℕ) (fault : Option (ℕ × ℕ)) → fault ≡ Some (at, r) → ◌≡◌ {A = Result Draft ReadError} (Err (read_errors.Refused at r)) (Err (read_errors.Refused place rule)) → fault ≡ Some (place, rule)
refused_is at r place rule fault e f = cc
