-- What the reader answers where a line isn't taken.
use Rattle.std.specs.Prelude.{ℕ}
use Rattle.seq_words.specs.declared.events.ReadError.{ReadError}
use Rattle.seq_words.specs.declared.events.ReadError.TheVariants as read_errors
use Rattle.seq_manifest.specs.declared.reading.LineError.{LineError}
use Rattle.seq_manifest.specs.declared.reading.LineError.TheVariants as line_errors

abbrev pub error_at : ℕ → LineError → ReadError
error_at place (line_errors.Broken rule) = read_errors.Refused place rule
error_at place line_errors.NoMemory = read_errors.NoMemory
