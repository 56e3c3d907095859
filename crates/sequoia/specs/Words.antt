-- What a command line that can't be read is answered.
use Rattle.std.specs.declared.io.ErrorKind.{ErrorKind}
use Rattle.std.specs.declared.io.ErrorKind.TheVariants.{InvalidData}
use Rattle.seq_report.specs.declared.status.Status.{Status}
use Rattle.seq_report.specs.declared.status.Status.TheVariants.{Usage, NoMemory}

-- a word that isn't UTF-8 is no form of a command, and else memory was wanting
abbrev pub unread_status : ErrorKind → Status
unread_status InvalidData = Usage
unread_status kind = NoMemory
