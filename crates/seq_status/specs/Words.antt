-- Status words: the kind in bits 0 to 7, the processor in bits 8 to 15, its incarnation in bits 16 to 63.
use Rattle.std.specs.Prelude.{◌≡◌, ◌≢◌, ℕ, ◌+◌, ◌*◌, ◌/◌, ◌%◌, ◌^◌, ◌<◌, ◌≤◌, ◌==◌, if◌then◌else◌, ◌↔◌, IsSome, Option, Some, None}
use Rattle.seq_words.specs.declared.names.Pe.{Pe}
use Rattle.seq_status.specs.declared.status.Holder.{Holder}
use Rattle.seq_status.specs.declared.status.Status.{Status}
use Rattle.seq_status.specs.declared.status.Status.TheVariants.{Idle, Run, Pass1, Pass2, Back, Forward}

abbrev pub held_word : ℕ → Holder → ℕ
held_word kind h = kind + 256 * h.pe.0 + 65536 * h.incarnation

-- the word of a status
abbrev pub word_of : Status → ℕ
word_of Idle = 0
word_of (Run h) = held_word 1 h
word_of (Pass1 h) = held_word 2 h
word_of (Pass2 h) = held_word 3 h
word_of (Back h) = held_word 4 h
word_of (Forward h) = held_word 5 h

-- the incarnation of a status has its place in a word
abbrev pub IsStatus : Status → Type 0
IsStatus Idle = Unit {0}
IsStatus (Run h) = h.incarnation < 2 ^ 48
IsStatus (Pass1 h) = h.incarnation < 2 ^ 48
IsStatus (Pass2 h) = h.incarnation < 2 ^ 48
IsStatus (Back h) = h.incarnation < 2 ^ 48
IsStatus (Forward h) = h.incarnation < 2 ^ 48

-- a word is inside the format: its kind is one of the six, and Idle is 0 alone
pub record IsStatusWord (w : ℕ) : Type 0 where
  pub kind : w % 256 ≤ 5
  pub idle : w % 256 ≡ 0 → w ≡ 0

abbrev pub holder_in : ℕ → Holder
holder_in w = record { pe = record { 0 = w / 256 % 256 }; incarnation = w / 65536 }

-- the status of a kind and a holder, of a word that isn't 0
abbrev pub status_with : ℕ → Holder → Option Status
status_with kind h =
    if kind == 1 then Some (Run h)
    else if kind == 2 then Some (Pass1 h)
    else if kind == 3 then Some (Pass2 h)
    else if kind == 4 then Some (Back h)
    else if kind == 5 then Some (Forward h)
    else None

-- the status of a word
abbrev pub status_of : ℕ → Option Status
status_of w = if w == 0 then Some Idle else status_with (w % 256) (holder_in w)

-- the processor of a status has its place in a word
abbrev pub NamesProcessor : Status → Type 0
NamesProcessor Idle = Unit {0}
NamesProcessor (Run h) = h.pe.0 < 2 ^ 8
NamesProcessor (Pass1 h) = h.pe.0 < 2 ^ 8
NamesProcessor (Pass2 h) = h.pe.0 < 2 ^ 8
NamesProcessor (Back h) = h.pe.0 < 2 ^ 8
NamesProcessor (Forward h) = h.pe.0 < 2 ^ 8

-- The word of a status is read as that status, and it is inside the format.
abbrev pub StatusesAreReadBack : Type 0
StatusesAreReadBack = (s : Status) → NamesProcessor s → status_of (word_of s) ≡ Some s

abbrev pub StatusesHaveTheFormat : Type 0
StatusesHaveTheFormat = (s : Status) → NamesProcessor s → IsStatusWord (word_of s)

-- A word is that of the status as which it is read, and it is read as one exactly where it is inside the format.
abbrev pub WordsAreWrittenBack : Type 0
WordsAreWrittenBack = (w : ℕ) (s : Status) → status_of w ≡ Some s → word_of s ≡ w

abbrev pub WordsOfTheFormatAreRead : Type 0
WordsOfTheFormatAreRead = (w : ℕ) → IsSome (status_of w) ↔ IsStatusWord w

-- The word is 0 for Idle alone: that of a process that is held isn't.
abbrev pub HeldIsNotZero : Type 0
HeldIsNotZero = (s : Status) → s ≢ Idle → word_of s ≢ 0

-- Where its numbers have their places, the word fits 64 bits.
abbrev pub StatusesFit : Type 0
StatusesFit = (s : Status) → NamesProcessor s → IsStatus s → word_of s < 2 ^ 64
