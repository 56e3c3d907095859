-- Which status of a process rules, who is live, and who awaits recovery.
use Rattle.std.specs.Prelude.{◌≡◌, ℕ, ◌<◌, Bool, true, false, not, ◌||◌, ◌==◌, unwrap_or, Option}
use Rattle.seq_words.specs.declared.names.Pid.{Pid}
use Rattle.seq_layout.specs.Places.{IsPlace}
use Rattle.seq_layout.specs.Shapes.{Shape, process_extent}
use Rattle.seq_layout.specs.Copies.{Copies, IsServed, first_word}
use Rattle.seq_status.specs.declared.status.Holder.{Holder}
use Rattle.seq_status.specs.declared.status.Status.{Status}
use Rattle.seq_status.specs.declared.status.Status.TheVariants.{Idle, Run, Pass1, Pass2, Back, Forward}
use Rattle.seq_status.specs.Words.{status_of, IsStatusWord}
use Rattle.seq_ruling.specs.Lowest.{lowest}

-- the status that a word says
abbrev pub status_in : ℕ → Status
status_in w = unwrap_or (status_of w) Idle

-- the status of process q that rules: that of its first copy
abbrev pub ruling : Shape → Copies → ℕ → Status
ruling s p q = status_in (first_word s p q 0)

-- the holder is live: its processor hasn't stopped since
abbrev pub lives : (ℕ → ℕ) → Holder → Bool
lives incarnation h = h.incarnation == incarnation h.pe.0

-- the status names a holder that isn't live
abbrev pub is_deserted : (ℕ → ℕ) → Status → Bool
is_deserted incarnation Idle = false
is_deserted incarnation (Run h) = not (lives incarnation h)
is_deserted incarnation (Pass1 h) = not (lives incarnation h)
is_deserted incarnation (Pass2 h) = not (lives incarnation h)
is_deserted incarnation (Back h) = not (lives incarnation h)
is_deserted incarnation (Forward h) = not (lives incarnation h)

-- the status of a recovery
abbrev pub is_recovered : Status → Bool
is_recovered Idle = false
is_recovered (Run h) = false
is_recovered (Pass1 h) = false
is_recovered (Pass2 h) = false
is_recovered (Back h) = true
is_recovered (Forward h) = true

-- a process of this status awaits recovery
abbrev pub awaits : (ℕ → ℕ) → Status → Bool
awaits incarnation status = is_deserted incarnation status || is_recovered status

-- process q awaits recovery
abbrev pub awaits_recovery : Shape → Copies → (ℕ → ℕ) → ℕ → Bool
awaits_recovery s p incarnation q = awaits incarnation (ruling s p q)

-- the lowest process that awaits recovery
abbrev pub awaiting : Shape → Copies → (ℕ → ℕ) → Option ℕ
awaiting s p incarnation = lowest (awaits_recovery s p incarnation) s.processes

-- the process with this number
abbrev pub process : ℕ → Pid
process q = record { 0 = q }

-- the processor that a status names is among the first n
abbrev pub NamesOneOf : ℕ → Status → Type 0
NamesOneOf n Idle = Unit {0}
NamesOneOf n (Run h) = h.pe.0 < n
NamesOneOf n (Pass1 h) = h.pe.0 < n
NamesOneOf n (Pass2 h) = h.pe.0 < n
NamesOneOf n (Back h) = h.pe.0 < n
NamesOneOf n (Forward h) = h.pe.0 < n

-- each process has a status word at a copy in service, inside the format
pub record HaveRulingWords (s : Shape) (p : Copies) : Type 0 where
  pub place : (q : ℕ) → q < s.processes → IsPlace s.words q 0
  pub served : (q : ℕ) → q < s.processes → IsServed s p q
  pub format : (q : ℕ) → q < s.processes → IsStatusWord (first_word s p q 0)

-- and it names none but the first n processors
abbrev pub AreHeldByOneOf : ℕ → Shape → Copies → Type 0
AreHeldByOneOf n s p = (q : ℕ) → q < s.processes → NamesOneOf n (ruling s p q)
