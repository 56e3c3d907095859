-- What the machine's state is at every moment, part by part, in plain words: memories, status words, lines.
use Rattle.std.specs.Prelude.{◌≡◌, ◌≢◌, ◌⊎◌, ℕ, suc, ◌+◌, ◌/◌, ◌%◌, ◌<◌, ◌≤◌, Bool, true, false, if◌then◌else◌, List, length, Option, Some, None, slice_get, slice_index}
use Rattle.seq_words.specs.Masks.{has_bit}
use Rattle.seq_words.specs.Description.{IsDescription, line_count}
use Rattle.seq_words.specs.declared.description.MachineDesc.{MachineDesc}
use Rattle.seq_words.specs.declared.events.Event.{Event}
use Rattle.seq_memory.specs.States.{is_in_service}
use Rattle.seq_memory.specs.declared.element.State.TheVariants.{Copying}
use Rattle.seq_flat.specs.declared.inputs.LineInput.{LineInput}
use Rattle.seq_flat.specs.declared.state.FlatState.{FlatState}
use Rattle.seq_flat.specs.State.{input_at}
use Rattle.seq_flat.specs.Run.{output, IsPrefix}
use Rattle.seq_layout.specs.Shapes.{shape_of, line_extent}
use Rattle.seq_layout.specs.Copies.{AtMostOneOut, serves, first_word}
use Rattle.seq_layout.specs.Units.{units_of}
use Rattle.seq_status.specs.declared.status.Holder.{Holder}
use Rattle.seq_status.specs.declared.status.Status.{Status}
use Rattle.seq_status.specs.declared.status.Status.TheVariants.{Idle, Run, Pass1, Pass2, Back, Forward}
use Rattle.seq_status.specs.Words.{IsStatusWord}
use Rattle.seq_ruling.specs.Ruling.{status_in, NamesOneOf}
use Rattle.seq_process.specs.declared.running.Running.{Running}
use Rattle.seq_kernel.specs.Calls.{lines_of, line_index}
use Rattle.seq_turns.specs.declared.hand.Hand.{Hand}
use Rattle.seq_turns.specs.declared.hand.Hand.TheVariants as hand
use Rattle.seq_turns.specs.declared.hand.FlushAt.{FlushAt}
use Rattle.seq_turns.specs.declared.hand.FlushAt.TheVariants as flush
use Rattle.seq_turns.specs.declared.hand.ReleaseAt.TheVariants as release
use Rattle.seq_turns.specs.declared.hand.RecoveryAt.{RecoveryAt}
use Rattle.seq_turns.specs.declared.hand.RecoveryAt.TheVariants as recovery
use Rattle.seq_turns.specs.Machines.{Machine}
use Rattle.seq_turns.specs.Reading.{ruling, lives, awaits, is_amid}
use Rattle.seq_stands.specs.Service.{IsEqual}
use Rattle.seq_lines.specs.Arrivals.{arrived}
use Rattle.seq_invariant.specs.Holds.{AllHolds}
use Rattle.seq_invariant.specs.Within.{HoldsWithin}
use Rattle.seq_invariant.specs.Orders.{running_in}

-- At most one memory isn't in service, and while one isn't, no process awaits recovery. While one is being copied no processor is
-- amid an operation, and the units that it has behind its next are equal to those of the other copy.
pub record MemoriesServe (d : MachineDesc) (m : Machine) : Type 0 where
  pub one_out : AtMostOneOut (shape_of d) m.copies
  pub none_awaits : (i q : ℕ) → i < d.memories → is_in_service (m.copies.state i) ≡ false → q < length d.processes → awaits m.incarnation (ruling d m.copies q) ≡ false
  pub calm : (i next p : ℕ) → i < d.memories → m.copies.state i ≡ Copying next → is_amid (m.hand p) ≡ false
  pub copied : (i next k : ℕ) → i < d.memories → m.copies.state i ≡ Copying next → k < next → IsEqual m.copies (slice_get (units_of (shape_of d) i) k)

-- the processor that a status names
abbrev pub named_by : Status → Option Holder
named_by Idle = None
named_by (Run h) = Some h
named_by (Pass1 h) = Some h
named_by (Pass2 h) = Some h
named_by (Back h) = Some h
named_by (Forward h) = Some h

-- the process that is recovered
abbrev pub recovered_by : RecoveryAt → ℕ
recovered_by (recovery.Claimed r) = r.pid.0
recovered_by (recovery.Copying r) = r.pid.0
recovered_by (recovery.Locks r) = r.pid.0
recovered_by (recovery.Closing r) = r.pid.0

-- the process that a processor has in its hand
abbrev pub process_in : Hand → Option ℕ
process_in hand.Down = None
process_in hand.Seek = None
process_in (hand.Claiming q c) = Some q.0
process_in (hand.Running r) = Some r.pid.0
process_in (hand.Acquiring r t c) = Some r.pid.0
process_in (hand.Flushing r why mask f) = Some r.pid.0
process_in (hand.Unlocking r why mask l) = Some r.pid.0
process_in (hand.Leaving q l) = Some q.0
process_in (hand.Recovering x) = Some (recovered_by x)

-- the process that it runs: no longer after the first turn that releases it
abbrev pub process_run_by : Hand → Option ℕ
process_run_by hand.Down = None
process_run_by hand.Seek = None
process_run_by (hand.Claiming q c) = None
process_run_by (hand.Running r) = Some r.pid.0
process_run_by (hand.Acquiring r t c) = Some r.pid.0
process_run_by (hand.Flushing r why mask f) = Some r.pid.0
process_run_by (hand.Unlocking r why mask l) = Some r.pid.0
process_run_by (hand.Leaving q (release.Shadow l)) = Some q.0
process_run_by (hand.Leaving q (release.Primary l)) = None
process_run_by (hand.Recovering x) = None

-- One copy of the status word is set, and the other is to be: amid the mark, from the commit to the next turn, amid the close.
abbrev pub FlushSetsOne : FlushAt → Type 0
FlushSetsOne (flush.Mark f) = f.cursor ≢ 0
FlushSetsOne (flush.First f) = ⊥
FlushSetsOne (flush.Second f) = f.cursor ≡ 0
FlushSetsOne (flush.Close f) = f.cursor ≢ 0

-- so of a recovery: from its first turn to the next, and amid the release
abbrev pub RecoverySetsOne : RecoveryAt → Type 0
RecoverySetsOne (recovery.Claimed r) = Unit {0}
RecoverySetsOne (recovery.Copying r) = ⊥
RecoverySetsOne (recovery.Locks r) = ⊥
RecoverySetsOne (recovery.Closing r) = r.cursor ≢ 0

-- So it is amid a claim of the process, a release, a flush, or a recovery.
abbrev pub SetsOne : Hand → ℕ → Type 0
SetsOne hand.Down q = ⊥
SetsOne hand.Seek q = ⊥
SetsOne (hand.Claiming x c) q = x.0 ≡ q
SetsOne (hand.Running r) q = ⊥
SetsOne (hand.Acquiring r t c) q = ⊥
SetsOne (hand.Flushing r why mask f) q = (r.pid.0 ≡ q) × FlushSetsOne f
SetsOne (hand.Unlocking r why mask l) q = ⊥
SetsOne (hand.Leaving x (release.Shadow l)) q = ⊥
SetsOne (hand.Leaving x (release.Primary l)) q = x.0 ≡ q
SetsOne (hand.Recovering x) q = (recovered_by x ≡ q) × RecoverySetsOne x

-- a processor has set one copy of the status word of process q
pub record IsHalfSet (m : Machine) (q : ℕ) : Type 0 where
  pub processor : ℕ
  pub sets : SetsOne (m.hand processor) q

-- Ruling status words have the format, and name no incarnation above the present one. The processor of a live holder has the
-- process in its hand, and no two processors run one process. Two copies in service are one word, but while a processor has set
-- one of them alone, and where the process awaits recovery.
pub record StatusWordsName (d : MachineDesc) (m : Machine) : Type 0 where
  pub format : (q : ℕ) → q < length d.processes → IsStatusWord (first_word (shape_of d) m.copies q 0)
  pub in_time : (q : ℕ) (h : Holder) → q < length d.processes → named_by (ruling d m.copies q) ≡ Some h → h.incarnation ≤ m.incarnation h.pe.0
  pub in_hand : (q : ℕ) (h : Holder) → q < length d.processes → named_by (ruling d m.copies q) ≡ Some h → lives m.incarnation h ≡ true → process_in (m.hand h.pe.0) ≡ Some q
  pub one : (p r q : ℕ) → process_run_by (m.hand p) ≡ Some q → process_run_by (m.hand r) ≡ Some q → p ≡ r
  pub same : (q : ℕ) → q < length d.processes → serves (shape_of d) m.copies q false ≡ true → serves (shape_of d) m.copies q true ≡ true →
      (m.copies.word q 0 true ≡ m.copies.word q 0 false) ⊎ IsHalfSet m q ⊎ (awaits m.incarnation (ruling d m.copies q) ≡ true)

-- On both copies status words have the format, also while the process awaits recovery. They name no processor that isn't there, and
-- no incarnation above its present one.
pub record StatusWordsHaveFormat (d : MachineDesc) (m : Machine) : Type 0 where
  pub format : (q : ℕ) (c : Bool) → q < length d.processes → IsStatusWord (m.copies.word q 0 c)
  pub named : (q : ℕ) (c : Bool) → q < length d.processes → NamesOneOf d.processors (status_in (m.copies.word q 0 c))
  pub in_time : (q : ℕ) (c : Bool) (h : Holder) → q < length d.processes → named_by (status_in (m.copies.word q 0 c)) ≡ Some h → h.incarnation ≤ m.incarnation h.pe.0

-- of a line, at one of its copies: its journal count, whether it is closed, its sent count, and a byte of its journal
abbrev pub counted : MachineDesc → Machine → ℕ → Bool → ℕ
counted d m l c = m.copies.word (line_extent (shape_of d) l) 0 c

abbrev pub closed_word : MachineDesc → Machine → ℕ → Bool → ℕ
closed_word d m l c = m.copies.word (line_extent (shape_of d) l) 1 c

abbrev pub sent_word : MachineDesc → Machine → ℕ → Bool → ℕ
sent_word d m l c = m.copies.word (line_extent (shape_of d) l) 2 c

abbrev pub journal_byte : MachineDesc → Machine → ℕ → Bool → ℕ → ℕ
journal_byte d m l c k = slice_index (m.copies.block (line_extent (shape_of d) l) (k / 32) c).bytes (k % 32)

-- A copy of a line that is in service counts as many bytes as the port gave up, or one more, all of them arrived; its journal
-- holds these. It is closed only where the line is and the port gave up all. No more was sent than it may say.
pub record CopyCounts (d : MachineDesc) (input : LineInput) (m : Machine) (l limit : ℕ) (c : Bool) : Type 0 where
  pub count : (counted d m l c ≡ (m.port l).taken) ⊎ (counted d m l c ≡ suc (m.port l).taken)
  pub arrived : counted d m l c ≤ length input.bytes
  pub journal : (k : ℕ) → k < counted d m l c → slice_get input.bytes k ≡ Some (journal_byte d m l c k)
  pub bit : closed_word d m l c ≤ 1
  pub closed : closed_word d m l c ≡ 1 → (input.closed ≡ true) × ((m.port l).taken ≡ length input.bytes)
  pub sent : sent_word d m l c ≤ limit

-- The port has what arrived, and hasn't given up more; it is closed exactly where the line is.
pub record PortCounts (input : LineInput) (m : Machine) (l : ℕ) : Type 0 where
  pub arrived : (m.port l).arrived ≡ length input.bytes
  pub taken : (m.port l).taken ≤ length input.bytes
  pub unread : (k : ℕ) → (m.port l).taken ≤ k → k < length input.bytes → slice_get input.bytes k ≡ Some (slice_index (m.port l).store k)
  pub closed : (m.port l).closed ≡ input.closed

-- The bytes sent are the beginning of the output. No sent word says more than what was sent, or on a line that is hung up than the
-- output. On a line that isn't, what a process that runs has written, and what is committed, is at most 256 bytes ahead.
pub record LinesCount (d : MachineDesc) (inputs : List LineInput) (f : FlatState) (m : Machine) : Type 0 where
  pub port : (l : ℕ) → l < line_count d → PortCounts (input_at inputs l) m l
  pub copy : (l : ℕ) (c : Bool) → l < line_count d → serves (shape_of d) m.copies (line_extent (shape_of d) l) c ≡ true →
      CopyCounts d (input_at inputs l) m l (if m.hung l then length (output f l) else length (m.sent l)) c
  pub sent : (l : ℕ) → l < line_count d → IsPrefix (m.sent l) (output f l)
  pub committed : (l : ℕ) → l < line_count d → m.hung l ≡ false → length (output f l) ≤ length (m.sent l) + 256
  pub written : (p l : ℕ) (r : Running) → running_in (m.hand p) ≡ Some r → has_bit (lines_of d r) l ≡ true → m.hung l ≡ false → slice_index r.writes (line_index d r l) ≤ length (m.sent l) + 256

-- So it is at every moment.
abbrev pub MemoriesServeAlways : Type 0
MemoriesServeAlways = (d : MachineDesc) (events : List Event) (m : Machine) → IsDescription d → AllHolds d events m → MemoriesServe d m

abbrev pub StatusWordsNameAlways : Type 0
StatusWordsNameAlways = (d : MachineDesc) (events : List Event) (m : Machine) → IsDescription d → AllHolds d events m → StatusWordsName d m

-- with the bounds of all that elements hold
abbrev pub StatusWordsHaveFormatAlways : Type 0
StatusWordsHaveFormatAlways = (d : MachineDesc) (events : List Event) (m : Machine) → HoldsWithin d events m → StatusWordsHaveFormat d m

abbrev pub LinesCountAlways : Type 0
LinesCountAlways = (d : MachineDesc) (events : List Event) (m : Machine) → IsDescription d → (all : AllHolds d events m) → LinesCount d (arrived d events) all.at.state m
