-- What a kernel call leads to: where it claims a segment, where it waits, and where the process is to be flushed.
use Rattle.std.specs.Prelude.{◌≡◌, ◌≢◌, ◌⊎◌, ◌↔◌, ℕ, ◌+◌, ◌<◌, ◌≤◌, true, false, length, slice_index, IsSome}
use Rattle.seq_words.specs.Description.{process_of}
use Rattle.seq_words.specs.Masks.{has_bit}
use Rattle.seq_words.specs.declared.description.MachineDesc.{MachineDesc}
use Rattle.seq_words.specs.declared.names.Seg.{Seg}
use Rattle.seq_isa.specs.Meaning.{register}
use Rattle.seq_flat.specs.Memory.{bytes_from}
use Rattle.seq_rv32.specs.declared.effects.Effect.TheVariants as effect
use Rattle.seq_pair.specs.declared.halves.Turn.TheVariants as turn
use Rattle.seq_layout.specs.Copies.{Copies}
use Rattle.seq_process.specs.declared.running.Running.{Running}
use Rattle.seq_cache.specs.Changes.{Changes}
use Rattle.seq_kernel.specs.declared.outcomes.Outcome.{Outcome}
use Rattle.seq_kernel.specs.declared.outcomes.Outcome.TheVariants.{Done, Claim, NeedsFlush, Waits, Diverged}
use Rattle.seq_kernel.specs.declared.outcomes.Cause.{Cause}
use Rattle.seq_kernel.specs.declared.outcomes.Cause.TheVariants as cause
use Rattle.seq_kernel.specs.declared.outcomes.Reason.{Reason}
use Rattle.seq_kernel.specs.declared.outcomes.Reason.TheVariants as reason
use Rattle.seq_kernel.specs.Views.{read_by, seen}
use Rattle.seq_kernel.specs.Outboxes.{needed}
use Rattle.seq_kernel.specs.Turns.{Turned}
use Rattle.seq_kernel.specs.Calls.{lines_of, line_index, line_word, AgreeOnCall}
use Rattle.seq_kernel.specs.Steps.{pair_turn, step_of}
use Rattle.seq_kernel.specs.Kept.{IsUnchanged}
use Rattle.seq_kernel.specs.Refinement.{takes_step}

-- an argument of a call: what a register of the first half holds
abbrev pub argument : Running → ℕ → ℕ
argument r i = register r.pair.a i

-- both halves ask for the call with this number
pub record Asks (r : Running) (call : ℕ) : Type 0 where
  pub agree : AgreeOnCall r.pair
  pub number : argument r 17 ≡ call

-- an acquire of segment t that the lock decides: the process is granted the segment, and holds neither it nor one above it
pub record Acquires (d : MachineDesc) (r : Running) (t : ℕ) : Type 0 where
  pub asks : Asks r 1
  pub segment : argument r 10 ≡ t
  pub known : t < length d.segments
  pub granted : has_bit (process_of d r.pid.0).grants t ≡ true
  pub free : has_bit r.held t ≡ false
  pub above : (u : ℕ) → t < u → has_bit r.held u ≡ false

-- a release of segment t, which the process holds
pub record Releases (d : MachineDesc) (r : Running) (t : ℕ) : Type 0 where
  pub asks : Asks r 2
  pub segment : argument r 10 ≡ t
  pub known : t < length d.segments
  pub held : has_bit r.held t ≡ true

-- a read of the process's line l, of which it has read all `count` bytes that are in its journal, while the line isn't closed
pub record AwaitsInput (d : MachineDesc) (p : Copies) (r : Running) (l count : ℕ) : Type 0 where
  pub asks : Asks r 3
  pub line : argument r 10 ≡ l
  pub own : has_bit (lines_of d r) l ≡ true
  pub arrived : line_word d p l 0 ≡ count
  pub all_read : count ≤ slice_index r.reads (line_index d r l)
  pub unclosed : line_word d p l 1 ≢ 1

-- how many bytes the process has written to the line in x10
abbrev pub written_before : MachineDesc → Running → ℕ
written_before d r = slice_index r.writes (line_index d r (argument r 10))

-- a write that isn't refused: at most 64 bytes, which the process sees, to a line of its own with room in its output
pub record Writes (d : MachineDesc) (p : Copies) (r : Running) (c : Changes) : Type 0 where
  pub asks : Asks r 4
  pub own : has_bit (lines_of d r) (argument r 10) ≡ true
  pub few : argument r 12 ≤ 64
  pub inside : IsSome (bytes_from (seen d r.pid.0 r.held (read_by d p c)) (argument r 11) (argument r 12))
  pub room : written_before d r + argument r 12 ≤ 1048576

-- a write to line l, of which `count` bytes have been sent: more than 256 bytes would wait in its outbox
pub record AwaitsOutbox (d : MachineDesc) (p : Copies) (r : Running) (c : Changes) (l count : ℕ) : Type 0 where
  pub writes : Writes d p r c
  pub line : argument r 10 ≡ l
  pub sent : line_word d p l 2 ≡ count
  pub full : 256 + count < written_before d r + argument r 12

-- a write for which the outbox has room, but the cache has none
pub record LacksRoom (d : MachineDesc) (p : Copies) (r : Running) (c : Changes) : Type 0 where
  pub writes : Writes d p r c
  pub outbox : written_before d r + argument r 12 ≤ 256 + line_word d p (argument r 10) 2
  pub cache : c.capacity < length c.changes + needed c r.pid.0 (line_index d r (argument r 10)) (written_before d r) (argument r 12)

-- where a call waits for this reason
abbrev pub AwaitsFor : MachineDesc → Copies → Running → Changes → Reason → Type 0
AwaitsFor d p r c (reason.Input line count) = AwaitsInput d p r line.0 count
AwaitsFor d p r c (reason.Outbox line sent) = AwaitsOutbox d p r c line.0 sent
AwaitsFor d p r c (reason.Lock segment holder) = ⊥

-- where the process is to be flushed for this cause after a call
abbrev pub FlushesFor : MachineDesc → Copies → Running → Changes → Cause → Type 0
FlushesFor d p r c (cause.Release segment) = Releases d r segment.0
FlushesFor d p r c cause.Exit = Asks r 0
FlushesFor d p r c cause.Trap = ⊥
FlushesFor d p r c cause.Commit = Asks r 6
FlushesFor d p r c cause.Yield = Asks r 7
FlushesFor d p r c (cause.Wait why) = ⊥
FlushesFor d p r c cause.Room = LacksRoom d p r c
FlushesFor d p r c cause.Quantum = ⊥

-- where a call comes to this outcome; it is answered in all other cases
abbrev pub ComesTo : MachineDesc → Copies → Running → Changes → Outcome → Type 0
ComesTo d p r c Done = Unit {0}
ComesTo d p r c (Claim segment) = Acquires d r segment.0
ComesTo d p r c (NeedsFlush why) = FlushesFor d p r c why
ComesTo d p r c (Waits why) = AwaitsFor d p r c why
ComesTo d p r c Diverged = ¬ (AgreeOnCall r.pair)

-- both halves call the kernel
abbrev pub CallsKernel : MachineDesc → Copies → Running → Changes → Type 0
CallsKernel d p r c = pair_turn d p r c ≡ turn.Agreed effect.Call

-- Why a turn comes to its outcome: only a call claims and waits. Room is wanting for a store or a write, and a trap ends the
-- process; for every other cause it is flushed after a call. A turn that takes no step changes nothing.
pub record HasItsCause (d : MachineDesc) (p : Copies) (r : Running) (c : Changes) (after : Turned) : Type 0 where
  pub claims : (segment : Seg) → (after.outcome ≡ Claim segment) ↔ (CallsKernel d p r c × Acquires d r segment.0)
  pub waits : (why : Reason) → (after.outcome ≡ Waits why) ↔ (CallsKernel d p r c × AwaitsFor d p r c why)
  pub room : (after.outcome ≡ NeedsFlush cause.Room) ↔ ((pair_turn d p r c ≡ turn.Agreed effect.Full) ⊎ (CallsKernel d p r c × LacksRoom d p r c))
  pub trap : (after.outcome ≡ NeedsFlush cause.Trap) ↔ ((code : ℕ) × (pair_turn d p r c ≡ turn.Agreed (effect.Trap code)))
  pub flushes : (why : Cause) → why ≢ cause.Room → why ≢ cause.Trap → (after.outcome ≡ NeedsFlush why) ↔ (CallsKernel d p r c × FlushesFor d p r c why)
  pub unchanged : (takes_step after.outcome → ⊥) → IsUnchanged r c after

-- each turn is so
abbrev pub TurnsHaveTheirCause : Type 0
TurnsHaveTheirCause = (d : MachineDesc) (p : Copies) (r : Running) (c : Changes) → HasItsCause d p r c (step_of d p r c)
