-- One step of a process: an instruction, a kernel call or a trap.
use Rattle.std.specs.Prelude.{◌≡◌, ℕ, Bool, true, false, ◌&&◌, if◌then◌else◌, nat_lt, List, Option, Some, None, Result, Ok, Err, length, IsOk}
use Rattle.seq_words.specs.declared.description.MachineDesc.{MachineDesc}
use Rattle.seq_isa.specs.Meaning.{Outcome, moves, call, trap, outcome_at, register, registers_after}
use Rattle.seq_flat.specs.declared.inputs.LineInput.{LineInput}
use Rattle.seq_flat.specs.declared.state.End.{End}
use Rattle.seq_flat.specs.declared.state.End.TheVariants.{Live, Exited, Trapped}
use Rattle.seq_flat.specs.declared.state.ProcessState.{ProcessState}
use Rattle.seq_flat.specs.declared.state.SegmentState.{SegmentState}
use Rattle.seq_flat.specs.declared.state.FlatState.{FlatState}
use Rattle.seq_flat.specs.declared.state.Rights.{Rights}
use Rattle.seq_flat.specs.declared.state.Waits.{Waits}
use Rattle.seq_flat.specs.declared.state.Waits.TheVariants.{Ended}
use Rattle.seq_flat.specs.declared.state.StepError.{StepError}
use Rattle.seq_flat.specs.declared.state.StepError.TheVariants.{Waits as Waiting, NoMemory}
use Rattle.seq_flat.specs.State.{process_at, rights_at, rights_of, with_process}
use Rattle.seq_flat.specs.Memory.{seen, bytes_after, segments_after}
use Rattle.seq_flat.specs.Calls.{ended, kernel_call}

-- private bytes and segments after the store of an instruction, if it makes one
abbrev pub bytes_next : List ℕ → Option (ℕ × ℕ × ℕ) → List ℕ
bytes_next bytes (Some s) = bytes_after bytes s.0 s.1 s.2
bytes_next bytes None = bytes

abbrev pub segments_next : List SegmentState → Option (ℕ × ℕ × ℕ) → List SegmentState
segments_next segments (Some s) = segments_after segments s.0 s.1 s.2
segments_next segments None = segments

-- a process after an instruction that wrote a register, stored bytes, and goes on at an address
abbrev pub process_moved : ProcessState → Option (ℕ × ℕ) → Option (ℕ × ℕ × ℕ) → ℕ → ProcessState
process_moved q wrote store next = record q { regs = registers_after q.regs wrote next; bytes = bytes_next q.bytes store }

-- the state after such an instruction of process p
unfoldable pub moved : FlatState → ℕ → Option (ℕ × ℕ) → Option (ℕ × ℕ × ℕ) → ℕ → FlatState
moved f p wrote store next = record (with_process f p (process_moved (process_at f p) wrote store next)) { segments = segments_next f.segments store }

-- what the instruction at its pc does, in the memory that process p sees
abbrev pub outcome : FlatState → ℕ → Outcome
outcome f p = outcome_at (process_at f p).regs (seen (process_at f p).bytes f.segments p)

abbrev pub performed : Rights → List LineInput → FlatState → ℕ → Outcome → Result FlatState Waits
performed rights inputs f p (moves wrote store next) = Ok (moved f p wrote store next)
performed rights inputs f p call = kernel_call rights inputs f p (register (process_at f p).regs 17)
performed rights inputs f p (trap cause) = Ok (ended f p (Trapped cause (process_at f p).regs.pc))

abbrev pub is_live : End → Bool
is_live Live = true
is_live (Exited code) = false
is_live (Trapped cause pc) = false

-- A step of process p: the state after it, or what the process waits for.
unfoldable pub step_or_wait : List Rights → List LineInput → FlatState → ℕ → Result FlatState Waits
step_or_wait rights inputs f p =
    if nat_lt p (length f.processes) && is_live (process_at f p).end then performed (rights_at rights p) inputs f p (outcome f p)
    else Err Ended

-- a step that can't be made says what the process waits for; memory is wanting only for a step that can be made
abbrev pub Refuses : Result FlatState Waits → StepError → Type 0
Refuses stepped (Waiting w) = stepped ≡ Err w
Refuses stepped NoMemory = IsOk stepped

-- the state after a step, and none where the process isn't enabled
abbrev pub ok_of : Result FlatState Waits → Option FlatState
ok_of (Ok f) = Some f
ok_of (Err w) = None

abbrev pub step : MachineDesc → List LineInput → FlatState → ℕ → Option FlatState
step d inputs f p = ok_of (step_or_wait (rights_of d) inputs f p)

-- process p can take a step
abbrev pub IsEnabled : MachineDesc → List LineInput → FlatState → ℕ → Type 0
IsEnabled d inputs f p = IsOk (step_or_wait (rights_of d) inputs f p)

-- no process can take a step
abbrev pub IsQuiet : MachineDesc → List LineInput → FlatState → Type 0
IsQuiet d inputs f = (p : ℕ) → ¬ IsEnabled d inputs f p
