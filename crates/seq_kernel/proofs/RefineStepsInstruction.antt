-- A turn that an instruction makes is the flat machine's step.
use Rattle.std.proofs.Common.{◌≡◌, ℕ, ◌+◌, ◌<◌, ◌≤◌, true, List, length, Option, Some, None, arith, refl, sym, ◌∙◌, ap, subst, inl, inr}
use Rattle.std.proofs.lemmas.Bool.{cases_lt}
use Rattle.seq_words.specs.Description.{IsDescription, process_of, segment_of}
use Rattle.seq_words.specs.declared.description.MachineDesc.{MachineDesc}
use Rattle.seq_words.specs.declared.regs.Regs.{Regs}
use Rattle.seq_isa.specs.Meaning.{Bytes, moves, outcome_at, registers_after}
use Rattle.seq_rv32.specs.Widths.{IsWidth}
use Rattle.seq_rv32.specs.declared.effects.Effect.TheVariants as effect
use Rattle.seq_flat.specs.declared.inputs.LineInput.{LineInput}
use Rattle.seq_flat.specs.declared.state.ProcessState.{ProcessState}
use Rattle.seq_flat.specs.declared.state.FlatState.{FlatState}
use Rattle.seq_flat.specs.State.{process_at, segment_at, rights_of}
use Rattle.seq_flat.specs.Memory.{segment_of as segment_number, offset_of, seen as flat_seen, admitted}
use Rattle.seq_flat.specs.Step.{is_live, outcome, bytes_next, process_moved, moved}
use Rattle.seq_flat.specs.Effects.{plain_effect}
use Rattle.seq_flat.proofs.Cases.{steps_moves}
use Rattle.seq_flat.proofs.Stores.{fits_private, fits_shared, IsShared}
use Rattle.seq_pair.specs.declared.halves.Pair.{Pair}
use Rattle.seq_pair.specs.declared.halves.Turn.TheVariants as turn
use Rattle.seq_pair.specs.Turns.{unstruck, pair_after}
use Rattle.seq_layout.specs.Shapes.{shape_of, segment_extent}
use Rattle.seq_layout.specs.Copies.{Copies}
use Rattle.seq_process.specs.declared.running.Running.{Running}
use Rattle.seq_cache.specs.Changes.{Changes}
use Rattle.seq_segments.specs.Map.{before_private, mapped}
use Rattle.seq_kernel.specs.Views.{Blocks, read_by, seen, admission, with_store}
use Rattle.seq_kernel.specs.Turns.{counted}
use Rattle.seq_kernel.specs.Steps.{after_effect, pair_turn}
use Rattle.seq_kernel.specs.Bounds.{IsRunning}
use Rattle.seq_kernel.specs.Shown.{HoldBytes, ShowsLine, ShowsSegment, Shows}
use Rattle.seq_flat.specs.Reached.{IsFlat}
use Rattle.seq_kernel.proofs.RefineStepsTaken.{Taken}
use Rattle.seq_kernel.proofs.RefineStepsSeen.{private_small, mapped_private, mapped_high, mapped_inside, same_memory}
use Rattle.seq_kernel.proofs.RefineStepsPair.{Agrees, agrees, agreed_moves, unstruck_after}
use Rattle.seq_kernel.proofs.RefineStepsOutcomes.{IsPut, outcome_puts}
use Rattle.seq_flat.proofs.Moved.{moved_process, moved_flat}
use Rattle.seq_kernel.proofs.RefineStepsStores.{ShowsMemory, read_stored, none_stored, low_stored, high_stored}

-- the bytes of a store are there
positive : (width : ℕ) → IsWidth width → 0 < width
positive width (inl e) = omega arith
positive width (inr (inl e)) = omega arith
positive width (inr (inr e)) = omega arith

-- the place of an admitted store
low_place : (d : MachineDesc) (f : FlatState) (r : Running) (at width : ℕ) → IsRunning d r → IsFlat d f → IsWidth width → at + width ≤ length (process_at f r.pid.0).bytes → mapped d r.pid.0 r.held at ≡ Some (record { 0 = r.pid.0 }, before_private (process_of d r.pid.0) + at)
low_place d f r at width running flat wide inside =
    let size : length (process_at f r.pid.0).bytes ≡ (process_of d r.pid.0).size = flat.sizes r.pid.0 running.within.process in
    let some : 0 < width = positive width wide in
    mapped_private d r.pid.0 r.held at (omega arith)

high_place : (d : MachineDesc) (f : FlatState) (o : Blocks) (r : Running) (at width : ℕ) → IsDescription d → IsRunning d r → IsFlat d f → Shows d f o r → IsWidth width → 0x40000000 ≤ at → IsShared f.segments r.pid.0 at width → mapped d r.pid.0 r.held at ≡ Some (record { 0 = length d.processes + segment_number at }, offset_of at)
high_place d f o r at width described running flat shows wide high shared =
    let there : segment_number at < length d.segments = (let same = flat.segments in let inside = shared.there in omega arith) in
    let size : length (segment_at f (segment_number at)).bytes ≡ (segment_of d (segment_number at)).size = flat.segment_sizes (segment_number at) there in
    let some : 0 < width = positive width wide in
    let inside : offset_of at < (segment_of d (segment_number at)).size = (let all = shared.inside in omega arith) in
    mapped_high d r.pid.0 r.held at (private_small d r.pid.0 described running.within.process) high
    ∙ mapped_inside d r.held (segment_number at) (offset_of at) there ((shows.segment (segment_number at) there).held ∙ shared.held) inside

-- the memory after an instruction, with or without a store
put_shown : (d : MachineDesc) (f : FlatState) (p : Copies) (c : Changes) (r : Running) (wrote : Option (ℕ × ℕ)) (at width v next : ℕ)
    → IsDescription d → IsRunning d r → IsFlat d f → Shows d f (read_by d p c) r → IsPut (flat_seen (process_at f r.pid.0).bytes f.segments r.pid.0) (at, width, v)
    → ShowsMemory d (moved f r.pid.0 wrote (Some (at, width, v)) next) (read_by d p (with_store d r.pid.0 r.held p c (Some (at, width, v)))) r (bytes_next (process_at f r.pid.0).bytes (Some (at, width, v)))
put_shown d f p c r wrote at width v next described running flat shows put =
    let g : FlatState = moved f r.pid.0 wrote (Some (at, width, v)) next in
    let bytes : List ℕ = bytes_next (process_at f r.pid.0).bytes (Some (at, width, v)) in
    let fits = ap admitted put.there in
    elim (cases_lt at 0x40000000) [
      | inl low ↦
          let inside : at + width ≤ length (process_at f r.pid.0).bytes = fits_private (process_at f r.pid.0).bytes f.segments r.pid.0 at width put.width put.aligned fits low in
          subst (λ o. ShowsMemory d g o r bytes) (sym (read_stored d p c r.pid.0 r.held at width v r.pid.0 (before_private (process_of d r.pid.0) + at) (low_place d f r at width running flat put.width inside)))
          (low_stored d f p c r wrote at width v next running shows put.width put.aligned low inside)
      | inr high ↦
          let shared : IsShared f.segments r.pid.0 at width = fits_shared (process_at f r.pid.0).bytes f.segments r.pid.0 at width put.width put.aligned fits high in
          subst (λ o. ShowsMemory d g o r bytes) (sym (read_stored d p c r.pid.0 r.held at width v (segment_extent (shape_of d) (segment_number at)) (offset_of at) (high_place d f (read_by d p c) r at width described running flat shows put.width high shared)))
          (high_stored d f p c r wrote at width v next running shows put.width put.aligned high shared)
    ]

store_shown : (d : MachineDesc) (f : FlatState) (p : Copies) (c : Changes) (r : Running) (wrote : Option (ℕ × ℕ)) (store : Option (ℕ × ℕ × ℕ)) (next : ℕ)
    → IsDescription d → IsRunning d r → IsFlat d f → Shows d f (read_by d p c) r → ((s : ℕ × ℕ × ℕ) → store ≡ Some s → IsPut (flat_seen (process_at f r.pid.0).bytes f.segments r.pid.0) s)
    → ShowsMemory d (moved f r.pid.0 wrote store next) (read_by d p (with_store d r.pid.0 r.held p c store)) r (bytes_next (process_at f r.pid.0).bytes store)
store_shown d f p c r wrote (Some s) next described running flat shows puts = put_shown d f p c r wrote s.0 s.1 s.2 next described running flat shows (puts s refl)
store_shown d f p c r wrote None next described running flat shows puts = none_stored d f (read_by d p c) r wrote next shows

-- the process with another pair, one step on
abbrev went : Running → Pair → Running
went r pair = counted (record r { pair = pair })

went_segment : (d : MachineDesc) (g : FlatState) (o : Blocks) (r : Running) (pair : Pair) (t : ℕ) → ShowsSegment d g o r t → ShowsSegment d g o (went r pair) t
went_segment d g o r pair t shows = record { held = shows.held; bytes = shows.bytes }

went_line : (d : MachineDesc) (g : FlatState) (o : Blocks) (r : Running) (pair : Pair) (l : ℕ) → ShowsLine d g o r l → ShowsLine d g o (went r pair) l
went_line d g o r pair l shows = record { read = shows.read; written = shows.written; outbox = shows.outbox }

shows_went : (d : MachineDesc) (f : FlatState) (o o' : Blocks) (r : Running) (pair : Pair) (wrote : Option (ℕ × ℕ)) (store : Option (ℕ × ℕ × ℕ)) (next : ℕ)
    → r.pid.0 < length f.processes → Shows d f o r → ShowsMemory d (moved f r.pid.0 wrote store next) o' r (bytes_next (process_at f r.pid.0).bytes store) → unstruck pair ≡ registers_after (unstruck r.pair) wrote next
    → Shows d (moved f r.pid.0 wrote store next) o' (went r pair)
shows_went d f o o' r pair wrote store next there shows memory registers =
    let g : FlatState = moved f r.pid.0 wrote store next in
    let after : process_at g r.pid.0 ≡ process_moved (process_at f r.pid.0) wrote store next = moved_process f r.pid.0 wrote store next there in
    record {
      whole = memory.whole;
      registers = registers ∙ ap (λ (x : Regs). registers_after x wrote next) shows.registers ∙ ap (λ (q : ProcessState). q.regs) (sym after);
      end = shows.end ∙ ap (λ (q : ProcessState). q.end) (sym after);
      private = subst (λ (q : ProcessState). HoldBytes o' r.pid.0 (before_private (process_of d r.pid.0)) q.bytes) (sym after) memory.private;
      segment = λ t inside. went_segment d g o' r pair t (memory.segment t inside);
      line = λ l owned. went_line d g o' r pair l (memory.line l owned);
    }

-- a running process is there and lives in the flat state too
pub process_there : (d : MachineDesc) (f : FlatState) (r : Running) → IsRunning d r → IsFlat d f → r.pid.0 < length f.processes
process_there d f r running flat = let process = running.within.process in let same = flat.processes in omega arith

pub process_lives : (d : MachineDesc) (f : FlatState) (o : Blocks) (r : Running) → IsRunning d r → Shows d f o r → is_live (process_at f r.pid.0).end ≡ true
process_lives d f o r running shows = ap is_live (sym shows.end ∙ running.live)

-- the outcome of the flat process is that of the unstruck half
pub outcome_shown : (d : MachineDesc) (f : FlatState) (o : Blocks) (r : Running) → IsDescription d → IsRunning d r → IsFlat d f → Shows d f o r → outcome f r.pid.0 ≡ outcome_at (unstruck r.pair) (seen d r.pid.0 r.held o)
outcome_shown d f o r described running flat shows =
    ap (λ (bytes : Bytes). outcome_at (process_at f r.pid.0).regs bytes) (same_memory d f o r described running flat shows)
    ∙ ap (λ (x : Regs). outcome_at x (seen d r.pid.0 r.held o)) (sym shows.registers)

-- A turn in which the halves agree on an instruction is the flat machine's step.
pub instruction_is_flat : (d : MachineDesc) (inputs : List LineInput) (f : FlatState) (p : Copies) (r : Running) (c : Changes) (wrote : Option (ℕ × ℕ)) (store : Option (ℕ × ℕ × ℕ)) (next : ℕ)
    → IsDescription d → IsRunning d r → IsFlat d f → Shows d f (read_by d p c) r → pair_turn d p r c ≡ turn.Agreed (effect.Next wrote store next)
    → Taken d inputs f p r.pid.0 (after_effect d p r c (effect.Next wrote store next))
instruction_is_flat d inputs f p r c wrote store next described running flat shows turned =
    let o : Blocks = read_by d p c in
    let there : r.pid.0 < length f.processes = process_there d f r running flat in
    let agreed : Agrees (admission d r.pid.0 r.held c) (seen d r.pid.0 r.held o) r.pair (effect.Next wrote store next) = agrees (admission d r.pid.0 r.held c) (seen d r.pid.0 r.held o) r.pair (effect.Next wrote store next) turned in
    let is : outcome f r.pid.0 ≡ moves wrote store next = outcome_shown d f o r described running flat shows ∙ agreed_moves (admission d r.pid.0 r.held c) (seen d r.pid.0 r.held o) r.pair wrote store next agreed in
    let memory = store_shown d f p c r wrote store next described running flat shows
    (λ s e. outcome_puts (process_at f r.pid.0).regs (flat_seen (process_at f r.pid.0).bytes f.segments r.pid.0) wrote s next (is ∙ ap (λ x. moves wrote x next) e)) in
    record {
      state = moved f r.pid.0 wrote store next;
      step = steps_moves (rights_of d) inputs f r.pid.0 wrote store next there (process_lives d f o r running shows) (sym (ap plain_effect is));
      flat = moved_flat d f r.pid.0 wrote store next flat;
      shows = shows_went d f o (read_by d p (with_store d r.pid.0 r.held p c store)) r (pair_after r.pair (turn.Agreed (effect.Next wrote store next))) wrote store next there shows memory (unstruck_after r.pair (effect.Next wrote store next));
    }
