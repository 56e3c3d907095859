-- A turn that traps is the flat machine's step.
use Rattle.std.proofs.Common.{◌≡◌, ℕ, ◌<◌, false, List, length, arith, refl, sym, ◌∙◌, ap, subst}
use Rattle.std.proofs.lemmas.Nat.Bits.{bit_at-zero}
use Rattle.seq_words.specs.Masks.{has_bit}
use Rattle.seq_words.specs.Description.{IsDescription, process_of}
use Rattle.seq_words.specs.declared.description.MachineDesc.{MachineDesc}
use Rattle.seq_words.specs.declared.regs.Regs.{Regs}
use Rattle.seq_isa.specs.Meaning.{trap}
use Rattle.seq_rv32.specs.declared.effects.Effect.TheVariants as effect
use Rattle.seq_flat.specs.declared.inputs.LineInput.{LineInput}
use Rattle.seq_flat.specs.declared.state.End.{End}
use Rattle.seq_flat.specs.declared.state.End.TheVariants.{Trapped}
use Rattle.seq_flat.specs.declared.state.ProcessState.{ProcessState}
use Rattle.seq_flat.specs.declared.state.SegmentState.{SegmentState}
use Rattle.seq_flat.specs.declared.state.LineState.{LineState}
use Rattle.seq_flat.specs.declared.state.FlatState.{FlatState}
use Rattle.seq_flat.specs.State.{process_at, segment_at, rights_of}
use Rattle.seq_flat.specs.Memory.{is_owner}
use Rattle.seq_flat.specs.Calls.{ended as flat_ended}
use Rattle.seq_flat.specs.Step.{outcome}
use Rattle.seq_flat.specs.Effects.{plain_effect}
use Rattle.seq_flat.proofs.Cases.{steps_traps_at}
use Rattle.seq_pair.specs.declared.halves.Turn.TheVariants as turn
use Rattle.seq_layout.specs.Copies.{Copies}
use Rattle.seq_process.specs.declared.running.Running.{Running}
use Rattle.seq_cache.specs.Changes.{Changes}
use Rattle.seq_segments.specs.Map.{before_private}
use Rattle.seq_kernel.specs.Views.{Blocks, read_by, seen, admission}
use Rattle.seq_kernel.specs.Turns.{ended}
use Rattle.seq_kernel.specs.Steps.{after_effect, pair_turn}
use Rattle.seq_kernel.specs.Bounds.{IsRunning}
use Rattle.seq_kernel.specs.Shown.{HoldBytes, outbox_byte, ShowsLine, ShowsSegment, Shows}
use Rattle.seq_flat.specs.Reached.{IsFlat}
use Rattle.seq_kernel.proofs.RefineStepsTaken.{Taken}
use Rattle.seq_kernel.proofs.RefineStepsPair.{Agrees, agrees, agreed_traps, unstruck_pc}
use Rattle.seq_flat.proofs.Moved.{ended_process, ended_segment, ended_line, given_up_owner, ended_flat}
use Rattle.seq_kernel.proofs.RefineStepsInstruction.{process_there, process_lives, outcome_shown}

-- nothing is held any more
no_bit : (t : ℕ) → has_bit 0 t ≡ false
no_bit t = rw (bit_at-zero t) refl

ended_shows_segment : (d : MachineDesc) (f : FlatState) (o : Blocks) (r : Running) (end : End) (t : ℕ) → t < length f.segments → ShowsSegment d (flat_ended f r.pid.0 end) o (ended r end) t
ended_shows_segment d f o r end t there = record {
  held = no_bit t ∙ sym (ap (λ (s : SegmentState). is_owner r.pid.0 s.owner) (ended_segment f r.pid.0 end t there) ∙ given_up_owner r.pid.0 (segment_at f t));
  bytes = λ held. absurd (let free = no_bit t in cc);
}

ended_shows_line : (d : MachineDesc) (f : FlatState) (o : Blocks) (r : Running) (end : End) (l : ℕ) → ShowsLine d f o r l → ShowsLine d (flat_ended f r.pid.0 end) o (ended r end) l
ended_shows_line d f o r end l shows = record {
  read = shows.read ∙ ap (λ (n : LineState). n.read) (sym (ended_line f r.pid.0 end l));
  written = shows.written ∙ ap (λ (n : LineState). length n.output) (sym (ended_line f r.pid.0 end l));
  outbox = λ q lt. shows.outbox q lt ∙ ap (λ (n : LineState). outbox_byte n.output q) (sym (ended_line f r.pid.0 end l));
}

-- a process that ends shows the flat process that ends
pub ended_shows : (d : MachineDesc) (f : FlatState) (o : Blocks) (r : Running) (end : End) → IsRunning d r → IsFlat d f → Shows d f o r → Shows d (flat_ended f r.pid.0 end) o (ended r end)
ended_shows d f o r end running flat shows =
    let g : FlatState = flat_ended f r.pid.0 end in
    let after : process_at g r.pid.0 ≡ record (process_at f r.pid.0) { end = end } = ended_process f r.pid.0 end (process_there d f r running flat) in
    record {
      whole = shows.whole;
      registers = shows.registers ∙ ap (λ (q : ProcessState). q.regs) (sym after);
      end = ap (λ (q : ProcessState). q.end) (sym after);
      private = subst (λ (q : ProcessState). HoldBytes o r.pid.0 (before_private (process_of d r.pid.0)) q.bytes) (sym after) shows.private;
      segment = λ t there. ended_shows_segment d f o r end t (let same = flat.segments in omega arith);
      line = λ l owned. ended_shows_line d f o r end l (shows.line l owned);
    }

-- A turn in which the halves agree on a trap is the flat machine's step.
pub trap_is_flat : (d : MachineDesc) (inputs : List LineInput) (f : FlatState) (p : Copies) (r : Running) (c : Changes) (code : ℕ)
    → IsDescription d → IsRunning d r → IsFlat d f → Shows d f (read_by d p c) r → pair_turn d p r c ≡ turn.Agreed (effect.Trap code)
    → Taken d inputs f p r.pid.0 (after_effect d p r c (effect.Trap code))
trap_is_flat d inputs f p r c code described running flat shows turned =
    let o : Blocks = read_by d p c in
    let there : r.pid.0 < length f.processes = process_there d f r running flat in
    let agreed : Agrees (admission d r.pid.0 r.held c) (seen d r.pid.0 r.held o) r.pair (effect.Trap code) = agrees (admission d r.pid.0 r.held c) (seen d r.pid.0 r.held o) r.pair (effect.Trap code) turned in
    let is : outcome f r.pid.0 ≡ trap code = outcome_shown d f o r described running flat shows ∙ agreed_traps (admission d r.pid.0 r.held c) (seen d r.pid.0 r.held o) r.pair code agreed in
    let pc : r.pair.a.pc ≡ (process_at f r.pid.0).regs.pc = unstruck_pc (admission d r.pid.0 r.held c) (seen d r.pid.0 r.held o) r.pair (effect.Trap code) agreed ∙ ap (λ (x : Regs). x.pc) shows.registers in
    let end : End = Trapped code r.pair.a.pc in
    record {
      state = flat_ended f r.pid.0 end;
      step = steps_traps_at (rights_of d) inputs f f (flat_ended f r.pid.0 end) r.pid.0 code r.pair.a.pc there (process_lives d f o r running shows) (sym (ap plain_effect is)) refl pc refl;
      flat = ended_flat d f r.pid.0 end flat;
      shows = ended_shows d f o r end running flat shows;
    }
