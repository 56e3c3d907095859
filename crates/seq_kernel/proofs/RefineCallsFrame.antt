-- A call that is answered: the answer stands in x10, the next instruction follows, and all else is as before.
use Rattle.std.proofs.Common.{◌≡◌, ℕ, ◌<◌, List, length, get_or, inl, inr, refl, sym, ◌∙◌, ap, subst, length-set, get_or-set_same, get_or-set_other}
use Rattle.std.specs.Prelude.{Option, Some, None}
use Rattle.std.proofs.lemmas.Bool.{cases_eq}
use Rattle.seq_words.specs.declared.description.MachineDesc.{MachineDesc}
use Rattle.seq_words.specs.declared.half.Half.{Half}
use Rattle.seq_words.specs.declared.half.Half.TheVariants.{A, B}
use Rattle.seq_words.specs.Description.{process_of}
use Rattle.seq_flat.specs.declared.state.ProcessState.{ProcessState}
use Rattle.seq_flat.specs.declared.state.SegmentState.{SegmentState}
use Rattle.seq_flat.specs.declared.state.LineState.{LineState}
use Rattle.seq_flat.specs.declared.state.FlatState.{FlatState}
use Rattle.seq_flat.specs.State.{no_process, no_segment, process_at, segment_at, with_process, with_line}
use Rattle.seq_flat.specs.Calls as flat
use Rattle.seq_flat.proofs.Moved.{process_put, flat_process}
use Rattle.seq_pair.specs.Turns.{unstruck, unstruck_of}
use Rattle.seq_pair.specs.declared.halves.Pair.{Pair}
use Rattle.seq_process.specs.declared.running.Running.{Running}
use Rattle.seq_segments.specs.Map.{before_private}
use Rattle.seq_kernel.specs.Views.{Blocks}
use Rattle.seq_kernel.specs.Turns.{answered, half_answered, pair_answered}
use Rattle.seq_flat.specs.Reached.{IsFlat}
use Rattle.seq_kernel.specs.Shown.{HoldBytes, Shows}

-- the half that isn't struck gets the answer as both do
unstruck_answered : (p : Pair) (answer : ℕ) → unstruck (pair_answered p answer) ≡ half_answered (unstruck p) answer
unstruck_answered p answer = go p.struck
  where
    go : (s : Option Half) → unstruck_of s (half_answered p.a answer) (half_answered p.b answer) ≡ half_answered (unstruck_of s p.a p.b) answer
    go None = refl
    go (Some A) = refl
    go (Some B) = refl

module _ (d : MachineDesc) (f : FlatState) (r : Running) (is : IsFlat d f) (there : r.pid.0 < length d.processes) where
  pub known : r.pid.0 < length f.processes
  known = subst (λ n. r.pid.0 < n) (sym is.processes) there

  pub answered_flat : (answer : ℕ) → IsFlat d (flat.answered f r.pid.0 answer)
  unfolding flat.answered
  answered_flat answer = flat_process d f r.pid.0 _ is known refl

  -- an answer leaves a process that shows the state with the answer
  pub answered_shows : (o : Blocks) (answer : ℕ) → Shows d f o r → Shows d (flat.answered f r.pid.0 answer) o (answered r answer)
  unfolding flat.answered
  answered_shows o answer shows =
      let here = process_put f r.pid.0 (record (process_at f r.pid.0) { regs = half_answered (process_at f r.pid.0).regs answer }) known in
      record {
        whole = shows.whole;
        registers = unstruck_answered r.pair answer ∙ ap (λ h. half_answered h answer) shows.registers ∙ sym (ap (λ (x : ProcessState). x.regs) here);
        end = shows.end ∙ sym (ap (λ (x : ProcessState). x.end) here);
        private = subst (HoldBytes o r.pid.0 (before_private (process_of d r.pid.0))) (sym (ap (λ (x : ProcessState). x.bytes) here)) shows.private;
        segment = λ t lt. (let s = shows.segment t lt in record { held = s.held; bytes = s.bytes });
        line = λ l own. (let n = shows.line l own in record { read = n.read; written = n.written; outbox = n.outbox });
      }
