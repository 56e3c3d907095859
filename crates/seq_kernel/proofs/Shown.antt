-- What a process shows depends on its area alone.
use Rattle.std.proofs.Common.{◌≡◌, ℕ, ◌+◌, ◌*◌, ◌/◌, ◌%◌, ◌<◌, Bool, true, List, length, get_or, sym, ◌∙◌, ap, subst, inl, inr}
use Rattle.std.proofs.lemmas.Bool.{cases_Bool}
use Rattle.seq_words.specs.Description.{process_of}
use Rattle.seq_words.specs.declared.block.Block.{Block}
use Rattle.seq_words.specs.declared.description.MachineDesc.{MachineDesc}
use Rattle.seq_flat.specs.declared.state.FlatState.{FlatState}
use Rattle.seq_flat.specs.declared.state.ProcessState.{ProcessState}
use Rattle.seq_flat.specs.declared.state.SegmentState.{SegmentState}
use Rattle.seq_flat.specs.State.{process_at, segment_at, line_at}
use Rattle.seq_flat.specs.Memory.{is_owner}
use Rattle.seq_layout.specs.Shapes.{shape_of, segment_extent}
use Rattle.seq_process.specs.declared.running.Running.{Running}
use Rattle.seq_segments.specs.Map.{before_private}
use Rattle.seq_kernel.specs.Views.{Blocks}
use Rattle.seq_kernel.specs.Calls.{line_index}
use Rattle.seq_kernel.specs.Shown.{HoldBytes, Shows}
use Rattle.seq_kernel.specs.Areas.{AreAlike, AreWhole, in_area, HoldsAmong, owned_by, AgreeOn}
use Rattle.seq_kernel.specs.Depends.{ShownByTheArea, ShowsAllThatAgree}
use Rattle.seq_kernel.proofs.Areas.{process_in_area, segment_in_area}
use Rattle.seq_kernel.proofs.RefineCallsLines.{line_is}

-- bytes that alike blocks hold
pub hold_alike : (o o' : Blocks) (e from : ℕ) (bytes : List ℕ) → ((n : ℕ) → o e n ≡ o' e n) → HoldBytes o e from bytes → HoldBytes o' e from bytes
hold_alike o o' e from bytes same held = record {
  each = λ k lt. ap (λ (b : Block). get_or b.bytes ((from + k) % 32) 0) (sym (same ((from + k) / 32))) ∙ held.each k lt;
}

-- a process owns the same segments in flat states that agree
pub agreed_owner : (d : MachineDesc) (q : ℕ) (segments : ℕ → Bool) (g g' : FlatState) → AgreeOn d q segments g g' → (t : ℕ) → owned_by g q t ≡ owned_by g' q t
agreed_owner d q segments g g' agree t = elim (cases_Bool (segments t)) [
  | inl inside ↦ ap (λ (s : SegmentState). is_owner q s.owner) (agree.segment t inside)
  | inr outside ↦ agree.other t outside
]

module _ (d : MachineDesc) (segments : ℕ → Bool) (r : Running) (there : r.pid.0 < length d.processes) (among : HoldsAmong r segments) where
  pub held_alike : (o o' : Blocks) (t : ℕ) (bytes : List ℕ) → t < length d.segments → segments t ≡ true → AreAlike (in_area d r.pid.0 segments) o o' → HoldBytes o (segment_extent (shape_of d) t) 0 bytes → HoldBytes o' (segment_extent (shape_of d) t) 0 bytes
  held_alike o o' t bytes lt inside alike held = hold_alike o o' (segment_extent (shape_of d) t) 0 bytes (λ n. alike.each (segment_extent (shape_of d) t) n (segment_in_area d r.pid.0 segments t there lt inside)) held

  pub shown_by_area : (g : FlatState) (o o' : Blocks) → AreWhole o' → AreAlike (in_area d r.pid.0 segments) o o' → Shows d g o r → Shows d g o' r
  shown_by_area g o o' whole alike shows =
      let own : (n : ℕ) → o r.pid.0 n ≡ o' r.pid.0 n = λ n. alike.each r.pid.0 n (process_in_area d r.pid.0 segments) in
      record {
        whole = whole.block;
        registers = shows.registers;
        end = shows.end;
        private = hold_alike o o' r.pid.0 (before_private (process_of d r.pid.0)) (process_at g r.pid.0).bytes own shows.private;
        segment = λ t lt. record {
          held = (shows.segment t lt).held;
          bytes = λ on. held_alike o o' t (segment_at g t).bytes lt (among t on) alike ((shows.segment t lt).bytes on);
        };
        line = λ l mine. record {
          read = (shows.line l mine).read;
          written = (shows.line l mine).written;
          outbox = λ q lt.
              ap (λ (b : Block). get_or b.bytes ((256 + 256 * line_index d r l + q) % 32) 0) (sym (own ((256 + 256 * line_index d r l + q) / 32)))
              ∙ (shows.line l mine).outbox q lt;
        };
      }

  pub shows_agreed : (g g' : FlatState) (o : Blocks) → AgreeOn d r.pid.0 segments g g' → Shows d g o r → Shows d g' o r
  shows_agreed g g' o agree shows = record {
    whole = shows.whole;
    registers = shows.registers ∙ ap (λ (q : ProcessState). q.regs) agree.process;
    end = shows.end ∙ ap (λ (q : ProcessState). q.end) agree.process;
    private = subst (λ (q : ProcessState). HoldBytes o r.pid.0 (before_private (process_of d r.pid.0)) q.bytes) agree.process shows.private;
    segment = λ t lt. record {
      held = (shows.segment t lt).held ∙ agreed_owner d r.pid.0 segments g g' agree t;
      bytes = λ on. subst (λ (s : SegmentState). HoldBytes o (segment_extent (shape_of d) t) 0 s.bytes) (agree.segment t (among t on)) ((shows.segment t lt).bytes on);
    };
    line = λ l mine. line_is d g' o r l (line_at g l) (sym (agree.line l mine)) (shows.line l mine).read (shows.line l mine).written (shows.line l mine).outbox;
  }

pub shown_by_the_area : ShownByTheArea
shown_by_the_area d g segments o o' r there among whole alike shows = shown_by_area d segments r there among g o o' whole alike shows

pub shows_all_that_agree : ShowsAllThatAgree
shows_all_that_agree d g g' segments o r there among agree shows = shows_agreed d segments r there among g g' o agree shows
