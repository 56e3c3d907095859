-- A call on a line changes what is shown of this line alone.
use Rattle.std.proofs.Common.{◌≡◌, ◌≢◌, ◌⊎◌, ℕ, ◌+◌, ◌*◌, ◌<◌, ◌≤◌, true, List, length, inl, inr, arith, refl, sym, ◌∙◌, ap, subst, get_or-set_same, get_or-set_other}
use Rattle.std.specs.Prelude.{slice_index, count_ones}
use Rattle.std.proofs.lemmas.Bool.{cases_eq, cases_order}
use Rattle.seq_words.specs.Masks.{has_bit}
use Rattle.seq_words.specs.Description.{IsDescription, process_of, no_process}
use Rattle.seq_words.specs.declared.description.MachineDesc.{MachineDesc}
use Rattle.seq_flat.specs.declared.state.LineState.{LineState}
use Rattle.seq_flat.specs.declared.state.FlatState.{FlatState}
use Rattle.seq_flat.specs.State.{no_line, line_at, with_line}
use Rattle.seq_layout.specs.Shapes.{shape_of, segment_extent}
use Rattle.seq_process.specs.declared.running.Running.{Running}
use Rattle.seq_segments.specs.Map.{before_private}
use Rattle.seq_kernel.specs.Views.{Blocks, byte_in}
use Rattle.seq_kernel.specs.Calls.{lines_of, line_index}
use Rattle.seq_kernel.specs.Bounds.{IsRunning}
use Rattle.seq_kernel.specs.Shown.{HoldBytes, Shows, ShowsLine, outbox_byte}
use Rattle.seq_flat.specs.Reached.{IsFlat}
use Rattle.seq_kernel.proofs.CallPlaces.{lines_are_few}
use Rattle.seq_kernel.proofs.RefineCallsBits.{index_below, index_apart}

-- a place that isn't in the outbox with this number of process p
abbrev pub IsElsewhere : ℕ → ℕ → ℕ → ℕ → Type 0
IsElsewhere p i e at = (e ≢ p) ⊎ ((at < 256 + 256 * i) ⊎ (512 + 256 * i ≤ at))

-- all bytes are as before, but for those of an outbox
pub record KeepsOthers (p i : ℕ) (before after : Blocks) : Type 0 where
  pub byte : (e at : ℕ) → IsElsewhere p i e at → byte_in after e at ≡ byte_in before e at

pub keeps_all : (p i : ℕ) (o : Blocks) → KeepsOthers p i o o
keeps_all p i o = record { byte = λ e at elsewhere. refl }

kept_bytes : (p i : ℕ) (o o' : Blocks) (e from : ℕ) (bytes : List ℕ) → KeepsOthers p i o o' → ((k : ℕ) → IsElsewhere p i e (from + k)) → HoldBytes o e from bytes → HoldBytes o' e from bytes
kept_bytes p i o o' e from bytes kept elsewhere held = record { each = λ k lt. kept.byte e (from + k) (elsewhere k) ∙ held.each k lt }

other_outbox : (p i j q : ℕ) → j ≢ i → q < 256 → IsElsewhere p i p (256 + 256 * j + q)
other_outbox p i j q other lt = elim (cases_order j i) [
  | inl same ↦ absurd (other same)
  | inr (inl below) ↦ inr (inl (omega arith))
  | inr (inr above) ↦ inr (inr (omega arith))
]

-- what is shown of line l, where the flat state's line is n
pub line_is : (d : MachineDesc) (g : FlatState) (o : Blocks) (r : Running) (l : ℕ) (n : LineState) → line_at g l ≡ n
    → slice_index r.reads (line_index d r l) ≡ n.read → slice_index r.writes (line_index d r l) ≡ length n.output → ((q : ℕ) → q < 256 → byte_in o r.pid.0 (256 + 256 * line_index d r l + q) ≡ outbox_byte n.output q)
    → ShowsLine d g o r l
line_is d g o r l n is read written outbox = record {
  read = read ∙ sym (ap (λ (x : LineState). x.read) is);
  written = written ∙ sym (ap (λ (x : LineState). length x.output) is);
  outbox = λ q lt. outbox q lt ∙ sym (ap (λ (x : LineState). outbox_byte x.output q) is);
}

module _ (d : MachineDesc) (f : FlatState) (r : Running) (described : IsDescription d) (is : IsFlat d f) (running : IsRunning d r) (l : ℕ) (own : has_bit (lines_of d r) l ≡ true) where
  pub index_few : line_index d r l < count_ones (lines_of d r)
  index_few = index_below (lines_of d r) l own

  pub index_of_four : line_index d r l < 4
  index_of_four = omega (arith, index_few, (described.each_process r.pid.0 no_process running.within.process).few)

  pub known_line : l < length f.lines
  known_line = omega (arith, lines_are_few d described r.pid.0 l own, is.lines)

  -- with other positions and bytes of line l alone
  pub line_shows : (o o' : Blocks) (n : LineState) (reads writes : List ℕ) → Shows d f o r → ((e m : ℕ) → length (o' e m).bytes ≡ 32) → KeepsOthers r.pid.0 (line_index d r l) o o'
      → ((j : ℕ) → j ≢ line_index d r l → slice_index reads j ≡ slice_index r.reads j) → ((j : ℕ) → j ≢ line_index d r l → slice_index writes j ≡ slice_index r.writes j)
      → slice_index reads (line_index d r l) ≡ n.read → slice_index writes (line_index d r l) ≡ length n.output → ((q : ℕ) → q < 256 → byte_in o' r.pid.0 (256 + 256 * line_index d r l + q) ≡ outbox_byte n.output q)
      → Shows d (with_line f l n) o' (record r { reads = reads; writes = writes })
  line_shows o o' n reads writes shows whole kept other_reads other_writes read written outbox =
      let i = line_index d r l in
      let after : Running = record r { reads = reads; writes = writes } in
      record {
        whole = whole;
        registers = shows.registers;
        end = shows.end;
        private = kept_bytes r.pid.0 i o o' r.pid.0 (before_private (process_of d r.pid.0)) _ kept (λ k. inr (inr (omega (arith, index_few)))) shows.private;
        segment = λ t lt.
            let s = shows.segment t lt in
            record { held = s.held; bytes = λ set. kept_bytes r.pid.0 i o o' (segment_extent (shape_of d) t) 0 _ kept (λ k. inl (let there = running.within.process in omega arith)) (s.bytes set) };
        line = λ m mine. elim (cases_eq m l) [
          | inl same ↦ subst (ShowsLine d (with_line f l n) o' after) (sym same) (line_is d (with_line f l n) o' after l n (get_or-set_same f.lines l n no_line known_line) read written outbox)
          | inr other ↦
              let before = shows.line m mine in
              let apart : line_index d r m ≢ line_index d r l = index_apart (lines_of d r) m l mine own other in
              line_is d (with_line f l n) o' after m (line_at f m) (get_or-set_other f.lines l m n no_line other)
              (other_reads (line_index d r m) apart ∙ before.read) (other_writes (line_index d r m) apart ∙ before.written)
              (λ q lt. kept.byte r.pid.0 (256 + 256 * line_index d r m + q) (other_outbox r.pid.0 i (line_index d r m) q apart lt) ∙ before.outbox q lt)
        ];
      }
