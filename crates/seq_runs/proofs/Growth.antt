-- Histories and inputs grow.
use Rattle.std.proofs.Common.{◌≡◌, ℕ, ◌≤◌, cond, List, [], ◌∷◌, length, min, take, set, Some, arith, refl, sym, ◌∙◌, ap, subst, true≢false}
use Rattle.std.specs.Prelude.{◌==◌}
use Rattle.std.proofs.lemmas.List.Sums.{sum_by_push}
use Rattle.std.proofs.Math.Seq.{take-append_seam, take-length}
use Rattle.std.proofs.lemmas.List.{take-take, length-take}
use Rattle.seq_words.specs.declared.description.MachineDesc.{MachineDesc}
use Rattle.seq_flat.specs.declared.inputs.LineInput.{LineInput}
use Rattle.seq_flat.specs.declared.state.FlatState.{FlatState}
use Rattle.seq_flat.specs.State.{no_input, input_at, start}
use Rattle.seq_flat.specs.Run.{steps, run_from, flat_run, IsPrefix}
use Rattle.seq_flat.specs.Laws.{HasMore, MoreInput}
use Rattle.seq_flat.proofs.Runs.{runs_go_on}
use Rattle.seq_runs.specs.Histories.{entry, entry_count, EntryGoesOn, EntryIsLast, NoEntries, EntryCounts, ByteIsMore, CloseIsMore, NoneIsMore, MoreIsMore}
use Rattle.seq_runs.proofs.Touches.{at_set}
use Rattle.seq_runs.proofs.Ahead.{opened, run_of_steps}

pub entry_goes_on : EntryGoesOn
entry_goes_on d inputs history p n f g ran leads =
    runs_go_on d inputs history (entry p n ∷ []) (start d) ∙ (rw ran (run_of_steps d inputs p n f g leads))

steps_of_run : (d : MachineDesc) (inputs : List LineInput) (p n : ℕ) (f g : FlatState) → run_from d inputs f (entry p n ∷ []) ≡ Some g → steps d inputs p n f ≡ Some g
unfolding run_from
steps_of_run d inputs p n f g ran =
    let o = opened (λ h. Some h) (steps d inputs p n f) g ran in
    o.1 ∙ o.2

pub entry_is_last : EntryIsLast
entry_is_last d inputs history p n g ran =
    let o = opened (λ f. run_from d inputs f (entry p n ∷ [])) (flat_run d inputs history) g (sym (runs_go_on d inputs history (entry p n ∷ []) (start d)) ∙ ran) in
    record { state = o.0; before = o.1; leads = steps_of_run d inputs p n o.0 g o.2 }

pub no_entries : NoEntries
unfolding entry_count
no_entries p = refl

pub entry_counts : EntryCounts
unfolding entry_count
entry_counts history p q n = sum_by_push (λ e. cond (e.pid.0 == q) 1 0) history (entry p n)

has_all : (input : LineInput) → HasMore input input
has_all input = record { begins = take-length input.bytes; closed = λ _. refl }

pub none_is_more : NoneIsMore
none_is_more inputs = record { line = λ l. has_all (input_at inputs l) }

-- another line that has more
line_has_more : (inputs : List LineInput) (l : ℕ) (input : LineInput) → HasMore (input_at inputs l) input → MoreInput inputs (set inputs l input)
line_has_more inputs l input more = record {
  line = λ k. at_set (HasMore (input_at inputs k)) inputs l k input no_input (λ same _. subst (λ j. HasMore (input_at inputs j) input) (sym same) more) (λ _. has_all (input_at inputs k));
}

pub byte_is_more : ByteIsMore
byte_is_more inputs l byte open_yet = line_has_more inputs l _ (record {
  begins = take-append_seam (input_at inputs l).bytes (byte ∷ []);
  closed = λ closed. absurd (true≢false (sym closed ∙ open_yet));
})

pub close_is_more : CloseIsMore
close_is_more inputs l open_yet = line_has_more inputs l _ (record {
  begins = (has_all (input_at inputs l)).begins;
  closed = λ closed. absurd (true≢false (sym closed ∙ open_yet));
})

pub prefix_length : (xs ys : List ℕ) → IsPrefix xs ys → length xs ≤ length ys
prefix_length xs ys begins =
    let e : min (length xs) (length ys) ≡ length xs = sym (length-take (length xs) ys) ∙ ap length begins in
    omega (arith, e)

prefix_on : (xs ys zs : List ℕ) → IsPrefix xs ys → IsPrefix ys zs → IsPrefix xs zs
prefix_on xs ys zs a b = sym (take-take (length xs) (length ys) zs (prefix_length xs ys a)) ∙ ap (take (length xs)) b ∙ a

pub more_is_more : MoreIsMore
more_is_more one two three a b = record {
  line = λ l. record {
    begins = prefix_on (input_at one l).bytes (input_at two l).bytes (input_at three l).bytes (a.line l).begins (b.line l).begins;
    closed = λ closed. let first = (a.line l).closed closed in (b.line l).closed (ap (λ (x : LineInput). x.closed) first ∙ closed) ∙ first;
  };
}
