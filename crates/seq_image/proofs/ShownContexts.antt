-- The context that is saved of a running process is that of the process that it shows.
use Rattle.std.proofs.Common.{◌≡◌, ℕ, zero, suc, ◌+◌, ◌<◌, ◌≤◌, Option, Some, None, true, false, List, [], ◌∷◌, length, get_or, arith, refl, sym, ◌∙◌, ap, inl, inr}
use Rattle.std.specs.Prelude.{slice_index, count_ones}
use Rattle.std.proofs.lemmas.Bool.{cases_lt, false_from_ne_true}
use Rattle.std.proofs.lemmas.List.{get_or_past}
use Rattle.std.proofs.lemmas.Grind.{same_number_lists}
use Rattle.seq_words.specs.Masks.{has_bit}
use Rattle.seq_words.specs.declared.description.MachineDesc.{MachineDesc}
use Rattle.seq_words.specs.declared.half.Half.{Half}
use Rattle.seq_words.specs.declared.half.Half.TheVariants.{A, B}
use Rattle.seq_words.specs.Description.{IsDescription, process_of}
use Rattle.seq_flat.specs.declared.state.FlatState.{FlatState}
use Rattle.seq_flat.specs.declared.state.LineState.{LineState}
use Rattle.seq_flat.specs.declared.state.SegmentState.{SegmentState}
use Rattle.seq_flat.specs.State.{no_line, no_segment, line_at}
use Rattle.seq_flat.specs.Memory.{is_owner}
use Rattle.seq_pair.specs.declared.halves.Pair.{Pair}
use Rattle.seq_pair.specs.Turns.{unstruck, unstruck_of}
use Rattle.seq_process.specs.declared.running.Running.{Running}
use Rattle.seq_process.specs.Contexts.{saved}
use Rattle.seq_kernel.specs.Views.{Blocks}
use Rattle.seq_kernel.specs.Calls.{lines_of}
use Rattle.seq_kernel.specs.Bounds.{IsWithin, LeavesUnused}
use Rattle.seq_flat.specs.Reached.{IsFlat}
use Rattle.seq_kernel.specs.Shown.{Shows}
use Rattle.seq_kernel.proofs.CallPlaces.{lines_are_few}
use Rattle.seq_image.specs.Images.{own_line, own_line_below, held_among, context_of}
use Rattle.seq_image.proofs.OwnLines.{IsLine, numbered, line_absent, count_of_sixteen}
use Rattle.seq_image.proofs.HeldMasks.{held_bit, one_mask}

-- the line of a process with a number
pub line_numbered : (d : MachineDesc) (f : FlatState) (p i l : ℕ) → own_line_below (process_of d p).lines i 16 ≡ Some l → own_line d f p i ≡ line_at f l
unfolding own_line
line_numbered d f p i l found = rw found refl

pub line_missing : (d : MachineDesc) (f : FlatState) (p i : ℕ) → count_ones (process_of d p).lines ≤ i → own_line d f p i ≡ no_line
unfolding own_line
line_missing d f p i past = rw (line_absent (process_of d p).lines i 16 past) refl

pub some_line : (d : MachineDesc) (p i : ℕ) → ((l : ℕ) → has_bit (process_of d p).lines l ≡ true → l < 16) → i < count_ones (process_of d p).lines → (l : ℕ) × IsLine (process_of d p).lines i 16 l
some_line d p i few lt = numbered (process_of d p).lines i 16 (omega (arith, count_of_sixteen (process_of d p).lines few))

below_four : (P : ℕ → Type 0) → P 0 → P 1 → P 2 → P 3 → (k : ℕ) → k < 4 → P k
below_four P a b c d zero within = a
below_four P a b c d (suc zero) within = b
below_four P a b c d (suc (suc zero)) within = c
below_four P a b c d (suc (suc (suc zero))) within = d
below_four P a b c d (suc (suc (suc (suc k)))) within = absurd (omega arith)

-- four numbers, one by one
four : (xs : List ℕ) (f : ℕ → ℕ) → length xs ≡ 4 → ((i : ℕ) → i < 4 → get_or xs i 0 ≡ f i) → xs ≡ f 0 ∷ f 1 ∷ f 2 ∷ f 3 ∷ []
four xs f full each = same_number_lists xs (f 0 ∷ f 1 ∷ f 2 ∷ f 3 ∷ []) full (λ k lt.
    below_four (λ i. get_or xs i 0 ≡ get_or (f 0 ∷ f 1 ∷ f 2 ∷ f 3 ∷ []) i 0) (each 0 (omega arith)) (each 1 (omega arith)) (each 2 (omega arith)) (each 3 (omega arith)) k (omega (arith, full)))

-- halves that agree are the one that isn't struck
agreed_half : (p : Pair) → p.a ≡ p.b → unstruck p ≡ p.a
agreed_half p same = go p.struck
  where
    go : (h : Option Half) → unstruck_of h p.a p.b ≡ p.a
    go None = refl
    go (Some A) = sym same
    go (Some B) = refl

module _ (d : MachineDesc) (g : FlatState) (o : Blocks) (r : Running) (described : IsDescription d) (within : IsWithin d r) (unused : LeavesUnused d r) (flat : IsFlat d g) (shows : Shows d g o r) where
  read_is : (i : ℕ) → slice_index r.reads i ≡ (own_line d g r.pid.0 i).read
  read_is i = elim (cases_lt i (count_ones (lines_of d r))) [
    | inl lt ↦
        let found = some_line d r.pid.0 i (lines_are_few d described r.pid.0) lt in
        ap (slice_index r.reads) (sym found.1.number) ∙ (shows.line found.0 found.1.own).read ∙ sym (ap (λ (n : LineState). n.read) (line_numbered d g r.pid.0 i found.0 found.1.found))
    | inr past ↦ unused.reads i past ∙ sym (ap (λ (n : LineState). n.read) (line_missing d g r.pid.0 i past))
  ]

  written_is : (i : ℕ) → slice_index r.writes i ≡ length (own_line d g r.pid.0 i).output
  written_is i = elim (cases_lt i (count_ones (lines_of d r))) [
    | inl lt ↦
        let found = some_line d r.pid.0 i (lines_are_few d described r.pid.0) lt in
        ap (slice_index r.writes) (sym found.1.number) ∙ (shows.line found.0 found.1.own).written ∙ sym (ap (λ (n : LineState). length n.output) (line_numbered d g r.pid.0 i found.0 found.1.found))
    | inr past ↦ unused.writes i past ∙ sym (ap (λ (n : LineState). length n.output) (line_missing d g r.pid.0 i past))
  ]

  held_is : r.held ≡ held_among r.pid.0 g.segments
  held_is = one_mask r.held (held_among r.pid.0 g.segments) (λ t. elim (cases_lt t (length d.segments)) [
    | inl lt ↦ (shows.segment t lt).held ∙ sym (held_bit r.pid.0 g.segments t)
    | inr past ↦
        let none : get_or g.segments t no_segment ≡ no_segment = get_or_past g.segments t no_segment (omega (arith, flat.segments)) in
        let clear : has_bit r.held t ≡ false = false_from_ne_true (has_bit r.held t) (λ on. absurd (let lt = within.held t on in omega arith)) in
        clear ∙ sym (held_bit r.pid.0 g.segments t ∙ ap (λ (s : SegmentState). is_owner r.pid.0 s.owner) none)
  ])

  pub saved_is : (commits : ℕ) → r.pair.a ≡ r.pair.b → commits ≡ r.commits + 1 → saved r r.pair.a ≡ context_of d g r.pid.0 commits
  saved_is commits agree one_more =
      let regs : r.pair.a ≡ _ = sym (agreed_half r.pair agree) ∙ shows.registers in
      let reads = four r.reads (λ i. (own_line d g r.pid.0 i).read) within.positions.reads (λ i _. read_is i) in
      let writes = four r.writes (λ i. length (own_line d g r.pid.0 i).output) within.positions.writes (λ i _. written_is i) in
      rw (regs, shows.end, held_is, one_more, reads, writes) refl
