-- A process can take a step exactly where it lives and doesn't call the kernel to wait.
use Rattle.std.proofs.Common.{◌≡◌, ◌≢◌, ℕ, ◌+◌, ◌-◌, ◌/◌, ◌^◌, ◌<◌, ◌≤◌, Bool, true, false, not, ◌&&◌, ◌||◌, ◌==◌, if◌then◌else◌, nat_lt, length, drop, get_or, replicate, Option, Some, None, inl, inr, arith, refl, sym, ◌∙◌, ap, subst, eq-eqb}
use Rattle.std.specs.Prelude.{slice_get, slice_index, count_ones, option_map, is_some, is_ok, Result, Ok, Err}
use Rattle.std.specs.List.{list_any}
use Rattle.std.proofs.lemmas.Bool.{cases_lt, cases_order, lt-ltb, le-ltb, ltb-true, ne_eqb, eqb-true, false≢true, true≢false, true_from_ne_false, false_from_ne_true}
use Rattle.std.proofs.lemmas.Option.{slice_get-get_or, slice_get_past}
use Rattle.std.proofs.lemmas.List.{get_or_default, get_or-drop, length-drop, length-replicate}
use Rattle.std.proofs.lemmas.List.Elements.{All-get_or, All-from_get_or}
use Rattle.std.proofs.lemmas.List.Folds.{list_any_at, list_any_none}
use Rattle.std.proofs.lemmas.List.FromFn.{get_or-map-range_with_len, length-map-range_with_len}
use Rattle.std.proofs.lemmas.Nat.Bits.{bit_at-zero}
use Rattle.seq_words.specs.Masks.{has_bit}
use Rattle.seq_words.specs.Description.{IsDescription, IsProcess, line_count, process_of, no_process}
use Rattle.seq_words.specs.declared.names.Pid.{Pid}
use Rattle.seq_words.specs.declared.description.MachineDesc.{MachineDesc}
use Rattle.seq_words.specs.declared.description.ProcessDesc.{ProcessDesc}
use Rattle.seq_isa.specs.Meaning.{Outcome, moves, call, trap, outcome_at, register}
use Rattle.seq_flat.specs.declared.inputs.LineInput.{LineInput}
use Rattle.seq_flat.specs.declared.state.End.TheVariants.{Live, Exited, Trapped}
use Rattle.seq_flat.specs.declared.state.ProcessState.{ProcessState}
use Rattle.seq_flat.specs.declared.state.SegmentState.{SegmentState}
use Rattle.seq_flat.specs.declared.state.LineState.{LineState}
use Rattle.seq_flat.specs.declared.state.FlatState.{FlatState}
use Rattle.seq_flat.specs.declared.state.Rights.{Rights}
use Rattle.seq_flat.specs.declared.state.Waits.{Waits}
use Rattle.seq_flat.specs.State.{no_segment, no_line, no_input, process_at, segment_at, line_at, input_at, rights_at, rights_of}
use Rattle.seq_flat.specs.Memory.{is_owner, seen as flat_seen}
use Rattle.seq_flat.specs.Calls as flat
use Rattle.seq_flat.specs.Step.{outcome, performed, is_live, step_or_wait}
use Rattle.seq_layout.specs.Shapes.{shape_of, index_of, Owns}
use Rattle.seq_layout.proofs.Owners.{owners_are_alone, index_below}
use Rattle.seq_layout.specs.declared.context.Context.{Context}
use Rattle.seq_process.specs.Contexts.{end_of}
use Rattle.seq_kernel.specs.Views.{Blocks, seen}
use Rattle.seq_kernel.proofs.CallPlaces.{line_below, lines_are_few}
use Rattle.seq_kernel.proofs.RefineCallsBits.{zero_from_bits, bit_above}
use Rattle.seq_kernel.proofs.RefineCallsMeets.{rights_are}
use Rattle.seq_turns.specs.Functions.{lowest}
use Rattle.seq_turns.specs.Machines.{Machine}
use Rattle.seq_turns.specs.Duties.{owner}
use Rattle.seq_ruling.proofs.Lowest.{lowest_found, none_found}
use Rattle.seq_turns.proofs.Functions.{lowest_passes, lowest_none, lowest_least}
use Rattle.seq_lines.proofs.Written.{line_owner}
use Rattle.seq_layout.specs.Copies.{Copies, first_block}
use Rattle.seq_turns.specs.Reading.{context_of}
use Rattle.seq_lines.specs.Committed.{pid_of, context_at, process_in, owner_in, line_in, state_in, input_counts}
use Rattle.seq_lines.specs.Going.{is_held_below, AreHeldBelow, AreOwned, HeldAreThere, is_call, awaits_lock, awaits_input, awaits, goes_on, GoesOnWhereEnabled, QuietByProcess}
use Rattle.seq_lines.proofs.Settles.{nobody}
use Rattle.seq_lines.proofs.Seeing.{process_there, segment_there, segments_length, segment_owner, same_memory}

-- the lowest process that passes is q where q passes and none below does
lowest_owner : (test : ℕ → Bool) (n q : ℕ) (k : Option ℕ) → lowest test n ≡ k → q < n → is_owner q (option_map pid_of k) ≡ (test q && not (is_some (lowest test q)))
lowest_owner test n q None none lt = rw (lowest_none test n none q lt) refl
lowest_owner test n q (Some k) found lt = elim (cases_order k q) [
  | inl same ↦
      let on : test q ≡ true = subst (λ j. test j ≡ true) same (lowest_passes test n k found).0 in
      let none : lowest test q ≡ None = none_found test q (subst (λ j. (i : ℕ) → i < j → test i ≡ false) same (lowest_least test n k found)) in
      eq-eqb k q same ∙ sym (rw (on, none) refl)
  | inr (inl below) ↦
      let some : lowest test q ≡ Some k = lowest_found test k q (none_found test k (lowest_least test n k found)) (lowest_passes test n k found).0 below in
      ne_eqb k q (λ e. absurd (omega (arith, below, e))) ∙ sym (rw some (neither (test q)))
  | inr (inr above) ↦
      let off : test q ≡ false = lowest_least test n k found q above in
      ne_eqb k q (λ e. absurd (omega (arith, above, e))) ∙ sym (rw off refl)
]
  where
    neither : (b : Bool) → (b && false) ≡ false
    neither true = refl
    neither false = refl

some_mapped : (k : Option ℕ) → is_some (option_map pid_of k) ≡ is_some k
some_mapped (Some k) = refl
some_mapped None = refl

owner_is : (d : MachineDesc) (o : Blocks) (q owned t : ℕ) → q < length d.processes → AreOwned o q owned → is_owner q (owner_in d o t) ≡ has_bit owned t
unfolding is_held_below
owner_is d o q owned t lt own = lowest_owner (λ p. has_bit (context_at o p).held t) (length d.processes) q (lowest (λ p. has_bit (context_at o p).held t) (length d.processes)) refl lt ∙ sym (own t)

held_is : (d : MachineDesc) (o : Blocks) (held t : ℕ) → AreHeldBelow o (length d.processes) held → is_some (owner_in d o t) ≡ has_bit held t
unfolding is_held_below
held_is d o held t any = some_mapped (lowest (λ p. has_bit (context_at o p).held t) (length d.processes)) ∙ sym (any t)

-- a call is answered unless each of its tests lets it wait
refuses : (b test : Bool) (x : FlatState) (y : Result FlatState Waits) (w : Bool) → b ≡ not test → (test ≡ true → is_ok y ≡ not w) → is_ok (if b then Ok x else y) ≡ not (test && w)
refuses false true x y w same rest = rest refl
refuses true false x y w same rest = refl
refuses true true x y w same rest = absurd (true≢false same)
refuses false false x y w same rest = absurd (false≢true same)

answers : (b : Bool) (x y : Result FlatState Waits) → is_ok x ≡ true → is_ok y ≡ true → is_ok (if b then x else y) ≡ true
answers true x y first second = first
answers false x y first second = second

passes : (b : Bool) (x y : Result FlatState Waits) (w : Bool) → (b ≡ true → is_ok x ≡ w) → (b ≡ false → is_ok y ≡ w) → is_ok (if b then x else y) ≡ w
passes true x y w first second = first refl
passes false x y w first second = second refl

-- nobody else has it
taken_free : (f : FlatState) (p s : ℕ) (o : Option Pid) → is_ok (flat.taken_by f p s o) ≡ not (is_some o)
taken_free f p s None = refl
taken_free f p s (Some h) = refl

twice : (b : Bool) → b ≡ not (not b)
twice true = refl
twice false = refl

module _ (d : MachineDesc) (m : Machine) (o : Blocks) (q owned held : ℕ) (described : IsDescription d) (there_all : HeldAreThere d o) (lt : q < length d.processes) (own : AreOwned o q owned) (any : AreHeldBelow o (length d.processes) held) where
  lines_are : (rights_at (rights_of d) q).lines ≡ (process_of d q).lines
  lines_are = ap (λ (r : Rights). r.lines) (rights_are d q lt)

  grants_are : (rights_at (rights_of d) q).grants ≡ (process_of d q).grants
  grants_are = ap (λ (r : Rights). r.grants) (rights_are d q lt)

  process_is : process_at (state_in d o) q ≡ process_in d o q
  process_is = process_there d o q lt

  regs_are : (process_at (state_in d o) q).regs ≡ (context_at o q).regs
  unfolding process_in
  regs_are = ap (λ (p : ProcessState). p.regs) process_is

  end_is : (process_at (state_in d o) q).end ≡ end_of (context_at o q)
  unfolding process_in
  end_is = ap (λ (p : ProcessState). p.end) process_is

  -- a segment that is owned is there
  owned_there : (t : ℕ) → has_bit owned t ≡ true → t < length d.segments
  owned_there t on = there_all q t lt (both (has_bit (context_at o q).held t) (not (is_held_below o q t)) (sym (own t) ∙ on))
    where
      both : (a b : Bool) → (a && b) ≡ true → a ≡ true
      both true b e = refl
      both false b e = absurd (false≢true e)

  owns_segment : (t : ℕ) → t < length d.segments → is_owner q (segment_at (state_in d o) t).owner ≡ has_bit owned t
  owns_segment t inside = ap (λ (s : SegmentState). is_owner q s.owner) (segment_there d o t inside) ∙ ap (is_owner q) (segment_owner d o t) ∙ owner_is d o q owned t lt own

  -- whether a segment above t is its own
  own_above : (t k : ℕ) → t + 1 + k < length d.segments → is_owner q (get_or (drop (t + 1) (state_in d o).segments) k no_segment).owner ≡ has_bit (owned / 2 ^ (t + 1)) k
  own_above t k inside = ap (λ (s : SegmentState). is_owner q s.owner) (get_or-drop (t + 1) (state_in d o).segments k no_segment) ∙ owns_segment (t + 1 + k) inside ∙ sym (bit_above owned (t + 1) k)

  dropped : (t : ℕ) → length (drop (t + 1) (state_in d o).segments) ≡ length d.segments - (t + 1)
  dropped t = length-drop (t + 1) (state_in d o).segments ∙ ap (λ n. n - (t + 1)) (segments_length d o)

  none_above : (t : ℕ) → owned / 2 ^ (t + 1) ≡ 0 → list_any (λ s. is_owner q s.owner) (drop (t + 1) (state_in d o).segments) ≡ false
  none_above t none = list_any_none (λ (s : SegmentState). is_owner q s.owner) (drop (t + 1) (state_in d o).segments)
      (All-from_get_or (λ (s : SegmentState). is_owner q s.owner ≡ false) (drop (t + 1) (state_in d o).segments) no_segment (λ k inside.
      own_above t k (let n = dropped t in omega (arith, n, inside)) ∙ ap (λ n. has_bit n k) none ∙ no_bit k))
    where
      no_bit : (k : ℕ) → has_bit 0 k ≡ false
      no_bit k = ap (λ n. n == 1) (bit_at-zero k)

  some_above : (t : ℕ) → 0 < owned / 2 ^ (t + 1) → list_any (λ s. is_owner q s.owner) (drop (t + 1) (state_in d o).segments) ≡ true
  some_above t some = true_from_ne_false _ (λ none.
      let nothing : owned / 2 ^ (t + 1) ≡ 0 = zero_from_bits (owned / 2 ^ (t + 1)) (λ k. false_from_ne_true (has_bit (owned / 2 ^ (t + 1)) k) (λ on.
      let inside : t + 1 + k < length d.segments = owned_there (t + 1 + k) (sym (bit_above owned (t + 1) k) ∙ on) in
      let n = dropped t in
      false≢true (sym none ∙ list_any_at (λ (s : SegmentState). is_owner q s.owner) (drop (t + 1) (state_in d o).segments) k no_segment (omega (arith, n, inside)) (own_above t k inside ∙ on)))) in
      absurd (omega (arith, some, nothing)))

  above_is : (t : ℕ) → list_any (λ s. is_owner q s.owner) (drop (t + 1) (state_in d o).segments) ≡ nat_lt 0 (owned / 2 ^ (t + 1))
  above_is t = elim (cases_lt 0 (owned / 2 ^ (t + 1))) [
    | inl some ↦ some_above t some ∙ sym (lt-ltb 0 (owned / 2 ^ (t + 1)) some)
    | inr none ↦ none_above t (omega (arith, none)) ∙ sym (le-ltb 0 (owned / 2 ^ (t + 1)) none)
  ]

  -- an acquire
  acquire_goes : (t : ℕ) → is_ok (flat.acquire (rights_at (rights_of d) q) (state_in d o) q t) ≡ not (awaits_lock d q owned held t)
  unfolding flat.acquire awaits_lock
  acquire_goes t =
      refuses (not (nat_lt t (length (state_in d o).segments))) (nat_lt t (length d.segments)) _ _ _ (ap (λ n. not (nat_lt t n)) (segments_length d o)) (λ known.
      let inside : t < length d.segments = ltb-true t (length d.segments) known in
      refuses (not (has_bit (rights_at (rights_of d) q).grants t)) (has_bit (process_of d q).grants t) _ _ _ (ap (λ n. not (has_bit n t)) grants_are) (λ granted.
      refuses (is_owner q (segment_at (state_in d o) t).owner) (not (has_bit owned t)) _ _ _ (owns_segment t inside ∙ twice (has_bit owned t)) (λ free.
      refuses (list_any (λ s. is_owner q s.owner) (drop (t + 1) (state_in d o).segments)) (not (nat_lt 0 (owned / 2 ^ (t + 1)))) _ _ _ (above_is t ∙ twice (nat_lt 0 (owned / 2 ^ (t + 1)))) (λ highest.
      taken_free (state_in d o) q t (segment_at (state_in d o) t).owner
      ∙ ap not (ap (λ (s : SegmentState). is_some s.owner) (segment_there d o t inside) ∙ ap is_some (segment_owner d o t) ∙ held_is d o held t any)))))

  -- a read
  read_at_is : (l : ℕ) → has_bit (process_of d q).lines l ≡ true → (line_at (state_in d o) l).read ≡ slice_index (context_at o q).reads (index_of (process_of d q).lines l)
  unfolding line_in
  read_at_is l mine =
      let below : l < line_count d = line_below d q l described lt mine in
      let owns : Owns d l (owner d l).0.0 (owner d l).1 = line_owner d l described below in
      let few : index_of (process_of d q).lines l < 4 = (let below_ones = index_below (process_of d q).lines l mine in let four = few_lines in omega (arith, below_ones, four)) in
      let this : Owns d l q (index_of (process_of d q).lines l) = record { process = lt; owned = owned_whatever l mine; number = number_whatever l; few = few } in
      let alone = owners_are_alone d l (owner d l).0.0 (owner d l).1 q (index_of (process_of d q).lines l) described owns this in
      ap (λ (x : LineState). x.read) (get_or-map-range_with_len (line_in d o) 0 16 l l no_line (lines_are_few d described q l mine) (omega arith))
      ∙ ap (λ p. slice_index (context_at o p).reads (owner d l).1) alone.0
      ∙ ap (λ i. slice_index (context_at o q).reads i) alone.1
    where
      whatever : (none : ProcessDesc) → get_or d.processes q none ≡ process_of d q
      whatever none = get_or_default d.processes q none no_process lt

      owned_whatever : (l : ℕ) → has_bit (process_of d q).lines l ≡ true → (none : ProcessDesc) → has_bit (get_or d.processes q none).lines l ≡ true
      owned_whatever l mine none = ap (λ (p : ProcessDesc). has_bit p.lines l) (whatever none) ∙ mine

      number_whatever : (l : ℕ) → (none : ProcessDesc) → index_of (process_of d q).lines l ≡ index_of (get_or d.processes q none).lines l
      number_whatever l none = ap (λ (p : ProcessDesc). index_of p.lines l) (sym (whatever none))

      few_lines : count_ones (process_of d q).lines ≤ 4
      few_lines = (All-get_or (IsProcess (length d.segments)) d.processes q no_process lt described.each_process).few

  input_is : (l : ℕ) → l < line_count d → input_at (input_counts d m) l ≡ record { bytes = replicate (m.port l).arrived 0; closed = (m.port l).closed }
  input_is l below = get_or-map-range_with_len (λ k. record { bytes = replicate (m.port k).arrived 0; closed = (m.port k).closed }) 0 (line_count d) l l no_input below (omega arith)

  byte_or_closed : (l read arrived : ℕ) (closed : Bool) → is_ok (flat.read_next (state_in d o) q l (record { bytes = replicate arrived 0; closed = closed }) (slice_get (replicate arrived 0) read)) ≡ not (not (nat_lt read arrived) && not closed)
  byte_or_closed l read arrived closed = elim (cases_lt read arrived) [
    | inl more ↦
        ap (λ b. is_ok (flat.read_next (state_in d o) q l (record { bytes = replicate arrived 0; closed = closed }) b)) (slice_get-get_or (replicate arrived 0) read 0 (let n = length-replicate {A = ℕ} arrived 0 in omega (arith, n, more)))
        ∙ sym (rw (lt-ltb read arrived more) refl)
    | inr past ↦
        ap (λ b. is_ok (flat.read_next (state_in d o) q l (record { bytes = replicate arrived 0; closed = closed }) b)) (slice_get_past (replicate arrived 0) read (let n = length-replicate {A = ℕ} arrived 0 in omega (arith, n, past)))
        ∙ ended closed ∙ sym (ap (λ b. not (not b && not closed)) (le-ltb read arrived past))
  ]
    where
      ended : (closed : Bool) → is_ok (flat.read_next (state_in d o) q l (record { bytes = replicate arrived 0; closed = closed }) None) ≡ not (not false && not closed)
      ended true = refl
      ended false = refl

  read_goes : (l : ℕ) → is_ok (flat.read (rights_at (rights_of d) q) (input_counts d m) (state_in d o) q l) ≡ not (awaits_input d m.port q (context_at o q) l)
  unfolding flat.read awaits_input
  read_goes l =
      refuses (not (has_bit (rights_at (rights_of d) q).lines l)) (has_bit (process_of d q).lines l) _ _ _ (ap (λ n. not (has_bit n l)) lines_are) (λ mine.
      let below : l < line_count d = line_below d q l described lt mine in
      ap (λ (i : LineInput). is_ok (flat.read_next (state_in d o) q l i (slice_get i.bytes (line_at (state_in d o) l).read))) (input_is l below)
      ∙ byte_or_closed l (line_at (state_in d o) l).read (m.port l).arrived (m.port l).closed
      ∙ ap (λ n. not (not (nat_lt n (m.port l).arrived) && not (m.port l).closed)) (read_at_is l mine))

  -- a kernel call
  argument_is : (i : ℕ) → flat.argument (state_in d o) q i ≡ register (context_at o q).regs i
  argument_is i = ap (λ r. register r i) regs_are

  other_goes : (n : ℕ) → (n == 1) ≡ false → (n == 3) ≡ false → true ≡ not (awaits d m.port q (context_at o q) owned held n)
  unfolding awaits
  other_goes n first third = sym (rw (first, third) refl)

  first_goes : (n : ℕ) → (n == 1) ≡ true → not (awaits_lock d q owned held (register (context_at o q).regs 10)) ≡ not (awaits d m.port q (context_at o q) owned held n)
  unfolding awaits
  first_goes n first = sym (rw first refl)

  third_goes : (n : ℕ) → (n == 1) ≡ false → (n == 3) ≡ true → not (awaits_input d m.port q (context_at o q) (register (context_at o q).regs 10)) ≡ not (awaits d m.port q (context_at o q) owned held n)
  unfolding awaits
  third_goes n first third = sym (rw (first, third) refl)

  is_other : (n k j : ℕ) → (n == k) ≡ true → k ≢ j → (n == j) ≡ false
  is_other n k j same apart = ne_eqb n j (λ e. apart (sym (eqb-true n k same) ∙ e))

  call_goes : (n : ℕ) → is_ok (flat.kernel_call (rights_at (rights_of d) q) (input_counts d m) (state_in d o) q n) ≡ not (awaits d m.port q (context_at o q) owned held n)
  unfolding flat.kernel_call
  call_goes n =
      passes (n == 0) _ _ _ (λ is. other_goes n (is_other n 0 1 is (λ e. absurd (omega (arith, e)))) (is_other n 0 3 is (λ e. absurd (omega (arith, e))))) (λ not_0.
      passes (n == 1) _ _ _ (λ is. ap (λ t. is_ok (flat.acquire (rights_at (rights_of d) q) (state_in d o) q t)) (argument_is 10) ∙ acquire_goes (register (context_at o q).regs 10) ∙ first_goes n is) (λ not_1.
      passes (n == 2) _ _ _ (λ is. other_goes n not_1 (is_other n 2 3 is (λ e. absurd (omega (arith, e))))) (λ not_2.
      passes (n == 3) _ _ _ (λ is. ap (λ l. is_ok (flat.read (rights_at (rights_of d) q) (input_counts d m) (state_in d o) q l)) (argument_is 10) ∙ read_goes (register (context_at o q).regs 10) ∙ third_goes n not_1 is) (λ not_3.
      answers (n == 4) _ _ refl (answers (n == 5) _ _ refl (answers (n == 6 || n == 7) _ _ refl refl)) ∙ other_goes n not_1 not_3))))

  -- a step
  outcome_is : outcome (state_in d o) q ≡ outcome_at (context_at o q).regs (seen d q owned o)
  outcome_is =
      ap (λ r. outcome_at r (flat_seen (process_at (state_in d o) q).bytes (state_in d o).segments q)) regs_are
      ∙ ap (outcome_at (context_at o q).regs) (same_memory d o q owned described lt (λ t inside. sym (owner_is d o q owned t lt own)))

  performed_goes : (x : Outcome) → is_ok (performed (rights_at (rights_of d) q) (input_counts d m) (state_in d o) q x) ≡ not (is_call x && awaits d m.port q (context_at o q) owned held (register (context_at o q).regs 17))
  performed_goes (moves wrote store next) = refl
  performed_goes call = ap (λ r. is_ok (flat.kernel_call (rights_at (rights_of d) q) (input_counts d m) (state_in d o) q (register r 17))) regs_are ∙ call_goes (register (context_at o q).regs 17)
  performed_goes (trap cause) = refl

  live_is : nat_lt q (length (state_in d o).processes) && is_live (process_at (state_in d o) q).end ≡ ((context_at o q).end == 0)
  live_is =
      let n : length (state_in d o).processes ≡ length d.processes = length-map-range_with_len (process_in d o) 0 (length d.processes) in
      ap (λ b. b && is_live (process_at (state_in d o) q).end) (lt-ltb q (length (state_in d o).processes) (omega (arith, n, lt)))
      ∙ ap is_live end_is ∙ by_end ((context_at o q).end == 0) ((context_at o q).end == 1) (context_at o q)
    where
      by_end : (a b : Bool) (x : Context) → is_live (if a then Live else if b then Exited x.value else Trapped x.value x.end_pc) ≡ a
      by_end true b x = refl
      by_end false true x = refl
      by_end false false x = refl

  lives_and : (b b' : Bool) (x : Result FlatState Waits) (w : Waits) (g : Bool) → b ≡ b' → is_ok x ≡ g → is_ok (if b then x else Err w) ≡ (b' && g)
  lives_and true true x w g same goes = goes
  lives_and false false x w g same goes = refl
  lives_and true false x w g same goes = absurd (true≢false same)
  lives_and false true x w g same goes = absurd (false≢true same)

  pub step_goes : is_ok (step_or_wait (rights_of d) (input_counts d m) (state_in d o) q) ≡ goes_on d o m.port q (context_at o q) owned held
  unfolding step_or_wait goes_on
  step_goes = lives_and _ _ _ _ _ live_is (ap (λ x. is_ok (performed (rights_at (rights_of d) q) (input_counts d m) (state_in d o) q x)) outcome_is ∙ performed_goes (outcome_at (context_at o q).regs (seen d q owned o)))

pub goes_on_where_enabled : GoesOnWhereEnabled
goes_on_where_enabled d m o q owned held described there lt own any =
    let same = step_goes d m o q owned held described there lt own any in
    ((λ goes. same ∙ goes), (λ enabled. sym same ∙ enabled))

pub quiet_by_process : QuietByProcess
quiet_by_process d m o none q enabled = elim (cases_lt q (length d.processes)) [
  | inl lt ↦ none q lt enabled
  | inr past ↦ nobody d (input_counts d m) (state_in d o) q (let n = length-map-range_with_len (process_in d o) 0 (length d.processes) in omega (arith, n, past)) enabled
]

-- the context of a process in first copies
pub same_context : (d : MachineDesc) (p : Copies) (q : ℕ) → context_at (first_block (shape_of d) p) q ≡ context_of d p q
unfolding context_at context_of
same_context d p q = refl
