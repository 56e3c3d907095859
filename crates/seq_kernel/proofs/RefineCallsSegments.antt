-- The calls on segments: acquire, release, and what a process gives up when it ends.
use Rattle.std.proofs.Common.{◌≡◌, ◌≢◌, ℕ, ◌+◌, ◌-◌, ◌/◌, ◌^◌, ◌<◌, true, false, not, ◌&&◌, List, length, get_or, set, map, drop, inl, inr, arith, refl, sym, ◌∙◌, ap, subst, length-set, get_or-set_same, get_or-set_other}
use Rattle.std.specs.Prelude.{nat_lt, Some, None, Ok}
use Rattle.std.specs.List.{list_any}
use Rattle.std.proofs.lemmas.Bool.{cases_eq, cases_lt, cond_both, false≢true, true_from_ne_false, false_from_ne_true, lt-ltb, le-ltb, ltb-true, not-false, and_parts, eq-eqb}
use Rattle.std.proofs.lemmas.List.{get_or-drop, get_or-map, length-drop, length-map}
use Rattle.std.proofs.lemmas.List.Elements.{All-from_get_or}
use Rattle.std.proofs.lemmas.List.Folds.{list_any_at, list_any_none}
use Rattle.std.proofs.lemmas.Nat.Bits.{bit_at-zero}
use Rattle.seq_words.specs.Masks.{has_bit}
use Rattle.seq_words.specs.declared.description.MachineDesc.{MachineDesc}
use Rattle.seq_words.specs.Description.{process_of}
use Rattle.seq_flat.specs.declared.state.End.{End}
use Rattle.seq_flat.specs.declared.state.ProcessState.{ProcessState}
use Rattle.seq_flat.specs.declared.state.SegmentState.{SegmentState}
use Rattle.seq_flat.specs.declared.state.FlatState.{FlatState}
use Rattle.seq_flat.specs.declared.state.Rights.{Rights}
use Rattle.seq_flat.specs.State.{no_segment, process_at, segment_at, with_process, with_segment}
use Rattle.seq_flat.specs.Memory.{is_owner}
use Rattle.seq_flat.specs.Calls as flat
use Rattle.seq_layout.specs.Shapes.{shape_of, segment_extent}
use Rattle.seq_layout.specs.Copies.{Copies}
use Rattle.seq_process.specs.declared.running.Running.{Running}
use Rattle.seq_cache.specs.Changes.{Changes}
use Rattle.seq_segments.specs.Map.{before_private}
use Rattle.seq_kernel.specs.declared.outcomes.Outcome.{Outcome}
use Rattle.seq_kernel.specs.declared.outcomes.Outcome.TheVariants.{Done}
use Rattle.seq_kernel.specs.Views.{Blocks, read_by}
use Rattle.seq_kernel.specs.Turns.{ended}
use Rattle.seq_kernel.specs.Calls as kernel
use Rattle.seq_kernel.specs.Bounds.{IsRunning}
use Rattle.seq_flat.specs.Reached.{IsFlat}
use Rattle.seq_kernel.specs.Shown.{HoldBytes, Shows, ShowsSegment}
use Rattle.seq_kernel.proofs.RefineCallsBits.{zero_from_bits, bit_above, bit_off_here, bit_off_other, bit_on_here, bit_on_other}
use Rattle.seq_flat.proofs.Moved.{process_put, flat_process, flat_segments}
use Rattle.seq_kernel.proofs.RefineCallsFrame.{known, answered_flat, answered_shows}
use Rattle.seq_kernel.proofs.RefineCallsMeets.{Fits, Meets, choose, choose_ok, answer_meets}

-- a segment of the flat state is shown, where it is s
segment_is : (d : MachineDesc) (g : FlatState) (o : Blocks) (r : Running) (t : ℕ) (s : SegmentState) → segment_at g t ≡ s → has_bit r.held t ≡ is_owner r.pid.0 s.owner → (has_bit r.held t ≡ true → HoldBytes o (segment_extent (shape_of d) t) 0 s.bytes) → ShowsSegment d g o r t
segment_is d g o r t s is held bytes = record {
  held = held ∙ sym (ap (λ (x : SegmentState). is_owner r.pid.0 x.owner) is);
  bytes = λ h. subst (λ (x : SegmentState). HoldBytes o (segment_extent (shape_of d) t) 0 x.bytes) (sym is) (bytes h);
}

-- with other segments, and another mask of those that it holds
shows_segments : (d : MachineDesc) (f : FlatState) (o : Blocks) (r : Running) (segments : List SegmentState) (held : ℕ) → Shows d f o r → ((t : ℕ) → t < length d.segments → ShowsSegment d (record f { segments = segments }) o (record r { held = held }) t) → Shows d (record f { segments = segments }) o (record r { held = held })
shows_segments d f o r segments held shows each = record {
  whole = shows.whole;
  registers = shows.registers;
  end = shows.end;
  private = shows.private;
  segment = each;
  line = λ l own. (let n = shows.line l own in record { read = n.read; written = n.written; outbox = n.outbox });
}

-- no bit of zero is set
no_bit_of_zero : (t : ℕ) → has_bit 0 t ≡ false
no_bit_of_zero t = rw (bit_at-zero t) refl

-- what a process gives up isn't its own, and its bytes stay
given_up_free : (p : ℕ) (s : SegmentState) → is_owner p (flat.given_up p s).owner ≡ false
given_up_free p s = cond_both (is_owner p s.owner) (record s { owner = None }) s (λ (x : SegmentState). is_owner p x.owner ≡ false) (λ own. refl) (λ other. other)

given_up_bytes : (p : ℕ) (s : SegmentState) → (flat.given_up p s).bytes ≡ s.bytes
given_up_bytes p s = cond_both (is_owner p s.owner) (record s { owner = None }) s (λ (x : SegmentState). x.bytes ≡ s.bytes) (λ own. refl) (λ other. refl)

module _ (d : MachineDesc) (f : FlatState) (r : Running) (is : IsFlat d f) (running : IsRunning d r) where
  known_segment : (t : ℕ) → t < length d.segments → t < length f.segments
  known_segment t lt = subst (λ n. t < n) (sym is.segments) lt

  -- a segment with another owner, seen from a process that holds it or not as the mask says
  owner_flat : (t : ℕ) (s : SegmentState) → s.bytes ≡ (segment_at f t).bytes → IsFlat d (with_segment f t s)
  owner_flat t s same = flat_segments d f (set f.segments t s) is (length-set f.segments t s) (λ u lt.
      elim (cases_eq u t) [
        | inl equal ↦
            let here : t < length f.segments = subst (λ n. n < length f.segments) equal lt in
            subst (λ n. length (get_or (set f.segments t s) n no_segment).bytes ≡ length (segment_at f n).bytes) (sym equal)
            (ap (λ (x : SegmentState). length x.bytes) (get_or-set_same f.segments t s no_segment here) ∙ ap length same)
        | inr other ↦ ap (λ (x : SegmentState). length x.bytes) (get_or-set_other f.segments t u s no_segment other)
      ])

  module _ (o : Blocks) (shows : Shows d f o r) where
    owner_shows : (t held : ℕ) (s : SegmentState) → t < length d.segments → has_bit held t ≡ is_owner r.pid.0 s.owner → (has_bit held t ≡ true → HoldBytes o (segment_extent (shape_of d) t) 0 s.bytes) → ((u : ℕ) → u ≢ t → has_bit held u ≡ has_bit r.held u) → Shows d (with_segment f t s) o (record r { held = held })
    owner_shows t held s lt here bytes others = shows_segments d f o r (set f.segments t s) held shows (λ u inside.
        elim (cases_eq u t) [
          | inl equal ↦
              subst (ShowsSegment d (with_segment f t s) o (record r { held = held })) (sym equal)
              (segment_is d (with_segment f t s) o (record r { held = held }) t s (get_or-set_same f.segments t s no_segment (known_segment t lt)) here bytes)
          | inr other ↦
              let before = shows.segment u inside in
              segment_is d (with_segment f t s) o (record r { held = held }) u (segment_at f u) (get_or-set_other f.segments t u s no_segment other) (others u other ∙ before.held) (λ h. before.bytes (sym (others u other) ∙ h))
        ])

    -- among the segments above t, the one with number k is the process's own where its bit says so
    own_above : (t k : ℕ) → t + 1 + k < length d.segments → has_bit (r.held / 2 ^ (t + 1)) k ≡ is_owner r.pid.0 (get_or (drop (t + 1) f.segments) k no_segment).owner
    own_above t k lt = bit_above r.held (t + 1) k ∙ (shows.segment (t + 1 + k) lt).held ∙ sym (ap (λ (x : SegmentState). is_owner r.pid.0 x.owner) (get_or-drop (t + 1) f.segments k no_segment))

    none_above : (t : ℕ) → r.held / 2 ^ (t + 1) ≡ 0 → list_any (λ s. is_owner r.pid.0 s.owner) (drop (t + 1) f.segments) ≡ false
    none_above t none = list_any_none (λ (s : SegmentState). is_owner r.pid.0 s.owner) (drop (t + 1) f.segments)
        (All-from_get_or (λ (s : SegmentState). is_owner r.pid.0 s.owner ≡ false) (drop (t + 1) f.segments) no_segment (λ k lt.
        let inside : t + 1 + k < length d.segments = omega (arith, length-drop (t + 1) f.segments, is.segments) in
        sym (own_above t k inside) ∙ ap (λ n. has_bit n k) none ∙ no_bit_of_zero k))

    some_above : (t : ℕ) → 0 < r.held / 2 ^ (t + 1) → list_any (λ s. is_owner r.pid.0 s.owner) (drop (t + 1) f.segments) ≡ true
    some_above t some = true_from_ne_false _ (λ none.
        let nothing : r.held / 2 ^ (t + 1) ≡ 0 = zero_from_bits (r.held / 2 ^ (t + 1)) (λ k. false_from_ne_true (has_bit (r.held / 2 ^ (t + 1)) k) (λ set.
        let inside : t + 1 + k < length d.segments = running.within.held (t + 1 + k) (sym (bit_above r.held (t + 1) k) ∙ set) in
        let there : k < length (drop (t + 1) f.segments) = omega (arith, length-drop (t + 1) f.segments, is.segments) in
        false≢true (sym none ∙ list_any_at (λ (s : SegmentState). is_owner r.pid.0 s.owner) (drop (t + 1) f.segments) k no_segment there (sym (own_above t k inside) ∙ set)))) in
        omega arith)

    -- none above is its own where none above is held
    pub none_owned : (t : ℕ) → ((u : ℕ) → t < u → has_bit r.held u ≡ false) → list_any (λ s. is_owner r.pid.0 s.owner) (drop (t + 1) f.segments) ≡ false
    none_owned t none = list_any_none (λ (s : SegmentState). is_owner r.pid.0 s.owner) (drop (t + 1) f.segments)
        (All-from_get_or (λ (s : SegmentState). is_owner r.pid.0 s.owner ≡ false) (drop (t + 1) f.segments) no_segment (λ k lt.
        let inside : t + 1 + k < length d.segments = omega (arith, length-drop (t + 1) f.segments, is.segments) in
        let past : t < t + 1 + k = omega arith in
        sym (own_above t k inside) ∙ bit_above r.held (t + 1) k ∙ none (t + 1 + k) past))

    -- a segment that nobody owns goes to the process
    module _ (t : ℕ) (lt : t < length d.segments) where
      abbrev pub with_taken : FlatState
      with_taken = flat.answered (with_segment f t (record (segment_at f t) { owner = Some r.pid })) r.pid.0 0

      pub taken_flat : IsFlat d with_taken
      taken_flat = answered_flat d (with_segment f t (record (segment_at f t) { owner = Some r.pid })) r (owner_flat t (record (segment_at f t) { owner = Some r.pid }) refl) running.within.process 0

      pub taken_shows : has_bit r.held t ≡ false → HoldBytes o (segment_extent (shape_of d) t) 0 (segment_at f t).bytes → Shows d with_taken o (kernel.granted r t)
      taken_shows unset bytes =
          let mine : SegmentState = record (segment_at f t) { owner = Some r.pid } in
          let on : has_bit (r.held + 2 ^ t) t ≡ true = bit_on_here r.held t unset in
          answered_shows d (with_segment f t mine) (record r { held = r.held + 2 ^ t }) (owner_flat t mine refl) running.within.process o 0
          (owner_shows t (r.held + 2 ^ t) mine lt (on ∙ sym (eq-eqb r.pid.0 r.pid.0 refl)) (λ _. bytes) (λ u other. bit_on_other r.held t u other unset))

    -- the process holds a segment above t where the flat machine says so
    pub held_above : (t : ℕ) → nat_lt 0 (r.held / 2 ^ (t + 1)) ≡ list_any (λ s. is_owner r.pid.0 s.owner) (drop (t + 1) f.segments)
    held_above t = elim (cases_lt 0 (r.held / 2 ^ (t + 1))) [
      | inl some ↦ lt-ltb 0 (r.held / 2 ^ (t + 1)) some ∙ sym (some_above t some)
      | inr none ↦ le-ltb 0 (r.held / 2 ^ (t + 1)) none ∙ sym (none_above t (omega arith))
    ]

  module _ (p : Copies) (c : Changes) (shows : Shows d f (read_by d p c) r) (rights : Rights) where
    -- acquire
    pub acquire_fits : (t : ℕ) → rights.grants ≡ (process_of d r.pid.0).grants → Fits d p (kernel.acquire d r c t) (flat.acquire rights f r.pid.0 t)
    unfolding kernel.acquire flat.acquire
    acquire_fits t same =
        let known_test : not (nat_lt t (length d.segments)) ≡ not (nat_lt t (length f.segments)) = ap (λ n. not (nat_lt t n)) (sym is.segments) in
        let granted_test : not (has_bit (process_of d r.pid.0).grants t) ≡ not (has_bit rights.grants t) = ap (λ n. not (has_bit n t)) (sym same) in
        choose d p _ _ _ _ _ _ known_test (λ _. λ step. answer_meets d f p r c Done (flat.minus 3) is running.within.process shows) (λ known_here.
        let lt : t < length d.segments = ltb-true t (length d.segments) (not-false _ known_here) in
        choose d p _ _ _ _ _ _ granted_test (λ _. λ step. answer_meets d f p r c Done (flat.minus 4) is running.within.process shows) (λ _.
        choose d p _ _ _ _ _ _ (shows.segment t lt).held (λ _. λ step. answer_meets d f p r c Done (flat.minus 1) is running.within.process shows) (λ _.
        choose d p _ _ _ _ _ _ (held_above (read_by d p c) shows t) (λ _. λ step. answer_meets d f p r c Done (flat.minus 2) is running.within.process shows) (λ _. λ step. absurd step))))

    -- release
    release_test : (t : ℕ) → (nat_lt t (length d.segments) && has_bit r.held t) ≡ (nat_lt t (length f.segments) && is_owner r.pid.0 (segment_at f t).owner)
    release_test t = elim (cases_lt t (length d.segments)) [
      | inl lt ↦ rw (is.segments, (shows.segment t lt).held) refl
      | inr past ↦ (let out : nat_lt t (length d.segments) ≡ false = le-ltb t (length d.segments) past in rw (is.segments, out) refl)
    ]

    pub release_fits : (t : ℕ) → Fits d p (kernel.release d r c t) (Ok (flat.release f r.pid.0 t))
    unfolding kernel.release flat.release
    release_fits t =
        choose_ok d p _ _ _ _ _ _ (release_test t) (λ own. λ step.
        let parts = and_parts (nat_lt t (length d.segments)) (has_bit r.held t) own in
        let lt : t < length d.segments = ltb-true t (length d.segments) parts.0 in
        let free : SegmentState = record (segment_at f t) { owner = None } in
        let off : has_bit (r.held - 2 ^ t) t ≡ false = bit_off_here r.held t parts.1 in
        answer_meets d (with_segment f t free) p (record r { held = r.held - 2 ^ t }) c _ 0 (owner_flat t free refl) running.within.process
        (owner_shows (read_by d p c) shows t (r.held - 2 ^ t) free lt off (λ set. absurd (false≢true (sym off ∙ set))) (λ u other. bit_off_other r.held t u other parts.1)))
        (λ _. λ step. answer_meets d f p r c Done (flat.minus 1) is running.within.process shows)

    -- the end of a process, which gives up all its segments
    pub ended_meets : (outcome : Outcome) (end : End) → Meets d p (record { outcome = outcome; running = ended r end; cache = c }) (Ok (flat.ended f r.pid.0 end))
    unfolding flat.ended
    ended_meets outcome end =
        let o : Blocks = read_by d p c in
        let q : ProcessState = record (process_at f r.pid.0) { end = end } in
        let there = known d f r is running.within.process in
        let here : process_at (with_process f r.pid.0 q) r.pid.0 ≡ q = process_put f r.pid.0 q there in
        let left : (t : ℕ) → t < length f.segments → get_or (map (flat.given_up r.pid.0) f.segments) t no_segment ≡ flat.given_up r.pid.0 (segment_at f t) = λ t lt. get_or-map (flat.given_up r.pid.0) f.segments t no_segment no_segment lt in
        record {
          state = flat.ended f r.pid.0 end;
          is = refl;
          flat = flat_segments d (with_process f r.pid.0 q) (map (flat.given_up r.pid.0) f.segments) (flat_process d f r.pid.0 q is there refl) (length-map f.segments (flat.given_up r.pid.0)) (λ t lt. ap (λ (x : SegmentState). length x.bytes) (left t lt) ∙ ap length (given_up_bytes r.pid.0 (segment_at f t)));
          shows = record {
            whole = shows.whole;
            registers = shows.registers ∙ sym (ap (λ (x : ProcessState). x.regs) here);
            end = sym (ap (λ (x : ProcessState). x.end) here);
            private = subst (HoldBytes o r.pid.0 (before_private (process_of d r.pid.0))) (sym (ap (λ (x : ProcessState). x.bytes) here)) shows.private;
            segment = λ t lt.
                segment_is d (flat.ended f r.pid.0 end) o (ended r end) t (flat.given_up r.pid.0 (segment_at f t)) (left t (known_segment t lt))
                (no_bit_of_zero t ∙ sym (given_up_free r.pid.0 (segment_at f t))) (λ set. absurd (false≢true (sym (no_bit_of_zero t) ∙ set)));
            line = λ l own. (let n = shows.line l own in record { read = n.read; written = n.written; outbox = n.outbox });
          };
        }
