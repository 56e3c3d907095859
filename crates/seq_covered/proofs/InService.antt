-- A memory that isn't out is in service, after every list of covered events.
use Rattle.std.proofs.Common.{◌≡◌, ◌⊎◌, inl, inr, ℕ, suc, ◌+◌, ◌<◌, ◌≤◌, true, false, not, ◌&&◌, ◌||◌, length, List, [], ◌∷◌, ◌++◌, reverse, refl, ap, sym, ◌∙◌, subst, arith}
use Rattle.std.proofs.lemmas.Bool.{cases_Bool, and_parts, and_cases, and_from, and_right, or_parts, or_from, or_left, or_right, not-false, not_from_false, false_from_ne_true, true≢false, false≢true}
use Rattle.std.proofs.lemmas.List.{reverse-reverse}
use Rattle.std.proofs.lemmas.Grind.{reverse_onto}
use Rattle.seq_words.specs.Description.{IsDescription}
use Rattle.seq_words.specs.declared.description.MachineDesc.{MachineDesc}
use Rattle.seq_words.specs.declared.events.Event.{Event}
use Rattle.seq_memory.specs.States.{is_in_service}
use Rattle.seq_memory.specs.declared.element.State.{State}
use Rattle.seq_memory.specs.declared.element.State.TheVariants.{InService, Down, Stale, Copying}
use Rattle.seq_layout.specs.Shapes.{shape_of}
use Rattle.seq_layout.specs.Units.{units_of}
use Rattle.seq_turns.specs.declared.hand.Hand.TheVariants as hand
use Rattle.seq_turns.specs.Machines.{Machine}
use Rattle.seq_turns.specs.Reading.{is_copied}
use Rattle.seq_turns.specs.Recoveries.{next_of}
use Rattle.seq_turns.specs.Allowed.{Allowed}
use Rattle.seq_turns.specs.Events.{happens, run}
use Rattle.seq_stands.specs.Fit.{Fit, StateFits}
use Rattle.seq_stands.specs.Standing.{AllAllowed}
use Rattle.seq_stands.specs.CountLeft.{most_left}
use Rattle.seq_stands.proofs.Fitting.{starts_serving}
use Rattle.seq_schedule.specs.Outs.{processor, memory, fails, upsets, disturbs, is_failed, is_mended, turns_needed, first_count, are_met, is_out, are_out_together, IsCovered}
use Rattle.seq_lines.specs.Arrivals.{arrived}
use Rattle.seq_invariant.specs.BlockWorks.{committed_blocks}
use Rattle.seq_invariant.specs.BlockRest.{at_start}
use Rattle.seq_invariant.specs.Gives.{at_first}
use Rattle.seq_invariant.proofs.Within.{runs_fit}
use Rattle.seq_covered.specs.Downs.{DownIsOut}
use Rattle.seq_covered.specs.Memories.{CopyingKeepsUp, CopyingKeepsUpWhenCovered, MemoriesServeWhenCovered, MemoriesServeOn}
use Rattle.seq_covered.proofs.Needed.{all_copied_in_time}
use Rattle.seq_covered.proofs.Counts.{failed_not_mended, failed_is_out, alone_out, calm_fails, reached, reached_calm}
use Rattle.seq_covered.proofs.Becomes.{one_more, Becomes, becomes, calmly, back_not_down, more_not_down, serves_on, service_lasts}
use Rattle.seq_covered.proofs.Pace.{copied_alone, anew, counts_on}

-- what stands of memory i after these events, the newest first
pub record Serves (d : MachineDesc) (events : List Event) (m : Machine) (i : ℕ) : Type 0 where
  pub down : m.copies.state i ≡ Down → is_failed (memory i) events ≡ true
  pub copying : is_copied (m.copies.state i) ≡ true → CopyingKeepsUp d events m i
  pub serving : is_out d events (memory i) ≡ false → m.copies.state i ≡ InService

-- ---- one event

module _ (d : MachineDesc) (x : Event) (xs : List Event) (m : Machine) (i : ℕ) (described : IsDescription d) (inside : i < d.memories) (fit : Fit d m) (fit_after : Fit d (happens d m x)) (may : Allowed d m x)
    (apart : are_out_together d xs ≡ false) (ups : (p : ℕ) → p < d.processors → m.hand p ≡ hand.Down → is_out d xs (processor p) ≡ true) (before : Serves d xs m i) where
  abbrev n : Machine
  n = happens d m x

  -- while the memory is to be copied no processor is out, and none is down
  module _ (copied : is_copied (m.copies.state i) ≡ true) where
    memory_out : is_out d xs (memory i) ≡ true
    memory_out = go (cases_Bool (is_out d xs (memory i)))
      where
        go : (is_out d xs (memory i) ≡ true) ⊎ (is_out d xs (memory i) ≡ false) → is_out d xs (memory i) ≡ true
        go (inl t) = t
        go (inr f) = absurd (true≢false (sym copied ∙ ap is_copied (before.serving f)))

    none_down : (p : ℕ) → p < d.processors → m.hand p ≡ hand.Down → ⊥
    none_down p there down = true≢false (sym (ups p there down) ∙ alone_out d xs i p apart inside memory_out there)

  down_after : n.copies.state i ≡ Down → is_failed (memory i) (x ∷ xs) ≡ true
  down_after e = go (becomes d m i x)
    where
      go : Becomes d m x i (n.copies.state i) → is_failed (memory i) (x ∷ xs) ≡ true
      go (inl failed) = or_left _ _ failed
      go (inr (inl back)) = absurd (back_not_down (m.copies.state i) (sym back.1 ∙ e))
      go (inr (inr (inl same))) = or_right _ _ (and_from _ _ (not_from_false _ same.1) (before.down (sym same.2 ∙ e)))
      go (inr (inr (inr more))) = absurd (more_not_down d i (m.copies.state i) (sym more.2 ∙ e))

  copying_after : is_copied (n.copies.state i) ≡ true → CopyingKeepsUp d (x ∷ xs) n i
  copying_after still = go (cases_Bool (disturbs x))
    where
      was : disturbs x ≡ false → is_copied (m.copies.state i) ≡ true
      was calm = from (calmly d m x i calm)
        where
          from : (n.copies.state i ≡ m.copies.state i) ⊎ ((is_copied (m.copies.state i) ≡ true) × (n.copies.state i ≡ one_more d i (m.copies.state i))) → is_copied (m.copies.state i) ≡ true
          from (inl same) = ap is_copied (sym same) ∙ still
          from (inr more) = more.0

      go : (disturbs x ≡ true) ⊎ (disturbs x ≡ false) → CopyingKeepsUp d (x ∷ xs) n i
      go (inl disturbed) = anew d x xs n i described fit_after disturbed
      go (inr calm) = counts_on d x xs m i calm fit may (copied_alone d m i fit.states.one_out inside (was calm)) (none_down (was calm)) (before.copying (was calm)) still

  -- an out that ends: each processor has counted enough
  ended : is_out d xs (memory i) ≡ true → is_mended (memory i) (x ∷ xs) ≡ true → are_met d (x ∷ xs) (memory i) ≡ true → n.copies.state i ≡ InService
  ended out mended met = by_state (n.copies.state i) refl
    where
      calm : disturbs x ≡ false
      calm = reached_calm d x xs (turns_needed d) (let some = all_copied_in_time d i described in omega (arith, some)) met

      working : (p : ℕ) → p < d.processors → is_failed (processor p) (x ∷ xs) ≡ false
      working p there = or_from _ _ (calm_fails (processor p) x calm) (and_right _ _ (false_from_ne_true _ (λ failed. true≢false (sym (failed_is_out d (processor p) xs failed) ∙ alone_out d xs i p apart inside out there))))

      all_counted : (p : ℕ) → p < d.processors → most_left d + suc (length (units_of (shape_of d) i)) ≤ first_count (x ∷ xs) (processor p)
      all_counted p there =
          let needed = reached d (x ∷ xs) (first_count (x ∷ xs)) (turns_needed d) met p there (working p there) in
          let enough = all_copied_in_time d i described in
          omega (arith, needed, enough)

      all_copied : is_copied (n.copies.state i) ≡ true → suc (length (units_of (shape_of d) i)) ≤ next_of (n.copies.state i)
      all_copied still = (copying_after still).copied (suc (length (units_of (shape_of d) i))) all_counted

      by_state : (s : State) → n.copies.state i ≡ s → s ≡ InService
      by_state InService e = refl
      by_state Down e = absurd (true≢false (sym mended ∙ failed_not_mended (memory i) (x ∷ xs) (down_after e)))
      by_state Stale e =
          let copied = all_copied (ap is_copied e) in
          let none : next_of (n.copies.state i) ≡ 0 = ap next_of e in
          absurd (let no : ⊥ = omega (arith, copied, none) in no)
      by_state (Copying next) e =
          let copied = all_copied (ap is_copied e) in
          let same : next_of (n.copies.state i) ≡ next = ap next_of e in
          let few : next < length (units_of (shape_of d) i) = subst (StateFits d i) e (fit_after.states.next i inside) in
          absurd (let no : ⊥ = omega (arith, copied, same, few) in no)

  serving_after : is_out d (x ∷ xs) (memory i) ≡ false → n.copies.state i ≡ InService
  serving_after none = go (cases_Bool (is_out d xs (memory i)))
    where
      sides : ((fails (memory i) x || upsets (memory i) x) ≡ false) × ((is_out d xs (memory i) && not (is_mended (memory i) (x ∷ xs) && are_met d (x ∷ xs) (memory i))) ≡ false)
      sides = or_parts _ _ none

      go : (is_out d xs (memory i) ≡ true) ⊎ (is_out d xs (memory i) ≡ false) → n.copies.state i ≡ InService
      go (inr serves) = serves_on d m x i (or_parts _ _ sides.0).0 (before.serving serves)
      go (inl out) = over (and_cases _ _ sides.1)
        where
          over : (is_out d xs (memory i) ≡ false) ⊎ (not (is_mended (memory i) (x ∷ xs) && are_met d (x ∷ xs) (memory i)) ≡ false) → n.copies.state i ≡ InService
          over (inl serves) = absurd (true≢false (sym out ∙ serves))
          over (inr ends) = let both = and_parts _ _ (not-false _ ends) in ended out both.0 both.1

  pub serves_after : Serves d (x ∷ xs) n i
  serves_after = record { down = down_after; copying = copying_after; serving = serving_after }

-- ---- lists of events

pub run_append : (d : MachineDesc) (es later : List Event) (m : Machine) → run d (es ++ later) m ≡ run d later (run d es m)
run_append d [] later m = refl
run_append d (e ∷ es) later m = run_append d es later (happens d m e)

pub allowed_parts : (d : MachineDesc) (es later : List Event) (m : Machine) → AllAllowed d (es ++ later) m → AllAllowed d es m × AllAllowed d later (run d es m)
allowed_parts d [] later m may = (tt, may)
allowed_parts d (e ∷ es) later m may = let rest = allowed_parts d es later (happens d m e) may.2 in ((may.0, may.1, rest.0), rest.1)

-- the newest event is the last
last : (x : Event) (xs : List Event) → reverse (x ∷ xs) ≡ reverse xs ++ x ∷ []
last x xs = reverse_onto xs x []

earlier_covered : (d : MachineDesc) (x : Event) (xs : List Event) → IsCovered d (x ∷ xs) → IsCovered d xs
earlier_covered d x xs covered = record { each = λ later earlier e. covered.each (x ∷ later) earlier (ap (λ (ys : List Event). x ∷ ys) e) }

module _ (downs : DownIsOut) (d : MachineDesc) (described : IsDescription d) (i : ℕ) (inside : i < d.memories) where
  first : Serves d [] (at_first d) i
  first = record {
    down = λ e. absurd (true≢false (ap is_in_service (sym starts ∙ e)));
    copying = λ t. absurd (false≢true (ap is_copied (sym starts) ∙ t));
    serving = λ _. starts;
  }
    where
      starts : (at_first d).copies.state i ≡ InService
      starts = starts_serving d (committed_blocks d (at_start d (arrived d []))) i inside

  -- after the events of which these are the newest first
  pub serves : (xs : List Event) → AllAllowed d (reverse xs) (at_first d) → IsCovered d xs → Serves d xs (run d (reverse xs) (at_first d)) i
  serves [] may covered = first
  serves (x ∷ xs) may covered = subst (λ (n : Machine). Serves d (x ∷ xs) n i) (sym after)
      (serves_after d x xs (run d (reverse xs) (at_first d)) i described inside (runs_fit d (reverse xs) described before.0) (subst (Fit d) after (runs_fit d (reverse (x ∷ xs)) described may)) before.1.0
      (covered.each (x ∷ []) xs refl) (λ p there down. subst (λ (ys : List Event). is_out d ys (processor p) ≡ true) (reverse-reverse xs) (downs d (reverse xs) p described before.0 there down)) (serves xs before.0 (earlier_covered d x xs covered)))
    where
      after : run d (reverse (x ∷ xs)) (at_first d) ≡ happens d (run d (reverse xs) (at_first d)) x
      after = ap (λ (es : List Event). run d es (at_first d)) (last x xs) ∙ run_append d (reverse xs) (x ∷ []) (at_first d)

      before : AllAllowed d (reverse xs) (at_first d) × AllAllowed d (x ∷ []) (run d (reverse xs) (at_first d))
      before = allowed_parts d (reverse xs) (x ∷ []) (at_first d) (subst (λ (es : List Event). AllAllowed d es (at_first d)) (last x xs) may)

  -- after events, the oldest first
  pub serves_in_order : (es : List Event) → AllAllowed d es (at_first d) → IsCovered d (reverse es) → Serves d (reverse es) (run d es (at_first d)) i
  serves_in_order es may covered = subst (λ (xs : List Event). AllAllowed d xs (at_first d) → Serves d (reverse es) (run d xs (at_first d)) i) (reverse-reverse es) (λ allowed. serves (reverse es) allowed covered) may

pub copying_keeps_up : DownIsOut → CopyingKeepsUpWhenCovered
copying_keeps_up downs d es i described may covered inside = (serves_in_order downs d described i inside es may covered).copying

pub memories_serve : DownIsOut → MemoriesServeWhenCovered
memories_serve downs d es i described may covered inside = (serves_in_order downs d described i inside es may covered).serving

pub memories_serve_on : DownIsOut → MemoriesServeOn
memories_serve_on downs d es later i described may covered inside over none =
    ap (λ (m : Machine). m.copies.state i) (run_append d es later (at_first d)) ∙ service_lasts d later (run d es (at_first d)) i none (memories_serve downs d es i described may covered inside over)
