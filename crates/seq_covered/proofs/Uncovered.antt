-- At a machine check a memory is out together with another, or with a processor.
use Rattle.std.proofs.Common.{◌≡◌, ℕ, zero, suc, ◌<◌, ◌≤◌, true, false, not, ◌==◌, Option, Some, None, List, [], ◌∷◌, reverse, refl, ap, sym, ◌∙◌, subst, eq-eqb, arith}
use Rattle.std.proofs.lemmas.Bool.{cond_both, and_parts, and_from, and_left, and_right, or_left, or_right, not-true, not_from_false, eqb-false, le-leb, true≢false, false_from_ne_true, true_from_ne_false}
use Rattle.std.proofs.lemmas.Option.{none-some}
use Rattle.std.proofs.lemmas.List.{reverse-append, reverse-reverse}
use Rattle.seq_words.specs.Description.{IsDescription}
use Rattle.seq_words.specs.declared.description.MachineDesc.{MachineDesc}
use Rattle.seq_words.specs.declared.events.Event.{Event}
use Rattle.seq_words.specs.declared.events.Event.TheVariants as event
use Rattle.seq_words.specs.declared.kinds.Blocker.{Blocker}
use Rattle.seq_words.specs.declared.kinds.Element.{Element}
use Rattle.seq_words.specs.declared.kinds.Element.TheVariants as element
use Rattle.seq_memory.specs.States.{is_in_service}
use Rattle.seq_ruling.specs.Checks.{by_memory, by_process}
use Rattle.seq_ruling.specs.Lowest.{or_else}
use Rattle.seq_ruling.proofs.Lowest.{is_lowest}
use Rattle.seq_turns.specs.Machines.{Machine}
use Rattle.seq_turns.specs.Processors.{turn}
use Rattle.seq_turns.specs.Allowed.{Allowed}
use Rattle.seq_turns.specs.Events.{is_down, stops, out, another_out, awaiting, blocker, check}
use Rattle.seq_schedule.specs.Below.{count_below}
use Rattle.seq_schedule.specs.Outs.{processor, memory, disturbs, turns_needed, first_count, have_reached, are_met, is_out, are_out_together, IsCovered}
use Rattle.seq_covered.specs.Bound.{NoneAwaitsWhenMended, ChecksAreUncovered}
use Rattle.seq_covered.proofs.Needed.{operations_take_a_quarter}
use Rattle.seq_covered.proofs.Counts.{count_found, alone_out, reached_calm}
use Rattle.seq_covered.proofs.Below.{none_counted, no_more, two_found}
use Rattle.seq_covered.proofs.Moments.{moment, AllMade, in_order, made_in_order, allowed_of}
use Rattle.seq_covered.proofs.Sound.{down_is_out, stopping_is_suspect}
use Rattle.seq_covered.proofs.InService.{memories_serve}
use Rattle.seq_covered.proofs.Phases.{MemoriesServe, none_awaits_then}

-- what isn't out is in service, after events that are listed the newest first
serve : (d : MachineDesc) → IsDescription d → MemoriesServe d
serve d described xs i made covered inside none =
    ap (λ (m : Machine). m.copies.state i) (sym (in_order d (reverse xs) ∙ ap (moment d) (reverse-reverse xs)))
    ∙ memories_serve down_is_out d (reverse xs) i described (allowed_of d xs made) (subst (IsCovered d) (sym (reverse-reverse xs)) covered) inside
    (ap (λ ys. is_out d ys (memory i)) (reverse-reverse xs) ∙ none)

pub none_awaits_when_mended : NoneAwaitsWhenMended
none_awaits_when_mended d es described may covered none =
    ap (awaiting d) (in_order d es) ∙ none_awaits_then d described (serve d described) (reverse es) (made_in_order d es may) covered none

module _ (d : MachineDesc) (described : IsDescription d) (e : Event) (xs : List Event) (made : AllMade d xs) (covered : IsCovered d (e ∷ xs)) where
  abbrev m : Machine
  m = moment d xs

  covered_before : IsCovered d xs
  covered_before = record { each = λ later earlier same. covered.each (e ∷ later) earlier (ap (λ (ys : List Event). e ∷ ys) same) }

  -- a memory that isn't in service is out
  memory_out : (i : ℕ) → i < d.memories → is_in_service (m.copies.state i) ≡ false → is_out d xs (memory i) ≡ true
  memory_out i inside away = true_from_ne_false _ (λ f. true≢false (sym (ap is_in_service (serve d described xs i made covered_before inside f)) ∙ away))

  -- no out ends by what disturbs
  still_out : (x : Element) → disturbs e ≡ true → are_met d (e ∷ xs) x ≡ false → is_out d xs x ≡ true → is_out d (e ∷ xs) x ≡ true
  still_out x disturbed unmet out_before = or_right _ _ (and_from _ _ out_before (not_from_false _ (and_right _ _ unmet)))

  unreached : disturbs e ≡ true → have_reached d (e ∷ xs) (first_count (e ∷ xs)) (turns_needed d) ≡ false
  unreached disturbed = false_from_ne_true _ (λ t. true≢false (sym disturbed ∙ reached_calm d e xs (turns_needed d) some t))
    where
      some : 0 < turns_needed d
      some = let quarter = operations_take_a_quarter d described in omega (arith, quarter)

  memory_still : (i : ℕ) → disturbs e ≡ true → is_out d xs (memory i) ≡ true → is_out d (e ∷ xs) (memory i) ≡ true
  memory_still i disturbed = still_out (memory i) disturbed (unreached disturbed)

  processor_still : (p : ℕ) → disturbs e ≡ true → is_out d xs (processor p) ≡ true → is_out d (e ∷ xs) (processor p) ≡ true
  processor_still p disturbed = still_out (processor p) disturbed (and_left _ _ (unreached disturbed))

  -- a processor stops by a turn, or fails, while a memory isn't in service
  processor_stops : (p : ℕ) (b : Blocker) → p < d.processors → (ys : List Event) → are_out_together d ys ≡ false → is_out d ys (processor p) ≡ true → ((i : ℕ) → is_out d xs (memory i) ≡ true → is_out d ys (memory i) ≡ true) → by_memory (out d m) ≡ Some b → ⊥
  processor_stops p b there ys apart stopped kept = go (out d m) refl
    where
      go : (o : Option ℕ) → out d m ≡ o → by_memory o ≡ Some b → ⊥
      go None found h = none-some b h
      go (Some i) found h =
          let low = is_lowest _ d.memories i found in
          true≢false (sym stopped ∙ alone_out d ys i p apart low.within (kept i (memory_out i low.within (not-true (is_in_service (m.copies.state i)) low.passes))) there)

  -- a memory fails
  module _ (i : ℕ) (inside : i < d.memories) (disturbed : disturbs e ≡ true) (failed : is_out d (e ∷ xs) (memory i) ≡ true) where
    apart : are_out_together d (e ∷ xs) ≡ false
    apart = covered.each [] (e ∷ xs) refl

    -- while another isn't in service
    another : (j : ℕ) → another_out d m i ≡ Some j → ⊥
    another j found =
        let low = is_lowest _ d.memories j found in
        let both = and_parts (not (j == i)) (not (is_in_service (m.copies.state j))) low.passes in
        let other = eqb-false j i (not-true (j == i) both.0) in
        let away = memory_still j disturbed (memory_out j low.within (not-true (is_in_service (m.copies.state j)) both.1)) in
        true≢false (sym (or_left _ _ (le-leb 2 _ (two_found (λ k. is_out d (e ∷ xs) (memory k)) d.memories j i low.within inside other away failed))) ∙ apart)

    -- while a process awaits recovery
    awaited : (q : ℕ) → awaiting d m ≡ Some q → ⊥
    awaited q found = go (count_below (λ p. is_out d xs (processor p)) d.processors) refl
      where
        go : (k : ℕ) → count_below (λ p. is_out d xs (processor p)) d.processors ≡ k → ⊥
        go zero none = none-some q (sym (none_awaits_then d described (serve d described) xs made covered_before (none_counted (λ p. is_out d xs (processor p)) d.processors none)) ∙ found)
        go (suc k) some =
            let more = no_more (λ p. is_out d xs (processor p)) (λ p. is_out d (e ∷ xs) (processor p)) d.processors (λ p there. processor_still p disturbed) in
            let memories = count_found (λ k. is_out d (e ∷ xs) (memory k)) d.memories i inside failed in
            let processors : 1 ≤ count_below (λ p. is_out d (e ∷ xs) (processor p)) d.processors = omega (arith, more, some) in
            true≢false (sym (or_right _ _ (and_from _ _ (le-leb 1 _ memories) (le-leb 1 _ processors))) ∙ apart)

    memory_stops : (b : Blocker) → or_else (by_memory (another_out d m i)) (by_process (awaiting d m)) ≡ Some b → ⊥
    memory_stops b = go (another_out d m i) (awaiting d m) refl refl
      where
        go : (o a : Option ℕ) → another_out d m i ≡ o → awaiting d m ≡ a → or_else (by_memory o) (by_process a) ≡ Some b → ⊥
        go (Some j) a found waits h = another j found
        go None (Some q) found waits h = awaited q waits
        go None None found waits h = none-some b h

checks : (d : MachineDesc) (e : Event) (xs : List Event) (b : Blocker) → IsDescription d → AllMade d xs → Allowed d (moment d xs) e → check d (moment d xs) e ≡ Some b → IsCovered d (e ∷ xs) → ⊥
checks d (event.Processor q) xs b described made may found covered =
    cond_both (stops (turn d (moment d xs) q.0 ((moment d xs).hand q.0))) (Some (element.Processor q)) None (λ o. blocker d (moment d xs) o ≡ Some b → ⊥)
    (λ t h. processor_stops d described (event.Processor q) xs made covered q.0 b may xs (covered.each (event.Processor q ∷ []) xs refl) (stopping_is_suspect d xs q.0 made t).0 (λ i out_before. out_before) h)
    (λ f h. none-some b h) found
checks d (event.Fail (element.Processor q)) xs b described made may found covered =
    cond_both (is_down ((moment d xs).hand q.0)) None (Some (element.Processor q)) (λ o. blocker d (moment d xs) o ≡ Some b → ⊥)
    (λ t h. none-some b h)
    (λ f h. processor_stops d described (event.Fail (element.Processor q)) xs made covered q.0 b may (event.Fail (element.Processor q) ∷ xs) (covered.each [] (event.Fail (element.Processor q) ∷ xs) refl)
    (or_left _ _ (or_left _ _ (eq-eqb q.0 q.0 refl))) (λ i. memory_still d described (event.Fail (element.Processor q)) xs made covered i refl) h) found
checks d (event.Fail (element.Memory i)) xs b described made may found covered =
    memory_stops d described (event.Fail (element.Memory i)) xs made covered i.0 may.memory refl (or_left _ _ (or_left _ _ (eq-eqb i.0 i.0 refl))) b found
checks d (event.Fail (element.Io i)) xs b described made may found covered = none-some b found
checks d (event.Io i) xs b described made may found covered = none-some b found
checks d (event.Input l byte) xs b described made may found covered = none-some b found
checks d (event.Close l) xs b described made may found covered = none-some b found
checks d (event.Repair x) xs b described made may found covered = none-some b found
checks d (event.Upset q half reg mask) xs b described made may found covered = none-some b found
checks d (event.Hangup l) xs b described made may found covered = none-some b found

pub checks_are_uncovered : ChecksAreUncovered
checks_are_uncovered d es e b described may allowed found covered =
    checks d e (reverse es) b described (made_in_order d es may) (subst (λ (m : Machine). Allowed d m e) (in_order d es) allowed) (ap (λ (m : Machine). check d m e) (sym (in_order d es)) ∙ found)
    (subst (IsCovered d) (reverse-append es (e ∷ [])) covered)
