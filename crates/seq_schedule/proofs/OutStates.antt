-- A state that keeps some events keeps one more after a step.
use Rattle.std.proofs.Common.{◌≡◌, ℕ, ◌+◌, ◌*◌, ◌/◌, ◌<◌, ◌≤◌, Bool, true, false, not, ◌&&◌, ◌||◌, nat_le, cond, List, [], ◌∷◌, ◌++◌, length, replicate, get_or, zero, suc, refl, sym, ap, ◌∙◌, subst, arith}
use Rattle.std.specs.Prelude.{◌↔◌}
use Rattle.std.proofs.lemmas.Bool.{cases_Bool, and_parts, and_from, not_from_false, lt-ltb, false≢true, not-true}
use Rattle.seq_words.specs.Description.{IsDescription}
use Rattle.seq_words.specs.declared.kinds.Element.{Element}
use Rattle.seq_words.specs.declared.kinds.Element.TheVariants as elements
use Rattle.seq_words.specs.declared.events.Event.{Event}
use Rattle.seq_words.specs.declared.description.MachineDesc.{MachineDesc}
use Rattle.seq_words.specs.Names.{has_name}
use Rattle.seq_schedule.specs.declared.known.Count.{Count}
use Rattle.seq_schedule.specs.declared.known.Count.TheVariants.{First, Second}
use Rattle.seq_schedule.specs.declared.known.Trouble.{Trouble}
use Rattle.seq_schedule.specs.declared.known.Trouble.TheVariants.{Over}
use Rattle.seq_schedule.specs.declared.known.Known.{Known}
use Rattle.seq_schedule.specs.declared.outs.OutState.{OutState}
use Rattle.seq_schedule.specs.Below.{each_below, some_below, count_below}
use Rattle.seq_schedule.specs.Outs.{processor, memory, io, is_failed, turns_needed, half_needed, first_count, second_count, have_reached, are_met, is_out, are_out_together, IsCovered}
use Rattle.seq_schedule.specs.Known.{fresh, counted, is_over, settled}
use Rattle.seq_schedule.specs.Tables.{works, has_turns, is_troubled, at_entry}
use Rattle.seq_schedule.specs.Keeping.{at_most, trouble_by, known_of, unsettled_of, told, is_covered, Keeps, Unsettled}
use Rattle.seq_schedule.specs.Steps.{step, told_reached, told_together, told_met, Advances, Settles}
use Rattle.seq_schedule.proofs.Below.{each_same, some_same, count_same, count_zero}
use Rattle.seq_schedule.proofs.OutSteps.{at_most_low, needed_some, reached_same, step_is, settled_is}

-- a machine has at most eight processors, eight memories and four I/O elements
pub record IsSmall (d : MachineDesc) : Type 0 where
  pub processors : d.processors ≤ 8
  pub memories : d.memories ≤ 8
  pub ios : d.ios ≤ 4

abbrev pub count_of : MachineDesc → Count → List Event → Element → ℕ
count_of d First events e = first_count events e
count_of d Second events e = second_count d events e

-- of a state, by what is told of each element: failures and counts
module _ (d : MachineDesc) (small : IsSmall d) (s : OutState) (events : List Event) (processors : s.processor_count ≡ d.processors) (ios : s.io_count ≡ d.ios)
    (failed : (e : Element) → has_name e ≡ true → (told s e).failed ≡ is_failed e events) (count : Count)
    (counts : (e : Element) → has_name e ≡ true → counted count (told s e) ≡ at_most (turns_needed d) (count_of d count events e)) where
  pub reached_is : (n : ℕ) → n ≤ turns_needed d → told_reached s count n ≡ have_reached d events (count_of d count events) n
  reached_is n few = λ i. (works_processors i || works_ios i) && (has_processors i && has_ios i)
    where
      named_processor : (k : ℕ) → k < d.processors → has_name (processor k) ≡ true
      named_processor k lt = lt-ltb k 8 (omega (arith, lt, small.processors))

      named_io : (k : ℕ) → k < d.ios → has_name (io k) ≡ true
      named_io k lt = lt-ltb k 4 (omega (arith, lt, small.ios))

      has : (e : Element) → has_name e ≡ true → ((told s e).failed || nat_le n (counted count (told s e))) ≡ (is_failed e events || nat_le n (count_of d count events e))
      has e named = λ i. failed e named i || (ap (nat_le n) (counts e named) ∙ reached_same (turns_needed d) (count_of d count events e) n few) i

      works_processors : some_below (at_entry works s.processors) s.processor_count ≡ some_below (λ p. not (is_failed (processor p) events)) d.processors
      works_processors = ap (some_below (at_entry works s.processors)) processors ∙ some_same (at_entry works s.processors) (λ p. not (is_failed (processor p) events)) d.processors (λ k lt. ap not (failed (processor k) (named_processor k lt)))

      works_ios : some_below (at_entry works s.ios) s.io_count ≡ some_below (λ k. not (is_failed (io k) events)) d.ios
      works_ios = ap (some_below (at_entry works s.ios)) ios ∙ some_same (at_entry works s.ios) (λ k. not (is_failed (io k) events)) d.ios (λ k lt. ap not (failed (io k) (named_io k lt)))

      has_processors : each_below (at_entry (has_turns count n) s.processors) s.processor_count ≡ each_below (λ p. is_failed (processor p) events || nat_le n (count_of d count events (processor p))) d.processors
      has_processors = ap (each_below (at_entry (has_turns count n) s.processors)) processors ∙ each_same (at_entry (has_turns count n) s.processors) (λ p. is_failed (processor p) events || nat_le n (count_of d count events (processor p))) d.processors (λ k lt. has (processor k) (named_processor k lt))

      has_ios : each_below (at_entry (has_turns count n) s.ios) s.io_count ≡ each_below (λ k. is_failed (io k) events || nat_le n (count_of d count events (io k))) d.ios
      has_ios = ap (each_below (at_entry (has_turns count n) s.ios)) ios ∙ each_same (at_entry (has_turns count n) s.ios) (λ k. is_failed (io k) events || nat_le n (count_of d count events (io k))) d.ios (λ k lt. has (io k) (named_io k lt))

-- half is at most the whole
half_small : (n : ℕ) → n / 2 ≤ n
half_small n = omega arith

-- an event is counted
pub advanced : (d : MachineDesc) → IsSmall d → (s new : OutState) (x : Event) (events : List Event) → Keeps d events s → Advances s new x → Unsettled d x events new
advanced d small s new x events keeps goes = record {
  processors = goes.bounds.processors ∙ keeps.processors;
  memories = goes.bounds.memories ∙ keeps.memories;
  ios = goes.bounds.ios ∙ keeps.ios;
  needed = goes.bounds.needed ∙ keeps.needed;
  known = λ e named. goes.known e named ∙ (λ i. step (told_reached s First (s.needed / 2)) (keeps.needed i) e x (keeps.known e named i)) ∙ step_is d events e (told_reached s First (s.needed / 2)) begun x;
  covered = goes.covered ∙ keeps.covered;
}
  where
    begun : told_reached s First (s.needed / 2) ≡ have_reached d events (first_count events) (half_needed d)
    begun = ap (λ n. told_reached s First (n / 2)) keeps.needed ∙
        reached_is d small s events keeps.processors keeps.ios (λ e named. ap (λ (k : Known). k.failed) (keeps.known e named)) First (λ e named. ap (λ (k : Known). k.first) (keeps.known e named)) (half_needed d) (half_small (turns_needed d))

-- whether an element is out is told by its trouble
pub out_is : (out mended failed : Bool) → not (is_over (trouble_by out mended failed)) ≡ out
out_is true true failed = refl
out_is true false true = refl
out_is true false false = refl
out_is false mended failed = refl

together_is : (d : MachineDesc) → IsSmall d → (s : OutState) (events : List Event) → s.processor_count ≡ d.processors → s.memory_count ≡ d.memories → ((e : Element) → has_name e ≡ true → told s e ≡ known_of d events e) → told_together s ≡ are_out_together d events
together_is d small s events processors memories known = λ i. nat_le 2 (out_memories i) || nat_le 1 (out_memories i) && nat_le 1 (out_processors i)
  where
    troubled : (e : Element) → has_name e ≡ true → is_troubled (told s e) ≡ is_out d events e
    troubled e named = ap is_troubled (known e named) ∙ out_is (is_out d events e) _ _

    out_memories : count_below (at_entry is_troubled s.memories) s.memory_count ≡ count_below (λ m. is_out d events (memory m)) d.memories
    out_memories = ap (count_below (at_entry is_troubled s.memories)) memories ∙ count_same (at_entry is_troubled s.memories) (λ m. is_out d events (memory m)) d.memories (λ k lt. troubled (memory k) (lt-ltb k 8 (omega (arith, lt, small.memories))))

    out_processors : count_below (at_entry is_troubled s.processors) s.processor_count ≡ count_below (λ p. is_out d events (processor p)) d.processors
    out_processors = ap (count_below (at_entry is_troubled s.processors)) processors ∙ count_same (at_entry is_troubled s.processors) (λ p. is_out d events (processor p)) d.processors (λ k lt. troubled (processor k) (lt-ltb k 8 (omega (arith, lt, small.processors))))

-- and outs end by it
module _ (d : MachineDesc) (small : IsSmall d) (s new : OutState) (x : Event) (events : List Event) (before : Unsettled d x events s) (goes : Settles s new) where
  firsts : told_reached s First s.needed ≡ have_reached d (x ∷ events) (first_count (x ∷ events)) (turns_needed d)
  firsts = ap (told_reached s First) before.needed ∙
      reached_is d small s (x ∷ events) before.processors before.ios (λ e named. ap (λ (k : Known). k.failed) (before.known e named)) First (λ e named. ap (λ (k : Known). k.first) (before.known e named)) (turns_needed d) (omega arith)

  seconds : told_reached s Second (s.needed / 2) ≡ have_reached d (x ∷ events) (second_count d (x ∷ events)) (half_needed d)
  seconds = ap (λ n. told_reached s Second (n / 2)) before.needed ∙
      reached_is d small s (x ∷ events) before.processors before.ios (λ e named. ap (λ (k : Known). k.failed) (before.known e named)) Second (λ e named. ap (λ (k : Known). k.second) (before.known e named)) (half_needed d) (half_small (turns_needed d))

  met : (e : Element) → told_met s e ≡ are_met d (x ∷ events) e
  met (elements.Processor p) = λ i. firsts i && seconds i
  met (elements.Memory m) = firsts
  met (elements.Io k) = firsts

  known_after : (e : Element) → has_name e ≡ true → told new e ≡ known_of d (x ∷ events) e
  known_after e named = goes.known e named ∙ ap (settled (told_met s e)) (before.known e named) ∙ settled_is d x events e (told_met s e) (met e)

  pub settled_keeps : Keeps d (x ∷ events) new
  settled_keeps = record {
    processors = goes.bounds.processors ∙ before.processors;
    memories = goes.bounds.memories ∙ before.memories;
    ios = goes.bounds.ios ∙ before.ios;
    needed = goes.bounds.needed ∙ before.needed;
    known = known_after;
    covered = goes.covered ∙ (λ i. before.covered i && not (together_is d small new (x ∷ events) (goes.bounds.processors ∙ before.processors) (goes.bounds.memories ∙ before.memories) known_after i)) ∙ swapped (is_covered d events) (not (are_out_together d (x ∷ events)));
  }
    where
      swapped : (a b : Bool) → (a && b) ≡ (b && a)
      swapped true true = refl
      swapped true false = refl
      swapped false true = refl
      swapped false false = refl

-- ---- covered

-- before any event nothing is out
none_together : (d : MachineDesc) → are_out_together d [] ≡ false
none_together d =
    let memories : count_below (λ m. false) d.memories ≡ 0 = count_zero (λ m. false) d.memories (λ k. refl) in
    λ i. nat_le 2 (memories i) || nat_le 1 (memories i) && nat_le 1 (count_below (λ p. false) d.processors)

covered_each : (d : MachineDesc) (events : List Event) → is_covered d events ≡ true → (later earlier : List Event) → events ≡ later ++ earlier → are_out_together d earlier ≡ false
covered_each d [] covered [] earlier e = subst (λ (xs : List Event). are_out_together d xs ≡ false) e (none_together d)
covered_each d [] covered (y ∷ later) earlier e = absurd (let no : ⊥ = omega (arith, ap length e) in no)
covered_each d (x ∷ events) covered [] earlier e =
    subst (λ (xs : List Event). are_out_together d xs ≡ false) e (not-true _ (and_parts (not (are_out_together d (x ∷ events))) (is_covered d events) covered).0)
covered_each d (x ∷ events) covered (y ∷ later) earlier e = covered_each d events (and_parts (not (are_out_together d (x ∷ events))) (is_covered d events) covered).1 later earlier (ap (λ (xs : List Event). rest xs) e)
  where
    rest : List Event → List Event
    rest [] = []
    rest (z ∷ zs) = zs

each_covered : (d : MachineDesc) (events : List Event) → ((later earlier : List Event) → events ≡ later ++ earlier → are_out_together d earlier ≡ false) → is_covered d events ≡ true
each_covered d [] each = refl
each_covered d (x ∷ events) each = and_from _ _ (not_from_false _ (each [] (x ∷ events) refl)) (each_covered d events (λ later earlier e. each (x ∷ later) earlier (ap (λ (xs : List Event). x ∷ xs) e)))

pub covered_is : (d : MachineDesc) (events : List Event) (covered : Bool) → covered ≡ is_covered d events → (covered ≡ true) ↔ IsCovered d events
covered_is d events covered same = (λ is. record { each = covered_each d events (sym same ∙ is) }, λ is. same ∙ each_covered d events is.each)

-- ---- before any event

get_or-replicate_default : (n at : ℕ) → get_or (replicate n fresh) at fresh ≡ fresh
get_or-replicate_default zero at = refl
get_or-replicate_default (suc n) zero = refl
get_or-replicate_default (suc n) (suc at) = get_or-replicate_default n at

pub fresh_keeps : (d : MachineDesc) (needed : ℕ) (k l m : Known) → needed ≡ turns_needed d → k ≡ fresh → l ≡ fresh → m ≡ fresh → (s : OutState) → s.processor_count ≡ d.processors → s.memory_count ≡ d.memories → s.io_count ≡ d.ios → s.needed ≡ needed → s.processors ≡ replicate 8 k → s.memories ≡ replicate 8 l → s.ios ≡ replicate 4 m → s.covered ≡ true → Keeps d [] s
fresh_keeps d needed k l m is a b c s processors memories ios bound ps ms is' covered = record {
  processors = processors;
  memories = memories;
  ios = ios;
  needed = bound ∙ is;
  known = known;
  covered = covered;
}
  where
    nothing : ◌≡◌ {A = Known} fresh (record { trouble = Over; failed = false; first = at_most (turns_needed d) 0; second = at_most (turns_needed d) 0 })
    nothing = λ i. record { trouble = Over; failed = false; first = sym (at_most_low (turns_needed d) 0 (omega (arith, needed_some d))) i; second = sym (at_most_low (turns_needed d) 0 (omega (arith, needed_some d))) i }

    entry : (n at : ℕ) → get_or (replicate n fresh) at fresh ≡ fresh
    entry n at = get_or-replicate_default n at

    known : (e : Element) → has_name e ≡ true → told s e ≡ known_of d [] e
    known (elements.Processor p) named = (λ i. get_or (ps i) p.0 fresh) ∙ (λ i. get_or (replicate 8 (a i)) p.0 fresh) ∙ entry 8 p.0 ∙ nothing
    known (elements.Memory p) named = (λ i. get_or (ms i) p.0 fresh) ∙ (λ i. get_or (replicate 8 (b i)) p.0 fresh) ∙ entry 8 p.0 ∙ nothing
    known (elements.Io p) named = (λ i. get_or (is' i) p.0 fresh) ∙ (λ i. get_or (replicate 4 (c i)) p.0 fresh) ∙ entry 4 p.0 ∙ nothing
