-- The failure of a processor or a memory, and its repair.
use Rattle.std.proofs.Common.{◌≡◌, ℕ, suc, ◌+◌, ◌<◌, true, false, List, [], length, Some, None, Ok, if◌then◌else◌, refl, sym, ap, ◌∙◌, add-one}
use Rattle.std.specs.Prelude.{slice_index, slice_index_or, slice_set, slice_get}
use Rattle.std.proofs.lemmas.Bool.{cond_both, cond-true, cond-false}
use Rattle.std.proofs.lemmas.Option.{get_or_from_slice_get}
use Rattle.std.proofs.lemmas.List.{set-get_or}
use Rattle.seq_words.specs.declared.description.MachineDesc.{MachineDesc}
use Rattle.seq_words.specs.declared.kinds.Element.{Element}
use Rattle.seq_words.specs.declared.kinds.Element.TheVariants as element
use Rattle.seq_words.specs.declared.events.Event.TheVariants as event
use Rattle.seq_memory.specs.declared.element.State.{State}
use Rattle.seq_memory.specs.declared.element.State.TheVariants as memory_state
use Rattle.seq_memory.specs.declared.element.Memories.{Memories}
use Rattle.seq_layout.specs.Shapes.{Shape, shape_of}
use Rattle.seq_layout.specs.Copies.{Copies, copies, failed, with_state}
use Rattle.seq_kernel.specs.declared.outcomes.Note.{Note}
use Rattle.seq_kernel.specs.declared.outcomes.Note.TheVariants.{Stopped, Made}
use Rattle.seq_turns.specs.declared.hand.Hand.TheVariants as hand
use Rattle.seq_turns.specs.Functions.{update}
use Rattle.seq_turns.specs.Machines.{Machine}
use Rattle.seq_turns.specs.Events.{is_down, comes_back, is_back, stopped, lost_copies, happens, note, blocker}
use Rattle.seq_turns.proofs.Functions.{update_is}
use Rattle.seq_machine.specs.Plain.{Outside, processor_of, idle_processor, machine_of, outside_of, IsHardware}
use Rattle.seq_machine.specs.Checking.{answered, answer_to, answer}
use Rattle.seq_machine.specs.Happening.{sent_in, entries_in}
use Rattle.seq_machine.specs.declared.hardware.Processor.{Processor}
use Rattle.seq_machine.specs.declared.hardware.Hardware.{Hardware}
use Rattle.seq_machine.proofs.Tied.{set_is}

-- what is outside stays, and nothing is told of it
pub failure_outside : (d : MachineDesc) (h : Hardware) (o : Outside) (e : Element) → outside_of (happens d (machine_of h o) (event.Fail e)) ≡ o
failure_outside d h o (element.Processor p) = cond_both (is_down ((machine_of h o).hand p.0)) (machine_of h o) (stopped (machine_of h o) p.0) (λ (m : Machine). outside_of m ≡ o) (λ _. refl) (λ _. refl)
failure_outside d h o (element.Memory i) = refl
failure_outside d h o (element.Io i) = refl

pub repair_outside : (d : MachineDesc) (h : Hardware) (o : Outside) (e : Element) → outside_of (happens d (machine_of h o) (event.Repair e)) ≡ o
repair_outside d h o (element.Processor p) = refl
repair_outside d h o (element.Memory i) = refl
repair_outside d h o (element.Io i) = refl

-- so the machine that an event makes is that of the table, with the outside of the table
pub failure_made : (old new : Hardware) (o : Outside) (e : Element) → machine_of new o ≡ happens old.desc (machine_of old o) (event.Fail e)
    → machine_of new (outside_of (happens old.desc (machine_of old o) (event.Fail e))) ≡ happens old.desc (machine_of old o) (event.Fail e)
failure_made old new o e made = ap (machine_of new) (failure_outside old.desc old o e) ∙ made

pub repair_made : (old new : Hardware) (o : Outside) (e : Element) → machine_of new o ≡ happens old.desc (machine_of old o) (event.Repair e)
    → machine_of new (outside_of (happens old.desc (machine_of old o) (event.Repair e))) ≡ happens old.desc (machine_of old o) (event.Repair e)
repair_made old new o e made = ap (machine_of new) (repair_outside old.desc old o e) ∙ made

-- a note that tells nothing
pub record TellsNothing (n : Note) : Type 0 where
  pub entries : entries_in n ≡ []
  pub sent : (l : ℕ) → sent_in n l ≡ []

pub failure_tells : (d : MachineDesc) (m : Machine) (e : Element) → TellsNothing (note d m (event.Fail e))
failure_tells d m (element.Processor p) =
    cond_both (is_down (m.hand p.0)) Made (Stopped (element.Processor p)) TellsNothing (λ _. record { entries = refl; sent = λ l. refl }) (λ _. record { entries = refl; sent = λ l. refl })
failure_tells d m (element.Memory i) = record { entries = refl; sent = λ l. refl }
failure_tells d m (element.Io i) = record { entries = refl; sent = λ l. refl }

-- a processor of the hardware by its place in the list
module _ (h : Hardware) (o : Outside) (p : ℕ) (few : p < length h.processors) (z : Processor) (z_is : slice_get h.processors p ≡ Some z) where
  abbrev m : Machine
  m = machine_of h o

  found : processor_of h p ≡ z
  found = get_or_from_slice_get h.processors p z (idle_processor h.desc) z_is

  hands : (y : Processor) → (λ (q : ℕ). (slice_index_or (slice_set h.processors p y) q (idle_processor h.desc)).hand) ≡ update m.hand p y.hand
  hands y = set_is (λ x. x.hand) h.processors p y (idle_processor h.desc) few

  caches : (y : Processor) → (λ (q : ℕ). (slice_index_or (slice_set h.processors p y) q (idle_processor h.desc)).cache) ≡ update m.cache p y.cache
  caches y = set_is (λ x. x.cache) h.processors p y (idle_processor h.desc) few

  same_caches : (y : Processor) → y.cache ≡ z.cache → (λ (q : ℕ). (slice_index_or (slice_set h.processors p y) q (idle_processor h.desc)).cache) ≡ m.cache
  same_caches y same = caches y ∙ update_is m.cache p y.cache (ap (λ (x : Processor). x.cache) found ∙ sym same)

  same_hand : is_down (m.hand p) ≡ is_down z.hand
  same_hand = ap (λ (x : Processor). is_down x.hand) found

  -- one that is down stays so
  pub still : machine_of (record h { processors = slice_set h.processors p z }) o ≡ m
  still = ap (λ (xs : List Processor). machine_of (record h { processors = xs }) o) (ap (slice_set h.processors p) (sym found) ∙ set-get_or h.processors p (idle_processor h.desc))

  pub stays_down : (d : MachineDesc) → is_down z.hand ≡ true → happens d m (event.Fail (element.Processor (record { 0 = p }))) ≡ m
  stays_down d e = cond-true (is_down (m.hand p)) m (stopped m p) (same_hand ∙ e)

  -- and that is all that is answered
  pub made_answer : (d : MachineDesc) → is_down z.hand ≡ true → Ok Made ≡ answer d m (event.Fail (element.Processor (record { 0 = p })))
  made_answer d e =
      let down : is_down (m.hand p) ≡ true = same_hand ∙ e in
      λ j. answer_to (if sym down j then Made else Stopped (element.Processor (record { 0 = p }))) d m (if sym down j then None else Some (element.Processor (record { 0 = p })))

  pub stopped_answer : (d : MachineDesc) → is_down z.hand ≡ false
      → answered (Stopped (element.Processor (record { 0 = p }))) (element.Processor (record { 0 = p })) (blocker d m (Some (element.Processor (record { 0 = p })))) ≡ answer d m (event.Fail (element.Processor (record { 0 = p })))
  stopped_answer d e =
      let up : is_down (m.hand p) ≡ false = same_hand ∙ e in
      λ j. answer_to (if sym up j then Made else Stopped (element.Processor (record { 0 = p }))) d m (if sym up j then None else Some (element.Processor (record { 0 = p })))

  -- one that is up stops
  module _ (numbers : p < length h.incarnations) (count : ℕ) (count_is : slice_get h.incarnations p ≡ Some count) where
    counts : slice_index (slice_set h.incarnations p (count + 1)) ≡ update m.incarnation p (suc (m.incarnation p))
    counts =
        set_is (λ x. x) h.incarnations p (count + 1) 0 numbers
        ∙ ap (update (slice_index h.incarnations) p) (add-one count ∙ ap suc (sym (get_or_from_slice_get h.incarnations p count 0 count_is)))

    pub now_stopped : (d : MachineDesc) (y : Processor) → is_down z.hand ≡ false → y.hand ≡ hand.Down → y.cache ≡ record z.cache { changes = [] }
        → machine_of (record h { processors = slice_set h.processors p y; incarnations = slice_set h.incarnations p (count + 1) }) o ≡ happens d m (event.Fail (element.Processor (record { 0 = p })))
    now_stopped d y up down empty =
        let cache : y.cache ≡ record (m.cache p) { changes = [] } = empty ∙ ap (λ (x : Processor). record x.cache { changes = [] }) (sym found) in
        (λ j. record m {
          hand = (hands y ∙ ap (update m.hand p) down) j;
          cache = (caches y ∙ ap (update m.cache p) cache) j;
          incarnation = counts j;
        })
        ∙ sym (cond-false (is_down (m.hand p)) m (stopped m p) (same_hand ∙ up))

  -- one that is repaired seeks
  pub now_seeks : (d : MachineDesc) (y : Processor) → m.hand p ≡ hand.Down → y.hand ≡ hand.Seek → y.cache ≡ z.cache
      → machine_of (record h { processors = slice_set h.processors p y }) o ≡ happens d m (event.Repair (element.Processor (record { 0 = p })))
  now_seeks d y down seeks same = λ j. record m {
    hand = (hands y ∙ ap (update m.hand p) (seeks ∙ ap comes_back (sym down))) j;
    cache = same_caches y same j;
  }

-- ---- memories
lost_is : (d : MachineDesc) (p : Copies) (i : ℕ) → failed (shape_of d) p i ≡ lost_copies d i p
unfolding failed update
lost_is d p i = refl

stale_is : (p : Copies) (i : ℕ) → with_state p i memory_state.Stale ≡ record p { state = update p.state i memory_state.Stale }
unfolding with_state update
stale_is p i = refl

module _ (h : Hardware) (hardware : IsHardware h) (o : Outside) (i : ℕ) (memories : Memories) where
  abbrev now : Copies
  now = copies h.layout h.memories

  -- one that fails loses what it keeps
  pub memory_failed : copies h.layout memories ≡ failed h.layout now i → machine_of (record h { memories = memories }) o ≡ happens h.desc (machine_of h o) (event.Fail (element.Memory (record { 0 = i })))
  memory_failed fails =
      let lost = fails ∙ ap (λ (s : Shape). failed s now i) hardware.layout ∙ lost_is h.desc now i in
      λ j. record (machine_of h o) { copies = lost j }

  -- one that is repaired is to be copied
  pub memory_mended : now.state i ≡ memory_state.Down → copies h.layout memories ≡ with_state now i memory_state.Stale → machine_of (record h { memories = memories }) o ≡ happens h.desc (machine_of h o) (event.Repair (element.Memory (record { 0 = i })))
  memory_mended down mends =
      let back = mends ∙ stale_is now i ∙ ap (λ (s : State). record now { state = update now.state i s }) (ap is_back (sym down)) in
      λ j. record (machine_of h o) { copies = back j }
