-- A turn of a processor that copies a memory, or waits since one is amid an operation.
use Rattle.std.proofs.Common.{◌≡◌, ℕ, ◌<◌, ◌≤◌, Bool, true, false, List, [], take, length, Option, Some, None, refl, sym, ap, ◌∙◌, subst, arith}
use Rattle.std.specs.Prelude.{is_some, slice_get, slice_index_or}
use Rattle.std.specs.Option.{option_map}
use Rattle.std.proofs.lemmas.Bool.{cond-true, cond-false, false≢true}
use Rattle.std.proofs.lemmas.Option.{get_or_from_slice_get}
use Rattle.std.proofs.lemmas.List.{get_or-take, length-take-le}
use Rattle.seq_words.specs.declared.description.MachineDesc.{MachineDesc}
use Rattle.seq_words.specs.declared.elements.Me.{Me}
use Rattle.seq_words.specs.declared.names.Pe.{Pe}
use Rattle.seq_layout.specs.Shapes.{Shape}
use Rattle.seq_layout.specs.Copies.{Copies}
use Rattle.seq_io.specs.Turns as element_turn
use Rattle.seq_kernel.specs.declared.outcomes.Note.{Note}
use Rattle.seq_kernel.specs.declared.outcomes.Note.TheVariants.{Held, Copied}
use Rattle.seq_turns.specs.declared.hand.Hand.{Hand}
use Rattle.seq_turns.specs.declared.hand.Hand.TheVariants as hand
use Rattle.seq_turns.specs.Machines.{Machine}
use Rattle.seq_turns.specs.Reading.{is_amid, copied_memory}
use Rattle.seq_turns.specs.Recoveries.{unit_copied}
use Rattle.seq_turns.specs.Processors.{someone_amid, copies_or_waits, seeks_or_copies, runs_or_copies, turn}
use Rattle.seq_turns.specs.Events.{after_turn, note_of_turn, stops}
use Rattle.seq_turns.proofs.Functions.{update_is}
use Rattle.seq_reintegrate.specs.Gate.{ShowAmid}
use Rattle.seq_machine.specs.Needs.{IsOperating}
use Rattle.seq_machine.specs.Plain.{processor_of, idle_processor, outside_of, IsHardware}
use Rattle.seq_machine.specs.Settling.{held_copies}
use Rattle.seq_machine.specs.Processors.{is_copier, copied_by}
use Rattle.seq_machine.specs.declared.hardware.Processor.{Processor}
use Rattle.seq_machine.specs.declared.hardware.Hardware.{Hardware}

abbrev pub me : ℕ → Me
me i = record { 0 = i }

-- nothing isn't something
pub no_some : {A : Type 0} (x : A) → None ≡ Some x → ⊥
no_some x e = let c : ⊥ = cc in c

-- ---- what is found, as the code tells it
pub is_named : (o : Option ℕ) (x : Me) → Some x ≡ option_map me o → o ≡ Some x.0
is_named (Some i) x e = let same : x ≡ record { 0 = i } = cc in ap (λ (y : Me). Some y.0) (sym same)
is_named None x e = absurd (no_some x (sym e))

pub is_unnamed : (o : Option ℕ) → None ≡ option_map me o → o ≡ None
is_unnamed (Some i) e = absurd (no_some (me i) e)
is_unnamed None e = refl

pub some_mapped : {A B : Type 0} (f : A → B) (o : Option A) → is_some (option_map f o) ≡ is_some o
some_mapped f (Some x) = refl
some_mapped f None = refl

-- ---- the turn
module _ (d : MachineDesc) (m : Machine) (p i : ℕ) where
  -- where a processor is amid an operation, nothing is done
  pub held_same : (found : Option ℕ) → is_some found ≡ true → after_turn d m p (copies_or_waits m p i found) ≡ m
  held_same (Some r) some = λ j. record m { hand = update_is m.hand p (m.hand p) refl j; cache = update_is m.cache p (m.cache p) refl j }
  held_same None some = absurd (false≢true some)

  pub held_note : (found : Option ℕ) → is_some found ≡ true → note_of_turn p (copies_or_waits m p i found) ≡ Held
  held_note (Some r) some = refl
  held_note None some = absurd (false≢true some)

  -- where none is, the next unit is copied
  pub copied_same : (found : Option ℕ) → is_some found ≡ false → after_turn d m p (copies_or_waits m p i found) ≡ unit_copied d m i
  copied_same (Some r) none = absurd (false≢true (sym none))
  copied_same None none = refl

  pub copied_note : (found : Option ℕ) → is_some found ≡ false → note_of_turn p (copies_or_waits m p i found) ≡ Copied (me i)
  copied_note (Some r) none = absurd (false≢true (sym none))
  copied_note None none = refl

  -- no processor stops, and the outside stays
  pub copying_goes_on : (found : Option ℕ) → stops (copies_or_waits m p i found) ≡ false
  copying_goes_on (Some r) = refl
  copying_goes_on None = refl

  pub copying_outside : (found : Option ℕ) → outside_of (after_turn d m p (copies_or_waits m p i found)) ≡ outside_of m
  copying_outside (Some r) = refl
  copying_outside None = refl

  -- it is the turn of a processor that seeks or runs
  pub turn_copies : (h : Hand) → copied_by (copied_memory d m.copies) h ≡ Some i → turn d m p h ≡ copies_or_waits m p i (someone_amid d m)
  turn_copies hand.Down by = absurd (no_some i by)
  turn_copies hand.Seek by = ap (seeks_or_copies d m p) by
  turn_copies (hand.Claiming q c) by = absurd (no_some i by)
  turn_copies (hand.Running r) by = ap (runs_or_copies d m p r) by
  turn_copies (hand.Acquiring r t c) by = absurd (no_some i by)
  turn_copies (hand.Flushing r cause mask f) by = absurd (no_some i by)
  turn_copies (hand.Unlocking r cause mask l) by = absurd (no_some i by)
  turn_copies (hand.Leaving q l) by = absurd (no_some i by)
  turn_copies (hand.Recovering r) by = absurd (no_some i by)

-- such a processor isn't amid an operation
pub copier_is_free : (found : Option ℕ) (i : ℕ) (h : Hand) → copied_by found h ≡ Some i → IsOperating h → ⊥
copier_is_free found i hand.Down by operating = operating
copier_is_free found i hand.Seek by operating = operating
copier_is_free found i (hand.Claiming q c) by operating = no_some i by
copier_is_free found i (hand.Running r) by operating = operating
copier_is_free found i (hand.Acquiring r t c) by operating = no_some i by
copier_is_free found i (hand.Flushing r cause mask f) by operating = no_some i by
copier_is_free found i (hand.Unlocking r cause mask l) by operating = no_some i by
copier_is_free found i (hand.Leaving q l) by operating = no_some i by
copier_is_free found i (hand.Recovering r) by operating = operating

-- the memory that it copies is the one that is to be copied
pub copied_is : (found : Option ℕ) (i : ℕ) (b : Bool) (h : Hand) → is_copier h ≡ b → copied_by found h ≡ Some i → found ≡ Some i
copied_is found i true h is by = sym (cond-true (is_copier h) found None is) ∙ by
copied_is found i false h is by = absurd (no_some i (sym (cond-false (is_copier h) found None is) ∙ by))

-- ---- a processor of the hardware by its place in the list
module _ (h : Hardware) (hardware : IsHardware h) (p : ℕ) (z : Processor) (z_is : slice_get h.processors p ≡ Some z) where
  copier_same : is_copier (processor_of h p).hand ≡ is_copier z.hand
  copier_same = ap (λ (x : Processor). is_copier x.hand) (get_or_from_slice_get h.processors p z (idle_processor h.desc) z_is)

  pub copier_copies : is_copier z.hand ≡ true → option_map me (element_turn.copied_memory h.layout (held_copies h)) ≡ option_map me (copied_by (copied_memory h.desc (held_copies h)) (processor_of h p).hand)
  copier_copies is =
      ap (λ (s : Shape). option_map me (element_turn.copied_memory s (held_copies h))) hardware.layout
      ∙ ap (option_map me) (sym (cond-true (is_copier (processor_of h p).hand) (copied_memory h.desc (held_copies h)) None (copier_same ∙ is)))

  pub others_copy_none : is_copier z.hand ≡ false → None ≡ option_map me (copied_by (copied_memory h.desc (held_copies h)) (processor_of h p).hand)
  others_copy_none is = ap (option_map me) (sym (cond-false (is_copier (processor_of h p).hand) (copied_memory h.desc (held_copies h)) None (copier_same ∙ is)))

-- ---- the marks of the processors, of which there are at most eight
pub show_amid : (d : MachineDesc) (m : Machine) (marks : List Bool) → length marks ≡ 8 → d.processors ≤ 8 → ((p : ℕ) → p < d.processors → slice_index_or marks p false ≡ is_amid (m.hand p)) → ShowAmid d m (take d.processors marks)
show_amid d m marks eight few each = record {
  count = length-take-le d.processors marks (omega (arith, eight, few));
  each = λ p there. get_or-take d.processors marks p false there ∙ each p there;
}
