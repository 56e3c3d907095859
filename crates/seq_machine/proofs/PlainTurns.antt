-- The plain turn of a processor, beside the table.
use Rattle.std.proofs.Common.{◌≡◌, ℕ, ◌<◌, if◌then◌else◌, length, Option, Some, None, IfSome, Ok, refl, sym, ap, ◌∙◌, subst, true, nat_le, arith}
use Rattle.std.specs.Prelude.{slice_get, slice_index, slice_set}
use Rattle.std.proofs.lemmas.Bool.{cond-false}
use Rattle.std.proofs.lemmas.Option.{get_or_from_slice_get}
use Rattle.std.proofs.lemmas.List.{set-get_or}
use Rattle.seq_words.specs.declared.names.Pid.{Pid}
use Rattle.seq_words.specs.declared.kinds.Element.TheVariants as element
use Rattle.seq_words.specs.declared.events.Event.TheVariants as event
use Rattle.seq_layout.specs.Copies.{copies}
use Rattle.seq_kernel.specs.declared.outcomes.Note.TheVariants.{Ran as StepTaken}
use Rattle.seq_turns.specs.Machines.{Turn}
use Rattle.seq_turns.specs.Reading.{copied_memory}
use Rattle.seq_turns.specs.Processors.{turn}
use Rattle.seq_turns.specs.Events.{happens, after_turn, note_of_turn, stops}
use Rattle.seq_machine.specs.Plain.{Outside, processor_of, idle_processor, machine_of, outside_of}
use Rattle.seq_machine.specs.PlainTurns.{plain_move}
use Rattle.seq_machine.specs.Processors.{local_turn, copied_by}
use Rattle.seq_machine.specs.Checking.{answer_to, answer}
use Rattle.seq_machine.specs.declared.hardware.Processor.{Processor}
use Rattle.seq_machine.specs.declared.hardware.Hardware.{Hardware}
use Rattle.seq_machine.proofs.Tied.{turn_is, machine_after}

module _ (h : Hardware) (o : Outside) (p : ℕ) (few : p < length h.processors) (scans : p < length h.scan) (numbers : p < length h.incarnations) (none : copied_by (copied_memory h.desc (copies h.layout h.memories)) (processor_of h p).hand ≡ None)
    (z y : Processor) (z_is : slice_get h.processors p ≡ Some z) (pid : Pid)
    (goes : (i : ℕ → ℕ) (scan pe : ℕ) → local_turn h.desc (copies h.layout h.memories) z.cache i scan pe z.hand ≡ plain_move y.hand y.cache pid) where
  -- the table's turn is the plain one
  table : turn h.desc (machine_of h o) p ((machine_of h o).hand p) ≡ plain_move y.hand y.cache pid
  table =
      let is : processor_of h p ≡ z = get_or_from_slice_get h.processors p z (idle_processor h.desc) z_is in
      turn_is h.desc (machine_of h o) p none
      ∙ (λ j. local_turn h.desc (copies h.layout h.memories) (is j).cache (slice_index h.incarnations) (slice_index h.scan p) p (is j).hand)
      ∙ goes (slice_index h.incarnations) (slice_index h.scan p) p

  pub plain_machine : machine_of (record h { processors = slice_set h.processors p y }) (outside_of (happens h.desc (machine_of h o) (event.Processor (record { 0 = p })))) ≡ happens h.desc (machine_of h o) (event.Processor (record { 0 = p }))
  plain_machine =
      let t = plain_move y.hand y.cache pid in
      let made : machine_of (record h { processors = slice_set h.processors p y }) (outside_of (after_turn h.desc (machine_of h o) p t)) ≡ after_turn h.desc (machine_of h o) p t =
      (λ j. machine_of (record h { processors = slice_set h.processors p y; scan = sym (set-get_or h.scan p 0) j }) (outside_of (after_turn h.desc (machine_of h o) p t)))
      ∙ machine_after h o p h.memories few scans numbers h.desc t tt refl in
      subst (λ (x : Turn). machine_of (record h { processors = slice_set h.processors p y }) (outside_of (after_turn h.desc (machine_of h o) p x)) ≡ after_turn h.desc (machine_of h o) p x) (sym table) made

  pub plain_answer : Ok (StepTaken pid) ≡ answer h.desc (machine_of h o) (event.Processor (record { 0 = p }))
  plain_answer = λ j. answer_to (note_of_turn p (sym table j)) h.desc (machine_of h o) (if stops (sym table j) then Some (element.Processor (record { 0 = p })) else None)

-- what follows from what is found, follows where something is
pub if_some : {A : Type 0} {P Q : A → Type 0} (o : Option A) → ((x : A) → P x → Q x) → IfSome o P → IfSome o Q
if_some (Some x) f p = f x p
if_some None f p = tt
