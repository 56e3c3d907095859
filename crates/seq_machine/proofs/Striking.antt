-- A strike of what a processor runs, and what becomes of an I/O element that fails or is repaired.
use Rattle.std.proofs.Common.{◌≡◌, ℕ, ◌<◌, true, false, length, Some, ap, sym, ◌∙◌, subst}
use Rattle.std.specs.Prelude.{slice_set, slice_get}
use Rattle.std.proofs.lemmas.Option.{get_or_from_slice_get}
use Rattle.seq_words.specs.declared.half.Half.{Half}
use Rattle.seq_words.specs.declared.description.MachineDesc.{MachineDesc}
use Rattle.seq_words.specs.declared.kinds.Element.TheVariants as element
use Rattle.seq_words.specs.declared.events.Event.TheVariants as event
use Rattle.seq_io.specs.declared.element.IoElement.{IoElement}
use Rattle.seq_turns.specs.Functions.{update}
use Rattle.seq_turns.specs.Machines.{Machine}
use Rattle.seq_turns.specs.Allowed.{MayStrike}
use Rattle.seq_turns.specs.Events.{strikes, happens}
use Rattle.seq_turns.proofs.Functions.{update_is}
use Rattle.seq_machine.specs.Plain.{Outside, processor_of, idle_processor, fresh_element, machine_of}
use Rattle.seq_machine.specs.declared.hardware.Processor.{Processor}
use Rattle.seq_machine.specs.declared.hardware.Hardware.{Hardware}
use Rattle.seq_machine.proofs.Tied.{set_is}
use Rattle.seq_machine.proofs.Lists.{set_is_update, set_by}

-- a processor of the hardware by its place in the list
module _ (h : Hardware) (p : ℕ) (z : Processor) (z_is : slice_get h.processors p ≡ Some z) where
  found : processor_of h p ≡ z
  found = get_or_from_slice_get h.processors p z (idle_processor h.desc) z_is

  -- what may be struck of the machine's hand may be struck of the processor's
  pub may_be_struck : (half : Half) → MayStrike half (processor_of h p).hand → MayStrike half z.hand
  may_be_struck half may = subst (λ (x : Processor). MayStrike half x.hand) found may

  -- its hand is struck, and its cache stays
  pub now_struck : (o : Outside) (d : MachineDesc) (half : Half) (reg mask : ℕ) (y : Processor) → p < length h.processors → y.hand ≡ strikes half reg mask z.hand → y.cache ≡ z.cache
      → machine_of (record h { processors = slice_set h.processors p y }) o ≡ happens d (machine_of h o) (event.Upset (record { 0 = p }) half reg mask)
  now_struck o d half reg mask y few struck same =
      let m : Machine = machine_of h o in
      let hand : y.hand ≡ strikes half reg mask (m.hand p) = struck ∙ ap (λ (x : Processor). strikes half reg mask x.hand) (sym found) in
      let cache : m.cache p ≡ y.cache = ap (λ (x : Processor). x.cache) found ∙ sym same in
      λ j. record m {
        hand = (set_is (λ x. x.hand) h.processors p y (idle_processor h.desc) few ∙ ap (update m.hand p) hand) j;
        cache = (set_is (λ x. x.cache) h.processors p y (idle_processor h.desc) few ∙ update_is m.cache p y.cache cache) j;
      }

-- an I/O element that fails is down, at the first line
pub now_down : (h : Hardware) (o : Outside) (d : MachineDesc) (i : ℕ) → i < length h.ios
    → machine_of (record h { ios = slice_set h.ios i (record { up = false; cursor = 0 }) }) o ≡ happens d (machine_of h o) (event.Fail (element.Io (record { 0 = i })))
now_down h o d i few = ap (λ (f : ℕ → IoElement). record (machine_of h o) { io = f }) (set_is_update h.ios i (record { up = false; cursor = 0 }) fresh_element few)

-- one that is repaired is up
pub now_up : (h : Hardware) (o : Outside) (d : MachineDesc) (i : ℕ) (z : IoElement) → i < length h.ios → slice_get h.ios i ≡ Some z
    → machine_of (record h { ios = slice_set h.ios i (record z { up = true }) }) o ≡ happens d (machine_of h o) (event.Repair (element.Io (record { 0 = i })))
now_up h o d i z few z_is = ap (λ (f : ℕ → IoElement). record (machine_of h o) { io = f }) (set_by (λ (x : IoElement). record x { up = true }) h.ios i z fresh_element few z_is)
