-- Hardware that was just made.
use Rattle.std.proofs.Math.Path.{fun_ext}
use Rattle.std.proofs.Common.{◌≡◌, inl, inr, ℕ, ◌≤◌, if◌then◌else◌, length, get_or, replicate, arith, ap, sym, ◌∙◌}
use Rattle.std.specs.Prelude.{nat_lt}
use Rattle.std.proofs.lemmas.Bool.{cases_lt, lt-ltb, le-ltb, cond-true, cond-false}
use Rattle.std.proofs.lemmas.List.{get_or_past, length-replicate}
use Rattle.std.proofs.lemmas.List.FromFn.{length-map-range_with_len}
use Rattle.seq_words.specs.Description.{IsDescription, line_count}
use Rattle.seq_words.specs.declared.description.MachineDesc.{MachineDesc}
use Rattle.seq_memory.specs.declared.element.Memories.{Memories}
use Rattle.seq_memory.specs.declared.element.MemoryElement.{MemoryElement}
use Rattle.seq_memory.specs.declared.element.State.TheVariants.{InService, Down}
use Rattle.seq_layout.specs.Shapes.{Shape, shape_of, owner_from}
use Rattle.seq_layout.specs.Copies.{Copies, Matches, copies, no_element}
use Rattle.seq_start.specs.Begun.{start_image, Hold}
use Rattle.seq_machine.specs.declared.hardware.Hardware.{Hardware}
use Rattle.seq_machine.specs.Plain.{idle_processor, fresh_element, empty_port, machine_of, IsHardware}
use Rattle.seq_machine.specs.Starting.{no_outside, machine_at_start}
use Rattle.seq_machine.proofs.Lists.{copies_of_one}

-- Its parts are those of the description at the start.
pub record IsMade (d : MachineDesc) (h : Hardware) : Type 0 where
  pub described : IsDescription d
  pub desc : h.desc ≡ d
  pub layout : h.layout ≡ shape_of d
  pub matches : Matches h.layout h.memories
  pub holds : Hold h.layout (copies h.layout h.memories) (start_image d)
  pub processors : h.processors ≡ replicate d.processors (idle_processor d)
  pub ios : h.ios ≡ replicate d.ios fresh_element
  pub scan : h.scan ≡ replicate d.processors 0
  pub incarnations : h.incarnations ≡ replicate d.processors 0
  pub ports : h.ports ≡ replicate (length h.layout.owners) (empty_port d)

lines_of : (d : MachineDesc) → length (shape_of d).owners ≡ line_count d
lines_of d = length-map-range_with_len (owner_from 0 d.processes) 0 (line_count d)

-- a memory that isn't there counts as down
no_more : (s : Shape) (m : Memories) (i : ℕ) → Matches s m → s.memories ≤ i → (copies s m).state i ≡ Down
unfolding copies no_element
no_more s m i matches past = ap (λ (x : MemoryElement). x.state) (get_or_past m.elements i no_element (omega (arith, matches.memories, past)))

module _ (d : MachineDesc) (h : Hardware) (made : IsMade d h) where
  pub is_hardware : IsHardware h
  is_hardware = rw made.desc (record {
    described = made.described;
    layout = made.layout;
    memories = made.matches;
    processors = ap length made.processors ∙ length-replicate d.processors (idle_processor d);
    ios = ap length made.ios ∙ length-replicate d.ios fresh_element;
    scan = ap length made.scan ∙ length-replicate d.processors 0;
    incarnations = ap length made.incarnations ∙ length-replicate d.processors 0;
    ports = ap length made.ports ∙ length-replicate (length h.layout.owners) (empty_port d) ∙ ap (λ (s : Shape). length s.owners) made.layout ∙ lines_of d;
  })

  abbrev held : Copies
  held = copies h.layout h.memories

  state_is : (i : ℕ) → held.state i ≡ (if nat_lt i d.memories then InService else Down)
  state_is i =
      let count : h.layout.memories ≡ d.memories = ap (λ (s : Shape). s.memories) made.layout in
      elim (cases_lt i d.memories) [
        | inl lt ↦ made.holds.state i (omega (arith, count, lt)) ∙ sym (cond-true _ _ _ (lt-ltb i d.memories lt))
        | inr past ↦ no_more h.layout h.memories i made.matches (omega (arith, count, past)) ∙ sym (cond-false _ _ _ (le-ltb i d.memories past))
      ]

  copies_are : held ≡ (machine_at_start d).copies
  copies_are = λ k. record {
    state = fun_ext {g = λ i. if nat_lt i d.memories then InService else Down} state_is k;
    block = fun_ext {f = held.block} {g = λ e n c. start_image d e n} (λ e. fun_ext (λ n. fun_ext (λ c. made.holds.block e n c))) k;
    word = fun_ext {f = held.word} {g = λ e n c. 0} (λ e. fun_ext (λ n. fun_ext (λ c. made.holds.word e n c))) k;
  }

  each_processor : (p : ℕ) → get_or h.processors p (idle_processor h.desc) ≡ idle_processor d
  each_processor p = rw (made.processors, made.desc) (copies_of_one d.processors p (idle_processor d))

  each_io : (i : ℕ) → get_or h.ios i fresh_element ≡ fresh_element
  each_io i = rw made.ios (copies_of_one d.ios i fresh_element)

  each_port : (l : ℕ) → get_or h.ports l (empty_port h.desc) ≡ empty_port d
  each_port l = rw (made.ports, made.desc) (copies_of_one (length h.layout.owners) l (empty_port d))

  pub at_start : machine_of h no_outside ≡ machine_at_start d
  at_start = λ k. record {
    copies = copies_are k;
    hand = λ p. (each_processor p k).hand;
    cache = λ p. (each_processor p k).cache;
    scan = λ p. (ap (λ xs. get_or xs p 0) made.scan ∙ copies_of_one d.processors p 0) k;
    incarnation = λ p. (ap (λ xs. get_or xs p 0) made.incarnations ∙ copies_of_one d.processors p 0) k;
    io = λ i. each_io i k;
    port = λ l. each_port l k;
    history = no_outside.history;
    sent = no_outside.sent;
    hung = no_outside.hung;
  }
