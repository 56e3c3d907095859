-- What the table says of an I/O element's turn is what an I/O element does.
use Rattle.std.specs.Prelude.{◌≡◌, ℕ, ◌<◌, length}
use Rattle.seq_words.specs.Description.{IsDescription, line_count}
use Rattle.seq_words.specs.declared.description.MachineDesc.{MachineDesc}
use Rattle.seq_layout.specs.Shapes.{shape_of}
use Rattle.seq_layout.specs.Copies.{Copies}
use Rattle.seq_kernel.specs.declared.outcomes.Note.{Note}
use Rattle.seq_kernel.specs.declared.outcomes.Note.TheVariants as note
use Rattle.seq_io.specs.declared.element.IoNote.{IoNote}
use Rattle.seq_io.specs.declared.element.IoNote.TheVariants as io_note
use Rattle.seq_io.specs.Lines.{Outside}
use Rattle.seq_io.specs.Duties as element
use Rattle.seq_io.specs.Turns as element_turn
use Rattle.seq_io.specs.Changes as element_change
use Rattle.seq_turns.specs.Machines.{Machine, Change, copies_after}
use Rattle.seq_turns.specs.Duties.{Duty, duty, rests}
use Rattle.seq_turns.specs.Events.{after_io}

-- line l of the machine from outside
abbrev pub outside_of : Machine → ℕ → Outside
outside_of m l = record { port = m.port l; accepted = length (m.sent l); hung = m.hung l }

-- the note of the machine for an element's
abbrev pub noted : IoNote → Note
noted io_note.Nothing = note.Nothing
noted (io_note.Sent l byte) = note.Sent l byte
noted (io_note.Moved l) = note.Moved
noted (io_note.Taken l) = note.Taken l

-- an element's duty with the machine's note
abbrev pub in_table : element.Duty → Duty
in_table done = record { change = done.change; taken = done.taken; sent = done.sent; note = noted done.note }

-- at each line the table has the element's duty
abbrev pub DutiesAgree : Type 0
DutiesAgree = (d : MachineDesc) (m : Machine) (l : ℕ) → IsDescription d → l < line_count d → duty d m l ≡ in_table (element.duty (shape_of d) m.copies (outside_of m l) l)

-- the element rests where the table says so
abbrev pub RestsAgree : Type 0
RestsAgree = (d : MachineDesc) (m : Machine) (i : ℕ) → rests d m i ≡ element_turn.rests (shape_of d) m.copies (m.io i)

-- its turn leaves the element as the table says: at the next line, where it didn't rest
abbrev pub ElementsAgree : Type 0
ElementsAgree = (d : MachineDesc) (m : Machine) (i : ℕ) → (after_io d m i).io i ≡ element_turn.element_after (shape_of d) m.copies (m.io i)

-- a change leaves the same in the memories
abbrev pub ChangesAgree : Type 0
ChangesAgree = (change : Change) (p : Copies) → copies_after change p ≡ element_change.copies_after change p
