-- What the table says of an I/O element's turn is what an I/O element does.
use Rattle.std.proofs.Common.{◌≡◌, ℕ, ◌+◌, ◌*◌, ◌<◌, Bool, true, false, not, ◌&&◌, if◌then◌else◌, map, length, refl, ap, ◌∙◌, arith, add-one}
use Rattle.std.specs.Prelude.{nat_lt, slice_index}
use Rattle.std.specs.List.{range_with_len}
use Rattle.std.proofs.lemmas.List.FromFn.{get_or-map-range_with_len, length-map-range_with_len}
use Rattle.seq_words.specs.Description.{IsDescription, line_count}
use Rattle.seq_words.specs.declared.description.MachineDesc.{MachineDesc}
use Rattle.seq_layout.specs.Shapes.{shape_of, owner_from}
use Rattle.seq_layout.specs.Copies.{Copies, with_block, with_word, first_block}
use Rattle.seq_layout.specs.Contexts.{number_at}
use Rattle.seq_io.specs.Lines as line
use Rattle.seq_io.specs.Duties as element
use Rattle.seq_io.specs.Turns as element_turn
use Rattle.seq_io.specs.Changes.Change.{Unchanged, To_block, To_word}
use Rattle.seq_io.proofs.Wired.{wired}
use Rattle.seq_turns.specs.Functions.{update_copy}
use Rattle.seq_turns.proofs.Functions.{update_same}
use Rattle.seq_turns.specs.Machines.{Machine}
use Rattle.seq_turns.specs.Reading.{context_of}
use Rattle.seq_turns.specs.Duties.{Duty, duty, after_duty, rests, tells_sent, takes_or_closes, takes, closes, goal, may_send, has_steady_owner, written, owner, accepted, is_below, is_at, differs}
use Rattle.seq_turns.specs.Served.{outside_of, in_table, DutiesAgree, RestsAgree, ElementsAgree, ChangesAgree}

-- the number of an owner's line among four
written_at : (d : MachineDesc) (p : Copies) (q i : ℕ) → i < 4 → slice_index (context_of d p q).writes i ≡ number_at (map (first_block (shape_of d) p q) (range_with_len 0 8)) (41 + 2 * i)
unfolding context_of
written_at d p q i few = get_or-map-range_with_len (λ k. number_at (map (first_block (shape_of d) p q) (range_with_len 0 8)) (41 + 2 * k)) 0 4 i i 0 few (omega arith)

owners_are : (d : MachineDesc) → length (shape_of d).owners ≡ line_count d
owners_are d = length-map-range_with_len (owner_from 0 d.processes) 0 (line_count d)

written_is : (d : MachineDesc) (p : Copies) (l : ℕ) → IsDescription d → l < line_count d → written d p l ≡ line.written (shape_of d) p l
written_is d p l is below = written_at d p (owner d l).0.0 (owner d l).1 ((wired d is).index l (rw (owners_are d) below))

-- two choices by one test agree where both sides do
choice : (test : Bool) (x y : Duty) (x' y' : element.Duty) → x ≡ in_table x' → y ≡ in_table y' → (if test then x else y) ≡ in_table (if test then x' else y')
choice true x y x' y' one other = one
choice false x y x' y' one other = other

module _ (d : MachineDesc) (m : Machine) (l : ℕ) where
  abbrev o : line.Outside
  o = outside_of m l

  closed : closes d m l ≡ in_table (element.closes (shape_of d) m.copies (m.port l) l)
  closed = choice (not (m.port l).closed) _ _ _ _ refl (choice (is_at d m.copies l 1 false 0) _ _ _ _ refl (choice (is_at d m.copies l 1 true 0) _ _ _ _ refl refl))

  taken : (at byte : ℕ) → takes d m l at byte ≡ in_table (element.takes (shape_of d) m.copies (m.port l) l at byte)
  taken at byte = rw add-one
      (choice (is_at d m.copies l 0 false at && differs d m.copies l false at byte) _ _ _ _ refl
      (choice (is_at d m.copies l 0 true at && differs d m.copies l true at byte) _ _ _ _ refl
      (choice (is_at d m.copies l 0 false at) _ _ _ _ refl
      (choice (is_at d m.copies l 0 true at) _ _ _ _ refl refl))))

  taken_or_closed : takes_or_closes d m l ≡ in_table (element.takes_or_closes (shape_of d) m.copies (m.port l) l)
  taken_or_closed = choice (nat_lt (m.port l).taken (m.port l).arrived) _ _ _ _ (taken (m.port l).taken (slice_index (m.port l).store (m.port l).taken)) closed

  -- with this goal for the sent words
  told : (g : ℕ) → goal d m l ≡ g → tells_sent d m l ≡ in_table (element.follows (shape_of d) m.copies (m.port l) l g)
  told g e = rw e (choice (is_below d m.copies l 2 false g) _ _ _ _ refl (choice (is_below d m.copies l 2 true g) _ _ _ _ refl taken_or_closed))

  goals : written d m.copies l ≡ line.written (shape_of d) m.copies l → goal d m l ≡ element.goal (shape_of d) m.copies o l
  goals e = ap (λ w. if m.hung l && has_steady_owner d m l then w else accepted m l) e

  senders : written d m.copies l ≡ line.written (shape_of d) m.copies l → may_send d m l ≡ element.may_send (shape_of d) m.copies o l
  senders e = ap (λ w. (not (m.hung l) && has_steady_owner d m l) && nat_lt (accepted m l) w) e

  done : written d m.copies l ≡ line.written (shape_of d) m.copies l → duty d m l ≡ in_table (element.duty (shape_of d) m.copies o l)
  done e = rw (senders e) (choice (element.may_send (shape_of d) m.copies o l) _ _ _ _ refl (told (element.goal (shape_of d) m.copies o l) (goals e)))

pub duties_agree : DutiesAgree
duties_agree d m l is below = done d m l (written_is d m.copies l is below)

pub rests_agree : RestsAgree
rests_agree d m i = rw (owners_are d) refl

-- where it didn't rest, the element serves the next line then
moved_on : (d : MachineDesc) (m : Machine) (i : ℕ) (rest : Bool) → ((if rest then m else after_duty d i (m.io i).cursor (duty d m (m.io i).cursor) m).io i) ≡ (if rest then m.io i else record (m.io i) { cursor = element_turn.next_cursor (shape_of d) (m.io i).cursor })
moved_on d m i true = refl
moved_on d m i false = update_same m.io i _ ∙ (rw (owners_are d) refl)

pub elements_agree : ElementsAgree
elements_agree d m i = moved_on d m i (rests d m i) ∙ ap (λ rest. if rest then m.io i else record (m.io i) { cursor = element_turn.next_cursor (shape_of d) (m.io i).cursor }) (rests_agree d m i)

pub changes_agree : ChangesAgree
unfolding with_block with_word update_copy
changes_agree Unchanged p = refl
changes_agree (To_block e n c b) p = refl
changes_agree (To_word e n c w) p = refl
