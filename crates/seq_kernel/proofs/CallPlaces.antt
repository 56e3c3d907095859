-- The blocks and words that a call reads and writes are places of its machine.
use Rattle.std.proofs.Common.{◌≡◌, ℕ, ◌+◌, ◌-◌, ◌/◌, ◌%◌, ◌<◌, ◌≤◌, Bool, true, false, ◌&&◌, if◌then◌else◌, nat_lt, length, Some, None, Option, inl, inr, refl, sym, ◌∙◌, ap, subst, arith}
use Rattle.std.specs.Prelude.{count_ones}
use Rattle.std.proofs.lemmas.Bool.{cases_lt, ltb-true, and_parts, false≢true}
use Rattle.std.proofs.lemmas.List.{get_or_past}
use Rattle.std.proofs.lemmas.Nat.Bits.{bit_at-zero}
use Rattle.std.proofs.lemmas.Bool.Decides.{nat_tests}
use Rattle.std.proofs.lemmas.List.Elements.{All-get_or}
use Rattle.std.proofs.lemmas.List.FromFn.{length-map-range_with_len}
use Rattle.std.proofs.lemmas.List.Sums.{get_or-le-sum_by}
use Rattle.seq_words.specs.Masks.{has_bit}
use Rattle.seq_words.specs.Description.{IsDescription, IsProcess, IsSegment, line_count, process_of, segment_of, no_process, no_segment}
use Rattle.seq_words.specs.declared.description.MachineDesc.{MachineDesc}
use Rattle.seq_words.specs.declared.description.ProcessDesc.{ProcessDesc}
use Rattle.seq_layout.specs.declared.extents.Extent.{Extent}
use Rattle.seq_layout.specs.Places.{IsPlace}
use Rattle.seq_layout.specs.Shapes.{Shape, shape_of, index_of, owner_from, line_extent}
use Rattle.seq_layout.proofs.Owners.{index_below}
use Rattle.seq_layout.proofs.Sizes.{process_has_blocks, segment_has_blocks, line_has_blocks}
use Rattle.seq_segments.specs.Map.{before_private, mapped}
use Rattle.seq_kernel.specs.Outboxes.{outbox_block}

-- a process and a segment of the description
is_process : (d : MachineDesc) (p : ℕ) → IsDescription d → p < length d.processes → IsProcess (length d.segments) (process_of d p)
is_process d p is below = All-get_or (IsProcess (length d.segments)) d.processes p no_process below is.each_process

is_segment : (d : MachineDesc) (t : ℕ) → IsDescription d → t < length d.segments → IsSegment (segment_of d t)
is_segment d t is below = All-get_or IsSegment d.segments t no_segment below is.each_segment

-- a line that a process owns is a line of the machine
pub line_below : (d : MachineDesc) (p l : ℕ) → IsDescription d → p < length d.processes → has_bit (process_of d p).lines l ≡ true → l < line_count d
line_below d p l is below owned =
    let some = get_or-le-sum_by (λ (q : ProcessDesc). if has_bit q.lines l then 1 else 0) d.processes p no_process below in
    grind (arith, nat_tests, some, is.lines l)

-- the lines of a process are among the sixteen
pub lines_are_few : (d : MachineDesc) → IsDescription d → (p l : ℕ) → has_bit (process_of d p).lines l ≡ true → l < 16
lines_are_few d is p l owned = elim (cases_lt p (length d.processes)) [
  | inl below ↦ (let known = line_below d p l is below owned in omega (arith, known, is.few_lines))
  | inr past ↦
      let none : process_of d p ≡ no_process = get_or_past d.processes p no_process past in
      let clear : has_bit 0 l ≡ false = rw (bit_at-zero l) refl in
      absurd (false≢true (sym clear ∙ ap (λ (q : ProcessDesc). has_bit q.lines l) (sym none) ∙ owned))
]

-- and has a number below how many it owns, at most three
pub index_few : (d : MachineDesc) (p l : ℕ) → IsDescription d → p < length d.processes → has_bit (process_of d p).lines l ≡ true → index_of (process_of d p).lines l < count_ones (process_of d p).lines
index_few d p l is below owned = index_below (process_of d p).lines l owned

pub own_lines_few : (d : MachineDesc) (p : ℕ) → IsDescription d → p < length d.processes → count_ones (process_of d p).lines ≤ 4
own_lines_few d p is below = (is_process d p is below).few

-- there are as many owners as lines
pub line_owned : (d : MachineDesc) (s : Shape) (l : ℕ) → s ≡ shape_of d → l < line_count d → l < length s.owners
line_owned d s l is below = rw is (omega (arith, length-map-range_with_len (owner_from 0 d.processes) 0 (line_count d)))

-- the blocks of a line's journal
pub journal_place : (d : MachineDesc) (l at : ℕ) → IsDescription d → l < line_count d → at < d.journal → IsPlace (shape_of d).blocks (line_extent (shape_of d) l) (at / 32)
journal_place d l at is below inside = line_has_blocks d l (at / 32) below (omega (arith, is.journal.whole))

-- the blocks of an outbox
outbox_block_place : (d : MachineDesc) (p index k : ℕ) → IsDescription d → p < length d.processes → index < count_ones (process_of d p).lines → k < 8 → IsPlace (shape_of d).blocks p (outbox_block index k)
outbox_block_place d p index k is below few inside = process_has_blocks d p (outbox_block index k) no_process below (omega arith)

pub outbox_place : (d : MachineDesc) (s : Shape) (p index k : ℕ) → IsDescription d → s ≡ shape_of d → p < length d.processes → index < count_ones (process_of d p).lines → k < 8 → IsPlace s.blocks p (outbox_block index k)
outbox_place d s p index k is same below few inside = rw same (outbox_block_place d p index k is below few inside)

-- a choice that gives something
some_of : {A : Type 0} (P : A → Type 0) (test : Bool) (x at : A) (other : Option A) → (if test then Some x else other) ≡ Some at → (test ≡ true → P x) → (other ≡ Some at → P at) → P at
some_of P true x at other e here there = let same : x ≡ at = cc in subst P same (here refl)
some_of P false x at other e here there = there e

past_none : {A : Type 0} (P : Type 0) (test : Bool) (at : A) (other : Option A) → (if test then None else other) ≡ Some at → (other ≡ Some at → P) → P
past_none P true at other e rest = absurd (cc)
past_none P false at other e rest = rest e

nothing : {A : Type 0} (P : Type 0) (at : A) → ◌≡◌ {A = Option A} None (Some at) → P
nothing P at e = absurd (cc)

-- the block of a byte of an extent is one of its blocks
abbrev IsIn : MachineDesc → Extent × ℕ → Type 0
IsIn d at = IsPlace (shape_of d).blocks at.0.0 (at.1 / 32)

private_place : (d : MachineDesc) (p a : ℕ) → IsDescription d → p < length d.processes → nat_lt a (process_of d p).size ≡ true → IsIn d (record { 0 = p }, before_private (process_of d p) + a)
private_place d p a is below low =
    let whole : (process_of d p).size % 32 ≡ 0 = (is_process d p is below).size.whole in
    let inside = ltb-true a (process_of d p).size low in
    process_has_blocks d p ((before_private (process_of d p) + a) / 32) no_process below (omega arith)

shared_place : (d : MachineDesc) (held t offset : ℕ) → IsDescription d → ((nat_lt t (length d.segments) && has_bit held t) && nat_lt offset (segment_of d t).size) ≡ true → IsIn d (record { 0 = length d.processes + t }, offset)
shared_place d held t offset is test =
    let parts = and_parts (nat_lt t (length d.segments) && has_bit held t) (nat_lt offset (segment_of d t).size) test in
    let below = ltb-true t (length d.segments) (and_parts (nat_lt t (length d.segments)) (has_bit held t) parts.0).0 in
    let inside = ltb-true offset (segment_of d t).size parts.1 in
    let whole : (segment_of d t).size % 32 ≡ 0 = (is_segment d t is below).size.whole in
    segment_has_blocks d t (offset / 32) no_segment below (omega arith)

-- the block of an address
address_place : (d : MachineDesc) (p held a : ℕ) (at : Extent × ℕ) → IsDescription d → p < length d.processes → mapped d p held a ≡ Some at → IsIn d at
unfolding mapped
address_place d p held a at is below found =
    some_of (IsIn d) (nat_lt a (process_of d p).size) (record { 0 = p }, before_private (process_of d p) + a) at _ found (private_place d p a is below)
    (λ beyond.
    past_none (IsIn d at) (nat_lt a 0x40000000) at _ beyond
    (λ shared. some_of (IsIn d) _ (record { 0 = length d.processes + (a - 0x40000000) / 0x10000 }, (a - 0x40000000) % 0x10000) at None shared (shared_place d held ((a - 0x40000000) / 0x10000) ((a - 0x40000000) % 0x10000) is) (nothing (IsIn d at) at)))

pub mapped_place : (d : MachineDesc) (s : Shape) (p held a : ℕ) (at : Extent × ℕ) → IsDescription d → s ≡ shape_of d → p < length d.processes → mapped d p held a ≡ Some at → IsPlace s.blocks at.0.0 (at.1 / 32)
mapped_place d s p held a at is same below found = rw same (address_place d p held a at is below found)
