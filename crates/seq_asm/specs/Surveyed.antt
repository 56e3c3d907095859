-- What the two readings of a source keep.
use Rattle.std.specs.Prelude.{◌≡◌, ℕ, ℤ, pos, ◌≤◌, ◌-ℤ◌, Bool, true, false, if◌then◌else◌, Option, Some, None, List, [], ◌∷◌, replicate}
use Rattle.std.specs.BTreeMap as tree
use Rattle.std.specs.BTreeMap.{BTreeMap}
use Rattle.std.specs.Borrow.{Bor}
use Rattle.std.specs.Cmp.Lexicographic.{slice_cmp}
use Rattle.std.specs.Option.{is_some}
use Rattle.std.specs.Ordering.{nat_cmp}
use Rattle.byteorder.specs.Endian.{little_bytes}
use Rattle.seq_loader.specs.Faults.{is_entry}
use Rattle.seq_source.specs.Numbers.{offset_of}
use Rattle.seq_source.specs.declared.items.Item.TheVariants.{Entry}
use Rattle.seq_source.specs.declared.items.Said.{Said}
use Rattle.seq_source.specs.declared.items.Said.TheVariants.{Says}
use Rattle.seq_asm.specs.declared.rules.Past.{Past}
use Rattle.seq_asm.specs.declared.pieces.Piece.{Piece}
use Rattle.seq_asm.specs.declared.pieces.Piece.TheVariants.{Word, Byte, Zeros}
use Rattle.seq_asm.specs.declared.emitting.EntryAt.{EntryAt}
use Rattle.seq_asm.specs.Lines.{end_of, address_in, entry_in, size_in}
use Rattle.seq_asm.specs.Rules.{address_or}

-- a map keeps these labels
abbrev pub HasLabels : BTreeMap (Bor (List ℕ)) ℕ → List (List ℕ × ℕ) → Type 0
HasLabels m labels = (name : List ℕ) → tree.get_by (λ k. slice_cmp nat_cmp name k.now) m ≡ address_in labels name

abbrev pub says_entry : Said → Bool
says_entry (Says Entry) = true
says_entry _ = false

-- what is kept of lines besides their labels
pub record IsPast (past : Past) (before : List (List ℕ)) : Type 0 where
  pub end : past.end ≡ end_of before
  pub small : past.end ≤ 65536
  pub entry : past.entry ≡ is_some (entry_in before)
  pub size : past.size ≡ size_in before

-- the bytes of a piece
abbrev pub bytes_of : Piece → List ℕ
bytes_of (Word n) = little_bytes 4 n
bytes_of (Byte n) = n ∷ []
bytes_of (Zeros n) = replicate n 0

-- the offset from an address to a label's, if that label is there and the offset is in its range
abbrev pub offset_to : ℕ → ℕ → Option ℕ → Option ℤ
offset_to half at None = None
offset_to half at (Some address) = offset_of half (pos address -ℤ pos at)

-- the line that says an entry, with the address of its label
abbrev pub entry_at : List (List ℕ × ℕ) → Option (ℕ × List ℕ) → Option EntryAt
entry_at labels None = None
entry_at labels (Some (place, name)) = Some (record { place = place; address = address_or (address_in labels name) })

-- rule 56 of such a line
abbrev pub spot_fault : ℕ → Option EntryAt → Option (ℕ × ℕ)
spot_fault size None = None
spot_fault size (Some at) = if is_entry size at.address then None else Some (at.place, 56)

abbrev pub spot_address : Option EntryAt → ℕ
spot_address None = 0
spot_address (Some at) = at.address
