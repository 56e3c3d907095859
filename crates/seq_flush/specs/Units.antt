-- The units of a flush: the changed blocks in ascending order of extent and place, then the eight blocks of the context.
use Rattle.std.specs.Prelude.{◌≡◌, ℕ, ◌<◌, ◌≤◌, All, List, ◌∷◌, [], ◌++◌, slice_index_or}
use Rattle.seq_words.specs.Blocks.{zero_block}
use Rattle.seq_words.specs.declared.block.Block.{Block}
use Rattle.seq_layout.specs.Shapes.{Shape}
use Rattle.seq_layout.specs.Places.{IsPlace}
use Rattle.seq_cache.specs.declared.change.Change.{Change}

-- a block of the context of process p
abbrev pub context_change : ℕ → List Block → ℕ → Change
context_change p context k = record { extent = record { 0 = p }; place = k; block = slice_index_or context k zero_block }

abbrev pub context_changes : ℕ → List Block → List Change
context_changes p context =
    context_change p context 0 ∷ context_change p context 1 ∷ context_change p context 2 ∷ context_change p context 3 ∷
    context_change p context 4 ∷ context_change p context 5 ∷ context_change p context 6 ∷ context_change p context 7 ∷ []

unfoldable pub units_of : ℕ → List Block → List Change → List Change
units_of p context changes = changes ++ context_changes p context

-- A changed block has a place, and isn't a block of the context of process p.
pub record IsBeside (s : Shape) (p : ℕ) (change : Change) : Type 0 where
  pub place : IsPlace s.blocks change.extent.0 change.place
  pub beside : change.extent.0 ≡ p → 8 ≤ change.place

-- What a flush of process p writes has places: its context, its status word, and each changed block beside these.
pub record HavePlaces (s : Shape) (p : ℕ) (changes : List Change) : Type 0 where
  pub context : (k : ℕ) → k < 8 → IsPlace s.blocks p k
  pub status : IsPlace s.words p 0
  pub changed : All (IsBeside s p) changes
