-- Operands of a form, and values in their ranges.
use Rattle.std.specs.Prelude.{ℕ, ◌==◌, if◌then◌else◌, Option, Some, None, List, [], ◌∷◌, length}
use Rattle.seq_source.specs.declared.items.Item.{Item}
use Rattle.seq_source.specs.declared.items.Said.{Said}
use Rattle.seq_source.specs.declared.items.Said.TheVariants.{BadOperands, OutOfRange, Says}

-- what is said of exactly one operand (two, three); any other number isn't of the form
abbrev pub with_one : (List ℕ → Said) → List (List ℕ) → Said
with_one say (a ∷ []) = say a
with_one say _ = BadOperands

abbrev pub with_two : (List ℕ → List ℕ → Said) → List (List ℕ) → Said
with_two say (a ∷ b ∷ []) = say a b
with_two say _ = BadOperands

abbrev pub with_three : (List ℕ → List ℕ → List ℕ → Said) → List (List ℕ) → Said
with_three say (a ∷ b ∷ c ∷ []) = say a b c
with_three say _ = BadOperands

-- what is said of an operand that is there, or else that the operands aren't of the form
abbrev pub given : {A : Type 0} → Option A → (A → Said) → Said
given None say = BadOperands
given (Some a) say = say a

-- the item of a value that is in its range, or else that it is out of range
abbrev pub in_range : {A : Type 0} → Option A → (A → Item) → Said
in_range None item = OutOfRange
in_range (Some a) item = Says (item a)

-- a word without operands
abbrev pub alone_said : Item → List ℕ → Said
alone_said item text = if length text == 0 then Says item else BadOperands
