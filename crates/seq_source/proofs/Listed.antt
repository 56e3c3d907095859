-- Operands one by one.
use Rattle.std.proofs.Common.{◌≡◌, ℕ, eqb, List, [], ◌∷◌, length, map, Option, Some, None, refl, ap, ◌∙◌, arith}
use Rattle.std.specs.List.{slice_split}
use Rattle.std.proofs.lemmas.List.Splits.{length-slice_split}
use Rattle.seq_text.specs.Cuts.{parts_behind}
use Rattle.seq_source.specs.Cuts.{without_front}
use Rattle.seq_source.specs.Operands.{operands_in, operands_left}

left_is : (o : Option (List ℕ)) → map without_front (parts_behind 44 o) ≡ operands_left o
unfolding operands_in
left_is None = refl
left_is (Some rest) = refl

pub first_operand : (text part r : List ℕ) (o : Option (List ℕ)) → slice_split (λ b. eqb b 44) text ≡ part ∷ parts_behind 44 o → r ≡ without_front part → operands_in text ≡ r ∷ operands_left o
unfolding operands_in
first_operand text part r o cut e = ap (map without_front) cut ∙ both (without_front part) (map without_front (parts_behind 44 o)) e (left_is o)
  where
    both : (a : List ℕ) (b : List (List ℕ)) → r ≡ a → b ≡ operands_left o → a ∷ b ≡ r ∷ operands_left o
    both a b e f = cc

-- there is at least one operand
pub operands_some : (text : List ℕ) → length (operands_in text) ≡ 0 → ⊥
unfolding operands_in
operands_some text e = absurd (none (slice_split (λ byte. eqb byte 44) text) (omega (arith, length-slice_split (λ byte. eqb byte 44) text)) e)
  where
    none : (parts : List (List ℕ)) → (length parts ≡ 0 → ⊥) → length (map without_front parts) ≡ 0 → ⊥
    none [] h e = h refl
    none (part ∷ parts) h e = absurd (omega arith)
