-- Operands that are printed with commas between them are cut there again.
use Rattle.std.proofs.Common.{◌≡◌, ℕ, ◌<◌, true, false, eqb, List, [], ◌∷◌, ◌++◌, length, map, refl, sym, ap, subst, ◌∙◌}
use Rattle.std.specs.List.{list_all, slice_split}
use Rattle.std.proofs.lemmas.Bool.{or_from, or_left}
use Rattle.std.proofs.lemmas.List.{append-nil}
use Rattle.seq_text.specs.Words.{is_blank}
use Rattle.seq_source.specs.Cuts.{without_front}
use Rattle.seq_source.specs.Operands.{operands_in}
use Rattle.seq_list.specs.Lines.{behind_comma}
use Rattle.seq_roundtrip.proofs.Parts.{is_operand_byte, is_text_byte, other_byte, NonePass, none_pass, wider, all_joined, Begins, front_stays, blank_goes, begins_joined, Ends, ends_joined, IsSolid, solid_begins, solid_ends, split_at, split_none}

pub record IsOperand (operand : List ℕ) : Type 0 where
  pub bytes : list_all is_operand_byte operand ≡ true
  pub some : 0 < length operand

abbrev pub AreOperands : List (List ℕ) → Type 0
AreOperands [] = Unit {0}
AreOperands (operand ∷ more) = IsOperand operand × AreOperands more

no_blank : (b : ℕ) → is_operand_byte b ≡ true → is_blank b ≡ false
no_blank b h = or_from _ _ (other_byte is_operand_byte 32 refl b h) (other_byte is_operand_byte 9 refl b h)

pub operand_solid : (operand : List ℕ) → IsOperand operand → IsSolid operand
operand_solid operand h = record { bytes = none_pass is_operand_byte (λ b. is_blank b) operand no_blank h.bytes; some = h.some }

no_comma : (operand : List ℕ) → IsOperand operand → NonePass (λ b. eqb b 44) operand
no_comma operand h = none_pass is_operand_byte (λ b. eqb b 44) operand (other_byte is_operand_byte 44 refl) h.bytes

-- ---- parts between commas

cut : (first : List ℕ) (more : List (List ℕ)) → NonePass (λ b. eqb b 44) first → AreOperands more → slice_split (λ b. eqb b 44) (first ++ behind_comma more) ≡ first ∷ map (λ o. 32 ∷ o) more
cut first [] h k = ap (slice_split (λ b. eqb b 44)) (append-nil first) ∙ split_none (λ b. eqb b 44) first h
cut first (next ∷ more) h k =
    split_at (λ b. eqb b 44) first 44 ((32 ∷ next) ++ behind_comma more) h refl
    ∙ ap (λ parts. first ∷ parts) (cut (32 ∷ next) more (no_comma next k.0) k.1)

blanks_go : (operands : List (List ℕ)) → AreOperands operands → map without_front (map (λ o. 32 ∷ o) operands) ≡ operands
blanks_go [] h = refl
blanks_go (operand ∷ more) h = both (without_front (32 ∷ operand)) operand (map without_front (map (λ o. 32 ∷ o) more)) more (blank_goes operand (solid_begins operand (operand_solid operand h.0))) (blanks_go more h.1)
  where
    both : (a b : List ℕ) (xs ys : List (List ℕ)) → a ≡ b → xs ≡ ys → a ∷ xs ≡ b ∷ ys
    both a b xs ys e f = cc

pub operands_again : (first : List ℕ) (more : List (List ℕ)) → IsOperand first → AreOperands more → operands_in (first ++ behind_comma more) ≡ first ∷ more
unfolding operands_in
operands_again first more h k =
    ap (map without_front) (cut first more (no_comma first h) k)
    ∙ both (without_front first) first (map without_front (map (λ o. 32 ∷ o) more)) more (front_stays first (solid_begins first (operand_solid first h))) (blanks_go more k)
  where
    both : (a b : List ℕ) (xs ys : List (List ℕ)) → a ≡ b → xs ≡ ys → a ∷ xs ≡ b ∷ ys
    both a b xs ys e f = cc

-- ---- the text of operands

text_byte : (b : ℕ) → is_operand_byte b ≡ true → is_text_byte b ≡ true
text_byte b h = or_left _ _ (or_left _ _ (or_left _ _ h))

pub operand_text : (operand : List ℕ) → IsOperand operand → list_all is_text_byte operand ≡ true
operand_text operand h = wider is_operand_byte is_text_byte operand text_byte h.bytes

pub joined_bytes : (first : List ℕ) (more : List (List ℕ)) → IsOperand first → AreOperands more → list_all is_text_byte (first ++ behind_comma more) ≡ true
joined_bytes first [] h k = all_joined is_text_byte first [] (operand_text first h) refl
joined_bytes first (next ∷ more) h k = all_joined is_text_byte first (44 ∷ 32 ∷ (next ++ behind_comma more)) (operand_text first h) (joined_bytes next more k.0 k.1)

pub joined_begins : (first : List ℕ) (more : List (List ℕ)) → IsOperand first → Begins (first ++ behind_comma more)
joined_begins first more h = begins_joined first (behind_comma more) (solid_begins first (operand_solid first h))

pub joined_ends : (first : List ℕ) (more : List (List ℕ)) → IsOperand first → AreOperands more → Ends (first ++ behind_comma more)
joined_ends first [] h k = subst Ends (sym (append-nil first)) (solid_ends first (operand_solid first h))
joined_ends first (next ∷ more) h k = ends_joined first (44 ∷ 32 ∷ (next ++ behind_comma more)) (ends_joined (44 ∷ 32 ∷ []) (next ++ behind_comma more) (joined_ends next more k.0 k.1))
