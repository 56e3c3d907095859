-- What the words of a line say.
use Rattle.std.proofs.Common.{◌≡◌, ℕ, None, Result, Ok, Err, List, [], ◌∷◌, length, refl, sym}
use Rattle.std.specs.Option.{option_map}
use Rattle.std.specs.Result.{MatchResult, is_ok}
use Rattle.std.specs.Str.{IsUtf8, is_utf8}
use Rattle.std.proofs.lemmas.Bool.{false_from_ne_true}
use Rattle.std.proofs.lemmas.Str.{IsUtf8-from_is_utf8, is_utf8-from_IsUtf8}
use Rattle.seq_manifest.specs.Statements.{process_said}
use Rattle.seq_manifest.specs.Kept.{kept}

-- a process has four words behind its file
pub process_said_none : (file : List ℕ) (words : List (List ℕ)) → (length words ≡ 4 → ⊥) → None ≡ option_map kept (process_said file words)
unfolding process_said
process_said_none file [] h = refl
process_said_none file (a ∷ []) h = refl
process_said_none file (a ∷ b ∷ []) h = refl
process_said_none file (a ∷ b ∷ c ∷ []) h = refl
process_said_none file (a ∷ b ∷ c ∷ d ∷ []) h = absurd (h refl)
process_said_none file (a ∷ b ∷ c ∷ d ∷ e ∷ words) h = refl

-- the test for UTF-8
pub is_utf8_from : {S E : Type 0} (r : Result S E) (word : List ℕ) (P : S → Type 0) (Q : E → Type 0) → ((s : S) → P s → IsUtf8 word) → ((e : E) → Q e → IsUtf8 word → ⊥) → MatchResult r P Q → is_ok r ≡ is_utf8 word
is_utf8_from (Ok s) word P Q f g h = sym (is_utf8-from_IsUtf8 word (f s h))
is_utf8_from (Err e) word P Q f g h = sym (false_from_ne_true (is_utf8 word) (λ t. g e h (IsUtf8-from_is_utf8 word t)))
