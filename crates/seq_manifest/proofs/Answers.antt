-- What a reader that finds the value or the first fault answers.
use Rattle.std.proofs.Common.{◌≡◌, ℕ, ◌⊎◌, inl, inr, Option, Some, None, Result, Ok, Err, List, refl, sym, ap, ◌∙◌}
use Rattle.std.specs.Prelude.{IfOk, OnOk}
use Rattle.seq_words.specs.declared.events.ReadError.{ReadError}
use Rattle.seq_words.specs.declared.events.ReadError.TheVariants as read_errors
use Rattle.seq_manifest.specs.declared.draft.Draft.{Draft}
use Rattle.seq_manifest.specs.Drafts.{Describes}
use Rattle.seq_manifest.specs.Faults.{first_fault}
use Rattle.seq_manifest.proofs.Faultless.{no_fault}
use Rattle.seq_manifest.proofs.Unique.{one}

pub is_read : (text : List ℕ) (r : Result Draft ReadError) (d : Draft) → IfOk r (λ e. Describes text e) → ((place rule : ℕ) → r ≡ Err (read_errors.Refused place rule) → first_fault text ≡ Some (place, rule)) → Describes text d → (r ≡ Ok d) ⊎ (r ≡ Err read_errors.NoMemory)
is_read text (Ok e) d value refused h = inl (ap (λ d. Ok d) (one text e d value h))
is_read text (Err (read_errors.Refused place rule)) d value refused h =
    let fault = refused place rule refl in
    let none = no_fault text d h in
    absurd cc
is_read text (Err read_errors.NoMemory) d value refused h = inr refl

pub is_refused : (text : List ℕ) (r : Result Draft ReadError) (place rule : ℕ) → OnOk r (first_fault text ≡ None) → ((place rule : ℕ) → r ≡ Err (read_errors.Refused place rule) → first_fault text ≡ Some (place, rule)) → first_fault text ≡ Some (place, rule) → (r ≡ Err (read_errors.Refused place rule)) ⊎ (r ≡ Err read_errors.NoMemory)
is_refused text (Ok e) place rule none refused fault = let n : first_fault text ≡ None = none in absurd cc
is_refused text (Err (read_errors.Refused p q)) place rule none refused fault =
    let told = refused p q refl in
    inl (same p q place rule (sym told ∙ fault))
  where
    same : (p q place rule : ℕ) → ◌≡◌ {A = Option (ℕ × ℕ)} (Some (p, q)) (Some (place, rule)) → ◌≡◌ {A = Result Draft ReadError} (Err (read_errors.Refused p q)) (Err (read_errors.Refused place rule))
    same p q place rule e = let pair : ◌≡◌ {A = ℕ × ℕ} (p, q) (place, rule) = cc in ap (λ (x : ℕ × ℕ). Err (read_errors.Refused x.0 x.1)) pair
is_refused text (Err read_errors.NoMemory) place rule none refused fault = inr refl
