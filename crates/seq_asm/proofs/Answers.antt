-- What a reader that finds the value or the first fault answers.
use Rattle.std.proofs.Common.{◌≡◌, ℕ, ◌⊎◌, inl, inr, Option, Some, None, Result, Ok, Err, refl, sym, ap, ◌∙◌}
use Rattle.std.specs.Prelude.{IfOk, OnOk}
use Rattle.seq_words.specs.declared.events.ReadError.{ReadError}
use Rattle.seq_words.specs.declared.events.ReadError.TheVariants as read_errors

pub is_made : {V : Type 0} (P : V → Type 0) (r : Result V ReadError) (fault : Option (ℕ × ℕ)) → IfOk r P → ((place rule : ℕ) → r ≡ Err (read_errors.Refused place rule) → fault ≡ Some (place, rule)) → fault ≡ None → ((v : V) × P v × (r ≡ Ok v)) ⊎ (r ≡ Err read_errors.NoMemory)
is_made P (Ok x) fault value refused none = inl (x, value, refl)
is_made P (Err (read_errors.Refused place rule)) fault value refused none = let some = refused place rule refl in absurd cc
is_made P (Err read_errors.NoMemory) fault value refused none = inr refl

pub is_refused : {V : Type 0} (r : Result V ReadError) (fault : Option (ℕ × ℕ)) (place rule : ℕ) → OnOk r (fault ≡ None) → ((place rule : ℕ) → r ≡ Err (read_errors.Refused place rule) → fault ≡ Some (place, rule)) → fault ≡ Some (place, rule) → (r ≡ Err (read_errors.Refused place rule)) ⊎ (r ≡ Err read_errors.NoMemory)
is_refused (Ok x) fault place rule none refused some = let n : fault ≡ None = none in absurd cc
is_refused (Err (read_errors.Refused p q)) fault place rule none refused some =
    let same : ◌≡◌ {A = Option (ℕ × ℕ)} (Some (p, q)) (Some (place, rule)) = sym (refused p q refl) ∙ some in
    let pair : ◌≡◌ {A = ℕ × ℕ} (p, q) (place, rule) = cc in
    inl (ap (λ (x : ℕ × ℕ). Err (read_errors.Refused x.0 x.1)) pair)
is_refused (Err read_errors.NoMemory) fault place rule none refused some = inr refl

-- a refusal at this place is that of the text
pub refused_at : {V : Type 0} (here rule p q : ℕ) (fault : Option (ℕ × ℕ)) → fault ≡ Some (here, rule) → ◌≡◌ {A = Result V ReadError} (Err (read_errors.Refused here rule)) (Err (read_errors.Refused p q)) → fault ≡ Some (p, q)
refused_at here rule p q fault some e =
    let pair : ◌≡◌ {A = ℕ × ℕ} (here, rule) (p, q) = cc in
    some ∙ ap (λ (x : ℕ × ℕ). Some x) pair

-- an error that is passed on
pub passed_on : {V W : Type 0} (error : ReadError) (p q : ℕ) (fault : Option (ℕ × ℕ)) → ((place rule : ℕ) → ◌≡◌ {A = Result W ReadError} (Err error) (Err (read_errors.Refused place rule)) → fault ≡ Some (place, rule)) → ◌≡◌ {A = Result V ReadError} (Err error) (Err (read_errors.Refused p q)) → fault ≡ Some (p, q)
passed_on error p q fault told e = let is : error ≡ read_errors.Refused p q = cc in told p q (ap (λ (x : ReadError). Err x) is)
