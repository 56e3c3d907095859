-- What a reader that finds the value or the first fault answers.
use Rattle.std.proofs.Common.{◌≡◌, ℕ, ◌⊎◌, inl, inr, Option, Some, None, Result, Ok, Err, refl, sym, ap, ◌∙◌}
use Rattle.std.specs.Prelude.{IfOk, OnOk}
use Rattle.seq_words.specs.declared.events.ReadError.{ReadError}
use Rattle.seq_words.specs.declared.events.ReadError.TheVariants as read_errors

pub is_read : {V : Type 0} (r : Result V ReadError) (v : V) (fault : Option (ℕ × ℕ)) → IfOk r (λ x. x ≡ v) → ((place rule : ℕ) → r ≡ Err (read_errors.Refused place rule) → fault ≡ Some (place, rule)) → fault ≡ None → (r ≡ Ok v) ⊎ (r ≡ Err read_errors.NoMemory)
is_read (Ok x) v fault value refused none = inl (ap (λ x. Ok x) value)
is_read (Err (read_errors.Refused place rule)) v fault value refused none = let some = refused place rule refl in absurd cc
is_read (Err read_errors.NoMemory) v fault value refused none = inr refl

pub is_refused : {V : Type 0} (r : Result V ReadError) (fault : Option (ℕ × ℕ)) (place rule : ℕ) → OnOk r (fault ≡ None) → ((place rule : ℕ) → r ≡ Err (read_errors.Refused place rule) → fault ≡ Some (place, rule)) → fault ≡ Some (place, rule) → (r ≡ Err (read_errors.Refused place rule)) ⊎ (r ≡ Err read_errors.NoMemory)
is_refused (Ok x) fault place rule none refused some = let n : fault ≡ None = none in absurd cc
is_refused (Err (read_errors.Refused p q)) fault place rule none refused some =
    let same : ◌≡◌ {A = Option (ℕ × ℕ)} (Some (p, q)) (Some (place, rule)) = sym (refused p q refl) ∙ some in
    let pair : ◌≡◌ {A = ℕ × ℕ} (p, q) (place, rule) = cc in
    inl (ap (λ (x : ℕ × ℕ). Err (read_errors.Refused x.0 x.1)) pair)
is_refused (Err read_errors.NoMemory) fault place rule none refused some = inr refl

-- a refusal of a line is that of the text
pub refused_here : {V : Type 0} (error : ReadError) (here place rule : ℕ) (line : Option ℕ) (fault : Option (ℕ × ℕ)) → ((at r : ℕ) → error ≡ read_errors.Refused at r → (at ≡ here) × (line ≡ Some r)) → ((r : ℕ) → line ≡ Some r → fault ≡ Some (here, r)) → ◌≡◌ {A = Result V ReadError} (Err error) (Err (read_errors.Refused place rule)) → fault ≡ Some (place, rule)
refused_here error here place rule line fault told stops e =
    let is : error ≡ read_errors.Refused place rule = cc in
    let at = told place rule is in
    stops rule at.1 ∙ ap (λ p. Some (p, rule)) (sym at.0)
