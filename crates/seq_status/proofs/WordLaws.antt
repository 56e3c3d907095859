-- Statuses and their words.
use Rattle.std.proofs.Common.{◌≡◌, ◌≢◌, ℕ, zero, suc, ◌+◌, ◌*◌, ◌/◌, ◌%◌, ◌^◌, ◌<◌, ◌≤◌, Option, Some, None, arith, refl, sym, ap, ◌∙◌, subst, inl, inr, eq-eqb}
use Rattle.std.specs.Prelude.{IsSome, nat_eq}
use Rattle.std.proofs.lemmas.Bool.{false≢true, cases_eq, cases_lt, ne_eqb, cond-true, cond-false}
use Rattle.seq_status.specs.declared.status.Holder.{Holder}
use Rattle.seq_status.specs.declared.status.Status.{Status}
use Rattle.seq_status.specs.declared.status.Status.TheVariants.{Idle, Run, Pass1, Pass2, Back, Forward}
use Rattle.seq_status.specs.Words.{held_word, word_of, holder_in, status_with, status_of, IsStatus, IsStatusWord, NamesProcessor, StatusesAreReadBack, StatusesHaveTheFormat, WordsAreWrittenBack, WordsOfTheFormatAreRead, HeldIsNotZero, StatusesFit}

-- the word of a kind and a holder is read as they are
held_back : (kind : ℕ) (h : Holder) → 0 < kind → kind < 256 → h.pe.0 < 256 → status_of (held_word kind h) ≡ status_with kind h
held_back kind h some few pe =
    let kind_is : held_word kind h % 256 ≡ kind = omega arith in
    let pe_is : held_word kind h / 256 % 256 ≡ h.pe.0 = omega arith in
    let incarnation_is : held_word kind h / 65536 ≡ h.incarnation = omega arith in
    let taken : held_word kind h ≢ 0 = λ none. let c : ⊥ = omega (arith, none) in c in
    cond-false _ _ _ (ne_eqb (held_word kind h) 0 taken)
    ∙ (λ i. status_with (kind_is i) (record { pe = record { 0 = pe_is i }; incarnation = incarnation_is i }))

pub statuses_are_read_back : StatusesAreReadBack
statuses_are_read_back Idle named = refl
statuses_are_read_back (Run h) named = held_back 1 h (omega arith) (omega arith) (omega (arith, named))
statuses_are_read_back (Pass1 h) named = held_back 2 h (omega arith) (omega arith) (omega (arith, named))
statuses_are_read_back (Pass2 h) named = held_back 3 h (omega arith) (omega arith) (omega (arith, named))
statuses_are_read_back (Back h) named = held_back 4 h (omega arith) (omega arith) (omega (arith, named))
statuses_are_read_back (Forward h) named = held_back 5 h (omega arith) (omega arith) (omega (arith, named))

held_inside : (kind : ℕ) (h : Holder) → 0 < kind → kind ≤ 5 → IsStatusWord (held_word kind h)
held_inside kind h some few =
    let kind_is : held_word kind h % 256 ≡ kind = omega arith in
    record { kind = omega (arith, kind_is); idle = λ none. absurd (let c : ⊥ = omega (arith, kind_is, none) in c) }

pub statuses_have_the_format : StatusesHaveTheFormat
statuses_have_the_format Idle named = record { kind = omega arith; idle = λ _. refl }
statuses_have_the_format (Run h) named = held_inside 1 h (omega arith) (omega arith)
statuses_have_the_format (Pass1 h) named = held_inside 2 h (omega arith) (omega arith)
statuses_have_the_format (Pass2 h) named = held_inside 3 h (omega arith) (omega arith)
statuses_have_the_format (Back h) named = held_inside 4 h (omega arith) (omega arith)
statuses_have_the_format (Forward h) named = held_inside 5 h (omega arith) (omega arith)

-- a kind above the last is no status
unknown : (k : ℕ) (h : Holder) → 6 ≤ k → status_with k h ≡ None
unknown k h above =
    cond-false _ _ _ (ne_eqb k 1 (λ e. let c : ⊥ = omega (arith, e) in c))
    ∙ cond-false _ _ _ (ne_eqb k 2 (λ e. let c : ⊥ = omega (arith, e) in c))
    ∙ cond-false _ _ _ (ne_eqb k 3 (λ e. let c : ⊥ = omega (arith, e) in c))
    ∙ cond-false _ _ _ (ne_eqb k 4 (λ e. let c : ⊥ = omega (arith, e) in c))
    ∙ cond-false _ _ _ (ne_eqb k 5 (λ e. let c : ⊥ = omega (arith, e) in c))

-- a word that isn't 0, by its kind
module _ (w : ℕ) (s : Status) where
  held_from : (k : ℕ) (t : Status) → word_of t ≡ k + 256 * (w / 256 % 256) + 65536 * (w / 65536) → k ≡ w % 256 → Some t ≡ Some s → word_of s ≡ w
  held_from k t word kind same =
      let is : t ≡ s = cc in
      subst (λ x. word_of x ≡ w) is (word ∙ omega (arith, kind))

  by_kind : (k : ℕ) → k ≡ w % 256 → status_with k (holder_in w) ≡ Some s → word_of s ≡ w
  by_kind zero kind same = absurd (let c : ⊥ = cc in c)
  by_kind (suc zero) kind same = held_from 1 (Run (holder_in w)) refl kind same
  by_kind (suc (suc zero)) kind same = held_from 2 (Pass1 (holder_in w)) refl kind same
  by_kind (suc (suc (suc zero))) kind same = held_from 3 (Pass2 (holder_in w)) refl kind same
  by_kind (suc (suc (suc (suc zero)))) kind same = held_from 4 (Back (holder_in w)) refl kind same
  by_kind (suc (suc (suc (suc (suc zero))))) kind same = held_from 5 (Forward (holder_in w)) refl kind same
  by_kind (suc (suc (suc (suc (suc (suc k)))))) kind same =
      let none : None ≡ Some s = sym (unknown (suc (suc (suc (suc (suc (suc k)))))) (holder_in w) (omega arith)) ∙ same in
      absurd (let c : ⊥ = cc in c)

pub words_are_written_back : WordsAreWrittenBack
words_are_written_back w s same = elim (cases_eq w 0) [
  | inl zero_word ↦
      let idle : Some Idle ≡ Some s = sym (cond-true _ _ _ (eq-eqb w 0 zero_word)) ∙ same in
      let is : Idle ≡ s = cc in
      subst (λ x. word_of x ≡ w) is (sym zero_word)
  | inr taken ↦ by_kind w s (w % 256) refl (sym (cond-false _ _ _ (ne_eqb w 0 taken)) ∙ same)
]

abbrev Found : Option Status → Type 0
Found o = IsSome o

some_kind : (k : ℕ) (h : Holder) → 0 < k → k ≤ 5 → IsSome (status_with k h)
some_kind zero h some few = absurd (let c : ⊥ = omega (arith, some) in c)
some_kind (suc zero) h some few = refl
some_kind (suc (suc zero)) h some few = refl
some_kind (suc (suc (suc zero))) h some few = refl
some_kind (suc (suc (suc (suc zero)))) h some few = refl
some_kind (suc (suc (suc (suc (suc zero))))) h some few = refl
some_kind (suc (suc (suc (suc (suc (suc k)))))) h some few = absurd (let c : ⊥ = omega (arith, few) in c)

format_kind : (k : ℕ) (h : Holder) → IsSome (status_with k h) → (0 < k) × (k ≤ 5)
format_kind zero h some = absurd (false≢true some)
format_kind (suc k) h some = elim (cases_lt 5 (suc k)) [
  | inl above ↦ absurd (false≢true (subst Found (unknown (suc k) h (omega arith)) some))
  | inr few ↦ (omega arith, few)
]

format_from : (w : ℕ) → IsSome (status_of w) → IsStatusWord w
format_from w some = elim (cases_eq w 0) [
  | inl zero_word ↦ record { kind = omega (arith, zero_word); idle = λ _. zero_word }
  | inr taken ↦
      let kinds : (0 < w % 256) × (w % 256 ≤ 5) = format_kind (w % 256) (holder_in w) (subst Found (cond-false (nat_eq w 0) (Some Idle) (status_with (w % 256) (holder_in w)) (ne_eqb w 0 taken)) some) in
      record { kind = kinds.1; idle = λ none. absurd (let c : ⊥ = omega (arith, kinds.0, none) in c) }
]

read_from : (w : ℕ) → IsStatusWord w → IsSome (status_of w)
read_from w is = elim (cases_eq w 0) [
  | inl zero_word ↦ subst Found (sym (cond-true (nat_eq w 0) (Some Idle) (status_with (w % 256) (holder_in w)) (eq-eqb w 0 zero_word))) refl
  | inr taken ↦
      let some : 0 < w % 256 = let kind : w % 256 ≢ 0 = λ none. taken (is.idle none) in omega (arith, kind) in
      subst Found (sym (cond-false (nat_eq w 0) (Some Idle) (status_with (w % 256) (holder_in w)) (ne_eqb w 0 taken))) (some_kind (w % 256) (holder_in w) some is.kind)
]

pub words_of_the_format_are_read : WordsOfTheFormatAreRead
words_of_the_format_are_read w = (format_from w, read_from w)

pub held_is_not_zero : HeldIsNotZero
held_is_not_zero Idle held none = held refl
held_is_not_zero (Run h) held none = omega (arith, none)
held_is_not_zero (Pass1 h) held none = omega (arith, none)
held_is_not_zero (Pass2 h) held none = omega (arith, none)
held_is_not_zero (Back h) held none = omega (arith, none)
held_is_not_zero (Forward h) held none = omega (arith, none)

pub statuses_fit : StatusesFit
statuses_fit Idle named is = omega arith
statuses_fit (Run h) named is = omega (arith, named, is)
statuses_fit (Pass1 h) named is = omega (arith, named, is)
statuses_fit (Pass2 h) named is = omega (arith, named, is)
statuses_fit (Back h) named is = omega (arith, named, is)
statuses_fit (Forward h) named is = omega (arith, named, is)
