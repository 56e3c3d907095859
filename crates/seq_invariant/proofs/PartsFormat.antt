-- Both copies of a status word have the format, and name whom they may.
use Rattle.std.proofs.Common.{◌≡◌, ℕ, ◌%◌, ◌≤◌, ◌==◌, Option, Some, None, unwrap_or, ap, sym, ◌∙◌, subst}
use Rattle.std.proofs.lemmas.Bool.{cond_both, cond-true, eq-eqb}
use Rattle.seq_words.specs.declared.description.MachineDesc.{MachineDesc}
use Rattle.seq_status.specs.declared.status.Holder.{Holder}
use Rattle.seq_status.specs.declared.status.Status.{Status}
use Rattle.seq_status.specs.declared.status.Status.TheVariants.{Idle}
use Rattle.seq_status.specs.Words.{holder_in, status_with, status_of}
use Rattle.seq_ruling.specs.Ruling.{status_in}
use Rattle.seq_turns.specs.Machines.{Machine}
use Rattle.seq_stands.specs.Plain.{IsInTime}
use Rattle.seq_invariant.specs.Parts.{named_by, StatusWordsHaveFormatAlways}

-- whom a word names is the holder in it
abbrev Names : Holder → Option Status → Type 0
Names x s = (h : Holder) → named_by (unwrap_or s Idle) ≡ Some h → x ≡ h

some_is : {a b : Holder} → Some a ≡ Some b → a ≡ b
some_is e = cc

none_named : (x : Holder) → Names x None
none_named x h e = absurd (let c : ⊥ = cc in c)

with_named : (kind : ℕ) (x : Holder) → Names x (status_with kind x)
with_named kind x =
    cond_both (kind == 1) _ _ (Names x) (λ _ h e. some_is e) (λ _.
    cond_both (kind == 2) _ _ (Names x) (λ _ h e. some_is e) (λ _.
    cond_both (kind == 3) _ _ (Names x) (λ _ h e. some_is e) (λ _.
    cond_both (kind == 4) _ _ (Names x) (λ _ h e. some_is e) (λ _.
    cond_both (kind == 5) _ _ (Names x) (λ _ h e. some_is e) (λ _. none_named x)))))

word_named : (w : ℕ) → Names (holder_in w) (status_of w)
word_named w = cond_both (w == 0) (Some Idle) (status_with (w % 256) (holder_in w)) (Names (holder_in w)) (λ _ h e. absurd (let c : ⊥ = cc in c)) (λ _. with_named (w % 256) (holder_in w))

named_in_time : (d : MachineDesc) (m : Machine) (w : ℕ) (h : Holder) → IsInTime d m w → named_by (status_in w) ≡ Some h → h.incarnation ≤ m.incarnation h.pe.0
named_in_time d m w h is e = subst (λ (x : Holder). x.incarnation ≤ m.incarnation x.pe.0) (word_named w h e) (is.named (λ zero. names_none zero))
  where
    names_none : w ≡ 0 → ⊥
    names_none zero =
        let free : status_in w ≡ Idle = ap (λ (o : Option Status). unwrap_or o Idle) (cond-true (w == 0) (Some Idle) (status_with (w % 256) (holder_in w)) (eq-eqb w 0 zero)) in
        let none : None ≡ Some h = sym (ap named_by free) ∙ e in
        let c : ⊥ = cc in c

pub status_words_have_format : StatusWordsHaveFormatAlways
status_words_have_format d events m st = record {
  format = λ q c there. (st.fit.words.status q c there).format;
  named = λ q c there. (st.fit.words.status q c there).named;
  in_time = λ q c h there named. named_in_time d m (m.copies.word q 0 c) h (st.in_time.each q c there) named;
}
