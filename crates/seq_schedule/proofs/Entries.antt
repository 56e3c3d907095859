-- A table whose entries are changed one after the other.
use Rattle.std.proofs.Common.{◌≡◌, ℕ, ◌+◌, ◌<◌, ◌≤◌, List, length, get_or, set, inl, inr, refl, sym, ap, ◌∙◌, arith, length-set}
use Rattle.std.proofs.Math.ListN.{get_or-eq_default}
use Rattle.std.proofs.lemmas.List.{get_or-set_same, get_or-set_other}
use Rattle.std.proofs.lemmas.Bool.{cases_eq, cases_lt}
use Rattle.seq_schedule.specs.declared.known.Known.{Known}
use Rattle.seq_schedule.specs.Known.{fresh}

-- the entries below a number are changed, and the others are as they were
pub record AreChanged (f : Known → Known) (old now : List Known) (at : ℕ) : Type 0 where
  pub length_same : length now ≡ length old
  pub changed : (k : ℕ) → k < at → get_or now k fresh ≡ f (get_or old k fresh)
  pub others : (k : ℕ) → at ≤ k → get_or now k fresh ≡ get_or old k fresh

pub none_changed : (f : Known → Known) (old : List Known) → AreChanged f old old 0
none_changed f old = record { length_same = refl; changed = λ k lt. absurd (let no : ⊥ = omega (arith, lt) in no); others = λ k le. refl }

pub one_changed : (f : Known → Known) (old now : List Known) (at : ℕ) (v : Known) → at < length now → AreChanged f old now at → v ≡ f (get_or now at fresh) → AreChanged f old (set now at v) (at + 1)
one_changed f old now at v inside so_far is = record {
  length_same = rw length-set so_far.length_same;
  changed = λ k lt. elim (cases_eq k at) [
    | inl same ↦ (λ i. get_or (set now at v) (same i) fresh) ∙ get_or-set_same now at v fresh inside ∙ is ∙ ap f (so_far.others at (omega arith)) ∙ ap (λ j. f (get_or old j fresh)) (sym same)
    | inr other ↦ get_or-set_other now at k v fresh other ∙ so_far.changed k (omega (arith, lt, other))
  ];
  others = λ k le. get_or-set_other now at k v fresh (λ same. let no : ⊥ = omega (arith, le, same) in no) ∙ so_far.others k (omega (arith, le));
}

-- past the end stands what isn't known
pub all_changed : (f : Known → Known) (old now : List Known) (at : ℕ) → f fresh ≡ fresh → length old ≤ at → AreChanged f old now at → (k : ℕ) → get_or now k fresh ≡ f (get_or old k fresh)
all_changed f old now at none past are k = elim (cases_lt k at) [
  | inl lt ↦ are.changed k lt
  | inr le ↦ are.others k le ∙ get_or-eq_default old fresh (omega (arith, le, past)) ∙ sym none ∙ ap f (sym (get_or-eq_default old fresh (omega (arith, le, past))))
]
