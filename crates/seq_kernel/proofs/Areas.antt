-- Areas, and blocks that are alike in them.
use Rattle.std.proofs.Common.{◌≡◌, ◌⊎◌, ℕ, ◌+◌, ◌-◌, ◌<◌, ◌≤◌, Bool, true, false, ◌==◌, ◌&&◌, inl, inr, arith, refl, sym, ◌∙◌, length}
use Rattle.std.specs.Prelude.{nat_lt, nat_le}
use Rattle.std.proofs.lemmas.Bool.{cases_eq, eq-eqb, ne_eqb, and_parts, ltb-true, leb-true, lt-ltb, le-leb}
use Rattle.seq_words.specs.declared.description.MachineDesc.{MachineDesc}
use Rattle.seq_kernel.specs.Views.{Blocks}
use Rattle.seq_kernel.specs.Areas.{AreAlike, in_area}

pub alike_sym : (mask : ℕ → Bool) (o o' : Blocks) → AreAlike mask o o' → AreAlike mask o' o
alike_sym mask o o' alike = record { each = λ e n inside. sym (alike.each e n inside) }

pub alike_trans : (mask : ℕ → Bool) (o o' o'' : Blocks) → AreAlike mask o o' → AreAlike mask o' o'' → AreAlike mask o o''
alike_trans mask o o' o'' first second = record { each = λ e n inside. first.each e n inside ∙ second.each e n inside }

-- in a smaller mask they are alike too
pub alike_less : (mask less : ℕ → Bool) (o o' : Blocks) → ((e : ℕ) → less e ≡ true → mask e ≡ true) → AreAlike mask o o' → AreAlike less o o'
alike_less mask less o o' within alike = record { each = λ e n inside. alike.each e n (within e inside) }

-- an extent of an area is that of the process or of one of the segments
pub area_cases : (d : MachineDesc) (q : ℕ) (segments : ℕ → Bool) (e : ℕ) → in_area d q segments e ≡ true → (e ≡ q) ⊎ ((t : ℕ) × (t < length d.segments) × (segments t ≡ true) × (e ≡ length d.processes + t))
unfolding in_area
area_cases d q segments e inside = elim (cases_eq e q) [
  | inl same ↦ inl same
  | inr other ↦
      let rest : (nat_le (length d.processes) e && (nat_lt e (length d.processes + length d.segments) && segments (e - length d.processes))) ≡ true = rw (ne_eqb e q other) at inside in
      let parts = and_parts _ _ rest in
      let more = and_parts _ _ parts.1 in
      let from : length d.processes ≤ e = leb-true _ _ parts.0 in
      let below : e < length d.processes + length d.segments = ltb-true _ _ more.0 in
      inr (e - length d.processes, omega arith, more.1, omega arith)
]

pub process_in_area : (d : MachineDesc) (q : ℕ) (segments : ℕ → Bool) → in_area d q segments q ≡ true
unfolding in_area
process_in_area d q segments = rw (eq-eqb q q refl) refl

pub segment_in_area : (d : MachineDesc) (q : ℕ) (segments : ℕ → Bool) (t : ℕ) → q < length d.processes → t < length d.segments → segments t ≡ true → in_area d q segments (length d.processes + t) ≡ true
unfolding in_area
segment_in_area d q segments t there lt inside =
    let number : length d.processes + t - length d.processes ≡ t = omega arith in
    let other : (length d.processes + t == q) ≡ false = ne_eqb _ q (λ same. omega arith) in
    let from : nat_le (length d.processes) (length d.processes + t) ≡ true = le-leb _ _ (omega arith) in
    let below : nat_lt (length d.processes + t) (length d.processes + length d.segments) ≡ true = lt-ltb _ _ (omega arith) in
    rw (other, from, below, number, inside) refl
