-- The halves agree on a call.
use Rattle.std.proofs.Common.{◌≡◌, ℕ, ◌≤◌, true, ◌==◌, slice_index, inl, inr, arith, refl, sym, subst, eq-eqb}
use Rattle.std.proofs.lemmas.Bool.{cases_eq, and_parts, eqb-true}
use Rattle.seq_pair.specs.declared.halves.Pair.{Pair}
use Rattle.seq_kernel.specs.Calls.{same_at, agree_on_call, AgreeOnCall}

-- The halves agree where every test says so, and the other way round.
pub agree_test : (pair : Pair) → AgreeOnCall pair → agree_on_call pair ≡ true
agree_test pair is =
    let same : (i : ℕ) → 10 ≤ i → i ≤ 17 → same_at pair i ≡ true = λ i low high. eq-eqb _ _ (is.argument i low high) in
    let pc : (pair.a.pc == pair.b.pc) ≡ true = eq-eqb _ _ is.pc in
    rw (pc, same 10 (omega arith) (omega arith), same 11 (omega arith) (omega arith), same 12 (omega arith) (omega arith), same 13 (omega arith) (omega arith), same 14 (omega arith) (omega arith), same 15 (omega arith) (omega arith), same 16 (omega arith) (omega arith), same 17 (omega arith) (omega arith)) refl

pub agree_fact : (pair : Pair) → agree_on_call pair ≡ true → AgreeOnCall pair
agree_fact pair test =
    let all = and_parts (pair.a.pc == pair.b.pc) _ test in
    let s10 = and_parts (same_at pair 10) _ all.1 in
    let s11 = and_parts (same_at pair 11) _ s10.1 in
    let s12 = and_parts (same_at pair 12) _ s11.1 in
    let s13 = and_parts (same_at pair 13) _ s12.1 in
    let s14 = and_parts (same_at pair 14) _ s13.1 in
    let s15 = and_parts (same_at pair 15) _ s14.1 in
    let s16 = and_parts (same_at pair 16) _ s15.1 in
    let s17 = and_parts (same_at pair 17) _ s16.1 in
    record { pc = eqb-true _ _ all.0; argument = each s10.0 s11.0 s12.0 s13.0 s14.0 s15.0 s16.0 s17.0 }
  where
    at : (n i : ℕ) → same_at pair n ≡ true → i ≡ n → slice_index pair.a.x i ≡ slice_index pair.b.x i
    at n i is e = subst (λ k. slice_index pair.a.x k ≡ slice_index pair.b.x k) (sym e) (eqb-true _ _ is)

    each : same_at pair 10 ≡ true → same_at pair 11 ≡ true → same_at pair 12 ≡ true → same_at pair 13 ≡ true → same_at pair 14 ≡ true → same_at pair 15 ≡ true → same_at pair 16 ≡ true → same_at pair 17 ≡ true
        → (i : ℕ) → 10 ≤ i → i ≤ 17 → slice_index pair.a.x i ≡ slice_index pair.b.x i
    each s10 s11 s12 s13 s14 s15 s16 s17 i low high =
        elim (cases_eq i 10) [
          | inl e ↦ at 10 i s10 e
          | inr n10 ↦
              elim (cases_eq i 11) [
                | inl e ↦ at 11 i s11 e
                | inr n11 ↦
                    elim (cases_eq i 12) [
                      | inl e ↦ at 12 i s12 e
                      | inr n12 ↦
                          elim (cases_eq i 13) [
                            | inl e ↦ at 13 i s13 e
                            | inr n13 ↦
                                elim (cases_eq i 14) [
                                  | inl e ↦ at 14 i s14 e
                                  | inr n14 ↦
                                      elim (cases_eq i 15) [
                                        | inl e ↦ at 15 i s15 e
                                        | inr n15 ↦
                                            elim (cases_eq i 16) [ inl e ↦ at 16 i s16 e | inr n16 ↦ at 17 i s17 (omega arith) ]
                                      ]
                                ]
                          ]
                    ]
              ]
        ]
