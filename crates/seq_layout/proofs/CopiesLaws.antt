-- The laws of copies: one place changes at a time, a memory fails alone, and one failure leaves every extent served.
use Rattle.std.proofs.Common.{◌≡◌, ℕ, ◌<◌, ◌≤◌, Bool, true, false, arith, refl, inl, inr}
use Rattle.std.proofs.lemmas.Bool.{cases_Bool, eq-eqb, ne_eqb, false_from_ne_true}
use Rattle.seq_layout.specs.Places.{memory_of, IsSamePart}
use Rattle.seq_layout.specs.Shapes.{Shape}
use Rattle.seq_layout.specs.Copies.{Copies, with_block, with_word, with_state, failed, serves, IsServed, AtMostOneOut, BlockChangesAlone, WordChangesAlone, MemoryFailsAlone, StateChangesAlone, AllAreServed}
use Rattle.seq_layout.proofs.Apart.{copies_apart, memory_in}
use Rattle.seq_layout.proofs.CopiesPlaces.{is_same_part, test_of_same, same_of_test}

-- the test of two parts that are one, and of two that are not
same_test : (e n : ℕ) (c : Bool) → is_same_part e n c e n c ≡ true
same_test e n c = test_of_same e n c e n c (record { extent = refl; part = refl; copy = refl })

other_test : (e n : ℕ) (c : Bool) (e' n' : ℕ) (c' : Bool) → ¬ (IsSamePart e n c e' n' c') → is_same_part e n c e' n' c' ≡ false
other_test e n c e' n' c' differ = false_from_ne_true _ (λ h. differ (same_of_test e n c e' n' c' h))

pub block_changes_alone : BlockChangesAlone
unfolding with_block
block_changes_alone p e n c b = record {
  here = rw (same_test e n c) refl;
  elsewhere = λ e' n' c' differ. rw (other_test e n c e' n' c' differ) refl;
  words = refl;
  states = refl;
}

pub word_changes_alone : WordChangesAlone
unfolding with_word
word_changes_alone p e n c w = record {
  here = rw (same_test e n c) refl;
  elsewhere = λ e' n' c' differ. rw (other_test e n c e' n' c' differ) refl;
  blocks = refl;
  states = refl;
}

pub memory_fails_alone : MemoryFailsAlone
unfolding failed
memory_fails_alone s p k = record {
  down = rw (eq-eqb k k refl) refl;
  states = λ i other. rw (ne_eqb i k other) refl;
  blocks = λ e n c other. rw (ne_eqb _ k other) refl;
  words = λ e n c other. rw (ne_eqb _ k other) refl;
}

pub state_changes_alone : StateChangesAlone
unfolding with_state
state_changes_alone p k now = record {
  here = rw (eq-eqb k k refl) refl;
  elsewhere = λ i other. rw (ne_eqb i k other) refl;
  blocks = refl;
  words = refl;
}

-- an extent with a copy in service is served
pub served_by : (s : Shape) (p : Copies) (e : ℕ) (c : Bool) → serves s p e c ≡ true → IsServed s p e
served_by s p e false serving = rw serving serving
served_by s p e true serving =
    elim (cases_Bool (serves s p e false)) [
      | inl primary ↦ rw primary primary
      | inr out ↦ rw out serving
    ]

-- where at most one memory is out, the shadow serves if the primary does not
shadow_serves : (s : Shape) (p : Copies) → 2 ≤ s.memories → AtMostOneOut s p → (e : ℕ) → serves s p e false ≡ false → serves s p e true ≡ true
shadow_serves s p two one_out e out =
    elim (cases_Bool (serves s p e true)) [
      | inl in_service ↦ in_service
      | inr both_out ↦
          let first_in : memory_of s.memories e false < s.memories = memory_in s.memories e false (omega arith) in
          let second_in : memory_of s.memories e true < s.memories = memory_in s.memories e true (omega arith) in
          absurd (copies_apart s.memories e two (one_out (memory_of s.memories e false) (memory_of s.memories e true) first_in second_in out both_out))
    ]

pub all_are_served : AllAreServed
all_are_served s p two one_out e =
    elim (cases_Bool (serves s p e false)) [
      | inl primary ↦ served_by s p e false primary
      | inr out ↦ served_by s p e true (shadow_serves s p two one_out e out)
    ]
