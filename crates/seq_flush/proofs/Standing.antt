-- What stands on the copies after a unit, a status word, or all that is left is written.
use Rattle.std.proofs.Common.{ℕ, zero, suc, ◌+◌, ◌<◌, Bool, true, false, List, [], ◌∷◌, length, take, arith, sym, ap, ◌∙◌, inl, inr}
use Rattle.std.proofs.lemmas.Bool.{false≢true, cases_eq}
use Rattle.std.proofs.lemmas.List.{length-take-le, get_or-take}
use Rattle.seq_layout.specs.Places.{IsSamePart}
use Rattle.seq_layout.specs.Shapes.{Shape}
use Rattle.seq_layout.specs.Copies.{Copies}
use Rattle.seq_layout.proofs.Held.{serves_as_before}
use Rattle.seq_layout.proofs.CopiesWritten.{block_states, block_here, block_elsewhere, word_states, word_blocks}
use Rattle.seq_status.specs.declared.status.Status.{Status}
use Rattle.seq_status.specs.Words.{word_of}
use Rattle.seq_cache.specs.declared.change.Change.{Change}
use Rattle.seq_flush.specs.Turns.{no_change, unit_at, unit_written, status_written}
use Rattle.seq_flush.specs.Facts.{Stands, Stand, AreApart, all_written}

-- a unit stands once it is written
written_stands : (s : Shape) (p : Copies) (c : Bool) (u : Change) → Stands s (unit_written s p c u) c u
written_stands s p c u serving =
    block_here s p u.extent.0 u.place c u.block (serves_as_before s p (unit_written s p c u) u.extent.0 c (block_states s p u.extent.0 u.place c u.block) serving)

-- and another that stood stands still
other_stands : (s : Shape) (p : Copies) (c c' : Bool) (u v : Change) → ¬ (IsSamePart v.extent.0 v.place c' u.extent.0 u.place c) → Stands s p c u → Stands s (unit_written s p c' v) c u
other_stands s p c c' u v other stood serving =
    block_elsewhere s p v.extent.0 v.place c' v.block u.extent.0 u.place c other ∙
    stood (serves_as_before s p (unit_written s p c' v) u.extent.0 c (block_states s p v.extent.0 v.place c' v.block) serving)

-- what stands on the primaries isn't touched by the second pass
pub primaries_stand : (s : Shape) (p : Copies) (us : List Change) (v : Change) → Stand s p false us → Stand s (unit_written s p true v) false us
primaries_stand s p us v stood = record {
  each = λ k inside. other_stands s p false true (unit_at us k) v (λ same. false≢true (sym same.copy)) (stood.each k inside);
}

-- nor are blocks by a status word
pub status_keeps : (s : Shape) (p : Copies) (c : Bool) (us : List Change) (pid : ℕ) (c' : Bool) (status : Status) → Stand s p c us → Stand s (status_written s p pid c' status) c us
status_keeps s p c us pid c' status stood = record {
  each = λ k inside serving.
      ap (λ blocks. blocks (unit_at us k).extent.0 (unit_at us k).place c) (word_blocks s p pid 0 c' (word_of status)) ∙
      stood.each k inside (serves_as_before s p (status_written s p pid c' status) (unit_at us k).extent.0 c (word_states s p pid 0 c' (word_of status)) serving);
}

-- no unit stands for a start, and all do where they are no more than the number
pub none_stand : (s : Shape) (p : Copies) (c : Bool) (us : List Change) → Stand s p c (take 0 us)
none_stand s p c us = record { each = λ k inside. absurd (omega arith) }

-- with one unit more that is written, one more stands
pub one_more_stands : (s : Shape) (p : Copies) (c : Bool) (us : List Change) (k : ℕ) → AreApart us → k < length us → Stand s p c (take k us) → Stand s (unit_written s p c (unit_at us k)) c (take (k + 1) us)
one_more_stands s p c us k apart within stood = record { each = each }
  where
    -- by its number among all units
    stands : (i : ℕ) → i < k + 1 → Stands s (unit_written s p c (unit_at us k)) c (unit_at us i)
    stands i below =
        elim (cases_eq i k) [
          | inl same ↦ rw same (written_stands s p c (unit_at us k))
          | inr other ↦
              let before : Stands s p c (unit_at us i) = rw (get_or-take k us i no_change (omega arith)) at (stood.each i (omega (arith, length-take-le k us (omega arith)))) in
              other_stands s p c c (unit_at us i) (unit_at us k) (λ same. other (sym (apart.number k i within (omega arith) same.extent same.part))) before
        ]

    each : (i : ℕ) → i < length (take (k + 1) us) → Stands s (unit_written s p c (unit_at us k)) c (unit_at (take (k + 1) us) i)
    each i inside =
        let below : i < k + 1 = omega (arith, length-take-le (k + 1) us (omega arith)) in
        rw (get_or-take (k + 1) us i no_change below) (stands i below)

-- a unit that stands, and is none of those that are written, stands still
still_stands : (s : Shape) (p : Copies) (c : Bool) (us : List Change) (u : Change) → ((k : ℕ) → k < length us → ¬ (IsSamePart (unit_at us k).extent.0 (unit_at us k).place c u.extent.0 u.place c)) → Stands s p c u → Stands s (all_written s p c us) c u
unfolding all_written
still_stands s p c [] u others stood = stood
still_stands s p c (v ∷ us) u others stood =
    still_stands s (unit_written s p c v) c us u (λ k inside. others (suc k) (omega arith)) (other_stands s p c c u v (others 0 (omega arith)) stood)

-- without the first, units are apart as before
rest_apart : (u : Change) (us : List Change) → AreApart (u ∷ us) → AreApart us
rest_apart u us apart = record {
  number = λ i j first second extent place. omega (arith, apart.number (suc i) (suc j) (omega arith) (omega arith) extent place);
}

-- a list of units stands where its first does and the rest
first_and_rest : (s : Shape) (q : Copies) (c : Bool) (u : Change) (us : List Change) → Stands s q c u → Stand s q c us → Stand s q c (u ∷ us)
first_and_rest s q c u us first rest = record { each = each }
  where
    each : (k : ℕ) → k < length (u ∷ us) → Stands s q c (unit_at (u ∷ us) k)
    each zero inside = first
    each (suc k) inside = rest.each k (omega arith)

-- units that are apart stand after all are written
pub all_stand : (s : Shape) (p : Copies) (c : Bool) (us : List Change) → AreApart us → Stand s (all_written s p c us) c us
unfolding all_written
all_stand s p c [] apart = record { each = λ k inside. absurd (omega arith) }
all_stand s p c (u ∷ us) apart =
    let others = λ (k : ℕ) (within : k < length us) (same : IsSamePart (unit_at us k).extent.0 (unit_at us k).place c u.extent.0 u.place c). absurd {A = ⊥} (omega (arith, apart.number (suc k) 0 (omega arith) (omega arith) same.extent same.part)) in
    first_and_rest s (all_written s (unit_written s p c u) c us) c u us
    (still_stands s (unit_written s p c u) c us u others (written_stands s p c u))
    (all_stand s (unit_written s p c u) c us (rest_apart u us apart))
