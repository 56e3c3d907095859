use Rattle.std.proofs.Common.{◌≡◌, ℕ, zero, suc, ◌<◌, List, [], ◌∷◌, get_or, arith, refl, ap, ◌∙◌}
use Rattle.seq_words.specs.declared.block.Block.{Block}
use Rattle.seq_layout.specs.Places.{IsPlace}
use Rattle.seq_layout.specs.Shapes.{Shape}
use Rattle.seq_cache.specs.declared.change.Change.{Change}
use Rattle.seq_cache.specs.Changes.{Changes, change, put}
use Rattle.seq_flush.specs.Units.{IsBeside, HavePlaces}
use Rattle.seq_flush.proofs.tests.three_changes.Goals as goal

abbrev three : Block → Block → Block → List Change
three a b c = change 0 8 c ∷ change 0 9 b ∷ change 2 0 a ∷ []

put_three : (a b c : Block) → put 0 8 c (put 0 9 b (put 2 0 a [])) ≡ three a b c
unfolding put
put_three a b c = refl

have_places : (s : Shape) (a b c : Block) → s.blocks ≡ 10 ∷ 1 ∷ 1 ∷ [] → s.words ≡ 1 ∷ 1 ∷ 1 ∷ [] → HavePlaces s 0 (three a b c)
have_places s a b c blocks words = record {
  context = λ k few. rw blocks (record { extent_in = omega arith; part_in = omega arith });
  status = rw words (record { extent_in = omega arith; part_in = omega arith });
  changed = changed;
}
  where
    place : (e n : ℕ) → IsPlace (10 ∷ 1 ∷ 1 ∷ []) e n → IsPlace s.blocks e n
    place e n inside = rw blocks inside

    changed : (k : ℕ) (none : Change) → k < 3 → IsBeside s 0 (get_or (three a b c) k none)
    changed zero none within = record { place = place 0 8 (record { extent_in = omega arith; part_in = omega arith }); beside = λ here. omega arith }
    changed (suc zero) none within = record { place = place 0 9 (record { extent_in = omega arith; part_in = omega arith }); beside = λ here. omega arith }
    changed (suc (suc zero)) none within = record { place = place 2 0 (record { extent_in = omega arith; part_in = omega arith }); beside = λ here. absurd (omega arith) }
    changed (suc (suc (suc k))) none within = absurd (omega arith)

pub returns : goal.returns
returns c s blocks words =
    let first = c.in_ok-write.ensures in
    let second = c.in_ok-write-2.ensures in
    let third = c.in_ok-write-3.ensures in
    let all : c.write-3.new.cache.changes ≡ three first.0 second.0 third.0 =
    third.1 ∙ ap (put 0 8 third.0) (second.1 ∙ ap (put 0 9 second.0) (first.1 ∙ ap (λ (k : Changes). put 2 0 first.0 k.changes) c.in_ok-cache.ensures)) ∙ put_three first.0 second.0 third.0 in
    rw all (have_places s first.0 second.0 third.0 blocks words)
