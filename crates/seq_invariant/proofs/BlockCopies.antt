-- What a change of one copy of a block, or of a word, leaves of what copies hold.
use Rattle.std.proofs.Common.{◌≡◌, ◌≢◌, ℕ, ◌+◌, ◌<◌, Bool, true, false, if◌then◌else◌, List, [], drop, length, refl, sym, ap, ◌∙◌, arith}
use Rattle.std.proofs.lemmas.Bool.{cond_both, and_parts, false≢true}
use Rattle.std.proofs.lemmas.List.{at_drop_more, get_or-drop}
use Rattle.std.proofs.Common.{length-drop}
use Rattle.seq_words.specs.declared.block.Block.{Block}
use Rattle.seq_words.specs.declared.description.MachineDesc.{MachineDesc}
use Rattle.seq_layout.specs.Shapes.{Shape, shape_of}
use Rattle.std.proofs.lemmas.Bool.{eqb-true}
use Rattle.std.proofs.Common.{◌&&◌, ◌==◌}
use Rattle.seq_layout.specs.Copies.{same_copy}
use Rattle.seq_layout.specs.Copies.{Copies, serves, with_block, block_written}
use Rattle.seq_layout.proofs.CopiesWritten.{block_states, block_elsewhere}
use Rattle.seq_cache.specs.declared.change.Change.{Change}
use Rattle.seq_flush.specs.Turns.{no_change, unit_at, unit_written}
use Rattle.seq_flush.specs.Facts.{AreApart, Avoid, all_written}
use Rattle.seq_layout.proofs.Held.{serves_as_before}
use Rattle.seq_kernel.specs.Views.{Blocks}
use Rattle.seq_image.specs.Areas.{AreAlike, served_in, CopyHolds}
use Rattle.seq_image.specs.Flushing.{KeepsCopies}
use Rattle.seq_turns.specs.Functions.{update_copy}
use Rattle.seq_turns.specs.Machines.{copies_after}
use Rattle.seq_io.specs.Changes.Change.{Unchanged, To_block, To_word}
use Rattle.seq_turns.specs.Reading.{write_word, write_block}

-- a block that is written where its copy is in service
pub written_is : (d : MachineDesc) (p : Copies) (e n : ℕ) (c : Bool) (b : Block) → copies_after (write_block d p e n c b) p ≡ block_written (shape_of d) p e n c b
unfolding update_copy with_block block_written
written_is d p e n c b = go (serves (shape_of d) p e c)
  where
    go : (t : Bool) → copies_after (if t then To_block e n c b else Unchanged) p ≡ (if t then with_block p e n c b else p)
    go true = refl
    go false = refl

-- the first of what is left is written, and then the others
pub left_less : (s : Shape) (p : Copies) (c : Bool) (us : List Change) (k : ℕ) → k < length us → all_written s p c (drop k us) ≡ all_written s (unit_written s p c (unit_at us k)) c (drop (k + 1) us)
unfolding all_written
left_less s p c us k inside = at_drop_more (all_written s p c) us k no_change inside

pub all_none : (s : Shape) (p : Copies) (c : Bool) → all_written s p c [] ≡ p
unfolding all_written
all_none s p c = refl

-- what is left is apart, and avoids what all of it avoids
pub apart_drop : (us : List Change) (k : ℕ) → AreApart us → AreApart (drop k us)
apart_drop us k apart = record {
  number = λ i j li lj extent place.
      let ei = get_or-drop k us i no_change in
      let ej = get_or-drop k us j no_change in
      let same : k + i ≡ k + j = apart.number (k + i) (k + j) (omega (arith, li, length-drop k us)) (omega (arith, lj, length-drop k us))
      (ap (λ u. u.extent.0) (sym ei) ∙ extent ∙ ap (λ u. u.extent.0) ej) (ap (λ u. u.place) (sym ei) ∙ place ∙ ap (λ u. u.place) ej) in
      omega (arith, same);
}

pub avoid_drop : (us : List Change) (k e : ℕ) → Avoid us e → Avoid (drop k us) e
avoid_drop us k e avoid = record {
  each = λ i li same. avoid.each (k + i) (omega (arith, li, length-drop k us)) (ap (λ u. u.extent.0) (sym (get_or-drop k us i no_change)) ∙ same);
}

-- a copy of a block that may be changed
pub either_block : (P : Block → Type 0) (f : ℕ → ℕ → Bool → Block) (e n : ℕ) (c : Bool) (b : Block) (e' n' : ℕ) (c' : Bool) → ((e' ≡ e) × (n' ≡ n) → P b) → P (f e' n' c') → P (update_copy f e n c b e' n' c')
unfolding update_copy
either_block P f e n c b e' n' c' here other = cond_both ((e' == e && n' == n) && same_copy c' c) b (f e' n' c') P
    (λ t.
    let parts = and_parts (e' == e) (n' == n) (and_parts (e' == e && n' == n) (same_copy c' c) t).0 in
    here (eqb-true e' e parts.0, eqb-true n' n parts.1))
    (λ _. other)

-- the same states and blocks
pub record SameBlocks (p q : Copies) : Type 0 where
  pub states : q.state ≡ p.state
  pub blocks : q.block ≡ p.block

pub word_same : (d : MachineDesc) (p : Copies) (e n : ℕ) (c : Bool) (w : ℕ) → SameBlocks p (copies_after (write_word d p e n c w) p)
word_same d p e n c w = cond_both (serves (shape_of d) p e c) (To_word e n c w) Unchanged (λ change. SameBlocks p (copies_after change p))
    (λ _. record { states = refl; blocks = refl }) (λ _. record { states = refl; blocks = refl })

pub none_same : (p : Copies) → SameBlocks p (copies_after Unchanged p)
none_same p = record { states = refl; blocks = refl }

module _ (s : Shape) (p : Copies) where
  pub same_keeps : (q : Copies) (shadow : Bool) (area : ℕ → Bool) → SameBlocks p q → KeepsCopies s p q shadow area
  same_keeps q shadow area same = record {
    served = λ e inside serving. serves_as_before s p q e shadow same.states serving;
    block = λ e n inside serving. ap (λ blocks. blocks e n shadow) same.blocks;
  }

  -- a block written to a copy of the other kind, or to another extent
  pub other_kind : (e n : ℕ) (c : Bool) (b : Block) (shadow : Bool) (area : ℕ → Bool) → shadow ≢ c → KeepsCopies s p (block_written s p e n c b) shadow area
  other_kind e n c b shadow area ne = record {
    served = λ e' inside serving. serves_as_before s p (block_written s p e n c b) e' shadow (block_states s p e n c b) serving;
    block = λ e' n' inside serving. block_elsewhere s p e n c b e' n' shadow (λ same. ne (sym same.copy));
  }

  pub other_extent : (e n : ℕ) (c : Bool) (b : Block) (shadow : Bool) (area : ℕ → Bool) → area e ≡ false → KeepsCopies s p (block_written s p e n c b) shadow area
  other_extent e n c b shadow area out = record {
    served = λ e' inside serving. serves_as_before s p (block_written s p e n c b) e' shadow (block_states s p e n c b) serving;
    block = λ e' n' inside serving. block_elsewhere s p e n c b e' n' shadow (λ same. false≢true (sym out ∙ ap area same.extent ∙ inside));
  }

-- what copies hold, they hold while they are kept
pub holds_kept : (s : Shape) (before now : Copies) (shadow : Bool) (area : ℕ → Bool) (o : Blocks) → KeepsCopies s before now shadow area → CopyHolds s before shadow area o → CopyHolds s now shadow area o
holds_kept s before now shadow area o kept held = record {
  each = λ e n inside.
      let parts = and_parts (area e) (serves s now e shadow) inside in
      let both : served_in s before shadow area e ≡ true = rw (parts.0, kept.served e parts.0 parts.1) refl in
      kept.block e n parts.0 parts.1 ∙ held.each e n both;
}

-- and other blocks that are alike in the area
pub holds_alike : (s : Shape) (p : Copies) (shadow : Bool) (area : ℕ → Bool) (o o' : Blocks) → AreAlike area o o' → CopyHolds s p shadow area o → CopyHolds s p shadow area o'
holds_alike s p shadow area o o' alike held = record { each = λ e n inside. held.each e n inside ∙ alike.each e n (and_parts (area e) (serves s p e shadow) inside).0 }

pub holds_less : (s : Shape) (p : Copies) (shadow : Bool) (area less : ℕ → Bool) (o : Blocks) → ((e : ℕ) → less e ≡ true → area e ≡ true) → CopyHolds s p shadow area o → CopyHolds s p shadow less o
holds_less s p shadow area less o within held = record {
  each = λ e n inside.
      let parts = and_parts (less e) (serves s p e shadow) inside in
      let both : served_in s p shadow area e ≡ true = rw (within e parts.0, parts.1) refl in
      held.each e n both;
}
