-- The segments that processes hold, one process after another.
use Rattle.std.proofs.Common.{◌≡◌, ℕ, suc, ◌+◌, Bool, true, false, ◌||◌, ◌==◌, if◌then◌else◌, Option, Some, None, refl, sym, ◌∙◌, ap, add-one}
use Rattle.std.specs.Prelude.{is_some}
use Rattle.std.proofs.lemmas.Nat.Bits.{bit_at-zero}
use Rattle.seq_words.specs.Masks.{has_bit}
use Rattle.seq_kernel.specs.Views.{Blocks}
use Rattle.seq_ruling.specs.Lowest.{lowest, or_else}
use Rattle.seq_lines.specs.Committed.{context_at}
use Rattle.seq_lines.specs.Going.{is_held_below, AreHeldBelow}

one_more : (o : Option ℕ) (b : Bool) (n : ℕ) → is_some (or_else o (if b then Some n else None)) ≡ (is_some o || b)
one_more (Some k) b n = refl
one_more None true n = refl
one_more None false n = refl

pub held_none : (o : Blocks) → AreHeldBelow o 0 0
unfolding is_held_below lowest
held_none o t = ap (λ n. n == 1) (bit_at-zero t)

held_next : (o : Blocks) (n t : ℕ) → is_held_below o (suc n) t ≡ (is_held_below o n t || has_bit (context_at o n).held t)
unfolding is_held_below lowest
held_next o n t = one_more (lowest (λ q. has_bit (context_at o q).held t) n) (has_bit (context_at o n).held t) n

pub held_more : (o : Blocks) (n held more : ℕ) → AreHeldBelow o n held → ((t : ℕ) → has_bit more t ≡ (has_bit held t || has_bit (context_at o n).held t)) → AreHeldBelow o (n + 1) more
held_more o n held more below next t = rw add-one (next t ∙ ap (λ b. b || has_bit (context_at o n).held t) (below t) ∙ sym (held_next o n t))
