-- Halves that agree are equal, and others differ.
use Rattle.std.proofs.Common.{◌≡◌, ◌≢◌, true, false, sym, ◌∙◌}
use Rattle.std.proofs.lemmas.Bool.{true≢false}
use Rattle.seq_pair.specs.declared.halves.Pair.{Pair}
use Rattle.seq_turns.specs.Causes.{agree}
use Rattle.seq_turns.proofs.Read.{agreeing_is_equal}

pub equal_halves : (pair : Pair) → agree pair ≡ true → pair.a ≡ pair.b
equal_halves pair t = (agreeing_is_equal pair).0 t

pub differing_halves : (pair : Pair) → agree pair ≡ false → pair.a ≢ pair.b
differing_halves pair f e = true≢false (sym ((agreeing_is_equal pair).1 e) ∙ f)
