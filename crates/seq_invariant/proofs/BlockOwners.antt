-- A context says of its process's segments what the owners say.
use Rattle.std.proofs.Common.{◌≡◌, ◌⊎◌, ℕ, suc, ◌==◌, Option, Some, None, inl, inr, sym, ap, ◌∙◌, arith, eq-eqb}
use Rattle.std.proofs.lemmas.Bool.{cases_eq, ne_eqb}
use Rattle.seq_words.specs.Masks.{has_bit}
use Rattle.seq_words.specs.declared.names.Pid.{Pid}
use Rattle.seq_flat.specs.State.{segment_at}
use Rattle.seq_flat.specs.Memory.{is_owner}
use Rattle.seq_image.proofs.HeldMasks.{held_bit}
use Rattle.seq_invariant.specs.BlockApart.{number_of, ContextsOwn}
use Rattle.seq_invariant.proofs.BlockClaims.{context_read_is}

owner_is : (q : ℕ) (o : Option Pid) → is_owner q o ≡ (number_of o == suc q)
owner_is q None = sym (ne_eqb 0 (suc q) (λ e. let c : ⊥ = omega (arith, e) in c))
owner_is q (Some p) = go (cases_eq p.0 q)
  where
    go : (p.0 ≡ q) ⊎ (p.0 ≡ q → ⊥) → (p.0 == q) ≡ (suc p.0 == suc q)
    go (inl e) = eq-eqb p.0 q e ∙ sym (eq-eqb (suc p.0) (suc q) (ap suc e))
    go (inr ne) = ne_eqb p.0 q ne ∙ sym (ne_eqb (suc p.0) (suc q) (λ e. ne (let x : p.0 ≡ q = omega (arith, e) in x)))

pub contexts_own : ContextsOwn
contexts_own d at p q described reached can = record {
  owns = λ t lt.
      ap (λ c. has_bit c.held t) (context_read_is d described at p q reached can.inside can.whole can.served can.both)
      ∙ held_bit q at.state.segments t ∙ owner_is q (segment_at at.state t).owner;
}
