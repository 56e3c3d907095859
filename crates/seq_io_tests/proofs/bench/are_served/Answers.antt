use Rattle.std.proofs.Common.{◌≡◌, ℕ, ◌+◌, ◌%◌, ◌<◌, Bool, true, false, not, sym, ap, subst, ◌∙◌, arith, inl, inr}
use Rattle.std.proofs.Math.Nat.{mod-mod, mod-add-mod}
use Rattle.std.proofs.lemmas.Bool.{cases_eq}
use Rattle.seq_memory.specs.States.{is_in_service}
use Rattle.seq_layout.specs.Shapes.{Shape}
use Rattle.seq_layout.specs.Copies.{Copies, serves, IsServed, copies}
use Rattle.seq_io_tests.proofs.bench.are_served.Goals as goal

-- the copies of an extent stand where those of its remainder do
same : (s : Shape) (p : Copies) (e : ℕ) (c : Bool) → serves s p (e % s.memories) c ≡ serves s p e c
same s p e false = ap (λ (k : ℕ). is_in_service (p.state k)) (mod-mod e s.memories)
same s p e true = ap (λ (k : ℕ). is_in_service (p.state k)) (mod-add-mod e s.memories 1)

served : (s : Shape) (p : Copies) (e : ℕ) → IsServed s p (e % s.memories) → IsServed s p e
served s p e is =
    let first : not (serves s p (e % s.memories) false) ≡ not (serves s p e false) = ap not (same s p e false) in
    let here : serves s p e (not (serves s p (e % s.memories) false)) ≡ true = sym (same s p e (not (serves s p (e % s.memories) false))) ∙ is in
    subst (λ (c : Bool). serves s p e c ≡ true) first here

pub loop-memory-preserved : goal.loop-memory-preserved
loop-memory-preserved c = λ e lt. elim (cases_eq e c.loop-memory.memory) [
  | inl here ↦ rw here (c.is_served.ensures c.if-not-is_served.false)
  | inr other ↦ c.loop-memory.invariant e (omega arith)
]

pub returns : goal.returns
returns c = λ yes e. served c.args.layout.now (copies c.args.layout.now c.args.memories.now) e (c.loop-memory.invariant _ (omega arith))
