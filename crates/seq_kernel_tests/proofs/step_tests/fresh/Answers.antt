use Rattle.std.proofs.Common.{◌≡◌, ◌≤◌, ℕ, Bool, true, arith}
use Rattle.seq_words.specs.declared.description.MachineDesc.{MachineDesc}
use Rattle.seq_layout.specs.Shapes.{Shape, shape_of}
use Rattle.seq_layout.specs.Copies.{Copies, serves}
use Rattle.seq_kernel.specs.Bounds.{AreReadable}
use Rattle.seq_kernel_tests.proofs.step_tests.fresh.Goals as goal

at_most : (x most : ℕ) → x ≡ 0 → x ≤ most
at_most x most none = omega arith

readable : (d : MachineDesc) (s : Shape) (p : Copies) → s ≡ shape_of d → ((e : ℕ) (c : Bool) → serves s p e c ≡ true) → ((e n : ℕ) (c : Bool) → p.word e n c ≡ 0) → AreReadable d p
readable d s p shape serving none = record {
  served = λ e. (rw shape at serving) e _;
  counts = λ l. at_most _ d.journal (none _ 0 _);
}

pub returns-clause-readable : goal.returns-clause-readable
returns-clause-readable c = readable c.args.desc.now c.args.layout.now _ c.requires c.in_ok-memories.ensures.served c.in_ok-memories.ensures.fresh.word
