use Rattle.std.proofs.Common.{◌≡◌, ◌≤◌, ℕ, ◌∙◌, length, ap, arith}
use Rattle.seq_words.specs.declared.description.MachineDesc.{MachineDesc}
use Rattle.seq_layout.specs.Copies.{copies}
use Rattle.seq_kernel_tests.proofs.CallMachines.{small_readable}
use Rattle.seq_kernel_tests.proofs.tests.new_machine.Goals as goal

none_small : (x : ℕ) → x ≡ 0 → x ≤ 32
none_small x none = omega arith

pub set_copy-requires-clause-small : goal.set_copy-requires-clause-small
set_copy-requires-clause-small c e n copy = none_small _ (c.in_ok-memories.ensures.fresh.word e n copy)

pub invariant_of-result : goal.invariant_of-result
invariant_of-result c =
    let is = c.in_ok-desc.ensures.value in
    record {
      described = c.in_ok-desc.ensures.described;
      processes = ap (λ (d : MachineDesc). d.processes) is;
      segments = ap (λ (d : MachineDesc). length d.segments) is;
      quantum = ap (λ (d : MachineDesc). d.quantum) is;
      journal = ap (λ (d : MachineDesc). d.journal) is;
      shape = c.in_ok-layout.ensures.shape;
      matches = c.set_copy-2.ensures.matches;
      readable = small_readable c.in_ok-desc.desc c.in_ok-layout.layout (copies c.in_ok-layout.layout c.in_ok-memories.memories) (copies c.in_ok-layout.layout c.set_copy-2.new.memories) c.in_ok-layout.ensures.shape c.in_ok-memories.ensures.served (c.set_copy-2.ensures.state ∙ c.set_copy.ensures.state) c.set_copy-2.ensures.small (ap (λ (d : MachineDesc). d.journal) is);
    }
