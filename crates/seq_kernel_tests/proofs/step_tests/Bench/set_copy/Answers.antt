use Rattle.std.proofs.Common.{ℕ, Bool}
use Rattle.seq_words.specs.declared.block.Block.{Block}
use Rattle.seq_words.specs.declared.description.MachineDesc.{MachineDesc}
use Rattle.seq_layout.specs.Shapes.{Shape}
use Rattle.seq_layout.specs.Copies.{Copies, copies, with_block, block_written}
use Rattle.seq_layout.proofs.CopiesWritten.{after_block}
use Rattle.seq_kernel.specs.Bounds.{AreReadable}
use Rattle.seq_kernel_tests.proofs.step_tests.Bench.set_copy.Goals as goal

-- a block is neither a state nor a word
changed : (d : MachineDesc) (p : Copies) (e n : ℕ) (c : Bool) (b : Block) → AreReadable d p → AreReadable d (with_block p e n c b)
unfolding with_block
changed d p e n c b r = record { served = r.served; counts = r.counts }

written : (d : MachineDesc) (s : Shape) (p : Copies) (e n : ℕ) (c : Bool) (b : Block) → AreReadable d p → AreReadable d (block_written s p e n c b)
written d s p e n c b r = after_block (AreReadable d) s p e n c b (changed d p e n c b r) r

pub invariant_of-self : goal.invariant_of-self
invariant_of-self c =
    let s = c.args.self.now in
    record {
      described = s.described;
      quantum = s.quantum;
      journal = s.journal;
      segments = s.segments;
      processes = s.processes;
      lines = s.lines;
      blocks = s.blocks;
      words = s.words;
      shape = s.shape;
      matches = c.write_block.ensures.matches;
      readable = rw c.write_block.ensures.written (written s.desc s.layout (copies s.layout s.memories) c.args.extent.0 c.args.n c.args.shadow c.args.block.now s.readable);
    }
