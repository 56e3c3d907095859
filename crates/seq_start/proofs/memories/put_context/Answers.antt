use Rattle.seq_image.specs.Begun.{start_context}
use Rattle.seq_start.proofs.Begun.{context_block_at}
use Rattle.seq_start.proofs.memories.put_context.Goals as goal

pub loop-k-preserved : goal.loop-k-preserved
loop-k-preserved c =
    let is = c.loop-k.invariant.context in
    record {
      context = is;
      matches = c.put.ensures.matches;
      holds = λ o all h. c.put.ensures.holds o (context_block_at _ (start_context c.args.process.now) c.loop-k.k _ _ is c.loop-k-test.true (all c.loop-k.k c.loop-k-test.true)) (c.loop-k.invariant.holds o all h);
    }
