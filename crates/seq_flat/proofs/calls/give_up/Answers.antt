use Rattle.std.proofs.Common.{ap, sym, ◌∙◌, arith, length-set}
use Rattle.std.proofs.lemmas.Option.{get_or_from_slice_get}
use Rattle.seq_flat.specs.State.{no_segment}
use Rattle.seq_flat.specs.Calls.{given_up}
use Rattle.seq_flat.proofs.Mapped.{mapped_more}
use Rattle.seq_flat.proofs.calls.give_up.Goals as goal

pub loop-i-preserved : goal.loop-i-preserved
loop-i-preserved c =
    let same = get_or_from_slice_get c.loop-i.segments c.loop-i.i c.at_mut.result.now no_segment c.at_mut.ensures.value in
    record {
      done =
          mapped_more (given_up c.args.pid.0) c.loop-i.segments c.loop-i.i c.give_up_one.new.segment no_segment (omega arith) (c.give_up_one.ensures ∙ ap (given_up c.args.pid.0) (sym same))
          ∙ c.loop-i.invariant.done;
      number = length-set c.loop-i.segments c.loop-i.i c.give_up_one.new.segment ∙ c.loop-i.invariant.number;
    }
