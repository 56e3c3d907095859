use Rattle.std.proofs.Common.{◌≡◌, ℕ, ◌<◌, length, length-set, sym, ap, ◌∙◌, arith}
use Rattle.std.proofs.lemmas.Option.{get_or_from_slice_get}
use Rattle.seq_turns.specs.Reading.{is_amid}
use Rattle.seq_machine.specs.Plain.{processor_of, idle_processor}
use Rattle.seq_machine.specs.declared.hardware.Processor.{Processor}
use Rattle.seq_machine.proofs.Lists.{marked_on}
use Rattle.seq_machine.proofs.hardware.Hardware.marks.Goals as goal

pub loop-at-preserved : goal.loop-at-preserved
loop-at-preserved c =
    let h = c.args.self.now in
    let at = c.loop-at.at in
    let counted = c.requires.processors in
    let most = c.requires.described.processors.high_at in
    let there = c.loop-at-test.true in
    let end = c.len-at-end.ensures in
    let eight = c.loop-at.invariant.count in
    let inside : at < length c.loop-at.marks = omega (arith, there, end, counted, most, eight) in
    let here : c.is_amid.result ≡ is_amid (processor_of h at).hand = c.is_amid.ensures ∙ ap (λ (x : Processor). is_amid x.hand) (sym (get_or_from_slice_get h.processors at c.at.result.now (idle_processor h.desc) c.at.ensures)) in
    record {
      count = length-set c.loop-at.marks at c.is_amid.result ∙ eight;
      each = marked_on c.loop-at.marks at c.is_amid.result (λ p. is_amid (processor_of h p).hand) inside c.loop-at.invariant.each here;
    }
