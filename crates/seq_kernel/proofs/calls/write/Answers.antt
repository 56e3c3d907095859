use Rattle.std.proofs.Common.{take, sym, ap, ◌∙◌}
use Rattle.seq_layout.specs.Copies.{copies}
use Rattle.seq_kernel.specs.Turns.{Turned}
use Rattle.seq_kernel.proofs.CallCases.{write_found}
use Rattle.seq_kernel.proofs.calls.write.Goals as goal

-- all bytes are there
pub returns : goal.returns
returns c =
    let bytes = take c.args.span.count c.in-Some-gather.bytes in
    let found = write_found c.args.desc.now (copies c.args.layout.now c.args.memories.now) c.args.r.now c.args.cache.now c.args.line c.in-Some.line.0 c.args.span.address c.args.span.count bytes c.in-Some.ensures.line c.in-Some.ensures.owned c.if-span-gt-WRITE_LIMIT.false c.in-Some-gather.ensures in
    record {
      outcome = c.put_out.ensures.outcome ∙ ap (λ (t : Turned). t.outcome) (sym found);
      running = c.put_out.ensures.running ∙ ap (λ (t : Turned). t.running) (sym found);
      cache = c.put_out.ensures.cache ∙ ap (λ (t : Turned). t.cache) (sym found);
    }
