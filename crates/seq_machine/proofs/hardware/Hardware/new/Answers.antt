use Rattle.std.proofs.Common.{refl, ap, ◌∙◌, replicate}
use Rattle.seq_machine.specs.Plain.{empty_port}
use Rattle.seq_machine.proofs.Started.{is_hardware, at_start}
use Rattle.seq_machine.proofs.hardware.Hardware.new.Goals as goal

pub returns-clause-hardware : goal.returns-clause-hardware
returns-clause-hardware c = is_hardware c.args.desc _ (record {
  described = c.requires;
  desc = refl;
  layout = c.in_ok-layout.ensures;
  matches = c.in_ok-memories.ensures.matches;
  holds = c.in_ok-memories.ensures.holds;
  processors = c.in_ok-idle_processors.ensures;
  ios = c.in_ok-repeated.ensures;
  scan = c.in_ok-repeated-2.ensures;
  incarnations = c.in_ok-repeated-3.ensures;
  ports = c.in_ok-empty_ports.ensures ∙ ap (λ n. replicate n (empty_port c.args.desc)) c.lines.ensures;
})

pub returns-clause-starts : goal.returns-clause-starts
returns-clause-starts c = at_start c.args.desc _ (record {
  described = c.requires;
  desc = refl;
  layout = c.in_ok-layout.ensures;
  matches = c.in_ok-memories.ensures.matches;
  holds = c.in_ok-memories.ensures.holds;
  processors = c.in_ok-idle_processors.ensures;
  ios = c.in_ok-repeated.ensures;
  scan = c.in_ok-repeated-2.ensures;
  incarnations = c.in_ok-repeated-3.ensures;
  ports = c.in_ok-empty_ports.ensures ∙ ap (λ n. replicate n (empty_port c.args.desc)) c.lines.ensures;
})
