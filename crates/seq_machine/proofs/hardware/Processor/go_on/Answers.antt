use Rattle.seq_machine.proofs.hardware.Processor.go_on.Goals as goal

pub go_on-requires-clause-readable : goal.go_on-requires-clause-readable
go_on-requires-clause-readable c = (c.requires.runs c.in-Running.running c.in-Running.is).readable

pub go_on-requires-clause-within : goal.go_on-requires-clause-within
go_on-requires-clause-within c = (c.requires.runs c.in-Running.running c.in-Running.is).within

pub go_on-requires-clause-live : goal.go_on-requires-clause-live
go_on-requires-clause-live c = (c.requires.runs c.in-Running.running c.in-Running.is).live
