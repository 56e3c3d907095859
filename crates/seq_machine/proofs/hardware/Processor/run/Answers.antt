use Rattle.std.proofs.Common.{◌≡◌, ap, sym, ◌∙◌, refl}
use Rattle.seq_layout.specs.Copies.{copies}
use Rattle.seq_turns.specs.Machines.{Turn, copies_after}
use Rattle.seq_turns.specs.Machines.Turn.{Stops}
use Rattle.seq_turns.specs.Causes.{finds}
use Rattle.seq_turns.specs.Processors.{runs, acquisition}
use Rattle.seq_machine.specs.Here.{here, turned, change_of}
use Rattle.seq_machine.specs.Runs.{turn_after}
use Rattle.seq_machine.specs.Processors.{note_left}
use Rattle.seq_machine.specs.declared.runs.Ran.TheVariants as ran
use Rattle.seq_machine.proofs.RunLeft.{ran_leaves, processor_is}
use Rattle.seq_machine.proofs.hardware.Processor.run.Goals as goal

pub leave-requires-clause-process : goal.leave-requires-clause-process
leave-requires-clause-process c = (c.run.new.running, refl, c.run.ensures.process)

pub returns-in-Leaves-clause-processor : goal.returns-in-Leaves-clause-processor
returns-in-Leaves-clause-processor c r e =
    let p = copies c.args.layout.now c.args.memories.now in
    let m = here p c.run.new.cache c.args.incarnation in
    let same : c.in-Running.running ≡ r = cc in
    let table : finds c.args.desc.now m c.args.pe.0 c.run.new.running c.run.new.cache c.in-Leaves.cause c.in-Leaves.mask ≡ runs c.args.desc.now (here p c.args.self.now.cache c.args.incarnation) c.args.pe.0 r =
    (λ i. turn_after c.args.desc.now m c.args.pe.0 c.run.new.running c.run.new.cache (sym c.in-Leaves.is i)) ∙ sym (c.run.ensures.turn c.args.pe.0 c.args.incarnation) ∙ (λ i. runs c.args.desc.now (here p c.args.self.now.cache c.args.incarnation) c.args.pe.0 (same i)) in
    let kept = ran_leaves c.args.desc.now m c.args.pe.0 c.run.new.running c.args.self.now.cache c.run.new.cache c.run.ensures.capacity refl (ran.Leaves c.in-Leaves.cause c.in-Leaves.mask) in
    processor_is _ _ c.args.self.now c.run.new.cache _ _ table (c.leave.ensures.hand c.run.new.running p refl) (c.leave.ensures.cache c.run.new.running p refl) kept

pub returns-in-Leaves-clause-note : goal.returns-in-Leaves-clause-note
returns-in-Leaves-clause-note c r e =
    let p = copies c.args.layout.now c.args.memories.now in
    let m = here p c.run.new.cache c.args.incarnation in
    let same : c.in-Running.running ≡ r = cc in
    let table : finds c.args.desc.now m c.args.pe.0 c.run.new.running c.run.new.cache c.in-Leaves.cause c.in-Leaves.mask ≡ runs c.args.desc.now (here p c.args.self.now.cache c.args.incarnation) c.args.pe.0 r =
    (λ i. turn_after c.args.desc.now m c.args.pe.0 c.run.new.running c.run.new.cache (sym c.in-Leaves.is i)) ∙ sym (c.run.ensures.turn c.args.pe.0 c.args.incarnation) ∙ (λ i. runs c.args.desc.now (here p c.args.self.now.cache c.args.incarnation) c.args.pe.0 (same i)) in
    c.leave.ensures.note c.run.new.running p refl ∙ ap (λ (t : Turn). note_left (turned t)) table

pub acquire-requires-clause-process : goal.acquire-requires-clause-process
acquire-requires-clause-process c = (c.run.new.running, refl, c.run.ensures.process)

pub returns-in-Acquires-clause-processor : goal.returns-in-Acquires-clause-processor
returns-in-Acquires-clause-processor c r e =
    let p = copies c.args.layout.now c.args.memories.now in
    let m = here p c.run.new.cache c.args.incarnation in
    let same : c.in-Running.running ≡ r = cc in
    let table : acquisition c.args.desc.now m c.args.pe.0 c.run.new.running c.in-Acquires.segment ≡ runs c.args.desc.now (here p c.args.self.now.cache c.args.incarnation) c.args.pe.0 r =
    (λ i. turn_after c.args.desc.now m c.args.pe.0 c.run.new.running c.run.new.cache (sym c.in-Acquires.is i)) ∙ sym (c.run.ensures.turn c.args.pe.0 c.args.incarnation) ∙ (λ i. runs c.args.desc.now (here p c.args.self.now.cache c.args.incarnation) c.args.pe.0 (same i)) in
    let kept = ran_leaves c.args.desc.now m c.args.pe.0 c.run.new.running c.args.self.now.cache c.run.new.cache c.run.ensures.capacity refl (ran.Acquires c.in-Acquires.segment) in
    processor_is _ _ c.args.self.now c.run.new.cache _ _ table (c.acquire.ensures.hand c.run.new.running refl) (c.acquire.ensures.cache c.run.new.running refl) kept

pub returns-in-Acquires-clause-note : goal.returns-in-Acquires-clause-note
returns-in-Acquires-clause-note c r e =
    let p = copies c.args.layout.now c.args.memories.now in
    let m = here p c.run.new.cache c.args.incarnation in
    let same : c.in-Running.running ≡ r = cc in
    let table : acquisition c.args.desc.now m c.args.pe.0 c.run.new.running c.in-Acquires.segment ≡ runs c.args.desc.now (here p c.args.self.now.cache c.args.incarnation) c.args.pe.0 r =
    (λ i. turn_after c.args.desc.now m c.args.pe.0 c.run.new.running c.run.new.cache (sym c.in-Acquires.is i)) ∙ sym (c.run.ensures.turn c.args.pe.0 c.args.incarnation) ∙ (λ i. runs c.args.desc.now (here p c.args.self.now.cache c.args.incarnation) c.args.pe.0 (same i)) in
    c.acquire.ensures.note c.run.new.running refl ∙ ap (λ (t : Turn). note_left (turned t)) table

pub returns-in-Stops-clause-processor : goal.returns-in-Stops-clause-processor
returns-in-Stops-clause-processor c r e =
    let p = copies c.args.layout.now c.args.memories.now in
    let m = here p c.run.new.cache c.args.incarnation in
    let same : c.in-Running.running ≡ r = cc in
    let table : Stops ≡ runs c.args.desc.now (here p c.args.self.now.cache c.args.incarnation) c.args.pe.0 r =
    (λ i. turn_after c.args.desc.now m c.args.pe.0 c.run.new.running c.run.new.cache (sym c.in-Stops.is i)) ∙ sym (c.run.ensures.turn c.args.pe.0 c.args.incarnation) ∙ (λ i. runs c.args.desc.now (here p c.args.self.now.cache c.args.incarnation) c.args.pe.0 (same i)) in
    let kept = ran_leaves c.args.desc.now m c.args.pe.0 c.run.new.running c.args.self.now.cache c.run.new.cache c.run.ensures.capacity refl ran.Stops in
    processor_is _ _ c.args.self.now c.run.new.cache _ _ table c.stop.ensures.hand c.stop.ensures.cache kept
