use Rattle.std.proofs.Common.{Some, inl, inr}
use Rattle.seq_shelf.specs.Outlets.{views, marks}
use Rattle.seq_cli.specs.Commands.{run}
use Rattle.seq_cli.proofs.Deterministic.{run_is_no_image, stops_image, stops_ready}
use Rattle.seq_cli.proofs.Ran.{run_ended, ran_faultless, ran_text}
use Rattle.seq_cli.proofs.Still.{loading_ended}
use Rattle.seq_cli.proofs.running.run_command.Goals as goal

pub returns-in-Ok-clause-ended : goal.returns-in-Ok-clause-ended
returns-in-Ok-clause-ended g c =
    run_ended c.courses_check_uncovered.ensures c.args.machine.now c.args.schedule.now c.in-Ok.loaded.desc c.in-Ok.loaded.items c.in-Ok.loaded.files c.in-Ok.ensures.described c.in-Ok.ensures.faultless c.run_loaded.result.status
    (g.S.Shelf.shelf c.args.shelf.now) (g.S.Shelf.shelf c.open.new.shelf) (g.C.Chronicle.chronicle c.args.chronicle.now) (g.C.Chronicle.chronicle c.run_loaded.new.chronicle)
    (views (λ z. (goal.Line-dyn g z).line z.1) c.args.lines.now.items) (views (λ z. (goal.Line-dyn g z).line z.1) c.run_loaded.new.lines.items) c.in-Ok.ensures.ok
    c.run_loaded.ensures.runs c.in-Ok.ensures.same

pub returns-in-Ok-clause-text : goal.returns-in-Ok-clause-text
returns-in-Ok-clause-text g c =
    ran_text c.courses_check_uncovered.ensures c.args.machine.now c.args.schedule.now c.in-Ok.loaded.desc c.in-Ok.loaded.items c.in-Ok.loaded.files c.in-Ok.ensures.described c.in-Ok.ensures.faultless c.run_loaded.result.status
    (g.S.Shelf.shelf c.args.shelf.now) (g.S.Shelf.shelf c.open.new.shelf) (g.C.Chronicle.chronicle c.args.chronicle.now) (g.C.Chronicle.chronicle c.run_loaded.new.chronicle)
    (views (λ z. (goal.Line-dyn g z).line z.1) c.args.lines.now.items) (views (λ z. (goal.Line-dyn g z).line z.1) c.run_loaded.new.lines.items) c.in-Ok.ensures.ok
    (marks c.run_loaded.new.lines.items) c.run_loaded.result.text c.run_loaded.ensures.text

pub returns-in-Ok-clause-complete : goal.returns-in-Ok-clause-complete
returns-in-Ok-clause-complete g c = λ m told asks shelf chronicle line.
    ran_faultless c.courses_check_uncovered.ensures c.args.machine.now c.args.schedule.now c.in-Ok.loaded.desc c.in-Ok.loaded.items c.in-Ok.loaded.files c.in-Ok.ensures.described c.in-Ok.ensures.faultless c.run_loaded.result.status
    (g.S.Shelf.shelf c.args.shelf.now) (g.S.Shelf.shelf c.open.new.shelf) (g.C.Chronicle.chronicle c.args.chronicle.now) (g.C.Chronicle.chronicle c.run_loaded.new.chronicle)
    (views (λ z. (goal.Line-dyn g z).line z.1) c.args.lines.now.items) (views (λ z. (goal.Line-dyn g z).line z.1) c.run_loaded.new.lines.items) c.in-Ok.ensures.ok
    m told asks chronicle line c.run_loaded.ensures.runs

pub returns-in-Ok-clause-complete_image : goal.returns-in-Ok-clause-complete_image
returns-in-Ok-clause-complete_image g c = λ m told asks shelf.
    absurd (run_is_no_image m (Some (run c.args.machine.now c.args.schedule.now)) (record { desc = c.in-Ok.loaded.desc; items = c.in-Ok.loaded.items; files = c.in-Ok.loaded.files; asked = c.in-Ok.ensures.ok m told }) asks)

pub returns-in-Err-clause-ended : goal.returns-in-Err-clause-ended
returns-in-Err-clause-ended g c =
    loading_ended c.in-Err.answer.status (g.S.Shelf.shelf c.args.shelf.now) (g.S.Shelf.shelf c.open.new.shelf) _ _ c.args.machine.now c.args.schedule.now c.in-Err.ensures.ends c.in-Err.ensures.cause c.in-Err.ensures.err c.in-Err.ensures.same

pub returns-in-Err-clause-complete : goal.returns-in-Err-clause-complete
returns-in-Err-clause-complete g c = λ m told asks shelf chronicle line.
    let found = c.in-Err.ensures.err m told in
    inr (inl (stops_ready m found.0 (Some (run c.args.machine.now c.args.schedule.now)) c.in-Err.answer.status found.1 asks (λ e. shelf (c.in-Err.ensures.cause e))))

pub returns-in-Err-clause-complete_image : goal.returns-in-Err-clause-complete_image
returns-in-Err-clause-complete_image g c = λ m told asks shelf.
    let found = c.in-Err.ensures.err m told in
    inr (stops_image m found.0 (Some (run c.args.machine.now c.args.schedule.now)) c.in-Err.answer.status found.1 asks (λ e. shelf (c.in-Err.ensures.cause e)))
