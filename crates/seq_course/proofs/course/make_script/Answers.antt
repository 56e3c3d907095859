use Rattle.std.proofs.Common.{sym, ◌∙◌, ap}
use Rattle.seq_schedule.specs.declared.script.Script.TheVariants as scripts
use Rattle.seq_course.proofs.Scenes.{script_breaks_from}
use Rattle.seq_course.proofs.Scripting.{one_stands, bytes_stand, turns_stand, rounds_stand, finish_may, script_may, script_made, script_breaks}
use Rattle.seq_course.proofs.course.make_script.Goals as goal

pub make-requires : goal.make-requires
make-requires g c = script_may c.args.script.now _ _ (one_stands c.args.hardware.now.desc c.args.script.now c.in-One.event c.in-One.is) c.requires.may

pub returns-in_err-make-in-One-clause-err : goal.returns-in_err-make-in-One-clause-err
returns-in_err-make-in-One-clause-err g c = script_breaks_from _ _ _ _ _ c.from_residual.ensures.1 (script_breaks c.args.script.now _ _ (one_stands c.args.hardware.now.desc c.args.script.now c.in-One.event c.in-One.is) _ _ c.in_err-make-in-One.ensures.err)

pub returns-in_ok-make-in-One-clause-ok : goal.returns-in_ok-make-in-One-clause-ok
returns-in_ok-make-in-One-clause-ok g c = script_made c.args.script.now _ _ (one_stands c.args.hardware.now.desc c.args.script.now c.in-One.event c.in-One.is) _ c.in_ok-make-in-One.ensures.ok

pub arrive-requires : goal.arrive-requires
arrive-requires g c = script_may c.args.script.now _ _ (bytes_stand c.args.hardware.now.desc c.args.script.now c.in-Bytes.line c.as_slice.result.now (c.in-Bytes.is ∙ ap (λ bytes. scripts.Bytes c.in-Bytes.line bytes) (sym c.as_slice.ensures))) c.requires.may

pub returns-in_err-arrive-in-Bytes-clause-err : goal.returns-in_err-arrive-in-Bytes-clause-err
returns-in_err-arrive-in-Bytes-clause-err g c = script_breaks_from _ _ _ _ _ c.from_residual-in_err-arrive-in-Bytes.ensures.1 (script_breaks c.args.script.now _ _ (bytes_stand c.args.hardware.now.desc c.args.script.now c.in-Bytes.line c.as_slice.result.now (c.in-Bytes.is ∙ ap (λ bytes. scripts.Bytes c.in-Bytes.line bytes) (sym c.as_slice.ensures))) _ _ c.in_err-arrive-in-Bytes.ensures.err)

pub returns-in_ok-arrive-in-Bytes-clause-ok : goal.returns-in_ok-arrive-in-Bytes-clause-ok
returns-in_ok-arrive-in-Bytes-clause-ok g c = script_made c.args.script.now _ _ (bytes_stand c.args.hardware.now.desc c.args.script.now c.in-Bytes.line c.as_slice.result.now (c.in-Bytes.is ∙ ap (λ bytes. scripts.Bytes c.in-Bytes.line bytes) (sym c.as_slice.ensures))) _ c.in_ok-arrive-in-Bytes.ensures.ok

pub turns-requires : goal.turns-requires
turns-requires g c = script_may c.args.script.now _ _ (turns_stand c.args.hardware.now.desc c.args.script.now c.in-Turns.element c.in-Turns.n c.in-Turns.is) c.requires.may

pub returns-in_err-turns-in-Turns-clause-err : goal.returns-in_err-turns-in-Turns-clause-err
returns-in_err-turns-in-Turns-clause-err g c = script_breaks_from _ _ _ _ _ c.from_residual-in_err-turns-in-Turns.ensures.1 (script_breaks c.args.script.now _ _ (turns_stand c.args.hardware.now.desc c.args.script.now c.in-Turns.element c.in-Turns.n c.in-Turns.is) _ _ c.in_err-turns-in-Turns.ensures.err)

pub returns-in_ok-turns-in-Turns-clause-ok : goal.returns-in_ok-turns-in-Turns-clause-ok
returns-in_ok-turns-in-Turns-clause-ok g c = script_made c.args.script.now _ _ (turns_stand c.args.hardware.now.desc c.args.script.now c.in-Turns.element c.in-Turns.n c.in-Turns.is) _ c.in_ok-turns-in-Turns.ensures.ok

pub repeat-requires : goal.repeat-requires
repeat-requires g c = script_may c.args.script.now _ _ (rounds_stand c.args.hardware.now.desc c.args.script.now c.in-Rounds.n c.args.round.now c.requires.round c.in-Rounds.is) c.requires.may

pub returns-in_err-repeat-in-Rounds-clause-err : goal.returns-in_err-repeat-in-Rounds-clause-err
returns-in_err-repeat-in-Rounds-clause-err g c = script_breaks_from _ _ _ _ _ c.from_residual-in_err-repeat-in-Rounds.ensures.1 (script_breaks c.args.script.now _ _ (rounds_stand c.args.hardware.now.desc c.args.script.now c.in-Rounds.n c.args.round.now c.requires.round c.in-Rounds.is) _ _ c.in_err-repeat-in-Rounds.ensures.err)

pub returns-in_ok-repeat-in-Rounds-clause-ok : goal.returns-in_ok-repeat-in-Rounds-clause-ok
returns-in_ok-repeat-in-Rounds-clause-ok g c = script_made c.args.script.now _ _ (rounds_stand c.args.hardware.now.desc c.args.script.now c.in-Rounds.n c.args.round.now c.requires.round c.in-Rounds.is) _ c.in_ok-repeat-in-Rounds.ensures.ok

pub finish-requires-clause-may : goal.finish-requires-clause-may
finish-requires-clause-may g c = finish_may c.args.script.now c.in-Finish.n c.args.round.now _ c.in-Finish.is c.requires.round c.requires.may
