use Rattle.std.proofs.Common.{◌∙◌, ap}
use Rattle.seq_retell.specs.Keeping.{Keeping}
use Rattle.seq_recount.specs.Rooms.{entries_for}
use Rattle.seq_cli.proofs.Reported.{ports_counted, its_run, reported, seen_whole, as_loaded}
use Rattle.seq_cli.proofs.running.run_loaded.Goals as goal

pub answer_of-requires-clause-ports : goal.answer_of-requires-clause-ports
answer_of-requires-clause-ports g c =
    ports_counted c.histories_fit.ensures.passes c.histories_fit.ensures.ends c.histories_fit.ensures.stops c.histories_fit.ensures.nexts c.args.loaded.desc c.args.loaded.items c.requires.described c.requires.faultless c.run.new.hardware c.run.new.kept c.in-Ok-run.ending _ _ _ _
    (c.in-Ok-run.ensures.desc ∙ c.in-Ok-new.ensures.desc) (c.in-Ok-run.ensures.room ∙ ap (λ (k : Keeping). k.room) c.in-Ok.ensures ∙ c.entries_for-room.ensures ∙ ap (entries_for c.args.loaded.desc) c.as_slice.ensures)
    (as_loaded c.in-Ok-new.hardware.desc c.args.loaded.desc c.as_slice-2.result.now c.args.loaded.items c.in-Ok-run.ending _ _ _ _ c.run.new.hardware c.run.new.kept c.in-Ok-new.ensures.desc c.as_slice-2.ensures c.in-Ok-run.ensures.takes)
    c.entries.result.now c.entries.ensures

pub answer_of-requires-clause-runs : goal.answer_of-requires-clause-runs
answer_of-requires-clause-runs g c =
    its_run c.histories_fit.ensures.passes c.histories_fit.ensures.ends c.histories_fit.ensures.stops c.histories_fit.ensures.nexts c.args.loaded.desc c.args.loaded.items c.requires.described c.requires.faultless c.run.new.hardware c.run.new.kept c.in-Ok-run.ending _ _ _ _
    (c.in-Ok-run.ensures.desc ∙ c.in-Ok-new.ensures.desc) (c.in-Ok-run.ensures.room ∙ ap (λ (k : Keeping). k.room) c.in-Ok.ensures ∙ c.entries_for-room.ensures ∙ ap (entries_for c.args.loaded.desc) c.as_slice.ensures)
    (as_loaded c.in-Ok-new.hardware.desc c.args.loaded.desc c.as_slice-2.result.now c.args.loaded.items c.in-Ok-run.ending _ _ _ _ c.run.new.hardware c.run.new.kept c.in-Ok-new.ensures.desc c.as_slice-2.ensures c.in-Ok-run.ensures.takes)
    c.entries.result.now c.entries.ensures

pub returns-in-Ok-run-clause-text : goal.returns-in-Ok-run-clause-text
returns-in-Ok-run-clause-text g c =
    reported c.histories_fit.ensures.passes c.histories_fit.ensures.ends c.histories_fit.ensures.stops c.histories_fit.ensures.nexts c.args.loaded.desc c.args.loaded.items c.requires.described c.requires.faultless c.run.new.hardware c.run.new.kept c.in-Ok-run.ending _ _ _ _
    (c.in-Ok-run.ensures.desc ∙ c.in-Ok-new.ensures.desc) (c.in-Ok-run.ensures.room ∙ ap (λ (k : Keeping). k.room) c.in-Ok.ensures ∙ c.entries_for-room.ensures ∙ ap (entries_for c.args.loaded.desc) c.as_slice.ensures)
    (as_loaded c.in-Ok-new.hardware.desc c.args.loaded.desc c.as_slice-2.result.now c.args.loaded.items c.in-Ok-run.ending _ _ _ _ c.run.new.hardware c.run.new.kept c.in-Ok-new.ensures.desc c.as_slice-2.ensures c.in-Ok-run.ensures.takes)
    c.entries.result.now c.entries.ensures
    c.answer_of.result.status c.answer_of.ensures.status _ c.answer_of.result.text
    (seen_whole (λ z. (goal.Line-dyn g z).line z.1) c.deref.result.now c.run.new.lines.items c.answer_of.result.status c.run.new.hardware c.entries.result.now c.answer_of.result.text c.deref.ensures.value c.answer_of.ensures.text)
