use Rattle.std.proofs.Common.{◌∙◌, ◌<◌, subst, sym, refl, arith, List, [], None, Some, ℕ, length}
use Rattle.seq_manifest.specs.Drafts.{Describes}
use Rattle.seq_manifest.specs.Faults.{first_fault as description_fault}
use Rattle.seq_schedule.specs.declared.forms.Gate.TheVariants.{Built}
use Rattle.seq_schedule.specs.Rules.{first_fault as schedule_fault}
use Rattle.seq_report.specs.declared.status.Status.{Status}
use Rattle.seq_cli.specs.Commands.{run}
use Rattle.seq_cli.specs.Files.{ready}
use Rattle.seq_cli.specs.Parts.{names_of, OpensParts}
use Rattle.seq_cli.specs.Opening.{Schedules, OpensMachine, OpensSchedule, OpensItems, OpensForm}
use Rattle.seq_cli.specs.Endings.{Stops, moment_of}
use Rattle.seq_cli.specs.Loads.{Loads, LoadStops, failed_of}
use Rattle.seq_cli.proofs.Naming.{machine_named, schedule_named, line_named, line_of_part}
use Rattle.seq_cli.proofs.Openings.{ends_more, stops_file, stops_next, stops_record, opens_file, opens_parts, parts_longer, earlier}
use Rattle.seq_cli.proofs.opening.open.Goals as goal

pub returns-in-Err-clause-err : goal.returns-in-Err-clause-err
returns-in-Err-clause-err g c = λ m told.
    let failed = failed_of c.in-Err.status 0 in
    let stops = subst (λ (files : List (List ℕ)). LoadStops c.in-Err.status files description_fault (m c.args.machine.now)) c.new-files.ensures (c.in-Err.ensures.err m told) in (
      failed,
      subst (λ (s : Status). Stops (OpensForm m failed (Some (run c.args.machine.now c.args.schedule.now))) s) (sym c.ended_by.ensures.status)
          (stops_file c.in-Err.status [] description_fault Describes (OpensMachine m failed c.args.schedule.now) (m c.args.machine.now) stops),
    )

pub returns-in-Err-load_parts-clause-err : goal.returns-in-Err-load_parts-clause-err
returns-in-Err-load_parts-clause-err g c = λ m told.
    let status = c.in-Err-load_parts.answer.status in
    let files = c.load_draft.new.files in
    let draft = c.in-Ok.draft in
    let loads = subst (λ (none : List (List ℕ)). Loads description_fault Describes (m c.args.machine.now) none files draft) c.new-files.ensures (c.in-Ok.ensures.ok m told) in
    let stop = c.in-Err-load_parts.ensures.err m (c.in-Ok.ensures.same ∙ told) in
    let failed = failed_of status (length stop.files) in
    let longer = parts_longer m 0 stop.front files draft.desc stop.files stop.desc stop.loaded in
    let first : 0 < length stop.files = omega (arith, longer, c.in-Ok.ensures.one) in (
      failed,
      stops_next status failed description_fault Describes (OpensMachine m failed c.args.schedule.now) (m c.args.machine.now) [] files draft (earlier status (length stop.files) 0 first) loads
          (stops_record m status c.in-Err-load_parts.answer.text (names_of draft) files draft.desc (OpensSchedule m failed c.args.schedule.now) stop),
    )

pub returns-in-Err-load_schedule-clause-err : goal.returns-in-Err-load_schedule-clause-err
returns-in-Err-load_schedule-clause-err g c = λ m told.
    let status = c.in-Err-load_schedule.status in
    let files = c.load_draft.new.files in
    let after = c.load_parts.new.files in
    let draft = c.in-Ok.draft in
    let desc = c.in-Ok-load_parts.desc in
    let loads = subst (λ (none : List (List ℕ)). Loads description_fault Describes (m c.args.machine.now) none files draft) c.new-files.ensures (c.in-Ok.ensures.ok m told) in
    let told_parts = c.in-Ok.ensures.same ∙ told in
    let parts = c.in-Ok-load_parts.ensures.ok m told_parts in
    let failed = failed_of status (length after) in
    let longer = parts_longer m 0 (names_of draft) files draft.desc after desc parts in
    let first : 0 < length after = omega (arith, longer, c.in-Ok.ensures.one) in
    let stops = stops_file status after (schedule_fault Built desc) Schedules (OpensItems desc) (m c.args.schedule.now) (c.in-Err-load_schedule.ensures.err m (c.in-Ok-load_parts.ensures.same ∙ told_parts)) in
    let behind = ends_more (OpensSchedule m failed c.args.schedule.now after desc) (OpensParts m failed 0 (names_of draft) files draft.desc (OpensSchedule m failed c.args.schedule.now))
    (λ o. opens_parts m failed 0 (names_of draft) files draft.desc after desc (OpensSchedule m failed c.args.schedule.now) o (λ k lt. earlier status (length after) k lt) parts) (moment_of status) stops in (
      failed,
      subst (λ (s : Status). Stops (OpensForm m failed (Some (run c.args.machine.now c.args.schedule.now))) s) (sym c.ended_by-in-Err-load_schedule.ensures.status)
          (stops_next status failed description_fault Describes (OpensMachine m failed c.args.schedule.now) (m c.args.machine.now) [] files draft (earlier status (length after) 0 first) loads behind),
    )

pub returns-clause-ok : goal.returns-clause-ok
returns-clause-ok g c = λ m told.
    let files = c.load_draft.new.files in
    let after = c.load_parts.new.files in
    let draft = c.in-Ok.draft in
    let desc = c.in-Ok-load_parts.desc in
    let loads = subst (λ (none : List (List ℕ)). Loads description_fault Describes (m c.args.machine.now) none files draft) c.new-files.ensures (c.in-Ok.ensures.ok m told) in
    let told_parts = c.in-Ok.ensures.same ∙ told in
    let parts = c.in-Ok-load_parts.ensures.ok m told_parts in
    let items = c.in-Ok-load_schedule.ensures.ok m (c.in-Ok-load_parts.ensures.same ∙ told_parts) in
    let end = ready desc c.in-Ok-load_schedule.items c.load_schedule.new.files in
    let last = opens_file None (schedule_fault Built desc) Schedules (OpensItems desc) (m c.args.schedule.now) after c.load_schedule.new.files c.in-Ok-load_schedule.items end refl items refl in
    opens_file None description_fault Describes (OpensMachine m None c.args.schedule.now) (m c.args.machine.now) [] files draft end refl loads
    (opens_parts m None 0 (names_of draft) files draft.desc after desc (OpensSchedule m None c.args.schedule.now) end (λ k lt. refl) parts last)

pub returns-in-Err-clause-line : goal.returns-in-Err-clause-line
returns-in-Err-clause-line g c =
    line_named (Some (run c.args.machine.now c.args.schedule.now)) (g.S.Shelf.shelf c.args.shelf.now).told c.in-Err.status c.ended_by.result.status c.args.machine.now c.ended_by.result.text c.ended_by.ensures.status
    (λ m told.
    let stops = subst (λ (files : List (List ℕ)). LoadStops c.in-Err.status files description_fault (m c.args.machine.now)) c.new-files.ensures (c.in-Err.ensures.err m told) in
    machine_named m c.args.machine.now c.args.schedule.now c.in-Err.status description_fault (m c.args.machine.now) stops)
    c.ended_by.ensures.line

pub returns-in-Err-load_parts-clause-line : goal.returns-in-Err-load_parts-clause-line
returns-in-Err-load_parts-clause-line g c =
    let files = c.load_draft.new.files in
    let draft = c.in-Ok.draft in
    line_of_part c.args.machine.now c.args.schedule.now (g.S.Shelf.shelf c.args.shelf.now).told draft files c.in-Err-load_parts.answer.status c.in-Err-load_parts.answer.text
    (λ m told. subst (λ (none : List (List ℕ)). Loads description_fault Describes (m c.args.machine.now) none files draft) c.new-files.ensures (c.in-Ok.ensures.ok m told))
    (λ m told. c.in-Err-load_parts.ensures.err m (c.in-Ok.ensures.same ∙ told))
    c.in-Err-load_parts.ensures.line

pub returns-in-Err-load_schedule-clause-line : goal.returns-in-Err-load_schedule-clause-line
returns-in-Err-load_schedule-clause-line g c =
    let files = c.load_draft.new.files in
    let after = c.load_parts.new.files in
    let draft = c.in-Ok.draft in
    let desc = c.in-Ok-load_parts.desc in
    let status = c.in-Err-load_schedule.status in
    line_named (Some (run c.args.machine.now c.args.schedule.now)) (g.S.Shelf.shelf c.args.shelf.now).told status c.ended_by-in-Err-load_schedule.result.status c.args.schedule.now c.ended_by-in-Err-load_schedule.result.text c.ended_by-in-Err-load_schedule.ensures.status
    (λ m told.
    let loads = subst (λ (none : List (List ℕ)). Loads description_fault Describes (m c.args.machine.now) none files draft) c.new-files.ensures (c.in-Ok.ensures.ok m told) in
    let told_parts = c.in-Ok.ensures.same ∙ told in
    schedule_named m c.args.machine.now c.args.schedule.now draft files loads status after desc (schedule_fault Built desc) (m c.args.schedule.now) (c.in-Ok-load_parts.ensures.ok m told_parts) (c.in-Err-load_schedule.ensures.err m (c.in-Ok-load_parts.ensures.same ∙ told_parts)))
    c.ended_by-in-Err-load_schedule.ensures.line
