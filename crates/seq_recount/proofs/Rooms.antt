-- A history has at most an entry for each eleven turns.
use Rattle.std.proofs.Common.{◌≡◌, ◌+◌, ◌*◌, ◌≤◌, List, [], ◌∷◌, ◌++◌, length, length-append, Some, ap, ◌∙◌, arith}
use Rattle.seq_words.specs.declared.description.MachineDesc.{MachineDesc}
use Rattle.seq_words.specs.declared.events.Entry.{Entry}
use Rattle.seq_words.specs.declared.events.Event.{Event}
use Rattle.seq_schedule.specs.declared.script.Item.{Item}
use Rattle.seq_start.specs.Begun.{start_image}
use Rattle.seq_turns.specs.Machines.{Machine, history_after}
use Rattle.seq_stands.specs.Counts.{commit, ahead_below, turns_in as taken}
use Rattle.seq_stands.proofs.CountEvents.{histories_grow_by_commits}
use Rattle.seq_stands.proofs.Counted.{commits_are_counted}
use Rattle.seq_machine.specs.Starting.{machine_at_start}
use Rattle.seq_course.specs.Course.{machine_after}
use Rattle.seq_course.proofs.Runs.{run-append}
use Rattle.seq_recount.specs.Rooms.{turns_of, entries_for, HistoryFits, PassesFit, EndsFit, StopsFit, NextsFit, CommitsFit}
use Rattle.seq_recount.proofs.Turns.{taken-append, passes_taken, ends_taken, stops_taken}

-- eleven turns for each entry
counted : (d : MachineDesc) (es : List Event) → 11 * length (machine_after d es).history ≤ taken es
counted d es =
    let all : 11 * length (machine_after d es).history + ahead_below (machine_after d es) d.processors ≤ taken es = commits_are_counted d (start_image d) es in
    omega arith

fits : (d : MachineDesc) (items : List Item) (es : List Event) → taken es ≤ turns_of d items → HistoryFits d items es
fits d items es few =
    let each : 11 * length (machine_after d es).history ≤ taken es = counted d es in
    omega arith

pub passes_fit : PassesFit
passes_fit d items es passes = fits d items es (passes_taken d items es passes)

pub ends_fit : EndsFit
ends_fit d items line es ends = fits d items es (ends_taken d items line es ends)

pub stops_fit : StopsFit
stops_fit d items line es e comes =
    let few : taken es + taken (e ∷ []) ≤ turns_of d items = stops_taken d items line es e comes in
    fits d items es (omega arith)

pub nexts_fit : NextsFit
nexts_fit d items line es e comes =
    let few : taken es + taken (e ∷ []) ≤ turns_of d items = stops_taken d items line es e comes in
    let with : taken (es ++ e ∷ []) ≡ taken es + taken (e ∷ []) = taken-append es (e ∷ []) in
    fits d items (es ++ e ∷ []) (omega arith)

-- the history with what an event commits
one_more : (d : MachineDesc) (es : List Event) (e : Event) (entry : Entry) → commit d (machine_after d es) e ≡ Some entry → length (machine_after d (es ++ e ∷ [])).history ≡ length (machine_after d es).history + 1
one_more d es e entry is =
    ap (λ (m : Machine). length m.history) (run-append d es (e ∷ []) (machine_at_start d))
    ∙ ap length (histories_grow_by_commits d (machine_after d es) e ∙ ap (λ o. history_after o (machine_after d es).history) is)
    ∙ length-append (machine_after d es).history (entry ∷ [])

pub commits_fit : CommitsFit
commits_fit d items line es e entry comes is =
    let more : length (machine_after d (es ++ e ∷ [])).history ≡ length (machine_after d es).history + 1 = one_more d es e entry is in
    let few : length (machine_after d (es ++ e ∷ [])).history ≤ entries_for d items = nexts_fit d items line es e comes in
    omega arith
