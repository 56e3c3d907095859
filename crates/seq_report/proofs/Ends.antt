-- Texts end with the end of a line.
use Rattle.std.proofs.Common.{ℕ, ◌+◌, List, [], ◌∷◌, ◌++◌, length, append_assoc, refl, sym, subst}
use Rattle.std.specs.List.{sum_by}
use Rattle.std.specs.Prelude.{codes, decimal}
use Rattle.std.proofs.lemmas.Bool.{false≢true}
use Rattle.std.proofs.lemmas.List.{append-nil}
use Rattle.seq_words.specs.Masks.{has_bit}
use Rattle.seq_words.specs.declared.events.Entry.{Entry}
use Rattle.seq_flat.specs.declared.state.ProcessState.{ProcessState}
use Rattle.seq_report.specs.declared.status.Status.TheVariants.{Done, Usage, Refused, Absent, MachineCheck, OutOfTurns, ShelfFault, SinkFault, ChronicleFault, LineFault, NoMemory}
use Rattle.seq_report.specs.Texts.{first_line, history_line, end_words, process_line, process_lines, hung_words, sent_line, sent_lines}
use Rattle.seq_report.specs.Laws.{EndsLine, ReportsEndLines, SinglesEndLines, AssembledEndsLine}

ends : (front : List ℕ) → EndsLine (front ++ 10 ∷ [])
ends front = record { front = front; parts = refl }

behind : (before front : List ℕ) → EndsLine (before ++ (front ++ 10 ∷ []))
behind before front = record { front = before ++ front; parts = sym (append_assoc before front (10 ∷ [])) }

with_processes : (p : ℕ) (before : List ℕ) (qs : List ProcessState) → EndsLine before → EndsLine (before ++ process_lines p qs)
with_processes p before [] e = subst EndsLine (sym (append-nil before)) e
with_processes p before (q ∷ qs) e =
    subst EndsLine (append_assoc before (process_line p q) (process_lines (p + 1) qs)) (with_processes (p + 1) (before ++ process_line p q) qs (behind before (codes "process " ++ decimal p ++ codes " " ++ end_words q.end)))

with_lines : (hung l : ℕ) (before sent : List ℕ) → EndsLine before → EndsLine (before ++ sent_lines hung l sent)
with_lines hung l before [] e = subst EndsLine (sym (append-nil before)) e
with_lines hung l before (count ∷ sent) e =
    subst EndsLine (append_assoc before (sent_line l count (has_bit hung l)) (sent_lines hung (l + 1) sent)) (with_lines hung (l + 1) (before ++ sent_line l count (has_bit hung l)) sent (behind before (codes "line " ++ decimal l ++ codes " " ++ decimal count ++ hung_words (has_bit hung l))))

pub reports_end_lines : ReportsEndLines
reports_end_lines status f history sent hung =
    with_lines hung 0 (first_line status ++ history_line history ++ process_lines 0 f.processes) sent
    (with_processes 0 (first_line status ++ history_line history) f.processes (behind (first_line status) (codes "history " ++ decimal (length history) ++ codes " " ++ decimal (sum_by (λ (e : Entry). e.count) history))))

pub singles_end_lines : SinglesEndLines
singles_end_lines (Refused file place rule) name single = ends (codes "refused " ++ name ++ codes " at " ++ decimal place ++ codes " rule " ++ decimal rule)
singles_end_lines (Absent file) name single = ends (codes "absent " ++ name)
singles_end_lines ShelfFault name single = ends (codes "shelf fault")
singles_end_lines Done name single = absurd (false≢true single)
singles_end_lines (MachineCheck line stopped cause) name single = absurd (false≢true single)
singles_end_lines (OutOfTurns line) name single = absurd (false≢true single)
singles_end_lines (LineFault line) name single = absurd (false≢true single)
singles_end_lines ChronicleFault name single = absurd (false≢true single)
singles_end_lines SinkFault name single = absurd (false≢true single)
singles_end_lines Usage name single = absurd (false≢true single)
singles_end_lines NoMemory name single = absurd (false≢true single)

pub assembled_ends_line : AssembledEndsLine
assembled_ends_line bytes = record { front = codes "assembled " ++ decimal bytes ++ codes " bytes"; parts = sym (append_assoc (codes "assembled " ++ decimal bytes) (codes " bytes") (10 ∷ [])) }
