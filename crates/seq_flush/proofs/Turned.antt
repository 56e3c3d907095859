-- The turns of a flush, by their tests.
use Rattle.std.proofs.Common.{◌≡◌, ◌≢◌, ◌+◌, ◌-◌, true, false, leb, List, length, refl}
use Rattle.std.proofs.lemmas.Bool.{ne_eqb, eq-eqb}
use Rattle.seq_layout.specs.Shapes.{Shape}
use Rattle.seq_layout.specs.Copies.{Copies}
use Rattle.seq_status.specs.declared.status.Status.TheVariants.{Run, Pass1, Pass2}
use Rattle.seq_status.specs.declared.step.Step.TheVariants.{Again, Next}
use Rattle.seq_cache.specs.declared.change.Change.{Change}
use Rattle.seq_flush.specs.declared.stages.Mark.{Mark}
use Rattle.seq_flush.specs.declared.stages.First.{First}
use Rattle.seq_flush.specs.declared.stages.Second.{Second}
use Rattle.seq_flush.specs.declared.stages.Close.{Close}
use Rattle.seq_flush.specs.declared.flush.Flush.{Flush}
use Rattle.seq_flush.specs.Turns.{units, unit_at, unit_written, status_written, into_stage, mark_turn, first_turn, second_turn, close_turn}

pub mark_primary_is : (s : Shape) (p : Copies) (f : Flush Mark) → f.cursor ≡ 0 → mark_turn s p f ≡ record { copies = status_written s p f.pid.0 false (Pass1 f.holder); step = Again (record f { cursor = 1 }) }
unfolding mark_turn
mark_primary_is s p f begins = rw (eq-eqb f.cursor 0 begins) refl

pub mark_shadow_is : (s : Shape) (p : Copies) (f : Flush Mark) → f.cursor ≢ 0 → mark_turn s p f ≡ record { copies = status_written s p f.pid.0 true (Pass1 f.holder); step = Next (into_stage f (record {})) }
unfolding mark_turn
mark_shadow_is s p f begun = rw (ne_eqb f.cursor 0 begun) refl

pub commit_is : (s : Shape) (p : Copies) (changes : List Change) (f : Flush First) → leb (length (units f changes)) f.cursor ≡ true → first_turn s p changes f ≡ record { copies = status_written s p f.pid.0 false (Pass2 f.holder); step = Next (into_stage f (record {})) }
unfolding first_turn
commit_is s p changes f done = rw done refl

pub first_unit_is : (s : Shape) (p : Copies) (changes : List Change) (f : Flush First) → leb (length (units f changes)) f.cursor ≡ false → first_turn s p changes f ≡ record { copies = unit_written s p false (unit_at (units f changes) f.cursor); step = Again (record f { cursor = f.cursor + 1 }) }
unfolding first_turn
first_unit_is s p changes f more = rw more refl

pub second_word_is : (s : Shape) (p : Copies) (changes : List Change) (f : Flush Second) → f.cursor ≡ 0 → second_turn s p changes f ≡ record { copies = status_written s p f.pid.0 true (Pass2 f.holder); step = Again (record f { cursor = 1 }) }
unfolding second_turn
second_word_is s p changes f begins = rw (eq-eqb f.cursor 0 begins) refl

pub last_unit_is : (s : Shape) (p : Copies) (changes : List Change) (f : Flush Second) → f.cursor ≢ 0 → leb (length (units f changes)) f.cursor ≡ true → second_turn s p changes f ≡ record { copies = unit_written s p true (unit_at (units f changes) (f.cursor - 1)); step = Next (into_stage f (record {})) }
unfolding second_turn
last_unit_is s p changes f begun done = rw (ne_eqb f.cursor 0 begun, done) refl

pub second_unit_is : (s : Shape) (p : Copies) (changes : List Change) (f : Flush Second) → f.cursor ≢ 0 → leb (length (units f changes)) f.cursor ≡ false → second_turn s p changes f ≡ record { copies = unit_written s p true (unit_at (units f changes) (f.cursor - 1)); step = Again (record f { cursor = f.cursor + 1 }) }
unfolding second_turn
second_unit_is s p changes f begun more = rw (ne_eqb f.cursor 0 begun, more) refl

pub close_primary_is : (s : Shape) (p : Copies) (f : Flush Close) → f.cursor ≡ 0 → close_turn s p f ≡ record { copies = status_written s p f.pid.0 false (Run f.holder); step = Again (record f { cursor = 1 }) }
unfolding close_turn
close_primary_is s p f begins = rw (eq-eqb f.cursor 0 begins) refl

pub close_shadow_is : (s : Shape) (p : Copies) (f : Flush Close) → f.cursor ≢ 0 → close_turn s p f ≡ record { copies = status_written s p f.pid.0 true (Run f.holder); step = Next (record {}) }
unfolding close_turn
close_shadow_is s p f begun = rw (ne_eqb f.cursor 0 begun) refl
