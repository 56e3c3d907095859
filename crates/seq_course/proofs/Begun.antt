-- A course at its beginning.
use Rattle.std.proofs.Common.{◌≡◌, ◌≤◌, Bool, List, [], length, refl, sym, ◌∙◌, arith}
use Rattle.std.proofs.Math.Seq.{take-nil}
use Rattle.seq_words.specs.Description.{line_count}
use Rattle.seq_shelf.specs.Told.{LineView, ChronicleView}
use Rattle.seq_shelf.specs.Rows.{AreFresh}
use Rattle.seq_shelf.proofs.Rows.{grows_none, all_stay}
use Rattle.seq_schedule.specs.declared.script.Item.{Item}
use Rattle.seq_schedule.specs.Faultless.{AreFaultless}
use Rattle.seq_machine.specs.declared.hardware.Hardware.{Hardware}
use Rattle.seq_machine.specs.Plain.{machine_of, IsHardware}
use Rattle.seq_machine.specs.Starting.{no_outside, machine_at_start}
use Rattle.seq_machine.proofs.Readiness.{starts_ready}
use Rattle.seq_retell.specs.Keeping.{Keeping}
use Rattle.seq_course.specs.Making.{scene, MayBegin}
use Rattle.seq_course.proofs.Allowed.{all_are_few}

-- fresh lines, hardware at its start, and no entry kept
pub may_begin : (items : List Item) (h : Hardware) (c : ChronicleView) (lines : List LineView) (marks : List Bool) (kept : Keeping)
    → IsHardware h → machine_of h no_outside ≡ machine_at_start h.desc → AreFaultless h.desc items → line_count h.desc ≤ length lines → AreFresh lines marks → kept.entries ≡ [] → MayBegin items (scene h c lines marks kept)
may_begin items h c lines marks kept hardware starts faultless enough fresh empty = record {
  ready = record { number = 1; ready = starts_ready h h.desc hardware.described hardware refl starts; room = all_are_few h.desc items hardware.described faultless };
  lines = enough;
  led = record {
    unchecked = tt;
    machine = record {
      described = refl;
      machine = starts;
      shown = record { accepted = λ l inside. sym (fresh.accepted l); hung = λ l inside. sym (fresh.hung l) };
    };
    released = record { history = grows_none c.told; bytes = all_stay lines };
    counts = record { faults = omega arith; refusals = omega arith };
    kept = empty ∙ sym (take-nil kept.room);
  };
}
