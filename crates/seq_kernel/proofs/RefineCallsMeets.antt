-- A turn of a call against what the flat machine answers, test by test.
use Rattle.std.proofs.Common.{◌≡◌, ℕ, ◌<◌, Bool, true, false, length, refl, sym, ◌∙◌, if◌then◌else◌}
use Rattle.std.specs.Prelude.{Result, Ok}
use Rattle.std.proofs.lemmas.Bool.{false≢true}
use Rattle.std.proofs.lemmas.List.{get_or-map}
use Rattle.seq_words.specs.declared.description.MachineDesc.{MachineDesc}
use Rattle.seq_words.specs.declared.description.ProcessDesc.{ProcessDesc}
use Rattle.seq_words.specs.Description.{process_of, no_process}
use Rattle.seq_flat.specs.declared.state.FlatState.{FlatState}
use Rattle.seq_flat.specs.declared.state.Waits.{Waits}
use Rattle.seq_flat.specs.State.{no_rights, rights_at, rights_of}
use Rattle.seq_flat.specs.Calls as flat
use Rattle.seq_layout.specs.Copies.{Copies}
use Rattle.seq_process.specs.declared.running.Running.{Running}
use Rattle.seq_cache.specs.Changes.{Changes}
use Rattle.seq_kernel.specs.declared.outcomes.Outcome.{Outcome}
use Rattle.seq_kernel.specs.Views.{read_by}
use Rattle.seq_kernel.specs.Turns.{Turned, answered}
use Rattle.seq_flat.specs.Reached.{IsFlat}
use Rattle.seq_kernel.specs.Shown.{Shows}
use Rattle.seq_kernel.specs.Refinement.{takes_step}
use Rattle.seq_kernel.proofs.RefineCallsFrame.{answered_flat, answered_shows}

-- the flat machine answers with a state that the running process shows after the turn
pub record Meets (d : MachineDesc) (p : Copies) (after : Turned) (result : Result FlatState Waits) : Type 0 where
  pub state : FlatState
  pub is : result ≡ Ok state
  pub flat : IsFlat d state
  pub shows : Shows d state (read_by d p after.cache) after.running

-- it does so wherever the turn takes a step
abbrev pub Fits : MachineDesc → Copies → Turned → Result FlatState Waits → Type 0
Fits d p after result = takes_step after.outcome → Meets d p after result

-- both go by one test
pub choose : (d : MachineDesc) (p : Copies) (test flat_test : Bool) (x y : Turned) (u v : Result FlatState Waits) → test ≡ flat_test → (test ≡ true → Fits d p x u) → (test ≡ false → Fits d p y v) → Fits d p (if test then x else y) (if flat_test then u else v)
choose d p true true x y u v same when unless = when refl
choose d p true false x y u v same when unless = absurd (false≢true (sym same))
choose d p false true x y u v same when unless = absurd (false≢true same)
choose d p false false x y u v same when unless = unless refl

pub choose_ok : (d : MachineDesc) (p : Copies) (test flat_test : Bool) (x y : Turned) (u v : FlatState) → test ≡ flat_test → (test ≡ true → Fits d p x (Ok u)) → (test ≡ false → Fits d p y (Ok v)) → Fits d p (if test then x else y) (Ok (if flat_test then u else v))
choose_ok d p true true x y u v same when unless = when refl
choose_ok d p true false x y u v same when unless = absurd (false≢true (sym same))
choose_ok d p false true x y u v same when unless = absurd (false≢true same)
choose_ok d p false false x y u v same when unless = unless refl

-- the flat machine doesn't go by this test
pub either_fits : (d : MachineDesc) (p : Copies) (test : Bool) (x y : Turned) (u : Result FlatState Waits) → Fits d p x u → Fits d p y u → Fits d p (if test then x else y) u
either_fits d p true x y u when unless = when
either_fits d p false x y u when unless = unless

-- both answer
pub answer_meets : (d : MachineDesc) (f : FlatState) (p : Copies) (r : Running) (c : Changes) (outcome : Outcome) (answer : ℕ) → IsFlat d f → r.pid.0 < length d.processes → Shows d f (read_by d p c) r → Meets d p (record { outcome = outcome; running = answered r answer; cache = c }) (Ok (flat.answered f r.pid.0 answer))
answer_meets d f p r c outcome answer is there shows = record {
  state = flat.answered f r.pid.0 answer;
  is = refl;
  flat = answered_flat d f r is there answer;
  shows = answered_shows d f r is there (read_by d p c) answer shows;
}

-- the rights of a process are those of its description
pub rights_are : (d : MachineDesc) (pid : ℕ) → pid < length d.processes → rights_at (rights_of d) pid ≡ record { lines = (process_of d pid).lines; grants = (process_of d pid).grants }
rights_are d pid there = get_or-map (λ (q : ProcessDesc). record { lines = q.lines; grants = q.grants }) d.processes pid no_process no_rights there

-- the same of an answer that is equal
pub meets_by : (d : MachineDesc) (p : Copies) (after : Turned) (result other : Result FlatState Waits) → result ≡ other → Meets d p after other → Meets d p after result
meets_by d p after result other same meets = record { state = meets.state; is = same ∙ meets.is; flat = meets.flat; shows = meets.shows }
