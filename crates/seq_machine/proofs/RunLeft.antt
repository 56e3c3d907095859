-- What a turn of a running process leaves of its cache.
use Rattle.std.proofs.Common.{◌≡◌, ℕ, ◌-◌, false, ◌==◌, [], refl, sym, ap, ◌∙◌}
use Rattle.std.proofs.lemmas.Bool.{cond_both}
use Rattle.seq_words.specs.declared.description.MachineDesc.{MachineDesc}
use Rattle.seq_layout.specs.Shapes.{shape_of}
use Rattle.seq_process.specs.declared.running.Running.{Running}
use Rattle.seq_cache.specs.Changes.{Changes}
use Rattle.seq_kernel.specs.declared.outcomes.Cause.{Cause}
use Rattle.seq_kernel.specs.declared.outcomes.Cause.TheVariants.{Wait}
use Rattle.seq_kernel.specs.declared.outcomes.Reason.TheVariants.{Lock}
use Rattle.seq_kernel.specs.declared.outcomes.Note.TheVariants as note
use Rattle.seq_locks.specs.Turns.{is_taken, word_at}
use Rattle.seq_turns.specs.declared.hand.Hand.{Hand}
use Rattle.seq_turns.specs.Machines.{Machine, Turn, idles}
use Rattle.seq_turns.specs.Machines.Turn.{Moves, Stops as StopsProcessor}
use Rattle.seq_turns.specs.Reading.{lock_word}
use Rattle.seq_turns.specs.Causes.{agree, follows, flushes, finds}
use Rattle.seq_machine.specs.Here.{turned, cache_after}
use Rattle.seq_machine.specs.Runs.{turn_after}
use Rattle.seq_machine.specs.Processors.{hand_left, cache_left, processor_after}
use Rattle.seq_machine.specs.declared.hardware.Processor.{Processor}
use Rattle.seq_machine.specs.declared.runs.Ran.{Ran}
use Rattle.seq_machine.specs.declared.runs.Ran.TheVariants.{Goes, Leaves, Acquires, Stops}

-- a turn leaves the cache that the step left, cleared where the processor stops; its capacity is that of the cache before
abbrev LeavesCache : Changes → Changes → Turn → Type 0
LeavesCache old new t = cache_left (turned t) new ≡ cache_left (turned t) (cache_after old t)

module _ (d : MachineDesc) (m : Machine) (p : ℕ) (r : Running) (old new : Changes) (same : new.capacity ≡ old.capacity) where
  stop_leaves : LeavesCache old new StopsProcessor
  stop_leaves = λ i. record { capacity = same i; changes = [] }

  finds_leaves : (cause : Cause) (mask : ℕ) → LeavesCache old new (finds d m p r new cause mask)
  finds_leaves cause mask = cond_both (r.steps == 0) (Moves (record (idles m p) { hand = follows d r cause mask; cache = new; note = note.Found r.pid cause })) _ (LeavesCache old new) (λ _. refl)
      (λ _. cond_both (agree r.pair) (Moves (record (idles m p) { hand = flushes m p r cause mask; cache = new; note = note.Found r.pid cause })) StopsProcessor (LeavesCache old new) (λ _. refl) (λ _. stop_leaves))

  pub ran_leaves : m.cache p ≡ new → (ran : Ran) → LeavesCache old new (turn_after d m p r new ran)
  ran_leaves is Goes = refl
  ran_leaves is (Leaves cause mask) = finds_leaves cause mask
  ran_leaves is (Acquires t) = cond_both (is_taken (shape_of d) m.copies (lock_word d t.0) false)
      (finds d m p r (m.cache p) (Wait (Lock t (record { 0 = word_at m.copies (lock_word d t.0) false - 1 }))) 0) _ (LeavesCache old new)
      (λ _. rw is (finds_leaves (Wait (Lock t (record { 0 = word_at m.copies (lock_word d t.0) false - 1 }))) 0))
      (λ _. sym is)
  ran_leaves is Stops = stop_leaves

-- the processor after a turn whose hand and cache these are
pub processor_is : (t u : Turn) (old : Processor) (new : Changes) (h : Hand) (c : Changes) → t ≡ u → h ≡ hand_left (turned t) → c ≡ cache_left (turned t) new → LeavesCache old.cache new t → record { hand = h; cache = c } ≡ processor_after u old
processor_is t u old new h c same hand cache kept = λ i. record {
  hand = (hand ∙ ap (λ (x : Turn). hand_left (turned x)) same) i;
  cache = (cache ∙ kept ∙ (λ j. cache_left (turned (same j)) (cache_after old.cache (same j)))) i;
}
