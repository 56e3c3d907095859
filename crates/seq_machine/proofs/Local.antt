-- What a turn of an operation depends on, and that it moves its processor or stops it.
use Rattle.std.proofs.Common.{ℕ, ◌-◌, true, ◌==◌, refl}
use Rattle.std.proofs.lemmas.Bool.{cond_both}
use Rattle.seq_words.specs.declared.description.MachineDesc.{MachineDesc}
use Rattle.seq_words.specs.declared.names.Seg.{Seg}
use Rattle.seq_layout.specs.Shapes.{shape_of}
use Rattle.seq_cache.specs.Changes.{Changes}
use Rattle.seq_process.specs.declared.running.Running.{Running}
use Rattle.seq_kernel.specs.declared.outcomes.Cause.{Cause}
use Rattle.seq_kernel.specs.declared.outcomes.Cause.TheVariants.{Wait}
use Rattle.seq_kernel.specs.declared.outcomes.Reason.TheVariants.{Lock}
use Rattle.seq_kernel.specs.declared.outcomes.Note.TheVariants.{Found, Ran}
use Rattle.seq_kernel.specs.Calls.{granted}
use Rattle.seq_locks.specs.declared.claim.Claim.{Claim}
use Rattle.seq_locks.specs.declared.stages.Shadow.{Shadow}
use Rattle.seq_locks.specs.Turns.{is_taken, word_at}
use Rattle.seq_turns.specs.Machines.{Machine, Turn, idles}
use Rattle.seq_turns.specs.Machines.Turn.{Moves, Stops}
use Rattle.seq_turns.specs.Causes.{agree, flushes, finds}
use Rattle.seq_turns.specs.Operations.{goes, sets, acquires}
use Rattle.seq_turns.specs.declared.hand.Hand.TheVariants as hand
use Rattle.seq_turns.specs.declared.hand.FlushAt.TheVariants as flush
use Rattle.seq_turns.specs.declared.hand.ReleaseAt.TheVariants as release
use Rattle.seq_machine.specs.Local.{OperationsAreLocal, IsMoveOrStop, OperationsMoveOrStop}

pub operations_are_local : OperationsAreLocal
operations_are_local d m p hand.Down operating = absurd operating
operations_are_local d m p hand.Seek operating = absurd operating
operations_are_local d m p (hand.Claiming q c) operating = refl
operations_are_local d m p (hand.Running r) operating = absurd operating
operations_are_local d m p (hand.Acquiring r t c) operating = refl
operations_are_local d m p (hand.Flushing r cause mask (flush.Mark f)) operating = refl
operations_are_local d m p (hand.Flushing r cause mask (flush.First f)) operating = refl
operations_are_local d m p (hand.Flushing r cause mask (flush.Second f)) operating = refl
operations_are_local d m p (hand.Flushing r cause mask (flush.Close f)) operating = refl
operations_are_local d m p (hand.Unlocking r cause mask (release.Shadow l)) operating = refl
operations_are_local d m p (hand.Unlocking r cause mask (release.Primary l)) operating = refl
operations_are_local d m p (hand.Leaving q (release.Shadow l)) operating = refl
operations_are_local d m p (hand.Leaving q (release.Primary l)) operating = refl
operations_are_local d m p (hand.Recovering r) operating = absurd operating

finds_moves : (d : MachineDesc) (m : Machine) (p : ℕ) (r : Running) (cache : Changes) (cause : Cause) (mask : ℕ) → IsMoveOrStop (finds d m p r cache cause mask)
finds_moves d m p r cache cause mask = cond_both (r.steps == 0) _ _ (λ (t : Turn). IsMoveOrStop t) (λ _. tt)
    (λ _. cond_both (agree r.pair) (Moves (record (idles m p) { hand = flushes m p r cause mask; cache = cache; note = Found r.pid cause })) Stops (λ (t : Turn). IsMoveOrStop t) (λ _. tt) (λ _. tt))

acquires_moves : (d : MachineDesc) (m : Machine) (p : ℕ) (r : Running) (t : Seg) (c : Claim Shadow) → IsMoveOrStop (acquires d m p r t c)
acquires_moves d m p r t c =
    let cause = Wait (Lock t (record { 0 = word_at m.copies c.at true - 1 })) in
    cond_both (is_taken (shape_of d) m.copies c.at true) (finds d m p r (m.cache p) cause 0)
    (Moves (record (goes m p (sets d m c.at true c.value) (hand.Running (granted r t.0))) { note = Ran r.pid })) (λ (x : Turn). IsMoveOrStop x)
    (λ _. finds_moves d m p r (m.cache p) cause 0) (λ _. tt)

pub operations_move_or_stop : OperationsMoveOrStop
operations_move_or_stop d m p hand.Down operating = absurd operating
operations_move_or_stop d m p hand.Seek operating = absurd operating
operations_move_or_stop d m p (hand.Claiming q c) operating = tt
operations_move_or_stop d m p (hand.Running r) operating = absurd operating
operations_move_or_stop d m p (hand.Acquiring r t c) operating = acquires_moves d m p r t c
operations_move_or_stop d m p (hand.Flushing r cause mask f) operating = tt
operations_move_or_stop d m p (hand.Unlocking r cause mask l) operating = tt
operations_move_or_stop d m p (hand.Leaving q l) operating = tt
operations_move_or_stop d m p (hand.Recovering r) operating = absurd operating
