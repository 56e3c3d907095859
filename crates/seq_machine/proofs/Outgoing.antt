-- What a turn of an I/O element sends is what its note says.
use Rattle.std.proofs.Common.{◌≡◌, inl, inr, ℕ, suc, Bool, true, false, not, ◌&&◌, ◌==◌, if◌then◌else◌, nat_lt, List, [], Some, None, get_or, refl, sym}
use Rattle.std.specs.Prelude.{IsSome}
use Rattle.std.proofs.lemmas.Bool.{cond_both, cases_Bool, false≢true}
use Rattle.seq_words.specs.declared.description.MachineDesc.{MachineDesc}
use Rattle.seq_words.specs.declared.events.Event.TheVariants as event
use Rattle.seq_shelf.specs.Rows.{on_line}
use Rattle.seq_io.specs.Turns.{bytes_of}
use Rattle.seq_io.specs.Changes.Change.{Unchanged}
use Rattle.seq_kernel.specs.declared.outcomes.Note.{Note}
use Rattle.seq_kernel.specs.declared.outcomes.Note.TheVariants.{Nothing, Sent, Taken}
use Rattle.seq_turns.specs.Machines.{Machine, Change}
use Rattle.seq_turns.specs.Duties.{Duty, accepted, goal, outbox_at, is_below, is_at, differs, journals, line_set, changes, nothing, closes, takes, takes_or_closes, tells_sent, may_send, duty, rests}
use Rattle.seq_turns.specs.Events.{note}
use Rattle.seq_machine.specs.Serving.{sent_by, Sends}
use Rattle.seq_machine.specs.Happening.{sent_in, entries_in, IsSentOn}

none_either : (b : Bool) → ◌≡◌ {A = List ℕ} [] (if b then [] else [])
none_either true = refl
none_either false = refl

-- a duty at a line sends the byte that its note says, and no other
record Tells (at : ℕ) (done : Duty) : Type 0 where
  pub bytes : (l : ℕ) → sent_in done.note l ≡ on_line at (bytes_of done.sent) l
  pub sends : IsSome done.sent → IsSentOn done.note at
  pub uncommitted : entries_in done.note ≡ []

module _ (d : MachineDesc) (m : Machine) (l : ℕ) where
  changes_tell : (change : Change) → Tells l (changes m l change)
  changes_tell change = record { bytes = λ k. none_either (k == l); sends = λ some. absurd (false≢true some); uncommitted = refl }

  nothing_tells : Tells l (nothing m l)
  nothing_tells = record { bytes = λ k. none_either (k == l); sends = λ some. absurd (false≢true some); uncommitted = refl }

  taken_tells : (at : ℕ) → Tells l (record { change = Unchanged; taken = at; sent = None; note = Taken (record { 0 = l }) })
  taken_tells at = record { bytes = λ k. none_either (k == l); sends = λ some. absurd (false≢true some); uncommitted = refl }

  closes_tells : Tells l (closes d m l)
  closes_tells =
      cond_both (not (m.port l).closed) (nothing m l) _ (Tells l) (λ _. nothing_tells) (λ _.
      cond_both (is_at d m.copies l 1 false 0) (changes m l (line_set d l 1 false 1)) _ (Tells l) (λ _. changes_tell (line_set d l 1 false 1)) (λ _.
      cond_both (is_at d m.copies l 1 true 0) (changes m l (line_set d l 1 true 1)) (nothing m l) (Tells l) (λ _. changes_tell (line_set d l 1 true 1)) (λ _. nothing_tells)))

  takes_tells : (at byte : ℕ) → Tells l (takes d m l at byte)
  takes_tells at byte =
      cond_both (is_at d m.copies l 0 false at && differs d m.copies l false at byte) (changes m l (journals d m.copies l false at byte)) _ (Tells l) (λ _. changes_tell (journals d m.copies l false at byte)) (λ _.
      cond_both (is_at d m.copies l 0 true at && differs d m.copies l true at byte) (changes m l (journals d m.copies l true at byte)) _ (Tells l) (λ _. changes_tell (journals d m.copies l true at byte)) (λ _.
      cond_both (is_at d m.copies l 0 false at) (changes m l (line_set d l 0 false (suc at))) _ (Tells l) (λ _. changes_tell (line_set d l 0 false (suc at))) (λ _.
      cond_both (is_at d m.copies l 0 true at) (changes m l (line_set d l 0 true (suc at))) (record { change = Unchanged; taken = suc at; sent = None; note = Taken (record { 0 = l }) }) (Tells l)
      (λ _. changes_tell (line_set d l 0 true (suc at))) (λ _. taken_tells (suc at)))))

  rest_tells : Tells l (takes_or_closes d m l)
  rest_tells =
      let port = m.port l in
      cond_both (nat_lt port.taken port.arrived) (takes d m l port.taken (get_or port.store port.taken 0)) (closes d m l) (Tells l) (λ _. takes_tells port.taken (get_or port.store port.taken 0)) (λ _. closes_tells)

  told_tells : Tells l (tells_sent d m l)
  told_tells =
      cond_both (is_below d m.copies l 2 false (goal d m l)) (changes m l (line_set d l 2 false (goal d m l))) _ (Tells l) (λ _. changes_tell (line_set d l 2 false (goal d m l))) (λ _.
      cond_both (is_below d m.copies l 2 true (goal d m l)) (changes m l (line_set d l 2 true (goal d m l))) (takes_or_closes d m l) (Tells l) (λ _. changes_tell (line_set d l 2 true (goal d m l))) (λ _. rest_tells))

  duty_tells : Tells l (duty d m l)
  duty_tells =
      let byte = outbox_at d m.copies l (accepted m l) in
      cond_both (may_send d m l) (record { change = Unchanged; taken = (m.port l).taken; sent = Some byte; note = Sent (record { 0 = l }) byte }) (tells_sent d m l) (Tells l)
      (λ _. record { bytes = λ k. refl; sends = λ some. refl; uncommitted = refl }) (λ _. told_tells)

module _ (d : MachineDesc) (m : Machine) (i : ℕ) where
  -- the bytes of an element's turn are those of its note
  pub sent_told : (l : ℕ) → sent_by d m i l ≡ sent_in (note d m (event.Io (record { 0 = i }))) l
  sent_told l = elim (cases_Bool (rests d m i)) [
    | inl t ↦ rw t refl
    | inr f ↦ rw f (sym ((duty_tells d m (m.io i).cursor).bytes l))
  ]

  -- it sends on the line under its cursor, where it is to send
  pub sends_told : Sends d m i → IsSentOn (note d m (event.Io (record { 0 = i }))) (m.io i).cursor
  sends_told s = rw s.0 ((duty_tells d m (m.io i).cursor).sends s.1)

  -- it commits nothing
  pub nothing_committed : entries_in (note d m (event.Io (record { 0 = i }))) ≡ []
  nothing_committed = cond_both (rests d m i) Nothing (duty d m (m.io i).cursor).note (λ (n : Note). entries_in n ≡ []) (λ _. refl) (λ _. (duty_tells d m (m.io i).cursor).uncommitted)
