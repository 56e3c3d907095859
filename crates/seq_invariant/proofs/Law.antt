-- Every event that ends no run keeps all that stands, and so does every list of events, from the start on.
use Rattle.std.proofs.Common.{◌≡◌, ◌⊎◌, inl, inr, ℕ, ◌<◌, ◌≤◌, Bool, true, false, not, ◌&&◌, is_some, Option, Some, None, List, [], ◌∷◌, ◌++◌, length, refl, ap, sym, subst}
use Rattle.std.proofs.lemmas.Bool.{cond_both, cases_lt, false≢true}
use Rattle.std.proofs.lemmas.List.{append-nil, append_assoc}
use Rattle.seq_words.specs.Description.{IsDescription}
use Rattle.seq_words.specs.declared.description.MachineDesc.{MachineDesc}
use Rattle.seq_words.specs.declared.kinds.Element.TheVariants as element
use Rattle.seq_words.specs.declared.events.Event.{Event}
use Rattle.seq_words.specs.declared.events.Event.TheVariants as event
use Rattle.seq_kernel.specs.declared.outcomes.Note.TheVariants.{Nothing, Held}
use Rattle.seq_turns.specs.declared.hand.Hand.{Hand}
use Rattle.seq_turns.specs.declared.hand.Hand.TheVariants as hand
use Rattle.seq_turns.specs.declared.hand.RecoveryAt.{RecoveryAt}
use Rattle.seq_process.specs.declared.running.Running.{Running}
use Rattle.seq_turns.specs.declared.hand.RecoveryAt.TheVariants as recovery
use Rattle.seq_turns.specs.Machines.{Machine, Turn}
use Rattle.seq_turns.specs.Machines.Turn.{Stops}
use Rattle.seq_turns.specs.Allowed.{Allowed}
use Rattle.seq_turns.specs.Processors.{deserted, seeks, someone_amid, copies_or_waits, seeks_or_copies, runs, runs_or_copies, turn, next_process}
use Rattle.seq_turns.specs.Reading.{is_amid, is_copied, copied_memory, is_deserted, ruling as status_now}
use Rattle.seq_turns.specs.Events.{stopped, is_down, out, happens, is_check, stops, run}
use Rattle.seq_turns.proofs.Functions.{lowest_passes, lowest_none}
use Rattle.seq_stands.specs.Words.{words_of, AllUp}
use Rattle.seq_stands.specs.Standing.{Stands}
use Rattle.seq_stands.proofs.Law.{events_keep}
use Rattle.seq_stands.proofs.Moved.{all_in}
use Rattle.seq_stands.proofs.Others.{none_of}
use Rattle.seq_stands.proofs.Readings.{deserted_is}
use Rattle.seq_stands.proofs.FitStanding.{events_keep_fits}
use Rattle.seq_invariant.specs.BlockApart.{owners_of}
use Rattle.seq_invariant.specs.BlockWorks.{Committed}
use Rattle.seq_invariant.specs.BlockStanding.{BlocksStand}
use Rattle.seq_invariant.specs.BlockFrame.{IsAmidPass}
use Rattle.seq_stands.specs.LockOwners.{owners_made}
use Rattle.seq_invariant.proofs.BlockStops.{stops_keep_blocks}
use Rattle.seq_lines.specs.Arrivals.{arrived}
use Rattle.seq_invariant.proofs.IoBlocks.{io_keeps_blocks}
use Rattle.seq_invariant.specs.Holds.{Holds, AllHolds, EventsKeepAll, RunsKeepAll}
use Rattle.seq_invariant.proofs.Takes.{takes_bounds}
use Rattle.seq_invariant.proofs.Same.{blocks_same}
use Rattle.seq_invariant.proofs.Moved.{TurnMade}
use Rattle.seq_invariant.proofs.Stopped.{is_stop}
use Rattle.seq_invariant.proofs.Turned.{idle_made, ran, acquired, flushed, Words, Cache}
use Rattle.seq_invariant.proofs.Leaving.{claimed, unlocked, left_process, sought}
use Rattle.seq_invariant.proofs.Copied.{unit_made}
use Rattle.seq_invariant.proofs.Recovers.{begun_made, claimed_made, copying_made}
use Rattle.seq_invariant.proofs.Clearing.{locks_made, closing_made}
use Rattle.seq_invariant.proofs.Strikes.{struck_blocks, mended_blocks}
use Rattle.seq_invariant.proofs.Memories.{lost_blocks, back_blocks}
use Rattle.seq_invariant.proofs.Joined.{EventMade, all_holds, owners_hold}

-- A turn of a processor.
module _ (d : MachineDesc) (events : List Event) (at : Committed) (m : Machine) (p : ℕ) (described : IsDescription d) (st : Holds d events at m) where
  stop_blocks : AllUp (words_of d m) → BlocksStand d at (stopped m p)
  stop_blocks all = stops_keep_blocks d at m p (is_stop d (owners_of at.state) m p all st.words.words st.locks) st.blocks

  stop_made : AllUp (words_of d m) → TurnMade d at m p Stops
  stop_made all = record { now = at; inputs = refl; owners = λ s. refl; blocks = stop_blocks all }

  abbrev Left : Turn → Type 0
  Left t = Words d events at m p described st t → Cache d events at m p described st t → (stops t ≡ true → AllUp (words_of d m)) → TurnMade d at m p t

  stops_if : (t : Turn) → (stops t ≡ true → AllUp (words_of d m)) → t ≡ Stops → TurnMade d at m p Stops
  stops_if t all e = stop_made (all (ap stops e))

  -- a memory is to be copied
  waits : (h : Hand) → m.hand p ≡ h → (IsAmidPass h → ⊥) → ((x : RecoveryAt) → h ≡ hand.Recovering x → ⊥) → (j : ℕ) (o : Option ℕ) → copied_memory d m.copies ≡ Some j → someone_amid d m ≡ o → Left (copies_or_waits m p j o)
  waits h e none calm j (Some r) k a st' cache all = idle_made d events at m p described st h e none calm Held
  waits h e none calm j None k a st' cache all =
      let found = lowest_passes (λ i. is_copied (m.copies.state i)) d.memories j k in
      record { now = at; inputs = refl; owners = λ s. refl; blocks = unit_made d at m j described found.1 found.0 quiet st.words st.blocks st' }
    where
      quiet : (r : ℕ) → is_amid (m.hand r) ≡ false
      quiet r = go (cases_lt r d.processors)
        where
          go : (r < d.processors) ⊎ (d.processors ≤ r) → is_amid (m.hand r) ≡ false
          go (inl l) = lowest_none (λ i. is_amid (m.hand i)) d.processors a r l
          go (inr l) = ap is_amid (st.words.hands.beyond r l)

  seeking : m.hand p ≡ hand.Seek → (o : Option ℕ) → copied_memory d m.copies ≡ o → Left (seeks_or_copies d m p o)
  seeking e (Some j) k = waits hand.Seek e (λ x. x) (λ x i. let c : ⊥ = cc in c) j (someone_amid d m) k refl
  seeking e None k = go (deserted d m) refl
    where
      go : (o : Option ℕ) → deserted d m ≡ o → Left (seeks d m p o)
      go (Some q) h st' cache all =
          let found = lowest_passes (λ x. is_deserted m.incarnation (status_now d m.copies x)) (length d.processes) q h in
          begun_made d events at m p described st q found.1 e (deserted_is d m.copies (words_of d m) q refl (st.words.words.served q) found.0 (st.words.words.ruled q found.1)) found.0 st'
      go None h st' cache all = sought d events at m p described st e (next_process d (m.scan p)) st' cache

  running : (r : Running) → m.hand p ≡ hand.Running r → (o : Option ℕ) → copied_memory d m.copies ≡ o → Left (runs_or_copies d m p r o)
  running r e (Some j) k = waits (hand.Running r) e (λ x. x) (λ x i. let c : ⊥ = cc in c) j (someone_amid d m) k refl
  running r e None k = λ st' cache all. ran d events at m p described st r e st' cache (stops_if (runs d m p r) all)

  turned : (h : Hand) → m.hand p ≡ h → Left (turn d m p h)
  turned hand.Down e st' cache all = idle_made d events at m p described st hand.Down e (λ x. x) (λ x i. let c : ⊥ = cc in c) Nothing
  turned hand.Seek e st' cache all = seeking e (copied_memory d m.copies) refl st' cache all
  turned (hand.Claiming q c) e st' cache all = claimed d events at m p described st q.0 c e st' cache
  turned (hand.Running r) e st' cache all = running r e (copied_memory d m.copies) refl st' cache all
  turned (hand.Acquiring r t c) e st' cache all = acquired d events at m p described st r t c e st' cache (stops_if (turn d m p (hand.Acquiring r t c)) all)
  turned (hand.Flushing r why mask f) e st' cache all = flushed d events at m p described st r why mask f e st' cache
  turned (hand.Unlocking r why mask l) e st' cache all = unlocked d events at m p described st r why mask l e st' cache
  turned (hand.Leaving q l) e st' cache all = left_process d events at m p described st q.0 l e st' cache
  turned (hand.Recovering (recovery.Claimed r)) e st' cache all = claimed_made d events at m p described st r e st'
  turned (hand.Recovering (recovery.Copying r)) e st' cache all = copying_made d events at m p described st r e st'
  turned (hand.Recovering (recovery.Locks r)) e st' cache all = locks_made d events at m p described st r e st'
  turned (hand.Recovering (recovery.Closing r)) e st' cache all = closing_made d events at m p described st r e st'

-- An event.
module _ (d : MachineDesc) (events : List Event) (at : Committed) (m : Machine) (described : IsDescription d) (st : Holds d events at m) where
  -- what is committed stays
  stays : (e : Event) → ((t : ℕ) → owners_of at.state t ≡ owners_made d (owners_of at.state) m e t) → BlocksStand d at (happens d m e) → EventMade d at m e
  stays e owners blocks = record { now = at; inputs = refl; owners = owners; blocks = blocks }

  unstopped : (a b : Bool) → (a && b) ≡ false → a ≡ true → b ≡ false
  unstopped true b e t = e
  unstopped false b e t = absurd (false≢true t)

  all_if : (o : is_some (out d m) ≡ false) → AllUp (words_of d m)
  all_if o = all_in d m described.memories.low_at (none_of (out d m) o)

  event_made : (e : Event) → Allowed d m e → is_check d m e ≡ false → Stands d (happens d m e) → EventMade d at m e
  event_made (event.Processor p) ok check st' =
      let made : TurnMade d at m p.0 (turn d m p.0 (m.hand p.0)) = turned d events at m p.0 described st (m.hand p.0) refl st'.words
      ((events_keep_fits d m (event.Processor p) described ok st.words (takes_bounds d at m described st.words st.locks st.blocks (event.Processor p)) st.fits).hands.caches p.0)
      (λ t. all_if (unstopped (stops (turn d m p.0 (m.hand p.0))) (is_some (out d m)) check t)) in
      record { now = made.now; inputs = made.inputs; owners = made.owners; blocks = made.blocks }
  event_made (event.Io i) ok check st' = stays (event.Io i) (λ t. refl) (io_keeps_blocks d (arrived d events) at.state at m i.0 described st.words st.lines st.blocks)
  event_made (event.Input l byte) ok check st' = stays (event.Input l byte) (λ t. refl) (blocks_same d at m m.scan m.io (happens d m (event.Input l byte)).port m.sent m.hung st.blocks)
  event_made (event.Close l) ok check st' = stays (event.Close l) (λ t. refl) (blocks_same d at m m.scan m.io (happens d m (event.Close l)).port m.sent m.hung st.blocks)
  event_made (event.Fail (element.Processor p)) ok check st' = stays (event.Fail (element.Processor p)) (λ t. refl)
      (cond_both (is_down (m.hand p.0)) m (stopped m p.0) (BlocksStand d at) (λ _. st.blocks)
      (λ up. stop_blocks d events at m p.0 described st (all_if (unstopped (not (is_down (m.hand p.0))) (is_some (out d m)) check (ap not up)))))
  event_made (event.Fail (element.Memory i)) ok check st' = stays (event.Fail (element.Memory i)) (λ t. refl) (lost_blocks d m st.words.words at i.0 ok.memory check st'.words st.blocks)
  event_made (event.Fail (element.Io i)) ok check st' = stays (event.Fail (element.Io i)) (λ t. refl) (blocks_same d at m m.scan (happens d m (event.Fail (element.Io i))).io m.port m.sent m.hung st.blocks)
  event_made (event.Repair (element.Processor p)) ok check st' = stays (event.Repair (element.Processor p)) (λ t. refl) (mended_blocks d at m p.0 ok.1 st.blocks)
  event_made (event.Repair (element.Memory i)) ok check st' = stays (event.Repair (element.Memory i)) (λ t. refl) (back_blocks d at m i.0 ok.memory ok.down st.words.words st.blocks st'.words)
  event_made (event.Repair (element.Io i)) ok check st' = stays (event.Repair (element.Io i)) (λ t. refl) (blocks_same d at m m.scan (happens d m (event.Repair (element.Io i))).io m.port m.sent m.hung st.blocks)
  event_made (event.Upset p half reg mask) ok check st' = stays (event.Upset p half reg mask) (λ t. refl) (struck_blocks d at m p.0 half reg mask ok.other st.blocks)
  event_made (event.Hangup l) ok check st' = stays (event.Hangup l) (λ t. refl) (blocks_same d at m m.scan m.io m.port m.sent (happens d m (event.Hangup l)).hung st.blocks)

pub events_keep_all : EventsKeepAll
events_keep_all d events m e described ok check all =
    all_holds d events all.at m e described ok check all.holds (event_made d events all.at m described all.holds e ok check (events_keep d m e described ok check all.holds.words))

-- and the owners are those that it made
pub owners_kept : (d : MachineDesc) (events : List Event) (m : Machine) (e : Event) (described : IsDescription d) (ok : Allowed d m e) (check : is_check d m e ≡ false) (all : AllHolds d events m) →
    (t : ℕ) → owners_of (events_keep_all d events m e described ok check all).at.state t ≡ owners_made d (owners_of all.at.state) m e t
unfolding events_keep_all
owners_kept d events m e described ok check all =
    owners_hold d events all.at m e described ok check all.holds (event_made d events all.at m described all.holds e ok check (events_keep d m e described ok check all.holds.words))

pub runs_keep_all : RunsKeepAll
runs_keep_all d events [] m described ok all = subst (λ es. AllHolds d es m) (sym (append-nil events)) all
runs_keep_all d events (e ∷ es) m described ok all = subst (λ xs. AllHolds d xs (run d (e ∷ es) m)) (append_assoc events (e ∷ []) es) (runs_keep_all d (events ++ e ∷ []) es (happens d m e) described ok.2 (events_keep_all d events m e described ok.0 ok.1 all))
