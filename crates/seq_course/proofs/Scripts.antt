-- The events of a script that violates no rule may be made, and the ports agree with what the scripts have done.
use Rattle.std.proofs.Common.{◌≡◌, ℕ, zero, suc, ◌+◌, ◌<◌, ◌≤◌, Bool, true, false, ◌||◌, None, List, [], ◌∷◌, ◌++◌, length, map, refl, sym, ap, arith}
use Rattle.std.specs.List.{list_any, sum_by, range_with_len}
use Rattle.std.proofs.lemmas.Bool.{not-false, ltb-true, ltb-false}
use Rattle.std.proofs.lemmas.List.Sums.{sum_by-cons}
use Rattle.seq_words.specs.Description.{IsDescription}
use Rattle.seq_words.specs.declared.names.LineNo.{LineNo}
use Rattle.seq_words.specs.declared.kinds.Element.TheVariants as elements
use Rattle.seq_words.specs.declared.description.MachineDesc.{MachineDesc}
use Rattle.seq_words.specs.declared.events.Event.{Event}
use Rattle.seq_words.specs.declared.events.Event.TheVariants as events
use Rattle.seq_schedule.specs.declared.script.Script.{Script}
use Rattle.seq_schedule.specs.declared.script.Script.TheVariants as scripts
use Rattle.seq_schedule.specs.Scripted.{turn_of, times, round_of, events_in}
use Rattle.seq_schedule.specs.Rules.{closes, bytes_on, is_line, past, rule_of}
use Rattle.seq_schedule.specs.Faultless.{IsBuiltEvent, IsBuiltScript}
use Rattle.seq_schedule.proofs.Ranges.{present, state_none, cond-none}
use Rattle.seq_turns.specs.Machines.{Machine}
use Rattle.seq_course.specs.Course.{made_by}
use Rattle.seq_course.specs.Troubles.{Agrees, IsTrouble}
use Rattle.seq_course.proofs.Lines.{line_is_there}
use Rattle.seq_course.proofs.Ports.{IsAt, LeadTo, AreTurns, is_alike, trouble_leads, turns_lead, inputs_lead, close_leads}
use Rattle.seq_course.proofs.AllowedTroubles.{troubles_allowed}

abbrev pub line_at : ℕ → LineNo
line_at n = record { 0 = n }

-- how much these scripts let arrive on a line, and whether they close it
abbrev pub arrived_by : List Script → ℕ → ℕ
arrived_by before l = sum_by (bytes_on (line_at l)) before

abbrev pub closed_by : List Script → ℕ → Bool
closed_by before l = list_any (closes (line_at l)) before

-- ---- turns, several times

turns-append : (d : MachineDesc) (es more : List Event) → AreTurns d es → AreTurns d more → AreTurns d (es ++ more)
turns-append d [] more are then = then
turns-append d (e ∷ es) more are then = (are.0, turns-append d es more are.1 then)

turns-times : (d : MachineDesc) (n : ℕ) (es : List Event) → AreTurns d es → AreTurns d (times n es)
unfolding times
turns-times d zero es are = tt
turns-times d (suc n) es are = turns-append d es (times n es) are (turns-times d n es are)

processors_turn : (d : MachineDesc) (a n : ℕ) → a + n ≤ d.processors → AreTurns d (map (λ k. events.Processor (record { 0 = k })) (range_with_len a n))
processors_turn d a zero le = tt
processors_turn d a (suc n) le = let there : a < d.processors = omega arith in (there, processors_turn d (a + 1) n (omega arith))

ios_turn : (d : MachineDesc) (a n : ℕ) → a + n ≤ d.ios → AreTurns d (map (λ k. events.Io (record { 0 = k })) (range_with_len a n))
ios_turn d a zero le = tt
ios_turn d a (suc n) le = let there : a < d.ios = omega arith in (there, ios_turn d (a + 1) n (omega arith))

round_turns : (d : MachineDesc) → AreTurns d (round_of d)
unfolding round_of
round_turns d = turns-append d _ _ (processors_turn d 0 d.processors (omega arith)) (ios_turn d 0 d.ios (omega arith))

-- ---- a script more

module _ (d : MachineDesc) (described : IsDescription d) (before : List Script) (m : Machine) (at : IsAt (arrived_by before) (closed_by before) m) (agrees : Agrees d before m) where
  nothing_arrives : (s : Script) → ((l : ℕ) → bytes_on (line_at l) s ≡ 0) → (l : ℕ) → arrived_by before l ≡ arrived_by (s ∷ before) l
  nothing_arrives s none l =
      let more : arrived_by (s ∷ before) l ≡ bytes_on (line_at l) s + arrived_by before l = sum_by-cons (bytes_on (line_at l)) s before in
      let zero : bytes_on (line_at l) s ≡ 0 = none l in
      omega arith

  -- what the ports agree with behind a script
  abbrev LeadsBehind : Script → List Event → Type 0
  LeadsBehind s es = LeadTo d es m (arrived_by (s ∷ before)) (closed_by (s ∷ before))

  -- a script that lets nothing arrive and closes nothing
  at_behind : (s : Script) → ((l : ℕ) → bytes_on (line_at l) s ≡ 0) → ((l : ℕ) → closes (line_at l) s ≡ false) → IsAt (arrived_by (s ∷ before)) (closed_by (s ∷ before)) m
  at_behind s none open_yet = is_alike (arrived_by before) (arrived_by (s ∷ before)) (closed_by before) (closed_by (s ∷ before)) m (nothing_arrives s none) (λ l. sym (ap (λ b. b || closed_by before l) (open_yet l))) at

  turns_script : (s : Script) (es : List Event) → AreTurns d es → ((l : ℕ) → bytes_on (line_at l) s ≡ 0) → ((l : ℕ) → closes (line_at l) s ≡ false) → LeadsBehind s es
  turns_script s es are none open_yet = turns_lead d (arrived_by (s ∷ before)) (closed_by (s ∷ before)) m es are (at_behind s none open_yet)

  -- a failure, a repair or a strike
  trouble_script : (e : Event) → IsTrouble e → IsBuiltEvent e → rule_of d (past d before) (scripts.One e) ≡ None → ((l : ℕ) → closes (line_at l) (scripts.One e) ≡ false) → LeadsBehind (scripts.One e) (e ∷ [])
  trouble_script e is built none open_yet = trouble_leads d (arrived_by (scripts.One e ∷ before)) (closed_by (scripts.One e ∷ before)) m e is (troubles_allowed d m e before agrees is built none) (at_behind (scripts.One e) (λ l. refl) open_yet)

  closes_script : (k : LineNo) → is_line d k ≡ true → closed_by before k.0 ≡ false → LeadsBehind (scripts.One (events.Close k)) (events.Close k ∷ [])
  closes_script k there open_yet =
      let leads = close_leads d (arrived_by before) (closed_by before) m k (line_is_there d k described there) open_yet at in
      record {
        may = leads.may;
        at = is_alike (arrived_by before) (arrived_by (scripts.One (events.Close k) ∷ before)) (closed_by (scripts.One (events.Close k) ∷ before)) (closed_by (scripts.One (events.Close k) ∷ before)) _
            (nothing_arrives (scripts.One (events.Close k)) (λ l. refl)) (λ l. refl) leads.at;
      }

  inputs_script : (k : LineNo) (bytes : List ℕ) → is_line d k ≡ true → closed_by before k.0 ≡ false → arrived_by before k.0 + length bytes ≤ d.journal → LeadsBehind (scripts.Bytes k bytes) (map (λ byte. events.Input k byte) bytes)
  inputs_script k bytes there open_yet room =
      let leads = inputs_lead d (arrived_by before) (closed_by before) m k bytes (line_is_there d k described there) room open_yet at in
      record {
        may = leads.may;
        at = is_alike _ (arrived_by (scripts.Bytes k bytes ∷ before)) (closed_by before) (closed_by (scripts.Bytes k bytes ∷ before)) _
            (λ l. sym (sum_by-cons (bytes_on (line_at l)) (scripts.Bytes k bytes) before)) (λ l. refl) leads.at;
      }

  pub script_leads : (s : Script) (k : ℕ) → IsBuiltScript s → rule_of d (past d before) s ≡ None → LeadsBehind s (made_by d s k)
  unfolding events_in
  script_leads (scripts.One (events.Processor p)) k built none = turns_script (scripts.One (events.Processor p)) (events.Processor p ∷ []) (ltb-true _ _ (not-false _ (present d (past d before) (scripts.One (events.Processor p)) none)), tt) (λ l. refl) (λ l. refl)
  script_leads (scripts.One (events.Io i)) k built none = turns_script (scripts.One (events.Io i)) (events.Io i ∷ []) (ltb-true _ _ (not-false _ (present d (past d before) (scripts.One (events.Io i)) none)), tt) (λ l. refl) (λ l. refl)
  script_leads (scripts.One (events.Close l)) k built none = closes_script l (not-false _ (present d (past d before) (scripts.One (events.Close l)) none)) (cond-none _ 36 None (state_none d (past d before) (scripts.One (events.Close l)) none)).0
  script_leads (scripts.One (events.Input l byte)) k built none = absurd built
  script_leads (scripts.One (events.Fail e)) k built none = trouble_script (events.Fail e) tt built none (λ l. refl)
  script_leads (scripts.One (events.Repair e)) k built none = trouble_script (events.Repair e) tt built none (λ l. refl)
  script_leads (scripts.One (events.Upset p half reg mask)) k built none = trouble_script (events.Upset p half reg mask) tt built none (λ l. refl)
  script_leads (scripts.One (events.Hangup l)) k built none = absurd built
  script_leads (scripts.Bytes l bytes) k built none =
      let open_yet = cond-none (closed_by before l.0) 36 _ (state_none d (past d before) (scripts.Bytes l bytes) none) in
      inputs_script l bytes (not-false _ (present d (past d before) (scripts.Bytes l bytes) none)) open_yet.0 (ltb-false _ _ (cond-none _ 37 None open_yet.1).0)
  script_leads (scripts.Turns (elements.Processor p) n) k built none = turns_script (scripts.Turns (elements.Processor p) n) _ (turns-times d n (turn_of (elements.Processor p)) (ltb-true _ _ (not-false _ (present d (past d before) (scripts.Turns (elements.Processor p) n) none)), tt)) (λ l. refl) (λ l. refl)
  script_leads (scripts.Turns (elements.Memory i) n) k built none = absurd built
  script_leads (scripts.Turns (elements.Io i) n) k built none = turns_script (scripts.Turns (elements.Io i) n) _ (turns-times d n (turn_of (elements.Io i)) (ltb-true _ _ (not-false _ (present d (past d before) (scripts.Turns (elements.Io i) n) none)), tt)) (λ l. refl) (λ l. refl)
  script_leads (scripts.Rounds n) k built none = turns_script (scripts.Rounds n) _ (turns-times d n (round_of d) (round_turns d)) (λ l. refl) (λ l. refl)
  script_leads (scripts.Finish n) k built none = turns_script (scripts.Finish n) _ (turns-times d k (round_of d) (round_turns d)) (λ l. refl) (λ l. refl)
