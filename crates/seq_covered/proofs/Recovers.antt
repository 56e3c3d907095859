-- Who recovers a process, and how many are deserted.
use Rattle.std.proofs.Common.{◌≡◌, ◌⊎◌, inl, inr, ℕ, ◌<◌, ◌≤◌, Bool, true, false, ◌==◌, Option, Some, None, length, refl, ap, sym, ◌∙◌, subst, arith}
use Rattle.std.proofs.lemmas.Bool.{cond-true, cond_both, cases_Bool, cases_lt, or_from, not-true, true≢false, false≢true, false_from_ne_true}
use Rattle.std.proofs.lemmas.Option.{none-some}
use Rattle.seq_words.specs.Description.{IsDescription}
use Rattle.seq_words.specs.declared.description.MachineDesc.{MachineDesc}
use Rattle.seq_words.specs.declared.events.Event.{Event}
use Rattle.seq_memory.specs.States.{is_in_service}
use Rattle.seq_pair.specs.declared.halves.Pair.{Pair}
use Rattle.seq_status.specs.declared.status.Holder.{Holder}
use Rattle.seq_ruling.proofs.Lowest.{none_found, is_lowest}
use Rattle.seq_turns.specs.declared.hand.Hand.{Hand}
use Rattle.seq_turns.specs.declared.hand.Hand.TheVariants as hand
use Rattle.seq_turns.specs.declared.hand.FlushAt.{FlushAt}
use Rattle.seq_turns.specs.declared.hand.FlushAt.TheVariants as flush
use Rattle.seq_turns.specs.declared.hand.ReleaseAt.TheVariants as release
use Rattle.seq_turns.specs.Machines.{Machine}
use Rattle.seq_turns.specs.Reading.{ruling as status_now, is_deserted, is_recovered, awaits}
use Rattle.seq_turns.specs.Processors.{deserted}
use Rattle.seq_turns.specs.Allowed.{Allowed}
use Rattle.seq_turns.specs.Events.{happens, out, awaiting}
use Rattle.seq_turns.proofs.Functions.{lowest_none}
use Rattle.seq_stands.specs.Grips.{Kind, Step, Stage, Grip, word, after, flush_stage, grip}
use Rattle.seq_stands.specs.Grips.Kind.{Run, Pass1, Pass2, Back, Forward}
use Rattle.seq_stands.specs.Grips.Step.{To_pass1, To_pass2, To_run}
use Rattle.seq_stands.specs.Grips.Stage.{Claiming, Holding, Setting, Freeing, Recovering}
use Rattle.seq_stands.specs.Grips.Grip.{Nothing, On}
use Rattle.seq_stands.specs.Words.{View, words_of, ruling, AllUp, IsWay, IsRecovery, Claims, Grips, GripHolds, IsDeserted, Ruled}
use Rattle.seq_stands.specs.Hands.{holder_is}
use Rattle.seq_stands.specs.Standing.{Stands}
use Rattle.seq_stands.proofs.Numbers.{same_kind}
use Rattle.seq_stands.proofs.Readings.{said, says_free, says_held, deserted_is, deserted_says}
use Rattle.seq_stands.proofs.Moved.{all_in}
use Rattle.seq_stands.proofs.Plain.{one_out_none_awaits}
use Rattle.seq_schedule.specs.Outs.{processor, is_turn_of, repairs}
use Rattle.seq_schedule.specs.Below.{count_below}
use Rattle.seq_covered.proofs.Below.{none_counted, none_passing, no_more}
use Rattle.seq_covered.proofs.Turned.{Says, Lasts, own_turn, own_happens, elsewhere, mended_seeks}
use Rattle.seq_covered.proofs.Deserts.{IsQuiet, quiet_fails, quiet_upsets, was_deserted}

abbrev pub is_recovering : Hand → Bool
is_recovering hand.Down = false
is_recovering hand.Seek = false
is_recovering (hand.Claiming q c) = false
is_recovering (hand.Running r) = false
is_recovering (hand.Acquiring r t c) = false
is_recovering (hand.Flushing r why mask f) = false
is_recovering (hand.Unlocking r why mask l) = false
is_recovering (hand.Leaving q l) = false
is_recovering (hand.Recovering x) = true

-- ---- no recovery begins while none is deserted

abbrev Any : Pair → Type 0
Any pair = Unit {0}

said_of : (h : Hand) → is_recovering h ≡ false → Says Any ⊥ (Unit {0}) h
said_of hand.Down e = tt
said_of hand.Seek e = tt
said_of (hand.Claiming q c) e = tt
said_of (hand.Running r) e = tt
said_of (hand.Acquiring r t c) e = tt
said_of (hand.Flushing r why mask f) e = tt
said_of (hand.Unlocking r why mask l) e = tt
said_of (hand.Leaving q l) e = tt
said_of (hand.Recovering x) e = absurd (true≢false e)

of_said : (h : Hand) → Says Any ⊥ (Unit {0}) h → is_recovering h ≡ false
of_said hand.Down is = refl
of_said hand.Seek is = refl
of_said (hand.Claiming q c) is = refl
of_said (hand.Running r) is = refl
of_said (hand.Acquiring r t c) is = refl
of_said (hand.Flushing r why mask f) is = refl
of_said (hand.Unlocking r why mask l) is = refl
of_said (hand.Leaving q l) is = refl
of_said (hand.Recovering x) is = absurd is

module _ (d : MachineDesc) (m : Machine) (x : Event) (p : ℕ) (may : Allowed d m x) (quiet : IsQuiet d m x) where
  abbrev n : Machine
  n = happens d m x

  pub begins_none : deserted d m ≡ None → is_recovering (m.hand p) ≡ false → is_recovering (n.hand p) ≡ false
  begins_none none idle = go (cases_Bool (is_turn_of (processor p) x)) (cases_Bool (repairs (processor p) x))
    where
      lasts : Lasts d m p Any ⊥ (Unit {0})
      lasts = record {
        steps = λ r is. tt;
        grants = λ r t is. tt;
        starts = λ q. tt;
        begins = λ q e. none-some q (sym none ∙ e);
        differs = λ pair is f. tt;
        diverges = λ r is e. tt;
      }

      go : (is_turn_of (processor p) x ≡ true) ⊎ (is_turn_of (processor p) x ≡ false) → (repairs (processor p) x ≡ true) ⊎ (repairs (processor p) x ≡ false) → is_recovering (n.hand p) ≡ false
      go (inl own) mend = subst (λ (k : Machine). is_recovering (k.hand p) ≡ false) (sym (own_happens d m p x own)) (of_said _ (own_turn d m p Any ⊥ (Unit {0}) lasts (said_of (m.hand p) idle)))
      go (inr other) (inl mends) = ap is_recovering (mended_seeks d m p x may mends)
      go (inr other) (inr none) = ap is_recovering (elsewhere d m p x other (quiet_fails d m x p quiet) none (quiet_upsets d m x p quiet)) ∙ idle

-- ---- how many processes are deserted

abbrev pub is_left : MachineDesc → Machine → ℕ → Bool
is_left d m q = is_deserted m.incarnation (status_now d m.copies q)

abbrev pub deserted_ones : MachineDesc → Machine → ℕ
deserted_ones d m = count_below (is_left d m) (length d.processes)

module _ (d : MachineDesc) (m : Machine) (st : Stands d m) where
  pub left_is : (q : ℕ) → q < length d.processes → is_left d m q ≡ true → IsDeserted (words_of d m) q
  left_is q there t = deserted_is d m.copies (words_of d m) q refl (st.words.served q) t (st.words.ruled q there)

  pub left_says : (q : ℕ) → IsDeserted (words_of d m) q → is_left d m q ≡ true
  left_says q h = deserted_says d m.copies m.incarnation q h.kind h.holder h.number (st.words.served q) h.small h.named (λ e. let stopped = h.stopped in let no : ⊥ = omega (arith, e, stopped) in no)

  pub none_deserted : deserted_ones d m ≡ 0 → deserted d m ≡ None
  none_deserted none = none_found (is_left d m) (length d.processes) (none_counted (is_left d m) (length d.processes) none)

pub deserted_none : (d : MachineDesc) (m : Machine) → deserted d m ≡ None → deserted_ones d m ≡ 0
deserted_none d m none = none_passing (is_left d m) (length d.processes) (lowest_none (is_left d m) (length d.processes) none)

pub still_left : (d : MachineDesc) (m : Machine) (x : Event) → IsDescription d → Stands d m → Stands d (happens d m x) → Allowed d m x → IsQuiet d m x → (q : ℕ) → q < length d.processes → is_left d (happens d m x) q ≡ true → is_left d m q ≡ true
still_left d m x described st st' may quiet q there t = left_says d m st q (was_deserted d m described st x may quiet q there (left_is d (happens d m x) st' q there t))

pub no_more_deserted : (d : MachineDesc) (m : Machine) (x : Event) → IsDescription d → Stands d m → Stands d (happens d m x) → Allowed d m x → IsQuiet d m x → deserted_ones d (happens d m x) ≤ deserted_ones d m
no_more_deserted d m x described st st' may quiet = no_more (is_left d (happens d m x)) (is_left d m) (length d.processes) (still_left d m x described st st' may quiet)

-- ---- none awaits recovery where none is deserted and nobody recovers

-- what the primary of a word says is of a recovery only where the stage is
record Told (v : View) (p i : ℕ) (stage : Stage) : Type 0 where
  kind : Kind
  says : v.word1 ≡ word kind p i
  recovers : IsWay kind → IsRecovery stage

no_way : (step : Step) → IsWay (after step) → ⊥
no_way To_pass1 way = way
no_way To_pass2 way = way
no_way To_run way = way

told : (v : View) (p i : ℕ) (stage : Stage) → v.up1 ≡ true → Claims v p i stage → Told v p i stage
told v p i Claiming up h = record { kind = Run; says = (h up).0; recovers = λ w. w }
told v p i (Holding kind) up h = record { kind = kind; says = h.0 up; recovers = λ w. w }
told v p i (Setting step) up h = record { kind = after step; says = h.0 up; recovers = no_way step }
told v p i (Freeing kind) up h = record { kind = kind; says = (h up).0; recovers = λ w. w }
told v p i (Recovering kind) up h = record { kind = kind; says = h.2; recovers = λ w. tt }

abbrev GripsRecovery : Grip → Type 0
GripsRecovery Nothing = ⊥
GripsRecovery (On q stage) = IsRecovery stage

flush_none : (f : FlushAt) → IsRecovery (flush_stage f) → ⊥
flush_none (flush.Mark f) = cond_both (f.cursor == 0) (Holding Run) (Setting To_pass1) (λ s. IsRecovery s → ⊥) (λ _ is. is) (λ _ is. is)
flush_none (flush.First f) = λ is. is
flush_none (flush.Second f) = cond_both (f.cursor == 0) (Setting To_pass2) (Holding Pass2) (λ s. IsRecovery s → ⊥) (λ _ is. is) (λ _ is. is)
flush_none (flush.Close f) = cond_both (f.cursor == 0) (Holding Pass2) (Setting To_run) (λ s. IsRecovery s → ⊥) (λ _ is. is) (λ _ is. is)

grips_recovery : (h : Hand) → GripsRecovery (grip h) → is_recovering h ≡ true
grips_recovery hand.Down is = absurd is
grips_recovery hand.Seek is = absurd is
grips_recovery (hand.Claiming q c) is = absurd is
grips_recovery (hand.Running r) is = absurd is
grips_recovery (hand.Acquiring r t c) is = absurd is
grips_recovery (hand.Flushing r why mask f) is = absurd (flush_none f is)
grips_recovery (hand.Unlocking r why mask l) is = absurd is
grips_recovery (hand.Leaving q (release.Shadow l)) is = absurd is
grips_recovery (hand.Leaving q (release.Primary l)) is = absurd is
grips_recovery (hand.Recovering x) is = refl

said_way : (k : Kind) (h : Holder) → is_recovered (said k h) ≡ true → IsWay k
said_way Run h t = absurd (false≢true t)
said_way Pass1 h t = absurd (false≢true t)
said_way Pass2 h t = absurd (false≢true t)
said_way Back h t = tt
said_way Forward h t = tt

-- none is deserted, and no processor is amid a recovery
pub record IsCalm (d : MachineDesc) (m : Machine) : Type 0 where
  pub none_left : deserted_ones d m ≡ 0
  pub none_recovers : (p : ℕ) → p < d.processors → is_recovering (m.hand p) ≡ false

module _ (d : MachineDesc) (m : Machine) (described : IsDescription d) (st : Stands d m) (calm : IsCalm d m) where
  nobody : (p : ℕ) → is_recovering (m.hand p) ≡ true → ⊥
  nobody p t = go (cases_lt p d.processors)
    where
      go : (p < d.processors) ⊎ (d.processors ≤ p) → ⊥
      go (inl there) = true≢false (sym t ∙ calm.none_recovers p there)
      go (inr past) = true≢false (sym t ∙ ap is_recovering (st.hands.beyond p past))

  -- with every memory in service
  none_recovered : AllUp (words_of d m) → (q : ℕ) → q < length d.processes → is_recovered (status_now d m.copies q) ≡ true → ⊥
  none_recovered all q there t = go (st.words.ruled q there)
    where
      go : Ruled (words_of d m) q → ⊥
      go (inl h) = false≢true (sym (ap is_recovered (says_free d m.copies q (st.words.served q) h.free)) ∙ t)
      go (inr (inr h)) = true≢false (sym (left_says d m st q h) ∙ none_counted (is_left d m) (length d.processes) calm.none_left q there)
      go (inr (inl h)) =
          let g : Grips (words_of d m) h.holder q h.stage = subst (GripHolds (words_of d m) h.holder) h.gripped (st.words.grips h.holder) in
          let up = (all q).0 in
          let k = told ((words_of d m).view q) h.holder (m.incarnation h.holder) h.stage up g.claims in
          let named : ruling ((words_of d m).view q) ≡ ((words_of d m).view q).word1 = cond-true _ _ _ up in
          let same : h.kind ≡ k.kind = same_kind h.kind k.kind h.holder h.holder (m.incarnation h.holder) (m.incarnation h.holder) h.small h.small (sym h.named ∙ named ∙ k.says) in
          let way : IsWay h.kind = said_way h.kind (holder_is h.holder (m.incarnation h.holder)) (sym (ap is_recovered (says_held d m.copies q h.kind h.holder (m.incarnation h.holder) (st.words.served q) h.small h.named)) ∙ t) in
          nobody h.holder (grips_recovery (m.hand h.holder) (subst GripsRecovery (sym h.gripped) (k.recovers (subst IsWay same way))))

  none_awaits_at : (q : ℕ) → q < length d.processes → awaits m.incarnation (status_now d m.copies q) ≡ false
  none_awaits_at q there = go (out d m) refl
    where
      go : (o : Option ℕ) → out d m ≡ o → awaits m.incarnation (status_now d m.copies q) ≡ false
      go None e = or_from _ _ (none_counted (is_left d m) (length d.processes) calm.none_left q there) (false_from_ne_true _ (none_recovered (all_in d m described.memories.low_at e) q there))
      go (Some i) e = let found = is_lowest _ d.memories i e in one_out_none_awaits d m i q st found.within (not-true (is_in_service (m.copies.state i)) found.passes) there

  pub none_awaits : awaiting d m ≡ None
  none_awaits = none_found (λ q. awaits m.incarnation (status_now d m.copies q)) (length d.processes) none_awaits_at
