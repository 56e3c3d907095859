-- Memories, and who has a process in hand.
use Rattle.std.proofs.Common.{◌≡◌, ◌⊎◌, inl, inr, ℕ, ◌<◌, ◌≤◌, Bool, true, false, ◌==◌, ◌||◌, if◌then◌else◌, length, Some, None, refl, ap, sym, ◌∙◌, subst, arith}
use Rattle.std.proofs.lemmas.Bool.{cases_eq, eq-eqb, ne_eqb, eqb-true, false≢true, cond-true, cond-false}
use Rattle.seq_words.specs.declared.description.MachineDesc.{MachineDesc}
use Rattle.seq_layout.specs.Shapes.{shape_of}
use Rattle.seq_layout.specs.Copies.{serves}
use Rattle.seq_status.specs.declared.status.Holder.{Holder}
use Rattle.seq_turns.specs.declared.hand.Hand.{Hand}
use Rattle.seq_turns.specs.declared.hand.Hand.TheVariants as hand
use Rattle.seq_turns.specs.declared.hand.FlushAt.TheVariants as flush
use Rattle.seq_turns.specs.declared.hand.ReleaseAt.TheVariants as release
use Rattle.seq_turns.specs.declared.hand.RecoveryAt.{RecoveryAt}
use Rattle.seq_turns.specs.declared.hand.RecoveryAt.TheVariants as recovery
use Rattle.seq_turns.specs.Machines.{Machine}
use Rattle.seq_turns.specs.Reading.{ruling as status_now, lives, awaits, is_recovered}
use Rattle.seq_stands.specs.Grips.{Kind, Stage, word, grip, way}
use Rattle.seq_stands.specs.Grips.Kind.{Run, Pass1, Pass2, Back, Forward}
use Rattle.seq_stands.specs.Grips.Step.{To_pass1, To_pass2, To_run}
use Rattle.seq_stands.specs.Grips.Stage.{Claiming, Holding, Setting, Freeing, Recovering}
use Rattle.seq_stands.specs.Grips.Grip.{On}
use Rattle.seq_stands.specs.Words.{View, view_of, words_of, ruling, Claims, Grips, GripHolds, Ruled, IsHeld}
use Rattle.seq_stands.specs.Hands.{holder_is}
use Rattle.seq_stands.specs.Standing.{Stands}
use Rattle.seq_stands.specs.Service.{ServiceHolds}
use Rattle.seq_stands.proofs.Readings.{said, says_free, says_held, deserted_says}
use Rattle.seq_stands.proofs.Gripped.{Firm, firm_running, firm_acquiring, firm_flushing, firm_unlocking, named_firm, same_holder}
use Rattle.seq_stands.proofs.Plain.{one_out_none_awaits, names_are_not_ahead}
use Rattle.seq_invariant.specs.Parts.{MemoriesServeAlways, named_by, recovered_by, process_in, process_run_by, SetsOne, IsHalfSet, StatusWordsNameAlways}

pub memories_serve : MemoriesServeAlways
memories_serve d events m described all = record {
  one_out = all.holds.words.service.one_out;
  none_awaits = λ i q inside out there. one_out_none_awaits d m i q all.holds.words inside out there;
  calm = λ i next p inside is. (subst (ServiceHolds d m i) is (all.holds.words.service.copied i inside)).calm p;
  copied = λ i next k inside is below. (subst (ServiceHolds d m i) is (all.holds.words.service.copied i inside)).equal k below;
}

-- what a hand has hold of is the process in it
gripped_recovery : (x : RecoveryAt) (q : ℕ) (stage : Stage) → grip (hand.Recovering x) ≡ On q stage → recovered_by x ≡ q
gripped_recovery (recovery.Claimed r) q stage e = cc
gripped_recovery (recovery.Copying r) q stage e = cc
gripped_recovery (recovery.Locks r) q stage e = cc
gripped_recovery (recovery.Closing r) q stage e = cc

gripped_in : (h : Hand) (q : ℕ) (stage : Stage) → grip h ≡ On q stage → process_in h ≡ Some q
gripped_in hand.Down q stage e = absurd (let c : ⊥ = cc in c)
gripped_in hand.Seek q stage e = absurd (let c : ⊥ = cc in c)
gripped_in (hand.Claiming x c) q stage e = cc
gripped_in (hand.Running r) q stage e = cc
gripped_in (hand.Acquiring r t c) q stage e = cc
gripped_in (hand.Flushing r why mask f) q stage e = cc
gripped_in (hand.Unlocking r why mask l) q stage e = cc
gripped_in (hand.Leaving x (release.Shadow l)) q stage e = cc
gripped_in (hand.Leaving x (release.Primary l)) q stage e = cc
gripped_in (hand.Recovering x) q stage e = ap Some (gripped_recovery x q stage e)

-- who runs a process has hold of it
some_is : {a b : ℕ} → Some a ≡ Some b → a ≡ b
some_is e = cc

firm_runs : (h : Hand) (q : ℕ) → process_run_by h ≡ Some q → Firm h q
firm_runs hand.Down q e = absurd (let c : ⊥ = cc in c)
firm_runs hand.Seek q e = absurd (let c : ⊥ = cc in c)
firm_runs (hand.Claiming x c) q e = absurd (let c : ⊥ = cc in c)
firm_runs (hand.Running r) q e = subst (Firm (hand.Running r)) (some_is e) (firm_running r)
firm_runs (hand.Acquiring r t c) q e = subst (Firm (hand.Acquiring r t c)) (some_is e) (firm_acquiring r t c)
firm_runs (hand.Flushing r why mask f) q e = subst (Firm (hand.Flushing r why mask f)) (some_is e) (firm_flushing r why mask f)
firm_runs (hand.Unlocking r why mask l) q e = subst (Firm (hand.Unlocking r why mask l)) (some_is e) (firm_unlocking r why mask l)
firm_runs (hand.Leaving x (release.Shadow l)) q e = record { stage = Holding Run; gripped = ap (λ y. On y (Holding Run)) (some_is e); firm = λ z. z }
firm_runs (hand.Leaving x (release.Primary l)) q e = absurd (let c : ⊥ = cc in c)
firm_runs (hand.Recovering x) q e = absurd (let c : ⊥ = cc in c)

-- a stage at which both copies say one word
abbrev IsEven : Stage → Type 0
IsEven Claiming = ⊥
IsEven (Holding kind) = Unit {0}
IsEven (Setting step) = ⊥
IsEven (Freeing kind) = ⊥
IsEven (Recovering kind) = ⊥

stage_is : {a b : ℕ} {s s' : Stage} → On a s ≡ On b s' → s ≡ s'
stage_is e = cc

process_is : {a b : ℕ} {s s' : Stage} → On a s ≡ On b s' → a ≡ b
process_is e = cc

even : {x q : ℕ} {kind : Kind} {stage : Stage} → On x (Holding kind) ≡ On q stage → IsEven stage
even e = subst IsEven (stage_is e) tt

-- else one of them is set
half_set : (h : Hand) (q : ℕ) (stage : Stage) → grip h ≡ On q stage → IsEven stage ⊎ SetsOne h q
half_set hand.Down q stage e = absurd (let c : ⊥ = cc in c)
half_set hand.Seek q stage e = absurd (let c : ⊥ = cc in c)
half_set (hand.Claiming x c) q stage e = inr (process_is e)
half_set (hand.Running r) q stage e = inl (even e)
half_set (hand.Acquiring r t c) q stage e = inl (even e)
half_set (hand.Flushing r why mask (flush.Mark f)) q stage e = go (cases_eq f.cursor 0) e
  where
    go : (f.cursor ≡ 0) ⊎ (f.cursor ≡ 0 → ⊥) → On r.pid.0 (if f.cursor == 0 then Holding Run else Setting To_pass1) ≡ On q stage → IsEven stage ⊎ SetsOne (hand.Flushing r why mask (flush.Mark f)) q
    go (inl z) e = inl (even (ap (On r.pid.0) (sym (cond-true (f.cursor == 0) (Holding Run) (Setting To_pass1) (eq-eqb f.cursor 0 z))) ∙ e))
    go (inr ne) e = inr (process_is e, ne)
half_set (hand.Flushing r why mask (flush.First f)) q stage e = inl (even e)
half_set (hand.Flushing r why mask (flush.Second f)) q stage e = go (cases_eq f.cursor 0) e
  where
    go : (f.cursor ≡ 0) ⊎ (f.cursor ≡ 0 → ⊥) → On r.pid.0 (if f.cursor == 0 then Setting To_pass2 else Holding Pass2) ≡ On q stage → IsEven stage ⊎ SetsOne (hand.Flushing r why mask (flush.Second f)) q
    go (inl z) e = inr (process_is e, z)
    go (inr ne) e = inl (even (ap (On r.pid.0) (sym (cond-false (f.cursor == 0) (Setting To_pass2) (Holding Pass2) (ne_eqb f.cursor 0 ne))) ∙ e))
half_set (hand.Flushing r why mask (flush.Close f)) q stage e = go (cases_eq f.cursor 0) e
  where
    go : (f.cursor ≡ 0) ⊎ (f.cursor ≡ 0 → ⊥) → On r.pid.0 (if f.cursor == 0 then Holding Pass2 else Setting To_run) ≡ On q stage → IsEven stage ⊎ SetsOne (hand.Flushing r why mask (flush.Close f)) q
    go (inl z) e = inl (even (ap (On r.pid.0) (sym (cond-true (f.cursor == 0) (Holding Pass2) (Setting To_run) (eq-eqb f.cursor 0 z))) ∙ e))
    go (inr ne) e = inr (process_is e, ne)
half_set (hand.Unlocking r why mask l) q stage e = inl (even e)
half_set (hand.Leaving x (release.Shadow l)) q stage e = inl (even e)
half_set (hand.Leaving x (release.Primary l)) q stage e = inr (process_is e)
half_set (hand.Recovering (recovery.Claimed r)) q stage e = inr (process_is e, tt)
half_set (hand.Recovering (recovery.Copying r)) q stage e = inl (even e)
half_set (hand.Recovering (recovery.Locks r)) q stage e = inl (even e)
half_set (hand.Recovering (recovery.Closing r)) q stage e = go (cases_eq r.cursor 0) e
  where
    go : (r.cursor ≡ 0) ⊎ (r.cursor ≡ 0 → ⊥) → On r.pid.0 (if r.cursor == 0 then Holding (way r.forward) else Freeing (way r.forward)) ≡ On q stage → IsEven stage ⊎ SetsOne (hand.Recovering (recovery.Closing r)) q
    go (inl z) e = inl (even (ap (On r.pid.0) (sym (cond-true (r.cursor == 0) (Holding (way r.forward)) (Freeing (way r.forward)) (eq-eqb r.cursor 0 z))) ∙ e))
    go (inr ne) e = inr (process_is e, ne)

-- two copies that a processor holds evenly say one word
even_claims : (v : View) (p i : ℕ) (stage : Stage) → IsEven stage → Claims v p i stage → v.up1 ≡ true → v.up2 ≡ true → v.word2 ≡ v.word1
even_claims v p i Claiming is k a b = absurd is
even_claims v p i (Holding kind) is k a b = k.1 b ∙ sym (k.0 a)
even_claims v p i (Setting step) is k a b = absurd is
even_claims v p i (Freeing kind) is k a b = absurd is
even_claims v p i (Recovering kind) is k a b = absurd is

-- who is named by what a word says
named_said : (kind : Kind) (h : Holder) → named_by (said kind h) ≡ Some h
named_said Run h = refl
named_said Pass1 h = refl
named_said Pass2 h = refl
named_said Back h = refl
named_said Forward h = refl

same_named : {a b : Holder} → Some a ≡ Some b → a ≡ b
same_named e = cc

module _ (d : MachineDesc) (m : Machine) (st : Stands d m) (q : ℕ) (there : q < length d.processes) where
  abbrev v : View
  v = view_of d m.copies q

  up : (b : Bool) (w : ℕ) → b ≡ true → (if b then w else 0) ≡ w
  up true w e = refl
  up false w e = absurd (false≢true e)

  names : (kind : Kind) (p i : ℕ) (h : Holder) → p < 256 → ruling v ≡ word kind p i → named_by (status_now d m.copies q) ≡ Some h → h ≡ holder_is p i
  names kind p i h small says named = sym (same_named (sym (ap named_by (says_held d m.copies q kind p i (st.words.served q) small says) ∙ named_said kind (holder_is p i)) ∙ named))

  names_none : (h : Holder) → ruling v ≡ 0 → named_by (status_now d m.copies q) ≡ Some h → ⊥
  names_none h says named = let e : None ≡ Some h = sym (ap named_by (says_free d m.copies q (st.words.served q) says)) ∙ named in let c : ⊥ = cc in c

  in_time : (h : Holder) → Ruled (words_of d m) q → named_by (status_now d m.copies q) ≡ Some h → h.incarnation ≤ m.incarnation h.pe.0
  in_time h (inl k) named = absurd (names_none h k.free named)
  in_time h (inr (inl k)) named = subst (λ (x : Holder). x.incarnation ≤ m.incarnation x.pe.0) (sym (names k.kind k.holder (m.incarnation k.holder) h k.small k.named named)) (omega arith)
  in_time h (inr (inr k)) named = subst (λ (x : Holder). x.incarnation ≤ m.incarnation x.pe.0) (sym (names k.kind k.holder k.number h k.small k.named named)) (let s = k.stopped in omega (arith, s))

  in_hand : (h : Holder) → Ruled (words_of d m) q → named_by (status_now d m.copies q) ≡ Some h → lives m.incarnation h ≡ true → process_in (m.hand h.pe.0) ≡ Some q
  in_hand h (inl k) named alive = absurd (names_none h k.free named)
  in_hand h (inr (inl k)) named alive = subst (λ (x : Holder). process_in (m.hand x.pe.0) ≡ Some q) (sym (names k.kind k.holder (m.incarnation k.holder) h k.small k.named named)) (gripped_in (m.hand k.holder) q k.stage k.gripped)
  in_hand h (inr (inr k)) named alive =
      let now : k.number ≡ m.incarnation k.holder = eqb-true _ _ (ap (lives m.incarnation) (sym (names k.kind k.holder k.number h k.small k.named named)) ∙ alive) in
      let s = k.stopped in
      let c : ⊥ = omega (arith, now, s) in absurd c

  same : Ruled (words_of d m) q → serves (shape_of d) m.copies q false ≡ true → serves (shape_of d) m.copies q true ≡ true →
      (m.copies.word q 0 true ≡ m.copies.word q 0 false) ⊎ IsHalfSet m q ⊎ (awaits m.incarnation (status_now d m.copies q) ≡ true)
  same k one two = go k
    where
      both : v.word2 ≡ v.word1 → m.copies.word q 0 true ≡ m.copies.word q 0 false
      both e = sym (up (serves (shape_of d) m.copies q true) (m.copies.word q 0 true) two) ∙ e ∙ up (serves (shape_of d) m.copies q false) (m.copies.word q 0 false) one

      held : (k : IsHeld (words_of d m) q) → IsEven k.stage ⊎ SetsOne (m.hand k.holder) q → (m.copies.word q 0 true ≡ m.copies.word q 0 false) ⊎ IsHalfSet m q ⊎ (awaits m.incarnation (status_now d m.copies q) ≡ true)
      held k (inl is) =
          let g : Grips (words_of d m) k.holder q k.stage = subst (GripHolds (words_of d m) k.holder) k.gripped (st.words.grips k.holder) in
          inl (both (even_claims v k.holder (m.incarnation k.holder) k.stage is g.claims one two))
      held k (inr is) = inr (inl (record { processor = k.holder; sets = is }))

      go : Ruled (words_of d m) q → (m.copies.word q 0 true ≡ m.copies.word q 0 false) ⊎ IsHalfSet m q ⊎ (awaits m.incarnation (status_now d m.copies q) ≡ true)
      go (inl k) = inl (both (k.both one two ∙ sym (sym (cond-true v.up1 v.word1 v.word2 one) ∙ k.free)))
      go (inr (inl k)) = held k (half_set (m.hand k.holder) q k.stage k.gripped)
      go (inr (inr k)) = inr (inr (ap (λ b. b || is_recovered (status_now d m.copies q)) (deserted_says d m.copies m.incarnation q k.kind k.holder k.number (st.words.served q) k.small k.named (let s = k.stopped in λ e. let c : ⊥ = omega (arith, s, e) in c))))

pub status_words_name : StatusWordsNameAlways
status_words_name d events m described all =
    let st : Stands d m = all.holds.words in
    record {
      format = λ q there. (names_are_not_ahead d m q st there).format;
      in_time = λ q h there named. in_time d m st q there h (st.words.ruled q there) named;
      in_hand = λ q h there named alive. in_hand d m st q there h (st.words.ruled q there) named alive;
      one = λ p r q a b. same_holder d m st.words p r q (named_firm d m st.words p q (firm_runs (m.hand p) q a)) (named_firm d m st.words r q (firm_runs (m.hand r) q b));
      same = λ q there one two. same d m st q there (st.words.ruled q there) one two;
    }
