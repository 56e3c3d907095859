-- Extents of a process that awaits recovery.
use Rattle.std.proofs.Common.{◌≡◌, ◌⊎◌, inl, inr, ℕ, suc, ◌<◌, Bool, true, false, not, ◌||◌, ◌==◌, List, length, Some, None, slice_get, refl, ap, sym, ◌∙◌, subst, arith}
use Rattle.std.proofs.lemmas.Bool.{cases_Bool, cond_both, cond-true, cond-false, false≢true, true≢false}
use Rattle.seq_words.specs.Description.{IsDescription}
use Rattle.seq_words.specs.declared.description.MachineDesc.{MachineDesc}
use Rattle.seq_words.specs.declared.events.Event.{Event}
use Rattle.seq_layout.specs.Places.{memory_of}
use Rattle.seq_layout.specs.Shapes.{shape_of}
use Rattle.seq_layout.specs.Copies.{serves}
use Rattle.seq_layout.proofs.Apart.{memory_in}
use Rattle.seq_status.specs.declared.status.Holder.{Holder}
use Rattle.seq_image.proofs.Areas.{area_cases}
use Rattle.seq_turns.specs.declared.hand.Hand.{Hand}
use Rattle.seq_turns.specs.declared.hand.Hand.TheVariants as hand
use Rattle.seq_turns.specs.declared.hand.FlushAt.{FlushAt}
use Rattle.seq_turns.specs.declared.hand.FlushAt.TheVariants as flush
use Rattle.seq_turns.specs.declared.hand.RecoveryAt.{RecoveryAt}
use Rattle.seq_turns.specs.declared.hand.RecoveryAt.TheVariants as recovery
use Rattle.seq_recover.specs.declared.recovery.Recovery.{Recovery}
use Rattle.seq_recover.specs.declared.recovery.Copying as copying_stage
use Rattle.seq_turns.specs.Machines.{Machine}
use Rattle.seq_turns.specs.Reading.{ruling as status_now, is_deserted, is_recovered}
use Rattle.seq_recover.specs.Reading.{names, recovered_blocks}
use Rattle.seq_stands.specs.Grips.{Kind, Step, Stage, grip, word, way, before, after, flush_stage, begun}
use Rattle.seq_stands.specs.Grips.Kind.{Run, Pass1, Pass2, Back, Forward}
use Rattle.seq_stands.specs.Grips.Step.{To_pass1, To_pass2, To_run}
use Rattle.seq_stands.specs.Grips.Stage.{Claiming, Holding, Setting, Freeing, Recovering}
use Rattle.seq_stands.specs.Grips.Grip.{On}
use Rattle.seq_stands.specs.Words.{View, view_of, words_of, ruling, IsWay, Claims, Grips, GripHolds, WordsStand}
use Rattle.seq_stands.specs.Hands.{holder_is}
use Rattle.seq_stands.proofs.Gripped.{all_recovered}
use Rattle.seq_stands.proofs.Plain.{one_out_none_awaits}
use Rattle.seq_stands.proofs.Readings.{said, says_held, deserted_is}
use Rattle.seq_invariant.specs.BlockApart.{owners_of}
use Rattle.seq_invariant.specs.BlockAreas.{segments_of, hand_area, left_area}
use Rattle.seq_invariant.specs.BlockWorks.{Committed}
use Rattle.seq_invariant.specs.BlockHands.{IsSame, CopiedBehind, HandKnows}
use Rattle.seq_invariant.specs.BlockLeft.{way_of, HasToCopy, IsLeft}
use Rattle.seq_invariant.specs.BlockStanding.{IsInHand, IsInLeft, ExtentStands}
use Rattle.seq_invariant.proofs.BlockApart.{Has, has, inside, on_one}
use Rattle.seq_invariant.proofs.BlockFrame.{left_there, recovered_inside}
use Rattle.seq_invariant.proofs.BlockLines.{below_lines}
use Rattle.seq_invariant.specs.Holds.{Holds}
use Rattle.seq_invariant.specs.Processes.{lock, Awaits}
use Rattle.seq_invariant.specs.AreasHold.{kept, area_of, Rests}
use Rattle.seq_invariant.specs.LeftAreas.{LeftAreasHoldAlways}
use Rattle.seq_invariant.proofs.Left.{gripped_is_alive}
use Rattle.seq_invariant.proofs.PartsPasses.{and_both}
use Rattle.seq_invariant.proofs.PartsFlushes.{kept_at}
use Rattle.seq_invariant.proofs.PartsResting.{left_awaits, meet, held_names, left_names}

-- a stage of a process that runs
abbrev pub IsRunStage : Stage → Type 0
IsRunStage Claiming = ⊥
IsRunStage (Holding kind) = IsWay kind → ⊥
IsRunStage (Setting step) = Unit {0}
IsRunStage (Freeing kind) = ⊥
IsRunStage (Recovering kind) = ⊥

begun_runs : (k : ℕ) (a b : Stage) → IsRunStage a → IsRunStage b → IsRunStage (begun k a b)
begun_runs k a b x y = cond_both (k == 0) a b IsRunStage (λ t. x) (λ t. y)

pub flush_runs : (f : FlushAt) → IsRunStage (flush_stage f)
flush_runs (flush.Mark f) = begun_runs f.cursor (Holding Run) (Setting To_pass1) (λ x. x) tt
flush_runs (flush.First f) = λ x. x
flush_runs (flush.Second f) = begun_runs f.cursor (Setting To_pass2) (Holding Pass2) tt (λ x. x)
flush_runs (flush.Close f) = begun_runs f.cursor (Holding Pass2) (Setting To_run) (λ x. x) tt

-- how a hand with extents has hold of its process
record Runs (h : Hand) : Type 0 where
  process : ℕ
  stage : Stage
  gripped : grip h ≡ On process stage
  runs : IsRunStage stage

runs_its : (d : MachineDesc) (h : Hand) (e : ℕ) → hand_area d h e ≡ true → Runs h
runs_its d hand.Down e is = absurd (false≢true is)
runs_its d hand.Seek e is = absurd (false≢true is)
runs_its d (hand.Claiming q c) e is = absurd (false≢true is)
runs_its d (hand.Running r) e is = record { process = r.pid.0; stage = Holding Run; gripped = refl; runs = λ x. x }
runs_its d (hand.Acquiring r t c) e is = record { process = r.pid.0; stage = Holding Run; gripped = refl; runs = λ x. x }
runs_its d (hand.Flushing r why mask f) e is = record { process = r.pid.0; stage = flush_stage f; gripped = refl; runs = flush_runs f }
runs_its d (hand.Unlocking r why mask l) e is = record { process = r.pid.0; stage = Holding Run; gripped = refl; runs = λ x. x }
runs_its d (hand.Leaving q l) e is = absurd (false≢true is)
runs_its d (hand.Recovering x) e is = absurd (false≢true is)

not_way : (step : Step) → (IsWay (before step) → ⊥) × (IsWay (after step) → ⊥)
not_way To_pass1 = (λ x. x, λ x. x)
not_way To_pass2 = (λ x. x, λ x. x)
not_way To_run = (λ x. x, λ x. x)

-- the kind that its word says is none of a recovery
record Says (v : View) (p i : ℕ) : Type 0 where
  kind : Kind
  says : ruling v ≡ word kind p i
  calm : IsWay kind → ⊥

run_says : (v : View) (p i : ℕ) (stage : Stage) → (v.up1 ≡ false → v.up2 ≡ true) → IsRunStage stage → Claims v p i stage → Says v p i
run_says v p i stage served is claims = go stage is claims (cases_Bool v.up1)
  where
    go : (s : Stage) → IsRunStage s → Claims v p i s → (v.up1 ≡ true) ⊎ (v.up1 ≡ false) → Says v p i
    go Claiming is k o = absurd is
    go (Holding kind) is k (inl up) = record { kind = kind; says = cond-true _ _ _ up ∙ k.0 up; calm = is }
    go (Holding kind) is k (inr out) = record { kind = kind; says = cond-false _ _ _ out ∙ k.1 (served out); calm = is }
    go (Setting step) is k (inl up) = record { kind = after step; says = cond-true _ _ _ up ∙ k.0 up; calm = (not_way step).1 }
    go (Setting step) is k (inr out) = record { kind = before step; says = cond-false _ _ _ out ∙ k.1 (served out); calm = (not_way step).0 }
    go (Freeing kind) is k o = absurd is
    go (Recovering kind) is k o = absurd is

said_calm : (k : Kind) (h : Holder) → is_recovered (said k h) ≡ true → IsWay k
said_calm Run h e = absurd (false≢true e)
said_calm Pass1 h e = absurd (false≢true e)
said_calm Pass2 h e = absurd (false≢true e)
said_calm Back h e = tt
said_calm Forward h e = tt

said_way : (f : Bool) (h : Holder) → way_of (said (way f) h) ≡ Some f
said_way true h = refl
said_way false h = refl

of_either : (a b : Bool) → (a || b) ≡ true → (a ≡ true) ⊎ (b ≡ true)
of_either true b is = inl refl
of_either false b is = inr is

same_bool : {a b : Bool} → Some a ≡ Some b → a ≡ b
same_bool e = cc

module _ (d : MachineDesc) (events : List Event) (at : Committed) (m : Machine) (described : IsDescription d) (st : Holds d events at m) where
  abbrev words : WordsStand (words_of d m)
  words = st.words.words

  -- who runs a process doesn't leave it waiting
  pub run_calm : (p q : ℕ) (stage : Stage) → q < length d.processes → grip (m.hand p) ≡ On q stage → IsRunStage stage → Awaits d m q → ⊥
  run_calm p q stage there gripped is awaited = go (of_either (is_deserted m.incarnation (status_now d m.copies q)) (is_recovered (status_now d m.copies q)) awaited)
    where
      g : Grips (words_of d m) p q stage
      g = subst (GripHolds (words_of d m) p) gripped (st.words.words.grips p)

      says : Says (view_of d m.copies q) p (m.incarnation p)
      says = run_says (view_of d m.copies q) p (m.incarnation p) stage (st.words.words.served q) is g.claims

      go : (is_deserted m.incarnation (status_now d m.copies q) ≡ true) ⊎ (is_recovered (status_now d m.copies q) ≡ true) → ⊥
      go (inl a) = gripped_is_alive d m st.words.words p q stage gripped (deserted_is d m.copies (words_of d m) q refl (st.words.words.served q) a (st.words.words.ruled q there))
      go (inr b) = says.calm (said_calm says.kind (holder_is p (m.incarnation p)) (ap is_recovered (sym (says_held d m.copies q says.kind p (m.incarnation p) (st.words.words.served q) g.processor says.says)) ∙ b))

  -- a process that was left is recovered the way that its word says
  left_way : (q : ℕ) (forward : Bool) → IsLeft d m q forward → way_of (status_now d m.copies q) ≡ Some forward
  left_way q forward (inl k) = k.way
  left_way q forward (inr k) = go k.at k.hand k.copies
    where
      told : (f : Bool) → ((words_of d m).view q).up1 ≡ true → ((words_of d m).view q).word1 ≡ word (way f) k.processor (m.incarnation k.processor) → k.processor < 256 → f ≡ forward → way_of (status_now d m.copies q) ≡ Some forward
      told f up w small same = ap way_of (says_held d m.copies q (way f) k.processor (m.incarnation k.processor) (st.words.words.served q) small (cond-true _ _ _ up ∙ w)) ∙ said_way f (holder_is k.processor (m.incarnation k.processor)) ∙ ap Some same

      go : (x : RecoveryAt) → m.hand k.processor ≡ hand.Recovering x → HasToCopy x q forward → way_of (status_now d m.copies q) ≡ Some forward
      go (recovery.Claimed r) e its =
          let g : Grips (words_of d m) k.processor q (Recovering (way r.forward)) = subst (GripHolds (words_of d m) k.processor) (ap grip e ∙ ap (λ y. On y (Recovering (way r.forward))) its.0) (st.words.words.grips k.processor) in
          told r.forward (all_recovered d m st.words.words k.processor (recovery.Claimed r) e q).0 g.claims.2 g.processor its.1
      go (recovery.Copying r) e its =
          let g : Grips (words_of d m) k.processor q (Holding (way r.forward)) = subst (GripHolds (words_of d m) k.processor) (ap grip e ∙ ap (λ y. On y (Holding (way r.forward))) its.0) (st.words.words.grips k.processor) in
          let up = (all_recovered d m st.words.words k.processor (recovery.Copying r) e q).0 in
          told r.forward up (g.claims.0 up) g.processor its.1
      go (recovery.Locks r) e its = absurd its
      go (recovery.Closing r) e its = absurd its

  -- while a process awaits recovery every copy is in service
  all_serve : (q e : ℕ) (c : Bool) → q < length d.processes → Awaits d m q → serves (shape_of d) m.copies e c ≡ true
  all_serve q e c there awaited = go (cases_Bool (serves (shape_of d) m.copies e c))
    where
      go : (serves (shape_of d) m.copies e c ≡ true) ⊎ (serves (shape_of d) m.copies e c ≡ false) → serves (shape_of d) m.copies e c ≡ true
      go (inl up) = up
      go (inr out) = absurd (true≢false (sym awaited ∙ one_out_none_awaits d m (memory_of d.memories e c) q st.words (memory_in d.memories e c (let two = described.memories.low_at in omega (arith, two))) out there))

  module _ (q e : ℕ) (there : q < length d.processes) (mine : area_of d m q e ≡ true) (awaited : Awaits d m q) where
    not_in_hand : IsInHand d m e → ⊥
    not_in_hand k =
        let b : Has d (m.hand k.holder) e = has d (m.hand k.holder) e k.inside in
        let below : b.process < length d.processes = inside d (owners_of at.state) m st.words.words st.locks k.holder b.process b.firm in
        let same : b.process ≡ q = meet d events at m st q e there mine b.process below (elim (area_cases d b.process (segments_of d (m.hand k.holder)) e b.inside) [
          | inl is ↦ inl is
          | inr (t, lt, held, extent) ↦ inr (t, held_names d events at m st k.holder b.process t b.firm lt held, extent)
        ]) in
        let x : Runs (m.hand k.holder) = runs_its d (m.hand k.holder) e k.inside in
        let its : x.process ≡ q = on_one (sym x.gripped ∙ b.firm.gripped) ∙ same in
        run_calm k.holder q x.stage there (x.gripped ∙ ap (λ y. On y x.stage) its) x.runs awaited

    left_is : (k : IsInLeft d m e) → k.process ≡ q
    left_is k = meet d events at m st q e there mine k.process (left_there d m k.process k.forward k.left) (elim (area_cases d k.process (λ t. names d m.copies k.process t false) e k.inside) [
      | inl is ↦ inl is
      | inr (t, lt, named, extent) ↦ inr (t, left_names d events at m st k.process t named, extent)
    ])

    way_is : (k : IsInLeft d m e) → way_of (status_now d m.copies q) ≡ Some k.forward
    way_is k = subst (λ x. way_of (status_now d m.copies x) ≡ Some k.forward) (left_is k) (left_way k.process k.forward k.left)

    stands : ExtentStands d at m e
    stands = st.blocks.extents e (below_lines d q (λ t. lock d m t == suc q) e there mine)

    pub run_rests : way_of (status_now d m.copies q) ≡ None → Rests d at.state m e
    run_rests none = go stands
      where
        go : ExtentStands d at m e → Rests d at.state m e
        go (inl k) = absurd (not_in_hand k)
        go (inr (inl k)) = let clash : None ≡ Some k.forward = sym none ∙ way_is k in absurd (let c : ⊥ = cc in c)
        go (inr (inr k)) = λ n shadow up. k.each n shadow up ∙ kept_at d events at m st e n

    pub pass_holds : (n : ℕ) (forward : Bool) → way_of (status_now d m.copies q) ≡ Some forward → m.copies.block e n (not forward) ≡ kept d at.state m e n
    pass_holds n forward way = go stands
      where
        go : ExtentStands d at m e → m.copies.block e n (not forward) ≡ kept d at.state m e n
        go (inl k) = absurd (not_in_hand k)
        go (inr (inl k)) =
            let same : k.forward ≡ forward = same_bool (sym (way_is k) ∙ way) in
            subst (λ f. m.copies.block e n (not f) ≡ kept d at.state m e n) same
            ((st.blocks.left k.process k.forward k.left).each e n (and_both (left_area d m.copies k.process e) (serves (shape_of d) m.copies e (not k.forward)) k.inside (all_serve q e (not k.forward) there awaited)) ∙ kept_at d events at m st e n)
        go (inr (inr k)) = k.each n (not forward) (all_serve q e (not forward) there awaited) ∙ kept_at d events at m st e n

  -- the blocks behind the cursor of the copying
  pub behind : (p k : ℕ) (r : Recovery copying_stage.Copying) (b : ℕ × ℕ) (c : Bool) → m.hand p ≡ hand.Recovering (recovery.Copying r) → k < r.cursor → slice_get (recovered_blocks d m.copies r.pid.0) k ≡ Some b → m.copies.block b.0 b.1 c ≡ kept d at.state m b.0 b.1
  behind p k r b c h below listed = both r.forward c from
    where
      knows : CopiedBehind d m.copies r.pid.0 r.cursor
      knows = subst (HandKnows d at m.copies (m.cache p)) h (st.blocks.hands p)

      left : IsLeft d m r.pid.0 r.forward
      left = inr (record { inside = knows.inside; processor = p; at = recovery.Copying r; hand = h; copies = (refl, refl) })

      from : m.copies.block b.0 b.1 (not r.forward) ≡ kept d at.state m b.0 b.1
      from = (st.blocks.left r.pid.0 r.forward left).each b.0 b.1 (and_both (left_area d m.copies r.pid.0 b.0) (serves (shape_of d) m.copies b.0 (not r.forward)) (recovered_inside d m.copies r.pid.0 k b knows.inside listed)
          (all_serve r.pid.0 b.0 (not r.forward) knows.inside (left_awaits d events at m st r.pid.0 r.forward left))) ∙ kept_at d events at m st b.0 b.1

      equal : m.copies.block b.0 b.1 true ≡ m.copies.block b.0 b.1 false
      equal = subst (IsSame m.copies) listed (knows.same k below)

      both : (f c : Bool) → m.copies.block b.0 b.1 (not f) ≡ kept d at.state m b.0 b.1 → m.copies.block b.0 b.1 c ≡ kept d at.state m b.0 b.1
      both true true x = equal ∙ x
      both true false x = x
      both false true x = x
      both false false x = sym equal ∙ x

pub left_areas_hold : LeftAreasHoldAlways
left_areas_hold d events m described all = record {
  run = λ q e there none awaited mine. run_rests d events all.at m described all.holds q e there mine awaited none;
  pass = λ q e n forward there way awaited mine. pass_holds d events all.at m described all.holds q e there mine awaited n forward way;
  copied = λ p k r b c h below listed. behind d events all.at m described all.holds p k r b c h below listed;
}
