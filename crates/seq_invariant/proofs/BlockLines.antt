-- What stands of words and blocks gives what the lines need.
use Rattle.std.proofs.Common.{◌≡◌, ◌⊎◌, inl, inr, ℕ, ◌+◌, ◌<◌, Bool, true, false, ◌==◌, if◌then◌else◌, length, List, get_or, All, refl, ap, ◌∙◌, subst, arith}
use Rattle.std.proofs.lemmas.Bool.{cases_Bool, cond_both, and_from, true≢false, false≢true, eqb-true}
use Rattle.std.proofs.lemmas.List.Elements.{All-from_get_or}
use Rattle.seq_words.specs.Description.{IsDescription}
use Rattle.seq_words.specs.declared.description.MachineDesc.{MachineDesc}
use Rattle.seq_layout.specs.Shapes.{Shape, shape_of}
use Rattle.seq_layout.specs.Copies.{Copies, IsServed, serves, first_copy, first_block}
use Rattle.seq_layout.proofs.CopiesLaws.{all_are_served}
use Rattle.seq_layout.specs.declared.units.WordAt.{WordAt}
use Rattle.seq_cache.specs.declared.change.Change.{Change}
use Rattle.seq_kernel.specs.Views.{Blocks}
use Rattle.seq_locks.specs.Turns.{is_taken}
use Rattle.seq_flush.specs.Facts.{Avoid}
use Rattle.seq_flush.specs.Turns.{units, no_change}
use Rattle.seq_image.specs.Images.{image}
use Rattle.seq_image.specs.Areas.{in_area, CopyHolds}
use Rattle.seq_image.proofs.Areas.{area_cases}
use Rattle.seq_runs.proofs.Ahead.{many_steps_are_local, many_steps_add_output}
use Rattle.seq_turns.specs.declared.hand.Hand.{Hand}
use Rattle.seq_turns.specs.declared.hand.Hand.TheVariants as hand
use Rattle.seq_turns.specs.declared.hand.FlushAt.TheVariants as flush
use Rattle.seq_turns.specs.Machines.{Machine}
use Rattle.seq_turns.specs.Reading.{ruling, status_word}
use Rattle.seq_turns.specs.Duties.{is_steady}
use Rattle.seq_stands.specs.Grips.{Stage, grip}
use Rattle.seq_stands.specs.Grips.Kind.{Run, Pass1, Pass2}
use Rattle.seq_stands.specs.Grips.Step.{To_pass2}
use Rattle.seq_stands.specs.Grips.Stage.{Holding, Setting}
use Rattle.seq_stands.specs.Words.{view_of, words_of, Grips, GripHolds}
use Rattle.seq_stands.specs.Hands.{IsHand}
use Rattle.seq_stands.specs.Standing.{Stands}
use Rattle.seq_stands.proofs.Readings.{says_free, says_held}
use Rattle.seq_invariant.specs.BlockAreas.{segments_of, hand_area, left_area, BothHold}
use Rattle.seq_invariant.specs.BlockWorks.{Committed, committed_blocks}
use Rattle.seq_invariant.specs.BlockHands.{HandKnows}
use Rattle.seq_invariant.specs.BlockStanding.{ExtentStands, BlocksStand}
use Rattle.seq_lines.specs.Known.{HandIsWithin, ClaimsImage}
use Rattle.seq_lines.specs.Inside.{IsOffLine, UnitsAreOff}
use Rattle.seq_lines.proofs.Gives.{shown_is_committed}
use Rattle.seq_invariant.specs.BlockLines.{BlocksGiveLines, FlushesAreToCommit, SteadyMachinesHold}
use Rattle.seq_invariant.proofs.SteadyHolds.{holding_unsteady, setting_unsteady, left_unsteady, left_inside}

-- the process that a hand runs
abbrev pub run_by : Hand → ℕ
run_by (hand.Running r) = r.pid.0
run_by (hand.Acquiring r t c) = r.pid.0
run_by (hand.Flushing r cause mask f) = r.pid.0
run_by (hand.Unlocking r cause mask l) = r.pid.0
run_by hand.Down = 0
run_by hand.Seek = 0
run_by (hand.Claiming q c) = 0
run_by (hand.Leaving q l) = 0
run_by (hand.Recovering r) = 0

-- the extent of a process in the area of another is its own
own_extent : (d : MachineDesc) (q : ℕ) (segments : ℕ → Bool) (e : ℕ) → e < length d.processes → in_area d q segments e ≡ true → e ≡ q
own_extent d q segments e lt inside = elim (area_cases d q segments e inside) [
  | inl same ↦ same
  | inr other ↦ absurd (let at = other.3 in let z : ⊥ = omega (arith, at, lt) in z)
]

pub below_lines : (d : MachineDesc) (q : ℕ) (segments : ℕ → Bool) (e : ℕ) → q < length d.processes → in_area d q segments e ≡ true → e < length d.processes + length d.segments
below_lines d q segments e lt inside = elim (area_cases d q segments e inside) [
  | inl same ↦ omega (arith, same, lt)
  | inr other ↦ let at = other.3 in let t = other.1 in omega (arith, at, t)
]

hand_extent : (d : MachineDesc) (h : Hand) (e : ℕ) → e < length d.processes → hand_area d h e ≡ true → e ≡ run_by h
hand_extent d hand.Down e lt inside = absurd (false≢true inside)
hand_extent d hand.Seek e lt inside = absurd (false≢true inside)
hand_extent d (hand.Claiming q c) e lt inside = absurd (false≢true inside)
hand_extent d (hand.Running r) e lt inside = own_extent d r.pid.0 _ e lt inside
hand_extent d (hand.Acquiring r t c) e lt inside = own_extent d r.pid.0 _ e lt inside
hand_extent d (hand.Flushing r cause mask f) e lt inside = own_extent d r.pid.0 _ e lt inside
hand_extent d (hand.Unlocking r cause mask l) e lt inside = own_extent d r.pid.0 _ e lt inside
hand_extent d (hand.Leaving q l) e lt inside = absurd (false≢true inside)
hand_extent d (hand.Recovering r) e lt inside = absurd (false≢true inside)

either_kind : (s : Shape) (p : Copies) (area : ℕ → Bool) (o : Blocks) (c : Bool) → BothHold s p area o → CopyHolds s p c area o
either_kind s p area o true both = both.shadows
either_kind s p area o false both = both.primaries

module _ (d : MachineDesc) (at : Committed) (m : Machine) (described : IsDescription d) (stands : Stands d m) (blocks : BlocksStand d at m) where
  served : (e : ℕ) → IsServed (shape_of d) m.copies e
  served e = all_are_served (shape_of d) m.copies described.memories.low_at stands.service.one_out e

  -- the first copies of an extent hold what is committed
  abbrev HoldsFirst : ℕ → Type 0
  HoldsFirst e = (n : ℕ) → first_block (shape_of d) m.copies e n ≡ image d at.state at.commits e n

  both_first : (area : ℕ → Bool) (e : ℕ) → BothHold (shape_of d) m.copies area (committed_blocks d at) → area e ≡ true → HoldsFirst e
  both_first area e both inside n = (either_kind (shape_of d) m.copies area (committed_blocks d at) (first_copy (shape_of d) m.copies e) both).each e n (and_from (area e) _ inside (served e))

  -- what a hand's process holds, where that is steady
  hand_first : (p e : ℕ) (h : Hand) → GripHolds (words_of d m) p (grip h) → HandKnows d at m.copies (m.cache p) h → is_steady (ruling d m.copies (run_by h)) ≡ true → hand_area d h e ≡ true → HoldsFirst e
  hand_first p e hand.Down g knows steady inside = absurd (false≢true inside)
  hand_first p e hand.Seek g knows steady inside = absurd (false≢true inside)
  hand_first p e (hand.Claiming q c) g knows steady inside = absurd (false≢true inside)
  hand_first p e (hand.Running r) g knows steady inside = both_first _ e knows.both inside
  hand_first p e (hand.Acquiring r t c) g knows steady inside = both_first _ e knows.runs.both inside
  hand_first p e (hand.Flushing r cause mask (flush.Mark f)) g knows steady inside = both_first _ e knows.0.both inside
  hand_first p e (hand.Flushing r cause mask (flush.First f)) g knows steady inside = absurd (holding_unsteady d m stands p r.pid.0 Pass1 tt g steady)
  hand_first p e (hand.Flushing r cause mask (flush.Second f)) g knows steady inside =
      absurd (cond_both (f.cursor == 0) (Setting To_pass2) (Holding Pass2) (λ (s : Stage). Grips (words_of d m) p r.pid.0 s → ⊥) (λ _. λ k. setting_unsteady d m stands p r.pid.0 k steady) (λ _. λ k. holding_unsteady d m stands p r.pid.0 Pass2 tt k steady) g)
  hand_first p e (hand.Flushing r cause mask (flush.Close f)) g knows steady inside = both_first _ e knows.0.both inside
  hand_first p e (hand.Unlocking r cause mask l) g knows steady inside = both_first _ e knows.0.both inside
  hand_first p e (hand.Leaving q l) g knows steady inside = absurd (false≢true inside)
  hand_first p e (hand.Recovering r) g knows steady inside = absurd (false≢true inside)

  run_inside : (p e : ℕ) (h : Hand) → GripHolds (words_of d m) p (grip h) → hand_area d h e ≡ true → run_by h < length d.processes
  run_inside p e hand.Down g inside = absurd (false≢true inside)
  run_inside p e hand.Seek g inside = absurd (false≢true inside)
  run_inside p e (hand.Claiming q c) g inside = absurd (false≢true inside)
  run_inside p e (hand.Running r) g inside = g.process
  run_inside p e (hand.Acquiring r t c) g inside = g.process
  run_inside p e (hand.Flushing r cause mask f) g inside = g.process
  run_inside p e (hand.Unlocking r cause mask l) g inside = g.process
  run_inside p e (hand.Leaving q l) g inside = absurd (false≢true inside)
  run_inside p e (hand.Recovering r) g inside = absurd (false≢true inside)

  -- the first copies of an extent, where each process that has to do with it is steady
  extent_first : (e : ℕ) → ((p : ℕ) → hand_area d (m.hand p) e ≡ true → is_steady (ruling d m.copies (run_by (m.hand p))) ≡ true) → ((q : ℕ) → q < length d.processes → left_area d m.copies q e ≡ true → is_steady (ruling d m.copies q) ≡ true) → ExtentStands d at m e → HoldsFirst e
  extent_first e hands left (inl x) = hand_first x.holder e (m.hand x.holder) (stands.words.grips x.holder) (blocks.hands x.holder) (hands x.holder x.inside) x.inside
  extent_first e hands left (inr (inl x)) = absurd (left_unsteady d m stands x.process x.forward x.left (left x.process (left_inside d m stands x.process x.forward x.left) x.inside))
  extent_first e hands left (inr (inr rests)) = λ n. rests.each n (first_copy (shape_of d) m.copies e) (served e)

  steady_first : (q : ℕ) → q < length d.processes → is_steady (ruling d m.copies q) ≡ true → HoldsFirst q
  steady_first q lt steady = extent_first q
      (λ p inside. subst (λ x. is_steady (ruling d m.copies x) ≡ true) (hand_extent d (m.hand p) q lt inside) steady)
      (λ x x_lt inside. subst (λ y. is_steady (ruling d m.copies y) ≡ true) (own_extent d x _ q lt inside) steady)
      (blocks.extents q (omega (arith, lt)))

  pub all_first : ((q : ℕ) → q < length d.processes → is_steady (ruling d m.copies q) ≡ true) → (e n : ℕ) → e < length d.processes + length d.segments → first_block (shape_of d) m.copies e n ≡ image d at.state at.commits e n
  all_first steady e n lt = extent_first e
      (λ p inside. steady (run_by (m.hand p)) (run_inside p e (m.hand p) (stands.words.grips p) inside))
      (λ x x_lt inside. steady x x_lt) (blocks.extents e lt) n

  within_of : (p : ℕ) (h : Hand) → GripHolds (words_of d m) p (grip h) → HandKnows d at m.copies (m.cache p) h → HandIsWithin d h
  within_of p hand.Down g knows = tt
  within_of p hand.Seek g knows = tt
  within_of p (hand.Claiming q c) g knows = g.process
  within_of p (hand.Running r) g knows = knows.works.ahead.flush.within
  within_of p (hand.Acquiring r t c) g knows = knows.runs.works.ahead.flush.within
  within_of p (hand.Flushing r cause mask (flush.Mark f)) g knows = knows.0.works.ahead.flush.within
  within_of p (hand.Flushing r cause mask (flush.First f)) g knows = knows.0.works.ahead.flush.within
  within_of p (hand.Flushing r cause mask (flush.Second f)) g knows = knows.0.rested.works.ahead.flush.within
  within_of p (hand.Flushing r cause mask (flush.Close f)) g knows = knows.0.rested.works.ahead.flush.within
  within_of p (hand.Unlocking r cause mask l) g knows = knows.0.rested.works.ahead.flush.within
  within_of p (hand.Leaving q l) g knows = tt
  within_of p (hand.Recovering r) g knows = tt

  -- units that avoid what is outside an area are of processes and segments
  avoid_off : (q : ℕ) (segments : ℕ → Bool) (us : List Change) → q < length d.processes → ((e : ℕ) → in_area d q segments e ≡ false → Avoid us e) → All (IsOffLine d) us
  avoid_off q segments us lt avoid = All-from_get_or (IsOffLine d) us no_change (λ k k_lt. go (get_or us k no_change).extent.0 k k_lt refl (cases_Bool (in_area d q segments (get_or us k no_change).extent.0)))
    where
      go : (e k : ℕ) → k < length us → (get_or us k no_change).extent.0 ≡ e → (in_area d q segments e ≡ true) ⊎ (in_area d q segments e ≡ false) → IsOffLine d (get_or us k no_change)
      go e k k_lt is (inl inside) = let b = below_lines d q segments e lt inside in omega (arith, is, b)
      go e k k_lt is (inr out) = absurd ((avoid e out).each k k_lt is)

  units_of : (p : ℕ) (h : Hand) → GripHolds (words_of d m) p (grip h) → HandKnows d at m.copies (m.cache p) h → UnitsAreOff d (m.cache p) h
  units_of p hand.Down g knows = tt
  units_of p hand.Seek g knows = tt
  units_of p (hand.Claiming q c) g knows = tt
  units_of p (hand.Running r) g knows = tt
  units_of p (hand.Acquiring r t c) g knows = tt
  units_of p (hand.Flushing r cause mask (flush.Mark f)) g knows = tt
  units_of p (hand.Flushing r cause mask (flush.First f)) g knows = avoid_off r.pid.0 _ (units f (m.cache p).changes) g.process knows.0.make.units.avoid
  units_of p (hand.Flushing r cause mask (flush.Second f)) g knows = avoid_off r.pid.0 _ (units f (m.cache p).changes) g.process knows.0.units.avoid
  units_of p (hand.Flushing r cause mask (flush.Close f)) g knows = tt
  units_of p (hand.Unlocking r cause mask l) g knows = tt
  units_of p (hand.Leaving q l) g knows = tt
  units_of p (hand.Recovering r) g knows = tt

  -- a claim that is about to be held
  free_word : (up : Bool) (w : ℕ) → (if up then (if w == 0 then false else true) else false) ≡ false → up ≡ true → w ≡ 0
  free_word true w e t = cond_both (w == 0) false true (λ b. b ≡ false → w ≡ 0) (λ z. λ _. eqb-true w 0 z) (λ z. λ k. absurd (true≢false k)) e
  free_word false w e t = absurd (false≢true t)

  claims_of : (p : ℕ) (h : Hand) → GripHolds (words_of d m) p (grip h) → IsHand d p (m.incarnation p) h → ClaimsImage d m.copies at.state at.commits h
  claims_of p (hand.Claiming q c) g is = λ free. steady_first q.0 g.process (steady_claim (cases_Bool (serves (shape_of d) m.copies q.0 false)) (subst (λ (x : WordAt). is_taken (shape_of d) m.copies x true ≡ false) is.place free))
    where
      steady_claim : (serves (shape_of d) m.copies q.0 false ≡ true) ⊎ (serves (shape_of d) m.copies q.0 false ≡ false) → is_taken (shape_of d) m.copies (status_word q.0) true ≡ false → is_steady (ruling d m.copies q.0) ≡ true
      steady_claim (inl up) free = ap is_steady (says_held d m.copies q.0 Run p (m.incarnation p) (stands.words.served q.0) g.processor (primary (serves (shape_of d) m.copies q.0 false) up ∙ (g.claims up).0))
        where
          primary : (b : Bool) → b ≡ true → (if b then (view_of d m.copies q.0).word1 else (view_of d m.copies q.0).word2) ≡ (view_of d m.copies q.0).word1
          primary true e = refl
          primary false e = absurd (false≢true e)
      steady_claim (inr down) free = ap is_steady (says_free d m.copies q.0 (stands.words.served q.0) (shadow (serves (shape_of d) m.copies q.0 false) (serves (shape_of d) m.copies q.0 true) down (stands.words.served q.0 down) (free_word (serves (shape_of d) m.copies q.0 true) (m.copies.word q.0 0 true) free (stands.words.served q.0 down))))
        where
          shadow : (a b : Bool) → a ≡ false → b ≡ true → m.copies.word q.0 0 true ≡ 0 → (if a then (view_of d m.copies q.0).word1 else if b then m.copies.word q.0 0 true else 0) ≡ 0
          shadow true b e t z = absurd (true≢false e)
          shadow false true e t z = z
          shadow false false e t z = refl
  claims_of p hand.Down g is = tt
  claims_of p hand.Seek g is = tt
  claims_of p (hand.Running r) g is = tt
  claims_of p (hand.Acquiring r t c) g is = tt
  claims_of p (hand.Flushing r cause mask f) g is = tt
  claims_of p (hand.Unlocking r cause mask l) g is = tt
  claims_of p (hand.Leaving q l) g is = tt
  claims_of p (hand.Recovering r) g is = tt

pub blocks_give_lines : BlocksGiveLines
blocks_give_lines d at m described stands blocks = record {
  steady = steady_first d at m described stands blocks;
  within = λ p. within_of d at m described stands blocks p (m.hand p) (stands.words.grips p) (blocks.hands p);
  claims = λ p. claims_of d at m described stands blocks p (m.hand p) (stands.words.grips p) (stands.hands.hands p);
  units = λ p. units_of d at m described stands blocks p (m.hand p) (stands.words.grips p) (blocks.hands p);
}

pub steady_machines_hold : SteadyMachinesHold
steady_machines_hold d at m described stands blocks steady = all_first d at m described stands blocks steady

pub flushes_are_to_commit : FlushesAreToCommit
flushes_are_to_commit d at m p r cause mask f blocks is =
    let knows = subst (HandKnows d at m.copies (m.cache p)) is (blocks.hands p) in
    let works = knows.0.works in
    record {
      state = works.ahead.state;
      area = segments_of d (hand.Flushing r cause mask (flush.First f));
      ahead = works.alone;
      output = shown_is_committed d at.state works.ahead.state _ _ r works.ahead.flush.within.process works.ahead.flush.shows
          (many_steps_are_local d at.inputs _ r.pid.0 r.steps at.state works.ahead.state works.alone).others
          (many_steps_add_output d at.inputs r.pid.0 r.steps at.state works.ahead.state works.ahead.steps);
    }
