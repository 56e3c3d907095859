-- What copies hold amid a flush, over the image along the history.
use Rattle.std.proofs.Common.{◌≡◌, ℕ, ◌-◌, Bool, true, false, ◌||◌, List, Option, Some, unwrap_or, refl, ap, sym, ◌∙◌, subst}
use Rattle.std.proofs.Math.Path.{fun_ext}
use Rattle.seq_words.specs.Masks.{has_bit}
use Rattle.seq_words.specs.declared.description.MachineDesc.{MachineDesc}
use Rattle.seq_words.specs.declared.block.Block.{Block}
use Rattle.seq_words.specs.declared.events.Event.{Event}
use Rattle.seq_flat.specs.declared.state.FlatState.{FlatState}
use Rattle.seq_flat.specs.Run.{steps}
use Rattle.seq_layout.specs.Shapes.{shape_of}
use Rattle.seq_layout.specs.Copies.{serves}
use Rattle.seq_process.specs.declared.running.Running.{Running}
use Rattle.seq_flush.specs.declared.flush.Flush.{Flush}
use Rattle.seq_flush.specs.declared.stages.Mark.{Mark}
use Rattle.seq_flush.specs.declared.stages.First.{First}
use Rattle.seq_flush.specs.declared.stages.Second.{Second}
use Rattle.seq_flush.specs.declared.stages.Close.{Close}
use Rattle.seq_flush.specs.Turns.{units, unit_at}
use Rattle.seq_kernel.specs.Views.{Blocks}
use Rattle.seq_kernel.specs.declared.outcomes.Cause.{Cause}
use Rattle.seq_image.specs.Images.{image}
use Rattle.seq_image.specs.Areas.{in_area}
use Rattle.seq_turns.specs.declared.hand.Hand.TheVariants as hand
use Rattle.seq_turns.specs.declared.hand.FlushAt.{FlushAt}
use Rattle.seq_turns.specs.declared.hand.FlushAt.TheVariants as flush
use Rattle.seq_turns.specs.Machines.{Machine}
use Rattle.seq_stands.specs.Locks.{whole_if}
use Rattle.seq_invariant.specs.BlockAreas.{is_whole, segments_of, BothHold}
use Rattle.seq_invariant.specs.BlockWorks.{Committed, committed_blocks, with_commit, one_more}
use Rattle.seq_invariant.specs.BlockHands.{FlushKnows, FirstPass, SecondPass, HandKnows}
use Rattle.seq_invariant.proofs.Units.{unit_committed}
use Rattle.seq_lines.specs.Arrivals.{arrived}
use Rattle.seq_invariant.specs.Holds.{Holds}
use Rattle.seq_invariant.specs.AreasHold.{commits_in, kept, kept_next, flush_area, Rests, FirstPassIn, SecondPassIn, FirstPassHoldsAlways, SecondPassHoldsAlways}
use Rattle.seq_invariant.proofs.PartsPasses.{and_both, others_hold, written_hold}

pub whole_bit : (b : Bool) (q : ℕ) → is_whole (whole_if b q) ≡ b
whole_bit true q = refl
whole_bit false q = refl

module _ (d : MachineDesc) (events : List Event) (at : Committed) (m : Machine) (st : Holds d events at m) where
  commits_are : at.commits ≡ commits_in m
  commits_are = fun_ext (λ q. st.blocks.committed.commits q)

  pub kept_is : committed_blocks d at ≡ kept d at.state m
  kept_is = ap (image d at.state) commits_are

  next_is : (q : ℕ) (g : FlatState) → committed_blocks d (with_commit at q g) ≡ kept_next d g m q
  next_is q g = ap (λ (c : ℕ → ℕ). image d g (one_more q c)) commits_are

  pub kept_at : (e n : ℕ) → committed_blocks d at e n ≡ kept d at.state m e n
  kept_at e n = ap (λ (o : Blocks). o e n) kept_is

  next_at : (q : ℕ) (g : FlatState) (e n : ℕ) → committed_blocks d (with_commit at q g) e n ≡ kept_next d g m q e n
  next_at q g e n = ap (λ (o : Blocks). o e n) (next_is q g)

  -- both copies of an area hold the committed state
  pub both_rest : (area : ℕ → Bool) → BothHold (shape_of d) m.copies area (committed_blocks d at) → (e : ℕ) → area e ≡ true → Rests d at.state m e
  both_rest area both e is n true up = both.shadows.each e n (and_both (area e) (serves (shape_of d) m.copies e true) is up) ∙ kept_at e n
  both_rest area both e is n false up = both.primaries.each e n (and_both (area e) (serves (shape_of d) m.copies e false) is up) ∙ kept_at e n

  module _ (p : ℕ) (r : Running) (why : Cause) (mask : ℕ) where
    abbrev segments : FlushAt → ℕ → Bool
    segments f = segments_of d (hand.Flushing r why mask f)

    inside : (f : FlushAt) (e : ℕ) → flush_area d r mask e ≡ true → in_area d r.pid.0 (segments f) e ≡ true
    inside f e is = ap (λ s. in_area d r.pid.0 s e) (fun_ext (λ t. whole_bit (has_bit r.held t || has_bit mask t) r.pid.0)) ∙ is

    knows : (f : FlushAt) → m.hand p ≡ hand.Flushing r why mask f → FlushKnows d at (segments f) m.copies (m.cache p) r f
    knows f e = (subst (HandKnows d at m.copies (m.cache p)) e (st.blocks.hands p)).0

    pub mark : (x : Flush Mark) → m.hand p ≡ hand.Flushing r why mask (flush.Mark x) → (e : ℕ) → flush_area d r mask e ≡ true → Rests d at.state m e
    mark x h e is = both_rest (in_area d r.pid.0 (segments (flush.Mark x))) (knows (flush.Mark x) h).both e (inside (flush.Mark x) e is)

    pub close : (x : Flush Close) → m.hand p ≡ hand.Flushing r why mask (flush.Close x) → (e : ℕ) → flush_area d r mask e ≡ true → Rests d at.state m e
    close x h e is = both_rest (in_area d r.pid.0 (segments (flush.Close x))) (knows (flush.Close x) h).both e (inside (flush.Close x) e is)

    pub first : (x : Flush First) → m.hand p ≡ hand.Flushing r why mask (flush.First x) → FirstPassIn d (arrived d events) at.state m r mask (units x (m.cache p).changes) x.cursor
    first x h = told (knows (flush.First x) h)
      where
        told : FirstPass d at (segments (flush.First x)) m.copies (m.cache p) r (units x (m.cache p).changes) x.cursor → FirstPassIn d (arrived d events) at.state m r mask (units x (m.cache p).changes) x.cursor
        told k = record {
          next = k.works.ahead.state;
          steps = subst (λ i. steps d i r.pid.0 r.steps at.state ≡ Some k.works.ahead.state) st.input k.works.ahead.steps;
          shadows = λ e n is up. k.shadows.each e n (and_both (in_area d r.pid.0 (segments (flush.First x)) e) (serves (shape_of d) m.copies e true) (inside (flush.First x) e is) up) ∙ kept_at e n;
          units = λ i before below up. written_hold d m.copies false r.pid.0 (segments (flush.First x)) (units x (m.cache p).changes) x.cursor _ k.primaries k.make.units i before below up ∙ next_at r.pid.0 k.works.ahead.state _ _;
          to_come = λ i past below up. k.to_come.each i past below up ∙ kept_at (unit_at (units x (m.cache p).changes) i).extent.0 (unit_at (units x (m.cache p).changes) i).place;
          others = λ e n is up none.
              others_hold d m.copies false r.pid.0 (segments (flush.First x)) (units x (m.cache p).changes) x.cursor _ k.primaries e n (inside (flush.First x) e is) up none
              ∙ sym (k.make.blocks.each e n (inside (flush.First x) e is)) ∙ ap (λ (o : Option Block). unwrap_or o (committed_blocks d at e n)) none ∙ kept_at e n;
        }

    pub second : (x : Flush Second) → m.hand p ≡ hand.Flushing r why mask (flush.Second x) → SecondPassIn d at.state m r mask (units x (m.cache p).changes) (x.cursor - 1)
    second x h = told (knows (flush.Second x) h)
      where
        told : SecondPass d at (segments (flush.Second x)) m.copies (m.cache p) r (units x (m.cache p).changes) x.cursor → SecondPassIn d at.state m r mask (units x (m.cache p).changes) (x.cursor - 1)
        told k = record {
          cached = λ i below. unit_committed d at r.pid.0 (segments (flush.Second x)) (units x (m.cache p).changes) k.units k.cached i below ∙ kept_at (unit_at (units x (m.cache p).changes) i).extent.0 (unit_at (units x (m.cache p).changes) i).place;
          primaries = λ e n is up. k.primaries.each e n (and_both (in_area d r.pid.0 (segments (flush.Second x)) e) (serves (shape_of d) m.copies e false) (inside (flush.Second x) e is) up) ∙ kept_at e n;
          units = λ i before below up. written_hold d m.copies true r.pid.0 (segments (flush.Second x)) (units x (m.cache p).changes) (x.cursor - 1) _ k.shadows k.units i before below up ∙ kept_at _ _;
          others = λ e n is up none. others_hold d m.copies true r.pid.0 (segments (flush.Second x)) (units x (m.cache p).changes) (x.cursor - 1) _ k.shadows e n (inside (flush.Second x) e is) up none ∙ kept_at e n;
        }

pub first_pass_holds : FirstPassHoldsAlways
first_pass_holds d events m described all = record {
  mark = λ p r why mask x h e is. mark d events all.at m all.holds p r why mask x h e is;
  first = λ p r why mask x h. first d events all.at m all.holds p r why mask x h;
}

pub second_pass_holds : SecondPassHoldsAlways
second_pass_holds d events m described all = record {
  second = λ p r why mask x h. second d events all.at m all.holds p r why mask x h;
  close = λ p r why mask x h e is. close d events all.at m all.holds p r why mask x h e is;
}
