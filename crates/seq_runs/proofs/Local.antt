-- A step is local.
use Rattle.std.proofs.Common.{◌≡◌, ℕ, Bool, false, true, List, refl, sym, ◌∙◌, subst, inl, inr}
use Rattle.std.specs.Prelude.{◌||◌}
use Rattle.std.proofs.lemmas.Bool.{cases_Bool}
use Rattle.seq_flat.specs.declared.state.SegmentState.{SegmentState}
use Rattle.seq_flat.specs.declared.state.FlatState.{FlatState}
use Rattle.seq_flat.specs.declared.state.Rights.{Rights}
use Rattle.seq_flat.specs.Memory.{is_owner}
use Rattle.seq_flat.specs.Step.{step_or_wait}
use Rattle.seq_runs.specs.Areas.{holds, SameCounts, HoldsWithin, Agree, OthersStay}
use Rattle.seq_runs.specs.Local.{StepsAreLocal, StepsUseWhatIsHeld}
use Rattle.seq_runs.proofs.Touches.{touched, touch_stays, touch_alike}
use Rattle.seq_runs.proofs.Sames.{Two, SameTouch}
use Rattle.seq_runs.proofs.Steps.{step_touch}

pub counts_self : (f : FlatState) → SameCounts f f
counts_self f = record { processes = refl; segments = refl; lines = refl }

pub counts_on : (f g h : FlatState) → SameCounts f g → SameCounts g h → SameCounts f h
counts_on f g h a b = record { processes = a.processes ∙ b.processes; segments = a.segments ∙ b.segments; lines = a.lines ∙ b.lines }

pub agree_self : (rights : List Rights) (area : ℕ → Bool) (p : ℕ) (f : FlatState) → Agree rights area p f f
agree_self rights area p f = record { process = refl; line = λ l mine. refl; segment = λ s inside. refl; counts = counts_self f }

pub agree_on : (rights : List Rights) (area : ℕ → Bool) (p : ℕ) (f g h : FlatState) → Agree rights area p f g → Agree rights area p g h → Agree rights area p f h
agree_on rights area p f g h a b = record {
  process = a.process ∙ b.process;
  line = λ l mine. a.line l mine ∙ b.line l mine;
  segment = λ s inside. a.segment s inside ∙ b.segment s inside;
  counts = counts_on f g h a.counts b.counts;
}

pub agree_back : (rights : List Rights) (area : ℕ → Bool) (p : ℕ) (f g : FlatState) → Agree rights area p f g → Agree rights area p g f
agree_back rights area p f g a = record {
  process = sym a.process;
  line = λ l mine. sym (a.line l mine);
  segment = λ s inside. sym (a.segment s inside);
  counts = record { processes = sym a.counts.processes; segments = sym a.counts.segments; lines = sym a.counts.lines };
}

pub stay_self : (rights : List Rights) (area : ℕ → Bool) (p : ℕ) (f : FlatState) → OthersStay rights area p f f
stay_self rights area p f = record { process = λ q other. refl; line = λ l other. refl; segment = λ s out. refl; holder = λ q s other held. held; counts = counts_self f }

pub stay_on : (rights : List Rights) (area : ℕ → Bool) (p : ℕ) (f g h : FlatState) → OthersStay rights area p f g → OthersStay rights area p g h → OthersStay rights area p f h
stay_on rights area p f g h a b = record {
  process = λ q other. b.process q other ∙ a.process q other;
  line = λ l other. b.line l other ∙ a.line l other;
  segment = λ s out. b.segment s out ∙ a.segment s out;
  holder = λ q s other held. a.holder q s other (b.holder q s other held);
  counts = counts_on f g h a.counts b.counts;
}

-- where nothing outside of the area changes, the process holds nothing there either
pub still_within : (rights : List Rights) (area : ℕ → Bool) (p : ℕ) (f g : FlatState) → OthersStay rights area p f g → HoldsWithin area p f → HoldsWithin area p g
still_within rights area p f g stay within = record {
  segment = λ s held. elim (cases_Bool (area s)) [
    | inl inside ↦ inside
    | inr out ↦ within.segment s (subst (λ (x : SegmentState). is_owner p x.owner ≡ true) (stay.segment s out) held)
  ];
}

pub steps_are_local : StepsAreLocal
steps_are_local rights inputs area p f g before after stepped =
    let here : Two = record { rights = rights; area = area; p = p; f = f; g = f } in
    let near : SameTouch here g (step_or_wait rights inputs f p) = step_touch here inputs g (record { agree = agree_self rights area p f; near = before; far = before }) after stepped in
    record {
      others = subst (OthersStay rights area p f) (sym near.here) (touch_stays rights area f p near.now near.touch before near.may);
      anywhere = λ h agree within.
          let two : Two = record { rights = rights; area = area; p = p; f = f; g = h } in
          let same : SameTouch two g (step_or_wait rights inputs h p) = step_touch two inputs g (record { agree = agree; near = before; far = within }) after stepped in
          let stays : OthersStay rights area p h (touched h p same.now same.touch) = touch_stays rights area h p same.now same.touch within same.may in
          record {
            state = touched h p same.now same.touch;
            step = same.there;
            agree = subst (λ x. Agree rights area p x (touched h p same.now same.touch)) (sym same.here) (touch_alike rights area f h p same.now same.touch agree);
            within = still_within rights area p h (touched h p same.now same.touch) stays within;
            others = stays;
          };
    }

or_left : (a b : Bool) → a ≡ true → (a || b) ≡ true
or_left a b is = rw is refl

or_right : (a b : Bool) → b ≡ true → (a || b) ≡ true
or_right true b is = refl
or_right false b is = is

pub steps_use_what_is_held : StepsUseWhatIsHeld
steps_use_what_is_held rights inputs p f g stepped =
    steps_are_local rights inputs (λ s. holds f p s || holds g p s) p f g
    (record { segment = λ s held. or_left (holds f p s) (holds g p s) held }) (record { segment = λ s held. or_right (holds f p s) (holds g p s) held }) stepped
