-- Steps of processes with areas apart, in any order.
use Rattle.std.proofs.Common.{◌≡◌, ◌≢◌, ℕ, ◌+◌, Bool, true, false, List, refl, sym, ◌∙◌, subst, inl, inr, true≢false, arith}
use Rattle.std.proofs.lemmas.Bool.{cases_Bool, cases_eq, eqb-true, ne_eqb}
use Rattle.std.proofs.lemmas.List.{ext_get_or}
use Rattle.seq_words.specs.declared.description.MachineDesc.{MachineDesc}
use Rattle.seq_flat.specs.declared.inputs.LineInput.{LineInput}
use Rattle.seq_flat.specs.declared.state.FlatState.{FlatState}
use Rattle.seq_flat.specs.declared.state.Rights.{Rights}
use Rattle.seq_flat.specs.State.{no_process, no_segment, no_line, process_at, segment_at, line_at, rights_of}
use Rattle.seq_runs.specs.Areas.{owns, SameCounts, HoldsWithin, Agree, OthersStay}
use Rattle.seq_runs.specs.Ahead.{IsAhead, TakesSameSteps, AreLocal}
use Rattle.seq_runs.specs.Orders.{AreApart, LocksKeepApart, HaveOneOwner, IsUntouched, OthersAreUntouched, StepsCommute}
use Rattle.seq_runs.proofs.Ahead.{none_yet, many_steps_are_local}
use Rattle.seq_runs.proofs.Owners.{lines_have_one_owner}

-- where one is true the other is false, and the other way round
apart_back : (a b : Bool) → (a ≡ true → b ≡ false) → b ≡ true → a ≡ false
apart_back true b apart is = absurd (true≢false (sym is ∙ apart refl))
apart_back false b apart is = refl

pub locks_keep_apart : LocksKeepApart
locks_keep_apart word p q other s named =
    let is : word s ≡ p + 1 = eqb-true (word s) (p + 1) named in
    ne_eqb (word s) (q + 1) (λ e. other (omega (arith, is, e)))

pub others_are_untouched : OthersAreUntouched
others_are_untouched rights area other p q f g owners ne apart stay = record {
  agree = record {
    process = sym (stay.process q ne);
    line = λ l mine. sym (stay.line l (owners q p l (λ e. ne (sym e)) mine));
    segment = λ s inside. sym (stay.segment s (apart_back (area s) (other s) (apart s) inside));
    counts = stay.counts;
  };
  within = λ w. record { segment = λ s held. w.segment s (stay.holder q s ne held) };
}

-- two states that are the same everywhere
pub same_state : (f g : FlatState) → SameCounts f g → ((p : ℕ) → process_at f p ≡ process_at g p) → ((l : ℕ) → line_at f l ≡ line_at g l) → ((s : ℕ) → segment_at f s ≡ segment_at g s) → f ≡ g
same_state f g counts processes lines segments =
    let a : f.processes ≡ g.processes = ext_get_or no_process f.processes g.processes counts.processes (λ p _. processes p) in
    let b : f.segments ≡ g.segments = ext_get_or no_segment f.segments g.segments counts.segments (λ s _. segments s) in
    let c : f.lines ≡ g.lines = ext_get_or no_line f.lines g.lines counts.lines (λ l _. lines l) in
    λ i. record { processes = a i; segments = b i; lines = c i }

-- the lists of one state, where two processes went from f to g and h, and then each where the other was
both_ways : (rights : List Rights) (one two : ℕ → Bool) (p q : ℕ) (f g h k m : FlatState) → q ≢ p → AreApart one two → HaveOneOwner rights
    → OthersStay rights one p f g → OthersStay rights two q f h → OthersStay rights two q g k → OthersStay rights one p h m → Agree rights two q h k → Agree rights one p g m → k ≡ m
both_ways rights one two p q f g h k m ne apart owners fg fh gk hm hk gm = same_state k m counts processes lines segments
  where
    counts : SameCounts k m
    counts = record {
      processes = sym hk.counts.processes ∙ hm.counts.processes;
      segments = sym hk.counts.segments ∙ hm.counts.segments;
      lines = sym hk.counts.lines ∙ hm.counts.lines;
    }

    elsewhere : (r : ℕ) → r ≢ p → r ≢ q → process_at k r ≡ process_at m r
    elsewhere r np nq = gk.process r nq ∙ fg.process r np ∙ sym (fh.process r nq) ∙ sym (hm.process r np)

    processes : (r : ℕ) → process_at k r ≡ process_at m r
    processes r = elim (cases_eq r p) [
      | inl e ↦ subst (λ x. process_at k x ≡ process_at m x) (sym e) (gk.process p (λ i. ne (sym i)) ∙ gm.process)
      | inr np ↦ elim (cases_eq r q) [
        | inl e ↦ subst (λ x. process_at k x ≡ process_at m x) (sym e) (sym hk.process ∙ sym (hm.process q ne))
        | inr nq ↦ elsewhere r np nq
      ]
    ]

    lines : (l : ℕ) → line_at k l ≡ line_at m l
    lines l = elim (cases_Bool (owns rights p l)) [
      | inl mine ↦ gk.line l (owners p q l ne mine) ∙ gm.line l mine
      | inr not_p ↦ elim (cases_Bool (owns rights q l)) [
        | inl mine ↦ sym (hk.line l mine) ∙ sym (hm.line l not_p)
        | inr not_q ↦ gk.line l not_q ∙ fg.line l not_p ∙ sym (fh.line l not_q) ∙ sym (hm.line l not_p)
      ]
    ]

    segments : (s : ℕ) → segment_at k s ≡ segment_at m s
    segments s = elim (cases_Bool (one s)) [
      | inl mine ↦ gk.segment s (apart s mine) ∙ gm.segment s mine
      | inr not_p ↦ elim (cases_Bool (two s)) [
        | inl mine ↦ sym (hk.segment s mine) ∙ sym (hm.segment s not_p)
        | inr not_q ↦ gk.segment s not_q ∙ fg.segment s not_p ∙ sym (fh.segment s not_q) ∙ sym (hm.segment s not_p)
      ]
    ]

-- the process holds only segments of its area before its steps
pub within_first : (d : MachineDesc) (inputs : List LineInput) (area : ℕ → Bool) (p n : ℕ) (f g : FlatState) → IsAhead d inputs area p n f g → HoldsWithin area p f
within_first d inputs area p n f g ahead = ahead.within 0 f (omega arith) (none_yet d inputs p f)

pub steps_commute : StepsCommute
steps_commute d inputs one two p q m n f g h is ne apart fg fh =
    let rights : List Rights = rights_of d in
    let owners : HaveOneOwner rights = lines_have_one_owner d is in
    let back : AreApart two one = λ s inside. apart_back (one s) (two s) (apart s) inside in
    let first : AreLocal d inputs one p m f g = many_steps_are_local d inputs one p m f g fg in
    let second : AreLocal d inputs two q n f h = many_steps_are_local d inputs two q n f h fh in
    let q_there : IsUntouched rights two q f g = others_are_untouched rights one two p q f g owners ne apart first.others in
    let p_there : IsUntouched rights one p f h = others_are_untouched rights two one q p f h owners (λ e. ne (sym e)) back second.others in
    let q_on : TakesSameSteps d inputs two q n h g = second.anywhere g q_there.agree (q_there.within (within_first d inputs two q n f h fh)) in
    let p_on : TakesSameSteps d inputs one p m g h = first.anywhere h p_there.agree (p_there.within (within_first d inputs one p m f g fg)) in
    let meet : p_on.state ≡ q_on.state = sym (both_ways rights one two p q f g h q_on.state p_on.state ne apart owners first.others second.others q_on.others p_on.others q_on.agree p_on.agree) in
    record {
      state = q_on.state;
      second = q_on.ahead;
      first = subst (IsAhead d inputs one p m h) meet p_on.ahead;
      second_agrees = q_on.agree;
      first_agrees = subst (Agree rights one p g) meet p_on.agree;
    }
