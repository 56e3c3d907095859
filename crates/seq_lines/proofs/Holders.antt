-- Who holds a segment after a run is a process of the description.
use Rattle.std.proofs.Common.{◌≡◌, ◌⊎◌, inl, inr, ℕ, zero, suc, ◌<◌, ◌≤◌, true, false, List, [], ◌∷◌, length, map, Some, None, refl, ap, sym, ◌∙◌, subst}
use Rattle.std.specs.Option.{option_and_then}
use Rattle.std.proofs.lemmas.Bool.{cases_eq, cases_lt, false≢true}
use Rattle.std.proofs.lemmas.Option.{same_Some, none-some}
use Rattle.std.proofs.lemmas.List.{get_or-map, get_or_past, length-map}
use Rattle.seq_words.specs.declared.description.MachineDesc.{MachineDesc}
use Rattle.seq_words.specs.declared.events.Entry.{Entry}
use Rattle.seq_flat.specs.declared.inputs.LineInput.{LineInput}
use Rattle.seq_flat.specs.declared.state.SegmentState.{SegmentState}
use Rattle.seq_flat.specs.declared.state.FlatState.{FlatState}
use Rattle.seq_flat.specs.State.{no_segment, segment_at, rights_of, start, start_process, start_segment}
use Rattle.seq_flat.specs.Memory.{is_owner}
use Rattle.seq_flat.specs.Step.{ok_of}
use Rattle.seq_flat.specs.Run.{steps, run_from}
use Rattle.seq_flat.proofs.Cases.{steps_past}
use Rattle.seq_runs.specs.Ahead.{AreLocal}
use Rattle.seq_runs.proofs.Ahead.{opened, no_steps, many_steps_are_local}
use Rattle.seq_lines.specs.Settled.{HoldersAreThere, RunsHaveHolders}

-- the holders are there, among as many processes as described
record AreThere (d : MachineDesc) (f : FlatState) : Type 0 where
  pub count : length f.processes ≡ length d.processes
  pub holders : HoldersAreThere d f

local_of : (d : MachineDesc) (inputs : List LineInput) (p n : ℕ) (f g : FlatState) → steps d inputs p n f ≡ Some g → AreLocal d inputs (λ s. true) p n f g
local_of d inputs p n f g leads = many_steps_are_local d inputs (λ s. true) p n f g (record { leads = leads; within = λ k h le e. record { segment = λ s i. refl } })

-- who isn't there takes no step
takes_none : (d : MachineDesc) (inputs : List LineInput) (p n : ℕ) (f : FlatState) → length f.processes ≤ p → steps d inputs p (suc n) f ≡ None
unfolding steps
takes_none d inputs p n f past = ap (λ s. option_and_then (λ g. steps d inputs p n g) (ok_of s)) (steps_past (rights_of d) inputs f p past)

steps_there : (d : MachineDesc) (inputs : List LineInput) (p n : ℕ) (f g : FlatState) → steps d inputs p n f ≡ Some g → AreThere d f → AreThere d g
steps_there d inputs p zero f g leads there = subst (AreThere d) (no_steps d inputs p f g leads) there
steps_there d inputs p (suc n) f g leads there = record {
  count = sym local.others.counts.processes ∙ there.count;
  holders = λ q t h. go q t h (cases_eq q p);
}
  where
    local : AreLocal d inputs (λ s. true) p (suc n) f g
    local = local_of d inputs p (suc n) f g leads

    inside : p < length d.processes
    inside = elim (cases_lt p (length f.processes)) [
      | inl lt ↦ subst (λ k. p < k) there.count lt
      | inr past ↦ absurd (none-some g (sym (takes_none d inputs p n f past) ∙ leads))
    ]

    go : (q t : ℕ) → is_owner q (segment_at g t).owner ≡ true → (q ≡ p) ⊎ (q ≡ p → ⊥) → q < length d.processes
    go q t h (inl e) = subst (λ k. k < length d.processes) (sym e) inside
    go q t h (inr ne) = there.holders q t (local.others.holder q t ne h)

run_there : (d : MachineDesc) (inputs : List LineInput) (history : List Entry) (f g : FlatState) → run_from d inputs f history ≡ Some g → AreThere d f → AreThere d g
unfolding run_from
run_there d inputs [] f g ran there = subst (AreThere d) (same_Some f g ran) there
run_there d inputs (e ∷ es) f g ran there =
    let o = opened (λ h. run_from d inputs h es) (steps d inputs e.pid.0 e.count f) g ran in
    run_there d inputs es o.0 g o.2 (steps_there d inputs e.pid.0 e.count f o.0 o.1 there)

nobody_yet : (d : MachineDesc) (q t : ℕ) → is_owner q (segment_at (start d) t).owner ≡ false
nobody_yet d q t = elim (cases_lt t (length d.segments)) [
  | inl lt ↦ ap (λ (s : SegmentState). is_owner q s.owner) (get_or-map start_segment d.segments t (record { size = 0; first = [] }) no_segment lt)
  | inr past ↦ ap (λ (s : SegmentState). is_owner q s.owner) (get_or_past (map start_segment d.segments) t no_segment (rw length-map past))
]

pub runs_have_holders : RunsHaveHolders
runs_have_holders d inputs history f ran = (run_there d inputs history (start d) f ran (record {
  count = length-map d.processes start_process;
  holders = λ q t h. absurd (false≢true (sym (nobody_yet d q t) ∙ h));
})).holders
