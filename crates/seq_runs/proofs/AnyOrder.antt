-- Steps of any number of processes with areas apart, in any order.
use Rattle.std.proofs.Common.{◌≡◌, ◌≢◌, ◌⊎◌, ℕ, Bool, true, false, List, [], ◌∷◌, Some, refl, sym, ◌∙◌, ap, subst, inl, inr, true≢false}
use Rattle.std.specs.Prelude.{◌==◌, ◌||◌}
use Rattle.std.proofs.lemmas.Bool.{cases_Bool, cases_eq, eq-eqb, ne_eqb}
use Rattle.seq_words.specs.declared.description.MachineDesc.{MachineDesc}
use Rattle.seq_flat.specs.declared.inputs.LineInput.{LineInput}
use Rattle.seq_flat.specs.declared.state.FlatState.{FlatState}
use Rattle.seq_flat.specs.declared.state.Rights.{Rights}
use Rattle.seq_flat.specs.State.{process_at, segment_at, line_at, rights_of}
use Rattle.seq_flat.specs.Run.{steps, run_from}
use Rattle.seq_runs.specs.Areas.{owns, SameCounts, HoldsWithin, Agree}
use Rattle.seq_runs.specs.Ahead.{TakesSameSteps, AreLocal}
use Rattle.seq_runs.specs.Orders.{AreApart, HaveOneOwner, IsUntouched, among, AreDifferent, entries, AreAhead, AnyOrderLeadsToOne}
use Rattle.seq_runs.proofs.Local.{counts_self, counts_on, agree_self, agree_on}
use Rattle.seq_runs.proofs.Ahead.{many_steps_are_local}
use Rattle.seq_runs.proofs.Owners.{lines_have_one_owner}
use Rattle.seq_runs.proofs.Orders.{others_are_untouched, same_state, within_first}

among_none : (q : ℕ) → among [] q ≡ false
unfolding among
among_none q = refl

-- the first of a list is among it, and so are the others
among_first : (p : ℕ) (ps : List ℕ) → among (p ∷ ps) p ≡ true
unfolding among
among_first p ps = rw (eq-eqb p p refl) refl

or_right : (b : Bool) → (b || true) ≡ true
or_right true = refl
or_right false = refl

among_rest : (p q : ℕ) (ps : List ℕ) → among ps q ≡ true → among (p ∷ ps) q ≡ true
unfolding among
among_rest p q ps is = rw is (or_right (p == q))

among_other : (p q : ℕ) (ps : List ℕ) → q ≢ p → among (p ∷ ps) q ≡ among ps q
unfolding among
among_other p q ps ne = rw (ne_eqb p q (λ e. ne (sym e))) refl

-- who is among the others isn't the first
other_than : (p q : ℕ) (ps : List ℕ) → among ps p ≡ false → among ps q ≡ true → q ≢ p
other_than p q ps out is e = true≢false (sym is ∙ ap (among ps) e ∙ out)

-- one of these passes a test, or none does
found : (test : ℕ → Bool) (ps : List ℕ) → ((p : ℕ) × (among ps p ≡ true) × (test p ≡ true)) ⊎ ((p : ℕ) → among ps p ≡ true → test p ≡ false)
found test [] = inr (λ p is. absurd (true≢false (sym is ∙ among_none p)))
found test (x ∷ ps) = elim (cases_Bool (test x)) [
  | inl pass ↦ inl (x, among_first x ps, pass)
  | inr fail ↦ elim (found test ps) [
    | inl one ↦ inl (one.0, among_rest x one.0 ps one.1, one.2)
    | inr none ↦ inr (λ p is. elim (cases_eq p x) [
      | inl same ↦ ap test same ∙ fail
      | inr other ↦ none p (sym (among_other x p ps other) ∙ is)
    ])
  ]
]

-- a run along these entries from k: who is named has come to where it was ahead, and nothing else has changed
record Runs (d : MachineDesc) (inputs : List LineInput) (area : ℕ → ℕ → Bool) (count : ℕ → ℕ) (reached : ℕ → FlatState) (k : FlatState) (ps : List ℕ) : Type 0 where
  state : FlatState
  run : run_from d inputs k (entries count ps) ≡ Some state
  each : (p : ℕ) → among ps p ≡ true → Agree (rights_of d) (area p) p (reached p) state
  process : (r : ℕ) → among ps r ≡ false → process_at state r ≡ process_at k r
  line : (l : ℕ) → ((r : ℕ) → among ps r ≡ true → owns (rights_of d) r l ≡ false) → line_at state l ≡ line_at k l
  segment : (s : ℕ) → ((r : ℕ) → among ps r ≡ true → area r s ≡ false) → segment_at state s ≡ segment_at k s
  counts : SameCounts k state

-- a state in which these processes are as they were in f
abbrev AreReady : MachineDesc → (ℕ → ℕ → Bool) → FlatState → FlatState → List ℕ → Type 0
AreReady d area f k ps = (p : ℕ) → among ps p ≡ true → Agree (rights_of d) (area p) p f k × HoldsWithin (area p) p k

no_run : (d : MachineDesc) (inputs : List LineInput) (k : FlatState) → run_from d inputs k [] ≡ Some k
unfolding run_from
no_run d inputs k = refl

longer_run : (d : MachineDesc) (inputs : List LineInput) (count : ℕ → ℕ) (p : ℕ) (ps : List ℕ) (k h g : FlatState) → steps d inputs p (count p) k ≡ Some h → run_from d inputs h (entries count ps) ≡ Some g → run_from d inputs k (entries count (p ∷ ps)) ≡ Some g
unfolding run_from
longer_run d inputs count p ps k h g leads rest = rw leads rest

run_all : (d : MachineDesc) (inputs : List LineInput) (area : ℕ → ℕ → Bool) (count : ℕ → ℕ) (reached : ℕ → FlatState) (f k : FlatState) (ps : List ℕ)
    → HaveOneOwner (rights_of d) → ((p q : ℕ) → q ≢ p → AreApart (area p) (area q)) → AreDifferent ps → AreAhead d inputs area count reached f ps → AreReady d area f k ps → Runs d inputs area count reached k ps
run_all d inputs area count reached f k [] owners apart different ahead ready = record {
  state = k;
  run = no_run d inputs k;
  each = λ p is. absurd (true≢false (sym is ∙ among_none p));
  process = λ r out. refl;
  line = λ l none. refl;
  segment = λ s none. refl;
  counts = counts_self k;
}
run_all d inputs area count reached f k (p ∷ ps) owners apart different ahead ready =
    let rights : List Rights = rights_of d in
    let local : AreLocal d inputs (area p) p (count p) f (reached p) = many_steps_are_local d inputs (area p) p (count p) f (reached p) (ahead p (among_first p ps)) in
    let mine = ready p (among_first p ps) in
    let on : TakesSameSteps d inputs (area p) p (count p) (reached p) k = local.anywhere k mine.0 mine.1 in
    let ready_on : AreReady d area f on.state ps = λ q is.
    let ne : q ≢ p = other_than p q ps different.0 is in
    let before = ready q (among_rest p q ps is) in
    let untouched : IsUntouched rights (area q) q k on.state = others_are_untouched rights (area p) (area q) p q k on.state owners ne (apart p q ne) on.others in
    (agree_on rights (area q) q f k on.state before.0 untouched.agree, untouched.within before.1) in
    let rest : Runs d inputs area count reached on.state ps = run_all d inputs area count reached f on.state ps owners apart different.1 (λ q is. ahead q (among_rest p q ps is)) ready_on in
    let kept : Agree rights (area p) p on.state rest.state = record {
      process = sym (rest.process p different.0);
      line = λ l owned. sym (rest.line l (λ r is. owners p r l (other_than p r ps different.0 is) owned));
      segment = λ s inside. sym (rest.segment s (λ r is. apart p r (other_than p r ps different.0 is) s inside));
      counts = rest.counts;
    } in
    record {
      state = rest.state;
      run = longer_run d inputs count p ps k on.state rest.state on.ahead.leads rest.run;
      each = λ q is. elim (cases_eq q p) [
        | inl same ↦ subst (λ x. Agree rights (area x) x (reached x) rest.state) (sym same) (agree_on rights (area p) p (reached p) on.state rest.state on.agree kept)
        | inr other ↦ rest.each q (sym (among_other p q ps other) ∙ is)
      ];
      process = λ r out.
          let ne : r ≢ p = λ e. true≢false (sym (among_first p ps) ∙ ap (among (p ∷ ps)) (sym e) ∙ out) in
          rest.process r (sym (among_other p r ps ne) ∙ out) ∙ on.others.process r ne;
      line = λ l none. rest.line l (λ r is. none r (among_rest p r ps is)) ∙ on.others.line l (none p (among_first p ps));
      segment = λ s none. rest.segment s (λ r is. none r (among_rest p r ps is)) ∙ on.others.segment s (none p (among_first p ps));
      counts = counts_on k on.state rest.state on.others.counts rest.counts;
    }

-- what such a run leads to depends on who is named alone
one_end : (d : MachineDesc) (inputs : List LineInput) (area : ℕ → ℕ → Bool) (count : ℕ → ℕ) (reached : ℕ → FlatState) (f : FlatState) (ps qs : List ℕ) → ((p : ℕ) → among qs p ≡ among ps p)
    → (one : Runs d inputs area count reached f ps) (two : Runs d inputs area count reached f qs) → two.state ≡ one.state
one_end d inputs area count reached f ps qs same one two = same_state two.state one.state counts processes lines segments
  where
    counts : SameCounts two.state one.state
    counts = record {
      processes = sym two.counts.processes ∙ one.counts.processes;
      segments = sym two.counts.segments ∙ one.counts.segments;
      lines = sym two.counts.lines ∙ one.counts.lines;
    }

    processes : (r : ℕ) → process_at two.state r ≡ process_at one.state r
    processes r = elim (cases_Bool (among ps r)) [
      | inl is ↦ sym (two.each r (same r ∙ is)).process ∙ (one.each r is).process
      | inr out ↦ two.process r (same r ∙ out) ∙ sym (one.process r out)
    ]

    lines : (l : ℕ) → line_at two.state l ≡ line_at one.state l
    lines l = elim (found (λ r. owns (rights_of d) r l) ps) [
      | inl by ↦ sym ((two.each by.0 (same by.0 ∙ by.1)).line l by.2) ∙ (one.each by.0 by.1).line l by.2
      | inr none ↦ two.line l (λ r is. none r (sym (same r) ∙ is)) ∙ sym (one.line l none)
    ]

    segments : (s : ℕ) → segment_at two.state s ≡ segment_at one.state s
    segments s = elim (found (λ r. area r s) ps) [
      | inl by ↦ sym ((two.each by.0 (same by.0 ∙ by.1)).segment s by.2) ∙ (one.each by.0 by.1).segment s by.2
      | inr none ↦ two.segment s (λ r is. none r (sym (same r) ∙ is)) ∙ sym (one.segment s none)
    ]

ready_first : (d : MachineDesc) (inputs : List LineInput) (area : ℕ → ℕ → Bool) (count : ℕ → ℕ) (reached : ℕ → FlatState) (f : FlatState) (ps : List ℕ) → AreAhead d inputs area count reached f ps → AreReady d area f f ps
ready_first d inputs area count reached f ps ahead p is = (agree_self (rights_of d) (area p) p f, within_first d inputs (area p) p (count p) f (reached p) (ahead p is))

pub any_order_leads_to_one : AnyOrderLeadsToOne
any_order_leads_to_one d inputs area count reached f ps qs is apart ahead different different' same =
    let owners : HaveOneOwner (rights_of d) = lines_have_one_owner d is in
    let ahead' : AreAhead d inputs area count reached f qs = λ p there. ahead p (sym (same p) ∙ there) in
    let one : Runs d inputs area count reached f ps = run_all d inputs area count reached f f ps owners apart different ahead (ready_first d inputs area count reached f ps ahead) in
    let two : Runs d inputs area count reached f qs = run_all d inputs area count reached f f qs owners apart different' ahead' (ready_first d inputs area count reached f qs ahead') in
    record {
      state = one.state;
      first = one.run;
      second = two.run ∙ ap Some (one_end d inputs area count reached f ps qs same one two);
      each = one.each;
    }
