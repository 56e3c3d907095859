-- Who owns each segment once a flush is committed.
use Rattle.std.proofs.Common.{◌≡◌, ◌≢◌, ◌⊎◌, inl, inr, ℕ, suc, ◌≤◌, Bool, true, false, ◌==◌, if◌then◌else◌, Option, Some, None, length, refl, ap, sym, ◌∙◌, arith, eq-eqb}
use Rattle.std.proofs.lemmas.Bool.{cases_Bool, cases_lt, cond_both, cond-false, eqb-true, eqb-false, ne_eqb, false≢true, true≢false}
use Rattle.std.proofs.lemmas.List.{get_or_past}
use Rattle.seq_words.specs.Masks.{has_bit}
use Rattle.seq_words.specs.declared.description.MachineDesc.{MachineDesc}
use Rattle.seq_words.specs.declared.names.Pid.{Pid}
use Rattle.seq_flat.specs.Memory.{is_owner}
use Rattle.seq_flat.specs.State.{no_segment, segment_at}
use Rattle.seq_flat.specs.Reached.{IsReached}
use Rattle.seq_process.specs.declared.running.Running.{Running}
use Rattle.seq_cache.specs.Changes.{Changes}
use Rattle.seq_runs.proofs.Ahead.{many_steps_are_local}
use Rattle.seq_stands.specs.Locks.{committed_owner}
use Rattle.seq_invariant.specs.BlockApart.{number_of, owners_of}
use Rattle.seq_invariant.specs.BlockWorks.{Committed, Works, Commits}

-- from an owner to the next one, by the steps of process q
owner_next : (q : ℕ) (g f : Option Pid) (inside : Bool) → ((x : ℕ) → x ≢ q → is_owner x g ≡ true → is_owner x f ≡ true) → (inside ≡ false → g ≡ f) → ((x : ℕ) → x ≢ q → is_owner x f ≡ true → inside ≡ false) →
    number_of g ≡ (if is_owner q g then suc q else if number_of f == suc q then 0 else number_of f)
owner_next q None None inside keeps outside alone = sym (cond_both (0 == suc q) 0 0 (λ n. n ≡ 0) (λ _. refl) (λ _. refl))
owner_next q None (Some x) inside keeps outside alone = cond_both (suc x.0 == suc q) 0 (suc x.0) (λ n. 0 ≡ n) (λ _. refl) (λ other. absurd (gone other (cases_Bool inside)))
  where
    ne : (suc x.0 == suc q) ≡ false → x.0 ≢ q
    ne other e = eqb-false (suc x.0) (suc q) other (ap suc e)

    gone : (suc x.0 == suc q) ≡ false → (inside ≡ true) ⊎ (inside ≡ false) → ⊥
    gone other (inl is) = true≢false (sym is ∙ alone x.0 (ne other) (eq-eqb x.0 x.0 refl))
    gone other (inr out) = let e = outside out in let c : ⊥ = cc in c
owner_next q (Some y) f inside keeps outside alone = cond_both (y.0 == q) (suc q) (if number_of f == suc q then 0 else number_of f) (λ n. suc y.0 ≡ n)
    (λ same. ap suc (eqb-true y.0 q same))
    (λ other. still f (keeps y.0 (eqb-false y.0 q other) (eq-eqb y.0 y.0 refl)) (eqb-false y.0 q other))
  where
    still : (o : Option Pid) → is_owner y.0 o ≡ true → y.0 ≢ q → suc y.0 ≡ (if number_of o == suc q then 0 else number_of o)
    still None is ne = absurd (false≢true is)
    still (Some x) is ne =
        let same : x.0 ≡ y.0 = eqb-true x.0 y.0 is in
        let other : suc x.0 ≢ suc q = λ e. ne (let c : y.0 ≡ q = omega (arith, same, e) in c) in
        ap suc (sym same) ∙ sym (cond-false _ 0 (suc x.0) (ne_eqb (suc x.0) (suc q) other))

module _ (d : MachineDesc) (at : Committed) (segments : ℕ → Bool) (r : Running) (c : Changes) (works : Works d at segments r c) (reached : IsReached d at.state) (commits : Commits d at segments r.pid.0 r.steps works.ahead.state) where
  -- what the process holds is what it owns in the state that its steps lead to
  held : (t : ℕ) → has_bit r.held t ≡ is_owner r.pid.0 (segment_at works.ahead.state t).owner
  held t = elim (cases_lt t (length d.segments)) [
    | inl lt ↦ (works.ahead.flush.shows.segment t lt).held
    | inr past ↦ unheld past (has_bit r.held t) refl ∙ sym (ap (λ s. is_owner r.pid.0 s.owner) (get_or_past works.ahead.state.segments t no_segment (let l = works.ahead.flush.flat.segments in omega (arith, past, l))))
  ]
    where
      unheld : length d.segments ≤ t → (b : Bool) → has_bit r.held t ≡ b → has_bit r.held t ≡ false
      unheld past true is = absurd (let lt = works.ahead.flush.within.held t is in let x : ⊥ = omega (arith, past, lt) in x)
      unheld past false is = is

  pub owners_next : (t : ℕ) → owners_of works.ahead.state t ≡ committed_owner (owners_of at.state) r.pid.0 r.held t
  owners_next t =
      let others = (many_steps_are_local d at.inputs segments r.pid.0 r.steps at.state works.ahead.state works.alone).others in
      owner_next r.pid.0 (segment_at works.ahead.state t).owner (segment_at at.state t).owner (segments t) (λ x ne is. others.holder x t ne is) (λ out. ap (λ s. s.owner) (others.segment t out)) (λ x ne is. commits.owned x t ne is)
      ∙ ap (λ b. if b then suc r.pid.0 else if owners_of at.state t == suc r.pid.0 then 0 else owners_of at.state t) (sym (held t))
