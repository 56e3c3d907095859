use Rattle.std.proofs.Common.{◌≡◌, ◌⊎◌, inl, inr, ℕ, ◌<◌, Bool, true, false, List, length, slice_get, Option, Some, None, sym, ap, ◌∙◌, subst}
use Rattle.std.specs.Option.{is_some}
use Rattle.std.proofs.lemmas.Bool.{false≢true}
use Rattle.std.proofs.lemmas.Option.{slice_get_within}
use Rattle.seq_memory.specs.declared.element.State.{State}
use Rattle.seq_memory.specs.declared.element.State.TheVariants.{InService, Down, Stale, Copying}
use Rattle.seq_layout.specs.Units.{units_of}
use Rattle.seq_layout.specs.declared.units.Unit.{Unit}
use Rattle.seq_layout.proofs.CopiesByPlace.{memory_state_is}
use Rattle.seq_turns.specs.Recoveries.{next_of}
use Rattle.seq_reintegrate.proofs.tests.has_next.Goals as goal

within : (o : Option Unit) (xs : List Unit) (k : ℕ) → is_some o ≡ true → o ≡ slice_get xs k → k < length xs
within (Some u) xs k some e = slice_get_within xs k u (sym e)
within None xs k some e = absurd (false≢true some)

is_copying : State → Bool
is_copying (Copying n) = true
is_copying InService = false
is_copying Down = false
is_copying Stale = false

not_copying : (s : State) (n : ℕ) → (s ≡ Stale) ⊎ ((s ≡ Down) ⊎ (s ≡ InService)) → s ≡ Copying n → ⊥
unfolding is_copying
not_copying s n (inl e) is = false≢true (ap is_copying (sym e ∙ is))
not_copying s n (inr (inl e)) is = false≢true (ap is_copying (sym e ∙ is))
not_copying s n (inr (inr e)) is = false≢true (ap is_copying (sym e ∙ is))

pub returns-in-Copying : goal.returns-in-Copying
returns-in-Copying c some n is =
    let units = units_of c.args.layout.now c.args.m.0 in
    let state = memory_state_is c.args.layout.now c.args.memories.now c.args.m.0 c.requires.matches c.requires.memory c.at.result.now c.at.ensures in
    let same : c.in-Copying.next ≡ n = ap next_of (sym c.in-Copying.is ∙ state ∙ is) in
    subst (λ k. k < length units) same (within c.unit.result units c.in-Copying.next (sym c.is_some.ensures ∙ some) c.unit.ensures)

pub returns-in-Stale : goal.returns-in-Stale
returns-in-Stale c some n is =
    let state = memory_state_is c.args.layout.now c.args.memories.now c.args.m.0 c.requires.matches c.requires.memory c.at.result.now c.at.ensures in
    absurd (not_copying c.at.result.now.state n c.in-Stale.is (state ∙ is))
