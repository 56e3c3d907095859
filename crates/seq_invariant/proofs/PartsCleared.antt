-- No lock word behind the cursor of a recovery is left to be cleared.
use Rattle.std.proofs.Common.{◌≡◌, ◌⊎◌, inl, inr, ℕ, suc, ◌*◌, ◌/◌, ◌%◌, ◌<◌, Bool, true, false, not, List, length, refl, sym, ◌∙◌, subst, arith, eq-eqb}
use Rattle.std.proofs.lemmas.Bool.{cond-true, cases_Bool, and_parts, eqb-true, eqb-false, not-true, true≢false}
use Rattle.seq_words.specs.Masks.{has_bit}
use Rattle.seq_words.specs.Description.{IsDescription}
use Rattle.seq_words.specs.declared.description.MachineDesc.{MachineDesc}
use Rattle.seq_words.specs.declared.events.Event.{Event}
use Rattle.seq_words.specs.declared.events.Event.TheVariants as event
use Rattle.seq_layout.specs.Shapes.{shape_of, segment_extent}
use Rattle.seq_layout.specs.Copies.{serves}
use Rattle.seq_turns.specs.declared.hand.Hand.TheVariants as hand
use Rattle.seq_recover.specs.declared.recovery.Locks as locks_stage
use Rattle.seq_recover.specs.declared.recovery.Recovery.{Recovery}
use Rattle.seq_turns.specs.declared.hand.RecoveryAt.TheVariants as recovery
use Rattle.seq_turns.specs.Machines.{Machine}
use Rattle.seq_turns.specs.Reading.{context_of}
use Rattle.seq_recover.specs.Reading.{names, is_shadow, is_left}
use Rattle.seq_stands.specs.Locks.{lock_view, ContextOwns, SettledBelow, HandLocks}
use Rattle.seq_stands.proofs.LockPlaces.{rules_first}
use Rattle.seq_invariant.specs.BlockApart.{owners_of}
use Rattle.seq_invariant.specs.Holds.{AllHolds}
use Rattle.seq_invariant.specs.Processes.{NoneIsLeftAlways}
use Rattle.seq_invariant.proofs.Takes.{takes_locks}

module _ (d : MachineDesc) (events : List Event) (m : Machine) (described : IsDescription d) (all : AllHolds d events m) (p k : ℕ) (r : Recovery locks_stage.Locks) (e : m.hand p ≡ hand.Recovering (recovery.Locks r)) (behind : k < r.cursor) (inside : k < 2 * length d.segments) where
  owner : ℕ → ℕ
  owner = owners_of all.at.state

  context : ContextOwns d (owners_of all.at.state) m.copies r.pid.0
  context = (takes_locks d all.at m described all.holds.words all.holds.locks all.holds.blocks (event.Processor (record { 0 = p }))).cleared r e

  settled : SettledBelow d (owners_of all.at.state) m.copies r.pid.0 r.cursor
  settled = subst (HandLocks d (owners_of all.at.state) m.copies) e (all.holds.locks.hands p)

  within : k / 2 < length d.segments
  within = omega (arith, inside)

  -- a word there that names the process is its own
  own : (b : Bool) → is_shadow k ≡ b → names d m.copies r.pid.0 (k / 2) b ≡ true → owners_of all.at.state (k / 2) ≡ suc r.pid.0
  own true h named =
      let parts = and_parts (serves (shape_of d) m.copies (segment_extent (shape_of d) (k / 2)) true) _ named in
      let even : k % 2 ≡ 0 = eqb-true (k % 2) 0 h in
      settled.shadow (k / 2) within (omega (arith, behind, even)) (cond-true _ _ _ parts.0 ∙ eqb-true _ _ parts.1)
  own false h named =
      let parts = and_parts (serves (shape_of d) m.copies (segment_extent (shape_of d) (k / 2)) false) _ named in
      let odd = eqb-false (k % 2) 0 h in
      settled.primary (k / 2) within (omega (arith, behind, odd)) (rules_first (lock_view d m.copies (k / 2)) (suc r.pid.0) parts.0 (cond-true _ _ _ parts.0 ∙ eqb-true _ _ parts.1))

  none_left : is_left d m.copies r.pid.0 k ≡ false
  none_left = go (cases_Bool (is_left d m.copies r.pid.0 k))
    where
      go : (is_left d m.copies r.pid.0 k ≡ true) ⊎ (is_left d m.copies r.pid.0 k ≡ false) → is_left d m.copies r.pid.0 k ≡ false
      go (inr out) = out
      go (inl left) =
          let parts = and_parts (not (has_bit (context_of d m.copies r.pid.0).held (k / 2))) (names d m.copies r.pid.0 (k / 2) (is_shadow k)) left in
          let held : has_bit (context_of d m.copies r.pid.0).held (k / 2) ≡ true = context.owns (k / 2) within ∙ eq-eqb _ _ (own (is_shadow k) refl parts.1) in
          absurd (true≢false (sym held ∙ not-true _ parts.0))

pub none_is_left : NoneIsLeftAlways
none_is_left d events m described all = record { behind = λ p k r e behind inside. none_left d events m described all p k r e behind inside }
