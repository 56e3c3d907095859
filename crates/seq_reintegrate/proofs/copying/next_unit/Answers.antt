use Rattle.std.proofs.Common.{◌≡◌, ◌⊎◌, inl, inr, sym, ap, ◌∙◌}
use Rattle.seq_memory.specs.declared.element.State.{State}
use Rattle.seq_memory.specs.declared.element.State.TheVariants.{InService, Down, Stale}
use Rattle.seq_layout.proofs.CopiesByPlace.{memory_state_is}
use Rattle.seq_turns.specs.Recoveries.{next_of}
use Rattle.seq_reintegrate.proofs.copying.next_unit.Goals as goal

-- a memory that isn't being copied has no next unit yet
first_is_next : (s : State) → (s ≡ Stale) ⊎ ((s ≡ Down) ⊎ (s ≡ InService)) → 0 ≡ next_of s
first_is_next s (inl e) = sym (ap next_of e)
first_is_next s (inr (inl e)) = sym (ap next_of e)
first_is_next s (inr (inr e)) = sym (ap next_of e)

pub returns-in-Copying : goal.returns-in-Copying
returns-in-Copying c =
    ap next_of (sym c.in-Copying.is ∙ memory_state_is c.args.layout.now c.args.memories.now c.args.m.0 c.requires.matches c.requires.memory c.at.result.now c.at.ensures)

pub returns-in-Stale : goal.returns-in-Stale
returns-in-Stale c =
    first_is_next c.at.result.now.state c.in-Stale.is ∙
    ap next_of (memory_state_is c.args.layout.now c.args.memories.now c.args.m.0 c.requires.matches c.requires.memory c.at.result.now c.at.ensures)
