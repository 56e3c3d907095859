-- It stands at the start.
use Rattle.std.proofs.Common.{◌≡◌, inl, ℕ, ◌<◌, Bool, true, false, if◌then◌else◌, arith, refl, ap, sym, ◌∙◌, subst}
use Rattle.std.proofs.lemmas.Bool.{cond-true, cond_both, lt-ltb, true≢false}
use Rattle.seq_words.specs.Description.{IsDescription}
use Rattle.seq_words.specs.declared.block.Block.{Block}
use Rattle.seq_words.specs.declared.description.MachineDesc.{MachineDesc}
use Rattle.seq_memory.specs.States.{is_in_service}
use Rattle.seq_memory.specs.declared.element.State.{State}
use Rattle.seq_memory.specs.declared.element.State.TheVariants.{InService}
use Rattle.seq_layout.specs.Places.{memory_of}
use Rattle.seq_layout.specs.Shapes.{shape_of}
use Rattle.seq_layout.specs.Copies.{serves}
use Rattle.seq_layout.proofs.Apart.{memory_in}
use Rattle.seq_turns.specs.Machines.{Machine}
use Rattle.seq_turns.specs.Start.{start}
use Rattle.seq_stands.specs.Words.{View, view_of, ruling}
use Rattle.seq_stands.specs.Service.{ServiceHolds}
use Rattle.seq_stands.specs.Standing.{StartStands}

pub nothing_either : (b : Bool) → ◌≡◌ {A = ℕ} (if b then 0 else 0) 0
nothing_either true = refl
nothing_either false = refl

module _ (d : MachineDesc) (image : ℕ → ℕ → Block) (described : IsDescription d) where
  abbrev m : Machine
  m = start d image

  serving : (i : ℕ) → i < d.memories → m.copies.state i ≡ InService
  serving i there = cond-true _ _ _ (lt-ltb i d.memories there)

  served : (e : ℕ) (c : Bool) → serves (shape_of d) m.copies e c ≡ true
  served e c = ap is_in_service (serving (memory_of d.memories e c) (memory_in d.memories e c (omega (arith, described.memories.low_at))))

  none_out : (i : ℕ) → i < d.memories → is_in_service (m.copies.state i) ≡ false → ⊥
  none_out i there away = true≢false (sym (ap is_in_service (serving i there)) ∙ away)

  nobody_rules : (q : ℕ) → ruling (view_of d m.copies q) ≡ 0
  nobody_rules q = cond_both (view_of d m.copies q).up1 (view_of d m.copies q).word1 (view_of d m.copies q).word2 (λ x. x ≡ 0) (λ _. nothing_either _) (λ _. nothing_either _)

pub start_stands : StartStands
start_stands d image described = record {
  words = record {
    grips = λ p. tt;
    ruled = λ q there. inl (record { free = nobody_rules d image described q; both = λ a b. nothing_either _ });
    served = λ e away. served d image described e true;
  };
  hands = record { hands = λ p. tt; beyond = λ p past. refl; scans = λ p. omega (arith, described.processes.low_at) };
  service = record {
    one_out = λ i j i_there j_there i_out j_out. absurd (none_out d image described i i_there i_out);
    copied = λ i there. subst (ServiceHolds d (start d image) i) (sym (serving d image described i there)) tt;
  };
}
