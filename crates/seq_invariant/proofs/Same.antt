-- What stands of the blocks speaks of no line, and stays with more input.
use Rattle.std.proofs.Common.{inl, inr, ℕ, Bool, List}
use Rattle.seq_words.specs.declared.description.MachineDesc.{MachineDesc}
use Rattle.seq_flat.specs.declared.inputs.LineInput.{LineInput}
use Rattle.seq_flat.specs.Laws.{MoreInput}
use Rattle.seq_flat.specs.Reached.{FitJournals}
use Rattle.seq_io.specs.declared.element.IoElement.{IoElement}
use Rattle.seq_io.specs.declared.element.PortState.{PortState}
use Rattle.seq_turns.specs.Machines.{Machine}
use Rattle.seq_flat.proofs.MoreInputs.{input_keeps_runs}
use Rattle.seq_invariant.specs.BlockLeft.{IsLeft}
use Rattle.seq_invariant.specs.BlockInputs.{with_inputs}
use Rattle.seq_invariant.specs.BlockWorks.{Committed}
use Rattle.seq_invariant.specs.BlockStanding.{ExtentStands, BlocksStand}
use Rattle.seq_invariant.proofs.BlockInputs.{inputs_keep}

-- the machine with other cursors, I/O elements, ports and lines
abbrev pub with_lines : Machine → (ℕ → ℕ) → (ℕ → IoElement) → (ℕ → PortState) → (ℕ → List ℕ) → (ℕ → Bool) → Machine
with_lines m scan io port sent hung = record m { scan = scan; io = io; port = port; sent = sent; hung = hung }

module _ (d : MachineDesc) (at : Committed) (m : Machine) (scan : ℕ → ℕ) (io : ℕ → IoElement) (port : ℕ → PortState) (sent : ℕ → List ℕ) (hung : ℕ → Bool) where
  abbrev n : Machine
  n = with_lines m scan io port sent hung

  there : (q : ℕ) (forward : Bool) → IsLeft d m q forward → IsLeft d n q forward
  there q forward (inl h) = inl (record { inside = h.inside; deserted = h.deserted; way = h.way })
  there q forward (inr h) = inr (record { inside = h.inside; processor = h.processor; at = h.at; hand = h.hand; copies = h.copies })

  back : (q : ℕ) (forward : Bool) → IsLeft d n q forward → IsLeft d m q forward
  back q forward (inl h) = inl (record { inside = h.inside; deserted = h.deserted; way = h.way })
  back q forward (inr h) = inr (record { inside = h.inside; processor = h.processor; at = h.at; hand = h.hand; copies = h.copies })

  extent : (e : ℕ) → ExtentStands d at m e → ExtentStands d at n e
  extent e (inl h) = inl (record { holder = h.holder; inside = h.inside })
  extent e (inr (inl h)) = inr (inl (record { process = h.process; forward = h.forward; left = there h.process h.forward h.left; inside = h.inside }))
  extent e (inr (inr h)) = inr (inr h)

  pub blocks_same : BlocksStand d at m → BlocksStand d at (with_lines m scan io port sent hung)
  blocks_same st = record {
    committed = record { run = st.committed.run; commits = st.committed.commits; reached = st.committed.reached; fit = st.committed.fit };
    blocks = st.blocks;
    caches = st.caches;
    hands = st.hands;
    left = λ q forward is. st.left q forward (back q forward is);
    extents = λ e lt. extent e (st.extents e lt);
  }

pub inputs_grow : (d : MachineDesc) (at : Committed) (m : Machine) (now : List LineInput) → MoreInput at.inputs now → FitJournals d now → BlocksStand d at m → BlocksStand d (with_inputs at now) m
inputs_grow d at m now more fit st = record {
  committed = record { run = input_keeps_runs d at.inputs now m.history at.state more st.committed.run; commits = st.committed.commits; reached = st.committed.reached; fit = fit };
  blocks = st.blocks;
  caches = st.caches;
  hands = λ p. inputs_keep d at now m.copies (m.cache p) (m.hand p) more (st.hands p);
  left = st.left;
  extents = λ e lt. go e (st.extents e lt);
}
  where
    go : (e : ℕ) → ExtentStands d at m e → ExtentStands d (with_inputs at now) m e
    go e (inl h) = inl h
    go e (inr (inl h)) = inr (inl h)
    go e (inr (inr h)) = inr (inr h)
