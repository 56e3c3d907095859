-- Lines.
use Rattle.std.proofs.Common.{◌≡◌, ◌<◌, ◌≤◌, Some, sym, ◌∙◌, subst}
use Rattle.seq_words.specs.declared.description.MachineDesc.{MachineDesc}
use Rattle.seq_layout.specs.Shapes.{shape_of, line_extent}
use Rattle.seq_process.specs.declared.running.Running.{Running}
use Rattle.seq_turns.specs.declared.hand.Hand.{Hand}
use Rattle.seq_turns.specs.declared.hand.Hand.TheVariants as hand
use Rattle.seq_turns.specs.Machines.{Machine}
use Rattle.seq_lines.specs.Arrivals.{arrived}
use Rattle.seq_lines.specs.Lines.{HasRoom, HandHasRoom, LinesStand}
use Rattle.seq_invariant.specs.Orders.{running_in}
use Rattle.seq_invariant.specs.Parts.{LinesCountAlways}

same_running : {a b : Running} → Some a ≡ Some b → a ≡ b
same_running e = cc

-- who runs a process has room for what it wrote
has_room : (d : MachineDesc) (m : Machine) (h : Hand) (r : Running) → HandHasRoom d m.sent m.hung h → running_in h ≡ Some r → HasRoom d m.sent m.hung r
has_room d m hand.Down r k e = absurd (let c : ⊥ = cc in c)
has_room d m hand.Seek r k e = absurd (let c : ⊥ = cc in c)
has_room d m (hand.Claiming q c) r k e = absurd (let c : ⊥ = cc in c)
has_room d m (hand.Running x) r k e = subst (HasRoom d m.sent m.hung) (same_running e) k
has_room d m (hand.Acquiring x t c) r k e = subst (HasRoom d m.sent m.hung) (same_running e) k
has_room d m (hand.Flushing x why mask f) r k e = subst (HasRoom d m.sent m.hung) (same_running e) k
has_room d m (hand.Unlocking x why mask l) r k e = subst (HasRoom d m.sent m.hung) (same_running e) k
has_room d m (hand.Leaving q l) r k e = absurd (let c : ⊥ = cc in c)
has_room d m (hand.Recovering x) r k e = absurd (let c : ⊥ = cc in c)

pub lines_count : LinesCountAlways
lines_count d events m described all =
    let st : LinesStand d (arrived d events) all.at.state m = all.holds.lines in
    record {
      port = λ l lt. let k = (st.line l lt).port in record {
        arrived = k.arrived;
        taken = subst (λ n. (m.port l).taken ≤ n) k.arrived k.taken;
        unread = λ i from below. k.bytes i (subst (λ n. i < n) (sym k.arrived) below);
        closed = k.closed;
      };
      copy = λ l c lt serving. let k = (st.line l lt).copy c serving in let port = (st.line l lt).port in record {
        count = k.count;
        arrived = subst (λ n. m.copies.word (line_extent (shape_of d) l) 0 c ≤ n) port.arrived k.arrived;
        journal = λ i below. k.bytes i below;
        bit = k.bit;
        closed = λ one. (sym port.closed ∙ (k.closed one).0, (k.closed one).1 ∙ port.arrived);
        sent = k.sent;
      };
      sent = λ l lt. (st.line l lt).sent.prefix;
      committed = λ l lt unhung. (st.line l lt).sent.room unhung;
      written = λ p l r e mine unhung. has_room d m (m.hand p) r (st.hand p) e l mine unhung;
    }
