-- Every event keeps what stands of the lines.
use Rattle.std.proofs.Common.{◌≡◌, ℕ, [], false, List, refl, sym, ◌∙◌, subst}
use Rattle.std.proofs.Math.Seq.{take-length}
use Rattle.seq_words.specs.declared.description.MachineDesc.{MachineDesc}
use Rattle.seq_flat.specs.declared.inputs.LineInput.{LineInput}
use Rattle.seq_flat.specs.declared.state.FlatState.{FlatState}
use Rattle.seq_flat.specs.State.{input_at}
use Rattle.seq_flat.specs.Run.{output}
use Rattle.seq_words.specs.declared.events.Event.{Event}
use Rattle.seq_words.specs.declared.events.Event.TheVariants as event
use Rattle.seq_turns.specs.Machines.{Machine}
use Rattle.seq_turns.specs.Events.{happens, after_io}
use Rattle.seq_lines.specs.Arrivals.{bytes_of, closes, Brings}
use Rattle.seq_lines.specs.Lines.{LinesStand}
use Rattle.seq_lines.specs.Turns.{EventsKeepLines}
use Rattle.seq_lines.proofs.Frame.{keeps_itself, line_framed}
use Rattle.seq_lines.proofs.Duties.{duties_keep_lines}
use Rattle.seq_lines.proofs.Ports.{brings_nothing, input_kept, close_kept, hangup_kept}
use Rattle.seq_lines.proofs.Elements.{fail_kept, mend_kept, upset_kept}
use Rattle.seq_lines.proofs.Turns.{turns_keep_lines}

-- the same input, by another name, and the same committed state
module _ (d : MachineDesc) (inputs now : List LineInput) (f g : FlatState) (n : Machine) (e : Event) where
  pub renamed : ((l : ℕ) → (bytes_of l e ≡ []) × (closes l e ≡ false)) → Brings d e inputs now → g ≡ f → LinesStand d inputs f n → LinesStand d now g n
  renamed none brings same st = subst (λ x. LinesStand d now x n) (sym same) (record {
    line = λ l lt. line_framed d inputs now f f n n l (record {
      copies = keeps_itself d n.copies l;
      port = refl;
      input = brings l lt ∙ brings_nothing l e (input_at inputs l) (none l).0 (none l).1;
      sent = refl;
      hung = refl;
    }) (take-length (output f l)) (st.line l lt).sent (st.line l lt);
    hand = st.hand;
    cursor = st.cursor;
    unsent = st.unsent;
    beyond = st.beyond;
  })

pub events_keep_lines : EventsKeepLines
events_keep_lines d inputs now f g commits m (event.Processor p) described reached ok stands brings known st =
    renamed d inputs now g g (happens d m (event.Processor p)) (event.Processor p) (λ l. (refl, refl)) brings refl (turns_keep_lines d inputs f g commits m p.0 described reached stands known st)
events_keep_lines d inputs now f g commits m (event.Io i) described reached ok stands brings known st =
    renamed d inputs now f g (after_io d m i.0) (event.Io i) (λ l. (refl, refl)) brings known.1 (duties_keep_lines d inputs f commits m i.0 described reached known.0 st)
events_keep_lines d inputs now f g commits m (event.Input l byte) described reached ok stands brings known st =
    subst (λ x. LinesStand d now x (happens d m (event.Input l byte))) (sym known) (input_kept d inputs now f m l st byte ok brings)
events_keep_lines d inputs now f g commits m (event.Close l) described reached ok stands brings known st =
    subst (λ x. LinesStand d now x (happens d m (event.Close l))) (sym known) (close_kept d inputs now f m l st ok brings)
events_keep_lines d inputs now f g commits m (event.Fail e) described reached ok stands brings known st =
    renamed d inputs now f g (happens d m (event.Fail e)) (event.Fail e) (λ l. (refl, refl)) brings known (fail_kept d inputs f m st e)
events_keep_lines d inputs now f g commits m (event.Repair e) described reached ok stands brings known st =
    renamed d inputs now f g (happens d m (event.Repair e)) (event.Repair e) (λ l. (refl, refl)) brings known (mend_kept d inputs f m st e)
events_keep_lines d inputs now f g commits m (event.Upset p half reg mask) described reached ok stands brings known st =
    renamed d inputs now f g (happens d m (event.Upset p half reg mask)) (event.Upset p half reg mask) (λ l. (refl, refl)) brings known (upset_kept d inputs f m st p half reg mask)
events_keep_lines d inputs now f g commits m (event.Hangup l) described reached ok stands brings known st =
    renamed d inputs now f g (happens d m (event.Hangup l)) (event.Hangup l) (λ k. (refl, refl)) brings known (hangup_kept d inputs f m l ok.0 st)
