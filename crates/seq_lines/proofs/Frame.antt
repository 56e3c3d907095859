-- What stands of a line depends on the line alone.
use Rattle.std.proofs.Common.{◌≡◌, ℕ, ◌/◌, ◌%◌, ◌<◌, ◌≤◌, Bool, true, false, List, slice_index, Some, refl, ap, sym, ◌∙◌, subst, arith}
use Rattle.seq_words.specs.declared.block.Block.{Block}
use Rattle.seq_words.specs.declared.description.MachineDesc.{MachineDesc}
use Rattle.seq_flat.specs.declared.inputs.LineInput.{LineInput}
use Rattle.seq_flat.specs.declared.state.FlatState.{FlatState}
use Rattle.seq_flat.specs.State.{input_at}
use Rattle.seq_flat.specs.Run.{output, IsPrefix}
use Rattle.seq_layout.specs.Shapes.{shape_of, line_extent}
use Rattle.seq_layout.specs.Copies.{Copies, serves}
use Rattle.seq_runs.proofs.Growth.{prefix_length}
use Rattle.seq_io.specs.declared.element.PortState.{PortState}
use Rattle.seq_turns.specs.Machines.{Machine}
use Rattle.seq_lines.specs.Lines.{LineCopy, line_copy, PortStands, CopyStands, SentStands, sent_limit, LineStands}

-- One copy of a line holds the same in both.
pub record KeepsCopy (d : MachineDesc) (p q : Copies) (l : ℕ) (c : Bool) : Type 0 where
  pub word : (n : ℕ) → q.word (line_extent (shape_of d) l) n c ≡ p.word (line_extent (shape_of d) l) n c
  pub block : (n : ℕ) → q.block (line_extent (shape_of d) l) n c ≡ p.block (line_extent (shape_of d) l) n c

-- Each copy of a line that is in service now was so before, and holds the same.
pub record KeepsLine (d : MachineDesc) (p q : Copies) (l : ℕ) : Type 0 where
  pub served : (c : Bool) → serves (shape_of d) q (line_extent (shape_of d) l) c ≡ true → serves (shape_of d) p (line_extent (shape_of d) l) c ≡ true
  pub copy : (c : Bool) → serves (shape_of d) q (line_extent (shape_of d) l) c ≡ true → KeepsCopy d p q l c

pub keeps_itself : (d : MachineDesc) (p : Copies) (l : ℕ) → KeepsLine d p p l
keeps_itself d p l = record { served = λ c s. s; copy = λ c s. record { word = λ n. refl; block = λ n. refl } }

pub limit_grows : (copy : LineCopy) (port : PortState) (input : LineInput) (one two : ℕ) → one ≤ two → CopyStands copy port input one → CopyStands copy port input two
limit_grows copy port input one two le h = record {
  count = h.count;
  arrived = h.arrived;
  bytes = h.bytes;
  bit = h.bit;
  closed = h.closed;
  sent = let s : copy.sent ≤ one = h.sent in omega (arith, s, le);
}

-- bytes that are the same below the count serve as well
pub bytes_serve : (copy : LineCopy) (byte : ℕ → ℕ) (port : PortState) (input : LineInput) (limit : ℕ) → ((k : ℕ) → k < copy.count → byte k ≡ copy.byte k) → CopyStands copy port input limit → CopyStands (record copy { byte = byte }) port input limit
bytes_serve copy byte port input limit same h = record {
  count = h.count;
  arrived = h.arrived;
  bytes = λ k lt. h.bytes k lt ∙ ap Some (sym (same k lt));
  bit = h.bit;
  closed = h.closed;
  sent = h.sent;
}

module _ (d : MachineDesc) (p q : Copies) (l : ℕ) (c : Bool) (keeps : KeepsCopy d p q l c) where
  abbrev before : LineCopy
  before = line_copy d p l c

  -- the words are the same
  words_same : record before { byte = (line_copy d q l c).byte } ≡ line_copy d q l c
  words_same = λ i. record { count = sym (keeps.word 0) i; closed = sym (keeps.word 1) i; sent = sym (keeps.word 2) i; byte = (line_copy d q l c).byte }

  pub copy_kept : (port : PortState) (input : LineInput) (limit : ℕ) → CopyStands (line_copy d p l c) port input limit → CopyStands (line_copy d q l c) port input limit
  copy_kept port input limit h = subst (λ x. CopyStands x port input limit) words_same
      (bytes_serve before (line_copy d q l c).byte port input limit (λ k lt. ap (λ (b : Block). slice_index b.bytes (k % 32)) (keeps.block (k / 32))) h)

pub limit_over : (sent out out' : List ℕ) (hung : Bool) → IsPrefix out out' → sent_limit sent out hung ≤ sent_limit sent out' hung
limit_over sent out out' true begins = prefix_length out out' begins
limit_over sent out out' false begins = omega arith

-- A line stays as it was: what it holds, its port, its input, what was sent and whether it is hung up.
module _ (d : MachineDesc) (inputs now : List LineInput) (f g : FlatState) (m n : Machine) (l : ℕ) where
  pub record SameLine : Type 0 where
    pub copies : KeepsLine d m.copies n.copies l
    pub port : n.port l ≡ m.port l
    pub input : input_at now l ≡ input_at inputs l
    pub sent : n.sent l ≡ m.sent l
    pub hung : n.hung l ≡ m.hung l

  -- then it stands on, where its output only grew, and within the outbox
  pub line_framed : SameLine → IsPrefix (output f l) (output g l) → SentStands (m.sent l) (output g l) (m.hung l) → LineStands d inputs f m l → LineStands d now g n l
  line_framed same begins sent h = record {
    port = subst (λ x. PortStands d x (input_at now l)) (sym same.port) (subst (PortStands d (m.port l)) (sym same.input) h.port);
    copy = λ c s.
        subst (λ x. CopyStands (line_copy d n.copies l c) x (input_at now l) (sent_limit (n.sent l) (output g l) (n.hung l))) (sym same.port)
        (subst (λ x. CopyStands (line_copy d n.copies l c) (m.port l) x (sent_limit (n.sent l) (output g l) (n.hung l))) (sym same.input)
        (subst (λ x. CopyStands (line_copy d n.copies l c) (m.port l) (input_at inputs l) (sent_limit x (output g l) (n.hung l))) (sym same.sent)
        (subst (λ x. CopyStands (line_copy d n.copies l c) (m.port l) (input_at inputs l) (sent_limit (m.sent l) (output g l) x)) (sym same.hung)
        (limit_grows (line_copy d n.copies l c) (m.port l) (input_at inputs l) _ _ (limit_over (m.sent l) (output f l) (output g l) (m.hung l) begins)
        (copy_kept d m.copies n.copies l c (same.copies.copy c s) (m.port l) (input_at inputs l) (sent_limit (m.sent l) (output f l) (m.hung l)) (h.copy c (same.copies.served c s)))))));
    sent = subst (λ x. SentStands x (output g l) (n.hung l)) (sym same.sent) (subst (SentStands (m.sent l) (output g l)) (sym same.hung) sent);
  }
