use Rattle.std.proofs.Common.{ℕ, List, length, reverse, sym, ap, ◌∙◌}
use Rattle.std.proofs.lemmas.Bool.{eqb-true}
use Rattle.seq_text.specs.Lines.{lines_of}
use Rattle.seq_asm.specs.Lines.{labels_of, address_in}
use Rattle.seq_asm.specs.Surveyed.{bytes_of}
use Rattle.seq_asm.proofs.Made.{IsLine, emitting_starts, emitting_stops, emitting_goes, emitting_ends, emitting_bytes, emitting_entry, emitting_long}
use Rattle.seq_asm.proofs.Answers.{refused_at}
use Rattle.seq_asm.proofs.emitting.emit.Goals as goal

pub lines-init : goal.lines-init
lines-init c = emitting_starts (labels_of (reverse (lines_of c.args.text.now))) c.args.text.now c.new-bytes.result c.new-bytes.ensures

pub returns-in-Err-clause-refused : goal.returns-in-Err-clause-refused
returns-in-Err-clause-refused c = λ place rule e.
    let L : List (List ℕ × ℕ) = labels_of (reverse (lines_of c.args.text.now)) in
    let line : IsLine L c.args.text.now c.lines.bytes c.lines.entry c.lines.place c.lines.rest.now c.next_line.result.0.now c.next_line.result.1.now c.read_line-read.result.said c.address_of-address.result = record {
      emitting = c.lines.invariant;
      cut = c.next_line.ensures.lines;
      shorter = c.next_line.ensures.shorter;
      said_is = c.read_line-read.ensures.said;
      address_is = c.address_of-address.ensures ∙ c.requires c.read_line-read.result.named.now ∙ ap (address_in L) c.read_line-read.ensures.named;
    } in
    refused_at c.lines.place c.in-Err.rule place rule _ (emitting_stops L c.args.text.now c.lines.bytes c.lines.entry c.lines.place c.lines.rest.now c.next_line.result.0.now c.next_line.result.1.now c.read_line-read.result.said c.address_of-address.result (length c.as_slice.result.now) c.in-Err.rule line (ap length c.as_slice.ensures) c.in-Err.ensures.err) e

pub lines-preserved : goal.lines-preserved
lines-preserved c =
    let L : List (List ℕ × ℕ) = labels_of (reverse (lines_of c.args.text.now)) in
    let line : IsLine L c.args.text.now c.lines.bytes c.lines.entry c.lines.place c.lines.rest.now c.next_line.result.0.now c.next_line.result.1.now c.read_line-read.result.said c.address_of-address.result = record {
      emitting = c.lines.invariant;
      cut = c.next_line.ensures.lines;
      shorter = c.next_line.ensures.shorter;
      said_is = c.read_line-read.ensures.said;
      address_is = c.address_of-address.ensures ∙ c.requires c.read_line-read.result.named.now ∙ ap (address_in L) c.read_line-read.ensures.named;
    } in
    emitting_goes L c.args.text.now c.lines.bytes c.lines.entry c.lines.place c.lines.rest.now c.next_line.result.0.now c.next_line.result.1.now c.read_line-read.result.said c.address_of-address.result (length c.as_slice.result.now) (bytes_of c.in-Ok.made) c.put_piece.new.out c.entry_after-entry.result line (ap length c.as_slice.ensures) c.in-Ok.ensures.none c.in-Ok.ensures.piece c.in-Ok-put_piece.ensures c.entry_after-entry.ensures

pub returns-clause-none : goal.returns-clause-none
returns-clause-none c = emitting_ends (labels_of (reverse (lines_of c.args.text.now))) c.args.text.now c.lines.bytes c.lines.entry c.lines.place c.lines.rest.now c.lines.invariant (eqb-true _ _ (sym c.lines-test.ensures))

pub returns-clause-bytes : goal.returns-clause-bytes
returns-clause-bytes c = emitting_bytes (labels_of (reverse (lines_of c.args.text.now))) c.args.text.now c.lines.bytes c.lines.entry c.lines.place c.lines.rest.now c.lines.invariant (eqb-true _ _ (sym c.lines-test.ensures))

pub returns-clause-long : goal.returns-clause-long
returns-clause-long c = emitting_long (labels_of (reverse (lines_of c.args.text.now))) c.args.text.now c.lines.bytes c.lines.entry c.lines.place c.lines.rest.now c.lines.invariant (eqb-true _ _ (sym c.lines-test.ensures))

pub returns-clause-entry : goal.returns-clause-entry
returns-clause-entry c = emitting_entry (labels_of (reverse (lines_of c.args.text.now))) c.args.text.now c.lines.bytes c.lines.entry c.lines.place c.lines.rest.now c.lines.invariant (eqb-true _ _ (sym c.lines-test.ensures))
