use Rattle.std.proofs.Common.{◌≡◌, ◌≤◌, List, Bool, take, Option, ap, subst, sym, ◌∙◌, arith}
use Rattle.std.specs.Prelude.{is_some}
use Rattle.seq_words.specs.declared.names.Pe.{Pe}
use Rattle.seq_turns.specs.Processors.{someone_amid}
use Rattle.seq_reintegrate.specs.Gate.{ShowAmid}
use Rattle.seq_machine.specs.Plain.{machine_of}
use Rattle.seq_machine.proofs.Returning.{show_amid, some_mapped}
use Rattle.seq_machine.proofs.hardware.Hardware.is_busy.Goals as goal

pub returns : goal.returns
returns c o =
    let h = c.args.self.now in
    let m = machine_of h o in
    let few : h.desc.processors ≤ 8 = c.requires.described.processors.high_at in
    let all : c.len.result ≡ h.desc.processors = c.len.ensures ∙ c.requires.processors in
    let show : ShowAmid h.desc m (take c.len.result c.marks-marks.result) = rw all (show_amid h.desc m c.marks-marks.result c.marks-marks.ensures.count few c.marks-marks.ensures.each) in
    c.is_some.ensures ∙ ap (λ (x : Option Pe). is_some x) (c.gate.ensures.row h.desc m show) ∙ some_mapped _ (someone_amid h.desc m)
