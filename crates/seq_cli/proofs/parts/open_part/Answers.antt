use Rattle.std.proofs.Common.{subst, List, ℕ}
use Rattle.seq_cli.specs.Parts.{part_fault, Completes}
use Rattle.seq_cli.specs.Loads.{Loads}
use Rattle.seq_cli.proofs.Completing.{completed}
use Rattle.seq_cli.proofs.Openings.{not_empty, part_loaded}
use Rattle.seq_cli.proofs.parts.open_part.Goals as goal

pub returns-in-Ok-clause-partly : goal.returns-in-Ok-clause-partly
returns-in-Ok-clause-partly g c =
    let h = c.in-Ok.ensures.completes in
    completed c.args.n c.args.desc.now h.0 c.load_part.new.desc c.requires.partly c.requires.there h.1 h.2

pub returns-in-Ok-clause-ok : goal.returns-in-Ok-clause-ok
returns-in-Ok-clause-ok g c = λ m told.
    part_loaded m c.args.n c.args.files.now c.args.name.now c.args.desc.now c.load_part.new.files c.load_part.new.desc (not_empty c.args.name.now c.is_empty.result c.is_empty.ensures c.if-is_empty.false)
    (subst (λ (name : List ℕ). Loads (part_fault c.args.desc.now c.args.n) (Completes c.args.desc.now c.args.n) (m name) c.args.files.now c.load_part.new.files c.load_part.new.desc) c.file_name-name.ensures (c.in-Ok.ensures.ok m told))
