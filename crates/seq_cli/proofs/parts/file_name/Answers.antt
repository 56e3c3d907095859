use Rattle.std.specs.Prelude.{◌&&◌, nat_le, length}
use Rattle.std.specs.Str.{is_utf8}
use Rattle.std.proofs.lemmas.Bool.{and_parts}
use Rattle.std.proofs.lemmas.Str.{IsUtf8-from_is_utf8}
use Rattle.seq_cli.proofs.parts.file_name.Goals as goal

pub unreachable-requires : goal.unreachable-requires
unreachable-requires c =
    let parts = and_parts (nat_le 1 (length c.args.word.now) && nat_le (length c.args.word.now) 255) (is_utf8 c.args.word.now) c.requires in
    c.in-Err.ensures.cases.0 (IsUtf8-from_is_utf8 c.args.word.now parts.1)
