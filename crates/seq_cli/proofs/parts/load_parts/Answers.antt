use Rattle.std.proofs.Common.{◌≡◌, ◌∙◌, ◌<◌, ◌≤◌, ◌++◌, ◌+◌, subst, List, ℕ, length, take, drop, arith}
use Rattle.std.proofs.lemmas.List.{length-append, length-take}
use Rattle.seq_cli.specs.Parts.{part_fault}
use Rattle.seq_cli.specs.Loads.{LoadStops}
use Rattle.seq_cli.proofs.Completing.{ended}
use Rattle.seq_cli.proofs.Openings.{cut_there, parts_next, parts_all}
use Rattle.seq_cli.proofs.parts.load_parts.Goals as goal

pub returns-in-Err-clause-err : goal.returns-in-Err-clause-err
returns-in-Err-clause-err g c = λ m told.
    let names : List (List ℕ) = c.args.draft.images ++ c.args.draft.firsts in
    let n = c.loop-n.n in
    let lt : n < length names = omega (arith, length-append c.args.draft.images c.args.draft.firsts, c.loop-n-test.true, c.len.ensures, c.len-2.ensures) in
    let at : n ≡ length (take n names) = omega (arith, length-take n names) in
    record {
      front = take n names;
      name = c.part_name-name.result.now;
      rest = drop (n + 1) names;
      split = cut_there names n c.part_name-name.result.now lt c.part_name-name.ensures;
      files = c.loop-n.files;
      desc = c.loop-n.desc;
      loaded = c.loop-n.invariant.loaded m told;
      named = c.in-Err.ensures.named;
      stops = subst (λ k. LoadStops c.in-Err.answer.status c.loop-n.files (part_fault c.loop-n.desc k) (m c.part_name-name.result.now)) at (c.in-Err.ensures.err m (c.loop-n.invariant.told ∙ told));
      line = c.in-Err.ensures.line;
    }

pub loop-n-preserved : goal.loop-n-preserved
loop-n-preserved g c =
    let names : List (List ℕ) = c.args.draft.images ++ c.args.draft.firsts in
    let lt : c.loop-n.n < length names = omega (arith, length-append c.args.draft.images c.args.draft.firsts, c.loop-n-test.true, c.len.ensures, c.len-2.ensures) in
    record {
      told = c.in_default.ensures.same ∙ c.loop-n.invariant.told;
      faults = omega (arith, c.in_default.ensures.faults, c.loop-n.invariant.faults);
      partly = c.in_default.ensures.partly;
      processes = c.in_default.ensures.processes ∙ c.loop-n.invariant.processes;
      segments = c.in_default.ensures.segments ∙ c.loop-n.invariant.segments;
      few = omega (arith, c.in_default.ensures.few, c.loop-n.invariant.few);
      loaded = λ m told.
          parts_next m names c.args.files.now c.loop-n.n c.part_name-name.result.now c.args.draft.desc c.loop-n.files c.loop-n.desc c.open_part.new.files c.open_part.new.desc lt c.part_name-name.ensures
          (c.loop-n.invariant.loaded m told) (c.in_default.ensures.ok m (c.loop-n.invariant.told ∙ told));
    }

pub returns-clause-described : goal.returns-clause-described
returns-clause-described g c =
    let all : length c.loop-n.desc.processes ≤ c.loop-n.n = omega (arith, c.loop-n-test.false, c.len.ensures, c.len-2.ensures, c.requires.draft.images, c.loop-n.invariant.processes) in
    ended c.loop-n.n c.loop-n.desc c.loop-n.invariant.partly all

pub returns-clause-ok : goal.returns-clause-ok
returns-clause-ok g c = λ m told.
    let names : List (List ℕ) = c.args.draft.images ++ c.args.draft.firsts in
    let all : length names ≤ c.loop-n.n = omega (arith, length-append c.args.draft.images c.args.draft.firsts, c.loop-n-test.false, c.len.ensures, c.len-2.ensures) in
    parts_all m names c.args.files.now c.loop-n.n c.args.draft.desc c.loop-n.files c.loop-n.desc all (c.loop-n.invariant.loaded m told)

pub returns-in-Err-clause-line : goal.returns-in-Err-clause-line
returns-in-Err-clause-line g c = (c.part_name-name.result.now, c.in-Err.ensures.line)
