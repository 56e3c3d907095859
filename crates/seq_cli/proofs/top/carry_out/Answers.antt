use Rattle.std.proofs.Common.{Option, Some, None, ap, sym, subst}
use Rattle.seq_cli.specs.declared.command.Command.{Command as Given}
use Rattle.seq_cli.specs.Commands.{Command, asm, list, command_of}
use Rattle.seq_cli.specs.Opening.{OpensForm, AsksRun}
use Rattle.seq_cli.specs.Endings.{EndsFaultless}
use Rattle.seq_cli.proofs.Still.{still_ended, ended_as}
use Rattle.seq_cli.proofs.top.carry_out.Goals as goal

pub returns-in-Run-clause-complete : goal.returns-in-Run-clause-complete
returns-in-Run-clause-complete g c = λ m told asks shelf chronicle line.
    subst (λ (form : Option Command). (a : AsksRun (OpensForm m None form)) → EndsFaultless a.desc a.items c.run_command.result.status) (sym (ap (λ (k : Given). Some (command_of k)) c.in-Run.is))
    (λ a. c.run_command.ensures.complete m told a shelf chronicle line) asks

pub returns-in-Assemble-clause-ended : goal.returns-in-Assemble-clause-ended
returns-in-Assemble-clause-ended g c =
    ended_as (Some (command_of c.args.command)) (Some (asm c.in-Assemble.source.now c.in-Assemble.image.now)) _ _ _ _ _ _ _ (ap (λ (k : Given). Some (command_of k)) c.in-Assemble.is)
    (still_ended c.assemble_command.result.status (g.S.Shelf.shelf c.args.shelf.now) (g.S.Shelf.shelf c.assemble_command.new.shelf) _ _ (Some (asm c.in-Assemble.source.now c.in-Assemble.image.now)) tt
    c.assemble_command.ensures.ends c.assemble_command.ensures.cause c.assemble_command.ensures.answers c.assemble_command.ensures.leaves)

pub returns-in-List-clause-ended : goal.returns-in-List-clause-ended
returns-in-List-clause-ended g c =
    ended_as (Some (command_of c.args.command)) (Some (list c.in-List.image.now)) _ _ _ _ _ _ _ (ap (λ (k : Given). Some (command_of k)) c.in-List.is)
    (still_ended c.list_command.result.status (g.S.Shelf.shelf c.args.shelf.now) (g.S.Shelf.shelf c.list_command.new.shelf) _ _ (Some (list c.in-List.image.now)) tt
    c.list_command.ensures.ends c.list_command.ensures.cause c.list_command.ensures.answers c.list_command.ensures.leaves)
