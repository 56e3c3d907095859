use Rattle.seq_schedule.specs.declared.forms.Gate.TheVariants.{Built}
use Rattle.seq_schedule.specs.Rules.{first_fault as schedule_fault}
use Rattle.seq_cli.proofs.Scheduled.{read_whole, read_faultless}
use Rattle.seq_cli.proofs.files.read_schedule.Goals as goal

pub returns-clause-none : goal.returns-clause-none
returns-clause-none c = read_whole c.parse.result (schedule_fault Built c.args.desc.now c.args.text.now) c.parse.ensures.faulty

pub returns-clause-faultless : goal.returns-clause-faultless
returns-clause-faultless c = read_faultless c.args.desc.now c.args.text.now c.parse.result c.parse.ensures.items c.parse.ensures.faulty
