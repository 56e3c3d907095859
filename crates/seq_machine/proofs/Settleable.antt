-- What is read to see whether the machine is settled may be read where the machine fits.
use Rattle.seq_words.specs.Description.{IsDescription}
use Rattle.seq_words.specs.declared.description.MachineDesc.{MachineDesc}
use Rattle.seq_turns.specs.Machines.{Machine}
use Rattle.seq_lines.specs.Committed.{context_at}
use Rattle.seq_stands.specs.Fit.{Fit}
use Rattle.seq_stands.proofs.FitGives.{fit_gives}
use Rattle.seq_stands.proofs.FitSaved.{first_fits}
use Rattle.seq_machine.specs.Settling.{MayBeSettled}

pub settled_given : (d : MachineDesc) (m : Machine) → IsDescription d → Fit d m → MayBeSettled d m.copies
unfolding context_at
settled_given d m described fits =
    let gives = fit_gives d m described fits in
    record {
      readable = gives.memories.lines;
      named = gives.memories.held;
      contexts = λ q l. (gives.memories.loads q l).blocks;
      held = λ q t l b. (first_fits d m.copies q fits.blocks l).held t b;
    }
