-- A process that runs, and its context.
use Rattle.std.specs.Prelude.{◌≡◌, ℕ, ◌+◌, ◌%◌, ◌≤◌, ◌==◌, if◌then◌else◌, None, List, length, slice_index}
use Rattle.seq_words.specs.declared.names.Pid.{Pid}
use Rattle.seq_words.specs.declared.regs.Regs.{Regs}
use Rattle.seq_flat.specs.declared.state.End.{End}
use Rattle.seq_flat.specs.declared.state.End.TheVariants.{Live, Exited, Trapped}
use Rattle.seq_layout.specs.Contexts.{IsContext}
use Rattle.seq_layout.specs.declared.context.Context.{Context}
use Rattle.seq_process.specs.declared.running.Running.{Running}

-- how the process of a context stands
abbrev pub end_of : Context → End
end_of c = if c.end == 0 then Live else if c.end == 1 then Exited c.value else Trapped c.value c.end_pc

-- the three numbers by which a context says it
abbrev pub end_kind : End → ℕ
end_kind Live = 0
end_kind (Exited code) = 1
end_kind (Trapped cause pc) = 2

abbrev pub end_value : End → ℕ
end_value Live = 0
end_value (Exited code) = code
end_value (Trapped cause pc) = cause

abbrev pub end_pc : End → ℕ
end_pc Live = 0
end_pc (Exited code) = 0
end_pc (Trapped cause pc) = pc

-- what a processor has of a process when it takes it up from its context
abbrev pub started : Pid → Context → Running
started pid c = record {
  pid = pid;
  pair = record { a = c.regs; b = c.regs; struck = None };
  held = c.held;
  end = end_of c;
  reads = c.reads;
  writes = c.writes;
  commits = c.commits;
  steps = 0;
  used = 0;
}

-- the context of a process with these registers, with one commit more
abbrev pub saved : Running → Regs → Context
saved r regs = record {
  regs = regs;
  end = end_kind r.end;
  value = end_value r.end;
  end_pc = end_pc r.end;
  held = r.held;
  commits = r.commits + 1;
  reads = r.reads;
  writes = r.writes;
}

-- The registers, read positions and numbers written of a process are as many as its arrays have.
pub record IsWhole (r : Running) : Type 0 where
  pub first : length r.pair.a.x ≡ 32
  pub second : length r.pair.b.x ≡ 32
  pub reads : length r.reads ≡ 4
  pub writes : length r.writes ≡ 4

-- Positions and numbers from a number on are unused: nothing is read or written on such a line.
pub record AreUnusedFrom (n : ℕ) (reads writes : List ℕ) : Type 0 where
  pub reads_none : (i : ℕ) → n ≤ i → slice_index reads i ≡ 0
  pub writes_none : (i : ℕ) → n ≤ i → slice_index writes i ≡ 0

-- A saved context is inside the format, with registers of which x0 is 0 and pc is a multiple of four.
abbrev pub SavedIsInside : Type 0
SavedIsInside = (r : Running) (regs : Regs) → slice_index regs.x 0 ≡ 0 → regs.pc % 4 ≡ 0 → IsContext (saved r regs)
