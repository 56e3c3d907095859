-- The calls that are to fail.
use Rattle.std.specs.Prelude.{Bool, ◌==◌, if◌then◌else◌}
use Rattle.std.specs.List.{list_any}
use Rattle.seq_shelf.specs.Causes.{one_more}
use Rattle.seq_shelf.specs.declared.failing.Failing.{Failing}

-- the next call is to fail: its number is in the list
abbrev pub is_due : Failing → Bool
is_due f = list_any (λ number. number == f.calls) f.numbers

-- the counts after the next call
abbrev pub after_call : Failing → Failing
after_call f = record f {
  calls = one_more f.calls;
  faults = if is_due f then one_more f.faults else f.faults;
}
