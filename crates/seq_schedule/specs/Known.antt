-- What is known of an element, and what becomes of it.
use Rattle.std.specs.Prelude.{ℕ, ◌+◌, Bool, true, false, nat_lt, if◌then◌else◌}
use Rattle.seq_schedule.specs.declared.known.Trouble.{Trouble}
use Rattle.seq_schedule.specs.declared.known.Trouble.TheVariants.{Over, Failed, Upset, Mended}
use Rattle.seq_schedule.specs.declared.known.Count.{Count}
use Rattle.seq_schedule.specs.declared.known.Count.TheVariants.{First, Second}
use Rattle.seq_schedule.specs.declared.known.Known.{Known}

-- nothing is known yet
abbrev pub fresh : Known
fresh = record { trouble = Over; failed = false; first = 0; second = 0 }

abbrev pub is_over : Trouble → Bool
is_over Over = true
is_over Failed = false
is_over Upset = false
is_over Mended = false

-- a repair mends what failed
abbrev pub mended_trouble : Trouble → Trouble
mended_trouble Over = Over
mended_trouble Failed = Mended
mended_trouble Upset = Upset
mended_trouble Mended = Mended

abbrev pub mended : Known → Known
mended k = record k { trouble = mended_trouble k.trouble; failed = false }

-- what is mended is over once the counts are met
abbrev pub settled_trouble : Bool → Trouble → Trouble
settled_trouble met Over = Over
settled_trouble met Failed = Failed
settled_trouble met Upset = Upset
settled_trouble met Mended = if met then Over else Mended

abbrev pub settled : Bool → Known → Known
settled met k = record k { trouble = settled_trouble met k.trouble }

abbrev pub counted : Count → Known → ℕ
counted First k = k.first
counted Second k = k.second

abbrev pub one_more : ℕ → ℕ → ℕ
one_more most n = if nat_lt n most then n + 1 else n

abbrev pub turned : Known → Bool → ℕ → Known
turned k begun most = record k { first = one_more most k.first; second = if begun then one_more most k.second else k.second }

-- the counts begin anew
abbrev pub uncounted : Known → Known
uncounted k = record k { first = 0; second = 0 }
