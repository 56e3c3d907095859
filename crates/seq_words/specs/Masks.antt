-- Masks: a number whose bit n says something of the thing with the number n.
use Rattle.std.specs.Prelude.{ℕ, Bool, ◌/◌, ◌%◌, ◌^◌, ◌==◌}

-- bit n of the mask is 1
abbrev pub has_bit : ℕ → ℕ → Bool
has_bit mask n = mask / 2 ^ n % 2 == 1
