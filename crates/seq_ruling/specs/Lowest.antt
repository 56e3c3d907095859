-- The lowest number that passes a test.
use Rattle.std.specs.Prelude.{◌≡◌, ℕ, zero, suc, ◌<◌, Bool, true, false, if◌then◌else◌, Option, Some, None}

-- what is found first, else something other
abbrev pub or_else : {A : Type 0} → Option A → Option A → Option A
or_else (Some x) other = Some x
or_else None other = other

-- the lowest number below n that passes the test
unfoldable pub lowest : (ℕ → Bool) → ℕ → Option ℕ
lowest test zero = None
lowest test (suc n) = or_else (lowest test n) (if test n then Some n else None)

-- k is below n and passes the test, and nothing below k does
pub record IsLowest (test : ℕ → Bool) (n k : ℕ) : Type 0 where
  pub within : k < n
  pub passes : test k ≡ true
  pub none_below : (j : ℕ) → j < k → test j ≡ false
