-- The turns of a claim and of a release, as the table of the machine has them. A claim tests and sets the primary of a
-- word, and then its shadow. A release frees the shadow, and then the primary. Each turn looks at one copy; where that
-- copy isn't in service, the turn changes nothing and the operation moves on.
use Rattle.std.specs.Prelude.{ℕ, Bool, true, false, if◌then◌else◌, ◌==◌}
use Rattle.seq_layout.specs.declared.units.WordAt.{WordAt}
use Rattle.seq_layout.specs.Shapes.{Shape}
use Rattle.seq_layout.specs.Copies.{Copies, serves, word_written}
use Rattle.seq_locks.specs.declared.stages.Primary.{Primary}
use Rattle.seq_locks.specs.declared.stages.Shadow.{Shadow}
use Rattle.seq_locks.specs.declared.stages.Held.{Held}
use Rattle.seq_locks.specs.declared.stages.Free.{Free}
use Rattle.seq_locks.specs.declared.claim.Claim.{Claim}
use Rattle.seq_locks.specs.declared.claim.Claimed.{Claimed}
use Rattle.seq_locks.specs.declared.claim.Claimed.TheVariants.{Got, Refused}
use Rattle.seq_locks.specs.declared.release.Release.{Release}

-- the copy of a word
abbrev pub word_at : Copies → WordAt → Bool → ℕ
word_at p at shadow = p.word at.extent.0 at.word shadow

-- a copy of the word is in service and isn't free
abbrev pub is_taken : Shape → Copies → WordAt → Bool → Bool
is_taken s p at shadow = if serves s p at.extent.0 shadow then (if word_at p at shadow == 0 then false else true) else false

-- What a turn of a claim leaves: what the memories hold, and the next state, or the value of the word that was tested.
pub record Turned (A : Type 0) : Type 0 where
  pub copies : Copies
  pub state : A

-- one copy is tested and set
abbrev pub tested : {A : Type 0} → Shape → Copies → WordAt → Bool → ℕ → A → Turned (Claimed A)
tested s p at shadow value next =
    if is_taken s p at shadow
    then record { copies = p; state = Refused (word_at p at shadow) }
    else record { copies = word_written s p at.extent.0 at.word shadow value; state = Got next }

-- the first turn of a claim tests and sets the primary
unfoldable pub claim_primary : Shape → Copies → Claim Primary → Turned (Claimed (Claim Shadow))
claim_primary s p c = tested s p c.at false c.value (record { at = c.at; value = c.value; stage = record {} })

-- the second turn tests and sets the shadow
unfoldable pub claim_shadow : Shape → Copies → Claim Shadow → Turned (Claimed Held)
claim_shadow s p c = tested s p c.at true c.value (record {})

-- the first turn of a release frees the shadow
unfoldable pub release_shadow : Shape → Copies → Release Shadow → Turned (Release Primary)
release_shadow s p r = record { copies = word_written s p r.at.extent.0 r.at.word true 0; state = record { at = r.at; stage = record {} } }

-- the second turn frees the primary
unfoldable pub release_primary : Shape → Copies → Release Primary → Turned Free
release_primary s p r = record { copies = word_written s p r.at.extent.0 r.at.word false 0; state = record {} }
