-- The laws of turns, put together.
use Rattle.std.proofs.Common.{◌≡◌, nat_le, None, sym, subst}
use Rattle.std.proofs.lemmas.Bool.{cond_both, cond-true}
use Rattle.seq_turns.specs.declared.hand.FlushAt.TheVariants as flush
use Rattle.seq_turns.specs.declared.hand.ReleaseAt.TheVariants as release
use Rattle.seq_turns.specs.Operations.{unit_count}
use Rattle.seq_invariant.specs.BlockTurns.{AfterMove, HandsStayAtCommits, CommitsStayInside, FlushesKeep, CommitsKeep, ReleasesKeep, StepsKeep, AcquiresKeep, ContextsAreCommitted, ClaimsKeep}
use Rattle.seq_invariant.proofs.BlockOthers.{hand_next}
use Rattle.seq_invariant.proofs.BlockElsewhere.{blocks_elsewhere}
use Rattle.seq_invariant.proofs.BlockFlushes.{mark_knows, first_knows, second_knows}
use Rattle.seq_invariant.proofs.BlockCommits.{commit_knows}
use Rattle.seq_invariant.proofs.BlockReleases.{close_knows, unlock_shadow_knows, unlock_primary_knows}
use Rattle.seq_invariant.proofs.BlockSteps.{runs_knows}
use Rattle.seq_invariant.proofs.BlockGrants.{acquires_knows}
use Rattle.seq_invariant.proofs.BlockClaims.{context_read_is, claims_knows}

pub hands_stay_at_commits : HandsStayAtCommits
hands_stay_at_commits d at segments q n g p c h described fit reached commits other known = hand_next d described at fit reached segments q n g commits p c h other known

pub commits_stay_inside : CommitsStayInside
commits_stay_inside d at segments q n g described there commits e k below out = blocks_elsewhere d described at segments q n there g commits e k below out

pub flushes_keep : FlushesKeep
flushes_keep d at m p r why mask (flush.Mark f) none known = mark_knows d at m p r why mask f known
flushes_keep d at m p r why mask (flush.First f) none known = cond_both (nat_le (unit_count m p f) f.cursor) _ _ (λ move. move.commit ≡ None → AfterMove d at m move)
    (λ done committed. absurd (let e : ⊥ = cc in e))
    (λ more committed. first_knows d at m p r why mask f more known) none
flushes_keep d at m p r why mask (flush.Second f) none known = second_knows d at m p r why mask f known
flushes_keep d at m p r why mask (flush.Close f) none known = close_knows d at m p r why mask f known

pub commits_keep : CommitsKeep
commits_keep d at m p r why mask f described done known = subst (AfterMove d _ m) (sym (cond-true _ _ _ done)) (commit_knows d described at m p r why mask f done known)

pub releases_keep : ReleasesKeep
releases_keep d at m p i r why mask (release.Shadow l) is known = unlock_shadow_knows d at m p r why mask l is known
releases_keep d at m p i r why mask (release.Primary l) is known = unlock_primary_knows d at m p r why mask l is known

pub steps_keep : StepsKeep
steps_keep d at m p r described fit reached whole readable input known = runs_knows d described at m p r fit reached known whole readable input

pub acquires_keep : AcquiresKeep
acquires_keep d at m p i r t c described fit reached is free rests known = acquires_knows d described at m p r t c fit reached is.place known free rests

pub contexts_are_committed : ContextsAreCommitted
contexts_are_committed d at p q described reached can = context_read_is d described at p q reached can.inside can.whole can.served can.both

pub claims_keep : ClaimsKeep
claims_keep d at m p q c described reached can cache = claims_knows d described at m p q c reached can.inside can.whole can.served can.both cache
