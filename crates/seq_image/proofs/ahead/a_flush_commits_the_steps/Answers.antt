use Rattle.seq_image.proofs.CommitsAhead.{ahead_makes_image, commits_stay_ahead, area_may_shrink, runs_again}
use Rattle.seq_image.proofs.ahead.a_flush_commits_the_steps.Goals as goal

pub returns-clause-passes : goal.returns-clause-passes
returns-clause-passes c = ahead_makes_image

pub returns-clause-committed : goal.returns-clause-committed
returns-clause-committed c = commits_stay_ahead

pub returns-clause-smaller : goal.returns-clause-smaller
returns-clause-smaller c = area_may_shrink

pub returns-clause-again : goal.returns-clause-again
returns-clause-again c = runs_again
