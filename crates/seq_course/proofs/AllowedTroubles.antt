-- A failure, a repair or a strike that violates no rule of a schedule may be made.
use Rattle.std.proofs.Common.{◌≡◌, ◌<◌, false, not, Some, None, refl, sym, ap, ◌∙◌}
use Rattle.std.proofs.lemmas.Bool.{false≢true, ltb-true, not-false}
use Rattle.seq_words.specs.declared.half.Half.{Half}
use Rattle.seq_words.specs.declared.half.Half.TheVariants as side
use Rattle.seq_words.specs.declared.kinds.Element.TheVariants as elements
use Rattle.seq_words.specs.declared.events.Event.TheVariants as events
use Rattle.seq_schedule.specs.declared.script.Script.TheVariants as scripts
use Rattle.seq_schedule.specs.Rules.{past, is_struck, other_half as other_of}
use Rattle.seq_schedule.proofs.Ranges.{present, state_none, cond-none}
use Rattle.seq_pair.specs.Halves.{other_half}
use Rattle.seq_turns.specs.declared.hand.Hand.{Hand}
use Rattle.seq_turns.specs.declared.hand.Hand.TheVariants as hand
use Rattle.seq_turns.specs.Allowed.{MayStrike}
use Rattle.seq_course.specs.Troubles.{struck_in, TroublesAreAllowed}
use Rattle.seq_course.proofs.Agreeing.{has_failed}

-- the other half of a hand isn't struck
may_strike : (half : Half) (x : Hand) → (struck_in x ≡ Some (other_half half) → ⊥) → MayStrike half x
may_strike half hand.Down free = tt
may_strike half hand.Seek free = tt
may_strike half (hand.Claiming q c) free = tt
may_strike half (hand.Running r) free = free
may_strike half (hand.Acquiring r t c) free = free
may_strike half (hand.Flushing r cause mask f) free = free
may_strike half (hand.Unlocking r cause mask l) free = free
may_strike half (hand.Leaving q l) free = tt
may_strike half (hand.Recovering r) free = tt

same_other : (half : Half) → other_of half ≡ other_half half
same_other side.A = refl
same_other side.B = refl

pub troubles_allowed : TroublesAreAllowed
troubles_allowed d m (events.Fail (elements.Processor p)) before at trouble built none = ltb-true _ _ (not-false _ (present d (past d before) (scripts.One (events.Fail (elements.Processor p))) none))
troubles_allowed d m (events.Fail (elements.Memory i)) before at trouble built none =
    let there : i.0 < d.memories = ltb-true _ _ (not-false _ (present d (past d before) (scripts.One (events.Fail (elements.Memory i))) none)) in
    record { memory = there; up = at.up i there (cond-none _ 33 None (state_none d (past d before) (scripts.One (events.Fail (elements.Memory i))) none)).0 }
troubles_allowed d m (events.Fail (elements.Io i)) before at trouble built none =
    let there : i.0 < d.ios = ltb-true _ _ (not-false _ (present d (past d before) (scripts.One (events.Fail (elements.Io i))) none)) in
    (there, at.ios i ∙ ap not (cond-none _ 33 None (state_none d (past d before) (scripts.One (events.Fail (elements.Io i))) none)).0)
troubles_allowed d m (events.Repair (elements.Processor p)) before at trouble built none =
    let there : p.0 < d.processors = ltb-true _ _ (not-false _ (present d (past d before) (scripts.One (events.Repair (elements.Processor p))) none)) in
    (there, at.processors p (has_failed _ (state_none d (past d before) (scripts.One (events.Repair (elements.Processor p))) none)))
troubles_allowed d m (events.Repair (elements.Memory i)) before at trouble built none =
    let there : i.0 < d.memories = ltb-true _ _ (not-false _ (present d (past d before) (scripts.One (events.Repair (elements.Memory i))) none)) in
    record { memory = there; down = at.down i (has_failed _ (state_none d (past d before) (scripts.One (events.Repair (elements.Memory i))) none)) }
troubles_allowed d m (events.Repair (elements.Io i)) before at trouble built none =
    let there : i.0 < d.ios = ltb-true _ _ (not-false _ (present d (past d before) (scripts.One (events.Repair (elements.Io i))) none)) in
    (there, at.ios i ∙ ap not (has_failed _ (state_none d (past d before) (scripts.One (events.Repair (elements.Io i))) none)))
troubles_allowed d m (events.Upset p half reg mask) before at trouble built none =
    let rules = cond-none _ 34 _ (state_none d (past d before) (scripts.One (events.Upset p half reg mask)) none) in
    let free : is_struck p (other_of half) before ≡ false = (cond-none _ 35 None rules.1).0 in
    record {
      processor = ltb-true _ _ (not-false _ (present d (past d before) (scripts.One (events.Upset p half reg mask)) none));
      first_register = built.0;
      last_register = built.1;
      other = may_strike half (m.hand p.0) (λ is. false≢true (sym free ∙ ap (λ (h : Half). is_struck p h before) (same_other half) ∙ at.halves p (other_half half) is));
    }
troubles_allowed d m (events.Processor p) before at trouble built none = absurd trouble
troubles_allowed d m (events.Io i) before at trouble built none = absurd trouble
troubles_allowed d m (events.Input l byte) before at trouble built none = absurd trouble
troubles_allowed d m (events.Close l) before at trouble built none = absurd trouble
troubles_allowed d m (events.Hangup l) before at trouble built none = absurd trouble
