-- The commit of a flush keeps what stands of the blocks, over what is committed then.
use Rattle.std.proofs.Common.{◌≡◌, ◌≢◌, ◌⊎◌, inl, inr, ℕ, ◌<◌, Bool, true, false, ◌||◌, nat_le, Some, length, refl, ap, sym, ◌∙◌, subst}
use Rattle.std.proofs.lemmas.Bool.{cases_Bool, false≢true, true≢false}
use Rattle.seq_words.specs.Masks.{has_bit}
use Rattle.seq_words.specs.Description.{IsDescription}
use Rattle.seq_words.specs.declared.description.MachineDesc.{MachineDesc}
use Rattle.seq_layout.specs.Shapes.{shape_of, segment_extent}
use Rattle.seq_process.specs.declared.running.Running.{Running}
use Rattle.seq_cache.specs.Changes.{IsCache}
use Rattle.seq_status.specs.Words.{word_of}
use Rattle.seq_status.specs.declared.status.Status.TheVariants.{Pass2}
use Rattle.seq_kernel.specs.declared.outcomes.Cause.{Cause}
use Rattle.seq_kernel.specs.declared.outcomes.Note.TheVariants.{Committed as Noted}
use Rattle.seq_flush.specs.declared.flush.Flush.{Flush}
use Rattle.seq_flush.specs.declared.stages.First as first_stage
use Rattle.seq_flush.specs.Turns.{into_stage}
use Rattle.seq_image.specs.Areas.{in_area}
use Rattle.seq_image.proofs.Areas.{process_in_area, segment_in_area}
use Rattle.seq_runs.specs.Orders.{AreApart}
use Rattle.seq_turns.specs.declared.hand.Hand.{Hand}
use Rattle.seq_turns.specs.declared.hand.Hand.TheVariants as hand
use Rattle.seq_turns.specs.declared.hand.FlushAt.TheVariants as flush
use Rattle.seq_turns.specs.Machines.{Machine, Move, after_move}
use Rattle.seq_turns.specs.Machines.Turn.{Moves}
use Rattle.seq_turns.specs.Operations.{unit_count, goes, says, committed}
use Rattle.seq_stands.specs.Grips.{grip}
use Rattle.seq_stands.specs.Words.{words_of, GripHolds, WordsStand}
use Rattle.seq_stands.specs.Locks.{whole_if, held_in, owners_with, LocksStand}
use Rattle.seq_invariant.specs.BlockApart.{owners_of}
use Rattle.seq_invariant.specs.BlockAreas.{is_whole, hand_area, segments_of}
use Rattle.seq_invariant.specs.BlockWorks.{Committed, with_commit, Commits}
use Rattle.seq_invariant.specs.BlockHands.{HandKnows}
use Rattle.seq_invariant.specs.BlockStanding.{BlocksStand}
use Rattle.seq_invariant.specs.BlockFrame.{IsApart, KeepsLeft}
use Rattle.seq_invariant.specs.BlockTurns.{IsOther}
use Rattle.seq_invariant.proofs.BlockApart.{flushes_commit_alone}
use Rattle.seq_invariant.proofs.BlockCommits.{commit_knows}
use Rattle.seq_invariant.proofs.BlockInputs.{commits_are_written}
use Rattle.seq_invariant.proofs.BlockInside.{word_within}
use Rattle.seq_invariant.proofs.BlockFrame.{moves_keep_blocks}
use Rattle.seq_invariant.proofs.BlockTurns.{hands_stay_at_commits, commits_stay_inside}
use Rattle.seq_lines.specs.Inside.{IsMask}
use Rattle.seq_invariant.proofs.Moved.{TurnMade}
use Rattle.seq_invariant.proofs.Owners.{owners_next}

-- the move of a commit
abbrev pub commit_move : MachineDesc → Machine → ℕ → Running → Cause → ℕ → Flush first_stage.First → Move
commit_move d m p r why mask f = record (goes m p (says d m f false (word_of (Pass2 f.holder))) (hand.Flushing (committed r) why mask (flush.Second (into_stage f (record {}))))) {
  commit = Some (record { pid = r.pid; count = r.steps });
  note = Noted r.pid r.steps;
}

module _ (d : MachineDesc) (described : IsDescription d) (at : Committed) (m : Machine) (p : ℕ) (st : WordsStand (words_of d m)) (locks : LocksStand d (owners_of at.state) m) (blocks : BlocksStand d at m) (apart : IsApart d m p)
    (r : Running) (why : Cause) (mask : ℕ) (f : Flush first_stage.First) (e : m.hand p ≡ hand.Flushing r why mask (flush.First f)) (bits : IsMask d mask) (done : nat_le (unit_count m p f) f.cursor ≡ true)
    (k : HandKnows d at m.copies (m.cache p) (hand.Flushing r why mask (flush.First f))) where
  abbrev q : ℕ
  q = r.pid.0

  abbrev segments : ℕ → Bool
  segments = segments_of d (hand.Flushing r why mask (flush.First f))

  abbrev next : Committed
  next = with_commit at r.pid.0 k.0.works.ahead.state

  commits : Commits d at (segments_of d (hand.Flushing r why mask (flush.First f))) r.pid.0 r.steps k.0.works.ahead.state
  commits = flushes_commit_alone d at m p r why mask f st locks blocks.committed.reached.flat e k

  there : q < length d.processes
  there = (subst (GripHolds (words_of d m) p) (ap grip e) (st.grips p)).process

  -- the segments of its area are of the description
  few : (t : ℕ) → segments t ≡ true → t < length d.segments
  few t is = go (has_bit r.held t) (has_bit mask t) refl refl is
    where
      go : (a b : Bool) → has_bit r.held t ≡ a → has_bit mask t ≡ b → is_whole (whole_if (a || b) q) ≡ true → t < length d.segments
      go true b i j h = k.0.works.ahead.flush.within.held t i
      go false true i j h = bits t j
      go false false i j h = absurd (false≢true h)

  -- another hand
  module _ (x : ℕ) (ne : x ≢ p) where
    elsewhere : (y : ℕ) → in_area d q segments y ≡ true → hand_area d (m.hand x) y ≡ false
    elsewhere y is = apart.hands x y ne (ap (λ h. hand_area d h y) e ∙ is)

    other : (h : Hand) (s : Running) → m.hand x ≡ h → s.pid.0 < length d.processes → ((y : ℕ) → hand_area d h y ≡ in_area d s.pid.0 (segments_of d h) y) → (s.pid.0 ≢ q) × AreApart segments (segments_of d h)
    other h s i lt area = (
      λ same. true≢false (sym (area q ∙ ap (λ z. in_area d z (segments_of d h) q) same ∙ process_in_area d q (segments_of d h)) ∙ ap (λ z. hand_area d z q) (sym i) ∙ elsewhere q (process_in_area d q segments)),
      λ t is. go t is (cases_Bool (segments_of d h t)),
    )
      where
        go : (t : ℕ) → segments t ≡ true → (segments_of d h t ≡ true) ⊎ (segments_of d h t ≡ false) → segments_of d h t ≡ false
        go t is (inr out) = out
        go t is (inl also) =
            let t_lt = few t is in
            absurd (true≢false (sym (area (segment_extent (shape_of d) t) ∙ segment_in_area d s.pid.0 (segments_of d h) t lt t_lt also)
            ∙ ap (λ z. hand_area d z (segment_extent (shape_of d) t)) (sym i) ∙ elsewhere (segment_extent (shape_of d) t) (segment_in_area d q segments t there t_lt is)))

    is_other : (h : Hand) → m.hand x ≡ h → GripHolds (words_of d m) x (grip h) → IsOther d segments q h
    is_other hand.Down i g = tt
    is_other hand.Seek i g = tt
    is_other (hand.Claiming y c) i g = tt
    is_other (hand.Running s) i g = other (hand.Running s) s i g.process (λ y. refl)
    is_other (hand.Acquiring s t c) i g = other (hand.Acquiring s t c) s i g.process (λ y. refl)
    is_other (hand.Flushing s y z c) i g = other (hand.Flushing s y z c) s i g.process (λ y. refl)
    is_other (hand.Unlocking s y z l) i g = other (hand.Unlocking s y z l) s i g.process (λ y. refl)
    is_other (hand.Leaving y l) i g = tt
    is_other (hand.Recovering y) i g = tt

  pub commit_made : KeepsLeft d m (after_move p (commit_move d m p r why mask f) m) → IsCache (m.cache p) → TurnMade d at m p (Moves (commit_move d m p r why mask f))
  commit_made left cache = record {
    now = next;
    inputs = refl;
    owners = λ t. owners_next d at segments r (m.cache p) k.0.works blocks.committed.reached commits t ∙ sym (ap (λ h. owners_with (owners_of at.state) (held_in h) (Some (record { pid = r.pid; count = r.steps })) t) e);
    blocks = moves_keep_blocks d at next m p (commit_move d m p r why mask f) blocks
        (commits_are_written d at segments q r.steps k.0.works.ahead.state m (after_move p (commit_move d m p r why mask f) m) blocks.committed commits refl)
        (word_within d (hand_area d (m.hand p)) m.copies f.pid.0 0 false (word_of (Pass2 f.holder))) apart left
        (record {
          hands = λ x ne known. hands_stay_at_commits d at segments q r.steps k.0.works.ahead.state m.copies (m.cache x) (m.hand x) described blocks.committed.fit blocks.committed.reached commits (is_other x ne (m.hand x) refl (st.grips x)) known;
          blocks = λ y n lt out. commits_stay_inside d at segments q r.steps k.0.works.ahead.state described there commits y n lt (ap (λ h. hand_area d h y) (sym e) ∙ out);
        })
        (record { knows = commit_knows d described at m p r why mask f done k; cache = cache; rests = λ y is. inl (ap (λ h. hand_area d h y) (sym e) ∙ is) });
  }
