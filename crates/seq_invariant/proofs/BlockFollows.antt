-- What follows a cause, after its flush.
use Rattle.std.proofs.Common.{◌≡◌, ℕ, Bool, true, false, ◌||◌, All, [], Option, Some, None, refl, sym, ap, ◌∙◌, subst}
use Rattle.seq_words.specs.Masks.{has_bit}
use Rattle.seq_words.specs.declared.description.MachineDesc.{MachineDesc}
use Rattle.seq_layout.specs.Copies.{Copies}
use Rattle.std.proofs.lemmas.List.Elements.{All-nil}
use Rattle.seq_process.specs.declared.running.Running.{Running}
use Rattle.seq_cache.specs.Changes.{Changes}
use Rattle.seq_kernel.specs.Kept.{IsOwn}
use Rattle.seq_kernel.specs.declared.outcomes.Cause.{Cause}
use Rattle.seq_kernel.specs.declared.outcomes.Cause.TheVariants as cause
use Rattle.seq_image.specs.Depends.{HoldsAmong}
use Rattle.seq_image.specs.Ahead.{emptied}
use Rattle.seq_stands.specs.Locks.{whole_if}
use Rattle.seq_turns.specs.declared.hand.Hand.TheVariants as hand
use Rattle.seq_turns.specs.Functions.{lowest}
use Rattle.seq_turns.specs.Causes.{after_releases, release_next, follows}
use Rattle.seq_invariant.specs.BlockAreas.{is_whole, segments_of}
use Rattle.seq_invariant.specs.BlockWorks.{Committed, Works}
use Rattle.seq_invariant.specs.BlockHands.{RunsOn, Suits, Runs, Closes, HandKnows}
use Rattle.seq_invariant.proofs.BlockShrinks.{closes_less}

pub whole_is : (b : Bool) (q : ℕ) → is_whole (whole_if b q) ≡ b
whole_is true q = refl
whole_is false q = refl

-- the segments that a process holds or is to release
abbrev pub wholes : Running → ℕ → ℕ → Bool
wholes r mask t = is_whole (whole_if (has_bit r.held t || has_bit mask t) r.pid.0)

pub held_whole : (r : Running) (mask : ℕ) → HoldsAmong r (wholes r mask)
held_whole r mask t on = whole_is (has_bit r.held t || has_bit mask t) r.pid.0 ∙ ap (λ b. b || has_bit mask t) on

module _ (d : MachineDesc) (at : Committed) (p : Copies) (c : Changes) (r : Running) (why : Cause) (mask : ℕ) (empty : c.changes ≡ []) (suits : Suits why mask r) (k : Closes d at (wholes r mask) p c r) where
  runs : RunsOn why → Runs d at (segments_of d (hand.Running r)) p c r
  runs on =
      let less : ℕ → Bool = segments_of d (hand.Running r) in
      let among : HoldsAmong r less = λ t held. whole_is (has_bit r.held t) r.pid.0 ∙ held in
      let within : (t : ℕ) → less t ≡ true → wholes r mask t ≡ true = λ t held. held_whole r mask t (sym (whole_is (has_bit r.held t) r.pid.0) ∙ held) in
      let closes = closes_less d at (wholes r mask) r c p less within among k in
      let same : emptied c ≡ c = λ i. record { capacity = c.capacity; changes = sym empty i } in
      record {
        works = subst (Works d at less r) same closes.rested.works;
        live = suits.lives on;
        own = subst (λ cs. All (IsOwn d r.pid.0 r.held) cs) (sym empty) (All-nil (IsOwn d r.pid.0 r.held));
        clean = λ _. empty;
        both = closes.both;
      }

  released : (why' : Cause) → why ≡ why' → HandKnows d at p c (after_releases r why')
  released (cause.Release segment) e = runs (subst RunsOn (sym e) tt)
  released cause.Exit e = tt
  released cause.Trap e = tt
  released cause.Commit e = runs (subst RunsOn (sym e) tt)
  released cause.Yield e = tt
  released (cause.Wait reason) e = tt
  released cause.Room e = runs (subst RunsOn (sym e) tt)
  released cause.Quantum e = tt

  next_knows : (o : Option ℕ) → HandKnows d at p c (release_next d r why mask o)
  next_knows (Some t) = (k, empty, suits)
  next_knows None = released why refl

  pub follows_knows : HandKnows d at p c (follows d r why mask)
  follows_knows = next_knows (lowest (has_bit mask) 16)
