-- The copying of a memory keeps what stands of the lock words.
use Rattle.std.proofs.Common.{◌≡◌, ◌≢◌, ◌⊎◌, inl, inr, ℕ, suc, ◌<◌, ◌≤◌, Bool, true, false, length, slice_get, refl, ap, sym, ◌∙◌}
use Rattle.std.proofs.lemmas.Bool.{cond-true, cond-false, cases_Bool, true≢false}
use Rattle.seq_words.specs.Masks.{has_bit}
use Rattle.seq_words.specs.declared.description.MachineDesc.{MachineDesc}
use Rattle.seq_memory.specs.States.{is_in_service}
use Rattle.seq_memory.specs.declared.element.State.{State}
use Rattle.seq_memory.specs.declared.element.State.TheVariants as state
use Rattle.seq_layout.specs.Shapes.{shape_of, segment_extent}
use Rattle.seq_layout.specs.Copies.{Copies, serves}
use Rattle.seq_layout.specs.Units.{units_of}
use Rattle.seq_layout.proofs.Sizes.{process_is_extent, segment_is_extent}
use Rattle.seq_turns.specs.declared.hand.Hand.{Hand}
use Rattle.seq_turns.specs.declared.hand.Hand.TheVariants as hand
use Rattle.seq_turns.specs.declared.hand.RecoveryAt.{RecoveryAt}
use Rattle.seq_turns.specs.Machines.{Machine}
use Rattle.seq_turns.specs.Reading.{is_amid}
use Rattle.seq_turns.specs.Recoveries.{with_unit}
use Rattle.seq_stands.specs.Words.{View, words_of, ruling, WordsStand}
use Rattle.seq_stands.specs.Service.{IsEqual}
use Rattle.seq_stands.specs.Locks.{LockGrip, whole_if, lock_view, lock_grip, LockClaims, LockRuled, LocksStand}
use Rattle.seq_stands.specs.Locks.Hold.{Half, Whole}
use Rattle.seq_stands.specs.Locks.LockGrip.{Without, With}
use Rattle.seq_stands.proofs.Copying.{view_out, all_up, Places, places}
use Rattle.seq_stands.proofs.LockFrame.{LeftOf}
use Rattle.seq_stands.proofs.LockSeen.{hand_carried, all_seen}

no_half : (b : Bool) (q x : ℕ) → whole_if b q ≡ With x Half → ⊥
no_half true q x e = let c : ⊥ = cc in c
no_half false q x e = let c : ⊥ = cc in c

-- a processor that is amid no operation holds its locks whole
calm_whole : (d : MachineDesc) (h : Hand) (t q : ℕ) → is_amid h ≡ false → lock_grip d h t ≡ With q Half → ⊥
calm_whole d hand.Down t q e i = let c : ⊥ = cc in c
calm_whole d hand.Seek t q e i = let c : ⊥ = cc in c
calm_whole d (hand.Claiming x c) t q e i = true≢false e
calm_whole d (hand.Running r) t q e i = no_half (has_bit r.held t) r.pid.0 q i
calm_whole d (hand.Acquiring r s c) t q e i = true≢false e
calm_whole d (hand.Flushing r c mask f) t q e i = true≢false e
calm_whole d (hand.Unlocking r c mask l) t q e i = true≢false e
calm_whole d (hand.Leaving x l) t q e i = true≢false e
calm_whole d (hand.Recovering r) t q e i = true≢false e

-- Memory i isn't in service, and all others are. A unit is copied to it.
module _ (d : MachineDesc) (owner : ℕ → ℕ) (m : Machine) (i k : ℕ) (two : 2 ≤ d.memories) (out : is_in_service (m.copies.state i) ≡ false) (others : (j : ℕ) → j < d.memories → j ≢ i → is_in_service (m.copies.state j) ≡ true)
    (st : WordsStand (words_of d m)) (locks : LocksStand d owner m) where
  -- it isn't in service yet: nothing is seen of it
  pub still_out_keeps : (new : State) → is_in_service new ≡ false → LocksStand d owner (record m { copies = with_unit d m.copies i k new })
  still_out_keeps new f = all_seen d owner m (record m { copies = with_unit d m.copies i k new }) (view_out d m i k two out others st new f) refl refl locks

  -- It is in service: each of its units is what the other copy holds, and meanwhile no processor is amid an operation.
  module _ (equal : (j : ℕ) → j < length (units_of (shape_of d) i) → IsEqual (with_unit d m.copies i k state.InService) (slice_get (units_of (shape_of d) i) j)) (calm : (p : ℕ) → is_amid (m.hand p) ≡ false) where
    -- the memories then
    abbrev p : Copies
    p = with_unit d m.copies i k state.InService

    abbrev n : Machine
    n = record m { copies = p }

    up : (e : ℕ) (c : Bool) → serves (shape_of d) p e c ≡ true
    up = all_up d m i k two out others st equal calm

    no_recovery : (r : ℕ) (at : RecoveryAt) → m.hand r ≡ hand.Recovering at → ⊥
    no_recovery r at e = true≢false (ap is_amid (sym e) ∙ calm r)

    module _ (t : ℕ) (l : t < length d.segments) where
      abbrev e : ℕ
      e = segment_extent (shape_of d) t

      -- the two copies of the lock word, before and after
      abbrev v : View
      v = lock_view d m.copies t

      abbrev w : View
      w = lock_view d p t

      -- what the shadow says then
      abbrev Second : Type 0
      Second = (w.word2 ≡ ruling v) ⊎ ((v.up1 ≡ true) × (v.up2 ≡ true) × (w.word2 ≡ v.word2))

      at : Places d m i k two out others st equal calm e
      at = places d m i k two out others st equal calm e (segment_is_extent d t l)

      -- what both copies that are in service say is what rules
      rules : (x : ℕ) → (v.up1 ≡ true → v.word1 ≡ x) → (v.up2 ≡ true → v.word2 ≡ x) → ruling v ≡ x
      rules x a b = go (cases_Bool v.up1)
        where
          go : (v.up1 ≡ true) ⊎ (v.up1 ≡ false) → ruling v ≡ x
          go (inl y) = cond-true _ _ _ y ∙ a y
          go (inr y) = cond-false _ _ _ y ∙ b (st.served e y)

      -- then both copies say it
      both_say : (x : ℕ) → (v.up1 ≡ true → v.word1 ≡ x) → (v.up2 ≡ true → v.word2 ≡ x)
          → (w.word1 ≡ x) × (w.word2 ≡ x)
      both_say x a b = (at.first ∙ rules x a b, go at.second)
        where
          go : Second
              → w.word2 ≡ x
          go (inl y) = y ∙ rules x a b
          go (inr y) = y.2 ∙ b y.1

      claims_stay : (g : LockGrip) → ((q : ℕ) → g ≡ With q Half → ⊥) → LockClaims v g → LockClaims w g
      claims_stay Without none h = tt
      claims_stay (With q Half) none h = absurd (none q refl)
      claims_stay (With q Whole) none h = let b = both_say (suc q) h.0 h.1 in (λ _. b.0, λ _. b.1)

      left_stays : (q : ℕ) → q < length d.processes → LeftOf d m q → LeftOf d n q
      left_stays q inside (inl h) = inl (record {
        kind = h.kind;
        holder = h.holder;
        small = h.small;
        number = h.number;
        named = cond-true _ _ _ (up q false) ∙ (places d m i k two out others st equal calm q (process_is_extent d q inside)).first ∙ h.named;
        stopped = h.stopped;
        all = λ x. (up x false, up x true);
      })
      left_stays q inside (inr h) = absurd (no_recovery h.processor h.at h.hand)

      ruled : LockRuled d m t → LockRuled d n t
      ruled (inl h) = inl (record { free = cond-true _ _ _ (up e false) ∙ at.first ∙ h.free; both = λ _ _. go at.second })
        where
          go : Second
              → w.word2 ≡ 0
          go (inl y) = y ∙ h.free
          go (inr y) = y.2 ∙ h.both y.0 y.1
      ruled (inr (inl h)) = inr (inl (record {
        holder = h.holder;
        process = h.process;
        hold = h.hold;
        gripped = h.gripped;
        named = cond-true _ _ _ (up e false) ∙ at.first ∙ h.named;
        owned = λ f. absurd (true≢false (sym (up e false) ∙ f));
      }))
      ruled (inr (inr h)) = inr (inr (record {
        process = h.process;
        inside = h.inside;
        first = at.first ∙ cond-true _ _ _ (h.all e).0 ∙ h.first;
        second = go at.second h.second;
        left = left_stays h.process h.inside h.left;
        all = λ x. (up x false, up x true);
      }))
        where
          go : Second
              → (v.word2 ≡ 0) ⊎ (v.word2 ≡ suc h.process)
              → (w.word2 ≡ 0) ⊎ (w.word2 ≡ suc h.process)
          go (inl y) s = inr (y ∙ cond-true _ _ _ (h.all e).0 ∙ h.first)
          go (inr y) (inl s) = inl (y.2 ∙ s)
          go (inr y) (inr s) = inr (y.2 ∙ s)

    pub back_in_service_keeps : LocksStand d owner (record m { copies = with_unit d m.copies i k state.InService })
    back_in_service_keeps = record {
      owned = λ t l ne. let is = locks.owned t l ne in let b = both_say t l (owner t) is.first is.second in record { first = λ _. b.0; second = λ _. b.1 };
      ruled = λ t l z. ruled t l (locks.ruled t l z);
      hands = λ r. hand_carried d owner m.copies p (m.hand r) (λ t l. claims_stay t l (lock_grip d (m.hand r) t) (λ q x. calm_whole d (m.hand r) t q (calm r) x)) (λ at x. absurd (no_recovery r at x)) (locks.hands r);
    }
