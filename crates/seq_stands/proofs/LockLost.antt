-- The failure of a memory, and its return, keep what stands of the lock words.
use Rattle.std.proofs.Common.{◌≡◌, ◌⊎◌, inl, inr, ℕ, ◌<◌, Bool, true, false, if◌then◌else◌, length, refl, ap, sym, ◌∙◌, arith}
use Rattle.std.proofs.Math.Nat.{mod-eq_of_lt}
use Rattle.std.proofs.lemmas.Bool.{cond-true, cond-false, cases_eq, cases_Bool, true≢false, or_parts}
use Rattle.seq_words.specs.declared.description.MachineDesc.{MachineDesc}
use Rattle.seq_memory.specs.States.{is_in_service}
use Rattle.seq_memory.specs.declared.element.State.TheVariants.{Down}
use Rattle.seq_layout.specs.Places.{memory_of}
use Rattle.seq_layout.specs.Shapes.{shape_of, segment_extent}
use Rattle.seq_layout.specs.Copies.{serves}
use Rattle.seq_turns.specs.declared.hand.Hand.TheVariants as hand
use Rattle.seq_turns.specs.declared.hand.RecoveryAt.{RecoveryAt}
use Rattle.seq_turns.specs.Functions.{update}
use Rattle.seq_turns.specs.Machines.{Machine}
use Rattle.seq_turns.specs.Reading.{ruling as status_now, awaits}
use Rattle.seq_turns.specs.Events.{lost_copies, is_back}
use Rattle.seq_turns.proofs.Functions.{update_cases}
use Rattle.seq_stands.specs.Words.{words_of, AllUp, WordsStand}
use Rattle.seq_stands.specs.Locks.{Hold, LockGrip, lock_view, lock_grip, LockClaims, LockRuled, LocksStand}
use Rattle.seq_stands.specs.Locks.Hold.{Half, Whole}
use Rattle.seq_stands.specs.Locks.LockGrip.{Without, With}
use Rattle.seq_stands.proofs.Gripped.{all_recovered}
use Rattle.seq_stands.proofs.Losses.{counts, lost_up, kept_word, view_lost}
use Rattle.seq_stands.proofs.LockClaims.{claims_of}
use Rattle.seq_stands.proofs.LockFrame.{LeftOf}
use Rattle.seq_stands.proofs.Readings.{deserted_says}
use Rattle.seq_stands.proofs.LockSeen.{hand_carried, all_seen}

-- a memory fails that isn't in service: nothing is lost
pub lost_nothing_keeps : (d : MachineDesc) (owner : ℕ → ℕ) (m : Machine) (k : ℕ) → is_in_service (m.copies.state k) ≡ false → LocksStand d owner m → LocksStand d owner (record m { copies = lost_copies d k m.copies })
lost_nothing_keeps d owner m k out = all_seen d owner m (record m { copies = lost_copies d k m.copies }) (view_lost d m.copies k out) refl refl

-- a memory comes back, and is to be copied
pub mended_keeps : (d : MachineDesc) (owner : ℕ → ℕ) (m : Machine) (k : ℕ) → m.copies.state k ≡ Down → LocksStand d owner m
    → LocksStand d owner (record m { copies = record m.copies { state = update m.copies.state k (is_back (m.copies.state k)) } })
mended_keeps d owner m k down = all_seen d owner m n (λ e j. record { up1 = up e false j; up2 = up e true j; word1 = if up e false j then m.copies.word e 0 false else 0; word2 = if up e true j then m.copies.word e 0 true else 0 }) refl refl
  where
    n : Machine
    n = record m { copies = record m.copies { state = update m.copies.state k (is_back (m.copies.state k)) } }

    up : (e : ℕ) (c : Bool) → is_in_service (update m.copies.state k (is_back (m.copies.state k)) (memory_of d.memories e c)) ≡ serves (shape_of d) m.copies e c
    up e c = update_cases (λ s. is_in_service s ≡ serves (shape_of d) m.copies e c) m.copies.state k (is_back (m.copies.state k)) (memory_of d.memories e c)
        (λ h. ap (λ s. is_in_service (is_back s)) down ∙ sym (ap (λ x. is_in_service (m.copies.state x)) h ∙ ap is_in_service down)) (λ ne. refl)

-- A memory in service fails, while all are and no process awaits recovery.
module _ (d : MachineDesc) (owner : ℕ → ℕ) (m : Machine) (k : ℕ) (inside : k < d.memories) (all : AllUp (words_of d m)) (steady : (q : ℕ) → q < length d.processes → awaits m.incarnation (status_now d m.copies q) ≡ false)
    (st : WordsStand (words_of d m)) (now : WordsStand (words_of d (record m { copies = lost_copies d k m.copies }))) (locks : LocksStand d owner m) where
  abbrev n : Machine
  n = record m { copies = lost_copies d k m.copies }

  -- a copy that is still in service is as it was
  stays : (e : ℕ) (c : Bool) → serves (shape_of d) (lost_copies d k m.copies) e c ≡ true → counts d (lost_copies d k m.copies) e c ≡ counts d m.copies e c
  stays e c t = go (cases_eq (memory_of d.memories e c) k)
    where
      go : (memory_of d.memories e c ≡ k) ⊎ (memory_of d.memories e c ≡ k → ⊥) → counts d (lost_copies d k m.copies) e c ≡ counts d m.copies e c
      go (inl h) = absurd (true≢false (sym t ∙ lost_up d m.copies k e c h))
      go (inr ne) = kept_word d m.copies k e c ne

  -- no process is being recovered, and none is deserted
  no_recovery : (r : ℕ) (at : RecoveryAt) → m.hand r ≡ hand.Recovering at → ⊥
  no_recovery r at e = true≢false (sym (all_recovered d n now r at e k).0 ∙ lost_up d m.copies k k false (mod-eq_of_lt inside))

  none_left : (q : ℕ) → q < length d.processes → LeftOf d m q → ⊥
  none_left q l (inl h) = true≢false (
      sym (deserted_says d m.copies m.incarnation q h.kind h.holder h.number (st.served q) h.small h.named (λ e. let s = h.stopped in let c : ⊥ = omega (arith, s, e) in c))
      ∙ (or_parts _ _ (steady q l)).0)
  none_left q l (inr h) = no_recovery h.processor h.at h.hand

  claims_stay : (t : ℕ) (g : LockGrip) → LockClaims (lock_view d m.copies t) g → LockClaims (lock_view d (lost_copies d k m.copies) t) g
  claims_stay t Without h = tt
  claims_stay t (With q Half) h = λ a. (stays (segment_extent (shape_of d) t) false a ∙ (h (all (segment_extent (shape_of d) t)).0).0, λ b. stays (segment_extent (shape_of d) t) true b ∙ (h (all (segment_extent (shape_of d) t)).0).1 (all (segment_extent (shape_of d) t)).1)
  claims_stay t (With q Whole) h = (λ a. stays (segment_extent (shape_of d) t) false a ∙ h.0 (all (segment_extent (shape_of d) t)).0, λ b. stays (segment_extent (shape_of d) t) true b ∙ h.1 (all (segment_extent (shape_of d) t)).1)

  module _ (t : ℕ) (inside_segments : t < length d.segments) where
    abbrev e : ℕ
    e = segment_extent (shape_of d) t

    ruled : LockRuled d m t → ((lock_view d (lost_copies d k m.copies) t).up1 ≡ true) ⊎ ((lock_view d (lost_copies d k m.copies) t).up1 ≡ false) → LockRuled d (record m { copies = lost_copies d k m.copies }) t
    ruled (inl h) (inl a) = inl (record { free = cond-true _ _ _ a ∙ stays e false a ∙ sym (cond-true _ _ _ (all e).0) ∙ h.free; both = λ _ b. stays e true b ∙ h.both (all e).0 (all e).1 })
    ruled (inl h) (inr f) = inl (record { free = cond-false _ _ _ f ∙ stays e true (now.served e f) ∙ h.both (all e).0 (all e).1; both = λ a. absurd (true≢false (sym a ∙ f)) })
    ruled (inr (inl h)) (inl a) = inr (inl (record {
      holder = h.holder;
      process = h.process;
      hold = h.hold;
      gripped = h.gripped;
      named = cond-true _ _ _ a ∙ stays e false a ∙ sym (cond-true _ _ _ (all e).0) ∙ h.named;
      owned = λ f. absurd (true≢false (sym a ∙ f));
    }))
    ruled (inr (inl h)) (inr f) = go h.hold h.gripped (claims_of d owner m locks h.holder t inside_segments h.process h.hold h.gripped)
      where
        -- the shadow rules now; a lock that was being claimed or released is free
        go : (hold : Hold) → lock_grip d (m.hand h.holder) t ≡ With h.process hold → LockClaims (lock_view d m.copies t) (With h.process hold) → LockRuled d (record m { copies = lost_copies d k m.copies }) t
        go Half i c = inl (record { free = cond-false _ _ _ f ∙ stays e true (now.served e f) ∙ (c (all e).0).1 (all e).1; both = λ a. absurd (true≢false (sym a ∙ f)) })
        go Whole i c = inr (inl (record {
          holder = h.holder;
          process = h.process;
          hold = Whole;
          gripped = i;
          named = cond-false _ _ _ f ∙ stays e true (now.served e f) ∙ c.1 (all e).1;
          owned = λ _ x. let y : ⊥ = cc in y;
        }))
    ruled (inr (inr h)) u = absurd (none_left h.process h.inside h.left)

  pub lost_keeps : LocksStand d owner (record m { copies = lost_copies d k m.copies })
  lost_keeps = record {
    owned = λ t l ne. let is = locks.owned t l ne in record {
      first = λ a. stays (segment_extent (shape_of d) t) false a ∙ is.first (all (segment_extent (shape_of d) t)).0;
      second = λ b. stays (segment_extent (shape_of d) t) true b ∙ is.second (all (segment_extent (shape_of d) t)).1;
    };
    ruled = λ t l z. ruled t l (locks.ruled t l z) (cases_Bool (lock_view d (lost_copies d k m.copies) t).up1);
    hands = λ r. hand_carried d owner m.copies (lost_copies d k m.copies) (m.hand r) (λ t l. claims_stay t (lock_grip d (m.hand r) t)) (λ at i. absurd (no_recovery r at i)) (locks.hands r);
  }
