-- Turns of a processor that claims, unlocks, leaves or looks at a process keep what stands of the blocks.
use Rattle.std.proofs.Common.{◌≡◌, ◌≢◌, ◌⊎◌, inl, inr, ℕ, suc, ◌<◌, Bool, true, false, ◌||◌, None, List, length, refl, ap, sym, ◌∙◌, subst, arith, if◌then◌else◌}
use Rattle.std.proofs.lemmas.Bool.{cond_both, cond-true, cond-false, cases_Bool, and_parts, false≢true}
use Rattle.seq_words.specs.Masks.{has_bit}
use Rattle.seq_words.specs.Description.{IsDescription}
use Rattle.seq_words.specs.declared.description.MachineDesc.{MachineDesc}
use Rattle.seq_words.specs.declared.events.Event.{Event}
use Rattle.seq_layout.specs.Shapes.{shape_of, segment_extent}
use Rattle.seq_layout.specs.Copies.{serves}
use Rattle.seq_layout.specs.declared.units.WordAt.{WordAt}
use Rattle.seq_process.specs.declared.running.Running.{Running}
use Rattle.seq_process.specs.Contexts.{end_of}
use Rattle.seq_kernel.specs.declared.outcomes.Cause.{Cause}
use Rattle.seq_kernel.specs.declared.outcomes.Note.TheVariants.{Looked}
use Rattle.seq_locks.specs.declared.claim.Claim.{Claim}
use Rattle.seq_locks.specs.declared.stages.Shadow as shadow_stage
use Rattle.seq_locks.specs.Turns.{is_taken}
use Rattle.seq_turns.specs.declared.hand.Hand.{Hand}
use Rattle.seq_turns.specs.declared.hand.Hand.TheVariants as hand
use Rattle.seq_turns.specs.declared.hand.ReleaseAt.{ReleaseAt}
use Rattle.seq_turns.specs.declared.hand.ReleaseAt.TheVariants as release
use Rattle.seq_turns.specs.Machines.{Machine, Move, copies_after, after_move}
use Rattle.seq_turns.specs.Machines.Turn.{Moves, Looks}
use Rattle.seq_io.specs.Changes.Change.{Unchanged}
use Rattle.seq_turns.specs.Reading.{status_word, holder, write_word, context_of}
use Rattle.seq_status.specs.Words.{word_of}
use Rattle.seq_status.specs.declared.status.Status.TheVariants as status
use Rattle.seq_turns.specs.Operations.{goes, claims, unlock_move, leave_move}
use Rattle.seq_turns.specs.Processors.{is_free, looks, seeks}
use Rattle.seq_turns.specs.Functions.{update}
use Rattle.seq_turns.proofs.Functions.{update_same}
use Rattle.seq_stands.specs.Grips.{Stage, grip}
use Rattle.seq_stands.specs.Grips.Kind.{Run}
use Rattle.seq_stands.specs.Grips.Stage.{Claiming, Holding, Freeing}
use Rattle.seq_stands.specs.Grips.Grip.{On}
use Rattle.seq_stands.specs.Words.{words_of, view_of, ruling, IsFree, IsDeserted, IsRecovery}
use Rattle.seq_stands.specs.Hands.{IsLock}
use Rattle.seq_stands.specs.Locks.{held_in, owners_with, HandLocks, lock_view, lock_grip, LockClaims, half_if, whole_if, is_lock}
use Rattle.seq_stands.specs.Locks.Hold.{Half}
use Rattle.seq_stands.specs.Locks.LockGrip.{With}
use Rattle.seq_stands.proofs.Claims.{taken_up_grip}
use Rattle.seq_stands.proofs.Changes.{view_primary}
use Rattle.seq_stands.proofs.Flushes.{follows_grip}
use Rattle.seq_stands.proofs.Frame.{alone_free}
use Rattle.seq_stands.proofs.Gripped.{named_recovered}
use Rattle.seq_stands.proofs.LockPlaces.{lock_here}
use Rattle.seq_stands.proofs.LockTurns.{only_unchanged, only_status}
use Rattle.seq_stands.proofs.Local.{Named}
use Rattle.seq_stands.proofs.Numbers.{word_taken}
use Rattle.seq_stands.proofs.Readings.{idle_is_free}
use Rattle.seq_invariant.specs.BlockApart.{owners_of}
use Rattle.seq_invariant.specs.BlockWorks.{Committed}
use Rattle.seq_invariant.specs.BlockLeft as left
use Rattle.seq_invariant.specs.BlockLeft.{IsLeft}
use Rattle.seq_invariant.specs.BlockFrame.{IsAmidPass}
use Rattle.seq_invariant.specs.BlockTurns.{AfterMove}
use Rattle.seq_invariant.proofs.BlockTurns.{releases_keep, claims_keep}
use Rattle.seq_lines.specs.Inside.{HandIsInside, IsMask}
use Rattle.seq_invariant.specs.Holds.{Holds}
use Rattle.seq_invariant.proofs.Left.{has_to, deserted_word, gripped_is_alive, gripped_is_kept}
use Rattle.seq_invariant.proofs.Kept.{LeavesNames, IsQuiet, unchanged_quiet, word_quiet, only_names, shadow_names, primary_names, calm_done, keeps_left}
use Rattle.seq_invariant.proofs.Same.{blocks_same}
use Rattle.seq_invariant.proofs.Moved.{TurnMade, quiet_made}
use Rattle.seq_invariant.proofs.Tame.{IsTame, not_recovering, tame_left}
use Rattle.seq_invariant.proofs.Claims.{claim_can}
use Rattle.seq_invariant.proofs.Turned.{apart, reached, known, is_hand, gripped, no_pass, Words, Cache, cache_of, idle_made}

module _ (d : MachineDesc) (events : List Event) (at : Committed) (m : Machine) (p : ℕ) (described : IsDescription d) (st : Holds d events at m) where
  abbrev Wordly : Move → Type 0
  Wordly move = Words d events at m p described st (Moves move)

  abbrev Cached : Move → Type 0
  Cached move = Cache d events at m p described st (Moves move)

  abbrev Done : Move → Type 0
  Done move = TurnMade d at m p (Moves move)

  -- a hand that has hold of a process before and after
  tame_done : (h : Hand) (q : ℕ) (stage : Stage) → m.hand p ≡ h → grip h ≡ On q stage → (IsRecovery stage → ⊥) → (IsAmidPass h → ⊥) → (move : Move) → IsTame d m q move → IsQuiet d move.change → AfterMove d at m move → Wordly move → Cached move → Done move
  tame_done h q stage e g calm none move tame quiet knows st' cache = quiet_made d at m p move tame.none st.blocks (apart d events at m p described st)
      (tame_left d m p q stage (ap grip e ∙ g) calm st.words.words move tame st') knows (cache_of d events at m p described st move cache) quiet (no_pass d events at m p described st h e none)

  -- a hand that lets go of a process, which isn't left then
  gone_done : (h : Hand) (q : ℕ) (stage : Stage) → m.hand p ≡ h → grip h ≡ On q stage → (IsRecovery stage → ⊥) → (IsAmidPass h → ⊥) → (move : Move) → move.hand ≡ hand.Seek → move.commit ≡ None → LeavesNames d m.copies q move.change → IsQuiet d move.change →
      ((forward : Bool) → left.IsDeserted d (after_move p move m) q forward → ⊥) → AfterMove d at m move → Cached move → Done move
  gone_done h q stage e g calm none move seeks nothing names quiet gone knows cache = quiet_made d at m p move nothing st.blocks (apart d events at m p described st)
      (keeps_left d m p q move (calm_done (m.hand p) (not_recovering (m.hand p) q stage (ap grip e ∙ g) calm)) (λ x a forward k. let z : hand.Seek ≡ hand.Recovering x = sym seeks ∙ k in let c : ⊥ = cc in absurd c) names
      (λ forward is. gripped_is_kept d m st.words.words p q stage forward (ap grip e ∙ g) (not_recovering (m.hand p) q stage (ap grip e ∙ g) calm) is) gone)
      knows (cache_of d events at m p described st move cache) quiet (no_pass d events at m p described st h e none)

  -- the second turn of a process's claim
  pub claimed : (q : ℕ) (c : Claim shadow_stage.Shadow) → m.hand p ≡ hand.Claiming (record { 0 = q }) c → Wordly (claims d m p q c) → Cached (claims d m p q c) → Done (claims d m p q c)
  claimed q c e = go (cases_Bool (is_taken (shape_of d) m.copies c.at true))
    where
      place : c.at ≡ status_word q
      place = (is_hand d events at m p described st (hand.Claiming (record { 0 = q }) c) e).place

      there : q < length d.processes
      there = (gripped d events at m p described st (hand.Claiming (record { 0 = q }) c) q Claiming e refl).process

      go : (is_taken (shape_of d) m.copies c.at true ≡ true) ⊎ (is_taken (shape_of d) m.copies c.at true ≡ false) → Wordly (claims d m p q c) → Cached (claims d m p q c) → Done (claims d m p q c)
      go (inl taken) = subst (λ (move : Move). Wordly move → Cached move → Done move) (sym (cond-true _ _ _ taken)) (λ st' cache.
          gone_done (hand.Claiming (record { 0 = q }) c) q Claiming e refl (λ x. x) (λ x. x) (goes m p Unchanged hand.Seek) refl refl (only_names d m.copies q Unchanged (only_unchanged d q)) (unchanged_quiet d)
          (λ forward is. gripped_is_alive d m st.words.words p q Claiming (ap grip e) (deserted_word d m st.words.words q forward (record { inside = is.inside; deserted = is.deserted; way = is.way }))) tt cache)
      go (inr free) = λ st' cache. tame_done (hand.Claiming (record { 0 = q }) c) q Claiming e refl (λ x. x) (λ x. x) (claims d m p q c)
          (subst (λ (move : Move). IsTame d m q move) (sym (cond-false _ _ _ free)) (record {
            stage = Holding Run;
            gripped = taken_up_grip d m q (end_of (context_of d m.copies q));
            calm = λ x. x;
            names = subst (λ (w : WordAt). LeavesNames d m.copies q (write_word d m.copies w.extent.0 w.word true c.value)) (sym place) (only_names d m.copies q _ (only_status d m.copies q true c.value there));
            none = refl;
          }))
          (subst (λ (move : Move). IsQuiet d move.change) (sym (cond-false _ _ _ free)) (word_quiet d m.copies c.at.extent.0 c.at.word true c.value))
          (claims_keep d at m p q c described (reached d events at m p described st) (claim_can d m st.words p q c e free at described st.locks st.blocks) (st.blocks.caches p))
          st' cache

  -- a lock is released
  pub unlocked : (r : Running) (why : Cause) (mask : ℕ) (l : ReleaseAt) → m.hand p ≡ hand.Unlocking r why mask l → Wordly (unlock_move d m p r why mask l) → Cached (unlock_move d m p r why mask l) → Done (unlock_move d m p r why mask l)
  unlocked r why mask (release.Shadow l) e st' cache =
      let is = is_hand d events at m p described st (hand.Unlocking r why mask (release.Shadow l)) e in
      tame_done (hand.Unlocking r why mask (release.Shadow l)) r.pid.0 (Holding Run) e refl (λ x. x) (λ x. x) (unlock_move d m p r why mask (release.Shadow l))
      (record {
        stage = Holding Run;
        gripped = refl;
        calm = λ x. x;
        names = subst (λ (w : WordAt). LeavesNames d m.copies r.pid.0 (write_word d m.copies w.extent.0 w.word true 0)) (sym is.place) (shadow_names d m.copies r.pid.0 is.segment 0);
        none = refl;
      })
      (word_quiet d m.copies l.at.extent.0 l.at.word true 0)
      (releases_keep d at m p (m.incarnation p) r why mask (release.Shadow l) is (known d events at m p described st (hand.Unlocking r why mask (release.Shadow l)) e)) st' cache
  unlocked r why mask (release.Primary l) e st' cache =
      let is = is_hand d events at m p described st (hand.Unlocking r why mask (release.Primary l)) e in
      tame_done (hand.Unlocking r why mask (release.Primary l)) r.pid.0 (Holding Run) e refl (λ x. x) (λ x. x) (unlock_move d m p r why mask (release.Primary l))
      (record {
        stage = Holding Run;
        gripped = follows_grip d r why _;
        calm = λ x. x;
        names = subst (λ (w : WordAt). LeavesNames d m.copies r.pid.0 (write_word d m.copies w.extent.0 w.word false 0)) (sym is.place)
            (primary_names d m.copies r.pid.0 is.segment 0 (λ up x ne. named is up x ne) (λ x ne z. let c : ⊥ = omega (arith, z) in c));
        none = refl;
      })
      (word_quiet d m.copies l.at.extent.0 l.at.word false 0)
      (releases_keep d at m p (m.incarnation p) r why mask (release.Primary l) is (known d events at m p described st (hand.Unlocking r why mask (release.Primary l)) e)) st' cache
    where
      locks : HandLocks d (owners_of at.state) m.copies (hand.Unlocking r why mask (release.Primary l))
      locks = subst (HandLocks d (owners_of at.state) m.copies) e (st.locks.hands p)

      bits : IsMask d mask
      bits = subst (HandIsInside d) e (st.inside p)

      -- the primary names the process still
      named : (is : IsLock d mask l.at) → serves (shape_of d) m.copies (segment_extent (shape_of d) is.segment) false ≡ true → (x : ℕ) → x ≢ r.pid.0 → m.copies.word (segment_extent (shape_of d) is.segment) 0 false ≢ suc x
      named is up x ne says =
          let t : ℕ = is.segment in
          let half : lock_grip d (hand.Unlocking r why mask (release.Primary l)) t ≡ With r.pid.0 Half =
          subst (λ (w : WordAt). half_if (is_lock d t w) r.pid.0 (whole_if (has_bit r.held t || has_bit mask t) r.pid.0) ≡ With r.pid.0 Half) (sym is.place)
          (ap (λ b. half_if b r.pid.0 (whole_if (has_bit r.held t || has_bit mask t) r.pid.0)) (lock_here d t)) in
          let claims : LockClaims (lock_view d m.copies t) (With r.pid.0 Half) = subst (LockClaims (lock_view d m.copies t)) half (locks.0.claims t (bits t is.bit)) in
          let mine : m.copies.word (segment_extent (shape_of d) t) 0 false ≡ suc r.pid.0 = sym (masked (serves (shape_of d) m.copies (segment_extent (shape_of d) t) false) up (m.copies.word (segment_extent (shape_of d) t) 0 false)) ∙ (claims up).0 in
          ne (let c : x ≡ r.pid.0 = omega (arith, says, mine) in c)
        where
          masked : (b : Bool) → b ≡ true → (w : ℕ) → (if b then w else 0) ≡ w
          masked true h w = refl
          masked false h w = absurd (false≢true h)

  -- a process is left
  pub left_process : (q : ℕ) (l : ReleaseAt) → m.hand p ≡ hand.Leaving (record { 0 = q }) l → Wordly (leave_move d m p q l) → Cached (leave_move d m p q l) → Done (leave_move d m p q l)
  left_process q (release.Shadow l) e st' cache =
      let place : l.at ≡ status_word q = is_hand d events at m p described st (hand.Leaving (record { 0 = q }) (release.Shadow l)) e in
      let there : q < length d.processes = (gripped d events at m p described st (hand.Leaving (record { 0 = q }) (release.Shadow l)) q (Holding Run) e refl).process in
      tame_done (hand.Leaving (record { 0 = q }) (release.Shadow l)) q (Holding Run) e refl (λ x. x) (λ x. x) (leave_move d m p q (release.Shadow l))
      (record {
        stage = Freeing Run;
        gripped = refl;
        calm = λ x. x;
        names = subst (λ (w : WordAt). LeavesNames d m.copies q (write_word d m.copies w.extent.0 w.word true 0)) (sym place) (only_names d m.copies q _ (only_status d m.copies q true 0 there));
        none = refl;
      })
      (word_quiet d m.copies l.at.extent.0 l.at.word true 0) tt st' cache
  left_process q (release.Primary l) e st' cache =
      let place : l.at ≡ status_word q = is_hand d events at m p described st (hand.Leaving (record { 0 = q }) (release.Primary l)) e in
      let there : q < length d.processes = (gripped d events at m p described st (hand.Leaving (record { 0 = q }) (release.Primary l)) q (Freeing Run) e refl).process in
      gone_done (hand.Leaving (record { 0 = q }) (release.Primary l)) q (Freeing Run) e refl (λ x. x) (λ x. x) (leave_move d m p q (release.Primary l)) refl refl
      (subst (λ (w : WordAt). LeavesNames d m.copies q (write_word d m.copies w.extent.0 w.word false 0)) (sym place) (only_names d m.copies q _ (only_status d m.copies q false 0 there)))
      (word_quiet d m.copies l.at.extent.0 l.at.word false 0)
      (λ forward is. free place (deserted_word d (after_move p (leave_move d m p q (release.Primary l)) m) st' q forward is)) tt cache
    where
      free : l.at ≡ status_word q → IsDeserted (words_of d (after_move p (leave_move d m p q (release.Primary l)) m)) q → ⊥
      free place h =
          let up : serves (shape_of d) m.copies q false ≡ true = (h.all q).0 in
          let view = subst (λ (w : WordAt). view_of d (copies_after (write_word d m.copies w.extent.0 w.word false 0) m.copies) q ≡ record (view_of d m.copies q) { word1 = if (view_of d m.copies q).up1 then 0 else (view_of d m.copies q).word1 }) (sym place) (view_primary d m.copies q 0) in
          let zero : ruling (view_of d (copies_after (write_word d m.copies l.at.extent.0 l.at.word false 0) m.copies) q) ≡ 0 = ap ruling view ∙ both (serves (shape_of d) m.copies q false) up _ _ in
          word_taken h.kind h.holder h.number (sym h.named ∙ zero)
        where
          both : (b : Bool) → b ≡ true → (x y : ℕ) → (if b then (if b then 0 else x) else y) ≡ 0
          both true h' x y = refl
          both false h' x y = absurd (false≢true h')

  -- a process is looked at, and claimed if it may be
  pub looked : (q : ℕ) → q < length d.processes → m.hand p ≡ hand.Seek → Wordly (looks d m p q) → Cached (looks d m p q) → Done (looks d m p q)
  looked q there e = cond_both (is_free d m q) _ _ (λ move. Wordly move → Cached move → Done move) (λ free. λ st' cache. begins free st' cache)
      (λ _. λ st' cache. idle_made d events at m p described st hand.Seek e (λ x. x) (λ x k. let c : ⊥ = cc in c) (Looked (record { 0 = q })))
    where
      begins : is_free d m q ≡ true → Wordly (goes m p (write_word d m.copies q 0 false (word_of (status.Run (holder m p)))) (hand.Claiming (record { 0 = q }) (record { at = status_word q; value = word_of (status.Run (holder m p)); stage = record {} }))) →
          Cached (goes m p (write_word d m.copies q 0 false (word_of (status.Run (holder m p)))) (hand.Claiming (record { 0 = q }) (record { at = status_word q; value = word_of (status.Run (holder m p)); stage = record {} }))) →
          Done (goes m p (write_word d m.copies q 0 false (word_of (status.Run (holder m p)))) (hand.Claiming (record { 0 = q }) (record { at = status_word q; value = word_of (status.Run (holder m p)); stage = record {} })))
      begins free st' cache =
          let move : Move = goes m p (write_word d m.copies q 0 false (word_of (status.Run (holder m p)))) (hand.Claiming (record { 0 = q }) (record { at = status_word q; value = word_of (status.Run (holder m p)); stage = record {} })) in
          quiet_made d at m p move refl st.blocks (apart d events at m p described st)
          (keeps_left d m p q move (λ x a forward k. let z : hand.Seek ≡ hand.Recovering x = sym e ∙ k in let c : ⊥ = cc in absurd c) (λ x a forward k. let c : ⊥ = cc in absurd c)
          (only_names d m.copies q _ (only_status d m.copies q false (word_of (status.Run (holder m p))) there)) not_left
          (λ forward is. gripped_is_alive d (after_move p move m) st' p q Claiming (ap grip (update_same m.hand p move.hand)) (deserted_word d (after_move p move m) st' q forward is)))
          tt (cache_of d events at m p described st move cache) (word_quiet d m.copies q 0 false (word_of (status.Run (holder m p)))) (no_pass d events at m p described st hand.Seek e (λ x. x))
        where
          is_free' : IsFree ((words_of d m).view q)
          is_free' = idle_is_free d m.copies (words_of d m) q refl (st.words.words.served q) (and_parts _ _ free).0 (st.words.words.ruled q there)

          not_left : (forward : Bool) → IsLeft d m q forward → ⊥
          not_left forward (inl h) = let x = deserted_word d m st.words.words q forward h in word_taken x.kind x.holder x.number (sym x.named ∙ is_free'.free)
          not_left forward (inr h) =
              let named = named_recovered d m st.words.words h.processor h.at h.hand in
              let named' = subst (λ x. (h.processor < 256) × Named ((words_of d m).view x) h.processor (m.incarnation h.processor)) (has_to h.at q forward h.copies) named in
              alone_free ((words_of d m).view q) is_free'.free h.processor (m.incarnation h.processor) named'.1

  -- and the cursor moves on
  pub sought : m.hand p ≡ hand.Seek → (next : ℕ) → Wordly (looks d m p (m.scan p)) → Cached (looks d m p (m.scan p)) → TurnMade d at m p (Looks next (looks d m p (m.scan p)))
  sought e next st' cache =
      let made : Done (looks d m p (m.scan p)) = looked (m.scan p) (st.words.hands.scans p) e st' cache in
      record { now = made.now; inputs = made.inputs; owners = owners made; blocks = blocks_same d made.now (after_move p (looks d m p (m.scan p)) m) (update m.scan p next) m.io m.port m.sent m.hung made.blocks }
    where
      owners : (made : Done (looks d m p (m.scan p))) → (s : ℕ) → owners_of made.now.state s ≡ owners_of at.state s
      owners made s = made.owners s ∙ ap (λ c. owners_with (owners_of at.state) (held_in (m.hand p)) c s) (cond_both (is_free d m (m.scan p)) _ _ (λ (move : Move). move.commit ≡ None) (λ _. refl) (λ _. refl))
