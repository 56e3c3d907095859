-- A process that was left: every memory is in service, and no processor has hold of it but one that recovers it.
use Rattle.std.proofs.Common.{◌≡◌, inl, inr, ℕ, ◌<◌, Bool, refl, ap, sym, ◌∙◌, subst, arith}
use Rattle.std.proofs.lemmas.Bool.{true≢false}
use Rattle.seq_words.specs.declared.description.MachineDesc.{MachineDesc}
use Rattle.seq_turns.specs.declared.hand.Hand.TheVariants as hand
use Rattle.seq_turns.specs.declared.hand.RecoveryAt.{RecoveryAt}
use Rattle.seq_turns.specs.declared.hand.RecoveryAt.TheVariants as recovery
use Rattle.seq_turns.specs.Machines.{Machine}
use Rattle.seq_stands.specs.Grips.{Stage, grip, word}
use Rattle.seq_stands.specs.Grips.Grip.{On}
use Rattle.seq_stands.specs.Words.{Words, words_of, AllUp, IsDeserted, WordsStand}
use Rattle.seq_stands.proofs.Numbers.{same_processor, same_incarnation}
use Rattle.seq_stands.proofs.Local.{Named}
use Rattle.seq_stands.proofs.Readings.{deserted_is}
use Rattle.seq_stands.proofs.Gripped.{process_of, named_at, same_holder, all_recovered, named_recovered}
use Rattle.seq_invariant.specs.BlockLeft as left
use Rattle.seq_invariant.specs.BlockLeft.{HasToCopy, IsLeft}

-- a recovery that has still to copy is of this process
pub has_to : (x : RecoveryAt) (q : ℕ) (forward : Bool) → HasToCopy x q forward → process_of x ≡ q
has_to (recovery.Claimed r) q forward h = h.0
has_to (recovery.Copying r) q forward h = h.0
has_to (recovery.Locks r) q forward h = absurd h
has_to (recovery.Closing r) q forward h = absurd h

module _ (d : MachineDesc) (m : Machine) (st : WordsStand (words_of d m)) where
  abbrev w : Words
  w = words_of d m

  -- the holder that its word names isn't live
  pub deserted_word : (q : ℕ) (forward : Bool) → left.IsDeserted d m q forward → IsDeserted (words_of d m) q
  deserted_word q forward h = deserted_is d m.copies w q refl (st.served q) h.deserted (st.ruled q h.inside)

  pub left_all : (q : ℕ) (forward : Bool) → IsLeft d m q forward → AllUp (words_of d m)
  left_all q forward (inl h) = (deserted_word q forward h).all
  left_all q forward (inr h) = all_recovered d m st h.processor h.at h.hand

  -- a word that names a live processor names none that has stopped
  pub named_alive : (p q : ℕ) → (p < 256) × Named ((words_of d m).view q) p (m.incarnation p) → IsDeserted (words_of d m) q → ⊥
  named_alive p q named h =
      let says : word named.1.kind p (m.incarnation p) ≡ word h.kind h.holder h.number = sym named.1.says ∙ h.named in
      let one : p ≡ h.holder = same_processor named.1.kind h.kind p h.holder (m.incarnation p) h.number named.0 h.small says in
      let time : m.incarnation p ≡ h.number = same_incarnation named.1.kind h.kind p h.holder (m.incarnation p) h.number named.0 h.small says in
      let here : m.incarnation p ≡ m.incarnation h.holder = ap m.incarnation one in
      let stopped = h.stopped in
      let c : ⊥ = omega (arith, time, here, stopped) in c

  -- while every memory is in service, a processor that has hold of a process is named by its word
  pub named_all : (p q : ℕ) (stage : Stage) → AllUp (words_of d m) → grip (m.hand p) ≡ On q stage → (p < 256) × Named ((words_of d m).view q) p (m.incarnation p)
  named_all p q stage all e = named_at d m st p q stage e (λ f l. true≢false (sym (all q).0 ∙ f))

  pub gripped_is_alive : (p q : ℕ) (stage : Stage) → grip (m.hand p) ≡ On q stage → IsDeserted (words_of d m) q → ⊥
  gripped_is_alive p q stage e h = named_alive p q (named_all p q stage h.all e) h

  -- two processors that have hold of one process are one, while every memory is in service
  pub one_grips : (p r q : ℕ) (stage stage' : Stage) → AllUp (words_of d m) → grip (m.hand p) ≡ On q stage → grip (m.hand r) ≡ On q stage' → p ≡ r
  one_grips p r q stage stage' all e f = same_holder d m st p r q (named_all p q stage all e) (named_all r q stage' all f)

  -- a process that a processor has hold of was left only if that processor recovers it
  pub gripped_is_kept : (p q : ℕ) (stage : Stage) (forward : Bool) → grip (m.hand p) ≡ On q stage → ((x : RecoveryAt) → m.hand p ≡ hand.Recovering x → ⊥) → IsLeft d m q forward → ⊥
  gripped_is_kept p q stage forward e calm (inl h) = gripped_is_alive p q stage e (deserted_word q forward h)
  gripped_is_kept p q stage forward e calm (inr h) =
      let all = all_recovered d m st h.processor h.at h.hand in
      let same : process_of h.at ≡ q = has_to h.at q forward h.copies in
      let named = subst (λ x. (h.processor < 256) × Named (w.view x) h.processor (m.incarnation h.processor)) same (named_recovered d m st h.processor h.at h.hand) in
      let one : p ≡ h.processor = same_holder d m st p h.processor q (named_all p q stage all e) named in
      calm h.at (ap m.hand one ∙ h.hand)
