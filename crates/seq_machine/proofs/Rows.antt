-- The table's rows of operations, by the turns of flushes, claims and releases that they are made of.
use Rattle.std.proofs.Common.{◌≡◌, ℕ, ◌-◌, Bool, true, false, ◌==◌, nat_le, [], Option, Some, None, refl, sym, subst, inl, inr}
use Rattle.std.proofs.lemmas.Bool.{cases_Bool, cond-true, cond-false, cond_both}
use Rattle.seq_words.specs.declared.description.MachineDesc.{MachineDesc}
use Rattle.seq_words.specs.declared.names.Seg.{Seg}
use Rattle.seq_layout.specs.Shapes.{Shape, shape_of}
use Rattle.seq_layout.specs.Copies.{Copies}
use Rattle.seq_cache.specs.Changes.{Changes}
use Rattle.seq_process.specs.declared.running.Running.{Running}
use Rattle.seq_process.specs.Contexts.{end_of}
use Rattle.seq_kernel.specs.declared.outcomes.Cause.{Cause}
use Rattle.seq_kernel.specs.declared.outcomes.Cause.TheVariants.{Wait}
use Rattle.seq_kernel.specs.declared.outcomes.Reason.TheVariants.{Lock}
use Rattle.seq_kernel.specs.declared.outcomes.Note.TheVariants.{Found, Ran, Moved}
use Rattle.seq_kernel.specs.Calls.{granted}
use Rattle.seq_locks.specs.declared.claim.Claim.{Claim}
use Rattle.seq_locks.specs.declared.claim.Claimed.TheVariants.{Got, Refused}
use Rattle.seq_locks.specs.declared.release.Release.{Release}
use Rattle.seq_locks.specs.declared.stages.Shadow.{Shadow}
use Rattle.seq_locks.specs.declared.stages.Primary.{Primary}
use Rattle.seq_locks.specs.declared.stages.Held.{Held}
use Rattle.seq_locks.specs.Turns.{is_taken, word_at, claim_shadow, release_shadow, release_primary}
use Rattle.seq_flush.specs.Turns.{mark_turn, first_turn, second_turn, close_turn}
use Rattle.seq_turns.specs.declared.hand.Hand.{Hand}
use Rattle.seq_turns.specs.declared.hand.Hand.TheVariants as hand
use Rattle.seq_turns.specs.declared.hand.FlushAt.{FlushAt}
use Rattle.seq_turns.specs.declared.hand.FlushAt.TheVariants as flush
use Rattle.seq_turns.specs.Machines.{Machine, Move, Turn, idles, copies_after}
use Rattle.seq_turns.specs.Machines.Turn.{Moves, Stops}
use Rattle.seq_io.specs.Changes.Change.{Unchanged}
use Rattle.seq_turns.specs.Reading.{context_of}
use Rattle.seq_turns.specs.Causes.{agree, follows, flushes, finds}
use Rattle.seq_turns.specs.Operations.{goes, sets, taken_up, claims, acquires, unit_count, flush_move}
use Rattle.seq_turns.proofs.Landed.{word_is, flush_turns_agree, claim_turns_agree, release_turns_agree}
use Rattle.seq_machine.specs.Here.{change_of, cache_after}
use Rattle.seq_machine.specs.Flushes.{flush_turn, is_commit, running_after, note_of}

-- a claim that is got found its copy free, and one that is refused found it taken
pub got_untaken : (s : Shape) (o : Copies) (c : Claim Shadow) (h : Held) → Got h ≡ (claim_shadow s o c).state → is_taken s o c.at true ≡ false
unfolding claim_shadow
got_untaken s o c h e = elim (cases_Bool (is_taken s o c.at true)) [
  | inl t ↦ let k = rw t at e in absurd (cc)
  | inr f ↦ f
]

pub refused_taken : (s : Shape) (o : Copies) (c : Claim Shadow) (v : ℕ) → Refused v ≡ (claim_shadow s o c).state → (is_taken s o c.at true ≡ true) × (v ≡ word_at o c.at true)
unfolding claim_shadow
refused_taken s o c v e = elim (cases_Bool (is_taken s o c.at true)) [
  | inl t ↦ let k = rw t at e in (t, let same : v ≡ word_at o c.at true = cc in same)
  | inr f ↦ let k = rw f at e in absurd (cc)
]

module _ (d : MachineDesc) (m : Machine) (p q : ℕ) (c : Claim Shadow) (s : Shape) (shape : s ≡ shape_of d) where
  got_free : (h : Held) → Got h ≡ (claim_shadow s m.copies c).state → is_taken (shape_of d) m.copies c.at true ≡ false
  got_free h e = subst (λ (x : Shape). is_taken x m.copies c.at true ≡ false) shape (got_untaken s m.copies c h e)

  refused_held : (v : ℕ) → Refused v ≡ (claim_shadow s m.copies c).state → is_taken (shape_of d) m.copies c.at true ≡ true
  refused_held v e = subst (λ (x : Shape). is_taken x m.copies c.at true ≡ true) shape (refused_taken s m.copies c v e).0

  -- the row of a process's claim
  pub claims_got : (h : Held) → Got h ≡ (claim_shadow s m.copies c).state → claims d m p q c ≡ record (goes m p (sets d m c.at true c.value) (taken_up d m q (end_of (context_of d m.copies q)))) { cache = record (m.cache p) { changes = [] } }
  claims_got h e = cond-false _ _ _ (got_free h e)

  pub claims_refused : (v : ℕ) → Refused v ≡ (claim_shadow s m.copies c).state → claims d m p q c ≡ goes m p Unchanged hand.Seek
  claims_refused v e = cond-true _ _ _ (refused_held v e)

  pub claims_copies : (claim_shadow s m.copies c).copies ≡ copies_after (claims d m p q c).change m.copies
  claims_copies = subst (λ (x : Shape). (claim_shadow x m.copies c).copies ≡ copies_after (claims d m p q c).change m.copies) (sym shape) ((claim_turns_agree d m p).claims q c)

-- each turn of a process's claim is noted as a move
pub claims_note : (d : MachineDesc) (m : Machine) (p q : ℕ) (c : Claim Shadow) → (claims d m p q c).note ≡ Moved
claims_note d m p q c = cond_both (is_taken (shape_of d) m.copies c.at true) (goes m p Unchanged hand.Seek)
    (record (goes m p (sets d m c.at true c.value) (taken_up d m q (end_of (context_of d m.copies q)))) { cache = record (m.cache p) { changes = [] } })
    (λ (x : Move). x.note ≡ Moved) (λ _. refl) (λ _. refl)

-- a cause that is found changes no memory
finds_copies : (d : MachineDesc) (m : Machine) (p : ℕ) (r : Running) (cache : Changes) (cause : Cause) (mask : ℕ) → copies_after (change_of (finds d m p r cache cause mask)) m.copies ≡ m.copies
finds_copies d m p r cache cause mask = cond_both (r.steps == 0) _ _ (λ (t : Turn). copies_after (change_of t) m.copies ≡ m.copies) (λ _. refl)
    (λ _. cond_both (agree r.pair) (Moves (record (idles m p) { hand = flushes m p r cause mask; cache = cache; note = Found r.pid cause })) Stops (λ (t : Turn). copies_after (change_of t) m.copies ≡ m.copies) (λ _. refl) (λ _. refl))

-- nor the cache
finds_cache : (d : MachineDesc) (m : Machine) (p : ℕ) (r : Running) (cache : Changes) (cause : Cause) (mask : ℕ) → cache_after cache (finds d m p r cache cause mask) ≡ cache
finds_cache d m p r cache cause mask = cond_both (r.steps == 0) _ _ (λ (t : Turn). cache_after cache t ≡ cache) (λ _. refl)
    (λ _. cond_both (agree r.pair) (Moves (record (idles m p) { hand = flushes m p r cause mask; cache = cache; note = Found r.pid cause })) Stops (λ (t : Turn). cache_after cache t ≡ cache) (λ _. refl) (λ _. refl))

pub acquires_cache : (d : MachineDesc) (m : Machine) (p : ℕ) (r : Running) (t : Seg) (c : Claim Shadow) → cache_after (m.cache p) (acquires d m p r t c) ≡ m.cache p
acquires_cache d m p r t c = cond_both (is_taken (shape_of d) m.copies c.at true) (finds d m p r (m.cache p) (Wait (Lock t (record { 0 = word_at m.copies c.at true - 1 }))) 0)
    (Moves (record (goes m p (sets d m c.at true c.value) (hand.Running (granted r t.0))) { note = Ran r.pid })) (λ (x : Turn). cache_after (m.cache p) x ≡ m.cache p)
    (λ _. finds_cache d m p r (m.cache p) (Wait (Lock t (record { 0 = word_at m.copies c.at true - 1 }))) 0) (λ _. refl)

-- the row of a lock's claim
module _ (d : MachineDesc) (m : Machine) (p : ℕ) (r : Running) (t : Seg) (c : Claim Shadow) (s : Shape) (shape : s ≡ shape_of d) where
  pub acquires_got : (h : Held) → Got h ≡ (claim_shadow s m.copies c).state → acquires d m p r t c ≡ Moves (record (goes m p (sets d m c.at true c.value) (hand.Running (granted r t.0))) { note = Ran r.pid })
  acquires_got h e = cond-false _ _ _ (got_free d m p 0 c s shape h e)

  pub acquires_refused : (v : ℕ) → Refused v ≡ (claim_shadow s m.copies c).state → acquires d m p r t c ≡ finds d m p r (m.cache p) (Wait (Lock t (record { 0 = word_at m.copies c.at true - 1 }))) 0
  acquires_refused v e = cond-true _ _ _ (refused_held d m p 0 c s shape v e)

  pub acquires_copies : (claim_shadow s m.copies c).copies ≡ copies_after (change_of (acquires d m p r t c)) m.copies
  unfolding claim_shadow
  acquires_copies = subst (λ (x : Shape). (claim_shadow x m.copies c).copies ≡ copies_after (change_of (acquires d m p r t c)) m.copies) (sym shape)
      (elim (cases_Bool (is_taken (shape_of d) m.copies c.at true)) [
        | inl taken ↦ rw taken (sym (finds_copies d m p r (m.cache p) (Wait (Lock t (record { 0 = word_at m.copies c.at true - 1 }))) 0))
        | inr free ↦ rw free (word_is d m.copies c.at.extent.0 c.at.word true c.value)
      ])

-- the rows of releases
pub released_shadow : (d : MachineDesc) (m : Machine) (l : Release Shadow) (s : Shape) → s ≡ shape_of d → (release_shadow s m.copies l).copies ≡ copies_after (sets d m l.at true 0) m.copies
released_shadow d m l s shape = subst (λ (x : Shape). (release_shadow x m.copies l).copies ≡ copies_after (sets d m l.at true 0) m.copies) (sym shape) ((release_turns_agree d m).shadow l)

pub released_primary : (d : MachineDesc) (m : Machine) (l : Release Primary) (s : Shape) → s ≡ shape_of d → (release_primary s m.copies l).copies ≡ copies_after (sets d m l.at false 0) m.copies
released_primary d m l s shape = subst (λ (x : Shape). (release_primary x m.copies l).copies ≡ copies_after (sets d m l.at false 0) m.copies) (sym shape) ((release_turns_agree d m).primary l)

-- the row of a flush
abbrev pub hand_after : MachineDesc → Running → Cause → ℕ → Bool → Option FlushAt → Hand
hand_after d r cause mask commits (Some at) = hand.Flushing (running_after commits r) cause mask at
hand_after d r cause mask commits None = follows d r cause mask

abbrev pub cache_then : Changes → Option FlushAt → Changes
cache_then cache (Some at) = cache
cache_then cache None = record cache { changes = [] }

module _ (d : MachineDesc) (m : Machine) (p : ℕ) (r : Running) (cause : Cause) (mask : ℕ) where
  hand_is : (at : FlushAt) → (flush_move d m p r cause mask at).hand ≡ hand_after d r cause mask (is_commit (m.cache p).changes at) (flush_turn (shape_of d) m.copies (m.cache p).changes at).step
  unfolding mark_turn first_turn second_turn close_turn
  hand_is (flush.Mark f) = elim (cases_Bool (f.cursor == 0)) [ inl t ↦ rw t refl | inr t ↦ rw t refl ]
  hand_is (flush.First f) = elim (cases_Bool (nat_le (unit_count m p f) f.cursor)) [ inl t ↦ rw t refl | inr t ↦ rw t refl ]
  hand_is (flush.Second f) = elim (cases_Bool (f.cursor == 0)) [
    | inl t ↦ rw t refl
    | inr t ↦ elim (cases_Bool (nat_le (unit_count m p f) f.cursor)) [ inl l ↦ rw (t, l) refl | inr l ↦ rw (t, l) refl ]
  ]
  hand_is (flush.Close f) = elim (cases_Bool (f.cursor == 0)) [ inl t ↦ rw t refl | inr t ↦ rw t refl ]

  cache_is : (at : FlushAt) → (flush_move d m p r cause mask at).cache ≡ cache_then (m.cache p) (flush_turn (shape_of d) m.copies (m.cache p).changes at).step
  unfolding mark_turn first_turn second_turn close_turn
  cache_is (flush.Mark f) = elim (cases_Bool (f.cursor == 0)) [ inl t ↦ rw t refl | inr t ↦ rw t refl ]
  cache_is (flush.First f) = elim (cases_Bool (nat_le (unit_count m p f) f.cursor)) [ inl t ↦ rw t refl | inr t ↦ rw t refl ]
  cache_is (flush.Second f) = elim (cases_Bool (f.cursor == 0)) [
    | inl t ↦ rw t refl
    | inr t ↦ elim (cases_Bool (nat_le (unit_count m p f) f.cursor)) [ inl l ↦ rw (t, l) refl | inr l ↦ rw (t, l) refl ]
  ]
  cache_is (flush.Close f) = elim (cases_Bool (f.cursor == 0)) [ inl t ↦ rw t refl | inr t ↦ rw t refl ]

  pub flush_note : (at : FlushAt) → (flush_move d m p r cause mask at).note ≡ note_of (is_commit (m.cache p).changes at) r
  flush_note (flush.Mark f) = elim (cases_Bool (f.cursor == 0)) [ inl t ↦ rw t refl | inr t ↦ rw t refl ]
  flush_note (flush.First f) = elim (cases_Bool (nat_le (unit_count m p f) f.cursor)) [ inl t ↦ rw t refl | inr t ↦ rw t refl ]
  flush_note (flush.Second f) = elim (cases_Bool (f.cursor == 0)) [ inl t ↦ rw t refl | inr t ↦ rw t refl ]
  flush_note (flush.Close f) = elim (cases_Bool (f.cursor == 0)) [ inl t ↦ rw t refl | inr t ↦ rw t refl ]

  copies_are : (at : FlushAt) → (flush_turn (shape_of d) m.copies (m.cache p).changes at).copies ≡ copies_after (flush_move d m p r cause mask at).change m.copies
  copies_are (flush.Mark f) = (flush_turns_agree d m p r cause mask).mark f
  copies_are (flush.First f) = (flush_turns_agree d m p r cause mask).first f
  copies_are (flush.Second f) = (flush_turns_agree d m p r cause mask).second f
  copies_are (flush.Close f) = (flush_turns_agree d m p r cause mask).close f

  -- the same with the shape of the description's machine
  module _ (s : Shape) (shape : s ≡ shape_of d) where
    pub flush_hand : (at : FlushAt) → (flush_move d m p r cause mask at).hand ≡ hand_after d r cause mask (is_commit (m.cache p).changes at) (flush_turn s m.copies (m.cache p).changes at).step
    flush_hand at = subst (λ (x : Shape). (flush_move d m p r cause mask at).hand ≡ hand_after d r cause mask (is_commit (m.cache p).changes at) (flush_turn x m.copies (m.cache p).changes at).step) (sym shape) (hand_is at)

    pub flush_cache : (at : FlushAt) → (flush_move d m p r cause mask at).cache ≡ cache_then (m.cache p) (flush_turn s m.copies (m.cache p).changes at).step
    flush_cache at = subst (λ (x : Shape). (flush_move d m p r cause mask at).cache ≡ cache_then (m.cache p) (flush_turn x m.copies (m.cache p).changes at).step) (sym shape) (cache_is at)

    pub flush_copies : (at : FlushAt) → (flush_turn s m.copies (m.cache p).changes at).copies ≡ copies_after (flush_move d m p r cause mask at).change m.copies
    flush_copies at = subst (λ (x : Shape). (flush_turn x m.copies (m.cache p).changes at).copies ≡ copies_after (flush_move d m p r cause mask at).change m.copies) (sym shape) (copies_are at)
