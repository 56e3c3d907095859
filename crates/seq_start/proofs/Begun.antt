-- The image of the flat start is written block after block, in the order of extents and of their blocks.
use Rattle.std.proofs.Common.{◌≡◌, ◌⊎◌, inl, inr, ℕ, ◌+◌, ◌*◌, ◌/◌, ◌<◌, ◌≤◌, Bool, true, false, List, zero-add, ◌==◌, ◌&&◌, ◌||◌, length, get_or, arith, refl, ap, sym, ◌∙◌, subst}
use Rattle.std.specs.Prelude.{nat_lt, count_ones}
use Rattle.std.proofs.lemmas.Bool.{cases_eq, cases_lt, lt-ltb, eq-eqb, ne_eqb, or_left, or_right, and_from, and_left, and_right, cond-true, cond-false, cond_both, or_cases, and_parts, ltb-true, eqb-true}
use Rattle.seq_words.specs.Blocks.{zero_block}
use Rattle.seq_words.specs.Description.{IsDescription, process_of, segment_of}
use Rattle.seq_words.specs.declared.block.Block.{Block}
use Rattle.seq_words.specs.declared.description.MachineDesc.{MachineDesc}
use Rattle.seq_words.specs.declared.description.ProcessDesc.{ProcessDesc}
use Rattle.seq_words.specs.declared.description.SegmentDesc.{SegmentDesc}
use Rattle.seq_layout.specs.Shapes.{Shape, process_blocks}
use Rattle.seq_layout.specs.Copies.{Copies, AreFresh, serves, with_block, block_written}
use Rattle.seq_kernel.specs.Views.{Blocks}
use Rattle.seq_layout.specs.Contexts.{context_blocks, blocks_of}
use Rattle.seq_layout.specs.declared.context.Context.{Context}
use Rattle.std.proofs.lemmas.List.{get_or_default}
use Rattle.seq_image.specs.Images.{block_of_bytes}
use Rattle.seq_image.specs.Begun.{start_context, IsStartImage}
use Rattle.seq_image.proofs.StartImages.{start_has_image}
use Rattle.seq_image.proofs.ImageSizes.{below_process_size, below_segment_size}
use Rattle.seq_start.specs.Begun.{start_image, up_to, Hold}

-- a block is before block k of extent e
abbrev Before : ℕ → ℕ → ℕ → ℕ → Type 0
Before e k e' n' = (e' < e) ⊎ ((e' ≡ e) × (n' < k))

decides : (e k e' n' : ℕ) → Before e k e' n' ⊎ (Before e k e' n' → ⊥)
decides e k e' n' = elim (cases_lt e' e) [
  | inl lt ↦ inl (inl lt)
  | inr ge ↦ elim (cases_eq e' e) [
    | inr ne ↦ inr (λ b. elim b [ inl lt ↦ omega (arith, lt, ge) | inr h ↦ ne h.0 ])
    | inl eq ↦ elim (cases_lt n' k) [
      | inl lt ↦ inl (inr (eq, lt))
      | inr past ↦ inr (λ b. elim b [ inl lt ↦ omega (arith, lt, ge) | inr h ↦ omega (arith, h.1, past) ])
    ]
  ]
]

up_to_in : (o : Blocks) (e k e' n' : ℕ) → Before e k e' n' → up_to o e k e' n' ≡ o e' n'
unfolding up_to
up_to_in o e k e' n' (inl lt) = cond-true _ _ _ (or_left _ _ (lt-ltb e' e lt))
up_to_in o e k e' n' (inr h) = cond-true _ _ _ (or_right _ _ (and_from _ _ (eq-eqb e' e h.0) (lt-ltb n' k h.1)))

up_to_out : (o : Blocks) (e k e' n' : ℕ) → (Before e k e' n' → ⊥) → up_to o e k e' n' ≡ zero_block
unfolding up_to
up_to_out o e k e' n' out = cond_both (nat_lt e' e || (e' == e && nat_lt n' k)) (o e' n') zero_block (λ (b : Block). b ≡ zero_block) (λ t. absurd (out (before t))) (λ f. refl)
  where
    before : (nat_lt e' e || (e' == e && nat_lt n' k)) ≡ true → Before e k e' n'
    before t = elim (or_cases _ _ t) [
      | inl lt ↦ inl (ltb-true e' e lt)
      | inr h ↦ inr (eqb-true e' e (and_parts _ _ h).0, ltb-true n' k (and_parts _ _ h).1)
    ]

-- blocks that are zero between two places are the same up to either
pub up_to_moved : (o : Blocks) (e k e2 k2 : ℕ) → ((e' n' : ℕ) → Before e k e' n' → Before e2 k2 e' n') → ((e' n' : ℕ) → Before e2 k2 e' n' → (Before e k e' n' → ⊥) → o e' n' ≡ zero_block) → (e' n' : ℕ) → up_to o e k e' n' ≡ up_to o e2 k2 e' n'
up_to_moved o e k e2 k2 more zero e' n' = elim (decides e k e' n') [
  | inl b ↦ up_to_in o e k e' n' b ∙ sym (up_to_in o e2 k2 e' n' (more e' n' b))
  | inr out ↦ elim (decides e2 k2 e' n') [
    | inl b ↦ up_to_out o e k e' n' out ∙ sym (up_to_in o e2 k2 e' n' b ∙ zero e' n' b out)
    | inr none ↦ up_to_out o e k e' n' out ∙ sym (up_to_out o e2 k2 e' n' none)
  ]
]

pub held_alike : (s : Shape) (p : Copies) (o o' : Blocks) → ((e n : ℕ) → o e n ≡ o' e n) → Hold s p o → Hold s p o'
held_alike s p o o' same h = record { state = h.state; served = h.served; word = h.word; block = λ e n c. h.block e n c ∙ same e n }

-- a block is written to both copies
module _ (s : Shape) (p : Copies) (o : Blocks) (e k : ℕ) (b : Block) (is : o e k ≡ b) (h : Hold s p (up_to o e k)) where
  abbrev first : Copies
  first = with_block p e k false b

  abbrev both : Copies
  both = with_block first e k true b

  first_is : block_written s p e k false b ≡ first
  unfolding block_written
  first_is = cond-true _ _ _ (h.served e false)

  both_is : block_written s first e k true b ≡ both
  unfolding block_written with_block
  both_is = cond-true _ _ _ (h.served e true)

  here : (c' : Bool) → both.block e k c' ≡ b
  unfolding with_block
  here true = cond-true _ _ _ (and_from _ _ (and_from _ _ (eq-eqb e e refl) (eq-eqb k k refl)) refl)
  here false = cond-false _ _ _ (and_right _ _ refl) ∙ cond-true _ _ _ (and_from _ _ (and_from _ _ (eq-eqb e e refl) (eq-eqb k k refl)) refl)

  elsewhere : (e' n' : ℕ) (c' : Bool) → ((e' == e) && (n' == k)) ≡ false → both.block e' n' c' ≡ p.block e' n' c'
  unfolding with_block
  elsewhere e' n' c' f = cond-false _ _ _ (and_left _ _ f) ∙ cond-false _ _ _ (and_left _ _ f)

  before_next : (e' n' : ℕ) → Before e k e' n' → Before e (k + 1) e' n'
  before_next e' n' (inl lt) = inl lt
  before_next e' n' (inr h) = inr (h.0, omega (arith, h.1))

  other_block : (e' n' : ℕ) (c' : Bool) → ((e' ≡ e) × (n' ≡ k) → ⊥) → ((e' == e) && (n' == k)) ≡ false → both.block e' n' c' ≡ up_to o e (k + 1) e' n'
  other_block e' n' c' other f = elsewhere e' n' c' f ∙ h.block e' n' c' ∙ (elim (decides e k e' n') [
    | inl b ↦ up_to_in o e k e' n' b ∙ sym (up_to_in o e (k + 1) e' n' (before_next e' n' b))
    | inr out ↦ up_to_out o e k e' n' out ∙ sym (up_to_out o e (k + 1) e' n' (still out))
  ])
    where
      still : (Before e k e' n' → ⊥) → Before e (k + 1) e' n' → ⊥
      still out (inl lt) = out (inl lt)
      still out (inr w) = elim (cases_eq n' k) [ inl eq ↦ other (w.0, eq) | inr ne ↦ out (inr (w.0, omega (arith, w.1, ne))) ]

  block_is : (e' n' : ℕ) (c' : Bool) → both.block e' n' c' ≡ up_to o e (k + 1) e' n'
  block_is e' n' c' = elim (cases_eq e' e) [
    | inr ne ↦ other_block e' n' c' (λ w. ne w.0) (and_left _ _ (ne_eqb e' e ne))
    | inl eq ↦ elim (cases_eq n' k) [
      | inr ne ↦ other_block e' n' c' (λ w. ne w.1) (and_right _ _ (ne_eqb n' k ne))
      | inl at ↦
          let P : ℕ → ℕ → Type 0 = λ x y. both.block x y c' ≡ up_to o e (k + 1) x y in
          subst (λ x. P x n') (sym eq) (subst (P e) (sym at) (here c' ∙ sym is ∙ sym (up_to_in o e (k + 1) e k (inr (refl, omega arith)))))
    ]
  ]

  both_hold_here : Hold s both (up_to o e (k + 1))
  unfolding with_block
  both_hold_here = record { state = h.state; served = h.served; word = h.word; block = block_is }

pub both_hold : (s : Shape) (p p1 p2 : Copies) (o : Blocks) (e k : ℕ) (b : Block) → p1 ≡ block_written s p e k false b → p2 ≡ block_written s p1 e k true b → o e k ≡ b → Hold s p (up_to o e k) → Hold s p2 (up_to o e (k + 1))
both_hold s p p1 p2 o e k b one two is h =
    let at_first = one ∙ first_is s p o e k b is h in
    let at_both = two ∙ ap (λ (q : Copies). block_written s q e k true b) at_first ∙ both_is s p o e k b is h in
    let P : Copies → Type 0 = λ q. Hold s q (up_to o e (k + 1)) in
    subst P (sym at_both) (both_hold_here s p o e k b is h)

-- fresh memories hold nothing yet
pub fresh_hold : (s : Shape) (p : Copies) (o : Blocks) → AreFresh s p → ((e : ℕ) (c : Bool) → serves s p e c ≡ true) → Hold s p (up_to o 0 0)
fresh_hold s p o fresh served = record { state = fresh.state; served = served; word = fresh.word; block = λ e n c. fresh.block e n c ∙ sym (up_to_out o 0 0 e n none) }
  where
    none : {e n : ℕ} → Before 0 0 e n → ⊥
    none {e} {n} (inl lt) = omega (arith, lt)
    none {e} {n} (inr h) = omega (arith, h.1)

-- What is told by the start's image: the places between two of these have zeros.
module _ (d : MachineDesc) (described : IsDescription d) (s : Shape) (p : Copies) where
  begun : IsStartImage d (start_image d)
  begun = (start_has_image d described).0

  -- the outboxes are passed over
  pub past_outboxes : (q : ℕ) → q < length d.processes → Hold s p (up_to (start_image d) q 8) → Hold s p (up_to (start_image d) q (8 + 8 * count_ones (process_of d q).lines))
  past_outboxes q there = held_alike s p _ _ (up_to_moved (start_image d) q 8 q (8 + 8 * count_ones (process_of d q).lines) more zero)
    where
      more : (e n : ℕ) → Before q 8 e n → Before q (8 + 8 * count_ones (process_of d q).lines) e n
      more e n (inl lt) = inl lt
      more e n (inr h) = inr (h.0, omega (arith, h.1))

      zero : (e n : ℕ) → Before q (8 + 8 * count_ones (process_of d q).lines) e n → (Before q 8 e n → ⊥) → start_image d e n ≡ zero_block
      zero e n (inl lt) out = absurd (out (inl lt))
      zero e n (inr h) out = elim (cases_lt n 8) [
        | inl lt ↦ absurd (out (inr (h.0, lt)))
        | inr past ↦ subst (λ e. start_image d e n ≡ zero_block) (sym h.0) (begun.outboxes q n there past h.1)
      ]

  -- an extent is done
  past_extent : (e size : ℕ) → ((n : ℕ) → size ≤ n → start_image d e n ≡ zero_block) → Hold s p (up_to (start_image d) e size) → Hold s p (up_to (start_image d) (e + 1) 0)
  past_extent e size none = held_alike s p _ _ (up_to_moved (start_image d) e size (e + 1) 0 more zero)
    where
      more : (e' n : ℕ) → Before e size e' n → Before (e + 1) 0 e' n
      more e' n (inl lt) = inl (omega (arith, lt))
      more e' n (inr h) = inl (omega (arith, h.0))

      zero : (e' n : ℕ) → Before (e + 1) 0 e' n → (Before e size e' n → ⊥) → start_image d e' n ≡ zero_block
      zero e' n (inr h) out = absurd (omega (arith, h.1))
      zero e' n (inl lt) out = elim (cases_eq e' e) [
        | inr ne ↦ absurd (out (inl (omega (arith, lt, ne))))
        | inl eq ↦ elim (cases_lt n size) [
          | inl small ↦ absurd (out (inr (eq, small)))
          | inr past ↦ subst (λ x. start_image d x n ≡ zero_block) (sym eq) (none n past)
        ]
      ]

  pub past_process : (q size : ℕ) → q < length d.processes → size ≡ process_blocks (process_of d q) → Hold s p (up_to (start_image d) q size) → Hold s p (up_to (start_image d) (q + 1) 0)
  past_process q size there is = past_extent q size (λ n past. begun.nowhere q n (λ placed. omega (arith, past, is, below_process_size d q n there placed)))

  pub past_segment : (t size : ℕ) → t < length d.segments → size ≡ (segment_of d t).size / 32 → Hold s p (up_to (start_image d) (length d.processes + t) size) → Hold s p (up_to (start_image d) (length d.processes + t + 1) 0)
  past_segment t size there is = past_extent (length d.processes + t) size (λ n past. begun.nowhere (length d.processes + t) n (λ placed. omega (arith, past, is, below_segment_size d t n there placed)))

  -- no block of lines is changed
  pub all_hold : Hold s p (up_to (start_image d) (length d.processes + length d.segments) 0) → Hold s p (start_image d)
  all_hold = held_alike s p _ _ same
    where
      same : (e n : ℕ) → up_to (start_image d) (length d.processes + length d.segments) 0 e n ≡ start_image d e n
      same e n = elim (cases_lt e (length d.processes + length d.segments)) [
        | inl lt ↦ up_to_in (start_image d) (length d.processes + length d.segments) 0 e n (inl lt)
        | inr past ↦ up_to_out (start_image d) (length d.processes + length d.segments) 0 e n (out past) ∙ sym (begun.lines e n past)
      ]
        where
          out : length d.processes + length d.segments ≤ e → Before (length d.processes + length d.segments) 0 e n → ⊥
          out past (inl lt) = omega (arith, past, lt)
          out past (inr h) = omega (arith, h.1)

-- what is written of a process
pub process_put : (d : MachineDesc) (s : Shape) (p p1 p2 : Copies) (q e : ℕ) (process : ProcessDesc) (bytes : List ℕ) → IsDescription d → q < length d.processes → process_of d q ≡ process → e ≡ q → bytes ≡ process.image →
    ((o : Blocks) → ((k : ℕ) → k < 8 → o e k ≡ get_or (context_blocks (start_context process)) k zero_block) → Hold s p (up_to o e 0) → Hold s p1 (up_to o e 8)) →
    ((o : Blocks) → ((i : ℕ) → i < process.size / 32 → o e (8 + 8 * count_ones process.lines + i) ≡ block_of_bytes bytes i) → Hold s p1 (up_to o e (8 + 8 * count_ones process.lines)) → Hold s p2 (up_to o e (8 + 8 * count_ones process.lines + process.size / 32))) →
    Hold s p (up_to (start_image d) q 0) → Hold s p2 (up_to (start_image d) (q + 1) 0)
process_put d s p p1 p2 q e process bytes described there is at image = rw (at, image, ← is) at_itself
  where
    begun_here : IsStartImage d (start_image d)
    begun_here = (start_has_image d described).0

    at_itself :
        ((o : Blocks) → ((k : ℕ) → k < 8 → o q k ≡ get_or (context_blocks (start_context (process_of d q))) k zero_block) → Hold s p (up_to o q 0) → Hold s p1 (up_to o q 8)) →
        ((o : Blocks) → ((i : ℕ) → i < (process_of d q).size / 32 → o q (8 + 8 * count_ones (process_of d q).lines + i) ≡ block_of_bytes (process_of d q).image i) → Hold s p1 (up_to o q (8 + 8 * count_ones (process_of d q).lines)) → Hold s p2 (up_to o q (8 + 8 * count_ones (process_of d q).lines + (process_of d q).size / 32))) →
        Hold s p (up_to (start_image d) q 0) → Hold s p2 (up_to (start_image d) (q + 1) 0)
    at_itself one two h =
        let context = one (start_image d) (λ k lt. begun_here.context q k there lt) h in
        let bytes = two (start_image d) (λ i lt. begun_here.private q i there lt) (past_outboxes d described s p1 q there context) in
        past_process d described s p2 q (8 + 8 * count_ones (process_of d q).lines + (process_of d q).size / 32) there refl bytes

-- what is written of a segment
pub segment_put : (d : MachineDesc) (s : Shape) (p p1 : Copies) (n t e : ℕ) (segment : SegmentDesc) (bytes : List ℕ) → IsDescription d → n ≡ length d.processes → t < length d.segments → segment_of d t ≡ segment → e ≡ n + t → bytes ≡ segment.first →
    ((o : Blocks) → ((i : ℕ) → i < segment.size / 32 → o e (0 + i) ≡ block_of_bytes bytes i) → Hold s p (up_to o e 0) → Hold s p1 (up_to o e (0 + segment.size / 32))) →
    Hold s p (up_to (start_image d) (n + t) 0) → Hold s p1 (up_to (start_image d) (n + t + 1) 0)
segment_put d s p p1 n t e segment bytes described many there is at first = rw (at, first, many, ← is) at_itself
  where
    begun_here : IsStartImage d (start_image d)
    begun_here = (start_has_image d described).0

    at_itself :
        ((o : Blocks) → ((i : ℕ) → i < (segment_of d t).size / 32 → o (length d.processes + t) (0 + i) ≡ block_of_bytes (segment_of d t).first i) → Hold s p (up_to o (length d.processes + t) 0) → Hold s p1 (up_to o (length d.processes + t) (0 + (segment_of d t).size / 32))) →
        Hold s p (up_to (start_image d) (length d.processes + t) 0) → Hold s p1 (up_to (start_image d) (length d.processes + t + 1) 0)
    at_itself one h =
        let bytes = one (start_image d) (λ i lt. ap (start_image d (length d.processes + t)) (zero-add i) ∙ begun_here.segment t i there lt) h in
        past_segment d described s p1 t (0 + (segment_of d t).size / 32) there (zero-add ((segment_of d t).size / 32)) bytes

-- block k of a context, read in a list of blocks that are the context's
pub context_block_at : (blocks : List Block) (c : Context) (k : ℕ) (none b : Block) → blocks ≡ context_blocks c → k < 8 → b ≡ get_or (context_blocks c) k zero_block → b ≡ get_or blocks k none
unfolding context_blocks blocks_of
context_block_at blocks c k none b is lt at = at ∙ get_or_default (context_blocks c) k zero_block none lt ∙ ap (λ (x : List Block). get_or x k none) (sym is)
