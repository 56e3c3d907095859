-- What a flush writes of a context fits, and so does what a processor takes up of one.
use Rattle.std.proofs.Common.{◌≡◌, ℕ, ◌+◌, ◌*◌, ◌/◌, ◌%◌, ◌^◌, ◌<◌, ◌≤◌, true, false, ◌==◌, Option, Some, None, [], List, length, get_or, map, arith, refl, sym, ◌∙◌, ap, subst, inl, inr}
use Rattle.std.specs.List.{range_with_len}
use Rattle.std.specs.Prelude.{slice_index, slice_index_or}
use Rattle.std.proofs.lemmas.Bool.{cases_lt, cond_both, false_from_ne_true, eqb-true, eqb-false}
use Rattle.std.proofs.lemmas.List.{get_or_past}
use Rattle.std.proofs.lemmas.List.FromFn.{get_or-map-range_with_len, length-map-range_with_len}
use Rattle.seq_words.specs.Masks.{has_bit}
use Rattle.seq_words.specs.Blocks.{zero_block}
use Rattle.seq_words.specs.Description.{IsDescription}
use Rattle.seq_words.specs.declared.block.Block.{Block}
use Rattle.seq_words.specs.declared.half.Half.{Half}
use Rattle.seq_words.specs.declared.half.Half.TheVariants.{A, B}
use Rattle.seq_words.specs.declared.names.Pid.{Pid}
use Rattle.seq_words.specs.declared.description.MachineDesc.{MachineDesc}
use Rattle.seq_flat.specs.declared.state.End.{End}
use Rattle.seq_flat.specs.declared.state.End.TheVariants.{Live, Exited, Trapped}
use Rattle.seq_pair.specs.Turns.{IsAligned}
use Rattle.seq_layout.specs.Shapes.{shape_of}
use Rattle.seq_layout.specs.Copies.{Copies, first_block, first_copy}
use Rattle.seq_layout.specs.Contexts.{number_at, context_blocks, context_in, IsContext, HasLengths, AreParts}
use Rattle.seq_layout.specs.declared.context.Context.{Context}
use Rattle.seq_layout.proofs.ContextsRead.{parts_are_numbered, contexts_stay_inside, context_blocks_are_whole}
use Rattle.seq_process.specs.declared.running.Running.{Running}
use Rattle.seq_process.specs.Contexts.{started, saved, end_of, end_kind, end_value, end_pc}
use Rattle.seq_kernel.specs.Kept.{IsZero, ZerosOf}
use Rattle.seq_kernel.proofs.RefineCallsBits.{zero_from_bits, bit_above}
use Rattle.seq_turns.specs.Reading.{context_of}
use Rattle.seq_stands.specs.FitBlocks.{ContextNumbersFit, ContextBlockFits, ContextBlocksFit, BlocksFit}
use Rattle.seq_stands.specs.FitContexts.{ContextFits}
use Rattle.seq_stands.specs.FitHands.{ProcessFits}
use Rattle.seq_stands.specs.Fit.{EndFits, RunningFits}
use Rattle.seq_stands.proofs.FitBlocks.{blocks_fit, block_fits}

-- a mask of sixteen segments at most is below 2 ^ 16
mask_small : (mask : ℕ) → ((t : ℕ) → has_bit mask t ≡ true → t < 16) → mask < 2 ^ 16
mask_small mask few =
    let none : mask / 2 ^ 16 ≡ 0 = zero_from_bits (mask / 2 ^ 16) (λ i. false_from_ne_true (has_bit (mask / 2 ^ 16) i) (λ h.
    let lt : 16 + i < 16 = few (16 + i) (sym (bit_above mask 16 i) ∙ h) in absurd (omega (arith, lt)))) in
    omega (arith, none)

kind_few : (e : End) → end_kind e ≤ 2
kind_few Live = omega arith
kind_few (Exited code) = omega arith
kind_few (Trapped cause pc) = omega arith

live_value : (e : End) → end_kind e ≡ 0 → end_value e ≡ 0
live_value Live is = refl
live_value (Exited code) is = absurd (let c : ⊥ = omega (arith, is) in c)
live_value (Trapped cause pc) is = absurd (let c : ⊥ = omega (arith, is) in c)

untrapped : (e : End) → end_kind e < 2 → end_pc e ≡ 0
untrapped Live is = refl
untrapped (Exited code) is = refl
untrapped (Trapped cause pc) is = absurd (let c : ⊥ = omega (arith, is) in c)

trap_cause : (e : End) → EndFits e → end_kind e ≡ 2 → end_value e ≤ 255
trap_cause Live fits is = absurd (let c : ⊥ = omega (arith, is) in c)
trap_cause (Exited code) fits is = absurd (let c : ⊥ = omega (arith, is) in c)
trap_cause (Trapped cause pc) fits is = fits

-- the context that a flush writes, where the halves agree
module _ (d : MachineDesc) (described : IsDescription d) (r : Running) (fits : ProcessFits d r) (is : RunningFits r) (equal : r.pair.a ≡ r.pair.b) where
  zero_of : (h : Option Half) → ZerosOf h r.pair.a r.pair.b → IsZero r.pair.a
  zero_of None z = z.0
  zero_of (Some A) z = subst IsZero (sym equal) z
  zero_of (Some B) z = z

  aligned_of : (h : Option Half) → IsAligned h r.pair.a r.pair.b → r.pair.a.pc % 4 ≡ 0
  aligned_of None z = z.0
  aligned_of (Some A) z = subst (λ x. x.pc % 4 ≡ 0) (sym equal) z
  aligned_of (Some B) z = z

  lengths : HasLengths (saved r r.pair.a)
  lengths = record { registers = is.whole.first; reads = is.whole.reads; writes = is.whole.writes }

  inside : IsContext (saved r r.pair.a)
  inside = record {
    zero = zero_of r.pair.struck fits.zeros;
    aligned = aligned_of r.pair.struck fits.within.aligned;
    end = kind_few r.end;
    live = live_value r.end;
    trapped = untrapped r.end;
  }

  parts : AreParts (number_at (context_blocks (saved r r.pair.a))) (saved r r.pair.a)
  parts = parts_are_numbered (saved r r.pair.a) lengths

  numbers_fit : ContextNumbersFit d (number_at (context_blocks (saved r r.pair.a)))
  numbers_fit = record {
    inside = contexts_stay_inside (saved r r.pair.a) lengths (mask_small r.held (λ t b. let few = fits.within.held t b in omega (arith, few, described.segments))) inside;
    held = λ t b. fits.within.held t (ap (λ x. has_bit x t) (sym parts.held) ∙ b);
    cause = λ e. subst (λ x. x ≤ 255) (sym parts.value) (trap_cause r.end is.end (sym parts.end ∙ e));
    reads = λ k below. subst (λ x. x ≤ d.journal) (sym (parts.read k below)) (fits.within.reads k);
    writes = λ k below. subst (λ x. x ≤ 1048576) (sym (parts.written k below)) (fits.within.writes k);
  }

  pub saved_fits : ContextBlocksFit d (context_blocks (saved r r.pair.a))
  saved_fits = record {
    whole = λ k below. context_blocks_are_whole (saved r r.pair.a) k below;
    fit = λ k below. block_fits d (context_blocks (saved r r.pair.a)) numbers_fit k;
  }

-- four numbers that are bounded, and no more
four_bounded : (f : ℕ → ℕ) (most : ℕ) → ((k : ℕ) → k < 4 → f k ≤ most) → (i : ℕ) → slice_index (map f (range_with_len 0 4)) i ≤ most
four_bounded f most each i = elim (cases_lt i 4) [
  | inl below ↦ subst (λ x. x ≤ most) (sym (get_or-map-range_with_len f 0 4 i i 0 below (omega arith))) (each i below)
  | inr past ↦ subst (λ x. x ≤ most) (sym (get_or_past (map f (range_with_len 0 4)) i 0 (let c : length (map f (range_with_len 0 4)) ≤ i = omega (arith, past, length-map-range_with_len f 0 4) in c))) (let c : 0 ≤ most = omega arith in c)
]

-- the context that stands at the first copy of a process
module _ (d : MachineDesc) (p : Copies) (q : ℕ) (fit : BlocksFit d p) (there : q < length d.processes) where
  abbrev pub blocks : List Block
  blocks = map (first_block (shape_of d) p q) (range_with_len 0 8)

  each_fits : (k : ℕ) → k < 8 → ContextBlockFits d k (slice_index_or blocks k zero_block)
  each_fits k below = subst (ContextBlockFits d k) (sym (get_or-map-range_with_len (first_block (shape_of d) p q) 0 8 k k zero_block below (omega arith))) (fit.contexts q k (first_copy (shape_of d) p q) there below)

  pub first_fits : ContextNumbersFit d (number_at blocks)
  first_fits = blocks_fit d blocks each_fits

  pub context_fits : ContextFits d (context_of d p q)
  unfolding context_of
  context_fits = record {
    inside = record {
      zero = get_or-map-range_with_len (number_at blocks) 0 32 0 0 0 (omega arith) refl ∙ first_fits.inside.zero;
      aligned = first_fits.inside.aligned;
      end = first_fits.inside.end;
      live = first_fits.inside.live;
      trapped = first_fits.inside.trapped;
    };
    held = first_fits.held;
    reads = four_bounded (λ k. number_at blocks (40 + 2 * k)) d.journal first_fits.reads;
    writes = four_bounded (λ k. number_at blocks (41 + 2 * k)) 1048576 first_fits.writes;
  }

  pub context_cause : (context_of d p q).end ≡ 2 → (context_of d p q).value ≤ 255
  unfolding context_of
  context_cause e = first_fits.cause e

  end_few : (context_of d p q).end ≤ 2
  end_few = context_fits.inside.end

  end_fits : EndFits (end_of (context_of d p q))
  end_fits =
      cond_both ((context_of d p q).end == 0) Live _ EndFits (λ _. tt) (λ f.
      cond_both ((context_of d p q).end == 1) (Exited (context_of d p q).value) (Trapped (context_of d p q).value (context_of d p q).end_pc) EndFits (λ _. tt) (λ g.
      context_cause (let a = eqb-false (context_of d p q).end 0 f in let b = eqb-false (context_of d p q).end 1 g in omega (arith, end_few, a, b))))

  pub context_lengths : HasLengths (context_of d p q)
  unfolding context_of
  context_lengths = record {
    registers = length-map-range_with_len (number_at blocks) 0 32;
    reads = length-map-range_with_len (λ k. number_at blocks (40 + 2 * k)) 0 4;
    writes = length-map-range_with_len (λ k. number_at blocks (41 + 2 * k)) 0 4;
  }

  -- a process that is taken up from it
  pub started_fits : (pid : Pid) → RunningFits (started pid (context_of d p q))
  started_fits pid = record {
    whole = record { first = context_lengths.registers; second = context_lengths.registers; reads = context_lengths.reads; writes = context_lengths.writes };
    end = end_fits;
  }

  pub started_within : ProcessFits d (started (record { 0 = q }) (context_of d p q))
  started_within = record {
    within = record {
      process = there;
      aligned = (context_fits.inside.aligned, context_fits.inside.aligned);
      held = context_fits.held;
      positions = record { reads = context_lengths.reads; writes = context_lengths.writes };
      reads = context_fits.reads;
      writes = context_fits.writes;
      steps = omega arith;
      used = omega arith;
    };
    zeros = (context_fits.inside.zero, context_fits.inside.zero);
  }
