-- The context of an image is inside the format, and is the only one of its blocks.
use Rattle.std.proofs.Common.{◌≡◌, ℕ, ◌*◌, ◌^◌, ◌<◌, ◌≤◌, length, get_or, arith, refl, sym}
use Rattle.std.proofs.lemmas.List.FromFn.{fill_by_all, length-map-range_with_len}
use Rattle.std.proofs.Math.Nat.{pow-le-pow_right}
use Rattle.seq_words.specs.Blocks.{zero_block}
use Rattle.seq_words.specs.Description.{IsDescription}
use Rattle.seq_words.specs.declared.description.MachineDesc.{MachineDesc}
use Rattle.seq_flat.specs.declared.state.End.{End}
use Rattle.seq_flat.specs.declared.state.End.TheVariants.{Live, Exited, Trapped}
use Rattle.seq_flat.specs.declared.state.FlatState.{FlatState}
use Rattle.seq_flat.specs.State.{process_at}
use Rattle.seq_layout.specs.Contexts.{block_from, blocks_of, numbers_of, context_blocks, IsContext, IsContextBlocks}
use Rattle.seq_layout.specs.declared.context.Context.{Context}
use Rattle.seq_layout.proofs.Contexts.{inside, one}
use Rattle.seq_process.specs.Contexts.{end_of, end_kind, end_value, end_pc}
use Rattle.seq_kernel.specs.Views.{Blocks}
use Rattle.seq_image.specs.Images.{held_among, context_of}
use Rattle.seq_flat.specs.Reached.{has_cause, IsReached}
use Rattle.seq_image.specs.Starting.{context_read, HasLengths}
use Rattle.seq_image.proofs.HeldMasks.{held_small}

-- the three numbers of an end
end_back : (regs_held : Context) (e : End) → end_of (record regs_held { end = end_kind e; value = end_value e; end_pc = end_pc e }) ≡ e
end_back c Live = refl
end_back c (Exited code) = refl
end_back c (Trapped cause pc) = refl

kind_few : (e : End) → end_kind e ≤ 2
kind_few Live = omega arith
kind_few (Exited code) = omega arith
kind_few (Trapped cause pc) = omega arith

live_value : (e : End) → end_kind e ≡ 0 → end_value e ≡ 0
live_value Live is = refl
live_value (Exited code) is = absurd (omega arith)
live_value (Trapped cause pc) is = absurd (omega arith)

trap_pc : (e : End) → end_kind e < 2 → end_pc e ≡ 0
trap_pc Live lt = refl
trap_pc (Exited code) lt = refl
trap_pc (Trapped cause pc) lt = absurd (omega arith)

trap_cause : (e : End) → has_cause e → end_kind e ≡ 2 → end_value e ≤ 255
trap_cause Live has is = absurd (omega arith)
trap_cause (Exited code) has is = absurd (omega arith)
trap_cause (Trapped cause pc) has is = omega (arith, has)

eight : (c : Context) → length (context_blocks c) ≡ 8
unfolding context_blocks blocks_of
eight c = length-map-range_with_len (λ k. block_from (numbers_of c) (8 * k)) 0 8

-- eight blocks that are those of a context, one by one
pub blocks_read : (o : Blocks) (q : ℕ) (c : Context) → ((n : ℕ) → n < 8 → o q n ≡ get_or (context_blocks c) n zero_block) → context_read o q ≡ context_blocks c
blocks_read o q c each = sym (fill_by_all (λ k. o q k) (context_blocks c) 8 zero_block (eight c) (λ k lt. sym (each k lt)))

module _ (d : MachineDesc) (f : FlatState) (q commits : ℕ) (described : IsDescription d) (reached : IsReached d f) where
  pub is_context : IsContext (context_of d f q commits)
  is_context =
      let process = reached.process q in
      record {
        zero = process.zero;
        aligned = process.aligned;
        end = kind_few (process_at f q).end;
        live = live_value (process_at f q).end;
        trapped = trap_pc (process_at f q).end;
      }

  pub has_lengths : HasLengths (context_of d f q commits)
  has_lengths = record { registers = (reached.process q).registers; reads = refl; writes = refl }

  held_few : held_among q f.segments < 2 ^ 16
  held_few =
      let few : length f.segments ≤ 16 = omega (arith, reached.flat.segments, described.segments) in
      let most : 2 ^ length f.segments ≤ 2 ^ 16 = pow-le-pow_right {n = 2} (omega arith) few in
      omega (arith, held_small q f.segments)

  pub is_inside : IsContextBlocks (context_blocks (context_of d f q commits))
  unfolding context_blocks
  is_inside = inside (context_of d f q commits) (reached.process q).registers held_few is_context

  pub only_context : (c : Context) → HasLengths c → context_blocks c ≡ context_blocks (context_of d f q commits) → c ≡ context_of d f q commits
  only_context c has same = one c (context_of d f q commits) has.registers (reached.process q).registers has.reads refl has.writes refl same

  pub cause_fits : end_kind (process_at f q).end ≡ 2 → end_value (process_at f q).end ≤ 255
  cause_fits is = trap_cause (process_at f q).end (reached.process q).cause is

  pub end_is : end_of (context_of d f q commits) ≡ (process_at f q).end
  end_is = end_back (context_of d f q commits) (process_at f q).end
