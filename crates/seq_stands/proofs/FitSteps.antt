-- A step keeps registers, ends and changed blocks within their bounds.
use Rattle.std.proofs.Common.{◌≡◌, ℕ, ◌+◌, ◌-◌, ◌/◌, ◌%◌, ◌^◌, ◌<◌, ◌≤◌, Bool, true, false, not, ◌&&◌, ◌==◌, nat_lt, All, List, [], ◌∷◌, Option, Some, None, length, arith, refl, sym, ◌∙◌, ap, subst, length-set}
use Rattle.std.specs.Prelude.{slice_index, slice_set, unwrap_or, map}
use Rattle.std.specs.List.{range_with_len}
use Rattle.std.proofs.lemmas.Bool.{cond_both}
use Rattle.std.proofs.lemmas.List.Elements.{All-head, All-tail}
use Rattle.std.proofs.lemmas.List.FromFn.{length-map-range_with_len}
use Rattle.seq_words.specs.Masks.{has_bit}
use Rattle.seq_words.specs.Description.{process_of}
use Rattle.seq_words.specs.declared.block.Block.{Block}
use Rattle.seq_words.specs.declared.regs.Regs.{Regs}
use Rattle.seq_words.specs.declared.half.Half.{Half}
use Rattle.seq_words.specs.declared.description.MachineDesc.{MachineDesc}
use Rattle.seq_isa.specs.Meaning.{register, registers_after}
use Rattle.seq_flat.specs.declared.state.End.{End}
use Rattle.seq_flat.specs.declared.state.End.TheVariants.{Exited, Trapped}
use Rattle.seq_flat.specs.Memory.{bytes_from}
use Rattle.seq_flat.specs.Calls.{minus}
use Rattle.seq_rv32.specs.ByteMemory.{bytes_stored}
use Rattle.seq_rv32.specs.declared.effects.Effect.{Effect}
use Rattle.seq_rv32.specs.declared.effects.Effect.TheVariants as effect
use Rattle.seq_rv32.proofs.Numbers.{bytes_stored_length}
use Rattle.seq_rv32.proofs.Outcomes.{cause_few}
use Rattle.seq_pair.specs.declared.halves.Turn.{Turn}
use Rattle.seq_pair.specs.declared.halves.Turn.TheVariants as turn
use Rattle.seq_pair.specs.Turns.{unstruck}
use Rattle.seq_layout.specs.declared.extents.Extent.{Extent}
use Rattle.seq_layout.specs.Shapes.{Shape, shape_of}
use Rattle.seq_layout.specs.Copies.{Copies, first_copy}
use Rattle.seq_process.specs.declared.running.Running.{Running}
use Rattle.seq_process.specs.Contexts.{IsWhole}
use Rattle.seq_segments.specs.Map.{mapped}
use Rattle.seq_cache.specs.declared.change.Change.{Change}
use Rattle.seq_cache.specs.Changes.{Changes, changed, with_change}
use Rattle.seq_cache.specs.Overlay.{overlay}
use Rattle.seq_cache.proofs.Puts.{All-put}
use Rattle.seq_kernel.specs.declared.outcomes.Outcome.{Outcome}
use Rattle.seq_kernel.specs.declared.outcomes.Outcome.TheVariants.{Done, Claim, NeedsFlush, Waits, Diverged}
use Rattle.seq_kernel.specs.declared.outcomes.Cause.TheVariants as cause
use Rattle.seq_kernel.specs.declared.outcomes.Reason.TheVariants as reason
use Rattle.seq_kernel.specs.Views.{Blocks, read_by, seen, admission, block_stored, stored_at, stored, with_store}
use Rattle.seq_kernel.specs.Outboxes.{outbox_block, filled_block, filled_byte, touched, needed, blocks_filled, outbox_filled}
use Rattle.seq_kernel.specs.Turns.{Turned, stays, counted, answered, ended}
use Rattle.seq_kernel.specs.Calls.{answers, lines_of, line_index, line_word, journal_byte, acquire, release, read_next, read, put_out, written, write, numbered, agree_on_call, call_of, granted}
use Rattle.seq_kernel.specs.Steps.{after_effect, after_turn, pair_turn, step_of}
use Rattle.seq_kernel.proofs.RefineStepsPair.{agrees, agreed_traps}
use Rattle.seq_stands.specs.FitBlocks.{IsWholeBlock, AreWhole}
use Rattle.seq_stands.specs.Fit.{EndFits, RunningFits}

-- a changed block, or else this one
changed_whole : (cs : List Change) (e n : ℕ) (b : Block) → AreWhole cs → IsWholeBlock b → IsWholeBlock (unwrap_or (changed cs e n) b)
unfolding changed
changed_whole [] e n b all is = is
changed_whole (c ∷ cs) e n b all is =
    cond_both (c.extent.0 == e && c.place == n) (Some c.block) (changed cs e n) (λ (o : Option Block). IsWholeBlock (unwrap_or o b))
    (λ _. All-head (λ x. IsWholeBlock x.block) c cs all) (λ _. changed_whole cs e n b (All-tail (λ x. IsWholeBlock x.block) c cs all) is)

-- what a processor reads
read_whole : (s : Shape) (p : Copies) (cs : List Change) → ((e n : ℕ) (c : Bool) → IsWholeBlock (p.block e n c)) → AreWhole cs → (e n : ℕ) → IsWholeBlock (overlay s p cs e n)
unfolding overlay
read_whole s p cs whole all e n = changed_whole cs e n (p.block e n (first_copy s p e)) all (whole e n (first_copy s p e))

put_whole : (c : Changes) (e n : ℕ) (b : Block) → IsWholeBlock b → AreWhole c.changes → AreWhole (with_change c e n b).changes
put_whole c e n b is all = All-put (λ x. IsWholeBlock x.block) c.changes e n b is all

-- the store of an instruction
at_whole : (o : Blocks) (c : Changes) (at : Option (Extent × ℕ)) (width value : ℕ) → ((e n : ℕ) → IsWholeBlock (o e n)) → AreWhole c.changes → AreWhole (stored_at o c at width value).changes
at_whole o c (Some at) width value whole all =
    put_whole c at.0.0 (at.1 / 32) (block_stored (o at.0.0 (at.1 / 32)) (at.1 % 32) width value)
    (bytes_stored_length (o at.0.0 (at.1 / 32)).bytes (at.1 % 32) width value ∙ whole at.0.0 (at.1 / 32)) all
at_whole o c None width value whole all = all

store_whole : (d : MachineDesc) (pid held : ℕ) (p : Copies) (c : Changes) (store : Option (ℕ × ℕ × ℕ)) → ((e n : ℕ) → IsWholeBlock (read_by d p c e n)) → AreWhole c.changes → AreWhole (with_store d pid held p c store).changes
unfolding stored
store_whole d pid held p c (Some s) whole all = at_whole (read_by d p c) c (mapped d pid held s.0) s.1 s.2 whole all
store_whole d pid held p c None whole all = all

-- the blocks of an outbox
filled_whole : (from : ℕ) (bytes : List ℕ) (k : ℕ) (b : Block) → IsWholeBlock (filled_block from bytes k b)
unfolding filled_block
filled_whole from bytes k b = length-map-range_with_len (filled_byte from bytes k b) 0 32

outbox_whole : (o : Blocks) (e index from : ℕ) (bytes ks : List ℕ) (c : Changes) → AreWhole c.changes → AreWhole (blocks_filled o c e index from bytes ks).changes
unfolding blocks_filled
outbox_whole o e index from bytes [] c all = all
outbox_whole o e index from bytes (k ∷ ks) c all =
    let b = filled_block from bytes k (o e (outbox_block index k)) in
    outbox_whole o e index from bytes ks (with_change c e (outbox_block index k) b) (put_whole c e (outbox_block index k) b (filled_whole from bytes k (o e (outbox_block index k))) all)

-- the capacity stays
at_capacity : (o : Blocks) (c : Changes) (at : Option (Extent × ℕ)) (width value : ℕ) → (stored_at o c at width value).capacity ≡ c.capacity
at_capacity o c (Some at) width value = refl
at_capacity o c None width value = refl

store_capacity : (d : MachineDesc) (pid held : ℕ) (p : Copies) (c : Changes) (store : Option (ℕ × ℕ × ℕ)) → (with_store d pid held p c store).capacity ≡ c.capacity
unfolding stored
store_capacity d pid held p c (Some s) = at_capacity (read_by d p c) c (mapped d pid held s.0) s.1 s.2
store_capacity d pid held p c None = refl

outbox_capacity : (o : Blocks) (e index from : ℕ) (bytes ks : List ℕ) (c : Changes) → (blocks_filled o c e index from bytes ks).capacity ≡ c.capacity
unfolding blocks_filled
outbox_capacity o e index from bytes [] c = refl
outbox_capacity o e index from bytes (k ∷ ks) c = outbox_capacity o e index from bytes ks (with_change c e (outbox_block index k) (filled_block from bytes k (o e (outbox_block index k))))

-- registers after one is written, or none
registers_whole : (r : Regs) (wrote : Option (ℕ × ℕ)) (next : ℕ) → length r.x ≡ 32 → length (registers_after r wrote next).x ≡ 32
registers_whole r (Some w) next full = length-set r.x w.0 w.1 ∙ full
registers_whole r None next full = full

-- what a step leaves is within its bounds
pub record StepFits (c : Changes) (after : Turned) : Type 0 where
  pub running : RunningFits after.running
  pub blocks : AreWhole after.cache.changes
  pub capacity : after.cache.capacity ≡ c.capacity

answered_fits : (r : Running) (answer : ℕ) → RunningFits r → RunningFits (answered r answer)
answered_fits r answer is = record {
  whole = record {
    first = length-set r.pair.a.x 10 answer ∙ is.whole.first;
    second = length-set r.pair.b.x 10 answer ∙ is.whole.second;
    reads = is.whole.reads;
    writes = is.whole.writes;
  };
  end = is.end;
}

pub granted_fits : (r : Running) (t : ℕ) → RunningFits r → RunningFits (granted r t)
granted_fits r t is = answered_fits (record r { held = r.held + 2 ^ t }) 0 (record { whole = record { first = is.whole.first; second = is.whole.second; reads = is.whole.reads; writes = is.whole.writes }; end = is.end })

module _ (d : MachineDesc) (p : Copies) (r : Running) (c : Changes) (is : RunningFits r) (all : AreWhole c.changes) where
  stays_fit : (o : Outcome) → StepFits c (stays o r c)
  stays_fit o = record { running = is; blocks = all; capacity = refl }

  answer_fits : (o : Outcome) (before : Running) (answer : ℕ) → RunningFits before → StepFits c (record { outcome = o; running = answered before answer; cache = c })
  answer_fits o before answer fits = record { running = answered_fits before answer fits; blocks = all; capacity = refl }

  refuses : (answer : ℕ) → StepFits c (answers r c answer)
  refuses answer = answer_fits Done r answer is

  ended_fit : (o : Outcome) (end : End) → EndFits end → StepFits c (record { outcome = o; running = ended r end; cache = c })
  ended_fit o end fits = record { running = record { whole = record { first = is.whole.first; second = is.whole.second; reads = is.whole.reads; writes = is.whole.writes }; end = fits }; blocks = all; capacity = refl }

  -- what is held isn't spoken of
  held_fits : (mask : ℕ) → RunningFits (record r { held = mask })
  held_fits mask = record { whole = record { first = is.whole.first; second = is.whole.second; reads = is.whole.reads; writes = is.whole.writes }; end = is.end }

  acquire_fits : (t : ℕ) → StepFits c (acquire d r c t)
  unfolding acquire
  acquire_fits t =
      cond_both (not (nat_lt t (length d.segments))) _ _ (StepFits c) (λ _. refuses (minus 3)) (λ _.
      cond_both (not (has_bit (process_of d r.pid.0).grants t)) _ _ (StepFits c) (λ _. refuses (minus 4)) (λ _.
      cond_both (has_bit r.held t) _ _ (StepFits c) (λ _. refuses (minus 1)) (λ _.
      cond_both (nat_lt 0 (r.held / 2 ^ (t + 1))) _ _ (StepFits c) (λ _. refuses (minus 2)) (λ _. stays_fit (Claim (record { 0 = t }))))))

  release_fits : (t : ℕ) → StepFits c (release d r c t)
  unfolding release
  release_fits t =
      cond_both (nat_lt t (length d.segments) && has_bit r.held t) _ _ (StepFits c)
      (λ _. answer_fits (NeedsFlush (cause.Release (record { 0 = t }))) (record r { held = r.held - 2 ^ t }) 0 (held_fits (r.held - 2 ^ t))) (λ _. refuses (minus 1))

  next_fits : (l : ℕ) → StepFits c (read_next d p r c l)
  next_fits l =
      let i = line_index d r l in
      let at = slice_index r.reads i in
      answer_fits Done (record r { reads = slice_set r.reads i (at + 1) }) (journal_byte d p l at)
      (record { whole = record { first = is.whole.first; second = is.whole.second; reads = length-set r.reads i (at + 1) ∙ is.whole.reads; writes = is.whole.writes }; end = is.end })

  put_fits : (l : ℕ) (bytes : List ℕ) → StepFits c (put_out d p r c l bytes)
  put_fits l bytes =
      let i = line_index d r l in
      let from = slice_index r.writes i in
      cond_both (nat_lt 1048576 (from + length bytes)) _ _ (StepFits c) (λ _. refuses (minus 5)) (λ _.
      cond_both (nat_lt (256 + line_word d p l 2) (from + length bytes)) _ _ (StepFits c) (λ _. stays_fit (Waits (reason.Outbox (record { 0 = l }) (line_word d p l 2)))) (λ _.
      cond_both (nat_lt c.capacity (length c.changes + needed c r.pid.0 i from (length bytes))) _ _ (StepFits c) (λ _. stays_fit (NeedsFlush cause.Room)) (λ _.
      record {
        running = answered_fits (record r { writes = slice_set r.writes i (from + length bytes) }) (length bytes)
            (record { whole = record { first = is.whole.first; second = is.whole.second; reads = is.whole.reads; writes = length-set r.writes i (from + length bytes) ∙ is.whole.writes }; end = is.end });
        blocks = outbox_whole (read_by d p c) r.pid.0 i from bytes (touched from (length bytes)) c all;
        capacity = outbox_capacity (read_by d p c) r.pid.0 i from bytes (touched from (length bytes)) c;
      })))

  written_fits : (l : ℕ) (found : Option (List ℕ)) → StepFits c (written d p r c l found)
  written_fits l (Some bytes) = put_fits l bytes
  written_fits l None = refuses (minus 8)

  read_fits : (l : ℕ) → StepFits c (read d p r c l)
  unfolding read
  read_fits l =
      cond_both (not (has_bit (lines_of d r) l)) _ _ (StepFits c) (λ _. refuses (minus 6)) (λ _.
      cond_both (nat_lt (slice_index r.reads (line_index d r l)) (line_word d p l 0)) _ _ (StepFits c) (λ _. next_fits l) (λ _.
      cond_both (line_word d p l 1 == 1) _ _ (StepFits c) (λ _. refuses (minus 1)) (λ _. stays_fit (Waits (reason.Input (record { 0 = l }) (line_word d p l 0))))))

  write_fits : (l at count : ℕ) → StepFits c (write d p r c l at count)
  unfolding write
  write_fits l at count =
      cond_both (not (has_bit (lines_of d r) l)) _ _ (StepFits c) (λ _. refuses (minus 6)) (λ _.
      cond_both (nat_lt 64 count) _ _ (StepFits c) (λ _. refuses (minus 7)) (λ _. written_fits l (bytes_from (seen d r.pid.0 r.held (read_by d p c)) at count)))

  numbered_fits : (x : ℕ → ℕ) → StepFits c (numbered d p r c x)
  unfolding numbered
  numbered_fits x =
      cond_both (x 17 == 0) _ _ (StepFits c) (λ _. ended_fit (NeedsFlush cause.Exit) (Exited (x 10)) tt) (λ _.
      cond_both (x 17 == 1) _ _ (StepFits c) (λ _. acquire_fits (x 10)) (λ _.
      cond_both (x 17 == 2) _ _ (StepFits c) (λ _. release_fits (x 10)) (λ _.
      cond_both (x 17 == 3) _ _ (StepFits c) (λ _. read_fits (x 10)) (λ _.
      cond_both (x 17 == 4) _ _ (StepFits c) (λ _. write_fits (x 10) (x 11) (x 12)) (λ _.
      cond_both (x 17 == 5) _ _ (StepFits c) (λ _. refuses r.pid.0) (λ _.
      cond_both (x 17 == 6) _ _ (StepFits c) (λ _. answer_fits (NeedsFlush cause.Commit) r 0 is) (λ _.
      cond_both (x 17 == 7) _ _ (StepFits c) (λ _. answer_fits (NeedsFlush cause.Yield) r 0 is) (λ _. refuses (minus 9)))))))))

  call_fits : StepFits c (call_of d p r c)
  unfolding call_of
  call_fits = cond_both (agree_on_call r.pair) _ _ (StepFits c) (λ _. numbered_fits (register r.pair.a)) (λ _. stays_fit Diverged)

  module _ (whole : (e n : ℕ) (c : Bool) → IsWholeBlock (p.block e n c)) where
    effect_fits : (e : Effect) → pair_turn d p r c ≡ turn.Agreed e → StepFits c (after_effect d p r c e)
    effect_fits (effect.Next wrote store next) turned = record {
      running = record {
        whole = record {
          first = registers_whole r.pair.a wrote next is.whole.first;
          second = registers_whole r.pair.b wrote next is.whole.second;
          reads = is.whole.reads;
          writes = is.whole.writes;
        };
        end = is.end;
      };
      blocks = store_whole d r.pid.0 r.held p c store (read_whole (shape_of d) p c.changes whole all) all;
      capacity = store_capacity d r.pid.0 r.held p c store;
    }
    effect_fits effect.Call turned = call_fits
    effect_fits (effect.Trap code) turned =
        let bytes = seen d r.pid.0 r.held (read_by d p c) in
        let admits = admission d r.pid.0 r.held c in
        let few = cause_few (unstruck r.pair) bytes code (agreed_traps admits bytes r.pair code (agrees admits bytes r.pair (effect.Trap code) turned)) in
        ended_fit (NeedsFlush cause.Trap) (Trapped code r.pair.a.pc) (omega (arith, few))
    effect_fits effect.Full turned = stays_fit (NeedsFlush cause.Room)

    turn_fits : (t : Turn) → pair_turn d p r c ≡ t → StepFits c (after_turn d p r c t)
    turn_fits (turn.Agreed e) turned = effect_fits e turned
    turn_fits turn.Diverged turned = stays_fit Diverged

    pub step_fits : StepFits c (step_of d p r c)
    unfolding step_of
    step_fits = turn_fits (pair_turn d p r c) refl
