-- Recoveries and the copying of a memory worked out turn by turn, on the small machine with a second processor.
use Rattle.std.specs.Prelude.{◌≡◌, ℕ, Bool, true, false, List, [], ◌∷◌, ◌++◌, map, slice_index, replicate}
use Rattle.std.specs.List.{range_with_len}
use Rattle.seq_words.specs.declared.description.MachineDesc.{MachineDesc}
use Rattle.seq_words.specs.declared.events.Event.TheVariants.{Fail, Repair}
use Rattle.seq_words.specs.declared.kinds.Element.TheVariants as element
use Rattle.seq_memory.specs.declared.element.State.TheVariants.{InService, Down, Stale, Copying}
use Rattle.seq_kernel.specs.declared.outcomes.Note.{Note}
use Rattle.seq_kernel.specs.declared.outcomes.Note.TheVariants.{Moved, Copied}
use Rattle.seq_turns.specs.declared.hand.Hand.TheVariants.{Seek}
use Rattle.seq_turns.specs.Machines.{Machine}
use Rattle.seq_turns.specs.Start.{start}
use Rattle.seq_turns.specs.Events.{happens}
use Rattle.seq_turns.specs.Hello.{alone, loaded, Wrote, status, turns, turned}
use Rattle.seq_turns.specs.Hello.Wrote.{Nowhere, In_block}

abbrev pub two : MachineDesc
two = record alone { processors = 2 }

-- processor 0 fails after so many turns
abbrev pub deserted_after : ℕ → Machine
deserted_after n = happens two (turned two 0 n (start two loaded)) (Fail (element.Processor (record { 0 = 0 })))

-- each of the eighteen blocks of the process is copied over one of its copies
abbrev pub blocks_copied : Bool → List (Note × Wrote)
blocks_copied shadow = map (λ k. (Moved, In_block 0 k shadow)) (range_with_len 0 18)

-- Processor 1 takes 23 turns: the kind and the holder are written to both words; the blocks are copied; no lock is left to be
-- cleared; and both words are set free.
abbrev pub recovery : ℕ → Bool → List (Note × Wrote)
recovery word shadow = status false word ∷ status true word ∷ (blocks_copied shadow ++ (Moved, Nowhere) ∷ status true 0 ∷ status false 0 ∷ [])

-- With all units of the first pass written and no commit, the shadows are copied over the primaries: the byte isn't written.
pub record RecoveryGoesBack : Type 0 where
  pub recovers : turns two 1 23 (deserted_after 21) ≡ recovery 260 false
  pub seeks : (turned two 1 23 (deserted_after 21)).hand 1 ≡ Seek
  pub outbox : slice_index ((turned two 1 23 (deserted_after 21)).copies.block 0 8 false).bytes 0 ≡ 0

-- With the commit, the primaries are copied over the shadows: the byte is written.
pub record RecoveryGoesForward : Type 0 where
  pub recovers : turns two 1 23 (deserted_after 22) ≡ recovery 261 true
  pub seeks : (turned two 1 23 (deserted_after 22)).hand 1 ≡ Seek
  pub outbox : slice_index ((turned two 1 23 (deserted_after 22)).copies.block 0 8 true).bytes 0 ≡ 0x41

-- memory 0 fails, and is repaired
abbrev pub emptied : Machine
emptied = happens two (start two loaded) (Fail (element.Memory (record { 0 = 0 })))

abbrev pub stale : Machine
stale = happens two emptied (Repair (element.Memory (record { 0 = 0 })))

-- Its units are the blocks and the word of the process, and the block and the three words of the line. After the last of them it
-- is in service.
pub record MemoryIsCopied : Type 0 where
  pub down : emptied.copies.state 0 ≡ Down
  pub empty : slice_index (emptied.copies.block 0 16 false).bytes 0 ≡ 0
  pub repaired : stale.copies.state 0 ≡ Stale
  pub copied : turns two 1 23 stale ≡ replicate 23 (Copied (record { 0 = 0 }), Nowhere)
  pub amid : (turned two 1 22 stale).copies.state 0 ≡ Copying 22
  pub in_service : (turned two 1 23 stale).copies.state 0 ≡ InService
  pub same : (turned two 1 23 stale).copies.block 0 16 false ≡ loaded 0 16
