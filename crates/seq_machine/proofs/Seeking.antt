-- What a processor that seeks reads of a process, and the first turn of its claim.
use Rattle.std.proofs.Common.{◌≡◌, ℕ, ◌<◌, true, false, length, Option, Some, None, refl, sym, ap, lit<}
use Rattle.std.specs.Option.{option_map}
use Rattle.std.proofs.lemmas.Bool.{cond-true, cond-false}
use Rattle.seq_words.specs.Blocks.{word_at}
use Rattle.seq_words.specs.declared.names.Pid.{Pid}
use Rattle.seq_words.specs.declared.description.MachineDesc.{MachineDesc}
use Rattle.seq_layout.specs.Places.{IsPlace}
use Rattle.seq_layout.specs.Shapes.{Shape, shape_of}
use Rattle.seq_layout.specs.Copies.{Copies, first_block, word_written}
use Rattle.seq_layout.proofs.Sizes.{process_has_context}
use Rattle.seq_ruling.specs.Ruling.{process}
use Rattle.seq_ruling.proofs.Lowest.{is_lowest}
use Rattle.seq_status.specs.declared.status.Status.TheVariants.{Run}
use Rattle.seq_status.specs.Words.{word_of}
use Rattle.seq_kernel.specs.declared.outcomes.Note.TheVariants.{Looked}
use Rattle.seq_turns.specs.declared.hand.Hand.TheVariants.{Claiming}
use Rattle.seq_turns.specs.Machines.{Machine, idles, copies_after}
use Rattle.seq_turns.specs.Reading.{context_of, write_word, status_word, holder, ruling, is_deserted}
use Rattle.seq_turns.specs.Operations.{goes}
use Rattle.seq_turns.specs.Processors.{is_free, looks, deserted}
use Rattle.seq_turns.proofs.Landed.{word_is}

-- how a process stands is the second number of block four of its context
pub end_is : (d : MachineDesc) (p : Copies) (q : ℕ) → (context_of d p q).end ≡ word_at (first_block (shape_of d) p q 4).bytes 4
unfolding context_of
end_is d p q = refl

pub end_place : (d : MachineDesc) (s : Shape) (q e : ℕ) → s ≡ shape_of d → q < length d.processes → e ≡ q → IsPlace s.blocks e 4
end_place d s q e same inside is = rw (same, is) (process_has_context d q 4 inside (lit< tt))

-- a word that is written to the primary
pub claimed_is : (d : MachineDesc) (p : Copies) (q w : ℕ) → word_written (shape_of d) p q 0 false w ≡ copies_after (write_word d p q 0 false w) p
claimed_is d p q w = word_is d p q 0 false w

-- it claims a process that may be claimed, and else looks at it
pub free_looks : (d : MachineDesc) (m : Machine) (p q : ℕ) → is_free d m q ≡ true
    → looks d m p q ≡ goes m p (write_word d m.copies q 0 false (word_of (Run (holder m p)))) (Claiming (record { 0 = q }) (record { at = status_word q; value = word_of (Run (holder m p)); stage = record {} }))
free_looks d m p q t = cond-true _ _ _ t

pub busy_looks : (d : MachineDesc) (m : Machine) (p q : ℕ) → is_free d m q ≡ false → looks d m p q ≡ record (idles m p) { note = Looked (record { 0 = q }) }
busy_looks d m p q f = cond-false _ _ _ f

-- what is found among the processes
pub found_is : (o : Option ℕ) (pid : Pid) → Some pid ≡ option_map process o → o ≡ Some pid.0
found_is (Some q) pid e = let same : pid ≡ process q = cc in ap (λ (x : Pid). Some x.0) (sym same)
found_is None pid e = absurd (let x : ⊥ = cc in x)

pub nothing_is : (o : Option ℕ) → None ≡ option_map process o → o ≡ None
nothing_is (Some q) e = absurd (let x : ⊥ = cc in x)
nothing_is None e = refl

-- a process that is recovered is one of the machine's
pub found_within : (d : MachineDesc) (m : Machine) (q : ℕ) → deserted d m ≡ Some q → q < length d.processes
found_within d m q e = (is_lowest (λ k. is_deserted m.incarnation (ruling d m.copies k)) (length d.processes) q e).within
