-- From the status of a command before it printed to that of the call.
use Rattle.std.proofs.Common.{◌≡◌, ◌⊎◌, inl, inr, ℕ, Option, List, length, Result, Ok, sym, subst, arith}
use Rattle.std.specs.Prelude.{IfOk}
use Rattle.std.proofs.lemmas.List.{take_all}
use Rattle.seq_words.specs.declared.bytes.NoMemory.{NoMemory}
use Rattle.seq_words.specs.declared.description.MachineDesc.{MachineDesc}
use Rattle.seq_schedule.specs.declared.script.Item.{Item}
use Rattle.seq_shelf.specs.Told.{Grows}
use Rattle.seq_report.specs.declared.status.Status.{Status}
use Rattle.seq_report.specs.declared.status.Status.TheVariants.{Done, Usage, Refused, Absent, MachineCheck, OutOfTurns, ShelfFault, SinkFault, ChronicleFault, LineFault, NoMemory as Wanting}
use Rattle.seq_cli.specs.Endings.{EndsFaultless, EndsStillFaultless}
use Rattle.seq_cli.specs.Printing.{MayBecome, Prints, Ends}

-- a text that was written whole
pub prints_whole : (status : Status) (IsText : List ℕ → Type 0) (text : List ℕ) (before after : Option (List ℕ)) → IsText text → Grows before after text → Prints status IsText before after
prints_whole SinkFault IsText text before after is grows =
    (text, length text, is, subst (λ (t : List ℕ). Grows before after t) (sym (take_all (length text) text (omega arith))) grows)
prints_whole Wanting IsText text before after is grows = tt
prints_whole Done IsText text before after is grows = (text, is, grows)
prints_whole Usage IsText text before after is grows = (text, is, grows)
prints_whole (Refused file place rule) IsText text before after is grows = (text, is, grows)
prints_whole (Absent file) IsText text before after is grows = (text, is, grows)
prints_whole (MachineCheck line x b) IsText text before after is grows = (text, is, grows)
prints_whole (OutOfTurns line) IsText text before after is grows = (text, is, grows)
prints_whole ShelfFault IsText text before after is grows = (text, is, grows)
prints_whole ChronicleFault IsText text before after is grows = (text, is, grows)
prints_whole (LineFault l) IsText text before after is grows = (text, is, grows)

-- texts of another kind
pub prints_as : (result : Status) (P Q : List ℕ → Type 0) (before after : Option (List ℕ)) → ((t : List ℕ) → P t → Q t) → Prints result P before after → Prints result Q before after
prints_as SinkFault P Q before after f h = (h.0, h.1, f h.0 h.2, h.3)
prints_as Wanting P Q before after f h = tt
prints_as Done P Q before after f h = (h.0, f h.0 h.1, h.2)
prints_as Usage P Q before after f h = (h.0, f h.0 h.1, h.2)
prints_as (Refused file place rule) P Q before after f h = (h.0, f h.0 h.1, h.2)
prints_as (Absent file) P Q before after f h = (h.0, f h.0 h.1, h.2)
prints_as (MachineCheck line x b) P Q before after f h = (h.0, f h.0 h.1, h.2)
prints_as (OutOfTurns line) P Q before after f h = (h.0, f h.0 h.1, h.2)
prints_as ShelfFault P Q before after f h = (h.0, f h.0 h.1, h.2)
prints_as ChronicleFault P Q before after f h = (h.0, f h.0 h.1, h.2)
prints_as (LineFault l) P Q before after f h = (h.0, f h.0 h.1, h.2)

-- after a fault of the sink there was a text
some_text : (result : Status) (P : List ℕ → Type 0) (before after : Option (List ℕ)) → result ≡ SinkFault → Prints result P before after → (t : List ℕ) × P t
some_text result P before after e h = let there = subst (λ (r : Status). Prints r P before after) e h in (there.0, there.2)

module _ (status result : Status) (text : Result (List ℕ) NoMemory) (Holds : Status → Type 0) (IsText : Status → List ℕ → Type 0) (before after : Option (List ℕ))
    (none : (t : List ℕ) → IsText Wanting t → ⊥) (no_fault : (t : List ℕ) → IsText SinkFault t → ⊥) (is_text : IfOk text (IsText status)) (printed : Prints result (λ t. text ≡ Ok t) before after) where
  its_text : (t : List ℕ) → text ≡ Ok t → IsText status t
  its_text t e = subst (λ (r : Result (List ℕ) NoMemory). IfOk r (IsText status)) e is_text

  -- there is no text for want of memory
  no_want : result ≡ SinkFault → status ≡ Wanting → ⊥
  no_want e want =
      let there = some_text result (λ t. text ≡ Ok t) before after e printed in
      none there.0 (subst (λ (s : Status). IsText s there.0) want (its_text there.0 there.1))

  becomes : (result ≡ status) ⊎ (result ≡ SinkFault) ⊎ (result ≡ Wanting) → MayBecome status result
  becomes (inl same) = inl same
  becomes (inr (inl fault)) = inr (inl (fault, no_want fault))
  becomes (inr (inr want)) = inr (inr want)

  pub call_ends : (result ≡ status) ⊎ (result ≡ SinkFault) ⊎ (result ≡ Wanting) → Holds status → Ends result Holds IsText before after
  call_ends became holds = record {
    status = status;
    became = becomes became;
    holds = holds;
    printed = prints_as result (λ t. text ≡ Ok t) (IsText status) before after its_text printed;
  }

  pub fault_rises : {Rises : Type 0} → (result ≡ SinkFault → (status ≡ SinkFault) ⊎ Rises) → result ≡ SinkFault → Rises
  fault_rises {Rises} fault e = rises (fault e)
    where
      rises : (status ≡ SinkFault) ⊎ Rises → Rises
      rises (inl same) =
          let there = some_text result (λ t. text ≡ Ok t) before after e printed in
          absurd (no_fault there.0 (subst (λ (s : Status). IsText s there.0) same (its_text there.0 there.1)))
      rises (inr rose) = rose

-- ---- without a fault of the sink

pub faultless_result : (d : MachineDesc) (items : List Item) (status result : Status) (Rises : Type 0) → (result ≡ status) ⊎ (result ≡ SinkFault) ⊎ (result ≡ Wanting) → (result ≡ SinkFault → Rises) → (Rises → ⊥) → EndsFaultless d items status → EndsFaultless d items result
faultless_result d items status result Rises (inl same) fault none h = subst (λ (s : Status). EndsFaultless d items s) (sym same) h
faultless_result d items status result Rises (inr (inl e)) fault none h = absurd (none (fault e))
faultless_result d items status result Rises (inr (inr want)) fault none h = inr (inl want)

pub still_faultless_result : (status result : Status) (Rises : Type 0) → (result ≡ status) ⊎ (result ≡ SinkFault) ⊎ (result ≡ Wanting) → (result ≡ SinkFault → Rises) → (Rises → ⊥) → EndsStillFaultless status → EndsStillFaultless result
still_faultless_result status result Rises (inl same) fault none h = subst EndsStillFaultless (sym same) h
still_faultless_result status result Rises (inr (inl e)) fault none h = absurd (none (fault e))
still_faultless_result status result Rises (inr (inr want)) fault none h = inr want
