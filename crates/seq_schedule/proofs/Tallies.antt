-- The tables tell what the scripts before have done.
use Rattle.std.proofs.Common.{◌≡◌, ℕ, ◌+◌, ◌<◌, zero, suc, replicate, Bool, true, false, not, ◌&&◌, ◌||◌, cond, eqb, ltb, Option, Some, None, List, [], ◌∷◌, length, get_or, set, inl, inr, refl, sym, ap, ◌∙◌, arith}
use Rattle.std.specs.List.{list_any, sum_by}
use Rattle.std.proofs.lemmas.Bool.{cases_eq, eq-eqb, ne_eqb, ltb-true}
use Rattle.std.proofs.lemmas.List.Sums.{sum_by-cons}
use Rattle.std.proofs.lemmas.List.{get_or-set_same, get_or-set_other, length-set}
use Rattle.seq_words.specs.declared.names.Pe.{Pe}
use Rattle.seq_words.specs.declared.names.LineNo.{LineNo}
use Rattle.seq_words.specs.declared.half.Half.{Half}
use Rattle.seq_words.specs.declared.half.Half.TheVariants.{A, B}
use Rattle.seq_words.specs.declared.kinds.Element.{Element}
use Rattle.seq_words.specs.declared.kinds.Element.TheVariants as elements
use Rattle.seq_words.specs.declared.events.Event.{Event}
use Rattle.seq_words.specs.declared.events.Event.TheVariants as events
use Rattle.seq_words.specs.declared.description.MachineDesc.{MachineDesc}
use Rattle.seq_words.specs.Description.{IsDescription}
use Rattle.seq_words.specs.Names.{has_name}
use Rattle.seq_schedule.specs.declared.script.Script.{Script}
use Rattle.seq_schedule.specs.declared.script.Script.TheVariants as scripts
use Rattle.seq_schedule.specs.declared.tally.Tally.{Tally}
use Rattle.seq_schedule.specs.Limits.{most_turns}
use Rattle.seq_schedule.specs.Rules.{is_absent_event, is_absent, same_element, closes, hangs, bytes_on, turns_in, is_failed, is_struck, past, other_half, event_rule, state_rule, first_of, turns_rule, rule_of}
use Rattle.seq_schedule.specs.Tallying.{no_tally, told, told_failed, told_struck, with_failed, mended, after}
use Rattle.seq_schedule.proofs.Ranges.{name_there, processor_there, line_there}

pub record AreTables (t : Tally) : Type 0 where
  pub processors : length t.failed_processors ≡ 8
  pub memories : length t.failed_memories ≡ 8
  pub ios : length t.failed_ios ≡ 4
  pub struck_a : length t.struck_a ≡ 8
  pub struck_b : length t.struck_b ≡ 8
  pub closed : length t.closed ≡ 16
  pub hung : length t.hung ≡ 16
  pub arrived : length t.arrived ≡ 16

pub record IsTally (d : MachineDesc) (before : List Script) (t : Tally) : Type 0 where
  pub tables : AreTables t
  pub failed : (e : Element) → has_name e ≡ true → told_failed t e ≡ is_failed e before
  pub struck : (p : Pe) (h : Half) → p.0 < 8 → told_struck t p h ≡ is_struck p h before
  pub closed : (l : LineNo) → l.0 < 16 → get_or t.closed l.0 false ≡ list_any (closes l) before
  pub hung : (l : LineNo) → l.0 < 16 → get_or t.hung l.0 false ≡ list_any (hangs l) before
  pub arrived : (l : LineNo) → l.0 < 16 → get_or t.arrived l.0 0 ≡ sum_by (bytes_on l) before
  pub turns : t.turns ≡ sum_by (turns_in d) before

-- ---- one entry of a table

set_true : (xs : List Bool) (i k : ℕ) (b : Bool) → i < length xs → get_or xs k false ≡ b → get_or (set xs i true) k false ≡ (eqb k i || b)
set_true xs i k b lt e = elim (cases_eq k i) [
  | inl same ↦ ap (λ j. get_or (set xs i true) j false) same ∙ get_or-set_same xs i true false lt ∙ sym (ap (λ t. t || b) (eq-eqb k i same))
  | inr other ↦ get_or-set_other xs i k true false other ∙ e ∙ sym (ap (λ t. t || b) (ne_eqb k i other))
]

set_false : (xs : List Bool) (i k : ℕ) (b : Bool) → i < length xs → get_or xs k false ≡ b → get_or (set xs i false) k false ≡ (not (eqb k i) && b)
set_false xs i k b lt e = elim (cases_eq k i) [
  | inl same ↦ ap (λ j. get_or (set xs i false) j false) same ∙ get_or-set_same xs i false false lt ∙ sym (ap (λ t. not t && b) (eq-eqb k i same))
  | inr other ↦ get_or-set_other xs i k false false other ∙ e ∙ sym (ap (λ t. not t && b) (ne_eqb k i other))
]

set_more : (xs : List ℕ) (i k n m : ℕ) → i < length xs → get_or xs k 0 ≡ m → get_or (set xs i (get_or xs i 0 + n)) k 0 ≡ cond (eqb k i) n 0 + m
set_more xs i k n m lt e = elim (cases_eq k i) [
  | inl same ↦ ap (λ j. get_or (set xs i (get_or xs i 0 + n)) j 0) same ∙ get_or-set_same xs i (get_or xs i 0 + n) 0 lt
      ∙ ap (λ j. get_or xs j 0 + n) (sym same) ∙ ap (λ a. a + n) e ∙ swap m n ∙ sym (ap (λ t. cond t n 0 + m) (eq-eqb k i same))
  | inr other ↦ get_or-set_other xs i k (get_or xs i 0 + n) 0 other ∙ e ∙ zero m ∙ sym (ap (λ t. cond t n 0 + m) (ne_eqb k i other))
]
  where
    swap : (m n : ℕ) → m + n ≡ n + m
    swap m n = omega arith

    zero : (m : ℕ) → m ≡ 0 + m
    zero m = omega arith

-- ---- the tables at the start

pub start : (d : MachineDesc) → IsTally d [] no_tally
start d = record {
  tables = record { processors = refl; memories = refl; ios = refl; struck_a = refl; struck_b = refl; closed = refl; hung = refl; arrived = refl };
  failed = failed;
  struck = struck;
  closed = λ l lt. blank 16 l.0;
  hung = λ l lt. blank 16 l.0;
  arrived = λ l lt. none 16 l.0;
  turns = refl;
}
  where
    blank : (n k : ℕ) → get_or (replicate n false) k false ≡ false
    blank zero k = refl
    blank (suc n) zero = refl
    blank (suc n) (suc k) = blank n k

    none : (n k : ℕ) → let zeros : List ℕ = replicate n 0 in get_or zeros k 0 ≡ 0
    none zero k = refl
    none (suc n) zero = refl
    none (suc n) (suc k) = none n k

    failed : (e : Element) → has_name e ≡ true → told_failed no_tally e ≡ is_failed e []
    failed (elements.Processor p) h = blank 8 p.0
    failed (elements.Memory m) h = blank 8 m.0
    failed (elements.Io i) h = blank 4 i.0

    struck : (p : Pe) (h : Half) → p.0 < 8 → told_struck no_tally p h ≡ is_struck p h []
    struck p A lt = blank 8 p.0
    struck p B lt = blank 8 p.0

-- ---- one script more: the tables

keep_length : {X : Type 0} (xs : List X) (i n : ℕ) (x : X) → length xs ≡ n → length (set xs i x) ≡ n
keep_length xs i n x e = length-set xs i x ∙ e

tables_after : (d : MachineDesc) (t : Tally) (s : Script) → AreTables t → AreTables (after d t s)
unfolding after
tables_after d t (scripts.One (events.Processor p)) h = record { processors = h.processors; memories = h.memories; ios = h.ios; struck_a = h.struck_a; struck_b = h.struck_b; closed = h.closed; hung = h.hung; arrived = h.arrived }
tables_after d t (scripts.One (events.Io i)) h = record { processors = h.processors; memories = h.memories; ios = h.ios; struck_a = h.struck_a; struck_b = h.struck_b; closed = h.closed; hung = h.hung; arrived = h.arrived }
tables_after d t (scripts.One (events.Input l byte)) h = record { processors = h.processors; memories = h.memories; ios = h.ios; struck_a = h.struck_a; struck_b = h.struck_b; closed = h.closed; hung = h.hung; arrived = h.arrived }
tables_after d t (scripts.One (events.Close k)) h = record { processors = h.processors; memories = h.memories; ios = h.ios; struck_a = h.struck_a; struck_b = h.struck_b; closed = keep_length t.closed k.0 16 true h.closed; hung = h.hung; arrived = h.arrived }
tables_after d t (scripts.One (events.Fail (elements.Processor p))) h = record { processors = keep_length t.failed_processors p.0 8 true h.processors; memories = h.memories; ios = h.ios; struck_a = h.struck_a; struck_b = h.struck_b; closed = h.closed; hung = h.hung; arrived = h.arrived }
tables_after d t (scripts.One (events.Fail (elements.Memory m))) h = record { processors = h.processors; memories = keep_length t.failed_memories m.0 8 true h.memories; ios = h.ios; struck_a = h.struck_a; struck_b = h.struck_b; closed = h.closed; hung = h.hung; arrived = h.arrived }
tables_after d t (scripts.One (events.Fail (elements.Io i))) h = record { processors = h.processors; memories = h.memories; ios = keep_length t.failed_ios i.0 4 true h.ios; struck_a = h.struck_a; struck_b = h.struck_b; closed = h.closed; hung = h.hung; arrived = h.arrived }
tables_after d t (scripts.One (events.Repair (elements.Processor p))) h = record { processors = keep_length t.failed_processors p.0 8 false h.processors; memories = h.memories; ios = h.ios; struck_a = keep_length t.struck_a p.0 8 false h.struck_a; struck_b = keep_length t.struck_b p.0 8 false h.struck_b; closed = h.closed; hung = h.hung; arrived = h.arrived }
tables_after d t (scripts.One (events.Repair (elements.Memory m))) h = record { processors = h.processors; memories = keep_length t.failed_memories m.0 8 false h.memories; ios = h.ios; struck_a = h.struck_a; struck_b = h.struck_b; closed = h.closed; hung = h.hung; arrived = h.arrived }
tables_after d t (scripts.One (events.Repair (elements.Io i))) h = record { processors = h.processors; memories = h.memories; ios = keep_length t.failed_ios i.0 4 false h.ios; struck_a = h.struck_a; struck_b = h.struck_b; closed = h.closed; hung = h.hung; arrived = h.arrived }
tables_after d t (scripts.One (events.Upset p A r mask)) h = record { processors = h.processors; memories = h.memories; ios = h.ios; struck_a = keep_length t.struck_a p.0 8 true h.struck_a; struck_b = h.struck_b; closed = h.closed; hung = h.hung; arrived = h.arrived }
tables_after d t (scripts.One (events.Upset p B r mask)) h = record { processors = h.processors; memories = h.memories; ios = h.ios; struck_a = h.struck_a; struck_b = keep_length t.struck_b p.0 8 true h.struck_b; closed = h.closed; hung = h.hung; arrived = h.arrived }
tables_after d t (scripts.One (events.Hangup k)) h = record { processors = h.processors; memories = h.memories; ios = h.ios; struck_a = h.struck_a; struck_b = h.struck_b; closed = h.closed; hung = keep_length t.hung k.0 16 true h.hung; arrived = h.arrived }
tables_after d t (scripts.Bytes k bytes) h = record { processors = h.processors; memories = h.memories; ios = h.ios; struck_a = h.struck_a; struck_b = h.struck_b; closed = h.closed; hung = h.hung; arrived = keep_length t.arrived k.0 16 (get_or t.arrived k.0 0 + length bytes) h.arrived }
tables_after d t (scripts.Turns e n) h = record { processors = h.processors; memories = h.memories; ios = h.ios; struck_a = h.struck_a; struck_b = h.struck_b; closed = h.closed; hung = h.hung; arrived = h.arrived }
tables_after d t (scripts.Rounds n) h = record { processors = h.processors; memories = h.memories; ios = h.ios; struck_a = h.struck_a; struck_b = h.struck_b; closed = h.closed; hung = h.hung; arrived = h.arrived }
tables_after d t (scripts.Finish n) h = record { processors = h.processors; memories = h.memories; ios = h.ios; struck_a = h.struck_a; struck_b = h.struck_b; closed = h.closed; hung = h.hung; arrived = h.arrived }

-- ---- one script more: what is failed

below : (n k m : ℕ) → ltb k n ≡ true → m ≡ n → k < m
below n k m e f = let lt : k < n = ltb-true _ _ e in omega arith

failed_fail : (d : MachineDesc) (t : Tally) (before : List Script) (f e : Element) → IsTally d before t → has_name f ≡ true → has_name e ≡ true → told_failed (with_failed t f true) e ≡ (same_element e f || is_failed e before)
failed_fail d t before (elements.Processor p) (elements.Processor q) h n m = set_true t.failed_processors p.0 q.0 _ (below 8 p.0 _ n h.tables.processors) (h.failed (elements.Processor q) m)
failed_fail d t before (elements.Processor p) (elements.Memory q) h n m = h.failed (elements.Memory q) m
failed_fail d t before (elements.Processor p) (elements.Io q) h n m = h.failed (elements.Io q) m
failed_fail d t before (elements.Memory p) (elements.Processor q) h n m = h.failed (elements.Processor q) m
failed_fail d t before (elements.Memory p) (elements.Memory q) h n m = set_true t.failed_memories p.0 q.0 _ (below 8 p.0 _ n h.tables.memories) (h.failed (elements.Memory q) m)
failed_fail d t before (elements.Memory p) (elements.Io q) h n m = h.failed (elements.Io q) m
failed_fail d t before (elements.Io p) (elements.Processor q) h n m = h.failed (elements.Processor q) m
failed_fail d t before (elements.Io p) (elements.Memory q) h n m = h.failed (elements.Memory q) m
failed_fail d t before (elements.Io p) (elements.Io q) h n m = set_true t.failed_ios p.0 q.0 _ (below 4 p.0 _ n h.tables.ios) (h.failed (elements.Io q) m)

failed_repair : (d : MachineDesc) (t : Tally) (before : List Script) (f e : Element) → IsTally d before t → has_name f ≡ true → has_name e ≡ true → told_failed (mended t f) e ≡ (not (same_element e f) && is_failed e before)
failed_repair d t before (elements.Processor p) (elements.Processor q) h n m = set_false t.failed_processors p.0 q.0 _ (below 8 p.0 _ n h.tables.processors) (h.failed (elements.Processor q) m)
failed_repair d t before (elements.Processor p) (elements.Memory q) h n m = h.failed (elements.Memory q) m
failed_repair d t before (elements.Processor p) (elements.Io q) h n m = h.failed (elements.Io q) m
failed_repair d t before (elements.Memory p) (elements.Processor q) h n m = h.failed (elements.Processor q) m
failed_repair d t before (elements.Memory p) (elements.Memory q) h n m = set_false t.failed_memories p.0 q.0 _ (below 8 p.0 _ n h.tables.memories) (h.failed (elements.Memory q) m)
failed_repair d t before (elements.Memory p) (elements.Io q) h n m = h.failed (elements.Io q) m
failed_repair d t before (elements.Io p) (elements.Processor q) h n m = h.failed (elements.Processor q) m
failed_repair d t before (elements.Io p) (elements.Memory q) h n m = h.failed (elements.Memory q) m
failed_repair d t before (elements.Io p) (elements.Io q) h n m = set_false t.failed_ios p.0 q.0 _ (below 4 p.0 _ n h.tables.ios) (h.failed (elements.Io q) m)

fail_turns : (d : MachineDesc) (t : Tally) (before : List Script) (f e : Element) (n : ℕ) → told_failed (record (with_failed t f true) { turns = n }) e ≡ told_failed (with_failed t f true) e
fail_turns d t before (elements.Processor p) e n = refl
fail_turns d t before (elements.Memory p) e n = refl
fail_turns d t before (elements.Io p) e n = refl

repair_turns : (d : MachineDesc) (t : Tally) (before : List Script) (f e : Element) (n : ℕ) → told_failed (record (mended t f) { turns = n }) e ≡ told_failed (mended t f) e
repair_turns d t before (elements.Processor p) e n = refl
repair_turns d t before (elements.Memory p) e n = refl
repair_turns d t before (elements.Io p) e n = refl

failed_after : (d : MachineDesc) (before : List Script) (t : Tally) (s : Script) → IsDescription d → IsTally d before t → is_absent d s ≡ false → (e : Element) → has_name e ≡ true → told_failed (after d t s) e ≡ is_failed e (s ∷ before)
unfolding after
failed_after d before t (scripts.One (events.Processor p)) D h a e m = h.failed e m
failed_after d before t (scripts.One (events.Io i)) D h a e m = h.failed e m
failed_after d before t (scripts.One (events.Input l byte)) D h a e m = h.failed e m
failed_after d before t (scripts.One (events.Close k)) D h a e m = h.failed e m
failed_after d before t (scripts.One (events.Fail f)) D h a e m = fail_turns d t before f e (t.turns + turns_in d (scripts.One (events.Fail f))) ∙ failed_fail d t before f e h (name_there d f D a) m
failed_after d before t (scripts.One (events.Repair f)) D h a e m = repair_turns d t before f e (t.turns + turns_in d (scripts.One (events.Repair f))) ∙ failed_repair d t before f e h (name_there d f D a) m
failed_after d before t (scripts.One (events.Upset p A r mask)) D h a e m = h.failed e m
failed_after d before t (scripts.One (events.Upset p B r mask)) D h a e m = h.failed e m
failed_after d before t (scripts.One (events.Hangup k)) D h a e m = h.failed e m
failed_after d before t (scripts.Bytes k bytes) D h a e m = h.failed e m
failed_after d before t (scripts.Turns f n) D h a e m = h.failed e m
failed_after d before t (scripts.Rounds n) D h a e m = h.failed e m
failed_after d before t (scripts.Finish n) D h a e m = h.failed e m

-- ---- one script more: what is struck

room : (k m : ℕ) → k < 8 → m ≡ 8 → k < m
room k m lt e = omega arith

struck_after : (d : MachineDesc) (before : List Script) (t : Tally) (s : Script) → IsDescription d → IsTally d before t → is_absent d s ≡ false → (q : Pe) (h : Half) → q.0 < 8 → told_struck (after d t s) q h ≡ is_struck q h (s ∷ before)
unfolding after
struck_after d before t (scripts.One (events.Processor p)) D i a q h lt = i.struck q h lt
struck_after d before t (scripts.One (events.Io j)) D i a q h lt = i.struck q h lt
struck_after d before t (scripts.One (events.Input l byte)) D i a q h lt = i.struck q h lt
struck_after d before t (scripts.One (events.Close k)) D i a q h lt = i.struck q h lt
struck_after d before t (scripts.One (events.Fail (elements.Processor p))) D i a q h lt = i.struck q h lt
struck_after d before t (scripts.One (events.Fail (elements.Memory m))) D i a q h lt = i.struck q h lt
struck_after d before t (scripts.One (events.Fail (elements.Io j))) D i a q h lt = i.struck q h lt
struck_after d before t (scripts.One (events.Repair (elements.Processor p))) D i a q A lt = set_false t.struck_a p.0 q.0 _ (room p.0 _ (processor_there d p D a) i.tables.struck_a) (i.struck q A lt)
struck_after d before t (scripts.One (events.Repair (elements.Processor p))) D i a q B lt = set_false t.struck_b p.0 q.0 _ (room p.0 _ (processor_there d p D a) i.tables.struck_b) (i.struck q B lt)
struck_after d before t (scripts.One (events.Repair (elements.Memory m))) D i a q h lt = i.struck q h lt
struck_after d before t (scripts.One (events.Repair (elements.Io j))) D i a q h lt = i.struck q h lt
struck_after d before t (scripts.One (events.Upset p A r mask)) D i a q A lt = set_true t.struck_a p.0 q.0 _ (room p.0 _ (processor_there d p D a) i.tables.struck_a) (i.struck q A lt)
struck_after d before t (scripts.One (events.Upset p A r mask)) D i a q B lt = i.struck q B lt
struck_after d before t (scripts.One (events.Upset p B r mask)) D i a q A lt = i.struck q A lt
struck_after d before t (scripts.One (events.Upset p B r mask)) D i a q B lt = set_true t.struck_b p.0 q.0 _ (room p.0 _ (processor_there d p D a) i.tables.struck_b) (i.struck q B lt)
struck_after d before t (scripts.One (events.Hangup k)) D i a q h lt = i.struck q h lt
struck_after d before t (scripts.Bytes k bytes) D i a q h lt = i.struck q h lt
struck_after d before t (scripts.Turns f n) D i a q h lt = i.struck q h lt
struck_after d before t (scripts.Rounds n) D i a q h lt = i.struck q h lt
struck_after d before t (scripts.Finish n) D i a q h lt = i.struck q h lt

-- ---- one script more: lines

wide : (k m : ℕ) → k < 16 → m ≡ 16 → k < m
wide k m lt e = omega arith

closed_after : (d : MachineDesc) (before : List Script) (t : Tally) (s : Script) → IsTally d before t → is_absent d s ≡ false → (l : LineNo) → l.0 < 16 → get_or (after d t s).closed l.0 false ≡ list_any (closes l) (s ∷ before)
unfolding after
closed_after d before t (scripts.One (events.Processor p)) i a l lt = i.closed l lt
closed_after d before t (scripts.One (events.Io j)) i a l lt = i.closed l lt
closed_after d before t (scripts.One (events.Input m byte)) i a l lt = i.closed l lt
closed_after d before t (scripts.One (events.Close k)) i a l lt = set_true t.closed k.0 l.0 _ (wide k.0 _ (line_there d k a) i.tables.closed) (i.closed l lt)
closed_after d before t (scripts.One (events.Fail (elements.Processor p))) i a l lt = i.closed l lt
closed_after d before t (scripts.One (events.Fail (elements.Memory m))) i a l lt = i.closed l lt
closed_after d before t (scripts.One (events.Fail (elements.Io j))) i a l lt = i.closed l lt
closed_after d before t (scripts.One (events.Repair (elements.Processor p))) i a l lt = i.closed l lt
closed_after d before t (scripts.One (events.Repair (elements.Memory m))) i a l lt = i.closed l lt
closed_after d before t (scripts.One (events.Repair (elements.Io j))) i a l lt = i.closed l lt
closed_after d before t (scripts.One (events.Upset p A r mask)) i a l lt = i.closed l lt
closed_after d before t (scripts.One (events.Upset p B r mask)) i a l lt = i.closed l lt
closed_after d before t (scripts.One (events.Hangup k)) i a l lt = i.closed l lt
closed_after d before t (scripts.Bytes k bytes) i a l lt = i.closed l lt
closed_after d before t (scripts.Turns f n) i a l lt = i.closed l lt
closed_after d before t (scripts.Rounds n) i a l lt = i.closed l lt
closed_after d before t (scripts.Finish n) i a l lt = i.closed l lt

hung_after : (d : MachineDesc) (before : List Script) (t : Tally) (s : Script) → IsTally d before t → is_absent d s ≡ false → (l : LineNo) → l.0 < 16 → get_or (after d t s).hung l.0 false ≡ list_any (hangs l) (s ∷ before)
unfolding after
hung_after d before t (scripts.One (events.Processor p)) i a l lt = i.hung l lt
hung_after d before t (scripts.One (events.Io j)) i a l lt = i.hung l lt
hung_after d before t (scripts.One (events.Input m byte)) i a l lt = i.hung l lt
hung_after d before t (scripts.One (events.Close k)) i a l lt = i.hung l lt
hung_after d before t (scripts.One (events.Fail (elements.Processor p))) i a l lt = i.hung l lt
hung_after d before t (scripts.One (events.Fail (elements.Memory m))) i a l lt = i.hung l lt
hung_after d before t (scripts.One (events.Fail (elements.Io j))) i a l lt = i.hung l lt
hung_after d before t (scripts.One (events.Repair (elements.Processor p))) i a l lt = i.hung l lt
hung_after d before t (scripts.One (events.Repair (elements.Memory m))) i a l lt = i.hung l lt
hung_after d before t (scripts.One (events.Repair (elements.Io j))) i a l lt = i.hung l lt
hung_after d before t (scripts.One (events.Upset p A r mask)) i a l lt = i.hung l lt
hung_after d before t (scripts.One (events.Upset p B r mask)) i a l lt = i.hung l lt
hung_after d before t (scripts.One (events.Hangup k)) i a l lt = set_true t.hung k.0 l.0 _ (wide k.0 _ (line_there d k a) i.tables.hung) (i.hung l lt)
hung_after d before t (scripts.Bytes k bytes) i a l lt = i.hung l lt
hung_after d before t (scripts.Turns f n) i a l lt = i.hung l lt
hung_after d before t (scripts.Rounds n) i a l lt = i.hung l lt
hung_after d before t (scripts.Finish n) i a l lt = i.hung l lt

arrived_after : (d : MachineDesc) (before : List Script) (t : Tally) (s : Script) → IsTally d before t → is_absent d s ≡ false → (l : LineNo) → l.0 < 16 → get_or (after d t s).arrived l.0 0 ≡ sum_by (bytes_on l) (s ∷ before)
unfolding after
arrived_after d before t (scripts.One (events.Processor p)) i a l lt = i.arrived l lt
arrived_after d before t (scripts.One (events.Io j)) i a l lt = i.arrived l lt
arrived_after d before t (scripts.One (events.Input m byte)) i a l lt = i.arrived l lt
arrived_after d before t (scripts.One (events.Close k)) i a l lt = i.arrived l lt
arrived_after d before t (scripts.One (events.Fail (elements.Processor p))) i a l lt = i.arrived l lt
arrived_after d before t (scripts.One (events.Fail (elements.Memory m))) i a l lt = i.arrived l lt
arrived_after d before t (scripts.One (events.Fail (elements.Io j))) i a l lt = i.arrived l lt
arrived_after d before t (scripts.One (events.Repair (elements.Processor p))) i a l lt = i.arrived l lt
arrived_after d before t (scripts.One (events.Repair (elements.Memory m))) i a l lt = i.arrived l lt
arrived_after d before t (scripts.One (events.Repair (elements.Io j))) i a l lt = i.arrived l lt
arrived_after d before t (scripts.One (events.Upset p A r mask)) i a l lt = i.arrived l lt
arrived_after d before t (scripts.One (events.Upset p B r mask)) i a l lt = i.arrived l lt
arrived_after d before t (scripts.One (events.Hangup k)) i a l lt = i.arrived l lt
arrived_after d before t (scripts.Bytes k bytes) i a l lt = set_more t.arrived k.0 l.0 (length bytes) _ (wide k.0 _ (line_there d k a) i.tables.arrived) (i.arrived l lt) ∙ sym (sum_by-cons (bytes_on l) (scripts.Bytes k bytes) before)
arrived_after d before t (scripts.Turns f n) i a l lt = i.arrived l lt
arrived_after d before t (scripts.Rounds n) i a l lt = i.arrived l lt
arrived_after d before t (scripts.Finish n) i a l lt = i.arrived l lt

turns_after : (d : MachineDesc) (before : List Script) (t : Tally) (s : Script) → IsTally d before t → (after d t s).turns ≡ sum_by (turns_in d) (s ∷ before)
unfolding after
turns_after d before t s i = swap t.turns (turns_in d s) (sum_by (turns_in d) before) i.turns ∙ sym (sum_by-cons (turns_in d) s before)
  where
    swap : (a b c : ℕ) → a ≡ c → a + b ≡ b + c
    swap a b c e = omega arith

pub step : (d : MachineDesc) (before : List Script) (t : Tally) (s : Script) → IsDescription d → IsTally d before t → is_absent d s ≡ false → IsTally d (s ∷ before) (after d t s)
step d before t s D i a = record {
  tables = tables_after d t s i.tables;
  failed = failed_after d before t s D i a;
  struck = struck_after d before t s D i a;
  closed = closed_after d before t s i a;
  hung = hung_after d before t s i a;
  arrived = arrived_after d before t s i a;
  turns = turns_after d before t s i;
}

-- ---- the rules

both_conds : (a b c e : Bool) (m n : ℕ) → a ≡ c → b ≡ e → cond a (Some m) (cond b (Some n) None) ≡ cond c (Some m) (cond e (Some n) None)
both_conds a b c e m n f g = cc

event_same : (d : MachineDesc) (before : List Script) (t : Tally) (e : Event) → IsDescription d → IsTally d before t → is_absent_event d e ≡ false → event_rule (told t) e ≡ event_rule (past d before) e
event_same d before t (events.Processor p) D i a = refl
event_same d before t (events.Io j) D i a = refl
event_same d before t (events.Input l byte) D i a = refl
event_same d before t (events.Close l) D i a = ap (λ b. cond b (Some 36) None) (i.closed l (line_there d l a))
event_same d before t (events.Fail f) D i a = ap (λ b. cond b (Some 33) None) (i.failed f (name_there d f D a))
event_same d before t (events.Repair f) D i a = ap (λ b. cond b None (Some 33)) (i.failed f (name_there d f D a))
event_same d before t (events.Upset p h r mask) D i a = both_conds _ _ _ _ 34 35 (i.failed (elements.Processor p) (name_there d (elements.Processor p) D a)) (i.struck p (other_half h) (processor_there d p D a))
event_same d before t (events.Hangup l) D i a = ap (λ b. cond b (Some 38) None) (i.hung l (line_there d l a))

state_same : (d : MachineDesc) (before : List Script) (t : Tally) (s : Script) → IsDescription d → IsTally d before t → is_absent d s ≡ false → state_rule d (told t) s ≡ state_rule d (past d before) s
state_same d before t (scripts.One e) D i a = event_same d before t e D i a
state_same d before t (scripts.Bytes l bytes) D i a = both_conds _ _ _ _ 36 37 (i.closed l (line_there d l a)) (ap (λ n. ltb d.journal (n + length bytes)) (i.arrived l (line_there d l a)))
state_same d before t (scripts.Turns e n) D i a = refl
state_same d before t (scripts.Rounds n) D i a = refl
state_same d before t (scripts.Finish n) D i a = refl

guarded : (b : Bool) (x y : Option ℕ) → (b ≡ false → x ≡ y) → cond b (Some 32) x ≡ cond b (Some 32) y
guarded true x y h = refl
guarded false x y h = h refl

pub rule_same : (d : MachineDesc) (before : List Script) (t : Tally) (s : Script) → IsDescription d → IsTally d before t → rule_of d (told t) s ≡ rule_of d (past d before) s
unfolding rule_of
rule_same d before t s D i = guarded (is_absent d s) _ _ (λ a.
    ap (λ r. first_of r (turns_rule d (told t) s)) (state_same d before t s D i a)
    ∙ ap (λ n. first_of (state_rule d (past d before) s) (cond (ltb most_turns (n + turns_in d s)) (Some 39) None)) i.turns)
