-- What the blocker of a stop says.
use Rattle.std.proofs.Common.{◌≡◌, ℕ, Bool, true, false, ◌&&◌, not, ◌==◌, Option, Some, None, ◌↔◌, refl, sym, ap, ◌∙◌, eq-eqb}
use Rattle.std.proofs.lemmas.Bool.{ne_eqb}
use Rattle.std.specs.Option.{option_map}
use Rattle.seq_words.specs.declared.elements.Me.{Me}
use Rattle.seq_words.specs.declared.names.Pid.{Pid}
use Rattle.seq_words.specs.declared.kinds.Element.{Element}
use Rattle.seq_words.specs.declared.kinds.Element.TheVariants.{Processor, Memory, Io}
use Rattle.seq_words.specs.declared.kinds.Blocker.{Blocker}
use Rattle.seq_words.specs.declared.kinds.Blocker.TheVariants as names
use Rattle.seq_layout.specs.Shapes.{Shape}
use Rattle.seq_layout.specs.Copies.{Copies}
use Rattle.seq_ruling.specs.Lowest.{or_else}
use Rattle.seq_ruling.specs.Ruling.{awaits_recovery, awaiting}
use Rattle.seq_ruling.specs.Checks.{is_out, is_another_out, out, another_out, by_memory, by_process, blocker_of, MayStop, IsBlockedByMemory, IsBlockedByProcess}
use Rattle.seq_ruling.proofs.Lowest.{is_lowest, none_passes, none_found}

memory_none : (o : Option ℕ) → by_memory o ≡ None → o ≡ None
memory_none None e = refl
memory_none (Some j) e = absurd (cc)

memory_some : (o : Option ℕ) (me : Me) → by_memory o ≡ Some (names.Memory me) → o ≡ Some me.0
memory_some None me e = absurd (cc)
memory_some (Some j) me e =
    let first : Me = record { 0 = j } in
    let same : first ≡ me = cc in
    ap (λ (m : Me). Some m.0) same

memory_other : (o : Option ℕ) (pid : Pid) → by_memory o ≡ Some (names.Process pid) → ⊥
memory_other None pid e = cc
memory_other (Some j) pid e = cc

process_none : (o : Option ℕ) → by_process o ≡ None → o ≡ None
process_none None e = refl
process_none (Some q) e = absurd (cc)

process_some : (o : Option ℕ) (pid : Pid) → by_process o ≡ Some (names.Process pid) → o ≡ Some pid.0
process_some None pid e = absurd (cc)
process_some (Some q) pid e =
    let first : Pid = record { 0 = q } in
    let same : first ≡ pid = cc in
    ap (λ (p : Pid). Some p.0) same

process_other : (o : Option ℕ) (me : Me) → by_process o ≡ Some (names.Memory me) → ⊥
process_other None me e = cc
process_other (Some q) me e = cc

-- one kind first, and then the other
both_none : (a b : Option ℕ) → or_else (by_memory a) (by_process b) ≡ None → (a ≡ None) × (b ≡ None)
both_none None b e = (refl, process_none b e)
both_none (Some j) b e = absurd (cc)

first_memory : (a b : Option ℕ) (me : Me) → or_else (by_memory a) (by_process b) ≡ Some (names.Memory me) → a ≡ Some me.0
first_memory None b me e = absurd (process_other b me e)
first_memory (Some j) b me e = memory_some (Some j) me e

then_process : (a b : Option ℕ) (pid : Pid) → or_else (by_memory a) (by_process b) ≡ Some (names.Process pid) → (a ≡ None) × (b ≡ Some pid.0)
then_process None b pid e = (refl, process_some b pid e)
then_process (Some j) b pid e = absurd (memory_other (Some j) pid e)

pub named_none : (s : Shape) (p : Copies) (i : ℕ → ℕ) (e : Element) → (blocker_of s p i e ≡ None) ↔ MayStop s p i e
named_none s p i (Processor pe) = (
  λ e. none_passes (is_out p) s.memories (memory_none (out s p) e),
  λ h. ap by_memory (none_found (is_out p) s.memories h),
)
named_none s p i (Memory me) = (
  λ e. let parts = both_none (another_out s p me.0) (awaiting s p i) e in (none_passes (is_another_out p me.0) s.memories parts.0, none_passes (awaits_recovery s p i) s.processes parts.1),
  λ h. rw (none_found (is_another_out p me.0) s.memories h.0, none_found (awaits_recovery s p i) s.processes h.1) refl,
)
named_none s p i (Io io) = (λ e. tt, λ h. refl)

pub named_memory : (s : Shape) (p : Copies) (i : ℕ → ℕ) (e : Element) (me : Me) → blocker_of s p i e ≡ Some (names.Memory me) → IsBlockedByMemory s p e me.0
named_memory s p i (Processor pe) me e = is_lowest (is_out p) s.memories me.0 (memory_some (out s p) me e)
named_memory s p i (Memory other) me e = is_lowest (is_another_out p other.0) s.memories me.0 (first_memory (another_out s p other.0) (awaiting s p i) me e)
named_memory s p i (Io io) me e = cc

pub named_process : (s : Shape) (p : Copies) (i : ℕ → ℕ) (e : Element) (pid : Pid) → blocker_of s p i e ≡ Some (names.Process pid) → IsBlockedByProcess s p i e pid.0
named_process s p i (Processor pe) pid e = memory_other (out s p) pid e
named_process s p i (Memory me) pid e =
    let parts = then_process (another_out s p me.0) (awaiting s p i) pid e in
    (none_passes (is_another_out p me.0) s.memories parts.0, is_lowest (awaits_recovery s p i) s.processes pid.0 parts.1)
named_process s p i (Io io) pid e = cc

and_false : (b : Bool) → (b && false) ≡ false
and_false true = refl
and_false false = refl

-- whether memory j is another one than i that isn't in service
pub another : (p : Copies) (i j : ℕ) → (j ≡ i → ⊥) → is_out p j ≡ true → is_another_out p i j ≡ true
another p i j other out = rw (ne_eqb j i other, out) refl

pub not_another : (p : Copies) (i j : ℕ) → is_out p j ≡ false → is_another_out p i j ≡ false
not_another p i j up = rw up (and_false (not (j == i)))

pub no_other : (p : Copies) (i j : ℕ) → j ≡ i → is_another_out p i j ≡ false
no_other p i j same = rw (eq-eqb j i same) refl
