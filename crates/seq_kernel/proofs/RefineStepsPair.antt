-- A pair that agrees makes the effect of its unstruck half, which is that of its outcome.
use Rattle.std.proofs.Common.{◌≡◌, ℕ, Bool, true, false, ◌&&◌, ◌==◌, if◌then◌else◌, Option, Some, None, refl, sym, ◌∙◌, ap, ap₂}
use Rattle.std.proofs.lemmas.Bool.{and_parts, eqb-true}
use Rattle.seq_words.specs.declared.half.Half.{Half}
use Rattle.seq_words.specs.declared.half.Half.TheVariants.{A, B}
use Rattle.seq_words.specs.declared.regs.Regs.{Regs}
use Rattle.seq_isa.specs.Meaning.{Bytes, Outcome, moves, call, trap, outcome_at}
use Rattle.seq_rv32.specs.declared.port.Admit.{Admit}
use Rattle.seq_rv32.specs.declared.port.Admit.TheVariants.{Fits, Outside, Full}
use Rattle.seq_rv32.specs.declared.effects.Effect.{Effect}
use Rattle.seq_rv32.specs.declared.effects.Effect.TheVariants as effect
use Rattle.seq_rv32.specs.Effects.{effect_of, unless_full, applied}
use Rattle.seq_pair.specs.declared.halves.Pair.{Pair}
use Rattle.seq_pair.specs.declared.halves.Turn.TheVariants.{Agreed, Diverged}
use Rattle.seq_pair.specs.Turns.{same_written, same_stored, same_effect, effect_at, unstruck_of, unstruck, turn_of, pair_after}

-- effects that are tested to be one are one
same_from_written : (v w : Option (ℕ × ℕ)) → same_written v w ≡ true → v ≡ w
same_from_written (Some v) (Some w) t =
    let parts = and_parts (v.0 == w.0) (v.1 == w.1) t in
    ap₂ (λ (x y : ℕ). Some (x, y)) (eqb-true v.0 w.0 parts.0) (eqb-true v.1 w.1 parts.1)
same_from_written None None t = refl
same_from_written (Some v) None t = cc
same_from_written None (Some w) t = cc

same_from_stored : (s t : Option (ℕ × ℕ × ℕ)) → same_stored s t ≡ true → s ≡ t
same_from_stored (Some s) (Some t) h =
    let parts = and_parts (s.0 == t.0 && s.1 == t.1) (s.2 == t.2) h in
    let first = and_parts (s.0 == t.0) (s.1 == t.1) parts.0 in
    ap (λ (x : ℕ). Some (x, s.1, s.2)) (eqb-true s.0 t.0 first.0)
    ∙ ap (λ (x : ℕ). Some (t.0, x, s.2)) (eqb-true s.1 t.1 first.1)
    ∙ ap (λ (x : ℕ). Some (t.0, t.1, x)) (eqb-true s.2 t.2 parts.1)
same_from_stored None None h = refl
same_from_stored (Some s) None h = cc
same_from_stored None (Some t) h = cc

same_from_effect : (e f : Effect) → same_effect e f ≡ true → e ≡ f
same_from_effect (effect.Next w s n) (effect.Next v t m) h =
    let parts = and_parts (same_written w v && same_stored s t) (n == m) h in
    let first = and_parts (same_written w v) (same_stored s t) parts.0 in
    ap (λ x. effect.Next x s n) (same_from_written w v first.0)
    ∙ ap (λ x. effect.Next v x n) (same_from_stored s t first.1)
    ∙ ap (λ x. effect.Next v t x) (eqb-true n m parts.1)
same_from_effect effect.Call effect.Call h = refl
same_from_effect (effect.Trap c) (effect.Trap d) h = ap (λ x. effect.Trap x) (eqb-true c d h)
same_from_effect effect.Full effect.Full h = refl
same_from_effect (effect.Next w s n) effect.Call h = cc
same_from_effect (effect.Next w s n) (effect.Trap d) h = cc
same_from_effect (effect.Next w s n) effect.Full h = cc
same_from_effect effect.Call (effect.Next v t m) h = cc
same_from_effect effect.Call (effect.Trap d) h = cc
same_from_effect effect.Call effect.Full h = cc
same_from_effect (effect.Trap c) (effect.Next v t m) h = cc
same_from_effect (effect.Trap c) effect.Call h = cc
same_from_effect (effect.Trap c) effect.Full h = cc
same_from_effect effect.Full (effect.Next v t m) h = cc
same_from_effect effect.Full effect.Call h = cc
same_from_effect effect.Full (effect.Trap d) h = cc

-- both halves stand at one pc and make this effect
pub record Agrees (admission : ℕ → ℕ → Admit) (bytes : Bytes) (p : Pair) (e : Effect) : Type 0 where
  pub pc : p.a.pc ≡ p.b.pc
  pub first : effect_at admission bytes p.a ≡ e
  pub second : effect_at admission bytes p.b ≡ e

agreed_parts : (t : Bool) (x e : Effect) → (if t then Agreed x else Diverged) ≡ Agreed e → (t ≡ true) × (x ≡ e)
agreed_parts true x e h = (refl, cc)
agreed_parts false x e h = absurd (cc)

pub agrees : (admission : ℕ → ℕ → Admit) (bytes : Bytes) (p : Pair) (e : Effect) → turn_of admission bytes p ≡ Agreed e → Agrees admission bytes p e
agrees admission bytes p e h =
    let first = effect_at admission bytes p.a in
    let second = effect_at admission bytes p.b in
    let parts = agreed_parts (p.a.pc == p.b.pc && same_effect first second) first e h in
    let tests = and_parts (p.a.pc == p.b.pc) (same_effect first second) parts.0 in
    record {
      pc = eqb-true p.a.pc p.b.pc tests.0;
      first = parts.1;
      second = sym (same_from_effect first second tests.1) ∙ parts.1;
    }

-- what is true of both halves is true of the unstruck one
of_halves : (P : Regs → Type 0) (h : Option Half) (a b : Regs) → P a → P b → P (unstruck_of h a b)
of_halves P None a b p q = p
of_halves P (Some A) a b p q = q
of_halves P (Some B) a b p q = p

pub unstruck_agrees : (admission : ℕ → ℕ → Admit) (bytes : Bytes) (p : Pair) (e : Effect) → Agrees admission bytes p e → effect_at admission bytes (unstruck p) ≡ e
unstruck_agrees admission bytes p e h = of_halves (λ r. effect_at admission bytes r ≡ e) p.struck p.a p.b h.first h.second

pub unstruck_pc : (admission : ℕ → ℕ → Admit) (bytes : Bytes) (p : Pair) (e : Effect) → Agrees admission bytes p e → p.a.pc ≡ (unstruck p).pc
unstruck_pc admission bytes p e h = of_halves (λ r. p.a.pc ≡ r.pc) p.struck p.a p.b refl h.pc

applied_of : (h : Option Half) (a b : Regs) (e : Effect) → unstruck_of h (applied a e) (applied b e) ≡ applied (unstruck_of h a b) e
applied_of None a b e = refl
applied_of (Some A) a b e = refl
applied_of (Some B) a b e = refl

-- the unstruck half after a turn has made the effect
pub unstruck_after : (p : Pair) (e : Effect) → unstruck (pair_after p (Agreed e)) ≡ applied (unstruck p) e
unstruck_after p e = applied_of p.struck p.a p.b e

-- an effect that isn't Full tells its outcome
moved_unless : (a : Admit) (wrote w : Option (ℕ × ℕ)) (store : ℕ × ℕ × ℕ) (s : Option (ℕ × ℕ × ℕ)) (next n : ℕ) → unless_full a (effect.Next wrote (Some store) next) ≡ effect.Next w s n → moves wrote (Some store) next ≡ moves w s n
moved_unless Fits wrote w store s next n h = cc
moved_unless Outside wrote w store s next n h = cc
moved_unless Full wrote w store s next n h = cc

pub effect_moves : (admission : ℕ → ℕ → Admit) (o : Outcome) (w : Option (ℕ × ℕ)) (s : Option (ℕ × ℕ × ℕ)) (n : ℕ) → effect_of admission o ≡ effect.Next w s n → o ≡ moves w s n
effect_moves admission (moves wrote None next) w s n h = cc
effect_moves admission (moves wrote (Some store) next) w s n h = moved_unless (admission store.0 store.1) wrote w store s next n h
effect_moves admission call w s n h = cc
effect_moves admission (trap cause) w s n h = cc

never_calls : (a : Admit) (wrote : Option (ℕ × ℕ)) (store : Option (ℕ × ℕ × ℕ)) (next : ℕ) → unless_full a (effect.Next wrote store next) ≡ effect.Call → ⊥
never_calls Fits wrote store next h = cc
never_calls Outside wrote store next h = cc
never_calls Full wrote store next h = cc

pub effect_calls : (admission : ℕ → ℕ → Admit) (o : Outcome) → effect_of admission o ≡ effect.Call → o ≡ call
effect_calls admission (moves wrote None next) h = cc
effect_calls admission (moves wrote (Some store) next) h = absurd (never_calls (admission store.0 store.1) wrote (Some store) next h)
effect_calls admission call h = refl
effect_calls admission (trap cause) h = cc

never_traps : (a : Admit) (wrote : Option (ℕ × ℕ)) (store : Option (ℕ × ℕ × ℕ)) (next cause : ℕ) → unless_full a (effect.Next wrote store next) ≡ effect.Trap cause → ⊥
never_traps Fits wrote store next cause h = cc
never_traps Outside wrote store next cause h = cc
never_traps Full wrote store next cause h = cc

pub effect_traps : (admission : ℕ → ℕ → Admit) (o : Outcome) (cause : ℕ) → effect_of admission o ≡ effect.Trap cause → o ≡ trap cause
effect_traps admission (moves wrote None next) cause h = cc
effect_traps admission (moves wrote (Some store) next) cause h = absurd (never_traps (admission store.0 store.1) wrote (Some store) next cause h)
effect_traps admission call cause h = cc
effect_traps admission (trap c) cause h = cc

-- the outcome of the unstruck half, by the effect on which the halves agree
pub agreed_moves : (admission : ℕ → ℕ → Admit) (bytes : Bytes) (p : Pair) (w : Option (ℕ × ℕ)) (s : Option (ℕ × ℕ × ℕ)) (n : ℕ) → Agrees admission bytes p (effect.Next w s n) → outcome_at (unstruck p) bytes ≡ moves w s n
agreed_moves admission bytes p w s n h = effect_moves admission (outcome_at (unstruck p) bytes) w s n (unstruck_agrees admission bytes p (effect.Next w s n) h)

pub agreed_calls : (admission : ℕ → ℕ → Admit) (bytes : Bytes) (p : Pair) → Agrees admission bytes p effect.Call → outcome_at (unstruck p) bytes ≡ call
agreed_calls admission bytes p h = effect_calls admission (outcome_at (unstruck p) bytes) (unstruck_agrees admission bytes p effect.Call h)

pub agreed_traps : (admission : ℕ → ℕ → Admit) (bytes : Bytes) (p : Pair) (cause : ℕ) → Agrees admission bytes p (effect.Trap cause) → outcome_at (unstruck p) bytes ≡ trap cause
agreed_traps admission bytes p cause h = effect_traps admission (outcome_at (unstruck p) bytes) cause (unstruck_agrees admission bytes p (effect.Trap cause) h)
