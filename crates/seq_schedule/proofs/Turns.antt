-- The turns among the events of a script.
use Rattle.std.proofs.Common.{◌≡◌, ℕ, zero, suc, ◌+◌, ◌*◌, List, [], ◌∷◌, map, refl, ap, ◌∙◌, arith}
use Rattle.std.specs.List.{sum_by, range_with_len}
use Rattle.std.proofs.Math.Nat.{suc-mul}
use Rattle.std.proofs.lemmas.List.Sums.{sum_by-cons, sum_by-append}
use Rattle.seq_words.specs.declared.elements.Me.{Me}
use Rattle.seq_words.specs.declared.names.LineNo.{LineNo}
use Rattle.seq_words.specs.declared.kinds.Element.TheVariants as elements
use Rattle.seq_words.specs.declared.events.Event.{Event}
use Rattle.seq_words.specs.declared.events.Event.TheVariants as events
use Rattle.seq_words.specs.declared.description.MachineDesc.{MachineDesc}
use Rattle.seq_schedule.specs.declared.script.Script.{Script}
use Rattle.seq_schedule.specs.declared.script.Script.TheVariants as scripts
use Rattle.seq_schedule.specs.Rules.{turns_of_event, turns_in}
use Rattle.seq_schedule.specs.Scripted.{turn_of, times, round_of, events_in}

more : (n x : ℕ) → x + n * x ≡ suc n * x
more n x = omega (arith, suc-mul n x)

sum-times : (n : ℕ) (es : List Event) → sum_by turns_of_event (times n es) ≡ n * sum_by turns_of_event es
unfolding times
sum-times zero es = omega arith
sum-times (suc n) es = sum_by-append turns_of_event es (times n es) ∙ ap (λ k. sum_by turns_of_event es + k) (sum-times n es) ∙ more n (sum_by turns_of_event es)

processors : (a n : ℕ) → sum_by turns_of_event (map (λ k. events.Processor (record { 0 = k })) (range_with_len a n)) ≡ n
processors a zero = refl
processors a (suc n) = sum_by-cons turns_of_event (events.Processor (record { 0 = a })) (map (λ k. events.Processor (record { 0 = k })) (range_with_len (a + 1) n)) ∙ ap (λ k. 1 + k) (processors (a + 1) n) ∙ one n
  where
    one : (n : ℕ) → 1 + n ≡ suc n
    one n = omega arith

ios : (a n : ℕ) → sum_by turns_of_event (map (λ k. events.Io (record { 0 = k })) (range_with_len a n)) ≡ n
ios a zero = refl
ios a (suc n) = sum_by-cons turns_of_event (events.Io (record { 0 = a })) (map (λ k. events.Io (record { 0 = k })) (range_with_len (a + 1) n)) ∙ ap (λ k. 1 + k) (ios (a + 1) n) ∙ one n
  where
    one : (n : ℕ) → 1 + n ≡ suc n
    one n = omega arith

round : (d : MachineDesc) → sum_by turns_of_event (round_of d) ≡ d.processors + d.ios
unfolding round_of
round d = sum_by-append turns_of_event (map (λ k. events.Processor (record { 0 = k })) (range_with_len 0 d.processors)) (map (λ k. events.Io (record { 0 = k })) (range_with_len 0 d.ios)) ∙ both (processors 0 d.processors) (ios 0 d.ios)
  where
    both : {a b c e : ℕ} → a ≡ b → c ≡ e → a + c ≡ b + e
    both f g = cc

inputs : (l : LineNo) (bytes : List ℕ) → sum_by turns_of_event (map (λ byte. events.Input l byte) bytes) ≡ 0
inputs l [] = refl
inputs l (byte ∷ bytes) = inputs l bytes

one_event : (e : Event) → sum_by turns_of_event (e ∷ []) ≡ turns_of_event e
one_event e = sum_by-cons turns_of_event e [] ∙ none (turns_of_event e)
  where
    none : (n : ℕ) → n + 0 ≡ n
    none n = omega arith

times_one : (n : ℕ) → n * 1 ≡ n
times_one n = omega arith

pub counted : (d : MachineDesc) (s : Script) → ((m : Me) (n : ℕ) → s ≡ scripts.Turns (elements.Memory m) n → ⊥) → sum_by turns_of_event (events_in d (λ n. n) s) ≡ turns_in d s
unfolding events_in
counted d (scripts.One e) h = one_event e
counted d (scripts.Bytes l bytes) h = inputs l bytes
counted d (scripts.Turns (elements.Processor p) n) h = sum-times n (turn_of (elements.Processor p)) ∙ times_one n
counted d (scripts.Turns (elements.Memory m) n) h = absurd (h m n refl)
counted d (scripts.Turns (elements.Io i) n) h = sum-times n (turn_of (elements.Io i)) ∙ times_one n
counted d (scripts.Rounds n) h = sum-times n (round_of d) ∙ ap (λ k. n * k) (round d)
counted d (scripts.Finish n) h = sum-times n (round_of d) ∙ ap (λ k. n * k) (round d)
