-- A round: how it is made, and how long it is.
use Rattle.std.proofs.Common.{◌≡◌, ℕ, ◌+◌, List, [], ◌∷◌, ◌++◌, length, map, sym, ◌∙◌, ap, arith, zero-add, append_assoc, length-append}
use Rattle.std.specs.List.{range_with_len}
use Rattle.std.proofs.lemmas.List.FromFn.{length-map-range_with_len, map-range_with_len_more}
use Rattle.seq_words.specs.declared.description.MachineDesc.{MachineDesc}
use Rattle.seq_words.specs.declared.events.Event.TheVariants as event
use Rattle.seq_schedule.specs.Scripted.{round_of}

-- a turn of one element more
pub turns_more : {X : Type 0} (f : ℕ → X) (xs : List X) (n : ℕ) → xs ++ map f (range_with_len 0 n) ++ f n ∷ [] ≡ xs ++ map f (range_with_len 0 (n + 1))
turns_more {X} f xs n = append_assoc xs (map f (range_with_len 0 n)) (f n ∷ []) ∙ ap (λ (ys : List X). xs ++ ys) (sym (map-range_with_len_more f 0 n n (zero-add n)))

pub length_round : (d : MachineDesc) → length (round_of d) ≡ d.processors + d.ios
unfolding round_of
length_round d =
    let turns = length-map-range_with_len (λ n. event.Processor (record { 0 = n })) 0 d.processors in
    let serves = length-map-range_with_len (λ n. event.Io (record { 0 = n })) 0 d.ios in
    length-append (map (λ n. event.Processor (record { 0 = n })) (range_with_len 0 d.processors)) (map (λ n. event.Io (record { 0 = n })) (range_with_len 0 d.ios)) ∙ omega (arith, turns, serves)
