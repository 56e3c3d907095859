-- What hexadecimal digits write, from the front.
use Rattle.std.proofs.Common.{◌≡◌, ℕ, suc, ◌+◌, ◌*◌, ◌^◌, ◌<◌, ◌≤◌, true, ltb, List, [], length, take, get_or, refl, sym, ap, ◌∙◌, arith}
use Rattle.std.specs.List.{fold}
use Rattle.std.proofs.Math.Nat.{pow-suc, pow-le-pow_right}
use Rattle.std.proofs.lemmas.Bool.{ltb-true}
use Rattle.std.proofs.lemmas.List.Sums.{fold_more, AllPass-from_list_all}
use Rattle.std.proofs.lemmas.List.{take_all}
use Rattle.seq_schedule.specs.Numbers.{hex_value, is_hex, hex_number}

pub digit : (word : List ℕ) (i : ℕ) → is_hex word ≡ true → i < length word → hex_value (get_or word i 0) < 16
digit word i e lt = ltb-true _ _ (AllPass-from_list_all (λ byte. ltb (hex_value byte) 16) word e i 0 lt)

-- one digit more
pub record Steps (word : List ℕ) (number i value : ℕ) : Type 0 where
  pub next : number * 16 + value ≡ hex_number (take (i + 1) word)
  pub small : number * 16 + value < 16 ^ (i + 1)
  pub fits : number * 16 + value < 2 ^ 32

pub steps : (word : List ℕ) (number i value : ℕ) → is_hex word ≡ true → length word ≤ 8 → i < length word → number ≡ hex_number (take i word) → number < 16 ^ i → value ≡ hex_value (get_or word i 0) → Steps word number i value
unfolding hex_number
steps word number i value e few lt so_far small v =
    let d = digit word i e lt in
    let pow : 16 ^ suc i ≡ 16 ^ i * 16 = pow-suc 16 i in
    let at : 16 ^ (i + 1) ≡ 16 ^ suc i = ap (λ n. 16 ^ n) (one i) in
    let le : suc i ≤ 8 = omega arith in
    let top : 16 ^ suc i ≤ 16 ^ 8 = pow-le-pow_right (omega arith) le in
    let more = fold_more (λ n byte. n * 16 + hex_value byte) 0 word i 0 lt in
    record {
      next = ap (λ n. n * 16 + value) so_far ∙ ap (λ x. fold (λ n byte. n * 16 + hex_value byte) 0 (take i word) * 16 + x) v ∙ sym more;
      small = omega (arith, pow, at, d, v);
      fits = omega (arith, pow, top, d, v);
    }
  where
    one : (i : ℕ) → i + 1 ≡ suc i
    one i = omega arith

pub number-nil : 0 ≡ hex_number []
unfolding hex_number
number-nil = refl

pub number-all : (word : List ℕ) (i : ℕ) → length word ≤ i → hex_number (take i word) ≡ hex_number word
number-all word i le = ap hex_number (take_all i word le)
