-- Hexadecimal digits of a given number, printed and read.
use Rattle.std.proofs.Common.{◌≡◌, ℕ, zero, suc, ◌+◌, ◌*◌, ◌/◌, ◌%◌, ◌^◌, ◌<◌, true, false, ◌&&◌, ltb, eqb, ◌++◌, length, codes, pos, Some, refl, ap, ◌∙◌, arith}
use Rattle.std.specs.Char.{digit_value}
use Rattle.std.specs.Fmt.{digit_glyph}
use Rattle.std.specs.List.{list_all}
use Rattle.std.specs.Str.Parse.{digits_value_after}
use Rattle.std.proofs.Math.Nat.{min-eq_left}
use Rattle.std.proofs.lemmas.Bool.{and_from, eqb-true, lt-ltb}
use Rattle.seq_mnemonics.specs.Laws.{is_plain}
use Rattle.seq_mnemonics.specs.Numbers.{is_hexadecimal, hexadecimal_of, operand_of}
use Rattle.seq_mnemonics.proofs.Tables.{below_32}
use Rattle.seq_source.specs.Numbers.{number_written}
use Rattle.seq_list.specs.Lines.{hexadecimal}

digit_back : (d : ℕ) → d < 16 → digit_value (digit_glyph false d) ≡ d
digit_back d lt = eqb-true _ _ (below_32 (λ k. eqb (digit_value (digit_glyph false k)) k) refl d (omega arith))

glyph_plain : (d : ℕ) → d < 16 → is_plain (digit_glyph false d) ≡ true
glyph_plain d lt = below_32 (λ k. is_plain (digit_glyph false k)) refl d (omega arith)

digit_small : (n : ℕ) → n % 16 < 16
digit_small n = omega arith

pub digits_plain : (count n : ℕ) → list_all is_plain (hexadecimal count n) ≡ true
unfolding hexadecimal
digits_plain zero n = refl
digits_plain (suc count) n = and_from _ _ (glyph_plain (n / 16 ^ count % 16) (digit_small (n / 16 ^ count))) (digits_plain count n)

digits_read : (count n : ℕ) → list_all is_hexadecimal (hexadecimal count n) ≡ true
unfolding hexadecimal
digits_read zero n = refl
digits_read (suc count) n =
    let small = digit_small (n / 16 ^ count) in
    let back = digit_back (n / 16 ^ count % 16) small in
    and_from _ _ (lt-ltb _ _ (omega (arith, back, small))) (digits_read count n)

pub digits_count : (count n : ℕ) → length (hexadecimal count n) ≡ count
unfolding hexadecimal
digits_count zero n = refl
digits_count (suc count) n = let more = digits_count count n in omega (arith, more)

-- the number that the digits make behind others
abbrev number_from : ℕ → ℕ → ℕ → ℕ
number_from zero n before = before
number_from (suc count) n before = number_from count n (before * 16 + n / 16 ^ count % 16)

digits_make : (count n before : ℕ) → digits_value_after 16 before (hexadecimal count n) ≡ number_from count n before
unfolding hexadecimal
digits_make zero n before = refl
digits_make (suc count) n before =
    ap (λ d. digits_value_after 16 (before * 16 + d) (hexadecimal count n)) (digit_back (n / 16 ^ count % 16) (digit_small (n / 16 ^ count)))
    ∙ digits_make count n (before * 16 + n / 16 ^ count % 16)

word_again : (n : ℕ) → n < 2 ^ 32 → number_from 8 n 0 ≡ n
word_again n h =
    let e7 : 0 * 16 + n / 268435456 % 16 ≡ n / 268435456 = omega (arith, h) in
    let e6 : n / 268435456 * 16 + n / 16777216 % 16 ≡ n / 16777216 = omega arith in
    let e5 : n / 16777216 * 16 + n / 1048576 % 16 ≡ n / 1048576 = omega arith in
    let e4 : n / 1048576 * 16 + n / 65536 % 16 ≡ n / 65536 = omega arith in
    let e3 : n / 65536 * 16 + n / 4096 % 16 ≡ n / 4096 = omega arith in
    let e2 : n / 4096 * 16 + n / 256 % 16 ≡ n / 256 = omega arith in
    let e1 : n / 256 * 16 + n / 16 % 16 ≡ n / 16 = omega arith in
    let e0 : n / 16 * 16 + n / 1 % 16 ≡ n = omega arith in
    ap (number_from 7 n) e7 ∙ ap (number_from 6 n) e6 ∙ ap (number_from 5 n) e5 ∙ ap (number_from 4 n) e4 ∙ ap (number_from 3 n) e3 ∙ ap (number_from 2 n) e2 ∙ ap (number_from 1 n) e1 ∙ e0

byte_again : (n : ℕ) → n < 256 → number_from 2 n 0 ≡ n
byte_again n h =
    let e1 : 0 * 16 + n / 16 % 16 ≡ n / 16 = omega (arith, h) in
    let e0 : n / 16 * 16 + n / 1 % 16 ≡ n = omega arith in
    ap (number_from 1 n) e1 ∙ e0

digits_of : (count n : ℕ) → 0 < count → number_from count n 0 ≡ n → hexadecimal_of (hexadecimal count n) ≡ Some n
unfolding hexadecimal_of
digits_of count n some e =
    let long = digits_count count n in
    let passes : (ltb 0 (length (hexadecimal count n)) && list_all is_hexadecimal (hexadecimal count n)) ≡ true = and_from _ _ (lt-ltb _ _ (omega (arith, long, some))) (digits_read count n) in
    rw passes (ap (λ m. Some m) (digits_make count n 0 ∙ e))

written : (count n : ℕ) → 0 < count → n < 2 ^ 32 → number_from count n 0 ≡ n → number_written (codes "0x" ++ hexadecimal count n) ≡ Some (pos n)
unfolding number_written operand_of
written count n some small e = rw (digits_of count n some e) (ap (λ m. Some (pos m)) (min-eq_left (omega (arith, small))))

pub word_written : (n : ℕ) → n < 2 ^ 32 → number_written (codes "0x" ++ hexadecimal 8 n) ≡ Some (pos n)
word_written n h = written 8 n (omega arith) h (word_again n h)

pub byte_written : (n : ℕ) → n < 256 → number_written (codes "0x" ++ hexadecimal 2 n) ≡ Some (pos n)
byte_written n h = written 2 n (omega arith) (omega arith) (byte_again n h)
