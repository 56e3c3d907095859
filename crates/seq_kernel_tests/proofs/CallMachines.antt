-- Memories in service all of whose words are small, and processes at a call.
use Rattle.std.proofs.Common.{◌≡◌, ℕ, zero, suc, ◌/◌, ◌^◌, ◌<◌, ◌≤◌, Bool, true, false, if◌then◌else◌, [], ◌∷◌, get_or, arith, refl}
use Rattle.std.proofs.Math.Nat.{div-eq_of_lt}
use Rattle.std.proofs.Math.Pow.{pow_mono}
use Rattle.seq_words.specs.Masks.{has_bit}
use Rattle.seq_words.specs.declared.description.MachineDesc.{MachineDesc}
use Rattle.seq_words.specs.declared.block.Block.{Block}
use Rattle.seq_words.specs.declared.half.Half.{Half}
use Rattle.seq_words.specs.declared.half.Half.TheVariants.{A, B}
use Rattle.seq_pair.specs.declared.halves.Pair.{Pair}
use Rattle.seq_pair.specs.Halves.{struck}
use Rattle.seq_pair.specs.Turns.{IsAligned}
use Rattle.seq_layout.specs.Shapes.{Shape, shape_of}
use Rattle.seq_layout.specs.Copies.{Copies, serves, with_word, block_written, word_written}
use Rattle.seq_layout.proofs.CopiesWritten.{after_word, block_words}
use Rattle.seq_kernel.specs.Bounds.{AreReadable}

-- a mask below 2 ^ n has no bit from n on
pub no_bit : (mask n l : ℕ) → mask < 2 ^ n → n ≤ l → has_bit mask l ≡ false
no_bit mask n l small above =
    let high : 2 ^ n ≤ 2 ^ l = pow_mono above in
    let none : mask / 2 ^ l ≡ 0 = div-eq_of_lt (omega arith) in
    rw none refl

-- all words are small
abbrev pub AreSmall : Copies → Type 0
AreSmall p = (e n : ℕ) (c : Bool) → p.word e n c ≤ 32

-- a small word, and a block, leave them so
either_small : (test : Bool) (x y : ℕ) → x ≤ 32 → y ≤ 32 → (if test then x else y) ≤ 32
either_small true x y small other = small
either_small false x y small other = other

with_small : (p : Copies) (e n : ℕ) (c : Bool) (w : ℕ) → w ≤ 32 → AreSmall p → AreSmall (with_word p e n c w)
unfolding with_word
with_small p e n c w small are = λ e' n' c'. either_small _ w _ small (are e' n' c')

pub small_word : (s : Shape) (p : Copies) (e n : ℕ) (c : Bool) (w : ℕ) → w ≤ 32 → AreSmall p → AreSmall (word_written s p e n c w)
small_word s p e n c w small are = after_word AreSmall s p e n c w (with_small p e n c w small are) are

pub small_block : (s : Shape) (p : Copies) (e n : ℕ) (c : Bool) (b : Block) → AreSmall p → AreSmall (block_written s p e n c b)
small_block s p e n c b are = λ e' n' c'. rw (block_words s p e n c b) (are e' n' c')

-- memories in service that hold small words may be read
pub small_readable : (d : MachineDesc) (s : Shape) (p q : Copies) → s ≡ shape_of d → ((e : ℕ) (c : Bool) → serves s p e c ≡ true) → q.state ≡ p.state → AreSmall q → d.journal ≡ 32 → AreReadable d q
small_readable d s p q shape serving state small journal = record {
  served = λ e. rw state ((rw shape at serving) e _);
  counts = λ l. rw journal (small _ 0 _);
}

-- four positions of which the last three are 0
pub first_alone : (n most : ℕ) → n ≤ most → (i : ℕ) → get_or (n ∷ 0 ∷ 0 ∷ 0 ∷ []) i 0 ≤ most
first_alone n most small zero = small
first_alone n most small (suc zero) = omega arith
first_alone n most small (suc (suc zero)) = omega arith
first_alone n most small (suc (suc (suc zero))) = omega arith
first_alone n most small (suc (suc (suc (suc i)))) = omega arith

-- a half that isn't struck stays where it was
pub struck_aligned : (p : Pair) (half : Half) (reg mask : ℕ) → p.a.pc ≡ 64 → p.b.pc ≡ 64 → IsAligned (struck p half reg mask).struck (struck p half reg mask).a (struck p half reg mask).b
struck_aligned p A reg mask first second = rw second refl
struck_aligned p B reg mask first second = rw first refl
