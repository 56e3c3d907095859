-- The lines of a listing, step by step.
use Rattle.std.proofs.Common.{◌≡◌, ℕ, ◌+◌, ◌<◌, ◌≤◌, List, [], ◌∷◌, ◌++◌, length, take, drop, append_assoc, refl, sym, ap, ◌∙◌, arith}
use Rattle.byteorder.specs.Endian.{little_number}
use Rattle.seq_list.specs.Lines.{word_line}
use Rattle.seq_list.specs.Listing.{left_over, listing}

-- fewer than four bytes are left over
pub listing_ends : (bytes : List ℕ) → length bytes < 4 → (at : ℕ) → listing at bytes ≡ left_over at bytes
unfolding listing
listing_ends [] h at = refl
listing_ends (a ∷ []) h at = refl
listing_ends (a ∷ b ∷ []) h at = refl
listing_ends (a ∷ b ∷ c ∷ []) h at = refl
listing_ends (a ∷ b ∷ c ∷ d ∷ rest) h at = absurd (omega arith)

-- four bytes are a word
listing_word : (bytes : List ℕ) → 4 ≤ length bytes → (at : ℕ) → listing at bytes ≡ word_line at (little_number 4 (take 4 bytes)) ++ listing (at + 4) (drop 4 bytes)
unfolding listing
listing_word [] h at = absurd (omega arith)
listing_word (a ∷ []) h at = absurd (omega arith)
listing_word (a ∷ b ∷ []) h at = absurd (omega arith)
listing_word (a ∷ b ∷ c ∷ []) h at = absurd (omega arith)
listing_word (a ∷ b ∷ c ∷ d ∷ rest) h at = refl

pub listing_from : (bytes word rest : List ℕ) (number : ℕ) → 4 ≤ length bytes → word ≡ take 4 bytes → rest ≡ drop 4 bytes → number ≡ little_number 4 word → (at : ℕ) → listing at bytes ≡ word_line at number ++ listing (at + 4) rest
listing_from bytes word rest number h w r n at =
    listing_word bytes h at ∙ both (little_number 4 (take 4 bytes)) number (drop 4 bytes) rest (n ∙ ap (little_number 4) w) r
  where
    both : (m n : ℕ) (xs ys : List ℕ) → n ≡ m → ys ≡ xs → word_line at m ++ listing (at + 4) xs ≡ word_line at n ++ listing (at + 4) ys
    both m n xs ys e f = ap (λ k. word_line at k ++ listing (at + 4) xs) (sym e) ∙ ap (λ zs. word_line at n ++ listing (at + 4) zs) (sym f)

-- a line more of what is said
pub said_more : (text more line behind rest whole : List ℕ) → more ≡ text ++ line → behind ≡ line ++ rest → text ++ behind ≡ whole → more ++ rest ≡ whole
said_more text more line behind rest whole e f g =
    ap (λ xs. xs ++ rest) e ∙ append_assoc text line rest ∙ ap (λ xs. text ++ xs) (sym f) ∙ g
