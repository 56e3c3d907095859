-- A whole listing, and the source that its texts make.
use Rattle.std.proofs.Common.{◌≡◌, ℕ, zero, suc, ◌+◌, ◌%◌, ◌^◌, ◌<◌, true, eqb, List, [], ◌∷◌, ◌++◌, get_or, codes, All, inl, inr, refl, sym, ap, subst, ◌∙◌, append_assoc, arith}
use Rattle.std.specs.List.{list_all}
use Rattle.std.proofs.lemmas.Bool.{or_left}
use Rattle.std.proofs.lemmas.Nat.{le_bytes_4}
use Rattle.byteorder.specs.Endian.{little_number, little_bytes}
use Rattle.seq_text.specs.Lines.{lines_of}
use Rattle.seq_mnemonics.specs.Laws.{is_plain}
use Rattle.seq_list.specs.Lines.{hexadecimal, word_text, word_line, byte_line}
use Rattle.seq_list.specs.Listing.{left_over, listing}
use Rattle.seq_roundtrip.specs.Texts.{behind_space, text_in, texts_in, source_in, ListingsAssemble}
use Rattle.seq_roundtrip.proofs.Parts.{is_text_byte, other_byte, NonePass, none_pass, wider, all_joined, after_at, line_first, lines_none}
use Rattle.seq_roundtrip.proofs.Digits.{digits_plain}
use Rattle.seq_roundtrip.proofs.Plain.{Follow, plain_assembles}
use Rattle.seq_roundtrip.proofs.Listed.{Tells, word_text_tells, byte_text, byte_text_tells}

-- ---- one line of a listing

-- address, value and text, with spaces between them
abbrev row : List ℕ → List ℕ → List ℕ → List ℕ
row address value text = address ++ 32 ∷ (value ++ 32 ∷ text)

word_row : (at w : ℕ) → word_line at w ≡ row (hexadecimal 8 at) (hexadecimal 8 w) (word_text w) ++ 10 ∷ []
word_row at w = ap (λ xs. xs ++ 10 ∷ []) (parts (hexadecimal 8 at) (hexadecimal 8 w) (word_text w))
  where
    parts : (a v t : List ℕ) → a ++ 32 ∷ [] ++ v ++ 32 ∷ [] ++ t ≡ row a v t
    parts a v t = simp append_assoc refl

byte_row : (at b : ℕ) → byte_line at b ≡ row (hexadecimal 8 at) (hexadecimal 2 b) (byte_text b) ++ 10 ∷ []
byte_row at b = ap (λ xs. xs ++ 10 ∷ []) (parts (hexadecimal 8 at) (hexadecimal 2 b) (codes ".byte 0x") (hexadecimal 2 b))
  where
    parts : (a v s t : List ℕ) → a ++ 32 ∷ [] ++ v ++ (32 ∷ s) ++ t ≡ row a v (s ++ t)
    parts a v s t = simp append_assoc refl

no_space : (count n : ℕ) → NonePass (λ b. eqb b 32) (hexadecimal count n)
no_space count n = none_pass is_plain (λ b. eqb b 32) (hexadecimal count n) (other_byte is_plain 32 refl) (digits_plain count n)

digits_text : (count n : ℕ) → list_all is_text_byte (hexadecimal count n) ≡ true
digits_text count n = wider is_plain is_text_byte (hexadecimal count n) (λ b k. or_left _ _ (or_left _ _ (or_left _ _ (or_left _ _ (or_left _ _ k))))) (digits_plain count n)

-- the text of a row is behind its second space
row_text : (at count n : ℕ) (text : List ℕ) → text_in (row (hexadecimal 8 at) (hexadecimal count n) text) ≡ text
row_text at count n text =
    ap behind_space (after_at (λ b. eqb b 32) (hexadecimal 8 at) 32 (hexadecimal count n ++ 32 ∷ text) (no_space 8 at) refl)
    ∙ after_at (λ b. eqb b 32) (hexadecimal count n) 32 text (no_space count n) refl

row_bytes : (at count n : ℕ) (text : List ℕ) → list_all is_text_byte text ≡ true → list_all is_text_byte (row (hexadecimal 8 at) (hexadecimal count n) text) ≡ true
row_bytes at count n text h = all_joined is_text_byte (hexadecimal 8 at) (32 ∷ (hexadecimal count n ++ 32 ∷ text)) (digits_text 8 at) (all_joined is_text_byte (hexadecimal count n) (32 ∷ text) (digits_text count n) h)

-- ---- the texts of a listing

abbrev byte_texts : List ℕ → List (List ℕ)
byte_texts [] = []
byte_texts (b ∷ rest) = byte_text b ∷ byte_texts rest

texts : List ℕ → List (List ℕ)
texts (a ∷ b ∷ c ∷ d ∷ rest) = word_text (little_number 4 (a ∷ b ∷ c ∷ d ∷ [])) ∷ texts rest
texts bytes = byte_texts bytes

-- texts, each with its end
abbrev joined : List (List ℕ) → List ℕ
joined [] = []
joined (text ∷ more) = text ++ 10 ∷ joined more

-- what a line of a listing adds to the source
texts_more : (line row text rest : List ℕ) → line ≡ row ++ 10 ∷ [] → list_all is_text_byte row ≡ true → text_in row ≡ text → texts_in (lines_of (line ++ rest)) ≡ text ++ 10 ∷ texts_in (lines_of rest)
texts_more line row text rest e h t =
    ap (λ xs. texts_in (lines_of (xs ++ rest))) e
    ∙ ap (λ xs. texts_in (lines_of xs)) (append_assoc row (10 ∷ []) rest)
    ∙ ap texts_in (line_first row rest h)
    ∙ append_assoc (text_in row) (10 ∷ []) (texts_in (lines_of rest))
    ∙ ap (λ xs. xs ++ 10 ∷ texts_in (lines_of rest)) t

abbrev IsBytes : List ℕ → Type 0
IsBytes [] = Unit {0}
IsBytes (b ∷ rest) = (b < 256) × IsBytes rest

left_over_texts : (at : ℕ) (bytes : List ℕ) → IsBytes bytes → texts_in (lines_of (left_over at bytes)) ≡ joined (byte_texts bytes)
left_over_texts at [] h = ap texts_in lines_none
left_over_texts at (b ∷ rest) h =
    let tells = byte_text_tells b h.0 in
    texts_more (byte_line at b) (row (hexadecimal 8 at) (hexadecimal 2 b) (byte_text b)) (byte_text b) (left_over (at + 1) rest) (byte_row at b) (row_bytes at 2 b (byte_text b) tells.tidy.bytes) (row_text at 2 b (byte_text b))
    ∙ ap (λ xs. byte_text b ++ 10 ∷ xs) (left_over_texts (at + 1) rest h.1)

-- four bytes, and the number that they are
record IsWord (a b c d : ℕ) : Type 0 where
  pub small : little_number 4 (a ∷ b ∷ c ∷ d ∷ []) < 2 ^ 32
  pub again : little_bytes 4 (little_number 4 (a ∷ b ∷ c ∷ d ∷ [])) ≡ a ∷ b ∷ c ∷ d ∷ []

word_of_bytes : (a b c d : ℕ) → a < 256 → b < 256 → c < 256 → d < 256 → IsWord a b c d
word_of_bytes a b c d ha hb hc hd = record {
  small = omega (arith, ha, hb, hc, hd);
  again = le_bytes_4 (a ∷ b ∷ c ∷ d ∷ []) (little_number 4 (a ∷ b ∷ c ∷ d ∷ [])) refl each (omega arith);
}
  where
    each : (i : ℕ) → get_or (a ∷ b ∷ c ∷ d ∷ []) i 0 < 256
    each zero = ha
    each (suc zero) = hb
    each (suc (suc zero)) = hc
    each (suc (suc (suc zero))) = hd
    each (suc (suc (suc (suc i)))) = omega arith

word_tells : (a b c d : ℕ) → IsWord a b c d → Tells (word_text (little_number 4 (a ∷ b ∷ c ∷ d ∷ []))) (a ∷ b ∷ c ∷ d ∷ [])
word_tells a b c d h = subst (Tells (word_text (little_number 4 (a ∷ b ∷ c ∷ d ∷ [])))) h.again (word_text_tells (little_number 4 (a ∷ b ∷ c ∷ d ∷ [])) h.small)

listing_texts : (at : ℕ) (bytes : List ℕ) → IsBytes bytes → texts_in (lines_of (listing at bytes)) ≡ joined (texts bytes)
unfolding listing texts
listing_texts at [] h = left_over_texts at [] h
listing_texts at (a ∷ []) h = left_over_texts at (a ∷ []) h
listing_texts at (a ∷ b ∷ []) h = left_over_texts at (a ∷ b ∷ []) h
listing_texts at (a ∷ b ∷ c ∷ []) h = left_over_texts at (a ∷ b ∷ c ∷ []) h
listing_texts at (a ∷ b ∷ c ∷ d ∷ rest) h =
    let w : ℕ = little_number 4 (a ∷ b ∷ c ∷ d ∷ []) in
    let tells = word_tells a b c d (word_of_bytes a b c d h.0 h.1.0 h.1.1.0 h.1.1.1.0) in
    texts_more (word_line at w) (row (hexadecimal 8 at) (hexadecimal 8 w) (word_text w)) (word_text w) (listing (at + 4) rest) (word_row at w) (row_bytes at 8 w (word_text w) tells.tidy.bytes) (row_text at 8 w (word_text w))
    ∙ ap (λ xs. word_text w ++ 10 ∷ xs) (listing_texts (at + 4) rest h.1.1.1.1)

-- ---- the lines of the source

joined_byte_lines : (bytes : List ℕ) → IsBytes bytes → lines_of (joined (byte_texts bytes)) ≡ byte_texts bytes
joined_byte_lines [] h = lines_none
joined_byte_lines (b ∷ rest) h =
    line_first (byte_text b) (joined (byte_texts rest)) (byte_text_tells b h.0).tidy.bytes ∙ ap (λ ls. byte_text b ∷ ls) (joined_byte_lines rest h.1)

joined_lines : (bytes : List ℕ) → IsBytes bytes → lines_of (joined (texts bytes)) ≡ texts bytes
unfolding texts
joined_lines [] h = joined_byte_lines [] h
joined_lines (a ∷ []) h = joined_byte_lines (a ∷ []) h
joined_lines (a ∷ b ∷ []) h = joined_byte_lines (a ∷ b ∷ []) h
joined_lines (a ∷ b ∷ c ∷ []) h = joined_byte_lines (a ∷ b ∷ c ∷ []) h
joined_lines (a ∷ b ∷ c ∷ d ∷ rest) h =
    let w : ℕ = little_number 4 (a ∷ b ∷ c ∷ d ∷ []) in
    let tells = word_tells a b c d (word_of_bytes a b c d h.0 h.1.0 h.1.1.0 h.1.1.1.0) in
    line_first (word_text w) (joined (texts rest)) tells.tidy.bytes ∙ ap (λ ls. word_text w ∷ ls) (joined_lines rest h.1.1.1.1)

bytes_follow : (at : ℕ) (bytes : List ℕ) → IsBytes bytes → Follow at (byte_texts bytes) bytes
bytes_follow at [] h = refl
bytes_follow at (b ∷ rest) h = (b ∷ [], rest, (byte_text_tells b h.0).plain, inr refl, bytes_follow (at + 1) rest h.1, refl)

texts_follow : (at : ℕ) (bytes : List ℕ) → at % 4 ≡ 0 → IsBytes bytes → Follow at (texts bytes) bytes
unfolding texts
texts_follow at [] whole h = bytes_follow at [] h
texts_follow at (a ∷ []) whole h = bytes_follow at (a ∷ []) h
texts_follow at (a ∷ b ∷ []) whole h = bytes_follow at (a ∷ b ∷ []) h
texts_follow at (a ∷ b ∷ c ∷ []) whole h = bytes_follow at (a ∷ b ∷ c ∷ []) h
texts_follow at (a ∷ b ∷ c ∷ d ∷ rest) whole h =
    let tells = word_tells a b c d (word_of_bytes a b c d h.0 h.1.0 h.1.1.0 h.1.1.1.0) in
    (a ∷ b ∷ c ∷ d ∷ [], rest, tells.plain, inl whole, texts_follow (at + 4) rest (omega (arith, whole)) h.1.1.1.1, refl)

-- ---- an image

bytes_from : (bytes : List ℕ) → All (λ byte. byte < 256) bytes → IsBytes bytes
bytes_from [] h = tt
bytes_from (b ∷ rest) h = (h 0 0 (omega arith), bytes_from rest (λ k d lt. h (suc k) d (omega arith)))

pub listings_assemble : ListingsAssemble
listings_assemble i h small =
    let bytes = bytes_from i.bytes small in
    let lines : lines_of (source_in (listing 0 i.bytes)) ≡ texts i.bytes = ap lines_of (listing_texts 0 i.bytes bytes) ∙ joined_lines i.bytes bytes in
    plain_assembles (source_in (listing 0 i.bytes)) i.bytes
    (subst (λ (ls : List (List ℕ)). Follow 0 ls i.bytes) (sym lines) (texts_follow 0 i.bytes refl bytes))
    (omega (arith, h.fits, h.size.between.high_at))
