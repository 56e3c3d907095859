-- Texts, and where they are cut.
use Rattle.std.proofs.Common.{◌≡◌, ℕ, zero, suc, ◌+◌, ◌-◌, ◌<◌, Bool, true, false, not, ◌||◌, ltb, eqb, List, [], ◌∷◌, ◌++◌, length, reverse, take, drop, get_or, All, None, refl, sym, ap, subst, ◌∙◌, append_assoc, arith}
use Rattle.std.specs.List.{list_all, slice_split, prefix_len, suffix_len, position_or_len, before_first, after_first}
use Rattle.std.specs.Str.Lines.{strip_carriage_return}
use Rattle.std.proofs.lemmas.Bool.{ne_eqb, both_ways, and_parts, and_from, not_from_false, not-true, le-ltb}
use Rattle.std.proofs.lemmas.List.{length_push, take_all, take_at, drop_at, drop_all, reverse-append}
use Rattle.std.proofs.lemmas.List.Folds.{list_all-append}
use Rattle.std.proofs.lemmas.List.Splits.{slice_split_at, slice_split_none}
use Rattle.seq_text.specs.Lines.{lines_of}
use Rattle.seq_text.specs.Words.{is_blank}
use Rattle.seq_text.proofs.Cuts.{lines_of-more}
use Rattle.seq_mnemonics.specs.Laws.{is_plain}
use Rattle.seq_source.specs.Cuts.{without_front, without_back, said_of, has_label, label_in, behind_label, word_in, tail_in, label_of}

-- ---- kinds of bytes

-- of an operand: a digit, a letter in lower case, `-` or a parenthesis
abbrev pub is_operand_byte : ℕ → Bool
is_operand_byte b = is_plain b || eqb b 40 || eqb b 41

-- of a text: the same, and a space, a comma and a dot
abbrev pub is_text_byte : ℕ → Bool
is_text_byte b = is_operand_byte b || eqb b 32 || eqb b 44 || eqb b 46

-- a byte of a kind isn't one that the kind lacks
pub other_byte : (kind : ℕ → Bool) (c : ℕ) → kind c ≡ false → (b : ℕ) → kind b ≡ true → eqb b c ≡ false
other_byte kind c lacked b has = ne_eqb b c (λ e. both_ways (kind c) lacked (subst (λ x. kind x ≡ true) e has))

-- no byte of a list passes a test
abbrev pub NonePass : (ℕ → Bool) → List ℕ → Type 0
NonePass p xs = list_all (λ b. not (p b)) xs ≡ true

pub none_pass : (kind p : ℕ → Bool) (xs : List ℕ) → ((b : ℕ) → kind b ≡ true → p b ≡ false) → list_all kind xs ≡ true → NonePass p xs
none_pass kind p [] apart h = refl
none_pass kind p (x ∷ xs) apart h =
    let parts = and_parts (kind x) (list_all kind xs) h in
    and_from _ _ (not_from_false (p x) (apart x parts.0)) (none_pass kind p xs apart parts.1)

pub wider : (kind more : ℕ → Bool) (xs : List ℕ) → ((b : ℕ) → kind b ≡ true → more b ≡ true) → list_all kind xs ≡ true → list_all more xs ≡ true
wider kind more [] f h = refl
wider kind more (x ∷ xs) f h =
    let parts = and_parts (kind x) (list_all kind xs) h in
    and_from _ _ (f x parts.0) (wider kind more xs f parts.1)

pub all_joined : (kind : ℕ → Bool) (xs ys : List ℕ) → list_all kind xs ≡ true → list_all kind ys ≡ true → list_all kind (xs ++ ys) ≡ true
all_joined kind xs ys h k = list_all-append kind xs ys ∙ and_from _ _ h k

-- ---- the first byte that passes a test

pub first_at : (p : ℕ → Bool) (xs : List ℕ) (y : ℕ) (ys : List ℕ) → NonePass p xs → p y ≡ true → position_or_len p (xs ++ y ∷ ys) ≡ length xs
first_at p [] y ys h e = rw e refl
first_at p (x ∷ xs) y ys h e =
    let parts = and_parts (not (p x)) (list_all (λ b. not (p b)) xs) h in
    let more = first_at p xs y ys parts.1 e in
    rw parts.0 (omega (arith, more))

pub first_none : (p : ℕ → Bool) (xs : List ℕ) → NonePass p xs → position_or_len p xs ≡ length xs
first_none p [] h = refl
first_none p (x ∷ xs) h =
    let parts = and_parts (not (p x)) (list_all (λ b. not (p b)) xs) h in
    let more = first_none p xs parts.1 in
    rw parts.0 (omega (arith, more))

pub before_at : (p : ℕ → Bool) (xs : List ℕ) (y : ℕ) (ys : List ℕ) → NonePass p xs → p y ≡ true → before_first p (xs ++ y ∷ ys) ≡ xs
before_at p xs y ys h e = ap (λ n. take n (xs ++ y ∷ ys)) (first_at p xs y ys h e) ∙ take_at xs (y ∷ ys) (length xs) refl

pub before_none : (p : ℕ → Bool) (xs : List ℕ) → NonePass p xs → before_first p xs ≡ xs
before_none p xs h = ap (λ n. take n xs) (first_none p xs h) ∙ take_all (length xs) xs (omega arith)

pub after_at : (p : ℕ → Bool) (xs : List ℕ) (y : ℕ) (ys : List ℕ) → NonePass p xs → p y ≡ true → after_first p (xs ++ y ∷ ys) ≡ ys
after_at p xs y ys h e =
    ap (λ n. drop (n + 1) (xs ++ y ∷ ys)) (first_at p xs y ys h e)
    ∙ ap (drop (length xs + 1)) (sym (append_assoc xs (y ∷ []) ys))
    ∙ drop_at (xs ++ y ∷ []) ys (length xs + 1) (length_push xs y)

-- ---- blanks

-- a text that begins with no blank
abbrev pub Begins : List ℕ → Type 0
Begins [] = ⊥
Begins (x ∷ xs) = is_blank x ≡ false

pub front_stays : (xs : List ℕ) → Begins xs → without_front xs ≡ xs
front_stays [] h = absurd h
front_stays (x ∷ xs) h = rw h refl

pub blank_goes : (xs : List ℕ) → Begins xs → without_front (32 ∷ xs) ≡ xs
blank_goes [] h = absurd h
blank_goes (x ∷ xs) h = rw h refl

pub begins_joined : (xs ys : List ℕ) → Begins xs → Begins (xs ++ ys)
begins_joined [] ys h = absurd h
begins_joined (x ∷ xs) ys h = h

-- a text whose last byte is no blank
pub record Ends (xs : List ℕ) : Type 0 where
  pub front : List ℕ
  pub last : ℕ
  pub split : xs ≡ front ++ last ∷ []
  pub no_blank : is_blank last ≡ false

pub ends_joined : (xs ys : List ℕ) → Ends ys → Ends (xs ++ ys)
ends_joined xs ys h = record { front = xs ++ h.front; last = h.last; split = ap (λ zs. xs ++ zs) h.split ∙ sym (append_assoc xs h.front (h.last ∷ [])); no_blank = h.no_blank }

-- bytes that are no blanks, at least one
pub record IsSolid (xs : List ℕ) : Type 0 where
  pub bytes : NonePass is_blank xs
  pub some : 0 < length xs

pub solid_begins : (xs : List ℕ) → IsSolid xs → Begins xs
solid_begins [] h = absurd (let s = h.some in omega arith)
solid_begins (x ∷ xs) h = not-true _ (and_parts (not (is_blank x)) (list_all (λ b. not (is_blank b)) xs) h.bytes).0

pub solid_ends : (xs : List ℕ) → IsSolid xs → Ends xs
solid_ends [] h = absurd (let s = h.some in omega arith)
solid_ends (x ∷ []) h = record { front = []; last = x; split = refl; no_blank = not-true _ (and_parts (not (is_blank x)) true h.bytes).0 }
solid_ends (x ∷ y ∷ ys) h =
    let parts = and_parts (not (is_blank x)) (list_all (λ b. not (is_blank b)) (y ∷ ys)) h.bytes in
    ends_joined (x ∷ []) (y ∷ ys) (solid_ends (y ∷ ys) (record { bytes = parts.1; some = omega arith }))

back_at : (front : List ℕ) (last : ℕ) → is_blank last ≡ false → without_back (front ++ last ∷ []) ≡ front ++ last ∷ []
back_at front last h =
    let turned : reverse (front ++ last ∷ []) ≡ last ∷ reverse front = reverse-append front (last ∷ []) in
    let none : suffix_len (λ b. is_blank b) (front ++ last ∷ []) ≡ 0 = ap (prefix_len (λ b. is_blank b)) turned ∙ stops last (reverse front) h in
    ap (λ n. take (length (front ++ last ∷ []) - n) (front ++ last ∷ [])) none ∙ take_all (length (front ++ last ∷ []) - 0) (front ++ last ∷ []) (omega arith)
  where
    stops : (y : ℕ) (ys : List ℕ) → is_blank y ≡ false → prefix_len (λ b. is_blank b) (y ∷ ys) ≡ 0
    stops y ys e = rw e refl

pub back_stays : (xs : List ℕ) → Ends xs → without_back xs ≡ xs
back_stays xs h = subst (λ ys. without_back ys ≡ ys) (sym h.split) (back_at h.front h.last h.no_blank)

-- ---- a line without label and comment

pub record IsTidy (text : List ℕ) : Type 0 where
  pub bytes : list_all is_text_byte text ≡ true
  pub begins : Begins text
  pub ends : Ends text

lacks : (c : ℕ) → is_text_byte c ≡ false → (text : List ℕ) → IsTidy text → NonePass (λ b. eqb b c) text
lacks c lacked text h = none_pass is_text_byte (λ b. eqb b c) text (other_byte is_text_byte c lacked) h.bytes

pub tidy_said : (text : List ℕ) → IsTidy text → said_of text ≡ text
unfolding said_of
tidy_said text h =
    ap (λ xs. without_back (without_front xs)) (before_none (λ b. eqb b 35) text (lacks 35 refl text h))
    ∙ ap without_back (front_stays text h.begins)
    ∙ back_stays text h.ends

no_label : (text : List ℕ) → IsTidy text → has_label text ≡ false
no_label text h =
    let all = first_none (λ b. eqb b 58) text (lacks 58 refl text h) in
    let never : ltb (position_or_len (λ b. eqb b 58) text) (length text) ≡ false = le-ltb _ _ (omega (arith, all)) in
    rw never refl

pub tidy_label : (text : List ℕ) → IsTidy text → label_of text ≡ None
unfolding label_in
tidy_label text h = ap label_in (tidy_said text h) ∙ rw (no_label text h) refl

behind_none : (text : List ℕ) → IsTidy text → behind_label text ≡ text
unfolding behind_label
behind_none text h = rw (no_label text h) refl

pub tidy_rest : (text : List ℕ) → IsTidy text → behind_label (said_of text) ≡ text
tidy_rest text h = ap behind_label (tidy_said text h) ∙ behind_none text h

-- ---- a word, and what follows it

pub word_before : (word tail : List ℕ) → IsSolid word → word_in (word ++ 32 ∷ tail) ≡ word
unfolding word_in
word_before word tail h = before_at (λ b. is_blank b) word 32 tail h.bytes refl

pub tail_behind : (word tail : List ℕ) → IsSolid word → Begins tail → tail_in (word ++ 32 ∷ tail) ≡ tail
unfolding tail_in
tail_behind word tail h b =
    ap (λ n. without_front (drop n (word ++ 32 ∷ tail))) (first_at (λ b. is_blank b) word 32 tail h.bytes refl)
    ∙ ap without_front (drop_at word (32 ∷ tail) (length word) refl)
    ∙ blank_goes tail b

pub word_alone : (word : List ℕ) → IsSolid word → word_in word ≡ word
unfolding word_in
word_alone word h = before_none (λ b. is_blank b) word h.bytes

pub tail_none : (word : List ℕ) → IsSolid word → tail_in word ≡ []
unfolding tail_in
tail_none word h =
    ap (λ n. without_front (drop n word)) (first_none (λ b. is_blank b) word h.bytes)
    ∙ ap without_front (drop_all (length word) word (omega arith))

-- ---- lines

strip_none : (line : List ℕ) → list_all is_text_byte line ≡ true → strip_carriage_return line ≡ line
strip_none [] h = refl
strip_none (x ∷ xs) h =
    let n : ℕ = length (x ∷ xs) - 1 in
    let kind = pass_at is_text_byte (x ∷ xs) n h (omega arith) in
    rw (other_byte is_text_byte 13 refl (get_or (x ∷ xs) n 0) kind) refl
  where
    pass_at : (p : ℕ → Bool) (xs : List ℕ) (n : ℕ) → list_all p xs ≡ true → n < length xs → p (get_or xs n 0) ≡ true
    pass_at p [] n h lt = absurd (omega arith)
    pass_at p (y ∷ ys) zero h lt = (and_parts (p y) (list_all p ys) h).0
    pass_at p (y ∷ ys) (suc n) h lt = pass_at p ys n (and_parts (p y) (list_all p ys) h).1 (omega arith)

none_all : (p : ℕ → Bool) (xs : List ℕ) → NonePass p xs → All (λ b. p b ≡ false) xs
none_all p [] h = λ k d lt. absurd (omega arith)
none_all p (x ∷ xs) h =
    let parts = and_parts (not (p x)) (list_all (λ b. not (p b)) xs) h in
    at parts.0 (none_all p xs parts.1)
  where
    at : not (p x) ≡ true → All (λ b. p b ≡ false) xs → All (λ b. p b ≡ false) (x ∷ xs)
    at e rest zero d lt = not-true _ e
    at e rest (suc k) d lt = rest k d (omega arith)

pub split_at : (p : ℕ → Bool) (xs : List ℕ) (y : ℕ) (ys : List ℕ) → NonePass p xs → p y ≡ true → slice_split p (xs ++ y ∷ ys) ≡ xs ∷ slice_split p ys
split_at p xs y ys h e = slice_split_at p xs y ys (none_all p xs h) e

pub split_none : (p : ℕ → Bool) (xs : List ℕ) → NonePass p xs → slice_split p xs ≡ xs ∷ []
split_none p xs h = slice_split_none p xs (none_all p xs h)

-- a line of a text's bytes is a line
pub line_first : (line rest : List ℕ) → list_all is_text_byte line ≡ true → lines_of (line ++ 10 ∷ rest) ≡ line ∷ lines_of rest
line_first line rest h =
    lines_of-more (line ++ 10 ∷ rest) line rest (split_at (λ b. eqb b 10) line 10 rest (none_pass is_text_byte (λ b. eqb b 10) line (other_byte is_text_byte 10 refl) h) refl)
    ∙ ap (λ l. l ∷ lines_of rest) (strip_none line h)

pub lines_none : lines_of [] ≡ []
unfolding lines_of
lines_none = refl
