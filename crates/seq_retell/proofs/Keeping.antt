-- Entries that are kept where there is room.
use Rattle.std.proofs.Common.{◌≡◌, ℕ, zero, suc, ◌+◌, ◌<◌, List, [], ◌∷◌, ◌++◌, length, length-append, take, refl, sym, ap, ◌∙◌, arith}
use Rattle.std.proofs.lemmas.List.{take_all}
use Rattle.std.proofs.Math.Seq.{take-append_seam}
use Rattle.seq_words.specs.declared.events.Entry.{Entry}

-- there is no room for a further one
pub keeps_none : (room : ℕ) (entries : List Entry) (entry : Entry) → length entries ≡ room → take room (entries ++ entry ∷ []) ≡ entries
keeps_none room entries entry full = ap (λ n. take n (entries ++ entry ∷ [])) (sym full) ∙ take-append_seam entries (entry ∷ [])

-- there is
pub keeps_one : (room : ℕ) (entries : List Entry) (entry : Entry) → length entries < room → take room (entries ++ entry ∷ []) ≡ entries ++ entry ∷ []
keeps_one room entries entry less =
    let one : length (entries ++ entry ∷ []) ≡ length entries + 1 = length-append entries (entry ∷ []) in
    take_all room (entries ++ entry ∷ []) (omega (arith, one, less))

-- the first of a history and a further entry are the first of the history with it
pub keeps_on : (room : ℕ) (history : List Entry) (entry : Entry) → take room (take room history ++ entry ∷ []) ≡ take room (history ++ entry ∷ [])
keeps_on zero history entry = refl
keeps_on (suc room) [] entry = refl
keeps_on (suc room) (first ∷ history) entry = ap (λ xs. first ∷ xs) (keeps_on room history entry)
