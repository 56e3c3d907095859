-- What a kernel call answers, case by case.
use Rattle.std.proofs.Common.{◌≡◌, ℕ, ◌+◌, ◌≤◌, true, false, List, get_or, set, slice_get, Some, None, Ok, Err, refl, sym, ◌∙◌, ap}
use Rattle.std.proofs.lemmas.Bool.{le-ltb}
use Rattle.std.proofs.lemmas.List.{set-get_or}
use Rattle.std.proofs.lemmas.Option.{get_or_from_slice_get}
use Rattle.seq_words.specs.Masks.{has_bit}
use Rattle.seq_flat.specs.declared.inputs.LineInput.{LineInput}
use Rattle.seq_flat.specs.declared.state.FlatState.{FlatState}
use Rattle.seq_flat.specs.declared.state.LineState.{LineState}
use Rattle.seq_flat.specs.declared.state.Rights.{Rights}
use Rattle.seq_flat.specs.declared.state.Waits.TheVariants.{Input}
use Rattle.seq_flat.specs.State.{process_at, line_at, input_at, with_line, no_line}
use Rattle.seq_flat.specs.Memory.{seen, bytes_from}
use Rattle.seq_flat.specs.Calls.{minus, answered, read, write, written}

pub read_some : (rights : Rights) (inputs : List LineInput) (f : FlatState) (p l byte : ℕ) → has_bit rights.lines l ≡ true → Some byte ≡ slice_get (input_at inputs l).bytes (line_at f l).read
    → read rights inputs f p l ≡ Ok (answered (with_line f l (record (line_at f l) { read = (line_at f l).read + 1 })) p byte)
unfolding read
read_some rights inputs f p l byte owned next = rw (owned, ← next) refl

pub read_end : (rights : Rights) (inputs : List LineInput) (f : FlatState) (p l : ℕ) → has_bit rights.lines l ≡ true → None ≡ slice_get (input_at inputs l).bytes (line_at f l).read → (input_at inputs l).closed ≡ true
    → read rights inputs f p l ≡ Ok (answered f p (minus 1))
unfolding read
read_end rights inputs f p l owned none closed = rw (owned, ← none, closed) refl

pub read_waits : (rights : Rights) (inputs : List LineInput) (f : FlatState) (p l : ℕ) → has_bit rights.lines l ≡ true → None ≡ slice_get (input_at inputs l).bytes (line_at f l).read → (input_at inputs l).closed ≡ false
    → read rights inputs f p l ≡ Err (Input (record { 0 = l }))
unfolding read
read_waits rights inputs f p l owned none closed = rw (owned, ← none, closed) refl

pub write_outside : (rights : Rights) (f : FlatState) (p l at count : ℕ) → has_bit rights.lines l ≡ true → count ≤ 64 → bytes_from (seen (process_at f p).bytes f.segments p) at count ≡ None
    → write rights f p l at count ≡ answered f p (minus 8)
unfolding write written
write_outside rights f p l at count owned few none = rw (owned, le-ltb 64 count few, none) refl

pub write_found : (rights : Rights) (f : FlatState) (p l at count : ℕ) (bytes : List ℕ) → has_bit rights.lines l ≡ true → count ≤ 64 → bytes_from (seen (process_at f p).bytes f.segments p) at count ≡ Some bytes
    → write rights f p l at count ≡ written f p l (Some bytes)
unfolding write
write_found rights f p l at count bytes owned few found = rw (owned, le-ltb 64 count few, found) refl

-- a line that is put back where it was
pub line_put_back : (f : FlatState) (l : ℕ) (n : LineState) → slice_get f.lines l ≡ Some n → with_line f l n ≡ f
line_put_back f l n there =
    let same : get_or f.lines l no_line ≡ n = get_or_from_slice_get f.lines l n no_line there in
    ap (λ (lines : List LineState). record f { lines = lines }) (ap (set f.lines l) (sym same) ∙ set-get_or f.lines l no_line)
