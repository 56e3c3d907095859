-- The blocks of an image, by where they stand.
use Rattle.std.proofs.Common.{◌≡◌, ℕ, ◌+◌, ◌-◌, ◌*◌, ◌/◌, ◌%◌, ◌<◌, ◌≤◌, Bool, true, false, not, length, get_or, List, arith, refl}
use Rattle.std.specs.Prelude.{nat_lt, count_ones, if◌then◌else◌}
use Rattle.std.proofs.lemmas.Bool.{and_parts, lt-ltb, le-ltb, ltb-true}
use Rattle.seq_words.specs.Blocks.{zero_block}
use Rattle.seq_words.specs.declared.description.MachineDesc.{MachineDesc}
use Rattle.seq_words.specs.Description.{process_of}
use Rattle.seq_flat.specs.declared.state.FlatState.{FlatState}
use Rattle.seq_flat.specs.State.{process_at, segment_at}
use Rattle.seq_layout.specs.Places.{IsPlace, is_place}
use Rattle.seq_layout.specs.Shapes.{shape_of}
use Rattle.seq_layout.specs.Contexts.{context_blocks}
use Rattle.seq_image.specs.Images.{block_of_bytes, block_of_outbox, own_line, context_of, process_block, image}

-- a place and its test
pub place_test : (sizes : List ℕ) (e n : ℕ) → IsPlace sizes e n → is_place sizes e n ≡ true
place_test sizes e n is = rw (lt-ltb e (length sizes) is.extent_in, lt-ltb n (get_or sizes e 0) is.part_in) refl

pub place_of_test : (sizes : List ℕ) (e n : ℕ) → is_place sizes e n ≡ true → IsPlace sizes e n
place_of_test sizes e n h =
    let parts = and_parts (nat_lt e (length sizes)) (nat_lt n (get_or sizes e 0)) h in
    record { extent_in = ltb-true e (length sizes) parts.0; part_in = ltb-true n (get_or sizes e 0) parts.1 }

pub image_nowhere : (d : MachineDesc) (f : FlatState) (commits : ℕ → ℕ) (e n : ℕ) → is_place (shape_of d).blocks e n ≡ false → image d f commits e n ≡ zero_block
unfolding image
image_nowhere d f commits e n nowhere = rw nowhere refl

pub image_process : (d : MachineDesc) (f : FlatState) (commits : ℕ → ℕ) (p n : ℕ) → p < length d.processes → is_place (shape_of d).blocks p n ≡ true → image d f commits p n ≡ process_block d f p (commits p) n
unfolding image
image_process d f commits p n there placed = rw (placed, lt-ltb p (length d.processes) there) refl

pub image_segment : (d : MachineDesc) (f : FlatState) (commits : ℕ → ℕ) (t n : ℕ) → t < length d.segments → is_place (shape_of d).blocks (length d.processes + t) n ≡ true → image d f commits (length d.processes + t) n ≡ block_of_bytes (segment_at f t).bytes n
unfolding image
image_segment d f commits t n lt placed =
    let number : length d.processes + t - length d.processes ≡ t = omega arith in
    let past : nat_lt (length d.processes + t) (length d.processes) ≡ false = le-ltb _ _ (omega arith) in
    let within : nat_lt (length d.processes + t) (length d.processes + length d.segments) ≡ true = lt-ltb _ _ (omega arith) in
    rw (placed, past, within, number) refl

pub image_lines : (d : MachineDesc) (f : FlatState) (commits : ℕ → ℕ) (e n : ℕ) → length d.processes + length d.segments ≤ e → image d f commits e n ≡ zero_block
unfolding image
image_lines d f commits e n past =
    let beyond : length d.processes ≤ e = omega arith in
    rw (le-ltb e (length d.processes) beyond, le-ltb e (length d.processes + length d.segments) past) (either_zero (not (is_place (shape_of d).blocks e n)))
  where
    either_zero : (b : Bool) → (if b then zero_block else zero_block) ≡ zero_block
    either_zero true = refl
    either_zero false = refl

-- the blocks of a process
pub context_block : (d : MachineDesc) (f : FlatState) (p commits n : ℕ) → n < 8 → process_block d f p commits n ≡ get_or (context_blocks (context_of d f p commits)) n zero_block
unfolding process_block
context_block d f p commits n lt = rw (lt-ltb n 8 lt) refl

pub outbox_is : (d : MachineDesc) (f : FlatState) (p commits n : ℕ) → 8 ≤ n → n < 8 + 8 * count_ones (process_of d p).lines → process_block d f p commits n ≡ block_of_outbox (own_line d f p (n / 8 - 1)).output (n % 8)
unfolding process_block
outbox_is d f p commits n from lt = rw (le-ltb n 8 from, lt-ltb n (8 + 8 * count_ones (process_of d p).lines) lt) refl

pub private_is : (d : MachineDesc) (f : FlatState) (p commits n : ℕ) → 8 + 8 * count_ones (process_of d p).lines ≤ n → process_block d f p commits n ≡ block_of_bytes (process_at f p).bytes (n - (8 + 8 * count_ones (process_of d p).lines))
unfolding process_block
private_is d f p commits n from =
    let past : 8 ≤ n = omega arith in
    rw (le-ltb n 8 past, le-ltb n (8 + 8 * count_ones (process_of d p).lines) from) refl
