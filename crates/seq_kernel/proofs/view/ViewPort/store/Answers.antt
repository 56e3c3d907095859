use Rattle.std.proofs.Common.{◌≡◌, ℕ, List, Option, Some, None, sym, ap, subst, ◌∙◌, ◌-◌, ◌+◌, ◌/◌, ◌%◌, ◌≤◌, ◌&&◌, cond, length, refl}
use Rattle.std.specs.Prelude.{nat_le, nat_lt, slice_index, unwrap_or}
use Rattle.std.specs.Borrow.{MutBor}
use Rattle.std.specs.Int.{byte_at}
use Rattle.std.proofs.Props.{props}
use Rattle.seq_memory.specs.declared.element.Memories.{Memories}
use Rattle.seq_words.specs.declared.block.Block.{Block}
use Rattle.seq_words.specs.declared.description.MachineDesc.{MachineDesc}
use Rattle.seq_rv32.specs.ByteMemory.{bytes_stored}
use Rattle.seq_layout.specs.Shapes.{Shape, shape_of}
use Rattle.seq_layout.specs.Copies.{Copies, copies, first_block}
use Rattle.seq_cache.specs.Overlay.{overlay}
use Rattle.seq_cache.specs.Changes.{Changes, changed, with_change}
use Rattle.seq_kernel.specs.declared.view.View.{View}
use Rattle.seq_kernel.specs.Views.{IsReady, Blocks, read_by, block_stored, stored}
use Rattle.seq_kernel.proofs.ViewBytes.{stored_index}
use Rattle.seq_kernel.proofs.ViewSeen.{place_seen}
use Rattle.seq_kernel.proofs.ViewStores.{IsStored, written_differs, fits_there, fits_admitted, inside_block, store_seen}
use Rattle.seq_kernel.proofs.view.ViewPort.store.Goals as goal

ready_prop : (d : MachineDesc) (pid : ℕ) (s : Shape) (m : Memories) → IsProp (IsReady d pid s m)
ready_prop d pid s m = hlevel props

-- a view is known by its fields
same_view : (v : View) (ready : IsReady v.desc.now v.pid.0 v.layout.now v.memories.now) (k l : MutBor Changes) → k ≡ l → ◌≡◌ {A = View} (record v { cache = k; ready = ready }) (record v { cache = l })
same_view v ready k l e = ap (λ (k : MutBor Changes). let w : View = record v { cache = k; ready = ready } in w) e ∙ ap (λ (r : IsReady v.desc.now v.pid.0 v.layout.now v.memories.now). let w : View = record v { cache = l; ready = r } in w) (ready_prop v.desc.now v.pid.0 v.layout.now v.memories.now ready v.ready)

-- a block that is changed is read as it was changed to, and another as its first copy
found_seen : (d : MachineDesc) (p : Copies) (c : Changes) (e n : ℕ) (b : Block) → Some b ≡ changed c.changes e n → b ≡ read_by d p c e n
unfolding overlay
found_seen d p c e n b found = ap (λ (o : Option Block). unwrap_or o (first_block (shape_of d) p e n)) found

absent_seen : (d : MachineDesc) (p : Copies) (c : Changes) (e n : ℕ) → None ≡ changed c.changes e n → first_block (shape_of d) p e n ≡ read_by d p c e n
unfolding overlay
absent_seen d p c e n absent = ap (λ (o : Option Block). unwrap_or o (first_block (shape_of d) p e n)) absent

pub unwrap-byte-requires : goal.unwrap-byte-requires
unwrap-byte-requires c =
    let v = c.args.self.now in
    rw c.map.ensures (fits_there v.desc.now v.pid.0 v.held v.cache.now c.args.at c.args.width c.requires.fits)

pub put-requires-clause-inside : goal.put-requires-clause-inside
put-requires-clause-inside c =
    let v = c.args.self.now in
    inside_block v.desc.now v.pid.0 v.held v.ready.description v.ready.process c.args.at c.args.width _ (sym c.map.ensures ∙ c.unwrap-byte.ensures) c.requires.width c.requires.aligned

pub first_block-first-requires-clause-place : goal.first_block-first-requires-clause-place
first_block-first-requires-clause-place c =
    let v = c.args.self.now in
    rw v.ready.shape (place_seen v.desc.now v.pid.0 v.held v.ready.description v.ready.process c.args.at _ (sym c.map.ensures ∙ c.unwrap-byte.ensures))

pub change_copy-requires-clause-inside : goal.change_copy-requires-clause-inside
change_copy-requires-clause-inside c =
    let v = c.args.self.now in
    inside_block v.desc.now v.pid.0 v.held v.ready.description v.ready.process c.args.at c.args.width _ (sym c.map.ensures ∙ c.unwrap-byte.ensures) c.requires.width c.requires.aligned

pub change_copy-requires-clause-admitted : goal.change_copy-requires-clause-admitted
change_copy-requires-clause-admitted c =
    let v = c.args.self.now in
    fits_admitted v.desc.now v.pid.0 v.held v.cache.now c.args.at c.args.width _ (sym c.map.ensures ∙ c.unwrap-byte.ensures) c.requires.fits

pub returns-in-Some-clause-state : goal.returns-in-Some-clause-state
unfolding stored
returns-in-Some-clause-state c =
    let v = c.args.self.now in
    let found = sym c.map.ensures ∙ c.unwrap-byte.ensures in
    let at = c.unwrap-byte.result in
    let p : Copies = copies v.layout.now v.memories.now in
    let was = found_seen v.desc.now p v.cache.now at.0.0 (at.1 / 32) c.in-Some.block.now c.in-Some.ensures.found in
    let block = ap (λ (xs : List ℕ). let b : Block = record { bytes = xs } in b) (c.put.ensures.after ∙ ap (λ (b : Block). bytes_stored b.bytes (at.1 % 32) c.args.width c.args.value) was) in
    rw found (same_view v _ _ _ (ap (λ (b : Block). let k : MutBor Changes = record v.cache { now = with_change v.cache.now at.0.0 (at.1 / 32) b } in k) block))

pub returns-in-Some-clause-bytes : goal.returns-in-Some-clause-bytes
returns-in-Some-clause-bytes c =
    let v = c.args.self.now in
    let at = c.unwrap-byte.result in
    let p : Copies = copies v.layout.now v.memories.now in
    let o : Blocks = read_by v.desc.now p v.cache.now in
    let after : Block = record { bytes = c.put.new.bytes } in
    let made : Changes = with_change v.cache.now at.0.0 (at.1 / 32) after in
    let was = found_seen v.desc.now p v.cache.now at.0.0 (at.1 / 32) c.in-Some.block.now c.in-Some.ensures.found in
    let differ = written_differs v.desc.now p v.cache.now made at.0.0 (at.1 / 32) after refl in
    let put : IsStored (o at.0.0 (at.1 / 32)) after (at.1 % 32) c.args.width c.args.value = record {
      each = λ k. c.put.ensures.each k ∙ ap (λ (b : Block). cond (nat_le (at.1 % 32) k && nat_lt k (at.1 % 32 + c.args.width)) (byte_at (k - at.1 % 32) c.args.value) (slice_index b.bytes k)) was;
    } in
    store_seen v.desc.now v.pid.0 v.held v.ready.description v.ready.process o (read_by v.desc.now p made) c.args.at c.args.width c.args.value c.requires.width c.requires.aligned at after (sym c.map.ensures ∙ c.unwrap-byte.ensures) differ put

-- the first copy, by the description
first_is : (d : MachineDesc) (s : Shape) (p : Copies) (c : Changes) (e n : ℕ) (b : Block) → s ≡ shape_of d → b ≡ first_block s p e n → None ≡ changed c.changes e n → b ≡ read_by d p c e n
first_is d s p c e n b shape first absent = first ∙ ap (λ (t : Shape). first_block t p e n) shape ∙ absent_seen d p c e n absent

pub returns-in-None-clause-state : goal.returns-in-None-clause-state
unfolding stored
returns-in-None-clause-state c =
    let v = c.args.self.now in
    let found = sym c.map.ensures ∙ c.unwrap-byte.ensures in
    let at = c.unwrap-byte.result in
    let p : Copies = copies v.layout.now v.memories.now in
    let was = first_is v.desc.now v.layout.now p v.cache.now at.0.0 (at.1 / 32) c.first_block-first.result.now v.ready.shape c.first_block-first.ensures.block c.in-None.ensures.found in
    let block = ap (λ (b : Block). block_stored b (at.1 % 32) c.args.width c.args.value) was in
    rw found (same_view v _ _ _ (ap (λ (n : Changes). let k : MutBor Changes = record v.cache { now = n } in k) (c.change_copy.ensures ∙ ap (λ (b : Block). with_change v.cache.now at.0.0 (at.1 / 32) b) block)))

pub returns-in-None-clause-bytes : goal.returns-in-None-clause-bytes
returns-in-None-clause-bytes c =
    let v = c.args.self.now in
    let at = c.unwrap-byte.result in
    let p : Copies = copies v.layout.now v.memories.now in
    let o : Blocks = read_by v.desc.now p v.cache.now in
    let first : Block = c.first_block-first.result.now in
    let after : Block = block_stored first (at.1 % 32) c.args.width c.args.value in
    let found = sym c.map.ensures ∙ c.unwrap-byte.ensures in
    let within = inside_block v.desc.now v.pid.0 v.held v.ready.description v.ready.process c.args.at c.args.width _ found c.requires.width c.requires.aligned in
    let inside : at.1 % 32 + c.args.width ≤ length first.bytes = subst (λ (n : ℕ). at.1 % 32 + c.args.width ≤ n) (sym c.first_block-first.ensures.whole) within in
    let was = first_is v.desc.now v.layout.now p v.cache.now at.0.0 (at.1 / 32) first v.ready.shape c.first_block-first.ensures.block c.in-None.ensures.found in
    let differ = written_differs v.desc.now p v.cache.now c.change_copy.new.cache at.0.0 (at.1 / 32) after c.change_copy.ensures in
    let put : IsStored (o at.0.0 (at.1 / 32)) after (at.1 % 32) c.args.width c.args.value = record {
      each = λ k. stored_index first.bytes (at.1 % 32) c.args.width c.args.value k inside ∙ ap (λ (b : Block). cond (nat_le (at.1 % 32) k && nat_lt k (at.1 % 32 + c.args.width)) (byte_at (k - at.1 % 32) c.args.value) (slice_index b.bytes k)) was;
    } in
    store_seen v.desc.now v.pid.0 v.held v.ready.description v.ready.process o (read_by v.desc.now p c.change_copy.new.cache) c.args.at c.args.width c.args.value c.requires.width c.requires.aligned at after found differ put
