-- Instructions whose offset leads to a label.
use Rattle.std.proofs.Common.{◌≡◌, ℕ, ◌<◌, Bool, true, false, ◌&&◌, cond, Option, Some, None, refl, sym, ap, subst, ◌∙◌}
use Rattle.std.specs.Prelude.{ℤ, pos, ◌-ℤ◌}
use mir.Syntax.{w32}
use mir.Val.{to_z, of_z}
use Rattle.byteorder.specs.Endian.{little_bytes}
use Rattle.seq_isa.specs.declared.instr.Instr.{Instr}
use Rattle.seq_isa.specs.declared.instr.Instr.TheVariants.{Jal}
use Rattle.seq_isa.specs.InRange.{InRange, IsOffset}
use Rattle.seq_isa.specs.Laws.{IsOnlyWord}
use Rattle.seq_mnemonics.specs.declared.names.BranchName.{BranchName}
use Rattle.seq_mnemonics.specs.Statements.{branch_instruction}
use Rattle.seq_source.specs.Numbers.{fits_in, is_even, offset_of}
use Rattle.seq_source.proofs.Fits.{branch_fits, branch_again, branch_same, jump_same}
use Rattle.seq_asm.specs.Assembled.{IsAimed}
use Rattle.seq_asm.specs.Surveyed.{offset_to}

chosen : (b : Bool) (d z : ℤ) → cond b (Some d) None ≡ Some z → z ≡ d
chosen true d z e = cc
chosen false d z e = absurd cc

offset_some : (half : ℕ) (d z : ℤ) → offset_of half d ≡ Some z → z ≡ d
unfolding offset_of
offset_some half d z e = chosen (fits_in half d && is_even d) d z e

pub branch_in_range : (name : BranchName) (rs1 rs2 : ℕ) (z : ℤ) (i : Instr) → (rs1 < 32) × (rs2 < 32) → IsOffset 4096 z → i ≡ branch_instruction name rs1 rs2 (to_z w32 (of_z w32 z)) → InRange i
branch_in_range name rs1 rs2 z i h f e = subst InRange (sym e) (branch_fits name rs1 rs2 _ h.0 h.1 (branch_again z f))

pub branch_made : (at : ℕ) (address : Option ℕ) (name : BranchName) (rs1 rs2 : ℕ) (z : ℤ) (i : Instr) (w : ℕ) → IsOffset 4096 z → offset_to 4096 at address ≡ Some z → i ≡ branch_instruction name rs1 rs2 (to_z w32 (of_z w32 z)) → IsOnlyWord w i → IsAimed (λ offset. branch_instruction name rs1 rs2 offset) at address (little_bytes 4 w)
branch_made at None name rs1 rs2 z i w f e is only = absurd cc
branch_made at (Some a) name rs1 rs2 z i w f e is only =
    let here : i ≡ branch_instruction name rs1 rs2 (pos a -ℤ pos at) = is ∙ ap (λ (o : ℤ). branch_instruction name rs1 rs2 o) (branch_same z f ∙ offset_some 4096 (pos a -ℤ pos at) z e) in
    (w, subst (IsOnlyWord w) here only, refl)

pub jump_made : (at : ℕ) (address : Option ℕ) (rd : ℕ) (z : ℤ) (w : ℕ) → IsOffset 1048576 z → offset_to 1048576 at address ≡ Some z → IsOnlyWord w (Jal rd (to_z w32 (of_z w32 z))) → IsAimed (λ offset. Jal rd offset) at address (little_bytes 4 w)
jump_made at None rd z w f e only = absurd cc
jump_made at (Some a) rd z w f e only =
    let here : ◌≡◌ {A = Instr} (Jal rd (to_z w32 (of_z w32 z))) (Jal rd (pos a -ℤ pos at)) = ap (λ (o : ℤ). Jal rd o) (jump_same z f ∙ offset_some 1048576 (pos a -ℤ pos at) z e) in
    (w, subst (IsOnlyWord w) here only, refl)
