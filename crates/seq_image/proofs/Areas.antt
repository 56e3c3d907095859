-- Areas, and blocks that are alike in them.
use Rattle.std.proofs.Common.{◌≡◌, ℕ, Bool, true, false, inl, inr, refl, sym, ◌∙◌, ap}
use Rattle.std.proofs.Math.Path.{fun_ext}
use Rattle.std.proofs.lemmas.Bool.{cases_Bool}
use Rattle.seq_words.specs.Blocks.{zero_block}
use Rattle.seq_kernel.specs.Views.{Blocks}
use Rattle.seq_image.specs.Areas.{only, AlikeIsOneView}
pub use Rattle.seq_kernel.proofs.Areas.{alike_sym, alike_trans, alike_less, area_cases, process_in_area, segment_in_area}

only_in : (mask : ℕ → Bool) (o : Blocks) (e n : ℕ) → mask e ≡ true → only mask o e n ≡ o e n
unfolding only
only_in mask o e n inside = rw inside refl

only_out : (mask : ℕ → Bool) (o : Blocks) (e n : ℕ) → mask e ≡ false → only mask o e n ≡ zero_block
unfolding only
only_out mask o e n outside = rw outside refl

pub alike_is_one_view : AlikeIsOneView
alike_is_one_view mask o o' = (
  λ alike. fun_ext (λ e. fun_ext (λ n. elim (cases_Bool (mask e)) [
    | inl inside ↦ only_in mask o e n inside ∙ alike.each e n inside ∙ sym (only_in mask o' e n inside)
    | inr outside ↦ only_out mask o e n outside ∙ sym (only_out mask o' e n outside)
  ])),
  λ same. record { each = λ e n inside. sym (only_in mask o e n inside) ∙ ap (λ v. v e n) same ∙ only_in mask o' e n inside },
)
