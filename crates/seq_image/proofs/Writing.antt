-- Units that are written to copies of one kind.
use Rattle.std.proofs.Common.{◌≡◌, true, unwrap_or, refl, sym, ◌∙◌, ap}
use Rattle.std.proofs.lemmas.Bool.{and_parts}
use Rattle.seq_layout.specs.Copies.{serves}
use Rattle.seq_layout.proofs.Held.{serves_as_before}
use Rattle.seq_cache.specs.Changes.{changed}
use Rattle.seq_flush.specs.Facts.{all_written}
use Rattle.seq_flush.proofs.Layer.{all_states, written_block}
use Rattle.seq_image.specs.Areas.{served_in}
use Rattle.seq_image.specs.Flushing.{WritingLaysOver, WhatIsLeftStays}

pub writing_lays_over : WritingLaysOver
writing_lays_over s p c area us before after apart held lead = record {
  each = λ e n inside.
      let parts = and_parts (area e) (serves s (all_written s p c us) e c) inside in
      let serving : serves s p e c ≡ true = serves_as_before s p (all_written s p c us) e c (all_states s p c us) parts.1 in
      let both : served_in s p c area e ≡ true = rw (parts.0, serving) refl in
      written_block s p c us e n apart serving
      ∙ ap (unwrap_or (changed us e n)) (held.each e n both)
      ∙ lead.each e n parts.0;
}

pub what_is_left_stays : WhatIsLeftStays
what_is_left_stays s before now c area left o apart kept held = record {
  each = λ e n inside.
      let parts = and_parts (area e) (serves s (all_written s now c left) e c) inside in
      let serving : serves s now e c ≡ true = serves_as_before s now (all_written s now c left) e c (all_states s now c left) parts.1 in
      let served : serves s before e c ≡ true = kept.served e parts.0 serving in
      let served_after : serves s (all_written s before c left) e c ≡ true = serves_as_before s (all_written s before c left) before e c (sym (all_states s before c left)) served in
      let both : served_in s (all_written s before c left) c area e ≡ true = rw (parts.0, served_after) refl in
      written_block s now c left e n apart serving
      ∙ ap (unwrap_or (changed left e n)) (kept.block e n parts.0 serving)
      ∙ sym (written_block s before c left e n apart served)
      ∙ held.each e n both;
}
