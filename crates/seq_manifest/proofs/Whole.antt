-- The parts of a text without a fault are those of a draft.
use Rattle.std.proofs.Common.{◌≡◌, ℕ, ◌<◌, Bool, true, false, not, ◌&&◌, ltb, map, ◌⊎◌, Some, None, List, [], length, refl, sym, ap, subst, ◌∙◌, arith}
use Rattle.std.specs.List.{list_any}
use Rattle.std.proofs.lemmas.Bool.{and_parts, and_from, leb-true, eqb-true, lt-ltb, both_ways}
use Rattle.std.proofs.lemmas.List.Elements.{All-from_recursion}
use Rattle.seq_words.specs.Masks.{has_bit}
use Rattle.seq_words.specs.Description.{IsBetween, IsSize}
use Rattle.seq_manifest.specs.declared.draft.Draft.{Draft}
use Rattle.seq_manifest.specs.declared.parts.Parts.{Parts}
use Rattle.seq_manifest.specs.Statements.{is_file}
use Rattle.seq_manifest.specs.Drafts.{said_by, parts_of, IsSegmentDraft, IsProcessDraft, IsDraft, Describes}
use Rattle.seq_manifest.specs.Faults.{is_owned, is_within, some_below, has_gap, end_rule}
use Rattle.seq_manifest.specs.Taking.{IsParts}
use Rattle.seq_manifest.proofs.Saying.{owned-said_by}
use Rattle.seq_manifest.proofs.Below.{some_below-from}
use Rattle.seq_manifest.proofs.Texts.{IsEnded-from, IsReading, reading_says}
use Rattle.seq_manifest.proofs.Numbering.{lines_few, numbered}

between-from : (least most unit n : ℕ) → is_within least most unit n ≡ true → IsBetween least most n
between-from least most unit n e = let p = and_parts _ _ (and_parts _ _ e).0 in record { low_at = leb-true _ _ p.0; high_at = leb-true _ _ p.1 }

size_from : (most n : ℕ) → is_within 32 most 32 n ≡ true → IsSize most n
size_from most n e = record { between = between-from 32 most 32 n e; whole = eqb-true _ _ (and_parts _ _ e).1 }

-- no line without an owner stands below one that has one
no_gap : (p : Parts) → IsParts p → has_gap (said_by p) ≡ false → (l above : ℕ) → above < 16 → l < above → list_any (λ q. has_bit q.lines above) p.processes ≡ true → list_any (λ q. has_bit q.lines l) p.processes ≡ true
unfolding has_gap
no_gap p parts none l above lt below owned =
    let small : l < 16 = omega arith in
    true_else (list_any (λ q. has_bit q.lines l) p.processes) (λ out.
    let here : not (is_owned (said_by p) l) ≡ true = ap not (sym (owned-said_by p l parts small) ∙ out) in
    let there = some_below-from 16 above (λ a. ltb l a && is_owned (said_by p) a) lt (and_from _ _ (lt-ltb _ _ below) (sym (owned-said_by p above parts lt) ∙ owned)) in
    both_ways _ none (some_below-from 16 l (λ l. not (is_owned (said_by p) l) && some_below 16 (λ a. ltb l a && is_owned (said_by p) a)) small (and_from _ _ here there)))
  where
    true_else : (b : Bool) → (b ≡ false → ⊥) → b ≡ true
    true_else true h = refl
    true_else false h = absurd (h refl)

draft_of_parts : (d : Draft) → IsParts (parts_of d) → end_rule (said_by (parts_of d)) ≡ None → IsDraft d
draft_of_parts d parts none =
    let ended = IsEnded-from (parts_of d) parts none in
    let a2 = and_parts (is_within 1 8 1 d.desc.processors) _ parts.allowed in
    let a3 = and_parts (is_within 2 8 1 d.desc.memories) _ a2.1 in
    let a4 = and_parts (is_within 1 4 1 d.desc.ios) _ a3.1 in
    let a5 = and_parts (is_within 16 256 1 d.desc.cache) _ a4.1 in
    let a6 = and_parts (is_within 1 10000 1 d.desc.quantum) _ a5.1 in
    let a7 = and_parts (is_within 32 65536 32 d.desc.journal) true a6.1 in
    record {
      processors = between-from 1 8 1 d.desc.processors a2.0;
      memories = between-from 2 8 1 d.desc.memories a3.0;
      ios = between-from 1 4 1 d.desc.ios a4.0;
      cache = between-from 16 256 1 d.desc.cache a5.0;
      quantum = between-from 1 10000 1 d.desc.quantum a6.0;
      journal = size_from 65536 d.desc.journal a7.0;
      segments = parts.segments;
      each_segment = All-from_recursion IsSegmentDraft d.desc.segments parts.each_segment;
      firsts = parts.firsts;
      each_first = All-from_recursion (λ name. (name ≡ []) ⊎ (is_file name ≡ true)) d.firsts parts.each_first;
      processes = record { low_at = ended.some; high_at = parts.processes };
      each_process = All-from_recursion (IsProcessDraft (length d.desc.segments)) d.desc.processes parts.each_process;
      images = parts.images;
      each_image = All-from_recursion (λ name. is_file name ≡ true) d.images parts.each_image;
      few_lines = lines_few (length d.desc.segments) d.desc.processes parts.each_process parts.apart;
      lines = numbered (length d.desc.segments) d.desc.processes parts.each_process parts.apart (no_gap (parts_of d) parts ended.no_gap);
    }

pub IsDraft-from : (p : Parts) (d : Draft) → IsParts p → end_rule (said_by p) ≡ None → parts_of d ≡ p → IsDraft d
IsDraft-from p d parts none e = draft_of_parts d (subst IsParts (sym e) parts) (ap (λ p. end_rule (said_by p)) e ∙ none)

-- what the code has read is what the text describes
pub Describes-from : (text rest : List ℕ) (p : Parts) (d : Draft) (place : ℕ) → IsReading text p place rest → length rest ≡ 0 → None ≡ end_rule (said_by p) → parts_of d ≡ p → Describes text d
Describes-from text rest p d place r e none same = record {
  lines = reading_says text rest p place r e ∙ ap (λ p. map (λ s. Some s) (said_by p)) (sym same);
  draft = IsDraft-from p d r.parts (sym none) same;
}
