use Rattle.std.proofs.Common.{◌≡◌, ℕ, false, [], Option, Some, None, slice_index, sym, ap, ◌∙◌, subst}
use Rattle.seq_layout.specs.Shapes.{Shape}
use Rattle.seq_layout.specs.Copies.{copies}
use Rattle.seq_ruling.specs.Ruling.{HaveRulingWords, AreHeldByOneOf}
use Rattle.seq_cache.specs.Changes.{Changes}
use Rattle.seq_turns.specs.Machines.{copies_after}
use Rattle.seq_locks.specs.Turns.{is_taken}
use Rattle.seq_turns.specs.Reading.{status_word, ruling, goes_forward}
use Rattle.seq_turns.specs.Recoveries.{begins, recovers}
use Rattle.seq_turns.specs.Processors.{deserted, seeks}
use Rattle.seq_machine.specs.Here.{here, among, turned, change_of}
use Rattle.seq_machine.specs.Processors.{cursor_after}
use Rattle.seq_machine.specs.declared.turned.Turned.TheVariants.{Moved}
use Rattle.seq_machine.proofs.Recovering.{claimed_recovers}
use Rattle.seq_machine.proofs.Seeking.{found_is, nothing_is, found_within}
use Rattle.seq_machine.proofs.seeks.seek.Goals as goal

-- what does not matter
empty : Changes
empty = record { capacity = 0; changes = [] }

pub deserted-requires-clause-words : goal.deserted-requires-clause-words
deserted-requires-clause-words c = subst (λ (s : Shape). HaveRulingWords s (copies c.args.layout.now c.args.memories.now)) (sym c.requires.layout) c.requires.needs.words

pub deserted-requires-clause-holders : goal.deserted-requires-clause-holders
deserted-requires-clause-holders c =
    let p = copies c.args.layout.now c.args.memories.now in
    let there = subst (λ (s : Shape). AreHeldByOneOf c.args.desc.now.processors s p) (sym c.requires.layout) c.requires.needs.holders in
    subst (λ n. AreHeldByOneOf n c.args.layout.now p) (sym c.requires.processors) there

pub begin-requires-clause-words : goal.begin-requires-clause-words
begin-requires-clause-words c = subst (λ (s : Shape). HaveRulingWords s (copies c.args.layout.now c.args.memories.now)) (sym c.requires.layout) c.requires.needs.words

pub begin-requires-clause-process : goal.begin-requires-clause-process
begin-requires-clause-process c =
    let m = among (copies c.args.layout.now c.args.memories.now) empty (slice_index c.args.incarnations.now) c.args.cursor.now in
    found_within c.args.desc.now m c.in-Some.pid.0 (found_is (deserted c.args.desc.now m) c.in-Some.pid (c.in-Some.ensures empty c.args.cursor.now))

pub returns-in-Some-clause-turned : goal.returns-in-Some-clause-turned
returns-in-Some-clause-turned c cache =
    let d = c.args.desc.now in
    let p = copies c.args.layout.now c.args.memories.now in
    let m = among p cache (slice_index c.args.incarnations.now) c.args.cursor.now in
    let pe = c.args.pe.0 in
    let q = c.in-Some.pid.0 in
    let found : deserted d m ≡ Some q = found_is (deserted d m) c.in-Some.pid (c.in-Some.ensures cache c.args.cursor.now) in
    let silent = claimed_recovers d m pe (begins m pe q (goes_forward (ruling d p q))) in
    let hand : c.begin.new.hand ≡ (recovers d m pe q).hand = c.begin.ensures.row.hands (here p cache 0) 0 in
    (λ j. Moved (hand j) (sym silent.note j)) ∙ ap (λ (x : Option ℕ). turned (seeks d m pe x)) (sym found)

pub returns-in-Some-clause-copies : goal.returns-in-Some-clause-copies
returns-in-Some-clause-copies c cache =
    let d = c.args.desc.now in
    let p = copies c.args.layout.now c.args.memories.now in
    let m = among p cache (slice_index c.args.incarnations.now) c.args.cursor.now in
    let found : deserted d m ≡ Some c.in-Some.pid.0 = found_is (deserted d m) c.in-Some.pid (c.in-Some.ensures cache c.args.cursor.now) in
    c.begin.ensures.row.copies (here p cache 0) 0 ∙ ap (λ (x : Option ℕ). copies_after (change_of (seeks d m c.args.pe.0 x)) p) (sym found)

pub returns-in-Some-clause-cursor : goal.returns-in-Some-clause-cursor
returns-in-Some-clause-cursor c cache =
    let d = c.args.desc.now in
    let m = among (copies c.args.layout.now c.args.memories.now) cache (slice_index c.args.incarnations.now) c.args.cursor.now in
    let found : deserted d m ≡ Some c.in-Some.pid.0 = found_is (deserted d m) c.in-Some.pid (c.in-Some.ensures cache c.args.cursor.now) in
    ap (λ (x : Option ℕ). cursor_after (seeks d m c.args.pe.0 x) c.args.cursor.now) (sym found)

pub look-requires-clause-words : goal.look-requires-clause-words
look-requires-clause-words c = subst (λ (s : Shape). HaveRulingWords s (copies c.args.layout.now c.args.memories.now)) (sym c.requires.layout) c.requires.needs.words

pub look-requires-clause-untaken : goal.look-requires-clause-untaken
look-requires-clause-untaken c cache i free =
    subst (λ (s : Shape). is_taken s (copies c.args.layout.now c.args.memories.now) (status_word c.args.cursor.now) false ≡ false) (sym c.requires.layout) (c.requires.needs.untaken cache i free)

pub returns-in-None-clause-turned : goal.returns-in-None-clause-turned
returns-in-None-clause-turned c cache =
    let d = c.args.desc.now in
    let m = among (copies c.args.layout.now c.args.memories.now) cache (slice_index c.args.incarnations.now) c.args.cursor.now in
    let none : deserted d m ≡ None = nothing_is (deserted d m) (c.in-None.ensures cache c.args.cursor.now) in
    (λ j. Moved (c.look.ensures.hand cache j) (c.look.ensures.note cache j)) ∙ ap (λ (x : Option ℕ). turned (seeks d m c.args.pe.0 x)) (sym none)

pub returns-in-None-clause-copies : goal.returns-in-None-clause-copies
returns-in-None-clause-copies c cache =
    let d = c.args.desc.now in
    let p = copies c.args.layout.now c.args.memories.now in
    let m = among p cache (slice_index c.args.incarnations.now) c.args.cursor.now in
    let none : deserted d m ≡ None = nothing_is (deserted d m) (c.in-None.ensures cache c.args.cursor.now) in
    c.look.ensures.copies cache ∙ ap (λ (x : Option ℕ). copies_after (change_of (seeks d m c.args.pe.0 x)) p) (sym none)

pub returns-in-None-clause-cursor : goal.returns-in-None-clause-cursor
returns-in-None-clause-cursor c cache =
    let d = c.args.desc.now in
    let m = among (copies c.args.layout.now c.args.memories.now) cache (slice_index c.args.incarnations.now) c.args.cursor.now in
    let none : deserted d m ≡ None = nothing_is (deserted d m) (c.in-None.ensures cache c.args.cursor.now) in
    c.look.ensures.cursor ∙ ap (λ (x : Option ℕ). cursor_after (seeks d m c.args.pe.0 x) c.args.cursor.now) (sym none)
