-- The count over every list of events.
use Rattle.std.proofs.Common.{◌≡◌, ◌≢◌, ◌⊎◌, inl, inr, ℕ, zero, suc, ◌+◌, ◌*◌, ◌<◌, ◌≤◌, false, Option, Some, None, List, [], ◌∷◌, length, length-append, refl, ap, ◌∙◌, arith}
use Rattle.std.proofs.lemmas.Bool.{cases_eq}
use Rattle.seq_words.specs.declared.block.Block.{Block}
use Rattle.seq_words.specs.declared.description.MachineDesc.{MachineDesc}
use Rattle.seq_words.specs.declared.events.Event.{Event}
use Rattle.seq_words.specs.declared.events.Event.TheVariants as event
use Rattle.seq_words.specs.declared.events.Entry.{Entry}
use Rattle.seq_words.specs.declared.names.Pe.{Pe}
use Rattle.seq_turns.specs.Machines.{Machine, history_after}
use Rattle.seq_turns.specs.Events.{happens, run}
use Rattle.seq_turns.specs.Start.{start}
use Rattle.seq_stands.specs.Counts.{commit, is_turn, ahead_of, ahead_below, turns_in, CommitsAreCounted}
use Rattle.seq_stands.proofs.CountEvents.{turns_go_on_by_one, others_stay, only_turns_go_on, commits_come_late, histories_grow_by_commits, history_stays}

-- the processors below a number are no farther ahead together, where none of them is
no_farther : (m after : Machine) (n : ℕ) → ((q : ℕ) → ahead_of after q ≤ ahead_of m q) → ahead_below after n ≤ ahead_below m n
no_farther m after zero each = omega arith
no_farther m after (suc n) each = let before = no_farther m after n each in let last = each n in omega (arith, before, last)

-- where all but one stay as they are
module _ (m after : Machine) (p : ℕ) (others : (q : ℕ) → q ≢ p → ahead_of after q ≡ ahead_of m q) where
  all_stay : (n : ℕ) → n ≤ p → ahead_below after n ≡ ahead_below m n
  all_stay zero within = refl
  all_stay (suc n) within =
      let before = all_stay n (omega (arith, within)) in
      let last = others n (λ e. absurd (let c : ⊥ = omega (arith, e, within) in c)) in
      omega (arith, before, last)

  but_one : (n : ℕ) → p < n → ahead_below after n + ahead_of m p ≡ ahead_below m n + ahead_of after p
  but_one zero within = absurd (let c : ⊥ = omega (arith, within) in c)
  but_one (suc n) within = go (cases_eq n p) (λ lower. but_one n lower)
    where
      go : (n ≡ p) ⊎ (n ≡ p → ⊥) → (p < n → ahead_below after n + ahead_of m p ≡ ahead_below m n + ahead_of after p) → ahead_below after (suc n) + ahead_of m p ≡ ahead_below m (suc n) + ahead_of after p
      go (inl e) lower =
          let before = all_stay n (omega (arith, e)) in
          let old = ap (ahead_of m) e in
          let new = ap (ahead_of after) e in
          omega (arith, before, old, new)
      go (inr ne) lower =
          let before = lower (omega (arith, within, ne)) in
          let last = others n ne in
          omega (arith, before, last)

-- eleven for each entry, and those that the processors below a number are ahead
abbrev counted : Machine → ℕ → ℕ
counted m n = 11 * length m.history + ahead_below m n

module _ (d : MachineDesc) (n : ℕ) where
  by_turn : (m : Machine) (p : Pe) → p.0 < n → counted (happens d m (event.Processor p)) n ≤ suc (counted m n)
  by_turn m p there = go (commit d m (event.Processor p)) refl
    where
      sums : ahead_below (happens d m (event.Processor p)) n + ahead_of m p.0 ≡ ahead_below m n + ahead_of (happens d m (event.Processor p)) p.0
      sums = but_one m (happens d m (event.Processor p)) p.0 (others_stay d m p) n there

      grown : (o : Option Entry) → commit d m (event.Processor p) ≡ o → length (happens d m (event.Processor p)).history ≡ length (history_after o m.history)
      grown o e = ap length (histories_grow_by_commits d m (event.Processor p) ∙ ap (λ x. history_after x m.history) e)

      go : (o : Option Entry) → commit d m (event.Processor p) ≡ o → counted (happens d m (event.Processor p)) n ≤ suc (counted m n)
      go None e =
          let same = grown None e in
          let one = turns_go_on_by_one d m p in
          omega (arith, sums, same, one)
      go (Some entry) e =
          let more = grown (Some entry) e ∙ length-append m.history (entry ∷ []) in
          let late = (commits_come_late d m p entry e).late in
          let anew = (commits_come_late d m p entry e).anew in
          omega (arith, sums, more, late, anew)

  by_other : (m : Machine) (e : Event) → is_turn e ≡ false → counted (happens d m e) n ≤ counted m n
  by_other m e not_turn =
      let same = ap length (history_stays d m e not_turn) in
      let less = no_farther m (happens d m e) n (λ q. only_turns_go_on d m e q not_turn) in
      omega (arith, same, less)

-- a number above those of all processors that take turns
reach : List Event → ℕ
reach [] = 0
reach (event.Processor p ∷ es) = suc p.0 + reach es
reach (_ ∷ es) = reach es

over : (d : MachineDesc) (n : ℕ) (events : List Event) (m : Machine) → reach events ≤ n → counted (run d events m) n ≤ counted m n + turns_in events
unfolding reach
over d n [] m few = omega arith
over d n (event.Processor p ∷ es) m few =
    let first = by_turn d n m p (omega (arith, few)) in
    let rest = over d n es (happens d m (event.Processor p)) (omega (arith, few)) in
    omega (arith, first, rest)
over d n (event.Io i ∷ es) m few = let first = by_other d n m (event.Io i) refl in let rest = over d n es (happens d m (event.Io i)) few in omega (arith, first, rest)
over d n (event.Input l byte ∷ es) m few = let first = by_other d n m (event.Input l byte) refl in let rest = over d n es (happens d m (event.Input l byte)) few in omega (arith, first, rest)
over d n (event.Close l ∷ es) m few = let first = by_other d n m (event.Close l) refl in let rest = over d n es (happens d m (event.Close l)) few in omega (arith, first, rest)
over d n (event.Fail e ∷ es) m few = let first = by_other d n m (event.Fail e) refl in let rest = over d n es (happens d m (event.Fail e)) few in omega (arith, first, rest)
over d n (event.Repair e ∷ es) m few = let first = by_other d n m (event.Repair e) refl in let rest = over d n es (happens d m (event.Repair e)) few in omega (arith, first, rest)
over d n (event.Upset p half reg mask ∷ es) m few =
    let first = by_other d n m (event.Upset p half reg mask) refl in
    let rest = over d n es (happens d m (event.Upset p half reg mask)) few in
    omega (arith, first, rest)
over d n (event.Hangup l ∷ es) m few = let first = by_other d n m (event.Hangup l) refl in let rest = over d n es (happens d m (event.Hangup l)) few in omega (arith, first, rest)

-- more processors are no less ahead together
grows : (m : Machine) (k j : ℕ) → ahead_below m k ≤ ahead_below m (k + j)
grows m k zero =
    let same : k + 0 ≡ k = omega arith in
    let both = ap (ahead_below m) same in
    omega (arith, both)
grows m k (suc j) =
    let before = grows m k j in
    let same : k + suc j ≡ suc (k + j) = omega arith in
    let both : ahead_below m (k + suc j) ≡ ahead_below m (k + j) + ahead_of m (k + j) = ap (ahead_below m) same in
    omega (arith, before, both)

-- at the start none is ahead
none : (d : MachineDesc) (image : ℕ → ℕ → Block) (n : ℕ) → ahead_below (start d image) n ≡ 0
none d image zero = refl
none d image (suc n) = let before = none d image n in omega (arith, before)

pub commits_are_counted : CommitsAreCounted
commits_are_counted d image events =
    let m = run d events (start d image) in
    let all = over d (d.processors + reach events) events (start d image) (omega arith) in
    let more = grows m d.processors (reach events) in
    let zero = none d image (d.processors + reach events) in
    omega (arith, all, more, zero)
