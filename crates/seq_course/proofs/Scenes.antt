-- Events that are made one part after the other.
use Rattle.std.proofs.Common.{◌≡◌, ℕ, zero, suc, ◌+◌, ◌-◌, ◌≤◌, List, [], ◌∷◌, ◌++◌, length, refl, sym, ◌∙◌, ap, subst, arith, append-nil, append_assoc, length-append, take, Result, Ok, Err, IsErrAnd, IfErr}
use Rattle.std.proofs.lemmas.List.{take_all}
use Rattle.seq_words.specs.Description.{line_count}
use Rattle.seq_words.specs.declared.description.MachineDesc.{MachineDesc}
use Rattle.seq_words.specs.declared.kinds.Element.{Element}
use Rattle.seq_words.specs.declared.events.Event.{Event}
use Rattle.seq_schedule.specs.declared.script.Script.{Script}
use Rattle.seq_schedule.specs.Scripted.{times, turn_of}
use Rattle.seq_turns.specs.Machines.{Machine}
use Rattle.seq_machine.specs.declared.hardware.Hardware.{Hardware}
use Rattle.seq_machine.specs.declared.hardware.Stop.{Stop}
use Rattle.seq_machine.specs.Making.{MayMake, IsReadyFor}
use Rattle.seq_machine.specs.Starting.{machine_at_start}
use Rattle.seq_course.specs.Course.{machine_after}
use Rattle.seq_course.proofs.Runs.{run-append, may_begin, may_follow, unchecked_rest}
use Rattle.seq_course.specs.Making.{Scene, LedTo, MayCome, Stays, Makes, HaltsAt, Breaks, BreaksScript}

-- room for more is room for less
pub ready_less : (n k : ℕ) (h : Hardware) → k ≤ n → IsReadyFor n h → IsReadyFor k h
ready_less n k h le ready = record { number = ready.number; ready = ready.ready; room = (let room = ready.room in omega (arith, le, room)) }

-- ---- parts
pub stays_here : (a : Scene) → Stays a a
stays_here a = record { desc = refl; hung = refl; room = refl }

pub stays_on : (a b c : Scene) → Stays a b → Stays b c → Stays a c
stays_on a b c one two = record { desc = two.desc ∙ one.desc; hung = two.hung ∙ one.hung; room = two.room ∙ one.room }

pub makes_none : (a : Scene) → Makes [] a a
makes_none a = record {
  led = λ d begun es l. subst (λ (xs : List Event). LedTo d begun xs a) (sym (append-nil es)) l;
  keeps = record { ready = λ n ready. ready_less (0 + n) n a.hardware (omega arith) ready; stays = stays_here a; number = refl };
}

pub makes_more : (xs ys : List Event) (a b c : Scene) → Makes xs a b → Makes ys b c → Makes (xs ++ ys) a c
makes_more xs ys a b c one two = record {
  led = λ d begun es l. subst (λ (zs : List Event). LedTo d begun zs c) (append_assoc es xs ys) (two.led d begun (es ++ xs) (one.led d begun es l));
  keeps = record {
    ready = λ n ready. two.keeps.ready n (one.keeps.ready (length ys + n) (ready_less (length (xs ++ ys) + n) (length xs + (length ys + n)) a.hardware (omega (arith, length-append xs ys)) ready));
    stays = stays_on a b c one.keeps.stays two.keeps.stays;
    number = two.keeps.number ∙ one.keeps.number;
  };
}

pub may_first : (xs ys : List Event) (a : Scene) → MayCome (xs ++ ys) a → MayCome xs a
may_first xs ys a may = record {
  ready = ready_less (length (xs ++ ys)) (length xs) a.hardware (omega (arith, length-append xs ys)) may.ready;
  lines = may.lines;
  desc = may.desc;
  begun = may.begun;
  made = may.made;
  led = may.led;
  allowed = may_begin may.desc xs ys (machine_after may.desc may.made) may.allowed;
}

pub may_rest : (xs ys : List Event) (a b : Scene) → MayCome (xs ++ ys) a → Makes xs a b → MayCome ys b
may_rest xs ys a b may one = record {
  ready = one.keeps.ready (length ys) (ready_less (length (xs ++ ys)) (length xs + length ys) a.hardware (omega (arith, length-append xs ys)) may.ready);
  lines = (let lines = may.lines in let counts = ap (λ (d : MachineDesc). line_count d) one.keeps.stays.desc in let number = one.keeps.number in omega (arith, lines, counts, number));
  desc = may.desc;
  begun = may.begun;
  made = may.made ++ xs;
  led = one.led may.desc may.begun may.made may.led;
  allowed = subst (λ (m : Machine). MayMake may.desc ys m) (sym (run-append may.desc may.made xs (machine_at_start may.desc))) (
      may_follow may.desc xs ys (machine_after may.desc may.made) may.allowed (unchecked_rest may.desc may.made xs (machine_at_start may.desc) (one.led may.desc may.begun may.made may.led).unchecked));
}

-- the first part breaks, or the second does
pub breaks_first : (xs ys : List Event) (a b : Scene) (stop : Stop) → Breaks xs a b stop → Breaks (xs ++ ys) a b stop
breaks_first xs ys a b stop broken = record {
  halts = λ d begun es l.
      let h = broken.halts d begun es l in
      record { part = h.part; event = h.event; rest = h.rest ++ ys; parts = ap (λ (zs : List Event). zs ++ ys) h.parts ∙ append_assoc h.part (h.event ∷ h.rest) ys; halts = h.halts };
  stays = broken.stays;
}

pub breaks_later : (xs ys : List Event) (a b c : Scene) (stop : Stop) → Makes xs a b → Breaks ys b c stop → Breaks (xs ++ ys) a c stop
breaks_later xs ys a b c stop one broken = record {
  halts = λ d begun es l.
      let h = broken.halts d begun (es ++ xs) (one.led d begun es l) in
      record {
        part = xs ++ h.part;
        event = h.event;
        rest = h.rest;
        parts = ap (λ (zs : List Event). xs ++ zs) h.parts ∙ sym (append_assoc xs h.part (h.event ∷ h.rest));
        halts = subst (λ (zs : List Event). HaltsAt d begun zs h.event c stop) (append_assoc es xs h.part) h.halts;
      };
  stays = stays_on a b c one.keeps.stays broken.stays;
}

-- ---- in the midst of a list: some events of it are made, and these are left
pub record Amid (done left : List Event) (start now : Scene) : Type 0 where
  pub made : Makes done start now
  pub may : MayCome left now

pub amid_begins : (more : List Event) (a : Scene) → MayCome more a → Amid [] more a a
amid_begins more a may = record { made = makes_none a; may = may }

-- none of so many times is made
pub times_begin : (n : ℕ) (es : List Event) (a : Scene) → MayCome (times n es) a → Amid (times 0 es) (times (n - 0) es) a a
unfolding times
times_begin n es a may = subst (λ (k : ℕ). Amid [] (times k es) a a) (let same : n ≡ n - 0 = omega arith in same) (amid_begins (times n es) a may)

-- of no event nothing is made
pub times_of_none : (n : ℕ) (a : Scene) → Makes (times n []) a a
unfolding times
times_of_none zero a = makes_none a
times_of_none (suc n) a = times_of_none n a

-- turns of the same element may be made
pub turns_may : (n : ℕ) (x y : Element) (a : Scene) → x ≡ y → MayCome (times n (turn_of x)) a → MayCome (times n (turn_of y)) a
turns_may n x y a is may = subst (λ (z : Element). MayCome (times n (turn_of z)) a) is may

-- all of them are
pub times_end : (k n : ℕ) (es left : List Event) (a b : Scene) → k ≤ n → n ≤ k → Amid (times k es) left a b → Makes (times n es) a b
times_end k n es left a b le past amid = subst (λ (i : ℕ). Makes (times i es) a b) (let same : k ≡ n = omega (arith, le, past) in same) amid.made

pub amid_may : (done ys zs left : List Event) (a b : Scene) → left ≡ ys ++ zs → Amid done left a b → MayCome ys b
amid_may done ys zs left a b is amid = may_first ys zs b (subst (λ (l : List Event). MayCome l b) is amid.may)

pub amid_on : (done ys zs left next : List Event) (a b c : Scene) → left ≡ ys ++ zs → next ≡ done ++ ys → Amid done left a b → Makes ys b c → Amid next zs a c
amid_on done ys zs left next a b c is on amid one = record {
  made = subst (λ (l : List Event). Makes l a c) (sym on) (makes_more done ys a b c amid.made one);
  may = may_rest ys zs b c (subst (λ (l : List Event). MayCome l b) is amid.may) one;
}

pub amid_breaks : (done ys zs more : List Event) (a b c : Scene) (stop : Stop) → more ≡ done ++ (ys ++ zs) → Makes done a b → Breaks ys b c stop → Breaks more a c stop
amid_breaks done ys zs more a b c stop is made broken =
    subst (λ (l : List Event). Breaks l a c stop) (sym is) (breaks_later done (ys ++ zs) a b c stop made (breaks_first ys zs b c stop broken))

pub list_end : (i : ℕ) (es left : List Event) (a b : Scene) → length es ≤ i → Amid (take i es) left a b → Makes es a b
list_end i es left a b past amid = subst (λ (l : List Event). Makes l a b) (take_all i es past) amid.made

-- what an error was before `?` handed it on
pub breaks_from : {A : Type 0} (more : List Event) (a b : Scene) (r : Result A Stop) (s : Stop) → IsErrAnd r (λ e. e ≡ s) → Breaks more a b s → IfErr r (Breaks more a b)
breaks_from more a b (Ok x) s is broken = tt
breaks_from more a b (Err e) s is broken = subst (λ (x : Stop). Breaks more a b x) (sym is) broken

pub script_breaks_from : {A : Type 0} (script : Script) (a b : Scene) (r : Result A Stop) (s : Stop) → IsErrAnd r (λ e. e ≡ s) → BreaksScript script a b s → IfErr r (BreaksScript script a b)
script_breaks_from script a b (Ok x) s is broken = tt
script_breaks_from script a b (Err e) s is broken = subst (λ (x : Stop). BreaksScript script a b x) (sym is) broken
