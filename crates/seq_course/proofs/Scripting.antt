-- What the making of a script comes to.
use Rattle.std.proofs.Common.{◌≡◌, ℕ, ◌*◌, ◌≤◌, true, List, [], ◌∷◌, ◌++◌, length, map, refl, sym, ◌∙◌, ap, subst, arith}
use Rattle.seq_words.specs.declared.description.MachineDesc.{MachineDesc}
use Rattle.seq_words.specs.declared.names.LineNo.{LineNo}
use Rattle.seq_words.specs.declared.kinds.Element.{Element}
use Rattle.seq_words.specs.declared.events.Event.{Event}
use Rattle.seq_words.specs.declared.events.Event.TheVariants as event
use Rattle.seq_schedule.specs.declared.script.Script.{Script}
use Rattle.seq_schedule.specs.declared.script.Script.TheVariants as scripts
use Rattle.seq_schedule.specs.Scripted.{times, turn_of, round_of, events_in}
use Rattle.seq_machine.specs.declared.hardware.Stop.{Stop}
use Rattle.seq_machine.specs.Making.{MayMake}
use Rattle.seq_turns.specs.Machines.{Machine}
use Rattle.seq_course.specs.Course.{HasMade, made_by, GoesOn}
use Rattle.seq_course.specs.Room.{most_of}
use Rattle.seq_course.specs.Making.{Scene, LedTo, MayCome, Keeps, Makes, HaltsAmong, Breaks, all_of, IsMade, MakesScript, HaltsIn, BreaksScript}
use Rattle.seq_course.proofs.Lists.{length_times}
use Rattle.seq_course.proofs.Rounds.{length_round}

-- a script that makes the same events whatever the machine has come to
pub record IsPlain (s : Script) : Type 0 where
  pub same : (d : MachineDesc) (k : ℕ) → made_by d s k ≡ all_of d s
  pub made : (d : MachineDesc) (es : List Event) (k : ℕ) → HasMade d es s k
  pub goes_on : (d : MachineDesc) (es : List Event) → GoesOn d s es

pub one_plain : (e : Event) → IsPlain (scripts.One e)
unfolding events_in
one_plain e = record { same = λ d k. refl; made = λ d es k. tt; goes_on = λ d es. tt }

pub bytes_plain : (l : LineNo) (bytes : List ℕ) → IsPlain (scripts.Bytes l bytes)
unfolding events_in
bytes_plain l bytes = record { same = λ d k. refl; made = λ d es k. tt; goes_on = λ d es. tt }

pub turns_plain : (x : Element) (n : ℕ) → IsPlain (scripts.Turns x n)
unfolding events_in
turns_plain x n = record { same = λ d k. refl; made = λ d es k. tt; goes_on = λ d es. tt }

pub rounds_plain : (n : ℕ) → IsPlain (scripts.Rounds n)
unfolding events_in
rounds_plain n = record { same = λ d k. refl; made = λ d es k. tt; goes_on = λ d es. tt }

-- ---- their events
pub one_events : (d : MachineDesc) (e : Event) → all_of d (scripts.One e) ≡ e ∷ []
unfolding events_in
one_events d e = refl

pub bytes_events : (d : MachineDesc) (l : LineNo) (bytes : List ℕ) → all_of d (scripts.Bytes l bytes) ≡ map (λ byte. event.Input l byte) bytes
unfolding events_in
bytes_events d l bytes = refl

pub turns_events : (d : MachineDesc) (x : Element) (n : ℕ) → all_of d (scripts.Turns x n) ≡ times n (turn_of x)
unfolding events_in
turns_events d x n = refl

pub rounds_events : (d : MachineDesc) (n : ℕ) → all_of d (scripts.Rounds n) ≡ times n (round_of d)
unfolding events_in
rounds_events d n = refl

pub finish_events : (d : MachineDesc) (n : ℕ) → all_of d (scripts.Finish n) ≡ times n (round_of d)
unfolding events_in
finish_events d n = refl

pub finish_made : (d : MachineDesc) (n k : ℕ) → made_by d (scripts.Finish n) k ≡ times k (round_of d)
unfolding events_in
finish_made d n k = refl

-- ---- what the making of a plain script comes to
-- the script is plain, and stands for these events
pub record StandsFor (d : MachineDesc) (s : Script) (more : List Event) : Type 0 where
  pub plain : IsPlain s
  pub is : all_of d s ≡ more

module _ (d : MachineDesc) (s : Script) where
  pub one_stands : (e : Event) → s ≡ scripts.One e → StandsFor d s (e ∷ [])
  one_stands e is = subst (λ (x : Script). StandsFor d x (e ∷ [])) (sym is) (record { plain = one_plain e; is = one_events d e })

  pub bytes_stand : (l : LineNo) (bytes : List ℕ) → s ≡ scripts.Bytes l bytes → StandsFor d s (map (λ byte. event.Input l byte) bytes)
  bytes_stand l bytes is = subst (λ (x : Script). StandsFor d x (map (λ byte. event.Input l byte) bytes)) (sym is) (record { plain = bytes_plain l bytes; is = bytes_events d l bytes })

  pub turns_stand : (x : Element) (n : ℕ) → s ≡ scripts.Turns x n → StandsFor d s (times n (turn_of x))
  turns_stand x n is = subst (λ (y : Script). StandsFor d y (times n (turn_of x))) (sym is) (record { plain = turns_plain x n; is = turns_events d x n })

  pub rounds_stand : (n : ℕ) (round : List Event) → round ≡ round_of d → s ≡ scripts.Rounds n → StandsFor d s (times n round)
  rounds_stand n round round_is is =
      subst (λ (xs : List Event). StandsFor d s (times n xs)) (sym round_is) (subst (λ (x : Script). StandsFor d x (times n (round_of d))) (sym is) (record { plain = rounds_plain n; is = rounds_events d n }))

-- a `finish` may make all its rounds
pub finish_may : (s : Script) (n : ℕ) (round : List Event) (a : Scene) → s ≡ scripts.Finish n → round ≡ round_of a.hardware.desc → MayCome (all_of a.hardware.desc s) a → MayCome (times n round) a
finish_may s n round a is round_is may =
    let same : all_of a.hardware.desc s ≡ times n round =
    ap (λ (x : Script). all_of a.hardware.desc x) is ∙ finish_events a.hardware.desc n ∙ ap (λ (xs : List Event). times n xs) (sym round_is)
    in
    subst (λ (xs : List Event). MayCome xs a) same may

module _ (s : Script) (more : List Event) (a : Scene) (stands : StandsFor a.hardware.desc s more) where
  pub script_may : MayCome (all_of a.hardware.desc s) a → MayCome more a
  script_may may = subst (λ (xs : List Event). MayCome xs a) stands.is may

  module _ (b : Scene) where
    made_is : (k : ℕ) → more ≡ made_by a.hardware.desc s k
    made_is k = sym stands.is ∙ sym (stands.plain.same a.hardware.desc k)

    pub script_made : Makes more a b → MakesScript s true a b
    script_made makes = record {
      made = λ d begun es led.
          let P : MachineDesc → Type 0 = λ x. LedTo x begun es a → IsMade x begun es s true b in
          let here : P a.hardware.desc = λ l. record {
            rounds = 0;
            made = stands.plain.made a.hardware.desc es 0;
            led = subst (λ (xs : List Event). LedTo a.hardware.desc begun (es ++ xs) b) (made_is 0) (makes.led a.hardware.desc begun es l);
            ends = stands.plain.goes_on a.hardware.desc (es ++ made_by a.hardware.desc s 0);
          } in
          subst P led.machine.described here led;
      keeps = subst (λ (xs : List Event). Keeps (length xs) a b) (sym stands.is) makes.keeps;
    }

    pub script_breaks : (stop : Stop) → Breaks more a b stop → BreaksScript s a b stop
    script_breaks stop breaks = record {
      halts = λ d begun es led.
          let P : MachineDesc → Type 0 = λ x. LedTo x begun es a → HaltsIn x begun es s b stop in
          let here : P a.hardware.desc = λ l. record {
            rounds = 0;
            made = stands.plain.made a.hardware.desc es 0;
            among = subst (λ (xs : List Event). HaltsAmong a.hardware.desc begun es xs b stop) (made_is 0) (breaks.halts a.hardware.desc begun es l);
          } in
          subst P led.machine.described here led;
      stays = breaks.stays;
    }

-- ---- all that it may make may be made, if any number of rounds may
module _ (d : MachineDesc) (m : Machine) where
  pub all_may : (s : Script) → ((k : ℕ) → MayMake d (made_by d s k) m) → MayMake d (all_of d s) m
  unfolding events_in
  all_may (scripts.One e) each = each 0
  all_may (scripts.Bytes l bytes) each = each 0
  all_may (scripts.Turns x n) each = each 0
  all_may (scripts.Rounds n) each = each 0
  all_may (scripts.Finish n) each = each n

-- and there is room for it, if there is for what it has reached
module _ (d : MachineDesc) (es : List Event) where
  pub all_few : (s : Script) → ((k : ℕ) → HasMade d es s k → length (made_by d s k) ≤ most_of d s) → length (all_of d s) ≤ most_of d s
  unfolding events_in
  all_few (scripts.One e) each = each 0 tt
  all_few (scripts.Bytes l bytes) each = each 0 tt
  all_few (scripts.Turns x n) each = each 0 tt
  all_few (scripts.Rounds n) each = each 0 tt
  all_few (scripts.Finish n) each = (let long = length_times n (round_of d) ∙ ap (λ k. n * k) (length_round d) in omega (arith, long))
