-- What the rounds of a `finish` come to.
use Rattle.std.proofs.Common.{◌≡◌, inl, inr, ℕ, ◌+◌, ◌-◌, ◌<◌, ◌≤◌, Bool, true, false, IsTrue, ◌↔◌, List, ◌++◌, length, refl, sym, ◌∙◌, ap, subst, arith}
use Rattle.std.proofs.lemmas.Bool.{cases_lt, false≢true}
use Rattle.seq_words.specs.declared.description.MachineDesc.{MachineDesc}
use Rattle.seq_words.specs.declared.events.Event.{Event}
use Rattle.seq_shelf.specs.Told.{LineView}
use Rattle.seq_schedule.specs.declared.script.Script.TheVariants as scripts
use Rattle.seq_schedule.specs.Scripted.{times, round_of}
use Rattle.seq_turns.specs.Machines.{Machine}
use Rattle.seq_lines.specs.Settled.{IsSettled}
use Rattle.seq_machine.specs.declared.hardware.Hardware.{Hardware}
use Rattle.seq_machine.specs.declared.hardware.Stop.{Stop}
use Rattle.seq_machine.specs.Plain.{Outside, machine_of, outside_of, IsOutside}
use Rattle.seq_course.specs.Course.{machine_after, SettledAfter, made_by}
use Rattle.seq_course.specs.Making.{Scene, LedTo, Makes, HaltsAmong, Breaks, all_of, EndsAs, MakesScript, BreaksScript}
use Rattle.seq_course.proofs.Scenes.{Amid, ready_less, breaks_later}
use Rattle.seq_course.proofs.Lists.{times_more, fewer_times}
use Rattle.seq_course.proofs.Scripting.{finish_events, finish_made}

-- the machine wasn't settled before any of the rounds made so far
abbrev pub Unsettled : ℕ → Scene → Type 0
Unsettled k a = (d : MachineDesc) (begun : Scene) (es : List Event) → LedTo d begun es a → (j : ℕ) → j < k → SettledAfter d (es ++ times j (round_of d)) → ⊥

-- so many of the rounds are made, and the others are left
pub record Rounding (n k : ℕ) (round : List Event) (a b : Scene) : Type 0 where
  pub amid : Amid (times k round) (times (n - k) round) a b
  pub unsettled : Unsettled k a

-- what is said of the machine here
abbrev pub SaysSettled : Bool → Hardware → List LineView → List Bool → Type 0
SaysSettled on h lines marks = (o : Outside) → IsOutside lines marks o → IsTrue on ↔ IsSettled h.desc (machine_of h o)

pub says_as : (x y : Bool) (h : Hardware) (lines : List LineView) (marks : List Bool) → x ≡ y → SaysSettled x h lines marks → SaysSettled y h lines marks
says_as x y h lines marks e says = subst (λ (on : Bool). SaysSettled on h lines marks) e says

module _ (on : Bool) (b : Scene) (says : SaysSettled on b.hardware b.lines b.marks) (d : MachineDesc) (begun : Scene) (es : List Event) (led : LedTo d begun es b) where
  settled_then : IsTrue on ↔ SettledAfter d es
  settled_then =
      let P : Machine → Type 0 = λ m. IsTrue on ↔ IsSettled b.hardware.desc m in
      let Q : MachineDesc → Type 0 = λ x. IsTrue on ↔ IsSettled x (machine_after d es) in
      subst Q led.machine.described (subst P led.machine.machine (says (outside_of (machine_after d es)) led.machine.shown))

module _ (n : ℕ) (a : Scene) (round : List Event) (is : round ≡ round_of a.hardware.desc) where
  module _ (d : MachineDesc) (begun : Scene) (es : List Event) (led : LedTo d begun es a) where
    round_is : round ≡ round_of d
    round_is = is ∙ ap (λ (x : MachineDesc). round_of x) led.machine.described

    rounds_are : (k : ℕ) → times k round ≡ made_by d (scripts.Finish n) k
    rounds_are k = ap (λ (xs : List Event). times k xs) round_is ∙ sym (finish_made d n k)

  -- one round more
  module _ (k : ℕ) (b : Scene) (makes : Makes (times k round) a b) (unsettled : Unsettled k a) where
    pub unsettled_more : SaysSettled false b.hardware b.lines b.marks → Unsettled (k + 1) a
    unsettled_more says d begun es led j lt settled = elim (cases_lt j k) [
      | inl before ↦ unsettled d begun es led j before settled
      | inr past ↦
          let here : LedTo d begun (es ++ times k round) b = makes.led d begun es led in
          let same : es ++ times j (round_of d) ≡ es ++ times k round = ap (λ (i : ℕ). es ++ times i (round_of d)) (let at : j ≡ k = omega (arith, lt, past) in at) ∙ ap (λ (xs : List Event). es ++ times k xs) (sym (round_is d begun es led)) in
          absurd (false≢true ((settled_then false b says d begun (es ++ times k round) here).1 (subst (λ (xs : List Event). SettledAfter d xs) same settled)))
    ]

    -- the end
    ends_as : (on : Bool) (d : MachineDesc) (es : List Event) → (on ≡ false → k ≡ n) → (IsTrue on ↔ SettledAfter d es) → EndsAs d (scripts.Finish n) k es on
    ends_as true d es last settled = settled.0 refl
    ends_as false d es last settled = (last refl, λ s. absurd (false≢true (settled.1 s)))

    pub finish_ends : (on : Bool) → k ≤ n → (on ≡ false → k ≡ n) → SaysSettled on b.hardware b.lines b.marks → MakesScript (scripts.Finish n) on a b
    finish_ends on le last says = record {
      made = λ d begun es led.
          let here : LedTo d begun (es ++ made_by d (scripts.Finish n) k) b = subst (λ (xs : List Event). LedTo d begun (es ++ xs) b) (rounds_are d begun es led k) (makes.led d begun es led) in
          record {
            rounds = k;
            made = record { most = le; unsettled = unsettled d begun es led };
            led = here;
            ends = ends_as on d (es ++ made_by d (scripts.Finish n) k) last (settled_then on b says d begun (es ++ made_by d (scripts.Finish n) k) here);
          };
      keeps = record {
        ready = λ m ready. makes.keeps.ready m (ready_less (length (all_of a.hardware.desc (scripts.Finish n)) + m) (length (times k round) + m) a.hardware
            (let fewer = fewer_times k n round le in
            let all = ap length (finish_events a.hardware.desc n ∙ ap (λ (xs : List Event). times n xs) (sym is)) in
            omega (arith, fewer, all)) ready);
        stays = makes.keeps.stays;
        number = makes.keeps.number;
      };
    }

    pub finish_breaks : (c : Scene) (stop : Stop) → k < n → SaysSettled false b.hardware b.lines b.marks → Breaks round b c stop → BreaksScript (scripts.Finish n) a c stop
    finish_breaks c stop lt says broken =
        let all : Breaks (times k round ++ round) a c stop = breaks_later (times k round) round a b c stop makes broken in
        record {
          halts = λ d begun es led. record {
            rounds = k + 1;
            made = record { most = omega (arith, lt); unsettled = unsettled_more says d begun es led };
            among = subst (λ (xs : List Event). HaltsAmong d begun es xs c stop) (sym (times_more k round) ∙ rounds_are d begun es led (k + 1)) (all.halts d begun es led);
          };
          stays = all.stays;
        }
