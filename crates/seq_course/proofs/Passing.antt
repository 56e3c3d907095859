-- What is passed, item by item: its events may be made, and the next item follows the rules.
use Rattle.std.proofs.Common.{◌≡◌, ◌≢◌, ℕ, None, List, [], ◌∷◌, ◌++◌, refl, sym, subst}
use Rattle.std.specs.List.{All}
use Rattle.std.proofs.lemmas.Bool.{false≢true}
use Rattle.std.proofs.lemmas.List.Elements.{All-head, All-tail}
use Rattle.seq_words.specs.Description.{IsDescription}
use Rattle.seq_words.specs.declared.description.MachineDesc.{MachineDesc}
use Rattle.seq_words.specs.declared.events.Event.{Event}
use Rattle.seq_memory.specs.declared.element.State.{State}
use Rattle.seq_memory.specs.declared.element.State.TheVariants.{InService, Down}
use Rattle.seq_schedule.specs.declared.script.Script.{Script}
use Rattle.seq_schedule.specs.declared.script.Item.{Item}
use Rattle.seq_schedule.specs.Rules.{past, rule_of}
use Rattle.seq_schedule.specs.Faultless.{IsBuiltScript, FollowRules, AreFaultless}
use Rattle.seq_start.specs.Begun.{start_image}
use Rattle.seq_turns.specs.Events.{run}
use Rattle.seq_stands.proofs.Fitting.{starts_serving}
use Rattle.seq_machine.specs.Starting.{machine_at_start}
use Rattle.seq_course.specs.Course.{machine_after, made_by, GoesOnTo, Passes}
use Rattle.seq_course.specs.Troubles.{Agrees}
use Rattle.seq_course.proofs.Agreeing.{scripts_agree}
use Rattle.seq_course.proofs.Runs.{run-append}
use Rattle.seq_course.proofs.Ports.{IsAt, LeadTo}
use Rattle.seq_course.proofs.Scripts.{arrived_by, closed_by, script_leads}

-- ---- passes by their parts

passes_on_from : (d : MachineDesc) (front : List Item) (i : Item) (from es next : List Event) → Passes d from front es → GoesOnTo d es i.script next → Passes d from (front ++ i ∷ []) next
unfolding Passes
passes_on_from d [] i from es next passes goes = (next, subst (λ (e : List Event). GoesOnTo d e i.script next) passes goes, refl)
passes_on_from d (j ∷ front) i from es next passes goes = (passes.0, passes.1, passes_on_from d front i passes.0 es next passes.2 goes)

pub passes_one_more : (d : MachineDesc) (front : List Item) (i : Item) (es next : List Event) → Passes d [] front es → GoesOnTo d es i.script next → Passes d [] (front ++ i ∷ []) next
passes_one_more d front i es next passes goes = passes_on_from d front i [] es next passes goes

-- the last item that is passed
pub record PassesLast (d : MachineDesc) (from : List Event) (front : List Item) (i : Item) (es : List Event) : Type 0 where
  pub before : List Event
  pub passes : Passes d from front before
  pub goes : GoesOnTo d before i.script es

pub passes_last : (d : MachineDesc) (front : List Item) (i : Item) (from es : List Event) → Passes d from (front ++ i ∷ []) es → PassesLast d from front i es
unfolding Passes
passes_last d [] i from es passes = record { before = from; passes = refl; goes = subst (λ (e : List Event). GoesOnTo d from i.script e) (sym passes.2) passes.1 }
passes_last d (j ∷ front) i from es passes =
    let last = passes_last d front i passes.0 es passes.2 in
    record { before = last.before; passes = (passes.0, passes.1, last.passes); goes = last.goes }

-- ---- items that follow the rules behind events that were made

-- Scripts were made by these events, the machine agrees with what they have done, and these items follow the rules behind them.
pub record Follow (d : MachineDesc) (es : List Event) (items : List Item) : Type 0 where
  pub before : List Script
  pub at : IsAt (arrived_by before) (closed_by before) (machine_after d es)
  pub agrees : Agrees d before (machine_after d es)
  pub follow : FollowRules d before items
  pub built : All (λ i. IsBuiltScript i.script) items

-- what is in service isn't down
serves_up : (s : State) → s ≡ InService → s ≢ Down
serves_up s serves down = absurd (let c : ⊥ = cc in c)

-- at the start nothing has failed, and no half is struck
start_agrees : (d : MachineDesc) → Agrees d [] (machine_at_start d)
start_agrees d = record {
  processors = λ p failed. absurd (false≢true failed);
  down = λ i failed. absurd (false≢true failed);
  up = λ i there works. serves_up _ (starts_serving d (start_image d) i.0 there);
  ios = λ i. refl;
  halves = λ p h e. absurd (let c : ⊥ = cc in c);
}

pub start_follows : (d : MachineDesc) (items : List Item) → AreFaultless d items → Follow d [] items
start_follows d items faultless = record {
  before = [];
  at = record { arrived_is = λ l. refl; closed_is = λ l. refl };
  agrees = start_agrees d;
  follow = faultless.follow;
  built = faultless.built;
}

pub follow_head : (d : MachineDesc) (before : List Script) (i : Item) (items : List Item) → FollowRules d before (i ∷ items) → rule_of d (past d before) i.script ≡ None
unfolding FollowRules
follow_head d before i items f = f.0

follow_tail : (d : MachineDesc) (before : List Script) (i : Item) (items : List Item) → FollowRules d before (i ∷ items) → FollowRules d (i.script ∷ before) items
unfolding FollowRules
follow_tail d before i items f = f.1

abbrev IsBuiltItem : Item → Type 0
IsBuiltItem i = IsBuiltScript i.script

module _ (d : MachineDesc) (described : IsDescription d) where
  -- the next item may be made, with any number of rounds
  pub next_leads : (es : List Event) (i : Item) (items : List Item) (f : Follow d es (i ∷ items)) (k : ℕ) → LeadTo d (made_by d i.script k) (machine_after d es) (arrived_by (i.script ∷ f.before)) (closed_by (i.script ∷ f.before))
  next_leads es i items f k = script_leads d described f.before (machine_after d es) f.at f.agrees i.script k (All-head IsBuiltItem i items f.built) (follow_head d f.before i items f.follow)

  follows_on : (es next : List Event) (i : Item) (items : List Item) → Follow d es (i ∷ items) → GoesOnTo d es i.script next → Follow d next items
  follows_on es next i items f goes =
      let made : List Event = made_by d i.script goes.rounds in
      let before : List Script = i.script ∷ f.before in
      let is_there : machine_after d (es ++ made) ≡ run d made (machine_after d es) = run-append d es made (machine_at_start d) in
      let more : Follow d (es ++ made) items = record {
        before = before;
        at = subst (IsAt (arrived_by before) (closed_by before)) (sym is_there) (next_leads es i items f goes.rounds).at;
        agrees = subst (Agrees d before) (sym is_there) (scripts_agree d (machine_after d es) i.script goes.rounds f.before (follow_head d f.before i items f.follow) f.agrees);
        follow = follow_tail d f.before i items f.follow;
        built = All-tail IsBuiltItem i items f.built;
      } in
      subst (λ (e : List Event). Follow d e items) (sym goes.after_is) more

  follows_from : (es next : List Event) (front back : List Item) → Follow d es (front ++ back) → Passes d es front next → Follow d next back
  unfolding Passes
  follows_from es next [] back f passes = subst (λ (e : List Event). Follow d e back) (sym passes) f
  follows_from es next (i ∷ front) back f passes = follows_from passes.0 next front back (follows_on es passes.0 i (front ++ back) f passes.1) passes.2

  -- behind a front of faultless items the others follow
  pub follows : (front back : List Item) (es : List Event) → AreFaultless d (front ++ back) → Passes d [] front es → Follow d es back
  follows front back es faultless passes = follows_from [] es front back (start_follows d (front ++ back) faultless) passes
