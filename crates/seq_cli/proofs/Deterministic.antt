-- Words and files ask for one thing alone.
use Rattle.std.proofs.Common.{◌≡◌, inl, inr, ℕ, ◌+◌, Bool, true, false, Option, Some, None, List, [], ◌∷◌, ◌++◌, length, refl, sym, ap, ◌∙◌, subst}
use Rattle.seq_words.specs.declared.description.MachineDesc.{MachineDesc}
use Rattle.seq_shelf.specs.Told.{Map}
use Rattle.seq_loader.specs.declared.image.Image.{Image}
use Rattle.seq_loader.proofs.Read.{image_of-Spells}
use Rattle.seq_manifest.specs.declared.draft.Draft.{Draft}
use Rattle.seq_manifest.specs.Drafts.{Describes}
use Rattle.seq_manifest.specs.Faults.{first_fault as description_fault}
use Rattle.seq_manifest.proofs.Unique.{one}
use Rattle.seq_report.specs.declared.status.Status.{Status}
use Rattle.seq_report.specs.declared.status.Status.TheVariants.{Done, Usage, Refused, Absent, MachineCheck, OutOfTurns, ShelfFault, SinkFault, ChronicleFault, LineFault, NoMemory}
use Rattle.seq_loader.specs.Image.{Spells}
use Rattle.seq_loader.specs.Faults.{first_fault as image_fault}
use Rattle.seq_asm.specs.Assembled.{Makes}
use Rattle.seq_asm.specs.Rules.{first_fault as source_fault}
use Rattle.seq_asm.proofs.Unique.{one_image}
use Rattle.seq_cli.specs.Commands.{Command, run, asm, list, form_of, MakesNoRun}
use Rattle.seq_cli.specs.Files.{Opening, usage, absent, refused, faulty, ready, made, listed, fails, file_fault, OpensText, OpensContent, OpensLoad}
use Rattle.seq_cli.specs.Parts.{is_process, with_image, part_fault, CompletesBy, Completes, names_of, OpensParts}
use Rattle.seq_schedule.specs.declared.forms.Gate.TheVariants.{Built}
use Rattle.seq_schedule.specs.declared.script.Item.{Item}
use Rattle.seq_schedule.specs.Rules.{first_fault as schedule_fault}
use Rattle.seq_cli.specs.Opening.{Schedules, OpensItems, OpensSchedule, OpensMachine, OpensStore, OpensSource, OpensListing, OpensForm, Opens, AsksRun, AsksImage}
use Rattle.seq_cli.specs.Endings.{Stops}
use Rattle.seq_cli.proofs.Openings.{free_form}

one_text : {A : Type 0} (files : List (List ℕ)) (fault : Option (ℕ × ℕ)) (text : List ℕ) (Spelled : A → Type 0) (next : List (List ℕ) → A → Opening → Type 0) (o p : Opening)
    → ((x y : A) → Spelled x → Spelled y → x ≡ y) → ((fs : List (List ℕ)) (x : A) (q r : Opening) → next fs x q → next fs x r → q ≡ r)
    → OpensText files fault text Spelled next o → OpensText files fault text Spelled next p → o ≡ p
one_text files (Some fault) text Spelled next o p values nexts h k = h ∙ sym k
one_text files None text Spelled next o p values nexts h k = nexts (files ++ text ∷ []) k.0 o p (subst (λ x. next (files ++ text ∷ []) x o) (values h.0 k.0 h.1 k.1) h.2) k.2

one_content : {A : Type 0} (files : List (List ℕ)) (fault : List ℕ → Option (ℕ × ℕ)) (Spelled : List ℕ → A → Type 0) (next : List (List ℕ) → A → Opening → Type 0) (content : Option (List ℕ)) (o p : Opening)
    → ((text : List ℕ) (x y : A) → Spelled text x → Spelled text y → x ≡ y) → ((fs : List (List ℕ)) (x : A) (q r : Opening) → next fs x q → next fs x r → q ≡ r)
    → OpensContent files fault Spelled next content o → OpensContent files fault Spelled next content p → o ≡ p
one_content files fault Spelled next None o p values nexts h k = h ∙ sym k
one_content files fault Spelled next (Some text) o p values nexts h k = one_text files (file_fault fault text) text (Spelled text) next o p (values text) nexts h k

one_load : {A : Type 0} (b : Bool) (files : List (List ℕ)) (fault : List ℕ → Option (ℕ × ℕ)) (Spelled : List ℕ → A → Type 0) (next : List (List ℕ) → A → Opening → Type 0) (content : Option (List ℕ)) (o p : Opening)
    → ((text : List ℕ) (x y : A) → Spelled text x → Spelled text y → x ≡ y) → ((fs : List (List ℕ)) (x : A) (q r : Opening) → next fs x q → next fs x r → q ≡ r)
    → OpensLoad b files fault Spelled next content o → OpensLoad b files fault Spelled next content p → o ≡ p
one_load true files fault Spelled next content o p values nexts h k = h ∙ sym k
one_load false files fault Spelled next content o p values nexts h k = one_content files fault Spelled next content o p values nexts h k

one_spelled : (text : List ℕ) (i j : Image) → Spells text i → Spells text j → i ≡ j
one_spelled text i j h k = some (sym (image_of-Spells text i h) ∙ image_of-Spells text j k)
  where
    some : {i j : Image} → i ≡ j → i ≡ j
    some e = e

one_part : (b : Bool) (d : MachineDesc) (n : ℕ) (text : List ℕ) (x y : MachineDesc) → CompletesBy b d n text x → CompletesBy b d n text y → x ≡ y
one_part true d n text x y h k = h.2 ∙ ap (with_image d n) (one_spelled text h.0 k.0 h.1 k.1) ∙ sym k.2
one_part false d n text x y h k = h ∙ sym k

one_parts : (map : Map) (failed : Option ℕ) (n : ℕ) (names files : List (List ℕ)) (d : MachineDesc) (next : List (List ℕ) → MachineDesc → Opening → Type 0) (o p : Opening)
    → ((fs : List (List ℕ)) (e : MachineDesc) (q r : Opening) → next fs e q → next fs e r → q ≡ r) → OpensParts map failed n names files d next o → OpensParts map failed n names files d next p → o ≡ p
one_parts map failed n [] files d next o p nexts h k = nexts files d o p h k
one_parts map failed n ([] ∷ names) files d next o p nexts h k = one_parts map failed (n + 1) names files d next o p nexts h k
one_parts map failed n ((b ∷ bytes) ∷ names) files d next o p nexts h k =
    one_load (fails failed (length files)) files (part_fault d n) (Completes d n) (λ fs e o. OpensParts map failed (n + 1) names fs e next o) (map (b ∷ bytes)) o p
    (λ text x y. one_part (is_process d n) d n text x y) (λ fs e q r. one_parts map failed (n + 1) names fs e next q r nexts) h k

one_schedule : (map : Map) (failed : Option ℕ) (schedule : List ℕ) (files : List (List ℕ)) (d : MachineDesc) (o p : Opening) → OpensSchedule map failed schedule files d o → OpensSchedule map failed schedule files d p → o ≡ p
one_schedule map failed schedule files d o p h k =
    one_load (fails failed (length files)) files (schedule_fault Built d) Schedules (OpensItems d) (map schedule) o p (λ text x y a b. a ∙ sym b) (λ fs items q r a b. a ∙ sym b) h k

one_machine : (map : Map) (failed : Option ℕ) (schedule : List ℕ) (files : List (List ℕ)) (draft : Draft) (o p : Opening) → OpensMachine map failed schedule files draft o → OpensMachine map failed schedule files draft p → o ≡ p
one_machine map failed schedule files draft o p h k = one_parts map failed 0 (names_of draft) files draft.desc (OpensSchedule map failed schedule) o p (one_schedule map failed schedule) h k

one_store : (b : Bool) (i : Image) (o p : Opening) → OpensStore b i o → OpensStore b i p → o ≡ p
one_store true i o p h k = h ∙ sym k
one_store false i o p h k = h ∙ sym k

one_form : (map : Map) (failed : Option ℕ) (form : Option Command) (o p : Opening) → OpensForm map failed form o → OpensForm map failed form p → o ≡ p
one_form map failed None o p h k = h ∙ sym k
one_form map failed (Some (run machine schedule)) o p h k =
    one_load (fails failed 0) [] description_fault Describes (OpensMachine map failed schedule) (map machine) o p one (one_machine map failed schedule) h k
one_form map failed (Some (asm source image)) o p h k =
    one_load (fails failed 0) [] source_fault Makes (OpensSource failed) (map source) o p one_image (λ files i q r a b. one_store (fails failed (length files)) i q r a b) h k
one_form map failed (Some (list image)) o p h k =
    one_load (fails failed 0) [] image_fault Spells OpensListing (map image) o p one_spelled (λ files i q r a b. a ∙ sym b) h k

pub one_opening : (words : List (List ℕ)) (map : Map) (failed : Option ℕ) (o p : Opening) → Opens words map failed o → Opens words map failed p → o ≡ p
one_opening words map failed o p h k = one_form map failed (form_of words) o p h k

-- ---- what is asked for where all files are there and violate no rule

-- what is to be done
abbrev IsWork : Opening → Type 0
IsWork usage = ⊥
IsWork (absent file) = ⊥
IsWork (refused file place rule) = ⊥
IsWork faulty = ⊥
IsWork (ready d items files) = Unit {0}
IsWork (made i) = Unit {0}
IsWork (listed i) = Unit {0}

-- where it is, no ending is asked for before it
no_early : (map : Map) (failed : Option ℕ) (form : Option Command) (work o : Opening) → OpensForm map None form work → IsWork work → OpensForm map failed form o → (o ≡ faulty → ⊥) → (IsWork o → ⊥) → ⊥
no_early map failed form work o asked is h sound early = early (subst IsWork (one_form map None form work o asked (free_form map failed form o sound h)) is)

-- and the loading ends with a fault or want of memory alone
pub stops_work : (map : Map) (failed : Option ℕ) (form : Option Command) (status : Status) (work : Opening) → OpensForm map None form work → IsWork work → Stops (OpensForm map failed form) status → (status ≡ ShelfFault → ⊥) → status ≡ NoMemory
stops_work map failed form (Absent at) work asked is h no_fault = absurd (no_early map failed form work (absent at) asked is h (λ e. cc) (λ k. k))
stops_work map failed form (Refused at place rule) work asked is h no_fault = absurd (no_early map failed form work (refused at place rule) asked is h (λ e. cc) (λ k. k))
stops_work map failed form Usage work asked is h no_fault = absurd (no_early map failed form work usage asked is h (λ e. cc) (λ k. k))
stops_work map failed form ShelfFault work asked is h no_fault = absurd (no_fault refl)
stops_work map failed form NoMemory work asked is h no_fault = refl
stops_work map failed form Done work asked is h no_fault = absurd h
stops_work map failed form (MachineCheck line stopped cause) work asked is h no_fault = absurd h
stops_work map failed form (OutOfTurns line) work asked is h no_fault = absurd h
stops_work map failed form SinkFault work asked is h no_fault = absurd h
stops_work map failed form ChronicleFault work asked is h no_fault = absurd h
stops_work map failed form (LineFault line) work asked is h no_fault = absurd h

pub stops_ready : (map : Map) (failed : Option ℕ) (form : Option Command) (status : Status) → Stops (OpensForm map failed form) status → AsksRun (OpensForm map None form) → (status ≡ ShelfFault → ⊥) → status ≡ NoMemory
stops_ready map failed form status h asks no_fault = stops_work map failed form status (ready asks.desc asks.items asks.files) asks.asked tt h no_fault

pub stops_image : (map : Map) (failed : Option ℕ) (form : Option Command) (status : Status) → Stops (OpensForm map failed form) status → AsksImage (OpensForm map None form) → (status ≡ ShelfFault → ⊥) → status ≡ NoMemory
stops_image map failed form status h asks no_fault = elim asks.asked [
  | inl k ↦ stops_work map failed form status (made asks.image) k tt h no_fault
  | inr k ↦ stops_work map failed form status (listed asks.image) k tt h no_fault
]

-- a run and an image are never both asked for
abbrev IsRun : Opening → Type 0
IsRun (ready d items files) = Unit {0}
IsRun o = ⊥

pub run_is_no_image : (map : Map) (form : Option Command) → AsksRun (OpensForm map None form) → AsksImage (OpensForm map None form) → ⊥
run_is_no_image map form asks image = elim image.asked [
  | inl k ↦ subst IsRun (one_form map None form (ready asks.desc asks.items asks.files) (made image.image) asks.asked k) tt
  | inr k ↦ subst IsRun (one_form map None form (ready asks.desc asks.items asks.files) (listed image.image) asks.asked k) tt
]

-- a command that makes no run asks for none
free_text : (f : Option (ℕ × ℕ)) (text : List ℕ) (Spelled : Image → Type 0) (next : List (List ℕ) → Image → Opening → Type 0) (o : Opening) → ((files : List (List ℕ)) (i : Image) → next files i o → IsRun o → ⊥) → OpensText [] f text Spelled next o → IsRun o → ⊥
free_text (Some f) text Spelled next o none h is = subst IsRun h is
free_text None text Spelled next o none h is = none _ h.0 h.2 is

no_run_in : (fault : List ℕ → Option (ℕ × ℕ)) (Spelled : List ℕ → Image → Type 0) (next : List (List ℕ) → Image → Opening → Type 0) (content : Option (List ℕ)) (o : Opening) → ((files : List (List ℕ)) (i : Image) → next files i o → IsRun o → ⊥) → OpensContent [] fault Spelled next content o → IsRun o → ⊥
no_run_in fault Spelled next None o none h is = subst IsRun h is
no_run_in fault Spelled next (Some text) o none h is = free_text (file_fault fault text) text (Spelled text) next o none h is

no_run : (map : Map) (form : Option Command) (o : Opening) → MakesNoRun form → OpensForm map None form o → IsRun o → ⊥
no_run map None o none h is = none
no_run map (Some (run machine schedule)) o none h is = none
no_run map (Some (asm source image)) o none h is = no_run_in source_fault Makes (OpensSource None) (map source) o (λ files i k. subst IsRun k) h is
no_run map (Some (list image)) o none h is = no_run_in image_fault Spells OpensListing (map image) o (λ files i k. subst IsRun k) h is

pub asks_no_run : (map : Map) (form : Option Command) → MakesNoRun form → AsksRun (OpensForm map None form) → ⊥
asks_no_run map form none asks = no_run map form (ready asks.desc asks.items asks.files) none asks.asked tt

items_in : Opening → List Item
items_in (ready d items files) = items
items_in o = []

machine_in : Opening → Option MachineDesc
machine_in (ready d items files) = Some d
machine_in o = None

-- a run that is asked for is of this machine and these items
module _ (form : Option Command) (map : Map) (d : MachineDesc) (items : List Item) (files : List (List ℕ)) (h : OpensForm map None form (ready d items files)) (asks : AsksRun (OpensForm map None form)) where
  one_run : ready d items files ≡ ready asks.desc asks.items asks.files
  one_run = one_form map None form (ready d items files) (ready asks.desc asks.items asks.files) h asks.asked

  pub same_items : items ≡ asks.items
  unfolding items_in
  same_items = ap items_in one_run

  pub same_machine : d ≡ asks.desc
  unfolding machine_in
  same_machine = let e : Some d ≡ Some asks.desc = ap machine_in one_run in cc
