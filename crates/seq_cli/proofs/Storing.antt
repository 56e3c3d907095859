-- What the commands of images ask for, and what they leave.
use Rattle.std.proofs.Common.{◌≡◌, ◌∙◌, ℕ, ◌≤◌, Option, Some, None, List, [], ◌∷◌, length, refl, sym, subst, ap, inl, inr}
use Rattle.seq_shelf.specs.Told.{Map, Stores, KeepsOthers}
use Rattle.seq_loader.specs.declared.image.Image.{Image}
use Rattle.seq_loader.specs.Image.{Spells}
use Rattle.seq_loader.specs.Faults.{first_fault as image_fault}
use Rattle.seq_asm.specs.Assembled.{Makes}
use Rattle.seq_asm.specs.Rules.{first_fault as source_fault}
use Rattle.seq_loader.proofs.Written.{first_fault-spelling}
use Rattle.seq_words.specs.declared.events.ReadError.{ReadError}
use Rattle.seq_words.specs.declared.events.ReadError.TheVariants as read
use Rattle.seq_report.specs.declared.status.Status.{Status}
use Rattle.seq_report.specs.declared.status.Status.TheVariants.{Done, Usage, Refused, Absent, MachineCheck, OutOfTurns, ShelfFault, SinkFault, ChronicleFault, LineFault, NoMemory}
use Rattle.seq_cli.specs.Commands.{asm, list}
use Rattle.seq_cli.specs.Files.{faulty, made, listed, fails, file_limit}
use Rattle.seq_cli.specs.Opening.{OpensForm, OpensStore, OpensSource, OpensListing}
use Rattle.seq_cli.specs.Endings.{Stops, Answers}
use Rattle.seq_cli.specs.Loads.{EndsLoading, Loads, LoadStops, failed_of, error_status}
use Rattle.seq_cli.specs.Stored.{StoresImage, LeavesImage}
use Rattle.seq_cli.proofs.Openings.{stops_file, opens_file, longer, fault_within, unread_stops}

-- ---- what is left

pub others_stay : (told : Option Map) (name : List ℕ) → KeepsOthers told told name
others_stay None name = tt
others_stay (Some map) name = λ other apart. refl

pub others_kept : (old mid new : Option Map) (name : List ℕ) → mid ≡ old → KeepsOthers mid new name → KeepsOthers old new name
others_kept old mid new name same h = subst (λ (told : Option Map). KeepsOthers told new name) same h

pub loading_leaves : (source name : List ℕ) (status : Status) (old new : Option Map) → EndsLoading status → new ≡ old → LeavesImage source name status old new
loading_leaves source name Done old new ends same = absurd ends
loading_leaves source name ShelfFault old new ends same = subst (λ (told : Option Map). KeepsOthers old told name) (sym same) (others_stay old name)
loading_leaves source name NoMemory old new ends same = subst (λ (told : Option Map). KeepsOthers old told name) (sym same) (others_stay old name)
loading_leaves source name Usage old new ends same = same
loading_leaves source name (Refused file place rule) old new ends same = same
loading_leaves source name (Absent file) old new ends same = same
loading_leaves source name (MachineCheck line stopped cause) old new ends same = same
loading_leaves source name (OutOfTurns line) old new ends same = same
loading_leaves source name SinkFault old new ends same = same
loading_leaves source name ChronicleFault old new ends same = same
loading_leaves source name (LineFault line) old new ends same = same

pub image_stored : (source name : List ℕ) (old mid new : Option Map) (i : Image) → mid ≡ old
    → ((m : Map) → old ≡ Some m → (files : List (List ℕ)) × Loads source_fault Makes (m source) [] files i)
    → (file : List ℕ) × Spells file i × Stores mid new name file → StoresImage source name old new i
image_stored source name old mid new i same loads h = record {
  makes = λ m told. let found = (loads m told).1 in (found.text, found.content_is, found.spelled);
  file = h.0;
  spells = h.1;
  stores = subst (λ (told : Option Map). Stores told new name h.0) same h.2;
}

-- ---- what is asked for

pub opens_made : (m : Map) (source name : List ℕ) (files : List (List ℕ)) (i : Image) → Loads source_fault Makes (m source) [] files i → OpensForm m None (Some (asm source name)) (made i)
opens_made m source name files i loads = opens_file None source_fault Makes (OpensSource None) (m source) [] files i (made i) refl loads refl

pub source_stops : (m : Map) (source name : List ℕ) (status : Status) → LoadStops status [] source_fault (m source) → (failed : Option ℕ) × Stops (OpensForm m failed (Some (asm source name))) status
source_stops m source name status h = (failed_of status 0, stops_file status [] source_fault Makes (OpensSource (failed_of status 0)) (m source) h)

pub store_stops : (m : Map) (source name : List ℕ) (files : List (List ℕ)) (i : Image) → Loads source_fault Makes (m source) [] files i → (failed : Option ℕ) × Stops (OpensForm m failed (Some (asm source name))) ShelfFault
store_stops m source name files i loads =
    let one : length files ≡ 1 = longer source_fault Makes (m source) [] files i loads in
    let fails_there : OpensSource (Some 1) files i faulty = subst (λ n. OpensStore (fails (Some 1) n) i faulty) (sym one) refl in
    (Some 1, opens_file (Some 1) source_fault Makes (OpensSource (Some 1)) (m source) [] files i faulty refl loads fails_there)

pub opens_listed : (m : Map) (name : List ℕ) (files : List (List ℕ)) (i : Image) → Loads image_fault Spells (m name) [] files i → OpensForm m None (Some (list name)) (listed i)
opens_listed m name files i loads = opens_file None image_fault Spells OpensListing (m name) [] files i (listed i) refl loads refl

pub image_stops : (m : Map) (name : List ℕ) (status : Status) → LoadStops status [] image_fault (m name) → (failed : Option ℕ) × Stops (OpensForm m failed (Some (list name))) status
image_stops m name status h = (failed_of status 0, stops_file status [] image_fault Spells OpensListing (m name) h)

pub made_answers : (m : Map) (source name : List ℕ) (i : Image) → OpensForm m None (Some (asm source name)) (made i) → (failed : Option ℕ) × Answers (OpensForm m failed (Some (asm source name))) Done
made_answers m source name i h = (None, inr (record { image = i; asked = inl h }))

pub listed_answers : (m : Map) (name : List ℕ) (i : Image) → OpensForm m None (Some (list name)) (listed i) → (failed : Option ℕ) × Answers (OpensForm m failed (Some (list name))) Done
listed_answers m name i h = (None, inr (record { image = i; asked = inr h }))

-- ---- what is loaded

pub source_loaded : (content : Option (List ℕ)) (text slice : List ℕ) (i : Image) → content ≡ Some text → length text ≤ file_limit → slice ≡ text → source_fault slice ≡ None → Makes slice i → (files : List (List ℕ)) × Loads source_fault Makes content [] files i
source_loaded content text slice i is short same none makes = (
  text ∷ [],
  record {
    text = text;
    content_is = is;
    no_fault = fault_within source_fault text short ∙ ap source_fault (sym same) ∙ none;
    spelled = subst (λ (t : List ℕ). Makes t i) same makes;
    kept = refl;
  },
)

pub image_loaded : (content : Option (List ℕ)) (text slice : List ℕ) (i : Image) → content ≡ Some text → length text ≤ file_limit → slice ≡ text → Spells slice i → (files : List (List ℕ)) × Loads image_fault Spells content [] files i
image_loaded content text slice i is short same spells = (
  text ∷ [],
  record {
    text = text;
    content_is = is;
    no_fault = fault_within image_fault text short ∙ ap image_fault (sym same ∙ spells.text) ∙ first_fault-spelling i spells.image;
    spelled = subst (λ (t : List ℕ). Spells t i) same spells;
    kept = refl;
  },
)

pub image_unread : (content : Option (List ℕ)) (files : List (List ℕ)) (text slice : List ℕ) (error : ReadError) (status : Status) → files ≡ [] → content ≡ Some text → length text ≤ file_limit → slice ≡ text → status ≡ error_status (length files) error → ((place rule : ℕ) → error ≡ read.Refused place rule → image_fault slice ≡ Some (place, rule)) → LoadStops status [] image_fault content
image_unread content files text slice error status none is short same answered violates =
    subst (λ (s : Status). LoadStops s [] image_fault content) (sym (answered ∙ ap (λ fs. error_status (length fs) error) none))
    (unread_stops image_fault [] content text error is short (λ place rule e. ap image_fault (sym same) ∙ violates place rule e))
