-- The names of files: which of a command's files ended the loading, and its line.
use Rattle.std.proofs.Common.{◌≡◌, inl, inr, ℕ, ◌+◌, Option, Some, None, List, [], ◌∷◌, ◌++◌, length, Result, Ok, Err, refl, sym, ap, ◌∙◌, subst, append_assoc, arith}
use Rattle.std.specs.Prelude.{slice_get, IfOk}
use Rattle.std.proofs.lemmas.Bool.{false≢true}
use Rattle.seq_words.specs.declared.bytes.NoMemory.{NoMemory}
use Rattle.seq_words.specs.declared.description.MachineDesc.{MachineDesc}
use Rattle.seq_shelf.specs.Told.{Map}
use Rattle.seq_manifest.specs.declared.draft.Draft.{Draft}
use Rattle.seq_manifest.specs.Drafts.{Describes}
use Rattle.seq_manifest.specs.Faults.{first_fault as description_fault}
use Rattle.seq_report.specs.declared.status.Status.{Status}
use Rattle.seq_report.specs.declared.status.Status.TheVariants.{Done, Usage, Refused, Absent, MachineCheck, OutOfTurns, ShelfFault, SinkFault, ChronicleFault, LineFault, NoMemory as Wanting}
use Rattle.seq_cli.specs.Commands.{Command, run, asm, list}
use Rattle.seq_cli.specs.Files.{Opening, absent, refused, file_fault, OpensText, OpensContent}
use Rattle.seq_cli.specs.Parts.{part_fault, Completes, names_of}
use Rattle.seq_cli.specs.Loads.{Loads, LoadStops, NoValue, NoNext, PartsLoaded, PartsStop}
use Rattle.seq_cli.specs.Names.{filled, run_names, AreNames, NamesFile}
use Rattle.seq_cli.specs.Texts.{IsLineOf, IsLine, IsText}
use Rattle.seq_cli.proofs.Openings.{longer}

-- ---- the number of the file that ends the loading

file_in : Opening → ℕ
file_in (absent file) = file
file_in (refused file place rule) = file
file_in o = 0

number_in_text : (files : List (List ℕ)) (fault : Option (ℕ × ℕ)) (text : List ℕ) (file place rule : ℕ) → OpensText files fault text (NoValue text) NoNext (refused file place rule) → file ≡ length files
unfolding file_in
number_in_text files (Some fault) text file place rule h = ap file_in h
number_in_text files None text file place rule h = absurd h.1

refused_number : (files : List (List ℕ)) (fault : List ℕ → Option (ℕ × ℕ)) (content : Option (List ℕ)) (file place rule : ℕ) → OpensContent files fault NoValue NoNext content (refused file place rule) → file ≡ length files
refused_number files fault None file place rule h = absurd (let e : refused file place rule ≡ absent (length files) = h in cc)
refused_number files fault (Some text) file place rule h = number_in_text files (file_fault fault text) text file place rule h

no_absence : (files : List (List ℕ)) (fault : Option (ℕ × ℕ)) (text : List ℕ) (file : ℕ) → OpensText files fault text (NoValue text) NoNext (absent file) → ⊥
no_absence files (Some fault) text file h = let e : absent file ≡ refused (length files) fault.0 fault.1 = h in cc
no_absence files None text file h = h.1

absent_number : (files : List (List ℕ)) (fault : List ℕ → Option (ℕ × ℕ)) (content : Option (List ℕ)) (file : ℕ) → OpensContent files fault NoValue NoNext content (absent file) → file ≡ length files
unfolding file_in
absent_number files fault None file h = ap file_in h
absent_number files fault (Some text) file h = absurd (no_absence files (file_fault fault text) text file h)

-- the status names a file that has this name among those of the command
pub file_named : (m : Map) (form : Option Command) (names files : List (List ℕ)) (name : List ℕ) (status : Status) (fault : List ℕ → Option (ℕ × ℕ)) (content : Option (List ℕ)) → AreNames m form names → slice_get names (length files) ≡ Some name → LoadStops status files fault content → NamesFile m form status name
file_named m form names files name (Refused file place rule) fault content are there stops =
    record { names = names; are_names = are; there = ap (slice_get names) (refused_number files fault content file place rule stops) ∙ there }
file_named m form names files name (Absent file) fault content are there stops =
    record { names = names; are_names = are; there = ap (slice_get names) (absent_number files fault content file stops) ∙ there }
file_named m form names files name Done fault content are there stops = tt
file_named m form names files name Usage fault content are there stops = tt
file_named m form names files name (MachineCheck line stopped cause) fault content are there stops = tt
file_named m form names files name (OutOfTurns line) fault content are there stops = tt
file_named m form names files name ShelfFault fault content are there stops = tt
file_named m form names files name SinkFault fault content are there stops = tt
file_named m form names files name ChronicleFault fault content are there stops = tt
file_named m form names files name (LineFault line) fault content are there stops = tt
file_named m form names files name Wanting fault content are there stops = tt

-- ---- names that stand for files

filled-append : (names more : List (List ℕ)) → filled (names ++ more) ≡ filled names ++ filled more
filled-append [] more = refl
filled-append ([] ∷ names) more = filled-append names more
filled-append ((b ∷ bytes) ∷ names) more = ap (λ rest. (b ∷ bytes) ∷ rest) (filled-append names more)

filled_name : (name : List ℕ) (rest : List (List ℕ)) → (name ≡ [] → ⊥) → filled (name ∷ rest) ≡ name ∷ filled rest
filled_name [] rest named = absurd (named refl)
filled_name (b ∷ bytes) rest named = refl

-- there is one for each file that was loaded
pub parts_counted : (map : Map) (n : ℕ) (names before : List (List ℕ)) (d : MachineDesc) (after : List (List ℕ)) (e : MachineDesc) → PartsLoaded map n names before d after e → length after ≡ length before + length (filled names)
parts_counted map n [] before d after e h = let same = ap length h.0 in omega (arith, same)
parts_counted map n ([] ∷ names) before d after e h = parts_counted map (n + 1) names before d after e h
parts_counted map n ((b ∷ bytes) ∷ names) before d after e h =
    let one = longer (part_fault d n) (Completes d n) (map (b ∷ bytes)) before h.0 h.1 h.2 in
    let rest = parts_counted map (n + 1) names h.0 h.1 after e h.3 in
    omega (arith, one, rest)

name_there : (front : List (List ℕ)) (name : List ℕ) (back : List (List ℕ)) → slice_get (front ++ name ∷ back) (length front) ≡ Some name
name_there [] name back = refl
name_there (first ∷ front) name back = name_there front name back

-- behind some names, in a list that is otherwise told
name_behind : (names front : List (List ℕ)) (name : List ℕ) (back : List (List ℕ)) (n : ℕ) → names ≡ front ++ name ∷ back → n ≡ length front → slice_get names n ≡ Some name
name_behind names front name back n split is = ap (λ (ns : List (List ℕ)). slice_get ns n) split ∙ ap (slice_get (front ++ name ∷ back)) is ∙ name_there front name back

-- ---- the files of a run

module _ (m : Map) (machine schedule : List ℕ) where
  -- the machine's own
  pub machine_named : (status : Status) (fault : List ℕ → Option (ℕ × ℕ)) (content : Option (List ℕ)) → LoadStops status [] fault content → NamesFile m (Some (run machine schedule)) status machine
  machine_named status fault content stops = file_named m (Some (run machine schedule)) (machine ∷ []) [] machine status fault content (inl refl) refl stops

  module _ (draft : Draft) (files : List (List ℕ)) (loads : Loads description_fault Describes (m machine) [] files draft) where
    are_names : AreNames m (Some (run machine schedule)) (run_names machine schedule draft)
    are_names = inr (draft, (loads.text, loads.content_is, loads.spelled), refl)

    one : length files ≡ 1
    one = longer description_fault Describes (m machine) [] files draft loads

    -- a part's
    pub part_named : (status : Status) (text : Result (List ℕ) NoMemory) (stop : PartsStop m (names_of draft) files draft.desc status text) → NamesFile m (Some (run machine schedule)) status stop.name
    part_named status text stop =
        let all : filled (names_of draft) ≡ filled stop.front ++ stop.name ∷ filled stop.rest =
        ap filled stop.split ∙ filled-append stop.front (stop.name ∷ stop.rest) ∙ ap (λ rest. filled stop.front ++ rest) (filled_name stop.name stop.rest stop.named)
        in
        let split : run_names machine schedule draft ≡ (machine ∷ filled stop.front) ++ stop.name ∷ (filled stop.rest ++ schedule ∷ []) =
        ap (λ names. machine ∷ names ++ schedule ∷ []) all ∙ append_assoc (machine ∷ filled stop.front) (stop.name ∷ filled stop.rest) (schedule ∷ [])
        in
        let number : length stop.files ≡ length (machine ∷ filled stop.front) = omega (arith, one, parts_counted m 0 stop.front files draft.desc stop.files stop.desc stop.loaded) in
        file_named m (Some (run machine schedule)) (run_names machine schedule draft) stop.files stop.name status (part_fault stop.desc (length stop.front)) (m stop.name) are_names
        (name_behind (run_names machine schedule draft) (machine ∷ filled stop.front) stop.name (filled stop.rest ++ schedule ∷ []) (length stop.files) split number) stop.stops

    -- the schedule's
    pub schedule_named : (status : Status) (after : List (List ℕ)) (desc : MachineDesc) (fault : List ℕ → Option (ℕ × ℕ)) (content : Option (List ℕ)) → PartsLoaded m 0 (names_of draft) files draft.desc after desc → LoadStops status after fault content → NamesFile m (Some (run machine schedule)) status schedule
    schedule_named status after desc fault content loaded stops =
        let number : length after ≡ length (machine ∷ filled (names_of draft)) = omega (arith, one, parts_counted m 0 (names_of draft) files draft.desc after desc loaded) in
        file_named m (Some (run machine schedule)) (run_names machine schedule draft) after schedule status fault content are_names
        (name_behind (run_names machine schedule draft) (machine ∷ filled (names_of draft)) schedule [] (length after) refl number) stops

-- ---- the files of an image

pub source_named : (m : Map) (source image : List ℕ) (status : Status) (fault : List ℕ → Option (ℕ × ℕ)) (content : Option (List ℕ)) → LoadStops status [] fault content → NamesFile m (Some (asm source image)) status source
source_named m source image status fault content stops = file_named m (Some (asm source image)) (source ∷ []) [] source status fault content refl refl stops

pub image_named : (m : Map) (image : List ℕ) (status : Status) (fault : List ℕ → Option (ℕ × ℕ)) (content : Option (List ℕ)) → LoadStops status [] fault content → NamesFile m (Some (list image)) status image
image_named m image status fault content stops = file_named m (Some (list image)) (image ∷ []) [] image status fault content refl refl stops

-- ---- lines

-- the line of a file with its name
pub line_named : (form : Option Command) (told : Option Map) (status given : Status) (name : List ℕ) (text : Result (List ℕ) NoMemory) → given ≡ status → ((m : Map) → told ≡ Some m → NamesFile m form status name) → IfOk text (IsLineOf status name) → IfOk text (IsLine form told given)
line_named form told status given name (Err none) is named line = tt
line_named form told status given name (Ok text) is named line =
    subst (λ (s : Status). IsLine form told s text) (sym is) (record { name = name; named = named; line = line })

-- that of a part's file, whether or not the shelf tells its files
pub line_of_part : (machine schedule : List ℕ) (told : Option Map) (draft : Draft) (files : List (List ℕ)) (status : Status) (text : Result (List ℕ) NoMemory)
    → ((m : Map) → told ≡ Some m → Loads description_fault Describes (m machine) [] files draft) → ((m : Map) → told ≡ Some m → PartsStop m (names_of draft) files draft.desc status text)
    → (name : List ℕ) × IfOk text (IsLineOf status name) → IfOk text (IsLine (Some (run machine schedule)) told status)
line_of_part machine schedule told draft files status (Err none) loads stops line = tt
line_of_part machine schedule None draft files status (Ok text) loads stops line = record { name = line.0; named = λ m e. absurd cc; line = line.1 }
line_of_part machine schedule (Some map) draft files status (Ok text) loads stops line =
    let stop : PartsStop map (names_of draft) files draft.desc status (Ok text) = stops map refl in
    record {
      name = stop.name;
      named = λ m e.
          let same : map ≡ m = cc in
          subst (λ (x : Map). NamesFile x (Some (run machine schedule)) status stop.name) same (part_named map machine schedule draft files (loads map refl) status (Ok text) stop);
      line = stop.line;
    }

-- a line is the text of its status
pub line_is_text : (form : Option Command) (told left : Option Map) (Reported : Status → List ℕ → Type 0) (status : Status) (text : List ℕ) → IsLine form told status text → IsText form told left Reported status text
line_is_text form told left Reported (Refused file place rule) text line = line
line_is_text form told left Reported (Absent file) text line = line
line_is_text form told left Reported ShelfFault text line = line
line_is_text form told left Reported Done text line = absurd (false≢true line.line.single)
line_is_text form told left Reported Usage text line = absurd (false≢true line.line.single)
line_is_text form told left Reported (MachineCheck at stopped cause) text line = absurd (false≢true line.line.single)
line_is_text form told left Reported (OutOfTurns at) text line = absurd (false≢true line.line.single)
line_is_text form told left Reported SinkFault text line = absurd (false≢true line.line.single)
line_is_text form told left Reported ChronicleFault text line = absurd (false≢true line.line.single)
line_is_text form told left Reported (LineFault l) text line = absurd (false≢true line.line.single)
line_is_text form told left Reported Wanting text line = absurd (false≢true line.line.single)

pub lines_are_texts : (form : Option Command) (told left : Option Map) (Reported : Status → List ℕ → Type 0) (status : Status) (text : Result (List ℕ) NoMemory) → IfOk text (IsLine form told status) → IfOk text (IsText form told left Reported status)
lines_are_texts form told left Reported status (Err none) line = tt
lines_are_texts form told left Reported status (Ok text) line = line_is_text form told left Reported status text line
