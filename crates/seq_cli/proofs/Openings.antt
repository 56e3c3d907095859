-- Lemmas on what the words and files ask for.
use Rattle.std.proofs.Common.{true, false, Bool, cond, ◌≡◌, ℕ, suc, ◌+◌, ◌<◌, ◌≤◌, Option, Some, None, List, [], ◌∷◌, ◌++◌, length, take, drop, get_or, Result, Err, refl, sym, ap, ◌∙◌, subst, arith, eqb, eq-eqb}
use Rattle.std.proofs.lemmas.Bool.{lt-ltb, le-ltb, ne_eqb, false≢true}
use Rattle.std.proofs.lemmas.List.{length_push, length-take, take-append-drop, take_more, take_all, drop_more}
use Rattle.seq_words.specs.declared.events.ReadError.{ReadError}
use Rattle.seq_words.specs.declared.events.ReadError.TheVariants as read
use Rattle.seq_words.specs.declared.bytes.NoMemory.{NoMemory}
use Rattle.seq_words.specs.declared.description.MachineDesc.{MachineDesc}
use Rattle.seq_report.specs.declared.status.Status.{Status}
use Rattle.seq_report.specs.declared.status.Status.TheVariants.{Refused, Absent, ShelfFault}
use Rattle.seq_shelf.specs.Told.{Map}
use Rattle.seq_manifest.specs.declared.draft.Draft.{Draft}
use Rattle.seq_manifest.specs.Drafts.{Describes}
use Rattle.seq_manifest.specs.Faults.{first_fault as description_fault}
use Rattle.seq_loader.specs.declared.image.Image.{Image}
use Rattle.seq_loader.specs.Image.{Spells}
use Rattle.seq_loader.specs.Faults.{first_fault as image_fault}
use Rattle.seq_asm.specs.Assembled.{Makes}
use Rattle.seq_asm.specs.Rules.{first_fault as source_fault}
use Rattle.seq_cli.specs.Commands.{Command, run, asm, list, form_of}
use Rattle.seq_cli.specs.Files.{Opening, absent, refused, faulty, fails, file_fault, file_limit, OpensText, OpensContent, OpensLoad, OpensFile}
use Rattle.seq_cli.specs.Parts.{part_fault, Completes, names_of, OpensParts}
use Rattle.seq_schedule.specs.declared.forms.Gate.TheVariants.{Built}
use Rattle.seq_schedule.specs.Rules.{first_fault as schedule_fault}
use Rattle.seq_cli.specs.Opening.{Schedules, OpensItems, OpensSchedule, OpensMachine, OpensStore, OpensSource, OpensListing, OpensForm, Opens}
use Rattle.seq_cli.specs.Endings.{Moment, early, wanting, ran, finished, printing, moment_of, EndsAsked, EndsEarly, Stops}
use Rattle.seq_cli.specs.Loads.{Loads, LoadStops, TextStops, NoValue, NoNext, no_fault, failed_of, error_status, PartsLoaded, PartsStop}

-- an ending that is asked for, where more is asked for, and at any time
pub ends_more : (Asked More : Opening → Type 0) → ((o : Opening) → Asked o → More o) → (e : Moment) → EndsEarly Asked e → EndsEarly More e
ends_more Asked More f (early o) h = f o h
ends_more Asked More f wanting h = tt
ends_more Asked More f ran h = absurd h
ends_more Asked More f finished h = absurd h
ends_more Asked More f printing h = absurd h

pub ends_at_all : (Asked : Opening → Type 0) (e : Moment) → EndsEarly Asked e → EndsAsked Asked e
ends_at_all Asked (early o) h = h
ends_at_all Asked wanting h = tt
ends_at_all Asked ran h = absurd h
ends_at_all Asked finished h = absurd h
ends_at_all Asked printing h = absurd h

-- a text above the limit violates rule 1, and no other
fault_above : (fault : List ℕ → Option (ℕ × ℕ)) (text : List ℕ) → file_limit < length text → file_fault fault text ≡ Some (file_limit, 1)
fault_above fault text long = rw (lt-ltb file_limit (length text) long) refl

pub fault_within : (fault : List ℕ → Option (ℕ × ℕ)) (text : List ℕ) → length text ≤ file_limit → file_fault fault text ≡ fault text
fault_within fault text short = rw (le-ltb file_limit (length text) short) refl

-- a file that is missing, is too long, can't be loaded, or violates a rule of its grammar
pub absent_stops : (files : List (List ℕ)) (fault : List ℕ → Option (ℕ × ℕ)) (content : Option (List ℕ)) → content ≡ None → LoadStops (Absent (length files)) files fault content
absent_stops files fault content is = subst (λ c. OpensContent files fault NoValue NoNext c (absent (length files))) (sym is) refl

refused_stops : (files : List (List ℕ)) (place rule : ℕ) (fault : List ℕ → Option (ℕ × ℕ)) (content : Option (List ℕ)) (text : List ℕ) → content ≡ Some text → file_fault fault text ≡ Some (place, rule) → LoadStops (Refused (length files) place rule) files fault content
refused_stops files place rule fault content text is violates =
    subst (λ c. OpensContent files fault NoValue NoNext c (refused (length files) place rule)) (sym is)
    (subst (λ x. OpensText files x text (NoValue text) NoNext (refused (length files) place rule)) (sym violates) refl)

pub long_stops : (files : List (List ℕ)) (fault : List ℕ → Option (ℕ × ℕ)) (content : Option (List ℕ)) → (text : List ℕ) × (content ≡ Some text) × (file_limit < length text) → LoadStops (Refused (length files) file_limit 1) files fault content
long_stops files fault content h = refused_stops files file_limit 1 fault content h.0 h.1 (fault_above fault h.0 h.2)

pub fault_stops : (files : List (List ℕ)) (fault : List ℕ → Option (ℕ × ℕ)) (content : Option (List ℕ)) → LoadStops ShelfFault files fault content
fault_stops files fault content = subst (λ b. OpensLoad b files fault NoValue NoNext content faulty) (sym (eq-eqb (length files) (length files) refl)) refl

-- a text that a reader gives no value ends the loading
pub unread_stops : (fault : List ℕ → Option (ℕ × ℕ)) (files : List (List ℕ)) (content : Option (List ℕ)) (text : List ℕ) (error : ReadError) → content ≡ Some text → length text ≤ file_limit → ((place rule : ℕ) → error ≡ read.Refused place rule → fault text ≡ Some (place, rule)) → LoadStops (error_status (length files) error) files fault content
unread_stops fault files content text (read.Refused place rule) is short violates = refused_stops files place rule fault content text is (fault_within fault text short ∙ violates place rule refl)
unread_stops fault files content text read.NoMemory is short violates = tt

-- what ends the loading before the text is read, ends it
cut_text : (b : Bool) (files : List (List ℕ)) (f : Option (ℕ × ℕ)) (text : List ℕ) (o : Opening) → OpensText files (cond b (Some (file_limit, 1)) None) text (NoValue text) NoNext o → OpensText files (cond b (Some (file_limit, 1)) f) text (NoValue text) NoNext o
cut_text true files f text o h = h
cut_text false files f text o h = absurd h.1

read_load : (b : Bool) (files : List (List ℕ)) (fault : List ℕ → Option (ℕ × ℕ)) (content : Option (List ℕ)) (o : Opening) → OpensLoad b files no_fault NoValue NoNext content o → OpensLoad b files fault NoValue NoNext content o
read_load true files fault content o h = h
read_load false files fault None o h = h
read_load false files fault (Some text) o h = cut_text _ files (fault text) text o h

pub text_stops : (status : Status) (files : List (List ℕ)) (fault : List ℕ → Option (ℕ × ℕ)) (content : Option (List ℕ)) → TextStops status files content → LoadStops status files fault content
text_stops status files fault content h =
    ends_more (OpensFile (failed_of status (length files)) files no_fault NoValue NoNext content) (OpensFile (failed_of status (length files)) files fault NoValue NoNext content)
    (λ o. read_load (fails (failed_of status (length files)) (length files)) files fault content o) (moment_of status) h

-- what ends the loading, whatever would come next
any_text : {A : Type 0} (files : List (List ℕ)) (f : Option (ℕ × ℕ)) (text : List ℕ) (Spelled : A → Type 0) (next : List (List ℕ) → A → Opening → Type 0) (o : Opening) → OpensText files f text (NoValue text) NoNext o → OpensText files f text Spelled next o
any_text files (Some f) text Spelled next o h = h
any_text files None text Spelled next o h = absurd h.1

any_load : {A : Type 0} (b : Bool) (files : List (List ℕ)) (fault : List ℕ → Option (ℕ × ℕ)) (Spelled : List ℕ → A → Type 0) (next : List (List ℕ) → A → Opening → Type 0) (content : Option (List ℕ)) (o : Opening) → OpensLoad b files fault NoValue NoNext content o → OpensLoad b files fault Spelled next content o
any_load true files fault Spelled next content o h = h
any_load false files fault Spelled next None o h = h
any_load false files fault Spelled next (Some text) o h = any_text files (file_fault fault text) text (Spelled text) next o h

pub stops_file : {A : Type 0} (status : Status) (files : List (List ℕ)) (fault : List ℕ → Option (ℕ × ℕ)) (Spelled : List ℕ → A → Type 0) (next : List (List ℕ) → A → Opening → Type 0) (content : Option (List ℕ)) → LoadStops status files fault content → Stops (OpensFile (failed_of status (length files)) files fault Spelled next content) status
stops_file status files fault Spelled next content h =
    ends_more (OpensFile (failed_of status (length files)) files fault NoValue NoNext content) (OpensFile (failed_of status (length files)) files fault Spelled next content)
    (λ o. any_load (fails (failed_of status (length files)) (length files)) files fault Spelled next content o) (moment_of status) h

-- the load of an earlier file didn't fail
pub earlier : (status : Status) (file k : ℕ) → k < file → fails (failed_of status file) k ≡ false
earlier ShelfFault file k lt = ne_eqb file k (λ e. absurd (let c : ⊥ = omega (arith, e, lt) in c))
earlier status file k lt = refl

-- a file that was loaded leads on
pub opens_file : {A : Type 0} (failed : Option ℕ) (fault : List ℕ → Option (ℕ × ℕ)) (Spelled : List ℕ → A → Type 0) (next : List (List ℕ) → A → Opening → Type 0) (content : Option (List ℕ)) (before after : List (List ℕ)) (value : A) (o : Opening) → fails failed (length before) ≡ false → Loads fault Spelled content before after value → next after value o → OpensFile failed before fault Spelled next content o
opens_file failed fault Spelled next content before after value o free h then =
    subst (λ b. OpensLoad b before fault Spelled next content o) (sym free)
    (subst (λ x. OpensContent before fault Spelled next x o) (sym h.content_is)
    (subst (λ x. OpensText before x h.text (Spelled h.text) next o) (sym h.no_fault)
    (value, h.spelled, subst (λ (files : List (List ℕ)). next files value o) h.kept then)))

pub stops_next : {A : Type 0} (status : Status) (failed : Option ℕ) (fault : List ℕ → Option (ℕ × ℕ)) (Spelled : List ℕ → A → Type 0) (next : List (List ℕ) → A → Opening → Type 0) (content : Option (List ℕ)) (before after : List (List ℕ)) (value : A) → fails failed (length before) ≡ false → Loads fault Spelled content before after value → Stops (next after value) status → Stops (OpensFile failed before fault Spelled next content) status
stops_next status failed fault Spelled next content before after value free h then =
    ends_more (next after value) (OpensFile failed before fault Spelled next content) (λ o. opens_file failed fault Spelled next content before after value o free h) (moment_of status) then

pub longer : {A : Type 0} (fault : List ℕ → Option (ℕ × ℕ)) (Spelled : List ℕ → A → Type 0) (content : Option (List ℕ)) (before after : List (List ℕ)) (value : A) → Loads fault Spelled content before after value → length after ≡ length before + 1
longer fault Spelled content before after value h = ap length h.kept ∙ length_push before h.text

-- ---- parts

pub parts_longer : (map : Map) (n : ℕ) (names before : List (List ℕ)) (d : MachineDesc) (after : List (List ℕ)) (e : MachineDesc) → PartsLoaded map n names before d after e → length before ≤ length after
parts_longer map n [] before d after e h = let same = ap length h.0 in omega (arith, same)
parts_longer map n ([] ∷ names) before d after e h = parts_longer map (n + 1) names before d after e h
parts_longer map n ((b ∷ bytes) ∷ names) before d after e h =
    let one = longer (part_fault d n) (Completes d n) (map (b ∷ bytes)) before h.0 h.1 h.2 in
    let rest = parts_longer map (n + 1) names h.0 h.1 after e h.3 in
    omega (arith, one, rest)

-- parts that were loaded lead on
pub opens_parts : (map : Map) (failed : Option ℕ) (n : ℕ) (names before : List (List ℕ)) (d : MachineDesc) (after : List (List ℕ)) (e : MachineDesc) (next : List (List ℕ) → MachineDesc → Opening → Type 0) (o : Opening) → ((k : ℕ) → k < length after → fails failed k ≡ false) → PartsLoaded map n names before d after e → next after e o → OpensParts map failed n names before d next o
opens_parts map failed n [] before d after e next o free h then = subst (λ (files : List (List ℕ)). next files d o) h.0 (subst (λ (c : MachineDesc). next after c o) h.1 then)
opens_parts map failed n ([] ∷ names) before d after e next o free h then = opens_parts map failed (n + 1) names before d after e next o free h then
opens_parts map failed n ((b ∷ bytes) ∷ names) before d after e next o free h then =
    let one = longer (part_fault d n) (Completes d n) (map (b ∷ bytes)) before h.0 h.1 h.2 in
    let rest = parts_longer map (n + 1) names h.0 h.1 after e h.3 in
    opens_file failed (part_fault d n) (Completes d n) (λ files c o. OpensParts map failed (n + 1) names files c next o) (map (b ∷ bytes)) before h.0 h.1 o (free (length before) (omega (arith, one, rest))) h.2
    (opens_parts map failed (n + 1) names h.0 h.1 after e next o free h.3 then)

-- one part more
pub parts_more : (map : Map) (n : ℕ) (names before : List (List ℕ)) (d : MachineDesc) (files : List (List ℕ)) (c : MachineDesc) (name after : List (List ℕ)) (e : MachineDesc) → PartsLoaded map n names before d files c → PartsLoaded map (n + length names) name files c after e → PartsLoaded map n (names ++ name) before d after e
parts_more map n [] before d files c name after e h k =
    let at : n + 0 ≡ n = omega arith in
    subst (λ (fs : List (List ℕ)). PartsLoaded map n name fs d after e) h.0
    (subst (λ (x : MachineDesc). PartsLoaded map n name files x after e) h.1
    (subst (λ m. PartsLoaded map m name files c after e) at k))
parts_more map n ([] ∷ names) before d files c name after e h k =
    let at : n + suc (length names) ≡ n + 1 + length names = omega arith in
    parts_more map (n + 1) names before d files c name after e h (subst (λ m. PartsLoaded map m name files c after e) at k)
parts_more map n ((b ∷ bytes) ∷ names) before d files c name after e h k =
    let at : n + suc (length names) ≡ n + 1 + length names = omega arith in
    (h.0, h.1, h.2, parts_more map (n + 1) names h.0 h.1 files c name after e h.3 (subst (λ m. PartsLoaded map m name files c after e) at k))

-- the file of a part ends the loading behind those before it
pub stops_parts : (map : Map) (status : Status) (n : ℕ) (front rest before : List (List ℕ)) (first : ℕ) (bytes : List ℕ) (d : MachineDesc) (files : List (List ℕ)) (c : MachineDesc) (next : List (List ℕ) → MachineDesc → Opening → Type 0)
    → PartsLoaded map n front before d files c → LoadStops status files (part_fault c (n + length front)) (map (first ∷ bytes)) → Stops (OpensParts map (failed_of status (length files)) n (front ++ (first ∷ bytes) ∷ rest) before d next) status
stops_parts map status n [] rest before first bytes d files c next h k =
    let failed = failed_of status (length files) in
    let at : n + 0 ≡ n = omega arith in
    subst (λ (fs : List (List ℕ)). Stops (OpensParts map failed n ((first ∷ bytes) ∷ rest) fs d next) status) h.0
    (subst (λ (x : MachineDesc). Stops (OpensParts map failed n ((first ∷ bytes) ∷ rest) files x next) status) h.1
    (stops_file status files (part_fault c n) (Completes c n) (λ fs e o. OpensParts map failed (n + 1) rest fs e next o) (map (first ∷ bytes))
    (subst (λ m. LoadStops status files (part_fault c m) (map (first ∷ bytes))) at k)))
stops_parts map status n ([] ∷ front) rest before first bytes d files c next h k =
    let at : n + suc (length front) ≡ n + 1 + length front = omega arith in
    stops_parts map status (n + 1) front rest before first bytes d files c next h (subst (λ m. LoadStops status files (part_fault c m) (map (first ∷ bytes))) at k)
stops_parts map status n ((b ∷ bs) ∷ front) rest before first bytes d files c next h k =
    let failed = failed_of status (length files) in
    let at : n + suc (length front) ≡ n + 1 + length front = omega arith in
    let one = longer (part_fault d n) (Completes d n) (map (b ∷ bs)) before h.0 h.1 h.2 in
    let others = parts_longer map (n + 1) front h.0 h.1 files c h.3 in
    stops_next status failed (part_fault d n) (Completes d n) (λ fs e o. OpensParts map failed (n + 1) (front ++ (first ∷ bytes) ∷ rest) fs e next o) (map (b ∷ bs)) before h.0 h.1
    (earlier status (length files) (length before) (omega (arith, one, others))) h.2
    (stops_parts map status (n + 1) front rest h.0 first bytes h.1 files c next h.3 (subst (λ m. LoadStops status files (part_fault c m) (map (first ∷ bytes))) at k))

-- one part
pub part_loaded : (map : Map) (n : ℕ) (before : List (List ℕ)) (first : List ℕ) (d : MachineDesc) (after : List (List ℕ)) (e : MachineDesc) → (first ≡ [] → ⊥) → Loads (part_fault d n) (Completes d n) (map first) before after e → PartsLoaded map n (first ∷ []) before d after e
part_loaded map n before [] d after e ne h = absurd (ne refl)
part_loaded map n before (b ∷ bytes) d after e ne h = (after, e, h, (refl, refl))

-- the name of the next part, among those of all
pub cut_there : (names : List (List ℕ)) (n : ℕ) (name : List ℕ) → n < length names → name ≡ get_or names n [] → names ≡ take n names ++ name ∷ drop (n + 1) names
cut_there names n name lt is =
    sym (take-append-drop n names) ∙ ap (λ rest. take n names ++ rest) (drop_more names n [] lt ∙ ap (λ x. x ∷ drop (n + 1) names) (sym is))

pub parts_next : (map : Map) (names before : List (List ℕ)) (n : ℕ) (name : List ℕ) (d : MachineDesc) (files : List (List ℕ)) (c : MachineDesc) (after : List (List ℕ)) (e : MachineDesc) → n < length names → name ≡ get_or names n [] → PartsLoaded map 0 (take n names) before d files c → PartsLoaded map n (name ∷ []) files c after e → PartsLoaded map 0 (take (n + 1) names) before d after e
parts_next map names before n name d files c after e lt is h k =
    let at : n ≡ 0 + length (take n names) = omega (arith, length-take n names) in
    let more : take (n + 1) names ≡ take n names ++ name ∷ [] = take_more names n [] lt ∙ ap (λ x. take n names ++ x ∷ []) (sym is) in
    subst (λ (ns : List (List ℕ)). PartsLoaded map 0 ns before d after e) (sym more)
    (parts_more map 0 (take n names) before d files c (name ∷ []) after e h (subst (λ m. PartsLoaded map m (name ∷ []) files c after e) at k))

pub parts_all : (map : Map) (names before : List (List ℕ)) (n : ℕ) (d : MachineDesc) (after : List (List ℕ)) (e : MachineDesc) → length names ≤ n → PartsLoaded map 0 (take n names) before d after e → PartsLoaded map 0 names before d after e
parts_all map names before n d after e all h = subst (λ (ns : List (List ℕ)). PartsLoaded map 0 ns before d after e) (take_all n names all) h

-- the same of the record
pub stops_record : (map : Map) (status : Status) (text : Result (List ℕ) NoMemory) (names before : List (List ℕ)) (d : MachineDesc) (next : List (List ℕ) → MachineDesc → Opening → Type 0) (h : PartsStop map names before d status text) → Stops (OpensParts map (failed_of status (length h.files)) 0 names before d next) status
stops_record map status text names before d next h =
    subst (λ (ns : List (List ℕ)). Stops (OpensParts map (failed_of status (length h.files)) 0 ns before d next) status) (sym h.split)
    (named h.name h.named h.stops)
  where
    named : (name : List ℕ) → (name ≡ [] → ⊥) → LoadStops status h.files (part_fault h.desc (length h.front)) (map name) → Stops (OpensParts map (failed_of status (length h.files)) 0 (h.front ++ name ∷ h.rest) before d next) status
    named [] ne k = absurd (ne refl)
    named (first ∷ bytes) ne k =
        let at : 0 + length h.front ≡ length h.front = omega arith in
        stops_parts map status 0 h.front h.rest before first bytes d h.files h.desc next h.loaded
        (subst (λ m. LoadStops status h.files (part_fault h.desc m) (map (first ∷ bytes))) (sym at) k)

-- what is asked for where a load fails, other than that, is asked for where none fails
free_text : {A : Type 0} (files : List (List ℕ)) (f : Option (ℕ × ℕ)) (text : List ℕ) (Spelled : A → Type 0) (next then : List (List ℕ) → A → Opening → Type 0) (o : Opening) → ((fs : List (List ℕ)) (v : A) → next fs v o → then fs v o) → OpensText files f text Spelled next o → OpensText files f text Spelled then o
free_text files (Some f) text Spelled next then o go h = h
free_text files None text Spelled next then o go h = (h.0, h.1, go (files ++ text ∷ []) h.0 h.2)

free_load : {A : Type 0} (b : Bool) (files : List (List ℕ)) (fault : List ℕ → Option (ℕ × ℕ)) (Spelled : List ℕ → A → Type 0) (next then : List (List ℕ) → A → Opening → Type 0) (content : Option (List ℕ)) (o : Opening) → (o ≡ faulty → ⊥) → ((fs : List (List ℕ)) (v : A) → next fs v o → then fs v o) → OpensLoad b files fault Spelled next content o → OpensContent files fault Spelled then content o
free_load true files fault Spelled next then content o sound go h = absurd (sound h)
free_load false files fault Spelled next then None o sound go h = h
free_load false files fault Spelled next then (Some text) o sound go h = free_text files (file_fault fault text) text (Spelled text) next then o go h

free_parts : (map : Map) (failed : Option ℕ) (n : ℕ) (names files : List (List ℕ)) (d : MachineDesc) (next then : List (List ℕ) → MachineDesc → Opening → Type 0) (o : Opening) → (o ≡ faulty → ⊥) → ((fs : List (List ℕ)) (e : MachineDesc) → next fs e o → then fs e o) → OpensParts map failed n names files d next o → OpensParts map None n names files d then o
free_parts map failed n [] files d next then o sound go h = go files d h
free_parts map failed n ([] ∷ names) files d next then o sound go h = free_parts map failed (n + 1) names files d next then o sound go h
free_parts map failed n ((b ∷ bytes) ∷ names) files d next then o sound go h =
    free_load (fails failed (length files)) files (part_fault d n) (Completes d n) (λ fs e o. OpensParts map failed (n + 1) names fs e next o) (λ fs e o. OpensParts map None (n + 1) names fs e then o) (map (b ∷ bytes)) o sound
    (λ fs e k. free_parts map failed (n + 1) names fs e next then o sound go k) h

free_machine : (map : Map) (failed : Option ℕ) (schedule : List ℕ) (files : List (List ℕ)) (draft : Draft) (o : Opening) → (o ≡ faulty → ⊥) → OpensMachine map failed schedule files draft o → OpensMachine map None schedule files draft o
free_machine map failed schedule files draft o sound h =
    free_parts map failed 0 (names_of draft) files draft.desc (OpensSchedule map failed schedule) (OpensSchedule map None schedule) o sound
    (λ fs d k. free_load (fails failed (length fs)) fs (schedule_fault Built d) Schedules (OpensItems d) (OpensItems d) (map schedule) o sound (λ more items then. then) k) h

free_store : (failed : Option ℕ) (files : List (List ℕ)) (i : Image) (o : Opening) → (o ≡ faulty → ⊥) → OpensSource failed files i o → OpensSource None files i o
free_store failed files i o sound h = free (fails failed (length files)) h
  where
    free : (b : Bool) → OpensStore b i o → OpensSource None files i o
    free true k = absurd (sound k)
    free false k = k

pub free_form : (map : Map) (failed : Option ℕ) (form : Option Command) (o : Opening) → (o ≡ faulty → ⊥) → OpensForm map failed form o → OpensForm map None form o
free_form map failed None o sound h = h
free_form map failed (Some (run machine schedule)) o sound h =
    free_load (fails failed 0) [] description_fault Describes (OpensMachine map failed schedule) (OpensMachine map None schedule) (map machine) o sound
    (λ files draft k. free_machine map failed schedule files draft o sound k) h
free_form map failed (Some (asm source image)) o sound h =
    free_load (fails failed 0) [] source_fault Makes (OpensSource failed) (OpensSource None) (map source) o sound (λ files i k. free_store failed files i o sound k) h
free_form map failed (Some (list image)) o sound h =
    free_load (fails failed 0) [] image_fault Spells OpensListing OpensListing (map image) o sound (λ files i k. k) h

pub free_opening : (words : List (List ℕ)) (map : Map) (failed : Option ℕ) (o : Opening) → (o ≡ faulty → ⊥) → Opens words map failed o → Opens words map None o
free_opening words map failed o sound h = free_form map failed (form_of words) o sound h

pub err_is : {A E : Type 0} (e f : E) → ◌≡◌ {A = Result A E} (Err e) (Err f) → e ≡ f
err_is e f is = cc

pub not_empty : (name : List ℕ) (b : Bool) → b ≡ eqb (length name) 0 → b ≡ false → name ≡ [] → ⊥
not_empty [] b e f none = absurd (false≢true (sym f ∙ e))
not_empty (x ∷ xs) b e f none = absurd cc
