-- A report tells its status.
use Rattle.std.proofs.Common.{◌≡◌, ℕ, ◌+◌, ◌%◌, ◌^◌, ◌<◌, ◌≤◌, true, false, eqb, eq-eqb, List, [], ◌∷◌, ◌++◌, append_assoc, refl, sym, ap, subst, ◌∙◌, arith}
use Rattle.std.proofs.lemmas.Bool.{false≢true}
use Rattle.std.specs.Prelude.{codes, decimal}
use Rattle.std.proofs.lemmas.Fmt.{decimal_by_steps, decimal_injective}
use Rattle.seq_words.specs.declared.kinds.Element.{Element}
use Rattle.seq_words.specs.declared.kinds.Element.TheVariants as elements
use Rattle.seq_words.specs.declared.kinds.Blocker.{Blocker}
use Rattle.seq_words.specs.declared.kinds.Blocker.TheVariants as blockers
use Rattle.seq_report.specs.declared.status.Status.{Status}
use Rattle.seq_report.specs.declared.status.Status.TheVariants.{Done, Usage, Refused, Absent, MachineCheck, OutOfTurns, ShelfFault, SinkFault, ChronicleFault, LineFault, NoMemory}
use Rattle.seq_report.specs.Texts.{element_name, blocker_name, check_words, first_line, is_reported, history_line, process_lines, sent_lines}
use Rattle.seq_report.specs.Laws.{ElementFits, BlockerFits, StatusFits, ReportsTellStatus}

-- ---- a number, and what stands behind it

abbrev IsDigit : ℕ → Type 0
IsDigit c = (48 ≤ c) × (c < 58)

abbrev AreDigits : List ℕ → Type 0
AreDigits [] = Unit {0}
AreDigits (c ∷ cs) = IsDigit c × AreDigits cs

one_more : (cs : List ℕ) (c : ℕ) → AreDigits cs → IsDigit c → AreDigits (cs ++ c ∷ [])
one_more [] c are is = (is, tt)
one_more (b ∷ cs) c are is = (are.0, one_more cs c are.1 is)

digits_are : (n : ℕ) → n < 2 ^ 64 → AreDigits (decimal n)
digits_are n small = decimal_by_steps (λ n cs. AreDigits cs)
    (λ n lt. ((omega arith, omega arith), tt))
    (λ n cs le are. one_more cs (48 + n % 10) are (omega arith, omega arith))
    n small

head_is : (a b : ℕ) (us vs : List ℕ) → a ∷ us ≡ b ∷ vs → a ≡ b
head_is a b us vs e = cc

tail_is : (a b : ℕ) (us vs : List ℕ) → a ∷ us ≡ b ∷ vs → us ≡ vs
tail_is a b us vs e = cc

-- digits that end before these bytes, which are none
parted : (us vs : List ℕ) (c d : ℕ) (xs ys : List ℕ) → AreDigits us → AreDigits vs → (IsDigit c → ⊥) → (IsDigit d → ⊥) → us ++ c ∷ xs ≡ vs ++ d ∷ ys → (us ≡ vs) × (c ∷ xs ≡ d ∷ ys)
parted [] [] c d xs ys are other no_c no_d e = (refl, e)
parted [] (b ∷ vs) c d xs ys are other no_c no_d e = absurd (no_c (subst IsDigit (sym (head_is c b xs (vs ++ d ∷ ys) e)) other.0))
parted (a ∷ us) [] c d xs ys are other no_c no_d e = absurd (no_d (subst IsDigit (head_is a d (us ++ c ∷ xs) ys e) are.0))
parted (a ∷ us) (b ∷ vs) c d xs ys are other no_c no_d e =
    let heads : a ≡ b = head_is a b (us ++ c ∷ xs) (vs ++ d ∷ ys) e in
    let rest = parted us vs c d xs ys are.1 other.1 no_c no_d (tail_is a b (us ++ c ∷ xs) (vs ++ d ∷ ys) e) in
    let front : us ≡ vs = rest.0 in
    let both : a ∷ us ≡ b ∷ vs = λ i. heads i ∷ front i in
    (both, rest.1)

record Parts (m n c d : ℕ) (xs ys : List ℕ) : Type 0 where
  number : m ≡ n
  byte : c ≡ d
  rest : xs ≡ ys

number_then : (m n c d : ℕ) (xs ys : List ℕ) → m < 2 ^ 64 → n < 2 ^ 64 → (IsDigit c → ⊥) → (IsDigit d → ⊥) → decimal m ++ c ∷ xs ≡ decimal n ++ d ∷ ys → Parts m n c d xs ys
number_then m n c d xs ys low high no_c no_d e =
    let parts = parted (decimal m) (decimal n) c d xs ys (digits_are m low) (digits_are n high) no_c no_d e in
    record { number = decimal_injective m n low high parts.0; byte = head_is c d xs ys parts.1; rest = tail_is c d xs ys parts.1 }

no_newline : IsDigit 10 → ⊥
no_newline is = let low : 48 ≤ 10 = is.0 in omega (arith, low)

no_space : IsDigit 32 → ⊥
no_space is = let low : 48 ≤ 32 = is.0 in omega (arith, low)

no_colon : IsDigit 58 → ⊥
no_colon is = let high : 58 < 58 = is.1 in omega (arith, high)

-- texts that begin otherwise
differ : (a b : ℕ) (us vs : List ℕ) → eqb a b ≡ false → a ∷ us ≡ b ∷ vs → ⊥
differ a b us vs test e = false≢true (sym test ∙ eq-eqb a b (head_is a b us vs e))

cancel : (front xs ys : List ℕ) → front ++ xs ≡ front ++ ys → xs ≡ ys
cancel [] xs ys e = e
cancel (a ∷ front) xs ys e = cancel front xs ys (tail_is a a (front ++ xs) (front ++ ys) e)

-- behind the same words
behind_words : (words d e end xs ys : List ℕ) → ((words ++ d) ++ end) ++ xs ≡ ((words ++ e) ++ end) ++ ys → d ++ (end ++ xs) ≡ e ++ (end ++ ys)
behind_words words d e end xs ys is = cancel words (d ++ (end ++ xs)) (e ++ (end ++ ys)) (sym (grouped d xs) ∙ is ∙ grouped e ys)
  where
    grouped : (n zs : List ℕ) → ((words ++ n) ++ end) ++ zs ≡ words ++ (n ++ (end ++ zs))
    grouped n zs = append_assoc (words ++ n) end zs ∙ append_assoc words n (end ++ zs)

-- ---- elements, and what kept the machine from going on

record Named (x y : Element) (xs ys : List ℕ) : Type 0 where
  element : x ≡ y
  rest : xs ≡ ys

elements_told : (x y : Element) (xs ys : List ℕ) → ElementFits x → ElementFits y → element_name x ++ 32 ∷ xs ≡ element_name y ++ 32 ∷ ys → Named x y xs ys
elements_told (elements.Processor p) (elements.Processor q) xs ys low high e =
    let parts = number_then p.0 q.0 32 32 xs ys low high no_space no_space (tail_is 112 112 (decimal p.0 ++ 32 ∷ xs) (decimal q.0 ++ 32 ∷ ys) e) in
    record { element = λ i. elements.Processor (record { 0 = parts.number i }); rest = parts.rest }
elements_told (elements.Memory m) (elements.Memory n) xs ys low high e =
    let parts = number_then m.0 n.0 32 32 xs ys low high no_space no_space (tail_is 109 109 (decimal m.0 ++ 32 ∷ xs) (decimal n.0 ++ 32 ∷ ys) e) in
    record { element = λ i. elements.Memory (record { 0 = parts.number i }); rest = parts.rest }
elements_told (elements.Io i) (elements.Io j) xs ys low high e =
    let parts = number_then i.0 j.0 32 32 xs ys low high no_space no_space (tail_is 105 105 (decimal i.0 ++ 32 ∷ xs) (decimal j.0 ++ 32 ∷ ys) e) in
    record { element = λ k. elements.Io (record { 0 = parts.number k }); rest = parts.rest }
elements_told (elements.Processor p) (elements.Memory n) xs ys low high e = absurd (differ 112 109 _ _ refl e)
elements_told (elements.Processor p) (elements.Io j) xs ys low high e = absurd (differ 112 105 _ _ refl e)
elements_told (elements.Memory m) (elements.Processor q) xs ys low high e = absurd (differ 109 112 _ _ refl e)
elements_told (elements.Memory m) (elements.Io j) xs ys low high e = absurd (differ 109 105 _ _ refl e)
elements_told (elements.Io i) (elements.Processor q) xs ys low high e = absurd (differ 105 112 _ _ refl e)
elements_told (elements.Io i) (elements.Memory n) xs ys low high e = absurd (differ 105 109 _ _ refl e)

blockers_told : (x y : Blocker) (xs ys : List ℕ) → BlockerFits x → BlockerFits y → blocker_name x ++ 10 ∷ xs ≡ blocker_name y ++ 10 ∷ ys → x ≡ y
blockers_told (blockers.Memory m) (blockers.Memory n) xs ys low high e =
    let parts = number_then m.0 n.0 10 10 xs ys low high no_newline no_newline (tail_is 109 109 (decimal m.0 ++ 10 ∷ xs) (decimal n.0 ++ 10 ∷ ys) e) in
    λ i. blockers.Memory (record { 0 = parts.number i })
blockers_told (blockers.Process p) (blockers.Process q) xs ys low high e =
    let parts = number_then p.0 q.0 10 10 xs ys low high no_newline no_newline (cancel (codes "process ") (decimal p.0 ++ 10 ∷ xs) (decimal q.0 ++ 10 ∷ ys) e) in
    λ i. blockers.Process (record { 0 = parts.number i })
blockers_told (blockers.Memory m) (blockers.Process q) xs ys low high e = absurd (differ 109 112 _ _ refl e)
blockers_told (blockers.Process p) (blockers.Memory n) xs ys low high e = absurd (differ 112 109 _ _ refl e)

checks_told : (line other : ℕ) (x y : Element) (u v : Blocker) (xs ys : List ℕ) → StatusFits (MachineCheck line x u) → StatusFits (MachineCheck other y v) → first_line (MachineCheck line x u) ++ xs ≡ first_line (MachineCheck other y v) ++ ys → MachineCheck line x u ≡ MachineCheck other y v
checks_told line other x y u v xs ys low high e =
    let words : List ℕ = codes "machine check at line " in
    let colon : List ℕ = codes ": " in
    let grouped : (n : ℕ) (z : Element) (w : Blocker) (zs : List ℕ) → first_line (MachineCheck n z w) ++ zs ≡ ((words ++ decimal n) ++ colon) ++ (check_words z w ++ 10 ∷ zs) =
    λ n z w zs. append_assoc (((words ++ decimal n) ++ colon) ++ check_words z w) (10 ∷ []) zs ∙ append_assoc ((words ++ decimal n) ++ colon) (check_words z w) (10 ∷ zs)
    in
    let named : (z : Element) (w : Blocker) (zs : List ℕ) → check_words z w ++ 10 ∷ zs ≡ element_name z ++ (codes " while " ++ (blocker_name w ++ 10 ∷ zs)) =
    λ z w zs. append_assoc (element_name z ++ codes " while ") (blocker_name w) (10 ∷ zs) ∙ append_assoc (element_name z) (codes " while ") (blocker_name w ++ 10 ∷ zs)
    in
    let numbers = number_then line other 58 58 (32 ∷ (check_words x u ++ 10 ∷ xs)) (32 ∷ (check_words y v ++ 10 ∷ ys)) low.0 high.0 no_colon no_colon
    (behind_words words (decimal line) (decimal other) colon (check_words x u ++ 10 ∷ xs) (check_words y v ++ 10 ∷ ys) (sym (grouped line x u xs) ∙ e ∙ grouped other y v ys)) in
    let names : check_words x u ++ 10 ∷ xs ≡ check_words y v ++ 10 ∷ ys = tail_is 32 32 (check_words x u ++ 10 ∷ xs) (check_words y v ++ 10 ∷ ys) numbers.rest in
    let while : List ℕ = codes "while " in
    let stopped = elements_told x y (while ++ (blocker_name u ++ 10 ∷ xs)) (while ++ (blocker_name v ++ 10 ∷ ys)) low.1 high.1 (sym (named x u xs) ∙ names ∙ named y v ys) in
    let cause : u ≡ v = blockers_told u v xs ys low.2 high.2 (cancel while (blocker_name u ++ 10 ∷ xs) (blocker_name v ++ 10 ∷ ys) stopped.rest) in
    λ i. MachineCheck (numbers.number i) (stopped.element i) (cause i)

-- ---- statuses

told : (s t : Status) (xs ys : List ℕ) → is_reported s ≡ true → is_reported t ≡ true → StatusFits s → StatusFits t → first_line s ++ xs ≡ first_line t ++ ys → s ≡ t
told Done Done xs ys _ _ low high e = refl
told (MachineCheck line x u) (MachineCheck other y v) xs ys _ _ low high e = checks_told line other x y u v xs ys low high e
told (OutOfTurns line) (OutOfTurns other) xs ys _ _ low high e =
    ap OutOfTurns (number_then line other 10 10 xs ys low high no_newline no_newline (behind_words (codes "out of turns at line ") (decimal line) (decimal other) (10 ∷ []) xs ys e)).number
told (LineFault line) (LineFault other) xs ys _ _ low high e =
    let parts = number_then line.0 other.0 10 10 xs ys low high no_newline no_newline (behind_words (codes "line fault ") (decimal line.0) (decimal other.0) (10 ∷ []) xs ys e) in
    λ i. LineFault (record { 0 = parts.number i })
told ChronicleFault ChronicleFault xs ys _ _ low high e = refl
told Done (MachineCheck other y v) xs ys _ _ low high e = absurd (differ 100 109 _ _ refl e)
told Done (OutOfTurns other) xs ys _ _ low high e = absurd (differ 100 111 _ _ refl e)
told Done (LineFault other) xs ys _ _ low high e = absurd (differ 100 108 _ _ refl e)
told Done ChronicleFault xs ys _ _ low high e = absurd (differ 100 99 _ _ refl e)
told (MachineCheck line x u) Done xs ys _ _ low high e = absurd (differ 109 100 _ _ refl e)
told (MachineCheck line x u) (OutOfTurns other) xs ys _ _ low high e = absurd (differ 109 111 _ _ refl e)
told (MachineCheck line x u) (LineFault other) xs ys _ _ low high e = absurd (differ 109 108 _ _ refl e)
told (MachineCheck line x u) ChronicleFault xs ys _ _ low high e = absurd (differ 109 99 _ _ refl e)
told (OutOfTurns line) Done xs ys _ _ low high e = absurd (differ 111 100 _ _ refl e)
told (OutOfTurns line) (MachineCheck other y v) xs ys _ _ low high e = absurd (differ 111 109 _ _ refl e)
told (OutOfTurns line) (LineFault other) xs ys _ _ low high e = absurd (differ 111 108 _ _ refl e)
told (OutOfTurns line) ChronicleFault xs ys _ _ low high e = absurd (differ 111 99 _ _ refl e)
told (LineFault line) Done xs ys _ _ low high e = absurd (differ 108 100 _ _ refl e)
told (LineFault line) (MachineCheck other y v) xs ys _ _ low high e = absurd (differ 108 109 _ _ refl e)
told (LineFault line) (OutOfTurns other) xs ys _ _ low high e = absurd (differ 108 111 _ _ refl e)
told (LineFault line) ChronicleFault xs ys _ _ low high e = absurd (differ 108 99 _ _ refl e)
told ChronicleFault Done xs ys _ _ low high e = absurd (differ 99 100 _ _ refl e)
told ChronicleFault (MachineCheck other y v) xs ys _ _ low high e = absurd (differ 99 109 _ _ refl e)
told ChronicleFault (OutOfTurns other) xs ys _ _ low high e = absurd (differ 99 111 _ _ refl e)
told ChronicleFault (LineFault other) xs ys _ _ low high e = absurd (differ 99 108 _ _ refl e)
told Usage t xs ys r _ low high e = absurd (false≢true r)
told (Refused file place rule) t xs ys r _ low high e = absurd (false≢true r)
told (Absent file) t xs ys r _ low high e = absurd (false≢true r)
told ShelfFault t xs ys r _ low high e = absurd (false≢true r)
told SinkFault t xs ys r _ low high e = absurd (false≢true r)
told NoMemory t xs ys r _ low high e = absurd (false≢true r)
told s Usage xs ys _ r low high e = absurd (false≢true r)
told s (Refused file place rule) xs ys _ r low high e = absurd (false≢true r)
told s (Absent file) xs ys _ r low high e = absurd (false≢true r)
told s ShelfFault xs ys _ r low high e = absurd (false≢true r)
told s SinkFault xs ys _ r low high e = absurd (false≢true r)
told s NoMemory xs ys _ r low high e = absurd (false≢true r)

pub reports_tell_status : ReportsTellStatus
reports_tell_status s t f g history other sent accepted hung marks r q low high e =
    told s t (history_line history ++ (process_lines 0 f.processes ++ sent_lines hung 0 sent)) (history_line other ++ (process_lines 0 g.processes ++ sent_lines marks 0 accepted)) r q low high
    (sym (grouped (first_line s) (history_line history) (process_lines 0 f.processes) (sent_lines hung 0 sent)) ∙ e ∙ grouped (first_line t) (history_line other) (process_lines 0 g.processes) (sent_lines marks 0 accepted))
  where
    grouped : (a b c d : List ℕ) → ((a ++ b) ++ c) ++ d ≡ a ++ (b ++ (c ++ d))
    grouped a b c d = append_assoc (a ++ b) c d ∙ append_assoc a b (c ++ d)
