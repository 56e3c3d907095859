-- The forms of lines, by their first words.
use Rattle.std.specs.Prelude.{ℕ, Bool, true, false, if◌then◌else◌, codes, Option, Some, None, List}
use Rattle.std.specs.Str.{bytes_eq}
use Rattle.seq_schedule.specs.declared.forms.Form.{Form}
use Rattle.seq_schedule.specs.declared.forms.Form.TheVariants.{Turn, Turns, Round, Finish, Input, Close, Fail, Repair, Upset, Hangup}
use Rattle.seq_schedule.specs.declared.forms.Gate.{Gate}
use Rattle.seq_schedule.specs.declared.forms.Gate.TheVariants.{Built, Open}

-- the form of failures whose lines begin with this word
abbrev pub failure_named : List ℕ → Option Form
failure_named word =
    if bytes_eq word (codes "fail") then Some Fail
    else if bytes_eq word (codes "repair") then Some Repair
    else if bytes_eq word (codes "upset") then Some Upset
    else if bytes_eq word (codes "hangup") then Some Hangup
    else None

-- the form whose lines begin with this word
abbrev pub form_named : List ℕ → Option Form
form_named word =
    if bytes_eq word (codes "turn") then Some Turn
    else if bytes_eq word (codes "turns") then Some Turns
    else if bytes_eq word (codes "round") then Some Round
    else if bytes_eq word (codes "finish") then Some Finish
    else if bytes_eq word (codes "input") then Some Input
    else if bytes_eq word (codes "close") then Some Close
    else failure_named word

-- the machine runs what lines of this form say: all but hangups
abbrev pub is_built : Form → Bool
is_built Turn = true
is_built Turns = true
is_built Round = true
is_built Finish = true
is_built Input = true
is_built Close = true
is_built Fail = true
is_built Repair = true
is_built Upset = true
is_built Hangup = false

-- lines of this form are taken
abbrev pub is_taken : Gate → Form → Bool
is_taken Built form = is_built form
is_taken Open form = true
