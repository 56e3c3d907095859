-- What an event makes of a state.
use Rattle.std.specs.Prelude.{◌≡◌, ℕ, ◌/◌, Bool, true, false, not, ◌&&◌, ◌||◌, nat_le, if◌then◌else◌}
use Rattle.seq_words.specs.declared.kinds.Element.{Element}
use Rattle.seq_words.specs.declared.kinds.Element.TheVariants as elements
use Rattle.seq_words.specs.declared.events.Event.{Event}
use Rattle.seq_words.specs.declared.events.Event.TheVariants as events
use Rattle.seq_words.specs.Names.{has_name}
use Rattle.seq_schedule.specs.Rules.{same_element}
use Rattle.seq_schedule.specs.Below.{each_below, some_below, count_below}
use Rattle.seq_schedule.specs.declared.known.Trouble.TheVariants.{Failed, Upset}
use Rattle.seq_schedule.specs.declared.known.Count.{Count}
use Rattle.seq_schedule.specs.declared.known.Count.TheVariants.{First, Second}
use Rattle.seq_schedule.specs.declared.known.Known.{Known}
use Rattle.seq_schedule.specs.declared.outs.OutState.{OutState}
use Rattle.seq_schedule.specs.Known.{mended_trouble, settled, turned}
use Rattle.seq_schedule.specs.Tables.{works, has_turns, is_troubled, at_entry}
use Rattle.seq_schedule.specs.Keeping.{told}

-- what an event makes of what is known of an element, where second counts have begun or not, and no count goes above a number
abbrev pub step : Bool → ℕ → Element → Event → Known → Known
step begun most e (events.Processor p) k = if same_element e (elements.Processor p) then turned k begun most else k
step begun most e (events.Io i) k = if same_element e (elements.Io i) then turned k begun most else k
step begun most e (events.Fail f) k = if same_element e f then record { trouble = Failed; failed = true; first = 0; second = 0 } else record k { first = 0; second = 0 }
step begun most e (events.Repair f) k = if same_element e f then record { trouble = mended_trouble k.trouble; failed = false; first = 0; second = 0 } else record k { first = 0; second = 0 }
step begun most e (events.Upset p half reg mask) k = if same_element e (elements.Processor p) then record { trouble = Upset; failed = k.failed; first = 0; second = 0 } else record k { first = 0; second = 0 }
step begun most e (events.Input l byte) k = k
step begun most e (events.Close l) k = k
step begun most e (events.Hangup l) k = k

-- of a state: someone works and each has reached a count, and a memory is out together with another or with a processor
abbrev pub told_reached : OutState → Count → ℕ → Bool
told_reached s count turns =
    (some_below (at_entry works s.processors) s.processor_count || some_below (at_entry works s.ios) s.io_count)
    && (each_below (at_entry (has_turns count turns) s.processors) s.processor_count && each_below (at_entry (has_turns count turns) s.ios) s.io_count)

abbrev pub told_together : OutState → Bool
told_together s =
    let memories = count_below (at_entry is_troubled s.memories) s.memory_count in
    nat_le 2 memories || nat_le 1 memories && nat_le 1 (count_below (at_entry is_troubled s.processors) s.processor_count)

-- nothing but the tables differs
pub record SameBounds (s new : OutState) : Type 0 where
  pub processors : new.processor_count ≡ s.processor_count
  pub memories : new.memory_count ≡ s.memory_count
  pub ios : new.io_count ≡ s.io_count
  pub needed : new.needed ≡ s.needed

-- the entry of one element is set
pub record SetsOne (s new : OutState) (e : Element) (k : Known) : Type 0 where
  pub bounds : SameBounds s new
  pub covered : new.covered ≡ s.covered
  pub known : (f : Element) → has_name f ≡ true → told new f ≡ (if same_element f e then k else told s f)

-- every entry is changed
pub record SetsAll (s new : OutState) (f : Element → Known → Known) : Type 0 where
  pub bounds : SameBounds s new
  pub covered : new.covered ≡ s.covered
  pub known : (e : Element) → has_name e ≡ true → told new e ≡ f e (told s e)

-- the tables after an event, before outs end
pub record Advances (s new : OutState) (x : Event) : Type 0 where
  pub bounds : SameBounds s new
  pub covered : new.covered ≡ s.covered
  pub known : (f : Element) → has_name f ≡ true → told new f ≡ step (told_reached s First (s.needed / 2)) s.needed f x (told s f)

-- the counts that end the out of an element are met
abbrev pub told_met : OutState → Element → Bool
told_met s (elements.Processor p) = told_reached s First s.needed && told_reached s Second (s.needed / 2)
told_met s (elements.Memory m) = told_reached s First s.needed
told_met s (elements.Io i) = told_reached s First s.needed

-- outs end where the counts are met
pub record Settles (s new : OutState) : Type 0 where
  pub bounds : SameBounds s new
  pub covered : new.covered ≡ (s.covered && not (told_together new))
  pub known : (f : Element) → has_name f ≡ true → told new f ≡ settled (told_met s f) (told s f)
