-- An acquire that its lock grants is the flat machine's step.
use Rattle.std.proofs.Common.{◌≡◌, ℕ, ◌+◌, ◌-◌, ◌≤◌, arith, true, false, ◌==◌, List, length, drop, refl, sym, ◌∙◌, ap}
use Rattle.std.specs.Prelude.{nat_lt, if◌then◌else◌, None}
use Rattle.std.specs.List.{list_any}
use Rattle.std.proofs.lemmas.Bool.{lt-ltb}
use Rattle.seq_words.specs.Masks.{has_bit}
use Rattle.seq_words.specs.declared.regs.Regs.{Regs}
use Rattle.seq_isa.specs.Meaning.{register}
use Rattle.seq_flat.specs.declared.inputs.LineInput.{LineInput}
use Rattle.seq_flat.specs.declared.state.FlatState.{FlatState}
use Rattle.seq_flat.specs.declared.state.Rights.{Rights}
use Rattle.seq_flat.specs.State.{segment_at, rights_at, rights_of}
use Rattle.seq_flat.specs.Memory.{is_owner}
use Rattle.seq_flat.specs.Calls as flat
use Rattle.seq_flat.specs.Effects.{plain_effect}
use Rattle.seq_flat.proofs.Cases.{steps_calls}
use Rattle.seq_pair.specs.Turns.{unstruck}
use Rattle.seq_kernel.specs.Calls as kernel
use Rattle.seq_kernel.specs.Shown.{Shows}
use Rattle.seq_kernel.specs.Refinement.{ClaimsAskFor, AsksInAllShown, GrantsAreFlat}
use Rattle.seq_kernel.proofs.KeptRunning.{still_held}
use Rattle.seq_kernel.proofs.RefineCallsMeets.{rights_are}
use Rattle.seq_kernel.proofs.RefineCallsSegments.{none_owned, with_taken, taken_flat, taken_shows}
use Rattle.seq_kernel.proofs.RefineCalls.{same_register}
use Rattle.seq_kernel.proofs.TurnCauses.{turns_have_their_cause}
use Rattle.seq_kernel.proofs.RefineStepsInstruction.{process_there, process_lives, outcome_shown}
use Rattle.seq_kernel.proofs.RefineSteps.{call_shown}

-- the flat machine's call with number 1, and its acquire of a segment that nobody owns
flat_acquires : (rights : Rights) (inputs : List LineInput) (f : FlatState) (p number : ℕ) → number ≡ 1 → flat.kernel_call rights inputs f p number ≡ flat.acquire rights f p (flat.argument f p 10)
unfolding flat.kernel_call
flat_acquires rights inputs f p number is = rw is refl

flat_takes : (rights : Rights) (f : FlatState) (p s : ℕ) → nat_lt s (length f.segments) ≡ true → has_bit rights.grants s ≡ true → is_owner p (segment_at f s).owner ≡ false → list_any (λ t. is_owner p t.owner) (drop (s + 1) f.segments) ≡ false → (segment_at f s).owner ≡ None → flat.acquire rights f p s ≡ flat.taken_by f p s None
unfolding flat.acquire
flat_takes rights f p s known granted other none_above free = rw (known, granted, other, none_above, free) refl

-- A process whose turn claims a segment asks for it.
pub claims_ask_for : ClaimsAskFor
claims_ask_for d f p r c t described running is shows claims =
    let why = ((turns_have_their_cause d p r c).claims (record { 0 = t })).0 claims in
    let first : (i : ℕ) → 10 ≤ i → i ≤ 17 → register (unstruck r.pair) i ≡ register r.pair.a i = λ i low high. ap (λ x. if i == 0 then 0 else x) (same_register r.pair i (why.1.asks.agree.argument i low high)) in
    record {
      calls = call_shown d f p r c described running is shows why.0;
      number = first 17 (omega arith) (omega arith) ∙ why.1.asks.number;
      segment = first 10 (omega arith) (omega arith) ∙ why.1.segment;
      known = why.1.known;
      granted = why.1.granted;
      free = why.1.free;
      highest = why.1.above;
    }

-- It asks for it in each flat state that it shows.
pub asks_in_all_shown : AsksInAllShown
asks_in_all_shown d f g o r t described running is_f is_g shows_f shows_g asked = record {
  calls = outcome_shown d g o r described running is_g shows_g ∙ sym (outcome_shown d f o r described running is_f shows_f) ∙ asked.calls;
  number = asked.number;
  segment = asked.segment;
  known = asked.known;
  granted = asked.granted;
  free = asked.free;
  highest = asked.highest;
}

-- Its acquire is the flat machine's step once the lock is held, where nobody owns the segment.
pub grants_are_flat : GrantsAreFlat
grants_are_flat d inputs f o r t running is shows asked free bytes =
    let rights : Rights = rights_at (rights_of d) r.pid.0 in
    let register_is : (i : ℕ) → flat.argument f r.pid.0 i ≡ register (unstruck r.pair) i = λ i. ap (λ (h : Regs). register h i) (sym shows.registers) in
    let known : nat_lt t (length f.segments) ≡ true = ap (nat_lt t) is.segments ∙ lt-ltb t (length d.segments) asked.known in
    let grants : has_bit rights.grants t ≡ true = ap (λ (x : Rights). has_bit x.grants t) (rights_are d r.pid.0 running.within.process) ∙ asked.granted in
    let taken : flat.kernel_call rights inputs f r.pid.0 (flat.argument f r.pid.0 17) ≡ flat.taken_by f r.pid.0 t None =
    flat_acquires rights inputs f r.pid.0 (flat.argument f r.pid.0 17) (register_is 17 ∙ asked.number)
    ∙ ap (flat.acquire rights f r.pid.0) (register_is 10 ∙ asked.segment)
    ∙ flat_takes rights f r.pid.0 t known grants (sym (shows.segment t asked.known).held ∙ asked.free) (none_owned d f r is running o shows t asked.highest) free in
    let after : Shows d (with_taken d f r is running o shows t asked.known) o (kernel.granted r t) = taken_shows d f r is running o shows t asked.known asked.free bytes in
    record {
      state = with_taken d f r is running o shows t asked.known;
      step = steps_calls (rights_of d) inputs f r.pid.0 (process_there d f r running is) (process_lives d f o r running shows) (sym (ap plain_effect asked.calls)) ∙ taken;
      flat = taken_flat d f r is running o shows t asked.known;
      shows = after;
      bytes = λ u lt was. (after.segment u lt).bytes (still_held r.held t u asked.free was);
    }
