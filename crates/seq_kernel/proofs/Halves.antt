-- Halves of which none is struck stay equal, and a strike leaves what a process shows.
use Rattle.std.proofs.Common.{◌≡◌, ◌≢◌, ℕ, ◌%◌, Option, Some, None, refl, sym, ◌∙◌, ap}
use Rattle.seq_words.specs.declared.description.MachineDesc.{MachineDesc}
use Rattle.seq_words.specs.declared.half.Half.{Half}
use Rattle.seq_words.specs.declared.half.Half.TheVariants.{A, B}
use Rattle.seq_flat.specs.declared.state.FlatState.{FlatState}
use Rattle.seq_pair.specs.Halves.{other_half, struck}
use Rattle.seq_pair.specs.Turns.{IsAligned, unstruck, unstruck_of}
use Rattle.seq_pair.specs.declared.halves.Pair.{Pair}
use Rattle.seq_process.specs.declared.running.Running.{Running}
use Rattle.seq_kernel.specs.Views.{Blocks}
use Rattle.seq_kernel.specs.Shown.{Shows}
use Rattle.seq_kernel.specs.Turns.{half_answered, answered}
use Rattle.seq_kernel.specs.Halves.{KeepsHalves, struck_at, StrikesLeaveWhatIsShown}

-- halves that stay equal, with the same one struck, stay as they are to be
pub keeps_halves : (r after : Running) → after.pair.struck ≡ r.pair.struck → (r.pair.a ≡ r.pair.b → after.pair.a ≡ after.pair.b) → KeepsHalves r after
keeps_halves r after struck equal = record { struck = struck; equal = equal; agree = λ agree none. equal (agree (sym struck ∙ none)) }

-- an answer of a process with these halves
pub answered_keeps : (r s : Running) (n : ℕ) → s.pair ≡ r.pair → KeepsHalves r (answered s n)
answered_keeps r s n same = keeps_halves r (answered s n) (ap (λ (q : Pair). q.struck) same) (λ equal. ap (λ h. half_answered h n) (ap (λ (q : Pair). q.a) same ∙ equal ∙ sym (ap (λ (q : Pair). q.b) same)))

-- the half that isn't struck is the one that wasn't, or was equal to it
pub unstruck_left : (p : Pair) (half : Half) (reg mask : ℕ) → (p.struck ≡ None → p.a ≡ p.b) → p.struck ≢ Some (other_half half) → unstruck (struck p half reg mask) ≡ unstruck p
unstruck_left p A reg mask agree other = go p.struck agree other
  where
    go : (s : Option Half) → (s ≡ None → p.a ≡ p.b) → s ≢ Some B → p.b ≡ unstruck_of s p.a p.b
    go None same differ = sym (same refl)
    go (Some A) same differ = refl
    go (Some B) same differ = absurd (differ refl)
unstruck_left p B reg mask agree other = go p.struck agree other
  where
    go : (s : Option Half) → (s ≡ None → p.a ≡ p.b) → s ≢ Some A → p.a ≡ unstruck_of s p.a p.b
    go None same differ = refl
    go (Some A) same differ = absurd (differ refl)
    go (Some B) same differ = refl

pub aligned_left : (p : Pair) (half : Half) (reg mask : ℕ) → p.struck ≢ Some (other_half half) → IsAligned p.struck p.a p.b → IsAligned (struck p half reg mask).struck (struck p half reg mask).a (struck p half reg mask).b
aligned_left p A reg mask other is = go p.struck other is
  where
    go : (s : Option Half) → s ≢ Some B → IsAligned s p.a p.b → p.b.pc % 4 ≡ 0
    go None differ is = is.1
    go (Some A) differ is = is
    go (Some B) differ is = absurd (differ refl)
aligned_left p B reg mask other is = go p.struck other is
  where
    go : (s : Option Half) → s ≢ Some A → IsAligned s p.a p.b → p.a.pc % 4 ≡ 0
    go None differ is = is.0
    go (Some A) differ is = absurd (differ refl)
    go (Some B) differ is = is

pub is_struck : (p : Pair) (half : Half) (reg mask : ℕ) → (struck p half reg mask).struck ≡ Some half
is_struck p A reg mask = refl
is_struck p B reg mask = refl

-- the same registers are shown
shown_struck : (d : MachineDesc) (r : Running) (half : Half) (reg mask : ℕ) → unstruck (struck r.pair half reg mask) ≡ unstruck r.pair → (f : FlatState) (o : Blocks) → Shows d f o r → Shows d f o (struck_at r half reg mask)
shown_struck d r half reg mask same f o shows = record {
  whole = shows.whole;
  registers = same ∙ shows.registers;
  end = shows.end;
  private = shows.private;
  segment = λ t lt. record { held = (shows.segment t lt).held; bytes = (shows.segment t lt).bytes };
  line = λ l own. record { read = (shows.line l own).read; written = (shows.line l own).written; outbox = (shows.line l own).outbox };
}

pub strikes_leave_what_is_shown : StrikesLeaveWhatIsShown
strikes_leave_what_is_shown d r half reg mask agree other =
    let same = unstruck_left r.pair half reg mask agree other in
    record {
      unstruck = same;
      aligned = aligned_left r.pair half reg mask other;
      agree = λ none. absurd (let both = sym (is_struck r.pair half reg mask) ∙ none in cc);
      shows = shown_struck d r half reg mask same;
    }
