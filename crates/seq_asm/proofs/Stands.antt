-- What is said of labels, about the line that they were read from.
use Rattle.std.proofs.Common.{◌≡◌, ℕ, Bool, Option, List, ◌++◌, ap, subst, ◌∙◌, Bor}
use Rattle.std.specs.BTreeMap.{BTreeMap}
use Rattle.seq_asm.specs.Lines.{labelled}
use Rattle.seq_asm.specs.Rules.{stands}
use Rattle.seq_asm.specs.Surveyed.{HasLabels}

pub stands_here : (m : BTreeMap (Bor (List ℕ)) ℕ) (label : Option (List ℕ)) (line : Option (List ℕ)) (s : Bool) → ((known : List (List ℕ × ℕ)) → HasLabels m known → s ≡ stands known label) → label ≡ line → (known : List (List ℕ × ℕ)) → HasLabels m known → s ≡ stands known line
stands_here m label line s h e known k = h known k ∙ ap (stands known) e

pub noted_here : (m n : BTreeMap (Bor (List ℕ)) ℕ) (at : ℕ) (label line : Option (List ℕ)) → ((known : List (List ℕ × ℕ)) → HasLabels m known → HasLabels n (labelled at label ++ known)) → label ≡ line → (known : List (List ℕ × ℕ)) → HasLabels m known → HasLabels n (labelled at line ++ known)
noted_here m n at label line h e known k = subst (λ (l : Option (List ℕ)). HasLabels n (labelled at l ++ known)) e (h known k)
