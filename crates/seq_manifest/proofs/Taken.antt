-- What taking what was kept of a line does.
use Rattle.std.proofs.Common.{◌≡◌, ℕ, false, Some, None, List, sym, ap, subst, ◌∙◌}
use Rattle.std.specs.Option.{option_map}
use Rattle.seq_manifest.specs.declared.parts.Parts.{Parts}
use Rattle.seq_manifest.specs.Statements.{Statement, is_passed_over, said}
use Rattle.seq_manifest.specs.Drafts.{said_by}
use Rattle.seq_manifest.specs.Faults.{rule_of, line_rule, with_line}
use Rattle.seq_manifest.specs.Kept.{Kept, kept}
use Rattle.seq_manifest.specs.Taking.{IsParts, with_kept}
use Rattle.seq_manifest.proofs.Lines.{IsForm-said, kept_some, line_rule-said, with_line-said}
use Rattle.seq_manifest.proofs.Steps.{Steps, step}

-- the statement of a line of which this was kept
statement : (ws : List (List ℕ)) (k : Kept) → Some k ≡ option_map kept (said ws) → (s : Statement) × (said ws ≡ Some s) × (k ≡ kept s)
statement ws k g = kept_some (said ws) k g

-- the rule of a line is that of its statement
same_line : (p : Parts) (words ws : List (List ℕ)) (k : Kept) → words ≡ ws → is_passed_over ws ≡ false → (g : Some k ≡ option_map kept (said ws)) → line_rule (said_by p) words ≡ rule_of (said_by p) (Some (statement ws k g).0)
same_line p words ws k e f g = line_rule-said (said_by p) words ws (Some (statement ws k g).0) e f (statement ws k g).1

pub rule_of-line : (p : Parts) (words ws : List (List ℕ)) (k : Kept) → words ≡ ws → is_passed_over ws ≡ false → Some k ≡ option_map kept (said ws) → (rule : ℕ) → ((s : Statement) → k ≡ kept s → rule_of (said_by p) (Some s) ≡ Some rule) → line_rule (said_by p) words ≡ Some rule
rule_of-line p words ws k e f g rule h = same_line p words ws k e f g ∙ h (statement ws k g).0 (statement ws k g).2

stepped : (p : Parts) (s : Statement) (ws : List (List ℕ)) → IsParts p → said ws ≡ Some s → rule_of (said_by p) (Some s) ≡ None → Steps p s
stepped p s ws parts e h = step p s parts (IsForm-said ws s e) h

-- what a line that violates no rule does
pub record Takes (p q : Parts) (words : List (List ℕ)) : Type 0 where
  pub none : line_rule (said_by p) words ≡ None
  pub said : said_by q ≡ with_line (said_by p) words
  pub parts : IsParts q

pub taken_line : (p q : Parts) (words ws : List (List ℕ)) (k : Kept) (s : Statement) → IsParts p → words ≡ ws → is_passed_over ws ≡ false → said ws ≡ Some s → k ≡ kept s → rule_of (said_by p) (Some s) ≡ None → q ≡ with_kept p k → Takes p q words
taken_line p q words ws k s parts e f is kept_is h taken =
    let steps = stepped p s ws parts is h in
    let became = taken ∙ ap (with_kept p) kept_is in
    record {
      none = line_rule-said (said_by p) words ws (Some s) e f is ∙ h;
      said = ap said_by became ∙ steps.said ∙ sym (with_line-said (said_by p) words ws s e f is);
      parts = subst IsParts (sym became) steps.parts;
    }
