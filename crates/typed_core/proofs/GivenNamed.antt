-- The types that a rule gives name present and fresh variables, and the rows of a side present ones.
use Rattle.std.proofs.Common.{◌≡◌, ℕ, ◌+◌, ◌≤◌, List, [], ◌∷◌, Bool as Truth, Result, Ok, Err}
use Rattle.std.specs.List.{All}
use Rattle.std.proofs.lemmas.List.Elements.{All-nil, All-cons, All-head, All-tail}
use Rattle.xan_lin.specs.declared.term.TooLarge.{TooLarge}
use Rattle.state_types.specs.Tables.{IsClosed}
use Rattle.state_types.specs.Types.{TypeBelow}
use Rattle.state_types.specs.declared.types.Ty.{Ty}
use Rattle.operation_rules.specs.Applied.{all_given}
use Rattle.operation_rules.specs.Named.{IsNamed, IsTypeNamed}
use Rattle.operation_rules.specs.Rules.{Setting, rule}
use Rattle.operation_rules.specs.Sides.{side}
use Rattle.operation_rules.specs.declared.operation.Operation.{Operation}
use Rattle.operation_rules.specs.declared.rule.Rule.{Rule}
use Rattle.operation_rules.proofs.RuleNames.{rule_names, sides_named}
use Rattle.typed_core.proofs.LimitedAnswers.{Answers, Anything, then_answers}

one_named : (n : ℕ) (t : Result Ty TooLarge) → IsTypeNamed n t → Answers Anything (TypeBelow n) t
one_named n (Ok t) h = record { is = h }
one_named n (Err why) h = record { is = tt }

pub given_named : (n : ℕ) (ts : List (Result Ty TooLarge)) → All (IsTypeNamed n) ts → Answers Anything (All (TypeBelow n)) (all_given ts)
unfolding all_given
given_named n [] all = record { is = All-nil (TypeBelow n) }
given_named n (t ∷ ts) all =
    then_answers t _ (one_named n t (All-head (IsTypeNamed n) t ts all))
    (λ one h. then_answers (all_given ts) _ (given_named n ts (All-tail (IsTypeNamed n) t ts all)) (λ others g. record { is = All-cons (TypeBelow n) one others h g }))

pub rule_gives : (st : Setting) (op : Operation) (types : List Ty) (first : ℕ) (r : Rule) → All IsClosed st.table → st.own.vars ≤ first → rule st op types first ≡ Ok r
    → All (TypeBelow first) types → All (IsTypeNamed (first + r.fresh)) r.given
rule_gives st op types first r closed le e below = (rule_names st op types first r closed le e below).given

pub side_named : (n : ℕ) (taken : Truth) (op : Operation) (types : List Ty) → All (TypeBelow n) types → All (IsNamed n) (side taken op types)
side_named n taken op types below = sides_named n taken op types below
