-- Rows bring a context no index variable, and where a rule is followed there are no fewer.
use Rattle.std.proofs.Common.{◌≡◌, ◌≤◌, Result, Ok, List, arith}
use Rattle.index_sorts.specs.Context.{IndexContext}
use Rattle.xan_lin.specs.Linear.{Linear}
use Rattle.xan_lin.specs.declared.term.TooLarge.{TooLarge}
use Rattle.state_types.specs.declared.types.Ty.{Ty}
use Rattle.operation_rules.proofs.RuleFacts.{filled_ok}
use Rattle.operation_rules.specs.Applied.{all_assuming}
use Rattle.operation_rules.specs.Faults.{filled}
use Rattle.operation_rules.specs.declared.rule.Rule.{Rule}
use Rattle.typed_core.specs.Constructs.{followed}
use Rattle.typed_core.proofs.NamedStates.{all_assumed_vars, followed_vars}

pub assumed_same : (rows : List (Result Linear TooLarge)) (ctx more : IndexContext) → filled (all_assuming rows ctx) ≡ Ok more → more.vars ≡ ctx.vars
assumed_same rows ctx more e = all_assumed_vars rows ctx more (filled_ok (all_assuming rows ctx) more e)

pub followed_grows : (rule : Rule) (ctx more : IndexContext) (types : List Ty) → followed rule ctx ≡ Ok (types, more) → ctx.vars ≤ more.vars
followed_grows rule ctx more types e = (let same = followed_vars rule ctx types more e in omega (arith, same))
