use Rattle.std.proofs.Common.{◌≡◌, ◌+◌, ◌++◌, ◌∷◌, [], refl, rules, arith}
use Rattle.xan_lin.specs.Linear.{variable_form}
use Rattle.operation_rules.proofs.CallsMade.{variables-turn, variables-end}
use Rattle.header_elaborator.proofs.forms.push_variables.Goals as goal

pub loop-turn-preserved : goal.loop-turn-preserved
loop-turn-preserved c =
    let form = variable_form (c.args.first + c.loop-turn.turn) in
    let p : c.push.new.self.items ≡ c.loop-turn.values.items ++ (c.args.number + c.loop-turn.turn, form) ∷ [] = search rules in
    variables-turn c.push.new.self.items c.loop-turn.values.items _ c.args.number c.args.first c.loop-turn.turn c.args.count form (omega arith) refl p c.loop-turn.invariant

pub returns : goal.returns
returns c = variables-end c.loop-turn.values.items _ _ _ c.loop-turn.turn c.args.count (omega arith) c.loop-turn.invariant
