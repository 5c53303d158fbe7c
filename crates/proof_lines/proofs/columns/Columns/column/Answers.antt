use Rattle.std.proofs.Common.{refl, sym, ◌∙◌}
use Rattle.proof_lines.proofs.Different.{with_variable-where}
use Rattle.proof_lines.proofs.columns.Columns.column.Goals as goal

pub returns-then-is_at-clause-variables : goal.returns-then-is_at-clause-variables
returns-then-is_at-clause-variables c =
    sym (with_variable-where c.as_slice.result.now c.args.self.now c.args.var _ (c.as_slice.ensures.value ∙ c.self.view_is) ((c.if-is_at.ensures {u = tt}).0 refl))

pub invariant_of-self : goal.invariant_of-self
invariant_of-self c = c.found_or_added.ensures.different c.self.invariant

pub invariant_of-self-2 : goal.invariant_of-self-2
invariant_of-self-2 c = c.found_or_added.ensures.different c.self.invariant
