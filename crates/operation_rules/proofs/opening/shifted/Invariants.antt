use Rattle.std.proofs.Common.{◌≡◌, take, map}
use Rattle.arrayvec.specs.ArrayVec.{array_vec_len}
use Rattle.state_types.specs.Unpacking.{shifted_term}
use Rattle.operation_rules.proofs.opening.shifted.Given as goal

abbrev pub invariant-loop-term : goal.invariant-loop-term
invariant-loop-term l = (l.terms.items ≡ map (shifted_term l.first) (take l.term-index l.form.terms)) × (array_vec_len l.terms ≡ l.term-index)
