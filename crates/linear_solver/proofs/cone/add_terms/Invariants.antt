use Rattle.std.proofs.Common.{◌≡◌, ◌+◌, ◌≤◌, length}
use Rattle.proof_lines.specs.Variables.{with_terms}
use Rattle.linear_solver.proofs.cone.add_terms.Given as goal

abbrev pub invariant-terms : goal.invariant-terms
invariant-terms l = record {
  same : with_terms l.found l.rest ≡ with_terms l.fn.found l.terms;
  few : length l.found + length l.rest ≤ length l.fn.found + length l.terms;
}

abbrev pub decreases-terms : goal.decreases-terms
decreases-terms l = length l.rest
