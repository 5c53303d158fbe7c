use Rattle.std.proofs.Common.{◌≡◌, ◌-◌, ◌++◌}
use Rattle.state_types.specs.Matching.{values_for}
use Rattle.state_types.proofs.values.values_for.Given as goal

-- those made so far, and those from here on, are all
abbrev pub invariant-loop-var : goal.invariant-loop-var
invariant-loop-var l = l.values.items ++ values_for l.var (l.vars - l.var) l.pairs ≡ values_for l.below (l.vars - l.below) l.pairs
