use Rattle.std.proofs.Common.{◌≡◌, length, refl, arith, rules}
use Rattle.linear_solver.proofs.MappedVariables.{marks_one, marks_none}
use Rattle.linear_solver.proofs.found.mark.Goals as goal

pub returns-then-place-lt-MAPPED : goal.returns-then-place-lt-MAPPED
returns-then-place-lt-MAPPED c other h =
    let count : length c.args.map.now ≡ 1024 = search rules in
    marks_one c.args.map.now _ c.args.var count (omega (arith, c.if-place-lt-MAPPED.true)) refl other h

pub returns-else-place-lt-MAPPED : goal.returns-else-place-lt-MAPPED
returns-else-place-lt-MAPPED c other h = marks_none _ _ (omega (arith, c.if-place-lt-MAPPED.false)) other h
