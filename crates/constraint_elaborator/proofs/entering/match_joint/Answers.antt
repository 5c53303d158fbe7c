use Rattle.std.proofs.Common.{rules}
use Rattle.std.proofs.lemmas.Result.{err_from_is_err_and}
use Rattle.join_elaborator.specs.JoinViews.{joint_of}
use Rattle.constraint_elaborator.proofs.WaysIn.{met_fails}
use Rattle.constraint_elaborator.proofs.entering.match_joint.Goals as goal

pub returns-in_err-found : goal.returns-in_err-found
returns-in_err-found c =
    let p = err_from_is_err_and c.from_residual-in_err-found.result c.from_residual-in_err-found.ensures.1 in
    rw (p.1, p.2) (met_fails (joint_of c.args.joint.now) c.args.places.now c.in_ok-actual.actual.items c.in_ok-wanted.wanted.items c.in_err-found.field-0.0
    (search (rules, c.in_ok-actual.ensures)) (search (rules, c.in_ok-wanted.ensures)) (search (rules, c.in_err-found.ensures)))
