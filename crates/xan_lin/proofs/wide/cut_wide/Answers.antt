use Rattle.std.proofs.Common.{◌∙◌, ap, rules, w64, FitsSigned}
use Rattle.std.specs.Int.{w128}
use Rattle.std.proofs.lemmas.Int.{to_z-of_z}
use Rattle.xan_lin.specs.Linear.{cut_number}
use Rattle.xan_lin.proofs.wide.cut_wide.Goals as goal

pub returns-then-unsigned_abs-lt2 : goal.returns-then-unsigned_abs-lt2
returns-then-unsigned_abs-lt2 c =
    let cut_fits : FitsSigned w64 c.cut.result = search rules in
    let fits : FitsSigned w128 c.joined.result = search rules in
    to_z-of_z w64 c.cut.result cut_fits ∙ c.cut.ensures ∙ ap cut_number (to_z-of_z w128 c.joined.result fits ∙ c.joined.ensures ∙ c.settled-number.ensures.exact)
