use Rattle.std.proofs.Common.{◌≡◌, length, []}
use Rattle.expression_elaborator.specs.Views.{site_of}
use Rattle.typed_core.specs.States.{all_asked}
use Rattle.expression_elaborator.proofs.demands.ask_all.Given as goal

abbrev pub invariant-loop-rows : goal.invariant-loop-rows
invariant-loop-rows l = all_asked (site_of l.site) l.at l.ctx l.rows (record { goals = l.goals.items; numbers = l.numbers.items })
    ≡ all_asked (site_of l.site) l.at l.ctx l.fn.rows (record { goals = l.fn.goals.items; numbers = [] })

abbrev pub decreases-loop-rows : goal.decreases-loop-rows
decreases-loop-rows l = length l.rows
