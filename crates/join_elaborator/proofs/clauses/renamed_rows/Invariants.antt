use Rattle.std.proofs.Common.{◌≡◌, ◌++◌, length, map, true}
use Rattle.std.specs.List.{list_all}
use Rattle.typed_core.specs.Forms.{renamed}
use Rattle.typed_core.specs.Strays.{form_rises}
use Rattle.join_elaborator.proofs.clauses.renamed_rows.Given as goal

abbrev pub invariant-loop-rows : goal.invariant-loop-rows
invariant-loop-rows l = (l.made.items ++ map (renamed l.naming l.own) l.rows ≡ map (renamed l.naming l.own) l.fn.rows) × (list_all form_rises l.rows ≡ true)

abbrev pub decreases-loop-rows : goal.decreases-loop-rows
decreases-loop-rows l = length l.rows
