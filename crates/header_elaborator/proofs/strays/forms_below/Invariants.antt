use Rattle.std.proofs.Common.{◌≡◌, length}
use Rattle.std.specs.List.{list_all}
use Rattle.typed_core.specs.Strays as spec
use Rattle.header_elaborator.proofs.strays.forms_below.Given as goal

abbrev pub invariant-loop-forms : goal.invariant-loop-forms
invariant-loop-forms l = list_all (spec.form_below l.vars) l.forms ≡ list_all (spec.form_below l.vars) l.fn.forms

abbrev pub decreases-loop-forms : goal.decreases-loop-forms
decreases-loop-forms l = length l.forms
