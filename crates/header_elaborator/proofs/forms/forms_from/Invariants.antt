use Rattle.std.proofs.Common.{◌≡◌, length, []}
use Rattle.typed_core.specs.Forms.{forms_from}
use Rattle.header_elaborator.proofs.forms.forms_from.Given as goal

abbrev pub invariant-loop-forms : goal.invariant-loop-forms
invariant-loop-forms l = forms_from l.forms l.made.items ≡ forms_from l.fn.forms []

abbrev pub decreases-loop-forms : goal.decreases-loop-forms
decreases-loop-forms l = length l.forms
