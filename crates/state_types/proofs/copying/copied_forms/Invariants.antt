use Rattle.std.proofs.Common.{◌≡◌, take}
use Rattle.state_types.proofs.copying.copied_forms.Given as goal

abbrev pub invariant-loop-form : goal.invariant-loop-form
invariant-loop-form l = l.copied.items ≡ take l.form-index l.forms
