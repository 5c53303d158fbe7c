-- How a form under way is seen.
use Rattle.type_shapes.specs.declared.form.Form as code
use Rattle.type_shapes.specs.Linears.{Form}

abbrev pub form_of : code.Form → Form
form_of form = record { coefficients = form.coefficients.entries; constant = form.constant }
