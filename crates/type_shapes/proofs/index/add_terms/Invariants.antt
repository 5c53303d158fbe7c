use Rattle.std.proofs.Common.{◌≡◌, length}
use Rattle.type_shapes.specs.FormOf.{form_of}
use Rattle.type_shapes.specs.Linears.{terms_in}
use Rattle.type_shapes.proofs.index.add_terms.Given as goal

abbrev pub invariant-loop-terms : goal.invariant-loop-terms
invariant-loop-terms l = terms_in l.scope l.side l.terms (form_of l.form) ≡ terms_in l.scope l.side l.fn.terms (form_of l.fn.form)

abbrev pub decreases-loop-terms : goal.decreases-loop-terms
decreases-loop-terms l = length l.terms
