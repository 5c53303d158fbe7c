use Rattle.std.proofs.Common.{◌∙◌, ap}
use Rattle.typed_core.specs.Strays.{terms_rise}
use Rattle.header_elaborator.proofs.StrayTests.{same_rise}
use Rattle.header_elaborator.proofs.strays.form_rises.Goals as goal

pub returns : goal.returns
returns c = same_rise c.are_rising.result c.as_slice.result.now c.are_rising.ensures ∙ ap (λ ts. terms_rise 0 ts) c.as_slice.ensures
