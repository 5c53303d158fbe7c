use Rattle.std.proofs.Common.{◌≡◌, length}
use Rattle.typed_core.specs.Headers.{few_parts}
use Rattle.header_elaborator.proofs.headers.few_parts.Given as goal

abbrev pub invariant-loop-packings : goal.invariant-loop-packings
invariant-loop-packings l = few_parts l.packings ≡ few_parts l.fn.packings

abbrev pub decreases-loop-packings : goal.decreases-loop-packings
decreases-loop-packings l = length l.packings
