use Rattle.std.proofs.Common.{◌≡◌, take}
use Rattle.state_types.proofs.copying.copied_types.Given as goal

abbrev pub invariant-loop-ty : goal.invariant-loop-ty
invariant-loop-ty l = l.copied.items ≡ take l.ty-index l.types
