use Rattle.std.proofs.Common.{◌≡◌, ◌++◌, map, take}
use Rattle.type_shapes.specs.Kinds.{kind_of}
use Rattle.scope_shapes.proofs.bodies.add_kinds.Given as goal

abbrev pub invariant-loop-ty : goal.invariant-loop-ty
invariant-loop-ty l = l.kinds.items ≡ l.fn.kinds.items ++ map kind_of (take l.ty-index l.types)
