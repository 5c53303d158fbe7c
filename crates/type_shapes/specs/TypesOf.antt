-- How the names of types are seen.
use Rattle.type_shapes.specs.declared.types.Types as code
use Rattle.type_shapes.specs.Names.{Types}

abbrev pub types_of : code.Types → Types
types_of types = record { names = types.names; tuples = types.tuples.items }
