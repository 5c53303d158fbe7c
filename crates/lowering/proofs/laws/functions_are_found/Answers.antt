use Rattle.xanadu_tree.specs.PlainOf.{plain_core}
use Rattle.lowering.proofs.LoweredFunctions.{function_found}
use Rattle.lowering.proofs.laws.functions_are_found.Goals as goal

pub returns : goal.returns
returns c = λ base number f sig e k. function_found (plain_core base.core) (plain_core base.core).funs base.made.sigs number f sig e k
