use Rattle.std.proofs.Common.{◌≡◌, drop, max}
use Rattle.typed_core.specs.Places.{statements_named}
use Rattle.xanadu_tree.specs.PlainOf.{plain_block}
use Rattle.header_elaborator.proofs.places.+statements.Given as goal

abbrev pub invariant-statements_named-loop-statement : goal.invariant-statements_named-loop-statement
invariant-statements_named-loop-statement l = max l.named (statements_named (plain_block (drop l.statement-index l.block))) ≡ statements_named (plain_block l.block)
