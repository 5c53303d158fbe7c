-- What is left of a block goes on as all of it does; and a statement is deeper than its blocks.
use Rattle.std.proofs.Common.{◌≡◌, ◌≤◌, ◌+◌, ◌*◌, drop}
use Rattle.expression_elaborator.specs.Views.{site_of, state_of}
use Rattle.typed_core.specs.Statements.{block}
use Rattle.xanadu_tree.specs.PlainOf.{plain_block, plain_stmt}
use Rattle.constraint_elaborator.proofs.BlockSizes.{block_depth, depth_of}
use Rattle.constraint_elaborator.proofs.blocks.+block.Given as goal

abbrev pub decreases-statement : goal.decreases-statement
decreases-statement l = 5 * depth_of (plain_stmt l.statement.now)

abbrev pub decreases-repeat : goal.decreases-repeat
decreases-repeat l = 5 * block_depth (plain_block l.body.now) + 4

abbrev pub decreases-turn : goal.decreases-turn
decreases-turn l = 5 * block_depth (plain_block l.body.now) + 3

abbrev pub decreases-turn_body : goal.decreases-turn_body
decreases-turn_body l = 5 * block_depth (plain_block l.body.now) + 2

abbrev pub decreases-first_branch : goal.decreases-first_branch
decreases-first_branch l = 5 * block_depth (plain_block l.on_true.now) + 2

abbrev pub decreases-second_branch : goal.decreases-second_branch
decreases-second_branch l = 5 * block_depth (plain_block l.on_false.now) + 2

abbrev pub decreases-block : goal.decreases-block
decreases-block l = 5 * block_depth (plain_block l.statements.now) + 1

abbrev pub invariant-block-loop-one : goal.invariant-block-loop-one
invariant-block-loop-one l = (block (site_of l.site) (plain_block (drop l.one-index l.statements)) (state_of l.st) ≡ block (site_of l.site) (plain_block l.statements) (state_of l.fn.st))
    × (l.fn.st.ctx.vars ≤ l.st.ctx.vars)
