use Rattle.std.proofs.Common.{◌≡◌, ◌∙◌, ap, subst, sym, arith}
use Rattle.std.proofs.lemmas.Grind.{common_steps}
use Rattle.xanadu_lexer.specs.Lexing.{lexed}
use Rattle.xanadu_tree.specs.PlainTreeOf.{plain_tree}
use Rattle.xanadu_tree.specs.Printing.{printed}
use Rattle.xanadu_tree.specs.Unplaced.{ReadsAlike}
use Rattle.xanadu_tree.proofs.LaidTrees.{printed-reads_alike}
use Rattle.xanadu_tree.proofs.ReadBack.{printed-read_back}
use Rattle.xanadu_tree.proofs.StatementTexts.{statement_texts}
use Rattle.xanadu_tree.proofs.print.print_tree.Goals as goal

pub returns-clause-read_back : goal.returns-clause-read_back
returns-clause-read_back c =
    let is : c.push.new.self.items ≡ printed (plain_tree c.args.tree.now) = grind (arith, common_steps, statement_texts) in
    λ written. ap lexed is ∙ printed-read_back _ written

pub returns-clause-read_again : goal.returns-clause-read_again
returns-clause-read_again c =
    let is : c.push.new.self.items ≡ printed (plain_tree c.args.tree.now) = grind (arith, common_steps, statement_texts) in
    λ written. subst (λ bytes. ReadsAlike bytes (plain_tree c.args.tree.now)) (sym is) (printed-reads_alike _ written)
