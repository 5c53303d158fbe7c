use Rattle.std.proofs.Common.{◌∙◌, sym, refl, arith}
use Rattle.std.proofs.lemmas.Grind.{common_steps}
use Rattle.xanadu_lexer.specs.Lexing.{lexed}
use Rattle.xanadu_lexer.proofs.PieceSteps.{at_gap, at_token, at_fault, at_end, moves_over}
use Rattle.xanadu_lexer.proofs.lexer.lex.Goals as goal
use Rattle.xanadu_lexer.proofs.lexer.lex.Goals.{in-Gap, in-Whole+in_ok-add-in-Whole}

pub returns-in-Bad : goal.returns-in-Bad
unfolding lexed
returns-in-Bad c =
    sym c.loop-text.invariant.same
    ∙ rw (at_fault c.loop-text.at c.loop-text.text.now c.in-Bad.kind c.in-len1-up.len_at_least (sym c.in-Bad.is ∙ c.in_ok-more.ensures.value)) refl

pub returns : goal.returns
unfolding lexed
returns c = sym c.loop-text.invariant.same ∙ at_end _ c.loop-text.at c.loop-text.text.now c.in_default.len_below ∙ rw c.from_vec.ensures refl

pub loop-text-preserved : goal.loop-text-preserved
loop-text-preserved c =
    elim c.match-branch-2.branch [
      | in-Gap w ↦ record {
        same =
            let passed = at_gap c.loop-text.at c.loop-text.text.now w.in-Gap.more c.in-len1-up.len_at_least (sym w.in-Gap.is ∙ c.in_ok-more.ensures.value) (grind arith) in
            rw (c.split_at.ensures.back, w.tokens-is, w.more-is, ← passed) c.loop-text.invariant.same;
        place = grind (arith, common_steps);
      }
      | in-Whole+in_ok-add-in-Whole w ↦ record {
        same =
            let passed = at_token c.loop-text.at c.loop-text.text.now w.in-Whole.kind w.in-Whole.more c.in-len1-up.len_at_least (sym w.in-Whole.is ∙ c.in_ok-more.ensures.value) (grind arith) in
            rw (c.split_at.ensures.back, w.tokens-is, w.more-is, moves_over _ _ _ _ _ passed (w.in_ok-add-in-Whole.ensures.added)) c.loop-text.invariant.same;
        place = grind (arith, common_steps);
      }
    ]
