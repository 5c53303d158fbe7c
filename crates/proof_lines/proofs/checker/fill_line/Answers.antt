use Rattle.proof_lines.proofs.CellSteps.{as_hypothesis, as_goal, as_combination, as_cut}
use Rattle.proof_lines.proofs.checker.fill_line.Goals as goal

pub returns-in-Hyp : goal.returns-in-Hyp
returns-in-Hyp c = λ rows s. as_hypothesis _ _ _ _ _ rows _ _ c.in-Hyp.is c.fill_hypothesis.ensures

pub returns-in-Goal : goal.returns-in-Goal
returns-in-Goal c = λ rows s. as_goal _ _ _ _ _ rows _ c.in-Goal.is c.fill_opposite.ensures

pub returns-in-Comb : goal.returns-in-Comb
returns-in-Comb c = λ rows s. as_combination _ _ _ _ _ rows _ _ _ _ _ c.in-Comb.is c.fill_combination.ensures s c.requires.few c.requires.different

pub returns-in-Cut : goal.returns-in-Cut
returns-in-Cut c = λ rows s. as_cut _ _ _ _ _ rows _ _ _ c.in-Cut.is c.fill_cut.ensures s c.requires.few c.requires.different
