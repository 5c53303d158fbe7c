use Rattle.std.proofs.Common.{◌∙◌}
use Rattle.value_lowering.specs.Frames.{frame_of}
use Rattle.lowering.specs.Lowered.{code_of, labels_of}
use Rattle.lowering.proofs.BranchesCounted.{block_branches, numbered_branches}
use Rattle.lowering.proofs.laws.branches_are_leaves.Goals as goal

pub returns : goal.returns
returns c = λ program f. numbered_branches (labels_of f) (code_of program f) ∙ (block_branches (frame_of program f) f.body 0).is
