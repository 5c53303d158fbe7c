-- The blocks that lines make, one line after the other.
use Rattle.std.proofs.Common.{◌≡◌, ℕ, suc, ◌≤◌, List, length, [], ◌∷◌, Ok, Err, refl, ap, subst}
use Rattle.xan_read.specs.Code.{Fails}
use Rattle.xan_read.specs.Reader.{Read}
use Rattle.xan_read.specs.declared.fault.ReadError.{ReadError}
use Rattle.dtal_code.specs.declared.program.Block.{Block}
use Rattle.dtal_text.specs.declared.building.Building.{Building}
use Rattle.dtal_text.specs.declared.line.BodyLine.{BodyLine}
use Rattle.dtal_text.specs.declared.line.Lines.{Lines}
use Rattle.dtal_text.specs.Building.{joined, nothing, built, IsNew}
use Rattle.dtal_text.specs.Chains.{into, chain_from}
use Rattle.dtal_text.specs.LineReading.{line, behind_line, at_first, lines}
use Rattle.dtal_text.specs.ProgramReading.{Gathered, gathered, with_line, blocks_of, blocks}

-- ---- whole functions

-- what stands in the loop over the lines: no more labels and instructions came than lines
pub record SoFar (rest whole : Read (List Block)) (state : Lines) (turns : ℕ) : Type 0 where
  pub is : rest ≡ whole
  pub labels : state.labels ≤ turns
  pub instrs : state.instrs ≤ turns

pub lines_begin : (bytes : List ℕ) (room : ℕ) → room ≡ suc (length bytes) → lines bytes ≡ chain_from line behind_line room at_first bytes
unfolding lines
lines_begin bytes room e = rw e refl

pub gathered_none : gathered [] ≡ nothing
unfolding gathered
gathered_none = refl

pub gathered_more : (l : BodyLine) (ls : List BodyLine) → gathered (l ∷ ls) ≡ with_line l (gathered ls)
unfolding gathered
gathered_more l ls = refl

-- nothing stands before the first line
pub new_built : (b : Building) (bytes : List ℕ) → IsNew b → built b (lines bytes) ≡ blocks bytes
unfolding blocks
new_built b bytes is = go (lines bytes)
  where
    same : (g : Gathered) → joined b g ≡ blocks_of g
    same g = rw (is.blocks, is.state, is.code, is.last) refl

    go : (read : Read (List BodyLine)) → built b read ≡ into (λ ls. blocks_of (gathered ls)) read
    go (Ok x) = ap (λ (bs : List Block). Ok (bs, x.1)) (same (gathered x.0))
    go (Err n) = refl

pub blocks_fail : (b : Building) (bytes : List ℕ) (e : ReadError) → IsNew b → Fails e (built b (lines bytes)) → Fails e (blocks bytes)
blocks_fail b bytes e is f = subst (λ (read : Read (List Block)). Fails e read) (new_built b bytes is) f
