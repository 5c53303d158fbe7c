-- How far lines are written behind bytes, which stay in front.
use Rattle.std.proofs.Common.{◌≡◌, ℕ, List, ◌++◌, length, take, drop}
use Rattle.proof_lines.specs.declared.line.Line.{Line}
use Rattle.proof_lines.specs.Spelling.{more_text}

pub record Writing (old made : List ℕ) (lines : List Line) (at : ℕ) : Type 0 where
  pub same : made ++ more_text (drop at lines) ≡ old ++ more_text lines
  pub front : take (length old) made ≡ old
