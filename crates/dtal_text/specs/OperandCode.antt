-- The reading of operands, cut as the code is cut.
use Rattle.std.specs.Prelude.{ℕ, List}
use Rattle.xan_read.specs.Reader.{Reader}
use Rattle.dtal_code.specs.declared.instruction.Op.{Op}
use Rattle.dtal_code.specs.declared.instruction.Op.TheVariants as op
use Rattle.dtal_code.specs.declared.limits.TheConstants.{MOST_LISTED}
use Rattle.dtal_text.specs.declared.word.OpWord.{OpWord}
use Rattle.dtal_text.specs.declared.word.OpWord.TheVariants as word_of
use Rattle.dtal_text.specs.Places.{place}
use Rattle.dtal_text.specs.Listings.{bounded}

-- the instruction of a word over three registers
abbrev pub three_op : OpWord → ℕ → ℕ → ℕ → Op
three_op word_of.Add ra rb rc = op.Add ra rb rc
three_op word_of.Sub ra rb rc = op.Sub ra rb rc
three_op word_of.Mul ra rb rc = op.Mul ra rb rc
three_op word_of.Div ra rb rc = op.Div ra rb rc
three_op word_of.Mod ra rb rc = op.Mod ra rb rc
three_op word_of.Ld ra rb rc = op.Ld ra rb rc
three_op _ ra rb rc = op.St ra rb rc

-- places up to a bracket
abbrev pub listed_places : Reader (List ℕ)
listed_places = bounded 32 41 MOST_LISTED place
