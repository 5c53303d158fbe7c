use Rattle.std.proofs.Common.{◌≡◌, length, Err, sym, subst}
use Rattle.xan_read.specs.Words.{word}
use Rattle.dtal_text.specs.LineReading.{instr_words}
use Rattle.dtal_text.specs.declared.line.Which.{Which}
use Rattle.dtal_text.proofs.MoreWords.{none_come}
use Rattle.dtal_text.proofs.words.read_instr_word.Goals as goal

pub returns-in-Nothing : goal.returns-in-Nothing
returns-in-Nothing c =
    subst (λ (instrs : Which). word (instr_words instrs) c.args.bytes.now ≡ Err (length c.args.bytes.now)) (sym c.in-Nothing.is) (none_come (length c.args.bytes.now) c.args.bytes.now)
