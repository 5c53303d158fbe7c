use Rattle.std.proofs.Common.{sym, subst, length, codes}
use Rattle.xan_read.specs.Reader.{Read}
use Rattle.xan_read.specs.Code.{Gives}
use Rattle.dtal_text.specs.LineReading.{instr_words, where_it_may}
use Rattle.dtal_text.specs.declared.word.LineWord.{LineWord}
use Rattle.dtal_text.specs.declared.word.LineWord.TheVariants as line_word
use Rattle.dtal_text.proofs.MoreWords.{word_found, word_goes_on}
use Rattle.dtal_text.proofs.words.read_instr_or_by.Goals as goal

pub returns-in-Ok : goal.returns-in-Ok
returns-in-Ok c = word_found (where_it_may c.args.by (codes "by ", line_word.By)) c.args.bytes.now (length c.args.bytes.now) (instr_words c.args.instrs) _ c.in-Ok.ensures

pub returns-in-Err : goal.returns-in-Err
returns-in-Err c =
    subst (λ (read : Read LineWord). Gives (λ x. (x.0, x.1.now)) c.read_where.result read)
    (sym (word_goes_on (where_it_may c.args.by (codes "by ", line_word.By)) c.args.bytes.now (length c.args.bytes.now) (instr_words c.args.instrs) _ c.in-Err.ensures)) c.read_where.ensures
