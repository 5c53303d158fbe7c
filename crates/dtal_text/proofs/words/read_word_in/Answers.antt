use Rattle.std.proofs.Common.{◌++◌, ◌∙◌, sym, ap, subst, length, codes}
use Rattle.xan_read.specs.Reader.{Read}
use Rattle.xan_read.specs.Code.{Gives}
use Rattle.xan_read.specs.Words.{Table, word_from}
use Rattle.dtal_text.specs.LineReading.{instr_words, where_it_may}
use Rattle.dtal_text.specs.declared.word.LineWord.{LineWord}
use Rattle.dtal_text.specs.declared.word.LineWord.TheVariants as line_word
use Rattle.dtal_text.proofs.MoreWords.{word_found, word_goes_on, words_grouped}
use Rattle.dtal_text.proofs.words.read_word_in.Goals as goal

pub returns-in-Ok : goal.returns-in-Ok
returns-in-Ok c =
    ap (λ (table : Table LineWord). word_from (length c.args.bytes.now) table c.args.bytes.now) (words_grouped c.args.instrs c.args.by c.args.label c.args.end)
    ∙ word_found (where_it_may c.args.label (codes "label ", line_word.Label) ++ where_it_may c.args.end (codes "end\n", line_word.End)) c.args.bytes.now (length c.args.bytes.now)
    (instr_words c.args.instrs ++ where_it_may c.args.by (codes "by ", line_word.By)) _ c.in-Ok.ensures

pub returns-in-Err : goal.returns-in-Err
returns-in-Err c =
    subst (λ (read : Read LineWord). Gives (λ x. (x.0, x.1.now)) c.read_label_or_end.result read)
    (sym
    (ap (λ (table : Table LineWord). word_from (length c.args.bytes.now) table c.args.bytes.now) (words_grouped c.args.instrs c.args.by c.args.label c.args.end)
    ∙ word_goes_on (where_it_may c.args.label (codes "label ", line_word.Label) ++ where_it_may c.args.end (codes "end\n", line_word.End)) c.args.bytes.now (length c.args.bytes.now)
    (instr_words c.args.instrs ++ where_it_may c.args.by (codes "by ", line_word.By)) _ c.in-Err.ensures))
    c.read_label_or_end.ensures
