use Rattle.std.proofs.Common.{sym, subst, codes}
use Rattle.xan_read.specs.Reader.{Read}
use Rattle.xan_read.specs.Code.{Gives}
use Rattle.dtal_text.specs.LineReading.{where_it_may}
use Rattle.dtal_text.specs.declared.word.LineWord.{LineWord}
use Rattle.dtal_text.specs.declared.word.LineWord.TheVariants as line_word
use Rattle.dtal_text.proofs.MoreWords.{word_found, word_goes_on}
use Rattle.dtal_text.proofs.words.read_label_or_end.Goals as goal

pub returns-in-Ok : goal.returns-in-Ok
returns-in-Ok c =
    word_found (where_it_may c.args.end (codes "end\n", line_word.End)) c.args.bytes.now c.args.before.left (where_it_may c.args.label (codes "label ", line_word.Label)) _ c.in-Ok.ensures

pub returns-in-Err : goal.returns-in-Err
returns-in-Err c =
    subst (λ (read : Read LineWord). Gives (λ x. (x.0, x.1.now)) c.read_where-in-Err.result read)
    (sym (word_goes_on (where_it_may c.args.end (codes "end\n", line_word.End)) c.args.bytes.now c.args.before.left (where_it_may c.args.label (codes "label ", line_word.Label)) _ c.in-Err.ensures))
    c.read_where-in-Err.ensures
