use Rattle.std.proofs.Common.{ap, Err}
use Rattle.run_options.proofs.ArgumentWords.{behind-none, args-more, args-none, args-end}
use Rattle.run_options.proofs.request.read_args.Goals as goal

pub loop-word-init : goal.loop-word-init
loop-word-init c = rw c.new-args.ensures.items (behind-none _)

pub loop-word-preserved : goal.loop-word-preserved
loop-word-preserved c =
    rw c.in_ok-push-in-Ok.ensures.items
    (args-more c.args.words.now c.loop-word.word-index _ c.loop-word.args.items c.in-Ok.arg _ c.loop-word-test.true c.in-Ok.ensures.read c.loop-word.invariant)

pub returns-in-Err-Text-clause-none : goal.returns-in-Err-Text-clause-none
returns-in-Err-Text-clause-none c = λ is.
    args-none c.args.words.now c.loop-word.word-index _ c.loop-word.args.items _ c.loop-word-test.true (c.in-Err-Text.ensures.text (ap Err c.in-Err-Text.field-0-is))
    c.loop-word.invariant

pub returns-clause-read : goal.returns-clause-read
returns-clause-read c = args-end c.args.words.now c.loop-word.word-index c.loop-word.args.items _ c.loop-word-test.false c.loop-word.invariant
