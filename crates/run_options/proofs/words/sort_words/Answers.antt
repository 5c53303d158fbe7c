use Rattle.std.proofs.Common.{◌≡◌, ◌∙◌, Some, sym, subst}
use Rattle.xan_io.specs.Words.{texts}
use Rattle.run_options.specs.Options.{finished, IsAllowedBehind}
use Rattle.run_options.specs.Requests.{sorted_view}
use Rattle.run_options.proofs.SortedWords.{if_ok-from, still-value, still-part, still-none, still-ends}
use Rattle.run_options.proofs.words.sort_words.Goals as goal

pub words-preserved-in_ok-push-in-Some-Value : goal.words-preserved-in_ok-push-in-Some-Value
words-preserved-in_ok-push-in-Some-Value c =
    rw c.in_ok-push-in-Some-Value.ensures.items
    (still-value _ _ _ _ _ c.words.invariant _ c.in-len1-up.len_at_least _ c.in-Some-Value.ensures.met c.in-Some-Value.field-0-is)

pub words-preserved : goal.words-preserved
words-preserved c =
    still-part _ _ _ _ _ c.words.invariant _ c.in-len1-up.len_at_least _ _ c.in-Some-Part.ensures.met c.in-Some-Part.field-0-is
    (subst (IsAllowedBehind c.args.options.now.most) c.in-Some-Part.field-0-is c.in-Some-Part.ensures.allowed)

pub returns-in-None-clause-none : goal.returns-in-None-clause-none
returns-in-None-clause-none c = λ is. still-none _ _ _ _ _ c.words.invariant _ c.in-len1-up.len_at_least c.in-None.ensures.met

pub finish-requires : goal.finish-requires
finish-requires c = c.words.invariant.allowed

pub returns-clause-none : goal.returns-clause-none
returns-clause-none c = λ is. sym (still-ends _ _ _ _ _ c.words.invariant c.in_default.len_below) ∙ c.finish.ensures.none is

pub returns-clause-sorted : goal.returns-clause-sorted
returns-clause-sorted c =
    if_ok-from (λ made. finished c.words.reading.next (texts c.words.values.items) c.words.reading.given ≡ Some (sorted_view made)) _
    (λ made e. sym (still-ends _ _ _ _ _ c.words.invariant c.in_default.len_below) ∙ e) c.finish.result c.finish.ensures.sorted
