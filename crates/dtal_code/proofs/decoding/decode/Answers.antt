use Rattle.std.proofs.Common.{false, true, ◌≡◌, ◌∙◌, sym, subst, ap}
use Rattle.std.proofs.lemmas.Option.{same_Some}
use Rattle.dtal_code.specs.ObjectWords.{IsRunOp, words_of}
use Rattle.dtal_code.proofs.Codings.{pair_guessed}
use Rattle.dtal_code.proofs.decoding.decode.Goals as goal
use Rattle.dtal_code.proofs.decoding.decode.Goals.{else-one-first-via-then-one-first+else-two-second, else-one-first-via-else-one-first}

pub returns-in_err-op-clause-only : goal.returns-in_err-op-clause-only
returns-in_err-op-clause-only c o pair =
    c.from_residual.ensures ∙ sym (c.in_err-op.was) ∙ c.guess.ensures.read ∙ pair_guessed c.args.first c.args.second o pair

pub returns-then-not-is_in_range-clause-only : goal.returns-then-not-is_in_range-clause-only
returns-then-not-is_in_range-clause-only c o pair =
    let is = same_Some c.in_ok-op.op o (sym (c.in_ok-op.was) ∙ c.guess.ensures.read ∙ pair_guessed c.args.first c.args.second o pair) in
    let clash : false ≡ true = (c.if-not-is_in_range.ensures).1 (subst IsRunOp (sym is) pair.in_range) in cc

pub returns-then-two-second-clause-only : goal.returns-then-two-second-clause-only
returns-then-two-second-clause-only c o pair = sym (c.in_ok-op.was) ∙ c.guess.ensures.read ∙ pair_guessed c.args.first c.args.second o pair

pub returns-else-one-first-clause-only : goal.returns-else-one-first-clause-only
returns-else-one-first-clause-only c o pair =
    let is = same_Some c.in_ok-op.op o (sym (c.in_ok-op.was) ∙ c.guess.ensures.read ∙ pair_guessed c.args.first c.args.second o pair) in
    let words = pair.is ∙ ap words_of (sym is) ∙ sym c.encode-one.ensures in
    elim c.else-one-first.branch [ else-one-first-via-then-one-first+else-two-second w ↦ absurd (w.if-two-second.false (sym (ap (λ x. x.1) words))) | else-one-first-via-else-one-first w ↦ absurd (w.if-one-first.false (sym (ap (λ x. x.0) words))) ]
