use Rattle.std.proofs.Common.{rules, ◌≡◌, List, ℕ, Result, codes, decimal, ap, sym, subst, ◌∙◌}
use Rattle.std.proofs.lemmas.Result.{err_from_is_err_and}
use Rattle.xan_read.specs.Code.{Gives}
use Rattle.xan_read.specs.Combinators.{literal}
use Rattle.dtal_text.proofs.Readers.{literal_fails, literal_more}
use Rattle.dtal_text.proofs.body.after_number.Goals as goal

pub returns-in_err-rest : goal.returns-in_err-rest
returns-in_err-rest c =
    let same : c.as_bytes.result.now ≡ decimal c.args.number = search rules in
    let p = err_from_is_err_and c.from_residual.result c.from_residual.ensures.1 in
    rw (p.1, p.2) (literal_fails (decimal c.args.number) (codes " ") c.args.bytes.now _ (ap (λ (text : List ℕ). literal text c.args.bytes.now) (sym same) ∙ c.in_err-rest.ensures))

pub returns : goal.returns
returns c =
    let same : c.as_bytes.result.now ≡ decimal c.args.number = search rules in
    subst (λ (read : Result (List ℕ) ℕ). Gives (λ rest. rest.now) c.literal-2.result read)
    (sym (literal_more (decimal c.args.number) (codes " ") c.args.bytes.now _ (ap (λ (text : List ℕ). literal text c.args.bytes.now) (sym same) ∙ c.in_ok-rest.ensures))) c.literal-2.ensures
