use Rattle.std.proofs.Common.{◌≡◌, subst, ◌<◌, ◌≤◌, ◌++◌, ◌∷◌, [], length, slice_get, sym, ap, ◌∙◌, arith}
use Rattle.std.specs.List.{position}
use Rattle.std.specs.Bool.{◌==◌}
use Rattle.std.proofs.lemmas.Option.{slice_get_within}
use Rattle.std.proofs.lemmas.Bool.Decides.{nat_tests}
use Rattle.proof_lines.specs.Cells.{AreDifferent}
use Rattle.proof_lines.proofs.Different.{found_at, found_nowhere, with_variable-at, with_variable-new, get-push, too_many, below_full, different-with}
use Rattle.proof_lines.proofs.columns.found_or_added.Goals as goal

pub returns-in-Some-clause-found : goal.returns-in-Some-clause-found
returns-in-Some-clause-found c =
    let there = found_at c.args.vars.now.items c.args.var c.in-Some.column
    (ap (λ xs. position (λ w. w == c.args.var) xs) (sym c.as_slice.ensures.value) ∙ sym (c.in-Some.ensures {u = tt})) in
    let within = slice_get_within c.args.vars.now.items c.in-Some.column c.args.var there in
    let few : length c.args.vars.now.items ≤ 64 = omega (arith, ap length c.as_slice.ensures.value, c.as_slice.ensures.fits) in
    (there, omega arith)

pub returns-in-Some-clause-variables : goal.returns-in-Some-clause-variables
returns-in-Some-clause-variables c =
    sym (with_variable-at c.args.vars.now.items c.args.var c.in-Some.column (found_at c.args.vars.now.items c.args.var c.in-Some.column
    (ap (λ xs. position (λ w. w == c.args.var) xs) (sym c.as_slice.ensures.value) ∙ sym (c.in-Some.ensures {u = tt}))))

pub returns-then-is_full-clause-found : goal.returns-then-is_full-clause-found
returns-then-is_full-clause-found c =
    let nowhere = found_nowhere c.args.vars.now.items c.args.var (ap (λ xs. position (λ w. w == c.args.var) xs) (sym c.as_slice.ensures.value) ∙ sym (c.in_default.ensures {u = tt})) in
    let full : length c.args.vars.now.items ≡ 64 = grind (arith, nat_tests, c.is_full.ensures.value, c.if-is_full.true) in
    too_many c.args.vars.now.items c.args.var nowhere full

pub returns-clause-found : goal.returns-clause-found
returns-clause-found c =
    let few : length c.args.vars.now.items < 64 = below_full (length c.args.vars.now.items) (sym c.is_full.ensures.value ∙ c.if-is_full.false) c.is_full.ensures.fits in (
      ap (λ xs. slice_get xs c.len-column.result) c.push.ensures.items ∙ ap (λ k. slice_get (c.args.vars.now.items ++ c.args.var ∷ []) k) c.len-column.ensures.value ∙ get-push c.args.vars.now.items c.args.var,
      omega (arith, c.len-column.ensures.value),
    )

pub returns-clause-variables : goal.returns-clause-variables
returns-clause-variables c =
    let nowhere = found_nowhere c.args.vars.now.items c.args.var (ap (λ xs. position (λ w. w == c.args.var) xs) (sym c.as_slice.ensures.value) ∙ sym (c.in_default.ensures {u = tt})) in
    c.push.ensures.items ∙ sym (with_variable-new c.args.vars.now.items c.args.var nowhere)

pub returns-clause-different : goal.returns-clause-different
returns-clause-different c d =
    let nowhere = found_nowhere c.args.vars.now.items c.args.var (ap (λ xs. position (λ w. w == c.args.var) xs) (sym c.as_slice.ensures.value) ∙ sym (c.in_default.ensures {u = tt})) in
    subst AreDifferent (sym (c.push.ensures.items ∙ sym (with_variable-new c.args.vars.now.items c.args.var nowhere))) (different-with c.args.vars.now.items c.args.var d)
