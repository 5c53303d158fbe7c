use Rattle.std.proofs.Common.{◌≡◌, ◌∙◌, ◌++◌, ℕ, List, [], ap, subst, arith}
use Rattle.xan_lin.specs.Linear.{Linear}
use Rattle.operation_rules.specs.Forms.{variables_from}
use Rattle.xanadu_tree.specs.declared.types.CoreTy.{CoreTy}
use Rattle.header_elaborator.specs.Code.{Fails}
use Rattle.std.proofs.lemmas.Result.{err_from_is_err_and}
use Rattle.join_elaborator.specs.Changed.{changed_by}
use Rattle.join_elaborator.specs.JoinViews.{renewed_of}
use Rattle.expression_elaborator.specs.Views.{site_of, state_of}
use Rattle.typed_core.specs.Joins.{stated, stated_types}
use Rattle.join_elaborator.proofs.JoinFailures.{joined_rows_fail, joined_types_fail}
use Rattle.join_elaborator.proofs.joint.joined.Goals as goal

pub push_variables-requires-clause-count : goal.push_variables-requires-clause-count
push_variables-requires-clause-count c = omega (arith, c.count_of.ensures, c.in_ok-kept.ensures.more, c.in_ok-kept.ensures.few)

-- the naming of the state with the clause's variables
clause_named : {L : Type 0} (old new : List (ℕ × L)) (f : ℕ → ℕ → ℕ → List (ℕ × L)) (a b c x y z : ℕ) → new ≡ old ++ f a b c → a ≡ x → b ≡ y → c ≡ z → new ≡ old ++ f x y z
clause_named old new f a b c x y z e p q r =
    e ∙ ap (λ (n : ℕ). old ++ f n b c) p ∙ ap (λ (n : ℕ). old ++ f x n c) q ∙ ap (λ (n : ℕ). old ++ f x y n) r

pub returns-in_err-rows-clause-joined : goal.returns-in_err-rows-clause-joined
returns-in_err-rows-clause-joined c =
    let p = err_from_is_err_and c.from_residual-in_err-rows.result c.from_residual-in_err-rows.ensures.1 in
    let names = clause_named c.renew.new.st.naming.items c.push_variables.new.values.items variables_from _ _ _ _ _ _ c.in_ok-push_variables.ensures c.first_of.ensures c.vars-first.ensures.vars c.count_of.ensures in
    rw (p.1, p.2) (joined_rows_fail (site_of c.args.site.now) (stated c.args.clause.now) (changed_by c.args.blocks.now) c.args.before.now (state_of c.args.st.now)
    (renewed_of c.in_ok-kept.kept) (state_of c.renew.new.st) c.push_variables.new.values.items c.in_err-rows.field-0.0 c.in_ok-kept.ensures.renewed names c.in_err-rows.ensures.stated)

pub returns-in_err-wanted-clause-joined : goal.returns-in_err-wanted-clause-joined
returns-in_err-wanted-clause-joined c =
    let p = err_from_is_err_and c.from_residual-in_err-wanted.result c.from_residual-in_err-wanted.ensures.1 in
    let names = clause_named c.renew.new.st.naming.items c.push_variables.new.values.items variables_from _ _ _ _ _ _ c.in_ok-push_variables.ensures c.first_of.ensures c.vars-first.ensures.vars c.count_of.ensures in
    let own = c.args.site.now.setting.own.now.vars in
    let why = c.in_err-wanted.field-0.0 in
    let fails = subst (λ (ns : List (ℕ × Linear)). Fails why (stated_types ns own c.stated_of.result.now [])) c.as_slice.ensures.value c.in_err-wanted.ensures in
    let fails_there = subst (λ (vs : List (ℕ × CoreTy)). Fails why (stated_types c.state_rows.new.st.naming.items own vs [])) c.stated_of.ensures fails in
    rw (p.1, p.2) (joined_types_fail (site_of c.args.site.now) (stated c.args.clause.now) (changed_by c.args.blocks.now) c.args.before.now (state_of c.args.st.now)
    (renewed_of c.in_ok-kept.kept) (state_of c.renew.new.st) (state_of c.state_rows.new.st) c.in_ok-rows.rows.items c.push_variables.new.values.items why
    c.in_ok-kept.ensures.renewed names c.in_ok-rows.ensures.stated fails_there)

pub returns-clause-few : goal.returns-clause-few
returns-clause-few c = omega (arith, c.vars-first.ensures.vars, c.count_of-2.ensures, c.in_ok-kept.ensures.more, c.in_ok-kept.ensures.few)
