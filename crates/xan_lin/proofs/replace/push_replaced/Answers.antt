use Rattle.std.proofs.Common.{◌++◌, length, sym, ◌∙◌, ap, arith}
use Rattle.std.proofs.lemmas.List.{append-nil}
use Rattle.xan_lin.specs.Products.{product_terms}
use Rattle.xan_lin.specs.Subst.{multiples}
use Rattle.xan_lin.proofs.ReplacedTerms.{replacement-listed, replacement-kept, replacement-zero}
use Rattle.xan_lin.proofs.replace.push_replaced.Goals as goal

pub returns-in-Some-clause-terms : goal.returns-in-Some-clause-terms
returns-in-Some-clause-terms g c =
    let is = replacement-listed c.args.values.now c.args.below c.args.term.now.var c.in-Some.form.now (c.in-Some.ensures {u = tt}) in
    c.push_products.ensures.terms
    ∙ ap (λ ts. product_terms c.args.made.now.items ++ multiples c.args.term.now.coef ts) (c.terms.ensures.terms ∙ ap (λ form. form.terms) is)

pub returns-then-term-below-clause-terms : goal.returns-then-term-below-clause-terms
returns-then-term-below-clause-terms g c =
    let is = replacement-kept c.args.values.now c.args.below c.args.term.now.var (c.in_default.ensures {u = tt}) c.if-term-below.true in
    c.push_products-then-term-below.ensures.terms ∙ ap (λ form. product_terms c.args.made.now.items ++ multiples c.args.term.now.coef form.terms) is

pub returns-else-term-below-clause-terms : goal.returns-else-term-below-clause-terms
returns-else-term-below-clause-terms g c =
    let is = replacement-zero c.args.values.now c.args.below c.args.term.now.var (c.in_default.ensures {u = tt}) c.if-term-below.false in
    sym (append-nil (product_terms c.args.made.now.items)) ∙ ap (λ form. product_terms c.args.made.now.items ++ multiples c.args.term.now.coef form.terms) is

pub push_products-requires : goal.push_products-requires
push_products-requires g c =
    let is = replacement-listed c.args.values.now c.args.below c.args.term.now.var c.in-Some.form.now (c.in-Some.ensures {u = tt}) in
    omega (arith, c.requires.room, ap length (c.terms.ensures.terms ∙ ap (λ form. form.terms) is))

pub push_products-requires-then-term-below : goal.push_products-requires-then-term-below
push_products-requires-then-term-below g c =
    let is = replacement-kept c.args.values.now c.args.below c.args.term.now.var (c.in_default.ensures {u = tt}) c.if-term-below.true in
    omega (arith, c.requires.room, ap (λ form. length form.terms) is)

pub returns-in-Some-clause-len : goal.returns-in-Some-clause-len
returns-in-Some-clause-len g c =
    let is = replacement-listed c.args.values.now c.args.below c.args.term.now.var c.in-Some.form.now (c.in-Some.ensures {u = tt}) in
    omega (arith, c.push_products.ensures.len, ap length (c.terms.ensures.terms ∙ ap (λ form. form.terms) is))

pub returns-then-term-below-clause-len : goal.returns-then-term-below-clause-len
returns-then-term-below-clause-len g c =
    let is = replacement-kept c.args.values.now c.args.below c.args.term.now.var (c.in_default.ensures {u = tt}) c.if-term-below.true in
    omega (arith, c.push_products-then-term-below.ensures.len, ap (λ form. length form.terms) is)

pub returns-else-term-below-clause-len : goal.returns-else-term-below-clause-len
returns-else-term-below-clause-len g c =
    let is = replacement-zero c.args.values.now c.args.below c.args.term.now.var (c.in_default.ensures {u = tt}) c.if-term-below.false in
    omega (arith, ap (λ form. length form.terms) is)
