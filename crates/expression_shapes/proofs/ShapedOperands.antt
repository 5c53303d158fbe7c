-- Each expression that is read has its kind: one case for each production.
use Rattle.std.proofs.Common.{◌≡◌, sym, ap, subst, ℕ, ◌+◌, true, false, List, [], ◌∷◌, ◌++◌, map, Some, Ok, refl, ◌∙◌, append_assoc, append-nil}
use Rattle.std.specs.Option.{option_map}
use Rattle.std.proofs.lemmas.Option.{slice_get-map}
use Rattle.xanadu_tree.specs.declared.types.CoreTy.{CoreTy}
use Rattle.xanadu_tree.specs.declared.types.Kind.{Kind}
use Rattle.xanadu_tree.specs.declared.types.Kind.TheVariants as kind
use Rattle.xanadu_tree.specs.KindRules.{kind_of, HasKind, AreNumbers, HaveKinds}
use Rattle.xanadu_tree.specs.Plain as core
use Rattle.xanadu_tree.specs.PlainOf.{to_exprs, to_links}
use Rattle.xanadu_tree.specs.PlainTree as plain
use Rattle.xanadu_tree.specs.Written.{expression_at, unary_at, product_at, sum_at, postfix_at, IsSome}
use Rattle.type_shapes.specs.Faults.{◌>>=◌}
use Rattle.type_shapes.specs.Kinds.{kind_at, element_kind, parts_of}
use Rattle.type_shapes.specs.Quantifiers.{element_number}
use Rattle.expression_shapes.specs.Sites.{Globals, Locals, Typed, asked, asked_array, called, made}
use Rattle.expression_shapes.specs.Expressions.{has_addend, has_factor, count, without_or, without_and, number, truth, compare, cell, call, tuple, new_array, Link, chain, expression, conjunction, negation, comparison, compared, sum, addends, product, factors, unary, postfix, indexed, primary, arguments}
use Rattle.type_shapes.proofs.ShapedLists.{then_ok, ok_same, all_at}
use Rattle.type_shapes.proofs.ShapedQuantifiers.{element_is}
use Rattle.expression_shapes.proofs.ShapedKinds.{IsKind, asked_is, asked_array_is, element_kind_is, cell_is_kind, tuple_is}
use Rattle.expression_shapes.proofs.ShapedExpressions.{seen_header, Knows, site, Sees, Has, links_with, exprs_with, some_with, kinds_of, kinds_are, called_is, made_is, variable_is, chain_is}

module _ (globals : Globals) (locals : Locals) (kinds : List Kind) (given : Kind) (visible : List ℕ) (knows : Knows globals) (sees : Sees globals.packings locals kinds visible) where
  abbrev HasIt : Typed → Type 0
  HasIt y = Has (site globals kinds given) visible y

  or_is : (rest : plain.Conjunctions) (x y : Typed) → HasIt x → without_or rest x ≡ Ok y → HasIt y
  unfolding without_or
  or_is plain.NoConjunction x y has e = subst (Has (site globals kinds given) visible) (ok_same x y e) has
  or_is (plain.AConjunction c at others) x y has e = absurd (cc)

  and_is : (rest : plain.Negations) (x y : Typed) → HasIt x → without_and rest x ≡ Ok y → HasIt y
  unfolding without_and
  and_is plain.NoNegation x y has e = subst (Has (site globals kinds given) visible) (ok_same x y e) has
  and_is (plain.ANegation n at others) x y has e = absurd (cc)

  mutual
    unfolding expression HasKind

    pub expression_is : (x : plain.Expression) (y : Typed) → expression globals locals x ≡ Ok y → Has (site globals kinds given) visible y
    expression_is (plain.ExpressionOf first rest at) y e =
        let s = then_ok (conjunction globals locals first) (λ t. without_or rest t) y e in
        or_is rest s.value y (conjunction_is first s.value s.first) s.second

    conjunction_is : (x : plain.Conjunction) (y : Typed) → conjunction globals locals x ≡ Ok y → Has (site globals kinds given) visible y
    conjunction_is (plain.ConjunctionOf first rest at) y e =
        let s = then_ok (negation globals locals first) (λ t. without_and rest t) y e in
        and_is rest s.value y (negation_is first s.value s.first) s.second

    negation_is : (x : plain.Negation) (y : Typed) → negation globals locals x ≡ Ok y → Has (site globals kinds given) visible y
    negation_is (plain.NegationOf true operand at) y e = absurd (cc)
    negation_is (plain.NegationOf false operand at) y e = comparison_is operand y e

    pub comparison_is : (x : plain.Comparison) (y : Typed) → comparison globals locals x ≡ Ok y → Has (site globals kinds given) visible y
    comparison_is (plain.ComparisonOf left right at) y e =
        let s = then_ok (sum globals locals left) (λ t. compared globals locals right at t) y e in
        compared_is right at s.value y (sum_is left s.value s.first) s.second

    compared_is : (x : plain.Comparand) (at : ℕ) (left y : Typed) → Has (site globals kinds given) visible left → compared globals locals x at left ≡ Ok y
        → Has (site globals kinds given) visible y
    compared_is plain.NoComparand at left y has e = subst (Has (site globals kinds given) visible) (ok_same left y e) has
    compared_is (plain.AComparand rel right) at left y has e =
        let s = then_ok (asked kind.Int at left)
        (λ a. sum globals locals right >>= (λ r. asked kind.Int (sum_at right) r >>= (λ b. Ok (compare rel a b)))) y e in
        let t = then_ok (sum globals locals right) (λ r. asked kind.Int (sum_at right) r >>= (λ b. Ok (compare rel s.value b))) y s.second in
        let u = then_ok (asked kind.Int (sum_at right) t.value) (λ b. Ok (compare rel s.value b)) y t.second in
        let r = sum_is right t.value t.first in
        subst (Has (site globals kinds given) visible) (ok_same (compare rel s.value u.value) y u.second) (record {
          has = (refl, asked_is _ visible kind.Int at left s.value s.first has.has, asked_is _ visible kind.Int (sum_at right) t.value u.value u.first r.has);
          is = tt;
        })

    pub sum_is : (x : plain.Sum) (y : Typed) → sum globals locals x ≡ Ok y → Has (site globals kinds given) visible y
    sum_is (plain.SumOf first rest at) y e =
        let s = then_ok (product globals locals first) (λ t. chain (has_addend rest) at t (addends globals locals rest [])) y e in
        chain_is (site globals kinds given) visible (has_addend rest) at s.value (addends globals locals rest []) y (product_is first s.value s.first)
        (λ links found some. let a = addends_are rest [] links tt found in (a.0, a.2 some)) s.second

    addends_are : (x : plain.Addends) (links ys : List Link) → AreNumbers (site globals kinds given) visible (to_links links) → addends globals locals x links ≡ Ok ys
        → AreNumbers (site globals kinds given) visible (to_links ys) × (IsSome links → IsSome ys) × (has_addend x ≡ true → IsSome ys)
    addends_are plain.NoAddend links ys are e =
        let same = ok_same links ys e in
        (subst (λ z. AreNumbers (site globals kinds given) visible (to_links z)) same are, λ h. subst IsSome same h, λ h. absurd (cc))
    addends_are (plain.AnAddend op p operator_at others) links ys are e =
        let s = then_ok (product globals locals p)
        (λ t. asked kind.Int (product_at p) t >>= (λ a. addends globals locals others (links ++ ((op, a, operator_at) ∷ [])))) ys e in
        let t = then_ok (asked kind.Int (product_at p) s.value) (λ a. addends globals locals others (links ++ ((op, a, operator_at) ∷ []))) ys s.second in
        let r = product_is p s.value s.first in
        let later = addends_are others (links ++ ((op, t.value, operator_at) ∷ [])) ys
        (links_with _ visible links op t.value operator_at are (asked_is _ visible kind.Int (product_at p) s.value t.value t.first r.has)) t.second in
        (later.0, λ h. later.1 (some_with links (op, t.value, operator_at)), λ h. later.1 (some_with links (op, t.value, operator_at)))

    pub product_is : (x : plain.Product) (y : Typed) → product globals locals x ≡ Ok y → Has (site globals kinds given) visible y
    product_is (plain.ProductOf first rest at) y e =
        let s = then_ok (unary globals locals first) (λ t. chain (has_factor rest) at t (factors globals locals rest [])) y e in
        chain_is (site globals kinds given) visible (has_factor rest) at s.value (factors globals locals rest []) y (unary_is first s.value s.first)
        (λ links found some. let a = factors_are rest [] links tt found in (a.0, a.2 some)) s.second

    factors_are : (x : plain.Factors) (links ys : List Link) → AreNumbers (site globals kinds given) visible (to_links links) → factors globals locals x links ≡ Ok ys
        → AreNumbers (site globals kinds given) visible (to_links ys) × (IsSome links → IsSome ys) × (has_factor x ≡ true → IsSome ys)
    factors_are plain.NoFactor links ys are e =
        let same = ok_same links ys e in
        (subst (λ z. AreNumbers (site globals kinds given) visible (to_links z)) same are, λ h. subst IsSome same h, λ h. absurd (cc))
    factors_are (plain.AFactor op p operator_at others) links ys are e =
        let s = then_ok (unary globals locals p)
        (λ t. asked kind.Int (unary_at p) t >>= (λ a. factors globals locals others (links ++ ((op, a, operator_at) ∷ [])))) ys e in
        let t = then_ok (asked kind.Int (unary_at p) s.value) (λ a. factors globals locals others (links ++ ((op, a, operator_at) ∷ []))) ys s.second in
        let r = unary_is p s.value s.first in
        let later = factors_are others (links ++ ((op, t.value, operator_at) ∷ [])) ys
        (links_with _ visible links op t.value operator_at are (asked_is _ visible kind.Int (unary_at p) s.value t.value t.first r.has)) t.second in
        (later.0, λ h. later.1 (some_with links (op, t.value, operator_at)), λ h. later.1 (some_with links (op, t.value, operator_at)))

    pub unary_is : (x : plain.Unary) (y : Typed) → unary globals locals x ≡ Ok y → Has (site globals kinds given) visible y
    unary_is (plain.UnaryOf false operand at) y e = postfix_is operand y e
    unary_is (plain.UnaryOf true operand at) y e =
        let s = then_ok (postfix globals locals operand) (λ t. asked kind.Int (postfix_at operand) t >>= (λ a. Ok (number (core.Neg a)))) y e in
        let t = then_ok (asked kind.Int (postfix_at operand) s.value) (λ a. Ok (number (core.Neg a))) y s.second in
        let r = postfix_is operand s.value s.first in
        subst (Has (site globals kinds given) visible) (ok_same (number (core.Neg t.value)) y t.second)
        (record { has = (refl, asked_is _ visible kind.Int (postfix_at operand) s.value t.value t.first r.has); is = tt })

    pub postfix_is : (x : plain.Postfix) (y : Typed) → postfix globals locals x ≡ Ok y → Has (site globals kinds given) visible y
    postfix_is (plain.PostfixOf p indices at) y e =
        let s = then_ok (primary globals locals p) (λ t. indexed globals locals indices at t) y e in
        indexed_is indices at s.value y (primary_is p s.value s.first) s.second

    pub indexed_is : (x : plain.Indices) (at : ℕ) (array y : Typed) → Has (site globals kinds given) visible array → indexed globals locals x at array ≡ Ok y
        → Has (site globals kinds given) visible y
    indexed_is plain.NoIndex at array y has e = subst (Has (site globals kinds given) visible) (ok_same array y e) has
    indexed_is (plain.AnIndex index bracket_at others) at array y has e =
        let s = then_ok (asked_array at array.kind) _ y e in
        let t = then_ok (expression globals locals index) _ y s.second in
        let u = then_ok (asked kind.Int (expression_at index) t.value) _ y t.second in
        let is_array = asked_array_is at array.kind s.value s.first in
        let held = subst (IsKind globals.packings) is_array has.is in
        let same = element_kind_is globals.packings s.value held.0 held.1 in
        let i = expression_is index t.value t.first in
        indexed_is others at (cell array.expr u.value bracket_at (element_kind globals.packings s.value)) y (record {
          has = (
            s.value,
            subst (HasKind (site globals kinds given) visible array.expr) is_array has.has,
            asked_is _ visible kind.Int (expression_at index) t.value u.value u.first i.has,
            held.1 ∙ ap Some (sym same),
          );
          is = subst (IsKind globals.packings) (sym same) (cell_is_kind globals.packings s.value held.0 knows.packings held.1);
        }) u.second

    pub primary_is : (x : plain.Primary) (y : Typed) → primary globals locals x ≡ Ok y → Has (site globals kinds given) visible y
    primary_is (plain.Number n at) y e = subst (Has (site globals kinds given) visible) (ok_same (number (core.Int n)) y e) (record { has = refl; is = tt })
    primary_is (plain.Boolean value at) y e = subst (Has (site globals kinds given) visible) (ok_same (truth value) y e) (record { has = refl; is = tt })
    primary_is (plain.Variable name) y e = (variable_is globals locals kinds given visible name y sees e).0
    primary_is (plain.Call f xs) y e =
        let s = then_ok (called globals f (count xs)) _ y e in
        let t = then_ok (arguments globals locals xs s.value.1.params 0 []) _ y s.second in
        let c = called_is globals f (count xs) s.value s.first in
        let are = arguments_are xs s.value.1.params 0 [] t.value [] tt t.first in
        subst (Has (site globals kinds given) visible) (ok_same (call s.value.0 t.value f.at s.value.1.given.kind) y t.second) (record {
          has = (
            seen_header s.value.1,
            slice_get-map seen_header globals.functions.headers s.value.0 ∙ ap (option_map seen_header) c.at,
            subst (HaveKinds (site globals kinds given) visible (to_exprs t.value)) (kinds_are xs [] s.value.1.params s.value.1.params 0 refl refl (sym c.count)) are,
            refl,
          );
          is = all_at (λ h. IsKind globals.packings h.given.kind) globals.functions.headers s.value.0 s.value.1 knows.headers c.at;
        })
    primary_is (plain.Make name xs) y e =
        let s = then_ok (made globals name (count xs)) _ y e in
        let t = then_ok (arguments globals locals xs (parts_of globals.packings s.value) 0 []) _ y s.second in
        let m = made_is globals name (count xs) s.value knows s.first in
        let parts = tuple_is globals.packings s.value m.0 m.1 in
        let are = arguments_are xs (parts_of globals.packings s.value) 0 [] t.value [] tt t.first in
        subst (Has (site globals kinds given) visible) (ok_same (tuple s.value t.value name.at) y t.second) (record {
          has = (
            m.0,
            m.1,
            subst (HaveKinds (site globals kinds given) visible (to_exprs t.value))
                (kinds_are xs [] (parts_of globals.packings s.value) (parts_of globals.packings s.value) 0 refl refl (sym m.2) ∙ ap (map kind_of) parts.0) are,
            refl,
          );
          is = (m.0, m.1);
        })
    primary_is (plain.Length array at) y e =
        let s = then_ok (expression globals locals array) _ y e in
        let t = then_ok (asked_array (expression_at array) s.value.kind) _ y s.second in
        let a = expression_is array s.value s.first in
        subst (Has (site globals kinds given) visible) (ok_same (number (core.Len s.value.expr)) y t.second) (record {
          has = (t.value, refl, subst (HasKind (site globals kinds given) visible s.value.expr) (asked_array_is (expression_at array) s.value.kind t.value t.first) a.has);
          is = tt;
        })
    primary_is (plain.New element size fill at) y e =
        let s = then_ok (element_number globals.types element) _ y e in
        let t = then_ok (expression globals locals size) _ y s.second in
        let u = then_ok (asked kind.Int (expression_at size) t.value) _ y t.second in
        let v = then_ok (expression globals locals fill) _ y u.second in
        let w = then_ok (asked (element_kind globals.packings s.value) (expression_at fill) v.value) _ y v.second in
        let held = element_is globals.types globals.packings element s.value knows.fits s.first in
        let same = element_kind_is globals.packings s.value held.0 held.1 in
        let len = expression_is size t.value t.first in
        let x = expression_is fill v.value v.first in
        subst (Has (site globals kinds given) visible) (ok_same (new_array s.value u.value w.value at) y w.second) (record {
          has = (
            held.0,
            refl,
            asked_is _ visible kind.Int (expression_at size) t.value u.value u.first len.has,
            held.1,
            subst (HasKind (site globals kinds given) visible w.value) same
                (asked_is _ visible (element_kind globals.packings s.value) (expression_at fill) v.value w.value w.first x.has),
          );
          is = held;
        })
    primary_is (plain.Group x at) y e = expression_is x y e

    arguments_are : (xs : plain.Expressions) (types : List CoreTy) (place : ℕ) (args ys : List core.Expr) (ks : List Kind)
        → HaveKinds (site globals kinds given) visible (to_exprs args) ks → arguments globals locals xs types place args ≡ Ok ys
        → HaveKinds (site globals kinds given) visible (to_exprs ys) (ks ++ kinds_of xs types place)
    arguments_are plain.NoExpression types place args ys ks have e =
        subst (HaveKinds (site globals kinds given) visible (to_exprs ys)) (sym (append-nil ks))
        (subst (λ z. HaveKinds (site globals kinds given) visible (to_exprs z) ks) (ok_same args ys e) have)
    arguments_are (plain.AnExpression x xs) types place args ys ks have e =
        let s = then_ok (expression globals locals x) _ ys e in
        let t = then_ok (asked (kind_at types place) (expression_at x) s.value) _ ys s.second in
        let a = expression_is x s.value s.first in
        let later = arguments_are xs types (place + 1) (args ++ (t.value ∷ [])) ys (ks ++ (kind_at types place ∷ []))
        (exprs_with _ visible args ks t.value (kind_at types place) have (asked_is _ visible (kind_at types place) (expression_at x) s.value t.value t.first a.has)) t.second in
        subst (HaveKinds (site globals kinds given) visible (to_exprs ys)) (append_assoc ks (kind_at types place ∷ []) (kinds_of xs types (place + 1))) later
