-- Each test that is read is a test of the core: one case for each production.
use Rattle.std.proofs.Common.{◌≡◌, subst, ℕ, Bool, true, false, List, [], ◌∷◌, ◌++◌, Ok, refl}
use Rattle.std.specs.Prelude.{cond}
use Rattle.xanadu_tree.specs.declared.types.Kind.{Kind}
use Rattle.xanadu_tree.specs.declared.types.Kind.TheVariants as kind
use Rattle.xanadu_tree.specs.KindRules.{Setting, AreSeveral, IsTest, AreTests}
use Rattle.xanadu_tree.specs.Plain as core
use Rattle.xanadu_tree.specs.PlainOf.{to_tests}
use Rattle.xanadu_tree.specs.PlainTree as plain
use Rattle.xanadu_tree.specs.Written.{primary_at, IsSome}
use Rattle.type_shapes.specs.Faults.{Check, ◌>>=◌}
use Rattle.expression_shapes.specs.Sites.{Globals, Locals, Typed, asked}
use Rattle.expression_shapes.specs.Expressions.{has_conjunction, has_negation, is_compound, leaf, any_test, all_test, comparison, expression_test, any_tests, conjunction_test, all_tests, negation_test, comparison_test, primary_test}
use Rattle.type_shapes.proofs.ShapedLists.{then_ok, ok_same}
use Rattle.expression_shapes.proofs.ShapedKinds.{asked_is}
use Rattle.expression_shapes.proofs.ShapedExpressions.{Knows, site, Sees, Has}
use Rattle.expression_shapes.proofs.ShapedOperands.{comparison_is, primary_is}

abbrev IsTwo : List core.Test → Type 0
IsTwo [] = ⊥
IsTwo (x ∷ []) = ⊥
IsTwo (x ∷ y ∷ zs) = Unit {0}

two_with : (xs : List core.Test) (x : core.Test) → IsSome xs → IsTwo (xs ++ (x ∷ []))
two_with [] x some = absurd some
two_with (y ∷ []) x some = tt
two_with (y ∷ z ∷ zs) x some = tt

still_some : (xs : List core.Test) (x : core.Test) → IsSome (xs ++ (x ∷ []))
still_some [] x = tt
still_some (y ∷ ys) x = tt

still_two : (xs : List core.Test) (x : core.Test) → IsTwo xs → IsTwo (xs ++ (x ∷ []))
still_two [] x two = absurd two
still_two (y ∷ []) x two = absurd two
still_two (y ∷ z ∷ zs) x two = tt

several : (xs : List core.Test) → IsTwo xs → AreSeveral (to_tests xs)
several [] two = absurd two
several (y ∷ []) two = absurd two
several (y ∷ z ∷ zs) two = tt

tests_with : (set : Setting) (visible : List ℕ) (xs : List core.Test) (x : core.Test) → AreTests set visible (to_tests xs) → IsTest set visible x → AreTests set visible (to_tests (xs ++ (x ∷ [])))
unfolding IsTest
tests_with set visible [] x are is = (is, tt)
tests_with set visible (y ∷ ys) x are is = (are.0, tests_with set visible ys x are.1 is)

no_tests : (set : Setting) (visible : List ℕ) → AreTests set visible core.NoTest
unfolding IsTest
no_tests set visible = tt

either_way : {P : Type 0} (b : Bool) (one two : Check core.Test) (y : core.Test) → cond b one two ≡ Ok y → (one ≡ Ok y → P) → (two ≡ Ok y → P) → P
either_way true one two y e f g = f e
either_way false one two y e f g = g e

leaf_is : (set : Setting) (visible : List ℕ) (at : ℕ) (m : Check Typed) (y : core.Test) → ((t : Typed) → m ≡ Ok t → Has set visible t) → leaf at m ≡ Ok y → IsTest set visible y
unfolding IsTest
leaf_is set visible at m y has e =
    let s = then_ok m (λ t. asked kind.Bool at t >>= (λ a. Ok (core.Leaf a))) y e in
    let t = then_ok (asked kind.Bool at s.value) (λ a. Ok (core.Leaf a)) y s.second in
    let h = has s.value s.first in
    subst (IsTest set visible) (ok_same (core.Leaf t.value) y t.second) (asked_is set visible kind.Bool at s.value t.value t.first h.has)

any_is : (set : Setting) (visible : List ℕ) (some : Bool) (first : core.Test) (rest : Check (List core.Test)) (y : core.Test) → IsTest set visible first
    → ((parts : List core.Test) → rest ≡ Ok parts → some ≡ true → AreTests set visible (to_tests parts) × IsTwo parts) → any_test some first rest ≡ Ok y → IsTest set visible y
unfolding IsTest
any_is set visible false first rest y is parts e = subst (IsTest set visible) (ok_same first y e) is
any_is set visible true first rest y is parts e =
    let s = then_ok rest (λ ps. Ok (core.Any (to_tests ps))) y e in
    let p = parts s.value s.first refl in
    subst (IsTest set visible) (ok_same (core.Any (to_tests s.value)) y s.second) (several s.value p.1, p.0)

all_is : (set : Setting) (visible : List ℕ) (some : Bool) (first : core.Test) (rest : Check (List core.Test)) (y : core.Test) → IsTest set visible first
    → ((parts : List core.Test) → rest ≡ Ok parts → some ≡ true → AreTests set visible (to_tests parts) × IsTwo parts) → all_test some first rest ≡ Ok y → IsTest set visible y
unfolding IsTest
all_is set visible false first rest y is parts e = subst (IsTest set visible) (ok_same first y e) is
all_is set visible true first rest y is parts e =
    let s = then_ok rest (λ ps. Ok (core.All (to_tests ps))) y e in
    let p = parts s.value s.first refl in
    subst (IsTest set visible) (ok_same (core.All (to_tests s.value)) y s.second) (several s.value p.1, p.0)

not_is : (set : Setting) (visible : List ℕ) (m : Check core.Test) (y : core.Test) → ((t : core.Test) → m ≡ Ok t → IsTest set visible t) → (m >>= (λ t. Ok (core.Not t))) ≡ Ok y → IsTest set visible y
unfolding IsTest
not_is set visible m y is e =
    let s = then_ok m (λ t. Ok (core.Not t)) y e in
    subst (IsTest set visible) (ok_same (core.Not s.value) y s.second) (is s.value s.first)

module _ (globals : Globals) (locals : Locals) (kinds : List Kind) (given : Kind) (visible : List ℕ) (knows : Knows globals) (sees : Sees globals.packings locals kinds visible) where
  mutual
    unfolding expression_test

    pub test_is : (x : plain.Expression) (y : core.Test) → expression_test globals locals x ≡ Ok y → IsTest (site globals kinds given) visible y
    test_is (plain.ExpressionOf first rest at) y e =
        let s = then_ok (conjunction_test globals locals first) (λ t. any_test (has_conjunction rest) t (any_tests globals locals rest (t ∷ []))) y e in
        let is = conjunction_test_is first s.value s.first in
        any_is (site globals kinds given) visible (has_conjunction rest) s.value (any_tests globals locals rest (s.value ∷ [])) y is
        (λ parts found some. let a = any_tests_are rest (s.value ∷ []) parts (tests_with _ visible [] s.value (no_tests _ visible) is) found in (a.0, a.2 tt some)) s.second

    any_tests_are : (x : plain.Conjunctions) (parts ys : List core.Test) → AreTests (site globals kinds given) visible (to_tests parts) → any_tests globals locals x parts ≡ Ok ys
        → AreTests (site globals kinds given) visible (to_tests ys) × (IsTwo parts → IsTwo ys) × (IsSome parts → has_conjunction x ≡ true → IsTwo ys)
    any_tests_are plain.NoConjunction parts ys are e =
        let same = ok_same parts ys e in
        (subst (λ z. AreTests (site globals kinds given) visible (to_tests z)) same are, λ h. subst IsTwo same h, λ h some. absurd (cc))
    any_tests_are (plain.AConjunction part at others) parts ys are e =
        let s = then_ok (conjunction_test globals locals part) (λ t. any_tests globals locals others (parts ++ (t ∷ []))) ys e in
        let later = any_tests_are others (parts ++ (s.value ∷ [])) ys (tests_with _ visible parts s.value are (conjunction_test_is part s.value s.first)) s.second in
        (later.0, λ two. later.1 (still_two parts s.value two), λ one some. later.1 (two_with parts s.value one))

    conjunction_test_is : (x : plain.Conjunction) (y : core.Test) → conjunction_test globals locals x ≡ Ok y → IsTest (site globals kinds given) visible y
    conjunction_test_is (plain.ConjunctionOf first rest at) y e =
        let s = then_ok (negation_test globals locals first) (λ t. all_test (has_negation rest) t (all_tests globals locals rest (t ∷ []))) y e in
        let is = negation_test_is first s.value s.first in
        all_is (site globals kinds given) visible (has_negation rest) s.value (all_tests globals locals rest (s.value ∷ [])) y is
        (λ parts found some. let a = all_tests_are rest (s.value ∷ []) parts (tests_with _ visible [] s.value (no_tests _ visible) is) found in (a.0, a.2 tt some)) s.second

    all_tests_are : (x : plain.Negations) (parts ys : List core.Test) → AreTests (site globals kinds given) visible (to_tests parts) → all_tests globals locals x parts ≡ Ok ys
        → AreTests (site globals kinds given) visible (to_tests ys) × (IsTwo parts → IsTwo ys) × (IsSome parts → has_negation x ≡ true → IsTwo ys)
    all_tests_are plain.NoNegation parts ys are e =
        let same = ok_same parts ys e in
        (subst (λ z. AreTests (site globals kinds given) visible (to_tests z)) same are, λ h. subst IsTwo same h, λ h some. absurd (cc))
    all_tests_are (plain.ANegation part at others) parts ys are e =
        let s = then_ok (negation_test globals locals part) (λ t. all_tests globals locals others (parts ++ (t ∷ []))) ys e in
        let later = all_tests_are others (parts ++ (s.value ∷ [])) ys (tests_with _ visible parts s.value are (negation_test_is part s.value s.first)) s.second in
        (later.0, λ two. later.1 (still_two parts s.value two), λ one some. later.1 (two_with parts s.value one))

    negation_test_is : (x : plain.Negation) (y : core.Test) → negation_test globals locals x ≡ Ok y → IsTest (site globals kinds given) visible y
    negation_test_is (plain.NegationOf false operand at) y e = comparison_test_is operand y e
    negation_test_is (plain.NegationOf true operand at) y e =
        not_is (site globals kinds given) visible (comparison_test globals locals operand) y (λ t found. comparison_test_is operand t found) e

    comparison_test_is : (x : plain.Comparison) (y : core.Test) → comparison_test globals locals x ≡ Ok y → IsTest (site globals kinds given) visible y
    comparison_test_is (plain.ComparisonOf (plain.SumOf (plain.ProductOf (plain.UnaryOf negative (plain.PostfixOf p indices p_at) u_at) factors f_at) addends s_at) right at) y e =
        let it : plain.Comparison = plain.ComparisonOf (plain.SumOf (plain.ProductOf (plain.UnaryOf negative (plain.PostfixOf p indices p_at) u_at) factors f_at) addends s_at) right at in
        either_way (is_compound it) (leaf at (comparison globals locals it)) (primary_test globals locals p) y e
        (λ h. leaf_is (site globals kinds given) visible at _ y (comparison_is globals locals kinds given visible knows sees it) h)
        (λ h. primary_test_is p y h)

    primary_test_is : (x : plain.Primary) (y : core.Test) → primary_test globals locals x ≡ Ok y → IsTest (site globals kinds given) visible y
    primary_test_is (plain.Group x at) y e = test_is x y e
    primary_test_is p y e = leaf_is (site globals kinds given) visible (primary_at p) _ y (primary_is globals locals kinds given visible knows sees p) e
