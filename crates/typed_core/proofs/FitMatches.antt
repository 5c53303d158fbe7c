-- A match of types of the wanted kinds stops at a limit at most.
use Rattle.std.proofs.Common.{◌≡◌, ℕ, suc, ◌-◌, List, [], ◌∷◌, ◌++◌, ◌==◌, length, Bool as Truth, true, false, cond, Option, Some, None, Result, Ok, Err, eq-eqb}
use Rattle.index_sorts.specs.Known.{same_form}
use Rattle.xan_lin.specs.Linear.{Linear, difference_of}
use Rattle.xan_lin.specs.Subst.{subst_of}
use Rattle.xan_lin.specs.declared.term.TooLarge.{TooLarge}
use Rattle.state_types.specs.Answers.{Check, within_bounds}
use Rattle.state_types.specs.Matching.{pair_of, pairs_of, values_for, both_differences, differences, index_rows, type_rows, own_rows, demanded, found_with, matched}
use Rattle.state_types.specs.Types.{index_of, same_kind}
use Rattle.state_types.specs.declared.types.Ty.{Ty}
use Rattle.xanadu_tree.specs.declared.types.Kind.{Kind}
use Rattle.operation_rules.specs.Faults.{Ruling}
use Rattle.operation_rules.specs.Rules as rules
use Rattle.operation_rules.specs.declared.error.Fault.TheVariants.{WrongCount, WrongKind}
use Rattle.typed_core.specs.States.{matching}
use Rattle.typed_core.proofs.LimitedAnswers.{Answers, Anything, Fits, Rules, IsLarge, then_answers, match_rules, by_rule_fits}
use Rattle.typed_core.proofs.TypeKinds.{ty_kind, HaveKindsOf, AreOfKinds, wanted_kind, like_kinds, as_many}

-- ---- rows

bounds_large : {A : Type 0} (r : Result A TooLarge) → Answers IsLarge Anything (within_bounds r)
bounds_large (Ok x) = record { is = tt }
bounds_large (Err why) = record { is = tt }

differ_large : (test : Truth) (wanted present : Linear) (made : List Linear)
    → Answers IsLarge Anything (cond test (let r : Check (List Linear) = Ok made in r) (both_differences wanted present made))
differ_large true wanted present made = record { is = tt }
differ_large false wanted present made =
    then_answers (within_bounds (difference_of wanted present)) _ (bounds_large (difference_of wanted present))
    (λ more h. then_answers (within_bounds (difference_of present wanted)) _ (bounds_large (difference_of present wanted)) (λ less g. record { is = tt }))

differences_large : (wanted present : Linear) (made : List Linear) → Answers IsLarge Anything (differences wanted present made)
unfolding differences
differences_large wanted present made = differ_large (same_form wanted present) wanted present made

index_large : (values : List (ℕ × Linear)) (below : ℕ) (wanted present : Option Linear) (made : List Linear) → Answers IsLarge Anything (index_rows values below wanted present made)
unfolding index_rows
index_large values below None present made = record { is = tt }
index_large values below (Some wanted) None made = record { is = tt }
index_large values below (Some wanted) (Some present) made =
    then_answers (within_bounds (subst_of values below wanted)) _ (bounds_large (subst_of values below wanted)) (λ given h. differences_large given present made)

types_large : (values : List (ℕ × Linear)) (below : ℕ) (pairs : List _) (made : List Linear) → Answers IsLarge Anything (type_rows values below pairs made)
unfolding type_rows
types_large values below [] made = record { is = tt }
types_large values below (pair ∷ pairs) made =
    then_answers (index_rows values below (index_of pair.wanted) (index_of pair.present) made) _
    (index_large values below (index_of pair.wanted) (index_of pair.present) made) (λ more h. types_large values below pairs more)

own_large : (values : List (ℕ × Linear)) (below : ℕ) (rows made : List Linear) → Answers IsLarge Anything (own_rows values below rows made)
unfolding own_rows
own_large values below [] made = record { is = tt }
own_large values below (row ∷ rows) made =
    then_answers (within_bounds (subst_of values below row)) _ (bounds_large (subst_of values below row)) (λ given h. own_large values below rows (made ++ given ∷ []))

demanded_large : (values : List (ℕ × Linear)) (below : ℕ) (pairs : List _) (rows : List Linear) → Answers IsLarge Anything (demanded values below pairs rows)
unfolding demanded
demanded_large values below pairs rows =
    then_answers (type_rows values below pairs []) _ (types_large values below pairs []) (λ made h. own_large values below rows made)

found_large : (values : List (ℕ × Linear)) (below : ℕ) (pairs : List _) (rows : List Linear) → Answers IsLarge Anything (found_with values below pairs rows)
unfolding found_with
found_large values below pairs rows = then_answers (demanded values below pairs rows) _ (demanded_large values below pairs rows) (λ all h. record { is = tt })

-- ---- pairs

pair_by : {A : Type 0} (b : Truth) (m n : Check A) → b ≡ true → Answers IsLarge Anything m → Answers IsLarge Anything (cond b m n)
pair_by true m n e h = h
pair_by false m n e h = absurd (cc)

pair_large : (number : ℕ) (wanted present : Ty) → ty_kind wanted ≡ ty_kind present → Answers IsLarge Anything (pair_of number wanted present)
unfolding pair_of
pair_large number wanted present e = pair_by (same_kind wanted present) _ _ (like_kinds wanted present e) (record { is = tt })

pairs_large : (ks : List Kind) (number : ℕ) (wanted actual : List Ty) (made : List _) → HaveKindsOf ks wanted → AreOfKinds ks actual
    → Answers IsLarge Anything (pairs_of number wanted actual made)
unfolding pairs_of
pairs_large [] number [] actual made h g = record { is = tt }
pairs_large [] number (w ∷ ws) actual made h g = absurd h
pairs_large (k ∷ ks) number [] actual made h g = absurd h
pairs_large (k ∷ ks) number (w ∷ ws) [] made h g = absurd g
pairs_large (k ∷ ks) number (w ∷ ws) (a ∷ others) made h g =
    then_answers (pair_of number w a) _ (pair_large number w a (wanted_kind k w a h.0 g.0)) (λ pair u. pairs_large ks (suc number) ws others (made ++ pair ∷ []) h.1 g.1)

-- ---- the match

matched_large : (ks : List Kind) (below vars : ℕ) (rows : List Linear) (wanted actual : List Ty) → HaveKindsOf ks wanted → AreOfKinds ks actual
    → Answers IsLarge Anything (matched below vars rows wanted actual)
unfolding matched
matched_large ks below vars rows wanted actual h g =
    then_answers (pairs_of 0 wanted actual []) _ (pairs_large ks 0 wanted actual [] h g) (λ pairs u. found_large (values_for below (vars - below) pairs) below pairs rows)

as_many_by : (b : Truth) → b ≡ true → Rules Anything (let r : Ruling (Unit {0}) = cond b (Ok tt) (Err WrongCount) in r)
as_many_by true e = record { is = tt }
as_many_by false e = absurd (cc)

pub as_many_rules : (wanted actual : ℕ) → wanted ≡ actual → Rules Anything (rules.as_many wanted actual)
as_many_rules wanted actual e = as_many_by (wanted == actual) (eq-eqb wanted actual e)

pub matching_rules : (ks : List Kind) (below vars : ℕ) (rows : List Linear) (wanted actual : List Ty) → HaveKindsOf ks wanted → AreOfKinds ks actual
    → Rules Anything (rules.matching below vars rows wanted actual)
unfolding rules.matching
matching_rules ks below vars rows wanted actual h g =
    then_answers (rules.as_many (length wanted) (length actual)) _ (as_many_rules (length wanted) (length actual) (as_many ks wanted actual h g))
    (λ count u. match_rules (matched below vars rows wanted actual) (matched_large ks below vars rows wanted actual h g))

pub matching_fits : (ks : List Kind) (below vars : ℕ) (rows : List Linear) (wanted actual : List Ty) → HaveKindsOf ks wanted → AreOfKinds ks actual
    → Fits Anything (matching below vars rows wanted actual)
unfolding matching
matching_fits ks below vars rows wanted actual h g = by_rule_fits (rules.matching below vars rows wanted actual) (matching_rules ks below vars rows wanted actual h g)

-- ---- kinds, before any form is looked at

kinds_by : (b : Truth) (m : Ruling (Unit {0})) → b ≡ true → Rules Anything m → Rules Anything (cond b m (Err WrongKind))
kinds_by true m e h = h
kinds_by false m e h = absurd (cc)

pub of_kinds_rules : (ks : List Kind) (wanted actual : List Ty) → HaveKindsOf ks wanted → AreOfKinds ks actual → Rules Anything (rules.of_kinds wanted actual)
unfolding rules.of_kinds
of_kinds_rules [] [] [] h g = record { is = tt }
of_kinds_rules [] [] (t ∷ ts) h g = absurd g
of_kinds_rules [] (w ∷ ws) actual h g = absurd h
of_kinds_rules (k ∷ ks) [] actual h g = absurd h
of_kinds_rules (k ∷ ks) (w ∷ ws) [] h g = absurd g
of_kinds_rules (k ∷ ks) (w ∷ ws) (t ∷ ts) h g =
    kinds_by (same_kind w t) (rules.of_kinds ws ts) (like_kinds w t (wanted_kind k w t h.0 g.0)) (of_kinds_rules ks ws ts h.1 g.1)
