-- A list of parts that is not empty has a part in front.
use Rattle.std.proofs.Common.{◌≡◌, ℕ, ◌<◌, true, List, [], ◌∷◌, length, refl, arith}
use Rattle.xanadu_tree.specs.declared.expr.Op.{Op}
use Rattle.xanadu_tree.specs.declared.tree.expression.Conjunction.{Conjunction}
use Rattle.xanadu_tree.specs.declared.tree.expression.Expression.{Expression}
use Rattle.xanadu_tree.specs.declared.tree.expression.Negation.{Negation}
use Rattle.xanadu_tree.specs.declared.tree.expression.Product.{Product}
use Rattle.xanadu_tree.specs.declared.tree.expression.Unary.{Unary as One}
use Rattle.xanadu_tree.specs.PlainTreeOf.{plain_indices, plain_expressions}
use Rattle.expression_shapes.specs.Expressions.{has_conjunction, has_negation, has_addend, has_factor, has_index, count}
use Rattle.expression_shapes.specs.NodesOf.{conjunctions_of, negations_of, addends_of, factors_of}

none-longer : {A : Type 0} (xs : List A) → xs ≡ [] → 0 < length xs → ⊥
none-longer [] same longer = omega (arith, longer)
none-longer (x ∷ xs) same longer = cc

pub has_conjunction-some : (xs : List (Conjunction × ℕ)) → 0 < length xs → has_conjunction (conjunctions_of xs) ≡ true
has_conjunction-some [] longer = absurd (none-longer {A = Conjunction × ℕ} [] refl longer)
has_conjunction-some (x ∷ xs) longer = refl

pub has_negation-some : (xs : List (Negation × ℕ)) → 0 < length xs → has_negation (negations_of xs) ≡ true
has_negation-some [] longer = absurd (none-longer {A = Negation × ℕ} [] refl longer)
has_negation-some (x ∷ xs) longer = refl

pub has_addend-some : (xs : List (Op × Product × ℕ)) → 0 < length xs → has_addend (addends_of xs) ≡ true
has_addend-some [] longer = absurd (none-longer {A = Op × Product × ℕ} [] refl longer)
has_addend-some (x ∷ xs) longer = refl

pub has_factor-some : (xs : List (Op × One × ℕ)) → 0 < length xs → has_factor (factors_of xs) ≡ true
has_factor-some [] longer = absurd (none-longer {A = Op × One × ℕ} [] refl longer)
has_factor-some (x ∷ xs) longer = refl

pub has_index-some : (xs : List (Expression × ℕ)) → 0 < length xs → has_index (plain_indices xs) ≡ true
has_index-some [] longer = absurd (none-longer {A = Expression × ℕ} [] refl longer)
has_index-some (x ∷ xs) longer = refl

pub count-is : (xs : List Expression) → length xs ≡ count (plain_expressions xs)
count-is [] = refl
count-is (x ∷ xs) = omega (arith, count-is xs)
