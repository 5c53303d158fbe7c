-- What an index expression is worth as it is written, and when a relation holds as it is written; what a form of the core is worth, and when a row of it holds.
use Rattle.std.specs.Prelude.{◌≡◌, ℕ, ℤ, pos, ◌+ℤ◌, ◌*ℤ◌, neg_ℤ, ◌≤ℤ◌, ◌<ℤ◌, Bool as Truth, true, false, List, [], ◌∷◌, Option, Some, None}
use Rattle.std.specs.List.{AllByRecursion}
use Rattle.xanadu_tree.specs.declared.linear.Linear.{Linear}
use Rattle.xanadu_tree.specs.declared.tree.index.IndexRelation.{IndexRelation}
use Rattle.xanadu_tree.specs.declared.tree.index.IndexRelation.TheVariants as relation
use Rattle.xanadu_tree.specs.declared.tree.index.IndexTerm.{IndexTerm}
use Rattle.xanadu_tree.specs.declared.tree.index.IndexTerm.TheVariants as term
use Rattle.xanadu_tree.specs.declared.tree.index.Sign.{Sign}
use Rattle.xanadu_tree.specs.declared.tree.index.Sign.TheVariants.{Plus, Minus}
use Rattle.xanadu_tree.specs.PlainTree as plain
use Rattle.type_shapes.specs.Names.{Scope, meaning}

-- ---- what names stand for

-- the number of each index variable
abbrev pub Assignment : Type 0
Assignment = ℕ → ℤ

-- the number of each name
abbrev pub Naming : Type 0
Naming = List ℕ → ℤ

abbrev pub number_or_zero : Assignment → Option ℕ → ℤ
number_or_zero values None = pos 0
number_or_zero values (Some variable) = values variable

-- A name stands for the number of the variable that it means in the scope. One that means nothing is a fault, so that its number is of no account.
abbrev pub naming : Scope → Assignment → Naming
naming scope values name = number_or_zero values (meaning name scope)

-- ---- as it is written

abbrev pub term_value : Naming → IndexTerm → ℤ
term_value named (term.Number n at) = n
term_value named (term.Product n name at) = n *ℤ named name.name
term_value named (term.Variable name) = named name.name

abbrev pub with_sign : Sign → ℤ → ℤ
with_sign Plus n = n
with_sign Minus n = neg_ℤ n

-- the terms behind the first
abbrev pub rest_value : Naming → List (Sign × IndexTerm) → ℤ
rest_value named [] = pos 0
rest_value named (t ∷ ts) = with_sign t.0 (term_value named t.1) +ℤ rest_value named ts

abbrev pub first_value : Truth → ℤ → ℤ
first_value false n = n
first_value true n = neg_ℤ n

abbrev pub index_value : Naming → plain.IndexExpression → ℤ
index_value named e = first_value e.negative (term_value named e.first) +ℤ rest_value named e.rest

abbrev pub Relates : IndexRelation → (left right : ℤ) → Type 0
Relates relation.Less left right = left <ℤ right
Relates relation.AtMost left right = left ≤ℤ right
Relates relation.Greater left right = right <ℤ left
Relates relation.AtLeast left right = right ≤ℤ left
Relates relation.Equal left right = left ≡ right

abbrev pub IsTrueOf : Naming → plain.Relation → Type 0
IsTrueOf named r = Relates r.relation (index_value named r.left) (index_value named r.right)

-- ---- as the core has it

abbrev pub terms_value : Assignment → List (ℤ × ℕ) → ℤ
terms_value values [] = pos 0
terms_value values (t ∷ ts) = (t.0 *ℤ values t.1) +ℤ terms_value values ts

abbrev pub form_value : Assignment → Linear → ℤ
form_value values form = terms_value values form.terms +ℤ form.constant

-- A row says that its form is at least 0.
abbrev pub RowHolds : Assignment → Linear → Type 0
RowHolds values row = pos 0 ≤ℤ form_value values row

abbrev pub RowsHold : Assignment → List Linear → Type 0
RowsHold values rows = AllByRecursion (RowHolds values) rows

abbrev pub AreTrue : Naming → List plain.Relation → Type 0
AreTrue named rs = AllByRecursion (IsTrueOf named) rs
