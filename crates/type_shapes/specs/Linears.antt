-- Linear forms of index variables, as they are read from a source.
use Rattle.std.specs.Prelude.{ℕ, ℤ, pos, negsuc, ◌+ℤ◌, neg_ℤ, Bool as Truth, true, false, cond, not, List, [], ◌∷◌, ◌++◌, map, filter, Option, Some, None, Ok, unwrap_or, ◌&&◌, if◌then◌else◌}
use Rattle.std.specs.Map.{lookup}
use Rattle.std.specs.BTreeMap.{insert_entry, is_at}
use Rattle.std.specs.Ordering.{nat_cmp, int_eq}
use Rattle.xanadu_tree.specs.declared.linear.Linear.{Linear}
use Rattle.xanadu_tree.specs.declared.tree.index.IndexRelation.{IndexRelation}
use Rattle.xanadu_tree.specs.declared.tree.index.IndexRelation.TheVariants as relation
use Rattle.xanadu_tree.specs.declared.tree.index.IndexTerm.{IndexTerm}
use Rattle.xanadu_tree.specs.declared.tree.index.IndexTerm.TheVariants as term
use Rattle.xanadu_tree.specs.declared.tree.index.Sign.{Sign}
use Rattle.xanadu_tree.specs.declared.tree.index.Sign.TheVariants.{Plus, Minus}
use Rattle.xanadu_tree.specs.PlainTree as plain
use Rattle.type_shapes.specs.Faults.{Check, ◌>>=◌}
use Rattle.type_shapes.specs.Names.{Scope, meaning, or_unknown}

-- ---- forms under way: the coefficient of each variable that came so far, by rising variable, and the constant

pub record Form : Type 0 where
  pub coefficients : List (ℕ × ℤ)
  pub constant : ℤ

abbrev pub constant_form : ℤ → Form
constant_form n = record { coefficients = []; constant = n }

unfoldable pub coefficient : ℕ → List (ℕ × ℤ) → ℤ
coefficient variable coefficients = unwrap_or (lookup (is_at (nat_cmp variable)) coefficients) (pos 0)

-- the form and so many times the variable
unfoldable pub with_term : ℕ → ℤ → Form → Form
with_term variable times form = record form { coefficients = insert_entry nat_cmp form.coefficients variable (coefficient variable form.coefficients +ℤ times) }

unfoldable pub with_constant : ℤ → Form → Form
with_constant n form = record form { constant = form.constant +ℤ n }

abbrev pub is_term : ℕ × ℤ → Truth
is_term e = not (int_eq e.1 (pos 0))

abbrev pub term_of : ℕ × ℤ → ℤ × ℕ
term_of e = (e.1, e.0)

-- the form, without the variables that cancel
unfoldable pub linear : Form → Linear
linear form = record { terms = map term_of (filter is_term form.coefficients); constant = form.constant }

-- the form that is this variable
unfoldable pub variable_form : ℕ → Linear
variable_form variable = record { terms = (pos 1, variable) ∷ []; constant = pos 0 }

-- the variable that a form is, where it is one alone, with coefficient 1
unfoldable pub lone : List (ℤ × ℕ) → ℤ → Option ℕ
lone (t ∷ []) constant = if int_eq t.0 (pos 1) && int_eq constant (pos 0) then Some t.1 else None
lone _ constant = None

-- ---- index expressions, added to a form with a sign

abbrev pub first_sign : Truth → Sign
first_sign true = Minus
first_sign false = Plus

abbrev pub opposite : Sign → Sign
opposite Plus = Minus
opposite Minus = Plus

-- the sign of a part within a whole that has a sign itself
abbrev pub within : Sign → Sign → Sign
within Plus part = part
within Minus part = opposite part

abbrev pub signed : Sign → ℤ → ℤ
signed Plus n = n
signed Minus n = neg_ℤ n

unfoldable pub term_in : Scope → Sign → IndexTerm → Form → Check Form
term_in scope sign (term.Number n at) form = Ok (with_constant (signed sign n) form)
term_in scope sign (term.Product n name at) form = do
  variable ← or_unknown name.at (meaning name.name scope)
  Ok (with_term variable (signed sign n) form)
term_in scope sign (term.Variable name) form = do
  variable ← or_unknown name.at (meaning name.name scope)
  Ok (with_term variable (signed sign (pos 1)) form)

unfoldable pub terms_in : Scope → Sign → List (Sign × IndexTerm) → Form → Check Form
terms_in scope side [] form = Ok form
terms_in scope side (t ∷ ts) form = do
  more ← term_in scope (within side t.0) t.1 form
  terms_in scope side ts more

unfoldable pub index_in : Scope → Sign → plain.IndexExpression → Form → Check Form
index_in scope side e form = do
  more ← term_in scope (within side (first_sign e.negative)) e.first form
  terms_in scope side e.rest more

-- ---- the rows of a relation: each is a form that is at least 0

-- Both sides, the left one with the sign and the right one with the other, and 1 less where the relation is strict.
unfoldable pub row_in : Scope → (strict : Truth) → Sign → plain.Relation → Check Linear
row_in scope strict side r = do
  left ← index_in scope side r.left (constant_form (cond strict (negsuc 0) (pos 0)))
  both ← index_in scope (opposite side) r.right left
  Ok (linear both)

abbrev pub with_row : Scope → (strict : Truth) → Sign → plain.Relation → List Linear → Check (List Linear)
with_row scope strict side r rows = do
  row ← row_in scope strict side r
  Ok (rows ++ (row ∷ []))

unfoldable pub relation_in : Scope → IndexRelation → plain.Relation → List Linear → Check (List Linear)
relation_in scope relation.Less r rows = with_row scope true Minus r rows
relation_in scope relation.AtMost r rows = with_row scope false Minus r rows
relation_in scope relation.Greater r rows = with_row scope true Plus r rows
relation_in scope relation.AtLeast r rows = with_row scope false Plus r rows
relation_in scope relation.Equal r rows = do
  more ← with_row scope false Plus r rows
  with_row scope false Minus r more

unfoldable pub relations_in : Scope → List plain.Relation → List Linear → Check (List Linear)
relations_in scope [] rows = Ok rows
relations_in scope (r ∷ rs) rows = do
  more ← relation_in scope r.relation r rows
  relations_in scope rs more
