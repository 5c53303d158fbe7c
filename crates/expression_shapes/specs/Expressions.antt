-- Expressions and tests.
use Rattle.std.specs.Prelude.{ℕ, ◌+◌, Bool as Truth, true, false, ◌||◌, cond, List, [], ◌∷◌, ◌++◌, Ok}
use Rattle.xanadu_tree.specs.declared.expr.Op.{Op}
use Rattle.xanadu_tree.specs.declared.expr.Rel.{Rel}
use Rattle.xanadu_tree.specs.declared.types.CoreTy.{CoreTy}
use Rattle.xanadu_tree.specs.declared.types.Kind.{Kind}
use Rattle.xanadu_tree.specs.declared.types.Kind.TheVariants as kind
use Rattle.xanadu_tree.specs.Plain as core
use Rattle.xanadu_tree.specs.PlainOf.{to_exprs, to_links, to_tests}
use Rattle.xanadu_tree.specs.PlainTree as plain
use Rattle.xanadu_tree.specs.Written.{primary_at, postfix_at, unary_at, product_at, sum_at, expression_at}
use Rattle.type_shapes.specs.declared.error.ShapeKind.TheVariants.{OutsideTest}
use Rattle.type_shapes.specs.Faults.{Check, fault, ◌>>=◌}
use Rattle.type_shapes.specs.Kinds.{kind_at, element_kind, parts_of}
use Rattle.type_shapes.specs.Quantifiers.{element_number}
use Rattle.expression_shapes.specs.Sites.{Globals, Locals, Typed, variable, asked, asked_array, called, made}

-- ---- what follows a part

abbrev pub has_conjunction : plain.Conjunctions → Truth
has_conjunction plain.NoConjunction = false
has_conjunction (plain.AConjunction conjunction at others) = true

abbrev pub has_negation : plain.Negations → Truth
has_negation plain.NoNegation = false
has_negation (plain.ANegation negation at others) = true

abbrev pub has_comparand : plain.Comparand → Truth
has_comparand plain.NoComparand = false
has_comparand (plain.AComparand rel right) = true

abbrev pub has_addend : plain.Addends → Truth
has_addend plain.NoAddend = false
has_addend (plain.AnAddend op product at others) = true

abbrev pub has_factor : plain.Factors → Truth
has_factor plain.NoFactor = false
has_factor (plain.AFactor op unary at others) = true

abbrev pub has_index : plain.Indices → Truth
has_index plain.NoIndex = false
has_index (plain.AnIndex index at others) = true

-- whether a comparison has an operator or an index: else it is one primary
abbrev pub is_compound : plain.Comparison → Truth
is_compound (plain.ComparisonOf (plain.SumOf (plain.ProductOf (plain.UnaryOf negative (plain.PostfixOf p indices p_at) u_at) factors f_at) addends s_at) right at) =
    has_comparand right || has_addend addends || has_factor factors || negative || has_index indices

abbrev pub count : plain.Expressions → ℕ
count plain.NoExpression = 0
count (plain.AnExpression e es) = count es + 1

-- `||` outside a test, behind its left operand
unfoldable pub without_or : plain.Conjunctions → Typed → Check Typed
without_or plain.NoConjunction e = Ok e
without_or (plain.AConjunction conjunction at others) e = fault OutsideTest at

-- `&&` outside a test, behind its left operand
unfoldable pub without_and : plain.Negations → Typed → Check Typed
without_and plain.NoNegation e = Ok e
without_and (plain.ANegation negation at others) e = fault OutsideTest at

-- ---- how an expression is made of its parts

abbrev pub number : core.Expr → Typed
number e = record { expr = e; kind = kind.Int }

abbrev pub truth : Truth → Typed
truth value = record { expr = core.Bool value; kind = kind.Bool }

abbrev pub compare : Rel → (left right : core.Expr) → Typed
compare rel left right = record { expr = core.Compare rel left right; kind = kind.Bool }

abbrev pub cell : (array index : core.Expr) (at : ℕ) → Kind → Typed
cell array index at k = record { expr = core.Index array index at; kind = k }

abbrev pub call : (fun : ℕ) (args : List core.Expr) (at : ℕ) → Kind → Typed
call fun args at k = record { expr = core.Call fun (to_exprs args) at; kind = k }

abbrev pub tuple : (ty : ℕ) (args : List core.Expr) (at : ℕ) → Typed
tuple ty args at = record { expr = core.Make ty (to_exprs args) at; kind = kind.Named ty }

abbrev pub new_array : (ty : ℕ) (len fill : core.Expr) (at : ℕ) → Typed
new_array ty len fill at = record { expr = core.New ty len fill at; kind = kind.Array ty }

-- the operators with their right operands, in order
abbrev pub Link : Type 0
Link = Op × core.Expr × ℕ

-- a chain of operators behind its first operand, which stands at this place; or the operand alone, where no operator follows
abbrev pub chain : Truth → ℕ → Typed → Check (List Link) → Check Typed
chain false at first rest = Ok first
chain true at first rest = do
  a ← asked kind.Int at first
  links ← rest
  Ok (number (core.Chain a (to_links links)))

-- an expression of kind bool, which stands at this place
abbrev pub leaf : ℕ → Check Typed → Check core.Test
leaf at typed = do
  e ← typed
  a ← asked kind.Bool at e
  Ok (core.Leaf a)

-- the first part alone, or all parts, where there are more
abbrev pub any_test : Truth → core.Test → Check (List core.Test) → Check core.Test
any_test false first all = Ok first
any_test true first all = do
  parts ← all
  Ok (core.Any (to_tests parts))

abbrev pub all_test : Truth → core.Test → Check (List core.Test) → Check core.Test
all_test false first all = Ok first
all_test true first all = do
  parts ← all
  Ok (core.All (to_tests parts))

-- ---- expressions outside tests

module _ (globals : Globals) (locals : Locals) where
  unfoldable mutual
    pub expression : plain.Expression → Check Typed
    expression (plain.ExpressionOf first rest at) = do
      e ← conjunction first
      without_or rest e

    pub conjunction : plain.Conjunction → Check Typed
    conjunction (plain.ConjunctionOf first rest at) = do
      e ← negation first
      without_and rest e

    pub negation : plain.Negation → Check Typed
    negation (plain.NegationOf true operand at) = fault OutsideTest at
    negation (plain.NegationOf false operand at) = comparison operand

    pub comparison : plain.Comparison → Check Typed
    comparison (plain.ComparisonOf left right at) = do
      e ← sum left
      compared right at e

    -- behind a left side that stands at this place
    pub compared : plain.Comparand → ℕ → Typed → Check Typed
    compared plain.NoComparand at left = Ok left
    compared (plain.AComparand rel right) at left = do
      a ← asked kind.Int at left
      e ← sum right
      b ← asked kind.Int (sum_at right) e
      Ok (compare rel a b)

    pub sum : plain.Sum → Check Typed
    sum (plain.SumOf first rest at) = do
      e ← product first
      chain (has_addend rest) at e (addends rest [])

    -- links behind those that were read
    pub addends : plain.Addends → List Link → Check (List Link)
    addends plain.NoAddend links = Ok links
    addends (plain.AnAddend op p operator_at others) links = do
      e ← product p
      a ← asked kind.Int (product_at p) e
      addends others (links ++ ((op, a, operator_at) ∷ []))

    pub product : plain.Product → Check Typed
    product (plain.ProductOf first rest at) = do
      e ← unary first
      chain (has_factor rest) at e (factors rest [])

    pub factors : plain.Factors → List Link → Check (List Link)
    factors plain.NoFactor links = Ok links
    factors (plain.AFactor op u operator_at others) links = do
      e ← unary u
      a ← asked kind.Int (unary_at u) e
      factors others (links ++ ((op, a, operator_at) ∷ []))

    pub unary : plain.Unary → Check Typed
    unary (plain.UnaryOf false operand at) = postfix operand
    unary (plain.UnaryOf true operand at) = do
      e ← postfix operand
      a ← asked kind.Int (postfix_at operand) e
      Ok (number (core.Neg a))

    pub postfix : plain.Postfix → Check Typed
    postfix (plain.PostfixOf p indices at) = do
      e ← primary p
      indexed indices at e

    -- the indices behind an array that stands at this place
    pub indexed : plain.Indices → ℕ → Typed → Check Typed
    indexed plain.NoIndex at array = Ok array
    indexed (plain.AnIndex index bracket_at others) at array = do
      element ← asked_array at array.kind
      e ← expression index
      i ← asked kind.Int (expression_at index) e
      indexed others at (cell array.expr i bracket_at (element_kind globals.packings element))

    pub primary : plain.Primary → Check Typed
    primary (plain.Number n at) = Ok (number (core.Int n))
    primary (plain.Boolean value at) = Ok (truth value)
    primary (plain.Variable name) = variable locals name
    primary (plain.Call f given) = do
      (callee, h) ← called globals f (count given)
      args ← arguments given h.params 0 []
      Ok (call callee args f.at h.given.kind)
    primary (plain.Make name given) = do
      ty ← made globals name (count given)
      args ← arguments given (parts_of globals.packings ty) 0 []
      Ok (tuple ty args name.at)
    primary (plain.Length array at) = do
      e ← expression array
      element ← asked_array (expression_at array) e.kind
      Ok (number (core.Len e.expr))
    primary (plain.New element size fill at) = do
      ty ← element_number globals.types element
      e ← expression size
      len ← asked kind.Int (expression_at size) e
      x ← expression fill
      value ← asked (element_kind globals.packings ty) (expression_at fill) x
      Ok (new_array ty len value at)
    primary (plain.Group e at) = expression e

    -- arguments from a place on, of the kinds of these types, after those that were read
    pub arguments : plain.Expressions → List CoreTy → ℕ → List core.Expr → Check (List core.Expr)
    arguments plain.NoExpression types place args = Ok args
    arguments (plain.AnExpression given others) types place args = do
      e ← expression given
      a ← asked (kind_at types place) (expression_at given) e
      arguments others types (place + 1) (args ++ (a ∷ []))

  -- ---- tests

  unfoldable mutual
    pub expression_test : plain.Expression → Check core.Test
    expression_test (plain.ExpressionOf first rest at) = do
      t ← conjunction_test first
      any_test (has_conjunction rest) t (any_tests rest (t ∷ []))

    -- the parts behind `||`, after those that were read
    pub any_tests : plain.Conjunctions → List core.Test → Check (List core.Test)
    any_tests plain.NoConjunction parts = Ok parts
    any_tests (plain.AConjunction part at others) parts = do
      t ← conjunction_test part
      any_tests others (parts ++ (t ∷ []))

    pub conjunction_test : plain.Conjunction → Check core.Test
    conjunction_test (plain.ConjunctionOf first rest at) = do
      t ← negation_test first
      all_test (has_negation rest) t (all_tests rest (t ∷ []))

    -- the parts behind `&&`, after those that were read
    pub all_tests : plain.Negations → List core.Test → Check (List core.Test)
    all_tests plain.NoNegation parts = Ok parts
    all_tests (plain.ANegation part at others) parts = do
      t ← negation_test part
      all_tests others (parts ++ (t ∷ []))

    pub negation_test : plain.Negation → Check core.Test
    negation_test (plain.NegationOf false operand at) = comparison_test operand
    negation_test (plain.NegationOf true operand at) = do
      t ← comparison_test operand
      Ok (core.Not t)

    -- Parentheses around a test belong to the test. All else is a leaf, whose parts are outside the test.
    pub comparison_test : plain.Comparison → Check core.Test
    comparison_test (plain.ComparisonOf (plain.SumOf (plain.ProductOf (plain.UnaryOf negative (plain.PostfixOf p indices p_at) u_at) factors f_at) addends s_at) right at) =
        let it : plain.Comparison = plain.ComparisonOf (plain.SumOf (plain.ProductOf (plain.UnaryOf negative (plain.PostfixOf p indices p_at) u_at) factors f_at) addends s_at) right at in
        cond (is_compound it) (leaf at (comparison it)) (primary_test p)

    pub primary_test : plain.Primary → Check core.Test
    primary_test (plain.Group e at) = expression_test e
    primary_test p = leaf (primary_at p) (primary p)
