-- What expressions come to. Operands are evaluated from left to right, and then the construct acts; a value of a wrong tag is stuck.
use Rattle.std.specs.Prelude.{ℕ, pos, Bool, true, false, List, [], ◌∷◌, slice_get, Option, Some, Ok}
use Rattle.xan_seq.specs.Answers.{◌>>=◌}
use Rattle.operation_rules.specs.Effects.{Effect, effect}
use Rattle.operation_rules.specs.declared.operation.Operation.TheVariants as operation
use Rattle.operation_rules.specs.declared.operation.Operation.{Operation}
use Rattle.xanadu_tree.specs.declared.expr.Op.{Op}
use Rattle.xanadu_tree.specs.declared.expr.Op.TheVariants as op
use Rattle.xanadu_tree.specs.declared.expr.Rel.{Rel}
use Rattle.xanadu_tree.specs.declared.expr.Rel.TheVariants as rel
use Rattle.xanadu_tree.specs.Plain as core
use Rattle.typed_core.specs.Operators.{operation_of}
use Rattle.typed_core.specs.SourceValues.{Tag, Number, Truth, Array, Tuple, Value, Blocks, number, words_of, have_tags, tag_at, separate, cell_tag}
use Rattle.typed_core.specs.SourceRuns.{Run, Answer, Env, Calls, stuck, one_of}

-- where no block is made
abbrev pub no_cells : ℕ → Tag
no_cells n = Number

module _ {L : Type 0} where
  -- ---- an operation on values

  -- Its effect on values of these tags; a new block's cells have the tags that are given for them.
  abbrev pub acts : (cells : ℕ → Tag) → Operation → List Value → Run L → Effect Blocks
  acts cells o values st = effect (separate cells) o (words_of values) st.store

  abbrev pub value_if : (fit : Bool) → (cells : ℕ → Tag) → Operation → (gives : Tag) → List Value → Run L → Answer L Value
  value_if true cells o gives values st = one_of gives st (acts cells o values st)
  value_if false cells o gives values st = stuck st

  -- from values of these tags a value
  unfoldable pub value_by : Operation → (wants : List Tag) → (gives : Tag) → List Value → Run L → Answer L Value
  value_by o wants gives values st = value_if (have_tags values wants) no_cells o gives values st

  -- ---- constructs, after their operands

  abbrev pub read : Option (Option Value) → Run L → Answer L Value
  read (Some (Some v)) st = Ok (v, st)
  read _ st = stuck st

  abbrev pub arithmetic : Op → Value → Value → Run L → Answer L Value
  arithmetic o a b st = value_by (operation_of o) (Number ∷ Number ∷ []) Number (a ∷ b ∷ []) st

  abbrev pub compared : (comparison : ℕ) → Value → Value → Run L → Answer L Value
  compared comparison a b st = value_by (operation.Compare comparison) (Number ∷ Number ∷ []) Truth (a ∷ b ∷ []) st

  -- `a > b` is `b < a`, and `a >= b` is `b <= a`
  abbrev pub related : Rel → Value → Value → Run L → Answer L Value
  related rel.Lt a b st = compared 0 a b st
  related rel.Le a b st = compared 1 a b st
  related rel.Gt a b st = compared 0 b a st
  related rel.Ge a b st = compared 1 b a st
  related rel.Eq a b st = compared 2 a b st
  related rel.Ne a b st = compared 3 a b st

  -- a cell has its own tag
  abbrev pub cell_read : Value → Value → Run L → Answer L Value
  cell_read array index st = value_by operation.Load (Array ∷ Number ∷ []) (cell_tag st.store array.word index.word) (array ∷ index ∷ []) st

  abbrev pub measured : Value → Run L → Answer L Value
  measured array st = value_by operation.Length (Array ∷ []) Number (array ∷ []) st

  abbrev pub tuple_made : (ty : ℕ) → List Value → Run L → Answer L Value
  tuple_made ty parts st = one_of Tuple st (acts (tag_at parts) (operation.Tuple ty) parts st)

  -- each cell is the fill
  abbrev pub array_made : (cells : ℕ) → (len fill : Value) → Run L → Answer L Value
  array_made cells len fill st =
      value_if (have_tags (len ∷ []) (Number ∷ [])) (λ n. fill.tag) (operation.New cells) Array (len ∷ fill ∷ []) st

-- ---- expressions

module _ {L : Type 0} (call : Calls L) (env : Env) where
  unfoldable mutual
    pub value : core.Expr → Run L → Answer L Value
    value (core.Int n) st = value_by (operation.Literal n) [] Number [] st
    value (core.Bool b) st = value_by (operation.Truth b) [] Truth [] st
    value (core.Var x) st = read (slice_get env x) st
    value (core.Neg e) st = do
      (v, one) ← value e st
      arithmetic op.Sub (number (pos 0)) v one
    value (core.Chain first rest) st = do
      (left, one) ← value first st
      chained rest left one
    value (core.Compare r left right) st = do
      (a, one) ← value left st
      (b, two) ← value right one
      related r a b two
    value (core.Index array index at) st = do
      (a, one) ← value array st
      (i, two) ← value index one
      cell_read a i two
    value (core.Len array) st = do
      (a, one) ← value array st
      measured a one
    value (core.Call fun args at) st = do
      (vs, one) ← values args st
      call fun vs one
    value (core.Make ty args at) st = do
      (vs, one) ← values args st
      tuple_made ty vs one
    value (core.New ty len fill at) st = do
      (n, one) ← value len st
      (v, two) ← value fill one
      array_made ty n v two

    pub values : core.Exprs → Run L → Answer L (List Value)
    values core.NoExpr st = Ok ([], st)
    values (core.AnExpr e es) st = do
      (v, one) ← value e st
      (vs, two) ← values es one
      Ok (v ∷ vs, two)

    -- all of the chain before an operator is its left operand
    pub chained : core.Links → Value → Run L → Answer L Value
    chained core.NoLink left st = Ok (left, st)
    chained (core.ALink o e at others) left st = do
      (right, one) ← value e st
      (result, two) ← arithmetic o left right one
      chained others result two
