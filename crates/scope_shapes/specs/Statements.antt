-- Clauses, statements and blocks.
use Rattle.std.specs.Prelude.{ℕ, Bool as Truth, true, false, ◌||◌, List, [], ◌∷◌, ◌++◌, length, Option, Some, None, Ok, is_some, if◌then◌else◌}
use Rattle.std.specs.BTreeSet.{insert_key}
use Rattle.std.specs.Ordering.{nat_cmp}
use Rattle.xanadu_tree.specs.declared.stmt.Clause.{Clause}
use Rattle.xanadu_tree.specs.declared.tree.declaration.Identifier.{Identifier}
use Rattle.xanadu_tree.specs.declared.types.CoreTy.{CoreTy}
use Rattle.xanadu_tree.specs.declared.types.Kind.{Kind}
use Rattle.xanadu_tree.specs.declared.types.Kind.TheVariants as kind
use Rattle.xanadu_tree.specs.Plain as core
use Rattle.xanadu_tree.specs.PlainOf.{to_stmts}
use Rattle.xanadu_tree.specs.PlainTree as plain
use Rattle.xanadu_tree.specs.Written.{expression_at, type_at}
use Rattle.type_shapes.specs.declared.error.ShapeKind.TheVariants.{NamedTwice, OtherKind, Unreachable}
use Rattle.expression_shapes.specs.Expressions.{expression, indexed, primary, expression_test}
use Rattle.type_shapes.specs.Faults.{Check, fault, ◌>>=◌}
use Rattle.type_shapes.specs.Kinds.{kind_of, same_kind, kind_at, parts_of}
use Rattle.type_shapes.specs.Names.{meaning, or_unknown, Types}
use Rattle.type_shapes.specs.Quantifiers.{Frame, opened, closed, type_in, is_index}
use Rattle.expression_shapes.specs.Sites.{Globals, Locals, variable, variable_kind, declared, new_variable, behind_block, asked, asked_tuple, asked_value, counted}

-- ---- clauses

abbrev pub matching : Kind → ℕ → CoreTy → Check CoreTy
matching wanted at t = if same_kind (kind_of t) wanted then Ok t else fault OtherKind at

-- One variable of a clause with its type, which is of the variable's kind; those that the clause named before are listed, rising.
unfoldable pub clause_variable : Types → Locals → plain.Parameter → List ℕ → Frame → Check ((ℕ × CoreTy) × Frame)
clause_variable types locals p named frame = do
  number ← or_unknown p.name.at (meaning p.name.name locals.variables)
  if is_index number named then fault NamedTwice p.name.at else do
    (t, more) ← type_in types locals.indices p.ty frame
    it ← matching (variable_kind locals.kinds number) (type_at p.ty) t
    Ok ((number, it), more)

-- the variables of a clause, after those that were read
unfoldable pub clause_variables : Types → Locals → List plain.Parameter → List ℕ → List (ℕ × CoreTy) → Frame → Check (List (ℕ × CoreTy) × Frame)
clause_variables types locals [] named vars frame = Ok (vars, frame)
clause_variables types locals (p ∷ ps) named vars frame = do
  (one, more) ← clause_variable types locals p named frame
  clause_variables types locals ps (insert_key nat_cmp named one.0) (vars ++ (one ∷ [])) more

-- A clause. Its names reach what follows it.
unfoldable pub clause : Types → plain.WrittenClause → Locals → Check (Clause × Locals)
clause types c locals = do
  (frame, scope) ← opened c.quantifier locals.next locals.indices
  (vars, more) ← clause_variables types (record locals { indices = scope }) c.variables [] [] frame
  q ← closed c.quantifier more
  Ok (record { first = locals.next; quant = q; vars = vars }, record locals { indices = scope; next = more.next })

unfoldable pub clause_or_none : Types → Option plain.WrittenClause → Locals → Check (Option Clause × Locals)
clause_or_none types None locals = Ok (None, locals)
clause_or_none types (Some c) locals = do
  (it, more) ← clause types c locals
  Ok (Some it, more)

-- ---- statements without blocks

-- a statement, and whether it completes
pub record Done : Type 0 where
  pub stmt : core.Stmt
  pub completes : Truth

abbrev pub goes_on : core.Stmt → Done
goes_on s = record { stmt = s; completes = true }

abbrev pub ends : core.Stmt → Done
ends s = record { stmt = s; completes = false }

-- the name is visible behind its right side alone
unfoldable pub declare : Globals → Identifier → plain.Expression → Locals → Check (Done × Locals)
declare globals name value locals =
    if is_some (meaning name.name locals.variables) then fault NamedTwice name.at else do
      e ← expression globals locals value
      k ← asked_value (expression_at value) e.kind
      let new = declared name k locals
      Ok (goes_on (core.Set new.0 e.expr), new.1)

-- names for the parts, after those that were declared
unfoldable pub split_names : List Identifier → List CoreTy → List ℕ → Locals → Check (List ℕ × Locals)
split_names [] parts numbers locals = Ok (numbers, locals)
split_names (name ∷ names) parts numbers locals = do
  (number, more) ← new_variable name (kind_at parts (length numbers)) locals
  split_names names parts (numbers ++ (number ∷ [])) more

-- the parts of the tuple type, where there are so many
abbrev pub parts_for : Globals → ℕ → (names at : ℕ) → Check (List CoreTy)
parts_for globals ty names at = counted at (length (parts_of globals.packings ty)) names (parts_of globals.packings ty)

unfoldable pub split : Globals → List Identifier → plain.Expression → ℕ → Locals → Check (Done × Locals)
split globals names value at locals = do
  e ← expression globals locals value
  ty ← asked_tuple (expression_at value) e.kind
  parts ← parts_for globals ty (length names) at
  (numbers, more) ← split_names names parts [] locals
  Ok (goes_on (core.Split numbers e.expr at), more)

-- a value written to what the left side reads: a variable, or a cell
abbrev pub stored : core.Expr → core.Expr → core.Stmt
stored (core.Var number) value = core.Set number value
stored (core.Index array index at) value = core.Store array index value at
stored _ value = core.Do value

unfoldable pub assign : Globals → Locals → Identifier → plain.Indices → plain.Expression → Check Done
assign globals locals target indices value = do
  v ← variable locals target
  place ← indexed globals locals indices target.at v
  e ← expression globals locals value
  a ← asked place.kind (expression_at value) e
  Ok (goes_on (stored place.expr a))

-- A call stands as a statement whatever it gives.
unfoldable pub called : Globals → Locals → Identifier → plain.Expressions → Check Done
called globals locals f arguments = do
  e ← primary globals locals (plain.Call f arguments)
  Ok (goes_on (core.Do e.expr))

unfoldable pub printed : Globals → Locals → plain.Expression → Check Done
printed globals locals value = do
  e ← expression globals locals value
  a ← asked kind.Int (expression_at value) e
  Ok (goes_on (core.Print a))

-- A function without a value returns none, and one with a value returns one of its kind.
unfoldable pub return_none : Kind → ℕ → Check Done
return_none kind.Unit at = Ok (ends (core.Return None at))
return_none _ at = fault OtherKind at

unfoldable pub return_value : Globals → Kind → Locals → plain.Expression → ℕ → Check Done
return_value globals given locals value at = do
  k ← asked_value at given
  e ← expression globals locals value
  a ← asked given (expression_at value) e
  Ok (ends (core.Return (Some a) at))

unfoldable pub returned : Globals → Kind → Locals → Option plain.Expression → ℕ → Check Done
returned globals given locals None at = return_none given at
returned globals given locals (Some value) at = return_value globals given locals value at

-- ---- blocks

abbrev pub statement_at : plain.Statement → ℕ
statement_at (plain.Declare name value at) = at
statement_at (plain.Split names value at) = at
statement_at (plain.Assign target indices value) = target.at
statement_at (plain.Do function arguments) = function.at
statement_at (plain.Print value at) = at
statement_at (plain.If t on_true on_false join at) = at
statement_at (plain.While t head body at) = at
statement_at (plain.Return value at) = at

-- the statements of a block, and whether it completes
pub record Body : Type 0 where
  pub stmts : List core.Stmt
  pub completes : Truth

-- no statement
abbrev pub empty : Body
empty = record { stmts = []; completes = true }

abbrev pub and_then : Body → Done → Body
and_then body done = record { stmts = body.stmts ++ (done.stmt ∷ []); completes = done.completes }

abbrev unchanged : Locals → Check Done → Check (Done × Locals)
unchanged locals checked = do
  done ← checked
  Ok (done, locals)

abbrev pub choice : core.Test → (yes_body no_body : Body) → Option Clause → ℕ → Done
choice it yes_body no_body c at = record { stmt = core.If it (to_stmts yes_body.stmts) (to_stmts no_body.stmts) c at; completes = yes_body.completes || no_body.completes }

abbrev pub loop : core.Test → Option Clause → Body → ℕ → Done
loop it c turn at = goes_on (core.While it c (to_stmts turn.stmts) at)

module _ (globals : Globals) (given : Kind) where
  unfoldable mutual
    pub statement : plain.Statement → Locals → Check (Done × Locals)
    statement (plain.Declare name value at) locals = declare globals name value locals
    statement (plain.Split names value at) locals = split globals names value at locals
    statement (plain.Assign target indices value) locals = unchanged locals (assign globals locals target indices value)
    statement (plain.Do f arguments) locals = unchanged locals (called globals locals f arguments)
    statement (plain.Print value at) locals = unchanged locals (printed globals locals value)
    statement (plain.If t on_true on_false join at) locals = do
      it ← expression_test globals locals t
      (yes_body, behind_yes) ← block on_true locals
      (no_body, behind_no) ← branch on_false behind_yes
      (c, more) ← clause_or_none globals.types join behind_no
      Ok (choice it yes_body no_body c at, more)
    statement (plain.While t head body at) locals = do
      it ← expression_test globals locals t
      (c, inside) ← clause_or_none globals.types head locals
      (turn, more) ← block body inside
      Ok (loop it c turn at, more)
    statement (plain.Return value at) locals = unchanged locals (returned globals given locals value at)

    -- a branch that is not written has no statement
    pub branch : plain.Branch → Locals → Check (Body × Locals)
    branch plain.NoBranch locals = Ok (empty, locals)
    branch (plain.ABranch b) locals = block b locals

    -- the names of a block are gone behind it
    pub block : plain.Block → Locals → Check (Body × Locals)
    block (plain.BlockOf ss at) locals = do
      (body, inner) ← statements ss empty locals
      Ok (body, behind_block locals inner)

    -- statements behind those that were read
    pub statements : plain.Statements → Body → Locals → Check (Body × Locals)
    statements plain.NoStatement body locals = Ok (body, locals)
    statements (plain.AStatement s ss) body locals =
        if body.completes then (do
          (done, more) ← statement s locals
          statements ss (and_then body done) more)
        else fault Unreachable (statement_at s)
