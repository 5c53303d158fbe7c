-- The core of a source's tree, or its first fault.
--
-- The walk: names of types; bodies of types; headers of functions; main; bodies of functions. Each part is finished before the next begins.
use Rattle.std.specs.Prelude.{ℕ, List, [], ◌∷◌, ◌++◌, map, zip, Ok, if◌then◌else◌}
use Rattle.xanadu_tree.specs.declared.types.Kind.{Kind}
use Rattle.xanadu_tree.specs.Plain as core
use Rattle.xanadu_tree.specs.PlainOf.{to_stmts}
use Rattle.xanadu_tree.specs.PlainTree as plain
use Rattle.type_shapes.specs.declared.error.ShapeKind.TheVariants.{Completes}
use Rattle.type_shapes.specs.Faults.{Check, fault, ◌>>=◌}
use Rattle.type_shapes.specs.Headers.{Header, no_functions, type_names, packings, headers, parameter_names, quantifier_names, main_number}
use Rattle.type_shapes.specs.Kinds.{kind_of}
use Rattle.type_shapes.specs.Names.{no_types}
use Rattle.expression_shapes.specs.Sites.{Globals, Locals}
use Rattle.scope_shapes.specs.Statements.{block}

-- ---- where a body begins

abbrev pub no_locals : Locals
no_locals = record { variables = []; kinds = []; indices = []; next = 0 }

-- what is visible behind the parameters and the quantifier of a function, and what was visible already
unfoldable pub entered : Header → Locals → Locals
entered h locals = record {
  variables = parameter_names h.declaration.parameters 0 locals.variables;
  kinds = locals.kinds ++ map kind_of h.params;
  indices = quantifier_names h.declaration.quantifier locals.indices;
  next = h.quant.count;
}

-- ---- bodies

-- the kinds of a function's variables, and its statements
pub record Inner : Type 0 where
  pub kinds : List Kind
  pub stmts : List core.Stmt

-- the statements of a function, whose body does not complete, and what is visible at its end
unfoldable pub inner_in : Globals → Header → Locals → Check (List core.Stmt × Locals)
inner_in globals h outer = do
  (body, locals) ← block globals h.given.kind h.declaration.body (entered h outer)
  if body.completes then fault Completes h.declaration.at else Ok (body.stmts, locals)

unfoldable pub inner : Globals → Header → Check Inner
inner globals h = do
  (stmts, locals) ← inner_in globals h no_locals
  Ok (record { kinds = locals.kinds; stmts = stmts })

-- the bodies of functions, after those that were read
unfoldable pub inners : Globals → List Header → List Inner → Check (List Inner)
inners globals [] made = Ok made
inners globals (h ∷ hs) made = do
  one ← inner globals h
  inners globals hs (made ++ (one ∷ []))

-- ---- the whole

unfoldable pub fun : Header → Inner → core.Fun
fun h b = record {
  name = h.declaration.name.name;
  quant = h.quant;
  params = h.params;
  result_quant = h.given.quant;
  result = h.given.ty;
  kinds = b.kinds;
  body = to_stmts b.stmts;
  at = h.declaration.at;
}

abbrev pub fun_of : Header × Inner → core.Fun
fun_of p = fun p.0 p.1

-- the functions, each of its header and its body
unfoldable pub funs : List Header → List Inner → List core.Fun
funs headers bodies = map fun_of (zip headers bodies)

abbrev pub no_globals : Globals
no_globals = record { types = no_types; packings = []; functions = no_functions }

-- what is declared in the program, behind what was read
unfoldable pub globals : plain.Tree → Globals → Check Globals
globals tree before = do
  types ← type_names tree.declarations before.types
  declared ← packings types tree.declarations before.packings
  functions ← headers types tree.declarations before.functions
  Ok (record { types = types; packings = declared; functions = functions })

-- the number of main, the bodies of the functions, and what is declared, each behind what was read
unfoldable pub walked : plain.Tree → (end : ℕ) → Globals → List Inner → Check (ℕ × List Inner × Globals)
walked tree end before made = do
  program ← globals tree before
  main ← main_number program.functions end
  bodies ← inners program program.functions.headers made
  Ok (main, bodies, program)

abbrev pub finished : Globals → List Inner → (main : ℕ) → core.Program
finished program bodies main = record { types = program.packings; funs = funs program.functions.headers bodies; main = main }

-- The end of the source is the place of the fault that there is no `main`.
unfoldable pub shape : plain.Tree → (end : ℕ) → Check core.Program
shape tree end = do
  (main, bodies, program) ← walked tree end no_globals []
  Ok (finished program bodies main)
