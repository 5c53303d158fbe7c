-- Unpacking: the variables of a closed type become fresh ones of a context.
use Rattle.std.specs.Prelude.{◌≡◌, ℕ, ◌+◌, List, [], ◌∷◌, map, take, ◌⊎◌, Result, Ok}
use Rattle.index_sorts.specs.Context.{IndexContext, fresh_from, with_variables}
use Rattle.index_sorts.specs.Known.{with_row}
use Rattle.index_sorts.specs.declared.error.ContextError.{ContextError}
use Rattle.xan_lin.specs.Linear.{Linear}
use Rattle.xan_lin.specs.declared.term.Term.{Term}
use Rattle.state_types.specs.Answers.{◌>>=◌}
use Rattle.state_types.specs.declared.closed.Packed.{Packed}
use Rattle.state_types.specs.declared.types.Ty.{Ty}
use Rattle.state_types.specs.declared.types.Ty.TheVariants.{Int, Bool, Array, Named}

-- variable 0 becomes `first`, and so on
abbrev pub shifted_term : ℕ → Term → Term
shifted_term first t = record { var = first + t.var; coef = t.coef }

abbrev pub shifted : ℕ → Linear → Linear
shifted first form = record { terms = map (shifted_term first) form.terms; constant = form.constant }

abbrev pub shifted_type : ℕ → Ty → Ty
shifted_type first (Int e) = Int (shifted first e)
shifted_type first Bool = Bool
shifted_type first (Array p e) = Array p (shifted first e)
shifted_type first (Named p) = Named p

-- the context with rows added in order
unfoldable pub with_rows : IndexContext → List Linear → Result IndexContext ContextError
with_rows ctx [] = Ok ctx
with_rows ctx (row ∷ rows) = do
  more ← with_row ctx row
  with_rows more rows

-- the context with the type's variables and rows, and the parts
unfoldable pub unpacked : IndexContext → Packed → Result (IndexContext × List Ty) ContextError
unpacked ctx packed = do
  first ← fresh_from ctx packed.vars
  more ← with_rows (with_variables ctx packed.vars) (map (shifted first) packed.rows)
  Ok (more, map (shifted_type first) packed.parts)

-- some first ones of the rows were added
pub record HasSome (ctx : IndexContext) (rows : List Linear) (left : IndexContext) : Type 0 where
  pub count : ℕ
  pub is : with_rows ctx (take count rows) ≡ Ok left

-- what a refusal may leave: the context, or the context with the variables and some first rows
abbrev pub IsLeft : IndexContext → Packed → IndexContext → Type 0
IsLeft ctx packed left = (left ≡ ctx) ⊎ HasSome (with_variables ctx packed.vars) (map (shifted ctx.vars) packed.rows) left
