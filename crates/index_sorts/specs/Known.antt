-- The rows that a context knows: those that hold in any case, and those that it lists.
use Rattle.std.specs.Prelude.{◌≡◌, pos, ◌≤ℤ◌, Bool, true, false, ◌&&◌, ◌||◌, ◌⊎◌, List, [], ◌∷◌, ◌++◌, length, int_le, nat_le, Result, Ok, Err, if◌then◌else◌}
use Rattle.std.specs.List.{Contains, list_any}
use Rattle.xan_lin.specs.Linear.{Linear}
pub use Rattle.xan_lin.specs.Same.{same_term, same_form}
use Rattle.xan_lin.specs.declared.term.Term.{Term}
use Rattle.index_sorts.specs.Context.{IndexContext}
use Rattle.index_sorts.specs.declared.error.ContextError.{ContextError}
use Rattle.index_sorts.specs.declared.error.ContextError.TheVariants.{Rows}

-- a row is known where it has no variable and its constant is at least 0, or where it is listed
abbrev pub IsKnown : IndexContext → Linear → Type 0
IsKnown context row = ((row.terms ≡ []) × (pos 0 ≤ℤ row.constant)) ⊎ Contains context.rows row

-- ---- the same as a test

abbrev pub no_terms : List Term → Bool
no_terms [] = true
no_terms (t ∷ ts) = false

-- the row has no variable and its constant is at least 0
abbrev pub holds_always : Linear → Bool
holds_always row = no_terms row.terms && int_le (pos 0) row.constant

unfoldable pub knows : IndexContext → Linear → Bool
knows context row = holds_always row || list_any (same_form row) context.rows

-- the context with one more row behind the others, unless it is known; at most 512 stand
unfoldable pub with_row : IndexContext → Linear → Result IndexContext ContextError
with_row context row =
    if knows context row then Ok context
    else if nat_le 512 (length context.rows) then Err Rows
    else Ok (record context { rows = context.rows ++ row ∷ [] })
