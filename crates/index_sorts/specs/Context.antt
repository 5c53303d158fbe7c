-- A context: how many index variables there are, and the rows that are taken to hold.
use Rattle.std.specs.Prelude.{ℕ, ◌+◌, ◌≤◌, List, [], length, nat_lt, Result, Ok, Err, if◌then◌else◌}
use Rattle.std.specs.List.{All}
pub use Rattle.xan_lin.specs.Linear.{NamesBelow}
use Rattle.xan_lin.specs.Linear.{Linear}
use Rattle.index_sorts.specs.declared.error.ContextError.{ContextError}
use Rattle.index_sorts.specs.declared.error.ContextError.TheVariants.{Variables}

-- what is seen of a context; the variables are the numbers below `vars`, and each row states that its value is at least 0
pub record IndexContext : Type 0 where
  pub vars : ℕ
  pub rows : List Linear

-- what holds of every context
pub record IsContext (context : IndexContext) : Type 0 where
  pub few_variables : context.vars ≤ 1024
  pub few_rows : length context.rows ≤ 512
  pub named : All (NamesBelow context.vars) context.rows

-- the context of so many variables and no rows
abbrev pub new_context : ℕ → Result IndexContext ContextError
new_context vars = if nat_lt 1024 vars then Err Variables else Ok (record { vars = vars; rows = [] })

-- the first of so many new variables
abbrev pub fresh_from : IndexContext → ℕ → Result ℕ ContextError
fresh_from context count = if nat_lt 1024 (context.vars + count) then Err Variables else Ok context.vars

-- the context with so many variables more
abbrev pub with_variables : IndexContext → ℕ → IndexContext
with_variables context count = record context { vars = context.vars + count }
