-- A run of a source as it stands, and what its parts answer: a value and the run behind it, or an end.
use Rattle.std.specs.Prelude.{ℕ, zero, suc, ℤ, Bool, List, [], ◌∷◌, ◌++◌, Option, Result, Ok, Err}
use Rattle.xan_io.specs.Outcome.{How, Stuck, Running}
use Rattle.operation_rules.specs.Effects.{Effect, Writes, Prints, Takes, Ends}
use Rattle.typed_core.specs.SourceValues.{Tag, Value, Blocks, with_tags}

-- The log is whatever is recorded of the statements that were reached.
pub record Run (L : Type 0) : Type 0 where
  -- of fuel, that are left
  pub units : ℕ
  pub store : Blocks
  pub printed : List ℤ
  pub log : L

pub record End (L : Type 0) : Type 0 where
  pub how : How
  pub run : Run L

abbrev pub Answer : Type 0 → Type 0 → Type 0
Answer L A = Result (A × Run L) (End L)

-- the variables of a function by number, from the start on; one to which nothing was assigned has no value
abbrev pub Env : Type 0
Env = List (Option Value)

-- Where a statement stands in a function, innermost first: its number in its block, and then, for each statement around it, in which block
-- of that it stands, 0 or 1, and that one's number.
abbrev pub Place : Type 0
Place = List ℕ

-- what is recorded as a statement of a function is reached
abbrev pub Recorder : Type 0 → Type 0
Recorder L = (fun : ℕ) → Place → Env → Blocks → L → L

-- what a call does, after its arguments
abbrev pub Calls : Type 0 → Type 0
Calls L = (fun : ℕ) → List Value → Run L → Answer L Value

-- what a statement leaves: it completes with the variables so, or the function returns
pub data Flow : Type 0 where
  Next : Env → Flow
  Gives : Value → Flow

module _ {L : Type 0} where
  abbrev pub ends : {A : Type 0} → How → Run L → Answer L A
  ends how st = Err (record { how = how; run = st })

  abbrev pub stuck : {A : Type 0} → Run L → Answer L A
  stuck st = ends Stuck st

  -- one unit is taken
  abbrev pub units_taken : ℕ → Run L → Answer L (Unit {0})
  units_taken zero st = ends Running st
  units_taken (suc units) st = Ok (tt, record st { units = units })

  unfoldable pub spent : Run L → Answer L (Unit {0})
  spent st = units_taken st.units st

  -- ---- what the effect of an operation makes of a run

  -- a value of this tag
  abbrev pub one_of : Tag → Run L → Effect Blocks → Answer L Value
  one_of tag st (Writes (word ∷ []) store) = Ok (record { tag = tag; word = word }, record st { store = store })
  one_of tag st (Ends how) = ends how st
  one_of tag st _ = stuck st

  -- values of these tags
  abbrev pub all_of : List Tag → Run L → Effect Blocks → Answer L (List Value)
  all_of tags st (Writes words store) = Ok (with_tags tags words, record st { store = store })
  all_of tags st (Ends how) = ends how st
  all_of tags st _ = stuck st

  -- whether it goes elsewhere
  abbrev pub taken : Run L → Effect Blocks → Answer L Bool
  taken st (Takes elsewhere) = Ok (elsewhere, st)
  taken st (Ends how) = ends how st
  taken st _ = stuck st

  -- a number printed
  abbrev pub put : Run L → Effect Blocks → Answer L (Unit {0})
  put st (Prints n) = Ok (tt, record st { printed = st.printed ++ n ∷ [] })
  put st (Ends how) = ends how st
  put st _ = stuck st
