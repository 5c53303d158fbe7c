-- Demanded rows, each with the place whose index demands it, and what proves them.
use Rattle.std.specs.Prelude.{◌≡◌, ℕ, true, false, List, [], ◌∷◌, ◌++◌, map, Option, Some, None, Ok}
use Rattle.index_sorts.specs.Context.{IndexContext}
use Rattle.index_sorts.specs.Known.{knows}
use Rattle.proof_lines.specs.Lines.{LinesProve}
use Rattle.xan_lin.specs.Linear.{Linear}
use Rattle.state_types.specs.Answers.{Check, ◌>>=◌}
use Rattle.state_types.specs.Matching.{pair_at, index_rows, own_rows}
use Rattle.state_types.specs.Types.{index_of}
use Rattle.state_types.specs.declared.state.StateType.{StateType}
use Rattle.state_types.specs.declared.types.Ty.{Ty}
use Rattle.three_address.specs.declared.typed.ProvedRow.{ProvedRow}

pub record Demand : Type 0 where
  -- none for a row of a label, and for one of an operation that goes on
  pub place : Option ℕ
  pub row : Linear

abbrev pub demands_of : Option ℕ → List Linear → List Demand
demands_of place rows = map (λ row. record { place = place; row = row }) rows

-- ---- what a label demands on a way to it, where the listed variables have these values

-- the rows of a place of the label
unfoldable pub place_demands : StateType → List (ℕ × Linear) → ℕ × Ty → Check (List Demand)
place_demands state values wanted = do
  pair ← pair_at state.places wanted
  rows ← index_rows values state.ctx.vars (index_of pair.wanted) (index_of pair.present) []
  Ok (demands_of (Some wanted.0) rows)

unfoldable pub places_demands : StateType → List (ℕ × Linear) → List (ℕ × Ty) → Check (List Demand)
places_demands state values [] = Ok []
places_demands state values (wanted ∷ later) = do
  first ← place_demands state values wanted
  others ← places_demands state values later
  Ok (first ++ others)

-- place by place, and then the label's rows
unfoldable pub label_demands : StateType → (target : StateType) → List (ℕ × Linear) → Check (List Demand)
label_demands state target values = do
  places ← places_demands state values target.places
  rows ← own_rows values state.ctx.vars target.ctx.rows []
  Ok (places ++ demands_of None rows)

-- ---- what proves them

-- lines prove the row, and it is listed for this place
pub record Proves (ctx : IndexContext) (demand : Demand) (by : ProvedRow) : Type 0 where
  pub place : by.place ≡ demand.place
  pub row : by.row ≡ demand.row
  pub lines : LinesProve ctx.rows demand.row by.lines

-- each demanded row is known, or one of the listed proofs is that row's, in order
pub data AreProved (ctx : IndexContext) : List Demand → List ProvedRow → Type 0 where
  AllProved : AreProved ctx [] []
  IsKnown : (demand : Demand) (demands : List Demand) (bys : List ProvedRow)
      → knows ctx demand.row ≡ true → AreProved ctx demands bys → AreProved ctx (demand ∷ demands) bys
  HasLines : (demand : Demand) (by : ProvedRow) (demands : List Demand) (bys : List ProvedRow)
      → knows ctx demand.row ≡ false → Proves ctx demand by → AreProved ctx demands bys → AreProved ctx (demand ∷ demands) (by ∷ bys)
