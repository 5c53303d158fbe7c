-- What holds where a run of a source stands: its variables, its store and an assignment of the index variables so far fit the state that
-- is elaborated there.
use Rattle.std.specs.Prelude.{◌≡◌, take, ◌≤◌, ℕ, ℤ, List, ◌++◌, length, slice_get, Some, Ok, Err, Bool, true, false}
use Rattle.std.specs.List.{All}
use Rattle.index_sorts.specs.Entails.{Entails, AllHold}
use Rattle.state_types.specs.PlaceTypes.{type_at}
use Rattle.state_types.specs.Types.{TypeBelow, same_kind}
use Rattle.state_types.specs.Words.{Headers, Keeps}
use Rattle.state_types.specs.declared.closed.Packed.{Packed}
use Rattle.state_types.specs.declared.closed.Signature.{Signature}
use Rattle.state_types.specs.declared.types.Ty.{Ty}
use Rattle.operation_rules.specs.Sound.{EndsWell}
use Rattle.xanadu_tree.specs.declared.types.CoreTy.{CoreTy}
use Rattle.typed_core.specs.declared.goal.GoalAt.{GoalAt}
use Rattle.typed_core.specs.Growth.{Continues, NamesSoFar}
use Rattle.typed_core.specs.Joins.{is_named}
use Rattle.typed_core.specs.SourceRuns.{Run, Answer, Env, Calls, Flow, Next, Gives as Returns}
use Rattle.typed_core.specs.SourceValues.{Value, Blocks}
use Rattle.typed_core.specs.States.{Site, State}
use Rattle.typed_core.specs.Tests.{Sides, on_side}
use Rattle.source_safety.specs.Values.{headers_of, HasValue, HaveValues, StoreHolds}

-- ---- before

-- each goal's row is entailed by its context
abbrev pub GoalsHold : List GoalAt → Type 0
GoalsHold goals = All (λ g. Entails g.ctx.rows g.row) goals

-- a visible variable has a value of its type
pub record VariableHolds (env : Env) (headers : Headers) (assignment : List ℤ) (entry : ℕ × Ty) : Type 0 where
  pub value : Value
  pub there : slice_get env entry.0 ≡ Some (Some value)
  pub has : HasValue headers assignment value entry.1

-- each of them
pub record VariablesHold (env : Env) (headers : Headers) (assignment : List ℤ) (types : List (ℕ × Ty)) : Type 0 where
  pub by : (x : ℕ) (t : Ty) → type_at x types ≡ Some t → VariableHolds env headers assignment (x, t)

pub record Stands (site : Site) (st : State) (env : Env) (assignment : List ℤ) (store : Blocks) : Type 0 where
  pub own : site.own.vars ≤ st.ctx.vars
  pub named : NamesSoFar st
  pub one_each : length assignment ≡ st.ctx.vars
  pub hold : AllHold assignment st.ctx.rows
  pub typed : VariablesHold env (headers_of store) assignment st.types
  pub holds : StoreHolds site.table store

-- ---- behind

-- The run stands there under an assignment that begins with the one before, and no header changed.
pub record Goes (site : Site) (more : State) (env : Env) (assignment : List ℤ) (store : Blocks) (new : Blocks) : Type 0 where
  pub given : List ℤ
  pub front : Continues assignment given
  pub stands : Stands site more env given new
  pub keeps : Keeps (headers_of store) (headers_of new)

-- and a value has its type there
pub record Gives (site : Site) (more : State) (env : Env) (assignment : List ℤ) (store : Blocks) (t : Ty) (v : Value) (new : Blocks) : Type 0 where
  pub goes : Goes site more env assignment store new
  pub has : HasValue (headers_of new) goes.given v t
  pub below : TypeBelow more.ctx.vars t

-- and values have theirs
pub record GiveAll (site : Site) (more : State) (env : Env) (assignment : List ℤ) (store : Blocks) (types : List Ty) (vs : List Value) (new : Blocks) : Type 0 where
  pub goes : Goes site more env assignment store new
  pub have : HaveValues (headers_of new) goes.given vs types
  pub below : All (TypeBelow more.ctx.vars) types

-- Where operands have their values, the first ones of a construct or of a list: the values wait while the run goes on, and keep their types.
pub record Operands (site : Site) (st : State) (env : Env) (assignment : List ℤ) (store : Blocks) (types : List Ty) (vs : List Value) : Type 0 where
  pub stands : Stands site st env assignment store
  pub have : HaveValues (headers_of store) assignment vs types
  pub below : All (TypeBelow st.ctx.vars) types

-- What is wanted of a value and the run behind it; an end is none of a run that is stuck.
abbrev pub By : {L A : Type 0} → (A → Run L → Type 0) → Answer L A → Type 0
By P (Ok done) = P done.0 done.1
By P (Err end) = EndsWell end.how

pub record Fares {L A : Type 0} (P : A → Run L → Type 0) (answer : Answer L A) : Type 0 where
  pub is : By P answer

-- ---- tests

-- where a test was so: the rows of this side hold
abbrev pub side_state : Bool → Sides → State
side_state true sides = on_side sides.on_true sides.after
side_state false sides = on_side sides.on_false sides.after

-- ---- calls

-- What a call gives has the type of the function's result, for some values of the result's own variables behind those of the signature's.
pub record Came (table : List Packed) (sig : Signature) (values : List ℤ) (store : Blocks) (v : Value) (new : Blocks) : Type 0 where
  pub own : List ℤ
  pub one_each : length own ≡ sig.result_vars
  pub hold : AllHold (values ++ own) sig.result_rows
  pub has : HasValue (headers_of new) (values ++ own) v sig.result
  pub keeps : Keeps (headers_of store) (headers_of new)
  pub holds : StoreHolds table new

-- from arguments that fit the signature, for some values of its variables
pub record CallsFare {L : Type 0} (table : List Packed) (sigs : List Signature) (call : Calls L) : Type 0 where
  pub by : (fun : ℕ) (sig : Signature) (values : List ℤ) (vs : List Value) (run : Run L) → slice_get sigs fun ≡ Some sig → length values ≡ sig.vars → AllHold values sig.rows
      → HaveValues (headers_of run.store) values vs sig.params → StoreHolds table run.store
      → Fares (λ v (new : Run L). Came table sig values run.store v new.store) (call fun vs run)

-- ---- statements

-- What a statement leaves: it completes, with as many variables as before, and the run stands behind it; or the function returns, and the value
-- has the type of its result, where the function's own variables have the values that they had.
abbrev pub Leaves : {L : Type 0} → (site : Site) (more : State) (width : ℕ) (assignment : List ℤ) (store : Blocks) → Flow → Run L → Type 0
Leaves site more width assignment store (Next env) new = Goes site more env assignment store new.store × (length env ≡ width)
Leaves site more width assignment store (Returns v) new = Came site.table site.own (take site.own.vars assignment) store v new.store

-- A block leaves so much too, and completes only where control can come to its end.
pub record Completes (may : Bool) (site : Site) (more : State) (width : ℕ) (env : Env) (assignment : List ℤ) (store new : Blocks) : Type 0 where
  pub comes : may ≡ true
  pub goes : Goes site more env assignment store new
  pub wide : length env ≡ width

abbrev pub LeavesIf : {L : Type 0} → (may : Bool) (site : Site) (more : State) (width : ℕ) (assignment : List ℤ) (store : Blocks) → Flow → Run L → Type 0
LeavesIf may site more width assignment store (Next env) new = Completes may site more width env assignment store new.store
LeavesIf may site more width assignment store (Returns v) new = Came site.table site.own (take site.own.vars assignment) store v new.store

-- ---- joins

-- What a way into a join brings of a variable that was visible before: a type of its kind, which is the one that it had where no block changes the
-- variable and the clause says nothing of it.
pub record BringsOne (changed : ℕ → Bool) (vars : List (ℕ × CoreTy)) (present : List (ℕ × Ty)) (x : ℕ) (old : Ty) : Type 0 where
  pub type : Ty
  pub there : type_at x present ≡ Some type
  pub kind : same_kind old type ≡ true
  pub kept : changed x ≡ false → is_named x vars ≡ false → type ≡ old

-- and of each of them
pub record Brings (changed : ℕ → Bool) (vars : List (ℕ × CoreTy)) (before present : List (ℕ × Ty)) : Type 0 where
  pub by : (x : ℕ) (old : Ty) → type_at x before ≡ Some old → BringsOne changed vars present x old
