-- What it is for an operation to go well.
use Rattle.std.specs.Prelude.{◌≡◌, ℕ, ◌+◌, ℤ, List, [], ◌∷◌, ◌++◌, take, length, Some, Result, Ok, slice_get}
use Rattle.std.specs.List.{All, AllZip}
use Rattle.index_sorts.specs.Context.{IndexContext}
use Rattle.index_sorts.specs.Entails.{AllHold}
use Rattle.xan_io.specs.Outcome.{How, Returned, NoStore, Overflow, Stuck, Running}
use Rattle.xan_lin.specs.Linear.{Linear, NamesBelow}
use Rattle.xan_lin.specs.declared.term.TooLarge.{TooLarge}
use Rattle.state_types.specs.Sound.{Carries}
use Rattle.state_types.specs.Tables.{IsClosed}
use Rattle.state_types.specs.Types.{TypeBelow}
use Rattle.state_types.specs.Words.{Headers, HasType, Keeps}
use Rattle.state_types.specs.declared.closed.Signature.{Signature}
use Rattle.state_types.specs.declared.types.Ty.{Ty}
use Rattle.operation_rules.specs.Applied.{Ruled, all_assuming}
use Rattle.operation_rules.specs.Effects.{Stores, Effect, Writes, Prints, Takes, Calls, Gives, Ends}
use Rattle.operation_rules.specs.Operations.{Operation}
use Rattle.operation_rules.specs.Rules.{Setting}
use Rattle.operation_rules.specs.Sides.{side}
use Rattle.operation_rules.specs.Stored.{StoreFits}

-- ---- what is known before

-- a signature names only its own variables, and its result those of the result too
pub record IsHeader (sig : Signature) : Type 0 where
  pub rows : All (NamesBelow sig.vars) sig.rows
  pub params : All (TypeBelow sig.vars) sig.params
  pub result_rows : All (NamesBelow (sig.vars + sig.result_vars)) sig.result_rows
  pub result : TypeBelow (sig.vars + sig.result_vars) sig.result

pub record IsSetting (st : Setting) : Type 0 where
  pub table : All IsClosed st.table
  pub sigs : All IsHeader st.sigs
  pub own : IsHeader st.own

-- the words that are read have their types under the assignment, and the rows of the context hold
pub record Stands (headers : Headers) (assignment : List ℤ) (ctx : IndexContext) (words : List ℤ) (types : List Ty) : Type 0 where
  pub one_each : length assignment ≡ ctx.vars
  pub hold : AllHold assignment ctx.rows
  pub typed : AllZip (HasType headers assignment) words types
  pub named : All (NamesBelow ctx.vars) ctx.rows
  pub below : All (TypeBelow ctx.vars) types

-- ---- what is known behind

-- with values of the fresh variables behind the assignment the rows of the context that goes on hold, and present types fit as before
pub record Grows (assignment own : List ℤ) (ctx more : IndexContext) : Type 0 where
  pub one_each : length (assignment ++ own) ≡ more.vars
  pub hold : AllHold (assignment ++ own) more.rows
  pub keep : (ty : Ty) → TypeBelow ctx.vars ty → Carries assignment (assignment ++ own) ty ty

-- the words that are given have their types
pub record Written (headers : Headers) (assignment : List ℤ) (ctx : IndexContext) (ruled : Ruled) (words : List ℤ) : Type 0 where
  pub own : List ℤ
  pub grows : Grows assignment own ctx ruled.ctx
  pub typed : AllZip (HasType headers (assignment ++ own)) words ruled.types

-- the context does not change, and the rows of the side that is taken hold in it
pub record Turns (assignment : List ℤ) (ctx : IndexContext) (ruled : Ruled) (rows : List (Result Linear TooLarge)) : Type 0 where
  pub same : ruled.ctx ≡ ctx
  pub hold : (more : IndexContext) → all_assuming rows ctx ≡ Ok more → (more.vars ≡ ctx.vars) × AllHold assignment more.rows

-- The function that is called begins as its signature says, under values of its variables. A word that has the type of its result, for some values
-- of the result's own variables, has the type that the caller was given.
pub record Calling (st : Setting) (headers : Headers) (assignment : List ℤ) (ctx : IndexContext) (ruled : Ruled) (fun : ℕ) (words : List ℤ) : Type 0 where
  pub sig : Signature
  pub there : slice_get st.sigs fun ≡ Some sig
  pub values : List ℤ
  pub one_each : length values ≡ sig.vars
  pub hold : AllHold values sig.rows
  pub fit : AllZip (HasType headers values) words sig.params
  pub back : (later : Headers) (own : List ℤ) (word : ℤ) → length own ≡ sig.result_vars → AllHold (values ++ own) sig.result_rows
      → HasType later (values ++ own) word sig.result → Written later assignment ctx ruled (word ∷ [])

-- the word has the type of the function's result, where the function's own variables have the values that they had
pub record Giving (sig : Signature) (headers : Headers) (assignment : List ℤ) (word : ℤ) : Type 0 where
  pub own : List ℤ
  pub one_each : length own ≡ sig.result_vars
  pub hold : AllHold (take sig.vars assignment ++ own) sig.result_rows
  pub fit : HasType headers (take sig.vars assignment ++ own) word sig.result

-- no end but for want of store or of room in a word
abbrev pub EndsWell : How → Type 0
EndsWell (Returned word) = Unit {0}
EndsWell NoStore = Unit {0}
EndsWell Overflow = Unit {0}
EndsWell Stuck = ⊥
EndsWell Running = Unit {0}

module _ {S : Type 0} (stores : Stores S) (st : Setting) where
  -- the store after fits too, and each header stays
  pub record Goes (store : S) (assignment : List ℤ) (ctx : IndexContext) (ruled : Ruled) (words : List ℤ) (new : S) : Type 0 where
    pub written : Written (stores.headers new) assignment ctx ruled words
    pub keeps : Keeps (stores.headers store) (stores.headers new)
    pub fits : StoreFits stores st.table new

  abbrev pub Fares : Operation → List Ty → S → (assignment : List ℤ) → IndexContext → Ruled → Effect S → Type 0
  Fares op types store assignment ctx ruled (Writes words new) = Goes store assignment ctx ruled words new
  Fares op types store assignment ctx ruled (Prints number) = Goes store assignment ctx ruled [] store
  Fares op types store assignment ctx ruled (Takes taken) = Turns assignment ctx ruled (side taken op types)
  Fares op types store assignment ctx ruled (Calls fun words) = Calling st (stores.headers store) assignment ctx ruled fun words
  Fares op types store assignment ctx ruled (Gives word) = Giving st.own (stores.headers store) assignment word
  Fares op types store assignment ctx ruled (Ends how) = EndsWell how
