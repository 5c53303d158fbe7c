-- What is known where a whole run begins, and of what it gives; and what it is for a source never to be stuck.
use Rattle.std.specs.Prelude.{◌≡◌, ◌≢◌, ℕ, ℤ, List, map, length, slice_get, Some, Result, Ok, Err}
use Rattle.index_sorts.specs.Entails.{AllHold}
use Rattle.xan_io.specs.Entry.{EntryFault}
use Rattle.xan_io.specs.Outcome.{Stuck, Outcome}
use Rattle.xan_io.specs.declared.arg.Arg.{Arg}
use Rattle.state_types.specs.declared.closed.Signature.{Signature}
use Rattle.operation_rules.specs.Entry.{variable_values}
use Rattle.xanadu_tree.specs.Plain as core
use Rattle.typed_core.specs.Goals.{Elaboration}
use Rattle.typed_core.specs.Meaning.{tag_of, source_entry}
use Rattle.typed_core.specs.SourceValues.{Value, Blocks, with_tags}
use Rattle.source_safety.specs.Standing.{Came}
use Rattle.source_safety.specs.Values.{headers_of, HaveValues, StoreHolds}

-- the values that arguments give to the variables of a signature
abbrev pub values_given : Signature → List Arg → List ℤ
values_given sig args = variable_values 0 sig.vars args sig.params

-- The arguments fit the signature of `main`: these words, with the tags of the arguments, in this store.
pub record BeginsWell (program : core.Program) (made : Elaboration) (args : List Arg) (words : List ℤ) (store : Blocks) : Type 0 where
  pub sig : Signature
  pub there : slice_get made.sigs program.main ≡ Some sig
  pub one_each : length (values_given sig args) ≡ sig.vars
  pub hold : AllHold (values_given sig args) sig.rows
  pub have : HaveValues (headers_of store) (values_given sig args) (with_tags (map tag_of args) words) sig.params
  pub holds : StoreHolds made.table store

-- What a run gives has the type of the result of `main`, where its own variables have these values.
pub record GivesResult (program : core.Program) (made : Elaboration) (args : List Arg) (v : Value) (new : Blocks) : Type 0 where
  pub sig : Signature
  pub there : slice_get made.sigs program.main ≡ Some sig
  -- the arrays of the arguments
  pub begun : Blocks
  pub came : Came made.table sig (values_given sig args) begun v new

-- ---- the theorem

-- with no number of units is a run stuck; arguments with a fault have none
abbrev pub NoneIsStuck : Result (ℕ → Outcome) EntryFault → Type 0
NoneIsStuck (Ok run) = (fuel : ℕ) → (run fuel).how ≢ Stuck
NoneIsStuck (Err fault) = Unit {0}

-- the program is never stuck, for all arguments, sizes of the store and depths
abbrev pub IsNeverStuck : core.Program → Type 0
IsNeverStuck program = (args : List Arg) (heap depth : ℕ) → NoneIsStuck (source_entry program args heap depth)
