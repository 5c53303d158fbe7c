-- What may be wrong with the arguments of a run, and what is asked of every run.
use Rattle.std.specs.Prelude.{ℕ, ℤ, ◌-◌, ◌^◌, ◌≤◌, List, [], ◌∷◌, Option, Some, None, Result, Ok, Err, FitsSigned}
use Rattle.std.specs.Int.{w64}
use Rattle.xan_io.specs.declared.arg.Arg.{Arg}
use Rattle.xan_io.specs.declared.arg.Arg.TheVariants.{Int, Bool, Array}

-- The first fault of the arguments: their number, the kind of one, its index, or a row of the program's entry. All count from 1.
pub data EntryFault : Type 0 where
  ArgCount : EntryFault
  ArgKind : (argument : ℕ) → EntryFault
  ArgIndex : (argument : ℕ) → EntryFault
  EntryRow : (row : ℕ) → EntryFault

-- A run begins so where the arguments have no fault. Where they have one there is no run, but the fault.
abbrev pub unless_faulty : {A : Type 0} → Option EntryFault → A → Result A EntryFault
unless_faulty None run = Ok run
unless_faulty (Some fault) run = Err fault

-- numbers that a word of the machine holds
abbrev pub AreWords : List ℤ → Type 0
AreWords [] = Unit {0}
AreWords (word ∷ words) = FitsSigned w64 word × AreWords words

abbrev pub IsWordArg : Arg → Type 0
IsWordArg (Int number) = FitsSigned w64 number
IsWordArg (Bool _) = Unit {0}
IsWordArg (Array cells) = AreWords cells

abbrev pub AreWordArgs : List Arg → Type 0
AreWordArgs [] = Unit {0}
AreWordArgs (arg ∷ args) = IsWordArg arg × AreWordArgs args

-- the greatest size of the store and the greatest depth that a promise speaks of
abbrev pub bound : ℕ
bound = 2 ^ 62 - 1

-- the arguments are words, and the store and the depth are within the bound
pub record IsRun (args : List Arg) (heap depth : ℕ) : Type 0 where
  pub words : AreWordArgs args
  pub heap_fits : heap ≤ bound
  pub depth_fits : depth ≤ bound
