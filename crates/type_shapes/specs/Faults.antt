-- Faults of shape, and answers that are a value or the first fault.
use Rattle.std.specs.Prelude.{ℕ, Result, Ok, Err}
use Rattle.type_shapes.specs.declared.error.ShapeKind.{ShapeKind}
use Rattle.type_shapes.specs.declared.error.ShapeKind.TheVariants.{NamedTwice, Unknown, OtherKind, Count, OutsideTest, NoIndex, CellType, Completes, Unreachable, NoMain, MainKind}

abbrev pub kind_number : ShapeKind → ℕ
kind_number NamedTwice = 1
kind_number Unknown = 2
kind_number OtherKind = 3
kind_number Count = 4
kind_number OutsideTest = 5
kind_number NoIndex = 6
kind_number CellType = 7
kind_number Completes = 8
kind_number Unreachable = 9
kind_number NoMain = 10
kind_number MainKind = 11

-- what is wrong, and the offset of the token at which it stands
pub record Fault : Type 0 where
  pub at : ℕ
  pub kind : ShapeKind

-- a value, or the first fault
abbrev pub Check : Type 0 → Type 0
Check A = Result A Fault

abbrev pub fault : {A : Type 0} → ShapeKind → ℕ → Check A
fault kind at = Err (record { at = at; kind = kind })

-- one part of the walk and then the next: a fault of the first ends it
infixl 10 ◌>>=◌
abbrev pub ◌>>=◌ : {A B : Type 0} → Check A → (A → Check B) → Check B
(Ok x) >>= next = next x
(Err e) >>= next = Err e
