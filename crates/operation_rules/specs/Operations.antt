-- The operations that a source's constructs, the code over places and the text's instructions have in common.
use Rattle.std.specs.Prelude.{ℕ, Some, None}
-- They, and what each needs, are those of the code. A comparison is a number: 0 less, 1 at most, 2 equal, and else unequal. Types and functions are
-- named by number.
pub use Rattle.operation_rules.specs.declared.operation.Operation.{Operation}
pub use Rattle.operation_rules.specs.declared.operation.Operation.TheVariants.{Literal, Truth, Move, Add, Sub, Mul, Div, Mod, Compare, Branch, BranchTruth, Jump, Call, Return, Length, Load, Store, New, Tuple, Untuple, Print}
pub use Rattle.operation_rules.specs.declared.operation.Needs.{Needs}

-- ---- what an operation needs: how many places it reads and writes; none is as many as are listed with it

abbrev pub fixed : ℕ → ℕ → Needs
fixed reads writes = record { reads = Some reads; writes = writes }

abbrev pub needs : Operation → Needs
needs (Literal n) = fixed 0 1
needs (Truth b) = fixed 0 1
needs Move = fixed 1 1
needs Add = fixed 2 1
needs Sub = fixed 2 1
needs Mul = fixed 2 1
needs Div = fixed 2 1
needs Mod = fixed 2 1
needs (Compare c) = fixed 2 1
needs (Branch c) = fixed 2 0
needs (BranchTruth b) = fixed 1 0
needs Jump = fixed 0 0
needs (Call fun) = record { reads = None; writes = 1 }
needs Return = fixed 1 0
needs Length = fixed 1 1
needs Load = fixed 2 1
needs Store = fixed 3 0
needs (New cells) = fixed 2 1
needs (Tuple number) = record { reads = None; writes = 1 }
needs (Untuple number count) = fixed 1 count
needs Print = fixed 1 0
