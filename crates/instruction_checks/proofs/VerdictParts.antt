-- Answers in turn: what follows where the first part gives a value, and where it fails.
use Rattle.std.proofs.Common.{◌≡◌, ℕ, List, Bool as Truth, Result, Ok, Err, refl, sym, ap, subst}
use Rattle.std.specs.Prelude.{IsOk}
use Rattle.std.specs.List.{All}
use Rattle.xan_lin.specs.Linear.{Linear}
use Rattle.xan_lin.specs.declared.term.TooLarge.{TooLarge}
use Rattle.state_types.specs.Types.{TypeBelow}
use Rattle.state_types.specs.declared.types.Ty.{Ty}
use Rattle.operation_rules.specs.Named.{IsNamed}
use Rattle.operation_rules.specs.Sides.{side}
use Rattle.operation_rules.specs.declared.operation.Operation.{Operation}
use Rattle.operation_rules.proofs.RuleNames.{sides_named}
use Rattle.operation_rules.specs.Answers as rules
use Rattle.operation_rules.specs.Faults.{Ruling}
use Rattle.operation_rules.specs.declared.error.RuleError.{RuleError}
use Rattle.operation_rules.specs.declared.error.RuleError.TheVariants as rule_error
use Rattle.dtal_code.specs.Verdicts.{Verdict, by_rule}
use Rattle.instruction_checks.specs.Code.{Fails, Gives, IsGiven, of_rule}
use Rattle.instruction_checks.specs.declared.error.Broken.{Broken}

-- a rule that fails, as a part of what is asked at a place
pub ruled_fails : {A : Type 0} (error : RuleError) (m : Ruling A) → rules.Fails error m → Fails (of_rule error) (by_rule m)
ruled_fails (rule_error.Fault fault) m e = ap by_rule e
ruled_fails rule_error.Memory m e = tt

-- the definition in other steps
pub gives_same : {X Y : Type 0} (view : X → Y) (result : Result X Broken) (m n : Verdict Y) → n ≡ m → Gives view result m → Gives view result n
gives_same view result m n e h = subst (λ v. Gives view result v) (sym e) h

-- what is given, whatever it is
pub given_so : {X Y : Type 0} (view : X → Y) (result : Result X Broken) (m : Verdict Y) → Gives view result m → IsGiven result m
given_so view (Ok x) m e = subst (λ v. IsOk v) (sym e) refl
given_so view (Err error) m e = e

-- the rows of a side name variables that are there
pub sides_below : (n : ℕ) (taken : Truth) (op : Operation) (types : List Ty) (rows : List (Result Linear TooLarge)) → rows ≡ side taken op types → All (TypeBelow n) types → All (IsNamed n) rows
sides_below n taken op types rows same below = subst (λ rs. All (IsNamed n) rs) (sym same) (sides_named n taken op types below)
