-- What is said of a place of a program: a value, or the first rule that fails there.
use Rattle.std.specs.Prelude.{Bool as Truth, true, false, Option, Some, None, Result, Ok, Err}
use Rattle.operation_rules.specs.Faults.{Ruling}
use Rattle.operation_rules.specs.declared.error.Fault.{Fault}
use Rattle.operation_rules.specs.declared.error.Fault.TheVariants as fault
use Rattle.dtal_code.specs.declared.refusal.Rule.{Rule}
use Rattle.dtal_code.specs.declared.refusal.Rule.TheVariants as rule
use Rattle.dtal_code.specs.declared.refusal.Refusal.{Refusal}
use Rattle.dtal_code.specs.declared.refusal.Where.{Where}

abbrev pub Verdict : Type 0 → Type 0
Verdict A = Result A Rule

-- the rule is kept
abbrev pub asks : Truth → Rule → Verdict (Unit {0})
asks true broken = Ok tt
asks false broken = Err broken

-- what exists
abbrev pub found : {A : Type 0} → Option A → Rule → Verdict A
found (Some x) broken = Ok x
found None broken = Err broken

-- the rule by which an operation is refused
abbrev pub rule_of : Fault → Rule
rule_of fault.NoTarget = rule.Target
rule_of fault.NoType = rule.NoType
rule_of fault.NoPlace = rule.Place
rule_of fault.WrongCount = rule.Count
rule_of fault.WrongKind = rule.Kind
rule_of (fault.Large why) = rule.Form
rule_of (fault.Full why) = rule.Size

abbrev pub by_rule : {A : Type 0} → Ruling A → Verdict A
by_rule (Ok x) = Ok x
by_rule (Err broken) = Err (rule_of broken)

-- ---- of a whole program: a value, or the first place with its first rule

abbrev pub Walk : Type 0 → Type 0
Walk A = Result A Refusal

abbrev pub at_place : {A : Type 0} → Where → Verdict A → Walk A
at_place place (Ok x) = Ok x
at_place place (Err broken) = Err (record { at = place; rule = broken })
