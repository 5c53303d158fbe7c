-- A rule that fails at a place, as a part of a walk; and what holds whatever an answer is.
use Rattle.std.proofs.Common.{Result, Ok, Err, ap}
use Rattle.std.specs.Prelude.{IfOk}
use Rattle.dtal_code.specs.Verdicts.{Verdict, at_place}
use Rattle.dtal_code.specs.declared.refusal.Where.{Where}
use Rattle.instruction_checks.specs.Code.{Fails}
use Rattle.instruction_checks.specs.declared.error.Broken.{Broken}
use Rattle.instruction_checks.specs.declared.error.Broken.TheVariants as broken
use Rattle.dtal_verifier.specs.Code.{Refuses, located}

pub place_fails : {A : Type 0} (place : Where) (error : Broken) (m : Verdict A) → Fails error m → Refuses (located place error) (at_place place m)
place_fails place (broken.Rule rule) m e = ap (at_place place) e
place_fails place broken.Memory m e = tt

pub always : {A E : Type 0} (result : Result A E) (P : Type 0) → P → IfOk result (λ _. P)
always (Ok x) P h = h
always (Err error) P h = tt
