-- Answers in turn: what follows where the first part gives a value, and where it fails; and rules as parts of walks.
use Rattle.std.proofs.Common.{◌≡◌, Result, Ok, Err, refl, sym, ap, subst}
use Rattle.state_types.specs.Answers.{◌>>=◌}
use Rattle.operation_rules.specs.Answers as rules
use Rattle.operation_rules.specs.Faults.{Ruling}
use Rattle.operation_rules.specs.declared.error.RuleError.{RuleError}
use Rattle.operation_rules.specs.declared.error.RuleError.TheVariants as rule_error
use Rattle.typed_core.specs.Limits.{Stop as Defined, Past, Misfit, Stray, Walk, by_rule, stop_of_fault}
use Rattle.header_elaborator.specs.Code.{Fails, of_stop, of_rule}
use Rattle.header_elaborator.specs.declared.error.Stop.{Stop}
use Rattle.header_elaborator.specs.declared.error.Stop.TheVariants as stop

pub then_ok : {A B E : Type 0} (m : Result A E) (next : A → Result B E) (x : A) → m ≡ Ok x → (m >>= next) ≡ next x
then_ok m next x e = ap (λ r. r >>= next) e

pub fails_then : {A B : Type 0} (why : Stop) (m : Walk A) (next : A → Walk B) → Fails why m → Fails why (m >>= next)
fails_then (stop.Past kind) m next e = ap (λ r. r >>= next) e
fails_then stop.Misfit m next e = ap (λ r. r >>= next) e
fails_then stop.Stray m next e = ap (λ r. r >>= next) e
fails_then stop.Memory m next e = tt

-- the second part fails behind the first
pub fails_behind : {A B : Type 0} (why : Stop) (m : Walk A) (next : A → Walk B) (x : A) → m ≡ Ok x → Fails why (next x) → Fails why (m >>= next)
fails_behind why m next x e f = subst (λ w. Fails why w) (sym (then_ok m next x e)) f

-- ---- rules

fails_so : (A : Type 0) (why : Defined) → Fails (of_stop why) (let r : Walk A = Err why in r)
fails_so A (Past kind) = refl
fails_so A Misfit = refl
fails_so A Stray = refl

-- a rule that fails, as a part of a walk
pub ruled_fails : {A : Type 0} (error : RuleError) (m : Ruling A) → rules.Fails error m → Fails (of_rule error) (by_rule m)
ruled_fails {A} (rule_error.Fault fault) m e = subst (λ r. Fails (of_stop (stop_of_fault fault)) (by_rule r)) (sym e) (fails_so A (stop_of_fault fault))
ruled_fails rule_error.Memory m e = tt
