-- Types, names and signatures that have texts.
use Rattle.std.specs.Prelude.{◌≤◌, IsTrue, length, drop}
use Rattle.std.specs.List.{All}
use Rattle.three_address.specs.declared.function.LowFun.{LowFun}
use Rattle.three_address.specs.declared.function.Lowered.{Lowered}
use Rattle.dtal_code.specs.Grammar.{IsSignature, IsTypeIn}
use Rattle.dtal_code.specs.Lower.{is_lower}
use Rattle.dtal_code.specs.declared.limits.TheConstants.{LAST_NUMBER, MOST_TYPES}
use Rattle.emission_laws.specs.EmittedRanges.{Each}

-- what `IsRanged` asks of types, names and signatures
pub record HaveTexts (low : Lowered) : Type 0 where
  pub few_types : length (drop 2 low.table) ≤ MOST_TYPES
  pub types : All IsTypeIn (drop 2 low.table)
  pub few_funs : length low.funs ≤ LAST_NUMBER
  pub names : Each (λ (fun : LowFun). IsTrue (is_lower fun.name)) low.funs
  pub sigs : Each (λ (fun : LowFun). IsSignature fun.sig) low.funs
