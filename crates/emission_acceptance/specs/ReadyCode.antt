-- What is asked of typed code so that emission takes it whole: at most eight parameters and parts, and labels by rising position.
use Rattle.std.specs.Prelude.{◌≤◌, length}
use Rattle.state_types.specs.declared.closed.Packed.{Packed}
use Rattle.three_address.specs.declared.function.LowFun.{LowFun}
use Rattle.three_address.specs.declared.function.Lowered.{Lowered}
use Rattle.dtal_code.specs.declared.limits.TheConstants.{MOST_LISTED}
use Rattle.emission_laws.specs.ApartHomes.{Rise}
use Rattle.emission_laws.specs.EmittedRanges.{Each}

pub record IsShortCode (low : Lowered) : Type 0 where
  pub few_types : length low.table ≤ 65536
  pub parts : Each (λ (packed : Packed). length packed.parts ≤ MOST_LISTED) low.table
  pub params : Each (λ (fun : LowFun). length fun.sig.params ≤ MOST_LISTED) low.funs
  pub rise : Each (λ (fun : LowFun). Rise 0 fun.labels) low.funs
