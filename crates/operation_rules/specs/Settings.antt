-- Settings as the code has them.
use Rattle.std.specs.Prelude.{◌≤◌}
use Rattle.std.specs.List.{All}
use Rattle.state_types.specs.declared.closed.Signature.{Signature}
use Rattle.operation_rules.specs.Rules.{Setting}
use Rattle.operation_rules.specs.declared.setting.Setting as code

abbrev pub setting_of : code.Setting → Setting
setting_of st = record { table = st.table.now; sigs = st.sigs.now; own = st.own.now }

-- a signature has as many variables as a context can have, at most, and its result too
pub record IsFew (sig : Signature) : Type 0 where
  pub vars : sig.vars ≤ 1024
  pub result_vars : sig.result_vars ≤ 1024

-- each closed type and each signature has as many variables as a context can have, at most
pub record HasFew (st : Setting) : Type 0 where
  pub table : All (λ packed. packed.vars ≤ 1024) st.table
  pub sigs : All IsFew st.sigs
  pub own : IsFew st.own
