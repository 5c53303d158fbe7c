-- How the code's values are seen, and what is asked of them.
use Rattle.std.specs.Prelude.{◌≤◌, ℕ, List, length}
use Rattle.std.specs.List.{All}
use Rattle.proof_lines.specs.declared.line.Line.{Line}
use Rattle.state_types.specs.Types.{TypeBelow}
use Rattle.state_types.specs.declared.state.StateType.{StateType}
use Rattle.operation_rules.specs.Settings.{HasFew, setting_of}
use Rattle.operation_rules.specs.Sound.{IsSetting}
use Rattle.dtal_code.specs.Instructions.{Instruction}
use Rattle.instruction_checks.specs.declared.action.Action as code_action
use Rattle.instruction_checks.specs.declared.site.Site as code_site

abbrev pub action_of : code_action.Action → Instruction
action_of a = record { operation = a.operation; writes = a.writes.items; reads = a.reads.items; target = a.target }

-- the types and signatures around an instruction name only their own variables, which are no more than a context can have
pub record IsSite (site : code_site.Site) : Type 0 where
  pub few : HasFew (setting_of site.setting)
  pub set : IsSetting (setting_of site.setting)

-- the function's own variables are there, and the types of places name variables that are there
pub record IsStanding (own : ℕ) (state : StateType) : Type 0 where
  pub own_vars : own ≤ state.ctx.vars
  pub below : All (λ e. TypeBelow state.ctx.vars e.1) state.places

-- a list of lines is no longer than a text can have it
abbrev pub AreCountable : List (List Line) → Type 0
AreCountable by = All (λ lines. length lines ≤ 4294967295) by
