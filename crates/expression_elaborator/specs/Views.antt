-- How the code's values are seen.
use Rattle.std.specs.Prelude.{◌≤◌, ℕ}
use Rattle.operation_rules.specs.Settings.{HasFew, setting_of}
use Rattle.operation_rules.specs.Sound.{IsSetting}
use Rattle.typed_core.specs.States.{Site, State}
use Rattle.typed_core.specs.Tests.{Sides}
use Rattle.expression_elaborator.specs.declared.state.Site as code_site
use Rattle.expression_elaborator.specs.declared.state.State as code_state
use Rattle.expression_elaborator.specs.declared.tests.Sides as code_sides

abbrev pub site_of : code_site.Site → Site
site_of site = record { table = site.setting.table.now; sigs = site.setting.sigs.now; fun = site.fun; own = site.setting.own.now }

-- the types and signatures around a body name only their own variables, which are no more than a context can have
pub record IsSite (site : code_site.Site) : Type 0 where
  pub few : HasFew (setting_of site.setting)
  pub set : IsSetting (setting_of site.setting)

abbrev pub state_of : code_state.State → State
state_of st = record { ctx = st.ctx; types = st.places; naming = st.naming.items; goals = st.goals.items; notes = st.notes.items }

abbrev pub sides_of : code_sides.Sides → State → Sides
sides_of sides after = record { on_true = sides.on_true.rows; on_false = sides.on_false.rows; after = after }

-- both sides have no more index variables than there are
pub record AreWithin (sides : code_sides.Sides) (vars : ℕ) : Type 0 where
  pub on_true : sides.on_true.vars ≤ vars
  pub on_false : sides.on_false.vars ≤ vars

-- nothing is known on one side that is not known on the other
abbrev pub same_sides : State → Sides
same_sides st = record { on_true = st.ctx.rows; on_false = st.ctx.rows; after = st }
