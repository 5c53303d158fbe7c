-- How the code's values are seen: what a way in has to give, and types that are renewed.
use Rattle.std.specs.Prelude.{◌≡◌, ◌<◌, ℕ, List}
use Rattle.xan_lin.specs.declared.term.LimitKind.TheVariants as limit
use Rattle.header_elaborator.specs.declared.error.Stop.{Stop}
use Rattle.header_elaborator.specs.declared.error.Stop.TheVariants as stop
use Rattle.state_types.specs.declared.types.Ty.{Ty}
use Rattle.typed_core.specs.Joins.{Joint, Renewed}
use Rattle.typed_core.specs.States.{State}
use Rattle.join_elaborator.specs.declared.joint.Joint as code_joint
use Rattle.join_elaborator.specs.declared.renewing.Renewed as code_renewed

abbrev pub joint_of : code_joint.Joint → Joint
joint_of joint = record {
  first = joint.first;
  count = joint.count;
  wanted = joint.wanted.items;
  rows = joint.rows.items;
  past = joint.past;
  others = joint.others.items;
}

abbrev pub renewed_of : code_renewed.Renewed → Renewed
renewed_of made = record { types = made.types.items; others = made.others.items }

abbrev pub in_types : List (ℕ × Ty) → State → State
in_types types st = record st { types = types }

-- why a state has no room for so many fresh variables
pub record IsMany (count : ℕ) (why : Stop) : Type 0 where
  pub is : why ≡ stop.Past limit.Variables
  pub many : 1024 < count
