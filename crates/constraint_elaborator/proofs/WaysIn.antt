-- A way into a joined state: where its match fails, the way in does.
use Rattle.std.proofs.Common.{◌≡◌, ◌+◌, ℕ, List, [], map, subst, Ok}
use Rattle.state_types.specs.Answers.{◌>>=◌}
use Rattle.state_types.specs.declared.matching.Found.{Found}
use Rattle.state_types.specs.declared.types.Ty.{Ty}
use Rattle.typed_core.specs.Joins.{Joint, met_there, present}
use Rattle.typed_core.specs.Limits.{Walk}
use Rattle.typed_core.specs.States.{matching}
use Rattle.header_elaborator.specs.Code.{Fails}
use Rattle.header_elaborator.specs.declared.error.Stop.{Stop}
use Rattle.header_elaborator.proofs.WalkParts.{fails_behind, fails_then}

abbrev found_of : List Ty → Found → Walk (List Ty × Found)
found_of actual found = Ok (actual, found)

pub met_fails : (joint : Joint) (places : List (ℕ × Ty)) (actual wanted : List Ty) (why : Stop) → present places joint.wanted [] ≡ Ok actual
    → wanted ≡ map (λ w. w.1) joint.wanted → Fails why (matching joint.first (joint.first + joint.count) joint.rows wanted actual)
    → Fails why (met_there joint places)
unfolding met_there
met_fails joint places actual wanted why there are fails =
    fails_behind why (present places joint.wanted []) _ actual there
    (subst (λ (ws : List Ty). Fails why (matching joint.first (joint.first + joint.count) joint.rows ws actual >>= found_of actual)) are
    (fails_then why (matching joint.first (joint.first + joint.count) joint.rows wanted actual) (found_of actual) fails))
