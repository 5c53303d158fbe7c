-- A branch that completes, and one that does not.
use Rattle.std.proofs.Common.{◌≡◌, ℕ, Ok, Bool as Truth, true, false, ap}
use Rattle.state_types.specs.declared.state.StateType.{StateType}
use Rattle.typed_core.specs.Joins.{Joint, entered, entered_if}
use Rattle.typed_core.specs.States.{Site, State}

pub entered_not : (completes : Truth) (site : Site) (at : ℕ) (joint : Joint) (from : StateType) (st : State) → completes ≡ false → entered_if completes site at joint from st ≡ Ok st
unfolding entered_if
entered_not completes site at joint from st h = ap (λ b. entered_if b site at joint from st) h

pub entered_same : (completes : Truth) (site : Site) (at : ℕ) (joint : Joint) (from : StateType) (st : State) → completes ≡ true
    → entered_if completes site at joint from st ≡ entered site at joint from st
unfolding entered_if
entered_same completes site at joint from st h = ap (λ b. entered_if b site at joint from st) h
