-- What holds where a comparison is true, and where it is false.
use Rattle.std.specs.Prelude.{ℕ, zero, suc, Bool, true, false, List, [], ◌∷◌, Result}
use Rattle.xan_lin.specs.Linear.{Linear, difference_of}
use Rattle.xan_lin.specs.declared.term.TooLarge.{TooLarge}
use Rattle.state_types.specs.declared.types.Ty.{Ty}
use Rattle.state_types.specs.declared.types.Ty.TheVariants as ty
use Rattle.xan_lin.specs.Linear.{excess_of}
use Rattle.operation_rules.specs.Operations.{Operation, Branch}

-- f < g, and f <= g
abbrev pub less : Linear → Linear → Result Linear TooLarge
less f g = excess_of g f

abbrev pub at_most : Linear → Linear → Result Linear TooLarge
at_most f g = difference_of g f

abbrev pub equal : Linear → Linear → List (Result Linear TooLarge)
equal f g = at_most g f ∷ at_most f g ∷ []

abbrev pub true_side : (comparison : ℕ) → Linear → Linear → List (Result Linear TooLarge)
true_side zero f g = less f g ∷ []
true_side (suc zero) f g = at_most f g ∷ []
true_side (suc (suc zero)) f g = equal f g
true_side (suc (suc (suc n))) f g = []

abbrev pub false_side : (comparison : ℕ) → Linear → Linear → List (Result Linear TooLarge)
false_side zero f g = at_most g f ∷ []
false_side (suc zero) f g = less g f ∷ []
false_side (suc (suc zero)) f g = []
false_side (suc (suc (suc n))) f g = equal f g

-- the side of a comparison
abbrev pub side_of : Bool → (comparison : ℕ) → Linear → Linear → List (Result Linear TooLarge)
side_of true comparison f g = true_side comparison f g
side_of false comparison f g = false_side comparison f g

-- the rows that hold where an operation goes elsewhere, or goes on, by the types that it reads; nothing follows from a truth value
abbrev pub side : Bool → Operation → List Ty → List (Result Linear TooLarge)
side taken (Branch comparison) (ty.Int f ∷ ty.Int g ∷ []) = side_of taken comparison f g
side taken _ _ = []
