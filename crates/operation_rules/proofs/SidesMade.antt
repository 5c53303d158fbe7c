-- The sides of comparisons by number.
use Rattle.std.proofs.Common.{◌≡◌, ◌≢◌, ℕ, zero, suc, [], refl}
use Rattle.xan_lin.specs.Linear.{Linear}
use Rattle.operation_rules.specs.Sides.{true_side, false_side, equal}

pub true_others : (c : ℕ) (f g : Linear) → c ≢ 0 → c ≢ 1 → c ≢ 2 → true_side c f g ≡ []
true_others zero f g a b d = absurd (a refl)
true_others (suc zero) f g a b d = absurd (b refl)
true_others (suc (suc zero)) f g a b d = absurd (d refl)
true_others (suc (suc (suc n))) f g a b d = refl

pub false_others : (c : ℕ) (f g : Linear) → c ≢ 0 → c ≢ 1 → c ≢ 2 → false_side c f g ≡ equal f g
false_others zero f g a b d = absurd (a refl)
false_others (suc zero) f g a b d = absurd (b refl)
false_others (suc (suc zero)) f g a b d = absurd (d refl)
false_others (suc (suc (suc n))) f g a b d = refl
