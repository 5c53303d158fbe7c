-- The spelling with a sign, by the one without.
use Rattle.std.proofs.Common.{◌≡◌, List, [], ◌∷◌, ◌++◌, refl, arith, append_assoc}
use Rattle.std.specs.Prelude.{ℤ, pos, negsuc, ◌≤ℤ◌, ◌<ℤ◌}
use Rattle.std.proofs.lemmas.Int.{ints}
use Rattle.std.specs.Fmt.{signed_decimal}
use Rattle.xan_read.specs.Integers.{with_sign}

pub with_sign_positive : (z : ℤ) → pos 0 ≤ℤ z → with_sign z ≡ 43 ∷ signed_decimal z
with_sign_positive (pos n) h = refl
with_sign_positive (negsuc n) h = absurd (omega (arith, ints))

pub with_sign_negative : (z : ℤ) → z <ℤ pos 0 → with_sign z ≡ signed_decimal z
with_sign_negative (pos n) h = absurd (omega (arith, ints))
with_sign_negative (negsuc n) h = refl

pub ruleset with_sign_of = (with_sign_positive, with_sign_negative, append_assoc)
