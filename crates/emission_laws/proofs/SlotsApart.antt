-- Slots of their own keep all places apart.
use Rattle.std.proofs.Common.{◌≡◌, ◌≢◌, ◌⊎◌, inl, inr, ℕ, zero, suc, ◌<◌, ◌≤◌, true, List, [], ◌∷◌, length, nat_lt, refl, arith}
use Rattle.std.specs.List.{Contains}
use Rattle.std.proofs.lemmas.Bool.{cases_lt}
use Rattle.std.proofs.lemmas.Bool.Decides.{nat_tests}
use Rattle.three_address.specs.Flow.{reads_at}
use Rattle.three_address.specs.declared.function.LowFun.{LowFun}
use Rattle.dtal_emit.specs.Homes.{home_of}
use Rattle.emission_laws.specs.ApartHomes.{IsHome, AreApart, AreSlots}

past_all : (homes : List ℕ) (place : ℕ) → length homes ≤ place → home_of homes place ≡ 0
past_all [] place h = refl
past_all (x ∷ homes) zero h = absurd (omega (arith, h))
past_all (x ∷ homes) (suc place) h = past_all homes place (omega (arith, h))

module _ (homes : List ℕ) (places : ℕ) (slots : AreSlots homes places) where
  home_fits : (place : ℕ) → (place < places) ⊎ (places ≤ place) → IsHome (home_of homes place)
  home_fits place (inl lt) = (let e = slots.each place lt in let f = slots.few in record { low = λ l. omega (arith, e); within = omega (arith, e, lt, f) })
  home_fits place (inr le) =
      let e = past_all homes place (let m = slots.as_many in omega (arith, m, le)) in
      record { low = λ l. absurd (omega (arith, e, l)); within = omega (arith, e) }

  homes_differ : (written place : ℕ) → place < places → written ≢ place → (written < places) ⊎ (places ≤ written) → home_of homes written ≢ home_of homes place
  homes_differ written place lt differ (inl l) = λ h. (let e = slots.each written l in let f = slots.each place lt in absurd (differ (let s : written ≡ place = omega (arith, e, f, h) in s)))
  homes_differ written place lt differ (inr le) = λ h.
      (let e = past_all homes written (let m = slots.as_many in omega (arith, m, le)) in let f = slots.each place lt in absurd (omega (arith, e, f, h)))

  high : (place : ℕ) → place < places → 16 ≤ home_of homes place
  high place lt = (let e = slots.each place lt in omega (arith, e))

below : (place places : ℕ) → nat_lt place places ≡ true → place < places
below place places e = grind (arith, nat_tests)

pub slots_apart : (fun : LowFun) (homes : List ℕ) → AreSlots homes fun.places → ((at place : ℕ) → Contains (reads_at fun at) place → place < fun.places)
    → AreApart fun homes (λ at place. nat_lt place fun.places ≡ true)
slots_apart fun homes slots small = record {
  homes_are = λ place. home_fits homes fun.places slots place (cases_lt place fun.places);
  read = λ at place c. tested place fun.places (small at place c);
  stays = λ at next place way out keeps. keeps;
  apart = λ at next written place way wrote keeps differ. homes_differ homes fun.places slots written place (below place fun.places keeps) differ (cases_lt written fun.places);
  begins = λ place keeps. inr (high homes fun.places slots place (below place fun.places keeps));
  params_apart = λ param place lt keeps differ. homes_differ homes fun.places slots param place (below place fun.places keeps) differ (cases_lt param fun.places);
}
  where
    tested : (place places : ℕ) → place < places → nat_lt place places ≡ true
    tested place places h = grind (arith, nat_tests)
