-- Slots of their own keep all types apart.
use Rattle.std.proofs.Common.{◌≡◌, ◌≢◌, ℕ, suc, ◌<◌, true, List, [], ◌∷◌, Some, slice_get, nat_lt, arith}
use Rattle.std.specs.List.{All, Contains}
use Rattle.std.proofs.lemmas.Bool.Decides.{nat_tests}
use Rattle.state_types.specs.declared.state.StateType.{StateType}
use Rattle.three_address.specs.Flow.{reads_at, writes_at}
use Rattle.three_address.specs.declared.function.LowFun.{LowFun}
use Rattle.dtal_emit.specs.Homes.{home_of}
use Rattle.emission_laws.specs.ApartHomes.{AreSlots}
use Rattle.emission_laws.proofs.SlotsApart.{slots_apart}
use Rattle.state_types.specs.PlaceTypes.{PlacesRise}
use Rattle.state_types.specs.declared.types.Ty.{Ty}
use Rattle.emission_laws.specs.EmittedRanges.{Each}
use Rattle.emission_acceptance.proofs.FunctionsTyped.{all_each}
use Rattle.emission_acceptance.specs.LabelsApart.{HomesDiffer}
use Rattle.emission_acceptance.specs.TypesThrough.{AreTypesApart}

apart_slots : (homes : List ℕ) (places one other : ℕ) → AreSlots homes places → one < places → other < places → one ≢ other → home_of homes one ≢ home_of homes other
apart_slots homes places one other slots a b differ = λ h. (let e = slots.each one a in let f = slots.each other b in absurd (differ (let s : one ≡ other = omega (arith, e, f, h) in s)))

tested : (place places : ℕ) → place < places → nat_lt place places ≡ true
tested place places h = grind (arith, nat_tests)

-- where its instructions read and write places of the function, and its labels list such
pub slots_typed : (fun : LowFun) (labels : List StateType) (homes : List ℕ) → AreSlots homes fun.places → ((at place : ℕ) → Contains (reads_at fun at) place → place < fun.places)
    → ((at place : ℕ) → Contains (writes_at fun at) place → place < fun.places)
    → ((before : ℕ) (label : StateType) → slice_get labels before ≡ Some label → All (λ p. p.0 < fun.places) label.places)
    → AreTypesApart fun labels homes (λ at place. nat_lt place fun.places ≡ true)
slots_typed fun labels homes slots reads writes listed = record {
  apart = slots_apart fun homes slots reads;
  differ = λ at one other a b differ. apart_slots homes fun.places one other slots (writes at one a) (writes at other b) differ;
  again = λ at place i e stop out keeps. keeps;
  listed = λ before at label e f k d h. tested _ fun.places (listed before label e k d h);
}

-- places that rise are different
others_apart : (homes : List ℕ) (count low place : ℕ) (places : List (ℕ × Ty)) → AreSlots homes count → place < count → place < low → PlacesRise low places
    → Each (λ (x : ℕ × Ty). x.0 < count) places → Each (λ (y : ℕ × Ty). home_of homes place ≢ home_of homes y.0) places
others_apart homes count low place [] slots there below rise small = tt
others_apart homes count low place (x ∷ places) slots there below rise small = (
  let l = rise.0 in apart_slots homes count place x.0 slots there small.0 (λ e. absurd (omega (arith, e, l, below))),
  others_apart homes count (suc x.0) place places slots there (let l = rise.0 in omega (arith, l, below)) rise.1 small.1,
)

places_differ : (homes : List ℕ) (count low : ℕ) (places : List (ℕ × Ty)) → AreSlots homes count → PlacesRise low places → Each (λ (x : ℕ × Ty). x.0 < count) places
    → HomesDiffer homes places
places_differ homes count low [] slots rise small = tt
places_differ homes count low (x ∷ places) slots rise small =
    (others_apart homes count (suc x.0) x.0 places slots small.0 (omega arith) rise.1 small.1, places_differ homes count (suc x.0) places slots rise.1 small.1)

pub slots_differ : (homes : List ℕ) (count : ℕ) (places : List (ℕ × Ty)) → AreSlots homes count → PlacesRise 0 places → All (λ (x : ℕ × Ty). x.0 < count) places
    → HomesDiffer homes places
slots_differ homes count places slots rise small = places_differ homes count 0 places slots rise (all_each (λ (x : ℕ × Ty). x.0 < count) places small)
