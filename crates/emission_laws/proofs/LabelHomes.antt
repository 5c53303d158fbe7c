-- The states of labels have a text at the homes of their places.
use Rattle.std.proofs.Common.{ℕ, List, [], ◌∷◌, arith}
use Rattle.std.specs.List.{All}
use Rattle.std.proofs.lemmas.List.Elements.{All-nil}
use Rattle.xan_seq.specs.Rising.{KeysRise}
use Rattle.xan_seq.proofs.RisingKeys.{KeysRise-with, all_with}
use Rattle.state_types.specs.PlaceTypes.{with_type}
use Rattle.state_types.specs.declared.state.StateType.{StateType}
use Rattle.state_types.specs.declared.types.Ty.{Ty}
use Rattle.dtal_code.specs.Grammar.{IsLabelState, IsTyIn, IsTypedPlace}
use Rattle.dtal_emit.specs.Emitted.{at_homes, label_state}
use Rattle.dtal_emit.specs.Homes.{home_of}
use Rattle.emission_laws.specs.ApartHomes.{IsHome}
use Rattle.emission_laws.specs.EmittedRanges.{Each, IsRangedState}

module _ (homes : List ℕ) (homes_are : (place : ℕ) → IsHome (home_of homes place)) where
  places_in : (places made : List (ℕ × Ty)) → KeysRise 0 made → All IsTypedPlace made → Each (λ (p : ℕ × Ty). IsTyIn p.1) places
      → KeysRise 0 (at_homes homes places made) × All IsTypedPlace (at_homes homes places made)
  unfolding at_homes
  places_in [] made rise are e = (rise, are)
  places_in (x ∷ places) made rise are e =
      let within = (homes_are x.0).within in
      places_in places (with_type (home_of homes x.0) x.1 made) (KeysRise-with 0 (home_of homes x.0) x.1 made (omega arith) rise)
      (all_with IsTypedPlace 0 (home_of homes x.0) x.1 made rise (λ k d l other. are k d l) (within, e.0)) e.1

  state_in : (label : StateType) → IsRangedState label → IsLabelState (label_state homes label)
  state_in label ranged =
      let p = places_in label.places [] tt (All-nil IsTypedPlace) ranged.places in
      record { quantifier = ranged.quantifier; rise = p.0; places = p.1 }

  pub states_in : (labels : List StateType) → Each IsRangedState labels → Each (λ label. IsLabelState (label_state homes label)) labels
  states_in [] e = tt
  states_in (label ∷ labels) e = (state_in label e.0, states_in labels e.1)
