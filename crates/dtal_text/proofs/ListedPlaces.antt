-- What is known of places that were read.
use Rattle.std.proofs.Common.{◌≡◌, ℕ, ◌≤◌, List, length, Ok}
use Rattle.state_types.specs.PlaceTypes.{PlacesRise}
use Rattle.state_types.specs.declared.types.Ty.{Ty}
use Rattle.dtal_text.specs.Listings.{rising}
use Rattle.dtal_text.specs.LineReading.{typed_place_from}
use Rattle.dtal_text.specs.OperandCode.{listed_places}
use Rattle.dtal_text.proofs.OperandTexts.{spelled-listed}
use Rattle.dtal_text.proofs.LabelTexts.{exact-rising}

pub few_listed : (bytes xs rest : List ℕ) → listed_places bytes ≡ Ok (xs, rest) → length xs ≤ 8
few_listed bytes xs rest e = (spelled-listed.found bytes xs rest e).is.fits.0

pub places_rise : (bytes : List ℕ) (xs : List (ℕ × Ty)) (rest : List ℕ) → rising 32 93 255 typed_place_from bytes ≡ Ok (xs, rest) → PlacesRise 0 xs
places_rise bytes xs rest e = (exact-rising.found bytes xs rest e).is.fits.0
