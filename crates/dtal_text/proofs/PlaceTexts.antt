-- What is read as a register or a place is spelled so, and what is spelled so is read.
use Rattle.std.proofs.Common.{◌≡◌, ℕ, ◌+◌, ◌-◌, ◌<◌, ◌≤◌, Bool, true, false, nat_lt, List, ◌++◌, codes, decimal, refl, sym, ap, ◌∙◌, arith, inl, inr}
use Rattle.std.proofs.lemmas.Bool.Decides.{nat_tests}
use Rattle.xan_read.specs.Reader.{Exact}
use Rattle.xan_read.specs.Combinators.{give, in_turn, behind, IsBehind, IsMade, WhereComes, after}
use Rattle.xan_read.specs.Numbers.{number, IsNumber, NoDigit}
use Rattle.xan_read.specs.Spelled.{Any, Spelled, IsBetween}
use Rattle.xan_read.proofs.ReaderLaws.{exact-made, exact-behind, exact-where_comes, exact_as, after_other}
use Rattle.xan_read.proofs.NumberLaws.{exact-number}
use Rattle.xan_read.proofs.SpelledLaws.{spelled_number, spelled_behind}
use Rattle.dtal_code.specs.Places.{place_text, IsRegister, IsPlace}
use Rattle.dtal_text.specs.Places.{register, place}

pub register_text : (n : ℕ) → n < 16 → place_text n ≡ codes "r" ++ decimal n
register_text n h = let low : nat_lt n 16 ≡ true = grind (arith, nat_tests) in rw low refl

pub slot_text : (n : ℕ) → place_text (n + 16) ≡ codes "s" ++ decimal n
slot_text n =
    let high : nat_lt (n + 16) 16 ≡ false = grind (arith, nat_tests) in
    let same : n + 16 - 16 ≡ n = omega arith in
    rw (high, same) refl

pub exact-register : Exact register (Spelled Any IsRegister place_text) NoDigit
unfolding register
exact-register = exact_as _ (Spelled Any (IsBetween 0 15) (λ n. codes "r" ++ decimal n)) _ NoDigit NoDigit
    (spelled_behind (codes "r") _ _ _ _ NoDigit (spelled_number 0 15 (omega arith) (omega arith)))
    (λ n text s. let high = s.fits.1 in record { known = tt; fits = omega arith; is = s.is ∙ sym (register_text n (omega arith)) })
    (λ n text s. let high = s.fits in record { known = tt; fits = (omega arith, omega arith); is = s.is ∙ register_text n s.fits })
    (λ _ h. h)

abbrev IsSlot : ℕ → List ℕ → Type 0
IsSlot = IsBehind (codes "s") (IsMade (λ n. n + 16) (Spelled Any (IsBetween 0 239) decimal))

exact-slot : Exact (behind (codes "s") (in_turn (number 0 239) (λ n. give (n + 16)))) IsSlot NoDigit
exact-slot = exact-behind (codes "s") _ _ NoDigit (exact-made (λ n. n + 16) _ _ NoDigit (spelled_number 0 239 (omega arith) (omega arith)))

abbrev IsPlaceText : ℕ → List ℕ → Type 0
IsPlaceText = WhereComes 114 (IsNumber 0 15) IsSlot

place_from : (p : ℕ) (text : List ℕ) → IsPlaceText p text → Spelled Any IsPlace place_text p text
place_from p text (inl i) =
    let high = i.is.at_most in
    record { known = tt; fits = omega arith; is = i.parts ∙ ap (λ (t : List ℕ). codes "r" ++ t) i.is.is ∙ sym (register_text p (omega arith)) }
place_from p text (inr i) =
    let m = i.is in
    let high = m.is.fits.1 in
    let made = m.made in
    record {
      known = tt;
      fits = omega arith;
      is = i.parts ∙ ap (λ (t : List ℕ). codes "s" ++ t) m.is.is ∙ sym (slot_text m.value) ∙ ap place_text (sym m.made);
    }

place_to : (p : ℕ) (text : List ℕ) → Spelled Any IsPlace place_text p text → IsPlaceText p text
place_to p text s = go (nat_lt p 16) refl
  where
    go : (b : Bool) → nat_lt p 16 ≡ b → IsPlaceText p text
    go true e =
        let low : p < 16 = grind (arith, nat_tests) in
        inl (record { back = decimal p; is = record { at_least = omega arith; at_most = omega arith; is = refl }; parts = s.is ∙ register_text p low })
    go false e =
        let high : 16 ≤ p = grind (arith, nat_tests) in
        let fits = s.fits in
        let same : p ≡ (p - 16) + 16 = omega arith in
        inr (record {
          back = decimal (p - 16);
          is = record { value = p - 16; made = same; is = record { known = tt; fits = (omega arith, omega arith); is = refl } };
          parts = s.is ∙ ap place_text same ∙ slot_text (p - 16);
        })

pub exact-place : Exact place (Spelled Any IsPlace place_text) NoDigit
unfolding place
exact-place = exact_as _ IsPlaceText _ NoDigit NoDigit
    (exact-where_comes 114 _ _ (IsNumber 0 15) IsSlot NoDigit NoDigit (exact-number 0 15 (omega arith) (omega arith)) exact-slot
    (λ x text rest i h. (h, ap (λ (t : List ℕ). after 114 (t ++ rest)) i.parts ∙ after_other 114 115 (i.back ++ rest) (λ e. omega arith))))
    place_from place_to (λ _ h. h)
