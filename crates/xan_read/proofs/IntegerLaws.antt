-- The readers of integers are exact.
use Rattle.std.proofs.Common.{◌≡◌, ℕ, zero, suc, ◌^◌, ◌<◌, ◌≤◌, max, true, false, List, [], ◌∷◌, ◌++◌, None, refl, sym, ap, subst, ◌∙◌, arith, inl, inr}
use Rattle.std.specs.Prelude.{ℤ, pos, negsuc, neg_ℤ, decimal}
use Rattle.std.specs.Char.{is_ascii_digit}
use Rattle.std.proofs.lemmas.List.{append-nil}
use Rattle.xan_read.specs.Reader.{Exact}
use Rattle.xan_read.specs.Combinators.{IsMade, IsBehind, after, WhereComes}
use Rattle.xan_read.specs.Numbers.{IsNumber, NoDigit, number}
use Rattle.xan_read.specs.Integers.{number_as, negative, IsInteger, integer, IsSigned, signed}
use Rattle.xan_read.proofs.ReaderLaws.{exact-made, exact-behind, exact-where_comes, exact_as, after_other}
use Rattle.xan_read.proofs.NumberLaws.{exact-number, digit_first}

-- a number, seen as an integer
abbrev pub IsNumberAs : (ℕ → ℤ) → ℕ → ℕ → ℤ → List ℕ → Type 0
IsNumberAs make low high = IsMade make (IsNumber low high)

pub exact-number_as : (make : ℕ → ℤ) (low high : ℕ) → low ≤ high → high < 2 ^ 64 → Exact (number_as make low high) (IsNumberAs make low high) NoDigit
exact-number_as make low high order fits = exact-made make (number low high) (IsNumber low high) NoDigit (exact-number low high order fits)

-- a number begins with a digit, and so with no sign
no_sign : (c low high : ℕ) (made : ℕ → ℤ) (z : ℤ) (text rest : List ℕ) → high < 2 ^ 64 → is_ascii_digit c ≡ false → IsNumberAs made low high z text → after c (text ++ rest) ≡ None
no_sign c low high made z text rest fits none n =
    let f = digit_first low high n.value text fits n.is in
    ap (λ (t : List ℕ). after c (t ++ rest)) f.parts ∙ after_other c f.first (f.others ++ rest) (λ e. absurd (differs c f.first e none f.digit))
  where
    differs : (c b : ℕ) → b ≡ c → is_ascii_digit c ≡ false → is_ascii_digit b ≡ true → ⊥
    differs c b e none some = let same = ap is_ascii_digit e in cc

module _ (below above : ℕ) (some : 1 ≤ below) (low : below < 2 ^ 64) (high : above < 2 ^ 64) where
  integer_is : (z : ℤ) (text : List ℕ) → WhereComes 45 (IsNumberAs negative 1 below) (IsNumberAs pos 0 above) z text → IsInteger below above z text
  integer_is z text (inl b) = subst (λ (y : ℤ). IsInteger below above y text) (sym b.is.made) (go b.is.value b.is.is)
    where
      go : (n : ℕ) → IsNumber 1 below n b.back → IsInteger below above (neg_ℤ (pos n)) text
      go zero n = absurd (omega (arith, n.at_least))
      go (suc m) n = record { within = n.at_most; is = b.parts ∙ ap (λ (t : List ℕ). 45 ∷ t) n.is }
  integer_is z text (inr n) = subst (λ (y : ℤ). IsInteger below above y text) (sym n.made) (record { within = n.is.at_most; is = n.is.is })

  integer_from : (z : ℤ) (text : List ℕ) → IsInteger below above z text → WhereComes 45 (IsNumberAs negative 1 below) (IsNumberAs pos 0 above) z text
  integer_from (pos n) text i = inr (record { value = n; is = record { at_least = omega arith; at_most = i.within; is = i.is }; made = refl })
  integer_from (negsuc n) text i = inl (record { back = decimal (suc n); parts = i.is; is = record { value = suc n; is = record { at_least = omega arith; at_most = i.within; is = refl }; made = refl } })

  pub exact-integer : Exact (integer below above) (IsInteger below above) NoDigit
  unfolding integer
  exact-integer = exact_as _ (WhereComes 45 (IsNumberAs negative 1 below) (IsNumberAs pos 0 above)) (IsInteger below above) NoDigit NoDigit
      (exact-where_comes 45 _ _ (IsNumberAs negative 1 below) (IsNumberAs pos 0 above) NoDigit NoDigit (exact-number_as negative 1 below some low) (exact-number_as pos 0 above (omega arith) high)
      (λ z text rest n h. (h, no_sign 45 0 above pos z text rest high refl n)))
      integer_is integer_from (λ rest h. h)

module _ (low high : ℕ) (some : 1 ≤ high) (order : low ≤ high) (fits : high < 2 ^ 64) where
  signed_is : (z : ℤ) (text : List ℕ) → WhereComes 43 (IsNumberAs pos low high) (IsBehind (45 ∷ []) (IsNumberAs negative (max low 1) high)) z text → IsSigned low high z text
  signed_is z text (inl b) = subst (λ (y : ℤ). IsSigned low high y text) (sym b.is.made)
      (record { at_least = b.is.is.at_least; at_most = b.is.is.at_most; is = b.parts ∙ ap (λ (t : List ℕ). 43 ∷ t) b.is.is.is })
  signed_is z text (inr b) = subst (λ (y : ℤ). IsSigned low high y text) (sym b.is.made) (go b.is.value b.is.is)
    where
      go : (n : ℕ) → IsNumber (max low 1) high n b.back → IsSigned low high (neg_ℤ (pos n)) text
      go zero n = absurd (omega (arith, n.at_least))
      go (suc m) n = record { at_least = omega (arith, n.at_least); at_most = n.at_most; is = b.parts ∙ ap (λ (t : List ℕ). 45 ∷ t) n.is }

  signed_from : (z : ℤ) (text : List ℕ) → IsSigned low high z text → WhereComes 43 (IsNumberAs pos low high) (IsBehind (45 ∷ []) (IsNumberAs negative (max low 1) high)) z text
  signed_from (pos n) text i = inl (record { back = decimal n; parts = i.is; is = record { value = n; is = record { at_least = i.at_least; at_most = i.at_most; is = refl }; made = refl } })
  signed_from (negsuc n) text i = inr (record { back = decimal (suc n); parts = i.is; is = record { value = suc n; is = record { at_least = omega (arith, i.at_least); at_most = i.at_most; is = refl }; made = refl } })

  pub exact-signed : Exact (signed low high) (IsSigned low high) NoDigit
  unfolding signed
  exact-signed = exact_as _ (WhereComes 43 (IsNumberAs pos low high) (IsBehind (45 ∷ []) (IsNumberAs negative (max low 1) high))) (IsSigned low high) NoDigit NoDigit
      (exact-where_comes 43 _ _ (IsNumberAs pos low high) (IsBehind (45 ∷ []) (IsNumberAs negative (max low 1) high)) NoDigit NoDigit
      (exact-number_as pos low high order fits) (exact-behind (45 ∷ []) _ (IsNumberAs negative (max low 1) high) NoDigit (exact-number_as negative (max low 1) high (omega arith) fits))
      (λ z text rest b h. (h, ap (λ (t : List ℕ). after 43 (t ++ rest)) b.parts ∙ after_other 43 45 (b.back ++ rest) (λ e. omega arith))))
      signed_is signed_from (λ rest h. h)
