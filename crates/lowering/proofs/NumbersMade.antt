-- What the table of labels' numbers holds: the number of a label at its position.
use Rattle.std.proofs.Common.{◌≡◌, ◌≢◌, ◌⊎◌, inl, inr, ℕ, zero, suc, ◌+◌, ◌==◌, Bool, true, false, List, [], ◌∷◌, Option, Some, None, slice_get, slice_set, replicate, refl, sym, ap, ◌∙◌, subst, arith}
use Rattle.std.proofs.lemmas.Bool.Decides.{Decides-eqb}
use Rattle.xan_seq.proofs.NumberTests.{equal}
use Rattle.lowering.specs.Emitted.{noted, numbers_onto, numbers_for, IsTable}
use Rattle.lowering.specs.Lowered.{next_number, number_of}

-- ---- a table in which a number is set

set_same : (table : List ℕ) (at number m : ℕ) → slice_get table at ≡ Some m → slice_get (slice_set table at number) at ≡ Some number
set_same [] at number m e = absurd (let bad : ⊥ = cc in bad)
set_same (x ∷ table) zero number m e = refl
set_same (x ∷ table) (suc at) number m e = set_same table at number m e

set_other : (table : List ℕ) (at p number : ℕ) → at ≢ p → slice_get (slice_set table at number) p ≡ slice_get table p
set_other [] at p number other = refl
set_other (x ∷ table) zero zero number other = absurd (other refl)
set_other (x ∷ table) zero (suc p) number other = refl
set_other (x ∷ table) (suc at) zero number other = refl
set_other (x ∷ table) (suc at) (suc p) number other = set_other table at p number (λ same. other (ap suc same))

none_set : (size p n : ℕ) → slice_get (replicate size 0) p ≡ Some (suc n) → ⊥
none_set zero p n e = cc
none_set (suc size) zero n e = cc
none_set (suc size) (suc p) n e = none_set size p n e

-- ---- labels

-- a position has its number in the table before labels, or is that of one of them
pub record Comes (table : List ℕ) (labels : List ℕ) (number p n : ℕ) : Type 0 where
  pub from : (slice_get table p ≡ Some (suc n)) ⊎ ((slice_get table p ≡ Some 0) × (suc n ≡ number + number_of labels p))

module _ (at number p n : ℕ) (table labels : List ℕ) where
  before : slice_get table p ≡ Some (suc n) → Comes table (at ∷ labels) number p n
  before e = record { from = inl e }

  later : (at == p) ≡ false → slice_get table p ≡ Some 0 → suc n ≡ suc number + number_of labels p → Comes table (at ∷ labels) number p n
  unfolding number_of
  later differs zeroed is =
      record {
        from = inr (
          zeroed,
          is ∙ (let next : suc number + number_of labels p ≡ number + suc (number_of labels p) = omega arith in next)
              ∙ ap (λ b. number + next_number b (number_of labels p)) (sym differs),
        );
      }

  here : (at == p) ≡ true → slice_get table p ≡ Some 0 → suc n ≡ suc number → Comes table (at ∷ labels) number p n
  unfolding number_of
  here same zeroed is =
      record { from = inr (zeroed, is ∙ (let next : suc number ≡ number + 1 = omega arith in next) ∙ ap (λ b. number + next_number b (number_of labels p)) (sym same)) }

  -- what the table held at the position of the label, where it is another one
  elsewhere : (b : Bool) → (at == p) ≡ b → (slice_get table at ≡ Some 0 → ⊥) → Comes table labels (suc number) p n → Comes table (at ∷ labels) number p n
  elsewhere true t held c = elim c.from [
    | inl e ↦ before e
    | inr (zeroed, is) ↦ absurd (held (subst (λ x. slice_get table x ≡ Some 0) (sym ((Decides-eqb at p).0 t)) zeroed))
  ]
  elsewhere false t held c = elim c.from [
    | inl e ↦ before e
    | inr (zeroed, is) ↦ later t zeroed is
  ]

  -- and where it is set there
  set_there : (b : Bool) → (at == p) ≡ b → slice_get table at ≡ Some 0 → Comes (slice_set table at (suc number)) labels (suc number) p n → Comes table (at ∷ labels) number p n
  set_there true t h c =
      let same = (Decides-eqb at p).0 t in
      let now : slice_get (slice_set table at (suc number)) p ≡ Some (suc number) =
      subst (λ x. slice_get (slice_set table at (suc number)) x ≡ Some (suc number)) same (set_same table at (suc number) zero h) in
      elim c.from [
        | inl e ↦ here t (subst (λ x. slice_get table x ≡ Some 0) same h) (is_number now e)
        | inr (zeroed, is) ↦ absurd (is_zero now zeroed)
      ]
    where
      is_number : slice_get (slice_set table at (suc number)) p ≡ Some (suc number) → slice_get (slice_set table at (suc number)) p ≡ Some (suc n) → suc n ≡ suc number
      is_number a b = cc

      is_zero : slice_get (slice_set table at (suc number)) p ≡ Some (suc number) → slice_get (slice_set table at (suc number)) p ≡ Some 0 → ⊥
      is_zero a b = cc
  set_there false t h c =
      let kept = set_other table at p (suc number) (λ same. differ (equal at p same) t) in
      elim c.from [
        | inl e ↦ before (sym kept ∙ e)
        | inr (zeroed, is) ↦ later t (sym kept ∙ zeroed) is
      ]
    where
      differ : (at == p) ≡ true → (at == p) ≡ false → ⊥
      differ a b = cc

  by_held : (held : Option ℕ) → slice_get table at ≡ held → Comes (noted held table at (suc number)) labels (suc number) p n → Comes table (at ∷ labels) number p n
  by_held None h c = elsewhere (at == p) refl (λ zeroed. differ h zeroed) c
    where
      differ : slice_get table at ≡ None → slice_get table at ≡ Some 0 → ⊥
      differ a b = cc
  by_held (Some (suc m)) h c = elsewhere (at == p) refl (λ zeroed. differ h zeroed) c
    where
      differ : slice_get table at ≡ Some (suc m) → slice_get table at ≡ Some 0 → ⊥
      differ a b = cc
  by_held (Some zero) h c = set_there (at == p) refl h c

pub numbers_come : (labels : List ℕ) (number p n : ℕ) (table : List ℕ) → slice_get (numbers_onto labels number table) p ≡ Some (suc n) → Comes table labels number p n
unfolding numbers_onto
numbers_come [] number p n table e = record { from = inl e }
numbers_come (at ∷ labels) number p n table e =
    by_held at number p n table labels (slice_get table at) refl (numbers_come labels (suc number) p n (noted (slice_get table at) table at (suc number)) e)

number_is : (labels : List ℕ) (size p n : ℕ) → slice_get (numbers_for labels size) p ≡ Some (suc n) → suc n ≡ number_of labels p
number_is labels size p n e = elim (numbers_come labels 0 p n (replicate size 0) e).from [
  | inl old ↦ absurd (none_set size p n old)
  | inr (zeroed, is) ↦ is ∙ (let same : 0 + number_of labels p ≡ number_of labels p = omega arith in same)
]

pub number_found : (labels table : List ℕ) (p n : ℕ) → IsTable labels table → slice_get table p ≡ Some n → n ≢ 0 → n ≡ number_of labels p
number_found labels table p zero e there some = absurd (some refl)
number_found labels table p (suc n) e there some = number_is labels e.size p n (subst (λ x. slice_get x p ≡ Some (suc n)) e.is there)
