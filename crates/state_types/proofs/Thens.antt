-- What follows where all parts of an answer in turn are there.
use Rattle.std.proofs.Common.{◌≡◌, Result, Ok, Err, refl}
use Rattle.xan_lin.specs.declared.term.TooLarge.{TooLarge}
use Rattle.state_types.specs.Answers.{◌>>=◌, within_bounds}

pub record Then {A B E : Type 0} (m : Result A E) (next : A → Result B E) (y : B) : Type 0 where
  pub value : A
  pub first : m ≡ Ok value
  pub second : next value ≡ Ok y

pub then_ok : {A B E : Type 0} (m : Result A E) (next : A → Result B E) (y : B) → (m >>= next) ≡ Ok y → Then m next y
then_ok (Ok x) next y e = record { value = x; first = refl; second = e }
then_ok (Err f) next y e = absurd (let bad : ⊥ = cc in bad)

pub within_ok : {A : Type 0} (r : Result A TooLarge) (x : A) → within_bounds r ≡ Ok x → r ≡ Ok x
within_ok (Ok y) x e = cc
within_ok (Err f) x e = cc

pub ok_same : {A E : Type 0} (x y : A) → (let r : Result A E = Ok x in r) ≡ Ok y → x ≡ y
ok_same x y e = cc
