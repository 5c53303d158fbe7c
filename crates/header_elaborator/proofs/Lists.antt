-- Tests of all elements of a list.
use Rattle.std.proofs.Common.{◌≡◌, List, ◌∷◌, Bool as Truth, true}
use Rattle.std.specs.Prelude.{◌&&◌}
use Rattle.std.specs.List.{list_all}
use Rattle.xan_lin.proofs.Booleans.{both}

pub head_true : {A : Type 0} (p : A → Truth) (x : A) (xs : List A) → list_all p (x ∷ xs) ≡ true → p x ≡ true
head_true p x xs e = (both (p x) (list_all p xs) e).0

pub tail_true : {A : Type 0} (p : A → Truth) (x : A) (xs : List A) → list_all p (x ∷ xs) ≡ true → list_all p xs ≡ true
tail_true p x xs e = (both (p x) (list_all p xs) e).1

pub first_true : (a b : Truth) → (a && b) ≡ true → a ≡ true
first_true a b e = (both a b e).0

pub second_true : (a b : Truth) → (a && b) ≡ true → b ≡ true
second_true a b e = (both a b e).1
