-- What begins alike, and the parts of an answer.
use Rattle.std.proofs.Common.{◌≡◌, ℕ, List, [], ◌∷◌, ◌++◌, Result, Ok, Err, refl, sym, ap, subst, ◌∙◌}
use Rattle.xan_read.specs.Reader.{ReadOf, Alike}

abbrev pub done : {S A : Type 0} → A → List S → ReadOf S A
done x rest = Ok (x, rest)

abbrev pub failed : {A : Type 0} → ℕ → Result A ℕ
failed n = Err n

abbrev pub valued : {A : Type 0} → A → Result A ℕ
valued x = Ok x

-- `cc` does not split pairs
pub ok_parts : {S A : Type 0} (x y : A) (r s : List S) → done x r ≡ done y s → (x ≡ y) × (r ≡ s)
ok_parts {S} {A} x y r s e =
    let pairs : (x, r) ≡ (y, s) = pair_is (x, r) (y, s) e in
    (ap (λ (p : A × List S). p.0) pairs, ap (λ (p : A × List S). p.1) pairs)
  where
    pair_is : (p q : A × List S) → done p.0 p.1 ≡ done q.0 q.1 → p ≡ q
    pair_is p q e = cc

pub err_is : {A : Type 0} (m n : ℕ) → failed {A = A} m ≡ failed n → m ≡ n
err_is m n e = cc

pub alike-front : {S : Type 0} (front rest more : List S) → Alike rest more → Alike (front ++ rest) (front ++ more)
alike-front [] rest more h = h
alike-front (b ∷ front) rest more h = refl

-- the same, for symbols that are a front and the rest
pub alike_through : {S : Type 0} (symbols front rest more : List S) → symbols ≡ front ++ rest → Alike rest more → Alike symbols (front ++ more)
alike_through {S} symbols front rest more e h = subst (λ (t : List S). Alike t (front ++ more)) (sym e) (alike-front front rest more h)

pub alike_self : {S : Type 0} (rest : List S) → Alike rest rest
alike_self [] = tt
alike_self (b ∷ rest) = refl
