-- Literals in turn.
use Rattle.std.proofs.Common.{◌≡◌, ℕ, Bool, true, false, cond, eqb, suc, List, [], ◌∷◌, ◌++◌, length, Result, Ok, Err, refl, ap, ◌∙◌}
use Rattle.xan_read.specs.Reader.{◌>>=◌}
use Rattle.xan_read.specs.Combinators.{literal}

-- two literals in turn are one
literal-append : (a b bytes : List ℕ) → literal (a ++ b) bytes ≡ (literal a bytes >>= literal b)
unfolding literal
literal-append [] b bytes = refl
literal-append (c ∷ a) b [] = refl
literal-append (c ∷ a) b (d ∷ bytes) = go (eqb d c) (literal-append a b bytes)
  where
    go : (t : Bool) → literal (a ++ b) bytes ≡ (literal a bytes >>= literal b) → cond t (literal (a ++ b) bytes) (Err (suc (length bytes))) ≡ (cond t (literal a bytes) (Err (suc (length bytes))) >>= literal b)
    go true more = more
    go false more = refl

pub literal_fails : (a b bytes : List ℕ) (n : ℕ) → literal a bytes ≡ Err n → literal (a ++ b) bytes ≡ Err n
literal_fails a b bytes n e = literal-append a b bytes ∙ ap (λ (r : Result (List ℕ) ℕ). r >>= literal b) e

pub literal_more : (a b bytes rest : List ℕ) → literal a bytes ≡ Ok rest → literal (a ++ b) bytes ≡ literal b rest
literal_more a b bytes rest e = literal-append a b bytes ∙ ap (λ (r : Result (List ℕ) ℕ). r >>= literal b) e
