-- The sample's line is exact: one law of a combinator a part, and what may follow each part.
use Rattle.std.proofs.Common.{◌≡◌, true, false, eqb, ℕ, zero, suc, List, [], ◌∷◌, ◌++◌, Option, Some, None, refl, sym, ap, subst, ◌∙◌, arith, inl, inr}
use Rattle.xan_lin.specs.Linear.{bound}
use Rattle.std.specs.Char.{is_ascii_digit}
use Rattle.std.proofs.lemmas.Bool.{or_left}
use Rattle.std.proofs.lemmas.List.{append-nil}
use Rattle.std.specs.Prelude.{ℤ, pos, negsuc, codes, decimal}
use Rattle.xan_read.specs.Reader.{Exact}
use Rattle.xan_read.specs.Combinators.{give, IsGiven, InTurn, IsBehind, after, next_passes}
use Rattle.xan_read.specs.Lists.{Ends}
use Rattle.xan_read.specs.Numbers.{IsNumber, NoDigit}
use Rattle.xan_read.specs.Integers.{IsInteger, IsSigned}
use Rattle.xan_read.specs.Names.{NoName}
use Rattle.test_logic.specs.ReaderSample.{keywords, register, slots, coefficient, one_integer, begins_integer, optional_integer, values, line, IsRegister, AreSlots, AreValues, IsLine}
use Rattle.xan_read.proofs.ReaderLaws.{given, passed, exact-give, exact-in_turn, exact-behind, exact-where_comes, exact-by_next, exact_as, after_other}
use Rattle.xan_read.proofs.NumberLaws.{exact-number, digit_first}
use Rattle.xan_read.proofs.IntegerLaws.{exact-integer, exact-signed}
use Rattle.xan_read.proofs.ListLaws.{exact-repeated, exact-separated, exact-closed}
use Rattle.xan_read.proofs.WordLaws.{exact-word}
use Rattle.xan_read.proofs.NameLaws.{exact-name}

exact-register : Exact register IsRegister (Ends NoDigit 58)
unfolding register
exact-register = exact-where_comes 58 _ _ _ (IsGiven None) (λ _. Unit {0}) (Ends NoDigit 58)
    (exact-in_turn _ _ (IsNumber 0 15) (λ n. IsGiven (Some n)) NoDigit (Ends NoDigit 58) (exact-number 0 15 (omega arith) (omega arith)) (λ n _ _. given (Some n) (Ends NoDigit 58))
    (λ n y back rest g h. passed (Some n) y NoDigit back rest g h.item))
    (exact-give None) (λ x text rest g h. (tt, subst (λ (t : List ℕ). after 58 (t ++ rest) ≡ None) (sym g.nothing) h.list))

exact-slots : Exact slots AreSlots (Ends NoDigit 47)
unfolding slots
exact-slots = exact-repeated 47 _ (IsNumber 0 239) NoDigit (exact-number 0 239 (omega arith) (omega arith)) (λ _. refl) 2

exact-coefficient : Exact coefficient (IsSigned 0 bound) NoDigit
unfolding coefficient
exact-coefficient = exact-signed 0 bound (omega arith) (omega arith) (omega arith)

-- an item is no mark at the end
not_closed : (z : ℤ) (text rest : List ℕ) → IsSigned 0 bound z text → after 41 (text ++ rest) ≡ None
not_closed (pos n) text rest i = ap (λ (t : List ℕ). after 41 (t ++ rest)) i.is ∙ after_other 41 43 (decimal n ++ rest) (λ e. omega arith)
not_closed (negsuc n) text rest i = ap (λ (t : List ℕ). after 41 (t ++ rest)) i.is ∙ after_other 41 45 (decimal (suc n) ++ rest) (λ e. omega arith)

exact-one : Exact one_integer (InTurn (IsInteger 9223372036854775808 9223372036854775807) (λ z. IsGiven (z ∷ []))) NoDigit
unfolding one_integer
exact-one = exact-in_turn _ _ _ (λ z. IsGiven (z ∷ [])) NoDigit NoDigit (exact-integer 9223372036854775808 9223372036854775807 (omega arith) (omega arith) (omega arith)) (λ z _ _. given (z ∷ []) NoDigit)
    (λ z y back rest g h. passed (z ∷ []) y NoDigit back rest g h)

-- an integer begins with a digit or its sign
integer_first : (z : ℤ) (text rest : List ℕ) → IsInteger 9223372036854775808 9223372036854775807 z text → next_passes begins_integer (text ++ rest) ≡ true
integer_first (pos n) text rest i =
    let f = digit_first 0 9223372036854775807 n text (omega arith) (record { at_least = omega arith; at_most = i.within; is = i.is }) in
    ap (λ (t : List ℕ). next_passes begins_integer (t ++ rest)) f.parts ∙ or_left (is_ascii_digit f.first) (eqb f.first 45) f.digit
integer_first (negsuc n) text rest i = ap (λ (t : List ℕ). next_passes begins_integer (t ++ rest)) i.is

-- what may follow the values: no byte that goes on with them
record After (rest : List ℕ) : Type 0 where
  ends : Ends NoDigit 95 rest
  none : next_passes begins_integer rest ≡ false

exact-optional : Exact optional_integer (AreValues 0) After
unfolding optional_integer
exact-optional = exact-by_next begins_integer _ _ _ (IsGiven []) (λ _. Unit {0}) After
    (exact_as _ _ _ NoDigit After exact-one (λ _ _ h. h) (λ _ _ h. h) (λ rest h. h.ends.item)) (exact-give [])
    (λ x text rest i h. ap (next_passes begins_integer) (ap (λ (t : List ℕ). t ++ rest) (i.parts ∙ ap (λ (t : List ℕ). i.front ++ t) i.second.nothing ∙ append-nil i.front)) ∙ integer_first i.value i.front rest i.first)
    (λ x text rest g h. (tt, ap (λ (t : List ℕ). next_passes begins_integer (t ++ rest)) g.nothing ∙ h.none))

exact-values : (kind : ℕ) → Exact (values kind) (AreValues kind) After
unfolding values
exact-values zero = exact-optional
exact-values (suc zero) = exact_as _ _ _ (λ _. Unit {0}) After
    (exact-closed 44 coefficient (IsSigned 0 bound) NoDigit exact-coefficient (λ _. refl) 41 (λ e. omega arith) (λ _. refl) not_closed 3) (λ _ _ h. h) (λ _ _ h. h) (λ _ _. tt)
exact-values (suc (suc n)) = exact_as _ _ _ (Ends NoDigit 95) After (exact-separated 95 coefficient (IsSigned 0 bound) NoDigit exact-coefficient (λ _. refl) 1) (λ _ _ h. h) (λ _ _ h. h) (λ _ h. h.ends)

-- what follows the slots begins with `=`, what follows the register with that or `/`, what follows the name with these or `:`
behind_slots : {Y : Type 0} (P : List ℕ → Type 0) (Q : List ℕ → Y → List ℕ → Type 0) (y : Y) (back rest : List ℕ) → ((t : List ℕ) → P (47 ∷ t)) → ((t : List ℕ) → P (61 ∷ t))
    → InTurn AreSlots (λ s. IsBehind (codes "=") (Q s)) y back → P (back ++ rest)
behind_slots P Q y back rest slash equals i = go i.value i.first
  where
    go : (xs : List ℕ) → AreSlots xs i.front → P (back ++ rest)
    go [] r = subst P (sym (ap (λ (t : List ℕ). t ++ rest) (i.parts ∙ ap (λ (t : List ℕ). t ++ i.back) r.are ∙ i.second.parts))) (equals (i.second.back ++ rest))
    go (x ∷ xs) r = subst P (sym (ap (λ (t : List ℕ). t ++ rest) (i.parts ∙ ap (λ (t : List ℕ). t ++ i.back) r.are.4))) (slash (((r.are.0 ++ r.are.1) ++ i.back) ++ rest))

behind_register : {Y : Type 0} (P : List ℕ → Type 0) (Q : Option ℕ → List ℕ → Y → List ℕ → Type 0) (y : Y) (back rest : List ℕ) → ((t : List ℕ) → P (58 ∷ t)) → ((t : List ℕ) → P (47 ∷ t)) → ((t : List ℕ) → P (61 ∷ t))
    → InTurn IsRegister (λ r. InTurn AreSlots (λ s. IsBehind (codes "=") (Q r s))) y back → P (back ++ rest)
behind_register P Q y back rest colon slash equals i = go i.first
  where
    go : IsRegister i.value i.front → P (back ++ rest)
    go (inl b) = subst P (sym (ap (λ (t : List ℕ). t ++ rest) (i.parts ∙ ap (λ (t : List ℕ). t ++ i.back) b.parts))) (colon ((b.back ++ i.back) ++ rest))
    go (inr g) = subst P (sym (ap (λ (t : List ℕ). t ++ rest) (i.parts ∙ ap (λ (t : List ℕ). t ++ i.back) g.nothing))) (behind_slots P (Q i.value) y i.back rest slash equals i.second)

other : (c b : ℕ) (t : List ℕ) → (b ≡ c → ⊥) → NoDigit (b ∷ t) → Ends NoDigit c (b ∷ t)
other c b t ne item = record { item = item; list = after_other c b t ne }

pub exact-line : Exact line IsLine (λ _. Unit {0})
unfolding line
exact-line = exact-in_turn _ _ _ _ NoName (λ _. Unit {0}) (exact-name keywords)
    (λ n _ _. exact-in_turn _ _ _ _ (Ends NoDigit 58) (λ _. Unit {0}) exact-register
    (λ r _ _. exact-in_turn _ _ _ _ (Ends NoDigit 47) (λ _. Unit {0}) exact-slots
    (λ s _ _. exact-behind (codes "=") _ _ (λ _. Unit {0}) (exact-in_turn _ _ _ _ (λ _. Unit {0}) (λ _. Unit {0}) (exact-word _ _ refl)
    (λ k _ _. exact-in_turn _ _ _ _ After (λ _. Unit {0}) (exact-values k)
    (λ zs _ _. exact-behind (codes ".") _ _ (λ _. Unit {0}) (exact-give _))
    (λ zs y back rest i h. subst (λ (t : List ℕ). After (t ++ rest)) (sym i.parts) (record { ends = other 95 46 (i.back ++ rest) (λ e. omega arith) refl; none = refl })))
    (λ _ _ _ _ _ _. tt)))
    (λ s y back rest i h. subst (λ (t : List ℕ). Ends NoDigit 47 (t ++ rest)) (sym i.parts) (other 47 61 (i.back ++ rest) (λ e. omega arith) refl)))
    (λ r y back rest i h. behind_slots (Ends NoDigit 58) _ y back rest (λ t. other 58 47 t (λ e. omega arith) refl) (λ t. other 58 61 t (λ e. omega arith) refl) i))
    (λ n y back rest i h. behind_register NoName _ y back rest (λ _. refl) (λ _. refl) (λ _. refl) i)
