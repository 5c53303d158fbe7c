-- What tests say, and what is known where they hold.
use Rattle.std.proofs.Common.{◌≡◌, ◌≢◌, ◌↔◌, ℕ, zero, suc, ℤ, pos, negsuc, List, [], ◌∷◌, nat_le, Bool as Truth, true, false, IsTrue, Result, Ok, Err, refl, sym}
use Rattle.std.specs.Prelude.{◌&&◌, not}
use Rattle.std.specs.List.{All, list_all}
use Rattle.std.proofs.lemmas.Bool.{false≢true, leb-true, le-leb}
use Rattle.xan_lin.specs.Linear.{Linear, NamesBelow}
use Rattle.xan_lin.specs.Subst.{VariablesRise}
use Rattle.xan_lin.specs.declared.term.TooLarge.{TooLarge}
use Rattle.xan_lin.proofs.Booleans.{both, both_true}
use Rattle.state_types.specs.Tables.{IsClosed}
use Rattle.state_types.specs.Types.{TypeBelow}
use Rattle.state_types.specs.declared.closed.Packed.{Packed}
use Rattle.state_types.specs.declared.types.Ty.{Ty}
use Rattle.operation_rules.specs.Named.{IsNamed}
use Rattle.xanadu_tree.specs.IndexRules.{AreRising}
use Rattle.typed_core.specs.Strays.{is_zero, terms_rise, values_rise, form_below, row_below, type_below, is_closed}
use Rattle.typed_core.proofs.NamedJoins.{terms_test}
use Rattle.typed_core.proofs.NamedStates.{form_test, test_form, test_type, test_all}

same_truth : {P : Type 0} (a b : Truth) → (IsTrue a ↔ P) → (P → b ≡ true) → (b ≡ true → P) → a ≡ b
same_truth true b h f g = sym (f (h.0 refl))
same_truth false true h f g = absurd (false≢true (h.1 (g refl)))
same_truth false false h f g = refl

-- ---- what rises

not_zero : (c : ℤ) → not (is_zero c) ≡ true → c ≢ pos 0
not_zero (pos zero) e = absurd (let bad : ⊥ = cc in bad)
not_zero (pos (suc n)) e = λ h. cc
not_zero (negsuc n) e = λ h. cc

pub rising_of : (low : ℕ) (ts : List (ℤ × ℕ)) → terms_rise low ts ≡ true → AreRising low ts
unfolding terms_rise
rising_of low [] e = tt
rising_of low (t ∷ ts) e =
    let b = both (nat_le low t.1) (not (is_zero t.0) && terms_rise (suc t.1) ts) e in
    let c = both (not (is_zero t.0)) (terms_rise (suc t.1) ts) b.1 in
    (leb-true low t.1 b.0, not_zero t.0 c.0, rising_of (suc t.1) ts c.1)

pub same_rise : (b : Truth) (ts : List (ℤ × ℕ)) → (IsTrue b ↔ AreRising 0 ts) → b ≡ terms_rise 0 ts
same_rise b ts h = same_truth b (terms_rise 0 ts) h (terms_test 0 ts) (rising_of 0 ts)

values_test : (low : ℕ) (vs : List (ℕ × Linear)) → VariablesRise low vs → values_rise low vs ≡ true
unfolding values_rise
values_test low [] h = refl
values_test low (v ∷ vs) h = both_true (nat_le low v.0) (values_rise (suc v.0) vs) (le-leb low v.0 h.0) (values_test (suc v.0) vs h.1)

pub test_values : (low : ℕ) (vs : List (ℕ × Linear)) → values_rise low vs ≡ true → VariablesRise low vs
unfolding values_rise
test_values low [] e = tt
test_values low (v ∷ vs) e = (let b = both (nat_le low v.0) (values_rise (suc v.0) vs) e in (leb-true low v.0 b.0, test_values (suc v.0) vs b.1))

pub same_values : (b : Truth) (vs : List (ℕ × Linear)) → (IsTrue b ↔ VariablesRise 0 vs) → b ≡ values_rise 0 vs
same_values b vs h = same_truth b (values_rise 0 vs) h (values_test 0 vs) (test_values 0 vs)

-- ---- what is named

pub same_below : (b : Truth) (n : ℕ) (form : Linear) → (IsTrue b ↔ NamesBelow n form) → b ≡ form_below n form
same_below b n form h = same_truth b (form_below n form) h (form_test n form) (test_form n form)

named_row : (n : ℕ) (row : Result Linear TooLarge) → row_below n row ≡ true → IsNamed n row
named_row n (Ok row) e = test_form n row e
named_row n (Err why) e = tt

pub rows_named : (n : ℕ) (rows : List (Result Linear TooLarge)) → list_all (row_below n) rows ≡ true → All (IsNamed n) rows
rows_named n rows e = test_all (row_below n) (IsNamed n) (λ row h. named_row n row h) rows e

pub forms_named : (n : ℕ) (rows : List Linear) → list_all (form_below n) rows ≡ true → All (NamesBelow n) rows
forms_named n rows e = test_all (form_below n) (NamesBelow n) (λ row h. test_form n row h) rows e

pub types_named : (n : ℕ) (types : List Ty) → list_all (type_below n) types ≡ true → All (TypeBelow n) types
types_named n types e = test_all (type_below n) (TypeBelow n) (λ t h. test_type n t h) types e

pub closed_of : (packed : Packed) → is_closed packed ≡ true → IsClosed packed
closed_of packed e =
    let b = both (list_all (form_below packed.vars) packed.rows) (list_all (type_below packed.vars) packed.parts) e in
    record { rows = forms_named packed.vars packed.rows b.0; parts = types_named packed.vars packed.parts b.1 }
