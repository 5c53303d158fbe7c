-- The test of known rows says what it should, and such rows are entailed.
use Rattle.std.proofs.Common.{◌≡◌, ℤ, pos, ◌≤ℤ◌, Bool, true, false, ◌&&◌, ◌||◌, ◌⊎◌, inl, inr, List, [], ◌∷◌, get_or, ◌==◌, refl, sym, ◌∙◌, ap, subst, int_le, arith}
use Rattle.std.specs.Ordering.{int_eq}
use Rattle.std.specs.Bool.{Decides}
use Rattle.std.specs.Cmp.Lexicographic.{pointwise, pointwise_decides}
use Rattle.std.specs.List.{list_any}
use Rattle.std.proofs.lemmas.Int.{ints}
use Rattle.std.proofs.lemmas.Bool.Decides.{Decides-eqb, Decides-int_eq}
use Rattle.std.proofs.lemmas.List.Elements.{All-contains}
use Rattle.std.proofs.lemmas.List.Folds.{list_any_at}
use Rattle.std.proofs.lemmas.Map.Views.{Contains-from_any}
use Rattle.xan_lin.specs.Linear.{Linear}
use Rattle.xan_lin.specs.Value.{value_of_terms, Holds}
use Rattle.xan_lin.specs.Same.{same_form}
use Rattle.xan_lin.specs.declared.term.Term.{Term}
pub use Rattle.xan_lin.proofs.EqualForms.{Decides-same_form}
use Rattle.xan_lin.proofs.Booleans.{both, both_true}
use Rattle.index_sorts.specs.Context.{IndexContext}
use Rattle.index_sorts.specs.Known.{IsKnown, no_terms, holds_always, knows}
use Rattle.index_sorts.specs.Entails.{Entails}

-- ---- known rows

either : (a b : Bool) → (a || b) ≡ true → (a ≡ true) ⊎ (b ≡ true)
either true b e = inl refl
either false b e = inr e

first : (a b : Bool) → a ≡ true → (a || b) ≡ true
first true b e = refl
first false b e = cc

second : (a b : Bool) → b ≡ true → (a || b) ≡ true
second true b e = refl
second false b e = e

at_least_zero : (c : ℤ) → int_le (pos 0) c ≡ true → pos 0 ≤ℤ c
at_least_zero c e = grind (arith, ints)

is_at_least_zero : (c : ℤ) → pos 0 ≤ℤ c → int_le (pos 0) c ≡ true
is_at_least_zero c h = grind (arith, ints)

none : (ts : List Term) → no_terms ts ≡ true → ts ≡ []
none [] e = refl
none (t ∷ ts) e = cc

is_none : (ts : List Term) → ts ≡ [] → no_terms ts ≡ true
is_none ts e = ap no_terms e

pub Decides-knows : (context : IndexContext) (row : Linear) → Decides (knows context row) (IsKnown context row)
unfolding knows
Decides-knows context row = (
  λ e. elim (either (holds_always row) (list_any (same_form row) context.rows) e) [
    | inl h ↦ (let parts = both (no_terms row.terms) (int_le (pos 0) row.constant) h in inl (none row.terms parts.0, at_least_zero row.constant parts.1))
    | inr h ↦ inr (Contains-from_any (λ x y. (Decides-same_form x y).0) row context.rows h)
  ],
  λ h. elim h [
    | inl p ↦ first (holds_always row) (list_any (same_form row) context.rows)
        (both_true (no_terms row.terms) (int_le (pos 0) row.constant) (is_none row.terms p.0) (is_at_least_zero row.constant p.1))
    | inr p ↦ second (holds_always row) (list_any (same_form row) context.rows)
        (list_any_at (same_form row) context.rows p.0 row p.1 ((Decides-same_form row (get_or context.rows p.0 row)).1 (sym p.2)))
  ],
)

-- what the code's test answers
pub answers_known : (context : IndexContext) (row : Linear) (answer : Bool) → answer ≡ (holds_always row || list_any (same_form row) context.rows)
    → (answer ≡ knows context row) × Decides answer (IsKnown context row)
unfolding knows
answers_known context row answer e = (e, subst (λ b. Decides b (IsKnown context row)) (sym e) (Decides-knows context row))

-- ---- what is known is entailed

value-no_terms : (values : List ℤ) → value_of_terms values [] ≡ pos 0
unfolding value_of_terms
value-no_terms values = refl

holds : (values : List ℤ) (row : Linear) → row.terms ≡ [] → pos 0 ≤ℤ row.constant → Holds values row
holds values row e h =
    let none_is : value_of_terms values row.terms ≡ pos 0 = ap (value_of_terms values) e ∙ value-no_terms values in
    omega (arith, ints)

pub known-entailed : (context : IndexContext) (row : Linear) → IsKnown context row → Entails context.rows row
known-entailed context row (inl p) = record { follows = λ values all. holds values row p.0 p.1 }
known-entailed context row (inr p) = record { follows = λ values all. All-contains (Holds values) context.rows row all p }
