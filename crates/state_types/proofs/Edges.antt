-- What an edge gives.
use Rattle.std.proofs.Common.{◌≡◌, ℕ, ◌==◌, ℤ, List, [], ◌∷◌, ◌++◌, append_assoc, Bool as Truth, true, false, cond, Option, Some, None, Ok, refl, sym, ◌∙◌, subst}
use Rattle.std.specs.List.{All, AllZip}
use Rattle.std.proofs.lemmas.Bool.Decides.{Decides-eqb}
use Rattle.std.proofs.lemmas.List.{append-nil}
use Rattle.std.proofs.lemmas.List.Elements.{All-nil, All-cons, All-head, All-tail}
use Rattle.index_sorts.specs.Entails.{Entails, AllHold}
use Rattle.xan_lin.specs.Linear.{Linear}
use Rattle.xan_lin.specs.Subst.{given_values}
use Rattle.state_types.specs.Matching.{pair_found, pair_at, pairs_at, demanded, meeting}
use Rattle.state_types.specs.PlaceTypes.{type_at}
use Rattle.state_types.specs.Sound.{Carries, PlaceFits, IsMet, NamesOwn, Fits}
use Rattle.state_types.specs.Types.{same_kind, TypeBelow}
use Rattle.state_types.specs.Words.{Headers, HasType}
use Rattle.state_types.specs.declared.pairs.Pair.{Pair}
use Rattle.state_types.specs.declared.state.StateType.{StateType}
use Rattle.state_types.specs.declared.types.Ty.{Ty}
use Rattle.state_types.proofs.MatchPairs.{paired, pair_is, length-values_from}
use Rattle.state_types.proofs.TargetSoundness.{PairCarries, PairProper, demanded_holds}
use Rattle.state_types.proofs.Thens.{then_ok, ok_same}

-- ---- pairs

-- the pair of a wanted place and its present type
pub record IsPairAt (present : List (ℕ × Ty)) (wanted : ℕ × Ty) (pair : Pair) : Type 0 where
  pub there : type_at wanted.0 present ≡ Some pair.present
  pub same : same_kind pair.wanted pair.present ≡ true
  pub is : wanted.1 ≡ pair.wanted

by_found : (present : List (ℕ × Ty)) (wanted : ℕ × Ty) (pair : Pair) (found : Option Ty) → type_at wanted.0 present ≡ found → pair_found wanted found ≡ Ok pair
    → IsPairAt present wanted pair
by_found present wanted pair None e is = absurd (let bad : ⊥ = cc in bad)
by_found present wanted pair (Some ty) e is =
    let p = pair_is wanted.0 wanted.1 ty pair is in
    let here : IsPairAt present wanted (paired wanted.1 ty) = record { there = e; same = p.0; is = refl } in
    subst (λ q. IsPairAt present wanted q) p.1 here

pub pair_at_is : (present : List (ℕ × Ty)) (wanted : ℕ × Ty) (pair : Pair) → pair_at present wanted ≡ Ok pair → IsPairAt present wanted pair
unfolding pair_at
pair_at_is present wanted pair e = by_found present wanted pair (type_at wanted.0 present) refl e

-- the pairs that were made
record Pairs (present wanted : List (ℕ × Ty)) (made all : List Pair) : Type 0 where
  pairs : List Pair
  behind : made ++ pairs ≡ all
  each : AllZip (IsPairAt present) wanted pairs

pairs_made : (present wanted : List (ℕ × Ty)) (made all : List Pair) → pairs_at present wanted made ≡ Ok all → Pairs present wanted made all
unfolding pairs_at
pairs_made present [] made all e = record { pairs = []; behind = append-nil made ∙ ok_same made all e; each = tt }
pairs_made present (wanted ∷ later) made all e =
    let s = then_ok (pair_at present wanted) (λ pair. pairs_at present later (made ++ pair ∷ [])) all e in
    let m = pairs_made present later (made ++ s.value ∷ []) all s.second in
    record {
      pairs = s.value ∷ m.pairs;
      behind = sym (append_assoc made (s.value ∷ []) m.pairs) ∙ m.behind;
      each = (pair_at_is present wanted s.value s.first, m.each);
    }

pairs_proper : (vars : ℕ) (present wanted : List (ℕ × Ty)) (pairs : List Pair) → All (λ e. TypeBelow vars e.1) wanted → AllZip (IsPairAt present) wanted pairs → All (PairProper vars) pairs
pairs_proper vars present [] [] named each = All-nil (PairProper vars)
pairs_proper vars present [] (pair ∷ pairs) named each = absurd each
pairs_proper vars present (wanted ∷ later) [] named each = absurd each
pairs_proper vars present (wanted ∷ later) (pair ∷ pairs) named each =
    let P : ℕ × Ty → Type 0 = λ e. TypeBelow vars e.1 in
    All-cons (PairProper vars) pair pairs
    (each.0.same, subst (λ ty. TypeBelow vars ty) each.0.is (All-head P wanted later named))
    (pairs_proper vars present later pairs (All-tail P wanted later named) each.1)

places_fit : (assignment given : List ℤ) (present wanted : List (ℕ × Ty)) (pairs : List Pair) → AllZip (IsPairAt present) wanted pairs → All (PairCarries assignment given) pairs
    → All (PlaceFits assignment given present) wanted
places_fit assignment given present [] [] each carry = All-nil (PlaceFits assignment given present)
places_fit assignment given present [] (pair ∷ pairs) each carry = absurd each
places_fit assignment given present (wanted ∷ later) [] each carry = absurd each
places_fit assignment given present (wanted ∷ later) (pair ∷ pairs) each carry =
    All-cons (PlaceFits assignment given present) wanted later
    (record {
      ty = pair.present;
      there = each.0.there;
      carries = subst (λ ty. Carries assignment given pair.present ty) (sym each.0.is) (All-head (PairCarries assignment given) pair pairs carry);
    })
    (places_fit assignment given present later pairs each.1 (All-tail (PairCarries assignment given) pair pairs carry))

-- ---- the edge

pub edge_sound : (state target : StateType) (values : List (ℕ × Linear)) (rows : List Linear) (assignment : List ℤ) → meeting state target values ≡ Ok rows → NamesOwn target
    → All (Entails state.ctx.rows) rows → AllHold assignment state.ctx.rows
    → IsMet assignment (given_values assignment values state.ctx.vars target.ctx.vars) state target
unfolding meeting
edge_sound state target values rows assignment e own entailed holds =
    let s = then_ok (pairs_at state.places target.places []) (λ pairs. demanded values state.ctx.vars pairs target.ctx.rows) rows e in
    let m = pairs_made state.places target.places [] s.value s.first in
    let proper = subst (λ ps. All (PairProper target.ctx.vars) ps) m.behind (pairs_proper target.ctx.vars state.places target.places m.pairs own.places m.each) in
    let both = demanded_holds values state.ctx.vars target.ctx.vars assignment state.ctx.rows rows target.ctx.rows s.value proper own.rows s.second entailed holds in
    let given = given_values assignment values state.ctx.vars target.ctx.vars in
    record {
      one_each = length-values_from assignment values state.ctx.vars 0 target.ctx.vars;
      hold = both.1;
      fit = places_fit assignment given state.places target.places m.pairs m.each (subst (λ ps. All (PairCarries assignment given) ps) (sym m.behind) both.0);
    }

-- ---- words of places

found_by : (test : Truth) (P : ℕ × Ty → Type 0) (place : ℕ) (x : ℕ × Ty) (xs : List (ℕ × Ty)) (ty : Ty) → (x.0 == place) ≡ test → P x
    → (type_at place xs ≡ Some ty → P (place, ty)) → cond test (Some x.1) (type_at place xs) ≡ Some ty → P (place, ty)
found_by true P place x xs ty same here later e =
    let is : x.1 ≡ ty = cc in
    subst (λ t. P (place, t)) is (subst (λ n. P (n, x.1)) ((Decides-eqb x.0 place).0 same) here)
found_by false P place x xs ty same here later e = later e

-- what holds of each place with its type holds of one that is found
pub type_at-all : (P : ℕ × Ty → Type 0) (place : ℕ) (xs : List (ℕ × Ty)) (ty : Ty) → All P xs → type_at place xs ≡ Some ty → P (place, ty)
type_at-all P place [] ty all e = absurd (let bad : ⊥ = cc in bad)
type_at-all P place (x ∷ xs) ty all e =
    found_by (x.0 == place) P place x xs ty refl (All-head P x xs all) (type_at-all P place xs ty (All-tail P x xs all)) e

pub met_fits : (headers : Headers) (word : ℕ → ℤ) (assignment given : List ℤ) (state target : StateType) → IsMet assignment given state target → Fits headers word assignment state
    → Fits headers word given target
met_fits headers word assignment given state target met fits = record {
  one_each = met.one_each;
  hold = met.hold;
  typed = λ k d h.
      let f = met.fit k d h in
      f.carries.carries headers (word _) (type_at-all (λ e. HasType headers assignment (word e.0) e.1) _ state.places f.ty fits.typed f.there);
}
