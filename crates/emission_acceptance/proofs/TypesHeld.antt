-- Types of places in their homes: what is read has the same types, and what is written leaves the type of every other kept place alone.
use Rattle.std.proofs.Common.{◌≡◌, ◌≢◌, ◌⊎◌, inl, inr, cond, ℕ, ◌≤◌, ◌==◌, true, false, List, [], ◌∷◌, length, map, Some, Ok, refl, sym, ap, subst, ◌∙◌, arith}
use Rattle.std.specs.List.{Contains}
use Rattle.std.proofs.lemmas.Bool.Decides.{nat_tests}
use Rattle.xan_seq.proofs.RisingKeys.{value-with}
use Rattle.state_types.proofs.Thens.{then_ok, ok_same}
use Rattle.state_types.specs.PlaceTypes.{type_at, with_type}
use Rattle.state_types.specs.declared.types.Ty.{Ty}
use Rattle.operation_rules.specs.Applied.{all_there}
use Rattle.operation_rules.specs.Faults.{or_fault}
use Rattle.operation_rules.specs.declared.error.Fault.TheVariants.{NoPlace}
use Rattle.operation_rules.proofs.RuleFacts.{or_fault_ok}
use Rattle.three_address.specs.Typing as low_types
use Rattle.dtal_code.specs.Passing as text_types
use Rattle.dtal_emit.specs.Homes.{home_of}
use Rattle.emission_laws.proofs.PlacesHeld.{same_or_other, contains_first, contains_more, contains_not, contains_none}
use Rattle.emission_acceptance.specs.TypesThrough.{AreTyped}

-- ---- one place

pub type_same : (place : ℕ) (t : Ty) (places : List (ℕ × Ty)) → type_at place (with_type place t places) ≡ Some t
type_same place t places =
    (let same : place == place ≡ true = grind (arith, nat_tests) in
    value-with place place t places ∙ ap (λ k. cond k (Some t) (type_at place places)) same)

pub type_other : (place other : ℕ) (t : Ty) (places : List (ℕ × Ty)) → place ≢ other → type_at other (with_type place t places) ≡ type_at other places
type_other place other t places differ =
    (let same : place == other ≡ false = grind (arith, nat_tests, differ) in
    value-with other place t places ∙ ap (λ k. cond k (Some t) (type_at other places)) same)

-- ---- types that are read

-- each of the places has the type beside it
abbrev pub AreThere : List (ℕ × Ty) → List ℕ → List Ty → Type 0
AreThere places [] [] = Unit {0}
AreThere places [] (t ∷ types) = ⊥
AreThere places (place ∷ reads) [] = ⊥
AreThere places (place ∷ reads) (t ∷ types) = (type_at place places ≡ Some t) × AreThere places reads types

pub there_found : (places : List (ℕ × Ty)) (reads : List ℕ) (types : List Ty) → all_there (map (λ place. type_at place places) reads) ≡ Ok types → AreThere places reads types
unfolding all_there
there_found places [] [] e = tt
there_found places [] (t ∷ types) e = absurd (let bad : ⊥ = cc in bad)
there_found places (place ∷ reads) types e =
    let a = then_ok (or_fault NoPlace (type_at place places)) _ types e in
    let b = then_ok (all_there (map (λ p. type_at p places) reads)) _ types a.second in
    subst (AreThere places (place ∷ reads)) (ok_same (a.value ∷ b.value) types b.second)
    (or_fault_ok NoPlace (type_at place places) a.value a.first, there_found places reads b.value b.first)

pub there_listed : (places : List (ℕ × Ty)) (reads : List ℕ) (types : List Ty) → AreThere places reads types → map (λ place. type_at place places) reads ≡ map Some types
there_listed places [] [] are = refl
there_listed places [] (t ∷ types) are = absurd are
there_listed places (place ∷ reads) [] are = absurd are
there_listed places (place ∷ reads) (t ∷ types) are =
    ap (λ o. o ∷ map (λ p. type_at p places) reads) are.0 ∙ ap (λ l. Some t ∷ l) (there_listed places reads types are.1)

module _ (homes : List ℕ) where
  -- what is read has the same types in its homes
  pub there_alike : (kept : ℕ → Type 0) (low text : List (ℕ × Ty)) (reads : List ℕ) (types : List Ty) → AreTyped homes kept low text
      → ((place : ℕ) → Contains reads place → kept place) → AreThere low reads types → AreThere text (map (home_of homes) reads) types
  there_alike kept low text [] [] typed keeps are = tt
  there_alike kept low text [] (t ∷ types) typed keeps are = absurd are
  there_alike kept low text (place ∷ reads) [] typed keeps are = absurd are
  there_alike kept low text (place ∷ reads) (t ∷ types) typed keeps are = (
    typed.typed place t (keeps place (contains_first place reads)) are.0,
    there_alike kept low text reads types typed (λ other c. keeps other (contains_more place other reads c)) are.1,
  )

  -- ---- types that are written

  -- before some places are written: all others that are kept behind have their types
  pub record AreAside (kept : ℕ → Type 0) (writes : List ℕ) (low text : List (ℕ × Ty)) : Type 0 where
    pub typed : (place : ℕ) (t : Ty) → kept place → ¬ (Contains writes place) → type_at place low ≡ Some t → type_at (home_of homes place) text ≡ Some t

  pub aside_all : (kept : ℕ → Type 0) (low text : List (ℕ × Ty)) → AreAside kept [] low text → AreTyped homes kept low text
  aside_all kept low text aside = record { typed = λ place t keeps e. aside.typed place t keeps (contains_none place) e }

  -- one place is written
  pub one_aside : (kept : ℕ → Type 0) (place : ℕ) (writes : List ℕ) (t : Ty) (low text : List (ℕ × Ty))
      → ((other : ℕ) → kept other → place ≢ other → home_of homes place ≢ home_of homes other) → AreAside kept (place ∷ writes) low text
      → AreAside kept writes (with_type place t low) (with_type (home_of homes place) t text)
  one_aside kept place writes t low text apart aside = record { typed = λ other u keeps out e. by_place other u keeps out e (same_or_other place other) }
    where
      by_place : (other : ℕ) (u : Ty) → kept other → ¬ (Contains writes other) → type_at other (with_type place t low) ≡ Some u → (place ≡ other) ⊎ (place ≢ other)
          → type_at (home_of homes other) (with_type (home_of homes place) t text) ≡ Some u
      by_place other u keeps out e (inl same) =
          ap (λ p. type_at (home_of homes p) (with_type (home_of homes place) t text)) (sym same) ∙ type_same (home_of homes place) t text
          ∙ sym (type_same place t low) ∙ ap (λ p. type_at p (with_type place t low)) same ∙ e
      by_place other u keeps out e (inr differ) =
          type_other (home_of homes place) (home_of homes other) t text (apart other keeps differ)
          ∙ aside.typed other u keeps (contains_not place other writes differ out) (sym (type_other place other t low differ) ∙ e)

  pub write_all : (kept : ℕ → Type 0) (writes : List ℕ) (types : List Ty) (low text : List (ℕ × Ty)) → length writes ≤ length types
      → ((written other : ℕ) → Contains writes written → kept other → written ≢ other → home_of homes written ≢ home_of homes other)
      → AreAside kept writes low text → AreTyped homes kept (low_types.with_types writes types low) (text_types.with_types (map (home_of homes) writes) types text)
  unfolding low_types.with_types text_types.with_types
  write_all kept [] types low text many apart aside = aside_all kept low text aside
  write_all kept (place ∷ writes) [] low text many apart aside = absurd (omega (arith, many))
  write_all kept (place ∷ writes) (t ∷ types) low text many apart aside =
      write_all kept writes types (with_type place t low) (with_type (home_of homes place) t text) (omega (arith, many))
      (λ written other c keeps differ. apart written other (contains_more place written writes c) keeps differ)
      (one_aside kept place writes t low text (λ other keeps differ. apart place other (contains_first place writes) keeps differ) aside)
