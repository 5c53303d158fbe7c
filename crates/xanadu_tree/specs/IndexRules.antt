-- Which index variables a form may name, and which of a quantifier's variables are known from what is quantified.
use Rattle.std.specs.Prelude.{◌≡◌, ◌≢◌, ◌⊎◌, ℕ, suc, ℤ, pos, ◌+◌, ◌<◌, ◌≤◌, List, [], ◌∷◌}
use Rattle.std.specs.List.{AllByRecursion}
use Rattle.xanadu_tree.specs.declared.linear.Linear.{Linear}
use Rattle.xanadu_tree.specs.declared.types.CoreTy.{CoreTy}
use Rattle.xanadu_tree.specs.declared.types.CoreTy.TheVariants as ty
use Rattle.xanadu_tree.specs.declared.types.Quant.{Quant}

-- the index variables of one quantifier: so many, from a first one on
pub record Stretch : Type 0 where
  pub first : ℕ
  pub count : ℕ

abbrev pub IsWithin : Stretch → ℕ → Type 0
IsWithin stretch variable = (stretch.first ≤ variable) × (variable < stretch.first + stretch.count)

-- the variable is one of these quantifiers'
abbrev pub Reaches : List Stretch → ℕ → Type 0
Reaches [] variable = ⊥
Reaches (stretch ∷ stretches) variable = IsWithin stretch variable ⊎ Reaches stretches variable

-- terms, each a coefficient and a variable: the variables rise from `low` on, and no coefficient is 0
abbrev pub AreRising : (low : ℕ) → List (ℤ × ℕ) → Type 0
AreRising low [] = Unit {0}
AreRising low (term ∷ terms) = (low ≤ term.1) × (term.0 ≢ pos 0) × AreRising (suc term.1) terms

-- a form over variables of these quantifiers
pub record IsForm (reach : List Stretch) (form : Linear) : Type 0 where
  pub rising : AreRising 0 form.terms
  pub names : AllByRecursion (λ term. Reaches reach term.1) form.terms

-- the form that is the variable alone
abbrev pub variable_form : ℕ → Linear
variable_form variable = record { terms = (pos 1, variable) ∷ []; constant = pos 0 }

-- the type's index is the variable alone, so that whoever has a value of the type knows the variable
abbrev pub Tells : ℕ → CoreTy → Type 0
Tells variable (ty.Int form) = form ≡ variable_form variable
Tells variable ty.Bool = ⊥
Tells variable (ty.Array element form) = form ≡ variable_form variable
Tells variable (ty.Named number) = ⊥

abbrev pub SomeTells : ℕ → List CoreTy → Type 0
SomeTells variable [] = ⊥
SomeTells variable (t ∷ ts) = Tells variable t ⊎ SomeTells variable ts

-- the variables of a quantifier over these types, which may name those of the quantifiers around it too
pub record IsQuantified (around : List Stretch) (own : Stretch) (rows : List Linear) (types : List CoreTy) : Type 0 where
  pub forms : AllByRecursion (IsForm (own ∷ around)) rows
  -- each of its variables is alone an index of one of the types
  pub told : (variable : ℕ) → IsWithin own variable → SomeTells variable types

-- the variables of a quantifier that begins at this one
abbrev pub stretch_of : (first : ℕ) → Quant → Stretch
stretch_of first quant = record { first = first; count = quant.count }
