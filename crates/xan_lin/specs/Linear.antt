-- What is seen of a form, and when an exact result is one.
use Rattle.std.specs.Prelude.{◌^◌, ◌-◌, ℕ, ◌<◌, ◌≤◌, ℤ, pos, ◌+ℤ◌, ◌-ℤ◌, ◌*ℤ◌, neg_ℤ, Bool, ◌&&◌, IsTrue, List, [], ◌∷◌, length, nat_lt, unsigned_abs, Result, Ok, Err, if◌then◌else◌}
use Rattle.std.specs.List.{All, list_all}
use Rattle.xan_lin.specs.Terms.{IsRising, sum_terms, negated_terms, scaled_terms}
use Rattle.xan_lin.specs.declared.term.TheConstants.{BOUND}
use Rattle.xan_lin.specs.declared.term.Term.{Term}
use Rattle.xan_lin.specs.declared.term.TooLarge.{TooLarge}
use Rattle.xan_lin.specs.declared.term.TooLarge.TheVariants.{Terms, Magnitude}

pub record Linear : Type 0 where
  pub terms : List Term
  pub constant : ℤ

-- the greatest magnitude of a number of a form
abbrev pub bound : ℕ
bound = unsigned_abs BOUND

-- its magnitude is at most the bound, which is 2 ^ 62 - 1
abbrev pub is_within : ℤ → Bool
is_within n = nat_lt (unsigned_abs n) (2 ^ 62)

abbrev pub all_within : List Term → Bool
all_within ts = list_all (λ t. is_within t.coef) ts

-- what holds of every form
pub record IsForm (form : Linear) : Type 0 where
  pub rising : IsRising 0 form.terms
  pub few : length form.terms ≤ 16
  pub small : IsTrue (all_within form.terms)
  pub small_constant : IsTrue (is_within form.constant)

-- the form that is the variable
abbrev pub variable_form : ℕ → Linear
variable_form var = record { terms = record { var = var; coef = pos 1 } ∷ []; constant = pos 0 }

-- the form names only variables below `vars`
abbrev pub NamesBelow : ℕ → Linear → Type 0
NamesBelow vars form = All (λ t. t.var < vars) form.terms

-- each number of these terms and of the constant is
abbrev pub are_within : List Term → ℤ → Bool
are_within ts constant = all_within ts && is_within constant

-- the form of an exact result: first its terms must be few enough, and then each of its numbers small enough
unfoldable pub sized : List Term → ℤ → Result Linear TooLarge
sized ts constant =
    if nat_lt 16 (length ts) then Err Terms
    else if are_within ts constant then Ok (record { terms = ts; constant = constant })
    else Err Magnitude

abbrev pub sum_of : Linear → Linear → Result Linear TooLarge
sum_of e f = sized (sum_terms e.terms f.terms) (e.constant +ℤ f.constant)

abbrev pub difference_of : Linear → Linear → Result Linear TooLarge
difference_of e f = sized (sum_terms e.terms (negated_terms f.terms)) (e.constant -ℤ f.constant)

abbrev pub product_of : Linear → ℤ → Result Linear TooLarge
product_of e by = sized (scaled_terms e.terms by) (e.constant *ℤ by)

-- the row that holds exactly where `e` is greater than `f`: e - f - 1
unfoldable pub excess_of : Linear → Linear → Result Linear TooLarge
excess_of e f = sized (sum_terms e.terms (negated_terms f.terms)) ((e.constant -ℤ f.constant) -ℤ pos 1)

-- the row that holds exactly where the row `e` does not: -e - 1
abbrev pub negated_row_of : Linear → Result Linear TooLarge
negated_row_of e = sized (negated_terms e.terms) (neg_ℤ e.constant -ℤ pos 1)

-- the sum of terms of any order, and a constant
abbrev pub form_of : List Term → ℤ → Result Linear TooLarge
form_of ts constant = sized (sum_terms ts []) constant

-- the number, or another one past the bound where it is past it
abbrev pub cut_number : ℤ → ℤ
cut_number n = if is_within n then n else pos (2 ^ 63 - 1)
