-- The program of a sum keeps the rules of a core.
use Rattle.std.proofs.Common.{◌≡◌, ◌≢◌, sym, ap, subst, ℕ, zero, suc, ◌+◌, ◌<◌, ◌≤◌, pos, [], ◌∷◌, length, map, take, get_or, replicate, Some, refl, arith, ◌∙◌, ◌⊎◌, inl, inr}
use Rattle.std.specs.Prelude.{codes, slice_get}
use Rattle.std.specs.List.{AllByRecursion, range_with_len}
use Rattle.std.proofs.lemmas.List.{length-replicate, take_all, get_or-replicate}
use Rattle.std.proofs.lemmas.List.FromFn.{length-map-range_with_len}
use Rattle.std.proofs.lemmas.Option.{slice_get-get_or}
use Rattle.xanadu_lexer.specs.declared.keyword.Keyword.{Keyword}
use Rattle.xanadu_lexer.specs.declared.keyword.Keyword.TheVariants as keyword
use Rattle.xanadu_lexer.specs.Rules.{IsLower}
use Rattle.xanadu_lexer.specs.Spelling.{keyword_text}
use Rattle.xanadu_tree.specs.declared.types.CoreTy.{CoreTy}
use Rattle.xanadu_tree.specs.declared.types.Kind.{Kind}
use Rattle.xanadu_tree.specs.declared.types.Kind.TheVariants as kind
use Rattle.xanadu_tree.specs.IndexRules.{SomeTells, variable_form}
use Rattle.xanadu_tree.specs.KindRules.{kind_of, header, Setting, IsAmong, HasKind, AreNumbers}
use Rattle.xanadu_tree.specs.BodyRules.{AreStatements, IsType}
use Rattle.xanadu_tree.specs.Shaped.{IsArgument, IsFunction, IsMain, Shaped, setting, body_start}
use Rattle.xanadu_tree.specs.Small.{int_of, number_function, number_program, IsOperand, AreSumLinks, IsSum}
use Rattle.xanadu_tree.specs.Plain as plain

-- ---- the name

begins_otherwise : (k : Keyword) → get_or (keyword_text k) 0 0 ≢ 109
begins_otherwise keyword.Fun = λ h. omega arith
begins_otherwise _ = λ h. omega arith

main_is_lower : IsLower (codes "main")
main_is_lower = record {
  word = (refl, (refl, (refl, (refl, tt))));
  other = λ k same. begins_otherwise k (ap (λ text. get_or text 0 0) (sym same));
}

-- ---- the numbers' types, which name the index variables of a range

each_of_range : (P : CoreTy → Type 0) (low count : ℕ) → ((x : ℕ) → low ≤ x → x < low + count → P (int_of x))
    → AllByRecursion P (map int_of (range_with_len low count))
each_of_range P low zero holds = tt
each_of_range P low (suc count) holds =
    (holds low (omega arith) (omega arith), each_of_range P (low + 1) count (λ x above below. holds x (omega arith) (omega arith)))

first_or_later : (x low : ℕ) → low ≤ x → (x ≡ low) ⊎ (low + 1 ≤ x)
first_or_later x low above = grind arith

told_by_range : (x low count : ℕ) → low ≤ x → x < low + count → SomeTells x (map int_of (range_with_len low count))
told_by_range x low zero above below = absurd (omega arith)
told_by_range x low (suc count) above below = here_or_later (first_or_later x low above) (λ later. told_by_range x (low + 1) count later (omega arith))
  where
    here_or_later : (x ≡ low) ⊎ (low + 1 ≤ x) → (low + 1 ≤ x → SomeTells x (map int_of (range_with_len (low + 1) count)))
        → SomeTells x (map int_of (range_with_len low (suc count)))
    here_or_later (inl same) later = inl (ap variable_form (sym same))
    here_or_later (inr above) later = inr (later above)

among_range : (x low count : ℕ) → low ≤ x → x < low + count → IsAmong (range_with_len low count) x
among_range x low zero above below = absurd (omega arith)
among_range x low (suc count) above below = here_or_later (first_or_later x low above) (λ later. among_range x (low + 1) count later (omega arith))
  where
    here_or_later : (x ≡ low) ⊎ (low + 1 ≤ x) → (low + 1 ≤ x → IsAmong (range_with_len (low + 1) count) x)
        → IsAmong (range_with_len low (suc count)) x
    here_or_later (inl same) later = inl same
    here_or_later (inr above) later = inr (later above)

some_number : pos 1 ≢ pos 0
some_number h = absurd (cc)

-- ---- the value

in_replicate : (count x : ℕ) (k : Kind) → x < count → slice_get (replicate count k) x ≡ Some k
in_replicate count x k below =
    slice_get-get_or (replicate count k) x k (subst (λ n. x < n) (sym (length-replicate count k)) below) ∙ ap Some (get_or-replicate count x k k below)

abbrev HasNumbers : Setting → ℕ → Type 0
HasNumbers set count = (x : ℕ) → x < count → slice_get set.kinds x ≡ Some kind.Int

operand_is_number : (set : Setting) (count : ℕ) (e : plain.Expr) → HasNumbers set count → IsOperand count e → HasKind set (range_with_len 0 count) e kind.Int
unfolding HasKind
operand_is_number set count (plain.Int number) has is = refl
operand_is_number set count (plain.Var x) has is = (among_range x 0 count (omega arith) (omega arith), has x is)
operand_is_number set count _ has is = absurd is

links_are_numbers : (set : Setting) (count : ℕ) (rest : plain.Links) → HasNumbers set count → AreSumLinks count rest → AreNumbers set (range_with_len 0 count) rest
unfolding HasKind
links_are_numbers set count plain.NoLink has are = tt
links_are_numbers set count (plain.ALink op e at others) has are = (operand_is_number set count e has are.1, links_are_numbers set count others has are.2)

sum_is_number : (set : Setting) (count : ℕ) (value : plain.Expr) → HasNumbers set count → IsSum count value → HasKind set (range_with_len 0 count) value kind.Int
unfolding HasKind
sum_is_number set count (plain.Chain first plain.NoLink) has is = absurd (omega (arith, is.2))
sum_is_number set count (plain.Chain first (plain.ALink op e at others)) has is =
    (refl, operand_is_number set count first has is.0, tt, links_are_numbers set count (plain.ALink op e at others) has is.1)
sum_is_number set count (plain.Int number) has is = operand_is_number set count (plain.Int number) has is
sum_is_number set count (plain.Var x) has is = operand_is_number set count (plain.Var x) has is
sum_is_number set count _ has is = absurd is

-- ---- the program

types_of_range : (count : ℕ) → AllByRecursion (IsType [] (record { first = 0; count = count } ∷ [])) (map int_of (range_with_len 0 count))
types_of_range count = each_of_range (IsType [] (record { first = 0; count = count } ∷ [])) 0 count
    (λ x above below. record { rising = (omega arith, some_number, tt); names = (inl (above, below), tt) })

no_value_has_kind : {P : Type 0} → kind.Int ≡ kind.Unit → P
no_value_has_kind same = absurd (cc)

module _ (count : ℕ) (value : plain.Expr) (return_at at : ℕ) (is : IsSum count value) where
  abbrev the_function : plain.Fun
  the_function = number_function (codes "main") count value return_at at

  abbrev the_setting : Setting
  the_setting = setting [] (header the_function ∷ []) the_function

  has_numbers : HasNumbers the_setting count
  has_numbers x below = in_replicate count x kind.Int below

  value_is_number : HasKind the_setting (range_with_len 0 (length the_function.params)) value kind.Int
  value_is_number = subst (λ n. HasKind the_setting (range_with_len 0 n) value kind.Int) (sym (length-map-range_with_len int_of 0 count))
      (sum_is_number the_setting count value has_numbers is)

  body_is : AreStatements the_setting (body_start the_function) the_function.body (body_start the_function)
  unfolding AreStatements
  body_is = (body_start the_function, ((tt, value_is_number), refl), tt, refl)

  kinds_are : (low n : ℕ) → map kind_of (map int_of (range_with_len low n)) ≡ replicate n kind.Int
  kinds_are low zero = refl
  kinds_are low (suc n) = ap (λ ks. kind.Int ∷ ks) (kinds_are (low + 1) n)

  param_kinds_are : take (length the_function.params) the_function.kinds ≡ map kind_of the_function.params
  param_kinds_are = take_all _ (replicate count kind.Int) (omega (arith, length-replicate count kind.Int, length-map-range_with_len int_of 0 count))
      ∙ sym (kinds_are 0 count)

  function_is : IsFunction [] (header the_function ∷ []) the_function
  function_is = record {
    name = main_is_lower;
    params = types_of_range count;
    quantified = record { forms = tt; told = λ x within. told_by_range x 0 count within.0 within.1 };
    result = record { rising = (omega arith, some_number, tt); names = (inl (omega arith, omega arith), tt) };
    result_quantified = record { forms = tt; told = λ x within. inl (ap variable_form (omega (arith, within.0, within.1))) };
    unit = λ same. no_value_has_kind same;
    param_kinds = param_kinds_are;
    end = body_start the_function;
    body = body_is;
    variables = length-map-range_with_len int_of 0 count ∙ sym (length-replicate count kind.Int);
    returns = refl;
  }

  main_is : IsMain the_function
  main_is = record { name = refl; params = each_of_range (λ param. IsArgument (kind_of param)) 0 count (λ x above below. tt); result = refl }

  pub sum_is_shaped : Shaped (number_program count value return_at at)
  sum_is_shaped = record {
    types = tt;
    functions = (function_is, tt);
    names = (λ named. named, tt);
    main_function = the_function;
    main_number = refl;
    main = main_is;
  }
