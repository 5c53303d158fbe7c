-- Signatures, one after the other; and the first function of a name.
use Rattle.std.proofs.Common.{◌≡◌, ℕ, zero, suc, ◌+◌, ◌<◌, Bool as Truth, true, false, cond, not, List, [], ◌∷◌, ◌++◌, take, drop, map, length, get_or, Option, Some, None, option_map, Ok, Err, refl, sym, ◌∙◌, ap, arith}
use Rattle.std.specs.Prelude.{bytes_eq}
use Rattle.std.specs.List.{list_any}
use Rattle.state_types.specs.Answers.{◌>>=◌}
use Rattle.state_types.specs.declared.closed.Packed.{Packed}
use Rattle.dtal_code.specs.Declarations.{signature_verdict, at_first}
use Rattle.dtal_code.specs.Refusing.{signatures_walked}
use Rattle.dtal_code.specs.Verdicts.{Walk, at_place}
use Rattle.dtal_code.specs.declared.program.Function.{Function}
use Rattle.dtal_code.specs.declared.refusal.Refusal.{Refusal}
use Rattle.dtal_code.specs.declared.refusal.Where.TheVariants as where_is
use Rattle.dtal_verifier.specs.Code.{Refuses}
use Rattle.dtal_verifier.specs.Walks.{signature_by}
use Rattle.dtal_verifier.specs.Views.{IsAdded}
use Rattle.dtal_verifier.specs.declared.error.VerifyError.{VerifyError}
use Rattle.dtal_verifier.specs.declared.error.VerifyError.TheVariants as verify_error

abbrev pub names_before : ℕ → List Function → List (List ℕ)
names_before n funs = map (λ f. f.name) (take n funs)

-- the names before are those of the functions that are behind
one_more : (n : ℕ) (funs : List Function) (d : Function) → n < length funs → names_before (suc n) funs ≡ names_before n funs ++ (get_or funs n d).name ∷ []
one_more n [] d l = absurd (let bad : ⊥ = omega (arith, l) in bad)
one_more zero (fun ∷ funs) d l = refl
one_more (suc n) (fun ∷ funs) d l = ap (λ names. fun.name ∷ names) (one_more n funs d (omega (arith, l)))

left_is : (n : ℕ) (funs : List Function) (d : Function) → n < length funs → drop n funs ≡ get_or funs n d ∷ drop (suc n) funs
left_is n [] d l = absurd (let bad : ⊥ = omega (arith, l) in bad)
left_is zero (fun ∷ funs) d l = refl
left_is (suc n) (fun ∷ funs) d l = left_is n funs d (omega (arith, l))

-- what is found of the signature of a number
abbrev pub signed : List Packed → ℕ → List Function → Function → Walk (Unit {0})
signed table n funs d = at_place (where_is.Signature n) (signature_verdict table (names_before n funs) (get_or funs n d))

abbrev pub signed_from : List Packed → ℕ → List Function → Walk (Unit {0})
signed_from table n funs = signatures_walked table n (names_before n funs) (drop n funs)

from_here : (table : List Packed) (n : ℕ) (before more : List (List ℕ)) (fun : Function) (left later : List Function) → left ≡ fun ∷ later → more ≡ before ++ fun.name ∷ []
    → signatures_walked table n before left ≡ (at_place (where_is.Signature n) (signature_verdict table before fun) >>= λ _. signatures_walked table (suc n) more later)
unfolding signatures_walked
from_here table n before more fun left later e g = rw (e, g) refl

here : (table : List Packed) (n : ℕ) (funs : List Function) (d : Function) → n < length funs → signed_from table n funs ≡ (signed table n funs d >>= λ _. signed_from table (suc n) funs)
here table n funs d l = from_here table n (names_before n funs) (names_before (suc n) funs) (get_or funs n d) (drop n funs) (drop (suc n) funs) (left_is n funs d l) (one_more n funs d l)

-- ---- what the code finds of the signature of a number, where it knows which names are before

name_new : (table : List Packed) (n : ℕ) (fun : Function) (is_new : Truth) → at_place (where_is.Signature n) (signature_by is_new table fun) ≡ Ok tt → is_new ≡ true
unfolding signature_by
name_new table n fun true e = refl
name_new table n fun false e = cc

-- a signature that passes, and the names behind it
pub record Signed (table : List Packed) (n : ℕ) (funs : List Function) (after : List (List ℕ)) : Type 0 where
  pub walked : signed_from table n funs ≡ signed_from table (n + 1) funs
  pub names : after ≡ names_before (n + 1) funs

module _ (table : List Packed) (n : ℕ) (funs : List Function) (fun : Function) (name : List ℕ) (names after : List (List ℕ)) (is_new : Truth) (within : n < length funs)
    (is : fun ≡ get_or funs n fun) (named : name ≡ fun.name) (same : names ≡ names_before n funs) (a : IsAdded names name is_new after) where
  new_by_name : is_new ≡ not (list_any (bytes_eq fun.name) (names_before n funs))
  new_by_name = a.new ∙ ap (λ x. not (list_any (bytes_eq x) names)) named ∙ ap (λ ns. not (list_any (bytes_eq fun.name) ns)) same

  signed_by : at_place (where_is.Signature n) (signature_by is_new table fun) ≡ signed table n funs fun
  unfolding signature_by signature_verdict
  signed_by =
      ap (λ b. at_place (where_is.Signature n) (signature_by b table fun)) new_by_name
      ∙ ap (λ f. at_place (where_is.Signature n) (signature_verdict table (names_before n funs) f)) is

  next : suc n ≡ n + 1
  next = omega arith

  pub signed_turn : at_place (where_is.Signature n) (signature_by is_new table fun) ≡ Ok tt → Signed table n funs after
  signed_turn e = record {
    walked = here table n funs fun within ∙ ap (λ w. w >>= λ _. signed_from table (suc n) funs) (sym signed_by ∙ e) ∙ ap (λ k. signed_from table k funs) next;
    names = a.behind ∙ ap (λ b. cond b (names ++ name ∷ []) names) (name_new table n fun is_new e) ∙ ap (λ ns. ns ++ name ∷ []) same
        ∙ ap (λ x. names_before n funs ++ x ∷ []) (named ∙ ap (λ f. f.name) is) ∙ sym (one_more n funs fun within)
        ∙ ap (λ k. names_before k funs) next;
  }

  pub signed_not : (refusal : Refusal) → at_place (where_is.Signature n) (signature_by is_new table fun) ≡ Err refusal → signed_from table n funs ≡ Err refusal
  signed_not refusal e = here table n funs fun within ∙ ap (λ w. w >>= λ _. signed_from table (suc n) funs) (sym signed_by ∙ e)

  -- the same as the code's answer
  pub signed_refused : (error : VerifyError) → Refuses error (at_place (where_is.Signature n) (signature_by is_new table fun)) → Refuses error (signed_from table n funs)
  signed_refused (verify_error.Refused at rule) e = signed_not (record { at = at; rule = rule }) e
  signed_refused verify_error.Memory e = tt

pub main_kept : (main : Option (ℕ × Function)) → option_map (λ m. m.1) (at_first main) ≡ option_map (λ m. m.1) main
main_kept (Some main) = refl
main_kept None = refl
