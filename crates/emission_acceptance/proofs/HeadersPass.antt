-- The types and the signatures of the emitted program pass, and there is a `main`.
use Rattle.std.proofs.Common.{◌≡◌, ◌≢◌, ℕ, suc, ◌+◌, ◌≤◌, Bool as Truth, true, false, not, ◌&&◌, ◌||◌, List, [], ◌∷◌, ◌++◌, length, option_map, Option, Some, None, Ok, refl, sym, ap, ◌∙◌, arith, subst, slice_get, if◌then◌else◌}
use Rattle.std.specs.Prelude.{bytes_eq, codes}
use Rattle.std.specs.List.{All, list_all, list_any}
use Rattle.std.proofs.lemmas.Bool.{and_from}
use Rattle.std.proofs.lemmas.Slice.Eq.{bytes_eq-Decides}
use Rattle.std.proofs.lemmas.Option.{none-some, same_Some}
use Rattle.std.proofs.lemmas.List.Elements.{All-nil, All-cons}
use Rattle.xan_lin.specs.Linear.{Linear, NamesBelow}
use Rattle.state_types.specs.Answers.{◌>>=◌}
use Rattle.state_types.specs.Tables.{IsClosed}
use Rattle.state_types.specs.Types.{TypeBelow}
use Rattle.state_types.specs.declared.closed.Packed.{Packed}
use Rattle.state_types.specs.declared.closed.Signature.{Signature}
use Rattle.state_types.specs.declared.state.StateType.{StateType}
use Rattle.state_types.specs.declared.types.Ty.{Ty}
use Rattle.operation_rules.specs.Sound.{IsHeader}
use Rattle.three_address.specs.Typing.{TypeExists}
use Rattle.three_address.specs.declared.function.LowFun.{LowFun}
use Rattle.three_address.specs.declared.typed.Edge.{Edge}
use Rattle.dtal_code.specs.Acceptance.{SignaturesPass}
use Rattle.dtal_code.specs.Declarations.{type_exists, types_exist, are_alone, form_is_below, rows_are_below, type_is_below, types_are_below, are_few, packed_verdict, names_own, signature_verdict, at_first, main_or, main_of, is_argument_kind, is_answer_kind, program_verdict}
use Rattle.dtal_code.specs.Verdicts.{asks, found}
use Rattle.dtal_code.specs.declared.program.Function.{Function}
use Rattle.dtal_code.specs.declared.program.DtalProgram.{DtalProgram}
use Rattle.dtal_code.specs.declared.refusal.Rule.TheVariants as rule
use Rattle.dtal_emit.specs.Emitted.{emitted_fun, emitted_funs}
use Rattle.emission_laws.specs.EmittedRanges.{Each}
use Rattle.emission_laws.specs.FollowedRuns.{main_number}
use Rattle.emission_acceptance.specs.WellHeaded.{IsWellTyped, IsWellSigned, NamesDiffer, IsMain}
use Rattle.emission_acceptance.proofs.StatedLabels.{exists, type_below, few_test}
use Rattle.emission_acceptance.proofs.WaysPass.{tested_all, form_below}

-- ---- tests

types_there : (table : List Packed) (types : List Ty) → All (TypeExists table) types → types_exist table types ≡ true
types_there table types all = tested_all (TypeExists table) (type_exists table) (exists table) types all

rows_below : (vars : ℕ) (rows : List Linear) → All (NamesBelow vars) rows → rows_are_below vars rows ≡ true
rows_below vars rows all = tested_all (NamesBelow vars) (form_is_below vars) (form_below vars) rows all

types_below : (vars : ℕ) (types : List Ty) → All (TypeBelow vars) types → types_are_below vars types ≡ true
types_below vars types all = tested_all (TypeBelow vars) (type_is_below vars) (type_below vars) types all

-- ---- a type

pub packed_passes : (table : List Packed) (packed : Packed) → IsWellTyped table packed → IsClosed packed → packed_verdict table packed ≡ Ok tt
unfolding packed_verdict
packed_passes table packed well closed =
    ap (λ t. asks t rule.NoType >>= (λ _. asks (are_alone 0 packed.vars packed.parts) rule.Alone >>= (λ _. asks (rows_are_below packed.vars packed.rows && types_are_below packed.vars packed.parts) rule.Form
    >>= (λ _. asks (are_few packed.vars packed.rows) rule.Size)))) (types_there table packed.parts well.exist)
    ∙ ap (λ t. asks t rule.Alone >>= (λ _. asks (rows_are_below packed.vars packed.rows && types_are_below packed.vars packed.parts) rule.Form
    >>= (λ _. asks (are_few packed.vars packed.rows) rule.Size))) well.alone
    ∙ ap (λ t. asks t rule.Form >>= (λ _. asks (are_few packed.vars packed.rows) rule.Size))
    (and_from _ _ (rows_below packed.vars packed.rows closed.rows) (types_below packed.vars packed.parts closed.parts))
    ∙ ap (λ t. asks t rule.Size) (few_test packed.vars packed.rows well.few_vars well.few_rows)

pub types_pass : (table types : List Packed) → Each (IsWellTyped table) types → Each IsClosed types → All (λ packed. packed_verdict table packed ≡ Ok tt) types
types_pass table [] well closed = All-nil (λ packed. packed_verdict table packed ≡ Ok tt)
types_pass table (packed ∷ types) well closed =
    All-cons (λ packed. packed_verdict table packed ≡ Ok tt) packed types (packed_passes table packed well.0 closed.0) (types_pass table types well.1 closed.1)

-- ---- a signature

own_names : (sig : Signature) → IsHeader sig → names_own sig ≡ true
unfolding names_own
own_names sig header =
    and_from _ _ (and_from _ _ (and_from _ _ (rows_below sig.vars sig.rows header.rows) (types_below sig.vars sig.params header.params))
    (rows_below (sig.vars + sig.result_vars) sig.result_rows header.result_rows)) (type_below (sig.vars + sig.result_vars) sig.result header.result)

signature_passes : (table : List Packed) (before : List (List ℕ)) (fun : Function) → list_any (bytes_eq fun.name) before ≡ false → IsWellSigned table fun.sig → IsHeader fun.sig
    → signature_verdict table before fun ≡ Ok tt
unfolding signature_verdict
signature_passes table before fun other well header =
    let sig = fun.sig in
    let few = and_from _ _ (few_test sig.vars sig.rows well.few_vars well.few_rows) (few_test sig.result_vars sig.result_rows well.few_result_vars well.few_result_rows) in
    ap (λ t. asks (not t) rule.Name >>= (λ _. asks (types_exist table (sig.result ∷ sig.params)) rule.NoType
    >>= (λ _. asks (are_alone 0 sig.vars sig.params && are_alone sig.vars sig.result_vars (sig.result ∷ [])) rule.Alone >>= (λ _. asks (names_own sig) rule.Form
    >>= (λ _. asks (are_few sig.vars sig.rows && are_few sig.result_vars sig.result_rows) rule.Size))))) other
    ∙ ap (λ t. asks t rule.NoType
    >>= (λ _. asks (are_alone 0 sig.vars sig.params && are_alone sig.vars sig.result_vars (sig.result ∷ [])) rule.Alone >>= (λ _. asks (names_own sig) rule.Form
    >>= (λ _. asks (are_few sig.vars sig.rows && are_few sig.result_vars sig.result_rows) rule.Size)))) (types_there table (sig.result ∷ sig.params) well.exist)
    ∙ ap (λ t. asks t rule.Alone >>= (λ _. asks (names_own sig) rule.Form
    >>= (λ _. asks (are_few sig.vars sig.rows && are_few sig.result_vars sig.result_rows) rule.Size))) (and_from _ _ well.alone well.result_alone)
    ∙ ap (λ t. asks t rule.Form >>= (λ _. asks (are_few sig.vars sig.rows && are_few sig.result_vars sig.result_rows) rule.Size)) (own_names sig header)
    ∙ ap (λ t. asks t rule.Size) few

-- ---- names

-- no later function has one of these names
abbrev pub NewNames : List (List ℕ) → List LowFun → Type 0
NewNames before funs = Each (λ (fun : LowFun). list_any (bytes_eq fun.name) before ≡ false) funs

one_more_name : (name other : List ℕ) (before : List (List ℕ)) → list_any (bytes_eq other) before ≡ false → name ≢ other → list_any (bytes_eq other) (before ++ name ∷ []) ≡ false
one_more_name name other [] e differ = by_test (bytes_eq other name) refl
  where
    by_test : (t : Truth) → bytes_eq other name ≡ t → (t || false) ≡ false
    by_test true s = absurd (differ (sym ((bytes_eq-Decides other name).0 s)))
    by_test false s = refl
one_more_name name other (b ∷ before) e differ = by_test (bytes_eq other b) e (λ f. one_more_name name other before f differ)
  where
    by_test : (t : Truth) → (t || list_any (bytes_eq other) before) ≡ false → (list_any (bytes_eq other) before ≡ false → list_any (bytes_eq other) (before ++ name ∷ []) ≡ false)
        → (t || list_any (bytes_eq other) (before ++ name ∷ [])) ≡ false
    by_test true f later = absurd (let bad : ⊥ = cc in bad)
    by_test false f later = later f

still_new : (name : List ℕ) (before : List (List ℕ)) (funs : List LowFun) → NewNames before funs → Each (λ (other : LowFun). name ≢ other.name) funs → NewNames (before ++ name ∷ []) funs
still_new name before [] new differ = tt
still_new name before (fun ∷ funs) new differ = (one_more_name name fun.name before new.0 differ.0, still_new name before funs new.1 differ.1)

pub signatures_pass : (table : List Packed) (before : List (List ℕ)) (funs : List LowFun) (states : List (List StateType)) (edges : List (List Edge)) (homes : List (List ℕ))
    → NewNames before funs → NamesDiffer funs → Each (λ (fun : LowFun). IsWellSigned table fun.sig) funs → Each (λ (fun : LowFun). IsHeader fun.sig) funs
    → SignaturesPass table before (emitted_funs funs states edges homes)
unfolding emitted_funs
signatures_pass table before [] states edges homes new differ well headers = tt
signatures_pass table before (fun ∷ funs) [] edges homes new differ well headers = tt
signatures_pass table before (fun ∷ funs) (labels ∷ states) [] homes new differ well headers = tt
signatures_pass table before (fun ∷ funs) (labels ∷ states) (es ∷ edges) [] new differ well headers = tt
signatures_pass table before (fun ∷ funs) (labels ∷ states) (es ∷ edges) (hs ∷ homes) new differ well headers = (
  signature_passes table before (emitted_fun fun labels es hs) new.0 well.0 headers.0,
  signatures_pass table (before ++ fun.name ∷ []) funs states edges homes (still_new fun.name before funs new.1 differ.0) differ.1 well.1 headers.1,
)

-- ---- main

pub record HasMain (found : Option (ℕ × Function)) (sig : Signature) : Type 0 where
  pub main : ℕ × Function
  pub is : found ≡ Some main
  pub same : main.1.sig ≡ sig

main_behind : (found : Option (ℕ × Function)) (sig : Signature) → HasMain found sig → HasMain (at_first found) sig
main_behind found sig h = record { main = (suc h.main.0, h.main.1); is = ap at_first h.is; same = h.same }

main_later : (sig : Signature) (funs : List LowFun) (found : Option (ℕ × Function)) (fun : LowFun) (o : Option ℕ) (n : ℕ) (f : LowFun) → option_map suc o ≡ Some n
    → slice_get (f ∷ funs) n ≡ Some fun → ((m : ℕ) → o ≡ Some m → slice_get funs m ≡ Some fun → HasMain found sig) → HasMain found sig
main_later sig funs found fun None n f e t go = absurd (none-some n e)
main_later sig funs found fun (Some m) n f e t go = go m refl (subst (λ k. slice_get (f ∷ funs) k ≡ Some fun) (sym (same_Some (suc m) n e)) t)

main_by : (b : Truth) (one : Function) (f fun : LowFun) (funs : List LowFun) (found : Option (ℕ × Function)) (o : Option ℕ) (n : ℕ) → one.sig ≡ f.sig
    → (if b then Some 0 else option_map suc o) ≡ Some n → slice_get (f ∷ funs) n ≡ Some fun
    → ((m : ℕ) → o ≡ Some m → slice_get funs m ≡ Some fun → HasMain found fun.sig) → HasMain (main_or b one found) fun.sig
main_by true one f fun funs found o n sig e t go =
    let same : f ≡ fun = same_Some f fun (subst (λ k. slice_get (f ∷ funs) k ≡ Some fun) (sym (same_Some 0 n e)) t) in
    record { main = (0, one); is = refl; same = sig ∙ ap (λ (x : LowFun). x.sig) same }
main_by false one f fun funs found o n sig e t go = main_behind found fun.sig (main_later fun.sig funs found fun o n f e t go)

pub main_found : (funs : List LowFun) (states : List (List StateType)) (edges : List (List Edge)) (homes : List (List ℕ)) (number : ℕ) (fun : LowFun)
    → length funs ≤ length states → length funs ≤ length edges → length funs ≤ length homes → main_number funs ≡ Some number → slice_get funs number ≡ Some fun
    → HasMain (main_of (emitted_funs funs states edges homes)) fun.sig
unfolding emitted_funs main_of main_number
main_found [] states edges homes number fun s e h is there = absurd (none-some number is)
main_found (f ∷ funs) [] edges homes number fun s e h is there = absurd (omega (arith, s))
main_found (f ∷ funs) (labels ∷ states) [] homes number fun s e h is there = absurd (omega (arith, e))
main_found (f ∷ funs) (labels ∷ states) (es ∷ edges) [] number fun s e h is there = absurd (omega (arith, h))
main_found (f ∷ funs) (labels ∷ states) (es ∷ edges) (hs ∷ homes) number fun s e h is there =
    main_by (bytes_eq f.name (codes "main")) (emitted_fun f labels es hs) f fun funs (main_of (emitted_funs funs states edges homes)) (main_number funs) number refl is there
    (λ m o t. main_found funs states edges homes m fun (omega (arith, s)) (omega (arith, e)) (omega (arith, h)) o t)

pub main_passes : (program : DtalProgram) (sig : Signature) → HasMain (main_of program.funs) sig → IsMain sig → program_verdict program ≡ Ok tt
unfolding program_verdict
main_passes program sig has kinds =
    ap (λ o. found o rule.Main >>= (λ main. asks (list_all is_argument_kind main.1.sig.params && is_answer_kind main.1.sig.result) rule.Main)) has.is
    ∙ ap (λ (s : Signature). asks (list_all is_argument_kind s.params && is_answer_kind s.result) rule.Main) has.same
    ∙ ap (λ t. asks t rule.Main) kinds.kinds
