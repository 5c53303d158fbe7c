-- Where a run of an accepted program begins, as its object and the signature of `main` say.
use Rattle.std.proofs.Common.{◌≡◌, ◌∙◌, ap, refl, sym, subst, arith, ℕ, zero, suc, ◌+◌, ◌<◌, ◌≤◌, ◌==◌, ◌&&◌, not, nat_le, Bool as Truth, true, false, List, [], ◌∷◌, ◌++◌, length, get_or, option_map, codes, bytes_eq, Option, Some, None, Result, Ok, Err, if◌then◌else◌}
use Rattle.std.specs.List.{list_any, slice_get, slice_index_or}
use Rattle.std.proofs.lemmas.Bool.{and_parts, leb-true}
use Rattle.std.proofs.lemmas.Bool.Decides.{Decides-eqb}
use Rattle.std.proofs.lemmas.Option.{slice_get-get_or, same_Some}
use Rattle.xan_io.specs.declared.arg.Arg.{Arg}
use Rattle.xan_io.specs.Entry as fault
use Rattle.xan_io.specs.Entry.{EntryFault, unless_faulty}
use Rattle.xan_lin.specs.Linear.{Linear}
use Rattle.state_types.specs.declared.closed.Packed.{Packed}
use Rattle.state_types.specs.declared.closed.Signature.{Signature}
use Rattle.state_types.specs.declared.types.Ty.{Ty}
use Rattle.state_types.proofs.Thens.{then_ok}
use Rattle.operation_rules.specs.Entry.{kind_fault, index_fault, row_fault, variable_values, or_else, entry_fault, placed}
use Rattle.operation_rules.specs.FlatWords.{flat_words}
use Rattle.operation_rules.specs.Sound as sound
use Rattle.dtal_code.specs.declared.limits.TheConstants.{MOST_VARIABLES, MOST_ROWS}
use Rattle.dtal_code.specs.declared.object.Object.{Object}
use Rattle.dtal_code.specs.declared.program.Function.{Function}
use Rattle.dtal_code.specs.declared.program.DtalProgram.{DtalProgram}
use Rattle.dtal_code.specs.declared.refusal.Rule.TheVariants as rule
use Rattle.dtal_code.specs.Acceptance.{Accepted, SignaturesPass}
use Rattle.dtal_code.specs.Declarations.{main_or, main_of, table_of, types_exist, are_alone, are_few, names_own, signature_verdict}
use Rattle.dtal_code.specs.Grammar.{IsFunction, size_of}
use Rattle.dtal_code.specs.Machine.{State}
use Rattle.dtal_code.specs.ObjectCode.{Code, starts_from, start_or, start_of, program_size}
use Rattle.dtal_code.specs.ObjectWords.{IsObject}
use Rattle.dtal_code.specs.Runs.{empty_store, entry_state, entry_of, program_entry}
use Rattle.dtal_code.specs.Verdicts.{asks}
use Rattle.dtal_code.proofs.NamedDeclarations.{asked}
use Rattle.dtal_safety.proofs.Lookups.{all_at}
use Rattle.dtal_safety.proofs.NamedParts.{functions_headers}
use Rattle.dtal_machine.specs.declared.loading.LoadError.{LoadError}
use Rattle.dtal_machine.specs.declared.loading.LoadError.TheVariants as load
use Rattle.dtal_machine.specs.Loading.{IsProgramOf, IsEntrySignature, HasNoFault, begins, Loads}
use Rattle.dtal_machine.specs.Placing.{BeginsAt}
use Rattle.dtal_machine.specs.Steps.{Live}

-- ---- the function `main`

main_behind : (fun : Function) (funs : List Function) (found : Option (ℕ × Function)) (number : ℕ) (main : Function) → main_of funs ≡ found
    → ((n : ℕ) → main_of funs ≡ Some (n, main) → slice_get funs n ≡ Some main)
    → main_or false fun found ≡ Some (number, main) → slice_get (fun ∷ funs) number ≡ Some main
main_behind fun funs None number main is more e = absurd (let bad : ⊥ = cc in bad)
main_behind fun funs (Some inner) number main is more e =
    let n : suc inner.0 ≡ number = (let same : (suc inner.0, inner.1) ≡ (number, main) = same_Some (suc inner.0, inner.1) (number, main) e in ap (λ (p : ℕ × Function). p.0) same) in
    let f : inner.1 ≡ main = (let same : (suc inner.0, inner.1) ≡ (number, main) = same_Some (suc inner.0, inner.1) (number, main) e in ap (λ (p : ℕ × Function). p.1) same) in
    ap (slice_get (fun ∷ funs)) (sym n) ∙ more inner.0 (is ∙ ap (λ (g : Function). Some (inner.0, g)) f)

main_by : (test : Truth) (fun : Function) (funs : List Function) (number : ℕ) (main : Function)
    → ((n : ℕ) → main_of funs ≡ Some (n, main) → slice_get funs n ≡ Some main)
    → main_or test fun (main_of funs) ≡ Some (number, main) → slice_get (fun ∷ funs) number ≡ Some main
main_by true fun funs number main more e =
    let same : (0, fun) ≡ (number, main) = same_Some (0, fun) (number, main) e in
    ap (slice_get (fun ∷ funs)) (sym (ap (λ (p : ℕ × Function). p.0) same)) ∙ ap Some (ap (λ (p : ℕ × Function). p.1) same)
main_by false fun funs number main more e = main_behind fun funs (main_of funs) number main refl more e

pub main_there : (funs : List Function) (number : ℕ) (main : Function) → main_of funs ≡ Some (number, main) → slice_get funs number ≡ Some main
unfolding main_of
main_there [] number main e = absurd (let bad : ⊥ = cc in bad)
main_there (fun ∷ funs) number main e = main_by (bytes_eq fun.name (codes "main")) fun funs number main (λ n f. main_there funs n main f) e

get_within : {A : Type 0} (xs : List A) (n : ℕ) (x : A) → slice_get xs n ≡ Some x → n < length xs
get_within [] n x e = absurd (let bad : ⊥ = cc in bad)
get_within (y ∷ xs) zero x e = omega arith
get_within (y ∷ xs) (suc n) x e = (let less = get_within xs n x e in omega (arith, less))

starts_length : (start : ℕ) (funs : List Function) → length (starts_from start funs) ≡ length funs
unfolding starts_from
starts_length start [] = refl
starts_length start (fun ∷ funs) = ap suc (starts_length (start + size_of fun.blocks) funs)

-- ---- its signature

rows_few : (table : List Packed) (before : List (List ℕ)) (fun : Function) → signature_verdict table before fun ≡ Ok tt → length fun.sig.rows ≤ MOST_ROWS
unfolding signature_verdict
rows_few table before fun e =
    let one = then_ok (asks (not (list_any (bytes_eq fun.name) before)) rule.Name) _ tt e in
    let two = then_ok (asks (types_exist table (fun.sig.result ∷ fun.sig.params)) rule.NoType) _ tt one.second in
    let three = then_ok (asks (are_alone 0 fun.sig.vars fun.sig.params && are_alone fun.sig.vars fun.sig.result_vars (fun.sig.result ∷ [])) rule.Alone) _ tt two.second in
    let four = then_ok (asks (names_own fun.sig) rule.Form) _ tt three.second in
    let few = asked (are_few fun.sig.vars fun.sig.rows && are_few fun.sig.result_vars fun.sig.result_rows) rule.Size tt four.second in
    let own = and_parts (are_few fun.sig.vars fun.sig.rows) (are_few fun.sig.result_vars fun.sig.result_rows) few in
    let parts = and_parts (nat_le fun.sig.vars MOST_VARIABLES) (nat_le (length fun.sig.rows) MOST_ROWS) own.0 in
    leb-true (length fun.sig.rows) MOST_ROWS parts.1

rows_few_at : (table : List Packed) (before : List (List ℕ)) (funs : List Function) (number : ℕ) (fun : Function) → SignaturesPass table before funs
    → slice_get funs number ≡ Some fun → length fun.sig.rows ≤ MOST_ROWS
rows_few_at table before [] number fun pass e = absurd (let bad : ⊥ = cc in bad)
rows_few_at table before (first ∷ funs) zero fun pass e = subst (λ (f : Function). length f.sig.rows ≤ MOST_ROWS) (same_Some first fun e) (rows_few table before first pass.0)
rows_few_at table before (first ∷ funs) (suc number) fun pass e = rows_few_at table (before ++ first.name ∷ []) funs number fun pass.1 e

pub main_signature : (object : Object) (sig : Signature) (program : DtalProgram) → IsProgramOf object sig program → IsEntrySignature sig
main_signature object sig program is =
    let there = main_there program.funs is.number is.fun is.is_main in
    let own = all_at IsFunction program.funs is.number is.fun is.accepted.grammar.funs there in
    let header = all_at (λ (f : Function). sound.IsHeader f.sig) program.funs is.number is.fun (functions_headers program is.accepted) there in
    let rows = rows_few_at (table_of program) [] program.funs is.number is.fun is.accepted.signatures there in
    let entry : IsEntrySignature is.fun.sig = record { few = own.sig.few; can_check = record { few = omega (arith, own.sig.few); few_rows = omega (arith, rows); params = header.params; rows = header.rows } } in
    subst IsEntrySignature is.sig_is entry

-- ---- where it begins

pub main_within : (object : Object) (sig : Signature) (program : DtalProgram) → IsProgramOf object sig program → object.main < length object.starts
main_within object sig program is =
    let there = main_there program.funs is.number is.fun is.is_main in
    let less = get_within program.funs is.number is.fun there in
    let number : is.number ≡ object.main = same_Some is.number object.main (sym (ap (option_map (λ (m : ℕ × Function). m.0)) is.is_main) ∙ is.object_is.main) in
    let count = ap length is.object_is.starts ∙ starts_length 0 program.funs in
    omega (arith, less, number, count)

pub entry_is : (object : Object) (sig : Signature) (program : DtalProgram) → IsProgramOf object sig program → (args : List Arg) (heap depth : ℕ)
    → program_entry program args heap depth
    ≡ unless_faulty (entry_fault sig.vars sig.rows sig.params args) (entry_state (slice_index_or object.starts object.main 0) depth (placed flat_words args (empty_store heap)))
unfolding program_entry
entry_is object sig program is args heap depth =
    let number : is.number ≡ object.main = same_Some is.number object.main (sym (ap (option_map (λ (m : ℕ × Function). m.0)) is.is_main) ∙ is.object_is.main) in
    let within = main_within object sig program is in
    let found : slice_get (starts_from 0 program.funs) is.number ≡ Some (slice_index_or object.starts object.main 0) =
    ap (slice_get (starts_from 0 program.funs)) number ∙ ap (λ (ss : List ℕ). slice_get ss object.main) (sym is.object_is.starts) ∙ slice_get-get_or object.starts object.main 0 within in
    let begun : Signature → ℕ → Result (Option State) EntryFault = λ s start. unless_faulty (entry_fault s.vars s.rows s.params args) (entry_state start depth (placed flat_words args (empty_store heap))) in
    ap (λ main. entry_of main (start_of program main) args heap depth) is.is_main
    ∙ ap (λ o. begun is.fun.sig (start_or (program_size program.funs) o)) found ∙ ap (λ s. begun s (slice_index_or object.starts object.main 0)) is.sig_is

-- ---- answers

pub loads_fault : (code : Code) (found : Option EntryFault) (rest : Option State) (error : LoadError) → HasNoFault found (Err error) → Loads (begins code (unless_faulty found rest)) (Err error)
loads_fault code found rest load.ArgCount is = ap (λ f. begins code (unless_faulty f rest)) is
loads_fault code found rest (load.ArgKind n) is = ap (λ f. begins code (unless_faulty f rest)) is
loads_fault code found rest (load.ArgIndex n) is = ap (λ f. begins code (unless_faulty f rest)) is
loads_fault code found rest (load.EntryRow n) is = ap (λ f. begins code (unless_faulty f rest)) is
loads_fault code found rest load.NoStore is = absurd is
loads_fault code found rest load.Memory is = tt

pub loads_none : (code : Code) (found : Option EntryFault) (rest : Option State) → found ≡ None → rest ≡ None → begins code (unless_faulty found rest) ≡ Err load.NoStore
loads_none code found rest none no_state = ap (λ f. begins code (unless_faulty f rest)) none ∙ ap (λ s. begins code (Ok s)) no_state

pub loads_error : (code : Code) (found : Option EntryFault) (rest : Option State) (error : LoadError) → found ≡ None → BeginsAt rest (Err error)
    → Loads (begins code (unless_faulty found rest)) (Err error)
loads_error code found rest load.NoStore none is = loads_none code found rest none is
loads_error code found rest load.Memory none is = tt
loads_error code found rest load.ArgCount none is = absurd is
loads_error code found rest (load.ArgKind n) none is = absurd is
loads_error code found rest (load.ArgIndex n) none is = absurd is
loads_error code found rest (load.EntryRow n) none is = absurd is

pub loads_run : (code : Code) (found : Option EntryFault) (rest : Option State) (state : State) → found ≡ None → rest ≡ Some state
    → begins code (unless_faulty found rest) ≡ Ok (record { code = code; now = Live state })
loads_run code found rest state none is = ap (λ f. begins code (unless_faulty f rest)) none ∙ ap (λ s. begins code (Ok s)) is

by_count : (test : Truth) (args params : ℕ) (later : Option EntryFault) → (args == params) ≡ test → (if test then later else Some fault.ArgCount) ≡ None → args ≡ params
by_count true args params later is none = (Decides-eqb args params).0 is
by_count false args params later is none = absurd (let bad : ⊥ = cc in bad)

pub as_many : (vars : ℕ) (rows : List Linear) (params : List Ty) (args : List Arg) → entry_fault vars rows params args ≡ None → length args ≡ length params
unfolding entry_fault
as_many vars rows params args none =
    let values = variable_values 0 vars args params in
    by_count (length args == length params) (length args) (length params) (or_else (kind_fault 1 args params) (or_else (index_fault 1 values args params) (row_fault 1 values rows))) refl none

-- ---- the signature

pub record IsMain (program : DtalProgram) (number : ℕ) : Type 0 where
  pub fun : Function
  pub is_main : main_of program.funs ≡ Some (number, fun)
  pub there : slice_get program.funs number ≡ Some fun

main_found : (program : DtalProgram) (found : Option (ℕ × Function)) (number : ℕ) → main_of program.funs ≡ found → option_map (λ main. main.0) found ≡ Some number → IsMain program number
main_found program None number is e = absurd (let bad : ⊥ = cc in bad)
main_found program (Some main) number is e =
    let same : main.0 ≡ number = same_Some main.0 number e in
    let found : main_of program.funs ≡ Some (number, main.1) = is ∙ ap (λ (n : ℕ). Some (n, main.1)) same in
    record { fun = main.1; is_main = found; there = main_there program.funs number main.1 found }

pub main_is : (program : DtalProgram) (object : Object) → IsObject program object → IsMain program object.main
main_is program object is = main_found program (main_of program.funs) object.main refl is.main

pub is_within : (program : DtalProgram) (number : ℕ) → IsMain program number → number < length program.funs
is_within program number main = get_within program.funs number main.fun main.there

pub program_of : (program : DtalProgram) (object : Object) (fun : Function) → Accepted program → IsObject program object → fun ≡ get_or program.funs object.main fun
    → IsProgramOf object fun.sig program
program_of program object fun accepted is read =
    let main = main_is program object is in
    let same : main.fun ≡ fun = same_Some main.fun fun (sym main.there ∙ slice_get-get_or program.funs object.main fun (is_within program object.main main) ∙ ap Some (sym read)) in
    record { accepted = accepted; object_is = is; number = object.main; fun = main.fun; is_main = main.is_main; sig_is = ap (λ (f : Function). f.sig) same }
