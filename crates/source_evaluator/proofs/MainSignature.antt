-- The signature of `main` in an elaborated core: its arguments have the faults that the source's own have, and it is one of a function that can be run.
use Rattle.std.proofs.Common.{◌≡◌, ◌∙◌, ◌<◌, ◌≤◌, ◌+◌, ◌^◌, ℕ, List, [], length, map, nat_lt, Bool as Truth, true, false, cond, Option, Some, None, Ok, refl, sym, ap, subst, arith}
use Rattle.std.specs.Prelude.{slice_get, ◌==◌}
use Rattle.std.proofs.lemmas.Bool.{eqb-true, ltb-false}
use Rattle.std.proofs.lemmas.List.{length-map}
use Rattle.std.proofs.lemmas.Option.{same_Some}
use Rattle.xan_io.specs.Entry.{EntryFault, ArgCount}
use Rattle.xan_io.specs.declared.arg.Arg.{Arg}
use Rattle.xan_lin.specs.Linear.{Linear}
use Rattle.xan_lin.specs.declared.term.LimitKind.TheVariants as limit
use Rattle.xan_lin.specs.declared.term.LimitKind.{LimitKind}
use Rattle.state_types.specs.declared.closed.Signature.{Signature}
use Rattle.state_types.specs.declared.types.Ty.{Ty}
use Rattle.state_types.proofs.Thens.{then_ok}
use Rattle.argument_checks.specs.Checking.{IsRunSignature}
use Rattle.operation_rules.specs.Entry.{entry_fault}
use Rattle.xanadu_tree.specs.Plain as core
use Rattle.xanadu_tree.specs.PlainOf.{plain_core}
use Rattle.xanadu_tree.specs.Shaped.{Shaped}
use Rattle.typed_core.specs.Forms.{forms_from, types_from, type_of}
use Rattle.typed_core.specs.Goals.{Elaboration, elaborated, body_start}
use Rattle.typed_core.specs.Headers.{signature}
use Rattle.typed_core.specs.Limits.{most, needed, within, held}
use Rattle.typed_core.specs.Meaning.{exact_form, exact_type, fault_of, source_fault}
use Rattle.typed_core.specs.Segments.{IsFunctionSegment}
use Rattle.typed_core.specs.States.{State}
use Rattle.typed_core.specs.Strays.{type_rises}
use Rattle.typed_core.specs.declared.goal.GoalAt.{GoalAt}
use Rattle.typed_core.specs.declared.note.Note.{Note}
use Rattle.typed_core.proofs.FunctionsFound.{function_segment}
use Rattle.typed_core.proofs.NamedPrograms.{declarations_are_closed, each}
use Rattle.operation_rules.specs.Sound.{IsHeader}
use Rattle.source_safety.proofs.EntryFits.{IsExact, SignatureAt, signature_is, signature_at}

few_by : (kind : LimitKind) (count : ℕ) (b : Truth) → nat_lt (most kind) count ≡ b → within kind count ≡ Ok tt → count ≤ most kind
few_by kind count true is e = absurd (let bad : ⊥ = cc in bad)
few_by kind count false is e = ltb-false (most kind) count is

rows_few : (f : core.Fun) (sig : Signature) → signature f ≡ Ok sig → length f.quant.rows ≤ most limit.Rows
unfolding signature
rows_few f sig e =
    let s = then_ok (forms_from f.quant.rows []) _ sig e in
    let t = then_ok (types_from f.params []) _ sig s.second in
    let u = then_ok (forms_from f.result_quant.rows []) _ sig t.second in
    let v = then_ok (held (type_rises f.result)) _ sig u.second in
    let w = then_ok (needed (type_of f.result)) _ sig v.second in
    let x = then_ok (within limit.Variables (f.quant.count + f.result_quant.count)) _ sig w.second in
    let y = then_ok (within limit.Rows (length f.quant.rows)) _ sig x.second in
    few_by limit.Rows (length f.quant.rows) _ refl y.first

params_few : (sig : Signature) (goals : List GoalAt) (notes : List Note) (start : State) → body_start sig goals notes ≡ Ok start → length sig.params ≤ most limit.Parameters
unfolding body_start
params_few sig goals notes start e =
    let s = then_ok (within limit.Parameters (length sig.params)) _ start e in
    few_by limit.Parameters (length sig.params) _ refl s.first

module _ (program : core.Program) (made : Elaboration) (is : elaborated program ≡ Ok made) (shaped : Shaped program) (sig : Signature)
    (there : slice_get made.sigs program.main ≡ Some sig) where
  abbrev segment : IsFunctionSegment program made program.main shaped.main_function
  segment = function_segment program made program.main shaped.main_function is shaped.main_number

  main_is : signature shaped.main_function ≡ Ok sig
  main_is =
      let from : 0 + program.main ≡ program.main = omega arith in
      let at = subst (λ n. SignatureAt shaped.main_function made.sigs n) from (signature_at program.funs [] made.sigs program.main shaped.main_function segment.headers shaped.main_number) in
      subst (λ s. signature shaped.main_function ≡ Ok s) (same_Some at.sig sig (sym at.there ∙ there)) at.is

  main_exact : IsExact shaped.main_function sig
  main_exact = signature_is shaped.main_function sig main_is

  pub main_fault : (args : List Arg) → source_fault program args ≡ entry_fault sig.vars sig.rows sig.params args
  main_fault args =
      let f = shaped.main_function in
      let x = main_exact in
      ap (λ o. fault_of o args) shaped.main_number
      ∙ ap (λ n. entry_fault n (map exact_form f.quant.rows) (map exact_type f.params) args) x.vars
      ∙ ap (λ rows. entry_fault sig.vars rows (map exact_type f.params) args) x.rows
      ∙ ap (λ params. entry_fault sig.vars sig.rows params args) x.params

  -- as many parameters as the function has
  pub main_many : length sig.params ≡ length shaped.main_function.params
  main_many = sym (ap length main_exact.params) ∙ length-map shaped.main_function.params exact_type

  pub main_runs : IsRunSignature sig
  main_runs =
      let rows = rows_few shaped.main_function sig main_is in
      let count = sym (ap length main_exact.rows) ∙ length-map shaped.main_function.quant.rows exact_form in
      let own = same_Some segment.own sig (sym segment.signature ∙ there) in
      let params = subst (λ (s : Signature). length s.params ≤ most limit.Parameters) own (params_few segment.own segment.goals segment.notes segment.start segment.begins) in
      let header = each IsHeader made.sigs program.main sig (declarations_are_closed program made.table made.sigs shaped segment.types segment.headers).headers there in
      record {
        few = omega (arith, params);
        few_rows = omega (arith, rows, count);
        params = header.params;
        rows = header.rows;
      }

many_by : (b : Truth) (args params : ℕ) (later : Option EntryFault) → (args == params) ≡ b → cond b later (Some ArgCount) ≡ None → args ≡ params
many_by true args params later is e = eqb-true args params is
many_by false args params later is e = absurd (let bad : ⊥ = cc in bad)

-- without a fault there are as many arguments as parameters
pub as_many : (vars : ℕ) (rows : List Linear) (params : List Ty) (args : List Arg) → entry_fault vars rows params args ≡ None → length args ≡ length params
unfolding entry_fault
as_many vars rows params args e = many_by (length args == length params) (length args) (length params) _ refl e

-- so it is of the source's own declared types
pub clean_many : (program : core.Program) (shaped : Shaped program) (args : List Arg) → source_fault program args ≡ None → length args ≡ length shaped.main_function.params
clean_many program shaped args clean =
    let f = shaped.main_function in
    as_many f.quant.count (map exact_form f.quant.rows) (map exact_type f.params) args (sym (ap (λ o. fault_of o args) shaped.main_number) ∙ clean)
    ∙ length-map f.params exact_type
