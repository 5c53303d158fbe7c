-- The code of a proved core agrees with the core, both ways.
use Rattle.std.proofs.Common.{◌≡◌, ◌≢◌, ◌∙◌, ℕ, suc, ◌+◌, List, Option, Some, None, Result, Ok, Err, cond, true, false, Bool as Flag, map, length, [], slice_get, refl, sym, ap, subst}
use Rattle.std.proofs.lemmas.Option.{same_Some}
use Rattle.state_types.proofs.Thens.{then_ok, ok_same}
use Rattle.state_types.specs.declared.closed.Signature.{Signature}
use Rattle.state_types.specs.declared.types.Ty.{Ty}
use Rattle.xan_io.specs.Agreement.{Agree, Agrees, BeginAlike, Follows}
use Rattle.xan_io.specs.Entry.{EntryFault, unless_faulty}
use Rattle.xan_io.specs.Outcome.{Outcome, Stuck}
use Rattle.xan_io.specs.declared.arg.Arg.{Arg}
use Rattle.xan_io.proofs.ForwardSimulation.{agrees}
use Rattle.xan_lin.specs.declared.term.LimitKind.TheVariants as limit
use Rattle.operation_rules.specs.Entry.{entry_fault}
use Rattle.proof_lines.specs.declared.line.Line.{Line}
use Rattle.three_address.specs.Entry as low
use Rattle.three_address.specs.Entry.{low_outcome, low_entry}
use Rattle.three_address.proofs.LowSteps.{outcome-steady}
use Rattle.xanadu_tree.specs.KindRules.{kind_of, gives_value}
use Rattle.xanadu_tree.specs.Plain as core
use Rattle.xanadu_tree.specs.PlainOf.{plain_core}
use Rattle.xanadu_tree.specs.Shaped.{Shaped}
use Rattle.xanadu_tree.specs.declared.types.CoreTy.{CoreTy}
use Rattle.xanadu_tree.specs.declared.types.CoreTy.TheVariants as core_ty
use Rattle.xanadu_tree.specs.declared.types.Kind.{Kind}
use Rattle.xanadu_tree.specs.declared.types.Kind.TheVariants as kind
use Rattle.typed_core.specs.Forms.{form_of, type_of, forms_from, types_from}
use Rattle.typed_core.specs.Headers.{signature}
use Rattle.typed_core.specs.Limits.{needed, within, held}
use Rattle.typed_core.specs.Meaning.{exact_form, exact_type, fault_of, source_fault, source_run, source_outcome, source_entry, no_log}
use Rattle.typed_core.specs.Proving.{ElaboratedParts, IsElaboration, ProveAll}
use Rattle.typed_core.specs.SourceRuns.{Run}
use Rattle.typed_core.specs.SourceValues.{Number}
use Rattle.typed_core.specs.Strays.{type_rises}
use Rattle.lowering.specs.Lowered.{lowered}
use Rattle.source_safety.specs.Standing.{GoalsHold, Fares}
use Rattle.source_safety.specs.Values.{tag_for}
use Rattle.source_safety.specs.Whole.{GivesResult, NoneIsStuck}
use Rattle.source_safety.proofs.NeverStuck.{run_fares, never_stuck, goals_proved}
use Rattle.lowering_simulation.specs.Results.{GivesNumber}
use Rattle.lowering_simulation.proofs.FunctionsStand.{segment, low_there, exact, is_exact, funs_go}
use Rattle.lowering_simulation.proofs.RunsFollow.{run_follows}

-- ---- the result of `main` is a number

needed_is : {A : Type 0} (r : _) (x : A) → needed r ≡ Ok x → r ≡ Ok x
needed_is (Ok y) x e = cc
needed_is (Err why) x e = absurd (let bad : ⊥ = cc in bad)

result_is : (f : core.Fun) (sig : Signature) → signature f ≡ Ok sig → type_of f.result ≡ Ok sig.result
unfolding signature
result_is f sig e =
    let s = then_ok (forms_from f.quant.rows []) _ sig e in
    let t = then_ok (types_from f.params []) _ sig s.second in
    let u = then_ok (forms_from f.result_quant.rows []) _ sig t.second in
    let v = then_ok (held (type_rises f.result)) _ sig u.second in
    let w = then_ok (needed (type_of f.result)) _ sig v.second in
    let x = then_ok (within limit.Variables (f.quant.count + f.result_quant.count)) _ sig w.second in
    let y = then_ok (within limit.Rows (length f.quant.rows)) _ sig x.second in
    let z = then_ok (within limit.Rows (length f.result_quant.rows)) _ sig y.second in
    needed_is (type_of f.result) w.value w.first ∙ ap (λ (g : Signature). let r : Result Ty _ = Ok g.result in r) (ok_same _ sig z.second)

number_type : (t : CoreTy) (u : Ty) → kind_of t ≡ kind.Int → type_of t ≡ Ok u → tag_for u ≡ Number
unfolding type_of
number_type (core_ty.Int form) u k e = (let s = then_ok (form_of form) _ u e in ap tag_for (sym (ok_same _ u s.second)))
number_type core_ty.Bool u k e = absurd (let bad : ⊥ = cc in bad)
number_type (core_ty.Array element form) u k e = absurd (let bad : ⊥ = cc in bad)
number_type (core_ty.Named number) u k e = absurd (let bad : ⊥ = cc in bad)

number_kind : (gives : Flag) (k : Kind) → cond gives k kind.Unit ≡ kind.Int → k ≡ kind.Int
number_kind true k e = e
number_kind false k e = absurd (let bad : ⊥ = cc in bad)

module _ (base : ElaboratedParts) (elaborated : IsElaboration base.core base.made) (shaped : Shaped (plain_core base.core)) where
  abbrev program : core.Program
  program = plain_core base.core

  -- ---- runs follow

  pub code_follows : (args : List Arg) (heap depth fuel : ℕ) → (source_outcome program args heap depth fuel).how ≢ Stuck
      → GivesNumber (source_run no_log tt (suc fuel) program args heap depth fuel)
      → Follows (low_outcome (lowered base) args heap depth) fuel (source_outcome program args heap depth fuel)
  code_follows args heap depth fuel well number =
      run_follows no_log tt (lowered base).funs program (funs_go base elaborated shaped no_log) args heap fuel depth well number

  main_number : (sig : Signature) → slice_get base.made.sigs program.main ≡ Some sig → tag_for sig.result ≡ Number
  main_number sig there =
      let f = shaped.main_function in
      let at = exact base elaborated shaped program.main f shaped.main_number in
      let same : at.sig ≡ sig = same_Some at.sig sig (sym at.there ∙ there) in
      subst (λ (s : Signature). tag_for s.result ≡ Number) same
      (number_type f.result at.sig.result (number_kind (gives_value f.body) (kind_of f.result) shaped.main.result) (result_is f at.sig at.is))

  proved_number : (args : List Arg) (heap depth fuel : ℕ) → GoalsHold base.made.goals → source_fault program args ≡ None
      → GivesNumber (source_run no_log tt (suc fuel) program args heap depth fuel)
  proved_number args heap depth fuel goals fault v st e =
      let fares = run_fares no_log tt program base.made shaped elaborated goals args fault (suc fuel) heap depth fuel in
      let came = (subst (λ m. Fares (λ v (new : Run (Unit {0})). GivesResult program base.made args v new.store) m) e fares).is in
      came.came.has.tagged ∙ main_number came.sig came.there

  -- ---- faults of arguments

  pub same_fault : (args : List Arg) → source_fault program args ≡ low.fault_of (slice_get (lowered base).funs (lowered base).main) args
  same_fault args =
      let f = shaped.main_function in
      let own = (segment base elaborated shaped program.main f shaped.main_number).own in
      let x = is_exact base elaborated shaped program.main f shaped.main_number in
      ap (λ o. fault_of o args) shaped.main_number
      ∙ ap (λ n. entry_fault n (map exact_form f.quant.rows) (map exact_type f.params) args) x.vars
      ∙ ap (λ rows. entry_fault own.vars rows (map exact_type f.params) args) x.rows
      ∙ ap (λ params. entry_fault own.vars own.rows params args) x.params
      ∙ ap (λ o. low.fault_of o args) (sym (low_there base elaborated shaped program.main f shaped.main_number))

  begin_alike : (o p : Option EntryFault) (source machine : ℕ → Outcome) → o ≡ p → (o ≡ None → Agrees source machine)
      → BeginAlike (unless_faulty o source) (unless_faulty p machine)
  begin_alike None None source machine e h = h refl
  begin_alike (Some a) (Some b) source machine e h = same_Some a b e
  begin_alike None (Some b) source machine e h = absurd (let bad : ⊥ = cc in bad)
  begin_alike (Some a) None source machine e h = absurd (let bad : ⊥ = cc in bad)

  pub proved_code_follows : (lines : List (List Line)) → ProveAll base.made.goals lines → (args : List Arg) (heap depth : ℕ) → source_fault program args ≡ None → (fuel : ℕ)
      → Follows (low_outcome (lowered base) args heap depth) fuel (source_outcome program args heap depth fuel)
  proved_code_follows lines proved args heap depth fault fuel =
      code_follows args heap depth fuel
      (subst (λ o. NoneIsStuck (unless_faulty o (source_outcome program args heap depth))) fault (never_stuck program base.made lines shaped elaborated proved args heap depth) fuel)
      (proved_number args heap depth fuel (goals_proved base.made.goals lines proved) fault)

  pub proved_code_agrees : (lines : List (List Line)) → ProveAll base.made.goals lines → Agree (source_entry program) (low_entry (lowered base))
  proved_code_agrees lines proved args heap depth is_run =
      begin_alike (source_fault program args) _ (source_outcome program args heap depth) (low_outcome (lowered base) args heap depth) (same_fault args)
      (λ fault.
      agrees (source_outcome program args heap depth) (low_outcome (lowered base) args heap depth) (outcome-steady _ _)
      (proved_code_follows lines proved args heap depth fault))
