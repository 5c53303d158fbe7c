-- What is answered where a run begins, or does not.
use Rattle.std.proofs.Common.{◌≡◌, ◌≢◌, ◌∙◌, ℕ, zero, suc, List, [], ◌∷◌, length, map, Option, Some, None, Ok, Err, Result, refl, sym, ap, subst}
use Rattle.std.specs.Prelude.{slice_get, option_map}
use Rattle.std.proofs.lemmas.Option.{same_Some}
use Rattle.std.specs.Io.KnownBytes.{append_known}
use Rattle.xan_io.specs.Entry.{EntryFault}
use Rattle.xan_io.specs.Outcome as hows
use Rattle.xan_io.specs.Outcome.{How, Outcome, Stuck}
use Rattle.xan_io.specs.declared.arg.Arg.{Arg}
use Rattle.xan_io.proofs.Puts.{append_known-nil}
use Rattle.xan_io.specs.Entry as fault
use Rattle.argument_checks.specs.Checking.{HasNoFault}
use Rattle.argument_checks.specs.declared.error.ArgumentError.{ArgumentError}
use Rattle.argument_checks.specs.declared.error.ArgumentError.TheVariants as argument
use Rattle.xanadu_tree.specs.Plain as core
use Rattle.xanadu_tree.specs.PlainOf.{plain_fun}
use Rattle.xanadu_tree.specs.Shaped.{Shaped}
use Rattle.xanadu_tree.specs.declared.program.CoreFun.{CoreFun}
use Rattle.typed_core.specs.Goals.{Elaboration, elaborated}
use Rattle.typed_core.specs.Meaning.{source_fault}
use Rattle.typed_core.proofs.FunctionsFound.{function_segment}
use Rattle.source_values.specs.Halts.{Fails}
use Rattle.source_values.specs.Values.{Ending}
use Rattle.source_values.specs.declared.halt.Halt.{Halt}
use Rattle.source_values.specs.declared.halt.Halt.TheVariants as halt
use Rattle.source_evaluator.specs.Evaluating.{Evaluated, answer_of, error_of, how_of, number_lines}
use Rattle.source_evaluator.specs.Steps.{Machine}
use Rattle.source_evaluator.specs.declared.end.SourceEnd.{SourceEnd}
use Rattle.source_evaluator.specs.declared.end.SourceEnd.TheVariants as end
use Rattle.source_evaluator.proofs.MainSignature.{clean_many}

-- ---- the function `main`

pub found_in : (funs : List CoreFun) (number : ℕ) (fun : CoreFun) → Some fun ≡ slice_get funs number → slice_get (map plain_fun funs) number ≡ Some (plain_fun fun)
found_in [] number fun e = absurd (let bad : ⊥ = cc in bad)
found_in (f ∷ fs) zero fun e = ap (λ g. Some (plain_fun g)) (same_Some f fun (sym e))
found_in (f ∷ fs) (suc number) fun e = found_in fs number fun e

pub found_many : (program : core.Program) (shaped : Shaped program) (f : core.Fun) (args : List Arg) → slice_get program.funs program.main ≡ Some f → source_fault program args ≡ None
    → length args ≡ length f.params
found_many program shaped f args there clean =
    clean_many program shaped args clean ∙ ap (λ (g : core.Fun). length g.params) (same_Some shaped.main_function f (sym shaped.main_number ∙ there))

pub sig_there : (program : core.Program) (made : Elaboration) (shaped : Shaped program) → elaborated program ≡ Ok made → None ≡ slice_get made.sigs program.main → ⊥
sig_there program made shaped is none =
    let segment = function_segment program made program.main shaped.main_function is shaped.main_number in
    let e = segment.signature in
    let bad : ⊥ = cc in
    bad

-- ---- where no run begins

module _ (made : Ending Machine) (run : Outcome) (ends : (how : How) → made ≡ Err how → run ≡ record { printed = []; how = how }) where
  pub begun_well : (stop : Halt) → run.how ≢ Stuck → Fails stop made → stop ≢ halt.Stuck
  begun_well halt.NoStore safe e same = absurd (let bad : ⊥ = cc in bad)
  begun_well halt.Overflow safe e same = absurd (let bad : ⊥ = cc in bad)
  begun_well halt.FuelEnded safe e same = absurd (let bad : ⊥ = cc in bad)
  begun_well halt.Memory safe e same = absurd (let bad : ⊥ = cc in bad)
  begun_well halt.Stuck safe e same = safe (ap (λ (o : Outcome). o.how) (ends Stuck e))

  module _ (out : Option (List ℕ)) (faults : ℕ) where
    ended : (e : SourceEnd) → run ≡ record { printed = []; how = how_of e } → Evaluated None run out out faults faults (Ok e)
    ended e is = record {
      clean = refl;
      how = ap (λ (o : Outcome). o.how) is;
      lines = sym (append_known-nil out) ∙ ap (λ (o : Outcome). append_known out (number_lines o.printed)) (sym is);
      counted = refl;
    }

    pub begun_ends : (stop : Halt) → stop ≢ halt.Stuck → Fails stop made → Evaluated None run out out faults faults (answer_of stop)
    begun_ends halt.NoStore well e = ended end.NoStore (ends hows.NoStore e)
    begun_ends halt.Overflow well e = ended end.Overflow (ends hows.Overflow e)
    begun_ends halt.FuelEnded well e = ended end.FuelEnded (ends hows.Running e)
    begun_ends halt.Memory well e = record { count = 0; lines = sym (append_known-nil out); counted = refl }
    begun_ends halt.Stuck well e = absurd (well refl)

-- ---- faults of arguments

pub refused : (found : Option EntryFault) (run : Outcome) (out : Option (List ℕ)) (faults : ℕ) (error : ArgumentError) → HasNoFault found (Err error)
    → Evaluated found run out out faults faults (Err (error_of error))
refused found run out faults argument.ArgCount is = record { is = is; unsaid = refl; counted = refl }
refused found run out faults (argument.ArgKind n) is = record { is = is; unsaid = refl; counted = refl }
refused found run out faults (argument.ArgIndex n) is = record { is = is; unsaid = refl; counted = refl }
refused found run out faults (argument.EntryRow n) is = record { is = is; unsaid = refl; counted = refl }
refused found run out faults argument.Memory is = record { count = 0; lines = sym (append_known-nil out); counted = refl }
