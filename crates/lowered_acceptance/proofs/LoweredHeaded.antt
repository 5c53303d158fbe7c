-- The types and the signatures of lowered code are as the assembly language asks.
use Rattle.std.proofs.Common.{◌≡◌, ◌≤◌, List, [], ◌∷◌, length, drop, Some, Ok, refl, sym, subst, ◌∙◌}
use Rattle.std.specs.List.{AllZip, AllByRecursion}
use Rattle.std.proofs.lemmas.Option.{same_Some}
use Rattle.xan_lin.specs.declared.term.LimitKind.TheVariants as limit
use Rattle.state_types.specs.Tables.{int_cell, bool_cell}
use Rattle.state_types.specs.declared.closed.Packed.{Packed}
use Rattle.state_types.proofs.Thens.{then_ok}
use Rattle.xanadu_tree.specs.declared.types.Packing.{Packing}
use Rattle.xanadu_tree.specs.declared.types.Kind.TheVariants as kind
use Rattle.xanadu_tree.specs.KindRules.{kind_of, result_kind}
use Rattle.xanadu_tree.specs.Plain as core
use Rattle.xanadu_tree.specs.PlainOf.{plain_core}
use Rattle.xanadu_tree.specs.Shaped.{Shaped, IsArgument}
use Rattle.three_address.specs.declared.function.LowFun.{LowFun}
use Rattle.typed_core.specs.Goals.{Elaboration, elaborated}
use Rattle.typed_core.specs.Headers.{few_parts, few_parameters, few_declarations}
use Rattle.typed_core.specs.Limits.{within}
use Rattle.typed_core.specs.Proving.{ElaboratedParts, IsElaboration}
use Rattle.typed_core.proofs.FunctionsFound.{function_segment}
use Rattle.emission_laws.specs.EmittedRanges.{Each}
use Rattle.emission_laws.specs.FollowedRuns.{main_number}
use Rattle.emission_acceptance.specs.WellHeaded.{IsWellTyped, IsWellSigned, IsMain, IsWellHeaded}
use Rattle.lowering.specs.Lowered.{functions_of, lowered}
use Rattle.lowered_acceptance.proofs.TypesDeclared.{IsPackedOf, IsSignatureOf, upto, packings_made, signatures_made}
use Rattle.lowered_acceptance.proofs.HeadersDeclared.{all_well_typed, all_well_signed, names_differ, main_there, main_kinds, function_at}

-- what elaboration declares
pub record IsDeclared (program : core.Program) (made : Elaboration) : Type 0 where
  pub rest : List Packed
  pub table : int_cell ∷ bool_cell ∷ rest ≡ made.table
  pub types : AllZip IsPackedOf program.types rest
  pub sigs : AllZip IsSignatureOf program.funs made.sigs
  pub few_types : length program.types ≤ 1024
  pub parts : Each (λ (packing : Packing). length packing.parts ≤ 8) program.types
  pub params : Each (λ (f : core.Fun). length f.params ≤ 8) program.funs
  pub few_funs : length program.funs ≤ 1024

parts_few : (packings : List Packing) (u : Unit {0}) → few_parts packings ≡ Ok u → Each (λ (packing : Packing). length packing.parts ≤ 8) packings
unfolding few_parts
parts_few [] u e = tt
parts_few (packing ∷ packings) u e =
    let a = then_ok (within limit.Parameters (length packing.parts)) (λ _. few_parts packings) u e in
    (upto limit.Parameters (length packing.parts) a.value a.first, parts_few packings u a.second)

params_few : (fs : List core.Fun) (u : Unit {0}) → few_parameters fs ≡ Ok u → Each (λ (f : core.Fun). length f.params ≤ 8) fs
unfolding few_parameters
params_few [] u e = tt
params_few (f ∷ fs) u e =
    let a = then_ok (within limit.Parameters (length f.params)) (λ _. few_parameters fs) u e in
    (upto limit.Parameters (length f.params) a.value a.first, params_few fs u a.second)

pub declared : (program : core.Program) (made : Elaboration) → Shaped program → elaborated program ≡ Ok made → IsDeclared program made
unfolding elaborated few_declarations
declared program made shaped e =
    let segment = function_segment program made program.main shaped.main_function e shaped.main_number in
    let few = then_ok (few_declarations program) _ made e in
    let a = then_ok (within limit.Functions (length program.funs)) _ few.value few.first in
    let b = then_ok (within limit.Types (length program.types)) _ few.value a.second in
    let c = then_ok (few_parts program.types) (λ _. few_parameters program.funs) few.value b.second in
    let types = packings_made program.types (int_cell ∷ bool_cell ∷ []) made.table segment.types in
    let sigs = signatures_made program.funs [] made.sigs segment.headers in
    record {
      rest = types.rest;
      table = types.is;
      types = types.each;
      sigs = subst (λ l. AllZip IsSignatureOf program.funs l) sigs.is sigs.each;
      few_types = upto limit.Types (length program.types) b.value b.first;
      parts = parts_few program.types c.value c.first;
      params = params_few program.funs few.value c.second;
      few_funs = upto limit.Functions (length program.funs) a.value a.first;
    }

-- ---- the whole

module _ (base : ElaboratedParts) (shaped : Shaped (plain_core base.core)) (is : IsElaboration base.core base.made) where
  abbrev program : core.Program
  program = plain_core base.core

  abbrev low_funs : List LowFun
  low_funs = functions_of program program.funs base.made.sigs

  abbrev IsSoHeaded : List Packed → Type 0
  IsSoHeaded table = (table ≡ int_cell ∷ bool_cell ∷ drop 2 table) × Each (IsWellTyped table) (drop 2 table) × Each (λ (fun : LowFun). IsWellSigned table fun.sig) low_funs

  pub lowered_headed : IsWellHeaded (lowered base)
  lowered_headed =
      let d = declared program base.made shaped is in
      let here : IsSoHeaded (int_cell ∷ bool_cell ∷ d.rest) =
      (refl, all_well_typed program.types d.rest d.types program.types d.rest shaped.types d.types, all_well_signed program.types d.rest d.types program _ program.funs base.made.sigs shaped.functions d.sigs) in
      let there = subst IsSoHeaded d.table here in
      record {
        table = there.0;
        types = there.1;
        sigs = there.2;
        names = names_differ program program.funs base.made.sigs shaped.names;
        main = λ fun e.
            (let at = function_at program program.funs base.made.sigs base.core.main fun d.sigs e in
            let same : shaped.main_function ≡ at.f = same_Some shaped.main_function at.f (sym shaped.main_number ∙ at.there) in
            let kinds = main_kinds at.f at.sig at.of (subst (λ (f : core.Fun). AllByRecursion (λ param. IsArgument (kind_of param)) f.params) same shaped.main.params)
            (subst (λ (f : core.Fun). result_kind f ≡ kind.Int) same shaped.main.result) in
            subst (λ (fun : LowFun). IsMain fun.sig) at.is kinds);
      }

  pub lowered_main : main_number (lowered base).funs ≡ Some (lowered base).main
  lowered_main =
      let d = declared program base.made shaped is in
      main_there program program.funs base.made.sigs base.core.main shaped.main_function d.sigs shaped.names shaped.main_number shaped.main.name
