-- The types, the names and the signatures of lowered code have texts.
use Rattle.std.proofs.Common.{◌≤◌, IsTrue, List, [], ◌∷◌, length, drop, subst, arith}
use Rattle.std.specs.List.{All, AllZip, AllByRecursion}
use Rattle.state_types.specs.Tables.{int_cell, bool_cell}
use Rattle.state_types.specs.declared.closed.Packed.{Packed}
use Rattle.state_types.specs.declared.closed.Signature.{Signature}
use Rattle.xanadu_tree.specs.declared.types.Packing.{Packing}
use Rattle.xanadu_tree.specs.KindRules.{Header}
use Rattle.xanadu_tree.specs.Plain as core
use Rattle.xanadu_tree.specs.PlainOf.{plain_core}
use Rattle.xanadu_tree.specs.Shaped.{Shaped, IsFunction}
use Rattle.three_address.specs.declared.function.LowFun.{LowFun}
use Rattle.typed_core.specs.Proving.{ElaboratedParts, IsElaboration}
use Rattle.dtal_code.specs.Grammar.{IsSignature, IsTypeIn}
use Rattle.dtal_code.specs.Lower.{is_lower}
use Rattle.emission_laws.specs.EmittedRanges.{Each}
use Rattle.lowering.specs.Lowered.{functions_of, lowered}
use Rattle.lowered_acceptance.specs.TextedHeaders.{HaveTexts}
use Rattle.lowered_acceptance.proofs.HeadersTexts.{all_closed_in, signature_in, name_in}
use Rattle.lowered_acceptance.proofs.LoweredHeaded.{declared}
use Rattle.lowered_acceptance.proofs.TypesDeclared.{IsPackedOf, IsSignatureOf, as_long}

module _ (types : List Packing) (rest : List Packed) (each : AllZip IsPackedOf types rest) (few : length types ≤ 1024) (program : core.Program) (headers : List Header) where
  all_named : (fs : List core.Fun) (sigs : List Signature) → AllByRecursion (IsFunction types headers) fs → Each (λ (fun : LowFun). IsTrue (is_lower fun.name)) (functions_of program fs sigs)
  unfolding functions_of
  all_named [] sigs is = tt
  all_named (f ∷ fs) [] is = tt
  all_named (f ∷ fs) (sig ∷ sigs) is = (name_in f.name is.0.name, all_named fs sigs is.1)

  all_signed : (fs : List core.Fun) (sigs : List Signature) → AllByRecursion (IsFunction types headers) fs → AllZip IsSignatureOf fs sigs → Each (λ (f : core.Fun). length f.params ≤ 8) fs
      → Each (λ (fun : LowFun). IsSignature fun.sig) (functions_of program fs sigs)
  unfolding functions_of
  all_signed [] sigs is all short = tt
  all_signed (f ∷ fs) [] is all short = tt
  all_signed (f ∷ fs) (sig ∷ sigs) is all short = (signature_in types rest each few headers f sig is.0 all.0 short.0, all_signed fs sigs is.1 all.1 short.1)

function_count : (program : core.Program) (fs : List core.Fun) (sigs : List Signature) → length (functions_of program fs sigs) ≤ length fs
unfolding functions_of
function_count program [] sigs = omega arith
function_count program (f ∷ fs) [] = omega arith
function_count program (f ∷ fs) (sig ∷ sigs) = (let h = function_count program fs sigs in omega (arith, h))

abbrev AreTyped : List Packed → Type 0
AreTyped table = (length (drop 2 table) ≤ 65534) × All IsTypeIn (drop 2 table)

pub lowered_texts : (base : ElaboratedParts) → Shaped (plain_core base.core) → IsElaboration base.core base.made → HaveTexts (lowered base)
lowered_texts base shaped is =
    let program = plain_core base.core in
    let d = declared program base.made shaped is in
    let few = d.few_types in
    let long = as_long IsPackedOf program.types d.rest d.types in
    let count = function_count program program.funs base.made.sigs in
    let few_funs = d.few_funs in
    let here : AreTyped (int_cell ∷ bool_cell ∷ d.rest) = (omega (arith, few, long), all_closed_in program.types d.rest d.types d.few_types program.types d.rest shaped.types d.types d.parts) in
    let there = subst AreTyped d.table here in
    record {
      few_types = there.0;
      types = there.1;
      few_funs = omega (arith, count, few_funs);
      names = all_named program.types d.rest d.types d.few_types program _ program.funs base.made.sigs shaped.functions;
      sigs = all_signed program.types d.rest d.types d.few_types program _ program.funs base.made.sigs shaped.functions d.sigs d.params;
    }
