-- Lowered code is what emission takes whole.
use Rattle.std.proofs.Common.{◌≡◌, ℕ, suc, ◌≤◌, List, [], ◌∷◌, length, Some, slice_get, refl, subst, arith}
use Rattle.std.specs.List.{AllZip}
use Rattle.state_types.specs.Tables.{int_cell, bool_cell}
use Rattle.state_types.specs.declared.closed.Packed.{Packed}
use Rattle.state_types.specs.declared.closed.Signature.{Signature}
use Rattle.xanadu_tree.specs.declared.types.Packing.{Packing}
use Rattle.xanadu_tree.specs.Plain as core
use Rattle.xanadu_tree.specs.PlainOf.{plain_core}
use Rattle.xanadu_tree.specs.Shaped.{Shaped}
use Rattle.three_address.specs.declared.function.LowFun.{LowFun}
use Rattle.typed_core.specs.Proving.{ElaboratedParts, IsElaboration}
use Rattle.emission_laws.specs.ApartHomes.{Rise}
use Rattle.emission_laws.specs.EmittedRanges.{Each}
use Rattle.lowering.specs.CodeBlocks.{InBlocks}
use Rattle.lowering.specs.Lowered.{body_of, functions_of, lowered}
use Rattle.emission_acceptance.specs.ReadyCode.{IsShortCode}
use Rattle.lowered_acceptance.proofs.LoweredBlocks.{labels_rise}
use Rattle.lowered_acceptance.proofs.LoweredHeaded.{declared}
use Rattle.lowered_acceptance.proofs.TypesDeclared.{IsPackedOf, IsSignatureOf, IsTypeOf, as_long}

parts_short : (packings : List Packing) (packs : List Packed) → AllZip IsPackedOf packings packs → Each (λ (packing : Packing). length packing.parts ≤ 8) packings
    → Each (λ (packed : Packed). length packed.parts ≤ 8) packs
parts_short [] [] all few = tt
parts_short [] (packed ∷ packs) all few = absurd all
parts_short (packing ∷ packings) [] all few = absurd all
parts_short (packing ∷ packings) (packed ∷ packs) all few =
    (let same = as_long IsTypeOf packing.parts packed.parts all.0.parts in let f = few.0 in omega (arith, same, f), parts_short packings packs all.1 few.1)

params_short : (program : core.Program) (fs : List core.Fun) (sigs : List Signature) → AllZip IsSignatureOf fs sigs → Each (λ (f : core.Fun). length f.params ≤ 8) fs
    → Each (λ (fun : LowFun). length fun.sig.params ≤ 8) (functions_of program fs sigs)
unfolding functions_of
params_short program [] sigs all few = tt
params_short program (f ∷ fs) [] all few = tt
params_short program (f ∷ fs) (sig ∷ sigs) all few =
    (let same = as_long IsTypeOf f.params sig.params all.0.params in let h = few.0 in omega (arith, same, h), params_short program fs sigs all.1 few.1)

all_rise : (program : core.Program) (fs : List core.Fun) (sigs : List Signature) → ((n : ℕ) (f : core.Fun) → slice_get fs n ≡ Some f → InBlocks (body_of program f).code (body_of program f).labels)
    → Each (λ (fun : LowFun). Rise 0 fun.labels) (functions_of program fs sigs)
unfolding functions_of
all_rise program [] sigs blocks = tt
all_rise program (f ∷ fs) [] blocks = tt
all_rise program (f ∷ fs) (sig ∷ sigs) blocks =
    (labels_rise (body_of program f).code (body_of program f).labels (blocks 0 f refl), all_rise program fs sigs (λ n g e. blocks (suc n) g e))

module _ (base : ElaboratedParts) (shaped : Shaped (plain_core base.core)) (is : IsElaboration base.core base.made)
    (blocks : (n : ℕ) (f : core.Fun) → slice_get (plain_core base.core).funs n ≡ Some f → InBlocks (body_of (plain_core base.core) f).code (body_of (plain_core base.core) f).labels) where
  abbrev program : core.Program
  program = plain_core base.core

  abbrev IsShortTable : List Packed → Type 0
  IsShortTable table = (length table ≤ 65536) × Each (λ (packed : Packed). length packed.parts ≤ 8) table

  pub lowered_short : IsShortCode (lowered base)
  lowered_short =
      let d = declared program base.made shaped is in
      let few = d.few_types in
      let same = as_long IsPackedOf program.types d.rest d.types in
      let one : 1 ≤ 8 = omega arith in
      let here : IsShortTable (int_cell ∷ bool_cell ∷ d.rest) = (omega (arith, few, same), (one, (one, parts_short program.types d.rest d.types d.parts))) in
      let there = subst IsShortTable d.table here in
      record {
        few_types = there.0;
        parts = there.1;
        params = params_short program program.funs base.made.sigs d.sigs d.params;
        rise = all_rise program program.funs base.made.sigs blocks;
      }
