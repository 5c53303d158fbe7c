-- Each function of an elaborated core stands in its lowered code, within the places of an activation, and has the signature of its header.
use Rattle.std.proofs.Common.{◌≡◌, ◌∙◌, ℕ, zero, suc, ◌+◌, ◌≤◌, List, [], ◌∷◌, map, slice_get, Some, sym, ap, subst, arith}
use Rattle.std.specs.List.{AllByRecursion}
use Rattle.std.proofs.lemmas.Option.{same_Some}
use Rattle.three_address.specs.declared.function.TheConstants.{PLACES}
use Rattle.three_address.specs.declared.instruction.LowInstr.{LowInstr}
use Rattle.xanadu_tree.specs.KindRules.{header}
use Rattle.xanadu_tree.specs.Plain as core
use Rattle.xanadu_tree.specs.PlainOf.{plain_core}
use Rattle.xanadu_tree.specs.Shaped.{Shaped, IsFunction}
use Rattle.typed_core.specs.Proving.{ElaboratedParts, IsElaboration}
use Rattle.typed_core.specs.Segments.{IsFunctionSegment}
use Rattle.typed_core.specs.SourceRuns.{Recorder}
use Rattle.typed_core.proofs.FunctionsFound.{function_segment}
use Rattle.lowering.specs.Lowered.{places_reach, code_reach, code_of, function_of, lowered}
use Rattle.lowering.proofs.LoweredFunctions.{places_counted, names_position, function_found}
use Rattle.source_safety.proofs.EntryFits.{IsExact, SignatureAt, signature_is, signature_at}
use Rattle.lowering_simulation.proofs.CallsArrive.{FunsGo}

-- ---- the rules that a function keeps

rules_at : {A : Type 0} (P : A → Type 0) (xs : List A) (number : ℕ) (x : A) → AllByRecursion P xs → slice_get xs number ≡ Some x → P x
rules_at P [] number x all e = absurd (let bad : ⊥ = cc in bad)
rules_at P (y ∷ xs) zero x all e = subst P (same_Some y x e) all.0
rules_at P (y ∷ xs) (suc number) x all e = rules_at P xs number x all.1 e

-- ---- places

reach_at : (code : List LowInstr) (n : ℕ) (i : LowInstr) → slice_get code n ≡ Some i → places_reach i.places ≤ code_reach code
unfolding code_reach
reach_at [] n i e = absurd (let bad : ⊥ = cc in bad)
reach_at (j ∷ code) zero i e =
    let same : places_reach j.places ≡ places_reach i.places = ap (λ x. places_reach x.places) (same_Some j i e) in
    omega (arith, same)
reach_at (j ∷ code) (suc n) i e = (let rest = reach_at code n i e in omega (arith, rest))

module _ (base : ElaboratedParts) (elaborated : IsElaboration base.core base.made) (shaped : Shaped (plain_core base.core)) where
  abbrev program : core.Program
  program = plain_core base.core

  module _ (fun : ℕ) (f : core.Fun) (e : slice_get program.funs fun ≡ Some f) where
    abbrev pub segment : IsFunctionSegment program base.made fun f
    segment = function_segment program base.made fun f elaborated e

    pub low_there : slice_get (lowered base).funs fun ≡ Some (function_of program f segment.own)
    low_there = function_found program program.funs base.made.sigs fun f segment.own e segment.signature

    within_places : (n : ℕ) (i : LowInstr) → slice_get (code_of program f) n ≡ Some i → places_reach i.places ≤ PLACES
    within_places n i h =
        let few = segment.places in
        omega (arith, reach_at (code_of program f) n i h, places_counted program fun f shaped e, few)

    -- its signature is that of its header
    pub exact : SignatureAt f base.made.sigs fun
    exact =
        let from : 0 + fun ≡ fun = omega arith in
        subst (λ n. SignatureAt f base.made.sigs n) from (signature_at program.funs [] base.made.sigs fun f segment.headers e)

    pub same_signature : exact.sig ≡ segment.own
    same_signature = same_Some exact.sig segment.own (sym exact.there ∙ segment.signature)

    pub is_exact : IsExact f segment.own
    is_exact = subst (IsExact f) same_signature (signature_is f exact.sig exact.is)

  pub funs_go : {L : Type 0} (recorder : Recorder L) → FunsGo recorder (lowered base).funs program
  funs_go recorder = record {
    by = λ fun f e. record {
      code_is = record {
        low = function_of program f (segment fun f e).own;
        there = low_there fun f e;
        at = λ n i h. (names_position program f n i h).there;
        named = λ n i h lead. (names_position program f n i h).named lead;
        places = λ n i h. within_places fun f e n i h;
      };
      rules = rules_at (IsFunction program.types (map header program.funs)) program.funs fun f shaped.functions e;
    };
  }
