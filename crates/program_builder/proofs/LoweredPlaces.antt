-- What lowered functions name: their own places, of which there are few, and the parameters among them.
use Rattle.std.proofs.Common.{◌≡◌, ℕ, zero, suc, ◌≤◌, Bool as Truth, true, false, List, [], ◌∷◌, length, map, take, Some, slice_get, refl, ap, subst, arith}
use Rattle.std.specs.List.{All, AllByRecursion, AllZip}
use Rattle.std.proofs.lemmas.List.Elements.{All-nil, All-cons}
use Rattle.std.proofs.lemmas.Option.{none-some, same_Some}
use Rattle.state_types.specs.declared.closed.Signature.{Signature}
use Rattle.xanadu_tree.specs.KindRules.{kind_of, header}
use Rattle.xanadu_tree.specs.Plain as core
use Rattle.xanadu_tree.specs.PlainOf.{plain_core}
use Rattle.xanadu_tree.specs.Shaped.{Shaped, IsFunction}
use Rattle.typed_core.specs.Places.{places_of}
use Rattle.typed_core.specs.Proving.{ElaboratedParts, IsElaboration}
use Rattle.typed_core.proofs.FunctionsFound.{function_segment}
use Rattle.three_address.specs.declared.function.LowFun.{LowFun}
use Rattle.three_address.specs.declared.instruction.LowInstr.{LowInstr}
use Rattle.lowering.specs.Lowered.{leads, renumbered, numbered, places_reach, code_reach, code_of, labels_of, body_of, function_of, functions_of, lowered}
use Rattle.lowered_acceptance.proofs.LoweredHeaded.{declared}
use Rattle.lowered_acceptance.proofs.TypesDeclared.{IsSignatureOf, IsTypeOf, as_long}
use Rattle.program_builder.specs.Slots.{HasFewPlaces}

-- ---- a function by its number

record IsFound (program : core.Program) (funs : List core.Fun) (sigs : List Signature) (number : ℕ) (fun : LowFun) : Type 0 where
  f : core.Fun
  sig : Signature
  fun_there : slice_get funs number ≡ Some f
  sig_there : slice_get sigs number ≡ Some sig
  is : function_of program f sig ≡ fun

found : (program : core.Program) (funs : List core.Fun) (sigs : List Signature) (number : ℕ) (fun : LowFun) → slice_get (functions_of program funs sigs) number ≡ Some fun
    → IsFound program funs sigs number fun
unfolding functions_of
found program [] sigs number fun e = absurd (none-some fun e)
found program (f ∷ funs) [] number fun e = absurd (none-some fun e)
found program (f ∷ funs) (sig ∷ sigs) zero fun e = record { f = f; sig = sig; fun_there = refl; sig_there = refl; is = same_Some (function_of program f sig) fun e }
found program (f ∷ funs) (sig ∷ sigs) (suc number) fun e =
    let it = found program funs sigs number fun e in record { f = it.f; sig = it.sig; fun_there = it.fun_there; sig_there = it.sig_there; is = it.is }

zipped_at : {A B : Type 0} (R : A → B → Type 0) (xs : List A) (ys : List B) (n : ℕ) (x : A) (y : B) → AllZip R xs ys → slice_get xs n ≡ Some x → slice_get ys n ≡ Some y → R x y
zipped_at R [] ys n x y all e f = absurd (none-some x e)
zipped_at R (z ∷ xs) [] n x y all e f = absurd all
zipped_at R (z ∷ xs) (w ∷ ys) zero x y all e f = subst (λ a. R a y) (same_Some z x e) (subst (R z) (same_Some w y f) all.0)
zipped_at R (z ∷ xs) (w ∷ ys) (suc n) x y all e f = zipped_at R xs ys n x y all.1 e f

rules_at : {A : Type 0} (P : A → Type 0) (xs : List A) (number : ℕ) (x : A) → AllByRecursion P xs → slice_get xs number ≡ Some x → P x
rules_at P [] number x all e = absurd (none-some x e)
rules_at P (y ∷ xs) zero x all e = subst P (same_Some y x e) all.0
rules_at P (y ∷ xs) (suc number) x all e = rules_at P xs number x all.1 e

-- ---- its places

same_places : (labels : List ℕ) (b : Truth) (i : LowInstr) → (renumbered labels b i).places ≡ i.places
same_places labels true i = refl
same_places labels false i = refl

reach_numbered : (labels : List ℕ) (code : List LowInstr) → code_reach (numbered labels code) ≡ code_reach code
unfolding code_reach
reach_numbered labels [] = refl
reach_numbered labels (i ∷ code) =
    let one = ap places_reach (same_places labels (leads i.op) i) in let rest = reach_numbered labels code in omega (arith, one, rest)

-- so many at the front are no more than there are
as_few : {A B : Type 0} (n : ℕ) (xs : List A) (ys : List B) (f : B → A) → n ≡ length ys → take n xs ≡ map f ys → n ≤ length xs
as_few zero xs ys f m e = omega arith
as_few (suc n) [] [] f m e = absurd (omega (arith, m))
as_few (suc n) [] (y ∷ ys) f m e = absurd (let bad : ⊥ = cc in bad)
as_few (suc n) (x ∷ xs) [] f m e = absurd (omega (arith, m))
as_few (suc n) (x ∷ xs) (y ∷ ys) f m e = (let rest = as_few n xs ys f (omega (arith, m)) (tail _ _ _ _ e) in omega (arith, rest))
  where
    tail : {A : Type 0} (x y : A) (xs ys : List A) → x ∷ xs ≡ y ∷ ys → xs ≡ ys
    tail x y xs ys e = cc

pub record IsPlaced (fun : LowFun) : Type 0 where
  pub named : code_reach fun.code ≤ fun.places
  pub params : length fun.sig.params ≤ fun.places
  pub few : HasFewPlaces fun

module _ (base : ElaboratedParts) (elaborated : IsElaboration base.core base.made) (shaped : Shaped (plain_core base.core))
    (counted : (program : core.Program) (number : ℕ) (f : core.Fun) → Shaped program → slice_get program.funs number ≡ Some f → (body_of program f).places ≡ places_of f) where
  abbrev program : core.Program
  program = plain_core base.core

  placed : (number : ℕ) (f : core.Fun) (sig : Signature) → slice_get program.funs number ≡ Some f → slice_get base.made.sigs number ≡ Some sig → IsPlaced (function_of program f sig)
  placed number f sig e there =
      let segment = function_segment program base.made number f elaborated e in
      let few = segment.places in
      let count = counted program number f shaped e in
      let rules = rules_at (IsFunction program.types (map header program.funs)) program.funs number f shaped.functions e in
      let signed = zipped_at IsSignatureOf program.funs base.made.sigs number f sig (declared program base.made shaped elaborated).sigs e there in
      let long = as_long IsTypeOf f.params sig.params signed.params in
      let kinds = as_few (length f.params) f.kinds f.params kind_of refl rules.param_kinds in
      let reach = reach_numbered (labels_of f) (code_of program f) in
      record { named = omega (arith, reach); params = omega (arith, long, kinds); few = omega (arith, few, count) }

  pub placed_at : (number : ℕ) (fun : LowFun) → slice_get (lowered base).funs number ≡ Some fun → IsPlaced fun
  placed_at number fun e =
      let it = found program program.funs base.made.sigs number fun e in
      subst IsPlaced it.is (placed number it.f it.sig it.fun_there it.sig_there)

  all_few : (funs : List LowFun) → ((number : ℕ) (fun : LowFun) → slice_get funs number ≡ Some fun → IsPlaced fun) → All HasFewPlaces funs
  all_few [] each = All-nil HasFewPlaces
  all_few (fun ∷ funs) each = All-cons HasFewPlaces fun funs (each 0 fun refl).few (all_few funs (λ number g e. each (suc number) g e))

  pub few_placed : All HasFewPlaces (lowered base).funs
  few_placed = all_few (lowered base).funs placed_at

  pub signed_each : length base.made.sigs ≡ length program.funs
  signed_each = as_long IsSignatureOf program.funs base.made.sigs (declared program base.made shaped elaborated).sigs
