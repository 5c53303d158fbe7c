-- A program is typed where its functions are.
use Rattle.std.proofs.Common.{◌≡◌, ◌∙◌, ℕ, zero, suc, ◌+◌, List, [], ◌∷◌, ◌++◌, length, map, slice_get, Some, Ok, refl, sym, ap, subst, arith}
use Rattle.std.proofs.lemmas.List.{length-append}
use Rattle.std.specs.List.{AllZip}
use Rattle.state_types.specs.declared.closed.Signature.{Signature}
use Rattle.state_types.proofs.Thens.{then_ok, ok_same}
use Rattle.lowering.specs.Lowered.{functions_of, function_of}
use Rattle.three_address.specs.declared.function.LowFun.{LowFun}
use Rattle.xanadu_tree.specs.Plain as core
use Rattle.typed_core.specs.Headers.{signature, signatures}
use Rattle.type_carrier.specs.Carried.{Columns, Functions, functions, function, with_function}
use Rattle.type_carrier.specs.ProvedRows.{Proofs}

-- ---- as many signatures as functions

pub signatures_long : (fs : List core.Fun) (made all : List Signature) → signatures fs made ≡ Ok all → length all ≡ length made + length fs
unfolding signatures
signatures_long [] made all e = ap length (sym (ok_same made all e)) ∙ omega arith
signatures_long (f ∷ fs) made all e =
    let s = then_ok (signature f) _ all e in
    let later = signatures_long fs (made ++ s.value ∷ []) all s.second in
    let long = length-append made (s.value ∷ []) in
    omega (arith, later, long)

module _ (program : core.Program) where
  pub functions_long : (fs : List core.Fun) (sigs : List Signature) → length sigs ≡ length fs → length (functions_of program fs sigs) ≡ length fs
  unfolding functions_of
  functions_long [] sigs same = refl
  functions_long (f ∷ fs) [] same = absurd (omega (arith, same))
  functions_long (f ∷ fs) (sig ∷ sigs) same = ap suc (functions_long fs sigs (omega (arith, same)))

  -- the signatures of the code are those of the source
  pub same_signatures : (fs : List core.Fun) (sigs : List Signature) → length sigs ≡ length fs → map (λ (fun : LowFun). fun.sig) (functions_of program fs sigs) ≡ sigs
  unfolding functions_of
  same_signatures [] [] same = refl
  same_signatures [] (sig ∷ sigs) same = absurd (omega (arith, same))
  same_signatures (f ∷ fs) [] same = absurd (omega (arith, same))
  same_signatures (f ∷ fs) (sig ∷ sigs) same = ap (λ xs. sig ∷ xs) (same_signatures fs sigs (omega (arith, same)))

  -- what stands at a number
  pub record IsLowered (fs : List core.Fun) (sigs : List Signature) (number : ℕ) (fun : LowFun) : Type 0 where
    pub f : core.Fun
    pub there : slice_get fs number ≡ Some f
    pub sig : Signature
    pub signed : slice_get sigs number ≡ Some sig
    pub is : fun ≡ function_of program f sig

  pub lowered_at : (fs : List core.Fun) (sigs : List Signature) (number : ℕ) (fun : LowFun) → slice_get (functions_of program fs sigs) number ≡ Some fun → IsLowered fs sigs number fun
  unfolding functions_of
  lowered_at [] sigs number fun e = absurd (let bad : ⊥ = cc in bad)
  lowered_at (f ∷ fs) [] number fun e = absurd (let bad : ⊥ = cc in bad)
  lowered_at (f ∷ fs) (sig ∷ sigs) zero fun e = record { f = f; there = refl; sig = sig; signed = refl; is = same (function_of program f sig) fun e }
    where
      same : (a b : LowFun) → Some a ≡ Some b → b ≡ a
      same a b e = cc
  lowered_at (f ∷ fs) (sig ∷ sigs) (suc number) fun e =
      (let it = lowered_at fs sigs number fun e in record { f = it.f; there = it.there; sig = it.sig; signed = it.signed; is = it.is })

  -- ---- as many lists as functions

  pub record AsMany (made after : Functions) (count : ℕ) : Type 0 where
    pub states : length after.states ≡ length made.states + count
    pub edges : length after.edges ≡ length made.edges + count

  pub carried_long : (proofs : Proofs) (P : LowFun → Columns → Type 0) (fs : List core.Fun) (sigs : List Signature) (columns : List Columns) (made : Functions) → AllZip P (functions_of program fs sigs) columns
      → AsMany made (functions proofs fs columns made) (length (functions_of program fs sigs))
  unfolding functions functions_of
  carried_long proofs P [] sigs columns made all = record { states = omega arith; edges = omega arith }
  carried_long proofs P (f ∷ fs) [] [] made all = record { states = omega arith; edges = omega arith }
  carried_long proofs P (f ∷ fs) [] (c ∷ columns) made all = absurd all
  carried_long proofs P (f ∷ fs) (sig ∷ sigs) [] made all = absurd all
  carried_long proofs P (f ∷ fs) (sig ∷ sigs) (c ∷ columns) made all =
      let next = with_function (function proofs c f made.notes) made in
      let later = carried_long proofs P fs sigs columns next all.1 in
      let a = later.states in
      let b = later.edges in
      let long = length-append made.states ((function proofs c f made.notes).states ∷ []) in
      let long_edges = length-append made.edges ((function proofs c f made.notes).now.edges ∷ []) in
      record { states = omega (arith, a, long); edges = omega (arith, b, long_edges) }

-- the columns of a function
pub columns_at : (P : LowFun → Columns → Type 0) (funs : List LowFun) (columns : List Columns) (number : ℕ) (fun : LowFun) → AllZip P funs columns → slice_get funs number ≡ Some fun
    → (c : Columns) × (slice_get columns number ≡ Some c) × P fun c
columns_at P [] columns number fun all e = absurd (let bad : ⊥ = cc in bad)
columns_at P (g ∷ funs) [] number fun all e = absurd all
columns_at P (g ∷ funs) (c ∷ columns) zero fun all e = (c, refl, subst (λ x. P x c) (same g fun e) all.0)
  where
    same : (a b : LowFun) → Some a ≡ Some b → a ≡ b
    same a b e = cc
columns_at P (g ∷ funs) (c ∷ columns) (suc number) fun all e = columns_at P funs columns number fun all.1 e
