-- The functions that the code makes, each in its frame, are those of the program.
use Rattle.std.proofs.Common.{◌≡◌, ◌∙◌, ◌-◌, ◌≤◌, List, [], ◌∷◌, ◌++◌, map, length, take, drop, get_or, refl, sym, ap, ap₂, subst, append_assoc, arith}
use Rattle.std.specs.List.{All}
use Rattle.std.proofs.lemmas.List.{take_rest}
use Rattle.std.proofs.lemmas.List.Elements.{All-push}
use Rattle.state_types.specs.declared.closed.Signature.{Signature}
use Rattle.xanadu_tree.specs.declared.program.CoreFun.{CoreFun}
use Rattle.xanadu_tree.specs.declared.types.Kind.{Kind}
use Rattle.xanadu_tree.specs.declared.types.Packing.{Packing}
use Rattle.xanadu_tree.specs.KindRules.{kind_of}
use Rattle.xanadu_tree.specs.Plain as core
use Rattle.xanadu_tree.specs.PlainOf.{plain_core, plain_fun}
use Rattle.three_address.specs.declared.function.LowFun.{LowFun}
use Rattle.three_address.specs.declared.function.Lowered.{Lowered}
use Rattle.typed_core.specs.Proving.{ElaboratedParts}
use Rattle.lowering.specs.Emitted.{HasFew, function_in, functions_in, program_in}
use Rattle.lowering.specs.Lowered.{functions_of, lowered}

same_results : (funs : List CoreFun) → map (λ g. kind_of g.result) (map plain_fun funs) ≡ map (λ f. kind_of f.result) funs
same_results [] = refl
same_results (f ∷ funs) = ap (λ ks. kind_of f.result ∷ ks) (same_results funs)

module _ (program : core.Program) where
  functions_same : (funs : List CoreFun) (sigs : List Signature) → functions_in program.types (map (λ g. kind_of g.result) program.funs) funs sigs ≡ functions_of program (map plain_fun funs) sigs
  unfolding functions_in functions_of
  functions_same [] sigs = refl
  functions_same (f ∷ funs) [] = refl
  functions_same (f ∷ funs) (sig ∷ sigs) =
      ap (λ fs. function_in (record { types = program.types; results = map (λ g. kind_of g.result) program.funs; kinds = f.kinds }) (plain_fun f) sig ∷ fs) (functions_same funs sigs)

pub program_made : (base : ElaboratedParts) → program_in base.core.types base.core.funs base.core.main base.made.sigs base.made.table ≡ lowered base
program_made base =
    ap (λ fs. let made : Lowered = record { funs = fs; table = base.made.table; main = base.core.main } in made)
    (ap (λ ks. functions_in base.core.types ks base.core.funs base.made.sigs) (sym (same_results base.core.funs)) ∙ functions_same (plain_core base.core) base.core.funs base.made.sigs)

pub ruleset programs_made = (program_made)

-- ---- turns of the loop over functions and signatures

-- a list with its first item and the others
record First {A : Type 0} (xs : List A) (x : A) : Type 0 where
  is : xs ≡ x ∷ take (length xs - 1) (drop 1 xs)

first_of : {A : Type 0} (xs : List A) (x : A) → 1 ≤ length xs → x ≡ get_or xs 0 x → First xs x
first_of [] x le e = absurd (omega (arith, le))
first_of (y ∷ xs) x le e = record { is = ap (λ z. z ∷ xs) (sym e) ∙ ap (λ zs. x ∷ zs) (sym (take_rest (y ∷ xs) 1)) }

pub made_turn : (types : List Packing) (results : List Kind) (funs : List CoreFun) (sigs : List Signature) (f : CoreFun) (sig : Signature) (made after whole : List LowFun) (next : LowFun)
    → 1 ≤ length funs → f ≡ get_or funs 0 f → 1 ≤ length sigs → sig ≡ get_or sigs 0 sig
    → next ≡ function_in (record { types = types; results = results; kinds = f.kinds }) (plain_fun f) sig → after ≡ made ++ next ∷ []
    → made ++ functions_in types results funs sigs ≡ whole
    → after ++ functions_in types results (take (length funs - 1) (drop 1 funs)) (take (length sigs - 1) (drop 1 sigs)) ≡ whole
unfolding functions_in
made_turn types results funs sigs f sig made after whole next some is_f some_sig is_sig is_next more inv =
    let fs = take (length funs - 1) (drop 1 funs) in
    let ss = take (length sigs - 1) (drop 1 sigs) in
    ap (λ xs. xs ++ functions_in types results fs ss) more
    ∙ append_assoc made (next ∷ []) (functions_in types results fs ss)
    ∙ ap (λ x. made ++ x ∷ functions_in types results fs ss) is_next
    ∙ ap₂ (λ xs ys. made ++ functions_in types results xs ys) (sym (first_of funs f some is_f).is) (sym (first_of sigs sig some_sig is_sig).is)
    ∙ inv

pub few_turn : (made after : List LowFun) (next : LowFun) → after ≡ made ++ next ∷ [] → HasFew next → All HasFew made → All HasFew after
few_turn made after next more few all = subst (λ xs. All HasFew xs) (sym more) (All-push HasFew made next all few)
