-- Cores that keep the rules of a core, and cores that break one each.
use Rattle.std.proofs.Common.{◌≡◌, ◌∙◌, ap, ℕ, pos, List, [], ◌∷◌, get_or, Option, Some, None, true, refl, rules, arith, inl, inr}
use Rattle.std.specs.Prelude.{codes}
use Rattle.xanadu_tree.specs.declared.expr.Op.TheVariants as op
use Rattle.xanadu_tree.specs.declared.stmt.Clause.{Clause}
use Rattle.xanadu_tree.specs.declared.types.CoreTy.{CoreTy}
use Rattle.xanadu_tree.specs.declared.types.CoreTy.TheVariants as ty
use Rattle.xanadu_tree.specs.declared.types.Kind.{Kind}
use Rattle.xanadu_tree.specs.declared.types.Kind.TheVariants as kind
use Rattle.xanadu_tree.specs.KindRules.{HasKind}
use Rattle.xanadu_tree.specs.BodyRules.{AreStatements}
use Rattle.xanadu_tree.specs.Shaped.{Shaped}
use Rattle.xanadu_tree.specs.Small.{number_program, number_function, free, int_of}
use Rattle.xanadu_tree.specs.Plain as plain
use Rattle.xanadu_tree.proofs.ShapedSums.{sum_is_shaped}

-- `return a + 3;` of two numbers
sum_example : Shaped (number_program 2 (plain.Chain (plain.Var 0) (plain.ALink op.Add (plain.Int (pos 3)) 25 plain.NoLink)) 20 0)
sum_example = sum_is_shaped 2 _ 20 0 (omega arith, (tt, search rules, tt), omega arith, omega arith)

-- a variable that is not there
no_such_variable : Shaped (number_program 1 (plain.Var 1) 20 0) → ⊥
unfolding HasKind AreStatements
no_such_variable shaped = elim shaped.functions.0.body.1.0.1.0 [ inl same ↦ absurd (omega arith) | inr h ↦ h ]

-- a truth value in place of a number
other_kind : Shaped (number_program 0 (plain.Bool true) 20 0) → ⊥
unfolding HasKind AreStatements
other_kind shaped = absurd (cc shaped.functions.0.body.1.0.1)

-- a chain without a rest
chain_of_one : Shaped (number_program 0 (plain.Chain (plain.Int (pos 3)) plain.NoLink) 20 0) → ⊥
unfolding HasKind AreStatements
chain_of_one shaped = shaped.functions.0.body.1.0.1.2

-- the program of one function `main` without parameters, with this body
abbrev with_body : plain.Stmts → plain.Program
with_body body = record {
  types = [];
  funs = (record (number_function (codes "main") 0 (plain.Int (pos 3)) 20 0) { body = body }) ∷ [];
  main = 0;
}

-- a statement behind a `return`
behind_return : Shaped (with_body (plain.AStmt (plain.Return (Some (plain.Int (pos 3))) 20) (plain.AStmt (plain.Print (plain.Int (pos 3))) plain.NoStmt))) → ⊥
unfolding HasKind AreStatements
behind_return shaped = shaped.functions.0.body.2

-- a body that completes
end_reached : Shaped (with_body (plain.AStmt (plain.Print (plain.Int (pos 3))) plain.NoStmt)) → ⊥
end_reached shaped = absurd (cc shaped.functions.0.returns)

-- ---- index variables

-- a variable of the function's that no parameter tells
abbrev with_quantifier : ℕ → List CoreTy → List Kind → plain.Program
with_quantifier count params kinds = record {
  types = [];
  funs = (record (number_function (codes "main") 0 (plain.Int (pos 3)) 20 0) {
    quant = free count;
    params = params;
    kinds = kinds;
    result = int_of count;
  }) ∷ [];
  main = 0;
}

untold_variable : Shaped (with_quantifier 1 [] []) → ⊥
untold_variable shaped = shaped.functions.0.quantified.told 0 (omega arith, omega arith)

-- a parameter that names the result's variable
other_quantifier : Shaped (with_quantifier 0 (int_of 0 ∷ []) (kind.Int ∷ [])) → ⊥
other_quantifier shaped = elim shaped.functions.0.params.0.names.0 [ inl within ↦ absurd (omega (arith, within.1)) | inr h ↦ h ]

-- ---- variables and clauses

-- the second variable is declared before the first
out_of_order : Shaped (with_body (plain.AStmt (plain.Set 1 (plain.Int (pos 3))) (plain.AStmt (plain.Return (Some (plain.Int (pos 3))) 20) plain.NoStmt))) → ⊥
unfolding AreStatements
out_of_order shaped = elim shaped.functions.0.body.1.4 [ inl seen ↦ seen.0 | inr next ↦ absurd (omega (arith, next.0)) ]

-- a variable that is used before it is declared
abbrev used_in_itself : plain.Stmts
used_in_itself = plain.AStmt (plain.Set 0 (plain.Var 0)) (plain.AStmt (plain.Return (Some (plain.Int (pos 3))) 20) plain.NoStmt)

not_yet_visible : Shaped (with_body used_in_itself) → ⊥
unfolding HasKind AreStatements
not_yet_visible shaped = shaped.functions.0.body.1.1.0

-- a clause that names a variable twice, behind its declaration
abbrev twice : Clause
twice = record {
  first = 0;
  quant = free 0;
  vars = (0, ty.Int (record { terms = []; constant = pos 3 })) ∷ (0, ty.Int (record { terms = []; constant = pos 3 })) ∷ [];
}

abbrev clause_body : plain.Stmts
clause_body =
    plain.AStmt (plain.Set 0 (plain.Int (pos 3)))
    (plain.AStmt (plain.If (plain.Leaf (plain.Bool true)) plain.NoStmt plain.NoStmt (Some twice) 10)
    (plain.AStmt (plain.Return (Some (plain.Int (pos 3))) 20) plain.NoStmt))

named_twice : Shaped (with_body clause_body) → ⊥
unfolding AreStatements
named_twice shaped = shaped.functions.0.body.3.1.5.0.different.0 (inl refl)

-- ---- functions

-- two functions of one name
abbrev two_mains : plain.Program
two_mains = record (number_program 0 (plain.Int (pos 3)) 20 0) {
  funs = number_function (codes "main") 0 (plain.Int (pos 3)) 20 0 ∷ number_function (codes "main") 0 (plain.Int (pos 4)) 20 0 ∷ [];
}

same_name : Shaped two_mains → ⊥
same_name shaped = shaped.names.0 (inl refl)

abbrev name_or_none : Option plain.Fun → List ℕ
name_or_none None = []
name_or_none (Some f) = f.name

-- no function `main`
other_main : Shaped (record { types = []; funs = number_function (codes "other") 0 (plain.Int (pos 3)) 20 0 ∷ []; main = 0 }) → ⊥
other_main shaped =
    let same : codes "other" ≡ shaped.main_function.name = ap (name_or_none) shaped.main_number in
    absurd (omega (arith, ap (λ name. get_or name 0 0) (same ∙ shaped.main.name)))
