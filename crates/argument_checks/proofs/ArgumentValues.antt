-- The values of variables, one after another.
use Rattle.std.proofs.Common.{◌≡◌, ◌∙◌, ap, sym, arith, ℕ, suc, ◌+◌, ◌-◌, ◌<◌, ◌++◌, ℤ, List, [], ◌∷◌, append_assoc}
use Rattle.xan_io.specs.declared.arg.Arg.{Arg}
use Rattle.state_types.specs.declared.types.Ty.{Ty}
use Rattle.operation_rules.specs.Entry.{variable_value, variable_values}

pub next_value : (args : List Arg) (params : List Ty) (made new total : List ℤ) (var vars : ℕ) (value : ℤ) → var < vars → value ≡ variable_value var args params → new ≡ made ++ value ∷ []
    → made ++ variable_values var (vars - var) args params ≡ total → new ++ variable_values (var + 1) (vars - (var + 1)) args params ≡ total
unfolding variable_values
next_value args params made new total var vars value less is pushed before =
    let left : vars - var ≡ suc (vars - (var + 1)) = omega arith in
    let next : suc var ≡ var + 1 = omega arith in
    ap (λ ws. ws ++ variable_values (var + 1) (vars - (var + 1)) args params) pushed
    ∙ append_assoc made (value ∷ []) (variable_values (var + 1) (vars - (var + 1)) args params)
    ∙ ap (λ v. made ++ v ∷ variable_values (var + 1) (vars - (var + 1)) args params) is
    ∙ ap (λ n. made ++ variable_value var args params ∷ variable_values n (vars - (var + 1)) args params) (sym next)
    ∙ ap (λ n. made ++ variable_values var n args params) (sym left) ∙ before
