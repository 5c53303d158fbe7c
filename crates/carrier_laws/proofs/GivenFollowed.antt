-- Rules that give types and take nothing to hold: what follows of them, where there are few variables.
use Rattle.std.proofs.Common.{◌≡◌, ◌∙◌, ℕ, ◌+◌, ◌≤◌, List, [], ◌∷◌, map, None, Result, Ok, Err, Bool, true, false, cond, refl, ap, arith}
use Rattle.std.specs.Prelude.{nat_lt, pos}
use Rattle.index_sorts.specs.Context.{IndexContext, with_variables}
use Rattle.index_sorts.specs.declared.error.ContextError.{ContextError}
use Rattle.index_sorts.specs.declared.error.ContextError.TheVariants as context_error
use Rattle.xan_lin.specs.Linear.{sized}
use Rattle.xan_lin.specs.Subst.{zero_form}
use Rattle.xan_lin.specs.declared.term.TooLarge.{TooLarge}
use Rattle.operation_rules.specs.Applied.{widened, all_assuming, all_given}
use Rattle.operation_rules.specs.Faults.{filled, needed}
use Rattle.operation_rules.specs.Rules.{rule, gives}
use Rattle.operation_rules.specs.declared.operation.Operation.TheVariants as operation
use Rattle.state_types.specs.Answers.{◌>>=◌}
use Rattle.state_types.specs.declared.types.Ty.{Ty}
use Rattle.state_types.specs.declared.types.Ty.TheVariants as ty
use Rattle.typed_core.specs.Constructs.{setting_of, followed}
use Rattle.typed_core.specs.States.{Site, State}
use Rattle.xan_seq.proofs.NumberTests.{not_less}
use Rattle.carrier_laws.proofs.OperationsTyped.{Follows}

fresh_is : (b : Bool) (n : ℕ) (ctx : IndexContext) → b ≡ false
    → ((let r : Result ℕ ContextError = cond b (Err context_error.Variables) (Ok n) in r) >>= (λ first. let r : Result IndexContext ContextError = Ok ctx in r)) ≡ Ok ctx
fresh_is true n ctx e = absurd (let bad : ⊥ = cc in bad)
fresh_is false n ctx e = refl

same_context : (ctx : IndexContext) → with_variables ctx 0 ≡ ctx
same_context ctx = ap (λ n. record ctx { vars = n }) (let same : ctx.vars + 0 ≡ ctx.vars = omega arith in same)

no_wider : (ctx : IndexContext) → ctx.vars ≤ 1024 → widened 0 ctx ≡ Ok ctx
unfolding widened
no_wider ctx few =
    fresh_is (nat_lt 1024 (ctx.vars + 0)) ctx.vars (with_variables ctx 0) (not_less 1024 (ctx.vars + 0) (omega (arith, few))) ∙ ap Ok (same_context ctx)

all_there : (types : List Ty) → all_given (map Ok types) ≡ Ok types
unfolding all_given
all_there [] = refl
all_there (t ∷ types) = ap (λ (m : Result (List Ty) TooLarge). m >>= (λ others. Ok (t ∷ others))) (all_there types)

pub given_follow : (types : List Ty) (ctx : IndexContext) → ctx.vars ≤ 1024 → followed (gives [] types) ctx ≡ Ok (types, ctx)
unfolding followed all_assuming
given_follow types ctx few =
    ap (λ (m : Result IndexContext ContextError). filled m >>= (λ wide. filled (all_assuming [] wide) >>= (λ more. needed (all_given (map Ok types)) >>= (λ ts. Ok (ts, more))))) (no_wider ctx few)
    ∙ ap (λ (m : Result (List Ty) TooLarge). needed m >>= (λ ts. Ok (ts, ctx))) (all_there types)

module _ (site : Site) (st : State) (few : st.ctx.vars ≤ 1024) where
  -- a move gives what it reads
  pub moved : (t : Ty) → Follows site None operation.Move (t ∷ []) st (t ∷ []) st
  unfolding rule
  moved t = record { r = gives [] (t ∷ []); ctx = st.ctx; is_rule = is; follows = given_follow (t ∷ []) st.ctx few; more_is = refl }
    where
      is : rule (setting_of site) operation.Move (t ∷ []) st.ctx.vars ≡ Ok (gives [] (t ∷ []))
      is = refl

  -- the number 0
  pub zero_given : Follows site None (operation.Literal (pos 0)) [] st (ty.Int zero_form ∷ []) st
  unfolding rule sized
  zero_given = record { r = gives [] (ty.Int zero_form ∷ []); ctx = st.ctx; is_rule = is; follows = given_follow (ty.Int zero_form ∷ []) st.ctx few; more_is = refl }
    where
      is : rule (setting_of site) (operation.Literal (pos 0)) [] st.ctx.vars ≡ Ok (gives [] (ty.Int zero_form ∷ []))
      is = refl
