-- What is taken to hold, demanded and noted changes no type, and stops at a limit at most.
use Rattle.std.proofs.Common.{ℕ, ◌+◌, List, [], ◌∷◌, length, nat_lt, Bool as Truth, true, false, cond, Result, Ok, Err}
use Rattle.std.specs.Prelude.{nat_le}
use Rattle.index_sorts.specs.Context.{IndexContext, fresh_from}
use Rattle.index_sorts.specs.Known.{knows, with_row}
use Rattle.index_sorts.specs.declared.error.ContextError.{ContextError}
use Rattle.index_sorts.specs.declared.error.ContextError.TheVariants as context_error
use Rattle.xan_lin.specs.Linear.{Linear}
use Rattle.xan_lin.specs.declared.term.TooLarge.{TooLarge}
use Rattle.state_types.specs.Unpacking.{with_rows}
use Rattle.state_types.specs.declared.types.Ty.{Ty}
use Rattle.operation_rules.specs.Applied as rules
use Rattle.operation_rules.specs.Applied.{widened, all_assuming}
use Rattle.operation_rules.specs.Faults.{filled}
use Rattle.typed_core.specs.Limits.{by_rule}
use Rattle.typed_core.specs.States.{Site, State, with_fresh, assuming, demanding, noting_state}
use Rattle.typed_core.proofs.LimitedAnswers.{Answers, Anything, Fits, IsFull, then_answers, filled_rules, by_rule_fits}

-- ---- contexts

fresh_by : (b : Truth) (n : ℕ) → Answers IsFull Anything (let r : Result ℕ ContextError = cond b (Err context_error.Variables) (Ok n) in r)
fresh_by true n = record { is = tt }
fresh_by false n = record { is = tt }

fresh_full : (ctx : IndexContext) (count : ℕ) → Answers IsFull Anything (fresh_from ctx count)
fresh_full ctx count = fresh_by (nat_lt 1024 (ctx.vars + count)) ctx.vars

row_by : (b c : Truth) (x y : IndexContext) → Answers IsFull Anything (let r : Result IndexContext ContextError = cond b (Ok x) (cond c (Err context_error.Rows) (Ok y)) in r)
row_by true c x y = record { is = tt }
row_by false true x y = record { is = tt }
row_by false false x y = record { is = tt }

row_full : (ctx : IndexContext) (row : Linear) → Answers IsFull Anything (with_row ctx row)
unfolding with_row
row_full ctx row = row_by (knows ctx row) (nat_le 512 (length ctx.rows)) _ _

pub rows_full : (ctx : IndexContext) (rows : List Linear) → Answers IsFull Anything (with_rows ctx rows)
unfolding with_rows
rows_full ctx [] = record { is = tt }
rows_full ctx (row ∷ rows) = then_answers (with_row ctx row) _ (row_full ctx row) (λ more u. rows_full more rows)

pub widened_full : (count : ℕ) (ctx : IndexContext) → Answers IsFull Anything (widened count ctx)
unfolding widened
widened_full count ctx = then_answers (fresh_from ctx count) _ (fresh_full ctx count) (λ first u. record { is = tt })

assuming_full : (row : Result Linear TooLarge) (ctx : IndexContext) → Answers IsFull Anything (rules.assuming row ctx)
assuming_full (Ok row) ctx = row_full ctx row
assuming_full (Err why) ctx = record { is = tt }

pub all_assuming_full : (rows : List (Result Linear TooLarge)) (ctx : IndexContext) → Answers IsFull Anything (all_assuming rows ctx)
unfolding all_assuming
all_assuming_full [] ctx = record { is = tt }
all_assuming_full (row ∷ rows) ctx = then_answers (rules.assuming row ctx) _ (assuming_full row ctx) (λ more u. all_assuming_full rows more)

-- rows that are taken to hold, as a part of a walk
pub assumed_fits : (rows : List (Result Linear TooLarge)) (ctx : IndexContext) → Fits Anything (by_rule (filled (all_assuming rows ctx)))
assumed_fits rows ctx = by_rule_fits (filled (all_assuming rows ctx)) (filled_rules (all_assuming rows ctx) (all_assuming_full rows ctx))

-- ---- states whose types are as before: K is what is known of the types

module _ (K : List (ℕ × Ty) → Type 0) where
  pub with_fresh_fits : (count : ℕ) (st : State) → K st.types → Fits (λ more. K more.types) (with_fresh count st)
  unfolding with_fresh
  with_fresh_fits count st k =
      then_answers (by_rule (filled (widened count st.ctx))) _
      (by_rule_fits (filled (widened count st.ctx)) (filled_rules (widened count st.ctx) (widened_full count st.ctx))) (λ ctx u. record { is = k })

  pub assuming_fits : (rows : List (Result Linear TooLarge)) (st : State) → K st.types → Fits (λ more. K more.types) (assuming rows st)
  unfolding assuming
  assuming_fits rows st k = then_answers (by_rule (filled (all_assuming rows st.ctx))) _ (assumed_fits rows st.ctx) (λ ctx u. record { is = k })

  pub demanding_keeps : (site : Site) (at : ℕ) (rows : List Linear) (st : State) → K st.types → K (demanding site at rows st).types
  unfolding demanding
  demanding_keeps site at rows st k = k

  pub noting_keeps : (rows : List Linear) (st : State) → K st.types → K (noting_state rows st).types
  unfolding noting_state
  noting_keeps rows st k = k
