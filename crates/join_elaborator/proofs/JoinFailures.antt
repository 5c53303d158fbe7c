-- The parts of a joined state: where one of them fails, the whole does.
use Rattle.std.proofs.Common.{◌≡◌, ◌+◌, ◌++◌, ◌<◌, ℕ, List, [], map, length, nat_lt, subst, Bool as Truth, true, if◌then◌else◌, Result, Ok, Err, ap, arith}
use Rattle.std.proofs.lemmas.Bool.{lt-ltb}
use Rattle.std.specs.List.{list_all}
use Rattle.index_sorts.specs.Context.{with_variables}
use Rattle.index_sorts.specs.declared.error.ContextError.TheVariants as context_error
use Rattle.xan_lin.specs.Linear.{Linear}
use Rattle.xan_lin.specs.declared.term.TooLarge.{TooLarge}
use Rattle.xan_lin.specs.declared.term.LimitKind.TheVariants as limit
use Rattle.state_types.specs.Answers.{◌>>=◌}
use Rattle.state_types.specs.declared.state.StateType.{StateType}
use Rattle.state_types.specs.declared.types.Ty.{Ty}
use Rattle.operation_rules.specs.Applied.{widened}
use Rattle.operation_rules.specs.Faults.{filled}
use Rattle.typed_core.specs.Forms.{renamed}
use Rattle.operation_rules.specs.Forms.{variables_from}
use Rattle.typed_core.specs.Joins.{Renewed, few_places, joined, stated_types, renewed, renewing, stating}
use Rattle.typed_core.specs.Limits.{Past, Walk, by_rule, held}
use Rattle.typed_core.specs.States.{Site, State, in_ctx, resuming, with_fresh, assuming}
use Rattle.typed_core.specs.Strays.{clause_rises, values_rise, row_below}
use Rattle.xanadu_tree.specs.declared.stmt.Clause.{Clause}
use Rattle.header_elaborator.specs.Code.{Fails}
use Rattle.header_elaborator.specs.declared.error.Stop.{Stop}
use Rattle.header_elaborator.specs.declared.error.Stop.TheVariants as stop
use Rattle.header_elaborator.proofs.WalkParts.{fails_behind, fails_then}

-- ---- fresh variables

-- more than a context can have
pub too_many_fresh : (count : ℕ) (st : State) → 1024 < count → with_fresh count st ≡ Err (Past limit.Variables)
unfolding with_fresh widened
too_many_fresh count st many =
    let over : nat_lt 1024 (st.ctx.vars + count) ≡ true = lt-ltb 1024 (st.ctx.vars + count) (omega (arith, many)) in
    ap (λ (b : Truth). by_rule (filled ((if b then Err context_error.Variables else Ok st.ctx.vars) >>= λ first. Ok (with_variables st.ctx count))) >>= λ ctx. Ok (in_ctx ctx st)) over

pub renewing_over : (clause : Clause) (changed : ℕ → Truth) (before : StateType) (latest : State) → few_places before.places ≡ Ok tt → 1024 < clause.quant.count
    → renewing clause changed before latest ≡ Err (Past limit.Variables)
unfolding renewing
renewing_over clause changed before latest few many =
    let kept : Renewed = renewed changed clause.vars (latest.ctx.vars + clause.quant.count) before.places (record { types = []; others = [] }) in
    fails_behind (stop.Past limit.Variables) (few_places before.places)
    (λ few. with_fresh (clause.quant.count + length kept.others) (resuming before.ctx.rows before.places latest) >>= λ fresh. Ok (kept, fresh)) tt few
    (fails_then (stop.Past limit.Variables) (with_fresh (clause.quant.count + length kept.others) (resuming before.ctx.rows before.places latest)) (λ fresh. Ok (kept, fresh))
    (too_many_fresh (clause.quant.count + length kept.others) (resuming before.ctx.rows before.places latest) (omega (arith, many))))

-- ---- a clause's rows

abbrev after : List (Result Linear TooLarge) → State → Walk (List (Result Linear TooLarge) × State)
after rows known = Ok (rows, known)

pub stating_fails : (naming : List (ℕ × Linear)) (own : ℕ) (clause : Clause) (st : State) (rows : List (Result Linear TooLarge)) (why : Stop)
    → values_rise 0 naming ≡ true → clause_rises clause ≡ true → rows ≡ map (renamed naming own) clause.quant.rows
    → list_all (row_below st.ctx.vars) rows ≡ true → Fails why (assuming rows st) → Fails why (stating naming own clause st)
unfolding stating
stating_fails naming own clause st rows why listed rises are named fails =
    fails_behind why (held (values_rise 0 naming)) _ tt (ap held listed)
    (fails_behind why (held (clause_rises clause)) _ tt (ap held rises)
    (subst (λ (rs : List (Result Linear TooLarge)). Fails why (held (list_all (row_below st.ctx.vars) rs) >>= λ (named : Unit {0}). assuming rs st >>= after rs)) are
    (fails_behind why (held (list_all (row_below st.ctx.vars) rows)) _ tt (ap held named)
    (fails_then why (assuming rows st) (after rows) fails))))

-- ---- the whole

-- the state where the clause's variables have a naming
abbrev pub named_by : List (ℕ × Linear) → State → State
named_by ns st = record st { naming = ns }

pub joined_rows_fail : (site : Site) (clause : Clause) (changed : ℕ → Truth) (before : StateType) (latest : State) (kept : Renewed) (fresh : State)
    (ns : List (ℕ × Linear)) (why : Stop) → renewing clause changed before latest ≡ Ok (kept, fresh)
    → ns ≡ fresh.naming ++ variables_from clause.first latest.ctx.vars clause.quant.count
    → Fails why (stating ns site.own.vars clause (named_by ns fresh)) → Fails why (joined site clause changed before latest)
unfolding joined
joined_rows_fail site clause changed before latest kept fresh ns why renewed names fails =
    let all : List (ℕ × Linear) = fresh.naming ++ variables_from clause.first latest.ctx.vars clause.quant.count in
    fails_behind why (renewing clause changed before latest) _ (kept, fresh) renewed
    (fails_then why (stating all site.own.vars clause (named_by all fresh)) _
    (subst (λ (ns : List (ℕ × Linear)). Fails why (stating ns site.own.vars clause (named_by ns fresh))) names fails))

pub joined_types_fail : (site : Site) (clause : Clause) (changed : ℕ → Truth) (before : StateType) (latest : State) (kept : Renewed) (fresh known : State)
    (rows : List (Result Linear TooLarge)) (ns : List (ℕ × Linear)) (why : Stop) → renewing clause changed before latest ≡ Ok (kept, fresh)
    → ns ≡ fresh.naming ++ variables_from clause.first latest.ctx.vars clause.quant.count
    → stating ns site.own.vars clause (named_by ns fresh) ≡ Ok (rows, known)
    → Fails why (stated_types known.naming site.own.vars clause.vars []) → Fails why (joined site clause changed before latest)
unfolding joined
joined_types_fail site clause changed before latest kept fresh known rows ns why renewed names stated fails =
    let all : List (ℕ × Linear) = fresh.naming ++ variables_from clause.first latest.ctx.vars clause.quant.count in
    fails_behind why (renewing clause changed before latest) _ (kept, fresh) renewed
    (fails_behind why (stating all site.own.vars clause (named_by all fresh)) _ (rows, known)
    (subst (λ (ns : List (ℕ × Linear)). stating ns site.own.vars clause (named_by ns fresh) ≡ Ok (rows, known)) names stated)
    (fails_then why (stated_types known.naming site.own.vars clause.vars []) _ fails))
