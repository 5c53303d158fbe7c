-- The rows in front of each statement name only index variables so far.
use Rattle.std.proofs.Common.{◌≡◌, ◌∙◌, ℕ, inl, inr, List, [], ◌∷◌, ◌++◌, length, true, Ok, Err, refl, sym, subst, arith}
use Rattle.std.specs.List.{All, list_all}
use Rattle.std.proofs.lemmas.List.Elements.{All-nil, All-cons, All-head, All-tail, All-push}
use Rattle.index_sorts.specs.Context.{IndexContext}
use Rattle.index_sorts.specs.Known.{with_row}
use Rattle.xan_lin.specs.Linear.{Linear, NamesBelow}
use Rattle.xan_lin.specs.declared.term.LimitKind.TheVariants as limit
use Rattle.xan_lin.proofs.Booleans.{both}
use Rattle.state_types.specs.Tables.{IsClosed, int_cell, bool_cell}
use Rattle.state_types.specs.Types.{TypeBelow}
use Rattle.state_types.specs.Unpacking.{with_rows}
use Rattle.state_types.specs.declared.closed.Packed.{Packed}
use Rattle.state_types.specs.declared.closed.Signature.{Signature}
use Rattle.state_types.proofs.FormNames.{below-variable}
use Rattle.xanadu_tree.specs.declared.types.Packing.{Packing}
use Rattle.xanadu_tree.specs.Plain as core
use Rattle.typed_core.specs.declared.goal.GoalAt.{GoalAt}
use Rattle.typed_core.specs.declared.note.Note.{Note}
use Rattle.typed_core.specs.Forms.{forms_from, types_from}
use Rattle.typed_core.specs.Goals.{body_start}
use Rattle.typed_core.specs.Headers.{closed_type, closed_types, table_of}
use Rattle.typed_core.specs.Joins.{changes_any, stated, joined, entered}
use Rattle.typed_core.specs.Limits.{within, in_context, held}
use Rattle.typed_core.specs.Reached.{StandsIn, StandsWithin, IsBefore}
use Rattle.typed_core.specs.States.{Site, State, point, noting_state}
use Rattle.typed_core.specs.Statements.{statement, block, other_branch}
use Rattle.typed_core.specs.Strays.{form_below, type_below, is_closed}
use Rattle.typed_core.specs.Tests.{tested, on_side}
use Rattle.typed_core.proofs.Continued.{either, held_known, Goes}
use Rattle.typed_core.proofs.LimitedAnswers.{then_answers, any_answer}
use Rattle.typed_core.proofs.GrownContexts.{RowsBelow, rows_more, row_adds}
use Rattle.typed_core.proofs.GrownTests.{tested_goes}
use Rattle.typed_core.proofs.GrownJoins.{joined_goes, entered_goes}
use Rattle.typed_core.proofs.GrownStatements.{statement_goes, block_goes}
use Rattle.typed_core.proofs.NamedStates.{answered, test_all, test_form, test_type}

-- ---- closed types, as the definition tests them

test_closed : (p : Packed) → is_closed p ≡ true → IsClosed p
test_closed p e =
    let b = both (list_all (form_below p.vars) p.rows) (list_all (type_below p.vars) p.parts) e in
    record {
      rows = test_all (form_below p.vars) (NamesBelow p.vars) (λ f h. test_form p.vars f h) p.rows b.0;
      parts = test_all (type_below p.vars) (TypeBelow p.vars) (λ t h. test_type p.vars t h) p.parts b.1;
    }

type_closed : (p : Packing) → Goes IsClosed (closed_type p)
unfolding closed_type
type_closed p =
    then_answers (forms_from p.quant.rows []) _ (any_answer (forms_from p.quant.rows []))
    (λ rows a. then_answers (types_from p.parts []) _ (any_answer (types_from p.parts []))
    (λ parts b. then_answers (within limit.Variables p.quant.count) _ (any_answer (within limit.Variables p.quant.count))
    (λ few c. then_answers (within limit.Rows (length p.quant.rows)) _ (any_answer (within limit.Rows (length p.quant.rows)))
    (λ less d. let made : Packed = record { vars = p.quant.count; rows = rows; parts = parts; tuple = p.tuple } in
    then_answers (held (is_closed made)) _ (held_known (is_closed made)) (λ closed e. record { is = test_closed made e })))))

types_closed : (ps : List Packing) (made : List Packed) → All IsClosed made → Goes (All IsClosed) (closed_types ps made)
unfolding closed_types
types_closed [] made all = record { is = all }
types_closed (p ∷ ps) made all = then_answers (closed_type p) _ (type_closed p) (λ one h. types_closed ps (made ++ one ∷ []) (All-push IsClosed made one all h))

pub int_closed : IsClosed int_cell
int_closed = record { rows = All-nil (NamesBelow 1); parts = All-cons (TypeBelow 1) _ [] (below-variable 1 0 (omega arith)) (All-nil (TypeBelow 1)) }

pub bool_closed : IsClosed bool_cell
bool_closed = record { rows = All-nil (NamesBelow 0); parts = All-cons (TypeBelow 0) _ [] tt (All-nil (TypeBelow 0)) }

pub table_closed : (ps : List Packing) (table : List Packed) → table_of ps ≡ Ok table → All IsClosed table
table_closed ps table e =
    answered (table_of ps) table
    (types_closed ps (int_cell ∷ bool_cell ∷ []) (All-cons IsClosed int_cell (bool_cell ∷ []) int_closed (All-cons IsClosed bool_cell [] bool_closed (All-nil IsClosed)))) e

-- ---- where a body begins

rows_add : (n : ℕ) (rows : List Linear) (ctx : IndexContext) → ctx.vars ≡ n → RowsBelow n rows → RowsBelow n ctx.rows
    → Goes (λ more. (more.vars ≡ n) × RowsBelow n more.rows) (with_rows ctx rows)
unfolding with_rows
rows_add n [] ctx same all before = record { is = (same, before) }
rows_add n (row ∷ rows) ctx same all before =
    then_answers (with_row ctx row) _ (row_adds ctx row)
    (λ more h. rows_add n rows more (h.vars ∙ same) (All-tail (NamesBelow n) row rows all)
    (subst (λ m. RowsBelow m more.rows) same
    (h.named (subst (λ m. NamesBelow m row) (sym same) (All-head (NamesBelow n) row rows all)) (subst (λ m. RowsBelow m ctx.rows) (sym same) before))))

context_goes : {A : Type 0} {P : A → Type 0} (m : _) → Goes P m → Goes P (in_context m)
context_goes (Ok x) h = record { is = h.is }
context_goes (Err why) h = record { is = tt }

begin_named : (own : Signature) (gs : List GoalAt) (ns : List Note) → Goes (λ st. RowsBelow st.ctx.vars st.ctx.rows) (body_start own gs ns)
unfolding body_start
begin_named own gs ns =
    let begin : IndexContext = record { vars = own.vars; rows = [] } in
    then_answers (within limit.Parameters (length own.params)) _ (any_answer (within limit.Parameters (length own.params)))
    (λ few u. then_answers (held (list_all (form_below own.vars) own.rows)) _ (held_known (list_all (form_below own.vars) own.rows))
    (λ named test. then_answers (in_context (with_rows begin own.rows)) _
    (context_goes (with_rows begin own.rows)
    (rows_add own.vars own.rows begin refl (test_all (form_below own.vars) (NamesBelow own.vars) (λ f h. test_form own.vars f h) own.rows test) (All-nil (NamesBelow own.vars))))
    (λ ctx h. record { is = subst (λ n. RowsBelow n ctx.rows) (sym h.0) h.1 })))

pub start_named : (sig : Signature) (goals : List GoalAt) (notes : List Note) (start : State) → body_start sig goals notes ≡ Ok start → RowsBelow start.ctx.vars start.ctx.rows
start_named sig goals notes start e = answered (body_start sig goals notes) start (begin_named sig goals notes) e

-- ---- in front of statements

module _ (site : Site) (closed : All IsClosed site.table) where
  mutual
    unfolding StandsIn noting_state

    pub stands_named : (ss : core.Stmts) (st : State) (reached : core.Stmt) (there : State) → StandsIn site ss st reached there → RowsBelow st.ctx.vars st.ctx.rows
        → RowsBelow there.ctx.vars there.ctx.rows
    stands_named core.NoStmt st reached there is all = absurd is
    stands_named (core.AStmt s ss) st reached there (inl is) all = subst (λ x. RowsBelow x.ctx.vars x.ctx.rows) (sym is.1) all
    stands_named (core.AStmt s ss) st reached there (inr (inl is)) all = within_named s st reached there is all
    stands_named (core.AStmt s ss) st reached there (inr (inr is)) all =
        stands_named ss is.0 reached there is.2 ((answered (statement site s st) is.0 (statement_goes site s st) is.1).named closed all)

    within_named : (s : core.Stmt) (st : State) (reached : core.Stmt) (there : State) → StandsWithin site s st reached there → RowsBelow st.ctx.vars st.ctx.rows
        → RowsBelow there.ctx.vars there.ctx.rows
    within_named (core.Set x e) st reached there is all = absurd is
    within_named (core.Split xs e at) st reached there is all = absurd is
    within_named (core.Store array index e at) st reached there is all = absurd is
    within_named (core.Do call) st reached there is all = absurd is
    within_named (core.Print e) st reached there is all = absurd is
    within_named (core.If test on_true on_false join at) st reached there is all =
        let p = answered (tested site test st) is.0 (tested_goes site test st) is.1 in
        either is.2 (λ one. stands_named on_true (on_side is.0.on_true is.0.after) reached there one (p.on_true closed all))
        (λ two. let k = answered (block site on_true (on_side is.0.on_true is.0.after)) two.0 (block_goes site on_true (on_side is.0.on_true is.0.after)) two.1 in
        stands_named on_false (other_branch is.0.on_false st two.0) reached there two.2 (rows_more is.0.after.ctx.vars two.0.ctx.vars is.0.on_false k.later.vars (p.on_false closed all)))
    within_named (core.While test head body at) st reached there is all =
        let m = answered (joined site (stated head) (changes_any body) (point st) st) (is.0, is.1) (joined_goes (Unit {0}) site head (changes_any body) (point st) st (λ u. all)) is.4 in
        let h = answered (entered site at is.0 (point st) is.1) is.2 (entered_goes site at is.0 (point st) is.1) is.5 in
        let begun : RowsBelow is.2.ctx.vars is.2.ctx.rows = subst (λ c. RowsBelow c.vars c.rows) (sym h.ctx) (m.named tt) in
        let p = answered (tested site test is.2) is.3 (tested_goes site test is.2) is.6 in
        stands_named body (on_side is.3.on_true is.3.after) reached there is.7 (p.on_true closed begun)
    within_named (core.Return value at) st reached there is all = absurd is

pub before_named : (program : core.Program) (fun : ℕ) (reached : core.Stmt) (there : State) → IsBefore program fun reached there → RowsBelow there.ctx.vars there.ctx.rows
before_named program fun reached there is =
    stands_named (record { table = is.table; sigs = is.sigs; fun = fun; own = is.own }) (table_closed program.types is.table is.types) is.f.body is.start reached there is.stands
    (start_named is.own is.goals is.notes is.start is.begins)
