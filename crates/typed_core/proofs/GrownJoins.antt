-- Where control flow meets, index variables, goals and notes only become more, and a variable that is neither changed nor named keeps its type.
use Rattle.std.proofs.Common.{◌≡◌, ◌∙◌, ℕ, suc, ◌+◌, List, [], ◌∷◌, ◌++◌, map, length, Bool as Truth, true, false, cond, Option, Some, None, Result, Ok, Err, refl, sym, ap, subst, append_assoc, arith}
use Rattle.std.specs.Prelude.{◌||◌, ◌&&◌, ◌==◌, not}
use Rattle.std.specs.List.{All, list_all}
use Rattle.std.proofs.lemmas.Bool.{or_parts, eqb-true}
use Rattle.std.proofs.lemmas.List.{append-nil}
use Rattle.std.proofs.lemmas.List.Elements.{All-nil, All-head, All-tail, All-push}
use Rattle.xan_lin.specs.Linear.{Linear, variable_form}
use Rattle.xan_lin.specs.declared.term.LimitKind.TheVariants as limit
use Rattle.xan_lin.specs.declared.term.TooLarge.{TooLarge}
use Rattle.xan_lin.proofs.Booleans.{both}
use Rattle.xan_seq.proofs.RisingKeys.{value-with}
use Rattle.state_types.specs.PlaceTypes.{type_at, with_type}
use Rattle.state_types.specs.declared.state.StateType.{StateType}
use Rattle.state_types.specs.declared.types.Ty.{Ty}
use Rattle.operation_rules.specs.Applied.{widened, all_assuming}
use Rattle.operation_rules.specs.Faults.{filled}
use Rattle.operation_rules.specs.Forms.{variables_from}
use Rattle.operation_rules.specs.Named.{IsNamed}
use Rattle.xanadu_tree.specs.declared.stmt.Clause.{Clause}
use Rattle.xanadu_tree.specs.declared.types.CoreTy.{CoreTy}
use Rattle.typed_core.specs.Forms.{renamed, renamed_type}
use Rattle.typed_core.specs.Growth.{Continues, Later}
use Rattle.typed_core.specs.Joins.{is_named, names, stated, with_index, has_index, Renewed, is_renewed, with_entry, few_places, renewed, renewing, naming_more, stating, stated_types, with_types, Joint, joined, within_bounds, values_at, met_there, entered, entered_if, type_or, still_visible}
use Rattle.typed_core.specs.Limits.{Walk, within, needed, by_rule, held}
use Rattle.typed_core.specs.States.{Site, State, resuming, with_fresh, assuming, noting_state, none_asked}
use Rattle.typed_core.specs.Strays.{clause_rises, values_rise, row_below}
use Rattle.typed_core.proofs.Continued.{held_known, Goes, no_more, one_more, some_more, more_again, same_more, later_here}
use Rattle.typed_core.proofs.LimitedAnswers.{then_answers, any_answer}
use Rattle.typed_core.proofs.GrownContexts.{RowsBelow, rows_more, Adds, all_add, filled_goes, by_rule_goes, all_asked_more}
use Rattle.typed_core.proofs.NamedStates.{widened_is, test_all, test_form}

-- ---- types of a list

-- a type under another number is not looked at
at_behind : (x : ℕ) (made es : List (ℕ × Ty)) (e : ℕ × Ty) (t : Ty) → (e.0 == x) ≡ false → type_at x (made ++ (e.0, t) ∷ es) ≡ type_at x (made ++ e ∷ es)
at_behind x [] es e t h =
    ap (λ b. cond b (let o : Option Ty = Some t in o) (type_at x es)) h ∙ sym (ap (λ b. cond b (let o : Option Ty = Some e.1 in o) (type_at x es)) h)
at_behind x (m ∷ ms) es e t h = ap (λ o. cond (m.0 == x) (let p : Option Ty = Some m.1 in p) o) (at_behind x ms es e t h)

not_renewed : (changed : ℕ → Truth) (vars : List (ℕ × CoreTy)) (e : ℕ × Ty) (x : ℕ) → changed x ≡ false → is_renewed changed vars e ≡ true → (e.0 == x) ≡ false
not_renewed changed vars e x h g = by_test (e.0 == x) refl
  where
    is_changed : changed e.0 ≡ true
    is_changed = (both (has_index e.1) (changed e.0) (both (has_index e.1 && changed e.0) (not (is_named e.0 vars)) g).0).1

    by_test : (b : Truth) → (e.0 == x) ≡ b → b ≡ false
    by_test false f = refl
    by_test true f = absurd (let same : changed e.0 ≡ changed x = ap changed (eqb-true e.0 x f) in let on : changed e.0 ≡ true = is_changed in let bad : ⊥ = cc in bad)

renewed_at : (changed : ℕ → Truth) (vars : List (ℕ × CoreTy)) (first : ℕ) (entries : List (ℕ × Ty)) (made : Renewed) (x : ℕ) → changed x ≡ false
    → type_at x (renewed changed vars first entries made).types ≡ type_at x (made.types ++ entries)
unfolding renewed
renewed_at changed vars first [] made x h = ap (type_at x) (sym (append-nil made.types))
renewed_at changed vars first (e ∷ es) made x h =
    renewed_at changed vars first es (with_entry (is_renewed changed vars e) first e made) x h ∙ entry_at (is_renewed changed vars e) (not_renewed changed vars e x h)
  where
    entry_at : (b : Truth) → (b ≡ true → (e.0 == x) ≡ false) → type_at x ((with_entry b first e made).types ++ es) ≡ type_at x (made.types ++ e ∷ es)
    entry_at false f = ap (type_at x) (append_assoc made.types (e ∷ []) es)
    entry_at true f =
        let t = with_index e.1 (variable_form (first + length made.others)) in
        ap (type_at x) (append_assoc made.types ((e.0, t) ∷ []) es) ∙ at_behind x made.types es e t (f refl)

-- no variable of the list is this one
abbrev IsOther : ℕ → ℕ × Ty → Type 0
IsOther x w = (w.0 == x) ≡ false

types_at : (x : ℕ) (wanted types : List (ℕ × Ty)) → All (IsOther x) wanted → type_at x (with_types wanted types) ≡ type_at x types
unfolding with_types
types_at x [] types all = refl
types_at x (w ∷ ws) types all =
    types_at x ws (with_type w.0 w.1 types) (All-tail (IsOther x) w ws all)
    ∙ (value-with x w.0 w.1 types ∙ ap (λ b. cond b (let o : Option Ty = Some w.1 in o) (type_at x types)) (All-head (IsOther x) w ws all))

stated_other : (x : ℕ) (naming : List (ℕ × Linear)) (own : ℕ) (vars : List (ℕ × CoreTy)) (made : List (ℕ × Ty)) → is_named x vars ≡ false → All (IsOther x) made
    → Goes (All (IsOther x)) (stated_types naming own vars made)
unfolding stated_types
stated_other x naming own [] made h all = record { is = all }
stated_other x naming own (s ∷ ss) made h all =
    let parts = or_parts (s.0 == x) (is_named x ss) h in
    then_answers (within limit.Places (suc s.0)) _ (any_answer (within limit.Places (suc s.0)))
    (λ few u. then_answers (needed (renamed_type naming own s.1)) _ (any_answer (needed (renamed_type naming own s.1)))
    (λ it v. stated_other x naming own ss (made ++ (s.0, it) ∷ []) parts.1 (All-push (IsOther x) made (s.0, it) all parts.0)))

-- the types at the end of a block, of a variable that has there the type that it had
pub still_at : (x : ℕ) (before after : List (ℕ × Ty)) → type_at x after ≡ type_at x before → type_at x (still_visible before after) ≡ type_at x before
unfolding still_visible
still_at x [] after h = refl
still_at x (e ∷ es) after h = by_test (e.0 == x) refl (λ g. still_at x es after g)
  where
    here : (e.0 == x) ≡ true → type_at x (e ∷ es) ≡ Some e.1
    here f = ap (λ b. cond b (let o : Option Ty = Some e.1 in o) (type_at x es)) f

    by_test : (b : Truth) → (e.0 == x) ≡ b → (type_at x after ≡ type_at x es → type_at x (still_visible es after) ≡ type_at x es)
        → cond b (let o : Option Ty = Some (type_or e.1 (type_at e.0 after)) in o) (type_at x (still_visible es after)) ≡ cond b (let o : Option Ty = Some e.1 in o) (type_at x es)
    by_test true f later =
        let same : type_at e.0 after ≡ Some e.1 = ap (λ n. type_at n after) (eqb-true e.0 x f) ∙ (h ∙ here f) in
        ap (λ o. let p : Option Ty = Some (type_or e.1 o) in p) same
    by_test false f later = later (h ∙ ap (λ b. cond b (let o : Option Ty = Some e.1 in o) (type_at x es)) f)

-- ---- fresh variables, and what is taken to hold

pub record Widens (count : ℕ) (st more : State) : Type 0 where
  pub vars : more.ctx.vars ≡ st.ctx.vars + count
  pub rows : more.ctx.rows ≡ st.ctx.rows
  pub same : more ≡ record st { ctx = more.ctx }

fresh_goes : (count : ℕ) (st : State) → Goes (Widens count st) (with_fresh count st)
unfolding with_fresh
fresh_goes count st =
    then_answers (by_rule (filled (widened count st.ctx))) _ (by_rule_goes (filled (widened count st.ctx)) (filled_goes (widened count st.ctx) (widened_is count st.ctx)))
    (λ ctx is. record { is = record { vars = ap (λ c. c.vars) is; rows = ap (λ c. c.rows) is; same = refl } })

pub record Assumes (rows : List (Result Linear TooLarge)) (st more : State) : Type 0 where
  pub adds : Adds (All (IsNamed st.ctx.vars) rows) st.ctx more.ctx
  pub same : more ≡ record st { ctx = more.ctx }

assuming_goes : (rows : List (Result Linear TooLarge)) (st : State) → Goes (Assumes rows st) (assuming rows st)
unfolding assuming
assuming_goes rows st =
    then_answers (by_rule (filled (all_assuming rows st.ctx))) _ (by_rule_goes (filled (all_assuming rows st.ctx)) (filled_goes (all_assuming rows st.ctx) (all_add rows st.ctx)))
    (λ ctx h. record { is = record { adds = h; same = refl } })

-- ---- the state

-- the types before with fresh indices, and the state with all fresh variables
record Renews (P : Type 0) (changed : ℕ → Truth) (before : StateType) (latest : State) (r : Renewed × State) : Type 0 where
  later : Later latest r.1
  naming : r.1.naming ≡ latest.naming
  types : (x : ℕ) → changed x ≡ false → type_at x r.0.types ≡ type_at x before.places
  named : P → RowsBelow r.1.ctx.vars r.1.ctx.rows

widened_later : (count : ℕ) (rows : List Linear) (types : List (ℕ × Ty)) (latest fresh : State) → Widens count (resuming rows types latest) fresh → Later latest fresh
widened_later count rows types latest fresh w =
    (let grown : fresh.ctx.vars ≡ latest.ctx.vars + count = w.vars in
    record {
      vars = omega (arith, grown);
      naming = same_more latest.naming fresh.naming (ap (λ s. s.naming) w.same);
      goals = same_more latest.goals fresh.goals (ap (λ s. s.goals) w.same);
      notes = same_more latest.notes fresh.notes (ap (λ s. s.notes) w.same);
    })

renewing_goes : (P : Type 0) (clause : Clause) (changed : ℕ → Truth) (before : StateType) (latest : State) → (P → RowsBelow latest.ctx.vars before.ctx.rows)
    → Goes (Renews P changed before latest) (renewing clause changed before latest)
unfolding renewing
renewing_goes P clause changed before latest named =
    let from = latest.ctx.vars + clause.quant.count in
    let none : Renewed = record { types = []; others = [] } in
    let kept = renewed changed clause.vars from before.places none in
    let count = clause.quant.count + length kept.others in
    let start = resuming before.ctx.rows before.places latest in
    then_answers (few_places before.places) _ (any_answer (few_places before.places))
    (λ few u. then_answers (with_fresh count start) _ (fresh_goes count start)
    (λ fresh w. (let grown : fresh.ctx.vars ≡ latest.ctx.vars + count = w.vars in
    record {
      is = record {
        later = widened_later count before.ctx.rows before.places latest fresh w;
        naming = ap (λ s. s.naming) w.same;
        types = λ x h. renewed_at changed clause.vars from before.places none x h;
        named = λ p. subst (λ rs. RowsBelow fresh.ctx.vars rs) (sym w.rows) (rows_more latest.ctx.vars fresh.ctx.vars before.ctx.rows (omega (arith, grown)) (named p));
      };
    })))

-- a clause's rows are taken to hold
record States (st : State) (r : List (Result Linear TooLarge) × State) : Type 0 where
  vars : r.1.ctx.vars ≡ st.ctx.vars
  same : r.1 ≡ record st { ctx = r.1.ctx }
  named : RowsBelow st.ctx.vars st.ctx.rows → RowsBelow r.1.ctx.vars r.1.ctx.rows

row_named : (n : ℕ) (row : Result Linear TooLarge) → row_below n row ≡ true → IsNamed n row
row_named n (Ok row) e = test_form n row e
row_named n (Err why) e = tt

stating_goes : (naming : List (ℕ × Linear)) (own : ℕ) (clause : Clause) (st : State) → Goes (States st) (stating naming own clause st)
unfolding stating
stating_goes naming own clause st =
    let rows = map (renamed naming own) clause.quant.rows in
    then_answers (held (values_rise 0 naming)) _ (any_answer (held (values_rise 0 naming)))
    (λ a u. then_answers (held (clause_rises clause)) _ (any_answer (held (clause_rises clause)))
    (λ b v. then_answers (held (list_all (row_below st.ctx.vars) rows)) _ (held_known (list_all (row_below st.ctx.vars) rows))
    (λ c test. then_answers (assuming rows st) _ (assuming_goes rows st)
    (λ known h. record {
      is = record {
        vars = h.adds.vars;
        same = h.same;
        named = λ all. subst (λ n. RowsBelow n known.ctx.rows) (sym h.adds.vars)
            (h.adds.named (test_all (row_below st.ctx.vars) (IsNamed st.ctx.vars) (λ r e. row_named st.ctx.vars r e) rows test) all);
      };
    }))))

-- what is stated where control flow meets
pub record Meets (P : Type 0) (changed : ℕ → Truth) (before : StateType) (latest : State) (r : Joint × State) : Type 0 where
  pub later : Later latest r.1
  pub types : (x : ℕ) → changed x ≡ false → type_at x r.1.types ≡ type_at x before.places
  pub named : P → RowsBelow r.1.ctx.vars r.1.ctx.rows

clause_named : (clause : Option Clause) (x : ℕ) → names clause x ≡ false → is_named x (stated clause).vars ≡ false
clause_named None x h = refl
clause_named (Some clause) x h = h

begun_later : (listed : List (ℕ × Linear)) (latest fresh known : State) → Later latest fresh → known ≡ record (naming_more listed fresh) { ctx = known.ctx }
    → known.ctx.vars ≡ fresh.ctx.vars → Later latest known
begun_later listed latest fresh known l same vars =
    (let le = l.vars in
    record {
      vars = omega (arith, le, vars);
      naming = more_again latest.naming fresh.naming known.naming l.naming
          (subst (λ vs. Continues fresh.naming vs) (sym (ap (λ s. s.naming) same)) (some_more fresh.naming listed));
      goals = more_again latest.goals fresh.goals known.goals l.goals (same_more fresh.goals known.goals (ap (λ s. s.goals) same));
      notes = more_again latest.notes fresh.notes known.notes l.notes (same_more fresh.notes known.notes (ap (λ s. s.notes) same));
    })

pub joined_goes : (P : Type 0) (site : Site) (clause : Option Clause) (changed : ℕ → Truth) (before : StateType) (latest : State) → (P → RowsBelow latest.ctx.vars before.ctx.rows)
    → Goes (Meets P (λ x. changed x || names clause x) before latest) (joined site (stated clause) changed before latest)
unfolding joined noting_state
joined_goes P site clause changed before latest named =
    let c = stated clause in
    let listed = variables_from c.first latest.ctx.vars c.quant.count in
    then_answers (renewing c changed before latest) _ (renewing_goes P c changed before latest named)
    (λ k r. let begun = naming_more listed k.1 in
    then_answers (stating begun.naming site.own.vars c begun) _ (stating_goes begun.naming site.own.vars c begun)
    (λ s h. then_answers (stated_types s.1.naming site.own.vars c.vars []) _ (others_answer s.1.naming site.own.vars c.vars)
    (λ wanted f. let l = begun_later listed latest k.1 s.1 r.later h.same h.vars in
    record {
      is = record {
        later = record { vars = l.vars; naming = l.naming; goals = l.goals; notes = more_again latest.notes s.1.notes _ l.notes (one_more s.1.notes _) };
        types = λ x e. (let parts = or_parts (changed x) (names clause x) e in types_at x wanted k.0.types (f x (clause_named clause x parts.1)) ∙ r.types x parts.0);
        named = λ p. h.named (r.named p);
      };
    })))
  where
    others_answer : (naming : List (ℕ × Linear)) (own : ℕ) (vars : List (ℕ × CoreTy))
        → Goes (λ wanted. (x : ℕ) → is_named x vars ≡ false → All (IsOther x) wanted) (stated_types naming own vars [])
    others_answer naming own vars = for_all (stated_types naming own vars []) (λ x h. stated_other x naming own vars [] h (All-nil (IsOther x)))
      where
        for_all : (m : Walk (List (ℕ × Ty))) → ((x : ℕ) → is_named x vars ≡ false → Goes (All (IsOther x)) m)
            → Goes (λ wanted. (x : ℕ) → is_named x vars ≡ false → All (IsOther x) wanted) m
        for_all (Ok wanted) f = record { is = λ x h. (f x h).is }
        for_all (Err why) f = record { is = tt }

-- ---- the ways into it

-- only goals and notes are added
pub record Stays (st more : State) : Type 0 where
  pub later : Later st more
  pub ctx : more.ctx ≡ st.ctx
  pub types : more.types ≡ st.types

pub entered_goes : (site : Site) (at : ℕ) (joint : Joint) (from : StateType) (st : State) → Goes (Stays st) (entered site at joint from st)
unfolding entered
entered_goes site at joint from st =
    then_answers (met_there joint from.places) _ (any_answer (met_there joint from.places))
    (λ m u. then_answers (within_bounds joint.past) _ (any_answer (within_bounds joint.past))
    (λ limit v. then_answers (values_at from.places (joint.first + joint.count) joint.others m.1.values) _
    (any_answer (values_at from.places (joint.first + joint.count) joint.others m.1.values))
    (λ values w. record {
      is = record {
        later = record { vars = omega arith; naming = no_more st.naming; goals = all_asked_more site at from.ctx m.1.rows (none_asked st); notes = one_more st.notes _ };
        ctx = refl;
        types = refl;
      };
    })))

pub entered_if_goes : (completes : Truth) (site : Site) (at : ℕ) (joint : Joint) (from : StateType) (st : State) → Goes (Stays st) (entered_if completes site at joint from st)
unfolding entered_if
entered_if_goes false site at joint from st = record { is = record { later = later_here st; ctx = refl; types = refl } }
entered_if_goes true site at joint from st = entered_goes site at joint from st
