-- Contexts and goals only become more, along rules and along constructs; and rows name variables so far.
use Rattle.std.proofs.Common.{◌≡◌, ◌∙◌, ℕ, ◌+◌, ◌≤◌, List, [], ◌∷◌, ◌++◌, length, get_or, Bool as Truth, true, false, cond, Option, Some, None, Result, Ok, Err, refl, sym, subst, arith}
use Rattle.std.specs.Prelude.{nat_le}
use Rattle.std.specs.List.{All, list_all}
use Rattle.std.proofs.lemmas.List.Elements.{All-head, All-tail, All-push}
use Rattle.index_sorts.specs.Context.{IndexContext, with_variables}
use Rattle.index_sorts.specs.Known.{knows, with_row}
use Rattle.index_sorts.specs.declared.error.ContextError.{ContextError}
use Rattle.index_sorts.specs.declared.error.ContextError.TheVariants as context_error
use Rattle.xan_lin.specs.Linear.{Linear, NamesBelow}
use Rattle.xan_lin.specs.declared.term.TooLarge.{TooLarge}
use Rattle.state_types.specs.Tables.{IsClosed}
use Rattle.state_types.specs.Types.{TypeBelow}
use Rattle.state_types.specs.declared.closed.Packed.{Packed}
use Rattle.state_types.specs.declared.types.Ty.{Ty}
use Rattle.state_types.proofs.FormNames.{below-more}
use Rattle.operation_rules.specs.Applied as rules
use Rattle.operation_rules.specs.Applied.{widened, all_assuming, all_given}
use Rattle.operation_rules.specs.Faults.{Ruling, filled, needed}
use Rattle.operation_rules.specs.Named.{IsNamed}
use Rattle.operation_rules.specs.Rules.{rule}
use Rattle.operation_rules.specs.declared.operation.Operation.{Operation}
use Rattle.operation_rules.specs.declared.rule.Rule.{Rule}
use Rattle.operation_rules.proofs.RowsNamed.{rows_named}
use Rattle.typed_core.specs.Constructs.{setting_of, followed, asking, types_by, first_type, type_by, state_by}
use Rattle.typed_core.specs.Growth.{Continues, Grown}
use Rattle.typed_core.specs.Limits.{by_rule, held}
use Rattle.typed_core.specs.States.{Site, State, Asked, asked, all_asked, none_asked, demanding}
use Rattle.typed_core.specs.Strays.{type_below}
use Rattle.typed_core.proofs.Continued.{held_known, Goes, no_more, one_more, more_again}
use Rattle.typed_core.proofs.LimitedAnswers.{then_answers, weaker, any_answer}
use Rattle.typed_core.proofs.NamedStates.{known_answer, widened_is, test_all, test_type}

-- ---- rows

abbrev pub RowsBelow : ℕ → List Linear → Type 0
RowsBelow n rows = All (NamesBelow n) rows

pub rows_more : (m n : ℕ) (rows : List Linear) → m ≤ n → RowsBelow m rows → RowsBelow n rows
rows_more m n rows le all = λ k d h. below-more m n (get_or rows k d) le (all k d h)

-- rows are added, which name variables if P holds
pub record Adds (P : Type 0) (ctx more : IndexContext) : Type 0 where
  pub vars : more.vars ≡ ctx.vars
  pub rows : Continues ctx.rows more.rows
  pub named : P → RowsBelow ctx.vars ctx.rows → RowsBelow ctx.vars more.rows

row_by : (b c : Truth) (ctx : IndexContext) (row : Linear)
    → Goes (Adds (NamesBelow ctx.vars row) ctx)
    (let r : Result IndexContext ContextError = cond b (Ok ctx) (cond c (Err context_error.Rows) (Ok (record ctx { rows = ctx.rows ++ row ∷ [] }))) in r)
row_by true c ctx row = record { is = record { vars = refl; rows = no_more ctx.rows; named = λ p all. all } }
row_by false true ctx row = record { is = tt }
row_by false false ctx row = record { is = record { vars = refl; rows = one_more ctx.rows row; named = λ p all. All-push (NamesBelow ctx.vars) ctx.rows row all p } }

pub row_adds : (ctx : IndexContext) (row : Linear) → Goes (Adds (NamesBelow ctx.vars row) ctx) (with_row ctx row)
unfolding with_row
row_adds ctx row = row_by (knows ctx row) (nat_le 512 (length ctx.rows)) ctx row

assuming_adds : (row : Result Linear TooLarge) (ctx : IndexContext) → Goes (Adds (IsNamed ctx.vars row) ctx) (rules.assuming row ctx)
assuming_adds (Ok row) ctx = row_adds ctx row
assuming_adds (Err why) ctx = record { is = record { vars = refl; rows = no_more ctx.rows; named = λ p all. all } }

adds_again : (P Q : Type 0) (a b c : IndexContext) → Adds P a b → Adds Q b c → Adds (P × Q) a c
adds_again P Q a b c one two = record {
  vars = two.vars ∙ one.vars;
  rows = more_again a.rows b.rows c.rows one.rows two.rows;
  named = λ p all. subst (λ n. RowsBelow n c.rows) one.vars (two.named p.1 (subst (λ n. RowsBelow n b.rows) (sym one.vars) (one.named p.0 all)));
}

adds_if : (P Q : Type 0) (a b : IndexContext) → (Q → P) → Adds P a b → Adds Q a b
adds_if P Q a b f h = record { vars = h.vars; rows = h.rows; named = λ q all. h.named (f q) all }

pub all_add : (rows : List (Result Linear TooLarge)) (ctx : IndexContext) → Goes (Adds (All (IsNamed ctx.vars) rows) ctx) (all_assuming rows ctx)
unfolding all_assuming
all_add [] ctx = record { is = record { vars = refl; rows = no_more ctx.rows; named = λ p all. all } }
all_add (row ∷ rows) ctx =
    then_answers (rules.assuming row ctx) _ (assuming_adds row ctx)
    (λ more one. weaker (all_assuming rows more)
    (λ end two. adds_if (IsNamed ctx.vars row × All (IsNamed more.vars) rows) (All (IsNamed ctx.vars) (row ∷ rows)) ctx end
    (λ all. (All-head (IsNamed ctx.vars) row rows all, subst (λ n. All (IsNamed n) rows) (sym one.vars) (All-tail (IsNamed ctx.vars) row rows all)))
    (adds_again (IsNamed ctx.vars row) (All (IsNamed more.vars) rows) ctx more end one two))
    (all_add rows more))

-- ---- rules

module _ {A : Type 0} {P : A → Type 0} where
  pub filled_goes : (m : Result A ContextError) → Goes P m → Goes P (filled m)
  filled_goes (Ok x) h = record { is = h.is }
  filled_goes (Err why) h = record { is = tt }

  pub by_rule_goes : (m : Ruling A) → Goes P m → Goes P (by_rule m)
  by_rule_goes (Ok x) h = record { is = h.is }
  by_rule_goes (Err fault) h = record { is = tt }

-- a rule is followed: there are as many variables more as it says, and its rows are added
pub record Follows (r : Rule) (ctx : IndexContext) (p : List Ty × IndexContext) : Type 0 where
  pub vars : p.1.vars ≡ ctx.vars + r.fresh
  pub rows : Continues ctx.rows p.1.rows
  pub named : All (IsNamed (ctx.vars + r.fresh)) r.assumed → RowsBelow ctx.vars ctx.rows → RowsBelow p.1.vars p.1.rows

pub followed_goes : (r : Rule) (ctx : IndexContext) → Goes (Follows r ctx) (followed r ctx)
unfolding followed
followed_goes r ctx =
    let wide = with_variables ctx r.fresh in
    then_answers (filled (widened r.fresh ctx)) _ (filled_goes (widened r.fresh ctx) (widened_is r.fresh ctx))
    (λ begun is. then_answers (filled (all_assuming r.assumed begun)) _
    (filled_goes (all_assuming r.assumed begun) (subst (λ c. Goes (Adds (All (IsNamed wide.vars) r.assumed) wide) (all_assuming r.assumed c)) (sym is) (all_add r.assumed wide)))
    (λ more h. then_answers (needed (all_given r.given)) _ (any_answer (needed (all_given r.given)))
    (λ types u. record {
      is = record {
        vars = h.vars;
        rows = h.rows;
        named = λ p all. subst (λ n. RowsBelow n more.rows) (sym h.vars) (h.named p (rows_more ctx.vars wide.vars ctx.rows (omega arith) all));
      };
    })))

-- ---- goals

asked_more : (b : Truth) (goal : _) (made : Asked) → Continues made.goals (asked b goal made).goals
asked_more true goal made = no_more made.goals
asked_more false goal made = one_more made.goals goal

pub all_asked_more : (site : Site) (at : ℕ) (ctx : IndexContext) (rows : List Linear) (made : Asked) → Continues made.goals (all_asked site at ctx rows made).goals
unfolding all_asked
all_asked_more site at ctx [] made = no_more made.goals
all_asked_more site at ctx (row ∷ rows) made =
    let one = asked (knows ctx row) (record { fun = site.fun; at = at; ctx = ctx; row = row }) made in
    more_again made.goals one.goals (all_asked site at ctx rows one).goals (asked_more (knows ctx row) (record { fun = site.fun; at = at; ctx = ctx; row = row }) made)
    (all_asked_more site at ctx rows one)

-- ---- constructs

-- from one state to the next along an expression, where the closed types name only their own variables
pub record Onward (table : List Packed) (st more : State) : Type 0 where
  pub grown : Grown st more
  pub named : All IsClosed table → RowsBelow st.ctx.vars st.ctx.rows → RowsBelow more.ctx.vars more.ctx.rows

pub onward_here : (table : List Packed) (st : State) → Onward table st st
onward_here table st = record {
  grown = record {
    later = record { vars = omega arith; naming = no_more st.naming; goals = no_more st.goals; notes = no_more st.notes };
    rows = no_more st.ctx.rows;
    types = refl;
    naming = refl;
  };
  named = λ closed all. all;
}

pub onward_again : (table : List Packed) (a b c : State) → Onward table a b → Onward table b c → Onward table a c
onward_again table a b c one two =
    (let h = one.grown.later.vars in
    let g = two.grown.later.vars in
    record {
      grown = record {
        later = record {
          vars = omega (arith, h, g);
          naming = more_again a.naming b.naming c.naming one.grown.later.naming two.grown.later.naming;
          goals = more_again a.goals b.goals c.goals one.grown.later.goals two.grown.later.goals;
          notes = more_again a.notes b.notes c.notes one.grown.later.notes two.grown.later.notes;
        };
        rows = more_again a.ctx.rows b.ctx.rows c.ctx.rows one.grown.rows two.grown.rows;
        types = two.grown.types ∙ one.grown.types;
        naming = two.grown.naming ∙ one.grown.naming;
      };
      named = λ closed all. two.named closed (one.named closed all);
    })

asking_onward : (table : List Packed) (site : Site) (at : Option ℕ) (rows : List Linear) (st : State) → Onward table st (asking site at rows st)
unfolding demanding
asking_onward table site None rows st = onward_here table st
asking_onward table site (Some at) rows st = record {
  grown = record {
    later = record { vars = omega arith; naming = no_more st.naming; goals = all_asked_more site at st.ctx rows (none_asked st); notes = one_more st.notes _ };
    rows = no_more st.ctx.rows;
    types = refl;
    naming = refl;
  };
  named = λ closed all. all;
}

pub asking_ctx : (site : Site) (at : Option ℕ) (rows : List Linear) (st : State) → (asking site at rows st).ctx ≡ st.ctx
unfolding demanding
asking_ctx site None rows st = refl
asking_ctx site (Some at) rows st = refl

-- a context with more variables and rows
in_onward : (table : List Packed) (r : Rule) (st : State) (p : List Ty × IndexContext) → Follows r st.ctx p → (All IsClosed table → All (IsNamed (st.ctx.vars + r.fresh)) r.assumed)
    → Onward table st (record st { ctx = p.1 })
in_onward table r st p f named =
    (let grown = f.vars in
    record {
      grown = record {
        later = record { vars = omega (arith, grown); naming = no_more st.naming; goals = no_more st.goals; notes = no_more st.notes };
        rows = f.rows;
        types = refl;
        naming = refl;
      };
      named = λ closed all. f.named (named closed) all;
    })

module _ (site : Site) where
  pub types_by_goes : (at : Option ℕ) (op : Operation) (types : List Ty) (st : State) → Goes (λ r. Onward site.table st r.1) (types_by site at op types st)
  unfolding types_by
  types_by_goes at op types st =
      let n = st.ctx.vars in
      then_answers (held (list_all (type_below n) types)) _ (held_known (list_all (type_below n) types))
      (λ u test. let below = test_all (type_below n) (TypeBelow n) (λ t h. test_type n t h) types test in
      then_answers (by_rule (rule (setting_of site) op types n)) _ (by_rule_goes (rule (setting_of site) op types n) (known_answer (rule (setting_of site) op types n)))
      (λ r is. then_answers (by_rule (followed r st.ctx)) _ (by_rule_goes (followed r st.ctx) (followed_goes r st.ctx))
      (λ p f. let noted = asking site at r.demands st in
      let same = asking_ctx site at r.demands st in
      let here : Follows r noted.ctx p = subst (λ c. Follows r c p) (sym same) f in
      let named : All IsClosed site.table → All (IsNamed (noted.ctx.vars + r.fresh)) r.assumed =
      λ closed. subst (λ c. All (IsNamed (c.vars + r.fresh)) r.assumed) (sym same) (rows_named (setting_of site) op types n r closed is below) in
      record { is = onward_again site.table st noted (record noted { ctx = p.1 }) (asking_onward site.table site at r.demands st) (in_onward site.table r noted p here named) })))

  pub type_by_goes : (at : Option ℕ) (op : Operation) (types : List Ty) (st : State) → Goes (λ r. Onward site.table st r.1) (type_by site at op types st)
  unfolding type_by
  type_by_goes at op types st =
      then_answers (types_by site at op types st) _ (types_by_goes at op types st)
      (λ r h. then_answers (first_type r.0) _ (any_answer (first_type r.0)) (λ t u. record { is = h }))

  pub state_by_goes : (at : Option ℕ) (op : Operation) (types : List Ty) (st : State) → Goes (λ more. Onward site.table st more) (state_by site at op types st)
  unfolding state_by
  state_by_goes at op types st = then_answers (types_by site at op types st) _ (types_by_goes at op types st) (λ r h. record { is = h })
