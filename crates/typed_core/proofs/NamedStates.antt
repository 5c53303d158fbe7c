-- No construct comes upon a stray where the types of variables name index variables that are there: it gives such a type, and has no fewer
-- index variables.
use Rattle.std.proofs.Common.{◌≡◌, ◌∙◌, ℕ, ◌+◌, ◌≤◌, ◌<◌, List, [], ◌∷◌, length, nat_lt, Bool as Truth, true, false, cond, Option, Some, None, Result, Ok, Err, refl, sym, ap, subst, arith}
use Rattle.std.specs.Prelude.{nat_le}
use Rattle.state_types.specs.Answers.{◌>>=◌}
use Rattle.std.specs.List.{All, list_all}
use Rattle.std.proofs.lemmas.Bool.{lt-ltb, ltb-true}
use Rattle.std.proofs.lemmas.List.Elements.{All-nil, All-cons, All-head, All-tail}
use Rattle.index_sorts.specs.Context.{IndexContext, with_variables}
use Rattle.index_sorts.specs.Known.{knows, with_row}
use Rattle.index_sorts.specs.declared.error.ContextError.{ContextError}
use Rattle.index_sorts.specs.declared.error.ContextError.TheVariants as context_error
use Rattle.xan_lin.specs.Linear.{Linear, NamesBelow}
use Rattle.xan_lin.specs.declared.term.LimitKind.{LimitKind}
use Rattle.xan_lin.specs.declared.term.TooLarge.{TooLarge}
use Rattle.xan_lin.proofs.Booleans.{both, both_true}
use Rattle.state_types.specs.Tables.{IsClosed}
use Rattle.state_types.specs.Types.{TypeBelow}
use Rattle.state_types.specs.declared.types.Ty.{Ty}
use Rattle.state_types.specs.declared.types.Ty.TheVariants as ty
use Rattle.state_types.proofs.RowNames.{type-more}
use Rattle.operation_rules.specs.Applied as rules
use Rattle.operation_rules.specs.Applied.{widened, all_assuming, all_given}
use Rattle.operation_rules.specs.Faults.{Ruling, filled, needed}
use Rattle.operation_rules.specs.Rules.{rule}
use Rattle.operation_rules.specs.declared.error.Fault.TheVariants.{NoTarget, NoType, NoPlace, WrongCount, WrongKind, Large, Full}
use Rattle.operation_rules.specs.declared.operation.Operation.{Operation}
use Rattle.operation_rules.specs.declared.rule.Rule.{Rule}
use Rattle.typed_core.specs.Constructs.{setting_of, followed, asking, types_by, first_type, type_by, state_by}
use Rattle.typed_core.specs.Limits as limits
use Rattle.typed_core.specs.Limits.{Stop, Past, Misfit, Stray, Walk, most, within, in_context, by_rule, held}
use Rattle.typed_core.specs.States.{Site, State, with_fresh, assuming, demanding, there, matching}
use Rattle.typed_core.specs.Strays.{form_below, type_below}
use Rattle.typed_core.proofs.LimitedAnswers.{Answers, Anything, then_answers, weaker, any_answer}
use Rattle.typed_core.proofs.GivenNamed.{given_named, rule_gives}

-- ---- answers that are no stray

abbrev pub IsNoStray : Stop → Type 0
IsNoStray (Past kind) = Unit {0}
IsNoStray Misfit = Unit {0}
IsNoStray Stray = ⊥

abbrev pub Stays : {A : Type 0} → (A → Type 0) → Walk A → Type 0
Stays P answer = Answers IsNoStray P answer

-- the value is what is answered
pub known_answer : {A E : Type 0} (m : Result A E) → Answers Anything (λ x. m ≡ Ok x) m
known_answer (Ok x) = record { is = refl }
known_answer (Err e) = record { is = tt }

pub answered : {A E : Type 0} {Q : E → Type 0} {P : A → Type 0} (m : Result A E) (x : A) → Answers Q P m → m ≡ Ok x → P x
answered {P = P} (Ok y) x h e = subst P (same y x e) h.is
  where
    same : {B F : Type 0} (a b : B) → (let r : Result B F = Ok a in r) ≡ Ok b → a ≡ b
    same a b e = cc
answered (Err why) x h e = absurd (let bad : ⊥ = cc in bad)

pub both_answers : {A E : Type 0} {Q : E → Type 0} {P R : A → Type 0} (m : Result A E) → Answers Q P m → Answers Q R m → Answers Q (λ x. P x × R x) m
both_answers (Ok x) h g = record { is = (h.is, g.is) }
both_answers (Err e) h g = record { is = h.is }

module _ {A : Type 0} {P : A → Type 0} where
  pub needed_stays : (m : Result A TooLarge) → Answers Anything P m → Stays P (limits.needed m)
  needed_stays (Ok x) h = record { is = h.is }
  needed_stays (Err why) h = record { is = tt }

  pub context_stays : (m : Result A ContextError) → Answers Anything P m → Stays P (in_context m)
  context_stays (Ok x) h = record { is = h.is }
  context_stays (Err context_error.Variables) h = record { is = tt }
  context_stays (Err context_error.Rows) h = record { is = tt }
  context_stays (Err context_error.Memory) h = record { is = tt }

  pub there_stays : (o : Option A) → ((x : A) → o ≡ Some x → P x) → Stays P (there o)
  there_stays (Some x) h = record { is = h x refl }
  there_stays None h = record { is = tt }

  pub by_rule_stays : (m : Ruling A) → Answers Anything P m → Stays P (by_rule m)
  by_rule_stays (Ok x) h = record { is = h.is }
  by_rule_stays (Err NoTarget) h = record { is = tt }
  by_rule_stays (Err NoType) h = record { is = tt }
  by_rule_stays (Err NoPlace) h = record { is = tt }
  by_rule_stays (Err WrongCount) h = record { is = tt }
  by_rule_stays (Err WrongKind) h = record { is = tt }
  by_rule_stays (Err (Large why)) h = record { is = tt }
  by_rule_stays (Err (Full context_error.Variables)) h = record { is = tt }
  by_rule_stays (Err (Full context_error.Rows)) h = record { is = tt }
  by_rule_stays (Err (Full context_error.Memory)) h = record { is = tt }

  filled_answers : (m : Result A ContextError) → Answers Anything P m → Answers Anything P (filled m)
  filled_answers (Ok x) h = record { is = h.is }
  filled_answers (Err why) h = record { is = tt }

  needed_answers : (m : Result A TooLarge) → Answers Anything P m → Answers Anything P (needed m)
  needed_answers (Ok x) h = record { is = h.is }
  needed_answers (Err why) h = record { is = tt }

pub held_stays : (b : Truth) → b ≡ true → Stays Anything (held b)
held_stays true e = record { is = tt }
held_stays false e = absurd (let bad : ⊥ = cc in bad)

within_by : (b : Truth) (kind : LimitKind) → Stays Anything (let r : Walk (Unit {0}) = cond b (Err (Past kind)) (Ok tt) in r)
within_by true kind = record { is = tt }
within_by false kind = record { is = tt }

pub within_stays : (kind : LimitKind) (count : ℕ) → Stays Anything (within kind count)
within_stays kind count = within_by (nat_lt (most kind) count) kind

-- ---- tests, and what they test

pub all_test : {A : Type 0} (p : A → Truth) (P : A → Type 0) → ((x : A) → P x → p x ≡ true) → (xs : List A) → All P xs → list_all p xs ≡ true
all_test p P f [] all = refl
all_test p P f (x ∷ xs) all = both_true (p x) (list_all p xs) (f x (All-head P x xs all)) (all_test p P f xs (All-tail P x xs all))

pub test_all : {A : Type 0} (p : A → Truth) (P : A → Type 0) → ((x : A) → p x ≡ true → P x) → (xs : List A) → list_all p xs ≡ true → All P xs
test_all p P f [] e = All-nil P
test_all p P f (x ∷ xs) e = (let b = both (p x) (list_all p xs) e in All-cons P x xs (f x b.0) (test_all p P f xs b.1))

pub form_test : (n : ℕ) (form : Linear) → NamesBelow n form → form_below n form ≡ true
form_test n form h = all_test (λ t. nat_lt t.var n) (λ t. t.var < n) (λ t l. lt-ltb t.var n l) form.terms h

pub test_form : (n : ℕ) (form : Linear) → form_below n form ≡ true → NamesBelow n form
test_form n form e = test_all (λ t. nat_lt t.var n) (λ t. t.var < n) (λ t h. ltb-true t.var n h) form.terms e

pub type_test : (n : ℕ) (t : Ty) → TypeBelow n t → type_below n t ≡ true
type_test n (ty.Int e) h = form_test n e h
type_test n ty.Bool h = refl
type_test n (ty.Array element e) h = form_test n e h
type_test n (ty.Named number) h = refl

pub test_type : (n : ℕ) (t : Ty) → type_below n t ≡ true → TypeBelow n t
test_type n (ty.Int e) h = test_form n e h
test_type n ty.Bool h = tt
test_type n (ty.Array element e) h = test_form n e h
test_type n (ty.Named number) h = tt

-- ---- contexts

fresh_by : (b : Truth) (n : ℕ) (ctx : IndexContext)
    → Answers Anything (λ wide. wide ≡ ctx) ((let r : Result ℕ ContextError = cond b (Err context_error.Variables) (Ok n) in r) >>= (λ first. let r : Result IndexContext ContextError = Ok ctx in r))
fresh_by true n ctx = record { is = tt }
fresh_by false n ctx = record { is = refl }

-- so many variables more, and the same rows
pub widened_is : (count : ℕ) (ctx : IndexContext) → Answers Anything (λ wide. wide ≡ with_variables ctx count) (widened count ctx)
unfolding widened
widened_is count ctx = fresh_by (nat_lt 1024 (ctx.vars + count)) ctx.vars (with_variables ctx count)

vars_by : (b c : Truth) (x y : IndexContext) (n : ℕ) → x.vars ≡ n → y.vars ≡ n
    → Answers Anything (λ more. more.vars ≡ n) (let r : Result IndexContext ContextError = cond b (Ok x) (cond c (Err context_error.Rows) (Ok y)) in r)
vars_by true c x y n h g = record { is = h }
vars_by false true x y n h g = record { is = tt }
vars_by false false x y n h g = record { is = g }

row_vars : (ctx : IndexContext) (row : Linear) → Answers Anything (λ more. more.vars ≡ ctx.vars) (with_row ctx row)
unfolding with_row
row_vars ctx row = vars_by (knows ctx row) (nat_le 512 (length ctx.rows)) ctx _ ctx.vars refl refl

assuming_vars : (row : Result Linear TooLarge) (ctx : IndexContext) → Answers Anything (λ more. more.vars ≡ ctx.vars) (rules.assuming row ctx)
assuming_vars (Ok row) ctx = row_vars ctx row
assuming_vars (Err why) ctx = record { is = refl }

pub assumed_vars : (rows : List (Result Linear TooLarge)) (ctx : IndexContext) → Answers Anything (λ more. more.vars ≡ ctx.vars) (all_assuming rows ctx)
unfolding all_assuming
assumed_vars [] ctx = record { is = refl }
assumed_vars (row ∷ rows) ctx =
    then_answers (rules.assuming row ctx) _ (assuming_vars row ctx) (λ more e. weaker (all_assuming rows more) (λ end f. f ∙ e) (assumed_vars rows more))

pub all_assumed_vars : (rows : List (Result Linear TooLarge)) (ctx more : IndexContext) → all_assuming rows ctx ≡ Ok more → more.vars ≡ ctx.vars
all_assumed_vars rows ctx more e = answered (all_assuming rows ctx) more (assumed_vars rows ctx) e

abbrev Follows : IndexContext → Rule → (List Ty → Type 0) → List Ty × IndexContext → Type 0
Follows ctx r P p = (p.1.vars ≡ ctx.vars + r.fresh) × P p.0

followed_by : (P : List Ty → Type 0) (r : Rule) (ctx : IndexContext) → Answers Anything P (all_given r.given) → Answers Anything (Follows ctx r P) (followed r ctx)
unfolding followed
followed_by P r ctx given =
    then_answers (filled (widened r.fresh ctx)) _ (filled_answers (widened r.fresh ctx) (widened_is r.fresh ctx))
    (λ wide is. then_answers (filled (all_assuming r.assumed wide)) _ (filled_answers (all_assuming r.assumed wide) (assumed_vars r.assumed wide))
    (λ more same. then_answers (needed (all_given r.given)) _ (needed_answers (all_given r.given) given)
    (λ types p. record { is = (same ∙ ap (λ c. c.vars) is, p) })))

pub followed_vars : (r : Rule) (ctx : IndexContext) (types : List Ty) (more : IndexContext) → followed r ctx ≡ Ok (types, more) → more.vars ≡ ctx.vars + r.fresh
followed_vars r ctx types more e = (answered (followed r ctx) (types, more) (followed_by Anything r ctx (any_answer (all_given r.given))) e).0

-- ---- states

-- there are no fewer index variables, and types and names are as before
pub record Went (before more : State) : Type 0 where
  pub vars : before.ctx.vars ≤ more.ctx.vars
  pub types : more.types ≡ before.types
  pub naming : more.naming ≡ before.naming

pub stood : (st : State) → Went st st
stood st = record { vars = omega arith; types = refl; naming = refl }

pub went_on : (a b c : State) → Went a b → Went b c → Went a c
went_on a b c one two =
    (let h = one.vars in let g = two.vars in
    record { vars = omega (arith, h, g); types = two.types ∙ one.types; naming = two.naming ∙ one.naming })

-- the function's variables are there, and the types name variables that are there
pub record Typed (own : ℕ) (st : State) : Type 0 where
  pub own_vars : own ≤ st.ctx.vars
  pub types : All (λ e. TypeBelow st.ctx.vars e.1) st.types

pub types_more : (m n : ℕ) (types : List (ℕ × Ty)) → m ≤ n → All (λ e. TypeBelow m e.1) types → All (λ e. TypeBelow n e.1) types
types_more m n types le all = λ k d h. type-more m n _ le (all k d h)

pub all_more : (m n : ℕ) (types : List Ty) → m ≤ n → All (TypeBelow m) types → All (TypeBelow n) types
all_more m n types le all = λ k d h. type-more m n _ le (all k d h)

pub typed_on : (own : ℕ) (before more : State) → Went before more → Typed own before → Typed own more
typed_on own before more went typed =
    (let h = went.vars in let g = typed.own_vars in
    record {
      own_vars = omega (arith, h, g);
      types = subst (λ ts. All (λ e. TypeBelow more.ctx.vars e.1) ts) (sym went.types) (types_more before.ctx.vars more.ctx.vars before.types h typed.types);
    })

-- ---- constructs

asked_went : (site : Site) (at : Option ℕ) (rows : List Linear) (ctx : IndexContext) (st : State) → st.ctx.vars ≤ ctx.vars → Went st (record (asking site at rows st) { ctx = ctx })
unfolding demanding
asked_went site None rows ctx st h = record { vars = h; types = refl; naming = refl }
asked_went site (Some at) rows ctx st h = record { vars = h; types = refl; naming = refl }

abbrev pub TypesBehind : State → List Ty × State → Type 0
TypesBehind st r = Went st r.1 × All (TypeBelow r.1.ctx.vars) r.0

abbrev pub TypeBehind : State → Ty × State → Type 0
TypeBehind st r = Went st r.1 × TypeBelow r.1.ctx.vars r.0

first_stays : (n : ℕ) (ts : List Ty) → All (TypeBelow n) ts → Stays (TypeBelow n) (first_type ts)
first_stays n [] all = record { is = tt }
first_stays n (t ∷ ts) all = record { is = All-head (TypeBelow n) t ts all }

module _ (site : Site) (closed : All IsClosed site.table) where
  pub types_by_stays : (at : Option ℕ) (op : Operation) (types : List Ty) (st : State) → site.own.vars ≤ st.ctx.vars → All (TypeBelow st.ctx.vars) types
      → Stays (TypesBehind st) (types_by site at op types st)
  unfolding types_by
  types_by_stays at op types st le below =
      let n = st.ctx.vars in
      then_answers (held (list_all (type_below n) types)) _ (held_stays (list_all (type_below n) types) (all_test (type_below n) (TypeBelow n) (λ t h. type_test n t h) types below))
      (λ named u. then_answers (by_rule (rule (setting_of site) op types n)) _ (by_rule_stays (rule (setting_of site) op types n) (known_answer (rule (setting_of site) op types n)))
      (λ r is. then_answers (by_rule (followed r st.ctx)) _
      (by_rule_stays (followed r st.ctx) (followed_by (All (TypeBelow (n + r.fresh))) r st.ctx
      (given_named (n + r.fresh) r.given (rule_gives (setting_of site) op types n r closed le is below))))
      (λ p f. (let same = f.0 in record {
        is = (
          asked_went site at r.demands p.1 st (omega (arith, same)),
          subst (λ m. All (TypeBelow m) p.0) (sym same) f.1,
        );
      }))))

  pub type_by_stays : (at : Option ℕ) (op : Operation) (types : List Ty) (st : State) → site.own.vars ≤ st.ctx.vars → All (TypeBelow st.ctx.vars) types
      → Stays (TypeBehind st) (type_by site at op types st)
  unfolding type_by
  type_by_stays at op types st le below =
      then_answers (types_by site at op types st) _ (types_by_stays at op types st le below)
      (λ r h. then_answers (first_type r.0) _ (first_stays r.1.ctx.vars r.0 h.1) (λ t named. record { is = (h.0, named) }))

  pub state_by_stays : (at : Option ℕ) (op : Operation) (types : List Ty) (st : State) → site.own.vars ≤ st.ctx.vars → All (TypeBelow st.ctx.vars) types
      → Stays (Went st) (state_by site at op types st)
  unfolding state_by
  state_by_stays at op types st le below = then_answers (types_by site at op types st) _ (types_by_stays at op types st le below) (λ r h. record { is = h.0 })

-- ---- what is fresh, and what is taken to hold

-- so many index variables more, and all else as before but rows
pub record Widens (count : ℕ) (st more : State) : Type 0 where
  pub vars : more.ctx.vars ≡ st.ctx.vars + count
  pub types : more.types ≡ st.types
  pub naming : more.naming ≡ st.naming

pub fresh_stays : (count : ℕ) (st : State) → Stays (Widens count st) (with_fresh count st)
unfolding with_fresh
fresh_stays count st =
    then_answers (by_rule (filled (widened count st.ctx))) _ (by_rule_stays (filled (widened count st.ctx)) (filled_answers (widened count st.ctx) (widened_is count st.ctx)))
    (λ ctx is. record { is = record { vars = ap (λ c. c.vars) is; types = refl; naming = refl } })

pub assumed_stays : (rows : List (Result Linear TooLarge)) (ctx : IndexContext) → Stays (λ more. more.vars ≡ ctx.vars) (by_rule (filled (all_assuming rows ctx)))
assumed_stays rows ctx = by_rule_stays (filled (all_assuming rows ctx)) (filled_answers (all_assuming rows ctx) (assumed_vars rows ctx))

pub assuming_stays : (rows : List (Result Linear TooLarge)) (st : State) → Stays (Widens 0 st) (assuming rows st)
unfolding assuming
assuming_stays rows st =
    then_answers (by_rule (filled (all_assuming rows st.ctx))) _ (assumed_stays rows st.ctx)
    (λ ctx same. record { is = record { vars = (let e : ctx.vars ≡ st.ctx.vars = same in omega (arith, e)); types = refl; naming = refl } })

pub matching_stays : (below vars : ℕ) (rows : List Linear) (wanted actual : List Ty) → Stays Anything (matching below vars rows wanted actual)
unfolding matching
matching_stays below vars rows wanted actual = by_rule_stays _ (any_answer _)
