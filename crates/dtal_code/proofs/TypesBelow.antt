-- Types that are read, given and written, and rows that are assumed, name variables that are there.
use Rattle.std.proofs.Common.{◌≡◌, ◌∙◌, ℕ, ◌≤◌, ◌==◌, cond, List, [], ◌∷◌, ◌++◌, length, map, nat_lt, Bool as Test, true, false, Some, Result, Ok, Err, sym, ap, subst}
use Rattle.std.specs.Prelude.{nat_le}
use Rattle.std.specs.List.{All}
use Rattle.std.proofs.lemmas.List.Elements.{All-nil, All-cons, All-head, All-tail, All-push}
use Rattle.index_sorts.specs.Context.{IndexContext}
use Rattle.index_sorts.specs.Known.{knows, with_row}
use Rattle.index_sorts.specs.declared.error.ContextError.{ContextError}
use Rattle.index_sorts.specs.declared.error.ContextError.TheVariants as context_error
use Rattle.xan_lin.specs.Linear.{Linear}
use Rattle.xan_lin.specs.declared.term.TooLarge.{TooLarge}
use Rattle.state_types.specs.PlaceTypes.{type_at, with_type}
use Rattle.state_types.specs.Types.{TypeBelow}
use Rattle.state_types.specs.declared.types.Ty.{Ty}
use Rattle.state_types.proofs.Edges.{type_at-all}
use Rattle.state_types.proofs.RowNames.{type-more}
use Rattle.state_types.proofs.Thens.{then_ok, ok_same}
use Rattle.operation_rules.specs.Applied.{assuming, all_assuming, all_given, all_there}
use Rattle.operation_rules.specs.Faults.{Ruling, or_fault}
use Rattle.operation_rules.specs.Named.{IsTypeNamed}
use Rattle.operation_rules.specs.declared.error.Fault.TheVariants.{NoPlace}
use Rattle.operation_rules.proofs.RuleFacts.{or_fault_ok}
use Rattle.dtal_code.specs.Passing.{with_types}
use Rattle.dtal_code.specs.Verdicts.{by_rule}

pub ruled_ok : {A : Type 0} (m : Ruling A) (x : A) → by_rule m ≡ Ok x → m ≡ Ok x
ruled_ok (Ok y) x e = cc
ruled_ok (Err fault) x e = absurd (let bad : ⊥ = cc in bad)

-- ---- types of places

pub place_below : (n place : ℕ) (places : List (ℕ × Ty)) (t : Ty) → type_at place places ≡ Some t → All (λ e. TypeBelow n e.1) places → TypeBelow n t
place_below n place places t e all = type_at-all (λ (x : ℕ × Ty). TypeBelow n x.1) place places t all e

pub there_below : (n : ℕ) (places : List (ℕ × Ty)) (reads : List ℕ) (types : List Ty) → all_there (map (λ place. type_at place places) reads) ≡ Ok types
    → All (λ e. TypeBelow n e.1) places → All (TypeBelow n) types
unfolding all_there
there_below n places [] types e all = subst (λ ts. All (TypeBelow n) ts) (ok_same [] types e) (All-nil (TypeBelow n))
there_below n places (place ∷ reads) types e all =
    let s = then_ok (or_fault NoPlace (type_at place places)) _ types e in
    let t = then_ok (all_there (map (λ p. type_at p places) reads)) _ types s.second in
    subst (λ ts. All (TypeBelow n) ts) (ok_same (s.value ∷ t.value) types t.second)
    (All-cons (TypeBelow n) s.value t.value (place_below n place places s.value (or_fault_ok NoPlace (type_at place places) s.value s.first) all)
    (there_below n places reads t.value t.first all))

written_by : (n : ℕ) (entry : ℕ × Ty) (new : ℕ × Ty) (places later : List (ℕ × Ty)) (a b : Test) → TypeBelow n new.1 → TypeBelow n entry.1 → All (λ e. TypeBelow n e.1) places
    → All (λ e. TypeBelow n e.1) later → All (λ e. TypeBelow n e.1) (cond a (entry ∷ later) (cond b (new ∷ places) (new ∷ entry ∷ places)))
written_by n entry new places later true b h g all more = All-cons (λ e. TypeBelow n e.1) entry later g more
written_by n entry new places later false true h g all more = All-cons (λ e. TypeBelow n e.1) new places h all
written_by n entry new places later false false h g all more =
    All-cons (λ e. TypeBelow n e.1) new (entry ∷ places) h (All-cons (λ e. TypeBelow n e.1) entry places g all)

written_below : (n place : ℕ) (t : Ty) (places : List (ℕ × Ty)) → TypeBelow n t → All (λ e. TypeBelow n e.1) places → All (λ e. TypeBelow n e.1) (with_type place t places)
written_below n place t [] h all = All-cons (λ e. TypeBelow n e.1) (place, t) [] h (All-nil (λ e. TypeBelow n e.1))
written_below n place t (entry ∷ places) h all =
    written_by n entry (place, t) places (with_type place t places) (nat_lt entry.0 place) (entry.0 == place) h (All-head (λ e. TypeBelow n e.1) entry places all)
    (All-tail (λ e. TypeBelow n e.1) entry places all) (written_below n place t places h (All-tail (λ e. TypeBelow n e.1) entry places all))

pub all_written : (n : ℕ) (writes : List ℕ) (types : List Ty) (places : List (ℕ × Ty)) → All (TypeBelow n) types → All (λ e. TypeBelow n e.1) places
    → All (λ e. TypeBelow n e.1) (with_types writes types places)
unfolding with_types
all_written n [] types places h all = all
all_written n (place ∷ writes) [] places h all = all
all_written n (place ∷ writes) (t ∷ types) places h all =
    all_written n writes types (with_type place t places) (All-tail (TypeBelow n) t types h) (written_below n place t places (All-head (TypeBelow n) t types h) all)

pub types_more : (m n : ℕ) (places : List (ℕ × Ty)) → m ≤ n → All (λ e. TypeBelow m e.1) places → All (λ e. TypeBelow n e.1) places
types_more m n places le all = λ k d h. type-more m n _ le (all k d h)

pub given_below : (n : ℕ) (given : List (Result Ty TooLarge)) (types : List Ty) → all_given given ≡ Ok types → All (IsTypeNamed n) given → All (TypeBelow n) types
unfolding all_given
given_below n [] types e all = subst (λ ts. All (TypeBelow n) ts) (ok_same [] types e) (All-nil (TypeBelow n))
given_below n (t ∷ given) types e all =
    let s = then_ok t _ types e in
    let r = then_ok (all_given given) _ types s.second in
    subst (λ ts. All (TypeBelow n) ts) (ok_same (s.value ∷ r.value) types r.second)
    (All-cons (TypeBelow n) s.value r.value (subst (λ m. IsTypeNamed n m) s.first (All-head (IsTypeNamed n) t given all))
    (given_below n given r.value r.first (All-tail (IsTypeNamed n) t given all)))

-- ---- rows of a context: it keeps its variables, and its rows have whatever those before and those that are assumed have

-- the context `more` has the variables of `ctx`, and rows that have `P`
pub record IsGrown (P : Linear → Type 0) (ctx more : IndexContext) : Type 0 where
  pub vars : more.vars ≡ ctx.vars
  pub rows : All P more.rows

same_grown : (P : Linear → Type 0) (ctx more : IndexContext) → (let r : Result IndexContext ContextError = Ok ctx in r) ≡ Ok more → All P ctx.rows → IsGrown P ctx more
same_grown P ctx more e all =
    let same = ok_same ctx more e in record { vars = ap (λ z. z.vars) (sym same); rows = subst (λ (z : IndexContext). All P z.rows) same all }

row_by : (P : Linear → Type 0) (b c : Test) (ctx more : IndexContext) (row : Linear)
    → cond b (let r : Result IndexContext ContextError = Ok ctx in r) (cond c (Err context_error.Rows) (Ok (record ctx { rows = ctx.rows ++ row ∷ [] }))) ≡ Ok more
    → All P ctx.rows → P row → IsGrown P ctx more
row_by P true c ctx more row e all h = same_grown P ctx more e all
row_by P false true ctx more row e all h = absurd (let bad : ⊥ = cc in bad)
row_by P false false ctx more row e all h =
    let same = ok_same _ more e in
    record { vars = ap (λ z. z.vars) (sym same); rows = subst (λ (z : IndexContext). All P z.rows) same (All-push P ctx.rows row all h) }

row_grown : (P : Linear → Type 0) (ctx more : IndexContext) (row : Linear) → with_row ctx row ≡ Ok more → All P ctx.rows → P row → IsGrown P ctx more
unfolding with_row
row_grown P ctx more row e all h = row_by P (knows ctx row) (nat_le 512 (length ctx.rows)) ctx more row e all h

module _ (P : Linear → Type 0) (Q : Result Linear TooLarge → Type 0) (says : (row : Linear) → Q (Ok row) → P row) where
  assuming_grown : (row : Result Linear TooLarge) (ctx more : IndexContext) → assuming row ctx ≡ Ok more → All P ctx.rows → Q row → IsGrown P ctx more
  assuming_grown (Ok row) ctx more e all h = row_grown P ctx more row e all (says row h)
  assuming_grown (Err why) ctx more e all h = same_grown P ctx more e all

  pub all_assumed : (rows : List (Result Linear TooLarge)) (ctx more : IndexContext) → all_assuming rows ctx ≡ Ok more → All P ctx.rows → All Q rows → IsGrown P ctx more
  unfolding all_assuming
  all_assumed [] ctx more e all h = same_grown P ctx more e all
  all_assumed (row ∷ rows) ctx more e all h =
      let s = then_ok (assuming row ctx) _ more e in
      let one = assuming_grown row ctx s.value s.first all (All-head Q row rows h) in
      let others = all_assumed rows s.value more s.second one.rows (All-tail Q row rows h) in
      record { vars = others.vars ∙ one.vars; rows = others.rows }

pub assumed_vars : (rows : List (Result Linear TooLarge)) (ctx more : IndexContext) → all_assuming rows ctx ≡ Ok more → more.vars ≡ ctx.vars
assumed_vars rows ctx more e = (all_assumed (λ row. Unit {0}) (λ row. Unit {0}) (λ row h. tt) rows ctx more e (λ k d h. tt) (λ k d h. tt)).vars
