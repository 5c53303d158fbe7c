-- No expression and no test comes upon a stray, and each type names index variables that are there.
use Rattle.std.proofs.Common.{ℕ, List, [], ◌∷◌, ◌++◌, true, false, Some, None}
use Rattle.std.specs.List.{All}
use Rattle.std.proofs.lemmas.List.Elements.{All-nil, All-cons, All-push}
use Rattle.xan_lin.specs.Linear.{Linear}
use Rattle.xan_lin.specs.Subst.{zero_form}
use Rattle.state_types.specs.PlaceTypes.{type_at}
use Rattle.state_types.specs.Tables.{IsClosed}
use Rattle.state_types.specs.Types.{TypeBelow}
use Rattle.state_types.specs.declared.types.Ty.{Ty}
use Rattle.state_types.specs.declared.types.Ty.TheVariants as ty
use Rattle.state_types.proofs.Edges.{type_at-all}
use Rattle.state_types.proofs.FormNames.{below-zero}
use Rattle.state_types.proofs.RowNames.{type-more}
use Rattle.operation_rules.specs.Applied.{all_assuming}
use Rattle.operation_rules.specs.Faults.{filled}
use Rattle.operation_rules.specs.Sides.{side}
use Rattle.operation_rules.specs.declared.operation.Operation.{Operation}
use Rattle.operation_rules.specs.declared.operation.Operation.TheVariants as operation
use Rattle.xanadu_tree.specs.declared.expr.Rel.{Rel}
use Rattle.xanadu_tree.specs.declared.expr.Rel.TheVariants as rel
use Rattle.xanadu_tree.specs.Plain as core
use Rattle.typed_core.specs.Constructs.{type_by, state_by}
use Rattle.typed_core.specs.Limits.{by_rule}
use Rattle.typed_core.specs.Operands.{operand, operands, chained}
use Rattle.typed_core.specs.Operators.{operation_of, demands_at, comparison_of, in_order}
use Rattle.typed_core.specs.States.{Site, State, there, noting_state}
use Rattle.typed_core.specs.Tests.{Sides, branched, truth_leaf, leaf, on_side, tested, all_true, all_false}
use Rattle.typed_core.proofs.LimitedAnswers.{then_answers, weaker}
use Rattle.typed_core.proofs.NamedStates.{Stays, Went, Typed, TypesBehind, TypeBehind, stood, went_on, typed_on, all_more, there_stays, type_by_stays, state_by_stays, assumed_stays}

-- ---- lists of types

pub one_below : (n : ℕ) (t : Ty) → TypeBelow n t → All (TypeBelow n) (t ∷ [])
one_below n t h = All-cons (TypeBelow n) t [] h (All-nil (TypeBelow n))

pub two_below : (n : ℕ) (t u : Ty) → TypeBelow n t → TypeBelow n u → All (TypeBelow n) (t ∷ u ∷ [])
two_below n t u h g = All-cons (TypeBelow n) t (u ∷ []) h (one_below n u g)

pub three_below : (n : ℕ) (t u v : Ty) → TypeBelow n t → TypeBelow n u → TypeBelow n v → All (TypeBelow n) (t ∷ u ∷ v ∷ [])
three_below n t u v h g f = All-cons (TypeBelow n) t (u ∷ v ∷ []) h (two_below n u v g f)

pub ordered_below : (n : ℕ) (r : Rel) (t u : Ty) → TypeBelow n t → TypeBelow n u → All (TypeBelow n) (in_order r t u)
ordered_below n rel.Lt t u h g = two_below n t u h g
ordered_below n rel.Le t u h g = two_below n t u h g
ordered_below n rel.Gt t u h g = two_below n u t g h
ordered_below n rel.Ge t u h g = two_below n u t g h
ordered_below n rel.Eq t u h g = two_below n t u h g
ordered_below n rel.Ne t u h g = two_below n t u h g

-- ---- expressions

module _ (site : Site) (closed : All IsClosed site.table) where
  -- a construct behind the states of its operands
  made_stays : (before : State) (at : _) (op : Operation) (types : List Ty) (st : State) → Went before st → Typed site.own.vars st → All (TypeBelow st.ctx.vars) types
      → Stays (TypeBehind before) (type_by site at op types st)
  made_stays before at op types st went typed below =
      weaker (type_by site at op types st) (λ r h. (went_on before st r.1 went h.0, h.1)) (type_by_stays site closed at op types st typed.own_vars below)

  mutual
    unfolding operand

    pub operand_stays : (e : core.Expr) (st : State) → Typed site.own.vars st → Stays (TypeBehind st) (operand site e st)
    operand_stays (core.Int n) st typed = made_stays st None (operation.Literal n) [] st (stood st) typed (All-nil (TypeBelow st.ctx.vars))
    operand_stays (core.Bool b) st typed = made_stays st None (operation.Truth b) [] st (stood st) typed (All-nil (TypeBelow st.ctx.vars))
    operand_stays (core.Var x) st typed =
        then_answers (there (type_at x st.types)) _
        (there_stays {P = TypeBelow st.ctx.vars} (type_at x st.types) (λ t e. type_at-all (λ e. TypeBelow st.ctx.vars e.1) x st.types t typed.types e)) (λ t h. record { is = (stood st, h) })
    operand_stays (core.Neg e) st typed =
        then_answers (operand site e st) _ (operand_stays e st typed)
        (λ r h. made_stays st None operation.Sub (ty.Int zero_form ∷ r.0 ∷ []) r.1 h.0 (typed_on site.own.vars st r.1 h.0 typed)
        (two_below r.1.ctx.vars (ty.Int zero_form) r.0 (below-zero r.1.ctx.vars) h.1))
    operand_stays (core.Chain first rest) st typed =
        then_answers (operand site first st) _ (operand_stays first st typed)
        (λ r h. weaker (chained site rest r.0 r.1) (λ s g. (went_on st r.1 s.1 h.0 g.0, g.1)) (chained_stays rest r.0 r.1 (typed_on site.own.vars st r.1 h.0 typed) h.1))
    operand_stays (core.Compare r left right) st typed =
        then_answers (operand site left st) _ (operand_stays left st typed)
        (λ p h. let one = typed_on site.own.vars st p.1 h.0 typed in
        then_answers (operand site right p.1) _ (operand_stays right p.1 one)
        (λ q g. made_stays st None (operation.Compare (comparison_of r)) (in_order r p.0 q.0) q.1 (went_on st p.1 q.1 h.0 g.0) (typed_on site.own.vars p.1 q.1 g.0 one)
        (ordered_below q.1.ctx.vars r p.0 q.0 (type-more p.1.ctx.vars q.1.ctx.vars p.0 g.0.vars h.1) g.1)))
    operand_stays (core.Index array index at) st typed =
        then_answers (operand site array st) _ (operand_stays array st typed)
        (λ p h. let one = typed_on site.own.vars st p.1 h.0 typed in
        then_answers (operand site index p.1) _ (operand_stays index p.1 one)
        (λ q g. made_stays st (Some at) operation.Load (p.0 ∷ q.0 ∷ []) q.1 (went_on st p.1 q.1 h.0 g.0) (typed_on site.own.vars p.1 q.1 g.0 one)
        (two_below q.1.ctx.vars p.0 q.0 (type-more p.1.ctx.vars q.1.ctx.vars p.0 g.0.vars h.1) g.1)))
    operand_stays (core.Len array) st typed =
        then_answers (operand site array st) _ (operand_stays array st typed)
        (λ r h. made_stays st None operation.Length (r.0 ∷ []) r.1 h.0 (typed_on site.own.vars st r.1 h.0 typed) (one_below r.1.ctx.vars r.0 h.1))
    operand_stays (core.Call fun args at) st typed =
        then_answers (operands site args [] st) _ (operands_stay args [] st typed (All-nil (TypeBelow st.ctx.vars)))
        (λ r h. made_stays st (Some at) (operation.Call fun) r.0 r.1 h.0 (typed_on site.own.vars st r.1 h.0 typed) h.1)
    operand_stays (core.Make number args at) st typed =
        then_answers (operands site args [] st) _ (operands_stay args [] st typed (All-nil (TypeBelow st.ctx.vars)))
        (λ r h. made_stays st (Some at) (operation.Tuple number) r.0 r.1 h.0 (typed_on site.own.vars st r.1 h.0 typed) h.1)
    operand_stays (core.New element len fill at) st typed =
        then_answers (operand site len st) _ (operand_stays len st typed)
        (λ p h. let one = typed_on site.own.vars st p.1 h.0 typed in
        then_answers (operand site fill p.1) _ (operand_stays fill p.1 one)
        (λ q g. made_stays st (Some at) (operation.New element) (p.0 ∷ q.0 ∷ []) q.1 (went_on st p.1 q.1 h.0 g.0) (typed_on site.own.vars p.1 q.1 g.0 one)
        (two_below q.1.ctx.vars p.0 q.0 (type-more p.1.ctx.vars q.1.ctx.vars p.0 g.0.vars h.1) g.1)))

    -- behind those made so far
    operands_stay : (es : core.Exprs) (types : List Ty) (st : State) → Typed site.own.vars st → All (TypeBelow st.ctx.vars) types → Stays (TypesBehind st) (operands site es types st)
    operands_stay core.NoExpr types st typed below = record { is = (stood st, below) }
    operands_stay (core.AnExpr e es) types st typed below =
        then_answers (operand site e st) _ (operand_stays e st typed)
        (λ r h. weaker (operands site es (types ++ r.0 ∷ []) r.1) (λ s g. (went_on st r.1 s.1 h.0 g.0, g.1))
        (operands_stay es (types ++ r.0 ∷ []) r.1 (typed_on site.own.vars st r.1 h.0 typed)
        (All-push (TypeBelow r.1.ctx.vars) types r.0 (all_more st.ctx.vars r.1.ctx.vars types h.0.vars below) h.1)))

    chained_stays : (links : core.Links) (t : Ty) (st : State) → Typed site.own.vars st → TypeBelow st.ctx.vars t → Stays (TypeBehind st) (chained site links t st)
    chained_stays core.NoLink t st typed named = record { is = (stood st, named) }
    chained_stays (core.ALink o e at others) t st typed named =
        then_answers (operand site e st) _ (operand_stays e st typed)
        (λ r h. let one = typed_on site.own.vars st r.1 h.0 typed in
        then_answers (type_by site (demands_at o at) (operation_of o) (t ∷ r.0 ∷ []) r.1) _
        (type_by_stays site closed (demands_at o at) (operation_of o) (t ∷ r.0 ∷ []) r.1 one.own_vars
        (two_below r.1.ctx.vars t r.0 (type-more st.ctx.vars r.1.ctx.vars t h.0.vars named) h.1))
        (λ s g. weaker (chained site others s.0 s.1) (λ v f. (went_on st s.1 v.1 (went_on st r.1 s.1 h.0 g.0) f.0, f.1))
        (chained_stays others s.0 s.1 (typed_on site.own.vars r.1 s.1 g.0 one) g.1)))

-- ---- tests

abbrev pub WentBehind : State → Sides → Type 0
WentBehind st sides = Went st sides.after

module _ (site : Site) (closed : All IsClosed site.table) where
  branched_stays : (before : State) (op : Operation) (types : List Ty) (st : State) → Went before st → Typed site.own.vars st → All (TypeBelow st.ctx.vars) types
      → Stays (WentBehind before) (branched site op types st)
  unfolding branched
  branched_stays before op types st went typed below =
      then_answers (state_by site None op types st) _ (state_by_stays site closed None op types st typed.own_vars below)
      (λ more h. then_answers (by_rule (filled (all_assuming (side true op types) more.ctx))) _ (assumed_stays (side true op types) more.ctx)
      (λ one u. then_answers (by_rule (filled (all_assuming (side false op types) more.ctx))) _ (assumed_stays (side false op types) more.ctx)
      (λ two v. record { is = went_on before st more went h })))

  truth_stays : (e : core.Expr) (st : State) → Typed site.own.vars st → Stays (WentBehind st) (truth_leaf site e st)
  unfolding truth_leaf
  truth_stays e st typed =
      then_answers (operand site e st) _ (operand_stays site closed e st typed)
      (λ r h. branched_stays st (operation.BranchTruth true) (r.0 ∷ []) r.1 h.0 (typed_on site.own.vars st r.1 h.0 typed) (one_below r.1.ctx.vars r.0 h.1))

  leaf_stays : (e : core.Expr) (st : State) → Typed site.own.vars st → Stays (WentBehind st) (leaf site e st)
  unfolding leaf
  leaf_stays (core.Compare r left right) st typed =
      then_answers (operand site left st) _ (operand_stays site closed left st typed)
      (λ p h. let one = typed_on site.own.vars st p.1 h.0 typed in
      then_answers (operand site right p.1) _ (operand_stays site closed right p.1 one)
      (λ q g. branched_stays st (operation.Branch (comparison_of r)) (in_order r p.0 q.0) q.1 (went_on st p.1 q.1 h.0 g.0) (typed_on site.own.vars p.1 q.1 g.0 one)
      (ordered_below q.1.ctx.vars r p.0 q.0 (type-more p.1.ctx.vars q.1.ctx.vars p.0 g.0.vars h.1) g.1)))
  leaf_stays e st typed = truth_stays e st typed

  -- the rows of a side are none of these facts
  side_typed : (rows : List Linear) (st : State) → Typed site.own.vars st → Typed site.own.vars (on_side rows st)
  side_typed rows st typed = record { own_vars = typed.own_vars; types = typed.types }

  side_went : (rows : List Linear) (st more : State) → Went (on_side rows st) more → Went st more
  side_went rows st more went = record { vars = went.vars; types = went.types; naming = went.naming }

  noted_went : (rows : List Linear) (st more : State) → Went st more → Went st (noting_state rows more)
  unfolding noting_state
  noted_went rows st more went = record { vars = went.vars; types = went.types; naming = went.naming }

  mutual
    unfolding tested

    pub tested_stays : (test : core.Test) (st : State) → Typed site.own.vars st → Stays (WentBehind st) (tested site test st)
    tested_stays (core.Leaf e) st typed = leaf_stays e st typed
    tested_stays (core.All parts) st typed =
        let begin : Sides = record { on_true = st.ctx.rows; on_false = st.ctx.rows; after = st } in
        then_answers (all_true site parts begin) _ (all_true_stay parts begin typed) (λ last h. record { is = noted_went st.ctx.rows st last.after h })
    tested_stays (core.Any parts) st typed =
        let begin : Sides = record { on_true = st.ctx.rows; on_false = st.ctx.rows; after = st } in
        then_answers (all_false site parts begin) _ (all_false_stay parts begin typed) (λ last h. record { is = noted_went st.ctx.rows st last.after h })
    tested_stays (core.Not part) st typed = then_answers (tested site part st) _ (tested_stays part st typed) (λ sides h. record { is = h })

    all_true_stay : (parts : core.Tests) (sides : Sides) → Typed site.own.vars sides.after → Stays (WentBehind sides.after) (all_true site parts sides)
    all_true_stay core.NoTest sides typed = record { is = stood sides.after }
    all_true_stay (core.ATest part others) sides typed =
        let here = on_side sides.on_true sides.after in
        then_answers (tested site part here) _ (tested_stays part here (side_typed sides.on_true sides.after typed))
        (λ more h. weaker (all_true site others more) (λ last g. went_on sides.after more.after last.after (side_went sides.on_true sides.after more.after h) g)
        (all_true_stay others more (typed_on site.own.vars here more.after h (side_typed sides.on_true sides.after typed))))

    all_false_stay : (parts : core.Tests) (sides : Sides) → Typed site.own.vars sides.after → Stays (WentBehind sides.after) (all_false site parts sides)
    all_false_stay core.NoTest sides typed = record { is = stood sides.after }
    all_false_stay (core.ATest part others) sides typed =
        let here = on_side sides.on_false sides.after in
        then_answers (tested site part here) _ (tested_stays part here (side_typed sides.on_false sides.after typed))
        (λ more h. weaker (all_false site others more) (λ last g. went_on sides.after more.after last.after (side_went sides.on_false sides.after more.after h) g)
        (all_false_stay others more (typed_on site.own.vars here more.after h (side_typed sides.on_false sides.after typed))))
