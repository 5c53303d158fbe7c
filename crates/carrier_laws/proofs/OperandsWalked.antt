-- Expressions and leaves of tests, walked once: what the rule of each operation keeps of a state, they keep, and what it promises of types holds of theirs.
use Rattle.std.proofs.Common.{◌≡◌, ℕ, List, [], ◌∷◌, ◌++◌, true, Option, Some, None, refl}
use Rattle.std.specs.List.{AllByRecursion}
use Rattle.xan_lin.specs.Subst.{zero_form}
use Rattle.state_types.specs.PlaceTypes.{type_at}
use Rattle.state_types.specs.declared.types.Ty.{Ty}
use Rattle.state_types.specs.declared.types.Ty.TheVariants as ty
use Rattle.operation_rules.specs.declared.operation.Operation.{Operation}
use Rattle.operation_rules.specs.declared.operation.Operation.TheVariants as operation
use Rattle.xanadu_tree.specs.declared.expr.Rel.{Rel}
use Rattle.xanadu_tree.specs.declared.expr.Rel.TheVariants as rel
use Rattle.xanadu_tree.specs.Plain as core
use Rattle.typed_core.specs.Constructs.{types_by, first_type, type_by, state_by}
use Rattle.typed_core.specs.Operands.{operand, operands, chained}
use Rattle.typed_core.specs.Operators.{operation_of, demands_at, comparison_of, in_order}
use Rattle.typed_core.specs.States.{Site, State, there}
use Rattle.typed_core.specs.Tests.{Sides, branched, truth_leaf, leaf}
use Rattle.typed_core.proofs.Continued.{Goes}
use Rattle.typed_core.proofs.LimitedAnswers.{then_answers}

-- what is kept at the rule of each operation, for types that are good
pub record Keeps (site : Site) (Good : Ty → Type 0) (Here : State → Type 0) : Type 0 where
  pub zero : Good (ty.Int zero_form)
  pub place : (x : ℕ) (st : State) (t : Ty) → Here st → type_at x st.types ≡ Some t → Good t
  pub rule : (at : Option ℕ) (op : Operation) (types : List Ty) (st : State) → Here st → AllByRecursion Good types
      → Goes (λ r. Here r.1 × AllByRecursion Good r.0) (types_by site at op types st)

all_push : {A : Type 0} (P : A → Type 0) (xs : List A) (y : A) → AllByRecursion P xs → P y → AllByRecursion P (xs ++ y ∷ [])
all_push P [] y all p = (p, tt)
all_push P (x ∷ xs) y all p = (all.0, all_push P xs y all.1 p)

module _ (site : Site) (Good : Ty → Type 0) (Here : State → Type 0) (keeps : Keeps site Good Here) where
  abbrev Typed : Ty × State → Type 0
  Typed r = Here r.1 × Good r.0

  abbrev AllTyped : List Ty × State → Type 0
  AllTyped r = Here r.1 × AllByRecursion Good r.0

  -- ---- constructs

  first_walked : (types : List Ty) → AllByRecursion Good types → Goes Good (first_type types)
  first_walked [] all = record { is = tt }
  first_walked (t ∷ ts) all = record { is = all.0 }

  pub type_walked : (at : Option ℕ) (op : Operation) (types : List Ty) (st : State) → Here st → AllByRecursion Good types → Goes Typed (type_by site at op types st)
  unfolding type_by
  type_walked at op types st k good =
      then_answers (types_by site at op types st) _ (keeps.rule at op types st k good)
      (λ r h. then_answers (first_type r.0) _ (first_walked r.0 h.1) (λ t g. record { is = (h.0, g) }))

  pub state_walked : (at : Option ℕ) (op : Operation) (types : List Ty) (st : State) → Here st → AllByRecursion Good types → Goes Here (state_by site at op types st)
  unfolding state_by
  state_walked at op types st k good = then_answers (types_by site at op types st) _ (keeps.rule at op types st k good) (λ r h. record { is = h.0 })

  -- ---- expressions

  ordered : (r : Rel) (t u : Ty) → Good t → Good u → AllByRecursion Good (in_order r t u)
  ordered rel.Lt t u a b = (a, (b, tt))
  ordered rel.Le t u a b = (a, (b, tt))
  ordered rel.Gt t u a b = (b, (a, tt))
  ordered rel.Ge t u a b = (b, (a, tt))
  ordered rel.Eq t u a b = (a, (b, tt))
  ordered rel.Ne t u a b = (a, (b, tt))

  there_good : (x : ℕ) (st : State) → Here st → (o : Option Ty) → type_at x st.types ≡ o → Goes Good (there o)
  there_good x st k (Some t) e = record { is = keeps.place x st t k e }
  there_good x st k None e = record { is = tt }

  mutual
    unfolding operand

    pub operand_walked : (e : core.Expr) (st : State) → Here st → Goes Typed (operand site e st)
    operand_walked (core.Int n) st k = type_walked None (operation.Literal n) [] st k tt
    operand_walked (core.Bool b) st k = type_walked None (operation.Truth b) [] st k tt
    operand_walked (core.Var x) st k = then_answers (there (type_at x st.types)) _ (there_good x st k (type_at x st.types) refl) (λ t g. record { is = (k, g) })
    operand_walked (core.Neg e) st k =
        then_answers (operand site e st) _ (operand_walked e st k) (λ r h. type_walked None operation.Sub (ty.Int zero_form ∷ r.0 ∷ []) r.1 h.0 (keeps.zero, (h.1, tt)))
    operand_walked (core.Chain first rest) st k = then_answers (operand site first st) _ (operand_walked first st k) (λ r h. chained_walked rest r.0 r.1 h.0 h.1)
    operand_walked (core.Compare r left right) st k =
        then_answers (operand site left st) _ (operand_walked left st k)
        (λ p h. then_answers (operand site right p.1) _ (operand_walked right p.1 h.0)
        (λ q g. type_walked None (operation.Compare (comparison_of r)) (in_order r p.0 q.0) q.1 g.0 (ordered r p.0 q.0 h.1 g.1)))
    operand_walked (core.Index array index at) st k =
        then_answers (operand site array st) _ (operand_walked array st k)
        (λ p h. then_answers (operand site index p.1) _ (operand_walked index p.1 h.0)
        (λ q g. type_walked (Some at) operation.Load (p.0 ∷ q.0 ∷ []) q.1 g.0 (h.1, (g.1, tt))))
    operand_walked (core.Len array) st k =
        then_answers (operand site array st) _ (operand_walked array st k) (λ r h. type_walked None operation.Length (r.0 ∷ []) r.1 h.0 (h.1, tt))
    operand_walked (core.Call fun args at) st k =
        then_answers (operands site args [] st) _ (operands_walked args [] st k tt) (λ r h. type_walked (Some at) (operation.Call fun) r.0 r.1 h.0 h.1)
    operand_walked (core.Make number args at) st k =
        then_answers (operands site args [] st) _ (operands_walked args [] st k tt) (λ r h. type_walked (Some at) (operation.Tuple number) r.0 r.1 h.0 h.1)
    operand_walked (core.New element len fill at) st k =
        then_answers (operand site len st) _ (operand_walked len st k)
        (λ p h. then_answers (operand site fill p.1) _ (operand_walked fill p.1 h.0)
        (λ q g. type_walked (Some at) (operation.New element) (p.0 ∷ q.0 ∷ []) q.1 g.0 (h.1, (g.1, tt))))

    operands_walked : (es : core.Exprs) (types : List Ty) (st : State) → Here st → AllByRecursion Good types → Goes AllTyped (operands site es types st)
    operands_walked core.NoExpr types st k all = record { is = (k, all) }
    operands_walked (core.AnExpr e es) types st k all =
        then_answers (operand site e st) _ (operand_walked e st k) (λ r h. operands_walked es (types ++ r.0 ∷ []) r.1 h.0 (all_push Good types r.0 all h.1))

    chained_walked : (links : core.Links) (t : Ty) (st : State) → Here st → Good t → Goes Typed (chained site links t st)
    chained_walked core.NoLink t st k good = record { is = (k, good) }
    chained_walked (core.ALink o e at others) t st k good =
        then_answers (operand site e st) _ (operand_walked e st k)
        (λ r h. then_answers (type_by site (demands_at o at) (operation_of o) (t ∷ r.0 ∷ []) r.1) _
        (type_walked (demands_at o at) (operation_of o) (t ∷ r.0 ∷ []) r.1 h.0 (good, (h.1, tt)))
        (λ s g. chained_walked others s.0 s.1 g.0 g.1))

  -- ---- leaves of tests, by what is known behind a branch

  module _ (Behind : Sides → Type 0) (branches : (op : Operation) (types : List Ty) (st : State) → Here st → AllByRecursion Good types → Goes Behind (branched site op types st)) where
    truth_walked : (e : core.Expr) (st : State) → Here st → Goes Behind (truth_leaf site e st)
    unfolding truth_leaf
    truth_walked e st k = then_answers (operand site e st) _ (operand_walked e st k) (λ r h. branches (operation.BranchTruth true) (r.0 ∷ []) r.1 h.0 (h.1, tt))

    pub leaf_walked : (e : core.Expr) (st : State) → Here st → Goes Behind (leaf site e st)
    unfolding leaf
    leaf_walked (core.Compare r left right) st k =
        then_answers (operand site left st) _ (operand_walked left st k)
        (λ p h. then_answers (operand site right p.1) _ (operand_walked right p.1 h.0)
        (λ q g. branches (operation.Branch (comparison_of r)) (in_order r p.0 q.0) q.1 g.0 (ordered r p.0 q.0 h.1 g.1)))
    leaf_walked e st k = truth_walked e st k
