-- States only grow along expressions.
use Rattle.std.proofs.Common.{List, [], ◌∷◌, ◌++◌, Some, None}
use Rattle.xan_lin.specs.Subst.{zero_form}
use Rattle.state_types.specs.PlaceTypes.{type_at}
use Rattle.state_types.specs.declared.types.Ty.{Ty}
use Rattle.state_types.specs.declared.types.Ty.TheVariants as ty
use Rattle.operation_rules.specs.declared.operation.Operation.{Operation}
use Rattle.operation_rules.specs.declared.operation.Operation.TheVariants as operation
use Rattle.xanadu_tree.specs.Plain as core
use Rattle.typed_core.specs.Constructs.{type_by}
use Rattle.typed_core.specs.Operands.{operand, operands, chained}
use Rattle.typed_core.specs.Operators.{operation_of, demands_at, comparison_of, in_order}
use Rattle.typed_core.specs.States.{Site, State, there}
use Rattle.typed_core.proofs.Continued.{Goes}
use Rattle.typed_core.proofs.LimitedAnswers.{then_answers, weaker, any_answer}
use Rattle.typed_core.proofs.GrownContexts.{Onward, onward_here, onward_again, type_by_goes}

module _ (site : Site) where
  abbrev pub Along : {A : Type 0} → State → A × State → Type 0
  Along st r = Onward site.table st r.1

  -- a construct behind its operands
  made_goes : (before : State) (at : _) (o : Operation) (types : List Ty) (st : State) → Onward site.table before st → Goes (Along before) (type_by site at o types st)
  made_goes before at o types st h = weaker (type_by site at o types st) (λ r g. onward_again site.table before st r.1 h g) (type_by_goes site at o types st)

  mutual
    unfolding operand

    pub operand_goes : (e : core.Expr) (st : State) → Goes (Along st) (operand site e st)
    operand_goes (core.Int n) st = type_by_goes site None (operation.Literal n) [] st
    operand_goes (core.Bool b) st = type_by_goes site None (operation.Truth b) [] st
    operand_goes (core.Var x) st = then_answers (there (type_at x st.types)) _ (any_answer (there (type_at x st.types))) (λ t u. record { is = onward_here site.table st })
    operand_goes (core.Neg e) st =
        then_answers (operand site e st) _ (operand_goes e st) (λ r h. made_goes st None operation.Sub (ty.Int zero_form ∷ r.0 ∷ []) r.1 h)
    operand_goes (core.Chain first rest) st =
        then_answers (operand site first st) _ (operand_goes first st)
        (λ r h. weaker (chained site rest r.0 r.1) (λ s g. onward_again site.table st r.1 s.1 h g) (chained_goes rest r.0 r.1))
    operand_goes (core.Compare r left right) st =
        then_answers (operand site left st) _ (operand_goes left st)
        (λ p h. then_answers (operand site right p.1) _ (operand_goes right p.1)
        (λ q g. made_goes st None (operation.Compare (comparison_of r)) (in_order r p.0 q.0) q.1 (onward_again site.table st p.1 q.1 h g)))
    operand_goes (core.Index array index at) st =
        then_answers (operand site array st) _ (operand_goes array st)
        (λ p h. then_answers (operand site index p.1) _ (operand_goes index p.1)
        (λ q g. made_goes st (Some at) operation.Load (p.0 ∷ q.0 ∷ []) q.1 (onward_again site.table st p.1 q.1 h g)))
    operand_goes (core.Len array) st =
        then_answers (operand site array st) _ (operand_goes array st) (λ r h. made_goes st None operation.Length (r.0 ∷ []) r.1 h)
    operand_goes (core.Call fun args at) st =
        then_answers (operands site args [] st) _ (operands_go args [] st) (λ r h. made_goes st (Some at) (operation.Call fun) r.0 r.1 h)
    operand_goes (core.Make number args at) st =
        then_answers (operands site args [] st) _ (operands_go args [] st) (λ r h. made_goes st (Some at) (operation.Tuple number) r.0 r.1 h)
    operand_goes (core.New element len fill at) st =
        then_answers (operand site len st) _ (operand_goes len st)
        (λ p h. then_answers (operand site fill p.1) _ (operand_goes fill p.1)
        (λ q g. made_goes st (Some at) (operation.New element) (p.0 ∷ q.0 ∷ []) q.1 (onward_again site.table st p.1 q.1 h g)))

    pub operands_go : (es : core.Exprs) (types : List Ty) (st : State) → Goes (Along st) (operands site es types st)
    operands_go core.NoExpr types st = record { is = onward_here site.table st }
    operands_go (core.AnExpr e es) types st =
        then_answers (operand site e st) _ (operand_goes e st)
        (λ r h. weaker (operands site es (types ++ r.0 ∷ []) r.1) (λ s g. onward_again site.table st r.1 s.1 h g) (operands_go es (types ++ r.0 ∷ []) r.1))

    pub chained_goes : (links : core.Links) (t : Ty) (st : State) → Goes (Along st) (chained site links t st)
    chained_goes core.NoLink t st = record { is = onward_here site.table st }
    chained_goes (core.ALink o e at others) t st =
        then_answers (operand site e st) _ (operand_goes e st)
        (λ r h. then_answers (type_by site (demands_at o at) (operation_of o) (t ∷ r.0 ∷ []) r.1) _ (made_goes st (demands_at o at) (operation_of o) (t ∷ r.0 ∷ []) r.1 h)
        (λ s g. weaker (chained site others s.0 s.1) (λ v f. onward_again site.table st s.1 v.1 g f) (chained_goes others s.0 s.1)))
