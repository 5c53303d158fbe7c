-- The carrier takes from the front the notes that elaboration made, apart from what the code is.
use Rattle.std.proofs.Common.{◌≡◌, ◌∙◌, ℕ, List, [], ◌∷◌, ◌++◌, Option, Some, None, refl, sym, ap, append_assoc, append-nil}
use Rattle.std.specs.List.{list_all}
use Rattle.operation_rules.specs.Rules.{rule}
use Rattle.operation_rules.specs.declared.operation.Operation.{Operation}
use Rattle.operation_rules.specs.declared.operation.Operation.TheVariants as operation
use Rattle.state_types.specs.PlaceTypes.{type_at}
use Rattle.state_types.specs.declared.types.Ty.{Ty}
use Rattle.state_types.specs.declared.types.Ty.TheVariants as ty
use Rattle.xan_lin.specs.Linear.{Linear}
use Rattle.xan_lin.specs.Subst.{zero_form}
use Rattle.xanadu_tree.specs.declared.expr.Op.{Op}
use Rattle.xanadu_tree.specs.declared.expr.Op.TheVariants as arithmetic
use Rattle.xanadu_tree.specs.Plain as core
use Rattle.typed_core.specs.Constructs.{setting_of, followed, asking, types_by, type_by, state_by, first_type}
use Rattle.typed_core.specs.Limits.{by_rule, held}
use Rattle.typed_core.specs.Operands.{operand, operands, chained}
use Rattle.typed_core.specs.Operators.{operation_of, demands_at, comparison_of, in_order}
use Rattle.typed_core.specs.States.{Site, State, there, demanding, all_asked, none_asked}
use Rattle.typed_core.specs.Strays.{type_below}
use Rattle.typed_core.specs.declared.note.Note.{Note}
use Rattle.typed_core.specs.declared.note.Note.TheVariants as note
use Rattle.typed_core.proofs.Continued.{Goes}
use Rattle.typed_core.proofs.LimitedAnswers.{then_answers, weaker, any_answer}
use Rattle.type_carrier.specs.CarriedValues.{Carried, plainly, demanded, demanded_if, divides, operand_carried, value, links}
use Rattle.type_carrier.specs.CarriedValues as carried
use Rattle.type_carrier.specs.ProvedRows.{Proofs, behind_front}

-- the notes that elaboration made are those that this takes
pub record Takes (f : Carried → Carried) (st more : State) : Type 0 where
  pub made : List Note
  pub is : more.notes ≡ st.notes ++ made
  pub by : (c : Carried) (rest : List Note) → c.notes ≡ made ++ rest → (f c).notes ≡ rest

pub takes_none : (f : Carried → Carried) (st more : State) → more.notes ≡ st.notes → ((c : Carried) → (f c).notes ≡ c.notes) → Takes f st more
takes_none f st more same keeps = record { made = []; is = same ∙ sym (append-nil st.notes); by = λ c rest e. keeps c ∙ e }

pub takes_on : (f g : Carried → Carried) (a b c : State) → Takes f a b → Takes g b c → Takes (λ x. g (f x)) a c
takes_on f g a b c one two = record {
  made = one.made ++ two.made;
  is = two.is ∙ ap (λ ns. ns ++ two.made) one.is ∙ append_assoc a.notes one.made two.made;
  by = λ x rest e. two.by (f x) rest (one.by x (two.made ++ rest) (e ∙ append_assoc one.made two.made rest));
}

pub takes_as : (f g : Carried → Carried) (st more : State) → ((c : Carried) → (g c).notes ≡ (f c).notes) → Takes f st more → Takes g st more
takes_as f g st more same t = record { made = t.made; is = t.is; by = λ c rest e. same c ∙ t.by c rest e }

-- ---- constructs

-- one note for a demand, none where nothing is demanded
abbrev pub at_note : Option ℕ → Carried → Carried
at_note None c = c
at_note (Some n) c = record c { notes = behind_front c.notes }

module _ (site : Site) where
  noted : (at : Option ℕ) (rows : List Linear) (st more : State) → more.notes ≡ (asking site at rows st).notes → Takes (at_note at) st more
  unfolding demanding
  noted None rows st more same = takes_none (at_note None) st more same (λ c. refl)
  noted (Some n) rows st more same =
      record { made = note.Demand (all_asked site n st.ctx rows (none_asked st)).numbers ∷ []; is = same; by = λ c rest e. ap behind_front e }

  pub types_taken : (at : Option ℕ) (op : Operation) (types : List Ty) (st : State) → Goes (λ r. Takes (at_note at) st r.1) (types_by site at op types st)
  unfolding types_by
  types_taken at op types st =
      then_answers (held (list_all (type_below st.ctx.vars) types)) _ (any_answer (held (list_all (type_below st.ctx.vars) types)))
      (λ u test. then_answers (by_rule (rule (setting_of site) op types st.ctx.vars)) _ (any_answer (by_rule (rule (setting_of site) op types st.ctx.vars)))
      (λ r is. then_answers (by_rule (followed r st.ctx)) _ (any_answer (by_rule (followed r st.ctx)))
      (λ p f. record { is = noted at r.demands st (record (asking site at r.demands st) { ctx = p.1 }) refl })))

  pub type_taken : (at : Option ℕ) (op : Operation) (types : List Ty) (st : State) → Goes (λ r. Takes (at_note at) st r.1) (type_by site at op types st)
  unfolding type_by
  type_taken at op types st =
      then_answers (types_by site at op types st) _ (types_taken at op types st)
      (λ r h. then_answers (first_type r.0) _ (any_answer (first_type r.0)) (λ t u. record { is = h }))

  pub state_taken : (at : Option ℕ) (op : Operation) (types : List Ty) (st : State) → Goes (λ more. Takes (at_note at) st more) (state_by site at op types st)
  unfolding state_by
  state_taken at op types st = then_answers (types_by site at op types st) _ (types_taken at op types st) (λ r h. record { is = h })

module _ (site : Site) (proofs : Proofs) where
  abbrev taking : core.Expr → Carried → Carried
  taking e c = carried.operand proofs e c

  -- a construct behind what was taken so far, with what it takes
  behind : (f g : Carried → Carried) (before : State) (at : Option ℕ) (o : Operation) (types : List Ty) (st : State) → Takes f before st
      → ((c : Carried) → (g c).notes ≡ (at_note at (f c)).notes) → Goes (λ r. Takes g before r.1) (type_by site at o types st)
  behind f g before at o types st taken same =
      weaker (type_by site at o types st) (λ r h. takes_as (λ c. at_note at (f c)) g before r.1 same (takes_on f (at_note at) before st r.1 taken h)) (type_taken site at o types st)

  -- an operand takes what its value does
  operand_same : (e : core.Expr) (c : Carried) → (taking e c).notes ≡ (value proofs e c).notes
  unfolding value
  operand_same (core.Var x) c = refl
  operand_same (core.Int n) c = refl
  operand_same (core.Bool b) c = refl
  operand_same (core.Neg e) c = refl
  operand_same (core.Chain first rest) c = refl
  operand_same (core.Compare r left right) c = refl
  operand_same (core.Index array index at) c = refl
  operand_same (core.Len array) c = refl
  operand_same (core.Call fun args at) c = refl
  operand_same (core.Make number args at) c = refl
  operand_same (core.New element len fill at) c = refl

  pub as_operand : (e : core.Expr) (st : State) → Goes (λ r. Takes (value proofs e) st r.1) (operand site e st) → Goes (λ r. Takes (taking e) st r.1) (operand site e st)
  as_operand e st g = weaker (operand site e st) (λ r h. takes_as (value proofs e) (taking e) st r.1 (operand_same e) h) g

  link_note : (o : Op) (at : ℕ) (c : Carried) → (demanded_if (divides o) proofs c).notes ≡ (at_note (demands_at o at) c).notes
  link_note arithmetic.Add at c = refl
  link_note arithmetic.Sub at c = refl
  link_note arithmetic.Mul at c = refl
  link_note arithmetic.Div at c = refl
  link_note arithmetic.Mod at c = refl

  mutual
    unfolding operand value

    pub value_taken : (e : core.Expr) (st : State) → Goes (λ r. Takes (value proofs e) st r.1) (operand site e st)
    value_taken (core.Int n) st = behind (λ c. c) (value proofs (core.Int n)) st None (operation.Literal n) [] st (takes_none (λ c. c) st st refl (λ c. refl)) (λ c. refl)
    value_taken (core.Bool b) st = behind (λ c. c) (value proofs (core.Bool b)) st None (operation.Truth b) [] st (takes_none (λ c. c) st st refl (λ c. refl)) (λ c. refl)
    value_taken (core.Var x) st =
        then_answers (there (type_at x st.types)) _ (any_answer (there (type_at x st.types))) (λ t u. record { is = takes_none (value proofs (core.Var x)) st st refl (λ c. refl) })
    value_taken (core.Neg e) st =
        then_answers (operand site e st) _ (as_operand e st (value_taken e st))
        (λ r h. behind (λ c. taking e (plainly c)) (value proofs (core.Neg e)) st None operation.Sub (ty.Int zero_form ∷ r.0 ∷ []) r.1
        (takes_on (λ c. plainly c) (taking e) st st r.1 (takes_none (λ c. plainly c) st st refl (λ c. refl)) h) (λ c. refl))
    value_taken (core.Chain first rest) st =
        then_answers (operand site first st) _ (as_operand first st (value_taken first st))
        (λ r h. weaker (chained site rest r.0 r.1) (λ s g. takes_on (taking first) (links proofs rest) st r.1 s.1 h g) (links_taken rest r.0 r.1))
    value_taken (core.Compare r left right) st =
        then_answers (operand site left st) _ (as_operand left st (value_taken left st))
        (λ p h. then_answers (operand site right p.1) _ (as_operand right p.1 (value_taken right p.1))
        (λ q g. behind (λ c. taking right (taking left c)) (value proofs (core.Compare r left right)) st None (operation.Compare (comparison_of r)) (in_order r p.0 q.0) q.1
        (takes_on (taking left) (taking right) st p.1 q.1 h g) (λ c. refl)))
    value_taken (core.Index array index at) st =
        then_answers (operand site array st) _ (as_operand array st (value_taken array st))
        (λ p h. then_answers (operand site index p.1) _ (as_operand index p.1 (value_taken index p.1))
        (λ q g. behind (λ c. taking index (taking array c)) (value proofs (core.Index array index at)) st (Some at) operation.Load (p.0 ∷ q.0 ∷ []) q.1
        (takes_on (taking array) (taking index) st p.1 q.1 h g) (λ c. refl)))
    value_taken (core.Len array) st =
        then_answers (operand site array st) _ (as_operand array st (value_taken array st))
        (λ r h. behind (taking array) (value proofs (core.Len array)) st None operation.Length (r.0 ∷ []) r.1 h (λ c. refl))
    value_taken (core.Call fun args at) st =
        then_answers (operands site args [] st) _ (list_taken args [] st)
        (λ r h. behind (carried.operands proofs args) (value proofs (core.Call fun args at)) st (Some at) (operation.Call fun) r.0 r.1 h (λ c. refl))
    value_taken (core.Make number args at) st =
        then_answers (operands site args [] st) _ (list_taken args [] st)
        (λ r h. behind (carried.operands proofs args) (value proofs (core.Make number args at)) st (Some at) (operation.Tuple number) r.0 r.1 h (λ c. refl))
    value_taken (core.New element len fill at) st =
        then_answers (operand site len st) _ (as_operand len st (value_taken len st))
        (λ p h. then_answers (operand site fill p.1) _ (as_operand fill p.1 (value_taken fill p.1))
        (λ q g. behind (λ c. taking fill (taking len c)) (value proofs (core.New element len fill at)) st (Some at) (operation.New element) (p.0 ∷ q.0 ∷ []) q.1
        (takes_on (taking len) (taking fill) st p.1 q.1 h g) (λ c. refl)))

    pub list_taken : (es : core.Exprs) (types : List Ty) (st : State) → Goes (λ r. Takes (carried.operands proofs es) st r.1) (operands site es types st)
    list_taken core.NoExpr types st = record { is = takes_none (carried.operands proofs core.NoExpr) st st refl (λ c. refl) }
    list_taken (core.AnExpr e es) types st =
        then_answers (operand site e st) _ (as_operand e st (value_taken e st))
        (λ r h. weaker (operands site es (types ++ r.0 ∷ []) r.1) (λ s g. takes_on (taking e) (carried.operands proofs es) st r.1 s.1 h g) (list_taken es (types ++ r.0 ∷ []) r.1))

    pub links_taken : (rest : core.Links) (t : Ty) (st : State) → Goes (λ r. Takes (links proofs rest) st r.1) (chained site rest t st)
    links_taken core.NoLink t st = record { is = takes_none (links proofs core.NoLink) st st refl (λ c. refl) }
    links_taken (core.ALink o e at others) t st =
        then_answers (operand site e st) _ (as_operand e st (value_taken e st))
        (λ r h. then_answers (type_by site (demands_at o at) (operation_of o) (t ∷ r.0 ∷ []) r.1) _
        (behind (taking e) (λ c. demanded_if (divides o) proofs (taking e c)) st (demands_at o at) (operation_of o) (t ∷ r.0 ∷ []) r.1 h (λ c. link_note o at (taking e c)))
        (λ s g. weaker (chained site others s.0 s.1)
        (λ v f. takes_on (λ c. demanded_if (divides o) proofs (taking e c)) (links proofs others) st s.1 v.1 g f) (links_taken others s.0 s.1)))

  pub operand_taken : (e : core.Expr) (st : State) → Goes (λ r. Takes (taking e) st r.1) (operand site e st)
  operand_taken e st = as_operand e st (value_taken e st)
