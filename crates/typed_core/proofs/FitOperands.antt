-- An expression of a kind has a type of that kind, or is stopped by a limit.
use Rattle.std.proofs.Common.{◌≡◌, ℕ, List, [], ◌∷◌, ◌++◌, map, Option, Some, None, refl, sym, subst, append_assoc}
use Rattle.std.specs.Prelude.{slice_get}
use Rattle.std.proofs.lemmas.List.{append-nil}
use Rattle.xan_lin.specs.Subst.{zero_form}
use Rattle.state_types.specs.PlaceTypes.{type_at}
use Rattle.state_types.specs.declared.closed.Signature.{Signature}
use Rattle.state_types.specs.declared.types.Ty.{Ty}
use Rattle.state_types.specs.declared.types.Ty.TheVariants as ty
use Rattle.operation_rules.specs.Rules.{rule}
use Rattle.operation_rules.specs.declared.operation.Operation.{Operation}
use Rattle.operation_rules.specs.declared.operation.Operation.TheVariants as operation
use Rattle.xanadu_tree.specs.declared.expr.Op.TheVariants as op
use Rattle.xanadu_tree.specs.declared.expr.Rel.{Rel}
use Rattle.xanadu_tree.specs.declared.expr.Rel.TheVariants as rel
use Rattle.xanadu_tree.specs.declared.types.Kind.{Kind}
use Rattle.xanadu_tree.specs.declared.types.Kind.TheVariants as kind
use Rattle.xanadu_tree.specs.declared.types.Packing.{Packing}
use Rattle.xanadu_tree.specs.KindRules.{kind_of, tuple_type, cell_kind, Header, Setting, HasKind, AreNumbers, HaveKinds}
use Rattle.xanadu_tree.specs.Plain as core
use Rattle.typed_core.specs.Constructs.{setting_of, type_by}
use Rattle.typed_core.specs.Operands.{operand, operands, chained}
use Rattle.typed_core.specs.Operators.{operation_of, demands_at, comparison_of, in_order}
use Rattle.typed_core.specs.States.{Site, State, there}
use Rattle.typed_core.proofs.LimitedAnswers.{Fits, Rules, then_answers, weaker, there_fits}
use Rattle.typed_core.proofs.TypeKinds.{ty_kind, HaveKindsOf, IsOfKind, AreOfKinds, are_with}
use Rattle.typed_core.proofs.FitRules.{IsCell, IsTuple, GivesKinds, literal_rules, truth_value_rules, arithmetic_rules, compare_rules, load_rules, length_rules, call_rules, tuple_value_rules, new_rules}
use Rattle.typed_core.proofs.FitConstructs.{type_by_fits}
use Rattle.typed_core.proofs.KnownTypes.{Knows, present_of}

-- ---- what a body stands in

pub record IsCallee (sigs : List Signature) (fun : ℕ) (header : Header) : Type 0 where
  pub sig : Signature
  pub at : slice_get sigs fun ≡ Some sig
  pub params : HaveKindsOf header.params sig.params
  pub result : IsOfKind header.result sig.result

-- the closed types and the signatures are those of the core, by their kinds
pub record Suits (set : Setting) (site : Site) : Type 0 where
  pub cells : (element : ℕ) (held : Kind) → cell_kind set.types element ≡ Some held → IsCell site.table element held
  pub tuples : (number : ℕ) (packing : Packing) → tuple_type set.types number ≡ Some packing → IsTuple site.table number (map kind_of packing.parts)
  pub callees : (fun : ℕ) (header : Header) → slice_get set.headers fun ≡ Some header → IsCallee site.sigs fun header
  pub result : IsOfKind set.result site.own.result
  pub unit : set.result ≡ kind.Unit → kind.Int ≡ ty_kind site.own.result

-- ---- expressions

abbrev pub HasIt : Setting → (visible : List ℕ) → Kind → Ty × State → Type 0
HasIt set visible k r = IsOfKind k r.0 × Knows set.kinds visible r.1.types

module _ (set : Setting) (site : Site) (suits : Suits set site) (visible : List ℕ) where
  -- a construct of one kind behind its operands
  made_fits : (j k : Kind) (at : Option ℕ) (o : Operation) (types : List Ty) (st : State) → k ≡ j → Rules (GivesKinds (j ∷ [])) (rule (setting_of site) o types st.ctx.vars)
      → Knows set.kinds visible st.types → Fits (HasIt set visible k) (type_by site at o types st)
  made_fits j k at o types st same ruled knows =
      weaker (type_by site at o types st) (λ r h. (subst (λ i. IsOfKind i r.0) (sym same) h.0, h.1)) (type_by_fits (Knows set.kinds visible) j site at o types st ruled knows)

  compared_rules : (r : Rel) (t u : Ty) (first : ℕ) → kind.Int ≡ ty_kind t → kind.Int ≡ ty_kind u
      → Rules (GivesKinds (kind.Bool ∷ [])) (rule (setting_of site) (operation.Compare (comparison_of r)) (in_order r t u) first)
  compared_rules rel.Lt t u first h g = compare_rules (setting_of site) first 0 t u h g
  compared_rules rel.Le t u first h g = compare_rules (setting_of site) first 1 t u h g
  compared_rules rel.Gt t u first h g = compare_rules (setting_of site) first 0 u t g h
  compared_rules rel.Ge t u first h g = compare_rules (setting_of site) first 1 u t g h
  compared_rules rel.Eq t u first h g = compare_rules (setting_of site) first 2 t u h g
  compared_rules rel.Ne t u first h g = compare_rules (setting_of site) first 3 t u h g

  mutual
    unfolding operand HasKind

    pub operand_fits : (e : core.Expr) (k : Kind) (st : State) → HasKind set visible e k → Knows set.kinds visible st.types → Fits (HasIt set visible k) (operand site e st)
    operand_fits (core.Int n) k st h knows = made_fits kind.Int k None (operation.Literal n) [] st h (literal_rules (setting_of site) st.ctx.vars n) knows
    operand_fits (core.Bool b) k st h knows = made_fits kind.Bool k None (operation.Truth b) [] st h (truth_value_rules (setting_of site) st.ctx.vars b) knows
    operand_fits (core.Var x) k st h knows =
        let it = present_of set.kinds visible st.types x k knows h.0 h.1 in
        then_answers (there (type_at x st.types)) _ (there_fits {P = λ t. k ≡ ty_kind t} (type_at x st.types) it.type it.at it.kind) (λ t e. record { is = (λ value. e, knows) })
    operand_fits (core.Neg e) k st h knows =
        then_answers (operand site e st) _ (operand_fits e kind.Int st h.1 knows)
        (λ r g. made_fits kind.Int k None operation.Sub (ty.Int zero_form ∷ r.0 ∷ []) r.1 h.0
        (arithmetic_rules (setting_of site) r.1.ctx.vars op.Sub (ty.Int zero_form) r.0 refl (g.0 tt)) g.1)
    operand_fits (core.Chain first rest) k st h knows =
        then_answers (operand site first st) _ (operand_fits first kind.Int st h.1 knows)
        (λ r g. weaker (chained site rest r.0 r.1) (λ s l. (subst (λ j. IsOfKind j s.0) (sym h.0) l.0, l.1)) (chained_fits rest r.0 r.1 h.3 g.0 g.1))
    operand_fits (core.Compare r left right) k st h knows =
        then_answers (operand site left st) _ (operand_fits left kind.Int st h.1 knows)
        (λ p g. then_answers (operand site right p.1) _ (operand_fits right kind.Int p.1 h.2 g.1)
        (λ q l. made_fits kind.Bool k None (operation.Compare (comparison_of r)) (in_order r p.0 q.0) q.1 h.0 (compared_rules r p.0 q.0 q.1.ctx.vars (g.0 tt) (l.0 tt)) l.1))
    operand_fits (core.Index array index at) k st h knows =
        then_answers (operand site array st) _ (operand_fits array (kind.Array h.0) st h.1 knows)
        (λ r g. then_answers (operand site index r.1) _ (operand_fits index kind.Int r.1 h.2 g.1)
        (λ s l. made_fits k k (Some at) operation.Load (r.0 ∷ s.0 ∷ []) s.1 refl
        (load_rules (setting_of site) s.1.ctx.vars h.0 k r.0 s.0 (suits.cells h.0 k h.3) (g.0 tt) (l.0 tt)) l.1))
    operand_fits (core.Len array) k st h knows =
        then_answers (operand site array st) _ (operand_fits array (kind.Array h.0) st h.2 knows)
        (λ r g. made_fits kind.Int k None operation.Length (r.0 ∷ []) r.1 h.1 (length_rules (setting_of site) r.1.ctx.vars h.0 r.0 (g.0 tt)) g.1)
    operand_fits (core.Call fun args at) k st h knows =
        let callee = suits.callees fun h.0 h.1 in
        then_answers (operands site args [] st) _ (operands_fits args h.0.params [] [] st h.2 tt knows)
        (λ r g. made_fits h.0.result k (Some at) (operation.Call fun) r.0 r.1 h.3
        (call_rules (setting_of site) r.1.ctx.vars fun callee.sig h.0.params h.0.result r.0 callee.at callee.params callee.result g.0) g.1)
    operand_fits (core.Make number args at) k st h knows =
        then_answers (operands site args [] st) _ (operands_fits args (map kind_of h.0.parts) [] [] st h.2 tt knows)
        (λ r g. made_fits (kind.Named number) k (Some at) (operation.Tuple number) r.0 r.1 h.3
        (tuple_value_rules (setting_of site) r.1.ctx.vars number (map kind_of h.0.parts) r.0 (suits.tuples number h.0 h.1) g.0) g.1)
    operand_fits (core.New element len fill at) k st h knows =
        then_answers (operand site len st) _ (operand_fits len kind.Int st h.2 knows)
        (λ r g. then_answers (operand site fill r.1) _ (operand_fits fill h.0 r.1 h.4 g.1)
        (λ s l. made_fits (kind.Array element) k (Some at) (operation.New element) (r.0 ∷ s.0 ∷ []) s.1 h.1
        (new_rules (setting_of site) s.1.ctx.vars element h.0 r.0 s.0 (suits.cells element h.0 h.3) (g.0 tt) l.0) l.1))

    -- behind those made so far
    operands_fits : (es : core.Exprs) (ks made : List Kind) (types : List Ty) (st : State) → HaveKinds set visible es ks → AreOfKinds made types
        → Knows set.kinds visible st.types → Fits (λ r. AreOfKinds (made ++ ks) r.0 × Knows set.kinds visible r.1.types) (operands site es types st)
    operands_fits core.NoExpr [] made types st h are knows = record { is = (subst (λ js. AreOfKinds js types) (sym (append-nil made)) are, knows) }
    operands_fits core.NoExpr (k ∷ ks) made types st h are knows = absurd h
    operands_fits (core.AnExpr e es) [] made types st h are knows = absurd h
    operands_fits (core.AnExpr e es) (k ∷ ks) made types st h are knows =
        then_answers (operand site e st) _ (operand_fits e k st h.0 knows)
        (λ r g. weaker (operands site es (types ++ r.0 ∷ []) r.1) (λ s l. (subst (λ js. AreOfKinds js s.0) (append_assoc made (k ∷ []) ks) l.0, l.1))
        (operands_fits es ks (made ++ k ∷ []) (types ++ r.0 ∷ []) r.1 h.1 (are_with made k types r.0 are g.0) g.1))

    chained_fits : (links : core.Links) (t : Ty) (st : State) → AreNumbers set visible links → IsOfKind kind.Int t → Knows set.kinds visible st.types
        → Fits (HasIt set visible kind.Int) (chained site links t st)
    chained_fits core.NoLink t st h int knows = record { is = (int, knows) }
    chained_fits (core.ALink o e at others) t st h int knows =
        then_answers (operand site e st) _ (operand_fits e kind.Int st h.0 knows)
        (λ r g. then_answers (type_by site (demands_at o at) (operation_of o) (t ∷ r.0 ∷ []) r.1) _
        (type_by_fits (Knows set.kinds visible) kind.Int site (demands_at o at) (operation_of o) (t ∷ r.0 ∷ []) r.1
        (arithmetic_rules (setting_of site) r.1.ctx.vars o t r.0 (int tt) (g.0 tt)) g.1)
        (λ s l. chained_fits others s.0 s.1 h.1 l.0 l.1))
