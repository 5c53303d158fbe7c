-- Where control flow meets: what is stated there keeps the kinds of the variables, and each way in gives what is wanted.
use Rattle.std.proofs.Common.{◌≡◌, ℕ, suc, ◌+◌, List, [], ◌∷◌, ◌++◌, map, length, Bool as Truth, true, false, Option, Some, None, refl, sym, ap, subst, ◌∙◌, append_assoc}
use Rattle.std.specs.Prelude.{slice_get}
use Rattle.std.proofs.lemmas.List.{append-nil}
use Rattle.std.specs.List.{AllByRecursion, list_all}
use Rattle.xan_lin.specs.Linear.{Linear}
use Rattle.xan_lin.specs.declared.term.LimitKind.TheVariants as limit
use Rattle.xan_lin.specs.declared.term.TooLarge.{TooLarge}
use Rattle.state_types.specs.PlaceTypes.{type_at}
use Rattle.state_types.specs.Types.{index_of}
use Rattle.state_types.specs.declared.state.StateType.{StateType}
use Rattle.state_types.specs.declared.types.Ty.{Ty}
use Rattle.state_types.specs.declared.types.Ty.TheVariants as ty
use Rattle.xanadu_tree.specs.declared.stmt.Clause.{Clause}
use Rattle.xanadu_tree.specs.declared.types.CoreTy.{CoreTy}
use Rattle.xanadu_tree.specs.declared.types.Kind.{Kind}
use Rattle.xanadu_tree.specs.BodyRules.{Point, IsStated, IsClauseIfAny}
use Rattle.xanadu_tree.specs.IndexRules.{stretch_of}
use Rattle.xanadu_tree.specs.KindRules.{kind_of, Setting, IsAmong}
use Rattle.operation_rules.specs.Forms.{variables_from}
use Rattle.typed_core.specs.Forms.{renamed, renamed_type}
use Rattle.typed_core.specs.Joins.{stated, few_places, renewed, renewing, naming_more, stating, stated_types, Joint, joined, present, within_bounds, index_at, values_at, met_there, entered, entered_if}
use Rattle.typed_core.specs.Limits.{needed, within, held}
use Rattle.typed_core.specs.States.{Site, State, resuming, with_fresh, assuming, noting_state, there, matching}
use Rattle.typed_core.specs.Strays.{clause_rises, values_rise, row_below}
use Rattle.typed_core.proofs.LimitedAnswers.{Anything, Fits, then_answers, weaker, needed_fits, there_fits, within_fits, held_fits}
use Rattle.typed_core.proofs.TypeKinds.{ty_kind, some_kind, HaveKindsOf, AreOfKinds, are_with, renamed_kind}
use Rattle.typed_core.proofs.FitMatches.{matching_fits}
use Rattle.typed_core.proofs.KnownTypes.{IsEntry, Knows, AreWithin, present_of, all_weaker, all_behind, HasIndex, IsIndexed, Renews, renews, knows_types}
use Rattle.typed_core.proofs.FitStates.{with_fresh_fits, assuming_fits}

-- ---- clauses

-- a visible variable, with a type of its kind
abbrev pub IsStatedOf : List Kind → (visible : List ℕ) → ℕ × CoreTy → Type 0
IsStatedOf kinds visible s = IsAmong visible s.0 × (slice_get kinds s.0 ≡ Some (kind_of s.1))

pub clause_stated : (set : Setting) (before : Point) (c : Option Clause) (after : Point) → IsClauseIfAny set before c after
    → AllByRecursion (IsStatedOf set.kinds before.visible) (stated c).vars
clause_stated set before None after is = tt
clause_stated set before (Some clause) after is =
    all_weaker (IsStated set before.visible (stretch_of clause.first clause.quant ∷ before.reach)) (IsStatedOf set.kinds before.visible) (λ s h. (h.0, h.1)) clause.vars is.0.stated

pub clause_visible : (set : Setting) (before : Point) (c : Option Clause) (after : Point) → IsClauseIfAny set before c after → after.visible ≡ before.visible
clause_visible set before None after is = ap (λ p. p.visible) is
clause_visible set before (Some clause) after is = ap (λ p. p.visible) is.1

stated_fits : (kinds : List Kind) (visible : List ℕ) (naming : List (ℕ × Linear)) (own : ℕ) (vars : List (ℕ × CoreTy)) (made : List (ℕ × Ty))
    → AllByRecursion (IsStatedOf kinds visible) vars → AllByRecursion (IsEntry kinds visible) made → Fits (AllByRecursion (IsEntry kinds visible)) (stated_types naming own vars made)
unfolding stated_types
stated_fits kinds visible naming own [] made all done = record { is = done }
stated_fits kinds visible naming own (s ∷ ss) made all done =
    then_answers (within limit.Places (suc s.0)) _ (within_fits limit.Places (suc s.0))
    (λ few u. then_answers (needed (renamed_type naming own s.1)) _ (needed_fits (renamed_type naming own s.1) (renamed_kind naming own s.1))
    (λ it e. stated_fits kinds visible naming own ss (made ++ (s.0, it) ∷ []) all.1
    (all_behind (IsEntry kinds visible) made (s.0, it) done (all.0.0, all.0.1 ∙ some_kind e))))

-- ---- the state

pub record IsJoint (kinds : List Kind) (visible : List ℕ) (joint : Joint) : Type 0 where
  pub wanted : AllByRecursion (IsEntry kinds visible) joint.wanted
  pub others : AllByRecursion (IsIndexed kinds visible) joint.others

abbrev pub Joins : List Kind → (visible : List ℕ) → Joint × State → Type 0
Joins kinds visible r = IsJoint kinds visible r.0 × Knows kinds visible r.1.types

few_places_fit : (entries : List (ℕ × Ty)) → Fits Anything (few_places entries)
unfolding few_places
few_places_fit [] = record { is = tt }
few_places_fit (e ∷ es) = then_answers (within limit.Places (suc e.0)) _ (within_fits limit.Places (suc e.0)) (λ few u. few_places_fit es)

renewing_fits : (kinds : List Kind) (visible : List ℕ) (clause : Clause) (changed : ℕ → Truth) (before : StateType) (latest : State) → Knows kinds visible before.places
    → Fits (λ r. Renews kinds visible (IsAmong visible) r.0) (renewing clause changed before latest)
unfolding renewing
renewing_fits kinds visible clause changed before latest knows =
    let from = latest.ctx.vars + clause.quant.count in
    let kept = renewed changed clause.vars from before.places (record { types = []; others = [] }) in
    let start = resuming before.ctx.rows before.places latest in
    then_answers (few_places before.places) _ (few_places_fit before.places)
    (λ few u. then_answers (with_fresh (clause.quant.count + length kept.others) start) _ (with_fresh_fits Anything (clause.quant.count + length kept.others) start tt)
    (λ fresh v. record { is = renews kinds visible changed clause.vars from before.places knows }))

stating_fits : (naming : List (ℕ × Linear)) (own : ℕ) (clause : Clause) (st : State) → Fits Anything (stating naming own clause st)
unfolding stating
stating_fits naming own clause st =
    let rows = map (renamed naming own) clause.quant.rows in
    then_answers (held (values_rise 0 naming)) _ (held_fits (values_rise 0 naming))
    (λ a b. then_answers (held (clause_rises clause)) _ (held_fits (clause_rises clause))
    (λ c d. then_answers (held (list_all (row_below st.ctx.vars) rows)) _ (held_fits (list_all (row_below st.ctx.vars) rows))
    (λ e f. then_answers (assuming rows st) _ (assuming_fits Anything rows st tt) (λ known u. record { is = tt }))))

pub joined_fits : (kinds : List Kind) (visible : List ℕ) (site : Site) (clause : Clause) (changed : ℕ → Truth) (before : StateType) (latest : State)
    → AllByRecursion (IsStatedOf kinds visible) clause.vars → Knows kinds visible before.places → Fits (Joins kinds visible) (joined site clause changed before latest)
unfolding joined noting_state
joined_fits kinds visible site clause changed before latest all knows =
    then_answers (renewing clause changed before latest) _ (renewing_fits kinds visible clause changed before latest knows)
    (λ k r. let begun = naming_more (variables_from clause.first latest.ctx.vars clause.quant.count) k.1 in
    then_answers (stating begun.naming site.own.vars clause begun) _ (stating_fits begun.naming site.own.vars clause begun)
    (λ s u. then_answers (stated_types s.1.naming site.own.vars clause.vars []) _ (stated_fits kinds visible s.1.naming site.own.vars clause.vars [] all tt)
    (λ wanted h. record {
      is = (
        record { wanted = h; others = r.indexed },
        knows_types kinds visible wanted k.0.types h (record { there = r.there; agree = r.agree }),
      );
    })))

-- ---- the ways into it

kinds_wanted : (ws : List (ℕ × Ty)) → HaveKindsOf (map (λ w. ty_kind w.1) ws) (map (λ w. w.1) ws)
kinds_wanted [] = tt
kinds_wanted (w ∷ ws) = (refl, kinds_wanted ws)

index_there : (k : Kind) (t : Ty) → k ≡ ty_kind t → HasIndex k → Fits Anything (there (index_of t))
index_there k (ty.Int e) same h = record { is = tt }
index_there k ty.Bool same h = absurd (subst HasIndex same h)
index_there k (ty.Array number e) same h = record { is = tt }
index_there k (ty.Named number) same h = absurd (subst HasIndex same h)

bounded : (past : Option TooLarge) → Fits Anything (within_bounds past)
bounded None = record { is = tt }
bounded (Some why) = record { is = tt }

-- a state in which at least the variables that are visible at the joint are known
module _ (kinds : List Kind) (visible inner : List ℕ) (within : AreWithin visible inner) where
  present_fits : (types : List (ℕ × Ty)) (ws : List (ℕ × Ty)) (ks : List Kind) (made : List Ty) → Knows kinds inner types → AllByRecursion (IsEntry kinds visible) ws
      → AreOfKinds ks made → Fits (AreOfKinds (ks ++ map (λ w. ty_kind w.1) ws)) (present types ws made)
  unfolding present
  present_fits types [] ks made knows all are = record { is = subst (λ js. AreOfKinds js made) (sym (append-nil ks)) are }
  present_fits types (w ∷ ws) ks made knows all are =
      let it = present_of kinds inner types w.0 (ty_kind w.1) knows (within w.0 all.0.0) all.0.1 in
      then_answers (there (type_at w.0 types)) _ (there_fits {P = λ t. ty_kind w.1 ≡ ty_kind t} (type_at w.0 types) it.type it.at it.kind)
      (λ t e. weaker (present types ws (made ++ t ∷ [])) (λ a h. subst (λ js. AreOfKinds js a) (append_assoc ks (ty_kind w.1 ∷ []) (map (λ v. ty_kind v.1) ws)) h)
      (present_fits types ws (ks ++ ty_kind w.1 ∷ []) (made ++ t ∷ []) knows all.1 (are_with ks (ty_kind w.1) made t are (λ value. e))))

  index_at_fits : (types : List (ℕ × Ty)) (x : ℕ) → Knows kinds inner types → IsIndexed kinds visible x → Fits Anything (index_at types x)
  unfolding index_at
  index_at_fits types x knows is =
      let it = present_of kinds inner types x is.kind knows (within x is.among) is.is in
      then_answers (there (type_at x types)) _ (there_fits {P = λ t. is.kind ≡ ty_kind t} (type_at x types) it.type it.at it.kind) (λ t e. index_there is.kind t e is.index)

  values_fits : (types : List (ℕ × Ty)) (next : ℕ) (xs : List ℕ) (made : List (ℕ × Linear)) → Knows kinds inner types → AllByRecursion (IsIndexed kinds visible) xs
      → Fits Anything (values_at types next xs made)
  unfolding values_at
  values_fits types next [] made knows all = record { is = tt }
  values_fits types next (x ∷ xs) made knows all =
      then_answers (index_at types x) _ (index_at_fits types x knows all.0) (λ form u. values_fits types (suc next) xs (made ++ (next, form) ∷ []) knows all.1)

  met_there_fits : (joint : Joint) (types : List (ℕ × Ty)) → IsJoint kinds visible joint → Knows kinds inner types → Fits Anything (met_there joint types)
  unfolding met_there
  met_there_fits joint types is knows =
      let ks = map (λ w. ty_kind w.1) joint.wanted in
      then_answers (present types joint.wanted []) _ (present_fits types joint.wanted [] [] knows is.wanted tt)
      (λ actual are. then_answers (matching joint.first (joint.first + joint.count) joint.rows (map (λ w. w.1) joint.wanted) actual) _
      (matching_fits ks joint.first (joint.first + joint.count) joint.rows (map (λ w. w.1) joint.wanted) actual (kinds_wanted joint.wanted) are)
      (λ found u. record { is = tt }))

  pub entered_fits : (K : List (ℕ × Ty) → Type 0) (site : Site) (at : ℕ) (joint : Joint) (from : StateType) (st : State) → IsJoint kinds visible joint
      → Knows kinds inner from.places → K st.types → Fits (λ more. K more.types) (entered site at joint from st)
  unfolding entered
  entered_fits K site at joint from st is knows k =
      then_answers (met_there joint from.places) _ (met_there_fits joint from.places is knows)
      (λ m u. then_answers (within_bounds joint.past) _ (bounded joint.past)
      (λ limit v. then_answers (values_at from.places (joint.first + joint.count) joint.others m.1.values) _
      (values_fits from.places (joint.first + joint.count) joint.others m.1.values knows is.others)
      (λ values w. record { is = k })))

  pub entered_if_fits : (K : List (ℕ × Ty) → Type 0) (completes : Truth) (site : Site) (at : ℕ) (joint : Joint) (from : StateType) (st : State)
      → IsJoint kinds visible joint → Knows kinds inner from.places → K st.types → Fits (λ more. K more.types) (entered_if completes site at joint from st)
  unfolding entered_if
  entered_if_fits K false site at joint from st is knows k = record { is = k }
  entered_if_fits K true site at joint from st is knows k = entered_fits K site at joint from st is knows k
