-- What is known at each join of a shaped core: its clause names index variables in scope, so that its rows and types name variables from before
-- and those of the clause.
use Rattle.std.proofs.Common.{◌≡◌, ◌∙◌, ℕ, suc, ◌+◌, ◌≤◌, ◌<◌, ◌⊎◌, inl, inr, cond, ℤ, List, [], ◌∷◌, ◌++◌, map, Bool as Truth, Option, Some, None, Result, Ok, Err, refl, sym, ap, subst, arith}
use Rattle.std.specs.List.{All, AllByRecursion}
use Rattle.std.proofs.lemmas.List.Elements.{All-head, All-tail}
use Rattle.xan_lin.specs.Linear.{Linear, NamesBelow, variable_form}
use Rattle.xan_lin.specs.Subst.{listed, replacement, subst_of}
use Rattle.xan_lin.specs.declared.term.LimitKind.TheVariants as limit
use Rattle.xan_lin.specs.declared.term.TooLarge.{TooLarge}
use Rattle.xan_lin.proofs.FormSizes.{sized-parts}
use Rattle.xan_lin.proofs.Booleans.{unequal}
use Rattle.state_types.specs.Types.{TypeBelow, subst_ty}
use Rattle.state_types.specs.declared.types.Ty.{Ty}
use Rattle.state_types.specs.declared.types.Ty.TheVariants as ty
use Rattle.state_types.proofs.Edges.{type_at-all}
use Rattle.state_types.proofs.Thens.{then_ok, ok_same}
use Rattle.operation_rules.specs.Forms.{variables_from}
use Rattle.xanadu_tree.specs.declared.linear.Linear.{Linear as Exact}
use Rattle.xanadu_tree.specs.declared.stmt.Clause.{Clause}
use Rattle.xanadu_tree.specs.declared.types.CoreTy.{CoreTy}
use Rattle.xanadu_tree.specs.declared.types.CoreTy.TheVariants as core_ty
use Rattle.xanadu_tree.specs.declared.types.Packing.{Packing}
use Rattle.xanadu_tree.specs.BodyRules.{Point, IsType, IsStated, IsClauseIfAny}
use Rattle.xanadu_tree.specs.IndexRules.{Stretch, Reaches, IsForm as IsExact, stretch_of}
use Rattle.xanadu_tree.specs.KindRules.{Setting}
use Rattle.typed_core.specs.Forms.{term_of, form_of, type_of, renamed, renamed_type}
use Rattle.typed_core.specs.Growth.{Continues}
use Rattle.typed_core.specs.Joins.{stated, leading, Joint, stated_types, joined}
use Rattle.typed_core.specs.Limits.{within, needed}
use Rattle.typed_core.specs.States.{Site, State, point, noting_state}
use Rattle.typed_core.proofs.GrownContexts.{RowsBelow}
use Rattle.typed_core.proofs.KnownTypes.{entry_at}
use Rattle.typed_core.proofs.NamedStates.{Typed, answered}
use Rattle.source_safety.proofs.JoinParts.{joined_is}
use Rattle.carrier_laws.proofs.CountedValues.{listed_front, listed_stands, own_stands}
use Rattle.carrier_laws.proofs.EdgesReach.{IsIn, FormIn, TypeIn}
use Rattle.carrier_laws.proofs.JoinsReach.{IsMeeting}
use Rattle.carrier_laws.proofs.KeptJoins.{joined_kept}
use Rattle.carrier_laws.proofs.KeptStates.{Kept}
use Rattle.carrier_laws.proofs.KeptStatements.{Ground, clause_exists}
use Rattle.carrier_laws.proofs.NamesIn.{Names, Stand, in_subst}
use Rattle.carrier_laws.proofs.NamesKept.{Keys, keys_behind, IsVariable, InScope, scope_more, named_behind}
use Rattle.carrier_laws.proofs.RulesKept.{IsGood}

all_recursion : {A : Type 0} (P : A → Type 0) (xs : List A) → All P xs → AllByRecursion P xs
all_recursion P [] all = tt
all_recursion P (x ∷ xs) all = (All-head P x xs all, all_recursion P xs (All-tail P x xs all))

-- a name that is not one of a clause
unnamed : (own indices v : ℕ) (naming : List (ℕ × Linear)) → v < own → AllByRecursion (λ (w : ℕ × Linear). (own ≤ w.0) × (w.0 < indices)) naming → listed v naming ≡ None
unnamed own indices v [] lt all = refl
unnamed own indices v (w ∷ ws) lt all =
    ap (λ b. cond b (let o : Option Linear = Some w.1 in o) (listed v ws)) (unequal w.0 v (λ same. (let h = all.0.0 in absurd (omega (arith, lt, same, h)))))
    ∙ unnamed own indices v ws lt all.1

module _ (own low first count top : ℕ) (reach : List Stretch) (naming : List (ℕ × Linear)) (keys : AllByRecursion (λ (w : ℕ × Linear). (own ≤ w.0) × (w.0 < top)) naming) (least : own ≤ low)
    (called : (v : ℕ) → Reaches reach v → (v < own) ⊎ ((name : ℕ) × (listed v naming ≡ Some (variable_form name)) × IsIn low first count name)) where
  abbrev In : ℕ → Type 0
  In v = IsIn low first count v

  stands : (v : ℕ) → Reaches reach v → Names In (replacement naming own v).terms
  stands v r = by_kind (called v r)
    where
      by_kind : (v < own) ⊎ ((name : ℕ) × (listed v naming ≡ Some (variable_form name)) × In name) → Names In (replacement naming own v).terms
      by_kind (inl h) =
          subst (λ (f : Linear). Names In f.terms) (sym (own_stands naming own v (unnamed own top v naming h keys) h)) (inl (omega (arith, h, least)), tt)
      by_kind (inr h) =
          subst (λ (f : Linear). Names In f.terms) (sym (listed_stands naming own v (variable_form h.0) h.1)) (h.2, tt)

  terms_stand : (ts : List (ℤ × ℕ)) → AllByRecursion (λ (t : ℤ × ℕ). Reaches reach t.1) ts → Stand In naming own (map term_of ts)
  terms_stand [] all = tt
  terms_stand (t ∷ ts) all = (stands t.1 all.0, terms_stand ts all.1)

  exact_in : (form : Exact) (e f : Linear) → IsExact reach form → form_of form ≡ Ok e → subst_of naming own e ≡ Ok f → FormIn low first count f
  exact_in form e f is made given =
      in_subst In naming own e f
      (subst (λ (g : Linear). Stand In naming own g.terms) (sized-parts (map term_of form.terms) form.constant e made) (terms_stand form.terms is.names)) given

  renamed_in : (form : Exact) (f : Linear) → IsExact reach form → renamed naming own form ≡ Ok f → FormIn low first count f
  unfolding renamed
  renamed_in form f is e = (let s = then_ok (form_of form) _ f e in exact_in form s.value f is s.first s.second)

  leading_in : (rows : List Exact) → AllByRecursion (IsExact reach) rows → AllByRecursion (FormIn low first count) (leading (map (renamed naming own) rows))
  unfolding leading
  leading_in [] all = tt
  leading_in (row ∷ rows) all = by_row (renamed naming own row) (λ f e. renamed_in row f all.0 e) (leading_in rows all.1)
    where
      by_row : (m : Result Linear TooLarge) → ((f : Linear) → m ≡ Ok f → FormIn low first count f) → AllByRecursion (FormIn low first count) (leading (map (renamed naming own) rows))
          → AllByRecursion (FormIn low first count) (leading (m ∷ map (renamed naming own) rows))
      by_row (Ok f) h later = (h f refl, later)
      by_row (Err why) h later = tt

  retyped_in : (types : List Packing) (c : CoreTy) (t : Ty) → IsType types reach c → renamed_type naming own c ≡ Ok t → TypeIn low first count t
  unfolding renamed_type type_of subst_ty
  retyped_in types (core_ty.Int form) t is e =
      let s = then_ok (type_of (core_ty.Int form)) _ t e in
      let u = then_ok (form_of form) _ s.value s.first in
      let made = subst (λ c. subst_ty naming own c ≡ Ok t) (sym (ok_same (ty.Int u.value) s.value u.second)) s.second in
      let v = then_ok (subst_of naming own u.value) _ t made in
      subst (TypeIn low first count) (ok_same (ty.Int v.value) t v.second) (exact_in form u.value v.value is u.first v.first)
  retyped_in types core_ty.Bool t is e = subst (TypeIn low first count) (ok_same ty.Bool t e) tt
  retyped_in types (core_ty.Array p form) t is e =
      let s = then_ok (type_of (core_ty.Array p form)) _ t e in
      let u = then_ok (form_of form) _ s.value s.first in
      let made = subst (λ c. subst_ty naming own c ≡ Ok t) (sym (ok_same (ty.Array p u.value) s.value u.second)) s.second in
      let v = then_ok (subst_of naming own u.value) _ t made in
      subst (TypeIn low first count) (ok_same (ty.Array p v.value) t v.second) (exact_in form u.value v.value is.1 u.first v.first)
  retyped_in types (core_ty.Named p) t is e = subst (TypeIn low first count) (ok_same (ty.Named p) t e) tt

  needed_ok : (r : Result Ty TooLarge) (x : Ty) → needed r ≡ Ok x → r ≡ Ok x
  needed_ok (Ok y) x e = ap (λ z. let p : Result Ty TooLarge = Ok z in p) (ok_same y x e)
  needed_ok (Err why) x e = absurd (let bad : ⊥ = cc in bad)

  abbrev EntryIn : ℕ × Ty → Type 0
  EntryIn w = TypeIn low first count w.1

  push : (xs : List (ℕ × Ty)) (y : ℕ × Ty) → AllByRecursion EntryIn xs → EntryIn y → AllByRecursion EntryIn (xs ++ y ∷ [])
  push [] y all p = (p, tt)
  push (x ∷ xs) y all p = (all.0, push xs y all.1 p)

  stated_in : (types : List Packing) (vars : List (ℕ × CoreTy)) (made wanted : List (ℕ × Ty)) → AllByRecursion (λ (s : ℕ × CoreTy). IsType types reach s.1) vars
      → stated_types naming own vars made ≡ Ok wanted → AllByRecursion EntryIn made → AllByRecursion EntryIn wanted
  unfolding stated_types
  stated_in types [] made wanted all e done = subst (AllByRecursion EntryIn) (ok_same made wanted e) done
  stated_in types (s ∷ ss) made wanted all e done =
      let t = then_ok (within limit.Places (suc s.0)) _ wanted e in
      let u = then_ok (needed (renamed_type naming own s.1)) _ wanted t.second in
      stated_in types ss (made ++ (s.0, u.value) ∷ []) wanted all.1 u.second
      (push made (s.0, u.value) done (retyped_in types s.1 u.value all.0 (needed_ok (renamed_type naming own s.1) u.value u.first)))

-- ---- a join

module _ (set : Setting) (site : Site) (ground : Ground set site) (here after : Point) (c : Option Clause) (is : IsClauseIfAny set here c after) (changed : ℕ → Truth) (st latest : State)
    (kept : Kept site.table st) (named : RowsBelow st.ctx.vars st.ctx.rows) (typed : Typed site.own.vars st) (keys : Keys site.own.vars here.indices latest.naming)
    (scope : InScope site.own.vars here.reach st.naming st.ctx.vars) (onward : Continues st.naming latest.naming) (le : st.ctx.vars ≤ latest.ctx.vars) where
  abbrev In_join : ℕ → Type 0
  In_join v = IsIn st.ctx.vars latest.ctx.vars (stated c).quant.count v

  abbrev begun : List (ℕ × Linear)
  begun = latest.naming ++ variables_from (stated c).first latest.ctx.vars (stated c).quant.count

  reach_in : (v : ℕ) → Reaches here.reach v → (v < site.own.vars) ⊎ ((name : ℕ) × (listed v begun ≡ Some (variable_form name)) × In_join name)
  reach_in v r = by_kind ((scope_more site.own.vars here.reach st.naming latest.naming st.ctx.vars st.ctx.vars onward (omega arith) scope).each v r)
    where
      by_kind : (v < site.own.vars) ⊎ IsVariable latest.naming st.ctx.vars v → (v < site.own.vars) ⊎ ((name : ℕ) × (listed v begun ≡ Some (variable_form name)) × In_join name)
      by_kind (inl h) = inl h
      by_kind (inr i) = inr (i.name, listed_front v latest.naming (variables_from (stated c).first latest.ctx.vars (stated c).quant.count) (variable_form i.name) i.there, inl i.less)

  own_low : site.own.vars ≤ st.ctx.vars
  own_low = typed.own_vars

  -- what the clause states
  pub record ClauseIn (naming : List (ℕ × Linear)) : Type 0 where
    pub wanted : (made : List (ℕ × Ty)) → stated_types naming site.own.vars (stated c).vars [] ≡ Ok made
        → AllByRecursion (λ (w : ℕ × Ty). TypeIn st.ctx.vars latest.ctx.vars (stated c).quant.count w.1) made
    pub rows : AllByRecursion (FormIn st.ctx.vars latest.ctx.vars (stated c).quant.count) (leading (map (renamed naming site.own.vars) (stated c).quant.rows))

none_in : (site : Site) (st latest : State) (naming : List (ℕ × Linear)) (made : List (ℕ × Ty)) → stated_types naming site.own.vars [] [] ≡ Ok made
    → AllByRecursion (λ (w : ℕ × Ty). TypeIn st.ctx.vars latest.ctx.vars 0 w.1) made
unfolding stated_types
none_in site st latest naming made e = subst (AllByRecursion (λ (w : ℕ × Ty). TypeIn st.ctx.vars latest.ctx.vars 0 w.1)) (ok_same [] made e) tt

types_of : (set : Setting) (visible : List ℕ) (reach : List Stretch) (vars : List (ℕ × CoreTy)) → AllByRecursion (IsStated set visible reach) vars
    → AllByRecursion (λ (s : ℕ × CoreTy). IsType set.types reach s.1) vars
types_of set visible reach [] all = tt
types_of set visible reach (s ∷ ss) all = (all.0.2, types_of set visible reach ss all.1)

module _ (set : Setting) (site : Site) (ground : Ground set site) (here after : Point) (changed : ℕ → Truth) (st latest : State)
    (kept : Kept site.table st) (named : RowsBelow st.ctx.vars st.ctx.rows) (typed : Typed site.own.vars st) (keys : Keys site.own.vars here.indices latest.naming)
    (scope : InScope site.own.vars here.reach st.naming st.ctx.vars) (onward : Continues st.naming latest.naming) (le : st.ctx.vars ≤ latest.ctx.vars) where
  clause_in : (c : Option Clause) (is : IsClauseIfAny set here c after)
      → ClauseIn set site ground here after c is changed st latest kept named typed keys scope onward le
      (latest.naming ++ variables_from (stated c).first latest.ctx.vars (stated c).quant.count)
  unfolding leading
  clause_in None is = record { wanted = λ made e. none_in site st latest _ made e; rows = tt }
  clause_in (Some clause) is =
      let own = site.own.vars in
      let first = latest.ctx.vars in
      let count = clause.quant.count in
      let reach = stretch_of clause.first clause.quant ∷ here.reach in
      let naming = latest.naming ++ variables_from clause.first first count in
      let same = is.0.first in
      let all_keys = (keys_behind own here.indices first clause latest.naming (inl same) keys).within in
      let called = by_reach clause same (reach_in set site ground here after (Some clause) is changed st latest kept named typed keys scope onward le) in
      record {
        wanted = λ made e.
            stated_in own st.ctx.vars first count (here.indices + count) reach naming all_keys typed.own_vars called set.types clause.vars [] made
            (types_of set here.visible reach clause.vars is.0.stated) e tt;
        rows = leading_in own st.ctx.vars first count (here.indices + count) reach naming all_keys typed.own_vars called clause.quant.rows is.0.quantified.forms;
      }
    where
      by_reach : (clause : Clause) → clause.first ≡ here.indices
          → ((v : ℕ) → Reaches here.reach v → (v < site.own.vars) ⊎ ((name : ℕ) × (listed v (latest.naming ++ variables_from clause.first latest.ctx.vars clause.quant.count) ≡ Some (variable_form name))
          × IsIn st.ctx.vars latest.ctx.vars clause.quant.count name))
          → (v : ℕ) → Reaches (stretch_of clause.first clause.quant ∷ here.reach) v
          → (v < site.own.vars) ⊎ ((name : ℕ) × (listed v (latest.naming ++ variables_from clause.first latest.ctx.vars clause.quant.count) ≡ Some (variable_form name))
          × IsIn st.ctx.vars latest.ctx.vars clause.quant.count name)
      by_reach clause same others v (inl h) =
          (let from = h.0 in
          let to = h.1 in
          let it = named_behind site.own.vars here.indices latest.ctx.vars clause.quant.count v latest.naming keys (omega (arith, from, same)) (omega (arith, to, same)) in
          inr (it.0, ap (λ n. listed v (latest.naming ++ variables_from n latest.ctx.vars clause.quant.count)) same ∙ it.1, inr (it.3, it.2)))
      by_reach clause same others v (inr r) = others v r

  pub meeting_known : (c : Option Clause) → IsClauseIfAny set here c after → (p : Joint × State) → joined site (stated c) changed (point st) latest ≡ Ok p
      → IsMeeting site (stated c) changed (point st) latest p
  unfolding noting_state
  meeting_known c is p e =
      let j = joined_is site (stated c) changed (point st) latest p e in
      let says = clause_in c is in
      let begun = latest.naming ++ variables_from (stated c).first latest.ctx.vars (stated c).quant.count in
      let naming : j.known.naming ≡ begun = j.naming ∙ ap (λ vs. vs ++ variables_from (stated c).first latest.ctx.vars (stated c).quant.count) j.widens.naming in
      let wanted = says.wanted j.wanted (subst (λ vs. stated_types vs site.own.vars (stated c).vars [] ≡ Ok j.wanted) naming j.states) in
      let fresh : j.fresh.naming ++ variables_from (stated c).first latest.ctx.vars (stated c).quant.count ≡ begun =
      ap (λ vs. vs ++ variables_from (stated c).first latest.ctx.vars (stated c).quant.count) j.widens.naming in
      let rows = subst (λ rs. AllByRecursion (FormIn st.ctx.vars latest.ctx.vars (stated c).quant.count) (leading rs))
      (ap (λ vs. map (renamed vs site.own.vars) (stated c).quant.rows) (sym fresh) ∙ j.renames) says.rows in
      let well = answered (joined site (stated c) changed (point st) latest) p
      (joined_kept site.table (point st) kept.rows kept.types kept.rise site (stated c) changed latest (clause_exists set site ground here c after is)) e in
      record {
        joined = j;
        own = typed.own_vars;
        older = le;
        row_names = all_recursion (NamesBelow st.ctx.vars) st.ctx.rows named;
        row_forms = kept.rows.forms;
        type_names = λ x t at. type_at-all (λ (en : ℕ × Ty). TypeBelow st.ctx.vars en.1) x st.types t typed.types at;
        type_forms = λ x t at. (entry_at (λ (en : ℕ × Ty). IsGood site.table en.1) st.types x t kept.types at).0;
        wanted_in = subst (λ (q : Joint × State). AllByRecursion (λ (w : ℕ × Ty). TypeIn st.ctx.vars latest.ctx.vars (stated c).quant.count w.1) q.0.wanted) j.is wanted;
        rows_in = subst (λ (q : Joint × State). AllByRecursion (FormIn st.ctx.vars latest.ctx.vars (stated c).quant.count) q.0.rows) j.is rows;
        rise = well.kept.rise;
      }
