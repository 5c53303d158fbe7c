-- The jumps by which branches and bodies come to a join are typed, by what is known at a place.
use Rattle.std.proofs.Common.{◌≡◌, ℕ, suc, ◌<◌, ◌≤◌, List, [], ◌∷◌, Bool as Truth, true, false, Some, refl, arith}
use Rattle.std.specs.List.{All, AllByRecursion}
use Rattle.std.proofs.lemmas.List.Elements.{All-nil, All-cons, All-head, All-tail}
use Rattle.xan_lin.specs.Linear.{Linear, IsForm, NamesBelow}
use Rattle.xan_lin.specs.declared.term.Term.{Term}
use Rattle.state_types.specs.PlaceTypes.{type_at}
use Rattle.state_types.specs.Types.{index_of, TypeBelow}
use Rattle.state_types.specs.declared.state.StateType.{StateType}
use Rattle.state_types.specs.declared.types.Ty.{Ty}
use Rattle.state_types.specs.declared.types.Ty.TheVariants as ty
use Rattle.state_types.proofs.Edges.{type_at-all}
use Rattle.three_address.specs.LiveLabels.{live_mark}
use Rattle.three_address.specs.Liveness.{Live}
use Rattle.three_address.specs.Typing.{GoesTo}
use Rattle.three_address.proofs.LabelColumns.{mark_is_live}
use Rattle.lowering.specs.Lowered.{number_of}
use Rattle.xanadu_tree.specs.declared.stmt.Clause.{Clause}
use Rattle.xanadu_tree.specs.KindRules.{Setting}
use Rattle.typed_core.specs.Growth.{Continues}
use Rattle.typed_core.specs.Joins.{is_named, Joint}
use Rattle.typed_core.specs.Proving.{ProveAll}
use Rattle.typed_core.specs.States.{Site, State, point, all_asked, none_asked}
use Rattle.typed_core.proofs.GrownContexts.{RowsBelow}
use Rattle.typed_core.proofs.KnownTypes.{IsEntry, Knows, AreWithin, entry_at, present_of}
use Rattle.typed_core.proofs.TypeKinds.{ty_kind, like_kinds}
use Rattle.type_carrier.specs.ProvedRows.{way}
use Rattle.type_carrier.specs.Ways.{label_state, way_edge}
use Rattle.carrier_laws.proofs.OperandsRun.{Walk, Within}
use Rattle.carrier_laws.proofs.CountedValues.{own_stands}
use Rattle.carrier_laws.proofs.EdgesReach.{IsTypeForm}
use Rattle.carrier_laws.proofs.FormsKept.{StaysItself, subst_kept}
use Rattle.carrier_laws.proofs.FragmentsTyped.{HasLabels, LabelAt}
use Rattle.carrier_laws.proofs.JoinsReach.{IsMeeting, ComesFrom, jump_reaches}
use Rattle.carrier_laws.proofs.LabelsMet.{Formed}
use Rattle.carrier_laws.proofs.PlacesKept.{Facts}
use Rattle.carrier_laws.proofs.PlainWays.{Stays, IndexStays}
use Rattle.carrier_laws.proofs.RulesKept.{IsGood}
use Rattle.carrier_laws.proofs.WaysEntered.{IsWay}

-- ---- forms that stay what they are

terms_below : (m : ℕ) (ts : List Term) → All (λ t. t.var < m) ts → All (StaysItself [] m) ts
terms_below m [] all = All-nil (StaysItself [] m)
terms_below m (t ∷ ts) all =
    All-cons (StaysItself [] m) t ts (own_stands [] m t.var refl (All-head (λ (u : Term). u.var < m) t ts all)) (terms_below m ts (All-tail (λ (u : Term). u.var < m) t ts all))

form_stays : (n m : ℕ) (e : Linear) → n ≤ m → IsForm e → NamesBelow n e → Stays m e
form_stays n m e le is named = subst_kept [] m e is (terms_below m e.terms (λ k d h. (let lt = named k d h in omega (arith, le, lt))))

rows_stay : (n m : ℕ) (rows : List Linear) → n ≤ m → AllByRecursion IsForm rows → RowsBelow n rows → AllByRecursion (Stays m) rows
rows_stay n m [] le forms named = tt
rows_stay n m (row ∷ rows) le forms named =
    (form_stays n m row le forms.0 (All-head (NamesBelow n) row rows named), rows_stay n m rows le forms.1 (All-tail (NamesBelow n) row rows named))

index_stays : (n m : ℕ) (t : Ty) → n ≤ m → IsTypeForm t → TypeBelow n t → IndexStays m (index_of t)
index_stays n m (ty.Int e) le is named = form_stays n m e le is named
index_stays n m ty.Bool le is named = tt
index_stays n m (ty.Array p e) le is named = form_stays n m e le is named
index_stays n m (ty.Named p) le is named = tt

pub facts_formed : (site : Site) (st : State) → Facts site st → Formed st.ctx.vars st.ctx.rows st.types
facts_formed site st f = record {
  rows_stay = λ m le. rows_stay st.ctx.vars m st.ctx.rows le f.kept.rows.forms f.named;
  types_stay = λ x t at m le. index_stays st.ctx.vars m t le (entry_at (λ (e : ℕ × Ty). IsGood site.table e.1) st.types x t f.kept.types at).0
      (type_at-all (λ (e : ℕ × Ty). TypeBelow st.ctx.vars e.1) x st.types t f.typed.types at);
  rise = f.kept.rise;
}

-- ---- where a way comes from

pub comes_from : (set : Setting) (site : Site) (visible inner : List ℕ) (clause : Clause) (changed : ℕ → Truth) (st from : State) (p : Joint × State) → AreWithin visible inner
    → Knows set.kinds visible p.1.types → Knows set.kinds inner from.types → Facts site from → st.ctx.vars ≤ from.ctx.vars → Continues st.ctx.rows from.ctx.rows
    → ((x : ℕ) → changed x ≡ false → is_named x clause.vars ≡ false → type_at x from.types ≡ type_at x st.types) → ComesFrom clause changed (point st) (point from) p
comes_from set site visible inner clause changed st from p within known later f le rows same = record {
  vars = le;
  rows = rows;
  unchanged = same;
  kinds = λ x t at.
      (let entry = entry_at (IsEntry set.kinds visible) p.1.types x t known.agree at in
      let it = present_of set.kinds inner from.types x (ty_kind t) later (within x entry.0) entry.1 in
      (it.type, it.at, like_kinds t it.type it.kind));
  names = λ x t at. type_at-all (λ (e : ℕ × Ty). TypeBelow from.ctx.vars e.1) x from.types t f.typed.types at;
  forms = λ x t at. (entry_at (λ (e : ℕ × Ty). IsGood site.table e.1) from.types x t f.kept.types at).0;
}

-- ---- the jump

module _ (w : Walk) (columns : List (List Truth)) (has : HasLabels w columns) (clause : Clause) (changed : ℕ → Truth) (before : StateType) (latest : State) (p : Joint × State)
    (m : IsMeeting w.site clause changed before latest p) (at : ℕ) (from : State) (st more : State) (entry : IsWay w.site at p.0 (point from) st more)
    (c : ComesFrom clause changed before (point from) p) (s : StateType) (ctx_is : s.ctx ≡ from.ctx) where
  pub way_goes : ProveAll w.proofs.goals w.proofs.lines → Continues more.goals w.proofs.goals → (to number : ℕ) → LabelAt w columns to number (point p.1) → Within w from.types
      → ((x : ℕ) (t : Ty) → Live w.body.fun to x → type_at x from.types ≡ Some t → type_at x s.places ≡ Some t)
      → GoesTo w.site.own w.body.labels s (number_of w.body.positions to)
      (way_edge w.proofs clause.vars (Some (label_state columns (suc number) (point p.1)))
      (way entry.values entry.actual (all_asked w.site at from.ctx entry.found.rows (none_asked st)).numbers))
  way_goes proved goals to number label within agree = record {
    before = number;
    number = label.number_is;
    target = label_state columns (suc number) (point p.1);
    there = label.there;
    reaches = jump_reaches w.site clause changed before latest p m at (point from) st more entry c s ctx_is w.proofs proved goals columns (suc number)
        (λ x t mark there. agree x t (live_there x t there mark) there);
  }
    where
      live_there : (x : ℕ) (t : Ty) → type_at x from.types ≡ Some t → live_mark columns (suc number) x ≡ true → Live w.body.fun to x
      live_there x t there mark =
          (let h = within x t there in let g = has.room in (mark_is_live w.body.fun columns (suc number) to x has.live (omega (arith, h, g)) label.found).0 mark)
