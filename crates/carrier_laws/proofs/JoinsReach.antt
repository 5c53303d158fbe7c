-- The jump by which a branch or a body comes to a join is typed, at a label that has the join's state cut to live places.
use Rattle.std.proofs.Common.{◌≡◌, ◌∙◌, ℕ, suc, ◌+◌, ◌<◌, ◌≤◌, List, [], ◌∷◌, ◌++◌, length, slice_get, Bool as Truth, true, false, ◌⊎◌, inl, inr, Option, Some, None, Ok, refl, sym, ap, ap₂, subst, arith, length-append}
use Rattle.std.specs.Prelude.{◌&&◌, not}
use Rattle.std.specs.List.{All, AllZip, AllByRecursion}
use Rattle.std.proofs.lemmas.List.Elements.{All-nil, All-cons, All-head, All-tail}
use Rattle.std.proofs.lemmas.Option.{same_Some}
use Rattle.index_sorts.specs.Context.{IndexContext}
use Rattle.xan_lin.specs.Linear.{Linear, IsForm, NamesBelow, variable_form}
use Rattle.xan_lin.specs.Subst.{listed as value_listed, subst_of}
use Rattle.state_types.specs.Matching.{index_rows}
use Rattle.state_types.specs.PlaceTypes.{type_at, PlacesRise}
use Rattle.state_types.specs.Types.{index_of, same_kind, TypeBelow}
use Rattle.state_types.specs.declared.state.StateType.{StateType}
use Rattle.state_types.specs.declared.types.Ty.{Ty}
use Rattle.state_types.specs.declared.types.Ty.TheVariants as ty
use Rattle.three_address.specs.LiveLabels.{live_mark}
use Rattle.three_address.specs.Typing.{Reaches}
use Rattle.xanadu_tree.specs.declared.stmt.Clause.{Clause}
use Rattle.xanadu_tree.specs.declared.types.CoreTy.{CoreTy}
use Rattle.typed_core.specs.Growth.{Continues}
use Rattle.typed_core.specs.Joins.{is_named, has_index, is_renewed, with_index, with_types, leading, first_past, Joint}
use Rattle.typed_core.specs.Proving.{ProveAll}
use Rattle.typed_core.specs.States.{Site, State, point, all_asked, none_asked, noting_state}
use Rattle.typed_core.proofs.NamedStates.{all_assumed_vars}
use Rattle.source_safety.proofs.JoinParts.{IsJoined}
use Rattle.source_safety.proofs.JoinTypes.{HasIndex, IsFresh, IsKept, renewed_kept, others_unnamed, stated_over}
use Rattle.type_carrier.specs.ProvedRows.{Proofs, way}
use Rattle.type_carrier.specs.Ways.{first_own, label_state, place_rows, rows_or_none, rising_edge, all_by, way_edge}
use Rattle.carrier_laws.proofs.CountedValues.{Counted, counted_on, counted_rise, counted_test, listed_at, listed_stands}
use Rattle.carrier_laws.proofs.EdgesReach.{IsTypeForm, FormIn, TypeIn, form_met, rows_alike, form_before, same_index, PlaceMet, OwnMet, label_met}
use Rattle.carrier_laws.proofs.FormsKept.{subst_alone}
use Rattle.carrier_laws.proofs.JoinsMet.{assumed_from, leading_all, known_among, each_among, zip_get, get_behind, stated_type, named_among, index_form}
use Rattle.carrier_laws.proofs.LivePlaces.{live_places_are, live_all, found_among}
use Rattle.carrier_laws.proofs.MatchedRows.{RowMet}
use Rattle.carrier_laws.proofs.WayRows.{Among, among_left, AreAsked, Sought, are_asked}
use Rattle.carrier_laws.proofs.WaysEntered.{IsWay, keys_stated, named_present, unnamed_present}

-- ---- what is known where control flow meets

-- What is known where a join is made: of the rows and types before, and of those that the clause states.
pub record IsMeeting (site : Site) (clause : Clause) (changed : ℕ → Truth) (before : StateType) (latest : State) (p : Joint × State) : Type 0 where
  pub joined : IsJoined site clause changed before latest p
  pub own : site.own.vars ≤ before.ctx.vars
  pub older : before.ctx.vars ≤ latest.ctx.vars
  pub row_names : AllByRecursion (NamesBelow before.ctx.vars) before.ctx.rows
  pub row_forms : AllByRecursion IsForm before.ctx.rows
  pub type_names : (x : ℕ) (t : Ty) → type_at x before.places ≡ Some t → TypeBelow before.ctx.vars t
  pub type_forms : (x : ℕ) (t : Ty) → type_at x before.places ≡ Some t → IsTypeForm t
  pub wanted_in : AllByRecursion (λ (w : ℕ × Ty). TypeIn before.ctx.vars latest.ctx.vars clause.quant.count w.1) p.0.wanted
  pub rows_in : AllByRecursion (FormIn before.ctx.vars latest.ctx.vars clause.quant.count) p.0.rows
  pub rise : PlacesRise 0 p.1.types

-- What is known where a way in comes from.
pub record ComesFrom (clause : Clause) (changed : ℕ → Truth) (before from : StateType) (p : Joint × State) : Type 0 where
  pub vars : before.ctx.vars ≤ from.ctx.vars
  pub rows : Continues before.ctx.rows from.ctx.rows
  pub unchanged : (x : ℕ) → changed x ≡ false → is_named x clause.vars ≡ false → type_at x from.places ≡ type_at x before.places
  pub kinds : (x : ℕ) (t : Ty) → type_at x p.1.types ≡ Some t → (u : Ty) × (type_at x from.places ≡ Some u) × (same_kind t u ≡ true)
  pub names : (x : ℕ) (t : Ty) → type_at x from.places ≡ Some t → TypeBelow from.ctx.vars t
  pub forms : (x : ℕ) (t : Ty) → type_at x from.places ≡ Some t → IsTypeForm t

-- a noted entry: the clause states it, or it is as before but for a fresh index
abbrev IsEntry : (clause : Clause) (changed : ℕ → Truth) (first : ℕ) (before : StateType) (wanted : List (ℕ × Ty)) (others : List ℕ) → ℕ → Ty → Type 0
IsEntry clause changed first before wanted others x t =
    Among wanted (x, t) ⊎ ((is_named x clause.vars ≡ false) × IsKept changed clause.vars first x before.places others t)

module _ (site : Site) (clause : Clause) (changed : ℕ → Truth) (before : StateType) (latest : State) where
  all_of : {A : Type 0} (P : A → Type 0) (xs : List A) → ((x : A) → Among xs x → P x) → All P xs
  all_of P [] each = All-nil P
  all_of P (x ∷ xs) each = All-cons P x xs (each x (inl refl)) (all_of P xs (λ y a. each y (inr a)))

  -- the entries of the join's state
  entry_of : (p : Joint × State) (j : IsJoined site clause changed before latest p) (x : ℕ) (t : Ty) → type_at x p.1.types ≡ Some t
      → IsEntry clause changed (latest.ctx.vars + clause.quant.count) before p.0.wanted p.0.others x t
  unfolding noting_state
  entry_of p j x t at =
      let first = latest.ctx.vars + clause.quant.count in
      let P : ℕ → Ty → Type 0 = λ y u. IsEntry clause changed first before j.wanted j.kept.others y u in
      let there : type_at x (with_types j.wanted j.kept.types) ≡ Some t = ap (λ (q : Joint × State). type_at x q.1.types) j.is ∙ at in
      let it = stated_over P x t j.wanted j.kept.types (all_of (λ (w : ℕ × Ty). P w.0 w.1) j.wanted (λ w a. inl a))
      (λ others found. (let un = others_unnamed x j.known.naming site.own.vars clause.vars [] j.wanted j.states others in
      inr (
        un.1,
        subst (λ k. IsKept changed clause.vars first x before.places k.others t) j.keeps
            (renewed_kept changed clause.vars first x t before.places (record { types = []; others = [] }) refl
            (subst (λ k. type_at x k.types ≡ Some t) (sym j.keeps) found)),
      ))) there in
      subst (λ (q : Joint × State). IsEntry clause changed first before q.0.wanted q.0.others x t) j.is it

  -- the rows of the join's state
  row_of : (p : Joint × State) (j : IsJoined site clause changed before latest p) (r : Linear) → p.0.past ≡ None → Among p.1.ctx.rows r → Among before.ctx.rows r ⊎ Among p.0.rows r
  unfolding noting_state
  row_of p j r none a =
      let here : Among j.known.ctx.rows r = subst (λ (q : Joint × State). Among q.1.ctx.rows r) (sym j.is) a in
      let past : first_past j.rows ≡ None = ap (λ (q : Joint × State). q.0.past) j.is ∙ none in
      subst (λ (q : Joint × State). Among before.ctx.rows r ⊎ Among q.0.rows r) j.is (either past (assumed_from j.rows j.fresh.ctx j.known.ctx r j.assumes here))
    where
      either : first_past j.rows ≡ None → Among j.fresh.ctx.rows r ⊎ Among j.rows (Ok r) → Among before.ctx.rows r ⊎ Among (leading j.rows) r
      either past (inl h) = inl (subst (λ rs. Among rs r) j.widens.rows h)
      either past (inr h) = inr (leading_all j.rows r past h)

  module _ (p : Joint × State) (m : IsMeeting site clause changed before latest p) (at : ℕ) (from : StateType) (st more : State) (w : IsWay site at p.0 from st more)
      (c : ComesFrom clause changed before from p) (s : StateType) (ctx_is : s.ctx ≡ from.ctx) where
    abbrev first : ℕ
    first = latest.ctx.vars

    abbrev count : ℕ
    count = clause.quant.count

    first_is : p.0.first ≡ first
    first_is = ap (λ (q : Joint × State). q.0.first) (sym m.joined.is)

    count_is : p.0.count ≡ count
    count_is = ap (λ (q : Joint × State). q.0.count) (sym m.joined.is)

    behind_is : p.0.first + p.0.count ≡ first + count
    behind_is = ap₂ (λ a b. a + b) first_is count_is

    -- ---- values

    counted_found : Counted first w.found.values
    counted_found = subst (λ n. Counted n w.found.values) first_is w.matches.counted

    many_found : length w.found.values ≡ count
    many_found = w.matches.many ∙ count_is

    counted_more : Counted (first + count) w.valued.more
    counted_more = subst (λ n. Counted n w.valued.more) behind_is w.valued.counted

    abbrev both_values : List (ℕ × Linear)
    both_values = w.found.values ++ w.valued.more

    counted_all : Counted first both_values
    counted_all = counted_on first w.found.values w.valued.more counted_found (subst (λ n. Counted (first + n) w.valued.more) (sym many_found) counted_more)

    least : before.ctx.vars ≤ s.ctx.vars
    least = subst (λ (x : IndexContext). before.ctx.vars ≤ x.vars) (sym ctx_is) c.vars

    -- over the context of the way, or over the variables before the join
    met_at : (below : ℕ) → before.ctx.vars ≤ below → (e : Linear) → FormIn before.ctx.vars first count e → subst_of both_values below e ≡ subst_of w.found.values first e
    met_at below le e all = form_met before.ctx.vars first count below w.found.values w.valued.more counted_found many_found counted_all le m.older e all

    rows_at : (below : ℕ) → before.ctx.vars ≤ below → (t : Ty) (o : Option Linear) → TypeIn before.ctx.vars first count t
        → index_rows both_values below (index_of t) o [] ≡ index_rows w.found.values first (index_of t) o []
    rows_at below le t o all = rows_alike before.ctx.vars first count below w.found.values w.valued.more counted_found many_found counted_all le m.older t o all

    kept_at : (below : ℕ) → before.ctx.vars ≤ below → (e : Linear) → IsForm e → NamesBelow before.ctx.vars e → subst_of both_values below e ≡ Ok e
    kept_at below le e is named = form_before before.ctx.vars first count below w.found.values w.valued.more counted_found many_found counted_all le m.older e is named

    -- ---- entries

    abbrev Met : ℕ → Ty → Type 0
    Met x t = PlaceMet s.ctx w.found.rows both_values first s.places clause.vars w.actual (x, t)

    keys : AllZip (λ (a : ℕ × CoreTy) (b : ℕ × Ty). a.0 ≡ b.0) clause.vars p.0.wanted
    keys =
        (let k = keys_stated m.joined.known.naming site.own.vars clause.vars [] m.joined.wanted m.joined.states in
        subst (λ (q : Joint × State). AllZip (λ (a : ℕ × CoreTy) (b : ℕ × Ty). a.0 ≡ b.0) clause.vars q.0.wanted) m.joined.is
        (subst (λ ws. AllZip (λ (a : ℕ × CoreTy) (b : ℕ × Ty). a.0 ≡ b.0) clause.vars ws) k.1 k.2))

    no_rows : (x : ℕ) (t u : Ty) → type_at x s.places ≡ Some u → same_kind t u ≡ true → is_named x clause.vars ≡ false
        → index_rows both_values s.ctx.vars (index_of t) (index_of u) [] ≡ Ok [] → Met x t
    no_rows x t u there alike unnamed is = record {
      present = u;
      there = there;
      alike = alike;
      rows = [];
      is = is;
      carried = ap (λ o. place_rows both_values first t o) (unnamed_present clause.vars w.actual x unnamed);
      sought = λ proofs. tt;
    }

    kept_met : (x : ℕ) (t u : Ty) → same_kind t u ≡ true → type_at x s.places ≡ Some u → TypeBelow before.ctx.vars t → IsTypeForm t → is_named x clause.vars ≡ false
        → (has_index t ≡ true → u ≡ t) → Met x t
    unfolding index_rows
    kept_met x (ty.Int e) u alike there named is unnamed same =
        no_rows x (ty.Int e) u there alike unnamed
        (subst (λ v. index_rows both_values s.ctx.vars (Some e) (index_of v) [] ≡ Ok []) (sym (same refl)) (same_index both_values s.ctx.vars e e (kept_at s.ctx.vars least e is named)))
    kept_met x ty.Bool u alike there named is unnamed same = no_rows x ty.Bool u there alike unnamed refl
    kept_met x (ty.Array q e) u alike there named is unnamed same =
        no_rows x (ty.Array q e) u there alike unnamed
        (subst (λ v. index_rows both_values s.ctx.vars (Some e) (index_of v) [] ≡ Ok []) (sym (same refl)) (same_index both_values s.ctx.vars e e (kept_at s.ctx.vars least e is named)))
    kept_met x (ty.Named q) u alike there named is unnamed same = no_rows x (ty.Named q) u there alike unnamed refl

    -- the value of a fresh index is the present index
    fresh_value : (x j : ℕ) (u : Ty) → slice_get p.0.others j ≡ Some x → type_at x from.places ≡ Some u
        → (f : Linear) × (index_of u ≡ Some f) × (subst_of both_values s.ctx.vars (variable_form ((first + count) + j)) ≡ Ok f)
    fresh_value x j u listed at =
        let z = zip_get (λ (y : ℕ) (v : ℕ × Linear). HasIndex from.places y v.1) p.0.others w.valued.more j x w.valued.each listed in
        let h = z.2 in
        let same : h.type ≡ u = same_Some h.type u (sym h.there ∙ at) in
        let form = z.0.1 in
        let index : index_of u ≡ Some form = ap index_of (sym same) ∙ h.is in
        let there = listed_at first both_values (length w.found.values + j) z.0 counted_all (get_behind w.found.values w.valued.more j ∙ z.1) in
        let number : first + (length w.found.values + j) ≡ (first + count) + j = (let k = many_found in omega (arith, k)) in
        let stands = listed_stands both_values s.ctx.vars ((first + count) + j) form (ap (λ n. value_listed n both_values) (sym number) ∙ there) in
        (form, index, subst_alone both_values s.ctx.vars ((first + count) + j) form (index_form u form (c.forms x u at) index) stands)

    fresh_met : (x j : ℕ) (old u : Ty) → same_kind (with_index old (variable_form ((first + count) + j))) u ≡ true → type_at x s.places ≡ Some u → type_at x from.places ≡ Some u
        → slice_get p.0.others j ≡ Some x → is_named x clause.vars ≡ false → Met x (with_index old (variable_form ((first + count) + j)))
    unfolding index_rows
    fresh_met x j (ty.Int e) u alike there at listed unnamed =
        let v = fresh_value x j u listed at in
        no_rows x (ty.Int (variable_form ((first + count) + j))) u there alike unnamed
        (subst (λ o. index_rows both_values s.ctx.vars (Some (variable_form ((first + count) + j))) o [] ≡ Ok []) (sym v.1)
        (same_index both_values s.ctx.vars (variable_form ((first + count) + j)) v.0 v.2))
    fresh_met x j ty.Bool u alike there at listed unnamed = no_rows x ty.Bool u there alike unnamed refl
    fresh_met x j (ty.Array q e) u alike there at listed unnamed =
        let v = fresh_value x j u listed at in
        no_rows x (ty.Array q (variable_form ((first + count) + j))) u there alike unnamed
        (subst (λ o. index_rows both_values s.ctx.vars (Some (variable_form ((first + count) + j))) o [] ≡ Ok []) (sym v.1)
        (same_index both_values s.ctx.vars (variable_form ((first + count) + j)) v.0 v.2))
    fresh_met x j (ty.Named q) u alike there at listed unnamed = no_rows x (ty.Named q) u there alike unnamed refl

    stated_met : (x : ℕ) (t u : Ty) → same_kind t u ≡ true → type_at x s.places ≡ Some u → type_at x from.places ≡ Some u → Among p.0.wanted (x, t) → Met x t
    stated_met x t u alike there at a =
        let it = stated_type w.found.values p.0.first w.found.rows from.places x t p.0.wanted w.actual w.presents w.matches.types a in
        let same : it.present ≡ u = same_Some it.present u (sym it.there ∙ at) in
        let in_type = each_among (λ (e : ℕ × Ty). TypeIn before.ctx.vars first count e.1) p.0.wanted (x, t) m.wanted_in a in
        let is : index_rows w.found.values first (index_of t) (index_of u) [] ≡ Ok it.met.rows =
        ap (λ v. index_rows w.found.values first (index_of t) (index_of v) []) (sym same) ∙ ap (λ n. index_rows w.found.values n (index_of t) (index_of it.present) []) (sym first_is) ∙ it.met.is in
        let named = named_among clause.vars p.0.wanted x t keys a in
        record {
          present = u;
          there = there;
          alike = alike;
          rows = it.met.rows;
          is = rows_at s.ctx.vars least t (index_of u) in_type ∙ is;
          carried = ap (λ o. place_rows both_values first t o) (named_present from.places x clause.vars p.0.wanted w.actual keys w.presents named ∙ at)
              ∙ ap rows_or_none (rows_at first m.older t (index_of u) in_type ∙ is);
          sought = λ proofs. sought_all proofs it.met.rows it.met.among;
        }
      where
        sought_all : (proofs : Proofs) (rows : List Linear) → AllByRecursion (Among w.found.rows) rows → AllByRecursion (Sought proofs s.ctx w.found.rows) rows
        sought_all proofs [] all = tt
        sought_all proofs (r ∷ rows) all = (inr all.0, sought_all proofs rows all.1)

    -- any entry
    entry_met : (x : ℕ) (t u : Ty) → same_kind t u ≡ true → type_at x s.places ≡ Some u → type_at x from.places ≡ Some u
        → IsEntry clause changed (first + count) before p.0.wanted p.0.others x t → Met x t
    entry_met x t u alike there at (inl a) = stated_met x t u alike there at a
    entry_met x t u alike there at (inr k) = by_kind k.1.is
      where
        old_at : (is_old : t ≡ k.1.old) → type_at x before.places ≡ Some t
        old_at is_old = k.1.there ∙ ap (λ (v : Ty). let o : Option Ty = Some v in o) (sym is_old)

        not_changed : (a b c : Truth) → a ≡ true → c ≡ false → (a && b && not c) ≡ false → b ≡ false
        not_changed true true false p q r = absurd (let bad : ⊥ = cc in bad)
        not_changed true false c p q r = refl
        not_changed a true true p q r = absurd (let bad : ⊥ = cc in bad)
        not_changed false b c p q r = absurd (let bad : ⊥ = cc in bad)

        same_present : (is_old : t ≡ k.1.old) → is_renewed changed clause.vars (x, k.1.old) ≡ false → has_index t ≡ true → u ≡ t
        same_present is_old kept has =
            (let unchanged = not_changed (has_index k.1.old) (changed x) (is_named x clause.vars) (ap has_index (sym is_old) ∙ has) k.0 kept in
            same_Some u t (sym at ∙ c.unchanged x unchanged k.0 ∙ old_at is_old))

        by_kind : ((is_renewed changed clause.vars (x, k.1.old) ≡ false) × (t ≡ k.1.old)) ⊎ IsFresh (first + count) x k.1.old t p.0.others → Met x t
        by_kind (inl h) =
            kept_met x t u alike there (m.type_names x t (old_at h.1)) (m.type_forms x t (old_at h.1)) k.0 (λ has. same_present h.1 h.0 has)
        by_kind (inr h) =
            subst (λ v. Met x v) (sym h.is)
            (fresh_met x h.place k.1.old u (subst (λ v. same_kind v u ≡ true) h.is alike) there at h.listed k.0)

    -- ---- rows

    row_met : (r : Linear) → Among before.ctx.rows r ⊎ Among p.0.rows r → OwnMet s.ctx w.found.rows both_values first r
    row_met r (inl a) =
        let is = each_among IsForm before.ctx.rows r m.row_forms a in
        let named = each_among (NamesBelow before.ctx.vars) before.ctx.rows r m.row_names a in
        record {
          given = r;
          is = kept_at s.ctx.vars least r is named;
          carried = kept_at first m.older r is named;
          sought = λ proofs. inl (known_among s.ctx r (subst (λ (x : IndexContext). Among x.rows r) (sym ctx_is)
              (subst (λ rs. Among rs r) (sym c.rows.is) (among_left before.ctx.rows c.rows.rest r a))));
        }
    row_met r (inr a) =
        let it = each_among (RowMet w.found.values p.0.first w.found.rows) p.0.rows r w.matches.each a in
        let in_row = each_among (FormIn before.ctx.vars first count) p.0.rows r m.rows_in a in
        let is : subst_of w.found.values first r ≡ Ok it.given = ap (λ n. subst_of w.found.values n r) (sym first_is) ∙ it.is in
        record {
          given = it.given;
          is = met_at s.ctx.vars least r in_row ∙ is;
          carried = met_at first m.older r in_row ∙ is;
          sought = λ proofs. inr it.among;
        }

    -- ---- values

    abbrev target_vars : ℕ
    target_vars = p.1.ctx.vars

    vars_are : target_vars ≡ first + length both_values
    unfolding noting_state
    vars_are =
        (let fresh = m.joined.widens.vars in
        let kept = all_assumed_vars m.joined.rows m.joined.fresh.ctx m.joined.known.ctx m.joined.assumes in
        let here : target_vars ≡ m.joined.known.ctx.vars = ap (λ (q : Joint × State). q.1.ctx.vars) (sym m.joined.is) in
        let others : length p.0.others ≡ length m.joined.kept.others = ap (λ (q : Joint × State). length q.0.others) (sym m.joined.is) in
        let many = many_found in
        let more = w.valued.many in
        let both = length-append w.found.values w.valued.more in
        omega (arith, fresh, kept, here, others, many, more, both))

    -- a listed value: its variable, and its form over what is there
    abbrev IsListed : ℕ × Linear → Type 0
    IsListed v = (site.own.vars ≤ v.0) × (v.0 < target_vars) × NamesBelow s.ctx.vars v.1

    listed_from : (low : ℕ) (vs : List (ℕ × Linear)) → site.own.vars ≤ low → low + length vs ≤ target_vars → Counted low vs → All (λ v. NamesBelow s.ctx.vars v.1) vs → All IsListed vs
    listed_from low [] le lt counted all = All-nil IsListed
    listed_from low (v ∷ vs) le lt counted all =
        (let key = counted.0 in
        let F : ℕ × Linear → Type 0 = λ v. NamesBelow s.ctx.vars v.1 in
        All-cons IsListed v vs (omega (arith, le, key), omega (arith, lt, key), All-head F v vs all)
        (listed_from (suc low) vs (omega (arith, le)) (omega (arith, lt)) counted.1 (All-tail F v vs all)))

    actual_named : (wanted : List (ℕ × Ty)) (actual : List Ty) → AllZip (λ (e : ℕ × Ty) t. type_at e.0 from.places ≡ Some t) wanted actual
        → AllByRecursion (TypeBelow from.ctx.vars) actual
    actual_named [] [] all = tt
    actual_named [] (t ∷ ts) all = absurd all
    actual_named (e ∷ es) [] all = absurd all
    actual_named (e ∷ es) (t ∷ ts) all = (c.names e.0 t all.0, actual_named es ts all.1)

    index_named : (t : Ty) (f : Linear) → TypeBelow from.ctx.vars t → index_of t ≡ Some f → NamesBelow from.ctx.vars f
    index_named (ty.Int e) f named h = subst (NamesBelow from.ctx.vars) (same_Some e f h) named
    index_named ty.Bool f named h = absurd (let bad : ⊥ = cc in bad)
    index_named (ty.Array q e) f named h = subst (NamesBelow from.ctx.vars) (same_Some e f h) named
    index_named (ty.Named q) f named h = absurd (let bad : ⊥ = cc in bad)

    others_named : (xs : List ℕ) (vs : List (ℕ × Linear)) → AllZip (λ y (v : ℕ × Linear). HasIndex from.places y v.1) xs vs → All (λ (v : ℕ × Linear). NamesBelow from.ctx.vars v.1) vs
    others_named [] [] all = All-nil (λ (v : ℕ × Linear). NamesBelow from.ctx.vars v.1)
    others_named [] (v ∷ vs) all = absurd all
    others_named (x ∷ xs) [] all = absurd all
    others_named (x ∷ xs) (v ∷ vs) all =
        All-cons (λ (v : ℕ × Linear). NamesBelow from.ctx.vars v.1) v vs (index_named all.0.type v.1 (c.names x all.0.type all.0.there) all.0.is) (others_named xs vs all.1)

    all_both : (xs ys : List (ℕ × Linear)) (P : ℕ × Linear → Type 0) → All P xs → All P ys → All P (xs ++ ys)
    all_both [] ys P one two = two
    all_both (x ∷ xs) ys P one two = All-cons P x (xs ++ ys) (All-head P x xs one) (all_both xs ys P (All-tail P x xs one) two)

    values_named : All (λ (v : ℕ × Linear). NamesBelow s.ctx.vars v.1) both_values
    values_named =
        subst (λ (x : IndexContext). All (λ (v : ℕ × Linear). NamesBelow x.vars v.1) both_values) (sym ctx_is)
        (all_both w.found.values w.valued.more (λ v. NamesBelow from.ctx.vars v.1)
        (w.matches.below from.ctx.vars (actual_named p.0.wanted w.actual w.presents)) (others_named p.0.others w.valued.more w.valued.each))

    -- ---- the jump

    first_of : (vs : List (ℕ × Linear)) → Counted first vs → target_vars ≡ first + length vs → first_own vs target_vars ≡ first
    first_of [] counted many = omega (arith, many)
    first_of (v ∷ vs) counted many = counted.0

    pub jump_reaches : (proofs : Proofs) → ProveAll proofs.goals proofs.lines → Continues more.goals proofs.goals → (columns : List (List Truth)) (label : ℕ)
        → ((x : ℕ) (t : Ty) → live_mark columns label x ≡ true → type_at x from.places ≡ Some t → type_at x s.places ≡ Some t)
        → Reaches site.own s (label_state columns label (point p.1))
        (way_edge proofs clause.vars (Some (label_state columns label (point p.1))) (way w.values w.actual (all_asked site at from.ctx w.found.rows (none_asked st)).numbers))
    jump_reaches proofs all goals columns label agree =
        let target = label_state columns label (point p.1) in
        let made = all_asked site at from.ctx w.found.rows (none_asked st) in
        let asked_goals : Continues made.goals proofs.goals = subst (λ (x : State). Continues x.goals proofs.goals) w.is goals in
        let are : AreAsked proofs s.ctx w.found.rows made.numbers = subst (λ x. AreAsked proofs x w.found.rows made.numbers) (sym ctx_is)
        (are_asked proofs from.ctx all site at w.found.rows st.goals asked_goals) in
        let places = live_all columns label (λ e. Met e.0 e.1) p.1.types (λ e a live.
        (let here = found_among 0 p.1.types e.0 e.1 m.rise a in
        let k = c.kinds e.0 e.1 here in
        entry_met e.0 e.1 k.0 k.2 (agree e.0 k.0 live k.1) k.1 (entry_of p m.joined e.0 e.1 here))) in
        let rows = each_row p.1.ctx.rows (λ r a. row_met r (row_of p m.joined r w.bounded a)) in
        let met = label_met proofs w.found.rows made.numbers s are both_values first clause.vars w.actual target
        (subst (λ es. AllByRecursion (λ (e : ℕ × Ty). Met e.0 e.1) es) (sym (live_places_are columns label p.1.types)) places) rows in
        let own = m.own in
        let older = m.older in
        let vars = vars_are in
        let rises = counted_test 0 first both_values (omega arith) counted_all in
        let by = all_by proofs clause.vars (way both_values w.actual made.numbers) first target in
        let done : Reaches site.own s target (record { values = both_values; by = by }) = record {
          rise = counted_rise 0 first both_values (omega arith) counted_all;
          listed = listed_from first both_values (omega (arith, own, older)) (omega (arith, vars)) counted_all values_named;
          demands = met.demands;
          demanded = met.are_demanded;
          proved = met.proved;
        } in
        subst (λ vs. Reaches site.own s target (way_edge proofs clause.vars (Some target) (way vs w.actual made.numbers))) (sym w.valued.is)
        (subst (λ b. Reaches site.own s target (rising_edge b proofs clause.vars target (way both_values w.actual made.numbers))) (sym rises)
        (subst (λ n. Reaches site.own s target (record { values = both_values; by = all_by proofs clause.vars (way both_values w.actual made.numbers) n target }))
        (sym (first_of both_values counted_all vars_are)) done))
      where
        each_row : (rs : List Linear) → ((r : Linear) → Among rs r → OwnMet s.ctx w.found.rows both_values first r) → AllByRecursion (OwnMet s.ctx w.found.rows both_values first) rs
        each_row [] each = tt
        each_row (r ∷ rs) each = (each r (inl refl), each_row rs (λ x a. each x (inr a)))
