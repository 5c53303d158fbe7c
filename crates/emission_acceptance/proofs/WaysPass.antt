-- A way to a label that is typed passes: the text's label demands the same rows, each with its lines.
use Rattle.std.proofs.Common.{◌≡◌, ℕ, ◌<◌, ◌≤◌, Bool as Truth, true, List, [], ◌∷◌, ◌++◌, map, None, Ok, nat_le, nat_lt, refl, sym, ap, ◌∙◌, arith, append-nil}
use Rattle.std.specs.List.{All, list_all}
use Rattle.std.proofs.lemmas.Bool.{and_from}
use Rattle.std.proofs.lemmas.Bool.Decides.{nat_tests}
use Rattle.std.proofs.lemmas.List.Elements.{All-head, All-tail}
use Rattle.index_sorts.specs.Context.{IndexContext}
use Rattle.xan_lin.specs.Linear.{Linear, NamesBelow}
use Rattle.xan_lin.specs.declared.term.Term.{Term}
use Rattle.state_types.specs.Answers.{◌>>=◌}
use Rattle.state_types.specs.Matching.{pairs_at, own_rows, demanded}
use Rattle.state_types.specs.declared.state.StateType.{StateType}
use Rattle.state_types.specs.declared.types.Ty.{Ty}
use Rattle.state_types.proofs.MatchPairs.{paired}
use Rattle.state_types.proofs.Thens.{then_ok, ok_same}
use Rattle.operation_rules.specs.Faults.{of_match}
use Rattle.operation_rules.specs.Rules.{Setting}
use Rattle.three_address.specs.Demands.{demands_of, places_demands, label_demands}
use Rattle.three_address.specs.Typing.{Reaches}
use Rattle.three_address.specs.declared.typed.Edge.{Edge}
use Rattle.three_address.specs.declared.typed.ProvedRow.{ProvedRow}
use Rattle.dtal_code.specs.Declarations.{form_is_below, state_of}
use Rattle.dtal_code.specs.Passing.{unknown, are_proved, is_listed, value_is_below, edge_verdict}
use Rattle.dtal_code.specs.Verdicts.{asks, by_rule}
use Rattle.dtal_code.specs.declared.refusal.Rule.TheVariants as rule
use Rattle.dtal_emit.specs.Emitted.{rank, ordered_from, ordered, at_homes}
use Rattle.dtal_emit.specs.Homes.{home_of}
use Rattle.emission_laws.specs.ApartHomes.{IsHome}
use Rattle.emission_laws.specs.EmittedRanges.{Each}
use Rattle.emission_acceptance.specs.LabelsApart.{HomesDiffer}
use Rattle.emission_acceptance.specs.TypesThrough.{AreTyped, EdgePasses}
use Rattle.emission_acceptance.proofs.GroupedDemands.{Group, IsGroup, entries, ranks_of, lines_of, rows_of, as_many_lines, ranks_each, pairs_are, demanded_are, unknown_append, proved_append, groups_proved}
use Rattle.emission_acceptance.proofs.LinesInOrder.{ordered_run}
use Rattle.emission_acceptance.proofs.PlacesDemanded.{Fresh, grouped, proved_split, proved_rows}

-- ---- tests of what holds

pub tested_all : {A : Type 0} (P : A → Type 0) (p : A → Truth) → ((x : A) → P x → p x ≡ true) → (xs : List A) → All P xs → list_all p xs ≡ true
tested_all P p f [] all = refl
tested_all P p f (x ∷ xs) all = and_from _ _ (f x (All-head P x xs all)) (tested_all P p f xs (All-tail P x xs all))

below_test : (m n : ℕ) → m < n → nat_lt m n ≡ true
below_test m n h = grind (arith, nat_tests)

upto_test : (m n : ℕ) → m ≤ n → nat_le m n ≡ true
upto_test m n h = grind (arith, nat_tests)

pub form_below : (vars : ℕ) (form : Linear) → NamesBelow vars form → form_is_below vars form ≡ true
form_below vars form named = tested_all (λ (t : Term). t.var < vars) (λ (t : Term). nat_lt t.var vars) (λ t h. below_test t.var vars h) form.terms named

-- ---- the rows of the label, behind those of its places

module _ (homes : List ℕ) (homes_are : (place : ℕ) → IsHome (home_of homes place)) where
  last_ranks : (bys : List ProvedRow) → Each (λ (by : ProvedRow). by.place ≡ None) bys → Each (λ (by : ProvedRow). rank homes by.place ≡ 256) bys
  last_ranks [] e = tt
  last_ranks (by ∷ bys) e = (ap (rank homes) e.0, last_ranks bys e.1)

  upto_last : (gs : List Group) → Each (λ (g : Group). g.key < 256) gs → Each (λ (g : Group). g.key ≤ 256) gs
  upto_last [] e = tt
  upto_last (g ∷ gs) e = (omega (arith, e.0), upto_last gs e.1)

  rows_last : (gs : List Group) (bys : List ProvedRow) → Each (λ (g : Group). g.key < 256) gs → Each (λ (by : ProvedRow). by.place ≡ None) bys
      → ordered_from homes bys (ranks_of gs) (lines_of gs) ≡ lines_of gs ++ map (λ (by : ProvedRow). by.lines) bys
  unfolding ordered_from
  rows_last gs bys within none =
      ap (λ l. ordered_from homes l (ranks_of gs) (lines_of gs)) (sym (append-nil bys))
      ∙ ap (λ rs. ordered_from homes (bys ++ []) rs (lines_of gs)) (sym (append-nil (ranks_of gs)))
      ∙ ap (λ ls. ordered_from homes (bys ++ []) (ranks_of gs ++ []) ls) (sym (append-nil (lines_of gs)))
      ∙ ordered_run homes 256 [] [] tt bys [] (ranks_of gs) (lines_of gs) (last_ranks bys none) (ranks_each (λ r. r ≤ 256) gs (upto_last gs within)) (as_many_lines gs)
      ∙ append-nil (lines_of gs ++ map (λ (by : ProvedRow). by.lines) bys)

  -- ---- the whole way

  module _ (st : Setting) where
    verdict_is : (ctx taken : IndexContext) (low : StateType) (texts : List (ℕ × Ty)) (edge : Edge) (groups : List Group) (own : List Linear) → ctx.vars ≡ taken.vars
        → at_homes homes low.places [] ≡ entries groups → Each (IsGroup edge.values taken.vars texts taken) groups
        → All (λ v. (st.own.vars ≤ v.0) × (v.0 < low.ctx.vars) × NamesBelow taken.vars v.1) edge.values → own_rows edge.values taken.vars low.ctx.rows [] ≡ Ok own
        → edge_verdict st (state_of ctx texts) (state_of low.ctx (at_homes homes low.places [])) edge.values ≡ Ok (rows_of groups ++ own)
    unfolding edge_verdict
    verdict_is ctx taken low texts edge groups own same written all listed owns =
        let values = edge.values in
        let P : ℕ × Linear → Type 0 = λ v. (st.own.vars ≤ v.0) × (v.0 < low.ctx.vars) × NamesBelow taken.vars v.1 in
        let is_among : list_all (is_listed st.own.vars low.ctx.vars) values ≡ true =
        tested_all P (is_listed st.own.vars low.ctx.vars) (λ v h. and_from _ _ (upto_test st.own.vars v.0 h.0) (below_test v.0 low.ctx.vars h.1)) values listed in
        let is_below : list_all (value_is_below ctx.vars) values ≡ true =
        tested_all P (value_is_below ctx.vars) (λ v h. ap (λ n. form_is_below n v.1) same ∙ form_below taken.vars v.1 h.2) values listed in
        ap (λ l. by_rule (of_match (pairs_at texts l [])) >>= (λ pairs. asks (list_all (is_listed st.own.vars low.ctx.vars) values) rule.Edge
        >>= (λ _. asks (list_all (value_is_below ctx.vars) values) rule.Form >>= (λ _. by_rule (of_match (demanded values ctx.vars pairs low.ctx.rows)))))) written
        ∙ ap (λ m. by_rule (of_match m) >>= (λ pairs. asks (list_all (is_listed st.own.vars low.ctx.vars) values) rule.Edge
        >>= (λ _. asks (list_all (value_is_below ctx.vars) values) rule.Form >>= (λ _. by_rule (of_match (demanded values ctx.vars pairs low.ctx.rows))))))
        (pairs_are values taken.vars texts taken groups all)
        ∙ ap (λ t. asks t rule.Edge >>= (λ _. asks (list_all (value_is_below ctx.vars) values) rule.Form
        >>= (λ _. by_rule (of_match (demanded values ctx.vars (map (λ (g : Group). paired g.ty g.now) groups) low.ctx.rows))))) is_among
        ∙ ap (λ t. asks t rule.Form >>= (λ _. by_rule (of_match (demanded values ctx.vars (map (λ (g : Group). paired g.ty g.now) groups) low.ctx.rows)))) is_below
        ∙ ap (λ n. by_rule (of_match (demanded values n (map (λ (g : Group). paired g.ty g.now) groups) low.ctx.rows))) same
        ∙ ap (λ m. by_rule (of_match m)) (demanded_are values taken.vars texts taken groups low.ctx.rows own all owns)

    pub edge_passes : (kept : ℕ → Type 0) (low : StateType) (places texts : List (ℕ × Ty)) (ctx taken : IndexContext) (edge : Edge) → Each (λ (p : ℕ × Ty). kept p.0) low.places
        → HomesDiffer homes low.places → ctx.vars ≡ taken.vars → AreTyped homes kept places texts → Reaches st.own (state_of taken places) low edge
        → EdgePasses st homes (state_of ctx texts) (state_of low.ctx (at_homes homes low.places [])) taken edge
    unfolding label_demands
    edge_passes kept low places texts ctx taken edge keeps differ same typed reaches =
        let values = edge.values in
        let one = then_ok (places_demands (state_of taken places) values low.places) (λ ps. own_rows values taken.vars low.ctx.rows [] >>= (λ rows. Ok (ps ++ demands_of None rows)))
        reaches.demands reaches.demanded in
        let two = then_ok (own_rows values taken.vars low.ctx.rows []) (λ rows. Ok (one.value ++ demands_of None rows)) reaches.demands one.second in
        let parts = proved_split taken reaches.demands edge.by reaches.proved one.value (demands_of None two.value) (ok_same _ _ two.second) in
        let g = grouped homes values taken kept places texts typed (λ place. (homes_are place).within) low.places [] one.value parts.front tt tt tt (fresh low.places) differ keeps
        one.first parts.first in
        let last = proved_rows taken (demands_of None two.value) parts.rest parts.second None two.value refl in
        let by_is : ordered homes edge.by ≡ lines_of g.groups ++ map (λ (by : ProvedRow). by.lines) parts.rest =
        ap (ordered homes) (sym parts.is) ∙ g.in_order parts.rest ∙ rows_last g.groups parts.rest g.within last.places in
        record {
          demands = rows_of g.groups ++ two.value;
          is = verdict_is ctx taken low texts edge g.groups two.value same g.written g.all reaches.listed two.first;
          proved = ap (λ t. asks t rule.Lines)
              (ap (λ l. are_proved taken (unknown taken (rows_of g.groups ++ two.value)) l) by_is
              ∙ ap (λ l. are_proved taken l (lines_of g.groups ++ map (λ (by : ProvedRow). by.lines) parts.rest)) (unknown_append taken (rows_of g.groups) two.value)
              ∙ proved_append taken (unknown taken (rows_of g.groups)) (unknown taken two.value) (lines_of g.groups) (map (λ (by : ProvedRow). by.lines) parts.rest)
              (groups_proved values taken.vars texts taken g.groups g.all) last.proved);
        }
      where
        fresh : (wanted : List (ℕ × Ty)) → Fresh homes wanted []
        fresh [] = tt
        fresh (x ∷ wanted) = (tt, fresh wanted)
