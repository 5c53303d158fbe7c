-- A way that elaboration made into a join is one that typing over places allows: what the label demands is known there, or proved by the lines
-- that stand with the jump.
use Rattle.std.proofs.Common.{◌≡◌, ◌∙◌, ℕ, ◌+◌, ◌<◌, ◌≤◌, cond, List, [], ◌∷◌, ◌++◌, length, true, ◌⊎◌, inl, inr, Option, Some, None, Ok, Err, refl, sym, ap, subst, arith, append_assoc, append-nil}
use Rattle.std.specs.List.{All, AllByRecursion}
use Rattle.std.proofs.lemmas.List.Elements.{All-nil, All-cons, All-head, All-tail}
use Rattle.index_sorts.specs.Context.{IndexContext}
use Rattle.xan_lin.specs.Linear.{Linear, IsForm, NamesBelow}
use Rattle.xan_lin.specs.Subst.{replacement, subst_of}
use Rattle.xan_lin.specs.declared.term.Term.{Term}
use Rattle.xan_lin.proofs.EqualForms.{Decides-same_form}
use Rattle.state_types.specs.Answers.{Check, ◌>>=◌, within_bounds}
use Rattle.state_types.specs.Matching.{pair_of, pair_found, pair_at, both_differences, differences, index_rows, own_rows}
use Rattle.state_types.specs.PlaceTypes.{type_at}
use Rattle.state_types.specs.Types.{index_of, same_kind}
use Rattle.state_types.specs.declared.error.StateError.TheVariants.{Kind}
use Rattle.state_types.specs.declared.state.StateType.{StateType}
use Rattle.state_types.proofs.MatchPairs.{paired}
use Rattle.state_types.specs.declared.types.Ty.{Ty}
use Rattle.state_types.specs.declared.types.Ty.TheVariants as ty
use Rattle.three_address.specs.Demands.{Demand, demands_of, place_demands, places_demands, label_demands, AreProved, AllProved}
use Rattle.three_address.specs.declared.typed.ProvedRow.{ProvedRow}
use Rattle.xanadu_tree.specs.declared.types.CoreTy.{CoreTy}
use Rattle.type_carrier.specs.ProvedRows.{Proofs, Way, way, rows_among, row_among}
use Rattle.type_carrier.specs.Ways.{present_at, place_rows, places_by, row_by, rows_by, all_by}
use Rattle.carrier_laws.proofs.FormsKept.{StandsAlike, subst_alike, StaysItself, subst_kept}
use Rattle.carrier_laws.proofs.CountedValues.{Counted, not_listed, is_listed, listed_front, listed_stands, own_stands}
use Rattle.carrier_laws.proofs.WayRows.{AreAsked, Sought, rows_proved, row_proved, proved_on}

-- the index of a type is a form
abbrev pub IsTypeForm : Ty → Type 0
IsTypeForm (ty.Int e) = IsForm e
IsTypeForm ty.Bool = Unit {0}
IsTypeForm (ty.Array element e) = IsForm e
IsTypeForm (ty.Named number) = Unit {0}

-- ---- which variables a form names

-- a variable from before, or one of those of the clause
abbrev pub IsIn : (low first count : ℕ) → ℕ → Type 0
IsIn low first count v = (v < low) ⊎ ((first ≤ v) × (v < first + count))

abbrev pub FormIn : (low first count : ℕ) → Linear → Type 0
FormIn low first count form = All (λ t. IsIn low first count t.var) form.terms

abbrev pub TypeIn : (low first count : ℕ) → Ty → Type 0
TypeIn low first count (ty.Int e) = FormIn low first count e
TypeIn low first count ty.Bool = Unit {0}
TypeIn low first count (ty.Array element e) = FormIn low first count e
TypeIn low first count (ty.Named number) = Unit {0}

-- ---- values of a way, and what stands for variables

module _ (low first count below : ℕ) (found more : List (ℕ × Linear)) (counted : Counted first found) (many : length found ≡ count) (all_counted : Counted first (found ++ more))
    (least : low ≤ below) (older : low ≤ first) where
  abbrev values : List (ℕ × Linear)
  values = found ++ more

  -- a listed variable has the same value in both
  listed_alike : (v : ℕ) → first ≤ v → v < first + count → replacement values below v ≡ replacement found first v
  listed_alike v le lt =
      let it = is_listed first found v counted le (omega (arith, lt, many)) in
      listed_stands values below v it.form (listed_front v found more it.form it.there) ∙ sym (listed_stands found first v it.form it.there)

  own_alike : (v : ℕ) → v < low → replacement values below v ≡ replacement found first v
  own_alike v lt =
      own_stands values below v (not_listed first values v all_counted (omega (arith, lt, older))) (omega (arith, lt, least))
      ∙ sym (own_stands found first v (not_listed first found v counted (omega (arith, lt, older))) (omega (arith, lt, older)))

  var_alike : (v : ℕ) → IsIn low first count v → replacement values below v ≡ replacement found first v
  var_alike v (inl lt) = own_alike v lt
  var_alike v (inr h) = listed_alike v h.0 h.1

  terms_in : (ts : List Term) → All (λ t. IsIn low first count t.var) ts → All (StandsAlike values found below first) ts
  terms_in [] all = All-nil (StandsAlike values found below first)
  terms_in (t ∷ ts) all =
      All-cons (StandsAlike values found below first) t ts (var_alike t.var (All-head (λ (t : Term). IsIn low first count t.var) t ts all))
      (terms_in ts (All-tail (λ (t : Term). IsIn low first count t.var) t ts all))

  pub form_met : (e : Linear) → FormIn low first count e → subst_of values below e ≡ subst_of found first e
  form_met e all = subst_alike values found below first e (terms_in e.terms all)

  pub rows_alike : (wanted : Ty) (present : Option Linear) → TypeIn low first count wanted
      → index_rows values below (index_of wanted) present [] ≡ index_rows found first (index_of wanted) present []
  unfolding index_rows
  rows_alike (ty.Int e) None all = refl
  rows_alike (ty.Int e) (Some f) all = ap (λ m. within_bounds m >>= (λ given. differences given f [])) (form_met e all)
  rows_alike ty.Bool present all = refl
  rows_alike (ty.Array element e) None all = refl
  rows_alike (ty.Array element e) (Some f) all = ap (λ m. within_bounds m >>= (λ given. differences given f [])) (form_met e all)
  rows_alike (ty.Named number) present all = refl

  -- a variable from before stays itself
  terms_before : (ts : List Term) → All (λ t. t.var < low) ts → All (StaysItself values below) ts
  terms_before [] all = All-nil (StaysItself values below)
  terms_before (t ∷ ts) all =
      (let lt = All-head (λ (t : Term). t.var < low) t ts all in
      All-cons (StaysItself values below) t ts (own_stands values below t.var (not_listed first values t.var all_counted (omega (arith, lt, older))) (omega (arith, lt, least)))
      (terms_before ts (All-tail (λ (t : Term). t.var < low) t ts all)))

  pub form_before : (e : Linear) → IsForm e → NamesBelow low e → subst_of values below e ≡ Ok e
  form_before e is named = subst_kept values below e is (terms_before e.terms named)

-- ---- no rows where the index is the present one

no_difference : (e : Linear) → differences e e [] ≡ Ok []
unfolding differences
no_difference e = ap (λ b. cond b (let r : Check (List Linear) = Ok [] in r) (both_differences e e [])) ((Decides-same_form e e).1 refl)

pub same_index : (vs : List (ℕ × Linear)) (below : ℕ) (wanted present : Linear) → subst_of vs below wanted ≡ Ok present
    → index_rows vs below (Some wanted) (Some present) [] ≡ Ok []
unfolding index_rows
same_index vs below wanted present e = ap (λ m. within_bounds m >>= (λ given. differences given present [])) e ∙ no_difference present

-- ---- what is met of each place and row

-- the demanded rows of a place, as they are made from both sides
pub record PlaceMet (ctx : IndexContext) (asked : List Linear) (values : List (ℕ × Linear)) (first : ℕ) (places : List (ℕ × Ty)) (vars : List (ℕ × CoreTy)) (actual : List Ty)
    (wanted : ℕ × Ty) : Type 0 where
  pub present : Ty
  pub there : type_at wanted.0 places ≡ Some present
  pub alike : same_kind wanted.1 present ≡ true
  pub rows : List Linear
  pub is : index_rows values ctx.vars (index_of wanted.1) (index_of present) [] ≡ Ok rows
  pub carried : place_rows values first wanted.1 (present_at vars actual wanted.0) ≡ rows
  pub sought : (proofs : Proofs) → AllByRecursion (Sought proofs ctx asked) rows

pub record OwnMet (ctx : IndexContext) (asked : List Linear) (values : List (ℕ × Linear)) (first : ℕ) (row : Linear) : Type 0 where
  pub given : Linear
  pub is : subst_of values ctx.vars row ≡ Ok given
  pub carried : subst_of values first row ≡ Ok given
  pub sought : (proofs : Proofs) → Sought proofs ctx asked given

module _ (proofs : Proofs) (asked : List Linear) (numbers : List ℕ) (s : StateType) (are : AreAsked proofs s.ctx asked numbers) (values : List (ℕ × Linear)) (first : ℕ)
    (vars : List (ℕ × CoreTy)) (actual : List Ty) where
  abbrev the_way : Way
  the_way = way values actual numbers

  abbrev Met : ℕ × Ty → Type 0
  Met wanted = PlaceMet s.ctx asked values first s.places vars actual wanted

  abbrev RowIsMet : Linear → Type 0
  RowIsMet row = OwnMet s.ctx asked values first row

  one_place : (wanted : ℕ × Ty) (m : Met wanted) → place_demands s values wanted ≡ Ok (demands_of (Some wanted.0) m.rows)
  unfolding place_demands pair_at pair_of
  one_place wanted m =
      ap (λ o. pair_found wanted o >>= (λ pair. index_rows values s.ctx.vars (index_of pair.wanted) (index_of pair.present) []
      >>= (λ rows. let r : Check (List Demand) = Ok (demands_of (Some wanted.0) rows) in r))) m.there
      ∙ ap (λ b. cond b (let r : Check _ = Ok (paired wanted.1 m.present) in r) (Err (Kind wanted.0))
      >>= (λ pair. index_rows values s.ctx.vars (index_of pair.wanted) (index_of pair.present) []
      >>= (λ rows. let r : Check (List Demand) = Ok (demands_of (Some wanted.0) rows) in r))) m.alike
      ∙ ap (λ n. n >>= (λ rows. let r : Check (List Demand) = Ok (demands_of (Some wanted.0) rows) in r)) m.is

  record PlacesMet (wanted : List (ℕ × Ty)) (made : List ProvedRow) : Type 0 where
    demands : List Demand
    are_demanded : places_demands s values wanted ≡ Ok demands
    bys : List ProvedRow
    behind : places_by proofs vars the_way first wanted made ≡ made ++ bys
    proved : AreProved s.ctx demands bys

  places_met : (wanted : List (ℕ × Ty)) (made : List ProvedRow) → AllByRecursion Met wanted → PlacesMet wanted made
  unfolding places_demands places_by
  places_met [] made all = record { demands = []; are_demanded = refl; bys = []; behind = sym (append-nil made); proved = AllProved }
  places_met (w ∷ ws) made all =
      let m = all.0 in
      let rows = place_rows values first w.1 (present_at vars actual w.0) in
      let one = rows_proved proofs s.ctx asked numbers are (Some w.0) m.rows made (m.sought proofs) in
      let next = rows_among proofs numbers (Some w.0) rows made in
      let here : next ≡ made ++ one.bys = ap (λ rs. rows_among proofs numbers (Some w.0) rs made) m.carried ∙ one.are_behind in
      let later = places_met ws next all.1 in
      record {
        demands = demands_of (Some w.0) m.rows ++ later.demands;
        are_demanded = ap (λ n. n >>= (λ f. places_demands s values ws >>= (λ others. let r : Check (List Demand) = Ok (f ++ others) in r))) (one_place w m)
            ∙ ap (λ n. n >>= (λ others. let r : Check (List Demand) = Ok (demands_of (Some w.0) m.rows ++ others) in r)) later.are_demanded;
        bys = one.bys ++ later.bys;
        behind = later.behind ∙ ap (λ xs. xs ++ later.bys) here ∙ append_assoc made one.bys later.bys;
        proved = proved_on s.ctx (demands_of (Some w.0) m.rows) later.demands one.bys later.bys one.proved later.proved;
      }

  record RowsMet (rows : List Linear) (made : List Linear) (bys_made : List ProvedRow) : Type 0 where
    given : List Linear
    are_demanded : own_rows values s.ctx.vars rows made ≡ Ok (made ++ given)
    bys : List ProvedRow
    behind : rows_by proofs the_way first rows bys_made ≡ bys_made ++ bys
    proved : AreProved s.ctx (demands_of None given) bys

  rows_met : (rows made : List Linear) (bys_made : List ProvedRow) → AllByRecursion RowIsMet rows → RowsMet rows made bys_made
  unfolding own_rows rows_by
  rows_met [] made bys_made all =
      record { given = []; are_demanded = ap (λ l. let r : Check (List Linear) = Ok l in r) (sym (append-nil made)); bys = []; behind = sym (append-nil bys_made); proved = AllProved }
  rows_met (row ∷ rows) made bys_made all =
      let m = all.0 in
      let one = row_among proofs numbers None m.given in
      let is_one : row_by proofs numbers (subst_of values first row) ≡ one = ap (λ r. row_by proofs numbers r) m.carried in
      let later = rows_met rows (made ++ m.given ∷ []) (bys_made ++ row_by proofs numbers (subst_of values first row)) all.1 in
      record {
        given = m.given ∷ later.given;
        are_demanded = ap (λ n. within_bounds n >>= (λ g. own_rows values s.ctx.vars rows (made ++ g ∷ []))) m.is
            ∙ later.are_demanded ∙ ap (λ l. let r : Check (List Linear) = Ok l in r) (append_assoc made (m.given ∷ []) later.given);
        bys = one ++ later.bys;
        behind = later.behind ∙ ap (λ b. (bys_made ++ b) ++ later.bys) is_one ∙ append_assoc bys_made one later.bys;
        proved = proved_on s.ctx (record { place = None; row = m.given } ∷ []) (demands_of None later.given) one later.bys
            (row_proved proofs s.ctx asked numbers are None m.given (m.sought proofs)) later.proved;
      }

  -- all that a label demands
  pub record LabelMet (target : StateType) : Type 0 where
    pub demands : List Demand
    pub are_demanded : label_demands s target values ≡ Ok demands
    pub proved : AreProved s.ctx demands (all_by proofs vars the_way first target)

  pub label_met : (target : StateType) → AllByRecursion Met target.places → AllByRecursion RowIsMet target.ctx.rows → LabelMet target
  unfolding label_demands
  label_met target places rows =
      let p = places_met target.places [] places in
      let r = rows_met target.ctx.rows [] (places_by proofs vars the_way first target.places []) rows in
      record {
        demands = p.demands ++ demands_of None r.given;
        are_demanded = ap (λ n. n >>= (λ ps. own_rows values s.ctx.vars target.ctx.rows [] >>= (λ rs. let q : Check (List Demand) = Ok (ps ++ demands_of None rs) in q))) p.are_demanded
            ∙ ap (λ n. n >>= (λ rs. let q : Check (List Demand) = Ok (p.demands ++ demands_of None rs) in q)) r.are_demanded;
        proved = subst (λ bys. AreProved s.ctx (p.demands ++ demands_of None r.given) bys) (sym (r.behind ∙ ap (λ b. b ++ r.bys) p.behind))
            (proved_on s.ctx p.demands (demands_of None r.given) p.bys r.bys p.proved r.proved);
      }
