-- What is carried from notes that have texts has texts: the values and the lines of each edge, and the state of each label.
use Rattle.std.proofs.Common.{◌≡◌, ℕ, ◌<◌, ◌≤◌, Bool as Truth, true, false, List, [], ◌∷◌, ◌++◌, length, slice_get, inl, inr, Option, Some, None, Result, Ok, Err, refl, sym, subst}
use Rattle.std.specs.List.{All, AllByRecursion}
use Rattle.std.proofs.lemmas.List.Elements.{All-head, All-tail}
use Rattle.std.proofs.lemmas.Option.{slice_get_within}
use Rattle.xan_lin.specs.Linear.{Linear}
use Rattle.xan_lin.specs.Subst.{subst_of}
use Rattle.xan_lin.specs.declared.term.TooLarge.{TooLarge}
use Rattle.proof_lines.specs.declared.line.Line.{Line}
use Rattle.state_types.specs.PlaceTypes.{PlacesRise}
use Rattle.state_types.specs.Types.{TypeBelow}
use Rattle.state_types.specs.declared.closed.Packed.{Packed}
use Rattle.state_types.specs.declared.state.StateType.{StateType}
use Rattle.state_types.specs.declared.types.Ty.{Ty}
use Rattle.three_address.specs.LiveLabels.{column_mark}
use Rattle.three_address.specs.declared.typed.Edge.{Edge}
use Rattle.three_address.specs.declared.typed.ProvedRow.{ProvedRow}
use Rattle.typed_core.specs.Strays.{values_rise}
use Rattle.typed_core.specs.declared.goal.GoalAt.{GoalAt}
use Rattle.typed_core.specs.declared.note.Note.{Note}
use Rattle.typed_core.specs.declared.note.Note.TheVariants as note
use Rattle.typed_core.proofs.GrownContexts.{RowsBelow}
use Rattle.xanadu_tree.specs.declared.types.CoreTy.{CoreTy}
use Rattle.xanadu_tree.specs.Plain as core
use Rattle.type_carrier.specs.Carried.{Columns, function, body_begins}
use Rattle.type_carrier.specs.CarriedTests.{Sources}
use Rattle.type_carrier.specs.ProvedRows.{Proofs, Way, row_with, row_at, rows_onto, is_row, first_or, row_among, rows_among, plain, demand_edge, way_in}
use Rattle.type_carrier.specs.Ways.{label_state, first_own, place_rows, present_at, places_by, row_by, rows_by, all_by, rising_edge, way_edge}
use Rattle.dtal_code.specs.Grammar.{AreLinesIn}
use Rattle.carrier_laws.proofs.LivePlaces.{live_places_are, live_all, live_rise}
use Rattle.carrier_laws.proofs.RowsStand.{AreSound}
use Rattle.carrier_laws.proofs.RulesKept.{IsGood}
use Rattle.carrier_laws.proofs.WayRows.{Among}
use Rattle.carried_acceptance.proofs.CarriedKept.{all_on, block_kept}
use Rattle.carried_acceptance.proofs.TextedNotes.{IsTextedNote}
use Rattle.carried_acceptance.proofs.TextedStates.{IsTexted, IsValueIn}

-- ---- edges

abbrev pub IsProvedIn : ProvedRow → Type 0
IsProvedIn b = AreLinesIn b.lines

pub record IsTextedEdge (edge : Edge) : Type 0 where
  pub values : AllByRecursion IsValueIn edge.values
  pub by : AllByRecursion IsProvedIn edge.by

plain_texted : IsTextedEdge plain
plain_texted = record { values = tt; by = tt }

module _ (proofs : Proofs) (lines_are : (number : ℕ) (lines : List Line) → slice_get proofs.lines number ≡ Some lines → AreLinesIn lines) where
  abbrev AreProvedIn : List ProvedRow → Type 0
  AreProvedIn bys = AllByRecursion IsProvedIn bys

  row_in : (place : Option ℕ) (goal : Option GoalAt) (lines : Option (List Line)) → ((given : List Line) → lines ≡ Some given → AreLinesIn given) → AreProvedIn (row_with place goal lines)
  row_in place None lines are = tt
  row_in place (Some goal) None are = tt
  row_in place (Some goal) (Some lines) are = (are lines refl, tt)

  at_in : (place : Option ℕ) (number : ℕ) → AreProvedIn (row_at proofs place number)
  at_in place number = row_in place (slice_get proofs.goals number) (slice_get proofs.lines number) (λ given e. lines_are number given e)

  onto_in : (numbers : List ℕ) (made : List ProvedRow) → AreProvedIn made → AreProvedIn (rows_onto proofs numbers made)
  unfolding rows_onto
  onto_in [] made all = all
  onto_in (number ∷ numbers) made all = onto_in numbers (made ++ row_at proofs None number) (all_on IsProvedIn made (row_at proofs None number) all (at_in None number))

  first_in : (b : Truth) (found later : List ProvedRow) → AreProvedIn found → AreProvedIn later → AreProvedIn (first_or b found later)
  first_in true found later a z = a
  first_in false found later a z = z

  among_in : (numbers : List ℕ) (place : Option ℕ) (row : Linear) → AreProvedIn (row_among proofs numbers place row)
  unfolding row_among
  among_in [] place row = tt
  among_in (number ∷ numbers) place row =
      first_in (is_row row (slice_get proofs.goals number)) (row_at proofs place number) (row_among proofs numbers place row) (at_in place number) (among_in numbers place row)

  rows_in : (numbers : List ℕ) (place : Option ℕ) (rows : List Linear) (made : List ProvedRow) → AreProvedIn made → AreProvedIn (rows_among proofs numbers place rows made)
  unfolding rows_among
  rows_in numbers place [] made all = all
  rows_in numbers place (row ∷ rows) made all =
      rows_in numbers place rows (made ++ row_among proofs numbers place row) (all_on IsProvedIn made (row_among proofs numbers place row) all (among_in numbers place row))

  places_in : (vars : List (ℕ × CoreTy)) (way : Way) (below : ℕ) (wanted : List (ℕ × Ty)) (made : List ProvedRow) → AreProvedIn made → AreProvedIn (places_by proofs vars way below wanted made)
  unfolding places_by
  places_in vars way below [] made all = all
  places_in vars way below (w ∷ others) made all =
      let rows = place_rows way.values below w.1 (present_at vars way.present w.0) in
      places_in vars way below others (rows_among proofs way.goals (Some w.0) rows made) (rows_in way.goals (Some w.0) rows made all)

  by_in : (goals : List ℕ) (m : Result Linear TooLarge) → AreProvedIn (row_by proofs goals m)
  by_in goals (Ok row) = among_in goals None row
  by_in goals (Err why) = tt

  own_in : (way : Way) (below : ℕ) (rows : List Linear) (made : List ProvedRow) → AreProvedIn made → AreProvedIn (rows_by proofs way below rows made)
  unfolding rows_by
  own_in way below [] made all = all
  own_in way below (row ∷ rows) made all =
      let m = subst_of way.values below row in
      own_in way below rows (made ++ row_by proofs way.goals m) (all_on IsProvedIn made (row_by proofs way.goals m) all (by_in way.goals m))

  all_in : (vars : List (ℕ × CoreTy)) (way : Way) (below : ℕ) (target : StateType) → AreProvedIn (all_by proofs vars way below target)
  all_in vars way below target = own_in way below target.ctx.rows (places_by proofs vars way below target.places []) (places_in vars way below target.places [] tt)

  demand_in : (numbers : List ℕ) → IsTextedEdge (demand_edge proofs numbers)
  demand_in numbers = record { values = tt; by = onto_in numbers [] tt }

  rising_in : (b : Truth) (vars : List (ℕ × CoreTy)) (target : StateType) (way : Way) → AllByRecursion IsValueIn way.values → IsTextedEdge (rising_edge b proofs vars target way)
  rising_in false vars target way values = plain_texted
  rising_in true vars target way values = record { values = values; by = all_in vars way (first_own way.values target.ctx.vars) target }

  edge_in : (vars : List (ℕ × CoreTy)) (target : Option StateType) (way : Way) → AllByRecursion IsValueIn way.values → IsTextedEdge (way_edge proofs vars target way)
  edge_in vars None way values = plain_texted
  edge_in vars (Some target) way values = rising_in (values_rise 0 way.values) vars target way values

  front_values : (table : List Packed) (notes : List Note) → AllByRecursion (IsTextedNote table) notes → AllByRecursion IsValueIn (way_in notes).values
  front_values table [] all = tt
  front_values table (note.Edge values present goals ∷ notes) all = all.0
  front_values table (note.State noted ∷ notes) all = tt
  front_values table (note.Demand goals ∷ notes) all = tt

-- ---- labels

-- a label of a function with so many places
pub record IsTextedLabel (table : List Packed) (places : ℕ) (label : StateType) : Type 0 where
  pub rows : AreSound label.ctx.rows
  pub named : RowsBelow label.ctx.vars label.ctx.rows
  pub few : label.ctx.vars ≤ 1024
  pub types : AllByRecursion (λ (e : ℕ × Ty). IsGood table e.1 × TypeBelow label.ctx.vars e.1) label.places
  pub rise : PlacesRise 0 label.places
  pub small : AllByRecursion (λ (e : ℕ × Ty). e.0 < places) label.places

among : {A : Type 0} (P : A → Type 0) (xs : List A) (x : A) → AllByRecursion P xs → Among xs x → P x
among P [] x all a = absurd a
among P (y ∷ ys) x all (inl h) = subst P h all.0
among P (y ∷ ys) x all (inr h) = among P ys x all.1 h

among_all : {A : Type 0} (P : A → Type 0) (xs : List A) (x : A) → All P xs → Among xs x → P x
among_all P [] x all a = absurd a
among_all P (y ∷ ys) x all (inl h) = subst P h (All-head P y ys all)
among_all P (y ∷ ys) x all (inr h) = among_all P ys x (All-tail P y ys all) h

module _ (columns : Columns) (number : ℕ) where
  marked_small : (place : ℕ) (column : Option (List Truth)) → slice_get columns place ≡ column → column_mark column number ≡ true → place < length columns
  marked_small place None e live = absurd (let bad : ⊥ = cc in bad)
  marked_small place (Some column) e live = slice_get_within columns place column e

  pub label_texted : (table : List Packed) (noted : StateType) → IsTexted table noted → IsTextedLabel table (length columns) (label_state columns number noted)
  label_texted table noted is =
      let P : ℕ × Ty → Type 0 = λ e. IsGood table e.1 × TypeBelow noted.ctx.vars e.1 in
      let S : ℕ × Ty → Type 0 = λ e. e.0 < length columns in
      let same = sym (live_places_are columns number noted.places) in
      record {
        rows = is.rows;
        named = is.named;
        few = is.few;
        types = subst (AllByRecursion P) same (live_all columns number P noted.places
            (λ e a live. (among (λ (x : ℕ × Ty). IsGood table x.1) noted.places e is.types a, among_all (λ (x : ℕ × Ty). TypeBelow noted.ctx.vars x.1) noted.places e is.below a)));
        rise = subst (λ es. PlacesRise 0 es) same (live_rise columns number 0 noted.places is.rise);
        small = subst (AllByRecursion S) same (live_all columns number S noted.places (λ e a live. marked_small e.0 (slice_get columns e.0) refl live));
      }

-- ---- a function

pub record IsCarriedIn (table : List Packed) (places : ℕ) (labels : List StateType) (edges : List Edge) : Type 0 where
  pub labels_in : AllByRecursion (IsTextedLabel table places) labels
  pub edges_in : AllByRecursion IsTextedEdge edges

pub function_in : (proofs : Proofs) (lines_are : (number : ℕ) (lines : List Line) → slice_get proofs.lines number ≡ Some lines → AreLinesIn lines) (table : List Packed) (columns : Columns) (f : core.Fun)
    (notes : List Note) → AllByRecursion (IsTextedNote table) notes
    → IsCarriedIn table (length columns) (function proofs columns f notes).states (function proofs columns f notes).now.edges
function_in proofs lines_are table columns f notes texted =
    let from : Sources = record { proofs = proofs; columns = columns } in
    let kept = block_kept from (IsTextedNote table) IsTextedEdge (IsTextedLabel table (length columns)) plain_texted (demand_in proofs lines_are)
    (λ vars target front all. edge_in proofs lines_are vars target (way_in front) (front_values proofs lines_are table front all)) (λ number noted is. label_texted columns number table noted is) f.body (body_begins notes)
    (record { now = record { edges = tt; notes = texted }; states = tt }) in
    record { labels_in = kept.states; edges_in = kept.now.edges }
