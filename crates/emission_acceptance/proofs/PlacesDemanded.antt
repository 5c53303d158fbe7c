-- The places of a label, put in order by their homes, demand what they demanded, each with its lines.
use Rattle.std.proofs.Common.{◌≡◌, ◌≢◌, ℕ, suc, ◌<◌, ◌≤◌, true, List, [], ◌∷◌, ◌++◌, map, Option, Some, Ok, Err, refl, sym, ap, ◌∙◌, arith, append_assoc, subst, if◌then◌else◌}
use Rattle.std.proofs.lemmas.Bool.{and_from}
use Rattle.index_sorts.specs.Context.{IndexContext}
use Rattle.index_sorts.specs.Known.{knows}
use Rattle.proof_lines.specs.declared.line.Line.{Line}
use Rattle.proof_lines.specs.Check.{checked}
use Rattle.proof_lines.proofs.Exact.{Decides-checked}
use Rattle.xan_lin.specs.Linear.{Linear}
use Rattle.xan_seq.specs.Rising.{KeysRise}
use Rattle.xan_seq.proofs.RisingKeys.{KeysRise-with}
use Rattle.state_types.specs.Answers.{◌>>=◌}
use Rattle.state_types.specs.Matching.{pair_found, pair_of, pair_at, index_rows}
use Rattle.state_types.specs.PlaceTypes.{type_at}
use Rattle.state_types.specs.Types.{index_of, same_kind}
use Rattle.state_types.specs.declared.error.StateError.TheVariants.{Kind}
use Rattle.state_types.specs.declared.types.Ty.{Ty}
use Rattle.state_types.proofs.MatchPairs.{paired}
use Rattle.state_types.proofs.Edges.{pair_at_is}
use Rattle.state_types.proofs.Thens.{then_ok, ok_same}
use Rattle.three_address.specs.Demands.{Demand, demands_of, place_demands, places_demands, Proves, AreProved, AllProved, IsKnown, HasLines}
use Rattle.three_address.specs.Typing.{state_of}
use Rattle.three_address.specs.declared.typed.ProvedRow.{ProvedRow}
use Rattle.dtal_code.specs.Passing.{unknown, is_proof, are_proved}
use Rattle.dtal_emit.specs.Emitted.{rank, ordered_from, at_homes}
use Rattle.dtal_emit.specs.Homes.{home_of}
use Rattle.emission_laws.specs.EmittedRanges.{Each}
use Rattle.emission_acceptance.specs.LabelsApart.{HomesDiffer}
use Rattle.emission_acceptance.specs.TypesThrough.{AreTyped}
use Rattle.emission_acceptance.proofs.GroupedDemands.{Group, IsGroup, NotAmong, cut, entries, ranks_of, lines_of, with_group, Each-with, ranks_append, lines_append, as_many_lines, ranks_each}
use Rattle.emission_acceptance.proofs.LinesInOrder.{ordered_run}

-- ---- what proves demanded rows, in parts

module _ (ctx : IndexContext) where
  pub record ProvedParts (xs ys : List Demand) (bys : List ProvedRow) : Type 0 where
    pub front : List ProvedRow
    pub rest : List ProvedRow
    pub is : front ++ rest ≡ bys
    pub first : AreProved ctx xs front
    pub second : AreProved ctx ys rest

  pub proved_split : (ds : List Demand) (bys : List ProvedRow) → AreProved ctx ds bys → (xs ys : List Demand) → xs ++ ys ≡ ds → ProvedParts xs ys bys
  proved_split _ _ AllProved [] ys e = record { front = []; rest = []; is = refl; first = AllProved; second = subst (λ l. AreProved ctx l []) (sym e) AllProved }
  proved_split _ _ AllProved (x ∷ xs) ys e = absurd (let bad : ⊥ = cc in bad)
  proved_split _ _ (IsKnown d ds bys k p) [] ys e =
      record { front = []; rest = bys; is = refl; first = AllProved; second = subst (λ l. AreProved ctx l bys) (sym e) (IsKnown d ds bys k p) }
  proved_split _ _ (IsKnown d ds bys k p) (x ∷ xs) ys e =
      let same : x ≡ d = cc in
      let rest = proved_split ds bys p xs ys cc in
      record { front = rest.front; rest = rest.rest; is = rest.is; first = IsKnown x xs rest.front (ap (λ y. knows ctx y.row) same ∙ k) rest.first; second = rest.second }
  proved_split _ _ (HasLines d by ds bys k pr p) [] ys e =
      record { front = []; rest = by ∷ bys; is = refl; first = AllProved; second = subst (λ l. AreProved ctx l (by ∷ bys)) (sym e) (HasLines d by ds bys k pr p) }
  proved_split _ _ (HasLines d by ds bys k pr p) (x ∷ xs) ys e =
      let same : x ≡ d = cc in
      let rest = proved_split ds bys p xs ys cc in
      record {
        front = by ∷ rest.front;
        rest = rest.rest;
        is = ap (λ l. by ∷ l) rest.is;
        first = HasLines x by xs rest.front (ap (λ y. knows ctx y.row) same ∙ k) (subst (λ y. Proves ctx y by) (sym same) pr) rest.first;
        second = rest.second;
      }

  pub none_proved : (ds : List Demand) (bys : List ProvedRow) → AreProved ctx ds bys → ds ≡ [] → bys ≡ []
  none_proved _ _ AllProved e = refl
  none_proved _ _ (IsKnown d ds bys k p) e = absurd (let bad : ⊥ = cc in bad)
  none_proved _ _ (HasLines d by ds bys k pr p) e = absurd (let bad : ⊥ = cc in bad)

  is_proved : (row : Linear) (lines : List Line) (rows : List Linear) (others : List (List Line)) → checked ctx.rows row lines ≡ Ok tt → are_proved ctx rows others ≡ true
      → are_proved ctx (row ∷ rows) (lines ∷ others) ≡ true
  unfolding are_proved
  is_proved row lines rows others e f = and_from _ _ (ap is_proof e) f

  -- the rows of one place that are not known, and their lines
  pub record ProvedRows (place : Option ℕ) (rows : List Linear) (bys : List ProvedRow) : Type 0 where
    pub places : Each (λ (by : ProvedRow). by.place ≡ place) bys
    pub proved : are_proved ctx (unknown ctx rows) (map (λ (by : ProvedRow). by.lines) bys) ≡ true

  pub proved_rows : (ds : List Demand) (bys : List ProvedRow) → AreProved ctx ds bys → (place : Option ℕ) (rows : List Linear) → demands_of place rows ≡ ds → ProvedRows place rows bys
  unfolding unknown are_proved
  proved_rows _ _ AllProved place [] e = record { places = tt; proved = refl }
  proved_rows _ _ AllProved place (row ∷ rows) e = absurd (let bad : ⊥ = cc in bad)
  proved_rows _ _ (IsKnown d ds bys k p) place [] e = absurd (let bad : ⊥ = cc in bad)
  proved_rows _ _ (IsKnown d ds bys k p) place (row ∷ rows) e =
      let same : d.row ≡ row = ap (λ (y : Demand). y.row) (let s : d ≡ record { place = place; row = row } = cc in s) in
      let rest = proved_rows ds bys p place rows cc in
      record {
        places = rest.places;
        proved = ap (λ t. are_proved ctx (if t then unknown ctx rows else row ∷ unknown ctx rows) (map (λ (by : ProvedRow). by.lines) bys)) (ap (knows ctx) (sym same) ∙ k) ∙ rest.proved;
      }
  proved_rows _ _ (HasLines d by ds bys k pr p) place [] e = absurd (let bad : ⊥ = cc in bad)
  proved_rows _ _ (HasLines d by ds bys k pr p) place (row ∷ rows) e =
      let is : d ≡ record { place = place; row = row } = cc in
      let same : d.row ≡ row = ap (λ (y : Demand). y.row) is in
      let at : d.place ≡ place = ap (λ (y : Demand). y.place) is in
      let rest = proved_rows ds bys p place rows cc in
      let ok : checked ctx.rows row by.lines ≡ Ok tt = ap (λ r. checked ctx.rows r by.lines) (sym same) ∙ (Decides-checked ctx.rows d.row by.lines).1 pr.lines in
      record {
        places = (pr.place ∙ at, rest.places);
        proved = ap (λ t. are_proved ctx (if t then unknown ctx rows else row ∷ unknown ctx rows) (by.lines ∷ map (λ (by : ProvedRow). by.lines) bys)) (ap (knows ctx) (sym same) ∙ k)
            ∙ is_proved row by.lines (unknown ctx rows) (map (λ (by : ProvedRow). by.lines) bys) ok rest.proved;
      }

-- ---- one place at its home

pub record Placed (values : List (ℕ × Linear)) (vars : ℕ) (texts : List (ℕ × Ty)) (home place : ℕ) (ty : Ty) (demands : List Demand) : Type 0 where
  pub now : Ty
  pub rows : List Linear
  pub is_pair : pair_at texts (home, ty) ≡ Ok (paired ty now)
  pub demanded_rows : index_rows values vars (index_of ty) (index_of now) [] ≡ Ok rows
  pub are : demands_of (Some place) rows ≡ demands

pair_there : (texts : List (ℕ × Ty)) (home : ℕ) (ty now : Ty) → type_at home texts ≡ Some now → same_kind ty now ≡ true → pair_at texts (home, ty) ≡ Ok (paired ty now)
unfolding pair_at pair_of
pair_there texts home ty now e f = ap (λ o. pair_found (home, ty) o) e ∙ ap (λ t. if t then Ok (paired ty now) else Err (Kind home)) f

placed : (ctx : IndexContext) (places texts : List (ℕ × Ty)) (values : List (ℕ × Linear)) (home place : ℕ) (ty : Ty) (demands : List Demand)
    → ((t : Ty) → type_at place places ≡ Some t → type_at home texts ≡ Some t) → place_demands (state_of ctx places) values (place, ty) ≡ Ok demands
    → Placed values ctx.vars texts home place ty demands
unfolding place_demands
placed ctx places texts values home place ty demands typed e =
    let one = then_ok (pair_at places (place, ty)) (λ pair. index_rows values ctx.vars (index_of pair.wanted) (index_of pair.present) [] >>= (λ rows. Ok (demands_of (Some place) rows))) demands e in
    let two = then_ok (index_rows values ctx.vars (index_of one.value.wanted) (index_of one.value.present) []) (λ rows. Ok (demands_of (Some place) rows)) demands one.second in
    let is = pair_at_is places (place, ty) one.value one.first in
    record {
      now = one.value.present;
      rows = two.value;
      is_pair = pair_there texts home ty one.value.present (typed one.value.present is.there) (ap (λ t. same_kind t one.value.present) is.is ∙ is.same);
      demanded_rows = ap (λ t. index_rows values ctx.vars (index_of t) (index_of one.value.present) []) is.is ∙ two.first;
      are = ok_same _ _ two.second;
    }

-- ---- all places

abbrev pub Fresh : List ℕ → List (ℕ × Ty) → List Group → Type 0
Fresh homes [] gs = Unit {0}
Fresh homes (x ∷ places) gs = NotAmong (home_of homes x.0) gs × Fresh homes places gs

fresh_more : (homes : List ℕ) (g : Group) (places : List (ℕ × Ty)) (gs : List Group) → Each (λ (y : ℕ × Ty). g.key ≢ home_of homes y.0) places → Fresh homes places gs
    → Fresh homes places (with_group g gs)
fresh_more homes g [] gs e f = tt
fresh_more homes g (x ∷ places) gs e f = (Each-with (λ (y : Group). y.key ≢ home_of homes x.0) g gs e.0 f.0, fresh_more homes g places gs e.1 f.1)

same_ranks : (key : ℕ) (bys : List ProvedRow) → map (λ (by : ProvedRow). key) bys ≡ map (λ (l : List Line). key) (map (λ (by : ProvedRow). by.lines) bys)
same_ranks key [] = refl
same_ranks key (by ∷ bys) = ap (λ l. key ∷ l) (same_ranks key bys)

group_run : (homes : List ℕ) (low : ℕ) (g : Group) (gs : List Group) (front rest : List ProvedRow) → KeysRise low (entries gs) → NotAmong g.key gs
    → Each (λ (by : ProvedRow). rank homes by.place ≡ g.key) front → g.lines ≡ map (λ (by : ProvedRow). by.lines) front
    → ordered_from homes (front ++ rest) (ranks_of gs) (lines_of gs) ≡ ordered_from homes rest (ranks_of (with_group g gs)) (lines_of (with_group g gs))
group_run homes low g gs front rest rise other ranks lines =
    let c = cut low g gs rise other in
    let key = g.key in
    let go : List Group → List (List Line) = λ xs. ordered_from homes (front ++ rest) (ranks_of xs) (lines_of xs) in
    let ends : List ℕ → List (List Line) → List (List Line) = λ rs ls. ordered_from homes rest rs ls in
    let ranks_after = ranks_of c.after in
    let lines_after = lines_of c.after in
    ap go (sym c.is)
    ∙ ap (λ rs. ordered_from homes (front ++ rest) rs (lines_of (c.before ++ c.after))) (ranks_append c.before c.after)
    ∙ ap (λ ls. ordered_from homes (front ++ rest) (ranks_of c.before ++ ranks_after) ls) (lines_append c.before c.after)
    ∙ ordered_run homes key ranks_after lines_after (ranks_each (λ r. suc key ≤ r) c.after c.high) front rest (ranks_of c.before) (lines_of c.before) ranks
    (ranks_each (λ r. r ≤ key) c.before c.low) (as_many_lines c.before)
    ∙ ap (λ rs. ends ((ranks_of c.before ++ rs) ++ ranks_after) ((lines_of c.before ++ map (λ (by : ProvedRow). by.lines) front) ++ lines_after))
    (same_ranks key front ∙ ap (map (λ (l : List Line). key)) (sym lines))
    ∙ ap (λ ls. ends ((ranks_of c.before ++ map (λ (l : List Line). key) g.lines) ++ ranks_after) ((lines_of c.before ++ ls) ++ lines_after)) (sym lines)
    ∙ ap (λ rs. ends rs ((lines_of c.before ++ g.lines) ++ lines_after)) (append_assoc (ranks_of c.before) (map (λ (l : List Line). key) g.lines) ranks_after ∙ sym (ranks_append c.before (g ∷ c.after)))
    ∙ ap (λ ls. ends (ranks_of (c.before ++ g ∷ c.after)) ls) (append_assoc (lines_of c.before) g.lines lines_after ∙ sym (lines_append c.before (g ∷ c.after)))
    ∙ ap (λ xs. ends (ranks_of xs) (lines_of xs)) (sym c.with)

module _ (homes : List ℕ) (values : List (ℕ × Linear)) (taken : IndexContext) (kept : ℕ → Type 0) (places texts : List (ℕ × Ty)) (typed : AreTyped homes kept places texts) where
  pub record Grouped (gs : List Group) (wanted : List (ℕ × Ty)) (bys : List ProvedRow) : Type 0 where
    pub groups : List Group
    pub written : at_homes homes wanted (entries gs) ≡ entries groups
    pub all : Each (IsGroup values taken.vars texts taken) groups
    pub rise : KeysRise 0 (entries groups)
    pub within : Each (λ (g : Group). g.key < 256) groups
    pub in_order : (rest : List ProvedRow) → ordered_from homes (bys ++ rest) (ranks_of gs) (lines_of gs) ≡ ordered_from homes rest (ranks_of groups) (lines_of groups)

  at_home : (place : ℕ) (bys : List ProvedRow) → Each (λ (by : ProvedRow). by.place ≡ Some place) bys → Each (λ (by : ProvedRow). rank homes by.place ≡ home_of homes place) bys
  at_home place [] e = tt
  at_home place (by ∷ bys) e = (ap (rank homes) e.0, at_home place bys e.1)

  pub grouped : (homes_low : (place : ℕ) → home_of homes place < 256) (wanted : List (ℕ × Ty)) (gs : List Group) (demands : List Demand) (bys : List ProvedRow)
      → Each (IsGroup values taken.vars texts taken) gs → KeysRise 0 (entries gs) → Each (λ (g : Group). g.key < 256) gs → Fresh homes wanted gs → HomesDiffer homes wanted
      → Each (λ (p : ℕ × Ty). kept p.0) wanted → places_demands (state_of taken places) values wanted ≡ Ok demands → AreProved taken demands bys → Grouped gs wanted bys
  unfolding places_demands at_homes
  grouped homes_low [] gs demands bys all rise within fresh differ keeps e p =
      let none : bys ≡ [] = none_proved taken demands bys p (sym (ok_same _ _ e)) in
      record {
        groups = gs;
        written = refl;
        all = all;
        rise = rise;
        within = within;
        in_order = λ rest. ap (λ l. ordered_from homes (l ++ rest) (ranks_of gs) (lines_of gs)) none;
      }
  grouped homes_low (x ∷ wanted) gs demands bys all rise within fresh differ keeps e p =
      let home = home_of homes x.0 in
      let one = then_ok (place_demands (state_of taken places) values x) (λ first. places_demands (state_of taken places) values wanted >>= (λ others. Ok (first ++ others))) demands e in
      let two = then_ok (places_demands (state_of taken places) values wanted) (λ others. Ok (one.value ++ others)) demands one.second in
      let here = placed taken places texts values home x.0 x.1 one.value (λ t. typed.typed x.0 t keeps.0) one.first in
      let parts = proved_split taken demands bys p one.value two.value (ok_same _ _ two.second) in
      let rows = proved_rows taken one.value parts.front parts.first (Some x.0) here.rows here.are in
      let g : Group = record { key = home; ty = x.1; now = here.now; rows = here.rows; lines = map (λ (by : ProvedRow). by.lines) parts.front } in
      let is : IsGroup values taken.vars texts taken g = record { is_pair = here.is_pair; demanded_rows = here.demanded_rows; proved = rows.proved } in
      let c = cut 0 g gs rise fresh.0 in
      let rises : KeysRise 0 (entries (with_group g gs)) =
      subst (λ l. KeysRise 0 l) (sym c.written) (KeysRise-with 0 home x.1 (entries gs) (let z : 0 ≤ home = omega arith in z) rise) in
      let later = grouped homes_low wanted (with_group g gs) two.value parts.rest
      (Each-with (IsGroup values taken.vars texts taken) g gs is all) rises (Each-with (λ (y : Group). y.key < 256) g gs (homes_low x.0) within)
      (fresh_more homes g wanted gs differ.0 fresh.1) differ.1 keeps.1 two.first parts.second in
      record {
        groups = later.groups;
        written = ap (λ l. at_homes homes wanted l) (sym c.written) ∙ later.written;
        all = later.all;
        rise = later.rise;
        within = later.within;
        in_order = λ rest.
            ap (λ l. ordered_from homes (l ++ rest) (ranks_of gs) (lines_of gs)) (sym parts.is)
            ∙ ap (λ l. ordered_from homes l (ranks_of gs) (lines_of gs)) (append_assoc parts.front parts.rest rest)
            ∙ group_run homes 0 g gs parts.front (parts.rest ++ rest) rise fresh.0 (at_home x.0 parts.front rows.places) refl
            ∙ later.in_order rest;
      }
