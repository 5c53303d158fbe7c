-- What the places of a label demand on a way to it, place by place, with the lines that prove it.
use Rattle.std.proofs.Common.{◌≡◌, ◌≢◌, ℕ, suc, ◌≤◌, Bool as Truth, true, false, cond, List, [], ◌∷◌, ◌++◌, length, map, nat_lt, Option, Some, None, Ok, refl, sym, ap, ◌∙◌, arith, append_assoc, append-nil, length-append, if◌then◌else◌}
use Rattle.index_sorts.specs.Context.{IndexContext}
use Rattle.std.specs.Prelude.{◌==◌}
use Rattle.std.proofs.lemmas.Bool.{and_parts, and_from}
use Rattle.index_sorts.specs.Known.{same_form, knows}
use Rattle.proof_lines.specs.Check.{checked}
use Rattle.proof_lines.specs.declared.line.Line.{Line}
use Rattle.xan_lin.specs.Linear.{Linear, difference_of}
use Rattle.xan_lin.specs.Subst.{subst_of}
use Rattle.xan_seq.specs.Rising.{KeysRise, with_value}
use Rattle.xan_seq.proofs.NumberTests.{less, not_less, unequal, Lt, Gt, Eq, order}
use Rattle.state_types.specs.Answers.{Check, ◌>>=◌, within_bounds}
use Rattle.state_types.specs.Matching.{pair_at, pairs_at, index_rows, type_rows, own_rows, demanded, differences, both_differences}
use Rattle.state_types.specs.Types.{index_of}
use Rattle.state_types.specs.declared.types.Ty.{Ty}
use Rattle.state_types.proofs.MatchPairs.{paired}
use Rattle.state_types.proofs.Thens.{then_ok, ok_same}
use Rattle.dtal_code.specs.Passing.{unknown, is_proof, are_proved}
use Rattle.emission_laws.specs.EmittedRanges.{Each}
use Rattle.emission_acceptance.proofs.LinesInOrder.{Each-append}

-- a place of the label at its home, with its type and the present one, what it demands, and lines for the rows that are not known
pub record Group : Type 0 where
  pub key : ℕ
  pub ty : Ty
  pub now : Ty
  pub rows : List Linear
  pub lines : List (List Line)

-- ---- groups

abbrev pub entries : List Group → List (ℕ × Ty)
entries [] = []
entries (g ∷ gs) = (g.key, g.ty) ∷ entries gs

abbrev pub ranks_of : List Group → List ℕ
ranks_of [] = []
ranks_of (g ∷ gs) = map (λ (l : List Line). g.key) g.lines ++ ranks_of gs

abbrev pub lines_of : List Group → List (List Line)
lines_of [] = []
lines_of (g ∷ gs) = g.lines ++ lines_of gs

abbrev pub rows_of : List Group → List Linear
rows_of [] = []
rows_of (g ∷ gs) = g.rows ++ rows_of gs

-- ---- one that comes among the others

pub with_group : Group → List Group → List Group
with_group g [] = g ∷ []
with_group g (x ∷ gs) = cond (nat_lt x.key g.key) (x ∷ with_group g gs) (g ∷ x ∷ gs)

each_by : (P : Group → Type 0) (t : Truth) (some other : List Group) → Each P some → Each P other → Each P (cond t some other)
each_by P true some other a b = a
each_by P false some other a b = b

pub Each-with : (P : Group → Type 0) (g : Group) (gs : List Group) → P g → Each P gs → Each P (with_group g gs)
unfolding with_group
Each-with P g [] p all = (p, tt)
Each-with P g (x ∷ gs) p all = each_by P (nat_lt x.key g.key) (x ∷ with_group g gs) (g ∷ x ∷ gs) (all.0, Each-with P g gs p all.1) (p, all)

pub record Cut (g : Group) (gs : List Group) : Type 0 where
  pub before : List Group
  pub after : List Group
  pub is : before ++ after ≡ gs
  pub with : with_group g gs ≡ before ++ g ∷ after
  pub written : entries (with_group g gs) ≡ with_value g.key g.ty (entries gs)
  pub low : Each (λ (x : Group). x.key ≤ g.key) before
  pub high : Each (λ (x : Group). suc g.key ≤ x.key) after

above_all : (key low : ℕ) (gs : List Group) → KeysRise low (entries gs) → suc key ≤ low → Each (λ (x : Group). suc key ≤ x.key) gs
above_all key low [] rise h = tt
above_all key low (x ∷ gs) rise h = (omega (arith, rise.0, h), above_all key (suc x.key) gs rise.1 (omega (arith, rise.0, h)))

abbrev pub NotAmong : ℕ → List Group → Type 0
NotAmong key gs = Each (λ (x : Group). x.key ≢ key) gs

pub cut : (low : ℕ) (g : Group) (gs : List Group) → KeysRise low (entries gs) → NotAmong g.key gs → Cut g gs
unfolding with_group
cut low g [] rise other = record { before = []; after = []; is = refl; with = refl; written = refl; low = tt; high = tt }
cut low g (x ∷ gs) rise other =
    elim (order x.key g.key) [
      | Lt h ↦ (let rest = cut (suc x.key) g gs rise.1 other.1 in
          let test = less x.key g.key h in
          let here = ap (λ b. cond b (x ∷ with_group g gs) (g ∷ x ∷ gs)) test in
          record {
            before = x ∷ rest.before;
            after = rest.after;
            is = ap (λ l. x ∷ l) rest.is;
            with = here ∙ ap (λ l. x ∷ l) rest.with;
            written = ap entries here ∙ ap (λ l. (x.key, x.ty) ∷ l) rest.written
                ∙ sym (ap (λ b. cond b ((x.key, x.ty) ∷ with_value g.key g.ty (entries gs)) (cond (x.key == g.key) ((g.key, g.ty) ∷ entries gs) ((g.key, g.ty) ∷ (x.key, x.ty) ∷ entries gs))) test);
            low = (omega (arith, h), rest.low);
            high = rest.high;
          })
      | Gt h ↦ (let test = not_less x.key g.key (omega (arith, h)) in
          let here = ap (λ b. cond b (x ∷ with_group g gs) (g ∷ x ∷ gs)) test in
          record {
            before = [];
            after = x ∷ gs;
            is = refl;
            with = here;
            written = ap entries here
                ∙ sym (ap (λ b. cond b ((x.key, x.ty) ∷ with_value g.key g.ty (entries gs)) (cond (x.key == g.key) ((g.key, g.ty) ∷ entries gs) ((g.key, g.ty) ∷ (x.key, x.ty) ∷ entries gs))) test
                ∙ ap (λ b. cond b ((g.key, g.ty) ∷ entries gs) ((g.key, g.ty) ∷ (x.key, x.ty) ∷ entries gs)) (unequal x.key g.key other.0));
            low = tt;
            high = (h, above_all g.key (suc x.key) gs rise.1 (omega (arith, h)));
          })
      | Eq h ↦ absurd (other.0 h)
    ]

-- ---- lists of groups in two parts

pub ranks_append : (xs ys : List Group) → ranks_of (xs ++ ys) ≡ ranks_of xs ++ ranks_of ys
ranks_append [] ys = refl
ranks_append (x ∷ xs) ys = ap (λ l. map (λ (l : List Line). x.key) x.lines ++ l) (ranks_append xs ys) ∙ sym (append_assoc (map (λ (l : List Line). x.key) x.lines) (ranks_of xs) (ranks_of ys))

pub lines_append : (xs ys : List Group) → lines_of (xs ++ ys) ≡ lines_of xs ++ lines_of ys
lines_append [] ys = refl
lines_append (x ∷ xs) ys = ap (λ l. x.lines ++ l) (lines_append xs ys) ∙ sym (append_assoc x.lines (lines_of xs) (lines_of ys))

same_count : (lines : List (List Line)) (key : ℕ) → length (map (λ (l : List Line). key) lines) ≡ length lines
same_count [] key = refl
same_count (l ∷ lines) key = ap suc (same_count lines key)

pub as_many_lines : (gs : List Group) → length (lines_of gs) ≡ length (ranks_of gs)
as_many_lines [] = refl
as_many_lines (g ∷ gs) =
    let a = length-append g.lines (lines_of gs) in
    let b = length-append (map (λ (l : List Line). g.key) g.lines) (ranks_of gs) in
    let c = same_count g.lines g.key in
    let d = as_many_lines gs in
    omega (arith, a, b, c, d)

each_rank : (P : ℕ → Type 0) (key : ℕ) (lines : List (List Line)) → P key → Each P (map (λ (l : List Line). key) lines)
each_rank P key [] p = tt
each_rank P key (l ∷ lines) p = (p, each_rank P key lines p)

pub ranks_each : (P : ℕ → Type 0) (gs : List Group) → Each (λ (x : Group). P x.key) gs → Each P (ranks_of gs)
ranks_each P [] all = tt
ranks_each P (g ∷ gs) all = Each-append P (map (λ (l : List Line). g.key) g.lines) (ranks_of gs) (each_rank P g.key g.lines all.0) (ranks_each P gs all.1)

-- ---- demanded rows behind those made so far

two_behind : (a b : Check Linear) (made rows : List Linear) → (a >>= (λ more. b >>= (λ less. Ok ([] ++ more ∷ [] ++ less ∷ [])))) ≡ (let r : Check (List Linear) = Ok rows in r)
    → (a >>= (λ more. b >>= (λ less. Ok (made ++ more ∷ [] ++ less ∷ [])))) ≡ (let r : Check (List Linear) = Ok (made ++ rows) in r)
two_behind a b made rows e =
    let one = then_ok a (λ more. b >>= (λ less. Ok ([] ++ more ∷ [] ++ less ∷ []))) rows e in
    let two = then_ok b (λ less. Ok ([] ++ one.value ∷ [] ++ less ∷ [])) rows one.second in
    ap (λ m. m >>= (λ more. b >>= (λ less. Ok (made ++ more ∷ [] ++ less ∷ [])))) one.first
    ∙ ap (λ m. m >>= (λ less. Ok (made ++ one.value ∷ [] ++ less ∷ []))) two.first
    ∙ ap Ok (append_assoc made (one.value ∷ []) (two.value ∷ []) ∙ ap (λ l. made ++ l) (ok_same _ _ two.second))

both_behind : (wanted present : Linear) (made rows : List Linear) → both_differences wanted present [] ≡ Ok rows → both_differences wanted present made ≡ Ok (made ++ rows)
both_behind wanted present made rows e = two_behind (within_bounds (difference_of wanted present)) (within_bounds (difference_of present wanted)) made rows e

differences_behind : (wanted present : Linear) (made rows : List Linear) → differences wanted present [] ≡ Ok rows → differences wanted present made ≡ Ok (made ++ rows)
unfolding differences
differences_behind wanted present made rows e = by_test (same_form wanted present) e
  where
    by_test : (t : Truth) → (if t then Ok [] else both_differences wanted present []) ≡ Ok rows
        → (if t then Ok made else both_differences wanted present made) ≡ Ok (made ++ rows)
    by_test true e = ap (λ l. (let r : Check (List Linear) = Ok l in r)) (sym (append-nil made) ∙ ap (λ l. made ++ l) (ok_same _ _ e))
    by_test false e = both_behind wanted present made rows e

nothing_behind : (made rows : List Linear) → (let r : Check (List Linear) = Ok [] in r) ≡ Ok rows → (let r : Check (List Linear) = Ok made in r) ≡ Ok (made ++ rows)
nothing_behind made rows e = ap (λ l. (let r : Check (List Linear) = Ok l in r)) (sym (append-nil made) ∙ ap (λ l. made ++ l) (ok_same _ _ e))

pub index_rows_behind : (values : List (ℕ × Linear)) (vars : ℕ) (wanted present : Option Linear) (made rows : List Linear) → index_rows values vars wanted present [] ≡ Ok rows
    → index_rows values vars wanted present made ≡ Ok (made ++ rows)
unfolding index_rows
index_rows_behind values vars None present made rows e = nothing_behind made rows e
index_rows_behind values vars (Some wanted) None made rows e = nothing_behind made rows e
index_rows_behind values vars (Some wanted) (Some present) made rows e =
    let one = then_ok (within_bounds (subst_of values vars wanted)) (λ given. differences given present []) rows e in
    ap (λ m. m >>= (λ given. differences given present made)) one.first ∙ differences_behind one.value present made rows one.second

pub own_rows_behind : (values : List (ℕ × Linear)) (vars : ℕ) (rows front made all : List Linear) → own_rows values vars rows made ≡ Ok all
    → own_rows values vars rows (front ++ made) ≡ Ok (front ++ all)
unfolding own_rows
own_rows_behind values vars [] front made all e = ap (λ l. (let r : Check (List Linear) = Ok (front ++ l) in r)) (ok_same _ _ e)
own_rows_behind values vars (row ∷ rows) front made all e =
    let one = then_ok (within_bounds (subst_of values vars row)) (λ given. own_rows values vars rows (made ++ given ∷ [])) all e in
    ap (λ m. m >>= (λ given. own_rows values vars rows ((front ++ made) ++ given ∷ []))) one.first
    ∙ ap (λ l. own_rows values vars rows l) (append_assoc front made (one.value ∷ []))
    ∙ own_rows_behind values vars rows front (made ++ one.value ∷ []) all one.second

-- ---- what the groups demand

module _ (values : List (ℕ × Linear)) (vars : ℕ) (present : List (ℕ × Ty)) (taken : IndexContext) where
  pub record IsGroup (g : Group) : Type 0 where
    pub is_pair : pair_at present (g.key, g.ty) ≡ Ok (paired g.ty g.now)
    pub demanded_rows : index_rows values vars (index_of g.ty) (index_of g.now) [] ≡ Ok g.rows
    pub proved : are_proved taken (unknown taken g.rows) g.lines ≡ true

  pairs_found : (gs : List Group) (made : _) → Each IsGroup gs → pairs_at present (entries gs) made ≡ Ok (made ++ map (λ (g : Group). paired g.ty g.now) gs)
  unfolding pairs_at
  pairs_found [] made all = ap Ok (sym (append-nil made))
  pairs_found (g ∷ gs) made all =
      ap (λ m. m >>= (λ pair. pairs_at present (entries gs) (made ++ pair ∷ []))) all.0.is_pair
      ∙ pairs_found gs (made ++ paired g.ty g.now ∷ []) all.1 ∙ ap Ok (append_assoc made (paired g.ty g.now ∷ []) (map (λ (g : Group). paired g.ty g.now) gs))

  rows_found : (gs : List Group) (made : List Linear) → Each IsGroup gs → type_rows values vars (map (λ (g : Group). paired g.ty g.now) gs) made ≡ Ok (made ++ rows_of gs)
  unfolding type_rows
  rows_found [] made all = ap (λ l. (let r : Check (List Linear) = Ok l in r)) (sym (append-nil made))
  rows_found (g ∷ gs) made all =
      ap (λ m. m >>= (λ more. type_rows values vars (map (λ (g : Group). paired g.ty g.now) gs) more)) (index_rows_behind values vars (index_of g.ty) (index_of g.now) made g.rows all.0.demanded_rows)
      ∙ rows_found gs (made ++ g.rows) all.1 ∙ ap (λ l. (let r : Check (List Linear) = Ok l in r)) (append_assoc made g.rows (rows_of gs))

  pub pairs_are : (gs : List Group) → Each IsGroup gs → pairs_at present (entries gs) [] ≡ Ok (map (λ (g : Group). paired g.ty g.now) gs)
  pairs_are gs all = pairs_found gs [] all

  pub demanded_are : (gs : List Group) (rows own : List Linear) → Each IsGroup gs → own_rows values vars rows [] ≡ Ok own
      → demanded values vars (map (λ (g : Group). paired g.ty g.now) gs) rows ≡ Ok (rows_of gs ++ own)
  unfolding demanded
  demanded_are gs rows own all e =
      ap (λ m. m >>= (λ made. own_rows values vars rows made)) (rows_found gs [] all)
      ∙ ap (λ l. own_rows values vars rows l) (sym (append-nil (rows_of gs))) ∙ own_rows_behind values vars rows (rows_of gs) [] own e

-- ---- lines for rows that are not known, in two parts

pub unknown_append : (ctx : IndexContext) (xs ys : List Linear) → unknown ctx (xs ++ ys) ≡ unknown ctx xs ++ unknown ctx ys
unfolding unknown
unknown_append ctx [] ys = refl
unknown_append ctx (x ∷ xs) ys = by_test (knows ctx x) (unknown_append ctx xs ys)
  where
    by_test : (t : Truth) → unknown ctx (xs ++ ys) ≡ unknown ctx xs ++ unknown ctx ys
        → (if t then unknown ctx (xs ++ ys) else x ∷ unknown ctx (xs ++ ys)) ≡ (if t then unknown ctx xs else x ∷ unknown ctx xs) ++ unknown ctx ys
    by_test true e = e
    by_test false e = ap (λ l. x ∷ l) e

pub proved_append : (ctx : IndexContext) (xs ys : List Linear) (some other : List (List Line)) → are_proved ctx xs some ≡ true → are_proved ctx ys other ≡ true
    → are_proved ctx (xs ++ ys) (some ++ other) ≡ true
unfolding are_proved
proved_append ctx [] ys [] other e f = f
proved_append ctx [] ys (l ∷ some) other e f = absurd (let bad : ⊥ = cc in bad)
proved_append ctx (x ∷ xs) ys [] other e f = absurd (let bad : ⊥ = cc in bad)
proved_append ctx (x ∷ xs) ys (l ∷ some) other e f =
    let both = and_parts (is_proof (checked ctx.rows x l)) (are_proved ctx xs some) e in
    and_from _ _ both.0 (proved_append ctx xs ys some other both.1 f)

pub groups_proved : (values : List (ℕ × Linear)) (vars : ℕ) (present : List (ℕ × Ty)) (taken : IndexContext) (gs : List Group) → Each (IsGroup values vars present taken) gs
    → are_proved taken (unknown taken (rows_of gs)) (lines_of gs) ≡ true
unfolding unknown are_proved
groups_proved values vars present taken [] all = refl
groups_proved values vars present taken (g ∷ gs) all =
    ap (λ rows. are_proved taken rows (g.lines ++ lines_of gs)) (unknown_append taken g.rows (rows_of gs))
    ∙ proved_append taken (unknown taken g.rows) (unknown taken (rows_of gs)) g.lines (lines_of gs) all.0.proved (groups_proved values vars present taken gs all.1)
