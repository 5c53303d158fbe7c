-- Lengths, loads and the parts of tuples go well.
use Rattle.std.proofs.Common.{◌≡◌, ℕ, ◌+◌, ◌*◌, ◌==◌, ℤ, pos, ◌-ℤ◌, ◌≤ℤ◌, List, [], ◌∷◌, ◌++◌, length, Bool as Truth, true, false, cond, nat_le, Ok, Err, refl, sym, ◌∙◌, ap, subst, arith}
use Rattle.std.proofs.lemmas.Int.{ints}
use Rattle.std.proofs.lemmas.Bool.Decides.{Decides-eqb}
use Rattle.std.proofs.lemmas.List.{append-nil}
use Rattle.std.proofs.lemmas.List.Elements.{All-nil, All-cons, All-head, All-tail}
use Rattle.index_sorts.specs.Context.{IndexContext}
use Rattle.index_sorts.specs.Entails.{AllHold}
use Rattle.xan_lin.specs.Linear.{Linear}
use Rattle.xan_lin.specs.Value.{value_of, Holds}
use Rattle.state_types.specs.Words.{IsBlock, cell_count}
use Rattle.state_types.specs.declared.closed.Packed.{Packed}
use Rattle.state_types.specs.declared.types.Ty.{Ty}
use Rattle.state_types.specs.declared.types.Ty.TheVariants as ty
use Rattle.state_types.proofs.Thens.{then_ok, ok_same}
use Rattle.operation_rules.specs.Applied.{Ruled}
use Rattle.operation_rules.specs.Effects.{Stores, Effect, header_of, measures, index_within, reads_word, reads_at, loads_from, loads, cells_from, splits_cells, splits_if, splits_block, splits, effect}
use Rattle.operation_rules.specs.Faults.{Ruling, WrongKind, needed}
use Rattle.xan_lin.specs.Linear.{excess_of}
use Rattle.operation_rules.specs.Operations.{Length, Load, Untuple}
use Rattle.operation_rules.specs.Rules.{Setting, Rule, opens, one_type, two_types, as_number, as_array, as_tuple, as_many, tuple_at, cell_at, measured, loaded, split, rule}
use Rattle.operation_rules.specs.Sound.{Fares}
use Rattle.operation_rules.specs.Stored.{Packs}
use Rattle.operation_rules.proofs.BlocksFound.{within_is, le_true, array_at, tuple_block, index_by, as_many_is}
use Rattle.xan_lin.proofs.ResultValues.{excess-value}
use Rattle.operation_rules.proofs.RuleFacts.{OkHolds, Meets, meets_opens, needed_ok}
use Rattle.operation_rules.proofs.WordsRead.{one_type_is, two_types_is, as_number_is, as_array_is, with_one_is, with_two_is, Acts, goes_same}

-- the demands of an index
pub record InBounds (assignment : List ℤ) (e i : Linear) : Type 0 where
  pub low : pos 0 ≤ℤ value_of assignment i
  pub high : pos 0 ≤ℤ ((value_of assignment e -ℤ value_of assignment i) -ℤ pos 1)

pub bounds_hold : (assignment : List ℤ) (e i below : Linear) (others : List Linear) → excess_of e i ≡ Ok below → AllHold assignment (i ∷ below ∷ others) → InBounds assignment e i
bounds_hold assignment e i below others is hold = record {
  low = All-head (Holds assignment) i (below ∷ others) hold;
  high = subst (λ n. pos 0 ≤ℤ n) (excess-value assignment e i below is)
      (All-head (Holds assignment) below others (All-tail (Holds assignment) i (below ∷ others) hold));
}

tuple_kind : (test : Truth) (number other : ℕ) (u : Unit {0}) → (number == other) ≡ test → cond test (let r : Ruling (Unit {0}) = Ok tt in r) (Err WrongKind) ≡ Ok u → number ≡ other
tuple_kind true number other u is e = (Decides-eqb number other).0 is
tuple_kind false number other u is e = absurd (let bad : ⊥ = cc in bad)

pub as_tuple_is : (number : ℕ) (t : Ty) (u : Unit {0}) → as_tuple number t ≡ Ok u → t ≡ ty.Named number
as_tuple_is number (ty.Int f) u e = absurd (let bad : ⊥ = cc in bad)
as_tuple_is number ty.Bool u e = absurd (let bad : ⊥ = cc in bad)
as_tuple_is number (ty.Array p f) u e = absurd (let bad : ⊥ = cc in bad)
as_tuple_is number (ty.Named other) u e = ap (λ n. ty.Named n) (sym (tuple_kind (number == other) number other u refl e))

module _ {S : Type 0} (stores : Stores S) (st : Setting) (store : S) (assignment : List ℤ) (ctx : IndexContext) where
  -- ---- lengths

  length_meets : (e : Linear) (n : ℕ) → value_of assignment e ≡ pos n
      → Meets (stores.headers store) assignment (record { demands = []; fresh = 0; assumed = Ok e ∷ []; given = Ok (ty.Int e) ∷ [] }) (value_of assignment e ∷ [])
  length_meets e n is =
      let same : value_of (assignment ++ []) e ≡ value_of assignment e = ap (λ a. value_of a e) (append-nil assignment) in
      record {
        own = [];
        count = refl;
        hold = All-cons (OkHolds (assignment ++ [])) (Ok e) [] (subst (λ m. pos 0 ≤ℤ m) (sym (same ∙ is)) (let low : pos 0 ≤ℤ pos n = omega (arith, ints) in low))
            (All-nil (OkHolds (assignment ++ [])));
        typed = (sym same, tt);
      }

  length_goes : (types : List Ty) (words : List ℤ) (r : Rule) (ruled : Ruled) (p : ℕ) (e : Linear) (a : ℤ) → Acts stores st store assignment ctx types words r ruled
      → (let made : Rule = record { demands = []; fresh = 0; assumed = Ok e ∷ []; given = Ok (ty.Int e) ∷ [] } in made) ≡ r
      → IsBlock (stores.headers store) a (2 * p) (value_of assignment e)
      → Fares stores st Length types store assignment ctx ruled (measures stores (header_of stores store a) store)
  length_goes types words r ruled p e a acts is block =
      let F : Effect S → Type 0 = λ x. Fares stores st Length types store assignment ctx ruled x in
      let it = array_at stores st.table store p block.address (value_of assignment e) acts.fits block.begins in
      subst (λ w. F (measures stores (header_of stores store w) store)) (sym block.is)
      (subst (λ o. F (measures stores o store)) (sym block.begins)
      (goes_same stores st store assignment ctx types words (value_of assignment e ∷ []) r ruled acts
      (subst (λ x. Meets (stores.headers store) assignment x (value_of assignment e ∷ [])) is (length_meets e it.count it.is))))

  pub length_fares : (types : List Ty) (words : List ℤ) (r : Rule) (ruled : Ruled) → Acts stores st store assignment ctx types words r ruled
      → rule st Length types ctx.vars ≡ Ok r → Fares stores st Length types store assignment ctx ruled (effect stores Length words store)
  unfolding rule measured
  length_fares types words r ruled acts e =
      let s = then_ok (one_type types) _ r e in
      let t = then_ok (as_array s.value) _ r s.second in
      let is : types ≡ ty.Array t.value.0 t.value.1 ∷ [] = one_type_is types s.value s.first ∙ ap (λ x. x ∷ []) (as_array_is s.value t.value t.first) in
      with_one_is stores (Fares stores st Length types store assignment ctx ruled) (stores.headers store) assignment words types (ty.Array t.value.0 t.value.1) _ is acts.stands.typed
      (λ a has. length_goes types words r ruled t.value.0 t.value.1 a acts (ok_same _ r t.second) has)

  -- ---- loads

  load_goes : (types : List Ty) (words : List ℤ) (r : Rule) (ruled : Ruled) (p : ℕ) (e i : Linear) (demands : List Linear) (packed : Packed) (a k : ℤ)
      → Acts stores st store assignment ctx types words r ruled → opens ctx.vars demands packed ≡ r → cell_at st.table p ≡ Ok packed → InBounds assignment e i
      → IsBlock (stores.headers store) a (2 * p) (value_of assignment e) → k ≡ value_of assignment i
      → Fares stores st Load types store assignment ctx ruled (loads stores a k store)
  load_goes types words r ruled p e i demands packed a k acts is there bounds block same =
      let F : Effect S → Type 0 = λ x. Fares stores st Load types store assignment ctx ruled x in
      let it = array_at stores st.table store p block.address (value_of assignment e) acts.fits block.begins in
      let at = index_by it.count k (subst (λ n. pos 0 ≤ℤ n) (sym same) bounds.low)
      (subst (λ n. pos 0 ≤ℤ ((n -ℤ k) -ℤ pos 1)) it.is (subst (λ n. pos 0 ≤ℤ ((value_of assignment e -ℤ n) -ℤ pos 1)) (sym same) bounds.high)) in
      let cell = it.fits at.number at.within in
      let packed_is : it.packed ≡ packed = ok_same it.packed packed (sym it.there ∙ there) in
      subst (λ w. F (loads stores w k store)) (sym block.is)
      (subst (λ o. F (loads_from stores o block.address k store)) (sym block.begins)
      (subst (λ n. F (reads_at stores (index_within stores n k) block.address store)) (sym it.is)
      (subst (λ j. F (reads_at stores (index_within stores (pos it.count) j) block.address store)) (sym at.is)
      (subst (λ o. F (reads_at stores o block.address store)) (sym (within_is stores it.count at.number at.within))
      (subst (λ o. F (reads_word stores o store)) (sym cell.there)
      (goes_same stores st store assignment ctx types words (cell.word ∷ []) r ruled acts
      (subst (λ x. Meets (stores.headers store) assignment x (cell.word ∷ [])) is
      (meets_opens (stores.headers store) assignment (cell.word ∷ []) ctx.vars demands packed acts.stands.one_each
      (subst (λ q. Packs (stores.headers store) q (cell.word ∷ [])) packed_is cell.packs)))))))))

  pub load_fares : (types : List Ty) (words : List ℤ) (r : Rule) (ruled : Ruled) → Acts stores st store assignment ctx types words r ruled
      → rule st Load types ctx.vars ≡ Ok r → Fares stores st Load types store assignment ctx ruled (effect stores Load words store)
  unfolding rule loaded
  load_fares types words r ruled acts e =
      let s = then_ok (two_types types) _ r e in
      let t = then_ok (as_array s.value.0) _ r s.second in
      let u = then_ok (as_number s.value.1) _ r t.second in
      let v = then_ok (needed (excess_of t.value.1 u.value)) _ r u.second in
      let w = then_ok (cell_at st.table t.value.0) _ r v.second in
      let made : opens ctx.vars (u.value ∷ v.value ∷ []) w.value ≡ r = ok_same _ r w.second in
      let bounds = bounds_hold assignment t.value.1 u.value v.value [] (needed_ok (excess_of t.value.1 u.value) v.value v.first)
      (subst (λ (ds : List Linear). AllHold assignment ds) (ap (λ x. x.demands) (sym made)) acts.demands) in
      let is : types ≡ ty.Array t.value.0 t.value.1 ∷ ty.Int u.value ∷ [] = two_types_is types s.value s.first
      ∙ ap (λ x. x ∷ s.value.1 ∷ []) (as_array_is s.value.0 t.value t.first)
      ∙ ap (λ x. ty.Array t.value.0 t.value.1 ∷ x ∷ []) (as_number_is s.value.1 u.value u.first) in
      with_two_is stores (Fares stores st Load types store assignment ctx ruled) (stores.headers store) assignment words types (ty.Array t.value.0 t.value.1) (ty.Int u.value) _ is acts.stands.typed
      (λ a k x y. load_goes types words r ruled t.value.0 t.value.1 u.value (u.value ∷ v.value ∷ []) w.value a k acts made w.first bounds x y)

  -- ---- the parts of tuples

  split_goes : (types : List Ty) (words : List ℤ) (r : Rule) (ruled : Ruled) (number count : ℕ) (packed : Packed) (a cells : ℤ)
      → Acts stores st store assignment ctx types words r ruled → opens ctx.vars [] packed ≡ r → tuple_at st.table number ≡ Ok packed → length packed.parts ≡ count
      → IsBlock (stores.headers store) a (2 * number + 1) cells
      → Fares stores st (Untuple number count) types store assignment ctx ruled (splits stores a count store)
  split_goes types words r ruled number count packed a cells acts is there many block =
      let F : Effect S → Type 0 = λ x. Fares stores st (Untuple number count) types store assignment ctx ruled x in
      let it = tuple_block stores st.table store number block.address cells acts.fits block.begins in
      let packed_is : it.packed ≡ packed = ok_same it.packed packed (sym it.there ∙ there) in
      let count_is : length it.packed.parts ≡ count = ap (λ q. length q.parts) packed_is ∙ many in
      let enough : nat_le count (cell_count cells) ≡ true = subst (λ n. nat_le count (cell_count n) ≡ true) (sym it.is) (le_true count (length it.packed.parts) (omega arith)) in
      subst (λ w. F (splits stores w count store)) (sym block.is)
      (subst (λ o. F (splits_block stores o block.address count store)) (sym block.begins)
      (subst (λ b. F (splits_if stores b block.address count store)) (sym enough)
      (subst (λ n. F (splits_cells stores (cells_from stores store block.address 0 n) store)) count_is
      (subst (λ o. F (splits_cells stores o store)) (sym it.cells_are)
      (goes_same stores st store assignment ctx types words it.words r ruled acts
      (subst (λ x. Meets (stores.headers store) assignment x it.words) is
      (meets_opens (stores.headers store) assignment it.words ctx.vars [] packed acts.stands.one_each
      (subst (λ q. Packs (stores.headers store) q it.words) packed_is it.packs))))))))

  pub split_fares : (number count : ℕ) (types : List Ty) (words : List ℤ) (r : Rule) (ruled : Ruled) → Acts stores st store assignment ctx types words r ruled
      → rule st (Untuple number count) types ctx.vars ≡ Ok r → Fares stores st (Untuple number count) types store assignment ctx ruled (effect stores (Untuple number count) words store)
  unfolding rule split
  split_fares number count types words r ruled acts e =
      let s = then_ok (tuple_at st.table number) _ r e in
      let t = then_ok (one_type types) _ r s.second in
      let u = then_ok (as_many (length s.value.parts) count) _ r t.second in
      let v = then_ok (as_tuple number t.value) _ r u.second in
      let is : types ≡ ty.Named number ∷ [] = one_type_is types t.value t.first ∙ ap (λ x. x ∷ []) (as_tuple_is number t.value v.value v.first) in
      with_one_is stores (Fares stores st (Untuple number count) types store assignment ctx ruled) (stores.headers store) assignment words types (ty.Named number) _ is acts.stands.typed
      (λ a has. split_goes types words r ruled number count s.value a has.0 acts (ok_same _ r v.second) s.first (as_many_is (length s.value.parts) count u.value u.first) has.1)
