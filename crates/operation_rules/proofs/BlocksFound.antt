-- The blocks that typed words name, and what matches give of their cells.
use Rattle.std.proofs.Common.{◌≡◌, ◌⊎◌, ℕ, zero, suc, ◌+◌, ◌*◌, ◌<◌, ◌==◌, ℤ, pos, negsuc, ◌-ℤ◌, ◌≤ℤ◌, List, [], ◌∷◌, length, Bool as Truth, true, false, cond, nat_lt, nat_le, Ok, Err, Some, refl, sym, ◌∙◌, ap, subst, arith, inl, inr}
use Rattle.std.specs.Prelude.{slice_get, ◌≤◌}
use Rattle.std.specs.List.{All, AllZip}
use Rattle.std.proofs.lemmas.Int.{ints}
use Rattle.std.proofs.lemmas.Bool.{lt-ltb, le-leb}
use Rattle.std.proofs.lemmas.Bool.Decides.{Decides-eqb}
use Rattle.std.proofs.lemmas.List.Elements.{All-nil, All-cons, All-head, All-tail}
use Rattle.index_sorts.specs.Entails.{Entails, AllHold}
use Rattle.xan_lin.specs.Linear.{Linear, NamesBelow}
use Rattle.xan_lin.specs.Subst.{given_values}
use Rattle.state_types.specs.Answers.{Check}
use Rattle.state_types.specs.Matching.{matched}
use Rattle.state_types.specs.Sound.{IsMatched}
use Rattle.state_types.specs.Tables.{IsClosed}
use Rattle.state_types.specs.Types.{TypeBelow}
use Rattle.state_types.specs.Words.{Header, Headers, HasType}
use Rattle.state_types.specs.declared.closed.Packed.{Packed}
use Rattle.state_types.specs.declared.error.StateError.TheVariants as state_error
use Rattle.state_types.specs.declared.matching.Found.{Found}
use Rattle.state_types.specs.declared.types.Ty.{Ty}
use Rattle.state_types.specs.declared.types.Ty.TheVariants as ty
use Rattle.state_types.proofs.MatchPairs.{match_sound, words_carry}
use Rattle.state_types.proofs.RowNames.{match-keys}
use Rattle.state_types.proofs.Thens.{then_ok, ok_same}
use Rattle.operation_rules.specs.Effects.{Stores, cells_from, index_within}
use Rattle.operation_rules.specs.Faults.{Ruling, NoType, WrongCount, or_fault, of_match}
use Rattle.operation_rules.specs.Rules.{tuple_at, cell_with, cell_at, as_many, matching, matching_packed}
use Rattle.operation_rules.specs.Stored.{Packs, CellFits, ArrayFits, TupleFits, StoreFits}
use Rattle.operation_rules.proofs.RuleFacts.{or_fault_ok}

-- ---- matches

pub of_match_ok : {A : Type 0} (r : Check A) (x : A) → of_match r ≡ Ok x → r ≡ Ok x
of_match_ok (Ok y) x e = cc
of_match_ok (Err (state_error.Large why)) x e = absurd (let bad : ⊥ = cc in bad)
of_match_ok (Err (state_error.Kind n)) x e = absurd (let bad : ⊥ = cc in bad)
of_match_ok (Err state_error.Memory) x e = absurd (let bad : ⊥ = cc in bad)

many_by : (test : Truth) (m n : ℕ) (u : Unit {0}) → (m == n) ≡ test → cond test (let r : Ruling (Unit {0}) = Ok tt in r) (Err WrongCount) ≡ Ok u → m ≡ n
many_by true m n u is e = (Decides-eqb m n).0 is
many_by false m n u is e = absurd (let bad : ⊥ = cc in bad)

pub as_many_is : (m n : ℕ) (u : Unit {0}) → as_many m n ≡ Ok u → m ≡ n
as_many_is m n u e = many_by (m == n) m n u refl e

each_entailed : (rows : List Linear) → All (Entails rows) rows
each_entailed rows = λ k d h. record { follows = λ values hold. hold k d h }

pub record Matches (below vars : ℕ) (rows : List Linear) (wanted actual : List Ty) (found : Found) : Type 0 where
  pub many : length wanted ≡ length actual
  pub is : matched below vars rows wanted actual ≡ Ok found

pub matching_is : (below vars : ℕ) (rows : List Linear) (wanted actual : List Ty) (found : Found) → matching below vars rows wanted actual ≡ Ok found
    → Matches below vars rows wanted actual found
unfolding matching
matching_is below vars rows wanted actual found e =
    let s = then_ok (as_many (length wanted) (length actual)) _ found e in
    record { many = as_many_is (length wanted) (length actual) s.value s.first; is = of_match_ok (matched below vars rows wanted actual) found s.second }

-- it lists only variables of the target
pub match_listed : (below vars : ℕ) (rows : List Linear) (wanted actual : List Ty) (found : Found) → matched below vars rows wanted actual ≡ Ok found
    → All (λ v. v.0 < vars) found.values
match_listed below vars rows wanted actual found e = match-keys below vars rows wanted actual found e

-- under an assignment under which the demanded rows hold
pub matching_sound : (below vars : ℕ) (rows : List Linear) (wanted actual : List Ty) (found : Found) (assignment : List ℤ) → matching below vars rows wanted actual ≡ Ok found
    → All (NamesBelow vars) rows → All (TypeBelow vars) wanted → AllHold assignment found.rows
    → IsMatched assignment (given_values assignment found.values below vars) vars rows wanted actual
matching_sound below vars rows wanted actual found assignment e named types hold =
    let m = matching_is below vars rows wanted actual found e in
    match_sound below vars rows found.rows wanted actual found assignment m.is m.many named types (each_entailed found.rows) hold

pub packs_of : (headers : Headers) (assignment words : List ℤ) (packed : Packed) (types : List Ty) (found : Found) → matching_packed packed types ≡ Ok found → IsClosed packed
    → AllHold assignment found.rows → AllZip (HasType headers assignment) words types → Packs headers packed words
packs_of headers assignment words packed types found e closed hold has =
    let given = given_values assignment found.values 0 packed.vars in
    let m = matching_sound 0 packed.vars packed.rows packed.parts types found assignment e closed.rows closed.parts hold in
    record { own = given; one_each = m.one_each; hold = m.hold; fit = words_carry headers assignment given words packed.parts types m.fit has }

-- ---- closed types

item_closed : (table : List Packed) (number : ℕ) (packed : Packed) → All IsClosed table → slice_get table number ≡ Some packed → IsClosed packed
item_closed [] number packed all e = absurd (let bad : ⊥ = cc in bad)
item_closed (x ∷ xs) zero packed all e = subst (λ p. IsClosed p) (let same : x ≡ packed = cc in same) (All-head IsClosed x xs all)
item_closed (x ∷ xs) (suc number) packed all e = item_closed xs number packed (All-tail IsClosed x xs all) e

-- of few variables
pub item_few : (table : List Packed) (number : ℕ) (packed : Packed) → All (λ p. p.vars ≤ 1024) table → slice_get table number ≡ Some packed → packed.vars ≤ 1024
item_few [] number packed all e = absurd (let bad : ⊥ = cc in bad)
item_few (x ∷ xs) zero packed all e = subst (λ p. p.vars ≤ 1024) (let same : x ≡ packed = cc in same) (All-head (λ p. p.vars ≤ 1024) x xs all)
item_few (x ∷ xs) (suc number) packed all e = item_few xs number packed (All-tail (λ p. p.vars ≤ 1024) x xs all) e

only_by : (test : Truth) (packed given : Packed) → cond test (let r : Ruling Packed = Ok packed in r) (Err NoType) ≡ Ok given → packed ≡ given
only_by true packed given e = ok_same packed given e
only_by false packed given e = absurd (let bad : ⊥ = cc in bad)

pub tuple_closed : (table : List Packed) (number : ℕ) (packed : Packed) → All IsClosed table → tuple_at table number ≡ Ok packed → IsClosed packed
unfolding tuple_at
tuple_closed table number packed all e =
    let s = then_ok (or_fault NoType (slice_get table number)) _ packed e in
    subst (λ p. IsClosed p) (only_by s.value.tuple s.value packed s.second)
    (item_closed table number s.value all (or_fault_ok NoType (slice_get table number) s.value s.first))

cell_by : (test : Truth) (number : ℕ) (packed : Packed) → IsClosed packed
    → IsClosed (cond test (record { vars = 0; rows = []; parts = ty.Named number ∷ []; tuple = false }) packed)
cell_by true number packed closed = record { rows = All-nil (NamesBelow 0); parts = All-cons (TypeBelow 0) (ty.Named number) [] tt (All-nil (TypeBelow 0)) }
cell_by false number packed closed = closed

pub cell_closed : (table : List Packed) (number : ℕ) (packed : Packed) → All IsClosed table → cell_at table number ≡ Ok packed → IsClosed packed
unfolding cell_at
cell_closed table number packed all e =
    let s = then_ok (or_fault NoType (slice_get table number)) _ packed e in
    subst (λ p. IsClosed p) (ok_same (cell_with number s.value) packed s.second)
    (cell_by s.value.tuple number s.value (item_closed table number s.value all (or_fault_ok NoType (slice_get table number) s.value s.first)))

-- ---- numbers of cells

lt_true : (k n : ℕ) → k < n → nat_lt k n ≡ true
lt_true k n h = lt-ltb k n h

pub le_true : (k n : ℕ) → k ≤ n → nat_le k n ≡ true
le_true k n h = le-leb k n h

pub within_is : {S : Type 0} (stores : Stores S) (count k : ℕ) → k < count → index_within stores (pos count) (pos k) ≡ Some k
within_is stores count k h = rw (lt_true k count h) refl

-- ---- blocks

header_parts : (x y : Header) → x ≡ y → (x.descriptor ≡ y.descriptor) × (x.cells ≡ y.cells)
header_parts x y e = (ap (λ h. h.descriptor) e, ap (λ h. h.cells) e)

same_even : (p q : ℕ) → pos (2 * p) ≡ pos (2 * q) → p ≡ q
same_even p q e = omega (arith, ints)

same_odd : (p q : ℕ) → pos (2 * p + 1) ≡ pos (2 * q + 1) → p ≡ q
same_odd p q e = omega (arith, ints)

pub never_both : (p q : ℕ) → pos (2 * p + 1) ≡ pos (2 * q) → ⊥
never_both p q e = omega (arith, ints)

module _ {S : Type 0} (stores : Stores S) (table : List Packed) (store : S) where
  pub record AnArray (element block : ℕ) (cells : ℤ) : Type 0 where
    pub count : ℕ
    pub is : cells ≡ pos count
    pub packed : Packed
    pub there : cell_at table element ≡ Ok packed
    pub fits : (number : ℕ) → number < count → CellFits stores table store packed block number

  pub record ATuple (number block : ℕ) (cells : ℤ) : Type 0 where
    pub packed : Packed
    pub there : tuple_at table number ≡ Ok packed
    pub is : cells ≡ pos (length packed.parts)
    pub words : List ℤ
    pub cells_are : cells_from stores store block 0 (length packed.parts) ≡ Some words
    pub packs : Packs (stores.headers store) packed words

  array_by : (element block : ℕ) (cells : ℤ) (header : Header) → (let h : Header = record { descriptor = pos (2 * element); cells = cells } in h) ≡ header
      → ArrayFits stores table store block header ⊎ TupleFits stores table store block header → AnArray element block cells
  array_by element block cells header e (inl a) =
      let same = header_parts _ _ (a.is ∙ sym e) in
      record {
        count = a.count;
        is = sym same.1;
        packed = a.packed;
        there = subst (λ n. cell_at table n ≡ Ok a.packed) (same_even a.element element same.0) a.there;
        fits = a.cells;
      }
  array_by element block cells header e (inr t) = absurd (never_both t.number element (header_parts _ _ (t.is ∙ sym e)).0)

  pub array_at : (element block : ℕ) (cells : ℤ) → StoreFits stores table store → stores.headers store block ≡ Some (record { descriptor = pos (2 * element); cells = cells })
      → AnArray element block cells
  array_at element block cells fits e = array_by element block cells _ refl (fits.blocks block _ e)

  tuple_by : (number block : ℕ) (cells : ℤ) (header : Header) → (let h : Header = record { descriptor = pos (2 * number + 1); cells = cells } in h) ≡ header
      → ArrayFits stores table store block header ⊎ TupleFits stores table store block header → ATuple number block cells
  tuple_by number block cells header e (inl a) = absurd (never_both number a.element (header_parts _ _ (e ∙ sym a.is)).0)
  tuple_by number block cells header e (inr t) =
      let same = header_parts _ _ (t.is ∙ sym e) in
      record {
        packed = t.packed;
        there = subst (λ n. tuple_at table n ≡ Ok t.packed) (same_odd t.number number same.0) t.there;
        is = sym same.1;
        words = t.words;
        cells_are = t.cells;
        packs = t.packs;
      }

  pub tuple_block : (number block : ℕ) (cells : ℤ) → StoreFits stores table store → stores.headers store block ≡ Some (record { descriptor = pos (2 * number + 1); cells = cells })
      → ATuple number block cells
  tuple_block number block cells fits e = tuple_by number block cells _ refl (fits.blocks block _ e)

-- ---- bounds

-- an index that demands ask to be within a length is the number of a cell
pub record IsIndex (count : ℕ) (index : ℤ) : Type 0 where
  pub number : ℕ
  pub is : index ≡ pos number
  pub within : number < count

pub index_by : (count : ℕ) (index : ℤ) → pos 0 ≤ℤ index → pos 0 ≤ℤ ((pos count -ℤ index) -ℤ pos 1) → IsIndex count index
index_by count (pos k) low high = record { number = k; is = refl; within = omega (arith, ints) }
index_by count (negsuc k) low high = absurd (omega (arith, ints))
