-- Kinds and numbers as they are read, and as the rules of a core name them.
use Rattle.std.proofs.Common.{◌≡◌, ap, subst, ℕ, zero, suc, ◌-◌, ◌≤◌, Bool, true, false, List, [], ◌∷◌, Option, Some, None, Ok, refl, arith, ◌∙◌}
use Rattle.std.specs.Prelude.{cond, slice_get, if◌then◌else◌, nat_eq}
use Rattle.std.specs.Option.{option_and_then}
use Rattle.std.specs.List.{AllByRecursion}
use Rattle.std.proofs.lemmas.Bool.{eqb-true}
use Rattle.std.proofs.lemmas.Option.{same_Some}
use Rattle.xanadu_tree.specs.declared.types.CoreTy.{CoreTy}
use Rattle.xanadu_tree.specs.declared.types.CoreTy.TheVariants as ty
use Rattle.xanadu_tree.specs.declared.types.Kind.{Kind}
use Rattle.xanadu_tree.specs.declared.types.Kind.TheVariants as kind
use Rattle.xanadu_tree.specs.declared.types.Packing.{Packing}
use Rattle.xanadu_tree.specs.IndexRules.{Stretch}
use Rattle.xanadu_tree.specs.KindRules.{kind_of, IsValue, cell_kind, held_kind, first_kind, tuple_type, if_tuple, Setting, HasKind}
use Rattle.xanadu_tree.specs.BodyRules.{IsType}
use Rattle.xanadu_tree.specs.Shaped.{IsPacking}
use Rattle.type_shapes.specs.declared.error.ShapeKind.TheVariants.{OtherKind, Count}
use Rattle.type_shapes.specs.Kinds.{same_kind, kind_at, element_kind, parts_of}
use Rattle.expression_shapes.specs.Sites.{Typed, asked, asked_array, asked_tuple, asked_value, counted}
use Rattle.xanadu_tree.specs.Plain as core
use Rattle.type_shapes.proofs.ShapedLists.{ok_same, where_ok, all_at}
use Rattle.type_shapes.proofs.ShapedHeaders.{kind_is_value}

-- ---- numbers of kinds are those of types

abbrev pub IsCell : List Packing → ℕ → Type 0
IsCell P number = (held : Kind) × (cell_kind P number ≡ Some held)

abbrev pub IsTuple : List Packing → ℕ → Type 0
IsTuple P number = (packing : Packing) × (tuple_type P number ≡ Some packing)

abbrev pub IsKind : List Packing → Kind → Type 0
IsKind P kind.Int = Unit {0}
IsKind P kind.Bool = Unit {0}
IsKind P (kind.Array element) = IsCell P element
IsKind P (kind.Named number) = IsTuple P number
IsKind P kind.Unit = Unit {0}

pub kind_of_type : (P : List Packing) (reach : List Stretch) (t : CoreTy) → IsType P reach t → IsKind P (kind_of t)
kind_of_type P reach (ty.Int form) is = tt
kind_of_type P reach ty.Bool is = tt
kind_of_type P reach (ty.Array e form) is = is.0
kind_of_type P reach (ty.Named n) is = is

-- ---- equal kinds

pub same_kind_is : (a b : Kind) → same_kind a b ≡ true → a ≡ b
same_kind_is kind.Int kind.Int e = refl
same_kind_is kind.Bool kind.Bool e = refl
same_kind_is (kind.Array a) (kind.Array b) e = ap kind.Array (eqb-true a b e)
same_kind_is (kind.Named a) (kind.Named b) e = ap kind.Named (eqb-true a b e)
same_kind_is kind.Unit kind.Unit e = refl
same_kind_is _ _ e = absurd (cc)

pub asked_is : (set : Setting) (visible : List ℕ) (k : Kind) (at : ℕ) (typed : Typed) (e : core.Expr) → asked k at typed ≡ Ok e → HasKind set visible typed.expr typed.kind
    → HasKind set visible e k
unfolding asked
asked_is set visible k at typed e h has =
    let w = where_ok (same_kind typed.kind k) OtherKind at (Ok typed.expr) e h in
    subst (HasKind set visible e) (same_kind_is typed.kind k w.0) (subst (λ x. HasKind set visible x typed.kind) (ok_same typed.expr e w.1) has)

pub asked_array_is : (at : ℕ) (k : Kind) (element : ℕ) → asked_array at k ≡ Ok element → k ≡ kind.Array element
unfolding asked_array
asked_array_is at (kind.Array n) element h = ap kind.Array (ok_same n element h)
asked_array_is at _ element h = absurd (cc)

pub asked_tuple_is : (at : ℕ) (k : Kind) (number : ℕ) → asked_tuple at k ≡ Ok number → k ≡ kind.Named number
unfolding asked_tuple
asked_tuple_is at (kind.Named n) number h = ap kind.Named (ok_same n number h)
asked_tuple_is at _ number h = absurd (cc)

pub asked_value_is : (at : ℕ) (k y : Kind) → asked_value at k ≡ Ok y → (k ≡ y) × IsValue k
unfolding asked_value
asked_value_is at kind.Unit y h = absurd (cc)
asked_value_is at kind.Int y h = (ok_same kind.Int y h, tt)
asked_value_is at kind.Bool y h = (ok_same kind.Bool y h, tt)
asked_value_is at (kind.Array n) y h = (ok_same (kind.Array n) y h, tt)
asked_value_is at (kind.Named n) y h = (ok_same (kind.Named n) y h, tt)

pub counted_is : {A : Type 0} (at wanted given : ℕ) (x y : A) → counted at wanted given x ≡ Ok y → (wanted ≡ given) × (x ≡ y)
counted_is at wanted given x y h =
    let w = where_ok (nat_eq wanted given) Count at (Ok x) y h in
    (eqb-true wanted given w.0, ok_same x y w.1)

-- ---- cells and parts

not_small : (n k : ℕ) → k ≤ 1 → nat_eq (suc (suc n)) k ≡ false
not_small n k le = by (nat_eq (suc (suc n)) k) refl
  where
    by : (b : Bool) → nat_eq (suc (suc n)) k ≡ b → b ≡ false
    by true e = absurd (omega (arith, eqb-true (suc (suc n)) k e, le))
    by false e = refl

abbrev found_kind : ℕ → Option Packing → Kind
found_kind number None = kind.Unit
found_kind number (Some p) = if p.tuple then kind.Named number else kind_at p.parts 0

declared_cell : (number : ℕ) (o : Option Packing) (held : Kind) → option_and_then (held_kind number) o ≡ Some held → found_kind number o ≡ held
unfolding kind_at
declared_cell number None held e = absurd (cc)
declared_cell number (Some p) held e = by p.tuple p.parts e
  where
    by : (tuple : Bool) (parts : List CoreTy) → cond tuple (Some (kind.Named number)) (first_kind parts) ≡ Some held
        → (if tuple then kind.Named number else kind_at parts 0) ≡ held
    by true parts e = same_Some _ held e
    by false [] e = absurd (cc)
    by false (t ∷ ts) e = same_Some _ held e

pub element_kind_is : (P : List Packing) (number : ℕ) (held : Kind) → cell_kind P number ≡ Some held → element_kind P number ≡ held
unfolding element_kind
element_kind_is P zero held e = same_Some _ held e
element_kind_is P (suc zero) held e = same_Some _ held e
element_kind_is P (suc (suc n)) held e =
    let back : suc (suc n) - 2 ≡ n = omega arith in
    ap (λ b. if b then kind.Int else (if nat_eq (suc (suc n)) 1 then kind.Bool else found_kind (suc (suc n)) (slice_get P (suc (suc n) - 2)))) (not_small n 0 (omega arith))
    ∙ ap (λ b. if b then kind.Bool else found_kind (suc (suc n)) (slice_get P (suc (suc n) - 2))) (not_small n 1 (omega arith))
    ∙ ap (λ m. found_kind (suc (suc n)) (slice_get P m)) back
    ∙ declared_cell (suc (suc n)) (slice_get P n) held e

pub cell_is_value : (P : List Packing) (number : ℕ) (held : Kind) → cell_kind P number ≡ Some held → IsValue held
cell_is_value P zero held e = subst IsValue (same_Some _ held e) tt
cell_is_value P (suc zero) held e = subst IsValue (same_Some _ held e) tt
cell_is_value P (suc (suc n)) held e = by (slice_get P n) e
  where
    at_packing : (tuple : Bool) (parts : List CoreTy) → cond tuple (Some (kind.Named (suc (suc n)))) (first_kind parts) ≡ Some held → IsValue held
    at_packing true parts e = subst IsValue (same_Some _ held e) tt
    at_packing false [] e = absurd (cc)
    at_packing false (t ∷ ts) e = subst IsValue (same_Some _ held e) (kind_is_value t)

    by : (o : Option Packing) → option_and_then (held_kind (suc (suc n))) o ≡ Some held → IsValue held
    by None e = absurd (cc)
    by (Some p) e = at_packing p.tuple p.parts e

-- the kind of what a cell holds is one of the program's
pub cell_is_kind : (P : List Packing) (number : ℕ) (held : Kind) → AllByRecursion (IsPacking P) P → cell_kind P number ≡ Some held → IsKind P held
cell_is_kind P zero held are e = subst (IsKind P) (same_Some _ held e) tt
cell_is_kind P (suc zero) held are e = subst (IsKind P) (same_Some _ held e) tt
cell_is_kind P (suc (suc n)) held are e = by (slice_get P n) refl e
  where
    at_parts : (reach : List Stretch) (parts : List CoreTy) → AllByRecursion (IsType P reach) parts → first_kind parts ≡ Some held → IsKind P held
    at_parts reach [] is e = absurd (cc)
    at_parts reach (t ∷ ts) is e = subst (IsKind P) (same_Some _ held e) (kind_of_type P reach t is.0)

    at_packing : (p : Packing) (tuple : Bool) → p.tuple ≡ tuple → slice_get P n ≡ Some p → IsPacking P p
        → cond tuple (Some (kind.Named (suc (suc n)))) (first_kind p.parts) ≡ Some held → IsKind P held
    at_packing p true flag at is e = subst (IsKind P) (same_Some _ held e) (p, ap (option_and_then if_tuple) at ∙ ap (λ b. cond b (Some p) None) flag)
    at_packing p false flag at is e = at_parts _ p.parts is.parts e

    by : (o : Option Packing) → slice_get P n ≡ o → option_and_then (held_kind (suc (suc n))) o ≡ Some held → IsKind P held
    by None at e = absurd (cc)
    by (Some p) at e = at_packing p p.tuple refl at (all_at (IsPacking P) P n p are at) e

abbrev found_parts : Option Packing → List CoreTy
found_parts None = []
found_parts (Some p) = p.parts

-- the tuple type of a number is the declared one, whose parts are known
pub tuple_is : (P : List Packing) (number : ℕ) (p : Packing) → tuple_type P number ≡ Some p → (parts_of P number ≡ p.parts) × (AllByRecursion (IsPacking P) P → IsPacking P p)
unfolding parts_of
tuple_is P zero p e = absurd (cc)
tuple_is P (suc zero) p e = absurd (cc)
tuple_is P (suc (suc n)) p e = by (slice_get P n) refl e
  where
    at_packing : (q : Packing) (tuple : Bool) → cond tuple (Some q) None ≡ Some p → q ≡ p
    at_packing q true e = same_Some q p e
    at_packing q false e = absurd (cc)

    by : (o : Option Packing) → slice_get P n ≡ o → option_and_then if_tuple o ≡ Some p
        → (found_parts (slice_get P (suc (suc n) - 2)) ≡ p.parts) × (AllByRecursion (IsPacking P) P → IsPacking P p)
    by None at e = absurd (cc)
    by (Some q) at e =
        let back : suc (suc n) - 2 ≡ n = omega arith in
        let same = at_packing q q.tuple e in (
          ap (λ m. found_parts (slice_get P m)) back ∙ ap found_parts at ∙ ap (λ r. r.parts) same,
          λ are. all_at (IsPacking P) P n p are (at ∙ ap Some same),
        )
