-- Declared types that are read keep the rules of a core.
use Rattle.std.proofs.Common.{◌≡◌, sym, ap, subst, ℕ, zero, suc, ◌+◌, ◌<◌, ◌≤◌, Bool, true, false, List, [], ◌∷◌, ◌++◌, length, get_or, Option, Some, None, Ok, refl, arith, ◌∙◌, ◌⊎◌, inl, inr, append_assoc, append-nil}
use Rattle.std.specs.Prelude.{cond, slice_get, if◌then◌else◌, ◌||◌}
use Rattle.std.specs.List.{AllByRecursion, AllZip, list_any}
use Rattle.std.specs.Option.{option_and_then}
use Rattle.std.specs.BTreeMap.{is_at}
use Rattle.std.specs.declared.cmp.Ordering.{Ordering}
use Rattle.std.specs.declared.cmp.Ordering.TheVariants.{Less, Equal, Greater}
use Rattle.std.specs.Ordering.{nat_cmp, is_eq, MatchOrdering}
use Rattle.std.proofs.lemmas.Cmp.{ranked}
use Rattle.xanadu_tree.specs.declared.types.CoreTy.{CoreTy}
use Rattle.xanadu_tree.specs.declared.types.Kind.{Kind}
use Rattle.xanadu_tree.specs.declared.types.Kind.TheVariants as kind
use Rattle.xanadu_tree.specs.declared.types.Packing.{Packing}
use Rattle.xanadu_tree.specs.declared.types.Quant.{Quant}
use Rattle.xanadu_tree.specs.declared.tree.declaration.Identifier.{Identifier}
use Rattle.xanadu_tree.specs.declared.tree.index.Binder.{Binder}
use Rattle.xanadu_tree.specs.IndexRules.{Stretch, IsWithin, IsQuantified, SomeTells, stretch_of}
use Rattle.xanadu_tree.specs.KindRules.{cell_kind, tuple_type as tuple_packing, held_kind, if_tuple, first_kind}
use Rattle.xanadu_tree.specs.BodyRules.{IsType}
use Rattle.xanadu_tree.specs.Shaped.{HasParts, IsPacking}
use Rattle.xanadu_tree.specs.PlainTree as plain
use Rattle.xanadu_tree.specs.Written.{IsTypeBody, IsTypeDeclaration, AreDeclarations, IsSome}
use Rattle.type_shapes.specs.Faults.{Check, fault}
use Rattle.type_shapes.specs.declared.error.ShapeKind.TheVariants.{NoIndex, NamedTwice}
use Rattle.type_shapes.specs.Names.{Scope, Table, Types, added}
use Rattle.type_shapes.specs.Quantifiers.{Frame, empty_frame, opened, type_in, types_in, unindexed, quant, closed}
use Rattle.type_shapes.specs.Headers.{is_tuple, part_types, type_names, packing_in, packing, packings}
use Rattle.type_shapes.proofs.ShapedQuantifiers.{Wider, Bound, Frames, Typed, Fits, written, opened_opens, type_is}
use Rattle.type_shapes.proofs.ShapedLists.{then_ok, ok_same, unless_ok, all_with, length_both}

-- ---- types in order

pub same_wider : (frame : Frame) → Wider frame frame
same_wider frame = record { first = refl; next = omega arith }

pub wider_through : (a b c : Frame) → Wider a b → Wider b c → Wider a c
wider_through a b c one two = record { first = omega (arith, one.first, two.first); next = omega (arith, one.next, two.next) }

pub types_are : (P : List Packing) (around : List Stretch) (types : Types) (frame : Frame) (scope : Scope) (made : List CoreTy) (bare_from : ℕ) (ts : List plain.WrittenType)
    (y : List CoreTy × Frame) → Fits types P → Frames P around frame scope made bare_from → types_in types scope ts made frame ≡ Ok y
    → Typed P around frame scope y.0 bare_from y.1
unfolding types_in
types_are P around types frame scope made bare_from [] y fits f e =
    subst (λ z. Typed P around frame scope z.0 bare_from z.1) (ok_same (made, frame) y e) (record { frames = f; wider = same_wider frame })
types_are P around types frame scope made bare_from (t ∷ ts) y fits f e =
    let s = then_ok (type_in types scope t frame) (λ z. types_in types scope ts (made ++ (z.0 ∷ [])) z.1) y e in
    let one = type_is P around types frame scope made bare_from t s.value fits f s.first in
    let more = types_are P around types s.value.1 scope (made ++ (s.value.0 ∷ [])) bare_from ts y fits one.frames s.second in
    record { frames = more.frames; wider = wider_through frame s.value.1 y.1 one.wider more.wider }

types_count : (types : Types) (frame : Frame) (scope : Scope) (made : List CoreTy) (ts : List plain.WrittenType) (y : List CoreTy × Frame)
    → types_in types scope ts made frame ≡ Ok y → length y.0 ≡ length made + length ts
unfolding types_in
types_count types frame scope made [] y e = let h : length made ≡ length y.0 = ap (λ z. length z.0) (ok_same (made, frame) y e) in omega (arith, h)
types_count types frame scope made (t ∷ ts) y e =
    let s = then_ok (type_in types scope t frame) (λ z. types_in types scope ts (made ++ (z.0 ∷ [])) z.1) y e in
    omega (arith, types_count types s.value.1 scope (made ++ (s.value.0 ∷ [])) ts y s.second, length_both made (s.value.0 ∷ []))

-- ---- a quantifier before its types, and behind them

pub begins_frames : (P : List Packing) (around : List Stretch) (first count : ℕ) (z : Frame × Scope) (scope : Scope) → Bound around count (empty_frame first) z scope
    → Frames P around z.0 z.1 [] (first + count)
begins_frames P around first count z scope b = record {
  low = b.opens.low;
  from = omega (arith, b.next);
  rows = b.opens.rows;
  known = b.opens.known;
  types = tt;
  indices = subst (AllByRecursion (λ v. SomeTells v [])) (sym b.opens.none) tt;
  bare = λ v from below. absurd (omega (arith, b.next, from, below));
}

same_at : (v x : ℕ) → is_eq (nat_cmp v x) ≡ true → v ≡ x
same_at v x e = by (nat_cmp v x) (ranked v x (nat_cmp v x) refl) e
  where
    by : (o : Ordering) → MatchOrdering o (v < x) (v ≡ x) (x < v) → is_eq o ≡ true → v ≡ x
    by Less h test = absurd (cc)
    by Equal h test = h
    by Greater h test = absurd (cc)

pub any_at : (Q : ℕ → Type 0) (xs : List ℕ) (v : ℕ) → AllByRecursion Q xs → list_any (is_at (nat_cmp v)) xs ≡ true → Q v
any_at Q [] v h e = absurd (cc)
any_at Q (x ∷ xs) v h e = by (is_eq (nat_cmp v x)) refl e (λ later. any_at Q xs v h.1 later)
  where
    by : (b : Bool) → is_eq (nat_cmp v x) ≡ b → (b || list_any (is_at (nat_cmp v)) xs) ≡ true → (list_any (is_at (nat_cmp v)) xs ≡ true → Q v) → Q v
    by true test some later = subst Q (sym (same_at v x test)) h.0
    by false test some later = later some

here_or_behind : (v n : ℕ) → n ≤ v → (v ≡ n) ⊎ (n + 1 ≤ v)
here_or_behind v n le = grind arith

indexed_all : (bs : List Binder) (number : ℕ) (indices : List ℕ) (v : ℕ) → unindexed bs number indices ≡ None → number ≤ v → v < number + length bs
    → list_any (is_at (nat_cmp v)) indices ≡ true
unfolding unindexed
indexed_all [] number indices v e from below = absurd (omega (arith, from, below))
indexed_all (b ∷ bs) number indices v e from below = by (list_any (is_at (nat_cmp number)) indices) refl e
    (λ rest behind. indexed_all bs (number + 1) indices v rest behind (omega (arith, below))) (here_or_behind v number from)
  where
    by : (c : Bool) → list_any (is_at (nat_cmp number)) indices ≡ c → (if c then unindexed bs (number + 1) indices else Some b.name.at) ≡ None
        → (unindexed bs (number + 1) indices ≡ None → number + 1 ≤ v → list_any (is_at (nat_cmp v)) indices ≡ true)
        → (v ≡ number) ⊎ (number + 1 ≤ v) → list_any (is_at (nat_cmp v)) indices ≡ true
    by true test rest later (inl same) = ap (λ n. list_any (is_at (nat_cmp n)) indices) same ∙ test
    by true test rest later (inr behind) = later rest behind
    by false test rest later where_at = absurd (cc)

abbrev unless_unindexed : Option ℕ → Quant → Check Quant
unless_unindexed None q = Ok q
unless_unindexed (Some at) q = fault NoIndex at

unless_is : (o : Option ℕ) (q y : Quant) → unless_unindexed o q ≡ Ok y → (o ≡ None) × (q ≡ y)
unless_is None q y e = (refl, ok_same q y e)
unless_is (Some at) q y e = absurd (cc)

pub closed_is : (q : Option plain.Quantifier) (frame : Frame) (y : Quant) → closed q frame ≡ Ok y
    → (quant frame ≡ y) × ((v : ℕ) → frame.first ≤ v → v < frame.first + written q → list_any (is_at (nat_cmp v)) frame.indices ≡ true)
unfolding closed
closed_is None frame y e = (ok_same (quant frame) y e, λ v from below. absurd (omega (arith, from, below)))
closed_is (Some q) frame y e =
    let h = unless_is (unindexed q.binders frame.first frame.indices) (quant frame) y e in
    (h.1, λ v from below. indexed_all q.binders frame.first frame.indices v h.0 from below)

-- a quantifier with the types under it, as they stand in a core
pub record Closes (P : List Packing) (around : List Stretch) (first : ℕ) (q : Quant) (made : List CoreTy) : Type 0 where
  pub quantified : IsQuantified around (stretch_of first q) q.rows made
  pub types : AllByRecursion (IsType P (stretch_of first q ∷ around)) made

written_or_bare : (v n : ℕ) → (v < n) ⊎ (n ≤ v)
written_or_bare v n = grind arith

closes_at : (P : List Packing) (around : List Stretch) (q : Option plain.Quantifier) (frame : Frame) (scope : Scope) (made : List CoreTy)
    → Frames P around frame scope made (frame.first + written q)
    → ((v : ℕ) → frame.first ≤ v → v < frame.first + written q → list_any (is_at (nat_cmp v)) frame.indices ≡ true)
    → Closes P around frame.first (quant frame) made
closes_at P around q frame scope made f any = record {
  quantified = record {
    forms = f.rows;
    told = λ v within. by v within (written_or_bare v (frame.first + written q));
  };
  types = f.types;
}
  where
    by : (v : ℕ) → IsWithin (stretch_of frame.first (quant frame)) v → (v < frame.first + written q) ⊎ (frame.first + written q ≤ v) → SomeTells v made
    by v within (inl low) = any_at (λ w. SomeTells w made) frame.indices v f.indices (any v within.0 low)
    by v within (inr high) = f.bare v high (omega (arith, within.0, within.1, f.low))

pub closes : (P : List Packing) (around : List Stretch) (q : Option plain.Quantifier) (first : ℕ) (frame : Frame) (scope : Scope) (made : List CoreTy) (y : Quant)
    → frame.first ≡ first → Frames P around frame scope made (first + written q) → closed q frame ≡ Ok y → Closes P around first y made
closes P around q first frame scope made y at f e =
    let c = closed_is q frame y e in
    let g = subst (λ n. Frames P around frame scope made (n + written q)) (sym at) f in
    subst (λ z. Closes P around first z made) c.0 (subst (λ n. Closes P around n (quant frame) made) at (closes_at P around q frame scope made g c.1))

-- ---- a declared type

pub packing_is : (P : List Packing) (types : Types) (d : plain.TypeDeclaration) (y : Packing) → Fits types P → IsTypeDeclaration d → packing types d ≡ Ok y → IsPacking P y
unfolding packing packing_in
packing_is P types d y fits is e =
    let s = then_ok (opened d.quantifier 0 []) _ y e in
    let t = then_ok (types_in types s.value.1 (part_types d.body) [] s.value.0) _ y s.second in
    let u = then_ok (closed d.quantifier t.value.1) _ y t.second in
    let b = opened_opens [] d.quantifier 0 [] s.value tt s.first in
    let f = begins_frames P [] 0 (written d.quantifier) s.value [] b in
    let all = types_are P [] types s.value.0 s.value.1 [] (0 + written d.quantifier) (part_types d.body) t.value fits f t.first in
    let c = closes P [] d.quantifier 0 t.value.1 s.value.1 t.value.0 u.value (all.wider.first ∙ b.first) all.frames u.first in
    let n = types_count types s.value.0 s.value.1 [] (part_types d.body) t.value t.first in
    subst (IsPacking P) (ok_same (record { quant = u.value; parts = t.value.0; tuple = is_tuple d.body }) y u.second)
    (record { parts = c.types; many = has_parts d.body t.value.0 is.1 n; quantified = c.quantified })
  where
    has_parts : (body : plain.TypeBody) (parts : List CoreTy) → IsTypeBody body → length parts ≡ 0 + length (part_types body) → HasParts (is_tuple body) parts
    has_parts (plain.Cell t) [] h n = absurd (omega (arith, n))
    has_parts (plain.Cell t) (p ∷ []) h n = tt
    has_parts (plain.Cell t) (p ∷ q ∷ ps) h n = absurd (omega (arith, n))
    has_parts (plain.Tuple []) parts h n = absurd h
    has_parts (plain.Tuple (t ∷ ts)) [] h n = absurd (omega (arith, n))
    has_parts (plain.Tuple (t ∷ ts)) (p ∷ []) h n = tt
    has_parts (plain.Tuple (t ∷ ts)) (p ∷ q ∷ ps) h n = refl

-- ---- all of them

-- a declared type with this flag, which has a part
abbrev HasFlag : Bool → Packing → Type 0
HasFlag flag p = (p.tuple ≡ flag) × IsSome p.parts

some_by_length : (xs : List CoreTy) (n : ℕ) → length xs ≡ suc n → IsSome xs
some_by_length [] n e = absurd (omega (arith, e))
some_by_length (x ∷ xs) n e = tt

packing_flag : (types : Types) (d : plain.TypeDeclaration) (y : Packing) → IsTypeDeclaration d → packing types d ≡ Ok y → HasFlag (is_tuple d.body) y
unfolding packing packing_in
packing_flag types d y is e =
    let s = then_ok (opened d.quantifier 0 []) _ y e in
    let t = then_ok (types_in types s.value.1 (part_types d.body) [] s.value.0) _ y s.second in
    let u = then_ok (closed d.quantifier t.value.1) _ y t.second in
    let n = types_count types s.value.0 s.value.1 [] (part_types d.body) t.value t.first in
    subst (HasFlag (is_tuple d.body)) (ok_same (record { quant = u.value; parts = t.value.0; tuple = is_tuple d.body }) y u.second) (refl, some d.body t.value.0 is.1 n)
  where
    some : (body : plain.TypeBody) (parts : List CoreTy) → IsTypeBody body → length parts ≡ 0 + length (part_types body) → IsSome parts
    some (plain.Cell t) parts h n = some_by_length parts 0 (omega (arith, n))
    some (plain.Tuple []) parts h n = absurd h
    some (plain.Tuple (t ∷ ts)) parts h n = some_by_length parts (length ts) (omega (arith, n))

abbrev flags : List plain.Declaration → List Bool
flags [] = []
flags (plain.OfType d ∷ ds) = is_tuple d.body ∷ flags ds
flags (plain.OfFunction d ∷ ds) = flags ds

record Named (types : Types) (ds : List plain.Declaration) (y : Types) : Type 0 where
  tuples : y.tuples ≡ types.tuples ++ flags ds
  count : length types.names ≡ length types.tuples → length y.names ≡ length y.tuples

added_count : (name : Identifier) (table y : Table) → added name table ≡ Ok y → length y ≡ length table + 1
unfolding added
added_count name table y e =
    let u = unless_ok _ NamedTwice name.at (Ok (table ++ (name.name ∷ []))) y e in
    let h : length (table ++ (name.name ∷ [])) ≡ length y = ap length (ok_same (table ++ (name.name ∷ [])) y u.1) in
    omega (arith, h, length_both table (name.name ∷ []))

names_named : (ds : List plain.Declaration) (types y : Types) → type_names ds types ≡ Ok y → Named types ds y
unfolding type_names
names_named [] types y e = subst (Named types []) (ok_same types y e) (record { tuples = sym (append-nil types.tuples); count = λ h. h })
names_named (plain.OfType d ∷ ds) types y e =
    let s = then_ok (added d.name types.names) (λ names. type_names ds (record { names = names; tuples = types.tuples ++ (is_tuple d.body ∷ []) })) y e in
    let more = names_named ds (record { names = s.value; tuples = types.tuples ++ (is_tuple d.body ∷ []) }) y s.second in
    record {
      tuples = more.tuples ∙ append_assoc types.tuples (is_tuple d.body ∷ []) (flags ds);
      count = λ h. more.count (omega (arith, added_count d.name types.names s.value s.first, length_both types.tuples (is_tuple d.body ∷ []), h));
    }
names_named (plain.OfFunction d ∷ ds) types y e = let more = names_named ds types y e in record { tuples = more.tuples; count = more.count }

record Flagged (ds : List plain.Declaration) (made y : List Packing) : Type 0 where
  more : List Packing
  is : y ≡ made ++ more
  flags : AllZip HasFlag (flags ds) more

packings_flagged : (types : Types) (ds : List plain.Declaration) (made y : List Packing) → AreDeclarations ds → packings types ds made ≡ Ok y → Flagged ds made y
unfolding packings
packings_flagged types [] made y are e = record { more = []; is = sym (ok_same made y e) ∙ sym (append-nil made); flags = tt }
packings_flagged types (plain.OfType d ∷ ds) made y are e =
    let s = then_ok (packing types d) (λ one. packings types ds (made ++ (one ∷ []))) y e in
    let later = packings_flagged types ds (made ++ (s.value ∷ [])) y are.1 s.second in
    record {
      more = s.value ∷ later.more;
      is = later.is ∙ append_assoc made (s.value ∷ []) later.more;
      flags = (packing_flag types d s.value are.0 s.first, later.flags);
    }
packings_flagged types (plain.OfFunction d ∷ ds) made y are e =
    let later = packings_flagged types ds made y are.1 e in
    record { more = later.more; is = later.is; flags = later.flags }

-- the declared type of a number
record Found (bs : List Bool) (ps : List Packing) (n : ℕ) : Type 0 where
  packing : Packing
  at : slice_get ps n ≡ Some packing
  has : HasFlag (get_or bs n false) packing

found_at : (bs : List Bool) (ps : List Packing) (n : ℕ) → AllZip HasFlag bs ps → n < length bs → Found bs ps n
found_at [] ps n all below = absurd (omega (arith, below))
found_at (b ∷ bs) [] n all below = absurd all
found_at (b ∷ bs) (p ∷ ps) zero all below = record { packing = p; at = refl; has = all.0 }
found_at (b ∷ bs) (p ∷ ps) (suc n) all below = let f = found_at bs ps n all.1 (omega (arith, below)) in record { packing = f.packing; at = f.at; has = f.has }

held_some : (number : ℕ) (p : Packing) → IsSome p.parts → (held : Kind) × (held_kind number p ≡ Some held)
held_some number p some = by p.tuple p.parts some
  where
    by : (tuple : Bool) (parts : List CoreTy) → IsSome parts → (held : Kind) × (cond tuple (Some (kind.Named number)) (first_kind parts) ≡ Some held)
    by true parts some = (_, refl)
    by false [] some = absurd some
    by false (t ∷ ts) some = (_, refl)

fits_by : (types : Types) (P : List Packing) → length types.names ≡ length types.tuples → AllZip HasFlag types.tuples P → Fits types P
fits_by types P count all = record { cells = cells; tuples = tuples }
  where
    cells : (n : ℕ) → n < length types.names → (held : Kind) × (cell_kind P (suc (suc n)) ≡ Some held)
    cells n below =
        let f = found_at types.tuples P n all (omega (arith, count, below)) in
        let h = held_some (suc (suc n)) f.packing f.has.1 in
        (h.0, ap (option_and_then (held_kind (suc (suc n)))) f.at ∙ h.1)

    tuples : (n : ℕ) → n < length types.names → get_or types.tuples n false ≡ true → (packing : Packing) × (tuple_packing P (suc (suc n)) ≡ Some packing)
    tuples n below flag =
        let f = found_at types.tuples P n all (omega (arith, count, below)) in
        (f.packing, ap (option_and_then if_tuple) f.at ∙ ap (λ b. cond b (Some f.packing) None) (f.has.0 ∙ flag))

pub types_fit : (ds : List plain.Declaration) (types : Types) (P : List Packing) → AreDeclarations ds → type_names ds (record { names = []; tuples = [] }) ≡ Ok types
    → packings types ds [] ≡ Ok P → Fits types P
types_fit ds types P are named made =
    let n = names_named ds (record { names = []; tuples = [] }) types named in
    let f = packings_flagged types ds [] P are made in
    fits_by types P (n.count refl) (subst (λ bs. AllZip HasFlag bs P) (sym n.tuples) (subst (AllZip HasFlag (flags ds)) (sym f.is) f.flags))

pub packings_are : (Q : List Packing) (types : Types) (ds : List plain.Declaration) (made y : List Packing) → Fits types Q → AreDeclarations ds → AllByRecursion (IsPacking Q) made
    → packings types ds made ≡ Ok y → AllByRecursion (IsPacking Q) y
unfolding packings
packings_are Q types [] made y fits are all e = subst (AllByRecursion (IsPacking Q)) (ok_same made y e) all
packings_are Q types (plain.OfType d ∷ ds) made y fits are all e =
    let s = then_ok (packing types d) (λ one. packings types ds (made ++ (one ∷ []))) y e in
    packings_are Q types ds (made ++ (s.value ∷ [])) y fits are.1 (all_with (IsPacking Q) made s.value all (packing_is Q types d s.value fits are.0 s.first)) s.second
packings_are Q types (plain.OfFunction d ∷ ds) made y fits are all e = packings_are Q types ds made y fits are.1 all e
