-- Types that are read under a quantifier are types, and the quantifier's variables are told by them.
use Rattle.std.proofs.Common.{◌≡◌, sym, ap, subst, ℕ, suc, ℤ, pos, ◌+◌, ◌-◌, ◌<◌, ◌≤◌, Bool, true, false, List, [], ◌∷◌, ◌++◌, length, get_or, Option, Some, None, Ok, refl, arith, ◌∙◌, ◌⊎◌, inl, inr}
use Rattle.std.specs.Prelude.{◌&&◌, if◌then◌else◌, bytes_eq, unwrap_or, slice_get}
use Rattle.std.specs.List.{AllByRecursion}
use Rattle.std.specs.BTreeSet.{insert_key}
use Rattle.std.specs.declared.cmp.Ordering.{Ordering}
use Rattle.std.specs.declared.cmp.Ordering.TheVariants.{Less, Equal, Greater}
use Rattle.std.specs.Ordering.{nat_cmp, int_eq, match_ordering}
use Rattle.std.proofs.lemmas.Option.{same_Some, unwrap_or-slice_get}
use Rattle.std.proofs.lemmas.Bool.Decides.{Decides-int_eq}
use Rattle.std.specs.Bool.{Decides}
use Rattle.std.proofs.lemmas.List.Quantifiers.{position-Some}
use Rattle.xanadu_tree.specs.declared.linear.Linear.{Linear}
use Rattle.xanadu_tree.specs.declared.types.CoreTy.{CoreTy}
use Rattle.xanadu_tree.specs.declared.types.CoreTy.TheVariants as ty
use Rattle.xanadu_tree.specs.declared.types.Kind.{Kind}
use Rattle.xanadu_tree.specs.declared.types.Packing.{Packing}
use Rattle.xanadu_tree.specs.declared.tree.declaration.Identifier.{Identifier}
use Rattle.xanadu_tree.specs.declared.tree.index.Binder.{Binder}
use Rattle.xanadu_tree.specs.declared.tree.index.Sort.{Sort}
use Rattle.xanadu_tree.specs.declared.tree.index.Sort.TheVariants as sort
use Rattle.xanadu_tree.specs.declared.tree.index.Sign.TheVariants.{Plus}
use Rattle.xanadu_tree.specs.declared.tree.types.Element.{Element}
use Rattle.xanadu_tree.specs.declared.tree.types.Element.TheVariants as element
use Rattle.xanadu_tree.specs.IndexRules.{Stretch, Reaches, IsForm, Tells, SomeTells, variable_form as variable_alone}
use Rattle.xanadu_tree.specs.KindRules.{cell_kind, tuple_type as tuple_packing}
use Rattle.xanadu_tree.specs.BodyRules.{IsType}
use Rattle.xanadu_tree.specs.PlainTree as plain
use Rattle.type_shapes.specs.Faults.{◌>>=◌}
use Rattle.type_shapes.specs.Linears.{constant_form, linear, variable_form, lone, index_in, relations_in}
use Rattle.type_shapes.specs.Names.{Scope, meaning, place, or_unknown, Types, type_number, tuple_type}
use Rattle.type_shapes.specs.Quantifiers.{Frame, empty_frame, sort_rows, with_variable, is_from, bind, opened, noted, index, element_number, length_of, type_in}
use Rattle.type_shapes.proofs.ShapedForms.{Known, AreForms, constant_keeps, index_keeps, linear_is, relations_are, known_name}
use Rattle.type_shapes.proofs.ShapedLists.{then_ok, ok_same, unless_ok, where_ok, all_weaker, all_with}

-- ---- the quantifier of a frame, as far as it has come

abbrev pub own : Frame → Stretch
own frame = record { first = frame.first; count = frame.next - frame.first }

pub record Wider (low high : Frame) : Type 0 where
  pub first : high.first ≡ low.first
  pub next : low.next ≤ high.next

reach_wider : (around : List Stretch) (low high : Frame) → low.first ≤ low.next → Wider low high → (v : ℕ) → Reaches (own low ∷ around) v → Reaches (own high ∷ around) v
reach_wider around low high is w v (inl h) = inl (omega (arith, h.0, h.1, w.first, w.next), omega (arith, h.0, h.1, w.first, w.next))
reach_wider around low high is w v (inr h) = inr h

pub form_wider : (r s : List Stretch) → ((v : ℕ) → Reaches r v → Reaches s v) → (form : Linear) → IsForm r form → IsForm s form
form_wider r s more form is = record { rising = is.rising; names = all_weaker (λ t. Reaches r t.1) (λ t. Reaches s t.1) (λ t. more t.1) form.terms is.names }

type_wider : (P : List Packing) (r s : List Stretch) → ((v : ℕ) → Reaches r v → Reaches s v) → (t : CoreTy) → IsType P r t → IsType P s t
type_wider P r s more (ty.Int form) is = form_wider r s more form is
type_wider P r s more ty.Bool is = tt
type_wider P r s more (ty.Array e form) is = (is.0, form_wider r s more form is.1)
type_wider P r s more (ty.Named n) is = is

variable_is : (reach : List Stretch) (v : ℕ) → Reaches reach v → IsForm reach (variable_form v)
unfolding variable_form
variable_is reach v h = record { rising = (omega arith, λ e. absurd (cc), tt); names = (h, tt) }

next_within : (around : List Stretch) (kind : Sort) (frame : Frame) → frame.first ≤ frame.next → Reaches (own (with_variable kind frame) ∷ around) frame.next
unfolding with_variable
next_within around kind frame low = inl (low, omega arith)

-- ---- a quantifier that is opened

pub record Opens (around : List Stretch) (frame : Frame) (scope : Scope) : Type 0 where
  pub low : frame.first ≤ frame.next
  pub rows : AreForms (own frame ∷ around) frame.rows
  pub known : Known (own frame ∷ around) scope
  pub none : frame.indices ≡ []

sort_rows_are : (reach : List Stretch) (kind : Sort) (v : ℕ) (rows : List Linear) → Reaches reach v → AreForms reach rows → AreForms reach (sort_rows kind v rows)
sort_rows_are reach sort.Int v rows h are = are
sort_rows_are reach sort.Nat v rows h are = all_with (IsForm reach) rows (variable_form v) are (variable_is reach v h)

with_variable_wider : (kind : Sort) (frame : Frame) → Wider frame (with_variable kind frame)
unfolding with_variable
with_variable_wider kind frame = record { first = refl; next = omega arith }

rows_wider : (around : List Stretch) (low high : Frame) → low.first ≤ low.next → Wider low high → (rows : List Linear)
    → AreForms (own low ∷ around) rows → AreForms (own high ∷ around) rows
rows_wider around low high is w rows are =
    all_weaker (IsForm (own low ∷ around)) (IsForm (own high ∷ around)) (form_wider _ _ (reach_wider around low high is w)) rows are

pub known_wider : (r s : List Stretch) → ((v : ℕ) → Reaches r v → Reaches s v) → (scope : Scope) → Known r scope → Known s scope
known_wider r s more scope known = all_weaker (λ e. Reaches r e.1) (λ e. Reaches s e.1) (λ e. more e.1) scope known

with_variable_rows : (around : List Stretch) (kind : Sort) (frame : Frame) → frame.first ≤ frame.next → AreForms (own frame ∷ around) frame.rows
    → AreForms (own (with_variable kind frame) ∷ around) (sort_rows kind frame.next frame.rows)
with_variable_rows around kind frame low are =
    sort_rows_are _ kind frame.next frame.rows (next_within around kind frame low)
    (rows_wider around frame (with_variable kind frame) low (with_variable_wider kind frame) frame.rows are)

bound_opens : (around : List Stretch) (b : Binder) (frame : Frame) (scope : Scope) → Opens around frame scope
    → Opens around (with_variable b.sort frame) ((b.name.name, frame.next) ∷ scope)
unfolding with_variable
bound_opens around b frame scope o = record {
  low = omega (arith, o.low);
  rows = with_variable_rows around b.sort frame o.low o.rows;
  known = (
    next_within around b.sort frame o.low,
    known_wider (own frame ∷ around) (own (with_variable b.sort frame) ∷ around) (reach_wider around frame (with_variable b.sort frame) o.low (with_variable_wider b.sort frame)) scope o.known,
  );
  none = o.none;
}

pub record Bound (around : List Stretch) (count : ℕ) (frame : Frame) (after : Frame × Scope) (scope : Scope) : Type 0 where
  pub opens : Opens around after.0 after.1
  pub first : after.0.first ≡ frame.first
  pub next : after.0.next ≡ frame.next + count

bind_opens : (around : List Stretch) (bs : List Binder) (frame : Frame) (scope : Scope) (y : Frame × Scope) → Opens around frame scope
    → bind bs frame scope ≡ Ok y → Bound around (length bs) frame y scope
unfolding bind with_variable
bind_opens around [] frame scope y o e =
    subst (λ z. Bound around 0 frame z scope) (ok_same (frame, scope) y e) (record { opens = o; first = refl; next = omega arith })
bind_opens around (b ∷ bs) frame scope y o e =
    let u = unless_ok (is_from frame.first (meaning b.name.name scope)) _ _ (bind bs (with_variable b.sort frame) ((b.name.name, frame.next) ∷ scope)) y e in
    let later = bind_opens around bs _ _ y (bound_opens around b frame scope o) u.1 in
    through later
  where
    through : Bound around (length bs) (with_variable b.sort frame) y ((b.name.name, frame.next) ∷ scope) → Bound around (length (b ∷ bs)) frame y scope
    through later = record { opens = later.opens; first = later.first; next = omega (arith, later.next) }

empty_opens : (around : List Stretch) (first : ℕ) (scope : Scope) → Known around scope → Opens around (empty_frame first) scope
empty_opens around first scope known = record {
  low = omega arith;
  rows = tt;
  known = known_wider around (own (empty_frame first) ∷ around) (λ v h. inr h) scope known;
  none = refl;
}

-- how many binders are written
abbrev pub written : Option plain.Quantifier → ℕ
written None = 0
written (Some q) = length q.binders

with_rows : (around : List Stretch) (frame : Frame) (scope : Scope) (rows : List Linear) → Opens around frame scope → AreForms (own frame ∷ around) rows
    → Opens around (record frame { rows = rows }) scope
with_rows around frame scope rows o are = record { low = o.low; rows = are; known = o.known; none = o.none }

pub opened_opens : (around : List Stretch) (q : Option plain.Quantifier) (first : ℕ) (scope : Scope) (y : Frame × Scope) → Known around scope
    → opened q first scope ≡ Ok y → Bound around (written q) (empty_frame first) y scope
unfolding opened
opened_opens around None first scope y known e =
    subst (λ z. Bound around 0 (empty_frame first) z scope) (ok_same (empty_frame first, scope) y e)
    (record { opens = empty_opens around first scope known; first = refl; next = omega arith })
opened_opens around (Some q) first scope y known e =
    let s = then_ok (bind q.binders (empty_frame first) scope)
    (λ z. relations_in z.1 q.relations z.0.rows >>= (λ rows. Ok (record z.0 { rows = rows }, z.1))) y e in
    let t = then_ok (relations_in s.value.1 q.relations s.value.0.rows) (λ rows. Ok (record s.value.0 { rows = rows }, s.value.1)) y s.second in
    let b = bind_opens around q.binders (empty_frame first) scope s.value (empty_opens around first scope known) s.first in
    let are = relations_are _ s.value.1 q.relations _ t.value b.opens.known b.opens.rows t.first in
    subst (λ z. Bound around (length q.binders) (empty_frame first) z scope) (ok_same (record s.value.0 { rows = t.value }, s.value.1) y t.second)
    (record { opens = with_rows around s.value.0 s.value.1 t.value b.opens are; first = b.first; next = b.next })

-- ---- what is known of declared types while they are read: those of these numbers are there

pub record Fits (types : Types) (P : List Packing) : Type 0 where
  pub cells : (n : ℕ) → n < length types.names → (held : Kind) × (cell_kind P (suc (suc n)) ≡ Some held)
  pub tuples : (n : ℕ) → n < length types.names → get_or types.tuples n false ≡ true → (packing : Packing) × (tuple_packing P (suc (suc n)) ≡ Some packing)

-- the number of a declared type
pub record Numbered (types : Types) (number : ℕ) : Type 0 where
  pub place : ℕ
  pub within : place < length types.names
  pub is : number ≡ suc (suc place)

abbrev two_more : Option ℕ → Option ℕ
two_more None = None
two_more (Some n) = Some (n + 2)

type_number_is : (name : List ℕ) (types : Types) (number : ℕ) → type_number name types ≡ Some number → Numbered types number
unfolding type_number place
type_number_is name types number e = by (place name types.names) refl e
  where
    by : (o : Option ℕ) → place name types.names ≡ o → two_more o ≡ Some number → Numbered types number
    by None found same = absurd (cc)
    by (Some n) found same = record {
      place = n;
      within = (position-Some (bytes_eq name) types.names n [] found).0;
      is = sym (same_Some (n + 2) number same) ∙ omega arith;
    }

pub element_is : (types : Types) (P : List Packing) (cell : Element) (number : ℕ) → Fits types P → element_number types cell ≡ Ok number
    → (held : Kind) × (cell_kind P number ≡ Some held)
unfolding element_number
element_is types P (element.Int at) number fits e = (_, ap (cell_kind P) (sym (ok_same 0 number e)))
element_is types P (element.Bool at) number fits e = (_, ap (cell_kind P) (sym (ok_same 1 number e)))
element_is types P (element.Named name) number fits e =
    let n = type_number_is name.name types number (known_name name.at _ number e) in
    let held = fits.cells n.place n.within in
    (held.0, ap (cell_kind P) n.is ∙ held.1)

pub tuple_number_is : (types : Types) (P : List Packing) (name : Identifier) (number : ℕ) → Fits types P → tuple_type types name ≡ Ok number
    → (packing : Packing) × (tuple_packing P number ≡ Some packing)
unfolding tuple_type
tuple_number_is types P name number fits e =
    let s = then_ok (or_unknown name.at (type_number name.name types)) _ number e in
    let n = type_number_is name.name types s.value (known_name name.at _ s.value s.first) in
    let w = where_ok (unwrap_or (slice_get types.tuples (s.value - 2)) false) _ _ (Ok s.value) number s.second in
    let at : s.value - 2 ≡ n.place = omega (arith, n.is) in
    let flag : get_or types.tuples n.place false ≡ true =
    sym (unwrap_or-slice_get types.tuples n.place false) ∙ sym (ap (λ k. unwrap_or (slice_get types.tuples k) false) at) ∙ w.0 in
    let it = fits.tuples n.place n.within flag in
    (it.0, ap (tuple_packing P) (sym (ok_same s.value number w.1) ∙ n.is) ∙ it.1)

-- ---- types under a quantifier

pub record Frames (P : List Packing) (around : List Stretch) (frame : Frame) (scope : Scope) (made : List CoreTy) (bare_from : ℕ) : Type 0 where
  pub low : frame.first ≤ frame.next
  pub from : bare_from ≤ frame.next
  pub rows : AreForms (own frame ∷ around) frame.rows
  pub known : Known (own frame ∷ around) scope
  pub types : AllByRecursion (IsType P (own frame ∷ around)) made
  pub indices : AllByRecursion (λ v. SomeTells v made) frame.indices
  pub bare : (v : ℕ) → bare_from ≤ v → v < frame.next → SomeTells v made

-- a form that is an index, behind which this frame stands
pub record Sized (around : List Stretch) (frame : Frame) (made : List CoreTy) (form : Linear) (more : Frame) : Type 0 where
  pub wider : Wider frame more
  pub rows : AreForms (own more ∷ around) more.rows
  pub is : IsForm (own more ∷ around) form
  pub indices : AllByRecursion (λ v. SomeTells v made ⊎ (form ≡ variable_alone v)) more.indices
  pub bare : (v : ℕ) → frame.next ≤ v → v < more.next → form ≡ variable_alone v

tells_left : (v : ℕ) (xs ys : List CoreTy) → SomeTells v xs → SomeTells v (xs ++ ys)
tells_left v [] ys h = absurd h
tells_left v (x ∷ xs) ys (inl h) = inl h
tells_left v (x ∷ xs) ys (inr h) = inr (tells_left v xs ys h)

tells_last : (v : ℕ) (xs : List CoreTy) (t : CoreTy) → Tells v t → SomeTells v (xs ++ (t ∷ []))
tells_last v [] t h = inl h
tells_last v (x ∷ xs) t h = inr (tells_last v xs t h)

tells_either : (v : ℕ) (xs : List CoreTy) (t : CoreTy) → SomeTells v xs ⊎ Tells v t → SomeTells v (xs ++ (t ∷ []))
tells_either v xs t (inl h) = tells_left v xs (t ∷ []) h
tells_either v xs t (inr h) = tells_last v xs t h

before_or_from : (v n : ℕ) → (v < n) ⊎ (n ≤ v)
before_or_from v n = grind arith

one_type : (P : List Packing) (around : List Stretch) (frame : Frame) (scope : Scope) (made : List CoreTy) (bare_from : ℕ) (t : CoreTy) (more : Frame)
    → Frames P around frame scope made bare_from → Wider frame more → AreForms (own more ∷ around) more.rows → IsType P (own more ∷ around) t
    → AllByRecursion (λ v. SomeTells v made ⊎ Tells v t) more.indices → ((v : ℕ) → frame.next ≤ v → v < more.next → Tells v t)
    → Frames P around more scope (made ++ (t ∷ [])) bare_from
one_type P around frame scope made bare_from t more f w rows is indices bare = record {
  low = omega (arith, f.low, w.first, w.next);
  from = omega (arith, f.from, w.next);
  rows = rows;
  known = known_wider (own frame ∷ around) (own more ∷ around) (reach_wider around frame more f.low w) scope f.known;
  types = all_with (IsType P (own more ∷ around)) made t
      (all_weaker (IsType P (own frame ∷ around)) (IsType P (own more ∷ around)) (type_wider P _ _ (reach_wider around frame more f.low w)) made f.types) is;
  indices = all_weaker (λ v. SomeTells v made ⊎ Tells v t) (λ v. SomeTells v (made ++ (t ∷ []))) (λ v. tells_either v made t) more.indices indices;
  bare = λ v from below. by v from below (before_or_from v frame.next);
}
  where
    by : (v : ℕ) → bare_from ≤ v → v < more.next → (v < frame.next) ⊎ (frame.next ≤ v) → SomeTells v (made ++ (t ∷ []))
    by v from below (inl before) = tells_left v made (t ∷ []) (f.bare v from before)
    by v from below (inr behind) = tells_last v made t (bare v behind below)

bare_size : (P : List Packing) (around : List Stretch) (frame : Frame) (scope : Scope) (made : List CoreTy) (bare_from : ℕ) (kind : Sort)
    → Frames P around frame scope made bare_from → Sized around frame made (variable_form frame.next) (with_variable kind frame)
unfolding with_variable variable_form
bare_size P around frame scope made bare_from kind f = record {
  wider = with_variable_wider kind frame;
  rows = with_variable_rows around kind frame f.low f.rows;
  is = variable_is _ frame.next (next_within around kind frame f.low);
  indices = all_weaker (λ v. SomeTells v made) (λ v. SomeTells v made ⊎ (variable_alone frame.next ≡ variable_alone v)) (λ v h. inl h) frame.indices f.indices;
  bare = λ v from below. ap variable_alone (omega (arith, from, below));
}

-- ---- an index

all_insert_key : (Q : ℕ → Type 0) (xs : List ℕ) (k : ℕ) → AllByRecursion Q xs → Q k → AllByRecursion Q (insert_key nat_cmp xs k)
all_insert_key Q [] k h q = (q, tt)
all_insert_key Q (x ∷ xs) k h q = by (nat_cmp k x) (all_insert_key Q xs k h.1 q)
  where
    by : (o : Ordering) → AllByRecursion Q (insert_key nat_cmp xs k)
        → AllByRecursion Q (match_ordering o (k ∷ x ∷ xs) (x ∷ xs) (x ∷ insert_key nat_cmp xs k))
    by Less later = (q, (h.0, h.1))
    by Equal later = (h.0, h.1)
    by Greater later = (h.0, later)

decided : (b : Bool) (P : Type 0) → Decides b P → b ≡ true → P
decided b P d e = d.0 e

pair_is : (n : ℤ) (x v : ℕ) → n ≡ pos 1 → x ≡ v → ◌≡◌ {A = ℤ × ℕ} (n, x) (pos 1, v)
pair_is n x v one two = ap (λ m. (m, x)) one ∙ ap (λ y. (pos 1, y)) two

lone_one : (a b : Bool) (n : ℤ) (v w : ℕ) → (if a && b then Some v else None) ≡ Some w → (a ≡ true) × (b ≡ true) × (v ≡ w)
lone_one true true n v w e = (refl, refl, same_Some v w e)
lone_one true false n v w e = absurd (cc)
lone_one false b n v w e = absurd (cc)

lone_is : (terms : List (ℤ × ℕ)) (constant : ℤ) (v : ℕ) → lone terms constant ≡ Some v
    → ◌≡◌ {A = Linear} (record { terms = terms; constant = constant }) (variable_alone v)
unfolding lone
lone_is [] constant v e = absurd (cc)
lone_is (t ∷ []) constant v e =
    let h = lone_one (int_eq t.0 (pos 1)) (int_eq constant (pos 0)) constant t.1 v e in
    let coefficient : t.0 ≡ pos 1 = decided _ _ (Decides-int_eq t.0 (pos 1)) h.0 in
    let rest : constant ≡ pos 0 = decided _ _ (Decides-int_eq constant (pos 0)) h.1 in
    ap (λ u. record { terms = u ∷ []; constant = constant }) (pair_is t.0 t.1 v coefficient h.2) ∙ ap (λ n. record { terms = (pos 1, v) ∷ []; constant = n }) rest
lone_is (t ∷ u ∷ ts) constant v e = absurd (cc)

noted_are : (made : List CoreTy) (form : Linear) (o : Option ℕ) (indices : List ℕ) → ((v : ℕ) → o ≡ Some v → form ≡ variable_alone v)
    → AllByRecursion (λ v. SomeTells v made) indices → AllByRecursion (λ v. SomeTells v made ⊎ (form ≡ variable_alone v)) (noted o indices)
noted_are made form None indices is h = all_weaker (λ v. SomeTells v made) (λ v. SomeTells v made ⊎ (form ≡ variable_alone v)) (λ v k. inl k) indices h
noted_are made form (Some v) indices is h =
    all_insert_key (λ w. SomeTells w made ⊎ (form ≡ variable_alone w)) indices v
    (all_weaker (λ w. SomeTells w made) (λ w. SomeTells w made ⊎ (form ≡ variable_alone w)) (λ w k. inl k) indices h) (inr (is v refl))

index_size : (P : List Packing) (around : List Stretch) (frame : Frame) (scope : Scope) (made : List CoreTy) (bare_from : ℕ) (x : plain.IndexExpression)
    (y : Linear × Frame) → Frames P around frame scope made bare_from → index scope x frame ≡ Ok y → Sized around frame made y.0 y.1
unfolding index
index_size P around frame scope made bare_from x y f e =
    let s = then_ok (index_in scope Plus x (constant_form (pos 0)))
    (λ form. Ok (linear form, record frame { indices = noted (lone (linear form).terms (linear form).constant) frame.indices })) y e in
    subst (λ z. Sized around frame made z.0 z.1) (ok_same _ y s.second) (record {
      wider = record { first = refl; next = omega arith };
      rows = f.rows;
      is = linear_is _ s.value (index_keeps _ scope Plus x _ s.value f.known (constant_keeps _ (pos 0)) s.first);
      indices = noted_are made (linear s.value) _ frame.indices (λ v found. lone_is _ _ v found) f.indices;
      bare = λ v from below. absurd (omega (arith, from, below));
    })

length_size : (P : List Packing) (around : List Stretch) (frame : Frame) (scope : Scope) (made : List CoreTy) (bare_from : ℕ) (x : Option plain.IndexExpression)
    (y : Linear × Frame) → Frames P around frame scope made bare_from → length_of scope x frame ≡ Ok y → Sized around frame made y.0 y.1
unfolding length_of
length_size P around frame scope made bare_from None y f e =
    subst (λ z. Sized around frame made z.0 z.1) (ok_same (variable_form frame.next, with_variable sort.Nat frame) y e) (bare_size P around frame scope made bare_from sort.Nat f)
length_size P around frame scope made bare_from (Some x) y f e = index_size P around frame scope made bare_from x y f e

-- ---- types

pub record Typed (P : List Packing) (around : List Stretch) (frame : Frame) (scope : Scope) (made : List CoreTy) (bare_from : ℕ) (more : Frame) : Type 0 where
  pub frames : Frames P around more scope made bare_from
  pub wider : Wider frame more

sized_type : (P : List Packing) (around : List Stretch) (frame : Frame) (scope : Scope) (made : List CoreTy) (bare_from : ℕ) (t : CoreTy) (form : Linear) (more : Frame)
    → Frames P around frame scope made bare_from → Sized around frame made form more → (IsForm (own more ∷ around) form → IsType P (own more ∷ around) t)
    → ((v : ℕ) → form ≡ variable_alone v → Tells v t) → Typed P around frame scope (made ++ (t ∷ [])) bare_from more
sized_type P around frame scope made bare_from t form more f s is tells = record {
  frames = one_type P around frame scope made bare_from t more f s.wider s.rows (is s.is)
      (all_weaker (λ v. SomeTells v made ⊎ (form ≡ variable_alone v)) (λ v. SomeTells v made ⊎ Tells v t) (λ v h. elim h [ inl k ↦ inl k | inr k ↦ inr (tells v k) ]) more.indices s.indices)
      (λ v from below. tells v (s.bare v from below));
  wider = s.wider;
}

plain_type : (P : List Packing) (around : List Stretch) (frame : Frame) (scope : Scope) (made : List CoreTy) (bare_from : ℕ) (t : CoreTy)
    → Frames P around frame scope made bare_from → IsType P (own frame ∷ around) t → Typed P around frame scope (made ++ (t ∷ [])) bare_from frame
plain_type P around frame scope made bare_from t f is = record {
  frames = one_type P around frame scope made bare_from t frame f (record { first = refl; next = omega arith }) f.rows is
      (all_weaker (λ v. SomeTells v made) (λ v. SomeTells v made ⊎ Tells v t) (λ v h. inl h) frame.indices f.indices)
      (λ v from below. absurd (omega (arith, from, below)));
  wider = record { first = refl; next = omega arith };
}

pub type_is : (P : List Packing) (around : List Stretch) (types : Types) (frame : Frame) (scope : Scope) (made : List CoreTy) (bare_from : ℕ) (t : plain.WrittenType)
    (y : CoreTy × Frame) → Fits types P → Frames P around frame scope made bare_from → type_in types scope t frame ≡ Ok y
    → Typed P around frame scope (made ++ (y.0 ∷ [])) bare_from y.1
unfolding type_in
type_is P around types frame scope made bare_from (plain.Int at) y fits f e =
    subst (λ z. Typed P around frame scope (made ++ (z.0 ∷ [])) bare_from z.1) (ok_same (ty.Int (variable_form frame.next), with_variable sort.Int frame) y e)
    (sized_type P around frame scope made bare_from _ _ _ f (bare_size P around frame scope made bare_from sort.Int f) (λ is. is) (λ v is. is))
type_is P around types frame scope made bare_from (plain.IntOf x at) y fits f e =
    let s = then_ok (index scope x frame) (λ z. Ok (ty.Int z.0, z.1)) y e in
    subst (λ z. Typed P around frame scope (made ++ (z.0 ∷ [])) bare_from z.1) (ok_same (ty.Int s.value.0, s.value.1) y s.second)
    (sized_type P around frame scope made bare_from _ _ _ f (index_size P around frame scope made bare_from x s.value f s.first) (λ is. is) (λ v is. is))
type_is P around types frame scope made bare_from (plain.Bool at) y fits f e =
    subst (λ z. Typed P around frame scope (made ++ (z.0 ∷ [])) bare_from z.1) (ok_same (ty.Bool, frame) y e) (plain_type P around frame scope made bare_from ty.Bool f tt)
type_is P around types frame scope made bare_from (plain.Named name) y fits f e =
    let s = then_ok (tuple_type types name) (λ number. Ok (ty.Named number, frame)) y e in
    subst (λ z. Typed P around frame scope (made ++ (z.0 ∷ [])) bare_from z.1) (ok_same (ty.Named s.value, frame) y s.second)
    (plain_type P around frame scope made bare_from (ty.Named s.value) f (tuple_number_is types P name s.value fits s.first))
type_is P around types frame scope made bare_from (plain.Array cell size) y fits f e =
    let s = then_ok (element_number types cell) (λ number. length_of scope size frame >>= (λ z. Ok (ty.Array number z.0, z.1))) y e in
    let t = then_ok (length_of scope size frame) (λ z. Ok (ty.Array s.value z.0, z.1)) y s.second in
    subst (λ z. Typed P around frame scope (made ++ (z.0 ∷ [])) bare_from z.1) (ok_same (ty.Array s.value t.value.0, t.value.1) y t.second)
    (sized_type P around frame scope made bare_from _ _ _ f (length_size P around frame scope made bare_from size t.value f t.first)
    (λ is. (element_is types P cell s.value fits s.first, is)) (λ v is. is))
