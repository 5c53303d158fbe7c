-- What the locals of a body promise at a place of its core, and how they grow.
use Rattle.std.proofs.Common.{◌≡◌, sym, ap, subst, ℕ, zero, suc, ◌+◌, ◌<◌, List, [], ◌∷◌, ◌++◌, length, Some, Ok, refl, arith, ◌∙◌, inl, inr, append_assoc}
use Rattle.std.specs.Prelude.{slice_get, unwrap_or}
use Rattle.std.specs.List.{AllByRecursion, AllZip, range_with_len}
use Rattle.xanadu_tree.specs.declared.types.CoreTy.{CoreTy}
use Rattle.xanadu_tree.specs.declared.types.Kind.{Kind}
use Rattle.xanadu_tree.specs.declared.types.Kind.TheVariants as kind
use Rattle.xanadu_tree.specs.declared.types.Packing.{Packing}
use Rattle.xanadu_tree.specs.declared.tree.declaration.Identifier.{Identifier}
use Rattle.xanadu_tree.specs.KindRules.{kind_of, IsValue, IsAmong}
use Rattle.xanadu_tree.specs.BodyRules.{Point, declaring, behind_block as behind}
use Rattle.type_shapes.specs.declared.error.ShapeKind.TheVariants.{NamedTwice}
use Rattle.type_shapes.specs.Kinds.{kind_at}
use Rattle.type_shapes.specs.Names.{first}
use Rattle.expression_shapes.specs.Sites.{Locals, declared, new_variable, behind_block, without, variable_kind}
use Rattle.scope_shapes.specs.Statements.{split_names}
use Rattle.type_shapes.proofs.ShapedLists.{then_ok, ok_same, unless_ok, all_weaker, all_with, all_at, Begins, begins_same, begins_with, begins_through, begins_get, Ends, ends_same, ends_with, ends_through, ends_left, length_both}
use Rattle.type_shapes.proofs.ShapedForms.{Known}
use Rattle.expression_shapes.proofs.ShapedKinds.{IsKind}
use Rattle.expression_shapes.proofs.ShapedExpressions.{Seen, Sees, at_place}

-- a variable that a name means is visible, and has a kind
pub record IsVariable (visible : List ℕ) (kinds : List Kind) (x : ℕ) : Type 0 where
  pub among : IsAmong visible x
  pub below : x < length kinds

abbrev pub IsGood : List Packing → Kind → Type 0
IsGood P k = IsValue k × IsKind P k

pub record Stands (P : List Packing) (locals : Locals) (point : Point) : Type 0 where
  pub names : AllByRecursion (λ e. IsVariable point.visible locals.kinds e.1) locals.variables
  pub good : AllByRecursion (IsGood P) locals.kinds
  pub variables : point.variables ≡ length locals.kinds
  pub known : Known point.reach locals.indices
  pub indices : point.indices ≡ locals.next

pub record Grows (low high : Locals) : Type 0 where
  pub variables : Ends low.variables high.variables
  pub kinds : Begins low.kinds high.kinds
  pub indices : Ends low.indices high.indices

pub grows_same : (locals : Locals) → Grows locals locals
grows_same locals = record { variables = ends_same locals.variables; kinds = begins_same locals.kinds; indices = ends_same locals.indices }

pub grows_through : (a b c : Locals) → Grows a b → Grows b c → Grows a c
grows_through a b c one two = record {
  variables = ends_through a.variables b.variables c.variables one.variables two.variables;
  kinds = begins_through a.kinds b.kinds c.kinds one.kinds two.kinds;
  indices = ends_through a.indices b.indices c.indices one.indices two.indices;
}

-- ---- what is visible

get_below : (ks : List Kind) (n : ℕ) → n < length ks → (k : Kind) × (slice_get ks n ≡ Some k)
get_below [] n below = absurd (omega (arith, below))
get_below (k ∷ ks) zero below = (k, refl)
get_below (k ∷ ks) (suc n) below = get_below ks n (omega (arith, below))

pub seen_one : (P : List Packing) (locals : Locals) (kinds : List Kind) (visible : List ℕ) (x : ℕ) → AllByRecursion (IsGood P) locals.kinds → Begins locals.kinds kinds
    → IsVariable visible locals.kinds x → Seen P locals kinds visible x
seen_one P locals kinds visible x good begins v =
    let k = get_below locals.kinds x v.below in
    let is : k.0 ≡ variable_kind locals.kinds x = sym (ap (λ o. unwrap_or o kind.Unit) k.1) in
    let g = all_at (IsGood P) locals.kinds x k.0 good k.1 in
    record {
      among = v.among;
      has = begins_get locals.kinds kinds x k.0 begins k.1 ∙ ap Some is;
      value = subst IsValue is g.0;
      is = subst (IsKind P) is g.1;
    }

pub sees : (P : List Packing) (locals : Locals) (point : Point) (kinds : List Kind) → Stands P locals point → Begins locals.kinds kinds → Sees P locals kinds point.visible
sees P locals point kinds s begins =
    all_weaker (λ e. IsVariable point.visible locals.kinds e.1) (λ e. Seen P locals kinds point.visible e.1)
    (λ e. seen_one P locals kinds point.visible e.1 s.good begins) locals.variables s.names

-- ---- declarations

among_more : (v n : ℕ) (visible : List ℕ) (x : ℕ) → IsAmong (range_with_len v n ++ visible) x → IsAmong (range_with_len v (suc n) ++ visible) x
among_more v zero visible x h = inr h
among_more v (suc n) visible x (inl h) = inl h
among_more v (suc n) visible x (inr h) = inr (among_more (v + 1) n visible x h)

among_last : (v n : ℕ) (visible : List ℕ) (x : ℕ) → x ≡ v + n → IsAmong (range_with_len v (suc n) ++ visible) x
among_last v zero visible x h = inl (omega (arith, h))
among_last v (suc n) visible x h = inr (among_last (v + 1) n visible x (omega (arith, h)))

pub range_last : (v n : ℕ) → range_with_len v n ++ ((v + n) ∷ []) ≡ range_with_len v (suc n)
range_last v zero = let h : v + 0 ≡ v = omega arith in ap (λ x. x ∷ []) h
range_last v (suc n) =
    let h : v + suc n ≡ (v + 1) + n = omega arith in
    ap (λ x. v ∷ (range_with_len (v + 1) n ++ (x ∷ []))) h ∙ ap (λ xs. v ∷ xs) (range_last (v + 1) n)

pub declared_stands : (P : List Packing) (name : Identifier) (k : Kind) (locals : Locals) (point : Point) (n : ℕ) → IsGood P k → Stands P locals (declaring n point)
    → Stands P (declared name k locals).1 (declaring (suc n) point)
unfolding declared
declared_stands P name k locals point n good s = record {
  names = (
    record {
      among = among_last point.variables n point.visible (length locals.kinds) (omega (arith, s.variables));
      below = omega (arith, length_both locals.kinds (k ∷ []));
    },
    all_weaker (λ e. IsVariable (range_with_len point.variables n ++ point.visible) locals.kinds e.1)
        (λ e. IsVariable (range_with_len point.variables (suc n) ++ point.visible) (locals.kinds ++ (k ∷ [])) e.1)
        (λ e h. record { among = among_more point.variables n point.visible e.1 h.among; below = omega (arith, length_both locals.kinds (k ∷ []), h.below) })
        locals.variables s.names,
  );
  good = all_with (IsGood P) locals.kinds k s.good good;
  variables = omega (arith, s.variables, length_both locals.kinds (k ∷ []));
  known = s.known;
  indices = s.indices;
}

pub declared_grows : (name : Identifier) (k : Kind) (locals : Locals) → Grows locals (declared name k locals).1
unfolding declared
declared_grows name k locals = record {
  variables = ends_with locals.variables (name.name, length locals.kinds);
  kinds = begins_with locals.kinds k;
  indices = ends_same locals.indices;
}

pub declaring_none : (P : List Packing) (locals : Locals) (point : Point) → Stands P locals point → Stands P locals (declaring 0 point)
declaring_none P locals point s = record { names = s.names; good = s.good; variables = omega (arith, s.variables); known = s.known; indices = s.indices }

-- the kind of the variable that was declared last
pub declared_kind : (ks : List Kind) (k : Kind) → slice_get (ks ++ (k ∷ [])) (length ks) ≡ Some k
declared_kind [] k = refl
declared_kind (j ∷ ks) k = declared_kind ks k

-- ---- the names of a tuple's parts

abbrev pub HasPart : List Kind → ℕ → CoreTy → Type 0
HasPart kinds x part = slice_get kinds x ≡ Some (kind_of part)

zip_with : (R : ℕ → CoreTy → Type 0) (xs : List ℕ) (ts : List CoreTy) (x : ℕ) (t : CoreTy) → AllZip R xs ts → R x t → AllZip R (xs ++ (x ∷ [])) (ts ++ (t ∷ []))
zip_with R [] [] x t z r = (r, tt)
zip_with R [] (u ∷ ts) x t z r = absurd z
zip_with R (y ∷ xs) [] x t z r = absurd z
zip_with R (y ∷ xs) (u ∷ ts) x t z r = (z.0, zip_with R xs ts x t z.1 r)

pub record Splits (P : List Packing) (point : Point) (parts : List CoreTy) (locals : Locals) (y : List ℕ × Locals) : Type 0 where
  pub next : y.0 ≡ range_with_len point.variables (length parts)
  pub stands : Stands P y.1 (declaring (length parts) point)
  pub grows : Grows locals y.1
  pub has : (kinds : List Kind) → Begins y.1.kinds kinds → AllZip (HasPart kinds) y.0 parts

-- the names so far, of the parts in front
pub record Front (P : List Packing) (point : Point) (front : List CoreTy) (start : Locals) (numbers : List ℕ) (locals : Locals) : Type 0 where
  pub next : numbers ≡ range_with_len point.variables (length front)
  pub count : length numbers ≡ length front
  pub stands : Stands P locals (declaring (length front) point)
  pub grows : Grows start locals
  pub has : (kinds : List Kind) → Begins locals.kinds kinds → AllZip (HasPart kinds) numbers front

one_more : {A : Type 0} (xs : List A) (x : A) → length (xs ++ (x ∷ [])) ≡ suc (length xs)
one_more xs x = omega (arith, length_both xs (x ∷ []))

front_with : (P : List Packing) (point : Point) (front : List CoreTy) (start : Locals) (numbers : List ℕ) (locals : Locals) (name : Identifier) (t : CoreTy)
    → IsGood P (kind_of t) → Front P point front start numbers locals
    → Front P point (front ++ (t ∷ [])) start (numbers ++ ((declared name (kind_of t) locals).0 ∷ [])) (declared name (kind_of t) locals).1
unfolding declared
front_with P point front start numbers locals name t good f =
    let more = one_more front t in
    let number : length locals.kinds ≡ point.variables + length front = sym f.stands.variables in
    record {
      next = ap (λ xs. xs ++ (length locals.kinds ∷ [])) f.next ∙ ap (λ x. range_with_len point.variables (length front) ++ (x ∷ [])) number
          ∙ range_last point.variables (length front) ∙ ap (range_with_len point.variables) (sym more);
      count = omega (arith, one_more numbers (length locals.kinds), more, f.count);
      stands = subst (λ n. Stands P (declared name (kind_of t) locals).1 (declaring n point)) (sym more) (declared_stands P name (kind_of t) locals point (length front) good f.stands);
      grows = grows_through start locals (declared name (kind_of t) locals).1 f.grows (declared_grows name (kind_of t) locals);
      has = λ kinds begins. zip_with (HasPart kinds) numbers front (length locals.kinds) t
          (f.has kinds (begins_through locals.kinds (locals.kinds ++ (kind_of t ∷ [])) kinds (begins_with locals.kinds (kind_of t)) begins))
          (begins_get (locals.kinds ++ (kind_of t ∷ [])) kinds (length locals.kinds) (kind_of t) begins (declared_kind locals.kinds (kind_of t)));
    }

pub split_are : (P : List Packing) (point : Point) (names : List Identifier) (front back parts : List CoreTy) (start : Locals) (numbers : List ℕ) (locals : Locals) (y : List ℕ × Locals)
    → parts ≡ front ++ back → length names ≡ length back → AllByRecursion (λ t. IsGood P (kind_of t)) back → Front P point front start numbers locals
    → split_names names parts numbers locals ≡ Ok y → Splits P point parts start y
unfolding split_names new_variable
split_are P point [] front [] parts start numbers locals y is n good f e =
    let same = ok_same (numbers, locals) y e in
    let all : parts ≡ front = is ∙ append_none front in
    subst (Splits P point parts start) same (subst (λ ts. Splits P point ts start (numbers, locals)) (sym all)
    (record { next = f.next; stands = f.stands; grows = f.grows; has = f.has }))
  where
    append_none : (xs : List CoreTy) → xs ++ [] ≡ xs
    append_none [] = refl
    append_none (x ∷ xs) = ap (λ ys. x ∷ ys) (append_none xs)
split_are P point [] front (t ∷ back) parts start numbers locals y is n good f e = absurd (omega (arith, n))
split_are P point (name ∷ names) front [] parts start numbers locals y is n good f e = absurd (omega (arith, n))
split_are P point (name ∷ names) front (t ∷ back) parts start numbers locals y is n good f e =
    let here : kind_at parts (length numbers) ≡ kind_of t = ap (λ ts. kind_at ts (length numbers)) is ∙ ap (kind_at (front ++ (t ∷ back))) f.count ∙ at_place front t back in
    let s = then_ok (new_variable name (kind_at parts (length numbers)) locals) (λ z. split_names names parts (numbers ++ (z.0 ∷ [])) z.1) y e in
    let u = unless_ok _ NamedTwice name.at (Ok (declared name (kind_at parts (length numbers)) locals)) s.value s.first in
    let same : declared name (kind_of t) locals ≡ s.value = ap (λ k. declared name k locals) (sym here) ∙ ok_same _ s.value u.1 in
    let g = subst (λ z. Front P point (front ++ (t ∷ [])) start (numbers ++ (z.0 ∷ [])) z.1) same (front_with P point front start numbers locals name t good.0 f) in
    split_are P point names (front ++ (t ∷ [])) back parts start (numbers ++ (s.value.0 ∷ [])) s.value.1 y (is ∙ sym (append_assoc front (t ∷ []) back)) (omega (arith, n)) good.1 g s.second

pub front_none : (P : List Packing) (point : Point) (locals : Locals) → Stands P locals point → Front P point [] locals [] locals
front_none P point locals s = record { next = refl; count = refl; stands = declaring_none P locals point s; grows = grows_same locals; has = λ kinds begins. tt }

-- ---- behind a block

pub block_stands : (P : List Packing) (outer inner : Locals) (before after : Point) → Stands P outer before → Stands P inner after → Grows outer inner
    → Stands P (behind_block outer inner) (behind before after)
unfolding without first
block_stands P outer inner before after o i g =
    let variables = ends_left outer.variables inner.variables g.variables in
    let indices = ends_left outer.indices inner.indices g.indices in
    record {
      names = subst (AllByRecursion (λ e. IsVariable before.visible inner.kinds e.1)) (sym variables)
          (all_weaker (λ e. IsVariable before.visible outer.kinds e.1) (λ e. IsVariable before.visible inner.kinds e.1)
          (λ e h. record { among = h.among; below = longer e.1 h.below }) outer.variables o.names);
      good = i.good;
      variables = i.variables;
      known = subst (Known before.reach) (sym indices) o.known;
      indices = i.indices;
    }
  where
    longer : (x : ℕ) → x < length outer.kinds → x < length inner.kinds
    longer x below = omega (arith, below, ap length g.kinds.is, length_both outer.kinds g.kinds.rest)

pub block_grows : (outer inner : Locals) → Grows outer inner → Grows outer (behind_block outer inner)
unfolding without first
block_grows outer inner g = record {
  variables = subst (Ends outer.variables) (sym (ends_left outer.variables inner.variables g.variables)) (ends_same outer.variables);
  kinds = g.kinds;
  indices = subst (Ends outer.indices) (sym (ends_left outer.indices inner.indices g.indices)) (ends_same outer.indices);
}
