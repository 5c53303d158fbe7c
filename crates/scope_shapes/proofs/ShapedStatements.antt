-- Each statement that is read keeps the rules of a core: one case for each form.
use Rattle.std.proofs.Common.{◌≡◌, sym, ap, subst, ℕ, true, List, [], ◌∷◌, length, Option, Some, None, Ok, refl, ◌∙◌, inl, inr}
use Rattle.std.specs.Prelude.{slice_get, is_some}
use Rattle.std.specs.List.{AllByRecursion}
use Rattle.xanadu_tree.specs.declared.types.CoreTy.{CoreTy}
use Rattle.xanadu_tree.specs.declared.types.Kind.{Kind}
use Rattle.xanadu_tree.specs.declared.types.Kind.TheVariants as kind
use Rattle.xanadu_tree.specs.declared.tree.declaration.Identifier.{Identifier}
use Rattle.xanadu_tree.specs.IndexRules.{Stretch}
use Rattle.xanadu_tree.specs.KindRules.{kind_of, IsValue, Setting, HasKind}
use Rattle.xanadu_tree.specs.BodyRules.{IsType, Point, declaring, completes, IsCall, IsStatement}
use Rattle.xanadu_tree.specs.Plain as core
use Rattle.xanadu_tree.specs.PlainTree as plain
use Rattle.xanadu_tree.specs.Written.{expression_at}
use Rattle.type_shapes.specs.declared.error.ShapeKind.TheVariants.{NamedTwice}
use Rattle.type_shapes.specs.Faults.{Check, ◌>>=◌}
use Rattle.type_shapes.specs.Kinds.{element_kind, parts_of}
use Rattle.type_shapes.specs.Names.{meaning, or_unknown}
use Rattle.expression_shapes.specs.Sites.{Globals, Locals, Typed, variable, variable_kind, declared, asked, asked_array, asked_tuple, asked_value}
use Rattle.expression_shapes.specs.Expressions.{cell, call, count, expression, indexed, primary, arguments}
use Rattle.scope_shapes.specs.Statements.{Done, goes_on, ends, declare, split_names, parts_for, split, stored, assign, called, printed, return_none, return_value, returned}
use Rattle.expression_shapes.specs.Sites.{called as callee}
use Rattle.type_shapes.proofs.ShapedLists.{then_ok, ok_same, unless_ok, Begins, begins_same, begins_through, begins_get}
use Rattle.expression_shapes.proofs.ShapedKinds.{IsKind, kind_of_type, asked_is, asked_tuple_is, asked_value_is, counted_is, tuple_is}
use Rattle.expression_shapes.proofs.ShapedExpressions.{Knows, site, Sees, Has, variable_is}
use Rattle.expression_shapes.proofs.ShapedOperands.{expression_is, indexed_is, primary_is}
use Rattle.type_shapes.proofs.ShapedHeaders.{kind_is_value}
use Rattle.scope_shapes.proofs.ShapedPlaces.{IsGood, Stands, Grows, grows_same, sees, declared_stands, declared_grows, declared_kind, declaring_none, Splits, split_are, front_none}

-- from locals before a statement to those behind it
pub record Moves (globals : Globals) (given : Kind) (locals : Locals) (point : Point) (done : Done) (more : Locals) : Type 0 where
  pub after : Point
  pub stands : Stands globals.packings more after
  pub grows : Grows locals more
  pub is : (kinds : List Kind) → Begins more.kinds kinds → IsStatement (site globals kinds given) point done.stmt after
  pub completes : done.completes ≡ completes done.stmt

-- what is known of an expression at a place
abbrev Finds : Globals → Kind → Locals → Point → (List Kind → List ℕ → Type 0) → Type 0
Finds globals given locals point Q = (kinds : List Kind) → Begins locals.kinds kinds → Q kinds point.visible

read_expression : (globals : Globals) (given : Kind) (locals : Locals) (point : Point) (x : plain.Expression) (y : Typed) → Knows globals → Stands globals.packings locals point
    → expression globals locals x ≡ Ok y → (kinds : List Kind) → Begins locals.kinds kinds → Has (site globals kinds given) point.visible y
read_expression globals given locals point x y knows st e kinds begins =
    expression_is globals locals kinds given point.visible knows (sees globals.packings locals point kinds st begins) x y e

-- a statement that declares nothing
stays : (globals : Globals) (given : Kind) (locals : Locals) (point : Point) (done : Done) → Stands globals.packings locals point
    → ((kinds : List Kind) → Begins locals.kinds kinds → IsStatement (site globals kinds given) point done.stmt point) → done.completes ≡ completes done.stmt
    → Moves globals given locals point done locals
stays globals given locals point done st is same = record { after = point; stands = st; grows = grows_same locals; is = is; completes = same }

pub unchanged_is : (globals : Globals) (given : Kind) (locals : Locals) (point : Point) (m : Check Done) (y : Done × Locals)
    → ((done : Done) → m ≡ Ok done → Moves globals given locals point done locals) → (m >>= (λ done. Ok (done, locals))) ≡ Ok y → Moves globals given locals point y.0 y.1
unchanged_is globals given locals point m y moves e =
    let s = then_ok m (λ done. Ok (done, locals)) y e in
    subst (λ z. Moves globals given locals point z.0 z.1) (ok_same (s.value, locals) y s.second) (moves s.value s.first)

-- ---- declarations

declared_parts : (name : Identifier) (k : Kind) (locals : Locals)
    → ((declared name k locals).0 ≡ length locals.kinds) × (slice_get (declared name k locals).1.kinds (declared name k locals).0 ≡ Some k)
unfolding declared
declared_parts name k locals = (refl, declared_kind locals.kinds k)

pub declare_is : (globals : Globals) (given : Kind) (locals : Locals) (point : Point) (name : Identifier) (value : plain.Expression) (y : Done × Locals) → Knows globals
    → Stands globals.packings locals point → declare globals name value locals ≡ Ok y → Moves globals given locals point y.0 y.1
unfolding declare IsStatement
declare_is globals given locals point name value y knows st e =
    let u = unless_ok (is_some (meaning name.name locals.variables)) NamedTwice name.at _ y e in
    let s = then_ok (expression globals locals value) _ y u.1 in
    let t = then_ok (asked_value (expression_at value) s.value.kind) _ y s.second in
    let v = asked_value_is (expression_at value) s.value.kind t.value t.first in
    let has = read_expression globals given locals point value s.value knows st s.first in
    let here = has locals.kinds (begins_same locals.kinds) in
    let good : IsGood globals.packings t.value = (subst IsValue v.0 v.1, subst (IsKind globals.packings) v.0 here.is) in
    let new = declared_parts name t.value locals in
    subst (λ z. Moves globals given locals point z.0 z.1) (ok_same (goes_on (core.Set (declared name t.value locals).0 s.value.expr), (declared name t.value locals).1) y t.second) (record {
      after = declaring 1 point;
      stands = declared_stands globals.packings name t.value locals point 0 good (declaring_none globals.packings locals point st);
      grows = declared_grows name t.value locals;
      is = λ kinds begins.
          let earlier = begins_through locals.kinds (declared name t.value locals).1.kinds kinds (declared_grows name t.value locals).kinds begins in
          let h = has kinds earlier in (
            t.value,
            subst (HasKind (site globals kinds given) point.visible s.value.expr) v.0 h.has,
            good.0,
            begins_get _ kinds _ t.value begins new.1,
            inr (new.0 ∙ sym st.variables, refl),
          );
      completes = refl;
    })

pub split_is : (globals : Globals) (given : Kind) (locals : Locals) (point : Point) (names : List Identifier) (value : plain.Expression) (at : ℕ) (y : Done × Locals) → Knows globals
    → Stands globals.packings locals point → split globals names value at locals ≡ Ok y → Moves globals given locals point y.0 y.1
unfolding split IsStatement
split_is globals given locals point names value at y knows st e =
    let s = then_ok (expression globals locals value) _ y e in
    let t = then_ok (asked_tuple (expression_at value) s.value.kind) _ y s.second in
    let p = then_ok (parts_for globals t.value (length names) at) _ y t.second in
    let n = then_ok (split_names names p.value [] locals) _ y p.second in
    let has = read_expression globals given locals point value s.value knows st s.first in
    let is_tuple = asked_tuple_is (expression_at value) s.value.kind t.value t.first in
    let here = has locals.kinds (begins_same locals.kinds) in
    let tuple = subst (IsKind globals.packings) is_tuple here.is in
    let known = tuple_is globals.packings t.value tuple.0 tuple.1 in
    let packing = known.1 knows.packings in
    let c = counted_is at (length (parts_of globals.packings t.value)) (length names) (parts_of globals.packings t.value) p.value p.first in
    let parts : p.value ≡ tuple.0.parts = sym c.1 ∙ known.0 in
    let splits = split_are globals.packings point names [] tuple.0.parts p.value locals [] locals n.value parts
    (sym c.0 ∙ ap length known.0) (parts_good tuple.0.parts _ packing.parts) (front_none globals.packings point locals st) n.first in
    let same = subst (λ ts. Splits globals.packings point ts locals n.value) parts splits in
    subst (λ z. Moves globals given locals point z.0 z.1) (ok_same (goes_on (core.Split n.value.0 s.value.expr at), n.value.1) y n.second) (record {
      after = declaring (length tuple.0.parts) point;
      stands = same.stands;
      grows = same.grows;
      is = λ kinds begins.
          let h = has kinds (begins_through locals.kinds n.value.1.kinds kinds same.grows.kinds begins) in (
            t.value,
            tuple.0,
            subst (HasKind (site globals kinds given) point.visible s.value.expr) is_tuple h.has,
            tuple.1,
            record { next = same.next; kinds = same.has kinds begins; behind = refl },
          );
      completes = refl;
    })
  where
    parts_good : (ts : List CoreTy) (reach : List Stretch) → AllByRecursion (IsType globals.packings reach) ts → AllByRecursion (λ t. IsGood globals.packings (kind_of t)) ts
    parts_good [] reach are = tt
    parts_good (t ∷ ts) reach are = ((kind_is_value t, kind_of_type globals.packings reach t are.0), parts_good ts reach are.1)

-- ---- assignments

abbrev IsVar : core.Expr → Type 0
IsVar (core.Var x) = Unit {0}
IsVar _ = ⊥

abbrev IsIndex : core.Expr → Type 0
IsIndex (core.Index array index at) = Unit {0}
IsIndex _ = ⊥

variable_shape : (locals : Locals) (name : Identifier) (y : Typed) → variable locals name ≡ Ok y → IsVar y.expr
unfolding variable
variable_shape locals name y e =
    let s = then_ok (or_unknown name.at (meaning name.name locals.variables)) (λ n. Ok (record { expr = core.Var n; kind = variable_kind locals.kinds n })) y e in
    subst (λ z. IsVar z.expr) (ok_same (record { expr = core.Var s.value; kind = variable_kind locals.kinds s.value }) y s.second) tt

indexed_shape : (globals : Globals) (locals : Locals) (x : plain.Indices) (at : ℕ) (array y : Typed) → IsIndex array.expr → indexed globals locals x at array ≡ Ok y → IsIndex y.expr
unfolding expression
indexed_shape globals locals plain.NoIndex at array y is e = subst (λ z. IsIndex z.expr) (ok_same array y e) is
indexed_shape globals locals (plain.AnIndex index bracket_at others) at array y is e =
    let s = then_ok (asked_array at array.kind) _ y e in
    let t = then_ok (expression globals locals index) _ y s.second in
    let u = then_ok (asked kind.Int (expression_at index) t.value) _ y t.second in
    indexed_shape globals locals others at (cell array.expr u.value bracket_at (element_kind globals.packings s.value)) y tt u.second

cell_shape : (globals : Globals) (locals : Locals) (index : plain.Expression) (bracket_at : ℕ) (others : plain.Indices) (at : ℕ) (array y : Typed)
    → indexed globals locals (plain.AnIndex index bracket_at others) at array ≡ Ok y → IsIndex y.expr
unfolding expression
cell_shape globals locals index bracket_at others at array y e =
    let s = then_ok (asked_array at array.kind) _ y e in
    let t = then_ok (expression globals locals index) _ y s.second in
    let u = then_ok (asked kind.Int (expression_at index) t.value) _ y t.second in
    indexed_shape globals locals others at (cell array.expr u.value bracket_at (element_kind globals.packings s.value)) y tt u.second

set_variable : (set : Setting) (point : Point) (place value : core.Expr) (k : Kind) → IsVar place → HasKind set point.visible place k → IsValue k → HasKind set point.visible value k
    → IsStatement set point (stored place value) point
unfolding IsStatement HasKind
set_variable set point (core.Var x) value k is has good wanted = (k, wanted, good, has.1, inl (has.0, refl))
set_variable set point _ value k is has good wanted = absurd is

set_cell : (set : Setting) (point : Point) (place value : core.Expr) (k : Kind) → IsIndex place → HasKind set point.visible place k → HasKind set point.visible value k
    → IsStatement set point (stored place value) point
unfolding IsStatement HasKind
set_cell set point (core.Index array index at) value k is has wanted = (has.0, k, has.1, has.2, has.3, wanted, refl)
set_cell set point _ value k is has wanted = absurd is

stored_completes : (place value : core.Expr) → true ≡ completes (stored place value)
stored_completes (core.Var x) value = refl
stored_completes (core.Index array index at) value = refl
stored_completes _ value = refl

set_target : (globals : Globals) (locals : Locals) (kinds : List Kind) (given : Kind) (point : Point) (indices : plain.Indices) (at : ℕ) (v place : Typed) (value : core.Expr) → Knows globals
    → Sees globals.packings locals kinds point.visible → Has (site globals kinds given) point.visible v → IsValue v.kind → IsVar v.expr → indexed globals locals indices at v ≡ Ok place
    → HasKind (site globals kinds given) point.visible value place.kind → IsStatement (site globals kinds given) point (stored place.expr value) point
unfolding expression
set_target globals locals kinds given point plain.NoIndex at v place value knows see has good is e wanted =
    let same = ok_same v place e in
    set_variable (site globals kinds given) point place.expr value place.kind (subst (λ z. IsVar z.expr) same is)
    (subst (λ z. HasKind (site globals kinds given) point.visible z.expr z.kind) same has.has) (subst (λ z. IsValue z.kind) same good) wanted
set_target globals locals kinds given point (plain.AnIndex index bracket_at others) at v place value knows see has good is e wanted =
    let h = indexed_is globals locals kinds given point.visible knows see (plain.AnIndex index bracket_at others) at v place has e in
    set_cell (site globals kinds given) point place.expr value place.kind (cell_shape globals locals index bracket_at others at v place e) h.has wanted

pub assign_is : (globals : Globals) (given : Kind) (locals : Locals) (point : Point) (target : Identifier) (indices : plain.Indices) (value : plain.Expression) (y : Done) → Knows globals
    → Stands globals.packings locals point → assign globals locals target indices value ≡ Ok y → Moves globals given locals point y locals
unfolding assign
assign_is globals given locals point target indices value y knows st e =
    let v = then_ok (variable locals target) _ y e in
    let p = then_ok (indexed globals locals indices target.at v.value) _ y v.second in
    let x = then_ok (expression globals locals value) _ y p.second in
    let a = then_ok (asked p.value.kind (expression_at value) x.value) _ y x.second in
    subst (λ z. Moves globals given locals point z locals) (ok_same (goes_on (stored p.value.expr a.value)) y a.second)
    (stays globals given locals point (goes_on (stored p.value.expr a.value)) st
    (λ kinds begins.
    let see = sees globals.packings locals point kinds st begins in
    let h = variable_is globals locals kinds given point.visible target v.value see v.first in
    let wanted = asked_is (site globals kinds given) point.visible p.value.kind (expression_at value) x.value a.value a.first
    (read_expression globals given locals point value x.value knows st x.first kinds begins).has in
    set_target globals locals kinds given point indices target.at v.value p.value a.value knows see h.0 h.1 (variable_shape locals target v.value v.first) p.first wanted)
    (stored_completes p.value.expr a.value))

-- ---- calls, printing, returns

call_shape : (globals : Globals) (locals : Locals) (f : Identifier) (xs : plain.Expressions) (y : Typed) → primary globals locals (plain.Call f xs) ≡ Ok y → IsCall y.expr
unfolding expression
call_shape globals locals f xs y e =
    let s = then_ok (callee globals f (count xs)) _ y e in
    let t = then_ok (arguments globals locals xs s.value.1.params 0 []) _ y s.second in
    subst (λ z. IsCall z.expr) (ok_same (call s.value.0 t.value f.at s.value.1.given.kind) y t.second) tt

pub called_is : (globals : Globals) (given : Kind) (locals : Locals) (point : Point) (f : Identifier) (xs : plain.Expressions) (y : Done) → Knows globals
    → Stands globals.packings locals point → called globals locals f xs ≡ Ok y → Moves globals given locals point y locals
unfolding called IsStatement
called_is globals given locals point f xs y knows st e =
    let s = then_ok (primary globals locals (plain.Call f xs)) _ y e in
    subst (λ z. Moves globals given locals point z locals) (ok_same (goes_on (core.Do s.value.expr)) y s.second)
    (stays globals given locals point (goes_on (core.Do s.value.expr)) st
    (λ kinds begins.
    let h = primary_is globals locals kinds given point.visible knows (sees globals.packings locals point kinds st begins) (plain.Call f xs) s.value s.first in
    (s.value.kind, call_shape globals locals f xs s.value s.first, h.has, refl))
    refl)

pub printed_is : (globals : Globals) (given : Kind) (locals : Locals) (point : Point) (value : plain.Expression) (y : Done) → Knows globals
    → Stands globals.packings locals point → printed globals locals value ≡ Ok y → Moves globals given locals point y locals
unfolding printed IsStatement
printed_is globals given locals point value y knows st e =
    let s = then_ok (expression globals locals value) _ y e in
    let a = then_ok (asked kind.Int (expression_at value) s.value) _ y s.second in
    subst (λ z. Moves globals given locals point z locals) (ok_same (goes_on (core.Print a.value)) y a.second)
    (stays globals given locals point (goes_on (core.Print a.value)) st
    (λ kinds begins. (
      asked_is (site globals kinds given) point.visible kind.Int (expression_at value) s.value a.value a.first
          (read_expression globals given locals point value s.value knows st s.first kinds begins).has,
      refl,
    ))
    refl)

return_none_is : (given : Kind) (at : ℕ) (y : Done) → return_none given at ≡ Ok y → (given ≡ kind.Unit) × (ends (core.Return None at) ≡ y)
unfolding return_none
return_none_is kind.Unit at y e = (refl, ok_same (ends (core.Return None at)) y e)
return_none_is _ at y e = absurd (cc)

pub returned_is : (globals : Globals) (given : Kind) (locals : Locals) (point : Point) (value : Option plain.Expression) (at : ℕ) (y : Done) → Knows globals
    → Stands globals.packings locals point → returned globals given locals value at ≡ Ok y → Moves globals given locals point y locals
unfolding returned return_value IsStatement
returned_is globals given locals point None at y knows st e =
    let r = return_none_is given at y e in
    subst (λ z. Moves globals given locals point z locals) r.1
    (stays globals given locals point (ends (core.Return None at)) st (λ kinds begins. (r.0, refl)) refl)
returned_is globals given locals point (Some value) at y knows st e =
    let k = then_ok (asked_value at given) _ y e in
    let s = then_ok (expression globals locals value) _ y k.second in
    let a = then_ok (asked given (expression_at value) s.value) _ y s.second in
    let g = asked_value_is at given k.value k.first in
    subst (λ z. Moves globals given locals point z locals) (ok_same (ends (core.Return (Some a.value) at)) y a.second)
    (stays globals given locals point (ends (core.Return (Some a.value) at)) st
    (λ kinds begins. (
      (
        g.1,
        asked_is (site globals kinds given) point.visible given (expression_at value) s.value a.value a.first
            (read_expression globals given locals point value s.value knows st s.first kinds begins).has,
      ),
      refl,
    ))
    refl)
