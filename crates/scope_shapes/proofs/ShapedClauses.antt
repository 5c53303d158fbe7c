-- Clauses that are read keep the rules of a core.
use Rattle.std.proofs.Common.{◌≡◌, sym, ap, subst, ℕ, ◌+◌, ◌-◌, ◌<◌, Bool, true, false, List, [], ◌∷◌, ◌++◌, map, Option, Some, None, Ok, refl, arith, ◌∙◌, ◌⊎◌, inl, inr}
use Rattle.std.specs.Prelude.{◌||◌}
use Rattle.std.specs.List.{AllByRecursion}
use Rattle.std.specs.BTreeSet.{insert_key}
use Rattle.std.specs.declared.cmp.Ordering.{Ordering}
use Rattle.std.specs.declared.cmp.Ordering.TheVariants.{Less, Equal, Greater}
use Rattle.std.specs.Ordering.{nat_cmp, is_eq, match_ordering, MatchOrdering}
use Rattle.std.proofs.lemmas.Cmp.{ranked}
use Rattle.xanadu_tree.specs.declared.stmt.Clause.{Clause}
use Rattle.xanadu_tree.specs.declared.types.CoreTy.{CoreTy}
use Rattle.xanadu_tree.specs.declared.types.Kind.{Kind}
use Rattle.xanadu_tree.specs.declared.types.Packing.{Packing}
use Rattle.xanadu_tree.specs.declared.tree.index.Binder.{Binder}
use Rattle.xanadu_tree.specs.IndexRules.{Stretch, stretch_of}
use Rattle.xanadu_tree.specs.KindRules.{kind_of, IsAmong, Setting}
use Rattle.xanadu_tree.specs.BodyRules.{IsType, Point, stating, AreDifferent, IsStated, IsClauseIfAny}
use Rattle.xanadu_tree.specs.PlainTree as plain
use Rattle.type_shapes.specs.declared.error.ShapeKind.TheVariants.{NamedTwice, OtherKind}
use Rattle.type_shapes.specs.Kinds.{same_kind}
use Rattle.type_shapes.specs.Linears.{relations_in}
use Rattle.type_shapes.specs.Names.{Scope, Types, meaning, or_unknown}
use Rattle.type_shapes.specs.Quantifiers.{Frame, empty_frame, with_variable, is_from, bind, opened, is_index, type_in, closed}
use Rattle.expression_shapes.specs.Sites.{Globals, Locals, variable_kind}
use Rattle.scope_shapes.specs.Statements.{matching, clause_variable, clause_variables, clause, clause_or_none}
use Rattle.type_shapes.proofs.ShapedLists.{then_ok, ok_same, unless_ok, where_ok, all_with, all_found, Begins, begins_same, Ends, ends_same, ends_with, ends_through}
use Rattle.type_shapes.proofs.ShapedForms.{Known, known_name}
use Rattle.type_shapes.proofs.ShapedQuantifiers.{Wider, Frames, Fits, written, opened_opens, type_is}
use Rattle.type_shapes.proofs.ShapedTypes.{same_wider, wider_through, begins_frames, closed_is, closes}
use Rattle.expression_shapes.proofs.ShapedKinds.{same_kind_is}
use Rattle.expression_shapes.proofs.ShapedExpressions.{Knows, site}
use Rattle.scope_shapes.proofs.ShapedPlaces.{IsVariable, IsGood, Stands, Grows, grows_same, seen_one}

-- ---- names that a quantifier opens stand before those around it

bind_ends : (bs : List Binder) (frame : Frame) (scope : Scope) (y : Frame × Scope) → bind bs frame scope ≡ Ok y → Ends scope y.1
unfolding bind
bind_ends [] frame scope y e = subst (λ z. Ends scope z.1) (ok_same (frame, scope) y e) (ends_same scope)
bind_ends (b ∷ bs) frame scope y e =
    let u = unless_ok (is_from frame.first (meaning b.name.name scope)) NamedTwice b.name.at (bind bs (with_variable b.sort frame) ((b.name.name, frame.next) ∷ scope)) y e in
    ends_through scope ((b.name.name, frame.next) ∷ scope) y.1 (ends_with scope (b.name.name, frame.next)) (bind_ends bs (with_variable b.sort frame) ((b.name.name, frame.next) ∷ scope) y u.1)

opened_ends : (q : Option plain.Quantifier) (first : ℕ) (scope : Scope) (y : Frame × Scope) → opened q first scope ≡ Ok y → Ends scope y.1
unfolding opened
opened_ends None first scope y e = subst (λ z. Ends scope z.1) (ok_same (empty_frame first, scope) y e) (ends_same scope)
opened_ends (Some q) first scope y e =
    let s = then_ok (bind q.binders (empty_frame first) scope) _ y e in
    let t = then_ok (relations_in s.value.1 q.relations s.value.0.rows) _ y s.second in
    subst (λ z. Ends scope z.1) (ok_same (record s.value.0 { rows = t.value }, s.value.1) y t.second) (bind_ends q.binders (empty_frame first) scope s.value s.first)

-- ---- lists of names

or_right : (a b : Bool) → b ≡ true → (a || b) ≡ true
or_right true b h = refl
or_right false b h = h

or_left : (a b : Bool) → a ≡ true → (a || b) ≡ true
or_left true b h = refl
or_left false b h = absurd (cc)

at_itself : (x : ℕ) → is_eq (nat_cmp x x) ≡ true
at_itself x = by (nat_cmp x x) (ranked x x (nat_cmp x x) refl)
  where
    by : (o : Ordering) → MatchOrdering o (x < x) (x ≡ x) (x < x) → is_eq o ≡ true
    by Less h = absurd (omega (arith, h))
    by Equal h = refl
    by Greater h = absurd (omega (arith, h))

at_same : (x n : ℕ) → x ≡ n → is_eq (nat_cmp x n) ≡ true
at_same x n same = ap (λ m. is_eq (nat_cmp x m)) (sym same) ∙ at_itself x

listed_insert : (named : List ℕ) (n x : ℕ) → (x ≡ n) ⊎ (is_index x named ≡ true) → is_index x (insert_key nat_cmp named n) ≡ true
listed_insert [] n x (inl same) = or_left (is_eq (nat_cmp x n)) false (at_same x n same)
listed_insert [] n x (inr h) = absurd (cc)
listed_insert (m ∷ ms) n x h = by (nat_cmp n m) (ranked n m (nat_cmp n m) refl) h (λ k. listed_insert ms n x k)
  where
    later : (b : Bool) → (b || is_index x ms) ≡ true → (is_index x ms ≡ true → is_index x (insert_key nat_cmp ms n) ≡ true) → (b || is_index x (insert_key nat_cmp ms n)) ≡ true
    later true h f = refl
    later false h f = f h

    by : (o : Ordering) → MatchOrdering o (n < m) (n ≡ m) (m < n) → (x ≡ n) ⊎ (is_index x (m ∷ ms) ≡ true)
        → ((x ≡ n) ⊎ (is_index x ms ≡ true) → is_index x (insert_key nat_cmp ms n) ≡ true)
        → is_index x (match_ordering o (n ∷ m ∷ ms) (m ∷ ms) (m ∷ insert_key nat_cmp ms n)) ≡ true
    by Less at (inl same) f = or_left (is_eq (nat_cmp x n)) _ (at_same x n same)
    by Less at (inr found) f = or_right (is_eq (nat_cmp x n)) _ found
    by Equal at (inl same) f = or_left (is_eq (nat_cmp x m)) _ (at_same x m (same ∙ at))
    by Equal at (inr found) f = found
    by Greater at (inl same) f = or_right (is_eq (nat_cmp x m)) _ (f (inl same))
    by Greater at (inr found) f = later (is_eq (nat_cmp x m)) found (λ k. f (inr k))

among_with : (xs : List ℕ) (n x : ℕ) → IsAmong (xs ++ (n ∷ [])) x → IsAmong xs x ⊎ (x ≡ n)
among_with [] n x (inl same) = inr same
among_with [] n x (inr h) = absurd h
among_with (y ∷ ys) n x (inl same) = inl (inl same)
among_with (y ∷ ys) n x (inr h) = elim (among_with ys n x h) [ inl k ↦ inl (inr k) | inr k ↦ inr k ]

different_with : (xs : List ℕ) (n : ℕ) → AreDifferent xs → (IsAmong xs n → ⊥) → AreDifferent (xs ++ (n ∷ []))
different_with [] n are new = (λ h. h, tt)
different_with (x ∷ xs) n are new =
    (λ h. elim (among_with xs n x h) [ inl k ↦ are.0 k | inr k ↦ new (inl (sym k)) ], different_with xs n are.1 (λ h. new (inr h)))

map_with : {A B : Type 0} (f : A → B) (xs : List A) (x : A) → map f (xs ++ (x ∷ [])) ≡ map f xs ++ (f x ∷ [])
map_with f [] x = refl
map_with f (y ∷ ys) x = ap (λ zs. f y ∷ zs) (map_with f ys x)

-- ---- the variables of a clause

abbrev numbers_of : List (ℕ × CoreTy) → List ℕ
numbers_of vars = map (λ stated. stated.0) vars

abbrev types_of : List (ℕ × CoreTy) → List CoreTy
types_of vars = map (λ stated. stated.1) vars

abbrev IsRight : List ℕ → Locals → ℕ × CoreTy → Type 0
IsRight visible locals stated = IsVariable visible locals.kinds stated.0 × (kind_of stated.1 ≡ variable_kind locals.kinds stated.0)

record Stating (P : List Packing) (around : List Stretch) (visible : List ℕ) (locals : Locals) (scope : Scope) (bare_from : ℕ) (start : Frame) (named : List ℕ) (vars : List (ℕ × CoreTy)) (frame : Frame) : Type 0 where
  frames : Frames P around frame scope (types_of vars) bare_from
  wider : Wider start frame
  right : AllByRecursion (IsRight visible locals) vars
  different : AreDifferent (numbers_of vars)
  listed : (x : ℕ) → IsAmong (numbers_of vars) x → is_index x named ≡ true

variable_states : (P : List Packing) (around : List Stretch) (types : Types) (visible : List ℕ) (locals : Locals) (bare_from : ℕ) (start : Frame) (named : List ℕ) (vars : List (ℕ × CoreTy)) (frame : Frame)
    (p : plain.Parameter) (y : (ℕ × CoreTy) × Frame) → Fits types P → AllByRecursion (λ e. IsVariable visible locals.kinds e.1) locals.variables
    → Stating P around visible locals locals.indices bare_from start named vars frame → clause_variable types locals p named frame ≡ Ok y
    → Stating P around visible locals locals.indices bare_from start (insert_key nat_cmp named y.0.0) (vars ++ (y.0 ∷ [])) y.1
unfolding clause_variable meaning
variable_states P around types visible locals bare_from start named vars frame p y fits names st e =
    let s = then_ok (or_unknown p.name.at (meaning p.name.name locals.variables)) _ y e in
    let u = unless_ok (is_index s.value named) NamedTwice p.name.at _ y s.second in
    let t = then_ok (type_in types locals.indices p.ty frame) _ y u.1 in
    let m = then_ok (matching (variable_kind locals.kinds s.value) _ t.value.0) _ y t.second in
    let w = where_ok (same_kind (kind_of t.value.0) (variable_kind locals.kinds s.value)) OtherKind _ (Ok t.value.0) m.value m.first in
    let is = same_kind_is (kind_of t.value.0) (variable_kind locals.kinds s.value) w.0 in
    let it = ok_same t.value.0 m.value w.1 in
    let v = all_found (IsVariable visible locals.kinds) _ locals.variables s.value names (known_name p.name.at _ s.value s.first) in
    let typed = type_is P around types frame locals.indices (types_of vars) bare_from p.ty t.value fits st.frames t.first in
    subst (λ z. Stating P around visible locals locals.indices bare_from start (insert_key nat_cmp named z.0.0) (vars ++ (z.0 ∷ [])) z.1) (ok_same ((s.value, m.value), t.value.1) y m.second)
    (subst (λ ty. Stating P around visible locals locals.indices bare_from start (insert_key nat_cmp named s.value) (vars ++ ((s.value, ty) ∷ [])) t.value.1) it
    (record {
      frames = subst (λ ts. Frames P around t.value.1 locals.indices ts bare_from) (sym (map_with (λ stated. stated.1) vars (s.value, t.value.0))) typed.frames;
      wider = wider_through start frame t.value.1 st.wider typed.wider;
      right = all_with (IsRight visible locals) vars (s.value, t.value.0) st.right (v, is);
      different = subst AreDifferent (sym (map_with (λ stated. stated.0) vars (s.value, t.value.0)))
          (different_with (numbers_of vars) s.value st.different (λ h. not_both (is_index s.value named) (st.listed s.value h) u.0));
      listed = λ x h. listed_insert named s.value x
          (elim (among_with (numbers_of vars) s.value x (subst (λ ns. IsAmong ns x) (map_with (λ stated. stated.0) vars (s.value, t.value.0)) h))
          [ inl k ↦ inr (st.listed x k) | inr k ↦ inl k ]);
    }))
  where
    not_both : (b : Bool) → b ≡ true → b ≡ false → ⊥
    not_both true h k = absurd (cc)
    not_both false h k = absurd (cc)

variables_state : (P : List Packing) (around : List Stretch) (types : Types) (visible : List ℕ) (locals : Locals) (bare_from : ℕ) (start : Frame) (named : List ℕ) (vars : List (ℕ × CoreTy)) (frame : Frame)
    (ps : List plain.Parameter) (y : List (ℕ × CoreTy) × Frame) → Fits types P → AllByRecursion (λ e. IsVariable visible locals.kinds e.1) locals.variables
    → Stating P around visible locals locals.indices bare_from start named vars frame → clause_variables types locals ps named vars frame ≡ Ok y
    → (all : List ℕ) × Stating P around visible locals locals.indices bare_from start all y.0 y.1
unfolding clause_variables
variables_state P around types visible locals bare_from start named vars frame [] y fits names st e =
    (named, subst (λ z. Stating P around visible locals locals.indices bare_from start named z.0 z.1) (ok_same (vars, frame) y e) st)
variables_state P around types visible locals bare_from start named vars frame (p ∷ ps) y fits names st e =
    let s = then_ok (clause_variable types locals p named frame) (λ z. clause_variables types locals ps (insert_key nat_cmp named z.0.0) (vars ++ (z.0 ∷ [])) z.1) y e in
    variables_state P around types visible locals bare_from start (insert_key nat_cmp named s.value.0.0) (vars ++ (s.value.0 ∷ [])) s.value.1 ps y fits names
    (variable_states P around types visible locals bare_from start named vars frame p s.value fits names st s.first) s.second

-- ---- clauses

-- from locals before a clause, if there is one, to those behind it
pub record Clauses (globals : Globals) (given : Kind) (locals : Locals) (point : Point) (c : Option Clause) (more : Locals) : Type 0 where
  pub after : Point
  pub stands : Stands globals.packings more after
  pub grows : Grows locals more
  pub is : (kinds : List Kind) → Begins more.kinds kinds → IsClauseIfAny (site globals kinds given) point c after

stated_all : (set : Setting) (visible : List ℕ) (reach : List Stretch) (locals : Locals) (vars : List (ℕ × CoreTy)) → AllByRecursion (IsGood set.types) locals.kinds → Begins locals.kinds set.kinds
    → AllByRecursion (IsRight visible locals) vars → AllByRecursion (IsType set.types reach) (types_of vars) → AllByRecursion (IsStated set visible reach) vars
stated_all set visible reach locals [] good begins right types = tt
stated_all set visible reach locals (v ∷ vs) good begins right types =
    let seen = seen_one set.types locals set.kinds visible v.0 good begins right.0.0 in
    ((seen.among, seen.has ∙ ap Some (sym right.0.1), types.0), stated_all set visible reach locals vs good begins right.1 types.1)

clause_is : (globals : Globals) (given : Kind) (c : plain.WrittenClause) (locals : Locals) (point : Point) (y : Clause × Locals) → Knows globals → Stands globals.packings locals point
    → clause globals.types c locals ≡ Ok y → Clauses globals given locals point (Some y.0) y.1
unfolding clause
clause_is globals given c locals point y knows st e =
    let s = then_ok (opened c.quantifier locals.next locals.indices) _ y e in
    let t = then_ok (clause_variables globals.types (record locals { indices = s.value.1 }) c.variables [] [] s.value.0) _ y s.second in
    let u = then_ok (closed c.quantifier t.value.1) _ y t.second in
    let b = opened_opens point.reach c.quantifier locals.next locals.indices s.value st.known s.first in
    let f = begins_frames globals.packings point.reach locals.next (written c.quantifier) s.value locals.indices b in
    let all = variables_state globals.packings point.reach globals.types point.visible (record locals { indices = s.value.1 }) (locals.next + written c.quantifier) s.value.0 [] [] s.value.0
    c.variables t.value knows.fits st.names (record { frames = f; wider = same_wider s.value.0; right = tt; different = tt; listed = λ x h. absurd h }) t.first in
    let at : t.value.1.first ≡ locals.next = all.1.wider.first ∙ b.first in
    let close = closes globals.packings point.reach c.quantifier locals.next t.value.1 s.value.1 (types_of t.value.0) u.value at all.1.frames u.first in
    let q = (closed_is c.quantifier t.value.1 u.value u.first).0 in
    let it : Clause = record { first = locals.next; quant = u.value; vars = t.value.0 } in
    subst (λ z. Clauses globals given locals point (Some z.0) z.1) (ok_same (it, record locals { indices = s.value.1; next = t.value.1.next }) y u.second) (record {
      after = stating it point;
      stands = record {
        names = st.names;
        good = st.good;
        variables = st.variables;
        known = subst (λ z. Known (stretch_of locals.next z ∷ point.reach) s.value.1) q
            (subst (λ n. Known (record { first = n; count = t.value.1.next - t.value.1.first } ∷ point.reach) s.value.1) at all.1.frames.known);
        indices = omega (arith, st.indices, ap (λ z. z.count) q, at, all.1.frames.low);
      };
      grows = record { variables = ends_same locals.variables; kinds = begins_same locals.kinds; indices = opened_ends c.quantifier locals.next locals.indices s.value s.first };
      is = λ kinds begins. (
        record {
          first = sym st.indices;
          quantified = close.quantified;
          stated = stated_all (site globals kinds given) point.visible (stretch_of locals.next u.value ∷ point.reach) (record locals { indices = s.value.1 }) t.value.0 st.good begins all.1.right close.types;
          different = all.1.different;
        },
        refl,
      );
    })

pub clause_or_none_is : (globals : Globals) (given : Kind) (c : Option plain.WrittenClause) (locals : Locals) (point : Point) (y : Option Clause × Locals) → Knows globals
    → Stands globals.packings locals point → clause_or_none globals.types c locals ≡ Ok y → Clauses globals given locals point y.0 y.1
unfolding clause_or_none
clause_or_none_is globals given None locals point y knows st e =
    subst (λ z. Clauses globals given locals point z.0 z.1) (ok_same (None, locals) y e) (record { after = point; stands = st; grows = grows_same locals; is = λ kinds begins. refl })
clause_or_none_is globals given (Some c) locals point y knows st e =
    let s = then_ok (clause globals.types c locals) (λ z. Ok (Some z.0, z.1)) y e in
    subst (λ z. Clauses globals given locals point z.0 z.1) (ok_same (Some s.value.0, s.value.1) y s.second) (clause_is globals given c locals point s.value knows st s.first)
