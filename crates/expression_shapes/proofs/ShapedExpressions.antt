-- Expressions that are read have their kinds.
use Rattle.std.proofs.Common.{◌≡◌, sym, ap, subst, ℕ, ◌+◌, Bool, true, false, List, [], ◌∷◌, ◌++◌, length, map, Option, Some, None, Ok, refl, arith, ◌∙◌, append_assoc}
use Rattle.std.specs.Prelude.{slice_get}
use Rattle.std.specs.List.{AllByRecursion}
use Rattle.xanadu_tree.specs.declared.expr.Op.{Op}
use Rattle.xanadu_tree.specs.declared.types.CoreTy.{CoreTy}
use Rattle.xanadu_tree.specs.declared.types.Kind.{Kind}
use Rattle.xanadu_tree.specs.declared.types.Kind.TheVariants as kind
use Rattle.xanadu_tree.specs.declared.types.Packing.{Packing}
use Rattle.xanadu_tree.specs.declared.tree.declaration.Identifier.{Identifier}
use Rattle.xanadu_tree.specs.KindRules.{kind_of, IsValue, tuple_type, Setting, Header as Called, IsAmong, IsSomeLink, HasKind, AreNumbers, HaveKinds}
use Rattle.xanadu_tree.specs.Shaped.{IsPacking}
use Rattle.xanadu_tree.specs.Plain as core
use Rattle.xanadu_tree.specs.PlainOf.{to_exprs, to_links}
use Rattle.xanadu_tree.specs.PlainTree as plain
use Rattle.xanadu_tree.specs.Written.{IsSome}
use Rattle.type_shapes.specs.Faults.{Check, ◌>>=◌}
use Rattle.type_shapes.specs.Headers.{Header}
use Rattle.type_shapes.specs.Kinds.{kind_at, parts_of}
use Rattle.type_shapes.specs.Names.{meaning, place, or_unknown, tuple_type as named_tuple}
use Rattle.expression_shapes.specs.Sites.{Globals, Locals, Typed, variable_kind, variable, asked, header_at, function, called, made}
use Rattle.expression_shapes.specs.Expressions.{count, number, Link, chain}
use Rattle.type_shapes.proofs.ShapedLists.{then_ok, ok_same, all_found}
use Rattle.type_shapes.proofs.ShapedForms.{known_name}
use Rattle.type_shapes.proofs.ShapedQuantifiers.{Fits, tuple_number_is}
use Rattle.expression_shapes.proofs.ShapedKinds.{IsKind, asked_is, counted_is}

-- ---- what is known of the program, and of the variables that are visible

abbrev pub seen_header : Header → Called
seen_header h = record { params = map kind_of h.params; result = h.given.kind }

pub record Knows (globals : Globals) : Type 0 where
  pub fits : Fits globals.types globals.packings
  pub packings : AllByRecursion (IsPacking globals.packings) globals.packings
  pub headers : AllByRecursion (λ h. IsKind globals.packings h.given.kind) globals.functions.headers

abbrev pub site : Globals → List Kind → Kind → Setting
site globals kinds given = record { types = globals.packings; headers = map seen_header globals.functions.headers; kinds = kinds; result = given }

-- what a name in scope means
pub record Seen (P : List Packing) (locals : Locals) (kinds : List Kind) (visible : List ℕ) (x : ℕ) : Type 0 where
  pub among : IsAmong visible x
  pub has : slice_get kinds x ≡ Some (variable_kind locals.kinds x)
  pub value : IsValue (variable_kind locals.kinds x)
  pub is : IsKind P (variable_kind locals.kinds x)

abbrev pub Sees : List Packing → Locals → List Kind → List ℕ → Type 0
Sees P locals kinds visible = AllByRecursion (λ e. Seen P locals kinds visible e.1) locals.variables

-- an expression that was read has its kind
pub record Has (set : Setting) (visible : List ℕ) (typed : Typed) : Type 0 where
  pub has : HasKind set visible typed.expr typed.kind
  pub is : IsKind set.types typed.kind

-- ---- lists

pub links_with : (set : Setting) (visible : List ℕ) (links : List Link) (op : Op) (e : core.Expr) (at : ℕ) → AreNumbers set visible (to_links links) → HasKind set visible e kind.Int
    → AreNumbers set visible (to_links (links ++ ((op, e, at) ∷ [])))
unfolding HasKind
links_with set visible [] op e at are has = (has, tt)
links_with set visible (l ∷ ls) op e at are has = (are.0, links_with set visible ls op e at are.1 has)

pub exprs_with : (set : Setting) (visible : List ℕ) (args : List core.Expr) (ks : List Kind) (e : core.Expr) (k : Kind) → HaveKinds set visible (to_exprs args) ks → HasKind set visible e k
    → HaveKinds set visible (to_exprs (args ++ (e ∷ []))) (ks ++ (k ∷ []))
unfolding HasKind
exprs_with set visible [] [] e k have has = (has, tt)
exprs_with set visible [] (j ∷ ks) e k have has = absurd have
exprs_with set visible (a ∷ args) [] e k have has = absurd have
exprs_with set visible (a ∷ args) (j ∷ ks) e k have has = (have.0, exprs_with set visible args ks e k have.1 has)

pub some_with : {A : Type 0} (xs : List A) (x : A) → IsSome (xs ++ (x ∷ []))
some_with [] x = tt
some_with (y ∷ ys) x = tt

some_link : (links : List Link) → IsSome links → IsSomeLink (to_links links)
some_link [] some = absurd some
some_link (l ∷ ls) some = tt

-- ---- arguments

-- the kinds that are asked of these arguments, from a place on
abbrev pub kinds_of : plain.Expressions → List CoreTy → ℕ → List Kind
kinds_of plain.NoExpression types place = []
kinds_of (plain.AnExpression e es) types place = kind_at types place ∷ kinds_of es types (place + 1)

pub at_place : (front : List CoreTy) (t : CoreTy) (back : List CoreTy) → kind_at (front ++ (t ∷ back)) (length front) ≡ kind_of t
unfolding kind_at
at_place [] t back = refl
at_place (u ∷ front) t back = at_place front t back

pub kinds_are : (given : plain.Expressions) (front back types : List CoreTy) (place : ℕ) → types ≡ front ++ back → place ≡ length front → count given ≡ length back
    → kinds_of given types place ≡ map kind_of back
kinds_are plain.NoExpression front [] types place is at n = refl
kinds_are plain.NoExpression front (t ∷ back) types place is at n = absurd (omega (arith, n))
kinds_are (plain.AnExpression e es) front [] types place is at n = absurd (omega (arith, n))
kinds_are (plain.AnExpression e es) front (t ∷ back) types place is at n =
    let here : kind_at types place ≡ kind_of t = ap (λ ts. kind_at ts place) is ∙ ap (kind_at (front ++ (t ∷ back))) at ∙ at_place front t back in
    let later : kinds_of es types (place + 1) ≡ map kind_of back =
    kinds_are es (front ++ (t ∷ [])) back types (place + 1) (is ∙ sym (append_assoc front (t ∷ []) back)) (omega (arith, at, length_more front t)) (omega (arith, n)) in
    ap (λ k. k ∷ kinds_of es types (place + 1)) here ∙ ap (λ ks. kind_of t ∷ ks) later
  where
    length_more : (us : List CoreTy) (u : CoreTy) → length (us ++ (u ∷ [])) ≡ length us + 1
    length_more [] u = omega arith
    length_more (v ∷ us) u = omega (arith, length_more us u)

-- ---- what is called

pub record Calls (globals : Globals) (wanted : ℕ) (z : ℕ × Header) : Type 0 where
  pub at : slice_get globals.functions.headers z.0 ≡ Some z.1
  pub count : length z.1.params ≡ wanted

header_at_is : (at number : ℕ) (o : Option Header) (z : ℕ × Header) → header_at at number o ≡ Ok z → (o ≡ Some z.1) × (number ≡ z.0)
header_at_is at number None z e = absurd (cc)
header_at_is at number (Some h) z e = let same = ok_same (number, h) z e in (ap (λ p. Some p.1) same, ap (λ p. p.0) same)

pub called_is : (globals : Globals) (name : Identifier) (given : ℕ) (z : ℕ × Header) → called globals name given ≡ Ok z → Calls globals given z
unfolding called function
called_is globals name given z e =
    let s = then_ok (function globals name) _ z e in
    let c = counted_is name.at (length s.value.1.params) given (s.value.0, s.value.1) z s.second in
    let t = then_ok (or_unknown name.at (place name.name globals.functions.names)) (λ n. header_at name.at n (slice_get globals.functions.headers n)) s.value s.first in
    let h = header_at_is name.at t.value (slice_get globals.functions.headers t.value) s.value t.second in
    record {
      at = ap (slice_get globals.functions.headers) (sym (h.1 ∙ ap (λ p. p.0) c.1)) ∙ h.0 ∙ ap (λ p. Some p.1) c.1;
      count = ap (λ p. length p.1.params) (sym c.1) ∙ c.0;
    }

pub made_is : (globals : Globals) (name : Identifier) (given ty : ℕ) → Knows globals → made globals name given ≡ Ok ty
    → (packing : Packing) × (tuple_type globals.packings ty ≡ Some packing) × (length (parts_of globals.packings ty) ≡ given)
unfolding made
made_is globals name given ty knows e =
    let s = then_ok (named_tuple globals.types name) _ ty e in
    let c = counted_is name.at (length (parts_of globals.packings s.value)) given s.value ty s.second in
    let t = tuple_number_is globals.types globals.packings name s.value knows.fits s.first in
    (t.0, ap (tuple_type globals.packings) (sym c.1) ∙ t.1, ap (λ n. length (parts_of globals.packings n)) (sym c.1) ∙ c.0)

-- ---- variables

pub variable_is : (globals : Globals) (locals : Locals) (kinds : List Kind) (given : Kind) (visible : List ℕ) (name : Identifier) (y : Typed)
    → Sees globals.packings locals kinds visible → variable locals name ≡ Ok y → Has (site globals kinds given) visible y × IsValue y.kind
unfolding variable HasKind meaning
variable_is globals locals kinds given visible name y sees e =
    let s = then_ok (or_unknown name.at (meaning name.name locals.variables)) _ y e in
    let seen = all_found (Seen globals.packings locals kinds visible) _ locals.variables s.value sees (known_name name.at _ s.value s.first) in
    subst (λ z. Has (site globals kinds given) visible z × IsValue z.kind)
    (ok_same (record { expr = core.Var s.value; kind = variable_kind locals.kinds s.value }) y s.second)
    (record { has = (seen.among, seen.has); is = seen.is }, seen.value)

-- ---- chains

pub chain_is : (set : Setting) (visible : List ℕ) (some : Bool) (at : ℕ) (first : Typed) (rest : Check (List Link)) (y : Typed) → Has set visible first
    → ((links : List Link) → rest ≡ Ok links → some ≡ true → AreNumbers set visible (to_links links) × IsSome links) → chain some at first rest ≡ Ok y → Has set visible y
unfolding HasKind
chain_is set visible false at first rest y has links e = subst (Has set visible) (ok_same first y e) has
chain_is set visible true at first rest y has links e =
    let s = then_ok (asked kind.Int at first) (λ a. rest >>= (λ ls. Ok (number (core.Chain a (to_links ls))))) y e in
    let t = then_ok rest (λ ls. Ok (number (core.Chain s.value (to_links ls)))) y s.second in
    let ls = links t.value t.first refl in
    subst (Has set visible) (ok_same (number (core.Chain s.value (to_links t.value))) y t.second)
    (record { has = (refl, asked_is set visible kind.Int at first s.value s.first has.has, some_link t.value ls.1, ls.0); is = tt })
