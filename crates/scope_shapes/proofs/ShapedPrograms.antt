-- The core of a tree keeps the rules of a core.
use Rattle.std.proofs.Common.{◌≡◌, sym, ap, subst, ℕ, zero, suc, ◌+◌, ◌<◌, ◌≤◌, false, List, [], ◌∷◌, ◌++◌, length, map, take, Some, Ok, refl, arith, ◌∙◌, ◌⊎◌, inl, inr, append_assoc, append-nil}
use Rattle.std.specs.Prelude.{slice_get, cond, codes}
use Rattle.std.proofs.lemmas.Option.{same_Some}
use Rattle.std.specs.List.{AllByRecursion, AllZip, range_with_len}
use Rattle.std.proofs.lemmas.List.{length-map}
use Rattle.xanadu_lexer.specs.Rules.{IsLower}
use Rattle.xanadu_tree.specs.declared.types.CoreTy.{CoreTy}
use Rattle.xanadu_tree.specs.declared.types.CoreTy.TheVariants as ty
use Rattle.xanadu_tree.specs.declared.types.Kind.{Kind}
use Rattle.xanadu_tree.specs.declared.types.Kind.TheVariants as kind
use Rattle.xanadu_tree.specs.declared.types.Packing.{Packing}
use Rattle.xanadu_tree.specs.IndexRules.{Stretch, stretch_of}
use Rattle.xanadu_tree.specs.KindRules.{kind_of, IsValue, IsAmong, result_kind, gives_value, Header as Called, header as core_header}
use Rattle.xanadu_tree.specs.BodyRules.{IsType, Point, AreStatements, completes_all}
use Rattle.xanadu_tree.specs.Shaped.{no_index, no_variables, IsFunction, IsNamed, HaveNames, IsArgument, IsMain, Shaped}
use Rattle.xanadu_tree.specs.Plain as core
use Rattle.xanadu_tree.specs.PlainOf.{to_stmts}
use Rattle.xanadu_tree.specs.PlainTree as plain
use Rattle.xanadu_tree.specs.Written.{IsWritten}
use Rattle.xanadu_tree.proofs.ShapedReturns.{none_give, one_give}
use Rattle.type_shapes.specs.declared.error.ShapeKind.TheVariants.{Completes}
use Rattle.type_shapes.specs.Names.{Scope, no_types}
use Rattle.type_shapes.specs.Headers.{Header, no_functions, type_names, packings, headers, main_number}
use Rattle.expression_shapes.specs.Sites.{Globals}
use Rattle.scope_shapes.specs.Statements.{block}
use Rattle.type_shapes.specs.Headers.{parameter_names}
use Rattle.scope_shapes.specs.Shape.{no_locals, entered, Inner, inner_in, inner, inners, fun, funs, no_globals, globals, walked, finished, shape}
use Rattle.type_shapes.proofs.ShapedLists.{then_ok, ok_same, unless_ok, all_at, all_weaker, Begins}
use Rattle.type_shapes.proofs.ShapedTypes.{types_fit, packings_are}
use Rattle.type_shapes.proofs.ShapedHeaders.{IsHeader, kind_is_value}
use Rattle.expression_shapes.proofs.ShapedKinds.{IsKind, kind_of_type}
use Rattle.expression_shapes.proofs.ShapedExpressions.{Knows, site, seen_header}
use Rattle.scope_shapes.proofs.ShapedPlaces.{IsVariable, IsGood, Stands}
use Rattle.scope_shapes.proofs.ShapedBodies.{block_is}
use Rattle.type_shapes.proofs.ShapedNames.{names_lower, IsIn, AllDiffer, name_of, IsTable, headers_are, IsMainHeader, main_is}

-- ---- where a body begins

among_range : (low n x : ℕ) → low ≤ x → x < low + n → IsAmong (range_with_len low n) x
among_range low zero x above below = absurd (omega (arith, above, below))
among_range low (suc n) x above below = by (first_or_later x low above) (λ later. among_range (low + 1) n x later (omega (arith, below)))
  where
    first_or_later : (y l : ℕ) → l ≤ y → (y ≡ l) ⊎ (l + 1 ≤ y)
    first_or_later y l above = grind arith

    by : (x ≡ low) ⊎ (low + 1 ≤ x) → (low + 1 ≤ x → IsAmong (range_with_len (low + 1) n) x) → IsAmong (range_with_len low (suc n)) x
    by (inl same) later = inl same
    by (inr above) later = inr (later above)

parameters_stand : (n : ℕ) (ks : List Kind) (ps : List plain.Parameter) (number : ℕ) (scope : Scope) → n ≡ length ks → number + length ps ≤ n
    → AllByRecursion (λ e. IsVariable (range_with_len 0 n) ks e.1) scope → AllByRecursion (λ e. IsVariable (range_with_len 0 n) ks e.1) (parameter_names ps number scope)
unfolding parameter_names
parameters_stand n ks [] number scope same le stand = stand
parameters_stand n ks (p ∷ ps) number scope same le stand =
    parameters_stand n ks ps (number + 1) _ same (omega (arith, le))
    (record { among = among_range 0 n number (omega arith) (omega (arith, le)); below = omega (arith, le, same) }, stand)

abbrev start_point : Header → Point
start_point h = record {
  visible = range_with_len 0 (length h.params);
  variables = length h.params;
  reach = stretch_of 0 h.quant ∷ [];
  indices = h.quant.count;
}

good_kinds : (P : List Packing) (reach : List Stretch) (ts : List CoreTy) → AllByRecursion (IsType P reach) ts → AllByRecursion (IsGood P) (map kind_of ts)
good_kinds P reach [] are = tt
good_kinds P reach (t ∷ ts) are = ((kind_is_value t, kind_of_type P reach t are.0), good_kinds P reach ts are.1)

entry_stands : (P : List Packing) (h : Header) → IsHeader P h → Stands P (entered h no_locals) (start_point h)
unfolding entered
entry_stands P h is = record {
  names = parameters_stand (length h.params) (map kind_of h.params) h.declaration.parameters 0 [] (sym (length-map h.params kind_of)) (omega (arith, is.count)) tt;
  good = good_kinds P (stretch_of 0 h.quant ∷ []) h.params is.params;
  variables = sym (length-map h.params kind_of);
  known = is.names;
  indices = refl;
}

entry_kinds : (h : Header) → (entered h no_locals).kinds ≡ map kind_of h.params
unfolding entered
entry_kinds h = refl

-- ---- a body

pub record HasBody (globals : Globals) (h : Header) (b : Inner) : Type 0 where
  pub after : Point
  pub are : AreStatements (site globals b.kinds h.given.kind) (start_point h) (to_stmts b.stmts) after
  pub variables : after.variables ≡ length b.kinds
  pub returns : completes_all (to_stmts b.stmts) ≡ false
  pub begins : Begins (map kind_of h.params) b.kinds

inner_is : (globals : Globals) (h : Header) (b : Inner) → Knows globals → IsHeader globals.packings h → inner globals h ≡ Ok b → HasBody globals h b
unfolding inner inner_in
inner_is globals h b knows is e =
    let r = then_ok (inner_in globals h no_locals) (λ z. Ok (record { kinds = z.1.kinds; stmts = z.0 })) b e in
    let s = then_ok (block globals h.given.kind h.declaration.body (entered h no_locals)) _ r.value r.first in
    let u = unless_ok s.value.0.completes Completes h.declaration.at (Ok (s.value.0.stmts, s.value.1)) r.value s.second in
    let st = entry_stands globals.packings h is in
    let body = block_is globals h.given.kind knows h.declaration.body (entered h no_locals) (start_point h) s.value st s.first in
    let same = ok_same (s.value.0.stmts, s.value.1) r.value u.1 in
    let made : record { kinds = s.value.1.kinds; stmts = s.value.0.stmts } ≡ b =
    ap (λ z. record { kinds = z.1.kinds; stmts = z.0 }) same ∙ ok_same (record { kinds = r.value.1.kinds; stmts = r.value.0 }) b r.second in
    subst (HasBody globals h) made (record {
      after = body.after;
      are = body.is s.value.1.kinds (record { rest = []; is = sym (append-nil s.value.1.kinds) });
      variables = body.stands.variables;
      returns = sym body.completes ∙ u.0;
      begins = subst (λ ks. Begins ks s.value.1.kinds) (entry_kinds h) body.grows.kinds;
    })

-- ---- what a function gives

no_value : (k : Kind) → k ≡ kind.Unit → IsValue k → ⊥
no_value kind.Unit unit value = value
no_value _ unit value = absurd (cc)

gives_is : (globals : Globals) (h : Header) (b : Inner) → IsHeader globals.packings h → HasBody globals h b → cond (gives_value (to_stmts b.stmts)) (kind_of h.given.ty) kind.Unit ≡ h.given.kind
gives_is globals h b is body = by is.given.which
  where
    by : ((h.given.kind ≡ kind.Unit) × (h.given.ty ≡ ty.Int no_index) × (h.given.quant ≡ no_variables)) ⊎ ((h.given.kind ≡ kind_of h.given.ty) × IsValue h.given.kind)
        → cond (gives_value (to_stmts b.stmts)) (kind_of h.given.ty) kind.Unit ≡ h.given.kind
    by (inl unit) =
        ap (λ g. cond g (kind_of h.given.ty) kind.Unit) (none_give (site globals b.kinds h.given.kind) (start_point h) (to_stmts b.stmts) body.after unit.0 body.are) ∙ sym unit.0
    by (inr value) =
        ap (λ g. cond g (kind_of h.given.ty) kind.Unit) (one_give (site globals b.kinds h.given.kind) (start_point h) (to_stmts b.stmts) body.after value.1 body.are body.returns) ∙ sym value.0

result_is : (h : Header) (b : Inner) → result_kind (fun h b) ≡ cond (gives_value (to_stmts b.stmts)) (kind_of h.given.ty) kind.Unit
unfolding fun
result_is h b = refl

header_is : (globals : Globals) (h : Header) (b : Inner) → IsHeader globals.packings h → HasBody globals h b → core_header (fun h b) ≡ seen_header h
unfolding fun
header_is globals h b is body = ap (λ k. record { params = map kind_of h.params; result = k }) (gives_is globals h b is body)

-- ---- a function

take_front : {A : Type 0} (xs ys : List A) → take (length xs) (xs ++ ys) ≡ xs
take_front [] ys = refl
take_front (x ∷ xs) ys = ap (λ zs. x ∷ zs) (take_front xs ys)

pub function_is : (globals : Globals) (heads : List Called) (h : Header) (b : Inner) → heads ≡ map seen_header globals.functions.headers → IsLower (name_of h) → IsHeader globals.packings h
    → HasBody globals h b → IsFunction globals.packings heads (fun h b)
unfolding fun
function_is globals heads h b same lower is body =
    let gives = gives_is globals h b is body in
    record {
      name = lower;
      params = is.params;
      quantified = is.quantified;
      result = is.given.is;
      result_quantified = is.given.quantified;
      unit = λ unit. when_unit is.given.which (sym gives ∙ unit);
      param_kinds = ap (take (length h.params)) body.begins.is
          ∙ ap (λ n. take n (map kind_of h.params ++ body.begins.rest)) (sym (length-map h.params kind_of)) ∙ take_front (map kind_of h.params) body.begins.rest;
      end = body.after;
      body = subst (λ hs. AreStatements (record { types = globals.packings; headers = hs; kinds = b.kinds; result = cond (gives_value (to_stmts b.stmts)) (kind_of h.given.ty) kind.Unit }) (start_point h) (to_stmts b.stmts) body.after) (sym same)
          (subst (λ k. AreStatements (site globals b.kinds k) (start_point h) (to_stmts b.stmts) body.after) (sym gives) body.are);
      variables = body.variables;
      returns = body.returns;
    }
  where
    when_unit : ((h.given.kind ≡ kind.Unit) × (h.given.ty ≡ ty.Int no_index) × (h.given.quant ≡ no_variables)) ⊎ ((h.given.kind ≡ kind_of h.given.ty) × IsValue h.given.kind)
        → h.given.kind ≡ kind.Unit → (h.given.ty ≡ ty.Int no_index) × (h.given.quant ≡ no_variables)
    when_unit (inl unit) given = (unit.1, unit.2)
    when_unit (inr value) given = absurd (no_value h.given.kind given value.1)

-- ---- all functions

abbrev InnerOf : Globals → Header → Inner → Type 0
InnerOf globals h b = inner globals h ≡ Ok b

record Zipped (globals : Globals) (hs : List Header) (made y : List Inner) : Type 0 where
  more : List Inner
  is : y ≡ made ++ more
  zip : AllZip (InnerOf globals) hs more

inners_are : (globals : Globals) (hs : List Header) (made y : List Inner) → inners globals hs made ≡ Ok y → Zipped globals hs made y
unfolding inners
inners_are globals [] made y e = record { more = []; is = sym (ok_same made y e) ∙ sym (append-nil made); zip = tt }
inners_are globals (h ∷ hs) made y e =
    let s = then_ok (inner globals h) (λ one. inners globals hs (made ++ (one ∷ []))) y e in
    let later = inners_are globals hs (made ++ (s.value ∷ [])) y s.second in
    record { more = s.value ∷ later.more; is = later.is ∙ append_assoc made (s.value ∷ []) later.more; zip = (s.first, later.zip) }

abbrev put : List Header → List Inner → List core.Fun
put (h ∷ hs) (b ∷ bs) = fun h b ∷ put hs bs
put (h ∷ hs) [] = []
put [] bs = []

funs_are : (hs : List Header) (bs : List Inner) → funs hs bs ≡ put hs bs
unfolding funs
funs_are [] bs = refl
funs_are (h ∷ hs) [] = refl
funs_are (h ∷ hs) (b ∷ bs) = ap (λ fs. fun h b ∷ fs) (funs_are hs bs)

-- each header has its body
abbrev HaveBodies : Globals → List Header → List Inner → Type 0
HaveBodies globals hs bs = AllZip (λ h b. HasBody globals h b) hs bs

bodies_are : (globals : Globals) (hs : List Header) (bs : List Inner) → Knows globals → AllByRecursion (IsHeader globals.packings) hs → AllZip (InnerOf globals) hs bs → HaveBodies globals hs bs
bodies_are globals [] [] knows are zip = tt
bodies_are globals [] (b ∷ bs) knows are zip = absurd zip
bodies_are globals (h ∷ hs) [] knows are zip = absurd zip
bodies_are globals (h ∷ hs) (b ∷ bs) knows are zip = (inner_is globals h b knows are.0 zip.0, bodies_are globals hs bs knows are.1 zip.1)

headers_same : (globals : Globals) (hs : List Header) (bs : List Inner) → AllByRecursion (IsHeader globals.packings) hs → HaveBodies globals hs bs
    → map core_header (put hs bs) ≡ map seen_header hs
headers_same globals [] [] are have = refl
headers_same globals [] (b ∷ bs) are have = refl
headers_same globals (h ∷ hs) [] are have = absurd have
headers_same globals (h ∷ hs) (b ∷ bs) are have =
    ap (λ x. x ∷ map core_header (put hs bs)) (header_is globals h b are.0 have.0) ∙ ap (λ xs. seen_header h ∷ xs) (headers_same globals hs bs are.1 have.1)

functions_are : (globals : Globals) (heads : List Called) (hs : List Header) (bs : List Inner) → heads ≡ map seen_header globals.functions.headers
    → AllByRecursion (λ h. IsLower (name_of h)) hs → AllByRecursion (IsHeader globals.packings) hs → HaveBodies globals hs bs
    → AllByRecursion (IsFunction globals.packings heads) (put hs bs)
functions_are globals heads [] bs same lower are have = tt
functions_are globals heads (h ∷ hs) [] same lower are have = tt
functions_are globals heads (h ∷ hs) (b ∷ bs) same lower are have =
    (function_is globals heads h b same lower.0 are.0 have.0, functions_are globals heads hs bs same lower.1 are.1 have.1)

named_in : (hs : List Header) (bs : List Inner) (name : List ℕ) → IsNamed name (put hs bs) → IsIn (map name_of hs) name
unfolding fun
named_in [] bs name h = absurd h
named_in (h ∷ hs) [] name is = absurd is
named_in (h ∷ hs) (b ∷ bs) name (inl same) = inl same
named_in (h ∷ hs) (b ∷ bs) name (inr is) = inr (named_in hs bs name is)

names_differ : (hs : List Header) (bs : List Inner) → AllDiffer (map name_of hs) → HaveNames (put hs bs)
unfolding fun
names_differ [] bs differ = tt
names_differ (h ∷ hs) [] differ = tt
names_differ (h ∷ hs) (b ∷ bs) differ = (λ is. differ.0 (named_in hs bs (name_of h) is), names_differ hs bs differ.1)

-- the function of a number
record Put (globals : Globals) (hs : List Header) (bs : List Inner) (h : Header) (n : ℕ) : Type 0 where
  inner : Inner
  at : slice_get (put hs bs) n ≡ Some (fun h inner)
  body : HasBody globals h inner

put_at : (globals : Globals) (hs : List Header) (bs : List Inner) (h : Header) (n : ℕ) → HaveBodies globals hs bs → slice_get hs n ≡ Some h → Put globals hs bs h n
put_at globals [] bs h n have e = absurd (cc)
put_at globals (g ∷ hs) [] h n have e = absurd have
put_at globals (g ∷ hs) (b ∷ bs) h zero have e =
    subst (λ x. Put globals (g ∷ hs) (b ∷ bs) x 0) (same_Some g h e) (record { inner = b; at = refl; body = have.0 })
put_at globals (g ∷ hs) (b ∷ bs) h (suc n) have e = let p = put_at globals hs bs h n have.1 e in record { inner = p.inner; at = p.at; body = p.body }

main_function_is : (globals : Globals) (h : Header) (b : Inner) (number : ℕ) → IsHeader globals.packings h → HasBody globals h b → name_of h ≡ codes "main"
    → AllByRecursion (λ t. IsArgument (kind_of t)) h.params → h.given.kind ≡ kind.Int → IsMain (fun h b)
unfolding fun
main_function_is globals h b number is body name params result = record { name = name; params = params; result = gives_is globals h b is body ∙ result }

-- ---- the whole

given_kind : (P : List Packing) (h : Header) → IsHeader P h → IsKind P h.given.kind
given_kind P h is = by is.given.which
  where
    by : ((h.given.kind ≡ kind.Unit) × (h.given.ty ≡ ty.Int no_index) × (h.given.quant ≡ no_variables)) ⊎ ((h.given.kind ≡ kind_of h.given.ty) × IsValue h.given.kind) → IsKind P h.given.kind
    by (inl unit) = subst (IsKind P) (sym unit.0) tt
    by (inr value) = subst (IsKind P) (sym value.0) (kind_of_type P _ h.given.ty is.given.is)

-- what is known of a program whose headers were read
record Program (g : Globals) : Type 0 where
  knows : Knows g
  table : IsTable g.packings g.functions

globals_are : (tree : plain.Tree) (g : Globals) → IsWritten tree → globals tree no_globals ≡ Ok g → Program g
unfolding globals
globals_are tree g written e =
    let t = then_ok (type_names tree.declarations no_types) _ g e in
    let p = then_ok (packings t.value tree.declarations []) _ g t.second in
    let f = then_ok (headers t.value tree.declarations no_functions) _ g p.second in
    let fits = types_fit tree.declarations t.value p.value written.grammar t.first p.first in
    let are = packings_are p.value t.value tree.declarations [] p.value fits written.grammar tt p.first in
    let table = headers_are p.value t.value tree.declarations no_functions f.value fits (names_lower tree.declarations written.tokens)
    (record { names = refl; differ = tt; lower = tt; headers = tt }) f.first in
    subst Program (ok_same (record { types = t.value; packings = p.value; functions = f.value }) g f.second) (record {
      knows = record { fits = fits; packings = are; headers = all_weaker (IsHeader p.value) (λ h. IsKind p.value h.given.kind) (given_kind p.value) f.value.headers table.headers };
      table = table;
    })

program_is : (g : Globals) (bs : List Inner) (number : ℕ) → Program g → IsMainHeader g.functions number → AllZip (InnerOf g) g.functions.headers bs
    → Shaped (record { types = g.packings; funs = put g.functions.headers bs; main = number })
program_is g bs number p m zip =
    let have = bodies_are g g.functions.headers bs p.knows p.table.headers zip in
    let same = headers_same g g.functions.headers bs p.table.headers have in
    let at = put_at g g.functions.headers bs m.header number have m.at in
    record {
      types = p.knows.packings;
      functions = functions_are g (map core_header (put g.functions.headers bs)) g.functions.headers bs same p.table.lower p.table.headers have;
      names = names_differ g.functions.headers bs (subst AllDiffer p.table.names p.table.differ);
      main_function = fun m.header at.inner;
      main_number = at.at;
      main = main_function_is g m.header at.inner number (all_at (IsHeader g.packings) g.functions.headers number m.header p.table.headers m.at) at.body m.name m.params m.result;
    }

finished_is_shaped : (tree : plain.Tree) (end : ℕ) (g : Globals) (number : ℕ) (bs : List Inner) → IsWritten tree → globals tree no_globals ≡ Ok g
    → main_number g.functions end ≡ Ok number → inners g g.functions.headers [] ≡ Ok bs → Shaped (finished g bs number)
finished_is_shaped tree end g number bs written declared main bodies =
    let p = globals_are tree g written declared in
    let z = inners_are g g.functions.headers [] bs bodies in
    let zip = subst (AllZip (InnerOf g) g.functions.headers) (sym z.is) z.zip in
    subst (λ fs. Shaped (record { types = g.packings; funs = fs; main = number })) (sym (funs_are g.functions.headers bs))
    (program_is g bs number p (main_is g.packings g.functions end number p.table main) zip)

-- what the walk finishes with
abbrev EndsShaped : ℕ × List Inner × Globals → Type 0
EndsShaped z = Shaped (finished z.2 z.1 z.0)

pub walked_is_shaped : (tree : plain.Tree) (end number : ℕ) (bs : List Inner) (g : Globals) → IsWritten tree → walked tree end no_globals [] ≡ Ok (number, bs, g)
    → Shaped (finished g bs number)
unfolding walked
walked_is_shaped tree end number bs g written e =
    let p = then_ok (globals tree no_globals) _ (number, bs, g) e in
    let m = then_ok (main_number p.value.functions end) _ (number, bs, g) p.second in
    let b = then_ok (inners p.value p.value.functions.headers []) _ (number, bs, g) m.second in
    subst EndsShaped (ok_same (m.value, b.value, p.value) (number, bs, g) b.second)
    (finished_is_shaped tree end p.value m.value b.value written p.first m.first b.first)

pub shape_is_shaped : (tree : plain.Tree) (end : ℕ) (y : core.Program) → IsWritten tree → shape tree end ≡ Ok y → Shaped y
unfolding shape
shape_is_shaped tree end y written e =
    let w = then_ok (walked tree end no_globals []) _ y e in
    subst Shaped (ok_same (finished w.value.2 w.value.1 w.value.0) y w.second) (walked_is_shaped tree end w.value.0 w.value.1 w.value.2 written w.first)
