-- Names of functions, and which function is `main`.
use Rattle.std.proofs.Common.{◌≡◌, sym, ap, subst, ℕ, zero, suc, Bool, true, false, List, [], ◌∷◌, ◌++◌, length, map, get_or, Option, Some, None, Ok, refl, arith, ◌∙◌, ◌⊎◌, inl, inr}
use Rattle.std.specs.Prelude.{slice_get, ◌||◌, if◌then◌else◌, bytes_eq, codes}
use Rattle.std.specs.List.{AllByRecursion, list_any}
use Rattle.std.proofs.lemmas.Bool.{eqb-true}
use Rattle.std.proofs.lemmas.Slice.Eq.{bytes_eq-Decides}
use Rattle.std.proofs.lemmas.List.Quantifiers.{position-Some}
use Rattle.std.proofs.lemmas.Option.{same_Some}
use Rattle.xanadu_lexer.specs.Rules.{IsLower}
use Rattle.xanadu_tree.specs.declared.types.CoreTy.{CoreTy}
use Rattle.xanadu_tree.specs.declared.types.Kind.{Kind}
use Rattle.xanadu_tree.specs.declared.types.Kind.TheVariants as kind
use Rattle.xanadu_tree.specs.declared.types.Packing.{Packing}
use Rattle.xanadu_tree.specs.declared.tree.declaration.Identifier.{Identifier}
use Rattle.xanadu_tree.specs.KindRules.{kind_of}
use Rattle.xanadu_tree.specs.Pieces.{Piece, HaveTexts, kinds}
use Rattle.xanadu_tree.specs.Spelling.{declaration_pieces, declarations_pieces}
use Rattle.xanadu_tree.specs.Shaped.{IsArgument}
use Rattle.xanadu_tree.specs.Written.{result_at}
use Rattle.xanadu_tree.specs.PlainTree as plain
use Rattle.type_shapes.specs.declared.error.ShapeKind.TheVariants.{NamedTwice, NoMain, MainKind}
use Rattle.type_shapes.specs.Faults.{Check, fault}
use Rattle.type_shapes.specs.Names.{Table, Types, added, place}
use Rattle.type_shapes.specs.Headers.{Header, Functions, header, headers, is_entry, is_int, odd_parameter, odd_main, main_number}
use Rattle.type_shapes.proofs.ShapedLists.{then_ok, ok_same, unless_ok, all_with, all_at}
use Rattle.type_shapes.proofs.ShapedQuantifiers.{Fits}
use Rattle.type_shapes.proofs.ShapedHeaders.{IsHeader, header_is}

-- ---- names that are written are names

texts_apart : (a b : List Piece) → HaveTexts (kinds (a ++ b)) → HaveTexts (kinds b)
texts_apart [] b h = h
texts_apart (p ∷ ps) b h = texts_apart ps b h.1

abbrev NamesLower : plain.Declaration → Type 0
NamesLower (plain.OfType d) = Unit {0}
NamesLower (plain.OfFunction d) = IsLower d.name.name

pub names_lower : (ds : List plain.Declaration) → HaveTexts (kinds (declarations_pieces ds)) → AllByRecursion NamesLower ds
names_lower [] h = tt
names_lower (plain.OfType d ∷ ds) h = (tt, names_lower ds (texts_apart (declaration_pieces (plain.OfType d)) (declarations_pieces ds) h))
names_lower (plain.OfFunction d ∷ ds) h = (h.1.0.1, names_lower ds (texts_apart (declaration_pieces (plain.OfFunction d)) (declarations_pieces ds) h))

-- ---- different names

abbrev pub IsIn : List (List ℕ) → List ℕ → Type 0
IsIn [] name = ⊥
IsIn (n ∷ ns) name = (name ≡ n) ⊎ IsIn ns name

abbrev pub AllDiffer : List (List ℕ) → Type 0
AllDiffer [] = Unit {0}
AllDiffer (n ∷ ns) = (IsIn ns n → ⊥) × AllDiffer ns

in_with : (ns : List (List ℕ)) (n name : List ℕ) → IsIn (ns ++ (n ∷ [])) name → IsIn ns name ⊎ (name ≡ n)
in_with [] n name (inl same) = inr same
in_with [] n name (inr h) = absurd h
in_with (m ∷ ms) n name (inl same) = inl (inl same)
in_with (m ∷ ms) n name (inr h) = elim (in_with ms n name h) [ inl k ↦ inl (inr k) | inr k ↦ inr k ]

differ_with : (ns : List (List ℕ)) (n : List ℕ) → AllDiffer ns → (IsIn ns n → ⊥) → AllDiffer (ns ++ (n ∷ []))
differ_with [] n are new = (λ h. h, tt)
differ_with (m ∷ ms) n are new = (λ h. elim (in_with ms n m h) [ inl k ↦ are.0 k | inr k ↦ new (inl (sym k)) ], differ_with ms n are.1 (λ h. new (inr h)))

neither_of : (a b : Bool) → (a || b) ≡ false → (a ≡ false) × (b ≡ false)
neither_of true b h = absurd (cc)
neither_of false b h = (refl, h)

not_in : (ns : List (List ℕ)) (name : List ℕ) → list_any (bytes_eq name) ns ≡ false → IsIn ns name → ⊥
not_in [] name none h = h
not_in (n ∷ ns) name none (inl same) =
    let test = (neither_of (bytes_eq name n) (list_any (bytes_eq name) ns) none).0 in
    let yes_test = (bytes_eq-Decides name n).1 same in
    absurd (cc)
not_in (n ∷ ns) name none (inr h) = not_in ns name (neither_of (bytes_eq name n) (list_any (bytes_eq name) ns) none).1 h

added_is : (name : Identifier) (table y : Table) → added name table ≡ Ok y → (table ++ (name.name ∷ []) ≡ y) × (IsIn table name.name → ⊥)
unfolding added
added_is name table y e =
    let u = unless_ok (list_any (bytes_eq name.name) table) NamedTwice name.at (Ok (table ++ (name.name ∷ []))) y e in
    (ok_same (table ++ (name.name ∷ [])) y u.1, not_in table name.name u.0)

-- ---- all headers

abbrev pub name_of : Header → List ℕ
name_of h = h.declaration.name.name

pub record IsTable (P : List Packing) (functions : Functions) : Type 0 where
  pub names : functions.names ≡ map name_of functions.headers
  pub differ : AllDiffer functions.names
  pub lower : AllByRecursion (λ h. IsLower (name_of h)) functions.headers
  pub headers : AllByRecursion (IsHeader P) functions.headers

map_with : {A B : Type 0} (f : A → B) (xs : List A) (x : A) → map f (xs ++ (x ∷ [])) ≡ map f xs ++ (f x ∷ [])
map_with f [] x = refl
map_with f (y ∷ ys) x = ap (λ zs. f y ∷ zs) (map_with f ys x)

pub headers_are : (P : List Packing) (types : Types) (ds : List plain.Declaration) (functions y : Functions) → Fits types P → AllByRecursion NamesLower ds → IsTable P functions
    → headers types ds functions ≡ Ok y → IsTable P y
unfolding headers
headers_are P types [] functions y fits lower t e = subst (IsTable P) (ok_same functions y e) t
headers_are P types (plain.OfType d ∷ ds) functions y fits lower t e = headers_are P types ds functions y fits lower.1 t e
headers_are P types (plain.OfFunction d ∷ ds) functions y fits lower t e =
    let s = then_ok (added d.name functions.names) _ y e in
    let h = then_ok (header types d) _ y s.second in
    let a = added_is d.name functions.names s.value s.first in
    let is = header_is P types d h.value fits h.first in
    let same : d.name.name ≡ name_of h.value = ap (λ z. z.name.name) (sym is.1) in
    headers_are P types ds (record { names = s.value; headers = functions.headers ++ (h.value ∷ []) }) y fits lower.1 (record {
      names = sym a.0 ∙ ap (λ ns. ns ++ (d.name.name ∷ [])) t.names ∙ ap (λ n. map name_of functions.headers ++ (n ∷ [])) same ∙ sym (map_with name_of functions.headers h.value);
      differ = subst AllDiffer a.0 (differ_with functions.names d.name.name t.differ a.1);
      lower = all_with (λ h. IsLower (name_of h)) functions.headers h.value t.lower (subst IsLower same lower.0);
      headers = all_with (IsHeader P) functions.headers h.value t.headers is.0;
    }) h.second

-- ---- main

pub record IsMainHeader (functions : Functions) (number : ℕ) : Type 0 where
  pub header : Header
  pub at : slice_get functions.headers number ≡ Some header
  pub name : name_of header ≡ codes "main"
  pub params : AllByRecursion (λ t. IsArgument (kind_of t)) header.params
  pub result : header.given.kind ≡ kind.Int

entry_is : (k : Kind) → is_entry k ≡ true → IsArgument k
entry_is kind.Int e = tt
entry_is kind.Bool e = tt
entry_is (kind.Array element) e = eqb-true element 0 e
entry_is (kind.Named n) e = absurd (cc)
entry_is kind.Unit e = absurd (cc)

int_is : (k : Kind) → is_int k ≡ true → k ≡ kind.Int
int_is kind.Int e = refl
int_is _ e = absurd (cc)

some_none : {A P : Type 0} (x : A) → ◌≡◌ {A = Option A} (Some x) None → P
some_none x e = absurd (cc)

entries_are : (ps : List plain.Parameter) (ts : List CoreTy) → length ts ≡ length ps → odd_parameter ps ts ≡ None → AllByRecursion (λ t. IsArgument (kind_of t)) ts
unfolding odd_parameter
entries_are ps [] n e = tt
entries_are [] (t ∷ ts) n e = absurd (omega (arith, n))
entries_are (p ∷ ps) (t ∷ ts) n e = by (is_entry (kind_of t)) refl e (λ rest. entries_are ps ts (omega (arith, n)) rest)
  where
    by : (b : Bool) → is_entry (kind_of t) ≡ b → (if b then odd_parameter ps ts else Some p.name.at) ≡ None
        → (odd_parameter ps ts ≡ None → AllByRecursion (λ t. IsArgument (kind_of t)) ts) → IsArgument (kind_of t) × AllByRecursion (λ t. IsArgument (kind_of t)) ts
    by true test rest later = (entry_is (kind_of t) test, later rest)
    by false test rest later = absurd (cc)

abbrev odd_result : Option ℕ → Kind → plain.ResultType → Option ℕ
odd_result (Some at) given result = Some at
odd_result None given result = if is_int given then None else Some (result_at result)

odd_result_is : (o : Option ℕ) (given : Kind) (result : plain.ResultType) → odd_result o given result ≡ None → (o ≡ None) × (given ≡ kind.Int)
odd_result_is (Some n) given result e = absurd (cc)
odd_result_is None given result e = by (is_int given) refl e
  where
    by : (b : Bool) → is_int given ≡ b → (if b then None else Some (result_at result)) ≡ None → (◌≡◌ {A = Option ℕ} None None) × (given ≡ kind.Int)
    by true test e = (refl, int_is given test)
    by false test e = absurd (cc)

abbrev main_kind : ℕ → Option ℕ → Check ℕ
main_kind number None = Ok number
main_kind number (Some at) = fault MainKind at

main_kind_is : (number : ℕ) (o : Option ℕ) (y : ℕ) → main_kind number o ≡ Ok y → (o ≡ None) × (number ≡ y)
main_kind_is number None y e = (refl, ok_same number y e)
main_kind_is number (Some at) y e = absurd (cc)

named_at : (P : List Packing) (functions : Functions) (number : ℕ) (h : Header) → IsTable P functions → place (codes "main") functions.names ≡ Some number
    → slice_get functions.headers number ≡ Some h → name_of h ≡ codes "main"
unfolding place
named_at P functions number h t found at =
    let p = position-Some (bytes_eq (codes "main")) functions.names number [] found in
    let same = (bytes_eq-Decides (codes "main") (get_or functions.names number [])).0 p.1 in
    sym (same ∙ ap (λ ns. get_or ns number []) t.names ∙ get_name functions.headers number at)
  where
    get_name : (hs : List Header) (n : ℕ) → slice_get hs n ≡ Some h → get_or (map name_of hs) n [] ≡ name_of h
    get_name [] n e = absurd (cc)
    get_name (g ∷ hs) zero e = ap name_of (same_Some g h e)
    get_name (g ∷ hs) (suc n) e = get_name hs n e

abbrev of_header : ℕ → Option Header → ℕ → Check ℕ
of_header end (Some main) number = main_kind number (odd_main main)
of_header end None number = fault NoMain end

abbrev of_place : ℕ → List Header → Option ℕ → Check ℕ
of_place end headers None = fault NoMain end
of_place end headers (Some number) = of_header end (slice_get headers number) number

odd_main_is : (h : Header) → odd_main h ≡ None → (odd_parameter h.declaration.parameters h.params ≡ None) × (h.given.kind ≡ kind.Int)
unfolding odd_main
odd_main_is h e = odd_result_is (odd_parameter h.declaration.parameters h.params) h.given.kind h.declaration.result e

header_at : (P : List Packing) (functions : Functions) (end number n : ℕ) (o : Option Header) → IsTable P functions → place (codes "main") functions.names ≡ Some n
    → slice_get functions.headers n ≡ o → of_header end o n ≡ Ok number → IsMainHeader functions number
header_at P functions end number n None t found at e = absurd (cc)
header_at P functions end number n (Some h) t found at e =
    let k = main_kind_is n (odd_main h) number e in
    let odd = odd_main_is h k.0 in
    let is = all_at (IsHeader P) functions.headers n h t.headers at in
    subst (IsMainHeader functions) k.1 (record {
      header = h;
      at = at;
      name = named_at P functions n h t found at;
      params = entries_are h.declaration.parameters h.params is.count odd.0;
      result = odd.1;
    })

place_at : (P : List Packing) (functions : Functions) (end number : ℕ) (o : Option ℕ) → IsTable P functions → place (codes "main") functions.names ≡ o
    → of_place end functions.headers o ≡ Ok number → IsMainHeader functions number
place_at P functions end number None t found e = absurd (cc)
place_at P functions end number (Some n) t found e = header_at P functions end number n (slice_get functions.headers n) t found refl e

pub main_is : (P : List Packing) (functions : Functions) (end number : ℕ) → IsTable P functions → main_number functions end ≡ Ok number → IsMainHeader functions number
unfolding main_number
main_is P functions end number t e = place_at P functions end number (place (codes "main") functions.names) t refl e
