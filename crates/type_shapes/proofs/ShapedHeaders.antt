-- Headers that are read keep the rules of a core.
use Rattle.std.proofs.Common.{◌≡◌, ap, subst, ℕ, ◌+◌, ◌-◌, ◌≤◌, List, [], ◌∷◌, ◌++◌, length, Option, Some, None, Ok, refl, arith, ◌∙◌, ◌⊎◌, inl, inr}
use Rattle.std.specs.Prelude.{is_some}
use Rattle.std.specs.List.{AllByRecursion}
use Rattle.xanadu_tree.specs.declared.types.CoreTy.{CoreTy}
use Rattle.xanadu_tree.specs.declared.types.CoreTy.TheVariants as ty
use Rattle.xanadu_tree.specs.declared.types.Kind.TheVariants as kind
use Rattle.xanadu_tree.specs.declared.types.Packing.{Packing}
use Rattle.xanadu_tree.specs.declared.types.Quant.{Quant}
use Rattle.xanadu_tree.specs.declared.tree.index.Binder.{Binder}
use Rattle.xanadu_tree.specs.IndexRules.{Stretch, IsQuantified, stretch_of}
use Rattle.xanadu_tree.specs.KindRules.{kind_of, IsValue}
use Rattle.xanadu_tree.specs.BodyRules.{IsType}
use Rattle.xanadu_tree.specs.Shaped.{no_index, no_variables}
use Rattle.xanadu_tree.specs.PlainTree as plain
use Rattle.type_shapes.specs.declared.error.ShapeKind.TheVariants.{NamedTwice}
use Rattle.type_shapes.specs.Faults.{Check, ◌>>=◌}
use Rattle.type_shapes.specs.Names.{Scope, Types, meaning}
use Rattle.type_shapes.specs.Quantifiers.{Frame, opened, type_in, closed, quant}
use Rattle.type_shapes.specs.Headers.{Given, Header, nothing, parameters_in, given_in, header_in, header}
use Rattle.type_shapes.specs.Headers.{binder_names, quantifier_names}
use Rattle.type_shapes.proofs.ShapedForms.{Known}
use Rattle.type_shapes.proofs.ShapedQuantifiers.{own, Frames, Typed, Fits, written, opened_opens, type_is}
use Rattle.type_shapes.proofs.ShapedTypes.{begins_frames, closed_is, closes, wider_through, same_wider}
use Rattle.type_shapes.proofs.ShapedLists.{then_ok, ok_same, unless_ok, length_both}

-- ---- parameters

parameters_are : (P : List Packing) (around : List Stretch) (types : Types) (frame : Frame) (scope : Scope) (ps : List plain.Parameter) (named : Scope) (made : List CoreTy) (bare_from : ℕ)
    (y : List CoreTy × Frame) → Fits types P → Frames P around frame scope made bare_from → parameters_in types scope ps named made frame ≡ Ok y
    → Typed P around frame scope y.0 bare_from y.1
unfolding parameters_in
parameters_are P around types frame scope [] named made bare_from y fits f e =
    subst (λ z. Typed P around frame scope z.0 bare_from z.1) (ok_same (made, frame) y e) (record { frames = f; wider = same_wider frame })
parameters_are P around types frame scope (p ∷ ps) named made bare_from y fits f e =
    let rest : CoreTy × Frame → Check (List CoreTy × Frame) =
    λ z. parameters_in types scope ps ((p.name.name, length made) ∷ named) (made ++ (z.0 ∷ [])) z.1 in
    let u = unless_ok (is_some (meaning p.name.name named)) NamedTwice p.name.at (type_in types scope p.ty frame >>= rest) y e in
    let s = then_ok (type_in types scope p.ty frame) rest y u.1 in
    let one = type_is P around types frame scope made bare_from p.ty s.value fits f s.first in
    let more = parameters_are P around types s.value.1 scope ps _ (made ++ (s.value.0 ∷ [])) bare_from y fits one.frames s.second in
    record { frames = more.frames; wider = wider_through frame s.value.1 y.1 one.wider more.wider }

parameters_count : (types : Types) (frame : Frame) (scope : Scope) (ps : List plain.Parameter) (named : Scope) (made : List CoreTy) (y : List CoreTy × Frame)
    → parameters_in types scope ps named made frame ≡ Ok y → length y.0 ≡ length made + length ps
unfolding parameters_in
parameters_count types frame scope [] named made y e = let h : length made ≡ length y.0 = ap (λ z. length z.0) (ok_same (made, frame) y e) in omega (arith, h)
parameters_count types frame scope (p ∷ ps) named made y e =
    let rest : CoreTy × Frame → Check (List CoreTy × Frame) =
    λ z. parameters_in types scope ps ((p.name.name, length made) ∷ named) (made ++ (z.0 ∷ [])) z.1 in
    let u = unless_ok (is_some (meaning p.name.name named)) NamedTwice p.name.at (type_in types scope p.ty frame >>= rest) y e in
    let s = then_ok (type_in types scope p.ty frame) rest y u.1 in
    omega (arith, parameters_count types s.value.1 scope ps _ (made ++ (s.value.0 ∷ [])) y s.second, length_both made (s.value.0 ∷ []))

-- ---- results

pub record IsGiven (P : List Packing) (around : List Stretch) (first : ℕ) (g : Given) : Type 0 where
  pub is : IsType P (stretch_of first g.quant ∷ around) g.ty
  pub quantified : IsQuantified around (stretch_of first g.quant) g.quant.rows (g.ty ∷ [])
  pub which : ((g.kind ≡ kind.Unit) × (g.ty ≡ ty.Int no_index) × (g.quant ≡ no_variables)) ⊎ ((g.kind ≡ kind_of g.ty) × IsValue g.kind)

pub kind_is_value : (t : CoreTy) → IsValue (kind_of t)
kind_is_value (ty.Int form) = tt
kind_is_value ty.Bool = tt
kind_is_value (ty.Array e form) = tt
kind_is_value (ty.Named n) = tt

given_is : (P : List Packing) (around : List Stretch) (types : Types) (scope : Scope) (first : ℕ) (r : plain.ResultType) (y : Given) → Fits types P → Known around scope
    → given_in types scope first r ≡ Ok y → IsGiven P around first y
unfolding given_in
given_is P around types scope first (plain.NoValue at) y fits known e = subst (IsGiven P around first) (ok_same nothing y e) (record {
  is = record { rising = tt; names = tt };
  quantified = record { forms = tt; told = λ v within. absurd (omega (arith, within.0, within.1)) };
  which = inl (refl, refl, refl);
})
given_is P around types scope first (plain.AValue q t at) y fits known e =
    let s = then_ok (opened q first scope) _ y e in
    let one = then_ok (type_in types s.value.1 t s.value.0) _ y s.second in
    let u = then_ok (closed q one.value.1) _ y one.second in
    let b = opened_opens around q first scope s.value known s.first in
    let f = begins_frames P around first (written q) s.value scope b in
    let it = type_is P around types s.value.0 s.value.1 [] (first + written q) t one.value fits f one.first in
    let c = closes P around q first one.value.1 s.value.1 (one.value.0 ∷ []) u.value (it.wider.first ∙ b.first) it.frames u.first in
    subst (IsGiven P around first) (ok_same (record { quant = u.value; ty = one.value.0; kind = kind_of one.value.0 }) y u.second)
    (record { is = c.types.0; quantified = c.quantified; which = inr (refl, kind_is_value one.value.0) })

-- ---- headers

pub record IsHeader (P : List Packing) (h : Header) : Type 0 where
  pub params : AllByRecursion (IsType P (stretch_of 0 h.quant ∷ [])) h.params
  pub quantified : IsQuantified [] (stretch_of 0 h.quant) h.quant.rows h.params
  pub given : IsGiven P (stretch_of 0 h.quant ∷ []) h.quant.count h.given
  pub count : length h.params ≡ length h.declaration.parameters
  pub names : Known (stretch_of 0 h.quant ∷ []) (quantifier_names h.declaration.quantifier [])

binder_names_known : (count : ℕ) (bs : List Binder) (number : ℕ) (scope : Scope) → number + length bs ≤ count → Known (record { first = 0; count = count } ∷ []) scope
    → Known (record { first = 0; count = count } ∷ []) (binder_names bs number scope)
unfolding binder_names
binder_names_known count [] number scope le known = known
binder_names_known count (b ∷ bs) number scope le known =
    binder_names_known count bs (number + 1) _ (omega (arith, le)) (inl (omega arith, omega (arith, le)), known)

quantifier_names_known : (count : ℕ) (q : Option plain.Quantifier) → written q ≤ count → Known (record { first = 0; count = count } ∷ []) (quantifier_names q [])
unfolding quantifier_names
quantifier_names_known count None le = tt
quantifier_names_known count (Some q) le = binder_names_known count q.binders 0 [] (omega (arith, le)) tt

-- what names mean is still so where a quantifier has its variables for bare types too
closing_known : (frame : Frame) (q : Quant) (scope : Scope) → quant frame ≡ q → frame.first ≡ 0 → Known (own frame ∷ []) scope → Known (stretch_of 0 q ∷ []) scope
closing_known frame q scope is at known =
    subst (λ z. Known (stretch_of 0 z ∷ []) scope) is (subst (λ n. Known (record { first = n; count = frame.next - frame.first } ∷ []) scope) at known)

pub header_is : (P : List Packing) (types : Types) (d : plain.FunctionDeclaration) (y : Header) → Fits types P → header types d ≡ Ok y → IsHeader P y × (y.declaration ≡ d)
unfolding header header_in
header_is P types d y fits e =
    let s = then_ok (opened d.quantifier 0 []) _ y e in
    let t = then_ok (parameters_in types s.value.1 d.parameters [] [] s.value.0) _ y s.second in
    let u = then_ok (closed d.quantifier t.value.1) _ y t.second in
    let g = then_ok (given_in types s.value.1 u.value.count d.result) _ y u.second in
    let b = opened_opens [] d.quantifier 0 [] s.value tt s.first in
    let f = begins_frames P [] 0 (written d.quantifier) s.value [] b in
    let all = parameters_are P [] types s.value.0 s.value.1 d.parameters [] [] (0 + written d.quantifier) t.value fits f t.first in
    let at : t.value.1.first ≡ 0 = all.wider.first ∙ b.first in
    let c = closes P [] d.quantifier 0 t.value.1 s.value.1 t.value.0 u.value at all.frames u.first in
    let q = (closed_is d.quantifier t.value.1 u.value u.first).0 in
    let known = closing_known t.value.1 u.value s.value.1 q at all.frames.known in
    let enough : written d.quantifier ≤ u.value.count = omega (arith, all.frames.from, at, ap (λ z. z.count) q) in
    subst (λ h. IsHeader P h × (h.declaration ≡ d)) (ok_same (record { declaration = d; quant = u.value; params = t.value.0; given = g.value }) y g.second) (
      record {
        params = c.types;
        quantified = c.quantified;
        given = given_is P (stretch_of 0 u.value ∷ []) types s.value.1 u.value.count d.result g.value fits known g.first;
        count = parameters_count types s.value.0 s.value.1 d.parameters [] [] t.value t.first ∙ zero_before (length d.parameters);
        names = quantifier_names_known u.value.count d.quantifier enough;
      },
      refl,
    )
  where
    zero_before : (n : ℕ) → 0 + n ≡ n
    zero_before n = omega arith
