-- Types that match have the same tags, and what replaces variables keeps the tag.
use Rattle.std.proofs.Common.{◌≡◌, ◌∙◌, ℕ, suc, List, [], ◌∷◌, ◌++◌, map, length, true, Result, Ok, Err, refl, ap, arith}
use Rattle.xan_lin.specs.Linear.{Linear}
use Rattle.xan_lin.specs.Subst.{subst_of}
use Rattle.xan_lin.specs.declared.term.TooLarge.{TooLarge}
use Rattle.state_types.specs.Matching.{pair_of, pairs_of, matched}
use Rattle.state_types.specs.Types.{same_kind, subst_ty}
use Rattle.state_types.specs.Unpacking.{shifted_type}
use Rattle.state_types.specs.declared.matching.Found.{Found}
use Rattle.state_types.specs.declared.types.Ty.{Ty}
use Rattle.state_types.specs.declared.types.Ty.TheVariants as ty
use Rattle.state_types.proofs.MatchPairs.{pair_is}
use Rattle.state_types.proofs.Thens.{then_ok, ok_same}
use Rattle.operation_rules.specs.Rules as rules
use Rattle.operation_rules.proofs.BlocksFound.{matching_is}
use Rattle.source_safety.specs.Values.{tag_for, tags_for}
use Rattle.source_safety.proofs.RuleTags.{TagsAre}

-- ---- matches

pub kind_tag : (s t : Ty) → same_kind s t ≡ true → tag_for s ≡ tag_for t
kind_tag (ty.Int e) (ty.Int f) h = refl
kind_tag ty.Bool ty.Bool h = refl
kind_tag (ty.Array a e) (ty.Array b f) h = refl
kind_tag (ty.Named a) (ty.Named b) h = refl
kind_tag _ _ h = absurd (let bad : ⊥ = cc in bad)

pairs_tags : (number : ℕ) (wanted actual : List Ty) (made all : List _) → pairs_of number wanted actual made ≡ Ok all → length wanted ≡ length actual → tags_for wanted ≡ tags_for actual
unfolding pairs_of tags_for
pairs_tags number [] [] made all e many = refl
pairs_tags number [] (t ∷ ts) made all e many = absurd (let bad : ⊥ = cc in bad)
pairs_tags number (w ∷ ws) [] made all e many = absurd (let bad : ⊥ = cc in bad)
pairs_tags number (w ∷ ws) (t ∷ ts) made all e many =
    let s = then_ok (pair_of number w t) (λ pair. pairs_of (suc number) ws ts (made ++ pair ∷ [])) all e in
    let here = kind_tag w t (pair_is number w t s.value s.first).0 in
    let later = pairs_tags (suc number) ws ts (made ++ s.value ∷ []) all s.second (omega (arith, many)) in
    ap (λ g. g ∷ tags_for ws) here ∙ ap (λ gs. tag_for t ∷ gs) later

pub matched_tags : (below vars : ℕ) (rows : List Linear) (wanted actual : List Ty) (found : Found) → matched below vars rows wanted actual ≡ Ok found → length wanted ≡ length actual
    → tags_for wanted ≡ tags_for actual
unfolding matched
matched_tags below vars rows wanted actual found e many =
    let s = then_ok (pairs_of 0 wanted actual []) _ found e in
    pairs_tags 0 wanted actual [] s.value s.first many

pub matching_tags : (below vars : ℕ) (rows : List Linear) (wanted actual : List Ty) (found : Found) → rules.matching below vars rows wanted actual ≡ Ok found
    → tags_for wanted ≡ tags_for actual
matching_tags below vars rows wanted actual found e =
    let m = matching_is below vars rows wanted actual found e in
    matched_tags below vars rows wanted actual found m.is m.many

-- ---- types that are renumbered, or in which variables are replaced

shifted_tag : (first : ℕ) (t : Ty) → tag_for t ≡ tag_for (shifted_type first t)
shifted_tag first (ty.Int e) = refl
shifted_tag first ty.Bool = refl
shifted_tag first (ty.Array number e) = refl
shifted_tag first (ty.Named number) = refl

pub shifted_tags : (first : ℕ) (ts : List Ty) → TagsAre (tags_for ts) (map (λ t. let r : Result Ty TooLarge = Ok (shifted_type first t) in r) ts)
unfolding tags_for
shifted_tags first [] = tt
shifted_tags first (t ∷ ts) = (shifted_tag first t, shifted_tags first ts)

pub subst_tag : (values : List (ℕ × Linear)) (below : ℕ) (t u : Ty) → subst_ty values below t ≡ Ok u → tag_for t ≡ tag_for u
unfolding subst_ty
subst_tag values below (ty.Int e) u is =
    let s = then_ok (subst_of values below e) (λ form. let r : Result Ty TooLarge = Ok (ty.Int form) in r) u is in
    ap tag_for (ok_same (ty.Int s.value) u s.second)
subst_tag values below ty.Bool u is = ap tag_for (ok_same ty.Bool u is)
subst_tag values below (ty.Array p e) u is =
    let s = then_ok (subst_of values below e) (λ form. let r : Result Ty TooLarge = Ok (ty.Array p form) in r) u is in
    ap tag_for (ok_same (ty.Array p s.value) u s.second)
subst_tag values below (ty.Named p) u is = ap tag_for (ok_same (ty.Named p) u is)

pub result_tags : (t : Ty) (r : Result Ty TooLarge) → ((u : Ty) → r ≡ Ok u → tag_for t ≡ tag_for u) → TagsAre (tag_for t ∷ []) (r ∷ [])
result_tags t (Ok u) h = (h u refl, tt)
result_tags t (Err why) h = tt
