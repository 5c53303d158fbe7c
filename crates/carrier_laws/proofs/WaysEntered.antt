-- What a way into a join is made of, and what its values are.
use Rattle.std.proofs.Common.{◌≡◌, ◌∙◌, ℕ, suc, ◌+◌, List, [], ◌∷◌, ◌++◌, map, length, Bool as Truth, true, false, Option, Some, None, Ok, refl, sym, ap, subst, append_assoc, append-nil}
use Rattle.std.specs.Prelude.{◌==◌, ◌||◌}
use Rattle.std.specs.List.{AllZip}
use Rattle.std.proofs.lemmas.Bool.Decides.{Decides-eqb}
use Rattle.xan_lin.specs.Linear.{Linear}
use Rattle.xan_lin.specs.declared.term.LimitKind.TheVariants as limit
use Rattle.xan_lin.specs.declared.term.TooLarge.{TooLarge}
use Rattle.state_types.specs.PlaceTypes.{type_at}
use Rattle.state_types.specs.Types.{index_of}
use Rattle.state_types.specs.declared.matching.Found.{Found}
use Rattle.state_types.specs.declared.state.StateType.{StateType}
use Rattle.state_types.specs.declared.types.Ty.{Ty}
use Rattle.state_types.proofs.Thens.{then_ok, ok_same}
use Rattle.operation_rules.specs.Rules as rules
use Rattle.operation_rules.proofs.BlocksFound.{matching_is}
use Rattle.xanadu_tree.specs.declared.types.CoreTy.{CoreTy}
use Rattle.typed_core.specs.Forms.{renamed_type}
use Rattle.typed_core.specs.Joins.{is_named, Joint, stated_types, present, within_bounds, index_at, values_at, met_there, entered}
use Rattle.typed_core.specs.Limits.{within, needed}
use Rattle.typed_core.specs.States.{Site, State, all_asked, none_asked, noting, there, matching}
use Rattle.typed_core.specs.declared.note.Note.TheVariants as note
use Rattle.source_safety.proofs.Demanded.{by_rule_ok}
use Rattle.source_safety.proofs.JoinTypes.{presents_are, HasIndex}
use Rattle.type_carrier.specs.Ways.{first_type, present_at}
use Rattle.carrier_laws.proofs.CountedValues.{Counted}
use Rattle.carrier_laws.proofs.MatchedRows.{IsMatch, match_is}

there_is : {A : Type 0} (o : Option A) (x : A) → there o ≡ Ok x → o ≡ Some x
there_is (Some y) x e = ap (λ z. let p : Option _ = Some z in p) (ok_same y x e)
there_is None x e = absurd (let bad : ⊥ = cc in bad)

-- ---- the values of other variables

pub record OtherValues (types : List (ℕ × Ty)) (next : ℕ) (xs : List ℕ) (made values : List (ℕ × Linear)) : Type 0 where
  pub more : List (ℕ × Linear)
  pub is : values ≡ made ++ more
  pub counted : Counted next more
  pub many : length more ≡ length xs
  pub each : AllZip (λ x v. HasIndex types x v.1) xs more

pub other_values : (types : List (ℕ × Ty)) (next : ℕ) (xs : List ℕ) (made values : List (ℕ × Linear)) → values_at types next xs made ≡ Ok values
    → OtherValues types next xs made values
unfolding values_at index_at
other_values types next [] made values e = record { more = []; is = sym (ok_same made values e) ∙ sym (append-nil made); counted = tt; many = refl; each = tt }
other_values types next (x ∷ xs) made values e =
    let s = then_ok (index_at types x) _ values e in
    let t = then_ok (there (type_at x types)) _ s.value s.first in
    let later = other_values types (suc next) xs (made ++ (next, s.value) ∷ []) values s.second in
    record {
      more = (next, s.value) ∷ later.more;
      is = later.is ∙ append_assoc made ((next, s.value) ∷ []) later.more;
      counted = (refl, later.counted);
      many = ap suc later.many;
      each = (record { type = t.value; there = there_is (type_at x types) t.value t.first; is = there_is (index_of t.value) s.value t.second }, later.each);
    }

-- ---- a way in

pub record IsWay (site : Site) (at : ℕ) (joint : Joint) (from : StateType) (st more : State) : Type 0 where
  pub actual : List Ty
  pub found : Found
  pub values : List (ℕ × Linear)
  pub presents : AllZip (λ (w : ℕ × Ty) t. type_at w.0 from.places ≡ Some t) joint.wanted actual
  pub matches : IsMatch joint.first joint.count joint.rows (map (λ w. w.1) joint.wanted) actual found
  pub bounded : joint.past ≡ None
  pub valued : OtherValues from.places (joint.first + joint.count) joint.others found.values values
  pub is : more ≡ noting (all_asked site at from.ctx found.rows (none_asked st)).goals
      (note.Edge values actual (all_asked site at from.ctx found.rows (none_asked st)).numbers) st

bounded_is : (past : Option TooLarge) (u : Unit {0}) → within_bounds past ≡ Ok u → past ≡ None
bounded_is None u e = refl
bounded_is (Some why) u e = absurd (let bad : ⊥ = cc in bad)

pub way_is : (site : Site) (at : ℕ) (joint : Joint) (from : StateType) (st more : State) → entered site at joint from st ≡ Ok more → IsWay site at joint from st more
unfolding entered met_there matching
way_is site at joint from st more e =
    let wanted = map (λ w. w.1) joint.wanted in
    let s = then_ok (met_there joint from.places) _ more e in
    let p = then_ok (present from.places joint.wanted []) _ s.value s.first in
    let q = then_ok (matching joint.first (joint.first + joint.count) joint.rows wanted p.value) _ s.value p.second in
    let same = ok_same (p.value, q.value) s.value q.second in
    let t = then_ok (within_bounds joint.past) _ more s.second in
    let u = then_ok (values_at from.places (joint.first + joint.count) joint.others s.value.1.values) _ more t.second in
    let m = matching_is joint.first (joint.first + joint.count) joint.rows wanted p.value q.value
    (by_rule_ok (rules.matching joint.first (joint.first + joint.count) joint.rows wanted p.value) q.value q.first) in
    let pr = presents_are from.places joint.wanted [] p.value p.first in
    record {
      actual = s.value.0;
      found = s.value.1;
      values = u.value;
      presents = subst (λ ts. AllZip (λ (w : ℕ × Ty) t. type_at w.0 from.places ≡ Some t) joint.wanted ts) (pr.is ∙ ap (λ (x : List Ty × Found). x.0) same) pr.there;
      matches = subst (λ (x : List Ty × Found). IsMatch joint.first joint.count joint.rows wanted x.0 x.1) same
          (match_is joint.first joint.count joint.rows wanted p.value q.value m.many m.is);
      bounded = bounded_is joint.past t.value t.first;
      valued = other_values from.places (joint.first + joint.count) joint.others s.value.1.values u.value u.first;
      is = sym (ok_same _ more u.second);
    }

-- ---- present types of the variables of a clause

-- the types that a clause states are of its variables, in order
pub keys_stated : (naming : List (ℕ × Linear)) (own : ℕ) (vars : List (ℕ × CoreTy)) (made wanted : List (ℕ × Ty)) → stated_types naming own vars made ≡ Ok wanted
    → (ws : List (ℕ × Ty)) × (made ++ ws ≡ wanted) × AllZip (λ (s : ℕ × CoreTy) (w : ℕ × Ty). s.0 ≡ w.0) vars ws
unfolding stated_types
keys_stated naming own [] made wanted e = ([], append-nil made ∙ ok_same made wanted e, tt)
keys_stated naming own (s ∷ ss) made wanted e =
    let t = then_ok (within limit.Places (suc s.0)) _ wanted e in
    let u = then_ok (needed (renamed_type naming own s.1)) _ wanted t.second in
    let later = keys_stated naming own ss (made ++ (s.0, u.value) ∷ []) wanted u.second in
    ((s.0, u.value) ∷ later.0, sym (append_assoc made ((s.0, u.value) ∷ []) later.0) ∙ later.1, (refl, later.2))

module _ (types : List (ℕ × Ty)) (x : ℕ) where
  pub named_present : (vars : List (ℕ × CoreTy)) (wanted : List (ℕ × Ty)) (actual : List Ty) → AllZip (λ (s : ℕ × CoreTy) (w : ℕ × Ty). s.0 ≡ w.0) vars wanted
      → AllZip (λ (w : ℕ × Ty) t. type_at w.0 types ≡ Some t) wanted actual → is_named x vars ≡ true → present_at vars actual x ≡ type_at x types
  unfolding present_at
  named_present [] [] actual keys there named = absurd (let bad : ⊥ = cc in bad)
  named_present [] (w ∷ ws) actual keys there named = absurd keys
  named_present (s ∷ ss) [] actual keys there named = absurd keys
  named_present (s ∷ ss) (w ∷ ws) [] keys there named = absurd there
  named_present (s ∷ ss) (w ∷ ws) (a ∷ others) keys there named = by_test (s.0 == x) refl named (λ n. named_present ss ws others keys.1 there.1 n)
    where
      by_test : (b : Truth) → (s.0 == x) ≡ b → (b || is_named x ss) ≡ true → (is_named x ss ≡ true → present_at ss others x ≡ type_at x types)
          → first_type (s.0 == x) a (present_at ss others x) ≡ type_at x types
      by_test true e n later =
          ap (λ b. first_type b a (present_at ss others x)) e ∙ sym there.0 ∙ ap (λ k. type_at k types) (sym keys.0 ∙ (Decides-eqb s.0 x).0 e)
      by_test false e n later = ap (λ b. first_type b a (present_at ss others x)) e ∙ later n

pub unnamed_present : (vars : List (ℕ × CoreTy)) (actual : List Ty) (x : ℕ) → is_named x vars ≡ false → present_at vars actual x ≡ None
unfolding present_at
unnamed_present [] actual x named = refl
unnamed_present (s ∷ ss) [] x named = refl
unnamed_present (s ∷ ss) (a ∷ others) x named = by_test (s.0 == x) refl named (λ n. unnamed_present ss others x n)
  where
    by_test : (b : Truth) → (s.0 == x) ≡ b → (b || is_named x ss) ≡ false → (is_named x ss ≡ false → present_at ss others x ≡ None)
        → first_type (s.0 == x) a (present_at ss others x) ≡ None
    by_test true e n later = absurd (let bad : ⊥ = cc in bad)
    by_test false e n later = ap (λ b. first_type b a (present_at ss others x)) e ∙ later n
