-- What elaboration follows is what verification applies.
use Rattle.std.proofs.Common.{◌≡◌, ◌∙◌, List, Result, Ok, refl, ap, subst}
use Rattle.index_sorts.specs.Context.{IndexContext}
use Rattle.state_types.specs.Answers.{◌>>=◌}
use Rattle.state_types.specs.declared.types.Ty.{Ty}
use Rattle.state_types.proofs.Thens.{then_ok, ok_same}
use Rattle.operation_rules.specs.Applied.{Ruled, widened, all_assuming, all_given, applied}
use Rattle.operation_rules.specs.Faults.{filled, needed}
use Rattle.operation_rules.specs.declared.rule.Rule.{Rule}
use Rattle.typed_core.specs.Constructs.{followed}

next_is : {A B E : Type 0} (m : Result A E) (next : A → Result B E) (x : A) → m ≡ Ok x → (m >>= next) ≡ next x
next_is m next x e = ap (λ r. r >>= next) e

-- the three parts of a rule, each with its answer
record Parts (r : Rule) (ctx wide more : IndexContext) (types : List Ty) : Type 0 where
  widens : filled (widened r.fresh ctx) ≡ Ok wide
  assumes : filled (all_assuming r.assumed wide) ≡ Ok more
  gives : needed (all_given r.given) ≡ Ok types

parts_follow : (r : Rule) (ctx wide more : IndexContext) (types : List Ty) → Parts r ctx wide more types → followed r ctx ≡ Ok (types, more)
unfolding followed
parts_follow r ctx wide more types p =
    next_is (filled (widened r.fresh ctx)) _ wide p.widens ∙ (next_is (filled (all_assuming r.assumed wide)) _ more p.assumes ∙ next_is (needed (all_given r.given)) _ types p.gives)

parts_apply : (r : Rule) (ctx wide more : IndexContext) (types : List Ty) → Parts r ctx wide more types
    → applied r ctx ≡ Ok (record { demands = r.demands; ctx = more; types = types })
unfolding applied
parts_apply r ctx wide more types p =
    next_is (needed (all_given r.given)) _ types p.gives ∙ (next_is (filled (widened r.fresh ctx)) _ wide p.widens ∙ next_is (filled (all_assuming r.assumed wide)) _ more p.assumes)

pub followed_is_applied : (r : Rule) (ctx more : IndexContext) (types : List Ty) → followed r ctx ≡ Ok (types, more)
    → applied r ctx ≡ Ok (record { demands = r.demands; ctx = more; types = types })
unfolding followed
followed_is_applied r ctx more types e =
    let s = then_ok (filled (widened r.fresh ctx)) _ (types, more) e in
    let t = then_ok (filled (all_assuming r.assumed s.value)) _ (types, more) s.second in
    let u = then_ok (needed (all_given r.given)) _ (types, more) t.second in
    subst (λ (p : List Ty × IndexContext). applied r ctx ≡ Ok (record { demands = r.demands; ctx = p.1; types = p.0 })) (ok_same (u.value, t.value) (types, more) u.second)
    (parts_apply r ctx s.value t.value u.value (record { widens = s.first; assumes = t.first; gives = u.first }))

-- what is applied, with the rule's own demands
record Follows (r : Rule) (ctx : IndexContext) (ruled : Ruled) : Type 0 where
  demands : ruled.demands ≡ r.demands
  follows : followed r ctx ≡ Ok (ruled.types, ruled.ctx)

applied_follows : (r : Rule) (ctx : IndexContext) (ruled : Ruled) → applied r ctx ≡ Ok ruled → Follows r ctx ruled
unfolding applied
applied_follows r ctx ruled e =
    let s = then_ok (needed (all_given r.given)) _ ruled e in
    let t = then_ok (filled (widened r.fresh ctx)) _ ruled s.second in
    let u = then_ok (filled (all_assuming r.assumed t.value)) _ ruled t.second in
    let made : Ruled = record { demands = r.demands; ctx = u.value; types = s.value } in
    subst (λ x. Follows r ctx x) (ok_same made ruled u.second)
    (record { demands = refl; follows = parts_follow r ctx t.value u.value s.value (record { widens = t.first; assumes = u.first; gives = s.first }) })

pub applied_is_followed : (r : Rule) (ctx : IndexContext) (ruled : Ruled) → applied r ctx ≡ Ok ruled
    → (followed r ctx ≡ Ok (ruled.types, ruled.ctx)) × (ruled.demands ≡ r.demands)
applied_is_followed r ctx ruled e = (let f = applied_follows r ctx ruled e in (f.follows, f.demands))
