-- Types of a rule's operands, and the words that have them.
use Rattle.std.proofs.Common.{◌≡◌, ℕ, ℤ, List, [], ◌∷◌, Ok, refl, ◌∙◌, ap, subst}
use Rattle.std.specs.List.{AllZip}
use Rattle.std.specs.Prelude.{◌≤◌}
use Rattle.index_sorts.specs.Context.{IndexContext}
use Rattle.index_sorts.specs.Entails.{AllHold}
use Rattle.xan_lin.specs.Linear.{Linear}
use Rattle.state_types.specs.Words.{Headers, HasType}
use Rattle.state_types.specs.declared.types.Ty.{Ty}
use Rattle.state_types.specs.declared.types.Ty.TheVariants as ty
use Rattle.state_types.proofs.Thens.{then_ok, ok_same}
use Rattle.operation_rules.specs.Applied.{Ruled, applied}
use Rattle.operation_rules.specs.Effects.{Stores, Effect, with_none, with_one, with_two, with_three}
use Rattle.operation_rules.specs.Rules.{Setting, Rule, no_types, one_type, two_types, three_types, as_number, as_array, two_numbers}
use Rattle.operation_rules.specs.Sound.{IsSetting, Stands, Written, Goes}
use Rattle.operation_rules.specs.Stored.{IsStores, StoreFits}
use Rattle.operation_rules.proofs.RuleFacts.{Meets, applied_written}

-- ---- types

pub no_types_is : (types : List Ty) (u : Unit {0}) → no_types types ≡ Ok u → types ≡ []
no_types_is [] u e = refl
no_types_is (t ∷ types) u e = absurd (let bad : ⊥ = cc in bad)

pub one_type_is : (types : List Ty) (t : Ty) → one_type types ≡ Ok t → types ≡ t ∷ []
one_type_is [] t e = absurd (let bad : ⊥ = cc in bad)
one_type_is (x ∷ []) t e = ap (λ y. y ∷ []) (ok_same x t e)
one_type_is (x ∷ y ∷ types) t e = absurd (let bad : ⊥ = cc in bad)

pub two_types_is : (types : List Ty) (p : Ty × Ty) → two_types types ≡ Ok p → types ≡ p.0 ∷ p.1 ∷ []
two_types_is [] p e = absurd (let bad : ⊥ = cc in bad)
two_types_is (x ∷ []) p e = absurd (let bad : ⊥ = cc in bad)
two_types_is (x ∷ y ∷ []) p e = ap (λ q. q.0 ∷ q.1 ∷ []) (ok_same (x, y) p e)
two_types_is (x ∷ y ∷ z ∷ types) p e = absurd (let bad : ⊥ = cc in bad)

pub three_types_is : (types : List Ty) (p : Ty × Ty × Ty) → three_types types ≡ Ok p → types ≡ p.0 ∷ p.1 ∷ p.2 ∷ []
three_types_is [] p e = absurd (let bad : ⊥ = cc in bad)
three_types_is (x ∷ []) p e = absurd (let bad : ⊥ = cc in bad)
three_types_is (x ∷ y ∷ []) p e = absurd (let bad : ⊥ = cc in bad)
three_types_is (x ∷ y ∷ z ∷ []) p e = ap (λ q. q.0 ∷ q.1 ∷ q.2 ∷ []) (ok_same (x, y, z) p e)
three_types_is (x ∷ y ∷ z ∷ w ∷ types) p e = absurd (let bad : ⊥ = cc in bad)

pub as_number_is : (t : Ty) (f : Linear) → as_number t ≡ Ok f → t ≡ ty.Int f
as_number_is (ty.Int g) f e = ap (λ h. ty.Int h) (ok_same g f e)
as_number_is ty.Bool f e = absurd (let bad : ⊥ = cc in bad)
as_number_is (ty.Array p g) f e = absurd (let bad : ⊥ = cc in bad)
as_number_is (ty.Named p) f e = absurd (let bad : ⊥ = cc in bad)

pub as_array_is : (t : Ty) (p : ℕ × Linear) → as_array t ≡ Ok p → t ≡ ty.Array p.0 p.1
as_array_is (ty.Int g) p e = absurd (let bad : ⊥ = cc in bad)
as_array_is ty.Bool p e = absurd (let bad : ⊥ = cc in bad)
as_array_is (ty.Array q g) p e = ap (λ r. ty.Array r.0 r.1) (ok_same (q, g) p e)
as_array_is (ty.Named q) p e = absurd (let bad : ⊥ = cc in bad)

pub two_numbers_is : (types : List Ty) (p : Linear × Linear) → two_numbers types ≡ Ok p → types ≡ ty.Int p.0 ∷ ty.Int p.1 ∷ []
unfolding two_numbers
two_numbers_is types p e =
    let s = then_ok (two_types types) _ p e in
    let t = then_ok (as_number s.value.0) _ p s.second in
    let u = then_ok (as_number s.value.1) _ p t.second in
    two_types_is types s.value s.first
    ∙ ap (λ x. x ∷ s.value.1 ∷ []) (as_number_is s.value.0 t.value t.first)
    ∙ ap (λ x. ty.Int t.value ∷ x ∷ []) (as_number_is s.value.1 u.value u.first)
    ∙ ap (λ (q : Linear × Linear). ty.Int q.0 ∷ ty.Int q.1 ∷ []) (ok_same (t.value, u.value) p u.second)

-- ---- words

module _ {S : Type 0} (stores : Stores S) (F : Effect S → Type 0) (headers : Headers) (assignment : List ℤ) where
  pub with_none_is : (words : List ℤ) (types : List Ty) (k : Effect S) → types ≡ [] → AllZip (HasType headers assignment) words types → F k → F (with_none stores words k)
  with_none_is [] types k e has f = f
  with_none_is (w ∷ ws) types k e has f = absurd (subst (λ ts. AllZip (HasType headers assignment) (w ∷ ws) ts) e has)

  one_by : (words : List ℤ) (t : Ty) (k : ℤ → Effect S) → AllZip (HasType headers assignment) words (t ∷ [])
      → ((a : ℤ) → HasType headers assignment a t → F (k a)) → F (with_one stores words k)
  one_by [] t k has f = absurd has
  one_by (a ∷ []) t k has f = f a has.0
  one_by (a ∷ b ∷ ws) t k has f = absurd has.1

  pub with_one_is : (words : List ℤ) (types : List Ty) (t : Ty) (k : ℤ → Effect S) → types ≡ t ∷ [] → AllZip (HasType headers assignment) words types
      → ((a : ℤ) → HasType headers assignment a t → F (k a)) → F (with_one stores words k)
  with_one_is words types t k e has f = one_by words t k (subst (λ ts. AllZip (HasType headers assignment) words ts) e has) f

  two_by : (words : List ℤ) (t u : Ty) (k : ℤ → ℤ → Effect S) → AllZip (HasType headers assignment) words (t ∷ u ∷ [])
      → ((a b : ℤ) → HasType headers assignment a t → HasType headers assignment b u → F (k a b)) → F (with_two stores words k)
  two_by [] t u k has f = absurd has
  two_by (a ∷ []) t u k has f = absurd has.1
  two_by (a ∷ b ∷ []) t u k has f = f a b has.0 has.1.0
  two_by (a ∷ b ∷ c ∷ ws) t u k has f = absurd has.1.1

  pub with_two_is : (words : List ℤ) (types : List Ty) (t u : Ty) (k : ℤ → ℤ → Effect S) → types ≡ t ∷ u ∷ [] → AllZip (HasType headers assignment) words types
      → ((a b : ℤ) → HasType headers assignment a t → HasType headers assignment b u → F (k a b)) → F (with_two stores words k)
  with_two_is words types t u k e has f = two_by words t u k (subst (λ ts. AllZip (HasType headers assignment) words ts) e has) f

  three_by : (words : List ℤ) (t u v : Ty) (k : ℤ → ℤ → ℤ → Effect S) → AllZip (HasType headers assignment) words (t ∷ u ∷ v ∷ [])
      → ((a b c : ℤ) → HasType headers assignment a t → HasType headers assignment b u → HasType headers assignment c v → F (k a b c)) → F (with_three stores words k)
  three_by [] t u v k has f = absurd has
  three_by (a ∷ []) t u v k has f = absurd has.1
  three_by (a ∷ b ∷ []) t u v k has f = absurd has.1.1
  three_by (a ∷ b ∷ c ∷ []) t u v k has f = f a b c has.0 has.1.0 has.1.1.0
  three_by (a ∷ b ∷ c ∷ d ∷ ws) t u v k has f = absurd has.1.1.1

  pub with_three_is : (words : List ℤ) (types : List Ty) (t u v : Ty) (k : ℤ → ℤ → ℤ → Effect S) → types ≡ t ∷ u ∷ v ∷ []
      → AllZip (HasType headers assignment) words types
      → ((a b c : ℤ) → HasType headers assignment a t → HasType headers assignment b u → HasType headers assignment c v → F (k a b c)) → F (with_three stores words k)
  with_three_is words types t u v k e has f = three_by words t u v k (subst (λ ts. AllZip (HasType headers assignment) words ts) e has) f

-- ---- what is known where an operation acts

module _ {S : Type 0} (stores : Stores S) (st : Setting) (store : S) (assignment : List ℤ) (ctx : IndexContext) where
  pub record Acts (types : List Ty) (words : List ℤ) (r : Rule) (ruled : Ruled) : Type 0 where
    pub laws : IsStores stores
    pub setting : IsSetting st
    pub own : st.own.vars ≤ ctx.vars
    pub does : applied r ctx ≡ Ok ruled
    pub stands : Stands (stores.headers store) assignment ctx words types
    pub fits : StoreFits stores st.table store
    pub demands : AllHold assignment r.demands

  pub written_by : (types : List Ty) (words out : List ℤ) (r : Rule) (ruled : Ruled) (headers : Headers) → Acts types words r ruled → Meets headers assignment r out
      → Written headers assignment ctx ruled out
  written_by types words out r ruled headers acts meets =
      applied_written headers assignment out r ctx ruled acts.does acts.stands.one_each acts.stands.hold acts.stands.named meets

  pub goes_same : (types : List Ty) (words out : List ℤ) (r : Rule) (ruled : Ruled) → Acts types words r ruled → Meets (stores.headers store) assignment r out
      → Goes stores st store assignment ctx ruled out store
  goes_same types words out r ruled acts meets = record {
    written = written_by types words out r ruled (stores.headers store) acts meets;
    keeps = record { keeps = λ address header e. e };
    fits = acts.fits;
  }
