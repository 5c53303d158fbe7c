-- The names of a tuple's parts are set: the first so many cells of its block have the types of the parts, and their tags.
use Rattle.std.proofs.Common.{◌≡◌, ◌∙◌, ℕ, ◌<◌, ℤ, List, [], ◌∷◌, length, Some, Ok, refl, sym, ap, subst}
use Rattle.std.specs.List.{All, AllZip}
use Rattle.std.proofs.lemmas.List.Elements.{All-head, All-tail}
use Rattle.state_types.specs.Types.{TypeBelow}
use Rattle.state_types.specs.Words.{Headers, HasType}
use Rattle.state_types.specs.declared.types.Ty.{Ty}
use Rattle.state_types.proofs.Thens.{then_ok, ok_same}
use Rattle.typed_core.specs.SourceRuns.{Run, Env}
use Rattle.std.specs.Prelude.{slice_set}
use Rattle.typed_core.specs.SourceStatements.{set_all, set_variable}
use Rattle.typed_core.specs.SourceValues.{Tag, Value, Blocks, with_tags}
use Rattle.typed_core.specs.States.{Site, State, given}
use Rattle.typed_core.specs.Statements.{all_given}
use Rattle.source_safety.specs.Values.{headers_of, HasValue, HaveValues, tag_for, tags_for}
use Rattle.source_safety.specs.Standing.{Stands, Fares}
use Rattle.source_safety.proofs.FaredOn.{fares_then, fares_on}
use Rattle.source_safety.proofs.SimpleStatements.{set_to, set_length, given_is, names_with, set_holds}

-- words with the tags of their types are values of these
pub tagged_have : (headers : Headers) (assignment : List ℤ) (tags : List Tag) (ws : List ℤ) (ts : List Ty) → tags ≡ tags_for ts → AllZip (HasType headers assignment) ws ts
    → HaveValues headers assignment (with_tags tags ws) ts
unfolding with_tags tags_for
tagged_have headers assignment [] [] [] e has = tt
tagged_have headers assignment [] [] (t ∷ ts) e has = absurd has
tagged_have headers assignment [] (w ∷ ws) [] e has = tt
tagged_have headers assignment [] (w ∷ ws) (t ∷ ts) e has = absurd (let bad : ⊥ = cc in bad)
tagged_have headers assignment (g ∷ gs) [] [] e has = absurd (let bad : ⊥ = cc in bad)
tagged_have headers assignment (g ∷ gs) [] (t ∷ ts) e has = absurd has
tagged_have headers assignment (g ∷ gs) (w ∷ ws) [] e has = absurd has
tagged_have headers assignment (g ∷ gs) (w ∷ ws) (t ∷ ts) e has =
    (record { tagged = first_of g (tag_for t) gs (tags_for ts) e; typed = has.0 }, tagged_have headers assignment gs ws ts (rest_of g (tag_for t) gs (tags_for ts) e) has.1)
  where
    first_of : (a b : Tag) (xs ys : List Tag) → a ∷ xs ≡ b ∷ ys → a ≡ b
    first_of a b xs ys e = cc

    rest_of : (a b : Tag) (xs ys : List Tag) → a ∷ xs ≡ b ∷ ys → xs ≡ ys
    rest_of a b xs ys e = cc

-- ---- variables in turn

module _ (site : Site) (env : Env) where
  set_stands : (x : ℕ) (t : Ty) (st more : State) (assignment : List ℤ) (store : Blocks) (v : Value) → x < length env → given x t st ≡ Ok more → Stands site st env assignment store
      → HasValue (headers_of store) assignment v t → TypeBelow st.ctx.vars t → Stands site more (slice_set env x (Some v)) assignment store
  set_stands x t st more assignment store v within is stands has below =
      subst (λ s. Stands site s (slice_set env x (Some v)) assignment store) (given_is x t st more is) (record {
        own = stands.own;
        named = record { rows = stands.named.rows; types = names_with (λ e. TypeBelow st.ctx.vars e.1) x t st.types below stands.named.types };
        one_each = stands.one_each;
        hold = stands.hold;
        typed = set_holds env (headers_of store) assignment st.types x t v within has stands.typed;
        holds = stands.holds;
      })

module _ {L : Type 0} (site : Site) (assignment : List ℤ) where
  pub parts_set : (xs : List ℕ) (ts : List Ty) (vs : List Value) (env : Env) (st more : State) (run : Run L) → all_given xs ts st ≡ Ok more → All (λ x. x < length env) xs
      → Stands site st env assignment run.store → HaveValues (headers_of run.store) assignment vs ts → All (TypeBelow st.ctx.vars) ts
      → Fares (λ (w : Env) (new : Run L). (Stands site more w assignment run.store × (length w ≡ length env)) × (run ≡ new)) (set_all env xs vs run)
  unfolding set_all all_given
  parts_set [] [] [] env st more run is within stands have below = record { is = ((subst (λ s. Stands site s env assignment run.store) (ok_same st more is) stands, refl), refl) }
  parts_set [] [] (v ∷ vs) env st more run is within stands have below = absurd have
  parts_set [] (t ∷ ts) vs env st more run is within stands have below = absurd (let bad : ⊥ = cc in bad)
  parts_set (x ∷ xs) [] vs env st more run is within stands have below = absurd (let bad : ⊥ = cc in bad)
  parts_set (x ∷ xs) (t ∷ ts) [] env st more run is within stands have below = absurd have
  parts_set (x ∷ xs) (t ∷ ts) (v ∷ vs) env st more run is within stands have below =
      let s = then_ok (given x t st) _ more is in
      let here = All-head (λ x. x < length env) x xs within in
      let made = slice_set env x (Some v) in
      let long = set_length env x v in
      let next = set_stands site env x t st s.value assignment run.store v here s.first stands have.0 (All-head (TypeBelow st.ctx.vars) t ts below) in
      let same = ap (λ (m : State). m.ctx.vars) (given_is x t st s.value s.first) in
      let rest = parts_set xs ts vs made s.value more run s.second (subst (λ n. All (λ x. x < n) xs) (sym long) (All-tail (λ x. x < length env) x xs within)) next have.1
      (subst (λ n. All (TypeBelow n) ts) same (All-tail (TypeBelow st.ctx.vars) t ts below)) in
      let whole = fares_on (set_all made xs vs run) (λ w new h. ((h.0.0, h.0.1 ∙ long), h.1)) rest in
      fares_then (set_variable env x v run) _ (set_to env x v run here)
      (λ q h. subst (λ w. Fares (λ (w : Env) (new : Run L). (Stands site more w assignment run.store × (length w ≡ length env)) × (run ≡ new)) (set_all w xs vs q.1)) h.0
      (subst (λ r. Fares (λ (w : Env) (new : Run L). (Stands site more w assignment run.store × (length w ≡ length env)) × (run ≡ new)) (set_all made xs vs r)) h.1 whole))
