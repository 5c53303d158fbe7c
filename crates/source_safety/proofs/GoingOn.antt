-- A branch that completes where nothing is stated goes on.
use Rattle.std.proofs.Common.{◌≡◌, ◌∙◌, ℕ, ◌≤◌, ℤ, List, [], ◌∷◌, Bool as Truth, true, false, cond, Option, Some, refl, sym, ap, arith}
use Rattle.std.specs.Prelude.{◌==◌}
use Rattle.std.proofs.lemmas.Bool.Decides.{Decides-eqb}
use Rattle.std.proofs.lemmas.Option.{same_Some}
use Rattle.state_types.specs.PlaceTypes.{type_at}
use Rattle.state_types.specs.declared.types.Ty.{Ty}
use Rattle.xanadu_tree.specs.declared.types.CoreTy.{CoreTy}
use Rattle.typed_core.specs.Joins.{type_or, still_visible}
use Rattle.typed_core.specs.SourceRuns.{Env}
use Rattle.typed_core.specs.SourceValues.{Blocks}
use Rattle.typed_core.specs.States.{Site, State, point, noting_state}
use Rattle.typed_core.specs.Statements.{going_on}
use Rattle.typed_core.proofs.Continued.{more_again}
use Rattle.typed_core.proofs.GrownContexts.{rows_more}
use Rattle.typed_core.proofs.NamedJoins.{still_below}
use Rattle.typed_core.proofs.NamedStates.{types_more}
use Rattle.source_safety.specs.Standing.{Stands, Goes, Brings}
use Rattle.source_safety.proofs.JoinsFare.{padded}

-- the type of a variable that is still visible
record IsStill (x : ℕ) (before after : List (ℕ × Ty)) (t : Ty) : Type 0 where
  old : Ty
  there : type_at x before ≡ Some old
  is : t ≡ type_or old (type_at x after)

still_is : (x : ℕ) (before after : List (ℕ × Ty)) (t : Ty) → type_at x (still_visible before after) ≡ Some t → IsStill x before after t
unfolding still_visible
still_is x [] after t at = absurd (let bad : ⊥ = cc in bad)
still_is x (e ∷ es) after t at = by_test (e.0 == x) refl at (λ h. still_is x es after t h)
  where
    by_test : (b : Truth) → (e.0 == x) ≡ b
        → cond b (let o : Option Ty = Some (type_or e.1 (type_at e.0 after)) in o) (type_at x (still_visible es after)) ≡ Some t
        → (type_at x (still_visible es after) ≡ Some t → IsStill x es after t) → IsStill x (e ∷ es) after t
    by_test true here at later = record {
      old = e.1;
      there = ap (λ b. cond b (let o : Option Ty = Some e.1 in o) (type_at x es)) here;
      is = sym (same_Some (type_or e.1 (type_at e.0 after)) t at) ∙ ap (λ n. type_or e.1 (type_at n after)) ((Decides-eqb e.0 x).0 here);
    }
    by_test false other at later =
        let it = later at in
        record { old = it.old; there = ap (λ b. cond b (let o : Option Ty = Some e.1 in o) (type_at x es)) other ∙ it.there; is = it.is }

module _ (site : Site) (changed : ℕ → Truth) (vars : List (ℕ × CoreTy)) (st latest end : State) (before env : Env) (base : List ℤ) (old new : Blocks) (le : st.ctx.vars ≤ latest.ctx.vars)
    (within : end.ctx.vars ≤ latest.ctx.vars) (stands : Stands site st before base old) (goes : Goes site end env base old new) (brings : Brings changed vars st.types end.types) where
  pub going_stands : Goes site (going_on (point st) (point end) latest) env base old new
  unfolding noting_state
  going_stands =
      let pad = padded site end env goes.given latest.ctx.vars new goes.stands in
      let one_each = goes.stands.one_each in
      let own = goes.stands.own in
      let names = goes.stands.named in
      record {
        given = pad.full;
        front = more_again base goes.given pad.full goes.front pad.front;
        stands = record {
          own = omega (arith, own, within);
          named = record {
            rows = rows_more end.ctx.vars latest.ctx.vars end.ctx.rows within names.rows;
            types = still_below latest.ctx.vars st.types end.types (types_more st.ctx.vars latest.ctx.vars st.types le stands.named.types)
                (types_more end.ctx.vars latest.ctx.vars end.types within names.types);
          };
          one_each = pad.exact (omega (arith, one_each, within));
          hold = pad.hold;
          typed = record {
            by = λ x t e.
                let it = still_is x st.types end.types t e in
                let brought = brings.by x it.old it.there in
                let same = it.is ∙ ap (type_or it.old) brought.there in
                pad.typed.by x t (brought.there ∙ ap (λ u. let o : Option Ty = Some u in o) (sym same));
          };
          holds = goes.stands.holds;
        };
        keeps = goes.keeps;
      }
