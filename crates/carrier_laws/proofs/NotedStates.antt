-- Each state that elaboration notes is that of a label: its rows state themselves, it names only what is there, and its types exist.
use Rattle.std.proofs.Common.{◌≡◌, ℕ, ◌≤◌, List, [], ◌∷◌, Bool as Truth, Option, Some, inl, inr, sym, subst}
use Rattle.std.specs.List.{All, AllByRecursion}
use Rattle.std.proofs.lemmas.List.Elements.{All-nil, All-cons, All-head, All-tail}
use Rattle.state_types.specs.Types.{TypeBelow}
use Rattle.state_types.specs.declared.closed.Packed.{Packed}
use Rattle.state_types.specs.declared.closed.Signature.{Signature}
use Rattle.state_types.specs.declared.state.StateType.{StateType}
use Rattle.state_types.specs.declared.types.Ty.{Ty}
use Rattle.three_address.specs.Typing.{IsLabel, TypeExists}
use Rattle.typed_core.specs.States.{Site, State, point}
use Rattle.typed_core.proofs.GrownContexts.{RowsBelow}
use Rattle.type_carrier.specs.Ways.{label_state}
use Rattle.carrier_laws.proofs.LivePlaces.{live_of, live_places_are, live_all}
use Rattle.carrier_laws.proofs.PlacesKept.{Facts}
use Rattle.carrier_laws.proofs.RowsStand.{StandAgain, states_itself}
use Rattle.carrier_laws.proofs.RulesKept.{IsGood}
use Rattle.carrier_laws.proofs.WayRows.{Among}

pub record IsNoted (table : List Packed) (own : ℕ) (noted : StateType) : Type 0 where
  pub own_vars : own ≤ noted.ctx.vars
  pub few : noted.ctx.vars ≤ 1024
  pub stand : StandAgain noted.ctx.rows
  pub named : RowsBelow noted.ctx.vars noted.ctx.rows
  pub types : AllByRecursion (λ (e : ℕ × Ty). TypeBelow noted.ctx.vars e.1 × TypeExists table e.1) noted.places

both : (table : List Packed) (n : ℕ) (types : List (ℕ × Ty)) → All (λ e. TypeBelow n e.1) types → AllByRecursion (λ (e : ℕ × Ty). IsGood table e.1) types
    → AllByRecursion (λ (e : ℕ × Ty). TypeBelow n e.1 × TypeExists table e.1) types
both table n [] below good = tt
both table n (e ∷ es) below good = ((All-head (λ (x : ℕ × Ty). TypeBelow n x.1) e es below, good.0.1), both table n es (All-tail (λ (x : ℕ × Ty). TypeBelow n x.1) e es below) good.1)

-- what is known where a state is noted
pub noted_by_facts : (site : Site) (st : State) → Facts site st → IsNoted site.table site.own.vars (point st)
noted_by_facts site st f = record {
  own_vars = f.typed.own_vars;
  few = f.kept.few;
  stand = f.kept.rows.stand;
  named = f.named;
  types = both site.table st.ctx.vars st.types f.typed.types f.kept.types;
}

all_of : {A : Type 0} (P : A → Type 0) (xs : List A) → AllByRecursion P xs → All P xs
all_of P [] all = All-nil P
all_of P (x ∷ xs) all = All-cons P x xs all.0 (all_of P xs all.1)

among : {A : Type 0} (P : A → Type 0) (xs : List A) (x : A) → AllByRecursion P xs → Among xs x → P x
among P [] x all a = absurd a
among P (y ∷ ys) x all (inl h) = subst P h all.0
among P (y ∷ ys) x all (inr h) = among P ys x all.1 h

-- a noted state, cut to live places, is a label's, where it stands before the instruction there
pub noted_is_label : (table : List Packed) (sig : Signature) (noted : StateType) (columns : List (List Truth)) (number : ℕ) (before : Option StateType) → IsNoted table sig.vars noted
    → before ≡ Some (label_state columns number noted) → IsLabel table sig (label_state columns number noted) before
noted_is_label table sig noted columns number before is same = record {
  as_many = is.own_vars;
  few = is.stand.few;
  rows = is.named;
  types = subst (λ (es : List (ℕ × Ty)). All (λ p. TypeBelow noted.ctx.vars p.1 × TypeExists table p.1) es) (sym (live_places_are columns number noted.places))
      (all_of (λ (p : ℕ × Ty). TypeBelow noted.ctx.vars p.1 × TypeExists table p.1) (live_of columns number noted.places)
      (live_all columns number (λ (p : ℕ × Ty). TypeBelow noted.ctx.vars p.1 × TypeExists table p.1) noted.places
      (λ e a live. among (λ (p : ℕ × Ty). TypeBelow noted.ctx.vars p.1 × TypeExists table p.1) noted.places e is.types a)));
  ctx = noted.ctx;
  is_stated = states_itself noted.ctx is.stand is.few;
  is_before = same;
}
