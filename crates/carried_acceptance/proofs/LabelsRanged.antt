-- The state of a carried label has a text, and no row of it is known by those before it.
use Rattle.std.proofs.Common.{ℕ, ◌<◌, ◌≤◌, List, [], ◌∷◌, length, arith}
use Rattle.std.specs.List.{All, AllByRecursion}
use Rattle.std.proofs.lemmas.List.Elements.{All-nil, All-cons, All-head, All-tail}
use Rattle.xan_lin.specs.Linear.{Linear, IsForm, NamesBelow}
use Rattle.state_types.specs.Types.{TypeBelow}
use Rattle.state_types.specs.declared.closed.Packed.{Packed}
use Rattle.state_types.specs.declared.state.StateType.{StateType}
use Rattle.state_types.specs.declared.types.Ty.{Ty}
use Rattle.state_types.specs.declared.types.Ty.TheVariants as ty
use Rattle.dtal_code.specs.Grammar.{IsFormIn, IsTyIn}
use Rattle.emission_laws.specs.EmittedRanges.{Each, IsRangedState}
use Rattle.lowered_acceptance.specs.SlottedCode.{IsOwnLabel}
use Rattle.carrier_laws.proofs.RowsStand.{states_itself}
use Rattle.carrier_laws.proofs.RulesKept.{IsGood}
use Rattle.carried_acceptance.proofs.CodeRanged.{tuple_there}
use Rattle.carried_acceptance.proofs.TextedEdges.{IsTextedLabel}
use Rattle.carried_acceptance.proofs.TextedStates.{variables_in}

-- ---- rows and types

rows_ranged : (n : ℕ) (rows : List Linear) → n ≤ 1024 → AllByRecursion IsForm rows → All (NamesBelow n) rows → All IsFormIn rows
rows_ranged n [] few forms named = All-nil IsFormIn
rows_ranged n (row ∷ rows) few forms named =
    All-cons IsFormIn row rows (record { is_form = forms.0; variables = variables_in n row.terms few (All-head (NamesBelow n) row rows named) })
    (rows_ranged n rows few forms.1 (All-tail (NamesBelow n) row rows named))

type_ranged : (table : List Packed) (n : ℕ) (t : Ty) → length table ≤ 65536 → n ≤ 1024 → IsGood table t → TypeBelow n t → IsTyIn t
type_ranged table n (ty.Int e) many few good below = record { is_form = good.0; variables = variables_in n e.terms few below }
type_ranged table n ty.Bool many few good below = tt
type_ranged table n (ty.Array element e) many few good below =
    ((let h = good.1 in omega (arith, h, many)), record { is_form = good.0; variables = variables_in n e.terms few below })
type_ranged table n (ty.Named number) many few good below = (let h = tuple_there table number good.1.0 good.1.1 in omega (arith, h, many))

types_ranged : (table : List Packed) (n : ℕ) (places : List (ℕ × Ty)) → length table ≤ 65536 → n ≤ 1024 → AllByRecursion (λ (e : ℕ × Ty). IsGood table e.1 × TypeBelow n e.1) places
    → Each (λ (p : ℕ × Ty). IsTyIn p.1) places
types_ranged table n [] many few all = tt
types_ranged table n (e ∷ places) many few all = (type_ranged table n e.1 many few all.0.0 all.0.1, types_ranged table n places many few all.1)

-- ---- labels

pub label_ranged : (table : List Packed) (places : ℕ) (label : StateType) → length table ≤ 65536 → IsTextedLabel table places label → IsRangedState label
label_ranged table places label many is = record {
  quantifier = record { few = (let h = is.few in omega (arith, h)); are = rows_ranged label.ctx.vars label.ctx.rows is.few is.rows.forms is.named };
  places = types_ranged table label.ctx.vars label.places many is.few is.types;
}

pub labels_ranged : (table : List Packed) (places : ℕ) (labels : List StateType) → length table ≤ 65536 → AllByRecursion (IsTextedLabel table places) labels → Each IsRangedState labels
labels_ranged table places [] many all = tt
labels_ranged table places (label ∷ labels) many all = (label_ranged table places label many all.0, labels_ranged table places labels many all.1)

all_small : (places : ℕ) (entries : List (ℕ × Ty)) → AllByRecursion (λ (e : ℕ × Ty). e.0 < places) entries → All (λ (x : ℕ × Ty). x.0 < places) entries
all_small places [] all = All-nil (λ (x : ℕ × Ty). x.0 < places)
all_small places (e ∷ entries) all = All-cons (λ (x : ℕ × Ty). x.0 < places) e entries all.0 (all_small places entries all.1)

pub label_own : (table : List Packed) (places : ℕ) (label : StateType) → IsTextedLabel table places label → IsOwnLabel places label
label_own table places label is = record {
  is_own = states_itself label.ctx is.rows.stand is.few;
  rise = is.rise;
  small = all_small places label.places is.small;
}
