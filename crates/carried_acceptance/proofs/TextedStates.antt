-- What elaboration knows at a place has a text: rows and indices are forms over few variables. What stands for a variable on a way to a label has one too.
use Rattle.std.proofs.Common.{◌≡◌, ◌∙◌, ℕ, zero, suc, ◌+◌, ◌-◌, ◌<◌, ◌≤◌, cond, List, [], ◌∷◌, ◌++◌, map, length, Bool as Truth, true, false, Option, Some, None, Ok, sym, ap, subst, arith, append_assoc, append-nil}
use Rattle.std.specs.List.{All, AllByRecursion}
use Rattle.std.proofs.lemmas.List.Elements.{All-head, All-tail}
use Rattle.std.proofs.lemmas.Option.{none-some, same_Some}
use Rattle.xan_lin.specs.Linear.{Linear, IsForm, NamesBelow}
use Rattle.xan_lin.specs.Subst.{zero_form}
use Rattle.xan_lin.specs.declared.term.Term.{Term}
use Rattle.proof_lines.specs.Spelling.{AreVariables}
use Rattle.state_types.specs.Matching.{is_alone, index_or_zero, pair_of, pairs_of, value_for, values_for, matched}
use Rattle.state_types.specs.PlaceTypes.{type_at, PlacesRise}
use Rattle.state_types.specs.Types.{index_of, TypeBelow}
use Rattle.state_types.specs.declared.closed.Packed.{Packed}
use Rattle.state_types.specs.declared.matching.Found.{Found}
use Rattle.state_types.specs.declared.state.StateType.{StateType}
use Rattle.state_types.specs.declared.types.Ty.{Ty}
use Rattle.state_types.specs.declared.types.Ty.TheVariants as ty
use Rattle.state_types.proofs.MatchPairs.{paired, pair_is, found_is}
use Rattle.state_types.proofs.Thens.{then_ok, ok_same}
use Rattle.operation_rules.specs.Rules as rules
use Rattle.operation_rules.proofs.BlocksFound.{matching_is}
use Rattle.typed_core.specs.Joins.{Joint, index_at, met_there, present, values_at}
use Rattle.typed_core.specs.States.{Site, State, matching, point, there}
use Rattle.typed_core.proofs.GrownContexts.{RowsBelow}
use Rattle.typed_core.proofs.KnownTypes.{entry_at}
use Rattle.source_safety.proofs.Demanded.{by_rule_ok}
use Rattle.dtal_code.specs.Grammar.{IsFormIn}
use Rattle.carrier_laws.proofs.EdgesReach.{IsTypeForm}
use Rattle.carrier_laws.proofs.KeptStates.{zero_is_form}
use Rattle.carrier_laws.proofs.PlacesKept.{Facts}
use Rattle.carrier_laws.proofs.RowsStand.{AreSound}
use Rattle.carrier_laws.proofs.RulesKept.{IsGood}
use Rattle.carried_acceptance.proofs.CarriedKept.{all_push}

-- ---- states

pub record IsTexted (table : List Packed) (noted : StateType) : Type 0 where
  pub rows : AreSound noted.ctx.rows
  pub named : RowsBelow noted.ctx.vars noted.ctx.rows
  pub types : AllByRecursion (λ (e : ℕ × Ty). IsGood table e.1) noted.places
  pub below : All (λ e. TypeBelow noted.ctx.vars e.1) noted.places
  pub rise : PlacesRise 0 noted.places
  pub few : noted.ctx.vars ≤ 1024

pub texted_by_facts : (site : Site) (st : State) → Facts site st → IsTexted site.table (point st)
texted_by_facts site st f = record { rows = f.kept.rows; named = f.named; types = f.kept.types; below = f.typed.types; rise = f.kept.rise; few = f.kept.few }

-- ---- forms

pub variables_in : (n : ℕ) (ts : List Term) → n ≤ 1024 → All (λ t. t.var < n) ts → AreVariables ts
variables_in n [] few all = tt
variables_in n (t ∷ ts) few all = ((let h = All-head (λ (x : Term). x.var < n) t ts all in omega (arith, few, h)), variables_in n ts few (All-tail (λ (x : Term). x.var < n) t ts all))

pub zero_in : IsFormIn zero_form
zero_in = record { is_form = zero_is_form; variables = tt }

-- the index of a type has a text
abbrev pub IsIndexIn : Ty → Type 0
IsIndexIn (ty.Int e) = IsFormIn e
IsIndexIn ty.Bool = Unit {0}
IsIndexIn (ty.Array element e) = IsFormIn e
IsIndexIn (ty.Named number) = Unit {0}

pub index_in : (n : ℕ) (t : Ty) → n ≤ 1024 → IsTypeForm t → TypeBelow n t → IsIndexIn t
index_in n (ty.Int e) few is below = record { is_form = is; variables = variables_in n e.terms few below }
index_in n ty.Bool few is below = tt
index_in n (ty.Array element e) few is below = record { is_form = is; variables = variables_in n e.terms few below }
index_in n (ty.Named number) few is below = tt

abbrev pub HasIndex : ℕ × Ty → Type 0
HasIndex e = IsIndexIn e.1

indices : (table : List Packed) (n : ℕ) (places : List (ℕ × Ty)) → n ≤ 1024 → AllByRecursion (λ (e : ℕ × Ty). IsGood table e.1) places → All (λ e. TypeBelow n e.1) places
    → AllByRecursion HasIndex places
indices table n [] few good below = tt
indices table n (e ∷ es) few good below =
    (index_in n e.1 few good.0.0 (All-head (λ (x : ℕ × Ty). TypeBelow n x.1) e es below), indices table n es few good.1 (All-tail (λ (x : ℕ × Ty). TypeBelow n x.1) e es below))

pub indices_in : (table : List Packed) (noted : StateType) → IsTexted table noted → AllByRecursion HasIndex noted.places
indices_in table noted is = indices table noted.ctx.vars noted.places is.few is.types is.below

pub forms_in : (n : ℕ) (rows : List Linear) → n ≤ 1024 → AllByRecursion IsForm rows → All (NamesBelow n) rows → AllByRecursion IsFormIn rows
forms_in n [] few forms named = tt
forms_in n (row ∷ rows) few forms named =
    (record { is_form = forms.0; variables = variables_in n row.terms few (All-head (NamesBelow n) row rows named) }, forms_in n rows few forms.1 (All-tail (NamesBelow n) row rows named))

pub rows_in : (table : List Packed) (noted : StateType) → IsTexted table noted → AllByRecursion IsFormIn noted.ctx.rows
rows_in table noted is = forms_in noted.ctx.vars noted.ctx.rows is.few is.rows.forms is.named

-- ---- values

abbrev pub IsValueIn : ℕ × Linear → Type 0
IsValueIn v = IsFormIn v.1

-- the pairs of two lists, of any type
unfoldable zip : {P : Type 0} → (Ty → Ty → P) → List Ty → List Ty → List P
zip pair [] actual = []
zip pair (w ∷ ws) [] = []
zip pair (w ∷ ws) (a ∷ later) = pair w a ∷ zip pair ws later

zipped : (number : ℕ) (wanted actual : List Ty) (made all : _) → length wanted ≡ length actual → pairs_of number wanted actual made ≡ Ok all → made ++ zip paired wanted actual ≡ all
unfolding pairs_of zip
zipped number [] [] made all many e = append-nil made ∙ ok_same made all e
zipped number [] (a ∷ later) made all many e = absurd (omega (arith, many))
zipped number (w ∷ ws) [] made all many e = absurd (omega (arith, many))
zipped number (w ∷ ws) (a ∷ later) made all many e =
    let s = then_ok (pair_of number w a) _ all e in
    let p = pair_is number w a s.value s.first in
    let more = zipped (suc number) ws later (made ++ s.value ∷ []) all (omega (arith, many)) s.second in
    ap (λ q. made ++ q ∷ zip paired ws later) p.1 ∙ sym (append_assoc made (s.value ∷ []) (zip paired ws later)) ∙ more

chosen_in : (b : Truth) (f g : Linear) → IsFormIn f → IsFormIn g → IsFormIn (cond b f g)
chosen_in true f g h k = h
chosen_in false f g h k = k

present_index : (t : Ty) → IsIndexIn t → IsFormIn (index_or_zero (index_of t))
present_index (ty.Int e) is = is
present_index ty.Bool is = zero_in
present_index (ty.Array element e) is = is
present_index (ty.Named number) is = zero_in

value_in : (var : ℕ) (wanted actual : List Ty) → AllByRecursion IsIndexIn actual → IsFormIn (value_for var (zip paired wanted actual))
unfolding value_for zip
value_in var [] actual all = zero_in
value_in var (w ∷ ws) [] all = zero_in
value_in var (w ∷ ws) (a ∷ later) all =
    chosen_in (is_alone var (index_of w)) (index_or_zero (index_of a)) (value_for var (zip paired ws later)) (present_index a all.0) (value_in var ws later all.1)

all_values : (first count : ℕ) (wanted actual : List Ty) → AllByRecursion IsIndexIn actual → AllByRecursion IsValueIn (values_for first count (zip paired wanted actual))
unfolding values_for
all_values first zero wanted actual all = tt
all_values first (suc count) wanted actual all = (value_in first wanted actual all, all_values (suc first) count wanted actual all)

matched_in : (below vars : ℕ) (rows : List Linear) (wanted actual : List Ty) (found : Found) → length wanted ≡ length actual → AllByRecursion IsIndexIn actual
    → matched below vars rows wanted actual ≡ Ok found → AllByRecursion IsValueIn found.values
unfolding matched
matched_in below vars rows wanted actual found many all e =
    let s = then_ok (pairs_of 0 wanted actual []) _ found e in
    let z = zipped 0 wanted actual [] s.value many s.first in
    let values = all_values below (vars - below) wanted actual all in
    let f = found_is (values_for below (vars - below) s.value) below s.value rows found s.second in
    subst (AllByRecursion IsValueIn) (ap (λ ps. values_for below (vars - below) ps) z ∙ sym f.0) values

-- ---- a way in

there_is : {A : Type 0} (o : Option A) (x : A) → there o ≡ Ok x → o ≡ Some x
there_is (Some y) x e = ap (λ z. let p : Option _ = Some z in p) (ok_same y x e)
there_is None x e = absurd (let bad : ⊥ = cc in bad)

present_in : (types wanted : List (ℕ × Ty)) (made actual : List Ty) → AllByRecursion HasIndex types → AllByRecursion IsIndexIn made → present types wanted made ≡ Ok actual
    → AllByRecursion IsIndexIn actual
unfolding present
present_in types [] made actual all done e = subst (AllByRecursion IsIndexIn) (ok_same made actual e) done
present_in types (w ∷ ws) made actual all done e =
    let s = then_ok (there (type_at w.0 types)) _ actual e in
    present_in types ws (made ++ s.value ∷ []) actual all
    (all_push IsIndexIn made s.value done (entry_at HasIndex types w.0 s.value all (there_is (type_at w.0 types) s.value s.first))) s.second

is_index : (t : Ty) (form : Linear) → IsIndexIn t → index_of t ≡ Some form → IsFormIn form
is_index (ty.Int e) form is same = subst IsFormIn (same_Some e form same) is
is_index ty.Bool form is same = absurd (none-some form same)
is_index (ty.Array element e) form is same = subst IsFormIn (same_Some e form same) is
is_index (ty.Named number) form is same = absurd (none-some form same)

values_in : (types : List (ℕ × Ty)) (next : ℕ) (xs : List ℕ) (made values : List (ℕ × Linear)) → AllByRecursion HasIndex types → AllByRecursion IsValueIn made
    → values_at types next xs made ≡ Ok values → AllByRecursion IsValueIn values
unfolding values_at index_at
values_in types next [] made values all done e = subst (AllByRecursion IsValueIn) (ok_same made values e) done
values_in types next (x ∷ xs) made values all done e =
    let s = then_ok (index_at types x) _ values e in
    let t = then_ok (there (type_at x types)) _ s.value s.first in
    let has = entry_at HasIndex types x t.value all (there_is (type_at x types) t.value t.first) in
    values_in types (suc next) xs (made ++ (next, s.value) ∷ []) values all
    (all_push IsValueIn made (next, s.value) done (is_index t.value s.value has (there_is (index_of t.value) s.value t.second))) s.second

pub met_in : (joint : Joint) (types : List (ℕ × Ty)) (found : List Ty × Found) → AllByRecursion HasIndex types → met_there joint types ≡ Ok found → AllByRecursion IsValueIn found.1.values
unfolding met_there matching
met_in joint types found all e =
    let wanted = map (λ w. w.1) joint.wanted in
    let s = then_ok (present types joint.wanted []) _ found e in
    let q = then_ok (matching joint.first (joint.first + joint.count) joint.rows wanted s.value) _ found s.second in
    let same = ok_same (s.value, q.value) found q.second in
    let m = matching_is joint.first (joint.first + joint.count) joint.rows wanted s.value q.value
    (by_rule_ok (rules.matching joint.first (joint.first + joint.count) joint.rows wanted s.value) q.value q.first) in
    subst (λ (x : List Ty × Found). AllByRecursion IsValueIn x.1.values) same
    (matched_in joint.first (joint.first + joint.count) joint.rows wanted s.value q.value m.many (present_in types joint.wanted [] s.value all tt s.first) m.is)

pub way_values_in : (joint : Joint) (types : List (ℕ × Ty)) (found : List Ty × Found) (values : List (ℕ × Linear)) → AllByRecursion HasIndex types → met_there joint types ≡ Ok found
    → values_at types (joint.first + joint.count) joint.others found.1.values ≡ Ok values → AllByRecursion IsValueIn values
way_values_in joint types found values all met e = values_in types (joint.first + joint.count) joint.others found.1.values values all (met_in joint types found all met) e
