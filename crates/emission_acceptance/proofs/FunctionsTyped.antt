-- A function whose stretches are walked stands.
use Rattle.std.proofs.Common.{◌≡◌, ◌≢◌, ℕ, zero, suc, ◌≤◌, ◌-◌, ◌==◌, Bool as Truth, true, false, cond, List, [], ◌∷◌, length, drop, map, Option, Some, None, Ok, refl, sym, ap, ◌∙◌, arith, subst, slice_get}
use Rattle.std.specs.List.{All, AllZip}
use Rattle.std.proofs.lemmas.Bool.Decides.{Decides-eqb}
use Rattle.std.proofs.lemmas.Option.{none-some, same_Some}
use Rattle.std.proofs.lemmas.List.Elements.{All-head, All-tail}
use Rattle.state_types.specs.Answers.{◌>>=◌}
use Rattle.state_types.specs.PlaceTypes.{type_at, with_type}
use Rattle.state_types.specs.declared.closed.Packed.{Packed}
use Rattle.state_types.specs.declared.closed.Signature.{Signature}
use Rattle.state_types.specs.declared.state.StateType.{StateType}
use Rattle.state_types.specs.declared.types.Ty.{Ty}
use Rattle.state_types.proofs.Thens.{ok_same}
use Rattle.operation_rules.specs.Faults.{filled}
use Rattle.operation_rules.specs.Rules.{Setting}
use Rattle.three_address.specs.Typing.{IsTypedFun, IsLabel as IsLowLabel, setting_of as low_setting, numbered as low_numbered}
use Rattle.three_address.specs.declared.function.LowFun.{LowFun}
use Rattle.three_address.specs.declared.function.Lowered.{Lowered}
use Rattle.three_address.specs.declared.instruction.LowInstr.{LowInstr}
use Rattle.three_address.specs.declared.typed.Edge.{Edge}
use Rattle.dtal_code.specs.Acceptance.{IsLabel, BlocksStand, FunctionStands}
use Rattle.dtal_code.specs.Declarations.{table_of, setting_of, numbered, state_of, state_with}
use Rattle.dtal_code.specs.Verdicts.{by_rule}
use Rattle.dtal_code.specs.declared.instruction.Instr.{Instr}
use Rattle.dtal_code.specs.declared.program.DtalProgram.{DtalProgram}
use Rattle.dtal_code.specs.declared.program.Function.{Function}
use Rattle.dtal_code.specs.declared.program.LabelState.{LabelState}
use Rattle.dtal_emit.specs.Emitted.{at_homes, label_state, blocks_from, emitted_fun}
use Rattle.dtal_emit.specs.Homes.{home_of}
use Rattle.emission_laws.specs.ApartHomes.{Kept, IsReadyFun}
use Rattle.emission_laws.specs.EmittedRanges.{Each}
use Rattle.emission_acceptance.specs.LabelsApart.{HomesDiffer, IsOwnState}
use Rattle.emission_acceptance.specs.TypesThrough.{AreTypesApart, LabelsPass}
use Rattle.emission_acceptance.proofs.BlocksWalked.{Comes, StretchesStand, blocks_stand}
use Rattle.emission_acceptance.proofs.ParametersMoved.{enters}
use Rattle.emission_acceptance.proofs.TypesHeld.{type_same, type_other}
use Rattle.emission_acceptance.proofs.StatedLabels.{text_of, same_stated, stated_few, stated_vars, label_stands}
use Rattle.emission_acceptance.proofs.WaysPass.{edge_passes}

-- ---- types of a label at homes

stays_at : (homes : List ℕ) (places made : List (ℕ × Ty)) (home : ℕ) (t : Ty) → Each (λ (y : ℕ × Ty). home ≢ home_of homes y.0) places → type_at home made ≡ Some t
    → type_at home (at_homes homes places made) ≡ Some t
unfolding at_homes
stays_at homes [] made home t differ e = e
stays_at homes (x ∷ places) made home t differ e =
    stays_at homes places (with_type (home_of homes x.0) x.1 made) home t differ.1
    (type_other (home_of homes x.0) home x.1 made (λ same. differ.0 (sym same)) ∙ e)

homes_typed : (homes : List ℕ) (places made : List (ℕ × Ty)) (place : ℕ) (t : Ty) → HomesDiffer homes places → type_at place places ≡ Some t
    → type_at (home_of homes place) (at_homes homes places made) ≡ Some t
unfolding at_homes
homes_typed homes [] made place t differ e = absurd (none-some t e)
homes_typed homes (x ∷ places) made place t differ e =
    by_test (x.0 == place) refl e (λ f. homes_typed homes places (with_type (home_of homes x.0) x.1 made) place t differ.1 f)
  where
    by_test : (b : Truth) → (x.0 == place) ≡ b → cond b (Some x.1) (type_at place places) ≡ Some t
        → (type_at place places ≡ Some t → type_at (home_of homes place) (at_homes homes places (with_type (home_of homes x.0) x.1 made)) ≡ Some t)
        → type_at (home_of homes place) (at_homes homes places (with_type (home_of homes x.0) x.1 made)) ≡ Some t
    by_test true s f later =
        let same = (Decides-eqb x.0 place).0 s in
        subst (λ n. type_at (home_of homes n) (at_homes homes places (with_type (home_of homes x.0) x.1 made)) ≡ Some t) same
        (stays_at homes places (with_type (home_of homes x.0) x.1 made) (home_of homes x.0) t differ.0
        (type_same (home_of homes x.0) x.1 made ∙ f))
    by_test false s f later = later f

-- ---- labels

module _ (homes : List ℕ) (table : List Packed) (sig : Signature) (states : List StateType) where
  abbrev AreLabels : List StateType → List ℕ → Type 0
  AreLabels labels positions = AllZip (λ label at. IsLowLabel table sig label (slice_get states at)) labels positions

  later_pass : (at : ℕ) (label : StateType) (before : Option StateType) (positions : List ℕ) (labels : List StateType) (code : List LowInstr) (edges : List Edge) (front : List Instr)
      → IsLowLabel table sig label before → IsOwnState homes label → AreLabels labels positions → Each (IsOwnState homes) labels
      → AllZip (IsLabel table sig) (blocks_from homes at (Some (label_state homes label)) positions labels code edges front) (text_of homes label ∷ map (text_of homes) labels)
  unfolding blocks_from
  later_pass at label before [] [] code edges front is own are owns = (record { is = label_stands homes table sig label before is own }, tt)
  later_pass at label before [] (other ∷ labels) code edges front is own are owns = absurd are
  later_pass at label before (next ∷ positions) [] code edges front is own are owns = absurd are
  later_pass at label before (next ∷ positions) (other ∷ labels) code edges front is own are owns = (
    record { is = label_stands homes table sig label before is own },
    later_pass next other (slice_get states next) positions labels (drop (next - at) code) (drop (next - at) edges) [] are.0 owns.0 are.1 owns.1,
  )

  labels_pass : (at : ℕ) (state : Option LabelState) (positions : List ℕ) (labels : List StateType) (code : List LowInstr) (edges : List Edge) (front : List Instr)
      → AreLabels labels positions → Each (IsOwnState homes) labels → AllZip (IsLabel table sig) (drop 1 (blocks_from homes at state positions labels code edges front)) (map (text_of homes) labels)
  unfolding blocks_from
  labels_pass at state [] [] code edges front are owns = tt
  labels_pass at state [] (other ∷ labels) code edges front are owns = absurd are
  labels_pass at state (next ∷ positions) [] code edges front are owns = absurd are
  labels_pass at state (next ∷ positions) (other ∷ labels) code edges front are owns =
      later_pass next other (slice_get states next) positions labels (drop (next - at) code) (drop (next - at) edges) [] are.0 owns.0 are.1 owns.1

-- ---- the states of labels come through

module _ (st : Setting) (fun : LowFun) (edges : List Edge) (homes : List ℕ) (kept : Kept) (table : List Packed) (states texts : List StateType) where
  label_comes : (label : StateType) (at : ℕ) → IsLowLabel table fun.sig label (slice_get states at) → IsOwnState homes label → Comes st fun edges homes kept states texts at (text_of homes label)
  label_comes label at is own = record {
    low = state_of is.ctx label.places;
    is = is.is_before;
    through = record {
      ctx = ok_same label.ctx is.ctx (sym own.is_own ∙ is.is_stated);
      places = record { typed = λ place t keeps e. homes_typed homes label.places [] place t own.differ e };
    };
  }

  labels_come : (labels : List StateType) (positions : List ℕ) → AllZip (λ label at. IsLowLabel table fun.sig label (slice_get states at)) labels positions → Each (IsOwnState homes) labels
      → AllZip (λ label at. Comes st fun edges homes kept states texts at (text_of homes label)) labels positions
  labels_come [] [] are owns = tt
  labels_come [] (at ∷ positions) are owns = absurd are
  labels_come (label ∷ labels) [] are owns = absurd are
  labels_come (label ∷ labels) (at ∷ positions) are owns = (label_comes label at are.0 owns.0, labels_come labels positions are.1 owns.1)

-- ---- ways to labels

get_map : {A B : Type 0} (f : A → B) (xs : List A) (n : ℕ) (x : A) → slice_get xs n ≡ Some x → slice_get (map f xs) n ≡ Some (f x)
get_map f [] n x e = absurd (none-some x e)
get_map f (y ∷ xs) zero x e = ap (λ z. Some (f z)) (same_Some y x e)
get_map f (y ∷ xs) (suc n) x e = get_map f xs n x e

pub all_each : {A : Type 0} (P : A → Type 0) (xs : List A) → All P xs → Each P xs
all_each P [] all = tt
all_each P (x ∷ xs) all = (All-head P x xs all, all_each P xs (All-tail P x xs all))

pub each_get : {A : Type 0} (P : A → Type 0) (xs : List A) (n : ℕ) (x : A) → Each P xs → slice_get xs n ≡ Some x → P x
each_get P [] n x all e = absurd (none-some x e)
each_get P (y ∷ xs) zero x all e = subst P (same_Some y x e) all.0
each_get P (y ∷ xs) (suc n) x all e = each_get P xs n x all.1 e

pub ways_pass : (st : Setting) (fun : LowFun) (labels : List StateType) (homes : List ℕ) (kept : Kept) → AreTypesApart fun labels homes kept → Each (IsOwnState homes) labels
    → LabelsPass st fun labels homes kept (map (text_of homes) labels)
ways_pass st fun labels homes kept apart owns = record {
  each = λ before at low e f. record {
    target = text_of homes low;
    there = get_map (text_of homes) labels before low e;
    passes = λ places texts ctx taken edge same typed reaches.
        edge_passes homes apart.apart.homes_are st (kept at) low places texts ctx taken edge (all_each (λ (p : ℕ × Ty). kept at p.0) low.places (apart.listed before at low e f))
        (each_get (IsOwnState homes) labels before low owns e).differ same typed reaches;
  };
}

-- ---- the whole function

pub record HasStates (program : DtalProgram) (fun : Function) : Type 0 where
  pub states : List StateType
  pub stands : FunctionStands program fun states

module _ (program : DtalProgram) (low : Lowered) (fun : LowFun) (labels : List StateType) (edges : List Edge) (homes : List ℕ) (kept : Kept) where
  abbrev st : Setting
  st = low_setting low fun.sig

  abbrev texts : List StateType
  texts = map (text_of homes) labels

  pub function_stands : table_of program ≡ low.table → setting_of program fun.sig ≡ st → (typed : IsTypedFun low fun labels edges) → AreTypesApart fun labels homes kept → Each (IsOwnState homes) labels
      → IsReadyFun low.funs fun (length labels) edges → StretchesStand st fun edges homes kept typed.states texts → HasStates program (emitted_fun fun labels edges homes)
  unfolding state_with
  function_stands same_table same_setting typed apart owns ready stretches =
      let starts = typed.starts in
      let first = state_of starts.ctx (numbered 0 fun.sig.params) in
      let many = stated_few fun.sig.vars fun.sig.rows starts.ctx starts.is_stated in
      let same = stated_vars fun.sig.vars fun.sig.rows starts.ctx starts.is_stated in
      let few : starts.ctx.vars ≤ 1024 = omega (arith, many, same) in
      let e = enters st texts fun homes kept starts.ctx few ready.few_params apart.apart in
      let blocks = blocks_stand st fun edges homes kept typed.states texts stretches typed.one_each typed.edge_each 0 None fun.labels labels first e.last _ e.befores e.walks
      (record { low = state_of starts.ctx (low_numbered 0 fun.sig.params); is = starts.is_first; through = e.through }) ready.rise (λ label c h. c)
      (labels_come st fun edges homes kept low.table typed.states texts labels fun.labels typed.label_each owns) in
      record {
        states = blocks.befores;
        stands = record {
          first = first;
          is_first = ap (λ m. by_rule (filled m) >>= (λ ctx. Ok (state_of ctx (numbered 0 fun.sig.params)))) (same_stated fun.sig.vars fun.sig.rows ∙ starts.is_stated);
          labels = texts;
          label_each = subst (λ t. AllZip (IsLabel t fun.sig) (drop 1 (emitted_fun fun labels edges homes).blocks) texts) (sym same_table)
              (labels_pass homes low.table fun.sig typed.states 0 None fun.labels labels fun.code edges _ typed.label_each owns);
          blocks = subst (λ s. BlocksStand s texts (first ∷ texts) (emitted_fun fun labels edges homes).blocks blocks.befores) (sym same_setting) blocks.stand;
        };
      }
