-- An activation that stands has the words that its instruction reads, and the operation goes well.
use Rattle.std.proofs.Common.{◌≡◌, ℕ, ◌+◌, ◌≤◌, ◌<◌, ℤ, cond, List, [], ◌∷◌, length, Bool as Test, true, Some, Result, Ok, Err, refl, ap, subst, arith}
use Rattle.std.specs.List.{All}
use Rattle.std.specs.Ordering.{int_eq}
use Rattle.std.proofs.lemmas.List.Elements.{All-nil}
use Rattle.index_sorts.specs.Context.{IndexContext, fresh_from, with_variables}
use Rattle.index_sorts.specs.Entails.{AllHold}
use Rattle.index_sorts.specs.declared.error.ContextError.{ContextError}
use Rattle.index_sorts.specs.declared.error.ContextError.TheVariants as context_error
use Rattle.xan_lin.specs.Linear.{Linear}
use Rattle.xan_lin.specs.Value.{Holds as RowHolds}
use Rattle.proof_lines.specs.declared.line.Line.{Line}
use Rattle.xan_seq.proofs.NumberTests.{not_less}
use Rattle.state_types.specs.Words.{header_at}
use Rattle.state_types.specs.declared.state.StateType.{StateType}
use Rattle.state_types.specs.declared.types.Ty.{Ty}
use Rattle.state_types.proofs.Thens.{then_ok, ok_same}
use Rattle.operation_rules.specs.Applied.{Ruled, widened, all_assuming, all_given, all_there, applied}
use Rattle.operation_rules.specs.Effects.{Takes, compares, truth_word, effect}
use Rattle.operation_rules.specs.FlatWords.{Flat, flat_words}
use Rattle.operation_rules.specs.Rules.{Setting, gives, no_types, one_type, two_numbers, as_truth, rule as rule_for}
use Rattle.operation_rules.specs.Sides.{side}
use Rattle.operation_rules.specs.Sound.{IsSetting, Stands as Operands, Fares}
use Rattle.operation_rules.specs.Stored.{StoreFits}
use Rattle.operation_rules.specs.declared.operation.Operation.{Operation}
use Rattle.operation_rules.specs.declared.operation.Operation.TheVariants.{Branch, BranchTruth, Jump}
use Rattle.operation_rules.specs.declared.rule.Rule.{Rule}
use Rattle.operation_rules.proofs.FlatStores.{flat_stores}
use Rattle.operation_rules.proofs.OperationsFare.{operation_fares}
use Rattle.dtal_code.specs.Instructions.{Instruction}
use Rattle.dtal_code.specs.Machine.{State}
use Rattle.dtal_code.specs.Passing.{read_types}
use Rattle.dtal_code.specs.Running.{store_of, words_in}
use Rattle.dtal_code.proofs.TypesBelow.{there_below}
use Rattle.dtal_safety.specs.Fitting.{Holds}
use Rattle.dtal_safety.proofs.InstructionParts.{goes_elsewhere}
use Rattle.dtal_safety.proofs.LinesHold.{demands_hold}
use Rattle.dtal_safety.proofs.PlacesHold.{words_read}
use Rattle.dtal_safety.proofs.ProperStates.{IsProper, IsRuled, IsEdged}

-- ---- branches: their rule changes no context

-- what is ruled where nothing is demanded or given
unchanged : IndexContext → Ruled
unchanged ctx = record { demands = []; ctx = with_variables ctx 0; types = [] }

none_fresh : (ctx : IndexContext) → ctx.vars ≤ 1024 → fresh_from ctx 0 ≡ Ok ctx.vars
none_fresh ctx few =
    let none : Result ℕ ContextError = Err context_error.Variables in
    let some : Result ℕ ContextError = Ok ctx.vars in
    ap (λ b. cond b none some) (not_less 1024 (ctx.vars + 0) (omega (arith, few)))

none_wider : (ctx : IndexContext) → ctx.vars ≤ 1024 → widened 0 ctx ≡ Ok (with_variables ctx 0)
unfolding widened
none_wider ctx few = rw (none_fresh ctx few) refl

nothing_applied : (ctx : IndexContext) → ctx.vars ≤ 1024 → applied (gives [] []) ctx ≡ Ok (unchanged ctx)
unfolding applied all_given all_assuming unchanged
nothing_applied ctx few = rw (none_wider ctx few) refl

elsewhere_rule : (st : Setting) (op : Operation) (types : List Ty) (first : ℕ) (r : Rule) → goes_elsewhere op ≡ true → rule_for st op types first ≡ Ok r → gives [] [] ≡ r
unfolding rule_for
elsewhere_rule st (Branch c) types first r is e = (let s = then_ok (two_numbers types) _ r e in ok_same (gives [] []) r s.second)
elsewhere_rule st (BranchTruth b) types first r is e =
    (let s = then_ok (one_type types) _ r e in let t = then_ok (as_truth s.value) _ r s.second in ok_same (gives [] []) r t.second)
elsewhere_rule st Jump types first r is e = (let s = then_ok (no_types types) _ r e in ok_same (gives [] []) r s.second)
elsewhere_rule st op types first r is e = absurd (let bad : ⊥ = cc in bad)

-- it goes elsewhere, or on, and the rows of that side hold
pub record IsTurned (op : Operation) (types : List Ty) (words assignment : List ℤ) (ctx : IndexContext) (store : Flat) : Type 0 where
  pub taken : Test
  pub is : effect flat_words op words store ≡ Takes taken
  pub hold : (more : IndexContext) → all_assuming (side taken op types) ctx ≡ Ok more → (more.vars ≡ ctx.vars) × AllHold assignment more.rows

turned : (st : Setting) (op : Operation) (types : List Ty) (words assignment : List ℤ) (ctx : IndexContext) (store : Flat) (given : Ruled) → goes_elsewhere op ≡ true
    → Fares flat_words st op types store assignment ctx given (effect flat_words op words store) → IsTurned op types words assignment ctx store
turned st (Branch c) types [] assignment ctx store given is fares = absurd fares
turned st (Branch c) types (a ∷ []) assignment ctx store given is fares = absurd fares
turned st (Branch c) types (a ∷ b ∷ []) assignment ctx store given is fares = record { taken = compares c a b; is = refl; hold = fares.hold }
turned st (Branch c) types (a ∷ b ∷ d ∷ words) assignment ctx store given is fares = absurd fares
turned st (BranchTruth b) types [] assignment ctx store given is fares = absurd fares
turned st (BranchTruth b) types (a ∷ []) assignment ctx store given is fares = record { taken = int_eq a (truth_word b); is = refl; hold = fares.hold }
turned st (BranchTruth b) types (a ∷ c ∷ words) assignment ctx store given is fares = absurd fares
turned st Jump types [] assignment ctx store given is fares = record { taken = true; is = refl; hold = fares.hold }
turned st Jump types (a ∷ words) assignment ctx store given is fares = absurd fares
turned st op types words assignment ctx store given is fares = absurd (let bad : ⊥ = cc in bad)

-- ---- any operation

-- the words that are read, and what the operation does with them
pub record IsReady (st : Setting) (state : State) (places assignment : List ℤ) (before : StateType) (i : Instruction) (types : List Ty) (given : Ruled) : Type 0 where
  pub words : List ℤ
  pub are : words_in places i.reads ≡ Some words
  pub fares : Fares flat_words st i.operation types (store_of state) assignment before.ctx given (effect flat_words i.operation words (store_of state))

module _ (st : Setting) (setting : IsSetting st) (state : State) (fits : StoreFits flat_words st.table (store_of state)) (places assignment : List ℤ) (before : StateType)
    (holds : Holds (header_at state.words) places assignment before) (proper : IsProper st.own.vars before) where
  ready : (i : Instruction) (types : List Ty) (r : Rule) (given : Ruled) → All (λ place. place < length places) i.reads
      → all_there (read_types before i.reads) ≡ Ok types → rule_for st i.operation types before.ctx.vars ≡ Ok r → applied r before.ctx ≡ Ok given
      → AllHold assignment given.demands → IsReady st state places assignment before i types given
  ready i types r given within there is does demands =
      let read = words_read (header_at state.words) assignment places before.places holds.typed i.reads types within there in
      let operands : Operands (header_at state.words) assignment before.ctx read.words types = record {
        one_each = holds.one_each;
        hold = holds.hold;
        typed = read.typed;
        named = proper.names.rows;
        below = there_below before.ctx.vars before.places i.reads types there proper.names.places;
      } in
      record {
        words = read.words;
        are = read.are;
        fares = operation_fares flat_words st i.operation types before.ctx r given assignment read.words (store_of state) flat_stores setting proper.own_vars is does operands fits demands;
      }

  pub ruled_ready : (i : Instruction) (by : List (List Line)) (given : Ruled) (is : IsRuled st before i by given) → All (λ place. place < length places) i.reads
      → IsReady st state places assignment before i is.types given
  ruled_ready i by given is within =
      ready i is.types is.r given within is.there is.is is.does (demands_hold before.ctx given.demands by assignment is.lines holds.hold)

  -- an operation that goes to a label, or on
  pub record IsTurning (i : Instruction) (types : List Ty) : Type 0 where
    pub words : List ℤ
    pub are : words_in places i.reads ≡ Some words
    pub turned : IsTurned i.operation types words assignment before.ctx (store_of state)

  pub edge_ready : (labels : List StateType) (i : Instruction) (values : List (ℕ × Linear)) (by : List (List Line)) (next : StateType)
      (edged : IsEdged st labels before i values by next) → goes_elsewhere i.operation ≡ true → All (λ place. place < length places) i.reads → IsTurning i edged.types
  unfolding unchanged
  edge_ready labels i values by next edged is within =
      let made = elsewhere_rule st i.operation edged.types before.ctx.vars edged.r is edged.is in
      let does : applied edged.r before.ctx ≡ Ok (unchanged before.ctx) = subst (λ x. applied x before.ctx ≡ Ok (unchanged before.ctx)) made (nothing_applied before.ctx proper.few) in
      let r = ready i edged.types edged.r (unchanged before.ctx) within edged.there edged.is does (All-nil (RowHolds assignment)) in
      record {
        words = r.words;
        are = r.are;
        turned = turned st i.operation edged.types r.words assignment before.ctx (store_of state) (unchanged before.ctx) is r.fares;
      }
