-- Constructs that give a value over their operands, and make no block, go well.
use Rattle.std.proofs.Common.{◌≡◌, ℕ, ℤ, List, [], ◌∷◌, Bool as Truth, Option, Some, None, Ok}
use Rattle.std.proofs.lemmas.List.Elements.{All-head, All-tail}
use Rattle.state_types.specs.Types.{TypeBelow}
use Rattle.state_types.specs.declared.types.Ty.{Ty}
use Rattle.operation_rules.specs.Rules.{rule}
use Rattle.operation_rules.specs.Sound.{IsSetting}
use Rattle.operation_rules.specs.declared.operation.Operation.{Operation}
use Rattle.operation_rules.specs.declared.operation.Operation.TheVariants as operation
use Rattle.operation_rules.specs.declared.rule.Rule.{Rule}
use Rattle.xanadu_tree.specs.declared.expr.Op.{Op}
use Rattle.xanadu_tree.specs.declared.expr.Op.TheVariants as op
use Rattle.xanadu_tree.specs.declared.expr.Rel.{Rel}
use Rattle.xanadu_tree.specs.declared.expr.Rel.TheVariants as rel
use Rattle.typed_core.specs.Constructs.{setting_of, type_by}
use Rattle.typed_core.specs.Operators.{operation_of, demands_at, comparison_of, in_order}
use Rattle.typed_core.specs.SourceOperands.{no_cells, acts, value_by, arithmetic, related, measured}
use Rattle.typed_core.specs.SourceRuns.{Run, Env}
use Rattle.typed_core.specs.SourceValues.{Tag, Number, Truth as Flag, Array, Value}
use Rattle.typed_core.specs.States.{Site, State}
use Rattle.typed_core.proofs.NamedOperands.{two_below}
use Rattle.source_safety.specs.Values.{tag_for}
use Rattle.source_safety.specs.Standing.{GoalsHold, Gives, Fares, Operands}
use Rattle.source_safety.proofs.EffectsFare.{OneWord, typed_by, type_known, only_type, free_demands, noted_demands, value_by_fares}
use Rattle.source_safety.proofs.OneWords.{literal_one, truth_one, add_one, sub_one, mul_one, div_one, mod_one, compare_one, length_one}
use Rattle.source_safety.proofs.RuleTags.{Tags, IsFree, literal_tags, truth_tags, add_tags, sub_tags, mul_tags, div_tags, mod_tags, compare_tags, length_tags}

module _ {L : Type 0} (site : Site) (setting : IsSetting (setting_of site)) (env : Env) where
  abbrev pub GivesFrom : (more : State) (assignment : List ℤ) (run : Run L) (t : Ty) → Value → Run L → Type 0
  GivesFrom more assignment run t v new = Gives site more env assignment run.store t v new.store

  module _ (types : List Ty) (st : State) (t : Ty) (more : State) (assignment : List ℤ) (run : Run L) (vs : List Value) (it : Operands site st env assignment run.store types vs) where
    -- what demands nothing
    free_fares : (at : Option ℕ) (o : Operation) (wants : List Tag) (g : Tag) → type_by site at o types st ≡ Ok (t, more)
        → ((r : Rule) → rule (setting_of site) o types st.ctx.vars ≡ Ok r → Tags wants g types r × IsFree r) → (g ≡ tag_for t → OneWord g t site.table (acts no_cells o vs run))
        → Fares (GivesFrom more assignment run t) (value_by o wants g vs run)
    free_fares at o wants g is tags one =
        let typed = typed_by site at o types st t more is in
        let typing = type_known site setting at o types st t more it.stands.own it.stands.named it.below is in
        let rules = tags typed.by.r typed.by.is in
        let only = only_type site at o types st t more g typed rules.0.makes in
        value_by_fares site setting env at o types st t more typed typing wants g rules.0.takes assignment run vs it.stands it.have it.below
        (free_demands site o types st t more assignment at typed rules.1) (one only.1)

    -- what demands at a place
    noted_fares : (at : ℕ) (o : Operation) (wants : List Tag) (g : Tag) → type_by site (Some at) o types st ≡ Ok (t, more) → GoalsHold more.goals
        → ((r : Rule) → rule (setting_of site) o types st.ctx.vars ≡ Ok r → Tags wants g types r) → (g ≡ tag_for t → OneWord g t site.table (acts no_cells o vs run))
        → Fares (GivesFrom more assignment run t) (value_by o wants g vs run)
    noted_fares at o wants g is goals tags one =
        let typed = typed_by site (Some at) o types st t more is in
        let typing = type_known site setting (Some at) o types st t more it.stands.own it.stands.named it.below is in
        let rules = tags typed.by.r typed.by.is in
        let only = only_type site (Some at) o types st t more g typed rules.makes in
        value_by_fares site setting env (Some at) o types st t more typed typing wants g rules.takes assignment run vs it.stands it.have it.below
        (noted_demands site o types st t more assignment at typed goals it.stands.hold) (one only.1)

  module _ (st : State) (t : Ty) (more : State) (assignment : List ℤ) (run : Run L) where
    pub literal_fares : (n : ℤ) → Operands site st env assignment run.store [] [] → type_by site None (operation.Literal n) [] st ≡ Ok (t, more)
        → Fares (GivesFrom more assignment run t) (value_by (operation.Literal n) [] Number [] run)
    literal_fares n it is =
        free_fares [] st t more assignment run [] it None (operation.Literal n) [] Number is (λ r e. literal_tags (setting_of site) st.ctx.vars [] r n e) (λ tag. literal_one Number t tag site.table run it.stands.holds.tagged n)

    pub truth_fares : (b : Truth) → Operands site st env assignment run.store [] [] → type_by site None (operation.Truth b) [] st ≡ Ok (t, more)
        → Fares (GivesFrom more assignment run t) (value_by (operation.Truth b) [] Flag [] run)
    truth_fares b it is =
        free_fares [] st t more assignment run [] it None (operation.Truth b) [] Flag is (λ r e. truth_tags (setting_of site) st.ctx.vars [] r b e) (λ tag. truth_one Flag t tag site.table run it.stands.holds.tagged b)

    pub measured_fares : (u : Ty) (a : Value) → Operands site st env assignment run.store (u ∷ []) (a ∷ []) → type_by site None operation.Length (u ∷ []) st ≡ Ok (t, more)
        → Fares (GivesFrom more assignment run t) (measured a run)
    measured_fares u a it is =
        free_fares (u ∷ []) st t more assignment run (a ∷ []) it None operation.Length (Array ∷ []) Number is (λ r e. length_tags (setting_of site) st.ctx.vars (u ∷ []) r e)
        (λ tag. length_one Number t tag site.table run it.stands.holds.tagged a)

    module _ (u w : Ty) (a b : Value) (it : Operands site st env assignment run.store (u ∷ w ∷ []) (a ∷ b ∷ [])) where
      pub arithmetic_fares : (o : Op) (at : ℕ) → type_by site (demands_at o at) (operation_of o) (u ∷ w ∷ []) st ≡ Ok (t, more) → GoalsHold more.goals
          → Fares (GivesFrom more assignment run t) (arithmetic o a b run)
      arithmetic_fares op.Add at is goals =
          free_fares (u ∷ w ∷ []) st t more assignment run (a ∷ b ∷ []) it None operation.Add (Number ∷ Number ∷ []) Number is (λ r e. add_tags (setting_of site) st.ctx.vars (u ∷ w ∷ []) r e)
          (λ tag. add_one Number t tag site.table run it.stands.holds.tagged a b)
      arithmetic_fares op.Sub at is goals =
          free_fares (u ∷ w ∷ []) st t more assignment run (a ∷ b ∷ []) it None operation.Sub (Number ∷ Number ∷ []) Number is (λ r e. sub_tags (setting_of site) st.ctx.vars (u ∷ w ∷ []) r e)
          (λ tag. sub_one Number t tag site.table run it.stands.holds.tagged a b)
      arithmetic_fares op.Mul at is goals =
          free_fares (u ∷ w ∷ []) st t more assignment run (a ∷ b ∷ []) it None operation.Mul (Number ∷ Number ∷ []) Number is (λ r e. mul_tags (setting_of site) st.ctx.vars (u ∷ w ∷ []) r e)
          (λ tag. mul_one Number t tag site.table run it.stands.holds.tagged a b)
      arithmetic_fares op.Div at is goals =
          noted_fares (u ∷ w ∷ []) st t more assignment run (a ∷ b ∷ []) it at operation.Div (Number ∷ Number ∷ []) Number is goals (λ r e. div_tags (setting_of site) st.ctx.vars (u ∷ w ∷ []) r e)
          (λ tag. div_one Number t tag site.table run it.stands.holds.tagged a b)
      arithmetic_fares op.Mod at is goals =
          noted_fares (u ∷ w ∷ []) st t more assignment run (a ∷ b ∷ []) it at operation.Mod (Number ∷ Number ∷ []) Number is goals (λ r e. mod_tags (setting_of site) st.ctx.vars (u ∷ w ∷ []) r e)
          (λ tag. mod_one Number t tag site.table run it.stands.holds.tagged a b)

      compared_fares : (c : ℕ) → type_by site None (operation.Compare c) (u ∷ w ∷ []) st ≡ Ok (t, more)
          → Fares (GivesFrom more assignment run t) (value_by (operation.Compare c) (Number ∷ Number ∷ []) Flag (a ∷ b ∷ []) run)
      compared_fares c is =
          free_fares (u ∷ w ∷ []) st t more assignment run (a ∷ b ∷ []) it None (operation.Compare c) (Number ∷ Number ∷ []) Flag is
          (λ r e. compare_tags (setting_of site) st.ctx.vars (u ∷ w ∷ []) r c e) (λ tag. compare_one Flag t tag site.table run it.stands.holds.tagged c a b)

    pub turned_operands : (u w : Ty) (a b : Value) → Operands site st env assignment run.store (u ∷ w ∷ []) (a ∷ b ∷ []) → Operands site st env assignment run.store (w ∷ u ∷ []) (b ∷ a ∷ [])
    turned_operands u w a b it = record {
      stands = it.stands;
      have = (it.have.1.0, (it.have.0, tt));
      below = two_below st.ctx.vars w u (All-head (TypeBelow st.ctx.vars) w [] (All-tail (TypeBelow st.ctx.vars) u (w ∷ []) it.below)) (All-head (TypeBelow st.ctx.vars) u (w ∷ []) it.below);
    }

    pub related_fares : (r : Rel) (u w : Ty) (a b : Value) → Operands site st env assignment run.store (u ∷ w ∷ []) (a ∷ b ∷ [])
        → type_by site None (operation.Compare (comparison_of r)) (in_order r u w) st ≡ Ok (t, more) → Fares (GivesFrom more assignment run t) (related r a b run)
    related_fares rel.Lt u w a b it is = compared_fares u w a b it 0 is
    related_fares rel.Le u w a b it is = compared_fares u w a b it 1 is
    related_fares rel.Gt u w a b it is = compared_fares w u b a (turned_operands u w a b it) 0 is
    related_fares rel.Ge u w a b it is = compared_fares w u b a (turned_operands u w a b it) 1 is
    related_fares rel.Eq u w a b it is = compared_fares u w a b it 2 is
    related_fares rel.Ne u w a b it is = compared_fares u w a b it 3 is
