-- An operation behind its operands: one that demands nothing, and one whose goals stand in the note in front.
use Rattle.std.proofs.Common.{◌≡◌, ◌∙◌, ℕ, List, [], ◌∷◌, ◌++◌, Some, None, Ok, refl, sym, ap, subst, append_assoc}
use Rattle.index_sorts.specs.Context.{IndexContext}
use Rattle.operation_rules.specs.Rules.{rule}
use Rattle.operation_rules.specs.declared.operation.Operation.{Operation}
use Rattle.operation_rules.specs.declared.rule.Rule.{Rule}
use Rattle.state_types.specs.declared.state.StateType.{StateType}
use Rattle.state_types.specs.declared.types.Ty.{Ty}
use Rattle.three_address.specs.Demands.{demands_of, AreProved, AllProved}
use Rattle.three_address.specs.declared.instruction.LowInstr.{LowInstr}
use Rattle.typed_core.specs.Constructs.{setting_of}
use Rattle.typed_core.specs.States.{State, all_asked, none_asked, demanding}
use Rattle.typed_core.specs.declared.note.Note.{Note}
use Rattle.typed_core.specs.declared.note.Note.TheVariants as note
use Rattle.type_carrier.specs.CarriedValues.{Carried, plainly, demanded}
use Rattle.type_carrier.specs.ProvedRows.{plain, demand_edge, rows_onto}
use Rattle.carrier_laws.proofs.ChainsTyped.{placed}
use Rattle.carrier_laws.proofs.DemandsProved.{demand_proved}
use Rattle.carrier_laws.proofs.OperationFacts.{Quiet}
use Rattle.carrier_laws.proofs.OperationsTyped.{Follows}
use Rattle.carrier_laws.proofs.ValuesPlaced.{Operates}
use Rattle.carrier_laws.proofs.OperandsRun.{Walk, IsWalk, Ahead, Valued, Waits, behind_operands, same_behind}

module _ (w : Walk) (isw : IsWalk w) (p q : ℕ) (s : StateType) (code : List LowInstr) (c d : Carried) (st mid : State) (ts us : List Ty)
    (waits : Waits w p q s code c d st mid ts us) (instr : LowInstr) (o : Operation) (to : ℕ) (reads : List ℕ) (types : List Ty)
    (at : Operates w.body w.vars q mid ts us instr o to reads types) (as_is : placed w.body instr ≡ instr) where
  -- it makes no note
  pub quietly : (others : List Ty) (t : Ty) (more : State) → Quiet (setting_of w.site) o → Follows w.site None o types mid (t ∷ others) more
      → Valued w p s (code ++ instr ∷ []) c (plainly d) st more ts to t
  quietly others t more quiet f =
      behind_operands w isw p q s code c d st mid ts us waits instr o to reads types at as_is None others t more plain d.notes f refl
      (λ r is. subst (λ rows. AreProved mid.ctx (demands_of None rows) []) (sym (quiet.none types mid.ctx.vars r is)) AllProved)
      (waits.here.remains ∙ ap (λ (m : State). m.notes ++ d.notes) (sym f.more_is))

  -- its goals stand in the note in front
  pub by_note : (n : ℕ) (others : List Ty) (t : Ty) (more : State) → Ahead w more → Follows w.site (Some n) o types mid (t ∷ others) more
      → Valued w p s (code ++ instr ∷ []) c (demanded w.proofs d) st more ts to t
  unfolding demanding
  by_note n others t more ahead f = from_rule f.r f.ctx f.is_rule f.more_is
    where
      from_rule : (r : Rule) (ctx : IndexContext) → rule (setting_of w.site) o types mid.ctx.vars ≡ Ok r
          → more ≡ record (demanding w.site n r.demands mid) { ctx = ctx } → Valued w p s (code ++ instr ∷ []) c (demanded w.proofs d) st more ts to t
      from_rule r ctx is same =
          let made = all_asked w.site n mid.ctx r.demands (none_asked mid) in
          let one : Note = note.Demand made.numbers in
          let made_notes : more.notes ≡ mid.notes ++ one ∷ [] = ap (λ (m : State). m.notes) same ∙ noted in
          let made_goals : more.goals ≡ made.goals = ap (λ (m : State). m.goals) same ∙ goals_are in
          let front : d.notes ≡ one ∷ ahead.notes.rest =
          same_behind mid.notes d.notes (one ∷ ahead.notes.rest)
          (sym waits.here.remains ∙ ahead.notes.is ∙ ap (λ ns. ns ++ ahead.notes.rest) made_notes ∙ append_assoc mid.notes (one ∷ []) ahead.notes.rest) in
          subst (λ x. Valued w p s (code ++ instr ∷ []) c x st more ts to t) (sym (ap (λ ns. demanded w.proofs (record { edges = d.edges; notes = ns })) front))
          (behind_operands w isw p q s code c d st mid ts us waits instr o to reads types at as_is (Some n) others t more (demand_edge w.proofs made.numbers) ahead.notes.rest f refl
          (λ r2 is2. subst (λ (x : Rule). AreProved mid.ctx (demands_of None x.demands) (rows_onto w.proofs made.numbers [])) (rules_same r r2 is is2)
          (demand_proved w.proofs isw.proved w.site n mid.ctx r.demands mid.goals
          (record { rest = ahead.goals.rest; is = ahead.goals.is ∙ ap (λ gs. gs ++ ahead.goals.rest) made_goals })))
          ahead.notes.is)
        where
          noted : (record (demanding w.site n r.demands mid) { ctx = ctx }).notes ≡ mid.notes ++ note.Demand (all_asked w.site n mid.ctx r.demands (none_asked mid)).numbers ∷ []
          noted = refl

          goals_are : (record (demanding w.site n r.demands mid) { ctx = ctx }).goals ≡ (all_asked w.site n mid.ctx r.demands (none_asked mid)).goals
          goals_are = refl

          rules_same : (r r2 : Rule) → rule (setting_of w.site) o types mid.ctx.vars ≡ Ok r → rule (setting_of w.site) o types mid.ctx.vars ≡ Ok r2 → r ≡ r2
          rules_same r r2 a b = cc
