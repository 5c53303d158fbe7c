-- Which rule an operation goes by: one that goes on, one that goes to a label, a return.
use Rattle.std.proofs.Common.{◌≡◌, ◌∙◌, ℕ, suc, List, Bool as Test, true, false, Ok, refl, sym, ap, subst}
use Rattle.xan_lin.specs.Linear.{Linear}
use Rattle.proof_lines.specs.declared.line.Line.{Line}
use Rattle.state_types.specs.declared.state.StateType.{StateType}
use Rattle.state_types.proofs.Thens.{then_ok, ok_same}
use Rattle.operation_rules.specs.Applied.{Ruled}
use Rattle.operation_rules.specs.Rules.{Setting}
use Rattle.operation_rules.specs.declared.operation.Operation.{Operation}
use Rattle.operation_rules.specs.declared.operation.Operation.TheVariants.{Literal, Truth, Move, Add, Sub, Mul, Div, Mod, Compare, Branch, BranchTruth, Jump, Call, Return, Length, Load, Store, New, Tuple, Untuple, Print}
use Rattle.dtal_code.specs.Acceptance.{Accepted}
use Rattle.dtal_code.specs.Declarations.{setting_of, state_of}
use Rattle.dtal_code.specs.Instructions.{Instruction, instruction_in}
use Rattle.dtal_code.specs.Passing.{with_types, ruled_verdict, goes_on_verdict, gives_back_verdict, goes_to_verdict, verdict_by, instr_verdict}
use Rattle.dtal_code.specs.declared.instruction.Instr.{Instr}
use Rattle.dtal_code.specs.declared.program.DtalProgram.{DtalProgram}
use Rattle.dtal_code.specs.declared.program.Function.{Function}
use Rattle.dtal_safety.specs.Fitting.{Located}
use Rattle.dtal_safety.proofs.InstructionParts.{ends_block, goes_elsewhere, last_is}
use Rattle.dtal_safety.proofs.LocatedStates.{placed_is, next_located}
use Rattle.dtal_safety.proofs.PlainEffects.{is_plain}

-- it writes places and goes on: all but those that go to a label, and a return
abbrev pub goes_straight : Operation → Test
goes_straight (Branch c) = false
goes_straight (BranchTruth b) = false
goes_straight Jump = false
goes_straight Return = false
goes_straight _ = true

pub plain_straight : (op : Operation) → is_plain op ≡ true → goes_straight op ≡ true
plain_straight (Branch c) e = absurd (let bad : ⊥ = cc in bad)
plain_straight (BranchTruth b) e = absurd (let bad : ⊥ = cc in bad)
plain_straight Jump e = absurd (let bad : ⊥ = cc in bad)
plain_straight Return e = absurd (let bad : ⊥ = cc in bad)
plain_straight (Literal n) e = refl
plain_straight (Truth b) e = refl
plain_straight Move e = refl
plain_straight Add e = refl
plain_straight Sub e = refl
plain_straight Mul e = refl
plain_straight Div e = refl
plain_straight Mod e = refl
plain_straight (Compare c) e = refl
plain_straight (Call fun) e = refl
plain_straight Length e = refl
plain_straight Load e = refl
plain_straight Store e = refl
plain_straight (New cells) e = refl
plain_straight (Tuple number) e = refl
plain_straight (Untuple number count) e = refl
plain_straight Print e = refl

straight_on : (op : Operation) → goes_straight op ≡ true → ends_block op ≡ false
straight_on (Branch c) e = refl
straight_on (BranchTruth b) e = refl
straight_on Jump e = absurd (let bad : ⊥ = cc in bad)
straight_on Return e = absurd (let bad : ⊥ = cc in bad)
straight_on (Literal n) e = refl
straight_on (Truth b) e = refl
straight_on Move e = refl
straight_on Add e = refl
straight_on Sub e = refl
straight_on Mul e = refl
straight_on Div e = refl
straight_on Mod e = refl
straight_on (Compare c) e = refl
straight_on (Call fun) e = refl
straight_on Length e = refl
straight_on Load e = refl
straight_on Store e = refl
straight_on (New cells) e = refl
straight_on (Tuple number) e = refl
straight_on (Untuple number count) e = refl
straight_on Print e = refl

module _ (st : Setting) (labels : List StateType) (state : StateType) (i : Instruction) (values : List (ℕ × Linear)) (by : List (List Line)) where
  straight_by : (op : Operation) → goes_straight op ≡ true → verdict_by op st labels state i values by ≡ goes_on_verdict st state i by
  straight_by (Branch c) e = absurd (let bad : ⊥ = cc in bad)
  straight_by (BranchTruth b) e = absurd (let bad : ⊥ = cc in bad)
  straight_by Jump e = absurd (let bad : ⊥ = cc in bad)
  straight_by Return e = absurd (let bad : ⊥ = cc in bad)
  straight_by (Literal n) e = refl
  straight_by (Truth b) e = refl
  straight_by Move e = refl
  straight_by Add e = refl
  straight_by Sub e = refl
  straight_by Mul e = refl
  straight_by Div e = refl
  straight_by Mod e = refl
  straight_by (Compare c) e = refl
  straight_by (Call fun) e = refl
  straight_by Length e = refl
  straight_by Load e = refl
  straight_by Store e = refl
  straight_by (New cells) e = refl
  straight_by (Tuple number) e = refl
  straight_by (Untuple number count) e = refl
  straight_by Print e = refl

  elsewhere_by : (op : Operation) → goes_elsewhere op ≡ true → verdict_by op st labels state i values by ≡ goes_to_verdict st labels state i values by
  elsewhere_by (Branch c) e = refl
  elsewhere_by (BranchTruth b) e = refl
  elsewhere_by Jump e = refl
  elsewhere_by op e = absurd (let bad : ⊥ = cc in bad)

-- ---- the verdict on an instruction

module _ (st : Setting) (labels : List StateType) (state next : StateType) (instr : Instr) where
  pub straight_verdict : goes_straight (instruction_in instr.op).operation ≡ true → instr_verdict st labels state instr ≡ Ok next
      → goes_on_verdict st state (instruction_in instr.op) instr.by ≡ Ok next
  unfolding instr_verdict
  straight_verdict is e =
      let i = instruction_in instr.op in sym (straight_by st labels state i instr.edge instr.by i.operation is) ∙ e

  pub elsewhere_verdict : goes_elsewhere (instruction_in instr.op).operation ≡ true → instr_verdict st labels state instr ≡ Ok next
      → goes_to_verdict st labels state (instruction_in instr.op) instr.edge instr.by ≡ Ok next
  unfolding instr_verdict
  elsewhere_verdict is e =
      let i = instruction_in instr.op in sym (elsewhere_by st labels state i instr.edge instr.by i.operation is) ∙ e

  pub return_verdict : (instruction_in instr.op).operation ≡ Return → instr_verdict st labels state instr ≡ Ok next
      → gives_back_verdict st state (instruction_in instr.op) instr.by ≡ Ok next
  unfolding instr_verdict
  return_verdict is e =
      let i = instruction_in instr.op in ap (λ op. verdict_by op st labels state i instr.edge instr.by) (sym is) ∙ e

-- what the rule of an instruction gives
pub record IsGiven (st : Setting) (state : StateType) (i : Instruction) (by : List (List Line)) : Type 0 where
  pub given : Ruled
  pub is : ruled_verdict st state i by ≡ Ok given

pub back_given : (st : Setting) (state next : StateType) (i : Instruction) (by : List (List Line)) → gives_back_verdict st state i by ≡ Ok next → IsGiven st state i by
unfolding gives_back_verdict
back_given st state next i by e = (let s = then_ok (ruled_verdict st state i by) _ next e in record { given = s.value; is = s.first })

pub on_given : (st : Setting) (state next : StateType) (i : Instruction) (by : List (List Line)) → goes_on_verdict st state i by ≡ Ok next → IsGiven st state i by
unfolding goes_on_verdict
on_given st state next i by e = (let s = then_ok (ruled_verdict st state i by) _ next e in record { given = s.value; is = s.first })

on_next : (st : Setting) (state next : StateType) (i : Instruction) (by : List (List Line)) (given : Ruled) → goes_on_verdict st state i by ≡ Ok next
    → ruled_verdict st state i by ≡ Ok given → state_of given.ctx (with_types i.writes given.types state.places) ≡ next
unfolding goes_on_verdict
on_next st state next i by given e is =
    let s = then_ok (ruled_verdict st state i by) _ next e in
    let same : given ≡ s.value = ok_same given s.value (sym is ∙ s.first) in
    ap (λ g. state_of g.ctx (with_types i.writes g.types state.places)) same ∙ ok_same _ next s.second

module _ (program : DtalProgram) (accepted : Accepted program) (at number : ℕ) (fun : Function) (state : StateType)
    (l : Located program accepted.states at number fun state) where
  pub straight_given : goes_straight (instruction_in l.instr.op).operation ≡ true → IsGiven (setting_of program fun.sig) state (instruction_in l.instr.op) l.instr.by
  straight_given is =
      let p = placed_is program accepted at number fun state l in
      on_given (setting_of program fun.sig) state p.found.next (instruction_in l.instr.op) l.instr.by
      (straight_verdict (setting_of program fun.sig) p.labels state p.found.next l.instr is p.found.is_next)

  -- behind an instruction that goes on stands what its rule gives
  pub straight_next : (given : Ruled) → goes_straight (instruction_in l.instr.op).operation ≡ true
      → ruled_verdict (setting_of program fun.sig) state (instruction_in l.instr.op) l.instr.by ≡ Ok given
      → Located program accepted.states (suc at) number fun (state_of given.ctx (with_types (instruction_in l.instr.op).writes given.types state.places))
  straight_next given is e =
      let p = placed_is program accepted at number fun state l in
      let i = instruction_in l.instr.op in
      let next = on_next (setting_of program fun.sig) state p.found.next i l.instr.by given
      (straight_verdict (setting_of program fun.sig) p.labels state p.found.next l.instr is p.found.is_next) e in
      subst (λ s. Located program accepted.states (suc at) number fun s) (sym next)
      (next_located program accepted at number fun state p.found.next l (p.found.behind (last_is l.instr.op ∙ straight_on i.operation is)))
