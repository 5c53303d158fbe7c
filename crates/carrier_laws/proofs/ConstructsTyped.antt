-- A construct behind its operands, one or two or more, is typed.
use Rattle.std.proofs.Common.{◌≡◌, ◌∙◌, ℕ, List, [], ◌∷◌, ◌++◌, length, slice_get, Option, Some, None, Ok, refl, sym, ap, subst, arith}
use Rattle.std.proofs.lemmas.List.{length-append}
use Rattle.std.specs.List.{AllZip}
use Rattle.operation_rules.specs.Applied.{named}
use Rattle.operation_rules.specs.Rules.{Setting, rule}
use Rattle.operation_rules.specs.declared.operation.Operation.{Operation}
use Rattle.state_types.specs.declared.state.StateType.{StateType}
use Rattle.state_types.specs.declared.types.Ty.{Ty}
use Rattle.three_address.specs.declared.instruction.LowInstr.{LowInstr}
use Rattle.value_lowering.specs.Frames.{operand_place}
use Rattle.value_lowering.specs.ValueCode.{operand_at}
use Rattle.xanadu_tree.specs.Plain as core
use Rattle.typed_core.specs.Constructs.{setting_of, type_by}
use Rattle.typed_core.specs.Growth.{Later}
use Rattle.typed_core.specs.Operands.{operand}
use Rattle.typed_core.specs.Places.{behind}
use Rattle.typed_core.specs.States.{State}
use Rattle.typed_core.proofs.Continued.{no_more, more_again}
use Rattle.typed_core.proofs.GrownContexts.{Onward, type_by_goes}
use Rattle.typed_core.proofs.GrownOperands.{operand_goes}
use Rattle.type_carrier.specs.CarriedValues.{Carried, plainly, demanded, value, operand_carried}
use Rattle.type_carrier.specs.CarriedValues as carried
use Rattle.carrier_laws.proofs.ChainsTyped.{CodeAt, code_left, code_right}
use Rattle.carrier_laws.proofs.DemandsProved.{seam}
use Rattle.carrier_laws.proofs.InstructionsStand.{IsInstr}
use Rattle.carrier_laws.proofs.OperationFacts.{Quiet}
use Rattle.carrier_laws.proofs.OperationsTyped.{Follows, promised}
use Rattle.carrier_laws.proofs.ValuesPlaced.{Where, Operates, first_given}
use Rattle.carrier_laws.proofs.OperandsRun.{Walk, IsWalk, Ahead, Here, no_code, runs_on, Waits, Valued, waits_more}
use Rattle.carrier_laws.proofs.OperationsRun.{quietly, by_note}
use Rattle.carrier_laws.proofs.OperandsTyped.{Keeps, OperandTyped}

-- ---- what is ahead later is ahead before

pub earlier : (w : Walk) (a b : State) → Later a b → Ahead w b → Ahead w a
earlier w a b later ahead = record {
  goals = more_again a.goals b.goals w.proofs.goals later.goals ahead.goals;
  notes = more_again a.notes b.notes w.notes later.notes ahead.notes;
}

pub before_operand : (w : Walk) (e : core.Expr) (st : State) (t : Ty) (more : State) → operand w.site e st ≡ Ok (t, more) → Ahead w more → Ahead w st
before_operand w e st t more made ahead =
    earlier w st more (promised (λ r. Onward w.site.table st r.1) (operand w.site e st) (t, more) (operand_goes w.site e st) made).grown.later ahead

pub before_construct : (w : Walk) (n : Option ℕ) (o : Operation) (types : List Ty) (st : State) (t : Ty) (more : State) → type_by w.site n o types st ≡ Ok (t, more)
    → Ahead w more → Ahead w st
before_construct w n o types st t more made ahead =
    earlier w st more (promised (λ r. Onward w.site.table st r.1) (type_by w.site n o types st) (t, more) (type_by_goes w.site n o types st) made).grown.later ahead

-- ---- operands in turn

pub nothing_waits : (w : Walk) (p : ℕ) (s : StateType) (st : State) (ts : List Ty) (c : Carried) → Here w p s st ts c.notes → Waits w p p s [] c c st st ts ts
nothing_waits w p s st ts c here = record { end = s; runs = no_code w s c.edges; there = omega arith; here = here; types = refl; grows = no_more ts }

pub waits_on : (w : Walk) (p q r : ℕ) (s : StateType) (one two : List LowInstr) (c d e : Carried) (st mid more : State) (ts us vs : List Ty)
    (first : Waits w p q s one c d st mid ts us) → Waits w q r first.end two d e mid more us vs → Waits w p r s (one ++ two) c e st more ts vs
waits_on w p q r s one two c d e st mid more ts us vs first second = record {
  end = second.end;
  runs = runs_on w s first.end second.end one two c.edges d.edges e.edges first.runs second.runs;
  there = (let a = first.there in let b = second.there in let long = length-append one two in omega (arith, a, b, long));
  here = second.here;
  types = second.types ∙ first.types;
  grows = more_again ts us vs first.grows second.grows;
}

-- ---- where an operation stands

module _ (w : Walk) (isw : IsWalk w) (p q : ℕ) (s : StateType) (code : List LowInstr) (c d : Carried) (st mid : State) (ts us : List Ty)
    (waits : Waits w p q s code c d st mid ts us) (instr : LowInstr) (o : Operation) (to : ℕ) (reads : List ℕ) (types : List Ty)
    (at : CodeAt w.body p (code ++ instr ∷ [])) (is : IsInstr w instr o to reads) (located : AllZip (λ place t. Where w.vars us mid.types place t) reads types)
    (keeps : Keeps w.vars ts to) where
  operates : named (setting_of w.site) o ≡ Ok tt → Operates w.body w.vars q mid ts us instr o to reads types
  operates names = record {
    there = subst (λ n. slice_get w.body.fun.code n ≡ Some instr) (sym waits.there)
        (at.each (length code) instr (seam code [] instr) ∙ ap Some is.as_is);
    is = is.is;
    small = at.small (length code) instr (seam code [] instr);
    located = located;
    goes = is.goes;
    names = ap (λ (x : Setting). named x o) isw.setting ∙ names;
    keeps = keeps;
  }

  -- by what follows of its rule
  pub quiet_follows : (others : List Ty) (t : Ty) (more : State) → Quiet (setting_of w.site) o → named (setting_of w.site) o ≡ Ok tt
      → Follows w.site None o types mid (t ∷ others) more → Valued w p s (code ++ instr ∷ []) c (plainly d) st more ts to t
  quiet_follows others t more quiet names f =
      quietly w isw p q s code c d st mid ts us waits instr o to reads types (operates names) is.as_is others t more quiet f

  pub quiet_construct : (t : Ty) (more : State) → Quiet (setting_of w.site) o → named (setting_of w.site) o ≡ Ok tt → type_by w.site None o types mid ≡ Ok (t, more)
      → Valued w p s (code ++ instr ∷ []) c (plainly d) st more ts to t
  quiet_construct t more quiet names made =
      (let g = first_given w.site None o types mid t more made in
      quietly w isw p q s code c d st mid ts us waits instr o to reads types (operates names) is.as_is g.others t more quiet g.follows)

  pub noted_construct : (n : ℕ) (t : Ty) (more : State)
      → ((f : ℕ) (r : _) → rule (setting_of w.site) o types f ≡ Ok r → named (setting_of w.site) o ≡ Ok tt) → Ahead w more
      → type_by w.site (Some n) o types mid ≡ Ok (t, more) → Valued w p s (code ++ instr ∷ []) c (demanded w.proofs d) st more ts to t
  noted_construct n t more names ahead made =
      (let g = first_given w.site (Some n) o types mid t more made in
      by_note w isw p q s code c d st mid ts us waits instr o to reads types (operates (names mid.ctx.vars g.follows.r g.follows.is_rule)) is.as_is n g.others t more ahead g.follows)

-- ---- one operand, and two

-- code grouped otherwise
regrouped : (w : Walk) (p : ℕ) (s : StateType) (xs ys : List LowInstr) (c d : Carried) (st more : State) (ts : List Ty) (to : ℕ) (t : Ty) → xs ≡ ys
    → Valued w p s xs c d st more ts to t → Valued w p s ys c d st more ts to t
regrouped w p s xs ys c d st more ts to t same v = subst (λ (x : List LowInstr). Valued w p s x c d st more ts to t) same v

-- two operands that wait
pub record TwoWait (w : Walk) (left right : core.Expr) (d p : ℕ) (s : StateType) (st : State) (ts : List Ty) (c : Carried) (t u : Ty) (more : State) : Type 0 where
  pub us : List Ty
  pub q : ℕ
  pub waits : Waits w p q s (operand_at w.vars left d ++ operand_at w.vars right (behind left d)) c
      (carried.operand w.proofs right (carried.operand w.proofs left c)) st more ts us
  pub first : Where w.vars us more.types (operand_place w.vars left d) t
  pub second : Where w.vars us more.types (operand_place w.vars right (behind left d)) u
  pub deep : length us ≡ behind right (behind left d)

pub two_wait : (w : Walk) (left right : core.Expr) → OperandTyped w left → OperandTyped w right → (d p : ℕ) (s : StateType) (st : State) (ts : List Ty) (c : Carried) (t u : Ty)
    (mid more : State) → Here w p s st ts c.notes → length ts ≡ d → CodeAt w.body p (operand_at w.vars left d ++ operand_at w.vars right (behind left d))
    → operand w.site left st ≡ Ok (t, mid) → operand w.site right mid ≡ Ok (u, more) → Ahead w more → TwoWait w left right d p s st ts c t u more
two_wait w left right l r d p s st ts c t u mid more here depth at one two ahead =
    let lc = operand_at w.vars left d in
    let rc = operand_at w.vars right (behind left d) in
    let a = l.is d p s st ts c t mid here depth (code_left w.body p lc rc at) one (before_operand w right mid u more two ahead) in
    let b = r.is (behind left d) a.q a.waits.end mid a.us (carried.operand w.proofs left c) u more a.waits.here a.deep
    (code_right w.body p a.q lc rc a.waits.there at) two ahead in
    record {
      us = b.us;
      q = b.q;
      waits = waits_on w p a.q b.q s lc rc c (carried.operand w.proofs left c) (carried.operand w.proofs right (carried.operand w.proofs left c)) st mid more ts a.us b.us a.waits b.waits;
      first = waits_more w.vars a.us b.us mid.types more.types (operand_place w.vars left d) t b.waits.grows b.waits.types a.place;
      second = b.place;
      deep = b.deep;
    }
