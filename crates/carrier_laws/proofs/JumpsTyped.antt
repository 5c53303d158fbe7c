-- A jump is allowed where its label is reached, whatever state type stands behind it.
use Rattle.std.proofs.Common.{◌≡◌, ◌∙◌, ℕ, ◌+◌, ◌≤◌, Bool as Truth, List, [], ◌∷◌, slice_get, Option, Some, Ok, refl, sym, ap, subst, arith}
use Rattle.std.specs.List.{Contains}
use Rattle.operation_rules.specs.Applied.{all_there, named}
use Rattle.operation_rules.specs.Rules.{Setting, rule, gives}
use Rattle.operation_rules.specs.declared.operation.Operation.TheVariants.{Jump}
use Rattle.state_types.specs.declared.state.StateType.{StateType}
use Rattle.three_address.specs.Flow.{ways, ways_of, ways_from, label_at, target_of}
use Rattle.three_address.specs.Instructions.{Instruction, instruction_of}
use Rattle.three_address.specs.Liveness.{Live, Kept}
use Rattle.three_address.specs.Typing.{Allows, GoesTo, ruled_in}
use Rattle.three_address.specs.declared.typed.Edge.{Edge}
use Rattle.lowering.specs.Lowered.{number_of}
use Rattle.value_lowering.specs.OneInstruction.{jump}
use Rattle.carrier_laws.proofs.ChainsTyped.{CodeAt, Stands, placed, found, writes_are}
use Rattle.carrier_laws.proofs.GivenFollowed.{given_follow}
use Rattle.carrier_laws.proofs.OperandsRun.{Walk}
use Rattle.carrier_laws.proofs.OperationsTyped.{ruled_is}
use Rattle.carrier_laws.proofs.FragmentsTyped.{LabelAt}

abbrev the : Instruction
the = record { operation = Jump; writes = []; reads = [] }

module _ (w : Walk) (to : ℕ) where
  is_jump : instruction_of (placed w.body (jump to)) ≡ Some the
  unfolding instruction_of
  is_jump = refl

  module _ (p : ℕ) (at : CodeAt w.body p (jump to ∷ [])) where
    there : slice_get w.body.fun.code p ≡ Some (placed w.body (jump to))
    there = subst (λ n. slice_get w.body.fun.code n ≡ Some (placed w.body (jump to))) (let same : p + 0 ≡ p = omega arith in same) (at.each 0 (jump to) refl)

    stands : Stands w.body p (placed w.body (jump to)) the
    stands = record { there = there; is = is_jump }

    no_rule : (st : Setting) (first : ℕ) → rule st Jump [] first ≡ Ok (gives [] [])
    unfolding rule
    no_rule st first = refl

    is_named : (st : Setting) → named st Jump ≡ Ok tt
    unfolding named
    is_named st = refl

    none_there : all_there [] ≡ Ok []
    unfolding all_there
    none_there = refl

    pub jump_allows : (s : StateType) (edge : Edge) (next : Option StateType) → s.ctx.vars ≤ 1024 → GoesTo w.body.setting.own w.body.labels s (number_of w.body.positions to) edge
        → Allows w.body.setting w.body.count w.body.labels s (placed w.body (jump to)) edge next
    unfolding ruled_in
    jump_allows s edge next few goes = record {
      i = the;
      is = is_jump;
      small = at.small 0 (jump to) refl;
      differ = tt;
      types = [];
      read = none_there;
      ruled = record { demands = []; ctx = s.ctx; types = [] };
      by_rule = ruled_is w.body.setting Jump [] [] s.ctx (gives [] []) [] s.ctx (is_named w.body.setting) none_there (no_rule w.body.setting s.ctx.vars) (given_follow [] s.ctx few);
      leads = goes;
    }

    -- what is live at the label is live here
    pub jump_live : (columns : List (List Truth)) (number : ℕ) (noted : StateType) → LabelAt w columns to number noted → (x : ℕ) → Live w.body.fun to x → Live w.body.fun p x
    unfolding ways_from
    jump_live columns number noted label x live =
        Kept p to x (subst (λ ns. Contains ns to) (sym ways_are) (0, omega arith, refl))
        (λ h. none x (subst (λ ns. Contains ns x) (writes_are w.body p (placed w.body (jump to)) the stands) h)) live
      where
        none : (x : ℕ) → Contains [] x → ⊥
        none x h = (let lt = h.1 in omega (arith, lt))

        the_label : label_at w.body.fun.labels (target_of (slice_get w.body.fun.code p)) ≡ Some to
        the_label = ap (λ i. label_at w.body.fun.labels (target_of i)) there ∙ ap (λ n. label_at w.body.fun.labels n) label.number_is ∙ label.found

        ways_are : ways_from w.body.fun p ≡ to ∷ []
        ways_are = ap (λ i. ways_of i p (label_at w.body.fun.labels (target_of (slice_get w.body.fun.code p)))) (found w.body p (placed w.body (jump to)) the stands)
            ∙ ap (λ l. ways Jump p l) the_label
