-- States only grow along tests, on each of their sides.
use Rattle.std.proofs.Common.{◌∙◌, List, [], ◌∷◌, true, false, None, refl}
use Rattle.std.specs.List.{All, list_all}
use Rattle.xan_lin.specs.Linear.{Linear}
use Rattle.state_types.specs.Tables.{IsClosed}
use Rattle.state_types.specs.Types.{TypeBelow}
use Rattle.state_types.specs.declared.closed.Packed.{Packed}
use Rattle.state_types.specs.declared.types.Ty.{Ty}
use Rattle.operation_rules.specs.Applied.{all_assuming}
use Rattle.operation_rules.specs.Faults.{filled}
use Rattle.operation_rules.specs.Named.{IsNamed}
use Rattle.operation_rules.specs.Sides.{side}
use Rattle.operation_rules.specs.declared.operation.Operation.{Operation}
use Rattle.operation_rules.specs.declared.operation.Operation.TheVariants.{Branch, BranchTruth}
use Rattle.xanadu_tree.specs.Plain as core
use Rattle.typed_core.specs.Constructs.{types_by, state_by}
use Rattle.typed_core.specs.Growth.{Continues, Later, SidesGrown}
use Rattle.typed_core.specs.Limits.{by_rule, held}
use Rattle.typed_core.specs.Operands.{operand}
use Rattle.typed_core.specs.Operators.{comparison_of, in_order}
use Rattle.typed_core.specs.States.{Site, State, noting_state}
use Rattle.typed_core.specs.Strays.{type_below}
use Rattle.typed_core.specs.Tests.{Sides, branched, truth_leaf, leaf, on_side, tested, all_true, all_false}
use Rattle.typed_core.proofs.Continued.{held_known, Goes, no_more, one_more, more_again, later_here, later_on}
use Rattle.typed_core.proofs.LimitedAnswers.{then_answers, weaker, any_answer}
use Rattle.typed_core.proofs.GivenNamed.{side_named}
use Rattle.typed_core.proofs.GrownContexts.{RowsBelow, rows_more, Adds, all_add, filled_goes, by_rule_goes, Onward, onward_again, state_by_goes}
use Rattle.typed_core.proofs.GrownOperands.{operand_goes}
use Rattle.typed_core.proofs.NamedStates.{both_answers, all_more, test_all, test_type}

-- both sides, and that their rows name variables so far
pub record Parts (table : List Packed) (st : State) (sides : Sides) : Type 0 where
  pub grown : SidesGrown st sides
  pub on_true : All IsClosed table → RowsBelow st.ctx.vars st.ctx.rows → RowsBelow sides.after.ctx.vars sides.on_true
  pub on_false : All IsClosed table → RowsBelow st.ctx.vars st.ctx.rows → RowsBelow sides.after.ctx.vars sides.on_false

module _ (site : Site) where
  -- the types of a branch name variables so far
  branch_named : (op : Operation) (types : List Ty) (st : State) → Goes (λ more. All (TypeBelow st.ctx.vars) types) (state_by site None op types st)
  unfolding state_by types_by
  branch_named op types st =
      let n = st.ctx.vars in
      then_answers (types_by site None op types st) _
      (then_answers (held (list_all (type_below n) types)) _ (held_known (list_all (type_below n) types))
      (λ u test. weaker _ (λ r v. test_all (type_below n) (TypeBelow n) (λ t h. test_type n t h) types test) (any_answer _)))
      (λ r h. record { is = h })

  side_adds : (taken : _) (op : Operation) (types : List Ty) (more : State)
      → Goes (Adds (All (IsNamed more.ctx.vars) (side taken op types)) more.ctx) (by_rule (filled (all_assuming (side taken op types) more.ctx)))
  side_adds taken op types more =
      by_rule_goes (filled (all_assuming (side taken op types) more.ctx)) (filled_goes (all_assuming (side taken op types) more.ctx) (all_add (side taken op types) more.ctx))

  branched_goes : (before : State) (op : Operation) (types : List Ty) (st : State) → Onward site.table before st → Goes (Parts site.table before) (branched site op types st)
  unfolding branched
  branched_goes before op types st first =
      then_answers (state_by site None op types st) _ (both_answers (state_by site None op types st) (state_by_goes site None op types st) (branch_named op types st))
      (λ more both. let h = onward_again site.table before st more first both.0 in
      let le = both.0.grown.later.vars in
      let below : All (TypeBelow more.ctx.vars) types = all_more st.ctx.vars more.ctx.vars types le both.1 in
      then_answers (by_rule (filled (all_assuming (side true op types) more.ctx))) _ (side_adds true op types more)
      (λ one a. then_answers (by_rule (filled (all_assuming (side false op types) more.ctx))) _ (side_adds false op types more)
      (λ two b. record {
        is = record {
          grown = record {
            later = h.grown.later;
            on_true = more_again before.ctx.rows more.ctx.rows one.rows h.grown.rows a.rows;
            on_false = more_again before.ctx.rows more.ctx.rows two.rows h.grown.rows b.rows;
            types = h.grown.types;
            naming = h.grown.naming;
          };
          on_true = λ closed all. a.named (side_named more.ctx.vars true op types below) (h.named closed all);
          on_false = λ closed all. b.named (side_named more.ctx.vars false op types below) (h.named closed all);
        };
      })))

  truth_goes : (e : core.Expr) (st : State) → Goes (Parts site.table st) (truth_leaf site e st)
  unfolding truth_leaf
  truth_goes e st =
      then_answers (operand site e st) _ (operand_goes site e st) (λ r h. branched_goes st (BranchTruth true) (r.0 ∷ []) r.1 h)

  leaf_goes : (e : core.Expr) (st : State) → Goes (Parts site.table st) (leaf site e st)
  unfolding leaf
  leaf_goes (core.Compare r left right) st =
      then_answers (operand site left st) _ (operand_goes site left st)
      (λ p h. then_answers (operand site right p.1) _ (operand_goes site right p.1)
      (λ q g. branched_goes st (Branch (comparison_of r)) (in_order r p.0 q.0) q.1 (onward_again site.table st p.1 q.1 h g)))
  leaf_goes e st = truth_goes e st

  pub noted_later : (rows : List Linear) (st more : State) → Later st more → Later st (noting_state rows more)
  unfolding noting_state
  noted_later rows st more h =
      record { vars = h.vars; naming = h.naming; goals = h.goals; notes = more_again st.notes more.notes (noting_state rows more).notes h.notes (one_more more.notes _) }

  -- what is known of the parts so far of a test: they began at a state, and their sides are these
  begin_parts : (st : State) → Parts site.table st (record { on_true = st.ctx.rows; on_false = st.ctx.rows; after = st })
  begin_parts st = record {
    grown = record { later = later_here st; on_true = no_more st.ctx.rows; on_false = no_more st.ctx.rows; types = refl; naming = refl };
    on_true = λ closed all. all;
    on_false = λ closed all. all;
  }

  -- a part that begins where the parts so far are true, or false
  next_part : (st : State) (sides : Sides) (rows : List Linear) (more : Sides) → Parts site.table st sides → Continues st.ctx.rows rows
      → (All IsClosed site.table → RowsBelow st.ctx.vars st.ctx.rows → RowsBelow sides.after.ctx.vars rows) → Parts site.table (on_side rows sides.after) more
      → Parts site.table st more
  next_part st sides rows more so_far begins named part =
      let here = on_side rows sides.after in
      record {
        grown = record {
          later = later_on st sides.after more.after so_far.grown.later
              (record { vars = part.grown.later.vars; naming = part.grown.later.naming; goals = part.grown.later.goals; notes = part.grown.later.notes });
          on_true = more_again st.ctx.rows rows more.on_true begins part.grown.on_true;
          on_false = more_again st.ctx.rows rows more.on_false begins part.grown.on_false;
          types = part.grown.types ∙ so_far.grown.types;
          naming = part.grown.naming ∙ so_far.grown.naming;
        };
        on_true = λ closed all. part.on_true closed (named closed all);
        on_false = λ closed all. part.on_false closed (named closed all);
      }

  -- the other side knows no more than before the test
  whole_test : (st : State) (last : Sides) → Parts site.table st last → (rows : List Linear) → Parts site.table st (record last { after = noting_state rows last.after })
  unfolding noting_state
  whole_test st last p rows = record {
    grown = record {
      later = noted_later rows st last.after p.grown.later;
      on_true = p.grown.on_true;
      on_false = p.grown.on_false;
      types = p.grown.types;
      naming = p.grown.naming;
    };
    on_true = p.on_true;
    on_false = p.on_false;
  }

  forget_false : (st : State) (last : Sides) → Parts site.table st last → Parts site.table st (record last { on_false = st.ctx.rows })
  forget_false st last p =
      (let le = p.grown.later.vars in
      record {
        grown = record { later = p.grown.later; on_true = p.grown.on_true; on_false = no_more st.ctx.rows; types = p.grown.types; naming = p.grown.naming };
        on_true = p.on_true;
        on_false = λ closed all. rows_more st.ctx.vars last.after.ctx.vars st.ctx.rows le all;
      })

  turned : (st : State) (last : Sides) → Parts site.table st last → Parts site.table st (record { on_true = last.on_false; on_false = last.on_true; after = last.after })
  turned st last p = record {
    grown = record { later = p.grown.later; on_true = p.grown.on_false; on_false = p.grown.on_true; types = p.grown.types; naming = p.grown.naming };
    on_true = p.on_false;
    on_false = p.on_true;
  }

  forget_true : (st : State) (last : Sides) → Parts site.table st last → Parts site.table st (record last { on_true = st.ctx.rows })
  forget_true st last p =
      (let le = p.grown.later.vars in
      record {
        grown = record { later = p.grown.later; on_true = no_more st.ctx.rows; on_false = p.grown.on_false; types = p.grown.types; naming = p.grown.naming };
        on_true = λ closed all. rows_more st.ctx.vars last.after.ctx.vars st.ctx.rows le all;
        on_false = p.on_false;
      })

  mutual
    unfolding tested

    pub tested_goes : (test : core.Test) (st : State) → Goes (Parts site.table st) (tested site test st)
    tested_goes (core.Leaf e) st = leaf_goes e st
    tested_goes (core.All parts) st =
        let begin : Sides = record { on_true = st.ctx.rows; on_false = st.ctx.rows; after = st } in
        then_answers (all_true site parts begin) _ (all_true_go parts st begin (begin_parts st)) (λ last p. record { is = whole_test st (record last { on_false = st.ctx.rows }) (forget_false st last p) st.ctx.rows })
    tested_goes (core.Any parts) st =
        let begin : Sides = record { on_true = st.ctx.rows; on_false = st.ctx.rows; after = st } in
        then_answers (all_false site parts begin) _ (all_false_go parts st begin (begin_parts st)) (λ last p. record { is = whole_test st (record last { on_true = st.ctx.rows }) (forget_true st last p) st.ctx.rows })
    tested_goes (core.Not part) st = then_answers (tested site part st) _ (tested_goes part st) (λ sides p. record { is = turned st sides p })

    all_true_go : (parts : core.Tests) (st : State) (sides : Sides) → Parts site.table st sides → Goes (Parts site.table st) (all_true site parts sides)
    all_true_go core.NoTest st sides p = record { is = p }
    all_true_go (core.ATest part others) st sides p =
        let here = on_side sides.on_true sides.after in
        then_answers (tested site part here) _ (tested_goes part here)
        (λ more q. all_true_go others st more (next_part st sides sides.on_true more p p.grown.on_true p.on_true q))

    all_false_go : (parts : core.Tests) (st : State) (sides : Sides) → Parts site.table st sides → Goes (Parts site.table st) (all_false site parts sides)
    all_false_go core.NoTest st sides p = record { is = p }
    all_false_go (core.ATest part others) st sides p =
        let here = on_side sides.on_false sides.after in
        then_answers (tested site part here) _ (tested_goes part here)
        (λ more q. all_false_go others st more (next_part st sides sides.on_false more p p.grown.on_false p.on_false q))
