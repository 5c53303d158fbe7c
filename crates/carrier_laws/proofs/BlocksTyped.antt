-- All statements and blocks are typed.
use Rattle.std.proofs.Common.{◌≡◌, ◌∙◌, ℕ, ◌+◌, Bool as Truth, true, false, List, [], ◌++◌, length, Ok, refl, sym, ap, subst, arith, append_assoc, append-nil}
use Rattle.state_types.specs.declared.state.StateType.{StateType}
use Rattle.state_types.proofs.Thens.{then_ok, ok_same}
use Rattle.value_lowering.specs.Frames.{Frame, tuple_number}
use Rattle.lowering.specs.StatementCode.{statement_code, statement_labels, statement_size, block_code, block_labels}
use Rattle.lowering.proofs.CodeSizes.{statement_long}
use Rattle.xanadu_tree.specs.BodyRules.{Point, completes, completes_all, MayFollow, AreStatements}
use Rattle.xanadu_tree.specs.declared.types.Kind.TheVariants as kind
use Rattle.xanadu_tree.specs.KindRules.{Setting, HasKind}
use Rattle.xanadu_tree.specs.Plain as core
use Rattle.typed_core.specs.States.{State}
use Rattle.typed_core.specs.Statements as elaborated
use Rattle.typed_core.proofs.Continued.{more_again}
use Rattle.typed_core.proofs.GrownStatements.{block_goes}
use Rattle.typed_core.proofs.NamedStates.{answered}
use Rattle.type_carrier.specs.CarriedStatements as carried
use Rattle.type_carrier.specs.CarriedTests.{Labelled}
use Rattle.carrier_laws.proofs.IfWhole.{if_typed}
use Rattle.carrier_laws.proofs.ChainsTyped.{CodeAt, code_left, code_right}
use Rattle.carrier_laws.proofs.ConstructsTyped.{earlier}
use Rattle.carrier_laws.proofs.OperandsRun.{Walk, IsWalk, Here, no_code}
use Rattle.carrier_laws.proofs.BlocksAsked.{StatementTyped, BlockTyped}
use Rattle.carrier_laws.proofs.FragmentsJoined.{typed_on}
use Rattle.carrier_laws.proofs.FragmentsTyped.{sources_of, HasLabels, Coming, AllAhead, Begins, Typed}
use Rattle.carrier_laws.proofs.LoopsTyped.{while_typed}
use Rattle.carrier_laws.proofs.PlacesKept.{Grounds, Place, statement_place}
use Rattle.carrier_laws.proofs.StatementsTaken.{statement_taken, block_taken}
use Rattle.carrier_laws.proofs.StatementsTyped.{set_typed_so, store_typed_so, done_typed_so, print_typed_so, return_typed_so, split_typed_so}
use Rattle.carrier_laws.proofs.TestsTyped.{left_behind}

module _ (w : Walk) (isw : IsWalk w) (columns : List (List Truth)) (has : HasLabels w columns) (set : Setting) (g : Grounds set w.site) (frame : Frame) (vars_are : w.vars ≡ length frame.kinds)
    (kinds_are : length set.kinds ≡ w.vars)
    (tuples : (visible : List ℕ) (e : core.Expr) (number : ℕ) → HasKind set visible e (kind.Named number) → tuple_number frame e ≡ number) where
  abbrev Statement : core.Stmt → Type 0
  Statement s = StatementTyped w columns frame set s

  abbrev Block : core.Stmts → Type 0
  Block ss = BlockTyped w columns frame set ss

  -- a block of none
  no_statement : Block core.NoStmt
  unfolding AreStatements block_code block_labels carried.block elaborated.block
  no_statement = record {
    is = λ before after p t st l coming more are here begins at made ahead.
        subst (λ (m : State). Typed true w columns p t [] [] l l m coming) (ok_same st more made)
        (record {
          ends = record {
            end = t;
            passes = record { runs = no_code w t l.now.edges; made = []; made_is = sym (append-nil l.states); labels = tt };
            here = subst (λ n. Here w n t st [] l.now.notes) (let same : p ≡ p + 0 = omega arith in same) begins.here;
          };
          left = begins.here.remains;
          labels = begins.labels;
        });
  }

  one_statement : (s : core.Stmt) → Statement s → Block (core.AStmt s core.NoStmt)
  unfolding AreStatements block_code block_labels carried.block elaborated.block
  one_statement s one = record {
    is = λ before after p t st l coming more are here begins at made ahead.
        (let a = then_ok (elaborated.statement w.site s st) _ more made in
        let is = a.first ∙ ap Ok (ok_same a.value more a.second) in
        let code = statement_code frame s p in
        let labels = statement_labels s p in
        subst (λ x. Typed (completes s) w columns p t x (labels ++ []) l (carried.statement (sources_of w columns) s l) more coming) (sym (append-nil code))
        (subst (λ x. Typed (completes s) w columns p t code x l (carried.statement (sources_of w columns) s l) more coming) (sym (append-nil labels))
        (one.is before are.0 p t st l coming more are.1 here
        (record { here = begins.here; labels = subst (λ ns. Coming w l.states (ns ++ coming)) (append-nil labels) begins.labels }) (code_left w.body p code [] at) is ahead)));
  }

  goes_on : (b : Truth) (t : core.Stmt) (ts : core.Stmts) → MayFollow b (core.AStmt t ts) → b ≡ true
  goes_on true t ts may = refl
  goes_on false t ts may = absurd may

  more_statements : (s u : core.Stmt) (us : core.Stmts) → Statement s → Block (core.AStmt u us) → Block (core.AStmt s (core.AStmt u us))
  unfolding AreStatements block_code block_labels carried.block elaborated.block
  more_statements s u us one others = record { is = λ before after p t st l coming more are here begins at made ahead. all before after p t st l coming more are here begins at made ahead }
    where
      all : (before after : Point) (p : ℕ) (t : StateType) (st : State) (l : Labelled) (coming : List ℕ) (more : State) → AreStatements set before (core.AStmt s (core.AStmt u us)) after
          → Place set w.site before st → Begins w p t st l (block_labels (core.AStmt s (core.AStmt u us)) p ++ coming) → CodeAt w.body p (block_code frame (core.AStmt s (core.AStmt u us)) p)
          → elaborated.block w.site (core.AStmt s (core.AStmt u us)) st ≡ Ok more → AllAhead w more (carried.block (sources_of w columns) (core.AStmt s (core.AStmt u us)) l)
          → Typed (completes_all (core.AStmt u us)) w columns p t (block_code frame (core.AStmt s (core.AStmt u us)) p) (block_labels (core.AStmt s (core.AStmt u us)) p) l
          (carried.block (sources_of w columns) (core.AStmt s (core.AStmt u us)) l) more coming
      all before after p t st l coming more are here begins at made ahead =
          let from = sources_of w columns in
          let rest = core.AStmt u us in
          let a = then_ok (elaborated.statement w.site s st) _ more made in
          let mid = a.value in
          let may = goes_on (completes s) u us are.2 in
          let place = statement_place set w.site g s before are.0 st mid are.1 a.first may here in
          let q = p + statement_size s in
          let code = statement_code frame s p in
          let there : q ≡ p + length code = ap (λ n. p + n) (sym (statement_long frame s p).is) in
          let second = block_code frame rest q in
          let first_labels = statement_labels s p in
          let last_labels = block_labels rest q in
          let l_mid = carried.statement from s l in
          let l_end = carried.block from rest l_mid in
          let later = (answered (elaborated.block w.site rest mid) more (block_goes w.site rest mid) a.second).later in
          let ahead_mid = earlier w mid more later ahead.ahead in
          let left = left_behind w (carried.statement from s) (length first_labels) st.notes mid.notes (answered (elaborated.statement w.site s st) mid (statement_taken w.site from s p st) a.first)
          l ahead_mid.notes.rest begins.here.remains ahead_mid.notes.is in
          let grows = (left_behind w (carried.block from rest) (length last_labels) mid.notes more.notes (answered (elaborated.block w.site rest mid) more (block_taken w.site from rest q mid) a.second)
          l_mid ahead.ahead.notes.rest (ahead_mid.notes.is ∙ ap (λ ns. mid.notes ++ ns) (sym left.notes)) ahead.ahead.notes.is).grows in
          let r = one.is before are.0 p t st l (last_labels ++ coming) mid are.1 here
          (record { here = begins.here; labels = subst (λ ns. Coming w l.states ns) (append_assoc first_labels last_labels coming) begins.labels })
          (code_left w.body p code second at) a.first (record { ahead = ahead_mid; states = more_again l_mid.states l_end.states w.body.labels grows ahead.states }) in
          let going = subst (λ b. Typed b w columns p t code first_labels l l_mid mid (last_labels ++ coming)) may r in
          typed_on w columns (completes_all rest) p q t going.ends.end code second first_labels last_labels l l_mid l_end more coming there going.ends.passes
          (others.is are.0 after q going.ends.end mid l_mid coming more are.3 place
          (record { here = subst (λ n. Here w n going.ends.end mid [] l_mid.now.notes) (sym there) going.ends.here; labels = going.labels })
          (code_right w.body p q code second there at) a.second ahead)

  -- ---- all of them

  mutual
    pub statement_typed : (s : core.Stmt) → Statement s
    statement_typed (core.Set x e) = set_typed_so w isw columns set g frame vars_are kinds_are x e
    statement_typed (core.Split xs e at) = split_typed_so w isw columns set g frame vars_are kinds_are tuples xs e at
    statement_typed (core.Store array index e at) = store_typed_so w isw columns set g frame vars_are kinds_are array index e at
    statement_typed (core.Do call) = done_typed_so w isw columns set g frame vars_are kinds_are call
    statement_typed (core.Print e) = print_typed_so w isw columns set g frame vars_are kinds_are e
    statement_typed (core.If test on_true on_false join at) = if_typed w isw columns has frame set g vars_are test on_true on_false join at (block_typed on_true) (block_typed on_false)
    statement_typed (core.While test head body at) = while_typed w isw columns has set g frame vars_are test head body at (block_typed body)
    statement_typed (core.Return value at) = return_typed_so w isw columns set g frame vars_are kinds_are value at

    pub block_typed : (ss : core.Stmts) → Block ss
    block_typed core.NoStmt = no_statement
    block_typed (core.AStmt s core.NoStmt) = one_statement s (statement_typed s)
    block_typed (core.AStmt s (core.AStmt u us)) = more_statements s u us (statement_typed s) (block_typed (core.AStmt u us))
