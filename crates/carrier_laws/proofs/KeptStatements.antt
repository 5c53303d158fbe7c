-- Statements keep what elaboration keeps of states, and index variables in scope keep their names.
use Rattle.std.proofs.Common.{◌≡◌, ◌∙◌, ℕ, suc, ◌+◌, ◌≤◌, inl, inr, List, [], ◌∷◌, ◌++◌, length, Bool as Truth, true, false, cond, Option, Some, None, Ok, Err, refl, sym, ap, subst, arith, append-nil}
use Rattle.std.specs.Prelude.{◌||◌}
use Rattle.std.specs.List.{AllByRecursion}
use Rattle.xan_lin.specs.Linear.{Linear}
use Rattle.xan_lin.specs.Subst.{zero_form}
use Rattle.xan_lin.specs.declared.term.LimitKind.TheVariants as limit
use Rattle.xan_seq.proofs.RisingKeys.{KeysRise-with}
use Rattle.state_types.specs.PlaceTypes.{type_at, PlacesRise}
use Rattle.state_types.specs.Types.{same_kind}
use Rattle.state_types.specs.declared.closed.Packed.{Packed}
use Rattle.state_types.specs.declared.state.StateType.{StateType}
use Rattle.state_types.specs.declared.types.Ty.{Ty}
use Rattle.state_types.specs.declared.types.Ty.TheVariants as ty
use Rattle.operation_rules.specs.declared.operation.Operation.TheVariants.{Untuple, Store, Print, Return}
use Rattle.operation_rules.specs.Forms.{variables_from}
use Rattle.xanadu_tree.specs.declared.stmt.Clause.{Clause}
use Rattle.xanadu_tree.specs.declared.types.CoreTy.{CoreTy}
use Rattle.xanadu_tree.specs.BodyRules.{Point, behind_block, completes, completes_all, MayFollow, IsType, IsStated, IsClauseIfAny, IsTarget, IsStatement, AreStatements}
use Rattle.xanadu_tree.specs.IndexRules.{Stretch, stretch_of}
use Rattle.xanadu_tree.specs.KindRules.{Setting}
use Rattle.xanadu_tree.specs.Plain as core
use Rattle.typed_core.specs.Constructs.{types_by, state_by}
use Rattle.typed_core.specs.Growth.{Continues, Later}
use Rattle.typed_core.specs.Joins.{changes_any, stated, joined, entered, entered_if}
use Rattle.typed_core.specs.Limits.{Walk, Misfit, within}
use Rattle.typed_core.specs.Operands.{operand}
use Rattle.typed_core.specs.States.{Site, State, point, resuming, noting_state, as_tuple, like, given}
use Rattle.typed_core.specs.Statements.{assigned, all_given, split, store, done, printed, returning, Branches, meeting, after_branches, other_branch, statement, block}
use Rattle.typed_core.specs.Tests.{tested, on_side}
use Rattle.typed_core.proofs.Continued.{Goes, no_more, more_again}
use Rattle.typed_core.proofs.GrownContexts.{Onward, onward_again, types_by_goes, state_by_goes}
use Rattle.typed_core.proofs.GrownOperands.{operand_goes}
use Rattle.typed_core.proofs.GrownTests.{tested_goes}
use Rattle.typed_core.proofs.KnownTypes.{all_with_type}
use Rattle.typed_core.proofs.LimitedAnswers.{then_answers, weaker, any_answer}
use Rattle.typed_core.proofs.NamedJoins.{clause_indices}
use Rattle.typed_core.proofs.NamedStates.{both_answers}
use Rattle.carrier_laws.proofs.KeptJoins.{CoreExists, joined_kept, JoinsWell, entered_kept, entered_if_kept, resumed_kept, still_kept}
use Rattle.carrier_laws.proofs.KeptStates.{Kept, zero_is_form, types_kept, state_kept, operand_kept, tested_kept, side_kept, noted_kept}
use Rattle.carrier_laws.proofs.NamesKept.{Keys, InScope, scope_more, keys_later, keys_behind, scope_behind}
use Rattle.carrier_laws.proofs.RowsStand.{AreSound}
use Rattle.carrier_laws.proofs.RulesKept.{IsGood, AreGood}

-- ---- statements without blocks

-- no index variable of a clause is named
pub record Quietly (table : List Packed) (st more : State) : Type 0 where
  pub kept : Kept table more
  pub naming : more.naming ≡ st.naming
  pub vars : st.ctx.vars ≤ more.ctx.vars
  pub rows : Continues st.ctx.rows more.ctx.rows

module _ (site : Site) (are : AreGood site.table site.sigs) where
  abbrev Table : List Packed
  Table = site.table

  quiet_by : (st more : State) → Onward site.table st more → Kept site.table more → Quietly site.table st more
  quiet_by st more o k = record { kept = k; naming = o.grown.naming; vars = o.grown.later.vars; rows = o.grown.rows }

  quiet_on : (a b c : State) → Quietly site.table a b → Quietly site.table b c → Quietly site.table a c
  quiet_on a b c one two = record {
    kept = two.kept;
    naming = two.naming ∙ one.naming;
    vars = (let h = one.vars in let g = two.vars in omega (arith, h, g));
    rows = more_again a.ctx.rows b.ctx.rows c.ctx.rows one.rows two.rows;
  }

  like_good : (old : Option Ty) (t : Ty) → IsGood site.table t → Goes (IsGood site.table) (like old t)
  like_good None t g = record { is = g }
  like_good (Some old) t g = by_test (same_kind old t)
    where
      by_test : (b : Truth) → Goes (IsGood site.table) (let r : Walk Ty = cond b (Ok t) (Err Misfit) in r)
      by_test true = record { is = g }
      by_test false = record { is = tt }

  given_quiet : (x : ℕ) (t : Ty) (st : State) → Kept site.table st → IsGood site.table t → Goes (Quietly site.table st) (given x t st)
  unfolding given
  given_quiet x t st k g =
      then_answers (within limit.Places (suc x)) _ (any_answer (within limit.Places (suc x)))
      (λ few u. then_answers (like (type_at x st.types) t) _ (like_good (type_at x st.types) t g)
      (λ it h. record {
        is = record {
          kept = record {
            rows = k.rows;
            types = all_with_type (λ (e : ℕ × Ty). IsGood site.table e.1) x it st.types h k.types;
            rise = KeysRise-with 0 x it st.types (omega arith) k.rise;
            few = k.few;
          };
          naming = refl;
          vars = omega arith;
          rows = no_more st.ctx.rows;
        };
      }))

  all_given_quiet : (xs : List ℕ) (ts : List Ty) (st : State) → Kept site.table st → AllByRecursion (IsGood site.table) ts → Goes (Quietly site.table st) (all_given xs ts st)
  unfolding all_given
  all_given_quiet [] [] st k all = record { is = record { kept = k; naming = refl; vars = omega arith; rows = no_more st.ctx.rows } }
  all_given_quiet [] (t ∷ ts) st k all = record { is = tt }
  all_given_quiet (x ∷ xs) [] st k all = record { is = tt }
  all_given_quiet (x ∷ xs) (t ∷ ts) st k all =
      then_answers (given x t st) _ (given_quiet x t st k all.0)
      (λ more h. weaker (all_given xs ts more) (λ end g. quiet_on st more end h g) (all_given_quiet xs ts more h.kept all.1))

  -- an expression, with what it goes on with
  abbrev Made : State → Ty × State → Type 0
  Made st r = Onward site.table st r.1 × (Kept site.table r.1 × IsGood site.table r.0)

  made : (e : core.Expr) (st : State) → Kept site.table st → Goes (Made st) (operand site e st)
  made e st k = both_answers (operand site e st) (operand_goes site e st) (operand_kept site are e st k)

  assigned_quiet : (x : ℕ) (e : core.Expr) (st : State) → Kept site.table st → Goes (Quietly site.table st) (assigned site x e st)
  unfolding assigned
  assigned_quiet x e st k =
      then_answers (operand site e st) _ (made e st k)
      (λ r h. weaker (given x r.0 r.1) (λ more g. quiet_on st r.1 more (quiet_by st r.1 h.0 h.1.0) g) (given_quiet x r.0 r.1 h.1.0 h.1.1))

  split_quiet : (xs : List ℕ) (e : core.Expr) (st : State) → Kept site.table st → Goes (Quietly site.table st) (split site xs e st)
  unfolding split
  split_quiet xs e st k =
      then_answers (operand site e st) _ (made e st k)
      (λ r h. then_answers (as_tuple r.0) _ (any_answer (as_tuple r.0))
      (λ n u. then_answers (types_by site None (Untuple n (length xs)) (r.0 ∷ []) r.1) _
      (both_answers (types_by site None (Untuple n (length xs)) (r.0 ∷ []) r.1) (types_by_goes site None (Untuple n (length xs)) (r.0 ∷ []) r.1)
      (types_kept site are None (Untuple n (length xs)) (r.0 ∷ []) r.1 h.1.0 (h.1.1, tt)))
      (λ o g. weaker (all_given xs o.0 o.1) (λ more f. quiet_on st o.1 more (quiet_by st o.1 (onward_again site.table st r.1 o.1 h.0 g.0) g.1.0) f)
      (all_given_quiet xs o.0 o.1 g.1.0 g.1.1))))

  store_quiet : (array index value : core.Expr) (at : ℕ) (st : State) → Kept site.table st → Goes (Quietly site.table st) (store site array index value at st)
  unfolding store
  store_quiet array index value at st k =
      then_answers (operand site array st) _ (made array st k)
      (λ p h. then_answers (operand site index p.1) _ (made index p.1 h.1.0)
      (λ q g. then_answers (operand site value q.1) _ (made value q.1 g.1.0)
      (λ r f. let types = p.0 ∷ q.0 ∷ r.0 ∷ [] in
      weaker (state_by site (Some at) Store types r.1)
      (λ more l. quiet_by st more (onward_again site.table st r.1 more (onward_again site.table st q.1 r.1 (onward_again site.table st p.1 q.1 h.0 g.0) f.0) l.0) l.1)
      (both_answers (state_by site (Some at) Store types r.1) (state_by_goes site (Some at) Store types r.1) (state_kept site are (Some at) Store types r.1 f.1.0 (h.1.1, (g.1.1, (f.1.1, tt))))))))

  done_quiet : (call : core.Expr) (st : State) → Kept site.table st → Goes (Quietly site.table st) (done site call st)
  unfolding done
  done_quiet call st k = then_answers (operand site call st) _ (made call st k) (λ r h. record { is = quiet_by st r.1 h.0 h.1.0 })

  printed_quiet : (e : core.Expr) (st : State) → Kept site.table st → Goes (Quietly site.table st) (printed site e st)
  unfolding printed
  printed_quiet e st k =
      then_answers (operand site e st) _ (made e st k)
      (λ r h. weaker (state_by site None Print (r.0 ∷ []) r.1) (λ more l. quiet_by st more (onward_again site.table st r.1 more h.0 l.0) l.1)
      (both_answers (state_by site None Print (r.0 ∷ []) r.1) (state_by_goes site None Print (r.0 ∷ []) r.1) (state_kept site are None Print (r.0 ∷ []) r.1 h.1.0 (h.1.1, tt))))

  returning_quiet : (value : Option core.Expr) (at : ℕ) (st : State) → Kept site.table st → Goes (Quietly site.table st) (returning site value at st)
  unfolding returning
  returning_quiet None at st k =
      weaker (state_by site (Some at) Return (ty.Int zero_form ∷ []) st) (λ more l. quiet_by st more l.0 l.1)
      (both_answers (state_by site (Some at) Return (ty.Int zero_form ∷ []) st) (state_by_goes site (Some at) Return (ty.Int zero_form ∷ []) st)
      (state_kept site are (Some at) Return (ty.Int zero_form ∷ []) st k ((zero_is_form, tt), tt)))
  returning_quiet (Some e) at st k =
      then_answers (operand site e st) _ (made e st k)
      (λ r h. weaker (state_by site (Some at) Return (r.0 ∷ []) r.1) (λ more l. quiet_by st more (onward_again site.table st r.1 more h.0 l.0) l.1)
      (both_answers (state_by site (Some at) Return (r.0 ∷ []) r.1) (state_by_goes site (Some at) Return (r.0 ∷ []) r.1) (state_kept site are (Some at) Return (r.0 ∷ []) r.1 h.1.0 (h.1.1, tt))))

-- ---- statements and blocks

-- what is known at a place, and behind a statement
pub record Known (site : Site) (at : Point) (st : State) : Type 0 where
  pub kept : Kept site.table st
  pub keys : Keys site.own.vars at.indices st.naming
  pub scope : InScope site.own.vars at.reach st.naming st.ctx.vars

pub record Leaves (site : Site) (completes : Truth) (after : Point) (st more : State) : Type 0 where
  pub kept : Kept site.table more
  pub keys : Keys site.own.vars after.indices more.naming
  pub scope : completes ≡ true → InScope site.own.vars after.reach more.naming more.ctx.vars
  pub rows : Continues st.ctx.rows more.ctx.rows
  pub naming : Continues st.naming more.naming
  pub vars : st.ctx.vars ≤ more.ctx.vars

pub record Ground (set : Setting) (site : Site) : Type 0 where
  pub are : AreGood site.table site.sigs
  pub exist : (reach : List Stretch) (c : CoreTy) → IsType set.types reach c → CoreExists site.table c

module _ (set : Setting) (site : Site) (ground : Ground set site) where
  pub clause_exists : (before : Point) (c : Option Clause) (after : Point) → IsClauseIfAny set before c after → AllByRecursion (λ (s : ℕ × CoreTy). CoreExists site.table s.1) (stated c).vars
  clause_exists before None after is = tt
  clause_exists before (Some clause) after is = each clause.vars is.0.stated
    where
      each : (vars : List (ℕ × CoreTy)) → AllByRecursion (IsStated set before.visible (stretch_of clause.first clause.quant ∷ before.reach)) vars
          → AllByRecursion (λ (s : ℕ × CoreTy). CoreExists site.table s.1) vars
      each [] all = tt
      each (s ∷ ss) all = (ground.exist (stretch_of clause.first clause.quant ∷ before.reach) s.1 all.0.2, each ss all.1)

  quiet_leaves : (completes : Truth) (before after : Point) (st more : State) → after.indices ≡ before.indices → after.reach ≡ before.reach → Known site before st
      → Quietly site.table st more → Leaves site completes after st more
  quiet_leaves completes before after st more indices reach known q = record {
    kept = q.kept;
    keys = subst (λ n. Keys site.own.vars n more.naming) (sym indices) (subst (λ vs. Keys site.own.vars before.indices vs) (sym q.naming) known.keys);
    scope = λ c. subst (λ r. InScope site.own.vars r more.naming more.ctx.vars) (sym reach)
        (scope_more site.own.vars before.reach st.naming more.naming st.ctx.vars more.ctx.vars (same st.naming more.naming q.naming) q.vars known.scope);
    rows = q.rows;
    naming = same st.naming more.naming q.naming;
    vars = q.vars;
  }
    where
      same : (xs ys : List (ℕ × Linear)) → ys ≡ xs → Continues xs ys
      same xs ys e = subst (λ l. Continues xs l) (sym e) (no_more xs)

  all_leave : (completes : Truth) (before after : Point) (st : State) (m : Walk State) → after.indices ≡ before.indices → after.reach ≡ before.reach → Known site before st
      → Goes (Quietly site.table st) m → Goes (Leaves site completes after st) m
  all_leave completes before after st m indices reach known q = weaker m (λ more h. quiet_leaves completes before after st more indices reach known h) q

  target_indices : (before : Point) (x : ℕ) (after : Point) → IsTarget before x after → after.indices ≡ before.indices
  target_indices before x after (inl t) = ap (λ (p : Point). p.indices) t.1
  target_indices before x after (inr t) = ap (λ (p : Point). p.indices) t.1

  target_reach : (before : Point) (x : ℕ) (after : Point) → IsTarget before x after → after.reach ≡ before.reach
  target_reach before x after (inl t) = ap (λ (p : Point). p.reach) t.1
  target_reach before x after (inr t) = ap (λ (p : Point). p.reach) t.1

  -- ---- where control flow meets

  -- behind a join, whose clause comes behind these index variables
  pub join_leaves : (here after : Point) (c : Option Clause) (old latest more : State) → IsClauseIfAny set here c after → Keys site.own.vars here.indices latest.naming
      → InScope site.own.vars here.reach old.naming old.ctx.vars → Continues old.naming latest.naming → old.ctx.vars ≤ latest.ctx.vars
      → (before : StateType) (sound : _) (good : _) (rise : _) → JoinsWell site.table before sound good rise (stated c) latest more
      → Keys site.own.vars after.indices more.naming × InScope site.own.vars after.reach more.naming more.ctx.vars
  unfolding variables_from
  join_leaves here after None old latest more is keys scope onward le before sound good rise j =
      (let none : more.naming ≡ latest.naming ++ [] = j.naming in
      let same : more.naming ≡ latest.naming = none ∙ append-nil latest.naming in
      let vars = j.vars in (
        subst (λ (p : Point). Keys site.own.vars p.indices more.naming) (sym is) (subst (λ vs. Keys site.own.vars here.indices vs) (sym same) keys),
        subst (λ (p : Point). InScope site.own.vars p.reach more.naming more.ctx.vars) (sym is)
            (subst (λ vs. InScope site.own.vars here.reach vs more.ctx.vars) (sym same)
            (scope_more site.own.vars here.reach old.naming latest.naming old.ctx.vars more.ctx.vars onward (omega (arith, le, vars)) scope)),
      ))
  join_leaves here after (Some clause) old latest more is keys scope onward le before sound good rise j =
      (let vars = j.vars in
      let behind = keys_behind site.own.vars here.indices latest.ctx.vars clause latest.naming (inl is.0.first) keys in
      let within = scope_behind site.own.vars here.indices latest.ctx.vars latest.ctx.vars more.ctx.vars here.reach clause latest.naming is.0.first keys
      (scope_more site.own.vars here.reach old.naming latest.naming old.ctx.vars latest.ctx.vars onward le scope) (omega (arith, vars)) (omega (arith, vars)) in (
        subst (λ (p : Point). Keys site.own.vars p.indices more.naming) (sym is.1) (subst (λ vs. Keys site.own.vars (here.indices + clause.quant.count) vs) (sym j.naming) behind),
        subst (λ (p : Point). InScope site.own.vars p.reach more.naming more.ctx.vars) (sym is.1)
            (subst (λ vs. InScope site.own.vars (stretch_of clause.first clause.quant ∷ here.reach) vs more.ctx.vars) (sym j.naming) within),
      ))

  -- ---- branches

  plus_none : (n : ℕ) → n ≡ n + 0
  plus_none n = omega arith

  module _ (at : ℕ) (changed : ℕ → Truth) (st : State) (known : Kept site.table st) (one : StateType) (one_sound : AreSound one.ctx.rows)
      (one_good : AllByRecursion (λ (e : ℕ × Ty). IsGood site.table e.1) one.places) (one_rows : Continues st.ctx.rows one.ctx.rows) (two : State) (two_kept : Kept site.table two)
      (two_rows : Continues st.ctx.rows two.ctx.rows) (here after : Point) (keys : Keys site.own.vars here.indices two.naming)
      (scope : InScope site.own.vars here.reach st.naming st.ctx.vars) (onward : Continues st.naming two.naming) (le : st.ctx.vars ≤ two.ctx.vars) where
    abbrev Behind : (completes : Truth) → State → Type 0
    Behind b more = Leaves site b after st more

    meeting_leaves : (c : Option Clause) (ends : Branches) (b : Truth) → IsClauseIfAny set here c after
        → Goes (Behind b) (meeting site at (stated c) changed (point st) ends two)
    unfolding meeting
    meeting_leaves c ends b is =
        then_answers (joined site (stated c) changed (point st) two) _
        (joined_kept site.table (point st) known.rows known.types known.rise site (stated c) changed two (clause_exists here c after is))
        (λ j m. then_answers (entered_if ends.one_completes site at j.0 ends.one j.1) _ (entered_if_kept site.table ends.one_completes site at j.0 ends.one j.1 m.kept)
        (λ first g. weaker (entered_if ends.two_completes site at j.0 ends.two first)
        (λ more h. (let names = join_leaves here after c st two j.1 is keys scope onward le (point st) known.rows known.types known.rise m in
        let vars = m.vars in
        let naming : more.naming ≡ j.1.naming = h.naming ∙ g.naming in
        let ctx = h.ctx ∙ g.ctx in
        record {
          kept = h.kept;
          keys = subst (λ vs. Keys site.own.vars after.indices vs) (sym naming) names.0;
          scope = λ e. subst (λ x. InScope site.own.vars after.reach more.naming x.vars) (sym ctx)
              (subst (λ vs. InScope site.own.vars after.reach vs j.1.ctx.vars) (sym naming) names.1);
          rows = subst (λ x. Continues st.ctx.rows x.rows) (sym ctx) m.rows;
          naming = subst (λ vs. Continues st.naming vs) (sym (naming ∙ m.naming))
              (more_again st.naming two.naming _ onward (record { rest = variables_from (stated c).first two.ctx.vars (stated c).quant.count; is = refl }));
          vars = subst (λ x. st.ctx.vars ≤ x.vars) (sym ctx) (omega (arith, le, vars));
        }))
        (entered_if_kept site.table ends.two_completes site at j.0 ends.two first g.kept)))

    -- no index variable is named
    same_leaves : (b : Truth) (more : State) → (b ≡ true → after ≡ here) → after.indices ≡ here.indices + 0 → more.naming ≡ two.naming → two.ctx.vars ≤ more.ctx.vars
        → Kept site.table more → Continues st.ctx.rows more.ctx.rows → Behind b more
    same_leaves b more is indices naming vars kept rows = record {
      kept = kept;
      keys = subst (λ n. Keys site.own.vars n more.naming) (sym indices)
          (subst (λ vs. Keys site.own.vars (here.indices + 0) vs) (sym naming) (keys_later site.own.vars here.indices (here.indices + 0) two.naming (omega arith) keys));
      scope = λ e. subst (λ (p : Point). InScope site.own.vars p.reach more.naming more.ctx.vars) (sym (is e))
          (scope_more site.own.vars here.reach st.naming more.naming st.ctx.vars more.ctx.vars (subst (λ vs. Continues st.naming vs) (sym naming) onward) (omega (arith, le, vars)) scope);
      rows = rows;
      naming = subst (λ vs. Continues st.naming vs) (sym naming) onward;
      vars = omega (arith, le, vars);
    }

    -- nothing follows where neither branch completes
    nothing_follows : (c : Option Clause) → IsClauseIfAny set here c after → Behind false (resuming st.ctx.rows st.types two)
    nothing_follows c is = record {
      kept = resumed_kept site.table st.ctx.rows st.types two known.rows known.types known.rise two_kept.few;
      keys = keys_later site.own.vars here.indices after.indices two.naming (let e = clause_indices set here c after is in omega (arith, e)) keys;
      scope = λ e. absurd (let bad : ⊥ = cc in bad);
      rows = no_more st.ctx.rows;
      naming = onward;
      vars = le;
    }

    after_leaves : (one_completes two_completes : Truth) (c : Option Clause) → IsClauseIfAny set here c after
        → Goes (Behind (one_completes || two_completes)) (after_branches one_completes two_completes c site at changed (point st) one two)
    unfolding after_branches noting_state
    after_leaves false false c is = record { is = nothing_follows c is }
    after_leaves true false None is =
        record {
          is = same_leaves true _ (λ e. is) (ap (λ (p : Point). p.indices) is ∙ plus_none here.indices) refl (omega arith)
              (noted_kept site ground.are one.ctx.rows _ (still_kept site.table (point st) one two one_sound known.types known.rise one_good two_kept.few)) one_rows;
        }
    after_leaves false true None is =
        record {
          is = same_leaves true _ (λ e. is) (ap (λ (p : Point). p.indices) is ∙ plus_none here.indices) refl (omega arith)
              (noted_kept site ground.are two.ctx.rows _ (still_kept site.table (point st) (point two) two two_kept.rows known.types known.rise two_kept.types two_kept.few)) two_rows;
        }
    after_leaves p q c is = meeting_leaves c (record { one = one; two = point two; one_completes = p; two_completes = q }) (p || q) is

  -- ---- all of them

  -- a side of a test, and where it begins
  pub side_known : (at : Point) (rows : List Linear) (st after : State) → Known site at st → Later st after → after.naming ≡ st.naming → AreSound rows → Kept site.table after
      → Known site at (on_side rows after)
  side_known at rows st after k later naming sound kept = record {
    kept = side_kept site ground.are rows after sound kept;
    keys = subst (λ vs. Keys site.own.vars at.indices vs) (sym naming) k.keys;
    scope = scope_more site.own.vars at.reach st.naming after.naming st.ctx.vars after.ctx.vars later.naming later.vars k.scope;
  }

  -- where the second branch begins
  pub other_known : (before inner : Point) (rows : List Linear) (st one : State) → Known site before st → AreSound rows → Kept site.table one → Keys site.own.vars inner.indices one.naming
      → Continues st.naming one.naming → st.ctx.vars ≤ one.ctx.vars → Known site (behind_block before inner) (other_branch rows st one)
  unfolding noting_state
  other_known before inner rows st one k sound kept keys onward le = record {
    kept = noted_kept site ground.are rows _ (resumed_kept site.table rows st.types one sound k.kept.types k.kept.rise kept.few);
    keys = keys;
    scope = scope_more site.own.vars before.reach st.naming one.naming st.ctx.vars one.ctx.vars onward le k.scope;
  }

  other_same : (rows : List Linear) (st one : State) → (other_branch rows st one).naming ≡ one.naming
  unfolding noting_state
  other_same rows st one = refl

  other_vars : (rows : List Linear) (st one : State) → (other_branch rows st one).ctx ≡ record { vars = one.ctx.vars; rows = rows }
  unfolding noting_state
  other_vars rows st one = refl

  while_end : (outer inner : Point) (rows : List Linear) (types : List (ℕ × Ty)) (st back : State) → AreSound rows → AllByRecursion (λ (e : ℕ × Ty). IsGood site.table e.1) types
      → PlacesRise 0 types → back.ctx.vars ≤ 1024 → Keys site.own.vars inner.indices back.naming
      → InScope site.own.vars outer.reach back.naming back.ctx.vars → Continues st.ctx.rows rows → Continues st.naming back.naming → st.ctx.vars ≤ back.ctx.vars
      → Leaves site true (behind_block outer inner) st (noting_state rows (resuming rows types back))
  unfolding noting_state
  while_end outer inner rows types st back sound good rise few keys scope grown onward le = record {
    kept = noted_kept site ground.are rows _ (resumed_kept site.table rows types back sound good rise few);
    keys = keys;
    scope = λ e. scope;
    rows = grown;
    naming = onward;
    vars = le;
  }

  mutual
    unfolding statement AreStatements

    pub statement_leaves : (s : core.Stmt) (before after : Point) (st : State) → IsStatement set before s after → Known site before st
        → Goes (Leaves site (completes s) after st) (statement site s st)
    statement_leaves (core.Set x e) before after st is k =
        all_leave true before after st (assigned site x e st) (target_indices before x after is.4) (target_reach before x after is.4) k (assigned_quiet site ground.are x e st k.kept)
    statement_leaves (core.Split xs e at) before after st is k =
        all_leave true before after st (split site xs e st) (ap (λ (p : Point). p.indices) is.4.behind) (ap (λ (p : Point). p.reach) is.4.behind) k (split_quiet site ground.are xs e st k.kept)
    statement_leaves (core.Store array index e at) before after st is k =
        all_leave true before after st (store site array index e at st) (ap (λ (p : Point). p.indices) is.6) (ap (λ (p : Point). p.reach) is.6) k
        (store_quiet site ground.are array index e at st k.kept)
    statement_leaves (core.Do call) before after st is k =
        all_leave true before after st (done site call st) (ap (λ (p : Point). p.indices) is.3) (ap (λ (p : Point). p.reach) is.3) k (done_quiet site ground.are call st k.kept)
    statement_leaves (core.Print e) before after st is k =
        all_leave true before after st (printed site e st) (ap (λ (p : Point). p.indices) is.1) (ap (λ (p : Point). p.reach) is.1) k (printed_quiet site ground.are e st k.kept)
    statement_leaves (core.If test on_true on_false join at) before after st is k =
        let changed : ℕ → Truth = λ x. changes_any on_true x || changes_any on_false x in
        then_answers (tested site test st) _ (both_answers (tested site test st) (tested_goes site test st) (tested_kept site ground.are test st k.kept))
        (λ sides g. let grown = g.0.grown in
        let side = on_side sides.on_true sides.after in
        then_answers (block site on_true side) _
        (block_leaves on_true before is.0 side is.3 (side_known before sides.on_true st sides.after k grown.later grown.naming g.1.on_true g.1.after))
        (λ one h. let a = grown.later.vars in
        let b = h.vars in
        let onward = more_again st.naming sides.after.naming one.naming grown.later.naming h.naming in
        let other = other_branch sides.on_false st one in
        let naming = other_same sides.on_false st one in
        let ctx = other_vars sides.on_false st one in
        then_answers (block site on_false other) _
        (block_leaves on_false (behind_block before is.0) is.1 other is.4 (other_known before is.0 sides.on_false st one k g.1.on_false h.kept h.keys onward (omega (arith, a, b))))
        (λ two l. let c = subst (λ x. x.vars ≤ two.ctx.vars) ctx l.vars in
        after_leaves at changed st k.kept (point one) h.kept.rows h.kept.types (more_again st.ctx.rows sides.on_true one.ctx.rows grown.on_true h.rows) two l.kept
        (more_again st.ctx.rows sides.on_false two.ctx.rows grown.on_false (subst (λ x. Continues x.rows two.ctx.rows) ctx l.rows)) (behind_block before is.1) after l.keys k.scope
        (more_again st.naming one.naming two.naming onward (subst (λ vs. Continues vs two.naming) naming l.naming)) (omega (arith, a, b, c))
        (completes_all on_true) (completes_all on_false) join is.5)))
    statement_leaves (core.While test head body at) before after st is k =
        let fin : after ≡ behind_block is.0 is.1 = is.5 in
        then_answers (joined site (stated head) (changes_any body) (point st) st) _
        (joined_kept site.table (point st) k.kept.rows k.kept.types k.kept.rise site (stated head) (changes_any body) st (clause_exists before head is.0 is.3))
        (λ j m. let names = join_leaves before is.0 head st st j.1 is.3 k.keys k.scope (no_more st.naming) (omega arith) (point st) k.kept.rows k.kept.types k.kept.rise m in
        then_answers (entered site at j.0 (point st) j.1) _ (entered_kept site.table site at j.0 (point st) j.1 m.kept)
        (λ begun e. let here : Known site is.0 begun = record {
          kept = e.kept;
          keys = subst (λ vs. Keys site.own.vars is.0.indices vs) (sym e.naming) names.0;
          scope = subst (λ x. InScope site.own.vars is.0.reach begun.naming x.vars) (sym e.ctx) (subst (λ vs. InScope site.own.vars is.0.reach vs j.1.ctx.vars) (sym e.naming) names.1);
        } in
        then_answers (tested site test begun) _ (both_answers (tested site test begun) (tested_goes site test begun) (tested_kept site ground.are test begun e.kept))
        (λ sides g. let grown = g.0.grown in
        let side = on_side sides.on_true sides.after in
        then_answers (block site body side) _ (block_leaves body is.0 is.1 side is.4 (side_known is.0 sides.on_true begun sides.after here grown.later grown.naming g.1.on_true g.1.after))
        (λ turn h. then_answers (entered_if (completes_all body) site at j.0 (point turn) turn) _ (entered_if_kept site.table (completes_all body) site at j.0 (point turn) turn h.kept)
        (λ back f. let vars = m.vars in
        let v = grown.later.vars in
        let w = h.vars in
        let in_begun = ap (λ x. x.vars) e.ctx in
        let in_back = ap (λ x. x.vars) f.ctx in
        let start : Continues st.naming j.1.naming = record { rest = variables_from (stated head).first st.ctx.vars (stated head).quant.count; is = m.naming } in
        let begun_on : Continues begun.naming back.naming =
        subst (λ vs. Continues begun.naming vs) (sym f.naming) (more_again begun.naming sides.after.naming turn.naming grown.later.naming h.naming) in
        let all_on : Continues st.naming back.naming = more_again st.naming j.1.naming back.naming start (subst (λ vs. Continues vs back.naming) e.naming begun_on) in
        let end = noting_state sides.on_false (resuming sides.on_false j.1.types back) in
        record {
          is = subst (λ (p : Point). Leaves site true p st end) (sym fin) (while_end is.0 is.1 sides.on_false j.1.types st back g.1.on_false m.kept.types m.kept.rise f.kept.few
              (subst (λ vs. Keys site.own.vars is.1.indices vs) (sym f.naming) h.keys)
              (scope_more site.own.vars is.0.reach begun.naming back.naming begun.ctx.vars back.ctx.vars begun_on (omega (arith, v, w, in_begun, in_back)) here.scope)
              (more_again st.ctx.rows j.1.ctx.rows sides.on_false m.rows (subst (λ x. Continues x.rows sides.on_false) e.ctx grown.on_false)) all_on (omega (arith, vars, v, w, in_begun, in_back)));
        })))))
    statement_leaves (core.Return value at) before after st is k =
        all_leave false before after st (returning site value at st) (ap (λ (p : Point). p.indices) is.1) (ap (λ (p : Point). p.reach) is.1) k (returning_quiet site ground.are value at st k.kept)

    pub block_leaves : (ss : core.Stmts) (before after : Point) (st : State) → AreStatements set before ss after → Known site before st
        → Goes (Leaves site (completes_all ss) after st) (block site ss st)
    block_leaves core.NoStmt before after st are k = record {
      is = record {
        kept = k.kept;
        keys = subst (λ (p : Point). Keys site.own.vars p.indices st.naming) (sym are) k.keys;
        scope = λ e. subst (λ (p : Point). InScope site.own.vars p.reach st.naming st.ctx.vars) (sym are) k.scope;
        rows = no_more st.ctx.rows;
        naming = no_more st.naming;
        vars = omega arith;
      };
    }
    block_leaves (core.AStmt s core.NoStmt) before after st are k =
        then_answers (statement site s st) _ (statement_leaves s before are.0 st are.1 k)
        (λ more l. record { is = subst (λ (p : Point). Leaves site (completes s) p st more) (sym are.3) l })
    block_leaves (core.AStmt s (core.AStmt t ts)) before after st are k =
        then_answers (statement site s st) _ (statement_leaves s before are.0 st are.1 k)
        (λ more l. let scope = l.scope (goes_on (completes s) are.2) in
        weaker (block site (core.AStmt t ts) more)
        (λ end h. (let a = l.vars in let b = h.vars in record {
          kept = h.kept;
          keys = h.keys;
          scope = h.scope;
          rows = more_again st.ctx.rows more.ctx.rows end.ctx.rows l.rows h.rows;
          naming = more_again st.naming more.naming end.naming l.naming h.naming;
          vars = omega (arith, a, b);
        }))
        (block_leaves (core.AStmt t ts) are.0 after more are.3 (record { kept = l.kept; keys = l.keys; scope = scope })))
      where
        goes_on : (b : Truth) → MayFollow b (core.AStmt t ts) → b ≡ true
        goes_on true may = refl
        goes_on false may = absurd may
