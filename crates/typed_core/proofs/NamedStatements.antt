-- No statement of a core comes upon a stray.
use Rattle.std.proofs.Common.{◌≡◌, ◌∙◌, ℕ, suc, ◌+◌, ◌≤◌, ◌<◌, inl, inr, List, [], ◌∷◌, length, Bool as Truth, true, false, cond, Ok, Err, Option, Some, None, refl, sym, ap, subst, arith}
use Rattle.std.specs.Prelude.{◌||◌}
use Rattle.std.specs.List.{All, AllByRecursion}
use Rattle.std.proofs.lemmas.List.Elements.{All-head, All-tail}
use Rattle.xan_lin.specs.Linear.{Linear}
use Rattle.xan_lin.specs.Subst.{VariablesRise, zero_form}
use Rattle.xan_lin.specs.declared.term.LimitKind.TheVariants as limit
use Rattle.state_types.specs.Naming.{ValuesBelow}
use Rattle.state_types.specs.PlaceTypes.{type_at}
use Rattle.state_types.specs.Tables.{IsClosed}
use Rattle.state_types.specs.Types.{TypeBelow, same_kind}
use Rattle.state_types.specs.declared.state.StateType.{StateType}
use Rattle.state_types.specs.declared.types.Ty.{Ty}
use Rattle.state_types.specs.declared.types.Ty.TheVariants as ty
use Rattle.state_types.proofs.FormNames.{below-zero}
use Rattle.state_types.proofs.RowNames.{type-more}
use Rattle.operation_rules.specs.declared.operation.Operation.TheVariants.{Untuple, Store, Print, Return}
use Rattle.xanadu_tree.specs.declared.stmt.Clause.{Clause}
use Rattle.xanadu_tree.specs.BodyRules.{Point, behind_block, completes_all, IsTarget, IsStatement, AreStatements}
use Rattle.xanadu_tree.specs.KindRules.{Setting}
use Rattle.xanadu_tree.specs.Plain as core
use Rattle.typed_core.specs.Constructs.{types_by, state_by}
use Rattle.typed_core.specs.Joins.{changes_any, stated, joined, entered, entered_if, still_visible}
use Rattle.typed_core.specs.Limits.{Walk, within, Misfit}
use Rattle.typed_core.specs.Operands.{operand}
use Rattle.typed_core.specs.States.{Site, State, point, resuming, noting_state, as_tuple, like, given}
use Rattle.typed_core.specs.Statements.{assigned, all_given, split, store, done, printed, returning, Branches, meeting, after_branches, other_branch, statement, block}
use Rattle.typed_core.specs.Tests.{tested, on_side}
use Rattle.typed_core.proofs.LimitedAnswers.{Anything, then_answers, weaker}
use Rattle.typed_core.proofs.NamedStates.{Stays, both_answers, Went, Typed, typed_on, types_more, within_stays, types_by_stays, state_by_stays}
use Rattle.typed_core.proofs.NamedOperands.{one_below, three_below, operand_stays, tested_stays}
use Rattle.typed_core.proofs.NamedJoins.{EntryBelow, IsNext, clause_next, clause_indices, Behind, values_more, typed_with, joined_stays, entered_stays, entered_if_stays, still_below}

-- ---- from one place to the next

pub behind_on : (own indices first : ℕ) (before more : State) → Behind own indices first before → Went before more → Behind own indices first more
behind_on own indices first before more b went =
    (let h = went.vars in
    let least = b.vars in
    let theirs = b.own_vars in
    record {
      vars = omega (arith, least, h);
      own_vars = omega (arith, theirs, h);
      types = subst (λ ts. All (EntryBelow more.ctx.vars) ts) (sym went.types) (types_more before.ctx.vars more.ctx.vars before.types h b.types);
      naming = subst (λ vs. ValuesBelow more.ctx.vars vs) (sym went.naming) (values_more before.ctx.vars more.ctx.vars before.naming h b.naming);
      rises = subst (λ vs. VariablesRise 0 vs) (sym went.naming) b.rises;
      less = subst (λ (vs : List (ℕ × Linear)). AllByRecursion (λ v. v.0 < indices) vs) (sym went.naming) b.less;
    })

pub typed_of : (own indices first : ℕ) (st : State) → Behind own indices first st → Typed own st
typed_of own indices first st b = record { own_vars = b.own_vars; types = b.types }

-- another state with as many index variables and the same names
pub behind_with : (own indices first : ℕ) (st : State) (rows : List Linear) (types : List (ℕ × Ty)) → Behind own indices first st → All (EntryBelow st.ctx.vars) types
    → Behind own indices first (resuming rows types st)
behind_with own indices first st rows types b all =
    record { vars = b.vars; own_vars = b.own_vars; types = all; naming = b.naming; rises = b.rises; less = b.less }

-- from the place itself on
pub behind_here : (own indices first : ℕ) (st : State) → Behind own indices first st → Behind own indices st.ctx.vars st
behind_here own indices first st b =
    record { vars = omega arith; own_vars = b.own_vars; types = b.types; naming = b.naming; rises = b.rises; less = b.less }

pub behind_first : (own indices first middle : ℕ) (st : State) → first ≤ middle → Behind own indices middle st → Behind own indices first st
behind_first own indices first middle st le b =
    (let h = b.vars in record { vars = omega (arith, le, h); own_vars = b.own_vars; types = b.types; naming = b.naming; rises = b.rises; less = b.less })

pub behind_noted : (own indices first : ℕ) (st : State) (rows : List Linear) → Behind own indices first st → Behind own indices first (noting_state rows st)
unfolding noting_state
behind_noted own indices first st rows b =
    record { vars = b.vars; own_vars = b.own_vars; types = b.types; naming = b.naming; rises = b.rises; less = b.less }

-- ---- variables that are given types

like_stays : (n : ℕ) (o : Option Ty) (t : Ty) → TypeBelow n t → Stays (TypeBelow n) (like o t)
like_stays n None t h = record { is = h }
like_stays n (Some old) t h = by_kind (same_kind old t)
  where
    by_kind : (b : Truth) → Stays (TypeBelow n) (cond b (let r : Walk Ty = Ok t in r) (Err Misfit))
    by_kind true = record { is = h }
    by_kind false = record { is = tt }

given_stays : (own indices first x : ℕ) (t : Ty) (st : State) → TypeBelow st.ctx.vars t → Behind own indices first st → Stays (Behind own indices first) (given x t st)
unfolding given
given_stays own indices first x t st h b =
    then_answers (within limit.Places (suc x)) _ (within_stays limit.Places (suc x))
    (λ few u. then_answers (like (type_at x st.types) t) _ (like_stays st.ctx.vars (type_at x st.types) t h)
    (λ it g. record {
      is = record {
        vars = b.vars;
        own_vars = b.own_vars;
        types = typed_with st.ctx.vars x it st.types g b.types;
        naming = b.naming;
        rises = b.rises;
        less = b.less;
      };
    }))

-- the context is as it was
given_vars : (x : ℕ) (t : Ty) (st : State) → Stays (λ more. more.ctx ≡ st.ctx) (given x t st)
unfolding given
given_vars x t st =
    then_answers (within limit.Places (suc x)) _ (within_stays limit.Places (suc x))
    (λ few u. then_answers (like (type_at x st.types) t) _ (like_any (type_at x st.types)) (λ it g. record { is = refl }))
  where
    like_any : (o : Option Ty) → Stays Anything (like o t)
    like_any None = record { is = tt }
    like_any (Some old) = by_kind (same_kind old t)
      where
        by_kind : (b : Truth) → Stays Anything (cond b (let r : Walk Ty = Ok t in r) (Err Misfit))
        by_kind true = record { is = tt }
        by_kind false = record { is = tt }

all_given_stays : (own indices first n : ℕ) (xs : List ℕ) (ts : List Ty) (st : State) → st.ctx.vars ≡ n → All (TypeBelow n) ts → Behind own indices first st
    → Stays (Behind own indices first) (all_given xs ts st)
unfolding all_given
all_given_stays own indices first n [] [] st same all b = record { is = b }
all_given_stays own indices first n [] (t ∷ ts) st same all b = record { is = tt }
all_given_stays own indices first n (x ∷ xs) [] st same all b = record { is = tt }
all_given_stays own indices first n (x ∷ xs) (t ∷ ts) st same all b =
    then_answers (given x t st) _
    (both_answers (given x t st) (given_stays own indices first x t st (subst (λ m. TypeBelow m t) (sym same) (All-head (TypeBelow n) t ts all)) b) (given_vars x t st))
    (λ more h. all_given_stays own indices first n xs ts more (ap (λ c. c.vars) h.1 ∙ same) (All-tail (TypeBelow n) t ts all) h.0)

-- ---- statements without blocks

module _ (site : Site) (closed : All IsClosed site.table) (indices first : ℕ) where
  abbrev Here : State → Type 0
  Here st = Behind site.own.vars indices first st

  assigned_stays : (x : ℕ) (e : core.Expr) (st : State) → Here st → Stays Here (assigned site x e st)
  unfolding assigned
  assigned_stays x e st b =
      then_answers (operand site e st) _ (operand_stays site closed e st (typed_of site.own.vars indices first st b))
      (λ r h. given_stays site.own.vars indices first x r.0 r.1 h.1 (behind_on site.own.vars indices first st r.1 b h.0))

  tuple_stays : (t : Ty) → Stays Anything (as_tuple t)
  tuple_stays (ty.Int e) = record { is = tt }
  tuple_stays ty.Bool = record { is = tt }
  tuple_stays (ty.Array element e) = record { is = tt }
  tuple_stays (ty.Named number) = record { is = tt }

  split_stays : (xs : List ℕ) (e : core.Expr) (st : State) → Here st → Stays Here (split site xs e st)
  unfolding split
  split_stays xs e st b =
      then_answers (operand site e st) _ (operand_stays site closed e st (typed_of site.own.vars indices first st b))
      (λ r h. let one = behind_on site.own.vars indices first st r.1 b h.0 in
      then_answers (as_tuple r.0) _ (tuple_stays r.0)
      (λ n u. then_answers (types_by site None (Untuple n (length xs)) (r.0 ∷ []) r.1) _
      (types_by_stays site closed None (Untuple n (length xs)) (r.0 ∷ []) r.1 one.own_vars (one_below r.1.ctx.vars r.0 h.1))
      (λ o g. all_given_stays site.own.vars indices first o.1.ctx.vars xs o.0 o.1 refl g.1 (behind_on site.own.vars indices first r.1 o.1 one g.0))))

  store_stays : (array index value : core.Expr) (at : ℕ) (st : State) → Here st → Stays Here (store site array index value at st)
  unfolding store
  store_stays array index value at st b =
      let own = site.own.vars in
      then_answers (operand site array st) _ (operand_stays site closed array st (typed_of own indices first st b))
      (λ p h. let one = behind_on own indices first st p.1 b h.0 in
      then_answers (operand site index p.1) _ (operand_stays site closed index p.1 (typed_of own indices first p.1 one))
      (λ q g. let two = behind_on own indices first p.1 q.1 one g.0 in
      then_answers (operand site value q.1) _ (operand_stays site closed value q.1 (typed_of own indices first q.1 two))
      (λ r f. let three = behind_on own indices first q.1 r.1 two f.0 in
      let le = f.0.vars in
      let before = g.0.vars in
      weaker (state_by site (Some at) Store (p.0 ∷ q.0 ∷ r.0 ∷ []) r.1) (λ more went. behind_on own indices first r.1 more three went)
      (state_by_stays site closed (Some at) Store (p.0 ∷ q.0 ∷ r.0 ∷ []) r.1 three.own_vars
      (three_below r.1.ctx.vars p.0 q.0 r.0 (type-more p.1.ctx.vars r.1.ctx.vars p.0 (omega (arith, le, before)) h.1) (type-more q.1.ctx.vars r.1.ctx.vars q.0 le g.1) f.1)))))

  done_stays : (call : core.Expr) (st : State) → Here st → Stays Here (done site call st)
  unfolding done
  done_stays call st b =
      then_answers (operand site call st) _ (operand_stays site closed call st (typed_of site.own.vars indices first st b))
      (λ r h. record { is = behind_on site.own.vars indices first st r.1 b h.0 })

  printed_stays : (e : core.Expr) (st : State) → Here st → Stays Here (printed site e st)
  unfolding printed
  printed_stays e st b =
      then_answers (operand site e st) _ (operand_stays site closed e st (typed_of site.own.vars indices first st b))
      (λ r h. let one = behind_on site.own.vars indices first st r.1 b h.0 in
      weaker (state_by site None Print (r.0 ∷ []) r.1) (λ more went. behind_on site.own.vars indices first r.1 more one went)
      (state_by_stays site closed None Print (r.0 ∷ []) r.1 one.own_vars (one_below r.1.ctx.vars r.0 h.1)))

  returned_stays : (at : ℕ) (t : Ty) (st : State) → Here st → TypeBelow st.ctx.vars t → Stays Here (state_by site (Some at) Return (t ∷ []) st)
  returned_stays at t st b named =
      weaker (state_by site (Some at) Return (t ∷ []) st) (λ more went. behind_on site.own.vars indices first st more b went)
      (state_by_stays site closed (Some at) Return (t ∷ []) st b.own_vars (one_below st.ctx.vars t named))

  returning_stays : (value : Option core.Expr) (at : ℕ) (st : State) → Here st → Stays Here (returning site value at st)
  unfolding returning
  returning_stays None at st b = returned_stays at (ty.Int zero_form) st b (below-zero st.ctx.vars)
  returning_stays (Some e) at st b =
      then_answers (operand site e st) _ (operand_stays site closed e st (typed_of site.own.vars indices first st b))
      (λ r h. returned_stays at r.0 r.1 (behind_on site.own.vars indices first st r.1 b h.0) h.1)

-- ---- where branches meet

module _ (site : Site) (indices first : ℕ) (clause : Clause) (next : IsNext indices clause) where
  abbrev Met : State → Type 0
  Met st = Behind site.own.vars (indices + clause.quant.count) first st

  meeting_stays : (at : ℕ) (changed : ℕ → Truth) (before : StateType) (ends : Branches) (latest : State) → All (EntryBelow latest.ctx.vars) before.places
      → Behind site.own.vars indices first latest → Stays Met (meeting site at clause changed before ends latest)
  unfolding meeting
  meeting_stays at changed before ends latest below b =
      let all = indices + clause.quant.count in
      then_answers (joined site clause changed before latest) _ (joined_stays site.own.vars indices first clause next latest b site changed before refl below)
      (λ j h. then_answers (entered_if ends.one_completes site at j.0 ends.one j.1) _ (entered_if_stays ends.one_completes site at j.0 ends.one j.1)
      (λ one g. weaker (entered_if ends.two_completes site at j.0 ends.two one)
      (λ more f. behind_on site.own.vars all first one more (behind_on site.own.vars all first j.1 one h g) f)
      (entered_if_stays ends.two_completes site at j.0 ends.two one)))

-- the state behind a clause that has no index variables
none_more : (own indices first : ℕ) (st : State) → Behind own indices first st → Behind own (indices + 0) first st
none_more own indices first st b = (let same : indices ≡ indices + 0 = omega arith in subst (λ n. Behind own n first st) same b)

more_indices : (own indices more first : ℕ) (st : State) → indices ≤ more → Behind own indices first st → Behind own more first st
more_indices own indices more first st le b =
    record { vars = b.vars; own_vars = b.own_vars; types = b.types; naming = b.naming; rises = b.rises; less = less_still st.naming b.less }
  where
    less_still : (vs : List (ℕ × Linear)) → AllByRecursion (λ v. v.0 < indices) vs → AllByRecursion (λ v. v.0 < more) vs
    less_still [] all = tt
    less_still (v ∷ vs) all = ((let h : v.0 < indices = all.0 in omega (arith, le, h)), less_still vs all.1)

after_stays : (one_completes two_completes : Truth) (join : Option Clause) (site : Site) (at indices first : ℕ) (changed : ℕ → Truth) (before one : StateType) (two : State)
    → IsNext indices (stated join) → All (EntryBelow two.ctx.vars) before.places → All (EntryBelow two.ctx.vars) one.places → Behind site.own.vars indices first two
    → Stays (Behind site.own.vars (indices + (stated join).quant.count) first) (after_branches one_completes two_completes join site at changed before one two)
unfolding after_branches
after_stays false false join site at indices first changed before one two next below ends b =
    record {
      is = more_indices site.own.vars indices (indices + (stated join).quant.count) first (resuming before.ctx.rows before.places two) (omega arith)
          (behind_with site.own.vars indices first two before.ctx.rows before.places b below);
    }
after_stays true false None site at indices first changed before one two next below ends b =
    let types = still_visible before.places one.places in
    record {
      is = none_more site.own.vars indices first (noting_state one.ctx.rows (resuming one.ctx.rows types two))
          (behind_noted site.own.vars indices first (resuming one.ctx.rows types two) one.ctx.rows
          (behind_with site.own.vars indices first two one.ctx.rows types b (still_below two.ctx.vars before.places one.places below ends)));
    }
after_stays false true None site at indices first changed before one two next below ends b =
    let types = still_visible before.places two.types in
    record {
      is = none_more site.own.vars indices first (noting_state two.ctx.rows (resuming two.ctx.rows types two))
          (behind_noted site.own.vars indices first (resuming two.ctx.rows types two) two.ctx.rows
          (behind_with site.own.vars indices first two two.ctx.rows types b (still_below two.ctx.vars before.places two.types below b.types)));
    }
after_stays p q join site at indices first changed before one two next below ends b =
    meeting_stays site indices first (stated join) next at changed before (record { one = one; two = point two; one_completes = p; two_completes = q }) two below b

-- ---- statements and blocks

module _ (set : Setting) (site : Site) (closed : All IsClosed site.table) where
  abbrev Reaches : Point → (first : ℕ) → State → Type 0
  Reaches p first st = Behind site.own.vars p.indices first st

  -- behind a statement that has no clause
  same_point : (before after : Point) (first : ℕ) (m : Walk State) → after.indices ≡ before.indices → Stays (Reaches before first) m → Stays (Reaches after first) m
  same_point before after first m e h = subst (λ n. Stays (Behind site.own.vars n first) m) (sym e) h

  target_indices : (before : Point) (x : ℕ) (after : Point) → IsTarget before x after → after.indices ≡ before.indices
  target_indices before x after (inl t) = ap (λ p. p.indices) t.1
  target_indices before x after (inr t) = ap (λ p. p.indices) t.1

  mutual
    unfolding statement AreStatements

    pub statement_stays : (s : core.Stmt) (before after : Point) (first : ℕ) (st : State) → IsStatement set before s after → Reaches before first st
        → Stays (Reaches after first) (statement site s st)
    statement_stays (core.Set x e) before after first st is b =
        same_point before after first (assigned site x e st) (target_indices before x after is.4) (assigned_stays site closed before.indices first x e st b)
    statement_stays (core.Split xs e at) before after first st is b =
        same_point before after first (split site xs e st) (ap (λ p. p.indices) is.4.behind) (split_stays site closed before.indices first xs e st b)
    statement_stays (core.Store array index e at) before after first st is b =
        same_point before after first (store site array index e at st) (ap (λ p. p.indices) is.6) (store_stays site closed before.indices first array index e at st b)
    statement_stays (core.Do call) before after first st is b =
        same_point before after first (done site call st) (ap (λ p. p.indices) is.3) (done_stays site closed before.indices first call st b)
    statement_stays (core.Print e) before after first st is b =
        same_point before after first (printed site e st) (ap (λ p. p.indices) is.1) (printed_stays site closed before.indices first e st b)
    statement_stays (core.If test on_true on_false join at) before after first st is b =
        let own = site.own.vars in
        let changed : ℕ → Truth = λ x. changes_any on_true x || changes_any on_false x in
        let behind = behind_block before is.1 in
        then_answers (tested site test st) _ (tested_stays site closed test st (typed_of own before.indices first st b))
        (λ sides g. let side = on_side sides.on_true sides.after in
        let begun : Behind own before.indices sides.after.ctx.vars side =
        behind_here own before.indices first side (behind_with own before.indices first sides.after sides.on_true sides.after.types (behind_on own before.indices first st sides.after b g) (typed_on own st sides.after g (typed_of own before.indices first st b)).types) in
        then_answers (block site on_true side) _ (block_stays on_true before is.0 sides.after.ctx.vars side is.3 begun)
        (λ one k. let least = g.vars in
        let later = k.vars in
        let known : All (EntryBelow one.ctx.vars) st.types = types_more st.ctx.vars one.ctx.vars st.types (omega (arith, least, later)) b.types in
        let other = other_branch sides.on_false st one in
        let begun_other : Behind own is.0.indices one.ctx.vars other =
        behind_noted own is.0.indices one.ctx.vars (resuming sides.on_false st.types one) sides.on_false
        (behind_with own is.0.indices one.ctx.vars one sides.on_false st.types (behind_here own is.0.indices sides.after.ctx.vars one k) known) in
        then_answers (block site on_false other) _ (block_stays on_false (behind_block before is.0) is.1 one.ctx.vars other is.4 begun_other)
        (λ two l. let last = l.vars in
        let start = b.vars in
        weaker (after_branches (completes_all on_true) (completes_all on_false) join site at changed (point st) (point one) two)
        (λ more m. subst (λ n. Behind own n first more) (sym (clause_indices set behind join after is.5)) m)
        (after_stays (completes_all on_true) (completes_all on_false) join site at is.1.indices first changed (point st) (point one) two (clause_next set behind join after is.5)
        (types_more one.ctx.vars two.ctx.vars st.types last known) (types_more one.ctx.vars two.ctx.vars one.types last k.types)
        (behind_first own is.1.indices first one.ctx.vars two (omega (arith, start, least, later)) l)))))
    statement_stays (core.While test head body at) before after first st is b =
        let own = site.own.vars in
        let here = is.0.indices in
        let counted = clause_indices set before head is.0 is.3 in
        then_answers (joined site (stated head) (changes_any body) (point st) st) _
        (joined_stays own before.indices first (stated head) (clause_next set before head is.0 is.3) st b site (changes_any body) (point st) refl b.types)
        (λ j h. let start : Behind own here first j.1 = subst (λ n. Behind own n first j.1) (sym counted) h in
        then_answers (entered site at j.0 (point st) j.1) _ (entered_stays site at j.0 (point st) j.1)
        (λ begun g. let entry = behind_on own here first j.1 begun start g in
        then_answers (tested site test begun) _ (tested_stays site closed test begun (typed_of own here first begun entry))
        (λ sides k. let side = on_side sides.on_true sides.after in
        let inside : Behind own here sides.after.ctx.vars side =
        behind_here own here first side (behind_with own here first sides.after sides.on_true sides.after.types (behind_on own here first begun sides.after entry k) (typed_on own begun sides.after k (typed_of own here first begun entry)).types) in
        then_answers (block site body side) _ (block_stays body is.0 is.1 sides.after.ctx.vars side is.4 inside)
        (λ turn l. then_answers (entered_if (completes_all body) site at j.0 (point turn) turn) _ (entered_if_stays (completes_all body) site at j.0 (point turn) turn)
        (λ back m. let a = g.vars in
        let c = k.vars in
        let d = l.vars in
        let f = m.vars in
        let z = start.vars in
        let ended : Behind own is.1.indices first back = behind_first own is.1.indices first sides.after.ctx.vars back (omega (arith, a, c, z)) (behind_on own is.1.indices sides.after.ctx.vars turn back l m) in
        let types : All (EntryBelow back.ctx.vars) j.1.types = types_more j.1.ctx.vars back.ctx.vars j.1.types (omega (arith, a, c, d, f)) start.types in
        record {
          is = subst (λ n. Behind own n first (noting_state sides.on_false (resuming sides.on_false j.1.types back))) (sym (ap (λ p. p.indices) is.5))
              (behind_noted own is.1.indices first (resuming sides.on_false j.1.types back) sides.on_false
              (behind_with own is.1.indices first back sides.on_false j.1.types ended types));
        })))))
    statement_stays (core.Return value at) before after first st is b =
        same_point before after first (returning site value at st) (ap (λ p. p.indices) is.1) (returning_stays site closed before.indices first value at st b)

    pub block_stays : (ss : core.Stmts) (before after : Point) (first : ℕ) (st : State) → AreStatements set before ss after → Reaches before first st
        → Stays (Reaches after first) (block site ss st)
    block_stays core.NoStmt before after first st are b = record { is = subst (λ n. Behind site.own.vars n first st) (sym (ap (λ p. p.indices) are)) b }
    block_stays (core.AStmt s ss) before after first st are b =
        then_answers (statement site s st) _ (statement_stays s before are.0 first st are.1 b) (λ more k. block_stays ss are.0 after first more are.3 k)
