-- Jumps and branches: a comparison or a truth value decides, and the code goes to its aim or on.
use Rattle.std.proofs.Common.{◌≡◌, ◌∙◌, ℕ, suc, ℤ, List, [], ◌∷◌, slice_get, Bool as Flag, true, false, not, cond, Option, Some, None, Ok, refl, sym, ap, subst, arith}
use Rattle.std.specs.Prelude.{int_lt, int_le}
use Rattle.std.specs.Ordering.{int_eq}
use Rattle.std.proofs.lemmas.Int.{ints}
use Rattle.xan_seq.specs.Answers.{◌>>=◌}
use Rattle.operation_rules.specs.Effects.{Takes, effect, truth_word, compares}
use Rattle.operation_rules.specs.FlatWords.{Flat, flat_words}
use Rattle.operation_rules.specs.declared.operation.Operation.{Operation}
use Rattle.operation_rules.specs.declared.operation.Operation.TheVariants as operation
use Rattle.three_address.specs.Instructions.{instruction_of}
use Rattle.three_address.specs.Machine.{On, words_in, jumps, acts}
use Rattle.three_address.specs.declared.function.LowFun.{LowFun}
use Rattle.three_address.specs.declared.instruction.LowInstr.{LowInstr}
use Rattle.three_address.specs.declared.instruction.Op22.TheVariants as op22
use Rattle.xanadu_tree.specs.declared.expr.Rel.{Rel}
use Rattle.xanadu_tree.specs.declared.expr.Rel.TheVariants as rel
use Rattle.typed_core.specs.SourceOperands.{value_by, related}
use Rattle.typed_core.specs.SourceRuns.{Run, Answer, Env, stuck}
use Rattle.typed_core.specs.SourceTests.{decided, decided_if}
use Rattle.typed_core.specs.SourceValues.{Number, Truth, Value, words_of, have_tags}
use Rattle.lowering.specs.Lowered.{leads}
use Rattle.value_lowering.specs.OneInstruction.{Aim, opposite, that_is, branch, truth_branch, truth_op, jump, in_order, comparison}
use Rattle.lowering_simulation.proofs.CodeStands.{IsCode, Here, act_at, state_at, config, instruction_acts}
use Rattle.lowering_simulation.proofs.InstructionForms.{form, jump_form, truth_branch_form}
use Rattle.lowering_simulation.proofs.RunsAhead.{Config, Comes, Arrives, arrives_there, arrives_stuck}
use Rattle.lowering_simulation.proofs.StepsMade.{comes_quiet, comes_free}
use Rattle.lowering_simulation.proofs.StoresHold.{StoreHolds, PlacesHold, sizes}
use Rattle.lowering_simulation.proofs.TagsAsked.{tags_asked, number_word, truth_of}

-- ---- where it goes

-- to another position where what is asked is so, and else on
abbrev pub goes_to : (on truth : Flag) → (to past : ℕ) → ℕ
goes_to true true to past = to
goes_to true false to past = past
goes_to false true to past = past
goes_to false false to past = to

pub goes_turned : (on truth : Flag) (to past : ℕ) → goes_to (not on) truth to past ≡ goes_to on (not truth) to past
goes_turned true true to past = refl
goes_turned true false to past = refl
goes_turned false true to past = refl
goes_turned false false to past = refl

-- ---- comparisons

abbrev pub rel_holds : Rel → ℤ → ℤ → Flag
rel_holds rel.Lt a b = compares 0 a b
rel_holds rel.Le a b = compares 1 a b
rel_holds rel.Gt a b = compares 0 b a
rel_holds rel.Ge a b = compares 1 b a
rel_holds rel.Eq a b = compares 2 a b
rel_holds rel.Ne a b = compares 3 a b

less_or_not : (a b : ℤ) (t u : Flag) → int_lt a b ≡ t → int_le b a ≡ u → u ≡ not t
less_or_not a b true true e f = absurd (omega (arith, ints))
less_or_not a b true false e f = refl
less_or_not a b false true e f = refl
less_or_not a b false false e f = absurd (omega (arith, ints))

not_twice : (t : Flag) → t ≡ not (not t)
not_twice true = refl
not_twice false = refl

opposite_holds : (r : Rel) (a b : ℤ) → rel_holds (opposite r) a b ≡ not (rel_holds r a b)
opposite_holds rel.Lt a b = less_or_not a b (int_lt a b) (int_le b a) refl refl
opposite_holds rel.Le a b = not_twice (int_lt b a) ∙ ap not (sym (less_or_not b a (int_lt b a) (int_le a b) refl refl))
opposite_holds rel.Gt a b = less_or_not b a (int_lt b a) (int_le a b) refl refl
opposite_holds rel.Ge a b = not_twice (int_lt a b) ∙ ap not (sym (less_or_not a b (int_lt a b) (int_le b a) refl refl))
opposite_holds rel.Eq a b = refl
opposite_holds rel.Ne a b = not_twice (int_eq a b)

taken_where : (t : Flag) (to past : ℕ) → cond t to past ≡ goes_to true t to past
taken_where true to past = refl
taken_where false to past = refl

not_taken_where : (t : Flag) (to past : ℕ) → cond (not t) to past ≡ goes_to false t to past
not_taken_where true to past = refl
not_taken_where false to past = refl

aimed : (on : Flag) (r : Rel) (a b : ℤ) (to past : ℕ) → cond (rel_holds (that_is on r) a b) to past ≡ goes_to on (rel_holds r a b) to past
aimed true r a b to past = taken_where (rel_holds r a b) to past
aimed false r a b to past = ap (λ t. cond t to past) (opposite_holds r a b) ∙ not_taken_where (rel_holds r a b) to past

-- a truth value is what is asked
same_truth : (b on : Flag) (to past : ℕ) → cond (int_eq (truth_word b) (truth_word on)) to past ≡ goes_to on b to past
same_truth true true to past = refl
same_truth true false to past = refl
same_truth false true to past = refl
same_truth false false to past = refl

module _ (funs : List LowFun) (here : Here) (code : List LowInstr) (is : IsCode funs here.fun code) (printed : List ℤ) (flat : Flat) (at : ℕ) (regs : List ℤ) where
  takes : (taken : Flag) (label : Option ℕ) (to : ℕ) → label ≡ Some to
      → acts funs (state_at here flat at regs) (act_at here at regs) here.callers [] label (Takes taken) ≡ On None (state_at here flat (cond taken to (suc at)) regs)
  takes true label to e = ap (λ l. jumps (state_at here flat at regs) (act_at here at regs) here.callers l) e
  takes false label to e = refl

  -- one step to a position or on
  pub takes_comes : (n : ℕ) (i : LowInstr) (o : Operation) (reads : List ℕ) (words : List ℤ) (taken : Flag) → slice_get code at ≡ Some i → instruction_of i ≡ form o [] reads
      → words_in regs reads ≡ Some words → effect flat_words o words flat ≡ Takes taken → leads i.op ≡ true
      → Comes funs (suc n) n (config here printed flat at regs) (config here printed flat (cond taken i.target (suc at)) regs)
  takes_comes n i o reads words taken there is_form have does leading =
      let act = instruction_acts funs here code is flat at regs i o [] reads words there is_form have in
      comes_quiet funs n (config here printed flat at regs) _
      (act.step ∙ ap (acts funs (state_at here flat at regs) (act_at here at regs) here.callers [] act.label) does ∙ takes taken act.label i.target (act.to leading))

  pub jump_comes : (n to : ℕ) → slice_get code at ≡ Some (jump to)
      → Comes funs (suc n) n (config here printed flat at regs) (config here printed flat to regs)
  unfolding words_in
  jump_comes n to there = takes_comes n (jump to) operation.Jump [] [] true there (jump_form to) refl refl refl

-- ---- tests

module _ {L : Type 0} (here : Here) (base : List ℕ) (limit : ℕ) where
  -- the code is where the test leads, and the variables have their words
  pub record Tested (env : Env) (aim : Aim) (past : ℕ) (truth : Flag) (st : Run L) (c : Config) : Type 0 where
    pub flat : Flat
    pub regs : List ℤ
    pub is : c ≡ config here st.printed flat (goes_to aim.on truth aim.to past) regs
    pub store : StoreHolds base limit st flat
    pub places : PlacesHold (sizes st) env regs

module _ {L : Type 0} (funs : List LowFun) (here : Here) (code : List LowInstr) (is : IsCode funs here.fun code) (base : List ℕ) (limit : ℕ) where
  module _ (env : Env) (st : Run L) (flat : Flat) (at : ℕ) (regs : List ℤ) (store : StoreHolds base limit st flat) (places : PlacesHold (sizes st) env regs) where
    -- the branch has decided
    decides : (aim : Aim) (truth taken : Flag) → cond taken aim.to (suc at) ≡ goes_to aim.on truth aim.to (suc at)
        → Comes funs (suc st.units) st.units (config here st.printed flat at regs) (config here st.printed flat (cond taken aim.to (suc at)) regs)
        → Arrives funs st.units (config here st.printed flat at regs) (Tested here base limit env aim (suc at)) (Ok (truth, st))
    decides aim truth taken same comes =
        arrives_there funs st.units _ _ truth st (config here st.printed flat (cond taken aim.to (suc at)) regs)
        (comes_free funs st.units _ _ comes)
        (record { flat = flat; regs = regs; is = ap (λ k. config here st.printed flat k regs) same; store = store; places = places })

    -- ---- a comparison

    module _ (whole : Env) (hold : PlacesHold (sizes st) whole regs) (aim : Aim) (r : Rel) (left right : ℕ) (x y : Value) (there : slice_get code at ≡ Some (branch aim r left right))
        (one : slice_get whole left ≡ Some (Some x)) (two : slice_get whole right ≡ Some (Some y)) where
      -- its two words, which are the numbers
      branch_comes : (v w : ℤ) → slice_get regs left ≡ Some v → slice_get regs right ≡ Some w
          → Comes funs (suc st.units) st.units (config here st.printed flat at regs)
          (config here st.printed flat (cond (rel_holds (that_is aim.on r) v w) aim.to (suc at)) regs)
      unfolding instruction_of words_in
      branch_comes v w e f = by (that_is aim.on r) there
        where
          in_turn : (a b : ℕ) (p q : ℤ) → slice_get regs a ≡ Some p → slice_get regs b ≡ Some q → words_in regs (a ∷ b ∷ []) ≡ Some (p ∷ q ∷ [])
          in_turn a b p q g h = rw g (rw h refl)

          by : (s : Rel) → slice_get code at ≡ Some (record { op = op22.Br; places = in_order s left right; number = comparison s; target = aim.to })
              → Comes funs (suc st.units) st.units (config here st.printed flat at regs) (config here st.printed flat (cond (rel_holds s v w) aim.to (suc at)) regs)
          by rel.Lt e_there = takes_comes funs here code is st.printed flat at regs st.units _ (operation.Branch 0) _ (v ∷ w ∷ []) _ e_there refl (in_turn left right v w e f) refl refl
          by rel.Le e_there = takes_comes funs here code is st.printed flat at regs st.units _ (operation.Branch 1) _ (v ∷ w ∷ []) _ e_there refl (in_turn left right v w e f) refl refl
          by rel.Gt e_there = takes_comes funs here code is st.printed flat at regs st.units _ (operation.Branch 0) _ (w ∷ v ∷ []) _ e_there refl (in_turn right left w v f e) refl refl
          by rel.Ge e_there = takes_comes funs here code is st.printed flat at regs st.units _ (operation.Branch 1) _ (w ∷ v ∷ []) _ e_there refl (in_turn right left w v f e) refl refl
          by rel.Eq e_there = takes_comes funs here code is st.printed flat at regs st.units _ (operation.Branch 2) _ (v ∷ w ∷ []) _ e_there refl (in_turn left right v w e f) refl refl
          by rel.Ne e_there = takes_comes funs here code is st.printed flat at regs st.units _ (operation.Branch 3) _ (v ∷ w ∷ []) _ e_there refl (in_turn left right v w e f) refl refl

      -- the comparison as a value, and then what it decides
      decided_truth : (b : Flag) → decided (record { tag = Truth; word = truth_word b }) st ≡ Ok (b, st)
      unfolding decided have_tags words_of
      decided_truth true = refl
      decided_truth false = refl

      numbers_decide : have_tags (x ∷ y ∷ []) (Number ∷ Number ∷ []) ≡ true
          → Arrives funs st.units (config here st.printed flat at regs) (Tested here base limit env aim (suc at)) (decided (record { tag = Truth; word = truth_word (rel_holds r x.word y.word) }) st)
      numbers_decide fit =
          let tags = tags_asked x (y ∷ []) Number (Number ∷ []) fit in
          let v = hold.by left x one in
          let w = hold.by right y two in
          let same_v = number_word (sizes st) x v.word v.fits tags.0 in
          let same_w = number_word (sizes st) y w.word w.fits (tags_asked y [] Number [] tags.1).0 in
          subst (λ answer. Arrives funs st.units (config here st.printed flat at regs) (Tested here base limit env aim (suc at)) answer) (sym (decided_truth (rel_holds r x.word y.word)))
          (decides aim (rel_holds r x.word y.word) (rel_holds (that_is aim.on r) x.word y.word) (aimed aim.on r x.word y.word aim.to (suc at))
          (branch_comes x.word y.word (v.there ∙ ap (λ n. let o : Option ℤ = Some n in o) same_v) (w.there ∙ ap (λ n. let o : Option ℤ = Some n in o) same_w)))

      asks : (fit : Flag) (tag_fit : fit ≡ true → have_tags (x ∷ y ∷ []) (Number ∷ Number ∷ []) ≡ true) (answer : Answer L Value)
          → (fit ≡ true → answer ≡ Ok (record { tag = Truth; word = truth_word (rel_holds r x.word y.word) }, st)) → (fit ≡ false → answer ≡ stuck st)
          → Arrives funs st.units (config here st.printed flat at regs) (Tested here base limit env aim (suc at)) (answer >>= λ done. decided done.0 done.1)
      asks true fits answer yes_is no_is =
          subst (λ a. Arrives funs st.units (config here st.printed flat at regs) (Tested here base limit env aim (suc at)) (a >>= λ done. decided done.0 done.1)) (sym (yes_is refl)) (numbers_decide (fits refl))
      asks false fits answer yes_is no_is =
          subst (λ a. Arrives funs st.units (config here st.printed flat at regs) (Tested here base limit env aim (suc at)) (a >>= λ done. decided done.0 done.1)) (sym (no_is refl))
          (arrives_stuck funs st.units _ _ st)

    -- the tags of two numbers, in the other order
    swapped : (x y : Value) → have_tags (y ∷ x ∷ []) (Number ∷ Number ∷ []) ≡ true → have_tags (x ∷ y ∷ []) (Number ∷ Number ∷ []) ≡ true
    unfolding have_tags
    swapped x y e =
        let tags = tags_asked y (x ∷ []) Number (Number ∷ []) e in
        let second = tags_asked x [] Number [] tags.1 in
        rw second.0 (rw tags.0 refl)

    pub compared_branch : (whole : Env) (hold : PlacesHold (sizes st) whole regs) (aim : Aim) (r : Rel) (left right : ℕ) (x y : Value) → slice_get code at ≡ Some (branch aim r left right)
        → slice_get whole left ≡ Some (Some x) → slice_get whole right ≡ Some (Some y)
        → Arrives funs st.units (config here st.printed flat at regs) (Tested here base limit env aim (suc at)) (related r x y st >>= λ done. decided done.0 done.1)
    unfolding value_by words_of
    compared_branch whole hold aim rel.Lt left right x y there one two =
        asks whole hold aim rel.Lt left right x y there one two (have_tags (x ∷ y ∷ []) (Number ∷ Number ∷ [])) (λ e. e) (related rel.Lt x y st) (λ e. rw e refl) (λ e. rw e refl)
    compared_branch whole hold aim rel.Le left right x y there one two =
        asks whole hold aim rel.Le left right x y there one two (have_tags (x ∷ y ∷ []) (Number ∷ Number ∷ [])) (λ e. e) (related rel.Le x y st) (λ e. rw e refl) (λ e. rw e refl)
    compared_branch whole hold aim rel.Gt left right x y there one two =
        asks whole hold aim rel.Gt left right x y there one two (have_tags (y ∷ x ∷ []) (Number ∷ Number ∷ [])) (swapped x y) (related rel.Gt x y st) (λ e. rw e refl) (λ e. rw e refl)
    compared_branch whole hold aim rel.Ge left right x y there one two =
        asks whole hold aim rel.Ge left right x y there one two (have_tags (y ∷ x ∷ []) (Number ∷ Number ∷ [])) (swapped x y) (related rel.Ge x y st) (λ e. rw e refl) (λ e. rw e refl)
    compared_branch whole hold aim rel.Eq left right x y there one two =
        asks whole hold aim rel.Eq left right x y there one two (have_tags (x ∷ y ∷ []) (Number ∷ Number ∷ [])) (λ e. e) (related rel.Eq x y st) (λ e. rw e refl) (λ e. rw e refl)
    compared_branch whole hold aim rel.Ne left right x y there one two =
        asks whole hold aim rel.Ne left right x y there one two (have_tags (x ∷ y ∷ []) (Number ∷ Number ∷ [])) (λ e. e) (related rel.Ne x y st) (λ e. rw e refl) (λ e. rw e refl)

    -- ---- a truth value

    module _ (whole : Env) (hold : PlacesHold (sizes st) whole regs) (aim : Aim) (place : ℕ) (x : Value) (there : slice_get code at ≡ Some (truth_branch aim place))
        (one : slice_get whole place ≡ Some (Some x)) where
      leads_truth : (on : Flag) → leads (truth_op on) ≡ true
      leads_truth true = refl
      leads_truth false = refl

      truth_comes : (b : Flag) (w : ℤ) → slice_get regs place ≡ Some w → w ≡ truth_word b
          → Comes funs (suc st.units) st.units (config here st.printed flat at regs)
          (config here st.printed flat (cond (int_eq (truth_word b) (truth_word aim.on)) aim.to (suc at)) regs)
      unfolding words_in
      truth_comes b w e same =
          let has : words_in regs (place ∷ []) ≡ Some (truth_word b ∷ []) = rw e (ap (λ n. let o : Option (List ℤ) = Some (n ∷ []) in o) same) in
          takes_comes funs here code is st.printed flat at regs st.units (truth_branch aim place) (operation.BranchTruth aim.on) (place ∷ []) (truth_word b ∷ [])
          (int_eq (truth_word b) (truth_word aim.on)) there (truth_branch_form aim aim.on place refl) has refl (leads_truth aim.on)

      truth_is : (b : Flag) → x.word ≡ truth_word b → decided_if true x st ≡ Ok (b, st)
      unfolding words_of
      truth_is true e = rw e refl
      truth_is false e = rw e refl

      by_tag : (fit : Flag) → have_tags (x ∷ []) (Truth ∷ []) ≡ fit → Arrives funs st.units (config here st.printed flat at regs) (Tested here base limit env aim (suc at)) (decided_if fit x st)
      by_tag false e = arrives_stuck funs st.units _ _ st
      by_tag true e =
          let w = hold.by place x one in
          let t = truth_of (sizes st) x w.word w.fits (tags_asked x [] Truth [] e).0 in
          subst (λ answer. Arrives funs st.units (config here st.printed flat at regs) (Tested here base limit env aim (suc at)) answer) (sym (truth_is t.truth t.is))
          (decides aim t.truth (int_eq (truth_word t.truth) (truth_word aim.on)) (same_truth t.truth aim.on aim.to (suc at)) (truth_comes t.truth w.word w.there t.same))

    pub truth_branched : (whole : Env) → PlacesHold (sizes st) whole regs → (aim : Aim) (place : ℕ) (x : Value) → slice_get code at ≡ Some (truth_branch aim place)
        → slice_get whole place ≡ Some (Some x) → Arrives funs st.units (config here st.printed flat at regs) (Tested here base limit env aim (suc at)) (decided x st)
    unfolding decided
    truth_branched whole hold aim place x there one = by_tag whole hold aim place x there one (have_tags (x ∷ []) (Truth ∷ [])) refl
