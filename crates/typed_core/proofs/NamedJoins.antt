-- Where control flow meets, nothing is a stray: the index variables of clauses rise as the text has them, and what is stated names variables
-- that are there.
use Rattle.std.proofs.Common.{◌≡◌, ◌≢◌, ℕ, zero, suc, ◌+◌, ◌≤◌, ◌<◌, ◌⊎◌, inl, inr, ℤ, pos, negsuc, List, [], ◌∷◌, ◌++◌, map, length, get_or, Bool as Truth, true, false, cond, Option, Some, None, Result, Ok, Err, refl, sym, ap, subst, arith}
use Rattle.std.specs.Prelude.{nat_le, ◌&&◌, not, nat_lt, ◌==◌}
use Rattle.std.specs.List.{All, AllByRecursion, list_all}
use Rattle.std.proofs.lemmas.Bool.{le-leb}
use Rattle.std.proofs.lemmas.List.{append-nil}
use Rattle.std.proofs.lemmas.List.Elements.{All-nil, All-cons, All-head, All-tail, All-push}
use Rattle.xan_lin.specs.Linear.{Linear, NamesBelow, variable_form}
use Rattle.xan_lin.specs.Subst.{VariablesRise, subst_of}
use Rattle.xan_lin.specs.declared.term.LimitKind.TheVariants as limit
use Rattle.xan_lin.specs.declared.term.TooLarge.{TooLarge}
use Rattle.xan_lin.proofs.Booleans.{both_true}
use Rattle.state_types.specs.Naming.{ValuesBelow}
use Rattle.state_types.specs.PlaceTypes.{type_at, with_type}
use Rattle.state_types.specs.Types.{TypeBelow, index_of, subst_ty}
use Rattle.state_types.specs.declared.state.StateType.{StateType}
use Rattle.state_types.specs.declared.types.Ty.{Ty}
use Rattle.state_types.specs.declared.types.Ty.TheVariants as ty
use Rattle.state_types.specs.Answers.{◌>>=◌}
use Rattle.state_types.proofs.Edges.{type_at-all}
use Rattle.state_types.proofs.FormNames.{below-variable, below-subst, below-more}
use Rattle.state_types.proofs.RowNames.{type-more, replaced-type}
use Rattle.operation_rules.specs.Forms.{variables_from}
use Rattle.operation_rules.proofs.RowsNamed.{values-both}
use Rattle.xanadu_tree.specs.declared.linear.Linear.{Linear as Exact}
use Rattle.xanadu_tree.specs.declared.stmt.Clause.{Clause}
use Rattle.xanadu_tree.specs.declared.types.CoreTy.{CoreTy}
use Rattle.xanadu_tree.specs.declared.types.CoreTy.TheVariants as core_ty
use Rattle.xanadu_tree.specs.declared.types.Packing.{Packing}
use Rattle.xanadu_tree.specs.BodyRules.{Point, IsType, IsStated, IsClauseIfAny}
use Rattle.xanadu_tree.specs.IndexRules.{Stretch, AreRising, IsForm, stretch_of}
use Rattle.xanadu_tree.specs.KindRules.{Setting}
use Rattle.typed_core.specs.Forms.{form_of, type_of, renamed, renamed_type}
use Rattle.typed_core.specs.Joins.{stated, with_index, Renewed, is_renewed, with_entry, few_places, renewed, renewing, naming_more, stating, stated_types, with_types, Joint, joined, present, within_bounds, index_at, values_at, met_there, entered, entered_if, type_or, still_visible}
use Rattle.typed_core.specs.Limits.{held, within, needed}
use Rattle.typed_core.specs.States.{Site, State, resuming, with_fresh, assuming, noting_state, there, matching}
use Rattle.typed_core.specs.Strays.{is_zero, terms_rise, form_rises, type_rises, clause_rises, values_rise, row_below}
use Rattle.typed_core.proofs.LimitedAnswers.{Answers, Anything, then_answers, weaker, any_answer}
use Rattle.typed_core.proofs.NamedStates.{Stays, Went, stood, Widens, types_more, known_answer, needed_stays, there_stays, held_stays, within_stays, form_test, fresh_stays, assuming_stays, matching_stays}

-- ---- terms

not_zero : (c : ℤ) → c ≢ pos 0 → not (is_zero c) ≡ true
not_zero (pos zero) h = absurd (h refl)
not_zero (pos (suc n)) h = refl
not_zero (negsuc n) h = refl

pub terms_test : (low : ℕ) (ts : List (ℤ × ℕ)) → AreRising low ts → terms_rise low ts ≡ true
unfolding terms_rise
terms_test low [] h = refl
terms_test low (t ∷ ts) h =
    both_true (nat_le low t.1) (not (is_zero t.0) && terms_rise (suc t.1) ts) (le-leb low t.1 h.0)
    (both_true (not (is_zero t.0)) (terms_rise (suc t.1) ts) (not_zero t.0 h.1) (terms_test (suc t.1) ts h.2))

pub type_rising : (types : List Packing) (reach : List Stretch) (t : CoreTy) → IsType types reach t → type_rises t ≡ true
type_rising types reach (core_ty.Int form) is = terms_test 0 form.terms is.rising
type_rising types reach core_ty.Bool is = refl
type_rising types reach (core_ty.Array element form) is = terms_test 0 form.terms is.1.rising
type_rising types reach (core_ty.Named number) is = refl

pub forms_rising : (reach : List Stretch) (forms : List Exact) → AllByRecursion (IsForm reach) forms → list_all form_rises forms ≡ true
forms_rising reach [] all = refl
forms_rising reach (f ∷ fs) all = both_true (form_rises f) (list_all form_rises fs) (terms_test 0 f.terms all.0.rising) (forms_rising reach fs all.1)

-- ---- clauses

-- the forms of a clause rise, and its index variables are the next ones, if it has any
pub record IsNext (indices : ℕ) (clause : Clause) : Type 0 where
  pub rises : clause_rises clause ≡ true
  pub next : (clause.first ≡ indices) ⊎ (clause.quant.count ≡ 0)

stated_rising : (set : Setting) (visible : List ℕ) (reach : List Stretch) (vars : List (ℕ × CoreTy)) → AllByRecursion (IsStated set visible reach) vars
    → list_all (λ s. type_rises s.1) vars ≡ true
stated_rising set visible reach [] all = refl
stated_rising set visible reach (s ∷ ss) all =
    both_true (type_rises s.1) (list_all (λ s. type_rises s.1) ss) (type_rising set.types reach s.1 all.0.2) (stated_rising set visible reach ss all.1)

pub clause_next : (set : Setting) (before : Point) (c : Option Clause) (after : Point) → IsClauseIfAny set before c after → IsNext before.indices (stated c)
clause_next set before None after is = record { rises = refl; next = inr refl }
clause_next set before (Some clause) after is =
    let reach = stretch_of clause.first clause.quant ∷ before.reach in
    record {
      rises = both_true (list_all form_rises clause.quant.rows) (list_all (λ s. type_rises s.1) clause.vars)
          (forms_rising reach clause.quant.rows is.0.quantified.forms) (stated_rising set before.visible reach clause.vars is.0.stated);
      next = inl is.0.first;
    }

pub clause_indices : (set : Setting) (before : Point) (c : Option Clause) (after : Point) → IsClauseIfAny set before c after
    → after.indices ≡ before.indices + (stated c).quant.count
clause_indices set before None after is = (let same : after.indices ≡ before.indices = ap (λ p. p.indices) is in omega (arith, same))
clause_indices set before (Some clause) after is = ap (λ p. p.indices) is.1

-- ---- what is known along statements

-- There are no fewer index variables than at first, and those of the function; types and names name such; and the index variables of clauses
-- that have names rise, and are less than the next one.
pub record Behind (own indices first : ℕ) (st : State) : Type 0 where
  pub vars : first ≤ st.ctx.vars
  pub own_vars : own ≤ st.ctx.vars
  pub types : All (λ e. TypeBelow st.ctx.vars e.1) st.types
  pub naming : ValuesBelow st.ctx.vars st.naming
  pub rises : VariablesRise 0 st.naming
  pub less : AllByRecursion (λ v. v.0 < indices) st.naming

pub values_more : (m n : ℕ) (values : List (ℕ × Linear)) → m ≤ n → ValuesBelow m values → ValuesBelow n values
values_more m n values le all = λ k d h. below-more m n (get_or values k d).1 le (all k d h)

-- ---- names

less_more : (m n : ℕ) (vs : List (ℕ × Linear)) → m ≤ n → AllByRecursion (λ v. v.0 < m) vs → AllByRecursion (λ v. v.0 < n) vs
less_more m n [] le all = tt
less_more m n (v ∷ vs) le all = ((let h : v.0 < m = all.0 in omega (arith, le, h)), less_more m n vs le all.1)

variables_less : (number first count : ℕ) → AllByRecursion (λ v. v.0 < number + count) (variables_from number first count)
unfolding variables_from
variables_less number first zero = tt
variables_less number first (suc count) = (
  omega arith,
  (let same : suc number + count ≡ number + suc count = omega arith in
      subst (λ n. AllByRecursion (λ v. v.0 < n) (variables_from (suc number) (suc first) count)) same (variables_less (suc number) (suc first) count)),
)

variables_rise : (low number first count : ℕ) → low ≤ number → VariablesRise low (variables_from number first count)
unfolding variables_from
variables_rise low number first zero le = tt
variables_rise low number first (suc count) le = (le, variables_rise (suc number) (suc number) (suc first) count (omega arith))

rise_behind : (low number first count : ℕ) (vs : List (ℕ × Linear)) → low ≤ number → VariablesRise low vs → AllByRecursion (λ v. v.0 < number) vs
    → VariablesRise low (vs ++ variables_from number first count)
rise_behind low number first count [] le r all = variables_rise low number first count le
rise_behind low number first count (v ∷ vs) le r all =
    (r.0, (let h : v.0 < number = all.0 in rise_behind (suc v.0) number first count vs (omega (arith, h)) r.1 all.1))

less_behind : (m n : ℕ) (vs more : List (ℕ × Linear)) → m ≤ n → AllByRecursion (λ v. v.0 < m) vs → AllByRecursion (λ v. v.0 < n) more
    → AllByRecursion (λ v. v.0 < n) (vs ++ more)
less_behind m n [] more le all others = others
less_behind m n (v ∷ vs) more le all others = ((let h : v.0 < m = all.0 in omega (arith, le, h)), less_behind m n vs more le all.1 others)

record Rises (indices : ℕ) (vs : List (ℕ × Linear)) : Type 0 where
  rises : VariablesRise 0 vs
  less : AllByRecursion (λ v. v.0 < indices) vs

-- the index variables of a clause come behind those of the clauses before it
next_rises : (indices number first count : ℕ) (vs : List (ℕ × Linear)) → (number ≡ indices) ⊎ (count ≡ 0) → Rises indices vs
    → Rises (indices + count) (vs ++ variables_from number first count)
unfolding variables_from
next_rises indices number first count vs (inl e) r =
    subst (λ n. Rises (indices + count) (vs ++ variables_from n first count)) (sym e) (record {
      rises = rise_behind 0 indices first count vs (omega arith) r.rises r.less;
      less = less_behind indices (indices + count) vs (variables_from indices first count) (omega arith) r.less (variables_less indices first count);
    })
next_rises indices number first count vs (inr e) r =
    subst (λ c. Rises (indices + c) (vs ++ variables_from number first c)) (sym e)
    (subst (λ all. Rises (indices + 0) all) (sym (append-nil vs)) (record { rises = r.rises; less = less_more indices (indices + 0) vs (omega arith) r.less }))

values_test : (low : ℕ) (vs : List (ℕ × Linear)) → VariablesRise low vs → values_rise low vs ≡ true
unfolding values_rise
values_test low [] h = refl
values_test low (v ∷ vs) h = both_true (nat_le low v.0) (values_rise (suc v.0) vs) (le-leb low v.0 h.0) (values_test (suc v.0) vs h.1)

-- ---- fresh indices

indexed_below : (n : ℕ) (t : Ty) (form : Linear) → NamesBelow n form → TypeBelow n (with_index t form)
indexed_below n (ty.Int e) form h = h
indexed_below n ty.Bool form h = tt
indexed_below n (ty.Array element e) form h = h
indexed_below n (ty.Named number) form h = tt

abbrev pub EntryBelow : ℕ → ℕ × Ty → Type 0
EntryBelow n e = TypeBelow n e.1

renewed_below : (changed : ℕ → Truth) (vars : List (ℕ × CoreTy)) (first : ℕ) (entries : List (ℕ × Ty)) (made : Renewed) → All (EntryBelow first) entries
    → All (EntryBelow (first + length made.others)) made.types
    → (let r = renewed changed vars first entries made in All (EntryBelow (first + length r.others)) r.types)
unfolding renewed
renewed_below changed vars first [] made all done = done
renewed_below changed vars first (e ∷ es) made all done =
    renewed_below changed vars first es (with_entry (is_renewed changed vars e) first e made) (All-tail (EntryBelow first) e es all)
    (entry_below (is_renewed changed vars e) (All-head (EntryBelow first) e es all))
  where
    length_more : (xs : List ℕ) (x : ℕ) → length (xs ++ x ∷ []) ≡ suc (length xs)
    length_more [] x = refl
    length_more (y ∷ ys) x = ap suc (length_more ys x)

    entry_below : (b : Truth) → EntryBelow first e → (let m = with_entry b first e made in All (EntryBelow (first + length m.others)) m.types)
    entry_below false h =
        All-push (EntryBelow (first + length made.others)) made.types e done (type-more first (first + length made.others) e.1 (omega arith) h)
    entry_below true h =
        let n = length made.others in
        let form = variable_form (first + n) in
        let grown : All (EntryBelow (first + suc n)) made.types = types_more (first + n) (first + suc n) made.types (omega arith) done in
        let one : EntryBelow (first + suc n) (e.0, with_index e.1 form) = indexed_below (first + suc n) e.1 form (below-variable (first + suc n) (first + n) (omega arith)) in
        subst (λ m. All (EntryBelow (first + m)) (made.types ++ (e.0, with_index e.1 form) ∷ [])) (sym (length_more made.others e.0))
        (All-push (EntryBelow (first + suc n)) made.types (e.0, with_index e.1 form) grown one)

few_places_stay : (entries : List (ℕ × Ty)) → Stays Anything (few_places entries)
unfolding few_places
few_places_stay [] = record { is = tt }
few_places_stay (e ∷ es) = then_answers (within limit.Places (suc e.0)) _ (within_stays limit.Places (suc e.0)) (λ few u. few_places_stay es)

record Renews (count : ℕ) (latest : State) (r : Renewed × State) : Type 0 where
  vars : latest.ctx.vars + count ≤ r.1.ctx.vars
  naming : r.1.naming ≡ latest.naming
  types : All (EntryBelow r.1.ctx.vars) r.0.types

renewing_stays : (clause : Clause) (changed : ℕ → Truth) (before : StateType) (latest : State) → All (EntryBelow latest.ctx.vars) before.places
    → Stays (Renews clause.quant.count latest) (renewing clause changed before latest)
unfolding renewing
renewing_stays clause changed before latest below =
    let from = latest.ctx.vars + clause.quant.count in
    let none : Renewed = record { types = []; others = [] } in
    let kept = renewed changed clause.vars from before.places none in
    let start = resuming before.ctx.rows before.places latest in
    let named = renewed_below changed clause.vars from before.places none (types_more latest.ctx.vars from before.places (omega arith) below) (All-nil (EntryBelow (from + 0))) in
    then_answers (few_places before.places) _ (few_places_stay before.places)
    (λ few u. then_answers (with_fresh (clause.quant.count + length kept.others) start) _ (fresh_stays (clause.quant.count + length kept.others) start)
    (λ fresh w. (let grown : fresh.ctx.vars ≡ latest.ctx.vars + (clause.quant.count + length kept.others) = w.vars in
    record {
      is = record {
        vars = omega (arith, grown);
        naming = w.naming;
        types = types_more (from + length kept.others) fresh.ctx.vars kept.types (omega (arith, grown)) named;
      };
    })))

-- ---- what a clause states

row_by : (n : ℕ) (r : Result Linear TooLarge) → ((form : Linear) → r ≡ Ok form → NamesBelow n form) → row_below n r ≡ true
row_by n (Ok form) h = form_test n form (h form refl)
row_by n (Err why) h = refl

renamed_below : (n own : ℕ) (naming : List (ℕ × Linear)) (form : Exact) → own ≤ n → ValuesBelow n naming → row_below n (renamed naming own form) ≡ true
unfolding renamed
renamed_below n own naming form le all = by_form (form_of form)
  where
    by_form : (r : Result Linear TooLarge) → row_below n (r >>= (λ exact. subst_of naming own exact)) ≡ true
    by_form (Ok exact) = row_by n (subst_of naming own exact) (λ f e. below-subst n own naming exact f le all e)
    by_form (Err why) = refl

rows_below : (n own : ℕ) (naming : List (ℕ × Linear)) (rows : List Exact) → own ≤ n → ValuesBelow n naming
    → list_all (row_below n) (map (renamed naming own) rows) ≡ true
rows_below n own naming [] le all = refl
rows_below n own naming (row ∷ rows) le all =
    both_true (row_below n (renamed naming own row)) (list_all (row_below n) (map (renamed naming own) rows)) (renamed_below n own naming row le all)
    (rows_below n own naming rows le all)

stating_stays : (own : ℕ) (clause : Clause) (st : State) → clause_rises clause ≡ true → own ≤ st.ctx.vars → ValuesBelow st.ctx.vars st.naming → VariablesRise 0 st.naming
    → Stays (λ r. Widens 0 st r.1) (stating st.naming own clause st)
unfolding stating
stating_stays own clause st rises le named rise =
    let rows = map (renamed st.naming own) clause.quant.rows in
    then_answers (held (values_rise 0 st.naming)) _ (held_stays (values_rise 0 st.naming) (values_test 0 st.naming rise))
    (λ a u. then_answers (held (clause_rises clause)) _ (held_stays (clause_rises clause) rises)
    (λ b v. then_answers (held (list_all (row_below st.ctx.vars) rows)) _ (held_stays (list_all (row_below st.ctx.vars) rows) (rows_below st.ctx.vars own st.naming clause.quant.rows le named))
    (λ c w. then_answers (assuming rows st) _ (assuming_stays rows st) (λ known h. record { is = h }))))

retyped_below : (n own : ℕ) (naming : List (ℕ × Linear)) (t : CoreTy) → own ≤ n → ValuesBelow n naming → Answers Anything (TypeBelow n) (renamed_type naming own t)
unfolding renamed_type
retyped_below n own naming t le all =
    then_answers (type_of t) _ (any_answer (type_of t))
    (λ u v. weaker (subst_ty naming own u) (λ given e. replaced-type n own naming u given le all e) (known_answer (subst_ty naming own u)))

stated_stay : (n own : ℕ) (naming : List (ℕ × Linear)) (vars : List (ℕ × CoreTy)) (made : List (ℕ × Ty)) → own ≤ n → ValuesBelow n naming → All (EntryBelow n) made
    → Stays (All (EntryBelow n)) (stated_types naming own vars made)
unfolding stated_types
stated_stay n own naming [] made le all done = record { is = done }
stated_stay n own naming (s ∷ ss) made le all done =
    then_answers (within limit.Places (suc s.0)) _ (within_stays limit.Places (suc s.0))
    (λ few u. then_answers (needed (renamed_type naming own s.1)) _ (needed_stays (renamed_type naming own s.1) (retyped_below n own naming s.1 le all))
    (λ it h. stated_stay n own naming ss (made ++ (s.0, it) ∷ []) le all (All-push (EntryBelow n) made (s.0, it) done h)))

chosen_all : {A : Type 0} (P : A → Type 0) (b : Truth) (xs ys : List A) → All P xs → All P ys → All P (cond b xs ys)
chosen_all P true xs ys h g = h
chosen_all P false xs ys h g = g

pub typed_with : (n x : ℕ) (t : Ty) (types : List (ℕ × Ty)) → TypeBelow n t → All (EntryBelow n) types → All (EntryBelow n) (with_type x t types)
typed_with n x t [] h all = All-cons (EntryBelow n) (x, t) [] h (All-nil (EntryBelow n))
typed_with n x t (e ∷ es) h all =
    let here = All-head (EntryBelow n) e es all in
    let later = All-tail (EntryBelow n) e es all in
    chosen_all (EntryBelow n) (nat_lt e.0 x) (e ∷ with_type x t es) _ (All-cons (EntryBelow n) e (with_type x t es) here (typed_with n x t es h later))
    (chosen_all (EntryBelow n) (e.0 == x) ((x, t) ∷ es) ((x, t) ∷ e ∷ es) (All-cons (EntryBelow n) (x, t) es h later) (All-cons (EntryBelow n) (x, t) (e ∷ es) h all))

all_typed_with : (n : ℕ) (wanted types : List (ℕ × Ty)) → All (EntryBelow n) wanted → All (EntryBelow n) types → All (EntryBelow n) (with_types wanted types)
unfolding with_types
all_typed_with n [] types all others = others
all_typed_with n (w ∷ ws) types all others =
    all_typed_with n ws (with_type w.0 w.1 types) (All-tail (EntryBelow n) w ws all) (typed_with n w.0 w.1 types (All-head (EntryBelow n) w ws all) others)

-- ---- the state

abbrev pub JoinsBehind : (own indices first : ℕ) → Joint × State → Type 0
JoinsBehind own indices first r = Behind own indices first r.1

module _ (own indices first : ℕ) (clause : Clause) (next : IsNext indices clause) (latest : State) (behind : Behind own indices first latest) where
  -- the clause's index variables are there and have names
  begun_behind : (r : Renewed × State) → Renews clause.quant.count latest r
      → (let begun = naming_more (variables_from clause.first latest.ctx.vars clause.quant.count) r.1 in
      ValuesBelow begun.ctx.vars begun.naming × Rises (indices + clause.quant.count) begun.naming)
  begun_behind r made =
      let count = clause.quant.count in
      let listed = variables_from clause.first latest.ctx.vars count in
      let grown : latest.ctx.vars + count ≤ r.1.ctx.vars = made.vars in
      let named : ValuesBelow r.1.ctx.vars latest.naming = values_more latest.ctx.vars r.1.ctx.vars latest.naming (omega (arith, grown)) behind.naming in
      let rise : Rises indices latest.naming = record { rises = behind.rises; less = behind.less } in (
        subst (λ vs. ValuesBelow r.1.ctx.vars (vs ++ listed)) (sym made.naming) (values-both r.1.ctx.vars latest.naming clause.first latest.ctx.vars count named grown),
        subst (λ vs. Rises (indices + count) (vs ++ listed)) (sym made.naming) (next_rises indices clause.first latest.ctx.vars count latest.naming next.next rise),
      )

  pub joined_stays : (site : Site) (changed : ℕ → Truth) (before : StateType) → site.own.vars ≡ own → All (EntryBelow latest.ctx.vars) before.places
      → Stays (JoinsBehind own (indices + clause.quant.count) first) (joined site clause changed before latest)
  unfolding joined noting_state
  joined_stays site changed before same below =
      then_answers (renewing clause changed before latest) _ (renewing_stays clause changed before latest below)
      (λ r made. let begun = naming_more (variables_from clause.first latest.ctx.vars clause.quant.count) r.1 in
      let names = begun_behind r made in
      let grown : latest.ctx.vars + clause.quant.count ≤ begun.ctx.vars = made.vars in
      let theirs = behind.own_vars in
      let le : site.own.vars ≤ begun.ctx.vars = omega (arith, same, theirs, grown) in
      then_answers (stating begun.naming site.own.vars clause begun) _ (stating_stays site.own.vars clause begun next.rises le names.0 names.1.rises)
      (λ s w. let known : ValuesBelow begun.ctx.vars s.1.naming = subst (λ vs. ValuesBelow begun.ctx.vars vs) (sym w.naming) names.0 in
      let kept : s.1.ctx.vars ≡ begun.ctx.vars + 0 = w.vars in
      let at : begun.ctx.vars ≤ s.1.ctx.vars = omega (arith, kept) in
      then_answers (stated_types s.1.naming site.own.vars clause.vars []) _ (stated_stay begun.ctx.vars site.own.vars s.1.naming clause.vars [] le known (All-nil (EntryBelow begun.ctx.vars)))
      (λ wanted h. let least = behind.vars in
      record {
        is = record {
          vars = omega (arith, least, grown, at);
          own_vars = omega (arith, theirs, grown, at);
          types = types_more begun.ctx.vars s.1.ctx.vars (with_types wanted r.0.types) at (all_typed_with begun.ctx.vars wanted r.0.types h made.types);
          naming = values_more begun.ctx.vars s.1.ctx.vars s.1.naming at known;
          rises = subst (λ vs. VariablesRise 0 vs) (sym w.naming) names.1.rises;
          less = subst (λ (vs : List (ℕ × Linear)). AllByRecursion (λ v. v.0 < indices + clause.quant.count) vs) (sym w.naming) names.1.less;
        };
      })))

-- ---- the ways into it

present_stays : (types ws : List (ℕ × Ty)) (made : List Ty) → Stays Anything (present types ws made)
unfolding present
present_stays types [] made = record { is = tt }
present_stays types (w ∷ ws) made =
    then_answers (there (type_at w.0 types)) _ (there_stays {P = Anything} (type_at w.0 types) (λ t e. tt)) (λ t u. present_stays types ws (made ++ t ∷ []))

index_stays : (types : List (ℕ × Ty)) (x : ℕ) → Stays Anything (index_at types x)
unfolding index_at
index_stays types x =
    then_answers (there (type_at x types)) _ (there_stays {P = Anything} (type_at x types) (λ t e. tt)) (λ t u. there_stays {P = Anything} (index_of t) (λ f e. tt))

values_stay : (types : List (ℕ × Ty)) (next : ℕ) (xs : List ℕ) (made : List (ℕ × Linear)) → Stays Anything (values_at types next xs made)
unfolding values_at
values_stay types next [] made = record { is = tt }
values_stay types next (x ∷ xs) made = then_answers (index_at types x) _ (index_stays types x) (λ form u. values_stay types (suc next) xs (made ++ (next, form) ∷ []))

bounded : (past : Option TooLarge) → Stays Anything (within_bounds past)
bounded None = record { is = tt }
bounded (Some why) = record { is = tt }

met_there_stays : (joint : Joint) (types : List (ℕ × Ty)) → Stays Anything (met_there joint types)
unfolding met_there
met_there_stays joint types =
    then_answers (present types joint.wanted []) _ (present_stays types joint.wanted [])
    (λ actual u. then_answers (matching joint.first (joint.first + joint.count) joint.rows (map (λ w. w.1) joint.wanted) actual) _
    (matching_stays joint.first (joint.first + joint.count) joint.rows (map (λ w. w.1) joint.wanted) actual) (λ found v. record { is = tt }))

pub entered_stays : (site : Site) (at : ℕ) (joint : Joint) (from : StateType) (st : State) → Stays (Went st) (entered site at joint from st)
unfolding entered
entered_stays site at joint from st =
    then_answers (met_there joint from.places) _ (met_there_stays joint from.places)
    (λ m u. then_answers (within_bounds joint.past) _ (bounded joint.past)
    (λ limit v. then_answers (values_at from.places (joint.first + joint.count) joint.others m.1.values) _
    (values_stay from.places (joint.first + joint.count) joint.others m.1.values)
    (λ values w. record { is = record { vars = omega arith; types = refl; naming = refl } })))

pub entered_if_stays : (completes : Truth) (site : Site) (at : ℕ) (joint : Joint) (from : StateType) (st : State) → Stays (Went st) (entered_if completes site at joint from st)
unfolding entered_if
entered_if_stays false site at joint from st = record { is = stood st }
entered_if_stays true site at joint from st = entered_stays site at joint from st

-- ---- a branch's end where there is nothing to meet

or_below : (n : ℕ) (t : Ty) (o : Option Ty) → TypeBelow n t → ((u : Ty) → o ≡ Some u → TypeBelow n u) → TypeBelow n (type_or t o)
or_below n t None h f = h
or_below n t (Some u) h f = f u refl

pub still_below : (n : ℕ) (before after : List (ℕ × Ty)) → All (EntryBelow n) before → All (EntryBelow n) after → All (EntryBelow n) (still_visible before after)
unfolding still_visible
still_below n [] after all others = All-nil (EntryBelow n)
still_below n (e ∷ es) after all others =
    All-cons (EntryBelow n) (e.0, type_or e.1 (type_at e.0 after)) (still_visible es after)
    (or_below n e.1 (type_at e.0 after) (All-head (EntryBelow n) e es all) (λ u is. type_at-all (EntryBelow n) e.0 after u others is))
    (still_below n es after (All-tail (EntryBelow n) e es all) others)
