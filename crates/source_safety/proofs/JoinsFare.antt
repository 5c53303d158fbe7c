-- A run that comes to a join stands at the state that is stated there.
use Rattle.std.proofs.Common.{◌≡◌, ◌∙◌, ℕ, zero, suc, ◌+◌, ◌-◌, ◌*◌, ◌≤◌, ℤ, pos, ◌⊎◌, inl, inr, List, [], ◌∷◌, ◌++◌, map, length, length-append, replicate, take, get_or, Bool as Truth, true, false, Some, None, Result, Ok, Err, refl, sym, ap, subst, arith}
use Rattle.std.specs.Prelude.{◌&&◌, not}
use Rattle.std.specs.List.{All, AllZip}
use Rattle.std.proofs.lemmas.Bool.Decides.{Decides-eqb}
use Rattle.std.proofs.lemmas.List.{length-replicate}
use Rattle.std.proofs.lemmas.List.Elements.{All-nil, All-cons, All-head, All-tail}
use Rattle.std.proofs.lemmas.Option.{same_Some}
use Rattle.index_sorts.specs.Entails.{AllHold}
use Rattle.xan_lin.specs.Linear.{Linear, NamesBelow, variable_form}
use Rattle.xan_lin.specs.Subst.{given_values, values_from}
use Rattle.xan_lin.specs.Value.{value_at, value_of, Holds}
use Rattle.xan_lin.specs.declared.term.TooLarge.{TooLarge}
use Rattle.state_types.specs.Naming.{ValuesBelow}
use Rattle.state_types.specs.PlaceTypes.{type_at}
use Rattle.state_types.specs.Sound.{Carries}
use Rattle.state_types.specs.Types.{TypeBelow, same_kind, index_of}
use Rattle.state_types.specs.Words.{Headers, HasType, IsBlock}
use Rattle.state_types.specs.declared.types.Ty.{Ty}
use Rattle.state_types.specs.declared.types.Ty.TheVariants as ty
use Rattle.state_types.proofs.Edges.{type_at-all}
use Rattle.state_types.proofs.MatchPairs.{match_sound}
use Rattle.state_types.proofs.Unpacked.{value-front, present_keeps, holds-front}
use Rattle.operation_rules.specs.Forms.{variables_from}
use Rattle.operation_rules.proofs.BlocksFound.{matching_is}
use Rattle.operation_rules.proofs.ListedValues.{lists_of, result_values, variable_is}
use Rattle.operation_rules.proofs.LongerValues.{value_at-behind}
use Rattle.operation_rules.proofs.RowsNamed.{values-both}
use Rattle.operation_rules.proofs.RuleFacts.{OkHolds, assuming_grows}
use Rattle.xanadu_tree.specs.declared.stmt.Clause.{Clause}
use Rattle.xanadu_tree.specs.declared.types.CoreTy.{CoreTy}
use Rattle.typed_core.specs.Growth.{Continues, NamesSoFar}
use Rattle.typed_core.specs.Joins.{is_named, is_renewed, with_index, Renewed, with_types, leading, first_past, Joint, joined, entered}
use Rattle.typed_core.specs.SourceRuns.{Env}
use Rattle.typed_core.specs.SourceValues.{Tag, Value, Blocks}
use Rattle.typed_core.specs.States.{Site, State, point, noting_state}
use Rattle.typed_core.proofs.Continued.{some_more, more_again}
use Rattle.typed_core.proofs.GrownContexts.{rows_more}
use Rattle.typed_core.proofs.NamedJoins.{values_more}
use Rattle.typed_core.proofs.NamedStates.{types_more}
use Rattle.source_safety.specs.Values.{headers_of, HasValue, tag_for, tags_for}
use Rattle.source_safety.specs.Standing.{GoalsHold, VariableHolds, VariablesHold, Stands, Goes, BringsOne, Brings}
use Rattle.source_safety.proofs.FaredOn.{keeps_all, value_waits, variables_wait}
use Rattle.source_safety.proofs.JoinNames.{joined_named}
use Rattle.source_safety.proofs.JoinParts.{IsJoined, joined_is, IsEntered, entered_is}
use Rattle.source_safety.proofs.JoinTypes.{renewed_kept, IsFresh, IsKept, others_unnamed, EntryBelow, stated_below, leading_below, presents_are, HasIndex, Indices, indices_are, index_of_other, stated_over}
use Rattle.source_safety.proofs.MatchTags.{matching_tags}

-- ---- lists

take_longer : (xs ys : List ℤ) (n : ℕ) → length xs ≤ n → Continues xs (take n (xs ++ ys))
take_longer [] ys n le = record { rest = take n ys; is = refl }
take_longer (x ∷ xs) ys zero le = absurd (let bad : ⊥ = omega (arith, le) in bad)
take_longer (x ∷ xs) ys (suc n) le =
    let it = take_longer xs ys n (omega (arith, le)) in
    record { rest = it.rest; is = ap (λ l. x ∷ l) it.is }

types_below : (n : ℕ) (ws : List (ℕ × Ty)) → All (EntryBelow n) ws → All (TypeBelow n) (map (λ w. w.1) ws)
types_below n [] all = All-nil (TypeBelow n)
types_below n (w ∷ ws) all = All-cons (TypeBelow n) w.1 (map (λ w. w.1) ws) (All-head (EntryBelow n) w ws all) (types_below n ws (All-tail (EntryBelow n) w ws all))

as_many : (types : List (ℕ × Ty)) (assignment : List ℤ) (xs : List ℕ) (forms : List Linear) → AllZip (HasIndex types) xs forms → length (map (value_of assignment) forms) ≡ length xs
as_many types assignment [] [] all = refl
as_many types assignment [] (f ∷ fs) all = absurd all
as_many types assignment (x ∷ xs) [] all = absurd all
as_many types assignment (x ∷ xs) (f ∷ fs) all = ap suc (as_many types assignment xs fs all.1)

-- ---- rows that are taken to hold

rows_hold : (values : List ℤ) (rows : List (Result Linear TooLarge)) → first_past rows ≡ None → AllHold values (leading rows) → All (OkHolds values) rows
unfolding first_past leading
rows_hold values [] bounded all = All-nil (OkHolds values)
rows_hold values (Err why ∷ rows) bounded all = absurd (let bad : ⊥ = cc in bad)
rows_hold values (Ok row ∷ rows) bounded all =
    All-cons (OkHolds values) (Ok row) rows (All-head (Holds values) row (leading rows) all) (rows_hold values rows bounded (All-tail (Holds values) row (leading rows) all))

-- ---- one variable

types_back : (base rest : List ℤ) (t : Ty) → TypeBelow (length base) t → Carries (base ++ rest) base t t
types_back base rest (ty.Int e) named = record { carries = λ headers word h. h ∙ value-front base rest e named }
types_back base rest ty.Bool named = record { carries = λ headers word h. h }
types_back base rest (ty.Array p e) named = record { carries = λ headers word h. subst (λ v. IsBlock headers word (2 * p) v) (value-front base rest e named) h }
types_back base rest (ty.Named p) named = record { carries = λ headers word h. h }

-- a value of a type that stood before
kept_value : (headers : Headers) (base one two : List ℤ) (v : Value) (t : Ty) → Continues base one → Continues base two → TypeBelow (length base) t → HasValue headers one v t
    → HasValue headers two v t
kept_value headers base one two v t a b below has = record {
  tagged = has.tagged;
  typed = subst (λ g. HasType headers g v.word t) (sym b.is) ((present_keeps base b.rest t below).carries headers v.word
      ((types_back base a.rest t below).carries headers v.word (subst (λ g. HasType headers g v.word t) a.is has.typed)));
}

-- a fresh variable has the value of the present index
fresh_value : (headers : Headers) (assignment given : List ℤ) (v : Value) (old present : Ty) (n : ℕ) (form : Linear) → same_kind old present ≡ true → index_of present ≡ Some form
    → value_at given n ≡ value_of assignment form → HasValue headers assignment v present → HasValue headers given v (with_index old (variable_form n))
fresh_value headers assignment given v (ty.Int e) (ty.Int f) n form kind is worth has = record {
  tagged = has.tagged;
  typed = has.typed ∙ ap (λ g. value_of assignment g) (same_Some f form is) ∙ sym worth ∙ sym (variable_is given n);
}
fresh_value headers assignment given v (ty.Array p e) (ty.Array q f) n form kind is worth has = record {
  tagged = has.tagged;
  typed = subst (λ m. IsBlock headers v.word (2 * m) (value_of given (variable_form n))) (sym ((Decides-eqb p q).0 kind))
      (subst (λ m. IsBlock headers v.word (2 * q) m) (ap (λ g. value_of assignment g) (same_Some f form is) ∙ sym worth ∙ sym (variable_is given n)) has.typed);
}
fresh_value headers assignment given v ty.Bool ty.Bool n form kind is worth has = absurd (let bad : ⊥ = cc in bad)
fresh_value headers assignment given v (ty.Named p) (ty.Named q) n form kind is worth has = absurd (let bad : ⊥ = cc in bad)
fresh_value headers assignment given v old present n form kind is worth has = absurd (let bad : ⊥ = cc in bad)

not_changed : (b c : Truth) → (b && not c) ≡ false → c ≡ false → b ≡ false
not_changed false c e h = refl
not_changed true false e h = e
not_changed true true e h = absurd (let bad : ⊥ = cc in bad)

-- a type that is not renewed is still there
same_type : (changed : ℕ → Truth) (vars : List (ℕ × CoreTy)) (present : List (ℕ × Ty)) (x : ℕ) (old : Ty) → is_renewed changed vars (x, old) ≡ false → is_named x vars ≡ false
    → (b : BringsOne changed vars present x old) → b.type ≡ old
same_type changed vars present x (ty.Int e) is unnamed b = b.kept (not_changed (changed x) (is_named x vars) is unnamed) unnamed
same_type changed vars present x (ty.Array p e) is unnamed b = b.kept (not_changed (changed x) (is_named x vars) is unnamed) unnamed
same_type changed vars present x ty.Bool is unnamed b = no_index b.type b.kind
  where
    no_index : (t : Ty) → same_kind ty.Bool t ≡ true → t ≡ ty.Bool
    no_index ty.Bool kind = refl
    no_index t kind = absurd (let bad : ⊥ = cc in bad)
same_type changed vars present x (ty.Named p) is unnamed b = no_index b.type b.kind
  where
    no_index : (t : Ty) → same_kind (ty.Named p) t ≡ true → t ≡ ty.Named p
    no_index (ty.Named q) kind = ap (λ n. ty.Named n) (sym ((Decides-eqb p q).0 kind))
    no_index t kind = absurd (let bad : ⊥ = cc in bad)

-- ---- the variables

module _ (env : Env) (headers : Headers) where
  wanted_hold : (assignment given : List ℤ) (types ws : List (ℕ × Ty)) (ts : List Ty) → AllZip (λ (w : ℕ × Ty) t. type_at w.0 types ≡ Some t) ws ts
      → AllZip (Carries assignment given) ts (map (λ w. w.1) ws) → tags_for (map (λ w. w.1) ws) ≡ tags_for ts → VariablesHold env headers assignment types
      → All (λ w. VariableHolds env headers given (w.0, w.1)) ws
  unfolding tags_for
  wanted_hold assignment given types [] [] there fit tags all = All-nil (λ w. VariableHolds env headers given (w.0, w.1))
  wanted_hold assignment given types [] (t ∷ ts) there fit tags all = absurd there
  wanted_hold assignment given types (w ∷ ws) [] there fit tags all = absurd there
  wanted_hold assignment given types (w ∷ ws) (t ∷ ts) there fit tags all =
      let it = all.by w.0 t there.0 in
      let P : ℕ × Ty → Type 0 = λ w. VariableHolds env headers given (w.0, w.1) in
      All-cons P w ws (record {
        value = it.value;
        there = it.there;
        has = record {
          tagged = it.has.tagged ∙ sym (first_of (tag_for w.1) (tag_for t) (tags_for (map (λ w. w.1) ws)) (tags_for ts) tags);
          typed = fit.0.carries headers it.value.word it.has.typed;
        };
      }) (wanted_hold assignment given types ws ts there.1 fit.1 (rest_of (tag_for w.1) (tag_for t) (tags_for (map (λ w. w.1) ws)) (tags_for ts) tags) all)
    where
      first_of : (a b : Tag) (xs ys : List Tag) → a ∷ xs ≡ b ∷ ys → a ≡ b
      first_of a b xs ys e = cc

      rest_of : (a b : Tag) (xs ys : List Tag) → a ∷ xs ≡ b ∷ ys → xs ≡ ys
      rest_of a b xs ys e = cc

  wanted_longer : (given tail : List ℤ) (ws : List (ℕ × Ty)) → All (EntryBelow (length given)) ws → All (λ w. VariableHolds env headers given (w.0, w.1)) ws
      → All (λ w. VariableHolds env headers (given ++ tail) (w.0, w.1)) ws
  wanted_longer given tail ws below all = λ k d h.
      let it = all k d h in
      record { value = it.value; there = it.there; has = value_waits headers headers given (given ++ tail) (keeps_all headers) (some_more given tail) it.value (get_or ws k d).1 (below k d h) it.has }

  -- a variable of which the clause says nothing
  kept_holds : (changed : ℕ → Truth) (vars : List (ℕ × CoreTy)) (x : ℕ) (t : Ty) (before present : List (ℕ × Ty)) (others : List ℕ) (base assignment low : List ℤ)
      → (ix : Indices present others) → IsKept changed vars (length low) x before others t → is_named x vars ≡ false → Brings changed vars before present
      → VariablesHold env headers assignment present → All (EntryBelow (length base)) before → Continues base assignment
      → Continues base (low ++ map (value_of assignment) ix.forms) → VariableHolds env headers (low ++ map (value_of assignment) ix.forms) (x, t)
  kept_holds changed vars x t before present others base assignment low ix kept unnamed brings all below a b = by_way kept.is
    where
      brought : BringsOne changed vars present x kept.old
      brought = brings.by x kept.old kept.there

      it : VariableHolds env headers assignment (x, brought.type)
      it = all.by x brought.type brought.there

      given : List ℤ
      given = low ++ map (value_of assignment) ix.forms

      by_way : ((is_renewed changed vars (x, kept.old) ≡ false) × (t ≡ kept.old)) ⊎ IsFresh (length low) x kept.old t others → VariableHolds env headers given (x, t)
      by_way (inl h) =
          let same = same_type changed vars present x kept.old h.0 unnamed brought in
          let has = subst (λ u. HasValue headers assignment it.value u) same it.has in
          let named = type_at-all (EntryBelow (length base)) x before kept.old below kept.there in
          record { value = it.value; there = it.there; has = subst (λ u. HasValue headers given it.value u) (sym h.1) (kept_value headers base assignment given it.value kept.old a b named has) }
      by_way (inr f) =
          let n = index_of_other present assignment x f.place others ix.forms ix.are f.listed in
          let same = same_Some brought.type n.has.type (sym brought.there ∙ n.has.there) in
          let worth = value_at-behind low (map (value_of assignment) ix.forms) f.place ∙ n.worth in
          let has = fresh_value headers assignment given it.value kept.old brought.type (length low + f.place) n.form brought.kind (ap index_of same ∙ n.has.is) worth it.has in
          record { value = it.value; there = it.there; has = subst (λ u. HasValue headers given it.value u) (sym f.is) has }

-- ---- the whole

-- over so many index variables at least; those that the run has not met are 0
pub record IsPadded (site : Site) (end : State) (env : Env) (least : ℕ) (store : Blocks) (before : List ℤ) : Type 0 where
  pub full : List ℤ
  pub long : least ≤ length full
  pub exact : length before ≤ least → length full ≡ least
  pub front : Continues before full
  pub hold : AllHold full end.ctx.rows
  pub typed : VariablesHold env (headers_of store) full end.types

pub padded : (site : Site) (end : State) (env : Env) (assignment : List ℤ) (least : ℕ) (store : Blocks) → Stands site end env assignment store → IsPadded site end env least store assignment
padded site end env assignment least store stands =
    let zeros = replicate (least - length assignment) (pos 0) in
    let many = length-append assignment zeros in
    let of = length-replicate (least - length assignment) (pos 0) in
    let rows = subst (λ n. All (NamesBelow n) end.ctx.rows) (sym stands.one_each) stands.named.rows in
    let types = subst (λ n. All (EntryBelow n) end.types) (sym stands.one_each) stands.named.types in
    record {
      full = assignment ++ zeros;
      long = omega (arith, many, of);
      exact = λ le. omega (arith, many, of, le);
      front = some_more assignment zeros;
      hold = holds-front assignment zeros end.ctx.rows rows stands.hold;
      typed = variables_wait (headers_of store) (headers_of store) assignment (assignment ++ zeros) (keeps_all (headers_of store)) (some_more assignment zeros) env end.types types stands.typed;
    }

module _ (site : Site) (clause : Clause) (changed : ℕ → Truth) (st latest end : State) (before env : Env) (base : List ℤ) (old new : Blocks) (le : st.ctx.vars ≤ latest.ctx.vars)
    (listed : ValuesBelow latest.ctx.vars latest.naming) (stands : Stands site st before base old) (goes : Goes site end env base old new)
    (brings : Brings changed clause.vars st.types end.types) where
  -- the joint and the state, as they are made
  abbrev Made : {p : Joint × State} → IsJoined site clause changed (point st) latest p → Joint × State
  Made j = (
    record { first = latest.ctx.vars; count = clause.quant.count; wanted = j.wanted; rows = leading j.rows; past = first_past j.rows; others = j.kept.others },
    noting_state j.known.ctx.rows (record j.known { types = with_types j.wanted j.kept.types }),
  )

  made_stands : (p : Joint × State) (j : IsJoined site clause changed (point st) latest p) → IsEntered (Made j).0 (point end) → NamesSoFar (Made j).1 → Goes site (Made j).1 env base old new
  unfolding noting_state
  made_stands p j way named =
      let first = latest.ctx.vars in
      let last = first + clause.quant.count in
      let own_le = stands.own in
      let low : site.own.vars ≤ last = omega (arith, le, own_le) in
      let ids : ValuesBelow last (latest.naming ++ variables_from clause.first first clause.quant.count) =
      values-both last latest.naming clause.first first clause.quant.count (values_more first last latest.naming (omega arith) listed) (omega arith) in
      let names = subst (λ vs. ValuesBelow last (vs ++ variables_from clause.first first clause.quant.count)) (sym j.widens.naming) ids in
      let rows = subst (λ rs. All (NamesBelow last) (leading rs)) j.renames
      (leading_below last site.own.vars (j.fresh.naming ++ variables_from clause.first first clause.quant.count) low names clause.quant.rows) in
      let wanted = stated_below last site.own.vars j.known.naming low (subst (ValuesBelow last) (sym j.naming) names) clause.vars [] j.wanted j.states (All-nil (EntryBelow last)) in
      let pad = padded site end env goes.given first new goes.stands in
      let full = pad.full in
      let from_base = more_again base goes.given full goes.front pad.front in
      let types = map (λ (w : ℕ × Ty). w.1) j.wanted in
      let m = matching_is first last (leading j.rows) types way.actual way.found way.matches in
      let matched = match_sound first last (leading j.rows) end.ctx.rows types way.actual way.found full m.is m.many rows (types_below last j.wanted wanted) way.entailed pad.hold in
      let given = given_values full way.found.values first last in
      let lists = lists_of first last (leading j.rows) types way.actual way.found m.is in
      let count = stands.one_each in
      let near = subst (λ l. Continues base (take first l)) (sym from_base.is) (take_longer base from_base.rest first (omega (arith, le, count))) in
      let base_given = more_again base (take first full) given near
      (record { rest = values_from full way.found.values first first clause.quant.count; is = result_values full way.found first clause.quant.count lists pad.long }) in
      let pr = presents_are end.types j.wanted [] way.actual way.presents in
      let fit = subst (λ ts. AllZip (Carries full given) ts types) (sym pr.is) matched.fit in
      let tags = matching_tags first last (leading j.rows) types way.actual way.found way.matches ∙ ap tags_for (sym pr.is) in
      let headers = headers_of new in
      let here = wanted_hold env headers full given end.types j.wanted pr.ts pr.there fit tags pad.typed in
      let ix = indices_are end.types last j.kept.others way.found.values way.values way.valued in
      let tail = map (value_of full) ix.forms in
      let front = more_again base given (given ++ tail) base_given (some_more given tail) in
      let wide = subst (λ n. All (EntryBelow n) j.wanted) (sym matched.one_each) wanted in
      let below_rows = subst (λ n. All (NamesBelow n) st.ctx.rows) (sym stands.one_each) stands.named.rows in
      let below_types = subst (λ n. All (EntryBelow n) st.types) (sym stands.one_each) stands.named.types in
      let hold_before = subst (λ a. AllHold a st.ctx.rows) (sym front.is) (holds-front base front.rest st.ctx.rows below_rows stands.hold) in
      let hold_rows = holds-front given tail (leading j.rows) (subst (λ n. All (NamesBelow n) (leading j.rows)) (sym matched.one_each) rows) matched.hold in
      let grown = assuming_grows (given ++ tail) j.rows j.fresh.ctx j.known.ctx j.assumes (subst (AllHold (given ++ tail)) (sym j.widens.rows) hold_before)
      (rows_hold (given ++ tail) j.rows way.bounded hold_rows) in
      let many = length-append given tail in
      let many_given = matched.one_each in
      let many_tail = as_many end.types full j.kept.others ix.forms ix.are in
      let vars = grown.0 in
      let fresh_vars = j.widens.vars in
      record {
        given = given ++ tail;
        front = front;
        stands = record {
          own = omega (arith, le, own_le, vars, fresh_vars);
          named = named;
          one_each = omega (arith, many, many_given, many_tail, vars, fresh_vars);
          hold = grown.1;
          typed = record {
            by = λ x t e. stated_over (λ y u. VariableHolds env headers (given ++ tail) (y, u)) x t j.wanted j.kept.types (wanted_longer env headers given tail j.wanted wide here)
                (λ others at. kept_holds env headers changed clause.vars x t st.types end.types j.kept.others base full given ix
                (subst (λ n. IsKept changed clause.vars n x st.types j.kept.others t) (sym matched.one_each)
                (subst (λ (k : Renewed). IsKept changed clause.vars last x st.types k.others t) j.keeps
                (renewed_kept changed clause.vars last x t st.types (record { types = []; others = [] }) refl (ap (λ (k : Renewed). type_at x k.types) j.keeps ∙ at))))
                (others_unnamed x j.known.naming site.own.vars clause.vars [] j.wanted j.states others).1 brings pad.typed below_types from_base front) e;
          };
          holds = goes.stands.holds;
        };
        keeps = goes.keeps;
      }

  pub entered_stands : (at : ℕ) (here start more : State) (joint : Joint) → joined site clause changed (point st) latest ≡ Ok (joint, start) → entered site at joint (point end) here ≡ Ok more
      → GoalsHold more.goals → Goes site start env base old new
  entered_stands at here start more joint is enters goals =
      let p : Joint × State = (joint, start) in
      let j = joined_is site clause changed (point st) latest p is in
      let way = entered_is site at joint (point end) here more enters goals in
      let own = stands.own in
      let first = latest.ctx.vars in
      let named = joined_named site clause changed (point st) latest (omega (arith, le, own)) listed (rows_more st.ctx.vars first st.ctx.rows le stands.named.rows)
      (types_more st.ctx.vars first st.types le stands.named.types) joint start is in
      subst (λ (q : Joint × State). Goes site q.1 env base old new) j.is
      (made_stands p j (subst (λ (q : Joint × State). IsEntered q.0 (point end)) (sym j.is) way) (subst (λ (q : Joint × State). NamesSoFar q.1) (sym j.is) named))
