-- Where control flow meets, what elaboration keeps of states is kept.
use Rattle.std.proofs.Common.{◌≡◌, ◌∙◌, ℕ, suc, ◌+◌, ◌≤◌, ◌<◌, List, [], ◌∷◌, ◌++◌, map, length, Bool as Truth, true, false, Option, Some, None, Result, Ok, Err, refl, sym, ap, subst, arith, append_assoc, append-nil}
use Rattle.std.specs.List.{AllByRecursion, list_all}
use Rattle.index_sorts.specs.Context.{IndexContext}
use Rattle.xan_lin.specs.Linear.{Linear, IsForm, variable_form}
use Rattle.xan_lin.specs.Subst.{subst_of}
use Rattle.xan_lin.specs.declared.term.LimitKind.TheVariants as limit
use Rattle.xan_lin.specs.declared.term.TooLarge.{TooLarge}
use Rattle.xan_seq.specs.Rising.{KeysRise}
use Rattle.xan_seq.proofs.RisingKeys.{KeysRise-with}
use Rattle.state_types.specs.Answers.{◌>>=◌}
use Rattle.state_types.specs.PlaceTypes.{type_at, with_type, PlacesRise}
use Rattle.state_types.specs.Types.{subst_ty}
use Rattle.state_types.specs.declared.closed.Packed.{Packed}
use Rattle.state_types.specs.declared.state.StateType.{StateType}
use Rattle.state_types.specs.declared.types.Ty.{Ty}
use Rattle.state_types.specs.declared.types.Ty.TheVariants as ty
use Rattle.operation_rules.specs.Applied.{widened, all_assuming}
use Rattle.operation_rules.specs.Faults.{filled}
use Rattle.operation_rules.specs.Forms.{variables_from}
use Rattle.operation_rules.specs.Rules.{tuple_at}
use Rattle.xanadu_tree.specs.declared.linear.Linear.{Linear as Exact}
use Rattle.xanadu_tree.specs.declared.stmt.Clause.{Clause}
use Rattle.xanadu_tree.specs.declared.types.CoreTy.{CoreTy}
use Rattle.xanadu_tree.specs.declared.types.CoreTy.TheVariants as core_ty
use Rattle.typed_core.specs.Forms.{form_of, type_of, renamed, renamed_type}
use Rattle.typed_core.specs.Joins.{with_index, Renewed, is_renewed, with_entry, few_places, renewed, renewing, naming_more, stating, stated_types, with_types, Joint, joined, within_bounds, values_at, met_there, entered, entered_if, type_or, still_visible}
use Rattle.typed_core.specs.Limits.{within, needed, by_rule, held}
use Rattle.typed_core.specs.States.{Site, State, resuming, with_fresh, assuming, noting_state}
use Rattle.typed_core.specs.Strays.{clause_rises, values_rise, row_below}
use Rattle.typed_core.specs.Growth.{Continues}
use Rattle.typed_core.proofs.Continued.{Goes}
use Rattle.typed_core.proofs.GrownContexts.{filled_goes, by_rule_goes}
use Rattle.typed_core.proofs.KnownTypes.{entry_at, all_with_type}
use Rattle.typed_core.proofs.LimitedAnswers.{then_answers, any_answer}
use Rattle.carrier_laws.proofs.KeptStates.{Kept, widened_few}
use Rattle.carrier_laws.proofs.RowsStand.{AreSound, assumed_stand}
use Rattle.carrier_laws.proofs.RulesKept.{IsGood, IsFormIfAny, IsGoodIfAny, replaced_form, variable_is_form}

-- ---- keys

abbrev keys : List (ℕ × Ty) → List ℕ
keys entries = map (λ e. e.0) entries

abbrev NumbersRise : ℕ → List ℕ → Type 0
NumbersRise low [] = Unit {0}
NumbersRise low (x ∷ xs) = (low ≤ x) × NumbersRise (suc x) xs

numbers_rise : (low : ℕ) (xs : List (ℕ × Ty)) → KeysRise low xs → NumbersRise low (keys xs)
numbers_rise low [] rise = tt
numbers_rise low (x ∷ xs) rise = (rise.0, numbers_rise (suc x.0) xs rise.1)

keys_rise : (low : ℕ) (xs : List (ℕ × Ty)) → NumbersRise low (keys xs) → KeysRise low xs
keys_rise low [] rise = tt
keys_rise low (x ∷ xs) rise = (rise.0, keys_rise (suc x.0) xs rise.1)

pub rise_as : (low : ℕ) (xs ys : List (ℕ × Ty)) → keys xs ≡ keys ys → KeysRise low ys → KeysRise low xs
rise_as low xs ys same rise = keys_rise low xs (subst (NumbersRise low) (sym same) (numbers_rise low ys rise))

keys_on : (xs ys : List (ℕ × Ty)) → keys (xs ++ ys) ≡ keys xs ++ keys ys
keys_on [] ys = refl
keys_on (x ∷ xs) ys = ap (λ ks. x.0 ∷ ks) (keys_on xs ys)

renewed_keys : (changed : ℕ → Truth) (vars : List (ℕ × CoreTy)) (first : ℕ) (entries : List (ℕ × Ty)) (made : Renewed)
    → keys (renewed changed vars first entries made).types ≡ keys made.types ++ keys entries
unfolding renewed
renewed_keys changed vars first [] made = sym (append-nil (keys made.types))
renewed_keys changed vars first (e ∷ es) made =
    renewed_keys changed vars first es (with_entry (is_renewed changed vars e) first e made) ∙ ap (λ ks. ks ++ keys es) (entry_keys (is_renewed changed vars e))
    ∙ append_assoc (keys made.types) (e.0 ∷ []) (keys es)
  where
    entry_keys : (b : Truth) → keys (with_entry b first e made).types ≡ keys made.types ++ e.0 ∷ []
    entry_keys false = keys_on made.types (e ∷ [])
    entry_keys true = keys_on made.types _

still_keys : (before after : List (ℕ × Ty)) → keys (still_visible before after) ≡ keys before
unfolding still_visible
still_keys [] after = refl
still_keys (e ∷ es) after = ap (λ ks. e.0 ∷ ks) (still_keys es after)

with_rise : (wanted types : List (ℕ × Ty)) → PlacesRise 0 types → PlacesRise 0 (with_types wanted types)
unfolding with_types
with_rise [] types rise = rise
with_rise (w ∷ ws) types rise = with_rise ws (with_type w.0 w.1 types) (KeysRise-with 0 w.0 w.1 types (omega arith) rise)

-- ---- types

module _ (table : List Packed) where
  abbrev GoodEntry : ℕ × Ty → Type 0
  GoodEntry e = IsGood table e.1

  all_push : (xs : List (ℕ × Ty)) (y : ℕ × Ty) → AllByRecursion GoodEntry xs → GoodEntry y → AllByRecursion GoodEntry (xs ++ y ∷ [])
  all_push [] y all p = (p, tt)
  all_push (x ∷ xs) y all p = (all.0, all_push xs y all.1 p)

  fresh_good : (t : Ty) (v : ℕ) → IsGood table t → IsGood table (with_index t (variable_form v))
  fresh_good (ty.Int e) v g = (variable_is_form v, tt)
  fresh_good ty.Bool v g = g
  fresh_good (ty.Array p e) v g = (variable_is_form v, g.1)
  fresh_good (ty.Named p) v g = g

  renewed_good : (changed : ℕ → Truth) (vars : List (ℕ × CoreTy)) (first : ℕ) (entries : List (ℕ × Ty)) (made : Renewed) → AllByRecursion GoodEntry entries
      → AllByRecursion GoodEntry made.types → AllByRecursion GoodEntry (renewed changed vars first entries made).types
  unfolding renewed
  renewed_good changed vars first [] made all done = done
  renewed_good changed vars first (e ∷ es) made all done =
      renewed_good changed vars first es (with_entry (is_renewed changed vars e) first e made) all.1 (entry_good (is_renewed changed vars e))
    where
      entry_good : (b : Truth) → AllByRecursion GoodEntry (with_entry b first e made).types
      entry_good false = all_push made.types e done all.0
      entry_good true = all_push made.types (e.0, with_index e.1 (variable_form (first + length made.others))) done (fresh_good e.1 (first + length made.others) all.0)

  with_good : (wanted types : List (ℕ × Ty)) → AllByRecursion GoodEntry wanted → AllByRecursion GoodEntry types → AllByRecursion GoodEntry (with_types wanted types)
  unfolding with_types
  with_good [] types all done = done
  with_good (w ∷ ws) types all done = with_good ws (with_type w.0 w.1 types) all.1 (all_with_type GoodEntry w.0 w.1 types all.0 done)

  still_good : (before after : List (ℕ × Ty)) → AllByRecursion GoodEntry before → AllByRecursion GoodEntry after → AllByRecursion GoodEntry (still_visible before after)
  unfolding still_visible
  still_good [] after all done = tt
  still_good (e ∷ es) after all done = (or_good (type_at e.0 after) refl, still_good es after all.1 done)
    where
      or_good : (o : Option Ty) → type_at e.0 after ≡ o → IsGood table (type_or e.1 o)
      or_good None is = all.0
      or_good (Some t) is = entry_at GoodEntry after e.0 t done is

  -- the type of a core exists, whatever its index becomes
  abbrev pub CoreExists : CoreTy → Type 0
  CoreExists (core_ty.Int form) = Unit {0}
  CoreExists core_ty.Bool = Unit {0}
  CoreExists (core_ty.Array element form) = element < length table
  CoreExists (core_ty.Named number) = (packed : Packed) × (tuple_at table number ≡ Ok packed)

  retyped_good : (naming : List (ℕ × Linear)) (own : ℕ) (c : CoreTy) → CoreExists c → IsGoodIfAny table (renamed_type naming own c)
  unfolding renamed_type type_of subst_ty
  retyped_good naming own (core_ty.Int form) h = by_form (form_of form)
    where
      given : (m : Result Linear TooLarge) → ((f : Linear) → m ≡ Ok f → IsForm f) → IsGoodIfAny table (m >>= (λ f. let r : Result Ty TooLarge = Ok (ty.Int f) in r))
      given (Ok f) g = (g f refl, tt)
      given (Err why) g = tt

      by_form : (m : Result Linear TooLarge) → IsGoodIfAny table ((m >>= (λ index. let r : Result Ty TooLarge = Ok (ty.Int index) in r)) >>= (λ exact. subst_ty naming own exact))
      by_form (Ok e) = given (subst_of naming own e) (λ f i. replaced_form naming own e f i)
      by_form (Err why) = tt
  retyped_good naming own core_ty.Bool h = (tt, tt)
  retyped_good naming own (core_ty.Array p form) h = by_form (form_of form)
    where
      given : (m : Result Linear TooLarge) → ((f : Linear) → m ≡ Ok f → IsForm f) → IsGoodIfAny table (m >>= (λ f. let r : Result Ty TooLarge = Ok (ty.Array p f) in r))
      given (Ok f) g = (g f refl, h)
      given (Err why) g = tt

      by_form : (m : Result Linear TooLarge) → IsGoodIfAny table ((m >>= (λ index. let r : Result Ty TooLarge = Ok (ty.Array p index) in r)) >>= (λ exact. subst_ty naming own exact))
      by_form (Ok e) = given (subst_of naming own e) (λ f i. replaced_form naming own e f i)
      by_form (Err why) = tt
  retyped_good naming own (core_ty.Named p) h = (tt, h)

  needed_good : (m : Result Ty TooLarge) → IsGoodIfAny table m → Goes (IsGood table) (needed m)
  needed_good (Ok t) g = record { is = g }
  needed_good (Err why) g = record { is = tt }

  stated_good : (naming : List (ℕ × Linear)) (own : ℕ) (vars : List (ℕ × CoreTy)) (made : List (ℕ × Ty)) → AllByRecursion (λ (s : ℕ × CoreTy). CoreExists s.1) vars
      → AllByRecursion GoodEntry made → Goes (AllByRecursion GoodEntry) (stated_types naming own vars made)
  unfolding stated_types
  stated_good naming own [] made all done = record { is = done }
  stated_good naming own (s ∷ ss) made all done =
      then_answers (within limit.Places (suc s.0)) _ (any_answer (within limit.Places (suc s.0)))
      (λ few u. then_answers (needed (renamed_type naming own s.1)) _ (needed_good (renamed_type naming own s.1) (retyped_good naming own s.1 all.0))
      (λ it g. stated_good naming own ss (made ++ (s.0, it) ∷ []) all.1 (all_push made (s.0, it) done g)))

  -- ---- rows

  renamed_forms : (naming : List (ℕ × Linear)) (own : ℕ) (rows : List Exact) → AllByRecursion IsFormIfAny (map (renamed naming own) rows)
  unfolding renamed
  renamed_forms naming own [] = tt
  renamed_forms naming own (row ∷ rows) = (by_form (form_of row), renamed_forms naming own rows)
    where
      given : (m : Result Linear TooLarge) → ((f : Linear) → m ≡ Ok f → IsForm f) → IsFormIfAny m
      given (Ok f) g = g f refl
      given (Err why) g = tt

      by_form : (m : Result Linear TooLarge) → IsFormIfAny (m >>= (λ exact. subst_of naming own exact))
      by_form (Ok e) = given (subst_of naming own e) (λ f i. replaced_form naming own e f i)
      by_form (Err why) = tt

  -- ---- the state

  record Renews (count : ℕ) (before : StateType) (latest : State) (r : Renewed × State) : Type 0 where
    types : AllByRecursion GoodEntry r.0.types
    rise : PlacesRise 0 r.0.types
    rows : r.1.ctx.rows ≡ before.ctx.rows
    naming : r.1.naming ≡ latest.naming
    few : r.1.ctx.vars ≤ 1024
    more : latest.ctx.vars + count ≤ r.1.ctx.vars

  record Widens (count : ℕ) (st more : State) : Type 0 where
    rows : more.ctx.rows ≡ st.ctx.rows
    naming : more.naming ≡ st.naming
    few : more.ctx.vars ≤ 1024
    vars : more.ctx.vars ≡ st.ctx.vars + count

  fresh_kept : (count : ℕ) (st : State) → Goes (Widens count st) (with_fresh count st)
  unfolding with_fresh
  fresh_kept count st =
      then_answers (by_rule (filled (widened count st.ctx))) _ (by_rule_goes (filled (widened count st.ctx)) (filled_goes (widened count st.ctx) (widened_few count st.ctx)))
      (λ ctx w. record { is = record { rows = ap (λ (c : IndexContext). c.rows) w.0; naming = refl; few = w.1; vars = ap (λ (c : IndexContext). c.vars) w.0 } })

  module _ (before : StateType) (sound : AreSound before.ctx.rows) (good : AllByRecursion GoodEntry before.places) (rise : PlacesRise 0 before.places) where
    renewing_kept : (clause : Clause) (changed : ℕ → Truth) (latest : State) → Goes (Renews clause.quant.count before latest) (renewing clause changed before latest)
    unfolding renewing
    renewing_kept clause changed latest =
        let from = latest.ctx.vars + clause.quant.count in
        let none : Renewed = record { types = []; others = [] } in
        let kept = renewed changed clause.vars from before.places none in
        let count = clause.quant.count + length kept.others in
        let start = resuming before.ctx.rows before.places latest in
        then_answers (few_places before.places) _ (any_answer (few_places before.places))
        (λ few u. then_answers (with_fresh count start) _ (fresh_kept count start)
        (λ fresh w. record {
          is = record {
            types = renewed_good changed clause.vars from before.places none good tt;
            rise = rise_as 0 kept.types before.places (renewed_keys changed clause.vars from before.places none) rise;
            rows = w.rows;
            naming = w.naming;
            few = w.few;
            more = (let v = w.vars in omega (arith, v));
          };
        }))

    record Assumes (st more : State) : Type 0 where
      sound_still : AreSound more.ctx.rows
      naming : more.naming ≡ st.naming
      vars : more.ctx.vars ≡ st.ctx.vars
      added : Continues st.ctx.rows more.ctx.rows

    assuming_kept : (rows : List (Result Linear TooLarge)) (st : State) → AllByRecursion IsFormIfAny rows → AreSound st.ctx.rows → Goes (Assumes st) (assuming rows st)
    unfolding assuming
    assuming_kept rows st forms sound =
        then_answers (by_rule (filled (all_assuming rows st.ctx))) _
        (by_rule_goes (filled (all_assuming rows st.ctx)) (filled_goes (all_assuming rows st.ctx) (assumed_stand rows st.ctx forms sound)))
        (λ ctx h. record { is = record { sound_still = h.sound; naming = refl; vars = h.vars; added = h.rows } })

    stating_kept : (naming : List (ℕ × Linear)) (own : ℕ) (clause : Clause) (st : State) → AreSound st.ctx.rows → Goes (λ r. Assumes st r.1) (stating naming own clause st)
    unfolding stating
    stating_kept naming own clause st sound =
        let rows = map (renamed naming own) clause.quant.rows in
        then_answers (held (values_rise 0 naming)) _ (any_answer (held (values_rise 0 naming)))
        (λ a u. then_answers (held (clause_rises clause)) _ (any_answer (held (clause_rises clause)))
        (λ b v. then_answers (held (list_all (row_below st.ctx.vars) rows)) _ (any_answer (held (list_all (row_below st.ctx.vars) rows)))
        (λ c w. then_answers (assuming rows st) _ (assuming_kept rows st (renamed_forms naming own clause.quant.rows) sound) (λ known h. record { is = h }))))

    -- what a join makes
    pub record JoinsWell (clause : Clause) (latest more : State) : Type 0 where
      pub kept : Kept table more
      pub naming : more.naming ≡ latest.naming ++ variables_from clause.first latest.ctx.vars clause.quant.count
      pub vars : latest.ctx.vars + clause.quant.count ≤ more.ctx.vars
      pub rows : Continues before.ctx.rows more.ctx.rows

    pub joined_kept : (site : Site) (clause : Clause) (changed : ℕ → Truth) (latest : State) → AllByRecursion (λ (s : ℕ × CoreTy). CoreExists s.1) clause.vars
        → Goes (λ r. JoinsWell clause latest r.1) (joined site clause changed before latest)
    unfolding joined noting_state
    joined_kept site clause changed latest exist =
        let listed = variables_from clause.first latest.ctx.vars clause.quant.count in
        then_answers (renewing clause changed before latest) _ (renewing_kept clause changed latest)
        (λ k r. let begun = naming_more listed k.1 in
        then_answers (stating begun.naming site.own.vars clause begun) _ (stating_kept begun.naming site.own.vars clause begun (subst AreSound (sym r.rows) sound))
        (λ s h. then_answers (stated_types s.1.naming site.own.vars clause.vars []) _ (stated_good s.1.naming site.own.vars clause.vars [] exist tt)
        (λ wanted g. record {
          is = record {
            kept = record {
              rows = h.sound_still;
              types = with_good wanted k.0.types g r.types;
              rise = with_rise wanted k.0.types r.rise;
              few = (let v = h.vars in let f = r.few in omega (arith, v, f));
            };
            naming = h.naming ∙ ap (λ vs. vs ++ listed) r.naming;
            vars = (let v = h.vars in let m = r.more in omega (arith, v, m));
            rows = subst (λ rs. Continues rs s.1.ctx.rows) r.rows h.added;
          };
        })))

  -- ---- ways in, and what follows branches

  pub record Goals (st more : State) : Type 0 where
    pub kept : Kept table more
    pub naming : more.naming ≡ st.naming
    pub ctx : more.ctx ≡ st.ctx
    pub types : more.types ≡ st.types

  pub entered_kept : (site : Site) (at : ℕ) (joint : Joint) (from : StateType) (st : State) → Kept table st → Goes (Goals st) (entered site at joint from st)
  unfolding entered
  entered_kept site at joint from st k =
      then_answers (met_there joint from.places) _ (any_answer (met_there joint from.places))
      (λ m u. then_answers (within_bounds joint.past) _ (any_answer (within_bounds joint.past))
      (λ limit v. then_answers (values_at from.places (joint.first + joint.count) joint.others m.1.values) _
      (any_answer (values_at from.places (joint.first + joint.count) joint.others m.1.values))
      (λ values w. record { is = record { kept = record { rows = k.rows; types = k.types; rise = k.rise; few = k.few }; naming = refl; ctx = refl; types = refl } })))

  pub entered_if_kept : (completes : Truth) (site : Site) (at : ℕ) (joint : Joint) (from : StateType) (st : State) → Kept table st → Goes (Goals st) (entered_if completes site at joint from st)
  unfolding entered_if
  entered_if_kept false site at joint from st k = record { is = record { kept = k; naming = refl; ctx = refl; types = refl } }
  entered_if_kept true site at joint from st k = entered_kept site at joint from st k

  -- a state with these rows and types, over as many variables
  pub resumed_kept : (rows : List Linear) (types : List (ℕ × Ty)) (st : State) → AreSound rows → AllByRecursion GoodEntry types → PlacesRise 0 types → st.ctx.vars ≤ 1024
      → Kept table (resuming rows types st)
  resumed_kept rows types st sound good rise few = record { rows = sound; types = good; rise = rise; few = few }

  pub still_kept : (before end : StateType) (latest : State) → AreSound end.ctx.rows → AllByRecursion GoodEntry before.places → PlacesRise 0 before.places
      → AllByRecursion GoodEntry end.places → latest.ctx.vars ≤ 1024 → Kept table (resuming end.ctx.rows (still_visible before.places end.places) latest)
  still_kept before end latest sound good rise ended few =
      resumed_kept end.ctx.rows (still_visible before.places end.places) latest sound (still_good before.places end.places good ended)
      (rise_as 0 (still_visible before.places end.places) before.places (still_keys before.places end.places) rise) few
