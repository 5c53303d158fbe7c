-- An activation goes on, goes to a label, and stays as it is while the store grows.
use Rattle.std.proofs.Common.{◌≡◌, ◌∙◌, ℕ, zero, suc, ◌≤◌, ◌<◌, ℤ, List, [], ◌∷◌, ◌++◌, take, length, Option, Some, None, refl, sym, ap, subst, arith}
use Rattle.std.specs.List.{All}
use Rattle.index_sorts.specs.Context.{IndexContext}
use Rattle.state_types.specs.Words.{Headers, Keeps}
use Rattle.state_types.specs.declared.state.StateType.{StateType}
use Rattle.state_types.proofs.Walks.{type_stays}
use Rattle.operation_rules.specs.Applied.{Ruled}
use Rattle.operation_rules.specs.Sound.{Written, Grows}
use Rattle.dtal_code.specs.declared.program.DtalProgram.{DtalProgram}
use Rattle.dtal_code.specs.declared.program.Function.{Function}
use Rattle.dtal_code.specs.Declarations.{state_of}
use Rattle.dtal_code.specs.Machine.{Activation, moved_on}
use Rattle.dtal_code.specs.Passing.{with_types}
use Rattle.dtal_code.specs.Running.{with_words}
use Rattle.dtal_code.proofs.TypesBelow.{place_below}
use Rattle.dtal_safety.specs.Fitting.{Located, Holds, Stands, Waits, AllWait}
use Rattle.dtal_safety.proofs.PlacesHold.{AreTyped, words_written}
use Rattle.dtal_safety.proofs.ProperStates.{IsProper}

-- ---- a store that grows

pub holds_stay : (old new : Headers) (places assignment : List ℤ) (state : StateType) → Keeps old new → Holds old places assignment state → Holds new places assignment state
holds_stay old new places assignment state keeps holds = record {
  one_each = holds.one_each;
  hold = holds.hold;
  typed = λ place t e. type_stays old new assignment _ t keeps (holds.typed place t e);
}

module _ (program : DtalProgram) (states : List (List StateType)) where
  pub stands_stay : (old new : Headers) (number : ℕ) (fun : Function) (values : List ℤ) (act : Activation) → Keeps old new
      → Stands program states old number fun values act → Stands program states new number fun values act
  stands_stay old new number fun values act keeps stands = record {
    state = stands.state;
    located = stands.located;
    places = stands.places;
    assignment = stands.assignment;
    own = stands.own;
    holds = holds_stay old new act.places stands.assignment stands.state keeps stands.holds;
  }

  waits_stay : (old new : Headers) (number : ℕ) (fun : Function) (values : List ℤ) (place : ℕ) (caller : Activation) (lower : ℕ) (outer : Function) (given : List ℤ) → Keeps old new
      → Waits program states old number fun values place caller lower outer given → Waits program states new number fun values place caller lower outer given
  unfolding stands_stay
  waits_stay old new number fun values place caller lower outer given keeps waits = record {
    stands = stands_stay old new lower outer given caller keeps waits.stands;
    is_call = waits.is_call;
    is_place = waits.is_place;
    ruled = waits.ruled;
    is_ruled = waits.is_ruled;
    back = waits.back;
  }

  pub all_stay : (old new : Headers) (callers : List Activation) (number : ℕ) (fun : Function) (values : List ℤ) (result_to : Option ℕ) → Keeps old new
      → AllWait program states old callers number fun values result_to → AllWait program states new callers number fun values result_to
  unfolding AllWait
  all_stay old new [] number fun values None keeps wait = wait
  all_stay old new [] number fun values (Some place) keeps wait = wait
  all_stay old new (caller ∷ callers) number fun values None keeps wait = wait
  all_stay old new (caller ∷ callers) number fun values (Some place) keeps wait = record {
    lower = wait.lower;
    outer = wait.outer;
    given = wait.given;
    waits = waits_stay old new number fun values place caller wait.lower wait.outer wait.given keeps wait.waits;
    others = all_stay old new callers wait.lower wait.outer wait.given caller.result_to keeps wait.others;
  }

-- ---- an activation that goes on

pub take_front : (n : ℕ) (xs ys : List ℤ) → n ≤ length xs → take n (xs ++ ys) ≡ take n xs
take_front zero xs ys h = refl
take_front (suc n) [] ys h = absurd (omega arith)
take_front (suc n) (x ∷ xs) ys h = ap (λ zs. x ∷ zs) (take_front n xs ys (omega arith))

module _ (old new : Headers) (places assignment own : List ℤ) (state : StateType) (more : IndexContext) (own_vars : ℕ) where
  still_typed : Keeps old new → IsProper own_vars state → Grows assignment own state.ctx more → Holds old places assignment state
      → AreTyped new (assignment ++ own) places state.places
  still_typed keeps proper grows holds place t e =
      (grows.keep t (place_below state.ctx.vars place state.places t e proper.names.places)).carries new _ (type_stays old new assignment _ t keeps (holds.typed place t e))

-- the places in which the words stand, and the activation then
pub record GoesOn (program : DtalProgram) (states : List (List StateType)) (headers : Headers) (number : ℕ) (fun : Function) (values : List ℤ) (act : Activation)
    (writes : List ℕ) (words : List ℤ) : Type 0 where
  pub places : List ℤ
  pub are : with_words act.places writes words ≡ Some places
  pub stands : Stands program states headers number fun values (moved_on act places)

module _ (program : DtalProgram) (states : List (List StateType)) (old new : Headers) (number : ℕ) (fun : Function) (values : List ℤ) (act : Activation)
    (stands : Stands program states old number fun values act) (proper : IsProper fun.sig.vars stands.state) (keeps : Keeps old new) where
  -- behind the words that its rule gives
  pub written_stands : (ruled : Ruled) (writes : List ℕ) (words : List ℤ) → Written new stands.assignment stands.state.ctx ruled words → All (λ place. place < 256) writes
      → length words ≡ length writes
      → Located program states (suc act.at) number fun (state_of ruled.ctx (with_types writes ruled.types stands.state.places))
      → GoesOn program states new number fun values act writes words
  written_stands ruled writes words written within many located =
      let longer = stands.assignment ++ written.own in
      let typed = still_typed old new act.places stands.assignment written.own stands.state ruled.ctx fun.sig.vars keeps proper written.grows stands.holds in
      let inside : All (λ place. place < length act.places) writes = subst (λ n. All (λ (p : ℕ). p < n) writes) (sym stands.places) within in
      let put = words_written new longer writes words ruled.types act.places stands.state.places inside many written.typed typed in
      let le = proper.own_vars in
      let one = stands.holds.one_each in
      record {
        places = put.new;
        are = put.are;
        stands = record {
          state = state_of ruled.ctx (with_types writes ruled.types stands.state.places);
          located = located;
          places = put.as_many ∙ stands.places;
          assignment = longer;
          own = take_front fun.sig.vars stands.assignment written.own (omega (arith, le, one)) ∙ stands.own;
          holds = record { one_each = written.grows.one_each; hold = written.grows.hold; typed = put.typed };
        };
      }
