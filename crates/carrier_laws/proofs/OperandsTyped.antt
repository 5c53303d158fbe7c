-- An operand is where it waits: a variable in its own place, any other in the temporary of its depth.
use Rattle.std.proofs.Common.{◌≡◌, ◌≢◌, ◌∙◌, ℕ, zero, suc, ◌+◌, List, [], ◌∷◌, ◌++◌, length, slice_get, Option, Some, None, Ok, refl, sym, ap, subst, arith}
use Rattle.std.proofs.lemmas.List.{length-append}
use Rattle.std.proofs.lemmas.Option.{slice_get_within}
use Rattle.state_types.specs.Answers.{◌>>=◌}
use Rattle.state_types.specs.PlaceTypes.{type_at}
use Rattle.state_types.specs.declared.state.StateType.{StateType}
use Rattle.state_types.specs.declared.types.Ty.{Ty}
use Rattle.state_types.proofs.Thens.{then_ok, ok_same}
use Rattle.three_address.specs.declared.instruction.LowInstr.{LowInstr}
use Rattle.value_lowering.specs.Frames.{temporary, operand_place}
use Rattle.value_lowering.specs.ValueCode.{value_code, operand_code, operand_at}
use Rattle.xanadu_tree.specs.Plain as core
use Rattle.typed_core.specs.Limits.{Walk as Limited}
use Rattle.typed_core.specs.Operands.{operand}
use Rattle.typed_core.specs.Places.{behind}
use Rattle.typed_core.specs.States.{State, there}
use Rattle.typed_core.proofs.Continued.{no_more, one_more}
use Rattle.type_carrier.specs.CarriedValues.{Carried, value, operand_carried}
use Rattle.type_carrier.specs.CarriedValues as carried
use Rattle.carrier_laws.proofs.ChainsTyped.{CodeAt}
use Rattle.carrier_laws.proofs.DemandsProved.{seam}
use Rattle.carrier_laws.proofs.ValuesPlaced.{Temporaries, Where, InTemporary, InVariable}
use Rattle.carrier_laws.proofs.OperandsRun.{Walk, Ahead, Here, no_code, Waits, Valued}

-- no temporary that waits is this place
abbrev pub Keeps : (vars : ℕ) → List Ty → (to : ℕ) → Type 0
Keeps vars ts to = (k : ℕ) (u : Ty) → slice_get ts k ≡ Some u → vars + k ≢ to

-- what the code of a value does, wherever it stands
pub record ValueTyped (w : Walk) (e : core.Expr) : Type 0 where
  pub is : (d to p : ℕ) (s : StateType) (st : State) (ts : List Ty) (c : Carried) (t : Ty) (more : State) → Here w p s st ts c.notes → length ts ≡ d
      → CodeAt w.body p (value_code w.vars e d to) → Keeps w.vars ts to → operand w.site e st ≡ Ok (t, more) → Ahead w more
      → Valued w p s (value_code w.vars e d to) c (value w.proofs e c) st more ts to t

-- an operand that waits
pub record OperandWaits (w : Walk) (e : core.Expr) (d p : ℕ) (s : StateType) (st : State) (ts : List Ty) (c : Carried) (t : Ty) (more : State) : Type 0 where
  pub us : List Ty
  pub q : ℕ
  pub waits : Waits w p q s (operand_at w.vars e d) c (carried.operand w.proofs e c) st more ts us
  pub place : Where w.vars us more.types (operand_place w.vars e d) t
  pub deep : length us ≡ behind e d

pub record OperandTyped (w : Walk) (e : core.Expr) : Type 0 where
  pub is : (d p : ℕ) (s : StateType) (st : State) (ts : List Ty) (c : Carried) (t : Ty) (more : State) → Here w p s st ts c.notes → length ts ≡ d
      → CodeAt w.body p (operand_at w.vars e d) → operand w.site e st ≡ Ok (t, more) → Ahead w more → OperandWaits w e d p s st ts c t more

-- ---- a value in the temporary behind those that wait

module _ (w : Walk) where
  -- the new temporary is behind the others; these are the ones from a number on
  from_number : (s : StateType) (t u : Ty) (n : ℕ) (xs : List Ty) (k : ℕ) → ((j : ℕ) (v : Ty) → slice_get xs j ≡ Some v → type_at (w.vars + (n + j)) s.places ≡ Some v)
      → type_at (w.vars + (n + length xs)) s.places ≡ Some t → slice_get (xs ++ t ∷ []) k ≡ Some u → type_at (w.vars + (n + k)) s.places ≡ Some u
  from_number s t u n [] zero waits there e = there ∙ e
  from_number s t u n [] (suc k) waits there e = absurd (let bad : ⊥ = cc in bad)
  from_number s t u n (x ∷ xs) zero waits there e = waits zero u e
  from_number s t u n (x ∷ xs) (suc k) waits there e =
      subst (λ m. type_at (w.vars + m) s.places ≡ Some u) (omega arith)
      (from_number s t u (suc n) xs k (λ j v f. subst (λ m. type_at (w.vars + m) s.places ≡ Some v) (omega arith) (waits (suc j) v f))
      (subst (λ m. type_at (w.vars + m) s.places ≡ Some t) (omega arith) there) e)

  all_temporaries : (s : StateType) (ts : List Ty) (t : Ty) → Temporaries w.vars s ts → type_at (w.vars + length ts) s.places ≡ Some t → Temporaries w.vars s (ts ++ t ∷ [])
  all_temporaries s ts t waits there = record {
    each = λ k u e. subst (λ m. type_at (w.vars + m) s.places ≡ Some u) (omega arith)
        (from_number s t u 0 ts k (λ j v f. subst (λ m. type_at (w.vars + m) s.places ≡ Some v) (omega arith) (waits.each j v f))
        (subst (λ m. type_at (w.vars + m) s.places ≡ Some t) (omega arith) there) e);
  }

  pub put_behind : (p : ℕ) (s : StateType) (code : List LowInstr) (c d : Carried) (st more : State) (ts : List Ty) (t : Ty) → Here w p s st ts c.notes
      → Valued w p s code c d st more ts (w.vars + length ts) t → Waits w p (p + length code) s code c d st more ts (ts ++ t ∷ [])
  put_behind p s code c d st more ts t here v = record {
    end = v.end;
    runs = v.runs;
    there = refl;
    here = record {
      now = record {
        ctx = v.came.ctx;
        types = λ x u live e. v.came.types x u live (λ same. not_variable x u e same) e;
      };
      waits = all_temporaries v.end ts t v.came.temporaries v.came.value;
      remains = v.left;
      within = λ x u e. here.within x u (ap (λ es. type_at x es) (sym v.types) ∙ e);
      few = v.few;
    };
    types = v.types;
    grows = one_more ts t;
  }
    where
      not_variable : (x : ℕ) (u : Ty) → type_at x more.types ≡ Some u → x ≡ w.vars + length ts → ⊥
      not_variable x u e same = (let lt = here.within x u (ap (λ es. type_at x es) (sym v.types) ∙ e) in omega (arith, lt, same))

  -- an expression that is put into a temporary
  record IsPut (e : core.Expr) : Type 0 where
    code : (x : List LowInstr) → operand_code e x ≡ x
    carries : (v c : Carried) → operand_carried e v c ≡ v
    place : (d : ℕ) → operand_place w.vars e d ≡ temporary w.vars d
    deep : (d : ℕ) → behind e d ≡ suc d

  put : (e : core.Expr) → IsPut e → ValueTyped w e → OperandTyped w e
  put e is v = record {
    is = λ d p s st ts c t more here depth at made ahead.
        let whole = value_code w.vars e d (temporary w.vars d) in
        let at_whole = subst (λ (x : List LowInstr). CodeAt w.body p x) (is.code whole) at in
        let same_place : temporary w.vars d ≡ w.vars + length ts = ap (λ n. w.vars + n) (sym depth) in
        let done = v.is d (temporary w.vars d) p s st ts c t more here depth at_whole (λ k u there same. too_far ts k u d there depth same) made ahead in
        let waits = put_behind p s whole c (value w.proofs e c) st more ts t here (subst (λ n. Valued w p s whole c (value w.proofs e c) st more ts n t) same_place done) in
        record {
          us = ts ++ t ∷ [];
          q = p + length whole;
          waits = subst (λ (x : List LowInstr). Waits w p (p + length whole) s x c (carried.operand w.proofs e c) st more ts (ts ++ t ∷ [])) (sym (is.code whole))
              (subst (λ (x : Carried). Waits w p (p + length whole) s whole c x st more ts (ts ++ t ∷ [])) (sym (is.carries (value w.proofs e c) c)) waits);
          place = InTemporary (length ts) (is.place d ∙ same_place) (seam ts [] t);
          deep = length-append ts (t ∷ []) ∙ omega (arith, depth) ∙ sym (is.deep d);
        };
  }
    where
      too_far : (ts : List Ty) (k : ℕ) (u : Ty) (d : ℕ) → slice_get ts k ≡ Some u → length ts ≡ d → w.vars + k ≡ temporary w.vars d → ⊥
      too_far ts k u d there depth same = (let lt = slice_get_within ts k u there in omega (arith, lt, depth, same))

  -- ---- a variable stays in its place

  variable : (x : ℕ) → OperandTyped w (core.Var x)
  unfolding operand
  variable x = record {
    is = λ d p s st ts c t more here depth at made ahead.
        let found = then_ok (there (type_at x st.types)) _ (t, more) (read_of x st t more made) in
        let same = ok_same (found.value, st) (t, more) found.second in
        let stays : st ≡ more = ap (λ (r : Ty × State). r.1) same in
        subst (λ (m : State). OperandWaits w (core.Var x) d p s st ts c t m) stays
        (record {
          us = ts;
          q = p;
          waits = record { end = s; runs = no_code w s c.edges; there = omega arith; here = here; types = refl; grows = no_more ts };
          place = InVariable (there_is (type_at x st.types) found.value found.first ∙ ap (λ (r : Ty × State). Some r.0) same);
          deep = depth;
        });
  }
    where
      read_of : (x : ℕ) (st : State) (t : Ty) (more : State) → operand w.site (core.Var x) st ≡ Ok (t, more) → (there (type_at x st.types) >>= (λ u. (let r : Limited (Ty × State) = Ok (u, st) in r))) ≡ Ok (t, more)
      read_of x st t more e = e

      there_is : (o : Option Ty) (u : Ty) → there o ≡ Ok u → o ≡ Some u
      there_is (Some v) u e = cc
      there_is None u e = cc

  -- ---- any operand

  pub as_operand : (e : core.Expr) → ValueTyped w e → OperandTyped w e
  as_operand (core.Int n) v = put (core.Int n) (record { code = λ x. refl; carries = λ a c. refl; place = λ d. refl; deep = λ d. refl }) v
  as_operand (core.Bool b) v = put (core.Bool b) (record { code = λ x. refl; carries = λ a c. refl; place = λ d. refl; deep = λ d. refl }) v
  as_operand (core.Var x) v = variable x
  as_operand (core.Neg e) v = put (core.Neg e) (record { code = λ x. refl; carries = λ a c. refl; place = λ d. refl; deep = λ d. refl }) v
  as_operand (core.Chain first rest) v = put (core.Chain first rest) (record { code = λ x. refl; carries = λ a c. refl; place = λ d. refl; deep = λ d. refl }) v
  as_operand (core.Compare r left right) v = put (core.Compare r left right) (record { code = λ x. refl; carries = λ a c. refl; place = λ d. refl; deep = λ d. refl }) v
  as_operand (core.Index array index at) v = put (core.Index array index at) (record { code = λ x. refl; carries = λ a c. refl; place = λ d. refl; deep = λ d. refl }) v
  as_operand (core.Len array) v = put (core.Len array) (record { code = λ x. refl; carries = λ a c. refl; place = λ d. refl; deep = λ d. refl }) v
  as_operand (core.Call fun args at) v = put (core.Call fun args at) (record { code = λ x. refl; carries = λ a c. refl; place = λ d. refl; deep = λ d. refl }) v
  as_operand (core.Make number args at) v = put (core.Make number args at) (record { code = λ x. refl; carries = λ a c. refl; place = λ d. refl; deep = λ d. refl }) v
  as_operand (core.New element len fill at) v = put (core.New element len fill at) (record { code = λ x. refl; carries = λ a c. refl; place = λ d. refl; deep = λ d. refl }) v
