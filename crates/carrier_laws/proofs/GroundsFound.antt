-- What a shaped program declares is good: its forms are forms, and its types exist.
use Rattle.std.proofs.Common.{◌≡◌, ◌≢◌, ℕ, zero, suc, ◌+◌, ◌≤◌, ◌<◌, ℤ, pos, negsuc, List, [], ◌∷◌, ◌++◌, map, length, slice_get, true, Some, Result, Ok, Err, refl, subst, arith}
use Rattle.std.specs.Prelude.{nat_le, ◌&&◌, not}
use Rattle.std.specs.List.{AllByRecursion}
use Rattle.std.proofs.lemmas.Bool.Decides.{nat_tests}
use Rattle.std.proofs.lemmas.Option.{slice_get_within, same_Some}
use Rattle.xan_lin.specs.Linear.{Linear, IsForm}
use Rattle.xan_lin.specs.Terms.{IsRising}
use Rattle.xan_lin.specs.declared.term.LimitKind.TheVariants as limit
use Rattle.xan_lin.specs.declared.term.TooLarge.{TooLarge}
use Rattle.xan_lin.proofs.Booleans.{both}
use Rattle.state_types.specs.Answers.{◌>>=◌}
use Rattle.state_types.specs.Tables.{int_cell, bool_cell}
use Rattle.state_types.specs.declared.closed.Packed.{Packed}
use Rattle.state_types.specs.declared.closed.Signature.{Signature}
use Rattle.state_types.specs.declared.types.Ty.{Ty}
use Rattle.state_types.specs.declared.types.Ty.TheVariants as ty
use Rattle.operation_rules.specs.Faults.{or_fault}
use Rattle.operation_rules.specs.Rules.{cell_at}
use Rattle.operation_rules.specs.declared.error.Fault.TheVariants.{NoType}
use Rattle.operation_rules.proofs.RuleFacts.{or_fault_ok}
use Rattle.state_types.proofs.Thens.{then_ok}
use Rattle.xanadu_tree.specs.declared.linear.Linear.{Linear as Exact}
use Rattle.xanadu_tree.specs.declared.types.CoreTy.{CoreTy}
use Rattle.xanadu_tree.specs.declared.types.CoreTy.TheVariants as core_ty
use Rattle.xanadu_tree.specs.declared.types.Packing.{Packing}
use Rattle.xanadu_tree.specs.BodyRules.{IsType}
use Rattle.xanadu_tree.specs.IndexRules.{Stretch}
use Rattle.xanadu_tree.specs.KindRules.{Setting, Header}
use Rattle.xanadu_tree.specs.Plain as core
use Rattle.xanadu_tree.specs.Shaped.{IsPacking, IsFunction}
use Rattle.typed_core.specs.Forms.{term_of, form_of, type_of, forms_from, types_from}
use Rattle.typed_core.specs.Headers.{closed_type, closed_types, signature, signatures}
use Rattle.typed_core.specs.Limits.{within, needed, held}
use Rattle.typed_core.specs.States.{Site}
use Rattle.typed_core.specs.Strays.{is_zero, terms_rise, form_rises, type_rises, is_closed}
use Rattle.typed_core.proofs.Continued.{Goes, held_known}
use Rattle.typed_core.proofs.FitOperands.{Suits}
use Rattle.typed_core.proofs.LimitedAnswers.{then_answers, any_answer}
use Rattle.xanadu_tree.specs.KindRules.{header}
use Rattle.xanadu_tree.specs.Shaped.{Shaped}
use Rattle.typed_core.specs.Goals.{Elaboration}
use Rattle.typed_core.proofs.NamedStates.{answered}
use Rattle.source_safety.specs.Recorded.{site_of}
use Rattle.source_safety.proofs.BodiesStart.{setting_in, IsBody}
use Rattle.carrier_laws.proofs.PlacesKept.{Grounds}
use Rattle.carrier_laws.proofs.KeptJoins.{CoreExists}
use Rattle.carrier_laws.proofs.RulesKept.{IsGood, IsGoodPacked, IsGoodSignature, sized_form, variable_is_form}

-- ---- forms

at_most : (m n : ℕ) → nat_le m n ≡ true → m ≤ n
at_most m n e = grind (arith, nat_tests)

not_zero : (c : ℤ) → not (is_zero c) ≡ true → c ≢ pos 0
not_zero (pos zero) e h = cc
not_zero (pos (suc n)) e h = cc
not_zero (negsuc n) e h = cc

rising : (low : ℕ) (ts : List (ℤ × ℕ)) → terms_rise low ts ≡ true → IsRising low (map term_of ts)
unfolding terms_rise
rising low [] e = tt
rising low (t ∷ ts) e =
    (let a = both (nat_le low t.1) (not (is_zero t.0) && terms_rise (suc t.1) ts) e in
    let b = both (not (is_zero t.0)) (terms_rise (suc t.1) ts) a.1 in
    (at_most low t.1 a.0, not_zero t.0 b.0, rising (suc t.1) ts b.1))

form_good : (form : Exact) (f : Linear) → form_rises form ≡ true → form_of form ≡ Ok f → IsForm f
form_good form f rises e = sized_form (map term_of form.terms) form.constant f (rising 0 form.terms rises) e

push : {A : Type 0} (P : A → Type 0) (xs : List A) (y : A) → AllByRecursion P xs → P y → AllByRecursion P (xs ++ y ∷ [])
push P [] y all p = (p, tt)
push P (x ∷ xs) y all p = (all.0, push P xs y all.1 p)

needed_form : (m : Result Linear TooLarge) → ((f : Linear) → m ≡ Ok f → IsForm f) → Goes IsForm (needed m)
needed_form (Ok f) h = record { is = h f refl }
needed_form (Err why) h = record { is = tt }

forms_good : (forms : List Exact) (made : List Linear) → AllByRecursion IsForm made → Goes (AllByRecursion IsForm) (forms_from forms made)
unfolding forms_from
forms_good [] made all = record { is = all }
forms_good (form ∷ forms) made all =
    then_answers (held (form_rises form)) _ (held_known (form_rises form))
    (λ u rises. then_answers (needed (form_of form)) _ (needed_form (form_of form) (λ f e. form_good form f rises e))
    (λ one is. forms_good forms (made ++ one ∷ []) (push IsForm made one all is)))

-- ---- types

module _ (types : List Packing) (table : List Packed) (exist : (reach : List Stretch) (c : CoreTy) → IsType types reach c → CoreExists table c) where
  type_good : (reach : List Stretch) (c : CoreTy) → IsType types reach c → type_rises c ≡ true → Goes (IsGood table) (needed (type_of c))
  unfolding type_of
  type_good reach (core_ty.Int form) is rises = by_form (form_of form) (λ f e. form_good form f rises e)
    where
      by_form : (m : Result Linear TooLarge) → ((f : Linear) → m ≡ Ok f → IsForm f) → Goes (IsGood table) (needed (m >>= (λ index. let r : Result Ty TooLarge = Ok (ty.Int index) in r)))
      by_form (Ok f) h = record { is = (h f refl, tt) }
      by_form (Err why) h = record { is = tt }
  type_good reach core_ty.Bool is rises = record { is = (tt, tt) }
  type_good reach (core_ty.Array p form) is rises = by_form (form_of form) (λ f e. form_good form f rises e) (exist reach (core_ty.Array p form) is)
    where
      by_form : (m : Result Linear TooLarge) → ((f : Linear) → m ≡ Ok f → IsForm f) → p < length table
          → Goes (IsGood table) (needed (m >>= (λ index. let r : Result Ty TooLarge = Ok (ty.Array p index) in r)))
      by_form (Ok f) h less = record { is = (h f refl, less) }
      by_form (Err why) h less = record { is = tt }
  type_good reach (core_ty.Named number) is rises = record { is = (tt, exist reach (core_ty.Named number) is) }

  types_good : (reach : List Stretch) (cs : List CoreTy) (made : List Ty) → AllByRecursion (IsType types reach) cs → AllByRecursion (IsGood table) made
      → Goes (AllByRecursion (IsGood table)) (types_from cs made)
  unfolding types_from
  types_good reach [] made are all = record { is = all }
  types_good reach (c ∷ cs) made are all =
      then_answers (held (type_rises c)) _ (held_known (type_rises c))
      (λ u rises. then_answers (needed (type_of c)) _ (type_good reach c are.0 rises)
      (λ one g. types_good reach cs (made ++ one ∷ []) are.1 (push (IsGood table) made one all g)))

  packed_good : (p : Packing) → IsPacking types p → Goes (IsGoodPacked table) (closed_type p)
  unfolding closed_type
  packed_good p is =
      then_answers (forms_from p.quant.rows []) _ (forms_good p.quant.rows [] tt)
      (λ rows h. then_answers (types_from p.parts []) _ (types_good _ p.parts [] is.parts tt)
      (λ parts k. then_answers (within limit.Variables p.quant.count) _ (any_answer (within limit.Variables p.quant.count))
      (λ a u. then_answers (within limit.Rows (length p.quant.rows)) _ (any_answer (within limit.Rows (length p.quant.rows)))
      (λ b v. let made : Packed = record { vars = p.quant.count; rows = rows; parts = parts; tuple = p.tuple } in
      then_answers (held (is_closed made)) _ (any_answer (held (is_closed made))) (λ c w. record { is = record { rows = h; parts = k } })))))

  all_packed : (ps : List Packing) (made : List Packed) → AllByRecursion (IsPacking types) ps → AllByRecursion (IsGoodPacked table) made
      → Goes (AllByRecursion (IsGoodPacked table)) (closed_types ps made)
  unfolding closed_types
  all_packed [] made are all = record { is = all }
  all_packed (p ∷ ps) made are all =
      then_answers (closed_type p) _ (packed_good p are.0) (λ one g. all_packed ps (made ++ one ∷ []) are.1 (push (IsGoodPacked table) made one all g))

  cells_good : AllByRecursion (IsGoodPacked table) (int_cell ∷ bool_cell ∷ [])
  cells_good = (record { rows = tt; parts = ((variable_is_form 0, tt), tt) }, (record { rows = tt; parts = ((tt, tt), tt) }, tt))

  module _ (headers : List Header) where
    signature_good : (f : core.Fun) → IsFunction types headers f → Goes (IsGoodSignature table) (signature f)
    unfolding signature
    signature_good f is =
        then_answers (forms_from f.quant.rows []) _ (forms_good f.quant.rows [] tt)
        (λ rows h. then_answers (types_from f.params []) _ (types_good _ f.params [] is.params tt)
        (λ params k. then_answers (forms_from f.result_quant.rows []) _ (any_answer (forms_from f.result_quant.rows []))
        (λ result_rows u. then_answers (held (type_rises f.result)) _ (held_known (type_rises f.result))
        (λ v rises. then_answers (needed (type_of f.result)) _ (type_good _ f.result is.result rises)
        (λ result g. then_answers (within limit.Variables (f.quant.count + f.result_quant.count)) _ (any_answer (within limit.Variables (f.quant.count + f.result_quant.count)))
        (λ a x. then_answers (within limit.Rows (length f.quant.rows)) _ (any_answer (within limit.Rows (length f.quant.rows)))
        (λ b y. then_answers (within limit.Rows (length f.result_quant.rows)) _ (any_answer (within limit.Rows (length f.result_quant.rows)))
        (λ c z. record { is = record { rows = h; params = k; result = g } }))))))))

    all_signed : (fs : List core.Fun) (made : List Signature) → AllByRecursion (IsFunction types headers) fs → AllByRecursion (IsGoodSignature table) made
        → Goes (AllByRecursion (IsGoodSignature table)) (signatures fs made)
    unfolding signatures
    all_signed [] made are all = record { is = all }
    all_signed (f ∷ fs) made are all =
        then_answers (signature f) _ (signature_good f are.0) (λ one g. all_signed fs (made ++ one ∷ []) are.1 (push (IsGoodSignature table) made one all g))

pub at_number : {A : Type 0} (P : A → Type 0) (xs : List A) (n : ℕ) (x : A) → AllByRecursion P xs → slice_get xs n ≡ Some x → P x
at_number P [] n x all e = absurd (let bad : ⊥ = cc in bad)
at_number P (y ∷ ys) zero x all e = subst P (same_Some y x e) all.0
at_number P (y ∷ ys) (suc n) x all e = at_number P ys n x all.1 e

-- ---- types exist

cell_there : (table : List Packed) (n : ℕ) (p : Packed) → cell_at table n ≡ Ok p → n < length table
unfolding cell_at
cell_there table n p e =
    (let s = then_ok (or_fault NoType (slice_get table n)) _ p e in slice_get_within table n s.value (or_fault_ok NoType (slice_get table n) s.value s.first))

pub types_exist : (set : Setting) (site : Site) → Suits set site → (reach : List Stretch) (c : CoreTy) → IsType set.types reach c → CoreExists site.table c
types_exist set site suits reach (core_ty.Int form) is = tt
types_exist set site suits reach core_ty.Bool is = tt
types_exist set site suits reach (core_ty.Array p form) is = (let c = suits.cells p is.0.0 is.0.1 in cell_there site.table p c.packed c.at)
types_exist set site suits reach (core_ty.Named n) is = (let c = suits.tuples n is.0 is.1 in (c.packed, c.at))

-- ---- a function

-- what stands throughout the body of a function of an elaborated core that keeps the rules
pub grounds_found : (program : core.Program) (made : Elaboration) → Shaped program → (fun : ℕ) (f : core.Fun) (b : IsBody program made fun f)
    → Grounds (setting_in program f) (site_of made fun b.segment.own)
grounds_found program made shape fun f b =
    let site = site_of made fun b.segment.own in
    let exist = types_exist (setting_in program f) site b.suits in
    let packed = answered (closed_types program.types (int_cell ∷ bool_cell ∷ [])) made.table
    (all_packed program.types made.table exist program.types (int_cell ∷ bool_cell ∷ []) shape.types (cells_good program.types made.table exist)) b.segment.types in
    let signed = answered (signatures program.funs []) made.sigs (all_signed program.types made.table exist (map header program.funs) program.funs [] shape.functions tt) b.segment.headers in
    record {
      ground = record {
        are = record { packed = λ n p e. at_number (IsGoodPacked made.table) made.table n p packed e; signed = λ n s e. at_number (IsGoodSignature made.table) made.sigs n s signed e };
        exist = exist;
      };
      suits = b.suits;
      closed = b.sound.table;
    }
