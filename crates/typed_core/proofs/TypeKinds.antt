-- The kinds of types of a state, and what a type of a kind answers.
use Rattle.std.proofs.Common.{◌≡◌, ℕ, List, [], ◌∷◌, ◌++◌, ◌==◌, length, Bool as Truth, true, false, cond, Option, Some, Ok, Err, refl, sym, ap, subst, ◌∙◌, arith, eq-eqb}
use Rattle.xan_lin.specs.Linear.{Linear}
use Rattle.xan_lin.specs.Subst.{subst_of}
use Rattle.state_types.specs.Types.{same_kind, subst_ty}
use Rattle.state_types.specs.Unpacking.{shifted_type}
use Rattle.state_types.specs.declared.types.Ty.{Ty}
use Rattle.state_types.specs.declared.types.Ty.TheVariants as ty
use Rattle.xanadu_tree.specs.declared.types.CoreTy.{CoreTy}
use Rattle.xanadu_tree.specs.declared.types.CoreTy.TheVariants as core_ty
use Rattle.xanadu_tree.specs.declared.types.Kind.{Kind}
use Rattle.xanadu_tree.specs.declared.types.Kind.TheVariants as kind
use Rattle.xanadu_tree.specs.KindRules.{kind_of, IsValue}
use Rattle.typed_core.specs.Forms.{form_of, type_of, renamed_type}
use Rattle.operation_rules.specs.Faults.{Ruling}
use Rattle.operation_rules.specs.declared.error.Fault.TheVariants.{WrongKind}
use Rattle.operation_rules.specs.Rules as rules
use Rattle.operation_rules.specs.Rules.{as_number, as_truth, as_array}
use Rattle.typed_core.specs.States.{as_tuple}
use Rattle.typed_core.proofs.LimitedAnswers.{Answers, Anything, Fits, Rules, then_answers, any_answer}

abbrev pub ty_kind : Ty → Kind
ty_kind (ty.Int e) = kind.Int
ty_kind ty.Bool = kind.Bool
ty_kind (ty.Array number e) = kind.Array number
ty_kind (ty.Named number) = kind.Named number

-- types of these kinds, place by place
abbrev pub HaveKindsOf : List Kind → List Ty → Type 0
HaveKindsOf [] [] = Unit {0}
HaveKindsOf [] (t ∷ ts) = ⊥
HaveKindsOf (k ∷ ks) [] = ⊥
HaveKindsOf (k ∷ ks) (t ∷ ts) = (k ≡ ty_kind t) × HaveKindsOf ks ts

-- what an expression of a kind has: that of no value is any
abbrev pub IsOfKind : Kind → Ty → Type 0
IsOfKind k t = IsValue k → k ≡ ty_kind t

abbrev pub AreOfKinds : List Kind → List Ty → Type 0
AreOfKinds [] [] = Unit {0}
AreOfKinds [] (t ∷ ts) = ⊥
AreOfKinds (k ∷ ks) [] = ⊥
AreOfKinds (k ∷ ks) (t ∷ ts) = IsOfKind k t × AreOfKinds ks ts

pub some_kind : {j k : Kind} → j ≡ k → ◌≡◌ {A = Option Kind} (Some j) (Some k)
some_kind e = ap (λ k. let o : Option Kind = Some k in o) e

pub have_value : (t : Ty) → IsValue (ty_kind t)
have_value (ty.Int e) = tt
have_value ty.Bool = tt
have_value (ty.Array number e) = tt
have_value (ty.Named number) = tt

-- an expression's type beside one that a value of its kind has
pub wanted_kind : (k : Kind) (wanted actual : Ty) → k ≡ ty_kind wanted → IsOfKind k actual → ty_kind wanted ≡ ty_kind actual
wanted_kind k wanted actual e of_kind = sym e ∙ of_kind (subst IsValue (sym e) (have_value wanted))

pub are_with : (ks : List Kind) (k : Kind) (ts : List Ty) (t : Ty) → AreOfKinds ks ts → IsOfKind k t → AreOfKinds (ks ++ k ∷ []) (ts ++ t ∷ [])
are_with [] k [] t h it = (it, tt)
are_with [] k (u ∷ us) t h it = absurd h
are_with (j ∷ js) k [] t h it = absurd h
are_with (j ∷ js) k (u ∷ us) t h it = (h.0, are_with js k us t h.1 it)

-- ---- numbers of kinds

number_or : ℕ → Kind → ℕ
number_or other (kind.Array number) = number
number_or other (kind.Named number) = number
number_or other _ = other

pub same_element : (a b : ℕ) → kind.Array a ≡ kind.Array b → a ≡ b
unfolding number_or
same_element a b e = ap (number_or a) e

pub same_tuple : (a b : ℕ) → kind.Named a ≡ kind.Named b → a ≡ b
unfolding number_or
same_tuple a b e = ap (number_or a) e

pub like_kinds : (s t : Ty) → ty_kind s ≡ ty_kind t → same_kind s t ≡ true
like_kinds (ty.Int e) (ty.Int f) h = refl
like_kinds ty.Bool ty.Bool h = refl
like_kinds (ty.Array a e) (ty.Array b f) h = eq-eqb a b (same_element a b h)
like_kinds (ty.Named a) (ty.Named b) h = eq-eqb a b (same_tuple a b h)
like_kinds _ _ h = absurd (cc)

-- ---- looking at a type

pub number_rules : (t : Ty) → kind.Int ≡ ty_kind t → Rules Anything (as_number t)
number_rules (ty.Int e) h = record { is = tt }
number_rules ty.Bool h = absurd (cc)
number_rules (ty.Array number e) h = absurd (cc)
number_rules (ty.Named number) h = absurd (cc)

pub truth_rules : (t : Ty) → kind.Bool ≡ ty_kind t → Rules Anything (as_truth t)
truth_rules (ty.Int e) h = absurd (cc)
truth_rules ty.Bool h = record { is = tt }
truth_rules (ty.Array number e) h = absurd (cc)
truth_rules (ty.Named number) h = absurd (cc)

pub array_rules : (element : ℕ) (t : Ty) → kind.Array element ≡ ty_kind t → Rules (λ r. element ≡ r.0) (as_array t)
array_rules element (ty.Int e) h = absurd (cc)
array_rules element ty.Bool h = absurd (cc)
array_rules element (ty.Array number e) h = record { is = same_element element number h }
array_rules element (ty.Named number) h = absurd (cc)

tuple_by : (b : Truth) → b ≡ true → Rules Anything (let r : Ruling (Unit {0}) = cond b (Ok tt) (Err WrongKind) in r)
tuple_by true e = record { is = tt }
tuple_by false e = absurd (cc)

pub tuple_rules : (number : ℕ) (t : Ty) → kind.Named number ≡ ty_kind t → Rules Anything (rules.as_tuple number t)
tuple_rules number (ty.Int e) h = absurd (cc)
tuple_rules number ty.Bool h = absurd (cc)
tuple_rules number (ty.Array n e) h = absurd (cc)
tuple_rules number (ty.Named n) h = tuple_by (number == n) (eq-eqb number n (same_tuple number n h))

pub tuple_fits : (number : ℕ) (t : Ty) → kind.Named number ≡ ty_kind t → Fits (λ n. number ≡ n) (as_tuple t)
tuple_fits number (ty.Int e) h = absurd (cc)
tuple_fits number ty.Bool h = absurd (cc)
tuple_fits number (ty.Array n e) h = absurd (cc)
tuple_fits number (ty.Named n) h = record { is = same_tuple number n h }

-- ---- what keeps a kind

pub type_kind : (t : CoreTy) → Answers Anything (λ u. kind_of t ≡ ty_kind u) (type_of t)
unfolding type_of
type_kind (core_ty.Int form) = then_answers (form_of form) _ (any_answer (form_of form)) (λ f h. record { is = refl })
type_kind core_ty.Bool = record { is = refl }
type_kind (core_ty.Array element form) = then_answers (form_of form) _ (any_answer (form_of form)) (λ f h. record { is = refl })
type_kind (core_ty.Named number) = record { is = refl }

pub subst_kind : (values : List (ℕ × Linear)) (below : ℕ) (t : Ty) → Answers Anything (λ u. ty_kind t ≡ ty_kind u) (subst_ty values below t)
unfolding subst_ty
subst_kind values below (ty.Int e) = then_answers (subst_of values below e) _ (any_answer (subst_of values below e)) (λ f h. record { is = refl })
subst_kind values below ty.Bool = record { is = refl }
subst_kind values below (ty.Array number e) = then_answers (subst_of values below e) _ (any_answer (subst_of values below e)) (λ f h. record { is = refl })
subst_kind values below (ty.Named number) = record { is = refl }

pub renamed_kind : (naming : List (ℕ × Linear)) (own : ℕ) (t : CoreTy) → Answers Anything (λ u. kind_of t ≡ ty_kind u) (renamed_type naming own t)
unfolding renamed_type
renamed_kind naming own t =
    then_answers (type_of t) _ (type_kind t) (λ u h. subst (λ k. Answers Anything (λ v. k ≡ ty_kind v) (subst_ty naming own u)) (sym h) (subst_kind naming own u))

pub shifted_kind : (first : ℕ) (t : Ty) → ty_kind t ≡ ty_kind (shifted_type first t)
shifted_kind first (ty.Int e) = refl
shifted_kind first ty.Bool = refl
shifted_kind first (ty.Array number e) = refl
shifted_kind first (ty.Named number) = refl

-- ---- as many

pub as_many : (ks : List Kind) (wanted actual : List Ty) → HaveKindsOf ks wanted → AreOfKinds ks actual → length wanted ≡ length actual
as_many [] [] [] h g = refl
as_many [] [] (u ∷ us) h g = absurd g
as_many [] (t ∷ ts) us h g = absurd h
as_many (k ∷ ks) [] us h g = absurd h
as_many (k ∷ ks) (t ∷ ts) [] h g = absurd g
as_many (k ∷ ks) (t ∷ ts) (u ∷ us) h g = omega (arith, as_many ks ts us h.1 g.1)
