-- The rule of each operation, over types of the kinds that it asks for, is stopped by a limit at most, and gives types of these kinds.
use Rattle.std.proofs.Common.{◌≡◌, ℕ, ℤ, pos, ◌+◌, List, [], ◌∷◌, ◌++◌, map, length, Bool as Truth, Option, Some, None, Result, Ok, Err, refl, sym, subst, ◌∙◌, arith}
use Rattle.std.specs.Prelude.{slice_get}
use Rattle.xan_lin.specs.Linear.{Linear, sum_of, difference_of, product_of, excess_of, sized}
use Rattle.xan_lin.specs.declared.term.TooLarge.{TooLarge}
use Rattle.state_types.specs.Types.{subst_ty}
use Rattle.state_types.specs.Unpacking.{shifted_type}
use Rattle.state_types.specs.declared.closed.Packed.{Packed}
use Rattle.state_types.specs.declared.closed.Signature.{Signature}
use Rattle.state_types.specs.declared.matching.Found.{Found}
use Rattle.state_types.specs.declared.types.Ty.{Ty}
use Rattle.operation_rules.specs.Applied.{all_given}
use Rattle.operation_rules.specs.Faults.{or_fault, needed}
use Rattle.operation_rules.specs.Forms.{constant_form, number_of, variables_from}
use Rattle.operation_rules.specs.Rules as rules
use Rattle.operation_rules.specs.Rules.{Setting, rule}
use Rattle.operation_rules.specs.declared.error.Fault.TheVariants.{NoTarget}
use Rattle.operation_rules.specs.declared.operation.Operation.TheVariants as operation
use Rattle.operation_rules.specs.declared.rule.Rule.{Rule}
use Rattle.xanadu_tree.specs.declared.expr.Op.{Op}
use Rattle.xanadu_tree.specs.declared.expr.Op.TheVariants as op
use Rattle.xanadu_tree.specs.declared.types.Kind.{Kind}
use Rattle.xanadu_tree.specs.declared.types.Kind.TheVariants as kind
use Rattle.typed_core.specs.Operators.{operation_of}
use Rattle.typed_core.proofs.LimitedAnswers.{Answers, Anything, Rules, then_answers, weaker, any_answer, needed_rules, or_rules}
use Rattle.typed_core.proofs.TypeKinds.{ty_kind, HaveKindsOf, IsOfKind, AreOfKinds, number_rules, truth_rules, array_rules, tuple_rules, subst_kind, shifted_kind}
use Rattle.typed_core.proofs.FitMatches.{matching_rules, of_kinds_rules, as_many_rules}

-- ---- what a rule gives

-- a type of each kind, where it is within the bounds
pub AreGivenOf : List Kind → List (Result Ty TooLarge) → Type 0
AreGivenOf [] [] = Unit {0}
AreGivenOf [] (t ∷ ts) = ⊥
AreGivenOf (k ∷ ks) [] = ⊥
AreGivenOf (k ∷ ks) (t ∷ ts) = Answers Anything (IsOfKind k) t × AreGivenOf ks ts

pub record GivesKinds (ks : List Kind) (r : Rule) : Type 0 where
  pub are : AreGivenOf ks r.given

pub all_given_kinds : (ks : List Kind) (ts : List (Result Ty TooLarge)) → AreGivenOf ks ts → Answers Anything (AreOfKinds ks) (all_given ts)
unfolding AreGivenOf all_given
all_given_kinds [] [] are = record { is = tt }
all_given_kinds [] (t ∷ ts) are = absurd are
all_given_kinds (k ∷ ks) [] are = absurd are
all_given_kinds (k ∷ ks) (t ∷ ts) are =
    then_answers t _ are.0 (λ one h. then_answers (all_given ts) _ (all_given_kinds ks ts are.1) (λ others g. record { is = (h, g) }))

-- ---- kinds of rules

gives_none : (demands : List Linear) → GivesKinds [] (rules.gives demands [])
unfolding AreGivenOf
gives_none demands = record { are = tt }

gives_one : (k : Kind) (demands : List Linear) (t : Ty) → IsOfKind k t → GivesKinds (k ∷ []) (rules.gives demands (t ∷ []))
unfolding AreGivenOf
gives_one k demands t h = record { are = (record { is = h }, tt) }

number_gives : (first : ℕ) (form : Result Linear TooLarge) → GivesKinds (kind.Int ∷ []) (rules.gives_number first form)
unfolding AreGivenOf
number_gives first (Ok form) = record { are = (record { is = λ value. refl }, tt) }
number_gives first (Err why) = record { are = (record { is = λ value. refl }, tt) }

fresh_gives : (first : ℕ) (demands : List Linear) (rows : List (Result Linear TooLarge)) → GivesKinds (kind.Int ∷ []) (rules.gives_fresh first demands rows)
unfolding AreGivenOf
fresh_gives first demands rows = record { are = (record { is = λ value. refl }, tt) }

product_gives : (first : ℕ) (f : Linear) (m : Option ℤ) (g : Linear) (n : Option ℤ) → GivesKinds (kind.Int ∷ []) (rules.product first f m g n)
product_gives first f m g (Some n) = number_gives first (product_of f n)
product_gives first f (Some m) g None = number_gives first (product_of g m)
product_gives first f None g None = fresh_gives first [] []

parts_given : (first : ℕ) (ks : List Kind) (parts : List Ty) → HaveKindsOf ks parts
    → AreGivenOf ks (map (λ part. let r : Result Ty TooLarge = Ok (shifted_type first part) in r) parts)
unfolding AreGivenOf
parts_given first [] [] have = tt
parts_given first [] (t ∷ ts) have = absurd have
parts_given first (k ∷ ks) [] have = absurd have
parts_given first (k ∷ ks) (t ∷ ts) have = (record { is = λ value. have.0 ∙ shifted_kind first t }, parts_given first ks ts have.1)

opens_gives : (first : ℕ) (ks : List Kind) (demands : List Linear) (packed : Packed) → HaveKindsOf ks packed.parts → GivesKinds ks (rules.opens first demands packed)
opens_gives first ks demands packed have = record { are = parts_given first ks packed.parts have }

returns_gives : (k : Kind) (first : ℕ) (sig : Signature) (found : Found) → IsOfKind k sig.result → GivesKinds (k ∷ []) (rules.returns first sig found)
unfolding AreGivenOf
returns_gives k first sig found of_kind =
    let all = found.values ++ variables_from sig.vars first sig.result_vars in
    record { are = (weaker (subst_ty all 0 sig.result) (λ t same value. of_kind value ∙ same) (subst_kind all 0 sig.result), tt) }

-- ---- what a body stands in

pub record IsCell (table : List Packed) (element : ℕ) (held : Kind) : Type 0 where
  pub packed : Packed
  pub at : rules.cell_at table element ≡ Ok packed
  pub kinds : HaveKindsOf (held ∷ []) packed.parts

pub record IsTuple (table : List Packed) (number : ℕ) (parts : List Kind) : Type 0 where
  pub packed : Packed
  pub at : rules.tuple_at table number ≡ Ok packed
  pub kinds : HaveKindsOf parts packed.parts

cell_rules : (table : List Packed) (element number : ℕ) (held : Kind) → IsCell table element held → element ≡ number
    → Rules (λ packed. HaveKindsOf (held ∷ []) packed.parts) (rules.cell_at table number)
cell_rules table element number held cell same =
    subst (λ n. Rules (λ packed. HaveKindsOf (held ∷ []) packed.parts) (rules.cell_at table n)) same
    (subst (λ m. Rules (λ packed. HaveKindsOf (held ∷ []) packed.parts) m) (sym cell.at) (record { is = cell.kinds }))

tuple_at_rules : (table : List Packed) (number : ℕ) (parts : List Kind) → IsTuple table number parts
    → Rules (λ packed. HaveKindsOf parts packed.parts) (rules.tuple_at table number)
tuple_at_rules table number parts tuple = subst (λ m. Rules (λ packed. HaveKindsOf parts packed.parts) m) (sym tuple.at) (record { is = tuple.kinds })

have_many : (ks : List Kind) (ts : List Ty) → HaveKindsOf ks ts → length ts ≡ length ks
have_many [] [] h = refl
have_many [] (t ∷ ts) h = absurd h
have_many (k ∷ ks) [] h = absurd h
have_many (k ∷ ks) (t ∷ ts) h = (let rest = have_many ks ts h.1 in omega (arith, rest))

-- ---- two numbers

two_numbers_rules : (t u : Ty) → kind.Int ≡ ty_kind t → kind.Int ≡ ty_kind u → Rules Anything (rules.two_numbers (t ∷ u ∷ []))
unfolding rules.two_numbers
two_numbers_rules t u h g =
    then_answers (rules.as_number t) _ (number_rules t h) (λ f a. then_answers (rules.as_number u) _ (number_rules u g) (λ e b. record { is = tt }))

-- the row of a divisor
divisor_rules : (g : Linear) → Rules Anything (needed (difference_of g (constant_form (pos 1))))
divisor_rules g = needed_rules (difference_of g (constant_form (pos 1))) (any_answer (difference_of g (constant_form (pos 1))))

module _ (set : Setting) (first : ℕ) where
  -- ---- numbers and truth values

  pub literal_rules : (n : ℤ) → Rules (GivesKinds (kind.Int ∷ [])) (rule set (operation.Literal n) [] first)
  unfolding rule
  literal_rules n = record { is = number_gives first (sized [] n) }

  pub truth_value_rules : (b : Truth) → Rules (GivesKinds (kind.Bool ∷ [])) (rule set (operation.Truth b) [] first)
  unfolding rule
  truth_value_rules b = record { is = gives_one kind.Bool [] _ (λ value. refl) }

  quotient_rules : (t u : Ty) → kind.Int ≡ ty_kind t → kind.Int ≡ ty_kind u → Rules (GivesKinds (kind.Int ∷ [])) (rules.quotient first (t ∷ u ∷ []))
  unfolding rules.quotient
  quotient_rules t u h g =
      then_answers (rules.two_numbers (t ∷ u ∷ [])) _ (two_numbers_rules t u h g)
      (λ r a. then_answers (needed (difference_of r.1 (constant_form (pos 1)))) _ (divisor_rules r.1) (λ row b. record { is = fresh_gives first (row ∷ []) _ }))

  remainder_rules : (t u : Ty) → kind.Int ≡ ty_kind t → kind.Int ≡ ty_kind u → Rules (GivesKinds (kind.Int ∷ [])) (rules.remainder first (t ∷ u ∷ []))
  unfolding rules.remainder
  remainder_rules t u h g =
      then_answers (rules.two_numbers (t ∷ u ∷ [])) _ (two_numbers_rules t u h g)
      (λ r a. then_answers (needed (difference_of r.1 (constant_form (pos 1)))) _ (divisor_rules r.1) (λ row b. record { is = fresh_gives first (row ∷ []) _ }))

  pub arithmetic_rules : (o : Op) (t u : Ty) → kind.Int ≡ ty_kind t → kind.Int ≡ ty_kind u → Rules (GivesKinds (kind.Int ∷ [])) (rule set (operation_of o) (t ∷ u ∷ []) first)
  unfolding rule
  arithmetic_rules op.Add t u h g =
      then_answers (rules.two_numbers (t ∷ u ∷ [])) _ (two_numbers_rules t u h g) (λ r a. record { is = number_gives first (sum_of r.0 r.1) })
  arithmetic_rules op.Sub t u h g =
      then_answers (rules.two_numbers (t ∷ u ∷ [])) _ (two_numbers_rules t u h g) (λ r a. record { is = number_gives first (difference_of r.0 r.1) })
  arithmetic_rules op.Mul t u h g =
      then_answers (rules.two_numbers (t ∷ u ∷ [])) _ (two_numbers_rules t u h g) (λ r a. record { is = product_gives first r.0 (number_of r.0) r.1 (number_of r.1) })
  arithmetic_rules op.Div t u h g = quotient_rules t u h g
  arithmetic_rules op.Mod t u h g = remainder_rules t u h g

  pub compare_rules : (c : ℕ) (t u : Ty) → kind.Int ≡ ty_kind t → kind.Int ≡ ty_kind u → Rules (GivesKinds (kind.Bool ∷ [])) (rule set (operation.Compare c) (t ∷ u ∷ []) first)
  unfolding rule
  compare_rules c t u h g =
      then_answers (rules.two_numbers (t ∷ u ∷ [])) _ (two_numbers_rules t u h g) (λ r a. record { is = gives_one kind.Bool [] _ (λ value. refl) })

  pub branch_rules : (c : ℕ) (t u : Ty) → kind.Int ≡ ty_kind t → kind.Int ≡ ty_kind u → Rules (GivesKinds []) (rule set (operation.Branch c) (t ∷ u ∷ []) first)
  unfolding rule
  branch_rules c t u h g = then_answers (rules.two_numbers (t ∷ u ∷ [])) _ (two_numbers_rules t u h g) (λ r a. record { is = gives_none [] })

  pub branch_truth_rules : (b : Truth) (t : Ty) → kind.Bool ≡ ty_kind t → Rules (GivesKinds []) (rule set (operation.BranchTruth b) (t ∷ []) first)
  unfolding rule
  branch_truth_rules b t h = then_answers (rules.as_truth t) _ (truth_rules t h) (λ u a. record { is = gives_none [] })

  pub print_rules : (t : Ty) → kind.Int ≡ ty_kind t → Rules (GivesKinds []) (rule set operation.Print (t ∷ []) first)
  unfolding rule
  print_rules t h = then_answers (rules.as_number t) _ (number_rules t h) (λ f a. record { is = gives_none [] })

  -- ---- arrays

  pub length_rules : (element : ℕ) (t : Ty) → kind.Array element ≡ ty_kind t → Rules (GivesKinds (kind.Int ∷ [])) (rule set operation.Length (t ∷ []) first)
  unfolding rule rules.measured AreGivenOf
  length_rules element t h = then_answers (rules.as_array t) _ (array_rules element t h) (λ r same. record { is = record { are = (record { is = λ value. refl }, tt) } })

  pub load_rules : (element : ℕ) (held : Kind) (t u : Ty) → IsCell set.table element held → kind.Array element ≡ ty_kind t → kind.Int ≡ ty_kind u
      → Rules (GivesKinds (held ∷ [])) (rule set operation.Load (t ∷ u ∷ []) first)
  unfolding rule rules.loaded
  load_rules element held t u cell h g =
      then_answers (rules.as_array t) _ (array_rules element t h)
      (λ r same. then_answers (rules.as_number u) _ (number_rules u g)
      (λ i a. then_answers (needed (excess_of r.1 i)) _ (needed_rules (excess_of r.1 i) (any_answer (excess_of r.1 i)))
      (λ below b. then_answers (rules.cell_at set.table r.0) _ (cell_rules set.table element r.0 held cell same)
      (λ packed kinds. record { is = opens_gives first (held ∷ []) (i ∷ below ∷ []) packed kinds }))))

  pub store_rules : (element : ℕ) (held : Kind) (t u v : Ty) → IsCell set.table element held → kind.Array element ≡ ty_kind t → kind.Int ≡ ty_kind u
      → IsOfKind held v → Rules (GivesKinds []) (rule set operation.Store (t ∷ u ∷ v ∷ []) first)
  unfolding rule rules.stored
  store_rules element held t u v cell h g k =
      then_answers (rules.as_array t) _ (array_rules element t h)
      (λ r same. then_answers (rules.as_number u) _ (number_rules u g)
      (λ i a. then_answers (rules.cell_at set.table r.0) _ (cell_rules set.table element r.0 held cell same)
      (λ packed kinds. then_answers (rules.of_kinds packed.parts (v ∷ [])) _ (of_kinds_rules (held ∷ []) packed.parts (v ∷ []) kinds (k, tt))
      (λ like b. then_answers (needed (excess_of r.1 i)) _ (needed_rules (excess_of r.1 i) (any_answer (excess_of r.1 i)))
      (λ below c. then_answers (rules.matching 0 packed.vars packed.rows packed.parts (v ∷ [])) _
      (matching_rules (held ∷ []) 0 packed.vars packed.rows packed.parts (v ∷ []) kinds (k, tt))
      (λ found d. record { is = gives_none (i ∷ below ∷ found.rows) }))))))

  pub new_rules : (element : ℕ) (held : Kind) (t u : Ty) → IsCell set.table element held → kind.Int ≡ ty_kind t → IsOfKind held u
      → Rules (GivesKinds (kind.Array element ∷ [])) (rule set (operation.New element) (t ∷ u ∷ []) first)
  unfolding rule rules.allocated
  new_rules element held t u cell h k =
      then_answers (rules.cell_at set.table element) _ (cell_rules set.table element element held cell refl)
      (λ packed kinds. then_answers (rules.as_number t) _ (number_rules t h)
      (λ e a. then_answers (rules.matching 0 packed.vars packed.rows packed.parts (u ∷ [])) _
      (matching_rules (held ∷ []) 0 packed.vars packed.rows packed.parts (u ∷ []) kinds (k, tt))
      (λ found b. record { is = gives_one (kind.Array element) (e ∷ found.rows) _ (λ value. refl) })))

  -- ---- tuples and calls

  pub tuple_value_rules : (number : ℕ) (parts : List Kind) (types : List Ty) → IsTuple set.table number parts → AreOfKinds parts types
      → Rules (GivesKinds (kind.Named number ∷ [])) (rule set (operation.Tuple number) types first)
  unfolding rule rules.constructed
  tuple_value_rules number parts types tuple are =
      then_answers (rules.tuple_at set.table number) _ (tuple_at_rules set.table number parts tuple)
      (λ packed kinds. then_answers (rules.matching 0 packed.vars packed.rows packed.parts types) _
      (matching_rules parts 0 packed.vars packed.rows packed.parts types kinds are)
      (λ found a. record { is = gives_one (kind.Named number) found.rows _ (λ value. refl) }))

  pub untuple_rules : (number count : ℕ) (parts : List Kind) (t : Ty) → IsTuple set.table number parts → length parts ≡ count → kind.Named number ≡ ty_kind t
      → Rules (GivesKinds parts) (rule set (operation.Untuple number count) (t ∷ []) first)
  unfolding rule rules.split
  untuple_rules number count parts t tuple many h =
      then_answers (rules.tuple_at set.table number) _ (tuple_at_rules set.table number parts tuple)
      (λ packed kinds. then_answers (rules.as_many (length packed.parts) count) _ (as_many_rules (length packed.parts) count (have_many parts packed.parts kinds ∙ many))
      (λ u a. then_answers (rules.as_tuple number t) _ (tuple_rules number t h)
      (λ v b. record { is = opens_gives first parts [] packed kinds })))

  pub call_rules : (fun : ℕ) (sig : Signature) (params : List Kind) (result : Kind) (types : List Ty) → slice_get set.sigs fun ≡ Some sig
      → HaveKindsOf params sig.params → IsOfKind result sig.result → AreOfKinds params types → Rules (GivesKinds (result ∷ [])) (rule set (operation.Call fun) types first)
  unfolding rule rules.called
  call_rules fun sig params result types at have of_kind are =
      then_answers (or_fault NoTarget (slice_get set.sigs fun)) _
      (or_rules {P = λ s. HaveKindsOf params s.params × IsOfKind result s.result} NoTarget (slice_get set.sigs fun) sig at (have, of_kind))
      (λ s h. then_answers (rules.matching 0 s.vars s.rows s.params types) _ (matching_rules params 0 s.vars s.rows s.params types h.0 are)
      (λ found a. record { is = returns_gives result first s found h.1 }))

  pub return_rules : (t : Ty) → ty_kind set.own.result ≡ ty_kind t → Rules (GivesKinds []) (rule set operation.Return (t ∷ []) first)
  unfolding rule rules.returned
  return_rules t same =
      let own = set.own in
      then_answers (rules.matching own.vars (own.vars + own.result_vars) own.result_rows (own.result ∷ []) (t ∷ [])) _
      (matching_rules (ty_kind own.result ∷ []) own.vars (own.vars + own.result_vars) own.result_rows (own.result ∷ []) (t ∷ []) (refl, tt) ((λ value. same), tt))
      (λ found a. record { is = gives_none found.rows })
