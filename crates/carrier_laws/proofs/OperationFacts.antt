-- Which operations demand nothing, and that what an operation names is there where its rule answers.
use Rattle.std.proofs.Common.{◌≡◌, ◌∙◌, ℕ, List, [], Option, Some, None, Result, Ok, Err, slice_get, refl, sym, ap}
use Rattle.std.specs.Prelude.{ℤ, Bool}
use Rattle.xan_lin.specs.Linear.{Linear, sized, sum_of, difference_of, product_of}
use Rattle.xan_lin.specs.declared.term.TooLarge.{TooLarge}
use Rattle.operation_rules.specs.Applied.{named}
use Rattle.operation_rules.specs.Faults.{Ruling, or_fault}
use Rattle.operation_rules.specs.declared.error.Fault.TheVariants.{NoTarget}
use Rattle.operation_rules.specs.Forms.{number_of}
use Rattle.operation_rules.specs.Rules.{Setting, rule, gives_number, product, no_types, one_type, two_numbers, as_array, measured, called, constructed, allocated, tuple_at, cell_at}
use Rattle.operation_rules.specs.declared.operation.Operation.{Operation}
use Rattle.operation_rules.specs.declared.operation.Operation.TheVariants as operation
use Rattle.operation_rules.specs.declared.rule.Rule.{Rule}
use Rattle.state_types.specs.Answers.{◌>>=◌}
use Rattle.state_types.specs.declared.types.Ty.{Ty}
use Rattle.state_types.proofs.Thens.{then_ok, ok_same}

-- the rule of an operation demands nothing
pub record Quiet (st : Setting) (o : Operation) : Type 0 where
  pub none : (types : List Ty) (first : ℕ) (r : Rule) → rule st o types first ≡ Ok r → r.demands ≡ []

demands_same : (q r : Rule) → (let m : Ruling Rule = Ok q in m) ≡ Ok r → q.demands ≡ [] → r.demands ≡ []
demands_same q r e none = sym (ap (λ (x : Rule). x.demands) (ok_same q r e)) ∙ none

number_quiet : (first : ℕ) (f : Result Linear TooLarge) → (gives_number first f).demands ≡ []
number_quiet first (Ok form) = refl
number_quiet first (Err why) = refl

product_quiet : (first : ℕ) (f : Linear) (m : Option ℤ) (g : Linear) (n : Option ℤ) → (product first f m g n).demands ≡ []
product_quiet first f m g (Some n) = number_quiet first (product_of f n)
product_quiet first f (Some m) g None = number_quiet first (product_of g m)
product_quiet first f None g None = refl

module _ (st : Setting) where
  pub literal_quiet : (n : ℤ) → Quiet st (operation.Literal n)
  unfolding rule
  literal_quiet n = record { none = λ types first r e. by_rule types first r e }
    where
      by_rule : (types : List Ty) (first : ℕ) (r : Rule) → rule st (operation.Literal n) types first ≡ Ok r → r.demands ≡ []
      by_rule types first r e = (let one = then_ok (no_types types) _ r e in demands_same _ r one.second (number_quiet first (sized [] n)))

  pub truth_quiet : (b : Bool) → Quiet st (operation.Truth b)
  unfolding rule
  truth_quiet b = record { none = λ types first r e. by_rule types first r e }
    where
      by_rule : (types : List Ty) (first : ℕ) (r : Rule) → rule st (operation.Truth b) types first ≡ Ok r → r.demands ≡ []
      by_rule types first r e = (let one = then_ok (no_types types) _ r e in demands_same _ r one.second refl)

  pub move_quiet : Quiet st operation.Move
  unfolding rule
  move_quiet = record { none = λ types first r e. by_rule types first r e }
    where
      by_rule : (types : List Ty) (first : ℕ) (r : Rule) → rule st operation.Move types first ≡ Ok r → r.demands ≡ []
      by_rule types first r e = (let one = then_ok (one_type types) _ r e in demands_same _ r one.second refl)

  pub add_quiet : Quiet st operation.Add
  unfolding rule
  add_quiet = record { none = λ types first r e. by_rule types first r e }
    where
      by_rule : (types : List Ty) (first : ℕ) (r : Rule) → rule st operation.Add types first ≡ Ok r → r.demands ≡ []
      by_rule types first r e = (let one = then_ok (two_numbers types) _ r e in demands_same _ r one.second (number_quiet first (sum_of one.value.0 one.value.1)))

  pub sub_quiet : Quiet st operation.Sub
  unfolding rule
  sub_quiet = record { none = λ types first r e. by_rule types first r e }
    where
      by_rule : (types : List Ty) (first : ℕ) (r : Rule) → rule st operation.Sub types first ≡ Ok r → r.demands ≡ []
      by_rule types first r e = (let one = then_ok (two_numbers types) _ r e in demands_same _ r one.second (number_quiet first (difference_of one.value.0 one.value.1)))

  pub mul_quiet : Quiet st operation.Mul
  unfolding rule
  mul_quiet = record { none = λ types first r e. by_rule types first r e }
    where
      by_rule : (types : List Ty) (first : ℕ) (r : Rule) → rule st operation.Mul types first ≡ Ok r → r.demands ≡ []
      by_rule types first r e =
          (let one = then_ok (two_numbers types) _ r e in
          demands_same _ r one.second (product_quiet first one.value.0 (number_of one.value.0) one.value.1 (number_of one.value.1)))

  pub compare_quiet : (c : ℕ) → Quiet st (operation.Compare c)
  unfolding rule
  compare_quiet c = record { none = λ types first r e. by_rule types first r e }
    where
      by_rule : (types : List Ty) (first : ℕ) (r : Rule) → rule st (operation.Compare c) types first ≡ Ok r → r.demands ≡ []
      by_rule types first r e = (let one = then_ok (two_numbers types) _ r e in demands_same _ r one.second refl)

  pub length_quiet : Quiet st operation.Length
  unfolding rule measured
  length_quiet = record { none = λ types first r e. by_rule types first r e }
    where
      by_rule : (types : List Ty) (first : ℕ) (r : Rule) → rule st operation.Length types first ≡ Ok r → r.demands ≡ []
      by_rule types first r e =
          (let one = then_ok (one_type types) _ r e in let two = then_ok (as_array one.value) _ r one.second in demands_same _ r two.second refl)

  -- ---- what is named is there

  pub call_named : (fun : ℕ) (types : List Ty) (first : ℕ) (r : Rule) → rule st (operation.Call fun) types first ≡ Ok r → named st (operation.Call fun) ≡ Ok tt
  unfolding rule called named
  call_named fun types first r e =
      (let one = then_ok (or_fault NoTarget (slice_get st.sigs fun)) _ r e in ap (λ (m : Ruling _). m >>= (λ sig. let u : Ruling (Unit {0}) = Ok tt in u)) one.first)

  pub tuple_named : (number : ℕ) (types : List Ty) (first : ℕ) (r : Rule) → rule st (operation.Tuple number) types first ≡ Ok r → named st (operation.Tuple number) ≡ Ok tt
  unfolding rule constructed named
  tuple_named number types first r e =
      (let one = then_ok (tuple_at st.table number) _ r e in ap (λ (m : Ruling _). m >>= (λ sig. let u : Ruling (Unit {0}) = Ok tt in u)) one.first)

  pub array_named : (cells : ℕ) (types : List Ty) (first : ℕ) (r : Rule) → rule st (operation.New cells) types first ≡ Ok r → named st (operation.New cells) ≡ Ok tt
  unfolding rule allocated named
  array_named cells types first r e =
      (let one = then_ok (cell_at st.table cells) _ r e in ap (λ (m : Ruling _). m >>= (λ sig. let u : Ruling (Unit {0}) = Ok tt in u)) one.first)
