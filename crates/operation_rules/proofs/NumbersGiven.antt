-- What numbers the rules of arithmetic give.
use Rattle.std.proofs.Common.{◌≡◌, ℕ, zero, suc, ◌+◌, ℤ, pos, negsuc, ◌+ℤ◌, ◌-ℤ◌, ◌*ℤ◌, ◌≤ℤ◌, List, [], ◌∷◌, ◌++◌, length, Result, Ok, Err, Option, Some, None, refl, sym, ◌∙◌, ap, subst, arith}
use Rattle.std.specs.Int.{int_div_euclid, int_rem_euclid}
use Rattle.std.specs.List.{All}
use Rattle.std.proofs.lemmas.Int.{ints}
use Rattle.std.proofs.lemmas.List.Elements.{All-nil, All-cons}
use Rattle.xan_lin.specs.Linear.{Linear, NamesBelow, sized, variable_form, sum_of, difference_of, product_of}
use Rattle.xan_lin.specs.Value.{value_at, value_of, value_of_terms, Holds}
use Rattle.xan_lin.specs.declared.term.Term.{Term}
use Rattle.xan_lin.specs.declared.term.TooLarge.{TooLarge}
use Rattle.xan_lin.proofs.FormSizes.{sized-parts}
use Rattle.xan_lin.proofs.ResultValues.{value-cons, value-none, sum-value, difference-value, excess-value, product-value}
use Rattle.xan_lin.proofs.Ring.{mul_comm, zero-add_ℤ}
use Rattle.state_types.specs.Words.{Headers}
use Rattle.state_types.specs.declared.types.Ty.TheVariants as ty
use Rattle.xan_lin.specs.Linear.{excess_of}
use Rattle.operation_rules.specs.Forms.{constant_form, number_with, number_of, multiple_form, quotient_rows, remainder_rows}
use Rattle.operation_rules.specs.Rules.{gives_number, gives_fresh, product}
use Rattle.operation_rules.proofs.LongerValues.{value_at-behind}
use Rattle.state_types.proofs.Unpacked.{value-front}
use Rattle.operation_rules.proofs.RuleFacts.{OkHolds, Meets, meets_gives}

-- ---- values of forms that rules make

pub constant-value : (values : List ℤ) (n : ℤ) → value_of values (constant_form n) ≡ n
constant-value values n = ap (λ m. m +ℤ n) (value-none values) ∙ zero-add_ℤ n

sized-value : (values : List ℤ) (n : ℤ) (form : Linear) → sized [] n ≡ Ok form → value_of values form ≡ n
sized-value values n form e = ap (λ f. value_of values f) (sym (sized-parts [] n form e)) ∙ constant-value values n

last_value : (xs : List ℤ) (x : ℤ) → value_at (xs ++ x ∷ []) (length xs) ≡ x
last_value xs x = ap (λ n. value_at (xs ++ x ∷ []) n) (let e : length xs ≡ length xs + 0 = omega arith in e) ∙ value_at-behind xs (x ∷ []) 0

term_and : (c x n : ℤ) → ((c *ℤ x) +ℤ pos 0) +ℤ n ≡ (c *ℤ x) +ℤ n
term_and c x n = omega (arith, ints)

multiple-value : (xs : List ℤ) (x c n : ℤ) → value_of (xs ++ x ∷ []) (multiple_form c (length xs) n) ≡ (c *ℤ x) +ℤ n
multiple-value xs x c n =
    ap (λ m. m +ℤ n)
    (value-cons (xs ++ x ∷ []) (record { var = length xs; coef = c }) []
    ∙ ap (λ m. (c *ℤ value_at (xs ++ x ∷ []) (length xs)) +ℤ m) (value-none (xs ++ x ∷ []))
    ∙ ap (λ m. (c *ℤ m) +ℤ pos 0) (last_value xs x))
    ∙ term_and c x n

one_times : (x : ℤ) → (pos 1 *ℤ x) +ℤ pos 0 ≡ x
one_times x = omega (arith, ints)

pub variable-value : (xs : List ℤ) (x : ℤ) → value_of (xs ++ x ∷ []) (variable_form (length xs)) ≡ x
variable-value xs x = multiple-value xs x (pos 1) (pos 0) ∙ one_times x

-- ---- rules that give a number

pub meets_fresh : (headers : Headers) (assignment : List ℤ) (first : ℕ) (demands : List Linear) (rows : List (Result Linear TooLarge)) (word : ℤ) → length assignment ≡ first
    → All (OkHolds (assignment ++ word ∷ [])) rows → Meets headers assignment (gives_fresh first demands rows) (word ∷ [])
meets_fresh headers assignment first demands rows word count hold = record {
  own = word ∷ [];
  count = refl;
  hold = hold;
  typed = (subst (λ n. word ≡ value_of (assignment ++ word ∷ []) (variable_form n)) count (sym (variable-value assignment word)), tt);
}

pub meets_number : (headers : Headers) (assignment : List ℤ) (first : ℕ) (made : Result Linear TooLarge) (word : ℤ) → length assignment ≡ first
    → ((form : Linear) → made ≡ Ok form → value_of assignment form ≡ word) → Meets headers assignment (gives_number first made) (word ∷ [])
meets_number headers assignment first (Ok form) word count value =
    meets_gives headers assignment (word ∷ []) [] (ty.Int form ∷ []) (sym (value form refl), tt)
meets_number headers assignment first (Err why) word count value =
    meets_fresh headers assignment first [] [] word count (All-nil (OkHolds (assignment ++ word ∷ [])))

pub meets_literal : (headers : Headers) (assignment : List ℤ) (first : ℕ) (n : ℤ) → length assignment ≡ first → Meets headers assignment (gives_number first (sized [] n)) (n ∷ [])
meets_literal headers assignment first n count = meets_number headers assignment first (sized [] n) n count (λ form e. sized-value assignment n form e)

pub meets_sum : (headers : Headers) (assignment : List ℤ) (first : ℕ) (f g : Linear) (a b : ℤ) → length assignment ≡ first → a ≡ value_of assignment f → b ≡ value_of assignment g
    → Meets headers assignment (gives_number first (sum_of f g)) ((a +ℤ b) ∷ [])
meets_sum headers assignment first f g a b count is also = meets_number headers assignment first (sum_of f g) (a +ℤ b) count
    (λ form e. sum-value assignment f g form e ∙ ap (λ n. n +ℤ value_of assignment g) (sym is) ∙ ap (λ n. a +ℤ n) (sym also))

pub meets_difference : (headers : Headers) (assignment : List ℤ) (first : ℕ) (f g : Linear) (a b : ℤ) → length assignment ≡ first → a ≡ value_of assignment f → b ≡ value_of assignment g
    → Meets headers assignment (gives_number first (difference_of f g)) ((a -ℤ b) ∷ [])
meets_difference headers assignment first f g a b count is also = meets_number headers assignment first (difference_of f g) (a -ℤ b) count
    (λ form e. difference-value assignment f g form e ∙ ap (λ n. n -ℤ value_of assignment g) (sym is) ∙ ap (λ n. a -ℤ n) (sym also))

-- ---- products

with_number : (values : List ℤ) (ts : List Term) (constant n : ℤ) → number_with ts constant ≡ Some n → value_of_terms values ts +ℤ constant ≡ n
with_number values [] constant n e = constant-value values constant ∙ (let same : constant ≡ n = cc in same)
with_number values (t ∷ ts) constant n e = absurd (let bad : ⊥ = cc in bad)

pub number_is : (values : List ℤ) (form : Linear) (n : ℤ) → number_of form ≡ Some n → value_of values form ≡ n
number_is values form n e = with_number values form.terms form.constant n e

pub meets_product : (headers : Headers) (assignment : List ℤ) (first : ℕ) (f g : Linear) (m n : Option ℤ) (a b : ℤ) → number_of f ≡ m → number_of g ≡ n
    → length assignment ≡ first → a ≡ value_of assignment f → b ≡ value_of assignment g → Meets headers assignment (product first f m g n) ((a *ℤ b) ∷ [])
meets_product headers assignment first f g m (Some n) a b is_m is_n count is also = meets_number headers assignment first (product_of f n) (a *ℤ b) count
    (λ form e. product-value assignment f form n e ∙ ap (λ x. x *ℤ n) (sym is) ∙ ap (λ y. a *ℤ y) (sym (number_is assignment g n is_n) ∙ sym also))
meets_product headers assignment first f g (Some m) None a b is_m is_n count is also = meets_number headers assignment first (product_of g m) (a *ℤ b) count
    (λ form e. product-value assignment g form m e ∙ ap (λ x. x *ℤ m) (sym also) ∙ ap (λ y. b *ℤ y) (sym (number_is assignment f m is_m) ∙ sym is) ∙ mul_comm b a)
meets_product headers assignment first f g None None a b is_m is_n count is also =
    meets_fresh headers assignment first [] [] (a *ℤ b) count (All-nil (OkHolds (assignment ++ (a *ℤ b) ∷ [])))

-- ---- quotients and remainders

-- x is d times the quotient, and at least 0 and less than d more
floor_low : (x : ℤ) (n : ℕ) → pos 0 ≤ℤ (x -ℤ ((pos (suc n) *ℤ int_div_euclid x (pos (suc n))) +ℤ pos 0))
floor_low (pos a) n = omega (arith, ints)
floor_low (negsuc a) n = omega (arith, ints)

floor_high : (x : ℤ) (n : ℕ) → pos 0 ≤ℤ (((pos (suc n) *ℤ int_div_euclid x (pos (suc n))) +ℤ pos n) -ℤ x)
floor_high (pos a) n = omega (arith, ints)
floor_high (negsuc a) n = omega (arith, ints)

rest_low : (x : ℤ) (n : ℕ) → pos 0 ≤ℤ int_rem_euclid x (pos (suc n))
rest_low (pos a) n = omega (arith, ints)
rest_low (negsuc a) n = omega (arith, ints)

rest_high : (x : ℤ) (n : ℕ) → pos 0 ≤ℤ ((pos (suc n) -ℤ int_rem_euclid x (pos (suc n))) -ℤ pos 1)
rest_high (pos a) n = omega (arith, ints)
rest_high (negsuc a) n = omega (arith, ints)

ok_holds : (values : List ℤ) (made : Result Linear TooLarge) → ((row : Linear) → made ≡ Ok row → Holds values row) → OkHolds values made
ok_holds values (Ok row) h = h row refl
ok_holds values (Err why) h = tt

pub pair_holds : (values : List ℤ) (x y : Result Linear TooLarge) → OkHolds values x → OkHolds values y → All (OkHolds values) (x ∷ y ∷ [])
pair_holds values x y h k = All-cons (OkHolds values) x (y ∷ []) h (All-cons (OkHolds values) y [] k (All-nil (OkHolds values)))

-- a row that is a difference holds where its value is at least 0
pub difference_holds : (values : List ℤ) (e f : Linear) (a b : ℤ) → value_of values e ≡ a → value_of values f ≡ b → pos 0 ≤ℤ (a -ℤ b) → OkHolds values (difference_of e f)
difference_holds values e f a b is also h = ok_holds values (difference_of e f)
    (λ row k. subst (λ n. pos 0 ≤ℤ n) (ap (λ n. n -ℤ b) (sym is) ∙ ap (λ n. value_of values e -ℤ n) (sym also) ∙ sym (difference-value values e f row k)) h)

pub excess_holds : (values : List ℤ) (e f : Linear) (a b : ℤ) → value_of values e ≡ a → value_of values f ≡ b → pos 0 ≤ℤ ((a -ℤ b) -ℤ pos 1) → OkHolds values (excess_of e f)
excess_holds values e f a b is also h = ok_holds values (excess_of e f)
    (λ row k. subst (λ n. pos 0 ≤ℤ n)
    (ap (λ n. (n -ℤ b) -ℤ pos 1) (sym is) ∙ ap (λ n. (value_of values e -ℤ n) -ℤ pos 1) (sym also) ∙ sym (excess-value values e f row k)) h)

-- the divisor that a demand asks for
pub divisor_is : (assignment : List ℤ) (g row : Linear) (b : ℤ) → difference_of g (constant_form (pos 1)) ≡ Ok row → Holds assignment row → b ≡ value_of assignment g → pos 0 ≤ℤ (b -ℤ pos 1)
divisor_is assignment g row b e holds is =
    subst (λ n. pos 0 ≤ℤ n)
    (difference-value assignment g (constant_form (pos 1)) row e ∙ ap (λ n. n -ℤ value_of assignment (constant_form (pos 1))) (sym is)
    ∙ ap (λ n. b -ℤ n) (constant-value assignment (pos 1))) holds

quotient_hold : (assignment : List ℤ) (f : Linear) (a c : ℤ) (m : Option ℤ) (n : ℕ) → ((d : ℤ) → m ≡ Some d → d ≡ pos (suc n))
    → value_of (assignment ++ int_div_euclid a (pos (suc n)) ∷ []) f ≡ a
    → All (OkHolds (assignment ++ int_div_euclid a (pos (suc n)) ∷ [])) (quotient_rows f m (length assignment))
quotient_hold assignment f a c None n same is = All-nil (OkHolds (assignment ++ int_div_euclid a (pos (suc n)) ∷ []))
quotient_hold assignment f a c (Some (negsuc k)) n same is = All-nil (OkHolds (assignment ++ int_div_euclid a (pos (suc n)) ∷ []))
quotient_hold assignment f a c (Some (pos zero)) n same is = All-nil (OkHolds (assignment ++ int_div_euclid a (pos (suc n)) ∷ []))
quotient_hold assignment f a c (Some (pos (suc k))) n same is =
    let q = int_div_euclid a (pos (suc n)) in
    let d : pos (suc k) ≡ pos (suc n) = same (pos (suc k)) refl in
    let kn : k ≡ n = omega (arith, ints) in
    subst (λ j. All (OkHolds (assignment ++ q ∷ [])) (quotient_rows f (Some (pos (suc j))) (length assignment))) (sym kn)
    (pair_holds (assignment ++ q ∷ []) _ _
    (difference_holds (assignment ++ q ∷ []) f (multiple_form (pos (suc n)) (length assignment) (pos 0)) a _ is (multiple-value assignment q (pos (suc n)) (pos 0)) (floor_low a n))
    (difference_holds (assignment ++ q ∷ []) (multiple_form (pos (suc n)) (length assignment) (pos n)) f _ a (multiple-value assignment q (pos (suc n)) (pos n)) is (floor_high a n)))

pub meets_quotient : (headers : Headers) (assignment : List ℤ) (first : ℕ) (f g : Linear) (demands : List Linear) (a : ℤ) (n : ℕ) → length assignment ≡ first
    → NamesBelow first f → a ≡ value_of assignment f → pos (suc n) ≡ value_of assignment g
    → Meets headers assignment (gives_fresh first demands (quotient_rows f (number_of g) first)) (int_div_euclid a (pos (suc n)) ∷ [])
meets_quotient headers assignment first f g demands a n count named is also =
    let q = int_div_euclid a (pos (suc n)) in
    let front : value_of (assignment ++ q ∷ []) f ≡ a = value-front assignment (q ∷ []) f (subst (λ k. NamesBelow k f) (sym count) named) ∙ sym is in
    meets_fresh headers assignment first demands (quotient_rows f (number_of g) first) q count
    (subst (λ k. All (OkHolds (assignment ++ q ∷ [])) (quotient_rows f (number_of g) k)) count
    (quotient_hold assignment f a (pos 0) (number_of g) n (λ d e. sym (number_is assignment g d e) ∙ sym also) front))

pub meets_remainder : (headers : Headers) (assignment : List ℤ) (first : ℕ) (g : Linear) (demands : List Linear) (a : ℤ) (n : ℕ) → length assignment ≡ first
    → NamesBelow first g → pos (suc n) ≡ value_of assignment g
    → Meets headers assignment (gives_fresh first demands (remainder_rows g first)) (int_rem_euclid a (pos (suc n)) ∷ [])
meets_remainder headers assignment first g demands a n count named also =
    let r = int_rem_euclid a (pos (suc n)) in
    let front : value_of (assignment ++ r ∷ []) g ≡ pos (suc n) = value-front assignment (r ∷ []) g (subst (λ k. NamesBelow k g) (sym count) named) ∙ sym also in
    let var = variable-value assignment r in
    meets_fresh headers assignment first demands (remainder_rows g first) r count
    (subst (λ k. All (OkHolds (assignment ++ r ∷ [])) (remainder_rows g k)) count
    (pair_holds (assignment ++ r ∷ []) (Ok (variable_form (length assignment))) (excess_of g (variable_form (length assignment)))
    (subst (λ n. pos 0 ≤ℤ n) (sym var) (rest_low a n))
    (excess_holds (assignment ++ r ∷ []) g (variable_form (length assignment)) (pos (suc n)) r front var (rest_high a n))))
