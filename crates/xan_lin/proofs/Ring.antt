-- The laws of the ring of integers that std has not.
use Rattle.std.proofs.Common.{◌≡◌, ◌*◌, ℤ, pos, ◌+ℤ◌, ◌-ℤ◌, ◌*ℤ◌, neg_ℤ, ap, arith}
use Rattle.std.proofs.lemmas.Int.{ints}
use borrow.Author.Differences.{up, down, same_in, product_is, sum_is_lem, neg_is}

pub mul-add : (a x y : ℤ) → a *ℤ (x +ℤ y) ≡ (a *ℤ x) +ℤ (a *ℤ y)
mul-add a x y = same_in _ _ (omega (arith, ints, product_is a x, product_is a y, product_is a (x +ℤ y), ap (λ n. up a * n) (sum_is_lem x y), ap (λ n. down a * n) (sum_is_lem x y)))

pub add-mul : (x y a : ℤ) → (x +ℤ y) *ℤ a ≡ (x *ℤ a) +ℤ (y *ℤ a)
add-mul x y a = same_in _ _ (omega (arith, ints, product_is x a, product_is y a, product_is (x +ℤ y) a, ap (λ n. n * up a) (sum_is_lem x y), ap (λ n. n * down a) (sum_is_lem x y)))

pub zero-mul : (a : ℤ) → pos 0 *ℤ a ≡ pos 0
zero-mul a = same_in _ _ (omega (arith, ints, product_is (pos 0) a))

pub neg-mul : (x a : ℤ) → neg_ℤ x *ℤ a ≡ neg_ℤ (x *ℤ a)
neg-mul x a = same_in _ _ (omega (arith, ints, product_is x a, product_is (neg_ℤ x) a, ap (λ n. n * up a) (neg_is x).0, ap (λ n. n * down a) (neg_is x).0, ap (λ n. n * up a) (neg_is x).1, ap (λ n. n * down a) (neg_is x).1))

pub mul_comm : (x y : ℤ) → x *ℤ y ≡ y *ℤ x
mul_comm x y = same_in _ _ (omega (arith, ints, product_is x y, product_is y x))

pub mul_assoc : (x y z : ℤ) → (x *ℤ y) *ℤ z ≡ x *ℤ (y *ℤ z)
mul_assoc x y z = same_in _ _ (omega (
  arith,
  ints,
  product_is (x *ℤ y) z,
  product_is x (y *ℤ z),
  ap (λ n. n * up z) (product_is x y).0,
  ap (λ n. n * down z) (product_is x y).0,
  ap (λ n. n * up z) (product_is x y).1,
  ap (λ n. n * down z) (product_is x y).1,
  ap (λ n. up x * n) (product_is y z).0,
  ap (λ n. down x * n) (product_is y z).0,
  ap (λ n. up x * n) (product_is y z).1,
  ap (λ n. down x * n) (product_is y z).1,
))

-- ---- sums of three, over variables

pub add_assoc_ℤ : (x y z : ℤ) → (x +ℤ y) +ℤ z ≡ x +ℤ (y +ℤ z)
add_assoc_ℤ x y z = omega (arith, ints)

pub add_turn : (x y z : ℤ) → x +ℤ (y +ℤ z) ≡ y +ℤ (x +ℤ z)
add_turn x y z = omega (arith, ints)

pub zero-add_ℤ : (x : ℤ) → pos 0 +ℤ x ≡ x
zero-add_ℤ x = omega (arith, ints)

pub neg-add : (x y : ℤ) → neg_ℤ (x +ℤ y) ≡ neg_ℤ x +ℤ neg_ℤ y
neg-add x y = omega (arith, ints)

pub add_pairs : (p q c d : ℤ) → (p +ℤ q) +ℤ (c +ℤ d) ≡ (p +ℤ c) +ℤ (q +ℤ d)
add_pairs p q c d = omega (arith, ints)

pub sub_pairs : (p q c d : ℤ) → (p +ℤ neg_ℤ q) +ℤ (c -ℤ d) ≡ (p +ℤ c) -ℤ (q +ℤ d)
sub_pairs p q c d = omega (arith, ints)

pub neg_less : (p c : ℤ) → neg_ℤ p +ℤ (neg_ℤ c -ℤ pos 1) ≡ neg_ℤ (p +ℤ c) -ℤ pos 1
neg_less p c = omega (arith, ints)

pub add_none : (x : ℤ) → x ≡ x +ℤ pos 0
add_none x = omega (arith, ints)
