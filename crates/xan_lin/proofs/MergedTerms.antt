-- How far the merge of two lists of rising terms has come, and each step of it.
use Rattle.std.proofs.Common.{◌≡◌, ℕ, zero, suc, ◌+◌, ◌-◌, ◌<◌, ◌≤◌, ℤ, pos, negsuc, ◌+ℤ◌, List, [], ◌∷◌, ◌++◌, length, take, drop, get_or, IsTrue, sym, ◌∙◌, ap, subst, arith}
use Rattle.std.proofs.lemmas.List.{append_assoc, length_push, length-append, take_all}
use Rattle.std.proofs.lemmas.Bool.{and_parts}
use Rattle.xan_lin.specs.Terms.{no_term, IsRising, with_multiple, sum_terms}
use Rattle.xan_lin.specs.Linear.{is_within, all_within}
use Rattle.xan_lin.specs.declared.term.Term.{Term}
use Rattle.xan_lin.proofs.TermSums.{IsRising-lower, sum-before, sum-behind, sum-same, sum-none, sum-empty}

-- what was made and the sum of what is left are the whole sum
pub record Merging (made ts us whole : List Term) : Type 0 where
  pub left : IsRising 0 ts
  pub right : IsRising 0 us
  pub left_small : IsTrue (all_within ts)
  pub right_small : IsTrue (all_within us)
  pub few : length made + (length ts + length us) ≤ 32
  pub same : made ++ sum_terms ts us ≡ whole

pub step_right : (made whole : List Term) (x y : Term) (xs ys : List Term) → Merging made (x ∷ xs) (y ∷ ys) whole → y.var < x.var
    → Merging (made ++ y ∷ []) (x ∷ xs) ys whole
step_right made whole x y xs ys m h = record {
  left = m.left;
  right = IsRising-lower 0 (suc y.var) ys (omega arith) m.right.2;
  left_small = m.left_small;
  right_small = (and_parts (is_within y.coef) (all_within ys) m.right_small).1;
  few = omega (arith, m.few, length_push made y);
  same = append_assoc made (y ∷ []) (sum_terms (x ∷ xs) ys) ∙ ap (λ zs. made ++ zs) (sym (sum-behind y (x ∷ xs) ys (h, m.left.1, m.left.2))) ∙ m.same;
}

pub step_left : (made whole : List Term) (x y : Term) (xs ys : List Term) → Merging made (x ∷ xs) (y ∷ ys) whole → x.var < y.var
    → Merging (made ++ x ∷ []) xs (y ∷ ys) whole
step_left made whole x y xs ys m h = record {
  left = IsRising-lower 0 (suc x.var) xs (omega arith) m.left.2;
  right = m.right;
  left_small = (and_parts (is_within x.coef) (all_within xs) m.left_small).1;
  right_small = m.right_small;
  few = omega (arith, m.few, length_push made x);
  same = append_assoc made (x ∷ []) (sum_terms xs (y ∷ ys)) ∙ ap (λ zs. made ++ zs) (sym (sum-before x xs (y ∷ ys) m.left.1 m.left.2 (h, m.right.1, m.right.2))) ∙ m.same;
}

pub length-multiple : (var : ℕ) (coef : ℤ) → length (with_multiple var coef []) ≤ 1
length-multiple var (pos zero) = omega arith
length-multiple var (pos (suc n)) = omega arith
length-multiple var (negsuc n) = omega arith

pub step_both : (made whole : List Term) (x y : Term) (xs ys : List Term) → Merging made (x ∷ xs) (y ∷ ys) whole → y.var ≡ x.var
    → Merging (made ++ with_multiple x.var (x.coef +ℤ y.coef) []) xs ys whole
step_both made whole x y xs ys m h = record {
  left = IsRising-lower 0 (suc x.var) xs (omega arith) m.left.2;
  right = IsRising-lower 0 (suc y.var) ys (omega arith) m.right.2;
  left_small = (and_parts (is_within x.coef) (all_within xs) m.left_small).1;
  right_small = (and_parts (is_within y.coef) (all_within ys) m.right_small).1;
  few = omega (arith, m.few, length-append made (with_multiple x.var (x.coef +ℤ y.coef) []), length-multiple x.var (x.coef +ℤ y.coef));
  same = append_assoc made (with_multiple x.var (x.coef +ℤ y.coef) []) (sum_terms xs ys) ∙ ap (λ zs. made ++ zs) (sym (sum-same x y xs ys (sym h) m.left.2)) ∙ m.same;
}

-- ---- the same, where the lists are read by their places

rest_is : (x : Term) (xs : List Term) → xs ≡ take (length (x ∷ xs) - 1) (drop 1 (x ∷ xs))
rest_is x xs = sym (take_all (length (x ∷ xs) - 1) xs (omega arith))

pub goes_right : (made new ts us whole : List Term) → Merging made ts us whole → 1 ≤ length ts → 1 ≤ length us
    → (get_or us 0 no_term).var < (get_or ts 0 no_term).var → new ≡ made ++ get_or us 0 no_term ∷ []
    → Merging new ts (take (length us - 1) (drop 1 us)) whole
goes_right made new [] us whole m a b h e = absurd (omega arith)
goes_right made new (x ∷ xs) [] whole m a b h e = absurd (omega arith)
goes_right made new (x ∷ xs) (y ∷ ys) whole m a b h e =
    subst (λ (zs : List Term). Merging zs (x ∷ xs) (take (length (y ∷ ys) - 1) (drop 1 (y ∷ ys))) whole) (sym e)
    (subst (λ (zs : List Term). Merging (made ++ y ∷ []) (x ∷ xs) zs whole) (rest_is y ys) (step_right made whole x y xs ys m h))

pub goes_left : (made new ts us whole : List Term) → Merging made ts us whole → 1 ≤ length ts → 1 ≤ length us
    → (get_or ts 0 no_term).var < (get_or us 0 no_term).var → new ≡ made ++ get_or ts 0 no_term ∷ []
    → Merging new (take (length ts - 1) (drop 1 ts)) us whole
goes_left made new [] us whole m a b h e = absurd (omega arith)
goes_left made new (x ∷ xs) [] whole m a b h e = absurd (omega arith)
goes_left made new (x ∷ xs) (y ∷ ys) whole m a b h e =
    subst (λ (zs : List Term). Merging zs (take (length (x ∷ xs) - 1) (drop 1 (x ∷ xs))) (y ∷ ys) whole) (sym e)
    (subst (λ (zs : List Term). Merging (made ++ x ∷ []) zs (y ∷ ys) whole) (rest_is x xs) (step_left made whole x y xs ys m h))

pub goes_both : (made new ts us whole : List Term) → Merging made ts us whole → 1 ≤ length ts → 1 ≤ length us
    → (get_or us 0 no_term).var ≡ (get_or ts 0 no_term).var
    → new ≡ made ++ with_multiple (get_or ts 0 no_term).var ((get_or ts 0 no_term).coef +ℤ (get_or us 0 no_term).coef) []
    → Merging new (take (length ts - 1) (drop 1 ts)) (take (length us - 1) (drop 1 us)) whole
goes_both made new [] us whole m a b h e = absurd (omega arith)
goes_both made new (x ∷ xs) [] whole m a b h e = absurd (omega arith)
goes_both made new (x ∷ xs) (y ∷ ys) whole m a b h e =
    subst (λ (zs : List Term). Merging zs (take (length (x ∷ xs) - 1) (drop 1 (x ∷ xs))) (take (length (y ∷ ys) - 1) (drop 1 (y ∷ ys))) whole) (sym e)
    (subst (λ (zs : List Term). Merging (made ++ with_multiple x.var (x.coef +ℤ y.coef) []) zs (take (length (y ∷ ys) - 1) (drop 1 (y ∷ ys))) whole) (rest_is x xs)
    (subst (λ (zs : List Term). Merging (made ++ with_multiple x.var (x.coef +ℤ y.coef) []) xs zs whole) (rest_is y ys) (step_both made whole x y xs ys m h)))

-- where one list is at its end, the rest of the other is the rest of the sum
pub ends_left : (made ts us whole : List Term) → Merging made ts us whole → length ts < 1 → made ++ us ≡ whole
ends_left made [] us whole m h = ap (λ zs. made ++ zs) (sym (sum-empty us)) ∙ m.same
ends_left made (x ∷ xs) us whole m h = absurd (omega arith)

pub ends_right : (made ts us whole : List Term) → Merging made ts us whole → length us < 1 → made ++ ts ≡ whole
ends_right made ts [] whole m h = ap (λ zs. made ++ zs) (sym (sum-none 0 ts m.left)) ∙ m.same
ends_right made ts (y ∷ ys) whole m h = absurd (omega arith)

-- ---- the two coefficients that come together

pub first_small : (ts : List Term) → 1 ≤ length ts → IsTrue (all_within ts) → IsTrue (is_within (get_or ts 0 no_term).coef)
first_small [] a h = absurd (omega arith)
first_small (x ∷ xs) a h = (and_parts (is_within x.coef) (all_within xs) h).0
