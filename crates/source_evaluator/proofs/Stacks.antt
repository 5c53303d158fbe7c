-- Lists that are seen from their end.
use Rattle.std.proofs.Common.{◌≡◌, ◌∙◌, ◌≤◌, ◌-◌, ◌++◌, ℕ, List, [], ◌∷◌, length, take, drop, sym, ap, arith}
use Rattle.std.specs.Prelude.{reverse}
use Rattle.std.proofs.lemmas.List.{length-drop, length-reverse, reverse-append, reverse-reverse, take-append-drop, take_rest}
use Rattle.std.proofs.Math.Seq.{drop-append_seam, take-append_seam}

pub pushed : {A : Type 0} (xs : List A) (x : A) → reverse (xs ++ x ∷ []) ≡ x ∷ reverse xs
pushed xs x = reverse-append xs (x ∷ [])

pub rest_is : {A : Type 0} (xs : List A) (i : ℕ) → take (length xs - i) (drop i xs) ≡ drop i xs
rest_is xs i = take_rest xs i

module _ {A : Type 0} (xs : List A) (count : ℕ) (h : count ≤ length xs) where
  front : List A
  front = take (length xs - count) xs

  back : List A
  back = drop (length xs - count) xs

  seen : reverse xs ≡ reverse back ++ reverse front
  unfolding front back
  seen = ap reverse (sym (take-append-drop (length xs - count) xs)) ∙ reverse-append front back

  as_many : length (reverse back) ≡ count
  unfolding back
  as_many = length-reverse back ∙ length-drop (length xs - count) xs ∙ omega (arith, h)

  pub last_is : drop (length xs - count) xs ≡ reverse (take count (reverse xs))
  unfolding back
  last_is =
      sym (ap (λ (ys : List A). reverse (take count ys)) seen
      ∙ ap (λ n. reverse (take n (reverse back ++ reverse front))) (sym as_many)
      ∙ ap reverse (take-append_seam (reverse back) (reverse front)) ∙ reverse-reverse back)

  pub kept_is : reverse (take (length xs - count) xs) ≡ drop count (reverse xs)
  unfolding front
  kept_is =
      sym (ap (λ (ys : List A). drop count ys) seen
      ∙ ap (λ n. drop n (reverse back ++ reverse front)) (sym as_many)
      ∙ drop-append_seam (reverse back) (reverse front))

module _ {A : Type 0} (all items now : List A) (count : ℕ) (f : all ≡ items) (g : reverse items ≡ now) (h : count ≤ length now) where
  enough : count ≤ length items
  enough = (let k : length (reverse items) ≡ length items = length-reverse items in let l : length (reverse items) ≡ length now = ap length g in omega (arith, h, k, l))

  pub last_seen : (part : List A) → part ≡ drop (length all - count) all → part ≡ reverse (take count now)
  last_seen part e =
      e ∙ ap (λ (xs : List A). drop (length xs - count) xs) f ∙ last_is items count enough ∙ ap (λ (xs : List A). reverse (take count xs)) g

  pub kept_seen : (kept : List A) → kept ≡ take (length all - count) items → reverse kept ≡ drop count now
  kept_seen kept e =
      ap reverse (e ∙ ap (λ (xs : List A). take (length xs - count) items) f) ∙ kept_is items count enough ∙ ap (λ (xs : List A). drop count xs) g
