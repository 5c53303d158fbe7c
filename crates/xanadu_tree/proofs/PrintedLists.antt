-- A turn of a loop that puts the text of each item of a list, and its end.
--
-- `of` is the text of the items that are left before the turn, and `next` that of those after it: the two differ where an item
-- that is not the first stands behind a comma.
use Rattle.std.proofs.Common.{◌≡◌, ◌∙◌, ℕ, suc, ◌+◌, ◌<◌, ◌≤◌, Bool, true, false, List, [], ◌∷◌, ◌++◌, length, get_or, drop, refl, sym, ap, add-one, append_assoc, append-nil, arith}
use Rattle.std.proofs.Math.Seq.{drop-cons}
use Rattle.std.proofs.lemmas.Grind.{common_steps}
use Rattle.xanadu_tree.specs.declared.tree.expression.Expression.{Expression}
use Rattle.xanadu_tree.specs.Printing.{comma_unless, listed, listed_from, expression_text, arguments_from}
use Rattle.xanadu_tree.proofs.Texts.{arguments_text-nil, arguments_text-cons, more_arguments_text-nil, more_arguments_text-cons}

drop-at : {A : Type 0} (xs : List A) (i : ℕ) (x : A) → i < length xs → x ≡ get_or xs i x → drop i xs ≡ x ∷ drop (i + 1) xs
drop-at xs i x within is = drop-cons xs i x within ∙ ap (λ y. y ∷ drop (suc i) xs) (sym is) ∙ ap (λ j. x ∷ drop j xs) (sym (add-one i))

drop-past : {A : Type 0} (xs : List A) (i : ℕ) → length xs ≤ i → drop i xs ≡ []
drop-past xs i past = grind (arith, common_steps)

-- `put` is the text of the item
pub turn : {A : Type 0} (of next : List A → List ℕ) (xs : List A) (i : ℕ) (x : A) (put before after whole : List ℕ)
    → i < length xs → x ≡ get_or xs i x → of (x ∷ drop (i + 1) xs) ≡ put ++ next (drop (i + 1) xs)
    → before ++ of (drop i xs) ≡ whole → after ≡ before ++ put → after ++ next (drop (i + 1) xs) ≡ whole
turn of next xs i x put before after whole within is splits so_far now =
    ap (λ o. o ++ next (drop (i + 1) xs)) now ∙ append_assoc before put _
    ∙ ap (λ t. before ++ t) (sym splits) ∙ ap (λ rest. before ++ of rest) (sym (drop-at xs i x within is)) ∙ so_far

-- an item whose text is put in two parts
pub turn_of_two : {A : Type 0} (of next : List A → List ℕ) (xs : List A) (i : ℕ) (x : A) (front back before between after whole : List ℕ)
    → i < length xs → x ≡ get_or xs i x → of (x ∷ drop (i + 1) xs) ≡ front ++ (back ++ next (drop (i + 1) xs))
    → before ++ of (drop i xs) ≡ whole → between ≡ before ++ front → after ≡ between ++ back → after ++ next (drop (i + 1) xs) ≡ whole
turn_of_two of next xs i x front back before between after whole within is splits so_far first second =
    turn of next xs i x (front ++ back) before after whole within is (splits ∙ sym (append_assoc front back _)) so_far
    (second ∙ ap (λ o. o ++ back) first ∙ append_assoc before front back)

-- an item whose text is put in three parts
pub turn_of_three : {A : Type 0} (of next : List A → List ℕ) (xs : List A) (i : ℕ) (x : A) (front middle back before one two after whole : List ℕ)
    → i < length xs → x ≡ get_or xs i x → of (x ∷ drop (i + 1) xs) ≡ front ++ (middle ++ (back ++ next (drop (i + 1) xs)))
    → before ++ of (drop i xs) ≡ whole → one ≡ before ++ front → two ≡ one ++ middle → after ≡ two ++ back → after ++ next (drop (i + 1) xs) ≡ whole
turn_of_three of next xs i x front middle back before one two after whole within is splits so_far first second third =
    turn_of_two of next xs i x front (middle ++ back) before one after whole within is
    (splits ∙ ap (λ t. front ++ t) (sym (append_assoc middle back _))) so_far first
    (third ∙ ap (λ o. o ++ back) second ∙ append_assoc one middle back)

-- the loop's end, where nothing is left to put
pub over : {A : Type 0} (of : List A → List ℕ) (xs : List A) (i : ℕ) (before whole : List ℕ)
    → length xs ≤ i → of [] ≡ [] → before ++ of (drop i xs) ≡ whole → before ≡ whole
over of xs i before whole past none so_far =
    sym (append-nil before) ∙ ap (λ t. before ++ t) (sym none) ∙ ap (λ rest. before ++ of rest) (sym (drop-past xs i past)) ∙ so_far

pub arguments_from-nil : (is_first : Bool) → arguments_from is_first [] ≡ []
arguments_from-nil true = arguments_text-nil
arguments_from-nil false = more_arguments_text-nil

pub arguments_from-cons : (is_first : Bool) (e : Expression) (es : List Expression)
    → arguments_from is_first (e ∷ es) ≡ comma_unless is_first ++ (expression_text e ++ arguments_from false es)
arguments_from-cons true e es = arguments_text-cons e es
arguments_from-cons false e es = more_arguments_text-cons e es

pub listed-from : {A : Type 0} (of : A → List ℕ) (xs : List A) → listed_from true of xs ≡ listed of xs
unfolding listed
listed-from of xs = refl
