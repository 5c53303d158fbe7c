-- Variables that are marked one after the other, statement by statement.
use Rattle.std.proofs.Common.{◌≡◌, ◌∙◌, ◌<◌, ◌≤◌, ◌+◌, ◌==◌, ℕ, zero, suc, Bool as Truth, true, false, List, [], ◌∷◌, length, set, get_or, replicate, take, drop, ◌-◌, Option, Some, None, refl, sym, ap, arith}
use Rattle.std.specs.Prelude.{◌||◌}
use Rattle.std.specs.List.{list_any}
use Rattle.std.proofs.lemmas.List.{get_or-replicate, length-replicate, take_rest}
use Rattle.std.proofs.lemmas.Bool.Decides.{Decides-eqb}
use Rattle.xanadu_tree.specs.Plain as core
use Rattle.xanadu_tree.specs.PlainOf.{plain_block, plain_stmt}
use Rattle.xanadu_tree.specs.declared.stmt.Clause.{Clause}
use Rattle.xanadu_tree.specs.declared.stmt.CoreStmt.{CoreStmt}
use Rattle.xanadu_tree.specs.declared.types.CoreTy.{CoreTy}
use Rattle.typed_core.specs.Joins.{changes, changes_any, is_named, names}
use Rattle.join_elaborator.specs.Changed.{marked, no_marks, is_marked}

or_false : (a : Truth) → a ≡ (a || false)
or_false true = refl
or_false false = refl

or_three : (a b c : Truth) → ((a || b) || c) ≡ (a || (b || c))
or_three true b c = refl
or_three false b c = refl

-- nothing is changed
pub marked_none : (changed : ℕ → Truth) (k : ℕ) (ms : List Truth) → ((y : ℕ) → k ≤ y → changed y ≡ false) → ms ≡ marked changed k ms
unfolding marked
marked_none changed k [] h = refl
marked_none changed k (m ∷ ms) h =
    ap (λ b. b ∷ ms) (or_false m ∙ ap (λ b. m || b) (sym (h k (omega arith))))
    ∙ ap (λ (xs : List Truth). (m || changed k) ∷ xs) (marked_none changed (suc k) ms (λ y l. h y (omega (arith, l))))

-- first some, and then others
pub marked_then : (f g h : ℕ → Truth) (k : ℕ) (ms : List Truth) → ((y : ℕ) → h y ≡ (f y || g y)) → marked g k (marked f k ms) ≡ marked h k ms
unfolding marked
marked_then f g h k [] e = refl
marked_then f g h k (m ∷ ms) e =
    ap (λ (b : Truth). b ∷ marked g (suc k) (marked f (suc k) ms)) (or_three m (f k) (g k) ∙ ap (λ b. m || b) (sym (e k)))
    ∙ ap (λ (xs : List Truth). (m || h k) ∷ xs) (marked_then f g h (suc k) ms e)

apart : (x y : ℕ) → x < y → (x == y) ≡ false
apart x y h = other (x == y) refl
  where
    other : (b : Truth) → (x == y) ≡ b → b ≡ false
    other true e = absurd (let same : x ≡ y = (Decides-eqb x y).0 e in omega (arith, h, same))
    other false e = refl

behind : (x y : ℕ) → y < x → (x == y) ≡ false
behind x y h = other (x == y) refl
  where
    other : (b : Truth) → (x == y) ≡ b → b ≡ false
    other true e = absurd (let same : x ≡ y = (Decides-eqb x y).0 e in omega (arith, h, same))
    other false e = refl

or_true : (a : Truth) → (a || true) ≡ true
or_true true = refl
or_true false = refl

here : (x y : ℕ) → x ≡ y → (x == y) ≡ true
here x y h = (Decides-eqb x y).1 h

marked_from : (k x y : ℕ) (ms : List Truth) → k + x ≡ y → x < length ms → set ms x true ≡ marked (λ z. y == z) k ms
unfolding marked
marked_from k x y [] e h = absurd (omega (arith, h))
marked_from k zero y (m ∷ ms) e h =
    ap (λ b. b ∷ ms) (sym (or_true m) ∙ ap (λ b. m || b) (sym (here y k (omega (arith, e)))))
    ∙ ap (λ (xs : List Truth). (m || (y == k)) ∷ xs) (marked_none (λ z. y == z) (suc k) ms (λ z l. apart y z (omega (arith, e, l))))
marked_from k (suc x) y (m ∷ ms) e h =
    ap (λ b. b ∷ set ms x true) (or_false m ∙ ap (λ b. m || b) (sym (behind y k (omega (arith, e)))))
    ∙ ap (λ (xs : List Truth). (m || (y == k)) ∷ xs) (marked_from (suc k) x y ms (omega (arith, e)) (omega (arith, h)))

pub marked_one : (x : ℕ) (ms : List Truth) → x < length ms → set ms x true ≡ marked (λ y. x == y) 0 ms
marked_one x ms h = marked_from 0 x x ms (omega arith) h

marked_over : (k x y : ℕ) (ms : List Truth) → k + x ≡ y → length ms ≤ x → ms ≡ marked (λ z. y == z) k ms
unfolding marked
marked_over k x y [] e h = refl
marked_over k zero y (m ∷ ms) e h = absurd (omega (arith, h))
marked_over k (suc x) y (m ∷ ms) e h =
    ap (λ b. b ∷ ms) (or_false m ∙ ap (λ b. m || b) (sym (behind y k (omega (arith, e)))))
    ∙ ap (λ (xs : List Truth). (m || (y == k)) ∷ xs) (marked_over (suc k) x y ms (omega (arith, e)) (omega (arith, h)))

pub marked_past : (x : ℕ) (ms : List Truth) → length ms ≤ x → ms ≡ marked (λ y. x == y) 0 ms
marked_past x ms h = marked_over 0 x x ms (omega arith) h

-- what is marked afterwards
pub marked_at : (f : ℕ → Truth) (k x : ℕ) (ms : List Truth) → x < length ms → get_or (marked f k ms) x false ≡ (get_or ms x false || f (k + x))
unfolding marked
marked_at f k x [] h = absurd (omega (arith, h))
marked_at f k zero (m ∷ ms) h = ap (λ n. m || f n) (sym (no_more k))
  where
    no_more : (k : ℕ) → k + 0 ≡ k
    no_more k = omega arith
marked_at f k (suc x) (m ∷ ms) h = marked_at f (suc k) x ms (omega (arith, h)) ∙ ap (λ n. get_or ms x false || f n) (one_more k x)
  where
    one_more : (k x : ℕ) → suc k + x ≡ k + suc x
    one_more k x = omega arith

-- of those that a function can have, exactly the changed ones are marked
pub marked_exactly : (f : ℕ → Truth) (x : ℕ) → x < 240 → is_marked (marked f 0 no_marks) x ≡ f x
marked_exactly f x h =
    marked_at f 0 x no_marks (let few : length no_marks ≡ 240 = length-replicate 240 false in omega (arith, h, few))
    ∙ ap (λ (b : Truth). b || f (0 + x)) (get_or-replicate 240 x false false h) ∙ ap f (from_zero x)
  where
    from_zero : (x : ℕ) → 0 + x ≡ x
    from_zero x = omega arith

-- ---- one of a list after the other

any_more : {A : Type 0} (q : A → ℕ → Truth) (x : A) (xs : List A) (y : ℕ) → list_any (λ x. q x y) (x ∷ xs) ≡ (q x y || list_any (λ x. q x y) xs)
any_more q x xs y = refl

pub list_more : {A : Type 0} (q : A → ℕ → Truth) (xs : List A) (d : A) (ms new : List Truth) → 1 ≤ length xs → new ≡ marked (λ y. q (get_or xs 0 d) y) 0 ms
    → marked (λ y. list_any (λ x. q x y) (take (length xs - 1) (drop 1 xs))) 0 new ≡ marked (λ y. list_any (λ x. q x y) xs) 0 ms
list_more q [] d ms new h e = absurd (omega (arith, h))
list_more {A} q (x ∷ xs) d ms new h e =
    ap (λ (zs : List A). marked (λ y. list_any (λ x. q x y) zs) 0 new) (take_rest (x ∷ xs) 1)
    ∙ ap (λ (ns : List Truth). marked (λ y. list_any (λ x. q x y) xs) 0 ns) e
    ∙ marked_then (q x) (λ y. list_any (λ x. q x y) xs) (λ y. list_any (λ x. q x y) (x ∷ xs)) 0 ms (any_more q x xs)

pub list_done : {A : Type 0} (q : A → ℕ → Truth) (xs : List A) (ms all : List Truth) → length xs < 1
    → marked (λ y. list_any (λ x. q x y) xs) 0 ms ≡ all → ms ≡ all
list_done q [] ms all h e = marked_none (λ y. false) 0 ms (λ y l. refl) ∙ e
list_done q (x ∷ xs) ms all h e = absurd (omega (arith, h))

-- of those of which types are stated
rest_stated : (stated : List (ℕ × CoreTy)) (i : ℕ) (d : ℕ × CoreTy) (ms new : List Truth) → i < length stated
    → new ≡ marked (λ y. (get_or stated i d).0 == y) 0 ms
    → marked (λ y. is_named y (drop (suc i) stated)) 0 new ≡ marked (λ y. is_named y (drop i stated)) 0 ms
rest_stated [] i d ms new h e = absurd (omega (arith, h))
rest_stated (s ∷ ss) zero d ms new h e =
    ap (λ (ns : List Truth). marked (λ y. is_named y ss) 0 ns) e
    ∙ marked_then (λ y. s.0 == y) (λ y. is_named y ss) (λ y. is_named y (s ∷ ss)) 0 ms (λ y. refl)
rest_stated (s ∷ ss) (suc i) d ms new h e = rest_stated ss i d ms new (omega (arith, h)) e

pub next_stated : (stated : List (ℕ × CoreTy)) (i n : ℕ) (d : ℕ × CoreTy) (ms new : List Truth) → n ≡ suc i → i < length stated
    → new ≡ marked (λ y. (get_or stated i d).0 == y) 0 ms
    → marked (λ y. is_named y (drop n stated)) 0 new ≡ marked (λ y. is_named y (drop i stated)) 0 ms
next_stated stated i n d ms new same h e =
    ap (λ k. marked (λ y. is_named y (drop k stated)) 0 new) same ∙ rest_stated stated i d ms new h e

pub stated_done : (stated : List (ℕ × CoreTy)) (i : ℕ) (ms all : List Truth) → length stated ≤ i → marked (λ y. is_named y (drop i stated)) 0 ms ≡ all → ms ≡ all
stated_done [] zero ms all h e = marked_none (λ y. false) 0 ms (λ y l. refl) ∙ e
stated_done [] (suc i) ms all h e = marked_none (λ y. false) 0 ms (λ y l. refl) ∙ e
stated_done (s ∷ ss) zero ms all h e = absurd (omega (arith, h))
stated_done (s ∷ ss) (suc i) ms all h e = stated_done ss i ms all (omega (arith, h)) e

-- ---- statements

-- the same variables
marked_same : (f g : ℕ → Truth) (k : ℕ) (ms : List Truth) → ((y : ℕ) → f y ≡ g y) → marked f k ms ≡ marked g k ms
unfolding marked
marked_same f g k [] e = refl
marked_same f g k (m ∷ ms) e =
    ap (λ b. (m || b) ∷ marked f (suc k) ms) (e k) ∙ ap (λ (xs : List Truth). (m || g k) ∷ xs) (marked_same f g (suc k) ms e)

pub no_clause_marked : (clause : Option Clause) (ms : List Truth) → clause ≡ None → ms ≡ marked (names clause) 0 ms
no_clause_marked None ms e = marked_none (names None) 0 ms (λ y l. refl)
no_clause_marked (Some clause) ms e = absurd (let bad : ⊥ = cc in bad)

pub set_marked : (x : ℕ) (e : core.Expr) (ms new : List Truth) → new ≡ marked (λ y. x == y) 0 ms → new ≡ marked (changes (core.Set x e)) 0 ms
unfolding changes
set_marked x e ms new is = is ∙ marked_same (λ y. x == y) (changes (core.Set x e)) 0 ms (λ y. refl)

pub split_marked : (xs : List ℕ) (e : core.Expr) (at : ℕ) (ms new : List Truth) → new ≡ marked (λ y. list_any (λ x. x == y) xs) 0 ms
    → new ≡ marked (changes (core.Split xs e at)) 0 ms
unfolding changes
split_marked xs e at ms new is = is ∙ marked_same (λ y. list_any (λ x. x == y) xs) (changes (core.Split xs e at)) 0 ms (λ y. refl)

pub store_marked : (array index value : core.Expr) (at : ℕ) (ms : List Truth) → ms ≡ marked (changes (core.Store array index value at)) 0 ms
unfolding changes
store_marked array index value at ms = marked_none (changes (core.Store array index value at)) 0 ms (λ y l. refl)

pub do_marked : (e : core.Expr) (ms : List Truth) → ms ≡ marked (changes (core.Do e)) 0 ms
unfolding changes
do_marked e ms = marked_none (changes (core.Do e)) 0 ms (λ y l. refl)

pub print_marked : (e : core.Expr) (ms : List Truth) → ms ≡ marked (changes (core.Print e)) 0 ms
unfolding changes
print_marked e ms = marked_none (changes (core.Print e)) 0 ms (λ y l. refl)

pub return_marked : (e : Option core.Expr) (at : ℕ) (ms : List Truth) → ms ≡ marked (changes (core.Return e at)) 0 ms
unfolding changes
return_marked e at ms = marked_none (changes (core.Return e at)) 0 ms (λ y l. refl)

pub if_marked : (test : core.Test) (on_true on_false : core.Stmts) (join : Option Clause) (at : ℕ) (ms one two new : List Truth)
    → one ≡ marked (changes_any on_true) 0 ms → two ≡ marked (changes_any on_false) 0 one → new ≡ marked (names join) 0 two
    → new ≡ marked (changes (core.If test on_true on_false join at)) 0 ms
unfolding changes
if_marked test on_true on_false join at ms one two new a b c =
    let first : ℕ → Truth = λ y. changes_any on_true y || changes_any on_false y in
    c ∙ ap (λ (ns : List Truth). marked (names join) 0 ns) (b ∙ ap (λ (ns : List Truth). marked (changes_any on_false) 0 ns) a
    ∙ marked_then (changes_any on_true) (changes_any on_false) first 0 ms (λ y. refl))
    ∙ marked_then first (names join) (changes (core.If test on_true on_false join at)) 0 ms
    (λ y. refl)

pub while_marked : (test : core.Test) (head : Option Clause) (body : core.Stmts) (at : ℕ) (ms one new : List Truth)
    → one ≡ marked (names head) 0 ms → new ≡ marked (changes_any body) 0 one → new ≡ marked (changes (core.While test head body at)) 0 ms
unfolding changes
while_marked test head body at ms one new a b =
    b ∙ ap (λ (ns : List Truth). marked (changes_any body) 0 ns) a
    ∙ marked_then (names head) (changes_any body) (changes (core.While test head body at)) 0 ms (λ y. refl)

pub block_more : (s : core.Stmt) (ss : core.Stmts) (ms new : List Truth) → new ≡ marked (changes s) 0 ms
    → marked (changes_any ss) 0 new ≡ marked (changes_any (core.AStmt s ss)) 0 ms
unfolding changes_any
block_more s ss ms new e =
    ap (λ (ns : List Truth). marked (changes_any ss) 0 ns) e
    ∙ marked_then (changes s) (changes_any ss) (changes_any (core.AStmt s ss)) 0 ms (λ y. refl)

pub block_done : (ms : List Truth) → ms ≡ marked (changes_any core.NoStmt) 0 ms
unfolding changes_any
block_done ms = marked_none (changes_any core.NoStmt) 0 ms (λ y l. refl)

-- a statement of a block that stands as a list
pub rest_marked : (block : List CoreStmt) (i : ℕ) (d : CoreStmt) (ms new : List Truth) → i < length block → new ≡ marked (changes (plain_stmt (get_or block i d))) 0 ms
    → marked (changes_any (plain_block (drop (suc i) block))) 0 new ≡ marked (changes_any (plain_block (drop i block))) 0 ms
rest_marked [] i d ms new h e = absurd (omega (arith, h))
rest_marked (s ∷ ss) zero d ms new h e = block_more (plain_stmt s) (plain_block ss) ms new e
rest_marked (s ∷ ss) (suc i) d ms new h e = rest_marked ss i d ms new (omega (arith, h)) e

pub rest_done : (block : List CoreStmt) (i : ℕ) (ms all : List Truth) → length block ≤ i → marked (changes_any (plain_block (drop i block))) 0 ms ≡ all → ms ≡ all
rest_done [] zero ms all h e = block_done ms ∙ e
rest_done [] (suc i) ms all h e = block_done ms ∙ e
rest_done (s ∷ ss) zero ms all h e = absurd (omega (arith, h))
rest_done (s ∷ ss) (suc i) ms all h e = rest_done ss i ms all (omega (arith, h)) e

-- both branches
pub branches_marked : (one two : core.Stmts) (ms first new : List Truth) → first ≡ marked (changes_any one) 0 ms → new ≡ marked (changes_any two) 0 first
    → new ≡ marked (λ x. changes_any one x || changes_any two x) 0 ms
branches_marked one two ms first new a b =
    b ∙ ap (λ (ns : List Truth). marked (changes_any two) 0 ns) a
    ∙ marked_then (changes_any one) (changes_any two) (λ x. changes_any one x || changes_any two x) 0 ms (λ y. refl)
