-- Rounds from the empty table find live places, and a table that a round leaves as it is has all of them.
use Rattle.std.proofs.Common.{◌≡◌, ℕ, zero, suc, ◌+◌, ◌==◌, ◌<◌, ◌≤◌, Bool, true, false, not, ◌&&◌, ◌||◌, ◌⊎◌, inl, inr, List, [], ◌∷◌, length, None, slice_get, refl, sym, ap, ◌∙◌, arith, zero-add}
use Rattle.std.specs.List.{Contains, list_any, slice_index_or}
use Rattle.std.proofs.lemmas.Bool.{cases_lt, eqb-true}
use Rattle.std.proofs.lemmas.Bool.Decides.{nat_tests}
use Rattle.std.proofs.lemmas.List.{get_or_past}
use Rattle.std.proofs.lemmas.List.Folds.{list_any_at}
use Rattle.std.proofs.lemmas.Map.Views.{Contains-from_any}
use Rattle.three_address.specs.declared.function.LowFun.{LowFun}
use Rattle.three_address.specs.Flow.{label_at, target_of, instruction_at, with_instruction, reads_of, writes_of, ways_of, reads_at, writes_at, ways_from}
use Rattle.three_address.specs.Instructions.{instruction_of}
use Rattle.three_address.specs.LiveTables.{has, tabulated, bit, lives, live_row, round, rounds}
use Rattle.three_address.specs.Liveness.{Live, Read, Kept}

-- ---- truth values

pub either : (a b : Bool) → (a || b) ≡ true → (a ≡ true) ⊎ (b ≡ true)
either true b e = inl refl
either false b e = inr e

pub both : (a b : Bool) → (a && b) ≡ true → (a ≡ true) × (b ≡ true)
both true b e = (refl, e)
both false b e = absurd (false-true e)
  where
    false-true : false ≡ true → ⊥
    false-true e = cc

pub left_true : (a b : Bool) → a ≡ true → (a || b) ≡ true
left_true true b e = refl
left_true false b e = cc

pub right_true : (a b : Bool) → b ≡ true → (a || b) ≡ true
right_true true b e = refl
right_true false b e = e

-- ---- elements of lists of numbers

pub has-there : (xs : List ℕ) (x : ℕ) → has xs x ≡ true → Contains xs x
has-there xs x e = Contains-from_any (λ a b. eqb-true a b) x xs e

pub there-has : (xs : List ℕ) (x : ℕ) → Contains xs x → has xs x ≡ true
there-has xs x c = list_any_at (λ y. x == y) xs c.0 x c.1 (let e : x ≡ slice_index_or xs c.0 x = sym c.2 in grind (arith, nat_tests))

pub any-there : (p : ℕ → Bool) (xs : List ℕ) → list_any p xs ≡ true → (x : ℕ) × Contains xs x × (p x ≡ true)
any-there p [] e = cc
any-there p (x ∷ xs) e = elim (either (p x) (list_any p xs) e) [
  | inl h ↦ (x, (0, omega arith, refl), h)
  | inr h ↦ let found = any-there p xs h in (found.0, (suc found.1.0, omega (arith, found.1.1), found.1.2), found.2)
]

pub there-any : (p : ℕ → Bool) (xs : List ℕ) (x : ℕ) → Contains xs x → p x ≡ true → list_any p xs ≡ true
there-any p xs x c e = list_any_at p xs c.0 x c.1 (ap p c.2 ∙ e)

-- ---- tables

length-tabulated : {A : Type 0} (f : ℕ → A) (from count : ℕ) → length (tabulated f from count) ≡ count
unfolding tabulated
length-tabulated f from zero = refl
length-tabulated f from (suc count) = ap suc (length-tabulated f (suc from) count)

get-tabulated : {A : Type 0} (f : ℕ → A) (d : A) (from count i : ℕ) → i < count → slice_index_or (tabulated f from count) i d ≡ f (from + i)
unfolding tabulated
get-tabulated f d from zero i h = absurd (omega arith)
get-tabulated f d from (suc count) zero h = let e : from ≡ from + 0 = omega arith in ap f e
get-tabulated f d from (suc count) (suc i) h =
    let lt : i < count = omega arith in
    let e : suc from + i ≡ from + suc i = omega arith in
    get-tabulated f d (suc from) count i lt ∙ ap f e

get-first : {A : Type 0} (f : ℕ → A) (d : A) (count i : ℕ) → i < count → slice_index_or (tabulated f 0 count) i d ≡ f i
get-first f d count i h = get-tabulated f d 0 count i h ∙ ap f (zero-add i)

-- ---- one round

row-past : (fun : LowFun) (table : List (List Bool)) (at : ℕ) → length fun.code ≤ at → slice_index_or (round fun table) at [] ≡ []
unfolding round
row-past fun table at h =
    get_or_past (tabulated (live_row fun table) 0 (length fun.code)) at [] (omega (arith, length-tabulated (live_row fun table) 0 (length fun.code)))

row-is : (fun : LowFun) (table : List (List Bool)) (at : ℕ) → at < length fun.code → slice_index_or (round fun table) at [] ≡ live_row fun table at
unfolding round
row-is fun table at h = get-first (live_row fun table) [] (length fun.code) at h

bit-is : (fun : LowFun) (table : List (List Bool)) (at place : ℕ) → at < length fun.code → place < fun.places
    → bit (round fun table) at place ≡ lives fun table at place
bit-is fun table at place h k =
    ap (λ row. slice_index_or row place false) (row-is fun table at h) ∙ get-first (lives fun table at) false fun.places place k

bit-outside : (fun : LowFun) (table : List (List Bool)) (at place : ℕ) → (length fun.code ≤ at) ⊎ (fun.places ≤ place) → bit (round fun table) at place ≡ false
bit-outside fun table at place (inl h) = ap (λ row. slice_index_or row place false) (row-past fun table at h)
bit-outside fun table at place (inr k) = elim (cases_lt at (length fun.code)) [
  | inl h ↦ ap (λ row. slice_index_or row place false) (row-is fun table at h)
      ∙ get_or_past (live_row fun table at) place false (omega (arith, length-tabulated (lives fun table at) 0 fun.places))
  | inr h ↦ ap (λ row. slice_index_or row place false) (row-past fun table at h)
]

false-true : (b : Bool) → b ≡ false → b ≡ true → ⊥
false-true b e f = cc

bit-lives : (fun : LowFun) (table : List (List Bool)) (at place : ℕ) → bit (round fun table) at place ≡ true → lives fun table at place ≡ true
bit-lives fun table at place e = elim (cases_lt at (length fun.code)) [
  | inl h ↦ elim (cases_lt place fun.places) [
    | inl k ↦ sym (bit-is fun table at place h k) ∙ e
    | inr k ↦ absurd (false-true _ (bit-outside fun table at place (inr k)) e)
  ]
  | inr h ↦ absurd (false-true _ (bit-outside fun table at place (inl h)) e)
]

-- ---- what rounds find is live

lives-live : (fun : LowFun) (table : List (List Bool)) → ((at place : ℕ) → bit table at place ≡ true → Live fun at place)
    → (at place : ℕ) → lives fun table at place ≡ true → Live fun at place
lives-live fun table justified at place e =
    elim (either (has (reads_at fun at) place) (not (has (writes_at fun at) place) && list_any (λ next. bit table next place) (ways_from fun at)) e) [
      | inl h ↦ Read at place (has-there _ place h)
      | inr h ↦
          let parts = both (not (has (writes_at fun at) place)) (list_any (λ next. bit table next place) (ways_from fun at)) h in
          let next = any-there (λ next. bit table next place) (ways_from fun at) parts.1 in
          Kept at next.0 place next.1 (λ c. not-true _ (there-has (writes_at fun at) place c) parts.0) (justified next.0 place next.2)
    ]
  where
    not-true : (b : Bool) → b ≡ true → not b ≡ true → ⊥
    not-true true e f = cc
    not-true false e f = cc

pub rounds-live : (fun : LowFun) (count at place : ℕ) → bit (rounds fun count) at place ≡ true → Live fun at place
unfolding rounds
rounds-live fun zero at place e = cc
rounds-live fun (suc count) at place e =
    lives-live fun (rounds fun count) (rounds-live fun count) at place (bit-lives fun (rounds fun count) at place e)

-- ---- a table that a round leaves as it is has all live places

there-within : {A : Type 0} (xs : List A) (x : A) → Contains xs x → 0 < length xs
there-within xs x c = omega (arith, c.1)

get-past : {A : Type 0} (xs : List A) (i : ℕ) → length xs ≤ i → slice_get xs i ≡ None
get-past [] i h = refl
get-past (x ∷ xs) zero h = absurd (omega arith)
get-past (x ∷ xs) (suc i) h = let le : length xs ≤ i = omega arith in get-past xs i le

none-past : (fun : LowFun) (at : ℕ) → length fun.code ≤ at → instruction_at fun.code at ≡ None
unfolding instruction_at
none-past fun at h = ap (λ o. with_instruction o instruction_of) (get-past fun.code at h)

read-within : (fun : LowFun) (at place : ℕ) → Contains (reads_at fun at) place → at < length fun.code
unfolding reads_at
read-within fun at place c = elim (cases_lt at (length fun.code)) [
  | inl h ↦ h
  | inr h ↦ absurd (omega (arith, ap (λ o. length (reads_of o)) (none-past fun at h), c.1))
]

way-within : (fun : LowFun) (at next : ℕ) → Contains (ways_from fun at) next → at < length fun.code
unfolding ways_from
way-within fun at next c = elim (cases_lt at (length fun.code)) [
  | inl h ↦ h
  | inr h ↦ absurd (omega (arith, ap (λ o. length (ways_of o at (label_at fun.labels (target_of (slice_get fun.code at))))) (none-past fun at h), c.1))
]

pub not-there : (b : Bool) → (b ≡ true → ⊥) → not b ≡ true
not-there true h = absurd (h refl)
not-there false h = refl

pub and-true : (a b : Bool) → a ≡ true → b ≡ true → (a && b) ≡ true
and-true a b e f = cc

pub live-found : (fun : LowFun) (table : List (List Bool)) → round fun table ≡ table → (at place : ℕ) → place < fun.places → Live fun at place
    → bit table at place ≡ true
live-found fun table fix at place lt (Read _ _ c) =
    ap (λ t. bit t at place) (sym fix) ∙ bit-is fun table at place (read-within fun at place c) lt
    ∙ left_true _ _ (there-has (reads_at fun at) place c)
live-found fun table fix at place lt (Kept _ next _ way unwritten later) =
    ap (λ t. bit t at place) (sym fix) ∙ bit-is fun table at place (way-within fun at next way) lt
    ∙ right_true _ _ (and-true _ _ (not-there _ (λ h. unwritten (has-there _ place h)))
    (there-any (λ n. bit table n place) (ways_from fun at) next way (live-found fun table fix next place lt later)))

-- ---- what is live or written stands within the code

pub live-within : (fun : LowFun) (at place : ℕ) → Live fun at place → at < length fun.code
live-within fun at place (Read _ _ c) = read-within fun at place c
live-within fun at place (Kept _ next _ way unwritten later) = way-within fun at next way

pub written-within : (fun : LowFun) (at place : ℕ) → Contains (writes_at fun at) place → at < length fun.code
unfolding writes_at
written-within fun at place c = elim (cases_lt at (length fun.code)) [
  | inl h ↦ h
  | inr h ↦ absurd (omega (arith, ap (λ o. length (writes_of o)) (none-past fun at h), c.1))
]
