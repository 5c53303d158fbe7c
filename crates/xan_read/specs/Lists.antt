-- Lists of a bounded number of items: each behind a byte, with a byte between two, and with another byte at the end.
use Rattle.std.specs.Prelude.{◌≡◌, ℕ, zero, suc, ◌≤◌, List, [], ◌∷◌, ◌++◌, length, None, Ok}
use Rattle.xan_read.specs.Reader.{Read, Reader, ◌>>=◌}
use Rattle.xan_read.specs.Combinators.{give, in_turn, behind, after, where_comes}

-- what may follow a list: what may follow an item, and no byte that goes on with the list
pub record Ends (Stops : List ℕ → Type 0) (c : ℕ) (rest : List ℕ) : Type 0 where
  pub item : Stops rest
  pub list : after c rest ≡ None

-- ---- { c item }, at most `room` of them

-- each item is spelled behind a byte c
abbrev pub AreBehind : {A : Type 0} → ℕ → (A → List ℕ → Type 0) → List A → List ℕ → Type 0
AreBehind c Is [] text = text ≡ []
AreBehind c Is (x ∷ xs) text = (front : List ℕ) × (back : List ℕ) × Is x front × AreBehind c Is xs back × (text ≡ c ∷ (front ++ back))

pub record IsRepeated {A : Type 0} (c room : ℕ) (Is : A → List ℕ → Type 0) (xs : List A) (text : List ℕ) : Type 0 where
  pub few : length xs ≤ room
  pub are : AreBehind c Is xs text

unfoldable pub repeated : {A : Type 0} → ℕ → ℕ → Reader A → Reader (List A)
repeated c zero p = give []
repeated c (suc room) p = where_comes c (in_turn p (λ x. in_turn (repeated c room p) (λ xs. give (x ∷ xs)))) (give [])

-- ---- item { c item }, at least one and at most `room` more

abbrev pub IsSeparated : {A : Type 0} → ℕ → ℕ → (A → List ℕ → Type 0) → List A → List ℕ → Type 0
IsSeparated c room Is [] text = ⊥
IsSeparated c room Is (x ∷ xs) text = (front : List ℕ) × (back : List ℕ) × Is x front × IsRepeated c room Is xs back × (text ≡ front ++ back)

unfoldable pub separated : {A : Type 0} → ℕ → ℕ → Reader A → Reader (List A)
separated c room p = in_turn p (λ x. in_turn (repeated c room p) (λ xs. give (x ∷ xs)))

-- ---- [ item { c item } ] end, at most `room` of them

abbrev pub IsClosed : {A : Type 0} → ℕ → ℕ → ℕ → (A → List ℕ → Type 0) → List A → List ℕ → Type 0
IsClosed c end room Is [] text = text ≡ end ∷ []
IsClosed c end zero Is (x ∷ xs) text = ⊥
IsClosed c end (suc room) Is (x ∷ xs) text = (front : List ℕ) × IsSeparated c room Is (x ∷ xs) front × (text ≡ front ++ end ∷ [])

unfoldable pub closed : {A : Type 0} → ℕ → ℕ → ℕ → Reader A → Reader (List A)
closed c end zero p = behind (end ∷ []) (give [])
closed c end (suc room) p = where_comes end (give []) (in_turn (separated c room p) (λ xs. behind (end ∷ []) (give xs)))

-- ---- lists, as a loop reads them

-- the items so far, and those that are read
abbrev pub onto : {A : Type 0} → List A → Read (List A) → Read (List A)
onto made read = read >>= λ xs. Ok (made ++ xs.0, xs.1)
