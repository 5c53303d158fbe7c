-- Lists with a byte between two items and a mark at the end.
use Rattle.std.specs.Prelude.{ℕ, zero, suc, Bool as Truth, true, false, List, [], ◌∷◌, Option, Some, None, nat_le}
use Rattle.xan_read.specs.Reader.{Reader}
use Rattle.xan_read.specs.Combinators.{give, in_turn, made, behind, where_comes}
use Rattle.dtal_text.specs.Chains.{chain}

-- What an item is hangs on a state, and so does whether one may come at all.
abbrev pub item_or_mark : {T B : Type 0} → (between mark : ℕ) → (T → Reader B) → (may first : Truth) → T → Reader (Option B)
item_or_mark between mark item false first state = behind (mark ∷ []) (give None)
item_or_mark between mark item true true state = where_comes mark (give None) (made Some (item state))
item_or_mark between mark item true false state = where_comes mark (give None) (behind (between ∷ []) (made Some (item state)))

-- the state, and whether no item has come
abbrev pub listed_item : {T B : Type 0} → (between mark : ℕ) → (T → Truth) → (T → Reader B) → Truth × T → Reader (Option B)
listed_item between mark may item state = item_or_mark between mark item (may state.1) state.0 state.1

abbrev pub listed_next : {T B : Type 0} → (T → B → T) → Truth × T → B → Truth × T
listed_next next state x = (false, next state.1 x)

abbrev pub listing_at : {T B : Type 0} → (between mark : ℕ) → (T → Truth) → (T → Reader B) → (T → B → T) → (first : Truth) → T → Reader (List B)
listing_at between mark may item next first state = chain (listed_item between mark may item) (listed_next next) (first, state)

abbrev pub listing : {T B : Type 0} → (between mark : ℕ) → (T → Truth) → (T → Reader B) → (T → B → T) → T → Reader (List B)
listing between mark may item next state = listing_at between mark may item next true state

-- at least one
abbrev pub some_listing : {T B : Type 0} → (between mark : ℕ) → (T → Truth) → (T → Reader B) → (T → B → T) → T → Reader (List B)
some_listing between mark may item next state =
    in_turn (item state) (λ x. in_turn (listing_at between mark may item next false (next state x)) (λ xs. give (x ∷ xs)))

-- ---- any number of items, and so many at most

abbrev pub always : Unit {0} → Truth
always state = true

abbrev pub same : {B : Type 0} → Unit {0} → B → Unit {0}
same state x = tt

abbrev pub unbounded : {B : Type 0} → (between mark : ℕ) → Reader B → Reader (List B)
unbounded between mark item = listing between mark always (λ _. item) same tt

-- there is room for one more
abbrev pub has_room : (room : ℕ) → Truth
has_room zero = false
has_room (suc room) = true

abbrev pub less_room : {B : Type 0} → (room : ℕ) → B → ℕ
less_room zero x = zero
less_room (suc room) x = room

abbrev pub bounded : {B : Type 0} → (between mark : ℕ) → (room : ℕ) → Reader B → Reader (List B)
bounded between mark room item = listing between mark has_room (λ _. item) less_room room

abbrev pub some_bounded : {B : Type 0} → (between mark : ℕ) → (room : ℕ) → Reader B → Reader (List B)
some_bounded between mark room item = some_listing between mark has_room (λ _. item) less_room room

-- ---- items with a number that rises, up to a greatest one

abbrev pub is_up_to : (most : ℕ) → (low : ℕ) → Truth
is_up_to most low = nat_le low most

abbrev pub above : {B : Type 0} → (low : ℕ) → ℕ × B → ℕ
above low x = suc x.0

abbrev pub rising : {B : Type 0} → (between mark most : ℕ) → (ℕ → Reader (ℕ × B)) → Reader (List (ℕ × B))
rising between mark most item = listing between mark (is_up_to most) item above 0
