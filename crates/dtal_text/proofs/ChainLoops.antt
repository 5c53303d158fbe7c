-- Lists in which what an item may be hangs on those before it, item by item, as the loops over them go.
use Rattle.std.proofs.Common.{◌≡◌, ℕ, zero, suc, ◌-◌, Bool, true, false, List, [], ◌∷◌, ◌++◌, length, Option, Some, None, Ok, Err, refl, sym, ap, ◌∙◌, append_assoc, append-nil, arith}
use Rattle.xan_read.specs.Reader.{Read, Reader}
use Rattle.xan_read.specs.Code.{Fails}
use Rattle.xan_read.specs.Lists.{onto}
use Rattle.xan_read.specs.declared.fault.ReadError.{ReadError}
use Rattle.xan_read.specs.declared.fault.ReadError.TheVariants as errors
use Rattle.dtal_text.specs.Chains.{with_front, chain_from, into}
use Rattle.dtal_text.specs.Listings.{item_or_mark, listing_at, has_room, less_room, some_bounded}

-- what is made of the items with one more in front
into_front : {B R : Type 0} (join join' : List B → R) (x : B) (read : Read (List B)) → ((xs : List B) → join' xs ≡ join (x ∷ xs)) → into join' read ≡ into join (with_front x read)
into_front join join' x (Ok xs) same = ap (λ y. Ok (y, xs.1)) (same xs.0)
into_front join join' x (Err n) same = refl

pub onto_none : {B : Type 0} (read : Read (List B)) → onto [] read ≡ read
onto_none (Ok xs) = refl
onto_none (Err n) = refl

module _ {S B : Type 0} (item : S → Reader (Option B)) (next : S → B → S) where
  -- ---- whatever is made of the items

  module _ {R : Type 0} (join : List B → R) where
    -- one item more
    pub into_more : (join' : List B → R) (state : S) (x : B) (left fewer : ℕ) (bytes rest : List ℕ) (total : Read R) → left ≡ suc fewer
        → item state bytes ≡ Ok (Some x, rest) → ((xs : List B) → join' xs ≡ join (x ∷ xs)) → into join (chain_from item next left state bytes) ≡ total
        → into join' (chain_from item next fewer (next state x) rest) ≡ total
    unfolding chain_from
    into_more join' state x left fewer bytes rest total e1 e2 same so_far =
        let one : into join (chain_from item next left state bytes) ≡ into join (with_front x (chain_from item next fewer (next state x) rest)) = rw (e1, e2) refl in
        into_front join join' x (chain_from item next fewer (next state x) rest) same ∙ sym one ∙ so_far

    -- the mark
    pub into_ends : (state : S) (left fewer : ℕ) (bytes rest : List ℕ) (total : Read R) → left ≡ suc fewer
        → item state bytes ≡ Ok (None, rest) → into join (chain_from item next left state bytes) ≡ total → total ≡ Ok (join [], rest)
    unfolding chain_from
    into_ends state left fewer bytes rest total e1 e2 so_far =
        let one : into join (chain_from item next left state bytes) ≡ Ok (join [], rest) = rw (e1, e2) refl in
        sym so_far ∙ one

    -- a fault, or running out of memory
    pub into_fails : (state : S) (e : ReadError) (left fewer : ℕ) (bytes : List ℕ) (total : Read R) → left ≡ suc fewer
        → Fails e (item state bytes) → into join (chain_from item next left state bytes) ≡ total → Fails e total
    unfolding chain_from
    into_fails state errors.Memory left fewer bytes total e1 e2 so_far = tt
    into_fails state (errors.Fault fault) left fewer bytes total e1 e2 so_far =
        let one : into join (chain_from item next left state bytes) ≡ Err fault.left = rw (e1, e2) refl in
        sym so_far ∙ one

    -- an item where there is room for the mark alone
    pub into_full : (state : S) (x : B) (left : ℕ) (bytes rest : List ℕ) (total : Read R) → left ≡ 1
        → item state bytes ≡ Ok (Some x, rest) → into join (chain_from item next left state bytes) ≡ total → total ≡ Err (length rest)
    unfolding chain_from
    into_full state x left bytes rest total e1 e2 so_far =
        let one : into join (chain_from item next left state bytes) ≡ Err (length rest) = rw (e1, e2) refl in
        sym so_far ∙ one

  -- ---- the items behind those that have come

  pub chain_more : (made : List B) (state : S) (x : B) (left fewer : ℕ) (bytes rest : List ℕ) (total : Read (List B)) → left ≡ suc fewer
      → item state bytes ≡ Ok (Some x, rest) → onto made (chain_from item next left state bytes) ≡ total
      → onto (made ++ x ∷ []) (chain_from item next fewer (next state x) rest) ≡ total
  chain_more made state x left fewer bytes rest total e1 e2 so_far =
      into_more (λ xs. made ++ xs) (λ xs. (made ++ x ∷ []) ++ xs) state x left fewer bytes rest total e1 e2 (λ xs. append_assoc made (x ∷ []) xs) so_far

  pub chain_ends : (made : List B) (state : S) (left fewer : ℕ) (bytes rest : List ℕ) (total : Read (List B)) → left ≡ suc fewer
      → item state bytes ≡ Ok (None, rest) → onto made (chain_from item next left state bytes) ≡ total → total ≡ Ok (made, rest)
  chain_ends made state left fewer bytes rest total e1 e2 so_far =
      into_ends (λ xs. made ++ xs) state left fewer bytes rest total e1 e2 so_far ∙ ap (λ (ys : List B). Ok (ys, rest)) (append-nil made)

  pub chain_fails : (made : List B) (state : S) (e : ReadError) (left fewer : ℕ) (bytes : List ℕ) (total : Read (List B)) → left ≡ suc fewer
      → Fails e (item state bytes) → onto made (chain_from item next left state bytes) ≡ total → Fails e total
  chain_fails made state e left fewer bytes total e1 e2 so_far = into_fails (λ xs. made ++ xs) state e left fewer bytes total e1 e2 so_far

  pub chain_full : (made : List B) (state : S) (x : B) (left : ℕ) (bytes rest : List ℕ) (total : Read (List B)) → left ≡ 1
      → item state bytes ≡ Ok (Some x, rest) → onto made (chain_from item next left state bytes) ≡ total → total ≡ Err (length rest)
  chain_full made state x left bytes rest total e1 e2 so_far = into_full (λ xs. made ++ xs) state x left bytes rest total e1 e2 so_far

-- ---- an item that hangs on a state

pub same_listed : {T B : Type 0} (between mark : ℕ) (item : T → Reader B) (may first : Bool) (state : T) (bytes : List ℕ)
    → item_or_mark between mark item may first state bytes ≡ item_or_mark {T = Unit {0}} between mark (λ _. item state) may first tt bytes
same_listed between mark item false first state bytes = refl
same_listed between mark item true true state bytes = refl
same_listed between mark item true false state bytes = refl

-- ---- a list that has an item at least

less_is : {B : Type 0} (room : ℕ) (x : B) → less_room room x ≡ room - 1
less_is zero x = refl
less_is (suc room) x = let e : suc room - 1 ≡ room = omega arith in sym e

-- the first item, and the others behind it
pub some_onto : {B : Type 0} (between mark room : ℕ) (item : Reader B) (first : B) (fewer : ℕ) (made : List B) (bytes rest : List ℕ) → item bytes ≡ Ok (first, rest)
    → fewer ≡ room - 1 → made ≡ first ∷ [] → some_bounded between mark room item bytes ≡ onto made (listing_at between mark has_room (λ _. item) less_room false fewer rest)
some_onto between mark room item first fewer made bytes rest e1 e2 e3 = rw (e1, e2, e3, less_is room first) refl
