-- A list in which what an item may be hangs on those before it: where each item's reader is exact, so is the list's.
use Rattle.std.proofs.Common.{◌≡◌, ℕ, zero, suc, ◌<◌, ◌≤◌, List, [], ◌∷◌, ◌++◌, length, Option, Some, None, Ok, Err, refl, sym, ap, subst, ◌∙◌, append_assoc, arith}
use Rattle.std.proofs.lemmas.List.{length-append}
use Rattle.xan_read.specs.Reader.{Read, Reader, ◌>>=◌, Alike, Exact}
use Rattle.xan_read.proofs.AlikeLaws.{ok_parts, err_is, alike_through}
use Rattle.dtal_text.specs.Chains.{with_front, goes_on, chain_from, chain}

-- an item in front of the text of others
pub record InFront (First : List ℕ → Type 0) (Others : List ℕ → Type 0) (text : List ℕ) : Type 0 where
  pub front : List ℕ
  pub back : List ℕ
  pub first : First front
  pub others : Others back
  pub parts : text ≡ front ++ back

-- the text of a list: its items, each in the state behind those before it, and the mark
abbrev pub IsChain : {S B : Type 0} → (S → B → S) → (S → Option B → List ℕ → Type 0) → S → List B → List ℕ → Type 0
IsChain next Item state [] text = Item state None text
IsChain next Item state (x ∷ xs) text = InFront (Item state (Some x)) (IsChain next Item (next state x) xs) text

-- some list that can follow in a state
pub record Ending {S B : Type 0} (next : S → B → S) (Item : S → Option B → List ℕ → Type 0) (state : S) : Type 0 where
  pub xs : List B
  pub text : List ℕ
  pub is : IsChain next Item state xs text

module _ {S B : Type 0} (item : S → Reader (Option B)) (next : S → B → S) (Good : S → Type 0) (Item : S → Option B → List ℕ → Type 0) (Stops : List ℕ → Type 0)
    (exact : (s : S) → Good s → Exact (item s) (Item s) Stops)
    (alone : (s : S) (front rest : List ℕ) → Good s → Item s None front → item s (front ++ rest) ≡ Ok (None, rest))
    (some : (s : S) (x : B) (front : List ℕ) → Item s (Some x) front → 1 ≤ length front)
    (keeps : (s : S) (x : B) (front : List ℕ) → Good s → Item s (Some x) front → Good (next s x))
    (stops : (s : S) (x : B) (front : List ℕ) (o : Option B) (text rest : List ℕ) → Good s → Item s (Some x) front → Item (next s x) o text → Stops (text ++ rest))
    (ends : (s : S) → Good s → Ending next Item s) where
  abbrev Chain : ℕ → S → Reader (List B)
  Chain room s = chain_from item next room s

  abbrev Is : S → List B → List ℕ → Type 0
  Is = IsChain next Item

  -- ---- steps

  at_mark : (room : ℕ) (s : S) (bytes rest : List ℕ) → item s bytes ≡ Ok (None, rest) → Chain (suc room) s bytes ≡ Ok ([], rest)
  unfolding chain_from
  at_mark room s bytes rest e = rw e refl

  at_item : (room : ℕ) (s : S) (bytes : List ℕ) (x : B) (rest : List ℕ) → item s bytes ≡ Ok (Some x, rest) → Chain (suc room) s bytes ≡ with_front x (Chain room (next s x) rest)
  unfolding chain_from
  at_item room s bytes x rest e = rw e refl

  at_fault : (room : ℕ) (s : S) (bytes : List ℕ) (left : ℕ) → item s bytes ≡ Err left → Chain (suc room) s bytes ≡ Err left
  unfolding chain_from
  at_fault room s bytes left e = rw e refl

  item_then : (room : ℕ) (s : S) (bytes : List ℕ) (x : B) (rest : List ℕ) (xs : List B) (last : List ℕ) → item s bytes ≡ Ok (Some x, rest)
      → Chain room (next s x) rest ≡ Ok (xs, last) → Chain (suc room) s bytes ≡ Ok (x ∷ xs, last)
  item_then room s bytes x rest xs last e g = at_item room s bytes x rest e ∙ ap (with_front x) g

  item_fault : (room : ℕ) (s : S) (bytes : List ℕ) (x : B) (rest : List ℕ) (left : ℕ) → item s bytes ≡ Ok (Some x, rest)
      → Chain room (next s x) rest ≡ Err left → Chain (suc room) s bytes ≡ Err left
  item_fault room s bytes x rest left e g = at_item room s bytes x rest e ∙ ap (with_front x) g

  abbrev listed : List B → List ℕ → Read (List B)
  listed xs rest = Ok (xs, rest)

  abbrev broken : ℕ → Read (List B)
  broken left = Err left

  -- ---- what is read is spelled so

  record FoundChain (s : S) (bytes : List ℕ) (xs : List B) (rest : List ℕ) : Type 0 where
    front : List ℕ
    is : Is s xs front
    parts : bytes ≡ front ++ rest
    again : (room : ℕ) (more : List ℕ) → length front < room → Alike rest more → Chain room s (front ++ more) ≡ Ok (xs, more)

  mark_found : (s : S) (bytes : List ℕ) (xs : List B) (rest later : List ℕ) → Good s → item s bytes ≡ Ok (None, later) → listed [] later ≡ listed xs rest → FoundChain s bytes xs rest
  mark_found s bytes xs rest later good e1 e2 =
      let same = ok_parts [] xs later rest e2 in
      let f = (exact s good).found bytes None rest (e1 ∙ ap (λ (t : List ℕ). marked t) same.1) in
      record {
        front = f.front;
        is = subst (λ (ys : List B). Is s ys f.front) same.0 f.is;
        parts = f.parts;
        again = λ room more lt h. repeats f.front room more xs same.0 lt (f.again more h);
      }
    where
      marked : List ℕ → Read (Option B)
      marked t = Ok (None, t)

      repeats : (front : List ℕ) (room : ℕ) (more : List ℕ) (xs : List B) → [] ≡ xs → length front < room → item s (front ++ more) ≡ Ok (None, more) → Chain room s (front ++ more) ≡ Ok (xs, more)
      repeats front zero more xs e lt again = absurd (omega arith)
      repeats front (suc room) more xs e lt again = at_mark room s (front ++ more) more again ∙ ap (λ (ys : List B). listed ys more) e

  item_found : (s : S) (bytes : List ℕ) (x : B) (xs : List B) (rest later : List ℕ) → Good s → item s bytes ≡ Ok (Some x, later)
      → FoundChain (next s x) later xs rest → FoundChain s bytes (x ∷ xs) rest
  item_found s bytes x xs rest later good e g =
      let f = (exact s good).found bytes (Some x) later e in
      record {
        front = f.front ++ g.front;
        is = record { front = f.front; back = g.front; first = f.is; others = g.is; parts = refl };
        parts = f.parts ∙ ap (λ (t : List ℕ). f.front ++ t) g.parts ∙ sym (append_assoc f.front g.front rest);
        again = λ room more lt h. repeats f.front g.front f.is room more lt (f.again (g.front ++ more) (alike_through later g.front rest more g.parts h))
            (λ (fewer : ℕ) (less : length g.front < fewer). g.again fewer more less h);
      }
    where
      repeats : (front back : List ℕ) → Item s (Some x) front → (room : ℕ) (more : List ℕ) → length (front ++ back) < room
          → item s (front ++ (back ++ more)) ≡ Ok (Some x, back ++ more) → ((fewer : ℕ) → length back < fewer → Chain fewer (next s x) (back ++ more) ≡ Ok (xs, more))
          → Chain room s ((front ++ back) ++ more) ≡ Ok (x ∷ xs, more)
      repeats front back is zero more lt first others = absurd (omega arith)
      repeats front back is (suc room) more lt first others =
          let less : length back < room = omega (arith, length-append front back, some s x front is) in
          ap (λ (t : List ℕ). Chain (suc room) s t) (append_assoc front back more)
          ∙ item_then room s (front ++ (back ++ more)) x (back ++ more) xs more first (others room less)

  found_chain : (room : ℕ) (s : S) (bytes : List ℕ) (xs : List B) (rest : List ℕ) → Good s → Chain room s bytes ≡ Ok (xs, rest) → FoundChain s bytes xs rest
  unfolding chain_from
  found_chain zero s bytes xs rest good e = absurd cc
  found_chain (suc room) s bytes xs rest good e =
      by_item (item s bytes) refl e (λ (x : B) (later : List ℕ) (ys : List B) (last : List ℕ) (g : Good (next s x)) (h : Chain room (next s x) later ≡ Ok (ys, last)). found_chain room (next s x) later ys last g h)
    where
      by_others : (x : B) (later : List ℕ) (r : Read (List B)) → item s bytes ≡ Ok (Some x, later) → Chain room (next s x) later ≡ r → with_front x r ≡ Ok (xs, rest)
          → ((ys : List B) (last : List ℕ) → Good (next s x) → Chain room (next s x) later ≡ Ok (ys, last) → FoundChain (next s x) later ys last) → FoundChain s bytes xs rest
      by_others x later (Ok y) e1 e2 e3 others =
          let f = (exact s good).found bytes (Some x) later e1 in
          let same = ok_parts (x ∷ y.0) xs y.1 rest e3 in
          subst (λ (ys : List B). FoundChain s bytes ys rest) same.0
          (item_found s bytes x y.0 rest later good e1
          (subst (λ (t : List ℕ). FoundChain (next s x) later y.0 t) same.1 (others y.0 y.1 (keeps s x f.front good f.is) e2)))
      by_others x later (Err n) e1 e2 e3 others = absurd cc

      by_item : (r : Read (Option B)) → item s bytes ≡ r → (r >>= λ x. goes_on next (Chain room) s x.0 x.1) ≡ Ok (xs, rest)
          → ((x : B) (later : List ℕ) (ys : List B) (last : List ℕ) → Good (next s x) → Chain room (next s x) later ≡ Ok (ys, last) → FoundChain (next s x) later ys last)
          → FoundChain s bytes xs rest
      by_item (Ok (None, later)) e1 e2 others = mark_found s bytes xs rest later good e1 e2
      by_item (Ok (Some x, later)) e1 e2 others = by_others x later (Chain room (next s x) later) e1 refl e2 (others x later)
      by_item (Err n) e1 e2 others = absurd cc

  -- ---- a fault

  record FaultyChain (s : S) (bytes : List ℕ) (left : ℕ) : Type 0 where
    xs : List B
    front : List ℕ
    rest : List ℕ
    ending : List ℕ
    parts : bytes ≡ front ++ rest
    left_is : length rest ≡ left
    begun : Is s xs (front ++ ending)
    again : (room : ℕ) (more : List ℕ) → length (front ++ more) < room → Alike rest more → Chain room s (front ++ more) ≡ Err (length more)

  record Begun (s : S) (front : List ℕ) : Type 0 where
    xs : List B
    ending : List ℕ
    is : Is s xs (front ++ ending)

  -- what begins an item or the mark begins a list
  begins : (s : S) (front ending : List ℕ) (o : Option B) → Good s → Item s o (front ++ ending) → Begun s front
  begins s front ending None good is = record { xs = []; ending = ending; is = is }
  begins s front ending (Some x) good is =
      let e = ends (next s x) (keeps s x (front ++ ending) good is) in
      record {
        xs = x ∷ e.xs;
        ending = ending ++ e.text;
        is = record { front = front ++ ending; back = e.text; first = is; others = e.is; parts = sym (append_assoc front ending e.text) };
      }

  here_faulty : (s : S) (bytes : List ℕ) (left : ℕ) → Good s → item s bytes ≡ Err left → FaultyChain s bytes left
  here_faulty s bytes left good e =
      let f = (exact s good).faulty bytes left e in
      let b = begins s f.front f.ending f.value good f.begun in
      record {
        xs = b.xs;
        front = f.front;
        rest = f.rest;
        ending = b.ending;
        parts = f.parts;
        left_is = f.left_is;
        begun = b.is;
        again = λ room more lt h. fails f.front room more lt (f.again more h);
      }
    where
      fails : (front : List ℕ) (room : ℕ) (more : List ℕ) → length (front ++ more) < room → item s (front ++ more) ≡ Err (length more) → Chain room s (front ++ more) ≡ Err (length more)
      fails front zero more lt again = absurd (omega arith)
      fails front (suc room) more lt again = at_fault room s (front ++ more) (length more) again

  later_faulty : (s : S) (bytes : List ℕ) (left : ℕ) (x : B) (later : List ℕ) → Good s → item s bytes ≡ Ok (Some x, later) → FaultyChain (next s x) later left → FaultyChain s bytes left
  later_faulty s bytes left x later good e g =
      let f = (exact s good).found bytes (Some x) later e in
      record {
        xs = x ∷ g.xs;
        front = f.front ++ g.front;
        rest = g.rest;
        ending = g.ending;
        parts = f.parts ∙ ap (λ (t : List ℕ). f.front ++ t) g.parts ∙ sym (append_assoc f.front g.front g.rest);
        left_is = g.left_is;
        begun = record { front = f.front; back = g.front ++ g.ending; first = f.is; others = g.begun; parts = append_assoc f.front g.front g.ending };
        again = λ room more lt h. fails f.front g.front f.is room more lt (f.again (g.front ++ more) (alike_through later g.front g.rest more g.parts h))
            (λ (fewer : ℕ) (less : length (g.front ++ more) < fewer). g.again fewer more less h);
      }
    where
      fails : (front back : List ℕ) → Item s (Some x) front → (room : ℕ) (more : List ℕ) → length ((front ++ back) ++ more) < room
          → item s (front ++ (back ++ more)) ≡ Ok (Some x, back ++ more) → ((fewer : ℕ) → length (back ++ more) < fewer → Chain fewer (next s x) (back ++ more) ≡ Err (length more))
          → Chain room s ((front ++ back) ++ more) ≡ Err (length more)
      fails front back is zero more lt first others = absurd (omega arith)
      fails front back is (suc room) more lt first others =
          let less : length (back ++ more) < room = omega (arith, length-append (front ++ back) more, length-append front back, length-append back more, some s x front is) in
          ap (λ (t : List ℕ). Chain (suc room) s t) (append_assoc front back more)
          ∙ item_fault room s (front ++ (back ++ more)) x (back ++ more) (length more) first (others room less)

  faulty_chain : (room : ℕ) (s : S) (bytes : List ℕ) (left : ℕ) → Good s → length bytes < room → Chain room s bytes ≡ Err left → FaultyChain s bytes left
  unfolding chain_from
  faulty_chain zero s bytes left good lt e = absurd (omega arith)
  faulty_chain (suc room) s bytes left good lt e =
      by_item (item s bytes) refl e (λ (x : B) (later : List ℕ) (g : Good (next s x)) (less : length later < room) (h : Chain room (next s x) later ≡ Err left). faulty_chain room (next s x) later left g less h)
    where
      by_others : (x : B) (later : List ℕ) (r : Read (List B)) → item s bytes ≡ Ok (Some x, later) → Chain room (next s x) later ≡ r → with_front x r ≡ Err left
          → (Good (next s x) → length later < room → Chain room (next s x) later ≡ Err left → FaultyChain (next s x) later left) → FaultyChain s bytes left
      by_others x later (Ok y) e1 e2 e3 others = absurd cc
      by_others x later (Err n) e1 e2 e3 others =
          let f = (exact s good).found bytes (Some x) later e1 in
          let less : length later < room = omega (arith, ap length f.parts, length-append f.front later, some s x f.front f.is) in
          later_faulty s bytes left x later good e1 (others (keeps s x f.front good f.is) less (e2 ∙ e3))

      by_item : (r : Read (Option B)) → item s bytes ≡ r → (r >>= λ x. goes_on next (Chain room) s x.0 x.1) ≡ Err left
          → ((x : B) (later : List ℕ) → Good (next s x) → length later < room → Chain room (next s x) later ≡ Err left → FaultyChain (next s x) later left)
          → FaultyChain s bytes left
      by_item (Ok (None, later)) e1 e2 others = absurd cc
      by_item (Ok (Some x, later)) e1 e2 others = by_others x later (Chain room (next s x) later) e1 refl e2 (others x later)
      by_item (Err n) e1 e2 others = here_faulty s bytes left good (e1 ∙ ap failed (err_is {A = List B × List ℕ} n left e2))
        where
          failed : ℕ → Read (Option B)
          failed m = Err m

  -- ---- what is spelled so is read

  -- what follows an item: what the rest of the list begins with
  follows : (s : S) (x : B) (front : List ℕ) (xs : List B) (back rest : List ℕ) → Good s → Item s (Some x) front → Is (next s x) xs back → Stops (back ++ rest)
  follows s x front [] back rest good is others = stops s x front None back rest good is others
  follows s x front (y ∷ ys) back rest good is others =
      subst Stops (sym (ap (λ (t : List ℕ). t ++ rest) others.parts ∙ append_assoc others.front others.back rest))
      (stops s x front (Some y) others.front (others.back ++ rest) good is others.first)

  whole_chain : (room : ℕ) (s : S) (xs : List B) (front rest : List ℕ) → Good s → length front < room → Is s xs front → Chain room s (front ++ rest) ≡ Ok (xs, rest)
  whole_chain zero s xs front rest good lt is = absurd (omega arith)
  whole_chain (suc room) s [] front rest good lt is = at_mark room s (front ++ rest) rest (alone s front rest good is)
  whole_chain (suc room) s (x ∷ xs) front rest good lt is =
      let less : length is.back < room = omega (arith, ap length is.parts, length-append is.front is.back, some s x is.front is.first) in
      ap (λ (t : List ℕ). Chain (suc room) s t) (ap (λ (t : List ℕ). t ++ rest) is.parts ∙ append_assoc is.front is.back rest)
      ∙ item_then room s (is.front ++ (is.back ++ rest)) x (is.back ++ rest) xs rest
      ((exact s good).whole (Some x) is.front (is.back ++ rest) is.first (follows s x is.front xs is.back rest good is.first is.others))
      (whole_chain room (next s x) xs is.back rest (keeps s x is.front good is.first) less is.others)

  -- ---- the law

  short : (front rest : List ℕ) → length front < suc (length (front ++ rest))
  short front rest = omega (arith, length-append front rest)

  pub exact-chain : (s : S) → Good s → Exact (chain item next s) (Is s) (λ _. Unit {0})
  exact-chain s good = record {
    found = λ bytes xs rest e. let f = found_chain (suc (length bytes)) s bytes xs rest good e in
        record { front = f.front; is = f.is; parts = f.parts; again = λ more h. f.again (suc (length (f.front ++ more))) more (short f.front more) h };
    faulty = λ bytes left e. let f = faulty_chain (suc (length bytes)) s bytes left good (omega arith) e in
        record {
          front = f.front;
          rest = f.rest;
          parts = f.parts;
          left_is = f.left_is;
          value = f.xs;
          ending = f.ending;
          begun = f.begun;
          again = λ more h. f.again (suc (length (f.front ++ more))) more (omega arith) h;
        };
    whole = λ xs front rest is h. whole_chain (suc (length (front ++ rest))) s xs front rest good (short front rest) is;
  }
