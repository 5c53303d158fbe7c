-- The laws of readers by tables: one symbol, and a symbol that decides.
use Rattle.std.proofs.Common.{◌≡◌, ℕ, suc, ◌+◌, ◌<◌, ◌≤◌, List, [], ◌∷◌, ◌++◌, length, Option, Some, None, Ok, Err, refl, sym, ap, ◌∙◌, arith, inl, inr}
use Rattle.std.specs.Option.{option_map}
use Rattle.xan_read.specs.Reader.{ReadOf, ReaderOf, Alike}
use Rattle.xan_read.specs.Rooms.{FamilyOf, Example, FoundWithin, FaultyWithin, ExactWithin}
use Rattle.xan_read.specs.Symbols.{TableOf, eat, or_fault, take, IsTaken, decided, where_comes, IsBehind, WhereComes}
use Rattle.xan_read.proofs.AlikeLaws.{ok_parts, err_is, alike_through}

-- ---- one symbol

pub record Eaten {S A : Type 0} (table : TableOf S A) (symbols : List S) (x : A) (rest : List S) : Type 0 where
  pub symbol : S
  pub is : table symbol ≡ Some x
  pub parts : symbols ≡ symbol ∷ rest

abbrev with_rest : {S A : Type 0} → List S → Option A → Option (A × List S)
with_rest {S} {A} symbols o = option_map (λ (x : A). (x, symbols)) o

some_is : {S A : Type 0} (x y : A) (r s : List S) → with_rest r (Some x) ≡ with_rest s (Some y) → (x ≡ y) × (r ≡ s)
some_is {S} {A} x y r s e = let pairs : (x, r) ≡ (y, s) = pair_is (x, r) (y, s) e in (ap (λ (p : A × List S). p.0) pairs, ap (λ (p : A × List S). p.1) pairs)
  where
    pair_is : (p q : A × List S) → with_rest p.1 (Some p.0) ≡ with_rest q.1 (Some q.0) → p ≡ q
    pair_is p q e = cc

pub eaten : {S A : Type 0} (table : TableOf S A) (symbols : List S) (x : A) (rest : List S) → eat table symbols ≡ Some (x, rest) → Eaten table symbols x rest
unfolding eat
eaten table [] x rest e = absurd cc
eaten {S} {A} table (symbol ∷ symbols) x rest e = go (table symbol) refl e
  where
    go : (o : Option A) → table symbol ≡ o → with_rest symbols o ≡ Some (x, rest) → Eaten table (symbol ∷ symbols) x rest
    go None is e = absurd cc
    go (Some y) is e = let p = some_is y x symbols rest e in record { symbol = symbol; is = is ∙ ap Some p.0; parts = ap (λ (t : List S). symbol ∷ t) p.1 }

pub eat-comes : {S A : Type 0} (table : TableOf S A) (symbol : S) (x : A) (rest : List S) → table symbol ≡ Some x → eat table (symbol ∷ rest) ≡ Some (x, rest)
unfolding eat
eat-comes table symbol x rest is = ap (with_rest rest) is

pub eat-other : {S A : Type 0} (table : TableOf S A) (symbol : S) (rest : List S) → table symbol ≡ None → eat table (symbol ∷ rest) ≡ None
unfolding eat
eat-other table symbol rest is = ap (with_rest rest) is

pub eat-none : {S A : Type 0} (table : TableOf S A) → eat table [] ≡ None
unfolding eat
eat-none table = refl

pub eat_alike : {S A : Type 0} (table : TableOf S A) (rest more : List S) → eat table rest ≡ None → Alike rest more → eat table more ≡ None
unfolding eat
eat_alike table [] [] e h = refl
eat_alike table [] (d ∷ more) e h = absurd h
eat_alike table (b ∷ rest) [] e h = absurd h
eat_alike {S} {A} table (b ∷ rest) (d ∷ more) e h = go (table b) refl e
  where
    go : (o : Option A) → table b ≡ o → with_rest rest o ≡ None → with_rest more (table d) ≡ None
    go None is e = ap (with_rest more) (ap table (sym h) ∙ is)
    go (Some x) is e = absurd cc

pub within-take : {S A : Type 0} (most slack : ℕ) (table : TableOf S A) (Stops : List S → Type 0) → Example (IsTaken table) → ExactWithin most slack (λ _. take table) (IsTaken table) Stops
unfolding take
within-take {S} {A} most slack table Stops some = record {
  some = some;
  found = λ room symbols x rest le e. found_take symbols x rest (eat table symbols) refl e;
  faulty = λ room symbols left le fits e. faulty_take symbols left (eat table symbols) refl e;
  whole = λ room x front rest le fits is h. rw (is.parts) (ap (or_fault (suc (length rest))) (eat-comes table is.symbol x rest is.is));
}
  where
    found_take : (symbols : List S) (x : A) (rest : List S) (o : Option (A × List S)) → eat table symbols ≡ o → or_fault (length symbols) o ≡ Ok (x, rest)
        → FoundWithin most slack (λ _. take table) (IsTaken table) symbols x rest
    found_take symbols x rest None e1 e2 = absurd cc
    found_take symbols x rest (Some p) e1 e2 =
        let same = ok_parts p.0 x p.1 rest e2 in
        let f = eaten table symbols p.0 p.1 e1 in
        record {
          front = f.symbol ∷ [];
          is = record { symbol = f.symbol; is = f.is ∙ ap Some same.0; parts = refl };
          parts = f.parts ∙ ap (λ (t : List S). f.symbol ∷ t) same.1;
          again = λ room more le fits h. ap (or_fault (suc (length more))) (eat-comes table f.symbol x more (f.is ∙ ap Some same.0));
        }

    faulty_take : (symbols : List S) (left : ℕ) (o : Option (A × List S)) → eat table symbols ≡ o → or_fault (length symbols) o ≡ Err left
        → FaultyWithin most slack (λ _. take table) (IsTaken table) symbols left
    faulty_take symbols left None e1 e2 = record {
      front = [];
      rest = symbols;
      parts = refl;
      left_is = err_is {A = A × List S} (length symbols) left e2;
      value = some.value;
      ending = some.text;
      begun = some.is;
      again = λ room more le fits h. ap (or_fault (length more)) (eat_alike table symbols more e1 h);
    }
    faulty_take symbols left (Some p) e1 e2 = absurd cc

-- ---- a symbol that decides

module _ {S A B : Type 0} (most slack inner : ℕ) (table : TableOf S A) (P : A → FamilyOf S B) (Q : FamilyOf S B) (First : A → B → List S → Type 0) (Second : B → List S → Type 0)
    (Between After : List S → Type 0) (first : (a : A) → ExactWithin most inner (P a) (First a) After) (second : ExactWithin most slack Q Second Between)
    (narrow : slack ≤ suc inner)
    (stops : (y : B) (text rest : List S) → Second y text → After rest → Between rest × (eat table (text ++ rest) ≡ None)) where
  abbrev Chosen : FamilyOf S B
  Chosen room = where_comes table (λ a. P a room) (Q room)

  found_where_comes : (room : ℕ) (symbols : List S) (y : B) (rest : List S) (o : Option (A × List S)) → room ≤ most → eat table symbols ≡ o
      → decided o (λ a. P a room) (Q room symbols) ≡ Ok (y, rest) → FoundWithin most slack Chosen (WhereComes table First Second) symbols y rest
  found_where_comes room symbols y rest (Some p) le e1 e2 =
      let e = eaten table symbols p.0 p.1 e1 in
      let f = (first p.0).found room p.1 y rest le e2 in
      record {
        front = e.symbol ∷ f.front;
        is = inl (record { symbol = e.symbol; value = p.0; back = f.front; decides = e.is; is = f.is; parts = refl });
        parts = e.parts ∙ ap (λ (t : List S). e.symbol ∷ t) f.parts;
        again = λ room more le fits h.
            let less : length f.front < inner + room = omega arith in
            ap (λ o. decided o (λ a. P a room) (Q room (e.symbol ∷ (f.front ++ more)))) (eat-comes table e.symbol p.0 (f.front ++ more) e.is) ∙ f.again room more le less h;
      }
  found_where_comes room symbols y rest None le e1 e2 = let f = second.found room symbols y rest le e2 in record {
    front = f.front;
    is = inr f.is;
    parts = f.parts;
    again = λ room more le fits h.
        ap (λ o. decided o (λ a. P a room) (Q room (f.front ++ more))) (eat_alike table symbols (f.front ++ more) e1 (alike_through symbols f.front rest more f.parts h)) ∙ f.again room more le fits h;
  }

  faulty_where_comes : (room : ℕ) (symbols : List S) (left : ℕ) (o : Option (A × List S)) → room ≤ most → length symbols < slack + room → eat table symbols ≡ o
      → decided o (λ a. P a room) (Q room symbols) ≡ Err left → FaultyWithin most slack Chosen (WhereComes table First Second) symbols left
  faulty_where_comes room symbols left (Some p) le fits e1 e2 =
      let e = eaten table symbols p.0 p.1 e1 in
      let less : length p.1 < inner + room = omega (arith, ap length e.parts) in
      let f = (first p.0).faulty room p.1 left le less e2 in
      record {
        front = e.symbol ∷ f.front;
        rest = f.rest;
        parts = e.parts ∙ ap (λ (t : List S). e.symbol ∷ t) f.parts;
        left_is = f.left_is;
        value = f.value;
        ending = f.ending;
        begun = inl (record { symbol = e.symbol; value = p.0; back = f.front ++ f.ending; decides = e.is; is = f.begun; parts = refl });
        again = λ room more le fits h.
            let less : length f.front < inner + room = omega arith in
            ap (λ o. decided o (λ a. P a room) (Q room (e.symbol ∷ (f.front ++ more)))) (eat-comes table e.symbol p.0 (f.front ++ more) e.is) ∙ f.again room more le less h;
      }
  faulty_where_comes room symbols left None le fits e1 e2 = let f = second.faulty room symbols left le fits e2 in record {
    front = f.front;
    rest = f.rest;
    parts = f.parts;
    left_is = f.left_is;
    value = f.value;
    ending = f.ending;
    begun = inr f.begun;
    again = λ room more le fits h.
        ap (λ o. decided o (λ a. P a room) (Q room (f.front ++ more))) (eat_alike table symbols (f.front ++ more) e1 (alike_through symbols f.front f.rest more f.parts h)) ∙ f.again room more le fits h;
  }

  whole_where_comes : (room : ℕ) (y : B) (front rest : List S) → room ≤ most → length front < slack + room → WhereComes table First Second y front → After rest → Chosen room (front ++ rest) ≡ Ok (y, rest)
  whole_where_comes room y front rest le fits (inl is) h =
      let less : length is.back < inner + room = omega (arith, ap length is.parts) in
      ap (λ (t : List S). Chosen room (t ++ rest)) is.parts
      ∙ ap (λ o. decided o (λ a. P a room) (Q room (is.symbol ∷ (is.back ++ rest)))) (eat-comes table is.symbol is.value (is.back ++ rest) is.decides)
      ∙ (first is.value).whole room y is.back rest le less is.is h
  whole_where_comes room y front rest le fits (inr is) h =
      let s = stops y front rest is h in
      ap (λ o. decided o (λ a. P a room) (Q room (front ++ rest))) s.1 ∙ second.whole room y front rest le fits is s.0

  pub within-where_comes : ExactWithin most slack Chosen (WhereComes table First Second) After
  within-where_comes = record {
    some = record { value = second.some.value; text = second.some.text; is = inr second.some.is };
    found = λ room symbols y rest le e. found_where_comes room symbols y rest (eat table symbols) le refl e;
    faulty = λ room symbols left le fits e. faulty_where_comes room symbols left (eat table symbols) le fits refl e;
    whole = whole_where_comes;
  }
