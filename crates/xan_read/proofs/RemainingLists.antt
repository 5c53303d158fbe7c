-- The laws of lists without a bound: the symbols that remain are room enough.
use Rattle.std.proofs.Common.{◌≡◌, ℕ, zero, suc, ◌+◌, ◌<◌, ◌≤◌, List, [], ◌∷◌, ◌++◌, length, Option, Some, None, Ok, Err, refl, sym, ap, subst, ◌∙◌, append_assoc, append-nil, arith}
use Rattle.std.proofs.lemmas.List.{length-append}
use Rattle.xan_read.specs.Reader.{ReadOf, ReaderOf, ◌>>=◌, Alike}
use Rattle.xan_read.specs.Rooms.{FamilyOf, ExactWithin}
use Rattle.xan_read.specs.Symbols.{TableOf, eat, decided, repeated_from, Items, IsRepeated}
use Rattle.xan_read.proofs.AlikeLaws.{done, failed, ok_parts, err_is, alike_through}
use Rattle.xan_read.proofs.TableLaws.{eaten, eat-comes, eat-none, eat_alike}

-- ---- items, each behind a symbol of a table

module _ {S A B : Type 0} (most slack inner : ℕ) (table : TableOf S A) (item : A → FamilyOf S B) (First : A → B → List S → Type 0) (Stops After : List S → Type 0)
    (exact : (a : A) → ExactWithin most inner (item a) (First a) Stops) (narrow : slack ≤ suc inner)
    (next : (symbol : S) (a : A) (rest : List S) → table symbol ≡ Some a → Stops (symbol ∷ rest))
    (last : (rest : List S) → After rest → Stops rest × (eat table rest ≡ None)) where
  abbrev Reading : ℕ → ℕ → List B → ReaderOf S (List B)
  Reading room count found = repeated_from table (λ a. item a room) count found

  one_more : (room count : ℕ) (found : List B) (symbol : S) (a : A) (x : B) (front later : List S) → table symbol ≡ Some a → item a room (front ++ later) ≡ Ok (x, later)
      → Reading room (suc count) found (symbol ∷ (front ++ later)) ≡ Reading room count (found ++ x ∷ []) later
  unfolding repeated_from
  one_more room count found symbol a x front later e1 e2 = rw (eat-comes table symbol a (front ++ later) e1, e2) refl

  no_more : (room count : ℕ) (found : List B) (more : List S) → eat table more ≡ None → Reading room count found more ≡ Ok (found ++ [], more)
  unfolding repeated_from
  no_more room zero found more e = ap (λ (l : List B). done l more) (sym (append-nil found))
  no_more room (suc count) found more e = ap (λ o. decided o (λ a rest. item a room rest >>= λ x. repeated_from table (λ a. item a room) count (found ++ x.0 ∷ []) x.1) (Ok (found, more))) e ∙ ap (λ (l : List B). done l more) (sym (append-nil found))

  record FoundItems (found : List B) (symbols : List S) (ys : List B) (rest : List S) : Type 0 where
    xs : List B
    front : List S
    is : ys ≡ found ++ xs
    items : Items table First xs front
    parts : symbols ≡ front ++ rest
    again : (room count : ℕ) (found : List B) (more : List S) → room ≤ most → length front < slack + room → length front ≤ count → Alike rest more
        → Reading room count found (front ++ more) ≡ Ok (found ++ xs, more)

  none_found : (found : List B) (symbols : List S) (ys : List B) (rest : List S) → eat table symbols ≡ None → done found symbols ≡ done ys rest → FoundItems found symbols ys rest
  none_found found symbols ys rest none e =
      let same = ok_parts found ys symbols rest e in
      record {
        xs = [];
        front = [];
        is = sym same.0 ∙ sym (append-nil found);
        items = refl;
        parts = same.1;
        again = λ room count found more le fits few h. no_more room count found more (eat_alike table symbols more none (subst (λ (t : List S). Alike t more) (sym same.1) h));
      }

  some_found : (found : List B) (symbols : List S) (ys : List B) (rest : List S) (room : ℕ) (a : A) (later : List S) (x : B) (behind : List S) → room ≤ most
      → eat table symbols ≡ Some (a, later) → item a room later ≡ Ok (x, behind) → FoundItems (found ++ x ∷ []) behind ys rest → FoundItems found symbols ys rest
  some_found found symbols ys rest room a later x behind le e1 e2 g =
      let e = eaten table symbols a later e1 in
      let f = (exact a).found room later x behind le e2 in
      record {
        xs = x ∷ g.xs;
        front = e.symbol ∷ (f.front ++ g.front);
        is = g.is ∙ append_assoc found (x ∷ []) g.xs;
        items = record { symbol = e.symbol; value = a; front = f.front; back = g.front; decides = e.is; first = f.is; others = g.items; parts = refl };
        parts = e.parts ∙ ap (λ (t : List S). e.symbol ∷ t) (f.parts ∙ ap (λ (t : List S). f.front ++ t) g.parts ∙ sym (append_assoc f.front g.front rest));
        again = λ room count found more le fits few h. repeats e.symbol f.front g.front g.xs e.is f.again g.again g.parts room count found more le fits few h;
      }
    where
      repeats : (symbol : S) (front back : List S) (xs : List B) → table symbol ≡ Some a
          → ((room : ℕ) (more : List S) → room ≤ most → length front < inner + room → Alike behind more → item a room (front ++ more) ≡ Ok (x, more))
          → ((room count : ℕ) (found : List B) (more : List S) → room ≤ most → length back < slack + room → length back ≤ count → Alike rest more → Reading room count found (back ++ more) ≡ Ok (found ++ xs, more))
          → behind ≡ back ++ rest
          → (room count : ℕ) (found : List B) (more : List S) → room ≤ most → length (symbol ∷ (front ++ back)) < slack + room → length (symbol ∷ (front ++ back)) ≤ count → Alike rest more
          → Reading room count found (symbol ∷ ((front ++ back) ++ more)) ≡ Ok (found ++ x ∷ xs, more)
      repeats symbol front back xs is first others parts room zero found more le fits few h = absurd (omega arith)
      repeats symbol front back xs is first others parts room (suc count) found more le fits few h =
          let one : length front < inner + room = omega (arith, length-append front back) in
          let two : length back < slack + room = omega (arith, length-append front back) in
          let three : length back ≤ count = omega (arith, length-append front back) in
          ap (λ (t : List S). Reading room (suc count) found (symbol ∷ t)) (append_assoc front back more)
          ∙ one_more room count found symbol a x front (back ++ more) is (first room (back ++ more) le one (alike_through behind back rest more parts h))
          ∙ others room count (found ++ x ∷ []) more le two three h
          ∙ ap (λ (l : List B). done l more) (append_assoc found (x ∷ []) xs)

  found_items : (count room : ℕ) (found : List B) (symbols : List S) (ys : List B) (rest : List S) → room ≤ most → length symbols ≤ count
      → Reading room count found symbols ≡ Ok (ys, rest) → FoundItems found symbols ys rest
  unfolding repeated_from
  found_items zero room found [] ys rest le few e = none_found found [] ys rest (eat-none table) e
  found_items zero room found (t ∷ ts) ys rest le few e = absurd (omega arith)
  found_items (suc count) room found symbols ys rest le few e = by_next (eat table symbols) refl e (λ (x : B) (behind : List S) (less : length behind ≤ count) (h : Reading room count (found ++ x ∷ []) behind ≡ Ok (ys, rest)).
      found_items count room (found ++ x ∷ []) behind ys rest le less h)
    where
      Others : Type 0
      Others = (x : B) (behind : List S) → length behind ≤ count → Reading room count (found ++ x ∷ []) behind ≡ Ok (ys, rest) → FoundItems (found ++ x ∷ []) behind ys rest

      by_item : (a : A) (later : List S) (r : ReadOf S B) → eat table symbols ≡ Some (a, later) → item a room later ≡ r
          → (r >>= λ x. Reading room count (found ++ x.0 ∷ []) x.1) ≡ Ok (ys, rest)
          → ((x : B) (behind : List S) → length behind ≤ count → Reading room count (found ++ x ∷ []) behind ≡ Ok (ys, rest) → FoundItems (found ++ x ∷ []) behind ys rest)
          → FoundItems found symbols ys rest
      by_item a later (Ok x) e1 e2 e3 others =
          let b = eaten table symbols a later e1 in
          let f = (exact a).found room later x.0 x.1 le e2 in
          let less : length x.1 ≤ count = omega (arith, ap length b.parts, ap length f.parts, length-append f.front x.1) in
          some_found found symbols ys rest room a later x.0 x.1 le e1 e2 (others x.0 x.1 less e3)
      by_item a later (Err n) e1 e2 e3 others = absurd cc

      by_next : (o : Option (A × List S)) → eat table symbols ≡ o
          → decided o (λ a rest. item a room rest >>= λ x. Reading room count (found ++ x.0 ∷ []) x.1) (Ok (found, symbols)) ≡ Ok (ys, rest)
          → ((x : B) (behind : List S) → length behind ≤ count → Reading room count (found ++ x ∷ []) behind ≡ Ok (ys, rest) → FoundItems (found ++ x ∷ []) behind ys rest)
          → FoundItems found symbols ys rest
      by_next None none e others = none_found found symbols ys rest none e
      by_next (Some p) some e others = by_item p.0 p.1 (item p.0 room p.1) some refl e others

  record FaultyItems (symbols : List S) (left : ℕ) : Type 0 where
    xs : List B
    front : List S
    rest : List S
    ending : List S
    parts : symbols ≡ front ++ rest
    left_is : length rest ≡ left
    begun : Items table First xs (front ++ ending)
    again : (room count : ℕ) (found : List B) (more : List S) → room ≤ most → length front < slack + room → length front ≤ count → Alike rest more
        → Reading room count found (front ++ more) ≡ Err (length more)

  -- the fault is in this item
  here_faulty : (symbols : List S) (left room : ℕ) (a : A) (later : List S) → room ≤ most → length symbols < slack + room → eat table symbols ≡ Some (a, later)
      → item a room later ≡ Err left → FaultyItems symbols left
  unfolding repeated_from
  here_faulty symbols left room a later le fits e1 e2 =
      let e = eaten table symbols a later e1 in
      let less : length later < inner + room = omega (arith, ap length e.parts) in
      let f = (exact a).faulty room later left le less e2 in
      record {
        xs = f.value ∷ [];
        front = e.symbol ∷ f.front;
        rest = f.rest;
        ending = f.ending;
        parts = e.parts ∙ ap (λ (t : List S). e.symbol ∷ t) f.parts;
        left_is = f.left_is;
        begun = record { symbol = e.symbol; value = a; front = f.front ++ f.ending; back = []; decides = e.is; first = f.begun; others = refl; parts = ap (λ (t : List S). e.symbol ∷ t) (sym (append-nil (f.front ++ f.ending))) };
        again = λ room count found more le fits few h. fails e.symbol f.front f.rest e.is f.again room count found more le fits few h;
      }
    where
      fails : (symbol : S) (front rest : List S) → table symbol ≡ Some a
          → ((room : ℕ) (more : List S) → room ≤ most → length front < inner + room → Alike rest more → item a room (front ++ more) ≡ Err (length more))
          → (room count : ℕ) (found : List B) (more : List S) → room ≤ most → length (symbol ∷ front) < slack + room → length (symbol ∷ front) ≤ count → Alike rest more
          → Reading room count found (symbol ∷ (front ++ more)) ≡ Err (length more)
      fails symbol front rest is first room zero found more le fits few h = absurd (omega arith)
      fails symbol front rest is first room (suc count) found more le fits few h =
          let one : length front < inner + room = omega arith in
          rw (eat-comes table symbol a (front ++ more) is, first room more le one h) refl

  -- the fault is behind this item
  later_faulty : (symbols : List S) (left room : ℕ) (a : A) (later : List S) (x : B) (behind : List S) → room ≤ most → eat table symbols ≡ Some (a, later)
      → item a room later ≡ Ok (x, behind) → FaultyItems behind left → FaultyItems symbols left
  later_faulty symbols left room a later x behind le e1 e2 g =
      let e = eaten table symbols a later e1 in
      let f = (exact a).found room later x behind le e2 in
      record {
        xs = x ∷ g.xs;
        front = e.symbol ∷ (f.front ++ g.front);
        rest = g.rest;
        ending = g.ending;
        parts = e.parts ∙ ap (λ (t : List S). e.symbol ∷ t) (f.parts ∙ ap (λ (t : List S). f.front ++ t) g.parts ∙ sym (append_assoc f.front g.front g.rest));
        left_is = g.left_is;
        begun = record { symbol = e.symbol; value = a; front = f.front; back = g.front ++ g.ending; decides = e.is; first = f.is; others = g.begun; parts = ap (λ (t : List S). e.symbol ∷ t) (append_assoc f.front g.front g.ending) };
        again = λ room count found more le fits few h. fails e.symbol f.front g.front g.rest e.is f.again g.again g.parts room count found more le fits few h;
      }
    where
      fails : (symbol : S) (front back rest : List S) → table symbol ≡ Some a
          → ((room : ℕ) (more : List S) → room ≤ most → length front < inner + room → Alike behind more → item a room (front ++ more) ≡ Ok (x, more))
          → ((room count : ℕ) (found : List B) (more : List S) → room ≤ most → length back < slack + room → length back ≤ count → Alike rest more → Reading room count found (back ++ more) ≡ Err (length more))
          → behind ≡ back ++ rest
          → (room count : ℕ) (found : List B) (more : List S) → room ≤ most → length (symbol ∷ (front ++ back)) < slack + room → length (symbol ∷ (front ++ back)) ≤ count → Alike rest more
          → Reading room count found (symbol ∷ ((front ++ back) ++ more)) ≡ Err (length more)
      fails symbol front back rest is first others parts room zero found more le fits few h = absurd (omega arith)
      fails symbol front back rest is first others parts room (suc count) found more le fits few h =
          let one : length front < inner + room = omega (arith, length-append front back) in
          let two : length back < slack + room = omega (arith, length-append front back) in
          let three : length back ≤ count = omega (arith, length-append front back) in
          ap (λ (t : List S). Reading room (suc count) found (symbol ∷ t)) (append_assoc front back more)
          ∙ one_more room count found symbol a x front (back ++ more) is (first room (back ++ more) le one (alike_through behind back rest more parts h))
          ∙ others room count (found ++ x ∷ []) more le two three h

  faulty_items : (count room : ℕ) (found : List B) (symbols : List S) (left : ℕ) → room ≤ most → length symbols < slack + room → length symbols ≤ count
      → Reading room count found symbols ≡ Err left → FaultyItems symbols left
  unfolding repeated_from
  faulty_items zero room found symbols left le fits few e = absurd cc
  faulty_items (suc count) room found symbols left le fits few e = by_next (eat table symbols) refl e (λ (x : B) (behind : List S) (short : length behind < slack + room) (less : length behind ≤ count) (h : Reading room count (found ++ x ∷ []) behind ≡ Err left).
      faulty_items count room (found ++ x ∷ []) behind left le short less h)
    where
      by_item : (a : A) (later : List S) (r : ReadOf S B) → eat table symbols ≡ Some (a, later) → item a room later ≡ r
          → (r >>= λ x. Reading room count (found ++ x.0 ∷ []) x.1) ≡ Err left
          → ((x : B) (behind : List S) → length behind < slack + room → length behind ≤ count → Reading room count (found ++ x ∷ []) behind ≡ Err left → FaultyItems behind left)
          → FaultyItems symbols left
      by_item a later (Ok x) e1 e2 e3 others =
          let b = eaten table symbols a later e1 in
          let f = (exact a).found room later x.0 x.1 le e2 in
          let short : length x.1 < slack + room = omega (arith, ap length b.parts, ap length f.parts, length-append f.front x.1) in
          let less : length x.1 ≤ count = omega (arith, ap length b.parts, ap length f.parts, length-append f.front x.1) in
          later_faulty symbols left room a later x.0 x.1 le e1 e2 (others x.0 x.1 short less e3)
      by_item a later (Err n) e1 e2 e3 others = here_faulty symbols left room a later le fits e1 (e2 ∙ ap (λ (n : ℕ). failed {A = B × List S} n) (err_is {A = List B × List S} n left e3))

      by_next : (o : Option (A × List S)) → eat table symbols ≡ o
          → decided o (λ a rest. item a room rest >>= λ x. Reading room count (found ++ x.0 ∷ []) x.1) (Ok (found, symbols)) ≡ Err left
          → ((x : B) (behind : List S) → length behind < slack + room → length behind ≤ count → Reading room count (found ++ x ∷ []) behind ≡ Err left → FaultyItems behind left)
          → FaultyItems symbols left
      by_next None none e others = absurd cc
      by_next (Some p) some e others = by_item p.0 p.1 (item p.0 room p.1) some refl e others

  whole_items : (xs : List B) (count room : ℕ) (found : List B) (front rest : List S) → room ≤ most → length front < slack + room → length front ≤ count → Items table First xs front → After rest
      → Reading room count found (front ++ rest) ≡ Ok (found ++ xs, rest)
  whole_items [] count room found front rest le fits few is h =
      ap (λ (t : List S). Reading room count found (t ++ rest)) is ∙ no_more room count found rest (last rest h).1
  whole_items (x ∷ xs) zero room found front rest le fits few is h = absurd (omega (arith, ap length is.parts))
  whole_items (x ∷ xs) (suc count) room found front rest le fits few is h =
      let one : length is.front < inner + room = omega (arith, ap length is.parts, length-append is.front is.back) in
      let two : length is.back < slack + room = omega (arith, ap length is.parts, length-append is.front is.back) in
      let three : length is.back ≤ count = omega (arith, ap length is.parts, length-append is.front is.back) in
      ap (λ (t : List S). Reading room (suc count) found (t ++ rest)) is.parts
      ∙ ap (λ (t : List S). Reading room (suc count) found (is.symbol ∷ t)) (append_assoc is.front is.back rest)
      ∙ one_more room count found is.symbol is.value x is.front (is.back ++ rest) is.decides
      ((exact is.value).whole room x is.front (is.back ++ rest) le one is.first (stops_at xs is.back rest is.others h))
      ∙ whole_items xs count room (found ++ x ∷ []) is.back rest le two three is.others h
      ∙ ap (λ (l : List B). done l rest) (append_assoc found (x ∷ []) xs)
    where
      stops_at : (xs : List B) (back rest : List S) → Items table First xs back → After rest → Stops (back ++ rest)
      stops_at [] back rest is h = subst (λ (t : List S). Stops (t ++ rest)) (sym is) (last rest h).0
      stops_at (x ∷ xs) back rest is h = subst (λ (t : List S). Stops (t ++ rest)) (sym is.parts) (next is.symbol is.value ((is.front ++ is.back) ++ rest) is.decides)

  pub within-repeated : (found : List B) → ExactWithin most slack (λ room symbols. repeated_from table (λ a. item a room) (length symbols) found symbols) (IsRepeated table First found) After
  within-repeated found = record {
    some = record { value = found; text = []; is = record { xs = []; is = sym (append-nil found); items = refl } };
    found = λ room symbols ys rest le e. let f = found_items (length symbols) room found symbols ys rest le (omega arith) e in record {
      front = f.front;
      is = record { xs = f.xs; is = f.is; items = f.items };
      parts = f.parts;
      again = λ room more le fits h. f.again room (length (f.front ++ more)) found more le fits (omega (arith, length-append f.front more)) h ∙ ap (λ (l : List B). done l more) (sym f.is);
    };
    faulty = λ room symbols left le fits e. let f = faulty_items (length symbols) room found symbols left le fits (omega arith) e in record {
      front = f.front;
      rest = f.rest;
      parts = f.parts;
      left_is = f.left_is;
      value = found ++ f.xs;
      ending = f.ending;
      begun = record { xs = f.xs; is = refl; items = f.begun };
      again = λ room more le fits h. f.again room (length (f.front ++ more)) found more le fits (omega (arith, length-append f.front more)) h;
    };
    whole = λ room ys front rest le fits is h.
        whole_items is.xs (length (front ++ rest)) room found front rest le fits (omega (arith, length-append front rest)) is.items h ∙ ap (λ (l : List B). done l rest) (sym is.is);
  }
