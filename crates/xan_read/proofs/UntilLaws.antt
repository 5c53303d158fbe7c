-- The law of the reader of items up to a symbol of a table.
use Rattle.std.proofs.Common.{◌≡◌, ℕ, zero, suc, ◌+◌, ◌<◌, ◌≤◌, List, [], ◌∷◌, ◌++◌, length, Option, Some, None, Ok, Err, refl, sym, ap, subst, ◌∙◌, append_assoc, append-nil, arith}
use Rattle.std.proofs.lemmas.List.{length-append}
use Rattle.xan_read.specs.Reader.{ReadOf, ReaderOf, ◌>>=◌, Alike}
use Rattle.xan_read.specs.Rooms.{FamilyOf, Example, ExactWithin}
use Rattle.xan_read.specs.Symbols.{TableOf, eat, decided, until, until_from, IsEnd, Closed}
use Rattle.xan_read.proofs.AlikeLaws.{done, failed, ok_parts, err_is, alike_through}
use Rattle.xan_read.proofs.TableLaws.{eaten, eat-comes, eat-none, eat_alike}

module _ {S A B : Type 0} (most slack : ℕ) (end : TableOf S A) (item : FamilyOf S B) (First : B → List S → Type 0) (Stops : List S → Type 0) (exact : ExactWithin most slack item First Stops)
    (last : Example {A = Unit {0}} (λ _. IsEnd end))
    (some : (x : B) (front : List S) → First x front → 1 ≤ length front)
    (apart : (x : B) (front rest : List S) → First x front → eat end (front ++ rest) ≡ None)
    (next : (x : B) (front rest : List S) → First x front → Stops (front ++ rest))
    (close : (symbol : S) (a : A) (rest : List S) → end symbol ≡ Some a → Stops (symbol ∷ rest)) where
  abbrev Run : ℕ → ℕ → List B → ReaderOf S (List B)
  Run room count found = until_from end (item room) count found

  -- the end
  run-end : (room count : ℕ) (found : List B) (symbol : S) (a : A) (rest : List S) → end symbol ≡ Some a → Run room (suc count) found (symbol ∷ rest) ≡ Ok (found, rest)
  unfolding until_from
  run-end room count found symbol a rest e = rw (eat-comes end symbol a rest e) refl

  -- an item
  run-item : (room count : ℕ) (found : List B) (symbols : List S) (x : B) (later : List S) → eat end symbols ≡ None → item room symbols ≡ Ok (x, later) → Run room (suc count) found symbols ≡ Run room count (found ++ x ∷ []) later
  unfolding until_from
  run-item room count found symbols x later e1 e2 = rw (e1, e2) refl

  run-fault : (room count : ℕ) (found : List B) (symbols : List S) (left : ℕ) → eat end symbols ≡ None → item room symbols ≡ Err left → Run room (suc count) found symbols ≡ Err left
  unfolding until_from
  run-fault room count found symbols left e1 e2 = rw (e1, e2) refl

  run-none : (room : ℕ) (found : List B) (symbols : List S) → Run room 0 found symbols ≡ Err (length symbols)
  unfolding until_from
  run-none room found symbols = refl

  record FoundUntil (found : List B) (symbols : List S) (ys : List B) (rest : List S) : Type 0 where
    xs : List B
    front : List S
    is : ys ≡ found ++ xs
    closed : Closed end First xs front
    parts : symbols ≡ front ++ rest
    again : (room count : ℕ) (found : List B) (more : List S) → room ≤ most → length front < slack + room → length front ≤ count → Alike rest more → Run room count found (front ++ more) ≡ Ok (found ++ xs, more)

  end_found : (found : List B) (symbols : List S) (ys : List B) (rest : List S) (a : A) (later : List S) → eat end symbols ≡ Some (a, later) → done found later ≡ done ys rest → FoundUntil found symbols ys rest
  end_found found symbols ys rest a later e1 e2 =
      let same = ok_parts found ys later rest e2 in
      let e = eaten end symbols a later e1 in
      record {
        xs = [];
        front = e.symbol ∷ [];
        is = sym same.0 ∙ sym (append-nil found);
        closed = record { symbol = e.symbol; value = a; decides = e.is; parts = refl };
        parts = e.parts ∙ ap (λ (t : List S). e.symbol ∷ t) same.1;
        again = λ room count found more le fits few h. repeats e.symbol e.is room count found more few;
      }
    where
      repeats : (symbol : S) → end symbol ≡ Some a → (room count : ℕ) (found : List B) (more : List S) → 1 ≤ count → Run room count found (symbol ∷ more) ≡ Ok (found ++ [], more)
      repeats symbol is room zero found more few = absurd (omega arith)
      repeats symbol is room (suc count) found more few = run-end room count found symbol a more is ∙ ap (λ (l : List B). done l more) (sym (append-nil found))

  item_found : (found : List B) (symbols : List S) (ys : List B) (rest : List S) (room : ℕ) (x : B) (later : List S) → room ≤ most → item room symbols ≡ Ok (x, later) → FoundUntil (found ++ x ∷ []) later ys rest → FoundUntil found symbols ys rest
  item_found found symbols ys rest room x later le e g =
      let f = exact.found room symbols x later le e in
      record {
        xs = x ∷ g.xs;
        front = f.front ++ g.front;
        is = g.is ∙ append_assoc found (x ∷ []) g.xs;
        closed = record { front = f.front; back = g.front; first = f.is; others = g.closed; parts = refl };
        parts = f.parts ∙ ap (λ (t : List S). f.front ++ t) g.parts ∙ sym (append_assoc f.front g.front rest);
        again = λ room count found more le fits few h. repeats f.front g.front g.xs f.is f.again g.again g.parts room count found more le fits few h;
      }
    where
      repeats : (front back : List S) (xs : List B) → First x front
          → ((room : ℕ) (more : List S) → room ≤ most → length front < slack + room → Alike later more → item room (front ++ more) ≡ Ok (x, more))
          → ((room count : ℕ) (found : List B) (more : List S) → room ≤ most → length back < slack + room → length back ≤ count → Alike rest more → Run room count found (back ++ more) ≡ Ok (found ++ xs, more))
          → later ≡ back ++ rest
          → (room count : ℕ) (found : List B) (more : List S) → room ≤ most → length (front ++ back) < slack + room → length (front ++ back) ≤ count → Alike rest more → Run room count found ((front ++ back) ++ more) ≡ Ok (found ++ x ∷ xs, more)
      repeats front back xs is first others parts room zero found more le fits few h = absurd (omega (arith, length-append front back, some x front is))
      repeats front back xs is first others parts room (suc count) found more le fits few h =
          let one : length front < slack + room = omega (arith, length-append front back) in
          let two : length back < slack + room = omega (arith, length-append front back) in
          let three : length back ≤ count = omega (arith, length-append front back, some x front is) in
          ap (λ (t : List S). Run room (suc count) found t) (append_assoc front back more)
          ∙ run-item room count found (front ++ (back ++ more)) x (back ++ more) (apart x front (back ++ more) is) (first room (back ++ more) le one (alike_through later back rest more parts h))
          ∙ others room count (found ++ x ∷ []) more le two three h
          ∙ ap (λ (l : List B). done l more) (append_assoc found (x ∷ []) xs)

  found_until : (count room : ℕ) (found : List B) (symbols : List S) (ys : List B) (rest : List S) → room ≤ most → Run room count found symbols ≡ Ok (ys, rest) → FoundUntil found symbols ys rest
  unfolding until_from
  found_until zero room found symbols ys rest le e = absurd cc
  found_until (suc count) room found symbols ys rest le e = by_next (eat end symbols) refl e (λ (x : B) (later : List S) (h : Run room count (found ++ x ∷ []) later ≡ Ok (ys, rest)). found_until count room (found ++ x ∷ []) later ys rest le h)
    where
      by_item : (r : ReadOf S B) → item room symbols ≡ r → (r >>= λ x. Run room count (found ++ x.0 ∷ []) x.1) ≡ Ok (ys, rest)
          → ((x : B) (later : List S) → Run room count (found ++ x ∷ []) later ≡ Ok (ys, rest) → FoundUntil (found ++ x ∷ []) later ys rest) → FoundUntil found symbols ys rest
      by_item (Ok x) e1 e2 others = item_found found symbols ys rest room x.0 x.1 le e1 (others x.0 x.1 e2)
      by_item (Err n) e1 e2 others = absurd cc

      by_next : (o : Option (A × List S)) → eat end symbols ≡ o → decided o (λ _ rest. Ok (found, rest)) (item room symbols >>= λ x. Run room count (found ++ x.0 ∷ []) x.1) ≡ Ok (ys, rest)
          → ((x : B) (later : List S) → Run room count (found ++ x ∷ []) later ≡ Ok (ys, rest) → FoundUntil (found ++ x ∷ []) later ys rest) → FoundUntil found symbols ys rest
      by_next (Some p) e1 e2 others = end_found found symbols ys rest p.0 p.1 e1 e2
      by_next None e1 e2 others = by_item (item room symbols) refl e2 others

  record FaultyUntil (symbols : List S) (left : ℕ) : Type 0 where
    xs : List B
    front : List S
    rest : List S
    ending : List S
    parts : symbols ≡ front ++ rest
    left_is : length rest ≡ left
    begun : Closed end First xs (front ++ ending)
    again : (room count : ℕ) (found : List B) (more : List S) → room ≤ most → length front < slack + room → length (front ++ more) ≤ count → Alike rest more → Run room count found (front ++ more) ≡ Err (length more)

  -- no item is without symbols
  no_item : (room : ℕ) (r : ReadOf S B) → room ≤ most → 0 < slack + room → item room [] ≡ r → r ≡ Err 0
  no_item room (Ok x) le fits e = let f = exact.found room [] x.0 x.1 le e in absurd (omega (arith, ap length f.parts, length-append f.front x.1, some x.0 f.front f.is))
  no_item room (Err n) le fits e = let f = exact.faulty room [] n le fits e in
      let none : n ≡ 0 = omega (arith, f.left_is, ap length f.parts, length-append f.front f.rest) in ap (λ (k : ℕ). failed {A = B × List S} k) none

  ended_faulty : FaultyUntil [] 0
  ended_faulty = record {
    xs = [];
    front = [];
    rest = [];
    ending = last.text;
    parts = refl;
    left_is = refl;
    begun = last.is;
    again = again_at_end;
  }
    where
      again_at_end : (room count : ℕ) (found : List B) (more : List S) → room ≤ most → 0 < slack + room → length more ≤ count → Alike [] more → Run room count found more ≡ Err (length more)
      again_at_end room zero found more le fits few h = run-none room found more
      again_at_end room (suc count) found [] le fits few h = run-fault room count found [] 0 (eat-none end) (no_item room (item room []) le fits refl)
      again_at_end room (suc count) found (d ∷ more) le fits few h = absurd h

  here_faulty : (symbols : List S) (left room : ℕ) → room ≤ most → length symbols < slack + room → eat end symbols ≡ None → item room symbols ≡ Err left → FaultyUntil symbols left
  here_faulty symbols left room le fits e1 e2 =
      let f = exact.faulty room symbols left le fits e2 in
      record {
        xs = f.value ∷ [];
        front = f.front;
        rest = f.rest;
        ending = f.ending ++ last.text;
        parts = f.parts;
        left_is = f.left_is;
        begun = record { front = f.front ++ f.ending; back = last.text; first = f.begun; others = last.is; parts = sym (append_assoc f.front f.ending last.text) };
        again = λ room count found more le fits few h. fails f.front f.rest f.parts f.again room count found more le fits few h;
      }
    where
      fails : (front rest : List S) → symbols ≡ front ++ rest → ((room : ℕ) (more : List S) → room ≤ most → length front < slack + room → Alike rest more → item room (front ++ more) ≡ Err (length more))
          → (room count : ℕ) (found : List B) (more : List S) → room ≤ most → length front < slack + room → length (front ++ more) ≤ count → Alike rest more → Run room count found (front ++ more) ≡ Err (length more)
      fails front rest parts again room zero found more le fits few h =
          let none : length (front ++ more) ≡ length more = omega (arith, length-append front more) in
          run-none room found (front ++ more) ∙ ap (λ (n : ℕ). failed {A = List B × List S} n) none
      fails front rest parts again room (suc count) found more le fits few h =
          run-fault room count found (front ++ more) (length more) (eat_alike end symbols (front ++ more) e1 (alike_through symbols front rest more parts h)) (again room more le fits h)

  later_faulty : (symbols : List S) (left room : ℕ) (x : B) (later : List S) → room ≤ most → item room symbols ≡ Ok (x, later) → FaultyUntil later left → FaultyUntil symbols left
  later_faulty symbols left room x later le e g =
      let f = exact.found room symbols x later le e in
      record {
        xs = x ∷ g.xs;
        front = f.front ++ g.front;
        rest = g.rest;
        ending = g.ending;
        parts = f.parts ∙ ap (λ (t : List S). f.front ++ t) g.parts ∙ sym (append_assoc f.front g.front g.rest);
        left_is = g.left_is;
        begun = record { front = f.front; back = g.front ++ g.ending; first = f.is; others = g.begun; parts = append_assoc f.front g.front g.ending };
        again = λ room count found more le fits few h. fails f.front g.front g.rest f.is f.again g.again g.parts room count found more le fits few h;
      }
    where
      fails : (front back rest : List S) → First x front
          → ((room : ℕ) (more : List S) → room ≤ most → length front < slack + room → Alike later more → item room (front ++ more) ≡ Ok (x, more))
          → ((room count : ℕ) (found : List B) (more : List S) → room ≤ most → length back < slack + room → length (back ++ more) ≤ count → Alike rest more → Run room count found (back ++ more) ≡ Err (length more))
          → later ≡ back ++ rest
          → (room count : ℕ) (found : List B) (more : List S) → room ≤ most → length (front ++ back) < slack + room → length ((front ++ back) ++ more) ≤ count → Alike rest more → Run room count found ((front ++ back) ++ more) ≡ Err (length more)
      fails front back rest is first others parts room zero found more le fits few h = absurd (omega (arith, length-append (front ++ back) more, length-append front back, some x front is))
      fails front back rest is first others parts room (suc count) found more le fits few h =
          let one : length front < slack + room = omega (arith, length-append front back) in
          let two : length back < slack + room = omega (arith, length-append front back) in
          let three : length (back ++ more) ≤ count = omega (arith, length-append (front ++ back) more, length-append front back, length-append back more, some x front is) in
          ap (λ (t : List S). Run room (suc count) found t) (append_assoc front back more)
          ∙ run-item room count found (front ++ (back ++ more)) x (back ++ more) (apart x front (back ++ more) is) (first room (back ++ more) le one (alike_through later back rest more parts h))
          ∙ others room count (found ++ x ∷ []) more le two three h

  faulty_until : (count room : ℕ) (found : List B) (symbols : List S) (left : ℕ) → room ≤ most → length symbols < slack + room → length symbols ≤ count → Run room count found symbols ≡ Err left → FaultyUntil symbols left
  unfolding until_from
  faulty_until zero room found [] left le fits few e = subst (λ (n : ℕ). FaultyUntil [] n) (err_is {A = List B × List S} 0 left e) ended_faulty
  faulty_until zero room found (t ∷ ts) left le fits few e = absurd (omega arith)
  faulty_until (suc count) room found symbols left le fits few e = by_next (eat end symbols) refl e (λ (x : B) (later : List S) (short : length later < slack + room) (less : length later ≤ count) (h : Run room count (found ++ x ∷ []) later ≡ Err left).
      faulty_until count room (found ++ x ∷ []) later left le short less h)
    where
      by_item : (r : ReadOf S B) → eat end symbols ≡ None → item room symbols ≡ r → (r >>= λ x. Run room count (found ++ x.0 ∷ []) x.1) ≡ Err left
          → ((x : B) (later : List S) → length later < slack + room → length later ≤ count → Run room count (found ++ x ∷ []) later ≡ Err left → FaultyUntil later left) → FaultyUntil symbols left
      by_item (Ok x) none e1 e2 others =
          let f = exact.found room symbols x.0 x.1 le e1 in
          let short : length x.1 < slack + room = omega (arith, ap length f.parts, length-append f.front x.1) in
          let less : length x.1 ≤ count = omega (arith, ap length f.parts, length-append f.front x.1, some x.0 f.front f.is) in
          later_faulty symbols left room x.0 x.1 le e1 (others x.0 x.1 short less e2)
      by_item (Err n) none e1 e2 others = here_faulty symbols left room le fits none (e1 ∙ ap (λ (n : ℕ). failed {A = B × List S} n) (err_is {A = List B × List S} n left e2))

      by_next : (o : Option (A × List S)) → eat end symbols ≡ o → decided o (λ _ rest. Ok (found, rest)) (item room symbols >>= λ x. Run room count (found ++ x.0 ∷ []) x.1) ≡ Err left
          → ((x : B) (later : List S) → length later < slack + room → length later ≤ count → Run room count (found ++ x ∷ []) later ≡ Err left → FaultyUntil later left) → FaultyUntil symbols left
      by_next (Some p) e1 e2 others = absurd cc
      by_next None e1 e2 others = by_item (item room symbols) e1 refl e2 others

  whole_until : (xs : List B) (count room : ℕ) (found : List B) (text rest : List S) → room ≤ most → length text < slack + room → length text ≤ count → Closed end First xs text → Run room count found (text ++ rest) ≡ Ok (found ++ xs, rest)
  whole_until [] zero room found text rest le fits few is = absurd (omega (arith, ap length is.parts))
  whole_until [] (suc count) room found text rest le fits few is =
      ap (λ (t : List S). Run room (suc count) found (t ++ rest)) is.parts ∙ run-end room count found is.symbol is.value rest is.decides ∙ ap (λ (l : List B). done l rest) (sym (append-nil found))
  whole_until (x ∷ xs) zero room found text rest le fits few is = absurd (omega (arith, ap length is.parts, length-append is.front is.back, some x is.front is.first))
  whole_until (x ∷ xs) (suc count) room found text rest le fits few is =
      let one : length is.front < slack + room = omega (arith, ap length is.parts, length-append is.front is.back) in
      let two : length is.back < slack + room = omega (arith, ap length is.parts, length-append is.front is.back) in
      let three : length is.back ≤ count = omega (arith, ap length is.parts, length-append is.front is.back, some x is.front is.first) in
      ap (λ (t : List S). Run room (suc count) found (t ++ rest)) is.parts
      ∙ ap (λ (t : List S). Run room (suc count) found t) (append_assoc is.front is.back rest)
      ∙ run-item room count found (is.front ++ (is.back ++ rest)) x (is.back ++ rest) (apart x is.front (is.back ++ rest) is.first)
      (exact.whole room x is.front (is.back ++ rest) le one is.first (stops_at xs is.back rest is.others))
      ∙ whole_until xs count room (found ++ x ∷ []) is.back rest le two three is.others
      ∙ ap (λ (l : List B). done l rest) (append_assoc found (x ∷ []) xs)
    where
      stops_at : (xs : List B) (back rest : List S) → Closed end First xs back → Stops (back ++ rest)
      stops_at [] back rest is = subst (λ (t : List S). Stops (t ++ rest)) (sym is.parts) (close is.symbol is.value rest is.decides)
      stops_at (x ∷ xs) back rest is = subst (λ (t : List S). Stops t) (sym (ap (λ (t : List S). t ++ rest) is.parts ∙ append_assoc is.front is.back rest)) (next x is.front (is.back ++ rest) is.first)

  pub within-until : (After : List S → Type 0) → ExactWithin most slack (λ room. until end (item room)) (Closed end First) After
  within-until After = record {
    some = record { value = []; text = last.text; is = last.is };
    found = λ room symbols ys rest le e. let f = found_until (length symbols) room [] symbols ys rest le e in record {
      front = f.front;
      is = subst (λ (l : List B). Closed end First l f.front) (sym f.is) f.closed;
      parts = f.parts;
      again = λ room more le fits h. f.again room (length (f.front ++ more)) [] more le fits (omega (arith, length-append f.front more)) h ∙ ap (λ (l : List B). done l more) (sym f.is);
    };
    faulty = λ room symbols left le fits e. let f = faulty_until (length symbols) room [] symbols left le fits (omega arith) e in record {
      front = f.front;
      rest = f.rest;
      parts = f.parts;
      left_is = f.left_is;
      value = f.xs;
      ending = f.ending;
      begun = f.begun;
      again = λ room more le fits h. f.again room (length (f.front ++ more)) [] more le fits (omega arith) h;
    };
    whole = λ room ys front rest le fits is h. whole_until ys (length (front ++ rest)) room [] front rest le fits (omega (arith, length-append front rest)) is;
  }
