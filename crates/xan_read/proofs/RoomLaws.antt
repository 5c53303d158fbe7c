-- The laws of families of readers, and how the laws of one reader are those of a family that does not look at its room.
use Rattle.std.proofs.Common.{◌≡◌, ℕ, suc, ◌+◌, ◌<◌, ◌≤◌, List, [], ◌∷◌, ◌++◌, length, Result, Ok, Err, refl, sym, ap, subst, ◌∙◌, append_assoc, arith}
use Rattle.std.proofs.lemmas.List.{length-append}
use Rattle.xan_read.specs.Reader.{ReadOf, ReaderOf, ◌>>=◌, Alike, Found, Faulty, Exact}
use Rattle.xan_read.specs.Rooms.{FamilyOf, Example, FoundWithin, FaultyWithin, ExactWithin}
use Rattle.xan_read.specs.Combinators.{give, IsGiven, in_turn, InTurn, made, IsMade}
use Rattle.xan_read.proofs.AlikeLaws.{done, failed, ok_parts, err_is, alike_through}

-- ---- one reader

-- a language that has an exact reader has a text
pub some_text : {S A : Type 0} (p : ReaderOf S A) (Is : A → List S → Type 0) (Stops : List S → Type 0) → Exact p Is Stops → Example Is
some_text {S} {A} p Is Stops exact = go (p []) refl
  where
    go : (r : ReadOf S A) → p [] ≡ r → Example Is
    go (Ok x) e = let f = exact.found [] x.0 x.1 e in record { value = x.0; text = f.front; is = f.is }
    go (Err n) e = let f = exact.faulty [] n e in record { value = f.value; text = f.front ++ f.ending; is = f.begun }

module _ {S A : Type 0} (p : ReaderOf S A) (Is : A → List S → Type 0) (Stops : List S → Type 0) where
  -- an exact reader is an exact family, whatever the rooms and the slack
  pub as_family : (most slack : ℕ) → Exact p Is Stops → ExactWithin most slack (λ _. p) Is Stops
  as_family most slack exact = record {
    some = some_text p Is Stops exact;
    found = λ room symbols x rest le e. let f = exact.found symbols x rest e in
        record { front = f.front; is = f.is; parts = f.parts; again = λ room more le fits h. f.again more h };
    faulty = λ room symbols left le fits e. let f = exact.faulty symbols left e in
        record {
          front = f.front;
          rest = f.rest;
          parts = f.parts;
          left_is = f.left_is;
          value = f.value;
          ending = f.ending;
          begun = f.begun;
          again = λ room more le fits h. f.again more h;
        };
    whole = λ room x front rest le fits is h. exact.whole x front rest is h;
  }

  -- and a reader that is an exact family with each slack is exact
  pub of_family : ((slack : ℕ) → ExactWithin 0 slack (λ _. p) Is Stops) → Exact p Is Stops
  of_family exact = record {
    found = λ symbols x rest e. let f = (exact (suc (length symbols))).found 0 symbols x rest (omega arith) e in
        record {
          front = f.front;
          is = f.is;
          parts = f.parts;
          again = λ more h. f.again 0 more (omega arith) (omega (arith, ap length f.parts, length-append f.front rest)) h;
        };
    faulty = λ symbols left e. let f = (exact (suc (length symbols))).faulty 0 symbols left (omega arith) (omega arith) e in
        record {
          front = f.front;
          rest = f.rest;
          parts = f.parts;
          left_is = f.left_is;
          value = f.value;
          ending = f.ending;
          begun = f.begun;
          again = λ more h. f.again 0 more (omega arith) (omega (arith, ap length f.parts, length-append f.front f.rest)) h;
        };
    whole = λ x front rest is h. (exact (suc (length front))).whole 0 x front rest (omega arith) (omega arith) is h;
  }

-- ---- a value without symbols

pub within-give : {S A : Type 0} (most slack : ℕ) (given : A) (Stops : List S → Type 0) → ExactWithin most slack (λ _. give given) (IsGiven given) Stops
within-give {S} {A} most slack given Stops = record {
  some = record { value = given; text = []; is = record { value = refl; nothing = refl } };
  found = λ room symbols x rest le e. let same = ok_parts given x symbols rest e in record {
    front = [];
    is = record { value = sym same.0; nothing = refl };
    parts = same.1;
    again = λ room more le fits h. ap (λ (y : A). done y more) same.0;
  };
  faulty = λ room symbols left le fits e. absurd cc;
  whole = λ room x front rest le fits is h. rw (is.nothing, is.value) refl;
}

-- ---- another name for the language, and less that may follow

pub within-as : {S A : Type 0} (most slack : ℕ) (P : FamilyOf S A) (Is Named : A → List S → Type 0) (Stops Ends : List S → Type 0) → ExactWithin most slack P Is Stops
    → ((x : A) (text : List S) → Is x text → Named x text) → ((x : A) (text : List S) → Named x text → Is x text)
    → ((rest : List S) → Ends rest → Stops rest) → ExactWithin most slack P Named Ends
within-as most slack P Is Named Stops Ends exact into back ends = record {
  some = record { value = exact.some.value; text = exact.some.text; is = into exact.some.value exact.some.text exact.some.is };
  found = λ room symbols x rest le e. let f = exact.found room symbols x rest le e in
      record { front = f.front; is = into x f.front f.is; parts = f.parts; again = f.again };
  faulty = λ room symbols left le fits e. let f = exact.faulty room symbols left le fits e in
      record {
        front = f.front;
        rest = f.rest;
        parts = f.parts;
        left_is = f.left_is;
        value = f.value;
        ending = f.ending;
        begun = into f.value (f.front ++ f.ending) f.begun;
        again = f.again;
      };
  whole = λ room x front rest le fits is h. exact.whole room x front rest le fits (back x front is) (ends rest h);
}

-- ---- two in turn; what the second is may depend on the first's value

module _ {S A B : Type 0} (most slack inner : ℕ) (P : FamilyOf S A) (Q : A → FamilyOf S B) (First : A → List S → Type 0) (Second : A → B → List S → Type 0)
    (Between After : List S → Type 0) (first : ExactWithin most slack P First Between) (second : (x : A) (front : List S) → First x front → ExactWithin most inner (Q x) (Second x) After)
    (narrow : (x : A) (front : List S) → First x front → slack ≤ length front + inner)
    (stops : (x : A) (y : B) (back rest : List S) → Second x y back → After rest → Between (back ++ rest)) where
  abbrev Both : FamilyOf S B
  Both room = in_turn (P room) (λ x. Q x room)

  found_in_turn : (room : ℕ) (symbols : List S) (y : B) (rest : List S) (r : ReadOf S A) → room ≤ most → P room symbols ≡ r → (r >>= λ x. Q x.0 room x.1) ≡ Ok (y, rest)
      → FoundWithin most slack Both (InTurn First Second) symbols y rest
  found_in_turn room symbols y rest (Ok x) le e1 e2 =
      let f = first.found room symbols x.0 x.1 le e1 in
      let g = (second x.0 f.front f.is).found room x.1 y rest le e2 in
      record {
        front = f.front ++ g.front;
        is = record { value = x.0; front = f.front; back = g.front; first = f.is; second = g.is; parts = refl };
        parts = f.parts ∙ ap (λ (t : List S). f.front ++ t) g.parts ∙ sym (append_assoc f.front g.front rest);
        again = λ room more le fits h.
            let one : length f.front < slack + room = omega (arith, length-append f.front g.front) in
            let two : length g.front < inner + room = omega (arith, length-append f.front g.front, narrow x.0 f.front f.is) in
            rw (append_assoc f.front g.front more, f.again room (g.front ++ more) le one (alike_through x.1 g.front rest more g.parts h)) (g.again room more le two h);
      }
  found_in_turn room symbols y rest (Err n) le e1 e2 = absurd cc

  faulty_in_turn : (room : ℕ) (symbols : List S) (left : ℕ) (r : ReadOf S A) → room ≤ most → length symbols < slack + room → P room symbols ≡ r → (r >>= λ x. Q x.0 room x.1) ≡ Err left
      → FaultyWithin most slack Both (InTurn First Second) symbols left
  faulty_in_turn room symbols left (Ok x) le fits e1 e2 =
      let f = first.found room symbols x.0 x.1 le e1 in
      let less : length x.1 < inner + room = omega (arith, ap length f.parts, length-append f.front x.1, narrow x.0 f.front f.is) in
      let g = (second x.0 f.front f.is).faulty room x.1 left le less e2 in
      record {
        front = f.front ++ g.front;
        rest = g.rest;
        parts = f.parts ∙ ap (λ (t : List S). f.front ++ t) g.parts ∙ sym (append_assoc f.front g.front g.rest);
        left_is = g.left_is;
        value = g.value;
        ending = g.ending;
        begun = record { value = x.0; front = f.front; back = g.front ++ g.ending; first = f.is; second = g.begun; parts = append_assoc f.front g.front g.ending };
        again = λ room more le fits h.
            let one : length f.front < slack + room = omega (arith, length-append f.front g.front) in
            let two : length g.front < inner + room = omega (arith, length-append f.front g.front, narrow x.0 f.front f.is) in
            rw (append_assoc f.front g.front more, f.again room (g.front ++ more) le one (alike_through x.1 g.front g.rest more g.parts h)) (g.again room more le two h);
      }
  faulty_in_turn room symbols left (Err n) le fits e1 e2 =
      let f = first.faulty room symbols n le fits e1 in
      let s = (second f.value (f.front ++ f.ending) f.begun).some in
      record {
        front = f.front;
        rest = f.rest;
        parts = f.parts;
        left_is = f.left_is ∙ err_is {A = B × List S} n left e2;
        value = s.value;
        ending = f.ending ++ s.text;
        begun = record { value = f.value; front = f.front ++ f.ending; back = s.text; first = f.begun; second = s.is; parts = sym (append_assoc f.front f.ending s.text) };
        again = λ room more le fits h. rw (f.again room more le fits h) refl;
      }

  whole_in_turn : (room : ℕ) (y : B) (text rest : List S) → room ≤ most → length text < slack + room → InTurn First Second y text → After rest → Both room (text ++ rest) ≡ Ok (y, rest)
  whole_in_turn room y text rest le fits is h =
      let one : length is.front < slack + room = omega (arith, ap length is.parts, length-append is.front is.back) in
      let two : length is.back < inner + room = omega (arith, ap length is.parts, length-append is.front is.back, narrow is.value is.front is.first) in
      let parts : text ++ rest ≡ is.front ++ (is.back ++ rest) = ap (λ (t : List S). t ++ rest) is.parts ∙ append_assoc is.front is.back rest in
      ap (Both room) parts ∙ ap (λ r. r >>= λ x. Q x.0 room x.1) (first.whole room is.value is.front (is.back ++ rest) le one is.first (stops is.value y is.back rest is.second h))
      ∙ (second is.value is.front is.first).whole room y is.back rest le two is.second h

  pub within-in_turn : ExactWithin most slack Both (InTurn First Second) After
  within-in_turn = record {
    some = record {
      value = (second first.some.value first.some.text first.some.is).some.value;
      text = first.some.text ++ (second first.some.value first.some.text first.some.is).some.text;
      is = record {
        value = first.some.value;
        front = first.some.text;
        back = (second first.some.value first.some.text first.some.is).some.text;
        first = first.some.is;
        second = (second first.some.value first.some.text first.some.is).some.is;
        parts = refl;
      };
    };
    found = λ room symbols y rest le e. found_in_turn room symbols y rest (P room symbols) le refl e;
    faulty = λ room symbols left le fits e. faulty_in_turn room symbols left (P room symbols) le fits refl e;
    whole = whole_in_turn;
  }

-- ---- a value that is made of what is read

abbrev making : {S A B : Type 0} → (A → B) → A × List S → ReadOf S B
making make x = Ok (make x.0, x.1)

module _ {S A B : Type 0} (most slack : ℕ) (make : A → B) (P : FamilyOf S A) (Is : A → List S → Type 0) (Stops : List S → Type 0) (exact : ExactWithin most slack P Is Stops) where
  abbrev Making : FamilyOf S B
  Making room = made make (P room)

  found_made : (room : ℕ) (symbols : List S) (y : B) (rest : List S) (r : ReadOf S A) → room ≤ most → P room symbols ≡ r → (r >>= making make) ≡ Ok (y, rest)
      → FoundWithin most slack Making (IsMade make Is) symbols y rest
  found_made room symbols y rest (Ok x) le e1 e2 =
      let same = ok_parts (make x.0) y x.1 rest e2 in
      let g = exact.found room symbols x.0 x.1 le e1 in
      record {
        front = g.front;
        is = record { value = x.0; is = g.is; made = sym same.0 };
        parts = g.parts ∙ ap (λ (t : List S). g.front ++ t) same.1;
        again = λ room more le fits h.
            let like : Alike x.1 more = subst (λ (t : List S). Alike t more) (sym same.1) h in
            ap (λ r. r >>= making make) (g.again room more le fits like) ∙ ap (λ (z : B). done z more) same.0;
      }
  found_made room symbols y rest (Err n) le e1 e2 = absurd cc

  faulty_made : (room : ℕ) (symbols : List S) (left : ℕ) (r : ReadOf S A) → room ≤ most → length symbols < slack + room → P room symbols ≡ r → (r >>= making make) ≡ Err left
      → FaultyWithin most slack Making (IsMade make Is) symbols left
  faulty_made room symbols left (Ok x) le fits e1 e2 = absurd cc
  faulty_made room symbols left (Err n) le fits e1 e2 =
      let g = exact.faulty room symbols n le fits e1 in
      record {
        front = g.front;
        rest = g.rest;
        parts = g.parts;
        left_is = g.left_is ∙ err_is {A = B × List S} n left e2;
        value = make g.value;
        ending = g.ending;
        begun = record { value = g.value; is = g.begun; made = refl };
        again = λ room more le fits h. ap (λ r. r >>= making make) (g.again room more le fits h);
      }

  pub within-made : ExactWithin most slack Making (IsMade make Is) Stops
  within-made = record {
    some = record { value = make exact.some.value; text = exact.some.text; is = record { value = exact.some.value; is = exact.some.is; made = refl } };
    found = λ room symbols y rest le e. found_made room symbols y rest (P room symbols) le refl e;
    faulty = λ room symbols left le fits e. faulty_made room symbols left (P room symbols) le fits refl e;
    whole = λ room y front rest le fits is h.
        ap (λ r. r >>= making make) (exact.whole room is.value front rest le fits is.is h) ∙ ap (λ (z : B). done z rest) (sym is.made);
  }
