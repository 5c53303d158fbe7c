-- The laws that every exact reader has, and those of the combinators.
use Rattle.std.proofs.Common.{◌≡◌, ℕ, suc, ◌-◌, ◌<◌, Bool, true, false, cond, eqb, ◌==◌, if◌then◌else◌, List, [], ◌∷◌, ◌++◌, length, take, Option, Some, None, Result, Ok, Err, refl, sym, ap, subst, ◌∙◌, append_assoc, arith, inl, inr}
use Rattle.std.specs.Option.{option_map}
use Rattle.std.proofs.lemmas.List.{append-nil, length-append, take_at}
use Rattle.std.proofs.lemmas.Bool.{eqb-true, eq-eqb, ne_eqb}
use Rattle.xan_read.specs.Reader.{ReadOf, ReaderOf, Read, Reader, ◌>>=◌, Alike, Found, Faulty, Exact, Begins, IsLongest, nothing_left, ReadsWhole}
use Rattle.xan_read.specs.Combinators.{give, IsGiven, in_turn, InTurn, made, IsMade, literal, behind, IsBehind, after, decided, where_comes, WhereComes, next_passes, by_next, Either}
use Rattle.xan_read.specs.Symbols.{TableOf, eat}
use Rattle.xan_read.specs.Symbols as symbols
use Rattle.xan_read.proofs.AlikeLaws.{done, valued, ok_parts, err_is, alike_through, alike_self}
use Rattle.xan_read.proofs.RoomLaws.{some_text, as_family, of_family, within-give, within-in_turn, within-made}
use Rattle.xan_read.proofs.TableLaws.{within-where_comes}

-- ---- a value without symbols

pub exact-give : {S A : Type 0} (given : A) → Exact {S = S} (give given) (IsGiven given) (λ _. Unit {0})
exact-give {S} {A} given = of_family _ _ _ (λ slack. within-give 0 slack given (λ _. Unit {0}))

-- the same, where less may follow
pub given : {S A : Type 0} (x : A) (Stops : List S → Type 0) → Exact (give x) (IsGiven x) Stops
given x Stops = of_family _ _ _ (λ slack. within-give 0 slack x Stops)

-- what may follow a value without symbols is what may follow the one before it
pub passed : {S A : Type 0} (x y : A) (Stops : List S → Type 0) (back rest : List S) → IsGiven x y back → Stops rest → Stops (back ++ rest)
passed {S} x y Stops back rest g h = subst (λ (t : List S). Stops (t ++ rest)) (sym g.nothing) h

-- ---- two in turn

module _ {S A B : Type 0} (p : ReaderOf S A) (q : A → ReaderOf S B) (First : A → List S → Type 0) (Second : A → B → List S → Type 0) (Between After : List S → Type 0)
    (first : Exact p First Between) (second : (x : A) (front : List S) → First x front → Exact (q x) (Second x) After)
    (stops : (x : A) (y : B) (back rest : List S) → Second x y back → After rest → Between (back ++ rest)) where
  pub exact-in_turn : Exact (in_turn p q) (InTurn First Second) After
  exact-in_turn = of_family _ _ _ (λ slack. within-in_turn 0 slack slack (λ _. p) (λ x _. q x) First Second Between After (as_family p First Between 0 slack first)
      (λ x front is. as_family (q x) (Second x) After 0 slack (second x front is)) (λ x front is. omega arith) stops)

-- ---- a value that is made of what is read

pub exact-made : {S A B : Type 0} (make : A → B) (p : ReaderOf S A) (Is : A → List S → Type 0) (Stops : List S → Type 0) → Exact p Is Stops → Exact (made make p) (IsMade make Is) Stops
exact-made make p Is Stops exact = of_family _ _ _ (λ slack. within-made 0 slack make (λ _. p) Is Stops (as_family p Is Stops 0 slack exact))

-- ---- another name for the language

pub exact_as : {S A : Type 0} (p : ReaderOf S A) (Is Named : A → List S → Type 0) (Stops Ends : List S → Type 0) → Exact p Is Stops
    → ((x : A) (text : List S) → Is x text → Named x text) → ((x : A) (text : List S) → Named x text → Is x text)
    → ((rest : List S) → Ends rest → Stops rest) → Exact p Named Ends
exact_as p Is Named Stops Ends exact into back ends = record {
  found = λ bytes x rest e. let f = exact.found bytes x rest e in
      record { front = f.front; is = into x f.front f.is; parts = f.parts; again = f.again };
  faulty = λ bytes left e. let f = exact.faulty bytes left e in
      record {
        front = f.front;
        rest = f.rest;
        parts = f.parts;
        left_is = f.left_is;
        value = f.value;
        ending = f.ending;
        begun = into f.value (f.front ++ f.ending) f.begun;
        again = f.again;
      };
  whole = λ x front rest is h. exact.whole x front rest (back x front is) (ends rest h);
}

-- a reader that gives the same as an exact one
pub exact_same : {S A : Type 0} (p q : ReaderOf S A) (Is : A → List S → Type 0) (Stops : List S → Type 0) → ((bytes : List S) → p bytes ≡ q bytes) → Exact q Is Stops → Exact p Is Stops
exact_same p q Is Stops same exact = record {
  found = λ bytes x rest e. let f = exact.found bytes x rest (sym (same bytes) ∙ e) in
      record { front = f.front; is = f.is; parts = f.parts; again = λ more h. same (f.front ++ more) ∙ f.again more h };
  faulty = λ bytes left e. let f = exact.faulty bytes left (sym (same bytes) ∙ e) in
      record {
        front = f.front;
        rest = f.rest;
        parts = f.parts;
        left_is = f.left_is;
        value = f.value;
        ending = f.ending;
        begun = f.begun;
        again = λ more h. same (f.front ++ more) ∙ f.again more h;
      };
  whole = λ x front rest is h. same (front ++ rest) ∙ exact.whole x front rest is h;
}

-- ---- a literal in front

pub literal_found : (text bytes rest : List ℕ) → literal text bytes ≡ Ok rest → bytes ≡ text ++ rest
unfolding literal
literal_found [] bytes rest e = ok_is bytes rest e
  where
    taken : List ℕ → Result (List ℕ) ℕ
    taken r = Ok r

    ok_is : (r s : List ℕ) → taken r ≡ taken s → r ≡ s
    ok_is r s e = cc
literal_found (c ∷ text) [] rest e = absurd cc
literal_found (c ∷ text) (b ∷ bytes) rest e = go (eqb b c) refl e (literal_found text bytes rest)
  where
    go : (t : Bool) → eqb b c ≡ t → cond t (literal text bytes) (Err (suc (length bytes))) ≡ Ok rest → (literal text bytes ≡ Ok rest → bytes ≡ text ++ rest) → b ∷ bytes ≡ c ∷ (text ++ rest)
    go true same e more = let same_byte = eqb-true b c same in let others = more e in cc
    go false same e more = absurd cc

pub literal_whole : (text rest : List ℕ) → literal text (text ++ rest) ≡ Ok rest
unfolding literal
literal_whole [] rest = refl
literal_whole (c ∷ text) rest = rw (eq-eqb c c refl) (literal_whole text rest)

pub record LiteralFaulty (text bytes : List ℕ) (left : ℕ) : Type 0 where
  pub front : List ℕ
  pub back : List ℕ
  pub rest : List ℕ
  pub is : text ≡ front ++ back
  pub parts : bytes ≡ front ++ rest
  pub left_is : length rest ≡ left
  pub again : (more : List ℕ) → Alike rest more → literal text (front ++ more) ≡ Err (length more)

pub literal_faulty : (text bytes : List ℕ) (left : ℕ) → literal text bytes ≡ Err left → LiteralFaulty text bytes left
unfolding literal
literal_faulty [] bytes left e = absurd cc
literal_faulty (c ∷ text) [] left e = record { front = []; back = c ∷ text; rest = []; is = refl; parts = refl; left_is = err_is {A = List ℕ} 0 left e; again = at_end }
  where
    at_end : (more : List ℕ) → Alike [] more → literal (c ∷ text) more ≡ Err (length more)
    at_end [] h = refl
    at_end (d ∷ more) h = absurd h
literal_faulty (c ∷ text) (b ∷ bytes) left e = go (eqb b c) refl e (literal_faulty text bytes left)
  where
    differs : eqb b c ≡ false → (more : List ℕ) → Alike (b ∷ bytes) more → literal (c ∷ text) more ≡ Err (length more)
    differs same [] h = absurd h
    differs same (d ∷ more) h = rw (← h, same) refl

    go : (t : Bool) → eqb b c ≡ t → cond t (literal text bytes) (Err (suc (length bytes))) ≡ Err left → (literal text bytes ≡ Err left → LiteralFaulty text bytes left) → LiteralFaulty (c ∷ text) (b ∷ bytes) left
    go true same e more = let f = more e in let same_byte : b ≡ c = eqb-true b c same in record {
      front = b ∷ f.front;
      back = f.back;
      rest = f.rest;
      is = rw (← same_byte) (ap (λ (t : List ℕ). b ∷ t) f.is);
      parts = ap (λ (t : List ℕ). b ∷ t) f.parts;
      left_is = f.left_is;
      again = λ more h. rw same (f.again more h);
    }
    go false same e more = record { front = []; back = c ∷ text; rest = b ∷ bytes; is = refl; parts = refl; left_is = err_is {A = List ℕ} (suc (length bytes)) left e; again = differs same }

module _ {A : Type 0} (text : List ℕ) (p : Reader A) (Is : A → List ℕ → Type 0) (Stops : List ℕ → Type 0) (exact : Exact p Is Stops) where
  found_behind : (bytes : List ℕ) (x : A) (rest : List ℕ) (r : Result (List ℕ) ℕ) → literal text bytes ≡ r → (r >>= p) ≡ Ok (x, rest) → Found (behind text p) (IsBehind text Is) bytes x rest
  found_behind bytes x rest (Ok s) e1 e2 = let f = exact.found s x rest e2 in record {
    front = text ++ f.front;
    is = record { back = f.front; is = f.is; parts = refl };
    parts = literal_found text bytes s e1 ∙ ap (λ (t : List ℕ). text ++ t) f.parts ∙ sym (append_assoc text f.front rest);
    again = λ more h. rw (append_assoc text f.front more, literal_whole text (f.front ++ more)) (f.again more h);
  }
  found_behind bytes x rest (Err n) e1 e2 = absurd cc

  faulty_behind : (bytes : List ℕ) (left : ℕ) (r : Result (List ℕ) ℕ) → literal text bytes ≡ r → (r >>= p) ≡ Err left → Faulty (behind text p) (IsBehind text Is) bytes left
  faulty_behind bytes left (Ok s) e1 e2 = let f = exact.faulty s left e2 in record {
    front = text ++ f.front;
    rest = f.rest;
    left_is = f.left_is;
    value = f.value;
    ending = f.ending;
    parts = literal_found text bytes s e1 ∙ ap (λ (t : List ℕ). text ++ t) f.parts ∙ sym (append_assoc text f.front f.rest);
    begun = record { back = f.front ++ f.ending; is = f.begun; parts = append_assoc text f.front f.ending };
    again = λ more h. rw (append_assoc text f.front more, literal_whole text (f.front ++ more)) (f.again more h);
  }
  faulty_behind bytes left (Err n) e1 e2 =
      let f = literal_faulty text bytes n e1 in
      let s = some_text p Is Stops exact in record {
        front = f.front;
        rest = f.rest;
        parts = f.parts;
        left_is = f.left_is ∙ err_is {A = A × List ℕ} n left e2;
        value = s.value;
        ending = f.back ++ s.text;
        begun = record { back = s.text; is = s.is; parts = sym (append_assoc f.front f.back s.text) ∙ ap (λ (t : List ℕ). t ++ s.text) (sym f.is) };
        again = λ more h. rw (f.again more h) refl;
      }

  pub exact-behind : Exact (behind text p) (IsBehind text Is) Stops
  exact-behind = record {
    found = λ bytes x rest e. found_behind bytes x rest (literal text bytes) refl e;
    faulty = λ bytes left e. faulty_behind bytes left (literal text bytes) refl e;
    whole = λ x front rest is h. rw (is.parts, append_assoc text is.back rest, literal_whole text (is.back ++ rest)) (exact.whole x is.back rest is.is h);
  }

-- ---- a byte that decides

pub after_other : (c b : ℕ) (rest : List ℕ) → (b ≡ c → ⊥) → after c (b ∷ rest) ≡ None
unfolding after
after_other c b rest ne = rw (ne_eqb b c ne) refl

-- the table that has one byte
abbrev only : ℕ → TableOf ℕ (Unit {0})
only c b = if b == c then Some tt else None

only_takes : (c b : ℕ) (a : Unit {0}) → only c b ≡ Some a → b ≡ c
only_takes c b a e = go (eqb b c) refl e
  where
    go : (t : Bool) → eqb b c ≡ t → cond t (Some tt) None ≡ Some a → b ≡ c
    go true same e = eqb-true b c same
    go false same e = absurd cc

abbrev bytes_behind : Option (Unit {0} × List ℕ) → Option (List ℕ)
bytes_behind o = option_map (λ (f : Unit {0} × List ℕ). f.1) o

eat-only : (c : ℕ) (bytes : List ℕ) → after c bytes ≡ bytes_behind (eat (only c) bytes)
unfolding after eat
eat-only c [] = refl
eat-only c (b ∷ bytes) = go (eqb b c)
  where
    go : (t : Bool) → cond t (Some bytes) None ≡ bytes_behind (option_map (λ (x : Unit {0}). (x, bytes)) (cond t (Some tt) None))
    go true = refl
    go false = refl

module _ {A : Type 0} (c : ℕ) (p q : Reader A) (First Second : A → List ℕ → Type 0) (Between After : List ℕ → Type 0)
    (first : Exact p First After) (second : Exact q Second Between)
    (stops : (x : A) (text rest : List ℕ) → Second x text → After rest → Between rest × (after c (text ++ rest) ≡ None)) where
  not_eaten : (bytes : List ℕ) → after c bytes ≡ None → eat (only c) bytes ≡ None
  not_eaten bytes e = go (eat (only c) bytes) (sym (eat-only c bytes) ∙ e)
    where
      go : (o : Option (Unit {0} × List ℕ)) → bytes_behind o ≡ None → o ≡ None
      go None e = refl
      go (Some f) e = absurd cc

  same_decision : (bytes : List ℕ) → where_comes c p q bytes ≡ symbols.where_comes (only c) (λ _. p) q bytes
  same_decision bytes = ap (λ o. decided o p (q bytes)) (eat-only c bytes) ∙ go (eat (only c) bytes)
    where
      go : (o : Option (Unit {0} × List ℕ)) → decided (bytes_behind o) p (q bytes) ≡ symbols.decided o (λ _. p) (q bytes)
      go None = refl
      go (Some f) = refl

  by_table : Exact (symbols.where_comes (only c) (λ _. p) q) (symbols.WhereComes (only c) (λ _. First) Second) After
  by_table = of_family _ _ _ (λ slack. within-where_comes 0 slack slack (only c) (λ _ _. p) (λ _. q) (λ _. First) Second Between After
      (λ _. as_family p First After 0 slack first) (as_family q Second Between 0 slack second) (omega arith)
      (λ x text rest is h. let s = stops x text rest is h in (s.0, not_eaten (text ++ rest) s.1)))

  pub exact-where_comes : Exact (where_comes c p q) (WhereComes c First Second) After
  exact-where_comes = exact_as _ _ _ After After (exact_same _ _ _ After same_decision by_table) into back (λ _ h. h)
    where
      into : (x : A) (text : List ℕ) → symbols.WhereComes (only c) (λ _. First) Second x text → WhereComes c First Second x text
      into x text (inl is) = inl (record { back = is.back; is = is.is; parts = is.parts ∙ ap (λ (b : ℕ). b ∷ is.back) (only_takes c is.symbol is.value is.decides) })
      into x text (inr is) = inr is

      back : (x : A) (text : List ℕ) → WhereComes c First Second x text → symbols.WhereComes (only c) (λ _. First) Second x text
      back x text (inl is) = inl (record { symbol = c; value = tt; back = is.back; decides = ap (λ (b : Bool). if b then Some tt else None) (eq-eqb c c refl); is = is.is; parts = is.parts })
      back x text (inr is) = inr is

-- ---- a choice by the next symbol

next_alike : {S : Type 0} (test : S → Bool) (symbols more : List S) → Alike symbols more → next_passes test symbols ≡ next_passes test more
next_alike test [] [] h = refl
next_alike test [] (d ∷ more) h = absurd h
next_alike test (b ∷ symbols) [] h = absurd h
next_alike test (b ∷ symbols) (d ∷ more) h = ap test h

module _ {S A : Type 0} (test : S → Bool) (p q : ReaderOf S A) (First Second : A → List S → Type 0) (Between After : List S → Type 0)
    (first : Exact p First After) (second : Exact q Second Between)
    (passes : (x : A) (text rest : List S) → First x text → After rest → next_passes test (text ++ rest) ≡ true)
    (stops : (x : A) (text rest : List S) → Second x text → After rest → Between rest × (next_passes test (text ++ rest) ≡ false)) where
  -- what begins alike is chosen alike
  chosen : (t : Bool) (symbols front rest more : List S) → next_passes test symbols ≡ t → symbols ≡ front ++ rest → Alike rest more → next_passes test (front ++ more) ≡ t
  chosen t symbols front rest more e parts h = sym (next_alike test symbols (front ++ more) (alike_through symbols front rest more parts h)) ∙ e

  found_by_next : (symbols : List S) (x : A) (rest : List S) (t : Bool) → next_passes test symbols ≡ t → cond t (p symbols) (q symbols) ≡ Ok (x, rest) → Found (by_next test p q) (Either First Second) symbols x rest
  found_by_next symbols x rest true e1 e2 = let f = first.found symbols x rest e2 in record {
    front = f.front;
    is = inl f.is;
    parts = f.parts;
    again = λ more h. rw (chosen true symbols f.front rest more e1 f.parts h) (f.again more h);
  }
  found_by_next symbols x rest false e1 e2 = let f = second.found symbols x rest e2 in record {
    front = f.front;
    is = inr f.is;
    parts = f.parts;
    again = λ more h. rw (chosen false symbols f.front rest more e1 f.parts h) (f.again more h);
  }

  faulty_by_next : (symbols : List S) (left : ℕ) (t : Bool) → next_passes test symbols ≡ t → cond t (p symbols) (q symbols) ≡ Err left → Faulty (by_next test p q) (Either First Second) symbols left
  faulty_by_next symbols left true e1 e2 = let f = first.faulty symbols left e2 in record {
    front = f.front;
    rest = f.rest;
    parts = f.parts;
    left_is = f.left_is;
    value = f.value;
    ending = f.ending;
    begun = inl f.begun;
    again = λ more h. rw (chosen true symbols f.front f.rest more e1 f.parts h) (f.again more h);
  }
  faulty_by_next symbols left false e1 e2 = let f = second.faulty symbols left e2 in record {
    front = f.front;
    rest = f.rest;
    parts = f.parts;
    left_is = f.left_is;
    value = f.value;
    ending = f.ending;
    begun = inr f.begun;
    again = λ more h. rw (chosen false symbols f.front f.rest more e1 f.parts h) (f.again more h);
  }

  whole_by_next : (x : A) (front rest : List S) → Either First Second x front → After rest → by_next test p q (front ++ rest) ≡ Ok (x, rest)
  whole_by_next x front rest (inl is) h = rw (passes x front rest is h) (first.whole x front rest is h)
  whole_by_next x front rest (inr is) h = let s = stops x front rest is h in rw s.1 (second.whole x front rest is s.0)

  pub exact-by_next : Exact (by_next test p q) (Either First Second) After
  exact-by_next = record {
    found = λ symbols x rest e. found_by_next symbols x rest (next_passes test symbols) refl e;
    faulty = λ symbols left e. faulty_by_next symbols left (next_passes test symbols) refl e;
    whole = whole_by_next;
  }

-- ---- the longest prefix

module _ {S A : Type 0} (p : ReaderOf S A) (Is : A → List S → Type 0) (Stops : List S → Type 0) (exact : Exact p Is Stops) (stops : Stops []) where
  -- a text is read to its end
  pub text_is_read : (x : A) (text : List S) → Is x text → p text ≡ Ok (x, [])
  text_is_read x text is = ap p (sym (append-nil text)) ∙ exact.whole x text [] is stops

  pub one_value : (x y : A) (text : List S) → Is x text → Is y text → x ≡ y
  one_value x y text first second = (ok_parts x y [] [] (sym (text_is_read x text first) ∙ text_is_read y text second)).0

  longest_at : (symbols front rest : List S) → symbols ≡ front ++ rest → Begins Is front
      → ((more : List S) → Alike rest more → (x : A) → p (front ++ more) ≡ Ok (x, []) → ⊥) → IsLongest Is symbols (length front)
  longest_at symbols front rest parts begins never = record {
    within = omega (arith, ap length parts, length-append front rest);
    begins = rw (parts, take_at front rest (length front) refl) begins;
    no_more = no_more rest parts never;
    no_text = λ x is. never rest (alike_self rest) x (ap p (sym parts) ∙ text_is_read x symbols is);
  }
    where
      no_more : (rest : List S) → symbols ≡ front ++ rest → ((more : List S) → Alike rest more → (x : A) → p (front ++ more) ≡ Ok (x, []) → ⊥)
          → length front < length symbols → Begins Is (take (suc (length front)) symbols) → ⊥
      no_more [] parts never more begins = absurd (omega (arith, ap length parts, length-append front []))
      no_more (b ∷ rest) parts never more begins =
          let one_more : take (suc (length front)) symbols ≡ front ++ b ∷ [] = ap (take (suc (length front))) (parts ∙ sym (append_assoc front (b ∷ []) rest)) ∙ take_at (front ++ b ∷ []) rest (suc (length front)) (omega (arith, length-append front (b ∷ []))) in
          let text : Is begins.0 (front ++ b ∷ begins.1) = subst (λ (t : List S). Is begins.0 t) (ap (λ (t : List S). t ++ begins.1) one_more ∙ append_assoc front (b ∷ []) begins.1) begins.2 in
          never (b ∷ begins.1) refl begins.0 (text_is_read begins.0 (front ++ b ∷ begins.1) text)

  found_whole : (symbols : List S) (x : A) (r : ReadOf S A) → p symbols ≡ r → (r >>= λ y. nothing_left y.1 >>= λ _. Ok y.0) ≡ Ok x → Is x symbols
  found_whole symbols x (Ok y) e1 e2 = go y.0 y.1 e1 e2
    where
      is_value : {B : Type 0} (a b : B) → valued a ≡ valued b → a ≡ b
      is_value a b e = cc

      go : (y : A) (rest : List S) → p symbols ≡ Ok (y, rest) → (nothing_left rest >>= λ _. Ok y) ≡ Ok x → Is x symbols
      go y [] e1 e2 = let f = exact.found symbols y [] e1 in
          subst (λ (z : A). Is z symbols) (is_value y x e2) (subst (λ (t : List S). Is y t) (sym (f.parts ∙ append-nil f.front)) f.is)
      go y (b ∷ rest) e1 e2 = absurd cc
  found_whole symbols x (Err n) e1 e2 = absurd cc

  fault_whole : (symbols : List S) (left : ℕ) (r : ReadOf S A) → p symbols ≡ r → (r >>= λ y. nothing_left y.1 >>= λ _. Ok y.0) ≡ Err left → IsLongest Is symbols (length symbols - left)
  fault_whole symbols left (Ok y) e1 e2 = go y.0 y.1 e1 e2
    where
      go : (y : A) (rest : List S) → p symbols ≡ Ok (y, rest) → (nothing_left rest >>= λ _. Ok y) ≡ Err left → IsLongest Is symbols (length symbols - left)
      go y [] e1 e2 = absurd cc
      go y (b ∷ rest) e1 e2 = let f = exact.found symbols y (b ∷ rest) e1 in
          let place : length symbols - left ≡ length f.front = omega (arith, ap length f.parts, length-append f.front (b ∷ rest), err_is {A = A} (suc (length rest)) left e2) in
          rw place (longest_at symbols f.front (b ∷ rest) f.parts (y, [], subst (λ (t : List S). Is y t) (sym (append-nil f.front)) f.is) (never f.front (b ∷ rest) b rest refl f.again))
        where
          never : (front rest : List S) (b : S) (others : List S) → rest ≡ b ∷ others → ((more : List S) → Alike rest more → p (front ++ more) ≡ Ok (y, more))
              → (more : List S) → Alike rest more → (x : A) → p (front ++ more) ≡ Ok (x, []) → ⊥
          never front [] b others is again more h x e = absurd cc
          never front (d ∷ rest) b others is again [] h x e = absurd h
          never front (d ∷ rest) b others is again (c ∷ more) h x e = let same = ok_parts y x (c ∷ more) [] (sym (again (c ∷ more) h) ∙ e) in let bad = same.1 in absurd cc
  fault_whole symbols left (Err n) e1 e2 =
      let f = exact.faulty symbols n e1 in
      let place : length symbols - left ≡ length f.front = omega (arith, ap length f.parts, length-append f.front f.rest, f.left_is, err_is {A = A} n left e2) in
      rw place (longest_at symbols f.front f.rest f.parts (f.value, f.ending, f.begun) (λ more h x e. clash more x (f.again more h) e))
    where
      clash : {t : List S} (more : List S) (x : A) → p t ≡ Err (length more) → p t ≡ Ok (x, []) → ⊥
      clash more x e1 e2 = absurd cc

  pub reads_whole : ReadsWhole p Is
  reads_whole = record {
    found = λ symbols x e. found_whole symbols x (p symbols) refl e;
    only = λ symbols x is. rw (text_is_read x symbols is) refl;
    fault = λ symbols left e. fault_whole symbols left (p symbols) refl e;
    one_value = λ text x y. one_value x y text;
  }
