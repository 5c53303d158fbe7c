-- The reader of a table of words is exact.
use Rattle.std.proofs.Common.{◌≡◌, ◌⊎◌, ℕ, suc, ◌-◌, ◌≤◌, max, min, Bool, true, false, cond, eqb, not, ◌&&◌, List, [], ◌∷◌, ◌++◌, length, take, drop, Result, Ok, Err, refl, sym, ap, subst, ◌∙◌, arith, inl, inr}
use Rattle.std.proofs.lemmas.Bool.{and_parts, and_from, not-true, eqb-true, eq-eqb, cases_eq}
use Rattle.std.proofs.lemmas.List.{drop_at, take-append-drop, length-append, length-take-le, length-drop}
use Rattle.xan_read.specs.Reader.{Read, Reader, Alike, Faulty, Exact}
use Rattle.xan_read.specs.Words.{Table, IsWord, begins_with, apart, apart_from_all, prefix_free, or_else, word_from, word}
use Rattle.xan_read.specs.Combinators.{literal}
use Rattle.xan_read.proofs.AlikeLaws.{done, ok_parts, err_is}

abbrev broken : ℕ → Result (List ℕ) ℕ
broken n = Err n

-- with how many bytes both begin
abbrev common : List ℕ → List ℕ → ℕ
common [] bytes = 0
common (c ∷ word) [] = 0
common (c ∷ word) (b ∷ bytes) = cond (eqb b c) (suc (common word bytes)) 0

-- The reader once more, by tests of its own: best is how far the words before these went on as the bytes do.
furthest_from : {A : Type 0} → ℕ → Table A → Reader A
furthest_from best [] bytes = Err (length bytes - best)
furthest_from best (entry ∷ table) bytes = cond (begins_with entry.0 bytes) (Ok (entry.1, drop (length entry.0) bytes)) (furthest_from (max best (common entry.0 bytes)) table bytes)

literal_is : (text bytes : List ℕ) → literal text bytes ≡ cond (begins_with text bytes) (Ok (drop (length text) bytes)) (Err (length bytes - common text bytes))
unfolding literal
literal_is [] bytes = refl
literal_is (c ∷ text) [] = refl
literal_is (c ∷ text) (b ∷ bytes) = go (eqb b c) (literal_is text bytes)
  where
    fails : (n : ℕ) → n ≡ suc (length bytes) - suc (common text bytes) → broken n ≡ broken (suc (length bytes) - suc (common text bytes))
    fails n e = ap broken e

    inner : (t : Bool) → cond t (Ok (drop (length text) bytes)) (broken (length bytes - common text bytes)) ≡ cond t (Ok (drop (length text) bytes)) (broken (suc (length bytes) - suc (common text bytes)))
    inner true = refl
    inner false = fails (length bytes - common text bytes) (omega arith)

    go : (t : Bool) → literal text bytes ≡ cond (begins_with text bytes) (Ok (drop (length text) bytes)) (Err (length bytes - common text bytes))
        → cond t (literal text bytes) (Err (suc (length bytes))) ≡ cond (t && begins_with text bytes) (Ok (drop (length text) bytes)) (Err (suc (length bytes) - cond t (suc (common text bytes)) 0))
    go true more = more ∙ inner (begins_with text bytes)
    go false more = ap broken (omega arith)

same_reader : {A : Type 0} (best : ℕ) (table : Table A) (bytes : List ℕ) → word_from (length bytes - best) table bytes ≡ furthest_from best table bytes
unfolding word_from furthest_from
same_reader best [] bytes = refl
same_reader {A} best (entry ∷ table) bytes = ap (λ (r : Result (List ℕ) ℕ). or_else r entry.1 (λ n. word_from (min (length bytes - best) n) table bytes)) (literal_is entry.0 bytes) ∙ go (begins_with entry.0 bytes) (same_reader (max best (common entry.0 bytes)) table bytes)
  where
    go : (t : Bool) → word_from (length bytes - max best (common entry.0 bytes)) table bytes ≡ furthest_from (max best (common entry.0 bytes)) table bytes
        → or_else (cond t (Ok (drop (length entry.0) bytes)) (Err (length bytes - common entry.0 bytes))) entry.1 (λ n. word_from (min (length bytes - best) n) table bytes)
        ≡ cond t (done entry.1 (drop (length entry.0) bytes)) (furthest_from (max best (common entry.0 bytes)) table bytes)
    go true more = refl
    go false more =
        let place : min (length bytes - best) (length bytes - common entry.0 bytes) ≡ length bytes - max best (common entry.0 bytes) = omega arith in
        ap (λ (n : ℕ). word_from n table bytes) place ∙ more

word_is : {A : Type 0} (table : Table A) (bytes : List ℕ) → word table bytes ≡ furthest_from 0 table bytes
word_is table bytes = ap (λ (n : ℕ). word_from n table bytes) (omega arith) ∙ same_reader 0 table bytes

begins_whole : (word rest : List ℕ) → begins_with word (word ++ rest) ≡ true
begins_whole [] rest = refl
begins_whole (c ∷ word) rest = and_from (eqb c c) (begins_with word (word ++ rest)) (eq-eqb c c refl) (begins_whole word rest)

begins_parts : (word bytes : List ℕ) → begins_with word bytes ≡ true → bytes ≡ word ++ drop (length word) bytes
begins_parts [] bytes e = refl
begins_parts (c ∷ word) [] e = absurd cc
begins_parts (c ∷ word) (b ∷ bytes) e =
    let both = and_parts (eqb b c) (begins_with word bytes) e in
    let same = eqb-true b c both.0 in
    let others = begins_parts word bytes both.1 in cc

-- a word that neither begins nor is begun by another does not begin what begins with the other
apart_other : (a b rest : List ℕ) → begins_with a b ≡ false → begins_with b a ≡ false → begins_with a (b ++ rest) ≡ false
apart_other [] b rest e f = absurd cc
apart_other (c ∷ a) [] rest e f = absurd cc
apart_other (c ∷ a) (d ∷ b) rest e f = go (eqb d c) refl e (apart_other a b rest)
  where
    go : (t : Bool) → eqb d c ≡ t → (t && begins_with a b) ≡ false → (begins_with a b ≡ false → begins_with b a ≡ false → begins_with a (b ++ rest) ≡ false) → (t && begins_with a (b ++ rest)) ≡ false
    go true same e more = more e (rw (eq-eqb c d (sym (eqb-true d c same))) at f)
    go false same e more = refl

apart_at : {A : Type 0} (v : List ℕ) (table : Table A) (x : A) (text : List ℕ) → apart_from_all v table ≡ true → IsWord table x text → apart v text ≡ true
apart_at v [] x text e is = absurd is
apart_at v (entry ∷ table) x text e (inl is) = subst (λ (t : List ℕ). apart v t ≡ true) (sym is.1) (and_parts (apart v entry.0) (apart_from_all v table) e).0
apart_at v (entry ∷ table) x text e (inr is) = apart_at v table x text (and_parts (apart v entry.0) (apart_from_all v table) e).1 is

word_whole : {A : Type 0} (best : ℕ) (table : Table A) (x : A) (text rest : List ℕ) → prefix_free table ≡ true → IsWord table x text → furthest_from best table (text ++ rest) ≡ Ok (x, rest)
unfolding furthest_from
word_whole best [] x text rest free is = absurd is
word_whole best (entry ∷ table) x text rest free (inl is) =
    rw (is.1, begins_whole entry.0 rest, drop_at entry.0 rest (length entry.0) refl) (ap (λ y. done y rest) (sym is.0))
word_whole best (entry ∷ table) x text rest free (inr is) =
    let both = and_parts (apart_from_all entry.0 table) (prefix_free table) free in
    let two = and_parts (not (begins_with entry.0 text)) (not (begins_with text entry.0)) (apart_at entry.0 table x text both.0 is) in
    rw (apart_other entry.0 text rest (not-true (begins_with entry.0 text) two.0) (not-true (begins_with text entry.0) two.1))
    (word_whole (max best (common entry.0 (text ++ rest))) table x text rest both.1 is)

record Taken {A : Type 0} (table : Table A) (bytes : List ℕ) (x : A) (rest : List ℕ) : Type 0 where
  text : List ℕ
  is : IsWord table x text
  parts : bytes ≡ text ++ rest

word_found : {A : Type 0} (best : ℕ) (table : Table A) (bytes : List ℕ) (x : A) (rest : List ℕ) → furthest_from best table bytes ≡ Ok (x, rest) → Taken table bytes x rest
unfolding furthest_from
word_found best [] bytes x rest e = absurd cc
word_found {A} best (entry ∷ table) bytes x rest e = go (begins_with entry.0 bytes) refl e (word_found (max best (common entry.0 bytes)) table bytes x rest)
  where
    go : (t : Bool) → begins_with entry.0 bytes ≡ t → cond t (done entry.1 (drop (length entry.0) bytes)) (furthest_from (max best (common entry.0 bytes)) table bytes) ≡ Ok (x, rest)
        → (furthest_from (max best (common entry.0 bytes)) table bytes ≡ Ok (x, rest) → Taken table bytes x rest) → Taken (entry ∷ table) bytes x rest
    go true begins e more =
        let same = ok_parts entry.1 x (drop (length entry.0) bytes) rest e in
        record { text = entry.0; is = inl (sym same.0, refl); parts = begins_parts entry.0 bytes begins ∙ ap (λ (t : List ℕ). entry.0 ++ t) same.1 }
    go false begins e more = let w = more e in record { text = w.text; is = inr w.is; parts = w.parts }

-- ---- where no word comes

common_take : (word bytes : List ℕ) → take (common word bytes) word ≡ take (common word bytes) bytes
common_take [] bytes = refl
common_take (c ∷ word) [] = refl
common_take (c ∷ word) (b ∷ bytes) = go (eqb b c) refl (common_take word bytes)
  where
    go : (t : Bool) → eqb b c ≡ t → take (common word bytes) word ≡ take (common word bytes) bytes → take (cond t (suc (common word bytes)) 0) (c ∷ word) ≡ take (cond t (suc (common word bytes)) 0) (b ∷ bytes)
    go true same others = let e = eqb-true b c same in cc
    go false same others = refl

common_within : (word bytes : List ℕ) → common word bytes ≤ length bytes
common_within [] bytes = omega arith
common_within (c ∷ word) [] = omega arith
common_within (c ∷ word) (b ∷ bytes) = go (eqb b c) (common_within word bytes)
  where
    go : (t : Bool) → common word bytes ≤ length bytes → cond t (suc (common word bytes)) 0 ≤ suc (length bytes)
    go true more = omega arith
    go false more = omega arith

-- how far some word of the table goes on as the bytes do
furthest : {A : Type 0} → ℕ → Table A → List ℕ → ℕ
furthest best [] bytes = best
furthest best (entry ∷ table) bytes = furthest (max best (common entry.0 bytes)) table bytes

furthest_rises : {A : Type 0} (best : ℕ) (table : Table A) (bytes : List ℕ) → best ≤ furthest best table bytes
unfolding furthest
furthest_rises best [] bytes = omega arith
furthest_rises best (entry ∷ table) bytes = omega (arith, furthest_rises (max best (common entry.0 bytes)) table bytes)

furthest_is : {A : Type 0} (best : ℕ) (table : Table A) (bytes : List ℕ) (left : ℕ) → furthest_from best table bytes ≡ Err left → left ≡ length bytes - furthest best table bytes
unfolding furthest furthest_from
furthest_is {A} best [] bytes left e = sym (err_is {A = A × List ℕ} (length bytes - best) left e)
furthest_is {A} best (entry ∷ table) bytes left e = go (begins_with entry.0 bytes) e (furthest_is (max best (common entry.0 bytes)) table bytes left)
  where
    go : (t : Bool) → cond t (done entry.1 (drop (length entry.0) bytes)) (furthest_from (max best (common entry.0 bytes)) table bytes) ≡ Err left
        → (furthest_from (max best (common entry.0 bytes)) table bytes ≡ Err left → left ≡ length bytes - furthest (max best (common entry.0 bytes)) table bytes) → left ≡ length bytes - furthest (max best (common entry.0 bytes)) table bytes
    go true e more = absurd cc
    go false e more = more e

record Furthest {A : Type 0} (table : Table A) (bytes : List ℕ) (k : ℕ) : Type 0 where
  value : A
  text : List ℕ
  is : IsWord table value text
  far : common text bytes ≡ k

-- it is where it began, or some word goes so far
furthest_word : {A : Type 0} (best : ℕ) (table : Table A) (bytes : List ℕ) → (furthest best table bytes ≡ best) ⊎ Furthest table bytes (furthest best table bytes)
unfolding furthest
furthest_word best [] bytes = inl refl
furthest_word {A} best (entry ∷ table) bytes = go (furthest_word (max best (common entry.0 bytes)) table bytes) (cases_eq (max best (common entry.0 bytes)) best)
  where
    next : ℕ
    next = furthest (max best (common entry.0 bytes)) table bytes

    go : (furthest (max best (common entry.0 bytes)) table bytes ≡ max best (common entry.0 bytes)) ⊎ Furthest table bytes (furthest (max best (common entry.0 bytes)) table bytes)
        → (max best (common entry.0 bytes) ≡ best) ⊎ (max best (common entry.0 bytes) ≡ best → ⊥)
        → (furthest (max best (common entry.0 bytes)) table bytes ≡ best) ⊎ Furthest (entry ∷ table) bytes (furthest (max best (common entry.0 bytes)) table bytes)
    go (inl here) (inl same) = inl (here ∙ same)
    go (inl here) (inr more) = inr (record { value = entry.1; text = entry.0; is = inl (refl, refl); far = omega (arith, here, more) })
    go (inr w) same = inr (record { value = w.value; text = w.text; is = inr w.is; far = w.far })

-- a table that is not empty has such a word
furthest_of : {A : Type 0} (entry : List ℕ × A) (table : Table A) (bytes : List ℕ) → Furthest (entry ∷ table) bytes (furthest 0 (entry ∷ table) bytes)
unfolding furthest
furthest_of {A} entry table bytes = go (furthest_word 0 (entry ∷ table) bytes)
  where
    go : (furthest 0 (entry ∷ table) bytes ≡ 0) ⊎ Furthest (entry ∷ table) bytes (furthest 0 (entry ∷ table) bytes) → Furthest (entry ∷ table) bytes (furthest 0 (entry ∷ table) bytes)
    go (inl none) = record { value = entry.1; text = entry.0; is = inl (refl, refl); far = omega (arith, none, furthest_rises (max 0 (common entry.0 bytes)) table bytes) }
    go (inr w) = w

-- What a word shares with the bytes stays, if what is behind the front begins alike.
record Same (w front rest more : List ℕ) : Type 0 where
  begins : begins_with w (front ++ more) ≡ false
  far : common w (front ++ more) ≡ common w (front ++ rest)

same_word : (front w rest more : List ℕ) → begins_with w (front ++ rest) ≡ false → common w (front ++ rest) ≤ length front → Alike rest more → Same w front rest more
same_word [] [] rest more none far h = absurd cc
same_word [] (c ∷ w) [] [] none far h = record { begins = refl; far = refl }
same_word [] (c ∷ w) [] (d ∷ more) none far h = absurd h
same_word [] (c ∷ w) (b ∷ rest) [] none far h = absurd h
same_word [] (c ∷ w) (b ∷ rest) (d ∷ more) none far h = go (eqb b c) refl far
  where
    go : (t : Bool) → eqb b c ≡ t → cond t (suc (common w rest)) 0 ≤ 0 → Same (c ∷ w) [] (b ∷ rest) (d ∷ more)
    go true same far = absurd (omega arith)
    go false same far = record { begins = rw (← h, same) refl; far = rw (← h, same) refl }
same_word (f ∷ front) [] rest more none far h = absurd cc
same_word (f ∷ front) (c ∷ w) rest more none far h = go (eqb f c) refl none far (same_word front w rest more)
  where
    go : (t : Bool) → eqb f c ≡ t → (t && begins_with w (front ++ rest)) ≡ false → cond t (suc (common w (front ++ rest))) 0 ≤ suc (length front)
        → (begins_with w (front ++ rest) ≡ false → common w (front ++ rest) ≤ length front → Alike rest more → Same w front rest more) → Same (c ∷ w) (f ∷ front) rest more
    go true same none far next = let s = next none (omega arith) h in record { begins = rw same s.begins; far = rw same (ap suc s.far) }
    go false same none far next = record { begins = rw same refl; far = rw same refl }

same_table : {A : Type 0} (best : ℕ) (table : Table A) (front rest more : List ℕ) (left : ℕ) → furthest_from best table (front ++ rest) ≡ Err left → furthest best table (front ++ rest) ≤ length front
    → Alike rest more → furthest_from best table (front ++ more) ≡ Err (length (front ++ more) - furthest best table (front ++ rest))
unfolding furthest furthest_from
same_table best [] front rest more left e far h = refl
same_table {A} best (entry ∷ table) front rest more left e far h = go (begins_with entry.0 (front ++ rest)) refl e (same_table (max best (common entry.0 (front ++ rest))) table front rest more left)
  where
    go : (t : Bool) → begins_with entry.0 (front ++ rest) ≡ t → cond t (done entry.1 (drop (length entry.0) (front ++ rest))) (furthest_from (max best (common entry.0 (front ++ rest))) table (front ++ rest)) ≡ Err left
        → (furthest_from (max best (common entry.0 (front ++ rest))) table (front ++ rest) ≡ Err left → furthest (max best (common entry.0 (front ++ rest))) table (front ++ rest) ≤ length front → Alike rest more
        → furthest_from (max best (common entry.0 (front ++ rest))) table (front ++ more) ≡ Err (length (front ++ more) - furthest (max best (common entry.0 (front ++ rest))) table (front ++ rest)))
        → cond (begins_with entry.0 (front ++ more)) (done entry.1 (drop (length entry.0) (front ++ more))) (furthest_from (max best (common entry.0 (front ++ more))) table (front ++ more))
        ≡ Err (length (front ++ more) - furthest (max best (common entry.0 (front ++ rest))) table (front ++ rest))
    go true none e next = absurd cc
    go false none e next =
        let s = same_word front entry.0 rest more none (omega (arith, furthest_rises (max best (common entry.0 (front ++ rest))) table (front ++ rest))) h in
        rw (s.begins, s.far) (next e far h)

module _ {A : Type 0} (entry : List ℕ × A) (table : Table A) (free : prefix_free (entry ∷ table) ≡ true) where
  faulty_word : (bytes : List ℕ) (left : ℕ) → furthest_from 0 (entry ∷ table) bytes ≡ Err left → Faulty (word (entry ∷ table)) (IsWord (entry ∷ table)) bytes left
  faulty_word bytes left e =
      let w = furthest_of entry table bytes in
      let k : ℕ = furthest 0 (entry ∷ table) bytes in
      let within : k ≤ length bytes = omega (arith, w.far, common_within w.text bytes) in
      let parts : take k bytes ++ drop k bytes ≡ bytes = take-append-drop k bytes in
      let long : length (take k bytes) ≡ k = length-take-le k bytes within in
      let front : take k w.text ≡ take k bytes = subst (λ (j : ℕ). take j w.text ≡ take j bytes) w.far (common_take w.text bytes) in
      record {
        front = take k bytes;
        rest = drop k bytes;
        parts = sym parts;
        left_is = length-drop k bytes ∙ sym (furthest_is 0 (entry ∷ table) bytes left e);
        value = w.value;
        ending = drop k w.text;
        begun = subst (λ (t : List ℕ). IsWord (entry ∷ table) w.value t) (sym (take-append-drop k w.text) ∙ ap (λ (t : List ℕ). t ++ drop k w.text) front) w.is;
        again = λ more h. word_is (entry ∷ table) (take k bytes ++ more) ∙ again bytes (take k bytes) (drop k bytes) more left (sym parts) e (omega (arith, long)) h;
      }
    where
      again : (bytes front rest more : List ℕ) (left : ℕ) → bytes ≡ front ++ rest → furthest_from 0 (entry ∷ table) bytes ≡ Err left → furthest 0 (entry ∷ table) bytes ≡ length front → Alike rest more
          → furthest_from 0 (entry ∷ table) (front ++ more) ≡ Err (length more)
      again bytes front rest more left parts e far h =
          let there : furthest 0 (entry ∷ table) (front ++ rest) ≡ length front = ap (furthest 0 (entry ∷ table)) (sym parts) ∙ far in
          let place : length (front ++ more) - furthest 0 (entry ∷ table) (front ++ rest) ≡ length more = omega (arith, length-append front more, there) in
          same_table 0 (entry ∷ table) front rest more left (ap (furthest_from 0 (entry ∷ table)) (sym parts) ∙ e) (omega (arith, there)) h ∙ ap at_fault place
        where
          at_fault : ℕ → Read A
          at_fault n = Err n

  pub exact-word : Exact (word (entry ∷ table)) (IsWord (entry ∷ table)) (λ _. Unit {0})
  exact-word = record {
    found = λ bytes x rest e. let w = word_found 0 (entry ∷ table) bytes x rest (sym (word_is (entry ∷ table) bytes) ∙ e) in
        record { front = w.text; is = w.is; parts = w.parts; again = λ more h. word_is (entry ∷ table) (w.text ++ more) ∙ word_whole 0 (entry ∷ table) x w.text more free w.is };
    faulty = λ bytes left e. faulty_word bytes left (sym (word_is (entry ∷ table) bytes) ∙ e);
    whole = λ x front rest is h. word_is (entry ∷ table) (front ++ rest) ∙ word_whole 0 (entry ∷ table) x front rest free is;
  }
