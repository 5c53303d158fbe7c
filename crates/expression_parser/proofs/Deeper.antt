-- The laws of readers that nest, from the laws with room for one less.
use Rattle.std.proofs.Common.{◌≡◌, ℕ, zero, suc, ◌+◌, ◌<◌, ◌≤◌, List, ◌++◌, length, Ok, Err, sym, subst, ◌∙◌, arith}
use Rattle.xanadu_lexer.specs.declared.token.Token.{Token}
use Rattle.xan_read.specs.Reader.{Alike}
use Rattle.xan_read.specs.Rooms.{Example, FoundWithin, FaultyWithin, ExactWithin}
use Rattle.expression_parser.specs.Reader.{Family}

-- without room no text has room
pub exact-none : {A : Type 0} (F : Family A) (Is : A → List Token → Type 0) (Stops : List Token → Type 0) → Example Is → ((tokens : List Token) → F 0 tokens ≡ Err (length tokens)) → ExactWithin 0 0 F Is Stops
exact-none {A} F Is Stops some none = record {
  some = some;
  found = λ room tokens x rest le e. absurd (no_value room tokens x rest (omega arith) e);
  faulty = λ room tokens left le fits e. absurd (omega arith);
  whole = λ room x front rest le fits is h. absurd (omega arith);
}
  where
    no_value : (room : ℕ) (tokens : List Token) (x : A) (rest : List Token) → room ≡ 0 → F room tokens ≡ Ok (x, rest) → ⊥
    no_value room tokens x rest same e = let f : F 0 tokens ≡ Ok (x, rest) = subst (λ (n : ℕ). F n tokens ≡ Ok (x, rest)) same e in let n = none tokens in absurd cc

-- room for one more
module _ {A : Type 0} (most : ℕ) (F G : Family A) (Is : A → List Token → Type 0) (Stops : List Token → Type 0) (exact : ExactWithin most 1 G Is Stops)
    (none : (tokens : List Token) → F 0 tokens ≡ Err (length tokens)) (deeper : (room : ℕ) (tokens : List Token) → F (suc room) tokens ≡ G room tokens) where
  found_deeper : (room : ℕ) (tokens : List Token) (x : A) (rest : List Token) → room ≤ suc most → F room tokens ≡ Ok (x, rest) → FoundWithin (suc most) 0 F Is tokens x rest
  found_deeper zero tokens x rest le e = let n = none tokens in absurd cc
  found_deeper (suc room) tokens x rest le e =
      let f = exact.found room tokens x rest (omega arith) (sym (deeper room tokens) ∙ e) in
      record { front = f.front; is = f.is; parts = f.parts; again = λ room more le fits h. repeats f.front f.again room more le fits h }
    where
      repeats : (front : List Token) → ((room : ℕ) (more : List Token) → room ≤ most → length front < 1 + room → Alike rest more → G room (front ++ more) ≡ Ok (x, more))
          → (room : ℕ) (more : List Token) → room ≤ suc most → length front < 0 + room → Alike rest more → F room (front ++ more) ≡ Ok (x, more)
      repeats front again zero more le fits h = absurd (omega arith)
      repeats front again (suc room) more le fits h = deeper room (front ++ more) ∙ again room more (omega arith) (omega arith) h

  faulty_deeper : (room : ℕ) (tokens : List Token) (left : ℕ) → room ≤ suc most → length tokens < 0 + room → F room tokens ≡ Err left → FaultyWithin (suc most) 0 F Is tokens left
  faulty_deeper zero tokens left le fits e = absurd (omega arith)
  faulty_deeper (suc room) tokens left le fits e =
      let f = exact.faulty room tokens left (omega arith) (omega arith) (sym (deeper room tokens) ∙ e) in
      record {
        front = f.front;
        rest = f.rest;
        parts = f.parts;
        left_is = f.left_is;
        value = f.value;
        ending = f.ending;
        begun = f.begun;
        again = λ room more le fits h. repeats f.front f.rest f.again room more le fits h;
      }
    where
      repeats : (front rest : List Token) → ((room : ℕ) (more : List Token) → room ≤ most → length front < 1 + room → Alike rest more → G room (front ++ more) ≡ Err (length more))
          → (room : ℕ) (more : List Token) → room ≤ suc most → length front < 0 + room → Alike rest more → F room (front ++ more) ≡ Err (length more)
      repeats front rest again zero more le fits h = absurd (omega arith)
      repeats front rest again (suc room) more le fits h = deeper room (front ++ more) ∙ again room more (omega arith) (omega arith) h

  whole_deeper : (room : ℕ) (x : A) (front rest : List Token) → room ≤ suc most → length front < 0 + room → Is x front → Stops rest → F room (front ++ rest) ≡ Ok (x, rest)
  whole_deeper zero x front rest le fits is h = absurd (omega arith)
  whole_deeper (suc room) x front rest le fits is h = deeper room (front ++ rest) ∙ exact.whole room x front rest (omega arith) (omega arith) is h

  pub exact-deeper : ExactWithin (suc most) 0 F Is Stops
  exact-deeper = record { some = exact.some; found = found_deeper; faulty = faulty_deeper; whole = whole_deeper }
