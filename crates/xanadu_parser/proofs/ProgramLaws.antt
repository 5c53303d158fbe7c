-- Programs are read exactly: what is read is spelled so, what is spelled so is read, and a fault is behind the longest part that begins a program.
use Rattle.std.proofs.Common.{◌≡◌, ℕ, zero, suc, ◌+◌, ◌<◌, ◌≤◌, List, [], ◌∷◌, ◌++◌, length, Ok, Err, refl, sym, ap, ◌∙◌, append_assoc, append-nil, arith}
use Rattle.std.proofs.lemmas.List.{length-append}
use Rattle.xanadu_lexer.specs.declared.token.Token.{Token}
use Rattle.xanadu_tree.specs.PlainTree as plain
use Rattle.xanadu_tree.specs.Pieces.{Spelled}
use Rattle.xanadu_tree.specs.Spelling.{declaration_pieces}
use Rattle.xanadu_tree.specs.Written.{declaration_at}
use Rattle.xan_read.specs.Reader.{◌>>=◌, Alike}
use Rattle.xan_read.specs.Symbols.{OneThen}
use Rattle.xan_read.proofs.AlikeLaws.{alike_through, done, failed, ok_parts, err_is}
use Rattle.expression_parser.specs.Reader.{Read}
use Rattle.xanadu_parser.specs.Declarations.{declaration, declarations_from}
use Rattle.expression_parser.proofs.TokenSets.{ends-nothing}
use Rattle.expression_parser.proofs.ProductionLaws.{Said, said}
use Rattle.xanadu_parser.proofs.DeclarationLaws.{FitsDeclaration, a-declaration}

abbrev pub IsText : plain.Declaration → List Token → Type 0
IsText = Said FitsDeclaration declaration_pieces

-- declarations, one after the other
abbrev pub AreTexts : List plain.Declaration → List Token → Type 0
AreTexts [] text = text ≡ []
AreTexts (d ∷ ds) text = OneThen IsText d (AreTexts ds) text

-- ---- a declaration begins with a keyword

pub record Headed (d : plain.Declaration) (text : List Token) : Type 0 where
  pub token : Token
  pub back : List Token
  pub parts : text ≡ token ∷ back
  pub at : token.at ≡ declaration_at d

pub headed : (d : plain.Declaration) (text : List Token) → Spelled (declaration_pieces d) text → Headed d text
headed (plain.OfType d) [] h = absurd h
headed (plain.OfFunction f) [] h = absurd h
headed (plain.OfType d) (t ∷ ts) h = record { token = t; back = ts; parts = refl; at = h.0.at }
headed (plain.OfFunction f) (t ∷ ts) h = record { token = t; back = ts; parts = refl; at = h.0.at }

some_tokens : (d : plain.Declaration) (text : List Token) → IsText d text → 1 ≤ length text
some_tokens d text is = let h = headed d text is.spelled in omega (arith, ap length h.parts)

-- ---- the loop over declarations

one : (room count : ℕ) (found : List plain.Declaration) (tokens : List Token) (x : plain.Declaration) (later : List Token) → 1 ≤ length tokens → declaration room tokens ≡ Ok (x, later)
    → declarations_from room (suc count) found tokens ≡ declarations_from room count (found ++ x ∷ []) later
unfolding declarations_from
one room count found [] x later some e = absurd (omega arith)
one room count found (t ∷ ts) x later some e = rw e refl

bad : (room count : ℕ) (found : List plain.Declaration) (tokens : List Token) (left : ℕ) → 1 ≤ length tokens → declaration room tokens ≡ Err left → declarations_from room (suc count) found tokens ≡ Err left
unfolding declarations_from
bad room count found [] left some e = absurd (omega arith)
bad room count found (t ∷ ts) left some e = rw e refl

alike-length : (tokens more : List Token) → 1 ≤ length tokens → Alike tokens more → 1 ≤ length more
alike-length [] more some h = absurd (omega arith)
alike-length (t ∷ ts) [] some h = absurd h
alike-length (t ∷ ts) (u ∷ us) some h = omega arith

module _ (most : ℕ) where
  pub record FoundAll (found : List plain.Declaration) (tokens : List Token) (ys : List plain.Declaration) (rest : List Token) : Type 0 where
    pub xs : List plain.Declaration
    pub is : ys ≡ found ++ xs
    pub texts : AreTexts xs tokens
    pub ended : rest ≡ []

  pub found_all : (count room : ℕ) (found : List plain.Declaration) (tokens : List Token) (ys : List plain.Declaration) (rest : List Token) → room ≤ most → length tokens ≤ count
      → declarations_from room count found tokens ≡ Ok (ys, rest) → FoundAll found tokens ys rest
  unfolding declarations_from
  found_all count room found [] ys rest le few e = let same = ok_parts found ys [] rest e in
      record { xs = []; is = sym same.0 ∙ sym (append-nil found); texts = refl; ended = sym same.1 }
  found_all zero room found (t ∷ ts) ys rest le few e = absurd (omega arith)
  found_all (suc count) room found (t ∷ ts) ys rest le few e = by_item (declaration room (t ∷ ts)) refl e
      (λ (x : plain.Declaration) (later : List Token) (less : length later ≤ count) (h : declarations_from room count (found ++ x ∷ []) later ≡ Ok (ys, rest)). found_all count room (found ++ x ∷ []) later ys rest le less h)
    where
      by_item : (r : Read plain.Declaration) → declaration room (t ∷ ts) ≡ r → (r >>= λ d. declarations_from room count (found ++ d.0 ∷ []) d.1) ≡ Ok (ys, rest)
          → ((x : plain.Declaration) (later : List Token) → length later ≤ count → declarations_from room count (found ++ x ∷ []) later ≡ Ok (ys, rest) → FoundAll (found ++ x ∷ []) later ys rest) → FoundAll found (t ∷ ts) ys rest
      by_item (Ok x) e1 e2 others =
          let f = (said (a-declaration most)).found room (t ∷ ts) x.0 x.1 le e1 in
          let less : length x.1 ≤ count = omega (arith, ap length f.parts, length-append f.front x.1, some_tokens x.0 f.front f.is) in
          let g = others x.0 x.1 less e2 in
          record {
            xs = x.0 ∷ g.xs;
            is = g.is ∙ append_assoc found (x.0 ∷ []) g.xs;
            texts = record { front = f.front; back = x.1; first = f.is; others = g.texts; parts = f.parts };
            ended = g.ended;
          }
      by_item (Err n) e1 e2 others = absurd cc

  pub record FaultyAll (tokens : List Token) (left : ℕ) : Type 0 where
    pub xs : List plain.Declaration
    pub front : List Token
    pub rest : List Token
    pub ending : List Token
    pub parts : tokens ≡ front ++ rest
    pub left_is : length rest ≡ left
    pub begun : AreTexts xs (front ++ ending)
    pub again : (room count : ℕ) (found : List plain.Declaration) (more : List Token) → room ≤ most → length front < 1 + room → length (front ++ more) ≤ count → Alike rest more → declarations_from room count found (front ++ more) ≡ Err (length more)

  here : (tokens : List Token) (left room : ℕ) → room ≤ most → 1 ≤ length tokens → length tokens < 1 + room → declaration room tokens ≡ Err left → FaultyAll tokens left
  here tokens left room le some fits e =
      let f = (said (a-declaration most)).faulty room tokens left le fits e in
      record {
        xs = f.value ∷ [];
        front = f.front;
        rest = f.rest;
        ending = f.ending;
        parts = f.parts;
        left_is = f.left_is;
        begun = record { front = f.front ++ f.ending; back = []; first = f.begun; others = refl; parts = sym (append-nil (f.front ++ f.ending)) };
        again = λ room count found more le fits few h. fails f.front f.rest f.parts f.again room count found more le fits few h;
      }
    where
      fails : (front rest : List Token) → tokens ≡ front ++ rest → ((room : ℕ) (more : List Token) → room ≤ most → length front < 1 + room → Alike rest more → declaration room (front ++ more) ≡ Err (length more))
          → (room count : ℕ) (found : List plain.Declaration) (more : List Token) → room ≤ most → length front < 1 + room → length (front ++ more) ≤ count → Alike rest more → declarations_from room count found (front ++ more) ≡ Err (length more)
      fails front rest parts again room zero found more le fits few h = absurd (omega (arith, alike-length tokens (front ++ more) some (alike_through tokens front rest more parts h)))
      fails front rest parts again room (suc count) found more le fits few h =
          bad room count found (front ++ more) (length more) (alike-length tokens (front ++ more) some (alike_through tokens front rest more parts h)) (again room more le fits h)

  later_one : (tokens : List Token) (left room : ℕ) (x : plain.Declaration) (later : List Token) → room ≤ most → declaration room tokens ≡ Ok (x, later) → FaultyAll later left → FaultyAll tokens left
  later_one tokens left room x later le e g =
      let f = (said (a-declaration most)).found room tokens x later le e in
      record {
        xs = x ∷ g.xs;
        front = f.front ++ g.front;
        rest = g.rest;
        ending = g.ending;
        parts = f.parts ∙ ap (λ (t : List Token). f.front ++ t) g.parts ∙ sym (append_assoc f.front g.front g.rest);
        left_is = g.left_is;
        begun = record { front = f.front; back = g.front ++ g.ending; first = f.is; others = g.begun; parts = append_assoc f.front g.front g.ending };
        again = λ room count found more le fits few h. fails f.front g.front g.rest f.is f.again g.again g.parts room count found more le fits few h;
      }
    where
      fails : (front back rest : List Token) → IsText x front
          → ((room : ℕ) (more : List Token) → room ≤ most → length front < 1 + room → Alike later more → declaration room (front ++ more) ≡ Ok (x, more))
          → ((room count : ℕ) (found : List plain.Declaration) (more : List Token) → room ≤ most → length back < 1 + room → length (back ++ more) ≤ count → Alike rest more → declarations_from room count found (back ++ more) ≡ Err (length more))
          → later ≡ back ++ rest
          → (room count : ℕ) (found : List plain.Declaration) (more : List Token) → room ≤ most → length (front ++ back) < 1 + room → length ((front ++ back) ++ more) ≤ count → Alike rest more → declarations_from room count found ((front ++ back) ++ more) ≡ Err (length more)
      fails front back rest is first others parts room zero found more le fits few h = absurd (omega (arith, length-append (front ++ back) more, length-append front back, some_tokens x front is))
      fails front back rest is first others parts room (suc count) found more le fits few h =
          let a : length front < 1 + room = omega (arith, length-append front back) in
          let b : length back < 1 + room = omega (arith, length-append front back) in
          let c : length (back ++ more) ≤ count = omega (arith, length-append (front ++ back) more, length-append front back, length-append back more, some_tokens x front is) in
          let d : 1 ≤ length (front ++ (back ++ more)) = omega (arith, length-append front (back ++ more), some_tokens x front is) in
          ap (λ (t : List Token). declarations_from room (suc count) found t) (append_assoc front back more)
          ∙ one room count found (front ++ (back ++ more)) x (back ++ more) d (first room (back ++ more) le a (alike_through later back rest more parts h))
          ∙ others room count (found ++ x ∷ []) more le b c h

  pub faulty_all : (count room : ℕ) (found : List plain.Declaration) (tokens : List Token) (left : ℕ) → room ≤ most → length tokens < 1 + room → length tokens ≤ count → declarations_from room count found tokens ≡ Err left → FaultyAll tokens left
  unfolding declarations_from
  faulty_all count room found [] left le fits few e = absurd cc
  faulty_all zero room found (t ∷ ts) left le fits few e = absurd (omega arith)
  faulty_all (suc count) room found (t ∷ ts) left le fits few e = by_item (declaration room (t ∷ ts)) refl e
      (λ (x : plain.Declaration) (later : List Token) (short : length later < 1 + room) (less : length later ≤ count) (h : declarations_from room count (found ++ x ∷ []) later ≡ Err left). faulty_all count room (found ++ x ∷ []) later left le short less h)
    where
      by_item : (r : Read plain.Declaration) → declaration room (t ∷ ts) ≡ r → (r >>= λ d. declarations_from room count (found ++ d.0 ∷ []) d.1) ≡ Err left
          → ((x : plain.Declaration) (later : List Token) → length later < 1 + room → length later ≤ count → declarations_from room count (found ++ x ∷ []) later ≡ Err left → FaultyAll later left) → FaultyAll (t ∷ ts) left
      by_item (Ok x) e1 e2 others =
          let f = (said (a-declaration most)).found room (t ∷ ts) x.0 x.1 le e1 in
          let short : length x.1 < 1 + room = omega (arith, ap length f.parts, length-append f.front x.1) in
          let less : length x.1 ≤ count = omega (arith, ap length f.parts, length-append f.front x.1, some_tokens x.0 f.front f.is) in
          later_one (t ∷ ts) left room x.0 x.1 le e1 (others x.0 x.1 short less e2)
      by_item (Err n) e1 e2 others = here (t ∷ ts) left room le (omega arith) fits (e1 ∙ ap (λ (n : ℕ). failed {A = plain.Declaration × List Token} n) (err_is {A = List plain.Declaration × List Token} n left e2))

  pub whole_all : (xs : List plain.Declaration) (count room : ℕ) (found : List plain.Declaration) (text : List Token) → room ≤ most → length text < 1 + room → length text ≤ count → AreTexts xs text → declarations_from room count found text ≡ Ok (found ++ xs, [])
  unfolding declarations_from
  whole_all [] count room found [] le fits few is = ap (λ (l : List plain.Declaration). done l []) (sym (append-nil found))
  whole_all [] count room found (t ∷ ts) le fits few is = absurd (omega (arith, ap length is))
  whole_all (x ∷ xs) zero room found text le fits few is = absurd (omega (arith, ap length is.parts, length-append is.front is.back, some_tokens x is.front is.first))
  whole_all (x ∷ xs) (suc count) room found text le fits few is =
      let a : length is.front < 1 + room = omega (arith, ap length is.parts, length-append is.front is.back) in
      let b : length is.back < 1 + room = omega (arith, ap length is.parts, length-append is.front is.back) in
      let c : length is.back ≤ count = omega (arith, ap length is.parts, length-append is.front is.back, some_tokens x is.front is.first) in
      let d : 1 ≤ length (is.front ++ is.back) = omega (arith, length-append is.front is.back, some_tokens x is.front is.first) in
      ap (λ (t : List Token). declarations_from room (suc count) found t) is.parts
      ∙ one room count found (is.front ++ is.back) x is.back d ((said (a-declaration most)).whole room x is.front is.back le a is.first (ends-nothing is.back))
      ∙ whole_all xs count room (found ++ x ∷ []) is.back le b c is.others
      ∙ ap (λ (l : List plain.Declaration). done l []) (append_assoc found (x ∷ []) xs)
