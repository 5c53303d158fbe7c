-- What an answer of the parser means: the definition reads exactly the programs.
use Rattle.std.proofs.Common.{◌≡◌, ℕ, zero, suc, ◌-◌, ◌+◌, ◌<◌, ◌≤◌, Bool, true, false, cond, List, [], ◌∷◌, ◌++◌, length, take, drop, Result, Ok, Err, refl, sym, ap, ap₂, subst, ◌∙◌, append_assoc, arith}
use Rattle.std.specs.Prelude.{All, nat_lt}
use Rattle.std.proofs.lemmas.List.{length-append, take_at, drop_at}
use Rattle.std.proofs.lemmas.List.Elements.{All-cons, All-nil}
use Rattle.std.proofs.lemmas.Bool.Decides.{nat_tests}
use Rattle.xanadu_lexer.specs.declared.token.Token.{Token}
use Rattle.xanadu_tree.specs.PlainTree as plain
use Rattle.xanadu_tree.specs.Pieces.{Spelled}
use Rattle.xanadu_tree.specs.Spelling.{declaration_pieces, declarations_pieces}
use Rattle.xanadu_tree.specs.Written.{AreDeclarations, PlacedDeclaration, IsAtTree, Parses}
use Rattle.xanadu_tree.specs.Nesting.{nesting}
use Rattle.xanadu_parser.specs.declared.error.ParseError.{ParseError}
use Rattle.xanadu_parser.specs.declared.error.ParseError.TheVariants as error
use Rattle.xan_read.specs.Reader.{Alike}
use Rattle.xan_read.proofs.AlikeLaws.{alike_self}
use Rattle.expression_parser.specs.Reader.{Read}
use Rattle.xanadu_parser.specs.Kinds.{kinds_of}
use Rattle.xanadu_parser.specs.Declarations.{declarations_from, declarations}
use Rattle.xanadu_parser.specs.Parsing.{first_at, fault_at, tree_or_fault, program, parsed, Answers}
use Rattle.xanadu_parser.specs.Faults.{Begins, IsFault, IsAnswer}
use Rattle.expression_parser.proofs.ProductionLaws.{spelled-append, spelled-split, spelled-none}
use Rattle.expression_parser.proofs.CommaLists.{all_parts}
use Rattle.xanadu_parser.proofs.ProgramLaws.{AreTexts, headed, found_all, FaultyAll, faulty_all, whole_all}

-- ---- declarations one after the other, in the words of the grammar

record AreSpelled (ds : List plain.Declaration) (text : List Token) : Type 0 where
  grammar : AreDeclarations ds
  placed : All PlacedDeclaration ds
  spelled : Spelled (declarations_pieces ds) text

texts_spelled : (ds : List plain.Declaration) (text : List Token) → AreTexts ds text → AreSpelled ds text
texts_spelled [] text is = record { grammar = tt; placed = All-nil PlacedDeclaration; spelled = subst (λ (l : List Token). Spelled [] l) (sym is) tt }
texts_spelled (d ∷ ds) text is = let more = texts_spelled ds is.back is.others in record {
  grammar = (is.first.fits.0, more.grammar);
  placed = All-cons PlacedDeclaration d ds is.first.fits.1 more.placed;
  spelled = subst (λ (l : List Token). Spelled (declarations_pieces (d ∷ ds)) l) (sym is.parts) (spelled-append (declaration_pieces d) (declarations_pieces ds) is.front is.back is.first.spelled more.spelled);
}

spelled_texts : (ds : List plain.Declaration) (text : List Token) → AreDeclarations ds → All PlacedDeclaration ds → Spelled (declarations_pieces ds) text → AreTexts ds text
spelled_texts [] text grammar placed h = spelled-none text h
spelled_texts (d ∷ ds) text grammar placed h =
    let p = spelled-split (declaration_pieces d) (declarations_pieces ds) text h in
    let q = all_parts PlacedDeclaration d ds placed in
    record { front = p.front; back = p.back; first = record { fits = (grammar.0, q.0); spelled = p.first }; others = spelled_texts ds p.back grammar.1 q.1 p.second; parts = p.parts }

begins_at : (ds : List plain.Declaration) (text : List Token) (end : ℕ) → AreTexts ds text → IsAtTree end ds (first_at text end)
begins_at [] text end is = ap (λ (l : List Token). first_at l end) is
begins_at (d ∷ ds) text end is = let h = headed d is.front is.first.spelled in
    ap (λ (l : List Token). first_at l end) (is.parts ∙ ap (λ (l : List Token). l ++ is.back) h.parts) ∙ h.at

at_only : (ds : List plain.Declaration) (end a b : ℕ) → IsAtTree end ds a → IsAtTree end ds b → a ≡ b
at_only [] end a b x y = x ∙ sym y
at_only (d ∷ ds) end a b x y = x ∙ sym y

abbrev tree_of : List plain.Declaration → List Token → ℕ → plain.Tree
tree_of ds text end = record { declarations = ds; at = first_at text end }

texts_parse : (ds : List plain.Declaration) (text : List Token) (end : ℕ) → AreTexts ds text → Parses text end (tree_of ds text end)
texts_parse ds text end is = let s = texts_spelled ds text is in record { grammar = s.grammar; placed = (begins_at ds text end is, s.placed); spelled = s.spelled }

parse_texts : (text : List Token) (end : ℕ) (tree : plain.Tree) → Parses text end tree → AreTexts tree.declarations text
parse_texts text end tree p = spelled_texts tree.declarations text p.grammar p.placed.1 p.spelled

-- what is spelled so is read, in any room that suffices
read_texts : (room : ℕ) (ds : List plain.Declaration) (text : List Token) → length text ≤ room → AreTexts ds text → declarations_from room (length text) [] text ≡ Ok (ds, [])
read_texts room ds text enough is = whole_all room ds (length text) room [] text (omega arith) (omega arith) (omega arith) is

-- ---- trees

tree_read : (tokens : List Token) (end : ℕ) (tree : plain.Tree) → Parses tokens end tree → program tokens end ≡ Ok tree
unfolding declarations
tree_read tokens end tree p =
    let texts = parse_texts tokens end tree p in
    let same : first_at tokens end ≡ tree.at = at_only tree.declarations end (first_at tokens end) tree.at (begins_at tree.declarations tokens end texts) p.placed.0 in
    ap (tree_or_fault tokens end) (read_texts (length tokens) tree.declarations tokens (omega arith) texts) ∙ ap (λ (n : ℕ). made_tree tree.declarations n) same
  where
    made_tree : List plain.Declaration → ℕ → Result plain.Tree ParseError
    made_tree ds at = Ok (record { declarations = ds; at = at })

abbrev answered : plain.Tree → Result plain.Tree ParseError
answered tree = Ok tree

same_tree : (a b : plain.Tree) → answered a ≡ answered b → a ≡ b
same_tree a b e = cc

-- tokens spell at most one tree
pub one_tree : (tokens : List Token) (end : ℕ) (tree other : plain.Tree) → Parses tokens end tree → Parses tokens end other → tree ≡ other
one_tree tokens end tree other p q = same_tree tree other (sym (tree_read tokens end tree p) ∙ tree_read tokens end other q)

-- ---- faults

abbrev refused : ℕ → Result plain.Tree ParseError
refused at = Err (error.Fault at)

fault_same : (a b : ℕ) → refused a ≡ refused b → a ≡ b
fault_same a b e = cc

not_both : (room count : ℕ) (text : List Token) (ds : List plain.Declaration) (left : ℕ) → declarations_from room count [] text ≡ Ok (ds, []) → declarations_from room count [] text ≡ Err left → ⊥
not_both room count text ds left a b = cc

record OneMore (tokens : List Token) (good : ℕ) : Type 0 where
  token : Token
  later : List Token
  dropped : drop good tokens ≡ token ∷ later
  taken : take (suc good) tokens ≡ take good tokens ++ token ∷ []

one_more : (tokens : List Token) (good : ℕ) → good < length tokens → OneMore tokens good
one_more [] good less = absurd (omega arith)
one_more (t ∷ ts) zero less = record { token = t; later = ts; dropped = refl; taken = refl }
one_more (t ∷ ts) (suc good) less = let r = one_more ts good (omega arith) in
    record { token = r.token; later = r.later; dropped = r.dropped; taken = ap (λ (l : List Token). t ∷ l) r.taken }

module _ (tokens : List Token) (left : ℕ) (e : declarations_from (length tokens) (length tokens) [] tokens ≡ Err left) where
  fault : (most : ℕ) → length tokens ≤ most → FaultyAll most tokens left
  fault most le = faulty_all most (length tokens) (length tokens) [] tokens left le (omega arith) (omega arith) e

  counted : (most : ℕ) (le : length tokens ≤ most) → length (fault most le).front ≡ length tokens - left
  counted most le = let f = fault most le in omega (arith, ap length f.parts, length-append f.front f.rest, f.left_is)

  front_is : (most : ℕ) (le : length tokens ≤ most) → (fault most le).front ≡ take (length tokens - left) tokens
  front_is most le = let f = fault most le in sym (ap (take (length tokens - left)) f.parts ∙ take_at f.front f.rest (length tokens - left) (counted most le))

  rest_is : (most : ℕ) (le : length tokens ≤ most) → (fault most le).rest ≡ drop (length tokens - left) tokens
  rest_is most le = let f = fault most le in sym (ap (drop (length tokens - left)) f.parts ∙ drop_at f.front f.rest (length tokens - left) (counted most le))

  -- with whatever follows that begins alike, the tokens before the fault are no program
  never : (more : List Token) → Alike (drop (length tokens - left) tokens) more → (end : ℕ) (tree : plain.Tree) → Parses (take (length tokens - left) tokens ++ more) end tree → ⊥
  never more alike end tree p =
      let text = take (length tokens - left) tokens ++ more in
      let le : length tokens ≤ length tokens + length text = omega arith in
      let f = fault (length tokens + length text) le in
      let short : length f.front < 1 + length text = omega (arith, ap length (front_is (length tokens + length text) le), length-append (take (length tokens - left) tokens) more) in
      let all : length (f.front ++ more) ≤ length text = omega (arith, ap (λ (l : List Token). length (l ++ more)) (front_is (length tokens + length text) le)) in
      let bad : declarations_from (length text) (length text) [] (f.front ++ more) ≡ Err (length more) =
      f.again (length text) (length text) [] more (omega arith) short all (subst (λ (l : List Token). Alike l more) (sym (rest_is (length tokens + length text) le)) alike) in
      let same : declarations_from (length text) (length text) [] text ≡ Err (length more) = subst (λ (l : List Token). declarations_from (length text) (length text) [] (l ++ more) ≡ Err (length more)) (front_is (length tokens + length text) le) bad in
      not_both (length text) (length text) text tree.declarations (length more) (read_texts (length text) tree.declarations text (omega arith) (parse_texts text end tree p)) same

  parted : tokens ≡ take (length tokens - left) tokens ++ drop (length tokens - left) tokens
  parted = let f = fault (length tokens) (omega arith) in f.parts ∙ ap₂ (λ (a b : List Token). a ++ b) (front_is (length tokens) (omega arith)) (rest_is (length tokens) (omega arith))

  begins : Begins (take (length tokens - left) tokens)
  begins = let f = fault (length tokens) (omega arith) in record {
    tree = tree_of f.xs (f.front ++ f.ending) 0;
    end = 0;
    ending = f.ending;
    parses = subst (λ (l : List Token). Parses (l ++ f.ending) 0 (tree_of f.xs (f.front ++ f.ending) 0)) (front_is (length tokens) (omega arith)) (texts_parse f.xs (f.front ++ f.ending) 0 f.begun);
  }

  no_more : length tokens - left < length tokens → Begins (take (suc (length tokens - left)) tokens) → ⊥
  no_more less b =
      let o = one_more tokens (length tokens - left) less in
      let text : take (suc (length tokens - left)) tokens ++ b.ending ≡ take (length tokens - left) tokens ++ (o.token ∷ b.ending) =
      ap (λ (l : List Token). l ++ b.ending) o.taken ∙ append_assoc (take (length tokens - left) tokens) (o.token ∷ []) b.ending in
      never (o.token ∷ b.ending) (subst (λ (l : List Token). Alike l (o.token ∷ b.ending)) (sym o.dropped) refl) b.end b.tree (subst (λ (l : List Token). Parses l b.end b.tree) text b.parses)

  pub is_fault : (end : ℕ) → IsFault tokens end (fault_at tokens end left)
  is_fault end = record {
    good = length tokens - left;
    within = omega arith;
    begins = begins;
    no_more = no_more;
    no_tree = λ tree p. never (drop (length tokens - left) tokens) (alike_self (drop (length tokens - left) tokens)) end tree (subst (λ (l : List Token). Parses l end tree) parted p);
    place = refl;
  }

-- ---- answers

deep : (n : ℕ) → nat_lt 64 n ≡ true → 64 < n
deep n e = grind (arith, nat_tests)

shallow : (n : ℕ) → nat_lt 64 n ≡ false → 64 < n → ⊥
shallow n e less = grind (arith, nat_tests)

module _ (tokens : List Token) (end : ℕ) where
  tree_parses : (tree : plain.Tree) (r : Read (List plain.Declaration)) → declarations_from (length tokens) (length tokens) [] tokens ≡ r → tree_or_fault tokens end r ≡ Ok tree → Parses tokens end tree
  tree_parses tree (Ok x) e1 e2 =
      let f = found_all (length tokens) (length tokens) (length tokens) [] tokens x.0 x.1 (omega arith) (omega arith) e1 in
      let same : tree_of x.0 tokens end ≡ tree = same_tree (tree_of x.0 tokens end) tree e2 in
      subst (λ (t : plain.Tree). Parses tokens end t) same (texts_parse x.0 tokens end (subst (λ (l : List plain.Declaration). AreTexts l tokens) (sym f.is) f.texts))
  tree_parses tree (Err n) e1 e2 = absurd cc

  fault_is : (at : ℕ) (r : Read (List plain.Declaration)) → declarations_from (length tokens) (length tokens) [] tokens ≡ r → tree_or_fault tokens end r ≡ Err (error.Fault at) → IsFault tokens end at
  fault_is at (Ok x) e1 e2 = absurd cc
  fault_is at (Err left) e1 e2 = subst (λ (n : ℕ). IsFault tokens end n) (fault_same (fault_at tokens end left) at e2) (is_fault tokens left e1 end)

  no_nesting : (r : Read (List plain.Declaration)) → tree_or_fault tokens end r ≡ Err error.Nesting → ⊥
  no_nesting (Ok x) e = cc
  no_nesting (Err n) e = cc

  module _ {X : Type 0} (view : X → plain.Tree) where
    by_depth : (r : Result X ParseError) (deep : Bool) → nat_lt 64 (nesting (kinds_of tokens)) ≡ deep → Answers view r (cond deep (Err error.Nesting) (program tokens end)) → IsAnswer view tokens end r
    unfolding declarations
    by_depth (Ok x) true d a = absurd cc
    by_depth (Ok x) false d a = (shallow (nesting (kinds_of tokens)) d, tree_parses (view x) (declarations_from (length tokens) (length tokens) [] tokens) refl a)
    by_depth (Err error.Nesting) true d a = deep (nesting (kinds_of tokens)) d
    by_depth (Err error.Nesting) false d a = absurd (no_nesting (declarations_from (length tokens) (length tokens) [] tokens) a)
    by_depth (Err (error.Fault at)) true d a = absurd cc
    by_depth (Err (error.Fault at)) false d a = (shallow (nesting (kinds_of tokens)) d, fault_is at (declarations_from (length tokens) (length tokens) [] tokens) refl a)
    by_depth (Err error.Memory) deep d a = tt

    pub meaning : (r : Result X ParseError) → Answers view r (parsed tokens end) → IsAnswer view tokens end r
    unfolding parsed
    meaning r a = by_depth r (nat_lt 64 (nesting (kinds_of tokens))) refl a
