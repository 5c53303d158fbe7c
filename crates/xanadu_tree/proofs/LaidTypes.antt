-- Each quantifier, type and clause has one whose tokens stand one behind the other from a place on, and which is the same up to offsets.
use Rattle.std.proofs.Common.{◌≡◌, sym, ap, ℕ, ◌+◌, true, false, Bool as Truth, List, [], ◌∷◌, ◌++◌, length, map, Option, Some, None, All, refl}
use Rattle.std.specs.Option.{option_map}
use Rattle.std.proofs.lemmas.List.Elements.{All-nil}
use Rattle.xanadu_lexer.specs.declared.symbol.Symbol.TheVariants as symbol
use Rattle.xanadu_lexer.specs.declared.token.TokenKind.TheVariants as kind
use Rattle.xanadu_lexer.specs.Spelling.{spelled}
use Rattle.xanadu_tree.specs.declared.tree.declaration.Identifier.{Identifier}
use Rattle.xanadu_tree.specs.declared.tree.index.Binder.{Binder}
use Rattle.xanadu_tree.specs.declared.tree.index.IndexTerm.{IndexTerm}
use Rattle.xanadu_tree.specs.declared.tree.index.IndexTerm.TheVariants as index_term
use Rattle.xanadu_tree.specs.declared.tree.index.Sign.{Sign}
use Rattle.xanadu_tree.specs.Pieces.{Spelled, kinds, tokens_from, mark, with_commas, optional}
use Rattle.xanadu_tree.specs.PlainTree as plain
use Rattle.xanadu_tree.specs.Spelling.{lower, sign_symbol, index_relation_symbol, index_term_pieces, signed_pieces, index_pieces, relation_pieces, relations_pieces, binder_pieces, quantifier_pieces, element_piece, type_pieces, parameter_pieces, clause_pieces}
use Rattle.xanadu_tree.specs.Unplaced.{unplaced_name, unplaced_index_term, unplaced_signed, unplaced_index, unplaced_relation, unplaced_binder, unplaced_quantifier, unplaced_type, unplaced_parameter, unplaced_clause}
use Rattle.xanadu_tree.specs.Written.{IsSome, WhereGiven, IsQuantifier, IsClause, index_term_at, type_at, PlacedIndex, PlacedRelation, PlacedQuantifier, PlacedType, PlacedParameter, PlacedClause}
use Rattle.xanadu_tree.proofs.Laid.{width, Laid, Anywhere, Always, here, free, both, alike_two, lay_optional, lay_list}
use Rattle.xanadu_tree.proofs.LaidExpressions.{lay_element}

pub lay_name : (at : ℕ) (x : Identifier) → Laid (λ x. lower x ∷ []) Always Always Anywhere unplaced_name at x
lay_name at x = record { made = record { name = x.name; at = at }; spelled = (here _ at, tt); placed = tt; is = λ h. tt; begins = tt; alike = refl }

-- ---- index expressions

lay_index_term : (at : ℕ) (x : IndexTerm) → Laid index_term_pieces Always Always (λ t n. index_term_at t ≡ n) unplaced_index_term at x
lay_index_term at (index_term.Number number _) =
    record { made = index_term.Number number at; spelled = (here _ at, tt); placed = tt; is = λ h. tt; begins = refl; alike = refl }
lay_index_term at (index_term.Product number variable _) =
    let next : ℕ = at + length (spelled (kind.Num number)) + 1 + 1 + 1 in
    record {
      made = index_term.Product number (record { name = variable.name; at = next }) at;
      spelled = (here _ at, (free _ _, (here _ next, tt)));
      placed = tt;
      is = λ h. tt;
      begins = refl;
      alike = refl;
    }
lay_index_term at (index_term.Variable variable) =
    record { made = index_term.Variable (record { name = variable.name; at = at }); spelled = (here _ at, tt); placed = tt; is = λ h. tt; begins = refl; alike = refl }

lay_signed : (at : ℕ) (xs : List (Sign × IndexTerm)) → Laid signed_pieces Always Always Anywhere (map unplaced_signed) at xs
lay_signed at [] = record { made = []; spelled = tt; placed = tt; is = λ h. tt; begins = tt; alike = refl }
lay_signed at (t ∷ ts) =
    let next : ℕ = at + length (spelled (kind.Symbol (sign_symbol t.0))) + 1 in
    let one = lay_index_term next t.1 in
    let more = lay_signed (next + width (index_term_pieces t.1)) ts in
    record {
      made = (t.0, one.made) ∷ more.made;
      spelled = (free _ at, both next (index_term_pieces t.1) (signed_pieces ts) _ _ one.spelled more.spelled);
      placed = tt;
      is = λ h. tt;
      begins = tt;
      alike = alike_two (λ a b. (t.0, a) ∷ b) _ _ _ _ one.alike more.alike;
    }

-- an index expression, by its parts
abbrev index : Truth → IndexTerm → List (Sign × IndexTerm) → ℕ → plain.IndexExpression
index negative first rest at = record { negative = negative; first = first; rest = rest; at = at }

abbrev LaidIndex : ℕ → plain.IndexExpression → Type 0
LaidIndex = Laid index_pieces PlacedIndex Always (λ e n. e.at ≡ n) unplaced_index

lay_index_by : (at : ℕ) (negative : Truth) (first : IndexTerm) (rest : List (Sign × IndexTerm)) (was : ℕ) → LaidIndex at (index negative first rest was)
lay_index_by at true first rest was =
    let one = lay_index_term (at + 1 + 1) first in
    let more = lay_signed (at + 1 + 1 + width (index_term_pieces first)) rest in
    record {
      made = index true one.made more.made at;
      spelled = (here _ at, both (at + 1 + 1) (index_term_pieces first) (signed_pieces rest) _ _ one.spelled more.spelled);
      placed = tt;
      is = λ h. tt;
      begins = refl;
      alike = alike_two (λ a b. index true a b 0) _ _ _ _ one.alike more.alike;
    }
lay_index_by at false first rest was =
    let one = lay_index_term at first in
    let more = lay_signed (at + width (index_term_pieces first)) rest in
    record {
      made = index false one.made more.made at;
      spelled = both at (index_term_pieces first) (signed_pieces rest) _ _ one.spelled more.spelled;
      placed = sym one.begins;
      is = λ h. tt;
      begins = refl;
      alike = alike_two (λ a b. index false a b 0) _ _ _ _ one.alike more.alike;
    }

lay_index : (at : ℕ) (x : plain.IndexExpression) → LaidIndex at x
lay_index at x = lay_index_by at x.negative x.first x.rest x.at

-- ---- quantifiers

lay_relation : (at : ℕ) (x : plain.Relation) → Laid relation_pieces PlacedRelation Always Anywhere unplaced_relation at x
lay_relation at x =
    let one = lay_index at x.left in
    let next : ℕ = at + width (index_pieces x.left) + length (spelled (kind.Symbol (index_relation_symbol x.relation))) + 1 in
    let two = lay_index next x.right in
    record {
      made = record { left = one.made; relation = x.relation; right = two.made };
      spelled = both at (index_pieces x.left) (mark (index_relation_symbol x.relation) ∷ index_pieces x.right) _ _ one.spelled (free _ _, two.spelled);
      placed = (one.placed, two.placed);
      is = λ h. tt;
      begins = tt;
      alike = alike_two (λ a b. record { left = a; relation = x.relation; right = b }) _ _ _ _ one.alike two.alike;
    }

lay_relations : (at : ℕ) (xs : List plain.Relation) → Laid relations_pieces (All PlacedRelation) Always Anywhere (map unplaced_relation) at xs
lay_relations at [] = record { made = []; spelled = tt; placed = All-nil PlacedRelation; is = λ h. tt; begins = tt; alike = refl }
lay_relations at (r ∷ rs) =
    let some = lay_list relation_pieces PlacedRelation Always Anywhere unplaced_relation lay_relation (at + 1 + 1) (r ∷ rs) in
    relations_by some.made (some.is tt) some.spelled some.placed some.alike
  where
    relations_by : (made : List plain.Relation) → IsSome made → Spelled (with_commas relation_pieces made) (tokens_from (at + 1 + 1) (kinds (with_commas relation_pieces (r ∷ rs))))
        → All PlacedRelation made → map unplaced_relation made ≡ map unplaced_relation (r ∷ rs)
        → Laid relations_pieces (All PlacedRelation) Always Anywhere (map unplaced_relation) at (r ∷ rs)
    relations_by [] some are placed alike = absurd some
    relations_by (m ∷ ms) some are placed alike =
        record { made = m ∷ ms; spelled = (free _ at, are); placed = placed; is = λ h. tt; begins = tt; alike = alike }

lay_binder : (at : ℕ) (x : Binder) → Laid binder_pieces Always Always Anywhere unplaced_binder at x
lay_binder at x =
    record {
      made = record { name = record { name = x.name.name; at = at }; sort = x.sort };
      spelled = (here _ at, (free _ _, (free _ _, tt)));
      placed = tt;
      is = λ h. tt;
      begins = tt;
      alike = refl;
    }

abbrev pub LaidQuantifier : ℕ → plain.Quantifier → Type 0
LaidQuantifier = Laid quantifier_pieces PlacedQuantifier IsQuantifier (λ q n. n ≡ q.at) unplaced_quantifier

pub lay_quantifier : (at : ℕ) (x : plain.Quantifier) → LaidQuantifier at x
lay_quantifier at x =
    let one = lay_list binder_pieces Always Always Anywhere unplaced_binder lay_binder (at + 1 + 1) x.binders in
    let next : ℕ = at + 1 + 1 + width (with_commas binder_pieces x.binders) in
    let two = lay_relations next x.relations in
    record {
      made = record { binders = one.made; relations = two.made; at = at };
      spelled = (
        here _ at,
        both (at + 1 + 1) (with_commas binder_pieces x.binders) (relations_pieces x.relations ++ (mark symbol.RightBrace ∷ [])) _ _ one.spelled
            (both next (relations_pieces x.relations) (mark symbol.RightBrace ∷ []) _ _ two.spelled (free _ _, tt)),
      );
      placed = two.placed;
      is = one.is;
      begins = refl;
      alike = alike_two (λ a b. record { binders = a; relations = b; at = 0 }) _ _ _ _ one.alike two.alike;
    }

abbrev pub LaidSomeQuantifier : ℕ → Option plain.Quantifier → Type 0
LaidSomeQuantifier = Laid (optional quantifier_pieces) (WhereGiven PlacedQuantifier) (WhereGiven IsQuantifier) (λ o n. WhereGiven (λ q. n ≡ q.at) o) (option_map unplaced_quantifier)

pub lay_some_quantifier : (at : ℕ) (x : Option plain.Quantifier) → LaidSomeQuantifier at x
lay_some_quantifier = lay_optional quantifier_pieces PlacedQuantifier IsQuantifier (λ q n. n ≡ q.at) unplaced_quantifier lay_quantifier

-- ---- types

abbrev pub LaidType : ℕ → plain.WrittenType → Type 0
LaidType = Laid type_pieces PlacedType Always (λ t n. n ≡ type_at t) unplaced_type

pub lay_type : (at : ℕ) (x : plain.WrittenType) → LaidType at x
lay_type at (plain.Int _) = record { made = plain.Int at; spelled = (here _ at, tt); placed = tt; is = λ h. tt; begins = refl; alike = refl }
lay_type at (plain.IntOf e _) =
    let next : ℕ = at + 3 + 1 + 1 + 1 in
    let one = lay_index next e in
    record {
      made = plain.IntOf one.made at;
      spelled = (here _ at, (free _ _, both next (index_pieces e) (mark symbol.RightParen ∷ []) _ _ one.spelled (free _ _, tt)));
      placed = one.placed;
      is = λ h. tt;
      begins = refl;
      alike = ap (λ a. plain.IntOf a 0) one.alike;
    }
lay_type at (plain.Bool _) = record { made = plain.Bool at; spelled = (here _ at, tt); placed = tt; is = λ h. tt; begins = refl; alike = refl }
lay_type at (plain.Named name) =
    record { made = plain.Named (record { name = name.name; at = at }); spelled = (here _ at, tt); placed = tt; is = λ h. tt; begins = refl; alike = refl }
lay_type at (plain.Array element length_of) =
    let cell = lay_element at element in
    let next : ℕ = at + length (spelled (element_piece element).kind) + 1 + 1 + 1 in
    let one = lay_optional index_pieces PlacedIndex Always (λ e n. e.at ≡ n) unplaced_index lay_index next length_of in
    record {
      made = plain.Array cell.made one.made;
      spelled = (cell.spelled.0, (free _ _, both next (optional index_pieces length_of) (mark symbol.RightBracket ∷ []) _ _ one.spelled (free _ _, tt)));
      placed = one.placed;
      is = λ h. tt;
      begins = sym cell.begins;
      alike = alike_two (λ a b. plain.Array a b) _ _ _ _ cell.alike one.alike;
    }

abbrev pub LaidParameter : ℕ → plain.Parameter → Type 0
LaidParameter = Laid parameter_pieces PlacedParameter Always Anywhere unplaced_parameter

pub lay_parameter : (at : ℕ) (x : plain.Parameter) → LaidParameter at x
lay_parameter at x =
    let next : ℕ = at + length x.name.name + 1 + 1 + 1 in
    let one = lay_type next x.ty in
    record {
      made = record { name = record { name = x.name.name; at = at }; ty = one.made };
      spelled = (here _ at, (free _ _, one.spelled));
      placed = one.placed;
      is = λ h. tt;
      begins = tt;
      alike = ap (λ t. record { name = unplaced_name x.name; ty = t }) one.alike;
    }

-- ---- clauses

abbrev pub LaidClause : ℕ → plain.WrittenClause → Type 0
LaidClause = Laid clause_pieces PlacedClause IsClause Anywhere unplaced_clause

abbrev clause : Option plain.Quantifier → List plain.Parameter → ℕ → plain.WrittenClause
clause quantifier variables at = record { quantifier = quantifier; variables = variables; at = at }

lay_clause_by : (at : ℕ) (quantifier : Option plain.Quantifier) (variables : List plain.Parameter) (was : ℕ) → LaidClause at (clause quantifier variables was)
lay_clause_by at None variables was =
    let one = lay_list parameter_pieces PlacedParameter Always Anywhere unplaced_parameter lay_parameter (at + 1 + 1) variables in
    record {
      made = clause None one.made at;
      spelled = (here _ at, both (at + 1 + 1) (with_commas parameter_pieces variables) (mark symbol.RightParen ∷ []) _ _ one.spelled (free _ _, tt));
      placed = (tt, tt, one.placed);
      is = λ h. (tt, one.is h.1);
      begins = tt;
      alike = ap (λ a. clause None a 0) one.alike;
    }
lay_clause_by at (Some q) variables was =
    let one = lay_quantifier at q in
    let next : ℕ = at + width (quantifier_pieces q) + 1 + 1 in
    let two = lay_list parameter_pieces PlacedParameter Always Anywhere unplaced_parameter lay_parameter next variables in
    record {
      made = clause (Some one.made) two.made at;
      spelled = both at (quantifier_pieces q) (mark symbol.LeftParen ∷ (with_commas parameter_pieces variables ++ (mark symbol.RightParen ∷ [])))
          (quantifier_pieces one.made) (mark symbol.LeftParen ∷ (with_commas parameter_pieces two.made ++ (mark symbol.RightParen ∷ []))) one.spelled
          (free _ _, both next (with_commas parameter_pieces variables) (mark symbol.RightParen ∷ []) _ _ two.spelled (free _ _, tt));
      placed = (one.begins, one.placed, two.placed);
      is = λ h. (one.is h.0, two.is h.1);
      begins = tt;
      alike = alike_two (λ a b. clause (Some a) b 0) _ _ _ _ one.alike two.alike;
    }

pub lay_clause : (at : ℕ) (x : plain.WrittenClause) → LaidClause at x
lay_clause at x = lay_clause_by at x.quantifier x.variables x.at
