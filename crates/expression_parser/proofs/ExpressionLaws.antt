-- Each level of expressions is read exactly, over the reader of the expressions that stand in brackets.
use Rattle.std.proofs.Common.{◌≡◌, ℕ, zero, suc, true, false, List, [], ◌∷◌, ◌++◌, Option, Some, None, refl, sym, ap, append_assoc, inl, inr}
use Rattle.std.specs.Prelude.{pos}
use Rattle.xanadu_lexer.specs.declared.keyword.Keyword.TheVariants as word_of
use Rattle.xanadu_lexer.specs.declared.symbol.Symbol.TheVariants as symbol
use Rattle.xanadu_lexer.specs.declared.token.TokenKind.{TokenKind}
use Rattle.xanadu_lexer.specs.declared.token.TokenKind.TheVariants as kind
use Rattle.xanadu_tree.specs.declared.expr.Op.{Op}
use Rattle.xanadu_tree.specs.declared.expr.Rel.{Rel}
use Rattle.xanadu_tree.specs.PlainTree as plain
use Rattle.xanadu_tree.specs.PlainTreeOf.{to_conjunctions, to_negations, to_comparand, to_addends, to_factors, to_indices, to_expressions}
use Rattle.xanadu_tree.specs.Pieces.{Piece, mark as mark_piece, mark_at}
use Rattle.xanadu_tree.specs.Spelling.{expression_pieces, conjunctions_pieces, conjunction_pieces, negations_pieces, negation_pieces, comparison_pieces, comparand_pieces, sum_pieces, addends_pieces, product_pieces, factors_pieces, unary_pieces, postfix_pieces, primary_pieces, indices_pieces, arguments_pieces, more_arguments_pieces}
use Rattle.xanadu_tree.specs.Written.{IsExpression, AreConjunctions, IsConjunction, AreNegations, IsNegation, IsComparison, IsComparand, IsSum, AreAddends, IsProduct, AreFactors, IsUnary, IsPostfix, AreIndices, IsPrimary, AreArguments, AreExpressions, PlacedExpression, PlacedExpressions, PlacedConjunctions, PlacedConjunction, PlacedNegations, PlacedNegation, PlacedComparison, PlacedComparand, PlacedSum, PlacedAddends, PlacedProduct, PlacedFactors, PlacedUnary, PlacedPostfix, PlacedIndices, PlacedPrimary, primary_at, postfix_at, unary_at, product_at, sum_at, comparison_at, negation_at, conjunction_at}
use Rattle.xan_read.specs.Rooms.{Example}
use Rattle.expression_parser.specs.Reader.{Family}
use Rattle.expression_parser.specs.Expressions as read
use Rattle.expression_parser.proofs.TokenTables.{at_0, mark-at, mark-any, word-at, a-lower, an-upper, a-number, a-factor, an-addition, a-relation, marks, products, additions, relations}
use Rattle.expression_parser.proofs.Deeper.{exact-none, exact-deeper}
use Rattle.expression_parser.proofs.TokenSets.{Ends, Starts}
use Rattle.expression_parser.proofs.ProductionLaws.{Law, Formed, law-give, law-made, law-choice, law-field, law-token, law-behind, law-before, law-repeated, law-separated, law-sets, law-parts, reads}
use Rattle.expression_parser.proofs.CommaLists.{law-through}
use Rattle.expression_parser.proofs.IndexLaws.{term_heads}
use Rattle.expression_parser.proofs.TypeLaws.{left_paren, an-element}

-- ---- the lists of a tree, as lists

pub indices_of : (t : plain.Indices) → (xs : List (plain.Expression × ℕ)) × (t ≡ to_indices xs)
indices_of plain.NoIndex = ([], refl)
indices_of (plain.AnIndex e at more) = let p = indices_of more in ((e, at) ∷ p.0, ap (plain.AnIndex e at) p.1)

pub expressions_of : (t : plain.Expressions) → (xs : List plain.Expression) × (t ≡ to_expressions xs)
expressions_of plain.NoExpression = ([], refl)
expressions_of (plain.AnExpression e more) = let p = expressions_of more in (e ∷ p.0, ap (plain.AnExpression e) p.1)

factors_of : (t : plain.Factors) → (xs : List (Op × plain.Unary × ℕ)) × (t ≡ to_factors xs)
factors_of plain.NoFactor = ([], refl)
factors_of (plain.AFactor o u at more) = let p = factors_of more in ((o, u, at) ∷ p.0, ap (plain.AFactor o u at) p.1)

addends_of : (t : plain.Addends) → (xs : List (Op × plain.Product × ℕ)) × (t ≡ to_addends xs)
addends_of plain.NoAddend = ([], refl)
addends_of (plain.AnAddend o p at more) = let q = addends_of more in ((o, p, at) ∷ q.0, ap (plain.AnAddend o p at) q.1)

comparand_of : (t : plain.Comparand) → (o : Option (Rel × plain.Sum)) × (t ≡ to_comparand o)
comparand_of plain.NoComparand = (None, refl)
comparand_of (plain.AComparand r s) = (Some (r, s), refl)

negations_of : (t : plain.Negations) → (xs : List (plain.Negation × ℕ)) × (t ≡ to_negations xs)
negations_of plain.NoNegation = ([], refl)
negations_of (plain.ANegation n at more) = let p = negations_of more in ((n, at) ∷ p.0, ap (plain.ANegation n at) p.1)

conjunctions_of : (t : plain.Conjunctions) → (xs : List (plain.Conjunction × ℕ)) × (t ≡ to_conjunctions xs)
conjunctions_of plain.NoConjunction = ([], refl)
conjunctions_of (plain.AConjunction c at more) = let p = conjunctions_of more in ((c, at) ∷ p.0, ap (plain.AConjunction c at) p.1)

-- ---- what an expression begins with, and what goes on with one, level by level

abbrev primary_heads : List TokenKind
primary_heads = kind.Upper [] ∷ kind.Keyword word_of.True ∷ kind.Keyword word_of.False ∷ kind.Keyword word_of.Len ∷ kind.Keyword word_of.New ∷ kind.Symbol symbol.LeftParen ∷ term_heads

abbrev sum_heads : List TokenKind
sum_heads = kind.Symbol symbol.Minus ∷ primary_heads

abbrev pub expression_heads : List TokenKind
expression_heads = kind.Symbol symbol.Not ∷ sum_heads

abbrev pub left_bracket : List TokenKind
left_bracket = kind.Symbol symbol.LeftBracket ∷ []

abbrev postfix_stops : List TokenKind
postfix_stops = kind.Symbol symbol.LeftBracket ∷ left_paren

abbrev product_stops : List TokenKind
product_stops = marks products ++ postfix_stops

abbrev sum_stops : List TokenKind
sum_stops = marks additions ++ product_stops

abbrev comparison_stops : List TokenKind
comparison_stops = marks relations ++ sum_stops

abbrev conjunction_stops : List TokenKind
conjunction_stops = kind.Symbol symbol.And ∷ comparison_stops

abbrev pub expression_stops : List TokenKind
expression_stops = kind.Symbol symbol.Or ∷ conjunction_stops

-- ---- which expressions the grammar has

abbrev pub FitsExpression : plain.Expression → Type 0
FitsExpression e = IsExpression e × PlacedExpression e

abbrev pub FitExpressions : plain.Expressions → Type 0
FitExpressions es = AreExpressions es × PlacedExpressions es

abbrev pub FitIndices : plain.Indices → Type 0
FitIndices is = AreIndices is × PlacedIndices is

-- arguments, and the parenthesis that closes them
abbrev pub closed_arguments : plain.Expressions → List Piece
closed_arguments es = arguments_pieces es ++ (mark_piece symbol.RightParen ∷ [])

module _ {most : ℕ} {inner : Family plain.Expression} (exact : Law most false inner (λ e. e) FitsExpression expression_pieces expression_heads false expression_stops) where
  -- ---- arguments

  some-arguments : Law most false (λ room. read.some_arguments (inner room)) (λ es. es) (λ es. AreArguments (to_expressions es) × FitExpressions (to_expressions es)) (λ es. closed_arguments (to_expressions es)) expression_heads false []
  unfolding read.some_arguments read.listed AreExpressions PlacedExpressions arguments_pieces more_arguments_pieces
  some-arguments = reads (law-before (mark-any symbol.RightParen) (law-separated {AllFit = λ es. FitExpressions (to_expressions es)} {pieces = λ es. more_arguments_pieces (to_expressions es)} (mark-any symbol.Comma) exact
      (record { no_fits = (tt, tt); more_fits = λ _ e es _ f g. ((f.0, g.0), (f.1, g.1)); parts_fit = λ e es f. (0, e, refl, tt, (f.0.0, f.1.0), (f.0.1, f.1.1)); no_pieces = refl; more_pieces = λ _ _ _. refl }) refl) refl)
      (λ q f. ((tt, ((f.0.0, f.1.0), (f.0.1, f.1.1))), refl)) (elim [ [] ↦ λ f. absurd f.0 | e ∷ es ↦ λ f. ((e, es), refl, ((f.1.0.0, f.1.1.0), (f.1.0.1, f.1.1.1))) ]) refl

  pub some-or-no-arguments : Law most false (λ room. read.arguments (inner room)) (λ es. es) (λ es. FitExpressions (to_expressions es)) (λ es. closed_arguments (to_expressions es)) (kind.Symbol symbol.RightParen ∷ expression_heads) false []
  unfolding read.arguments AreExpressions PlacedExpressions arguments_pieces
  some-or-no-arguments = reads (law-choice (mark-any symbol.RightParen) (λ _. law-give []) some-arguments (λ _ _ _. refl) refl)
      (elim [ inl z ↦ λ _. ((tt, tt), refl) | inr es ↦ λ f. (f.1, refl) ]) (elim [ [] ↦ λ _. (inl (0, tt), refl, (tt, tt)) | e ∷ es ↦ λ f. (inr (e ∷ es), refl, (tt, f)) ]) refl

  -- ---- the least expressions

  in-parentheses : Law most false (λ room. read.closed (inner room)) (λ e. e) FitsExpression (λ e. expression_pieces e ++ (mark_piece symbol.RightParen ∷ [])) expression_heads false []
  unfolding read.closed
  in-parentheses = law-sets (law-before (mark-any symbol.RightParen) exact refl) refl

  a-primary : Law most true (λ room. read.primary (inner room)) (λ p. p) (λ p. IsPrimary p × PlacedPrimary p) primary_pieces primary_heads false left_paren
  unfolding read.primary read.named read.tuple read.marked read.length_of read.new_array IsPrimary PlacedPrimary primary_pieces
  a-primary = reads (law-choice a-number (λ n. law-give (plain.Number n.0 n.1))
      (law-choice a-lower (λ name. law-choice (mark-any symbol.LeftParen) (λ _. law-through expressions_of (plain.Call name) FitExpressions closed_arguments (law-made (λ es. plain.Call name (to_expressions es)) some-or-no-arguments)) (law-give (plain.Variable name)) (λ _ _ _. refl) refl)
      (law-choice an-upper (λ name. law-behind (mark-any symbol.LeftParen) (law-through expressions_of (plain.Make name) (λ es. AreArguments es × FitExpressions es) closed_arguments (law-made (λ es. plain.Make name (to_expressions es)) some-arguments)))
      (law-choice (word-at word_of.True) (λ at. law-give (plain.Boolean true at)) (law-choice (word-at word_of.False) (λ at. law-give (plain.Boolean false at))
      (law-choice (word-at word_of.Len) (λ at. law-behind (mark-any symbol.LeftParen) (law-made (λ e. plain.Length e at) in-parentheses))
      (law-choice (word-at word_of.New) (λ at. law-field an-element (λ t. law-behind (mark-any symbol.LeftBracket) (law-field exact (λ len. law-behind (mark-any symbol.RightBracket) (law-behind (mark-any symbol.LeftParen) (law-made (λ fill. plain.New t len fill at) in-parentheses))) refl)) refl)
      (law-token (mark-at symbol.LeftParen) (λ at. law-made (λ e. plain.Group e at) in-parentheses) (λ _ _ _. refl))
      (λ _ _ _. refl) refl) (λ _ _ _. refl) refl) (λ _ _ _. refl) refl) (λ _ _ _. refl) refl) (λ _ _ _. refl) refl) (λ _ _ _. refl) refl) (λ _ _ _. refl) refl)
      (elim [
        | inl q ↦ λ _. ((tt, tt), refl)
        | inr (inl (name, inl q)) ↦ λ f. (f.1.1, refl)
        | inr (inl (name, inr u)) ↦ λ _. ((tt, tt), refl)
        | inr (inr (inl q)) ↦ λ f. (((f.1.0, f.1.1.0), f.1.1.1), refl)
        | inr (inr (inr (inl q))) ↦ λ _. ((tt, tt), refl)
        | inr (inr (inr (inr (inl q)))) ↦ λ _. ((tt, tt), refl)
        | inr (inr (inr (inr (inr (inl q))))) ↦ λ f. (f.1, refl)
        | inr (inr (inr (inr (inr (inr (inl q)))))) ↦ λ f. (((f.1.1.0.0, f.1.1.1.0), (f.1.1.0.1, f.1.1.1.1)), refl)
        | inr (inr (inr (inr (inr (inr (inr q)))))) ↦ λ f. (f.1, refl)
      ])
      (elim [
        | plain.Number n at ↦ λ _. (inl ((n, at), tt), refl, (tt, tt))
        | plain.Call name es ↦ λ f. (inr (inl (name, inl (0, es))), refl, (tt, (tt, f)))
        | plain.Variable name ↦ λ _. (inr (inl (name, inr tt)), refl, (tt, tt))
        | plain.Make name es ↦ λ f. (inr (inr (inl (name, es))), refl, (tt, (f.0.0, (f.0.1, f.1))))
        | plain.Boolean true at ↦ λ _. (inr (inr (inr (inl (at, tt)))), refl, (tt, tt))
        | plain.Boolean false at ↦ λ _. (inr (inr (inr (inr (inl (at, tt))))), refl, (tt, tt))
        | plain.Length e at ↦ λ f. (inr (inr (inr (inr (inr (inl (at, e)))))), refl, (tt, f))
        | plain.New t len fill at ↦ λ f. (inr (inr (inr (inr (inr (inr (inl (at, (t, (len, fill))))))))), refl, (tt, (tt, ((f.0.0, f.1.0), (f.0.1, f.1.1)))))
        | plain.Group e at ↦ λ f. (inr (inr (inr (inr (inr (inr (inr (at, e))))))), refl, (tt, f))
      ]) refl

  -- ---- the levels

  pub some-indices : Law most true (λ room. read.indices (inner room)) (λ is. is) (λ is. FitIndices (to_indices is)) (λ is. indices_pieces (to_indices is)) left_bracket true left_bracket
  unfolding read.indices AreIndices PlacedIndices indices_pieces
  some-indices = law-repeated [] (mark-at symbol.LeftBracket) (λ at. law-made (λ e. (e, at)) (law-before (mark-any symbol.RightBracket) exact refl)) (λ _ _ _. refl) (record {
    no_fits = (tt, tt);
    more_fits = λ at e is _ f g. ((f.0, g.0), (f.1, g.1));
    parts_fit = λ i is f. (i.1, i.0, refl, tt, (f.0.0, f.1.0), (f.0.1, f.1.1));
    no_pieces = refl;
    more_pieces = λ at e is. ap (λ (p : List Piece). mark_at symbol.LeftBracket at ∷ p) (sym (append_assoc (expression_pieces e) (mark_piece symbol.RightBracket ∷ []) (indices_pieces (to_indices is))));
  }) refl

  a-postfix : Law most true (λ room. read.postfix (inner room)) (λ p. p) (λ p. IsPostfix p × PlacedPostfix p) postfix_pieces primary_heads false postfix_stops
  unfolding read.postfix IsPostfix PlacedPostfix postfix_pieces
  a-postfix = reads (law-field a-primary (λ p. law-through indices_of (λ is. plain.PostfixOf p is (primary_at p)) FitIndices indices_pieces (law-made (λ is. plain.PostfixOf p (to_indices is) (primary_at p)) some-indices)) refl) (λ z f. (((f.0.0, f.1.0), (refl, f.0.1, f.1.1)), refl))
      (elim [ plain.PostfixOf p is at ↦ λ f. ((p, is), ap (plain.PostfixOf p is) f.1.0, ((f.0.0, f.1.1), (f.0.1, f.1.2))) ]) refl

  a-unary : Law most true (λ room. read.unary (inner room)) (λ u. u) (λ u. IsUnary u × PlacedUnary u) unary_pieces sum_heads false postfix_stops
  unfolding read.unary IsUnary PlacedUnary unary_pieces
  a-unary = reads (law-choice (mark-at symbol.Minus) (λ at. law-made (λ p. plain.UnaryOf true p at) a-postfix) (law-made (λ p. plain.UnaryOf false p (postfix_at p)) a-postfix) (λ _ _ _. refl) refl)
      (elim [ inl q ↦ λ f. ((f.1.0, (tt, f.1.1)), refl) | inr p ↦ λ f. ((f.0, (refl, f.1)), refl) ])
      (elim [ plain.UnaryOf true p at ↦ λ f. (inl (at, p), refl, (tt, (f.0, f.1.1))) | plain.UnaryOf false p at ↦ λ f. (inr p, ap (plain.UnaryOf false p) f.1.0, (f.0, f.1.1)) ]) refl

  a-product : Law most true (λ room. read.product (inner room)) (λ p. p) (λ p. IsProduct p × PlacedProduct p) product_pieces sum_heads false product_stops
  unfolding read.product read.operands IsProduct PlacedProduct product_pieces AreFactors PlacedFactors factors_pieces
  a-product = reads (law-field a-unary (λ u. law-through factors_of (λ us. plain.ProductOf u us (unary_at u)) (λ us. AreFactors us × PlacedFactors us) factors_pieces (law-made (λ us. plain.ProductOf u (to_factors us) (unary_at u))
      (law-repeated [] a-factor (λ o. law-made (λ u. (o.0, u, o.1)) a-unary) (λ _ _ _. refl)
      (record { no_fits = (tt, tt); more_fits = λ o u us h f g. ((h, f.0, g.0), (f.1, g.1)); parts_fit = λ x xs f. ((x.0, x.2), x.1, refl, f.0.0, (f.0.1, f.1.0), (f.0.2, f.1.1)); no_pieces = refl; more_pieces = λ _ _ _. refl }) refl))) refl)
      (λ z f. (((f.0.0, f.1.0), (refl, f.0.1, f.1.1)), refl)) (elim [ plain.ProductOf u us at ↦ λ f. ((u, us), ap (plain.ProductOf u us) f.1.0, ((f.0.0, f.1.1), (f.0.1, f.1.2))) ]) refl

  a-sum : Law most true (λ room. read.sum (inner room)) (λ s. s) (λ s. IsSum s × PlacedSum s) sum_pieces sum_heads false sum_stops
  unfolding read.sum read.products IsSum PlacedSum sum_pieces AreAddends PlacedAddends addends_pieces
  a-sum = reads (law-field a-product (λ p. law-through addends_of (λ ps. plain.SumOf p ps (product_at p)) (λ ps. AreAddends ps × PlacedAddends ps) addends_pieces (law-made (λ ps. plain.SumOf p (to_addends ps) (product_at p))
      (law-repeated [] an-addition (λ o. law-made (λ p. (o.0, p, o.1)) a-product) (λ _ _ _. refl)
      (record { no_fits = (tt, tt); more_fits = λ o u us h f g. ((h, f.0, g.0), (f.1, g.1)); parts_fit = λ x xs f. ((x.0, x.2), x.1, refl, f.0.0, (f.0.1, f.1.0), (f.0.2, f.1.1)); no_pieces = refl; more_pieces = λ _ _ _. refl }) refl))) refl)
      (λ z f. (((f.0.0, f.1.0), (refl, f.0.1, f.1.1)), refl)) (elim [ plain.SumOf p ps at ↦ λ f. ((p, ps), ap (plain.SumOf p ps) f.1.0, ((f.0.0, f.1.1), (f.0.1, f.1.2))) ]) refl

  a-comparison : Law most true (λ room. read.comparison (inner room)) (λ c. c) (λ c. IsComparison c × PlacedComparison c) comparison_pieces sum_heads false comparison_stops
  unfolding read.comparison read.compared IsComparison PlacedComparison comparison_pieces IsComparand PlacedComparand comparand_pieces
  a-comparison = reads (law-field a-sum (λ s. law-through comparand_of (λ c. plain.ComparisonOf s c (sum_at s)) (λ c. IsComparand c × PlacedComparand c) comparand_pieces (law-made (λ c. plain.ComparisonOf s (to_comparand c) (sum_at s))
      (law-parts (law-choice a-relation (λ r. law-made Some (law-made (λ s. (r.0, s)) a-sum)) (law-give None) (λ _ _ _. refl) refl)
      (elim [ inl q ↦ λ f. (Some (q.0.0, q.1), refl, f.1, refl) | inr u ↦ λ _. (None, refl, (tt, tt), refl) ]) (elim [ Some c ↦ λ f. (inl ((c.0, 0), c.1), refl, (tt, f), refl) | None ↦ λ _. (inr tt, refl, tt, refl) ])))) refl)
      (λ z f. (((f.0.0, f.1.0), (refl, f.0.1, f.1.1)), refl)) (elim [ plain.ComparisonOf s c at ↦ λ f. ((s, c), ap (plain.ComparisonOf s c) f.1.0, ((f.0.0, f.1.1), (f.0.1, f.1.2))) ]) refl

  a-negation : Law most true (λ room. read.negation (inner room)) (λ n. n) (λ n. IsNegation n × PlacedNegation n) negation_pieces expression_heads false comparison_stops
  unfolding read.negation IsNegation PlacedNegation negation_pieces
  a-negation = reads (law-choice (mark-at symbol.Not) (λ at. law-made (λ c. plain.NegationOf true c at) a-comparison) (law-made (λ c. plain.NegationOf false c (comparison_at c)) a-comparison) (λ _ _ _. refl) refl)
      (elim [ inl q ↦ λ f. ((f.1.0, (tt, f.1.1)), refl) | inr c ↦ λ f. ((f.0, (refl, f.1)), refl) ])
      (elim [ plain.NegationOf true c at ↦ λ f. (inl (at, c), refl, (tt, (f.0, f.1.1))) | plain.NegationOf false c at ↦ λ f. (inr c, ap (plain.NegationOf false c) f.1.0, (f.0, f.1.1)) ]) refl

  a-conjunction : Law most true (λ room. read.conjunction (inner room)) (λ c. c) (λ c. IsConjunction c × PlacedConjunction c) conjunction_pieces expression_heads false conjunction_stops
  unfolding read.conjunction read.negations IsConjunction PlacedConjunction conjunction_pieces AreNegations PlacedNegations negations_pieces
  a-conjunction = reads (law-field a-negation (λ n. law-through negations_of (λ ns. plain.ConjunctionOf n ns (negation_at n)) (λ ns. AreNegations ns × PlacedNegations ns) negations_pieces (law-made (λ ns. plain.ConjunctionOf n (to_negations ns) (negation_at n))
      (law-repeated [] (mark-at symbol.And) (λ at. law-made (λ n. (n, at)) a-negation) (λ _ _ _. refl)
      (record { no_fits = (tt, tt); more_fits = λ _ n ns _ f g. ((f.0, g.0), (f.1, g.1)); parts_fit = λ x xs f. (x.1, x.0, refl, tt, (f.0.0, f.1.0), (f.0.1, f.1.1)); no_pieces = refl; more_pieces = λ _ _ _. refl }) refl))) refl)
      (λ z f. (((f.0.0, f.1.0), (refl, f.0.1, f.1.1)), refl)) (elim [ plain.ConjunctionOf n ns at ↦ λ f. ((n, ns), ap (plain.ConjunctionOf n ns) f.1.0, ((f.0.0, f.1.1), (f.0.1, f.1.2))) ]) refl

  pub a-disjunction : Law most true (λ room. read.disjunction (inner room)) (λ e. e) FitsExpression expression_pieces expression_heads false expression_stops
  unfolding read.disjunction read.conjunctions IsExpression PlacedExpression expression_pieces AreConjunctions PlacedConjunctions conjunctions_pieces
  a-disjunction = reads (law-field a-conjunction (λ c. law-through conjunctions_of (λ cs. plain.ExpressionOf c cs (conjunction_at c)) (λ cs. AreConjunctions cs × PlacedConjunctions cs) conjunctions_pieces (law-made (λ cs. plain.ExpressionOf c (to_conjunctions cs) (conjunction_at c))
      (law-repeated [] (mark-at symbol.Or) (λ at. law-made (λ c. (c, at)) a-conjunction) (λ _ _ _. refl)
      (record { no_fits = (tt, tt); more_fits = λ _ c cs _ f g. ((f.0, g.0), (f.1, g.1)); parts_fit = λ x xs f. (x.1, x.0, refl, tt, (f.0.0, f.1.0), (f.0.1, f.1.1)); no_pieces = refl; more_pieces = λ _ _ _. refl }) refl))) refl)
      (λ z f. (((f.0.0, f.1.0), (refl, f.0.1, f.1.1)), refl)) (elim [ plain.ExpressionOf c cs at ↦ λ f. ((c, cs), ap (plain.ExpressionOf c cs) f.1.0, ((f.0.0, f.1.1), (f.0.1, f.1.2))) ]) refl

-- ---- expressions that nest

starts-expression : (e : plain.Expression) → Starts expression_heads false (expression_pieces e)
unfolding expression_pieces conjunction_pieces negation_pieces comparison_pieces sum_pieces product_pieces unary_pieces postfix_pieces primary_pieces
starts-expression (plain.ExpressionOf (plain.ConjunctionOf (plain.NegationOf true c _) _ _) _ _) = refl
starts-expression (plain.ExpressionOf (plain.ConjunctionOf (plain.NegationOf false (plain.ComparisonOf (plain.SumOf (plain.ProductOf (plain.UnaryOf true p _) _ _) _ _) _ _) _) _ _) _ _) = refl
starts-expression (plain.ExpressionOf (plain.ConjunctionOf (plain.NegationOf false (plain.ComparisonOf (plain.SumOf (plain.ProductOf (plain.UnaryOf false (plain.PostfixOf (plain.Boolean true at) _ _) _) _ _) _ _) _ _) _) _ _) _ _) = refl
starts-expression (plain.ExpressionOf (plain.ConjunctionOf (plain.NegationOf false (plain.ComparisonOf (plain.SumOf (plain.ProductOf (plain.UnaryOf false (plain.PostfixOf (plain.Boolean false at) _ _) _) _ _) _ _) _ _) _) _ _) _ _) = refl
starts-expression (plain.ExpressionOf (plain.ConjunctionOf (plain.NegationOf false (plain.ComparisonOf (plain.SumOf (plain.ProductOf (plain.UnaryOf false (plain.PostfixOf p _ _) _) _ _) _ _) _ _) _) _ _) _ _) = refl

-- the number 0
zero_said : Example (Formed (λ e. e) FitsExpression expression_pieces)
unfolding expression_pieces conjunction_pieces negation_pieces comparison_pieces sum_pieces product_pieces unary_pieces postfix_pieces primary_pieces indices_pieces factors_pieces addends_pieces comparand_pieces negations_pieces conjunctions_pieces IsExpression IsConjunction IsNegation IsComparison IsSum IsProduct IsUnary IsPostfix IsPrimary AreIndices AreFactors AreAddends IsComparand AreNegations AreConjunctions PlacedExpression PlacedConjunction PlacedNegation PlacedComparison PlacedSum PlacedProduct PlacedUnary PlacedPostfix PlacedPrimary PlacedIndices PlacedFactors PlacedAddends PlacedComparand PlacedNegations PlacedConjunctions
zero_said = record {
  value = plain.ExpressionOf (plain.ConjunctionOf (plain.NegationOf false (plain.ComparisonOf (plain.SumOf (plain.ProductOf (plain.UnaryOf false (plain.PostfixOf (plain.Number (pos 0) 0) plain.NoIndex 0) 0) plain.NoFactor 0) plain.NoAddend 0) plain.NoComparand 0) 0) plain.NoNegation 0) plain.NoConjunction 0;
  text = at_0 (kind.Num (pos 0)) ∷ [];
  is = record {
    parts = _;
    is = refl;
    fits = (((((((tt, tt), tt), tt), tt), tt), tt), (refl, (refl, (refl, (refl, (refl, (refl, (refl, (refl, tt, tt)), tt), tt), tt)), tt), tt));
    spelled = (record { kind = refl; at = refl }, tt);
  };
}

pub an-expression : (most : ℕ) → Law most false read.expression (λ e. e) FitsExpression expression_pieces expression_heads false expression_stops
unfolding read.expression
an-expression zero = record { exact = exact-none read.expression (Formed (λ e. e) FitsExpression expression_pieces) (Ends expression_stops) zero_said (λ _. refl); starts = λ e _. starts-expression e }
an-expression (suc most) = record {
  exact = exact-deeper most read.expression (λ room. read.disjunction (read.expression room)) (Formed (λ e. e) FitsExpression expression_pieces) (Ends expression_stops) (a-disjunction (an-expression most)).exact (λ _. refl) (λ _ _. refl);
  starts = λ e _. starts-expression e;
}
