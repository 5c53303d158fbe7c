-- Each expression has one whose tokens stand one behind the other from a place on, and which is the same up to offsets.
use Rattle.std.proofs.Common.{◌≡◌, ◌∙◌, sym, ap, ℕ, ◌+◌, true, false, [], ◌∷◌, ◌++◌, length, refl}
use Rattle.xanadu_lexer.specs.declared.symbol.Symbol.TheVariants as symbol
use Rattle.xanadu_lexer.specs.declared.token.TokenKind.TheVariants as kind
use Rattle.xanadu_lexer.specs.Spelling.{spelled}
use Rattle.xanadu_tree.specs.declared.tree.types.Element.{Element}
use Rattle.xanadu_tree.specs.declared.tree.types.Element.TheVariants as element
use Rattle.xanadu_tree.specs.Pieces.{mark}
use Rattle.xanadu_tree.specs.PlainTree as plain
use Rattle.xanadu_tree.specs.Spelling.{op_symbol, rel_symbol, element_piece, expression_pieces, conjunctions_pieces, conjunction_pieces, negations_pieces, negation_pieces, comparison_pieces, comparand_pieces, sum_pieces, addends_pieces, product_pieces, factors_pieces, unary_pieces, postfix_pieces, indices_pieces, primary_pieces, arguments_pieces, more_arguments_pieces}
use Rattle.xanadu_tree.specs.Unplaced.{unplaced_name, unplaced_element, unplaced_expression, unplaced_conjunctions, unplaced_conjunction, unplaced_negations, unplaced_negation, unplaced_comparison, unplaced_comparand, unplaced_sum, unplaced_addends, unplaced_product, unplaced_factors, unplaced_unary, unplaced_postfix, unplaced_indices, unplaced_primary, unplaced_expressions}
use Rattle.xanadu_tree.specs.Written.{AreArguments, IsExpression, AreConjunctions, IsConjunction, AreNegations, IsNegation, IsComparison, IsComparand, IsSum, AreAddends, IsProduct, AreFactors, IsUnary, IsPostfix, AreIndices, IsPrimary, AreExpressions, PlacedExpression, PlacedConjunctions, PlacedConjunction, PlacedNegations, PlacedNegation, PlacedComparison, PlacedComparand, PlacedSum, PlacedAddends, PlacedProduct, PlacedFactors, PlacedUnary, PlacedPostfix, PlacedIndices, PlacedPrimary, PlacedExpressions, element_at, expression_at, conjunction_at, negation_at, comparison_at, sum_at, product_at, unary_at, postfix_at, primary_at}
use Rattle.xanadu_tree.proofs.Laid.{width, Laid, Anywhere, Always, here, free, both, alike_two}

-- ---- what is asked of each kind

abbrev pub LaidExpression : ℕ → plain.Expression → Type 0
LaidExpression = Laid expression_pieces PlacedExpression IsExpression (λ e at. expression_at e ≡ at) unplaced_expression

abbrev LaidConjunctions : ℕ → plain.Conjunctions → Type 0
LaidConjunctions = Laid conjunctions_pieces PlacedConjunctions AreConjunctions Anywhere unplaced_conjunctions

abbrev LaidConjunction : ℕ → plain.Conjunction → Type 0
LaidConjunction = Laid conjunction_pieces PlacedConjunction IsConjunction (λ c at. conjunction_at c ≡ at) unplaced_conjunction

abbrev LaidNegations : ℕ → plain.Negations → Type 0
LaidNegations = Laid negations_pieces PlacedNegations AreNegations Anywhere unplaced_negations

abbrev LaidNegation : ℕ → plain.Negation → Type 0
LaidNegation = Laid negation_pieces PlacedNegation IsNegation (λ n at. negation_at n ≡ at) unplaced_negation

abbrev LaidComparison : ℕ → plain.Comparison → Type 0
LaidComparison = Laid comparison_pieces PlacedComparison IsComparison (λ c at. comparison_at c ≡ at) unplaced_comparison

abbrev LaidComparand : ℕ → plain.Comparand → Type 0
LaidComparand = Laid comparand_pieces PlacedComparand IsComparand Anywhere unplaced_comparand

abbrev LaidSum : ℕ → plain.Sum → Type 0
LaidSum = Laid sum_pieces PlacedSum IsSum (λ s at. sum_at s ≡ at) unplaced_sum

abbrev LaidAddends : ℕ → plain.Addends → Type 0
LaidAddends = Laid addends_pieces PlacedAddends AreAddends Anywhere unplaced_addends

abbrev LaidProduct : ℕ → plain.Product → Type 0
LaidProduct = Laid product_pieces PlacedProduct IsProduct (λ p at. product_at p ≡ at) unplaced_product

abbrev LaidFactors : ℕ → plain.Factors → Type 0
LaidFactors = Laid factors_pieces PlacedFactors AreFactors Anywhere unplaced_factors

abbrev LaidUnary : ℕ → plain.Unary → Type 0
LaidUnary = Laid unary_pieces PlacedUnary IsUnary (λ u at. unary_at u ≡ at) unplaced_unary

abbrev LaidPostfix : ℕ → plain.Postfix → Type 0
LaidPostfix = Laid postfix_pieces PlacedPostfix IsPostfix (λ p at. postfix_at p ≡ at) unplaced_postfix

abbrev pub LaidIndices : ℕ → plain.Indices → Type 0
LaidIndices = Laid indices_pieces PlacedIndices AreIndices Anywhere unplaced_indices

abbrev LaidPrimary : ℕ → plain.Primary → Type 0
LaidPrimary = Laid primary_pieces PlacedPrimary IsPrimary (λ p at. primary_at p ≡ at) unplaced_primary

abbrev pub LaidArguments : ℕ → plain.Expressions → Type 0
LaidArguments = Laid arguments_pieces PlacedExpressions AreExpressions Anywhere unplaced_expressions

abbrev LaidMoreArguments : ℕ → plain.Expressions → Type 0
LaidMoreArguments = Laid more_arguments_pieces PlacedExpressions AreExpressions Anywhere unplaced_expressions

pub lay_element : (at : ℕ) (x : Element) → Laid (λ e. element_piece e ∷ []) Always Always (λ e n. element_at e ≡ n) unplaced_element at x
lay_element at (element.Int _) = record { made = element.Int at; spelled = (here _ at, tt); placed = tt; is = λ h. tt; begins = refl; alike = refl }
lay_element at (element.Bool _) = record { made = element.Bool at; spelled = (here _ at, tt); placed = tt; is = λ h. tt; begins = refl; alike = refl }
lay_element at (element.Named name) =
    record { made = element.Named (record { name = name.name; at = at }); spelled = (here _ at, tt); placed = tt; is = λ h. tt; begins = refl; alike = refl }

some_arguments : (xs made : plain.Expressions) → unplaced_expressions made ≡ unplaced_expressions xs → AreArguments xs → AreArguments made
unfolding unplaced_expressions
some_arguments plain.NoExpression made alike are = absurd are
some_arguments (plain.AnExpression x xs) plain.NoExpression alike are = absurd (cc)
some_arguments (plain.AnExpression x xs) (plain.AnExpression y ys) alike are = tt

mutual
  unfolding expression_pieces PlacedExpression IsExpression unplaced_expression

  pub lay_expression : (at : ℕ) (x : plain.Expression) → LaidExpression at x
  lay_expression at (plain.ExpressionOf first rest _) =
      let one = lay_conjunction at first in
      let more = lay_conjunctions (at + width (conjunction_pieces first)) rest in
      record {
        made = plain.ExpressionOf one.made more.made at;
        spelled = both at (conjunction_pieces first) (conjunctions_pieces rest) _ _ one.spelled more.spelled;
        placed = (sym one.begins, one.placed, more.placed);
        is = λ h. (one.is h.0, more.is h.1);
        begins = refl;
        alike = alike_two (λ a b. plain.ExpressionOf a b 0) _ _ _ _ one.alike more.alike;
      }

  lay_conjunctions : (at : ℕ) (x : plain.Conjunctions) → LaidConjunctions at x
  lay_conjunctions at plain.NoConjunction = record { made = plain.NoConjunction; spelled = tt; placed = tt; is = λ h. tt; begins = tt; alike = refl }
  lay_conjunctions at (plain.AConjunction conjunction _ others) =
      let one = lay_conjunction (at + 2 + 1) conjunction in
      let more = lay_conjunctions (at + 2 + 1 + width (conjunction_pieces conjunction)) others in
      record {
        made = plain.AConjunction one.made at more.made;
        spelled = (here _ at, both (at + 2 + 1) (conjunction_pieces conjunction) (conjunctions_pieces others) _ _ one.spelled more.spelled);
        placed = (one.placed, more.placed);
        is = λ h. (one.is h.0, more.is h.1);
        begins = tt;
        alike = alike_two (λ a b. plain.AConjunction a 0 b) _ _ _ _ one.alike more.alike;
      }

  lay_conjunction : (at : ℕ) (x : plain.Conjunction) → LaidConjunction at x
  lay_conjunction at (plain.ConjunctionOf first rest _) =
      let one = lay_negation at first in
      let more = lay_negations (at + width (negation_pieces first)) rest in
      record {
        made = plain.ConjunctionOf one.made more.made at;
        spelled = both at (negation_pieces first) (negations_pieces rest) _ _ one.spelled more.spelled;
        placed = (sym one.begins, one.placed, more.placed);
        is = λ h. (one.is h.0, more.is h.1);
        begins = refl;
        alike = alike_two (λ a b. plain.ConjunctionOf a b 0) _ _ _ _ one.alike more.alike;
      }

  lay_negations : (at : ℕ) (x : plain.Negations) → LaidNegations at x
  lay_negations at plain.NoNegation = record { made = plain.NoNegation; spelled = tt; placed = tt; is = λ h. tt; begins = tt; alike = refl }
  lay_negations at (plain.ANegation negation _ others) =
      let one = lay_negation (at + 2 + 1) negation in
      let more = lay_negations (at + 2 + 1 + width (negation_pieces negation)) others in
      record {
        made = plain.ANegation one.made at more.made;
        spelled = (here _ at, both (at + 2 + 1) (negation_pieces negation) (negations_pieces others) _ _ one.spelled more.spelled);
        placed = (one.placed, more.placed);
        is = λ h. (one.is h.0, more.is h.1);
        begins = tt;
        alike = alike_two (λ a b. plain.ANegation a 0 b) _ _ _ _ one.alike more.alike;
      }

  lay_negation : (at : ℕ) (x : plain.Negation) → LaidNegation at x
  lay_negation at (plain.NegationOf true operand _) =
      let one = lay_comparison (at + 1 + 1) operand in
      record {
        made = plain.NegationOf true one.made at;
        spelled = (here _ at, one.spelled);
        placed = (tt, one.placed);
        is = one.is;
        begins = refl;
        alike = ap (λ a. plain.NegationOf true a 0) one.alike;
      }
  lay_negation at (plain.NegationOf false operand _) =
      let one = lay_comparison at operand in
      record {
        made = plain.NegationOf false one.made at;
        spelled = one.spelled;
        placed = (sym one.begins, one.placed);
        is = one.is;
        begins = refl;
        alike = ap (λ a. plain.NegationOf false a 0) one.alike;
      }

  lay_comparison : (at : ℕ) (x : plain.Comparison) → LaidComparison at x
  lay_comparison at (plain.ComparisonOf left right _) =
      let one = lay_sum at left in
      let more = lay_comparand (at + width (sum_pieces left)) right in
      record {
        made = plain.ComparisonOf one.made more.made at;
        spelled = both at (sum_pieces left) (comparand_pieces right) _ _ one.spelled more.spelled;
        placed = (sym one.begins, one.placed, more.placed);
        is = λ h. (one.is h.0, more.is h.1);
        begins = refl;
        alike = alike_two (λ a b. plain.ComparisonOf a b 0) _ _ _ _ one.alike more.alike;
      }

  lay_comparand : (at : ℕ) (x : plain.Comparand) → LaidComparand at x
  lay_comparand at plain.NoComparand = record { made = plain.NoComparand; spelled = tt; placed = tt; is = λ h. tt; begins = tt; alike = refl }
  lay_comparand at (plain.AComparand rel right) =
      let one = lay_sum (at + length (spelled (kind.Symbol (rel_symbol rel))) + 1) right in
      record {
        made = plain.AComparand rel one.made;
        spelled = (free _ at, one.spelled);
        placed = one.placed;
        is = one.is;
        begins = tt;
        alike = ap (λ a. plain.AComparand rel a) one.alike;
      }

  lay_sum : (at : ℕ) (x : plain.Sum) → LaidSum at x
  lay_sum at (plain.SumOf first rest _) =
      let one = lay_product at first in
      let more = lay_addends (at + width (product_pieces first)) rest in
      record {
        made = plain.SumOf one.made more.made at;
        spelled = both at (product_pieces first) (addends_pieces rest) _ _ one.spelled more.spelled;
        placed = (sym one.begins, one.placed, more.placed);
        is = λ h. (one.is h.0, more.is h.1);
        begins = refl;
        alike = alike_two (λ a b. plain.SumOf a b 0) _ _ _ _ one.alike more.alike;
      }

  lay_addends : (at : ℕ) (x : plain.Addends) → LaidAddends at x
  lay_addends at plain.NoAddend = record { made = plain.NoAddend; spelled = tt; placed = tt; is = λ h. tt; begins = tt; alike = refl }
  lay_addends at (plain.AnAddend op product _ others) =
      let next : ℕ = at + length (spelled (kind.Symbol (op_symbol op))) + 1 in
      let one = lay_product next product in
      let more = lay_addends (next + width (product_pieces product)) others in
      record {
        made = plain.AnAddend op one.made at more.made;
        spelled = (here _ at, both next (product_pieces product) (addends_pieces others) _ _ one.spelled more.spelled);
        placed = (one.placed, more.placed);
        is = λ h. (h.0, one.is h.1, more.is h.2);
        begins = tt;
        alike = alike_two (λ a b. plain.AnAddend op a 0 b) _ _ _ _ one.alike more.alike;
      }

  lay_product : (at : ℕ) (x : plain.Product) → LaidProduct at x
  lay_product at (plain.ProductOf first rest _) =
      let one = lay_unary at first in
      let more = lay_factors (at + width (unary_pieces first)) rest in
      record {
        made = plain.ProductOf one.made more.made at;
        spelled = both at (unary_pieces first) (factors_pieces rest) _ _ one.spelled more.spelled;
        placed = (sym one.begins, one.placed, more.placed);
        is = λ h. (one.is h.0, more.is h.1);
        begins = refl;
        alike = alike_two (λ a b. plain.ProductOf a b 0) _ _ _ _ one.alike more.alike;
      }

  lay_factors : (at : ℕ) (x : plain.Factors) → LaidFactors at x
  lay_factors at plain.NoFactor = record { made = plain.NoFactor; spelled = tt; placed = tt; is = λ h. tt; begins = tt; alike = refl }
  lay_factors at (plain.AFactor op unary _ others) =
      let next : ℕ = at + length (spelled (kind.Symbol (op_symbol op))) + 1 in
      let one = lay_unary next unary in
      let more = lay_factors (next + width (unary_pieces unary)) others in
      record {
        made = plain.AFactor op one.made at more.made;
        spelled = (here _ at, both next (unary_pieces unary) (factors_pieces others) _ _ one.spelled more.spelled);
        placed = (one.placed, more.placed);
        is = λ h. (h.0, one.is h.1, more.is h.2);
        begins = tt;
        alike = alike_two (λ a b. plain.AFactor op a 0 b) _ _ _ _ one.alike more.alike;
      }

  lay_unary : (at : ℕ) (x : plain.Unary) → LaidUnary at x
  lay_unary at (plain.UnaryOf true operand _) =
      let one = lay_postfix (at + 1 + 1) operand in
      record {
        made = plain.UnaryOf true one.made at;
        spelled = (here _ at, one.spelled);
        placed = (tt, one.placed);
        is = one.is;
        begins = refl;
        alike = ap (λ a. plain.UnaryOf true a 0) one.alike;
      }
  lay_unary at (plain.UnaryOf false operand _) =
      let one = lay_postfix at operand in
      record {
        made = plain.UnaryOf false one.made at;
        spelled = one.spelled;
        placed = (sym one.begins, one.placed);
        is = one.is;
        begins = refl;
        alike = ap (λ a. plain.UnaryOf false a 0) one.alike;
      }

  lay_postfix : (at : ℕ) (x : plain.Postfix) → LaidPostfix at x
  lay_postfix at (plain.PostfixOf primary indices _) =
      let one = lay_primary at primary in
      let more = lay_indices (at + width (primary_pieces primary)) indices in
      record {
        made = plain.PostfixOf one.made more.made at;
        spelled = both at (primary_pieces primary) (indices_pieces indices) _ _ one.spelled more.spelled;
        placed = (sym one.begins, one.placed, more.placed);
        is = λ h. (one.is h.0, more.is h.1);
        begins = refl;
        alike = alike_two (λ a b. plain.PostfixOf a b 0) _ _ _ _ one.alike more.alike;
      }

  pub lay_indices : (at : ℕ) (x : plain.Indices) → LaidIndices at x
  lay_indices at plain.NoIndex = record { made = plain.NoIndex; spelled = tt; placed = tt; is = λ h. tt; begins = tt; alike = refl }
  lay_indices at (plain.AnIndex index _ others) =
      let one = lay_expression (at + 1 + 1) index in
      let more = lay_indices (at + 1 + 1 + width (expression_pieces index) + 1 + 1) others in
      record {
        made = plain.AnIndex one.made at more.made;
        spelled = (here _ at, both (at + 1 + 1) (expression_pieces index) (mark symbol.RightBracket ∷ indices_pieces others) _ _ one.spelled (free _ _, more.spelled));
        placed = (one.placed, more.placed);
        is = λ h. (one.is h.0, more.is h.1);
        begins = tt;
        alike = alike_two (λ a b. plain.AnIndex a 0 b) _ _ _ _ one.alike more.alike;
      }

  lay_primary : (at : ℕ) (x : plain.Primary) → LaidPrimary at x
  lay_primary at (plain.Number number _) =
      record { made = plain.Number number at; spelled = (here _ at, tt); placed = tt; is = λ h. tt; begins = refl; alike = refl }
  lay_primary at (plain.Boolean truth _) =
      record { made = plain.Boolean truth at; spelled = (here _ at, tt); placed = tt; is = λ h. tt; begins = refl; alike = refl }
  lay_primary at (plain.Variable name) =
      record { made = plain.Variable (record { name = name.name; at = at }); spelled = (here _ at, tt); placed = tt; is = λ h. tt; begins = refl; alike = refl }
  lay_primary at (plain.Call function arguments) =
      let next : ℕ = at + length function.name + 1 + 1 + 1 in
      let more = lay_arguments next arguments in
      record {
        made = plain.Call (record { name = function.name; at = at }) more.made;
        spelled = (here _ at, (free _ _, both next (arguments_pieces arguments) (mark symbol.RightParen ∷ []) _ _ more.spelled (free _ _, tt)));
        placed = more.placed;
        is = more.is;
        begins = refl;
        alike = ap (λ a. plain.Call (unplaced_name function) a) more.alike;
      }
  lay_primary at (plain.Make ty arguments) =
      let next : ℕ = at + length ty.name + 1 + 1 + 1 in
      let more = lay_arguments next arguments in
      record {
        made = plain.Make (record { name = ty.name; at = at }) more.made;
        spelled = (here _ at, (free _ _, both next (arguments_pieces arguments) (mark symbol.RightParen ∷ []) _ _ more.spelled (free _ _, tt)));
        placed = more.placed;
        is = λ h. (some_arguments arguments more.made more.alike h.0, more.is h.1);
        begins = refl;
        alike = ap (λ a. plain.Make (unplaced_name ty) a) more.alike;
      }
  lay_primary at (plain.Length array _) =
      let next : ℕ = at + 3 + 1 + 1 + 1 in
      let one = lay_expression next array in
      record {
        made = plain.Length one.made at;
        spelled = (here _ at, (free _ _, both next (expression_pieces array) (mark symbol.RightParen ∷ []) _ _ one.spelled (free _ _, tt)));
        placed = one.placed;
        is = one.is;
        begins = refl;
        alike = ap (λ a. plain.Length a 0) one.alike;
      }
  lay_primary at (plain.New element length_of fill _) =
      let cell = lay_element (at + 3 + 1) element in
      let next : ℕ = at + 3 + 1 + length (spelled (element_piece element).kind) + 1 + 1 + 1 in
      let one = lay_expression next length_of in
      let then : ℕ = next + width (expression_pieces length_of) + 1 + 1 + 1 + 1 in
      let two = lay_expression then fill in
      record {
        made = plain.New cell.made one.made two.made at;
        spelled = (
          here _ at,
          (
            cell.spelled.0,
            (
              free _ _,
              both next (expression_pieces length_of) (mark symbol.RightBracket ∷ mark symbol.LeftParen ∷ (expression_pieces fill ++ (mark symbol.RightParen ∷ []))) _ _ one.spelled
                  (free _ _, (free _ _, both then (expression_pieces fill) (mark symbol.RightParen ∷ []) _ _ two.spelled (free _ _, tt))),
            ),
          ),
        );
        placed = (one.placed, two.placed);
        is = λ h. (one.is h.0, two.is h.1);
        begins = refl;
        alike = ap (λ c. plain.New c (unplaced_expression one.made) (unplaced_expression two.made) 0) cell.alike ∙ alike_two (λ a b. plain.New (unplaced_element element) a b 0) _ _ _ _ one.alike two.alike;
      }
  lay_primary at (plain.Group expression _) =
      let one = lay_expression (at + 1 + 1) expression in
      record {
        made = plain.Group one.made at;
        spelled = (here _ at, both (at + 1 + 1) (expression_pieces expression) (mark symbol.RightParen ∷ []) _ _ one.spelled (free _ _, tt));
        placed = one.placed;
        is = one.is;
        begins = refl;
        alike = ap (λ a. plain.Group a 0) one.alike;
      }

  pub lay_arguments : (at : ℕ) (x : plain.Expressions) → LaidArguments at x
  lay_arguments at plain.NoExpression = record { made = plain.NoExpression; spelled = tt; placed = tt; is = λ h. tt; begins = tt; alike = refl }
  lay_arguments at (plain.AnExpression expression others) =
      let one = lay_expression at expression in
      let more = lay_more_arguments (at + width (expression_pieces expression)) others in
      record {
        made = plain.AnExpression one.made more.made;
        spelled = both at (expression_pieces expression) (more_arguments_pieces others) _ _ one.spelled more.spelled;
        placed = (one.placed, more.placed);
        is = λ h. (one.is h.0, more.is h.1);
        begins = tt;
        alike = alike_two (λ a b. plain.AnExpression a b) _ _ _ _ one.alike more.alike;
      }

  lay_more_arguments : (at : ℕ) (x : plain.Expressions) → LaidMoreArguments at x
  lay_more_arguments at plain.NoExpression = record { made = plain.NoExpression; spelled = tt; placed = tt; is = λ h. tt; begins = tt; alike = refl }
  lay_more_arguments at (plain.AnExpression expression others) =
      let one = lay_expression (at + 1 + 1) expression in
      let more = lay_more_arguments (at + 1 + 1 + width (expression_pieces expression)) others in
      record {
        made = plain.AnExpression one.made more.made;
        spelled = (free _ at, both (at + 1 + 1) (expression_pieces expression) (more_arguments_pieces others) _ _ one.spelled more.spelled);
        placed = (one.placed, more.placed);
        is = λ h. (one.is h.0, more.is h.1);
        begins = tt;
        alike = alike_two (λ a b. plain.AnExpression a b) _ _ _ _ one.alike more.alike;
      }
