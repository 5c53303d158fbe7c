-- Each statement, declaration and tree has one whose tokens stand one behind the other from a place on, and which is the same up to
-- offsets. So what is printed of a tree is read as that tree.
use Rattle.std.proofs.Common.{◌≡◌, ◌∙◌, sym, ap, ℕ, ◌+◌, List, [], ◌∷◌, ◌++◌, length, map, Option, Some, None, All, refl}
use Rattle.std.specs.Option.{option_map}
use Rattle.std.proofs.lemmas.List.Elements.{All-cons, All-nil}
use Rattle.xanadu_lexer.specs.declared.keyword.Keyword.{Keyword}
use Rattle.xanadu_lexer.specs.declared.keyword.Keyword.TheVariants as keyword
use Rattle.xanadu_lexer.specs.declared.symbol.Symbol.TheVariants as symbol
use Rattle.xanadu_lexer.specs.Spelling.{keyword_text}
use Rattle.xanadu_tree.specs.declared.tree.declaration.Identifier.{Identifier}
use Rattle.xanadu_tree.specs.Pieces.{kinds, tokens_from, mark, with_commas, optional}
use Rattle.xanadu_tree.specs.PlainTree as plain
use Rattle.xanadu_tree.specs.Printing.{printed}
use Rattle.xanadu_tree.specs.Spelling.{lower, semicolon, quantifier_pieces, type_pieces, parameter_pieces, clause_behind, expression_pieces, indices_pieces, arguments_pieces, statement_pieces, branch_pieces, block_pieces, statements_pieces, type_body_pieces, type_declaration_pieces, result_pieces, function_pieces, declaration_pieces, declarations_pieces, pieces}
use Rattle.xanadu_tree.specs.Unplaced.{unplaced_name, unplaced_quantifier, unplaced_type, unplaced_parameter, unplaced_clause, unplaced_expression, unplaced_statement, unplaced_branch, unplaced_block, unplaced_statements, unplaced_type_body, unplaced_type_declaration, unplaced_result, unplaced_function, unplaced_declaration, unplaced, ReadsAlike}
use Rattle.xanadu_tree.specs.Written.{IsSome, WhereGiven, IsClause, IsExpression, IsStatement, IsBranch, IsBlock, AreStatements, IsTypeBody, IsTypeDeclaration, IsResult, IsFunction, IsDeclaration, AreDeclarations, IsTree, IsWritten, expression_at, declaration_at, PlacedType, PlacedParameter, PlacedClause, PlacedExpression, PlacedStatement, PlacedBranch, PlacedBlock, PlacedStatements, PlacedTypeBody, PlacedTypeDeclaration, PlacedResult, PlacedFunction, PlacedDeclaration, PlacedTree}
use Rattle.xanadu_tree.proofs.Laid.{width, Laid, Anywhere, Always, here, free, both, alike_two, alike_three, lay_optional, lay_list}
use Rattle.xanadu_tree.proofs.LaidExpressions.{lay_expression, lay_indices, lay_arguments}
use Rattle.xanadu_tree.proofs.LaidTypes.{lay_name, lay_some_quantifier, lay_quantifier, lay_type, lay_parameter, lay_clause}
use Rattle.xanadu_tree.proofs.ReadBack.{printed-read_back}

-- ---- statements

lay_clause_behind : (keyword : Keyword) (at : ℕ) (x : plain.WrittenClause) → Laid (clause_behind keyword) PlacedClause IsClause Anywhere unplaced_clause at x
lay_clause_behind keyword at x =
    let one = lay_clause (at + length (keyword_text keyword) + 1) x in
    record { made = one.made; spelled = (free _ at, one.spelled); placed = one.placed; is = one.is; begins = tt; alike = one.alike }

lay_some_clause : (keyword : Keyword) (at : ℕ) (x : Option plain.WrittenClause)
    → Laid (optional (clause_behind keyword)) (WhereGiven PlacedClause) (WhereGiven IsClause) (λ o n. WhereGiven (λ y. Unit {0}) o) (option_map unplaced_clause) at x
lay_some_clause keyword = lay_optional (clause_behind keyword) PlacedClause IsClause Anywhere unplaced_clause (lay_clause_behind keyword)

lay_some_expression : (at : ℕ) (x : Option plain.Expression)
    → Laid (optional expression_pieces) (WhereGiven PlacedExpression) (WhereGiven IsExpression) (λ o n. WhereGiven (λ e. expression_at e ≡ n) o) (option_map unplaced_expression) at x
lay_some_expression = lay_optional expression_pieces PlacedExpression IsExpression (λ e n. expression_at e ≡ n) unplaced_expression lay_expression

lay_names : (at : ℕ) (xs : List Identifier) → Laid (with_commas (λ x. lower x ∷ [])) (All Always) IsSome Anywhere (map unplaced_name) at xs
lay_names = lay_list (λ x. lower x ∷ []) Always Always Anywhere unplaced_name lay_name

abbrev LaidStatement : ℕ → plain.Statement → Type 0
LaidStatement = Laid statement_pieces PlacedStatement IsStatement Anywhere unplaced_statement

abbrev LaidBranch : ℕ → plain.Branch → Type 0
LaidBranch = Laid branch_pieces PlacedBranch IsBranch Anywhere unplaced_branch

abbrev LaidBlock : ℕ → plain.Block → Type 0
LaidBlock = Laid block_pieces PlacedBlock IsBlock Anywhere unplaced_block

abbrev LaidStatements : ℕ → plain.Statements → Type 0
LaidStatements = Laid statements_pieces PlacedStatements AreStatements Anywhere unplaced_statements

mutual
  unfolding statement_pieces PlacedStatement IsStatement unplaced_statement

  lay_statement : (at : ℕ) (x : plain.Statement) → LaidStatement at x
  lay_statement at (plain.Declare name value _) =
      let named : ℕ = at + 3 + 1 in
      let next : ℕ = named + length name.name + 1 + 1 + 1 in
      let one = lay_expression next value in
      record {
        made = plain.Declare (record { name = name.name; at = named }) one.made at;
        spelled = (here _ at, (here _ named, (free _ _, both next (expression_pieces value) semicolon _ _ one.spelled (free _ _, tt))));
        placed = one.placed;
        is = one.is;
        begins = tt;
        alike = ap (λ a. plain.Declare (unplaced_name name) a 0) one.alike;
      }
  lay_statement at (plain.Split names value _) =
      let next : ℕ = at + 3 + 1 + 1 + 1 in
      let one = lay_names next names in
      let then : ℕ = next + width (with_commas (λ x. lower x ∷ []) names) + 1 + 1 + 1 + 1 in
      let two = lay_expression then value in
      record {
        made = plain.Split one.made two.made at;
        spelled = (
          here _ at,
          (
            free _ _,
            both next (with_commas (λ x. lower x ∷ []) names) (mark symbol.RightParen ∷ mark symbol.Equal ∷ (expression_pieces value ++ semicolon)) _ _ one.spelled
                (free _ _, (free _ _, both then (expression_pieces value) semicolon _ _ two.spelled (free _ _, tt))),
          ),
        );
        placed = two.placed;
        is = λ h. (one.is h.0, two.is h.1);
        begins = tt;
        alike = alike_two (λ a b. plain.Split a b 0) _ _ _ _ one.alike two.alike;
      }
  lay_statement at (plain.Assign target indices value) =
      let next : ℕ = at + length target.name + 1 in
      let one = lay_indices next indices in
      let then : ℕ = next + width (indices_pieces indices) + 1 + 1 in
      let two = lay_expression then value in
      record {
        made = plain.Assign (record { name = target.name; at = at }) one.made two.made;
        spelled = (
          here _ at,
          both next (indices_pieces indices) (mark symbol.Equal ∷ (expression_pieces value ++ semicolon)) _ _ one.spelled
              (free _ _, both then (expression_pieces value) semicolon _ _ two.spelled (free _ _, tt)),
        );
        placed = (one.placed, two.placed);
        is = λ h. (one.is h.0, two.is h.1);
        begins = tt;
        alike = alike_two (λ a b. plain.Assign (unplaced_name target) a b) _ _ _ _ one.alike two.alike;
      }
  lay_statement at (plain.Do function arguments) =
      let next : ℕ = at + length function.name + 1 + 1 + 1 in
      let one = lay_arguments next arguments in
      record {
        made = plain.Do (record { name = function.name; at = at }) one.made;
        spelled = (here _ at, (free _ _, both next (arguments_pieces arguments) (mark symbol.RightParen ∷ semicolon) _ _ one.spelled (free _ _, (free _ _, tt))));
        placed = one.placed;
        is = one.is;
        begins = tt;
        alike = ap (λ a. plain.Do (unplaced_name function) a) one.alike;
      }
  lay_statement at (plain.Print value _) =
      let next : ℕ = at + 5 + 1 in
      let one = lay_expression next value in
      record {
        made = plain.Print one.made at;
        spelled = (here _ at, both next (expression_pieces value) semicolon _ _ one.spelled (free _ _, tt));
        placed = one.placed;
        is = one.is;
        begins = tt;
        alike = ap (λ a. plain.Print a 0) one.alike;
      }
  lay_statement at (plain.If test on_true on_false join _) =
      let tested : ℕ = at + 2 + 1 + 1 + 1 in
      let one = lay_expression tested test in
      let block_at : ℕ = tested + width (expression_pieces test) + 1 + 1 in
      let two = lay_block block_at on_true in
      let else_at : ℕ = block_at + width (block_pieces on_true) in
      let three = lay_branch else_at on_false in
      let join_at : ℕ = else_at + width (branch_pieces on_false) in
      let four = lay_some_clause keyword.Join join_at join in
      record {
        made = plain.If one.made two.made three.made four.made at;
        spelled = (
          here _ at,
          (
            free _ _,
            both tested (expression_pieces test) (mark symbol.RightParen ∷ (block_pieces on_true ++ (branch_pieces on_false ++ optional (clause_behind keyword.Join) join))) _ _ one.spelled (
              free _ _,
              both block_at (block_pieces on_true) (branch_pieces on_false ++ optional (clause_behind keyword.Join) join) (block_pieces two.made) (branch_pieces three.made ++ optional (clause_behind keyword.Join) four.made) two.spelled
                  (both else_at (branch_pieces on_false) (optional (clause_behind keyword.Join) join) (branch_pieces three.made) (optional (clause_behind keyword.Join) four.made) three.spelled four.spelled),
            ),
          ),
        );
        placed = (one.placed, two.placed, three.placed, four.placed);
        is = λ h. (one.is h.0, two.is h.1, three.is h.2, four.is h.3);
        begins = tt;
        alike = alike_two (λ a b. plain.If a b (unplaced_branch three.made) (option_map unplaced_clause four.made) 0) _ _ _ _ one.alike two.alike
            ∙ alike_two (λ a b. plain.If (unplaced_expression test) (unplaced_block on_true) a b 0) _ _ _ _ three.alike four.alike;
      }
  lay_statement at (plain.While test head body _) =
      let tested : ℕ = at + 5 + 1 + 1 + 1 in
      let one = lay_expression tested test in
      let head_at : ℕ = tested + width (expression_pieces test) + 1 + 1 in
      let two = lay_some_clause keyword.With head_at head in
      let block_at : ℕ = head_at + width (optional (clause_behind keyword.With) head) in
      let three = lay_block block_at body in
      record {
        made = plain.While one.made two.made three.made at;
        spelled = (
          here _ at,
          (
            free _ _,
            both tested (expression_pieces test) (mark symbol.RightParen ∷ (optional (clause_behind keyword.With) head ++ block_pieces body)) _ _ one.spelled
                (free _ _, both head_at (optional (clause_behind keyword.With) head) (block_pieces body) (optional (clause_behind keyword.With) two.made) (block_pieces three.made) two.spelled three.spelled),
          ),
        );
        placed = (one.placed, two.placed, three.placed);
        is = λ h. (one.is h.0, two.is h.1, three.is h.2);
        begins = tt;
        alike = alike_three (λ a b c. plain.While a b c 0) _ _ _ _ _ _ one.alike two.alike three.alike;
      }
  lay_statement at (plain.Return value _) =
      let next : ℕ = at + 6 + 1 in
      let one = lay_some_expression next value in
      record {
        made = plain.Return one.made at;
        spelled = (here _ at, both next (optional expression_pieces value) semicolon (optional expression_pieces one.made) semicolon one.spelled (free _ _, tt));
        placed = one.placed;
        is = one.is;
        begins = tt;
        alike = ap (λ a. plain.Return a 0) one.alike;
      }

  lay_branch : (at : ℕ) (x : plain.Branch) → LaidBranch at x
  lay_branch at plain.NoBranch = record { made = plain.NoBranch; spelled = tt; placed = tt; is = λ h. tt; begins = tt; alike = refl }
  lay_branch at (plain.ABranch block) =
      let one = lay_block (at + 4 + 1) block in
      record {
        made = plain.ABranch one.made;
        spelled = (free _ at, one.spelled);
        placed = one.placed;
        is = one.is;
        begins = tt;
        alike = ap (λ a. plain.ABranch a) one.alike;
      }

  lay_block : (at : ℕ) (x : plain.Block) → LaidBlock at x
  lay_block at (plain.BlockOf statements _) =
      let one = lay_statements (at + 1 + 1) statements in
      record {
        made = plain.BlockOf one.made at;
        spelled = (here _ at, both (at + 1 + 1) (statements_pieces statements) (mark symbol.RightBrace ∷ []) _ _ one.spelled (free _ _, tt));
        placed = one.placed;
        is = one.is;
        begins = tt;
        alike = ap (λ a. plain.BlockOf a 0) one.alike;
      }

  lay_statements : (at : ℕ) (x : plain.Statements) → LaidStatements at x
  lay_statements at plain.NoStatement = record { made = plain.NoStatement; spelled = tt; placed = tt; is = λ h. tt; begins = tt; alike = refl }
  lay_statements at (plain.AStatement statement others) =
      let one = lay_statement at statement in
      let more = lay_statements (at + width (statement_pieces statement)) others in
      record {
        made = plain.AStatement one.made more.made;
        spelled = both at (statement_pieces statement) (statements_pieces others) _ _ one.spelled more.spelled;
        placed = (one.placed, more.placed);
        is = λ h. (one.is h.0, more.is h.1);
        begins = tt;
        alike = alike_two (λ a b. plain.AStatement a b) _ _ _ _ one.alike more.alike;
      }

-- ---- declarations

lay_type_body : (at : ℕ) (x : plain.TypeBody) → Laid type_body_pieces PlacedTypeBody IsTypeBody Anywhere unplaced_type_body at x
lay_type_body at (plain.Cell cell) =
    let one = lay_type at cell in
    record { made = plain.Cell one.made; spelled = one.spelled; placed = one.placed; is = λ h. tt; begins = tt; alike = ap (λ a. plain.Cell a) one.alike }
lay_type_body at (plain.Tuple parts) =
    let next : ℕ = at + 1 + 1 in
    let one = lay_list type_pieces PlacedType Always _ unplaced_type lay_type next parts in
    record {
      made = plain.Tuple one.made;
      spelled = (free _ at, both next (with_commas type_pieces parts) (mark symbol.RightParen ∷ []) (with_commas type_pieces one.made) (mark symbol.RightParen ∷ []) one.spelled (free _ _, tt));
      placed = one.placed;
      is = one.is;
      begins = tt;
      alike = ap (λ a. plain.Tuple a) one.alike;
    }

lay_type_declaration : (at : ℕ) (x : plain.TypeDeclaration) → Laid type_declaration_pieces PlacedTypeDeclaration IsTypeDeclaration (λ d n. d.at ≡ n) unplaced_type_declaration at x
lay_type_declaration at x =
    let named : ℕ = at + 4 + 1 in
    let next : ℕ = named + length x.name.name + 1 + 1 + 1 in
    let one = lay_some_quantifier next x.quantifier in
    let then : ℕ = next + width (optional quantifier_pieces x.quantifier) in
    let two = lay_type_body then x.body in
    record {
      made = record { name = record { name = x.name.name; at = named }; quantifier = one.made; body = two.made; at = at };
      spelled = (
        here _ at,
        (
          here _ named,
          (
            free _ _,
            both next (optional quantifier_pieces x.quantifier) (type_body_pieces x.body ++ semicolon) (optional quantifier_pieces one.made) (type_body_pieces two.made ++ semicolon) one.spelled
                (both then (type_body_pieces x.body) semicolon (type_body_pieces two.made) semicolon two.spelled (free _ _, tt)),
          ),
        ),
      );
      placed = (one.placed, two.placed);
      is = λ h. (one.is h.0, two.is h.1);
      begins = refl;
      alike = alike_two (λ a b. record { name = unplaced_name x.name; quantifier = a; body = b; at = 0 }) _ _ _ _ one.alike two.alike;
    }

lay_result : (at : ℕ) (x : plain.ResultType) → Laid result_pieces PlacedResult IsResult Anywhere unplaced_result at x
lay_result at (plain.NoValue _) = record { made = plain.NoValue at; spelled = (here _ at, tt); placed = tt; is = λ h. tt; begins = tt; alike = refl }
lay_result at (plain.AValue None value _) =
    let one = lay_type at value in
    record {
      made = plain.AValue None one.made at;
      spelled = one.spelled;
      placed = (one.begins, tt, one.placed);
      is = λ h. tt;
      begins = tt;
      alike = ap (λ a. plain.AValue None a 0) one.alike;
    }
lay_result at (plain.AValue (Some q) value _) =
    let one = lay_quantifier at q in
    let two = lay_type (at + width (quantifier_pieces q)) value in
    record {
      made = plain.AValue (Some one.made) two.made at;
      spelled = both at (quantifier_pieces q) (type_pieces value) (quantifier_pieces one.made) (type_pieces two.made) one.spelled two.spelled;
      placed = (one.begins, one.placed, two.placed);
      is = one.is;
      begins = tt;
      alike = alike_two (λ a b. plain.AValue (Some a) b 0) _ _ _ _ one.alike two.alike;
    }

lay_function : (at : ℕ) (x : plain.FunctionDeclaration) → Laid function_pieces PlacedFunction IsFunction (λ f n. f.at ≡ n) unplaced_function at x
lay_function at x =
    let named : ℕ = at + 3 + 1 in
    let next : ℕ = named + length x.name.name + 1 in
    let one = lay_some_quantifier next x.quantifier in
    let params_at : ℕ = next + width (optional quantifier_pieces x.quantifier) + 1 + 1 in
    let two = lay_list parameter_pieces PlacedParameter Always Anywhere unplaced_parameter lay_parameter params_at x.parameters in
    let result_at : ℕ = params_at + width (with_commas parameter_pieces x.parameters) + 1 + 1 + 1 + 1 in
    let three = lay_result result_at x.result in
    let block_at : ℕ = result_at + width (result_pieces x.result) in
    let four = lay_block block_at x.body in
    record {
      made = record { name = record { name = x.name.name; at = named }; quantifier = one.made; parameters = two.made; result = three.made; body = four.made; at = at };
      spelled = (
        here _ at,
        (
          here _ named,
          both next (optional quantifier_pieces x.quantifier)
              (mark symbol.LeftParen ∷ (with_commas parameter_pieces x.parameters ++ (mark symbol.RightParen ∷ mark symbol.Colon ∷ (result_pieces x.result ++ block_pieces x.body))))
              (optional quantifier_pieces one.made)
              (mark symbol.LeftParen ∷ (with_commas parameter_pieces two.made ++ (mark symbol.RightParen ∷ mark symbol.Colon ∷ (result_pieces three.made ++ block_pieces four.made))))
              one.spelled (
                free _ _,
                both params_at (with_commas parameter_pieces x.parameters) (mark symbol.RightParen ∷ mark symbol.Colon ∷ (result_pieces x.result ++ block_pieces x.body))
                    (with_commas parameter_pieces two.made) (mark symbol.RightParen ∷ mark symbol.Colon ∷ (result_pieces three.made ++ block_pieces four.made)) two.spelled
                    (free _ _, (free _ _, both result_at (result_pieces x.result) (block_pieces x.body) (result_pieces three.made) (block_pieces four.made) three.spelled four.spelled)),
              ),
        ),
      );
      placed = (one.placed, two.placed, three.placed, four.placed);
      is = λ h. (one.is h.0, three.is h.1, four.is h.2);
      begins = refl;
      alike = alike_two (λ a b. record { name = unplaced_name x.name; quantifier = a; parameters = b; result = unplaced_result three.made; body = unplaced_block four.made; at = 0 }) _ _ _ _ one.alike two.alike
          ∙ alike_two (λ a b. record { name = unplaced_name x.name; quantifier = option_map unplaced_quantifier x.quantifier; parameters = map unplaced_parameter x.parameters; result = a; body = b; at = 0 }) _ _ _ _ three.alike four.alike;
    }

lay_declaration : (at : ℕ) (x : plain.Declaration) → Laid declaration_pieces PlacedDeclaration IsDeclaration (λ d n. n ≡ declaration_at d) unplaced_declaration at x
lay_declaration at (plain.OfType d) =
    let one = lay_type_declaration at d in
    record { made = plain.OfType one.made; spelled = one.spelled; placed = one.placed; is = one.is; begins = sym one.begins; alike = ap (λ a. plain.OfType a) one.alike }
lay_declaration at (plain.OfFunction f) =
    let one = lay_function at f in
    record { made = plain.OfFunction one.made; spelled = one.spelled; placed = one.placed; is = one.is; begins = sym one.begins; alike = ap (λ a. plain.OfFunction a) one.alike }

lay_declarations : (at : ℕ) (xs : List plain.Declaration) → Laid declarations_pieces (All PlacedDeclaration) AreDeclarations Anywhere (map unplaced_declaration) at xs
lay_declarations at [] = record { made = []; spelled = tt; placed = All-nil PlacedDeclaration; is = λ h. tt; begins = tt; alike = refl }
lay_declarations at (d ∷ ds) =
    let one = lay_declaration at d in
    let more = lay_declarations (at + width (declaration_pieces d)) ds in
    record {
      made = one.made ∷ more.made;
      spelled = both at (declaration_pieces d) (declarations_pieces ds) (declaration_pieces one.made) (declarations_pieces more.made) one.spelled more.spelled;
      placed = All-cons PlacedDeclaration one.made more.made one.placed more.placed;
      is = λ h. (one.is h.0, more.is h.1);
      begins = tt;
      alike = alike_two (λ a b. a ∷ b) _ _ _ _ one.alike more.alike;
    }

-- ---- trees

-- a tree of these declarations whose tokens stand from 0 on, in a text that ends at `end`
abbrev LaidTree : (end : ℕ) → List plain.Declaration → (was : ℕ) → Type 0
LaidTree end declarations was = Laid pieces (PlacedTree end) IsTree Anywhere unplaced 0 (record { declarations = declarations; at = was })

lay_tree_by : (end : ℕ) (declarations : List plain.Declaration) (was : ℕ) → LaidTree end declarations was
lay_tree_by end [] was =
    record { made = record { declarations = []; at = end }; spelled = tt; placed = (refl, All-nil PlacedDeclaration); is = λ h. tt; begins = tt; alike = refl }
lay_tree_by end (d ∷ ds) was =
    let one = lay_declaration 0 d in
    let more = lay_declarations (0 + width (declaration_pieces d)) ds in
    record {
      made = record { declarations = one.made ∷ more.made; at = 0 };
      spelled = both 0 (declaration_pieces d) (declarations_pieces ds) (declaration_pieces one.made) (declarations_pieces more.made) one.spelled more.spelled;
      placed = (one.begins, All-cons PlacedDeclaration one.made more.made one.placed more.placed);
      is = λ h. (one.is h.0, more.is h.1);
      begins = tt;
      alike = alike_two (λ a b. record { declarations = a ∷ b; at = 0 }) _ _ _ _ one.alike more.alike;
    }

lay_tree : (end : ℕ) (tree : plain.Tree) → Laid pieces (PlacedTree end) IsTree Anywhere unplaced 0 tree
lay_tree end tree = lay_tree_by end tree.declarations tree.at

-- what is printed of a tree is read as that tree, up to offsets
pub printed-reads_alike : (tree : plain.Tree) → IsWritten tree → ReadsAlike (printed tree) tree
printed-reads_alike tree is =
    let one = lay_tree (length (printed tree)) tree in
    record {
      read = one.made;
      reads = record {
        tokens = tokens_from 0 (kinds (pieces tree));
        lexed = printed-read_back tree is;
        parsed = record { grammar = one.is is.grammar; placed = one.placed; spelled = one.spelled };
      };
      alike = one.alike;
    }
