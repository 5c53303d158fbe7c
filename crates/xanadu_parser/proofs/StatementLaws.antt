-- Statements and blocks are read exactly.
use Rattle.std.proofs.Common.{◌≡◌, ℕ, zero, suc, true, false, List, [], ◌∷◌, ◌++◌, Option, Some, None, refl, sym, ap, subst, ◌∙◌, append_assoc, inl, inr}
use Rattle.xanadu_lexer.specs.declared.keyword.Keyword.{Keyword}
use Rattle.xanadu_lexer.specs.declared.keyword.Keyword.TheVariants as word_of
use Rattle.xanadu_lexer.specs.declared.symbol.Symbol.TheVariants as symbol
use Rattle.xanadu_lexer.specs.declared.token.Token.{Token}
use Rattle.xanadu_lexer.specs.declared.token.TokenKind.{TokenKind}
use Rattle.xanadu_lexer.specs.declared.token.TokenKind.TheVariants as kind
use Rattle.xanadu_tree.specs.declared.tree.declaration.Identifier.{Identifier}
use Rattle.xanadu_tree.specs.PlainTree as plain
use Rattle.xanadu_tree.specs.PlainTreeOf.{to_indices, to_expressions, to_branch, to_statements}
use Rattle.xanadu_tree.specs.Pieces.{Piece, Spelled, mark as mark_piece, word_at, with_commas, optional}
use Rattle.xanadu_tree.specs.Spelling as spelling
use Rattle.xanadu_tree.specs.Spelling.{semicolon, expression_pieces, indices_pieces, arguments_pieces, statement_pieces, branch_pieces, block_pieces, statements_pieces, clause_pieces, clause_behind}
use Rattle.xanadu_tree.specs.Written.{IsSome, WhereGiven, IsClause, IsStatement, IsBranch, IsBlock, AreStatements, PlacedClause, PlacedStatement, PlacedBranch, PlacedBlock, PlacedStatements}
use Rattle.xan_read.specs.Combinators.{made, in_turn}
use Rattle.xan_read.specs.Symbols.{take, Closed}
use Rattle.xan_read.specs.Rooms.{Example}
use Rattle.xan_read.proofs.RoomLaws.{within-as}
use Rattle.xan_read.proofs.UntilLaws.{within-until}
use Rattle.expression_parser.specs.Reader.{Family}
use Rattle.expression_parser.specs.Tables.{mark}
use Rattle.expression_parser.specs.Types as types
use Rattle.xanadu_parser.specs.Statements as read
use Rattle.expression_parser.proofs.Deeper.{exact-none, exact-deeper}
use Rattle.expression_parser.proofs.TokenSets.{Ends, Starts, ends-nothing, class, among, more}
use Rattle.expression_parser.proofs.TokenTables.{at_0, mark-at, mark-any, word-at, word-any, a-lower}
use Rattle.expression_parser.proofs.ProductionLaws.{Law, Formed, Said, said, law-give, law-take, law-made, law-choice, law-field, law-token, law-behind, law-before, law-sets, law-parts, reads, spelled-append, spelled-split, spelled-first, spelled-none, some-tokens, follows, eat-ends}
use Rattle.expression_parser.proofs.CommaLists.{law-commas, law-through}
use Rattle.expression_parser.proofs.IndexLaws.{names, comma, left_brace}
use Rattle.expression_parser.proofs.TypeLaws.{a-clause, left_paren}
use Rattle.expression_parser.proofs.ExpressionLaws.{FitsExpression, FitExpressions, FitIndices, closed_arguments, expression_heads, indices_of, expressions_of, left_bracket, some-or-no-arguments, some-indices, an-expression}

-- ---- parts

some-names : {most : ℕ} → Law most true (λ _. read.names) (λ xs. xs) IsSome (with_commas (λ x. spelling.lower x ∷ [])) names false comma
unfolding read.names
some-names = reads (law-commas (law-take a-lower) refl) (λ xs f. (f.0, refl)) (λ xs f. (xs, refl, (f, λ _ _ _. tt))) refl

then-semicolon : {most : ℕ} → Law most false (λ room. read.ended room) (λ e. e) FitsExpression (λ e. expression_pieces e ++ semicolon) expression_heads false []
unfolding read.ended
then-semicolon {most} = law-sets (law-before (mark-any symbol.Semicolon) (an-expression most) refl) refl

a-test : {most : ℕ} → Law most true (λ room. read.condition room) (λ e. e) FitsExpression (λ e. mark_piece symbol.LeftParen ∷ (expression_pieces e ++ (mark_piece symbol.RightParen ∷ []))) left_paren false []
unfolding read.condition
a-test {most} = law-behind (mark-any symbol.LeftParen) (law-before (mark-any symbol.RightParen) (an-expression most) refl)

-- a clause behind its keyword
clause-behind : {most : ℕ} (w : Keyword) → Law most true (λ _. types.clause_behind w) (λ o. o) (λ o. WhereGiven IsClause o × WhereGiven PlacedClause o) (optional (clause_behind w)) (kind.Keyword w ∷ []) true (kind.Keyword w ∷ [])
unfolding types.clause_behind
clause-behind w = law-parts (law-choice (word-any w) (λ _. law-made Some a-clause) (law-give None) (λ _ _ _. refl) refl)
    (elim [ inl q ↦ λ f. (Some q.1, refl, f.1, refl) | inr u ↦ λ _. (None, refl, (tt, tt), refl) ]) (elim [ Some c ↦ λ f. (inl (0, c), refl, (tt, f), refl) | None ↦ λ _. (inr tt, refl, tt, refl) ])

abbrev FitsBlock : plain.Block → Type 0
FitsBlock b = IsBlock b × PlacedBlock b

abbrev pub FitsStatement : plain.Statement → Type 0
FitsStatement s = IsStatement s × PlacedStatement s

abbrev FitsBranch : plain.Branch → Type 0
FitsBranch b = IsBranch b × PlacedBranch b

branch_of : (t : plain.Branch) → (o : Option plain.Block) × (t ≡ to_branch o)
branch_of plain.NoBranch = (None, refl)
branch_of (plain.ABranch b) = (Some b, refl)

statements_of : (t : plain.Statements) → (xs : List plain.Statement) × (t ≡ to_statements xs)
statements_of plain.NoStatement = ([], refl)
statements_of (plain.AStatement s more) = let p = statements_of more in (s ∷ p.0, ap (plain.AStatement s) p.1)

-- ---- statements in which no block stands, behind the token that they begin with

a-return : {most : ℕ} (at : ℕ) → Law most false (λ room. read.returned room at) (λ o. plain.Return o at) (WhereGiven FitsExpression) (λ o. optional expression_pieces o ++ semicolon) (kind.Symbol symbol.Semicolon ∷ expression_heads) false []
unfolding read.returned
a-return at = law-sets (law-parts (law-choice (mark-any symbol.Semicolon) (λ _. law-give (plain.Return None at)) (law-made (λ e. plain.Return (Some e) at) then-semicolon) (λ _ _ _. refl) refl)
    (elim [ inl z ↦ λ _. (None, refl, tt, refl) | inr e ↦ λ f. (Some e, refl, f, refl) ]) (elim [ None ↦ λ _. (inl (0, tt), refl, (tt, tt), refl) | Some e ↦ λ f. (inr e, refl, f, refl) ])) refl

a-call : {most : ℕ} (name : Identifier) → Law most false (λ room. read.called room name) (λ es. plain.Do name es) FitExpressions (λ es. closed_arguments es ++ semicolon) (kind.Symbol symbol.RightParen ∷ expression_heads) false []
unfolding read.called
a-call {most} name = law-through expressions_of (λ es. plain.Do name es) FitExpressions (λ es. closed_arguments es ++ semicolon) (law-parts (law-field (some-or-no-arguments (an-expression most)) (λ es. law-behind (mark-any symbol.Semicolon) (law-give (plain.Do name (to_expressions es)))) refl)
    (λ q f. (q.0, refl, f.0, refl)) (λ es f. ((es, tt), refl, (f, tt), refl)))

an-assignment : {most : ℕ} (name : Identifier) → Law most true (λ room. read.assigned room name) (λ (q : plain.Indices × plain.Expression). plain.Assign name q.0 q.1) (λ q. FitIndices q.0 × FitsExpression q.1) (λ q. indices_pieces q.0 ++ (mark_piece symbol.Equal ∷ (expression_pieces q.1 ++ semicolon)))
    (kind.Symbol symbol.Equal ∷ left_bracket) false []
unfolding read.assigned
an-assignment {most} name = law-sets (law-parts (law-field (some-indices (an-expression most)) (λ is. law-behind (mark-any symbol.Equal) (law-made (λ e. plain.Assign name (to_indices is) e) then-semicolon)) refl)
    (λ q f. ((to_indices q.0, q.1), refl, f, refl))
    (λ q f. let p = indices_of q.0 in ((p.0, q.1), ap (λ is. plain.Assign name is q.1) p.1, (subst FitIndices p.1 f.0, f.1), ap (λ is. indices_pieces is ++ (mark_piece symbol.Equal ∷ (expression_pieces q.1 ++ semicolon))) (sym p.1)))) refl

-- ---- statements, over the reader of the blocks in them

abbrev statement_heads : List TokenKind
statement_heads = kind.Keyword word_of.If ∷ kind.Keyword word_of.While ∷ kind.Keyword word_of.Var ∷ kind.Keyword word_of.Let ∷ kind.Keyword word_of.Print ∷ kind.Keyword word_of.Return ∷ names

abbrev statement_stops : List TokenKind
statement_stops = kind.Keyword word_of.Else ∷ kind.Keyword word_of.Join ∷ []

abbrev FitStatements : plain.Statements → Type 0
FitStatements ss = AreStatements ss × PlacedStatements ss

abbrev closed_statements : plain.Statements → List Piece
closed_statements ss = statements_pieces ss ++ (mark_piece symbol.RightBrace ∷ [])

abbrev IsText : plain.Statement → List Token → Type 0
IsText = Said FitsStatement statement_pieces

abbrev AreClosed : List plain.Statement → List Token → Type 0
AreClosed = Closed (mark symbol.RightBrace) IsText

closed_said : (ss : List plain.Statement) (text : List Token) → AreClosed ss text → FitStatements (to_statements ss) × Spelled (closed_statements (to_statements ss)) text
unfolding AreStatements PlacedStatements statements_pieces
closed_said [] text e = ((tt, tt), subst (λ (l : List Token). Spelled (mark_piece symbol.RightBrace ∷ []) l) (sym e.parts) (((mark-any symbol.RightBrace).into e.symbol e.value e.decides).1, tt))
closed_said (s ∷ ss) text o =
    let more = closed_said ss o.back o.others in (
      ((o.first.fits.0, more.0.0), (o.first.fits.1, more.0.1)),
      subst (λ (l : List Token). Spelled (closed_statements (to_statements (s ∷ ss))) l) (sym o.parts)
          (subst (λ (p : List Piece). Spelled p (o.front ++ o.back)) (sym (append_assoc (statement_pieces s) (statements_pieces (to_statements ss)) (mark_piece symbol.RightBrace ∷ [])))
          (spelled-append (statement_pieces s) (closed_statements (to_statements ss)) o.front o.back o.first.spelled more.1)),
    )

said_closed : (ss : List plain.Statement) (text : List Token) → FitStatements (to_statements ss) → Spelled (closed_statements (to_statements ss)) text → AreClosed ss text
unfolding AreStatements PlacedStatements statements_pieces
said_closed [] text fits h = let f = spelled-first (mark_piece symbol.RightBrace) [] text h in
    record { symbol = f.token; value = f.token.at; decides = (mark-any symbol.RightBrace).back f.token 0 tt f.is; parts = f.parts ∙ ap (λ (l : List Token). f.token ∷ l) (spelled-none f.back f.others) }
said_closed (s ∷ ss) text fits h =
    let p = spelled-split (statement_pieces s) (closed_statements (to_statements ss)) text
    (subst (λ (q : List Piece). Spelled q text) (append_assoc (statement_pieces s) (statements_pieces (to_statements ss)) (mark_piece symbol.RightBrace ∷ [])) h) in
    record {
      front = p.front;
      back = p.back;
      first = record { fits = (fits.0.0, fits.1.0); spelled = p.first };
      others = said_closed ss p.back (fits.0.1, fits.1.1) p.second;
      parts = p.parts;
    }

module _ {most : ℕ} {inner : Family plain.Block} (exact : Law most false inner (λ b. b) FitsBlock block_pieces left_brace false []) where
  a-branch : Law most true (λ room. read.otherwise room (inner room)) (λ o. o) (λ o. FitsBranch (to_branch o)) (λ o. branch_pieces (to_branch o)) (kind.Keyword word_of.Else ∷ []) true (kind.Keyword word_of.Else ∷ [])
  unfolding read.otherwise IsBranch PlacedBranch branch_pieces
  a-branch = law-parts (law-choice (word-any word_of.Else) (λ _. law-made Some exact) (law-give None) (λ _ _ _. refl) refl)
      (elim [ inl q ↦ λ f. (Some q.1, refl, f.1, refl) | inr u ↦ λ _. (None, refl, (tt, tt), refl) ]) (elim [ Some b ↦ λ f. (inl (0, b), refl, (tt, f), refl) | None ↦ λ _. (inr tt, refl, tt, refl) ])

  a-statement : Law most true (λ room. read.statement room (inner room)) (λ s. s) FitsStatement statement_pieces statement_heads false statement_stops
  unfolding read.statement read.branches read.repeated_block read.simple read.declared read.split read.named IsStatement PlacedStatement statement_pieces
  a-statement = reads (law-choice (word-at word_of.If) (λ at. law-field a-test (λ t. law-field exact (λ y. law-field a-branch (λ n. law-made (λ c. plain.If t y (to_branch n) c at) (clause-behind word_of.Join)) refl) refl) refl)
      (law-choice (word-at word_of.While) (λ at. law-field a-test (λ t. law-field (clause-behind word_of.With) (λ c. law-made (λ b. plain.While t c b at) exact) refl) refl)
      (law-choice (word-at word_of.Var) (λ at. law-field (law-take a-lower) (λ name. law-behind (mark-any symbol.Equal) (law-made (λ e. plain.Declare name e at) then-semicolon)) refl)
      (law-choice (word-at word_of.Let) (λ at. law-behind (mark-any symbol.LeftParen) (law-field some-names (λ xs. law-behind (mark-any symbol.RightParen) (law-behind (mark-any symbol.Equal) (law-made (λ e. plain.Split xs e at) then-semicolon))) refl))
      (law-choice (word-at word_of.Print) (λ at. law-made (λ e. plain.Print e at) then-semicolon)
      (law-choice (word-at word_of.Return) a-return
      (law-token a-lower (λ name. law-choice (mark-any symbol.LeftParen) (λ _. a-call name) (an-assignment name) (λ _ _ _. refl) refl) (λ _ _ _. refl))
      (λ _ _ _. refl) refl) (λ _ _ _. refl) refl) (λ _ _ _. refl) refl) (λ _ _ _. refl) refl) (λ _ _ _. refl) refl) (λ _ _ _. refl) refl)
      (elim [
        | inl (at, z) ↦ λ f. (
          ((f.1.0.0, f.1.1.0.0, f.1.1.1.0.0, f.1.1.1.1.0), (f.1.0.1, f.1.1.0.1, f.1.1.1.0.1, f.1.1.1.1.1)),
          ap (λ (p : List Piece). word_at word_of.If at ∷ mark_piece symbol.LeftParen ∷ p) (append_assoc (expression_pieces z.0) (mark_piece symbol.RightParen ∷ []) _),
        )
        | inr (inl (at, z)) ↦ λ f. (
          ((f.1.0.0, f.1.1.0.0, f.1.1.1.0), (f.1.0.1, f.1.1.0.1, f.1.1.1.1)),
          ap (λ (p : List Piece). word_at word_of.While at ∷ mark_piece symbol.LeftParen ∷ p) (append_assoc (expression_pieces z.0) (mark_piece symbol.RightParen ∷ []) _),
        )
        | inr (inr (inl (at, z))) ↦ λ f. (f.1.1, refl)
        | inr (inr (inr (inl (at, z)))) ↦ λ f. (((f.1.0, f.1.1.0), f.1.1.1), refl)
        | inr (inr (inr (inr (inl (at, e))))) ↦ λ f. (f.1, refl)
        | inr (inr (inr (inr (inr (inl (at, None)))))) ↦ λ f. ((tt, tt), refl)
        | inr (inr (inr (inr (inr (inl (at, Some e)))))) ↦ λ f. (f.1, refl)
        | inr (inr (inr (inr (inr (inr (name, inl (at, es))))))) ↦ λ f. (
          f.1.1,
          ap (λ (p : List Piece). spelling.lower name ∷ mark_piece symbol.LeftParen ∷ p) (append_assoc (arguments_pieces es) (mark_piece symbol.RightParen ∷ []) semicolon),
        )
        | inr (inr (inr (inr (inr (inr (name, inr z)))))) ↦ λ f. (((f.1.0.0, f.1.1.0), (f.1.0.1, f.1.1.1)), refl)
      ])
      (elim [
        | plain.If t y n c at ↦ λ f. let p = branch_of n in (inl (at, (t, (y, (p.0, c)))), ap (λ b. plain.If t y b c at) p.1, (tt, ((f.0.0, f.1.0), ((f.0.1, f.1.1), (subst FitsBranch p.1 (f.0.2, f.1.2), (f.0.3, f.1.3))))))
        | plain.While t c b at ↦ λ f. (inr (inl (at, (t, (c, b)))), refl, (tt, ((f.0.0, f.1.0), ((f.0.1, f.1.1), (f.0.2, f.1.2)))))
        | plain.Declare x e at ↦ λ f. (inr (inr (inl (at, (x, e)))), refl, (tt, (tt, f)))
        | plain.Split xs e at ↦ λ f. (inr (inr (inr (inl (at, (xs, e))))), refl, (tt, (f.0.0, (f.0.1, f.1))))
        | plain.Print e at ↦ λ f. (inr (inr (inr (inr (inl (at, e))))), refl, (tt, f))
        | plain.Return None at ↦ λ _. (inr (inr (inr (inr (inr (inl (at, None)))))), refl, (tt, tt))
        | plain.Return (Some e) at ↦ λ f. (inr (inr (inr (inr (inr (inl (at, Some e)))))), refl, (tt, f))
        | plain.Do name es ↦ λ f. (inr (inr (inr (inr (inr (inr (name, inl (0, es))))))), refl, (tt, (tt, f)))
        | plain.Assign name is e ↦ λ f. (inr (inr (inr (inr (inr (inr (name, inr (is, e))))))), refl, (tt, ((f.0.0, f.1.0), (f.0.1, f.1.1))))
      ]) refl

  some-statements : Law most true (λ room. read.statements room (inner room)) (λ ss. ss) (λ ss. FitStatements (to_statements ss)) (λ ss. closed_statements (to_statements ss)) (kind.Symbol symbol.RightBrace ∷ statement_heads) false []
  unfolding read.statements AreStatements PlacedStatements statements_pieces
  some-statements = record {
    exact = within-as most 1 (λ room. read.statements room (inner room)) AreClosed (Formed (λ ss. ss) (λ ss. FitStatements (to_statements ss)) (λ ss. closed_statements (to_statements ss))) (Ends []) (Ends [])
        (within-until most 1 (mark symbol.RightBrace) (λ room. read.statement room (inner room)) IsText (Ends statement_stops) (said a-statement)
        (let brace = mark-any symbol.RightBrace in record { value = tt; text = brace.token ∷ []; is = record { symbol = brace.token; value = brace.sample; decides = brace.is; parts = refl } })
        (λ s front f. some-tokens statement_heads false (statement_pieces s) front (a-statement.starts s f.fits) f.spelled refl)
        (λ s front rest f. eat-ends (mark symbol.RightBrace) (kind.Symbol symbol.RightBrace ∷ []) (mark-any symbol.RightBrace).none (front ++ rest)
        (follows statement_heads (kind.Symbol symbol.RightBrace ∷ []) false (statement_pieces s) front rest refl (a-statement.starts s f.fits) f.spelled (ends-nothing rest)))
        (λ s front rest f. follows statement_heads statement_stops false (statement_pieces s) front rest refl (a-statement.starts s f.fits) f.spelled (ends-nothing rest))
        (λ token a rest e. ap (λ k. among statement_stops (class k)) ((mark-any symbol.RightBrace).into token a e).1.kind) (Ends []))
        (λ ss text c. let p = closed_said ss text c in record { parts = ss; is = refl; fits = p.0; spelled = p.1 })
        (λ ss text f. subst (λ (l : List plain.Statement). AreClosed l text) (sym f.is) (said_closed f.parts text f.fits f.spelled)) (λ _ h. h);
    starts = begins;
  }
    where
      before : (a b : List Piece) → Starts statement_heads false a → Starts (kind.Symbol symbol.RightBrace ∷ statement_heads) false ((a ++ b) ++ (mark_piece symbol.RightBrace ∷ []))
      before [] b h = absurd cc
      before (p ∷ a) b h = more statement_heads (kind.Symbol symbol.RightBrace ∷ statement_heads) p.kind refl h

      begins : (ss : List plain.Statement) → FitStatements (to_statements ss) → Starts (kind.Symbol symbol.RightBrace ∷ statement_heads) false (closed_statements (to_statements ss))
      begins [] f = refl
      begins (s ∷ ss) f = before (statement_pieces s) (statements_pieces (to_statements ss)) (a-statement.starts s (f.0.0, f.1.0))

  a-block : Law most true (λ room. in_turn (take (mark symbol.LeftBrace)) (λ at. made (λ ss. plain.BlockOf (to_statements ss) at) (read.statements room (inner room)))) (λ b. b) FitsBlock block_pieces left_brace false []
  unfolding IsBlock PlacedBlock block_pieces
  a-block = reads (law-token (mark-at symbol.LeftBrace) (λ at. law-through statements_of (λ ss. plain.BlockOf ss at) FitStatements closed_statements (law-made (λ ss. plain.BlockOf (to_statements ss) at) some-statements)) (λ _ _ _. refl))
      (λ q f. (f.1, refl)) (elim [ plain.BlockOf ss at ↦ λ f. ((at, ss), refl, (tt, f)) ]) refl

-- ---- blocks that nest

starts-block : (b : plain.Block) → Starts left_brace false (block_pieces b)
unfolding block_pieces
starts-block (plain.BlockOf ss at) = refl

empty_block : Example (Formed (λ b. b) FitsBlock block_pieces)
unfolding IsBlock PlacedBlock AreStatements PlacedStatements block_pieces statements_pieces
empty_block = record {
  value = plain.BlockOf plain.NoStatement 0;
  text = at_0 (kind.Symbol symbol.LeftBrace) ∷ at_0 (kind.Symbol symbol.RightBrace) ∷ [];
  is = record { parts = plain.BlockOf plain.NoStatement 0; is = refl; fits = (tt, tt); spelled = (record { kind = refl; at = refl }, (record { kind = refl; at = tt }, tt)) };
}

pub some-block : (most : ℕ) → Law most false read.block (λ b. b) FitsBlock block_pieces left_brace false []
unfolding read.block
some-block zero = record { exact = exact-none read.block (Formed (λ b. b) FitsBlock block_pieces) (Ends []) empty_block (λ _. refl); starts = λ b _. starts-block b }
some-block (suc most) = record {
  exact = exact-deeper most read.block (λ room. in_turn (take (mark symbol.LeftBrace)) (λ at. made (λ ss. plain.BlockOf (to_statements ss) at) (read.statements room (read.block room)))) (Formed (λ b. b) FitsBlock block_pieces) (Ends [])
      (a-block (some-block most)).exact (λ _. refl) (λ _ _. refl);
  starts = λ b _. starts-block b;
}
