-- Worked examples of the definitions.
use Rattle.std.proofs.Common.{◌≡◌, ℕ, zero, suc, pos, List, [], ◌∷◌, ◌++◌, refl}
use Rattle.std.specs.Prelude.{codes}
use Rattle.xanadu_lexer.specs.declared.keyword.Keyword.TheVariants as keyword
use Rattle.xanadu_lexer.specs.declared.symbol.Symbol.{Symbol}
use Rattle.xanadu_lexer.specs.declared.symbol.Symbol.TheVariants as symbol
use Rattle.xanadu_lexer.specs.declared.token.TokenKind.{TokenKind}
use Rattle.xanadu_lexer.specs.declared.token.TokenKind.TheVariants as kind
use Rattle.xanadu_tree.specs.Nesting.{open_at, nesting}

-- ---- nesting

abbrev mark : Symbol → TokenKind
mark symbol = kind.Symbol symbol

abbrev zero_token : TokenKind
zero_token = kind.Num (pos 0)

-- `[0]`, so many times
abbrev indices : ℕ → List TokenKind
indices zero = []
indices (suc n) = mark symbol.LeftBracket ∷ zero_token ∷ mark symbol.RightBracket ∷ indices n

abbrev many : ℕ → Symbol → List TokenKind
many zero symbol = []
many (suc n) symbol = mark symbol ∷ many n symbol

-- `fun main ( ) : int { return` .. `; }`
abbrev in_main : List TokenKind → List TokenKind
in_main value =
    (kind.Keyword keyword.Fun ∷ kind.Lower (codes "main") ∷ mark symbol.LeftParen ∷ mark symbol.RightParen ∷ mark symbol.Colon
    ∷ kind.Keyword keyword.Int ∷ mark symbol.LeftBrace ∷ kind.Keyword keyword.Return ∷ [])
    ++ value ++ (mark symbol.Semicolon ∷ mark symbol.RightBrace ∷ [])

-- two brackets are open at the second `0` of `a[0][0]`
two_indices : open_at (kind.Lower (codes "a") ∷ indices 2) ≡ 0 ∷ 1 ∷ 1 ∷ 1 ∷ 2 ∷ 2 ∷ 0 ∷ []
unfolding open_at
two_indices = refl

-- a call's brackets close before the next index begins: `f(0)[0]`
call_and_index : open_at (kind.Lower (codes "f") ∷ mark symbol.LeftParen ∷ zero_token ∷ mark symbol.RightParen ∷ indices 1) ≡ 0 ∷ 1 ∷ 1 ∷ 0 ∷ 1 ∷ 1 ∷ 0 ∷ []
unfolding open_at
call_and_index = refl

-- an index within an index: `a[b[0]]`
within : open_at (kind.Lower (codes "a") ∷ mark symbol.LeftBracket ∷ kind.Lower (codes "b") ∷ indices 1 ++ (mark symbol.RightBracket ∷ []))
    ≡ 0 ∷ 1 ∷ 1 ∷ 2 ∷ 2 ∷ 1 ∷ 0 ∷ []
unfolding open_at
within = refl

-- a bracket that has nothing to join begins a group: `] [`
nothing_to_join : open_at (mark symbol.RightBracket ∷ mark symbol.LeftBracket ∷ []) ≡ 0 ∷ 1 ∷ []
unfolding open_at
nothing_to_join = refl

-- the body's bracket and 64 indices are too many, and with 63 they are not
many_indices : nesting (in_main (kind.Lower (codes "a") ∷ indices 64)) ≡ 65
unfolding open_at nesting
many_indices = refl

fewer_indices : nesting (in_main (kind.Lower (codes "a") ∷ indices 63)) ≡ 64
unfolding open_at nesting
fewer_indices = refl

-- so are 65 parentheses, and 63 are not
many_parens : nesting (in_main (many 65 symbol.LeftParen ++ (zero_token ∷ many 65 symbol.RightParen))) ≡ 66
unfolding open_at nesting
many_parens = refl

fewer_parens : nesting (in_main (many 63 symbol.LeftParen ++ (zero_token ∷ many 63 symbol.RightParen))) ≡ 64
unfolding open_at nesting
fewer_parens = refl
