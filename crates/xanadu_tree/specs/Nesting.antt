-- How many brackets are open at each token of a list.
--
-- Open brackets stand in groups. An opening mark begins a group, except that a `[` behind a `]` joins the last group where there is
-- one. A closing mark closes the whole last group where there is one, whatever the kinds, except that a `]` before a `[` closes
-- nothing. So the brackets of `a[0][0]` are one group, and the greatest number of open brackets bounds the depth of a tree.
use Rattle.std.specs.Prelude.{ℕ, suc, ◌<◌, Bool, true, false, List, [], ◌∷◌, sum, max}
use Rattle.xanadu_lexer.specs.declared.symbol.Symbol.{Symbol}
use Rattle.xanadu_lexer.specs.declared.symbol.Symbol.TheVariants as symbol
use Rattle.xanadu_lexer.specs.declared.token.TokenKind.{TokenKind}
use Rattle.xanadu_lexer.specs.declared.token.TokenKind.TheVariants as kind

abbrev pub is_left_bracket_symbol : Symbol → Bool
is_left_bracket_symbol symbol.LeftBracket = true
is_left_bracket_symbol _ = false

abbrev pub is_left_bracket : TokenKind → Bool
is_left_bracket (kind.Symbol symbol) = is_left_bracket_symbol symbol
is_left_bracket _ = false

abbrev pub is_right_bracket_symbol : Symbol → Bool
is_right_bracket_symbol symbol.RightBracket = true
is_right_bracket_symbol _ = false

abbrev pub is_right_bracket : TokenKind → Bool
is_right_bracket (kind.Symbol symbol) = is_right_bracket_symbol symbol
is_right_bracket _ = false

abbrev pub begins_with_left_bracket : List TokenKind → Bool
begins_with_left_bracket [] = false
begins_with_left_bracket (kind ∷ more) = is_left_bracket kind

-- ---- groups: how many brackets each has, the last group first

abbrev pub begun : List ℕ → List ℕ
begun groups = 1 ∷ groups

abbrev pub joined : List ℕ → List ℕ
joined [] = 1 ∷ []
joined (group ∷ groups) = suc group ∷ groups

abbrev pub closed : List ℕ → List ℕ
closed [] = []
closed (group ∷ groups) = groups

-- a `[`, behind a `]` or not
abbrev pub left_bracket : (behind : Bool) → List ℕ → List ℕ
left_bracket true groups = joined groups
left_bracket false groups = begun groups

-- a `]`, before a `[` or not
abbrev pub right_bracket : (before : Bool) → List ℕ → List ℕ
right_bracket true groups = groups
right_bracket false groups = closed groups

abbrev pub groups_at_symbol : Symbol → (behind before : Bool) → List ℕ → List ℕ
groups_at_symbol symbol.LeftParen behind before groups = begun groups
groups_at_symbol symbol.LeftBrace behind before groups = begun groups
groups_at_symbol symbol.LeftBracket behind before groups = left_bracket behind groups
groups_at_symbol symbol.RightParen behind before groups = closed groups
groups_at_symbol symbol.RightBrace behind before groups = closed groups
groups_at_symbol symbol.RightBracket behind before groups = right_bracket before groups
groups_at_symbol _ behind before groups = groups

-- the groups once this token has come, `behind` a `]` or not and `before` a `[` or not
abbrev pub groups_at : TokenKind → (behind before : Bool) → List ℕ → List ℕ
groups_at (kind.Symbol symbol) behind before groups = groups_at_symbol symbol behind before groups
groups_at _ behind before groups = groups

-- ---- the whole list

-- how many brackets are open at each token, behind these groups: an opening mark counts at its own token, a closing one no more
abbrev pub open_from : (behind : Bool) → List ℕ → List TokenKind → List ℕ
open_from behind groups [] = []
open_from behind groups (kind ∷ kinds) =
    let now = groups_at kind behind (begins_with_left_bracket kinds) groups in sum now ∷ open_from (is_right_bracket kind) now kinds

unfoldable pub open_at : List TokenKind → List ℕ
open_at kinds = open_from false [] kinds

abbrev pub greatest : List ℕ → ℕ
greatest [] = 0
greatest (n ∷ ns) = max n (greatest ns)

-- the greatest number of brackets that are open at a token
unfoldable pub nesting : List TokenKind → ℕ
nesting kinds = greatest (open_at kinds)

-- more brackets than this are too many
abbrev pub nesting_most : ℕ
nesting_most = 64

abbrev pub IsTooNested : List TokenKind → Type 0
IsTooNested kinds = nesting_most < nesting kinds
