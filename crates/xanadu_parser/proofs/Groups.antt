-- Groups of open brackets: in memory the last group is the last, in the definition the first.
use Rattle.std.proofs.Common.{◌≡◌, ℕ, ◌+◌, ◌-◌, ◌<◌, ◌≤◌, Bool, true, List, [], ◌∷◌, ◌++◌, length, get_or, take, drop, reverse, max, refl, sym, ap, ◌∙◌, arith}
use Rattle.std.specs.Prelude.{nat_lt}
use Rattle.std.specs.List.{sum}
use Rattle.std.proofs.lemmas.Bool.Decides.{nat_tests}
use Rattle.std.proofs.lemmas.List.{reverse-append, take_rest}
use Rattle.std.proofs.lemmas.List.Sums.{fold_push, sum_by-append}
use Rattle.xanadu_lexer.specs.declared.token.Token.{Token}
use Rattle.xanadu_tree.specs.Nesting.{groups_at, begins_with_left_bracket, is_right_bracket, open_from, greatest}
use Rattle.xanadu_parser.specs.Kinds.{kinds_of}

pub reverse_last : (groups : List ℕ) (size : ℕ) → reverse (groups ++ size ∷ []) ≡ size ∷ reverse groups
reverse_last groups size = reverse-append groups (size ∷ [])

pub sum_last : (groups : List ℕ) (size : ℕ) → sum (groups ++ size ∷ []) ≡ sum groups + size
sum_last groups size = fold_push (λ a x. a + x) 0 groups size

pub ruleset group_lists = (reverse_last, sum_last)

sum_first : (size : ℕ) (groups : List ℕ) → sum (size ∷ groups) ≡ size + sum groups
sum_first size groups = let h : sum (size ∷ groups) ≡ 0 + size + sum groups = sum_by-append (λ x. x) (size ∷ []) groups in omega arith

pub sum_reversed : (groups : List ℕ) → sum (reverse groups) ≡ sum groups
sum_reversed [] = refl
sum_reversed (size ∷ groups) =
    let turned : reverse (size ∷ groups) ≡ reverse groups ++ size ∷ [] = reverse-append (size ∷ []) groups in
    ap sum turned ∙ omega (arith, sum_last (reverse groups) size, sum_first size groups, sum_reversed groups)

few_more : (n m : ℕ) → n ≤ 64 → nat_lt 64 (max n m) ≡ nat_lt 64 m
few_more n m few = grind (arith, nat_tests)

many : (n m : ℕ) → 64 < n → nat_lt 64 (max n m) ≡ true
many n m lots = grind (arith, nat_tests)

-- the tokens behind the first
abbrev pub others : List Token → List Token
others tokens = take (length tokens - 1) (drop 1 tokens)

others-are : (token : Token) (tokens : List Token) → others (token ∷ tokens) ≡ tokens
others-are token tokens = take_rest (token ∷ tokens) 1

-- the groups once the first token has come
abbrev pub first_open : Bool → List ℕ → Token → List Token → List ℕ
first_open behind groups token tokens = groups_at token.kind behind (begins_with_left_bracket (kinds_of (others tokens))) groups

open_first : (behind : Bool) (groups now : List ℕ) (token : Token) (tokens : List Token) → 1 ≤ length tokens → token ≡ get_or tokens 0 token → now ≡ first_open behind groups token tokens
    → nat_lt 64 (greatest (open_from behind groups (kinds_of tokens))) ≡ nat_lt 64 (max (sum now) (greatest (open_from (is_right_bracket token.kind) now (kinds_of (others tokens)))))
open_first behind groups now token [] some first is = absurd (omega arith)
open_first behind groups now token (t ∷ ts) some first is =
    let later : now ≡ groups_at token.kind behind (begins_with_left_bracket (kinds_of ts)) groups = is ∙ ap (λ (l : List Token). groups_at token.kind behind (begins_with_left_bracket (kinds_of l)) groups) (others-are t ts) in
    ap (λ (u : Token). nat_lt 64 (greatest (open_from behind groups (u.kind ∷ kinds_of ts)))) (sym first)
    ∙ ap (λ (g : List ℕ). nat_lt 64 (max (sum g) (greatest (open_from (is_right_bracket token.kind) g (kinds_of ts))))) (sym later)
    ∙ ap (λ (l : List Token). nat_lt 64 (max (sum now) (greatest (open_from (is_right_bracket token.kind) now (kinds_of l))))) (sym (others-are t ts))

-- a token at which few brackets are open, and the others
pub few_open : (behind : Bool) (groups now : List ℕ) (token : Token) (tokens : List Token) (deep : Bool) → 1 ≤ length tokens → token ≡ get_or tokens 0 token → now ≡ first_open behind groups token tokens → sum now ≤ 64
    → nat_lt 64 (greatest (open_from behind groups (kinds_of tokens))) ≡ deep → nat_lt 64 (greatest (open_from (is_right_bracket token.kind) now (kinds_of (others tokens)))) ≡ deep
few_open behind groups now token tokens deep some first is few so_far =
    sym (few_more (sum now) (greatest (open_from (is_right_bracket token.kind) now (kinds_of (others tokens)))) few) ∙ sym (open_first behind groups now token tokens some first is) ∙ so_far

-- a token at which many are
pub many_open : (behind : Bool) (groups now : List ℕ) (token : Token) (tokens : List Token) (deep : Bool) → 1 ≤ length tokens → token ≡ get_or tokens 0 token → now ≡ first_open behind groups token tokens → 64 < sum now
    → nat_lt 64 (greatest (open_from behind groups (kinds_of tokens))) ≡ deep → true ≡ deep
many_open behind groups now token tokens deep some first is lots so_far =
    sym (many (sum now) (greatest (open_from (is_right_bracket token.kind) now (kinds_of (others tokens)))) lots) ∙ sym (open_first behind groups now token tokens some first is) ∙ so_far
