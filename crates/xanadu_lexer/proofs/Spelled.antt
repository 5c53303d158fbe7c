-- The text of each token stands at its place.
use Rattle.std.proofs.Common.{◌≡◌, ◌∙◌, sym, ap, subst, ℕ, ◌+◌, ◌-◌, ◌*◌, ◌^◌, ◌<◌, ◌≤◌, true, List, [], ◌∷◌, ◌++◌, length, drop, Result, Ok, Err, refl, arith, append_assoc, length-append}
use Rattle.std.specs.Prelude.{IfOk, decimal}
use Rattle.std.specs.Char.{is_ascii_digit, digit_value}
use Rattle.std.specs.Str.Parse.{AllDigits, digits_value_after}
use Rattle.std.proofs.lemmas.Str.{digit_value_digit}
use Rattle.std.proofs.lemmas.Str.Parse.{IsNumeralModel, digit_from_value}
use Rattle.std.proofs.lemmas.Fmt.{decimal-digits_value}
use Rattle.std.proofs.Math.Seq.{drop-append_seam}
use Rattle.xanadu_lexer.specs.declared.error.LexError.{LexError}
use Rattle.xanadu_lexer.specs.declared.token.Token.{Token}
use Rattle.xanadu_lexer.specs.declared.token.TokenKind.{TokenKind}
use Rattle.xanadu_lexer.specs.declared.token.TokenKind.TheVariants as kind
use Rattle.xanadu_lexer.specs.Spelling.{number_text, spelled, value_from, value}
use Rattle.xanadu_lexer.specs.Rules.{Each, IsNumber, IsToken, with_token, Lexes, Ended, AfterGap, AfterToken, BadNumber, BadByte, IsSpelledIn, AreSpelledIn}
use Rattle.xanadu_lexer.specs.Lexing.{lexed}
use Rattle.xanadu_lexer.proofs.ByRules.{lexed_by_rules}

-- ---- numbers

digits-to : (text : List ℕ) → Each is_ascii_digit text → AllDigits 10 text
digits-to [] each = tt
digits-to (digit ∷ text) each =
    let is : is_ascii_digit digit ≡ true = each.0 in
    let between : (48 ≤ digit) × (digit ≤ 57) = (grind arith, grind arith) in
    (omega (arith, between, digit_value_digit digit between), digits-to text each.1)

digits-from : (text : List ℕ) → AllDigits 10 text → Each is_ascii_digit text
digits-from [] all = tt
digits-from (digit ∷ text) all =
    let between : (48 ≤ digit) × (digit ≤ 57) = digit_from_value digit all.0 in
    (grind arith, digits-from text all.1)

value_from-same : (n : ℕ) (text : List ℕ) → AllDigits 10 text → value_from n text ≡ digits_value_after 10 n text
value_from-same n [] all = refl
value_from-same n (digit ∷ text) all =
    let is : 10 * n + (digit - 48) ≡ n * 10 + digit_value digit = omega (arith, digit_value_digit digit (digit_from_value digit all.0)) in
    rw is (value_from-same (n * 10 + digit_value digit) text all.1)

numerals : IsNumeralModel (Each is_ascii_digit) value
numerals = record { to = digits-to; from = digits-from; same = value_from-same 0 }

number-spelled : (n : ℕ) (text : List ℕ) → IsNumber n text → text ≡ decimal n
number-spelled n text is =
    let small : value text < 2 ^ 64 = omega (arith, is.is, is.fits) in
    sym (decimal-digits_value numerals text is.digits is.some is.trimmed small) ∙ ap decimal is.is

pub token-spelled : (kind : TokenKind) (text : List ℕ) → IsToken kind text → text ≡ spelled kind
token-spelled (kind.Lower name) text is = is.0
token-spelled (kind.Upper name) text is = is.0
token-spelled (kind.Num number) text is = number-spelled is.0 text is.2 ∙ ap number_text (sym is.1)
token-spelled (kind.Keyword keyword) text is = is
token-spelled (kind.Symbol symbol) text is = is

-- ---- places

abbrev SpelledIn : List ℕ → Result (List Token) LexError → Type 0
SpelledIn bytes answer = IfOk answer (λ tokens. AreSpelledIn bytes tokens)

spelled-with : (bytes : List ℕ) (token : Token) (answer : Result (List Token) LexError) → IsSpelledIn bytes token → SpelledIn bytes answer
    → SpelledIn bytes (with_token token answer)
spelled-with bytes token (Ok tokens) here onward = (here, onward)
spelled-with bytes token (Err _) here onward = tt

spelled_from : (at : ℕ) (bytes : List ℕ) (answer : Result (List Token) LexError) → Lexes at bytes answer
    → (front : List ℕ) → length front ≡ at → SpelledIn (front ++ bytes) answer
spelled_from _ _ _ (Ended at) front here = tt
spelled_from _ _ _ (AfterGap at text rest answer gap longest onward) front here =
    let longer : length (front ++ text) ≡ at + length text = grind (arith, length-append) in
    subst (λ bytes. SpelledIn bytes answer) (append_assoc front text rest) (spelled_from _ _ _ onward (front ++ text) longer)
spelled_from _ _ _ (AfterToken at text rest kind answer is longest onward) front here =
    let longer : length (front ++ text) ≡ at + length text = grind (arith, length-append) in
    let stands : drop at (front ++ (text ++ rest)) ≡ spelled kind ++ rest =
    subst (λ n. drop n (front ++ (text ++ rest)) ≡ spelled kind ++ rest) here (drop-append_seam front (text ++ rest) ∙ ap (λ bytes. bytes ++ rest) (token-spelled kind text is)) in
    spelled-with (front ++ (text ++ rest)) (record { at = at; kind = kind }) answer (rest, stands)
    (subst (λ bytes. SpelledIn bytes answer) (append_assoc front text rest) (spelled_from _ _ _ onward (front ++ text) longer))
spelled_from _ _ _ (BadNumber at text rest each longest none) front here = tt
spelled_from _ _ _ (BadByte at first rest none) front here = tt

pub lexed_spelled : (bytes : List ℕ) → IfOk (lexed bytes) (λ tokens. AreSpelledIn bytes tokens)
lexed_spelled bytes = spelled_from 0 bytes (lexed bytes) (lexed_by_rules bytes) [] refl
