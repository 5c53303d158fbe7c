-- Which classes of bytes exclude each other, and runs of bytes.
use Rattle.std.proofs.Common.{◌≡◌, ℕ, suc, ◌+◌, ◌≤◌, Bool, true, false, cond, List, [], ◌∷◌, ◌++◌, length, take, refl, arith}
use Rattle.std.specs.List.{prefix_len}
use Rattle.std.specs.Char.{is_ascii_digit, is_ascii_alphabetic}
use Rattle.xanadu_lexer.specs.Rules.{is_blank, Each}
use Rattle.xanadu_lexer.specs.Lexing.{begins_comment}

pub letter-blank : (b : ℕ) → is_ascii_alphabetic b ≡ true → is_blank b ≡ false
letter-blank b letter = grind arith

pub digit-blank : (b : ℕ) → is_ascii_digit b ≡ true → is_blank b ≡ false
digit-blank b digit = grind arith

pub digit-letter : (b : ℕ) → is_ascii_digit b ≡ true → is_ascii_alphabetic b ≡ false
digit-letter b digit = grind arith

pub letter-comment : (b : ℕ) (rest : List ℕ) → is_ascii_alphabetic b ≡ true → begins_comment b rest ≡ false
letter-comment b [] letter = refl
letter-comment b (c ∷ rest) letter = grind arith

pub digit-comment : (b : ℕ) (rest : List ℕ) → is_ascii_digit b ≡ true → begins_comment b rest ≡ false
digit-comment b [] digit = refl
digit-comment b (c ∷ rest) digit = grind arith

-- a run is no longer than the longest run that begins so
pub prefix_len-each : (p : ℕ → Bool) (run more : List ℕ) → Each p run → length run ≤ prefix_len p (run ++ more)
prefix_len-each p [] more each = omega arith
prefix_len-each p (b ∷ run) more each = rw each.0 (omega (arith, prefix_len-each p run more each.1))

pub take-one : (n b : ℕ) (text : List ℕ) → take (1 + n) (b ∷ text) ≡ b ∷ take n text
take-one n b text = let one : 1 + n ≡ suc n = omega arith in rw one refl

-- the longest run
each-next : (p : ℕ → Bool) (b : ℕ) (text : List ℕ) (passes : Bool) → p b ≡ passes → Each p (take (prefix_len p text) text)
    → Each p (take (cond passes (1 + prefix_len p text) 0) (b ∷ text))
each-next p b text true e each = rw (take-one (prefix_len p text) b text) (e, each)
each-next p b text false e each = tt

pub each-longest : (p : ℕ → Bool) (text : List ℕ) → Each p (take (prefix_len p text) text)
each-longest p [] = tt
each-longest p (b ∷ text) = each-next p b text (p b) refl (each-longest p text)
