-- What is read of a word is the one argument that it spells.
use Rattle.std.proofs.Common.{◌≡◌, ℕ, ◌≤◌, ◌<◌, true, false, FitsSigned, List, [], ◌∷◌, ◌++◌, length, Some, Result, Ok, Err, ℤ, pos, negsuc, codes, refl, sym, ap, subst, ◌∙◌, arith, inl, inr}
use Rattle.std.specs.Fmt.{signed_decimal}
use Rattle.std.specs.Int.{w64}
use Rattle.std.proofs.lemmas.List.{append-nil, length-append}
use Rattle.std.proofs.lemmas.Fmt.{decimal_nonempty}
use Rattle.xan_read.specs.Reader.{Exact, ReadsWhole}
use Rattle.xan_read.specs.Combinators.{give, IsGiven, InTurn, Either, next_passes, after}
use Rattle.xan_read.specs.Numbers.{NoDigit}
use Rattle.xan_read.specs.Integers.{integer, IsInteger, IsFromTo}
use Rattle.xan_read.specs.Lists.{IsSeparated, AreBehind, Ends}
use Rattle.xan_read.specs.Spelled.{Any, Spelled}
use Rattle.xan_read.specs.Words.{IsWord}
use Rattle.xan_read.proofs.ReaderLaws.{exact-give, exact-in_turn, exact-by_next, exact_as, reads_whole}
use Rattle.xan_read.proofs.IntegerLaws.{exact-integer}
use Rattle.xan_read.proofs.ListLaws.{exact-separated}
use Rattle.xan_read.proofs.WordLaws.{exact-word}
use Rattle.xan_io.specs.declared.arg.Arg.{Arg}
use Rattle.xan_io.specs.declared.arg.Arg.TheVariants.{Int, Bool, Array}
use Rattle.xan_io.specs.declared.arguments.Head.{Head}
use Rattle.xan_io.specs.declared.arguments.Head.TheVariants as head
use Rattle.xan_io.specs.Entry.{AreWords, IsWordArg}
use Rattle.xan_io.specs.Arguments.{further_cells, cells_text, arg_text, IsArg, heads, word_number, cells, behind_head, front, read_of, arg_of}

-- ---- numbers

fits_word : (z : ℤ) → IsFromTo 9223372036854775808 9223372036854775807 z → FitsSigned w64 z
fits_word (pos n) h = grind arith
fits_word (negsuc n) h = grind arith

within_word : (z : ℤ) → FitsSigned w64 z → IsFromTo 9223372036854775808 9223372036854775807 z
within_word (pos n) h = let s = h.sfits in omega arith
within_word (negsuc n) h = let s = h.sfits in omega arith

abbrev IsNumber64 : ℤ → List ℕ → Type 0
IsNumber64 = Spelled Any (FitsSigned w64) signed_decimal

-- a number of 64 bits, for whoever reads one
pub exact-integer64 : Exact (integer 9223372036854775808 9223372036854775807) (Spelled Any (FitsSigned w64) signed_decimal) NoDigit
exact-integer64 = exact_as _ (IsInteger 9223372036854775808 9223372036854775807) _ NoDigit NoDigit
    (exact-integer 9223372036854775808 9223372036854775807 (omega arith) (omega arith) (omega arith))
    (λ z text i. record { known = tt; fits = fits_word z i.within; is = i.is })
    (λ z text s. record { within = within_word z s.fits; is = s.is }) (λ _ h. h)

exact-number : Exact word_number IsNumber64 NoDigit
unfolding word_number
exact-number = exact-integer64

-- ---- numbers up to the end of a word

abbrev AtEnd : List ℕ → Type 0
AtEnd rest = rest ≡ []

some_next : (bytes rest : List ℕ) → 0 < length bytes → next_passes (λ _. true) (bytes ++ rest) ≡ true
some_next [] rest h = absurd (omega (arith, h))
some_next (b ∷ bytes) rest h = refl

none_next : (bytes rest : List ℕ) → bytes ≡ [] → rest ≡ [] → next_passes (λ _. true) (bytes ++ rest) ≡ false
none_next [] [] e h = refl
none_next [] (b ∷ rest) e h = absurd cc
none_next (b ∷ bytes) rest e h = absurd cc

number_nonempty : (z : ℤ) → FitsSigned w64 z → 0 < length (signed_decimal z)
number_nonempty (pos n) h = let s = h.sfits in decimal_nonempty n (omega arith)
number_nonempty (negsuc n) h = omega arith

further_nonempty : (cells : List ℤ) → length cells ≤ length (further_cells cells)
further_nonempty [] = omega arith
further_nonempty (cell ∷ cells) = let h = further_nonempty cells in let l = length-append (signed_decimal cell) (further_cells cells) in omega (arith, h, l)

abbrev AreCells : ℕ → List ℤ → List ℕ → Type 0
AreCells room = Either (IsSeparated 44 room IsNumber64) (IsGiven [])

starts : (room : ℕ) (numbers : List ℤ) (text rest : List ℕ) → IsSeparated 44 room IsNumber64 numbers text → next_passes (λ _. true) (text ++ rest) ≡ true
starts room [] text rest s = absurd s
starts room (z ∷ zs) text rest s =
    let some : 0 < length s.0 = subst (λ (t : List ℕ). 0 < length t) (sym s.2.is) (number_nonempty z s.2.fits) in
    ap (λ (t : List ℕ). next_passes (λ _. true) (t ++ rest)) s.4 ∙ some_next (s.0 ++ s.1) rest (let l = length-append s.0 s.1 in omega (arith, some, l))

exact-cells : (room : ℕ) → Exact (cells room) (AreCells room) AtEnd
unfolding cells after
exact-cells room = exact-by_next (λ _. true) _ _ _ (IsGiven []) (λ _. Unit {0}) AtEnd
    (exact_as _ _ _ (Ends NoDigit 44) AtEnd (exact-separated 44 word_number IsNumber64 NoDigit exact-number (λ _. refl) room) (λ _ _ h. h) (λ _ _ h. h)
    (λ rest h. subst (λ (t : List ℕ). Ends NoDigit 44 t) (sym h) (record { item = tt; list = refl })))
    (exact-give []) (λ numbers text rest s h. starts room numbers text rest s) (λ numbers text rest g h. (tt, none_next text rest g.nothing h))

behind_is : (cells : List ℤ) (text : List ℕ) → AreBehind 44 IsNumber64 cells text → AreWords cells × (text ≡ further_cells cells)
behind_is [] text h = (tt, h)
behind_is (cell ∷ cells) text h =
    let rest = behind_is cells h.1 h.3 in
    ((h.2.fits, rest.0), h.4 ∙ ap (λ (t : List ℕ). 44 ∷ (t ++ h.1)) h.2.is ∙ ap (λ (t : List ℕ). 44 ∷ (signed_decimal cell ++ t)) rest.1)

behind_from : (cells : List ℤ) → AreWords cells → AreBehind 44 IsNumber64 cells (further_cells cells)
behind_from [] h = refl
behind_from (cell ∷ cells) h = (signed_decimal cell, further_cells cells, record { known = tt; fits = h.0; is = refl }, behind_from cells h.1, refl)

cells_are : (room : ℕ) (numbers : List ℤ) (text : List ℕ) → AreCells room numbers text → AreWords numbers × (text ≡ cells_text numbers)
cells_are room [] text (inl s) = absurd s
cells_are room (z ∷ zs) text (inl s) =
    let rest = behind_is zs s.1 s.3.are in
    ((s.2.fits, rest.0), s.4 ∙ ap (λ (t : List ℕ). t ++ s.1) s.2.is ∙ ap (λ (t : List ℕ). signed_decimal z ++ t) rest.1)
cells_are room numbers text (inr g) = (subst AreWords (sym g.value) tt, g.nothing ∙ ap cells_text (sym g.value))

cells_from : (room : ℕ) (numbers : List ℤ) → AreWords numbers → length (cells_text numbers) ≤ room → AreCells room numbers (cells_text numbers)
cells_from room [] h few = inr (record { value = refl; nothing = refl })
cells_from room (z ∷ zs) h few =
    let l = length-append (signed_decimal z) (further_cells zs) in
    let m = further_nonempty zs in
    inl (signed_decimal z, further_cells zs, record { known = tt; fits = h.0; is = refl }, record { few = omega (arith, l, m, few); are = behind_from zs h.1 }, refl)

-- ---- behind the head

abbrev IsBehindHead : ℕ → Head → Arg → List ℕ → Type 0
IsBehindHead room head.Int = InTurn IsNumber64 (λ number. IsGiven (Int number))
IsBehindHead room head.True = IsGiven (Bool true)
IsBehindHead room head.False = IsGiven (Bool false)
IsBehindHead room head.Array = InTurn (AreCells room) (λ numbers. IsGiven (Array numbers))

-- a value without bytes, at the end
given : (arg : Arg) → Exact (give arg) (IsGiven arg) AtEnd
given arg = exact_as _ (IsGiven arg) (IsGiven arg) (λ _. Unit {0}) AtEnd (exact-give arg) (λ _ _ h. h) (λ _ _ h. h) (λ _ _. tt)

ended : (back rest : List ℕ) → back ≡ [] → rest ≡ [] → back ++ rest ≡ []
ended [] [] e h = refl
ended [] (b ∷ rest) e h = absurd cc
ended (b ∷ back) rest e h = absurd cc

exact-behind_head : (room : ℕ) (h : Head) → Exact (behind_head room h) (IsBehindHead room h) AtEnd
unfolding behind_head
exact-behind_head room head.Int = exact-in_turn _ _ IsNumber64 (λ number. IsGiven (Int number)) NoDigit AtEnd exact-number (λ number _ _. given (Int number))
    (λ number y back rest g h. subst NoDigit (sym (ended back rest g.nothing h)) tt)
exact-behind_head room head.True = given (Bool true)
exact-behind_head room head.False = given (Bool false)
exact-behind_head room head.Array = exact-in_turn _ _ (AreCells room) (λ numbers. IsGiven (Array numbers)) AtEnd AtEnd (exact-cells room) (λ numbers _ _. given (Array numbers))
    (λ numbers y back rest g h. ended back rest g.nothing h)

-- ---- a whole word

abbrev IsFront : ℕ → Arg → List ℕ → Type 0
IsFront room = InTurn (IsWord heads) (IsBehindHead room)

exact-front : (room : ℕ) → Exact (front room) (IsFront room) AtEnd
unfolding front
exact-front room = exact-in_turn _ _ (IsWord heads) (IsBehindHead room) (λ _. Unit {0}) AtEnd (exact-word _ _ refl) (λ h _ _. exact-behind_head room h) (λ _ _ _ _ _ _. tt)

reads_front : (room : ℕ) → ReadsWhole (front room) (IsFront room)
reads_front room = reads_whole _ (IsFront room) AtEnd (exact-front room) refl

abbrev head_text : Head → List ℕ
head_text head.Int = codes "int="
head_text head.True = codes "bool=true"
head_text head.False = codes "bool=false"
head_text head.Array = codes "arr="

word_is : (h : Head) (text : List ℕ) → IsWord heads h text → text ≡ head_text h
word_is h text (inl w) = w.1 ∙ ap head_text (sym w.0)
word_is h text (inr (inl w)) = w.1 ∙ ap head_text (sym w.0)
word_is h text (inr (inr (inl w))) = w.1 ∙ ap head_text (sym w.0)
word_is h text (inr (inr (inr (inl w)))) = w.1 ∙ ap head_text (sym w.0)
word_is h text (inr (inr (inr (inr w)))) = absurd w

is_word : (h : Head) → IsWord heads h (head_text h)
is_word head.Int = inl (refl, refl)
is_word head.True = inr (inl (refl, refl))
is_word head.False = inr (inr (inl (refl, refl)))
is_word head.Array = inr (inr (inr (inl (refl, refl))))

made : (arg given : Arg) (text back : List ℕ) → arg ≡ given → IsWordArg given → text ≡ back → back ≡ arg_text given → IsArg arg text
made arg given text back e words t is = record { words = subst IsWordArg (sym e) words; is = t ∙ is ∙ ap arg_text (sym e) }

behind_head_is : (room : ℕ) (h : Head) (arg : Arg) (back : List ℕ) → IsBehindHead room h arg back → IsArg arg (head_text h ++ back)
behind_head_is room head.Int arg back i =
    made arg (Int i.value) _ _ i.second.value i.first.fits (ap (λ (t : List ℕ). codes "int=" ++ t) (i.parts ∙ ap (λ (t : List ℕ). i.front ++ t) i.second.nothing ∙ append-nil i.front ∙ i.first.is)) refl
behind_head_is room head.True arg back g = made arg (Bool true) _ _ g.value tt (ap (λ (t : List ℕ). codes "bool=true" ++ t) g.nothing) refl
behind_head_is room head.False arg back g = made arg (Bool false) _ _ g.value tt (ap (λ (t : List ℕ). codes "bool=false" ++ t) g.nothing) refl
behind_head_is room head.Array arg back i =
    let are = cells_are room i.value i.front i.first in
    made arg (Array i.value) _ _ i.second.value are.0 (ap (λ (t : List ℕ). codes "arr=" ++ t) (i.parts ∙ ap (λ (t : List ℕ). i.front ++ t) i.second.nothing ∙ append-nil i.front ∙ are.1)) refl

front_is : (room : ℕ) (arg : Arg) (text : List ℕ) → IsFront room arg text → IsArg arg text
front_is room arg text i =
    subst (λ (t : List ℕ). IsArg arg t) (sym (i.parts ∙ ap (λ (t : List ℕ). t ++ i.back) (word_is i.value i.front i.first))) (behind_head_is room i.value arg i.back i.second)

turned : (room : ℕ) (h : Head) (arg : Arg) (back : List ℕ) → IsBehindHead room h arg back → IsFront room arg (head_text h ++ back)
turned room h arg back i = record { value = h; front = head_text h; back = back; first = is_word h; second = i; parts = refl }

front_from : (room : ℕ) (arg : Arg) → IsWordArg arg → length (arg_text arg) ≤ room → IsFront room arg (arg_text arg)
front_from room (Int number) h few = turned room head.Int (Int number) (signed_decimal number)
    (record { value = number; front = signed_decimal number; back = []; first = record { known = tt; fits = h; is = refl }; second = record { value = refl; nothing = refl }; parts = sym (append-nil (signed_decimal number)) })
front_from room (Bool true) h few = turned room head.True (Bool true) [] (record { value = refl; nothing = refl })
front_from room (Bool false) h few = turned room head.False (Bool false) [] (record { value = refl; nothing = refl })
front_from room (Array numbers) h few = turned room head.Array (Array numbers) (cells_text numbers)
    (record { value = numbers; front = cells_text numbers; back = []; first = cells_from room numbers h (omega (arith, few)); second = record { value = refl; nothing = refl }; parts = sym (append-nil (cells_text numbers)) })

-- ---- the two laws

read_is : (r : Result Arg ℕ) (arg : Arg) → read_of r ≡ Some arg → r ≡ Ok arg
read_is (Ok x) arg e = cc
read_is (Err n) arg e = absurd cc

pub found : (text : List ℕ) (arg : Arg) → arg_of text ≡ Some arg → IsArg arg text
unfolding arg_of
found text arg e = front_is (length text) arg text ((reads_front (length text)).found text arg (read_is _ arg e))

pub only : (text : List ℕ) (arg : Arg) → IsArg arg text → arg_of text ≡ Some arg
unfolding arg_of
only text arg i = ap read_of ((reads_front (length text)).only text arg
    (subst (λ (t : List ℕ). IsFront (length t) arg t) (sym i.is) (front_from (length (arg_text arg)) arg i.words (omega arith))))
