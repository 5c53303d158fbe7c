-- Which bytes are a function's name, by the definition of the text and by that of the reader.
use Rattle.std.proofs.Common.{◌≡◌, ℕ, Bool, true, false, not, ◌&&◌, ◌||◌, List, [], ◌∷◌, IsTrue, refl, sym, ap, ◌∙◌}
use Rattle.std.specs.Prelude.{bytes_eq}
use Rattle.std.specs.List.{list_all, list_any}
use Rattle.std.proofs.lemmas.Bool.{and_parts, and_from}
use Rattle.std.proofs.lemmas.Slice.Eq.{bytes_eq-Decides}
use Rattle.xan_read.specs.Names.{in_name, all_in_name, is_name, is_among, IsName}
use Rattle.dtal_code.specs.Lower.{is_within, is_small_letter, is_word_byte, keywords, is_lower}

or_turned : (s u d e : Bool) → (s || u || d || e) ≡ ((d || u) || s || e)
or_turned true true true e = refl
or_turned true true false e = refl
or_turned true false true e = refl
or_turned true false false e = refl
or_turned false true true e = refl
or_turned false true false e = refl
or_turned false false true e = refl
or_turned false false false e = refl

word_byte : (b : ℕ) → is_word_byte b ≡ in_name b
word_byte b = or_turned (is_small_letter b) (is_within 65 90 b) (is_within 48 57 b) _

all_same : (text : List ℕ) → list_all is_word_byte text ≡ all_in_name text
all_same [] = refl
all_same (b ∷ text) = rw (word_byte b, all_same text) refl

both_true : (x y : Bool) → (x ≡ true → y ≡ true) → (y ≡ true → x ≡ true) → x ≡ y
both_true true y h k = sym (h refl)
both_true false true h k = k refl
both_true false false h k = refl

bytes_turned : (a b : List ℕ) → bytes_eq a b ≡ bytes_eq b a
bytes_turned a b = both_true (bytes_eq a b) (bytes_eq b a)
    (λ e. (bytes_eq-Decides b a).1 (sym ((bytes_eq-Decides a b).0 e))) (λ e. (bytes_eq-Decides a b).1 (sym ((bytes_eq-Decides b a).0 e)))

any_same : (text : List ℕ) (words : List (List ℕ)) → list_any (bytes_eq text) words ≡ is_among words text
any_same text [] = refl
any_same text (word ∷ words) = rw (bytes_turned text word, any_same text words) refl

lower_same : (text : List ℕ) → is_lower text ≡ (is_name text && not (is_among keywords text))
lower_same [] = refl
lower_same (b ∷ text) = rw (all_same text, any_same (b ∷ text) keywords) refl

not_true : (b : Bool) → not b ≡ true → b ≡ false
not_true true e = absurd cc
not_true false e = refl

pub lower_from : (n text : List ℕ) → IsName keywords n text → IsTrue (is_lower n)
lower_from n text i =
    let e : is_among keywords text ≡ false = i.other in
    ap is_lower i.is ∙ lower_same text ∙ and_from (is_name text) (not (is_among keywords text)) i.name (ap not e)

pub lower_to : (n : List ℕ) → IsTrue (is_lower n) → IsName keywords n n
lower_to n h =
    let parts = and_parts (is_name n) (not (is_among keywords n)) (sym (lower_same n) ∙ h) in
    record { is = refl; name = parts.0; other = not_true (is_among keywords n) parts.1 }
