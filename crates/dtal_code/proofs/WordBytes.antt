-- Words of bytes: how large they are, and that their bytes are read off them again.
use Rattle.std.proofs.Common.{arith, ◌≡◌, ◌∙◌, ℕ, zero, suc, ◌+◌, ◌*◌, ◌/◌, ◌%◌, ◌-◌, ◌^◌, ◌<◌, ◌≤◌, List, [], ◌∷◌, length, refl, ap}
use Rattle.std.specs.List.{All}
use Rattle.std.proofs.lemmas.List.Elements.{All-head, All-tail}
use Rattle.dtal_code.specs.Guessed.{bytes_in, first_of, second_of, third_of, high_of}
use Rattle.dtal_code.specs.ObjectWords.{word_of}
use Rattle.dtal_code.specs.Places.{IsPlace}

-- ---- bytes of a list

pub power_positive : (room : ℕ) → 0 < 256 ^ room
power_positive zero = omega arith
power_positive (suc room) = let more = power_positive room in omega arith

-- a byte before a word of so many bytes
pub more_small : (room byte word left : ℕ) → byte < 256 → ((more : ℕ) → left ≤ more → word < 256 ^ more) → suc left ≤ room → byte + 256 * word < 256 ^ room
more_small zero byte word left less small few = absurd (omega arith)
more_small (suc room) byte word left less small few = let rest = small room (omega arith) in omega arith

low_byte : (byte word : ℕ) → byte < 256 → (byte + 256 * word) % 256 ≡ byte
low_byte byte word less = omega arith

rest_of_word : (byte word : ℕ) → byte < 256 → (byte + 256 * word) / 256 ≡ word
rest_of_word byte word less = omega arith

pub bytes_again : (bytes : List ℕ) → All IsPlace bytes → bytes_in (length bytes) (word_of bytes) ≡ bytes
unfolding word_of bytes_in
bytes_again [] are = refl
bytes_again (byte ∷ bytes) are =
    let less = All-head IsPlace byte bytes are in
    ap (λ low. low ∷ bytes_in (length bytes) ((byte + 256 * word_of bytes) / 256)) (low_byte byte (word_of bytes) less)
    ∙ ap (λ rest. byte ∷ bytes_in (length bytes) rest) (rest_of_word byte (word_of bytes) less)
    ∙ ap (λ others. byte ∷ others) (bytes_again bytes (All-tail IsPlace byte bytes are))

less_one : (left : ℕ) → left ≡ suc left - 1
less_one left = omega arith

pub next_byte : (left word : ℕ) → 0 < left → bytes_in left word ≡ word % 256 ∷ bytes_in (left - 1) (word / 256)
unfolding bytes_in
next_byte zero word some = absurd (omega arith)
next_byte (suc left) word some = ap (λ n. word % 256 ∷ bytes_in n (word / 256)) (less_one left)

-- ---- parts of a word

pub record Parts (opcode a b c high word : ℕ) : Type 0 where
  pub opcode_is : word % 256 ≡ opcode
  pub first_is : first_of word ≡ a
  pub second_is : second_of word ≡ b
  pub third_is : third_of word ≡ c
  pub high_is : high_of word ≡ high

pub parts : (opcode a b c high : ℕ) → opcode < 256 → a < 256 → b < 256 → c < 256 → Parts opcode a b c high (word_of (opcode ∷ a ∷ b ∷ c ∷ high ∷ []))
unfolding word_of
parts opcode a b c high o-less a-less b-less c-less = record {
  opcode_is = omega arith;
  first_is = omega arith;
  second_is = omega arith;
  third_is = omega arith;
  high_is = omega arith;
}
