-- The places of an activation: their text, which numbers are places, and the words with which they begin.
use Rattle.std.specs.Prelude.{ℕ, ◌-◌, ◌<◌, ℤ, pos, List, ◌++◌, length, replicate, nat_lt, if◌then◌else◌, codes, decimal}

-- `r0` to `r15`, then `s0` and on
abbrev pub place_text : ℕ → List ℕ
place_text place = if nat_lt place 16 then codes "r" ++ decimal place else codes "s" ++ decimal (place - 16)

abbrev pub IsRegister : ℕ → Type 0
IsRegister number = number < 16

abbrev pub IsPlace : ℕ → Type 0
IsPlace number = number < 256

-- the 256 places of an activation that begins: these words first, then 0
unfoldable pub places_of : List ℤ → List ℤ
places_of words = words ++ replicate (256 - length words) (pos 0)
