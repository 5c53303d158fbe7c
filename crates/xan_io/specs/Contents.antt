-- What a name holds before and after a call. Contents are an `Option` of the bytes: `None` where they are not told, and then no
-- clause says anything of them. Where they are told, a name that no file has holds no bytes.
use Rattle.std.specs.Prelude.{◌≡◌, ℕ, ◌<◌, ◌≤◌, ◌⊎◌, List, length, take, Option, option_map, IfSome}
use Rattle.xan_io.specs.declared.files.FileRead.{FileRead}
use Rattle.xan_io.specs.declared.files.FileRead.TheVariants.{Whole, TooLong}

-- the content after these bytes took its place
abbrev pub replaced : Option (List ℕ) → List ℕ → Option (List ℕ)
replaced told bytes = option_map (λ _. bytes) told

-- What a read of at most so many bytes answers where a name holds this: the whole content where it has no more bytes than that, told
-- or not, and else that it is too long.
abbrev pub ReadsAs : Option (List ℕ) → ℕ → FileRead → Type 0
ReadsAs told most (Whole bytes) = (length bytes.items ≤ most) × (told ≡ replaced told bytes.items)
ReadsAs told most TooLong = IfSome told (λ content. most < length content)

-- What a write that failed left: what was there, or a prefix of the bytes.
abbrev pub LeavesPrefix : Option (List ℕ) → Option (List ℕ) → List ℕ → Type 0
LeavesPrefix before after bytes = (after ≡ before) ⊎ ((count : ℕ) × (after ≡ replaced before (take count bytes)))
