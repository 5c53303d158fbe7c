-- What a sink was given so far. It is an `Option` of the bytes: `None` where they are not told.
use Rattle.std.specs.Prelude.{◌≡◌, ℕ, List, take, Option}
use Rattle.std.specs.Io.KnownBytes.{append_known}

-- A prefix of the bytes came behind what was written, as a call that failed leaves it.
pub record AppendsPrefix (before after : Option (List ℕ)) (bytes : List ℕ) : Type 0 where
  pub count : ℕ
  pub appended : after ≡ append_known before (take count bytes)
