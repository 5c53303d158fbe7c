-- Lines of output.
use Rattle.std.specs.Prelude.{ℕ, ℤ, List, ◌++◌, codes}
use Rattle.std.specs.Fmt.{signed_decimal}

-- the line of a number
abbrev pub number_line : ℤ → List ℕ
number_line number = signed_decimal number ++ codes "\n"
