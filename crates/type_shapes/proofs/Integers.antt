-- Numbers with a sign, as code passes them on.
use Rattle.std.proofs.lemmas.Int.{to_z-of_z}

pub ruleset integers = (to_z-of_z)
