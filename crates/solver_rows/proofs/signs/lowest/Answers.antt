use Rattle.std.proofs.Common.{w64}
use Rattle.std.proofs.lemmas.Nat.Bits.{bit_at-trailing_zeros}
use Rattle.solver_rows.proofs.signs.lowest.Goals as goal

pub returns : goal.returns
returns c =
    let h = bit_at-trailing_zeros w64 c.args.columns c.requires c.ranges.columns.fits in
    record { bound = h.0; set = h.1; below = h.2 }
