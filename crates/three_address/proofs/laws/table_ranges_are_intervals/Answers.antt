use Rattle.three_address.proofs.HeldRanges.{is-interval}
use Rattle.three_address.proofs.laws.table_ranges_are_intervals.Goals as goal

pub returns : goal.returns
returns c = λ fun count place first last done some small e f. is-interval fun count done some place small first last e f
