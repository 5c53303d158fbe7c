use Rattle.three_address.proofs.LiveRounds.{live-found}
use Rattle.three_address.proofs.laws.steady_tables_have_all_live_places.Goals as goal

pub returns : goal.returns
returns c = λ fun table fix at place lt live. live-found fun table fix at place lt live
