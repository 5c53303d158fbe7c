use Rattle.source_safety.proofs.GoingOn.{going_stands}
use Rattle.source_safety.proofs.JoinsFare.{entered_stands}
use Rattle.source_safety.proofs.laws.joins_fare.Goals as goal

pub returns-clause-entered : goal.returns-clause-entered
returns-clause-entered c = λ site clause changed at st latest end here start more joint before env assignment old new is enters goals le listed stands goes brings.
    entered_stands site clause changed st latest end before env assignment old new le listed stands goes brings at here start more joint is enters goals

pub returns-clause-goes_on : goal.returns-clause-goes_on
returns-clause-goes_on c = λ site changed vars st latest end before env assignment old new le within stands goes brings.
    going_stands site changed vars st latest end before env assignment old new le within stands goes brings
