use Rattle.state_types.proofs.MatchPairs.{match_sound}
use Rattle.state_types.proofs.laws.matches_are_sound.Goals as goal

pub returns : goal.returns
returns c = λ below vars rows context wanted actual found assignment e same named types entailed holds.
    match_sound below vars rows context wanted actual found assignment e same named types entailed holds
