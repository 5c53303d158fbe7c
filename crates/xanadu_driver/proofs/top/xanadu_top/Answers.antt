use Rattle.xanadu_driver.proofs.CauseLaws.{went_reported, went_complete}
use Rattle.xanadu_driver.proofs.top.xanadu_top.Goals as goal

pub returns : goal.returns
returns g c = record {
  went = c.execute.ensures.went;
  others = c.execute.ensures.others;
  reported = went_reported _ _ _ _ c.execute.ensures.went;
  complete = went_complete _ _ _ _ c.execute.ensures.went;
}
