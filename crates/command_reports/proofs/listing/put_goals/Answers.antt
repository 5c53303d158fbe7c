use Rattle.std.proofs.Common.{rules, ◌∙◌}
use Rattle.command_reports.proofs.Listings.{puts_one, puts_cut, puts_status, puts_all}
use Rattle.command_reports.proofs.listing.put_goals.Goals as goal

pub returns-in_err-found-clause-prefix : goal.returns-in_err-found-clause-prefix
returns-in_err-found-clause-prefix g c =
    let part =
    puts_cut c.args.goals.now c.goals.number c.index-goals-number.result _ _ _ c.goals.status c.goals-test.true c.index-goals-number.is c.goals.invariant.puts
    c.in_err-found.ensures.prefix in
    search (rules, part)

pub goals-preserved : goal.goals-preserved
goals-preserved g c = record {
  puts =
      puts_one c.args.goals.now c.goals.number c.index-goals-number.result _ _ _ c.goals.status c.goals-test.true c.index-goals-number.is c.goals.invariant.puts
      c.in_ok-found.found _ c.in_ok-found.ensures.status c.first_status-status.ensures c.in_ok-found.ensures.appended;
  counted = c.in_ok-found.ensures.counted ∙ c.goals.invariant.counted;
  room = c.in_ok-found.ensures.room;
}

pub returns-clause-status : goal.returns-clause-status
returns-clause-status g c = puts_status c.args.goals.now c.goals.number _ _ c.goals.status c.goals-test.false c.goals.invariant.puts

pub returns-clause-appended : goal.returns-clause-appended
returns-clause-appended g c = puts_all c.args.goals.now c.goals.number _ _ c.goals.status c.goals-test.false c.goals.invariant.puts
