use Rattle.std.proofs.Common.{◌≡◌}
use Rattle.command_reports.specs.Listing.{HasPool}
use Rattle.command_reports.proofs.Listings.{Puts}
use Rattle.command_reports.proofs.listing.put_goals.Given as goal

abbrev pub invariant-goals : goal.invariant-goals
invariant-goals g l = record {
  puts : Puts l.goals l.number (g.O.Sink.written l.fn.out) (g.O.Sink.written l.out) l.status;
  counted : g.O.Sink.faults l.out ≡ g.O.Sink.faults l.fn.out;
  room : HasPool l.work.pool;
}
