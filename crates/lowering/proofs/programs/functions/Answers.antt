use Rattle.lowering.proofs.FunctionsMade.{made_turn, few_turn}
use Rattle.lowering.proofs.programs.functions.Goals as goal

pub functions-preserved : goal.functions-preserved
functions-preserved c = record {
  made = made_turn c.args.types.now c.args.results.now c.functions.funs_left.now c.functions.sigs_left.now c.fun-item.result c.sig-item.result c.functions.made.items
      c.push.new.self.items _ c.in_ok-next.next c.in-len1-up.len_at_least c.fun-item.is c.in-len1-up-sigs_left.len_at_least c.sig-item.is
      c.in_ok-next.ensures.made c.in-Ok.ensures.items c.functions.invariant.made;
  few = few_turn c.functions.made.items c.push.new.self.items c.in_ok-next.next c.in-Ok.ensures.items c.in_ok-next.ensures.few c.functions.invariant.few;
}
