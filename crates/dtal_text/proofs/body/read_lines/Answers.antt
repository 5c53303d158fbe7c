use Rattle.std.proofs.Common.{◌+◌, ◌-◌, ◌∙◌, List, length, Ok, sym, ap, arith}
use Rattle.std.proofs.lemmas.Result.{err_from_is_err_and}
use Rattle.dtal_text.specs.Building.{joined, built}
use Rattle.dtal_text.specs.LineReading.{line, behind_line}
use Rattle.dtal_text.specs.ProgramReading.{Gathered, gathered}
use Rattle.dtal_text.specs.declared.line.BodyLine.{BodyLine}
use Rattle.dtal_text.proofs.BuiltBlocks.{gathered_none, gathered_more, lines_begin}
use Rattle.dtal_text.proofs.ChainLoops.{into_more, into_ends, into_fails, into_full}
use Rattle.dtal_text.proofs.body.read_lines.Goals as goal
use Rattle.dtal_text.proofs.body.read_lines.Goals.{in-None-line, in-Some-line}

pub lines-init : goal.lines-init
lines-init c = record {
  is = ap (built c.args.building.now) (sym (lines_begin c.args.bytes.now (1 + (length c.args.bytes.now - 0)) (omega arith)));
  labels = omega arith;
  instrs = omega arith;
}

pub returns-in_err-line : goal.returns-in_err-line
returns-in_err-line c =
    let p = err_from_is_err_and c.from_residual.result c.from_residual.ensures.1 in
    rw (p.1, p.2) (into_fails line behind_line (λ (ls : List BodyLine). joined c.lines.building (gathered ls)) c.lines.state _
    (1 + (length c.args.bytes.now - c.lines.counter)) (length c.args.bytes.now - c.lines.counter) c.lines.rest.now _ (omega arith) c.in_err-line.ensures c.lines.invariant.is)

pub returns-in-None : goal.returns-in-None
returns-in-None c =
    into_ends line behind_line (λ (ls : List BodyLine). joined c.lines.building (gathered ls)) c.lines.state
    (1 + (length c.args.bytes.now - c.lines.counter)) (length c.args.bytes.now - c.lines.counter) c.lines.rest.now c.in_ok-line.others.now _
    (omega arith) (c.in_ok-line.ensures ∙ ap (λ o. Ok (o, c.in_ok-line.others.now)) c.in-None.is) c.lines.invariant.is
    ∙ ap (λ (g : Gathered). Ok (joined c.lines.building g, c.in_ok-line.others.now)) gathered_none

pub lines-preserved : goal.lines-preserved
lines-preserved c = record {
  is = rw c.behind_line-state.ensures.exact
      (into_more line behind_line (λ (ls : List BodyLine). joined c.lines.building (gathered ls)) (λ (ls : List BodyLine). joined c.add.new.self (gathered ls)) c.lines.state c.in-Some.found
      (1 + (length c.args.bytes.now - c.lines.counter)) (1 + (length c.args.bytes.now - (c.lines.counter + 1))) c.lines.rest.now c.in_ok-line.others.now _
      (omega arith) (c.in_ok-line.ensures ∙ ap (λ o. Ok (o, c.in_ok-line.others.now)) c.in-Some.is)
      (λ ls. c.in_ok-add-in-Some.ensures (gathered ls) ∙ ap (λ (g : Gathered). joined c.lines.building g) (sym (gathered_more c.in-Some.found ls))) c.lines.invariant.is);
  labels = omega (arith, c.behind_line-state.ensures.labels, c.lines.invariant.labels);
  instrs = omega (arith, c.behind_line-state.ensures.instrs, c.lines.invariant.instrs);
}

pub returns-in_err-line-2 : goal.returns-in_err-line-2
returns-in_err-line-2 c =
    let p = err_from_is_err_and c.from_residual-in_err-line-2.result c.from_residual-in_err-line-2.ensures.1 in
    rw (p.1, p.2) (into_fails line behind_line (λ (ls : List BodyLine). joined c.lines.building (gathered ls)) c.lines.state _
    (1 + (length c.args.bytes.now - c.lines.counter)) (length c.args.bytes.now - c.lines.counter) c.lines.rest.now _ (omega arith) c.in_err-line-2.ensures c.lines.invariant.is)

pub returns : goal.returns
returns c = elim c.match-line-2.branch [
  | in-None-line w ↦ rw w.result-is (into_ends line behind_line (λ (ls : List BodyLine). joined c.lines.building (gathered ls)) c.lines.state
      (1 + (length c.args.bytes.now - c.lines.counter)) (length c.args.bytes.now - c.lines.counter) c.lines.rest.now c.in_ok-line-2.others.now _
      (omega arith) (c.in_ok-line-2.ensures ∙ ap (λ o. Ok (o, c.in_ok-line-2.others.now)) w.in-None-line.is) c.lines.invariant.is
      ∙ ap (λ (g : Gathered). Ok (joined c.lines.building g, c.in_ok-line-2.others.now)) gathered_none)
  | in-Some-line w ↦ rw w.result-is (into_full line behind_line (λ (ls : List BodyLine). joined c.lines.building (gathered ls)) c.lines.state w.in-Some-line.field-0
      (1 + (length c.args.bytes.now - c.lines.counter)) c.lines.rest.now c.in_ok-line-2.others.now _
      (omega arith) (c.in_ok-line-2.ensures ∙ ap (λ o. Ok (o, c.in_ok-line-2.others.now)) w.in-Some-line.is) c.lines.invariant.is)
]
