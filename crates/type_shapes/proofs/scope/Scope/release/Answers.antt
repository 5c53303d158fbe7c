use Rattle.std.proofs.Common.{◌≡◌, ◌+◌, ◌-◌, ◌∙◌, length, drop, sym, ap, arith}
use Rattle.std.proofs.lemmas.List.{drop-drop}
use Rattle.type_shapes.specs.Names.{first}
use Rattle.type_shapes.proofs.scope.Scope.release.Goals as goal

pub loop-preserved : goal.loop-preserved
loop-preserved c =
    let more : c.loop.counter + 1 - c.args.count ≡ (c.loop.counter - c.args.count) + 1 = omega arith in (
      omega (arith, c.len-end.ensures),
      c.undo.ensures ∙ ap (λ s. drop 1 s) c.loop.invariant.1 ∙ drop-drop 1 (c.loop.counter - c.args.count) c.args.self.now ∙ ap (λ n. drop n c.args.self.now) (sym more),
    )

pub returns : goal.returns
unfolding first
returns c =
    let all : c.loop.counter - c.args.count ≡ length c.args.self.now - c.args.count = omega (arith, c.len-end.ensures, c.loop.invariant.0) in
    c.loop.invariant.1 ∙ ap (λ n. drop n c.args.self.now) all
