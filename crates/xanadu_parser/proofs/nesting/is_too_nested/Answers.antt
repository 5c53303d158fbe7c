use Rattle.std.proofs.Common.{◌<◌, ◌≤◌, reverse, refl, ap, ◌∙◌, arith}
use Rattle.std.specs.List.{sum}
use Rattle.xanadu_tree.specs.Nesting.{nesting, open_at, groups_at}
use Rattle.xanadu_parser.proofs.Groups.{few_open, many_open, sum_reversed}
use Rattle.xanadu_parser.proofs.nesting.is_too_nested.Goals as goal

pub loop-rest-init : goal.loop-rest-init
unfolding nesting open_at
loop-rest-init c = (rw c.new.ensures.items refl, omega arith)

pub returns-then-open-gt-NESTING_MOST : goal.returns-then-open-gt-NESTING_MOST
returns-then-open-gt-NESTING_MOST c =
    let lots : 64 < sum (reverse c.see.new.self.groups.items) = omega (arith, sum_reversed c.see.new.self.groups.items, c.see.new.self.counted) in
    many_open c.loop-rest.behind (reverse c.loop-rest.open.groups.items) (reverse c.see.new.self.groups.items) c.token-item.result c.loop-rest.rest.now _ c.in-len1-up.len_at_least c.token-item.is
    (c.in_ok-see.ensures ∙ ap (λ b. groups_at c.token-item.result.kind c.loop-rest.behind b (reverse c.loop-rest.open.groups.items)) c.begins_with_left_bracket.ensures) lots c.loop-rest.invariant.0

pub loop-rest-preserved : goal.loop-rest-preserved
loop-rest-preserved c =
    let few : sum (reverse c.see.new.self.groups.items) ≤ 64 = omega (arith, sum_reversed c.see.new.self.groups.items, c.see.new.self.counted) in (
      rw c.is_right_bracket-behind.ensures (few_open c.loop-rest.behind (reverse c.loop-rest.open.groups.items) (reverse c.see.new.self.groups.items) c.token-item.result c.loop-rest.rest.now _ c.in-len1-up.len_at_least c.token-item.is
          (c.in_ok-see.ensures ∙ ap (λ b. groups_at c.token-item.result.kind c.loop-rest.behind b (reverse c.loop-rest.open.groups.items)) c.begins_with_left_bracket.ensures) few c.loop-rest.invariant.0),
      omega arith,
    )
