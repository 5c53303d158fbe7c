use Rattle.std.proofs.Common.{arith, ℕ, ◌∙◌}
use Rattle.state_types.specs.PlaceTypes.{Ty}
use Rattle.xan_seq.proofs.RisingKeys.{set_is, insert_is}
use Rattle.state_types.proofs.place_map.set_among.Goals as goal

pub index_mut-requires : goal.index_mut-requires
index_mut-requires c = let d : ℕ × Ty = (c.args.place, c.args.ty) in omega (arith, (c.is_at.ensures.found c.if-is_at.true d).0)

pub returns-then-is_at-clause-set : goal.returns-then-is_at-clause-set
returns-then-is_at-clause-set c =
    set_is c.args.place c.count_before-at.result c.args.ty c.args.entries.now.items _ _ c.as_slice.ensures.value c.as_slice-2.ensures.value c.count_before-at.ensures.point
    (c.is_at.ensures.found c.if-is_at.true)

pub insert-requires : goal.insert-requires
insert-requires c = omega arith

pub returns-clause-set : goal.returns-clause-set
returns-clause-set c =
    let items = c.in-Ok.ensures.items in
    items ∙ insert_is c.args.place c.count_before-at.result c.args.ty c.args.entries.now.items _ _ c.as_slice.ensures.value c.as_slice-2.ensures.value c.count_before-at.ensures.point
    c.count_before-at.ensures.within (c.is_at.ensures.absent c.if-is_at.false)
