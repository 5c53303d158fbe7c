use Rattle.std.proofs.Common.{ap, ◌∙◌, ◌++◌, length, arith}
use Rattle.linear_solver.specs.Region.{without}
use Rattle.linear_solver.proofs.Regions.{count_rows, count_made, count_vars}
use Rattle.linear_solver.proofs.PlacedRows.{keep_work}
use Rattle.linear_solver.proofs.workspace.Workspace.keep_without.Goals as goal

pub keep-requires-clause-within : goal.keep-requires-clause-within
keep-requires-clause-within c =
    let l = c.self.invariant.lies in
    omega (arith, c.requires.within, l.few, count_vars _ _ _ _ _ _ l c.self.view_is)

pub keep-requires-clause-room : goal.keep-requires-clause-room
keep-requires-clause-room c =
    let l = c.self.invariant.lies in
    omega (
      arith,
      c.requires.few,
      ap length c.requires.none,
      count_rows _ _ _ _ _ _ l c.self.view_is,
      count_made _ _ _ _ _ _ l c.self.view_is,
      ap length c.as_slice.ensures.value,
      c.self.invariant.room_made,
    )

pub invariant_of-self : goal.invariant_of-self
invariant_of-self c = record {
  lies = (keep_work _ _ _ _ _ _ _ _ c.self.invariant.lies c.self.view_is c.requires.none c.requires.within
      (c.keep.ensures.items ∙ ap (λ ss. c.self.inside.made.items ++ without c.args.column ss) c.as_slice.ensures.value)).0;
  room_rows = c.self.invariant.room_rows;
  room_made = omega (arith, c.self.invariant.room_made, c.keep.ensures.capacity);
}

pub returns : goal.returns
returns c = (keep_work _ _ _ _ _ _ _ _ c.self.invariant.lies c.self.view_is c.requires.none c.requires.within
    (c.keep.ensures.items ∙ ap (λ ss. c.self.inside.made.items ++ without c.args.column ss) c.as_slice.ensures.value)).1
