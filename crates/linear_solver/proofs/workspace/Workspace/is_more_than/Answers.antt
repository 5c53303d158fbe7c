use Rattle.std.proofs.Common.{rules, w64, FitsSigned, ◌≡◌, ◌∙◌, ◌∷◌, ◌<◌, ap, sym, subst, int_lt, drop, length, List, ℤ, to_z, of_z, arith}
use Rattle.std.proofs.lemmas.Int.{to_z-of_z}
use Rattle.solver_rows.proofs.HoldingRows.{constant_in}
use Rattle.linear_solver.proofs.Stores.{there}
use Rattle.linear_solver.proofs.Regions.{count_made, made_beside}
use Rattle.linear_solver.proofs.workspace.Workspace.is_more_than.Goals as goal

pub index-requires : goal.index-requires
index-requires c = omega (arith, c.requires.live, c.self.inside.made.ok, count_made _ _ _ _ _ _ c.self.invariant.lies c.self.view_is)

pub returns : goal.returns
returns c =
    let fits : FitsSigned w64 c.constant_of.result.now = search rules in
    let fits_too : FitsSigned w64 c.index.result.now.constant = search rules in
    let live : c.args.place < length c.self.inside.made.items = omega (arith, c.requires.live, count_made _ _ _ _ _ _ c.self.invariant.lies c.self.view_is) in
    let left = constant_in c.args.self.now.vars c.args.row.now.cells.items c.constant_of.result.now
    (subst (λ (xs : List ℤ). xs ≡ c.constant_of.result.now ∷ drop 1 xs) c.as_slice.ensures.value c.constant_of.ensures) in
    let right = made_beside _ _ _ _ _ _ c.self.invariant.lies c.self.view_is c.args.place c.index.result.now live (there c.self.inside.made.items c.args.place _ c.index.result.now live c.index.ensures) in
    ap (λ n. int_lt n (to_z w64 (of_z w64 c.index.result.now.constant))) (to_z-of_z w64 c.constant_of.result.now fits ∙ left)
    ∙ ap (int_lt _) (to_z-of_z w64 c.index.result.now.constant fits_too ∙ sym (ap (λ r. r.constant) right))
