use Rattle.std.proofs.Common.{rules, w64, FitsSigned, ◌≡◌, ◌∙◌, ◌∷◌, ap, sym, subst, pos, int_le, drop, List, ℤ}
use Rattle.std.proofs.lemmas.Int.{to_z-of_z}
use Rattle.solver_rows.proofs.HoldingRows.{holds_is, holds_not}
use Rattle.solver_rows.proofs.SignLemmas.{none_in}
use Rattle.solver_rows.proofs.tight.NewRow.holds.Goals as goal

pub returns-then-are_none : goal.returns-then-are_none
returns-then-are_none c vars rising wide signed =
    let fits : FitsSigned w64 c.constant_of.result.now = search rules in
    ap (int_le (pos 0)) (to_z-of_z w64 c.constant_of.result.now fits)
    ∙ holds_is vars c.args.self.now.cells.items c.args.self.now.side c.constant_of.result.now
    (sym (none_in vars c.args.self.now.cells.items c.args.self.now.side rising wide signed) ∙ sym c.are_none.ensures ∙ c.if-are_none.true)
    (subst (λ (xs : List ℤ). xs ≡ c.constant_of.result.now ∷ drop 1 xs) c.as_slice.ensures.value c.constant_of.ensures)

pub returns-else-are_none : goal.returns-else-are_none
returns-else-are_none c vars rising wide signed =
    holds_not vars c.args.self.now.cells.items c.args.self.now.side c.are_none.result
    (c.are_none.ensures ∙ none_in vars c.args.self.now.cells.items c.args.self.now.side rising wide signed) c.if-are_none.false
