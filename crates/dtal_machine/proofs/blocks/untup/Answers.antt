use Rattle.std.proofs.Common.{◌∙◌, ap, sym, subst, ℕ, ℤ, ◌∷◌, [], FitsSigned, w64, length, rules}
use Rattle.std.proofs.lemmas.Int.{to_z-of_z}
use Rattle.dtal_code.specs.Guessed.{bytes_in}
use Rattle.dtal_code.specs.Instructions.{does}
use Rattle.dtal_code.specs.Running.{with_words}
use Rattle.operation_rules.specs.Effects.{effect}
use Rattle.operation_rules.specs.FlatWords.{flat_words}
use Rattle.operation_rules.specs.declared.operation.Operation.TheVariants as operation
use Rattle.dtal_machine.specs.Acting.{NotStuck, flat, left, wrote}
use Rattle.dtal_machine.proofs.ReadPlaces.{read_one, left_read, goes_by, listed_count}
use Rattle.dtal_machine.proofs.blocks.untup.Goals as goal

pub parts-cells-requires-clause-there : goal.parts-cells-requires-clause-there
parts-cells-requires-clause-there c =
    let a = c.word.result in
    let a_fits : FitsSigned w64 a = search rules in
    let store = flat c.args.store.now in
    let bytes = bytes_in c.args.count c.args.second in
    let i = does (operation.Untuple c.args.number (length bytes)) bytes (c.args.q ∷ []) in
    let goes = goes_by i c.args.top.now (a ∷ []) store (read_one c.args.top.now c.args.q a c.word.ensures) c.requires.goes in
    subst (λ (x : ℤ). NotStuck (effect flat_words (operation.Untuple c.args.number c.args.count) (x ∷ []) store)) (sym (to_z-of_z w64 a a_fits))
    (subst (λ (n : ℕ). NotStuck (effect flat_words (operation.Untuple c.args.number n) (a ∷ []) store)) (listed_count c.args.count c.args.second) goes)

pub returns : goal.returns
returns c =
    let a = c.word.result in
    let a_fits : FitsSigned w64 a = search rules in
    let store = flat c.args.store.now in
    let bytes = bytes_in c.args.count c.args.second in
    let i = does (operation.Untuple c.args.number (length bytes)) bytes (c.args.q ∷ []) in
    let cells = c.parts-cells.result.now in
    left_read i c.args.top.now (a ∷ []) store (read_one c.args.top.now c.args.q a c.word.ensures)
    ∙ ap (left i c.args.top.now store)
    (ap (λ (n : ℕ). effect flat_words (operation.Untuple c.args.number n) (a ∷ []) store) (listed_count c.args.count c.args.second)
    ∙ ap (λ (x : ℤ). effect flat_words (operation.Untuple c.args.number c.args.count) (x ∷ []) store) (sym (to_z-of_z w64 a a_fits)) ∙ c.parts-cells.ensures.parts)
    ∙ ap (λ o. wrote o store) (ap (λ (n : ℕ). with_words c.args.top.now (bytes_in n c.args.second) cells) (sym c.parts-cells.ensures.count) ∙ c.put_listed.ensures)
