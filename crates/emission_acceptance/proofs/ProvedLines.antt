-- What proves the rows that an operation demands proves them in the text.
use Rattle.std.proofs.Common.{◌≡◌, ℕ, List, [], ◌∷◌, map, None, Ok, refl, sym, ap, ◌∙◌, append-nil}
use Rattle.index_sorts.specs.Context.{IndexContext}
use Rattle.xan_lin.specs.Linear.{Linear}
use Rattle.three_address.specs.Demands.{demands_of, AreProved}
use Rattle.three_address.specs.declared.typed.ProvedRow.{ProvedRow}
use Rattle.dtal_code.specs.Passing.{unknown, are_proved, asks_lines}
use Rattle.dtal_code.specs.Verdicts.{asks}
use Rattle.dtal_code.specs.declared.refusal.Rule.TheVariants as rule
use Rattle.dtal_emit.specs.Emitted.{rank, ordered_from, ordered}
use Rattle.emission_laws.specs.EmittedRanges.{Each}
use Rattle.emission_acceptance.proofs.LinesInOrder.{ordered_run}
use Rattle.emission_acceptance.proofs.PlacesDemanded.{proved_rows}

same_ranks : (homes : List ℕ) (bys : List ProvedRow) → Each (λ (by : ProvedRow). by.place ≡ None) bys → Each (λ (by : ProvedRow). rank homes by.place ≡ rank homes None) bys
same_ranks homes [] all = tt
same_ranks homes (by ∷ bys) all = (ap (rank homes) all.0, same_ranks homes bys all.1)

-- lines for no place stay in their order
lines_stay : (homes : List ℕ) (bys : List ProvedRow) → Each (λ (by : ProvedRow). by.place ≡ None) bys → ordered homes bys ≡ map (λ (by : ProvedRow). by.lines) bys
unfolding ordered_from
lines_stay homes bys all =
    ap (λ l. ordered_from homes l [] []) (sym (append-nil bys)) ∙ ordered_run homes (rank homes None) [] [] tt bys [] [] [] (same_ranks homes bys all) tt refl
    ∙ append-nil (map (λ (by : ProvedRow). by.lines) bys)

pub rows_asked : (homes : List ℕ) (ctx : IndexContext) (rows : List Linear) (bys : List ProvedRow) → AreProved ctx (demands_of None rows) bys
    → asks_lines ctx rows (ordered homes bys) ≡ Ok tt
rows_asked homes ctx rows bys proved =
    let p = proved_rows ctx (demands_of None rows) bys proved None rows refl in
    ap (λ l. asks (are_proved ctx (unknown ctx rows) l) rule.Lines) (lines_stay homes bys p.places) ∙ ap (λ k. asks k rule.Lines) p.proved
