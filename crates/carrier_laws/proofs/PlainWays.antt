-- A jump that lists no variables and shows no lines: what its label demands is known where it stands.
use Rattle.std.proofs.Common.{◌≡◌, ◌∙◌, ℕ, ◌||◌, Bool as Truth, true, false, cond, List, [], ◌∷◌, ◌++◌, Option, Some, None, Result, Ok, Err, refl, sym, ap, arith, append_assoc, append-nil}
use Rattle.std.specs.List.{AllByRecursion, list_any}
use Rattle.std.proofs.lemmas.Bool.Decides.{Decides-eqb}
use Rattle.index_sorts.specs.Context.{IndexContext}
use Rattle.index_sorts.specs.Known.{knows, holds_always}
use Rattle.xan_lin.specs.Linear.{Linear}
use Rattle.xan_lin.specs.Same.{same_form}
use Rattle.xan_lin.specs.Subst.{subst_of}
use Rattle.xan_lin.specs.declared.term.TooLarge.{TooLarge}
use Rattle.xan_lin.proofs.EqualForms.{Decides-same_form}
use Rattle.state_types.specs.Answers.{Check, ◌>>=◌, within_bounds}
use Rattle.state_types.specs.Matching.{pair_at, pair_found, pair_of, index_rows, differences, both_differences, own_rows}
use Rattle.state_types.specs.PlaceTypes.{type_at}
use Rattle.state_types.specs.Types.{index_of, same_kind}
use Rattle.state_types.specs.declared.state.StateType.{StateType}
use Rattle.state_types.specs.declared.closed.Signature.{Signature}
use Rattle.state_types.specs.declared.error.StateError.TheVariants.{Kind}
use Rattle.state_types.specs.declared.types.Ty.{Ty}
use Rattle.state_types.specs.declared.types.Ty.TheVariants as ty
use Rattle.three_address.specs.Demands.{Demand, demands_of, place_demands, places_demands, label_demands, AreProved, AllProved, IsKnown}
use Rattle.three_address.specs.Typing.{Reaches}
use Rattle.type_carrier.specs.ProvedRows.{plain}

-- ---- forms and types that stay what they are

abbrev pub Stays : ℕ → Linear → Type 0
Stays n e = subst_of [] n e ≡ Ok e

abbrev pub IndexStays : ℕ → Option Linear → Type 0
IndexStays n None = Unit {0}
IndexStays n (Some e) = Stays n e

-- a place of the label has its type here too, and the type's index stays what it is
pub record IsMet (n : ℕ) (places : List (ℕ × Ty)) (wanted : ℕ × Ty) : Type 0 where
  pub there : type_at wanted.0 places ≡ Some wanted.1
  pub stays : IndexStays n (index_of wanted.1)

form_itself : (f : Linear) → same_form f f ≡ true
form_itself f = (Decides-same_form f f).1 refl

kind_itself : (t : Ty) → same_kind t t ≡ true
kind_itself (ty.Int e) = refl
kind_itself ty.Bool = refl
kind_itself (ty.Array p e) = (Decides-eqb p p).1 refl
kind_itself (ty.Named p) = (Decides-eqb p p).1 refl

-- ---- places

rows_none : (n : ℕ) (o : Option Linear) → IndexStays n o → index_rows [] n o o [] ≡ Ok []
unfolding index_rows differences
rows_none n None stays = refl
rows_none n (Some f) stays =
    ap (λ (m : Result Linear TooLarge). within_bounds m >>= (λ given. differences given f [])) stays
    ∙ ap (λ b. (let r : Check (List Linear) = cond b (Ok []) (both_differences f f []) in r)) (form_itself f)

module _ (state : StateType) where
  pair_met : (wanted : ℕ × Ty) → type_at wanted.0 state.places ≡ Some wanted.1 → pair_at state.places wanted ≡ Ok (record { wanted = wanted.1; present = wanted.1 })
  unfolding pair_at pair_of
  pair_met wanted there =
      ap (λ o. pair_found wanted o) there
      ∙ ap (λ b. (let r : Check _ = cond b (Ok (record { wanted = wanted.1; present = wanted.1 })) (Err (Kind wanted.0)) in r)) (kind_itself wanted.1)

  place_met : (wanted : ℕ × Ty) → IsMet state.ctx.vars state.places wanted → place_demands state [] wanted ≡ Ok []
  unfolding place_demands
  place_met wanted met =
      ap (λ (m : Check _). m >>= (λ pair. index_rows [] state.ctx.vars (index_of pair.wanted) (index_of pair.present) [] >>= (λ rows. let r : Check (List Demand) = Ok (demands_of (Some wanted.0) rows) in r)))
      (pair_met wanted met.there)
      ∙ ap (λ (m : Check (List Linear)). m >>= (λ rows. let r : Check (List Demand) = Ok (demands_of (Some wanted.0) rows) in r)) (rows_none state.ctx.vars (index_of wanted.1) met.stays)

  places_met : (entries : List (ℕ × Ty)) → AllByRecursion (IsMet state.ctx.vars state.places) entries → places_demands state [] entries ≡ Ok []
  unfolding places_demands
  places_met [] all = refl
  places_met (e ∷ es) all =
      ap (λ (m : Check (List Demand)). m >>= (λ first. places_demands state [] es >>= (λ others. let r : Check (List Demand) = Ok (first ++ others) in r))) (place_met e all.0)
      ∙ ap (λ (m : Check (List Demand)). m >>= (λ others. let r : Check (List Demand) = Ok others in r)) (places_met es all.1)

-- ---- rows

rows_stay : (n : ℕ) (rows made : List Linear) → AllByRecursion (Stays n) rows → own_rows [] n rows made ≡ Ok (made ++ rows)
unfolding own_rows
rows_stay n [] made all = ap Ok (sym (append-nil made))
rows_stay n (row ∷ rows) made all =
    ap (λ (m : Result Linear TooLarge). within_bounds m >>= (λ given. own_rows [] n rows (made ++ given ∷ []))) all.0
    ∙ rows_stay n rows (made ++ row ∷ []) all.1 ∙ ap Ok (append_assoc made (row ∷ []) rows)

or_true : (a b : Truth) → b ≡ true → (a || b) ≡ true
or_true true b e = refl
or_true false b e = e

found_there : (row : Linear) (before after : List Linear) → list_any (same_form row) (before ++ row ∷ after) ≡ true
found_there row [] after = ap (λ b. b || list_any (same_form row) after) (form_itself row)
found_there row (b ∷ before) after = or_true (same_form row b) (list_any (same_form row) (before ++ row ∷ after)) (found_there row before after)

pub listed_known : (ctx : IndexContext) (row : Linear) (before after : List Linear) → ctx.rows ≡ before ++ row ∷ after → knows ctx row ≡ true
unfolding knows
listed_known ctx row before after e =
    or_true (holds_always row) (list_any (same_form row) ctx.rows) (ap (λ rows. list_any (same_form row) rows) e ∙ found_there row before after)

rows_known : (ctx : IndexContext) (before rows rest : List Linear) → ctx.rows ≡ before ++ (rows ++ rest) → AreProved ctx (demands_of None rows) []
rows_known ctx before [] rest e = AllProved
rows_known ctx before (row ∷ rows) rest e =
    IsKnown (record { place = None; row = row }) (demands_of None rows) [] (listed_known ctx row before (rows ++ rest) e)
    (rows_known ctx (before ++ row ∷ []) rows rest (e ∙ sym (append_assoc before (row ∷ []) (rows ++ rest))))

-- ---- the way

-- the label's rows begin those that hold here, and its places are met
pub record Meets (state target : StateType) : Type 0 where
  pub rest : List Linear
  pub rows : state.ctx.rows ≡ target.ctx.rows ++ rest
  pub stay : AllByRecursion (Stays state.ctx.vars) target.ctx.rows
  pub places : AllByRecursion (IsMet state.ctx.vars state.places) target.places

pub meets_reaches : (sig : Signature) (state target : StateType) → Meets state target → Reaches sig state target plain
unfolding label_demands
meets_reaches sig state target m = record {
  rise = tt;
  listed = λ k d lt. absurd (omega (arith, lt));
  demands = demands_of None target.ctx.rows;
  demanded = ap (λ (x : Check (List Demand)). x >>= (λ places. own_rows [] state.ctx.vars target.ctx.rows [] >>= (λ rows. let r : Check (List Demand) = Ok (places ++ demands_of None rows) in r)))
      (places_met state target.places m.places)
      ∙ ap (λ (x : Check (List Linear)). x >>= (λ rows. let r : Check (List Demand) = Ok (demands_of None rows) in r)) (rows_stay state.ctx.vars target.ctx.rows [] m.stay);
  proved = rows_known state.ctx [] target.ctx.rows m.rest m.rows;
}
