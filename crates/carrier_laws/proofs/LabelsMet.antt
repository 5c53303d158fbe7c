-- The label at a position: a plain jump reaches it, and elaboration stands there.
use Rattle.std.proofs.Common.{◌≡◌, ◌∙◌, ℕ, suc, ◌<◌, ◌≤◌, Bool as Truth, true, List, [], ◌∷◌, ◌++◌, length, slice_get, Some, refl, sym, ap, subst, arith}
use Rattle.std.specs.List.{AllByRecursion}
use Rattle.lowering.specs.CodeBlocks.{Spaced}
use Rattle.lowering.specs.Lowered.{next_number, number_of}
use Rattle.state_types.specs.PlaceTypes.{PlacesRise, type_at}
use Rattle.state_types.specs.Types.{index_of}
use Rattle.state_types.specs.declared.closed.Signature.{Signature}
use Rattle.state_types.specs.declared.state.StateType.{StateType}
use Rattle.state_types.specs.declared.types.Ty.{Ty}
use Rattle.three_address.specs.LiveLabels.{live_mark}
use Rattle.three_address.specs.Liveness.{Live}
use Rattle.three_address.specs.Typing.{GoesTo}
use Rattle.three_address.proofs.LabelColumns.{mark_is_live}
use Rattle.typed_core.specs.Growth.{Continues}
use Rattle.typed_core.specs.States.{State, point}
use Rattle.typed_core.specs.declared.note.Note.{Note}
use Rattle.xan_lin.specs.Linear.{Linear}
use Rattle.xan_seq.proofs.NumberTests.{equal, unequal}
use Rattle.type_carrier.specs.ProvedRows.{plain}
use Rattle.type_carrier.specs.Ways.{label_state}
use Rattle.carrier_laws.proofs.DemandsProved.{seam}
use Rattle.carrier_laws.proofs.OperandsRun.{Walk, Here, IsLeft, Within, get_more}
use Rattle.carrier_laws.proofs.FragmentsTyped.{HasLabels, Coming, LabelAt}
use Rattle.carrier_laws.proofs.LivePlaces.{live_places_are, live_all, live_at, found_among}
use Rattle.carrier_laws.proofs.PlainWays.{Stays, IndexStays, IsMet, meets_reaches}

-- forms over so many variables, which stay what they are where there are more; places rise
pub record Formed (n : ℕ) (rows : List Linear) (types : List (ℕ × Ty)) : Type 0 where
  pub rows_stay : (m : ℕ) → n ≤ m → AllByRecursion (Stays m) rows
  pub types_stay : (x : ℕ) (t : Ty) → type_at x types ≡ Some t → (m : ℕ) → n ≤ m → IndexStays m (index_of t)
  pub rise : PlacesRise 0 types

-- ---- numbers

first_before : (least most at : ℕ) (xs ys : List ℕ) → Spaced least (xs ++ at ∷ ys) most → least ≤ at
unfolding Spaced
first_before least most at [] ys spaced = spaced.0
first_before least most at (x ∷ xs) ys spaced = (let h = first_before (suc x) most at xs ys spaced.1 in let g = spaced.0 in omega (arith, h, g))

number_behind : (least most at : ℕ) (xs ys : List ℕ) → Spaced least (xs ++ at ∷ ys) most → number_of (xs ++ at ∷ ys) at ≡ suc (length xs)
unfolding number_of Spaced
number_behind least most at [] ys spaced = ap (λ b. next_number b (number_of ys at)) (equal at at refl)
number_behind least most at (x ∷ xs) ys spaced =
    ap (λ b. next_number b (number_of (xs ++ at ∷ ys) at)) (unequal x at (λ same. (let h = first_before (suc x) most at xs ys spaced.1 in absurd (omega (arith, h, same)))))
    ∙ ap suc (number_behind (suc x) most at xs ys spaced.1)

module _ (w : Walk) (columns : List (List Truth)) (has : HasLabels w columns) where
  pub next_label : (states : List StateType) (coming : List ℕ) (to : ℕ) (noted : StateType) → Coming w states (to ∷ coming)
      → Continues (states ++ label_state columns (suc (length states)) noted ∷ []) w.body.labels → LabelAt w columns to (length states) noted
  next_label states coming to noted c ahead = record {
    number_is = ap (λ ps. number_of ps to) c.are
        ∙ number_behind 1 (length w.body.fun.code) to c.passed coming (subst (λ ps. Spaced 1 ps (length w.body.fun.code)) c.are has.rise) ∙ ap suc c.as_many;
    there = get_more (states ++ label_state columns (suc (length states)) noted ∷ []) w.body.labels (length states) _ ahead (seam states [] _);
    found = ap (λ ps. slice_get ps (length states)) (has.positions ∙ c.are) ∙ ap (λ n. slice_get (c.passed ++ to ∷ coming) n) (sym c.as_many) ∙ seam c.passed coming to;
  }

  -- ---- jumps there

  module _ (to number : ℕ) (noted : StateType) (at : LabelAt w columns to number noted) (within : Within w noted.places) where
    live_there : (x : ℕ) (t : Ty) → type_at x noted.places ≡ Some t → live_mark columns (suc number) x ≡ true → Live w.body.fun to x
    live_there x t there mark = (mark_is_live w.body.fun columns (suc number) to x has.live (few x t there) at.found).0 mark
      where
        few : (x : ℕ) (t : Ty) → type_at x noted.places ≡ Some t → x < w.body.fun.places
        few x t there = (let h = within x t there in let g = has.room in omega (arith, h, g))

    marked_there : (x : ℕ) (t : Ty) → type_at x noted.places ≡ Some t → Live w.body.fun to x → live_mark columns (suc number) x ≡ true
    marked_there x t there live = (mark_is_live w.body.fun columns (suc number) to x has.live (few x t there) at.found).1 live
      where
        few : (x : ℕ) (t : Ty) → type_at x noted.places ≡ Some t → x < w.body.fun.places
        few x t there = (let h = within x t there in let g = has.room in omega (arith, h, g))

    pub plain_jump : (sig : Signature) (s : StateType) (n : ℕ) (rest : List Linear) → Formed n noted.ctx.rows noted.places → n ≤ s.ctx.vars → s.ctx.rows ≡ noted.ctx.rows ++ rest
        → ((x : ℕ) (t : Ty) → Live w.body.fun to x → type_at x noted.places ≡ Some t → type_at x s.places ≡ Some t)
        → GoesTo sig w.body.labels s (number_of w.body.positions to) plain
    plain_jump sig s n rest formed more rows agree = record {
      before = number;
      number = at.number_is;
      target = label_state columns (suc number) noted;
      there = at.there;
      reaches = meets_reaches sig s (label_state columns (suc number) noted) (record {
        rest = rest;
        rows = rows;
        stay = formed.rows_stay s.ctx.vars more;
        places = subst (λ es. AllByRecursion (IsMet s.ctx.vars s.places) es) (sym (live_places_are columns (suc number) noted.places))
            (live_all columns (suc number) (IsMet s.ctx.vars s.places) noted.places (λ e among mark. met e (found_among 0 noted.places e.0 e.1 formed.rise among) mark));
      });
    }
      where
        met : (e : ℕ × Ty) → type_at e.0 noted.places ≡ Some e.1 → live_mark columns (suc number) e.0 ≡ true → IsMet s.ctx.vars s.places e
        met e there mark = record { there = agree e.0 e.1 (live_there e.0 e.1 there mark) there; stays = formed.types_stay e.0 e.1 there s.ctx.vars more }

    -- ---- elaboration stands there

    pub label_here : (st : State) (left : List Note) → noted ≡ point st → IsLeft w st left → st.ctx.vars ≤ 1024 → Here w to (label_state columns (suc number) noted) st [] left
    label_here st left same remains few = record {
      now = record {
        ctx = ap (λ (q : StateType). q.ctx) same;
        types = λ x t live there.
            (let here : type_at x noted.places ≡ Some t = ap (λ (q : StateType). type_at x q.places) same ∙ there in
            ap (λ es. type_at x es) (live_places_are columns (suc number) noted.places) ∙ live_at columns (suc number) x noted.places (marked_there x t here live) ∙ here);
      };
      waits = record { each = λ k t e. absurd (let bad : ⊥ = cc in bad) };
      remains = remains;
      within = λ x t there. within x t (ap (λ (q : StateType). type_at x q.places) same ∙ there);
      few = few;
    }
