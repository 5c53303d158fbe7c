-- Fragments one behind the other.
use Rattle.std.proofs.Common.{◌≡◌, ◌∙◌, ℕ, zero, suc, ◌+◌, Bool as Truth, true, false, List, [], ◌∷◌, ◌++◌, length, slice_get, Some, refl, ap, subst, arith, append_assoc}
use Rattle.std.proofs.lemmas.List.{length-append}
use Rattle.std.specs.List.{AllZip}
use Rattle.state_types.specs.declared.state.StateType.{StateType}
use Rattle.three_address.specs.declared.instruction.LowInstr.{LowInstr}
use Rattle.three_address.specs.declared.typed.Edge.{Edge}
use Rattle.typed_core.specs.States.{State}
use Rattle.type_carrier.specs.CarriedTests.{Labelled}
use Rattle.carrier_laws.proofs.ChainsTyped.{Body, Chain, Done, Next, chain_on}
use Rattle.carrier_laws.proofs.OperandsRun.{Walk, Here}
use Rattle.carrier_laws.proofs.FragmentsTyped.{LabelStands, Passes, Ends, Typed}

-- ---- lists

zip_map : {A B : Type 0} (P Q : A → B → Type 0) (xs : List A) (ys : List B) → ((x : A) (y : B) → P x y → Q x y) → AllZip P xs ys → AllZip Q xs ys
zip_map P Q [] [] f all = tt
zip_map P Q [] (y ∷ ys) f all = absurd all
zip_map P Q (x ∷ xs) [] f all = absurd all
zip_map P Q (x ∷ xs) (y ∷ ys) f all = (f x y all.0, zip_map P Q xs ys f all.1)

zip_on : {A B : Type 0} (P : A → B → Type 0) (xs us : List A) (ys vs : List B) → AllZip P xs ys → AllZip P us vs → AllZip P (xs ++ us) (ys ++ vs)
zip_on P [] us [] vs one two = two
zip_on P [] us (y ∷ ys) vs one two = absurd one
zip_on P (x ∷ xs) us [] vs one two = absurd one
zip_on P (x ∷ xs) us (y ∷ ys) vs one two = (one.0, zip_on P xs us ys vs one.1 two)

-- where the second begins with the last one of the first
stand_left : {A : Type 0} (xs ys : List A) (x y : A) (k : ℕ) → slice_get ys 0 ≡ Some x → slice_get (xs ++ x ∷ []) k ≡ Some y → slice_get (xs ++ ys) k ≡ Some y
stand_left [] ys x y zero first e = first ∙ e
stand_left [] ys x y (suc k) first e = absurd (let bad : ⊥ = cc in bad)
stand_left (z ∷ xs) ys x y zero first e = e
stand_left (z ∷ xs) ys x y (suc k) first e = stand_left xs ys x y k first e

stand_right : {A : Type 0} (xs ys : List A) (y : A) (k : ℕ) → slice_get ys k ≡ Some y → slice_get (xs ++ ys) (length xs + k) ≡ Some y
stand_right [] ys y k e = (let same : 0 + k ≡ k = omega arith in ap (λ n. slice_get ys n) same ∙ e)
stand_right (z ∷ xs) ys y k e = (let same : suc (length xs) + k ≡ suc (length xs + k) = omega arith in ap (λ n. slice_get (z ∷ (xs ++ ys)) n) same ∙ stand_right xs ys y k e)

-- ---- chains

pub chain_long : (b : Body) (s t : StateType) (code : List LowInstr) (edges : List Edge) (states : List StateType) → Chain b s code edges states t → length states ≡ length code
chain_long b s t code edges states (Done _) = refl
chain_long b s t code edges states (Next _ next _ i more e others rest allows later) = ap suc (chain_long b next t more others rest later)

pub chain_first : (b : Body) (s t : StateType) (code : List LowInstr) (edges : List Edge) (states : List StateType) → Chain b s code edges states t
    → slice_get (states ++ t ∷ []) 0 ≡ Some s
chain_first b s t code edges states (Done _) = refl
chain_first b s t code edges states (Next _ next _ i more e others rest allows later) = refl

-- ---- fragments

module _ (w : Walk) (columns : List (List Truth)) where
  pub passes_on : (p q : ℕ) (s t u : StateType) (one two : List LowInstr) (first second : List ℕ) (l mid more : Labelled) → q ≡ p + length one
      → Passes w columns p s one first l mid t → Passes w columns q t two second mid more u → Passes w columns p s (one ++ two) (first ++ second) l more u
  passes_on p q s t u one two first second l mid more there a b = record {
    runs = record {
      edges = a.runs.edges ++ b.runs.edges;
      are = b.runs.are ∙ ap (λ es. es ++ b.runs.edges) a.runs.are ∙ append_assoc l.now.edges a.runs.edges b.runs.edges;
      states = a.runs.states ++ b.runs.states;
      chain = chain_on w.body s t u one two a.runs.edges b.runs.edges a.runs.states b.runs.states a.runs.chain b.runs.chain;
    };
    made = a.made ++ b.made;
    made_is = b.made_is ∙ ap (λ ss. ss ++ b.made) a.made_is ∙ append_assoc l.states a.made b.made;
    labels = zip_on (LabelStands w columns p (a.runs.states ++ b.runs.states) u) first second a.made b.made
        (zip_map (LabelStands w columns p a.runs.states t) (LabelStands w columns p (a.runs.states ++ b.runs.states) u) first a.made (λ at label stand. left at label stand) a.labels)
        (zip_map (LabelStands w columns q b.runs.states u) (LabelStands w columns p (a.runs.states ++ b.runs.states) u) second b.made (λ at label stand. right at label stand) b.labels);
  }
    where
      grouped : (a.runs.states ++ b.runs.states) ++ u ∷ [] ≡ a.runs.states ++ (b.runs.states ++ u ∷ [])
      grouped = append_assoc a.runs.states b.runs.states (u ∷ [])

      long : length a.runs.states ≡ length one
      long = chain_long w.body s t one a.runs.edges a.runs.states a.runs.chain

      left : (at : ℕ) (label : StateType) → LabelStands w columns p a.runs.states t at label → LabelStands w columns p (a.runs.states ++ b.runs.states) u at label
      left at label stand = record {
        offset = stand.offset;
        is = stand.is;
        stands = ap (λ xs. slice_get xs stand.offset) grouped
            ∙ stand_left a.runs.states (b.runs.states ++ u ∷ []) t label stand.offset (chain_first w.body t u two b.runs.edges b.runs.states b.runs.chain) stand.stands;
        number = stand.number;
        noted = stand.noted;
        label_is = stand.label_is;
        place = stand.place;
        is_noted = stand.is_noted;
      }

      right : (at : ℕ) (label : StateType) → LabelStands w columns q b.runs.states u at label → LabelStands w columns p (a.runs.states ++ b.runs.states) u at label
      right at label stand = record {
        offset = length a.runs.states + stand.offset;
        is = (let is = stand.is in let h = long in omega (arith, is, there, h));
        stands = ap (λ xs. slice_get xs (length a.runs.states + stand.offset)) grouped
            ∙ stand_right a.runs.states (b.runs.states ++ u ∷ []) label stand.offset stand.stands;
        number = stand.number;
        noted = stand.noted;
        label_is = stand.label_is;
        place = stand.place;
        is_noted = stand.is_noted;
      }

  -- the second ends as it does
  pub ends_on : (completes : Truth) (p q : ℕ) (s t : StateType) (one two : List LowInstr) (first second : List ℕ) (l mid more : Labelled) (after : State) → q ≡ p + length one
      → Passes w columns p s one first l mid t → Ends completes w columns q t two second mid more after → Ends completes w columns p s (one ++ two) (first ++ second) l more after
  ends_on true p q s t one two first second l mid more after there a b = record {
    end = b.end;
    passes = passes_on p q s t b.end one two first second l mid more there a b.passes;
    here = subst (λ n. Here w n b.end after [] more.now.notes) (let long = length-append one two in omega (arith, there, long)) b.here;
  }
  ends_on false p q s t one two first second l mid more after there a b = λ end. passes_on p q s t end one two first second l mid more there a (b end)

  pub typed_on : (completes : Truth) (p q : ℕ) (s t : StateType) (one two : List LowInstr) (first second : List ℕ) (l mid more : Labelled) (after : State) (coming : List ℕ) → q ≡ p + length one
      → Passes w columns p s one first l mid t → Typed completes w columns q t two second mid more after coming
      → Typed completes w columns p s (one ++ two) (first ++ second) l more after coming
  typed_on completes p q s t one two first second l mid more after coming there a b = record {
    ends = ends_on completes p q s t one two first second l mid more after there a b.ends;
    left = b.left;
    labels = b.labels;
  }
