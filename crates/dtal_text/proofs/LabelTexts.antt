-- What is read as a label's state, or as lines of a proof, is spelled so, and what is spelled so is read.
use Rattle.std.proofs.Common.{◌≡◌, ℕ, ◌+◌, ◌-◌, ◌<◌, ◌≤◌, Bool, true, false, nat_lt, List, [], ◌∷◌, ◌++◌, length, None, codes, decimal, refl, sym, ap, subst, ◌∙◌, append_assoc, arith, inl, inr}
use Rattle.std.specs.List.{All}
use Rattle.std.proofs.lemmas.Bool.Decides.{nat_tests}
use Rattle.std.proofs.lemmas.List.Elements.{All-nil, All-cons, All-head, All-tail}
use Rattle.xan_seq.specs.Rising.{KeysRise}
use Rattle.xan_lin.specs.Linear.{Linear}
use Rattle.xan_read.specs.Reader.{Exact}
use Rattle.xan_read.specs.Combinators.{IsGiven, InTurn, made, behind, IsBehind, IsMade, WhereComes, after}
use Rattle.xan_read.specs.Numbers.{number, IsNumber, NoDigit}
use Rattle.xan_read.specs.Spelled.{Any, Spelled, IsBetween, Both}
use Rattle.xan_read.proofs.ReaderLaws.{given, exact-made, exact-in_turn, exact-behind, exact-where_comes, exact_as, after_other}
use Rattle.xan_read.proofs.NumberLaws.{exact-number}
use Rattle.xan_read.proofs.SpelledLaws.{spelled_number}
use Rattle.proof_lines.specs.declared.line.Line.{Line}
use Rattle.proof_lines.specs.declared.line.Line.TheVariants as line
use Rattle.proof_lines.specs.Reading.{one_line}
use Rattle.proof_lines.specs.Spelling.{line_text, more_text, IsLine, AreLines}
use Rattle.proof_lines.proofs.Forms.{Stops}
use Rattle.proof_lines.proofs.LineTexts.{IsLineText, exact-one_line}
use Rattle.state_types.specs.declared.types.Ty.{Ty}
use Rattle.dtal_code.specs.declared.limits.TheConstants.{LAST_NUMBER}
use Rattle.dtal_code.specs.declared.program.LabelState.{LabelState}
use Rattle.dtal_code.specs.Grammar.{IsTyIn, IsTypedPlace, IsLabelState, AreLinesIn}
use Rattle.dtal_code.specs.Spelling.{each_behind, joined, ty_text, typed_place, quantifier_text, by_line}
use Rattle.dtal_code.specs.Places.{place_text, IsPlace}
use Rattle.dtal_text.specs.LineReading.{register_or_slot, place_from, typed_place_from, state_of, typed_places, label_state, proof}
use Rattle.dtal_text.specs.Listings.{rising}
use Rattle.dtal_text.specs.TypeReading.{one_type, quantifier}
use Rattle.dtal_text.proofs.ListingLaws.{spelled-rising, spelled-some_bounded}
use Rattle.dtal_text.proofs.PlaceTexts.{register_text, slot_text}
use Rattle.dtal_text.proofs.OperandTexts.{place_first, place_some}
use Rattle.dtal_text.proofs.SpelledValues.{joined_by, spelled_two, spelled_made}
use Rattle.dtal_text.proofs.SpelledTypes.{Anything, spelled-type, IsQuantified, quantified_text, spelled-quantifier}

-- ---- a place from a number on

abbrev From : ℕ → ℕ → Type 0
From low p = (low ≤ p) × IsPlace p

abbrev IsSlotFrom : ℕ → ℕ → List ℕ → Type 0
IsSlotFrom low = IsBehind (codes "s") (IsMade (λ n. n + 16) (Spelled Any (IsBetween low 239) decimal))

exact-slot_from : (low : ℕ) → low ≤ 239 → Exact (behind (codes "s") (made (λ n. n + 16) (number low 239))) (IsSlotFrom low) NoDigit
exact-slot_from low h = exact-behind (codes "s") _ _ NoDigit (exact-made (λ n. n + 16) _ _ NoDigit (spelled_number low 239 h (omega arith)))

slot_from : (low p : ℕ) (text : List ℕ) → low ≤ 255 → 16 ≤ low → IsSlotFrom (low - 16) p text → Spelled Any (From low) place_text p text
slot_from low p text few h i =
    let m = i.is in
    let least = m.is.fits.0 in
    let most = m.is.fits.1 in
    let same = m.made in
    record { known = tt; fits = (omega arith, omega arith); is = i.parts ∙ ap (λ (t : List ℕ). codes "s" ++ t) m.is.is ∙ sym (slot_text m.value) ∙ ap place_text (sym m.made) }

slot_to : (low p : ℕ) (text : List ℕ) → 16 ≤ p → low ≤ p - 16 → p < 256 → text ≡ place_text p → IsSlotFrom low p text
slot_to low p text h least most e =
    let same : p ≡ (p - 16) + 16 = omega arith in
    record {
      back = decimal (p - 16);
      is = record { value = p - 16; made = same; is = record { known = tt; fits = (least, omega arith); is = refl } };
      parts = e ∙ ap place_text same ∙ slot_text (p - 16);
    }

IsEither : ℕ → ℕ → List ℕ → Type 0
IsEither low = WhereComes 114 (IsNumber low 15) (IsSlotFrom 0)

either_from : (low p : ℕ) (text : List ℕ) → low < 16 → IsEither low p text → Spelled Any (From low) place_text p text
unfolding IsEither
either_from low p text h (inl i) =
    let least = i.is.at_least in
    let most = i.is.at_most in
    record { known = tt; fits = (least, omega arith); is = i.parts ∙ ap (λ (t : List ℕ). codes "r" ++ t) i.is.is ∙ sym (register_text p (omega arith)) }
either_from low p text h (inr i) =
    let m = i.is in
    let most = m.is.fits.1 in
    let same = m.made in
    record { known = tt; fits = (omega arith, omega arith); is = i.parts ∙ ap (λ (t : List ℕ). codes "s" ++ t) m.is.is ∙ sym (slot_text m.value) ∙ ap place_text (sym m.made) }

either_to : (low p : ℕ) (text : List ℕ) → Spelled Any (From low) place_text p text → IsEither low p text
unfolding IsEither
either_to low p text s = go (nat_lt p 16) refl
  where
    go : (b : Bool) → nat_lt p 16 ≡ b → WhereComes 114 (IsNumber low 15) (IsSlotFrom 0) p text
    go true e =
        let small : p < 16 = grind (arith, nat_tests) in
        inl (record { back = decimal p; is = record { at_least = s.fits.0; at_most = omega arith; is = refl }; parts = s.is ∙ register_text p small })
    go false e =
        let large : 16 ≤ p = grind (arith, nat_tests) in
        inr (slot_to 0 p text large (omega arith) s.fits.1 s.is)

exact-from : (b : Bool) (low : ℕ) → nat_lt low 16 ≡ b → low ≤ 255 → Exact (register_or_slot b low) (Spelled Any (From low) place_text) NoDigit
unfolding IsEither
exact-from true low e few =
    let small : low < 16 = grind (arith, nat_tests) in
    exact_as _ (IsEither low) _ NoDigit NoDigit
    (exact-where_comes 114 _ _ (IsNumber low 15) (IsSlotFrom 0) NoDigit NoDigit (exact-number low 15 (omega arith) (omega arith)) (exact-slot_from 0 (omega arith))
    (λ x text rest i h. (h, ap (λ (t : List ℕ). after 114 (t ++ rest)) i.parts ∙ after_other 114 115 (i.back ++ rest) (λ e. omega arith))))
    (λ p text i. either_from low p text small i) (either_to low) (λ _ h. h)
exact-from false low e few =
    let large : 16 ≤ low = grind (arith, nat_tests) in
    exact_as _ (IsSlotFrom (low - 16)) _ NoDigit NoDigit (exact-slot_from (low - 16) (omega arith))
    (λ p text i. slot_from low p text few large i)
    (λ p text s. (let least = s.fits.0 in slot_to (low - 16) p text (omega arith) (omega arith) s.fits.1 s.is)) (λ _ h. h)

exact-place_from : (low : ℕ) → low ≤ 255 → Exact (place_from low) (Spelled Any (From low) place_text) NoDigit
unfolding place_from
exact-place_from low few = exact-from (nat_lt low 16) low refl few

-- ---- places with types

exact-typed_place : (low : ℕ) → low ≤ 255 → Exact (typed_place_from low) (Spelled Any (λ x. (low ≤ x.0) × IsTypedPlace x) typed_place) Anything
unfolding typed_place_from
exact-typed_place low few = exact_as _ (Spelled Any (Both (From low) IsTyIn) (joined_by place_text (codes ":") ty_text)) _ Anything Anything
    (spelled_two _ (codes ":") one_type (From low) IsTyIn place_text ty_text NoDigit Anything (exact-place_from low few) spelled-type (λ b rest _ _. refl))
    (λ x text s. record { known = tt; fits = (s.fits.0.0, (s.fits.0.1, s.fits.1)); is = s.is })
    (λ x text s. record { known = tt; fits = ((s.fits.0, s.fits.1.0), s.fits.1.1); is = s.is }) (λ _ h. h)

abbrev pub places_text : List (ℕ × Ty) → List ℕ
places_text places = joined (codes " ") typed_place places

abbrev typed_first : (p : ℕ × Ty) (rest : List ℕ) → after 93 (typed_place p ++ rest) ≡ None
typed_first p rest = ap (after 93) (append_assoc (place_text p.0) (codes ":" ++ ty_text p.1) rest) ∙ place_first 93 p.0 ((codes ":" ++ ty_text p.1) ++ rest) (omega arith)

typed_some : (p : ℕ × Ty) → 1 ≤ length (typed_place p)
typed_some p = longer (place_text p.0) (codes ":" ++ ty_text p.1) (place_some p.0)
  where
    longer : (a b : List ℕ) → 1 ≤ length a → 1 ≤ length (a ++ b)
    longer [] b h = absurd (omega (arith, h))
    longer (x ∷ a) b h = omega arith

abbrev pub PlacesFit : List (ℕ × Ty) → Type 0
PlacesFit places = KeysRise 0 places × All IsTypedPlace places

pub exact-rising : Exact (rising 32 93 255 typed_place_from) (Spelled Any PlacesFit (λ places. places_text places ++ codes "]")) Anything
exact-rising = spelled-rising 32 93 255 typed_place_from IsTypedPlace typed_place Anything exact-typed_place (λ x h. (let lt = h.0 in omega arith)) (λ e. omega arith) (λ x _. typed_some x)
    (λ x rest _. typed_first x rest) (λ _. tt) (λ _. tt)

-- ---- a label's state

abbrev pub label_tail : LabelState → List ℕ
label_tail state = quantifier_text state.vars state.rows ++ (codes " [" ++ (places_text state.places ++ codes "]\n"))

-- a value and the end of its line
module _ {A : Type 0} (Fits : A → Type 0) (text : A → List ℕ) where
  abbrev LineEnd : A → List ℕ → Type 0
  LineEnd = InTurn (Spelled Any Fits text) (λ x. IsBehind (codes "\n") (IsGiven x))

  end_from : (x : A) (t : List ℕ) → LineEnd x t → Spelled Any Fits (λ y. text y ++ codes "\n") x t
  end_from x t i = record {
    known = tt;
    fits = subst Fits (sym i.second.is.value) i.first.fits;
    is = i.parts ∙ ap (λ (u : List ℕ). i.front ++ u) (i.second.parts ∙ ap (λ (u : List ℕ). 10 ∷ u) i.second.is.nothing)
        ∙ ap (λ (u : List ℕ). u ++ codes "\n") i.first.is ∙ ap (λ (y : A). text y ++ codes "\n") (sym i.second.is.value);
  }

  end_to : (x : A) (t : List ℕ) → Spelled Any Fits (λ y. text y ++ codes "\n") x t → LineEnd x t
  end_to x t s = record {
    value = x;
    front = text x;
    back = codes "\n";
    first = record { known = tt; fits = s.fits; is = refl };
    second = record { back = []; is = record { value = refl; nothing = refl }; parts = refl };
    parts = s.is;
  }

abbrev closed_places : List (ℕ × Ty) → List ℕ
closed_places places = places_text places ++ codes "]"

exact-typed_places : Exact typed_places (Spelled Any PlacesFit (λ places. closed_places places ++ codes "\n")) Anything
exact-typed_places = exact_as _ (LineEnd PlacesFit closed_places) _ Anything Anything
    (exact-in_turn _ _ (Spelled Any PlacesFit closed_places) _ Anything Anything exact-rising (λ x _ _. exact-behind (codes "\n") _ _ Anything (given x Anything)) (λ _ _ _ _ _ _. tt))
    (end_from PlacesFit closed_places) (end_to PlacesFit closed_places) (λ _ _. tt)

abbrev state_text : (ℕ × List Linear) × List (ℕ × Ty) → List ℕ
state_text = joined_by quantified_text (codes " [") (λ places. closed_places places ++ codes "\n")

pub exact-label_state : Exact label_state (Spelled Any IsLabelState label_tail) Anything
unfolding label_state
exact-label_state = spelled_made state_of (λ state. ((state.vars, state.rows), state.places)) _ (Both IsQuantified PlacesFit) IsLabelState state_text label_tail Anything
    (spelled_two quantifier (codes " [") typed_places IsQuantified PlacesFit quantified_text (λ places. closed_places places ++ codes "\n") Anything Anything spelled-quantifier exact-typed_places (λ _ _ _ _. tt))
    (λ x h. record { quantifier = h.0; rise = h.1.0; places = h.1.1 })
    (λ state h. (h.quantifier, (h.rise, h.places)))
    (λ state _. refl)
    (λ x. ap (λ (u : List ℕ). quantified_text x.0 ++ (codes " [" ++ u)) (append_assoc (places_text x.1) (codes "]") (codes "\n")))

-- ---- lines of a proof

spelled-one_line : Exact one_line (Spelled Any IsLine line_text) Stops
spelled-one_line = exact_as _ IsLineText _ Stops Stops exact-one_line
    (λ l text i. record { known = tt; fits = i.fits; is = i.is }) (λ l text s. record { fits = s.fits; is = s.is }) (λ _ h. h)

line_first : (l : Line) (rest : List ℕ) → after 10 (line_text l ++ rest) ≡ None
unfolding line_text
line_first (line.Hyp e) rest = after_other 10 104 _ (λ e. omega arith)
line_first line.Goal rest = after_other 10 103 _ (λ e. omega arith)
line_first (line.Comb a b c d) rest = after_other 10 99 _ (λ e. omega arith)
line_first (line.Cut a b) rest = after_other 10 116 _ (λ e. omega arith)

line_some : (l : Line) → 1 ≤ length (line_text l)
unfolding line_text
line_some (line.Hyp e) = omega arith
line_some line.Goal = omega arith
line_some (line.Comb a b c d) = omega arith
line_some (line.Cut a b) = omega arith

more_same : (lines : List Line) → each_behind (codes ";") line_text lines ≡ more_text lines
unfolding each_behind
more_same [] = refl
more_same (l ∷ lines) = ap (λ (u : List ℕ). codes ";" ++ (line_text l ++ u)) (more_same lines)

are_from : (lines : List Line) → All IsLine lines → AreLines lines
are_from [] h = tt
are_from (l ∷ lines) h = (All-head IsLine l lines h, are_from lines (All-tail IsLine l lines h))

are_to : (lines : List Line) → AreLines lines → All IsLine lines
are_to [] h = All-nil IsLine
are_to (l ∷ lines) h = All-cons IsLine l lines h.0 (are_to lines h.1)

-- behind the word
abbrev pub proof_tail : List Line → List ℕ
proof_tail lines = joined (codes ";") line_text lines ++ codes "\n"

pub by_is : (lines : List Line) → AreLinesIn lines → codes "by " ++ proof_tail lines ≡ by_line lines
by_is [] h = let some = h.some in absurd (omega arith)
by_is (l ∷ lines) h = ap (λ (u : List ℕ). codes "by " ++ ((line_text l ++ u) ++ codes "\n")) (more_same lines)

pub exact-proof : Exact proof (Spelled Any AreLinesIn proof_tail) Anything
unfolding proof
exact-proof = exact_as _ (Spelled Any (λ lines. (1 ≤ length lines) × (length lines ≤ LAST_NUMBER) × All IsLine lines) proof_tail) _ Anything Anything
    (spelled-some_bounded 59 10 one_line IsLine line_text Stops spelled-one_line (λ e. omega arith) (λ l _. line_some l) (λ l rest _. line_first l rest)
    (λ rest. record { item = refl; list = after_other 118 59 rest (λ e. omega arith) }) (λ rest. record { item = refl; list = after_other 118 10 rest (λ e. omega arith) }) 4294967294)
    (λ lines text s. record { known = tt; fits = record { some = s.fits.0; few = s.fits.1; are = are_from lines s.fits.2; is = refl }; is = s.is })
    (λ lines text s. record { known = tt; fits = (s.fits.some, s.fits.few, are_to lines s.fits.are); is = s.is }) (λ _ _. tt)
