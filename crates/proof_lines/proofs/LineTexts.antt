-- What is read as lines is spelled so, and what is spelled so is read.
use Rattle.std.proofs.Common.{◌≡◌, inl, inr, ℕ, ℤ, List, [], ◌∷◌, ◌++◌, length, Ok, codes, decimal, refl, sym, ap, subst, ◌∙◌, arith}
use Rattle.std.specs.Fmt.{signed_decimal}
use Rattle.xan_lin.specs.Text.{form_text}
use Rattle.xan_read.specs.Reader.{Exact, whole_text, ReadsWhole}
use Rattle.xan_read.specs.Combinators.{IsGiven, InTurn, IsMade, IsBehind, after}
use Rattle.xan_read.specs.Lists.{Ends, AreBehind, IsSeparated}
use Rattle.xan_read.specs.Numbers.{NoDigit, number}
use Rattle.xan_read.specs.Integers.{IsInteger, integer}
use Rattle.xan_read.specs.Spelled.{Any, Spelled, IsBetween, Both, spaced}
use Rattle.xan_read.specs.Words.{IsWord}
use Rattle.xan_read.specs.Code.{Fails}
use Rattle.xan_read.specs.declared.fault.ReadError.{ReadError}
use Rattle.xan_read.specs.declared.fault.ReadError.TheVariants as reading
use Rattle.xan_read.proofs.ReaderLaws.{given, exact-made, exact-in_turn, exact-behind, exact_as, after_other, reads_whole}
use Rattle.xan_read.proofs.IntegerLaws.{exact-integer}
use Rattle.xan_read.proofs.SpelledLaws.{spelled_number, spelled_pair}
use Rattle.xan_read.proofs.ListLaws.{exact-separated}
use Rattle.xan_read.proofs.WordLaws.{exact-word}
use Rattle.proof_lines.specs.declared.line.Line.{Line}
use Rattle.proof_lines.specs.declared.line.Line.TheVariants as line
use Rattle.proof_lines.specs.declared.text_error.LineTextError.{LineTextError}
use Rattle.proof_lines.specs.declared.line_text.Kind.{Kind}
use Rattle.proof_lines.specs.declared.line_text.Kind.TheVariants as kind
use Rattle.proof_lines.specs.Spelling.{line_text, more_text, IsRowNumber, IsMultiplier, IsLine, AreLines, IsLinesText, Refuses, said_of}
use Rattle.proof_lines.specs.Reading.{multiple, two_multiples, division, kinds, operands, one_line, lines}
use Rattle.proof_lines.proofs.Forms.{Stops, IsFormLine, spelled-form}

-- ---- numbers

exact-row : Exact (number 0 4294967295) (Spelled Any IsRowNumber decimal) NoDigit
exact-row = exact_as _ (Spelled Any (IsBetween 0 4294967295) decimal) _ NoDigit NoDigit (spelled_number 0 4294967295 (omega arith) (omega arith))
    (λ n text s. record { known = tt; fits = s.fits.1; is = s.is }) (λ n text s. record { known = tt; fits = (omega arith, s.fits); is = s.is }) (λ _ h. h)

exact-multiplier : Exact (integer 9223372036854775808 9223372036854775807) (Spelled Any IsMultiplier signed_decimal) NoDigit
exact-multiplier = exact_as _ (IsInteger 9223372036854775808 9223372036854775807) _ NoDigit NoDigit
    (exact-integer 9223372036854775808 9223372036854775807 (omega arith) (omega arith) (omega arith))
    (λ z text i. record { known = tt; fits = i.within; is = i.is }) (λ z text s. record { within = s.fits; is = s.is }) (λ _ h. h)

abbrev multiple_text : ℤ × ℕ → List ℕ
multiple_text = spaced signed_decimal decimal

exact-multiple : Exact multiple (Spelled Any (Both IsMultiplier IsRowNumber) multiple_text) NoDigit
unfolding multiple
exact-multiple = spelled_pair _ _ _ _ signed_decimal decimal NoDigit NoDigit exact-multiplier exact-row (λ _. refl)

exact-two_multiples : Exact two_multiples (Spelled Any (Both (Both IsMultiplier IsRowNumber) (Both IsMultiplier IsRowNumber)) (spaced multiple_text multiple_text)) NoDigit
unfolding two_multiples
exact-two_multiples = spelled_pair _ _ _ _ multiple_text multiple_text NoDigit NoDigit exact-multiple exact-multiple (λ _. refl)

exact-division : Exact division (Spelled Any (Both IsRowNumber IsMultiplier) (spaced decimal signed_decimal)) NoDigit
unfolding division
exact-division = spelled_pair _ _ _ _ decimal signed_decimal NoDigit NoDigit exact-row exact-multiplier (λ _. refl)

-- ---- what stands behind the first byte

abbrev as_combination : (ℤ × ℕ) × (ℤ × ℕ) → Line
as_combination x = line.Comb x.0.0 x.0.1 x.1.0 x.1.1

abbrev as_cut : ℕ × ℤ → Line
as_cut x = line.Cut x.0 x.1

abbrev IsOperands : Kind → Line → List ℕ → Type 0
IsOperands kind.Hyp = IsMade (λ e. line.Hyp e) (Spelled Any IsFormLine form_text)
IsOperands kind.Goal = IsGiven line.Goal
IsOperands kind.Comb = IsMade as_combination (Spelled Any (Both (Both IsMultiplier IsRowNumber) (Both IsMultiplier IsRowNumber)) (spaced multiple_text multiple_text))
IsOperands kind.Cut = IsMade as_cut (Spelled Any (Both IsRowNumber IsMultiplier) (spaced decimal signed_decimal))

exact-operands : (k : Kind) → Exact (operands k) (IsOperands k) Stops
unfolding operands
exact-operands kind.Hyp = exact-made (λ e. line.Hyp e) _ _ Stops spelled-form
exact-operands kind.Goal = given line.Goal Stops
exact-operands kind.Comb = exact_as _ _ _ NoDigit Stops (exact-made as_combination _ _ NoDigit exact-two_multiples) (λ _ _ h. h) (λ _ _ h. h) (λ _ h. h.item)
exact-operands kind.Cut = exact_as _ _ _ NoDigit Stops (exact-made as_cut _ _ NoDigit exact-division) (λ _ _ h. h) (λ _ _ h. h) (λ _ h. h.item)

-- ---- a line

pub record IsLineText (l : Line) (text : List ℕ) : Type 0 where
  pub fits : IsLine l
  pub is : text ≡ line_text l

kind_text : Kind → List ℕ
kind_text kind.Hyp = codes "h "
kind_text kind.Goal = codes "g"
kind_text kind.Comb = codes "c "
kind_text kind.Cut = codes "t "

kind_is : (k : Kind) (text : List ℕ) → IsWord kinds k text → text ≡ kind_text k
unfolding kind_text
kind_is k text (inl p) = p.1 ∙ ap kind_text (sym p.0)
kind_is k text (inr (inl p)) = p.1 ∙ ap kind_text (sym p.0)
kind_is k text (inr (inr (inl p))) = p.1 ∙ ap kind_text (sym p.0)
kind_is k text (inr (inr (inr (inl p)))) = p.1 ∙ ap kind_text (sym p.0)
kind_is k text (inr (inr (inr (inr never)))) = absurd never

is_kind : (k : Kind) → IsWord kinds k (kind_text k)
unfolding kind_text
is_kind kind.Hyp = inl (refl, refl)
is_kind kind.Goal = inr (inl (refl, refl))
is_kind kind.Comb = inr (inr (inl (refl, refl)))
is_kind kind.Cut = inr (inr (inr (inl (refl, refl))))

made_line : (k : Kind) (l : Line) (text : List ℕ) → IsOperands k l text → IsLineText l (kind_text k ++ text)
unfolding kind_text line_text
made_line kind.Hyp l text i = record {
  fits = subst IsLine (sym i.made) i.is.fits;
  is = ap (λ (t : List ℕ). codes "h " ++ t) i.is.is ∙ ap line_text (sym i.made);
}
made_line kind.Goal l text i = record {
  fits = subst IsLine (sym i.value) tt;
  is = ap (λ (t : List ℕ). codes "g" ++ t) i.nothing ∙ ap line_text (sym i.value);
}
made_line kind.Comb l text i = record {
  fits = subst IsLine (sym i.made) (i.is.fits.0.0, i.is.fits.0.1, i.is.fits.1.0, i.is.fits.1.1);
  is = ap (λ (t : List ℕ). codes "c " ++ t) i.is.is ∙ ap line_text (sym i.made);
}
made_line kind.Cut l text i = record {
  fits = subst IsLine (sym i.made) i.is.fits;
  is = ap (λ (t : List ℕ). codes "t " ++ t) i.is.is ∙ ap line_text (sym i.made);
}

record HasOperands (l : Line) : Type 0 where
  kind_of : Kind
  text : List ℕ
  are : IsOperands kind_of l text

has_operands : (l : Line) → IsLine l → HasOperands l
has_operands (line.Hyp e) h = record { kind_of = kind.Hyp; text = form_text e; are = record { value = e; made = refl; is = record { known = tt; fits = h; is = refl } } }
has_operands line.Goal h = record { kind_of = kind.Goal; text = []; are = record { value = refl; nothing = refl } }
has_operands (line.Comb left_by left right_by right) h = record {
  kind_of = kind.Comb;
  text = spaced multiple_text multiple_text ((left_by, left), (right_by, right));
  are = record { value = ((left_by, left), (right_by, right)); made = refl; is = record { known = tt; fits = ((h.0, h.1), (h.2, h.3)); is = refl } };
}
has_operands (line.Cut row by) h = record { kind_of = kind.Cut; text = spaced decimal signed_decimal (row, by); are = record { value = (row, by); made = refl; is = record { known = tt; fits = h; is = refl } } }

abbrev IsLineInTurn : Line → List ℕ → Type 0
IsLineInTurn = InTurn (IsWord kinds) IsOperands

pub exact-one_line : Exact one_line IsLineText Stops
unfolding one_line
exact-one_line = exact_as _ IsLineInTurn IsLineText Stops Stops
    (exact-in_turn _ _ (IsWord kinds) IsOperands (λ _. Unit {0}) Stops (exact-word _ _ refl) (λ k _ _. exact-operands k) (λ _ _ _ _ _ _. tt))
    (λ l text i. subst (IsLineText l) (sym (i.parts ∙ ap (λ (t : List ℕ). t ++ i.back) (kind_is i.value i.front i.first))) (made_line i.value l i.back i.second))
    (λ l text t. (let o = has_operands l t.fits in
    record {
      value = o.kind_of;
      front = kind_text o.kind_of;
      back = o.text;
      first = is_kind o.kind_of;
      second = o.are;
      parts = t.is ∙ sym (made_line o.kind_of l o.text o.are).is;
    }))
    (λ _ h. h)

-- ---- lines

more_from : (ls : List Line) (text : List ℕ) → AreBehind 59 IsLineText ls text → AreLines ls × (text ≡ more_text ls)
more_from [] text e = (tt, e)
more_from (l ∷ ls) text b =
    let later = more_from ls b.1 b.3 in
    ((b.2.fits, later.0), b.4 ∙ ap (λ (t : List ℕ). 59 ∷ (t ++ b.1)) b.2.is ∙ ap (λ (t : List ℕ). 59 ∷ (line_text l ++ t)) later.1)

more_to : (ls : List Line) → AreLines ls → AreBehind 59 IsLineText ls (more_text ls)
more_to [] h = refl
more_to (l ∷ ls) h = (line_text l, more_text ls, record { fits = h.0; is = refl }, more_to ls h.1, refl)

abbrev IsSeparatedLines : List Line → List ℕ → Type 0
IsSeparatedLines = IsSeparated 59 4294967294 IsLineText

lines_from : (ls : List Line) (text : List ℕ) → IsBehind (codes "by ") IsSeparatedLines ls text → IsLinesText ls text
lines_from [] text b = absurd b.is
lines_from (l ∷ ls) text b =
    let first = b.is.2 in
    let rest = b.is.3 in
    let more = more_from ls b.is.1 rest.are in
    let few = rest.few in
    record {
      some = omega arith;
      few = omega arith;
      are = (first.fits, more.0);
      is = b.parts ∙ ap (λ (t : List ℕ). codes "by " ++ t) (b.is.4 ∙ ap (λ (t : List ℕ). t ++ b.is.1) first.is ∙ ap (λ (t : List ℕ). line_text l ++ t) more.1);
    }

lines_to : (ls : List Line) (text : List ℕ) → IsLinesText ls text → IsBehind (codes "by ") IsSeparatedLines ls text
lines_to [] text t = let some = t.some in absurd (omega arith)
lines_to (l ∷ ls) text t =
    let few = t.few in
    record {
      back = line_text l ++ more_text ls;
      is = (line_text l, more_text ls, record { fits = t.are.0; is = refl }, record { few = omega arith; are = more_to ls t.are.1 }, refl);
      parts = t.is;
    }

abbrev Ending : List ℕ → Type 0
Ending = Ends Stops 59

exact-lines : Exact lines IsLinesText Ending
unfolding lines
exact-lines = exact_as _ (IsBehind (codes "by ") IsSeparatedLines) IsLinesText Ending Ending
    (exact-behind (codes "by ") _ IsSeparatedLines Ending
    (exact-separated 59 one_line IsLineText Stops exact-one_line (λ rest. record { item = refl; list = after_other 118 59 rest (λ e. omega arith) }) 4294967294))
    lines_from lines_to (λ _ h. h)

at_the_end : Ending []
unfolding after
at_the_end = record { item = record { item = tt; list = refl }; list = refl }

pub whole-lines : ReadsWhole lines IsLinesText
whole-lines = reads_whole lines IsLinesText Ending exact-lines at_the_end

-- ---- what the code answers

pub reads_lines : (bytes : List ℕ) (ls : List Line) → whole_text lines bytes ≡ Ok ls → IsLinesText ls bytes
reads_lines bytes ls e = whole-lines.found bytes ls e

pub refuses_bytes : (bytes : List ℕ) (e : ReadError) (told : LineTextError) → told ≡ said_of e (length bytes) → Fails e (whole_text lines bytes) → Refuses told bytes
refuses_bytes bytes (reading.Fault fault) told same f = subst (λ (t : LineTextError). Refuses t bytes) (sym same) (whole-lines.fault bytes fault.left f)
refuses_bytes bytes reading.Memory told same f = subst (λ (t : LineTextError). Refuses t bytes) (sym same) tt
