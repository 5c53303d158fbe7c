-- What is read as the lines of a function: each is spelled so, and may come where it stands.
use Rattle.std.proofs.Common.{◌≡◌, ℕ, suc, ◌<◌, ◌≤◌, Bool, true, false, ◌||◌, ◌&&◌, cond, nat_lt, List, [], ◌∷◌, ◌++◌, length, Option, Some, None, codes, decimal, refl, sym, ap, subst, ◌∙◌, append_assoc, arith, lit<, lit≤}
use Rattle.std.proofs.lemmas.Bool.{and_parts}
use Rattle.std.proofs.lemmas.Bool.Decides.{nat_tests}
use Rattle.std.proofs.lemmas.List.{length-append}
use Rattle.xan_lin.specs.Linear.{Linear}
use Rattle.xan_read.specs.Reader.{Exact}
use Rattle.xan_read.specs.Combinators.{IsGiven, InTurn, IsBehind, IsMade}
use Rattle.xan_read.specs.Numbers.{NoDigit}
use Rattle.xan_read.specs.Spelled.{Any, Spelled}
use Rattle.xan_read.specs.Words.{IsWord, word}
use Rattle.xan_read.proofs.ReaderLaws.{given, exact-made, exact-in_turn, exact-behind}
use Rattle.dtal_code.specs.declared.instruction.Op.{Op}
use Rattle.dtal_code.specs.declared.instruction.Op.TheVariants as op
use Rattle.dtal_code.specs.declared.limits.TheConstants.{LAST_NUMBER}
use Rattle.dtal_code.specs.declared.program.LabelState.{LabelState}
use Rattle.dtal_code.specs.Grammar.{IsOpIn, IsWay, IsLabelState, AreLinesIn, is_last}
use Rattle.dtal_code.specs.Spelling.{op_text, has_edge, way_text, by_line, label_line}
use Rattle.dtal_text.specs.declared.line.BodyLine.{BodyLine}
use Rattle.dtal_text.specs.declared.line.BodyLine.TheVariants as line_is
use Rattle.dtal_text.specs.declared.line.Lines.{Lines}
use Rattle.dtal_text.specs.declared.line.Stand.{Stand}
use Rattle.dtal_text.specs.declared.line.Stand.TheVariants as stand
use Rattle.dtal_text.specs.declared.line.Which.{Which}
use Rattle.dtal_text.specs.declared.line.Which.TheVariants as which
use Rattle.dtal_text.specs.declared.word.LineWord.{LineWord}
use Rattle.dtal_text.specs.declared.word.LineWord.TheVariants as line_word
use Rattle.dtal_text.specs.declared.word.OpWord.{OpWord}
use Rattle.dtal_text.specs.LineReading.{instrs_behind, label_may, words_at, words_where, stand_behind, behind_line, label_state, proof, instr_line, line_behind, line, at_first, lines}
use Rattle.dtal_text.specs.OperandReading.{operands}
use Rattle.dtal_text.proofs.ChainedLists.{IsChain, Ending, exact-chain}
use Rattle.dtal_text.proofs.LineWords.{line_word_text, word_some, Comes, MayCome, word_from, word_to, HasWords, exact-words}
use Rattle.dtal_text.proofs.LabelTexts.{label_tail, exact-label_state, proof_tail, by_is, exact-proof}
use Rattle.dtal_text.proofs.OperandTexts.{IsOperands, exact-operands, op_word_text, IsLastWord, made_way, has_word}
use Rattle.dtal_text.proofs.SpelledTypes.{Anything}

-- ---- states

-- one that is not behind the last instruction of its block has room for one more
abbrev HasRoom : Stand → (instrs : ℕ) → Type 0
HasRoom stand.First instrs = instrs < LAST_NUMBER
HasRoom stand.Within instrs = instrs < LAST_NUMBER
HasRoom stand.Last instrs = Unit {0}

pub record Good (s : Lines) : Type 0 where
  pub labels : s.labels ≤ LAST_NUMBER
  pub instrs : s.instrs ≤ LAST_NUMBER
  pub room : HasRoom s.stand s.instrs

-- which instructions may come, by their number
abbrev which_by : (more one : Bool) → Which
which_by more one = cond more which.Any (cond one which.Last which.Nothing)

some_instrs : (by label end more one : Bool) → one ≡ true → HasWords (which_by more one) by label end
some_instrs by label end true one e = tt
some_instrs by label end false true e = tt
some_instrs by label end false false e = absurd cc

or_last : (a b : Bool) → ((a || b) || true) ≡ true
or_last true b = refl
or_last false true = refl
or_last false false = refl

exact-words_where : (s : Lines) → Good s → Exact (word (words_where s)) (IsWord (words_where s)) Anything
exact-words_where s good = go s.stand good.room
  where
    less : (n : ℕ) → n < LAST_NUMBER → nat_lt n LAST_NUMBER ≡ true
    less n h = grind (arith, nat_tests)

    last_has : (i : Which) (l : Bool) → HasWords i true l true
    last_has which.Any l = tt
    last_has which.Last l = tt
    last_has which.Nothing l = or_last true l

    go : (st : Stand) → HasRoom st s.instrs → Exact (word (words_at st s)) (IsWord (words_at st s)) Anything
    go stand.First room = exact-words (instrs_behind s.instrs) false false false (some_instrs false false false (nat_lt (suc s.instrs) LAST_NUMBER) (nat_lt s.instrs LAST_NUMBER) (less s.instrs room))
    go stand.Within room = exact-words (instrs_behind s.instrs) true false false (some_instrs true false false (nat_lt (suc s.instrs) LAST_NUMBER) (nat_lt s.instrs LAST_NUMBER) (less s.instrs room))
    go stand.Last room = exact-words (instrs_behind s.instrs) true (label_may s) true (last_has (instrs_behind s.instrs) (label_may s))

-- ---- what stands behind a word

abbrev InstrLine : OpWord → Option BodyLine → List ℕ → Type 0
InstrLine w = InTurn (IsOperands w) (λ x. IsBehind (codes "\n") (IsGiven (Some (line_is.Instr x.0 x.1))))

abbrev pub IsLineBehind : Lines → LineWord → Option BodyLine → List ℕ → Type 0
IsLineBehind s (line_word.Op w) = InstrLine w
IsLineBehind s line_word.By = IsMade (λ ls. Some (line_is.By ls)) (Spelled Any AreLinesIn proof_tail)
IsLineBehind s line_word.Label = IsBehind (decimal (suc s.labels) ++ codes " ") (IsMade (λ label. Some (line_is.Label label)) (Spelled Any IsLabelState label_tail))
IsLineBehind s line_word.End = IsGiven None

exact-instr_line : (w : OpWord) → Exact (instr_line (operands w)) (InstrLine w) Anything
unfolding instr_line
exact-instr_line w = exact-in_turn _ _ (IsOperands w) _ NoDigit Anything (exact-operands w)
    (λ x _ _. exact-behind (codes "\n") _ _ Anything (given (Some (line_is.Instr x.0 x.1)) Anything))
    (λ x y back rest i _. subst (λ (t : List ℕ). NoDigit (t ++ rest)) (sym i.parts) refl)

exact-line_behind : (s : Lines) (w : LineWord) → Exact (line_behind s w) (IsLineBehind s w) Anything
unfolding line_behind
exact-line_behind s (line_word.Op w) = exact-instr_line w
exact-line_behind s line_word.By = exact-made (λ ls. Some (line_is.By ls)) proof _ Anything exact-proof
exact-line_behind s line_word.Label = exact-behind (decimal (suc s.labels) ++ codes " ") _ _ Anything (exact-made (λ label. Some (line_is.Label label)) label_state _ Anything exact-label_state)
exact-line_behind s line_word.End = given None Anything

-- ---- a line

abbrev pub IsItem : Lines → Option BodyLine → List ℕ → Type 0
IsItem s = InTurn (IsWord (words_where s)) (IsLineBehind s)

exact-line : (s : Lines) → Good s → Exact (line s) (IsItem s) Anything
unfolding line
exact-line s good = exact-in_turn _ _ (IsWord (words_where s)) (IsLineBehind s) Anything Anything (exact-words_where s good) (λ w _ _. exact-line_behind s w) (λ _ _ _ _ _ _. tt)

-- ---- what a line is, and where it may come

abbrev pub LineFits : BodyLine → Type 0
LineFits (line_is.Instr o edge) = IsOpIn o × IsWay (has_edge o) edge
LineFits (line_is.By ls) = AreLinesIn ls
LineFits (line_is.Label label) = IsLabelState label

abbrev pub NotFirst : Stand → Type 0
NotFirst stand.First = ⊥
NotFirst _ = Unit {0}

abbrev pub IsLastStand : Stand → Type 0
IsLastStand stand.Last = Unit {0}
IsLastStand _ = ⊥

-- an instruction that is not the last of its block has room for one behind it
pub record InstrComes (s : Lines) (o : Op) : Type 0 where
  pub one : s.instrs < LAST_NUMBER
  pub more : is_last o ≡ false → suc s.instrs < LAST_NUMBER

pub record LabelComes (s : Lines) : Type 0 where
  pub last : IsLastStand s.stand
  pub labels : s.labels < LAST_NUMBER
  pub instrs : s.instrs < LAST_NUMBER

abbrev pub LineComes : Lines → BodyLine → Type 0
LineComes s (line_is.Instr o edge) = InstrComes s o
LineComes s (line_is.By ls) = NotFirst s.stand
LineComes s (line_is.Label label) = LabelComes s

abbrev pub body_line : (label : ℕ) → BodyLine → List ℕ
body_line label (line_is.Instr o edge) = op_text o ++ (way_text (has_edge o) edge ++ codes "\n")
body_line label (line_is.By ls) = by_line ls
body_line label (line_is.Label state) = label_line label state

pub record IsLineAt (s : Lines) (l : BodyLine) (text : List ℕ) : Type 0 where
  pub fits : LineFits l
  pub comes : LineComes s l
  pub is : text ≡ body_line (suc s.labels) l

-- ---- the words of a state

less_is : (m n : ℕ) → nat_lt m n ≡ true → m < n
less_is m n e = grind (arith, nat_tests)

is_less : (m n : ℕ) → m < n → nat_lt m n ≡ true
is_less m n h = grind (arith, nat_tests)

-- an instruction that the number of those before it lets come
instr_from : (s : Lines) (w : OpWord) (o : Op) → Comes (instrs_behind s.instrs) w → (IsLastWord w → is_last o ≡ true) → InstrComes s o
instr_from s w o h last = go (nat_lt (suc s.instrs) LAST_NUMBER) (nat_lt s.instrs LAST_NUMBER) refl refl h
  where
    clash : (b : Bool) → b ≡ true → b ≡ false → suc s.instrs < LAST_NUMBER
    clash b e1 e2 = absurd cc

    go : (more one : Bool) → nat_lt (suc s.instrs) LAST_NUMBER ≡ more → nat_lt s.instrs LAST_NUMBER ≡ one → Comes (which_by more one) w → InstrComes s o
    go true one e1 e2 h = let lt = less_is (suc s.instrs) LAST_NUMBER e1 in record { one = omega arith; more = λ _. lt }
    go false true e1 e2 h = record { one = less_is s.instrs LAST_NUMBER e2; more = λ e. clash (is_last o) (last h) e }
    go false false e1 e2 h = absurd h

instr_to : (s : Lines) (w : OpWord) (o : Op) → InstrComes s o → (is_last o ≡ true → IsLastWord w) → Comes (instrs_behind s.instrs) w
instr_to s w o h last = go (nat_lt (suc s.instrs) LAST_NUMBER) (nat_lt s.instrs LAST_NUMBER) refl refl (is_last o) refl
  where
    not_less : (m n : ℕ) → nat_lt m n ≡ false → m < n → ⊥
    not_less m n e h = absurd (omega (arith, clash (nat_lt m n) (is_less m n h) e))
      where
        clash : (b : Bool) → b ≡ true → b ≡ false → 1 ≤ 0
        clash b e1 e2 = absurd cc

    go : (more one : Bool) → nat_lt (suc s.instrs) LAST_NUMBER ≡ more → nat_lt s.instrs LAST_NUMBER ≡ one → (b : Bool) → is_last o ≡ b → Comes (which_by more one) w
    go true one e1 e2 b e3 = tt
    go false true e1 e2 true e3 = last e3
    go false true e1 e2 false e3 = absurd (not_less (suc s.instrs) LAST_NUMBER e1 (h.more e3))
    go false false e1 e2 b e3 = absurd (not_less s.instrs LAST_NUMBER e2 h.one)

-- where the words of a state let a word come
abbrev WordComes : Lines → LineWord → Type 0
WordComes s (line_word.Op w) = Comes (instrs_behind s.instrs) w
WordComes s line_word.By = NotFirst s.stand
WordComes s line_word.Label = LabelComes s
WordComes s line_word.End = IsLastStand s.stand

record WordAt (s : Lines) (w : LineWord) (text : List ℕ) : Type 0 where
  is : text ≡ line_word_text w
  comes : WordComes s w

comes_from : (s : Lines) (w : LineWord) (text : List ℕ) → IsWord (words_where s) w text → WordAt s w text
comes_from s w text i = go s.stand refl i
  where
    not_false : false ≡ true → ⊥
    not_false e = absurd cc

    stays : (st : Stand) → s.stand ≡ st → (P : Stand → Type 0) → P st → P s.stand
    stays st e P h = subst P (sym e) h

    label_from : (st : Stand) → s.stand ≡ st → IsLastStand st → label_may s ≡ true → LabelComes s
    label_from st e h may =
        let parts = and_parts (nat_lt s.labels LAST_NUMBER) (nat_lt s.instrs LAST_NUMBER) may in
        record { last = stays st e IsLastStand h; labels = less_is s.labels LAST_NUMBER parts.0; instrs = less_is s.instrs LAST_NUMBER parts.1 }

    at_first_stand : (v : LineWord) → s.stand ≡ stand.First → MayCome (instrs_behind s.instrs) false false false v → WordComes s v
    at_first_stand (line_word.Op w) e h = h
    at_first_stand line_word.By e h = absurd (not_false h)
    at_first_stand line_word.Label e h = absurd (not_false h)
    at_first_stand line_word.End e h = absurd (not_false h)

    within : (v : LineWord) → s.stand ≡ stand.Within → MayCome (instrs_behind s.instrs) true false false v → WordComes s v
    within (line_word.Op w) e h = h
    within line_word.By e h = stays stand.Within e NotFirst tt
    within line_word.Label e h = absurd (not_false h)
    within line_word.End e h = absurd (not_false h)

    at_last : (v : LineWord) → s.stand ≡ stand.Last → MayCome (instrs_behind s.instrs) true (label_may s) true v → WordComes s v
    at_last (line_word.Op w) e h = h
    at_last line_word.By e h = stays stand.Last e NotFirst tt
    at_last line_word.Label e h = label_from stand.Last e tt h
    at_last line_word.End e h = stays stand.Last e IsLastStand tt

    go : (st : Stand) → s.stand ≡ st → IsWord (words_at st s) w text → WordAt s w text
    go stand.First e j = let k = word_from (instrs_behind s.instrs) false false false w text j in record { is = k.is; comes = at_first_stand w e k.may }
    go stand.Within e j = let k = word_from (instrs_behind s.instrs) true false false w text j in record { is = k.is; comes = within w e k.may }
    go stand.Last e j = let k = word_from (instrs_behind s.instrs) true (label_may s) true w text j in record { is = k.is; comes = at_last w e k.may }

comes_to : (s : Lines) (w : LineWord) → WordComes s w → IsWord (words_where s) w (line_word_text w)
comes_to s w h = go s.stand refl
  where
    both : (a b : Bool) → a ≡ true → b ≡ true → (a && b) ≡ true
    both a b e1 e2 = cc

    goes : (st : Stand) → s.stand ≡ st → (P : Stand → Type 0) → P s.stand → P st
    goes st e P k = subst P e k

    at_first_stand : (v : LineWord) → s.stand ≡ stand.First → WordComes s v → MayCome (instrs_behind s.instrs) false false false v
    at_first_stand (line_word.Op w) e k = k
    at_first_stand line_word.By e k = absurd (goes stand.First e NotFirst k)
    at_first_stand line_word.Label e k = absurd (goes stand.First e IsLastStand k.last)
    at_first_stand line_word.End e k = absurd (goes stand.First e IsLastStand k)

    within : (v : LineWord) → s.stand ≡ stand.Within → WordComes s v → MayCome (instrs_behind s.instrs) true false false v
    within (line_word.Op w) e k = k
    within line_word.By e k = refl
    within line_word.Label e k = absurd (goes stand.Within e IsLastStand k.last)
    within line_word.End e k = absurd (goes stand.Within e IsLastStand k)

    at_last : (v : LineWord) → s.stand ≡ stand.Last → WordComes s v → MayCome (instrs_behind s.instrs) true (label_may s) true v
    at_last (line_word.Op w) e k = k
    at_last line_word.By e k = refl
    at_last line_word.Label e k = both (nat_lt s.labels LAST_NUMBER) (nat_lt s.instrs LAST_NUMBER) (is_less s.labels LAST_NUMBER k.labels) (is_less s.instrs LAST_NUMBER k.instrs)
    at_last line_word.End e k = refl

    go : (st : Stand) → s.stand ≡ st → IsWord (words_at st s) w (line_word_text w)
    go stand.First e = word_to (instrs_behind s.instrs) false false false w (at_first_stand w e h)
    go stand.Within e = word_to (instrs_behind s.instrs) true false false w (within w e h)
    go stand.Last e = word_to (instrs_behind s.instrs) true (label_may s) true w (at_last w e h)

-- ---- from what is read to lines, and back

-- what a line or the mark is
abbrev IsAt : Lines → Option BodyLine → List ℕ → Type 0
IsAt s None text = IsLastStand s.stand × (text ≡ codes "end\n")
IsAt s (Some l) text = IsLineAt s l text

instr_is : (s : Lines) (w : OpWord) (o : Option BodyLine) (text : List ℕ) → Comes (instrs_behind s.instrs) w → InstrLine w o text → IsAt s o (op_word_text w ++ text)
instr_is s w o text h i =
    let m = made_way w i.value i.front i.first in
    subst (λ (p : Option BodyLine). IsAt s p (op_word_text w ++ text)) (sym i.second.is.value) (record {
      fits = (m.fits, m.way);
      comes = instr_from s w i.value.0 h m.last;
      is = ap (λ (t : List ℕ). op_word_text w ++ t) (i.parts ∙ ap (λ (t : List ℕ). i.front ++ t) (i.second.parts ∙ ap (λ (t : List ℕ). 10 ∷ t) i.second.is.nothing))
          ∙ sym (append_assoc (op_word_text w) i.front (codes "\n")) ∙ ap (λ (t : List ℕ). t ++ codes "\n") m.is
          ∙ append_assoc (op_text i.value.0) (way_text (has_edge i.value.0) i.value.1) (codes "\n");
    })

label_is : (n : ℕ) (state : LabelState) → codes "label " ++ ((decimal n ++ codes " ") ++ label_tail state) ≡ label_line n state
label_is n state = ap (λ (t : List ℕ). codes "label " ++ t) (append_assoc (decimal n) (codes " ") (label_tail state))

behind_is : (s : Lines) (w : LineWord) (o : Option BodyLine) (text : List ℕ) → WordComes s w → IsLineBehind s w o text → IsAt s o (line_word_text w ++ text)
unfolding line_word_text
behind_is s (line_word.Op w) o text h i = instr_is s w o text h i
behind_is s line_word.By o text h i = subst (λ (p : Option BodyLine). IsAt s p (codes "by " ++ text)) (sym i.made)
    (record { fits = i.is.fits; comes = h; is = ap (λ (t : List ℕ). codes "by " ++ t) i.is.is ∙ by_is i.value i.is.fits })
behind_is s line_word.Label o text h i = subst (λ (p : Option BodyLine). IsAt s p (codes "label " ++ text)) (sym i.is.made) (record {
  fits = i.is.is.fits;
  comes = h;
  is = ap (λ (t : List ℕ). codes "label " ++ t) (i.parts ∙ ap (λ (t : List ℕ). (decimal (suc s.labels) ++ codes " ") ++ t) i.is.is.is) ∙ label_is (suc s.labels) i.is.value;
})
behind_is s line_word.End o text h i = subst (λ (p : Option BodyLine). IsAt s p (codes "end\n" ++ text)) (sym i.value) (h, ap (λ (t : List ℕ). codes "end\n" ++ t) i.nothing)

pub item_from : (s : Lines) (o : Option BodyLine) (text : List ℕ) → IsItem s o text → IsAt s o text
item_from s o text i =
    let w = comes_from s i.value i.front i.first in
    subst (IsAt s o) (sym (i.parts ∙ ap (λ (t : List ℕ). t ++ i.back) w.is)) (behind_is s i.value o i.back w.comes i.second)

instr_item : (s : Lines) (o : Op) (edge : List (ℕ × Linear)) (text : List ℕ) → IsLineAt s (line_is.Instr o edge) text → IsItem s (Some (line_is.Instr o edge)) text
unfolding line_word_text
instr_item s o edge text at =
    let w = has_word o edge at.fits.0 at.fits.1 in
    let m = made_way w.kind (o, edge) w.text w.are in
    record {
      value = line_word.Op w.kind;
      front = op_word_text w.kind;
      back = w.text ++ codes "\n";
      first = comes_to s (line_word.Op w.kind) (instr_to s w.kind o at.comes w.last);
      second = record { value = (o, edge); front = w.text; back = codes "\n"; first = w.are; second = record { back = []; is = record { value = refl; nothing = refl }; parts = refl }; parts = refl };
      parts = at.is ∙ sym (append_assoc (op_text o) (way_text (has_edge o) edge) (codes "\n")) ∙ ap (λ (t : List ℕ). t ++ codes "\n") (sym m.is)
          ∙ append_assoc (op_word_text w.kind) w.text (codes "\n");
    }

pub item_to : (s : Lines) (o : Option BodyLine) (text : List ℕ) → IsAt s o text → IsItem s o text
unfolding line_word_text
item_to s None text at = record {
  value = line_word.End;
  front = codes "end\n";
  back = [];
  first = comes_to s line_word.End at.0;
  second = record { value = refl; nothing = refl };
  parts = at.1;
}
item_to s (Some (line_is.Instr o edge)) text at = instr_item s o edge text at
item_to s (Some (line_is.By ls)) text at = record {
  value = line_word.By;
  front = codes "by ";
  back = proof_tail ls;
  first = comes_to s line_word.By at.comes;
  second = record { value = ls; made = refl; is = record { known = tt; fits = at.fits; is = refl } };
  parts = at.is ∙ sym (by_is ls at.fits);
}
item_to s (Some (line_is.Label state)) text at = record {
  value = line_word.Label;
  front = codes "label ";
  back = (decimal (suc s.labels) ++ codes " ") ++ label_tail state;
  first = comes_to s line_word.Label at.comes;
  second = record { back = label_tail state; is = record { value = state; made = refl; is = record { known = tt; fits = at.fits; is = refl } }; parts = refl };
  parts = at.is ∙ sym (label_is (suc s.labels) state);
}

-- ---- lines up to the end of the function

abbrev IsLast : Bool → Op → Type 0
IsLast b o = is_last o ≡ b

pub good_behind : (s : Lines) (l : BodyLine) → Good s → LineComes s l → Good (behind_line s l)
good_behind s (line_is.Instr o edge) good comes = go (is_last o) refl
  where
    go : (b : Bool) → is_last o ≡ b → Good (record { labels = s.labels; instrs = suc s.instrs; stand = stand_behind b })
    go true e = let one = comes.one in record { labels = good.labels; instrs = omega arith; room = tt }
    go false e = let one = comes.one in record { labels = good.labels; instrs = omega arith; room = comes.more e }
good_behind s (line_is.By ls) good comes = good
good_behind s (line_is.Label state) good comes = let lt = comes.labels in record { labels = omega arith; instrs = good.instrs; room = comes.instrs }

pub first_good : Good at_first
first_good = record { labels = lit≤ tt; instrs = lit≤ tt; room = lit< tt }

abbrev return : BodyLine
return = line_is.Instr (op.Ret 0) []

end_item : (s : Lines) → IsLastStand s.stand → IsItem s None (codes "end\n")
end_item s h = item_to s None (codes "end\n") (h, refl)

-- `ret r0` and the end can follow
return_ends : (s : Lines) → s.instrs < LAST_NUMBER → Ending behind_line IsItem s
return_ends s lt = record {
  xs = return ∷ [];
  text = body_line (suc s.labels) return ++ codes "end\n";
  is = record {
    front = body_line (suc s.labels) return;
    back = codes "end\n";
    first = item_to s (Some return) (body_line (suc s.labels) return) (record { fits = (lit< tt, refl); comes = record { one = lt; more = λ e. absurd cc }; is = refl });
    others = end_item (behind_line s return) tt;
    parts = refl;
  };
}

good_ends : (s : Lines) → Good s → Ending behind_line IsItem s
good_ends s good = go s.stand refl good.room
  where
    go : (st : Stand) → s.stand ≡ st → HasRoom st s.instrs → Ending behind_line IsItem s
    go stand.First e room = return_ends s room
    go stand.Within e room = return_ends s room
    go stand.Last e room = record { xs = []; text = codes "end\n"; is = end_item s (subst IsLastStand (sym e) tt) }

item_some : (s : Lines) (l : BodyLine) (text : List ℕ) → IsItem s (Some l) text → 1 ≤ length text
item_some s l text i =
    let w = comes_from s i.value i.front i.first in
    omega (arith, ap length i.parts, length-append i.front i.back, ap length w.is, word_some i.value)

abbrev pub IsBody : List BodyLine → List ℕ → Type 0
IsBody ls text = IsChain behind_line IsItem at_first ls text

pub exact-lines : Exact lines IsBody Anything
unfolding lines
exact-lines = exact-chain line behind_line Good IsItem Anything exact-line
    (λ s front rest good i. (exact-line s good).whole None front rest i tt)
    item_some (λ s l front good i. good_behind s l good (item_from s (Some l) front i).comes) (λ _ _ _ _ _ _ _ _ _. tt) good_ends at_first first_good

-- ---- the same line by line

-- each line fits and may come, and the end may come behind the last one
abbrev pub Passes : Lines → List BodyLine → Type 0
Passes s [] = IsLastStand s.stand
Passes s (l ∷ ls) = (LineFits l × LineComes s l) × Passes (behind_line s l) ls

unfoldable pub body_text : Lines → List BodyLine → List ℕ
body_text s [] = codes "end\n"
body_text s (l ∷ ls) = body_line (suc s.labels) l ++ body_text (behind_line s l) ls

pub passes_from : (s : Lines) (ls : List BodyLine) (text : List ℕ) → IsChain behind_line IsItem s ls text → Passes s ls × (text ≡ body_text s ls)
unfolding body_text
passes_from s [] text i = let m = item_from s None text i in (m.0, m.1)
passes_from s (l ∷ ls) text i =
    let m = item_from s (Some l) i.front i.first in
    let others = passes_from (behind_line s l) ls i.back i.others in
    (((m.fits, m.comes), others.0), i.parts ∙ ap (λ (t : List ℕ). t ++ i.back) m.is ∙ ap (λ (t : List ℕ). body_line (suc s.labels) l ++ t) others.1)

pub passes_to : (s : Lines) (ls : List BodyLine) (text : List ℕ) → Passes s ls → text ≡ body_text s ls → IsChain behind_line IsItem s ls text
unfolding body_text
passes_to s [] text h e = item_to s None text (h, e)
passes_to s (l ∷ ls) text h e = record {
  front = body_line (suc s.labels) l;
  back = body_text (behind_line s l) ls;
  first = item_to s (Some l) (body_line (suc s.labels) l) (record { fits = h.0.0; comes = h.0.1; is = refl });
  others = passes_to (behind_line s l) ls (body_text (behind_line s l) ls) h.1 refl;
  parts = e;
}
