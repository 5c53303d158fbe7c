-- The words with which a line of a function begins, and which of them may come.
use Rattle.std.proofs.Common.{◌≡◌, ◌⊎◌, ℕ, ◌≤◌, Bool, true, false, ◌||◌, List, [], ◌∷◌, ◌++◌, length, codes, refl, sym, subst, arith, inl, inr}
use Rattle.xan_read.specs.Reader.{Exact}
use Rattle.xan_read.specs.Words.{Table, IsWord, word}
use Rattle.xan_read.proofs.WordLaws.{exact-word}
use Rattle.dtal_text.specs.declared.line.Which.{Which}
use Rattle.dtal_text.specs.declared.line.Which.TheVariants as which
use Rattle.dtal_text.specs.declared.word.LineWord.{LineWord}
use Rattle.dtal_text.specs.declared.word.LineWord.TheVariants as line_word
use Rattle.dtal_text.specs.declared.word.OpWord.{OpWord}
use Rattle.dtal_text.specs.declared.word.OpWord.TheVariants as op_word
use Rattle.dtal_text.specs.LineReading.{op_words, last_words, instr_words, where_it_may, words_in}
use Rattle.dtal_text.proofs.OperandTexts.{op_word_text, IsLastWord}
use Rattle.dtal_text.proofs.SpelledTypes.{Anything}

unfoldable pub line_word_text : LineWord → List ℕ
line_word_text (line_word.Op w) = op_word_text w
line_word_text line_word.By = codes "by "
line_word_text line_word.Label = codes "label "
line_word_text line_word.End = codes "end\n"

op_word_some : (w : OpWord) → 1 ≤ length (op_word_text w)
unfolding op_word_text
op_word_some op_word.Li = omega arith
op_word_some op_word.Lb = omega arith
op_word_some op_word.Mv = omega arith
op_word_some op_word.Add = omega arith
op_word_some op_word.Sub = omega arith
op_word_some op_word.Mul = omega arith
op_word_some op_word.Div = omega arith
op_word_some op_word.Mod = omega arith
op_word_some op_word.Set = omega arith
op_word_some op_word.Br = omega arith
op_word_some op_word.Bt = omega arith
op_word_some op_word.Bf = omega arith
op_word_some op_word.Jmp = omega arith
op_word_some op_word.Call = omega arith
op_word_some op_word.Ret = omega arith
op_word_some op_word.Len = omega arith
op_word_some op_word.Ld = omega arith
op_word_some op_word.St = omega arith
op_word_some op_word.New = omega arith
op_word_some op_word.Tup = omega arith
op_word_some op_word.Untup = omega arith
op_word_some op_word.Print = omega arith

pub word_some : (w : LineWord) → 1 ≤ length (line_word_text w)
unfolding line_word_text
word_some (line_word.Op w) = op_word_some w
word_some line_word.By = omega arith
word_some line_word.Label = omega arith
word_some line_word.End = omega arith

is_op_word : (w : OpWord) → IsWord op_words (line_word.Op w) (op_word_text w)
unfolding op_word_text
is_op_word op_word.Li = inl (refl, refl)
is_op_word op_word.Lb = inr (inl (refl, refl))
is_op_word op_word.Mv = inr (inr (inl (refl, refl)))
is_op_word op_word.Add = inr (inr (inr (inl (refl, refl))))
is_op_word op_word.Sub = inr (inr (inr (inr (inl (refl, refl)))))
is_op_word op_word.Mul = inr (inr (inr (inr (inr (inl (refl, refl))))))
is_op_word op_word.Div = inr (inr (inr (inr (inr (inr (inl (refl, refl)))))))
is_op_word op_word.Mod = inr (inr (inr (inr (inr (inr (inr (inl (refl, refl))))))))
is_op_word op_word.Set = inr (inr (inr (inr (inr (inr (inr (inr (inl (refl, refl)))))))))
is_op_word op_word.Br = inr (inr (inr (inr (inr (inr (inr (inr (inr (inl (refl, refl))))))))))
is_op_word op_word.Bt = inr (inr (inr (inr (inr (inr (inr (inr (inr (inr (inl (refl, refl)))))))))))
is_op_word op_word.Bf = inr (inr (inr (inr (inr (inr (inr (inr (inr (inr (inr (inl (refl, refl))))))))))))
is_op_word op_word.Jmp = inr (inr (inr (inr (inr (inr (inr (inr (inr (inr (inr (inr (inl (refl, refl)))))))))))))
is_op_word op_word.Call = inr (inr (inr (inr (inr (inr (inr (inr (inr (inr (inr (inr (inr (inl (refl, refl))))))))))))))
is_op_word op_word.Ret = inr (inr (inr (inr (inr (inr (inr (inr (inr (inr (inr (inr (inr (inr (inl (refl, refl)))))))))))))))
is_op_word op_word.Len = inr (inr (inr (inr (inr (inr (inr (inr (inr (inr (inr (inr (inr (inr (inr (inl (refl, refl))))))))))))))))
is_op_word op_word.Ld = inr (inr (inr (inr (inr (inr (inr (inr (inr (inr (inr (inr (inr (inr (inr (inr (inl (refl, refl)))))))))))))))))
is_op_word op_word.St = inr (inr (inr (inr (inr (inr (inr (inr (inr (inr (inr (inr (inr (inr (inr (inr (inr (inl (refl, refl))))))))))))))))))
is_op_word op_word.New = inr (inr (inr (inr (inr (inr (inr (inr (inr (inr (inr (inr (inr (inr (inr (inr (inr (inr (inl (refl, refl)))))))))))))))))))
is_op_word op_word.Tup = inr (inr (inr (inr (inr (inr (inr (inr (inr (inr (inr (inr (inr (inr (inr (inr (inr (inr (inr (inl (refl, refl))))))))))))))))))))
is_op_word op_word.Untup = inr (inr (inr (inr (inr (inr (inr (inr (inr (inr (inr (inr (inr (inr (inr (inr (inr (inr (inr (inr (inl (refl, refl)))))))))))))))))))))
is_op_word op_word.Print = inr (inr (inr (inr (inr (inr (inr (inr (inr (inr (inr (inr (inr (inr (inr (inr (inr (inr (inr (inr (inr (inl (refl, refl))))))))))))))))))))))

is_last_word : (w : OpWord) → IsLastWord w → IsWord last_words (line_word.Op w) (op_word_text w)
unfolding op_word_text IsLastWord
is_last_word op_word.Jmp h = inl (refl, refl)
is_last_word op_word.Ret h = inr (inl (refl, refl))
is_last_word _ h = absurd h

-- each entry of a table
abbrev pub Entries : (List ℕ × LineWord → Type 0) → Table LineWord → Type 0
Entries P [] = Unit {0}
Entries P (entry ∷ table) = P entry × Entries P table

entry_holds : (P : List ℕ × LineWord → Type 0) (table : Table LineWord) (w : LineWord) (text : List ℕ) → Entries P table → IsWord table w text → P (text, w)
entry_holds P [] w text all i = absurd i
entry_holds P (entry ∷ table) w text all (inl i) = subst (λ (t : List ℕ). P (t, w)) (sym i.1) (subst (λ (v : LineWord). P (entry.0, v)) (sym i.0) all.0)
entry_holds P (entry ∷ table) w text all (inr i) = entry_holds P table w text all.1 i

-- two tables
word_split : (a b : Table LineWord) (w : LineWord) (text : List ℕ) → IsWord (a ++ b) w text → IsWord a w text ⊎ IsWord b w text
word_split [] b w text i = inr i
word_split (entry ∷ a) b w text (inl i) = inl (inl i)
word_split (entry ∷ a) b w text (inr i) = go (word_split a b w text i)
  where
    go : IsWord a w text ⊎ IsWord b w text → IsWord (entry ∷ a) w text ⊎ IsWord b w text
    go (inl j) = inl (inr j)
    go (inr j) = inr j

in_front : (a b : Table LineWord) (w : LineWord) (text : List ℕ) → IsWord a w text → IsWord (a ++ b) w text
in_front [] b w text i = absurd i
in_front (entry ∷ a) b w text (inl i) = inl i
in_front (entry ∷ a) b w text (inr i) = inr (in_front a b w text i)

in_back : (a b : Table LineWord) (w : LineWord) (text : List ℕ) → IsWord b w text → IsWord (a ++ b) w text
in_back [] b w text i = i
in_back (entry ∷ a) b w text i = inr (in_back a b w text i)

-- ---- which words may come

abbrev pub Comes : Which → OpWord → Type 0
Comes which.Any w = Unit {0}
Comes which.Last w = IsLastWord w
Comes which.Nothing w = ⊥

abbrev pub MayCome : Which → (by label end : Bool) → LineWord → Type 0
MayCome instrs by label end (line_word.Op w) = Comes instrs w
MayCome instrs by label end line_word.By = by ≡ true
MayCome instrs by label end line_word.Label = label ≡ true
MayCome instrs by label end line_word.End = end ≡ true

pub record WordIs (instrs : Which) (by label end : Bool) (w : LineWord) (text : List ℕ) : Type 0 where
  pub is : text ≡ line_word_text w
  pub may : MayCome instrs by label end w

module _ (instrs : Which) (by label end : Bool) where
  abbrev Entry : List ℕ × LineWord → Type 0
  Entry e = (e.0 ≡ line_word_text e.1) × MayCome instrs by label end e.1

  where_entry : (b : Bool) (e : List ℕ × LineWord) → (b ≡ true → Entry e) → Entries Entry (where_it_may b e)
  where_entry true e h = (h refl, tt)
  where_entry false e h = tt

op_entries : (by label end : Bool) → Entries (Entry which.Any by label end) op_words
unfolding line_word_text op_word_text
op_entries by label end = ((refl, tt), ((refl, tt), ((refl, tt), ((refl, tt), ((refl, tt), ((refl, tt), ((refl, tt), ((refl, tt), ((refl, tt), ((refl, tt), ((refl, tt), ((refl, tt), ((refl, tt), ((refl, tt), ((refl, tt), ((refl, tt), ((refl, tt), ((refl, tt), ((refl, tt), ((refl, tt), ((refl, tt), ((refl, tt), tt))))))))))))))))))))))

last_entries : (by label end : Bool) → Entries (Entry which.Last by label end) last_words
unfolding line_word_text op_word_text IsLastWord
last_entries by label end = ((refl, tt), ((refl, tt), tt))

instr_entries : (instrs : Which) (by label end : Bool) → Entries (Entry instrs by label end) (instr_words instrs)
instr_entries which.Any by label end = op_entries by label end
instr_entries which.Last by label end = last_entries by label end
instr_entries which.Nothing by label end = tt

module _ (instrs : Which) (by label end : Bool) where
  abbrev back_words : Table LineWord
  back_words = where_it_may label (codes "label ", line_word.Label) ++ where_it_may end (codes "end\n", line_word.End)

  pub word_from : (w : LineWord) (text : List ℕ) → IsWord (words_in instrs by label end) w text → WordIs instrs by label end w text
  unfolding line_word_text
  word_from w text i = go (word_split (instr_words instrs) (where_it_may by (codes "by ", line_word.By) ++ back_words) w text i)
    where
      holds : (table : Table LineWord) → Entries (Entry instrs by label end) table → IsWord table w text → WordIs instrs by label end w text
      holds table all j = let h = entry_holds (Entry instrs by label end) table w text all j in record { is = h.0; may = h.1 }

      third : IsWord (where_it_may label (codes "label ", line_word.Label)) w text ⊎ IsWord (where_it_may end (codes "end\n", line_word.End)) w text → WordIs instrs by label end w text
      third (inl j) = holds _ (where_entry instrs by label end label (codes "label ", line_word.Label) (λ e. (refl, e))) j
      third (inr j) = holds _ (where_entry instrs by label end end (codes "end\n", line_word.End) (λ e. (refl, e))) j

      second : IsWord (where_it_may by (codes "by ", line_word.By)) w text ⊎ IsWord back_words w text → WordIs instrs by label end w text
      second (inl j) = holds _ (where_entry instrs by label end by (codes "by ", line_word.By) (λ e. (refl, e))) j
      second (inr j) = third (word_split (where_it_may label (codes "label ", line_word.Label)) (where_it_may end (codes "end\n", line_word.End)) w text j)

      go : IsWord (instr_words instrs) w text ⊎ IsWord (where_it_may by (codes "by ", line_word.By) ++ back_words) w text → WordIs instrs by label end w text
      go (inl j) = holds _ (instr_entries instrs by label end) j
      go (inr j) = second (word_split (where_it_may by (codes "by ", line_word.By)) back_words w text j)

  it_may : (b : Bool) (w : LineWord) → b ≡ true → IsWord (where_it_may b (line_word_text w, w)) w (line_word_text w)
  it_may true w e = inl (refl, refl)
  it_may false w e = absurd cc

  pub word_to : (w : LineWord) → MayCome instrs by label end w → IsWord (words_in instrs by label end) w (line_word_text w)
  unfolding line_word_text
  word_to (line_word.Op w) may = in_front (instr_words instrs) _ (line_word.Op w) (op_word_text w) (of_instrs instrs may)
    where
      of_instrs : (i : Which) → Comes i w → IsWord (instr_words i) (line_word.Op w) (op_word_text w)
      of_instrs which.Any h = is_op_word w
      of_instrs which.Last h = is_last_word w h
      of_instrs which.Nothing h = absurd h
  word_to line_word.By may = in_back (instr_words instrs) _ line_word.By (codes "by ") (in_front (where_it_may by (codes "by ", line_word.By)) back_words line_word.By (codes "by ") (it_may by line_word.By may))
  word_to line_word.Label may = in_back (instr_words instrs) _ line_word.Label (codes "label ") (in_back (where_it_may by (codes "by ", line_word.By)) back_words line_word.Label (codes "label ")
      (in_front (where_it_may label (codes "label ", line_word.Label)) (where_it_may end (codes "end\n", line_word.End)) line_word.Label (codes "label ") (it_may label line_word.Label may)))
  word_to line_word.End may = in_back (instr_words instrs) _ line_word.End (codes "end\n") (in_back (where_it_may by (codes "by ", line_word.By)) back_words line_word.End (codes "end\n")
      (in_back (where_it_may label (codes "label ", line_word.Label)) (where_it_may end (codes "end\n", line_word.End)) line_word.End (codes "end\n") (it_may end line_word.End may)))

-- there is a word
abbrev pub HasWords : Which → (by label end : Bool) → Type 0
HasWords which.Any by label end = Unit {0}
HasWords which.Last by label end = Unit {0}
HasWords which.Nothing by label end = ((by || label) || end) ≡ true

pub exact-words : (instrs : Which) (by label end : Bool) → HasWords instrs by label end → Exact (word (words_in instrs by label end)) (IsWord (words_in instrs by label end)) Anything
exact-words which.Any true true true h = exact-word _ _ refl
exact-words which.Any true true false h = exact-word _ _ refl
exact-words which.Any true false true h = exact-word _ _ refl
exact-words which.Any true false false h = exact-word _ _ refl
exact-words which.Any false true true h = exact-word _ _ refl
exact-words which.Any false true false h = exact-word _ _ refl
exact-words which.Any false false true h = exact-word _ _ refl
exact-words which.Any false false false h = exact-word _ _ refl
exact-words which.Last true true true h = exact-word _ _ refl
exact-words which.Last true true false h = exact-word _ _ refl
exact-words which.Last true false true h = exact-word _ _ refl
exact-words which.Last true false false h = exact-word _ _ refl
exact-words which.Last false true true h = exact-word _ _ refl
exact-words which.Last false true false h = exact-word _ _ refl
exact-words which.Last false false true h = exact-word _ _ refl
exact-words which.Last false false false h = exact-word _ _ refl
exact-words which.Nothing true true true h = exact-word _ _ refl
exact-words which.Nothing true true false h = exact-word _ _ refl
exact-words which.Nothing true false true h = exact-word _ _ refl
exact-words which.Nothing true false false h = exact-word _ _ refl
exact-words which.Nothing false true true h = exact-word _ _ refl
exact-words which.Nothing false true false h = exact-word _ _ refl
exact-words which.Nothing false false true h = exact-word _ _ refl
exact-words which.Nothing false false false h = absurd cc
