-- The lines of a function are its blocks, and the blocks of a function are its lines.
use Rattle.std.proofs.Common.{◌≡◌, ◌⊎◌, ℕ, suc, ◌+◌, ◌<◌, ◌≤◌, Bool, true, false, List, [], ◌∷◌, ◌++◌, length, Option, Some, None, codes, refl, sym, ap, subst, ◌∙◌, append_assoc, arith, inl, inr}
use Rattle.std.specs.List.{All}
use Rattle.std.proofs.lemmas.List.Elements.{All-nil, All-cons, All-head, All-tail}
use Rattle.xan_read.specs.Reader.{Exact}
use Rattle.xan_read.specs.Combinators.{IsMade}
use Rattle.xan_read.specs.Spelled.{Any, Spelled}
use Rattle.xan_read.proofs.ReaderLaws.{exact-made, exact_as}
use Rattle.proof_lines.specs.declared.line.Line.{Line}
use Rattle.dtal_code.specs.declared.instruction.Instr.{Instr}
use Rattle.dtal_code.specs.declared.limits.TheConstants.{LAST_NUMBER}
use Rattle.dtal_code.specs.declared.program.Block.{Block}
use Rattle.dtal_code.specs.declared.program.LabelState.{LabelState}
use Rattle.dtal_code.specs.Grammar.{IsInstr, AreLinesIn, EndsLast, IsCode, IsState, IsLabelled, AreBlocks, IsLabelState, is_last, size_of}
use Rattle.dtal_code.specs.Spelling.{each, by_line, op_text, way_text, has_edge, instr_text, code_text, blocks_text}
use Rattle.dtal_text.specs.declared.line.BodyLine.{BodyLine}
use Rattle.dtal_text.specs.declared.line.BodyLine.TheVariants as line_is
use Rattle.dtal_text.specs.declared.line.Lines.{Lines}
use Rattle.dtal_text.specs.declared.line.Stand.{Stand}
use Rattle.dtal_text.specs.declared.line.Stand.TheVariants as stand
use Rattle.dtal_text.specs.LineReading.{stand_behind, behind_line, at_first}
use Rattle.dtal_text.specs.ProgramReading.{Gathered, with_line, gathered, blocks_of, blocks}
use Rattle.dtal_text.proofs.BodyTexts.{NotFirst, IsLastStand, Good, Passes, body_text, body_line, passes_from, passes_to, good_behind, first_good, IsBody, exact-lines}
use Rattle.dtal_text.proofs.SpelledTypes.{Anything}

-- ---- from lines to blocks

-- The code that goes on where lines stand: behind the last instruction of a block there may be none.
abbrev GoesOn : Stand → List Instr → Type 0
GoesOn stand.First code = EndsLast code
GoesOn stand.Within code = EndsLast code
GoesOn stand.Last code = (code ≡ []) ⊎ EndsLast code

-- behind no instruction there are no lines of a proof
abbrev ByFits : Stand → List (List Line) → Type 0
ByFits stand.First by = by ≡ []
ByFits stand.Within by = Unit {0}
ByFits stand.Last by = Unit {0}

abbrev rest_text : (label : ℕ) → List Block → List ℕ
rest_text label bs = blocks_text label bs ++ codes "end\n"

-- the text of what was gathered
abbrev gathered_text : Lines → Gathered → List ℕ
gathered_text s g = each by_line g.by ++ (code_text g.code ++ rest_text (suc s.labels) g.blocks)

record Gathers (s : Lines) (g : Gathered) (text : List ℕ) : Type 0 where
  by : All AreLinesIn g.by
  by_fits : ByFits s.stand g.by
  code : All IsInstr g.code
  goes_on : GoesOn s.stand g.code
  blocks : All IsLabelled g.blocks
  labels : s.labels + length g.blocks ≤ LAST_NUMBER
  instrs : s.instrs + (length g.code + size_of g.blocks) ≤ LAST_NUMBER
  is : text ≡ gathered_text s g

regroup_instr : (o w by rest : List ℕ) → (o ++ (w ++ codes "\n")) ++ (by ++ rest) ≡ (o ++ (w ++ (codes "\n" ++ by))) ++ rest
regroup_instr o w by rest =
    append_assoc o (w ++ codes "\n") (by ++ rest) ∙ ap (λ (t : List ℕ). o ++ t) (append_assoc w (codes "\n") (by ++ rest) ∙ sym (append_assoc w (codes "\n" ++ by) rest))
    ∙ sym (append_assoc o (w ++ (codes "\n" ++ by)) rest)

-- the code goes on in front of which an instruction stands
code_goes_on : (i : Instr) (code : List Instr) (b : Bool) → is_last i.op ≡ b → GoesOn (stand_behind b) code → EndsLast (i ∷ code)
code_goes_on i [] true e h = e
code_goes_on i (j ∷ code) true e (inl h) = absurd cc
code_goes_on i (j ∷ code) true e (inr h) = h
code_goes_on i [] false e h = absurd h
code_goes_on i (j ∷ code) false e h = h

ends_any : (st : Stand) (code : List Instr) → EndsLast code → GoesOn st code
ends_any stand.First code h = h
ends_any stand.Within code h = h
ends_any stand.Last code h = inr h

no_by : (st : Stand) → ByFits st []
no_by stand.First = refl
no_by stand.Within = tt
no_by stand.Last = tt

instr_gathers : (s : Lines) (l : BodyLine) (i : Instr) (g : Gathered) (text : List ℕ) → IsInstr i → i.by ≡ g.by → l ≡ line_is.Instr i.op i.edge → ByFits s.stand []
    → Gathers (behind_line s (line_is.Instr i.op i.edge)) g text
    → Gathers s (record { by = []; code = i ∷ g.code; blocks = g.blocks }) (body_line (suc s.labels) l ++ text)
unfolding each
instr_gathers s l i g text is by_is l_is none g_is = let few = g_is.instrs in record {
  by = All-nil AreLinesIn;
  by_fits = none;
  code = All-cons IsInstr i g.code is g_is.code;
  goes_on = ends_any s.stand (i ∷ g.code) (code_goes_on i g.code (is_last i.op) refl g_is.goes_on);
  blocks = g_is.blocks;
  labels = g_is.labels;
  instrs = omega arith;
  is = ap (λ (k : BodyLine). body_line (suc s.labels) k ++ text) l_is
      ∙ ap (λ (t : List ℕ). body_line (suc s.labels) (line_is.Instr i.op i.edge) ++ t) g_is.is
      ∙ regroup_instr (op_text i.op) (way_text (has_edge i.op) i.edge) (each by_line g.by) (code_text g.code ++ rest_text (suc s.labels) g.blocks)
      ∙ ap (λ (b : List (List Line)). (op_text i.op ++ (way_text (has_edge i.op) i.edge ++ (codes "\n" ++ each by_line b))) ++ (code_text g.code ++ rest_text (suc s.labels) g.blocks)) (sym by_is)
      ∙ sym (append_assoc (instr_text i) (code_text g.code) (rest_text (suc s.labels) g.blocks));
}

by_gathers : (s : Lines) (ls : List Line) (g : Gathered) (text : List ℕ) → AreLinesIn ls → ByFits s.stand (ls ∷ g.by) → Gathers s g text
    → Gathers s (record { by = ls ∷ g.by; code = g.code; blocks = g.blocks }) (by_line ls ++ text)
unfolding each
by_gathers s ls g text is fits g_is = record {
  by = All-cons AreLinesIn ls g.by is g_is.by;
  by_fits = fits;
  code = g_is.code;
  goes_on = g_is.goes_on;
  blocks = g_is.blocks;
  labels = g_is.labels;
  instrs = g_is.instrs;
  is = ap (λ (t : List ℕ). by_line ls ++ t) g_is.is ∙ sym (append_assoc (by_line ls) (each by_line g.by) (code_text g.code ++ rest_text (suc s.labels) g.blocks));
}

abbrev block_with : LabelState → List Instr → Block
block_with state code = record { state = Some state; code = code }

label_gathers : (s : Lines) (state : LabelState) (g : Gathered) (text : List ℕ) → IsLabelState state → s.stand ≡ stand.Last
    → Gathers (behind_line s (line_is.Label state)) g text
    → Gathers s (record { by = []; code = []; blocks = block_with state g.code ∷ g.blocks }) (body_line (suc s.labels) (line_is.Label state) ++ text)
unfolding each blocks_text size_of
label_gathers s state g text is last g_is =
    let few = g_is.labels in
    record {
      by = All-nil AreLinesIn;
      by_fits = no_by s.stand;
      code = All-nil IsInstr;
      goes_on = subst (λ (st : Stand). GoesOn st []) (sym last) (inl refl);
      blocks = All-cons IsLabelled (block_with state g.code) g.blocks (record { state = is; code = record { instrs = g_is.code; ends = g_is.goes_on } }) g_is.blocks;
      labels = omega arith;
      instrs = omega (arith, g_is.instrs);
      is = ap (λ (t : List ℕ). body_line (suc s.labels) (line_is.Label state) ++ t) (g_is.is ∙ ap (λ (b : List (List Line)). each by_line b ++ (code_text g.code ++ rest_text (suc (suc s.labels)) g.blocks)) g_is.by_fits)
          ∙ regroup (body_line (suc s.labels) (line_is.Label state)) (code_text g.code) (blocks_text (suc (suc s.labels)) g.blocks) (codes "end\n");
    }
  where
    regroup : (a b c d : List ℕ) → a ++ (b ++ (c ++ d)) ≡ (a ++ (b ++ c)) ++ d
    regroup a b c d = simp append_assoc refl

last_is : (st : Stand) → IsLastStand st → st ≡ stand.Last
last_is stand.First h = absurd h
last_is stand.Within h = absurd h
last_is stand.Last h = refl

by_may : (st : Stand) (by : List (List Line)) → NotFirst st → ByFits st by
by_may stand.First by h = absurd h
by_may stand.Within by h = tt
by_may stand.Last by h = tt

gathers : (s : Lines) (ls : List BodyLine) → Good s → Passes s ls → Gathers s (gathered ls) (body_text s ls)
unfolding gathered body_text each blocks_text size_of
gathers s [] good h = let labels = good.labels in let instrs = good.instrs in record {
  by = All-nil AreLinesIn;
  by_fits = no_by s.stand;
  code = All-nil IsInstr;
  goes_on = subst (λ (st : Stand). GoesOn st []) (sym (last_is s.stand h)) (inl refl);
  blocks = All-nil IsLabelled;
  labels = omega arith;
  instrs = omega arith;
  is = refl;
}
gathers s (line_is.Instr o edge ∷ ls) good h =
    let others = gathers (behind_line s (line_is.Instr o edge)) ls (good_behind s (line_is.Instr o edge) good h.0.1) h.1 in
    instr_gathers s (line_is.Instr o edge) (record { op = o; edge = edge; by = (gathered ls).by }) (gathered ls) (body_text (behind_line s (line_is.Instr o edge)) ls)
    (record { op = h.0.0.0; way = h.0.0.1; by = others.by }) refl refl (no_by s.stand) others
gathers s (line_is.By lines ∷ ls) good h =
    by_gathers s lines (gathered ls) (body_text s ls) h.0.0 (by_may s.stand (lines ∷ (gathered ls).by) h.0.1) (gathers s ls good h.1)
gathers s (line_is.Label state ∷ ls) good h =
    label_gathers s state (gathered ls) (body_text (behind_line s (line_is.Label state)) ls) h.0.0 (last_is s.stand h.0.1.last)
    (gathers (behind_line s (line_is.Label state)) ls (good_behind s (line_is.Label state) good h.0.1) h.1)

-- ---- from blocks to lines

by_lines : List (List Line) → List BodyLine → List BodyLine
by_lines [] rest = rest
by_lines (ls ∷ by) rest = line_is.By ls ∷ by_lines by rest

code_lines : List Instr → List BodyLine → List BodyLine
code_lines [] rest = rest
code_lines (i ∷ code) rest = line_is.Instr i.op i.edge ∷ by_lines i.by (code_lines code rest)

label_lines : Option LabelState → List BodyLine → List BodyLine
label_lines None rest = rest
label_lines (Some state) rest = line_is.Label state ∷ rest

block_lines : List Block → List BodyLine
block_lines [] = []
block_lines (block ∷ bs) = label_lines block.state (code_lines block.code (block_lines bs))

-- ---- these lines are gathered to the blocks

abbrev gathers_to : List (List Line) → List Instr → List Block → Gathered
gathers_to by code bs = record { by = by; code = code; blocks = bs }

by_gathered : (by : List (List Line)) (rest : List BodyLine) (code : List Instr) (bs : List Block) → gathered rest ≡ gathers_to [] code bs → gathered (by_lines by rest) ≡ gathers_to by code bs
unfolding gathered by_lines
by_gathered [] rest code bs e = e
by_gathered (ls ∷ by) rest code bs e = ap (with_line (line_is.By ls)) (by_gathered by rest code bs e)

code_gathered : (code : List Instr) (rest : List BodyLine) (bs : List Block) → gathered rest ≡ gathers_to [] [] bs → gathered (code_lines code rest) ≡ gathers_to [] code bs
unfolding gathered code_lines
code_gathered [] rest bs e = e
code_gathered (i ∷ code) rest bs e = ap (with_line (line_is.Instr i.op i.edge)) (by_gathered i.by (code_lines code rest) code bs (code_gathered code rest bs e))

label_gathered : (o : Option LabelState) (block : Block) (bs : List Block) (ls : List BodyLine) → IsState o → block.state ≡ o → gathered ls ≡ gathers_to [] block.code bs
    → gathered (label_lines o ls) ≡ gathers_to [] [] (block ∷ bs)
unfolding gathered label_lines
label_gathered None block bs ls h e inner = absurd h
label_gathered (Some state) block bs ls h e inner =
    ap (with_line (line_is.Label state)) inner ∙ ap (λ (o : Option LabelState). gathers_to [] [] (record { state = o; code = block.code } ∷ bs)) (sym e)

blocks_gathered : (bs : List Block) → All IsLabelled bs → gathered (block_lines bs) ≡ gathers_to [] [] bs
unfolding gathered block_lines
blocks_gathered [] all = refl
blocks_gathered (block ∷ bs) all =
    label_gathered block.state block bs (code_lines block.code (block_lines bs)) (All-head IsLabelled block bs all).state refl
    (code_gathered block.code (block_lines bs) bs (blocks_gathered bs (All-tail IsLabelled block bs all)))

-- ---- and each of them may come

-- behind so many labels and instructions, at the end of a block
abbrev ended : (labels instrs : ℕ) → Lines
ended labels instrs = record { labels = labels; instrs = instrs; stand = stand.Last }

by_passes : (by : List (List Line)) (s : Lines) (rest : List BodyLine) → NotFirst s.stand → All AreLinesIn by → Passes s rest → Passes s (by_lines by rest)
unfolding by_lines
by_passes [] s rest h all passes = passes
by_passes (ls ∷ by) s rest h all passes = ((All-head AreLinesIn ls by all, h), by_passes by s rest h (All-tail AreLinesIn ls by all) passes)

behind_not_first : (b : Bool) → NotFirst (stand_behind b)
behind_not_first true = tt
behind_not_first false = tt

code_passes : (code : List Instr) (labels instrs : ℕ) (st : Stand) (rest : List BodyLine) → All IsInstr code → EndsLast code → instrs + length code ≤ LAST_NUMBER
    → Passes (ended labels (instrs + length code)) rest → Passes (record { labels = labels; instrs = instrs; stand = st }) (code_lines code rest)
unfolding code_lines
code_passes [] labels instrs st rest all ends few passes = absurd ends
code_passes (i ∷ []) labels instrs st rest all ends few passes =
    let is = All-head IsInstr i [] all in
    let one : instrs < LAST_NUMBER = omega arith in
    let count : instrs + 1 ≡ suc instrs = omega arith in (
      ((is.op, is.way), record { one = one; more = λ e. absurd (clash (is_last i.op) ends e) }),
      by_passes i.by _ rest (behind_not_first (is_last i.op)) is.by
          (subst (λ (b : Bool). Passes (record { labels = labels; instrs = suc instrs; stand = stand_behind b }) rest) (sym ends)
          (subst (λ (n : ℕ). Passes (ended labels n) rest) count passes)),
    )
  where
    clash : (b : Bool) → b ≡ true → b ≡ false → ⊥
    clash b h e = absurd cc
code_passes (i ∷ j ∷ code) labels instrs st rest all ends few passes =
    let is = All-head IsInstr i (j ∷ code) all in
    let one : instrs < LAST_NUMBER = omega arith in
    let two : suc instrs < LAST_NUMBER = omega arith in
    let count : instrs + length (i ∷ j ∷ code) ≡ suc instrs + length (j ∷ code) = omega arith in (
      ((is.op, is.way), record { one = one; more = λ e. two }),
      by_passes i.by _ (code_lines (j ∷ code) rest) (behind_not_first (is_last i.op)) is.by
          (code_passes (j ∷ code) labels (suc instrs) (stand_behind (is_last i.op)) rest (All-tail IsInstr i (j ∷ code) all) ends (omega arith)
          (subst (λ (n : ℕ). Passes (ended labels n) rest) count passes)),
    )

some_code : (code : List Instr) → EndsLast code → 1 ≤ length code
some_code [] h = absurd h
some_code (i ∷ code) h = omega arith

block_passes : (o : Option LabelState) (block : Block) (bs : List Block) (labels instrs : ℕ) → IsState o → IsCode block.code
    → labels + length (block ∷ bs) ≤ LAST_NUMBER → instrs + size_of (block ∷ bs) ≤ LAST_NUMBER → Passes (ended (suc labels) (instrs + length block.code)) (block_lines bs)
    → Passes (ended labels instrs) (label_lines o (code_lines block.code (block_lines bs)))
unfolding label_lines size_of
block_passes None block bs labels instrs h code few_labels few others = absurd h
block_passes (Some state) block bs labels instrs h code few_labels few others =
    let some = some_code block.code code.ends in (
      (h, record { last = tt; labels = omega arith; instrs = omega arith }),
      code_passes block.code (suc labels) instrs stand.First (block_lines bs) code.instrs code.ends (omega arith) others,
    )

blocks_pass : (bs : List Block) (labels instrs : ℕ) → All IsLabelled bs → labels + length bs ≤ LAST_NUMBER → instrs + size_of bs ≤ LAST_NUMBER
    → Passes (ended labels instrs) (block_lines bs)
unfolding block_lines size_of
blocks_pass [] labels instrs all few_labels few = tt
blocks_pass (block ∷ bs) labels instrs all few_labels few =
    let is : IsLabelled block = All-head IsLabelled block bs all in
    block_passes block.state block bs labels instrs is.state is.code few_labels few
    (blocks_pass bs (suc labels) (instrs + length block.code) (All-tail IsLabelled block bs all) (omega arith) (omega arith))

-- ---- the law

abbrev pub BlocksFit : List Block → Type 0
BlocksFit bs = AreBlocks bs × (size_of bs ≤ LAST_NUMBER)

abbrev pub function_blocks : List Block → List ℕ
function_blocks bs = blocks_text 0 bs ++ codes "end\n"

abbrev made_of : List BodyLine → List Block
made_of ls = blocks_of (gathered ls)

blocks_from : (ls : List BodyLine) (text : List ℕ) → IsBody ls text → Spelled Any BlocksFit function_blocks (made_of ls) text
unfolding each blocks_text size_of
blocks_from ls text i =
    let p = passes_from at_first ls text i in
    let g = gathers at_first ls first_good p.0 in
    let labels = g.labels in
    let instrs = g.instrs in
    record {
      known = tt;
      fits = ((refl, record { instrs = g.code; ends = g.goes_on }, omega arith, g.blocks), omega arith);
      is = p.1 ∙ g.is ∙ ap (λ (b : List (List Line)). each by_line b ++ (code_text (gathered ls).code ++ rest_text 1 (gathered ls).blocks)) g.by_fits
          ∙ sym (append_assoc (code_text (gathered ls).code) (blocks_text 1 (gathered ls).blocks) (codes "end\n"));
    }

record HasLines (bs : List Block) (text : List ℕ) : Type 0 where
  ls : List BodyLine
  made : bs ≡ made_of ls
  is : IsBody ls text

blocks_to : (bs : List Block) (text : List ℕ) → BlocksFit bs → text ≡ function_blocks bs → HasLines bs text
unfolding block_lines label_lines size_of
blocks_to [] text h e = absurd h.0
blocks_to (first ∷ bs) text h e =
    let code = h.0.1 in
    let few = h.1 in
    let some = some_code first.code code.ends in
    let passes : Passes at_first (code_lines first.code (block_lines bs)) =
    code_passes first.code 0 0 stand.First (block_lines bs) code.instrs code.ends (omega arith) (blocks_pass bs 0 (0 + length first.code) h.0.3 (omega (arith, h.0.2)) (omega arith)) in
    let same : gathered (code_lines first.code (block_lines bs)) ≡ gathers_to [] first.code bs = code_gathered first.code (block_lines bs) bs (blocks_gathered bs h.0.3) in
    let made : first ∷ bs ≡ made_of (code_lines first.code (block_lines bs)) =
    ap (λ (o : Option LabelState). record { state = o; code = first.code } ∷ bs) h.0.0 ∙ ap (λ (g : Gathered). blocks_of g) (sym same) in
    let read = blocks_from (code_lines first.code (block_lines bs)) (body_text at_first (code_lines first.code (block_lines bs)))
    (passes_to at_first (code_lines first.code (block_lines bs)) (body_text at_first (code_lines first.code (block_lines bs))) passes refl) in
    record {
      ls = code_lines first.code (block_lines bs);
      made = made;
      is = passes_to at_first (code_lines first.code (block_lines bs)) text passes (e ∙ ap function_blocks made ∙ sym read.is);
    }

pub spelled-blocks : Exact blocks (Spelled Any BlocksFit function_blocks) Anything
unfolding blocks
spelled-blocks = exact_as _ (IsMade made_of IsBody) _ Anything Anything (exact-made made_of _ IsBody Anything exact-lines)
    (λ bs text i. subst (λ (b : List Block). Spelled Any BlocksFit function_blocks b text) (sym i.made) (blocks_from i.value text i.is))
    (λ bs text s. (let h = blocks_to bs text s.fits s.is in record { value = h.ls; made = h.made; is = h.is })) (λ _ _. tt)
