-- Where the run of a source begins: its arguments as values and blocks, and the machine with the body of `main` to do.
use Rattle.std.proofs.Common.{◌≡◌, ◌≢◌, ◌∙◌, ◌<◌, ◌+◌, ℕ, zero, suc, ℤ, pos, Bool as Truth, true, false, cond, List, [], ◌∷◌, ◌++◌, length, map, Option, Some, None, Result, Ok, Err, refl, sym, ap, subst, append_assoc, append-nil, arith}
use Rattle.std.specs.Prelude.{slice_get, ◌==◌}
use Rattle.std.proofs.lemmas.Bool.Decides.{Decides-eqb}
use Rattle.std.proofs.lemmas.List.{length-map}
use Rattle.xan_seq.specs.Answers.{◌>>=◌}
use Rattle.xan_io.specs.Outcome.{How, NoStore, Outcome}
use Rattle.xan_io.specs.declared.arg.Arg.{Arg}
use Rattle.xan_io.specs.declared.arg.Arg.TheVariants as arg
use Rattle.operation_rules.specs.Effects.{truth_word}
use Rattle.operation_rules.specs.Entry.{placed, with_word}
use Rattle.xanadu_tree.specs.Plain as core
use Rattle.typed_core.specs.Meaning.{first_run, no_log, outcome_of, placed_in, source_outcome, source_run, tag_of}
use Rattle.typed_core.specs.SourceFreely.{free_body, freely_main, freely_run, freely_started}
use Rattle.typed_core.specs.SourceOperands.{no_cells}
use Rattle.typed_core.specs.SourceRuns.{Answer}
use Rattle.typed_core.specs.SourceValues.{Tag, Value, Block, Blocks, number, separate, tagged, with_tags}
use Rattle.typed_core.specs.SourceValues as tags
use Rattle.typed_core.proofs.FreeBounds.{run_free}
use Rattle.source_safety.proofs.ArgumentsFit.{with_word_is}
use Rattle.source_values.specs.Placing.{value_placed, values_placed}
use Rattle.source_values.specs.Values.{Ending, has_room, made_if}
use Rattle.source_evaluator.specs.Evaluating.{BeginsIn, begun}
use Rattle.source_evaluator.specs.Pending.{R, first_machine, meaning}
use Rattle.source_evaluator.specs.Steps.{Machine}
use Rattle.source_evaluator.specs.Work.{Statements}
use Rattle.source_evaluator.proofs.CallMeanings.{main_begins}

-- ---- arguments, one after another

abbrev Words : Type 0
Words = Option (List ℤ × Blocks)

-- the same as what the meaning makes of them, behind the values before them
abbrev placed_behind : List Value → List Arg → Words → Ending (List Value × Blocks)
placed_behind made args None = Err NoStore
placed_behind made args (Some p) = Ok (made ++ with_tags (map tag_of args) p.0, p.1)

one_more : (made : List Value) (a : Arg) (word : ℤ) (args : List Arg) (o : Words)
    → placed_behind (made ++ record { tag = tag_of a; word = word } ∷ []) args o ≡ placed_behind made (a ∷ args) (with_word word o)
unfolding with_tags
one_more made a word args None = refl
one_more made a word args (Some p) =
    ap (λ (vs : List Value). let e : Ending (List Value × Blocks) = Ok (vs, p.1) in e)
    (append_assoc made (record { tag = tag_of a; word = word } ∷ []) (with_tags (map tag_of args) p.0))

numbers_tagged : (cells : List ℤ) → tagged no_cells cells ≡ map number cells
unfolding tagged
numbers_tagged [] = refl
numbers_tagged (c ∷ cs) = ap (λ (vs : List Value). number c ∷ vs) (numbers_tagged cs)

abbrev with_block : Blocks → List Value → Blocks
with_block store cells = record store { blocks = store.blocks ++ record { descriptor = 0; cells = cells } ∷ [] }

pub placed_same : (made : List Value) (args : List Arg) (store : Blocks) → values_placed made args store ≡ placed_behind made args (placed (separate no_cells) args store)
unfolding values_placed placed with_tags
placed_same made [] store = ap (λ (vs : List Value). let e : Ending (List Value × Blocks) = Ok (vs, store) in e) (sym (append-nil made))
placed_same made (arg.Int n ∷ args) store =
    placed_same (made ++ number n ∷ []) args store ∙ one_more made (arg.Int n) n args (placed (separate no_cells) args store)
placed_same made (arg.Bool b ∷ args) store =
    placed_same (made ++ record { tag = tags.Truth; word = truth_word b } ∷ []) args store ∙ one_more made (arg.Bool b) (truth_word b) args (placed (separate no_cells) args store)
placed_same made (arg.Array cells ∷ args) store =
    by_room (has_room (length cells + 2) store) (λ vs new. placed_same vs args new)
  where
    by_room : (b : Truth) → ((vs : List Value) (new : Blocks) → values_placed vs args new ≡ placed_behind vs args (placed (separate no_cells) args new))
        → (made_if b tags.Array (record { descriptor = 0; cells = map number cells }) store >>= λ p. values_placed (made ++ p.0 ∷ []) args p.1)
        ≡ placed_behind made (arg.Array cells ∷ args)
        (cond b (with_word (pos (length store.blocks)) (placed (separate no_cells) args (with_block store (tagged no_cells cells)))) None)
    by_room true later =
        later (made ++ record { tag = tags.Array; word = pos (length store.blocks) } ∷ []) (with_block store (map number cells))
        ∙ one_more made (arg.Array cells) (pos (length store.blocks)) args (placed (separate no_cells) args (with_block store (map number cells)))
        ∙ ap (λ vs. placed_behind made (arg.Array cells ∷ args) (with_word (pos (length store.blocks)) (placed (separate no_cells) args (with_block store vs)))) (sym (numbers_tagged cells))
    by_room false later = refl

placed_many : (args : List Arg) (store : Blocks) (words : List ℤ) (new : Blocks) → placed (separate no_cells) args store ≡ Some (words, new) → length words ≡ length args
unfolding placed
placed_many [] store words new e =
    let both : (let q : List ℤ × Blocks = ([], store) in q) ≡ (words, new) = cc in
    sym (ap (λ (q : List ℤ × Blocks). length q.0) both)
placed_many (arg.Int n ∷ args) store words new e =
    let w = with_word_is n (placed (separate no_cells) args store) words new e in
    sym (ap length w.all) ∙ ap suc (placed_many args store w.rest new w.is)
placed_many (arg.Bool b ∷ args) store words new e =
    let w = with_word_is (truth_word b) (placed (separate no_cells) args store) words new e in
    sym (ap length w.all) ∙ ap suc (placed_many args store w.rest new w.is)
placed_many (arg.Array cells ∷ args) store words new e =
    by_room ((separate no_cells).room store (length cells + 2)) e (λ rest is. placed_many args (with_block store (tagged no_cells cells)) rest new is)
  where
    by_room : (b : Truth) → cond b (with_word (pos (length store.blocks)) (placed (separate no_cells) args (with_block store (tagged no_cells cells)))) None ≡ Some (words, new)
        → ((rest : List ℤ) → placed (separate no_cells) args (with_block store (tagged no_cells cells)) ≡ Some (rest, new) → length rest ≡ length args)
        → length words ≡ suc (length args)
    by_room true e later =
        let w = with_word_is (pos (length store.blocks)) (placed (separate no_cells) args (with_block store (tagged no_cells cells))) words new e in
        sym (ap length w.all) ∙ ap suc (later w.rest w.is)
    by_room false e later = absurd (let bad : ⊥ = cc in bad)

tags_many : (gs : List Tag) (ws : List ℤ) → length ws ≡ length gs → length (with_tags gs ws) ≡ length gs
unfolding with_tags
tags_many [] ws many = refl
tags_many (g ∷ gs) [] many = absurd (let bad : ⊥ = omega (arith, many) in bad)
tags_many (g ∷ gs) (w ∷ ws) many = ap suc (tags_many gs ws (omega (arith, many)))

-- ---- the run

abbrev pub empty_store : (heap : ℕ) → Blocks
empty_store heap = record { blocks = []; heap = heap }

module _ (program : core.Program) (f : core.Fun) (there : slice_get program.funs program.main ≡ Some f) (args : List Arg) (many : length args ≡ length f.params)
    (heap fuel : ℕ) where
  abbrev st : R
  st = first_run heap fuel tt

  abbrev in_store : Blocks → R
  in_store store = record { units = fuel; store = store; printed = []; log = tt }

  -- what the run is, by what becomes of its arguments
  abbrev begins_by : Ending (List Value × Blocks) → Ending Machine
  begins_by e = e >>= λ p. Ok (first_machine f p.0 (in_store p.1))

  fit : (words : List ℤ) (store : Blocks) → placed (separate no_cells) args (empty_store heap) ≡ Some (words, store)
      → (length (with_tags (map tag_of args) words) == length f.params) ≡ true
  fit words store e =
      let tags-count = length-map args tag_of in
      let count = placed_many args (empty_store heap) words store e in
      let all = tags_many (map tag_of args) words (count ∙ sym tags-count) in
      (Decides-eqb (length (with_tags (map tag_of args) words)) (length f.params)).1 (all ∙ tags-count ∙ many)

  begun_is : begun f args heap fuel ≡ begins_by (placed_behind [] args (placed (separate no_cells) args (empty_store heap)))
  begun_is = ap begins_by (placed_same [] args (empty_store heap))

  outcome_is : (depth : ℕ) → source_outcome program args heap (suc depth) fuel
      ≡ outcome_of (freely_started no_log program.funs (suc depth) program.main (suc depth) (placed_in args st (placed (separate no_cells) args (empty_store heap))) st)
  outcome_is depth = ap (λ (a : Answer (Unit {0}) Value). outcome_of a) (run_free (Unit {0}) no_log tt (suc fuel) program args heap (suc depth) fuel (omega arith))

  -- where it begins, its outcome is what the machine comes to
  pub begun_run : (depth : ℕ) (m : Machine) → begun f args heap fuel ≡ Ok m
      → source_outcome program args heap (suc depth) fuel ≡ outcome_of (meaning program.funs (suc depth) m [])
  begun_run depth m e =
      by_placed (placed (separate no_cells) args (empty_store heap)) refl (sym begun_is ∙ e)
    where
      by_placed : (o : Words) → placed (separate no_cells) args (empty_store heap) ≡ o → begins_by (placed_behind [] args (placed (separate no_cells) args (empty_store heap))) ≡ Ok m
          → source_outcome program args heap (suc depth) fuel ≡ outcome_of (meaning program.funs (suc depth) m [])
      by_placed None is e = absurd (let same : begins_by (placed_behind [] args None) ≡ Ok m = sym (ap (λ o. begins_by (placed_behind [] args o)) is) ∙ e in let bad : ⊥ = cc in bad)
      by_placed (Some p) is e =
          let values = with_tags (map tag_of args) p.0 in
          let first = first_machine f values (in_store p.1) in
          let same : (let r : Ending Machine = Ok first in r) ≡ Ok m = sym (ap (λ o. begins_by (placed_behind [] args o)) is) ∙ e in
          let is_m : first ≡ m = cc in
          outcome_is depth
          ∙ ap (λ (o : Words). outcome_of (freely_started no_log program.funs (suc depth) program.main (suc depth) (placed_in args st o) st)) is
          ∙ ap (λ (o : Option core.Fun). outcome_of (freely_main no_log program.funs (suc depth) program.main o values (in_store p.1))) there
          ∙ ap (λ (a : Answer (Unit {0}) Value). outcome_of a) (main_begins program.funs (suc depth) program.main f values (in_store p.1) (fit p.0 p.1 is))
          ∙ ap (λ (n : Machine). outcome_of (meaning program.funs (suc depth) n [])) is_m

  -- where it does not, it ends so, and nothing is printed
  pub begun_none : (depth : ℕ) (how : How) → begun f args heap fuel ≡ Err how → source_outcome program args heap (suc depth) fuel ≡ record { printed = []; how = how }
  begun_none depth how e =
      by_placed (placed (separate no_cells) args (empty_store heap)) refl (sym begun_is ∙ e)
    where
      by_placed : (o : Words) → placed (separate no_cells) args (empty_store heap) ≡ o → begins_by (placed_behind [] args (placed (separate no_cells) args (empty_store heap))) ≡ Err how
          → source_outcome program args heap (suc depth) fuel ≡ record { printed = []; how = how }
      by_placed None is e =
          let same : begins_by (placed_behind [] args None) ≡ Err how = sym (ap (λ o. begins_by (placed_behind [] args o)) is) ∙ e in
          let is_how : NoStore ≡ how = cc in
          outcome_is depth
          ∙ ap (λ (o : Words). outcome_of (freely_started no_log program.funs (suc depth) program.main (suc depth) (placed_in args st o) st)) is
          ∙ ap (λ h. let o : Outcome = record { printed = []; how = h } in o) is_how
      by_placed (Some p) is e = absurd (let same : begins_by (placed_behind [] args (Some p)) ≡ Err how = sym (ap (λ o. begins_by (placed_behind [] args o)) is) ∙ e in let bad : ⊥ = cc in bad)

-- no activation may be
pub no_depth : (program : core.Program) (args : List Arg) (heap fuel : ℕ) → source_outcome program args heap 0 fuel ≡ record { printed = []; how = NoStore }
no_depth program args heap fuel = refl

-- ---- the same, by what is known where the run begins

first_work : (f : core.Fun) (st : Blocks → R) (e : Ending (List Value × Blocks)) (m : Machine) → (e >>= λ p. Ok (first_machine f p.0 (st p.1))) ≡ Ok m → m.work ≡ Statements f.body ∷ []
first_work f st (Ok p) m e =
    let first = first_machine f p.0 (st p.1) in
    let same : (let r : Ending Machine = Ok first in r) ≡ Ok m = e in
    let is_m : first ≡ m = cc in
    sym (ap (λ (n : Machine). n.work) is_m)
first_work f st (Err how) m e = absurd (let bad : ⊥ = cc in bad)

-- the machine has the body of `main` to do
pub begun_in : (fs : List core.Fun) (number : ℕ) (f : core.Fun) (args : List Arg) (heap fuel : ℕ) (m : Machine) → slice_get fs number ≡ Some f → begun f args heap fuel ≡ Ok m → BeginsIn fs m
begun_in fs number f args heap fuel m there e = record {
  number = number;
  fun = f;
  there = there;
  work = first_work f (λ store. record { units = fuel; store = store; printed = []; log = tt }) (values_placed [] args (record { blocks = []; heap = heap })) m e;
}

pub run_begun : (program : core.Program) (f : core.Fun) (args : List Arg) (heap depth fuel : ℕ) (m : Machine) → slice_get program.funs program.main ≡ Some f
    → length args ≡ length f.params → depth ≢ 0 → begun f args heap fuel ≡ Ok m → source_outcome program args heap depth fuel ≡ outcome_of (meaning program.funs depth m [])
run_begun program f args heap zero fuel m there many some e = absurd (some refl)
run_begun program f args heap (suc depth) fuel m there many some e = begun_run program f there args many heap fuel depth m e

pub run_none : (program : core.Program) (f : core.Fun) (args : List Arg) (heap depth fuel : ℕ) (how : How) → slice_get program.funs program.main ≡ Some f
    → length args ≡ length f.params → depth ≢ 0 → begun f args heap fuel ≡ Err how → source_outcome program args heap depth fuel ≡ record { printed = []; how = how }
run_none program f args heap zero fuel how there many some e = absurd (some refl)
run_none program f args heap (suc depth) fuel how there many some e = begun_none program f there args many heap fuel depth how e
