-- The words of arguments, and the state with which a run begins.
use Rattle.std.proofs.Common.{◌≡◌, ◌∙◌, ap, refl, sym, arith, ℕ, zero, suc, ◌*◌, ◌<◌, ◌≤◌, ℤ, List, [], ◌∷◌, take, drop, length, append-nil, Option, Some, None}
use Rattle.std.proofs.lemmas.List.{drop_all}
use Rattle.xan_io.specs.declared.arg.Arg.{Arg}
use Rattle.operation_rules.specs.Entry.{placed}
use Rattle.operation_rules.specs.FlatWords.{Flat, flat_words}
use Rattle.dtal_code.specs.Places.{places_of}
use Rattle.dtal_code.specs.Machine.{State}
use Rattle.dtal_code.specs.Runs.{first_state, entry_state}
use Rattle.dtal_code.specs.declared.limits.TheConstants.{PLACES}
use Rattle.dtal_machine.specs.declared.run.Caller.{Caller}
use Rattle.dtal_machine.specs.declared.run.Run.{Run}
use Rattle.dtal_machine.specs.Acting.{flat}
use Rattle.dtal_machine.specs.Placing.{placed_behind}
use Rattle.dtal_machine.specs.Stacks.{activation, callers_on, state_of}

-- all arguments have their words
pub placed_all : (args : List Arg) (index : ℕ) (words : List ℤ) (store : Flat) → length args ≤ index
    → placed_behind words (placed flat_words (drop index args) store) ≡ Some (words, store)
unfolding placed
placed_all args index words store past =
    ap (λ left. placed_behind words (placed flat_words left store)) (drop_all index args past) ∙ ap (λ ws. Some (ws, store)) (append-nil words)

-- ---- the first state

pub entry_some : (start depth : ℕ) (begun : List ℤ × Flat) → 0 < depth → entry_state start depth (Some begun) ≡ Some (first_state start depth begun)
entry_some start zero begun less = absurd (omega arith)
entry_some start (suc depth) begun less = refl

pub entry_none : (start depth : ℕ) → entry_state start depth None ≡ None
entry_none start zero = refl
entry_none start (suc depth) = refl

pub begun_state : (run : Run) (words : List ℤ) → run.result_to ≡ None → run.places.items ≡ places_of words → run.callers.items ≡ []
    → first_state run.at run.depth (words, flat run.store) ≡ state_of run
unfolding callers_on
begun_state run words first places-are callers-are =
    let acts : Option ℕ → List Caller → List ℤ → State = λ to cs ps. record {
      words = run.store.words.items;
      heap = run.store.heap;
      depth = run.depth;
      activations = activation run.at to (drop (PLACES * length cs) ps) ∷ callers_on [] cs (take (PLACES * length cs) ps);
    } in
    sym (ap (λ to. acts to run.callers.items run.places.items) first ∙ ap (λ cs. acts None cs run.places.items) callers-are ∙ ap (acts None []) places-are)
