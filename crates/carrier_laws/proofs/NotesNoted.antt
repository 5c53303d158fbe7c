-- All states that elaboration notes along a body of a shaped core are those of labels.
use Rattle.std.proofs.Common.{◌≡◌, ◌∙◌, List, [], ◌∷◌, ◌++◌, Ok, sym, ap, append_assoc, append-nil}
use Rattle.std.specs.List.{AllByRecursion}
use Rattle.xanadu_tree.specs.BodyRules.{Point, AreStatements}
use Rattle.xanadu_tree.specs.KindRules.{Setting}
use Rattle.xanadu_tree.specs.Plain as core
use Rattle.typed_core.specs.States.{Site, State}
use Rattle.typed_core.specs.Statements.{block}
use Rattle.typed_core.specs.declared.note.Note.{Note}
use Rattle.typed_core.specs.declared.note.Note.TheVariants as note
use Rattle.carrier_laws.proofs.NotedStates.{IsNoted, noted_by_facts}
use Rattle.carrier_laws.proofs.NotesWalked.{GoesOn, block_so}
use Rattle.carrier_laws.proofs.PlacesKept.{Grounds, Place}
use Rattle.carrier_laws.proofs.StatesTaken.{OfState}

-- the note is well
abbrev pub IsWell : Site → Note → Type 0
IsWell site one = OfState (IsNoted site.table site.own.vars) one

-- behind the notes of functions before it, those of this one are well
pub record AreWell (site : Site) (first notes : List Note) : Type 0 where
  pub made : List Note
  pub is : notes ≡ first ++ made
  pub each : AllByRecursion (IsWell site) made

push : (site : Site) (notes : List Note) (one : Note) → AllByRecursion (IsWell site) notes → IsWell site one → AllByRecursion (IsWell site) (notes ++ one ∷ [])
push site [] one all is = (is, tt)
push site (n ∷ notes) one all is = (all.0, push site notes one all.1 is)

pub none_made : (site : Site) (first : List Note) → AreWell site first first
none_made site first = record { made = []; is = sym (append-nil first); each = tt }

well_more : (site : Site) (first notes : List Note) (one : Note) → AreWell site first notes → IsWell site one → AreWell site first (notes ++ one ∷ [])
well_more site first notes one all is = record {
  made = all.made ++ one ∷ [];
  is = ap (λ ns. ns ++ one ∷ []) all.is ∙ append_assoc first all.made (one ∷ []);
  each = push site all.made one all.each is;
}

-- a demand and a way say nothing of states
well_on : (site : Site) (first : List Note) → GoesOn site (IsNoted site.table site.own.vars) (λ notes goals. AreWell site first notes)
well_on site first = record {
  known = noted_by_facts site;
  demand = λ at rows st kept named all. well_more site first st.notes (note.Demand _) all tt;
  way = λ at joint end found values st is met e all. well_more site first st.notes (note.Edge values found.0 _) all tt;
  state = λ noted notes goals is all. well_more site first notes (note.State noted) all is;
}

pub block_well : (set : Setting) (site : Site) (g : Grounds set site) (first : List Note) (ss : core.Stmts) (before after : Point) (st more : State) → AreStatements set before ss after
    → Place set site before st → AreWell site first st.notes → block site ss st ≡ Ok more → AreWell site first more.notes
block_well set site g first ss before after st more are here all made =
    block_so set site g (IsNoted site.table site.own.vars) (λ notes goals. AreWell site first notes) (well_on site first) ss before after st more are here all made
