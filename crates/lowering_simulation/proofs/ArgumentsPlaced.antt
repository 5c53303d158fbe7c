-- The arguments of a run become the same words and the same blocks in both stores.
use Rattle.std.proofs.Common.{◌≡◌, ℕ, ◌+◌, ℤ, pos, List, [], ◌∷◌, map, length, Bool as Flag, true, false, if◌then◌else◌, Option, Some, None, refl, sym, subst}
use Rattle.std.specs.List.{AllZip}
use Rattle.xan_io.specs.declared.arg.Arg.{Arg}
use Rattle.xan_io.specs.declared.arg.Arg.TheVariants as arg
use Rattle.operation_rules.specs.Effects.{truth_word}
use Rattle.operation_rules.specs.Entry.{with_word, placed}
use Rattle.operation_rules.specs.FlatWords.{Flat, flat_words}
use Rattle.typed_core.specs.Meaning.{tag_of}
use Rattle.typed_core.specs.SourceOperands.{no_cells}
use Rattle.typed_core.specs.SourceValues.{Tag, Number, Truth, Array, Blocks, with_tags, tagged, separate}
use Rattle.lowering_simulation.proofs.BlocksLaid.{sizes_of, IsLaid}
use Rattle.lowering_simulation.proofs.EffectsAlike.{tagged_word, writes_same, made_alike, rooms}
use Rattle.lowering_simulation.proofs.WordsFit.{Fits, Extends, extends_then, extends_same, fits_more, number_fits, truth_fits}

pub record BothPlaced (tags : List Tag) (store : Blocks) (words : List ℤ) (new : Blocks) (ws : List ℤ) (flat : Flat) : Type 0 where
  pub laid : IsLaid new flat
  pub more : Extends (sizes_of store.blocks) (sizes_of new.blocks)
  pub fit : AllZip (Fits (sizes_of new.blocks)) (with_tags tags words) ws

-- both have room for them, or neither
abbrev pub PlacedIs : List Tag → Blocks → Option (List ℤ × Blocks) → Option (List ℤ × Flat) → Type 0
PlacedIs tags store None None = Unit {0}
PlacedIs tags store None (Some two) = ⊥
PlacedIs tags store (Some one) None = ⊥
PlacedIs tags store (Some one) (Some two) = BothPlaced tags store one.0 one.1 two.0 two.1

pub record PlacedAlike (tags : List Tag) (store : Blocks) (one : Option (List ℤ × Blocks)) (two : Option (List ℤ × Flat)) : Type 0 where
  pub is : PlacedIs tags store one two

placed_more : (tag : Tag) (tags : List Tag) (v w : ℤ) (store middle : Blocks) (one : Option (List ℤ × Blocks)) (two : Option (List ℤ × Flat))
    → Extends (sizes_of store.blocks) (sizes_of middle.blocks) → Fits (sizes_of middle.blocks) (tagged_word tag v) w → PlacedAlike tags middle one two
    → PlacedAlike (tag ∷ tags) store (with_word v one) (with_word w two)
unfolding with_tags
placed_more tag tags v w store middle None None more fits h = record { is = tt }
placed_more tag tags v w store middle None (Some two) more fits h = absurd h.is
placed_more tag tags v w store middle (Some one) None more fits h = absurd h.is
placed_more tag tags v w store middle (Some one) (Some two) more fits h =
    let b = h.is in
    record {
      is = record {
        laid = b.laid;
        more = extends_then (sizes_of store.blocks) (sizes_of middle.blocks) (sizes_of one.1.blocks) more b.more;
        fit = (fits_more (sizes_of middle.blocks) (sizes_of one.1.blocks) (tagged_word tag v) w b.more fits, b.fit);
      };
    }

numbers_fit : (ns : List ℕ) (cells : List ℤ) → AllZip (Fits ns) (tagged no_cells cells) cells
unfolding tagged
numbers_fit ns [] = tt
numbers_fit ns (n ∷ cells) = (number_fits ns n, numbers_fit ns cells)

-- an array becomes a block
array_placed : (tags : List Tag) (cells : List ℤ) (store : Blocks) (flat : Flat) → IsLaid store flat → (room other : Flag) → other ≡ room
    → (one : Blocks → Option (List ℤ × Blocks)) (two : Flat → Option (List ℤ × Flat))
    → ((new : Blocks) (flat : Flat) → IsLaid new flat → PlacedAlike tags new (one new) (two flat))
    → PlacedAlike (Array ∷ tags) store
    (if room then (let made = (separate no_cells).made store 0 cells in with_word (pos made.0) (one made.1)) else None)
    (if other then (let made = flat_words.made flat 0 cells in with_word (pos made.0) (two made.1)) else None)
array_placed tags cells store flat laid true true e one two rest =
    let made = (separate no_cells).made store 0 cells in
    let flat_made = flat_words.made flat 0 cells in
    let it = (made_alike store flat laid no_cells Array 0 cells cells (λ sizes v w a. record { is = a }) (numbers_fit (sizes_of store.blocks) cells)).writes (pos made.0) made.1 refl in
    let same = writes_same (pos flat_made.0) it.word flat_made.1 it.flat it.is in
    let fits = subst (λ w. Fits (sizes_of made.1.blocks) (tagged_word Array (pos made.0)) w) (sym same.0) it.fits in
    let laid_then = subst (λ f. IsLaid made.1 f) (sym same.1) it.laid in
    placed_more Array tags (pos made.0) (pos flat_made.0) store made.1 (one made.1) (two flat_made.1) it.more fits (rest made.1 flat_made.1 laid_then)
array_placed tags cells store flat laid false false e one two rest = record { is = tt }
array_placed tags cells store flat laid true false e one two rest = cc
array_placed tags cells store flat laid false true e one two rest = cc

pub placed_alike : (args : List Arg) (store : Blocks) (flat : Flat) → IsLaid store flat
    → PlacedAlike (map tag_of args) store (placed (separate no_cells) args store) (placed flat_words args flat)
unfolding placed with_tags
placed_alike [] store flat laid = record { is = record { laid = laid; more = extends_same (sizes_of store.blocks); fit = tt } }
placed_alike (arg.Int n ∷ args) store flat laid =
    placed_more Number (map tag_of args) n n store store _ _ (extends_same (sizes_of store.blocks)) (number_fits (sizes_of store.blocks) n) (placed_alike args store flat laid)
placed_alike (arg.Bool b ∷ args) store flat laid =
    placed_more Truth (map tag_of args) (truth_word b) (truth_word b) store store _ _ (extends_same (sizes_of store.blocks)) (truth_fits (sizes_of store.blocks) b)
    (placed_alike args store flat laid)
placed_alike (arg.Array cells ∷ args) store flat laid =
    array_placed (map tag_of args) cells store flat laid ((separate no_cells).room store (length cells + 2)) (flat_words.room flat (length cells + 2))
    (sym (rooms store flat laid (length cells + 2) (length cells + 2) refl)) (λ new. placed (separate no_cells) args new) (λ f. placed flat_words args f)
    (λ new f l. placed_alike args new f l)
