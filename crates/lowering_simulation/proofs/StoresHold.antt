-- What holds at a place of a run: the store of the code is that of the source, and the places of the code have the words of variables and of what waits.
use Rattle.std.proofs.Common.{◌≡◌, ◌≢◌, ◌⊎◌, inl, inr, ◌∙◌, ℕ, suc, ◌+◌, ◌<◌, ◌≤◌, ℤ, List, [], ◌∷◌, ◌++◌, length, length-append, slice_get, slice_set, Some, refl, sym, ap, subst, arith}
use Rattle.std.specs.List.{AllZip}
use Rattle.operation_rules.specs.FlatWords.{Flat}
use Rattle.three_address.specs.Machine.{with_word, words_in}
use Rattle.three_address.specs.declared.function.TheConstants.{PLACES}
use Rattle.typed_core.specs.SourceRuns.{Run, Env}
use Rattle.typed_core.specs.SourceValues.{Value}
use Rattle.lowering_simulation.proofs.BlocksLaid.{sizes_of, IsLaid}
use Rattle.lowering_simulation.proofs.ListPlaces.{get_front, get_last, get_set, get_set_other, get_earlier, length_set, same_or_other}
use Rattle.lowering_simulation.proofs.WordsFit.{Fits, Extends, fits_more}

-- ---- the store

-- blocks only become more than those of `base`, and fewer units are left than `limit`
pub record StoreHolds {L : Type 0} (base : List ℕ) (limit : ℕ) (st : Run L) (flat : Flat) : Type 0 where
  pub is : IsLaid st.store flat
  pub more : Extends base (sizes_of st.store.blocks)
  pub below : st.units < limit

-- the sizes of a run's blocks
abbrev pub sizes : {L : Type 0} → Run L → List ℕ
sizes st = sizes_of st.store.blocks

-- ---- places

pub record HasWord (ns : List ℕ) (regs : List ℤ) (place : ℕ) (v : Value) : Type 0 where
  pub word : ℤ
  pub there : slice_get regs place ≡ Some word
  pub fits : Fits ns v word

-- each value is in its place
pub record PlacesHold (ns : List ℕ) (all : Env) (regs : List ℤ) : Type 0 where
  pub room : PLACES ≤ length regs
  pub by : (place : ℕ) (v : Value) → slice_get all place ≡ Some (Some v) → HasWord ns regs place v

-- what has a value has it still
pub record Keeps (one two : Env) : Type 0 where
  pub by : (place : ℕ) (v : Value) → slice_get one place ≡ Some (Some v) → slice_get two place ≡ Some (Some v)

-- a function's variables, and behind them what waits in its temporaries
pub record Pending (env all : Env) (vars depth : ℕ) : Type 0 where
  pub variables : Keeps env all
  pub size : length all ≡ vars + depth

pub keeps_same : (all : Env) → Keeps all all
keeps_same all = record { by = λ place v e. e }

pub keeps_then : (one two three : Env) → Keeps one two → Keeps two three → Keeps one three
keeps_then one two three h k = record { by = λ place v e. k.by place v (h.by place v e) }

pub keeps_more : (all : Env) (v : Value) → Keeps all (all ++ Some v ∷ [])
keeps_more all v = record { by = λ place x e. get_front all (Some v ∷ []) place (Some x) e }

pub pending_more : (env all : Env) (vars depth : ℕ) (v : Value) → Pending env all vars depth → Pending env (all ++ Some v ∷ []) vars (suc depth)
pending_more env all vars depth v h = record {
  variables = keeps_then env all _ h.variables (keeps_more all v);
  size = omega (arith, length-append all (Some v ∷ []), h.size);
}

pub places_fewer : (ns : List ℕ) (one two : Env) (regs : List ℤ) → Keeps one two → PlacesHold ns two regs → PlacesHold ns one regs
places_fewer ns one two regs h p = record { room = p.room; by = λ place v e. p.by place v (h.by place v e) }

pub places_more : (old new : List ℕ) (all : Env) (regs : List ℤ) → Extends old new → PlacesHold old all regs → PlacesHold new all regs
places_more old new all regs h p = record {
  room = p.room;
  by = λ place v e. (let it = p.by place v e in record { word = it.word; there = it.there; fits = fits_more old new v it.word h it.fits });
}

same_some : {A : Type 0} (x y : A) → Some x ≡ Some y → x ≡ y
same_some x y e = cc

-- a temporary is made behind all
pub places_made : (ns : List ℕ) (all : Env) (regs : List ℤ) (to : ℕ) (v : Value) (w : ℤ) → to ≡ length all → to < PLACES → Fits ns v w → PlacesHold ns all regs
    → PlacesHold ns (all ++ Some v ∷ []) (slice_set regs to w)
places_made ns all regs to v w last small fits p =
    let room = p.room in
    record { room = omega (arith, room, length_set regs to w); by = λ place x e. by place x e (same_or_other place to) }
  where
    by : (place : ℕ) (x : Value) → slice_get (all ++ Some v ∷ []) place ≡ Some (Some x) → (place ≡ to) ⊎ (place ≢ to) → HasWord ns (slice_set regs to w) place x
    by place x e (inl same) =
        let here : slice_get (all ++ Some v ∷ []) place ≡ Some (Some v) = get_last all (Some v) place (same ∙ last) in
        let is : v ≡ x = same_some v x (same_some (Some v) (Some x) (sym here ∙ e)) in
        let room = p.room in
        record {
          word = w;
          there = ap (slice_get (slice_set regs to w)) same ∙ get_set regs to w (omega (arith, room, small));
          fits = subst (λ y. Fits ns y w) is fits;
        }
    by place x e (inr other) =
        let it = p.by place x (get_earlier all (Some v) place (Some x) (λ s. other (s ∙ sym last)) e) in
        record { word = it.word; there = get_set_other regs to place w other ∙ it.there; fits = it.fits }

-- a variable is set
pub places_set : (ns : List ℕ) (all : Env) (regs : List ℤ) (x : ℕ) (v : Value) (w : ℤ) → x < length all → x < PLACES → Fits ns v w → PlacesHold ns all regs
    → PlacesHold ns (slice_set all x (Some v)) (slice_set regs x w)
places_set ns all regs x v w there small fits p =
    let room = p.room in
    record { room = omega (arith, room, length_set regs x w); by = λ place y e. by place y e (same_or_other place x) }
  where
    by : (place : ℕ) (y : Value) → slice_get (slice_set all x (Some v)) place ≡ Some (Some y) → (place ≡ x) ⊎ (place ≢ x) → HasWord ns (slice_set regs x w) place y
    by place y e (inl same) =
        let here : slice_get (slice_set all x (Some v)) place ≡ Some (Some v) = ap (slice_get (slice_set all x (Some v))) same ∙ get_set all x (Some v) there in
        let is : v ≡ y = same_some v y (same_some (Some v) (Some y) (sym here ∙ e)) in
        let room = p.room in
        record {
          word = w;
          there = ap (slice_get (slice_set regs x w)) same ∙ get_set regs x w (omega (arith, room, small));
          fits = subst (λ z. Fits ns z w) is fits;
        }
    by place y e (inr other) =
        let it = p.by place y (sym (get_set_other all x place (Some v) other) ∙ e) in
        record { word = it.word; there = get_set_other regs x place w other ∙ it.there; fits = it.fits }

-- ---- words that are read

-- the values are in these places
abbrev pub AtPlaces : Env → List ℕ → List Value → Type 0
AtPlaces all places vs = AllZip (λ place v. slice_get all place ≡ Some (Some v)) places vs

pub record ReadsWords (ns : List ℕ) (regs : List ℤ) (places : List ℕ) (vs : List Value) : Type 0 where
  pub words : List ℤ
  pub there : words_in regs places ≡ Some words
  pub fit : AllZip (Fits ns) vs words

pub words_read : (ns : List ℕ) (all : Env) (regs : List ℤ) (places : List ℕ) (vs : List Value) → PlacesHold ns all regs → AtPlaces all places vs
    → ReadsWords ns regs places vs
unfolding words_in
words_read ns all regs [] [] p at = record { words = []; there = refl; fit = tt }
words_read ns all regs [] (v ∷ vs) p at = absurd at
words_read ns all regs (place ∷ places) [] p at = absurd at
words_read ns all regs (place ∷ places) (v ∷ vs) p at =
    let it = p.by place v at.0 in
    let rest = words_read ns all regs places vs p at.1 in
    record {
      words = it.word ∷ rest.words;
      there = ap (λ o. with_word o (words_in regs places)) it.there ∙ ap (λ o. with_word (Some it.word) o) rest.there;
      fit = (it.fits, rest.fit);
    }

pub at_places_keep : (one two : Env) (places : List ℕ) (vs : List Value) → Keeps one two → AtPlaces one places vs → AtPlaces two places vs
at_places_keep one two [] [] h at = tt
at_places_keep one two [] (v ∷ vs) h at = absurd at
at_places_keep one two (place ∷ places) [] h at = absurd at
at_places_keep one two (place ∷ places) (v ∷ vs) h at = (h.by place v at.0, at_places_keep one two places vs h at.1)
