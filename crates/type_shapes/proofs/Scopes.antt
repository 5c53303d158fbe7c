-- Scopes as code keeps them: an index of what each name means now, and declarations with what their names meant before.
use Rattle.std.proofs.Common.{◌≡◌, ◌∙◌, ℕ, Bool, true, false, cond, List, [], ◌∷◌, ◌++◌, reverse, Option, Some, None, refl, sym, ap, subst}
use Rattle.std.specs.Prelude.{bytes_eq}
use Rattle.std.specs.Bool.{one_answer}
use Rattle.std.specs.Borrow.{Bor}
use Rattle.std.specs.HashMap.{HashMap, UpdatesBy}
use Rattle.std.specs.Map.{lookup}
use Rattle.std.proofs.lemmas.List.{reverse-append}
use Rattle.std.proofs.lemmas.Map.Text.{hash_map_updates_str}
use Rattle.std.proofs.lemmas.Slice.Eq.{bytes_eq-Decides}
use Rattle.type_shapes.specs.declared.scope.Declared.{Declared}
use Rattle.type_shapes.specs.Names.{Scope, meaning}
use Rattle.type_shapes.specs.ScopeOf.{seen, or_nothing, current, IsKept}

-- ---- names

same-symmetric : (a b : List ℕ) → bytes_eq a b ≡ bytes_eq b a
same-symmetric a b =
    let back = bytes_eq-Decides b a in
    one_answer _ _ (bytes_eq-Decides a b) ((λ t. sym (back.0 t)), (λ e. back.1 (sym e)))

meaning-behind : (name : List ℕ) (number : ℕ) (scope : Scope) (other : List ℕ) →
    cond (bytes_eq name other) (Some number) (meaning other scope) ≡ meaning other ((name, number) ∷ scope)
unfolding meaning
meaning-behind name number scope other = ap (λ b. cond b (Some number) (meaning other scope)) (same-symmetric name other)

-- ---- one declaration more, and one less

abbrev pub Index : Type 0 → Type 0
Index S = HashMap (Bor (List ℕ)) (Option ℕ) S

abbrev pub Sets : {S : Type 0} → List ℕ → (old new : Index S) → Option ℕ → Type 0
Sets name old new value = UpdatesBy (λ x y. bytes_eq x.now y.now) (λ k. bytes_eq name k.now) old new (Some value)

or_nothing-cond : (b : Bool) (value : Option ℕ) (before : Option (Option ℕ)) → or_nothing (cond b (Some value) before) ≡ cond b value (or_nothing before)
or_nothing-cond true value before = refl
or_nothing-cond false value before = refl

current-set : {S : Type 0} (name : List ℕ) (old new : Index S) (value : Option ℕ) → Sets name old new value →
    (other : List ℕ) → current other new.entries ≡ cond (bytes_eq name other) value (current other old.entries)
current-set name old new value sets other = ap or_nothing (hash_map_updates_str name old new (Some value) sets other) ∙ or_nothing-cond (bytes_eq name other) value (lookup (λ k. bytes_eq other k.now) old.entries)

kept-declared : {S : Type 0} (old new : Index S) (ds : List Declared) (d : Declared) → IsKept old.entries ds →
    d.before ≡ meaning d.name.now (seen ds) → Sets d.name.now old new (Some d.number) → IsKept new.entries (d ∷ ds)
kept-declared old new ds d kept before sets = record {
  now = λ other.
      current-set d.name.now old new (Some d.number) sets other
      ∙ ap (λ x. cond (bytes_eq d.name.now other) (Some d.number) x) (kept.now other)
      ∙ meaning-behind d.name.now d.number (seen ds) other;
  before = (before, kept.before);
}

restored : (b : Bool) (before it : Option ℕ) (number : ℕ) → (b ≡ true → before ≡ it) → cond b before (cond b (Some number) it) ≡ it
restored true before it number h = h refl
restored false before it number h = refl

kept-undone : {S : Type 0} (old new : Index S) (ds : List Declared) (d : Declared) → IsKept old.entries (d ∷ ds) →
    Sets d.name.now old new d.before → IsKept new.entries ds
kept-undone old new ds d kept sets = record {
  now = λ other.
      let same : bytes_eq d.name.now other ≡ true → d.before ≡ meaning other (seen ds) =
      λ t. kept.before.0 ∙ ap (λ n. meaning n (seen ds)) ((bytes_eq-Decides d.name.now other).0 t) in
      current-set d.name.now old new d.before sets other
      ∙ ap (λ x. cond (bytes_eq d.name.now other) d.before x) (kept.now other ∙ sym (meaning-behind d.name.now d.number (seen ds) other))
      ∙ restored (bytes_eq d.name.now other) d.before (meaning other (seen ds)) d.number same;
  before = kept.before.1;
}

-- a name that is declared is in the index
declared-present : (entries : List (Bor (List ℕ) × Option ℕ)) (ds : List Declared) (d : Declared) → IsKept entries (d ∷ ds) →
    lookup (λ k. bytes_eq d.name.now k.now) entries ≡ None → ⊥
declared-present entries ds d kept absent =
    let here : bytes_eq d.name.now d.name.now ≡ true = (bytes_eq-Decides d.name.now d.name.now).1 refl in
    let none : None ≡ Some d.number =
    sym (ap or_nothing absent) ∙ kept.now d.name.now ∙ sym (meaning-behind d.name.now d.number (seen ds) d.name.now)
    ∙ ap (λ b. cond b (Some d.number) (meaning d.name.now (seen ds))) here in
    cc

-- ---- the list of declarations, the latest last

latest : (ds : List Declared) (d : Declared) → reverse (ds ++ (d ∷ [])) ≡ d ∷ reverse ds
latest ds d = reverse-append ds (d ∷ [])

pub kept-none : (entries : List (Bor (List ℕ) × Option ℕ)) (items : List Declared) → entries ≡ [] → items ≡ [] → IsKept entries (reverse items)
unfolding meaning
kept-none entries items no_entry no_item =
    let kept : IsKept [] [] = record { now = λ name. refl; before = tt } in
    subst (λ es. IsKept es (reverse items)) (sym no_entry) (subst (λ ds. IsKept [] (reverse ds)) (sym no_item) kept)

pub kept-more : {S : Type 0} (old new : Index S) (items more : List Declared) (d : Declared) → more ≡ items ++ (d ∷ []) → IsKept old.entries (reverse items) →
    d.before ≡ meaning d.name.now (seen (reverse items)) → Sets d.name.now old new (Some d.number) → IsKept new.entries (reverse more)
kept-more old new items more d is kept before sets =
    subst (λ ds. IsKept new.entries ds) (sym (ap reverse is ∙ latest items d)) (kept-declared old new (reverse items) d kept before sets)

pub kept-less : {S : Type 0} (old new : Index S) (items rest : List Declared) (d : Declared) → items ≡ rest ++ (d ∷ []) → IsKept old.entries (reverse items) →
    Sets d.name.now old new d.before → IsKept new.entries (reverse rest)
kept-less old new items rest d is kept sets =
    kept-undone old new (reverse rest) d (subst (λ ds. IsKept old.entries ds) (ap reverse is ∙ latest rest d) kept) sets

pub latest-present : (entries : List (Bor (List ℕ) × Option ℕ)) (items rest : List Declared) (d : Declared) → items ≡ rest ++ (d ∷ []) → IsKept entries (reverse items) →
    lookup (λ k. bytes_eq d.name.now k.now) entries ≡ None → ⊥
latest-present entries items rest d is kept absent =
    declared-present entries (reverse rest) d (subst (λ ds. IsKept entries ds) (ap reverse is ∙ latest rest d) kept) absent
