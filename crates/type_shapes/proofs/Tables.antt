-- The names of a table, as code keeps them by reference.
use Rattle.std.proofs.Common.{◌≡◌, ◌∙◌, ℕ, ◌+◌, Bool, true, false, cond, not, ◌||◌, List, [], ◌∷◌, ◌++◌, map, length, position, Some, None, Ok, nat_lt, refl, sym, ap, Bor, Option}
use Rattle.std.specs.Prelude.{bytes_eq}
use Rattle.std.specs.List.{list_any, prefix_len}
use Rattle.std.proofs.lemmas.List.{length-map, map-append}
use Rattle.xanadu_tree.specs.declared.tree.declaration.Identifier.{Identifier}
use Rattle.type_shapes.specs.declared.error.ShapeKind.TheVariants.{NamedTwice}
use Rattle.type_shapes.specs.Faults.{Check, fault}
use Rattle.type_shapes.specs.Names.{Table, added}

abbrev pub names_of : List (Bor (List ℕ)) → Table
names_of keys = map (λ key. key.now) keys

prefix_len-seen : (p : List ℕ → Bool) (keys : List (Bor (List ℕ))) → prefix_len (λ name. not (p name)) (names_of keys) ≡ prefix_len (λ key. not (p key.now)) keys
prefix_len-seen p [] = refl
prefix_len-seen p (key ∷ keys) = ap (λ n. cond (not (p key.now)) (1 + n) 0) (prefix_len-seen p keys)

abbrev found : ℕ → ℕ → Option ℕ
found at count = cond (nat_lt at count) (Some at) None

pub position-seen : (p : List ℕ → Bool) (keys : List (Bor (List ℕ))) → position p (names_of keys) ≡ position (λ key. p key.now) keys
position-seen p keys =
    ap (λ n. found n (length (names_of keys))) (prefix_len-seen p keys)
    ∙ ap (λ n. found (prefix_len (λ key. not (p key.now)) keys) n) (length-map keys (λ key. key.now))

list_any-seen : (p : List ℕ → Bool) (keys : List (Bor (List ℕ))) → list_any p (names_of keys) ≡ list_any (λ key. p key.now) keys
list_any-seen p [] = refl
list_any-seen p (key ∷ keys) = ap (λ b. p key.now || b) (list_any-seen p keys)

-- ---- one name more

abbrev answer : Bool → Identifier → Table → Check Table
answer b name table = cond b (fault NamedTwice name.at) (Ok (table ++ (name.name ∷ [])))

fresh : (t b : Bool) → t ≡ true → t ≡ not b → b ≡ false
fresh t true is same = sym is ∙ same
fresh t false is same = refl

known : (t b : Bool) → t ≡ false → t ≡ not b → b ≡ true
known t true is same = refl
known t false is same = sym is ∙ same

module _ (name : Identifier) (key : Bor (List ℕ)) (keys : List (Bor (List ℕ))) (table : Table) where
  abbrev is_known : Bool
  is_known = list_any (λ other. bytes_eq key.now other.now) keys

  looked_up : names_of keys ≡ table → key.now ≡ name.name → list_any (bytes_eq name.name) table ≡ is_known
  looked_up seen named = sym (ap (λ ns. list_any (bytes_eq name.name) ns) seen) ∙ sym (ap (λ n. list_any (bytes_eq n) (names_of keys)) named) ∙ list_any-seen (bytes_eq key.now) keys

  pub added-new : names_of keys ≡ table → key.now ≡ name.name → (t : Bool) → t ≡ true → t ≡ not is_known →
      (new : List (Bor (List ℕ))) → new ≡ cond is_known keys (keys ++ (key ∷ [])) → added name table ≡ Ok (names_of new)
  unfolding added
  added-new seen named t is same new made =
      let no_name : is_known ≡ false = fresh t is_known is same in
      let all : new ≡ keys ++ (key ∷ []) = made ∙ ap (λ b. cond b keys (keys ++ (key ∷ []))) no_name in
      ap (λ b. answer b name table) (looked_up seen named ∙ no_name)
      ∙ ap Ok (sym (ap names_of all ∙ map-append (λ k. k.now) keys (key ∷ []) ∙ ap (λ ns. ns ++ (key.now ∷ [])) seen ∙ ap (λ n. table ++ (n ∷ [])) named))

  pub added-twice : names_of keys ≡ table → key.now ≡ name.name → (t : Bool) → t ≡ false → t ≡ not is_known → added name table ≡ fault NamedTwice name.at
  unfolding added
  added-twice seen named t is same = ap (λ b. answer b name table) (looked_up seen named ∙ known t is_known is same)
