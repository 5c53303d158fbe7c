-- One name more in the set of names, whose keys are references.
use Rattle.std.proofs.Common.{◌≡◌, ◌∙◌, ℕ, Bool, true, false, cond, not, ◌||◌, List, [], ◌∷◌, ◌++◌, map, refl, sym, ap, Bor}
use Rattle.std.specs.Prelude.{bytes_eq}
use Rattle.std.specs.List.{list_any}
use Rattle.std.proofs.lemmas.List.{map-append}
use Rattle.dtal_verifier.specs.Views.{IsAdded}

abbrev pub names_of : List (Bor (List ℕ)) → List (List ℕ)
names_of keys = map (λ key. key.now) keys

seen_any : (p : List ℕ → Bool) (keys : List (Bor (List ℕ))) → list_any p (names_of keys) ≡ list_any (λ key. p key.now) keys
seen_any p [] = refl
seen_any p (key ∷ keys) = ap (λ b. p key.now || b) (seen_any p keys)

module _ (key : Bor (List ℕ)) (keys : List (Bor (List ℕ))) (before : List (List ℕ)) (seen : names_of keys ≡ before) where
  abbrev is_known : Bool
  is_known = list_any (λ other. bytes_eq key.now other.now) keys

  by_known : (b is_new : Bool) → is_new ≡ not b → names_of (cond b keys (keys ++ (key ∷ []))) ≡ cond is_new (before ++ (key.now ∷ [])) before
  by_known true is_new e = seen ∙ ap (λ n. cond n (before ++ (key.now ∷ [])) before) (sym e)
  by_known false is_new e =
      map-append (λ k. k.now) keys (key ∷ []) ∙ ap (λ ns. ns ++ (key.now ∷ [])) seen ∙ ap (λ n. cond n (before ++ (key.now ∷ [])) before) (sym e)

  pub added_so : (is_new : Bool) → is_new ≡ not is_known → (new : List (Bor (List ℕ))) → new ≡ cond is_known keys (keys ++ (key ∷ []))
      → IsAdded before key.now is_new (names_of new)
  added_so is_new same new made = record {
    new = same ∙ ap not (sym (seen_any (bytes_eq key.now) keys) ∙ ap (λ ns. list_any (bytes_eq key.now) ns) seen);
    behind = ap names_of made ∙ by_known is_known is_new same;
  }
