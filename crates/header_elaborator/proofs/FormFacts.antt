-- Forms of a core, as calls of `xan_lin` make them.
use Rattle.std.proofs.Common.{◌≡◌, ◌∙◌, ℕ, suc, ◌<◌, ◌≤◌, ℤ, List, [], ◌∷◌, map, length, false, Result, Err, sym, ap, subst}
use Rattle.std.proofs.lemmas.List.{length-map}
use Rattle.xan_lin.specs.Linear.{Linear, is_within, all_within, sized, form_of}
use Rattle.xan_lin.specs.Terms.{IsRising}
use Rattle.xan_lin.specs.declared.term.Term.{Term}
use Rattle.xan_lin.specs.declared.term.TooLarge.{TooLarge}
use Rattle.xan_lin.specs.declared.term.TooLarge.TheVariants.{Terms, Magnitude}
use Rattle.xan_lin.proofs.Booleans.{first_false, second_false}
use Rattle.xan_lin.proofs.FormSizes.{sized-large, sized-many}
use Rattle.xan_lin.proofs.TermSums.{sum-none}
use Rattle.xanadu_tree.specs.IndexRules.{AreRising}
use Rattle.typed_core.specs.Forms.{term_of}

-- ---- forms of a core

pub rising-terms : (low : ℕ) (ts : List (ℤ × ℕ)) → AreRising low ts → IsRising low (map term_of ts)
rising-terms low [] r = tt
rising-terms low (t ∷ ts) r = (r.0, r.1, rising-terms (suc t.1) ts r.2)

-- ---- numbers of any size

pub narrow_many : (ts : List (ℤ × ℕ)) (n : ℤ) → 16 < length ts → sized (map term_of ts) n ≡ Err Terms
narrow_many ts n h = sized-many (map term_of ts) n (subst (λ k. 16 < k) (sym (length-map ts term_of)) h)

pub narrow_large_terms : (ts : List (ℤ × ℕ)) (n : ℤ) → length ts ≤ 16 → all_within (map term_of ts) ≡ false → sized (map term_of ts) n ≡ Err Magnitude
narrow_large_terms ts n h e = sized-large (map term_of ts) n (subst (λ k. k ≤ 16) (sym (length-map ts term_of)) h) (first_false (all_within (map term_of ts)) (is_within n) e)

pub narrow_large_constant : (ts : List (ℤ × ℕ)) (n : ℤ) → length ts ≤ 16 → is_within n ≡ false → sized (map term_of ts) n ≡ Err Magnitude
narrow_large_constant ts n h e = sized-large (map term_of ts) n (subst (λ k. k ≤ 16) (sym (length-map ts term_of)) h) (second_false (all_within (map term_of ts)) (is_within n) e)

pub narrow_made : (ts : List (ℤ × ℕ)) (terms : List Term) (n constant : ℤ) (answer : Result Linear TooLarge) → answer ≡ form_of terms constant → terms ≡ map term_of ts
    → constant ≡ n → AreRising 0 ts → answer ≡ sized (map term_of ts) n
narrow_made ts terms n constant answer is these same rising =
    is ∙ ap (λ us. form_of us constant) these ∙ ap (λ us. sized us constant) (sum-none 0 (map term_of ts) (rising-terms 0 ts rising)) ∙ ap (λ c. sized (map term_of ts) c) same
