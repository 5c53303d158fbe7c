-- Signs of coefficients, bit by bit, and what they say of the terms of a row.
use Rattle.std.proofs.Common.{◌≡◌, ◌≢◌, ℕ, zero, suc, ◌+◌, ◌-◌, ◌^◌, ◌<◌, ◌≤◌, ◌==◌, ℤ, pos, negsuc, Bool, true, false, cond, ◌&&◌, not, int_lt, nat_lt, List, [], ◌∷◌, length, take, drop, get_or, refl, sym, ◌∙◌, ap, subst, w64, arith}
use Rattle.std.specs.Int.{bit_at}
use Rattle.std.specs.Ordering.{int_eq}
use Rattle.std.proofs.lemmas.Bool.Decides.{Decides-int_eq, nat_tests}
use Rattle.std.proofs.lemmas.Nat.Bits.{bit_at-zero, bit_at_set_same, bit_at_set_other, bit_at_above, same_from_bits}
use Rattle.xan_lin.specs.Terms.{IsRising, with_multiple}
use Rattle.xan_lin.specs.declared.term.Term.{Term}
use Rattle.xan_lin.proofs.Booleans.{less, is_less}
use Rattle.index_sorts.specs.Known.{no_terms}
use Rattle.proof_lines.proofs.Different.{equals_itself}
use Rattle.solver_rows.specs.declared.side.Side.{Side}
use Rattle.solver_rows.specs.declared.signs.Signs.{Signs}
use Rattle.solver_rows.specs.declared.source.Sign.{Sign}
use Rattle.solver_rows.specs.declared.source.Sign.TheVariants.{Positive, Negative, Zero}
use Rattle.solver_rows.specs.SystemRows.{Row, coefficient, is_sign, same_terms}
use Rattle.solver_rows.specs.Signing.{bit_of, with_bit, AreSigns, sign_at, no_signs, same_signs}
use Rattle.solver_rows.specs.RowsInCells.{AreRising, sparse, linear_in, spread_cells, IsSigned, AreSignsIn}
use Rattle.solver_rows.proofs.Sparse.{sparse-rising, sparse-coefficient}
use Rattle.solver_rows.proofs.SameTerms.{equal_terms}

-- ---- one number more

taken_same : (xs : List ℤ) (c k : ℕ) (d : ℤ) → k ≢ c → get_or (take (c + 1) xs) k d ≡ get_or (take c xs) k d
taken_same xs c k d h = let next : c + 1 ≡ suc c = omega arith in ap (λ n. get_or (take n xs) k d) next ∙ go xs c k h
  where
    go : (xs : List ℤ) (c k : ℕ) → k ≢ c → get_or (take (suc c) xs) k d ≡ get_or (take c xs) k d
    go [] zero k h = refl
    go [] (suc c) k h = refl
    go (x ∷ xs) zero zero h = absurd (h refl)
    go (x ∷ xs) zero (suc k) h = nothing xs k
      where
        nothing : (xs : List ℤ) (k : ℕ) → get_or (take zero xs) k d ≡ d
        nothing [] k = refl
        nothing (x ∷ xs) k = refl
    go (x ∷ xs) (suc c) zero h = refl
    go (x ∷ xs) (suc c) (suc k) h = go xs c k (λ e. h (ap suc e))

taken_here : (xs : List ℤ) (c : ℕ) (d : ℤ) → c < length xs → get_or (take (c + 1) xs) c d ≡ get_or xs c d
taken_here xs c d h = let next : c + 1 ≡ suc c = omega arith in ap (λ n. get_or (take n xs) c d) next ∙ go xs c h
  where
    go : (xs : List ℤ) (c : ℕ) → c < length xs → get_or (take (suc c) xs) c d ≡ get_or xs c d
    go [] c h = absurd (omega arith)
    go (x ∷ xs) zero h = refl
    go (x ∷ xs) (suc c) h = go xs c (omega arith)

taken_past : (xs : List ℤ) (c : ℕ) (d : ℤ) → get_or (take c xs) c d ≡ d
taken_past [] zero d = refl
taken_past [] (suc c) d = refl
taken_past (x ∷ xs) zero d = refl
taken_past (x ∷ xs) (suc c) d = taken_past xs c d

-- the bits with one more, where it was none
with_more : (p : ℤ → Bool) (old new : ℕ) (xs : List ℤ) (c : ℕ) (x : ℤ) → p (pos 0) ≡ false → ((k : ℕ) → bit_at old k ≡ bit_of (p (get_or (take c xs) k (pos 0)))) → c < 64 → c < length xs
    → x ≡ get_or xs c (pos 0) → new ≡ with_bit (p x) old c → (k : ℕ) → bit_at new k ≡ bit_of (p (get_or (take (c + 1) xs) k (pos 0)))
with_more p old new xs c x none bits h live is change k = ap (λ n. bit_at n k) change ∙ by_place (k == c) refl
  where
    here : (b : Bool) → p x ≡ b → bit_at (with_bit b old c) c ≡ bit_of b
    here true e = bit_at_set_same w64 old c h
    here false e = bits c ∙ ap (λ n. bit_of (p n)) (taken_past xs c (pos 0)) ∙ ap bit_of none

    there : (b : Bool) → k ≢ c → bit_at (with_bit b old c) k ≡ bit_at old k
    there true apart = bit_at_set_other w64 old c h k apart
    there false apart = refl

    by_place : (b : Bool) → (k == c) ≡ b → bit_at (with_bit (p x) old c) k ≡ bit_of (p (get_or (take (c + 1) xs) k (pos 0)))
    by_place true e =
        let same : k ≡ c = grind (arith, nat_tests) in
        ap (bit_at (with_bit (p x) old c)) same ∙ here (p x) refl ∙ ap (λ n. bit_of (p n)) (is ∙ sym (taken_here xs c (pos 0) live))
        ∙ ap (λ j. bit_of (p (get_or (take (c + 1) xs) j (pos 0)))) (sym same)
    by_place false e =
        let apart : k ≢ c = λ f. let g = e in grind (arith, nat_tests) in
        there (p x) apart ∙ bits k ∙ ap (λ n. bit_of (p n)) (sym (taken_same xs c k (pos 0) apart))

pub signs_more : (old new : Signs) (xs : List ℤ) (c : ℕ) (x : ℤ) → AreSigns old (take c xs) → c < 64 → c < length xs → x ≡ get_or xs c (pos 0)
    → new.positive ≡ with_bit (int_lt (pos 0) x) old.positive c → new.negative ≡ with_bit (int_lt x (pos 0)) old.negative c → AreSigns new (take (c + 1) xs)
signs_more old new xs c x a h live is positive negative = record {
  positive = with_more (int_lt (pos 0)) old.positive new.positive xs c x refl a.positive h live is positive;
  negative = with_more (λ n. int_lt n (pos 0)) old.negative new.negative xs c x refl a.negative h live is negative;
}

pub signs_begin : (s : Signs) (xs : List ℤ) → s.positive ≡ 0 → s.negative ≡ 0 → AreSigns s (take 0 xs)
signs_begin s xs p n = record {
  positive = λ k. ap (λ m. bit_at m k) p ∙ bit_at-zero k ∙ ap (λ c. bit_of (int_lt (pos 0) c)) (sym (none xs k));
  negative = λ k. ap (λ m. bit_at m k) n ∙ bit_at-zero k ∙ ap (λ c. bit_of (int_lt c (pos 0))) (sym (none xs k));
}
  where
    none : (xs : List ℤ) (k : ℕ) → get_or (take 0 xs) k (pos 0) ≡ pos 0
    none [] k = refl
    none (x ∷ xs) k = refl

-- ---- the coefficients of terms

front-none : (v : ℕ) (vars : List ℕ) (ts : List Term) → IsRising (suc v) ts → spread_cells (v ∷ vars) ts ≡ pos 0 ∷ spread_cells vars ts
unfolding spread_cells
front-none v vars [] r = refl
front-none v vars (t ∷ ts) r =
    let other : (t.var == v) ≡ false = (let first = r.0 in grind (arith, nat_tests)) in
    ap (λ b. cond b t.coef (pos 0) ∷ spread_cells vars (cond b ts (t ∷ ts))) other

front-there : (vars : List ℕ) (t : Term) (ts : List Term) → spread_cells (t.var ∷ vars) (t ∷ ts) ≡ t.coef ∷ spread_cells vars ts
unfolding spread_cells
front-there vars t ts = ap (λ b. cond b t.coef (pos 0) ∷ spread_cells vars (cond b ts (t ∷ ts))) (equals_itself t.var)

spread-cons : (v : ℕ) (vars : List ℕ) (c : ℤ) (ts : List Term) → IsRising (suc v) ts → spread_cells (v ∷ vars) (with_multiple v c ts) ≡ c ∷ spread_cells vars ts
spread-cons v vars (pos zero) ts r = front-none v vars ts r
spread-cons v vars (pos (suc n)) ts r = front-there vars (record { var = v; coef = pos (suc n) }) ts
spread-cons v vars (negsuc n) ts r = front-there vars (record { var = v; coef = negsuc n }) ts

pub spread-sparse : (low : ℕ) (vars : List ℕ) (cells : List ℤ) → AreRising low vars → length cells ≡ length vars → spread_cells vars (sparse vars cells) ≡ cells
unfolding spread_cells sparse
spread-sparse low [] [] r e = refl
spread-sparse low [] (c ∷ cells) r e = absurd (omega arith)
spread-sparse low (v ∷ vars) [] r e = absurd (omega arith)
spread-sparse low (v ∷ vars) (c ∷ cells) r e =
    spread-cons v vars c (sparse vars cells) (sparse-rising (suc v) vars cells r.1) ∙ ap (λ cs. c ∷ cs) (spread-sparse (suc v) vars cells r.1 (omega arith))

pub no-cells : (vars : List ℕ) (k : ℕ) → get_or (spread_cells vars []) k (pos 0) ≡ pos 0
unfolding spread_cells
no-cells [] k = refl
no-cells (v ∷ vars) zero = refl
no-cells (v ∷ vars) (suc k) = no-cells vars k

get-spread : (low : ℕ) (vars : List ℕ) (cells : List ℤ) (k : ℕ) → AreRising low vars → k < length vars → get_or (spread_cells vars (sparse vars cells)) k (pos 0) ≡ get_or cells k (pos 0)
unfolding sparse
get-spread low [] cells k r h = absurd (omega arith)
get-spread low (v ∷ vars) [] k r h = no-cells (v ∷ vars) k
get-spread low (v ∷ vars) (c ∷ cells) zero r h = ap (λ cs. get_or cs zero (pos 0)) (spread-cons v vars c (sparse vars cells) (sparse-rising (suc v) vars cells r.1))
get-spread low (v ∷ vars) (c ∷ cells) (suc k) r h =
    ap (λ cs. get_or cs (suc k) (pos 0)) (spread-cons v vars c (sparse vars cells) (sparse-rising (suc v) vars cells r.1))
    ∙ get-spread (suc v) vars cells k r.1 (omega arith)

none_if : (low : ℕ) (vars : List ℕ) (cells : List ℤ) → AreRising low vars → ((k : ℕ) → get_or (spread_cells vars (sparse vars cells)) k (pos 0) ≡ pos 0) → sparse vars cells ≡ []
unfolding sparse
none_if low [] cells r h = refl
none_if low (v ∷ vars) [] r h = refl
none_if low (v ∷ vars) (c ∷ cells) r h =
    let cons = spread-cons v vars c (sparse vars cells) (sparse-rising (suc v) vars cells r.1) in
    ap (λ n. with_multiple v n (sparse vars cells)) (ap (λ cs. get_or cs zero (pos 0)) (sym cons) ∙ h zero)
    ∙ none_if (suc v) vars cells r.1 (λ k. ap (λ cs. get_or cs (suc k) (pos 0)) (sym cons) ∙ h (suc k))

-- ---- what signs say

bit_says : (n : ℕ) (b : Bool) → n ≡ bit_of b → (n == 1) ≡ b
bit_says n true e = ap (λ k. k == 1) e
bit_says n false e = ap (λ k. k == 1) e

nonzero : (n : ℤ) → n ≢ pos 0 → int_eq n (pos 0) ≡ false
nonzero n h = go (int_eq n (pos 0)) refl
  where
    go : (b : Bool) → int_eq n (pos 0) ≡ b → b ≡ false
    go true e = absurd (h ((Decides-int_eq n (pos 0)).0 e))
    go false e = refl

above : (n : ℕ) → int_lt (pos 0) (pos (suc n)) ≡ true
above n = less 0 (suc n) (omega arith)

neither : (n : ℤ) → (not (int_lt (pos 0) n) && not (int_lt n (pos 0))) ≡ int_eq n (pos 0)
neither (pos zero) = refl
neither (pos (suc n)) = ap (λ b. not b && not (int_lt (pos (suc n)) (pos 0))) (above n) ∙ sym (nonzero (pos (suc n)) (λ e. cc))
neither (negsuc n) = refl

no_bits : (n : ℕ) → ((k : ℕ) → bit_at n k ≡ 0) → n ≡ 0
no_bits n h = same_from_bits n 0 (λ k. h k ∙ sym (bit_at-zero k))

clash : true ≡ false → ⊥
clash e = cc

neither_sign : (n : ℤ) → int_lt (pos 0) n ≡ false → int_lt n (pos 0) ≡ false → n ≡ pos 0
neither_sign (pos zero) e f = refl
neither_sign (pos (suc n)) e f = absurd (clash (sym (above n) ∙ e))
neither_sign (negsuc n) e f = absurd (clash f)

unset : (b : Bool) → 0 ≡ bit_of b → b ≡ false
unset true e = absurd (omega arith)
unset false e = refl

module _ (vars : List ℕ) (cells : List ℤ) (s : Signs) (r : AreRising 0 vars) (a : AreSigns s (spread_cells vars (sparse vars cells))) where
  pub sign_says : (sign : Sign) (column : ℕ) → column < length vars → sign_at sign s column ≡ is_sign sign (coefficient (get_or vars column 0) (sparse vars cells))
  sign_says Positive column h = bit_says _ _ (a.positive column) ∙ ap (int_lt (pos 0)) (get-spread 0 vars cells column r h ∙ sparse-coefficient 0 vars cells column 0 r h)
  sign_says Negative column h = bit_says _ _ (a.negative column) ∙ ap (λ n. int_lt n (pos 0)) (get-spread 0 vars cells column r h ∙ sparse-coefficient 0 vars cells column 0 r h)
  sign_says Zero column h =
      ap (λ b. not b && not (bit_at s.negative column == 1)) (bit_says _ _ (a.positive column))
      ∙ ap (λ b. not (int_lt (pos 0) (get_or (spread_cells vars (sparse vars cells)) column (pos 0))) && not b) (bit_says _ _ (a.negative column))
      ∙ neither (get_or (spread_cells vars (sparse vars cells)) column (pos 0))
      ∙ ap (λ n. int_eq n (pos 0)) (get-spread 0 vars cells column r h ∙ sparse-coefficient 0 vars cells column 0 r h)

  pub none_says : no_signs s ≡ no_terms (sparse vars cells)
  none_says = go (no_signs s) refl (sparse vars cells) refl
    where
      both_none : (p n : Bool) → (p && n) ≡ true → (p ≡ true) × (n ≡ true)
      both_none true true e = (refl, refl)
      both_none true false e = cc
      both_none false n e = cc

      number : (n : ℕ) → (n == 0) ≡ true → n ≡ 0
      number n e = grind (arith, nat_tests)

      go : (b : Bool) → no_signs s ≡ b → (ts : List Term) → sparse vars cells ≡ ts → no_signs s ≡ no_terms (sparse vars cells)
      go true e ts f =
          let parts = both_none (s.positive == 0) (s.negative == 0) e in
          let p : (k : ℕ) → 0 ≡ bit_of (int_lt (pos 0) (get_or (spread_cells vars (sparse vars cells)) k (pos 0))) =
          λ k. sym (bit_at-zero k) ∙ ap (λ m. bit_at m k) (sym (number s.positive parts.0)) ∙ a.positive k in
          let n : (k : ℕ) → 0 ≡ bit_of (int_lt (get_or (spread_cells vars (sparse vars cells)) k (pos 0)) (pos 0)) =
          λ k. sym (bit_at-zero k) ∙ ap (λ m. bit_at m k) (sym (number s.negative parts.1)) ∙ a.negative k in
          e ∙ ap no_terms (sym (none_if 0 vars cells r (λ k. neither_sign _ (unset _ (p k)) (unset _ (n k)))))
      go false e [] f =
          let cell : (k : ℕ) → get_or (spread_cells vars (sparse vars cells)) k (pos 0) ≡ pos 0 = λ k. ap (λ us. get_or (spread_cells vars us) k (pos 0)) f ∙ no-cells vars k in
          ap (λ p. (p == 0) && (s.negative == 0)) (no_bits s.positive (λ k. a.positive k ∙ ap (λ n. bit_of (int_lt (pos 0) n)) (cell k)))
          ∙ ap (λ n. n == 0) (no_bits s.negative (λ k. a.negative k ∙ ap (λ n. bit_of (int_lt n (pos 0))) (cell k)))
          ∙ ap no_terms (sym f)
      go false e (t ∷ ts) f = e ∙ ap no_terms (sym f)

pub signs_in : (vars : List ℕ) (cells : List ℤ) (s : Signs) (row : Row) → AreRising 0 vars → row.terms ≡ sparse vars cells → AreSigns s (spread_cells vars row.terms) → AreSignsIn vars s row
signs_in vars cells s row r is a =
    let b : AreSigns s (spread_cells vars (sparse vars cells)) = subst (λ (ts : List Term). AreSigns s (spread_cells vars ts)) is a in
    record {
      sign = λ sign column h. sign_says vars cells s r b sign column h ∙ ap (λ ts. is_sign sign (coefficient (get_or vars column 0) ts)) (sym is);
      none = none_says vars cells s r b ∙ ap no_terms (sym is);
    }

-- ---- different signs are of different coefficients

pub signs_differ : (s t : Signs) (vars : List ℕ) (ts us : List Term) (b : Bool) → AreSigns s (spread_cells vars ts) → AreSigns t (spread_cells vars us) → b ≡ same_signs s t → b ≡ false
    → same_terms ts us ≡ false
signs_differ s t vars ts us b a c is e = go (same_terms ts us) refl
  where
    equal : (m n : ℕ) → m ≡ n → (m == n) ≡ true
    equal m n f = ap (λ k. m == k) (sym f) ∙ equals_itself m

    go : (d : Bool) → same_terms ts us ≡ d → d ≡ false
    go false f = refl
    go true f =
        let same : ts ≡ us = equal_terms ts us f in
        let p : s.positive ≡ t.positive =
        same_from_bits s.positive t.positive (λ k. a.positive k ∙ ap (λ vs. bit_of (int_lt (pos 0) (get_or (spread_cells vars vs) k (pos 0)))) same ∙ sym (c.positive k)) in
        let n : s.negative ≡ t.negative =
        same_from_bits s.negative t.negative (λ k. a.negative k ∙ ap (λ vs. bit_of (int_lt (get_or (spread_cells vars vs) k (pos 0)) (pos 0))) same ∙ sym (c.negative k)) in
        sym (ap (λ x. x && (s.negative == t.negative)) (equal s.positive t.positive p) ∙ equal s.negative t.negative n) ∙ sym is ∙ e

-- ---- beside rows

-- the cells of a row in the making
pub signed_as : (vars : List ℕ) (cells read : List ℤ) (s : Signs) → AreRising 0 vars → length cells ≡ length vars + 1 → read ≡ drop 1 cells → AreSigns s read
    → AreSigns s (spread_cells vars (linear_in vars cells).terms)
signed_as vars [] read s r wide is a = absurd (omega arith)
signed_as vars (c ∷ cells) read s r wide is a = subst (AreSigns s) (is ∙ sym (spread-sparse 0 vars cells r (omega arith))) a

pub none_in : (vars : List ℕ) (cells : List ℤ) (side : Side) → AreRising 0 vars → length cells ≡ length vars + 1 → IsSigned vars cells side → no_signs side.signs ≡ no_terms (linear_in vars cells).terms
none_in vars [] side r wide a = absurd (omega arith)
none_in vars (c ∷ cells) side r wide a = none_says vars cells side.signs r a

-- ---- the first of some columns from one on

pub column_few : (columns rest from k : ℕ) → columns < 2 ^ 64 → ((j : ℕ) → bit_at rest j ≡ bit_at columns (from + j)) → bit_at rest k ≡ 1 → from + k < 64
column_few columns rest from k small same there = go (nat_lt (from + k) 64) refl
  where
    go : (b : Bool) → nat_lt (from + k) 64 ≡ b → from + k < 64
    go true e = is_less (from + k) 64 e
    go false e = let past : 64 ≤ from + k = grind (arith, nat_tests) in absurd (omega (arith, there, same k, bit_at_above columns 64 (from + k) small past))

pub column_none : (columns rest from column : ℕ) → ((j : ℕ) → bit_at rest j ≡ bit_at columns (from + j)) → from ≤ column → bit_at rest (column - from) ≡ 0 → bit_at columns column ≡ 0
column_none columns rest from column same h none =
    let at : column ≡ from + (column - from) = omega arith in ap (bit_at columns) at ∙ sym (same (column - from)) ∙ none
