-- Lines that are put in order by the homes of their places: those of one place come together, behind those of lower homes.
use Rattle.std.proofs.Common.{◌≡◌, ℕ, suc, ◌≤◌, true, false, List, [], ◌∷◌, ◌++◌, length, map, nat_le, refl, sym, ap, ◌∙◌, arith, append_assoc, append-nil, length-append}
use Rattle.std.proofs.lemmas.Bool.Decides.{nat_tests}
use Rattle.proof_lines.specs.declared.line.Line.{Line}
use Rattle.three_address.specs.declared.typed.ProvedRow.{ProvedRow}
use Rattle.dtal_emit.specs.Emitted.{rank, suc_if, count_before, inserted, ordered_from}
use Rattle.emission_laws.specs.EmittedRanges.{Each}

at_most : (r key : ℕ) → r ≤ key → nat_le r key ≡ true
at_most r key h = grind (arith, nat_tests)

not_at_most : (r key : ℕ) → suc key ≤ r → nat_le r key ≡ false
not_at_most r key h = grind (arith, nat_tests)

pub Each-append : {A : Type 0} (P : A → Type 0) (xs ys : List A) → Each P xs → Each P ys → Each P (xs ++ ys)
Each-append P [] ys a b = b
Each-append P (x ∷ xs) ys a b = (a.0, Each-append P xs ys a.1 b)

-- ---- one that is put among the others

count_front : (key : ℕ) (front back : List ℕ) → Each (λ r. r ≤ key) front → Each (λ r. suc key ≤ r) back → count_before key (front ++ back) ≡ length front
unfolding count_before
count_front key [] [] a b = refl
count_front key [] (r ∷ back) a b = ap (λ t. suc_if t (count_before key back)) (not_at_most r key b.0)
count_front key (r ∷ front) back a b =
    ap (λ t. suc_if t (count_before key (front ++ back))) (at_most r key a.0) ∙ ap suc (count_front key front back a.1 b)

inserted_at : {A : Type 0} (x : A) (front back : List A) → inserted (length front) x (front ++ back) ≡ front ++ x ∷ back
inserted_at x [] back = refl
inserted_at x (y ∷ front) back = ap (λ l. y ∷ l) (inserted_at x front back)

inserted_behind : {A : Type 0} (at : ℕ) (x : A) (front back : List A) → length front ≡ at → inserted at x (front ++ back) ≡ (front ++ x ∷ []) ++ back
inserted_behind at x front back e =
    ap (λ n. inserted n x (front ++ back)) (sym e) ∙ inserted_at x front back ∙ sym (append_assoc front (x ∷ []) back)

-- ---- several of one rank

module _ (homes : List ℕ) (key : ℕ) (back : List ℕ) (later : List (List Line)) (above : Each (λ r. suc key ≤ r) back) where
  one_run : (by : ProvedRow) (bys : List ProvedRow) (front : List ℕ) (made : List (List Line)) → rank homes by.place ≡ key → Each (λ r. r ≤ key) front
      → length made ≡ length front
      → ordered_from homes (by ∷ bys) (front ++ back) (made ++ later)
      ≡ ordered_from homes bys ((front ++ key ∷ []) ++ back) ((made ++ by.lines ∷ []) ++ later)
  unfolding ordered_from
  one_run by bys front made same below e =
      let with_rank : ℕ → List (List Line) =
      λ r. ordered_from homes bys (inserted (count_before r (front ++ back)) r (front ++ back)) (inserted (count_before r (front ++ back)) by.lines (made ++ later)) in
      let with_count : ℕ → List (List Line) = λ at. ordered_from homes bys (inserted at key (front ++ back)) (inserted at by.lines (made ++ later)) in
      ap with_rank same ∙ ap with_count (count_front key front back below above)
      ∙ ap (λ rs. ordered_from homes bys rs (inserted (length front) by.lines (made ++ later))) (inserted_behind (length front) key front back refl)
      ∙ ap (λ ls. ordered_from homes bys ((front ++ key ∷ []) ++ back) ls) (inserted_behind (length front) by.lines made later e)

  pub ordered_run : (bys rest : List ProvedRow) (front : List ℕ) (made : List (List Line)) → Each (λ (by : ProvedRow). rank homes by.place ≡ key) bys
      → Each (λ r. r ≤ key) front → length made ≡ length front
      → ordered_from homes (bys ++ rest) (front ++ back) (made ++ later)
      ≡ ordered_from homes rest ((front ++ map (λ (by : ProvedRow). key) bys) ++ back) ((made ++ map (λ (by : ProvedRow). by.lines) bys) ++ later)
  ordered_run [] rest front made same below e =
      ap (λ rs. ordered_from homes rest (rs ++ back) (made ++ later)) (sym (append-nil front))
      ∙ ap (λ ls. ordered_from homes rest ((front ++ []) ++ back) (ls ++ later)) (sym (append-nil made))
  ordered_run (by ∷ bys) rest front made same below e =
      let count : length (made ++ by.lines ∷ []) ≡ length (front ++ key ∷ []) =
      (let a = length-append made (by.lines ∷ []) in let b = length-append front (key ∷ []) in omega (arith, a, b, e)) in
      let itself : key ≤ key = omega arith in
      one_run by (bys ++ rest) front made same.0 below e
      ∙ ordered_run bys rest (front ++ key ∷ []) (made ++ by.lines ∷ []) same.1 (Each-append (λ r. r ≤ key) front (key ∷ []) below (itself, tt)) count
      ∙ ap (λ rs. ordered_from homes rest (rs ++ back) (((made ++ by.lines ∷ []) ++ map (λ (by : ProvedRow). by.lines) bys) ++ later))
      (append_assoc front (key ∷ []) (map (λ (by : ProvedRow). key) bys))
      ∙ ap (λ ls. ordered_from homes rest ((front ++ key ∷ map (λ (by : ProvedRow). key) bys) ++ back) (ls ++ later))
      (append_assoc made (by.lines ∷ []) (map (λ (by : ProvedRow). by.lines) bys))
