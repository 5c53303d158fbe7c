-- Lists, item by item, as the loop over them goes.
use Rattle.std.proofs.Common.{◌≡◌, ℕ, zero, suc, ◌-◌, ◌<◌, List, [], ◌∷◌, ◌++◌, Some, None, Ok, Err, refl, sym, ap, ◌∙◌, append_assoc, arith}
use Rattle.std.proofs.lemmas.List.{append-nil}
use Rattle.xan_read.specs.declared.fault.ReadError.{ReadError}
use Rattle.xan_read.specs.declared.fault.ReadError.TheVariants as errors
use Rattle.xan_read.specs.Reader.{Read, Reader, ◌>>=◌}
use Rattle.xan_read.specs.Combinators.{after, give, in_turn, behind, where_comes}
use Rattle.xan_read.specs.Lists.{repeated, separated, closed, onto}
use Rattle.xan_read.specs.Code.{Fails}

module _ {A : Type 0} (c : ℕ) (p : Reader A) where
  regroup : (made : List A) (x : A) (read : Read (List A)) → onto made (read >>= λ xs. Ok (x ∷ xs.0, xs.1)) ≡ onto (made ++ x ∷ []) read
  regroup made x (Ok xs) = ap (λ (ys : List A). Ok (ys, xs.1)) (sym (append_assoc made (x ∷ []) xs.0))
  regroup made x (Err n) = refl

  -- one item more
  pub item_more : (made : List A) (x : A) (left fewer : ℕ) (bytes behind others : List ℕ) (total : Read (List A)) → left ≡ suc fewer → Some behind ≡ after c bytes → p behind ≡ Ok (x, others)
      → onto made (repeated c left p bytes) ≡ total → onto (made ++ x ∷ []) (repeated c fewer p others) ≡ total
  unfolding repeated
  item_more made x left fewer bytes behind others total e1 e2 e3 so_far =
      let one : onto made (repeated c left p bytes) ≡ onto (made ++ x ∷ []) (repeated c fewer p others) = rw (e1, ← e2, e3) (regroup made x (repeated c fewer p others)) in
      sym one ∙ so_far

  -- an item that was not read
  pub item_fails : (e : ReadError) (made : List A) (left fewer : ℕ) (bytes behind : List ℕ) (total : Read (List A)) → left ≡ suc fewer → Some behind ≡ after c bytes → Fails e (p behind)
      → onto made (repeated c left p bytes) ≡ total → Fails e total
  unfolding repeated
  item_fails errors.Memory made left fewer bytes behind total e1 e2 e3 so_far = tt
  item_fails (errors.Fault fault) made left fewer bytes behind total e1 e2 e3 so_far =
      let one : onto made (repeated c left p bytes) ≡ Err fault.left = rw (e1, ← e2, e3) refl in
      sym so_far ∙ one

  -- no item more
  pub item_none : (made : List A) (left : ℕ) (bytes : List ℕ) (total : Read (List A)) → None ≡ after c bytes → onto made (repeated c left p bytes) ≡ total → total ≡ Ok (made, bytes)
  unfolding repeated
  item_none made zero bytes total e so_far = sym so_far ∙ ap (λ (ys : List A). Ok (ys, bytes)) (append-nil made)
  item_none made (suc left) bytes total e so_far =
      let one : onto made (repeated c (suc left) p bytes) ≡ Ok (made, bytes) = rw (← e) (ap (λ (ys : List A). Ok (ys, bytes)) (append-nil made)) in
      sym so_far ∙ one

  -- no room
  pub item_full : (made : List A) (left : ℕ) (bytes : List ℕ) (total : Read (List A)) → left ≡ 0 → onto made (repeated c left p bytes) ≡ total → total ≡ Ok (made, bytes)
  unfolding repeated
  item_full made left bytes total e so_far =
      let one : onto made (repeated c left p bytes) ≡ Ok (made, bytes) = rw e (ap (λ (ys : List A). Ok (ys, bytes)) (append-nil made)) in
      sym so_far ∙ one

  -- ---- the beginning and the end

  pub onto_none : (read : Read (List A)) → onto [] read ≡ read
  onto_none (Ok xs) = refl
  onto_none (Err n) = refl

  pub closed_empty : (end room : ℕ) (bytes : List ℕ) → room ≡ 0 → closed c end room p bytes ≡ behind (end ∷ []) (give []) bytes
  unfolding closed
  closed_empty end room bytes e = rw e refl

  pub closed_some : (end room : ℕ) (bytes : List ℕ) → 0 < room → closed c end room p bytes ≡ where_comes end (give []) (in_turn (separated c (room - 1) p) (λ xs. behind (end ∷ []) (give xs))) bytes
  unfolding closed
  closed_some end zero bytes h = absurd (omega arith)
  closed_some end (suc room) bytes h = let same : suc room - 1 ≡ room = omega arith in rw same refl
