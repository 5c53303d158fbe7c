-- The loop over the parts of a form, one part at a time, and the form that comes of it.
use Rattle.std.proofs.Common.{◌≡◌, ℕ, suc, ◌+◌, ◌-◌, ◌<◌, ◌≤◌, ℤ, List, [], ◌∷◌, ◌++◌, length, Result, Ok, Err, refl, sym, ap, ◌∙◌, append_assoc, arith}
use Rattle.std.proofs.lemmas.List.{append-nil}
use Rattle.xan_lin.specs.Linear.{Linear, is_within, all_within, sized, form_of, bound}
use Rattle.xan_lin.specs.declared.term.Term.{Term}
use Rattle.xan_lin.specs.declared.term.TooLarge.{TooLarge}
use Rattle.xan_lin.proofs.TermSums.{sum-none}
use Rattle.xan_lin.proofs.FormSizes.{sized-fits}
use Rattle.xan_read.specs.Reader.{Read, ◌>>=◌}
use Rattle.xan_read.specs.Integers.{signed}
use Rattle.proof_lines.specs.declared.form_text.Part.{Part}
use Rattle.proof_lines.specs.declared.form_text.Part.TheVariants as part
use Rattle.proof_lines.specs.Reading.{form_part, with_front, form, onto_form}
use Rattle.proof_lines.proofs.Proper.{join}
use Rattle.proof_lines.proofs.Forms.{exact-form}

pub record Reading (made : List Term) (counter low : ℕ) (rest bytes : List ℕ) : Type 0 where
  pub same : onto_form made (form (16 - counter) low rest) ≡ onto_form [] (form 16 0 bytes)
  pub few : length made ≤ counter

pub onto_none : (read : Read Linear) → onto_form [] read ≡ read
onto_none (Ok x) = refl
onto_none (Err n) = refl

regroup : (made : List Term) (t : Term) (read : Read Linear) → onto_form made (read >>= λ x. Ok (with_front t x.0, x.1)) ≡ onto_form (made ++ t ∷ []) read
regroup made t (Ok x) = ap (λ ts. let f : Linear = record { terms = ts; constant = x.0.constant } in let r : Read Linear = Ok (f, x.1) in r) (sym (append_assoc made (t ∷ []) x.0.terms))
regroup made t (Err n) = refl

ended : (made : List Term) (z : ℤ) (others : List ℕ)
    → (let f : Linear = record { terms = made ++ []; constant = z } in let r : Read Linear = Ok (f, others) in r)
    ≡ (let f : Linear = record { terms = made; constant = z } in let r : Read Linear = Ok (f, others) in r)
ended made z others = ap (λ ts. let f : Linear = record { terms = ts; constant = z } in let r : Read Linear = Ok (f, others) in r) (append-nil made)

term_more : (made : List Term) (t : Term) (left fewer low next : ℕ) (rest others : List ℕ) (total : Read Linear) → left ≡ suc fewer → next ≡ suc t.var
    → form_part low rest ≡ Ok (part.Term t, others) → onto_form made (form left low rest) ≡ total → onto_form (made ++ t ∷ []) (form fewer next others) ≡ total
unfolding form
term_more made t left fewer low next rest others total e0 e1 e2 so_far =
    let one : onto_form made (form left low rest) ≡ onto_form (made ++ t ∷ []) (form fewer next others) = rw (e0, e1, e2) (regroup made t (form fewer (suc t.var) others)) in
    sym one ∙ so_far

pub part_term : (made new : List Term) (t : Term) (counter low next : ℕ) (rest others bytes : List ℕ) → Reading made counter low rest bytes → counter < 16
    → next ≡ suc t.var → form_part low rest ≡ Ok (part.Term t, others) → new ≡ made ++ t ∷ [] → length new ≡ length made + 1 → Reading new (counter + 1) next others bytes
part_term made new t counter low next rest others bytes r h e1 e2 change longer =
    let few = r.few in
    record {
      same = ap (λ ts. onto_form ts (form (16 - (counter + 1)) next others)) change
          ∙ term_more made t (16 - counter) (16 - (counter + 1)) low next rest others _ (omega arith) e1 e2 r.same;
      few = omega arith;
    }

constant_comes : (made : List Term) (z : ℤ) (left fewer low : ℕ) (rest others : List ℕ) (total : Read Linear) → left ≡ suc fewer
    → form_part low rest ≡ Ok (part.Constant z, others) → onto_form made (form left low rest) ≡ total → total ≡ Ok (record { terms = made; constant = z }, others)
unfolding form
constant_comes made z left fewer low rest others total e0 e1 so_far =
    let one : onto_form made (form left low rest) ≡ Ok (record { terms = made; constant = z }, others) = rw (e0, e1) (ended made z others) in
    sym so_far ∙ one

pub part_constant : (made : List Term) (z seen : ℤ) (counter low : ℕ) (rest others bytes : List ℕ) → Reading made counter low rest bytes → counter < 16 → seen ≡ z
    → form_part low rest ≡ Ok (part.Constant z, others) → form 16 0 bytes ≡ Ok (record { terms = made; constant = seen }, others)
part_constant made z seen counter low rest others bytes r h same e =
    sym (onto_none (form 16 0 bytes)) ∙ constant_comes made z (16 - counter) (16 - (counter + 1)) low rest others _ (omega arith) e r.same
    ∙ ap (λ n. let f : Linear = record { terms = made; constant = n } in let r : Read Linear = Ok (f, others) in r) (sym same)

fails : (made : List Term) (left fewer low n : ℕ) (rest : List ℕ) (total : Read Linear) → left ≡ suc fewer
    → form_part low rest ≡ Err n → onto_form made (form left low rest) ≡ total → total ≡ Err n
unfolding form
fails made left fewer low n rest total e0 e1 so_far =
    let one : onto_form made (form left low rest) ≡ Err n = rw (e0, e1) refl in
    sym so_far ∙ one

pub part_fails : (made : List Term) (counter low n : ℕ) (rest bytes : List ℕ) → Reading made counter low rest bytes → counter < 16
    → form_part low rest ≡ Err n → form 16 0 bytes ≡ Err n
part_fails made counter low n rest bytes r h e =
    sym (onto_none (form 16 0 bytes)) ∙ fails made (16 - counter) (16 - (counter + 1)) low n rest _ (omega arith) e r.same

full : (made : List Term) (z : ℤ) (left low : ℕ) (rest others : List ℕ) (total : Read Linear) → left ≡ 0
    → signed 0 bound rest ≡ Ok (z, others) → onto_form made (form left low rest) ≡ total → total ≡ Ok (record { terms = made; constant = z }, others)
unfolding form
full made z left low rest others total e0 e1 so_far =
    let one : onto_form made (form left low rest) ≡ Ok (record { terms = made; constant = z }, others) = rw (e0, e1) (ended made z others) in
    sym so_far ∙ one

pub last_constant : (made : List Term) (z seen : ℤ) (counter low : ℕ) (rest others bytes : List ℕ) → Reading made counter low rest bytes → 16 ≤ counter → seen ≡ z
    → signed 0 bound rest ≡ Ok (z, others) → form 16 0 bytes ≡ Ok (record { terms = made; constant = seen }, others)
last_constant made z seen counter low rest others bytes r h same e =
    sym (onto_none (form 16 0 bytes)) ∙ full made z (16 - counter) low rest others _ (omega arith) e r.same
    ∙ ap (λ n. let f : Linear = record { terms = made; constant = n } in let r : Read Linear = Ok (f, others) in r) (sym same)

full_fails : (made : List Term) (left low n : ℕ) (rest : List ℕ) (total : Read Linear) → left ≡ 0
    → signed 0 bound rest ≡ Err n → onto_form made (form left low rest) ≡ total → total ≡ Err n
unfolding form
full_fails made left low n rest total e0 e1 so_far =
    let one : onto_form made (form left low rest) ≡ Err n = rw (e0, e1) refl in
    sym so_far ∙ one

pub last_fails : (made : List Term) (counter low n : ℕ) (rest bytes : List ℕ) → Reading made counter low rest bytes → 16 ≤ counter
    → signed 0 bound rest ≡ Err n → form 16 0 bytes ≡ Err n
last_fails made counter low n rest bytes r h e =
    sym (onto_none (form 16 0 bytes)) ∙ full_fails made (16 - counter) low n rest _ (omega arith) e r.same

-- ---- the form

pub is_form : (terms ts : List Term) (constant seen : ℤ) (rest bytes : List ℕ) (answer : Result Linear TooLarge) → form 16 0 bytes ≡ Ok (record { terms = terms; constant = constant }, rest)
    → ts ≡ terms → seen ≡ constant → answer ≡ form_of ts seen → answer ≡ Ok (record { terms = terms; constant = constant })
is_form terms ts constant seen rest bytes answer read same_terms same e =
    let at = ((exact-form 16 0).found bytes (record { terms = terms; constant = constant }) rest read).is in
    e ∙ ap (λ us. form_of us seen) same_terms ∙ ap (λ n. form_of terms n) same ∙ ap (λ us. sized us constant) (sum-none 0 terms at.rising)
    ∙ sized-fits terms constant at.few (join (all_within terms) (is_within constant) at.small at.small_constant)

-- the form that was made is the one that was read
pub is_read : (made f : Linear) (rest bytes : List ℕ) (answer : Result Linear TooLarge) → form 16 0 bytes ≡ Ok (f, rest) → answer ≡ Ok f → answer ≡ Ok made → form 16 0 bytes ≡ Ok (made, rest)
is_read made f rest bytes answer read e g =
    let same : f ≡ made = cc in
    read ∙ ap (λ x. let r : Read Linear = Ok (x, rest) in r) same

pub at_part : (r : Read Part) (p q : Part) (others : List ℕ) → r ≡ Ok (p, others) → p ≡ q → r ≡ Ok (q, others)
at_part r p q others e f = e ∙ ap (λ x. let a : Read Part = Ok (x, others) in a) f
