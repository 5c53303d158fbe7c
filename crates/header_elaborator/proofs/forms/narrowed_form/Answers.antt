use Rattle.std.proofs.Common.{◌≡◌, ◌∙◌, map, false, sym, rules, arith, w64, FitsSigned}
use Rattle.std.proofs.lemmas.Int.{to_z-of_z}
use Rattle.typed_core.specs.Forms.{term_of}
use Rattle.xan_lin.specs.Linear.{all_within, is_within}
use Rattle.header_elaborator.proofs.FormFacts.{narrow_many, narrow_large_terms, narrow_large_constant, narrow_made}
use Rattle.header_elaborator.proofs.forms.narrowed_form.Goals as goal

pub returns-then-terms-gt-MOST_TERMS : goal.returns-then-terms-gt-MOST_TERMS
returns-then-terms-gt-MOST_TERMS c = sym (narrow_many c.args.terms.now c.args.constant.now (omega arith))

pub returns-in_default : goal.returns-in_default
returns-in_default c =
    let e : all_within (map term_of c.args.terms.now) ≡ false = search rules in
    sym (narrow_large_terms c.args.terms.now c.args.constant.now (omega arith) e)

pub returns-in_default-narrowed : goal.returns-in_default-narrowed
returns-in_default-narrowed c =
    let e : is_within c.args.constant.now ≡ false = search rules in
    sym (narrow_large_constant c.args.terms.now c.args.constant.now (omega arith) e)

pub returns : goal.returns
returns c =
    let these : c.as_slice.result.now ≡ map term_of c.args.terms.now = search rules in
    let fits : FitsSigned w64 c.in-Some-narrowed.constant = search rules in
    let found : c.in-Some-narrowed.constant ≡ c.args.constant.now = search rules in
    narrow_made c.args.terms.now c.as_slice.result.now c.args.constant.now _ c.from_terms.result c.from_terms.ensures these
    (to_z-of_z w64 c.in-Some-narrowed.constant fits ∙ found) c.requires
