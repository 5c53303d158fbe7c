use Rattle.std.proofs.Common.{arith, ◌∙◌, sym, subst, ap, ◌++◌, ◌∷◌, [], ◌%◌, ◌/◌, ◌-◌, append_assoc}
use Rattle.std.specs.List.{All}
use Rattle.std.proofs.lemmas.List.Elements.{All-nil, All-cons, All-append}
use Rattle.dtal_code.specs.Guessed.{bytes_in}
use Rattle.dtal_code.specs.Places.{IsPlace}
use Rattle.dtal_code.proofs.WordBytes.{next_byte}
use Rattle.dtal_code.proofs.decoding.listed.Goals as goal

pub bytes-preserved : goal.bytes-preserved
bytes-preserved c =
    let byte = c.bytes.rest % 256 in
    let next = next_byte c.bytes.left c.bytes.rest (omega arith) in
    let pushed = c.push.ensures.items in (
      ap (λ xs. xs ++ bytes_in (c.bytes.left - 1) (c.bytes.rest / 256)) pushed ∙ append_assoc c.bytes.made.items (byte ∷ []) (bytes_in (c.bytes.left - 1) (c.bytes.rest / 256))
          ∙ ap (λ ys. c.bytes.made.items ++ ys) (sym next) ∙ c.bytes.invariant.0,
      omega (arith, c.push.ensures.len, c.bytes.invariant.1),
      subst (All IsPlace) (sym pushed) (All-append IsPlace c.bytes.made.items (byte ∷ []) c.bytes.invariant.2 (All-cons IsPlace byte [] (omega arith) (All-nil IsPlace))),
    )
