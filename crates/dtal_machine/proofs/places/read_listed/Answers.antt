use Rattle.std.proofs.Common.{◌≡◌, ◌∙◌, ap, suc, length, ◌-◌, ◌++◌, ◌∷◌, [], ℤ, FitsSigned, w64, rules, arith}
use Rattle.std.proofs.lemmas.Int.{to_z-of_z}
use Rattle.dtal_machine.proofs.ListedWords.{next_read}
use Rattle.dtal_machine.proofs.places.read_listed.Goals as goal

pub each-preserved : goal.each-preserved
each-preserved c =
    let one : c.each.left ≡ suc (c.each.left - 1) = omega arith in
    let fits : FitsSigned w64 c.word.result = search rules in
    let pushed = c.push.ensures.items ∙ ap (λ (w : ℤ). c.each.words.items ++ w ∷ []) (to_z-of_z w64 c.word.result fits) in
    record {
      words = next_read c.args.top.now c.each.words.items c.push.new.self.items _ c.each.left (c.each.left - 1) c.each.rest c.word.result one c.each.invariant.words c.word.ensures pushed;
      count = let n = c.push.ensures.len in omega (arith, ap length c.push.ensures.items);
    }
