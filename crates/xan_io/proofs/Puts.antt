-- What several calls of a sink wrote, one after the other.
use Rattle.std.proofs.Common.{◌≡◌, ℕ, ◌+◌, min, List, [], ◌++◌, length, take, None, Some, refl, sym, ap, ◌∙◌, append_assoc, append-nil, arith}
use Rattle.std.proofs.lemmas.Grind.{common_steps}
use Rattle.std.proofs.Math.Seq.{take-append-add}
use Rattle.std.specs.Prelude.{Option}
use Rattle.std.specs.Io.KnownBytes.{append_known}
use Rattle.xan_io.specs.Written.{AppendsPrefix}

pub append_known-nil : (told : Option (List ℕ)) → append_known told [] ≡ told
append_known-nil None = refl
append_known-nil (Some written) = ap (λ bytes. Some bytes) (append-nil written)

pub append_known-twice : (told : Option (List ℕ)) (front back : List ℕ)
    → append_known (append_known told front) back ≡ append_known told (front ++ back)
append_known-twice None front back = refl
append_known-twice (Some written) front back = ap (λ bytes. Some bytes) (append_assoc written front back)

take_within : (count : ℕ) (front back : List ℕ) → take (min count (length front)) (front ++ back) ≡ take count front
take_within count front back = grind (arith, common_steps)

-- after a call that wrote the front, a prefix of the back is one of the whole
pub prefix_behind : (told after : Option (List ℕ)) (front back : List ℕ)
    → AppendsPrefix (append_known told front) after back → AppendsPrefix told after (front ++ back)
prefix_behind told after front back prefix = record {
  count = length front + prefix.count;
  appended = prefix.appended ∙ append_known-twice told front _ ∙ ap (append_known told) (sym (take-append-add front back prefix.count));
}

-- where no more calls come, a prefix of the front is one of the whole
pub prefix_within : (told after : Option (List ℕ)) (front back : List ℕ)
    → AppendsPrefix told after front → AppendsPrefix told after (front ++ back)
prefix_within told after front back prefix = record {
  count = min prefix.count (length front);
  appended = prefix.appended ∙ ap (append_known told) (sym (take_within prefix.count front back));
}

-- for `#[tactic(auto, using(..))]` on a function that puts several times
pub ruleset puts = (append_known-nil, append_known-twice, prefix_behind, prefix_within)
