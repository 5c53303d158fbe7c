-- A machine that comes to each outcome of another one, no sooner, follows what that one follows.
use Rattle.std.proofs.Common.{◌≡◌, ◌∙◌, ℕ, ◌≤◌, arith}
use Rattle.xan_io.specs.Agreement.{Follows}
use Rattle.xan_io.specs.Outcome.{Outcome}

pub follows_further : (low text : ℕ → Outcome) → ((m : ℕ) → (k : ℕ) × (m ≤ k) × (text k ≡ low m)) → (n : ℕ) (o : Outcome) → Follows low n o → Follows text n o
follows_further low text later n o f =
    let it = later f.steps in
    record {
      steps = it.0;
      same = it.2 ∙ f.same;
      as_long = λ running. (let enough = f.as_long running in let le = it.1 in omega (arith, enough, le));
    }
