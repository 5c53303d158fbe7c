-- Rows of a context state themselves: added in order to no rows, each is one more.
use Rattle.std.proofs.Common.{◌≡◌, ◌∙◌, ℕ, ◌<◌, ◌≤◌, cond, List, [], ◌∷◌, ◌++◌, map, length, Bool as Truth, true, false, Result, Ok, Err, refl, ap, arith, length-append}
use Rattle.std.specs.Prelude.{nat_le}
use Rattle.std.specs.List.{AllByRecursion}
use Rattle.std.proofs.lemmas.Bool.Decides.{nat_tests}
use Rattle.index_sorts.specs.Context.{IndexContext}
use Rattle.index_sorts.specs.Known.{knows, with_row}
use Rattle.index_sorts.specs.declared.error.ContextError.{ContextError}
use Rattle.index_sorts.specs.declared.error.ContextError.TheVariants as context_error
use Rattle.xan_lin.specs.Linear.{Linear, IsForm}
use Rattle.xan_lin.specs.declared.term.TooLarge.{TooLarge}
use Rattle.xan_lin.proofs.Booleans.{not_less}
use Rattle.state_types.specs.Answers.{◌>>=◌}
use Rattle.state_types.specs.Unpacking.{with_rows}
use Rattle.operation_rules.specs.Applied as rules
use Rattle.operation_rules.specs.Applied.{all_assuming}
use Rattle.three_address.specs.Typing.{stated}
use Rattle.typed_core.specs.Growth.{Continues}
use Rattle.typed_core.proofs.Continued.{Goes, no_more, one_more, more_again}
use Rattle.typed_core.proofs.LimitedAnswers.{then_answers, weaker}
use Rattle.carrier_laws.proofs.RulesKept.{IsFormIfAny}

abbrev context : ℕ → List Linear → IndexContext
context vars rows = record { vars = vars; rows = rows }

-- whatever the variables are
pub record StandAgain (rows : List Linear) : Type 0 where
  pub is : (vars : ℕ) → all_assuming (map Ok rows) (record { vars = vars; rows = [] }) ≡ Ok (record { vars = vars; rows = rows })
  pub few : length rows ≤ 512

-- they are forms too
pub record AreSound (rows : List Linear) : Type 0 where
  pub stand : StandAgain rows
  pub forms : AllByRecursion IsForm rows

pub none_sound : AreSound []
unfolding all_assuming
none_sound = record { stand = record { is = λ vars. refl; few = omega arith }; forms = tt }

assuming_on : (xs ys : List (Result Linear TooLarge)) (ctx : IndexContext) → all_assuming (xs ++ ys) ctx ≡ (all_assuming xs ctx >>= (λ more. all_assuming ys more))
unfolding all_assuming
assuming_on [] ys ctx = refl
assuming_on (x ∷ xs) ys ctx = by_first (rules.assuming x ctx) (λ more. assuming_on xs ys more)
  where
    by_first : (m : Result IndexContext ContextError) → ((more : IndexContext) → all_assuming (xs ++ ys) more ≡ (all_assuming xs more >>= (λ end. all_assuming ys end)))
        → (m >>= (λ more. all_assuming (xs ++ ys) more)) ≡ ((m >>= (λ more. all_assuming xs more)) >>= (λ more. all_assuming ys more))
    by_first (Ok more) later = later more
    by_first (Err why) later = refl

map_on : (xs : List Linear) (y : Linear) → map Ok (xs ++ y ∷ []) ≡ (let zs : List (Result Linear TooLarge) = map Ok xs ++ Ok y ∷ [] in zs)
map_on [] y = refl
map_on (x ∷ xs) y = ap (λ zs. (let r : Result Linear TooLarge = Ok x in r) ∷ zs) (map_on xs y)

all_with : (P : Linear → Type 0) (xs : List Linear) (y : Linear) → AllByRecursion P xs → P y → AllByRecursion P (xs ++ y ∷ [])
all_with P [] y all p = (p, tt)
all_with P (x ∷ xs) y all p = (all.0, all_with P xs y all.1 p)

-- a context behind another
pub record Behind (ctx more : IndexContext) : Type 0 where
  pub vars : more.vars ≡ ctx.vars
  pub rows : Continues ctx.rows more.rows
  pub sound : AreSound more.rows

module _ (ctx : IndexContext) (row : Linear) (is : IsForm row) (sound : AreSound ctx.rows) where
  one_more_stands : knows ctx row ≡ false → nat_le 512 (length ctx.rows) ≡ false → StandAgain (ctx.rows ++ row ∷ [])
  unfolding all_assuming with_row knows
  one_more_stands unknown few = record {
    is = λ vars.
        ap (λ xs. all_assuming xs (context vars [])) (map_on ctx.rows row) ∙ assuming_on (map Ok ctx.rows) (Ok row ∷ []) (context vars [])
        ∙ ap (λ m. m >>= (λ more. all_assuming (Ok row ∷ []) more)) (sound.stand.is vars)
        ∙ ap (λ b. cond b (let r : Result IndexContext ContextError = Ok (context vars ctx.rows) in r)
        (cond (nat_le 512 (length ctx.rows)) (Err context_error.Rows) (Ok (context vars (ctx.rows ++ row ∷ [])))) >>= (λ more. all_assuming [] more)) unknown
        ∙ ap (λ b. cond b (let r : Result IndexContext ContextError = Err context_error.Rows in r) (Ok (context vars (ctx.rows ++ row ∷ []))) >>= (λ more. all_assuming [] more)) few;
    few = (let m = length-append ctx.rows (row ∷ []) in let h = less few in omega (arith, m, h));
  }
    where
      less : nat_le 512 (length ctx.rows) ≡ false → length ctx.rows < 512
      less e = grind (arith, nat_tests)

  row_by : (b c : Truth) → knows ctx row ≡ b → nat_le 512 (length ctx.rows) ≡ c
      → Goes (Behind ctx) (cond b (let x : Result IndexContext ContextError = Ok ctx in x) (cond c (Err context_error.Rows) (Ok (record ctx { rows = ctx.rows ++ row ∷ [] }))))
  row_by true c known few = record { is = record { vars = refl; rows = no_more ctx.rows; sound = sound } }
  row_by false true known few = record { is = tt }
  row_by false false known few = record {
    is = record {
      vars = refl;
      rows = one_more ctx.rows row;
      sound = record { stand = one_more_stands known few; forms = all_with IsForm ctx.rows row sound.forms is };
    };
  }

  pub row_stands : Goes (Behind ctx) (with_row ctx row)
  unfolding with_row
  row_stands = row_by (knows ctx row) (nat_le 512 (length ctx.rows)) refl refl

pub behind_on : (a b c : IndexContext) → Behind a b → Behind b c → Behind a c
behind_on a b c one two = record { vars = two.vars ∙ one.vars; rows = more_again a.rows b.rows c.rows one.rows two.rows; sound = two.sound }

one_assumed : (row : Result Linear TooLarge) (ctx : IndexContext) → IsFormIfAny row → AreSound ctx.rows → Goes (Behind ctx) (rules.assuming row ctx)
one_assumed (Ok row) ctx is sound = row_stands ctx row is sound
one_assumed (Err why) ctx is sound = record { is = record { vars = refl; rows = no_more ctx.rows; sound = sound } }

pub assumed_stand : (rows : List (Result Linear TooLarge)) (ctx : IndexContext) → AllByRecursion IsFormIfAny rows → AreSound ctx.rows → Goes (Behind ctx) (all_assuming rows ctx)
unfolding all_assuming
assumed_stand [] ctx all sound = record { is = record { vars = refl; rows = no_more ctx.rows; sound = sound } }
assumed_stand (row ∷ rows) ctx all sound =
    then_answers (rules.assuming row ctx) _ (one_assumed row ctx all.0 sound)
    (λ more b. weaker (all_assuming rows more) (λ end c. behind_on ctx more end b c) (assumed_stand rows more all.1 b.sound))

pub with_rows_stand : (rows : List Linear) (ctx : IndexContext) → AllByRecursion IsForm rows → AreSound ctx.rows → Goes (Behind ctx) (with_rows ctx rows)
unfolding with_rows
with_rows_stand [] ctx all sound = record { is = record { vars = refl; rows = no_more ctx.rows; sound = sound } }
with_rows_stand (row ∷ rows) ctx all sound =
    then_answers (with_row ctx row) _ (row_stands ctx row all.0 sound)
    (λ more b. weaker (with_rows more rows) (λ end c. behind_on ctx more end b c) (with_rows_stand rows more all.1 b.sound))

-- the state of a label is stated by its variables and rows
pub states_itself : (ctx : IndexContext) → StandAgain ctx.rows → ctx.vars ≤ 1024 → stated ctx.vars ctx.rows ≡ Ok ctx
unfolding stated
states_itself ctx stand few =
    ap (λ b. cond b (let r : Result IndexContext ContextError = Err context_error.Variables in r) (Ok (context ctx.vars [])) >>= (λ start. all_assuming (map Ok ctx.rows) start))
    (not_less 1024 ctx.vars few) ∙ stand.is ctx.vars
