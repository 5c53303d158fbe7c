-- Typed instructions of the sum of an array, worked out by hand.
use Rattle.std.proofs.Common.{◌≡◌, ℕ, ◌<◌, ◌≤◌, ℤ, pos, negsuc, List, [], ◌∷◌, Some, None, Ok, refl, arith}
use Rattle.std.specs.List.{All}
use Rattle.std.proofs.lemmas.List.Elements.{All-nil, All-cons}
use Rattle.index_sorts.specs.Context.{IndexContext}
use Rattle.index_sorts.specs.Known.{knows, with_row}
use Rattle.xan_lin.specs.Linear.{Linear, NamesBelow, sized, variable_form, excess_of}
use Rattle.xan_lin.specs.Subst.{replacement, replaced_terms, replaced_constant}
use Rattle.xan_lin.specs.Terms.{sum_terms, plus_term}
use Rattle.state_types.specs.Matching.{pair_at, pair_of, index_rows, own_rows, differences}
use Rattle.state_types.specs.declared.state.StateType.{StateType}
use Rattle.state_types.specs.declared.types.Ty.{Ty}
use Rattle.state_types.specs.declared.types.Ty.TheVariants as ty
use Rattle.operation_rules.specs.Applied.{applied, widened, all_assuming, all_given, named, all_there, ruled}
use Rattle.operation_rules.specs.Rules.{rule, cell_at, loaded, two_numbers}
use Rattle.operation_rules.specs.declared.operation.Operation.TheVariants.{Branch, Jump, Load}
use Rattle.three_address.specs.Demands.{Demand, place_demands, places_demands, label_demands, AreProved, AllProved, IsKnown}
use Rattle.three_address.specs.Instructions.{instruction_of}
use Rattle.three_address.specs.Typing.{GoesTo, Allows, ruled_in, setting_of, with_types, state_of, stated}
use Rattle.three_address.specs.declared.typed.Edge.{Edge}
use Rattle.three_address.proofs.LowSources.{sum_program, sum_sig, jump, three, instr}
use Rattle.three_address.specs.declared.instruction.Op22.TheVariants as op

abbrev number : ℤ → Linear
number n = record { terms = []; constant = n }

-- v0 - v1, and n
abbrev ahead : ℤ → Linear
ahead n = record { terms = record { var = 0; coef = pos 1 } ∷ record { var = 1; coef = negsuc 0 } ∷ []; constant = n }

-- v1 - v0
abbrev reached : Linear
reached = record { terms = record { var = 0; coef = negsuc 0 } ∷ record { var = 1; coef = pos 1 } ∷ []; constant = pos 0 }

abbrev array_type : ℕ × Ty
array_type = (0, ty.Array 0 (variable_form 0))

abbrev loop_ctx : List Linear → IndexContext
loop_ctx more = record { vars = 3; rows = variable_form 0 ∷ variable_form 1 ∷ ahead (pos 0) ∷ more }

abbrev loop_places : List (ℕ × Ty) → List (ℕ × Ty)
loop_places more = array_type ∷ (1, ty.Int (variable_form 1)) ∷ (2, ty.Int (variable_form 2)) ∷ more

-- the states of the two labels: of the loop's head, and behind the loop, where the sum alone is live
abbrev labels : List StateType
labels = state_of (loop_ctx []) (loop_places []) ∷ state_of (loop_ctx (reached ∷ [])) ((2, ty.Int (variable_form 2)) ∷ []) ∷ []

small_and : (place : ℕ) (places : List ℕ) → place < 4 → All (λ p. p < 4) places → All (λ p. p < 4) (place ∷ places)
small_and place places lt others = All-cons (λ p. p < 4) place places lt others

-- the state in which `main` begins
begins : stated sum_sig.vars sum_sig.rows ≡ Ok (record { vars = 1; rows = variable_form 0 ∷ [] })
unfolding stated all_assuming with_row knows
begins = refl

-- ---- the way into the loop: the index and the sum are 0

abbrev before_loop : StateType
before_loop = state_of (record { vars = 1; rows = variable_form 0 ∷ [] }) (array_type ∷ (1, ty.Int (number (pos 0))) ∷ (2, ty.Int (number (pos 0))) ∷ [])

abbrev values : List (ℕ × Linear)
values = (1, number (pos 0)) ∷ (2, number (pos 0)) ∷ []

abbrev from_label : Linear → Demand
from_label row = record { place = None; row = row }

-- no place demands a row; the label's are 0 <= n, 0 <= 0 and 0 <= n
abbrev wanted : List Demand
wanted = from_label (variable_form 0) ∷ from_label (number (pos 0)) ∷ from_label (variable_form 0) ∷ []

enters_demands : label_demands before_loop (state_of (loop_ctx []) (loop_places [])) values ≡ Ok wanted
unfolding label_demands places_demands place_demands pair_at pair_of index_rows own_rows differences replacement replaced_terms replaced_constant sized sum_terms plus_term
enters_demands = refl

known : AreProved before_loop.ctx wanted []
unfolding knows
known = IsKnown _ _ _ refl (IsKnown _ _ _ refl (IsKnown _ _ _ refl AllProved))

abbrev IsListed : ℕ × Linear → Type 0
IsListed v = (1 ≤ v.0) × (v.0 < 3) × NamesBelow 1 v.1

abbrev enters : Edge
enters = record { values = values; by = [] }

goes_in : GoesTo sum_sig labels before_loop 1 enters
goes_in = record {
  before = 0;
  number = refl;
  target = state_of (loop_ctx []) (loop_places []);
  there = refl;
  reaches = record {
    rise = (omega arith, (omega arith, tt));
    listed = All-cons IsListed (1, number (pos 0)) ((2, number (pos 0)) ∷ []) (omega arith, omega arith, All-nil _) (All-cons IsListed (2, number (pos 0)) [] (omega arith, omega arith, All-nil _) (All-nil IsListed));
    demands = wanted;
    demanded = enters_demands;
    proved = known;
  };
}

jump_allowed : Allows (setting_of sum_program sum_sig) 4 labels before_loop (jump 1) enters None
unfolding instruction_of ruled_in ruled named all_there rule applied widened all_assuming all_given
jump_allowed = record {
  i = record { operation = Jump; writes = []; reads = [] };
  is = refl;
  small = All-nil _;
  differ = tt;
  types = [];
  read = refl;
  ruled = record { demands = []; ctx = before_loop.ctx; types = [] };
  by_rule = refl;
  leads = goes_in;
}

-- ---- a cell: 0 <= v1 and v1 < v0 are known, and the cell is a fresh number

abbrev in_loop : StateType
in_loop = state_of (loop_ctx (ahead (negsuc 0) ∷ [])) (loop_places ((3, ty.Int (variable_form 0)) ∷ []))

abbrev behind_load : StateType
behind_load = state_of (record { vars = 4; rows = in_loop.ctx.rows }) (loop_places ((3, ty.Int (variable_form 3)) ∷ []))

load_allowed : Allows (setting_of sum_program sum_sig) 4 labels in_loop (three op.Ld 3 0 1) (record { values = []; by = [] }) (Some behind_load)
unfolding instruction_of ruled_in ruled named all_there rule loaded cell_at applied widened all_assuming all_given excess_of sized sum_terms plus_term knows with_types
load_allowed = record {
  i = record { operation = Load; writes = 3 ∷ []; reads = 0 ∷ 1 ∷ [] };
  is = refl;
  small = small_and 3 (0 ∷ 1 ∷ []) (omega arith) (small_and 0 (1 ∷ []) (omega arith) (small_and 1 [] (omega arith) (All-nil _)));
  differ = (All-nil _, tt);
  types = ty.Array 0 (variable_form 0) ∷ ty.Int (variable_form 1) ∷ [];
  read = refl;
  ruled = record { demands = variable_form 1 ∷ ahead (negsuc 0) ∷ []; ctx = behind_load.ctx; types = ty.Int (variable_form 3) ∷ [] };
  by_rule = refl;
  leads = record { values = refl; proved = IsKnown _ _ _ refl (IsKnown _ _ _ refl AllProved); is_next = refl };
}

-- ---- the test of the loop: where the length is at most the index, on to label 2, which states the index and the length no more

abbrev at_test : StateType
at_test = state_of (loop_ctx []) (loop_places ((3, ty.Int (variable_form 0)) ∷ []))

abbrev leaving : Edge
leaving = record { values = []; by = [] }

leaves_demands : label_demands (state_of (loop_ctx (reached ∷ [])) at_test.places) (state_of (loop_ctx (reached ∷ [])) ((2, ty.Int (variable_form 2)) ∷ [])) []
    ≡ Ok (from_label (variable_form 0) ∷ from_label (variable_form 1) ∷ from_label (ahead (pos 0)) ∷ from_label reached ∷ [])
unfolding label_demands places_demands place_demands pair_at pair_of index_rows own_rows differences replacement replaced_terms replaced_constant sized sum_terms plus_term
leaves_demands = refl

branch_allowed : Allows (setting_of sum_program sum_sig) 4 labels at_test (instr op.Br (3 ∷ 1 ∷ []) (pos 1) 2) leaving (Some in_loop)
unfolding instruction_of ruled_in ruled named all_there rule two_numbers applied widened all_assuming all_given excess_of sized sum_terms plus_term with_row knows
branch_allowed = record {
  i = record { operation = Branch 1; writes = []; reads = 3 ∷ 1 ∷ [] };
  is = refl;
  small = small_and 3 (1 ∷ []) (omega arith) (small_and 1 [] (omega arith) (All-nil _));
  differ = tt;
  types = ty.Int (variable_form 0) ∷ ty.Int (variable_form 1) ∷ [];
  read = refl;
  ruled = record { demands = []; ctx = at_test.ctx; types = [] };
  by_rule = refl;
  leads = record {
    taken = loop_ctx (reached ∷ []);
    left = in_loop.ctx;
    takes = refl;
    leaves = refl;
    to = record {
      before = 1;
      number = refl;
      target = state_of (loop_ctx (reached ∷ [])) ((2, ty.Int (variable_form 2)) ∷ []);
      there = refl;
      reaches = record {
        rise = tt;
        listed = All-nil _;
        demands = from_label (variable_form 0) ∷ from_label (variable_form 1) ∷ from_label (ahead (pos 0)) ∷ from_label reached ∷ [];
        demanded = leaves_demands;
        proved = IsKnown _ _ _ refl (IsKnown _ _ _ refl (IsKnown _ _ _ refl (IsKnown _ _ _ refl AllProved)));
      };
    };
    is_next = refl;
  };
}
