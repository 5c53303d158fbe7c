-- A program with its place in a slot: fun main(x: int): int { return x; }. Its homes keep places apart, and so its emitted runs follow.
use Rattle.std.proofs.Common.{◌≡◌, ℕ, zero, suc, ◌+◌, ◌<◌, true, List, [], ◌∷◌, codes, Some, nat_lt, slice_get, refl, subst, arith}
use Rattle.std.specs.List.{Contains}
use Rattle.std.proofs.lemmas.Option.{none-some, same_Some}
use Rattle.xan_io.specs.declared.arg.Arg.{Arg}
use Rattle.operation_rules.specs.declared.operation.Operation.TheVariants.{Return}
use Rattle.three_address.specs.Entry.{low_entry}
use Rattle.three_address.specs.Flow.{label_at, instruction_at, reads_at}
use Rattle.three_address.specs.Instructions.{instruction_of}
use Rattle.three_address.specs.declared.assignment.Assignment.{Assignment}
use Rattle.three_address.specs.declared.function.LowFun.{LowFun}
use Rattle.three_address.specs.declared.instruction.LowInstr.{LowInstr}
use Rattle.three_address.specs.declared.instruction.Op22.TheVariants as op
use Rattle.three_address.specs.declared.typed.Edge.{Edge}
use Rattle.three_address.specs.declared.typed.Typed.{Typed}
use Rattle.three_address.proofs.LowSources.{number_sig, plain}
use Rattle.dtal_code.specs.Runs.{program_run}
use Rattle.dtal_emit.specs.Emitted.{emitted}
use Rattle.dtal_emit.specs.Homes.{home_of}
use Rattle.emission_laws.specs.ApartHomes.{IsReady, IsReadyFun, AreSlots, Rise}
use Rattle.emission_laws.specs.FollowedRuns.{main_number, IsReadyAt, AreReady, RunsFollow}
use Rattle.emission_laws.proofs.ProgramsFollow.{program_follows}
use Rattle.emission_laws.proofs.SlotsApart.{slots_apart}

abbrev pub gives_back : LowInstr
gives_back = plain op.Ret (0 ∷ [])

abbrev pub same_fun : LowFun
same_fun = record { name = codes "main"; sig = number_sig; places = 1; code = gives_back ∷ []; labels = [] }

abbrev pub no_edge : Edge
no_edge = record { values = []; by = [] }

abbrev identity : Typed
identity = record { low = record { funs = same_fun ∷ []; table = []; main = 0 }; states = [] ∷ []; edges = (no_edge ∷ []) ∷ [] }

abbrev pub in_slot : Assignment
in_slot = record { homes = (16 ∷ []) ∷ [] }

pub one_slot : AreSlots (16 ∷ []) 1
one_slot = record { as_many = refl; few = omega arith; each = each_slot }
  where
    each_slot : (place : ℕ) → place < 1 → home_of (16 ∷ []) place ≡ 16 + place
    each_slot zero h = refl
    each_slot (suc place) h = absurd (omega (arith, h))

pub reads_small : (at place : ℕ) → Contains (reads_at same_fun at) place → place < 1
unfolding reads_at instruction_at instruction_of
reads_small zero place (zero, lt, e) = omega (arith, e)
reads_small zero place (suc k, lt, e) = absurd (omega (arith, lt))
reads_small (suc at) place (k, lt, e) = absurd (omega (arith, lt))

return_ready : IsReady (same_fun ∷ []) gives_back
unfolding instruction_of
return_ready = record {
  form = record { operation = Return; writes = []; reads = 0 ∷ [] };
  is_form = refl;
  few_written = omega arith;
  few_read = omega arith;
  named = λ e. absurd (let bad : ⊥ = cc in bad);
  calls = λ number callee e f. absurd (let bad : ⊥ = cc in bad);
}

fun_ready : IsReadyFun (same_fun ∷ []) same_fun 0 (no_edge ∷ [])
unfolding Rise
fun_ready = record { few_params = omega arith; instrs = each_ready; edge_each = refl; label_each = omega arith; rise = tt; within = no_label }
  where
    each_ready : (at : ℕ) (instr : LowInstr) → slice_get (gives_back ∷ []) at ≡ Some instr → IsReady (same_fun ∷ []) instr
    each_ready zero instr e = subst (IsReady (same_fun ∷ [])) (same_Some gives_back instr e) return_ready
    each_ready (suc at) instr e = absurd (none-some instr e)

    no_label : (label at : ℕ) → label_at [] label ≡ Some at → at < 1
    no_label zero at e = absurd (none-some at e)
    no_label (suc before) at e = absurd (none-some at e)

is_ready : AreReady identity in_slot (λ number at place. nat_lt place 1 ≡ true)
unfolding main_number
is_ready = record { each = each_fun; main_is = refl }
  where
    same_ready : IsReadyAt identity in_slot 0 same_fun (λ at place. nat_lt place 1 ≡ true)
    same_ready = record {
      labels = [];
      edges = no_edge ∷ [];
      own = 16 ∷ [];
      labels_there = refl;
      edges_there = refl;
      homes_there = refl;
      ready = fun_ready;
      apart = slots_apart same_fun (16 ∷ []) one_slot reads_small;
    }

    each_fun : (number : ℕ) (fun : LowFun) → slice_get (same_fun ∷ []) number ≡ Some fun → IsReadyAt identity in_slot number fun (λ at place. nat_lt place 1 ≡ true)
    each_fun zero fun e = subst (λ f. IsReadyAt identity in_slot 0 f (λ at place. nat_lt place 1 ≡ true)) (same_Some same_fun fun e) same_ready
    each_fun (suc number) fun e = absurd (none-some fun e)

pub identity_follows : (args : List Arg) (heap depth : ℕ) → RunsFollow (low_entry identity.low args heap depth) (program_run (emitted identity in_slot) args heap depth)
identity_follows args heap depth = program_follows identity in_slot (λ number at place. nat_lt place 1 ≡ true) is_ready args heap depth
