-- When homes keep places apart: no place that is written shares its home with another one whose word is still wanted behind it.
use Rattle.std.specs.Prelude.{◌≡◌, ◌≢◌, ℕ, ◌^◌, ◌+◌, ◌<◌, ◌≤◌, pos, Bool, true, false, List, [], ◌∷◌, length, Some, slice_get, int_lt, ◌⊎◌}
use Rattle.std.specs.List.{Contains}
use Rattle.operation_rules.specs.declared.operation.Operation.TheVariants.{Call}
use Rattle.three_address.specs.Flow.{label_at, reads_at, writes_at, ways_from}
use Rattle.three_address.specs.Instructions.{Instruction, instruction_of}
use Rattle.three_address.specs.declared.function.LowFun.{LowFun}
use Rattle.three_address.specs.declared.instruction.LowInstr.{LowInstr}
use Rattle.three_address.specs.declared.instruction.Op22.{Op22}
use Rattle.three_address.specs.declared.instruction.Op22.TheVariants as low
use Rattle.three_address.specs.declared.typed.Edge.{Edge}
use Rattle.dtal_emit.specs.Homes.{home_of}

-- ---- homes

-- a place of an activation that is no scratch register
pub record IsHome (home : ℕ) : Type 0 where
  pub low : (13 ≤ home) → 16 ≤ home
  pub within : home < 256

-- Which places keep their words before each position: closed against the flow. What is live is the least such, all places are the greatest.
abbrev pub Kept : Type 1
Kept = (at place : ℕ) → Type 0

pub record AreApart (fun : LowFun) (homes : List ℕ) (kept : Kept) : Type 0 where
  pub homes_are : (place : ℕ) → IsHome (home_of homes place)
  -- what is read is kept, and what is kept behind an instruction that does not write it
  pub read : (at place : ℕ) → Contains (reads_at fun at) place → kept at place
  pub stays : (at next place : ℕ) → Contains (ways_from fun at) next → ¬ (Contains (writes_at fun at) place) → kept next place → kept at place
  -- a place that is written shares its home with no other that is kept behind
  pub apart : (at next written place : ℕ) → Contains (ways_from fun at) next → Contains (writes_at fun at) written → kept next place → written ≢ place
      → home_of homes written ≢ home_of homes place
  -- a function begins with its parameters in the first registers, and 0 in all other places
  pub begins : (place : ℕ) → kept 0 place → (home_of homes place ≡ place) ⊎ (16 ≤ home_of homes place)
  pub params_apart : (param place : ℕ) → param < length fun.sig.params → kept 0 place → param ≢ place → home_of homes param ≢ home_of homes place

-- ---- code that emission takes whole

abbrev pub names_type : Op22 → Bool
names_type low.New = true
names_type low.Tup = true
names_type low.Untup = true
names_type _ = false

-- a call has as many arguments as its function has parameters, at most
abbrev pub IsCallOf : List LowFun → Instruction → Type 0
IsCallOf funs i = (number : ℕ) (callee : LowFun) → i.operation ≡ Call number → slice_get funs number ≡ Some callee → length i.reads ≤ length callee.sig.params

-- it has the form of its kind, at most eight places of each sort, and a number of 32 bits where that is a type's
pub record IsReady (funs : List LowFun) (instr : LowInstr) : Type 0 where
  pub form : Instruction
  pub is_form : instruction_of instr ≡ Some form
  pub few_written : length form.writes ≤ 8
  pub few_read : length form.reads ≤ 8
  pub named : names_type instr.op ≡ true → int_lt instr.number (pos (2 ^ 32)) ≡ true
  pub calls : IsCallOf funs form

-- each is at least the one before it
unfoldable pub Rise : ℕ → List ℕ → Type 0
Rise from [] = Unit {0}
Rise from (at ∷ positions) = (from ≤ at) × Rise at positions

pub record IsReadyFun (funs : List LowFun) (fun : LowFun) (labels : ℕ) (edges : List Edge) : Type 0 where
  pub few_params : length fun.sig.params ≤ 8
  pub instrs : (at : ℕ) (instr : LowInstr) → slice_get fun.code at ≡ Some instr → IsReady funs instr
  pub edge_each : length edges ≡ length fun.code
  -- labels stand at instructions, by rising position, each with what is known there
  pub label_each : length fun.labels ≤ labels
  pub rise : Rise 0 fun.labels
  pub within : (label at : ℕ) → label_at fun.labels label ≡ Some at → at < length fun.code

-- ---- all places in slots

-- the present way: each place in a slot of its own
pub record AreSlots (homes : List ℕ) (places : ℕ) : Type 0 where
  pub as_many : length homes ≡ places
  pub few : places ≤ 240
  pub each : (place : ℕ) → place < places → home_of homes place ≡ 16 + place
