-- Types, signatures and labels that pass name only their own variables.
use Rattle.std.proofs.Common.{◌≡◌, ℕ, List, [], ◌∷◌, ◌++◌, Ok}
use Rattle.std.specs.List.{All}
use Rattle.std.proofs.lemmas.List.Elements.{All-nil, All-cons, All-map, All-weaker}
use Rattle.state_types.specs.Tables.{IsClosed}
use Rattle.state_types.specs.declared.closed.Packed.{Packed}
use Rattle.state_types.specs.declared.closed.Signature.{Signature}
use Rattle.operation_rules.specs.Sound.{IsHeader, IsSetting}
use Rattle.dtal_code.specs.Acceptance.{SignaturesPass, Accepted}
use Rattle.dtal_code.specs.Declarations.{table_of, setting_of, packed_verdict}
use Rattle.dtal_code.specs.declared.program.DtalProgram.{DtalProgram}
use Rattle.dtal_code.specs.declared.program.Function.{Function}
use Rattle.dtal_code.proofs.NamedDeclarations.{packed_plain, cells_closed, signature_plain}

-- ---- types

pub table_closed : (program : DtalProgram) → All (λ packed. packed_verdict (table_of program) packed ≡ Ok tt) program.types → All IsClosed (table_of program)
table_closed program pass =
    cells_closed program.types
    (All-weaker (λ packed. packed_verdict (table_of program) packed ≡ Ok tt) IsClosed (λ packed e. (packed_plain (table_of program) packed e).closed) program.types pass)

-- ---- signatures

headers_of : (table : List Packed) (before : List (List ℕ)) (funs : List Function) → SignaturesPass table before funs → All (λ fun. IsHeader fun.sig) funs
headers_of table before [] pass = All-nil (λ (fun : Function). IsHeader fun.sig)
headers_of table before (fun ∷ funs) pass =
    All-cons (λ (f : Function). IsHeader f.sig) fun funs (signature_plain table before fun pass.0).header (headers_of table (before ++ fun.name ∷ []) funs pass.1)

pub functions_headers : (program : DtalProgram) → Accepted program → All (λ fun. IsHeader fun.sig) program.funs
functions_headers program accepted = headers_of (table_of program) [] program.funs accepted.signatures

-- ---- settings

pub setting_is : (program : DtalProgram) → Accepted program → (own : Signature) → IsHeader own → IsSetting (setting_of program own)
setting_is program accepted own header = record {
  table = table_closed program accepted.types;
  sigs = All-map IsHeader (λ (fun : Function). fun.sig) program.funs (functions_headers program accepted);
  own = header;
}
