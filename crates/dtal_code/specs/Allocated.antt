-- Which addresses of the store are allocated.
use Rattle.std.specs.Prelude.{◌≡◌, ℕ, ◌+◌, ◌<◌, ◌≤◌, ℤ, pos, true, List, Some}
use Rattle.state_types.specs.Words.{Header, cell_count, header_at}
use Rattle.operation_rules.specs.FlatWords.{is_whole}
use Rattle.dtal_code.specs.Machine.{State, Next, On, Off}

-- The walk of headers from address 0 divides the used words into blocks, and the address lies in one of them: in its two words of header or in
-- one of its cells.
pub record IsAllocated (words : List ℤ) (address : ℤ) : Type 0 where
  pub divided : is_whole words ≡ true
  pub block : ℕ
  pub header : Header
  pub begins : header_at words block ≡ Some header
  pub number : ℕ
  pub is : address ≡ pos number
  pub from : block ≤ number
  pub within : number < block + 2 + cell_count header.cells

-- the used words after a step; an end leaves them
abbrev pub words_after : State → Next → List ℤ
words_after state (On printed next) = next.words
words_after state (Off how) = state.words
