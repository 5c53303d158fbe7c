-- Files that are kept in memory, by name.
use Rattle.std.specs.Prelude.{◌≡◌, ◌≢◌, ℕ, List, [], Option, Some, option_map, unwrap_or}
use Rattle.std.specs.BTreeMap.{get_by_text}
use Rattle.xan_io.specs.declared.store.Store.{Store}

-- the content of the file of this name, if there is one
abbrev pub stored : Store → List ℕ → Option (List ℕ)
stored store name = option_map (λ bytes. bytes.items) (get_by_text store.files name)

-- the content that is told of a name: where there is no file, no bytes
abbrev pub told : Store → List ℕ → Option (List ℕ)
told store name = Some (unwrap_or (stored store name) [])

-- each file is as it was, and there is no other
abbrev pub SameFiles : Store → Store → Type 0
SameFiles before now = (other : List ℕ) → stored now other ≡ stored before other

-- the same of all names but one
abbrev pub SameOthers : Store → Store → List ℕ → Type 0
SameOthers before now name = (other : List ℕ) → other ≢ name → stored now other ≡ stored before other
