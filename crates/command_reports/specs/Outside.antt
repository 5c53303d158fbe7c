-- What is told of the outside at one moment: of the files, and of the output.
use Rattle.std.specs.Prelude.{ℕ, List, Option}
use Rattle.xan_io.specs.declared.files.Files as Files
use Rattle.xan_io.specs.declared.sink.Sink as Sink

-- what each name holds, where that is told, and how many of its reads and of its writes have failed
pub record Held : Type 0 where
  pub content : List ℕ → Option (List ℕ)
  pub read_faults : List ℕ → ℕ
  pub write_faults : List ℕ → ℕ

-- and what was written on the output, where that is told, and how many of its puts have failed
pub record Outside : Type 0 where
  pub files : Held
  pub written : Option (List ℕ)
  pub faults : ℕ

abbrev pub held : {A : Type 0} → Files.Ghosts A → A → Held
held F files = record { content = F.content files; read_faults = F.read_faults files; write_faults = F.write_faults files }

abbrev pub outside : {A B : Type 0} → Files.Ghosts A → Sink.Ghosts B → A → B → Outside
outside F O files out = record { files = held F files; written = O.written out; faults = O.faults out }
