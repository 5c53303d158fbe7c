-- When a call of a sink in memory fails, and what it then writes.
use Rattle.std.specs.Prelude.{ℕ, ◌+◌, ◌-◌, Bool, ◌||◌, nat_lt, List, length, take}
use Rattle.xan_io.specs.Listed.{is_listed, first_half}
use Rattle.xan_io.specs.declared.mem_sink.MemSink.{MemSink}

-- the next call of this sink, with these bytes, fails: it is listed, or the bytes do not fit
abbrev pub put_fails : MemSink → List ℕ → Bool
put_fails sink bytes = is_listed sink.fails.items sink.calls || nat_lt sink.room (length sink.bytes.items + length bytes)

-- what such a call appends: the first half of the bytes, as far as it fits
abbrev pub cut : MemSink → List ℕ → List ℕ
cut sink bytes = take (sink.room - length sink.bytes.items) (first_half bytes)
