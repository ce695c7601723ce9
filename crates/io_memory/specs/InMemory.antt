-- What the objects in memory hold, and which of their calls fail.
use Rattle.std.specs.Prelude.{ℕ, List, Option, None, Some, slice_get}
use Rattle.std.specs.Option.{option_map}
use Rattle.io_traits.specs.declared.blame.Blame.{Blame}
use Rattle.io_memory.specs.declared.mem_sink.MemSink.{MemSink}
use Rattle.io_memory.specs.declared.mem_input.MemInput.{MemInput}

-- all that was written to a sink
abbrev pub sink_bytes : MemSink → List ℕ
sink_bytes sink = sink.bytes

-- the numbers, from 1, of the writes that are to fail
abbrev pub sink_failing : MemSink → List ℕ
sink_failing sink = sink.failing

-- how many writes were made
abbrev pub sink_calls : MemSink → ℕ
sink_calls sink = sink.calls

-- how many writes failed
abbrev pub sink_faults : MemSink → ℕ
sink_faults sink = sink.faults

-- names and bytes of the files of an input
abbrev pub input_files : MemInput → List (List ℕ × List ℕ)
input_files input = input.files

-- the numbers, from 1, of the calls that are to fail
abbrev pub input_failing : MemInput → List ℕ
input_failing input = input.failing

-- how many calls were made
abbrev pub input_calls : MemInput → ℕ
input_calls input = input.calls

-- how many calls failed
abbrev pub input_faults : MemInput → ℕ
input_faults input = input.faults

-- the last call that failed, if one did and there was room for its name
abbrev pub input_blame : MemInput → Option Blame
input_blame input = input.blame

-- the bytes of the file at a place in a list of files
abbrev pub content_at : List (List ℕ × List ℕ) → Option ℕ → Option (List ℕ)
content_at files None = None
content_at files (Some place) = option_map (λ file. file.1) (slice_get files place)

-- the bytes of the current file
abbrev pub input_content : MemInput → Option (List ℕ)
input_content input = content_at input.files input.current
