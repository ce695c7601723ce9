-- What a store in memory holds, and which of its calls fail.
use Rattle.std.specs.Prelude.{ℕ, Bool, List, Option}
use Rattle.io_traits.specs.Store.{Stored}
use Rattle.io_traits.specs.declared.blame.Blame.{Blame}
use Rattle.io_memory.specs.declared.mem_store.MemStore.{MemStore}
use Rattle.io_memory.specs.MemFiles.{shelf_of, numbers_of}

-- the files that are held, by their numbers
abbrev pub store_files : MemStore → ℕ → Option Stored
store_files store = shelf_of store.files.items.items

-- the numbers of the files that were created
abbrev pub store_created : MemStore → List ℕ
store_created store = numbers_of store.files.items.items

-- the numbers, from 1, of the calls that are to fail
abbrev pub store_failing : MemStore → List ℕ
store_failing store = store.failing

-- how many calls were made
abbrev pub store_calls : MemStore → ℕ
store_calls store = store.calls

-- how many calls failed
abbrev pub store_faults : MemStore → ℕ
store_faults store = store.faults

-- whether the last call failed
abbrev pub store_failed : MemStore → Bool
store_failed store = store.has_failed

-- the last call that failed, if one did and there was room for its name
abbrev pub store_blame : MemStore → Option Blame
store_blame store = store.blame
