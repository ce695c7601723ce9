-- What the reading of an NZB text answers.
use Rattle.std.specs.Prelude.{◌≡◌, ℕ, suc, ◌≤◌, List, [], length, drop, Result, Ok, Err, codes, ⊤}
use Rattle.nzb_index.specs.declared.error.NzbError.{NzbError}
use Rattle.nzb_index.specs.declared.error.NzbError.TheVariants.{Memory, Refused, Limit}
use Rattle.nzb_writer.specs.declared.index.Index.{Index}
use Rattle.nzb_writer.specs.Markup.{unchecked}
use Rattle.nzb_index.specs.MarkupReading.{Stop, between, between_or, tag_at, parent, ◌>>=◌}
use Rattle.nzb_writer.specs.Nzb.{IsNzb}
use Rattle.nzb_index.specs.NzbReading.{Refusal, refused_at, past, entry_item, behind_type, nothing_behind}
use Rattle.nzb_index.specs.Readers.{Fails, ReadsTo}
use Rattle.nzb_index.specs.Refusal.{IsTextRefused}

-- the index that the text has, or what it is refused for, unless memory was wanting
abbrev pub NzbAnswers : List ℕ → Result Index NzbError → Type 0
NzbAnswers text (Ok index) = IsNzb text index
NzbAnswers text (Err Memory) = ⊤
NzbAnswers text (Err (Refused place reason)) = IsTextRefused text (refused_at place reason)
NzbAnswers text (Err (Limit l)) = IsTextRefused text (past l)

-- the error that says so
abbrev pub IsError : Refusal → Result Index NzbError → Type 0
IsError (refused_at place reason) result = result ≡ Err (Refused place reason)
IsError (past l) result = result ≡ Err (Limit l)

abbrev pub FindsIndex : List ℕ → Result Index NzbError → Result Index Stop → Type 0
FindsIndex text (Ok index) read = read ≡ Ok index
FindsIndex text (Err e) read = Fails text e read

-- where the root begins, with any fuel that is enough
abbrev pub ReadsRoot : List ℕ → ℕ → Result ℕ NzbError → Type 0
ReadsRoot text at result = (fuel : ℕ) → length (drop at text) ≤ fuel → ReadsTo text at result (between_or behind_type (suc fuel) (drop at text))

-- from behind the root's element on: white and comments alone
abbrev pub behind_root : List ℕ → Result (List ℕ) Stop
behind_root rest = between rest >>= nothing_behind

abbrev pub ReadsEnd : List ℕ → Result (Unit {0}) NzbError → Result (List ℕ) Stop → Type 0
ReadsEnd text (Ok done) read = read ≡ Ok []
ReadsEnd text (Err e) read = Fails text e read

-- from behind the root's name on
abbrev pub tail_at : List ℕ → Result Index Stop
tail_at rest = tag_at unchecked rest >>= λ tag. parent entry_item (codes "nzb") tag.0 (record { metas = []; files = [] }) tag.1 >>= λ index. between index.1 >>= λ behind. nothing_behind behind >>= λ nothing. Ok index.0

abbrev pub ReadsRootName : List ℕ → Result ℕ NzbError → Result Index Stop → Type 0
ReadsRootName text (Ok name) read = (name ≤ length text) × (read ≡ tail_at (drop name text))
ReadsRootName text (Err e) read = Fails text e read
