-- What the call of a segment has read: its entry, and the size of its file.
use Rattle.std.proofs.Common.{◌≡◌, ◌<◌, ◌∙◌, ℕ, Bool, true, false, List, Option, Some, None, length, get_or, sym, ap, refl}
use Rattle.std.specs.Prelude.{slice_get}
use Rattle.std.proofs.lemmas.Option.{slice_get_read}
use Rattle.range_assembler.specs.declared.assembler.Entry.{Entry}
use Rattle.range_assembler.specs.declared.sequence.Range.{Range}
use Rattle.range_assembler.specs.Before.{IsPlace}
use Rattle.range_assembler.specs.Entries.{least_clash, kept_size}
use Rattle.range_assembler.specs.Order.{IsOrder, IsIndexed, clash_with}
use Rattle.range_assembler.specs.Claims.{file_of, file_at, last_of, last_at}
use Rattle.range_assembler.proofs.Holds.{place_within}
use Rattle.range_assembler.proofs.Ordering.{clash_found}

-- the entry of a segment that passes a test, as the call and as its contract name it
pub record IsRead (test : Option Entry → Bool) (entries now : List Entry) (segment : ℕ) (entry : Entry) : Type 0 where
  pub same : entries ≡ now
  pub within : segment < length entries
  pub there : slice_get entries segment ≡ Some entry
  pub passes : test (Some entry) ≡ true
  pub file : entry.file ≡ file_at now segment
  pub last : last_at now segment ≡ entry.last

pub entry_read : (test : Option Entry → Bool) (entries now : List Entry) (segment : ℕ) (entry : Entry) → test None ≡ false → entries ≡ now → test (slice_get now segment) ≡ true → entry ≡ get_or entries segment entry → IsRead test entries now segment entry
entry_read test entries now segment entry none same passes value =
    let holds : test (slice_get entries segment) ≡ true = ap (λ (t : List Entry). test (slice_get t segment)) same ∙ passes in
    let within : segment < length entries = place_within test entries segment none holds in
    let there : slice_get entries segment ≡ Some entry = slice_get_read entries (length entries) segment entry refl within value in
    record {
      same = same;
      within = within;
      there = there;
      passes = ap test (sym there) ∙ holds;
      file = ap file_of (sym there) ∙ ap (λ (t : List Entry). file_at t segment) same;
      last = ap (λ (t : List Entry). last_at t segment) (sym same) ∙ ap last_of there;
    }

-- the clash that was found is the least of the entries
pub clash_here : (entries : List Entry) (ranges : List Range) (file first last place : ℕ) (got : Option Range) → IsOrder entries ranges → IsPlace file first ranges place → got ≡ slice_get ranges place → clash_with file first last got ≡ least_clash 0 file first last entries
clash_here entries ranges file first last place got order at is =
    ap (λ o. clash_with file first last o) is ∙ clash_found entries ranges file first last place order at

-- the same, as the contract names them
pub clash_read : (test : Option Entry → Bool) (entries now : List Entry) (ranges : List Range) (segment first last place : ℕ) (entry : Entry) (got : Option Range) → IsRead test entries now segment entry → IsOrder entries ranges → IsPlace entry.file first ranges place → got ≡ slice_get ranges place → clash_with entry.file first last got ≡ least_clash 0 (file_at now segment) first last now
clash_read test entries now ranges segment first last place entry got read order at is =
    clash_here entries ranges entry.file first last place got order at is
    ∙ ap (λ (t : List Entry). least_clash 0 entry.file first last t) read.same ∙ ap (λ n. least_clash 0 n first last now) read.file

-- the size of the file of that segment
pub record IsSizeRead (entries now : List Entry) (sizes : List (Option ℕ)) (segment : ℕ) (entry : Entry) (kept : Option ℕ) : Type 0 where
  pub within : entry.file < length sizes
  pub here : kept ≡ kept_size entry.file entries
  pub now_is : kept ≡ kept_size (file_at now segment) now

pub size_here : (test : Option Entry → Bool) (entries now : List Entry) (order : List Range × ℕ) (sizes : List (Option ℕ)) (segment : ℕ) (entry : Entry) (kept : Option ℕ) → IsRead test entries now segment entry → IsIndexed entries order sizes → kept ≡ get_or sizes entry.file kept → IsSizeRead entries now sizes segment entry kept
size_here test entries now order sizes segment entry kept read index value =
    let within : entry.file < length sizes = index.files segment entry read.there in
    let both : Some kept ≡ Some (kept_size entry.file entries) = sym (slice_get_read sizes (length sizes) entry.file kept refl within value) ∙ index.known entry.file within in
    let here : kept ≡ kept_size entry.file entries = cc in
    record { within = within; here = here; now_is = here ∙ ap (λ (t : List Entry). kept_size entry.file t) read.same ∙ ap (λ n. kept_size n now) read.file }
