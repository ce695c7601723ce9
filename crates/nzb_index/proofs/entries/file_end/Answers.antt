use Rattle.std.proofs.Common.{ℕ, [], Bool, List, drop, refl, ◌∙◌, arith}
use Rattle.std.specs.Prelude.{codes}
use Rattle.std.proofs.lemmas.Result.{err_from_is_err_and}
use Rattle.nzb_writer.specs.declared.index.FileEntry.{FileEntry}
use Rattle.nzb_index.specs.MarkupReading.{Tag, parent}
use Rattle.nzb_writer.specs.Nzb.{file_checks}
use Rattle.nzb_index.specs.NzbReading.{file_part}
use Rattle.nzb_index.specs.Elements.{bare}
use Rattle.nzb_index.specs.Entries.{file_at}
use Rattle.nzb_index.specs.Tags.{attributes_of}
use Rattle.nzb_index.proofs.Betweens.{fails_as}
use Rattle.nzb_index.proofs.EntryEnds.{file_on, file_few, number_read}
use Rattle.nzb_index.proofs.entries.file_end.Goals as goal
use Rattle.limits.specs.declared.TheConstants.{LAST_MOMENT}

abbrev tag_of : List (List ℕ) → List (List ℕ) → Bool → Tag
tag_of names values closed = record { attributes = attributes_of names values; closed = closed }

abbrev entry : List ℕ → ℕ → List ℕ → FileEntry
entry poster date subject = record { poster = poster; date = date; subject = subject; groups = []; segments = [] }

pub returns-in_err-end : goal.returns-in_err-end
returns-in_err-end c =
    let p = err_from_is_err_and c.from_residual-in_err-end.result c.from_residual-in_err-end.ensures.1 in
    let rest = drop c.args.at c.args.text.now in
    let mid = drop c.in_ok-closed.behind c.args.text.now in
    let here = tag_of c.tag_end.new.scratch.names c.tag_end.new.scratch.values c.in_ok-closed.closed in
    let tag = c.in_ok-closed.ensures in
    let date = c.number.ensures.value ∙ number_read file_checks (codes "date") rest here mid LAST_MOMENT tag.3 (λ value h. h) in
    let start = entry c.in_ok-poster.poster c.number.result c.in_ok-subject.subject in
    let on = file_on c.args.earlier rest here mid start tag.3 (c.in_ok-poster.ensures.ok ∙ c.value.ensures) date (c.in_ok-subject.ensures.ok ∙ c.value-2.ensures) refl refl in
    rw (p.1, p.2) (fails_as c.args.text.now c.in_err-end.field-0.0 (parent (file_part c.args.earlier) (codes "file") (bare c.in_ok-closed.closed) start mid) (file_at c.args.earlier rest) on (rw (c.new.ensures, c.new-2.ensures) at c.in_err-end.ensures))

pub returns : goal.returns
returns c =
    let rest = drop c.args.at c.args.text.now in
    let mid = drop c.in_ok-closed.behind c.args.text.now in
    let here = tag_of c.tag_end.new.scratch.names c.tag_end.new.scratch.values c.in_ok-closed.closed in
    let tag = c.in_ok-closed.ensures in
    let e = rw (c.new.ensures, c.new-2.ensures) at c.in_ok-end.ensures in
    let few = c.requires.few in
    let date = c.number.ensures.value ∙ number_read file_checks (codes "date") rest here mid LAST_MOMENT tag.3 (λ value h. h) in
    let start = entry c.in_ok-poster.poster c.number.result c.in_ok-subject.subject in
    let on = file_on c.args.earlier rest here mid start tag.3 (c.in_ok-poster.ensures.ok ∙ c.value.ensures) date (c.in_ok-subject.ensures.ok ∙ c.value-2.ensures) refl refl in
    (omega (arith, tag.0, e.0), e.1, file_few c.args.earlier c.in_ok-closed.closed mid start c.parts_end.new.file (drop c.in_ok-end.end c.args.text.now) few refl e.2, on ∙ e.2)
