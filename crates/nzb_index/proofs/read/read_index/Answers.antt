use Rattle.std.proofs.Common.{List, drop, ◌∙◌, ℕ, Bool}
use Rattle.std.proofs.lemmas.Result.{err_from_is_err_and}
use Rattle.nzb_index.specs.MarkupReading.{Tag}
use Rattle.nzb_index.specs.NzbReading.{index_at}
use Rattle.nzb_index.specs.ReadNzb.{tail_at}
use Rattle.nzb_index.specs.Tags.{attributes_of}
use Rattle.nzb_index.proofs.Betweens.{fails_as}
use Rattle.nzb_index.proofs.IndexEnds.{tail_tag_fails, tail_entries_fail, tail_end_fails, tail_read}
use Rattle.nzb_index.proofs.read.read_index.Goals as goal

abbrev tag_of : List (List ℕ) → List (List ℕ) → Bool → Tag
tag_of names values closed = record { attributes = attributes_of names values; closed = closed }

pub returns-in_err-closed : goal.returns-in_err-closed
returns-in_err-closed c =
    let p = err_from_is_err_and c.from_residual-in_err-closed.result c.from_residual-in_err-closed.ensures.1 in
    let rest = drop c.in_ok-name.name c.args.text.now in
    rw (p.1, p.2) (fails_as c.args.text.now c.in_err-closed.field-0.0 (tail_at rest) (index_at c.args.text.now) c.in_ok-name.ensures.1 (tail_tag_fails c.args.text.now rest c.in_err-closed.field-0.0 c.in_err-closed.ensures))

pub returns-in_err-end : goal.returns-in_err-end
returns-in_err-end c =
    let p = err_from_is_err_and c.from_residual-in_err-end.result c.from_residual-in_err-end.ensures.1 in
    let rest = drop c.in_ok-name.name c.args.text.now in
    let t = c.in_ok-closed.ensures in
    let here = tag_of c.tag_end.new.scratch.names c.tag_end.new.scratch.values c.in_ok-closed.closed in
    let mid = drop c.in_ok-closed.at c.args.text.now in
    rw (p.1, p.2) (fails_as c.args.text.now c.in_err-end.field-0.0 (tail_at rest) (index_at c.args.text.now) c.in_ok-name.ensures.1 (tail_entries_fail c.args.text.now rest here mid c.in_err-end.field-0.0 t.3 (rw (c.new.ensures, c.new-2.ensures) at c.in_err-end.ensures)))

pub returns-in-Ok : goal.returns-in-Ok
returns-in-Ok c =
    let rest = drop c.in_ok-name.name c.args.text.now in
    let t = c.in_ok-closed.ensures in
    let here = tag_of c.tag_end.new.scratch.names c.tag_end.new.scratch.values c.in_ok-closed.closed in
    let mid = drop c.in_ok-closed.at c.args.text.now in
    let e = rw (c.new.ensures, c.new-2.ensures) at c.in_ok-end.ensures in
    let left = drop c.in_ok-end.end c.args.text.now in
    c.in_ok-name.ensures.1 ∙ tail_read rest here mid c.entries_end.new.index left t.3 e.2 c.in-Ok.ensures

pub returns : goal.returns
returns c =
    let rest = drop c.in_ok-name.name c.args.text.now in
    let t = c.in_ok-closed.ensures in
    let here = tag_of c.tag_end.new.scratch.names c.tag_end.new.scratch.values c.in_ok-closed.closed in
    let mid = drop c.in_ok-closed.at c.args.text.now in
    let e = rw (c.new.ensures, c.new-2.ensures) at c.in_ok-end.ensures in
    let left = drop c.in_ok-end.end c.args.text.now in
    fails_as c.args.text.now c.in-Err.error (tail_at rest) (index_at c.args.text.now) c.in_ok-name.ensures.1 (tail_end_fails c.args.text.now rest here mid c.entries_end.new.index left c.in-Err.error t.3 e.2 c.in-Err.ensures)
