use Rattle.std.proofs.Common.{◌≡◌, ℕ, ◌+◌, ◌-◌, ◌<◌, Bool, true, List, length, take, drop, sym, ap, ◌∙◌, arith}
use Rattle.std.specs.Prelude.{codes, bytes_eq}
use Rattle.std.proofs.lemmas.Bool.{not-false}
use Rattle.nzb_writer.specs.Markup.{is_message_id, trimmed, number_of}
use Rattle.nzb_index.specs.MarkupReading.{Tag}
use Rattle.nzb_writer.specs.Nzb.{segment_checks}
use Rattle.nzb_index.specs.Elements.{bare}
use Rattle.nzb_index.specs.Tags.{attributes_of}
use Rattle.nzb_index.proofs.EntryEnds.{id_is_good, message_id_is, number_read, segment_number, segment_read}
use Rattle.nzb_index.proofs.entries.segment_end.Goals as goal
use Rattle.limits.specs.declared.TheConstants.{MOST_OCTETS, MOST_SEGMENTS}

abbrev tag_of : List (List ℕ) → List (List ℕ) → Bool → Tag
tag_of names values closed = record { attributes = attributes_of names values; closed = closed }

pub unreachable-requires : goal.unreachable-requires
unreachable-requires c =
    let e = c.in_ok-end.ensures in
    let good = id_is_good (drop c.args.from c.args.text.now) (bare c.in_ok-closed.closed) (drop c.in_ok-closed.at c.args.text.now) (trimmed c.id_end.new.out) (drop c.in_ok-end.end c.args.text.now) e.2 in
    let t = c.trimmed.ensures in
    let s = c.as_slice-2.ensures in
    let id : is_message_id c.trimmed.result.now ≡ true = rw (t, s) good in
    let f = c.in_default.ensures.rule.1 (message_id_is c.trimmed.result.now id) in
    absurd cc

pub returns : goal.returns
returns c =
    let rest = drop c.args.behind c.args.text.now in
    let mid = drop c.in_ok-closed.at c.args.text.now in
    let here = tag_of c.tag_end.new.scratch.names c.tag_end.new.scratch.values c.in_ok-closed.closed in
    let tag = c.in_ok-closed.ensures in
    let e = c.in_ok-end.ensures in
    let t = c.trimmed.ensures in
    let s = c.as_slice-2.ensures in
    let i = c.in-Some.ensures.same in
    let added = c.in_ok-add.ensures.ok in
    let few = c.requires.few in
    let len = c.len.ensures in
    let below = c.if-len-earlier.false in
    let room : c.args.earlier + length c.args.segments.now < MOST_SEGMENTS = omega (arith, few, len, below) in
    let max = c.from.ensures in
    let n = number_read segment_checks (codes "number") rest here mid 4294967295 tag.3 segment_number in
    let number : c.number-number.result ≡ number_of (codes "number") here.attributes = rw max at c.number-number.ensures.value ∙ n in
    let b = number_read segment_checks (codes "bytes") rest here mid MOST_OCTETS tag.3 (λ value h. h) in
    let word = c.as_slice.ensures in
    let name = take (c.args.behind - (c.args.from + 1)) (drop (c.args.from + 1) c.args.text.now) in
    let same : bytes_eq name (codes "segment") ≡ true = not-false (bytes_eq name (codes "segment")) (rw word at (sym c.ne.ensures ∙ c.if-ne.false)) in
    let id : c.in-Some.id ≡ trimmed c.id_end.new.out = i ∙ t ∙ ap (λ (x : List ℕ). trimmed x) s in (
      omega (arith, tag.0, e.0),
      e.1,
      segment_read c.args.earlier c.args.segments.now c.add.new.list name (drop c.args.from c.args.text.now) rest here mid (trimmed c.id_end.new.out) (drop c.in_ok-end.end c.args.text.now) c.number-number.result c.number-bytes.result same room tag.3
          (sym c.has.ensures ∙ c.if-not-has.false) e.2 number (c.number-bytes.ensures.value ∙ b) (rw id at added),
    )
