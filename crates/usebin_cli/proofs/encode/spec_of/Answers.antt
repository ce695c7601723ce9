use Rattle.std.proofs.Common.{◌≡◌, ◌≤◌, ◌+◌, ◌*◌, arith, sym, subst}
use Rattle.yenc_body.specs.Canonical.{IsPart}
use Rattle.yenc_body.specs.Parts.{part_length, parts_of}
use Rattle.yenc_body.specs.declared.spec.BodySpec.{BodySpec}
use Rattle.command_words.specs.Asked.{asked_of}
use Rattle.usebin_cli.specs.Body.{part_spec}
use Rattle.usebin_cli.proofs.PartLemmas.{asked_is_part, no_limit}
use Rattle.usebin_cli.proofs.encode.spec_of.Goals as goal
use Rattle.limits.specs.declared.TheConstants.{MOST_SEGMENTS}

pub returns : goal.returns
returns c =
    let asked = asked_of c.args.asked in
    let total = c.parts_of-parts.ensures in
    let parts : parts_of c.args.size asked.part_size ≤ MOST_SEGMENTS = omega (arith, total) in
    let there : asked.part ≤ parts_of c.args.size asked.part_size = omega (arith, total, c.if-asked-total.false) in
    let spec_is : record { name = asked.name; part = asked.part; total = c.parts_of-parts.result; first = c.from.result * c.from-2.result + 1; size = c.args.size; line = asked.line } ≡ part_spec asked c.args.size =
    rw (c.parts_of-parts.ensures, c.from.ensures, c.from-2.ensures) in (
      no_limit asked.part_size asked.part c.args.size c.if-size-gt-MOST_FILE_BYTES.false parts there,
      spec_is,
      subst (λ (spec : BodySpec). IsPart spec (part_length c.args.size asked.part_size asked.part)) (sym spec_is)
          (asked_is_part asked c.args.size c.requires.line_least c.requires.line_most c.requires.part_size_least c.requires.part_size_most c.requires.part_least c.if-size-gt-MOST_FILE_BYTES.false there),
    )
