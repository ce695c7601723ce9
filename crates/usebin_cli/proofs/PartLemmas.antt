-- The asked part of a file that is within the limits.
use Rattle.std.proofs.Common.{◌≡◌, ◌≤◌, ℕ, None, refl, arith, false}
use Rattle.std.specs.Prelude.{nat_lt}
use Rattle.std.proofs.lemmas.Bool.Decides.{nat_tests}
use Rattle.yenc_body.specs.Canonical.{IsPart}
use Rattle.yenc_body.specs.Parts.{most_bytes, most_parts, part_length, parts_of}
use Rattle.yenc_body.proofs.PartLaws.{is_part}
use Rattle.usebin_cli.specs.Body.{limit_of, part_spec}
use Rattle.command_words.specs.CommandLine.{PartAsked}
use Rattle.limits.specs.declared.TheConstants.{LEAST_LINE, MOST_LINE, MOST_PART_BYTES}

not_less : (m n : ℕ) → n ≤ m → nat_lt m n ≡ false
not_less m n le = grind (arith, nat_tests)

pub no_limit : (part_size part size : ℕ) → size ≤ most_bytes → parts_of size part_size ≤ most_parts → part ≤ parts_of size part_size → limit_of part_size part size ≡ None
no_limit part_size part size bytes parts there =
    rw (not_less most_bytes size bytes, not_less most_parts (parts_of size part_size) parts, not_less (parts_of size part_size) part there) refl

pub asked_is_part : (asked : PartAsked) (size : ℕ) → LEAST_LINE ≤ asked.line → asked.line ≤ MOST_LINE → 1 ≤ asked.part_size → asked.part_size ≤ MOST_PART_BYTES → 1 ≤ asked.part → size ≤ most_bytes → asked.part ≤ parts_of size asked.part_size
    → IsPart (part_spec asked size) (part_length size asked.part_size asked.part)
asked_is_part asked size = is_part asked.name asked.line size asked.part_size asked.part
