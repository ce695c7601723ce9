use Rattle.std.proofs.Common.{arith}
use Rattle.yenc_lines.proofs.PartReads.{part_read}
use Rattle.yenc_lines.proofs.WrittenLines.{header_read, trailer_read}
use Rattle.yenc_lines.proofs.laws.written_lines_are_read.Goals as goal

pub returns-clause-header : goal.returns-clause-header
returns-clause-header c = λ b part total line size name. header_read b part total line size name

pub returns-clause-part_line : goal.returns-clause-part_line
returns-clause-part_line c = λ p first begin end. part_read p first (omega (arith, begin)) (omega (arith, end))

pub returns-clause-trailer : goal.returns-clause-trailer
returns-clause-trailer c = λ e part pcrc32 crc32 size. trailer_read e part pcrc32 crc32 size
