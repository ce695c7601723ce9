use Rattle.nzb_writer.specs.Canonical.{file_text}
use Rattle.nzb_writer.proofs.Appending.{line_more}
use Rattle.nzb_writer.proofs.write.append_files.Goals as goal

pub loop-file-preserved : goal.loop-file-preserved
loop-file-preserved c =
    line_more file_text c.args.files.now c.loop-file.file-index c.file-item.result c.args.out.now c.loop-file.out c.append_file.new.out c.loop-file-test.true c.file-item.is c.loop-file.invariant c.in_ok-append_file.ensures.ok
