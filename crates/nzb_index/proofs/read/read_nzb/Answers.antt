use Rattle.nzb_index.proofs.IndexEnds.{each_index, each_refusal, valid_if_read}
use Rattle.nzb_index.proofs.read.read_nzb.Goals as goal

pub returns-clause-each_index : goal.returns-clause-each_index
returns-clause-each_index c = λ index n. each_index c.args.text.now c.read_text.result index c.read_text.ensures n

pub returns-clause-each_refusal : goal.returns-clause-each_refusal
returns-clause-each_refusal c = λ refusal r. each_refusal c.args.text.now c.read_text.result refusal c.read_text.ensures r

pub returns-clause-valid : goal.returns-clause-valid
returns-clause-valid c = valid_if_read c.args.text.now c.read_text.result c.read_text.ensures
