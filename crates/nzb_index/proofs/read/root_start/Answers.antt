use Rattle.nzb_index.proofs.IndexEnds.{root_here, root_behind, type_within}
use Rattle.nzb_index.proofs.read.root_start.Goals as goal

pub document_type_end-requires : goal.document_type_end-requires
document_type_end-requires c = type_within c.args.text.now c.args.at c.in-Declaration.end c.in_ok-end.field-0 c.in-Declaration.is c.in_ok-end.ensures

pub returns-in-Other : goal.returns-in-Other
returns-in-Other c = root_here c.args.text.now c.args.at c.in-Other.end c.in_ok-end.field-0 c.in-Other.is c.in_ok-end.ensures

pub returns-in-Declaration : goal.returns-in-Declaration
returns-in-Declaration c = root_behind c.args.text.now c.args.at c.in-Declaration.end c.in_ok-end.field-0 c.document_type_end.result c.in-Declaration.is c.in_ok-end.ensures c.document_type_end.ensures
