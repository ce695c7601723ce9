-- What stands before the hyphen, and behind it.
use Rattle.std.proofs.Common.{Some, None}
use Rattle.news_spool.proofs.RangeLaws.{no_first, no_hyphen, two_numbers}
use Rattle.news_spool.proofs.range.NumberRange.from_text.Goals as goal

pub returns-then-hyphen-text : goal.returns-then-hyphen-text
returns-then-hyphen-text c = no_hyphen c.args.text.now c.first_hyphen-hyphen.result c.first_hyphen-hyphen.ensures.place c.if-hyphen-text.true

pub returns-in-None : goal.returns-in-None
returns-in-None c = no_first c.args.text.now c.first_hyphen-hyphen.result c.first_hyphen-hyphen.ensures.place (c.in-None.ensures)

pub returns-in-Some-read_dec : goal.returns-in-Some-read_dec
returns-in-Some-read_dec c =
    two_numbers c.args.text.now c.first_hyphen-hyphen.result (Some c.in-Some.first) (Some c.in-Some-read_dec.last) c.first_hyphen-hyphen.ensures.place
    c.in-Some.ensures c.in-Some-read_dec.ensures

pub returns-in-None-read_dec : goal.returns-in-None-read_dec
returns-in-None-read_dec c =
    two_numbers c.args.text.now c.first_hyphen-hyphen.result (Some c.in-Some.first) None c.first_hyphen-hyphen.ensures.place c.in-Some.ensures c.in-None-read_dec.ensures
