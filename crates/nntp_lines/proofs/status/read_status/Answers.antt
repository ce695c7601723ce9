-- What the definition reads of a line is what the line is.
use Rattle.std.proofs.Common.{◌≡◌, ℕ, Option, sym, ◌∙◌, ap}
use Rattle.std.specs.Option.{ok_or}
use Rattle.nntp_lines.specs.declared.status.StatusFault.TheVariants.{NotACode}
use Rattle.nntp_lines.specs.StatusLine.{code_of}
use Rattle.nntp_lines.proofs.StatusLaws.{too_long, short_enough, read_is_line, unread_is_none}
use Rattle.nntp_lines.proofs.status.read_status.Goals as goal

pub returns-then-line-gt-MOST-clause-reading : goal.returns-then-line-gt-MOST-clause-reading
returns-then-line-gt-MOST-clause-reading c = sym (too_long c.args.line.now c.if-line-gt-MOST.true)

-- what the reading answers
answer : (c : goal.After-ok_or) → c.ok_or.result ≡ ok_or (code_of c.args.line.now) NotACode
answer c = c.ok_or.ensures.value ∙ ap (λ (o : Option ℕ). ok_or o NotACode) c.code_of.ensures

pub returns-clause-code : goal.returns-clause-code
returns-clause-code c = rw (answer c) (read_is_line c.args.line.now c.if-line-gt-MOST.false)

pub returns-clause-fault : goal.returns-clause-fault
returns-clause-fault c = rw (answer c) (unread_is_none c.args.line.now c.if-line-gt-MOST.false)

pub returns-clause-reading : goal.returns-clause-reading
returns-clause-reading c = answer c ∙ sym (short_enough c.args.line.now c.if-line-gt-MOST.false)
