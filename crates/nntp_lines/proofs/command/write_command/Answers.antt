-- What was put is the command, and one line.
use Rattle.std.proofs.Common.{◌≡◌, List, ℕ, ◌++◌, take, ◌∙◌, ap, arith}
use Rattle.std.proofs.lemmas.Grind.{common_steps}
use Rattle.nntp_lines.specs.Command.{command_line, command_text, crlf}
use Rattle.nntp_lines.proofs.CommandLaws.{line_printable}
use Rattle.nntp_lines.proofs.command.write_command.Goals as goal

-- what was put
put_text : (c : goal.After-put) → take c.put.result c.put.new.out ≡ command_line c.args.c ++ crlf
put_text c = c.put.ensures.text ∙ ap (λ (text : List ℕ). text ++ crlf) c.put_command-end.ensures.text

pub returns-clause-text : goal.returns-clause-text
unfolding command_text
returns-clause-text c = put_text c

pub returns-clause-line : goal.returns-clause-line
returns-clause-line c = record {
  line = command_line c.args.c;
  ended = put_text c;
  printable = line_printable c.args.c c.put_command-end.ensures.words c.requires;
  short = grind (arith, common_steps);
}
