use Rattle.std.proofs.Common.{◌∙◌, sym}
use Rattle.server_logins.proofs.ServerLaws.{server_from_test, test_from_server}
use Rattle.server_logins.proofs.server.is_server.Goals as goal

pub returns-clause-rule : goal.returns-clause-rule
returns-clause-rule c =
    (λ passed. server_from_test c.args.text.now (sym c.are_host_and_port.ensures ∙ passed), λ server. c.are_host_and_port.ensures ∙ test_from_server c.args.text.now server)
