-- What a fetch is given: its links and their logins (RFC 4643), and which segments of which files it asks for.
use Rattle.std.specs.Prelude.{ℕ, List, Option}
use Rattle.nntp_lines.specs.declared.login.Login.{Login}
use Rattle.range_assembler.specs.declared.assembler.Entry.{Entry}

-- An opening that was tried: its server and that server's login, and the number of the link, where it was opened.
pub record Opening : Type 0 where
  pub server : ℕ
  pub login : Option Login
  pub number : Option ℕ

-- The openings in their order, the level of each server, the segments of all files with the ranges that are accepted from the
-- start (none, where nothing was kept of an earlier run), how many commands may lack their answer on a link, how many quiet
-- receives a link is given, and the message-id of each segment.
pub record Setting : Type 0 where
  pub openings : List Opening
  pub levels : List ℕ
  pub entries : List Entry
  pub depth : ℕ
  pub patience : ℕ
  pub id : ℕ → List ℕ
