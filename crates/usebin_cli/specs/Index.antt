-- How `index` ends.
use Rattle.std.specs.Prelude.{◌≡◌, ◌⊎◌, ℕ, List, [], ◌∷◌, ◌++◌, Option, Some, Result, Ok, Err, codes}
use Rattle.std.specs.Fmt.{decimal}
use Rattle.nntp_lines.specs.declared.login.Login.{Login}
use Rattle.nzb_writer.specs.Canonical.{nzb_text}
use Rattle.link_dialog.specs.Talk.{Start}
use Rattle.overview_index.specs.Session.{IndexEnds as SessionEnds, Query}
use Rattle.overview_index.specs.declared.session.Indexed.{Indexed}
use Rattle.overview_index.specs.declared.session.IndexError.{IndexError}
use Rattle.overview_index.specs.declared.session.IndexError.TheVariants as errors
use Rattle.overview_index.specs.declared.added.GroupError.TheVariants as full
use Rattle.command_words.specs.Index.{IndexAsked}
use Rattle.input_files.specs.Reading.{Reading, IsFaultless, HasFailed, IsBelow}
use Rattle.usebin_cli.specs.Login.{IsLoginAt, IsLoginBroken, IsLoginCall, IsLoginTooLong}
use Rattle.usebin_cli.specs.Linked.{Linked, FailedToOpen, OpenedNone}
use Rattle.usebin_cli.specs.Writing.{Written, WroteWhole, WroteFront}
use Rattle.run_ends.specs.declared.end.End.{End}
use Rattle.run_ends.specs.declared.end.End.TheVariants.{Done, InputFault, OutputFault, NoLink, Short, Limit as Passes, LoginBroken, NoMemory, Refused, Over}
use Rattle.run_ends.specs.declared.end.Limit.{Limit}
use Rattle.run_ends.specs.declared.end.Limit.TheVariants as limits

-- ---- what is asked of the server

-- the articles of the newsgroup in the words, from one number to another
abbrev pub query_of : IndexAsked → Query
query_of asked = record { group = asked.group; first = asked.first; last = asked.last; patience = asked.patience }

-- what a session begins with
abbrev pub session_start : IndexAsked → Option Login → Linked → Start
session_start asked who t = record { before = t.trace_before; address = asked.server; login = who }

-- the login at the server was found, if there is one, and the session over one link ended so
pub record HasRun (asked : IndexAsked) (files : Option (List (List ℕ × List ℕ))) (r : Reading) (t : Linked) (result : Result Indexed IndexError) : Type 0 where
  pub faultless : IsFaultless r
  pub who : Option Login
  pub who_is : IsLoginAt asked.server asked.login files who
  pub ends : SessionEnds (query_of asked) (session_start asked who t) t.trace_now result

-- no link was opened, or such a session ended in some way
abbrev pub HasRunOrNot : IndexAsked → Option (List (List ℕ × List ℕ)) → Reading → Linked → Type 0
HasRunOrNot asked files r t = OpenedNone t ⊎ ((result : Result Indexed IndexError) × HasRun asked files r t result)

-- the limit of an index that one article more would pass
abbrev pub IsFull : IndexError → Limit → Type 0
IsFull (errors.Full full.Segments) limit = limit ≡ limits.Segments
IsFull (errors.Full full.Files) limit = limit ≡ limits.Files
IsFull other limit = ⊥

-- ---- how it ends

-- how many lines of the overview were skipped
unfoldable pub skipped_line : ℕ → List ℕ
skipped_line skipped = codes "skipped " ++ decimal skipped ++ 10 ∷ []

-- an index was made of what was heard, it was written so, and how many lines were skipped was noted
pub record WroteIndexed (how : List ℕ → Written → Type 0) (asked : IndexAsked) (files : Option (List (List ℕ × List ℕ))) (r : Reading) (t : Linked) (w : Written) (note : Option (List ℕ)) : Type 0 where
  pub indexed : Indexed
  pub run : HasRun asked files r t (Ok indexed)
  pub written : how (nzb_text indexed.index) w
  pub noted : note ≡ Some (skipped_line indexed.skipped)

-- what each end of `index` says of the input, of the links, of the output and of what was noted, beside what it has in common
-- with others
abbrev pub Indexes : IndexAsked → Option (List (List ℕ × List ℕ)) → Reading → Linked → Written → Option (List ℕ) → End → Type 0
Indexes asked files r t w told Done = WroteIndexed WroteWhole asked files r t w told
Indexes asked files r t w told OutputFault = WroteIndexed WroteFront asked files r t w told
Indexes asked files r t w told (Refused code) = HasRun asked files r t (Err (errors.Refused code))
Indexes asked files r t w told (Over reason) = HasRun asked files r t (Err (errors.Over reason))
Indexes asked files r t w told NoLink = FailedToOpen asked.server t
Indexes asked files r t w told NoMemory = HasRunOrNot asked files r t
Indexes asked files r t w told InputFault = HasFailed (IsLoginCall asked.login) r × OpenedNone t
Indexes asked files r t w told (Short place) = IsBelow r.current place × OpenedNone t
Indexes asked files r t w told (Passes limits.Login) = IsLoginTooLong asked.login files r.current × OpenedNone t
Indexes asked files r t w told (Passes limit) = (error : IndexError) × IsFull error limit × HasRun asked files r t (Err error)
Indexes asked files r t w told (LoginBroken number) = IsLoginBroken asked.login files number × OpenedNone t
Indexes asked files r t w told other = ⊥
