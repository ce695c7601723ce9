-- How `post` ends.
use Rattle.std.specs.Prelude.{◌≡◌, ◌≤◌, ◌<◌, ◌⊎◌, ℕ, List, length, Option, Some, None, All, IfSome, IsSomeAnd, ⊤}
use Rattle.io_traits.specs.Input.{file_of}
use Rattle.io_traits.specs.declared.blame.Blame.{Blame}
use Rattle.io_traits.specs.declared.blame.Blame.TheVariants as blames
use Rattle.io_traits.specs.declared.links.LinkEvent.{LinkEvent}
use Rattle.nntp_lines.specs.declared.login.Login.{Login}
use Rattle.nntp_lines.specs.declared.why.Why.{Why}
use Rattle.yenc_body.specs.Parts.{most_bytes, most_parts, parts_of}
use Rattle.nzb_writer.specs.Canonical.{nzb_text}
use Rattle.link_dialog.specs.Talk.{Start}
use Rattle.poster.specs.Index.{AreOutcomes, index_of}
use Rattle.poster.specs.Plan.{IsPlanOf}
use Rattle.poster.specs.Session.{HasSent, HasStopped, WasOver, WasRefused}
use Rattle.poster.specs.declared.index.PartEnd.TheVariants.{Posted as PartPosted}
use Rattle.poster.specs.declared.index.Sent.{Sent}
use Rattle.poster.specs.declared.settings.Settings.{Settings}
use Rattle.command_words.specs.Post.{PostAsked}
use Rattle.input_files.specs.Reading.{Reading, IsFaultless, HasFailed, IsBelow}
use Rattle.usebin_cli.specs.Linked.{Linked, FailedToOpen, OpenedNone}
use Rattle.usebin_cli.specs.Login.{IsFileOfLength, IsLoginAt, IsLoginBroken, IsLoginTooLong}
use Rattle.usebin_cli.specs.PostText.{part_lines}
use Rattle.usebin_cli.specs.Writing.{Written, WroteWhole, WroteFront}
use Rattle.run_ends.specs.declared.end.End.{End}
use Rattle.run_ends.specs.declared.end.End.TheVariants.{Done, NotAllPosted, InputFault, OutputFault, NoLink, Short, Limit as Passes, LoginBroken, NoMemory, Refused, Over}
use Rattle.run_ends.specs.declared.end.Limit.{Limit}
use Rattle.run_ends.specs.declared.end.Limit.TheVariants as limits
use Rattle.usebin_cli.specs.declared.post.PlannedFile.{PlannedFile}
use Rattle.usebin_cli.specs.declared.post.PostedFile.{PostedFile}

-- ---- what is posted

-- what the words ask for, with a login or without
abbrev pub settings_of : PostAsked → Option Login → Settings
settings_of asked login = record {
  server = asked.server;
  login = login;
  from = asked.from;
  newsgroups = asked.newsgroups;
  token = asked.token;
  domain = asked.domain;
  comment = asked.comment;
  name = asked.name;
  line = asked.line;
  part_size = asked.part_size;
  patience = asked.patience;
}

-- what the input tells of the opened file at a path, which has this length
abbrev pub IsContentAt : List ℕ → Option (List (List ℕ × List ℕ)) → ℕ → Option (List ℕ) → Type 0
IsContentAt path None size content = content ≡ None
IsContentAt path (Some files) size content = (bytes : List ℕ) × (file_of path files ≡ Some bytes) × (content ≡ Some bytes) × (length bytes ≡ size)

-- what a session begins with
abbrev pub start_of : Settings → Linked → Start
start_of s t = record { before = t.trace_before; address = s.server; login = s.login }

-- ---- on the way

-- The file was planned: how it is posted, by which login, in which parts, and what the input tells of it.
pub record IsPlanned (asked : PostAsked) (files : Option (List (List ℕ × List ℕ))) (current : Option ℕ) (content : Option (List ℕ)) (file : PlannedFile) : Type 0 where
  pub login_is : IsLoginAt asked.server asked.login files file.settings.login
  pub settings_are : file.settings ≡ settings_of asked file.settings.login
  pub plan_is : IsPlanOf file.settings file.plan.size file.plan
  pub opened : current ≡ Some file.plan.size
  pub told : IsContentAt asked.path files file.plan.size content

-- No link was opened, or a session over one stopped behind a part of the planned file: no POST was refused in it, and each part
-- that was begun has its answer.
pub record StoppedAsked (asked : PostAsked) (files : Option (List (List ℕ × List ℕ))) (current : Option ℕ) (t : Linked) : Type 0 where
  pub file : PlannedFile
  pub content : Option (List ℕ)
  pub planned : IsPlanned asked files current content file
  pub stopped : HasStopped file.settings file.plan.size (length file.plan.parts) content (start_of file.settings t) t.trace_now

abbrev pub HasStoppedOrNot : PostAsked → Option (List (List ℕ × List ℕ)) → Option ℕ → Linked → Type 0
HasStoppedOrNot asked files current t = OpenedNone t ⊎ StoppedAsked asked files current t

-- the session over one link and what it made of the parts; POST was refused in it, or not
abbrev pub Went : Option ℕ → Settings → (size total : ℕ) → Option (List ℕ) → Start → Option (List LinkEvent) → List Sent → Type 0
Went None s size total content start now sent = HasSent s size total content start now sent
Went (Some code) s size total content start now sent = WasRefused s size total content start now code sent

-- the file was posted, with these outcomes
pub record IsPosted (asked : PostAsked) (files : Option (List (List ℕ × List ℕ))) (r : Reading) (t : Linked) (posted : PostedFile) : Type 0 where
  pub faultless : IsFaultless r
  pub content : Option (List ℕ)
  pub planned : IsPlanned asked files r.current content posted.file
  pub went : Went posted.refused posted.file.settings posted.file.plan.size (length posted.file.plan.parts) content (start_of posted.file.settings t) t.trace_now posted.sent
  pub outcomes : AreOutcomes posted.file.plan posted.sent

-- each part was posted
abbrev pub AreAllPosted : List Sent → Type 0
AreAllPosted sent = All (λ s. s.end ≡ PartPosted) sent

-- the NZB text of what was posted at a moment
abbrev pub posted_text : PostedFile → ℕ → List ℕ
posted_text posted moment = nzb_text (index_of posted.file.settings posted.file.plan posted.sent moment)

-- nothing is told of the failed call, or that it was a read, or the opening of the file or of the login file
abbrev pub IsPostCall : PostAsked → Option Blame → Type 0
IsPostCall asked None = ⊤
IsPostCall asked (Some (blames.Read place)) = ⊤
IsPostCall asked (Some (blames.Open name)) = (name ≡ asked.path) ⊎ (Some name ≡ asked.login)
IsPostCall asked (Some other) = ⊥

-- what is wrong with a file of this length, if anything is: it has too many bytes, or too many parts
abbrev pub IsTooLarge : PostAsked → Option ℕ → Limit → Type 0
IsTooLarge asked current limits.File = IsSomeAnd current (λ size. most_bytes < size)
IsTooLarge asked current limits.Segments = IsSomeAnd current (λ size. (size ≤ most_bytes) × (most_parts < parts_of size asked.part_size))
IsTooLarge asked current other = ⊥

-- a file of this length, if there is one, isn't too large
abbrev pub FitsPost : PostAsked → Option ℕ → Type 0
FitsPost asked current = IfSome current (λ size. (size ≤ most_bytes) × (parts_of size asked.part_size ≤ most_parts))

-- the input tells the file at the path, and it isn't too large
abbrev pub FitsAt : PostAsked → List (List ℕ × List ℕ) → Type 0
FitsAt asked files = (bytes : List ℕ) × (file_of asked.path files ≡ Some bytes) × FitsPost asked (Some (length bytes))

-- the file at the path was opened, and has this length, which is too large
pub record IsRefusedFile (asked : PostAsked) (files : Option (List (List ℕ × List ℕ))) (current : Option ℕ) (limit : Limit) : Type 0 where
  pub large : IsTooLarge asked current limit
  pub told : IsFileOfLength asked.path files current

-- ---- how it ends

-- the planned file's session was over before a byte of any article went out
pub record HasBeenOver (asked : PostAsked) (files : Option (List (List ℕ × List ℕ))) (current : Option ℕ) (t : Linked) (reason : Why) : Type 0 where
  pub file : PlannedFile
  pub content : Option (List ℕ)
  pub planned : IsPlanned asked files current content file
  pub over : WasOver file.settings file.plan.size (length file.plan.parts) content (start_of file.settings t) t.trace_now reason

-- the file was posted, none of its POST refused, its index was written so, and the parts that aren't posted were noted
pub record WrotePosted (how : List ℕ → Written → Type 0) (asked : PostAsked) (files : Option (List (List ℕ × List ℕ))) (moment : ℕ) (r : Reading) (t : Linked) (w : Written) (note : Option (List ℕ)) (posted : PostedFile) : Type 0 where
  pub is_posted : IsPosted asked files r t posted
  pub permitted : posted.refused ≡ None
  pub written : how (posted_text posted moment) w
  pub noted : note ≡ Some (part_lines 1 posted.sent)

-- the file was posted until POST was refused with this code, and the parts that aren't posted were noted
pub record WasRefusedAsked (asked : PostAsked) (files : Option (List (List ℕ × List ℕ))) (r : Reading) (t : Linked) (note : Option (List ℕ)) (code : ℕ) : Type 0 where
  pub posted : PostedFile
  pub is_posted : IsPosted asked files r t posted
  pub refusal : posted.refused ≡ Some code
  pub noted : note ≡ Some (part_lines 1 posted.sent)

-- what each end of `post` says of the input, of the links, of the output and of what was noted, beside what it has in common
-- with others
abbrev pub Posts : PostAsked → Option (List (List ℕ × List ℕ)) → ℕ → Reading → Linked → Written → Option (List ℕ) → End → Type 0
Posts asked files moment r t w told Done = (posted : PostedFile) × WrotePosted WroteWhole asked files moment r t w told posted × AreAllPosted posted.sent
Posts asked files moment r t w told NotAllPosted = (posted : PostedFile) × WrotePosted WroteWhole asked files moment r t w told posted × ¬ AreAllPosted posted.sent
Posts asked files moment r t w told OutputFault = (posted : PostedFile) × WrotePosted WroteFront asked files moment r t w told posted
Posts asked files moment r t w told (Refused code) = WasRefusedAsked asked files r t told code
Posts asked files moment r t w told (Over reason) = HasBeenOver asked files r.current t reason
Posts asked files moment r t w told NoLink = FailedToOpen asked.server t
Posts asked files moment r t w told NoMemory = HasStoppedOrNot asked files r.current t ⊎ ((posted : PostedFile) × IsPosted asked files r t posted)
Posts asked files moment r t w told InputFault = HasFailed (IsPostCall asked) r × HasStoppedOrNot asked files r.current t
Posts asked files moment r t w told (Short place) = IsBelow r.current place × HasStoppedOrNot asked files r.current t
Posts asked files moment r t w told (Passes limits.Login) = IsLoginTooLong asked.login files r.current × OpenedNone t
Posts asked files moment r t w told (Passes limit) = IsRefusedFile asked files r.current limit × OpenedNone t
Posts asked files moment r t w told (LoginBroken number) = IsLoginBroken asked.login files number × OpenedNone t
Posts asked files moment r t w told other = ⊥

-- how a post of these outcomes ends where the text of its index was written whole
abbrev pub IsWholeEnd : List Sent → End → Type 0
IsWholeEnd sent end = ((end ≡ Done) × AreAllPosted sent) ⊎ ((end ≡ NotAllPosted) × ¬ AreAllPosted sent)
