-- Worked fetches, computed event by event.
use Rattle.std.proofs.Common.{◌≡◌, ◌+◌, ◌&&◌, ℕ, Bool, true, false, List, [], ◌∷◌, ◌++◌, Option, Some, None, map, refl}
use Rattle.std.specs.Prelude.{codes, slice_get}
use Rattle.nntp_lines.specs.Command.{body_line}
use Rattle.nntp_lines.specs.StatusLine.{status_of}
use Rattle.dot_blocks.specs.BlockReading.{block_from}
use Rattle.crc_field.specs.Crc.{remainder_after, message_bits, low_bits, divided}
use Rattle.yenc_lines.specs.Keywords.{begin_of, part_of, end_of}
use Rattle.yenc_body.specs.Body.{end_fault}
use Rattle.yenc_body.specs.BodyReading.{line_of, place_from}
use Rattle.io_traits.specs.declared.links.LinkEvent.{LinkEvent}
use Rattle.io_traits.specs.declared.links.LinkEvent.TheVariants.{Sent, Heard, Quiet, Ended}
use Rattle.nntp_lines.specs.declared.why.Why.{Why}
use Rattle.nntp_lines.specs.declared.why.Why.TheVariants as why
use Rattle.range_assembler.specs.declared.assembler.Hold.TheVariants.{Free}
use Rattle.range_assembler.specs.Entries.{entries_of, kept_size}
use Rattle.range_assembler.specs.Missing.{all_missing, is_complete}
use Rattle.pipeline_core.specs.Pipeline.{next_segment, is_finished, segment_state}
use Rattle.pipeline_core.specs.declared.state.SegmentState.{SegmentState}
use Rattle.fetch_trace.specs.Setting.{Opening, Setting}
use Rattle.fetch_trace.specs.Verdicts.{Verdict}
use Rattle.fetch_trace.specs.Verdicts.Verdict.{Accepted, Absent, Refused, Clashes, OtherSize}
use Rattle.fetch_trace.specs.LinkNow.{LinkNow}
use Rattle.fetch_trace.specs.Standing.{Standing, pipeline_of}
use Rattle.fetch_trace.specs.Due.{Due, due_on}
use Rattle.fetch_trace.specs.Moving.{standing_at}
use Rattle.fetch_trace.specs.Standing.{before_all}
use Rattle.fetch_trace.specs.LawfulReading.{is_lawful, is_at_end}
use Rattle.fetch_trace.specs.Turns.{are_in_turn}
use Rattle.nntp_lines.specs.declared.login.Login.{Login}

-- ---- what the rows are made of

-- a line with its CRLF
abbrev line : List ℕ → List ℕ
line text = text ++ 13 ∷ 10 ∷ []

abbrev id_of : ℕ → List ℕ
id_of segment = (49 + segment) ∷ codes "@x"

abbrev body : ℕ → List ℕ
body segment = line (body_line (id_of segment))

abbrev opening : ℕ → ℕ → Opening
opening server number = record { server = server; login = None; number = Some number }

-- a fetch of one file in so many parts
abbrev fetching : List Opening → List ℕ → ℕ → ℕ → Setting
fetching openings levels parts depth = record { openings = openings; levels = levels; entries = entries_of 0 (parts ∷ []); depth = depth; patience = 3; id = id_of }

abbrev hello : List ℕ
hello = line (codes "200 hi")

abbrev none : List ℕ
none = line (codes "430 none")

-- ---- what is read off

abbrev word : Verdict → ℕ
word (Accepted part whole) = 1
word (Absent code) = code
word (Refused fault) = 2
word (Clashes clash) = 3
word (OtherSize kept) = 4

abbrev word_of : Option Verdict → ℕ
word_of (Some verdict) = word verdict
word_of None = 0

-- of each segment: 0 where it is unanswered, 1 where it is accepted, else its code
abbrev words : Setting → List LinkEvent → List ℕ
words setting events = map word_of (standing_at setting events).ends

abbrev whys : Setting → List LinkEvent → List (Option Why)
whys setting events = map (λ (l : LinkNow). l.hearing.over) (standing_at setting events).links

abbrev next_on : Setting → List LinkEvent → ℕ → Option ℕ
next_on setting events link = next_segment (pipeline_of setting (standing_at setting events).links) link

abbrev state_of : Setting → List LinkEvent → ℕ → SegmentState
state_of setting events segment = segment_state (pipeline_of setting (standing_at setting events).links) segment

abbrev has_finished : Setting → List LinkEvent → Bool
has_finished setting events = is_finished (pipeline_of setting (standing_at setting events).links)

abbrev text_due : Option Due → List ℕ
text_due (Some due) = due.text
text_due None = []

abbrev due_by : Setting → Standing → ℕ → Option LinkNow → List ℕ
due_by setting s i (Some l) = text_due (due_on setting (pipeline_of setting s.links) i l)
due_by setting s i None = []

-- the command that is due on a link
abbrev due_at : Setting → List LinkEvent → ℕ → List ℕ
due_at setting events i = due_by setting (standing_at setting events) i (slice_get (standing_at setting events).links i)

-- the trace may come so, and the fetch is at its end
abbrev is_whole : Setting → List LinkEvent → Bool
is_whole setting events = is_lawful setting (before_all setting) events && is_at_end setting (standing_at setting events) && are_in_turn setting (before_all setting) events

abbrev may_begin : Setting → List LinkEvent → Bool
may_begin setting events = is_lawful setting (before_all setting) events

-- its receives go round the links
abbrev goes_round : Setting → List LinkEvent → Bool
goes_round setting events = are_in_turn setting (before_all setting) events

abbrev missing : Setting → List LinkEvent → List (ℕ × ℕ)
missing setting events = all_missing 0 (standing_at setting events).entries

abbrev quit : List ℕ
quit = line (codes "QUIT")

-- ---- articles

-- `123456789` as a data line
abbrev article : List ℕ → List ℕ → List ℕ
article head trailer = line (codes "222 0") ++ head ++ line (codes "[\\]^_`abc") ++ line trailer ++ line (codes ".")

abbrev head_d : List ℕ
head_d = line (codes "=ybegin line=128 size=9 name=d")

abbrev whole_d : List ℕ
whole_d = article head_d (codes "=yend size=9")

abbrev head_t : List ℕ → List ℕ → List ℕ
head_t number range = line (codes "=ybegin part=" ++ number ++ codes " line=128 size=27 name=t") ++ line (codes "=ypart " ++ range)

abbrev trailer_t : List ℕ
trailer_t = codes "=yend size=9 pcrc32=cbf43926"

abbrev first_part : List ℕ
first_part = article (head_t (codes "1") (codes "begin=1 end=9")) trailer_t

abbrev second_part : List ℕ
second_part = article (head_t (codes "2") (codes "begin=10 end=18")) trailer_t

abbrev third_part : List ℕ
third_part = article (head_t (codes "3") (codes "begin=19 end=27")) trailer_t

-- ---- one article and two links, the first of which ends one byte before the end of the block

abbrev two_links : Setting
two_links = fetching (opening 0 0 ∷ opening 0 1 ∷ []) (0 ∷ []) 1 8

abbrev cut_article : List LinkEvent
cut_article =
    Heard 0 hello ∷ Sent 0 (body 0) ∷ Heard 1 hello ∷
    Heard 0 (line (codes "222 0") ++ head_d ++ line (codes "[\\]^_`abc") ++ line (codes "=yend size=9") ++ codes ".\r") ∷ Ended 0 ∷ []

abbrev cut_then_whole : List LinkEvent
cut_then_whole = cut_article ++ Sent 1 (body 0) ∷ Heard 1 whole_d ∷ Sent 1 quit ∷ []

cut_words : words two_links cut_article ≡ 0 ∷ []
unfolding status_of block_from line_of place_from begin_of part_of end_of end_fault remainder_after message_bits low_bits divided
cut_words = refl

-- the segment is asked for on the other link
cut_again : next_on two_links cut_article 1 ≡ Some 0
unfolding status_of block_from line_of place_from begin_of part_of end_of end_fault remainder_after message_bits low_bits divided
cut_again = refl

-- its range was given up
cut_holds_nothing : (standing_at two_links cut_article).entries ≡ record { file = 0; hold = Free; first = 1; last = 9 } ∷ []
unfolding status_of block_from line_of place_from begin_of part_of end_of end_fault remainder_after message_bits low_bits divided
cut_holds_nothing = refl

whole_words : words two_links cut_then_whole ≡ 1 ∷ []
unfolding status_of block_from line_of place_from begin_of part_of end_of end_fault remainder_after message_bits low_bits divided
whole_words = refl

whole_ends : whys two_links cut_then_whole ≡ Some why.Ended ∷ None ∷ []
unfolding status_of block_from line_of place_from begin_of part_of end_of end_fault remainder_after message_bits low_bits divided
whole_ends = refl

whole_complete : is_complete 0 (standing_at two_links cut_then_whole).entries ≡ true
unfolding status_of block_from line_of place_from begin_of part_of end_of end_fault remainder_after message_bits low_bits divided
whole_complete = refl

whole_lawful : is_whole two_links cut_then_whole ≡ true
unfolding status_of block_from line_of place_from begin_of part_of end_of end_fault remainder_after message_bits low_bits divided
whole_lawful = refl

abbrev one_link : Setting
one_link = fetching (opening 0 0 ∷ []) (0 ∷ []) 1 8

abbrev cut_alone : List LinkEvent
cut_alone =
    Heard 0 hello ∷ Sent 0 (body 0) ∷
    Heard 0 (line (codes "222 0") ++ head_d ++ line (codes "[\\]^_`abc") ++ line (codes "=yend size=9") ++ codes ".\r") ∷ Ended 0 ∷ []

-- with that link alone
alone_words : words one_link cut_alone ≡ 0 ∷ []
unfolding status_of block_from line_of place_from begin_of part_of end_of end_fault remainder_after message_bits low_bits divided
alone_words = refl

alone_size : kept_size 0 (standing_at one_link cut_alone).entries ≡ None
unfolding status_of block_from line_of place_from begin_of part_of end_of end_fault remainder_after message_bits low_bits divided
alone_size = refl

alone_lawful : is_whole one_link cut_alone ≡ true
unfolding status_of block_from line_of place_from begin_of part_of end_of end_fault remainder_after message_bits low_bits divided
alone_lawful = refl

-- ---- three parts, of which both servers lack the second

abbrev two_servers : Setting
two_servers = fetching (opening 0 0 ∷ opening 1 1 ∷ []) (0 ∷ 0 ∷ []) 3 8

abbrev lacks_second : List LinkEvent
lacks_second =
    Heard 0 hello ∷ Sent 0 (body 0) ∷ Sent 0 (body 1) ∷ Sent 0 (body 2) ∷ Heard 1 hello ∷
    Heard 0 (first_part ++ none ++ third_part) ∷ Sent 1 (body 1) ∷ Heard 1 none ∷ Sent 0 quit ∷ Sent 1 quit ∷ []

second_words : words two_servers lacks_second ≡ 1 ∷ 430 ∷ 1 ∷ []
unfolding status_of block_from line_of place_from begin_of part_of end_of end_fault remainder_after message_bits low_bits divided
second_words = refl

second_missing : missing two_servers lacks_second ≡ (10, 18) ∷ []
unfolding status_of block_from line_of place_from begin_of part_of end_of end_fault remainder_after message_bits low_bits divided
second_missing = refl

second_lawful : is_whole two_servers lacks_second ≡ true
unfolding status_of block_from line_of place_from begin_of part_of end_of end_fault remainder_after message_bits low_bits divided
second_lawful = refl

-- ---- all parts are absent on both servers

abbrev asked_both : List LinkEvent
asked_both = Heard 0 hello ∷ Sent 0 (body 0) ∷ Sent 0 (body 1) ∷ Sent 0 (body 2) ∷ Heard 1 hello ∷ []

abbrev all_absent : List LinkEvent
all_absent =
    asked_both ++ Heard 0 (none ++ none ++ none) ∷ Sent 1 (body 0) ∷ Sent 1 (body 1) ∷ Sent 1 (body 2) ∷ Heard 1 (none ++ none) ∷
    Heard 1 none ∷ Sent 0 quit ∷ Sent 1 quit ∷ []

both_wait : next_on two_servers asked_both 1 ≡ None
unfolding status_of
both_wait = refl

first_absent : next_on two_servers (asked_both ++ Heard 0 none ∷ []) 1 ≡ Some 0
unfolding status_of
first_absent = refl

absent_words : words two_servers all_absent ≡ 430 ∷ 430 ∷ 430 ∷ []
unfolding status_of
absent_words = refl

absent_size : kept_size 0 (standing_at two_servers all_absent).entries ≡ None
unfolding status_of
absent_size = refl

absent_lawful : is_whole two_servers all_absent ≡ true
unfolding status_of
absent_lawful = refl

-- without the second QUIT it isn't at its end
absent_needs_quit : is_whole two_servers (asked_both ++ Heard 0 (none ++ none ++ none) ∷ Sent 1 (body 0) ∷ Sent 1 (body 1) ∷ Sent 1 (body 2) ∷ Heard 1 (none ++ none) ∷ Heard 1 none ∷ Sent 0 quit ∷ []) ≡ false
unfolding status_of
absent_needs_quit = refl

-- ---- one link: the second of three parts is absent, or the link ends inside its block

abbrev three_parts : Setting
three_parts = fetching (opening 0 0 ∷ []) (0 ∷ []) 3 8

abbrev asked_three : List LinkEvent
asked_three = Heard 0 hello ∷ Sent 0 (body 0) ∷ Sent 0 (body 1) ∷ Sent 0 (body 2) ∷ []

abbrev second_absent : List LinkEvent
second_absent = asked_three ++ Heard 0 first_part ∷ Heard 0 (none ++ third_part) ∷ Sent 0 quit ∷ []

abbrev second_cut : List LinkEvent
second_cut = asked_three ++ Heard 0 (first_part ++ line (codes "222 0") ++ head_t (codes "2") (codes "begin=10 end=18") ++ codes "[\\]") ∷ Ended 0 ∷ []

one_absent_words : words three_parts second_absent ≡ 1 ∷ 430 ∷ 1 ∷ []
unfolding status_of block_from line_of place_from begin_of part_of end_of end_fault remainder_after message_bits low_bits divided
one_absent_words = refl

one_absent_missing : missing three_parts second_absent ≡ (10, 18) ∷ []
unfolding status_of block_from line_of place_from begin_of part_of end_of end_fault remainder_after message_bits low_bits divided
one_absent_missing = refl

one_absent_lawful : is_whole three_parts second_absent ≡ true
unfolding status_of block_from line_of place_from begin_of part_of end_of end_fault remainder_after message_bits low_bits divided
one_absent_lawful = refl

second_cut_words : words three_parts second_cut ≡ 1 ∷ 0 ∷ 0 ∷ []
unfolding status_of block_from line_of place_from begin_of part_of end_of end_fault remainder_after message_bits low_bits divided
second_cut_words = refl

second_cut_missing : missing three_parts second_cut ≡ (10, 27) ∷ []
unfolding status_of block_from line_of place_from begin_of part_of end_of end_fault remainder_after message_bits low_bits divided
second_cut_missing = refl

second_cut_lawful : is_whole three_parts second_cut ≡ true
unfolding status_of block_from line_of place_from begin_of part_of end_of end_fault remainder_after message_bits low_bits divided
second_cut_lawful = refl

-- ---- at most two commands lack their answer

abbrev depth_two : Setting
depth_two = fetching (opening 0 0 ∷ []) (0 ∷ []) 3 2

abbrev two_at_once : List LinkEvent
two_at_once = Heard 0 hello ∷ Sent 0 (body 0) ∷ Sent 0 (body 1) ∷ Heard 0 first_part ∷ Sent 0 (body 2) ∷ Heard 0 second_part ∷ Heard 0 third_part ∷ Sent 0 quit ∷ []

depth_words : words depth_two two_at_once ≡ 1 ∷ 1 ∷ 1 ∷ []
unfolding status_of block_from line_of place_from begin_of part_of end_of end_fault remainder_after message_bits low_bits divided
depth_words = refl

depth_lawful : is_whole depth_two two_at_once ≡ true
unfolding status_of block_from line_of place_from begin_of part_of end_of end_fault remainder_after message_bits low_bits divided
depth_lawful = refl

-- a pipeline with room left isn't lawful before a receive
depth_full : may_begin depth_two (Heard 0 hello ∷ Sent 0 (body 0) ∷ Heard 0 first_part ∷ []) ≡ false
unfolding status_of block_from line_of place_from begin_of part_of end_of end_fault remainder_after message_bits low_bits divided
depth_full = refl

-- and neither is a third command
depth_more : may_begin depth_two (Heard 0 hello ∷ Sent 0 (body 0) ∷ Sent 0 (body 1) ∷ Sent 0 (body 2) ∷ []) ≡ false
unfolding status_of
depth_more = refl

-- ---- a fallback server

abbrev fallback : Setting
fallback = fetching (opening 0 0 ∷ opening 1 1 ∷ []) (0 ∷ 1 ∷ []) 3 8

abbrev all_first : List LinkEvent
all_first = Heard 0 hello ∷ Sent 0 (body 0) ∷ Sent 0 (body 1) ∷ Sent 0 (body 2) ∷ Heard 1 hello ∷ Heard 0 (first_part ++ second_part ++ third_part) ∷ Sent 0 quit ∷ Sent 1 quit ∷ []

abbrev one_from_fallback : List LinkEvent
one_from_fallback =
    Heard 0 hello ∷ Sent 0 (body 0) ∷ Sent 0 (body 1) ∷ Sent 0 (body 2) ∷ Heard 1 hello ∷ Heard 0 (first_part ++ none) ∷ Sent 1 (body 1) ∷ Heard 1 second_part ∷
    Heard 0 third_part ∷ Sent 0 quit ∷ Sent 1 quit ∷ []

abbrev all_from_fallback : List LinkEvent
all_from_fallback =
    Heard 0 hello ∷ Sent 0 (body 0) ∷ Sent 0 (body 1) ∷ Sent 0 (body 2) ∷ Heard 1 hello ∷ Ended 0 ∷ Sent 1 (body 0) ∷ Sent 1 (body 1) ∷ Sent 1 (body 2) ∷
    Heard 1 (first_part ++ second_part ++ third_part) ∷ Sent 1 quit ∷ []

-- it is asked for nothing
fallback_unasked : is_whole fallback all_first ≡ true
unfolding status_of block_from line_of place_from begin_of part_of end_of end_fault remainder_after message_bits low_bits divided
fallback_unasked = refl

-- it may not be asked at once
fallback_at_once : may_begin fallback (Heard 0 hello ∷ Heard 1 hello ∷ Sent 1 (body 0) ∷ []) ≡ false
unfolding status_of
fallback_at_once = refl

fallback_at_once_too : may_begin fallback (Heard 0 hello ∷ Sent 0 (body 0) ∷ Sent 0 (body 1) ∷ Sent 0 (body 2) ∷ Heard 1 hello ∷ Sent 1 (body 0) ∷ []) ≡ false
unfolding status_of
fallback_at_once_too = refl

-- it is asked for what the first server lacks
fallback_words : words fallback one_from_fallback ≡ 1 ∷ 1 ∷ 1 ∷ []
unfolding status_of block_from line_of place_from begin_of part_of end_of end_fault remainder_after message_bits low_bits divided
fallback_words = refl

fallback_lawful : is_whole fallback one_from_fallback ≡ true
unfolding status_of block_from line_of place_from begin_of part_of end_of end_fault remainder_after message_bits low_bits divided
fallback_lawful = refl

-- and for all that a lost link leaves
fallback_all_words : words fallback all_from_fallback ≡ 1 ∷ 1 ∷ 1 ∷ []
unfolding status_of block_from line_of place_from begin_of part_of end_of end_fault remainder_after message_bits low_bits divided
fallback_all_words = refl

fallback_all_lawful : is_whole fallback all_from_fallback ≡ true
unfolding status_of block_from line_of place_from begin_of part_of end_of end_fault remainder_after message_bits low_bits divided
fallback_all_lawful = refl

-- also where a command was cut short
cut_command : next_on fallback (Heard 0 hello ∷ Heard 1 hello ∷ Sent 0 (codes "BOD") ∷ Ended 0 ∷ []) 1 ≡ Some 0
unfolding status_of
cut_command = refl

-- ---- a login

abbrev bob : Login
bob = record { user = codes "bob"; pass = codes "secret" }

abbrev with_login : Setting
with_login = fetching (record { server = 0; login = Some bob; number = Some 0 } ∷ []) (0 ∷ []) 1 8

abbrev user : List ℕ
user = line (codes "AUTHINFO USER bob")

abbrev pass : List ℕ
pass = line (codes "AUTHINFO PASS secret")

abbrev logged_in : List LinkEvent
logged_in = Heard 0 hello ∷ Sent 0 user ∷ Heard 0 (line (codes "381 more")) ∷ Sent 0 pass ∷ Heard 0 (line (codes "281 in")) ∷ Sent 0 (body 0) ∷ Heard 0 whole_d ∷ Sent 0 quit ∷ []

login_words : words with_login logged_in ≡ 1 ∷ []
unfolding status_of block_from line_of place_from begin_of part_of end_of end_fault remainder_after message_bits low_bits divided
login_words = refl

login_lawful : is_whole with_login logged_in ≡ true
unfolding status_of block_from line_of place_from begin_of part_of end_of end_fault remainder_after message_bits low_bits divided
login_lawful = refl

-- no BODY before the login
login_first : may_begin with_login (Heard 0 hello ∷ Sent 0 (body 0) ∷ []) ≡ false
unfolding status_of
login_first = refl

login_refused : whys with_login (Heard 0 hello ∷ Sent 0 user ∷ Heard 0 (line (codes "381 more")) ∷ Sent 0 pass ∷ Heard 0 (line (codes "481 refused")) ∷ []) ≡ Some (why.Login 481) ∷ []
unfolding status_of
login_refused = refl

no_login_there : whys with_login (Heard 0 hello ∷ Sent 0 user ∷ Heard 0 (line (codes "502 no")) ∷ []) ≡ Some (why.Login 502) ∷ []
unfolding status_of
no_login_there = refl

-- the name alone may be enough
password_unasked : is_whole with_login (Heard 0 hello ∷ Sent 0 user ∷ Heard 0 (line (codes "281 in")) ∷ Sent 0 (body 0) ∷ Heard 0 none ∷ Sent 0 quit ∷ []) ≡ true
unfolding status_of
password_unasked = refl

-- ---- ranges that share offsets, and a sum that differs

abbrev two_parts : Setting
two_parts = fetching (opening 0 0 ∷ opening 0 1 ∷ []) (0 ∷ []) 2 1

abbrev head_of_18 : List ℕ → List ℕ → List ℕ
head_of_18 number range = line (codes "=ybegin part=" ++ number ++ codes " line=128 size=18 name=t") ++ line (codes "=ypart " ++ range)

abbrev one_of_18 : List ℕ
one_of_18 = article (head_of_18 (codes "1") (codes "begin=1 end=9")) trailer_t

abbrev two_of_18 : List ℕ
two_of_18 = article (head_of_18 (codes "2") (codes "begin=5 end=13")) trailer_t

abbrev one_begun : List ℕ
one_begun = line (codes "222 0") ++ head_of_18 (codes "1") (codes "begin=1 end=9")

-- the range of an article that another link then loses stands against a second one
abbrev held_and_lost : List LinkEvent
held_and_lost =
    Heard 0 hello ∷ Sent 0 (body 0) ∷ Heard 1 hello ∷ Sent 1 (body 1) ∷ Heard 0 one_begun ∷ Heard 1 two_of_18 ∷ Ended 0 ∷ Sent 1 (body 0) ∷ Heard 1 one_of_18 ∷ Sent 1 quit ∷ []

clash_ends : words two_parts held_and_lost ≡ 1 ∷ 3 ∷ []
unfolding status_of block_from line_of place_from begin_of part_of end_of end_fault remainder_after message_bits low_bits divided
clash_ends = refl

clash_missing : missing two_parts held_and_lost ≡ (10, 18) ∷ []
unfolding status_of block_from line_of place_from begin_of part_of end_of end_fault remainder_after message_bits low_bits divided
clash_missing = refl

clash_lawful : is_whole two_parts held_and_lost ≡ true
unfolding status_of block_from line_of place_from begin_of part_of end_of end_fault remainder_after message_bits low_bits divided
clash_lawful = refl

differing_sum : words one_link (Heard 0 hello ∷ Sent 0 (body 0) ∷ Heard 0 (article head_d (codes "=yend size=9 crc32=cbf43927")) ∷ []) ≡ 2 ∷ []
unfolding status_of block_from line_of place_from begin_of part_of end_of end_fault remainder_after message_bits low_bits divided
differing_sum = refl

-- ---- hostile replies

unasked : whys two_servers (Heard 0 (hello ++ 50 ∷ []) ∷ []) ≡ Some why.Unasked ∷ None ∷ []
unfolding status_of
unasked = refl

unasked_behind : words one_link (Heard 0 hello ∷ Sent 0 (body 0) ∷ Heard 0 (none ++ 120 ∷ []) ∷ []) ≡ 430 ∷ []
unfolding status_of
unasked_behind = refl

unasked_why : whys one_link (Heard 0 hello ∷ Sent 0 (body 0) ∷ Heard 0 (none ++ 120 ∷ []) ∷ []) ≡ Some why.Unasked ∷ []
unfolding status_of
unasked_why = refl

odd : whys one_link (Heard 0 hello ∷ Sent 0 (body 0) ∷ Heard 0 (line (codes "500 what")) ∷ []) ≡ Some (why.Odd 500) ∷ []
unfolding status_of
odd = refl

no_reply : whys one_link (Heard 0 hello ∷ Sent 0 (body 0) ∷ Heard 0 (line (codes "2x2")) ∷ []) ≡ Some why.NoReply ∷ []
unfolding status_of
no_reply = refl

quiet : whys one_link (Heard 0 hello ∷ Sent 0 (body 0) ∷ Quiet 0 ∷ Quiet 0 ∷ Quiet 0 ∷ []) ≡ Some why.Quiet ∷ []
unfolding status_of
quiet = refl

quiet_lawful : is_whole one_link (Heard 0 hello ∷ Sent 0 (body 0) ∷ Quiet 0 ∷ Quiet 0 ∷ Quiet 0 ∷ []) ≡ true
unfolding status_of
quiet_lawful = refl

-- ---- a link that wasn't opened

abbrev half_open : Setting
half_open = fetching (record { server = 0; login = None; number = None } ∷ opening 1 0 ∷ []) (0 ∷ 1 ∷ []) 1 8

-- its server is passed over, also by a fallback
half_open_lawful : is_whole half_open (Heard 0 hello ∷ Sent 0 (body 0) ∷ Heard 0 none ∷ Sent 0 quit ∷ []) ≡ true
unfolding status_of
half_open_lawful = refl

-- ---- links in rotation, whatever their numbers

abbrev numbered : Setting
numbered = fetching (record { server = 0; login = None; number = None } ∷ opening 1 5 ∷ opening 1 6 ∷ []) (0 ∷ 0 ∷ []) 2 1

abbrev both_asked : List LinkEvent
both_asked = Heard 6 hello ∷ Sent 6 (body 0) ∷ Heard 5 hello ∷ Sent 5 (body 1) ∷ []

in_turn : (may_begin numbered (both_asked ++ Heard 6 (codes "4") ∷ Heard 5 (codes "4") ∷ Heard 6 (codes "30") ∷ []) && goes_round numbered (both_asked ++ Heard 6 (codes "4") ∷ Heard 5 (codes "4") ∷ Heard 6 (codes "30") ∷ [])) ≡ true
unfolding status_of
in_turn = refl

-- the same link twice, while the other awaits a reply: lawful, but out of turn
out_of_turn : may_begin numbered (both_asked ++ Heard 6 (codes "4") ∷ Heard 6 (codes "30") ∷ []) ≡ true
unfolding status_of
out_of_turn = refl

out_of_turn_too : goes_round numbered (both_asked ++ Heard 6 (codes "4") ∷ Heard 6 (codes "30") ∷ []) ≡ false
unfolding status_of
out_of_turn_too = refl

-- behind the end of a link any link may be next
after_an_end : goes_round numbered (both_asked ++ Heard 6 (codes "4") ∷ Ended 5 ∷ Heard 6 (codes "30") ∷ []) ≡ true
unfolding status_of
after_an_end = refl
