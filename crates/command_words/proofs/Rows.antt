-- Rows of words, computed.
use Rattle.std.proofs.Common.{◌≡◌, ℕ, true, false, List, [], ◌∷◌, ◌++◌, Ok, Err, Some, None, refl}
use Rattle.std.specs.Prelude.{codes}
use Rattle.command_words.specs.CommandLine.{words_of}
use Rattle.command_words.specs.CommandLine.Command.{Check, Decode, Encode, Index, Post}
use Rattle.command_words.specs.CommandLine.Words.{Asks, Refused}
use Rattle.command_words.specs.Fetch.{fetch_of}
use Rattle.command_words.specs.Index.{index_of, is_group, is_range}
use Rattle.command_words.specs.Keys.{has_leading_zero}
use Rattle.command_words.specs.Post.{post_of}
use Rattle.command_words.specs.PostValues.{is_comment, is_domain, is_from, is_newsgroups}
use Rattle.command_words.specs.Servers.{server_of}
use Rattle.command_words.specs.declared.keys.Form.TheVariants as form
use Rattle.limits.specs.declared.TheConstants.{MOST_PART_BYTES}

-- ---- words

pub no_word : words_of [] ≡ Refused 1
no_word = refl

pub unknown_command : words_of (codes "verify" ∷ []) ≡ Refused 1
unknown_command = refl

pub nothing_but_defaults : words_of (codes "encode" ∷ codes "--input" ∷ codes "a/d" ∷ []) ≡ Asks (Encode (record { path = codes "a/d"; name = codes "d"; line = 128; part_size = MOST_PART_BYTES; part = 1 }))
nothing_but_defaults = refl

pub all_keys : words_of (codes "encode" ∷ codes "--part" ∷ codes "2" ∷ codes "--name" ∷ codes "a b" ∷ codes "--part-size" ∷ codes "9" ∷ codes "--input" ∷ codes "d/" ∷ codes "--line" ∷ codes "64" ∷ [])
    ≡ Asks (Encode (record { path = codes "d/"; name = codes "a b"; line = 64; part_size = 9; part = 2 }))
all_keys = refl

pub saved_body : words_of (codes "decode" ∷ codes "--input" ∷ codes "d/" ∷ []) ≡ Asks (Decode (record { path = codes "d/"; form = form.File }))
saved_body = refl

pub saved_reply : words_of (codes "decode" ∷ codes "--form" ∷ codes "wire" ∷ codes "--input" ∷ codes "r" ∷ []) ≡ Asks (Decode (record { path = codes "r"; form = form.Wire }))
saved_reply = refl

pub other_form : words_of (codes "decode" ∷ codes "--form" ∷ codes "Wire" ∷ []) ≡ Refused 3
other_form = refl

-- the required key is missing, its value is, and its value is no path
pub no_input : words_of (codes "decode" ∷ []) ≡ Refused 2
no_input = refl

pub no_path : words_of (codes "decode" ∷ codes "--input" ∷ []) ≡ Refused 3
no_path = refl

pub empty_path : words_of (codes "decode" ∷ codes "--input" ∷ [] ∷ []) ≡ Refused 3
empty_path = refl

-- the second `--line` is refused, whatever its value
pub repeated_key : words_of (codes "encode" ∷ codes "--input" ∷ codes "d" ∷ codes "--line" ∷ codes "64" ∷ codes "--line" ∷ codes "65" ∷ []) ≡ Refused 6
repeated_key = refl

-- the path has no name: it is refused, but not where a name is given, be its value missing
pub no_default_name : words_of (codes "encode" ∷ codes "--input" ∷ codes "d/" ∷ codes "--line" ∷ codes "--name" ∷ []) ≡ Refused 3
no_default_name = refl

pub name_without_value : words_of (codes "encode" ∷ codes "--input" ∷ codes "d/" ∷ codes "--name" ∷ []) ≡ Refused 5
name_without_value = refl

pub line_too_long : words_of (codes "encode" ∷ codes "--line" ∷ codes "998" ∷ codes "--input" ∷ codes "d/" ∷ []) ≡ Refused 3
line_too_long = refl

pub checked_text : words_of (codes "check" ∷ codes "--nzb" ∷ codes "a.nzb" ∷ []) ≡ Asks (Check (codes "a.nzb"))
checked_text = refl

pub no_text : words_of (codes "check" ∷ codes "--input" ∷ codes "a.nzb" ∷ []) ≡ Refused 2
no_text = refl

-- ---- numbers

pub zero_alone : has_leading_zero (codes "0") ≡ false
zero_alone = refl

pub zero_in_front : has_leading_zero (codes "01") ≡ true
zero_in_front = refl

pub line_with_a_zero_in_front : words_of (codes "encode" ∷ codes "--line" ∷ codes "0128" ∷ codes "--input" ∷ codes "d" ∷ []) ≡ Refused 3
line_with_a_zero_in_front = refl

-- ---- post

abbrev where_to : List (List ℕ)
where_to = codes "--server" ∷ codes "h:119" ∷ codes "--from" ∷ codes "a b" ∷ codes "--group" ∷ codes "a.b,c" ∷ codes "--token" ∷ codes "t" ∷ []

pub posted_file : post_of (codes "--input" ∷ codes "a/d" ∷ where_to ++ codes "--domain" ∷ codes "e.f" ∷ [])
    ≡ Ok (record {
      path = codes "a/d";
      server = codes "h:119";
      from = codes "a b";
      newsgroups = codes "a.b,c";
      token = codes "t";
      domain = codes "e.f";
      name = codes "d";
      comment = [];
      line = 128;
      part_size = 750000;
      patience = 1500;
      login = None;
    })
posted_file = refl

-- the domain is missing
pub no_domain : post_of (codes "--input" ∷ codes "a/d" ∷ where_to) ≡ Err 12
no_domain = refl

pub other_server : post_of (codes "--server" ∷ codes "h" ∷ []) ≡ Err 3
other_server = refl

pub part_of_a_post : post_of (codes "--part" ∷ codes "1" ∷ []) ≡ Err 2
part_of_a_post = refl

pub from_with_a_space_in_front : is_from (codes " a") ≡ false
from_with_a_space_in_front = refl

pub empty_comment : is_comment [] ≡ true
empty_comment = refl

pub groups_with_a_space : is_newsgroups (codes "a, b") ≡ false
groups_with_a_space = refl

pub domain_with_two_dots : is_domain (codes "a..b") ≡ false
domain_with_two_dots = refl

-- ---- post

pub asks_to_post_a_file : words_of (codes "post" ∷ codes "--input" ∷ codes "d" ∷ codes "--server" ∷ codes "127.0.0.1:1190" ∷ codes "--from" ∷ codes "me@example.org" ∷ codes "--group" ∷ codes "alt.binaries.test" ∷ codes "--token" ∷ codes "tok" ∷ codes "--domain" ∷ codes "example.org" ∷ [])
    ≡ Asks (Post (record { path = codes "d"; server = codes "127.0.0.1:1190"; from = codes "me@example.org"; newsgroups = codes "alt.binaries.test"; token = codes "tok"; domain = codes "example.org"; name = codes "d"; comment = []; line = 128; part_size = 750000; patience = 1500; login = None }))
asks_to_post_a_file = refl

-- ---- index

abbrev from_where : List (List ℕ)
from_where = codes "--server" ∷ codes "h:119" ∷ codes "--group" ∷ codes "a.b" ∷ []

pub indexed_range : index_of (from_where ++ codes "--first" ∷ codes "1" ∷ codes "--last" ∷ codes "9" ∷ [])
    ≡ Ok (record { server = codes "h:119"; group = codes "a.b"; first = 1; last = 9; patience = 1500; login = None })
indexed_range = refl

pub asks_to_index_a_range : words_of (codes "index" ∷ codes "--login" ∷ codes "l" ∷ codes "--last" ∷ codes "7" ∷ codes "--first" ∷ codes "7" ∷ codes "--patience" ∷ codes "3" ∷ from_where)
    ≡ Asks (Index (record { server = codes "h:119"; group = codes "a.b"; first = 7; last = 7; patience = 3; login = Some (codes "l") }))
asks_to_index_a_range = refl

pub ten_million : is_range 1 10000000 ≡ true
ten_million = refl

pub one_more : is_range 1 10000001 ≡ false
one_more = refl

-- the later of the two is refused, unless a word before it is
pub last_below_first : index_of (codes "--first" ∷ codes "5" ∷ codes "--last" ∷ codes "4" ∷ codes "--bogus" ∷ []) ≡ Err 5
last_below_first = refl

pub first_above_last : index_of (codes "--last" ∷ codes "4" ∷ codes "--first" ∷ codes "5" ∷ from_where) ≡ Err 5
first_above_last = refl

pub word_before : index_of (codes "--first" ∷ codes "5" ∷ codes "--bogus" ∷ codes "x" ∷ codes "--last" ∷ codes "4" ∷ []) ≡ Err 4
word_before = refl

pub bad_first : index_of (codes "--first" ∷ codes "05" ∷ codes "--last" ∷ codes "4" ∷ []) ≡ Err 3
bad_first = refl

pub no_last : index_of (codes "--first" ∷ codes "5" ∷ from_where) ≡ Err 8
no_last = refl

pub two_groups : is_group (codes "a,b") ≡ false
two_groups = refl

-- ---- fetch

pub fetch_without_a_server : fetch_of (codes "--nzb" ∷ codes "a.nzb" ∷ []) ≡ Err 4
fetch_without_a_server = refl

pub level_that_is_no_digit : fetch_of (codes "--nzb" ∷ codes "a.nzb" ∷ codes "--server" ∷ codes "one:119@x" ∷ []) ≡ Err 5
level_that_is_no_digit = refl

pub two_servers : fetch_of (codes "--server" ∷ codes "one:119*4" ∷ codes "--nzb" ∷ codes "a.nzb" ∷ codes "--server" ∷ codes "two:119@1" ∷ [])
    ≡ Ok (record {
      path = codes "a.nzb";
      servers = record { address = codes "one:119"; links = 4; level = 0 } ∷ record { address = codes "two:119"; links = 1; level = 1 } ∷ [];
      depth = 8;
      patience = 1500;
      login = None;
    })
two_servers = refl

-- the value that passes the sum of links is refused
pub links_above_64 : fetch_of (codes "--server" ∷ codes "h:1*64" ∷ codes "--nzb" ∷ codes "a" ∷ codes "--server" ∷ codes "h:2" ∷ []) ≡ Err 7
links_above_64 = refl

abbrev four : List (List ℕ)
four = codes "--server" ∷ codes "h:1" ∷ codes "--server" ∷ codes "h:1" ∷ codes "--server" ∷ codes "h:1" ∷ codes "--server" ∷ codes "h:1" ∷ []

abbrev sixteen : List (List ℕ)
sixteen = four ++ four ++ four ++ four

pub sixteen_servers : fetch_of (sixteen ++ codes "--nzb" ∷ []) ≡ Err 35
sixteen_servers = refl

pub seventeenth_server : fetch_of (sixteen ++ codes "--server" ∷ []) ≡ Err 34
seventeenth_server = refl

pub no_command_yet : words_of (codes "fetch" ∷ codes "--nzb" ∷ codes "a.nzb" ∷ codes "--server" ∷ codes "h:1" ∷ []) ≡ Refused 1
no_command_yet = refl

pub links_and_level : server_of (codes "h:1*64@9") ≡ Some (record { address = codes "h:1"; links = 64; level = 9 })
links_and_level = refl

pub level_before_links : server_of (codes "h:1@9*64") ≡ None
level_before_links = refl

pub links_with_a_zero_in_front : server_of (codes "h:1*01") ≡ None
links_with_a_zero_in_front = refl

pub level_of_two_digits : server_of (codes "h:1@00") ≡ None
level_of_two_digits = refl
