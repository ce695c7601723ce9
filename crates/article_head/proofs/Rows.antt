-- The definitions of heads, subjects and message-ids, computed on cases that were written out by hand.
use Rattle.std.proofs.Common.{◌≡◌, [], ◌∷◌, ◌++◌, None, Some, refl, lit≤, arith}
use Rattle.std.specs.Prelude.{codes, replicate}
use Rattle.std.specs.Fmt.{digits}
use Rattle.std.proofs.lemmas.List.Elements.{All-cons, All-nil}
use Rattle.nntp_lines.specs.GroupName.{IsGroupName}
use Rattle.nntp_lines.specs.Word.{IsWord}
use Rattle.article_head.specs.Field.{IsComment, IsFileName, IsFrom, IsNewsgroups}
use Rattle.article_head.specs.Head.{head_lines}
use Rattle.article_head.specs.OutName.{out_name}
use Rattle.article_head.specs.PartId.{IsDomain, IsToken, is_label_byte, part_id_text}
use Rattle.article_head.specs.QuotedName.{quoted_name}
use Rattle.article_head.specs.Subject.{subject_text}
use Rattle.limits.specs.declared.TheConstants.{MOST_ID_BYTES}

-- ---- fields

pub poster : IsFrom (codes "me@example.org")
poster = record { some = lit≤ tt; short = lit≤ tt; printable = refl; trimmed = refl }

pub longest_poster : IsFrom (replicate 200 97)
longest_poster = record { some = lit≤ tt; short = lit≤ tt; printable = refl; trimmed = refl }

pub poster_too_long : ¬ IsFrom (replicate 201 97)
poster_too_long h = omega (arith, h.short)

pub empty_poster : ¬ IsFrom []
empty_poster h = omega (arith, h.some)

pub space_behind : ¬ IsFrom (codes "me@example.org ")
space_behind h = let e = h.trimmed in cc

pub line_end_inside : ¬ IsFrom (codes "me@example.org\r\nControl: x")
line_end_inside h = let e = h.printable in cc

-- a comment may be empty, a name may not
pub no_comment : IsComment []
no_comment = record { some = lit≤ tt; short = lit≤ tt; printable = refl; trimmed = refl }

pub space_before : ¬ IsComment (codes " a comment")
space_before h = let e = h.trimmed in cc

pub name_with_quotes : IsFileName (codes "a \"b\".bin")
name_with_quotes = record { some = lit≤ tt; short = lit≤ tt; printable = refl; trimmed = refl }

pub no_name : ¬ IsFileName []
no_name h = omega (arith, h.some)

pub name_too_long : ¬ IsFileName (replicate 256 97)
name_too_long h = omega (arith, h.short)

a_group : IsGroupName (codes "alt.binaries.test")
a_group = record { some = lit≤ tt; short = lit≤ tt; all = refl }

another_group : IsGroupName (codes "misc.test")
another_group = record { some = lit≤ tt; short = lit≤ tt; all = refl }

pub two_groups : IsNewsgroups (codes "alt.binaries.test,misc.test")
two_groups = record {
  names = codes "alt.binaries.test" ∷ codes "misc.test" ∷ [];
  some = lit≤ tt;
  few = lit≤ tt;
  valid = All-cons IsGroupName (codes "alt.binaries.test") (codes "misc.test" ∷ []) a_group (All-cons IsGroupName (codes "misc.test") [] another_group (All-nil IsGroupName));
  joined = refl;
  short = lit≤ tt;
}

-- ---- message-ids

pub token : IsToken (codes "a_file-1")
token = record { some = lit≤ tt; short = lit≤ tt; all = refl }

-- no dot in a token, which would be one of the id's own
pub token_with_dot : ¬ IsToken (codes "a.file")
token_with_dot h = let e = h.all in cc

pub token_too_long : ¬ IsToken (replicate 65 97)
token_too_long h = omega (arith, h.short)

a_label : IsWord is_label_byte MOST_ID_BYTES (codes "example")
a_label = record { some = lit≤ tt; short = lit≤ tt; all = refl }

another_label : IsWord is_label_byte MOST_ID_BYTES (codes "org")
another_label = record { some = lit≤ tt; short = lit≤ tt; all = refl }

pub domain : IsDomain (codes "example.org")
domain = record {
  labels = codes "example" ∷ codes "org" ∷ [];
  some = lit≤ tt;
  valid = All-cons (IsWord is_label_byte MOST_ID_BYTES) (codes "example") (codes "org" ∷ []) a_label (All-cons (IsWord is_label_byte MOST_ID_BYTES) (codes "org") [] another_label (All-nil (IsWord is_label_byte MOST_ID_BYTES)));
  joined = refl;
  short = lit≤ tt;
}

pub id_of_the_only_part : part_id_text (codes "tok") (codes "example.org") 1 1 ≡ codes "tok.1of1@example.org"
unfolding part_id_text digits
id_of_the_only_part = refl

pub id_of_the_last_part : part_id_text (codes "tok") (codes "example.org") 262144 262144 ≡ codes "tok.262144of262144@example.org"
unfolding part_id_text digits
id_of_the_last_part = refl

-- ---- subjects and heads

pub subject : subject_text [] (codes "d") 1 1 ≡ codes "\"d\" yEnc (1/1)"
unfolding subject_text digits
subject = refl

pub subject_with_comment : subject_text (codes "two parts") (codes "a b.bin") 2 10 ≡ codes "two parts \"a b.bin\" yEnc (2/10)"
unfolding subject_text digits
subject_with_comment = refl

pub head : head_lines (codes "me@example.org") (codes "alt.binaries.test") [] (codes "d") 1 1 (codes "tok.1of1@example.org")
    ≡ codes "From: me@example.org" ∷ codes "Newsgroups: alt.binaries.test" ∷ codes "Subject: \"d\" yEnc (1/1)" ∷ codes "Message-ID: <tok.1of1@example.org>" ∷ [] ∷ []
unfolding subject_text digits
head = refl

-- ---- names of files

pub name_in_a_subject : quoted_name (codes "[1/2] \"big.bin\" yEnc (1/20)") ≡ Some (codes "big.bin")
name_in_a_subject = refl

pub quotes_inside : quoted_name (codes "\"a\" and \"b\"") ≡ Some (codes "a\" and \"b")
quotes_inside = refl

pub nothing_quoted : quoted_name (codes "\"\"") ≡ Some []
nothing_quoted = refl

pub one_quote : quoted_name (codes "a \" b") ≡ None
one_quote = refl

pub first_file : out_name 0 (codes "\"t\" yEnc (1/3)") ≡ codes "0001-t"
first_file = refl

pub last_file : out_name 9998 (codes "\"my file.txt\" yEnc (1/1)") ≡ codes "9999-my_file.txt"
last_file = refl

pub file_without_a_name : out_name 41 (codes "yEnc (1/1)") ≡ codes "0042-file"
file_without_a_name = refl

pub file_with_an_empty_name : out_name 41 (codes "\"\" yEnc (1/1)") ≡ codes "0042-file"
file_with_an_empty_name = refl

pub path_for_a_name : out_name 0 (codes "\"../a\" yEnc (1/1)") ≡ codes "0001-.._a"
path_for_a_name = refl

pub longest_name : out_name 0 (34 ∷ replicate 201 110 ++ codes "\"") ≡ codes "0001-" ++ replicate 200 110
longest_name = refl
