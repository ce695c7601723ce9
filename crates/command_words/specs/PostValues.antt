-- What the values of the keys of `post` have to be, as tests. What each of them means stands with what it goes into: the head
-- of an article, its message-id, and the address of a server.
use Rattle.std.specs.Prelude.{ℕ, Bool, ◌&&◌, ◌==◌, nat_le, List, length}
use Rattle.std.specs.List.{count_by, list_all}
use Rattle.article_head.specs.Field.{is_trimmed, is_word, names_of}
use Rattle.article_head.specs.PartId.{is_label_byte, is_token_byte, labels_of}
use Rattle.nntp_lines.specs.Command.{is_printable}
use Rattle.nntp_lines.specs.GroupName.{is_group_byte}

-- so many printable ASCII characters and spaces, with no space at either end
abbrev pub is_text : ℕ → ℕ → List ℕ → Bool
is_text least most text = nat_le least (length text) && nat_le (length text) most && list_all is_printable text && is_trimmed text

-- who posts
abbrev pub is_from : List ℕ → Bool
is_from value = is_text 1 200 value

-- what the subject begins with
abbrev pub is_comment : List ℕ → Bool
is_comment value = is_text 0 200 value

-- 1 to 10 names of newsgroups, with a comma between two
abbrev pub is_newsgroups : List ℕ → Bool
is_newsgroups value = nat_le (length value) 600 && nat_le (count_by (λ byte. byte == 44) value) 9 && list_all (is_word is_group_byte 200) (names_of value)

-- what the message-ids of the file begin with
abbrev pub is_token : List ℕ → Bool
is_token value = is_word is_token_byte 64 value

-- the domain in the message-ids
abbrev pub is_domain : List ℕ → Bool
is_domain value = nat_le (length value) 64 && list_all (is_word is_label_byte 64) (labels_of value)
