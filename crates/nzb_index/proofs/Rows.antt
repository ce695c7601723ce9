-- Worked rows of NZB texts, which compute.
use Rattle.std.proofs.Common.{inl, inr, ◌⊎◌, arith, false, ◌≡◌, ℕ, ◌+◌, ◌<◌, ◌^◌, lit<, map, List, [], ◌∷◌, ◌++◌, Ok, Err, refl}
use Rattle.std.specs.Prelude.{codes, decimal}
use Rattle.std.specs.Int.Digits.{digits_of}
use Rattle.std.proofs.lemmas.Fmt.{decimal-digits_of}
use Rattle.nzb_index.specs.declared.error.NzbReason.TheVariants.{Ended, Unexpected, BadReference, WrongTag, DoubleAttribute, NoNumber, BadId, Subset}
use Rattle.nzb_writer.specs.Canonical.{nzb_text, segment_text, file_text}
use Rattle.nzb_writer.specs.declared.index.Index.{Index}
use Rattle.nzb_index.specs.declared.error.NzbLimit.{NzbLimit}
use Rattle.nzb_index.specs.NzbReading.{nzb_of, refused_at, past}
use Rattle.nzb_index.specs.Refusal.{IsTextRefused, IsCutShort}
use Rattle.nzb_index.proofs.ReasonsAnswered.{reasons_told}
use Rattle.nzb_writer.specs.Markup.{unchecked, IsBetween}
use Rattle.nzb_writer.specs.Nzb.{file_checks}
use Rattle.nzb_index.specs.Broken.{NameEnds, no_comment}
use Rattle.nzb_index.specs.Reasons.{HasReason, StartTag, end_in_content, in_one, parent_content, no_tag, in_file, root_name, root_inside, in_nzb, behind_root, subset as open_type}

wrong_tag : nzb_of (codes "<nzb><file></nzb>") ≡ Err (refused_at 11 WrongTag)
unfolding nzb_of
wrong_tag = refl

cut_short : nzb_of (codes "<nzb>") ≡ Err (refused_at 5 Ended)
unfolding nzb_of
cut_short = refl

name_not_ended : nzb_of (codes "<nzb><fz") ≡ Err (refused_at 8 Ended)
unfolding nzb_of
name_not_ended = refl

example : List ℕ
example = codes "<?xml version=\"1.0\" encoding=\"iso-8859-1\" ?>\n<!DOCTYPE nzb PUBLIC \"-//newzBin//DTD NZB 1.1//EN\" \"http://www.newzbin.com/DTD/nzb/nzb-1.1.dtd\">\n<nzb xmlns=\"http://www.newzbin.com/DTD/2003/nzb\">\n <head><meta type=\"category\">Test</meta></head>\n <file poster=\"A &lt;a@example.org&gt;\" date=\"1071674882\" subject=\"&quot;x.bin&quot; yEnc (1/2)\">\n  <groups><group>alt.binaries.test</group></groups>\n  <segments>\n   <segment bytes=\"102394\" number=\"1\">123@news.example.org</segment>\n   <segment bytes=\"4501\" number=\"2\">987@news.example.org</segment>\n  </segments>\n </file>\n</nzb>\n"

example_index : Index
example_index = record {
  metas = record { kind = codes "category"; text = codes "Test" } ∷ [];
  files = record {
    poster = codes "A <a@example.org>";
    date = 1071674882;
    subject = codes "\"x.bin\" yEnc (1/2)";
    groups = codes "alt.binaries.test" ∷ [];
    segments = record { number = 1; bytes = 102394; id = codes "123@news.example.org" } ∷ record { number = 2; bytes = 4501; id = codes "987@news.example.org" } ∷ [];
  } ∷ [];
}

example_read : nzb_of example ≡ Ok example_index
unfolding nzb_of example example_index
example_read = refl

digits : (n : ℕ) → 0 < n → n < 2 ^ 64 → decimal n ≡ map (λ d. 48 + d) (digits_of 10 n)
digits n low high = decimal-digits_of n low high

canonical : List ℕ
canonical = codes "<?xml version=\"1.0\" encoding=\"UTF-8\"?>\n<!DOCTYPE nzb PUBLIC \"-//newzBin//DTD NZB 1.1//EN\" \"http://www.newzbin.com/DTD/nzb/nzb-1.1.dtd\">\n<nzb xmlns=\"http://www.newzbin.com/DTD/2003/nzb\">\n<head>\n<meta type=\"category\">Test</meta>\n</head>\n<file poster=\"A &lt;a@example.org&gt;\" date=\"1071674882\" subject=\"&quot;x.bin&quot; yEnc (1/2)\">\n<groups>\n<group>alt.binaries.test</group>\n</groups>\n<segments>\n<segment bytes=\"102394\" number=\"1\">123@news.example.org</segment>\n<segment bytes=\"4501\" number=\"2\">987@news.example.org</segment>\n</segments>\n</file>\n</nzb>\n"

segment_line : segment_text (record { number = 2; bytes = 4501; id = codes "987@news.example.org" }) ≡ codes "<segment bytes=\"4501\" number=\"2\">987@news.example.org</segment>\n"
segment_line = rw (digits 4501 (lit< tt) (lit< tt), digits 2 (lit< tt) (lit< tt)) refl

file_lines : file_text (record { poster = codes "<a>"; date = 10; subject = codes "\"d\" & e"; groups = codes "a.b" ∷ []; segments = [] }) ≡ codes "<file poster=\"&lt;a&gt;\" date=\"10\" subject=\"&quot;d&quot; &amp; e\">\n<groups>\n<group>a.b</group>\n</groups>\n<segments>\n</segments>\n</file>\n"
file_lines = rw (digits 10 (lit< tt) (lit< tt)) refl

no_files : nzb_of (nzb_text (record { metas = record { kind = codes "k"; text = codes "a\tb" } ∷ []; files = [] })) ≡ Ok (record { metas = record { kind = codes "k"; text = codes "a\tb" } ∷ []; files = [] })
unfolding nzb_of nzb_text lib.Utf8.encode
no_files = refl

canonical_read : nzb_of canonical ≡ Ok example_index
unfolding nzb_of canonical example_index
canonical_read = refl

garbage_behind : nzb_of (codes "<nzb></nzb>x") ≡ Err (refused_at 11 Unexpected)
unfolding nzb_of
garbage_behind = refl

comment_cut : nzb_of (codes "<nzb></nzb><!-") ≡ Err (refused_at 14 Ended)
unfolding nzb_of
comment_cut = refl

white_in_values : nzb_of (codes "<nzb><file subject='a\r\nb\tc&#10;d'/></nzb>") ≡ Ok (record { metas = []; files = record { poster = []; date = 0; subject = codes "a b c\nd"; groups = []; segments = [] } ∷ [] })
unfolding nzb_of lib.Utf8.encode
white_in_values = refl

double_attribute : nzb_of (codes "<nzb a='1' b=\"2\" a='3'>") ≡ Err (refused_at 17 DoubleAttribute)
unfolding nzb_of
double_attribute = refl

bad_reference : nzb_of (codes "<nzb a='&am'") ≡ Err (refused_at 8 BadReference)
unfolding nzb_of
bad_reference = refl

no_number : nzb_of (codes "<nzb><file><segments><segment bytes='1'/>") ≡ Err (refused_at 21 NoNumber)
unfolding nzb_of
no_number = refl

bad_id : nzb_of (codes "<nzb><file><segments><segment number='1'>a b</segment") ≡ Err (refused_at 53 Ended)
unfolding nzb_of
bad_id = refl

bad_id_known : nzb_of (codes "<nzb><file><segments><segment number='1'>a b</segment >") ≡ Err (refused_at 21 BadId)
unfolding nzb_of
bad_id_known = refl

subset : nzb_of (codes "<!DOCTYPE nzb [") ≡ Err (refused_at 14 Subset)
unfolding nzb_of
subset = refl

-- a control byte: inside a value, behind a tag's name that isn't allowed there, inside a comment, and in a reference
control_in_value : nzb_of (codes "<nzb a='" ++ 1 ∷ codes "'>") ≡ Err (refused_at 8 Unexpected)
unfolding nzb_of
control_in_value = refl

control_behind_name : nzb_of (codes "<nzb><fz" ++ 1 ∷ []) ≡ Err (refused_at 5 WrongTag)
unfolding nzb_of
control_behind_name = refl

control_in_comment : nzb_of (codes "<!-- " ++ 0 ∷ codes " --><nzb/>") ≡ Err (refused_at 5 Unexpected)
unfolding nzb_of
control_in_comment = refl

control_in_reference : nzb_of (codes "<nzb a='&" ++ 1 ∷ codes "'>") ≡ Err (refused_at 8 BadReference)
unfolding nzb_of
control_in_reference = refl

-- ---- the table of reasons, row by row

no_text : IsBetween []
no_text = ([], refl, tt)

ended_name : NameEnds (codes "nzb>") (codes "nzb")
ended_name = record { byte = 62; more = []; text_is = refl; is_name = (λ e. cc, refl); is_other = refl }

root_tag : StartTag unchecked (codes "nzb") (codes "<nzb><file></nzb>") [] false (codes "<file></nzb>")
root_tag = record { attribute_text = []; white = []; from_is = refl; are_attributes = refl; is_white = refl }

file_tag : StartTag file_checks (codes "file") (codes "<file></nzb>") [] false (codes "</nzb>")
file_tag = record { attribute_text = []; white = []; from_is = refl; are_attributes = refl; is_white = refl }

-- the end tag of another element
has_wrong_tag : HasReason (codes "<nzb><file></nzb>") 11 WrongTag
has_wrong_tag = (
  codes "</nzb>",
  refl,
  in_nzb [] [] [] [] (codes "<nzb><file></nzb>") (codes "</nzb>") WrongTag refl (inl refl) (inl refl) no_text (inl refl)
      (root_inside (codes "</nzb>") WrongTag (parent_content [] (codes "<file></nzb>") (codes "</nzb>") WrongTag root_tag
      (in_one [] (codes "<file></nzb>") (codes "</nzb>") WrongTag [] refl no_text (in_file (codes "</nzb>") WrongTag (parent_content [] (codes "</nzb>") (codes "</nzb>") WrongTag file_tag
      (end_in_content [] (codes "</nzb>") (codes "nzb") [] refl no_text (codes "nzb>", refl, ended_name) (λ e. cc))))))),
)

-- another root
has_other_root : HasReason (codes "<a>") 0 WrongTag
has_other_root = (
  codes "<a>",
  refl,
  in_nzb [] [] [] [] (codes "<a>") (codes "<a>") WrongTag refl (inl refl) (inl refl) no_text (inl refl)
      (root_name (codes "a") (codes "a>", refl, record { byte = 62; more = []; text_is = refl; is_name = (λ e. cc, refl); is_other = refl }) (λ e. cc)),
)

-- declarations in the document type
has_subset : HasReason (codes "<!DOCTYPE nzb [") 14 Subset
has_subset = (codes "[", refl, open_type [] [] [] (codes "<!DOCTYPE nzb ") [] refl (inl refl) (inl refl) no_text (32, codes "nzb ", refl, refl, refl))

-- a byte behind the root
has_garbage : HasReason (codes "<nzb/>x") 6 Unexpected
has_garbage = (
  codes "x",
  refl,
  behind_root [] [] [] [] (codes "<nzb/>") [] (codes "x") (codes "x") (record { metas = []; files = [] }) refl (inl refl) (inl refl) no_text (inl refl)
      ([], [], [], record { attribute_text = []; white = []; are_attributes = refl; is_white = refl; text_is = inl (refl, refl) }, no_text, refl, refl) no_text
      (no_comment (codes "x") (record { byte = 120; more = []; here_is = refl; is_other = refl })
      (record { begun = []; next = 60; missing = codes "!--"; word_is = refl; rest_is = refl; other = record { byte = 120; more = []; here_is = refl; is_other = refl } })),
)

-- a byte between elements
has_text_between : HasReason (codes "<nzb>x") 5 Unexpected
has_text_between = (
  codes "x",
  refl,
  in_nzb [] [] [] [] (codes "<nzb>x") (codes "x") Unexpected refl (inl refl) (inl refl) no_text (inl refl)
      (root_inside (codes "x") Unexpected (parent_content [] (codes "x") (codes "x") Unexpected
      (record { attribute_text = []; white = []; from_is = refl; are_attributes = refl; is_white = refl })
      (no_tag [] (codes "x") [] refl no_text (record { byte = 120; more = []; here_is = refl; is_other = refl })))),
)

-- no other reason is had at that place: a reader that refuses every text at its first byte is none of this table
no_other_reason : HasReason (codes "<a>") 0 Unexpected → ⊥
unfolding nzb_of
no_other_reason h = go (reasons_told (codes "<a>") 0 Unexpected (omega arith) h)
  where
    go : IsTextRefused (codes "<a>") (refused_at 0 Unexpected) ⊎ ((passed : NzbLimit) × IsTextRefused (codes "<a>") (past passed)) ⊎ ((Unexpected ≡ BadReference) × IsCutShort (codes "<a>")) → ⊥
    go (inl e) = cc
    go (inr (inl (passed, e))) = cc
    go (inr (inr (b, e))) = cc
