-- Articles, their files and an index, computed on cases that were written out by hand.
use Rattle.std.proofs.Common.{◌≡◌, ℕ, zero, suc, ◌==◌, inl, inr, List, [], ◌∷◌, find, None, option_map, refl, subst, arith, lit<}
use Rattle.std.specs.Prelude.{codes}
use Rattle.std.specs.List.Sorted.{IsStrictlyIncreasing}
use Rattle.std.proofs.lemmas.Bool.{cases_eq, ne_eqb}
use Rattle.nzb_writer.specs.declared.index.FileEntry.{FileEntry}
use Rattle.nzb_writer.specs.declared.index.Segment.{Segment}
use Rattle.overview_lines.specs.Count.{count_at, count_of, last_count, number_before}
use Rattle.overview_lines.specs.Date.{date_of, seconds_of, words_from, words_of}
use Rattle.overview_lines.specs.DateParts.{year_of}
use Rattle.overview_lines.specs.OverLine.{Over}
use Rattle.overview_index.specs.Group.{BringsSegment, Counted, IsFileOf, IsIndexOfLines, IsRepeat, counted, counted_in, each_once, files_in, key_of, keys_of, number_of, parts_of, segment_of, segments_in}

-- ---- members once

pub once : each_once ◌==◌ (3 ∷ 1 ∷ 3 ∷ 2 ∷ 1 ∷ []) ≡ 3 ∷ 1 ∷ 2 ∷ []
once = refl

-- ---- articles, each of its subject and from

abbrev line_of : List ℕ → List ℕ → List ℕ → ℕ → Over
line_of subject from id bytes = record { number = 1; subject = subject; from = from; date = []; id = id; bytes = bytes }

abbrev second : Over
second = line_of (codes "\"x\" yEnc (2/2)") (codes "a") (codes "i1@x") 100

abbrev first : Over
first = line_of (codes "\"x\" yEnc (1/2)") (codes "a") (codes "i2@x") 200

abbrev hello : Over
hello = line_of (codes "hello") (codes "a") (codes "i3@x") 300

abbrev again : Over
again = line_of (codes "\"x\" yEnc (2/2)") (codes "a") (codes "i4@x") 400

abbrev part_two : Over → Counted
part_two over = record { over = over; count = record { start = 9; end = 14; part = 2; total = 2 } }

abbrev part_one : Over → Counted
part_one over = record { over = over; count = record { start = 9; end = 14; part = 1; total = 2 } }

abbrev four : List Over
four = second ∷ first ∷ hello ∷ again ∷ []

abbrev three : List Counted
three = part_two second ∷ part_one first ∷ part_two again ∷ []

-- what has no count is no article
pub counted_four : counted_in four ≡ three
unfolding counted count_of last_count count_at number_before
counted_four = refl

pub key : key_of (part_two second) ≡ (codes "a", codes "\"x\" yEnc ")
key = refl

pub one_key : keys_of three ≡ (codes "a", codes "\"x\" yEnc ") ∷ []
one_key = refl

pub two_parts : parts_of three ≡ part_two second ∷ part_one first ∷ []
two_parts = refl

-- the fourth repeats the first, and no other does
pub repeats : IsRepeat (second ∷ first ∷ hello ∷ []) again
unfolding counted count_of last_count count_at number_before
repeats = (part_two again, refl, refl)

pub brings : BringsSegment (second ∷ []) first
unfolding counted count_of last_count count_at number_before
brings = (part_one first, refl, refl)

pub counts : (segments_in four ≡ 2) × (files_in four ≡ 1)
unfolding counted count_of last_count count_at number_before
counts = (refl, refl)

-- ---- files that differ

-- another poster, another number of files before the name; the total alone is no other file
abbrev told_apart : List Over
told_apart =
    line_of (codes "[1/2] y (1/9)") (codes "a") [] 0 ∷ line_of (codes "[2/2] y (1/9)") (codes "a") [] 0 ∷ line_of (codes "[1/2] y (1/9)") (codes "b") [] 0
    ∷ line_of (codes "[1/2] y (3/7)") (codes "a") [] 0 ∷ line_of (codes "(1/2) y (2/9)") (codes "a") [] 0 ∷ []

pub four_keys : keys_of (counted_in told_apart) ≡ (codes "a", codes "[1/2] y ") ∷ (codes "a", codes "[2/2] y ") ∷ (codes "b", codes "[1/2] y ") ∷ (codes "a", codes "(1/2) y ") ∷ []
unfolding counted count_of last_count count_at number_before
four_keys = refl

-- ---- the index of the four lines

abbrev segments : List Segment
segments = record { number = 1; bytes = 200; id = codes "i2@x" } ∷ record { number = 2; bytes = 100; id = codes "i1@x" } ∷ []

abbrev file : FileEntry
file = record { poster = codes "a"; date = 0; subject = codes "\"x\" yEnc (2/2)"; groups = codes "a.b" ∷ []; segments = segments }

rising : IsStrictlyIncreasing (1 ∷ 2 ∷ [])
rising zero h = lit< tt
rising (suc k) h = absurd (omega arith)

at_each : (n : ℕ) → find (λ (s : Segment). s.number == n) segments ≡ option_map segment_of (find (λ a. number_of a == n) three)
at_each n = elim (cases_eq 1 n) [
  | inl e ↦ subst (λ m. find (λ (s : Segment). s.number == m) segments ≡ option_map segment_of (find (λ a. number_of a == m) three)) e refl
  | inr not_one ↦ elim (cases_eq 2 n) [
    | inl e ↦ subst (λ m. find (λ (s : Segment). s.number == m) segments ≡ option_map segment_of (find (λ a. number_of a == m) three)) e refl
    | inr not_two ↦ rw (ne_eqb 1 n not_one, ne_eqb 2 n not_two) refl
  ]
]

no_date : date_of [] ≡ None
unfolding date_of seconds_of words_from words_of year_of
no_date = refl

file_is : IsFileOf (codes "a.b") three (codes "a", codes "\"x\" yEnc ") file
file_is = record {
  first = part_two second;
  is_first = refl;
  poster = refl;
  date = rw no_date refl;
  subject = refl;
  groups = refl;
  segments = record { ascending = rising; each = at_each };
}

pub index : IsIndexOfLines (codes "a.b") four (record { metas = []; files = file ∷ [] })
index = record { metas = refl; files = rw counted_four (file_is, tt) }
