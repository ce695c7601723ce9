-- The ranges that are asked, and what is said and heard of them, computed on worked rows.
use Rattle.std.proofs.Common.{◌≡◌, ℕ, List, [], ◌∷◌, true, false, refl}
use Rattle.std.specs.Prelude.{codes, ◌++◌}
use Rattle.nntp_lines.specs.declared.group.GroupReply.{GroupReply}
use Rattle.link_dialog.specs.Replies.{Reply}
use Rattle.overview_index.specs.Session.{Query, Range, ranges_of, ranges_in, group_message, goes_on, lines_in}

abbrev range : ℕ → ℕ → Range
range first last = record { first = first; last = last }

one_number : ranges_of 1 1 ≡ range 1 1 ∷ []
one_number = refl

one_whole_range : ranges_of 1 10000 ≡ range 1 10000 ∷ []
one_whole_range = refl

two_ranges : ranges_of 1 10001 ≡ range 1 10000 ∷ range 10001 10001 ∷ []
two_ranges = refl

three_ranges : ranges_of 5 20006 ≡ range 5 10004 ∷ range 10005 20004 ∷ range 20005 20006 ∷ []
three_ranges = refl

no_number : ranges_of 5 4 ≡ []
no_number = refl

far_below : ranges_of 10003 4 ≡ []
far_below = refl

farther_below : ranges_of 99999 4 ≡ []
farther_below = refl

-- ---- the newsgroup's own numbers

abbrev query : Query
query = record { group = codes "a.b"; first = 5; last = 20000; patience = 2 }

abbrev numbers : ℕ → ℕ → GroupReply
numbers low high = record { count = 3; low = low; high = high }

within : ranges_in query (numbers 7 9) ≡ range 7 9 ∷ []
unfolding ranges_in
within = refl

beyond_both : ranges_in query (numbers 1 99999) ≡ range 5 10004 ∷ range 10005 20000 ∷ []
unfolding ranges_in
beyond_both = refl

empty_newsgroup : ranges_in query (numbers 1 0) ≡ []
unfolding ranges_in
empty_newsgroup = refl

all_below : ranges_in query (numbers 1 4) ≡ []
unfolding ranges_in
all_below = refl

-- ---- what is said and heard

group_line : (group_message (codes "a.b")).bytes ≡ codes "GROUP a.b" ++ 13 ∷ 10 ∷ []
group_line = refl

abbrev reply : ℕ → List (List ℕ) → Reply
reply code lines = record { code = code; line = []; lines = lines }

overview_goes_on : goes_on (reply 224 []) ≡ true
overview_goes_on = refl

no_article_goes_on : goes_on (reply 423 []) ≡ true
no_article_goes_on = refl

no_newsgroup_ends : goes_on (reply 412 []) ≡ false
no_newsgroup_ends = refl

lines_of_both : lines_in (reply 224 ((1 ∷ []) ∷ (2 ∷ []) ∷ []) ∷ reply 423 [] ∷ reply 224 ((3 ∷ []) ∷ []) ∷ []) ≡ (1 ∷ []) ∷ (2 ∷ []) ∷ (3 ∷ []) ∷ []
lines_of_both = refl
