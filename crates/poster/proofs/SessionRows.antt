-- What became of parts, computed on worked rows.
use Rattle.std.proofs.Common.{◌≡◌, ℕ, List, [], ◌∷◌, Some, None, refl}
use Rattle.link_dialog.specs.Replies.{Reply}
use Rattle.poster.specs.Said.{Made, ends_of, outcomes_of, post_length, refusal_in}
use Rattle.poster.specs.declared.index.PartEnd.TheVariants.{Posted, Refused, Unsure, NotSent}

abbrev reply : ℕ → Reply
reply code = record { code = code; line = []; lines = [] }

-- two blocks of three and four bytes
abbrev blocks : List (List ℕ)
blocks = (1 ∷ 2 ∷ 3 ∷ []) ∷ (4 ∷ 5 ∷ 6 ∷ 7 ∷ []) ∷ []

abbrev first : Made
first = record { block = 1 ∷ 2 ∷ 3 ∷ []; octets = 11 }

post_has_six_bytes : post_length ≡ 6
post_has_six_bytes = refl

all_posted : ends_of (reply 340 ∷ reply 240 ∷ reply 340 ∷ reply 240 ∷ []) 25 blocks ≡ Posted ∷ Posted ∷ []
all_posted = refl

first_refused : ends_of (reply 340 ∷ reply 441 ∷ reply 340 ∷ reply 240 ∷ []) 19 blocks ≡ Refused 441 ∷ Posted ∷ []
first_refused = refl

-- POST of the second part went out whole, and no byte of its article
permitted_and_unsent : ends_of (reply 340 ∷ reply 240 ∷ reply 340 ∷ []) 15 blocks ≡ Posted ∷ NotSent ∷ []
permitted_and_unsent = refl

-- one byte of its article went out
begun : ends_of (reply 340 ∷ reply 240 ∷ reply 340 ∷ []) 16 blocks ≡ Posted ∷ Unsure ∷ []
begun = refl

-- the article went out whole, and its reply was lost
reply_lost : ends_of (reply 340 ∷ []) 9 blocks ≡ Unsure ∷ NotSent ∷ []
reply_lost = refl

-- POST is refused, and QUIT goes out behind it
refused_at_post : ends_of (reply 340 ∷ reply 240 ∷ reply 440 ∷ []) 21 blocks ≡ Posted ∷ NotSent ∷ []
refused_at_post = refl

its_code : refusal_in (reply 340 ∷ reply 240 ∷ reply 440 ∷ []) ≡ Some 440
its_code = refl

-- 441 answers an article, and doesn't refuse POST
no_code : refusal_in (reply 340 ∷ reply 441 ∷ reply 340 ∷ reply 240 ∷ []) ≡ None
no_code = refl

three_parts : outcomes_of 3 (Unsure ∷ []) (first ∷ []) ≡ record { end = Unsure; bytes = 11 } ∷ record { end = NotSent; bytes = 0 } ∷ record { end = NotSent; bytes = 0 } ∷ []
three_parts = refl
