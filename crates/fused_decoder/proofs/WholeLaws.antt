-- The whole file's CRC that lines give, as more of them come.
use Rattle.std.proofs.Common.{◌≡◌, ℕ, ◌+◌, true, false, List, [], ◌∷◌, ◌++◌, length, append_assoc, Option, Result, Ok, Err, refl, sym, ap, ◌∙◌, inl, inr}
use Rattle.std.proofs.lemmas.Bool.{cases_Bool, le-ltb}
use Rattle.yenc_body.specs.declared.part.Part.{Part}
use Rattle.yenc_body.specs.declared.fault.Reason.{Reason}
use Rattle.yenc_body.specs.declared.place.Place.{Place}
use Rattle.yenc_body.specs.declared.place.Place.TheVariants.{Opening, Opened, Filling, Closed}
use Rattle.yenc_lines.specs.declared.keyword.Begin.{Begin}
use Rattle.yenc_lines.specs.declared.keyword.EndLine.{EndLine}
use Rattle.yenc_lines.specs.declared.key.KeyFault.{KeyFault}
use Rattle.yenc_lines.specs.Keywords.{end_of}
use Rattle.yenc_body.specs.Body.{IsBody}
use Rattle.yenc_body.specs.FirstFault.{IsFront}
use Rattle.yenc_body.specs.BodyReading.{line_of, place_from}
use Rattle.yenc_body.proofs.BodyLaws.{place_read}
use Rattle.fused_decoder.proofs.ReadingLaws.{passes, stops, ends}
use Rattle.fused_decoder.specs.WholeFile.{GivesWhole, file_crc, said_in, said_at, is_closed, whole_from, whole_of}

whole_closed : (p q : Place) (line : List ℕ) (lines : List (List ℕ)) → line_of p line ≡ Ok q → is_closed q ≡ true → whole_from (line ∷ lines) p ≡ said_at p line
unfolding whole_from
whole_closed p q line lines e closed = rw (e, closed, whole_from) refl

whole_passed : (p q : Place) (line : List ℕ) (lines : List (List ℕ)) → line_of p line ≡ Ok q → is_closed q ≡ false → whole_from (line ∷ lines) p ≡ whole_from lines q
unfolding whole_from
whole_passed p q line lines e closed = rw (e, closed, whole_from) refl

closed_line : (p : Place) (line : List ℕ) → is_closed p ≡ true → line_of p line ≡ Ok p
unfolding line_of
closed_line Opening line is = absurd cc
closed_line (Opened b n) line is = absurd cc
closed_line (Filling b first last bytes) line is = absurd cc
closed_line (Closed p) line is = refl

-- behind a body nothing is read
closed_on : (lines : List (List ℕ)) (p q : Place) (n : ℕ) → place_from lines p n ≡ Ok q → is_closed p ≡ true → is_closed q ≡ true
closed_on [] p q n e is = let same : p ≡ q = let g = ends p n in cc in rw (← same) is
closed_on (line ∷ lines) p q n e is = closed_on lines p q (n + 1) (sym (passes p p line lines n (closed_line p line is)) ∙ e) is

-- lines that don't end the data, and then more
whole_along : (lines more : List (List ℕ)) (p q : Place) (n : ℕ) → place_from lines p n ≡ Ok q → is_closed q ≡ false → whole_from (lines ++ more) p ≡ whole_from more q
whole_along [] more p q n e is = let same : p ≡ q = let g = ends p n in cc in ap (whole_from more) same
whole_along (line ∷ lines) more p q n e is = go (line_of p line) refl (λ r. whole_along lines more r q (n + 1))
  where
    go : (found : Result Place (ℕ × Reason)) → line_of p line ≡ found → ((r : Place) → place_from lines r (n + 1) ≡ Ok q → is_closed q ≡ false → whole_from (lines ++ more) r ≡ whole_from more q) → whole_from (line ∷ (lines ++ more)) p ≡ whole_from more q
    go (Ok r) k along =
        let rest : place_from lines r (n + 1) ≡ Ok q = sym (passes p r line lines n k) ∙ e in
        elim (cases_Bool (is_closed r)) [
          | inl c ↦ (let no_way : true ≡ false = sym (closed_on lines r q (n + 1) rest c) ∙ is in absurd cc)
          | inr c ↦ whole_passed p r line (lines ++ more) k c ∙ along r rest is
        ]
    go (Err f) k along = let g = stops p f.0 f.1 line lines n k in absurd cc

-- the line that closes a body gives it
pub whole_said : (lines : List (List ℕ)) (c : List ℕ) (b : Begin) (first last : ℕ) (bytes : List ℕ) (p : Part) → IsFront lines (Filling b first last bytes) → line_of (Filling b first last bytes) c ≡ Ok (Closed p) → whole_of (lines ++ c ∷ []) ≡ said_in b.part (end_of c)
whole_said lines c b first last bytes p front is =
    whole_along lines (c ∷ []) Opening (Filling b first last bytes) 0 (place_read lines (Filling b first last bytes) front) refl ∙ whole_closed (Filling b first last bytes) (Closed p) c [] is refl

-- ---- and what the trailer line says

trailer_closes : (lines : List (List ℕ)) (p : Part) (h : IsBody lines p) → line_of (Filling p.begin p.first p.last p.content) h.line ≡ Ok (Closed p)
unfolding line_of
trailer_closes lines p h = let k = h.is_end.0 in rw (k.0, le-ltb 1024 (length h.line) k.1, h.is_end.2, h.is_end.3) refl

body_says : (lines : List (List ℕ)) (p : Part) (h : IsBody lines p) → whole_of lines ≡ file_crc p.begin.part h.is_end.1.crc32
body_says lines p h =
    let at : Place = Filling p.begin p.first p.last p.content in
    ap whole_of h.lines_are ∙ whole_along h.front (h.line ∷ h.more) Opening at 0 (place_read h.front at h.filled) refl
    ∙ whole_closed at (Closed p) h.line h.more (trailer_closes lines p h) refl ∙ ap (said_in p.begin.part) h.is_end.2

pub gives_whole : (lines : List (List ℕ)) (p : Part) (whole : Option ℕ) → IsBody lines p → whole ≡ whole_of lines → GivesWhole lines p whole
gives_whole lines p whole h is = record { body = h; trailer = h.is_end.1; reading = h.is_end.2; whole_is = is ∙ body_says lines p h }

same_line : (found : Result EndLine KeyFault) (e f : EndLine) → found ≡ Ok e → found ≡ Ok f → e ≡ f
same_line found e f one other = cc

pub whole_read : (lines : List (List ℕ)) (p : Part) (whole : Option ℕ) → GivesWhole lines p whole → whole ≡ whole_of lines
whole_read lines p whole g =
    let same = same_line (end_of g.body.line) g.trailer g.body.is_end.1 g.reading g.body.is_end.2 in
    g.whole_is ∙ ap (λ (e : EndLine). file_crc p.begin.part e.crc32) same ∙ sym (body_says lines p g.body)

-- behind a body it stays
pub whole_stays : (lines : List (List ℕ)) (c : List ℕ) (p : Part) (whole : Option ℕ) → GivesWhole lines p whole → GivesWhole (lines ++ c ∷ []) p whole
whole_stays lines c p whole g =
    let h = g.body in
    let longer : IsBody (lines ++ c ∷ []) p = record { front = h.front; line = h.line; more = h.more ++ c ∷ []; lines_are = ap (λ (x : List (List ℕ)). x ++ c ∷ []) h.lines_are ∙ append_assoc h.front (h.line ∷ h.more) (c ∷ []); filled = h.filled; is_end = h.is_end } in
    record { body = longer; trailer = g.trailer; reading = g.reading; whole_is = g.whole_is }
