-- The text of a body, written a piece at a time.
use Rattle.std.proofs.Common.{◌≡◌, ◌≤◌, ℕ, ◌+◌, List, [], ◌++◌, length, drop, Option, Result, Ok, Err, refl, sym, ap, subst, ◌∙◌, append_assoc, arith, length-drop}
use Rattle.std.specs.Prelude.{MatchResult}
use Rattle.std.proofs.lemmas.List.{append-nil, drop-drop, nil_from_length}
use Rattle.yenc_body.specs.declared.spec.BodySpec.{BodySpec}
use Rattle.yenc_text.specs.Text.{opening, closing, IsDataText, IsPiece}
use Rattle.yenc_text.proofs.Existing.{each_has_text}
use Rattle.yenc_text.proofs.TextLaws.{text_of_three}
use Rattle.io_traits.specs.Sink.{told_and}
use Rattle.usebin_cli.specs.Body.{WroteBody, WroteData}
use Rattle.usebin_cli.specs.Writing.{Written, WroteWhole, WroteFront}
use Rattle.usebin_cli.proofs.WritingLemmas.{told_and-append, front_of_longer, front_of_second, rose_from}

-- what is seen of a sink
abbrev pub seen : ℕ → ℕ → Option (List ℕ) → Option (List ℕ) → Written
seen faults_before faults_now told_before told_now =
    record { faults_before = faults_before; faults_now = faults_now; told_before = told_before; told_now = told_now }

-- ---- one text behind another

pub whole_then_whole : (f0 f1 f2 : ℕ) (t0 t1 t2 : Option (List ℕ)) (xs ys : List ℕ) → WroteWhole xs (seen f0 f1 t0 t1) → WroteWhole ys (seen f1 f2 t1 t2) → WroteWhole (xs ++ ys) (seen f0 f2 t0 t2)
whole_then_whole f0 f1 f2 t0 t1 t2 xs ys a b = record {
  faults = b.faults ∙ a.faults;
  told = b.told ∙ ap (λ t. told_and t ys) a.told ∙ told_and-append t0 xs ys;
}

pub whole_then_front : (f0 f1 f2 : ℕ) (t0 t1 t2 : Option (List ℕ)) (xs ys : List ℕ) → WroteWhole xs (seen f0 f1 t0 t1) → WroteFront ys (seen f1 f2 t1 t2) → WroteFront (xs ++ ys) (seen f0 f2 t0 t2)
whole_then_front f0 f1 f2 t0 t1 t2 xs ys a b = record {
  faults = rose_from f0 f1 f2 a.faults b.faults;
  front = front_of_second t0 t1 t2 xs ys (xs ++ ys) a.told b.front refl;
}

pub longer_front : (w : Written) (xs ys : List ℕ) → WroteFront xs w → WroteFront (xs ++ ys) w
longer_front w xs ys b = record { faults = b.faults; front = front_of_longer w.told_before w.told_now xs ys (xs ++ ys) b.front refl }

-- ---- the data lines

-- the text of the first `at` bytes was written
pub record WroteSoFar (line_length : ℕ) (content : List ℕ) (at : ℕ) (w : Written) : Type 0 where
  pub inside : at ≤ length content
  pub done : List ℕ
  pub piece : IsPiece line_length content at done
  pub wrote : WroteWhole done w

pub so_far_none : (line_length : ℕ) (content : List ℕ) (f : ℕ) (t : Option (List ℕ)) → t ≡ told_and t [] → WroteSoFar line_length content 0 (seen f f t t)
so_far_none line_length content f t same = record {
  inside = omega arith;
  done = [];
  piece = λ more is. is;
  wrote = record { faults = refl; told = same };
}

pub so_far_more : (line_length : ℕ) (content left : List ℕ) (at used : ℕ) (text : List ℕ) (f0 f1 f2 : ℕ) (t0 t1 t2 : Option (List ℕ)) → WroteSoFar line_length content at (seen f0 f1 t0 t1)
    → left ≡ drop at content → used ≤ length left → IsPiece line_length left used text → WroteWhole text (seen f1 f2 t1 t2) → WroteSoFar line_length content (at + used) (seen f0 f2 t0 t2)
so_far_more line_length content left at used text f0 f1 f2 t0 t1 t2 so_far left_is inside piece wrote = record {
  inside = omega (arith, inside, so_far.inside, ap length left_is, length-drop at content);
  done = so_far.done ++ text;
  piece = λ more is.
      let behind : drop (at + used) content ≡ drop used left = sym (drop-drop used at content) ∙ ap (drop used) (sym left_is) in
      let next : IsDataText line_length left (text ++ more) = piece more (subst (λ (r : List ℕ). IsDataText line_length r more) behind is) in
      subst (IsDataText line_length content) (sym (append_assoc so_far.done text more))
      (so_far.piece (text ++ more) (subst (λ (r : List ℕ). IsDataText line_length r (text ++ more)) left_is next));
  wrote = whole_then_whole f0 f1 f2 t0 t1 t2 so_far.done text so_far.wrote wrote;
}

-- a write failed in a piece: what is behind it has some text
pub data_front : (line_length : ℕ) (content left : List ℕ) (at used : ℕ) (text : List ℕ) (f0 f1 f2 : ℕ) (t0 t1 t2 : Option (List ℕ)) → 1 ≤ line_length → WroteSoFar line_length content at (seen f0 f1 t0 t1)
    → left ≡ drop at content → IsPiece line_length left used text → WroteFront text (seen f1 f2 t1 t2) → WroteData WroteFront line_length content (seen f0 f2 t0 t2)
data_front line_length content left at used text f0 f1 f2 t0 t1 t2 some so_far left_is piece wrote =
    let behind = each_has_text line_length (drop used left) some in
    let next : IsDataText line_length left (text ++ behind.0) = piece behind.0 behind.1 in (
      so_far.done ++ (text ++ behind.0),
      so_far.piece (text ++ behind.0) (subst (λ (r : List ℕ). IsDataText line_length r (text ++ behind.0)) left_is next),
      whole_then_front f0 f1 f2 t0 t1 t2 so_far.done (text ++ behind.0) so_far.wrote (longer_front (seen f1 f2 t1 t2) text behind.0 wrote),
    )

-- no byte is left
pub data_whole : (line_length : ℕ) (content : List ℕ) (at : ℕ) (w : Written) → WroteSoFar line_length content at w → length content ≤ at → WroteData WroteWhole line_length content w
data_whole line_length content at w so_far ends =
    let none : drop at content ≡ [] = nil_from_length (drop at content) (omega (arith, length-drop at content, ends)) in
    let last : IsDataText line_length (drop at content) [] = ([], none, refl) in (
      so_far.done,
      subst (IsDataText line_length content) (append-nil so_far.done) (so_far.piece [] last),
      so_far.wrote,
    )

-- ---- the body

pub body_whole : (spec : BodySpec) (content before behind : List ℕ) (f0 f1 f2 f3 : ℕ) (t0 t1 t2 t3 : Option (List ℕ)) → before ≡ opening spec content → behind ≡ closing spec content
    → WroteWhole before (seen f0 f1 t0 t1) → WroteData WroteWhole spec.line content (seen f1 f2 t1 t2) → WroteWhole behind (seen f2 f3 t2 t3) → WroteBody WroteWhole spec content (seen f0 f3 t0 t3)
body_whole spec content before behind f0 f1 f2 f3 t0 t1 t2 t3 before_is behind_is first (text, is_text, second) third = (
  opening spec content ++ (text ++ closing spec content),
  text_of_three spec content text is_text,
  whole_then_whole f0 f1 f3 t0 t1 t3 (opening spec content) (text ++ closing spec content) (subst (λ (l : List ℕ). WroteWhole l (seen f0 f1 t0 t1)) before_is first)
      (whole_then_whole f1 f2 f3 t1 t2 t3 text (closing spec content) second (subst (λ (l : List ℕ). WroteWhole l (seen f2 f3 t2 t3)) behind_is third)),
)

pub front_before : (spec : BodySpec) (content before : List ℕ) (w : Written) → 1 ≤ spec.line → before ≡ opening spec content → WroteFront before w → WroteBody WroteFront spec content w
front_before spec content before w some before_is first =
    let middle = each_has_text spec.line content some in (
      opening spec content ++ (middle.0 ++ closing spec content),
      text_of_three spec content middle.0 middle.1,
      longer_front w (opening spec content) (middle.0 ++ closing spec content) (subst (λ (l : List ℕ). WroteFront l w) before_is first),
    )

pub front_data : (spec : BodySpec) (content before : List ℕ) (f0 f1 f2 : ℕ) (t0 t1 t2 : Option (List ℕ)) → before ≡ opening spec content
    → WroteWhole before (seen f0 f1 t0 t1) → WroteData WroteFront spec.line content (seen f1 f2 t1 t2) → WroteBody WroteFront spec content (seen f0 f2 t0 t2)
front_data spec content before f0 f1 f2 t0 t1 t2 before_is first (text, is_text, second) = (
  opening spec content ++ (text ++ closing spec content),
  text_of_three spec content text is_text,
  whole_then_front f0 f1 f2 t0 t1 t2 (opening spec content) (text ++ closing spec content) (subst (λ (l : List ℕ). WroteWhole l (seen f0 f1 t0 t1)) before_is first)
      (longer_front (seen f1 f2 t1 t2) text (closing spec content) second),
)

pub front_behind : (spec : BodySpec) (content before behind : List ℕ) (f0 f1 f2 f3 : ℕ) (t0 t1 t2 t3 : Option (List ℕ)) → before ≡ opening spec content → behind ≡ closing spec content
    → WroteWhole before (seen f0 f1 t0 t1) → WroteData WroteWhole spec.line content (seen f1 f2 t1 t2) → WroteFront behind (seen f2 f3 t2 t3) → WroteBody WroteFront spec content (seen f0 f3 t0 t3)
front_behind spec content before behind f0 f1 f2 f3 t0 t1 t2 t3 before_is behind_is first (text, is_text, second) third = (
  opening spec content ++ (text ++ closing spec content),
  text_of_three spec content text is_text,
  whole_then_front f0 f1 f3 t0 t1 t3 (opening spec content) (text ++ closing spec content) (subst (λ (l : List ℕ). WroteWhole l (seen f0 f1 t0 t1)) before_is first)
      (whole_then_front f1 f2 f3 t1 t2 t3 text (closing spec content) second (subst (λ (l : List ℕ). WroteFront l (seen f2 f3 t2 t3)) behind_is third)),
)

-- the text behind the data lines was written, or a write failed in it
pub body_last : {A B : Type 0} (result : Result A B) (spec : BodySpec) (content before behind : List ℕ) (f0 f1 f2 f3 : ℕ) (t0 t1 t2 t3 : Option (List ℕ)) → before ≡ opening spec content → behind ≡ closing spec content
    → WroteWhole before (seen f0 f1 t0 t1) → WroteData WroteWhole spec.line content (seen f1 f2 t1 t2) → MatchResult result (λ _. WroteWhole behind (seen f2 f3 t2 t3)) (λ _. WroteFront behind (seen f2 f3 t2 t3))
    → MatchResult result (λ _. WroteBody WroteWhole spec content (seen f0 f3 t0 t3)) (λ _. WroteBody WroteFront spec content (seen f0 f3 t0 t3))
body_last (Ok x) spec content before behind f0 f1 f2 f3 t0 t1 t2 t3 before_is behind_is first second third = body_whole spec content before behind f0 f1 f2 f3 t0 t1 t2 t3 before_is behind_is first second third
body_last (Err e) spec content before behind f0 f1 f2 f3 t0 t1 t2 t3 before_is behind_is first second third = front_behind spec content before behind f0 f1 f2 f3 t0 t1 t2 t3 before_is behind_is first second third
