-- Why a reader stops, by how the reader is put together.
use Rattle.std.proofs.Common.{◌≡◌, ℕ, suc, zero, ◌+◌, Bool, true, false, cond, not, eqb, ◌&&◌, List, [], ◌∷◌, ◌++◌, length, take, drop, Option, Some, None, Result, Ok, Err, refl, sym, ap, ◌∙◌, subst, append_assoc, arith, inl, inr, ◌⊎◌}
use Rattle.std.specs.Prelude.{codes, nat_eq, bytes_eq, find}
use Rattle.std.specs.Char.{is_ascii_digit, is_ascii_hexdigit}
use Rattle.std.specs.Str.Parse.{digits_value}
use Rattle.std.specs.List.{starts_with, list_any, prefix_len}
use Rattle.std.proofs.lemmas.Bool.{eqb-true, cases_Bool, or_from, and_parts}
use Rattle.std.proofs.lemmas.List.{append-nil}
use Rattle.nzb_index.specs.declared.error.NzbReason.{NzbReason}
use Rattle.nzb_index.specs.declared.error.NzbReason.TheVariants.{Ended, Unexpected, BadReference, WrongTag, DoubleAttribute, NoNumber, BadNumber, BadId, Subset}
use Rattle.nzb_writer.specs.Markup.{is_white, is_control, is_name_byte, is_character, IsBetween}
use Rattle.nzb_index.specs.MarkupReading.{Stop, ValueRead, refused, limit, unexpected, word, up_to, name_at, one_white, between_or, between, behind_white, references, digits_at, named, reference_at, with_front, ◌>>=◌}
use Rattle.nzb_index.specs.Reasons.{Fault, NoReference}
use Rattle.nzb_index.specs.Broken.{OtherByte, BrokenWord, BrokenInside, BrokenComment, second_hyphen, in_comment, BrokenBetween, first_hyphen, comment_between}
use Rattle.nzb_index.proofs.Words.{starts_front, not_at}
use Rattle.nzb_index.proofs.Gives.{Gives, gives_ok, gives_err, gives_bind, gives_if, gives_unexpected, word_gives, up_to_gives, white_taken, between_piece}
use Rattle.nzb_index.proofs.Keeps.{Keeps, goes_on, ends, cut, stays, limited, Never, second}
use Rattle.nzb_index.proofs.TextsRead.{reference_back}
use Rattle.nzb_index.proofs.TextsKept.{reference_keeps}

-- whatever stop it is
pub record Stops {A : Type 0} (r : Result A Stop) (P : Stop → Type 0) : Type 0 where
  pub stopped : (s : Stop) → r ≡ Err s → P s

pub stops_ok : {A : Type 0} {P : Stop → Type 0} (x : A) → Stops {A = A} (Ok x) P
stops_ok {A} {P} x = record { stopped = λ s e. absurd cc }

pub stops_err : {A : Type 0} {P : Stop → Type 0} (s : Stop) → P s → Stops {A = A} (Err s) P
stops_err {A} {P} s p = record { stopped = λ t e. let same : s ≡ t = cc in subst P same p }

pub stops_bind : {A B : Type 0} {P : Stop → Type 0} {Q : A → Type 0} (r : Result A Stop) (f : A → Result B Stop) → Stops r P → Gives r Q → ((x : A) → Q x → Stops (f x) P) → Stops (r >>= f) P
stops_bind (Ok x) f s g h = h x (g.given x refl)
stops_bind (Err e) f s g h = stops_err e (s.stopped e refl)

pub stops_then : {A B : Type 0} {P : Stop → Type 0} (r : Result A Stop) (f : A → Result B Stop) → Stops r P → ((x : A) → Stops (f x) P) → Stops (r >>= f) P
stops_then (Ok x) f s h = h x
stops_then (Err e) f s h = stops_err e (s.stopped e refl)

pub stops_if : {A : Type 0} {P : Stop → Type 0} (b : Bool) (x y : Result A Stop) → (b ≡ true → Stops x P) → (b ≡ false → Stops y P) → Stops (cond b x y) P
stops_if true x y g h = g refl
stops_if false x y g h = h refl

-- a test that only stops
pub stops_test : {A : Type 0} {P : Stop → Type 0} (b : Bool) (s : Stop) (f : Bool → Result A Stop) → (b ≡ false → P s) → (b ≡ true → Stops (f true) P) → Stops (cond b (Ok true) (Err s) >>= f) P
stops_test true s f p g = g refl
stops_test false s f p g = stops_err s (p refl)

pub stops_not : {A : Type 0} {P : Stop → Type 0} (b : Bool) (s : Stop) (f : Bool → Result A Stop) → (b ≡ true → P s) → (b ≡ false → Stops (f true) P) → Stops (cond b (Err s) (Ok true) >>= f) P
stops_not true s f p g = stops_err s (p refl)
stops_not false s f p g = g refl

pub stops_as : {A : Type 0} {P Q : Stop → Type 0} (r : Result A Stop) → Stops r P → ((s : Stop) → P s → Q s) → Stops r Q
stops_as r s h = record { stopped = λ e f. h e (s.stopped e f) }

-- ---- reasons of the table

-- all but that of the text's end
abbrev pub in_table : NzbReason → Bool
in_table Ended = false
in_table Unexpected = true
in_table BadReference = true
in_table WrongTag = true
in_table DoubleAttribute = true
in_table NoNumber = true
in_table BadNumber = true
in_table BadId = true
in_table Subset = true

-- a reason of the table stands in the text from some place on, of which so much is left
abbrev ToldOf : Fault → Stop → Type 0
ToldOf F (refused left reason) = in_table reason ≡ true → (here : List ℕ) × (length here ≡ left) × F here reason
ToldOf F (limit l) = Unit {0}

pub record Told (F : Fault) (s : Stop) : Type 0 where
  pub row : ToldOf F s

pub told_as : {F G : Fault} → ((here : List ℕ) (reason : NzbReason) → F here reason → G here reason) → (s : Stop) → Told F s → Told G s
told_as {F} {G} h s p = record { row = go s p.row }
  where
    go : (t : Stop) → ToldOf F t → ToldOf G t
    go (refused left reason) q = λ t. let x = q t in (x.0, x.1, h x.0 reason x.2)
    go (limit l) q = tt

pub told_here : {F : Fault} (here : List ℕ) (reason : NzbReason) → F here reason → Told F (refused (length here) reason)
told_here {F} here reason f = record { row = λ t. (here, refl, f) }

-- the text's end
pub ended : {A : Type 0} {F : Fault} → Stops {A = A} (Err (refused 0 Ended)) (Told F)
ended {A} {F} = stops_err _ (record { row = λ t. absurd cc })

-- the reason `Unexpected`, at a byte where a form breaks off
pub record AtByte (B : List ℕ → Type 0) (here : List ℕ) (reason : NzbReason) : Type 0 where
  pub reason_is : reason ≡ Unexpected
  pub broken : B here

pub broken_as : {A : Type 0} {B : List ℕ → Type 0} {F : Fault} (r : Result A Stop) → Stops r (Told (AtByte B)) → ((here : List ℕ) → B here → F here Unexpected) → Stops r (Told F)
broken_as {A} {B} {F} r s row = stops_as r s (told_as (λ h e b. subst (F h) (sym b.reason_is) (row h b.broken)))

pub broken_so : {A : Type 0} {B C : List ℕ → Type 0} (r : Result A Stop) → Stops r (Told (AtByte B)) → ((here : List ℕ) → B here → C here) → Stops r (Told (AtByte C))
broken_so {A} {B} {C} r s row = broken_as r s (λ h b. record { reason_is = refl; broken = row h b })

pub unexpected_told : {A : Type 0} {F : Fault} (text : List ℕ) → ((x : ℕ) (more : List ℕ) → text ≡ x ∷ more → F text Unexpected) → Stops {A = A} (unexpected text) (Told F)
unexpected_told [] row = ended
unexpected_told (x ∷ text) row = stops_err _ (told_here (x ∷ text) Unexpected (row x text refl))

-- ---- the readers that stop at a byte

-- the text stops at its first byte
pub record ByteAt (allowed : ℕ → Bool) (text here : List ℕ) : Type 0 where
  pub here_is : here ≡ text
  pub other : OtherByte allowed text

pub byte_at : {A : Type 0} (allowed : ℕ → Bool) (x : ℕ) (text : List ℕ) → allowed x ≡ false → Stops {A = A} (unexpected (x ∷ text)) (Told (AtByte (ByteAt allowed (x ∷ text))))
byte_at {A} allowed x text e = unexpected_told (x ∷ text) (λ y m f. record { reason_is = refl; broken = record { here_is = refl; other = record { byte = x; more = text; here_is = refl; is_other = e } } })

pub word_stops : (w text : List ℕ) → Stops (word w text) (Told (AtByte (BrokenWord w text)))
word_stops [] text = stops_ok text
word_stops (c ∷ w) [] = ended
word_stops (c ∷ w) (x ∷ text) = stops_if (eqb c x) _ _
    (λ e. broken_so _ (word_stops w text) (λ h b. record {
      begun = c ∷ b.begun;
      next = b.next;
      missing = b.missing;
      word_is = ap (λ (t : List ℕ). c ∷ t) b.word_is;
      rest_is = ap (λ (y : ℕ). y ∷ text) (sym (eqb-true c x e)) ∙ ap (λ (t : List ℕ). c ∷ t) b.rest_is;
      other = b.other;
    }))
    (λ e. unexpected_told (x ∷ text) (λ y m f. record { reason_is = refl; broken = record { begun = []; next = c; missing = w; word_is = refl; rest_is = refl; other = record { byte = x; more = text; here_is = refl; is_other = e } } }))

pub word_there : {P : Stop → Type 0} (w text : List ℕ) → starts_with nat_eq text w ≡ true → Stops (word w text) P
word_there [] text e = stops_ok text
word_there (c ∷ w) [] e = absurd cc
word_there (c ∷ w) (x ∷ text) e = let b = and_parts (eqb c x) (starts_with nat_eq text w) e in stops_if (eqb c x) _ _ (λ f. word_there w text b.1) (λ f. absurd (let g : true ≡ false = sym b.0 ∙ f in cc))

pub letter_stops : (c : ℕ) (text : List ℕ) → Stops (word (c ∷ []) text) (Told (AtByte (ByteAt (λ b. eqb c b) text)))
letter_stops c [] = ended
letter_stops c (x ∷ text) = stops_if (eqb c x) _ _ (λ e. stops_ok text) (λ e. byte_at (λ b. eqb c b) x text e)

nothing_in : (c : ℕ) (w a b : List ℕ) → [] ≡ a ++ (c ∷ w) ++ b → ⊥
nothing_in c w [] b e = cc
nothing_in c w (d ∷ a) b e = cc

pub up_to_stops : (c : ℕ) (w text : List ℕ) → Stops (up_to (c ∷ w) text) (Told (AtByte (BrokenInside (c ∷ w) text)))
up_to_stops c w [] = ended
up_to_stops c w (x ∷ text) = stops_if (is_control x) _ _
    (λ e. unexpected_told (x ∷ text) (λ y m f. record {
      reason_is = refl;
      broken = record { inside = []; rest_is = refl; is_text = refl; not_ended = nothing_in c w; control = record { byte = x; more = text; here_is = refl; is_other = rw e refl } };
    }))
    (λ e. stops_if (starts_with nat_eq (x ∷ text) (c ∷ w)) _ _ (λ s. stops_ok _) (λ s. broken_so _ (up_to_stops c w text) (λ h b. record {
      inside = x ∷ b.inside;
      rest_is = ap (λ (t : List ℕ). x ∷ t) b.rest_is;
      is_text = or_from (is_control x) _ e b.is_text;
      not_ended = later h b.inside s b.rest_is b.not_ended;
      control = b.control;
    })))
  where
    later : (h inside : List ℕ) → starts_with nat_eq (x ∷ text) (c ∷ w) ≡ false → text ≡ inside ++ h → ((a b : List ℕ) → inside ≡ a ++ (c ∷ w) ++ b → ⊥) → (a b : List ℕ) → x ∷ inside ≡ a ++ (c ∷ w) ++ b → ⊥
    later h inside s e none [] b f = not_at x text (c ∷ w) s (b ++ h) (ap (λ (t : List ℕ). x ∷ t) e ∙ ap (λ (t : List ℕ). t ++ h) f ∙ append_assoc (c ∷ w) b h)
    later h inside s e none (d ∷ a) b f = none a b (cc)

none_first : (p : ℕ → Bool) (x : ℕ) (text : List ℕ) → eqb (prefix_len p (x ∷ text)) 0 ≡ true → p x ≡ false
none_first p x text z = elim (cases_Bool (p x)) [
  | inl t ↦ absurd (let none : 1 + prefix_len p text ≡ 0 = eqb-true (1 + prefix_len p text) 0 (rw t at z) in omega (arith, none))
  | inr f ↦ f
]

pub name_stops : (text : List ℕ) → Stops (name_at text) (Told (AtByte (ByteAt is_name_byte text)))
name_stops [] = ended
name_stops (x ∷ text) = stops_if (eqb (prefix_len is_name_byte (x ∷ text)) (length (x ∷ text))) _ _ (λ e. ended) (λ e. stops_if (eqb (prefix_len is_name_byte (x ∷ text)) 0) _ _
    (λ z. byte_at is_name_byte x text (none_first is_name_byte x text z)) (λ z. stops_ok _))

pub one_white_stops : (text : List ℕ) → Stops (one_white text) (Told (AtByte (ByteAt is_white text)))
one_white_stops [] = ended
one_white_stops (x ∷ text) = stops_if (is_white x) _ _ (λ e. stops_ok text) (λ e. byte_at is_white x text e)

-- ---- white and comments

-- behind white another byte stands
pub white_ends : (text : List ℕ) (x : ℕ) (more : List ℕ) → behind_white text ≡ x ∷ more → is_white x ≡ false
white_ends [] x more e = absurd cc
white_ends (y ∷ text) x more e = elim (cases_Bool (is_white y)) [
  | inl w ↦ let one : 1 + prefix_len is_white text ≡ suc (prefix_len is_white text) = omega arith in white_ends text x more (rw (w, one) at e)
  | inr o ↦ let none : prefix_len is_white (y ∷ text) ≡ 0 = rw o refl in let same : y ∷ text ≡ x ∷ more = rw none at e in let first : x ≡ y = cc in rw first o
]

-- white and comments have ended here
pub record Standing (here : List ℕ) : Type 0 where
  pub not_white : (x : ℕ) (more : List ℕ) → here ≡ x ∷ more → is_white x ≡ false
  pub no_mark : starts_with nat_eq here (codes "<!") ≡ false

pub gives_both : {A : Type 0} {P Q : A → Type 0} (r : Result A Stop) → Gives r P → Gives r Q → Gives r (λ x. P x × Q x)
gives_both r g h = record { given = λ x e. (g.given x e, h.given x e) }

pub between_or_stands : (otherwise : List ℕ → Result (List ℕ) Stop) → ((rest : List ℕ) → Gives (otherwise rest) Standing) → (fuel : ℕ) (text : List ℕ) → Gives (between_or otherwise fuel text) Standing
between_or_stands otherwise other zero text = gives_err _
between_or_stands otherwise other (suc fuel) text =
    let here = behind_white text in
    gives_if (starts_with nat_eq here (codes "<!")) _ _
    (λ e. gives_if (starts_with nat_eq here (codes "<!-")) _ _
    (λ c. gives_bind (word (codes "<!--") here) _ (word_gives (codes "<!--") here) (λ inside opened. gives_bind (up_to (codes "-->") inside) _ (up_to_gives 45 (codes "->") inside) (λ behind closed. between_or_stands otherwise other fuel behind)))
    (λ c. other (drop 2 here)))
    (λ e. gives_ok here (record { not_white = white_ends text; no_mark = e }))

pub between_stands : (text : List ℕ) → Gives (between text) Standing
between_stands text = between_or_stands unexpected (λ rest. gives_unexpected rest) (suc (length text)) text

pub between_or_stops : {F : Fault} (otherwise : List ℕ → Result (List ℕ) Stop) (fuel : ℕ) (text : List ℕ) → ((front from here : List ℕ) → text ≡ front ++ from → IsBetween front → BrokenComment from here → F here Unexpected) →
    ((front more : List ℕ) → text ≡ front ++ (codes "<!" ++ more) → IsBetween front → starts_with nat_eq (codes "<!" ++ more) (codes "<!-") ≡ false → Stops (otherwise more) (Told F)) → Stops (between_or otherwise fuel text) (Told F)
between_or_stops {F} otherwise zero text comment other = ended
between_or_stops {F} otherwise (suc fuel) text comment other =
    let w = white_taken text in
    let here = behind_white text in
    let only_white : IsBetween w.front = (w.front ∷ [], sym (append-nil w.front), (inl w.is_white, tt)) in
    stops_if (starts_with nat_eq here (codes "<!")) _ _
    (λ e. stops_if (starts_with nat_eq here (codes "<!-")) _ _
    (λ c. stops_bind (word (codes "<!--") here) _ (broken_as _ (word_stops (codes "<!--") here) (λ h b. comment w.front here h w.text_is only_white (second_hyphen (drop 3 here) h (starts_front here (codes "<!-") c) b))) (word_gives (codes "<!--") here) (λ inside opened.
    stops_bind (up_to (codes "-->") inside) _ (broken_as _ (up_to_stops 45 (codes "->") inside) (λ h b. comment w.front here h w.text_is only_white (in_comment inside h opened b))) (up_to_gives 45 (codes "->") inside) (λ behind closed.
    let is_front : (front : List ℕ) → IsBetween front → IsBetween (w.front ++ ((codes "<!--" ++ closed.0) ++ front)) =
    λ front is. between_piece w.front ((codes "<!--" ++ closed.0) ++ front) (inl w.is_white) (between_piece (codes "<!--" ++ closed.0) front (inr (closed.0, refl, closed.2)) is) in
    between_or_stops otherwise fuel behind
    (λ front from h f is b. comment (w.front ++ ((codes "<!--" ++ closed.0) ++ front)) from h (joined text w.front here inside closed.0 behind front from w.text_is opened closed.1 f) (is_front front is) b)
    (λ front more f is n. other (w.front ++ ((codes "<!--" ++ closed.0) ++ front)) more (joined text w.front here inside closed.0 behind front (codes "<!" ++ more) w.text_is opened closed.1 f) (is_front front is) n))))
    (λ c. let whole = starts_front here (codes "<!") e in other w.front (drop 2 here) (w.text_is ∙ ap (λ (t : List ℕ). w.front ++ t) whole) only_white (subst (λ (t : List ℕ). starts_with nat_eq t (codes "<!-") ≡ false) whole c)))
    (λ e. stops_ok here)
  where
    joined : (t w h i c b f m : List ℕ) → t ≡ w ++ h → h ≡ codes "<!--" ++ i → i ≡ c ++ b → b ≡ f ++ m → t ≡ (w ++ ((codes "<!--" ++ c) ++ f)) ++ m
    joined t w h i c b f m e1 e2 e3 e4 = rw (e1, e2, e3, e4) (simp append_assoc)

-- behind white and comments a `<!` stands at which no comment does, or a comment breaks off
pub record BehindBetween (text here : List ℕ) : Type 0 where
  pub front : List ℕ
  pub from : List ℕ
  pub text_is : text ≡ front ++ from
  pub is_between : IsBetween front
  pub fault : BrokenBetween from here

no_hyphen : (x : ℕ) (more : List ℕ) → starts_with nat_eq (codes "<!" ++ x ∷ more) (codes "<!-") ≡ false → eqb 45 x ≡ false
no_hyphen x more e = elim (cases_Bool (eqb 45 x)) [ inl t ↦ absurd (let f : true ≡ false = rw t at e in cc) | inr f ↦ f ]

pub no_hyphen_here : (here : List ℕ) (x : ℕ) (more : List ℕ) → here ≡ x ∷ more → starts_with nat_eq (codes "<!" ++ here) (codes "<!-") ≡ false → OtherByte (λ b. eqb 45 b) here
no_hyphen_here here x more e s = record { byte = x; more = more; here_is = e; is_other = no_hyphen x more (rw e at s) }

pub between_stops : (text : List ℕ) → Stops (between text) (Told (AtByte (BehindBetween text)))
between_stops text = between_or_stops unexpected (suc (length text)) text
    (λ front from h e is b. record { reason_is = refl; broken = record { front = front; from = from; text_is = e; is_between = is; fault = comment_between h b } })
    (λ front more e is n. unexpected_told more (λ x m f. record { reason_is = refl; broken = record { front = front; from = codes "<!" ++ more; text_is = e; is_between = is; fault = first_hyphen more refl (no_hyphen_here more x m f n) } }))

-- ---- references

-- a reference is refused at its `&` alone, or cut short
abbrev pub AtReference : List ℕ → Stop → Type 0
AtReference from s = (s ≡ refused 0 Ended) ⊎ (s ≡ refused (length from) BadReference)

digits_stop : (is_digit : ℕ → Bool) (radix : ℕ) (from rest : List ℕ) → Stops (digits_at is_digit radix from rest) (AtReference from)
digits_stop is_digit radix from rest = stops_if (eqb (prefix_len is_digit rest) (length rest)) _ _ (λ e. stops_err (refused 0 Ended) (inl refl)) (λ e.
    stops_if (not (eqb (prefix_len is_digit rest) 0) && starts_with nat_eq (drop (prefix_len is_digit rest) rest) (codes ";") && is_character (digits_value radix (take (prefix_len is_digit rest) rest))) _ _ (λ f. stops_ok _)
    (λ f. stops_err (refused (length from) BadReference) (inr refl)))

named_stop : (from rest : List ℕ) (o : Option (List ℕ × ℕ)) → Stops (named from rest o) (AtReference from)
named_stop from rest None = stops_if (list_any (λ r. starts_with nat_eq r.0 rest) references) _ _ (λ e. stops_err (refused 0 Ended) (inl refl)) (λ e. stops_err (refused (length from) BadReference) (inr refl))
named_stop from rest (Some r) = stops_ok _

pub reference_stop : (from rest : List ℕ) → Stops (reference_at from rest) (AtReference from)
reference_stop from rest = stops_if (starts_with nat_eq rest (codes "#x")) _ _ (λ e. digits_stop is_ascii_hexdigit 16 from (drop 2 rest)) (λ e. stops_if (bytes_eq rest (codes "#")) _ _ (λ f. stops_err (refused 0 Ended) (inl refl))
    (λ f. stops_if (starts_with nat_eq rest (codes "#")) _ _ (λ g. digits_stop is_ascii_digit 10 from (drop 1 rest)) (λ g. named_stop from rest (find (λ r. starts_with nat_eq rest r.0) references))))

kept_refused : (more : List ℕ) (left : ℕ) (r r' : ValueRead (List ℕ)) (x : List ℕ × List ℕ) → Keeps (second more) Never more r r' → r ≡ Err (refused left BadReference) → r' ≡ Ok x → ⊥
kept_refused more left r r' x (goes_on y) e f = cc
kept_refused more left r r' x (ends y after h) e f = h
kept_refused more left r r' x (cut after) e f = cc
kept_refused more left r r' x (stays l reason n) e f = cc
kept_refused more left r r' x (limited l) e f = cc

no_reference : (rest : List ℕ) (left : ℕ) → reference_at (38 ∷ rest) rest ≡ Err (refused left BadReference) → NoReference (38 ∷ rest)
no_reference rest left e = record {
  rest = rest;
  here_is = refl;
  none = λ more reference bytes behind f is.
      let b = reference_back reference bytes is in
      let same : rest ++ more ≡ b.name ++ behind = tail (rest ++ more) (b.name ++ behind) (f ∙ ap (λ (t : List ℕ). t ++ behind) b.text_is) in
      kept_refused more left (reference_at (38 ∷ rest) rest) (reference_at (38 ∷ (rest ++ more)) (rest ++ more)) (bytes, behind) (reference_keeps (38 ∷ rest) rest more) e
      (ap (λ (t : List ℕ). reference_at (38 ∷ (rest ++ more)) t) same ∙ b.read (38 ∷ (rest ++ more)) behind);
}
  where
    tail : (a b : List ℕ) → 38 ∷ a ≡ 38 ∷ b → a ≡ b
    tail a b e = cc

-- the reference in front is none
pub record RefusedHere (whole here : List ℕ) (reason : NzbReason) : Type 0 where
  pub here_is : here ≡ whole
  pub no_reference : NoReference whole
  pub reason_is : reason ≡ BadReference

pub reference_stops : (x : ℕ) (rest : List ℕ) → x ≡ 38 → Stops (reference_at (x ∷ rest) rest) (Told (RefusedHere (x ∷ rest)))
reference_stops x rest amp = rw amp (record { stopped = λ s e. go s e ((reference_stop (38 ∷ rest) rest).stopped s e) })
  where
    as_error : Stop → ValueRead (List ℕ)
    as_error s = Err s

    go : (s : Stop) → reference_at (38 ∷ rest) rest ≡ Err s → AtReference (38 ∷ rest) s → Told (RefusedHere (38 ∷ rest)) s
    go s e (inl i) = subst (Told (RefusedHere (38 ∷ rest))) (sym i) (record { row = λ t. absurd cc })
    go s e (inr i) = subst (Told (RefusedHere (38 ∷ rest))) (sym i)
        (told_here (38 ∷ rest) BadReference (record { here_is = refl; no_reference = no_reference rest (length (38 ∷ rest)) (e ∙ ap (λ (t : Stop). as_error t) i); reason_is = refl }))

pub front_stops : {P : Stop → Type 0} (front : List ℕ) (found : ValueRead (List ℕ)) → Stops found P → Stops (with_front front found) P
front_stops {P} front found s = stops_then found _ s (λ x. stops_ok _)
