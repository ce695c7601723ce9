-- How the replies of a list of bytes go on when more is heard, or more is asked.
use Rattle.std.proofs.Common.{◌≡◌, ℕ, List, [], ◌∷◌, ◌++◌, Option, Some, None, refl, ap, sym, subst, ◌∙◌, append_assoc}
use Rattle.link_dialog.specs.Reading.{ends_here, shortest_from, RepliesRead, with_replies, read_found, reading_of}

-- an `Option` by its cases, each with its equation
pub by_cases : {A G : Type 0} (o : Option A) → ((x : A) → o ≡ Some x → G) → (o ≡ None → G) → G
by_cases (Some x) some none = some x refl
by_cases None some none = none refl

-- what is whole is found at once
pub found_at_once : {R : Type 0} (whole : List ℕ → Option R) (before after : List ℕ) (reply : R) → whole before ≡ Some reply → shortest_from whole before after ≡ Some (reply, after)
found_at_once whole before [] reply is = rw is refl
found_at_once whole before (byte ∷ after) reply is = rw is refl

-- what isn't whole is passed over
pub found_later : {R : Type 0} (whole : List ℕ → Option R) (before : List ℕ) (byte : ℕ) (after : List ℕ) → whole before ≡ None → shortest_from whole before (byte ∷ after) ≡ shortest_from whole (before ++ byte ∷ []) after
found_later whole before byte after is = rw is refl

-- a front that is found at once stays the shortest
stays_at_once : {R : Type 0} (whole : List ℕ → Option R) (before after more : List ℕ) (found : R × List ℕ) (reply : R) → whole before ≡ Some reply → shortest_from whole before after ≡ Some found → shortest_from whole before (after ++ more) ≡ Some (found.0, found.1 ++ more)
stays_at_once {R = R} whole before after more found reply now is =
    let here : Some (reply, after) ≡ Some found = sym (found_at_once whole before after reply now) ∙ is in
    let same : (reply, after) ≡ found = cc in
    found_at_once whole before (after ++ more) reply now ∙ ap (λ (f : R × List ℕ). Some (f.0, f.1 ++ more)) same

-- a front that was found stays the shortest
pub found_stays : {R : Type 0} (whole : List ℕ → Option R) (before after more : List ℕ) (found : R × List ℕ) → shortest_from whole before after ≡ Some found → shortest_from whole before (after ++ more) ≡ Some (found.0, found.1 ++ more)
found_stays whole before [] more found is = by_cases (whole before) (λ reply now. stays_at_once whole before [] more found reply now is) (λ now. let none : None ≡ Some found = rw now at is in cc)
found_stays whole before (byte ∷ after) more found is =
    by_cases (whole before) (λ reply now. stays_at_once whole before (byte ∷ after) more found reply now is)
    (λ now. found_later whole before byte (after ++ more) now ∙ found_stays whole (before ++ byte ∷ []) after more found (sym (found_later whole before byte after now) ∙ is))

-- a kind whose reply is whole, and one whose reply is not
pub read_some : {K R : Type 0} (whole : K → List ℕ → Option R) (kind : K) (kinds : List K) (bytes : List ℕ) (found : R × List ℕ) → shortest_from (whole kind) [] bytes ≡ Some found → reading_of whole (kind ∷ kinds) bytes ≡ with_replies (found.0 ∷ []) (reading_of whole kinds found.1)
read_some whole kind kinds bytes found is = ap (λ o. read_found o (λ after. reading_of whole kinds after) (kind ∷ kinds) bytes) is

pub read_none : {K R : Type 0} (whole : K → List ℕ → Option R) (kind : K) (kinds : List K) (bytes : List ℕ) → shortest_from (whole kind) [] bytes ≡ None → reading_of whole (kind ∷ kinds) bytes ≡ record { replies = []; waiting = kind ∷ kinds; rest = bytes }
read_none whole kind kinds bytes is = ap (λ o. read_found o (λ after. reading_of whole kinds after) (kind ∷ kinds) bytes) is

-- what is read of more bytes by more kinds, after a reading of the first bytes by the first kinds
abbrev pub resumed : {K R : Type 0} → (K → List ℕ → Option R) → RepliesRead K R → List K → List ℕ → RepliesRead K R
resumed whole reading kinds more = with_replies reading.replies (reading_of whole (reading.waiting ++ kinds) (reading.rest ++ more))

-- more bytes and more kinds: what was read stays, and the rest is read on
pub read_on : {K R : Type 0} (whole : K → List ℕ → Option R) (kinds more_kinds : List K) (bytes more : List ℕ) → reading_of whole (kinds ++ more_kinds) (bytes ++ more) ≡ resumed whole (reading_of whole kinds bytes) more_kinds more
read_on whole [] more_kinds bytes more = refl
read_on {K = K} {R = R} whole (kind ∷ kinds) more_kinds bytes more =
    by_cases (shortest_from (whole kind) [] bytes)
    (λ found is.
    read_some whole kind (kinds ++ more_kinds) (bytes ++ more) (found.0, found.1 ++ more) (found_stays (whole kind) [] bytes more found is)
    ∙ ap (λ (m : RepliesRead K R). with_replies (found.0 ∷ []) m) (read_on whole kinds more_kinds found.1 more)
    ∙ ap (λ (m : RepliesRead K R). resumed whole m more_kinds more) (sym (read_some whole kind kinds bytes found is)))
    (λ none. ap (λ (m : RepliesRead K R). resumed whole m more_kinds more) (sym (read_none whole kind kinds bytes none)))

-- one more byte, where nothing is whole yet: only all of it can be
pub found_last : {R : Type 0} (whole : List ℕ → Option R) (before after : List ℕ) (byte : ℕ) → shortest_from whole before after ≡ None → shortest_from whole before (after ++ byte ∷ []) ≡ ends_here (whole (before ++ (after ++ byte ∷ []))) []
found_last whole before [] byte none =
    by_cases (whole before) (λ reply now. let some : Some (reply, []) ≡ None = rw now at none in cc)
    (λ now. found_later whole before byte [] now)
found_last whole before (first ∷ after) byte none =
    by_cases (whole before) (λ reply now. let some : Some (reply, first ∷ after) ≡ None = sym (found_at_once whole before (first ∷ after) reply now) ∙ none in cc)
    (λ now. found_later whole before first (after ++ byte ∷ []) now
    ∙ found_last whole (before ++ first ∷ []) after byte (sym (found_later whole before first after now) ∙ none)
    ∙ ap (λ bytes. ends_here (whole bytes) []) (append_assoc before (first ∷ []) (after ++ byte ∷ [])))

-- the rest holds no reply of the kind that is awaited
pub rest_settled : {K R : Type 0} (whole : K → List ℕ → Option R) (kinds : List K) (bytes : List ℕ) → reading_of whole (reading_of whole kinds bytes).waiting (reading_of whole kinds bytes).rest ≡ record { replies = []; waiting = (reading_of whole kinds bytes).waiting; rest = (reading_of whole kinds bytes).rest }
rest_settled whole [] bytes = refl
rest_settled {K = K} {R = R} whole (kind ∷ kinds) bytes =
    let P : RepliesRead K R → Type 0 = λ m. reading_of whole m.waiting m.rest ≡ record { replies = []; waiting = m.waiting; rest = m.rest } in
    by_cases (shortest_from (whole kind) [] bytes)
    (λ found is. subst P (sym (read_some whole kind kinds bytes found is)) (rest_settled whole kinds found.1))
    (λ none. subst P (sym (read_none whole kind kinds bytes none)) (read_none whole kind kinds bytes none))

-- so no front of it is whole
pub rest_has_none : {K R : Type 0} (whole : K → List ℕ → Option R) (kind : K) (kinds : List K) (rest : List ℕ) → reading_of whole (kind ∷ kinds) rest ≡ record { replies = []; waiting = kind ∷ kinds; rest = rest } → shortest_from (whole kind) [] rest ≡ None
rest_has_none {K = K} {R = R} whole kind kinds rest settled =
    by_cases (shortest_from (whole kind) [] rest)
    (λ found is. let two : found.0 ∷ (reading_of whole kinds found.1).replies ≡ [] = ap (λ (m : RepliesRead K R). m.replies) (sym (read_some whole kind kinds rest found is) ∙ settled) in cc)
    (λ none. none)
